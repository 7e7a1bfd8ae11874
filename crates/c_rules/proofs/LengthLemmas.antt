-- What is said of lengths, from an index on.
use Rattle.std.proofs.Common.{◌≡◌, ◌∙◌, sym, ap, ℕ, ◌≤◌, List, ◌++◌, drop, length, append-nil}
use Rattle.std.proofs.lemmas.List.{drop_all}
use Rattle.cc_model.specs.declared.trees.Length.{Length}
use Rattle.cc_model.specs.declared.typing.Note.{Note}
use Rattle.cc_model.specs.Faults.{length_notes}

pub lengths_all : (l : List Length) (k : ℕ) (n r : List Note) → length l ≤ k → n ++ length_notes (drop k l) ≡ r → n ≡ r
lengths_all l k n r h i = sym (append-nil n) ∙ ap (λ (d : List Length). n ++ length_notes d) (sym (drop_all k l h)) ∙ i
