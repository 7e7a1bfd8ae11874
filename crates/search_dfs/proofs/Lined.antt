-- One line that is written and counted.
use Rattle.std.proofs.Common.{◌≡◌, ◌≤◌, ℕ, List, [], ◌∷◌, Option, inl, inr, refl, sym, ap, ◌∙◌, subst, append-nil}
use Rattle.cc_base.specs.Paths.{In}
use Rattle.cc_model.specs.Listing.{Item}
use Rattle.cc_model.specs.Report.{item_line, item_lines}
use Rattle.cc_outside.specs.Told.{appended, WritesPart}
use Rattle.cc_outside.proofs.ToldLemmas.{WritesPart-none, WritesPart-first}
use Rattle.search_dfs.specs.declared.tally.Tally.{Tally}
use Rattle.search_base.specs.Readable.{CanBeRead}
use Rattle.search_dfs.specs.Output.{out, Tallied, Wrote, WroteSome}
use Rattle.search_base.specs.Setting.{Setting}

module _ (p : Setting) (x : Item) (line : List ℕ) (e : line ≡ item_line x) (old new : Option (List ℕ)) (f g : ℕ) (t u : Tally) where
  one_few : CanBeRead x → (z : Item) → In z (x ∷ []) → CanBeRead z
  one_few h z (inl i) = subst CanBeRead (sym i) h
  one_few h z (inr i) = absurd i

  pub line_wrote : CanBeRead x → new ≡ appended old line → f ≤ g → Tallied p (x ∷ []) t u → Wrote p (x ∷ []) (out old f t) (out new g u)
  line_wrote c w h k = record { bytes = w ∙ ap (appended old) (e ∙ sym (append-nil (item_line x))); faults = h; tally = k; few = one_few c }

  pub line_some : WritesPart old new line → WroteSome p (x ∷ []) (out old f t) (out new g u)
  line_some w = WritesPart-first old new (item_line x) [] (subst (WritesPart old new) e w)

pub nothing_some : (e : List Item) (old : Option (List ℕ)) → WritesPart old old (item_lines e)
nothing_some e old = WritesPart-none old old (item_lines e) refl
