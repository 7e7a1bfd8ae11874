-- What stands before ` after ` and a path.
use Rattle.std.proofs.Common.{◌≡◌, ◌∙◌, sym, ap, ap₂, refl, ℕ, List, ◌∷◌, ◌++◌, codes, arith, append_assoc}
use Rattle.cc_base.specs.Paths.{Path, path_text}
use Rattle.report_words.specs.Cuts.{Lacks, CutLast}
use Rattle.report_words.specs.Words.{IsPath}
use Rattle.report_words.proofs.Cutting.{has_none, lacks_by_test, last_once, no_last}
use Rattle.report_words.proofs.Texts.{lacks_path}
use Rattle.replay.specs.Reading.{IsBefore}

-- ---- a last word `after`

after_cut : (text before : List ℕ) → text ≡ before ++ codes " after" → CutLast 32 text before (codes "after")
unfolding has_none
after_cut text before e = record { is = e; last = lacks_by_test 32 (codes "after") refl }

pub after_read : (text before behind : List ℕ) → CutLast 32 text before behind → behind ≡ codes "after" → text ≡ before ++ codes " after"
after_read text before behind c e = c.is ∙ ap (λ w. before ++ 32 ∷ w) e

pub after_once : (text before behind other : List ℕ) → CutLast 32 text before behind → text ≡ other ++ codes " after" → (before ≡ other) × (behind ≡ codes "after")
after_once text before behind other c e = last_once 32 text before behind other (codes "after") c (after_cut text other e)

pub after_has : (text other : List ℕ) → Lacks 32 text → text ≡ other ++ codes " after" → ⊥
after_has text other l e = no_last 32 text other (codes "after") l (after_cut text other e)

-- ---- and a path

shape : (a b : List ℕ) → a ++ codes " after " ++ b ≡ (a ++ codes " after") ++ 32 ∷ b
shape a b = ap (λ t. t ++ b) (sym (append_assoc a (codes " after") (codes " "))) ∙ append_assoc (a ++ codes " after") (codes " ") b

before_cut : (text before : List ℕ) (q : Path) → IsBefore text before q → CutLast 32 text (before ++ codes " after") (path_text q)
before_cut text before q h = record { is = h.is ∙ shape before (path_text q); last = lacks_path 32 q (omega arith) }

pub before_read : (text a behind before : List ℕ) (q : Path) → CutLast 32 text a behind → IsPath behind q → a ≡ before ++ codes " after" → IsBefore text before q
before_read text a behind before q c h e = record { is = c.is ∙ ap₂ (λ x y. x ++ 32 ∷ y) e h.text ∙ sym (shape before (path_text q)); bytes = h.has }

-- the parts of a text that ends so
pub record EndsSo (a behind before : List ℕ) (q : Path) : Type 0 where
  pub after : a ≡ before ++ codes " after"
  pub path : IsPath behind q

pub before_once : (text a behind before : List ℕ) (q : Path) → CutLast 32 text a behind → IsBefore text before q → EndsSo a behind before q
before_once text a behind before q c h =
    let r = last_once 32 text a behind (before ++ codes " after") (path_text q) c (before_cut text before q h) in
    record { after = r.0; path = record { text = r.1; has = h.bytes } }

pub before_has : (text before : List ℕ) (q : Path) → Lacks 32 text → IsBefore text before q → ⊥
before_has text before q l h = no_last 32 text (before ++ codes " after") (path_text q) l (before_cut text before q h)
