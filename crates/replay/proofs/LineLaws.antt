-- What a line is, by its first word.
use Rattle.std.proofs.Common.{◌≡◌, ◌∙◌, sym, ap, ap₂, refl, subst, ℕ, List, ◌∷◌, ◌++◌, codes, Result, Ok, Err, IfOk}
use Rattle.cc_base.specs.declared.inputs.Input.{Input}
use Rattle.cc_base.specs.declared.inputs.Test.{Test}
use Rattle.cc_base.specs.Inputs.{map_text, test_text}
use Rattle.cc_base.specs.Limits.{Limits}
use Rattle.cc_base.specs.Paths.{Path, path_text}
use Rattle.cc_model.specs.Core.{Program}
use Rattle.cc_model.specs.Report.{newline}
use Rattle.report_words.specs.Cuts.{Lacks, CutFirst}
use Rattle.report_words.proofs.Cutting.{has_none, lacks_by_test, first_once, stands}
use Rattle.replay.specs.declared.line.Line.{Line}
use Rattle.replay.specs.declared.line.Line.TheVariants as of
use Rattle.replay.specs.Forms.{IsOther}
use Rattle.replay.specs.Lines.{IsLine, test, past, stray, unrun, other}
use Rattle.replay.specs.Reading.{Tells, IsStray, IsUnrun}
use Rattle.input_map.specs.TestTexts.{IsTestText}
use Rattle.replay.proofs.FormLaws.{apart, IsNoFirst, not_other, no_test, no_past, no_stray, no_unrun, other_has_blank}
use Rattle.replay.proofs.Shapes.{cancel}

module _ (p : Program) (b : Limits) where
  pub data Told (line first rest : List ℕ) : Line → Type 0 where
    as_test : (t : Test) → first ≡ codes "test" → IsTestText p b rest t → Told line first rest (of.Test t)
    as_past : (t : Test) → first ≡ codes "past" → IsTestText p b rest t → Told line first rest (of.Test t)
    as_stray : (t : Test) → first ≡ codes "stray" → IsStray p b rest t → Told line first rest (of.Test t)
    as_unrun : first ≡ codes "unrun" → IsUnrun p b rest → Told line first rest of.Other
    as_other : IsOther line → Told line first rest of.Other

  test_line_is : (line : List ℕ) (t : Test) → line ++ newline ≡ codes "test " ++ test_text t ++ newline → line ≡ codes "test" ++ 32 ∷ test_text t
  test_line_is line t e = cancel line (codes "test " ++ test_text t) e

  past_line_is : (line : List ℕ) (t : Test) → line ++ newline ≡ codes "past " ++ test_text t ++ newline → line ≡ codes "past" ++ 32 ∷ test_text t
  past_line_is line t e = cancel line (codes "past " ++ test_text t) e

  stray_line_is : (line : List ℕ) (t : Test) (q : Path) → line ++ newline ≡ codes "stray " ++ test_text t ++ codes " after " ++ path_text q ++ newline →
      line ≡ codes "stray" ++ 32 ∷ (test_text t ++ codes " after " ++ path_text q)
  stray_line_is line t q e = cancel line (codes "stray " ++ test_text t ++ codes " after " ++ path_text q) e

  unrun_line_is : (line : List ℕ) (i : Input) (q : Path) → line ++ newline ≡ codes "unrun " ++ map_text i ++ codes " after " ++ path_text q ++ newline →
      line ≡ codes "unrun" ++ 32 ∷ (map_text i ++ codes " after " ++ path_text q)
  unrun_line_is line i q e = cancel line (codes "unrun " ++ map_text i ++ codes " after " ++ path_text q) e

  pub told : (line first rest : List ℕ) (l : Line) → CutFirst 32 line first rest → IsLine p b line l → Told line first rest l
  unfolding has_none
  told line first rest _ c (test t w g) =
      let r = first_once 32 line first rest (codes "test") (test_text t) c (record { is = test_line_is line t w; first = lacks_by_test 32 (codes "test") refl }) in
      as_test t r.0 (record { written = r.1; good = g })
  told line first rest _ c (past t w g) =
      let r = first_once 32 line first rest (codes "past") (test_text t) c (record { is = past_line_is line t w; first = lacks_by_test 32 (codes "past") refl }) in
      as_past t r.0 (record { written = r.1; good = g })
  told line first rest _ c (stray t q w g h) =
      let r = first_once 32 line first rest (codes "stray") (test_text t ++ codes " after " ++ path_text q) c (record { is = stray_line_is line t q w; first = lacks_by_test 32 (codes "stray") refl }) in
      as_stray t r.0 (test_text t, q, record { is = r.1; bytes = h }, record { written = refl; good = g })
  told line first rest _ c (unrun i q w g h) =
      let r = first_once 32 line first rest (codes "unrun") (map_text i ++ codes " after " ++ path_text q) c (record { is = unrun_line_is line i q w; first = lacks_by_test 32 (codes "unrun") refl }) in
      as_unrun r.0 (map_text i, q, record { is = r.1; bytes = h }, (i, refl, g))
  told line first rest _ c (other o) = as_other o

  -- a line has a blank
  pub has_blank : (line : List ℕ) (l : Line) → Lacks 32 line → IsLine p b line l → ⊥
  has_blank line _ k (test t w g) = stands 32 (codes "test") (test_text t) (subst (λ x. Lacks 32 x) (test_line_is line t w) k)
  has_blank line _ k (past t w g) = stands 32 (codes "past") (test_text t) (subst (λ x. Lacks 32 x) (past_line_is line t w) k)
  has_blank line _ k (stray t q w g h) = stands 32 (codes "stray") (test_text t ++ codes " after " ++ path_text q) (subst (λ x. Lacks 32 x) (stray_line_is line t q w) k)
  has_blank line _ k (unrun i q w g h) = stands 32 (codes "unrun") (map_text i ++ codes " after " ++ path_text q) (subst (λ x. Lacks 32 x) (unrun_line_is line i q w) k)
  has_blank line _ k (other o) = other_has_blank line k o

  -- ---- the lines of what is read

  pub test_is : (line first rest : List ℕ) (t : Test) → CutFirst 32 line first rest → first ≡ codes "test" → IsTestText p b rest t → IsLine p b line (of.Test t)
  test_is line first rest t c e h = test t (ap (λ l. l ++ newline) (c.is ∙ ap₂ (λ x y. x ++ 32 ∷ y) e h.written)) h.good

  pub past_is : (line first rest : List ℕ) (t : Test) → CutFirst 32 line first rest → first ≡ codes "past" → IsTestText p b rest t → IsLine p b line (of.Test t)
  past_is line first rest t c e h = past t (ap (λ l. l ++ newline) (c.is ∙ ap₂ (λ x y. x ++ 32 ∷ y) e h.written)) h.good

  pub stray_is : (line first rest : List ℕ) (t : Test) → CutFirst 32 line first rest → first ≡ codes "stray" → IsStray p b rest t → IsLine p b line (of.Test t)
  stray_is line first rest t c e (before, q, h, k) =
      stray t q (ap (λ l. l ++ newline) (c.is ∙ ap₂ (λ x y. x ++ 32 ∷ y) e (h.is ∙ ap (λ z. z ++ codes " after " ++ path_text q) k.written))) k.good h.bytes

  pub unrun_is : (line first rest : List ℕ) → CutFirst 32 line first rest → first ≡ codes "unrun" → IsUnrun p b rest → IsLine p b line of.Other
  unrun_is line first rest c e (before, q, h, (i, w, g)) =
      unrun i q (ap (λ l. l ++ newline) (c.is ∙ ap₂ (λ x y. x ++ 32 ∷ y) e (h.is ∙ ap (λ z. z ++ codes " after " ++ path_text q) w))) g h.bytes

  -- ---- what is told of each first word

  no_form : (line first rest k : List ℕ) → CutFirst 32 line first rest → first ≡ k → IsNoFirst k → IsOther line → ⊥
  no_form line first rest k c e n o = not_other k line rest n (subst (λ x. CutFirst 32 line x rest) e c) o

  pub test_only : {E : Type 0} (line first rest : List ℕ) (r : Result Line E) → CutFirst 32 line first rest → first ≡ codes "test" →
      ((t : Test) → IsTestText p b rest t → IfOk r (λ x. x ≡ of.Test t)) → (l : Line) → IsLine p b line l → IfOk r (λ x. x ≡ l)
  test_only line first rest r c e only l h = by l (told line first rest l c h)
    where
      by : (l : Line) → Told line first rest l → IfOk r (λ x. x ≡ l)
      by _ (as_test t f k) = only t k
      by _ (as_past t f k) = absurd (apart (codes "test") (codes "past") refl (sym e ∙ f))
      by _ (as_stray t f k) = absurd (apart (codes "test") (codes "stray") refl (sym e ∙ f))
      by _ (as_unrun f k) = absurd (apart (codes "test") (codes "unrun") refl (sym e ∙ f))
      by _ (as_other o) = absurd (no_form line first rest (codes "test") c e no_test o)

  pub past_only : {E : Type 0} (line first rest : List ℕ) (r : Result Line E) → CutFirst 32 line first rest → first ≡ codes "past" →
      ((t : Test) → IsTestText p b rest t → IfOk r (λ x. x ≡ of.Test t)) → (l : Line) → IsLine p b line l → IfOk r (λ x. x ≡ l)
  past_only line first rest r c e only l h = by l (told line first rest l c h)
    where
      by : (l : Line) → Told line first rest l → IfOk r (λ x. x ≡ l)
      by _ (as_test t f k) = absurd (apart (codes "past") (codes "test") refl (sym e ∙ f))
      by _ (as_past t f k) = only t k
      by _ (as_stray t f k) = absurd (apart (codes "past") (codes "stray") refl (sym e ∙ f))
      by _ (as_unrun f k) = absurd (apart (codes "past") (codes "unrun") refl (sym e ∙ f))
      by _ (as_other o) = absurd (no_form line first rest (codes "past") c e no_past o)

  pub stray_only : {E : Type 0} (line first rest : List ℕ) (r : Result Line E) → CutFirst 32 line first rest → first ≡ codes "stray" →
      ((t : Test) → IsStray p b rest t → IfOk r (λ x. x ≡ of.Test t)) → (l : Line) → IsLine p b line l → IfOk r (λ x. x ≡ l)
  stray_only line first rest r c e only l h = by l (told line first rest l c h)
    where
      by : (l : Line) → Told line first rest l → IfOk r (λ x. x ≡ l)
      by _ (as_test t f k) = absurd (apart (codes "stray") (codes "test") refl (sym e ∙ f))
      by _ (as_past t f k) = absurd (apart (codes "stray") (codes "past") refl (sym e ∙ f))
      by _ (as_stray t f k) = only t k
      by _ (as_unrun f k) = absurd (apart (codes "stray") (codes "unrun") refl (sym e ∙ f))
      by _ (as_other o) = absurd (no_form line first rest (codes "stray") c e no_stray o)

  pub unrun_only : {E : Type 0} (line first rest : List ℕ) (r : Result Line E) → CutFirst 32 line first rest → first ≡ codes "unrun" →
      (IsUnrun p b rest → IfOk r (λ x. x ≡ of.Other)) → (l : Line) → IsLine p b line l → IfOk r (λ x. x ≡ l)
  unrun_only line first rest r c e only l h = by l (told line first rest l c h)
    where
      by : (l : Line) → Told line first rest l → IfOk r (λ x. x ≡ l)
      by _ (as_test t f k) = absurd (apart (codes "unrun") (codes "test") refl (sym e ∙ f))
      by _ (as_past t f k) = absurd (apart (codes "unrun") (codes "past") refl (sym e ∙ f))
      by _ (as_stray t f k) = absurd (apart (codes "unrun") (codes "stray") refl (sym e ∙ f))
      by _ (as_unrun f k) = only k
      by _ (as_other o) = absurd (no_form line first rest (codes "unrun") c e no_unrun o)

  pub other_only : {E : Type 0} (line first rest : List ℕ) (r : Result Line E) → CutFirst 32 line first rest →
      (first ≡ codes "test" → ⊥) × (first ≡ codes "past" → ⊥) × (first ≡ codes "stray" → ⊥) × (first ≡ codes "unrun" → ⊥) →
      (IsOther line → IfOk r (λ x. x ≡ of.Other)) → (l : Line) → IsLine p b line l → IfOk r (λ x. x ≡ l)
  other_only line first rest r c n only l h = by l (told line first rest l c h)
    where
      by : (l : Line) → Told line first rest l → IfOk r (λ x. x ≡ l)
      by _ (as_test t f k) = absurd (n.0 f)
      by _ (as_past t f k) = absurd (n.1 f)
      by _ (as_stray t f k) = absurd (n.2 f)
      by _ (as_unrun f k) = absurd (n.3 f)
      by _ (as_other o) = only o

-- what is told of more
tells : (P R : Test → Type 0) (Q S : Type 0) → ((t : Test) → P t → R t) → (Q → S) → (l : Line) → Tells P Q l → Tells R S l
tells P R Q S f g (of.Test t) h = f t h
tells P R Q S f g of.Other h = g h
tells P R Q S f g of.Bad h = tt

pub if_tells : {E : Type 0} (P R : Test → Type 0) (Q S : Type 0) (r : Result Line E) → ((t : Test) → P t → R t) → (Q → S) → IfOk r (λ l. Tells P Q l) → IfOk r (λ l. Tells R S l)
if_tells P R Q S (Ok l) f g h = tells P R Q S f g l h
if_tells P R Q S (Err e) f g h = tt
