-- What whole events on numbers give.
use Rattle.std.proofs.Common.{◌≡◌, ◌∙◌, refl, sym, ap, ap₂, subst, ℕ, ◌≤◌, ℤ, List, [], ◌∷◌, ◌++◌, length}
use Rattle.checked_memory.specs.declared.values.Cell.{Cell}
use Rattle.checked_memory.specs.declared.values.Value.{Value as Held}
use Rattle.checked_memory.specs.declared.values.Value.TheVariants.{Int, Null, Made, Block}
use Rattle.cc_base.specs.Forms.{Form as PlainForm}
use Rattle.cc_model.specs.declared.terms.TermKind.{TermKind}
use Rattle.cc_model.specs.Core.{Op}
use Rattle.cc_model.specs.Domain.{act_arith, act_negate, act_index}
use Rattle.cc_model.specs.Plain as plain
use Rattle.cc_model.specs.Plain.{num, number_of}
use Rattle.cc_model.specs.Traced as traced
use Rattle.cc_model.specs.Traced.{Traced, Shadow, form, none, fit_asked, formed_of, negated_of, index_asked, shadow_of}
use Rattle.cc_laws.specs.LinearForms.{linear}
use Rattle.sym_run.specs.declared.symbols.Symbol.{Symbol}
use Rattle.sym_run.specs.declared.symbols.Symbol.TheVariants.{Form}
use Rattle.sym_run.specs.declared.operations.Formed.{Formed}
use Rattle.sym_run.specs.declared.operations.Formed.TheVariants.{PlainNumber, Linear, Termed}
use Rattle.sym_run.specs.Beside.{IsCell, IsValue, traced_of, value_of, unsymbolic}
use Rattle.sym_run.specs.Numbers.{IsWord, IsPointer, form_at, formed_seen, numbered}
use Rattle.sym_run.proofs.Appended.{shadow_last}

abbrev pub number_cell : ℤ → ℕ → Cell
number_cell z n = record { value = Int z; shadow = n }

abbrev pub bare_cell : Held → Cell
bare_cell v = record { value = v; shadow = 0 }

traced_parts : (v w : plain.Value) (s t : Shadow) → v ≡ w → s ≡ t → (let a : Traced = record { plain = v; shadow = s } in a) ≡ (let b : Traced = record { plain = w; shadow = t } in b)
traced_parts v w s t p q = ap₂ (λ (x : plain.Value) (y : Shadow). let a : Traced = record { plain = x; shadow = y } in a) p q

plain_seen : (l : List Symbol) (z : ℤ) → traced_of l (number_cell z 0) ≡ numbered (formed_seen PlainNumber) z
unfolding shadow_of number_of
plain_seen l z = refl

termed_seen : (l : List Symbol) (k : TermKind) (z : ℤ) → traced_of l (number_cell z 0) ≡ numbered (formed_seen (Termed k)) z
unfolding shadow_of number_of
termed_seen l k z = refl

linear_seen : (l : List Symbol) (g : PlainForm) (z : ℤ) (n : ℕ) → n ≡ length (l ++ Form g ∷ []) → traced_of (l ++ Form g ∷ []) (number_cell z n) ≡ numbered (formed_seen (Linear g)) z
unfolding shadow_of
linear_seen l g z n e = traced_parts (num z) (num z) _ (form g) refl (shadow_last l (Form g) n (num z) e)

same_number : (l : List Symbol) (f h : Formed) (y z : ℤ) (n : ℕ) → y ≡ z → f ≡ h → traced_of l (number_cell z n) ≡ numbered (formed_seen h) z → traced_of l (number_cell y n) ≡ numbered (formed_seen f) z
same_number l f h y z n p q e =
    ap (λ (x : ℤ). traced_of l (number_cell x n)) p ∙ e ∙ ap (λ (k : Formed). numbered (formed_seen k) z) (sym q)

pub plain_cell : (l : List Symbol) (f : Formed) (y z : ℤ) → y ≡ z → f ≡ PlainNumber → traced_of l (number_cell y 0) ≡ numbered (formed_seen f) z
plain_cell l f y z p q = same_number l f PlainNumber y z 0 p q (plain_seen l z)

pub termed_cell : (l : List Symbol) (f : Formed) (k : TermKind) (y z : ℤ) → y ≡ z → f ≡ Termed k → traced_of l (number_cell y 0) ≡ numbered (formed_seen f) z
termed_cell l f k y z p q = same_number l f (Termed k) y z 0 p q (termed_seen l k z)

pub linear_cell : (l new : List Symbol) (f : Formed) (g : PlainForm) (y z : ℤ) (n : ℕ) → y ≡ z → f ≡ Linear g → new ≡ l ++ Form g ∷ [] → n ≡ length new → traced_of new (number_cell y n) ≡ numbered (formed_seen f) z
linear_cell l new f g y z n p q r s =
    same_number new f (Linear g) y z n p q (subst (λ (m : List Symbol). traced_of m (number_cell z n) ≡ numbered (formed_seen (Linear g)) z) (sym r) (linear_seen l g z n (s ∙ ap (λ (m : List Symbol). length m) r)))

-- ---- what is asked

pub arith_asks : (o : Op) (l : List Symbol) (a b : Cell) (x : traced.Asked) (f : traced.Formed) → x ≡ fit_asked linear f → f ≡ formed_of linear o (form_at l a) (form_at l b) → (d : traced.Data) → x ≡ traced.asked_of linear (act_arith o (traced_of l a) (traced_of l b)) d
unfolding traced.asked_of
arith_asks o l a b x f p q d = p ∙ ap (fit_asked linear) q

pub negate_asks : (l : List Symbol) (a : Cell) (x : traced.Asked) (f : traced.Formed) → x ≡ fit_asked linear f → f ≡ negated_of linear (form_at l a) → (d : traced.Data) → x ≡ traced.asked_of linear (act_negate (traced_of l a)) d
unfolding traced.asked_of
negate_asks l a x f p q d = p ∙ ap (fit_asked linear) q

pub index_asks : (l : List Symbol) (p i : Cell) (n w : ℕ) (x : traced.Asked) → x ≡ index_asked linear (form_at l i) → (d : traced.Data) → x ≡ traced.asked_of linear (act_index (traced_of l p) (traced_of l i) n w) d
unfolding traced.asked_of
index_asks l p i n w x e d = e

-- ---- cells

pub word_cell : (new : List Symbol) (c : Cell) (y : ℤ) → c.value ≡ Int y → c.shadow ≤ length new → IsWord y → IsCell new c
word_cell new c y e k w = record { known = k; value = subst (λ (v : Held). IsValue v) (sym e) w }

-- nothing stands beside a pointer that was moved on
bare_offset : (v : Held) (k : ℕ) → IsPointer v → unsymbolic (plain.offset (value_of v) k) ≡ none
unfolding plain.offset
bare_offset (Int z) k h = absurd h
bare_offset Null k h = refl
bare_offset (Made n c) k h = refl
bare_offset (Block a c) k h = refl

pub offset_cell : (l : List Symbol) (p : Cell) (v : Held) (k : ℕ) → value_of v ≡ plain.offset (value_of p.value) k → IsPointer p.value → traced_of l (bare_cell v) ≡ traced.offset (traced_of l p) k
unfolding traced.offset
offset_cell l p v k e h = traced_parts (value_of v) (plain.offset (value_of p.value) k) (unsymbolic (value_of v)) none e (ap unsymbolic e ∙ bare_offset p.value k h)
