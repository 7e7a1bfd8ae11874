-- The traced run's events on numbers, by what stands in cells.
use Rattle.std.proofs.Common.{◌≡◌, refl, ℕ, ◌*◌, pos, neg_ℤ, List, if◌then◌else◌, sym, subst}
use Rattle.cc_base.specs.declared.outcomes.Outcome.{Outcome}
use Rattle.cc_base.specs.declared.outcomes.Outcome.TheVariants.{Zero, Plain}
use Rattle.checked_memory.specs.declared.values.Cell.{Cell as Held}
use Rattle.cc_model.specs.Core.{Op, Cell, Cmp}
use Rattle.cc_model.specs.Domain.{Act, act_arith, act_divisor, act_negate, act_index, Acted}
use Rattle.cc_model.specs.Plain as plain
use Rattle.cc_model.specs.Plain.{apply, fitting, fit_of, int_eq, index_of, nat_of}
use Rattle.cc_model.specs.Traced as traced
use Rattle.cc_model.specs.Traced.{Traced, Data, Event, Shadow, none, formed_of, negated_of, form}
use Rattle.cc_base.specs.Forms.{Form}
use Rattle.cc_laws.specs.LinearForms.{linear}
use Rattle.sym_run.specs.declared.symbols.Symbol.{Symbol}
use Rattle.sym_run.specs.Beside.{traced_of, value_of}
use Rattle.sym_run.specs.Numbers.{form_at, number_at, numbered}

-- an event with what it gives, where the data stay
abbrev pub gives : Act Traced → Outcome → Traced → Data → Acted Traced Data Event
gives a t v d = record { event = record { outcome = t; asked = traced.asked_of linear a d; places = d.shadows.places }; value = v; after = d }

abbrev pub arith_at : Op → List Symbol → (a b : Held) → Act Traced
arith_at o l a b = act_arith o (traced_of l a) (traced_of l b)

pub arith_gives : (layout : ℕ → List Cell) (o : Op) (l : List Symbol) (a b : Held) (d : Data)
    → traced.act linear layout (arith_at o l a b) d
    ≡ gives (arith_at o l a b) (fit_of (fitting o (number_at a) (number_at b))) (numbered (formed_of linear o (form_at l a) (form_at l b)) (apply o (number_at a) (number_at b))) d
unfolding traced.act traced.plain_of traced.after_shadows traced.value_shadow plain.act plain.acted
arith_gives layout o l a b d = refl

pub negate_gives : (layout : ℕ → List Cell) (l : List Symbol) (a : Held) (d : Data)
    → traced.act linear layout (act_negate (traced_of l a)) d
    ≡ gives (act_negate (traced_of l a)) (fit_of (neg_ℤ (number_at a))) (numbered (negated_of linear (form_at l a)) (neg_ℤ (number_at a))) d
unfolding traced.act traced.plain_of traced.after_shadows traced.value_shadow plain.act plain.acted
negate_gives layout l a d = refl

abbrev pub beside_nothing : plain.Value → Traced
beside_nothing v = record { plain = v; shadow = none }

pub divisor_gives : (layout : ℕ → List Cell) (l : List Symbol) (a b : Held) (d : Data)
    → traced.act linear layout (act_divisor (traced_of l a) (traced_of l b)) d
    ≡ gives (act_divisor (traced_of l a) (traced_of l b)) (if int_eq (number_at b) (pos 0) then Zero else Plain) (beside_nothing (value_of b.value)) d
unfolding traced.act traced.plain_of traced.after_shadows traced.value_shadow plain.act plain.acted
divisor_gives layout l a b d = refl

pub index_gives : (layout : ℕ → List Cell) (l : List Symbol) (p i : Held) (n w : ℕ) (d : Data)
    → traced.act linear layout (act_index (traced_of l p) (traced_of l i) n w) d
    ≡ gives (act_index (traced_of l p) (traced_of l i) n w) (index_of (number_at i) n) (traced.offset (traced_of l p) (nat_of (number_at i) * w)) d
unfolding traced.act traced.plain_of traced.after_shadows traced.value_shadow traced.offset plain.act plain.acted
index_gives layout l p i n w d = refl

-- ---- comparisons and tests of values beside which stand forms

abbrev pub with_shadow : plain.Value → Shadow → Traced
with_shadow v s = record { plain = v; shadow = s }

left_form : (o : Cmp) (v w : plain.Value) (g h : Form) (d : Data) → traced.compare_asked linear o (with_shadow v (form g)) (with_shadow w (form h)) d ≡ traced.numbers_asked linear o g h
unfolding traced.compare_asked
left_form o v w g h d = refl

pub compare_forms : (o : Cmp) (v w : plain.Value) (s t : Shadow) (g h : Form) (d : Data) → s ≡ form g → t ≡ form h
    → traced.compare_asked linear o (with_shadow v s) (with_shadow w t) d ≡ traced.numbers_asked linear o (traced.form_of linear s) (traced.form_of linear t)
unfolding traced.form_of
compare_forms o v w s t g h d p q =
    subst (λ (x : Shadow). traced.compare_asked linear o (with_shadow v x) (with_shadow w t) d ≡ traced.numbers_asked linear o (traced.form_of linear x) (traced.form_of linear t)) (sym p)
    (subst (λ (y : Shadow). traced.compare_asked linear o (with_shadow v (form g)) (with_shadow w y) d ≡ traced.numbers_asked linear o g (traced.form_of linear y)) (sym q) (left_form o v w g h d))

pub test_form : (s : Shadow) (g : Form) → s ≡ form g → traced.test_asked linear s ≡ traced.test_asked linear (form (traced.form_of linear s))
unfolding traced.form_of
test_form s g e = subst (λ (x : Shadow). traced.test_asked linear x ≡ traced.test_asked linear (form (traced.form_of linear x))) (sym e) refl
