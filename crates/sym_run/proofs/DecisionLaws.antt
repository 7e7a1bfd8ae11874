-- What comparisons and tests of values of any kind come to.
use Rattle.std.proofs.Common.{◌≡◌, Bool, true, false, not, List, ℕ, Result, Ok, Err, IfOk, refl, sym, ap, ◌∙◌, subst}
use Rattle.cc_base.specs.Forms.{Form}
use Rattle.cc_laws.specs.LinearForms.{linear}
use Rattle.checked_memory.specs.declared.values.Cell.{Cell}
use Rattle.checked_memory.specs.declared.values.Value.{Value}
use Rattle.checked_memory.specs.declared.values.Value.TheVariants.{Int, Null, Made, Block}
use Rattle.cc_model.specs.Core as core
use Rattle.cc_model.specs.Core.{Cmp}
use Rattle.cc_model.specs.Domain.{act_compare, act_test, Acted}
use Rattle.cc_model.specs.Canonical.{Named}
use Rattle.cc_model.specs.Plain as plain
use Rattle.cc_model.specs.Plain.{decision_of}
use Rattle.cc_model.specs.Traced as traced
use Rattle.cc_model.specs.Traced.{Shadow, form, Traced, Data, Event}
use Rattle.sym_run.specs.declared.number_acts.Decided.{Decided}
use Rattle.sym_run.specs.declared.symbols.Symbol.{Symbol}
use Rattle.sym_run.specs.Asks.{asked_of}
use Rattle.sym_run.specs.Beside.{value_of, traced_of}
use Rattle.sym_run.specs.Follows.{is_number, compared, tested, IsDecided}
use Rattle.sym_run.specs.Numbers.{form_at, number_at}
use Rattle.sym_run.specs.Pointers.{HasNoForm, is_ne}
use Rattle.sym_run.specs.Remembers.{IsNumber, Suits, IsKnown, cell_shadow}
use Rattle.sym_run.proofs.Acts.{with_shadow, compare_forms, test_form}

-- ---- numbers and pointers

pub is_a_number : (v : Value) → is_number v ≡ true → IsNumber v
is_a_number (Int z) e = tt
is_a_number Null e = absurd (cc e)
is_a_number (Made n i) e = absurd (cc e)
is_a_number (Block a i) e = absurd (cc e)

pub is_a_pointer : (v : Value) → is_number v ≡ false → IsNumber v → ⊥
is_a_pointer (Int z) e h = absurd (cc e)
is_a_pointer Null e h = h
is_a_pointer (Made n i) e h = h
is_a_pointer (Block a i) e h = h

form_beside : (s : Shadow) (v : Value) → IsNumber v → Suits s v → (g : Form) × (s ≡ form g)
form_beside (form g) v n h = (g, refl)
form_beside (traced.place p t) v n h = absurd (h n)
form_beside traced.none v n h = absurd (h n)

pub no_form : (s : Shadow) (v : Value) → (IsNumber v → ⊥) → Suits s v → HasNoForm s
no_form (form g) v n h = absurd (n h)
no_form (traced.place p t) v n h = tt
no_form traced.none v n h = tt

numbers_compared : (o : Cmp) (v w : Value) → IsNumber v → IsNumber w → plain.compare_int o (plain.number_of (value_of v)) (plain.number_of (value_of w)) ≡ plain.compared o (value_of v) (value_of w)
unfolding plain.compared plain.number_of
numbers_compared o (Int y) (Int z) p q = refl
numbers_compared o (Int y) Null p q = absurd q
numbers_compared o (Int y) (Made n i) p q = absurd q
numbers_compared o (Int y) (Block a i) p q = absurd q
numbers_compared o Null w p q = absurd p
numbers_compared o (Made n i) w p q = absurd p
numbers_compared o (Block a i) w p q = absurd p

pointers_compared : (o : Cmp) (v : Value) (w : plain.Value) → (IsNumber v → ⊥) → plain.compare_ptr o (value_of v) w ≡ plain.compared o (value_of v) w
unfolding plain.compared
pointers_compared o (Int z) w h = absurd (h tt)
pointers_compared o Null w h = refl
pointers_compared o (Made n i) w h = refl
pointers_compared o (Block a i) w h = refl

-- pointers differ, or are the same
pub told_differ : (o : Cmp) (t u : Bool) (v w : plain.Value) → is_ne o ≡ true → t ≡ plain.same_ptr v w → u ≡ not t → decision_of u ≡ decision_of (plain.compare_ptr o v w)
unfolding plain.compare_ptr
told_differ core.ne t u v w e p q = ap decision_of (q ∙ ap not p)
told_differ core.eq t u v w e p q = absurd (cc e)
told_differ core.lt t u v w e p q = absurd (cc e)
told_differ core.gt t u v w e p q = absurd (cc e)
told_differ core.le t u v w e p q = absurd (cc e)
told_differ core.ge t u v w e p q = absurd (cc e)

pub told_same : (o : Cmp) (t : Bool) (v w : plain.Value) → is_ne o ≡ false → t ≡ plain.same_ptr v w → decision_of t ≡ decision_of (plain.compare_ptr o v w)
unfolding plain.compare_ptr
told_same core.ne t v w e p = absurd (cc e)
told_same core.eq t v w e p = ap decision_of p
told_same core.lt t v w e p = ap decision_of p
told_same core.gt t v w e p = ap decision_of p
told_same core.le t v w e p = ap decision_of p
told_same core.ge t v w e p = ap decision_of p

places_compared : (o : Cmp) (v w : plain.Value) (s t : Shadow) (d : Data) → HasNoForm s → HasNoForm t → traced.pointers_asked o (with_shadow v s) (with_shadow w t) (d.plain).touched (d.shadows).touched ≡ traced.compare_asked linear o (with_shadow v s) (with_shadow w t) d
unfolding traced.compare_asked
places_compared o v w (form g) t d p q = absurd p
places_compared o v w (traced.place x u) (form g) d p q = absurd q
places_compared o v w (traced.place x u) (traced.place y r) d p q = refl
places_compared o v w (traced.place x u) traced.none d p q = refl
places_compared o v w traced.none (form g) d p q = absurd q
places_compared o v w traced.none (traced.place y r) d p q = refl
places_compared o v w traced.none traced.none d p q = refl

-- ---- the traced events

compare_event : (f : ℕ → List core.Cell) (o : Cmp) (a b : Traced) (d : Data) → traced.act linear f (act_compare o a b) d ≡ record {
  event = record { outcome = decision_of (plain.compared o a.plain b.plain); asked = traced.compare_asked linear o a b d; places = (d.shadows).places };
  value = record { plain = a.plain; shadow = traced.none };
  after = d;
}
unfolding traced.act traced.asked_of traced.plain_of traced.after_shadows traced.value_shadow plain.act plain.acted
compare_event f o a b d = refl

test_event : (f : ℕ → List core.Cell) (a : Traced) (d : Data) → traced.act linear f (act_test a) d ≡ record {
  event = record { outcome = decision_of (plain.is_truth a.plain); asked = traced.test_asked linear a.shadow; places = (d.shadows).places };
  value = record { plain = a.plain; shadow = traced.none };
  after = d;
}
unfolding traced.act traced.asked_of traced.plain_of traced.after_shadows traced.value_shadow plain.act plain.acted
test_event f a d = refl

-- a decision leaves the data
pub compared_after : (f : ℕ → List core.Cell) (o : Cmp) (l : List Symbol) (a b : Cell) (d : Data) → (compared f o l a b d).after ≡ d
compared_after f o l a b d = ap (λ (w : Acted Traced Data Event). w.after) (compare_event f o (traced_of l a) (traced_of l b) d)

pub tested_after : (f : ℕ → List core.Cell) (l : List Symbol) (a : Cell) (d : Data) → (tested f l a d).after ≡ d
tested_after f l a d = ap (λ (w : Acted Traced Data Event). w.after) (test_event f (traced_of l a) d)

module _ (f : ℕ → List core.Cell) (o : Cmp) (l : List Symbol) (a b : Cell) (d : Data) (r : Decided) (named : List Named) (touched : List ℕ) (left : IsKnown named touched l a) (right : IsKnown named touched l b) where
  decided_by : r.outcome ≡ decision_of (plain.compared o (value_of a.value) (value_of b.value)) → asked_of r.asked ≡ traced.compare_asked linear o (traced_of l a) (traced_of l b) d → IsDecided r (compared f o l a b d)
  decided_by p q = subst (IsDecided r) (sym (compare_event f o (traced_of l a) (traced_of l b) d)) (record { outcome = p; asked = q })

  pub numbers_decided : IsNumber a.value → IsNumber b.value → r.outcome ≡ decision_of (plain.compare_int o (number_at a) (number_at b)) → asked_of r.asked ≡ traced.numbers_asked linear o (form_at l a) (form_at l b) → IsDecided r (compared f o l a b d)
  numbers_decided m n p q =
      let g = form_beside (cell_shadow l a) a.value m left.kind in
      let h = form_beside (cell_shadow l b) b.value n right.kind in
      decided_by (p ∙ ap decision_of (numbers_compared o a.value b.value m n)) (q ∙ sym (compare_forms o (value_of a.value) (value_of b.value) (cell_shadow l a) (cell_shadow l b) g.0 h.0 d g.1 h.1))

  pub pointers_decided : (IsNumber a.value → ⊥) → (IsNumber b.value → ⊥) → r.outcome ≡ decision_of (plain.compare_ptr o (value_of a.value) (value_of b.value)) → asked_of r.asked ≡ traced.pointers_asked o (traced_of l a) (traced_of l b) (d.plain).touched (d.shadows).touched → IsDecided r (compared f o l a b d)
  pointers_decided m n p q = decided_by (p ∙ ap decision_of (pointers_compared o a.value (value_of b.value) m))
      (q ∙ places_compared o (value_of a.value) (value_of b.value) (cell_shadow l a) (cell_shadow l b) d (no_form (cell_shadow l a) a.value m left.kind) (no_form (cell_shadow l b) b.value n right.kind))

number_tested : (v : Value) → IsNumber v → plain.is_truth (plain.num (plain.number_of (value_of v))) ≡ plain.is_truth (value_of v)
unfolding plain.number_of
number_tested (Int z) h = refl
number_tested Null h = absurd h
number_tested (Made n i) h = absurd h
number_tested (Block a i) h = absurd h

module _ (f : ℕ → List core.Cell) (l : List Symbol) (a : Cell) (d : Data) (r : Decided) (named : List Named) (touched : List ℕ) (known : IsKnown named touched l a) where
  tested_by : r.outcome ≡ decision_of (plain.is_truth (value_of a.value)) → asked_of r.asked ≡ traced.test_asked linear (cell_shadow l a) → IsDecided r (tested f l a d)
  tested_by p q = subst (IsDecided r) (sym (test_event f (traced_of l a) d)) (record { outcome = p; asked = q })

  pub number_decided : IsNumber a.value → r.outcome ≡ decision_of (plain.is_truth (plain.num (number_at a))) → asked_of r.asked ≡ traced.test_asked linear (form (form_at l a)) → IsDecided r (tested f l a d)
  number_decided n p q =
      let g = form_beside (cell_shadow l a) a.value n known.kind in
      tested_by (p ∙ ap decision_of (number_tested a.value n)) (q ∙ sym (test_form (cell_shadow l a) g.0 g.1))

  pub pointer_decided : (IsNumber a.value → ⊥) → r.outcome ≡ decision_of (plain.is_truth (value_of a.value)) → (HasNoForm (cell_shadow l a) → asked_of r.asked ≡ traced.test_asked linear (cell_shadow l a)) → IsDecided r (tested f l a d)
  pointer_decided n p q = tested_by p (q (no_form (cell_shadow l a) a.value n known.kind))

-- ---- results

pub two_ok : {A E : Type 0} {P Q R : A → Type 0} (r : Result A E) → IfOk r P → IfOk r Q → ((x : A) → P x → Q x → R x) → IfOk r R
two_ok (Ok x) p q f = f x p q
two_ok (Err e) p q f = tt
