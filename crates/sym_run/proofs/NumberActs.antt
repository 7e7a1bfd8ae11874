-- What the instructions with events on numbers come to.
use Rattle.std.proofs.Common.{◌≡◌, refl, sym, ap, subst, ◌∙◌, inl, ℕ, suc, ◌*◌, ℤ, pos, neg_ℤ, Bool, List, Option, Some, None, if◌then◌else◌}
use Rattle.std.specs.List.{slice_get, slice_set}
use Rattle.cc_base.specs.declared.outcomes.Outcome.{Outcome}
use Rattle.cc_base.specs.declared.outcomes.Outcome.TheVariants.{Zero, Plain}
use Rattle.cc_base.specs.declared.ends.End.{End}
use Rattle.cc_base.specs.declared.ends.FaultKind.TheVariants.{Overflow, Divide, Index as OutOfArray}
use Rattle.checked_memory.specs.declared.values.Cell.{Cell as Held}
use Rattle.checked_memory.specs.declared.values.Value.{Value}
use Rattle.checked_memory.specs.declared.values.Value.TheVariants.{Int, Null, Made, Block}
use Rattle.cc_base.specs.Paths.{In}
use Rattle.cc_model.specs.declared.checked.SiteKind.TheVariants as site
use Rattle.cc_model.specs.CheckedProgram.{cells_at, core_of}
use Rattle.cc_model.specs.Runs.{fixed_of}
use Rattle.cc_model.specs.Canonical.{Named}
use Rattle.cc_model.specs.Core.{Op, Cmp, Cell}
use Rattle.cc_model.specs.Domain.{Act, act_arith, act_divisor, act_negate, act_index, act_compare, act_test, Acted}
use Rattle.cc_model.specs.Instructions as instr
use Rattle.cc_model.specs.Instructions.{Instruction, i_arith, i_divisor, i_negate, i_index, i_offset, i_compare, i_truth, act}
use Rattle.cc_model.specs.Meaning as of
use Rattle.cc_model.specs.Plain as plain
use Rattle.cc_model.specs.Plain.{apply, fitting, fit_of, int_eq, index_of, nat_of, num}
use Rattle.cc_model.specs.Traced as traced
use Rattle.cc_model.specs.Traced.{Traced, Data, Shadow, form, formed_of, negated_of}
use Rattle.cc_laws.specs.LinearForms.{linear}
use Rattle.sym_run.specs.declared.asked.Asked.{Asked}
use Rattle.sym_run.specs.declared.machine.Machine.{Machine}
use Rattle.sym_run.specs.declared.symbols.Symbol.{Symbol}
use Rattle.sym_run.specs.Asks.{asked_of}
use Rattle.sym_run.specs.Beside.{IsCell, traced_of, value_of}
use Rattle.sym_run.specs.Numbers.{Grows, IsPointer, form_at, number_at, numbered}
use Rattle.sym_run.specs.Remembers.{names_in, Remembers, IsKnown, IsNumber, Suits, IsPointed, cell_shadow}
use Rattle.sym_run.specs.Stands.{Setting, Holds, domain, Conf, Done, acts, After, Did}
use Rattle.sym_run.specs.Acting.{IsMet, IsActed, checks, decides, Settled, DecidedAt}
use Rattle.sym_run.specs.declared.number_acts.Decided.{Decided}
use Rattle.sym_run.specs.Follows.{IsDecided, compared, tested}
use Rattle.sym_run.specs.Inside.{IsInside}
use Rattle.sym_run.proofs.Acts.{gives, arith_at, arith_gives, negate_gives, divisor_gives, index_gives}
use Rattle.sym_run.proofs.ActLaws.{offset_cell}
use Rattle.sym_run.proofs.StandsLaws.{stands_grown, stands_given, goes_on}

-- ---- what is known of results

numbered_suits : (f : traced.Formed) (z : ℤ) (v : Value) (s : Shadow) → value_of v ≡ num z → s ≡ traced.shadow_of linear f (num z) → Suits s v
unfolding traced.shadow_of
numbered_suits (traced.formed g) z (Int y) s e h = subst (λ (x : Shadow). Suits x (Int y)) (sym h) tt
numbered_suits traced.plain_number z (Int y) s e h = subst (λ (x : Shadow). Suits x (Int y)) (sym h) tt
numbered_suits (traced.termed k) z (Int y) s e h = subst (λ (x : Shadow). Suits x (Int y)) (sym h) tt
numbered_suits f z Null s e h = absurd (cc e)
numbered_suits f z (Made n i) s e h = absurd (cc e)
numbered_suits f z (Block a i) s e h = absurd (cc e)

numbered_pointed : (named : List Named) (touched : List ℕ) (s : Shadow) (z : ℤ) (v : Value) → value_of v ≡ num z → IsPointed named touched s v
numbered_pointed named touched s z (Int y) e = tt
numbered_pointed named touched s z Null e = absurd (cc e)
numbered_pointed named touched s z (Made n i) e = absurd (cc e)
numbered_pointed named touched s z (Block a i) e = absurd (cc e)

pub numbered_holds : (named : List Named) (touched : List ℕ) (symbols : List Symbol) (f : traced.Formed) (z : ℤ) (c : Held) → traced_of symbols c ≡ numbered f z → IsCell symbols c → Holds named touched symbols (numbered f z) c
numbered_holds named touched symbols f z c e i = record {
  value = sym e;
  known = record {
    cell = i;
    kind = numbered_suits f z c.value (cell_shadow symbols c) (ap (λ (t : Traced). t.plain) e) (ap (λ (t : Traced). t.shadow) e);
    pointer = numbered_pointed named touched (cell_shadow symbols c) z c.value (ap (λ (t : Traced). t.plain) e);
  };
}

inside_pointer : (touched : List ℕ) (v : Value) → IsInside touched v → IsPointer v
inside_pointer touched (Int z) h = h
inside_pointer touched Null h = tt
inside_pointer touched (Made n i) h = tt
inside_pointer touched (Block a i) h = tt

inside_bare : (touched : List ℕ) (v : Value) → IsInside touched v → IsNumber v → ⊥
inside_bare touched (Int z) h n = h
inside_bare touched Null h n = n
inside_bare touched (Made n i) h k = k
inside_bare touched (Block a i) h n = n

inside_pointed : (named : List Named) (touched : List ℕ) (s : Shadow) (v : Value) → IsInside touched v → IsPointed named touched s v
inside_pointed named touched s (Int z) h = tt
inside_pointed named touched s Null h = tt
inside_pointed named touched s (Made n i) h = tt
inside_pointed named touched s (Block a i) h = inl h

name_in : plain.Value → ℕ
name_in (plain.at (plain.block a) c) = a
name_in _ = 0

inside_moved : (touched : List ℕ) (p v : Value) (n : ℕ) → IsInside touched p → value_of v ≡ plain.offset (value_of p) n → IsInside touched v
unfolding plain.offset name_in
inside_moved touched (Int z) v n h e = absurd h
inside_moved touched Null (Int z) n h e = absurd (cc e)
inside_moved touched Null Null n h e = tt
inside_moved touched Null (Made m i) n h e = absurd (cc e)
inside_moved touched Null (Block a i) n h e = absurd (cc e)
inside_moved touched (Made k j) (Int z) n h e = absurd (cc e)
inside_moved touched (Made k j) Null n h e = absurd (cc e)
inside_moved touched (Made k j) (Made m i) n h e = tt
inside_moved touched (Made k j) (Block a i) n h e = absurd (cc e)
inside_moved touched (Block b j) (Int z) n h e = absurd (cc e)
inside_moved touched (Block b j) Null n h e = absurd (cc e)
inside_moved touched (Block b j) (Made m i) n h e = absurd (cc e)
inside_moved touched (Block b j) (Block a i) n h e = subst (λ (x : ℕ). In x touched) (sym (ap name_in e)) h

-- a pointer that was moved on
pub moved_holds : (named : List Named) (touched : List ℕ) (symbols : List Symbol) (p c : Held) (n : ℕ) → IsInside touched p.value → value_of c.value ≡ plain.offset (value_of p.value) n → traced_of symbols c ≡ traced.offset (traced_of symbols p) n → IsCell symbols c
    → Holds named touched symbols (traced.offset (traced_of symbols p) n) c
unfolding traced.offset
moved_holds named touched symbols p c n h e f i =
    let inside : IsInside touched c.value = inside_moved touched p.value c.value n h e in record {
      value = sym f;
      known = record {
        cell = i;
        kind = subst (λ (s : Shadow). Suits s c.value) (sym (ap (λ (t : Traced). t.shadow) f)) (inside_bare touched c.value inside);
        pointer = inside_pointed named touched (cell_shadow symbols c) c.value inside;
      };
    }

-- ---- events

-- an event that gives an outcome and a value, and leaves the data
met_by : (layouts : ℕ → List Cell) (a : Act Traced) (d : Data) (o p : Outcome) (asked : Asked) (v : Traced) → traced.act linear layouts a d ≡ gives a o v d → p ≡ o → asked_of asked ≡ traced.asked_of linear a d → IsMet layouts a d p asked
met_by layouts a d o p asked v e f g = record {
  outcome = ap (λ (r : Acted Traced Data traced.Event). (r.event).outcome) e ∙ sym f;
  asks = ap (λ (r : Acted Traced Data traced.Event). (r.event).asked) e ∙ sym g;
  places = ap (λ (r : Acted Traced Data traced.Event). (r.event).places) e;
  after = ap (λ (r : Acted Traced Data traced.Event). r.after) e;
}

acted_by : (named : List Named) (touched : List ℕ) (symbols : List Symbol) (layouts : ℕ → List Cell) (a : Act Traced) (d : Data) (dst : Option ℕ) (o p : Outcome) (asked : Asked) (v : Traced) (cell : Held)
    → traced.act linear layouts a d ≡ gives a o v d → p ≡ o → asked_of asked ≡ traced.asked_of linear a d → ((n : ℕ) → dst ≡ Some n → p ≡ Plain → Holds named touched symbols v cell)
    → IsActed named touched symbols layouts a d dst p asked cell
acted_by named touched symbols layouts a d dst o p asked v cell e f g h = record {
  met = met_by layouts a d o p asked v e f g;
  value = λ n q r. subst (λ (x : Traced). Holds named touched symbols x cell) (sym (ap (λ (r : Acted Traced Data traced.Event). r.value) e)) (h n q r);
}

module _ (w : Setting) (m new : Machine) (symbols : List Symbol) (t dst a b : ℕ) (x y cell : Held) (outcome : Outcome) (asked : Asked) (e : Option End) where
  abbrev grown : Machine
  grown = record m { symbols = symbols }

  pub arith_did : (o : Op) → slice_get m.temps a ≡ Some x → slice_get m.temps b ≡ Some y → Grows m.symbols symbols
      → outcome ≡ fit_of (fitting o (number_at x) (number_at y))
      → ((d : Data) → asked_of asked ≡ traced.asked_of linear (act_arith o (traced_of m.symbols x) (traced_of m.symbols y)) d)
      → traced_of symbols cell ≡ numbered (formed_of linear o (form_at m.symbols x) (form_at m.symbols y)) (apply o (number_at x) (number_at y))
      → (outcome ≡ Plain → IsCell symbols cell)
      → Settled w grown new site.Fit Overflow t (Some dst) outcome asked cell e → Did w m new (i_arith t o dst a b) e
  unfolding act of.fits
  arith_did o p q g f h i k r c s log st =
      let st' = stands_grown w m c s log symbols st g in
      let done = r c s log (arith_at o m.symbols x y) st' (acted_by st'.named (names_in m.objects) symbols (cells_at w.checked) (arith_at o m.symbols x y) s.data_now (Some dst) _ outcome asked _ cell
      (arith_gives (cells_at w.checked) o m.symbols x y s.data_now) f (h s.data_now) (λ n u v. numbered_holds st'.named (names_in m.objects) symbols _ _ cell i (k v))) in
      subst (λ (u : Traced). After w new s log (λ z. checks w site.Fit Overflow t (act_arith o u (c.temps b)) (λ v. z (instr.gives (domain w) c dst v))) e) (sym (st.temps a x p).value)
      (subst (λ (u : Traced). After w new s log (λ z. checks w site.Fit Overflow t (act_arith o (traced_of m.symbols x) u) (λ v. z (instr.gives (domain w) c dst v))) e) (sym (st.temps b y q).value) done)

  pub divisor_did : slice_get m.temps a ≡ Some x → slice_get m.temps b ≡ Some y
      → outcome ≡ (if int_eq (number_at y) (pos 0) then Zero else Plain)
      → ((d : Data) → asked_of asked ≡ traced.asked_of linear (act_divisor (traced_of m.symbols x) (traced_of m.symbols y)) d)
      → Settled w m new site.Divisor Divide t None outcome asked cell e → Did w m new (i_divisor t a b) e
  unfolding act
  divisor_did p q f h r c s log st =
      let it : Act Traced = act_divisor (traced_of m.symbols x) (traced_of m.symbols y) in
      let done = r c s log it st (acted_by st.named (names_in m.objects) m.symbols (cells_at w.checked) it s.data_now None _ outcome asked _ cell
      (divisor_gives (cells_at w.checked) m.symbols x y s.data_now) f (h s.data_now) (λ n u v. absurd (cc u))) in
      subst (λ (u : Traced). After w new s log (λ z. checks w site.Divisor Divide t (act_divisor u (c.temps b)) (λ v. z (instr.next (domain w) c))) e) (sym (st.temps a x p).value)
      (subst (λ (u : Traced). After w new s log (λ z. checks w site.Divisor Divide t (act_divisor (traced_of m.symbols x) u) (λ v. z (instr.next (domain w) c))) e) (sym (st.temps b y q).value) done)

  pub negate_did : slice_get m.temps a ≡ Some x → Grows m.symbols symbols
      → outcome ≡ fit_of (neg_ℤ (number_at x))
      → ((d : Data) → asked_of asked ≡ traced.asked_of linear (act_negate (traced_of m.symbols x)) d)
      → traced_of symbols cell ≡ numbered (negated_of linear (form_at m.symbols x)) (neg_ℤ (number_at x))
      → (outcome ≡ Plain → IsCell symbols cell)
      → Settled w grown new site.Fit Overflow t (Some dst) outcome asked cell e → Did w m new (i_negate t dst a) e
  unfolding act
  negate_did p g f h i k r c s log st =
      let st' = stands_grown w m c s log symbols st g in
      let it : Act Traced = act_negate (traced_of m.symbols x) in
      let done = r c s log it st' (acted_by st'.named (names_in m.objects) symbols (cells_at w.checked) it s.data_now (Some dst) _ outcome asked _ cell
      (negate_gives (cells_at w.checked) m.symbols x s.data_now) f (h s.data_now) (λ n u v. numbered_holds st'.named (names_in m.objects) symbols _ _ cell i (k v))) in
      subst (λ (u : Traced). After w new s log (λ z. checks w site.Fit Overflow t (act_negate u) (λ v. z (instr.gives (domain w) c dst v))) e) (sym (st.temps a x p).value) done

  pub index_did : (length width : ℕ) → slice_get m.temps a ≡ Some x → slice_get m.temps b ≡ Some y → IsInside (names_in m.objects) x.value
      → outcome ≡ index_of (number_at y) length
      → ((d : Data) → asked_of asked ≡ traced.asked_of linear (act_index (traced_of m.symbols x) (traced_of m.symbols y) length width) d)
      → (outcome ≡ Plain → IsPointer x.value → traced_of m.symbols cell ≡ traced.offset (traced_of m.symbols x) (nat_of (number_at y) * width))
      → IsCell m.symbols cell
      → Settled w m new site.Index OutOfArray t (Some dst) outcome asked cell e → Did w m new (i_index t dst a b length width) e
  unfolding act traced.offset
  index_did length width p q inside f h i k r c s log st =
      let it : Act Traced = act_index (traced_of m.symbols x) (traced_of m.symbols y) length width in
      let done = r c s log it st (acted_by st.named (names_in m.objects) m.symbols (cells_at w.checked) it s.data_now (Some dst) _ outcome asked _ cell
      (index_gives (cells_at w.checked) m.symbols x y length width s.data_now) f (h s.data_now)
      (λ n u v. let j = i v (inside_pointer (names_in m.objects) x.value inside) in moved_holds st.named (names_in m.objects) m.symbols x cell (nat_of (number_at y) * width) inside (ap (λ (z : Traced). z.plain) j) j k)) in
      subst (λ (u : Traced). After w new s log (λ z. checks w site.Index OutOfArray t (act_index u (c.temps b) length width) (λ v. z (instr.gives (domain w) c dst v))) e) (sym (st.temps a x p).value)
      (subst (λ (u : Traced). After w new s log (λ z. checks w site.Index OutOfArray t (act_index (traced_of m.symbols x) u length width) (λ v. z (instr.gives (domain w) c dst v))) e) (sym (st.temps b y q).value) done)

-- ---- decisions

decided_by : (layouts : ℕ → List Cell) (o : Cmp) (l : List Symbol) (a b : Held) (d : Data) (r : Decided) → IsDecided r (compared layouts o l a b d) → IsMet layouts (act_compare o (traced_of l a) (traced_of l b)) d r.outcome r.asked
unfolding traced.act traced.after_shadows traced.plain_of plain.act plain.acted
decided_by layouts o l a b d r h = record { outcome = sym h.outcome; asks = sym h.asked; places = refl; after = refl }

tested_by : (layouts : ℕ → List Cell) (l : List Symbol) (a : Held) (d : Data) (r : Decided) → IsDecided r (tested layouts l a d) → IsMet layouts (act_test (traced_of l a)) d r.outcome r.asked
unfolding traced.act traced.after_shadows traced.plain_of plain.act plain.acted
tested_by layouts l a d r h = record { outcome = sym h.outcome; asks = sym h.asked; places = refl; after = refl }

module _ (w : Setting) (m new : Machine) (t dst a b : ℕ) (x y : Held) (r : Decided) (e : Option End) where
  abbrev on_bit : Conf w → (Conf w → Done w) → Bool → Done w
  on_bit c z v = z (instr.gives (domain w) c dst (of.truth_value (domain w) (fixed_of (core_of w.checked) w.limits) v))

  pub compare_did : (o q : Cmp) → slice_get m.temps a ≡ Some x → slice_get m.temps b ≡ Some y → q ≡ o
      → ((start : plain.Data) (named : List Named) (d : Data) (layouts : ℕ → List Cell) → Remembers start named m.symbols m.objects d → IsKnown named (names_in m.objects) m.symbols x → IsKnown named (names_in m.objects) m.symbols y
      → IsDecided r (compared layouts q m.symbols x y d))
      → DecidedAt w m new t dst r.outcome r.asked e → Did w m new (i_compare t o dst a b) e
  unfolding act
  compare_did o q i j u h f c s log st =
      let h' = subst (λ (v : Cmp). IsDecided r (compared (cells_at w.checked) v m.symbols x y s.data_now)) u (h st.start st.named s.data_now (cells_at w.checked) st.data_now (st.temps a x i).known (st.temps b y j).known) in
      let done = f c s log (act_compare o (traced_of m.symbols x) (traced_of m.symbols y)) st (decided_by (cells_at w.checked) o m.symbols x y s.data_now r h') in
      subst (λ (u : Traced). After w new s log (λ z. decides w t (act_compare o u (c.temps b)) (on_bit c z)) e) (sym (st.temps a x i).value)
      (subst (λ (u : Traced). After w new s log (λ z. decides w t (act_compare o (traced_of m.symbols x) u) (on_bit c z)) e) (sym (st.temps b y j).value) done)

  pub test_did : slice_get m.temps a ≡ Some x
      → ((named : List Named) (touched : List ℕ) (d : Data) (layouts : ℕ → List Cell) → IsKnown named touched m.symbols x → IsDecided r (tested layouts m.symbols x d))
      → DecidedAt w m new t dst r.outcome r.asked e → Did w m new (i_truth t dst a) e
  unfolding act
  test_did i h f c s log st =
      let done = f c s log (act_test (traced_of m.symbols x)) st (tested_by (cells_at w.checked) m.symbols x s.data_now r (h st.named (names_in m.objects) s.data_now (cells_at w.checked) (st.temps a x i).known)) in
      subst (λ (u : Traced). After w new s log (λ z. decides w t (act_test u) (on_bit c z)) e) (sym (st.temps a x i).value) done

-- ---- an offset

module _ (w : Setting) (m new : Machine) (dst a n : ℕ) (x cell : Held) where
  pub offset_did : slice_get m.temps a ≡ Some x → IsInside (names_in m.objects) x.value → cell.shadow ≡ 0 → value_of cell.value ≡ plain.offset (value_of x.value) n → IsCell m.symbols cell
      → new ≡ record m { pc = suc m.pc; temps = slice_set m.temps dst cell } → Did w m new (i_offset dst a n) None
  unfolding act
  offset_did p inside z e i f c s log st =
      goes_on w new s s log (λ k. acts w (i_offset dst a n) k c) (instr.gives (domain w) c dst (traced.offset (c.temps a) n))
      (stands_given w m new c s log dst (traced.offset (c.temps a) n) cell st
      (subst (λ (v : Traced). Holds st.named (names_in m.objects) m.symbols (traced.offset v n) cell) (sym (st.temps a x p).value)
      (moved_holds st.named (names_in m.objects) m.symbols x cell n inside e (moved_seen m.symbols x cell n inside z e) i)) f)
      (λ k. refl)
    where
      moved_seen : (l : List Symbol) (p c : Held) (n : ℕ) → IsInside (names_in m.objects) p.value → c.shadow ≡ 0 → value_of c.value ≡ plain.offset (value_of p.value) n → traced_of l c ≡ traced.offset (traced_of l p) n
      moved_seen l p c n h z e = subst (λ (k : ℕ). traced_of l (record { value = c.value; shadow = k }) ≡ traced.offset (traced_of l p) n) (sym z) (offset_cell l p c.value n e (inside_pointer (names_in m.objects) p.value h))
