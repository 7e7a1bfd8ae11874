-- What a made object and a number of the stream do to what a run's memory stands for.
use Rattle.std.proofs.Common.{◌≡◌, ℕ, suc, ℤ, pos, List, [], ◌∷◌, ◌++◌, length, length-append, map, Option, Some, None, unwrap_or, Result, Ok, Err, OnOk, refl, sym, ap, ap₂, ◌∙◌, subst, arith, slice_get}
use Rattle.std.proofs.lemmas.List.{map_push, length-map}
use Rattle.cc_base.specs.declared.cells.CellTy.{CellTy}
use Rattle.cc_base.specs.declared.cells.CellTy.TheVariants as cell
use Rattle.cc_base.specs.Forms.{Form}
use Rattle.cc_base.specs.Places.{Placed, stream}
use Rattle.sym_expr.specs.Sums.{place_form}
use Rattle.checked_memory.specs.declared.values.Cell.{Cell}
use Rattle.checked_memory.specs.declared.values.Value.{Value}
use Rattle.checked_memory.specs.declared.values.Value.TheVariants.{Int, Made}
use Rattle.checked_memory.specs.Contents.{Contents}
use Rattle.cc_laws.specs.LinearForms.{linear}
use Rattle.cc_model.specs.CheckedProgram.{cell_of}
use Rattle.cc_model.specs.Core as core
use Rattle.cc_model.specs.Plain as plain
use Rattle.cc_model.specs.Plain.{num, or_none}
use Rattle.cc_model.specs.Traced as traced
use Rattle.cc_model.specs.Traced.{Shadow, form, Traced}
use Rattle.cc_model.specs.Canonical.{Named}
use Rattle.sym_run.specs.declared.symbols.Symbol.{Symbol}
use Rattle.sym_run.specs.declared.symbols.Symbol.TheVariants.{Form as SymbolForm}
use Rattle.sym_run.specs.declared.objects.Objects.{Objects}
use Rattle.sym_run.specs.Beside.{IsValue, value_of, shadow_by, shadow_if, shadow_of_symbol, traced_of}
use Rattle.sym_run.specs.Remembers.{Every, cell_value, cell_shadow, names_in, zero_of, IsNumber, Suits, IsPointed, IsKnown, Remembers}
use Rattle.sym_run.proofs.MemoryLaws.{every_push, with_memory}

-- ---- cells with zero

zero_values : (cells : List CellTy) → map plain.zero_cell (map cell_of cells) ≡ map cell_value (map zero_of cells)
unfolding plain.zero_cell
zero_values [] = refl
zero_values (cell.Int ∷ cells) = ap (λ (l : List plain.Value). num (pos 0) ∷ l) (zero_values cells)
zero_values (cell.Ptr t ∷ cells) = ap (λ (l : List plain.Value). plain.null ∷ l) (zero_values cells)

zero_shadows : (symbols : List Symbol) (cells : List CellTy) → map (traced.zero_shadow linear) (map cell_of cells) ≡ map (cell_shadow symbols) (map zero_of cells)
unfolding traced.zero_shadow
zero_shadows symbols [] = refl
zero_shadows symbols (cell.Int ∷ cells) = ap (λ (l : List Shadow). form (linear.number (pos 0)) ∷ l) (zero_shadows symbols cells)
zero_shadows symbols (cell.Ptr t ∷ cells) = ap (λ (l : List Shadow). traced.none ∷ l) (zero_shadows symbols cells)

zero_known : (named : List Named) (touched : List ℕ) (symbols : List Symbol) (cells : List CellTy) → Every (IsKnown named touched symbols) (map zero_of cells)
zero_known named touched symbols [] = tt
zero_known named touched symbols (cell.Int ∷ cells) = (record { cell = record { known = omega arith; value = (omega arith, omega arith) }; kind = tt; pointer = tt }, zero_known named touched symbols cells)
zero_known named touched symbols (cell.Ptr t ∷ cells) = (record { cell = record { known = omega arith; value = tt }; kind = λ h. absurd h; pointer = tt }, zero_known named touched symbols cells)

-- the memory with an object more
abbrev pub with_object : Contents → List Cell → Contents
with_object m cs = record { made = m.made ++ cs ∷ []; touched = m.touched }

module _ (start : plain.Data) (named : List Named) (symbols : List Symbol) (o : Objects) (d : traced.Data) (r : Remembers start named symbols o d) where
  pub object_made : (type : core.Layout) (cells : List CellTy) → type.cells ≡ map cell_of cells → Remembers start named symbols (with_memory o (with_object o.memory (map zero_of cells))) (traced.make linear type d).after
  unfolding traced.make plain.make
  object_made type cells e = record {
    made = ap₂ (λ (l : List (List plain.Value)) (cs : List core.Cell). l ++ map plain.zero_cell cs ∷ []) r.made e
        ∙ ap (λ (vs : List plain.Value). map (map cell_value) o.memory.made ++ vs ∷ []) (zero_values cells) ∙ sym (map_push (map cell_value) o.memory.made (map zero_of cells));
    blocks = r.blocks;
    touched = r.touched;
    stream = r.stream;
    base = r.base;
    count = r.count;
    made_shadows = ap₂ (λ (l : List (List Shadow)) (cs : List core.Cell). l ++ map (traced.zero_shadow linear) cs ∷ []) r.made_shadows e
        ∙ ap (λ (vs : List Shadow). map (map (cell_shadow symbols)) o.memory.made ++ vs ∷ []) (zero_shadows symbols cells) ∙ sym (map_push (map (cell_shadow symbols)) o.memory.made (map zero_of cells));
    touched_shadows = r.touched_shadows;
    places = r.places;
    firsts = r.firsts;
    addresses = r.addresses;
    made_cells = every_push (Every (IsKnown named (names_in o) symbols)) o.memory.made (map zero_of cells) r.made_cells (zero_known named (names_in o) symbols cells);
    touched_cells = r.touched_cells;
  }

  -- the pointer to it
  pub made_pointer : (type : core.Layout) (n : ℕ) → n ≡ length o.memory.made → traced_of symbols (record { value = Made n 0; shadow = 0 }) ≡ (traced.make linear type d).value
  unfolding traced.make plain.make
  made_pointer type n e = ap (λ (m : ℕ). (let t : Traced = record { plain = plain.at (plain.made m) 0; shadow = traced.none } in t)) (e ∙ sym (length-map o.memory.made (map cell_value)) ∙ sym (ap length r.made))

  -- the state before a number of the stream is stored
  pub number_taken : (n : ℕ) (places : List Placed) → n ≡ suc o.taken → places ≡ o.places ++ record { place = stream o.taken; holds = cell.Int } ∷ []
      → Remembers start named symbols (record { memory = o.memory; firsts = o.firsts; places = places; taken = n })
      (record { plain = record d.plain { count = suc (d.plain).count }; shadows = record d.shadows { places = (d.shadows).places ++ record { place = stream (d.plain).count; holds = cell.Int } ∷ [] } })
  number_taken n places e f = record {
    made = r.made;
    blocks = r.blocks;
    touched = r.touched;
    stream = r.stream;
    base = r.base;
    count = ap suc r.count ∙ sym e;
    made_shadows = r.made_shadows;
    touched_shadows = r.touched_shadows;
    places = ap₂ (λ (l : List Placed) (k : ℕ). l ++ (let p : Placed = record { place = stream k; holds = cell.Int } in p) ∷ []) r.places r.count ∙ sym f;
    firsts = r.firsts;
    addresses = r.addresses;
    made_cells = r.made_cells;
    touched_cells = r.touched_cells;
  }

pub pointer_known : (named : List Named) (touched : List ℕ) (symbols : List Symbol) (n : ℕ) → IsKnown named touched symbols (record { value = Made n 0; shadow = 0 })
pointer_known named touched symbols n = record { cell = record { known = omega arith; value = tt }; kind = λ h. absurd h; pointer = tt }

-- ---- the last symbol

get_last : {A : Type 0} (l : List A) (x : A) → slice_get (l ++ x ∷ []) (length l) ≡ Some x
get_last [] x = refl
get_last (y ∷ l) x = get_last l x

pub shadow_last : (symbols : List Symbol) (s : Symbol) (n : ℕ) (v : plain.Value) → n ≡ suc (length symbols) → shadow_by (symbols ++ s ∷ []) n v ≡ shadow_of_symbol s
shadow_last symbols s n v e = ap (λ (k : ℕ). shadow_by (symbols ++ s ∷ []) k v) e ∙ ap (λ (x : Option Symbol). shadow_if v x) (get_last symbols s)

-- ---- a number of the stream is stored

same_or : {A : Type 0} (a : A) (o : Option A) → unwrap_or o a ≡ or_none a o
unfolding or_none
same_or a None = refl
same_or a (Some b) = refl

-- the data before a number of the stream is stored
abbrev pub counted : traced.Data → traced.Data
counted d = record { plain = record d.plain { count = suc (d.plain).count }; shadows = record d.shadows { places = (d.shadows).places ++ record { place = stream (d.plain).count; holds = cell.Int } ∷ [] } }

pub number_stored : (start : plain.Data) (named : List Named) (symbols after : List Symbol) (o : Objects) (d : traced.Data) (p : Cell) (g : Form) (x n : ℕ) (z base : ℤ) (numbers : List ℤ) → Remembers start named symbols o d
    → after ≡ symbols ++ SymbolForm g ∷ [] → g ≡ place_form x → x ≡ length o.places → n ≡ length after → z ≡ unwrap_or (slice_get numbers o.taken) base → start.stream ≡ numbers → start.base ≡ base
    → traced.store (traced_of after p) (traced_of after (record { value = Int z; shadow = n })) (counted d) ≡ traced.take linear (traced_of symbols p) d
unfolding traced.store traced.take plain.take
number_stored start named symbols after o d p g x n z base numbers r grown of there last is list low =
    let number : z ≡ or_none (d.plain).base (slice_get (d.plain).stream (d.plain).count) =
    is ∙ same_or base (slice_get numbers o.taken) ∙ ap₂ (λ (b : ℤ) (s : List ℤ). or_none b (slice_get s o.taken)) (sym (r.base ∙ low)) (sym (r.stream ∙ list)) ∙ ap (λ (k : ℕ). or_none (d.plain).base (slice_get (d.plain).stream k)) (sym r.count) in
    let place : g ≡ linear.of (length (d.shadows).places) = of ∙ ap place_form (there ∙ sym (ap length r.places)) in
    let count : n ≡ suc (length symbols) = omega (arith, last, ap length grown, length-append symbols (SymbolForm g ∷ [])) in
    let beside : shadow_by after n (num z) ≡ form (linear.of (length (d.shadows).places)) =
    ap (λ (l : List Symbol). shadow_by l n (num z)) grown ∙ shadow_last symbols (SymbolForm g) n (num z) count ∙ ap form place in
    ap₂ (λ (y : ℤ) (s : Shadow). (let t : traced.Data = record { plain = plain.store (value_of p.value) (num y) (record d.plain { count = suc (d.plain).count }); shadows = traced.with_shadow (traced.spot_of (value_of p.value) (d.plain).touched) s (counted d).shadows } in t)) number beside

pub value_stored : (start : plain.Data) (named : List Named) (symbols after : List Symbol) (o : Objects) (d : traced.Data) (p : Cell) (g : Form) (x n : ℕ) (v : Value) (base : ℤ) (numbers : List ℤ) → Remembers start named symbols o d
    → after ≡ symbols ++ SymbolForm g ∷ [] → g ≡ place_form x → x ≡ length o.places → n ≡ length after → v ≡ Int (unwrap_or (slice_get numbers o.taken) base) → start.stream ≡ numbers → start.base ≡ base
    → traced.store (traced_of after p) (traced_of after (record { value = v; shadow = n })) (counted d) ≡ traced.take linear (traced_of symbols p) d
value_stored start named symbols after o d p g x n v base numbers r grown of there last is list low =
    ap (λ (w : Value). traced.store (traced_of after p) (traced_of after (record { value = w; shadow = n })) (counted d)) is
    ∙ number_stored start named symbols after o d p g x n (unwrap_or (slice_get numbers o.taken) base) base numbers r grown of there last refl list low

-- a number with a form beside it
pub number_known : (named : List Named) (touched : List ℕ) (symbols after : List Symbol) (g : Form) (v : Value) (z : ℤ) (n : ℕ) → after ≡ symbols ++ SymbolForm g ∷ [] → n ≡ length after → v ≡ Int z → IsValue v → IsKnown named touched after (record { value = v; shadow = n })
number_known named touched symbols after g v z n grown last is word =
    let count : n ≡ suc (length symbols) = omega (arith, last, ap length grown, length-append symbols (SymbolForm g ∷ [])) in
    let beside : (w : plain.Value) → shadow_by after n w ≡ form g = λ w. ap (λ (l : List Symbol). shadow_by l n w) grown ∙ shadow_last symbols (SymbolForm g) n w count in
    record {
      cell = record { known = omega (arith, last); value = word };
      kind = subst (λ (s : Shadow). Suits s v) (sym (beside (value_of v))) (subst (λ (w : Value). IsNumber w) (sym is) tt);
      pointer = subst (λ (w : Value). IsPointed named touched (shadow_by after n (value_of v)) w) (sym is) tt;
    }

pub on_ok : {A E P Q : Type 0} (r : Result A E) → OnOk r P → (P → Q) → OnOk r Q
on_ok (Ok a) h f = f h
on_ok (Err e) h f = tt
