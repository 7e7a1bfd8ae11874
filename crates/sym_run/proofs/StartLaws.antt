-- The memory, the values and the places with which a run begins.
use Rattle.std.proofs.Common.{◌≡◌, ℕ, zero, suc, ◌+◌, ◌<◌, ◌≤◌, ℤ, pos, negsuc, ◌≤ℤ◌, List, [], ◌∷◌, ◌++◌, length, length-append, append_assoc, append-nil, map, drop, reverse, option_map, unwrap_or, Option, Some, None, slice_get, SFits, w32, refl, sym, ap, ap₂, subst, ◌∙◌, arith}
use Rattle.std.proofs.lemmas.Int.{ints}
use Rattle.std.proofs.lemmas.List.{length-map}
use Rattle.std.proofs.lemmas.Option.{same_Some}
use Rattle.cc_base.specs.declared.cells.CellTy.{CellTy}
use Rattle.cc_base.specs.declared.cells.CellTy.TheVariants as cell
use Rattle.cc_base.specs.declared.inputs.Input.{Input}
use Rattle.cc_base.specs.Limits.{Limits, base_of}
use Rattle.cc_base.specs.Places.{Placed, arg}
use Rattle.checked_memory.specs.declared.values.Cell.{Cell}
use Rattle.checked_memory.specs.declared.values.Value.{Value}
use Rattle.checked_memory.specs.declared.values.Value.TheVariants.{Int, Null}
use Rattle.cc_model.specs.declared.checked.Checked.{Checked}
use Rattle.cc_model.specs.declared.checked.Sig.{Sig}
use Rattle.cc_model.specs.CheckedProgram.{cell_of, cells_at, funcs_from, core_of}
use Rattle.cc_model.specs.Compiles.{is_traced_zero}
use Rattle.cc_model.specs.Canonical.{Named}
use Rattle.cc_model.specs.Conditions.{traced_begin, start_shadow}
use Rattle.cc_model.specs.Core as core
use Rattle.cc_model.specs.Core.{Program, Func, Start, start_number, start_null}
use Rattle.cc_model.specs.Graphs.{PointsToCells}
use Rattle.cc_model.specs.Plain as plain
use Rattle.cc_model.specs.Runs.{begin_of, fixed_of, params_of, value_of_start, IsInput}
use Rattle.cc_model.specs.Traced as traced
use Rattle.cc_model.specs.Traced.{Shadow, Traced, Data}
use Rattle.cc_laws.specs.LinearForms.{linear}
use Rattle.sym_run.specs.declared.symbols.Symbol.{Symbol}
use Rattle.checked_memory.specs.Contents.{Contents}
use Rattle.sym_run.specs.declared.objects.First.{First}
use Rattle.sym_run.specs.declared.objects.Objects.{Objects}
use Rattle.sym_run.specs.Accesses.{held, symbol_at, cells_from, symbols_from, MayHold}
use Rattle.sym_run.specs.Beside.{IsValue, traced_of}
use Rattle.sym_run.specs.Blocks.{values_from, named_in, IsLaidOut}
use Rattle.sym_run.specs.Remembers.{Every, cell_value, cell_shadow, names_in, IsKnown, Remembers}
use Rattle.tac_lower.specs.declared.tac.TacFunc.{TacFunc}
use Rattle.tac_lower.specs.Finished.{first_in}
use Rattle.sym_run.specs.declared.trace.Event.{Event}
use Rattle.sym_run.specs.declared.trace.Term.{Term}
use Rattle.sym_run.specs.declared.journal.Journal.{Journal}
use Rattle.sym_run.specs.declared.machine.Frame.{Frame}
use Rattle.sym_run.specs.declared.machine.Machine.{Machine}
use Rattle.sym_run.specs.Running.{program, code_of, first_state, Came}
use Rattle.sym_run.specs.Stands.{Setting, domain, AllWait, IsJournal, Stands}
use Rattle.sym_run.specs.Starting.{value_starting, cell_starting, cells_starting, singles, null_cell, pointer_to_param, WordBounds, IsLaid}
use Rattle.sym_run.proofs.AccessLaws.{values_held, shadows_held, all_known, cells_step, symbols_step}
use Rattle.sym_run.proofs.BlockLaws.{input_laid_out}
use Rattle.sym_run.proofs.ComingLaws.{comes_begin}
use Rattle.sym_run.proofs.PointerLaws.{drop_past}

-- ---- the cells of the globals

starting_values : (l : List Start) → map value_of_start l ≡ map cell_value (cells_starting l)
starting_values [] = refl
starting_values (start_number z ∷ l) = ap (λ (k : List plain.Value). plain.num z ∷ k) (starting_values l)
starting_values (start_null ∷ l) = ap (λ (k : List plain.Value). plain.null ∷ k) (starting_values l)

starting_shadows : (symbols : List Symbol) (l : List Start) → map (start_shadow linear) l ≡ map (cell_shadow symbols) (cells_starting l)
unfolding start_shadow
starting_shadows symbols [] = refl
starting_shadows symbols (start_number z ∷ l) = ap (λ (k : List Shadow). traced.form (linear.number z) ∷ k) (starting_shadows symbols l)
starting_shadows symbols (start_null ∷ l) = ap (λ (k : List Shadow). traced.none ∷ k) (starting_shadows symbols l)

module _ (named : List Named) (touched : List ℕ) (symbols : List Symbol) where
  pub null_known : IsKnown named touched symbols null_cell
  null_known = record { cell = record { known = omega arith; value = tt }; kind = λ h. h; pointer = tt }

  pub param_known : (n : ℕ) → IsKnown named touched symbols (pointer_to_param n)
  param_known n = record { cell = record { known = omega arith; value = tt }; kind = λ h. h; pointer = tt }

  starting_known : (s : Start) → IsValue (value_starting s) → IsKnown named touched symbols (cell_starting s)
  starting_known (start_number z) h = record { cell = record { known = omega arith; value = h }; kind = tt; pointer = tt }
  starting_known start_null h = null_known

  all_starting_known : (l : List Start) → Every (λ c. IsValue c.value) (cells_starting l) → Every (IsKnown named touched symbols) (cells_starting l)
  all_starting_known [] h = tt
  all_starting_known (s ∷ l) h = (starting_known s h.0, all_starting_known l h.1)

  singles_known : (l : List Cell) → Every (IsKnown named touched symbols) l → Every (Every (IsKnown named touched symbols)) (singles l)
  singles_known [] h = tt
  singles_known (c ∷ l) h = ((h.0, tt), singles_known l h.1)

-- ---- objects of one cell

singles_map : {A : Type 0} (f : Cell → A) (l : List Cell) → map (map f) (singles l) ≡ map (λ x. x ∷ []) (map f l)
singles_map f [] = refl
singles_map {A = A} f (c ∷ l) = ap (λ (k : List (List A)). (f c ∷ []) ∷ k) (singles_map f l)

-- ---- what the parameters' cells may hold

pub get_map : {A B : Type 0} (f : A → B) (l : List A) (n : ℕ) (x : A) → slice_get l n ≡ Some x → slice_get (map f l) n ≡ Some (f x)
get_map f [] n x e = absurd (cc e)
get_map f (y ∷ l) zero x e = ap (λ z. Some (f z)) (same_Some y x e)
get_map f (y ∷ l) (suc n) x e = get_map f l n x e

module _ (layouts : ℕ → List core.Cell) (b : Limits) (params : List core.Cell) (globals : List plain.Value) (base : ℤ) (h : Input) (laid : IsLaidOut layouts b params globals base h) (word : WordBounds b) where
  may_hold : (types : List CellTy) → map cell_of types ≡ params → (i : ℕ) (c : CellTy) (z : ℤ) → slice_get types i ≡ Some c → slice_get h.cells i ≡ Some z → MayHold (named_in layouts params h) c z
  may_hold types same i cell.Int z e f =
      let r = laid.param_numbers_within i z (sym (ap (λ (l : List core.Cell). slice_get l i) same) ∙ get_map cell_of types i cell.Int e) f in
      let low = word.0 in let high = word.1 in let r0 = r.0 in let r1 = r.1 in (omega (arith, ints, low, r0), omega (arith, ints, high, r1))
  may_hold types same i (cell.Ptr t) z e f = laid.param_pointers_named i t.0 z (sym (ap (λ (l : List core.Cell). slice_get l i) same) ∙ get_map cell_of types i (cell.Ptr t) e) f

-- ---- the whole

module _ (p : Program) (b : Limits) (h : Input) (named : List Named) where
  abbrev params : List core.Cell
  params = params_of p

  abbrev values : List plain.Value
  values = map value_of_start p.globals

  abbrev start : plain.Data
  start = plain.data_of p.layouts params values h.cells h.stream (base_of b)

  begin_known : (laid : IsLaidOut p.layouts b params values (base_of b) h) → WordBounds b → (types : List CellTy) → map cell_of types ≡ params → length types ≤ length h.cells
      → named ≡ named_in p.layouts params h → Every (IsKnown named [] (symbols_from 0 types)) (cells_from 1 types h.cells)
  begin_known laid word types same long is = subst (λ (n : List Named). Every (IsKnown n [] (symbols_from 0 types)) (cells_from 1 types h.cells)) (sym is)
      (all_known (named_in p.layouts params h) [] [] 0 1 types h.cells refl long (may_hold p.layouts b params values (base_of b) h laid word types same))

  pub begin_remembers : (laid : IsLaidOut p.layouts b params values (base_of b) h) → WordBounds b → (types : List CellTy) → map cell_of types ≡ params → length types ≤ length h.cells
      → named ≡ named_in p.layouts params h → Every (λ c. IsValue c.value) (cells_starting p.globals)
      → Remembers start named (symbols_from 0 types) (record { memory = record { made = cells_starting p.globals ∷ singles (cells_from 1 types h.cells); touched = [] }; firsts = []; places = traced.arg_places 0 params; taken = 0 }) (traced_begin linear p b h).data_now
  unfolding traced_begin begin_of plain.data_of
  begin_remembers laid word types same long is starts =
      let symbols : List Symbol = symbols_from 0 types in
      let cells : List Cell = cells_from 1 types h.cells in record {
        made = laid.param_values
            ∙ ap₂ (λ (g : List plain.Value) (v : List plain.Value). g ∷ map (λ x. x ∷ []) v) (starting_values p.globals) (ap (λ (l : List core.Cell). values_from l h.cells) (sym same) ∙ sym (values_held 1 types h.cells))
            ∙ ap (λ (l : List (List plain.Value)). map cell_value (cells_starting p.globals) ∷ l) (sym (singles_map cell_value cells));
        blocks = λ a. refl;
        touched = refl;
        stream = refl;
        base = refl;
        count = refl;
        made_shadows = ap₂ (λ (g : List Shadow) (v : List Shadow). g ∷ map (λ x. x ∷ []) v) (starting_shadows symbols p.globals) (ap (λ (l : List core.Cell). traced.cell_shadows linear 0 l) (sym same) ∙ shadows_held [] 0 1 types h.cells refl long)
            ∙ ap (λ (l : List (List Shadow)). map (cell_shadow symbols) (cells_starting p.globals) ∷ l) (sym (singles_map (cell_shadow symbols) cells));
        touched_shadows = refl;
        places = refl;
        firsts = refl;
        addresses = tt;
        made_cells = (all_starting_known named [] symbols p.globals starts, singles_known named [] symbols cells (begin_known laid word types same long is));
        touched_cells = tt;
      }

-- ---- the machine

-- the bounds' numbers are of 32 bits
pub at_least_word : (z b : ℤ) → SFits w32 z → z ≡ b → negsuc 2147483647 ≤ℤ b
at_least_word z b f e = subst (λ (y : ℤ). negsuc 2147483647 ≤ℤ y) e (omega (arith, ints, f))

pub at_most_word : (z b : ℤ) → SFits w32 z → z ≡ b → b ≤ℤ pos 2147483647
at_most_word z b f e = subst (λ (y : ℤ). y ≤ℤ pos 2147483647) e (omega (arith, ints, f))

objects_are : (o : Objects) (m : Contents) (fs : List First) (ps : List Placed) (n : ℕ) → o.memory ≡ m → o.firsts ≡ fs → o.places ≡ ps → o.taken ≡ n → record { memory = m; firsts = fs; places = ps; taken = n } ≡ o
objects_are o m fs ps n e f g h = sym (ap₂ (λ (x : Contents) (y : List First). (let q : Objects = record { memory = x; firsts = y; places = o.places; taken = o.taken } in q)) e f ∙ ap₂ (λ (x : List Placed) (y : ℕ). (let q : Objects = record { memory = m; firsts = fs; places = x; taken = y } in q)) g h)

func_there : (c : Checked) (l : List Sig) (n k : ℕ) → k < length l → (f : Func) × (slice_get (funcs_from c n l) k ≡ Some f)
func_there c [] n k h = absurd (omega (arith, h))
func_there c (s ∷ l) n zero h = (_, refl)
func_there c (s ∷ l) n (suc k) h = func_there c l (suc n) k (omega (arith, h))

module _ (w : Setting) (points : PointsToCells (program w).layouts (params_of (program w))) (ok : IsInput (program w) w.limits w.input) (word : WordBounds w.limits) where
  abbrev the_named : List Named
  the_named = named_in (cells_at w.checked) (params_of (program w)) w.input

  laid_remembers : (symbols : List Symbol) (o : Objects) → IsLaid w.checked w.input symbols o → Remembers (start (program w) w.limits w.input []) the_named symbols o (first_state w).data_now
  laid_remembers symbols o i =
      let r = begin_remembers (program w) w.limits w.input the_named (input_laid_out (program w) w.limits points w.input ok) word i.types i.params i.enough refl i.words in
      subst (λ (s : List Symbol). Remembers (start (program w) w.limits w.input []) the_named s o (first_state w).data_now) (sym i.symbolic)
      (subst (λ (q : Objects). Remembers (start (program w) w.limits w.input []) the_named (symbols_from 0 i.types) q (first_state w).data_now) (objects_are o _ _ _ _ i.memory i.firsts i.places i.taken) r)

  pub came_begin : (m : Machine) (f : TacFunc) → slice_get (w.code).funcs (w.checked).entry ≡ Some f → (w.checked).entry < length (w.checked).funcs → m.pc ≡ f.first
      → ((n : ℕ) (c : Cell) → slice_get m.temps n ≡ Some c → c ≡ null_cell) → ((n : ℕ) (c : Cell) → slice_get m.slots n ≡ Some (Some c) → c ≡ pointer_to_param n)
      → m.stack ≡ [] → m.steps ≡ (w.limits).steps → m.events_left ≡ (w.limits).depth → IsLaid w.checked w.input m.symbols m.objects → m.journal ≡ record { events = []; terms = []; clean = None } → Came w m
  unfolding traced_begin plain.locals_at traced.nil
  came_begin m f code function pc temps slots stack steps depth laid journal =
      let there = func_there w.checked (w.checked).funcs 0 (w.checked).entry function in
      let named : List Named = the_named in record {
        config = record { pc = first_in w.code (w.checked).entry; temps = λ n. traced.nil; stack = [] };
        state = first_state w;
        log = [];
        stands = record {
          start = start (program w) w.limits w.input [];
          named = named;
          begun = record { named_are = refl; start_is = refl; laid = input_laid_out (program w) w.limits points w.input ok };
          pc = ap (λ (o : Option TacFunc). unwrap_or (option_map (λ g. g.first) o) (length (w.code).code)) code ∙ sym pc;
          temps = λ n c e. record {
            value = subst (λ (x : Cell). traced.nil ≡ traced_of m.symbols x) (sym (temps n c e)) refl;
            known = subst (λ (x : Cell). IsKnown named (names_in m.objects) m.symbols x) (sym (temps n c e)) (null_known named (names_in m.objects) m.symbols);
          };
          slots = λ n c e. record {
            value = subst (λ (x : Cell). (first_state w).locals n ≡ traced_of m.symbols x) (sym (slots n c e)) refl;
            known = subst (λ (x : Cell). IsKnown named (names_in m.objects) m.symbols x) (sym (slots n c e)) (param_known named (names_in m.objects) m.symbols n);
          };
          stack = subst (λ (l : List Frame). AllWait w named (names_in m.objects) m.symbols (reverse l) []) (sym stack) tt;
          steps = sym steps;
          events = sym depth;
          data_now = laid_remembers m.symbols m.objects laid;
          journal = subst (λ (j : Journal). IsJournal w.checked [] j) (sym journal) (record { events = tt; terms = tt; clean = refl });
        };
        comes = comes_begin (domain w) (fixed_of (program w) w.limits) is_traced_zero (first_in w.code) (code_of w) (first_state w) there.0 there.1;
      }

-- ---- loops

last_or : {A : Type 0} (k : List A) (x y : A) (Q : ℕ → A → Type 0) (n : ℕ) → ((m : ℕ) (z : A) → slice_get k m ≡ Some z → Q m z) → Q (length k) x → slice_get (k ++ x ∷ []) n ≡ Some y → Q n y
last_or {A = A} [] x y Q zero g q f = subst (λ (z : A). Q 0 z) (same_Some x y f) q
last_or [] x y Q (suc n) g q f = absurd (cc f)
last_or (z ∷ k) x y Q zero g q f = g 0 y f
last_or (z ∷ k) x y Q (suc n) g q f = last_or k x y (λ m v. Q (suc m) v) n (λ m v e. g (suc m) v e) q f

-- what holds of each item holds of each with one more
pub push_each : {A : Type 0} (P : ℕ → A → Type 0) (l l' : List A) (x : A) → l' ≡ l ++ x ∷ [] → ((n : ℕ) (y : A) → slice_get l n ≡ Some y → P n y) → P (length l) x → (n : ℕ) (y : A) → slice_get l' n ≡ Some y → P n y
push_each {A = A} P l l' x pushed h p n y e = last_or l x y P n h p (ap (λ (k : List A). slice_get k n) (sym pushed) ∙ e)

-- the slots of parameters
abbrev pub AreSlots : ℕ → List (Option Cell) → Type 0
AreSlots k l = (length l ≡ k) × ((n : ℕ) (c : Cell) → slice_get l n ≡ Some (Some c) → c ≡ pointer_to_param n)

pub slots_step : (l l' : List (Option Cell)) (o : Option Cell) (k : ℕ) → l' ≡ l ++ o ∷ [] → ((c : Cell) → o ≡ Some c → c ≡ pointer_to_param k) → length l ≡ k → ((n : ℕ) (c : Cell) → slice_get l n ≡ Some (Some c) → c ≡ pointer_to_param n) → AreSlots (k + 1) l'
slots_step l l' o k pushed here count set = (
  omega (arith, count, ap length pushed, length-append l (o ∷ [])),
  λ n c e. push_each (λ (m : ℕ) (x : Option Cell). (y : Cell) → x ≡ Some y → y ≡ pointer_to_param m) l l' o pushed (λ m x f y g. set m y (f ∙ ap Some g))
      (subst (λ (m : ℕ). (y : Cell) → o ≡ Some y → y ≡ pointer_to_param m) (sym count) here) n (Some c) e c refl,
)

-- ---- the parameters' cells, one after another

same_ty : (t : CellTy) → t ≡ traced.cell_ty (cell_of t)
unfolding traced.cell_ty
same_ty cell.Int = refl
same_ty (cell.Ptr t) = refl

args_step : (types : List CellTy) (i : ℕ) (c : CellTy) (ps r : List Placed) → drop i types ≡ c ∷ drop (i + 1) types → ps ++ traced.arg_places i (map cell_of (drop i types)) ≡ r
    → (ps ++ record { place = arg i; holds = c } ∷ []) ++ traced.arg_places (i + 1) (map cell_of (drop (i + 1) types)) ≡ r
unfolding traced.arg_places
args_step types i c ps r here h =
    let next : i + 1 ≡ suc i = omega arith in
    let p : Placed = record { place = arg i; holds = c } in
    append_assoc ps (p ∷ []) (traced.arg_places (i + 1) (map cell_of (drop (i + 1) types)))
    ∙ ap₂ (λ (m : ℕ) (t : CellTy). ps ++ (let q : Placed = record { place = arg i; holds = t } in q) ∷ traced.arg_places m (map cell_of (drop (i + 1) types))) next (same_ty c)
    ∙ sym (ap (λ (a : List CellTy). ps ++ traced.arg_places i (map cell_of a)) here) ∙ h

pub args_done : (i : ℕ) (types : List CellTy) (ps r : List Placed) → length types ≤ i → ps ++ traced.arg_places i (map cell_of (drop i types)) ≡ r → ps ≡ r
unfolding traced.arg_places
args_done i types ps r h e = sym (append-nil ps) ∙ sym (ap (λ (l : List CellTy). ps ++ traced.arg_places i (map cell_of l)) (drop_past types i h)) ∙ e

item_at : {A : Type 0} (l : List A) (i : ℕ) (x : A) → slice_get l i ≡ Some x → drop i l ≡ x ∷ drop (i + 1) l
item_at [] i x h = absurd (cc h)
item_at {A = A} (y ∷ l) zero x h = ap (λ (a : A). a ∷ l) (same_Some y x h)
item_at (y ∷ l) (suc i) x h = item_at l i x h ∙ ap (λ (n : ℕ). x ∷ drop n (y ∷ l)) (let e : suc (i + 1) ≡ suc i + 1 = omega arith in e)

pub arg_step : (types : List CellTy) (numbers : List ℤ) (i : ℕ) (c : CellTy) (y z : ℤ) (places ps rp : List Placed) (symbols ss rs : List Symbol) (cells cs rc : List Cell) (new : Cell)
    → ps ≡ places ++ record { place = arg i; holds = c } ∷ [] → slice_get types i ≡ Some c → Some z ≡ slice_get numbers i → ss ≡ symbols ++ symbol_at (length places) c ∷ []
    → new ≡ record { value = held c y; shadow = suc (length symbols) } → y ≡ z → cs ≡ cells ++ new ∷ []
    → cells ++ cells_from (suc (length symbols)) (drop i types) (drop i numbers) ≡ rc → places ++ traced.arg_places i (map cell_of (drop i types)) ≡ rp → symbols ++ symbols_from (length places) (drop i types) ≡ rs
    → (cs ++ cells_from (suc (length ss)) (drop (i + 1) types) (drop (i + 1) numbers) ≡ rc) × (ps ++ traced.arg_places (i + 1) (map cell_of (drop (i + 1) types)) ≡ rp) × (ss ++ symbols_from (length ps) (drop (i + 1) types) ≡ rs)
arg_step types numbers i c y z places ps rp symbols ss rs cells cs rc new placed there at grown made same pushed hc hp hs =
    let more : length ss ≡ suc (length symbols) = omega (arith, ap length grown, length-append symbols (symbol_at (length places) c ∷ [])) in
    let wide : length ps ≡ suc (length places) = omega (arith, ap length placed, length-append places ((let p : Placed = record { place = arg i; holds = c } in p) ∷ [])) in
    let it : cs ≡ cells ++ record { value = held c z; shadow = suc (length symbols) } ∷ [] = pushed ∙ ap (λ (x : Cell). cells ++ x ∷ []) (made ∙ ap (λ (x : ℤ). (let q : Cell = record { value = held c x; shadow = suc (length symbols) } in q)) same) in (
      subst (λ (l : List Cell). l ++ cells_from (suc (length ss)) (drop (i + 1) types) (drop (i + 1) numbers) ≡ rc) (sym it) (cells_step types i c there cells rc numbers z (suc (length symbols)) (suc (length ss)) (sym at) (ap suc more) hc),
      subst (λ (l : List Placed). l ++ traced.arg_places (i + 1) (map cell_of (drop (i + 1) types)) ≡ rp) (sym placed) (args_step types i c places rp (item_at types i c there) hp),
      subst (λ (l : List Symbol). l ++ symbols_from (length ps) (drop (i + 1) types) ≡ rs) (sym grown) (symbols_step types i c there symbols rs (length places) (length ps) wide hs),
    )

-- ---- what a run begins with, by its parts

pub laid_is : (c : Checked) (h : Input) (old symbols : List Symbol) (types ts : List CellTy) (numbers : List ℤ) (globals gs args cs : List Cell) (memory : Contents) (firsts : List First) (before places : List Placed)
    → old ≡ [] → ts ≡ types → numbers ≡ h.cells → gs ≡ globals → cs ≡ args → globals ≡ cells_starting (core_of c).globals → Every (λ x. IsValue x.value) globals → map cell_of types ≡ params_of (core_of c)
    → args ≡ cells_from (suc (length old)) ts numbers → before ≡ [] → places ≡ before ++ traced.arg_places 0 (map cell_of ts) → symbols ≡ old ++ symbols_from (length before) ts → length ts ≤ length numbers
    → memory ≡ record { made = gs ∷ singles cs; touched = [] } → firsts ≡ [] → IsLaid c h symbols (record { memory = memory; firsts = firsts; places = places; taken = 0 })
laid_is c h old symbols types ts numbers globals gs args cs memory firsts before places none same all_numbers all_globals all_args starts words params cells nowhere placed grown enough laid no_firsts = record {
  types = types;
  params = params;
  enough = omega (arith, enough, ap length same, ap length all_numbers);
  words = subst (λ (l : List Cell). Every (λ x. IsValue x.value) l) starts words;
  symbolic = grown ∙ ap₂ (λ (o : List Symbol) (b : List Placed). o ++ symbols_from (length b) ts) none nowhere ∙ ap (λ (t : List CellTy). symbols_from 0 t) same;
  memory = laid ∙ ap₂ (λ (x y : List Cell). (let m : Contents = record { made = x ∷ singles y; touched = [] } in m)) (all_globals ∙ starts)
      (all_args ∙ cells ∙ ap (λ (o : List Symbol). cells_from (suc (length o)) ts numbers) none ∙ ap₂ (λ (t : List CellTy) (z : List ℤ). cells_from 1 t z) same all_numbers);
  firsts = no_firsts;
  places = placed ∙ ap₂ (λ (b : List Placed) (t : List CellTy). b ++ traced.arg_places 0 (map cell_of t)) nowhere same ∙ ap (λ (l : List core.Cell). traced.arg_places 0 l) params;
  taken = refl;
}

abbrev pub journal_of : List Event → List Term → Journal
journal_of es ts = record { events = es; terms = ts; clean = None }

pub no_events : (es : List Event) (ts : List Term) → es ≡ [] → ts ≡ [] → journal_of es ts ≡ journal_of [] []
no_events es ts e f = ap₂ journal_of e f
