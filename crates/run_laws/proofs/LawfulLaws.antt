-- A traced run beside its own input is lawful.
use Rattle.std.proofs.Common.{◌≡◌, ◌≢◌, ◌<◌, ◌+◌, inl, inr, ℕ, zero, suc, ℤ, List, [], ◌∷◌, length, map, Option, IsSome, Some, slice_get, refl, sym, ap, subst, ◌∙◌, arith}
use Rattle.std.proofs.lemmas.Option.{same_Some}
use Rattle.cc_base.specs.declared.cells.CellTy.{CellTy}
use Rattle.cc_base.specs.declared.cells.CellTy.TheVariants as cell
use Rattle.cc_base.specs.declared.inputs.Input.{Input}
use Rattle.cc_base.specs.Forms.{Atom}
use Rattle.cc_base.specs.Holds.{Meets}
use Rattle.cc_base.specs.Limits.{Limits, base_of}
use Rattle.cc_base.specs.Places.{Place, Placed, arg, field, stream, at_place}
use Rattle.cc_model.specs.Conditions.{last_state, condition, events_of, places_of, traced_run, traced_begin, start_shadow}
use Rattle.cc_model.specs.Core.{Cell, int_cell, ptr_cell, Program}
use Rattle.cc_model.specs.FormOperations.{Forms, Laws}
use Rattle.cc_model.specs.Graphs.{PointsToCells}
use Rattle.cc_model.specs.Meaning.{Entry}
use Rattle.cc_model.specs.Plain as base
use Rattle.cc_model.specs.Plain.{Value}
use Rattle.cc_model.specs.Runs.{IsInput, params_of, begin_of, fixed_of}
use Rattle.cc_model.specs.Traced.{Data, Event, Shadow, Touched, arg_places, cell_shadows, cell_ty}
use Rattle.sym_expr.proofs.AtomLaws.{Meets-front}
use Rattle.cc_laws.specs.LinearForms.{linear}
use Rattle.cc_laws.proofs.Grown.{GoesOn}
use Rattle.cc_laws.proofs.LinearLaws.{linear_laws}
use Rattle.cc_laws.proofs.Lockstep.{Typed, Points, World, MadeAt}
use Rattle.cc_laws.proofs.Start.{globals_of, tu, first_world, first_parents, start_lock, start_locals}
use Rattle.run_laws.specs.Lawful.{Lawful, StandsRight, HasCell, AskedApart}
use Rattle.sym_run.proofs.PlacedLaws.{begin_placed, start_good}
use Rattle.run_laws.proofs.PastLaws.{get_front, get_map, FirstAt, PointsAt, Counted, OfFirst, StandsAt, ValuedAt, Past}
use Rattle.run_laws.proofs.EventLaws.{atoms_in, condition_part, Fact, Facts, fact_at}
use Rattle.run_laws.proofs.AccessLaws.{HasValue, cells_valued}
use Rattle.run_laws.proofs.OwnLaws.{Now, Held, Location_now, cell_valued, run_leads}

-- ---- where a run begins

args_get : (cs : List Cell) (i j : ℕ) (e : Placed) → slice_get (arg_places i cs) j ≡ Some e → (k : Cell) × (slice_get cs j ≡ Some k) × (e.place ≡ arg (i + j)) × (e.holds ≡ cell_ty k)
unfolding arg_places
args_get [] i j e g = absurd (cc g)
args_get (k ∷ cs) i zero e g =
    let x : Placed = record { place = arg i; holds = cell_ty k } in
    let h : x ≡ e = same_Some x e g in
    (k, refl, sym (ap (λ (m : Placed). m.place) h) ∙ ap arg (let z : i ≡ i + 0 = omega arith in z), sym (ap (λ (m : Placed). m.holds) h))
args_get (k ∷ cs) i (suc j) e g = let r = args_get cs (suc i) j e g in (r.0, r.1, r.2 ∙ ap arg (let z : suc i + j ≡ i + suc j = omega arith in z), r.3)

same_arg : (i j : ℕ) → arg i ≡ arg j → i ≡ j
same_arg i j e = ap number_of e
  where
    number_of : Place → ℕ
    number_of (arg n) = n
    number_of _ = 0

module _ (f : Forms) (laws : Laws f) (layout : ℕ → List Cell) (params : List Cell) (globals : List Value) (b : ℤ) (u : Input) (d : base.Data) (ty : Typed layout params globals b u d) where
  abbrev Made : World → List (List Shadow) → List (List Value) → List (List Value) → Type 0
  Made w ss xs ys = MadeAt layout params globals b u u d d ty ty w ss xs ys

  abbrev Valued : World → ℕ → Cell → Type 0
  Valued w n k = HasValue f laws layout params globals b u d ty w n k

  made_rest : (w : World) (s : List Shadow) (ss : List (List Shadow)) (xs ys : List (List Value)) → Made w (s ∷ ss) xs ys → (zs : List (List Value)) × (ws : List (List Value)) × Made w ss zs ws
  made_rest w s ss (x ∷ xs) (y ∷ ys) i = (xs, ys, i.1)
  made_rest w s ss [] ys i = absurd i
  made_rest w s ss (x ∷ xs) [] i = absurd i

  -- the parameters' cells, each an object of its own
  single : (w : World) (n : ℕ) (k : Cell) (cs : List Cell) (xs ys : List (List Value)) → Made w (map (λ s. s ∷ []) (cell_shadows f n (k ∷ cs))) xs ys
      → Valued w n k × ((zs : List (List Value)) × (ws : List (List Value)) × Made w (map (λ s. s ∷ []) (cell_shadows f (suc n) cs)) zs ws)
  unfolding cell_shadows
  single w n int_cell cs (x ∷ xs) (y ∷ ys) i = (subst (λ m. Valued w m int_cell) (let z : n + 0 ≡ n = omega arith in z) (cells_valued f laws layout params globals b u d ty w n (int_cell ∷ []) x y i.0 0 int_cell refl), (xs, ys, i.1))
  single w n (ptr_cell t) cs (x ∷ xs) (y ∷ ys) i = (subst (λ m. Valued w m (ptr_cell t)) (let z : n + 0 ≡ n = omega arith in z) (cells_valued f laws layout params globals b u d ty w n (ptr_cell t ∷ []) x y i.0 0 (ptr_cell t) refl), (xs, ys, i.1))
  single w n int_cell cs [] ys i = absurd i
  single w n int_cell cs (x ∷ xs) [] i = absurd i
  single w n (ptr_cell t) cs [] ys i = absurd i
  single w n (ptr_cell t) cs (x ∷ xs) [] i = absurd i

  singles_valued : (w : World) (n : ℕ) (cs : List Cell) (xs ys : List (List Value)) → Made w (map (λ s. s ∷ []) (cell_shadows f n cs)) xs ys → (j : ℕ) (k : Cell) → slice_get cs j ≡ Some k → Valued w (n + j) k
  singles_valued w n [] xs ys i j k e = absurd (cc e)
  singles_valued w n (c ∷ cs) xs ys i zero k e =
      subst (λ m. Valued w m k) (let z : n ≡ n + 0 = omega arith in z) (subst (Valued w n) (let z : c ≡ k = cc e in z) (single w n c cs xs ys i).0)
  singles_valued w n (c ∷ cs) xs ys i (suc j) k e =
      let r = (single w n c cs xs ys i).1 in
      subst (λ m. Valued w m k) (let z : suc n + j ≡ n + suc j = omega arith in z) (singles_valued w (suc n) cs r.0 r.1 r.2 j k e)

  args_past : (w : World) (n : ℕ) (s : List Shadow) (xs ys : List (List Value)) → w.places ≡ arg_places 0 params → Made w (s ∷ map (λ s. s ∷ []) (cell_shadows f 0 params)) xs ys → Past params layout u b ty.type ty.named (arg_places 0 params) [] n []
  args_past w n s xs ys e m = record {
    parents = first_parents params;
    meets = tt;
    names = tt;
    valued = λ id x g. (let a = args_get params 0 id x g in let r = made_rest w s _ xs ys m in
        subst (λ t. ValuedAt params layout u b ty.type ty.named (arg_places 0 params) id t) (sym a.3)
        (subst (λ i. ValuedAt params layout u b ty.type ty.named (arg_places 0 params) i (cell_ty a.0)) (let z : 0 + id ≡ id = omega arith in z)
        (subst (λ l. ValuedAt params layout u b ty.type ty.named l (0 + id) (cell_ty a.0)) e (cell_valued f laws layout params globals b u d ty w (0 + id) a.0 (singles_valued w 0 params r.0 r.1 r.2 id a.0 a.1)))));
    counted = λ id x g. (let a = args_get params 0 id x g in subst (λ q. Counted n q) (sym a.2) tt);
    firsts = λ id x g. (let a = args_get params 0 id x g in subst (λ q. OfFirst [] q) (sym a.2) tt);
    right = λ id x g. (let a = args_get params 0 id x g in
        subst (λ q. StandsAt params layout (arg_places 0 params) q x.holds) (sym a.2) (ap (slice_get (map cell_ty params)) (let z : 0 + id ≡ id = omega arith in z) ∙ get_map cell_ty params id a.0 a.1 ∙ ap Some (sym a.3)));
    different = λ i j x y g h same. (let a = args_get params 0 i x g in let a' = args_get params 0 j y h in let z = same_arg (0 + i) (0 + j) (sym a.2 ∙ same ∙ a'.2) in omega (arith, z));
    pointed = λ q t i. absurd i;
    touched = λ q t i. absurd i;
    apart = λ q r t i j ne. absurd i;
  }

-- ---- a whole run

get_there : {A : Type 0} (l : List A) (n : ℕ) → n < length l → (x : A) × (slice_get l n ≡ Some x)
get_there [] n h = absurd (omega (arith, h))
get_there (x ∷ l) zero h = (x, refl)
get_there (x ∷ l) (suc n) h = get_there l n (omega (arith, h))

points_some : (type : ℕ → ℕ) (named : ℕ → Type 0) (t : ℕ) (o : Option ℤ) (v : Value) → Points type named t o v → IsSome o
points_some type named t o v (inl i) = subst IsSome (sym i.0) refl
points_some type named t o v (inr i) = subst IsSome (sym i.1) refl

same_type : (t s : ℕ) → cell.Ptr (record { 0 = t }) ≡ cell.Ptr (record { 0 = s }) → t ≡ s
same_type t s e = ap type_of e
  where
    type_of : CellTy → ℕ
    type_of (cell.Ptr t) = t.0
    type_of cell.Int = 0

module _ (p : Program) (b : Limits) (u : Input) (points : PointsToCells p.layouts (params_of p)) (ok : IsInput p b u) where
  abbrev its : Typed p.layouts (params_of p) (globals_of p b points) (base_of b) u (begin_of p b u).data_now
  its = tu linear linear_laws p b points u u ok ok

  abbrev first : Now
  first = record { world = first_world linear linear_laws p b points u u ok ok; atoms = [] }

  starts : Held linear linear_laws p.layouts (params_of p) (globals_of p b points) (base_of b) u (begin_of p b u).data_now its first (traced_begin linear p b u).data_now
  unfolding traced_begin
  starts = record {
    locked = start_lock linear linear_laws p b points u u ok ok;
    placed = begin_placed (params_of p) p.layouts linear linear_laws (map (start_shadow linear) p.globals) (start_good (params_of p) p.layouts linear linear_laws (arg_places 0 (params_of p)) p.globals);
    past = args_past linear linear_laws p.layouts (params_of p) (globals_of p b points) (base_of b) u (begin_of p b u).data_now its (first.world) _ _ _ _ refl (start_lock linear linear_laws p b points u u ok ok).made;
  }

  slots : (n : ℕ) → Location_now linear linear_laws p.layouts (params_of p) (globals_of p b points) (base_of b) u (begin_of p b u).data_now its first ((traced_begin linear p b u).locals n)
  unfolding traced_begin
  slots n = (start_locals linear linear_laws p b points u u ok ok n, tt)

  abbrev log : List (Entry Event)
  log = events_of linear p b u

  abbrev all : List Placed
  all = places_of linear p b u

  abbrev PastNow : List Touched → ℕ → List Atom → Type 0
  PastNow bs n c = Past (params_of p) p.layouts u (base_of b) its.type its.named all bs n c

  abbrev FactsNow : Type 0
  FactsNow = Facts (params_of p) p.layouts u (base_of b) its.type its.named [] log all

  whole : (bs : List Touched) × (n : ℕ) × PastNow bs n (atoms_in log) × FactsNow
  unfolding events_of places_of traced_run
  whole =
      let r = run_leads linear linear_laws p.layouts (params_of p) (globals_of p b points) (base_of b) u (begin_of p b u).data_now its (fixed_of p b) b.steps b.depth (traced_begin linear p b u) first slots starts in
      let h = r.2 in
      let x : Data = (last_state (traced_run linear p b u).result).data_now in (
        x.shadows.touched,
        x.plain.count,
        subst (λ c. Past (params_of p) p.layouts u (base_of b) its.type its.named x.shadows.places x.shadows.touched x.plain.count c) (r.1).atoms h.past,
        subst (λ l. Facts (params_of p) p.layouts u (base_of b) its.type its.named [] log l) (sym (h.locked).places) (r.1).facts,
      )

  module _ (bs : List Touched) (n : ℕ) (past : PastNow bs n (atoms_in log)) (facts : FactsNow) where
    has_value : (id : ℕ) (t : CellTy) → ValuedAt (params_of p) p.layouts u (base_of b) its.type its.named all id t → IsSome (at_place all u (base_of b) id)
    has_value id cell.Int h = h
    has_value id (cell.Ptr t) h = points_some its.type its.named t.0 _ h.0 h.1

    stands : (q : Place) (t : CellTy) → StandsAt (params_of p) p.layouts all q t → StandsRight p b u q t
    stands (arg i) t h = h
    stands (field q c) t h = h
    stands (stream i) t h = h

    at_event : (k : ℕ) (a : Entry Event) → slice_get log k ≡ Some a → Fact (params_of p) p.layouts u (base_of b) its.type its.named (condition k log) a.event × GoesOn (a.event).places all
    at_event k a e = fact_at (params_of p) p.layouts u (base_of b) its.type its.named [] log all facts k a e

    first_of : (c : List Atom) (e : Event) (q : ℕ) (h : Fact (params_of p) p.layouts u (base_of b) its.type its.named c e) → HasCell p b u e.places q → (t : ℕ) × FirstAt q t h.blocks
    first_of c e q h g = (h.past).firsts g.0 _ g.3

    -- what stands at a first place
    holds_type : (l : List Placed) (q t : ℕ) (w : Placed) → GoesOn l all → PointsAt l q t → slice_get all q ≡ Some w → w.holds ≡ cell.Ptr (record { 0 = t })
    holds_type l q t w g h e = let x = get_front l g.0 q _ h.1 in let y = same_Some _ w (sym (ap (λ m. slice_get m q) g.1 ∙ x) ∙ e) in sym (ap (λ (m : Placed). m.holds) y)

    differ_at : (k : ℕ) (a : Entry Event) → slice_get log k ≡ Some a → (q r : ℕ) (w x : Placed) → HasCell p b u (a.event).places q → HasCell p b u (a.event).places r → q ≢ r
        → slice_get all q ≡ Some w → slice_get all r ≡ Some x → w.holds ≡ x.holds → AskedApart p b u k q r
    differ_at k a e q r w x hq hr ne gq gr same =
        let y = at_event k a e in
        let fq = first_of (condition k log) a.event q y.0 hq in
        let fr = first_of (condition k log) a.event r y.0 hr in
        let past = (y.0).past in
        let tq = holds_type (a.event).places q fq.0 w y.1 (past.pointed q fq.0 fq.1) gq in
        let tr = holds_type (a.event).places r fr.0 x y.1 (past.pointed r fr.0 fr.1) gr in
        past.apart q r fq.0 fq.1 (subst (λ t. FirstAt r t (y.0).blocks) (same_type fr.0 fq.0 (sym tr ∙ sym same ∙ tq)) fr.1) ne

    lawful_from : Lawful p b u
    lawful_from = record {
      own = λ k. (let r = condition_part k log in Meets-front (at_place all u (base_of b)) (condition k log) r.0 (subst (Meets (at_place all u (base_of b))) r.1 past.meets));
      parents = past.parents;
      right = λ id e g. stands e.place e.holds (past.right id e g);
      different = past.different;
      valued = λ id h. (let g = get_there all id h in has_value id (g.0).holds (past.valued id g.0 g.1));
      before = λ k a e. (at_event k a e).1;
      names = λ k a e. (((at_event k a e).0).past).names;
      choices = λ k a e c i. ((at_event k a e).0).choices c i;
      touched = λ k a e q h. (let y = (at_event k a e).0 in let g = first_of (condition k log) a.event q y h in (y.past).touched q g.0 g.1);
      apart = differ_at;
    }

  pub lawful : Lawful p b u
  lawful = let r = whole in lawful_from r.0 r.1 r.2 r.3
