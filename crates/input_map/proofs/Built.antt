-- What is laid by a plan, with its stream, is built.
use Rattle.std.proofs.Common.{◌≡◌, ℕ, zero, suc, ◌^◌, ◌<◌, ◌≤◌, ◌≤ℤ◌, max, ℤ, pos, List, [], ◌∷◌, length, take, slice_get, Option, Some, None, unwrap_or, refl, sym, ap, ◌∙◌, subst, arith}
use Rattle.std.specs.Prelude.{◌↔◌}
use Rattle.std.proofs.lemmas.List.{append-nil}
use Rattle.std.proofs.lemmas.Option.{slice_get_within}
use Rattle.cc_base.specs.declared.cells.CellTy.TheVariants as cell
use Rattle.cc_base.specs.declared.cells.TyId.{TyId}
use Rattle.cc_base.specs.declared.inputs.Input.{Input}
use Rattle.cc_base.specs.Limits.{Limits, base_of}
use Rattle.cc_base.specs.Places.{Place, Placed, stream, ParentsFirst, at_place}
use Rattle.cc_model.specs.Core.{Cell, int_cell, ptr_cell, Program}
use Rattle.cc_model.specs.Canonical.{Within, AllWithin, AreCells, base_cell}
use Rattle.cc_model.specs.CheckedProgram.{cell_of}
use Rattle.cc_model.specs.Graphs.{PointsToCells}
use Rattle.cc_model.specs.Runs.{params_of}
use Rattle.sym_expr.specs.declared.places.PlaceId.{PlaceId}
use Rattle.input_map.specs.declared.building.Assignment.{Assignment}
use Rattle.input_map.specs.Builds.{class_of, number_of, IsAssignment, needs, stream_length, cell_types, StandsIn, IsBuilt}
use Rattle.input_map.specs.Laying.{Spot, Plan, plan_of, spots, Blocks, Holds, Seat, Entry, IsIndex, IsOwner, Lays, begun, one_more, number_there, IsStream, Finished}
use Rattle.input_map.proofs.BaseInputs.{base_within}
use Rattle.input_map.proofs.Lists.{some_same, cells_of, get_cell}
use Rattle.input_map.proofs.Shapes.{IsPlan, Shape}
use Rattle.input_map.proofs.Laid.{held_get, held_length, Laid, laid_first, step}
use Rattle.input_map.proofs.Planned.{is_plan, sizes, seat_same}
use Rattle.input_map.proofs.Values.{number_at, pointer_at, class_at, place_in}

-- ---- the stream

pub long_enough : (l : List Placed) (n id : ℕ) (e : Placed) → id < n → slice_get l id ≡ Some e → needs e.place ≤ stream_length (take n l)
long_enough [] n id e h f = absurd (cc f)
long_enough (x ∷ l) zero id e h f = absurd (omega (arith, h))
long_enough (x ∷ l) (suc n) zero e h f = subst (λ (y : Placed). needs y.place ≤ max (needs x.place) (stream_length (take n l))) (some_same x e f) (omega arith)
long_enough (x ∷ l) (suc n) (suc id) e h f = let m = long_enough l n id e (omega (arith, h)) f in omega (arith, m)

all_within : (b : Limits) (ss : List ℤ) → ((k : ℕ) (z : ℤ) → slice_get ss k ≡ Some z → Within b z) → AllWithin b ss
all_within b [] h = tt
all_within b (s ∷ ss) h = (h 0 s refl, all_within b ss (λ k z e. h (suc k) z e))

seat_stream : (q : Place) (k : ℕ) → Seat q 1 k → q ≡ stream k
seat_stream q k s = seat_same q (stream k) 1 k s (refl, refl)

-- ---- the cells

module _ (p : Plan) (params : List Cell) (b : Limits) (places : List Placed) (n : ℕ) (h : IsPlan p params b places n) (some : (t : ℕ) (id : ℕ) (e : Entry places n id) → cell_of e.entry.holds ≡ ptr_cell t → 1 ≤ length (p.layouts t)) where
  abbrev first : List Spot
  first = spots (p.found 0) 0 params

  laid : (done due : List Spot) (zs : List ℤ) (block : Blocks) → Lays p first done due zs block → Laid p params b places n done due zs block
  laid _ _ _ _ (begun block none) = laid_first p params b places n h some block none
  laid _ _ _ _ (one_more done rest more s zs z block new l q) = step p params b places n h some done rest more s zs z block new (laid done (s ∷ rest) zs block l) q

  module _ (all : List Spot) (i : Input) (block : Blocks) (l : Lays p first all [] i.cells block) (ps : ParentsFirst places) (m : ℕ) (t : IsStream p.number p.base (p.found 1) m i.stream) (enough : (id : ℕ) (e : Entry places n id) → needs e.entry.place ≤ m) where
    abbrev is : Laid p params b places n all [] i.cells block
    is = laid all [] i.cells block l

    shape : Shape p params b places n all is.named block
    shape = subst (λ x. Shape p params b places n x is.named block) (append-nil all) is.shape

    taken_at : (id : ℕ) (e : Entry places n id) (k : ℕ) → e.entry.place ≡ stream k → unwrap_or (slice_get i.stream k) p.base ≡ p.number id
    taken_at id e k f =
        let r : suc k ≤ m = subst (λ x. needs x ≤ m) f (enough id e) in
        let o : p.found 1 k ≡ Some id = h.finds id e 1 k (subst (λ (x : Place). Seat x 1 k) (sym f) (refl, refl)) in
        ap (λ x. unwrap_or x p.base) (t.each k (omega (arith, r)) ∙ ap (λ x. Some (number_there p.number p.base x)) o)

    pub canonical : AreCells p.layouts b params [] (suc (length params)) i.cells × AllWithin b i.stream
    canonical = (
      subst (AreCells p.layouts b params [] (suc (length params))) (append-nil i.cells) (is.cells [] tt),
      all_within b i.stream (λ k z e. subst (Within b) (some_same _ z (sym (t.each k (let x = slice_get_within i.stream k z e in let y = t.long in omega (arith, x, y))) ∙ e)) (value_within (p.found 1 k))),
    )
      where
        value_within : (o : Option ℕ) → Within b (number_there p.number p.base o)
        value_within None = h.base_within
        value_within (Some id) = h.within id

    kinds : cell_types p.layouts params (suc (length params)) i.cells ≡ cells_of all
    kinds = ap (cell_types p.layouts params (suc (length params))) (sym (append-nil i.cells)) ∙ is.types [] ∙ append-nil (cells_of all)

    pub long_as : length all ≡ length i.cells
    long_as = held_length p block all i.cells is.held

    base_by : (k : ℕ) (x : Spot) (o : Option ℕ) → slice_get all k ≡ Some x → x.place ≡ o → ((id : ℕ) (e : Entry places n id) → StandsIn places i p.base k e.entry.place → ⊥) → (c : Cell) (z : ℤ) → Holds p block c o z
        → p.base ≡ base_of b → z ≡ base_cell b c
    base_by k x None e f g int_cell z y r = y ∙ r
    base_by k x None e f g (ptr_cell t) z y r = y
    base_by k x (Some id) e f g c z y r = let q = place_in p params b places n h ps all is.named block shape i is.held taken_at k x id e f in absurd (g id q.0 q.1)

    pub others : p.base ≡ base_of b → (k : ℕ) (c : Cell) → slice_get (cell_types p.layouts params (suc (length params)) i.cells) k ≡ Some c
        → ((id : ℕ) (e : Entry places n id) → StandsIn places i p.base k e.entry.place → ⊥) → slice_get i.cells k ≡ Some (base_cell b c)
    others r k c e g =
        let x = get_cell all k c (sym (ap (λ l. slice_get l k) kinds) ∙ e) in
        let y = held_get p block all i.cells k x.0 is.held x.1 in
        y.1 ∙ ap Some (base_by k x.0 (x.0).place x.1 refl g (x.0).cell y.0 y.2 r ∙ ap (base_cell b) x.2)

    no_place : (k : ℕ) (o : Option ℕ) → p.found 1 k ≡ o → ((id : ℕ) (e : Entry places n id) → e.entry.place ≡ stream k → ⊥) → number_there p.number p.base o ≡ p.base
    no_place k None e g = refl
    no_place k (Some id) e g = let f = h.found_is 1 k id e in absurd (g id f.0 (seat_stream (f.0).entry.place k f.1))

    pub other_numbers : (k : ℕ) → k < length i.stream → ((id : ℕ) (e : Entry places n id) → e.entry.place ≡ stream k → ⊥) → slice_get i.stream k ≡ Some p.base
    other_numbers k l g = t.each k (let x = t.long in omega (arith, l, x)) ∙ ap Some (no_place k (p.found 1 k) refl g)

    pub numbers : (id : ℕ) (e : Entry places n id) → e.entry.holds ≡ cell.Int → at_place places i p.base id ≡ Some (p.number id)
    numbers id e = number_at p params b places n h ps all is.named block shape i is.held taken_at id e

    pub pointers : (id : ℕ) (e : Entry places n id) (t : TyId) → e.entry.holds ≡ cell.Ptr t → (a : ℕ) × (at_place places i p.base id ≡ Some (pos a)) × ((a ≡ 0) ↔ (p.class id ≡ 0))
    pointers id e = pointer_at p params b places n h ps all is.named block shape i is.held taken_at id e

    pub classes : (j k : ℕ) (e : Entry places n j) (f : Entry places n k) (r s : TyId) → e.entry.holds ≡ cell.Ptr r → f.entry.holds ≡ cell.Ptr s → ((at_place places i p.base j ≡ at_place places i p.base k) ↔ (p.class j ≡ p.class k))
    classes j k e f = class_at p params b places n h ps all is.named block shape i is.held taken_at j k e f

-- ---- all that is said of a built input

abbrev entry_of : (places : List Placed) (n id : ℕ) (e : Placed) → id < n → slice_get places id ≡ Some e → Entry places n id
entry_of places n id e l f = record { entry = e; small = l; is = f }

pub built : (c : Program) (b : Limits) (places : List Placed) (v : Assignment) (base : ℤ) (found : ℕ → ℕ → Option ℕ) (owner : ℕ → Option ℕ) (all : List Spot) (block : Blocks) (i : Input)
    → IsAssignment c.layouts (params_of c) b places v → PointsToCells c.layouts (params_of c) → ParentsFirst places → base ≡ base_of b → Within b base
    → IsIndex places (length v.classes) found → IsOwner v v.touched owner
    → Lays (plan_of c.layouts v base found owner) (spots (found 0) 0 (params_of c)) all [] i.cells block
    → IsStream (number_of v base) base (found 1) (stream_length (take (length v.classes) places)) i.stream
    → length i.cells < 10 ^ 18 → IsBuilt c b places v i
built c b places v base found owner all block i a deep ps e w index owns lays t few =
    let p : Plan = plan_of c.layouts v base found owner in
    let params : List Cell = params_of c in
    let n : ℕ = length v.classes in
    let m : ℕ = stream_length (take n places) in
    let h = is_plan c.layouts params b places v a base w found owner index owns in
    let some = sizes c.layouts params b places v a deep in
    let enough : (id : ℕ) (x : Entry places n id) → needs x.entry.place ≤ m = λ id x. long_enough places n id x.entry x.small x.is in
    record {
      input = canonical p params b places n h some all i block lays ps m t enough;
      few = few;
      numbers = λ id x l f g. subst (λ z. at_place places i z id ≡ Some (number_of v z id)) e (numbers p params b places n h some all i block lays ps m t enough id (entry_of places n id x l f) g);
      pointers = λ id x y l f g. subst (λ z. (d : ℕ) × (at_place places i z id ≡ Some (pos d)) × ((d ≡ 0) ↔ (class_of v id ≡ 0))) e (pointers p params b places n h some all i block lays ps m t enough id (entry_of places n id x l f) y g);
      classes = λ j k x y r s l o f g u q. subst (λ z. (at_place places i z j ≡ at_place places i z k) ↔ (class_of v j ≡ class_of v k)) e
          (classes p params b places n h some all i block lays ps m t enough j k (entry_of places n j x l f) (entry_of places n k y o g) r s u q);
      others = λ k x f g. others p params b places n h some all i block lays ps m t enough e k x f (λ id y s. g id y.entry y.small y.is (subst (λ z. StandsIn places i z k y.entry.place) e s));
      ends = t.long;
      other_numbers = λ k l g. other_numbers p params b places n h some all i block lays ps m t enough k l (λ id y s. g id y.entry y.small y.is s) ∙ ap Some e;
    }

-- the same, of what the code computes
pub built_by : (c : Program) (b : Limits) (places : List Placed) (v : Assignment) (base : ℤ) (found : ℕ → ℕ → Option ℕ) (owner : ℕ → Option ℕ) (count end : ℕ) (touched : List PlaceId) (zs ss : List ℤ)
    → base ≡ base_of b → b.lo ≤ℤ b.hi → (length v.classes ≤ length places → count ≡ length v.classes) → ParentsFirst places → touched ≡ v.touched → IsIndex places count found → IsOwner v touched owner
    → Finished (plan_of c.layouts v base found owner) (spots (found 0) 0 (params_of c)) zs → end ≡ stream_length (take count places) → IsStream (number_of v base) base (found 1) end ss
    → IsAssignment c.layouts (params_of c) b places v → PointsToCells c.layouts (params_of c) → IsBuilt c b places v (record { cells = zs; stream = ss })
built_by c b places v base found owner count end touched zs ss e numbers same ps t index owns f last s a deep =
    let k : count ≡ length v.classes = same a.enough in
    built c b places v base found owner f.0 f.1 (record { cells = zs; stream = ss }) a deep ps e (subst (Within b) (sym e) (base_within b numbers))
    (subst (λ n. IsIndex places n found) k index) (subst (λ l. IsOwner v l owner) t owns) f.2
    (subst (λ n. IsStream (number_of v base) base (found 1) n ss) (last ∙ ap (λ n. stream_length (take n places)) k) s) f.3
