-- Lists of cells with their places.
use Rattle.std.proofs.Common.{◌≡◌, ℕ, zero, suc, ◌+◌, List, [], ◌∷◌, ◌++◌, length, map, slice_get, Option, Some, refl, sym, ap, ◌∙◌, arith, append_assoc}
use Rattle.std.proofs.lemmas.List.{append-nil}
use Rattle.cc_model.specs.Core.{Cell}
use Rattle.input_map.specs.Laying.{Spot, spots}

pub some_same : {A : Type 0} (x y : A) → Some x ≡ Some y → x ≡ y
some_same x y e = cc

pub get_front : {A : Type 0} (xs ys : List A) (k : ℕ) (x : A) → slice_get xs k ≡ Some x → slice_get (xs ++ ys) k ≡ Some x
get_front [] ys k x e = absurd (cc e)
get_front (y ∷ xs) ys zero x e = e
get_front (y ∷ xs) ys (suc k) x e = get_front xs ys k x e

pub suc_sum : (m n : ℕ) → suc m + n ≡ suc (m + n)
suc_sum m n = omega arith

pub get_back : {A : Type 0} (xs ys : List A) (k : ℕ) → slice_get (xs ++ ys) (length xs + k) ≡ slice_get ys k
get_back [] ys k = let e : 0 + k ≡ k = omega arith in ap (slice_get ys) e
get_back (x ∷ xs) ys k = ap (slice_get (x ∷ (xs ++ ys))) (suc_sum (length xs) k) ∙ get_back xs ys k

-- the list X stands in the list from number k on
abbrev pub Part : List Spot → ℕ → List Spot → Type 0
Part all k X = (front : List Spot) × (back : List Spot) × (all ≡ front ++ (X ++ back)) × (k ≡ length front)

pub part_get : (all : List Spot) (k : ℕ) (X : List Spot) (j : ℕ) (s : Spot) → Part all k X → slice_get X j ≡ Some s → slice_get all (k + j) ≡ Some s
part_get all k X j s (front, back, e, f) g = ap (λ l. slice_get l (k + j)) e ∙ ap (λ m. slice_get (front ++ (X ++ back)) (m + j)) f
    ∙ get_back front (X ++ back) j ∙ get_front X back j s g

pub part_more : (all more : List Spot) (k : ℕ) (X : List Spot) → Part all k X → Part (all ++ more) k X
part_more all more k X (front, back, e, f) = (front, back ++ more, ap (λ l. l ++ more) e ∙ append_assoc front (X ++ back) more ∙ ap (λ l. front ++ l) (append_assoc X back more), f)

pub part_last : (all X : List Spot) → Part (all ++ X) (length all) X
part_last all X = (all, [], ap (λ l. all ++ l) (sym (append-nil X)), refl)

pub part_first : (X back : List Spot) → Part (X ++ back) 0 X
part_first X back = ([], back, refl, refl)

pub get_spots : (f : ℕ → Option ℕ) (j : ℕ) (cs : List Cell) (m : ℕ) (c : Cell) → slice_get cs m ≡ Some c → slice_get (spots f j cs) m ≡ Some (record { cell = c; place = f (j + m) })
get_spots f j [] m c e = absurd (cc e)
get_spots f j (d ∷ cs) zero c e = let g : d ≡ c = cc e in let n : j ≡ j + 0 = omega arith in
    ap (λ x. Some (record { cell = x; place = f j })) g ∙ ap (λ x. Some (record { cell = c; place = f x })) n
get_spots f j (d ∷ cs) (suc m) c e = get_spots f (suc j) cs m c e ∙ ap (λ x. Some (record { cell = c; place = f x })) (let n : suc j + m ≡ j + suc m = omega arith in n)

abbrev pub cells_of : List Spot → List Cell
cells_of l = map (λ s. s.cell) l

pub cells_of_spots : (f : ℕ → Option ℕ) (j : ℕ) (cs : List Cell) → cells_of (spots f j cs) ≡ cs
cells_of_spots f j [] = refl
cells_of_spots f j (c ∷ cs) = ap (λ l. c ∷ l) (cells_of_spots f (suc j) cs)

pub length_spots : (f : ℕ → Option ℕ) (j : ℕ) (cs : List Cell) → length (spots f j cs) ≡ length cs
length_spots f j [] = refl
length_spots f j (c ∷ cs) = ap suc (length_spots f (suc j) cs)

pub cells_of_append : (l m : List Spot) → cells_of (l ++ m) ≡ cells_of l ++ cells_of m
cells_of_append [] m = refl
cells_of_append (s ∷ l) m = ap (λ t. s.cell ∷ t) (cells_of_append l m)

pub get_cell : (l : List Spot) (i : ℕ) (c : Cell) → slice_get (cells_of l) i ≡ Some c → (s : Spot) × (slice_get l i ≡ Some s) × (s.cell ≡ c)
get_cell [] i c e = absurd (cc e)
get_cell (s ∷ l) zero c e = (s, refl, some_same s.cell c e)
get_cell (s ∷ l) (suc i) c e = get_cell l i c e

-- the first cell that is due is passed
pub passed : (done rest more : List Spot) (s : Spot) → (done ++ s ∷ []) ++ (rest ++ more) ≡ (done ++ s ∷ rest) ++ more
passed done rest more s = append_assoc done (s ∷ []) (rest ++ more) ∙ sym (append_assoc done (s ∷ rest) more)
