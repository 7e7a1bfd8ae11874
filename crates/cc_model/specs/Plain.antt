-- The plain domain: 32-bit numbers and pointers, and a memory of objects (ISO/IEC 9899:2011, 6.2.4, 6.2.5, 6.5).
-- A pointer is NULL or an object with a cell offset; all objects live to the end of the run.
use Rattle.std.specs.Prelude.{ℕ, zero, suc, ◌+◌, ◌*◌, ℤ, pos, negsuc, ◌+ℤ◌, ◌-ℤ◌, ◌*ℤ◌, neg_ℤ, Bool, true, false, not, ◌&&◌, ◌||◌, List, [], ◌∷◌, ◌++◌, length, map, Option, Some, None, slice_get, slice_set, nat_eq, nat_lt, int_lt, int_le, int_div, int_rem, if◌then◌else◌}
use Rattle.cc_base.specs.declared.outcomes.Outcome.{Outcome}
use Rattle.cc_base.specs.declared.outcomes.Outcome.TheVariants.{Zero, High, Low, Plain, False, True, Object}
use Rattle.cc_model.specs.Core as tree
use Rattle.cc_model.specs.Core.{Cell, int_cell, ptr_cell, Layout, Op, Cmp}
use Rattle.cc_model.specs.Domain.{Act, act_arith, act_divisor, act_negate, act_compare, act_test, act_access, act_index, Acted, Made, Domain}

-- an object: a block of the input, by its name, or one that the run made, by its number
pub data Obj : Type 0 where
  block : (name : ℕ) → Obj
  made : (n : ℕ) → Obj

pub data Value : Type 0 where
  num : (z : ℤ) → Value
  null : Value
  at : (o : Obj) → (cell : ℕ) → Value

pub record Block : Type 0 where
  pub name : ℕ
  pub cells : List Value

pub record Data : Type 0 where
  pub blocks : ℕ → List Value
  pub made : List (List Value)
  pub touched : List ℕ
  pub stream : List ℤ
  pub base : ℤ
  pub count : ℕ

-- ---- numbers

unfoldable pub apply : Op → ℤ → ℤ → ℤ
apply tree.add x y = x +ℤ y
apply tree.sub x y = x -ℤ y
apply tree.mul x y = x *ℤ y
apply tree.quot x y = int_div x y
apply tree.rem x y = int_rem x y

-- what has to fit: of a remainder it is the quotient
unfoldable pub fitting : Op → ℤ → ℤ → ℤ
fitting tree.rem x y = int_div x y
fitting o x y = apply o x y

unfoldable pub fit_of : ℤ → Outcome
fit_of z = if int_lt (pos 2147483647) z then High else (if int_lt z (negsuc 2147483647) then Low else Plain)

unfoldable pub decision_of : Bool → Outcome
decision_of true = True
decision_of false = False

unfoldable pub int_eq : ℤ → ℤ → Bool
int_eq x y = int_le x y && int_le y x

unfoldable pub compare_int : Cmp → ℤ → ℤ → Bool
compare_int tree.eq x y = int_eq x y
compare_int tree.ne x y = not (int_eq x y)
compare_int tree.lt x y = int_lt x y
compare_int tree.gt x y = int_lt y x
compare_int tree.le x y = int_le x y
compare_int tree.ge x y = int_le y x

-- ---- pointers

unfoldable pub same_obj : Obj → Obj → Bool
same_obj (block a) (block b) = nat_eq a b
same_obj (made m) (made n) = nat_eq m n
same_obj _ _ = false

unfoldable pub same_ptr : Value → Value → Bool
same_ptr (at o c) (at p e) = same_obj o p && nat_eq c e
same_ptr null null = true
same_ptr _ _ = false

unfoldable pub compare_ptr : Cmp → Value → Value → Bool
compare_ptr tree.ne v w = not (same_ptr v w)
compare_ptr _ v w = same_ptr v w

unfoldable pub compared : Cmp → Value → Value → Bool
compared o (num x) (num y) = compare_int o x y
compared o v w = compare_ptr o v w

unfoldable pub is_truth : Value → Bool
is_truth (num z) = not (int_eq z (pos 0))
is_truth null = false
is_truth (at o c) = true

-- the rank of a block among those that were accessed
unfoldable pub rank : ℕ → List ℕ → ℕ
rank a [] = 0
rank a (b ∷ l) = if nat_eq a b then 0 else suc (rank a l)

unfoldable pub has : ℕ → List ℕ → Bool
has a [] = false
has a (b ∷ l) = nat_eq a b || has a l

unfoldable pub touch : ℕ → List ℕ → List ℕ
touch a l = if has a l then l else l ++ a ∷ []

-- ---- memory

unfoldable pub block_cells : ℕ → List Block → List Value
block_cells a [] = []
block_cells a (b ∷ l) = if nat_eq a b.name then b.cells else block_cells a l

unfoldable pub with_block : ℕ → List Value → (ℕ → List Value) → ℕ → List Value
with_block a cells f = λ b. if nat_eq b a then cells else f b

unfoldable pub or_none : {A : Type 0} → A → Option A → A
or_none a None = a
or_none a (Some b) = b

unfoldable pub cells_of : Obj → Data → List Value
cells_of (block a) d = d.blocks a
cells_of (made n) d = or_none [] (slice_get d.made n)

unfoldable pub with_cells : Obj → List Value → Data → Data
with_cells (block a) cells d = record d { blocks = with_block a cells d.blocks }
with_cells (made n) cells d = record d { made = slice_set d.made n cells }

unfoldable pub load : Value → Data → Value
load (at o c) d = or_none null (slice_get (cells_of o d) c)
load _ d = null

unfoldable pub store : Value → Value → Data → Data
store (at o c) v d = with_cells o (slice_set (cells_of o d) c v) d
store _ v d = d

unfoldable pub zero_cell : Cell → Value
zero_cell int_cell = num (pos 0)
zero_cell (ptr_cell t) = null

unfoldable pub make : Layout → Data → Made Value Data
make t d = record { value = at (made (length d.made)) 0; after = record d { made = d.made ++ map zero_cell t.cells ∷ [] } }

unfoldable pub take : Value → Data → Data
take p d = store p (num (or_none d.base (slice_get d.stream d.count))) (record d { count = suc d.count })

unfoldable pub offset : Value → ℕ → Value
offset (at o c) n = at o (c + n)
offset v n = v

-- ---- events

unfoldable pub nat_of : ℤ → ℕ
nat_of (pos n) = n
nat_of (negsuc n) = 0

unfoldable pub index_of : ℤ → ℕ → Outcome
index_of (negsuc i) n = Low
index_of (pos i) n = if nat_lt i n then Plain else High

unfoldable pub acted : Outcome → Value → Data → Acted Value Data Outcome
acted o v d = record { event = o; value = v; after = d }

unfoldable pub access_in : Value → Data → Acted Value Data Outcome
access_in (at (block a) c) d = acted (Object (rank a d.touched)) (at (block a) c) (record d { touched = touch a d.touched })
access_in (at (made n) c) d = acted Plain (at (made n) c) d
access_in v d = acted Zero v d

unfoldable pub number_of : Value → ℤ
number_of (num z) = z
number_of _ = pos 0

unfoldable pub act : Act Value → Data → Acted Value Data Outcome
act (act_arith o a b) d = acted (fit_of (fitting o (number_of a) (number_of b))) (num (apply o (number_of a) (number_of b))) d
act (act_divisor a b) d = acted (if int_eq (number_of b) (pos 0) then Zero else Plain) b d
act (act_negate a) d = acted (fit_of (neg_ℤ (number_of a))) (num (neg_ℤ (number_of a))) d
act (act_compare o a b) d = acted (decision_of (compared o a b)) a d
act (act_test a) d = acted (decision_of (is_truth a)) a d
act (act_access a) d = access_in a d
act (act_index p i n w) d = acted (index_of (number_of i) n) (offset p (nat_of (number_of i) * w)) d

abbrev pub plain : Domain
plain = record {
  V = Value;
  D = Data;
  E = Outcome;
  outcome = λ o. o;
  act = act;
  number = num;
  nil = null;
  offset = offset;
  global = λ n. at (made 0) n;
  load = load;
  store = store;
  make = make;
  take = take;
}

-- ---- the input as a memory: the parameters' cells are objects of one cell each, after the globals

-- the cells from an address on: the types that are due, and the values
unfoldable pub value_at : Cell → ℤ → Value
value_at int_cell z = num z
value_at (ptr_cell t) (pos zero) = null
value_at (ptr_cell t) (pos (suc n)) = at (block (suc n)) 0
value_at (ptr_cell t) (negsuc n) = null

-- a block that a pointer cell names for the first time: it begins at `next`
unfoldable pub names_new : Cell → ℤ → ℕ → Bool
names_new (ptr_cell t) (pos n) next = nat_eq n next
names_new _ z next = false

unfoldable pub target : Cell → ℕ
target int_cell = 0
target (ptr_cell t) = t

-- what is read of the input: the values from the least address, and the blocks with their types, in order of address
pub record Scan : Type 0 where
  pub values : List Value
  pub found : List Layout

module _ (layout : ℕ → List Cell) where
  unfoldable pub scan : List ℤ → List Cell → ℕ → Scan
  scan [] due next = record { values = []; found = [] }
  scan (z ∷ zs) [] next = record { values = []; found = [] }
  scan (z ∷ zs) (c ∷ due) next = if names_new c z next
      then (let r = scan zs (due ++ layout (target c)) (next + length (layout (target c))) in record { values = value_at c z ∷ r.values; found = record { type = next; cells = layout (target c) } ∷ r.found })
      else (let r = scan zs due next in record { values = value_at c z ∷ r.values; found = r.found })

unfoldable pub front : ℕ → List Value → List Value
front zero vs = []
front (suc n) [] = []
front (suc n) (v ∷ vs) = v ∷ front n vs

unfoldable pub back : ℕ → List Value → List Value
back zero vs = vs
back (suc n) [] = []
back (suc n) (v ∷ vs) = back n vs

-- the blocks, from the values after the parameters'; here a layout's `type` is the block's address
unfoldable pub blocks_of : List Layout → List Value → List Block
blocks_of [] vs = []
blocks_of (t ∷ ts) vs = record { name = t.type; cells = front (length t.cells) vs } ∷ blocks_of ts (back (length t.cells) vs)

unfoldable pub data_of : (ℕ → List Cell) → List Cell → List Value → List ℤ → List ℤ → ℤ → Data
data_of layout params globals cells stream base =
    let r = scan layout cells params (suc (length params)) in
    record {
      blocks = λ a. block_cells a (blocks_of r.found (back (length params) r.values));
      made = globals ∷ map (λ v. v ∷ []) (front (length params) r.values);
      touched = [];
      stream = stream;
      base = base;
      count = 0;
    }

-- parameter n is object n + 1
unfoldable pub locals_at : ℕ → Value
locals_at n = at (made (suc n)) 0
