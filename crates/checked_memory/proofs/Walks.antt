-- The walk over the touched blocks, and what stands below an index.
use Rattle.std.proofs.Common.{◌≡◌, ◌≢◌, ℕ, zero, suc, ◌+◌, ◌-◌, ◌<◌, ◌≤◌, inl, inr, ℤ, List, [], ◌∷◌, ◌++◌, length, length-append, take, Option, Some, None, refl, sym, ap, ◌∙◌, subst, arith, get_or}
use Rattle.std.proofs.Math.Seq.{take-suc}
use Rattle.std.proofs.lemmas.Bool.{cases_lt}
use Rattle.std.proofs.lemmas.List.{take_all, get_or-map, length-map}
use Rattle.checked_memory.specs.declared.values.Cell.{Cell}
use Rattle.checked_memory.specs.declared.places.Block.{Block}
use Rattle.checked_memory.specs.declared.places.Object.{Object}
use Rattle.checked_memory.specs.Contents.{TouchedBlock, IsTouched}
use Rattle.checked_memory.specs.Entries.{Entry, plain, block, entry_of, entries, made_of, touched_of, block_of, block_there, LinkedBy, Linked, IsBlock, IsMade}

-- an entry that stands nowhere
abbrev pub nothing : Entry
nothing = plain []

-- 1 for a touched block
abbrev pub one : Option Block → ℕ
one None = 0
one (Some b) = 1

-- how many touched blocks stand below an index
abbrev pub blocks_below : List Entry → ℕ → ℕ
blocks_below es zero = 0
blocks_below es (suc n) = one (block_there es n) + blocks_below es n

pub touched_append : (es fs : List Entry) → touched_of (es ++ fs) ≡ touched_of es ++ touched_of fs
touched_append [] fs = refl
touched_append (plain cs ∷ es) fs = touched_append es fs
touched_append (block b cs ∷ es) fs = ap (λ (l : List TouchedBlock). record { address = b.address; cells = cs } ∷ l) (touched_append es fs)

pub made_append : (es fs : List Entry) → made_of (es ++ fs) ≡ made_of es ++ made_of fs
made_append [] fs = refl
made_append (plain cs ∷ es) fs = ap (λ (l : List (List Cell)). cs ∷ l) (made_append es fs)
made_append (block b cs ∷ es) fs = made_append es fs

take_zero : (es : List Entry) → take zero es ≡ []
take_zero [] = refl
take_zero (e ∷ es) = refl

touched_one : (e : Entry) → length (touched_of (e ∷ [])) ≡ one (block_of e)
touched_one (plain cs) = refl
touched_one (block b cs) = refl

made_one : (e : Entry) → length (made_of (e ∷ [])) + one (block_of e) ≡ 1
made_one (plain cs) = refl
made_one (block b cs) = refl

-- how many of each kind stand below an index
pub counts : (es : List Entry) (n : ℕ) → n ≤ length es → (length (touched_of (take n es)) ≡ blocks_below es n) × (length (made_of (take n es)) + blocks_below es n ≡ n)
counts es zero h = (ap (λ (l : List Entry). length (touched_of l)) (take_zero es), ap (λ (l : List Entry). length (made_of l) + 0) (take_zero es))
counts es (suc n) h =
    let so_far = counts es n (omega (arith, h)) in
    let e : Entry = get_or es n nothing in
    let grown : take (suc n) es ≡ take n es ++ (e ∷ []) = take-suc es n nothing (omega (arith, h)) in
    let touched : length (touched_of (take (suc n) es)) ≡ length (touched_of (take n es)) + length (touched_of (e ∷ [])) = ap (λ (l : List Entry). length (touched_of l)) grown ∙ ap length (touched_append (take n es) (e ∷ [])) ∙ length-append _ _ in
    let made : length (made_of (take (suc n) es)) ≡ length (made_of (take n es)) + length (made_of (e ∷ [])) = ap (λ (l : List Entry). length (made_of l)) grown ∙ ap length (made_append (take n es) (e ∷ [])) ∙ length-append _ _ in
    let a = touched_one e in
    let b = made_one e in
    (omega (arith, touched, a, so_far.0), omega (arith, made, b, so_far.1))

-- where no block is linked, none stands below
pub none_below : (es : List Entry) (n : ℕ) → Linked es n None → (i : ℕ) → i < n → block_there es i ≡ None
none_below es zero h i b = absurd (omega (arith, b))
none_below es (suc n) h i b = at (block_there es n) refl h (λ g. none_below es n g i)
  where
    at : (x : Option Block) → block_there es n ≡ x → LinkedBy x n None (λ before. Linked es n before) → (Linked es n None → i < n → block_there es i ≡ None) → block_there es i ≡ None
    at None e g k = elim (cases_lt i n) [ inl q ↦ k g q | inr q ↦ ap (λ (j : ℕ). block_there es j) (let s : i ≡ n = omega (arith, q, b) in s) ∙ e ]
    at (Some x) e g k = absurd (cc (g.0))

-- what is known of a linked block
pub record Step (es : List Entry) (n t : ℕ) : Type 0 where
  pub there : Block
  pub below : t < n
  pub stands : block_there es t ≡ Some there
  pub rest : Linked es t there.before
  pub between : (i : ℕ) → t < i → i < n → block_there es i ≡ None

pub step_of : (es : List Entry) (n : ℕ) (link : Option ℕ) (t : ℕ) → link ≡ Some t → Linked es n link → Step es n t
step_of es zero link t l h = absurd (cc (h, l))
step_of es (suc n) link t l h = at (block_there es n) refl h (λ g. step_of es n link t l g)
  where
    at : (x : Option Block) → block_there es n ≡ x → LinkedBy x n link (λ before. Linked es n before) → (Linked es n link → Step es n t) → Step es (suc n) t
    at None e g k =
        let s = k g in
        record {
          there = s.there;
          below = omega (arith, s.below);
          stands = s.stands;
          rest = s.rest;
          between = λ i p q. elim (cases_lt i n) [ inl r ↦ s.between i p r | inr r ↦ ap (λ (j : ℕ). block_there es j) (let u : i ≡ n = omega (arith, r, q) in u) ∙ e ];
        }
    at (Some x) e g k =
        let same : n ≡ t = cc (g.0, l) in
        subst (λ (j : ℕ). Step es (suc n) j) same (record {
          there = x;
          below = omega arith;
          stands = e;
          rest = g.1;
          between = λ i p q. absurd (omega (arith, p, q));
        })

-- with no block between two indexes, as many stand below each
pub flat : (es : List Entry) (m i : ℕ) → m ≤ i → ((j : ℕ) → m ≤ j → j < i → block_there es j ≡ None) → blocks_below es i ≡ blocks_below es m
flat es m zero b h = ap (λ (j : ℕ). blocks_below es j) (let s : zero ≡ m = omega (arith, b) in s)
flat es m (suc i) b h =
    elim (cases_lt i m) [
      | inl q ↦ ap (λ (j : ℕ). blocks_below es j) (let s : suc i ≡ m = omega (arith, b, q) in s)
      | inr q ↦
          let here : one (block_there es i) ≡ 0 = ap one (h i q (omega arith)) in
          let below = flat es m i q (λ j p r. h j p (omega (arith, r))) in
          omega (arith, here, below)
    ]

-- below the index after a linked block stands one block more than below it
pub one_more : (es : List Entry) (n t i : ℕ) → Step es n t → t < i → i ≤ n → blocks_below es i ≡ blocks_below es t + 1
one_more es n t i s p q =
    let same : blocks_below es i ≡ blocks_below es (suc t) = flat es (suc t) i (omega (arith, p)) (λ j a b. s.between j (omega (arith, a)) (omega (arith, b, q))) in
    let here : one (block_there es t) ≡ 1 = ap one s.stands in
    omega (arith, same, here)

-- a block that stands at an index is touched
pub touched_there : (es : List Entry) (i : ℕ) (b : Block) → block_there es i ≡ Some b → IsTouched b.address (touched_of es)
touched_there [] i b h = absurd (cc h)
touched_there (plain cs ∷ es) zero b h = absurd (cc h)
touched_there (plain cs ∷ es) (suc i) b h = touched_there es i b h
touched_there (block x cs ∷ es) zero b h = inl (let e : x ≡ b = cc h in ap (λ (y : Block). y.address) e)
touched_there (block x cs ∷ es) (suc i) b h = inr (touched_there es i b h)

-- a touched block stands at an index
pub record Stands (es : List Entry) (a : ℤ) : Type 0 where
  pub index : ℕ
  pub there : Block
  pub inside : index < length es
  pub stands : block_there es index ≡ Some there
  pub same_address : there.address ≡ a

pub stands_there : (es : List Entry) (a : ℤ) → IsTouched a (touched_of es) → Stands es a
stands_there [] a h = absurd h
stands_there (plain cs ∷ es) a h =
    let s = stands_there es a h in
    record { index = suc s.index; there = s.there; inside = omega (arith, s.inside); stands = s.stands; same_address = s.same_address }
stands_there (block b cs ∷ es) a (inl e) = record { index = zero; there = b; inside = omega arith; stands = refl; same_address = e }
stands_there (block b cs ∷ es) a (inr h) =
    let s = stands_there es a h in
    record { index = suc s.index; there = s.there; inside = omega (arith, s.inside); stands = s.stands; same_address = s.same_address }

-- how many of each kind there are
pub all_counts : (es : List Entry) → (length (touched_of es) ≡ blocks_below es (length es)) × (length (made_of es) + blocks_below es (length es) ≡ length es)
all_counts es =
    let c = counts es (length es) (omega arith) in
    let e : take (length es) es ≡ es = take_all (length es) es (omega arith) in
    (ap (λ (l : List Entry). length (touched_of l)) (sym e) ∙ c.0, ap (λ (l : List Entry). length (made_of l) + blocks_below es (length es)) (sym e) ∙ c.1)

-- what is left of a walk
abbrev pub height : Option ℕ → ℕ
height None = 0
height (Some t) = t + 1

pub height_most : (es : List Entry) (n : ℕ) (link : Option ℕ) → Linked es n link → height link ≤ n
height_most es n None h = omega arith
height_most es n (Some t) h =
    let s = step_of es n (Some t) t refl h in
    omega (arith, s.below)

-- the walk for the made object with a number: it stands below n, and index counts it and the blocks below n
pub record Counting (es : List Entry) (link : Option ℕ) (number index : ℕ) : Type 0 where
  pub n : ℕ
  pub within : n ≤ length es
  pub linked : Linked es n link
  pub sum : index ≡ number + blocks_below es n
  pub below : index < n

pub counting_first : (es : List Entry) (link : Option ℕ) (number touched : ℕ) → Linked es (length es) link → touched ≡ length (touched_of es) → number < length (made_of es) → Counting es link number (number + touched)
counting_first es link number touched h t m =
    let c = all_counts es in
    record { n = length es; within = omega arith; linked = h; sum = omega (arith, t, c.0); below = omega (arith, t, c.0, c.1, m) }

pub counting_inside : (es : List Entry) (link : Option ℕ) (number index t : ℕ) → Counting es link number index → link ≡ Some t → (t < length es) × (1 ≤ index)
counting_inside es link number index t c e =
    let s = step_of es c.n link t e c.linked in
    let more : blocks_below es c.n ≡ blocks_below es t + 1 = one_more es c.n t c.n s s.below (omega arith) in
    (omega (arith, s.below, c.within), omega (arith, c.sum, more))

-- a link names a block
pub counting_some : (es : List Entry) (link : Option ℕ) (number index t : ℕ) → Counting es link number index → link ≡ Some t → (b : Block) × (block_there es t ≡ Some b)
counting_some es link number index t c e =
    let s = step_of es c.n link t e c.linked in
    (s.there, s.stands)

pub counting_step : (es : List Entry) (link : Option ℕ) (number index t : ℕ) (b : Block) → Counting es link number index → link ≡ Some t → index ≤ t → block_there es t ≡ Some b → Counting es b.before number (index - 1) × (height b.before < height link)
counting_step es link number index t b c e p w =
    let s = step_of es c.n link t e c.linked in
    let more : blocks_below es c.n ≡ blocks_below es t + 1 = one_more es c.n t c.n s s.below (omega arith) in
    let same : s.there ≡ b = cc (s.stands, w) in
    let rest : Linked es t b.before = subst (λ (x : Block). Linked es t x.before) same s.rest in
    let low = height_most es t b.before rest in
    let high : height link ≡ t + 1 = ap height e in
    (record { n = t; within = omega (arith, s.below, c.within); linked = rest; sum = omega (arith, c.sum, more); below = omega (arith, c.sum, more, p) }, omega (arith, low, high))

pub counting_found : (es : List Entry) (link : Option ℕ) (number index t : ℕ) → Counting es link number index → link ≡ Some t → t < index → IsMade es number index
counting_found es link number index t c e p =
    let s = step_of es c.n link t e c.linked in
    let all : blocks_below es c.n ≡ blocks_below es t + 1 = one_more es c.n t c.n s s.below (omega arith) in
    let here : blocks_below es index ≡ blocks_below es t + 1 = one_more es c.n t index s p (omega (arith, c.below)) in
    let k = counts es index (omega (arith, c.below, c.within)) in
    record { inside = omega (arith, c.below, c.within); stands = s.between index p c.below; numbered = omega (arith, k.1, here, all, c.sum) }

pub counting_last : (es : List Entry) (link : Option ℕ) (number index : ℕ) → Counting es link number index → link ≡ None → IsMade es number index
counting_last es link number index c e =
    let linked : Linked es c.n None = subst (λ (l : Option ℕ). Linked es c.n l) e c.linked in
    let none = none_below es c.n linked in
    let all : blocks_below es c.n ≡ 0 = flat es 0 c.n (omega arith) (λ j p q. none j q) in
    let here : blocks_below es index ≡ 0 = flat es 0 index (omega arith) (λ j p q. none j (omega (arith, q, c.below))) in
    let k = counts es index (omega (arith, c.below, c.within)) in
    record { inside = omega (arith, c.below, c.within); stands = none index c.below; numbered = omega (arith, k.1, here, all, c.sum) }

-- the walk for the block at an address: it does not stand from n on, and rank counts the blocks below n
pub record Searching (es : List Entry) (link : Option ℕ) (address : ℤ) (rank : ℕ) : Type 0 where
  pub n : ℕ
  pub within : n ≤ length es
  pub linked : Linked es n link
  pub counted : rank ≡ blocks_below es n
  pub passed : (i : ℕ) (b : Block) → n ≤ i → i < length es → block_there es i ≡ Some b → b.address ≢ address

pub searching_first : (es : List Entry) (link : Option ℕ) (a : ℤ) (touched : ℕ) → Linked es (length es) link → touched ≡ length (touched_of es) → Searching es link a touched
searching_first es link a touched h t =
    let c = all_counts es in
    record { n = length es; within = omega arith; linked = h; counted = omega (arith, t, c.0); passed = λ i b p q. absurd (omega (arith, p, q)) }

pub searching_inside : (es : List Entry) (link : Option ℕ) (a : ℤ) (rank t : ℕ) → Searching es link a rank → link ≡ Some t → (t < length es) × (1 ≤ rank)
searching_inside es link a rank t c e =
    let s = step_of es c.n link t e c.linked in
    let more : blocks_below es c.n ≡ blocks_below es t + 1 = one_more es c.n t c.n s s.below (omega arith) in
    (omega (arith, s.below, c.within), omega (arith, c.counted, more))

-- a link names a block
pub searching_some : (es : List Entry) (link : Option ℕ) (a : ℤ) (rank t : ℕ) → Searching es link a rank → link ≡ Some t → (b : Block) × (block_there es t ≡ Some b)
searching_some es link a rank t c e =
    let s = step_of es c.n link t e c.linked in
    (s.there, s.stands)

pub searching_step : (es : List Entry) (link : Option ℕ) (a : ℤ) (rank t : ℕ) (b : Block) → Searching es link a rank → link ≡ Some t → block_there es t ≡ Some b → b.address ≢ a → Searching es b.before a (rank - 1) × (height b.before < height link)
searching_step es link a rank t b c e w d =
    let s = step_of es c.n link t e c.linked in
    let more : blocks_below es c.n ≡ blocks_below es t + 1 = one_more es c.n t c.n s s.below (omega arith) in
    let same : s.there ≡ b = cc (s.stands, w) in
    let rest : Linked es t b.before = subst (λ (x : Block). Linked es t x.before) same s.rest in
    let low = height_most es t b.before rest in
    let high : height link ≡ t + 1 = ap height e in
    (record { n = t; within = omega (arith, s.below, c.within); linked = rest; counted = omega (arith, c.counted, more); passed = past s }, omega (arith, low, high))
  where
    past : Step es c.n t → (i : ℕ) (x : Block) → t ≤ i → i < length es → block_there es i ≡ Some x → x.address ≢ a
    past s i x p q r =
        elim (cases_lt t i) [
          | inl u ↦ elim (cases_lt i c.n) [ inl v ↦ absurd (cc (s.between i u v, r)) | inr v ↦ c.passed i x v q r ]
          | inr u ↦
              let j : i ≡ t = omega (arith, p, u) in
              let k : b ≡ x = cc (w, r, ap (λ (y : ℕ). block_there es y) j) in
              subst (λ (y : Block). y.address ≢ a) k d
        ]

pub searching_found : (es : List Entry) (link : Option ℕ) (a : ℤ) (rank t : ℕ) (b : Block) → Searching es link a rank → link ≡ Some t → block_there es t ≡ Some b → b.address ≡ a → IsBlock es a t (rank - 1)
searching_found es link a rank t b c e w d =
    let s = step_of es c.n link t e c.linked in
    let more : blocks_below es c.n ≡ blocks_below es t + 1 = one_more es c.n t c.n s s.below (omega arith) in
    let k = counts es t (omega (arith, s.below, c.within)) in
    record { there = b; inside = omega (arith, s.below, c.within); stands = w; same_address = d; ranked = omega (arith, k.0, c.counted, more) }

pub searching_none : (es : List Entry) (link : Option ℕ) (a : ℤ) (rank : ℕ) → Searching es link a rank → link ≡ None → IsTouched a (touched_of es) → ⊥
searching_none es link a rank c e h =
    let s = stands_there es a h in
    let linked : Linked es c.n None = subst (λ (l : Option ℕ). Linked es c.n l) e c.linked in
    elim (cases_lt s.index c.n) [
      | inl u ↦ absurd (cc (none_below es c.n linked s.index u, s.stands))
      | inr u ↦ c.passed s.index s.there u s.inside s.stands s.same_address
    ]

pub block_entry : (x : Option Block) (cs : List Cell) → block_of (entry_of x cs) ≡ x
block_entry None cs = refl
block_entry (Some b) cs = refl

-- the block of an object is the block of its entry
pub object_block : (os : List Object) (i : ℕ) (d : Object) → i < length os → block_there (entries os) i ≡ (get_or os i d).block
object_block os i d h = ap block_of (get_or-map (λ (o : Object). entry_of o.block o.cells.items) os i d nothing h) ∙ block_entry _ _

-- each object has an entry
pub as_many : (os : List Object) → length (entries os) ≡ length os
as_many os = length-map os (λ (o : Object). entry_of o.block o.cells.items)
