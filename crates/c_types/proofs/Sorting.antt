-- Marks that were sorted by their keys stand in order.
use Rattle.std.proofs.Common.{◌≡◌, ◌∙◌, refl, sym, ap, subst, ℕ, ◌+◌, ◌*◌, ◌<◌, ◌≤◌, ◌&&◌, ◌||◌, Bool, true, false, nat_eq, nat_lt, nat_le, if◌then◌else◌, List, [], ◌∷◌, map, flat_map, Result, Ok, Err, IfOk, arith}
use Rattle.std.proofs.lemmas.Bool.Decides.{nat_tests}
use Rattle.std.specs.List.Sorted.{IsPermutation, IsNonDecreasingBy}
use Rattle.cc_model.specs.declared.checked.SiteKind.{SiteKind}
use Rattle.cc_model.specs.declared.checked.SiteKind.TheVariants.{Decision, Fit, Divisor, Index, Access}
use Rattle.cc_model.specs.Sites.{Mark, kind_rank, not_after, inserted, in_order, item_sites, sites_in}
use Rattle.cc_model.specs.declared.checked.Site.{Site}
use Rattle.cc_model.specs.declared.tokens.Token.{Token}
use Rattle.cc_model.specs.declared.trees.Item.{Item}
use Rattle.cc_model.specs.CheckedProgram.{site_of}
use Rattle.c_trees.specs.declared.walk.Mark.{Mark as Found}
use Rattle.c_trees.specs.Walks.{mark}
use Rattle.c_types.specs.Ranks.{place}
use Rattle.c_types.proofs.Rising.{Above, Rises, hit, times, above_more, same_rising, rises_from, times_moved}

small : (k : SiteKind) → kind_rank k < 8
small Decision = omega arith
small Divisor = omega arith
small Fit = omega arith
small Index = omega arith
small Access = omega arith

before : (s t p q : ℕ) → p < 8 → q < 8 → (nat_lt s t || (nat_eq s t && nat_le p q)) ≡ true → 8 * s + p ≤ 8 * t + q
before s t p q h g e = grind (arith, nat_tests)

beyond : (s t p q : ℕ) → p < 8 → q < 8 → (nat_lt s t || (nat_eq s t && nat_le p q)) ≡ false → 8 * t + q ≤ 8 * s + p
beyond s t p q h g e = grind (arith, nat_tests)

-- ---- the insertion

above_inserted : (n : ℕ) (m : Mark) (l : List Mark) → n ≤ place m → Above n (map place l) → Above n (map place (inserted m l))
above_inserted n m [] h a = (h, tt)
above_inserted n m (x ∷ l) h a = elim (not_after m x) as (λ b. Above n (map place (if b then m ∷ x ∷ l else x ∷ inserted m l))) [ true ↦ (h, a) | false ↦ (a.0, above_inserted n m l h a.1) ]

rises_placed : (m x : Mark) (l : List Mark) (b : Bool) → not_after m x ≡ b → Rises (map place (x ∷ l)) → Rises (map place (inserted m l)) → Rises (map place (if b then m ∷ x ∷ l else x ∷ inserted m l))
rises_placed m x l true e r s = let le = before m.token x.token (kind_rank m.kind) (kind_rank x.kind) (small m.kind) (small x.kind) e in ((le, above_more (place m) (place x) (map place l) le r.0), r)
rises_placed m x l false e r s = let le = beyond m.token x.token (kind_rank m.kind) (kind_rank x.kind) (small m.kind) (small x.kind) e in (above_inserted (place x) m l le r.0, s)

rises_inserted : (m : Mark) (l : List Mark) → Rises (map place l) → Rises (map place (inserted m l))
rises_inserted m [] r = (tt, tt)
rises_inserted m (x ∷ l) r = rises_placed m x l (not_after m x) refl r (rises_inserted m l r.1)

rises_in_order : (l : List Mark) → Rises (map place (in_order l))
rises_in_order [] = tt
rises_in_order (m ∷ l) = rises_inserted m (in_order l) (rises_in_order l)

times_inserted : (k : ℕ) (m : Mark) (l : List Mark) → times k (map place (inserted m l)) ≡ hit k (place m) + times k (map place l)
times_inserted k m [] = refl
times_inserted k m (x ∷ l) = elim (not_after m x) as (λ b. times k (map place (if b then m ∷ x ∷ l else x ∷ inserted m l)) ≡ hit k (place m) + times k (map place (x ∷ l)))
    [ true ↦ refl | false ↦ (let h = times_inserted k m l in omega (arith, h)) ]

times_in_order : (k : ℕ) (l : List Mark) → times k (map place (in_order l)) ≡ times k (map place l)
times_in_order k [] = refl
times_in_order k (m ∷ l) = times_inserted k m (in_order l) ∙ ap (λ x. hit k (place m) + x) (times_in_order k l)

-- ---- marks by their keys

same_kind : (a b : SiteKind) → kind_rank a ≡ kind_rank b → a ≡ b
same_kind Decision Decision h = refl
same_kind Fit Fit h = refl
same_kind Divisor Divisor h = refl
same_kind Index Index h = refl
same_kind Access Access h = refl
same_kind Decision Fit h = absurd (omega arith)
same_kind Decision Divisor h = absurd (omega arith)
same_kind Decision Index h = absurd (omega arith)
same_kind Decision Access h = absurd (omega arith)
same_kind Fit Decision h = absurd (omega arith)
same_kind Fit Divisor h = absurd (omega arith)
same_kind Fit Index h = absurd (omega arith)
same_kind Fit Access h = absurd (omega arith)
same_kind Divisor Decision h = absurd (omega arith)
same_kind Divisor Fit h = absurd (omega arith)
same_kind Divisor Index h = absurd (omega arith)
same_kind Divisor Access h = absurd (omega arith)
same_kind Index Decision h = absurd (omega arith)
same_kind Index Fit h = absurd (omega arith)
same_kind Index Divisor h = absurd (omega arith)
same_kind Index Access h = absurd (omega arith)
same_kind Access Decision h = absurd (omega arith)
same_kind Access Fit h = absurd (omega arith)
same_kind Access Divisor h = absurd (omega arith)
same_kind Access Index h = absurd (omega arith)

parts : (s t p q : ℕ) → p < 8 → q < 8 → 8 * s + p ≡ 8 * t + q → (s ≡ t) × (p ≡ q)
parts s t p q h g e = (omega arith, omega arith)

same_mark : (a b : Mark) → place a ≡ place b → a ≡ b
same_mark a b h = let p = parts a.token b.token (kind_rank a.kind) (kind_rank b.kind) (small a.kind) (small b.kind) h in λ d. record { token = p.0 d; kind = same_kind a.kind b.kind p.1 d }

same_marks : (a b : List Mark) → map place a ≡ map place b → a ≡ b
same_marks [] [] h = refl
same_marks [] (y ∷ b) h = cc
same_marks (x ∷ a) [] h = cc
same_marks (x ∷ a) (y ∷ b) h =
    let e : place x ≡ place y = cc in let f : map place a ≡ map place b = cc in
    let i = same_mark x y e in let j = same_marks a b f in λ d. i d ∷ j d

mapped : {X Y Z : Type 0} (f : X → Y) (g : Y → Z) (l : List X) → map g (map f l) ≡ map (λ x. g (f x)) l
mapped f g [] = refl
mapped f g (x ∷ l) = ap (λ y. g (f x) ∷ y) (mapped f g l)

pub sorted_marks : {X : Type 0} (f : X → Mark) (xs ys : List X) → IsPermutation xs ys → IsNonDecreasingBy (λ x. place (f x)) ys → map f ys ≡ in_order (map f xs)
sorted_marks f xs ys p r = same_marks (map f ys) (in_order (map f xs)) (same_rising (map place (map f ys)) (map place (in_order (map f xs)))
    (subst Rises (sym (mapped f place ys)) (rises_from (λ x. place (f x)) ys r)) (rises_in_order (map f xs))
    (λ k. ap (times k) (mapped f place ys) ∙ times_moved (λ x. place (f x)) xs ys k p ∙ sym (ap (times k) (mapped f place xs)) ∙ sym (times_in_order k (map f xs))))

-- ---- the sites of a program

pub sites_sorted : {E : Type 0} (r : Result (List Site) E) (tokens : List Token) (items : List Item) (found given sorted read : List Found) → map mark found ≡ flat_map item_sites items → given ≡ found
    → IsPermutation given sorted → IsNonDecreasingBy (λ m. place (mark m)) sorted → read ≡ sorted → IfOk r (λ l. l ≡ map (λ m. site_of tokens (mark m)) read) → IfOk r (λ l. l ≡ map (site_of tokens) (sites_in items))
sites_sorted (Err x) tokens items found given sorted read h g p n e i = tt
sites_sorted (Ok l) tokens items found given sorted read h g p n e i = i ∙ ap (map (λ (m : Found). site_of tokens (mark m))) e ∙ sym (mapped mark (site_of tokens) sorted)
    ∙ ap (map (site_of tokens)) (sorted_marks mark given sorted p n ∙ ap (λ (x : List Found). in_order (map mark x)) g ∙ ap in_order h)
