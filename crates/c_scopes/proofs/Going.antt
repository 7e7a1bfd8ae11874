-- How a checker goes on: one piece behind another, a row of pieces, and a scope that is closed.
use Rattle.std.proofs.Common.{◌≡◌, ◌∙◌, refl, sym, ap, ℕ, ◌+◌, ◌<◌, ◌≤◌, Bool, List, [], ◌∷◌, ◌++◌, drop, length, get_or, Option, Some, None, append_assoc, append-nil, Result, Ok, Err, OnOk, MatchOption}
use Rattle.std.proofs.lemmas.List.{drop_all, drop_more}
use Rattle.cc_model.specs.declared.typing.Note.{Note}
use Rattle.cc_model.specs.declared.typing.Variable.{Variable}
use Rattle.cc_model.specs.Faults.{Inside, Said, said, first_say, follow, opened, looping, closed, then_say, with_variable}
use Rattle.c_scopes.specs.Places.{around, outside}
use Rattle.c_scopes.proofs.PlaceLaws.{around_last, with_last, Keeps}

pub on_ok : {A E : Type 0} {P Q : Type 0} (r : Result A E) → OnOk r P → (P → Q) → OnOk r Q
on_ok (Ok a) h f = f h
on_ok (Err e) h f = tt

-- a piece behind notes
pub noted : (n k l : List Note) (s r : Said) → k ≡ n ++ l → first_say k s ≡ r → first_say n (first_say l s) ≡ r
noted n k l s r h g = ap (said s.after) (sym (append_assoc n l s.notes)) ∙ ap (λ x. first_say x s) (sym h) ∙ g

-- a piece behind another one
pub followed : (n m : List Note) (s : Said) (next : Inside → Said) (j : Inside) (r : Said) → first_say n s ≡ said j m → first_say m (next j) ≡ r → first_say n (follow s next) ≡ r
followed n m s next j r h g = ap (said (next s.after).after) (sym (append_assoc n s.notes (next s.after).notes)) ∙ ap (λ (x : Said). first_say x.notes (next x.after)) h ∙ g

-- notes behind a piece
pub then_noted : (n m k : List Note) (s : Said) (notes : Inside → List Note) (j : Inside) → first_say n s ≡ said j m → k ≡ m ++ notes j → first_say n (then_say s notes) ≡ said j k
then_noted n m k s notes j h g = ap (said s.after) (sym (append_assoc n s.notes (notes s.after))) ∙ ap (λ (x : Said). said x.after (x.notes ++ notes x.after)) h ∙ ap (said j) (sym g)

-- notes alone
pub notes_alone : (n m l : List Note) (i : Inside) → m ≡ n ++ l → first_say n (said i l) ≡ said i m
notes_alone n m l i h = ap (said i) (sym h)

-- one more of a row of pieces
pub one_more : {X : Type 0} (row : List X → Inside → Said) (piece : X → Inside → Said) → ((x : X) (l : List X) (i : Inside) → row (x ∷ l) i ≡ follow (piece x i) (row l))
    → (l : List X) (k : ℕ) (x : X) (i j : Inside) (n m : List Note) (r : Said) → k < length l → x ≡ get_or l k x → first_say n (piece x i) ≡ said j m → first_say n (row (drop k l) i) ≡ r → first_say m (row (drop (k + 1) l) j) ≡ r
one_more row piece step l k x i j n m r h e p g =
    sym (followed n m (piece x i) (row (drop (k + 1) l)) j (first_say m (row (drop (k + 1) l) j)) p refl)
    ∙ ap (first_say n) (sym (ap (λ d. row d i) (drop_more l k x h ∙ ap (λ y. y ∷ drop (k + 1) l) (sym e)) ∙ step x (drop (k + 1) l) i)) ∙ g

-- all of a row of pieces
pub all_gone : {X : Type 0} (row : List X → Inside → Said) → ((i : Inside) → row [] i ≡ said i []) → (l : List X) (k : ℕ) (i : Inside) (n : List Note) (r : Said) → length l ≤ k → first_say n (row (drop k l) i) ≡ r → r ≡ said i n
all_gone row none l k i n r h g = sym g ∙ ap (first_say n) (ap (λ d. row d i) (drop_all k l h) ∙ none i) ∙ ap (said i) (append-nil n)

-- behind a scope that is closed
pub closes : (n m : List Note) (x : Said) (i q : Inside) → first_say n x ≡ said q m → around (x.after).scopes ≡ i.scopes → (x.after).in_loop ≡ i.in_loop → first_say n (closed i x) ≡ said (outside q) m
closes n m x i q h s l =
    ap (λ (y : Said). said (record { scopes = i.scopes; next = (y.after).next; in_loop = i.in_loop }) y.notes) h
    ∙ (λ d. said (record { scopes = sym (sym (ap (λ (y : Said). around (y.after).scopes) h) ∙ s) d; next = q.next; in_loop = sym (sym (ap (λ (y : Said). (y.after).in_loop) h) ∙ l) d }) m)

-- behind the body of a loop
pub turned : (n m : List Note) (x : Said) (i q : Inside) → first_say n x ≡ said q m → (x.after).scopes ≡ i.scopes → first_say n (closed i x) ≡ said (record { scopes = q.scopes; next = q.next; in_loop = i.in_loop }) m
turned n m x i q h s =
    ap (λ (y : Said). said (record { scopes = i.scopes; next = (y.after).next; in_loop = i.in_loop }) y.notes) h
    ∙ ap (λ c. said (record { scopes = c; next = q.next; in_loop = i.in_loop }) m) (sym (sym (ap (λ (y : Said). (y.after).scopes) h) ∙ s))

-- a block
pub block_done : (row : Inside → Said) (i q : Inside) (n m : List Note) → Keeps row (opened i) → first_say n (row (opened i)) ≡ said q m → first_say n (closed i (row (opened i))) ≡ said (outside q) m
block_done row i q n m k h = closes n m (row (opened i)) i q h (k.scopes ∙ around_last i.scopes []) k.in_loop

-- a `for`
pub for_done : (head : Inside → Said) (test next : Inside → List Note) (body : Inside → Said) (i p q : Inside) (n m m2 m3 m4 : List Note) → Keeps head (opened i) → first_say n (head (opened i)) ≡ said p m
    → m2 ≡ m ++ test p → m3 ≡ m2 ++ next p → first_say m3 (closed p (body (looping p))) ≡ said q m4
    → first_say n (closed i (follow (head (opened i)) (λ j. first_say (test j ++ next j) (body (looping j))))) ≡ said (outside q) m4
for_done head test next body i p q n m m2 m3 m4 k h a b g =
    closes n m4 (follow (head (opened i)) (λ j. first_say (test j ++ next j) (closed j (body (looping j))))) i q
    (followed n m (head (opened i)) (λ j. first_say (test j ++ next j) (closed j (body (looping j)))) p (said q m4) h
    (noted m m3 (test p ++ next p) (closed p (body (looping p))) (said q m4) (b ∙ ap (λ x. x ++ next p) a ∙ append_assoc m (test p) (next p)) g))
    (k.scopes ∙ around_last i.scopes []) k.in_loop

-- ---- the innermost scope

pub popped : (o : Option (List Variable)) (old new : List (List Variable)) → MatchOption o ((old ≡ []) × (new ≡ [])) (λ s. old ≡ new ++ s ∷ []) → new ≡ around old
popped None old new h = h.1 ∙ sym (ap around h.0)
popped (Some s) old new h = sym (ap around h ∙ around_last new s)

pub popped_place : (o : Option (List Variable)) (old new : List (List Variable)) (n : ℕ) (b : Bool) → MatchOption o ((old ≡ []) × (new ≡ [])) (λ s. old ≡ new ++ s ∷ []) → (let p : Inside = record { scopes = new; next = n; in_loop = b } in let q : Inside = record { scopes = old; next = n; in_loop = b } in p ≡ outside q)
popped_place o old new n b h = let p : List (List Variable) → Inside = λ s. record { scopes = s; next = n; in_loop = b } in ap p (popped o old new h)

pub pushed : (v : Variable) (old rest new : List (List Variable)) (s t : List Variable) → old ≡ rest ++ s ∷ [] → t ≡ s ++ v ∷ [] → new ≡ rest ++ t ∷ [] → new ≡ with_variable v old
pushed v old rest new s t h e g = g ∙ ap (λ x. rest ++ x ∷ []) e ∙ sym (ap (with_variable v) h ∙ with_last v rest s)
