-- Which texts are map texts, and where the others fail, by the reader.
use Rattle.std.proofs.Common.{◌≡◌, ℕ, zero, suc, ◌<◌, ◌≤◌, inl, inr, ℤ, List, [], ◌∷◌, ◌++◌, Option, Some, None, length, take, drop, refl, sym, ap, ◌∙◌, subst, arith, append_assoc}
use Rattle.std.proofs.lemmas.List.{take-append-drop}
use Rattle.std.proofs.lemmas.Bool.{cases_order}
use Rattle.cc_base.specs.declared.inputs.Input.{Input}
use Rattle.input_map.specs.declared.reading.Reader.{Reader}
use Rattle.input_map.specs.Maps.{IsMap, BeginsMap, MalformedAt}
use Rattle.input_map.specs.Reading.{start, steps, finish, input_in}
use Rattle.input_map.proofs.Written.{Valid, text_at, steps_ok, start_valid, finish_ok}
use Rattle.input_map.proofs.Taken.{goes_on, stuck, Holds, taken, from_each}

-- what is passed is the text
pub passed : (l : List ℕ) (s : Reader) → steps start l ≡ Some s → Valid s × (text_at s ≡ l)
passed l s e = steps_ok l start s start_valid e

-- where the reader has come, a map text goes on
pub alive : (l : List ℕ) (s : Reader) → steps start l ≡ Some s → BeginsMap l
alive l s e = let f = from_each s in
    let g = goes_on l f.0 start s e ∙ f.2 in
    let p = passed (l ++ f.0) f.1 g in
    (f.0, input_in f.3, subst (λ t. IsMap t (input_in f.3)) p.1 (finish_ok f.1 f.3 p.0 f.4))

-- where it is stuck, none does
pub dead : (l : List ℕ) → steps start l ≡ None → BeginsMap l → ⊥
dead l e m = let t = taken (l ++ m.0) m.1 m.2 in let f = stuck l m.0 start e in let g = t.1 in cc

-- the numbers of a map text
pub accepted : (l : List ℕ) (s r : Reader) → steps start l ≡ Some s → finish s ≡ Some r → IsMap l (input_in r)
accepted l s r e f = let p = passed l s e in subst (λ t. IsMap t (input_in r)) p.1 (finish_ok s r p.0 f)

nothing_held : (s t : Reader) (cs ss : List ℤ) → Some s ≡ Some t → finish s ≡ None → Holds (finish t) cs ss → ⊥
nothing_held s t cs ss e f h = let g : s ≡ t = cc in subst (λ o. Holds o cs ss) (ap finish (sym g) ∙ f) h

pub refused : (l : List ℕ) (s : Reader) → steps start l ≡ Some s → finish s ≡ None → (h : Input) → IsMap l h → ⊥
refused l s e f h m = let t = taken l h m in nothing_held s t.0 h.cells h.stream (sym e ∙ t.1) f t.2

-- ---- a text is the map text of one input

ends_once : (s : Reader) (o : Option Reader) (cs ss ds ts : List ℤ) → Holds o cs ss → Holds o ds ts → (cs ≡ ds) × (ss ≡ ts)
ends_once s None cs ss ds ts h k = absurd h
ends_once s (Some r) cs ss ds ts h k = (sym h.0 ∙ k.0, sym h.1 ∙ k.1)

input_of : (h k : Input) → (h.cells ≡ k.cells) × (h.stream ≡ k.stream) → h ≡ k
input_of h k e = ap (λ c. record { cells = c; stream = h.stream }) e.0 ∙ ap (λ s. record { cells = k.cells; stream = s }) e.1

pub one_map : (l : List ℕ) (h k : Input) → IsMap l h → IsMap l k → h ≡ k
one_map l h k m n = let s = taken l h m in let t = taken l k n in
    let e : s.0 ≡ t.0 = some_same s.0 t.0 (sym s.1 ∙ t.1) in
    input_of h k (ends_once s.0 (finish s.0) h.cells h.stream k.cells k.stream s.2 (subst (λ r. Holds (finish r) k.cells k.stream) (sym e) t.2))
  where
    some_same : (s t : Reader) → Some s ≡ Some t → s ≡ t
    some_same s t e = cc

-- ---- a text has one place where it fails

take_less : (i j : ℕ) (l : List ℕ) → i ≤ j → take i (take j l) ≡ take i l
take_less zero j l h = refl
take_less (suc i) zero l h = absurd (omega (arith, h))
take_less (suc i) (suc j) [] h = refl
take_less (suc i) (suc j) (b ∷ l) h = ap (λ t. b ∷ t) (take_less i j l (omega (arith, h)))

take_all : (l : List ℕ) → take (length l) l ≡ l
take_all [] = refl
take_all (b ∷ l) = ap (λ t. b ∷ t) (take_all l)

begins_less : (l m : List ℕ) → BeginsMap (l ++ m) → BeginsMap l
begins_less l m b = (m ++ b.0, b.1, subst (λ t. IsMap t b.1) (append_assoc l m b.0) b.2)

begins_sooner : (i j : ℕ) (l : List ℕ) → i ≤ j → BeginsMap (take j l) → BeginsMap (take i l)
begins_sooner i j l h b = subst BeginsMap (take_less i j l h) (begins_less (take i (take j l)) (drop i (take j l)) (subst BeginsMap (sym (take-append-drop i (take j l))) b))

begins_all : (i : ℕ) (l : List ℕ) (h : Input) → IsMap l h → BeginsMap (take i l)
begins_all i l h m = (drop i l, h, subst (λ t. IsMap t h) (sym (take-append-drop i l)) m)

-- a place where the text fails is no map text's
pub no_map : (l : List ℕ) (n : ℕ) (h : Input) → MalformedAt l n → IsMap l h → ⊥
no_map l n h f m = elim f.no_more [ inl p ↦ p.1 (begins_all (suc f.before) l h m) | inr p ↦ p.1 h m ]

-- and no other place stands behind it
not_behind : (l : List ℕ) (m n : ℕ) (f : MalformedAt l m) (g : MalformedAt l n) → f.before < g.before → ⊥
not_behind l m n f g h = elim f.no_more [
  | inl p ↦ p.1 (begins_sooner (suc f.before) g.before l (omega arith) g.begins)
  | inr p ↦ (let e = p.0 in elim g.no_more [ inl q ↦ (let k = q.0 in omega (arith, h, e, k)) | inr q ↦ (let k = q.0 in omega (arith, h, e, k)) ])
]

pub one_place : (l : List ℕ) (m n : ℕ) → MalformedAt l m → MalformedAt l n → m ≡ n
one_place l m n f g = elim (cases_order f.before g.before) [
  | inl e ↦ f.number ∙ ap (λ k. suc k) e ∙ sym g.number
  | inr (inl h) ↦ absurd (not_behind l m n f g h)
  | inr (inr h) ↦ absurd (not_behind l n m g f h)
]

-- ---- where the reader finds the text at fault

pub at_byte : (l : List ℕ) (i : ℕ) (s : Reader) → i < length l → steps start (take i l) ≡ Some s → steps start (take (suc i) l) ≡ None → MalformedAt l (suc i)
at_byte l i s h e f = record { before = i; number = refl; begins = alive (take i l) s e; no_more = inl (h, dead (take (suc i) l) f) }

pub at_end : (l : List ℕ) (s : Reader) → steps start l ≡ Some s → finish s ≡ None → MalformedAt l (suc (length l))
at_end l s e f = record { before = length l; number = refl; begins = subst BeginsMap (sym (take_all l)) (alive l s e); no_more = inr (refl, refused l s e f) }
