-- The reader's loop over the bytes of a text.
use Rattle.std.proofs.Common.{◌≡◌, ℕ, ◌+◌, ◌<◌, Bool, true, false, List, [], ◌∷◌, Option, Some, None, length, take, get_or, refl, sym, ap, ◌∙◌, subst, add-one, if◌then◌else◌}
use Rattle.std.proofs.lemmas.List.{take_more}
use Rattle.input_map.specs.declared.faults.MapFault.TheVariants.{Malformed}
use Rattle.input_map.specs.declared.reading.Mark.{Mark}
use Rattle.input_map.specs.declared.reading.Place.{Place}
use Rattle.input_map.specs.declared.reading.Place.TheVariants.{Start, NoCells, Due, Sign, Digits}
use Rattle.input_map.specs.declared.reading.Reader.{Reader}
use Rattle.input_map.specs.Maps.{IsMap, MalformedAt}
use Rattle.input_map.specs.Reading.{mark_of, start, step, steps, finish, input_in, HasFewDigits, IsMalformed}
use Rattle.input_map.proofs.Written.{IsPlace}
use Rattle.input_map.proofs.Taken.{goes_on, one_byte}
use Rattle.input_map.proofs.Forms.{passed, accepted, at_byte, at_end}

pub begun : (s : Reader) → s ≡ start → steps start [] ≡ Some s
unfolding steps
begun s e = ap (λ r. Some r) (sym e)

few_at : (p : Place) (s : Reader) → IsPlace p s → HasFewDigits p
few_at Start s h = tt
few_at NoCells s h = tt
few_at Due s h = tt
few_at Sign s h = tt
few_at (Digits g n) s h = h.0

pub few : (l : List ℕ) (s : Reader) → steps start l ≡ Some s → HasFewDigits s.place
few l s e = few_at s.place s ((passed l s e).0).place

onward : (l : List ℕ) (i : ℕ) (s : Reader) (m : Mark) (o : Option Reader) → i < length l → steps start (take i l) ≡ Some s → m ≡ mark_of (get_or l i 0) → step s m ≡ o → steps start (take (i + 1) l) ≡ o
onward l i s m o h e f g = ap (steps start) (take_more l i 0 h) ∙ goes_on (take i l) (get_or l i 0 ∷ []) start s e ∙ one_byte (get_or l i 0) s ∙ ap (step s) (sym f) ∙ g

pub goes : (l : List ℕ) (i : ℕ) (s r : Reader) (m : Mark) (b : Bool) → b ≡ true → i < length l → steps start (take i l) ≡ Some s → m ≡ mark_of (get_or l i 0)
    → step s m ≡ (if b then Some r else None) → steps start (take (i + 1) l) ≡ Some r
goes l i s r m b t h e f g = onward l i s m (Some r) h e f (g ∙ ap (λ c. if c then Some r else None) t)

pub stops : (l : List ℕ) (i : ℕ) (s r : Reader) (m : Mark) (b : Bool) → b ≡ false → i < length l → steps start (take i l) ≡ Some s → m ≡ mark_of (get_or l i 0)
    → step s m ≡ (if b then Some r else None) → IsMalformed l (Malformed (i + 1))
stops l i s r m b t h e f g = (
  i + 1,
  refl,
  subst (MalformedAt l) (sym (add-one i)) (at_byte l i s h e
      (subst (λ n. steps start (take n l) ≡ None) (add-one i) (onward l i s m None h e f (g ∙ ap (λ c. if c then Some r else None) t)))),
)

pub ends : (l : List ℕ) (s r : Reader) (b : Bool) → b ≡ true → steps start l ≡ Some s → finish s ≡ (if b then Some r else None) → IsMap l (input_in r)
ends l s r b t e f = accepted l s r e (f ∙ ap (λ c. if c then Some r else None) t)

pub breaks_off : (l : List ℕ) (s r : Reader) (b : Bool) → b ≡ false → steps start l ≡ Some s → finish s ≡ (if b then Some r else None) → IsMalformed l (Malformed (length l + 1))
breaks_off l s r b t e f = (length l + 1, refl, subst (MalformedAt l) (sym (add-one (length l))) (at_end l s e (f ∙ ap (λ c. if c then Some r else None) t)))
