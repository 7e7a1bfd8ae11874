-- The steps of the loops.
use Rattle.std.proofs.Common.{◌≡◌, ℕ, zero, suc, ◌+◌, ◌<◌, ◌≤◌, max, inl, inr, ℤ, List, [], ◌∷◌, ◌++◌, length, map, take, get_or, slice_get, Option, Some, None, refl, sym, ap, ◌∙◌, arith, append_assoc, add-one}
use Rattle.std.proofs.lemmas.List.{take_more, map-append}
use Rattle.std.proofs.lemmas.Bool.{cases_eq}
use Rattle.cc_base.specs.declared.cells.CellTy.{CellTy}
use Rattle.cc_base.specs.Places.{Placed}
use Rattle.cc_model.specs.Core.{Cell}
use Rattle.cc_model.specs.CheckedProgram.{cell_of}
use Rattle.input_map.specs.Builds.{needs, stream_length}
use Rattle.input_map.specs.Laying.{Spot, spots, number_there, IsStream, needs_of}
use Rattle.input_map.proofs.Lists.{get_front, get_back}
use Rattle.input_map.proofs.Filled.{spots_push}

-- ---- the stream's end

take_get : (l : List Placed) (n : ℕ) (e : Placed) → slice_get l n ≡ Some e → take (suc n) l ≡ take n l ++ e ∷ []
take_get [] n e f = absurd (cc f)
take_get (x ∷ l) zero e f = ap (λ y. y ∷ []) (cc f)
take_get (x ∷ l) (suc n) e f = ap (λ t. x ∷ t) (take_get l n e f)

take_past : (l : List Placed) (n : ℕ) → slice_get l n ≡ None → take (suc n) l ≡ take n l
take_past [] zero f = refl
take_past [] (suc n) f = refl
take_past (x ∷ l) zero f = absurd (cc f)
take_past (x ∷ l) (suc n) f = ap (λ t. x ∷ t) (take_past l n f)

stream_push : (l : List Placed) (e : Placed) → stream_length (l ++ e ∷ []) ≡ max (needs e.place) (stream_length l)
stream_push [] e = refl
stream_push (x ∷ l) e = ap (max (needs x.place)) (stream_push l e) ∙ omega arith

end_by : (l : List Placed) (n : ℕ) (o : Option Placed) → slice_get l n ≡ o → max (needs_of o) (stream_length (take n l)) ≡ stream_length (take (suc n) l)
end_by l n None f = omega (arith, ap stream_length (take_past l n f))
end_by l n (Some e) f = sym (stream_push (take n l) e) ∙ ap stream_length (sym (take_get l n e f))

pub end_more : (l : List Placed) (n end : ℕ) → end ≡ stream_length (take n l) → max (needs_of (slice_get l n)) end ≡ stream_length (take (n + 1) l)
end_more l n end e = ap (max (needs_of (slice_get l n))) e ∙ end_by l n (slice_get l n) refl ∙ ap (λ m. stream_length (take m l)) (sym (add-one n))

-- ---- the stream's numbers

pub stream_none : (number : ℕ → ℤ) (base : ℤ) (found : ℕ → Option ℕ) → IsStream number base found 0 []
stream_none number base found = record { long = refl; each = λ k h. absurd (omega (arith, h)) }

length_push : (l : List ℤ) (x : ℤ) → length (l ++ x ∷ []) ≡ suc (length l)
length_push [] x = refl
length_push (y ∷ l) x = ap suc (length_push l x)

pub stream_more : (number : ℕ → ℤ) (base : ℤ) (found : ℕ → Option ℕ) (n : ℕ) (ss : List ℤ) (z : ℤ) → z ≡ number_there number base (found n) → IsStream number base found n ss
    → IsStream number base found (n + 1) (ss ++ z ∷ [])
stream_more number base found n ss z e h = record {
  long = length_push ss z ∙ ap suc h.long ∙ sym (add-one n);
  each = λ k l. elim (cases_eq k n) [
    | inl f ↦ (let m = h.long in let i : k ≡ length ss + 0 = omega (arith, f, m) in ap (slice_get (ss ++ z ∷ [])) i ∙ get_back ss (z ∷ []) 0 ∙ ap Some (e ∙ ap (λ x. number_there number base (found x)) (sym f)))
    | inr f ↦ get_front ss (z ∷ []) k _ (h.each k (omega (arith, l, f)))
  ];
}

-- ---- the cells of a block

length_kinds : (l : List CellTy) (n : ℕ) → n ≤ length l → length (map cell_of (take n l)) ≡ n
length_kinds l zero h = refl
length_kinds [] (suc n) h = absurd (omega (arith, h))
length_kinds (x ∷ l) (suc n) h = ap suc (length_kinds l n (omega (arith, h)))

pub push_step : (f : ℕ → Option ℕ) (first l : List Spot) (types : List CellTy) (n : ℕ) (d : CellTy) → n < length types → l ≡ first ++ spots f 0 (map cell_of (take n types))
    → l ++ record { cell = cell_of (get_or types n d); place = f n } ∷ [] ≡ first ++ spots f 0 (map cell_of (take (n + 1) types))
push_step f first l types n d h e =
    let x : Cell = cell_of (get_or types n d) in
    let m : length (map cell_of (take n types)) ≡ n = length_kinds types n (omega (arith, h)) in
    let k : map cell_of (take (n + 1) types) ≡ map cell_of (take n types) ++ x ∷ [] = ap (map cell_of) (take_more types n d h) ∙ map-append cell_of (take n types) (get_or types n d ∷ []) in
    let i : 0 + length (map cell_of (take n types)) ≡ n = omega (arith, m) in
    ap (λ t. t ++ record { cell = x; place = f n } ∷ []) e
    ∙ append_assoc first (spots f 0 (map cell_of (take n types))) (record { cell = x; place = f n } ∷ [])
    ∙ ap (λ t. first ++ t) (ap (λ j. spots f 0 (map cell_of (take n types)) ++ record { cell = x; place = f j } ∷ []) (sym i)
    ∙ sym (spots_push f 0 (map cell_of (take n types)) x)
    ∙ ap (spots f 0) (sym k))
