-- The numbers of a stream, one after the other.
use Rattle.std.proofs.Common.{◌≡◌, ℕ, suc, ◌+◌, ◌<◌, Bool, true, false, ℤ, List, [], ◌∷◌, ◌++◌, length, take, drop, get_or, drop-cons, add-one, Option, Some, None, if◌then◌else◌, refl, sym, ap, ◌∙◌}
use Rattle.std.proofs.lemmas.List.{take_more}
use Rattle.cc_base.specs.Limits.{Limits}
use Rattle.input_map.specs.declared.faults.MapFault.{MapFault}
use Rattle.input_map.specs.declared.faults.MapFault.TheVariants.{StreamOutOfBounds}
use Rattle.input_map.specs.CellFaults.{is_within, stream_fault}

is_out : (t : Bool) (z : ℤ) → None ≡ (if t then Some z else None) → t ≡ false
is_out true z e = cc e
is_out false z e = refl

is_in : (t : Bool) (y z : ℤ) → Some y ≡ (if t then Some z else None) → t ≡ true
is_in true y z e = refl
is_in false y z e = cc e

the_same : (t : Bool) (y z : ℤ) → Some y ≡ (if t then Some z else None) → y ≡ z
the_same true y z e = cc e
the_same false y z e = cc e

module _ (b : Limits) (whole : List ℤ) (at : ℕ) (y d : ℤ) (within : at < length whole) (is : y ≡ get_or whole at d)
    (so_far : stream_fault b 1 whole ≡ stream_fault b (suc at) (drop at whole)) where
  abbrev next_or : Bool → Option MapFault
  next_or t = if t then stream_fault b (suc (suc at)) (drop (at + 1) whole) else Some (StreamOutOfBounds (suc at))

  first : (zs : List ℤ) → stream_fault b (suc at) (y ∷ zs) ≡ (if is_within b y then stream_fault b (suc (suc at)) zs else Some (StreamOutOfBounds (suc at)))
  unfolding stream_fault
  first zs = refl

  step : stream_fault b 1 whole ≡ next_or (is_within b y)
  step = so_far ∙ ap (stream_fault b (suc at)) (drop-cons whole at d within ∙ ap (λ x. x ∷ drop (suc at) whole) (sym is) ∙ ap (λ n. y ∷ drop n whole) (sym (add-one at))) ∙ first (drop (at + 1) whole)

  pub out_at : None ≡ (if is_within b y then Some y else None) → stream_fault b 1 whole ≡ Some (StreamOutOfBounds (at + 1))
  out_at e = step ∙ ap next_or (is_out (is_within b y) y e) ∙ ap (λ n. Some (StreamOutOfBounds n)) (sym (add-one at))

  pub in_at : (x : ℤ) → Some x ≡ (if is_within b y then Some y else None) → stream_fault b 1 whole ≡ stream_fault b (suc (at + 1)) (drop (at + 1) whole)
  in_at x e = step ∙ ap next_or (is_in (is_within b y) x y e) ∙ ap (λ n. stream_fault b (suc n) (drop (at + 1) whole)) (sym (add-one at))

  pub kept_at : (x : ℤ) (ns ms : List ℤ) → Some x ≡ (if is_within b y then Some y else None) → ns ≡ take at whole → ms ≡ ns ++ x ∷ [] → ms ≡ take (at + 1) whole
  kept_at x ns ms e f g = g ∙ ap (λ l. l ++ x ∷ []) f ∙ ap (λ v. take at whole ++ v ∷ []) (the_same (is_within b y) x y e ∙ is) ∙ sym (take_more whole at d within)

none_left : (b : Limits) (i : ℕ) → stream_fault b i [] ≡ None
unfolding stream_fault
none_left b i = refl

pub all_in : (b : Limits) (whole : List ℤ) (i : ℕ) → stream_fault b 1 whole ≡ stream_fault b (suc i) (drop i whole) → drop i whole ≡ [] → stream_fault b 1 whole ≡ None
all_in b whole i e f = e ∙ ap (stream_fault b (suc i)) f ∙ none_left b (suc i)
