-- The steps of reading a place.
use Rattle.std.proofs.Common.{◌≡◌, ◌∙◌, ◌≢◌, sym, ap, refl, arith, ℕ, zero, suc, ℤ, pos, negsuc, ◌+ℤ◌, ◌<ℤ◌, Option, Some, None, IfSome, List, length, slice_get, unwrap_or}
use Rattle.std.proofs.lemmas.Int.{ints}
use Rattle.std.proofs.lemmas.Option.{slice_get_past}
use Rattle.std.specs.Option.{option_map, option_and_then}
use Rattle.cc_base.specs.declared.inputs.Input.{Input}
use Rattle.sym_expr.specs.declared.places.PlaceId.{PlaceId}
use Rattle.sym_expr.specs.declared.places.Place.TheVariants.{Arg, Field, Stream}
use Rattle.cc_base.specs.declared.cells.CellTy.{CellTy}
use Rattle.sym_expr.specs.declared.places.Place.{Place}
use Rattle.sym_expr.specs.PlacesSeen.{place_of, entry_of}
use Rattle.cc_base.specs.Places.{Placed, ParentBelow, ParentsFirst, cell_at, cell_behind, value_there, at_place}
use Rattle.sym_expr.proofs.PlaceLaws.{at_place-is}

pub cell_low : (cells : List ℤ) (z : ℤ) → z <ℤ pos 1 → None ≡ cell_at cells z
unfolding cell_at
cell_low cells (pos zero) h = refl
cell_low cells (pos (suc n)) h = absurd (omega (arith, ints, h))
cell_low cells (negsuc n) h = refl

pub cell_high : (cells : List ℤ) (z : ℤ) → pos (length cells) <ℤ z → None ≡ cell_at cells z
unfolding cell_at
cell_high cells (pos zero) h = refl
cell_high cells (pos (suc n)) h = sym (slice_get_past cells n (omega (arith, ints, h)))
cell_high cells (negsuc n) h = refl

pub cell_in : (cells : List ℤ) (z : ℤ) (i : ℕ) → z ≡ pos i +ℤ pos 1 → slice_get cells i ≡ cell_at cells z
unfolding cell_at
cell_in cells (pos zero) i h = absurd (omega (arith, ints, h))
cell_in cells (pos (suc n)) i h = ap (slice_get cells) (let e : i ≡ n = omega (arith, ints, h) in e)
cell_in cells (negsuc n) i h = absurd (omega (arith, ints, h))

pub behind_null : (cells : List ℤ) (z : ℤ) (c : ℕ) → z ≡ pos 0 → None ≡ cell_behind cells z c
unfolding cell_behind
behind_null cells (pos zero) c h = refl
behind_null cells (pos (suc n)) c h = absurd (cc h)
behind_null cells (negsuc n) c h = absurd (cc h)

pub behind_some : (cells : List ℤ) (z : ℤ) (c : ℕ) → z ≢ pos 0 → cell_at cells (z +ℤ pos c) ≡ cell_behind cells z c
unfolding cell_behind
behind_some cells (pos zero) c h = absurd (h refl)
behind_some cells (pos (suc n)) c h = refl
behind_some cells (negsuc n) c h = refl

pub get_parent : (l : List Placed) (id : ℕ) (r : Option (Place × CellTy)) → ParentsFirst l → option_map entry_of r ≡ slice_get l id → IfSome r (λ e. ParentBelow id (place_of e.0))
get_parent l id None h e = tt
get_parent l id (Some p) h e = h.below id (entry_of p) (sym e)

module _ (places : List Placed) (i : Input) (b : ℤ) (id : ℕ) (h : ParentsFirst places) (r : Option (Place × CellTy)) (e : option_map entry_of r ≡ slice_get places id) where
  known : at_place places i b id ≡ option_and_then (λ p. value_there (at_place places i b) i b p.place) (option_map entry_of r)
  known = at_place-is places i b id h ∙ ap (λ (o : Option Placed). option_and_then (λ p. value_there (at_place places i b) i b p.place) o) (sym e)

  pub at_missing : r ≡ None → None ≡ at_place places i b id
  at_missing f = sym (known ∙ ap (λ (o : Option (Place × CellTy)). option_and_then (λ p. value_there (at_place places i b) i b p.place) (option_map entry_of o)) f)

  pub at_there : (p : Place) (ty : CellTy) (q : Place) → r ≡ Some (p, ty) → p ≡ q → value_there (at_place places i b) i b (place_of q) ≡ at_place places i b id
  at_there p ty q f g = sym (known ∙ ap (λ (o : Option (Place × CellTy)). option_and_then (λ p. value_there (at_place places i b) i b p.place) (option_map entry_of o)) f
      ∙ ap (λ (x : Place). value_there (at_place places i b) i b (place_of x)) g)

pub there_arg : (f : ℕ → Option ℤ) (i : Input) (b : ℤ) (k : ℕ) → slice_get i.cells k ≡ value_there f i b (place_of (Arg k))
unfolding value_there
there_arg f i b k = refl

pub there_stream : (f : ℕ → Option ℤ) (i : Input) (b : ℤ) (k : ℕ) → Some (unwrap_or (slice_get i.stream k) b) ≡ value_there f i b (place_of (Stream k))
unfolding value_there
there_stream f i b k = refl

pub there_none : (f : ℕ → Option ℤ) (i : Input) (b : ℤ) (q : PlaceId) (c : ℕ) → None ≡ f q.0 → None ≡ value_there f i b (place_of (Field q c))
unfolding value_there
there_none f i b q c e = ap (λ (o : Option ℤ). option_and_then (λ a. cell_behind i.cells a c) o) e

pub there_field : (f : ℕ → Option ℤ) (i : Input) (b : ℤ) (q : PlaceId) (c : ℕ) (a : ℤ) → Some a ≡ f q.0 → cell_behind i.cells a c ≡ value_there f i b (place_of (Field q c))
unfolding value_there
there_field f i b q c a e = ap (λ (o : Option ℤ). option_and_then (λ a. cell_behind i.cells a c) o) e
