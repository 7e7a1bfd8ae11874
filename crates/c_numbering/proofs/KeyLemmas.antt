-- The entries of a table are those of its keys.
use Rattle.std.proofs.Common.{◌≡◌, ◌∙◌, sym, ap, refl, subst, ℕ, zero, suc, inl, inr, Bool, true, false, ◌||◌, List, [], ◌∷◌, ◌++◌, map, slice_get, Some, Result, Ok, Err, OnOk, if◌then◌else◌}
use Rattle.std.specs.List.{list_any}
use Rattle.std.proofs.lemmas.List.{map-append}
use Rattle.cc_model.specs.declared.checked.Ty.{Ty}
use Rattle.cc_model.specs.declared.checked.Ty.TheVariants as ty
use Rattle.c_numbering.specs.declared.table.Key.{Key}
use Rattle.c_numbering.specs.declared.table.Key.TheVariants as key
use Rattle.c_numbering.specs.Table.{key_of, ty_of, IsAdded}
use Rattle.c_numbering.proofs.DenotesLemmas.{same_some}

key_back : (k : Key) → key_of (ty_of k) ≡ k
key_back key.Int = refl
key_back key.Void = refl
key_back (key.Ptr m) = refl
key_back (key.Struct k) = refl
key_back (key.Array m n) = refl

ty_back : (y : Ty) → ty_of (key_of y) ≡ y
ty_back ty.Int = refl
ty_back ty.Void = refl
ty_back (ty.Ptr m) = refl
ty_back (ty.Struct k) = refl
ty_back (ty.Array m n) = refl

module _ (eq : Key → Key → Bool) (same : (k : Key) → eq k k ≡ true) where
  or_true : (b : Bool) → b || true ≡ true
  or_true true = refl
  or_true false = refl

  any_there : (ks : List Key) (y : Ty) (n : ℕ) → slice_get (map ty_of ks) n ≡ Some y → list_any (eq (key_of y)) ks ≡ true
  any_there [] y n h = cc
  any_there (k ∷ ks) y zero h =
      let e : key_of y ≡ k = sym (ap key_of (same_some (ty_of k) y h)) ∙ key_back k in
      ap (λ j. eq (key_of y) j || list_any (eq (key_of y)) ks) (sym e) ∙ ap (λ b. b || list_any (eq (key_of y)) ks) (same (key_of y))
  any_there (k ∷ ks) y (suc n) h = ap (λ b. eq (key_of y) k || b) (any_there ks y n h) ∙ or_true (eq (key_of y) k)

  added_by : (b : Bool) (ks new : List Key) (y : Ty) → list_any (eq (key_of y)) ks ≡ b → new ≡ (if b then ks else ks ++ key_of y ∷ []) → IsAdded y (map ty_of ks) (map ty_of new)
  added_by true ks new y t e = inl (ap (map ty_of) e)
  added_by false ks new y t e = inr (ap (map ty_of) e ∙ map-append ty_of ks (key_of y ∷ []) ∙ ap (λ z. map ty_of ks ++ z ∷ []) (ty_back y), λ n h. differ (sym t ∙ any_there ks y n h))
    where
      differ : false ≡ true → ⊥
      differ h = cc

  pub added_of : {A E : Type 0} (r : Result A E) (k : Key) (ks new : List Key) (y : Ty) (old : List Ty) → map ty_of ks ≡ old → k ≡ key_of y → new ≡ (if list_any (eq k) ks then ks else ks ++ k ∷ []) → OnOk r (IsAdded y old (map ty_of new))
  added_of (Err x) k ks new y old o i e = tt
  added_of (Ok x) k ks new y old o i e =
      subst (λ l. IsAdded y l (map ty_of new)) o (added_by (list_any (eq (key_of y)) ks) ks new y refl (subst (λ j. new ≡ (if list_any (eq j) ks then ks else ks ++ j ∷ [])) i e))
