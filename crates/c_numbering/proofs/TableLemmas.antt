-- A table that grows keeps what it denotes, and takes in only what was asked for.
use Rattle.std.proofs.Common.{◌≡◌, ◌≢◌, ◌∙◌, sym, ap, refl, subst, arith, ℕ, suc, ◌+◌, ◌-◌, ◌<◌, ◌≤◌, ◌⊎◌, inl, inr, List, [], ◌∷◌, ◌++◌, length, take, drop, get_or, slice_get, Some}
use Rattle.std.proofs.lemmas.List.{append-nil, take_more}
use Rattle.cc_base.specs.declared.cells.TyId.{TyId}
use Rattle.cc_model.specs.declared.checked.Ty.{Ty}
use Rattle.cc_model.specs.declared.checked.Ty.TheVariants as ty
use Rattle.cc_model.specs.declared.typing.BaseType.{BaseType}
use Rattle.cc_model.specs.declared.typing.BaseType.TheVariants.{Int as int_base, Void as void_base, Struct as struct_base}
use Rattle.cc_model.specs.declared.typing.CType.{CType}
use Rattle.cc_model.specs.CheckedProgram.{Denotes, AllDenote}
use Rattle.c_numbering.specs.Table.{plain, array_of, base_ty, pointed, element, Asked, IsAdded, Continues, RefersBelow, AreAmong, Numbered, AllNumbered}
use Rattle.c_numbering.proofs.DenotesLemmas.{drop_here, in_left, in_right, get_last, get_push, below_push, Says, denoted, Denotes-append, Denotes-continue, Says-continue, continues_from, continues_same, refers}

-- ---- one entry

continues_added : (y : Ty) (old new : List Ty) → IsAdded y old new → Continues old new
continues_added y old new (inl e) = ([], e ∙ sym (append-nil old))
continues_added y old new (inr p) = (y ∷ [], p.0)

module _ (asked : List CType) (old : List Ty) (y : Ty) (t : CType) (a : AreAmong asked old) (s : Says old y t) (wanted : Asked asked t) (fresh : (n : ℕ) → slice_get old n ≢ Some y) where
  next_only : (n : ℕ) → (n < length old) ⊎ (n ≡ length old) → (u : CType) × (Denotes (old ++ y ∷ []) n u × Asked asked u)
  next_only n (inl k) = let p = a.only n k in (p.0, (Denotes-append old (y ∷ []) n p.0 p.1.0, p.1.1))
  next_only n (inr e) =
      (t, (denoted (old ++ y ∷ []) n y t (subst (λ k. slice_get (old ++ y ∷ []) k ≡ Some y) (sym e) (get_last old y)) (Says-continue old (old ++ y ∷ []) y t (y ∷ [], refl) s), wanted))

  next_once : (m n : ℕ) (z : Ty) → (slice_get old m ≡ Some z) ⊎ ((m ≡ length old) × (y ≡ z)) → (slice_get old n ≡ Some z) ⊎ ((n ≡ length old) × (y ≡ z)) → m ≡ n
  next_once m n z (inl p) (inl q) = a.once m n z p q
  next_once m n z (inl p) (inr q) = absurd (fresh m (p ∙ ap Some (sym q.1)))
  next_once m n z (inr p) (inl q) = absurd (fresh n (q ∙ ap Some (sym p.1)))
  next_once m n z (inr p) (inr q) = p.0 ∙ sym q.0

  next_earlier : (n : ℕ) (z : Ty) → (slice_get old n ≡ Some z) ⊎ ((n ≡ length old) × (y ≡ z)) → RefersBelow n z
  next_earlier n z (inl p) = a.earlier n z p
  next_earlier n z (inr q) = subst (λ k. RefersBelow k z) (sym q.0) (subst (RefersBelow (length old)) q.1 (refers old y t s))

  next_among : AreAmong asked (old ++ y ∷ [])
  next_among = record {
    only = λ n h. next_only n (below_push old y n h);
    once = λ m n z p q. next_once m n z (get_push old y m z p) (get_push old y n z q);
    earlier = λ n z p. next_earlier n z (get_push old y n z p);
  }

among_added : (asked : List CType) (old new : List Ty) (y : Ty) (t : CType) → IsAdded y old new → Says old y t → Asked asked t → AreAmong asked old → AreAmong asked new
among_added asked old new y t (inl e) s w a = subst (AreAmong asked) (sym e) a
among_added asked old new y t (inr p) s w a = subst (AreAmong asked) (sym p.0) (next_among asked old y t a s w p.1)

-- ---- one type

pub numbered_entry : (old new : List Ty) (n : ℕ) (y : Ty) (t : CType) → IsAdded y old new → slice_get new n ≡ Some y → Says old y t → Numbered old new n t
numbered_entry old new n y t d g s = record {
  kept = continues_added y old new d;
  denotes = denoted new n y t g (Says-continue old new y t (continues_added y old new d) s);
  among = λ asked w a. among_added asked old new y t d s w a;
}

-- a type that is made of one with a number
numbered_made : (old new newer : List Ty) (m n : ℕ) (y : Ty) (u t : CType) → Numbered old new m u → IsAdded y new newer → slice_get newer n ≡ Some y → Says new y t → ((asked : List CType) → Asked asked t → Asked asked u) → Numbered old newer n t
numbered_made old new newer m n y u t k d g s f =
    let e = numbered_entry new newer n y t d g s in
    record {
      kept = continues_from old new newer k.kept e.kept;
      denotes = e.denotes;
      among = λ asked w a. e.among asked w (k.among asked (f asked w) a);
    }

asked_target : (b : BaseType) (stars : ℕ) (asked : List CType) → Asked asked (plain b (suc stars)) → Asked asked (plain b stars)
asked_target b stars asked w = (w.0, (w.1.0, pointed (plain b (suc stars)) w.1.1 refl))

asked_element : (size : ℕ) (e : CType) (asked : List CType) → Asked asked (array_of size e) → Asked asked e
asked_element size e asked w = (w.0, (w.1.0, element (array_of size e) w.1.1 refl))

pub numbered_pointer : (old new newer : List Ty) (m : TyId) (n : ℕ) (b : BaseType) (stars : ℕ) → Numbered old new m.0 (plain b stars) → IsAdded (ty.Ptr m) new newer → slice_get newer n ≡ Some (ty.Ptr m) → Numbered old newer n (plain b (suc stars))
numbered_pointer old new newer m n b stars k d g = numbered_made old new newer m.0 n (ty.Ptr m) (plain b stars) (plain b (suc stars)) k d g (b, stars, refl, k.denotes) (asked_target b stars)

pub numbered_array : (old new newer : List Ty) (m : TyId) (n size : ℕ) (e : CType) → Numbered old new m.0 e → IsAdded (ty.Array m size) new newer → slice_get newer n ≡ Some (ty.Array m size) → Numbered old newer n (array_of size e)
numbered_array old new newer m n size e k d g = numbered_made old new newer m.0 n (ty.Array m size) e (array_of size e) k d g (e, refl, k.denotes) (asked_element size e)

says_base : (tys : List Ty) (b : BaseType) → Says tys (base_ty b) (plain b 0)
says_base tys int_base = refl
says_base tys void_base = refl
says_base tys (struct_base k) = refl

pub numbered_base : (old new : List Ty) (n : ℕ) (b : BaseType) → IsAdded (base_ty b) old new → slice_get new n ≡ Some (base_ty b) → Numbered old new n (plain b 0)
numbered_base old new n b d g = numbered_entry old new n (base_ty b) (plain b 0) d g (says_base old b)

-- ---- several types

pub AllDenote-continue : (old new : List Ty) (ns : List TyId) (ts : List CType) → Continues old new → AllDenote old ns ts → AllDenote new ns ts
AllDenote-continue old new [] [] k h = tt
AllDenote-continue old new (n ∷ ns) (t ∷ ts) k h = (Denotes-continue old new n.0 t k h.0, AllDenote-continue old new ns ts k h.1)
AllDenote-continue old new [] (t ∷ ts) k h = absurd h
AllDenote-continue old new (n ∷ ns) [] k h = absurd h

pub AllDenote-push : (tys : List Ty) (ns : List TyId) (ts : List CType) (n : TyId) (t : CType) → AllDenote tys ns ts → Denotes tys n.0 t → AllDenote tys (ns ++ n ∷ []) (ts ++ t ∷ [])
AllDenote-push tys [] [] n t h d = (d, tt)
AllDenote-push tys (m ∷ ns) (s ∷ ts) n t h d = (h.0, AllDenote-push tys ns ts n t h.1 d)
AllDenote-push tys [] (s ∷ ts) n t h d = absurd h
AllDenote-push tys (m ∷ ns) [] n t h d = absurd h

pub numbered_none : (tys : List Ty) → AllNumbered tys tys [] []
numbered_none tys = record { kept = continues_same tys; denote = tt; among = λ asked w a. a }

pub numbered_more : (old new newer : List Ty) (ns : List TyId) (ts : List CType) (n : TyId) (t : CType) → AllNumbered old new ns ts → Numbered new newer n.0 t → AllNumbered old newer (ns ++ n ∷ []) (ts ++ t ∷ [])
numbered_more old new newer ns ts n t k e = record {
  kept = continues_from old new newer k.kept e.kept;
  denote = AllDenote-push newer ns ts n t (AllDenote-continue new newer ns ts e.kept k.denote) e.denotes;
  among = λ asked w a. e.among asked (w t (in_right t ts (t ∷ []) (inl refl))) (k.among asked (λ u h. w u (in_left u ts (t ∷ []) h)) a);
}

-- ---- steps of loops

pub pointer_more : (old new newer : List Ty) (m : TyId) (n : ℕ) (b : BaseType) (stars : ℕ) → Numbered old new m.0 (plain b stars) → IsAdded (ty.Ptr m) new newer → slice_get newer n ≡ Some (ty.Ptr m) → Numbered old newer n (plain b (stars + 1))
pointer_more old new newer m n b stars k d g = let e : suc stars ≡ stars + 1 = omega arith in subst (λ j. Numbered old newer n (plain b j)) e (numbered_pointer old new newer m n b stars k d g)

pub array_more : (old new newer : List Ty) (m : TyId) (n : ℕ) (b : BaseType) (stars : ℕ) (l seen : List ℕ) (k : ℕ) → seen ≡ l → 0 < k → k ≤ length l → Numbered old new m.0 (record { base = b; stars = stars; lengths = drop k l })
    → IsAdded (ty.Array m (get_or seen (k - 1) 0)) new newer → slice_get newer n ≡ Some (ty.Array m (get_or seen (k - 1) 0)) → Numbered old newer n (record { base = b; stars = stars; lengths = drop (k - 1) l })
array_more old new newer m n b stars l seen k e p h w d g =
    let D : List ℕ → Type 0 = λ z. IsAdded (ty.Array m (get_or z (k - 1) 0)) new newer in
    let G : List ℕ → Type 0 = λ z. slice_get newer n ≡ Some (ty.Array m (get_or z (k - 1) 0)) in
    subst (λ z. Numbered old newer n (record { base = b; stars = stars; lengths = z })) (sym (drop_here l k p h))
    (numbered_array old new newer m n (get_or l (k - 1) 0) (record { base = b; stars = stars; lengths = drop k l }) w (subst D e d) (subst G e g))

pub types_more : (old new newer : List Ty) (ns ms : List TyId) (types : List CType) (i : ℕ) (n : TyId) (t : CType) → i < length types → t ≡ get_or types i t → AllNumbered old new ns (take i types) → Numbered new newer n.0 t → ms ≡ ns ++ n ∷ []
    → AllNumbered old newer ms (take (i + 1) types)
types_more old new newer ns ms types i n t h e w k p =
    let a : take (i + 1) types ≡ take i types ++ t ∷ [] = take_more types i t h ∙ ap (λ x. take i types ++ x ∷ []) (sym e) in
    subst (λ l. AllNumbered old newer l (take (i + 1) types)) (sym p) (subst (AllNumbered old newer (ns ++ n ∷ [])) (sym a) (numbered_more old new newer ns (take i types) n t w k))
