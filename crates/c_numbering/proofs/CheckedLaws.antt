-- The types and signatures of a checked program, from the table that was made for it.
use Rattle.std.proofs.Common.{◌≡◌, sym, ap, refl, subst, arith, ℕ, zero, suc, ◌<◌, ◌⊎◌, inl, inr, true, List, [], ◌∷◌, ◌++◌, map, slice_get, unwrap_or, is_some, Option, Some, None}
use Rattle.cc_base.specs.Paths.{In}
use Rattle.cc_base.specs.declared.cells.TyId.{TyId}
use Rattle.cc_model.specs.declared.checked.Ty.{Ty}
use Rattle.cc_model.specs.declared.checked.Ty.TheVariants as ty
use Rattle.cc_model.specs.declared.checked.Sig.{Sig}
use Rattle.cc_model.specs.declared.trees.Item.{Item}
use Rattle.cc_model.specs.declared.typing.BaseType.{BaseType}
use Rattle.cc_model.specs.declared.typing.CType.{CType}
use Rattle.cc_model.specs.declared.typing.Function.{Function}
use Rattle.cc_model.specs.declared.typing.Note.{Note}
use Rattle.cc_model.specs.Types.{void_type, one_less, target_of, element_of, is_pointer, is_array}
use Rattle.cc_model.specs.Scopes.{Text, nothing_before, file_of}
use Rattle.cc_model.specs.CheckedProgram.{Denotes, AllDenote, Mentioned, AreTypes, known, result_of, declared_types, slots_in, AreSigs}
use Rattle.c_numbering.specs.Table.{plain, PartOf, Asked, Continues, RefersBelow, AreAmong}
use Rattle.c_numbering.specs.Sigs.{SigDenotes, SigsDenote, FunctionsAsked}
use Rattle.c_numbering.proofs.DenotesLemmas.{in_left, in_right, same_some, pointer_at, array_at, Denotes-continue, Denotes-once}

-- ---- a table with `Void` alone

pub new_among : (asked : List CType) → AreAmong asked (ty.Void ∷ [])
new_among asked = record { only = only; once = once; earlier = earlier }
  where
    only : (n : ℕ) → n < 1 → (t : CType) × (Denotes (ty.Void ∷ []) n t × Asked asked t)
    only zero h = (void_type, (Denotes.void refl, (void_type, (inl refl, PartOf.itself))))
    only (suc n) h = absurd (omega arith)

    once : (m n : ℕ) (y : Ty) → slice_get (ty.Void ∷ []) m ≡ Some y → slice_get (ty.Void ∷ []) n ≡ Some y → m ≡ n
    once zero zero y p q = refl
    once zero (suc n) y p q = cc
    once (suc m) n y p q = cc

    earlier : (n : ℕ) (y : Ty) → slice_get (ty.Void ∷ []) n ≡ Some y → RefersBelow n y
    earlier zero y p = subst (RefersBelow 0) (same_some ty.Void y p) tt
    earlier (suc n) y p = cc

-- ---- what a type is made of has a number too

module _ (tys : List Ty) where
  abbrev pub There : CType → Type 0
  There t = (n : ℕ) × Denotes tys n t

  target_by : (b : BaseType) (stars : ℕ) (l : List ℕ) → There (record { base = b; stars = stars; lengths = l }) → is_pointer (record { base = b; stars = stars; lengths = l }) ≡ true → There (plain b (one_less stars))
  target_by b zero l h p = cc
  target_by b (suc stars) [] h p = let u = pointer_at tys h.0 b stars h.1 in ((u.0).0, u.2)
  target_by b (suc stars) (n ∷ l) h p = cc

  element_by : (b : BaseType) (stars : ℕ) (l : List ℕ) → There (record { base = b; stars = stars; lengths = l }) → is_array (record { base = b; stars = stars; lengths = l }) ≡ true → There (element_of (record { base = b; stars = stars; lengths = l }))
  element_by b stars [] h p = cc
  element_by b stars (n ∷ l) h p = let u = array_at tys h.0 n (record { base = b; stars = stars; lengths = l }) h.1 in ((u.0).0, u.2)

  target_there : (t : CType) → There t → is_pointer t ≡ true → There (target_of t)
  target_there t h p = target_by t.base t.stars t.lengths h p

  element_there : (t : CType) → There t → is_array t ≡ true → There (element_of t)
  element_there t h p = element_by t.base t.stars t.lengths h p

-- ---- members of lists

module _ {X : Type 0} where
  pub either_of : (t : X) (k l : List X) → In t (k ++ l) → In t k ⊎ In t l
  either_of t [] l h = inr h
  either_of t (x ∷ k) l (inl e) = inl (inl e)
  either_of t (x ∷ k) l (inr h) = elim (either_of t k l h) [ inl i ↦ inl (inr i) | inr i ↦ inr i ]

pub known_in : (t : CType) (l : List (Option CType)) → In t (known l) → In (Some t) l
known_in t [] h = absurd h
known_in t (None ∷ l) h = inr (known_in t l h)
known_in t (Some s ∷ l) (inl e) = inl (ap Some e)
known_in t (Some s ∷ l) (inr h) = inr (known_in t l h)

in_known : (t : CType) (l : List (Option CType)) → In (Some t) l → In t (known l)
in_known t [] h = absurd h
in_known t (None ∷ l) (inl e) = cc
in_known t (None ∷ l) (inr h) = in_known t l h
in_known t (Some s ∷ l) (inl e) = inl (same_some t s e)
in_known t (Some s ∷ l) (inr h) = inr (in_known t l h)

denoted_in : (tys : List Ty) (ns : List TyId) (ts : List CType) (t : CType) → AllDenote tys ns ts → In t ts → (n : ℕ) × Denotes tys n t
denoted_in tys [] [] t h i = absurd i
denoted_in tys (n ∷ ns) (s ∷ ts) t h (inl e) = (n.0, subst (Denotes tys n.0) (sym e) h.0)
denoted_in tys (n ∷ ns) (s ∷ ts) t h (inr i) = denoted_in tys ns ts t h.1 i
denoted_in tys [] (s ∷ ts) t h i = absurd h
denoted_in tys (n ∷ ns) [] t h i = absurd h

-- ---- the types that have to be asked for

abbrev pub function_types : Function → List CType
function_types f = result_of f ++ known f.params

abbrev pub functions_types : List Function → List CType
functions_types [] = []
functions_types (f ∷ fs) = function_types f ++ functions_types fs

-- the types of expressions, declarations and functions
abbrev pub wanted : List Note → List CType → List Function → List CType
wanted notes expressions functions = expressions ++ (declared_types notes ++ functions_types functions)

from_functions : (t : CType) (fs : List Function) → In t (functions_types fs) → (f : Function) × (In f fs × In t (function_types f))
from_functions t [] h = absurd h
from_functions t (f ∷ fs) h = elim (either_of t (function_types f) (functions_types fs) h) [ inl i ↦ (f, (inl refl, i)) | inr i ↦ (let p = from_functions t fs i in (p.0, (inr p.1.0, p.1.1))) ]

to_functions : (t : CType) (f : Function) (fs : List Function) → In f fs → In t (function_types f) → In t (functions_types fs)
to_functions t f [] h i = absurd h
to_functions t f (g ∷ fs) (inl e) i = in_left t (function_types g) (functions_types fs) (subst (λ z. In t (function_types z)) e i)
to_functions t f (g ∷ fs) (inr h) i = in_right t (function_types g) (functions_types fs) (to_functions t f fs h i)

module _ (notes : List Note) (expressions : List CType) (functions : List Function) where
  abbrev pub all_wanted : List CType
  all_wanted = wanted notes expressions functions

  pub asked_expression : (t : CType) → In t expressions → Asked all_wanted t
  asked_expression t i = (t, (inr (in_left t expressions (declared_types notes ++ functions_types functions) i), PartOf.itself))

  pub asked_declaration : (t : CType) → In t (declared_types notes) → Asked all_wanted t
  asked_declaration t i = (t, (inr (in_right t expressions (declared_types notes ++ functions_types functions) (in_left t (declared_types notes) (functions_types functions) i)), PartOf.itself))

  pub asked_functions : FunctionsAsked all_wanted functions
  asked_functions f t h i = (t, (inr (in_right t expressions (declared_types notes ++ functions_types functions) (in_right t (declared_types notes) (functions_types functions) (to_functions t f functions h i))), PartOf.itself))

  abbrev pub IsMentioned : CType → Type 0
  IsMentioned t = Mentioned notes expressions functions t

  function_mentioned : (t : CType) (f : Function) → In f functions → In t (result_of f) ⊎ In t (known f.params) → IsMentioned t
  function_mentioned t f h (inl i) = elim (known_in t (f.result ∷ []) i) [ inl e ↦ Mentioned.result f t h (sym e) | inr z ↦ absurd z ]
  function_mentioned t f h (inr i) = Mentioned.param f t h (known_in t f.params i)

  later_mentioned : (t : CType) → In t (declared_types notes) ⊎ In t (functions_types functions) → IsMentioned t
  later_mentioned t (inl i) = Mentioned.declaration t i
  later_mentioned t (inr i) = let p = from_functions t functions i in function_mentioned t p.0 p.1.0 (either_of t (result_of p.0) (known (p.0).params) p.1.1)

  wanted_mentioned : (t : CType) → In t expressions ⊎ In t (declared_types notes ++ functions_types functions) → IsMentioned t
  wanted_mentioned t (inl i) = Mentioned.expression t i
  wanted_mentioned t (inr i) = later_mentioned t (either_of t (declared_types notes) (functions_types functions) i)

  part_mentioned : (s t : CType) → IsMentioned s → PartOf s t → IsMentioned t
  part_mentioned s t h PartOf.itself = h
  part_mentioned s t h (PartOf.pointed u p e) = Mentioned.pointed u (part_mentioned s u h p) e
  part_mentioned s t h (PartOf.element u p e) = Mentioned.element u (part_mentioned s u h p) e

  asked_from : (s t : CType) → In s (void_type ∷ all_wanted) → PartOf s t → IsMentioned t
  asked_from s t (inl e) p = part_mentioned s t (subst (Mentioned notes expressions functions) (sym e) Mentioned.void) p
  asked_from s t (inr i) p = part_mentioned s t (wanted_mentioned s (either_of s expressions (declared_types notes ++ functions_types functions) i)) p

  asked_mentioned : (t : CType) → Asked all_wanted t → IsMentioned t
  asked_mentioned t w = asked_from w.0 t w.1.0 w.1.1

result_there : (tys : List Ty) (f : Function) (l : List CType) (s : Sig) (t : CType) → SigDenotes tys f l s → f.result ≡ Some t → (n : ℕ) × Denotes tys n t
result_there tys f l s t h e = ((s.result).0, subst (λ z. Denotes tys (s.result).0 (unwrap_or z void_type)) e h.result)

sig_there : (tys : List Ty) (fs : List Function) (ls : List (List CType)) (ss : List Sig) (f : Function) → SigsDenote tys fs ls ss → In f fs → (l : List CType) × (s : Sig) × SigDenotes tys f l s
sig_there tys [] ls ss f h i = absurd i
sig_there tys (g ∷ fs) (l ∷ ls) (s ∷ ss) f h (inl e) = (l, s, subst (λ z. SigDenotes tys z l s) (sym e) h.0)
sig_there tys (g ∷ fs) (l ∷ ls) (s ∷ ss) f h (inr i) = sig_there tys fs ls ss f h.1 i
sig_there tys (g ∷ fs) [] [] f h i = absurd h
sig_there tys (g ∷ fs) [] (s ∷ ss) f h i = absurd h
sig_there tys (g ∷ fs) (l ∷ ls) [] f h i = absurd h

module _ (notes : List Note) (expressions : List CType) (functions : List Function) (tys : List Ty) (es ds : List TyId) (ls : List (List CType)) (ss : List Sig)
    (first : Continues (ty.Void ∷ []) tys) (he : AllDenote tys es expressions) (hd : AllDenote tys ds (declared_types notes)) (hs : SigsDenote tys functions ls ss) where
  all_there : (t : CType) → Mentioned notes expressions functions t → There tys t
  all_there t Mentioned.void = (0, Denotes-continue (ty.Void ∷ []) tys 0 void_type first (Denotes.void refl))
  all_there t (Mentioned.expression u i) = denoted_in tys es expressions u he i
  all_there t (Mentioned.declaration u i) = denoted_in tys ds (declared_types notes) u hd i
  all_there t (Mentioned.result f u i e) = let p = sig_there tys functions ls ss f hs i in result_there tys f p.0 p.1 u p.2 e
  all_there t (Mentioned.param f u i j) = let p = sig_there tys functions ls ss f hs i in denoted_in tys (p.1).params (known f.params) u (p.2).params (in_known u f.params j)
  all_there t (Mentioned.pointed u m e) = target_there tys u (all_there u m) e
  all_there t (Mentioned.element u m e) = element_there tys u (all_there u m) e

  -- a table in which all of them were asked for, and nothing else
  pub AreTypes-from : AreAmong (wanted notes expressions functions) tys → AreTypes notes expressions functions tys
  AreTypes-from a = record {
    all = all_there;
    once = Denotes-once tys a.once;
    only = λ n h. let p = a.only n h in (p.0, (p.1.0, asked_mentioned notes expressions functions p.0 p.1.1));
  }

-- ---- signatures

result_sig : (tys : List Ty) (n : TyId) (o : Option CType) → is_some o ≡ true → Denotes tys n.0 (unwrap_or o void_type) → AllDenote tys (n ∷ []) (known (o ∷ []))
result_sig tys n None e d = cc
result_sig tys n (Some t) e d = (d, tt)

-- the types of a function's locals
abbrev pub locals_of : (text : ℕ → Text) (items : List Item) → Function → List CType
locals_of text items f = slots_in text (file_of text items) nothing_before f.name items

module _ (text : ℕ → Text) (items : List Item) (tys : List Ty) where
  -- where each result is known
  pub AreSigs-from : (fs : List Function) (ss : List Sig) → ((f : Function) → In f fs → is_some f.result ≡ true) → SigsDenote tys fs (map (locals_of text items) fs) ss → AreSigs text items tys fs ss
  AreSigs-from [] [] k h = tt
  AreSigs-from (f ∷ fs) (s ∷ ss) k h = (record { params = (h.0).params; result = result_sig tys s.result f.result (k f (inl refl)) (h.0).result; slots = (h.0).slots }, AreSigs-from fs ss (λ g i. k g (inr i)) h.1)
  AreSigs-from [] (s ∷ ss) k h = absurd h
  AreSigs-from (f ∷ fs) [] k h = absurd h
