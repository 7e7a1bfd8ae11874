-- The rule of a call over the arguments from an index on.
use Rattle.std.proofs.Common.{◌≡◌, ◌∙◌, sym, ap, refl, arith, ℕ, suc, ◌+◌, ◌<◌, ◌≤◌, Bool, true, false, ◌&&◌, List, [], ◌∷◌, ◌++◌, drop, length, get_or, nat_eq, Option}
use Rattle.std.proofs.lemmas.List.{drop_all, append-nil}
use Rattle.cc_model.specs.declared.typing.Operand.{Operand}
use Rattle.cc_model.specs.declared.typing.Note.{Note}
use Rattle.cc_model.specs.declared.typing.CType.{CType}
use Rattle.cc_model.specs.Typing.{is_well, all_well, same_count, all_taken, arg_notes}
use Rattle.c_scopes.proofs.ListLemmas.{from_item}

pub ill_here : (l : List Operand) (k : ℕ) (x : Operand) (r : Bool) → k < length l → x ≡ get_or l k x → is_well x.shape ≡ false → all_well (drop k l) ≡ r → false ≡ r
ill_here l k x r h e w i = sym (ap all_well (from_item l k x h e) ∙ ap (λ b. b && all_well (drop (k + 1) l)) w) ∙ i

pub well_here : (l : List Operand) (k : ℕ) (x : Operand) (r : Bool) → k < length l → x ≡ get_or l k x → is_well x.shape ≡ true → all_well (drop k l) ≡ r → all_well (drop (k + 1) l) ≡ r
well_here l k x r h e w i = sym (ap all_well (from_item l k x h e) ∙ ap (λ b. b && all_well (drop (k + 1) l)) w) ∙ i

pub all_done : (l : List Operand) (k : ℕ) (r : Bool) → length l ≤ k → all_well (drop k l) ≡ r → true ≡ r
all_done l k r h i = sym (ap all_well (drop_all k l h)) ∙ i

-- as many arguments as parameters
pub same_count_is : (ps : List (Option CType)) (l : List Operand) → nat_eq (length ps) (length l) ≡ same_count ps l
same_count_is [] [] = refl
same_count_is [] (a ∷ l) = grind arith
same_count_is (p ∷ ps) [] = grind arith
same_count_is (p ∷ ps) (a ∷ l) = next (length ps) (length l) ∙ same_count_is ps l
  where
    next : (m n : ℕ) → nat_eq (suc m) (suc n) ≡ nat_eq m n
    next m n = grind arith

-- ---- parameters take arguments, from an index on

taken_none : (ps : List (Option CType)) → all_taken ps [] ≡ true
taken_none [] = refl
taken_none (p ∷ ps) = refl

pub taken_all : (ps : List (Option CType)) (l : List Operand) (k : ℕ) (r : Bool) → length l ≤ k → all_taken ps (drop k l) ≡ r → true ≡ r
taken_all ps l k r h i = sym (ap (all_taken ps) (drop_all k l h) ∙ taken_none ps) ∙ i

-- ---- what is said of arguments, from an index on

noted_none : (ps : List (Option CType)) → arg_notes ps [] ≡ []
noted_none [] = refl
noted_none (p ∷ ps) = refl

pub noted_all : (ps : List (Option CType)) (l : List Operand) (k : ℕ) (n r : List Note) → length l ≤ k → n ++ arg_notes ps (drop k l) ≡ r → n ≡ r
noted_all ps l k n r h i = sym (append-nil n) ∙ sym (ap (λ (y : List Note). n ++ y) (ap (arg_notes ps) (drop_all k l h) ∙ noted_none ps)) ∙ i
