-- The code of a whole program does what the program does, over every domain.
use Rattle.std.proofs.Common.{◌≡◌, ℕ, zero, suc, ◌+◌, ◌<◌, pos, Bool, true, false, List, [], ◌∷◌, ◌++◌, length, Some, refl, ap, ◌∙◌, subst, arith, slice_get, append_assoc, length-append}
use Rattle.std.proofs.Math.Seq.{get_or-append_seam}
use Rattle.std.proofs.lemmas.Option.{slice_get-get_or}
use Rattle.cc_model.specs.Core.{Func}
use Rattle.cc_model.specs.Domain.{Domain}
use Rattle.cc_model.specs.Meaning.{Fixed, State, Ran, Done, stop, main}
use Rattle.cc_model.specs.Instructions.{Instruction, Config, from_entry, CodeRuns}
use Rattle.cc_model.specs.Runs.{end_of}
use Rattle.tac_lower.specs.Lowering.{func_code, code_from, first_from}
use Rattle.tac_lower.proofs.Lowered.{HasAt, has_front, has_back}
use Rattle.tac_lower.proofs.Compiled.{main_does}
use Rattle.tac_lower.proofs.Told.{other, for_all, entry_told}

has_all : (is pre : List Instruction) → HasAt (pre ++ is) (length pre) is
has_all [] pre = tt
has_all (i ∷ is) pre =
    let within : length pre < length (pre ++ i ∷ is) = omega (arith, length-append pre (i ∷ is)) in
    let here = slice_get-get_or (pre ++ i ∷ is) (length pre) i within ∙ ap Some (get_or-append_seam pre i is i) in
    let n : length (pre ++ i ∷ []) ≡ suc (length pre) = omega (arith, length-append pre (i ∷ [])) in
    let rest = has_all is (pre ++ i ∷ []) in
    let rest' = subst (λ l. HasAt l (length (pre ++ i ∷ [])) is) (append_assoc pre (i ∷ []) is) rest in
    (here, subst (λ m. HasAt (pre ++ i ∷ is) m is) n rest')

-- each function's code stands where it begins
stands_at : (line : ℕ → ℕ) (code : List Instruction) (fs : List Func) (pc i : ℕ) (g : Func) → HasAt code pc (code_from line fs pc) → slice_get fs i ≡ Some g → HasAt code (first_from line fs pc i) (func_code line g (first_from line fs pc i))
stands_at line code [] pc i g h e = absurd (cc e)
stands_at line code (f ∷ fs) pc zero g h e = subst (λ z. HasAt code pc (func_code line z pc)) (some_is f g e) (has_front code pc (func_code line f pc) _ h)
  where
    some_is : (f g : Func) → Some f ≡ Some g → f ≡ g
    some_is f g e = cc e
stands_at line code (f ∷ fs) pc (suc i) g h e = stands_at line code fs (pc + length (func_code line f pc)) i g (has_back code pc (func_code line f pc) _ h) e

module _ (d : Domain) (x : Fixed) (is_zero : d.V → Bool) (zero_false : is_zero (d.number (pos 0)) ≡ true) (zero_true : is_zero (d.number (pos 1)) ≡ false) where
  abbrev pub code : List Instruction
  code = code_from (x.program).line (x.program).funcs 0

  abbrev pub first : ℕ → ℕ
  first i = first_from (x.program).line (x.program).funcs 0 i

  funcs_stand : (f : ℕ) (g : Func) → slice_get (x.program).funcs f ≡ Some g → HasAt code (first f) (func_code (x.program).line g (first f))
  funcs_stand f g e = stands_at (x.program).line code (x.program).funcs 0 f g (has_all code []) e

  enough : (lost : Config d → Done d) (s : State d.V d.D) → s.steps < x.fuel → (j : ℕ) × (from_entry d x is_zero first code lost j (slice_get (x.program).funcs (x.program).entry) s ≡ main d x s)
  unfolding main
  enough lost s lt = main_does d x is_zero first code lost zero_false zero_true funcs_stand (slice_get (x.program).funcs (x.program).entry) refl s lt

  -- a number of instructions that does it for one thing that is said of too few of them does it for all
  of_all : (s : State d.V d.D) (r : Ran d.E (State d.V d.D) (Unit {0})) (j : ℕ) → from_entry d x is_zero first code (λ c. stop d (other (end_of r.result))) j (slice_get (x.program).funcs (x.program).entry) s ≡ r
      → (lost : Config d → Done d) → from_entry d x is_zero first code lost j (slice_get (x.program).funcs (x.program).entry) s ≡ r
  of_all s r j e lost = for_all d (λ l. from_entry d x is_zero first code l j (slice_get (x.program).funcs (x.program).entry) s) r (entry_told d x is_zero first code j (slice_get (x.program).funcs (x.program).entry) s) e lost

  -- over every domain: the run of the code is the run of the program
  pub compiled : (s : State d.V d.D) → s.steps < x.fuel → CodeRuns d x is_zero first code s (main d x s)
  compiled s lt =
      let r = enough (λ c. stop d (other (end_of (main d x s).result))) s lt in
      (r.0, of_all s (main d x s) r.0 r.1)
