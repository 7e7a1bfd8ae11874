-- Which bytes the texts of numbers, paths and ends lack.
use Rattle.std.proofs.Common.{◌≡◌, sym, refl, subst, ℕ, zero, suc, ◌+◌, ◌*◌, ◌/◌, ◌%◌, ◌^◌, ◌<◌, ◌≤◌, ◌⊎◌, inl, inr, ℤ, pos, negsuc, List, [], ◌∷◌, ◌++◌, All, map, codes, arith}
use Rattle.std.proofs.lemmas.Fmt.{decimal_by_steps}
use Rattle.std.specs.Fmt.{decimal, signed_decimal}
use Rattle.cc_base.specs.declared.ends.End.{End}
use Rattle.cc_base.specs.declared.ends.End.TheVariants.{Return, Assume, Cut, Objects, Steps, Fault}
use Rattle.cc_base.specs.declared.ends.FaultKind.{FaultKind}
use Rattle.cc_base.specs.declared.ends.FaultKind.TheVariants.{Overflow, Null, Divide, Index, Assert, Abort}
use Rattle.cc_base.specs.declared.outcomes.Outcome.{Outcome}
use Rattle.cc_base.specs.declared.outcomes.Outcome.TheVariants.{Zero, High, Low, Plain, False, True, Object}
use Rattle.cc_base.specs.Ends.{fault_text, end_text}
use Rattle.cc_base.specs.Outcomes.{byte_of}
use Rattle.cc_base.specs.Paths.{Path, path_text}
use Rattle.report_words.specs.Cuts.{Lacks}
use Rattle.report_words.specs.Words.{HasLine}
use Rattle.report_words.proofs.Cutting.{has_none, lacks_append, lacks_by_test}

-- the byte is none of a digit
abbrev pub NoDigit : ℕ → Type 0
NoDigit m = (m < 48) ⊎ (57 < m)

no_digit : (m d : ℕ) → NoDigit m → d < 10 → 48 + d ≡ m → ⊥
no_digit m d (inl h) k e = omega (arith, h, k, e)
no_digit m d (inr h) k e = omega (arith, h, k, e)

pub lacks_decimal : (m n : ℕ) → NoDigit m → n < 2 ^ 64 → Lacks m (decimal n)
lacks_decimal m n h k = decimal_by_steps (λ i ds. Lacks m ds) (λ i lt. (no_digit m i h lt, tt))
    (λ i ds low all. lacks_append m ds ((48 + i % 10) ∷ []) all (no_digit m (i % 10) h (omega arith), tt)) n k

pub lacks_signed : (m : ℕ) (z : ℤ) → NoDigit m → (45 ≡ m → ⊥) → ((n : ℕ) → z ≡ pos n → n < 2 ^ 64) → ((n : ℕ) → z ≡ negsuc n → suc n < 2 ^ 64) → Lacks m (signed_decimal z)
lacks_signed m (pos n) h k a b = lacks_decimal m n h (a n refl)
lacks_signed m (negsuc n) h k a b = (k, lacks_decimal m (suc n) h (b n refl))

least_byte : (m : ℕ) (o : Outcome) → m < 33 → byte_of o ≡ m → ⊥
least_byte m Zero h e = omega (arith, h, e)
least_byte m High h e = omega (arith, h, e)
least_byte m Low h e = omega (arith, h, e)
least_byte m Plain h e = omega (arith, h, e)
least_byte m False h e = omega (arith, h, e)
least_byte m True h e = omega (arith, h, e)
least_byte m (Object n) h e = omega (arith, h, e)

lacks_bytes : (m : ℕ) (p : Path) → m < 33 → Lacks m (map byte_of p)
lacks_bytes m [] h = tt
lacks_bytes m (o ∷ p) h = (least_byte m o h, lacks_bytes m p h)

pub lacks_path : (m : ℕ) (p : Path) → m < 33 → Lacks m (path_text p)
lacks_path m [] h = ((λ e. omega (arith, h, e)), tt)
lacks_path m (o ∷ p) h = lacks_bytes m (o ∷ p) h

-- neither a blank nor an @ stands in the word of a fault
pub lacks_fault : (k : FaultKind) → Lacks 32 (fault_text k) × Lacks 64 (fault_text k)
unfolding has_none
lacks_fault Overflow = (lacks_by_test 32 (codes "overflow") refl, lacks_by_test 64 (codes "overflow") refl)
lacks_fault Null = (lacks_by_test 32 (codes "null") refl, lacks_by_test 64 (codes "null") refl)
lacks_fault Divide = (lacks_by_test 32 (codes "divide") refl, lacks_by_test 64 (codes "divide") refl)
lacks_fault Index = (lacks_by_test 32 (codes "index") refl, lacks_by_test 64 (codes "index") refl)
lacks_fault Assert = (lacks_by_test 32 (codes "assert") refl, lacks_by_test 64 (codes "assert") refl)
lacks_fault Abort = (lacks_by_test 32 (codes "abort") refl, lacks_by_test 64 (codes "abort") refl)

pub lacks_end : (e : End) → HasLine e → Lacks 32 (end_text e)
unfolding has_none
lacks_end Return h = lacks_by_test 32 (codes "return") refl
lacks_end Assume h = lacks_by_test 32 (codes "assume") refl
lacks_end Cut h = lacks_by_test 32 (codes "cut") refl
lacks_end Objects h = lacks_by_test 32 (codes "objects") refl
lacks_end Steps h = lacks_by_test 32 (codes "steps") refl
lacks_end (Fault k line) h = lacks_append 32 (fault_text k ++ codes "@") (decimal line)
    (lacks_append 32 (fault_text k) (codes "@") (lacks_fault k).0 (lacks_by_test 32 (codes "@") refl)) (lacks_decimal 32 line (inl (omega arith)) (omega (arith, h)))
