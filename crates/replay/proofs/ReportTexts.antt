-- The texts in a report's lines have no newline.
use Rattle.std.proofs.Common.{refl, ℕ, suc, ◌^◌, ◌<◌, inl, ℤ, pos, negsuc, ◌≤ℤ◌, List, [], ◌∷◌, ◌++◌, codes, arith}
use Rattle.std.proofs.lemmas.Int.{ints}
use Rattle.std.specs.Fmt.{decimal, signed_decimal}
use Rattle.cc_base.specs.declared.ends.End.{End}
use Rattle.cc_base.specs.declared.ends.End.TheVariants.{Return, Assume, Cut, Objects, Steps, Fault}
use Rattle.cc_base.specs.declared.ends.FaultKind.{FaultKind}
use Rattle.cc_base.specs.declared.ends.FaultKind.TheVariants.{Overflow, Null, Divide, Index, Assert, Abort}
use Rattle.cc_base.specs.declared.inputs.Input.{Input}
use Rattle.cc_base.specs.declared.inputs.Test.{Test}
use Rattle.cc_base.specs.Ends.{fault_text, end_text}
use Rattle.cc_base.specs.Inputs.{numbers_text, cells_text, stream_text, map_text, test_text}
use Rattle.cc_base.specs.Limits.{Limits}
use Rattle.cc_base.specs.Paths.{path_text}
use Rattle.cc_model.specs.Core.{Program}
use Rattle.input_map.specs.Maps.{IsShort, AllShort}
use Rattle.input_map.specs.TestTexts.{IsGood, IsShortInput}
use Rattle.report_words.specs.Cuts.{Lacks}
use Rattle.report_words.specs.Words.{HasLine}
use Rattle.report_words.proofs.Cutting.{has_none, lacks_append, lacks_by_test}
use Rattle.report_words.proofs.Texts.{lacks_decimal, lacks_path}

pub whole_decimal : (n : ℕ) → n < 2 ^ 64 → Lacks 10 (decimal n)
whole_decimal n h = lacks_decimal 10 n (inl (omega arith)) h

number_lacks : (z : ℤ) → IsShort z → Lacks 10 (signed_decimal z)
number_lacks (pos n) h = lacks_decimal 10 n (inl (omega arith)) (omega (arith, h))
number_lacks (negsuc n) h = ((λ e. omega (arith, e)), lacks_decimal 10 (suc n) (inl (omega arith)) (omega (arith, h)))

numbers_lack : (l : List ℤ) → AllShort l → Lacks 10 (numbers_text l)
unfolding has_none
numbers_lack [] h = tt
numbers_lack (z ∷ []) h = number_lacks z h.0
numbers_lack (z ∷ y ∷ l) h = lacks_append 10 (signed_decimal z ++ codes ",") (numbers_text (y ∷ l))
    (lacks_append 10 (signed_decimal z) (codes ",") (number_lacks z h.0) (lacks_by_test 10 (codes ",") refl)) (numbers_lack (y ∷ l) h.1)

cells_lack : (l : List ℤ) → AllShort l → Lacks 10 (cells_text l)
unfolding has_none
cells_lack [] h = lacks_by_test 10 (codes "~") refl
cells_lack (z ∷ l) h = numbers_lack (z ∷ l) h

stream_lacks : (l : List ℤ) → AllShort l → Lacks 10 (stream_text l)
unfolding has_none
stream_lacks [] h = tt
stream_lacks (z ∷ l) h = lacks_append 10 (codes "/") (numbers_text (z ∷ l)) (lacks_by_test 10 (codes "/") refl) (numbers_lack (z ∷ l) h)

map_lacks : (i : Input) → AllShort i.cells → AllShort i.stream → Lacks 10 (map_text i)
map_lacks i h k = lacks_append 10 (cells_text i.cells) (stream_text i.stream) (cells_lack i.cells h) (stream_lacks i.stream k)

pub whole_map : (p : Program) (b : Limits) (i : Input) → IsShortInput p b i → Lacks 10 (map_text i)
whole_map p b i h = map_lacks i h.cells h.stream

fault_lacks : (k : FaultKind) → Lacks 10 (fault_text k)
unfolding has_none
fault_lacks Overflow = lacks_by_test 10 (codes "overflow") refl
fault_lacks Null = lacks_by_test 10 (codes "null") refl
fault_lacks Divide = lacks_by_test 10 (codes "divide") refl
fault_lacks Index = lacks_by_test 10 (codes "index") refl
fault_lacks Assert = lacks_by_test 10 (codes "assert") refl
fault_lacks Abort = lacks_by_test 10 (codes "abort") refl

end_lacks : (e : End) → HasLine e → Lacks 10 (end_text e)
unfolding has_none
end_lacks Return h = lacks_by_test 10 (codes "return") refl
end_lacks Assume h = lacks_by_test 10 (codes "assume") refl
end_lacks Cut h = lacks_by_test 10 (codes "cut") refl
end_lacks Objects h = lacks_by_test 10 (codes "objects") refl
end_lacks Steps h = lacks_by_test 10 (codes "steps") refl
end_lacks (Fault k line) h = lacks_append 10 (fault_text k ++ codes "@") (decimal line)
    (lacks_append 10 (fault_text k) (codes "@") (fault_lacks k) (lacks_by_test 10 (codes "@") refl)) (lacks_decimal 10 line (inl (omega arith)) (omega (arith, h)))

blank : Lacks 10 (codes " ")
unfolding has_none
blank = lacks_by_test 10 (codes " ") refl

pub whole_test : (p : Program) (b : Limits) (t : Test) → IsGood p b t → Lacks 10 (test_text t)
whole_test p b t g = lacks_append 10 (path_text t.path ++ codes " " ++ end_text t.end ++ codes " ") (map_text t.input)
    (lacks_append 10 (path_text t.path ++ codes " " ++ end_text t.end) (codes " ")
    (lacks_append 10 (path_text t.path ++ codes " ") (end_text t.end)
    (lacks_append 10 (path_text t.path) (codes " ") (lacks_path 10 t.path (omega arith)) blank) (end_lacks t.end g.line)) blank)
    (whole_map p b t.input g.input)

pub whole_signed : (z : ℤ) → negsuc 2147483647 ≤ℤ z → z ≤ℤ pos 2147483647 → Lacks 10 (signed_decimal z)
whole_signed (pos n) l h = whole_decimal n (omega (arith, ints, h))
whole_signed (negsuc n) l h = ((λ e. omega (arith, e)), whole_decimal (suc n) (omega (arith, ints, l)))

-- two texts more
pub whole_more : (a : List ℕ) (word digits : List ℕ) → Lacks 10 a → Lacks 10 word → Lacks 10 digits → Lacks 10 (a ++ word ++ digits)
whole_more a word digits h k l = lacks_append 10 (a ++ word) digits (lacks_append 10 a word h k) l
