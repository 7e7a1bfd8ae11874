-- A map text has no blank.
use Rattle.std.proofs.Common.{refl, suc, inl, ℤ, pos, negsuc, List, [], ◌∷◌, ◌++◌, codes, arith}
use Rattle.std.specs.Fmt.{signed_decimal}
use Rattle.cc_base.specs.declared.inputs.Input.{Input}
use Rattle.cc_base.specs.Inputs.{numbers_text, cells_text, stream_text, map_text}
use Rattle.input_map.specs.Maps.{IsShort, AllShort}
use Rattle.report_words.specs.Cuts.{Lacks}
use Rattle.report_words.proofs.Cutting.{has_none, lacks_append, lacks_by_test}
use Rattle.report_words.proofs.Texts.{lacks_decimal}

number_lacks : (z : ℤ) → IsShort z → Lacks 32 (signed_decimal z)
number_lacks (pos n) h = lacks_decimal 32 n (inl (omega arith)) (omega (arith, h))
number_lacks (negsuc n) h = ((λ e. omega (arith, e)), lacks_decimal 32 (suc n) (inl (omega arith)) (omega (arith, h)))

numbers_lack : (l : List ℤ) → AllShort l → Lacks 32 (numbers_text l)
unfolding has_none
numbers_lack [] h = tt
numbers_lack (z ∷ []) h = number_lacks z h.0
numbers_lack (z ∷ y ∷ l) h = lacks_append 32 (signed_decimal z ++ codes ",") (numbers_text (y ∷ l))
    (lacks_append 32 (signed_decimal z) (codes ",") (number_lacks z h.0) (lacks_by_test 32 (codes ",") refl)) (numbers_lack (y ∷ l) h.1)

cells_lack : (l : List ℤ) → AllShort l → Lacks 32 (cells_text l)
unfolding has_none
cells_lack [] h = lacks_by_test 32 (codes "~") refl
cells_lack (z ∷ l) h = numbers_lack (z ∷ l) h

stream_lacks : (l : List ℤ) → AllShort l → Lacks 32 (stream_text l)
unfolding has_none
stream_lacks [] h = tt
stream_lacks (z ∷ l) h = lacks_append 32 (codes "/") (numbers_text (z ∷ l)) (lacks_by_test 32 (codes "/") refl) (numbers_lack (z ∷ l) h)

pub lacks_map : (i : Input) → AllShort i.cells → AllShort i.stream → Lacks 32 (map_text i)
lacks_map i h k = lacks_append 32 (cells_text i.cells) (stream_text i.stream) (cells_lack i.cells h) (stream_lacks i.stream k)
