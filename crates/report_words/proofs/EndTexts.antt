-- Ends by their texts.
use Rattle.std.proofs.Common.{◌≡◌, ◌∙◌, sym, ap, subst, refl, ℕ, ◌<◌, ◌≤◌, List, [], ◌∷◌, ◌++◌, codes, arith, append_assoc}
use Rattle.std.specs.Fmt.{decimal}
use Rattle.cc_base.specs.declared.ends.End.{End}
use Rattle.cc_base.specs.declared.ends.End.TheVariants.{Return, Assume, Cut, Objects, Steps, Fault}
use Rattle.cc_base.specs.Ends.{fault_text, end_text}
use Rattle.report_words.specs.Cuts.{Lacks, CutFirst}
use Rattle.report_words.specs.Faults.{FaultAt}
use Rattle.report_words.specs.Words.{IsEnd}
use Rattle.report_words.proofs.Cutting.{has_none, lacks_by_test, no_first, first_once}
use Rattle.report_words.proofs.Texts.{lacks_fault}

-- a word without an @ has no fault's text
lacking : (word text before behind : List ℕ) → CutFirst 64 word before behind → word ≡ text → Lacks 64 text → ⊥
lacking word text before behind c e h = no_first 64 word before behind (subst (λ w. Lacks 64 w) (sym e) h) c

-- a word that is cut at its first @ is the text of a fault
pub fault_parts : (word before behind : List ℕ) (e : End) → CutFirst 64 word before behind → IsEnd word e → FaultAt before behind e
unfolding has_none
fault_parts word before behind Return c h = absurd (lacking word (codes "return") before behind c h.text (lacks_by_test 64 (codes "return") refl))
fault_parts word before behind Assume c h = absurd (lacking word (codes "assume") before behind c h.text (lacks_by_test 64 (codes "assume") refl))
fault_parts word before behind Cut c h = absurd (lacking word (codes "cut") before behind c h.text (lacks_by_test 64 (codes "cut") refl))
fault_parts word before behind Objects c h = absurd (lacking word (codes "objects") before behind c h.text (lacks_by_test 64 (codes "objects") refl))
fault_parts word before behind Steps c h = absurd (lacking word (codes "steps") before behind c h.text (lacks_by_test 64 (codes "steps") refl))
fault_parts word before behind (Fault k line) c h =
    let cut : CutFirst 64 word (fault_text k) (decimal line) = record { is = h.text ∙ append_assoc (fault_text k) (codes "@") (decimal line); first = (lacks_fault k).1 } in
    let r = first_once 64 word before behind (fault_text k) (decimal line) c cut in
    let l = h.line in
    (r.0, record { text = r.1; at_most = omega (arith, l) })
