use Rattle.std.proofs.Common.{take}
use Rattle.cc_base.specs.Paths.{In}
use Rattle.search_base.specs.declared.terms.FoundTerm.{FoundTerm}
use Rattle.search_base.specs.Terms.{seen_term, Comes}
use Rattle.search_base.proofs.terms.place_of.Given as goal

abbrev pub invariant-loop-i : goal.invariant-loop-i
invariant-loop-i l = (x : FoundTerm) → In x (take l.i l.terms) → Comes (seen_term x) (seen_term l.term)
