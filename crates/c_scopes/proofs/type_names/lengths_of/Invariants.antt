use Rattle.std.proofs.Common.{◌≡◌, ◌++◌, drop, map, nat_abs}
use Rattle.cc_model.specs.declared.trees.Length.{Length}
use Rattle.c_scopes.proofs.type_names.lengths_of.Given as goal

abbrev pub invariant-loop-length : goal.invariant-loop-length
invariant-loop-length l = l.numbers ++ map (λ (n : Length). nat_abs n.value) (drop l.length-index l.lengths) ≡ map (λ (n : Length). nat_abs n.value) l.fn.lengths
