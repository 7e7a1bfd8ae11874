use Rattle.std.proofs.Common.{List}
use Rattle.input_map.specs.Laying.{Spot, plan_by, Stands}
use Rattle.input_map.proofs.building.Laying.fill.Given as goal

-- the cells so far are passed
abbrev pub invariant-loop-number : goal.invariant-loop-number
invariant-loop-number l = (first : List Spot) → Stands (plan_by l.checked l.values l.bounds l.index) first 0 (l.initial).self
    → Stands (plan_by l.checked l.values l.bounds l.index) first l.number l.self
