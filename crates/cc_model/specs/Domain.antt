-- What a run computes on: the values, the state of the data, the events, and the operations on them.
use Rattle.std.specs.Prelude.{ℕ, ℤ}
use Rattle.cc_base.specs.declared.outcomes.Outcome.{Outcome}
use Rattle.cc_model.specs.Core.{Layout, Op, Cmp}

-- an operation that is an event
pub data Act (V : Type 0) : Type 0 where
  act_arith : (o : Op) → (a b : V) → Act V
  act_divisor : (a b : V) → Act V
  act_negate : (a : V) → Act V
  act_compare : (o : Cmp) → (a b : V) → Act V
  act_test : (a : V) → Act V
  act_access : (a : V) → Act V
  act_index : (p i : V) → (length width : ℕ) → Act V

-- what it gives: the event, a value and the data after it
pub record Acted (V D E : Type 0) : Type 0 where
  pub event : E
  pub value : V
  pub after : D

pub record Made (V D : Type 0) : Type 0 where
  pub value : V
  pub after : D

pub record Domain : Type 1 where
  pub V : Type 0
  pub D : Type 0
  pub E : Type 0
  pub outcome : E → Outcome
  pub act : Act V → D → Acted V D E
  pub number : ℤ → V
  pub nil : V
  pub offset : V → ℕ → V
  pub global : ℕ → V
  pub load : V → D → V
  pub store : V → V → D → D
  pub make : Layout → D → Made V D
  pub take : V → D → D
