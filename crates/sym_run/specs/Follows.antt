-- What the blocks of an input hold, and how an event of the code follows that of the traced meaning.
use Rattle.std.specs.Prelude.{Bool, true, false, ℕ, ◌≡◌, ◌-◌, ℤ, List, [], map, drop, Some, slice_get, unwrap_or}
use Rattle.cc_base.specs.declared.cells.CellTy.{CellTy}
use Rattle.cc_base.specs.declared.inputs.Input.{Input}
use Rattle.cc_base.specs.Paths.{In}
use Rattle.checked_memory.specs.declared.values.Cell.{Cell}
use Rattle.checked_memory.specs.declared.values.Value.{Value}
use Rattle.checked_memory.specs.declared.values.Value.TheVariants.{Int, Null, Made, Block}
use Rattle.cc_laws.specs.LinearForms.{linear}
use Rattle.cc_model.specs.CheckedProgram.{cell_of}
use Rattle.cc_model.specs.Core as core
use Rattle.cc_model.specs.Core.{Cmp}
use Rattle.cc_model.specs.Domain.{act_access, act_compare, act_test, Acted}
use Rattle.cc_model.specs.Canonical.{Named}
use Rattle.cc_model.specs.Plain as plain
use Rattle.cc_model.specs.Traced as traced
use Rattle.cc_model.specs.Traced.{Traced, Data, Event}
use Rattle.sym_run.specs.declared.acted.Acted as code
use Rattle.sym_run.specs.declared.number_acts.Decided.{Decided}
use Rattle.sym_run.specs.declared.symbols.Symbol.{Symbol}
use Rattle.sym_run.specs.declared.objects.Objects.{Objects}
use Rattle.sym_run.specs.Accesses.{MayHold}
use Rattle.sym_run.specs.Asks.{asked_of}
use Rattle.sym_run.specs.Beside.{traced_of}
use Rattle.sym_run.specs.Blocks.{values_from}
use Rattle.sym_run.specs.Remembers.{IsKnown, names_in, Remembers}

-- what each block that the input names holds where a run begins: the input's cells from its address on, by the layout of its
-- type
pub record HasBlocks (tys : List (List CellTy)) (h : Input) (layouts : ℕ → List core.Cell) (named : List Named) (start : plain.Data) : Type 0 where
  pub types : (t : ℕ) → layouts t ≡ map cell_of (unwrap_or (slice_get tys t) [])
  pub values : (k : Named) → In k named → start.blocks k.address ≡ values_from (layouts k.type) (drop (k.address - 1) h.cells)
  pub cells : (k : Named) → In k named → (i : ℕ) (c : CellTy) (z : ℤ) → slice_get (layouts k.type) i ≡ Some (cell_of c) → slice_get (drop (k.address - 1) h.cells) i ≡ Some z → MayHold named c z

-- the events of the traced meaning, of values in cells
abbrev pub accessed : (ℕ → List core.Cell) → List Symbol → Cell → Data → Acted Traced Data Event
accessed layouts symbols at d = traced.act linear layouts (act_access (traced_of symbols at)) d

abbrev pub compared : (ℕ → List core.Cell) → Cmp → List Symbol → Cell → Cell → Data → Acted Traced Data Event
compared layouts o symbols a b d = traced.act linear layouts (act_compare o (traced_of symbols a) (traced_of symbols b)) d

abbrev pub tested : (ℕ → List core.Cell) → List Symbol → Cell → Data → Acted Traced Data Event
tested layouts symbols a d = traced.act linear layouts (act_test (traced_of symbols a)) d

-- a cell stands for the value that an event gives, and the state of the code for the data after it
pub record Reaches (start : plain.Data) (named : List Named) (symbols : List Symbol) (o : Objects) (cell : Cell) (w : Acted Traced Data Event) : Type 0 where
  pub value : traced_of symbols cell ≡ w.value
  pub after : Remembers start named symbols o w.after
  pub known : IsKnown named (names_in o) symbols cell

-- so does the cell of what the code gives, which has the event's outcome and asks what it asks
pub record Follows (start : plain.Data) (named : List Named) (symbols : List Symbol) (o : Objects) (r : code.Acted) (w : Acted Traced Data Event) : Type 0 where
  pub outcome : r.outcome ≡ (w.event).outcome
  pub asked : asked_of r.asked ≡ (w.event).asked
  pub reaches : Reaches start named symbols o r.cell w

-- a decision has the event's outcome and asks what it asks
pub record IsDecided (r : Decided) (w : Acted Traced Data Event) : Type 0 where
  pub outcome : r.outcome ≡ (w.event).outcome
  pub asked : asked_of r.asked ≡ (w.event).asked

-- whether a value is a number
abbrev pub is_number : Value → Bool
is_number (Int z) = true
is_number Null = false
is_number (Made n i) = false
is_number (Block a i) = false
