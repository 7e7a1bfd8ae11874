-- A run of a checked program's code on an input: that has come so far, and that is over.
use Rattle.std.specs.Prelude.{◌≡◌, List, map}
use Rattle.cc_base.specs.declared.ends.End.{End}
use Rattle.cc_model.specs.CheckedProgram.{core_of}
use Rattle.cc_model.specs.Compiles.{is_traced_zero, before_run}
use Rattle.cc_model.specs.Conditions.{traced_begin, traced_run, events_of, places_of}
use Rattle.cc_model.specs.Core.{Program}
use Rattle.cc_model.specs.Instructions.{Instruction}
use Rattle.cc_model.specs.Runs.{fixed_of, end_of}
use Rattle.cc_laws.specs.LinearForms.{linear}
use Rattle.tac_lower.specs.Finished.{first_in}
use Rattle.tac_lower.specs.Seen.{seen}
use Rattle.sym_run.specs.declared.machine.Machine.{Machine}
use Rattle.sym_run.specs.Coming.{ComesTo}
use Rattle.sym_run.specs.Stands.{Setting, domain, Conf, St, Log, IsJournal, Stands}

module _ (w : Setting) where
  abbrev pub program : Program
  program = core_of w.checked

  abbrev pub code_of : List Instruction
  code_of = map (seen w.checked) (w.code).code

  -- the state before the first instruction
  abbrev pub first_state : St w
  first_state = before_run w.limits (traced_begin linear program w.limits w.input)

  -- the machine stands where the run is after some first instructions, and has recorded their events
  pub record Came (m : Machine) : Type 0 where
    pub config : Conf w
    pub state : St w
    pub log : Log w
    pub stands : Stands w m config state log
    pub comes : ComesTo (domain w) (fixed_of program w.limits) is_traced_zero (first_in w.code) code_of first_state log config state

  -- the run is over with this end, and the machine has recorded its events and places
  pub record Ended (m : Machine) (e : End) : Type 0 where
    pub journal : IsJournal w.checked (events_of linear program w.limits w.input) m.journal
    pub places : places_of linear program w.limits w.input ≡ (m.objects).places
    pub end : end_of (traced_run linear program w.limits w.input).result ≡ e
