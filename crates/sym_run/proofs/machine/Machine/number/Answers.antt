use Rattle.std.proofs.Common.{ap, ◌∙◌, ℤ, suc, slice_set, rules, w32}
use Rattle.std.proofs.lemmas.Int.{to_z-of_z}
use Rattle.checked_memory.specs.declared.values.Cell.{Cell}
use Rattle.checked_memory.specs.declared.values.Value.TheVariants.{Int}
use Rattle.sym_run.specs.declared.machine.Machine.{Machine}
use Rattle.sym_run.specs.Numbers.{IsWord}
use Rattle.sym_run.proofs.InstructionLaws.{number_done}
use Rattle.sym_run.proofs.machine.Machine.number.Goals as goal

pub returns : goal.returns
returns c = λ w.
    let word : IsWord c.args.number = search rules in
    let given : Cell → Machine = λ (x : Cell). record c.args.self.now { pc = suc c.args.self.now.pc; temps = slice_set c.args.self.now.temps c.args.dst x } in
    let cell : ℤ → Cell = λ (z : ℤ). record { value = Int z; shadow = 0 } in
    number_done w c.args.self.now c.give.new.self c.args.dst c.args.number word
    (c.in_ok-give.ensures ∙ ap given (c.number_cell.ensures ∙ ap cell (to_z-of_z w32 c.args.number c.ranges.number)))
