use Rattle.std.proofs.Common.{ℕ, suc, refl, ap, subst, ◌∙◌, slice_set}
use Rattle.checked_memory.specs.declared.values.Cell.{Cell}
use Rattle.cc_model.specs.declared.checked.SiteKind.TheVariants.{Decision}
use Rattle.cc_model.specs.Meaning.{is_true}
use Rattle.tac_lower.specs.Seen.{site_token}
use Rattle.sym_run.specs.declared.machine.Machine.{Machine}
use Rattle.sym_run.specs.Acting.{bit}
use Rattle.sym_run.specs.Stands.{Setting, setting, IsSite}
use Rattle.sym_run.proofs.ActingLaws.{decided_cut, decided_done}
use Rattle.sym_run.proofs.machine.Machine.decide.Goals as goal

pub returns-then-self-eq0 : goal.returns-then-self-eq0
returns-then-self-eq0 c =
    let w : Setting = setting c.args.fixed.now.checked.now c.args.fixed.now.tac.now c.args.fixed.now.bounds.now c.args.fixed.now.input.now in
    let t : ℕ = site_token c.args.fixed.now.checked.now Decision c.args.site in
    decided_cut w c.args.self.now c.args.self.now t c.args.dst c.args.decided.outcome c.args.decided.asked c.if-self-eq0.true

pub returns : goal.returns
returns c =
    let w : Setting = setting c.args.fixed.now.checked.now c.args.fixed.now.tac.now c.args.fixed.now.bounds.now c.args.fixed.now.input.now in
    let t : ℕ = site_token c.args.fixed.now.checked.now Decision c.args.site in
    let at : IsSite c.args.fixed.now.checked.now c.args.site Decision t = subst (λ (n : ℕ). IsSite c.args.fixed.now.checked.now c.args.site Decision n) c.in_ok-token.ensures.token c.in_ok-token.ensures.site in
    let given : Machine → Cell → Machine = λ (m : Machine) (x : Cell). record m { pc = suc m.pc; temps = slice_set m.temps c.args.dst x } in
    decided_done w c.args.self.now c.give.new.self t c.args.dst c.args.decided.outcome c.args.decided.asked
    c.happen.new.self.events_left c.len-places.result c.happen.new.self.journal c.args.site (bit (is_true c.args.decided.outcome)) c.in_ok-happen.ensures.left c.len-places.ensures.value at c.in_ok-happen.ensures.journal
    refl (c.in_ok-give.ensures ∙ ap (λ (m : Machine). given m c.bit_of.result) c.in_ok-happen.ensures.kept ∙ ap (λ (x : Cell). given (record c.args.self.now { events_left = c.happen.new.self.events_left; journal = c.happen.new.self.journal }) x) c.bit_of.ensures)
