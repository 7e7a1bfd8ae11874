use Rattle.std.proofs.Common.{ℕ, refl, ap, subst, ◌∙◌}
use Rattle.cc_model.specs.CheckedProgram.{core_of}
use Rattle.tac_lower.specs.Seen.{site_token}
use Rattle.sym_run.specs.declared.machine.Machine.{Machine}
use Rattle.sym_run.specs.Stands.{Setting, setting, IsSite}
use Rattle.sym_run.specs.Acting.{given_if}
use Rattle.sym_run.proofs.ActingLaws.{settled_cut, settled_goes, settled_fault}
use Rattle.sym_run.proofs.machine.Machine.settle.Goals as goal

pub returns-then-self-eq0 : goal.returns-then-self-eq0
returns-then-self-eq0 c =
    let w : Setting = setting c.args.fixed.now.checked.now c.args.fixed.now.tac.now c.args.fixed.now.bounds.now c.args.fixed.now.input.now in
    let t : ℕ = site_token c.args.fixed.now.checked.now c.args.spot.kind c.args.spot.site in
    settled_cut w c.args.self.now c.args.self.now c.args.spot.kind c.args.spot.fault t c.args.dst c.args.acted.outcome c.args.acted.asked c.args.acted.cell c.if-self-eq0.true

pub returns-then-not-is_plain : goal.returns-then-not-is_plain
returns-then-not-is_plain c =
    let w : Setting = setting c.args.fixed.now.checked.now c.args.fixed.now.tac.now c.args.fixed.now.bounds.now c.args.fixed.now.input.now in
    let t : ℕ = site_token c.args.fixed.now.checked.now c.args.spot.kind c.args.spot.site in
    let at : IsSite c.args.fixed.now.checked.now c.args.spot.site c.args.spot.kind t = subst (λ (n : ℕ). IsSite c.args.fixed.now.checked.now c.args.spot.site c.args.spot.kind n) c.in_ok-token.ensures.token c.in_ok-token.ensures.site in
    settled_fault w c.args.self.now c.happen.new.self c.args.spot.kind c.args.spot.fault t c.args.dst c.args.acted.outcome c.args.acted.asked c.args.acted.cell
    c.happen.new.self.events_left c.len-places.result c.line.result c.happen.new.self.journal c.args.spot.site c.in_ok-happen.ensures.left c.len-places.ensures.value at c.in_ok-happen.ensures.journal
    (c.is_plain.ensures.no c.if-not-is_plain.true) (c.line.ensures ∙ ap (λ (n : ℕ). (core_of c.args.fixed.now.checked.now).line n) c.in_ok-token.ensures.token)
    refl (ap (λ (m : Machine). (m.objects).places) c.in_ok-happen.ensures.kept)

pub returns : goal.returns
returns c =
    let w : Setting = setting c.args.fixed.now.checked.now c.args.fixed.now.tac.now c.args.fixed.now.bounds.now c.args.fixed.now.input.now in
    let t : ℕ = site_token c.args.fixed.now.checked.now c.args.spot.kind c.args.spot.site in
    let at : IsSite c.args.fixed.now.checked.now c.args.spot.site c.args.spot.kind t = subst (λ (n : ℕ). IsSite c.args.fixed.now.checked.now c.args.spot.site c.args.spot.kind n) c.in_ok-token.ensures.token c.in_ok-token.ensures.site in
    settled_goes w c.args.self.now c.give_if.new.self c.args.spot.kind c.args.spot.fault t c.args.dst c.args.acted.outcome c.args.acted.asked c.args.acted.cell
    c.happen.new.self.events_left c.len-places.result c.happen.new.self.journal c.args.spot.site c.in_ok-happen.ensures.left c.len-places.ensures.value at c.in_ok-happen.ensures.journal
    (c.is_plain.ensures.yes c.if-not-is_plain.false) (c.in_ok-give_if.ensures ∙ ap (λ (m : Machine). given_if m c.args.dst c.args.acted.cell) c.in_ok-happen.ensures.kept)
