use Rattle.std.proofs.Common.{◌≡◌, ℕ, ap, ap₂, subst, ◌∙◌, refl, suc, slice_set, rules, SFits, w32}
use Rattle.cc_base.specs.declared.ends.End.TheVariants.{Fault}
use Rattle.cc_base.specs.declared.ends.FaultKind.TheVariants.{Null}
use Rattle.cc_model.specs.declared.checked.SiteKind.TheVariants.{Access}
use Rattle.cc_model.specs.CheckedProgram.{core_of}
use Rattle.tac_lower.specs.Seen.{site_token}
use Rattle.sym_run.specs.declared.machine.Machine.{Machine}
use Rattle.sym_run.specs.Acting.{access_end}
use Rattle.sym_run.specs.Stands.{Setting, setting, IsSite}
use Rattle.sym_run.proofs.DataActs.{access_cut, access_over, access_did}
use Rattle.sym_run.proofs.StartLaws.{at_least_word, at_most_word}
use Rattle.sym_run.proofs.machine.Machine.access.Goals as goal

pub returns-then-self-eq0 : goal.returns-then-self-eq0
returns-then-self-eq0 c =
    let w : Setting = setting c.args.fixed.now.checked.now c.args.fixed.now.tac.now c.args.fixed.now.bounds.now c.args.fixed.now.input.now in
    let t : ℕ = site_token c.args.fixed.now.checked.now Access c.args.site in
    access_cut w c.args.self.now c.args.self.now c.args.dst c.args.pointer t c.in_ok-at.at c.in_ok-at.ensures.there c.if-self-eq0.true

pub returns-in-Some : goal.returns-in-Some
returns-in-Some c =
    let w : Setting = setting c.args.fixed.now.checked.now c.args.fixed.now.tac.now c.args.fixed.now.bounds.now c.args.fixed.now.input.now in
    let t : ℕ = site_token c.args.fixed.now.checked.now Access c.args.site in
    let at : IsSite c.args.fixed.now.checked.now c.args.site Access t = subst (λ (n : ℕ). IsSite c.args.fixed.now.checked.now c.args.site Access n) c.in_ok-token.ensures.token c.in_ok-token.ensures.site in
    let low : SFits w32 c.lo-low.result = search rules in
    let high : SFits w32 c.hi-high.result = search rules in
    let line : c.line.result ≡ (core_of c.args.fixed.now.checked.now).line t = c.line.ensures ∙ ap (λ (n : ℕ). (core_of c.args.fixed.now.checked.now).line n) c.in_ok-token.ensures.token in
    let ends : access_end c.in_ok-acted.acted.outcome c.objects.result (Fault Null c.line.result) ≡ access_end c.in_ok-acted.acted.outcome c.args.fixed.now.bounds.now.objects (Fault Null ((core_of c.args.fixed.now.checked.now).line t)) =
    ap₂ (λ (n k : ℕ). access_end c.in_ok-acted.acted.outcome n (Fault Null k)) c.objects.ensures.value line in
    access_over w c.args.self.now c.happen.new.self c.args.dst c.args.pointer t c.in_ok-at.at c.in_ok-at.ensures.there
    c.happen.new.self.events_left c.len-places.result c.happen.new.self.journal c.args.site c.access.new.self c.access.new.symbols c.in_ok-acted.acted c.in_ok-happen.ensures.left c.len-places.ensures.value at c.in_ok-happen.ensures.journal
    (at_least_word c.lo-low.result _ low c.lo-low.ensures.value) (at_most_word c.hi-high.result _ high c.hi-high.ensures.value) c.as_slice-layouts.result.now c.as_slice-layouts.ensures c.in_ok-acted.ensures.follows
    c.in-Some.end (c.in-Some.ensures ∙ ends) refl (ap (λ (m : Machine). (m.objects).places) c.in_ok-happen.ensures.kept)

pub returns-in_ok-give-in-None : goal.returns-in_ok-give-in-None
returns-in_ok-give-in-None c =
    let w : Setting = setting c.args.fixed.now.checked.now c.args.fixed.now.tac.now c.args.fixed.now.bounds.now c.args.fixed.now.input.now in
    let t : ℕ = site_token c.args.fixed.now.checked.now Access c.args.site in
    let at : IsSite c.args.fixed.now.checked.now c.args.site Access t = subst (λ (n : ℕ). IsSite c.args.fixed.now.checked.now c.args.site Access n) c.in_ok-token.ensures.token c.in_ok-token.ensures.site in
    let low : SFits w32 c.lo-low.result = search rules in
    let high : SFits w32 c.hi-high.result = search rules in
    let line : c.line.result ≡ (core_of c.args.fixed.now.checked.now).line t = c.line.ensures ∙ ap (λ (n : ℕ). (core_of c.args.fixed.now.checked.now).line n) c.in_ok-token.ensures.token in
    let ends : access_end c.in_ok-acted.acted.outcome c.objects.result (Fault Null c.line.result) ≡ access_end c.in_ok-acted.acted.outcome c.args.fixed.now.bounds.now.objects (Fault Null ((core_of c.args.fixed.now.checked.now).line t)) =
    ap₂ (λ (n k : ℕ). access_end c.in_ok-acted.acted.outcome n (Fault Null k)) c.objects.ensures.value line in
    access_did w c.args.self.now c.give.new.self c.args.dst c.args.pointer t c.in_ok-at.at c.in_ok-at.ensures.there
    c.happen.new.self.events_left c.len-places.result c.happen.new.self.journal c.args.site c.access.new.self c.access.new.symbols c.in_ok-acted.acted c.in_ok-happen.ensures.left c.len-places.ensures.value at c.in_ok-happen.ensures.journal
    (at_least_word c.lo-low.result _ low c.lo-low.ensures.value) (at_most_word c.hi-high.result _ high c.hi-high.ensures.value) c.as_slice-layouts.result.now c.as_slice-layouts.ensures c.in_ok-acted.ensures.follows
    (c.in-None.ensures ∙ ends) c.in_ok-acted.ensures.symbols c.in_ok-acted.ensures.names.0 c.in_ok-acted.ensures.names.1
    (c.in_ok-give-in-None.ensures ∙ ap (λ (m : Machine). record m { pc = suc m.pc; temps = slice_set m.temps c.args.dst c.in_ok-acted.acted.cell }) c.in_ok-happen.ensures.kept)
