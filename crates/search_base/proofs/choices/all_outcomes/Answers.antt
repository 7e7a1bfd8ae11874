use Rattle.std.proofs.Common.{◌≡◌, ◌<◌, ◌⊎◌, ◌↔◌, map, insert, ap, sym, ◌∙◌, subst}
use Rattle.cc_base.specs.Outcomes.{byte_of}
use Rattle.cc_base.specs.Paths.{In, Ascend}
use Rattle.sym_run.specs.Traces.{outcome_at, others_at}
use Rattle.search_base.specs.Inserting.{IsPlace}
use Rattle.search_base.proofs.ChoiceLaws.{choices_ascend, choices_all}
use Rattle.search_base.proofs.choices.all_outcomes.Goals as goal

pub returns-clause-ascend : goal.returns-clause-ascend
returns-clause-ascend c =
    let own = outcome_at (c.args.event).now in
    let n = c.place_of-at.result in
    let f : (c.in_ok-all.all).items ≡ others_at (c.args.event).now = c.in_ok-all.ensures ∙ ap (map (λ x. x.outcome)) c.as_slice.ensures in
    let place = subst (λ l. IsPlace (λ x. byte_of x < byte_of own) l n) (c.as_slice-2.ensures.value ∙ f) c.place_of-at.ensures in
    let e = c.from_vec.ensures ∙ c.in_ok-insert.ensures.items ∙ ap (λ l. insert l n own) f in
    subst Ascend (sym e) (choices_ascend (others_at (c.args.event).now) own n place c.requires.ascend c.requires.not_own)

pub returns-clause-all : goal.returns-clause-all
returns-clause-all c = λ o.
    let own = outcome_at (c.args.event).now in
    let n = c.place_of-at.result in
    let f : (c.in_ok-all.all).items ≡ others_at (c.args.event).now = c.in_ok-all.ensures ∙ ap (map (λ x. x.outcome)) c.as_slice.ensures in
    let place = subst (λ l. IsPlace (λ x. byte_of x < byte_of own) l n) (c.as_slice-2.ensures.value ∙ f) c.place_of-at.ensures in
    let e = c.from_vec.ensures ∙ c.in_ok-insert.ensures.items ∙ ap (λ l. insert l n own) f in
    subst (λ l. In o l ↔ ((o ≡ own) ⊎ In o (others_at (c.args.event).now))) (sym e) (choices_all (others_at (c.args.event).now) own n place o)
