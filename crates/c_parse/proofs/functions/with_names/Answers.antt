use Rattle.std.proofs.Common.{add-one, arith, ◌≡◌, ◌∙◌, ◌≤◌, sym, Some, None, length, slice_get}
use Rattle.std.proofs.lemmas.Grind.{common_steps}
use Rattle.c_parse.specs.DescentItems.{with_names}
use Rattle.c_parse.proofs.ItemSteps.{joined_nil}
use Rattle.c_parse.proofs.NameSteps.{named_step, named_none, named_past}
use Rattle.c_parse.proofs.functions.with_names.Goals as goal

pub loop-at-init : goal.loop-at-init
loop-at-init c = record { rest = rw c.new-params.ensures (joined_nil (with_names c.args.protos.now)) }

pub loop-at-preserved : goal.loop-at-preserved
loop-at-preserved c =
    let get : slice_get c.args.protos.now c.loop-at.at ≡ Some c.in-Some.proto.now = sym c.in-Some.ensures.value in
    let nm : c.in-Some.proto.now.name ≡ Some c.in-Some-name.name = grind (arith, common_steps) in
    record { rest = rw (c.in_ok-push.ensures.ok, add-one c.loop-at.at) (sym (named_step c.args.protos.now c.loop-at.at c.in-Some.proto.now c.loop-at.params c.in-Some-name.name get nm) ∙ c.loop-at.invariant.rest) }

pub returns-in_default-name : goal.returns-in_default-name
returns-in_default-name c =
    let get : slice_get c.args.protos.now c.loop-at.at ≡ Some c.in-Some.proto.now = sym c.in-Some.ensures.value in
    let nm : c.in-Some.proto.now.name ≡ None = grind (arith, common_steps) in
    record { named = sym (named_none c.args.protos.now c.loop-at.at c.in-Some.proto.now c.loop-at.params get nm) ∙ c.loop-at.invariant.rest }

pub returns : goal.returns
returns c =
    let past : length c.args.protos.now ≤ c.loop-at.at = grind (arith, common_steps) in
    record { named = sym (named_past c.args.protos.now c.loop-at.at c.loop-at.params past) ∙ c.loop-at.invariant.rest }
