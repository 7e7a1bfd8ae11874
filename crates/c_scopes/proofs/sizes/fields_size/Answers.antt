use Rattle.std.proofs.Common.{◌+◌, arith, refl}
use Rattle.cc_model.specs.Scopes.{field_size, fields_size}
use Rattle.c_scopes.proofs.FieldLemmas.{none_before, one_more, at_most_257, all_summed}
use Rattle.c_scopes.proofs.sizes.fields_size.Goals as goal

pub loop-member-init : goal.loop-member-init
loop-member-init c = (none_before c.args.sizes.now c.args.members.now, omega arith)

pub loop-member-preserved : goal.loop-member-preserved
loop-member-preserved c = (
  one_more c.args.sizes.now c.args.members.now c.loop-member.member-index c.member-item.result c.loop-member.size (field_size c.args.sizes.now c.member-item.result) c.with_field-size.result (fields_size c.args.sizes.now c.args.members.now)
      c.loop-member-test.true c.member-item.is refl c.with_field-size.ensures c.loop-member.invariant.0,
  at_most_257 (c.loop-member.size + field_size c.args.sizes.now c.member-item.result) c.with_field-size.result c.with_field-size.ensures,
)

pub returns : goal.returns
returns c = all_summed c.args.sizes.now c.args.members.now c.loop-member.member-index c.loop-member.size (fields_size c.args.sizes.now c.args.members.now) c.loop-member-test.false c.loop-member.invariant.1 c.loop-member.invariant.0
