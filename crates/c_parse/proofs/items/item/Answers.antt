use Rattle.std.proofs.Common.{◌∙◌, arith, ◌≡◌, suc, sym, ◌+◌}
use Rattle.cc_model.specs.Spots.{kind_at, shallow}
use Rattle.c_parse.specs.DescentItems as it
use Rattle.c_expressions.specs.Shown.{place}
use Rattle.c_statements.proofs.StmtSteps.{passes}
use Rattle.c_parse.proofs.ItemSteps.{item_ends, item_goes_on}
use Rattle.c_parse.proofs.items.item.Goals as goal

pub returns-then-is_end-clause-shown : goal.returns-then-is_end-clause-shown
unfolding it.item_of
returns-then-is_end-clause-shown c =
    let e = sym (rw c.kind.ensures.value at c.is_end.ensures.value) ∙ c.if-is_end.true in passes (λ m. it.item_of (kind_at c.args.parser.now.tokens.now) shallow m it.a_typed) (place c.args.spot) (λ m. it.item (kind_at c.args.parser.now.tokens.now) shallow m) (place c.args.spot) _ c.typed.ensures.shown (λ q h. item_ends (kind_at c.args.parser.now.tokens.now) shallow (place c.args.spot) e h)

pub returns-in-Typedef-clause-shown : goal.returns-in-Typedef-clause-shown
unfolding it.item_of
returns-in-Typedef-clause-shown c =
    let two : c.args.spot.at + 2 ≡ suc (suc c.args.spot.at) = omega arith in let e = rw (c.kind-2.ensures.value, c.kind-3.ensures.value) at c.in-Typedef.ensures.here in passes (λ m. it.typedef (kind_at c.args.parser.now.tokens.now) shallow m) (place c.args.spot) (λ m. it.item (kind_at c.args.parser.now.tokens.now) shallow m) (place c.args.spot) _ c.typedef.ensures.shown (λ q h. item_goes_on (kind_at c.args.parser.now.tokens.now) shallow (place c.args.spot) (c.args.spot.at + 2) it.a_typedef two e h)

pub returns-in-Struct-clause-shown : goal.returns-in-Struct-clause-shown
unfolding it.item_of
returns-in-Struct-clause-shown c =
    let two : c.args.spot.at + 2 ≡ suc (suc c.args.spot.at) = omega arith in let e = rw (c.kind-2.ensures.value, c.kind-3.ensures.value) at c.in-Struct.ensures.here in passes (λ m. it.struct_def (kind_at c.args.parser.now.tokens.now) shallow m) (place c.args.spot) (λ m. it.item (kind_at c.args.parser.now.tokens.now) shallow m) (place c.args.spot) _ c.struct_def.ensures.shown (λ q h. item_goes_on (kind_at c.args.parser.now.tokens.now) shallow (place c.args.spot) (c.args.spot.at + 2) it.a_struct two e h)

pub returns-in-Void-clause-shown : goal.returns-in-Void-clause-shown
unfolding it.item_of
returns-in-Void-clause-shown c =
    let two : c.args.spot.at + 2 ≡ suc (suc c.args.spot.at) = omega arith in let e = rw (c.kind-2.ensures.value, c.kind-3.ensures.value) at c.in-Void.ensures.here in passes (λ m. it.procedure (kind_at c.args.parser.now.tokens.now) shallow m) (place c.args.spot) (λ m. it.item (kind_at c.args.parser.now.tokens.now) shallow m) (place c.args.spot) _ c.procedure.ensures.shown (λ q h. item_goes_on (kind_at c.args.parser.now.tokens.now) shallow (place c.args.spot) (c.args.spot.at + 2) it.a_void two e h)

pub returns-in-Typed-clause-shown : goal.returns-in-Typed-clause-shown
unfolding it.item_of
returns-in-Typed-clause-shown c =
    let two : c.args.spot.at + 2 ≡ suc (suc c.args.spot.at) = omega arith in let e = rw (c.kind-2.ensures.value, c.kind-3.ensures.value) at c.in-Typed.ensures.here in passes (λ m. it.item_of (kind_at c.args.parser.now.tokens.now) shallow m it.a_typed) (place c.args.spot) (λ m. it.item (kind_at c.args.parser.now.tokens.now) shallow m) (place c.args.spot) _ c.typed-in-Typed.ensures.shown (λ q h. item_goes_on (kind_at c.args.parser.now.tokens.now) shallow (place c.args.spot) (c.args.spot.at + 2) it.a_typed two e h)
