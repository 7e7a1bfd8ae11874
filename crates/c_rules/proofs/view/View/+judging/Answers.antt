use Rattle.std.proofs.Common.{map}
use Rattle.cc_model.specs.Source.{text_at}
use Rattle.c_rules.specs.Telling.{truths, equals, ints, telling, told_args, no_args}
use Rattle.c_rules.specs.Views.{seen}
use Rattle.c_rules.proofs.JudgeLemmas.{call_told, args_more, pair_told, by_truths, by_equals, by_ints}
use Rattle.c_rules.proofs.view.View.+judging.Goals as goal

pub tell-returns-in_ok-args-in-Call : goal.tell-returns-in_ok-args-in-Call
tell-returns-in_ok-args-in-Call t c = call_told c.call.result (text_at c.args.self.now.source.now c.args.self.now.tokens.now) (seen c.args.self.now.file.now c.args.self.now.before.now c.args.self.now.scopes.now)
    c.args.e.now _ _ _ c.as_slice.result.now _ c.as_slice-in-Call.result.now c.args.notes.now c.tell_args.new.notes c.call.new.notes c.in-Call.is c.as_slice.ensures c.in_ok-args-in-Call.ensures c.as_slice-in-Call.ensures c.call.ensures

pub tell_args-loop-arg-preserved : goal.tell_args-loop-arg-preserved
tell_args-loop-arg-preserved t c = args_more (text_at c.args.self.now.source.now c.args.self.now.tokens.now) (seen c.args.self.now.file.now c.args.self.now.before.now c.args.self.now.scopes.now)
    c.args.args.now c.loop-arg.arg-index c.arg-item.result c.first.result c.in_ok-shape.shape c.loop-arg.operands c.push.new.self c.loop-arg.notes c.tell.new.notes
    (told_args (map (telling (text_at c.args.self.now.source.now c.args.self.now.tokens.now) (seen c.args.self.now.file.now c.args.self.now.before.now c.args.self.now.scopes.now)) c.args.args.now) (no_args c.args.notes.now))
    c.loop-arg-test.true c.arg-item.is c.in_ok-shape.ensures
    (c.first.ensures (text_at c.args.self.now.source.now c.args.self.now.tokens.now) (seen c.args.self.now.file.now c.args.self.now.before.now c.args.self.now.scopes.now))
    c.in_ok-push.ensures.ok c.loop-arg.invariant

pub tell-returns-in_ok-right-in-Or : goal.tell-returns-in_ok-right-in-Or
tell-returns-in_ok-right-in-Or t c = pair_told c.truths.result (text_at c.args.self.now.source.now c.args.self.now.tokens.now) (seen c.args.self.now.file.now c.args.self.now.before.now c.args.self.now.scopes.now)
    c.args.e.now c.in-Or.left c.in-Or.right c.get-in-Or.result.now c.get-in-Or-2.result.now (truths c.in-Or.t) c.in_ok-left-in-Or.left c.in_ok-right-in-Or.right
    c.args.notes.now c.tell-in-Or.new.notes c.tell-in-Or-2.new.notes c.truths.new.notes
    (by_truths (text_at c.args.self.now.source.now c.args.self.now.tokens.now) (seen c.args.self.now.file.now c.args.self.now.before.now c.args.self.now.scopes.now) c.args.e.now c.in-Or.t c.in-Or.left c.in-Or.right c.args.notes.now c.in-Or.is)
    c.get-in-Or.ensures c.in_ok-left-in-Or.ensures c.get-in-Or-2.ensures c.in_ok-right-in-Or.ensures c.truths.ensures

pub tell-returns-in_ok-right-in-Equal : goal.tell-returns-in_ok-right-in-Equal
tell-returns-in_ok-right-in-Equal t c = pair_told c.equals.result (text_at c.args.self.now.source.now c.args.self.now.tokens.now) (seen c.args.self.now.file.now c.args.self.now.before.now c.args.self.now.scopes.now)
    c.args.e.now c.in-Equal.left c.in-Equal.right c.get-in-Equal.result.now c.get-in-Equal-2.result.now (equals c.in-Equal.t) c.in_ok-left-in-Equal.left c.in_ok-right-in-Equal.right
    c.args.notes.now c.tell-in-Equal.new.notes c.tell-in-Equal-2.new.notes c.equals.new.notes
    (by_equals (text_at c.args.self.now.source.now c.args.self.now.tokens.now) (seen c.args.self.now.file.now c.args.self.now.before.now c.args.self.now.scopes.now) c.args.e.now c.in-Equal.t c.in-Equal.left c.in-Equal.right c.args.notes.now c.in-Equal.is)
    c.get-in-Equal.ensures c.in_ok-left-in-Equal.ensures c.get-in-Equal-2.ensures c.in_ok-right-in-Equal.ensures c.equals.ensures

pub tell-returns-in_ok-right-in-Less : goal.tell-returns-in_ok-right-in-Less
tell-returns-in_ok-right-in-Less t c = pair_told c.ints.result (text_at c.args.self.now.source.now c.args.self.now.tokens.now) (seen c.args.self.now.file.now c.args.self.now.before.now c.args.self.now.scopes.now)
    c.args.e.now c.in-Less.left c.in-Less.right c.get-in-Less.result.now c.get-in-Less-2.result.now (ints c.in-Less.t) c.in_ok-left-in-Less.left c.in_ok-right-in-Less.right
    c.args.notes.now c.tell-in-Less.new.notes c.tell-in-Less-2.new.notes c.ints.new.notes
    (by_ints (text_at c.args.self.now.source.now c.args.self.now.tokens.now) (seen c.args.self.now.file.now c.args.self.now.before.now c.args.self.now.scopes.now) c.args.e.now c.in-Less.t c.in-Less.left c.in-Less.right c.args.notes.now c.in-Less.is)
    c.get-in-Less.ensures c.in_ok-left-in-Less.ensures c.get-in-Less-2.ensures c.in_ok-right-in-Less.ensures c.ints.ensures
