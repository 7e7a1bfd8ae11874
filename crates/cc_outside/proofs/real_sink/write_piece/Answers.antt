-- The stream has taken a first part of the piece, the whole of it at the end.
use Rattle.std.proofs.Common.{take}
use Rattle.std.proofs.lemmas.Result.{err_from_is_err_and}
use Rattle.cc_outside.proofs.PrefixLemmas.{IsFirstPart-take}
use Rattle.cc_outside.proofs.StreamLemmas.{Appends-kept, Appends-more, length-more}
use Rattle.cc_outside.proofs.real_sink.write_piece.Goals as goal

pub returns-in_err-written-clause-part : goal.returns-in_err-written-clause-part
returns-in_err-written-clause-part g c =
    let p = err_from_is_err_and c.from_residual.result c.from_residual.ensures.1 in
    rw p.1 (take c.loop.written c.args.piece.now, IsFirstPart-take _ _, Appends-kept _ _ _ _ c.loop.invariant.taken c.in_err-written.ensures.bytes)

pub loop-preserved : goal.loop-preserved
loop-preserved g c = record {
  within = length-more _ _ _ c.loop.invariant.within c.in_ok-written.ensures.bound;
  taken = Appends-more _ _ _ _ _ _ c.loop.invariant.taken c.in_ok-written.ensures.bytes;
}

pub returns-clause-part : goal.returns-clause-part
returns-clause-part g c = (take c.loop.written c.args.piece.now, IsFirstPart-take _ _, c.loop.invariant.taken)
