-- A checked program points to cells.
use Rattle.std.proofs.lemmas.Result.{err_from_is_err_and}
use Rattle.cc_model.specs.Reads.{shallow}
use Rattle.cc_model.specs.Source.{text_at}
use Rattle.concolic_cli.proofs.prepared.compile.Goals as goal

pub lower-requires : goal.lower-requires
lower-requires c = let r = c.in_ok-read.ensures.read in (text_at c.args.source.now c.in_ok-read.read.tokens.items, c.in_ok-read.read.tokens.items, c.args.entry.now, r.right)

pub returns-in-Ok-clause-compiled : goal.returns-in-Ok-clause-compiled
returns-in-Ok-clause-compiled c =
    let r = c.in_ok-read.ensures.read in
    record {
      tokens = c.in_ok-read.read.tokens.items;
      reads = r;
      compiles = c.in-Ok.ensures.compiles;
      points = c.a_checked_program_points_to_cells.ensures (text_at c.args.source.now c.in_ok-read.read.tokens.items) c.in_ok-read.read.tokens.items c.args.entry.now c.in_ok-read.read.checked shallow r.right r.read;
    }

pub returns-in_err-read-clause-refused : goal.returns-in_err-read-clause-refused
returns-in_err-read-clause-refused c = let q = err_from_is_err_and c.from_residual.result c.from_residual.ensures.1 in rw (q.1, q.2) c.in_err-read.ensures.source_refused
