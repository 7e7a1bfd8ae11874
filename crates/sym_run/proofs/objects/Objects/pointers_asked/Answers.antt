use Rattle.std.proofs.Common.{◌∙◌}
use Rattle.std.specs.Option.{option_map}
use Rattle.sym_expr.specs.AtomsSeen.{side_of}
use Rattle.sym_run.specs.Beside.{traced_of}
use Rattle.sym_run.proofs.PointerLaws.{if_ok}
use Rattle.sym_run.proofs.RankLaws.{by_both, by_left, by_right, by_none}
use Rattle.sym_run.proofs.objects.Objects.pointers_asked.Goals as goal

pub returns-in-Some-place_beside : goal.returns-in-Some-place_beside
returns-in-Some-place_beside c = if_ok c.places_asked.result c.places_asked.ensures (λ asked h start named d o r e. h o e
    ∙ by_both o (traced_of c.args.symbols.now c.args.a) (traced_of c.args.symbols.now c.args.b) (d.plain).touched (d.shadows).touched c.in-Some.f c.in-Some-place_beside.g c.in-Some.ensures c.in-Some-place_beside.ensures)

pub returns-in-None-place_beside : goal.returns-in-None-place_beside
returns-in-None-place_beside c = if_ok c.sides_asked.result c.sides_asked.ensures (λ asked h start named d o r e. h o e
    ∙ by_left o (traced_of c.args.symbols.now c.args.a) (traced_of c.args.symbols.now c.args.b) (d.plain).touched (d.shadows).touched c.in-Some.f (option_map side_of c.side_without-other.result) c.in-Some.ensures c.in-None-place_beside.ensures (c.side_without-other.ensures start named c.args.symbols.now d r))

pub returns-in-Some-place_beside-2 : goal.returns-in-Some-place_beside-2
returns-in-Some-place_beside-2 c = if_ok c.sides_asked-in-Some-place_beside-2.result c.sides_asked-in-Some-place_beside-2.ensures (λ asked h start named d o r e. h o e
    ∙ by_right o (traced_of c.args.symbols.now c.args.a) (traced_of c.args.symbols.now c.args.b) (d.plain).touched (d.shadows).touched c.in-Some-place_beside-2.g (option_map side_of c.side_without-one.result) c.in-None.ensures c.in-Some-place_beside-2.ensures (c.side_without-one.ensures start named c.args.symbols.now d r))

pub returns-in-None-place_beside-2 : goal.returns-in-None-place_beside-2
returns-in-None-place_beside-2 c = λ start named d o r e. by_none o (traced_of c.args.symbols.now c.args.a) (traced_of c.args.symbols.now c.args.b) (d.plain).touched (d.shadows).touched c.in-None.ensures c.in-None-place_beside-2.ensures
