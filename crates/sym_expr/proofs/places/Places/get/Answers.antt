use Rattle.std.proofs.Common.{◌≡◌, ◌∙◌, sym, ap, subst, List, slice_get}
use Rattle.std.specs.Option.{option_map}
use Rattle.std.proofs.lemmas.Option.{slice_get-map}
use Rattle.cc_base.specs.declared.cells.CellTy.{CellTy}
use Rattle.cc_base.specs.Places.{Placed, ParentsFirst}
use Rattle.sym_expr.specs.declared.places.Place.{Place}
use Rattle.sym_expr.specs.PlacesSeen.{entry_of}
use Rattle.sym_expr.proofs.PlaceSteps.{get_parent}
use Rattle.sym_expr.proofs.places.Places.get.Goals as goal

pub returns-clause-parent : goal.returns-clause-parent
returns-clause-parent c =
    let l = c.self.inside.entries.items in
    let e : option_map entry_of c.entry_at.result ≡ slice_get c.args.self.now c.args.id.0 =
    ap (option_map entry_of) (c.entry_at.ensures ∙ ap (λ (m : List (Place × CellTy)). slice_get m c.args.id.0) c.as_slice.ensures.value)
    ∙ sym (slice_get-map entry_of l c.args.id.0) ∙ ap (λ (m : List Placed). slice_get m c.args.id.0) c.self.view_is in
    get_parent c.args.self.now c.args.id.0 c.entry_at.result (subst (λ (m : List Placed). ParentsFirst m) c.self.view_is c.self.invariant.0) e
