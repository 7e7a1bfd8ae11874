use Rattle.std.proofs.Common.{◌∙◌, sym, ap, ℕ, List}
use Rattle.cc_base.specs.Groups.{contains}
use Rattle.linear_solver.proofs.Parting.{put_in, put_out_of}
use Rattle.linear_solver.proofs.places.add_place.Goals as goal

pub returns-then-is_in : goal.returns-then-is_in
returns-then-is_in c = put_in c.args.place c.args.list.now.items (sym (c.is_in.ensures ∙ ap (λ (l : List ℕ). contains l c.args.place) c.deref.ensures.value) ∙ c.if-is_in.true)

pub returns : goal.returns
returns c = put_out_of c.args.place c.args.list.now.items c.push.new.self.items (sym (c.is_in.ensures ∙ ap (λ (l : List ℕ). contains l c.args.place) c.deref.ensures.value) ∙ c.if-is_in.false) c.in_ok-push.ensures.items
