use Rattle.std.proofs.Common.{◌≡◌, ◌∙◌, ap, ap₂, ℕ, List, ◌∷◌, reverse, Vec, Global}
use Rattle.cc_base.specs.declared.forms.Multiple.{Multiple}
use Rattle.cc_base.specs.Groups.{put_all, named, touching, apart}
use Rattle.linear_solver.specs.Parts.{all_backwards}
use Rattle.linear_solver.proofs.PartSteps.{named_once}
use Rattle.linear_solver.proofs.parts.with_atom.Goals as goal

pub returns : goal.returns
returns c =
    let p : reverse c.add_named.new.list.items ≡ named c.args.a.now.terms.items =
    c.in_ok-add_named.ensures ∙ ap₂ (λ (l : List Multiple) (m : List ℕ). put_all (named l) (reverse m)) c.deref.ensures.value c.new-p.ensures.items ∙ named_once c.args.a.now.terms.items in
    let q : c.deref-2.result.now ≡ c.add_named.new.list.items = c.deref-2.ensures.value in
    c.in_ok-more.ensures
    ∙ ap₂ (λ (f : List ℕ) (r : List ℕ). f ∷ apart r (all_backwards c.args.parts.items))
    (c.in_ok-first.ensures ∙ ap₂ (λ (r : List ℕ) (m : List (Vec ℕ Global)). touching r (all_backwards m)) (ap reverse q ∙ p) c.deref-3.ensures.value)
    (ap reverse c.deref-4.ensures.value ∙ p)
