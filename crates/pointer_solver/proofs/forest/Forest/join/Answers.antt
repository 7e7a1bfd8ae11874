use Rattle.std.proofs.Common.{◌≤◌, ◌∙◌, inl, sym, subst, ℕ, List}
use Rattle.std.specs.List.{All}
use Rattle.pointer_solver.proofs.Trees.{Joins-below, Joins-turned}
use Rattle.pointer_solver.proofs.forest.Forest.join.Goals as goal

pub returns-then-a-b-clause-joined : goal.returns-then-a-b-clause-joined
returns-then-a-b-clause-joined c = λ root t.
    let s = c.find-a.ensures.rooted root t in let u = c.find-b.ensures.rooted root s.0 in
    (root, u.0, record { kept = λ x y e. e; joined = sym s.1 ∙ c.if-a-b.true ∙ u.1; only = λ x y e. inl e })

pub returns-then-rank-clause-bound : goal.returns-then-rank-clause-bound
returns-then-rank-clause-bound c = λ m h. c.hang.ensures.bound m (subst (λ (l : List ℕ). All (λ r. r ≤ m) l) (sym (c.find-b.ensures.ranks ∙ c.find-a.ensures.ranks)) h)

pub returns-then-rank-clause-joined : goal.returns-then-rank-clause-joined
returns-then-rank-clause-joined c = λ root t.
    let s = c.find-a.ensures.rooted root t in let u = c.find-b.ensures.rooted root s.0 in
    let w = c.hang.ensures.joined root u.0 in
    (w.0, w.1, Joins-below _ root w.0 c.args.a c.args.b c.find-a.result c.find-b.result t w.2 s.1 u.1)

pub returns-else-rank-clause-bound : goal.returns-else-rank-clause-bound
returns-else-rank-clause-bound c = λ m h. c.hang-else-rank.ensures.bound m (subst (λ (l : List ℕ). All (λ r. r ≤ m) l) (sym (c.find-b.ensures.ranks ∙ c.find-a.ensures.ranks)) h)

pub returns-else-rank-clause-joined : goal.returns-else-rank-clause-joined
returns-else-rank-clause-joined c = λ root t.
    let s = c.find-a.ensures.rooted root t in let u = c.find-b.ensures.rooted root s.0 in
    let w = c.hang-else-rank.ensures.joined root u.0 in
    (w.0, w.1, Joins-turned root w.0 c.args.b c.args.a (Joins-below _ root w.0 c.args.b c.args.a c.find-b.result c.find-a.result t w.2 u.1 s.1))
