-- What a solve answered, in the words of the search.
use Rattle.std.proofs.Common.{◌≡◌, ◌-◌, ℕ, List, length, take, Option, sym, subst}
use Rattle.cc_base.specs.declared.inputs.Input.{Input}
use Rattle.cc_base.specs.declared.outcomes.Outcome.{Outcome}
use Rattle.cc_base.specs.Paths.{Path, next}
use Rattle.cc_model.specs.CheckedProgram.{core_of}
use Rattle.cc_model.specs.Conditions.{AnswersAt}
use Rattle.cc_model.specs.Runs.{path_at}
use Rattle.cc_model.specs.Tested.{never, spent, turned}
use Rattle.search_dfs.specs.declared.open.Open.{Open}
use Rattle.search_dfs.specs.declared.open.Pending.{Pending}
use Rattle.cc_laws.specs.LinearForms.{linear}
use Rattle.flip_solve.specs.declared.flipping.Turned.{Turned}
use Rattle.flip_solve.specs.declared.flipping.Turned.TheVariants as turn
use Rattle.flip_solve.specs.Settling.{answer_of}
use Rattle.flip_solve.specs.Turning.{turned_at, IsTurnedIf}
use Rattle.search_base.specs.Setting.{Setting, layer_of, path_of, meets_of}
use Rattle.search_dfs.specs.Setting.{Answered}
use Rattle.search_dfs.specs.Stack.{path_of_run}
use Rattle.search_dfs.specs.Turns.{Solving, Turned_to}
use Rattle.search_dfs.proofs.Step.{answered}

answered_at : (s : Setting) (u : Input) (k : ℕ) (o : Outcome) (v : Turned) → AnswersAt linear (core_of s.checked) s.limits s.budget u (turned_at (core_of s.checked) s.limits u k o) (answer_of v)
    → IsTurnedIf (core_of s.checked) s.limits u k o v → Answered s u (next (take k (path_at (core_of s.checked) s.limits u)) o) v
unfolding layer_of
answered_at s u k o turn.Never h g = h
answered_at s u k o turn.Spent h g = h
answered_at s u k o (turn.Turned i) h g = (h, g.input, g.meets)

module _ (p : Setting) (after : Option Path) (b : Open) (o : Outcome) (w : Path) (os : List Outcome) (ls : List (List Outcome)) (r : Pending) (rs : List Pending) (S : Solving p after b o w os ls r rs)
    (x : Pending) (e : x ≡ r) (v : Turned)
    (h : AnswersAt linear (core_of p.checked) p.limits p.budget (x.trace).input (turned_at (core_of p.checked) p.limits (x.trace).input (b.depth - 1) o) (answer_of v)) (g : IsTurnedIf (core_of p.checked) p.limits (x.trace).input (b.depth - 1) o v) where
  at_prefix : Answered p (r.trace).input (next (take (length ls) (path_of_run r)) o) v
  unfolding layer_of
  at_prefix = answered p b o os ls r rs S.taken v (subst (λ (y : Pending). Answered p (y.trace).input (next (take (b.depth - 1) (path_of p (y.trace).input)) o) v) e (answered_at p (x.trace).input (b.depth - 1) o v h g))

  pub is_never : v ≡ turn.Never → (layer_of p).Answers (r.trace).input (next (take (length ls) (path_of_run r)) o) never
  is_never k = subst (Answered p (r.trace).input (next (take (length ls) (path_of_run r)) o)) k at_prefix

  pub is_spent : v ≡ turn.Spent → (layer_of p).Answers (r.trace).input (next (take (length ls) (path_of_run r)) o) spent
  is_spent k = subst (Answered p (r.trace).input (next (take (length ls) (path_of_run r)) o)) k at_prefix

  pub is_turned : (i : Input) → v ≡ turn.Turned i → Turned_to p (r.trace).input w i
  is_turned i k =
      let t = subst (Answered p (r.trace).input (next (take (length ls) (path_of_run r)) o)) k at_prefix in
      (subst (λ z. (layer_of p).Answers (r.trace).input z turned) (sym S.prefix) t.0, t.1, subst (λ z. meets_of p (r.trace).input z i) (sym S.prefix) t.2, (subst (IsTurnedIf (core_of p.checked) p.limits (x.trace).input (b.depth - 1) o) k g).few)
