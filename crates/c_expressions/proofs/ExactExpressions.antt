-- The place of a fault in an expression is exact: the tokens before it begin one, and with it they begin none.
use Rattle.std.proofs.Common.{◌≡◌, inl, inr, ℕ, suc, ◌+◌, ◌≤◌, ◌<◌, Bool, Option, refl, arith}
use Rattle.cc_model.specs.declared.tokens.Kind.{Kind}
use Rattle.cc_model.specs.declared.trees.Expr.{Expr}
use Rattle.cc_model.specs.Spots.{Spot}
use Rattle.cc_model.specs.ReadExpressions.{Exp}
use Rattle.c_expressions.specs.Descent.{Fault, bad, deep, Got, got, failed, Ends}
use Rattle.c_expressions.specs.Descent as of
use Rattle.c_expressions.proofs.First.{Free}
use Rattle.c_expressions.proofs.Complete.{complete}
use Rattle.c_expressions.proofs.Moved.{exp_moved}
use Rattle.c_expressions.proofs.Viable.{Can, Verdict, place}
use Rattle.c_expressions.proofs.ViableExpressions.{chain, chain_verdict}
use Rattle.c_expressions.proofs.Local.{Alike, any}
use Rattle.c_expressions.proofs.LocalExpressions.{chain_local}

-- the tokens before a bad one, and those up to and with a deep one, begin an expression; the levels before it fit, that of a deep one does not
pub begins_one : (tok : ℕ → Option Kind) (fits : ℕ → ℕ → Bool) (s : Spot) (f : Fault) → Ends (λ n. of.chain tok fits n 6) s (failed f) → Can (chain 6) tok fits s f × (s.at ≤ place f)
begins_one tok fits s f h = go (of.chain tok fits h.0 6 s) (chain_verdict tok fits h.0 6 s) (h.1 h.0 (omega arith))
  where
    go : (q : Got Expr) → Verdict (chain 6) tok fits s q → q ≡ failed f → Can (chain 6) tok fits s f × (s.at ≤ place f)
    go q v e = rw e at v

-- no expression begins with the tokens up to and with a bad one
pub begins_none : (tok tok' : ℕ → Option Kind) (fits fits' : ℕ → ℕ → Bool) (s t : Spot) (k : ℕ) (a : Expr) → Ends (λ n. of.chain tok fits n 6) s (failed (bad k)) →
    ((i : ℕ) → i < suc k → tok' i ≡ tok i) → Exp tok' fits' 6 s t a → Free tok' any 6 t → ⊥
begins_none tok tok' fits fits' s t k a h same d f =
    let e = complete tok' any s t a (exp_moved tok' fits' tok' any s.at t.at (λ i _ _. (refl, λ l _. refl)) d (omega arith) (omega arith)) f in
    go (of.chain tok fits (h.0 + e.0) 6 s) (of.chain tok' any (h.0 + e.0) 6 s) (chain_local (suc k) tok tok' fits same (h.0 + e.0) 6 s).0 (h.1 (h.0 + e.0) (omega arith)) (e.1 (h.0 + e.0) (omega arith))
  where
    apart : Alike (suc k) (failed (bad k)) (got a t) → ⊥
    apart (inl e) = cc e
    apart (inr h) = absurd (omega (arith, h.0))

    go : (r q : Got Expr) → Alike (suc k) r q → r ≡ failed (bad k) → q ≡ got a t → ⊥
    go r q l e g = apart (rw (e, g) at l)
