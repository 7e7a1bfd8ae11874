use Rattle.std.proofs.Common.{◌≡◌, ◌∙◌, sym, ap, ap₂, arith, ℕ, pos, ◌*◌, ◌-◌, ◌^◌, ◌≤◌, ◌<◌}
use Rattle.std.proofs.lemmas.Int.{to_z_pos}
use mir.Syntax.{w128}
use Rattle.cc_base.specs.declared.passes.Mode.{Mode}
use Rattle.cc_base.specs.Pass.{dark_part}
use Rattle.linear_solver.proofs.Ranking.{product_bound}
use Rattle.linear_solver.proofs.eliminate.taken_off.Goals as goal

small : (a b m n : ℕ) → a ≤ 2 ^ 44 → b ≤ 2 ^ 44 → m ≡ a - 1 → n ≡ b - 1 → m * n < 2 ^ 127
small a b m n h k e f = let p = product_bound m n (2 ^ 44) (2 ^ 44) (omega (arith, e, h)) (omega (arith, f, k)) in omega (arith, p)

pub overflow_cast-result : goal.overflow_cast-result
overflow_cast-result c = record { sfits = small c.args.a c.args.c c.saturating_sub.result c.saturating_sub-in-Dark.result c.requires.lower c.requires.upper c.saturating_sub.ensures c.saturating_sub-in-Dark.ensures }

pub returns-in-Real : goal.returns-in-Real
unfolding dark_part
returns-in-Real c = ap (λ (m : Mode). pos (dark_part m c.args.a c.args.c)) (sym c.in-Real.is)

pub returns-in-Dark : goal.returns-in-Dark
unfolding dark_part
returns-in-Dark c =
    to_z_pos w128 (c.saturating_sub.result * c.saturating_sub-in-Dark.result) (small c.args.a c.args.c c.saturating_sub.result c.saturating_sub-in-Dark.result c.requires.lower c.requires.upper c.saturating_sub.ensures c.saturating_sub-in-Dark.ensures)
    ∙ ap₂ (λ (m n : ℕ). pos (m * n)) c.saturating_sub.ensures c.saturating_sub-in-Dark.ensures
    ∙ ap (λ (m : Mode). pos (dark_part m c.args.a c.args.c)) (sym c.in-Dark.is)
