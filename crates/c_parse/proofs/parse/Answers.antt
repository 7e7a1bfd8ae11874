use Rattle.c_parse.proofs.Programs.{given_reads, given_only}
use Rattle.c_parse.proofs.ItemSteps.{exit_only, refuses}
use Rattle.c_expressions.specs.Shown.{place}
use Rattle.c_parse.proofs.OnePlace.{exit_placed, exit_exact, given_fault}
use Rattle.c_parse.proofs.parse.Goals as goal

pub returns-in_err-items-clause-only : goal.returns-in_err-items-clause-only
returns-in_err-items-clause-only c = exit_only c.args.tokens.now _ c.in_err-items.field-0.0 c.from_residual.ensures c.in_err-items.ensures.shown

pub returns-in_err-items-clause-refused : goal.returns-in_err-items-clause-refused
returns-in_err-items-clause-refused c = refuses c.args.tokens.now _ (exit_only c.args.tokens.now _ c.in_err-items.field-0.0 c.from_residual.ensures c.in_err-items.ensures.shown)

pub returns-clause-found : goal.returns-clause-found
returns-clause-found c = given_reads c.args.tokens.now c.in_ok-items.items (place c.in_ok-items._end) c.in_ok-items.ensures.shown

pub returns-clause-only : goal.returns-clause-only
returns-clause-only c = λ p a. given_only c.args.tokens.now c.in_ok-items.items (place c.in_ok-items._end) p c.in_ok-items.ensures.shown a

pub returns-in_err-items-clause-place : goal.returns-in_err-items-clause-place
returns-in_err-items-clause-place c = exit_placed c.args.tokens.now _ c.in_err-items.field-0.0 c.from_residual.ensures c.in_err-items.ensures.shown

pub returns-in_err-items-clause-exact : goal.returns-in_err-items-clause-exact
returns-in_err-items-clause-exact c = exit_exact c.args.tokens.now _ c.in_err-items.field-0.0 c.from_residual.ensures c.in_err-items.ensures.shown

pub returns-clause-exact : goal.returns-clause-exact
returns-clause-exact c = λ f h. given_fault c.args.tokens.now (record { items = c.in_ok-items.items }) f (given_reads c.args.tokens.now c.in_ok-items.items (place c.in_ok-items._end) c.in_ok-items.ensures.shown) h
