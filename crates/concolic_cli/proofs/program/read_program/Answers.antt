-- Where the lexer refuses, it names the fault; where the parser refuses, the tokens are no program; where the checker does, their
-- program is faulty.
use Rattle.std.proofs.Common.{subst, sym, ◌∙◌}
use Rattle.cc_model.specs.Reads.{Accepts}
use Rattle.cc_model.specs.Source.{text_at}
use Rattle.c_parse.specs.Places.{Placed}
use Rattle.c_types.specs.Refused.{IsTypeFault}
use Rattle.concolic_cli.proofs.program.read_program.Goals as goal

pub returns-in-Err-clause-source_refused : goal.returns-in-Err-clause-source_refused
returns-in-Err-clause-source_refused c = c.refusal_of.ensures c.args.entry.now c.in-Err.ensures.exact

pub returns-in-Err-parse-clause-source_refused : goal.returns-in-Err-parse-clause-source_refused
returns-in-Err-parse-clause-source_refused c =
    c.refusal_at.ensures c.args.entry.now (λ tree a. c.in-Err-parse.ensures.only tree (subst (λ u. Accepts u tree) (c.deref-in-Err-parse.ensures.value ∙ sym c.deref.ensures.value) a))
    (subst (λ u. Placed u c.in-Err-parse.fault) (c.deref.ensures.value ∙ sym c.deref-in-Err-parse.ensures.value) c.in-Err-parse.ensures.place)

pub returns-in-Err-check-clause-source_refused : goal.returns-in-Err-check-clause-source_refused
returns-in-Err-check-clause-source_refused c =
    c.refusal_in.ensures c.in-Ok-parse.program c.args.entry.now
    (subst (λ u. Accepts u c.in-Ok-parse.program) (c.deref.ensures.value ∙ sym c.deref-in-Err-check.ensures.value) c.in-Ok-parse.ensures.found)
    (subst (λ u. IsTypeFault (text_at c.args.source.now u) c.in-Ok-parse.program.items c.args.entry.now c.in-Err-check.fault) (c.deref-2.ensures.value ∙ sym c.deref-in-Err-check.ensures.value) c.in-Err-check.ensures.refused)
