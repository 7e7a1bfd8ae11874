use Rattle.c_trees.proofs.Calls.{call_tokens, call_sites}
use Rattle.c_trees.proofs.form.form_of.Goals as goal

pub returns-in-Call-clause-tokens : goal.returns-in-Call-clause-tokens
returns-in-Call-clause-tokens c = call_tokens c.args.e.now c.in-Call.field-0 c.in-Call.t c.in-Call.args c.as_slice.result.now c.in-Call.is c.as_slice.ensures

pub returns-in-Call-clause-sites : goal.returns-in-Call-clause-sites
returns-in-Call-clause-sites c = call_sites c.args.e.now c.in-Call.field-0 c.in-Call.t c.in-Call.args c.as_slice.result.now c.in-Call.is c.as_slice.ensures
