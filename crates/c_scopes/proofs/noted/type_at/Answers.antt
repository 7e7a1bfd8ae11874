use Rattle.c_scopes.proofs.ToldTypes.{type_found, no_type_found}
use Rattle.c_scopes.proofs.noted.type_at.Goals as goal

pub returns-in-Some : goal.returns-in-Some
returns-in-Some c = type_found c.type_in.result c.args.notes.now c.args.table.now c.args.t c.in-Some.k c.said_of-said.result c.said_of-said.ensures c.if-said.false c.in-Some.is c.type_in.ensures

pub returns-in-None : goal.returns-in-None
returns-in-None c = no_type_found c.args.notes.now c.args.table.now c.args.t c.said_of-said.result c.void_type-in-None.result c.said_of-said.ensures c.if-said.false c.in-None.is c.void_type-in-None.ensures
