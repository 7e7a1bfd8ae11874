use Rattle.std.proofs.Common.{◌≡◌, true, rules}
use Rattle.c_numbering.specs.declared.table.Key.{Key}
use Rattle.c_numbering.specs.declared.table.Key.TheVariants as key
use Rattle.c_numbering.specs.contracts.table.KeyPartialEq.TheImpl as impl
use Rattle.c_numbering.proofs.KeyLemmas.{added_of}
use Rattle.c_numbering.proofs.table.Table.put.Goals as goal

same_key : (k : Key) → (impl.eq-value).it k k ≡ true
same_key key.Int = search rules
same_key key.Void = search rules
same_key (key.Ptr m) = search rules
same_key (key.Struct k) = search rules
same_key (key.Array m n) = search rules

pub returns-clause-added : goal.returns-clause-added
returns-clause-added c = added_of (impl.eq-value).it same_key c.match-try_from.result c.key_of.result (c.self.inside).keys.keys c.insert_full.new.self.keys c.args.ty c.args.self.now c.self.view_is c.key_of.ensures c.in_ok-number.ensures.keys
