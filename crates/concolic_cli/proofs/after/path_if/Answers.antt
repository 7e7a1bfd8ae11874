use Rattle.std.proofs.Common.{refl, sym}
use Rattle.concolic_cli.proofs.PathReads.{some_path_of, no_path_of}
use Rattle.concolic_cli.proofs.after.path_if.Goals as goal

pub returns-in_ok-path_of-in-Some : goal.returns-in_ok-path_of-in-Some
returns-in_ok-path_of-in-Some c = rw c.in-Some.is (λ p i. some_path_of c.in-Some.word.now _ _ refl c.in_ok-path_of-in-Some.ensures p i)

pub returns-in-None : goal.returns-in-None
returns-in-None c = rw c.in-None.is (λ p i. sym (no_path_of _ refl p i))
