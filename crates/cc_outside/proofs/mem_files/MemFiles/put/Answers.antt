-- A file that was put is the one of its name, and the others stay.
use Rattle.std.proofs.Common.{position, sym, ap, ◌∙◌}
use Rattle.std.specs.Str.{bytes_eq}
use Rattle.cc_outside.proofs.HeldLemmas.{file_of-set, file_of-set_other, file_of-push, file_of-push_other}
use Rattle.cc_outside.proofs.mem_files.MemFiles.put.Goals as goal

pub returns-in-Some-clause-put : goal.returns-in-Some-clause-put
returns-in-Some-clause-put c =
    rw c.in_ok-file.ensures (file_of-set _ _ (record { name = c.args.name.now; bytes = c.args.bytes.now }) (ap (position (λ f. bytes_eq f.name c.args.name.now)) (sym c.deref.ensures.value) ∙ sym c.in-Some.ensures))

pub returns-in-Some-clause-others : goal.returns-in-Some-clause-others
returns-in-Some-clause-others c =
    λ other apart. rw (c.in_ok-file.ensures) (rw (← c.self.view_is) (file_of-set_other _ _ (record { name = c.args.name.now; bytes = c.args.bytes.now }) other (ap (position (λ f. bytes_eq f.name c.args.name.now)) (sym c.deref.ensures.value) ∙ sym c.in-Some.ensures) apart))

pub returns-in_ok-push-in-None-clause-put : goal.returns-in_ok-push-in-None-clause-put
returns-in_ok-push-in-None-clause-put c =
    rw (c.in_ok-push-in-None.ensures.items, c.in_ok-file.ensures) (file_of-push _ (record { name = c.args.name.now; bytes = c.args.bytes.now }) (ap (position (λ f. bytes_eq f.name c.args.name.now)) (sym c.deref.ensures.value) ∙ sym c.in-None.ensures))

pub returns-in_ok-push-in-None-clause-others : goal.returns-in_ok-push-in-None-clause-others
returns-in_ok-push-in-None-clause-others c =
    λ other apart. rw (c.in_ok-push-in-None.ensures.items, c.in_ok-file.ensures) (rw (← c.self.view_is) (file_of-push_other _ (record { name = c.args.name.now; bytes = c.args.bytes.now }) other apart))
