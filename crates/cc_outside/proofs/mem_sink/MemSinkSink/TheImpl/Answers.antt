-- What a sink in memory promises gives what each sink does.
use Rattle.std.proofs.Common.{◌≡◌, ℕ, ◌⊎◌, List, ◌++◌, take, Some, Result, Ok, Err, OnErr, IsErrOf, refl, ap, ⊎_elim, rules}
use Rattle.cc_outside.specs.declared.writing.SinkFault.{SinkFault}
use Rattle.cc_outside.specs.declared.writing.SinkFault.TheVariants.{Failed, NoMemory}
use Rattle.cc_outside.specs.Told.{WritesPart}
use Rattle.cc_outside.proofs.FaultLemmas.{Rose-counted_up}
use Rattle.cc_outside.proofs.PrefixLemmas.{IsFirstPart-take}
use Rattle.cc_outside.proofs.ToldLemmas.{WritesPart-none}
use Rattle.cc_outside.proofs.mem_sink.MemSinkSink.TheImpl.Goals as goal

-- a fact of an error, from it at either fault
OnErr-by_fault : {T : Type 0} (r : Result T SinkFault) (P : Type 0) → (IsErrOf r Failed → P) → (IsErrOf r NoMemory → P) → OnErr r P
OnErr-by_fault (Ok x) P failed no_memory = tt
OnErr-by_fault (Err Failed) P failed no_memory = failed refl
OnErr-by_fault (Err NoMemory) P failed no_memory = no_memory refl

-- what was kept of a piece is a first part of it
WritesPart-kept : (old new piece : List ℕ) (keep : ℕ) → (new ≡ old ++ take keep piece) ⊎ (new ≡ old) → WritesPart (Some old) (Some new) piece
WritesPart-kept old new piece keep kept =
    ⊎_elim
    (λ e. record { part = take keep piece; first = IsFirstPart-take keep piece; written = ap (λ w. Some w) e })
    (λ e. WritesPart-none _ _ piece (ap (λ w. Some w) e))
    kept

pub write-tells : goal.write-tells
write-tells c = record {
  told = search rules;
  never_falls = search rules;
  bounded = search rules;
  ok = search rules;
  failed_rose = λ e. Rose-counted_up _ _ (c.ensures.rises e);
  failed_part = OnErr-by_fault c.result _ (λ e. WritesPart-kept _ _ _ _ (c.ensures.kept e)) (λ e. WritesPart-none _ _ _ (ap (λ w. Some w) (c.ensures.no_memory e)));
  no_memory = λ e. ap (λ w. Some w) (c.ensures.no_memory e);
}
