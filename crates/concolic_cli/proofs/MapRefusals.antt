-- The refusal of a map, by its fault.
use Rattle.std.proofs.Common.{◌≡◌, ◌⊎◌, inl, inr, ⊎_elim, ℕ, List, Ok, Err, Result, refl, sym, ap, subst, ◌∙◌}
use Rattle.cc_base.specs.declared.inputs.Input.{Input}
use Rattle.cc_base.specs.Limits.{Limits}
use Rattle.cc_model.specs.Core.{Program}
use Rattle.input_map.specs.declared.faults.MapFault.{MapFault}
use Rattle.input_map.specs.declared.faults.MapFault.TheVariants as fault
use Rattle.input_map.specs.CellFaults.{Refused, IsOrNoMemory}
use Rattle.concolic_cli.specs.declared.refusal.Refusal.{Refusal}
use Rattle.concolic_cli.specs.declared.refusal.Refusal.TheVariants as refusal
use Rattle.concolic_cli.specs.Refusals.{map_refusal}
use Rattle.concolic_cli.specs.Session.{MapCause}

-- a fault is told, but for want of memory
told : (f : MapFault) → (map_refusal f ≡ refusal.Map f) ⊎ ((f ≡ fault.NoMemory) × (map_refusal f ≡ refusal.NoMemory))
told (fault.Malformed n) = inl refl
told (fault.NotCanonical a) = inl refl
told fault.Short = inl refl
told (fault.Long a) = inl refl
told (fault.OutOfBounds a) = inl refl
told (fault.StreamOutOfBounds n) = inl refl
told fault.NoMemory = inr (refl, refl)

pub cause_by : (p : Program) (b : Limits) (text : List ℕ) (f : MapFault) (e : Refusal) → e ≡ map_refusal f → (f ≡ fault.NoMemory) ⊎ Refused p b text f → MapCause p b text e
cause_by p b text f e i (inl h) = subst (λ u. MapCause p b text u) (sym (i ∙ ap map_refusal h)) tt
cause_by p b text f e i (inr h) = ⊎_elim (λ t. subst (λ u. MapCause p b text u) (sym (i ∙ t)) h) (λ t. subst (λ u. MapCause p b text u) (sym (i ∙ t.1)) tt) (told f)

pub no_whole : (f : MapFault) (e : Refusal) (h : Input) → e ≡ map_refusal f → IsOrNoMemory (Err f) (Ok h) → (let r : Result Input Refusal = Err e in r ≡ Ok h) ⊎ (let r : Result Input Refusal = Err e in r ≡ Err refusal.NoMemory)
no_whole f e h i (inl k) = absurd (cc k)
no_whole f e h i (inr k) = let j : f ≡ fault.NoMemory = cc k in inr (ap (λ u. Err u) (i ∙ ap map_refusal j))

pub one_by : (f : MapFault) (e : Refusal) (g : MapFault) → e ≡ map_refusal f → IsOrNoMemory (Err f) (Err g) → (let r : Result Input Refusal = Err e in r ≡ Err (refusal.Map g)) ⊎ (let r : Result Input Refusal = Err e in r ≡ Err refusal.NoMemory)
one_by f e g i (inl k) =
    let j : f ≡ g = cc k in
    ⊎_elim (λ t. inl (ap (λ u. Err u) (i ∙ (t ∙ ap (λ u. refusal.Map u) j)))) (λ t. inr (ap (λ u. Err u) (i ∙ t.1))) (told f)
one_by f e g i (inr k) = let j : f ≡ fault.NoMemory = cc k in inr (ap (λ u. Err u) (i ∙ ap map_refusal j))

pub never_refused : (h : Input) (g : MapFault) → IsOrNoMemory (Ok h) (Err g) → ⊥
never_refused h g (inl k) = cc k
never_refused h g (inr k) = cc k
