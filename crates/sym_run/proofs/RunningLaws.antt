-- A run goes on by one step of the machine after the other, to its end.
use Rattle.std.proofs.Common.{◌≡◌, ℕ, List, [], ◌++◌, map, Option, Some, None, refl, sym, ap, subst, ◌∙◌}
use Rattle.cc_base.specs.declared.ends.End.{End}
use Rattle.cc_model.specs.Compiles.{Compiles, is_traced_zero}
use Rattle.cc_model.specs.Conditions.{traced_run, events_of, places_of, last_state}
use Rattle.cc_model.specs.Instructions as instr
use Rattle.cc_model.specs.Meaning.{Ran, over}
use Rattle.cc_model.specs.Runs.{fixed_of, end_of}
use Rattle.cc_laws.specs.LinearForms.{linear}
use Rattle.tac_lower.specs.Finished.{first_in}
use Rattle.sym_run.specs.declared.machine.Machine.{Machine}
use Rattle.sym_run.specs.Stands.{Setting, domain, St, Goes, Ends, acts_at, machine, Stepped, IsJournal}
use Rattle.sym_run.specs.Running.{program, code_of, first_state, Came, Ended}
use Rattle.sym_run.proofs.ComingLaws.{comes_on, comes_over}

module _ (w : Setting) where
  pub came_on : (old new : Machine) → Came w old → Stepped w old new None → Came w new
  unfolding instr.machine
  came_on old new c step =
      let g : Goes w new c.state c.log (λ k. acts_at w k c.config) = step c.config c.state c.log c.stands in record {
        config = g.config;
        state = g.state;
        log = c.log ++ g.more;
        stands = g.stands;
        comes = comes_on (domain w) (fixed_of (program w) w.limits) is_traced_zero (first_in w.code) (code_of w) (first_state w) c.log g.more c.config g.config c.state g.state c.comes (λ lost n. g.does (machine w lost n));
      }

  pub came_over : (old new : Machine) (e : End) → Came w old → Stepped w old new (Some e) → Compiles (program w) (code_of w) (λ f. first_in w.code f) → Ended w new e
  unfolding instr.machine events_of places_of
  came_over old new e c step compiles =
      let g : Ends w new c.state c.log (λ k. acts_at w k c.config) e = step c.config c.state c.log c.stands in
      let q : traced_run linear (program w) w.limits w.input ≡ record { log = c.log ++ g.more; result = over e g.state } =
      comes_over (domain w) (fixed_of (program w) w.limits) is_traced_zero (first_in w.code) (code_of w) (first_state w) c.log g.more c.config c.state g.state e (traced_run linear (program w) w.limits w.input) c.comes (λ lost n. g.does (machine w lost n)) (compiles.as_traced linear w.limits w.input) in
      record {
        journal = subst (λ (r : Ran (domain w).E (St w) (Unit {0})). IsJournal w.checked r.log new.journal) (sym q) g.journal;
        places = ap (λ (r : Ran (domain w).E (St w) (Unit {0})). (last_state r.result).data_now.shadows.places) q ∙ g.places;
        end = ap (λ (r : Ran (domain w).E (St w) (Unit {0})). end_of r.result) q;
      }

  pub came_on_at : (old new : Machine) (o : Option End) → Came w old → Stepped w old new o → o ≡ None → Came w new
  came_on_at old new o c step e = came_on old new c (subst (λ (p : Option End). Stepped w old new p) e step)

  pub came_over_at : (old new : Machine) (o : Option End) (end : End) → Came w old → Stepped w old new o → Compiles (program w) (code_of w) (λ f. first_in w.code f) → o ≡ Some end → Ended w new end
  came_over_at old new o end c step compiles e = came_over old new end c (subst (λ (p : Option End). Stepped w old new p) e step) compiles
