use Rattle.std.proofs.Common.{ap, ◌∙◌, []}
use Rattle.sym_run.specs.declared.journal.Parted.{Parted}
use Rattle.sym_run.specs.Asks.{choices_of}
use Rattle.sym_run.specs.Journals.{atoms_or}
use Rattle.sym_run.proofs.JournalLaws.{Made, add_nothing, add_one, add_term}
use Rattle.sym_run.proofs.ObjectLaws.{on_ok}
use Rattle.sym_run.proofs.journal.Journal.add.Goals as goal
use Rattle.sym_run.proofs.journal.Journal.add.Goals.{in-Nothing, in-OneOf+in_ok-parts-in-OneOf, in-Term+in_ok-note-in-Term}

pub returns : goal.returns
returns c = on_ok c.push.result c.push.ensures (λ f c' l a s p x q i.
    let m : Made c.args.site c.args.outcome c.match-asked.parts.taken c.match-asked.parts.others c.args.places c.event_of.result =
    record { site_is = c.event_of.ensures.site; outcome = c.event_of.ensures.outcome; atoms = c.event_of.ensures.atoms; others_are = c.event_of.ensures.others; places_are = c.event_of.ensures.places } in
    elim c.match-asked.branch [
      | in-Nothing w ↦ add_nothing c' l a c.args.self.now c.push.new.self c.match-asked.self c.event_of.result c.args.site c.args.outcome c.args.places c.args.asked c.match-asked.parts
          w.in-Nothing.is (w.parts-is ∙ w.nothing-parts.ensures) w.self-is f m s p x q i
      | in-OneOf+in_ok-parts-in-OneOf w ↦ add_one c' l a c.args.self.now c.push.new.self c.match-asked.self c.event_of.result c.args.site c.args.outcome c.args.places c.args.asked c.match-asked.parts
          w.in-OneOf.choices w.in-OneOf.is w.self-is f m
          (ap (λ (k : Parted). atoms_or k.taken []) w.parts-is ∙ w.in_ok-parts-in-OneOf.ensures.taken)
          (ap (λ (k : Parted). choices_of k.others) w.parts-is ∙ w.in_ok-parts-in-OneOf.ensures.others) s p x q i
      | in-Term+in_ok-note-in-Term w ↦ add_term c' l a c.args.self.now c.push.new.self c.match-asked.self c.event_of.result c.args.site c.args.outcome c.args.places c.args.asked c.match-asked.parts
          w.in-Term.kind w.in-Term.is (w.parts-is ∙ w.nothing-parts-in-Term.ensures) (w.self-is ∙ w.in_ok-note-in-Term.ensures) f m s p x q i
    ])
