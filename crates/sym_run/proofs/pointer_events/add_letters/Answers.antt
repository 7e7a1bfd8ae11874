use Rattle.std.proofs.Common.{◌≡◌, ◌++◌, List, map, drop, sym, ap, ◌∙◌, subst, ◌+◌, ◌∷◌, []}
use Rattle.std.proofs.lemmas.List.{map_push}
use Rattle.cc_model.specs.Traced as traced
use Rattle.sym_run.specs.declared.trace.Choice.{Choice}
use Rattle.sym_run.specs.Asks.{choice_of, choices_of}
use Rattle.sym_run.specs.Pointers.{blank}
use Rattle.sym_run.proofs.PointerLaws.{letter_here, letter_past, letters_done}
use Rattle.sym_run.proofs.pointer_events.add_letters.Goals as goal
use Rattle.sym_run.proofs.pointer_events.add_letters.Goals.{then-pointer-first+in_ok-letter+in_ok-push, else-pointer-first}

pub loop-rank-preserved : goal.loop-rank-preserved
loop-rank-preserved c =
    elim c.if-pointer-first.branch [
      | then-pointer-first+in_ok-letter+in_ok-push w ↦
          let more : choices_of c.if-pointer-first.choices ≡ choices_of c.loop-rank.choices ++ choice_of w.in_ok-letter.field-0 ∷ [] = ap choices_of (w.choices-is ∙ w.in_ok-push.ensures.ok) ∙ map_push choice_of c.loop-rank.choices w.in_ok-letter.field-0 in
          let all = more ∙ ap (λ (x : traced.Choice). choices_of c.loop-rank.choices ++ x ∷ []) w.in_ok-letter.ensures in
          subst (λ (l : List traced.Choice). l ++ traced.letters c.args.pointer.place.0 c.args.pointer.ty.0 (c.loop-rank.rank + 1) (map blank (drop (c.loop-rank.rank + 1) c.args.firsts.now)) ≡ choices_of c.args.choices.now ++ traced.letters c.args.pointer.place.0 c.args.pointer.ty.0 0 (map blank c.args.firsts.now)) (sym all)
          (letter_here _ _ _ _ _ _ _ c.loop-rank-test.true w.if-pointer-first.true c.loop-rank.invariant)
      | else-pointer-first w ↦
          subst (λ (l : List Choice). choices_of l ++ traced.letters c.args.pointer.place.0 c.args.pointer.ty.0 (c.loop-rank.rank + 1) (map blank (drop (c.loop-rank.rank + 1) c.args.firsts.now)) ≡ choices_of c.args.choices.now ++ traced.letters c.args.pointer.place.0 c.args.pointer.ty.0 0 (map blank c.args.firsts.now)) (sym w.choices-is)
          (letter_past _ _ _ _ _ _ _ c.loop-rank-test.true w.if-pointer-first.false c.loop-rank.invariant)
    ]

pub returns : goal.returns
returns c = letters_done _ _ _ _ c.args.pointer _ _ c.loop-rank-test.false c.loop-rank.invariant
