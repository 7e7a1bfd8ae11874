use Rattle.std.proofs.Common.{rules, ap, ◌∙◌, ◌++◌, ℕ, List, codes}
use Rattle.concolic_cli.proofs.MadeText.{lines_before, line_more, lines_after, made_is, made_short}
use Rattle.concolic_cli.proofs.making.made_source.Goals as goal

pub loop-number-init : goal.loop-number-init
loop-number-init c = lines_before c.args.branches c.in_ok-text.text.items c.in_ok-text.ensures.items

pub loop-number-preserved : goal.loop-number-preserved
loop-number-preserved c = line_more c.args.branches c.loop-number.number c.loop-number.text.items c.push_branch.new.text.items (search rules) c.loop-number.invariant c.in_ok-push_branch.ensures

pub returns-clause-source : goal.returns-clause-source
returns-clause-source c =
    c.in_ok-extend_from_slice-3.ensures.items
    ∙ ap (λ (l : List ℕ). l ++ codes ";\n}\n") (c.in_ok-extend_from_slice-2.ensures.items ∙ ap (λ (l : List ℕ). l ++ c.as_bytes.result.now) c.in_ok-extend_from_slice.ensures.items)
    ∙ made_is c.args.branches c.loop-number.text.items c.as_bytes.result.now (lines_after c.args.branches c.loop-number.number c.loop-number.text.items (search rules) c.loop-number.invariant) (c.as_bytes.ensures.value ∙ c.format.ensures.text)

pub returns-clause-short : goal.returns-clause-short
returns-clause-short c = made_short c.args.branches c.extend_from_slice-3.new.self.items c.requires (returns-clause-source c)
