use Rattle.std.proofs.Common.{◌∙◌, sym, ap, SFits, rules}
use Rattle.std.proofs.lemmas.Int.{to_z-of_z}
use mir.Syntax.{w128}
use Rattle.cc_base.specs.Forms.{Form}
use Rattle.sym_expr.proofs.FormLaws.{value-without_terms}
use Rattle.sym_expr.proofs.forms.Form.constant.Goals as goal

pub returns-clause-alone : goal.returns-clause-alone
returns-clause-alone c = λ e h.
    let f : SFits w128 c.self.inside.constant = search rules in
    value-without_terms h c.args.self.now e ∙ sym (ap (λ (g : Form). g.constant) c.self.view_is) ∙ sym (to_z-of_z w128 c.self.inside.constant f)
