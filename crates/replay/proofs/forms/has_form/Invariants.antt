use Rattle.std.proofs.Common.{◌↔◌, drop}
use Rattle.replay.specs.Tables.{seen, IsOneOf}
use Rattle.replay.proofs.forms.has_form.Given as goal

abbrev pub invariant-loop-form : goal.invariant-loop-form
invariant-loop-form l = IsOneOf (seen (drop l.form-index l.forms)) l.text ↔ IsOneOf (seen l.forms) l.text
