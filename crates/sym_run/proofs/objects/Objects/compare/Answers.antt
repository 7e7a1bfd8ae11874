use Rattle.std.proofs.Common.{◌∙◌, sym}
use Rattle.sym_run.specs.Numbers.{cmp_of}
use Rattle.sym_run.specs.Remembers.{names_in}
use Rattle.sym_run.proofs.DecisionLaws.{two_ok, is_a_number, is_a_pointer, numbers_decided, pointers_decided}
use Rattle.sym_run.proofs.objects.Objects.compare.Goals as goal

pub returns-then-is_number-2 : goal.returns-then-is_number-2
returns-then-is_number-2 c = two_ok c.compare_numbers.result c.compare_numbers.ensures.outcome c.compare_numbers.ensures.asked (λ r p q start named d f rem left right.
    numbers_decided f (cmp_of c.args.comparison) c.args.symbols.now c.args.a c.args.b d r named (names_in c.args.self.now) left right
    (is_a_number c.args.a.value (sym c.is_number.ensures ∙ c.if-is_number.true)) (is_a_number c.args.b.value (sym c.is_number-then-is_number.ensures ∙ c.if-is_number-2.true)) p q)

pub returns : goal.returns
returns c = two_ok c.compare_pointers.result c.compare_pointers.ensures.outcome c.compare_pointers.ensures.asked (λ r p q start named d f rem left right.
    pointers_decided f (cmp_of c.args.comparison) c.args.symbols.now c.args.a c.args.b d r named (names_in c.args.self.now) left right
    (is_a_pointer c.args.a.value (sym c.is_number.ensures ∙ c.if-is_number.false)) (is_a_pointer c.args.b.value (sym c.is_number-2.ensures ∙ c.if-is_number-3.false)) p (q start named d rem))
