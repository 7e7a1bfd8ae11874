use Rattle.std.proofs.Common.{sym, subst}
use Rattle.tac_lower.specs.declared.form.Operator.{Operator}
use Rattle.tac_lower.specs.Forms.{operation}
use Rattle.tac_lower.specs.Emitted.{AddsOperation}
use Rattle.tac_lower.proofs.Emitting.{on_ok, add_done, sub_done, mul_done, quot_done, rem_done}
use Rattle.tac_lower.proofs.known.Known.operation.Goals as goal

pub returns-in-Add : goal.returns-in-Add
returns-in-Add c = on_ok c.emit.result c.emit.ensures (λ e. subst (λ (o : Operator). AddsOperation c.args.self.now.checked.now c.args.t (operation o) c.args.n c.args.code.now c.emit.new.code) (sym c.in-Add.is) (add_done c.args.self.now.checked.now c.args.t c.args.n _ _ _ _ c.next-m.ensures c.site_at-fit.ensures e))

pub returns-in-Sub : goal.returns-in-Sub
returns-in-Sub c = on_ok c.emit-in-Sub.result c.emit-in-Sub.ensures (λ e. subst (λ (o : Operator). AddsOperation c.args.self.now.checked.now c.args.t (operation o) c.args.n c.args.code.now c.emit-in-Sub.new.code) (sym c.in-Sub.is) (sub_done c.args.self.now.checked.now c.args.t c.args.n _ _ _ _ c.next-m.ensures c.site_at-fit.ensures e))

pub returns-in-Mul : goal.returns-in-Mul
returns-in-Mul c = on_ok c.emit-in-Mul.result c.emit-in-Mul.ensures (λ e. subst (λ (o : Operator). AddsOperation c.args.self.now.checked.now c.args.t (operation o) c.args.n c.args.code.now c.emit-in-Mul.new.code) (sym c.in-Mul.is) (mul_done c.args.self.now.checked.now c.args.t c.args.n _ _ _ _ c.next-m.ensures c.site_at-fit.ensures e))

pub returns-in_ok-emit-in-Quot : goal.returns-in_ok-emit-in-Quot
returns-in_ok-emit-in-Quot c = on_ok c.emit-in-Quot-2.result c.emit-in-Quot-2.ensures (λ e. subst (λ (o : Operator). AddsOperation c.args.self.now.checked.now c.args.t (operation o) c.args.n c.args.code.now c.emit-in-Quot-2.new.code) (sym c.in-Quot.is) (quot_done c.args.self.now.checked.now c.args.t c.args.n _ _ _ _ _ _ c.next-m.ensures c.site_at-fit.ensures c.site_at.ensures c.in_ok-emit-in-Quot.ensures e))

pub returns-in_ok-emit-in-Rem : goal.returns-in_ok-emit-in-Rem
returns-in_ok-emit-in-Rem c = on_ok c.emit-in-Rem-2.result c.emit-in-Rem-2.ensures (λ e. subst (λ (o : Operator). AddsOperation c.args.self.now.checked.now c.args.t (operation o) c.args.n c.args.code.now c.emit-in-Rem-2.new.code) (sym c.in-Rem.is) (rem_done c.args.self.now.checked.now c.args.t c.args.n _ _ _ _ _ _ c.next-m.ensures c.site_at-fit.ensures c.site_at-in-Rem.ensures c.in_ok-emit-in-Rem.ensures e))
