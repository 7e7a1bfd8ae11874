use Rattle.std.proofs.Common.{◌≡◌, ◌≢◌, ◌∙◌, sym, ap, refl, SFits, to_z, of_z, ℕ, zero, suc, ℤ, pos, negsuc, List, [], ◌∷◌, ◌++◌, append-nil}
use Rattle.std.proofs.lemmas.Int.{to_z-of_z}
use mir.Syntax.{w64}
use Rattle.cc_base.specs.declared.forms.Multiple.{Multiple}
use Rattle.sym_expr.specs.declared.forms.FormTerm.{FormTerm}
use Rattle.sym_expr.specs.declared.places.PlaceId.{PlaceId}
use Rattle.sym_expr.specs.TermsSeen.{multiples_of}
use Rattle.sym_expr.specs.Sums.{put_unless_zero, is_zero_number}
use Rattle.sym_expr.proofs.MergeSteps.{multiples_append}
use Rattle.sym_expr.proofs.merging.push_unless_zero.Goals as goal

put_zero : (x : ℕ) (k : ℤ) → k ≡ pos 0 → [] ≡ put_unless_zero x k []
unfolding put_unless_zero is_zero_number
put_zero x (pos zero) h = refl
put_zero x (pos (suc n)) h = absurd (cc h)
put_zero x (negsuc n) h = absurd (cc h)

put_other : (x : ℕ) (k : ℤ) → k ≢ pos 0 → (let t : Multiple = record { place = x; coefficient = k } in t) ∷ [] ≡ put_unless_zero x k []
unfolding put_unless_zero is_zero_number
put_other x (pos zero) h = absurd (h refl)
put_other x (pos (suc n)) h = refl
put_other x (negsuc n) h = refl

no_bits : (z : ℤ) → SFits w64 z → of_z w64 z ≡ 0 → z ≡ pos 0
no_bits z f e = sym (to_z-of_z w64 z f) ∙ ap (to_z w64) e

some_bits : (z : ℤ) → (of_z w64 z ≡ 0 → ⊥) → z ≢ pos 0
some_bits z h e = h (ap (of_z w64) e)

pushed : (o u : List FormTerm) (z y : ℤ) (p : PlaceId) → u ≡ o ++ (let t : FormTerm = record { coefficient = z; place = p } in t) ∷ [] → z ≡ y → y ≢ pos 0 → multiples_of u ≡ multiples_of o ++ put_unless_zero p.0 y []
pushed o u z y p e f h =
    ap multiples_of (e ∙ ap (λ (x : ℤ). o ++ (let t : FormTerm = record { coefficient = x; place = p } in t) ∷ []) f)
    ∙ multiples_append o ((let t : FormTerm = record { coefficient = y; place = p } in t) ∷ []) ∙ ap (λ (l : List Multiple). multiples_of o ++ l) (put_other p.0 y h)

pub returns-then-coefficient-ne0-clause-made : goal.returns-then-coefficient-ne0-clause-made
returns-then-coefficient-ne0-clause-made c =
    pushed c.args.out.now.items c.push.new.self.items _ c.args.coefficient c.args.place c.push.ensures.items (to_z-of_z w64 c.args.coefficient c.ranges.coefficient) (some_bits c.args.coefficient c.if-coefficient-ne0.true)

pub returns-else-coefficient-ne0-clause-made : goal.returns-else-coefficient-ne0-clause-made
returns-else-coefficient-ne0-clause-made c =
    sym (append-nil (multiples_of c.args.out.now.items)) ∙ ap (λ (l : List Multiple). multiples_of c.args.out.now.items ++ l) (put_zero c.args.place.0 c.args.coefficient (no_bits c.args.coefficient c.ranges.coefficient c.if-coefficient-ne0.false))
