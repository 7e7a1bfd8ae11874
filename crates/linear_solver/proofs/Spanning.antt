-- What is left of a span.
use Rattle.std.proofs.Common.{◌≡◌, ◌∙◌, sym, ap, ap₂, subst, refl, arith, ℕ, zero, suc, ◌<◌, Bool, true, false, nat_eq, List, [], ◌∷◌, length, get_or, replicate, ℤ, pos, negsuc, neg_ℤ, ◌+ℤ◌, ◌-ℤ◌, ◌*ℤ◌, ◌≤ℤ◌, ◌<ℤ◌, unsigned_abs, if◌then◌else◌}
use Rattle.std.proofs.lemmas.Int.{ints}
use borrow.Author.Tests.{eq-eqb}
use Rattle.cc_base.specs.Inequality.{total, floor, coefficient}
use Rattle.cc_base.specs.declared.forms.Multiple.{Multiple}
use Rattle.cc_base.specs.Groups.{Form, Holds, HoldAll, value}
use Rattle.cc_base.specs.Witness.{changed, origin}
use Rattle.linear_solver.specs.declared.atoms.LinearAtom.{LinearAtom}
use Rattle.linear_solver.specs.declared.atoms.Sign.{Sign}
use Rattle.linear_solver.specs.declared.atoms.Sign.TheVariants.{AtMostZero, Zero, NotZero}
use Rattle.linear_solver.specs.declared.one_place.Span.{Span}
use Rattle.linear_solver.specs.Atoms.{atom_of, seen_atom, seen_atoms}
use Rattle.linear_solver.specs.Spans.{Keeps, Narrows, Only, OnlyAll, Counted}
use Rattle.linear_solver.proofs.Integers.{floor_up, add_mul}
use lib.IntN.{*ℤ_comm}
use Rattle.linear_solver.proofs.Taken.{mul_neg}
use Rattle.linear_solver.proofs.Writing.{seen_form_is}
use Rattle.linear_solver.proofs.Evaluation.{changed_same}

pub kept_more : (P Q : ℤ → Type 0) (s t : Span) → ((z : ℤ) → Q z → P z) → Keeps P s t → Keeps Q s t
kept_more P Q s t f k = record { low = k.low; high = k.high; all = λ z a b q. k.all z a b (f z q) }

pub kept_same : (P : ℤ → Type 0) (s : Span) → Keeps P s s
kept_same P s = record { low = (let h : s.low ≤ℤ s.low = omega (arith, ints) in h); high = (let h : s.high ≤ℤ s.high = omega (arith, ints) in h); all = λ z a b q. (a, b) }

pub kept_on : (P : ℤ → Type 0) (s t u : Span) → Keeps P s t → Keeps P t u → Keeps P s u
kept_on P s t u k l =
    let a = k.low in let b = l.low in let c = k.high in let d = l.high in
    record { low = (let h : s.low ≤ℤ u.low = omega (arith, ints, a, b) in h); high = (let h : u.high ≤ℤ s.high = omega (arith, ints, c, d) in h); all = λ z x y q. (let m = k.all z x y q in l.all z m.0 m.1 q) }

as_pos : (c : ℤ) → pos 0 <ℤ c → c ≡ pos (unsigned_abs c)
as_pos (pos n) h = refl
as_pos (negsuc n) h = absurd (omega (arith, ints, h))

as_neg : (c : ℤ) → c <ℤ pos 0 → c ≡ neg_ℤ (pos (unsigned_abs c))
as_neg (pos n) h = absurd (omega (arith, ints, h))
as_neg (negsuc n) h = omega (arith, ints)

abs_pos : (c : ℤ) → pos 0 <ℤ c → 0 < unsigned_abs c
abs_pos c h = omega (arith, ints, h)

abs_neg : (c : ℤ) → c <ℤ pos 0 → 0 < unsigned_abs c
abs_neg c h = omega (arith, ints, h)

up_one : (z m : ℤ) → z ≤ℤ m → ((pos 1 *ℤ z) +ℤ neg_ℤ m) ≤ℤ pos 0
up_one z m h = omega (arith, ints, h)

down_one : (z m : ℤ) → m ≤ℤ z → ((negsuc 0 *ℤ z) +ℤ m) ≤ℤ pos 0
down_one z m h = omega (arith, ints, h)

most_of : (a : ℕ) (z k : ℤ) → 0 < a → ((pos a *ℤ z) +ℤ k) ≤ℤ pos 0 → z ≤ℤ floor (neg_ℤ k) a
most_of a z k h i = floor_up a z (neg_ℤ k) h (move (pos a *ℤ z) k i)
  where
    move : (p k : ℤ) → (p +ℤ k) ≤ℤ pos 0 → p ≤ℤ neg_ℤ k
    move p k h = omega (arith, ints, h)

flip : (a : ℕ) (z : ℤ) → neg_ℤ (pos a) *ℤ z ≡ pos a *ℤ neg_ℤ z
flip a z = *ℤ_comm (neg_ℤ (pos a)) z ∙ mul_neg z (pos a) ∙ ap neg_ℤ (*ℤ_comm z (pos a)) ∙ sym (mul_neg (pos a) z)

pub narrow_up : (s t : Span) (c k m : ℤ) → pos 0 <ℤ c → m ≡ floor (neg_ℤ k) (unsigned_abs c) → Narrows s (pos 1) (neg_ℤ m) t → Narrows s c k t
narrow_up s t c k m h e n = kept_more (λ z. ((pos 1 *ℤ z) +ℤ neg_ℤ m) ≤ℤ pos 0) (λ z. ((c *ℤ z) +ℤ k) ≤ℤ pos 0) s t
    (λ z q. up_one z m (subst (λ (y : ℤ). z ≤ℤ y) (sym e) (most_of (unsigned_abs c) z k (abs_pos c h) (subst (λ (d : ℤ). ((d *ℤ z) +ℤ k) ≤ℤ pos 0) (as_pos c h) q)))) n

pub narrow_down : (s t : Span) (c k m : ℤ) → c <ℤ pos 0 → m ≡ neg_ℤ (floor (neg_ℤ k) (unsigned_abs c)) → Narrows s (negsuc 0) m t → Narrows s c k t
narrow_down s t c k m h e n = kept_more (λ z. ((negsuc 0 *ℤ z) +ℤ m) ≤ℤ pos 0) (λ z. ((c *ℤ z) +ℤ k) ≤ℤ pos 0) s t
    (λ z q. down_one z m (let f = most_of (unsigned_abs c) (neg_ℤ z) k (abs_neg c h) (subst (λ (d : ℤ). (d +ℤ k) ≤ℤ pos 0) (flip (unsigned_abs c) z) (subst (λ (d : ℤ). ((d *ℤ z) +ℤ k) ≤ℤ pos 0) (as_neg c h) q)) in
    omega (arith, ints, e, f))) n

no_product : (c z k : ℤ) → c ≡ pos 0 → ((c *ℤ z) +ℤ k) ≤ℤ pos 0 → k ≤ℤ pos 0
no_product c z k e h = let f : c *ℤ z ≡ pos 0 = ap (λ (d : ℤ). d *ℤ z) e ∙ (omega (arith, ints)) in omega (arith, ints, f, h)

pub narrow_none : (s t u : Span) (c k : ℤ) → c ≡ pos 0 → pos 0 <ℤ k → s.low ≤ℤ t.low → t.high ≤ℤ s.high → t.low ≤ℤ u.low → u.high ≤ℤ t.high → Narrows s c k u
narrow_none s t u c k e h a b d f = record { low = omega (arith, ints, a, d); high = omega (arith, ints, b, f); all = λ z x y q. absurd (let i = no_product c z k e q in omega (arith, ints, h, i)) }

-- ---- atoms of one place

pub only_total : (x : ℕ) (v : ℕ → ℤ) (l : List Multiple) → Only x l → total v l ≡ coefficient x l *ℤ v x
unfolding total coefficient
only_total x v [] o = omega (arith, ints)
only_total x v (t ∷ l) o =
    let i = only_total x v l o.1 in let e : nat_eq x t.place ≡ true = eq-eqb x t.place (sym o.0) in
    ap₂ (λ (y : ℕ) (s : ℤ). (t.coefficient *ℤ v y) +ℤ s) o.0 i ∙ sym (add_mul t.coefficient (coefficient x l) (v x)) ∙ sym (ap (λ (b : Bool). ((if b then t.coefficient else pos 0) +ℤ coefficient x l) *ℤ v x) e)

pub only_value : (x : ℕ) (z : ℤ) (g : Form) → Only x g.terms → value (changed origin x z) g ≡ (coefficient x g.terms *ℤ z) +ℤ g.constant
unfolding value
only_value x z g o =
    let t = only_total x (changed origin x z) g.terms o in let c : changed origin x z x ≡ z = changed_same origin x x z refl in
    ap (λ (y : ℤ). g.constant +ℤ y) (t ∙ ap (λ (y : ℤ). coefficient x g.terms *ℤ y) c) ∙ (omega (arith, ints))

pub at_most_kept : (x : ℕ) (s : Sign) (g : Form) (p q : Span) → Only x g.terms → s ≡ AtMostZero → Narrows p (coefficient x g.terms) g.constant q → Keeps (λ z. Holds (changed origin x z) (atom_of s g)) p q
at_most_kept x AtMostZero g p q o e n = kept_more _ _ p q (λ z h. subst (λ (y : ℤ). y ≤ℤ pos 0) (only_value x z g o) h) n
at_most_kept x Zero g p q o e n = absurd (cc e)
at_most_kept x NotZero g p q o e n = absurd (cc e)

negated : (c k z : ℤ) → (c *ℤ z) +ℤ k ≡ pos 0 → ((neg_ℤ c *ℤ z) +ℤ neg_ℤ k) ≤ℤ pos 0
negated c k z e = let f : neg_ℤ c *ℤ z ≡ neg_ℤ (c *ℤ z) = *ℤ_comm (neg_ℤ c) z ∙ mul_neg z c ∙ ap neg_ℤ (*ℤ_comm z c) in omega (arith, ints, e, f)

pub zero_kept : (x : ℕ) (s : Sign) (g : Form) (p q r : Span) → Only x g.terms → s ≡ Zero → Narrows p (coefficient x g.terms) g.constant q → Narrows q (neg_ℤ (coefficient x g.terms)) (neg_ℤ g.constant) r → Keeps (λ z. Holds (changed origin x z) (atom_of s g)) p r
zero_kept x AtMostZero g p q r o e n m = absurd (cc e)
zero_kept x Zero g p q r o e n m = kept_on _ p q r
    (kept_more _ _ p q (λ z h. (let i : (coefficient x g.terms *ℤ z) +ℤ g.constant ≡ pos 0 = sym (only_value x z g o) ∙ h in omega (arith, ints, i))) n)
    (kept_more _ _ q r (λ z h. negated (coefficient x g.terms) g.constant z (sym (only_value x z g o) ∙ h)) m)
zero_kept x NotZero g p q r o e n m = absurd (cc e)

pub only_at : (x : ℕ) (l : List LinearAtom) (k : ℕ) (a : LinearAtom) → OnlyAll x (seen_atoms l) → k < length l → a ≡ get_or l k a → Only x a.terms.items
unfolding seen_atoms
only_at x [] k a o h e = absurd (omega arith)
only_at x (b ∷ l) zero a o h e = subst (λ (y : LinearAtom). Only x y.terms.items) (sym e) (subst (λ (g : Form). Only x g.terms) (seen_form_is b) o.0)
only_at x (b ∷ l) (suc k) a o h e = only_at x l k a o.1 (omega arith) e

pub holds_member : (v : ℕ → ℤ) (l : List LinearAtom) (k : ℕ) (a : LinearAtom) → HoldAll v (seen_atoms l) → k < length l → a ≡ get_or l k a → Holds v (seen_atom a)
unfolding seen_atoms
holds_member v [] k a o h e = absurd (omega arith)
holds_member v (b ∷ l) zero a o h e = subst (λ (y : LinearAtom). Holds v (seen_atom y)) (sym e) o.0
holds_member v (b ∷ l) (suc k) a o h e = holds_member v l k a o.1 (omega arith) e

-- ---- numbers that a disequality excludes

pub excluded_by : (x : ℕ) (s : Sign) (g : Form) (z c y k : ℤ) → Only x g.terms → s ≡ NotZero → c ≡ coefficient x g.terms → y ≡ z → k ≡ g.constant → (c *ℤ y) +ℤ k ≡ pos 0 → Holds (changed origin x z) (atom_of s g) → ⊥
excluded_by x AtMostZero g z c y k o e f h i r m = absurd (cc e)
excluded_by x Zero g z c y k o e f h i r m = absurd (cc e)
excluded_by x NotZero g z c y k o e f h i r m = m (only_value x z g o ∙ sym (ap₂ (λ (a b : ℤ). a +ℤ b) (ap₂ (λ (a b : ℤ). a *ℤ b) f h) i) ∙ r)

pub unmarked : (n k : ℕ) → get_or (replicate n false) k false ≡ true → ⊥
unmarked zero k h = cc h
unmarked (suc n) zero h = cc h
unmarked (suc n) (suc k) h = unmarked n k h

-- ---- how many numbers

pub counted_none : (s : Span) → s.high <ℤ s.low → Counted s 0
counted_none s h = record { within = λ k l. absurd (omega arith); each = λ z a b. absurd (omega (arith, ints, h, a, b)) }

pub counted_some : (s : Span) (n : ℕ) → s.low ≤ℤ s.high → n ≡ unsigned_abs ((s.high -ℤ s.low) +ℤ pos 1) → Counted s n
counted_some s n h e = record {
  within = λ k l. omega (arith, ints, h, e, l);
  each = λ z a b. (unsigned_abs (z -ℤ s.low), (omega (arith, ints, h, e, a, b)), (omega (arith, ints, a)));
}
