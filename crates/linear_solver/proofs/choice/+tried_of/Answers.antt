use Rattle.std.proofs.Common.{◌≡◌, ◌∙◌, sym, ap, subst, rules, arith, pos, negsuc, ◌+◌, ◌<◌, List, ◌∷◌, drop, length}
use Rattle.cc_base.specs.Groups.{Form}
use Rattle.cc_base.specs.Inequality as plain
use Rattle.cc_base.specs.Need.{tried, disequalities, at_most, at_least, found, closed, open_choice}
use Rattle.linear_solver.specs.declared.atoms.Sign.TheVariants.{AtMostZero, Zero, NotZero}
use Rattle.linear_solver.specs.declared.choice.Tried.{Tried}
use Rattle.linear_solver.specs.Atoms.{seen_form, seen_atoms}
use Rattle.linear_solver.specs.Bounded.{BoundedWith}
use Rattle.linear_solver.specs.Counts.{tried_count, seen_tried, FoundMeets, beyond, within}
use Rattle.linear_solver.specs.Ordered.{SafeAll}
use Rattle.linear_solver.specs.Seen.{seen_all}
use Rattle.linear_solver.proofs.Bounding.{bounded_at_most, bounded_at_least, bounded_of}
use Rattle.linear_solver.proofs.Choosing.{sides_beyond, sides_found, sides_closed, sides_open, closed_within, open_within, tried_none, under_meets, over_meets}
use Rattle.linear_solver.proofs.Writing.{fit_at, no_disequality, one_disequality, last_disequality, safe_at_most, safe_at_least}
use Rattle.linear_solver.proofs.choice.+tried_of.Goals as goal

pub one_choice_of-requires-clause-bounded : goal.one_choice_of-requires-clause-bounded
one_choice_of-requires-clause-bounded t c = bounded_of (seen_atoms c.args.atoms.now) (seen_all c.args.list.now) c.requires.bounded

pub returns-then-from-atoms-clause-count : goal.returns-then-from-atoms-clause-count
returns-then-from-atoms-clause-count t c =
    c.in_ok-one.ensures.count ∙ ap (tried_count c.args.used c.args.budget) (tried_none c.args.n (seen_all c.args.list.now) ∙ ap (tried c.args.n (seen_all c.args.list.now)) (last_disequality c.args.atoms.now c.args.from c.if-from-atoms.true))

pub returns-then-from-atoms-clause-values : goal.returns-then-from-atoms-clause-values
returns-then-from-atoms-clause-values t c = subst (λ (fs : List Form). FoundMeets c.in_ok-one.one (seen_all c.args.list.now) fs) (last_disequality c.args.atoms.now c.args.from c.if-from-atoms.true) c.in_ok-one.ensures.values

pub returns-in-AtMostZero-clause-count : goal.returns-in-AtMostZero-clause-count
returns-in-AtMostZero-clause-count t c =
    let n : c.index-atoms-from.result.sign ≡ NotZero → ⊥ = λ e. (let f : AtMostZero ≡ NotZero = sym c.in-AtMostZero.is ∙ e in cc f) in
    c.in_ok-rest-in-AtMostZero.ensures.count ∙ ap (λ (fs : List Form). tried_count c.args.used c.args.budget (tried c.args.n (seen_all c.args.list.now) fs)) (no_disequality c.args.atoms.now c.args.from c.index-atoms-from.result (let h = c.if-from-atoms.false in let g : c.args.from < length c.args.atoms.now = omega (arith, h) in g) c.index-atoms-from.is n)

pub returns-in-AtMostZero-clause-values : goal.returns-in-AtMostZero-clause-values
returns-in-AtMostZero-clause-values t c =
    let n : c.index-atoms-from.result.sign ≡ NotZero → ⊥ = λ e. (let f : AtMostZero ≡ NotZero = sym c.in-AtMostZero.is ∙ e in cc f) in
    subst (λ (fs : List Form). FoundMeets c.in_ok-rest-in-AtMostZero.rest (seen_all c.args.list.now) fs) (no_disequality c.args.atoms.now c.args.from c.index-atoms-from.result (let h = c.if-from-atoms.false in let g : c.args.from < length c.args.atoms.now = omega (arith, h) in g) c.index-atoms-from.is n) c.in_ok-rest-in-AtMostZero.ensures.values

pub returns-in-Zero-clause-count : goal.returns-in-Zero-clause-count
returns-in-Zero-clause-count t c =
    let n : c.index-atoms-from.result.sign ≡ NotZero → ⊥ = λ e. (let f : Zero ≡ NotZero = sym c.in-Zero.is ∙ e in cc f) in
    c.in_ok-rest-in-Zero.ensures.count ∙ ap (λ (fs : List Form). tried_count c.args.used c.args.budget (tried c.args.n (seen_all c.args.list.now) fs)) (no_disequality c.args.atoms.now c.args.from c.index-atoms-from.result (let h = c.if-from-atoms.false in let g : c.args.from < length c.args.atoms.now = omega (arith, h) in g) c.index-atoms-from.is n)

pub returns-in-Zero-clause-values : goal.returns-in-Zero-clause-values
returns-in-Zero-clause-values t c =
    let n : c.index-atoms-from.result.sign ≡ NotZero → ⊥ = λ e. (let f : Zero ≡ NotZero = sym c.in-Zero.is ∙ e in cc f) in
    subst (λ (fs : List Form). FoundMeets c.in_ok-rest-in-Zero.rest (seen_all c.args.list.now) fs) (no_disequality c.args.atoms.now c.args.from c.index-atoms-from.result (let h = c.if-from-atoms.false in let g : c.args.from < length c.args.atoms.now = omega (arith, h) in g) c.index-atoms-from.is n) c.in_ok-rest-in-Zero.ensures.values

pub at_most_of-requires-clause-fit : goal.at_most_of-requires-clause-fit
at_most_of-requires-clause-fit t c = (fit_at c.args.atoms.now c.args.from c.index-atoms-from.result c.requires.fit (let h = c.if-from-atoms.false in let g : c.args.from < length c.args.atoms.now = omega (arith, h) in g) c.index-atoms-from.is)

pub at_least_of-requires-clause-fit : goal.at_least_of-requires-clause-fit
at_least_of-requires-clause-fit t c = (fit_at c.args.atoms.now c.args.from c.index-atoms-from.result c.requires.fit (let h = c.if-from-atoms.false in let g : c.args.from < length c.args.atoms.now = omega (arith, h) in g) c.index-atoms-from.is)

pub at_least_of-requires-in-Undecided-clause-fit : goal.at_least_of-requires-in-Undecided-clause-fit
at_least_of-requires-in-Undecided-clause-fit t c = (fit_at c.args.atoms.now c.args.from c.index-atoms-from.result c.requires.fit (let h = c.if-from-atoms.false in let g : c.args.from < length c.args.atoms.now = omega (arith, h) in g) c.index-atoms-from.is)

pub tried_of-requires-in-NotZero : goal.tried_of-requires-in-NotZero
tried_of-requires-in-NotZero t c =
    let b : seen_all c.deref.result.now ≡ at_most (seen_form c.index-atoms-from.result) (negsuc 0) ∷ seen_all c.args.list.now =
    ap seen_all c.deref.ensures.value ∙ c.in_ok-below-in-NotZero.ensures ∙ ap (λ (i : plain.Inequality). i ∷ seen_all c.args.list.now) c.in_ok-at_most_of-in-NotZero.ensures in
    (search rules, (c.requires.places, (c.requires.within, (subst (λ (l : List plain.Inequality). SafeAll l) (sym b) (safe_at_most (seen_form c.index-atoms-from.result) (negsuc 0) (fit_at c.args.atoms.now c.args.from c.index-atoms-from.result c.requires.fit (let h = c.if-from-atoms.false in let g : c.args.from < length c.args.atoms.now = omega (arith, h) in g) c.index-atoms-from.is), c.requires.safe), (c.requires.fit, subst (λ (l : List plain.Inequality). BoundedWith (seen_atoms c.args.atoms.now) l) (sym b) (bounded_at_most c.args.atoms.now c.args.from c.index-atoms-from.result (negsuc 0) (seen_all c.args.list.now) (let h = c.if-from-atoms.false in let g : c.args.from < length c.args.atoms.now = omega (arith, h) in g) c.index-atoms-from.is c.requires.bounded))))))

pub returns-in-Beyond-clause-count : goal.returns-in-Beyond-clause-count
returns-in-Beyond-clause-count t c =
    let b : seen_all c.deref.result.now ≡ at_most (seen_form c.index-atoms-from.result) (negsuc 0) ∷ seen_all c.args.list.now =
    ap seen_all c.deref.ensures.value ∙ c.in_ok-below-in-NotZero.ensures ∙ ap (λ (i : plain.Inequality). i ∷ seen_all c.args.list.now) c.in_ok-at_most_of-in-NotZero.ensures in
    let u : beyond ≡ tried_count c.args.used c.args.budget (tried c.args.n (at_most (seen_form c.index-atoms-from.result) (negsuc 0) ∷ seen_all c.args.list.now) (disequalities (seen_atoms (drop (c.args.from + 1) c.args.atoms.now)))) =
    sym (ap seen_tried c.in-Beyond.is) ∙ c.in_ok-tried_of-in-NotZero.ensures.count ∙ ap (λ (l : List plain.Inequality). tried_count c.args.used c.args.budget (tried c.args.n l (disequalities (seen_atoms (drop (c.args.from + 1) c.args.atoms.now))))) b in
    sides_beyond c.args.used c.args.budget c.args.n (seen_all c.args.list.now) (seen_form c.index-atoms-from.result) (disequalities (seen_atoms (drop (c.args.from + 1) c.args.atoms.now))) u ∙ ap (λ (fs : List Form). tried_count c.args.used c.args.budget (tried c.args.n (seen_all c.args.list.now) fs)) (one_disequality c.args.atoms.now c.args.from c.index-atoms-from.result (let h = c.if-from-atoms.false in let g : c.args.from < length c.args.atoms.now = omega (arith, h) in g) c.index-atoms-from.is c.in-NotZero.is)

pub returns-in-Found-clause-count : goal.returns-in-Found-clause-count
returns-in-Found-clause-count t c =
    let b : seen_all c.deref.result.now ≡ at_most (seen_form c.index-atoms-from.result) (negsuc 0) ∷ seen_all c.args.list.now =
    ap seen_all c.deref.ensures.value ∙ c.in_ok-below-in-NotZero.ensures ∙ ap (λ (i : plain.Inequality). i ∷ seen_all c.args.list.now) c.in_ok-at_most_of-in-NotZero.ensures in
    let u : within (found c.in-Found.spent) ≡ tried_count c.args.used c.args.budget (tried c.args.n (at_most (seen_form c.index-atoms-from.result) (negsuc 0) ∷ seen_all c.args.list.now) (disequalities (seen_atoms (drop (c.args.from + 1) c.args.atoms.now)))) =
    sym (ap seen_tried c.in-Found.is) ∙ c.in_ok-tried_of-in-NotZero.ensures.count ∙ ap (λ (l : List plain.Inequality). tried_count c.args.used c.args.budget (tried c.args.n l (disequalities (seen_atoms (drop (c.args.from + 1) c.args.atoms.now))))) b in
    sides_found c.args.used c.args.budget c.args.n (seen_all c.args.list.now) (seen_form c.index-atoms-from.result) (disequalities (seen_atoms (drop (c.args.from + 1) c.args.atoms.now))) c.in-Found.spent u ∙ ap (λ (fs : List Form). tried_count c.args.used c.args.budget (tried c.args.n (seen_all c.args.list.now) fs)) (one_disequality c.args.atoms.now c.args.from c.index-atoms-from.result (let h = c.if-from-atoms.false in let g : c.args.from < length c.args.atoms.now = omega (arith, h) in g) c.index-atoms-from.is c.in-NotZero.is)

pub returns-in-Found-clause-values : goal.returns-in-Found-clause-values
returns-in-Found-clause-values t c =
    let b : seen_all c.deref.result.now ≡ at_most (seen_form c.index-atoms-from.result) (negsuc 0) ∷ seen_all c.args.list.now =
    ap seen_all c.deref.ensures.value ∙ c.in_ok-below-in-NotZero.ensures ∙ ap (λ (i : plain.Inequality). i ∷ seen_all c.args.list.now) c.in_ok-at_most_of-in-NotZero.ensures in
    let m : FoundMeets c.in_ok-tried_of-in-NotZero.field-0 (at_most (seen_form c.index-atoms-from.result) (negsuc 0) ∷ seen_all c.args.list.now) (disequalities (seen_atoms (drop (c.args.from + 1) c.args.atoms.now))) =
    subst (λ (l : List plain.Inequality). FoundMeets c.in_ok-tried_of-in-NotZero.field-0 l (disequalities (seen_atoms (drop (c.args.from + 1) c.args.atoms.now)))) b c.in_ok-tried_of-in-NotZero.ensures.values in
    let n = subst (λ (fs : List Form). FoundMeets c.in_ok-tried_of-in-NotZero.field-0 (seen_all c.args.list.now) fs) (one_disequality c.args.atoms.now c.args.from c.index-atoms-from.result (let h = c.if-from-atoms.false in let g : c.args.from < length c.args.atoms.now = omega (arith, h) in g) c.index-atoms-from.is c.in-NotZero.is) (under_meets c.in_ok-tried_of-in-NotZero.field-0 (seen_all c.args.list.now) (seen_form c.index-atoms-from.result) (disequalities (seen_atoms (drop (c.args.from + 1) c.args.atoms.now))) m) in
    subst (λ (r : Tried). FoundMeets r (seen_all c.args.list.now) (disequalities (seen_atoms (drop c.args.from c.args.atoms.now)))) c.in-Found.is n

pub tried_of-requires-in-Closed : goal.tried_of-requires-in-Closed
tried_of-requires-in-Closed t c =
    let b : seen_all c.deref.result.now ≡ at_most (seen_form c.index-atoms-from.result) (negsuc 0) ∷ seen_all c.args.list.now =
    ap seen_all c.deref.ensures.value ∙ c.in_ok-below-in-NotZero.ensures ∙ ap (λ (i : plain.Inequality). i ∷ seen_all c.args.list.now) c.in_ok-at_most_of-in-NotZero.ensures in
    let a : seen_all c.deref-in-Closed.result.now ≡ at_least (seen_form c.index-atoms-from.result) (pos 1) ∷ seen_all c.args.list.now =
    ap seen_all c.deref-in-Closed.ensures.value ∙ c.in_ok-above-in-Closed.ensures ∙ ap (λ (i : plain.Inequality). i ∷ seen_all c.args.list.now) c.in_ok-at_least_of-in-Closed.ensures in
    let u : within (closed c.in-Closed.spent) ≡ tried_count c.args.used c.args.budget (tried c.args.n (at_most (seen_form c.index-atoms-from.result) (negsuc 0) ∷ seen_all c.args.list.now) (disequalities (seen_atoms (drop (c.args.from + 1) c.args.atoms.now)))) =
    sym (ap seen_tried c.in-Closed.is) ∙ c.in_ok-tried_of-in-NotZero.ensures.count ∙ ap (λ (l : List plain.Inequality). tried_count c.args.used c.args.budget (tried c.args.n l (disequalities (seen_atoms (drop (c.args.from + 1) c.args.atoms.now))))) b in
    (search rules, (c.requires.places, (closed_within c.args.used c.args.budget c.in-Closed.spent (tried c.args.n (at_most (seen_form c.index-atoms-from.result) (negsuc 0) ∷ seen_all c.args.list.now) (disequalities (seen_atoms (drop (c.args.from + 1) c.args.atoms.now)))) u, (subst (λ (l : List plain.Inequality). SafeAll l) (sym a) (safe_at_least (seen_form c.index-atoms-from.result) (pos 1) (fit_at c.args.atoms.now c.args.from c.index-atoms-from.result c.requires.fit (let h = c.if-from-atoms.false in let g : c.args.from < length c.args.atoms.now = omega (arith, h) in g) c.index-atoms-from.is), c.requires.safe), (c.requires.fit, subst (λ (l : List plain.Inequality). BoundedWith (seen_atoms c.args.atoms.now) l) (sym a) (bounded_at_least c.args.atoms.now c.args.from c.index-atoms-from.result (pos 1) (seen_all c.args.list.now) (let h = c.if-from-atoms.false in let g : c.args.from < length c.args.atoms.now = omega (arith, h) in g) c.index-atoms-from.is c.requires.bounded))))))

pub returns-in-Closed-clause-count : goal.returns-in-Closed-clause-count
returns-in-Closed-clause-count t c =
    let b : seen_all c.deref.result.now ≡ at_most (seen_form c.index-atoms-from.result) (negsuc 0) ∷ seen_all c.args.list.now =
    ap seen_all c.deref.ensures.value ∙ c.in_ok-below-in-NotZero.ensures ∙ ap (λ (i : plain.Inequality). i ∷ seen_all c.args.list.now) c.in_ok-at_most_of-in-NotZero.ensures in
    let a : seen_all c.deref-in-Closed.result.now ≡ at_least (seen_form c.index-atoms-from.result) (pos 1) ∷ seen_all c.args.list.now =
    ap seen_all c.deref-in-Closed.ensures.value ∙ c.in_ok-above-in-Closed.ensures ∙ ap (λ (i : plain.Inequality). i ∷ seen_all c.args.list.now) c.in_ok-at_least_of-in-Closed.ensures in
    let u : within (closed c.in-Closed.spent) ≡ tried_count c.args.used c.args.budget (tried c.args.n (at_most (seen_form c.index-atoms-from.result) (negsuc 0) ∷ seen_all c.args.list.now) (disequalities (seen_atoms (drop (c.args.from + 1) c.args.atoms.now)))) =
    sym (ap seen_tried c.in-Closed.is) ∙ c.in_ok-tried_of-in-NotZero.ensures.count ∙ ap (λ (l : List plain.Inequality). tried_count c.args.used c.args.budget (tried c.args.n l (disequalities (seen_atoms (drop (c.args.from + 1) c.args.atoms.now))))) b in
    let r : seen_tried c.in_ok-over-in-Closed.over ≡ tried_count c.in-Closed.spent c.args.budget (tried c.args.n (at_least (seen_form c.index-atoms-from.result) (pos 1) ∷ seen_all c.args.list.now) (disequalities (seen_atoms (drop (c.args.from + 1) c.args.atoms.now)))) =
    c.in_ok-over-in-Closed.ensures.count ∙ ap (λ (l : List plain.Inequality). tried_count c.in-Closed.spent c.args.budget (tried c.args.n l (disequalities (seen_atoms (drop (c.args.from + 1) c.args.atoms.now))))) a in
    sides_closed c.args.used c.args.budget c.args.n (seen_all c.args.list.now) (seen_form c.index-atoms-from.result) (disequalities (seen_atoms (drop (c.args.from + 1) c.args.atoms.now))) c.in-Closed.spent (seen_tried c.in_ok-over-in-Closed.over) u r ∙ ap (λ (fs : List Form). tried_count c.args.used c.args.budget (tried c.args.n (seen_all c.args.list.now) fs)) (one_disequality c.args.atoms.now c.args.from c.index-atoms-from.result (let h = c.if-from-atoms.false in let g : c.args.from < length c.args.atoms.now = omega (arith, h) in g) c.index-atoms-from.is c.in-NotZero.is)

pub returns-in-Closed-clause-values : goal.returns-in-Closed-clause-values
returns-in-Closed-clause-values t c =
    let a : seen_all c.deref-in-Closed.result.now ≡ at_least (seen_form c.index-atoms-from.result) (pos 1) ∷ seen_all c.args.list.now =
    ap seen_all c.deref-in-Closed.ensures.value ∙ c.in_ok-above-in-Closed.ensures ∙ ap (λ (i : plain.Inequality). i ∷ seen_all c.args.list.now) c.in_ok-at_least_of-in-Closed.ensures in
    let m : FoundMeets c.in_ok-over-in-Closed.over (at_least (seen_form c.index-atoms-from.result) (pos 1) ∷ seen_all c.args.list.now) (disequalities (seen_atoms (drop (c.args.from + 1) c.args.atoms.now))) =
    subst (λ (l : List plain.Inequality). FoundMeets c.in_ok-over-in-Closed.over l (disequalities (seen_atoms (drop (c.args.from + 1) c.args.atoms.now)))) a c.in_ok-over-in-Closed.ensures.values in
    let n = subst (λ (fs : List Form). FoundMeets c.in_ok-over-in-Closed.over (seen_all c.args.list.now) fs) (one_disequality c.args.atoms.now c.args.from c.index-atoms-from.result (let h = c.if-from-atoms.false in let g : c.args.from < length c.args.atoms.now = omega (arith, h) in g) c.index-atoms-from.is c.in-NotZero.is) (over_meets c.in_ok-over-in-Closed.over (seen_all c.args.list.now) (seen_form c.index-atoms-from.result) (disequalities (seen_atoms (drop (c.args.from + 1) c.args.atoms.now))) m) in
    n

pub tried_of-requires-in-Undecided : goal.tried_of-requires-in-Undecided
tried_of-requires-in-Undecided t c =
    let b : seen_all c.deref.result.now ≡ at_most (seen_form c.index-atoms-from.result) (negsuc 0) ∷ seen_all c.args.list.now =
    ap seen_all c.deref.ensures.value ∙ c.in_ok-below-in-NotZero.ensures ∙ ap (λ (i : plain.Inequality). i ∷ seen_all c.args.list.now) c.in_ok-at_most_of-in-NotZero.ensures in
    let a : seen_all c.deref-in-Undecided.result.now ≡ at_least (seen_form c.index-atoms-from.result) (pos 1) ∷ seen_all c.args.list.now =
    ap seen_all c.deref-in-Undecided.ensures.value ∙ c.in_ok-above-in-Undecided.ensures ∙ ap (λ (i : plain.Inequality). i ∷ seen_all c.args.list.now) c.in_ok-at_least_of-in-Undecided.ensures in
    let u : within (open_choice c.in-Undecided.spent) ≡ tried_count c.args.used c.args.budget (tried c.args.n (at_most (seen_form c.index-atoms-from.result) (negsuc 0) ∷ seen_all c.args.list.now) (disequalities (seen_atoms (drop (c.args.from + 1) c.args.atoms.now)))) =
    sym (ap seen_tried c.in-Undecided.is) ∙ c.in_ok-tried_of-in-NotZero.ensures.count ∙ ap (λ (l : List plain.Inequality). tried_count c.args.used c.args.budget (tried c.args.n l (disequalities (seen_atoms (drop (c.args.from + 1) c.args.atoms.now))))) b in
    (search rules, (c.requires.places, (open_within c.args.used c.args.budget c.in-Undecided.spent (tried c.args.n (at_most (seen_form c.index-atoms-from.result) (negsuc 0) ∷ seen_all c.args.list.now) (disequalities (seen_atoms (drop (c.args.from + 1) c.args.atoms.now)))) u, (subst (λ (l : List plain.Inequality). SafeAll l) (sym a) (safe_at_least (seen_form c.index-atoms-from.result) (pos 1) (fit_at c.args.atoms.now c.args.from c.index-atoms-from.result c.requires.fit (let h = c.if-from-atoms.false in let g : c.args.from < length c.args.atoms.now = omega (arith, h) in g) c.index-atoms-from.is), c.requires.safe), (c.requires.fit, subst (λ (l : List plain.Inequality). BoundedWith (seen_atoms c.args.atoms.now) l) (sym a) (bounded_at_least c.args.atoms.now c.args.from c.index-atoms-from.result (pos 1) (seen_all c.args.list.now) (let h = c.if-from-atoms.false in let g : c.args.from < length c.args.atoms.now = omega (arith, h) in g) c.index-atoms-from.is c.requires.bounded))))))

pub returns-clause-count : goal.returns-clause-count
returns-clause-count t c =
    let b : seen_all c.deref.result.now ≡ at_most (seen_form c.index-atoms-from.result) (negsuc 0) ∷ seen_all c.args.list.now =
    ap seen_all c.deref.ensures.value ∙ c.in_ok-below-in-NotZero.ensures ∙ ap (λ (i : plain.Inequality). i ∷ seen_all c.args.list.now) c.in_ok-at_most_of-in-NotZero.ensures in
    let a : seen_all c.deref-in-Undecided.result.now ≡ at_least (seen_form c.index-atoms-from.result) (pos 1) ∷ seen_all c.args.list.now =
    ap seen_all c.deref-in-Undecided.ensures.value ∙ c.in_ok-above-in-Undecided.ensures ∙ ap (λ (i : plain.Inequality). i ∷ seen_all c.args.list.now) c.in_ok-at_least_of-in-Undecided.ensures in
    let u : within (open_choice c.in-Undecided.spent) ≡ tried_count c.args.used c.args.budget (tried c.args.n (at_most (seen_form c.index-atoms-from.result) (negsuc 0) ∷ seen_all c.args.list.now) (disequalities (seen_atoms (drop (c.args.from + 1) c.args.atoms.now)))) =
    sym (ap seen_tried c.in-Undecided.is) ∙ c.in_ok-tried_of-in-NotZero.ensures.count ∙ ap (λ (l : List plain.Inequality). tried_count c.args.used c.args.budget (tried c.args.n l (disequalities (seen_atoms (drop (c.args.from + 1) c.args.atoms.now))))) b in
    let r : seen_tried c.in_ok-over-in-Undecided.over ≡ tried_count c.in-Undecided.spent c.args.budget (tried c.args.n (at_least (seen_form c.index-atoms-from.result) (pos 1) ∷ seen_all c.args.list.now) (disequalities (seen_atoms (drop (c.args.from + 1) c.args.atoms.now)))) =
    c.in_ok-over-in-Undecided.ensures.count ∙ ap (λ (l : List plain.Inequality). tried_count c.in-Undecided.spent c.args.budget (tried c.args.n l (disequalities (seen_atoms (drop (c.args.from + 1) c.args.atoms.now))))) a in
    c.unclosed.ensures.count ∙ sides_open c.args.used c.args.budget c.args.n (seen_all c.args.list.now) (seen_form c.index-atoms-from.result) (disequalities (seen_atoms (drop (c.args.from + 1) c.args.atoms.now))) c.in-Undecided.spent (seen_tried c.in_ok-over-in-Undecided.over) u r ∙ ap (λ (fs : List Form). tried_count c.args.used c.args.budget (tried c.args.n (seen_all c.args.list.now) fs)) (one_disequality c.args.atoms.now c.args.from c.index-atoms-from.result (let h = c.if-from-atoms.false in let g : c.args.from < length c.args.atoms.now = omega (arith, h) in g) c.index-atoms-from.is c.in-NotZero.is)

pub returns-clause-values : goal.returns-clause-values
returns-clause-values t c =
    let a : seen_all c.deref-in-Undecided.result.now ≡ at_least (seen_form c.index-atoms-from.result) (pos 1) ∷ seen_all c.args.list.now =
    ap seen_all c.deref-in-Undecided.ensures.value ∙ c.in_ok-above-in-Undecided.ensures ∙ ap (λ (i : plain.Inequality). i ∷ seen_all c.args.list.now) c.in_ok-at_least_of-in-Undecided.ensures in
    let m : FoundMeets c.in_ok-over-in-Undecided.over (at_least (seen_form c.index-atoms-from.result) (pos 1) ∷ seen_all c.args.list.now) (disequalities (seen_atoms (drop (c.args.from + 1) c.args.atoms.now))) =
    subst (λ (l : List plain.Inequality). FoundMeets c.in_ok-over-in-Undecided.over l (disequalities (seen_atoms (drop (c.args.from + 1) c.args.atoms.now)))) a c.in_ok-over-in-Undecided.ensures.values in
    let n = subst (λ (fs : List Form). FoundMeets c.in_ok-over-in-Undecided.over (seen_all c.args.list.now) fs) (one_disequality c.args.atoms.now c.args.from c.index-atoms-from.result (let h = c.if-from-atoms.false in let g : c.args.from < length c.args.atoms.now = omega (arith, h) in g) c.index-atoms-from.is c.in-NotZero.is) (over_meets c.in_ok-over-in-Undecided.over (seen_all c.args.list.now) (seen_form c.index-atoms-from.result) (disequalities (seen_atoms (drop (c.args.from + 1) c.args.atoms.now))) m) in
    c.unclosed.ensures.values (seen_all c.args.list.now) (disequalities (seen_atoms (drop c.args.from c.args.atoms.now))) n
