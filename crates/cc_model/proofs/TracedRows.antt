-- Traced runs of small programs, computed, with forms that are sums as they are written.
use Rattle.std.proofs.Common.{◌≡◌, ℕ, zero, suc, ℤ, pos, negsuc, ◌+ℤ◌, ◌-ℤ◌, ◌*ℤ◌, neg_ℤ, List, [], ◌∷◌, ◌++◌, length, map, Some, refl, ap, ◌∙◌}
use Rattle.cc_base.specs.declared.outcomes.Outcome.{Outcome}
use Rattle.cc_base.specs.declared.outcomes.Outcome.TheVariants.{Zero, High, Low, Plain, False, True, Object}
use Rattle.cc_base.specs.declared.inputs.Input.{Input}
use Rattle.cc_base.specs.declared.forms.Multiple.{Multiple}
use Rattle.cc_base.specs.Forms.{Form, nothing, at, Atom, at_most_zero, is_zero, not_zero, same, differ}
use Rattle.cc_base.specs.Limits.{Limits}
use Rattle.cc_model.specs.declared.checked.SiteKind.{SiteKind}
use Rattle.cc_model.specs.declared.checked.SiteKind.TheVariants as on_site
use Rattle.cc_model.specs.declared.terms.TermKind.TheVariants as kind
use Rattle.cc_model.specs.Core as tree
use Rattle.cc_model.specs.Core.{Cell, int_cell, ptr_cell, Program, Stmt, Parts}
use Rattle.cc_model.specs.FormOperations.{Forms}
use Rattle.cc_model.specs.Traced.{Choice, Asked, asks_nothing, one_of, term}
use Rattle.cc_model.specs.Conditions.{clean, terms, events_of}
use Rattle.cc_model.proofs.Compute.{everything}
use Rattle.cc_model.proofs.Computed.{written}
use Rattle.cc_model.proofs.TracedCompute.{traced_everything}
use Rattle.cc_model.proofs.Rows.{Source, program_of, compute_program, computes_program, bounds, input, p2, p3, p5, p8, p9, p10, p12, p13}

-- sums as they are written, never too wide
abbrev as_written : Forms
as_written = record {
  number = λ z. record { constant = z; terms = [] };
  of = λ p. record { constant = pos 0; terms = record { place = p; coefficient = pos 1 } ∷ [] };
  sum = λ a b. Some (record { constant = a.constant +ℤ b.constant; terms = a.terms ++ b.terms });
  difference = λ a b. Some (record { constant = a.constant -ℤ b.constant; terms = a.terms ++ map (λ t. record { place = t.place; coefficient = neg_ℤ t.coefficient }) b.terms });
  scale = λ k a. Some (record { constant = k *ℤ a.constant; terms = map (λ t. record { place = t.place; coefficient = k *ℤ t.coefficient }) a.terms });
  shift = λ a z. record { constant = a.constant +ℤ z; terms = a.terms };
  opposite = λ a. record { constant = neg_ℤ a.constant; terms = map (λ t. record { place = t.place; coefficient = neg_ℤ t.coefficient }) a.terms };
}

-- what is seen of an event: its outcome, what it asks, and how many places stood before it
record Ask : Type 0 where
  outcome : Outcome
  asked : Asked
  places : ℕ

asks : Program → Limits → Input → List Ask
asks p b h = map (λ a. record { outcome = (a.event).outcome; asked = (a.event).asked; places = length (a.event).places }) (events_of as_written p b h)

-- the kind and the line of a site
record At : Type 0 where
  kind : SiteKind
  line : ℕ

abbrev site : SiteKind → ℕ → At
site k n = record { kind = k; line = n }

sites : Program → Limits → Input → List At
sites p b h = map (λ a. site a.kind (p.line a.token)) (events_of as_written p b h)

row : (s : Source) (b : Limits) (h : Input) (r : List Ask) → asks (compute_program s) b h ≡ r → asks (program_of s) b h ≡ r
row s b h r e = ap (λ p. asks p b h) (computes_program s) ∙ e

-- a constant and multiples of places
abbrev sum : ℤ → List Multiple → Form
sum z l = record { constant = z; terms = l }

abbrev of : ℤ → ℕ → Multiple
of k p = record { place = p; coefficient = k }

abbrev on : Outcome → List Atom → Choice
on o l = record { outcome = o; atoms = l }

abbrev quiet : Outcome → ℕ → Ask
quiet o n = record { outcome = o; asked = asks_nothing; places = n }

-- a sum that has to fit
abbrev fit : Outcome → ℤ → ℤ → ℤ → ℤ → List Multiple → List Multiple → ℕ → Ask
fit o high low top bottom l m n = record {
  outcome = o;
  asked = one_of (on High (at_most_zero (sum high m) ∷ []) ∷ on Low (at_most_zero (sum low l) ∷ []) ∷ on Plain (at_most_zero (sum top l) ∷ at_most_zero (sum bottom m) ∷ []) ∷ []);
  places = n;
}

abbrev decide : Outcome → Atom → Atom → ℕ → Ask
decide o f t n = record { outcome = o; asked = one_of (on False (f ∷ []) ∷ on True (t ∷ []) ∷ []); places = n }

-- x + 1 fits
p2_asks : asks (program_of p2) (bounds 10 8 1000) (input (pos 0 ∷ []) []) ≡
    fit Plain (pos 2147483647) (pos 2147483650) (negsuc 2147483645) (negsuc 2147483648) (of (pos 1) 0 ∷ []) (of (negsuc 0) 0 ∷ []) 1 ∷ []
unfolding everything traced_everything written asks bounds compute_program p2
p2_asks = row p2 (bounds 10 8 1000) (input (pos 0 ∷ []) []) _ refl

-- NULL, or the first block
p5_null : asks (program_of p5) (bounds 10 8 1000) (input (pos 0 ∷ pos 0 ∷ []) []) ≡
    record { outcome = Zero; asked = one_of (on Zero (same (at 0) nothing ∷ []) ∷ on (Object 0) (differ (at 0) nothing ∷ []) ∷ []); places = 2 } ∷ []
unfolding everything traced_everything written asks bounds compute_program p5
p5_null = row p5 (bounds 10 8 1000) (input (pos 0 ∷ pos 0 ∷ []) []) _ refl

-- then NULL, the first block, or another one
abbrev p5_second : Outcome → Ask
p5_second o = record {
  outcome = o;
  asked = one_of (on Zero (same (at 1) nothing ∷ []) ∷ on (Object 0) (same (at 1) (at 0) ∷ []) ∷ on (Object 1) (differ (at 1) nothing ∷ differ (at 1) (at 0) ∷ []) ∷ []);
  places = 4;
}

abbrev p5_first : Ask
p5_first = record { outcome = Object 0; asked = one_of (on Zero (same (at 0) nothing ∷ []) ∷ on (Object 0) (differ (at 0) nothing ∷ []) ∷ []); places = 2 }

p5_second_null : asks (program_of p5) (bounds 10 8 1000) (input (pos 3 ∷ pos 0 ∷ pos 0 ∷ pos 0 ∷ []) []) ≡ p5_first ∷ p5_second Zero ∷ []
unfolding everything traced_everything written asks bounds compute_program p5
p5_second_null = row p5 (bounds 10 8 1000) (input (pos 3 ∷ pos 0 ∷ pos 0 ∷ pos 0 ∷ []) []) _ refl

-- both name one block: its first place and its written cell ask nothing
p5_same : asks (program_of p5) (bounds 10 8 1000) (input (pos 3 ∷ pos 3 ∷ pos 0 ∷ pos 0 ∷ []) []) ≡ p5_first ∷ p5_second (Object 0) ∷ quiet (Object 0) 4 ∷ quiet False 4 ∷ []
unfolding everything traced_everything written asks bounds compute_program p5
p5_same = row p5 (bounds 10 8 1000) (input (pos 3 ∷ pos 3 ∷ pos 0 ∷ pos 0 ∷ []) []) _ refl

-- a link that leads back to its own cell
p3_abort : asks (program_of p3) (bounds 10 8 1000) (input (pos 3 ∷ pos 1 ∷ pos 3 ∷ pos 3 ∷ []) []) ≡
    decide True (at_most_zero (sum (pos 0) (of (pos 1) 1 ∷ []))) (at_most_zero (sum (pos 1) (of (negsuc 0) 1 ∷ []))) 2
    ∷ decide True (same (at 0) nothing) (differ (at 0) nothing) 2
    ∷ fit Plain (pos 2147483648) (pos 2147483649) (negsuc 2147483646) (negsuc 2147483647) (of (pos 2) 1 ∷ []) (of (negsuc 1) 1 ∷ []) 2
    ∷ fit Plain (pos 2147483647) (pos 2147483650) (negsuc 2147483645) (negsuc 2147483648) (of (pos 2) 1 ∷ []) (of (negsuc 1) 1 ∷ []) 2
    ∷ p5_first
    ∷ decide True (not_zero (sum (pos 1) (of (pos 2) 1 ∷ of (negsuc 0) 2 ∷ []))) (is_zero (sum (pos 1) (of (pos 2) 1 ∷ of (negsuc 0) 2 ∷ []))) 4
    ∷ quiet (Object 0) 4
    ∷ decide True (differ (at 3) (at 0)) (same (at 3) (at 0)) 4
    ∷ []
unfolding everything traced_everything written asks bounds compute_program p3
p3_abort = row p3 (bounds 10 8 1000) (input (pos 3 ∷ pos 1 ∷ pos 3 ∷ pos 3 ∷ []) []) _ refl

-- the kinds and the lines of its sites
p3_sites : sites (program_of p3) (bounds 10 8 1000) (input (pos 3 ∷ pos 1 ∷ pos 3 ∷ pos 3 ∷ []) []) ≡
    site on_site.Decision 5 ∷ site on_site.Decision 6 ∷ site on_site.Fit 3 ∷ site on_site.Fit 3 ∷ site on_site.Access 7 ∷ site on_site.Decision 7 ∷ site on_site.Access 8 ∷ site on_site.Decision 8 ∷ []
unfolding everything traced_everything written sites bounds compute_program p3
p3_sites = ap (λ p. sites p (bounds 10 8 1000) (input (pos 3 ∷ pos 1 ∷ pos 3 ∷ pos 3 ∷ []) [])) (computes_program p3) ∙ refl

abbrev concretised : Outcome → Asked → ℕ → Ask
concretised o a n = record { outcome = o; asked = a; places = n }

-- a quotient is one term from its divisor event on
p9_quotient : asks (program_of p9) (bounds 10 8 1000) (input (negsuc 2147483647 ∷ negsuc 0 ∷ []) []) ≡ concretised Plain (term kind.Quotient) 2 ∷ concretised High (term kind.Quotient) 2 ∷ []
unfolding everything traced_everything written asks bounds compute_program p9
p9_quotient = row p9 (bounds 10 8 1000) (input (negsuc 2147483647 ∷ negsuc 0 ∷ []) []) _ refl

p9_divide : asks (program_of p9) (bounds 10 8 1000) (input (pos 7 ∷ pos 0 ∷ []) []) ≡ concretised Zero (term kind.Quotient) 2 ∷ []
unfolding everything traced_everything written asks bounds compute_program p9
p9_divide = row p9 (bounds 10 8 1000) (input (pos 7 ∷ pos 0 ∷ []) []) _ refl

p10_steps : asks (program_of p10) (bounds 5 8 1000) (input (pos 0 ∷ []) []) ≡ []
unfolding everything traced_everything written asks bounds compute_program p10
p10_steps = row p10 (bounds 5 8 1000) (input (pos 0 ∷ []) []) _ refl

p8_steps : asks (program_of p8) (bounds 5 8 3) (input (pos 3 ∷ []) []) ≡ decide True (not_zero (sum (negsuc 2) (of (pos 1) 0 ∷ []))) (is_zero (sum (negsuc 2) (of (pos 1) 0 ∷ []))) 1 ∷ []
unfolding everything traced_everything written asks bounds compute_program p8
p8_steps = row p8 (bounds 5 8 3) (input (pos 3 ∷ []) []) _ refl

-- a number of the stream has its place
p12_taken : asks (program_of p12) (bounds 5 8 1000) (input [] (pos 11 ∷ [])) ≡
    decide True (at_most_zero (sum (negsuc 9) (of (pos 1) 0 ∷ []))) (at_most_zero (sum (pos 11) (of (negsuc 0) 0 ∷ []))) 1 ∷ []
unfolding everything traced_everything written asks bounds compute_program p12
p12_taken = row p12 (bounds 5 8 1000) (input [] (pos 11 ∷ [])) _ refl

-- behind the stream's end stands the base value
p12_base : asks (program_of p12) (record (bounds 5 8 1000) { lo = pos 11; hi = pos 12 }) (input [] []) ≡
    decide True (at_most_zero (sum (negsuc 9) (of (pos 1) 0 ∷ []))) (at_most_zero (sum (pos 11) (of (negsuc 0) 0 ∷ []))) 1 ∷ []
unfolding everything traced_everything written asks bounds compute_program p12
p12_base = row p12 (record (bounds 5 8 1000) { lo = pos 11; hi = pos 12 }) (input [] []) _ refl

p13_index : asks (program_of p13) (bounds 5 8 1000) (input (pos 2 ∷ []) []) ≡ concretised High (term kind.Index) 1 ∷ []
unfolding everything traced_everything written asks bounds compute_program p13
p13_index = row p13 (bounds 5 8 1000) (input (pos 2 ∷ []) []) _ refl

-- ---- programs as they are resolved

-- a function of these parameters
unfoldable program : List Cell → (ℕ → List Cell) → Parts → Program
program cs layouts body = record { funcs = record { params = cs; result = int_cell; body = body } ∷ []; line = λ t. 1; layouts = layouts; globals = []; entry = 0 }

abbrev ints : ℕ → List Cell
ints n = int_cell ∷ []

abbrev slot : ℕ → tree.Val
slot n = tree.read (tree.local n)

abbrev test : tree.Cond → Parts
test c = tree.then (tree.choice c tree.empty) tree.finish

-- if (x*x == 49) abort();
unfoldable p6 : Program
p6 = program (int_cell ∷ []) ints (tree.then (tree.choice (tree.compare 13 tree.eq (tree.arith 11 tree.mul (slot 0) (slot 0)) (tree.number (pos 49))) (tree.simple (tree.abort 16))) tree.finish)

p6_product : asks p6 (bounds 5 8 1000) (input (pos 0 ∷ []) []) ≡ concretised Plain (term kind.Product) 1 ∷ quiet False 1 ∷ []
unfolding everything traced_everything asks bounds program p6
p6_product = refl

p6_clean : clean (events_of as_written p6 (bounds 5 8 1000) (input (pos 0 ∷ []) [])) ≡ 0
unfolding everything traced_everything bounds program p6
p6_clean = refl

p6_terms : terms (λ t. 1) (λ t. t) (events_of as_written p6 (bounds 5 8 1000) (input (pos 0 ∷ []) [])) ≡ record { line = 1; col = 11; kind = kind.Product } ∷ []
unfolding everything traced_everything bounds program p6
p6_terms = refl

-- if (x - x); the operands depend on the input, and so the event asks
unfoldable no_difference : Program
no_difference = program (int_cell ∷ []) ints (test (tree.test 1 (tree.arith 2 tree.sub (slot 0) (slot 0))))

no_difference_asks : asks no_difference (bounds 1 8 1000) (input (pos 5 ∷ []) []) ≡
    fit Plain (pos 2147483648) (pos 2147483649) (negsuc 2147483646) (negsuc 2147483647) (of (pos 1) 0 ∷ of (negsuc 0) 0 ∷ []) (of (negsuc 0) 0 ∷ of (pos 1) 0 ∷ []) 1 ∷ []
unfolding everything traced_everything asks bounds program no_difference
no_difference_asks = refl

-- type 0 is int, type 1 a cell of a list
unfoldable cells : ℕ → List Cell
cells zero = int_cell ∷ []
cells (suc t) = int_cell ∷ ptr_cell 1 ∷ []

-- int f(struct cell *p, int *q) { if (&p->v == q) ; if (q == &p->v) ; if (&*p == p) ; }
unfoldable addresses : Program
addresses = program (ptr_cell 1 ∷ ptr_cell 0 ∷ []) cells
    (tree.then (tree.choice (tree.compare 1 tree.eq (tree.address (tree.arrow 2 (slot 0) 0)) (slot 1)) tree.empty)
    (tree.then (tree.choice (tree.compare 3 tree.eq (slot 1) (tree.address (tree.arrow 4 (slot 0) 0))) tree.empty)
    (tree.then (tree.choice (tree.compare 5 tree.eq (tree.address (tree.deref 6 (slot 0))) (slot 0)) tree.empty) tree.finish)))

-- a pointer to a field at cell 0 has no place; a pointer to the block has the block's first one
addresses_ask : asks addresses (bounds 9 8 1000) (input (pos 3 ∷ pos 5 ∷ pos 0 ∷ pos 0 ∷ pos 0 ∷ []) []) ≡ p5_first ∷ quiet False 4 ∷ quiet (Object 0) 4 ∷ quiet False 4 ∷ quiet (Object 0) 4 ∷ quiet True 4 ∷ []
unfolding everything traced_everything asks bounds program addresses cells
addresses_ask = refl
