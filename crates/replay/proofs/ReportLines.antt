-- The lines of a report are lines of a tests file.
use Rattle.std.proofs.Common.{◌≡◌, ◌∙◌, sym, refl, subst, ℕ, ◌^◌, ◌<◌, pos, negsuc, ◌≤ℤ◌, inl, inr, true, List, [], ◌∷◌, ◌++◌, codes, All, arith, append_assoc}
use Rattle.std.proofs.lemmas.Int.{ints}
use Rattle.std.specs.Fmt.{decimal, signed_decimal}
use Rattle.cc_base.specs.declared.outcomes.Outcome.{Outcome}
use Rattle.cc_base.specs.Inputs.{map_text, test_text}
use Rattle.cc_base.specs.Limits.{Limits, InRange}
use Rattle.cc_base.specs.Outcomes.{byte_of, HasByte}
use Rattle.cc_base.specs.Paths.{Path, path_text}
use Rattle.cc_model.specs.declared.checked.SiteKind.{SiteKind}
use Rattle.cc_model.specs.declared.checked.SiteKind.TheVariants as site
use Rattle.cc_model.specs.declared.terms.TermKind.{TermKind}
use Rattle.cc_model.specs.declared.terms.TermKind.TheVariants as term_kinds
use Rattle.cc_model.specs.Core.{Program}
use Rattle.cc_model.specs.Listing.{Item, test_item, past_item, stray_item, spent_item, unrun_item, Counts}
use Rattle.cc_model.specs.Report.{newline, bounds_line, item_line, kind_text, term_line, incomplete_line}
use Rattle.cc_model.specs.Tested.{Term}
use Rattle.report_words.specs.Cuts.{Lacks}
use Rattle.report_words.specs.Words.{IsNumber}
use Rattle.report_words.proofs.Cutting.{has_none, lacks_append, lacks_by_test}
use Rattle.report_words.proofs.Texts.{lacks_decimal, lacks_path}
use Rattle.replay.specs.declared.line.Line.{Line as Kind}
use Rattle.replay.specs.declared.line.Line.TheVariants as of
use Rattle.replay.specs.Forms.{WordForm, the, named, number, place, path, outcome, term_kind, site_kind, site_text, IsWord, AreWords, IsOther}
use Rattle.replay.specs.Lines.{IsBounds, IsLine, test, past, stray, unrun, other}
use Rattle.replay.specs.ReportFiles.{IsGoodItem, kind_of, IsSmallTerm, AreSmall, AreBounds}
use Rattle.replay.proofs.ReportTexts.{whole_decimal, whole_map, whole_test, whole_signed, whole_more}

-- the text is one line with its newline, of this kind
pub record IsWhole (p : Program) (b : Limits) (text : List ℕ) (kind : Kind) : Type 0 where
  pub line : List ℕ
  pub written : text ≡ line ++ newline
  pub one : Lacks 10 line
  pub is : IsLine p b line kind

-- the text is one line with its newline, which has no test
abbrev pub IsOtherLine : Program → Limits → List ℕ → Type 0
IsOtherLine p b text = IsWhole p b text of.Other

-- ---- words

word_then : (f g : WordForm) (form : List WordForm) (word rest : List ℕ) → Lacks 32 word → IsWord f word → AreWords (g ∷ form) rest → AreWords (f ∷ g ∷ form) (word ++ 32 ∷ rest)
word_then f g form word rest l h k = (word, rest, record { is = refl; first = l }, h, k)

first_then : (w : List ℕ) (g : WordForm) (form : List WordForm) (rest : List ℕ) → has_none 32 w ≡ true → AreWords (g ∷ form) rest → AreWords (the w ∷ g ∷ form) (w ++ 32 ∷ rest)
first_then w g form rest n k = word_then (the w) g form w rest (lacks_by_test 32 w n) refl k

last_of : (f : WordForm) (word : List ℕ) → Lacks 32 word → IsWord f word → AreWords (f ∷ []) word
last_of f word l h = (l, h)

is_number : (n : ℕ) → n < 2 ^ 64 → IsNumber (decimal n) n
is_number n h = record { text = refl; fits = h }

decimal_lacks : (n : ℕ) → n < 2 ^ 64 → Lacks 32 (decimal n)
decimal_lacks n h = lacks_decimal 32 n (inl (omega arith)) h

number_then : (n : ℕ) (g : WordForm) (form : List WordForm) (rest : List ℕ) → n < 2 ^ 64 → AreWords (g ∷ form) rest → AreWords (number ∷ g ∷ form) (decimal n ++ 32 ∷ rest)
number_then n g form rest h k = word_then number g form (decimal n) rest (decimal_lacks n h) (n, is_number n h) k

last_number : (n : ℕ) → n < 2 ^ 64 → AreWords (number ∷ []) (decimal n)
last_number n h = last_of number (decimal n) (decimal_lacks n h) (n, is_number n h)

-- NAME=NUMBER
named_word : (name : List ℕ) (n : ℕ) → n < 2 ^ 64 → IsWord (named name) (name ++ codes "=" ++ decimal n)
named_word name n h = (decimal n, n, refl, is_number n h)

named_lacks : (name : List ℕ) (n : ℕ) → has_none 32 (name ++ codes "=") ≡ true → n < 2 ^ 64 → Lacks 32 (name ++ codes "=" ++ decimal n)
named_lacks name n e h = lacks_append 32 (name ++ codes "=") (decimal n) (lacks_by_test 32 (name ++ codes "=") e) (decimal_lacks n h)

named_then : (name : List ℕ) (n : ℕ) (g : WordForm) (form : List WordForm) (rest : List ℕ) → has_none 32 (name ++ codes "=") ≡ true → n < 2 ^ 64 → AreWords (g ∷ form) rest →
    AreWords (named name ∷ g ∷ form) ((name ++ codes "=" ++ decimal n) ++ 32 ∷ rest)
named_then name n g form rest e h k = word_then (named name) g form (name ++ codes "=" ++ decimal n) rest (named_lacks name n e h) (named_word name n h) k

last_named : (name : List ℕ) (n : ℕ) → has_none 32 (name ++ codes "=") ≡ true → n < 2 ^ 64 → AreWords (named name ∷ []) (name ++ codes "=" ++ decimal n)
last_named name n e h = last_of (named name) (name ++ codes "=" ++ decimal n) (named_lacks name n e h) (named_word name n h)

-- pieces, from the left
five : (a b c d e : List ℕ) → a ++ b ++ c ++ d ++ e ≡ a ++ (b ++ (c ++ (d ++ e)))
five a b c d e = append_assoc (a ++ b ++ c) d e ∙ append_assoc (a ++ b) c (d ++ e) ∙ append_assoc a b (c ++ (d ++ e))

seven : (a b c d e f g : List ℕ) → a ++ b ++ c ++ d ++ e ++ f ++ g ≡ a ++ (b ++ (c ++ (d ++ (e ++ (f ++ g)))))
seven a b c d e f g = append_assoc (a ++ b ++ c ++ d ++ e) f g ∙ append_assoc (a ++ b ++ c ++ d) e (f ++ g) ∙ five a b c d (e ++ (f ++ g))

nine : (a b c d e f g h i : List ℕ) → a ++ b ++ c ++ d ++ e ++ f ++ g ++ h ++ i ≡ a ++ (b ++ (c ++ (d ++ (e ++ (f ++ (g ++ (h ++ i)))))))
nine a b c d e f g h i = append_assoc (a ++ b ++ c ++ d ++ e ++ f ++ g) h i ∙ append_assoc (a ++ b ++ c ++ d ++ e ++ f) g (h ++ i) ∙ seven a b c d e f (g ++ (h ++ i))

-- ---- the lines that hold no input

pub spent_is : (q : Path) → All HasByte q → IsOther (codes "spent " ++ path_text q)
unfolding has_none
spent_is q h = (_, inl refl, first_then (codes "spent") path [] (path_text q) refl (last_of path (path_text q) (lacks_path 32 q (omega arith)) (q, record { text = refl; has = h })))

kind_lacks : (k : TermKind) → Lacks 32 (kind_text k) × Lacks 10 (kind_text k)
unfolding has_none
kind_lacks term_kinds.Product = (lacks_by_test 32 (codes "product") refl, lacks_by_test 10 (codes "product") refl)
kind_lacks term_kinds.Quotient = (lacks_by_test 32 (codes "quotient") refl, lacks_by_test 10 (codes "quotient") refl)
kind_lacks term_kinds.Index = (lacks_by_test 32 (codes "index") refl, lacks_by_test 10 (codes "index") refl)
kind_lacks term_kinds.Wide = (lacks_by_test 32 (codes "wide") refl, lacks_by_test 10 (codes "wide") refl)

place_lacks : (m n : ℕ) → m < 2 ^ 64 → n < 2 ^ 64 → Lacks 32 (decimal m ++ codes ":" ++ decimal n)
unfolding has_none
place_lacks m n h k = lacks_append 32 (decimal m ++ codes ":") (decimal n) (lacks_append 32 (decimal m) (codes ":") (decimal_lacks m h) (lacks_by_test 32 (codes ":") refl)) (decimal_lacks n k)

pub term_is : (m n : ℕ) (k : TermKind) → m < 2 ^ 64 → n < 2 ^ 64 → IsOther (codes "term " ++ decimal m ++ codes ":" ++ decimal n ++ codes " " ++ kind_text k)
unfolding has_none
term_is m n k h i = (
  _,
  inr (inl refl),
  subst (λ t. AreWords (the (codes "term") ∷ place ∷ term_kind ∷ []) (codes "term " ++ t)) (sym (append_assoc (decimal m ++ codes ":" ++ decimal n) (codes " ") (kind_text k)))
      (first_then (codes "term") place (term_kind ∷ []) ((decimal m ++ codes ":" ++ decimal n) ++ 32 ∷ kind_text k) refl
      (word_then place term_kind [] (decimal m ++ codes ":" ++ decimal n) (kind_text k) (place_lacks m n h i) (decimal m, decimal n, m, n, refl, is_number m h, is_number n i)
      (last_of term_kind (kind_text k) (kind_lacks k).0 (k, refl)))),
)

site_lacks : (k : SiteKind) → Lacks 32 (site_text k) × Lacks 10 (site_text k)
unfolding has_none
site_lacks site.Decision = (lacks_by_test 32 (codes "decision") refl, lacks_by_test 10 (codes "decision") refl)
site_lacks site.Fit = (lacks_by_test 32 (codes "fit") refl, lacks_by_test 10 (codes "fit") refl)
site_lacks site.Divisor = (lacks_by_test 32 (codes "divisor") refl, lacks_by_test 10 (codes "divisor") refl)
site_lacks site.Index = (lacks_by_test 32 (codes "index") refl, lacks_by_test 10 (codes "index") refl)
site_lacks site.Access = (lacks_by_test 32 (codes "access") refl, lacks_by_test 10 (codes "access") refl)

outcome_lacks : (m : ℕ) (o : Outcome) → m < 33 → Lacks m (byte_of o ∷ [])
outcome_lacks m o h = lacks_path m (o ∷ []) h

pub event_is : (i : ℕ) (o : Outcome) (n : ℕ) (k : SiteKind) → i < 2 ^ 64 → HasByte o → n < 2 ^ 64 →
    IsOther (codes "event " ++ decimal i ++ codes " " ++ (byte_of o ∷ []) ++ codes " " ++ decimal n ++ codes " " ++ site_text k)
unfolding has_none
event_is i o n k h has l = (
  _,
  inr (inr (inl refl)),
  subst (λ t. AreWords (the (codes "event") ∷ number ∷ outcome ∷ number ∷ site_kind ∷ []) (codes "event " ++ t))
      (sym (seven (decimal i) (codes " ") (byte_of o ∷ []) (codes " ") (decimal n) (codes " ") (site_text k)))
      (first_then (codes "event") number (outcome ∷ number ∷ site_kind ∷ []) _ refl
      (number_then i outcome (number ∷ site_kind ∷ []) _ h
      (word_then outcome number (site_kind ∷ []) (byte_of o ∷ []) _ (outcome_lacks 32 o (omega arith)) (o, has, refl)
      (number_then n site_kind [] (site_text k) l
      (last_of site_kind (site_text k) (site_lacks k).0 (k, refl)))))),
)

pub complete_is : (m n : ℕ) → m < 2 ^ 64 → n < 2 ^ 64 → IsOther (codes "complete paths=" ++ decimal m ++ codes " runs=" ++ decimal n)
unfolding has_none
complete_is m n h k = (
  _,
  inr (inr (inr (inl refl))),
  subst (λ t. AreWords (the (codes "complete") ∷ named (codes "paths") ∷ named (codes "runs") ∷ []) (codes "complete paths=" ++ t))
      (sym (append_assoc (decimal m) (codes " runs=") (decimal n)))
      (first_then (codes "complete") (named (codes "paths")) (named (codes "runs") ∷ []) _ refl
      (named_then (codes "paths") m (named (codes "runs")) [] _ refl h (last_named (codes "runs") n refl k))),
)

pub incomplete_is : (c : Counts) → AreSmall c →
    IsOther (codes "incomplete terms=" ++ decimal c.terms ++ codes " spent=" ++ decimal c.spent ++ codes " steps=" ++ decimal c.steps ++ codes " strays=" ++ decimal c.strays ++ codes " unrun=" ++ decimal c.unrun)
unfolding has_none
incomplete_is c s = (
  _,
  inr (inr (inr (inr (inl refl)))),
  subst (λ t. AreWords (the (codes "incomplete") ∷ named (codes "terms") ∷ named (codes "spent") ∷ named (codes "steps") ∷ named (codes "strays") ∷ named (codes "unrun") ∷ []) (codes "incomplete terms=" ++ t))
      (sym (nine (decimal c.terms) (codes " spent=") (decimal c.spent) (codes " steps=") (decimal c.steps) (codes " strays=") (decimal c.strays) (codes " unrun=") (decimal c.unrun)))
      (first_then (codes "incomplete") (named (codes "terms")) (named (codes "spent") ∷ named (codes "steps") ∷ named (codes "strays") ∷ named (codes "unrun") ∷ []) _ refl
      (named_then (codes "terms") c.terms (named (codes "spent")) (named (codes "steps") ∷ named (codes "strays") ∷ named (codes "unrun") ∷ []) _ refl s.terms
      (named_then (codes "spent") c.spent (named (codes "steps")) (named (codes "strays") ∷ named (codes "unrun") ∷ []) _ refl s.spent
      (named_then (codes "steps") c.steps (named (codes "strays")) (named (codes "unrun") ∷ []) _ refl s.steps
      (named_then (codes "strays") c.strays (named (codes "unrun")) [] _ refl s.strays
      (last_named (codes "unrun") c.unrun refl s.unrun)))))),
)

-- ended runs=R covered=C of M
pub ended_is : (r c m : ℕ) → r < 2 ^ 64 → c < 2 ^ 64 → m < 2 ^ 64 → IsOther (codes "ended runs=" ++ decimal r ++ codes " covered=" ++ decimal c ++ codes " of " ++ decimal m)
unfolding has_none
ended_is r c m h k l = (
  _,
  inr (inr (inr (inr (inr (inl refl))))),
  subst (λ t. AreWords (the (codes "ended") ∷ named (codes "runs") ∷ named (codes "covered") ∷ the (codes "of") ∷ number ∷ []) (codes "ended runs=" ++ t))
      (sym (five (decimal r) (codes " covered=") (decimal c) (codes " of ") (decimal m)))
      (first_then (codes "ended") (named (codes "runs")) (named (codes "covered") ∷ the (codes "of") ∷ number ∷ []) _ refl
      (named_then (codes "runs") r (named (codes "covered")) (the (codes "of") ∷ number ∷ []) _ refl h
      (named_then (codes "covered") c (the (codes "of")) (number ∷ []) _ refl k
      (first_then (codes "of") number [] (decimal m) refl (last_number m l))))),
)

-- ---- whole lines

module _ (p : Program) (b : Limits) where
  pub item_is : (x : Item) → IsGoodItem p b x → IsWhole p b (item_line x) (kind_of x)
  unfolding has_none
  item_is (test_item t) g = record {
    line = codes "test " ++ test_text t;
    written = refl;
    one = lacks_append 10 (codes "test ") (test_text t) (lacks_by_test 10 (codes "test ") refl) (whole_test p b t g);
    is = test t refl g;
  }
  item_is (past_item t) g = record {
    line = codes "past " ++ test_text t;
    written = refl;
    one = lacks_append 10 (codes "past ") (test_text t) (lacks_by_test 10 (codes "past ") refl) (whole_test p b t g);
    is = past t refl g;
  }
  item_is (stray_item t q) g = record {
    line = codes "stray " ++ test_text t ++ codes " after " ++ path_text q;
    written = refl;
    one = whole_more (codes "stray " ++ test_text t) (codes " after ") (path_text q)
        (lacks_append 10 (codes "stray ") (test_text t) (lacks_by_test 10 (codes "stray ") refl) (whole_test p b t g.0)) (lacks_by_test 10 (codes " after ") refl) (lacks_path 10 q (omega arith));
    is = stray t q refl g.0 g.1;
  }
  item_is (spent_item q) g = record {
    line = codes "spent " ++ path_text q;
    written = refl;
    one = lacks_append 10 (codes "spent ") (path_text q) (lacks_by_test 10 (codes "spent ") refl) (lacks_path 10 q (omega arith));
    is = other (spent_is q g);
  }
  item_is (unrun_item i q) g = record {
    line = codes "unrun " ++ map_text i ++ codes " after " ++ path_text q;
    written = refl;
    one = whole_more (codes "unrun " ++ map_text i) (codes " after ") (path_text q)
        (lacks_append 10 (codes "unrun ") (map_text i) (lacks_by_test 10 (codes "unrun ") refl) (whole_map p b i g.0)) (lacks_by_test 10 (codes " after ") refl) (lacks_path 10 q (omega arith));
    is = unrun i q refl g.0 g.1;
  }

  pub term_line_is : (e : Term) → IsSmallTerm e → IsOtherLine p b (term_line e)
  unfolding has_none
  term_line_is e s = record {
    line = codes "term " ++ decimal e.line ++ codes ":" ++ decimal e.col ++ codes " " ++ kind_text e.kind;
    written = refl;
    one = whole_more (codes "term " ++ decimal e.line ++ codes ":" ++ decimal e.col) (codes " ") (kind_text e.kind)
        (whole_more (codes "term " ++ decimal e.line) (codes ":") (decimal e.col)
        (lacks_append 10 (codes "term ") (decimal e.line) (lacks_by_test 10 (codes "term ") refl) (whole_decimal e.line s.line)) (lacks_by_test 10 (codes ":") refl) (whole_decimal e.col s.col))
        (lacks_by_test 10 (codes " ") refl) (kind_lacks e.kind).1;
    is = other (term_is e.line e.col e.kind s.line s.col);
  }

  pub event_line_is : (i : ℕ) (o : Outcome) (n : ℕ) (k : SiteKind) → i < 2 ^ 64 → HasByte o → n < 2 ^ 64 →
      IsOtherLine p b (codes "event " ++ decimal i ++ codes " " ++ (byte_of o ∷ []) ++ codes " " ++ decimal n ++ codes " " ++ site_text k ++ newline)
  unfolding has_none
  event_line_is i o n k h has l = record {
    line = codes "event " ++ decimal i ++ codes " " ++ (byte_of o ∷ []) ++ codes " " ++ decimal n ++ codes " " ++ site_text k;
    written = refl;
    one = whole_more (codes "event " ++ decimal i ++ codes " " ++ (byte_of o ∷ []) ++ codes " " ++ decimal n) (codes " ") (site_text k)
        (whole_more (codes "event " ++ decimal i ++ codes " " ++ (byte_of o ∷ [])) (codes " ") (decimal n)
        (whole_more (codes "event " ++ decimal i) (codes " ") (byte_of o ∷ [])
        (lacks_append 10 (codes "event ") (decimal i) (lacks_by_test 10 (codes "event ") refl) (whole_decimal i h)) (lacks_by_test 10 (codes " ") refl) (outcome_lacks 10 o (omega arith)))
        (lacks_by_test 10 (codes " ") refl) (whole_decimal n l)) (lacks_by_test 10 (codes " ") refl) (site_lacks k).1;
    is = other (event_is i o n k h has l);
  }

  pub complete_line_is : (m n : ℕ) → m < 2 ^ 64 → n < 2 ^ 64 → IsOtherLine p b (codes "complete paths=" ++ decimal m ++ codes " runs=" ++ decimal n ++ newline)
  unfolding has_none
  complete_line_is m n h k = record {
    line = codes "complete paths=" ++ decimal m ++ codes " runs=" ++ decimal n;
    written = refl;
    one = whole_more (codes "complete paths=" ++ decimal m) (codes " runs=") (decimal n)
        (lacks_append 10 (codes "complete paths=") (decimal m) (lacks_by_test 10 (codes "complete paths=") refl) (whole_decimal m h)) (lacks_by_test 10 (codes " runs=") refl) (whole_decimal n k);
    is = other (complete_is m n h k);
  }

  pub incomplete_line_is : (c : Counts) → AreSmall c → IsOtherLine p b (incomplete_line c)
  unfolding has_none
  incomplete_line_is c s = record {
    line = codes "incomplete terms=" ++ decimal c.terms ++ codes " spent=" ++ decimal c.spent ++ codes " steps=" ++ decimal c.steps ++ codes " strays=" ++ decimal c.strays ++ codes " unrun=" ++ decimal c.unrun;
    written = refl;
    one = whole_more (codes "incomplete terms=" ++ decimal c.terms ++ codes " spent=" ++ decimal c.spent ++ codes " steps=" ++ decimal c.steps ++ codes " strays=" ++ decimal c.strays) (codes " unrun=") (decimal c.unrun)
        (whole_more (codes "incomplete terms=" ++ decimal c.terms ++ codes " spent=" ++ decimal c.spent ++ codes " steps=" ++ decimal c.steps) (codes " strays=") (decimal c.strays)
        (whole_more (codes "incomplete terms=" ++ decimal c.terms ++ codes " spent=" ++ decimal c.spent) (codes " steps=") (decimal c.steps)
        (whole_more (codes "incomplete terms=" ++ decimal c.terms) (codes " spent=") (decimal c.spent)
        (lacks_append 10 (codes "incomplete terms=") (decimal c.terms) (lacks_by_test 10 (codes "incomplete terms=") refl) (whole_decimal c.terms s.terms))
        (lacks_by_test 10 (codes " spent=") refl) (whole_decimal c.spent s.spent))
        (lacks_by_test 10 (codes " steps=") refl) (whole_decimal c.steps s.steps))
        (lacks_by_test 10 (codes " strays=") refl) (whole_decimal c.strays s.strays))
        (lacks_by_test 10 (codes " unrun=") refl) (whole_decimal c.unrun s.unrun);
    is = other (incomplete_is c s);
  }

  pub ended_line_is : (r c m : ℕ) → r < 2 ^ 64 → c < 2 ^ 64 → m < 2 ^ 64 →
      IsOtherLine p b (codes "ended runs=" ++ decimal r ++ codes " covered=" ++ decimal c ++ codes " of " ++ decimal m ++ newline)
  unfolding has_none
  ended_line_is r c m h k l = record {
    line = codes "ended runs=" ++ decimal r ++ codes " covered=" ++ decimal c ++ codes " of " ++ decimal m;
    written = refl;
    one = whole_more (codes "ended runs=" ++ decimal r ++ codes " covered=" ++ decimal c) (codes " of ") (decimal m)
        (whole_more (codes "ended runs=" ++ decimal r) (codes " covered=") (decimal c)
        (lacks_append 10 (codes "ended runs=") (decimal r) (lacks_by_test 10 (codes "ended runs=") refl) (whole_decimal r h)) (lacks_by_test 10 (codes " covered=") refl) (whole_decimal c k))
        (lacks_by_test 10 (codes " of ") refl) (whole_decimal m l);
    is = other (ended_is r c m h k l);
  }

-- the first line, without its newline
pub record IsFirst (b : Limits) : Type 0 where
  pub line : List ℕ
  pub written : bounds_line b ≡ line ++ newline
  pub one : Lacks 10 line
  pub is : IsBounds line b

low_fits : (b : Limits) → InRange b → b.hi ≤ℤ pos 2147483647 → b.lo ≤ℤ pos 2147483647
low_fits b r h = let n = r.numbers in omega (arith, ints, n, h)

high_fits : (b : Limits) → InRange b → negsuc 2147483647 ≤ℤ b.lo → negsuc 2147483647 ≤ℤ b.hi
high_fits b r h = let n = r.numbers in omega (arith, ints, n, h)

pub first_is : (b : Limits) → AreBounds b → IsFirst b
unfolding has_none
first_is b h =
    let r = h.in_range in
    let d = r.depth_high in
    let o = r.objects_high in
    let s = r.steps_high in
    record {
      line = codes "bounds min=" ++ signed_decimal b.lo ++ codes " max=" ++ signed_decimal b.hi ++ codes " depth=" ++ decimal b.depth ++ codes " objects=" ++ decimal b.objects ++ codes " steps=" ++ decimal b.steps;
      written = refl;
      one = whole_more (codes "bounds min=" ++ signed_decimal b.lo ++ codes " max=" ++ signed_decimal b.hi ++ codes " depth=" ++ decimal b.depth ++ codes " objects=" ++ decimal b.objects) (codes " steps=") (decimal b.steps)
          (whole_more (codes "bounds min=" ++ signed_decimal b.lo ++ codes " max=" ++ signed_decimal b.hi ++ codes " depth=" ++ decimal b.depth) (codes " objects=") (decimal b.objects)
          (whole_more (codes "bounds min=" ++ signed_decimal b.lo ++ codes " max=" ++ signed_decimal b.hi) (codes " depth=") (decimal b.depth)
          (whole_more (codes "bounds min=" ++ signed_decimal b.lo) (codes " max=") (signed_decimal b.hi)
          (lacks_append 10 (codes "bounds min=") (signed_decimal b.lo) (lacks_by_test 10 (codes "bounds min=") refl) (whole_signed b.lo h.at_least (low_fits b r h.at_most)))
          (lacks_by_test 10 (codes " max=") refl) (whole_signed b.hi (high_fits b r h.at_least) h.at_most))
          (lacks_by_test 10 (codes " depth=") refl) (whole_decimal b.depth (omega (arith, d))))
          (lacks_by_test 10 (codes " objects=") refl) (whole_decimal b.objects (omega (arith, o))))
          (lacks_by_test 10 (codes " steps=") refl) (whole_decimal b.steps (omega (arith, s)));
      is = record { written = refl; in_range = h.in_range; at_least = h.at_least; at_most = h.at_most };
    }
