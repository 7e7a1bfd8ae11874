-- The lines of a report, word by word.
use Rattle.std.proofs.Common.{◌≡◌, ap, refl, ℕ, ◌^◌, ◌<◌, inl, ℤ, pos, negsuc, ◌≤ℤ◌, true, List, [], ◌∷◌, ◌++◌, codes, arith}
use Rattle.std.proofs.lemmas.Int.{ints}
use Rattle.std.specs.Fmt.{decimal, signed_decimal}
use Rattle.cc_base.specs.declared.ends.End.{End}
use Rattle.cc_base.specs.declared.ends.End.TheVariants.{Return, Assume, Cut, Objects, Steps, Fault}
use Rattle.cc_base.specs.declared.inputs.Input.{Input}
use Rattle.cc_base.specs.declared.inputs.Test.{Test}
use Rattle.cc_base.specs.declared.outcomes.Outcome.{Outcome}
use Rattle.cc_base.specs.declared.ends.FaultKind.{FaultKind}
use Rattle.cc_base.specs.declared.ends.FaultKind.TheVariants.{Overflow, Null, Divide, Index, Assert, Abort}
use Rattle.cc_base.specs.Ends.{fault_text, end_text}
use Rattle.cc_base.specs.Inputs.{map_text}
use Rattle.cc_base.specs.Limits.{Limits}
use Rattle.cc_base.specs.Outcomes.{byte_of, HasByte}
use Rattle.cc_base.specs.Paths.{Path, path_text}
use Rattle.cc_model.specs.declared.checked.SiteKind.{SiteKind}
use Rattle.cc_model.specs.declared.checked.SiteKind.TheVariants as site
use Rattle.cc_model.specs.declared.terms.TermKind.{TermKind}
use Rattle.cc_model.specs.declared.terms.TermKind.TheVariants as of
use Rattle.cc_model.specs.Listing.{Item, test_item, past_item, stray_item, spent_item, unrun_item, Counts}
use Rattle.cc_model.specs.Report.{newline, bounds_line, item_line, kind_text, term_line, incomplete_line}
use Rattle.cc_model.specs.Tested.{Term}
use Rattle.replay.specs.Forms.{site_text}
use Rattle.replay.specs.ReportFiles.{AreBounds, AreSmall}
use Rattle.report_words.specs.Cuts.{Lacks}
use Rattle.report_words.specs.Words.{HasLine}
use Rattle.report_words.proofs.Cutting.{has_none, lacks_append, lacks_by_test}
use Rattle.report_words.proofs.Texts.{lacks_decimal, lacks_path, lacks_end}
use Rattle.search_base.specs.Readable.{IsNarrow}
use Rattle.report_laws.specs.Traces.{ToldEvent, event_text}
use Rattle.report_laws.specs.Walks.{ended_text}
use Rattle.report_laws.specs.Words.{HasShortNumbers, HasTestWords, HasItemWords}
use Rattle.report_laws.proofs.Joined.{IsWord, AreWords, joined, four, six, eight, ten}
use Rattle.report_laws.proofs.Values.{IsLow, NoMap, signed_lacks, map_lacks}

-- ---- lines

pub data Line : Type 0 where
  bounds : Limits → Line
  item : Item → Line
  term : Term → Line
  event : ℕ → ToldEvent → Line
  complete : (paths runs : ℕ) → Line
  incomplete : Counts → Line
  ended : (runs covered outcomes : ℕ) → Line

abbrev pub line_text : Line → List ℕ
line_text (bounds b) = bounds_line b
line_text (item x) = item_line x
line_text (term e) = term_line e
line_text (event i e) = event_text i e.outcome e.line e.kind
line_text (complete p r) = codes "complete paths=" ++ decimal p ++ codes " runs=" ++ decimal r ++ newline
line_text (incomplete c) = incomplete_line c
line_text (ended r c m) = ended_text r c m

abbrev pub text_of : List Line → List ℕ
text_of [] = []
text_of (x ∷ l) = line_text x ++ text_of l

-- its words can be read
abbrev pub IsClear : Line → Type 0
IsClear (bounds b) = AreBounds b
IsClear (item x) = HasItemWords x
IsClear (term e) = IsNarrow e
IsClear (event i e) = (i < 2 ^ 64) × HasByte e.outcome × (e.line < 2 ^ 64)
IsClear (complete p r) = (p < 2 ^ 64) × (r < 2 ^ 64)
IsClear (incomplete c) = AreSmall c
IsClear (ended r c m) = (r < 2 ^ 64) × (c < 2 ^ 64) × (m < 2 ^ 64)

abbrev pub AreClear : List Line → Type 0
AreClear [] = Unit {0}
AreClear (x ∷ l) = IsClear x × AreClear l

-- ---- its words

abbrev pub first : Line → List ℕ
first (bounds b) = codes "bounds"
first (item (test_item t)) = codes "test"
first (item (past_item t)) = codes "past"
first (item (stray_item t q)) = codes "stray"
first (item (spent_item q)) = codes "spent"
first (item (unrun_item i q)) = codes "unrun"
first (term e) = codes "term"
first (event i e) = codes "event"
first (complete p r) = codes "complete"
first (incomplete c) = codes "incomplete"
first (ended r c m) = codes "ended"

abbrev pub others : Line → List (List ℕ)
others (bounds b) = (codes "min=" ++ signed_decimal b.lo) ∷ (codes "max=" ++ signed_decimal b.hi) ∷ (codes "depth=" ++ decimal b.depth)
    ∷ (codes "objects=" ++ decimal b.objects) ∷ (codes "steps=" ++ decimal b.steps) ∷ []
others (item (test_item t)) = path_text t.path ∷ end_text t.end ∷ map_text t.input ∷ []
others (item (past_item t)) = path_text t.path ∷ end_text t.end ∷ map_text t.input ∷ []
others (item (stray_item t q)) = path_text t.path ∷ end_text t.end ∷ map_text t.input ∷ codes "after" ∷ path_text q ∷ []
others (item (spent_item q)) = path_text q ∷ []
others (item (unrun_item i q)) = map_text i ∷ codes "after" ∷ path_text q ∷ []
others (term e) = (decimal e.line ++ codes ":" ++ decimal e.col) ∷ kind_text e.kind ∷ []
others (event i e) = decimal i ∷ (byte_of e.outcome ∷ []) ∷ decimal e.line ∷ site_text e.kind ∷ []
others (complete p r) = (codes "paths=" ++ decimal p) ∷ (codes "runs=" ++ decimal r) ∷ []
others (incomplete c) = (codes "terms=" ++ decimal c.terms) ∷ (codes "spent=" ++ decimal c.spent) ∷ (codes "steps=" ++ decimal c.steps)
    ∷ (codes "strays=" ++ decimal c.strays) ∷ (codes "unrun=" ++ decimal c.unrun) ∷ []
others (ended r c m) = (codes "runs=" ++ decimal r) ∷ (codes "covered=" ++ decimal c) ∷ codes "of" ∷ decimal m ∷ []

-- the line is its words, with blanks between them
pub words_are : (x : Line) → line_text x ≡ joined (first x) (others x)
words_are (bounds b) = ap (λ t. codes "bounds min=" ++ t)
    (ten (signed_decimal b.lo) (codes " max=") (signed_decimal b.hi) (codes " depth=") (decimal b.depth) (codes " objects=") (decimal b.objects) (codes " steps=") (decimal b.steps) newline)
words_are (item (test_item t)) = ap (λ u. codes "test " ++ u) (six (path_text t.path) (codes " ") (end_text t.end) (codes " ") (map_text t.input) newline)
words_are (item (past_item t)) = ap (λ u. codes "past " ++ u) (six (path_text t.path) (codes " ") (end_text t.end) (codes " ") (map_text t.input) newline)
words_are (item (stray_item t q)) = ap (λ u. codes "stray " ++ u) (eight (path_text t.path) (codes " ") (end_text t.end) (codes " ") (map_text t.input) (codes " after ") (path_text q) newline)
words_are (item (spent_item q)) = refl
words_are (item (unrun_item i q)) = ap (λ u. codes "unrun " ++ u) (four (map_text i) (codes " after ") (path_text q) newline)
words_are (term e) = ap (λ u. codes "term " ++ u) (four (decimal e.line ++ codes ":" ++ decimal e.col) (codes " ") (kind_text e.kind) newline)
words_are (event i e) = ap (λ u. codes "event " ++ u) (eight (decimal i) (codes " ") (byte_of e.outcome ∷ []) (codes " ") (decimal e.line) (codes " ") (site_text e.kind) newline)
words_are (complete p r) = ap (λ u. codes "complete paths=" ++ u) (four (decimal p) (codes " runs=") (decimal r) newline)
words_are (incomplete c) = ap (λ t. codes "incomplete terms=" ++ t)
    (ten (decimal c.terms) (codes " spent=") (decimal c.spent) (codes " steps=") (decimal c.steps) (codes " strays=") (decimal c.strays) (codes " unrun=") (decimal c.unrun) newline)
words_are (ended r c m) = ap (λ t. codes "ended runs=" ++ t) (six (decimal r) (codes " covered=") (decimal c) (codes " of ") (decimal m) newline)

-- ---- they are words

word_by_test : (t : List ℕ) → has_none 32 t ≡ true → has_none 10 t ≡ true → IsWord t
word_by_test t h k = record { blank = lacks_by_test 32 t h; newline = lacks_by_test 10 t k }

two_words : (a b : List ℕ) → IsWord a → IsWord b → IsWord (a ++ b)
two_words a b h k = record { blank = lacks_append 32 a b h.blank k.blank; newline = lacks_append 10 a b h.newline k.newline }

number_word : (n : ℕ) → n < 2 ^ 64 → IsWord (decimal n)
number_word n h = record { blank = lacks_decimal 32 n (inl (omega arith)) h; newline = lacks_decimal 10 n (inl (omega arith)) h }

named_word : (name : List ℕ) (n : ℕ) → has_none 32 name ≡ true → has_none 10 name ≡ true → n < 2 ^ 64 → IsWord (name ++ decimal n)
named_word name n h k l = two_words name (decimal n) (word_by_test name h k) (number_word n l)

signed_word : (name : List ℕ) (z : ℤ) → has_none 32 name ≡ true → has_none 10 name ≡ true → IsLow z → IsWord (name ++ signed_decimal z)
signed_word name z h k l = two_words name (signed_decimal z) (word_by_test name h k)
    (record { blank = signed_lacks 32 z (inl (omega arith)) (λ e. omega (arith, e)) l; newline = signed_lacks 10 z (inl (omega arith)) (λ e. omega (arith, e)) l })

path_word : (p : Path) → IsWord (path_text p)
path_word p = record { blank = lacks_path 32 p (omega arith); newline = lacks_path 10 p (omega arith) }

no_map : (m : ℕ) → m < 33 → NoMap m
no_map m h = record {
  numbers = record { digit = inl (omega (arith, h)); sign = λ e. omega (arith, h, e); comma = λ e. omega (arith, h, e) };
  tilde = λ e. omega (arith, h, e);
}

map_word : (i : Input) → HasShortNumbers i → IsWord (map_text i)
map_word i h = record {
  blank = map_lacks 32 (no_map 32 (omega arith)) (λ e. omega (arith, e)) i h.cells h.stream;
  newline = map_lacks 10 (no_map 10 (omega arith)) (λ e. omega (arith, e)) i h.cells h.stream;
}

end_newline : (e : End) → HasLine e → Lacks 10 (end_text e)
unfolding has_none
end_newline Return h = lacks_by_test 10 (codes "return") refl
end_newline Assume h = lacks_by_test 10 (codes "assume") refl
end_newline Cut h = lacks_by_test 10 (codes "cut") refl
end_newline Objects h = lacks_by_test 10 (codes "objects") refl
end_newline Steps h = lacks_by_test 10 (codes "steps") refl
end_newline (Fault k line) h = lacks_append 10 (fault_text k ++ codes "@") (decimal line)
    (lacks_append 10 (fault_text k) (codes "@") (fault_newline k) (lacks_by_test 10 (codes "@") refl)) (lacks_decimal 10 line (inl (omega arith)) (omega (arith, h)))
  where
    fault_newline : (k : FaultKind) → Lacks 10 (fault_text k)
    fault_newline Overflow = lacks_by_test 10 (codes "overflow") refl
    fault_newline Null = lacks_by_test 10 (codes "null") refl
    fault_newline Divide = lacks_by_test 10 (codes "divide") refl
    fault_newline Index = lacks_by_test 10 (codes "index") refl
    fault_newline Assert = lacks_by_test 10 (codes "assert") refl
    fault_newline Abort = lacks_by_test 10 (codes "abort") refl

end_word : (e : End) → HasLine e → IsWord (end_text e)
end_word e h = record { blank = lacks_end e h; newline = end_newline e h }

pub low_word : (b : Limits) → AreBounds b → IsLow b.lo
low_word b h = by_number b.lo h.at_least (let n = (h.in_range).numbers in let m = h.at_most in omega (arith, ints, n, m))
  where
    by_number : (z : ℤ) → negsuc 2147483647 ≤ℤ z → z ≤ℤ pos 2147483647 → IsLow z
    by_number (pos n) l h = omega (arith, ints, h)
    by_number (negsuc n) l h = omega (arith, ints, l)

pub high_word : (b : Limits) → AreBounds b → IsLow b.hi
high_word b h = by_number b.hi (let n = (h.in_range).numbers in let m = h.at_least in omega (arith, ints, n, m)) h.at_most
  where
    by_number : (z : ℤ) → negsuc 2147483647 ≤ℤ z → z ≤ℤ pos 2147483647 → IsLow z
    by_number (pos n) l h = omega (arith, ints, h)
    by_number (negsuc n) l h = omega (arith, ints, l)

kind_word : (k : TermKind) → IsWord (kind_text k)
unfolding has_none
kind_word of.Product = word_by_test (codes "product") refl refl
kind_word of.Quotient = word_by_test (codes "quotient") refl refl
kind_word of.Index = word_by_test (codes "index") refl refl
kind_word of.Wide = word_by_test (codes "wide") refl refl

site_word : (k : SiteKind) → IsWord (site_text k)
unfolding has_none
site_word site.Decision = word_by_test (codes "decision") refl refl
site_word site.Fit = word_by_test (codes "fit") refl refl
site_word site.Divisor = word_by_test (codes "divisor") refl refl
site_word site.Index = word_by_test (codes "index") refl refl
site_word site.Access = word_by_test (codes "access") refl refl

byte_word : (o : Outcome) → IsWord (byte_of o ∷ [])
byte_word o = path_word (o ∷ [])

test_are : (t : Test) (l : List (List ℕ)) → HasTestWords t → AreWords l → AreWords (path_text t.path ∷ end_text t.end ∷ map_text t.input ∷ l)
test_are t l h k = (path_word t.path, (end_word t.end h.line, (map_word t.input h.input, k)))

after_are : (q : Path) → AreWords (codes "after" ∷ path_text q ∷ [])
unfolding has_none
after_are q = (word_by_test (codes "after") refl refl, (path_word q, tt))

pub others_are : (x : Line) → IsClear x → AreWords (others x)
unfolding has_none
others_are (bounds b) h =
    let r = h.in_range in
    let d = r.depth_high in
    let o = r.objects_high in
    let s = r.steps_high in
    let lo = signed_word (codes "min=") b.lo refl refl (low_word b h) in
    let hi = signed_word (codes "max=") b.hi refl refl (high_word b h) in
    let depth = named_word (codes "depth=") b.depth refl refl (omega (arith, d)) in
    let objects = named_word (codes "objects=") b.objects refl refl (omega (arith, o)) in
    let steps = named_word (codes "steps=") b.steps refl refl (omega (arith, s)) in
    (lo, (hi, (depth, (objects, (steps, tt)))))
others_are (item (test_item t)) h = test_are t [] h tt
others_are (item (past_item t)) h = test_are t [] h tt
others_are (item (stray_item t q)) h = test_are t (codes "after" ∷ path_text q ∷ []) h.0 (after_are q)
others_are (item (spent_item q)) h = (path_word q, tt)
others_are (item (unrun_item i q)) h = (map_word i h.0, after_are q)
others_are (term e) h =
    let line = two_words (decimal e.line) (codes ":") (number_word e.line h.line) (word_by_test (codes ":") refl refl) in
    let place = two_words (decimal e.line ++ codes ":") (decimal e.col) line (number_word e.col h.col) in
    (place, (kind_word e.kind, tt))
others_are (event i e) h = (number_word i h.0, (byte_word e.outcome, (number_word e.line h.2, (site_word e.kind, tt))))
others_are (complete p r) h = (named_word (codes "paths=") p refl refl h.0, (named_word (codes "runs=") r refl refl h.1, tt))
others_are (incomplete c) h =
    let terms = named_word (codes "terms=") c.terms refl refl h.terms in
    let spent = named_word (codes "spent=") c.spent refl refl h.spent in
    let steps = named_word (codes "steps=") c.steps refl refl h.steps in
    let strays = named_word (codes "strays=") c.strays refl refl h.strays in
    let unrun = named_word (codes "unrun=") c.unrun refl refl h.unrun in
    (terms, (spent, (steps, (strays, (unrun, tt)))))
others_are (ended r c m) h =
    let runs = named_word (codes "runs=") r refl refl h.0 in
    let covered = named_word (codes "covered=") c refl refl h.1 in
    (runs, (covered, (word_by_test (codes "of") refl refl, (number_word m h.2, tt))))

pub first_is : (x : Line) → IsWord (first x)
unfolding has_none
first_is (bounds b) = word_by_test (codes "bounds") refl refl
first_is (item (test_item t)) = word_by_test (codes "test") refl refl
first_is (item (past_item t)) = word_by_test (codes "past") refl refl
first_is (item (stray_item t q)) = word_by_test (codes "stray") refl refl
first_is (item (spent_item q)) = word_by_test (codes "spent") refl refl
first_is (item (unrun_item i q)) = word_by_test (codes "unrun") refl refl
first_is (term e) = word_by_test (codes "term") refl refl
first_is (event i e) = word_by_test (codes "event") refl refl
first_is (complete p r) = word_by_test (codes "complete") refl refl
first_is (incomplete c) = word_by_test (codes "incomplete") refl refl
first_is (ended r c m) = word_by_test (codes "ended") refl refl
