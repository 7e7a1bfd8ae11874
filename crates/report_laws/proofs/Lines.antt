-- A text is that of one list of lines.
use Rattle.std.proofs.Common.{◌≡◌, ◌∙◌, sym, ap, ap₂, refl, ℕ, zero, suc, ◌^◌, ◌<◌, inr, ℤ, List, [], ◌∷◌, ◌++◌, drop, codes, append_assoc, arith}
use Rattle.std.proofs.lemmas.Fmt.{decimal_injective}
use Rattle.std.specs.Fmt.{decimal}
use Rattle.cc_base.specs.declared.ends.End.{End}
use Rattle.cc_base.specs.declared.inputs.Input.{Input}
use Rattle.cc_base.specs.declared.inputs.Test.{Test}
use Rattle.cc_base.specs.declared.outcomes.Outcome.{Outcome}
use Rattle.cc_base.specs.Ends.{end_text}
use Rattle.cc_base.specs.Inputs.{map_text}
use Rattle.cc_base.specs.Limits.{Limits}
use Rattle.cc_base.specs.Outcomes.{byte_of}
use Rattle.cc_base.specs.Paths.{Path, path_text}
use Rattle.cc_model.specs.declared.checked.SiteKind.{SiteKind}
use Rattle.cc_model.specs.declared.checked.SiteKind.TheVariants as site
use Rattle.cc_model.specs.declared.terms.TermKind.{TermKind}
use Rattle.cc_model.specs.declared.terms.TermKind.TheVariants as of
use Rattle.cc_model.specs.Listing.{test_item, past_item, stray_item, spent_item, unrun_item, Counts}
use Rattle.cc_model.specs.Report.{kind_text}
use Rattle.cc_model.specs.Tested.{Term}
use Rattle.replay.specs.Forms.{site_text}
use Rattle.replay.specs.ReportFiles.{AreBounds, AreSmall}
use Rattle.report_words.proofs.Bytes.{byte_tells}
use Rattle.report_words.proofs.Texts.{lacks_decimal}
use Rattle.search_base.specs.Readable.{IsNarrow}
use Rattle.report_laws.specs.Traces.{ToldEvent}
use Rattle.report_laws.specs.Words.{HasTestWords}
use Rattle.report_laws.proofs.Joined.{joined, one_line, no_line}
use Rattle.report_laws.proofs.Values.{mark, cut_once, one_signed, one_input, one_path, one_end}
use Rattle.report_laws.proofs.LineWords.{Line, bounds, item, term, event, complete, incomplete, ended, line_text, text_of, IsClear, AreClear, first, others, words_are, low_word, high_word, others_are, first_is}

-- ---- a line is that of its words

-- word number n behind the first
abbrev pub nth : ℕ → List (List ℕ) → List ℕ
nth n [] = []
nth zero (w ∷ l) = w
nth (suc n) (w ∷ l) = nth n l

one_test : (t u : Test) (l m : List (List ℕ)) → HasTestWords t → HasTestWords u →
    path_text t.path ∷ end_text t.end ∷ map_text t.input ∷ l ≡ path_text u.path ∷ end_text u.end ∷ map_text u.input ∷ m → t ≡ u
one_test t u l m h k e =
    let p = one_path t.path u.path h.bytes k.bytes (ap (nth 0) e) in
    let q = one_end t.end u.end h.line k.line (ap (nth 1) e) in
    let i = one_input t.input u.input (h.input).cells (h.input).stream (k.input).cells (k.input).stream (ap (nth 2) e) in
    ap₂ (λ (a : Path) (b : End). test a b t.input) p q ∙ ap (λ (c : Input). test u.path u.end c) i
  where
    test : Path → End → Input → Test
    test p e i = record { path = p; end = e; input = i }

one_kind : (k l : TermKind) → kind_text k ≡ kind_text l → k ≡ l
one_kind of.Product of.Product e = refl
one_kind of.Quotient of.Quotient e = refl
one_kind of.Index of.Index e = refl
one_kind of.Wide of.Wide e = refl
one_kind _ _ e = let m = ap mark e in absurd (omega (arith, m))

one_site : (k l : SiteKind) → site_text k ≡ site_text l → k ≡ l
one_site site.Decision site.Decision e = refl
one_site site.Fit site.Fit e = refl
one_site site.Divisor site.Divisor e = refl
one_site site.Index site.Index e = refl
one_site site.Access site.Access e = refl
one_site _ _ e = let m = ap mark e in absurd (omega (arith, m))

place_cut : (a b c d : ℕ) → a < 2 ^ 64 → c < 2 ^ 64 → decimal a ++ codes ":" ++ decimal b ≡ decimal c ++ codes ":" ++ decimal d → (decimal a ≡ decimal c) × (decimal b ≡ decimal d)
place_cut a b c d h k e = cut_once 58 (decimal a) (decimal b) (decimal c) (decimal d) (lacks_decimal 58 a (inr (omega arith)) h) (lacks_decimal 58 c (inr (omega arith)) k)
    (sym (append_assoc (decimal a) (codes ":") (decimal b)) ∙ e ∙ append_assoc (decimal c) (codes ":") (decimal d))

one_term : (e f : Term) → IsNarrow e → IsNarrow f → others (term e) ≡ others (term f) → e ≡ f
one_term e f h k s =
    let c = place_cut e.line e.col f.line f.col h.line k.line (ap (nth 0) s) in
    let l = decimal_injective e.line f.line h.line k.line c.0 in
    let m = decimal_injective e.col f.col h.col k.col c.1 in
    ap₂ (λ (a b : ℕ). term_of a b e.kind) l m ∙ ap (λ (d : TermKind). term_of f.line f.col d) (one_kind e.kind f.kind (ap (nth 1) s))
  where
    term_of : ℕ → ℕ → TermKind → Term
    term_of l c k = record { line = l; col = c; kind = k }

one_limits : (b c : Limits) → AreBounds b → AreBounds c → others (bounds b) ≡ others (bounds c) → b ≡ c
one_limits b c h k s =
    let l = one_signed b.lo c.lo (low_word b h) (low_word c k) (ap (λ w. drop 4 (nth 0 w)) s) in
    let m = one_signed b.hi c.hi (high_word b h) (high_word c k) (ap (λ w. drop 4 (nth 1 w)) s) in
    let p = h.in_range in let q = k.in_range in
    let p1 = p.depth_high in let q1 = q.depth_high in let p2 = p.objects_high in let q2 = q.objects_high in let p3 = p.steps_high in let q3 = q.steps_high in
    let d = decimal_injective b.depth c.depth (omega (arith, p1)) (omega (arith, q1)) (ap (λ w. drop 6 (nth 2 w)) s) in
    let o = decimal_injective b.objects c.objects (omega (arith, p2)) (omega (arith, q2)) (ap (λ w. drop 8 (nth 3 w)) s) in
    let t = decimal_injective b.steps c.steps (omega (arith, p3)) (omega (arith, q3)) (ap (λ w. drop 6 (nth 4 w)) s) in
    ap₂ (λ (x y : ℤ). limits x y b.depth b.objects b.steps) l m ∙ ap₂ (λ (x y : ℕ). limits c.lo c.hi x y b.steps) d o ∙ ap (λ (x : ℕ). limits c.lo c.hi c.depth c.objects x) t
  where
    limits : ℤ → ℤ → ℕ → ℕ → ℕ → Limits
    limits l h d o s = record { lo = l; hi = h; depth = d; objects = o; steps = s }

one_counts : (c d : Counts) → AreSmall c → AreSmall d → others (incomplete c) ≡ others (incomplete d) → c ≡ d
one_counts c d h k s =
    let a = decimal_injective c.terms d.terms h.terms k.terms (ap (λ w. drop 6 (nth 0 w)) s) in
    let b = decimal_injective c.spent d.spent h.spent k.spent (ap (λ w. drop 6 (nth 1 w)) s) in
    let e = decimal_injective c.steps d.steps h.steps k.steps (ap (λ w. drop 6 (nth 2 w)) s) in
    let f = decimal_injective c.strays d.strays h.strays k.strays (ap (λ w. drop 7 (nth 3 w)) s) in
    let g = decimal_injective c.unrun d.unrun h.unrun k.unrun (ap (λ w. drop 6 (nth 4 w)) s) in
    ap₂ (λ (x y : ℕ). counts x y c.steps c.strays c.unrun) a b ∙ ap₂ (λ (x y : ℕ). counts d.terms d.spent x y c.unrun) e f ∙ ap (λ (x : ℕ). counts d.terms d.spent d.steps d.strays x) g
  where
    counts : ℕ → ℕ → ℕ → ℕ → ℕ → Counts
    counts t p s r u = record { terms = t; spent = p; steps = s; strays = r; unrun = u }

one_event : (e f : ToldEvent) → IsClear (event 0 e) → IsClear (event 0 f) → (i j : ℕ) → others (event i e) ≡ others (event j f) → e ≡ f
one_event e f h k i j s =
    let b : byte_of e.outcome ≡ byte_of f.outcome = ap (λ w. head (nth 1 w)) s in
    ap₂ (λ (x : Outcome) (n : ℕ). event_of x n e.kind) (byte_tells e.outcome f.outcome b) (decimal_injective e.line f.line h.2 k.2 (ap (nth 2) s))
    ∙ ap (λ (x : SiteKind). event_of f.outcome f.line x) (one_site e.kind f.kind (ap (nth 3) s))
  where
    head : List ℕ → ℕ
    head [] = 0
    head (x ∷ l) = x

    event_of : Outcome → ℕ → SiteKind → ToldEvent
    event_of o n k = record { outcome = o; line = n; kind = k }

words_once : (x y : Line) → IsClear x → IsClear y → first x ≡ first y → others x ≡ others y → x ≡ y
words_once (bounds b) (bounds c) h k e s = ap bounds (one_limits b c h k s)
words_once (item (test_item t)) (item (test_item u)) h k e s = ap (λ (v : Test). item (test_item v)) (one_test t u [] [] h k s)
words_once (item (past_item t)) (item (past_item u)) h k e s = ap (λ (v : Test). item (past_item v)) (one_test t u [] [] h k s)
words_once (item (stray_item t q)) (item (stray_item u r)) h k e s =
    ap₂ (λ (v : Test) (p : Path). item (stray_item v p)) (one_test t u (codes "after" ∷ path_text q ∷ []) (codes "after" ∷ path_text r ∷ []) h.0 k.0 s) (one_path q r h.1 k.1 (ap (nth 4) s))
words_once (item (spent_item q)) (item (spent_item r)) h k e s = ap (λ (p : Path). item (spent_item p)) (one_path q r h k (ap (nth 0) s))
words_once (item (unrun_item i q)) (item (unrun_item j r)) h k e s =
    ap₂ (λ (v : Input) (p : Path). item (unrun_item v p)) (one_input i j (h.0).cells (h.0).stream (k.0).cells (k.0).stream (ap (nth 0) s)) (one_path q r h.1 k.1 (ap (nth 2) s))
words_once (term e) (term f) h k d s = ap term (one_term e f h k s)
words_once (event i e) (event j f) h k d s = ap₂ (λ (n : ℕ) (g : ToldEvent). event n g) (decimal_injective i j h.0 k.0 (ap (nth 0) s)) (one_event e f (omega arith, h.1, h.2) (omega arith, k.1, k.2) i j s)
words_once (complete p r) (complete q t) h k e s =
    ap₂ complete (decimal_injective p q h.0 k.0 (ap (λ w. drop 6 (nth 0 w)) s)) (decimal_injective r t h.1 k.1 (ap (λ w. drop 5 (nth 1 w)) s))
words_once (incomplete c) (incomplete d) h k e s = ap incomplete (one_counts c d h k s)
words_once (ended r c m) (ended t d n) h k e s =
    ap₂ (λ (x y : ℕ). ended x y m) (decimal_injective r t h.0 k.0 (ap (λ w. drop 5 (nth 0 w)) s)) (decimal_injective c d h.1 k.1 (ap (λ w. drop 8 (nth 1 w)) s))
    ∙ ap (λ (x : ℕ). ended t d x) (decimal_injective m n h.2 k.2 (ap (nth 3) s))
words_once (bounds b) (item (test_item t)) h k e s = let w = ap mark e in absurd (omega (arith, w))
words_once (item (test_item t)) (bounds b) h k e s = let w = ap mark e in absurd (omega (arith, w))
words_once (term a) (item (test_item t)) h k e s = let w = ap mark e in absurd (omega (arith, w))
words_once (item (test_item t)) (term a) h k e s = let w = ap mark e in absurd (omega (arith, w))
words_once (event i a) (item (test_item t)) h k e s = let w = ap mark e in absurd (omega (arith, w))
words_once (item (test_item t)) (event i a) h k e s = let w = ap mark e in absurd (omega (arith, w))
words_once (complete p r) (item (test_item t)) h k e s = let w = ap mark e in absurd (omega (arith, w))
words_once (item (test_item t)) (complete p r) h k e s = let w = ap mark e in absurd (omega (arith, w))
words_once (incomplete c) (item (test_item t)) h k e s = let w = ap mark e in absurd (omega (arith, w))
words_once (item (test_item t)) (incomplete c) h k e s = let w = ap mark e in absurd (omega (arith, w))
words_once (ended r c m) (item (test_item t)) h k e s = let w = ap mark e in absurd (omega (arith, w))
words_once (item (test_item t)) (ended r c m) h k e s = let w = ap mark e in absurd (omega (arith, w))
words_once _ _ h k e s = let w = ap mark e in absurd (omega (arith, w))

-- ---- texts

shape : (x : Line) (r : List ℕ) → line_text x ++ r ≡ joined (first x) (others x) ++ r
shape x r = ap (λ t. t ++ r) (words_are x)

abbrev head_of : List (List ℕ) → List ℕ
head_of [] = []
head_of (w ∷ l) = w

abbrev tail_of : List (List ℕ) → List (List ℕ)
tail_of [] = []
tail_of (w ∷ l) = l

-- a text of clear lines is that of one list of them
pub lines_once : (l m : List Line) → AreClear l → AreClear m → text_of l ≡ text_of m → l ≡ m
lines_once [] [] h k e = refl
lines_once [] (y ∷ m) h k e = absurd (no_line (first y) (others y) (text_of m) (e ∙ shape y (text_of m)))
lines_once (x ∷ l) [] h k e = absurd (no_line (first x) (others x) (text_of l) (sym e ∙ shape x (text_of l)))
lines_once (x ∷ l) (y ∷ m) h k e =
    let c = one_line (first x) (others x) (first y) (others y) (text_of l) (text_of m) (first_is x, others_are x h.0) (first_is y, others_are y k.0)
    (sym (shape x (text_of l)) ∙ e ∙ shape y (text_of m)) in
    ap₂ (λ (a : Line) (b : List Line). a ∷ b) (words_once x y h.0 k.0 (ap head_of c.0) (ap tail_of c.0)) (lines_once l m h.1 k.1 c.1)

-- a text of clear lines that begins another is that of the first lines of the other
pub record Begins (l m : List Line) (r : List ℕ) : Type 0 where
  pub behind : List Line
  pub lines : m ≡ l ++ behind
  pub text : r ≡ text_of behind

pub lines_begin : (l m : List Line) (r : List ℕ) → AreClear l → AreClear m → text_of l ++ r ≡ text_of m → Begins l m r
lines_begin [] m r h k e = record { behind = m; lines = refl; text = e }
lines_begin (x ∷ l) [] r h k e = absurd (no_line (first x) (others x) (text_of l ++ r) (sym e ∙ append_assoc (line_text x) (text_of l) r ∙ shape x (text_of l ++ r)))
lines_begin (x ∷ l) (y ∷ m) r h k e =
    let c = one_line (first x) (others x) (first y) (others y) (text_of l ++ r) (text_of m) (first_is x, others_are x h.0) (first_is y, others_are y k.0)
    (sym (append_assoc (line_text x) (text_of l) r ∙ shape x (text_of l ++ r)) ∙ e ∙ shape y (text_of m)) in
    let b = lines_begin l m r h.1 k.1 c.1 in
    let s = words_once x y h.0 k.0 (ap head_of c.0) (ap tail_of c.0) in
    record { behind = b.behind; lines = ap₂ (λ (a : Line) (t : List Line). a ∷ t) (sym s) b.lines; text = b.text }
