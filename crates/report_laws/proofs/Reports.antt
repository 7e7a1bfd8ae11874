-- The reports of listings, walks and traces as lines, and what their lines tell.
use Rattle.std.proofs.Common.{◌≡◌, ◌∙◌, sym, ap, ap₂, refl, ℕ, suc, ◌+◌, ◌^◌, ◌<◌, inl, inr, Bool, true, false, List, [], ◌∷◌, ◌++◌, length, All, append_assoc, append-nil, arith, if◌then◌else◌, nat_eq}
use Rattle.cc_base.specs.declared.inputs.Input.{Input}
use Rattle.cc_base.specs.declared.inputs.Test.{Test}
use Rattle.cc_base.specs.declared.outcomes.Outcome.{Outcome}
use Rattle.cc_base.specs.Limits.{Limits}
use Rattle.cc_base.specs.Outcomes.{HasByte}
use Rattle.cc_base.specs.Paths.{In}
use Rattle.cc_model.specs.Core.{Program}
use Rattle.cc_model.specs.Listing.{Item, test_item, Listing, path_count, run_count, counts_of}
use Rattle.cc_model.specs.Meaning.{Entry}
use Rattle.cc_model.specs.Plain.{plain}
use Rattle.cc_model.specs.Report.{bounds_line, item_line, item_lines, term_lines, complete_line, incomplete_line, report_text, total}
use Rattle.cc_model.specs.Runs.{path_of, run_of, path_at}
use Rattle.cc_model.specs.Tested.{Term}
use Rattle.replay.specs.ReportFiles.{AreBounds}
use Rattle.report_words.proofs.Bytes.{all_first, all_later}
use Rattle.search_base.specs.Readable.{IsNarrow}
use Rattle.report_laws.specs.Traces.{ToldEvent, ToldRun, event_text, event_lines, test_at, trace_text, told_events, told}
use Rattle.report_laws.specs.Walks.{Walk, walk_report}
use Rattle.report_laws.specs.Words.{HasItemWords, HasNarrowLines, HasWords, HasWalkWords, HasTraceWords}
use Rattle.report_laws.proofs.LineWords.{Line, bounds, item, term, event, complete, incomplete, ended, line_text, text_of, IsClear, AreClear}
use Rattle.report_laws.proofs.Lines.{lines_once}

-- ---- items and terms before other lines

abbrev pub items_then : List Item → List Line → List Line
items_then [] r = r
items_then (x ∷ l) r = item x ∷ items_then l r

abbrev pub terms_then : List Term → List Line → List Line
terms_then [] r = r
terms_then (e ∷ l) r = term e ∷ terms_then l r

items_text : (l : List Item) (r : List Line) → text_of (items_then l r) ≡ item_lines l ++ text_of r
items_text [] r = refl
items_text (x ∷ l) r = ap (λ t. item_line x ++ t) (items_text l r) ∙ sym (append_assoc (item_line x) (item_lines l) (text_of r))

terms_text : (l : List Term) (r : List Line) → text_of (terms_then l r) ≡ term_lines l ++ text_of r
terms_text [] r = refl
terms_text (e ∷ l) r = ap (λ t. line_text (term e) ++ t) (terms_text l r) ∙ sym (append_assoc (line_text (term e)) (term_lines l) (text_of r))

items_clear : (l : List Item) (r : List Line) → ((x : Item) → In x l → HasItemWords x) → AreClear r → AreClear (items_then l r)
items_clear [] r h k = k
items_clear (x ∷ l) r h k = (h x (inl refl), items_clear l r (λ y i. h y (inr i)) k)

terms_clear : (l : List Term) (r : List Line) → ((e : Term) → In e l → IsNarrow e) → AreClear r → AreClear (terms_then l r)
terms_clear [] r h k = k
terms_clear (e ∷ l) r h k = (h e (inl refl), terms_clear l r (λ f i. h f (inr i)) k)

-- ---- what lines tell

abbrev limits_in : Limits → List Line → Limits
limits_in d [] = d
limits_in d (bounds b ∷ l) = b
limits_in d (_ ∷ l) = d

abbrev items_in : List Line → List Item
items_in [] = []
items_in (item x ∷ l) = x ∷ items_in l
items_in (_ ∷ l) = items_in l

abbrev terms_in : List Line → List Term
terms_in [] = []
terms_in (term e ∷ l) = e ∷ terms_in l
terms_in (_ ∷ l) = terms_in l

abbrev events_in : List Line → List ToldEvent
events_in [] = []
events_in (event i e ∷ l) = e ∷ events_in l
events_in (_ ∷ l) = events_in l

-- what a report ends as
pub data Kind : Type 0 where
  listing : Kind
  walk : (runs covered outcomes : ℕ) → Kind
  trace : Kind

abbrev pub kind_in : List Line → Kind
kind_in [] = trace
kind_in (complete p r ∷ l) = listing
kind_in (incomplete c ∷ l) = listing
kind_in (ended r c m ∷ l) = walk r c m
kind_in (_ ∷ l) = kind_in l

module _ (r : List Line) where
  items_items : (l : List Item) → items_in (items_then l r) ≡ l ++ items_in r
  items_items [] = refl
  items_items (x ∷ l) = ap (λ (t : List Item). x ∷ t) (items_items l)

  items_terms : (l : List Item) → terms_in (items_then l r) ≡ terms_in r
  items_terms [] = refl
  items_terms (x ∷ l) = items_terms l

  items_kind : (l : List Item) → kind_in (items_then l r) ≡ kind_in r
  items_kind [] = refl
  items_kind (x ∷ l) = items_kind l

  terms_items : (l : List Term) → items_in (terms_then l r) ≡ items_in r
  terms_items [] = refl
  terms_items (e ∷ l) = terms_items l

  terms_terms : (l : List Term) → terms_in (terms_then l r) ≡ l ++ terms_in r
  terms_terms [] = refl
  terms_terms (e ∷ l) = ap (λ (t : List Term). e ∷ t) (terms_terms l)

  terms_kind : (l : List Term) → kind_in (terms_then l r) ≡ kind_in r
  terms_kind [] = refl
  terms_kind (e ∷ l) = terms_kind l

-- ---- a report of bounds, items, terms and a last line

abbrev pub body : Limits → List Item → List Term → Line → List Line
body b items terms last = bounds b ∷ items_then items (terms_then terms (last ∷ []))

body_text : (b : Limits) (items : List Item) (terms : List Term) (last : Line) → text_of (body b items terms last) ≡ bounds_line b ++ item_lines items ++ term_lines terms ++ line_text last
body_text b items terms last =
    ap (λ t. bounds_line b ++ t) (items_text items (terms_then terms (last ∷ [])) ∙ ap (λ t. item_lines items ++ t) (terms_text terms (last ∷ []) ∙ ap (λ t. term_lines terms ++ t) (append-nil (line_text last))))
    ∙ sym (append_assoc (bounds_line b ++ item_lines items) (term_lines terms) (line_text last) ∙ append_assoc (bounds_line b) (item_lines items) (term_lines terms ++ line_text last))

body_clear : (b : Limits) (items : List Item) (terms : List Term) (last : Line) → AreBounds b → ((x : Item) → In x items → HasItemWords x) → ((e : Term) → In e terms → IsNarrow e) → IsClear last →
    AreClear (body b items terms last)
body_clear b items terms last h k n c = (h, items_clear items (terms_then terms (last ∷ [])) k (terms_clear terms (last ∷ []) n (c, tt)))

-- a last line holds no item and no term
record IsLast (x : Line) : Type 0 where
  items : items_in (x ∷ []) ≡ []
  terms : terms_in (x ∷ []) ≡ []

body_items : (b : Limits) (items : List Item) (terms : List Term) (last : Line) → IsLast last → items_in (body b items terms last) ≡ items
body_items b items terms last h = items_items (terms_then terms (last ∷ [])) items ∙ ap (λ t. items ++ t) (terms_items (last ∷ []) terms ∙ h.items) ∙ append-nil items

body_terms : (b : Limits) (items : List Item) (terms : List Term) (last : Line) → IsLast last → terms_in (body b items terms last) ≡ terms
body_terms b items terms last h = items_terms (terms_then terms (last ∷ [])) items ∙ terms_terms (last ∷ []) terms ∙ ap (λ t. terms ++ t) h.terms ∙ append-nil terms

body_kind : (b : Limits) (items : List Item) (terms : List Term) (last : Line) → kind_in (body b items terms last) ≡ kind_in (last ∷ [])
body_kind b items terms last = items_kind (terms_then terms (last ∷ [])) items ∙ terms_kind (last ∷ []) terms

-- ---- listings

abbrev pub last_as : Listing → Bool → Line
last_as l true = complete (path_count l) (run_count l)
last_as l false = incomplete (counts_of l)

abbrev pub last_of : Listing → Line
last_of l = last_as l (nat_eq (total (counts_of l)) 0)

last_text : (l : Listing) (q : Bool) → line_text (last_as l q) ≡ (if q then complete_line l else incomplete_line (counts_of l))
last_text l true = refl
last_text l false = refl

last_is : (l : Listing) (q : Bool) → IsLast (last_as l q)
last_is l true = record { items = refl; terms = refl }
last_is l false = record { items = refl; terms = refl }

last_kind : (l : Listing) (q : Bool) → kind_in (last_as l q ∷ []) ≡ listing
last_kind l true = refl
last_kind l false = refl

last_clear : (l : Listing) (q : Bool) → HasNarrowLines l → IsClear (last_as l q)
last_clear l true h = (h.paths, h.runs)
last_clear l false h = h.counts

abbrev pub listing_lines : Listing → List Line
listing_lines l = body l.bounds l.items l.terms (last_of l)

pub listing_text : (l : Listing) → text_of (listing_lines l) ≡ report_text l
listing_text l = body_text l.bounds l.items l.terms (last_of l) ∙ ap (λ t. bounds_line l.bounds ++ item_lines l.items ++ term_lines l.terms ++ t) (last_text l (nat_eq (total (counts_of l)) 0))

pub listing_clear : (l : Listing) → HasWords l → AreClear (listing_lines l)
listing_clear l h = body_clear l.bounds l.items l.terms (last_of l) h.bounds h.items (h.narrow).terms (last_clear l (nat_eq (total (counts_of l)) 0) h.narrow)

pub listing_kind : (l : Listing) → kind_in (listing_lines l) ≡ listing
listing_kind l = body_kind l.bounds l.items l.terms (last_of l) ∙ last_kind l (nat_eq (total (counts_of l)) 0)

listing_items : (l : Listing) → items_in (listing_lines l) ≡ l.items
listing_items l = body_items l.bounds l.items l.terms (last_of l) (last_is l (nat_eq (total (counts_of l)) 0))

listing_terms : (l : Listing) → terms_in (listing_lines l) ≡ l.terms
listing_terms l = body_terms l.bounds l.items l.terms (last_of l) (last_is l (nat_eq (total (counts_of l)) 0))

pub one_listing : (l m : Listing) → HasWords l → HasWords m → report_text l ≡ report_text m → l ≡ m
one_listing l m h k e =
    let s = lines_once (listing_lines l) (listing_lines m) (listing_clear l h) (listing_clear m k) (listing_text l ∙ e ∙ sym (listing_text m)) in
    let i = sym (listing_items l) ∙ ap items_in s ∙ listing_items m in
    let t = sym (listing_terms l) ∙ ap terms_in s ∙ listing_terms m in
    ap₂ (λ (x : Limits) (y : List Item). made x y l.terms) (ap (limits_in l.bounds) s) i ∙ ap (λ (z : List Term). made m.bounds m.items z) t
  where
    made : Limits → List Item → List Term → Listing
    made b i t = record { bounds = b; items = i; terms = t }

-- ---- walks

abbrev pub walk_lines : Walk → List Line
walk_lines w = body w.bounds w.items w.terms (ended w.runs w.covered w.outcomes)

pub walk_text : (w : Walk) → text_of (walk_lines w) ≡ walk_report w
walk_text w = body_text w.bounds w.items w.terms (ended w.runs w.covered w.outcomes)

pub walk_clear : (w : Walk) → HasWalkWords w → AreClear (walk_lines w)
walk_clear w h = body_clear w.bounds w.items w.terms (ended w.runs w.covered w.outcomes) h.bounds h.items h.terms (h.runs, h.covered, h.outcomes)

walk_last : (r c m : ℕ) → IsLast (ended r c m)
walk_last r c m = record { items = refl; terms = refl }

pub walk_kind : (w : Walk) → kind_in (walk_lines w) ≡ walk w.runs w.covered w.outcomes
walk_kind w = body_kind w.bounds w.items w.terms (ended w.runs w.covered w.outcomes)

walk_items : (w : Walk) → items_in (walk_lines w) ≡ w.items
walk_items w = body_items w.bounds w.items w.terms (ended w.runs w.covered w.outcomes) (walk_last w.runs w.covered w.outcomes)

walk_terms : (w : Walk) → terms_in (walk_lines w) ≡ w.terms
walk_terms w = body_terms w.bounds w.items w.terms (ended w.runs w.covered w.outcomes) (walk_last w.runs w.covered w.outcomes)

-- the numbers of a walk's last line
abbrev runs_of : Kind → ℕ
runs_of (walk r c m) = r
runs_of _ = 0

abbrev covered_of : Kind → ℕ
covered_of (walk r c m) = c
covered_of _ = 0

abbrev outcomes_of : Kind → ℕ
outcomes_of (walk r c m) = m
outcomes_of _ = 0

pub one_walk : (w v : Walk) → HasWalkWords w → HasWalkWords v → walk_report w ≡ walk_report v → w ≡ v
one_walk w v h k e =
    let s = lines_once (walk_lines w) (walk_lines v) (walk_clear w h) (walk_clear v k) (walk_text w ∙ e ∙ sym (walk_text v)) in
    let i = sym (walk_items w) ∙ ap items_in s ∙ walk_items v in
    let t = sym (walk_terms w) ∙ ap terms_in s ∙ walk_terms v in
    let n : walk w.runs w.covered w.outcomes ≡ walk v.runs v.covered v.outcomes = sym (walk_kind w) ∙ ap kind_in s ∙ walk_kind v in
    ap₂ (λ (x : Limits) (y : List Item). made x y w.terms w.runs w.covered w.outcomes) (ap (limits_in w.bounds) s) i
    ∙ ap₂ (λ (z : List Term) (r : ℕ). made v.bounds v.items z r w.covered w.outcomes) t (ap runs_of n)
    ∙ ap₂ (λ (c m : ℕ). made v.bounds v.items v.terms v.runs c m) (ap covered_of n) (ap outcomes_of n)
  where
    made : Limits → List Item → List Term → ℕ → ℕ → ℕ → Walk
    made b i t r c m = record { bounds = b; items = i; terms = t; runs = r; covered = c; outcomes = m }

-- ---- traces

abbrev events_then : ℕ → List ToldEvent → List Line → List Line
events_then i [] r = r
events_then i (e ∷ l) r = event i e ∷ events_then (suc i) l r

events_text : (line : ℕ → ℕ) (i : ℕ) (log : List (Entry Outcome)) (r : List Line) → text_of (events_then i (told_events line log) r) ≡ event_lines line i log ++ text_of r
events_text line i [] r = refl
events_text line i (a ∷ l) r =
    ap (λ t. event_text i a.event (line a.token) a.kind ++ t) (events_text line (suc i) l r)
    ∙ sym (append_assoc (event_text i a.event (line a.token) a.kind) (event_lines line (suc i) l) (text_of r))

events_clear : (line : ℕ → ℕ) (i : ℕ) (log : List (Entry Outcome)) (r : List Line) → ((t : ℕ) → line t < 2 ^ 64) → All HasByte (path_of plain log) → i + length log < 2 ^ 64 → AreClear r →
    AreClear (events_then i (told_events line log) r)
events_clear line i [] r lines bytes few h = h
events_clear line i (a ∷ l) r lines bytes few h = (
  (omega (arith, few), all_first HasByte a.event (path_of plain l) bytes, lines a.token),
  events_clear line (suc i) l r lines (all_later HasByte a.event (path_of plain l) bytes) (omega (arith, few)) h,
)

events_are : (i : ℕ) (l : List ToldEvent) (r : List Line) → events_in (events_then i l r) ≡ l ++ events_in r
events_are i [] r = refl
events_are i (e ∷ l) r = ap (λ (t : List ToldEvent). e ∷ t) (events_are (suc i) l r)

events_items : (i : ℕ) (l : List ToldEvent) (r : List Line) → items_in (events_then i l r) ≡ items_in r
events_items i [] r = refl
events_items i (e ∷ l) r = events_items (suc i) l r

events_kind : (i : ℕ) (l : List ToldEvent) (r : List Line) → kind_in (events_then i l r) ≡ kind_in r
events_kind i [] r = refl
events_kind i (e ∷ l) r = events_kind (suc i) l r

abbrev told_lines : ToldRun → List Line
told_lines r = bounds r.bounds ∷ events_then 1 r.events (item (test_item r.test) ∷ [])

trace_lines_text : (p : Program) (b : Limits) (h : Input) → text_of (told_lines (told p b h)) ≡ trace_text p b h
trace_lines_text p b h = ap (λ t. bounds_line b ++ t)
    (events_text p.line 1 (run_of p b h).log (item (test_item (test_at p b h)) ∷ []) ∙ ap (λ t. event_lines p.line 1 (run_of p b h).log ++ t) (append-nil (item_line (test_item (test_at p b h)))))

trace_clear : (p : Program) (b : Limits) (h : Input) → HasTraceWords p b h → AreClear (told_lines (told p b h))
unfolding path_at
trace_clear p b h w =
    let t = w.told in let few = t.few in let high = ((w.bounds).in_range).depth_high in
    (w.bounds, events_clear p.line 1 (run_of p b h).log (item (test_item (test_at p b h)) ∷ []) t.lines t.bytes (omega (arith, few, high)) (record { bytes = t.bytes; line = t.end; input = w.input }, tt))

told_events_are : (r : ToldRun) → events_in (told_lines r) ≡ r.events
told_events_are r = events_are 1 r.events (item (test_item r.test) ∷ []) ∙ append-nil r.events

told_items : (r : ToldRun) → items_in (told_lines r) ≡ test_item r.test ∷ []
told_items r = events_items 1 r.events (item (test_item r.test) ∷ [])

told_kind : (r : ToldRun) → kind_in (told_lines r) ≡ trace
told_kind r = events_kind 1 r.events (item (test_item r.test) ∷ [])

-- the test of the first item, where that is one
abbrev first_test : Test → List Item → Test
first_test d (test_item t ∷ l) = t
first_test d _ = d

same_told : (r s : ToldRun) → told_lines r ≡ told_lines s → r ≡ s
same_told r s e =
    let v = sym (told_events_are r) ∙ ap events_in e ∙ told_events_are s in
    let t : test_item r.test ∷ [] ≡ test_item s.test ∷ [] = sym (told_items r) ∙ ap items_in e ∙ told_items s in
    ap₂ (λ (x : Limits) (y : List ToldEvent). made x y r.test) (ap (limits_in r.bounds) e) v ∙ ap (λ (z : Test). made s.bounds s.events z) (ap (first_test r.test) t)
  where
    made : Limits → List ToldEvent → Test → ToldRun
    made b e t = record { bounds = b; events = e; test = t }

pub one_run : (p q : Program) (b c : Limits) (g h : Input) → HasTraceWords p b g → HasTraceWords q c h → trace_text p b g ≡ trace_text q c h → told p b g ≡ told q c h
one_run p q b c g h v w e =
    same_told (told p b g) (told q c h)
    (lines_once (told_lines (told p b g)) (told_lines (told q c h)) (trace_clear p b g v) (trace_clear q c h w) (trace_lines_text p b g ∙ e ∙ sym (trace_lines_text q c h)))

-- ---- the three kinds differ

-- which kind it is
abbrev pub rank : Kind → ℕ
rank listing = 0
rank (walk r c m) = 1
rank trace = 2

pub listing_or_walk : (l : Listing) (w : Walk) → HasWords l → HasWalkWords w → report_text l ≡ walk_report w → ⊥
listing_or_walk l w h k e =
    let s = lines_once (listing_lines l) (walk_lines w) (listing_clear l h) (walk_clear w k) (listing_text l ∙ e ∙ sym (walk_text w)) in
    let n = ap rank (sym (listing_kind l) ∙ ap kind_in s ∙ walk_kind w) in omega (arith, n)

pub listing_or_trace : (l : Listing) (p : Program) (b : Limits) (i : Input) → HasWords l → HasTraceWords p b i → report_text l ≡ trace_text p b i → ⊥
listing_or_trace l p b i h k e =
    let s = lines_once (listing_lines l) (told_lines (told p b i)) (listing_clear l h) (trace_clear p b i k) (listing_text l ∙ e ∙ sym (trace_lines_text p b i)) in
    let n = ap rank (sym (listing_kind l) ∙ ap kind_in s ∙ told_kind (told p b i)) in omega (arith, n)

pub walk_or_trace : (w : Walk) (p : Program) (b : Limits) (i : Input) → HasWalkWords w → HasTraceWords p b i → walk_report w ≡ trace_text p b i → ⊥
walk_or_trace w p b i h k e =
    let s = lines_once (walk_lines w) (told_lines (told p b i)) (walk_clear w h) (trace_clear p b i k) (walk_text w ∙ e ∙ sym (trace_lines_text p b i)) in
    let n = ap rank (sym (walk_kind w) ∙ ap kind_in s ∙ told_kind (told p b i)) in omega (arith, n)
