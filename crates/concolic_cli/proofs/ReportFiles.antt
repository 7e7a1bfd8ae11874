-- A report is a tests file of its program.
use Rattle.std.proofs.Common.{◌≡◌, ◌∙◌, sym, ap, refl, subst, ℕ, suc, ◌+◌, ◌^◌, ◌<◌, pos, ◌≤ℤ◌, inl, inr, Bool, true, false, List, [], ◌∷◌, ◌++◌, length, Option, All, codes, append_assoc, arith, if◌then◌else◌, nat_eq}
use Rattle.std.proofs.lemmas.Int.{ints}
use Rattle.std.specs.Fmt.{decimal}
use Rattle.cc_base.specs.declared.inputs.Input.{Input}
use Rattle.cc_base.specs.declared.inputs.Test.{Test}
use Rattle.cc_base.specs.declared.outcomes.Outcome.{Outcome}
use Rattle.cc_base.specs.Limits.{Limits}
use Rattle.cc_base.specs.Outcomes.{byte_of, HasByte}
use Rattle.cc_base.specs.Paths.{Path, In}
use Rattle.cc_model.specs.declared.commands.Command.TheVariants.{Run, Trace}
use Rattle.cc_model.specs.declared.commands.RunWords.{RunWords}
use Rattle.cc_model.specs.declared.commands.TraceWords.{TraceWords}
use Rattle.cc_model.specs.declared.checked.SiteKind.{SiteKind}
use Rattle.cc_model.specs.declared.checked.SiteKind.TheVariants as site
use Rattle.cc_model.specs.CheckedProgram.{core_of}
use Rattle.cc_model.specs.Core.{Program}
use Rattle.cc_model.specs.Graphs.{PointsToCells}
use Rattle.cc_model.specs.Listing.{Item, test_item, past_item, stray_item, spent_item, unrun_item, Listing, counts_of, WasRun}
use Rattle.cc_model.specs.Meaning.{Entry}
use Rattle.cc_model.specs.Plain.{plain}
use Rattle.cc_model.specs.Reads.{shallow}
use Rattle.cc_model.specs.Report.{newline, bounds_line, item_line, item_lines, term_lines, last_line, complete_line, incomplete_line, report_text, total}
use Rattle.cc_model.specs.Runs.{IsInput, params_of, path_of, run_of, path_at}
use Rattle.cc_model.specs.Source.{IsProgram, text_at}
use Rattle.cc_model.specs.Tested.{Term, Real, tested}
use Rattle.cc_laws.proofs.Pointed.{points_to_cells}
use Rattle.cc_outside.specs.Held.{Held}
use Rattle.cc_outside.specs.Told.{appended}
use Rattle.command_words.specs.Words as words
use Rattle.command_words.specs.Words.{Accepted}
use Rattle.command_words.proofs.Forms.{Form, a_run, a_trace, a_replay, a_make, form_of}
use Rattle.input_map.specs.TestTexts.{IsGood, IsShortInput}
use Rattle.input_map.proofs.ShortNumbers.{has_map}
use Rattle.report_words.proofs.Bytes.{all_first, all_later}
use Rattle.replay.specs.Files.{IsTestsFile}
use Rattle.replay.specs.Forms as form
use Rattle.replay.specs.ReportFiles.{IsGoodItem, ran, AreBounds}
use Rattle.replay.proofs.ReportLines.{IsOtherLine, event_line_is, complete_line_is, incomplete_line_is, ended_line_is}
use Rattle.replay.proofs.ReportFiles.{HasTests, other_line, test_alone, file_is, report_is}
use Rattle.search_base.specs.Readable.{HasTestLine, CanBeRead, IsNarrow}
use Rattle.search_walks.specs.declared.log.WalkSummary.{WalkSummary}
use Rattle.search_walks.specs.Output.{HasNumbers, ended_line}
use Rattle.concolic_cli.specs.Listings.{test_at, HasNarrowLines}
use Rattle.concolic_cli.specs.ReportFiles.{WroteTestsFile, WroteTestFile, WroteWalkFile}
use Rattle.concolic_cli.specs.Session.{Wrote}
use Rattle.concolic_cli.specs.Tasks.{list_task, walk_task, trace_task}
use Rattle.concolic_cli.specs.WalkReports.{walk_text}
use Rattle.concolic_cli.proofs.WalkLaws.{begins_run}
use Rattle.concolic_cli.specs.TraceText.{site_text, event_text, event_lines, trace_text, CanBeTold}

-- ---- the bounds of the words

pub bounds_are : (options : List (List ℕ)) (b : Limits) → words.AreBounds options b → pos 1 ≤ℤ pos b.depth → pos b.depth ≤ℤ pos 1024 → AreBounds b
bounds_are options b h low high =
    let o = (h.objects).at_least in
    let p = (h.objects).at_most in
    let s = (h.steps).at_least in
    let t = (h.steps).at_most in
    record {
      in_range = record {
        numbers = h.ordered;
        depth_low = omega (ints, arith, low);
        depth_high = omega (ints, arith, high);
        objects_low = omega (ints, arith, o);
        objects_high = omega (ints, arith, p);
        steps_low = omega (ints, arith, s);
        steps_high = omega (ints, arith, t);
      };
      at_least = (h.lo).at_least;
      at_most = (h.hi).at_most;
    }

pub run_bounds : (l : List (List ℕ)) (r : RunWords) → Accepted l (Run r) → AreBounds r.bounds
run_bounds l r a = by_form (form_of l (Run r) a)
  where
    by_form : Form l (Run r) → AreBounds r.bounds
    by_form (a_run i) = let e = i.command_is in let same : i.bounds ≡ r.bounds = cc e in subst AreBounds same (bounds_are i.options i.bounds i.bounds_are (i.depth_is).at_least (i.depth_is).at_most)
    by_form (a_trace t) = let e = t.command_is in absurd (cc e)
    by_form (a_replay t) = let e = t.command_is in absurd (cc e)
    by_form (a_make m) = let e = m.command_is in absurd (cc e)

pub trace_bounds : (l : List (List ℕ)) (r : TraceWords) → Accepted l (Trace r) → AreBounds r.bounds
trace_bounds l r a = by_form (form_of l (Trace r) a)
  where
    by_form : Form l (Trace r) → AreBounds r.bounds
    by_form (a_run i) = let e = i.command_is in absurd (cc e)
    by_form (a_trace t) = let e = t.command_is in let same : t.bounds ≡ r.bounds = cc e in subst AreBounds same (bounds_are t.options t.bounds t.bounds_are (t.depth_is).at_least (t.depth_is).at_most)
    by_form (a_replay t) = let e = t.command_is in absurd (cc e)
    by_form (a_make m) = let e = m.command_is in absurd (cc e)

-- ---- good items

-- of a program that the bytes are, each type that a pointer points to has a cell
points : (bytes entry : List ℕ) (p : Program) → IsProgram bytes entry p → PointsToCells p.layouts (params_of p)
points bytes entry p i = subst (λ q. PointsToCells q.layouts (params_of q)) (sym i.core) (points_to_cells i.checked (text_at bytes i.tokens) i.tokens entry shallow i.right i.read)

module _ (p : Program) (b : Limits) (well : PointsToCells p.layouts (params_of p)) (bounds : AreBounds b) where
  short_input : (h : Input) → IsInput p b h → length h.cells < 10 ^ 18 → IsShortInput p b h
  short_input h w few = let m = has_map b bounds.at_least bounds.at_most p.layouts (params_of p) h well w few in record { cells = m.cells; stream = m.stream; within = w }

  good_test : (t : Test) → Real (tested p b) t → HasTestLine t → IsGood p b t
  good_test t r h = record { bytes = h.bytes; line = h.line; input = short_input t.input r.within h.cells }

  -- items that are real, or of inputs within the bounds, and that can be read
  pub good_items : (items : List Item) → ((t : Test) → WasRun t items → Real (tested p b) t) → ((i : Input) (w : Path) → In (unrun_item i w) items → IsInput p b i) →
      ((x : Item) → In x items → CanBeRead x) → (x : Item) → In x items → IsGoodItem p b x
  good_items items real within read (test_item t) i = good_test t (real t (inl (inl i))) (read (test_item t) i)
  good_items items real within read (past_item t) i = good_test t (real t (inl (inr i))) (read (past_item t) i)
  good_items items real within read (stray_item t q) i = let r = read (stray_item t q) i in (good_test t (real t (inr (q, i))) r.0, r.1)
  good_items items real within read (spent_item q) i = read (spent_item q) i
  good_items items real within read (unrun_item h q) i = let r = read (unrun_item h q) i in (short_input h (within h q i) r.0, r.1)

-- ---- a listing

either : (p : Program) (b : Limits) (q : Bool) (x y : List ℕ) → IsOtherLine p b x → IsOtherLine p b y → IsOtherLine p b (if q then x else y)
either p b true x y h g = h
either p b false x y h g = g

last_is : (p : Program) (b : Limits) (l : Listing) → HasNarrowLines l → IsOtherLine p b (last_line l)
last_is p b l n = either p b (nat_eq (total (counts_of l)) 0) (complete_line l) (incomplete_line (counts_of l)) (complete_line_is p b _ _ n.paths n.runs) (incomplete_line_is p b (counts_of l) n.counts)

pub listing_is_file : (p : Program) (b : Limits) (l : Listing) → PointsToCells p.layouts (params_of p) → AreBounds b → l.bounds ≡ b → ((x : Item) → In x l.items → IsGoodItem p b x) → HasNarrowLines l →
    (lines : List ℕ) × IsTestsFile p (report_text l) b (ran l.items) lines
listing_is_file p b l well bounds same good n =
    let r = report_is p b l.items l.terms (last_line l) bounds good (λ e i. let w = n.terms e i in record { line = w.line; col = w.col }) (last_is p b l n) in
    (r.0, subst (λ c. IsTestsFile p (bounds_line c ++ item_lines l.items ++ term_lines l.terms ++ last_line l) b (ran l.items) r.0) (sym same) r.1)

walk_is_file : (p : Program) (b : Limits) (items : List Item) (terms : List Term) (summary : WalkSummary) → PointsToCells p.layouts (params_of p) → AreBounds b → ((x : Item) → In x items → IsGoodItem p b x) →
    ((e : Term) → In e terms → IsNarrow e) → HasNumbers summary → (lines : List ℕ) × IsTestsFile p (walk_text b items terms summary) b (ran items) lines
walk_is_file p b items terms summary well bounds good narrow n =
    report_is p b items terms (ended_line summary) bounds good (λ e i. let w = narrow e i in record { line = w.line; col = w.col }) (ended_line_is p b summary.runs summary.covered summary.outcomes n.runs n.covered n.outcomes)

-- of the program that the bytes are, the tests are real
walk_real : (bytes entry : List ℕ) (p : Program) (i : IsProgram bytes entry p) (b : Limits) (items : List Item) → ((t : Test) → WasRun t items → Real (tested (core_of i.checked) b) t) → (t : Test) → WasRun t items → Real (tested p b) t
walk_real bytes entry p i b items h t w = subst (λ q. Real (tested q b) t) (sym i.core) (h t w)

-- ---- what was written

pub file_of_run : (l : List (List ℕ)) (held : Option Held) (old new : Option (List ℕ)) (r : RunWords) (after : Option Path) (status : ℕ) → Accepted l (Run r) → Wrote held old new (list_task l r after) status →
    WroteTestsFile l held old new r
file_of_run l held old new r after status a w =
    let h = w.report in
    let k = h.lists in
    let bounds = run_bounds l r a in
    let well = points w.bytes _ h.program h.source in
    let f = listing_is_file h.program r.bounds h.listing well bounds k.bounds
    (good_items h.program r.bounds well bounds (h.listing).items (k.sound).real (k.sound).unrun_within k.few) k.narrow in
    record {
      bytes = w.bytes;
      program = h.program;
      listing = h.listing;
      lines = f.0;
      read = w.read;
      source = h.source;
      written = w.written ∙ ap (appended old) h.text_is;
      file = f.1;
    }

pub file_of_walk : (l : List (List ℕ)) (held : Option Held) (old new : Option (List ℕ)) (r : RunWords) (status : ℕ) → Accepted l (Run r) → Wrote held old new (walk_task l r) status → WroteWalkFile l held old new r
file_of_walk l held old new r status a w =
    let h = w.report in
    let k = h.whole in
    let bounds = run_bounds l r a in
    let well = points w.bytes _ h.program h.source in
    let n = k.numbers in
    let f = walk_is_file h.program r.bounds h.items h.terms h.summary well bounds
    (good_items h.program r.bounds well bounds h.items (walk_real w.bytes _ h.program h.source r.bounds h.items (k.walks).real) (λ i q j. absurd (begins_run r.strategy _ _ r.runs r.seed false h.items (k.walks).begins i q j)) k.few) k.narrow n in
    record {
      bytes = w.bytes;
      program = h.program;
      items = h.items;
      terms = h.terms;
      summary = h.summary;
      lines = f.0;
      read = w.read;
      source = h.source;
      written = w.written ∙ ap (appended old) h.text_is;
      file = f.1;
    }

-- ---- a run that is told

site_same : (k : SiteKind) → site_text k ≡ form.site_text k
site_same site.Decision = refl
site_same site.Fit = refl
site_same site.Divisor = refl
site_same site.Index = refl
site_same site.Access = refl

module _ (p : Program) (b : Limits) where
  event_whole : (i : ℕ) (o : Outcome) (n : ℕ) (k : SiteKind) → i < 2 ^ 64 → HasByte o → n < 2 ^ 64 → IsOtherLine p b (event_text i o n k)
  event_whole i o n k h has l =
      subst (λ t. IsOtherLine p b (codes "event " ++ decimal i ++ codes " " ++ (byte_of o ∷ []) ++ codes " " ++ decimal n ++ codes " " ++ t ++ newline)) (sym (site_same k)) (event_line_is p b i o n k h has l)

  pub events_are : (n i : ℕ) (line : ℕ → ℕ) (log : List (Entry Outcome)) (rest : List ℕ) (ts : List Test) → ((t : ℕ) → line t < 2 ^ 64) → All HasByte (path_of plain log) → i + length log < 2 ^ 64 →
      ((m : ℕ) → HasTests p b m rest ts) → HasTests p b n (event_lines line i log ++ rest) ts
  events_are n i line [] rest ts lines bytes few h = h n
  events_are n i line (a ∷ l) rest ts lines bytes few h =
      let r = other_line p b n (event_text i a.event (line a.token) a.kind) (event_lines line (suc i) l ++ rest) ts
      (event_whole i a.event (line a.token) a.kind (omega (arith, few)) (all_first HasByte a.event (path_of plain l) bytes) (lines a.token))
      (events_are (suc n) (suc i) line l rest ts lines (all_later HasByte a.event (path_of plain l) bytes) (omega (arith, few)) h) in
      subst (λ t. HasTests p b n t ts) (sym (append_assoc (event_text i a.event (line a.token) a.kind) (event_lines line (suc i) l) rest)) r

  pub trace_is_file : (h : Input) → AreBounds b → CanBeTold p b h → IsShortInput p b h → (lines : List ℕ) × IsTestsFile p (trace_text p b h) b (test_at p b h ∷ []) lines
  unfolding path_at
  trace_is_file h bounds told short =
      let good : IsGood p b (test_at p b h) = record { bytes = told.bytes; line = told.end; input = short } in
      let few = told.few in
      let high = (bounds.in_range).depth_high in
      file_is p b (event_lines p.line 1 (run_of p b h).log ++ item_line (test_item (test_at p b h))) (test_at p b h ∷ []) bounds
      (events_are 2 1 p.line (run_of p b h).log (item_line (test_item (test_at p b h))) (test_at p b h ∷ []) told.lines told.bytes (omega (arith, few, high))
      (λ m. test_alone p b m (test_at p b h) good))

pub file_of_trace : (l : List (List ℕ)) (held : Option Held) (old new : Option (List ℕ)) (r : TraceWords) (status : ℕ) → Accepted l (Trace r) → Wrote held old new (trace_task l r) status → WroteTestFile l held old new r
file_of_trace l held old new r status a w =
    let h = w.report in
    let m = h.named in
    let f = trace_is_file h.program r.bounds h.input (trace_bounds l r a) h.told (record { cells = m.cells; stream = m.stream; within = h.within }) in
    record {
      bytes = w.bytes;
      program = h.program;
      input = h.input;
      lines = f.0;
      read = w.read;
      source = h.source;
      written = w.written ∙ ap (appended old) h.text_is;
      file = f.1;
    }
