-- Which status comes.
use Rattle.std.proofs.Common.{◌≡◌, ℕ, ◌+◌, ◌<◌, ◌≤◌, ◌⊎◌, inl, inr, ⊎_elim, List, [], ◌∷◌, length, Option, Some, None, sym, ap, subst, ◌∙◌, arith}
use Rattle.cc_base.specs.declared.inputs.Input.{Input}
use Rattle.cc_base.specs.Limits.{Limits}
use Rattle.cc_base.specs.Paths.{Path, In}
use Rattle.cc_model.specs.declared.commands.Command.TheVariants.{Run, Trace, Make}
use Rattle.cc_model.specs.declared.commands.RunWords.{RunWords}
use Rattle.cc_model.specs.declared.commands.Strategy.{Strategy}
use Rattle.cc_model.specs.declared.commands.Strategy.TheVariants.{Dfs}
use Rattle.cc_model.specs.declared.commands.TraceWords.{TraceWords}
use Rattle.cc_model.specs.Core.{Program}
use Rattle.cc_model.specs.Listing.{IsComplete}
use Rattle.cc_model.specs.Report.{is_fault}
use Rattle.cc_model.specs.Runs.{IsInput, end_at}
use Rattle.cc_model.specs.Source.{IsProgram}
use Rattle.cc_outside.specs.Faults.{Rose}
use Rattle.cc_outside.specs.Held.{Held, file_of}
use Rattle.input_map.specs.declared.faults.MapFault.{MapFault}
use Rattle.input_map.specs.CellFaults.{Refused}
use Rattle.input_map.specs.Maps.{IsMap}
use Rattle.concolic_cli.specs.Concolic.{Call, IsSource, IsSourceOf, Headline, SourceIsRefused, FileFault, NamesFile, its_source, its_tests, FileIsRefused, IsRefusal}
use Rattle.search_dfs.specs.Missed.{IsEasy, HoldsPaths, room}
use Rattle.concolic_cli.specs.Made.{made_source, made_entry}
use Rattle.concolic_cli.specs.Loaded.{source_limit, tests_limit, ReadAs}
use Rattle.concolic_cli.specs.Session.{Wrote, nothing}
use Rattle.concolic_cli.specs.Sources.{Refuses, fault}
use Rattle.concolic_cli.specs.Tasks.{Task, list, walk, trace, replay, Asks, asks_list, asks_walk, asks_trace, IsAfter, word_of, list_task, walk_task, trace_task, IsReport, MayStand, MakesAs, RefusesTask}
use Rattle.command_words.specs.Words.{Accepted}
use Rattle.concolic_cli.proofs.Calls.{Ending, at_words, at_report, at_source, at_file, at_output, at_memory, at_make, MakeEnding, at_line, at_made_source, at_made_output, at_made_memory, run_in, small_of, list_status, walk_status}
use Rattle.concolic_cli.proofs.Commands.{OneCommand, one_task, not_make, has_command}
use Rattle.concolic_cli.proofs.Unrefused.{OneProgram, unrefused, reported_unrefused, cut_unrefused, list_unrefused, walk_unrefused, trace_unrefused}
use Rattle.concolic_cli.proofs.Promises.{of_complete}

module _ (call : Call) (status : ℕ) (one : OneCommand) (answered : Ending call status) where
  abbrev Written : Task → Type 0
  Written task = Wrote (call.seen).held (call.seen).out_old (call.seen).out_new task status

  -- ---- which status comes

  module _ (task : Task) (a : Asks call.words task) where
    -- the file of the words is there, and has these bytes
    module _ (h : Held) (told : (call.seen).held ≡ Some h) where
      none_read : (k : Task) (c : List ℕ) → Asks call.words k → file_of task.file h ≡ None → ReadAs (call.seen).held k.file c → ⊥
      none_read k c b none i =
          let same = one_task one call.words k task b a in
          let there : file_of k.file h ≡ Some c = i.told h told in
          let gone : file_of k.file h ≡ None = subst (λ u. file_of u.file h ≡ None) (sym same) none in
          cc (there, gone)

      missing_of : (e : Ending call status) → file_of task.file h ≡ None → (status ≡ 4) ⊎ (status ≡ 7)
      missing_of (at_words n b e s t) none = let c = has_command call.words task a in absurd (b.refused c.0 c.1)
      missing_of (at_report k b i w q) none = absurd (none_read k w.bytes b none w.read)
      missing_of (at_source e r q) none = absurd (none_read r.task r.bytes r.asked none r.read)
      missing_of (at_file e r q) none = inl e
      missing_of (at_output e r k b p t) none = absurd (none_read k p.bytes b none p.read)
      missing_of (at_memory e k b p t) none = inr e
      missing_of (at_make n b m) none = absurd (not_make one call.words task n a b)

      pub missing_file : file_of task.file h ≡ None → (status ≡ 4) ⊎ (status ≡ 7)
      missing_file = missing_of answered

      same_bytes : (k : Task) (c d : List ℕ) → Asks call.words k → file_of task.file h ≡ Some d → ReadAs (call.seen).held k.file c → c ≡ d
      same_bytes k c d b here i =
          let same = one_task one call.words k task b a in
          let there : file_of k.file h ≡ Some c = i.told h told in
          let here' : file_of k.file h ≡ Some d = subst (λ u. file_of u.file h ≡ Some d) (sym same) here in
          cc (there, here')

      long_read : (k : Task) (c d : List ℕ) → Asks call.words k → file_of task.file h ≡ Some d → 1048576 < length d → ReadAs (call.seen).held k.file c → ⊥
      long_read k c d b here long i =
          let same : c ≡ d = same_bytes k c d b here i in
          let short : length d ≤ 1048576 = subst (λ u. length u ≤ 1048576) same i.short in
          omega (arith, short, long)

      too_long_of : (e : Ending call status) (d : List ℕ) → file_of task.file h ≡ Some d → 1048576 < length d → (status ≡ 4) ⊎ (status ≡ 7)
      too_long_of (at_words n b e s t) d here long = let c = has_command call.words task a in absurd (b.refused c.0 c.1)
      too_long_of (at_report k b i w q) d here long = absurd (long_read k w.bytes d b here long w.read)
      too_long_of (at_source e r q) d here long = absurd (long_read r.task r.bytes d r.asked here long r.read)
      too_long_of (at_file e r q) d here long = inl e
      too_long_of (at_output e r k b p t) d here long = absurd (long_read k p.bytes d b here long p.read)
      too_long_of (at_memory e k b p t) d here long = inr e
      too_long_of (at_make n b m) d here long = absurd (not_make one call.words task n a b)

      pub too_long_file : (d : List ℕ) → file_of task.file h ≡ Some d → 1048576 < length d → (status ≡ 4) ⊎ (status ≡ 7)
      too_long_file = too_long_of answered

    -- the files hold a source under the word FILE
    module _ (bytes : List ℕ) (i : IsSource task (call.seen).held bytes) where
      -- the tests file, where the task names one, is held and short
      abbrev pub TestsFine : Type 0
      TestsFine = (tests : List ℕ) → task.work ≡ replay tests → (file : List ℕ) × (file_of tests i.files ≡ Some file) × (length file ≤ tests_limit)

      -- the only fault of a file that is held and short can be that the files failed
      held_failed : (name file : List ℕ) (limit : ℕ) → file_of name i.files ≡ Some file → length file ≤ limit → (what : List ℕ) → FileFault limit (call.seen).held (call.seen).files_old (call.seen).files_new name what →
          Rose (call.seen).files_old (call.seen).files_new
      held_failed name file limit there short what (inl h) = let gone = h.1 i.files i.told in absurd (cc (there, gone))
      held_failed name file limit there short what (inr (inl h)) =
          let l = h.1 i.files i.told in
          let e : l.0 ≡ file = cc (l.1, there) in
          let s : length l.0 ≤ limit = subst (λ u. length u ≤ limit) (sym e) short in
          absurd (omega (arith, s, l.2))
      held_failed name file limit there short what (inr (inr h)) = h.1

      -- no tests of a program of these bytes are replayed
      abbrev pub NoTests : Type 0
      NoTests = (tests : List ℕ) (p : Program) → task.work ≡ replay tests → IsProgram bytes task.entry p → ⊥

      named_failed : TestsFine ⊎ NoTests → (k : Task) (name : List ℕ) (limit : ℕ) (what : List ℕ) → Asks call.words k → NamesFile (call.seen).held k name limit →
          FileFault limit (call.seen).held (call.seen).files_old (call.seen).files_new name what → Rose (call.seen).files_old (call.seen).files_new
      named_failed fine k _ _ what b its_source h =
          let same = one_task one call.words k task b a in
          held_failed k.file bytes source_limit (subst (λ u. file_of u.file i.files ≡ Some bytes) (sym same) i.file) i.short what h
      named_failed (inl fine) k _ _ what b (its_tests tests c p named read source) h =
          let same = one_task one call.words k task b a in
          let f = fine tests (ap (λ (u : Task). u.work) (sym same) ∙ named) in
          held_failed tests f.0 tests_limit f.1 f.2 what h
      named_failed (inr none) k _ _ what b (its_tests tests c p named read source) h =
          let same = one_task one call.words k task b a in
          let whole = subst (λ u. IsProgram u k.entry p) (same_bytes i.files i.told k c bytes b i.file read) source in
          absurd (none tests p (ap (λ (u : Task). u.work) (sym same) ∙ named) (subst (λ u. IsProgram bytes u.entry p) same whole))

      file_failed : TestsFine ⊎ NoTests → FileIsRefused call.words (call.seen).held (call.seen).files_old (call.seen).files_new call.err_old call.err_new call.err_faults_old call.err_faults_new →
          Rose (call.seen).files_old (call.seen).files_new
      file_failed fine r = named_failed fine r.task r.name r.limit r.what r.asked r.names r.cause

      -- what was written is written for these bytes and this task
      reported : (k : Task) (c text : List ℕ) (n : ℕ) → Asks call.words k → ReadAs (call.seen).held k.file c → IsReport (call.seen).held c k.entry k.work text n → IsReport (call.seen).held bytes task.entry task.work text n
      reported k c text n b read r =
          let same = one_task one call.words k task b a in
          subst (λ u. IsReport (call.seen).held bytes u.entry u.work text n) same (subst (λ d. IsReport (call.seen).held d k.entry k.work text n) (same_bytes i.files i.told k c bytes b i.file read) r)

      refused : (r : SourceIsRefused call.words (call.seen).held call.err_old call.err_new call.err_faults_old call.err_faults_new) → RefusesTask (call.seen).held bytes task.entry task.work r.text
      refused r =
          let same = one_task one call.words r.task task r.asked a in
          subst (λ u. RefusesTask (call.seen).held bytes u.entry u.work r.text) same
          (subst (λ d. RefusesTask (call.seen).held d (r.task).entry (r.task).work r.text) (same_bytes i.files i.told r.task r.bytes bytes r.asked i.file r.read) r.refused)

      may_stand : (k : Task) (c text : List ℕ) → Asks call.words k → ReadAs (call.seen).held k.file c → MayStand (call.seen).held c k.entry k.work text → MayStand (call.seen).held bytes task.entry task.work text
      may_stand k c text b read r =
          let same = one_task one call.words k task b a in
          subst (λ u. MayStand (call.seen).held bytes u.entry u.work text) same (subst (λ d. MayStand (call.seen).held d k.entry k.work text) (same_bytes i.files i.told k c bytes b i.file read) r)

      -- where nothing can stand for them, the call is refused
      pub refusal_of : TestsFine ⊎ NoTests → (e : Ending call status) → ((text : List ℕ) (n : ℕ) → IsReport (call.seen).held bytes task.entry task.work text n → ⊥) → ((text : List ℕ) → MayStand (call.seen).held bytes task.entry task.work text → ⊥) →
          IsRefusal (call.seen).files_old (call.seen).files_new status
      refusal_of fine (at_words n b e s t) none cut = let c = has_command call.words task a in absurd (b.refused c.0 c.1)
      refusal_of fine (at_report k b j w q) none cut = absurd (none w.text status (reported k w.bytes w.text status b w.read w.report))
      refusal_of fine (at_source e r q) none cut = inl e
      refusal_of fine (at_file e r q) none cut = inr (inr (e, file_failed fine r))
      refusal_of fine (at_output e r k b p t) none cut = absurd (cut p.text (may_stand k p.bytes p.text b p.read p.may))
      refusal_of fine (at_memory e k b p t) none cut = inr (inl e)
      refusal_of fine (at_make n b m) none cut = absurd (not_make one call.words task n a b)

      -- where they are not refused and nothing fails, the text is written, or memory is wanting
      pub report_of : TestsFine → (e : Ending call status) → ((text : List ℕ) → RefusesTask (call.seen).held bytes task.entry task.work text → ⊥) →
          (Rose (call.seen).files_old (call.seen).files_new → ⊥) → (Rose (call.seen).faults_old (call.seen).faults_new → ⊥) →
          (status ≡ 7) ⊎ Written task
      report_of fine (at_words n b e s t) none f o = let c = has_command call.words task a in absurd (b.refused c.0 c.1)
      report_of fine (at_report k b j w q) none f o = inr (subst (λ u. Written u) (one_task one call.words k task b a) w)
      report_of fine (at_source e r q) none f o = absurd (none r.text (refused r))
      report_of fine (at_file e r q) none f o = absurd (f (file_failed (inl fine) r))
      report_of fine (at_output e r k b p t) none f o = absurd (o r)
      report_of fine (at_memory e k b p t) none f o = inl e
      report_of fine (at_make n b m) none f o = absurd (not_make one call.words task n a b)

      -- the bytes that were read are those that the files hold
      read_bytes : (w : Written task) → w.bytes ≡ bytes
      read_bytes w = same_bytes i.files i.told task w.bytes bytes a i.file w.read

  pub refused_source : OneProgram → (task : Task) (bytes text : List ℕ) → Asks call.words task → IsSource task (call.seen).held bytes → Refuses bytes task.entry text →
      IsRefusal (call.seen).files_old (call.seen).files_new status
  refused_source law task bytes text a i r = refusal_of task a bytes i (inr (λ tests p w is. unrefused law bytes task.entry p text is r)) answered (λ u n h. reported_unrefused law (call.seen).held bytes task.entry task.work u text n h r) (λ u h. cut_unrefused law (call.seen).held bytes task.entry task.work u text h r)

  not_replay : {b : Limits} {map tests : List ℕ} → trace b map ≡ replay tests → ⊥
  not_replay e = cc e

  list_no_tests : {b : Limits} {n m : ℕ} {o : Option Path} {tests : List ℕ} → list b n m o ≡ replay tests → ⊥
  list_no_tests e = cc e

  walk_no_tests : {s : Strategy} {b : Limits} {n m k : ℕ} {tests : List ℕ} → walk s b n m k ≡ replay tests → ⊥
  walk_no_tests e = cc e

  pub refused_map : (t : TraceWords) (bytes : List ℕ) (f : MapFault) → Accepted call.words (Trace t) → IsSource (trace_task call.words t) (call.seen).held bytes →
      IsSourceOf bytes (trace_task call.words t).entry (λ p. Refused p t.bounds (word_of call.words t.map) f) → IsRefusal (call.seen).files_old (call.seen).files_new status
  refused_map t bytes f a i s =
      refusal_of (trace_task call.words t) (asks_trace t a) bytes i (inr (λ tests p w is. not_replay w)) answered (λ u n h. h.unrefused f (s.each h.program h.source)) (λ u h. (h.1).unrefused f (s.each (h.1).program (h.1).source))

  listed_or : In status (0 ∷ 1 ∷ 10 ∷ 11 ∷ []) → In status (0 ∷ 1 ∷ 7 ∷ 10 ∷ 11 ∷ [])
  listed_or (inl e) = inl e
  listed_or (inr (inl e)) = inr (inl e)
  listed_or (inr (inr h)) = inr (inr (inr h))

  pub answers_run : OneProgram → (r : RunWords) (after : Option Path) (bytes : List ℕ) (p : Program) → Accepted call.words (Run r) → r.strategy ≡ Dfs → IsAfter call.words r after →
      IsSource (list_task call.words r after) (call.seen).held bytes → IsProgram bytes (list_task call.words r after).entry p →
      (Rose (call.seen).files_old (call.seen).files_new → ⊥) → (Rose (call.seen).faults_old (call.seen).faults_new → ⊥) → In status (0 ∷ 1 ∷ 7 ∷ 10 ∷ 11 ∷ [])
  answers_run law r after bytes p a v names i is f o =
      ⊎_elim (λ e. inr (inr (inl e))) (λ w. listed_or (list_status (call.seen).held w.bytes (list_task call.words r after).entry r.bounds r.runs r.budget after w.text status w.report))
      (report_of (list_task call.words r after) (asks_list r after a v names) bytes i (λ tests w. absurd (list_no_tests w)) answered (λ text t. list_unrefused law (call.seen).held bytes (list_task call.words r after).entry r.bounds r.runs r.budget after text p is t) f o)

  pub complete : OneProgram → (r : RunWords) (after : Option Path) (bytes : List ℕ) (paths : List Path) → Accepted call.words (Run r) → r.strategy ≡ Dfs → IsAfter call.words r after →
      IsSource (list_task call.words r after) (call.seen).held bytes → IsSourceOf bytes (list_task call.words r after).entry (λ p. IsEasy p r.bounds r.budget × HoldsPaths p r.bounds after paths) →
      length paths + room after ≤ r.runs → (Rose (call.seen).files_old (call.seen).files_new → ⊥) → (Rose (call.seen).faults_old (call.seen).faults_new → ⊥) →
      (status ≡ 7) ⊎ Headline call.words r (call.seen).held (call.seen).out_old (call.seen).out_new status
  complete law r after bytes paths a v names i is few f o =
      ⊎_elim (λ e. inl e) (λ w. inr (of_complete call status one answered r after names w (whole w)))
      (report_of (list_task call.words r after) (asks_list r after a v names) bytes i (λ tests w. absurd (list_no_tests w)) answered (λ text t. list_unrefused law (call.seen).held bytes (list_task call.words r after).entry r.bounds r.runs r.budget after text is.program is.source t) f o)
    where
      whole : (w : Written (list_task call.words r after)) → IsComplete ((w.report).listing)
      whole w =
          let l = w.report in
          let same = read_bytes (list_task call.words r after) (asks_list r after a v names) bytes i w in
          let h = is.each l.program (subst (λ u. IsProgram u (list_task call.words r after).entry l.program) same l.source) in
          l.lists.complete h.0 paths h.1 few

  low_or : (status ≡ 7) ⊎ (status ≤ 1) → In status (0 ∷ 1 ∷ 7 ∷ [])
  low_or (inl e) = inr (inr (inl e))
  low_or (inr h) = ⊎_elim (λ e. inl e) (λ e. inr (inl e)) (small_of status h)

  pub answers_walk : OneProgram → (r : RunWords) (bytes : List ℕ) (p : Program) → Accepted call.words (Run r) → (r.strategy ≡ Dfs → ⊥) →
      IsSource (walk_task call.words r) (call.seen).held bytes → IsProgram bytes (walk_task call.words r).entry p →
      (Rose (call.seen).files_old (call.seen).files_new → ⊥) → (Rose (call.seen).faults_old (call.seen).faults_new → ⊥) → In status (0 ∷ 1 ∷ 7 ∷ [])
  answers_walk law r bytes p a v i is f o =
      low_or (⊎_elim (λ e. inl e) (λ w. inr (walk_status (call.seen).held w.bytes (walk_task call.words r).entry r.strategy r.bounds r.runs r.budget r.seed w.text status w.report))
      (report_of (walk_task call.words r) (asks_walk r a v) bytes i (λ tests w. absurd (walk_no_tests w)) answered
      (λ text t. walk_unrefused law (call.seen).held bytes (walk_task call.words r).entry r.strategy r.bounds r.runs r.budget r.seed text p is t) f o))

  pub complete_trace : OneProgram → (t : TraceWords) (bytes : List ℕ) (h : Input) → Accepted call.words (Trace t) → IsSource (trace_task call.words t) (call.seen).held bytes →
      IsMap (word_of call.words t.map) h → IsSourceOf bytes (trace_task call.words t).entry (λ p. IsInput p t.bounds h) →
      (Rose (call.seen).files_old (call.seen).files_new → ⊥) → (Rose (call.seen).faults_old (call.seen).faults_new → ⊥) → In status (0 ∷ 1 ∷ 7 ∷ [])
  complete_trace law t bytes h a i m s f o =
      low_or (⊎_elim (λ e. inl e) (λ w. inr (told_status w))
      (report_of (trace_task call.words t) (asks_trace t a) bytes i (λ tests w. absurd (not_replay w)) answered (λ text r. trace_unrefused law (call.seen).held bytes (trace_task call.words t).entry t.bounds (word_of call.words t.map) text h m s r) f o))
    where
      told_status : Written (trace_task call.words t) → status ≤ 1
      told_status w = run_in (is_fault (end_at (w.report).program t.bounds (w.report).input)) status (w.report).verdict

  -- ---- `make`

  module _ (n : ℕ) (a : Accepted call.words (Make n)) where
    make_of : (e : Ending call status) → MakeEnding call status n
    make_of (at_words k b e s t) = absurd (b.refused (Make n) a)
    make_of (at_report k b i w q) = absurd (not_make one call.words k n b a)
    make_of (at_source e r q) = absurd (not_make one call.words r.task n r.asked a)
    make_of (at_file e r q) = absurd (not_make one call.words r.task n r.asked a)
    make_of (at_output e r k b p t) = absurd (not_make one call.words k n b a)
    make_of (at_memory e k b p t) = absurd (not_make one call.words k n b a)
    make_of (at_make k b m) = let e = one call.words (Make k) (Make n) b a in let same : k ≡ n = cc e in subst (λ u. MakeEnding call status u) same m

    without_output : MakeEnding call status n → (Rose (call.seen).faults_old (call.seen).faults_new → ⊥) → In status (0 ∷ 3 ∷ 7 ∷ [])
    without_output (at_line e w q) o = inl e
    without_output (at_made_source e text r said q) o = inr (inl e)
    without_output (at_made_output e r w t) o = absurd (o r)
    without_output (at_made_memory e w t) o = inr (inr (inl e))

    pub answers_make : (Rose (call.seen).faults_old (call.seen).faults_new → ⊥) → In status (0 ∷ 3 ∷ 7 ∷ [])
    answers_make = without_output (make_of answered)

    module _ (law : OneProgram) (text : List ℕ) (r : Refuses (made_source n) made_entry text) where
      no_made : (line : List ℕ) → MakesAs n line → ⊥
      no_made line m = unrefused law (made_source n) made_entry m.program text m.source r

      refused_of : MakeEnding call status n → (status ≡ 3) ⊎ (status ≡ 7)
      refused_of (at_line e w q) = absurd (no_made w.text w.makes)
      refused_of (at_made_source e u s said q) = inl e
      refused_of (at_made_output e f w t) = absurd (no_made w.text w.makes)
      refused_of (at_made_memory e w t) = inr e

      pub refused_make : (status ≡ 3) ⊎ (status ≡ 7)
      refused_make = refused_of (make_of answered)
