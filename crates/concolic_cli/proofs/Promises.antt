-- What is written and said, from what a call comes to.
use borrow.Author.Tests.{eqb-true}
use Rattle.std.proofs.Common.{true, ◌≡◌, ℕ, ◌+◌, ◌≤◌, ◌⊎◌, ◌↔◌, inl, inr, ⊎_elim, List, [], ◌∷◌, ◌++◌, Option, ap, subst, ◌∙◌, arith, codes, Bool, false, nat_eq, if◌then◌else◌, refl}
use Rattle.cc_base.specs.Paths.{Path, In}
use Rattle.cc_model.specs.declared.commands.Command.TheVariants.{Run, Trace, Replay, Make}
use Rattle.cc_model.specs.declared.commands.ReplayWords.{ReplayWords}
use Rattle.cc_model.specs.declared.commands.RunWords.{RunWords}
use Rattle.cc_model.specs.declared.commands.Strategy.TheVariants.{Dfs}
use Rattle.cc_model.specs.declared.commands.TraceWords.{TraceWords}
use Rattle.cc_model.specs.Listing.{Counts, counts_of, IsComplete}
use Rattle.cc_model.specs.Report.{newline, total, has_fault}
use Rattle.cc_model.specs.Tested.{tested}
use Rattle.cc_outside.specs.Faults.{Rose}
use Rattle.cc_outside.specs.Told.{appended}
use Rattle.concolic_cli.specs.Concolic.{Call, HasNoCommand, Headline, NothingMissedBut, PartStands, of_task, of_make, SourceIsRefused, MadeIsRefused, FileIsRefused}
use Rattle.concolic_cli.specs.Refusals.{bad_word_text, Says}
use Rattle.concolic_cli.specs.Session.{Wrote, nothing, part, WroteLast, LastStands, no_line, first_part}
use Rattle.concolic_cli.specs.Tasks.{Task, Asks, IsAfter, list_task, walk_task, trace_task, replay_task}
use Rattle.command_words.specs.Words.{Accepted, BadWord}
use Rattle.concolic_cli.proofs.Calls.{Ending, at_words, at_report, at_source, at_file, at_output, at_memory, at_make, MakeEnding, at_line, at_made_source, at_made_output, at_made_memory, make_status, not_made, apart, reports, listed_in, small_in}
use Rattle.concolic_cli.proofs.Commands.{OneCommand, of_list, of_walk, of_trace, of_replay, not_make, has_after, has_command}
use Rattle.concolic_cli.proofs.Searches.{runs_of}

-- ---- the counts of a complete listing

abbrev counts : (terms spent steps strays unrun : ℕ) → Counts
counts a b c d e = record { terms = a; spent = b; steps = c; strays = d; unrun = e }

zeros : (a b c d e : ℕ) → a ≡ 0 → b ≡ 0 → c ≡ 0 → d ≡ 0 → e ≡ 0 → counts a b c d e ≡ counts 0 0 0 0 0
zeros a b c d e ha hb hc hd he = cc (ha, hb, hc, hd, he)

all_zero : (c : Counts) → total c ≡ 0 → c ≡ counts 0 0 0 0 0
all_zero c h = zeros c.terms c.spent c.steps c.strays c.unrun (omega (arith, h)) (omega (arith, h)) (omega (arith, h)) (omega (arith, h)) (omega (arith, h))

ten : (c b : Bool) (k : ℕ) → k ≡ (if c then 0 else 10) + (if b then 1 else 0) → k ≤ 1 → c ≡ true
ten true b k e l = refl
ten false true k e l = absurd (omega (arith, e, l))
ten false false k e l = absurd (omega (arith, e, l))

total_zero : (n : ℕ) (b : Bool) (k : ℕ) → k ≡ (if nat_eq n 0 then 0 else 10) + (if b then 1 else 0) → k ≤ 1 → n ≡ 0
total_zero n b k e l = eqb-true n 0 (ten (nat_eq n 0) b k e l)

-- ---- the promises

module _ (call : Call) (status : ℕ) (one : OneCommand) (answered : Ending call status) where
  abbrev Said : List ℕ → Type 0
  Said line = Says call.err_old call.err_new call.err_faults_old call.err_faults_new line

  abbrev Written : Task → Type 0
  Written task = Wrote (call.seen).held (call.seen).out_old (call.seen).out_new task status

  words_bad : (e : Ending call status) → status ≡ 2 → (n : ℕ) × BadWord call.words n × Said (bad_word_text n ++ newline)
  words_bad (at_words n b e s t) h = (n, b, t)
  words_bad (at_report k a i w q) h = absurd (apart status i (omega (arith, h)) (omega (arith, h)))
  words_bad (at_source e r q) h = absurd (omega (arith, e, h))
  words_bad (at_file e r q) h = absurd (omega (arith, e, h))
  words_bad (at_output e r k a p t) h = absurd (omega (arith, e, h))
  words_bad (at_memory e k a p t) h = absurd (omega (arith, e, h))
  words_bad (at_make n a m) h = absurd (not_made status 2 (make_status call status n m) h (λ e. omega (arith, e)) (λ e. omega (arith, e)) (λ e. omega (arith, e)) (λ e. omega (arith, e)))

  pub bad_word : status ≡ 2 → (n : ℕ) × BadWord call.words n × Says call.err_old call.err_new call.err_faults_old call.err_faults_new (bad_word_text n ++ newline)
  bad_word = words_bad answered

  no_command : (e : Ending call status) → HasNoCommand call.words → status ≡ 2
  no_command (at_words n b e s t) none = e
  no_command (at_report k a i w q) none = let c = has_command call.words k a in absurd (none c.0 c.1)
  no_command (at_source e r q) none = let c = has_command call.words r.task r.asked in absurd (none c.0 c.1)
  no_command (at_file e r q) none = let c = has_command call.words r.task r.asked in absurd (none c.0 c.1)
  no_command (at_output e r k a p t) none = let c = has_command call.words k a in absurd (none c.0 c.1)
  no_command (at_memory e k a p t) none = let c = has_command call.words k a in absurd (none c.0 c.1)
  no_command (at_make n a m) none = absurd (none (Make n) a)

  pub bad_words : (status ≡ 2) ↔ HasNoCommand call.words
  bad_words = ((λ h. (bad_word h).1.refused), (λ none. no_command answered none))

  made_source_of : (n : ℕ) → Accepted call.words (Make n) → MakeEnding call status n → status ≡ 3 → MadeIsRefused call.words call.err_old call.err_new call.err_faults_old call.err_faults_new
  made_source_of n a (at_line e w q) h = absurd (omega (arith, e, h))
  made_source_of n a (at_made_source e text r said q) h = record { n = n; accepted = a; text = text; refused = r; said = said }
  made_source_of n a (at_made_output e r w t) h = absurd (omega (arith, e, h))
  made_source_of n a (at_made_memory e w t) h = absurd (omega (arith, e, h))

  source_of : (e : Ending call status) → status ≡ 3 → SourceIsRefused call.words (call.seen).held call.err_old call.err_new call.err_faults_old call.err_faults_new
      ⊎ MadeIsRefused call.words call.err_old call.err_new call.err_faults_old call.err_faults_new
  source_of (at_words n b e s t) h = absurd (omega (arith, e, h))
  source_of (at_report k a i w q) h = absurd (apart status i (omega (arith, h)) (omega (arith, h)))
  source_of (at_source e r q) h = inl r
  source_of (at_file e r q) h = absurd (omega (arith, e, h))
  source_of (at_output e r k a p t) h = absurd (omega (arith, e, h))
  source_of (at_memory e k a p t) h = absurd (omega (arith, e, h))
  source_of (at_make n a m) h = inr (made_source_of n a m h)

  pub source_refused : status ≡ 3 → SourceIsRefused call.words (call.seen).held call.err_old call.err_new call.err_faults_old call.err_faults_new
      ⊎ MadeIsRefused call.words call.err_old call.err_new call.err_faults_old call.err_faults_new
  source_refused = source_of answered

  file_of_ending : (e : Ending call status) → status ≡ 4 → FileIsRefused call.words (call.seen).held (call.seen).files_old (call.seen).files_new call.err_old call.err_new call.err_faults_old call.err_faults_new
  file_of_ending (at_words n b e s t) h = absurd (omega (arith, e, h))
  file_of_ending (at_report k a i w q) h = absurd (apart status i (omega (arith, h)) (omega (arith, h)))
  file_of_ending (at_source e r q) h = absurd (omega (arith, e, h))
  file_of_ending (at_file e r q) h = r
  file_of_ending (at_output e r k a p t) h = absurd (omega (arith, e, h))
  file_of_ending (at_memory e k a p t) h = absurd (omega (arith, e, h))
  file_of_ending (at_make n a m) h = absurd (not_made status 4 (make_status call status n m) h (λ e. omega (arith, e)) (λ e. omega (arith, e)) (λ e. omega (arith, e)) (λ e. omega (arith, e)))

  pub file_refused : status ≡ 4 → FileIsRefused call.words (call.seen).held (call.seen).files_old (call.seen).files_new call.err_old call.err_new call.err_faults_old call.err_faults_new
  file_refused = file_of_ending answered

  made_output_of : (n : ℕ) → MakeEnding call status n → status ≡ 5 → Rose (call.seen).faults_old (call.seen).faults_new × Said (codes "output failed" ++ newline)
  made_output_of n (at_line e w q) h = absurd (omega (arith, e, h))
  made_output_of n (at_made_source e text r said q) h = absurd (omega (arith, e, h))
  made_output_of n (at_made_output e r w t) h = (r, t)
  made_output_of n (at_made_memory e w t) h = absurd (omega (arith, e, h))

  output_of : (e : Ending call status) → status ≡ 5 → Rose (call.seen).faults_old (call.seen).faults_new × Said (codes "output failed" ++ newline)
  output_of (at_words n b e s t) h = absurd (omega (arith, e, h))
  output_of (at_report k a i w q) h = absurd (apart status i (omega (arith, h)) (omega (arith, h)))
  output_of (at_source e r q) h = absurd (omega (arith, e, h))
  output_of (at_file e r q) h = absurd (omega (arith, e, h))
  output_of (at_output e r k a p t) h = (r, t)
  output_of (at_memory e k a p t) h = absurd (omega (arith, e, h))
  output_of (at_make n a m) h = made_output_of n m h

  pub output_failed : status ≡ 5 → Rose (call.seen).faults_old (call.seen).faults_new × Says call.err_old call.err_new call.err_faults_old call.err_faults_new (codes "output failed" ++ newline)
  output_failed = output_of answered

  made_memory_of : (n : ℕ) → MakeEnding call status n → status ≡ 7 → Said (codes "no memory" ++ newline)
  made_memory_of n (at_line e w q) h = absurd (omega (arith, e, h))
  made_memory_of n (at_made_source e text r said q) h = absurd (omega (arith, e, h))
  made_memory_of n (at_made_output e r w t) h = absurd (omega (arith, e, h))
  made_memory_of n (at_made_memory e w t) h = t

  memory_of : (e : Ending call status) → status ≡ 7 → Said (codes "no memory" ++ newline)
  memory_of (at_words n b e s t) h = absurd (omega (arith, e, h))
  memory_of (at_report k a i w q) h = absurd (apart status i (omega (arith, h)) (omega (arith, h)))
  memory_of (at_source e r q) h = absurd (omega (arith, e, h))
  memory_of (at_file e r q) h = absurd (omega (arith, e, h))
  memory_of (at_output e r k a p t) h = absurd (omega (arith, e, h))
  memory_of (at_memory e k a p t) h = t
  memory_of (at_make n a m) h = made_memory_of n m h

  pub no_memory : status ≡ 7 → Says call.err_old call.err_new call.err_faults_old call.err_faults_new (codes "no memory" ++ newline)
  no_memory = memory_of answered

  -- what was written, where the status is that of a report
  pub record ReportWritten : Type 0 where
    pub task : Task
    pub asked : Asks call.words task
    pub wrote : Wrote (call.seen).held (call.seen).out_old (call.seen).out_new task status
    pub quiet : call.err_new ≡ call.err_old

  -- or `make` wrote its line
  pub record LineWritten : Type 0 where
    pub n : ℕ
    pub accepted : Accepted call.words (Make n)
    pub wrote : WroteLast n (call.seen).out_old (call.seen).out_new
    pub quiet : call.err_new ≡ call.err_old

  made_of : (n : ℕ) → Accepted call.words (Make n) → MakeEnding call status n → In status reports → LineWritten
  made_of n a (at_line e w q) h = record { n = n; accepted = a; wrote = w; quiet = q }
  made_of n a (at_made_source e text r said q) h = absurd (apart status h (omega (arith, e)) (omega (arith, e)))
  made_of n a (at_made_output e r w t) h = absurd (apart status h (omega (arith, e)) (omega (arith, e)))
  made_of n a (at_made_memory e w t) h = absurd (apart status h (omega (arith, e)) (omega (arith, e)))

  wrote_of : (e : Ending call status) → In status reports → ReportWritten ⊎ LineWritten
  wrote_of (at_words n b e s t) h = absurd (apart status h (omega (arith, e)) (omega (arith, e)))
  wrote_of (at_report k a i w q) h = inl (record { task = k; asked = a; wrote = w; quiet = q })
  wrote_of (at_source e r q) h = absurd (apart status h (omega (arith, e)) (omega (arith, e)))
  wrote_of (at_file e r q) h = absurd (apart status h (omega (arith, e)) (omega (arith, e)))
  wrote_of (at_output e r k a p t) h = absurd (apart status h (omega (arith, e)) (omega (arith, e)))
  wrote_of (at_memory e k a p t) h = absurd (apart status h (omega (arith, e)) (omega (arith, e)))
  wrote_of (at_make n a m) h = inr (made_of n a m h)

  pub quiet : In status (0 ∷ 1 ∷ 8 ∷ 10 ∷ 11 ∷ []) → call.err_new ≡ call.err_old
  quiet h = ⊎_elim (λ r. r.quiet) (λ m. m.quiet) (wrote_of answered h)

  made_run : (r : RunWords) → Accepted call.words (Run r) → LineWritten → ⊥
  made_run r a m = let e = one call.words (Run r) (Make m.n) a m.accepted in cc e

  made_trace : (t : TraceWords) → Accepted call.words (Trace t) → LineWritten → ⊥
  made_trace t a m = let e = one call.words (Trace t) (Make m.n) a m.accepted in cc e

  pub listed : (r : RunWords) (after : Option Path) → Accepted call.words (Run r) → r.strategy ≡ Dfs → IsAfter call.words r after → In status (0 ∷ 1 ∷ 10 ∷ 11 ∷ []) →
      Wrote (call.seen).held (call.seen).out_old (call.seen).out_new (list_task call.words r after) status
  listed r after a v f h = ⊎_elim (λ w. subst (λ k. Written k) (of_list one call.words w.task r after w.asked a v f) w.wrote) (λ m. absurd (made_run r a m)) (wrote_of answered (listed_in status h))

  made_replay : (r : ReplayWords) → Accepted call.words (Replay r) → LineWritten → ⊥
  made_replay r a m = let e = one call.words (Replay r) (Make m.n) a m.accepted in cc e

  eight_in : In status (0 ∷ 8 ∷ []) → In status reports
  eight_in (inl e) = inl e
  eight_in (inr (inl e)) = inr (inr (inl e))
  eight_in (inr (inr e)) = absurd e

  pub replayed : (r : ReplayWords) → Accepted call.words (Replay r) → In status (0 ∷ 8 ∷ []) →
      Wrote (call.seen).held (call.seen).out_old (call.seen).out_new (replay_task call.words r) status
  replayed r a h = ⊎_elim (λ w. subst (λ k. Written k) (of_replay one call.words w.task r w.asked a) w.wrote) (λ m. absurd (made_replay r a m)) (wrote_of answered (eight_in h))

  same_branches : (n : ℕ) → Accepted call.words (Make n) → (m : LineWritten) → m.n ≡ n
  same_branches n a m = let e = one call.words (Make m.n) (Make n) m.accepted a in cc e

  -- `make` asks for no task
  pub made : (n : ℕ) → Accepted call.words (Make n) → status ≡ 0 → WroteLast n (call.seen).out_old (call.seen).out_new
  made n a h = ⊎_elim (λ w. absurd (not_make one call.words w.task n w.asked a)) (λ m. subst (λ k. WroteLast k (call.seen).out_old (call.seen).out_new) (same_branches n a m) m.wrote) (wrote_of answered (inl h))

  low_in : (status ≡ 0) ⊎ (status ≡ 1) → In status (0 ∷ 1 ∷ 10 ∷ 11 ∷ [])
  low_in (inl e) = inl e
  low_in (inr e) = inr (inl e)

  walk_in : In status (0 ∷ 1 ∷ []) → In status reports
  walk_in (inl e) = inl e
  walk_in (inr (inl e)) = inr (inl e)
  walk_in (inr (inr e)) = absurd e

  pub walked : (r : RunWords) → Accepted call.words (Run r) → (r.strategy ≡ Dfs → ⊥) → In status (0 ∷ 1 ∷ []) →
      Wrote (call.seen).held (call.seen).out_old (call.seen).out_new (walk_task call.words r) status
  walked r a v h = ⊎_elim (λ w. subst (λ k. Written k) (of_walk one call.words w.task r w.asked a v) w.wrote) (λ m. absurd (made_run r a m)) (wrote_of answered (walk_in h))

  pub traced : (t : TraceWords) → Accepted call.words (Trace t) → status ≤ 1 →
      Wrote (call.seen).held (call.seen).out_old (call.seen).out_new (trace_task call.words t) status
  traced t a h = ⊎_elim (λ w. subst (λ k. Written k) (of_trace one call.words w.task t w.asked a) w.wrote) (λ m. absurd (made_trace t a m)) (wrote_of answered (small_in status h))

  at_most_one : (status ≡ 0) ⊎ (status ≡ 1) → status ≤ 1
  at_most_one (inl e) = omega (arith, e)
  at_most_one (inr e) = omega (arith, e)

  -- the report of a listing whose five counts are zero
  pub of_complete : (r : RunWords) (after : Option Path) → IsAfter call.words r after → (w : Wrote (call.seen).held (call.seen).out_old (call.seen).out_new (list_task call.words r after) status) →
      IsComplete ((w.report).listing) → Headline call.words r (call.seen).held (call.seen).out_old (call.seen).out_new status
  of_complete r after f w whole =
      let l = w.report in
      record {
        after = after;
        bytes = w.bytes;
        program = l.program;
        listing = l.listing;
        names = f;
        read = w.read;
        source = l.source;
        bounds = l.lists.bounds;
        complete = whole;
        begun = l.lists.licensed.begun;
        enumerates = l.lists.enumerates whole;
        runs = λ none. runs_of (tested l.program r.bounds) after (l.listing).items l.lists.sound none (ap (λ (k : Counts). k.strays) whole);
        written = w.written ∙ ap (λ u. appended (call.seen).out_old u) l.text_is;
        verdict = l.verdict;
      }

  pub headline : (r : RunWords) → Accepted call.words (Run r) → r.strategy ≡ Dfs → (status ≡ 0) ⊎ (status ≡ 1) → Headline call.words r (call.seen).held (call.seen).out_old (call.seen).out_new status
  headline r a v h = let f = has_after call.words r a in of_wrote f.0 f.1 (listed r f.0 a v f.1 (low_in h))
    where
      of_wrote : (after : Option Path) → IsAfter call.words r after → Wrote (call.seen).held (call.seen).out_old (call.seen).out_new (list_task call.words r after) status →
          Headline call.words r (call.seen).held (call.seen).out_old (call.seen).out_new status
      of_wrote after f w =
          let l = w.report in
          let none = total_zero (total (counts_of l.listing)) (has_fault (l.listing).items) status l.verdict (at_most_one h) in
          of_complete r after f w (all_zero (counts_of l.listing) none)

  pub missed : (r : RunWords) → Accepted call.words (Run r) → r.strategy ≡ Dfs → In status (0 ∷ 1 ∷ 10 ∷ 11 ∷ []) → NothingMissedBut call.words r (call.seen).held (call.seen).out_old (call.seen).out_new status
  missed r a v h = let f = has_after call.words r a in of_wrote f.0 f.1 (listed r f.0 a v f.1 h)
    where
      of_wrote : (after : Option Path) → IsAfter call.words r after → Wrote (call.seen).held (call.seen).out_old (call.seen).out_new (list_task call.words r after) status →
          NothingMissedBut call.words r (call.seen).held (call.seen).out_old (call.seen).out_new status
      of_wrote after f w =
          let l = w.report in
          record {
            after = after;
            bytes = w.bytes;
            program = l.program;
            listing = l.listing;
            names = f;
            read = w.read;
            source = l.source;
            bounds = l.lists.bounds;
            misses_no_more = l.lists.misses_no_more;
            written = w.written ∙ ap (λ u. appended (call.seen).out_old u) l.text_is;
            verdict = l.verdict;
          }

  made_stands : (n : ℕ) → MakeEnding call status n → (status ≡ 5) ⊎ (status ≡ 7) → LastStands n (call.seen).out_old (call.seen).out_new
  made_stands n (at_line e w q) (inl h) = absurd (omega (arith, e, h))
  made_stands n (at_line e w q) (inr h) = absurd (omega (arith, e, h))
  made_stands n (at_made_source e text r said q) h = no_line q
  made_stands n (at_made_output e r w t) h = first_part w
  made_stands n (at_made_memory e w t) h = w

  stands_of : (e : Ending call status) → (status ≡ 5) ⊎ (status ≡ 7) → PartStands call.words (call.seen).held (call.seen).out_old (call.seen).out_new
  stands_of (at_words n b e s t) (inl h) = absurd (omega (arith, e, h))
  stands_of (at_words n b e s t) (inr h) = absurd (omega (arith, e, h))
  stands_of (at_report k a i w q) (inl h) = absurd (apart status i (omega (arith, h)) (omega (arith, h)))
  stands_of (at_report k a i w q) (inr h) = absurd (apart status i (omega (arith, h)) (omega (arith, h)))
  stands_of (at_source e r q) h = of_task r.task r.asked (nothing q)
  stands_of (at_file e r q) h = of_task r.task r.asked (nothing q)
  stands_of (at_output e r k a p t) h = of_task k a (part p)
  stands_of (at_memory e k a p t) h = of_task k a p
  stands_of (at_make n a m) h = of_make n a (made_stands n m h)

  pub stands : (status ≡ 5) ⊎ (status ≡ 7) → PartStands call.words (call.seen).held (call.seen).out_old (call.seen).out_new
  stands = stands_of answered

  made_silent : (n : ℕ) → MakeEnding call status n → 2 ≤ status → status ≤ 4 → (call.seen).out_new ≡ (call.seen).out_old
  made_silent n (at_line e w q) l h = absurd (omega (arith, e, l))
  made_silent n (at_made_source e text r said q) l h = q
  made_silent n (at_made_output e r w t) l h = absurd (omega (arith, e, h))
  made_silent n (at_made_memory e w t) l h = absurd (omega (arith, e, h))

  silent_of : (e : Ending call status) → 2 ≤ status → status ≤ 4 → (call.seen).out_new ≡ (call.seen).out_old
  silent_of (at_words n b e s t) l h = s
  silent_of (at_report k a i w q) l h = absurd (apart status i l (omega (arith, h)))
  silent_of (at_source e r q) l h = q
  silent_of (at_file e r q) l h = q
  silent_of (at_output e r k a p t) l h = absurd (omega (arith, e, h))
  silent_of (at_memory e k a p t) l h = absurd (omega (arith, e, h))
  silent_of (at_make n a m) l h = made_silent n m l h

  pub silent : 2 ≤ status → status ≤ 4 → (call.seen).out_new ≡ (call.seen).out_old
  silent = silent_of answered
