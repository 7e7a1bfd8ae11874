-- What a call comes to, by its status.
use Rattle.std.proofs.Common.{◌≡◌, ℕ, zero, suc, ◌+◌, ◌≤◌, ◌⊎◌, Option, inl, inr, ⊎_elim, Bool, true, false, List, [], ◌∷◌, ◌++◌, length, ap, refl, sym, subst, ◌∙◌, arith, codes, if◌then◌else◌, nat_eq}
use Rattle.cc_base.specs.declared.inputs.Test.{Test}
use Rattle.cc_base.specs.Limits.{Limits}
use Rattle.cc_model.specs.Core.{Program}
use Rattle.cc_base.specs.Paths.{Path, In}
use Rattle.cc_model.specs.declared.commands.Command.TheVariants.{Make}
use Rattle.cc_model.specs.declared.commands.Strategy.{Strategy}
use Rattle.cc_model.specs.Listing.{counts_of}
use Rattle.cc_model.specs.Report.{newline, total, has_fault, is_fault}
use Rattle.cc_model.specs.Runs.{end_at}
use Rattle.cc_outside.specs.Faults.{Rose}
use Rattle.input_map.specs.declared.faults.MapFault.{MapFault}
use Rattle.concolic_cli.specs.declared.answers.Refused.{Refused}
use Rattle.concolic_cli.specs.declared.refusal.FileWord.TheVariants as word
use Rattle.concolic_cli.specs.declared.refusal.Refusal.{Refusal}
use Rattle.concolic_cli.specs.declared.refusal.Refusal.TheVariants as refusal
use Rattle.concolic_cli.specs.declared.refusal.Unread.{Unread}
use Rattle.concolic_cli.specs.declared.refusal.Unread.TheVariants as unread
use Rattle.concolic_cli.specs.Concolic.{Call, IsDone, done, made, IsUndone, bad, refused, unmade, Answered, quietly, aloud, SourceIsRefused, FileFault, NamesFile, its_source, its_tests, FileIsRefused, tests_of, names_of, made_names}
use Rattle.concolic_cli.specs.Made.{made_source, made_entry}
use Rattle.concolic_cli.specs.Named.{names_in}
use Rattle.concolic_cli.specs.Refusals.{Names, bad_word_text, file_text, unread_text, map_text_of, Says, IsAnswered}
use Rattle.concolic_cli.specs.Loaded.{source_limit, tests_limit, ReadAs}
use Rattle.concolic_cli.specs.Session.{Seen, Wrote, WroteFirst, Stands, nothing, UnreadCause, Cause, TestsRefused, SourceCause, WroteLast, WroteLastFirst, LastStands, no_line, MadeCause}
use Rattle.concolic_cli.specs.Sources.{Refuses}
use Rattle.cc_outside.specs.Held.{Held}
use Rattle.replay.specs.ReplayText.{Written, all_real, one_real, one_differs}
use Rattle.concolic_cli.specs.Tasks.{Task, Work, list, walk, trace, replay, Asks, IsReport, RefusesTask}
use Rattle.command_words.specs.Words.{Accepted, BadWord}

-- ---- the status of a report

-- the statuses of what is written
abbrev pub reports : List ℕ
reports = 0 ∷ 1 ∷ 8 ∷ 10 ∷ 11 ∷ []

-- those of a listing are some of them
pub listed_in : (n : ℕ) → In n (0 ∷ 1 ∷ 10 ∷ 11 ∷ []) → In n reports
listed_in n (inl e) = inl e
listed_in n (inr (inl e)) = inr (inl e)
listed_in n (inr (inr h)) = inr (inr (inr h))

verdict_in : (a b : Bool) (n : ℕ) → n ≡ (if a then 0 else 10) + (if b then 1 else 0) → In n (0 ∷ 1 ∷ 10 ∷ 11 ∷ [])
verdict_in true false n e = inl e
verdict_in true true n e = inr (inl e)
verdict_in false false n e = inr (inr (inl e))
verdict_in false true n e = inr (inr (inr (inl e)))

pub run_in : (b : Bool) (n : ℕ) → n ≡ (if b then 1 else 0) → n ≤ 1
run_in true n e = omega (arith, e)
run_in false n e = omega (arith, e)

pub small_of : (n : ℕ) → n ≤ 1 → (n ≡ 0) ⊎ (n ≡ 1)
small_of zero h = inl refl
small_of (suc zero) h = inr refl
small_of (suc (suc n)) h = absurd (omega (arith, h))

pub small_in : (n : ℕ) → n ≤ 1 → In n reports
small_in n h = ⊎_elim (λ e. inl e) (λ e. inr (inl e)) (small_of n h)

-- a replay ends with 0 or 8
pub replay_status : (p : Program) (b : Limits) (total : ℕ) (tests : List Test) (lines text : List ℕ) (n : ℕ) → Written p b total tests lines text n → (n ≡ 0) ⊎ (n ≡ 8)
replay_status p b total _ _ _ _ all_real = inl refl
replay_status p b total _ _ _ _ (one_real t tests k lines text n r w) = replay_status p b total tests lines text n w
replay_status p b total _ _ _ _ (one_differs t tests k lines d) = inr refl

pub replay_in : (n : ℕ) → (n ≡ 0) ⊎ (n ≡ 8) → In n reports
replay_in n (inl e) = inl e
replay_in n (inr e) = inr (inr (inl e))

pub list_status : (held : Option Held) (bytes entry : List ℕ) (b : Limits) (runs budget : ℕ) (after : Option Path) (text : List ℕ) (status : ℕ) → IsReport held bytes entry (list b runs budget after) text status → In status (0 ∷ 1 ∷ 10 ∷ 11 ∷ [])
list_status held bytes entry b runs budget after text status h = verdict_in (nat_eq (total (counts_of (h.listing))) 0) (has_fault (h.listing).items) status h.verdict

pub report_status : (held : Option Held) (bytes entry : List ℕ) (w : Work) (text : List ℕ) (status : ℕ) → IsReport held bytes entry w text status → In status reports
report_status held bytes entry (list b runs budget after) text status h = listed_in status (list_status held bytes entry b runs budget after text status h)
report_status held bytes entry (walk strategy b runs budget seed) text status h = small_in status (run_in (h.summary).fault status h.verdict)
report_status held bytes entry (trace b map) text status h = small_in status (run_in (is_fault (end_at h.program b h.input)) status h.verdict)
report_status held bytes entry (replay tests) text status h = replay_in status (replay_status h.program h.bounds (length h.all) h.all h.lines text status h.written)

-- a walk, a run that is told, and a replay have no other status
pub walk_status : (held : Option Held) (bytes entry : List ℕ) (strategy : Strategy) (b : Limits) (runs budget seed : ℕ) (text : List ℕ) (status : ℕ) → IsReport held bytes entry (walk strategy b runs budget seed) text status → status ≤ 1
walk_status held bytes entry strategy b runs budget seed text status h = run_in (h.summary).fault status h.verdict

pub trace_status : (held : Option Held) (bytes entry : List ℕ) (b : Limits) (map text : List ℕ) (status : ℕ) → IsReport held bytes entry (trace b map) text status → status ≤ 1
trace_status held bytes entry b map text status h = run_in (is_fault (end_at h.program b h.input)) status h.verdict

pub replayed_status : (held : Option Held) (bytes entry tests text : List ℕ) (status : ℕ) → IsReport held bytes entry (replay tests) text status → (status ≡ 0) ⊎ (status ≡ 8)
replayed_status held bytes entry tests text status h = replay_status h.program h.bounds (length h.all) h.all h.lines text status h.written

-- nothing lies between 1 and 8
pub apart : (n : ℕ) → In n reports → 2 ≤ n → n ≤ 7 → ⊥
apart n (inl e) l h = omega (arith, e, l)
apart n (inr (inl e)) l h = omega (arith, e, l)
apart n (inr (inr (inl e))) l h = omega (arith, e, h)
apart n (inr (inr (inr (inl e)))) l h = omega (arith, e, h)
apart n (inr (inr (inr (inr (inl e))))) l h = omega (arith, e, h)
apart n (inr (inr (inr (inr (inr e))))) l h = e

-- ---- what is done, and what is refused

module _ (words : List (List ℕ)) (seen : Seen) where
  pub done_for : (status : ℕ) (told task : Task) → told ≡ task → Asks words task → Wrote seen.held seen.out_old seen.out_new told status → IsDone words seen status
  done_for status told task e a w = done task a (subst (λ k. Wrote seen.held seen.out_old seen.out_new k status) e w)

  -- a refusal that comes with its words
  same_refusal : (r : Refused) (why : Refusal) → r.refusal ≡ why → IsUndone words seen (names_in r.named) why → IsUndone words seen (names_in r.named) r.refusal
  same_refusal r why is u = subst (λ e. IsUndone words seen (names_in r.named) e) (sym is) u

  pub bad_as : (n : ℕ) → BadWord words n → seen.out_new ≡ seen.out_old → (r : Refused) → r.refusal ≡ refusal.BadWord n → IsUndone words seen (names_in r.named) r.refusal
  bad_as n b silent r is = same_refusal r (refusal.BadWord n) is (bad n b silent)

  pub refused_for : (why : Refusal) (told task : Task) → told ≡ task → Asks words task → Cause seen told why → (names : Names) → names ≡ names_of told → IsUndone words seen names why
  refused_for why told task e a cause names same = refused task why a (subst (λ k. Cause seen k why) e cause) (same ∙ ap names_of e)

  pub refused_as : (why : Refusal) (told task : Task) → told ≡ task → Asks words task → Cause seen told why → (r : Refused) → r.refusal ≡ why → names_in r.named ≡ names_of told →
      IsUndone words seen (names_in r.named) r.refusal
  refused_as why told task e a cause r is same = same_refusal r why is (refused_for why told task e a cause (names_in r.named) same)

  pub made_for : (status n : ℕ) → Accepted words (Make n) → (status ≡ 0) × WroteLast n seen.out_old seen.out_new → IsDone words seen status
  made_for status n a w = made n a w.1 w.0

  pub unmade_as : (n : ℕ) (why : Refusal) → Accepted words (Make n) → MadeCause n seen.out_old seen.out_new seen.faults_old seen.faults_new why → (r : Refused) → r.refusal ≡ why →
      names_in r.named ≡ made_names → IsUndone words seen (names_in r.named) r.refusal
  unmade_as n why a cause r is same = same_refusal r why is (unmade n why a cause same)

-- ---- by status

-- what `make` comes to
pub data MakeEnding (call : Call) (status n : ℕ) : Type 0 where
  at_line : status ≡ 0 → WroteLast n (call.seen).out_old (call.seen).out_new → call.err_new ≡ call.err_old → MakeEnding call status n
  at_made_source : status ≡ 3 → (text : List ℕ) → Refuses (made_source n) made_entry text → Says call.err_old call.err_new call.err_faults_old call.err_faults_new (text ++ newline) →
      (call.seen).out_new ≡ (call.seen).out_old → MakeEnding call status n
  at_made_output : status ≡ 5 → Rose (call.seen).faults_old (call.seen).faults_new → WroteLastFirst n (call.seen).out_old (call.seen).out_new →
      Says call.err_old call.err_new call.err_faults_old call.err_faults_new (codes "output failed" ++ newline) → MakeEnding call status n
  at_made_memory : status ≡ 7 → LastStands n (call.seen).out_old (call.seen).out_new →
      Says call.err_old call.err_new call.err_faults_old call.err_faults_new (codes "no memory" ++ newline) → MakeEnding call status n

pub data Ending (call : Call) (status : ℕ) : Type 0 where
  at_words : (n : ℕ) → BadWord call.words n → status ≡ 2 → (call.seen).out_new ≡ (call.seen).out_old →
      Says call.err_old call.err_new call.err_faults_old call.err_faults_new (bad_word_text n ++ newline) → Ending call status
  at_report : (task : Task) → Asks call.words task → In status reports → Wrote (call.seen).held (call.seen).out_old (call.seen).out_new task status →
      call.err_new ≡ call.err_old → Ending call status
  at_source : status ≡ 3 → SourceIsRefused call.words (call.seen).held call.err_old call.err_new call.err_faults_old call.err_faults_new →
      (call.seen).out_new ≡ (call.seen).out_old → Ending call status
  at_file : status ≡ 4 → FileIsRefused call.words (call.seen).held (call.seen).files_old (call.seen).files_new call.err_old call.err_new call.err_faults_old call.err_faults_new →
      (call.seen).out_new ≡ (call.seen).out_old → Ending call status
  at_output : status ≡ 5 → Rose (call.seen).faults_old (call.seen).faults_new → (task : Task) → Asks call.words task →
      WroteFirst (call.seen).held (call.seen).out_old (call.seen).out_new task →
      Says call.err_old call.err_new call.err_faults_old call.err_faults_new (codes "output failed" ++ newline) → Ending call status
  at_memory : status ≡ 7 → (task : Task) → Asks call.words task → Stands (call.seen).held (call.seen).out_old (call.seen).out_new task →
      Says call.err_old call.err_new call.err_faults_old call.err_faults_new (codes "no memory" ++ newline) → Ending call status
  at_make : (n : ℕ) → Accepted call.words (Make n) → MakeEnding call status n → Ending call status

module _ (call : Call) (status : ℕ) (task : Task) (a : Asks call.words task) where
  abbrev Said : List ℕ → Type 0
  Said text = Says call.err_old call.err_new call.err_faults_old call.err_faults_new (text ++ newline)

  fault_of : (limit : ℕ) (name : List ℕ) (f : Unread) → UnreadCause limit (call.seen).held (call.seen).files_old (call.seen).files_new name f →
      FileFault limit (call.seen).held (call.seen).files_old (call.seen).files_new name (unread_text f)
  fault_of limit name unread.Missing h = inl (refl, h)
  fault_of limit name unread.TooLong h = inr (inl (refl, h))
  fault_of limit name unread.Failed h = inr (inr (refl, h))

  -- a file that is refused, with its text; or memory for the text is wanting
  at_named_file : (name : List ℕ) (limit : ℕ) → NamesFile (call.seen).held task name limit → (what : List ℕ) → FileFault limit (call.seen).held (call.seen).files_old (call.seen).files_new name what → (call.seen).out_new ≡ (call.seen).out_old →
      (status ≡ 4) × Said (file_text name what) → Ending call status
  at_named_file name limit names what cause silent h = at_file h.0 (record { task = task; asked = a; name = name; limit = limit; names = names; what = what; cause = cause; said = h.1 }) silent

  at_file_of : (what : List ℕ) → FileFault source_limit (call.seen).held (call.seen).files_old (call.seen).files_new task.file what → (call.seen).out_new ≡ (call.seen).out_old →
      (status ≡ 4) × Said (file_text task.file what) → Ending call status
  at_file_of what cause silent h = at_named_file task.file source_limit its_source what cause silent h

  -- the tests file, which the task names
  at_tests_of : (e : Refusal) (what : List ℕ) (c : TestsRefused call.seen task e) → FileFault tests_limit (call.seen).held (call.seen).files_old (call.seen).files_new c.tests what → (status ≡ 4) × Said (file_text (names_of task).tests what) → Ending call status
  at_tests_of e what c fault h =
      let same : (names_of task).tests ≡ c.tests = ap tests_of c.named in
      at_named_file c.tests tests_limit (its_tests c.tests c.bytes c.program c.named c.read c.source) what fault c.silent (h.0, subst (λ n. Said (file_text n what)) same h.1)

  at_source_of : (text bytes : List ℕ) → ReadAs (call.seen).held task.file bytes → RefusesTask (call.seen).held bytes task.entry task.work text → (call.seen).out_new ≡ (call.seen).out_old →
      (status ≡ 3) × Said text → Ending call status
  at_source_of text bytes read r silent h = at_source h.0 (record { task = task; asked = a; bytes = bytes; text = text; read = read; refused = r; said = h.1 }) silent

  no_memory : Stands (call.seen).held (call.seen).out_old (call.seen).out_new task → (status ≡ 7) × Said (codes "no memory") → Ending call status
  no_memory p h = at_memory h.0 task a p h.1

  -- a program that is accepted and refused for the task
  at_work : (w : Work) → task.work ≡ w → (why : Refusal) (text bytes : List ℕ) → ReadAs (call.seen).held task.file bytes → RefusesTask (call.seen).held bytes task.entry w text → (call.seen).out_new ≡ (call.seen).out_old →
      (status ≡ 3) × Said text → Ending call status
  at_work w e why text bytes read r silent h = at_source_of text bytes read (subst (λ u. RefusesTask (call.seen).held bytes task.entry u text) (sym e) r) silent h

  at_map : (w : Work) → task.work ≡ w → (f : MapFault) → (bytes : List ℕ) → ReadAs (call.seen).held task.file bytes → SourceCause bytes task.entry w (refusal.Map f) → (call.seen).out_new ≡ (call.seen).out_old →
      (status ≡ 3) × Said (map_text_of f) → Ending call status
  at_map (list b runs budget after) e f bytes read c silent h = absurd c
  at_map (walk strategy b runs budget seed) e f bytes read c silent h = absurd c
  at_map (replay tests) e f bytes read c silent h = absurd c
  at_map (trace b map) e f bytes read c silent h = at_work (trace b map) e (refusal.Map f) _ bytes read (inr (f, c, refl)) silent h

  ending_of : (why : Refusal) → Cause call.seen task why →
      IsAnswered call.err_old call.err_new call.err_faults_old call.err_faults_new (names_of task) why status → Ending call status
  ending_of (refusal.BadWord n) c h = absurd c
  ending_of (refusal.File word.Source f) c (inl h) = at_file_of (unread_text f) (fault_of source_limit task.file f c.0) c.1 h
  ending_of (refusal.File word.Source f) c (inr h) = no_memory (nothing c.1) (h.1, h.2)
  ending_of (refusal.File word.Tests f) c (inl h) = at_tests_of (refusal.File word.Tests f) (unread_text f) c (fault_of tests_limit c.tests f c.cause) h
  ending_of (refusal.File word.Tests f) c (inr h) = no_memory (nothing c.silent) (h.1, h.2)
  ending_of (refusal.Source line wrong) c (inl h) = at_source_of _ c.bytes c.read (inl c.cause) c.silent h
  ending_of (refusal.Source line wrong) c (inr h) = no_memory (nothing c.silent) (h.1, h.2)
  ending_of refusal.NoEntry c (inl h) = at_source_of _ c.bytes c.read (inl c.cause) c.silent h
  ending_of refusal.NoEntry c (inr h) = no_memory (nothing c.silent) (h.1, h.2)
  ending_of (refusal.Map f) c (inl h) = at_map task.work refl f c.bytes c.read c.cause c.silent h
  ending_of (refusal.Map f) c (inr h) = no_memory (nothing c.silent) (h.1, h.2)
  ending_of (refusal.Tests line) c (inl h) =
      at_work (replay c.tests) c.named (refusal.Tests line) _ c.bytes c.read
      (inr (line, record { program = c.program; source = c.source; file = (c.cause).0; read = (c.cause).1; refused = ((c.cause).2).refused; none = ((c.cause).2).none }, refl)) c.silent h
  ending_of (refusal.Tests line) c (inr h) = no_memory (nothing c.silent) (h.1, h.2)
  ending_of refusal.OutputFailed c (inl h) = at_output h.0 c.0 task a c.1 h.1
  ending_of refusal.OutputFailed c (inr h) = absurd (cc h.0)
  ending_of refusal.NoMemory c (inl h) = no_memory c h
  ending_of refusal.NoMemory c (inr h) = absurd (cc h.0)

module _ (call : Call) (status n : ℕ) where
  abbrev SaidOf : List ℕ → Type 0
  SaidOf text = Says call.err_old call.err_new call.err_faults_old call.err_faults_new (text ++ newline)

  make_ending : (why : Refusal) → MadeCause n (call.seen).out_old (call.seen).out_new (call.seen).faults_old (call.seen).faults_new why →
      IsAnswered call.err_old call.err_new call.err_faults_old call.err_faults_new made_names why status → MakeEnding call status n
  make_ending (refusal.Source line wrong) c (inl h) = at_made_source h.0 _ c.0 h.1 c.1
  make_ending (refusal.Source line wrong) c (inr h) = at_made_memory h.1 (no_line c.1) h.2
  make_ending refusal.NoEntry c (inl h) = at_made_source h.0 _ c.0 h.1 c.1
  make_ending refusal.NoEntry c (inr h) = at_made_memory h.1 (no_line c.1) h.2
  make_ending refusal.OutputFailed c (inl h) = at_made_output h.0 c.0 c.1 h.1
  make_ending refusal.OutputFailed c (inr h) = absurd (cc h.0)
  make_ending refusal.NoMemory c (inl h) = at_made_memory h.0 c h.1
  make_ending refusal.NoMemory c (inr h) = absurd (cc h.0)
  make_ending (refusal.BadWord k) c h = absurd c
  make_ending (refusal.File w f) c h = absurd c
  make_ending (refusal.Map f) c h = absurd c
  make_ending (refusal.Tests l) c h = absurd c

abbrev AnswersAs : Call → ℕ → Refusal → Names → Type 0
AnswersAs call status why names = IsAnswered call.err_old call.err_new call.err_faults_old call.err_faults_new names why status

undone_ending : (call : Call) (status : ℕ) (names : Names) (why : Refusal) → IsUndone call.words call.seen names why → AnswersAs call status why names → Ending call status
undone_ending call status names _ (bad n b silent) (inl h) = at_words n b h.0 silent h.1
undone_ending call status names _ (bad n b silent) (inr h) = absurd (cc h.0)
undone_ending call status names why (refused task _ a c same) h = ending_of call status task a why c (subst (λ n. AnswersAs call status why n) same h)
undone_ending call status names why (unmade n _ a c same) h = at_make n a (make_ending call status n why c (subst (λ n. AnswersAs call status why n) same h))

pub ending : (call : Call) (status : ℕ) → Answered call status → Ending call status
ending call status (quietly (done task a w) quiet) = at_report task a (report_status (call.seen).held w.bytes task.entry task.work w.text status w.report) w quiet
ending call status (quietly (made n a w e) quiet) = at_make n a (at_line e w quiet)
ending call status (aloud names why u h) = undone_ending call status names why u h

-- the statuses of `make`
pub make_status : (call : Call) (status n : ℕ) → MakeEnding call status n → In status (0 ∷ 3 ∷ 5 ∷ 7 ∷ [])
make_status call status n (at_line e w q) = inl e
make_status call status n (at_made_source e t r s q) = inr (inl e)
make_status call status n (at_made_output e r w t) = inr (inr (inl e))
make_status call status n (at_made_memory e w t) = inr (inr (inr (inl e)))

-- none of the others is one of them
pub not_made : (status k : ℕ) → In status (0 ∷ 3 ∷ 5 ∷ 7 ∷ []) → status ≡ k → (k ≡ 0 → ⊥) → (k ≡ 3 → ⊥) → (k ≡ 5 → ⊥) → (k ≡ 7 → ⊥) → ⊥
not_made status k (inl e) h a b c d = a (sym h ∙ e)
not_made status k (inr (inl e)) h a b c d = b (sym h ∙ e)
not_made status k (inr (inr (inl e))) h a b c d = c (sym h ∙ e)
not_made status k (inr (inr (inr (inl e)))) h a b c d = d (sym h ∙ e)
not_made status k (inr (inr (inr (inr e)))) h a b c d = e
