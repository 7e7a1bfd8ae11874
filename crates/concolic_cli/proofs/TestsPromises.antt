-- What comes of the tests of a file.
use Rattle.std.proofs.Common.{◌≡◌, ℕ, ◌<◌, ◌≤◌, ◌⊎◌, inl, inr, ⊎_elim, List, [], ◌∷◌, length, Some, None, sym, subst, ◌∙◌, arith}
use Rattle.cc_base.specs.Paths.{In}
use Rattle.cc_model.specs.declared.commands.Command.TheVariants.{Replay}
use Rattle.cc_model.specs.declared.commands.ReplayWords.{ReplayWords}
use Rattle.cc_outside.specs.Faults.{Rose}
use Rattle.cc_outside.specs.Held.{Held, file_of}
use Rattle.concolic_cli.specs.Concolic.{Call, IsSource, IsSourceOf, IsRefusal, HoldsFile, HoldsSome, TestsUnread}
use Rattle.concolic_cli.specs.Loaded.{tests_limit, ReadAs, ReadTests}
use Rattle.concolic_cli.specs.Session.{Wrote, WroteFirst}
use Rattle.concolic_cli.specs.Tasks.{Task, replay, Asks, asks_replay, word_of, replay_task, ReplaysAs, RefusesTask}
use Rattle.command_words.specs.Words.{Accepted}
use Rattle.replay.specs.Files.{IsRefusedAt}
use Rattle.concolic_cli.proofs.Calls.{Ending, at_words, at_report, at_source, at_file, at_output, at_memory, at_make, replayed_status}
use Rattle.concolic_cli.proofs.Commands.{OneCommand, of_replay, not_make}
use Rattle.concolic_cli.proofs.Unrefused.{OneProgram, unrefused, replay_unrefused}
use Rattle.concolic_cli.proofs.Coming.{refusal_of, report_of}

module _ (call : Call) (status : ℕ) (one : OneCommand) (answered : Ending call status) where
  abbrev Written : Task → Type 0
  Written task = Wrote (call.seen).held (call.seen).out_old (call.seen).out_new task status

  -- ---- a tests file that is held and short

  module _ (law : OneProgram) (r : ReplayWords) (bytes file : List ℕ) (a : Accepted call.words (Replay r)) (i : IsSource (replay_task call.words r) (call.seen).held bytes)
      (h : HoldsFile (call.seen).held (word_of call.words r.tests) file) where
    one_held : {g k : Held} → Some g ≡ Some k → g ≡ k
    one_held e = cc e

    there : file_of (word_of call.words r.tests) i.files ≡ Some file
    there = subst (λ k. file_of (word_of call.words r.tests) k ≡ Some file) (one_held (sym h.told ∙ i.told)) h.there

    tests_name : {tests other : List ℕ} → replay tests ≡ replay other → tests ≡ other
    tests_name e = cc e

    fine : (tests : List ℕ) → replay (word_of call.words r.tests) ≡ replay tests → (f : List ℕ) × (file_of tests i.files ≡ Some f) × (length f ≤ tests_limit)
    fine tests e = (file, subst (λ n. file_of n i.files ≡ Some file) (tests_name e) there, h.short)

    only : (other : List ℕ) → ReadTests (call.seen).held (word_of call.words r.tests) other → other ≡ file
    only other read = let f : file_of (word_of call.words r.tests) i.files ≡ Some other = read.told i.files i.told in cc (f, there)

    seven_or : (status ≡ 7) ⊎ Written (replay_task call.words r) → In status (0 ∷ 7 ∷ 8 ∷ [])
    seven_or (inl e) = inr (inl e)
    seven_or (inr w) = ⊎_elim (λ e. inl e) (λ e. inr (inr (inl e))) (replayed_status (call.seen).held w.bytes (replay_task call.words r).entry (word_of call.words r.tests) w.text status w.report)

    pub answers_replay : IsSourceOf bytes (replay_task call.words r).entry (λ p. HoldsSome p file) →
        (Rose (call.seen).files_old (call.seen).files_new → ⊥) → (Rose (call.seen).faults_old (call.seen).faults_new → ⊥) → In status (0 ∷ 7 ∷ 8 ∷ [])
    answers_replay s f o =
        seven_or (report_of call status one answered (replay_task call.words r) (asks_replay r a) bytes i fine answered
        (λ text t. replay_unrefused law (call.seen).held bytes (replay_task call.words r).entry (word_of call.words r.tests) text file only s t) f o)

    pub refused_tests : (line : ℕ) → IsSourceOf bytes (replay_task call.words r).entry (λ p. IsRefusedAt p file line) → IsRefusal (call.seen).files_old (call.seen).files_new status
    refused_tests line s =
        refusal_of call status one answered (replay_task call.words r) (asks_replay r a) bytes i (inl fine) answered (λ u n h. neither h) (λ u h. neither h.1)
      where
        neither : {text : List ℕ} {n : ℕ} → ReplaysAs (call.seen).held bytes (replay_task call.words r).entry (word_of call.words r.tests) text n → ⊥
        neither h =
            let same = only h.file h.read in
            h.unrefused line (subst (λ u. IsRefusedAt h.program u line) (sym same) (s.each h.program h.source))

  -- ---- a tests file that can't be read

  module _ (law : OneProgram) (r : ReplayWords) (a : Accepted call.words (Replay r)) where
    abbrev Read : Type 0
    Read = (file : List ℕ) × ReadTests (call.seen).held (word_of call.words r.tests) file

    abbrev Unread : Type 0
    Unread = TestsUnread (replay_task call.words r) (call.seen).held status

    the_task : (k : Task) → Asks call.words k → k ≡ replay_task call.words r
    the_task k b = of_replay one call.words k r b a

    read_to_report : (k : Task) → k ≡ replay_task call.words r → Written k → Read
    read_to_report k e w = let v = subst (λ u. Written u) e w in ((v.report).file, (v.report).read)

    read_in_part : (k : Task) → k ≡ replay_task call.words r → WroteFirst (call.seen).held (call.seen).out_old (call.seen).out_new k → Read
    read_in_part k e w =
        let v = subst (λ u. WroteFirst (call.seen).held (call.seen).out_old (call.seen).out_new u) e w in
        (((v.may).1).file, ((v.may).1).read)

    -- the source is refused, or the tests were read
    source_or_tests : status ≡ 3 → (bytes text : List ℕ) → ReadAs (call.seen).held (replay_task call.words r).file bytes →
        RefusesTask (call.seen).held bytes (replay_task call.words r).entry (replay_task call.words r).work text → Unread ⊎ Read
    source_or_tests e bytes text read (inl h) =
        inl (inr (inr (
          e,
          record {
            bytes = bytes;
            text = text;
            read = read;
            refused = h;
            none = λ p i. unrefused law bytes (replay_task call.words r).entry p text i h;
          },
        )))
    source_or_tests e bytes text read (inr h) = inr ((h.1).file, (h.1).read)

    refused_first : status ≡ 3 → (k : Task) → k ≡ replay_task call.words r → (bytes text : List ℕ) → ReadAs (call.seen).held k.file bytes →
        RefusesTask (call.seen).held bytes k.entry k.work text → Unread ⊎ Read
    refused_first e k same bytes text read h =
        source_or_tests e bytes text (subst (λ (u : Task). ReadAs (call.seen).held u.file bytes) same read) (subst (λ (u : Task). RefusesTask (call.seen).held bytes u.entry u.work text) same h)

    unread_or_read : (e : Ending call status) → Unread ⊎ Read
    unread_or_read (at_words n b e s t) = absurd (b.refused (Replay r) a)
    unread_or_read (at_report k b i w q) = inr (read_to_report k (the_task k b) w)
    unread_or_read (at_source e s q) = refused_first e s.task (the_task s.task s.asked) s.bytes s.text s.read s.refused
    unread_or_read (at_file e s q) = inl (inl e)
    unread_or_read (at_output e s k b p t) = inr (read_in_part k (the_task k b) p)
    unread_or_read (at_memory e k b p t) = inl (inr (inl e))
    unread_or_read (at_make n b m) = absurd (not_make one call.words (replay_task call.words r) n (asks_replay r a) b)

    -- tests that can't be read weren't
    unread : (Read → ⊥) → Unread
    unread none = ⊎_elim (λ u. u) (λ f. absurd (none f)) (unread_or_read answered)

    pub missing_tests : (h : Held) → (call.seen).held ≡ Some h → file_of (word_of call.words r.tests) h ≡ None → TestsUnread (replay_task call.words r) (call.seen).held status
    missing_tests h told none = unread (λ f. let there : file_of (word_of call.words r.tests) h ≡ Some f.0 = (f.1).told h told in cc (there, none))

    pub too_long_tests : (h : Held) (file : List ℕ) → (call.seen).held ≡ Some h → file_of (word_of call.words r.tests) h ≡ Some file → 16777216 < length file →
        TestsUnread (replay_task call.words r) (call.seen).held status
    too_long_tests h file told here long = unread long_read
      where
        long_read : Read → ⊥
        long_read f =
            let there : file_of (word_of call.words r.tests) h ≡ Some f.0 = (f.1).told h told in
            let same : f.0 ≡ file = cc (there, here) in
            let short : length file ≤ 16777216 = subst (λ u. length u ≤ 16777216) same (f.1).short in
            omega (arith, short, long)
