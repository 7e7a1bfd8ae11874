-- The statuses, and of which commands they come.
use Rattle.std.proofs.Common.{◌≡◌, ℕ, ◌≤◌, ◌⊎◌, inl, inr, [], ◌∷◌, arith}
use Rattle.cc_base.specs.Paths.{In}
use Rattle.cc_model.specs.declared.commands.Command.TheVariants.{Run, Trace, Replay}
use Rattle.cc_model.specs.declared.commands.ReplayWords.{ReplayWords}
use Rattle.cc_model.specs.declared.commands.RunWords.{RunWords}
use Rattle.cc_model.specs.declared.commands.Strategy.TheVariants.{Dfs}
use Rattle.cc_model.specs.declared.commands.TraceWords.{TraceWords}
use Rattle.concolic_cli.specs.Concolic.{Call}
use Rattle.concolic_cli.specs.Session.{Wrote}
use Rattle.concolic_cli.specs.Tasks.{Task, list, replay, Asks, asks_list, asks_walk, asks_trace, asks_replay, word_of, list_task, walk_task, trace_task, replay_task}
use Rattle.command_words.specs.Words.{Accepted}
use Rattle.concolic_cli.proofs.Calls.{Ending, at_words, at_report, at_source, at_file, at_output, at_memory, at_make, make_status, not_made, reports, list_status, walk_status, trace_status, replayed_status}
use Rattle.concolic_cli.proofs.Commands.{OneCommand}

module _ (call : Call) (status : ℕ) (one : OneCommand) (answered : Ending call status) where
  abbrev Written : Task → Type 0
  Written task = Wrote (call.seen).held (call.seen).out_old (call.seen).out_new task status

  every : In status reports → In status (0 ∷ 1 ∷ 2 ∷ 3 ∷ 4 ∷ 5 ∷ 7 ∷ 8 ∷ 10 ∷ 11 ∷ [])
  every (inl e) = inl e
  every (inr (inl e)) = inr (inl e)
  every (inr (inr h)) = inr (inr (inr (inr (inr (inr (inr h))))))

  made_every : In status (0 ∷ 3 ∷ 5 ∷ 7 ∷ []) → In status (0 ∷ 1 ∷ 2 ∷ 3 ∷ 4 ∷ 5 ∷ 7 ∷ 8 ∷ 10 ∷ 11 ∷ [])
  made_every (inl e) = inl e
  made_every (inr (inl e)) = inr (inr (inr (inl e)))
  made_every (inr (inr (inl e))) = inr (inr (inr (inr (inr (inl e)))))
  made_every (inr (inr (inr (inl e)))) = inr (inr (inr (inr (inr (inr (inl e))))))
  made_every (inr (inr (inr (inr e)))) = absurd e

  statuses_of : (e : Ending call status) → In status (0 ∷ 1 ∷ 2 ∷ 3 ∷ 4 ∷ 5 ∷ 7 ∷ 8 ∷ 10 ∷ 11 ∷ [])
  statuses_of (at_words n b e s t) = inr (inr (inl e))
  statuses_of (at_report k a i w q) = every i
  statuses_of (at_source e r q) = inr (inr (inr (inl e)))
  statuses_of (at_file e r q) = inr (inr (inr (inr (inl e))))
  statuses_of (at_output e r k a p t) = inr (inr (inr (inr (inr (inl e)))))
  statuses_of (at_memory e k a p t) = inr (inr (inr (inr (inr (inr (inl e))))))
  statuses_of (at_make n a m) = made_every (make_status call status n m)

  pub statuses : In status (0 ∷ 1 ∷ 2 ∷ 3 ∷ 4 ∷ 5 ∷ 7 ∷ 8 ∷ 10 ∷ 11 ∷ [])
  statuses = statuses_of answered

  -- of a list alone come 10 and 11
  run_of : (k : Task) → Asks call.words k → Written k → 10 ≤ status → (r : RunWords) × Accepted call.words (Run r) × (r.strategy ≡ Dfs)
  run_of _ (asks_list r after a v f) w l = (r, a, v)
  run_of _ (asks_walk r a v) w l =
      let s = walk_status (call.seen).held w.bytes (walk_task call.words r).entry r.strategy r.bounds r.runs r.budget r.seed w.text status w.report in
      absurd (omega (arith, s, l))
  run_of _ (asks_trace t a) w l =
      let s = trace_status (call.seen).held w.bytes (trace_task call.words t).entry t.bounds (word_of call.words t.map) w.text status w.report in
      absurd (omega (arith, s, l))
  run_of _ (asks_replay r a) w l = absurd (zero_or_eight (replayed_status (call.seen).held w.bytes (replay_task call.words r).entry (word_of call.words r.tests) w.text status w.report) l)
    where
      zero_or_eight : (status ≡ 0) ⊎ (status ≡ 8) → 10 ≤ status → ⊥
      zero_or_eight (inl e) h = omega (arith, e, h)
      zero_or_eight (inr e) h = omega (arith, e, h)

  made_low : In status (0 ∷ 3 ∷ 5 ∷ 7 ∷ []) → 10 ≤ status → ⊥
  made_low (inl e) h = omega (arith, e, h)
  made_low (inr (inl e)) h = omega (arith, e, h)
  made_low (inr (inr (inl e))) h = omega (arith, e, h)
  made_low (inr (inr (inr (inl e)))) h = omega (arith, e, h)
  made_low (inr (inr (inr (inr e)))) h = e

  alone_of : (e : Ending call status) → 10 ≤ status → (r : RunWords) × Accepted call.words (Run r) × (r.strategy ≡ Dfs)
  alone_of (at_words n b e s t) h = absurd (omega (arith, e, h))
  alone_of (at_report k a i w q) h = run_of k a w h
  alone_of (at_source e r q) h = absurd (omega (arith, e, h))
  alone_of (at_file e r q) h = absurd (omega (arith, e, h))
  alone_of (at_output e r k a p t) h = absurd (omega (arith, e, h))
  alone_of (at_memory e k a p t) h = absurd (omega (arith, e, h))
  alone_of (at_make n a m) h = absurd (made_low (make_status call status n m) h)

  -- of a replay alone comes 8
  replay_of : (k : Task) → Asks call.words k → Written k → status ≡ 8 → (r : ReplayWords) × Accepted call.words (Replay r)
  replay_of _ (asks_walk r a v) w e =
      let s = walk_status (call.seen).held w.bytes (walk_task call.words r).entry r.strategy r.bounds r.runs r.budget r.seed w.text status w.report in
      absurd (omega (arith, s, e))
  replay_of _ (asks_list r after a v f) w e = absurd (no_eight (list_status (call.seen).held w.bytes (list_task call.words r after).entry r.bounds r.runs r.budget after w.text status w.report) e)
    where
      no_eight : In status (0 ∷ 1 ∷ 10 ∷ 11 ∷ []) → status ≡ 8 → ⊥
      no_eight (inl f) e = omega (arith, e, f)
      no_eight (inr (inl f)) e = omega (arith, e, f)
      no_eight (inr (inr (inl f))) e = omega (arith, e, f)
      no_eight (inr (inr (inr (inl f)))) e = omega (arith, e, f)
      no_eight (inr (inr (inr (inr f)))) e = f
  replay_of _ (asks_trace t a) w e = let s = trace_status (call.seen).held w.bytes (trace_task call.words t).entry t.bounds (word_of call.words t.map) w.text status w.report in absurd (omega (arith, s, e))
  replay_of _ (asks_replay r a) w e = (r, a)

  replay_alone_of : (e : Ending call status) → status ≡ 8 → (r : ReplayWords) × Accepted call.words (Replay r)
  replay_alone_of (at_words n b e s t) h = absurd (omega (arith, e, h))
  replay_alone_of (at_report k a i w q) h = replay_of k a w h
  replay_alone_of (at_source e r q) h = absurd (omega (arith, e, h))
  replay_alone_of (at_file e r q) h = absurd (omega (arith, e, h))
  replay_alone_of (at_output e r k a p t) h = absurd (omega (arith, e, h))
  replay_alone_of (at_memory e k a p t) h = absurd (omega (arith, e, h))
  replay_alone_of (at_make n a m) h = absurd (not_made status 8 (make_status call status n m) h (λ e. omega (arith, e)) (λ e. omega (arith, e)) (λ e. omega (arith, e)) (λ e. omega (arith, e)))

  pub replay_alone : status ≡ 8 → (r : ReplayWords) × Accepted call.words (Replay r)
  replay_alone = replay_alone_of answered

  pub run_alone : 10 ≤ status → (r : RunWords) × Accepted call.words (Run r) × (r.strategy ≡ Dfs)
  run_alone = alone_of answered

  -- of a run, which a walk is too, or a trace alone comes 1
  abbrev RunOrTrace : Type 0
  RunOrTrace = ((r : RunWords) × Accepted call.words (Run r)) ⊎ ((t : TraceWords) × Accepted call.words (Trace t))

  fault_of : (k : Task) → Asks call.words k → Written k → status ≡ 1 → RunOrTrace
  fault_of _ (asks_list r after a v f) w e = inl (r, a)
  fault_of _ (asks_walk r a v) w e = inl (r, a)
  fault_of _ (asks_trace t a) w e = inr (t, a)
  fault_of _ (asks_replay r a) w e = absurd (no_one (replayed_status (call.seen).held w.bytes (replay_task call.words r).entry (word_of call.words r.tests) w.text status w.report) e)
    where
      no_one : (status ≡ 0) ⊎ (status ≡ 8) → status ≡ 1 → ⊥
      no_one (inl f) e = omega (arith, e, f)
      no_one (inr f) e = omega (arith, e, f)

  fault_alone_of : (e : Ending call status) → status ≡ 1 → RunOrTrace
  fault_alone_of (at_words n b e s t) h = absurd (omega (arith, e, h))
  fault_alone_of (at_report k a i w q) h = fault_of k a w h
  fault_alone_of (at_source e r q) h = absurd (omega (arith, e, h))
  fault_alone_of (at_file e r q) h = absurd (omega (arith, e, h))
  fault_alone_of (at_output e r k a p t) h = absurd (omega (arith, e, h))
  fault_alone_of (at_memory e k a p t) h = absurd (omega (arith, e, h))
  fault_alone_of (at_make n a m) h = absurd (not_made status 1 (make_status call status n m) h (λ e. omega (arith, e)) (λ e. omega (arith, e)) (λ e. omega (arith, e)) (λ e. omega (arith, e)))

  pub fault_alone : status ≡ 1 → ((r : RunWords) × Accepted call.words (Run r)) ⊎ ((t : TraceWords) × Accepted call.words (Trace t))
  fault_alone = fault_alone_of answered
