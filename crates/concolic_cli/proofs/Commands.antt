-- What is known of an accepted command, and that the words ask for one task.
use Rattle.std.proofs.Common.{◌≡◌, ◌∙◌, ℕ, suc, ◌+◌, ◌-◌, ◌≤◌, pos, ◌≤ℤ◌, List, [], ◌∷◌, ◌++◌, length, Option, Some, None, option_map, slice_get, codes, refl, sym, ap, subst, arith}
use Rattle.std.proofs.lemmas.Int.{ints}
use Rattle.cc_base.specs.Limits.{Limits}
use Rattle.cc_base.specs.Paths.{Path}
use Rattle.cc_model.specs.declared.commands.Command.{Command}
use Rattle.cc_model.specs.declared.commands.Command.TheVariants.{Run, Trace, Replay, Make}
use Rattle.cc_model.specs.declared.commands.Strategy.{Strategy}
use Rattle.cc_model.specs.declared.commands.Strategy.TheVariants.{Dfs}
use Rattle.cc_model.specs.declared.commands.RunWords.{RunWords}
use Rattle.cc_model.specs.declared.commands.TraceWords.{TraceWords}
use Rattle.cc_model.specs.declared.commands.ReplayWords.{ReplayWords}
use Rattle.concolic_cli.specs.Tasks.{Task, Asks, asks_list, asks_walk, asks_trace, asks_replay, word_of, text_or_none, IsPathOf, IsAfter, list_task, walk_task, trace_task, replay_task}
use Rattle.command_words.specs.Words.{Accepted, IsPath, behind, place_behind, run_words, strategy_word}
use Rattle.command_words.proofs.Forms.{IsRun, Form, a_run, a_trace, a_replay, a_make, form_of}
use Rattle.command_words.proofs.PathWords.{one_path, found_behind, fine_path}

-- ---- of the words

runs_same : (n b k : ℕ) (s : Strategy) (l : Limits) (a : Option ℕ) (r : RunWords) → Run r ≡ run_words n s l b k a → n ≡ r.runs
runs_same n b k s l a r e = cc e

after_same : (n b k : ℕ) (s : Strategy) (l : Limits) (a : Option ℕ) (r : RunWords) → Run r ≡ run_words n s l b k a → r.after ≡ a
after_same n b k s l a r e = cc e

is_run : (words : List (List ℕ)) (r : RunWords) → Accepted words (Run r) → IsRun words (Run r)
is_run words r a = by_form (form_of words (Run r) a)
  where
    by_form : Form words (Run r) → IsRun words (Run r)
    by_form (a_run i) = i
    by_form (a_trace t) = let e = t.command_is in absurd (cc e)
    by_form (a_replay t) = let e = t.command_is in absurd (cc e)
    by_form (a_make m) = let e = m.command_is in absurd (cc e)

pub least_runs : (words : List (List ℕ)) (r : RunWords) → Accepted words (Run r) → 1 ≤ r.runs
least_runs words r a =
    let i = is_run words r a in
    let low : pos 1 ≤ℤ pos i.runs = (i.runs_is).at_least in
    let same : i.runs ≡ r.runs = runs_same i.runs i.budget i.seed i.strategy i.bounds (place_behind (codes "-after") 6 i.options) r i.command_is in
    omega (ints, arith, low, same)

-- how many branches `make` names
pub branches_in : (words : List (List ℕ)) (n : ℕ) → Accepted words (Make n) → (1 ≤ n) × (n ≤ 1024)
branches_in words n a = by_form (form_of words (Make n) a)
  where
    by_form : Form words (Make n) → (1 ≤ n) × (n ≤ 1024)
    by_form (a_run i) = let e = i.command_is in absurd (cc e)
    by_form (a_trace t) = let e = t.command_is in absurd (cc e)
    by_form (a_replay t) = let e = t.command_is in absurd (cc e)
    by_form (a_make m) =
        let e = m.command_is in
        let same : n ≡ m.branches = cc e in
        let low : pos 1 ≤ℤ pos m.branches = (m.branches_are).at_least in
        let high : pos m.branches ≤ℤ pos 1024 = (m.branches_are).at_most in
        (omega (ints, arith, low, same), omega (ints, arith, high, same))

-- ---- the path after which a listing goes on

word_there : (words fixed options : List (List ℕ)) (k : ℕ) (w : List ℕ) → words ≡ fixed ++ options → slice_get options k ≡ Some w → slice_get words (length fixed + k) ≡ Some w
word_there words fixed options k w e g = ap (λ (ws : List (List ℕ)). slice_get ws (length fixed + k)) e ∙ there fixed
  where
    there : (fixed : List (List ℕ)) → slice_get (fixed ++ options) (length fixed + k) ≡ Some w
    there [] = let e : length {A = List ℕ} [] + k ≡ k = omega arith in ap (slice_get options) e ∙ g
    there (u ∷ fixed) = let e : length (u ∷ fixed) + k ≡ suc (length fixed + k) = omega arith in ap (slice_get (u ∷ (fixed ++ options))) e ∙ there fixed

path_named : (words : List (List ℕ)) (c : Command) (i : IsRun words c) (m : ℕ) → place_behind (codes "-after") 6 i.options ≡ Some m → (p : Path) × IsPath (word_of words m) p
path_named words c i m e =
    let f = found_behind (codes "-after") 6 m i.options e in
    let p = fine_path (behind (codes "-after") i.options) f.0 f.1 f.2 i.after_is in
    let at = f.4 in
    let place : m - 1 ≡ 6 + f.3 = omega (arith, at) in
    let there : slice_get words (m - 1) ≡ Some f.0 = ap (slice_get words) place ∙ word_there words (codes "run" ∷ i.file ∷ i.entry ∷ i.n ∷ strategy_word i.strategy ∷ i.d ∷ []) i.options f.3 f.0 i.words_are f.5 in
    (p.0, subst (λ w. IsPath w p.0) (sym (ap text_or_none there)) p.1)

path_if : (words : List (List ℕ)) (c : Command) (i : IsRun words c) (o : Option ℕ) → place_behind (codes "-after") 6 i.options ≡ o → (a : Option Path) × IsPathOf (option_map (λ n. word_of words n) o) a
path_if words c i None e = (None, tt)
path_if words c i (Some m) e = let p = path_named words c i m e in (Some p.0, p.1)

-- the words of a run name a path, or none
pub has_after : (words : List (List ℕ)) (r : RunWords) → Accepted words (Run r) → (a : Option Path) × IsAfter words r a
has_after words r a =
    let i = is_run words r a in
    let same = after_same i.runs i.budget i.seed i.strategy i.bounds (place_behind (codes "-after") 6 i.options) r i.command_is in
    path_if words (Run r) i r.after (sym same)

one_path_of : (w : Option (List ℕ)) (a b : Option Path) → IsPathOf w a → IsPathOf w b → a ≡ b
one_path_of None None None g h = refl
one_path_of None None (Some q) g h = absurd h
one_path_of None (Some p) b g h = absurd g
one_path_of (Some w) None b g h = absurd g
one_path_of (Some w) (Some p) None g h = absurd h
one_path_of (Some w) (Some p) (Some q) g h = ap Some (one_path w p q g h)

pub one_after : (words : List (List ℕ)) (r : RunWords) (a b : Option Path) → IsAfter words r a → IsAfter words r b → a ≡ b
one_after words r a b g h = one_path_of (option_map (λ n. word_of words n) r.after) a b g h

-- ---- of tasks

-- words have at most one command
abbrev pub OneCommand : Type 0
OneCommand = (words : List (List ℕ)) (first second : Command) → Accepted words first → Accepted words second → first ≡ second

pub of_list : OneCommand → (words : List (List ℕ)) (k : Task) (r : RunWords) (a : Option Path) → Asks words k → Accepted words (Run r) → r.strategy ≡ Dfs → IsAfter words r a → k ≡ list_task words r a
of_list one words _ r a (asks_list s b c w d) g v h =
    let e = one words (Run s) (Run r) c g in
    let f : s ≡ r = cc e in
    let same : b ≡ a = one_after words r b a (subst (λ u. IsAfter words u b) f d) h in
    ap (λ u. list_task words u b) f ∙ ap (λ u. list_task words r u) same
of_list one words _ r a (asks_walk s c n) g v h =
    let e = one words (Run s) (Run r) c g in
    let f : s ≡ r = cc e in
    absurd (n (subst (λ (u : RunWords). u.strategy ≡ Dfs) (sym f) v))
of_list one words _ r a (asks_replay t c) g v h = let e = one words (Replay t) (Run r) c g in absurd (cc e)
of_list one words _ r a (asks_trace t c) g v h = let e = one words (Trace t) (Run r) c g in absurd (cc e)

pub of_walk : OneCommand → (words : List (List ℕ)) (k : Task) (r : RunWords) → Asks words k → Accepted words (Run r) → (r.strategy ≡ Dfs → ⊥) → k ≡ walk_task words r
of_walk one words _ r (asks_walk s c n) g v =
    let e = one words (Run s) (Run r) c g in
    let f : s ≡ r = cc e in
    ap (λ u. walk_task words u) f
of_walk one words _ r (asks_list s b c w d) g v =
    let e = one words (Run s) (Run r) c g in
    let f : s ≡ r = cc e in
    absurd (v (subst (λ (u : RunWords). u.strategy ≡ Dfs) f w))
of_walk one words _ r (asks_replay t c) g v = let e = one words (Replay t) (Run r) c g in absurd (cc e)
of_walk one words _ r (asks_trace t c) g v = let e = one words (Trace t) (Run r) c g in absurd (cc e)

pub of_trace : OneCommand → (words : List (List ℕ)) (k : Task) (t : TraceWords) → Asks words k → Accepted words (Trace t) → k ≡ trace_task words t
of_trace one words _ t (asks_trace s b) a = let e = one words (Trace s) (Trace t) b a in let f : s ≡ t = cc e in ap (λ u. trace_task words u) f
of_trace one words _ t (asks_replay s b) a = let e = one words (Replay s) (Trace t) b a in absurd (cc e)
of_trace one words _ t (asks_list s b c w d) a = let e = one words (Run s) (Trace t) c a in absurd (cc e)
of_trace one words _ t (asks_walk s c n) a = let e = one words (Run s) (Trace t) c a in absurd (cc e)

pub of_replay : OneCommand → (words : List (List ℕ)) (k : Task) (t : ReplayWords) → Asks words k → Accepted words (Replay t) → k ≡ replay_task words t
of_replay one words _ t (asks_replay s b) a = let e = one words (Replay s) (Replay t) b a in let f : s ≡ t = cc e in ap (λ u. replay_task words u) f
of_replay one words _ t (asks_trace s b) a = let e = one words (Trace s) (Replay t) b a in absurd (cc e)
of_replay one words _ t (asks_list s b c w d) a = let e = one words (Run s) (Replay t) c a in absurd (cc e)
of_replay one words _ t (asks_walk s c n) a = let e = one words (Run s) (Replay t) c a in absurd (cc e)

-- `make` asks for no task
pub not_make : OneCommand → (words : List (List ℕ)) (k : Task) (n : ℕ) → Asks words k → Accepted words (Make n) → ⊥
not_make one words _ n (asks_list s b c w d) a = let e = one words (Run s) (Make n) c a in cc e
not_make one words _ n (asks_walk s c v) a = let e = one words (Run s) (Make n) c a in cc e
not_make one words _ n (asks_replay t b) a = let e = one words (Replay t) (Make n) b a in cc e
not_make one words _ n (asks_trace t b) a = let e = one words (Trace t) (Make n) b a in cc e

pub one_task : OneCommand → (words : List (List ℕ)) (k m : Task) → Asks words k → Asks words m → k ≡ m
one_task one words k _ a (asks_list r b c w d) = of_list one words k r b a c w d
one_task one words k _ a (asks_walk r c n) = of_walk one words k r a c n
one_task one words k _ a (asks_replay t b) = of_replay one words k t a b
one_task one words k _ a (asks_trace t b) = of_trace one words k t a b

pub has_command : (words : List (List ℕ)) (k : Task) → Asks words k → (c : Command) × Accepted words c
has_command words _ (asks_list r b a w d) = (Run r, a)
has_command words _ (asks_walk r a n) = (Run r, a)
has_command words _ (asks_replay t a) = (Replay t, a)
has_command words _ (asks_trace t a) = (Trace t, a)
