-- What the forms of the commands say of the first words of a list.
use Rattle.std.proofs.Common.{◌≡◌, ◌∙◌, sym, ap, refl, subst, ℕ, suc, ◌+◌, ◌<◌, ◌≤◌, ◌⊎◌, inl, inr, ⊎_elim, pos, List, [], ◌∷◌, ◌++◌, take, drop, length, arith, codes, append_assoc, length-append, Result, Ok, Err}
use Rattle.std.specs.Prelude.{IfOk, IfErr, bytes_eq}
use Rattle.std.proofs.lemmas.List.{take-append-le, take-append-drop, take_at}
use Rattle.std.proofs.lemmas.Int.{ints}
use Rattle.std.specs.Fmt.{signed_decimal}
use Rattle.cc_base.specs.Limits.{Limits}
use Rattle.cc_model.specs.declared.commands.Command.{Command}
use Rattle.cc_model.specs.declared.commands.Command.TheVariants.{Make, Replay}
use Rattle.cc_model.specs.declared.commands.Strategy.{Strategy}
use Rattle.cc_model.specs.declared.commands.Strategy.TheVariants.{Dfs, Random, UniformRandom, Cfg}
use Rattle.command_words.specs.declared.values.Takes.TheVariants.{PathText}
use Rattle.command_words.specs.Words.{Row, Accepted, run, trace, replay, make, Begins, BadWord, run_words, trace_words, strategy_word, IsNumber, IsGiven, IsSeed, IsFine, behind, place_behind, AreNamed, AreBounds, run_options, trace_options, solver_option, depth_option}
use Rattle.command_words.specs.Options.{Fits, FitsWith, IsBadAt}
use Rattle.command_words.proofs.NamedWords.{Words, length_take}
use Rattle.command_words.proofs.Numerals.{one_number}
use Rattle.command_words.proofs.OptionFits.{option_given}
use Rattle.command_words.proofs.OptionTables.{run_table, trace_table, fits_nothing, has_bounds, has_seed, has_path, solver_there, given_natural, given_once, seed_once, bounds_once, run_fits, trace_fits}

-- ---- the forms

-- an accepted list that begins with `run`
pub record IsRun (words : Words) (command : Command) : Type 0 where
  pub file : List ℕ
  pub entry : List ℕ
  pub n : List ℕ
  pub d : List ℕ
  pub options : Words
  pub strategy : Strategy
  pub runs : ℕ
  pub budget : ℕ
  pub seed : ℕ
  pub bounds : Limits
  pub words_are : words ≡ codes "run" ∷ file ∷ entry ∷ n ∷ strategy_word strategy ∷ d ∷ options
  pub command_is : command ≡ run_words runs strategy bounds budget seed (place_behind (codes "-after") 6 options)
  pub runs_is : IsNumber n (pos 1) (pos 1000000) (pos runs)
  pub depth_is : IsNumber d (pos 1) (pos 1024) (pos bounds.depth)
  pub named : AreNamed (run_options strategy) options
  pub bounds_are : AreBounds options bounds
  pub budget_is : IsGiven options solver_option (pos budget)
  pub seed_is : IsSeed options seed
  pub after_is : IsFine PathText (behind (codes "-after") options)

-- an accepted list that begins with `trace`
pub record IsTrace (words : Words) (command : Command) : Type 0 where
  pub file : List ℕ
  pub entry : List ℕ
  pub input : List ℕ
  pub options : Words
  pub bounds : Limits
  pub words_are : words ≡ codes "trace" ∷ file ∷ entry ∷ input ∷ options
  pub command_is : command ≡ trace_words bounds
  pub named : AreNamed trace_options options
  pub bounds_are : AreBounds options bounds
  pub depth_is : IsGiven options depth_option (pos bounds.depth)

-- an accepted list that begins with `replay`
pub record IsReplay (words : Words) (command : Command) : Type 0 where
  pub file : List ℕ
  pub entry : List ℕ
  pub tests : List ℕ
  pub words_are : words ≡ codes "replay" ∷ file ∷ entry ∷ tests ∷ []
  pub command_is : command ≡ Replay (record { file = 2; entry = 3; tests = 4 })

-- an accepted list that begins with `make`
pub record IsMake (words : Words) (command : Command) : Type 0 where
  pub n : List ℕ
  pub branches : ℕ
  pub words_are : words ≡ codes "make" ∷ n ∷ []
  pub command_is : command ≡ Make branches
  pub branches_are : IsNumber n (pos 1) (pos 1024) (pos branches)

-- an accepted list has one of the forms
pub data Form (words : Words) (command : Command) : Type 0 where
  a_run : IsRun words command → Form words command
  a_trace : IsTrace words command → Form words command
  a_replay : IsReplay words command → Form words command
  a_make : IsMake words command → Form words command

pub form_of : (words : Words) (command : Command) → Accepted words command → Form words command
form_of _ _ (run f e n d s o r b k l x y z u v t w) = a_run (record { file = f; entry = e; n = n; d = d; options = o; strategy = s; runs = r; budget = b; seed = k; bounds = l; words_are = refl; command_is = refl; runs_is = x; depth_is = y; named = z; bounds_are = u; budget_is = v; seed_is = t; after_is = w })
form_of _ _ (trace f e m o l z u v) = a_trace (record { file = f; entry = e; input = m; options = o; bounds = l; words_are = refl; command_is = refl; named = z; bounds_are = u; depth_is = v })
form_of _ _ (replay f e t) = a_replay (record { file = f; entry = e; tests = t; words_are = refl; command_is = refl })
form_of _ _ (make n k x) = a_make (record { n = n; branches = k; words_are = refl; command_is = refl; branches_are = x })

pub run_of : (rest : Words) (command : Command) → Accepted (codes "run" ∷ rest) command → IsRun (codes "run" ∷ rest) command
run_of rest command a = by_form (form_of (codes "run" ∷ rest) command a)
  where
    by_form : Form (codes "run" ∷ rest) command → IsRun (codes "run" ∷ rest) command
    by_form (a_run r) = r
    by_form (a_trace t) = let e = t.words_are in absurd (cc e)
    by_form (a_replay t) = let e = t.words_are in absurd (cc e)
    by_form (a_make m) = let e = m.words_are in absurd (cc e)

pub trace_of : (rest : Words) (command : Command) → Accepted (codes "trace" ∷ rest) command → IsTrace (codes "trace" ∷ rest) command
trace_of rest command a = by_form (form_of (codes "trace" ∷ rest) command a)
  where
    by_form : Form (codes "trace" ∷ rest) command → IsTrace (codes "trace" ∷ rest) command
    by_form (a_run r) = let e = r.words_are in absurd (cc e)
    by_form (a_trace t) = t
    by_form (a_replay t) = let e = t.words_are in absurd (cc e)
    by_form (a_make m) = let e = m.words_are in absurd (cc e)

pub make_of : (rest : Words) (command : Command) → Accepted (codes "make" ∷ rest) command → IsMake (codes "make" ∷ rest) command
make_of rest command a = by_form (form_of (codes "make" ∷ rest) command a)
  where
    by_form : Form (codes "make" ∷ rest) command → IsMake (codes "make" ∷ rest) command
    by_form (a_run r) = let e = r.words_are in absurd (cc e)
    by_form (a_trace t) = let e = t.words_are in absurd (cc e)
    by_form (a_replay t) = let e = t.words_are in absurd (cc e)
    by_form (a_make m) = m

pub replay_of : (rest : Words) (command : Command) → Accepted (codes "replay" ∷ rest) command → IsReplay (codes "replay" ∷ rest) command
replay_of rest command a = by_form (form_of (codes "replay" ∷ rest) command a)
  where
    by_form : Form (codes "replay" ∷ rest) command → IsReplay (codes "replay" ∷ rest) command
    by_form (a_run r) = let e = r.words_are in absurd (cc e)
    by_form (a_trace t) = let e = t.words_are in absurd (cc e)
    by_form (a_replay t) = t
    by_form (a_make m) = let e = m.words_are in absurd (cc e)

-- words of strategies tell them
pub same_strategy : (s t : Strategy) → strategy_word s ≡ strategy_word t → s ≡ t
same_strategy Dfs Dfs e = refl
same_strategy Dfs Random e = absurd (cc e)
same_strategy Dfs UniformRandom e = absurd (cc e)
same_strategy Dfs Cfg e = let f : bytes_eq (codes "-dfs") (codes "-dfs") ≡ bytes_eq (codes "-cfg") (codes "-dfs") = ap (λ (l : List ℕ). bytes_eq l (codes "-dfs")) e in absurd (cc f)
same_strategy Random Dfs e = absurd (cc e)
same_strategy Random Random e = refl
same_strategy Random UniformRandom e = absurd (cc e)
same_strategy Random Cfg e = absurd (cc e)
same_strategy UniformRandom Dfs e = absurd (cc e)
same_strategy UniformRandom Random e = absurd (cc e)
same_strategy UniformRandom UniformRandom e = refl
same_strategy UniformRandom Cfg e = absurd (cc e)
same_strategy Cfg Dfs e = let f : bytes_eq (codes "-cfg") (codes "-dfs") ≡ bytes_eq (codes "-dfs") (codes "-dfs") = ap (λ (l : List ℕ). bytes_eq l (codes "-dfs")) e in absurd (cc f)
same_strategy Cfg Random e = absurd (cc e)
same_strategy Cfg UniformRandom e = absurd (cc e)
same_strategy Cfg Cfg e = refl

-- ---- a list of words with a part read

-- fewer first words begin an accepted list too
pub begins_take : (words : Words) (k : ℕ) → Begins words → Begins (take k words)
begins_take words k b =
    let e : words ++ b.0 ≡ take k words ++ (drop k words ++ b.0) =
    ap (λ (ws : Words). ws ++ b.0) (sym (take-append-drop k words)) ∙ append_assoc (take k words) (drop k words) b.0 in
    (drop k words ++ b.0, b.1, subst (λ (ws : Words). Accepted ws b.1) e b.2)

-- a list goes on as the rest does: it ends where the rest ends, and its next word is the rest's
pub data GoesOn : Words → Words → Type 0 where
  ends : GoesOn [] []
  word : (w : List ℕ) (more later : Words) → GoesOn (w ∷ more) (w ∷ later)

-- where the bad word stands
here_is : (good rest : Words) → ((tail : Words) (command : Command) → GoesOn rest tail → Accepted (good ++ tail) command → ⊥)
    → ((length good + 1 ≤ length (good ++ rest)) × ¬ Begins (take (length good + 1) (good ++ rest))) ⊎ (length good + 1 ≡ length (good ++ rest) + 1)
here_is good [] bad = inr (omega (arith, length-append good []))
here_is good (w ∷ more) bad =
    let shown : take (length good + 1) (good ++ (w ∷ more)) ≡ good ++ w ∷ [] =
    ap (take (length good + 1)) (sym (append_assoc good (w ∷ []) more)) ∙ take_at (good ++ w ∷ []) more (length good + 1) (length-append good (w ∷ [])) in
    inl (
      omega (arith, length-append good (w ∷ more)),
      subst (λ (ws : Words). ¬ Begins ws) (sym shown)
          (λ b. bad (w ∷ b.0) b.1 (word w more b.0) (subst (λ (ws : Words). Accepted ws b.1) (append_assoc good (w ∷ []) b.0) b.2)),
    )

itself : (rest : Words) → GoesOn rest rest
itself [] = ends
itself (w ∷ rest) = word w rest rest

-- the word behind good ones is bad: no accepted list goes on so
bad_after : {words : Words} (good rest : Words) → words ≡ good ++ rest → Begins good → ((tail : Words) (command : Command) → GoesOn rest tail → Accepted (good ++ tail) command → ⊥) → BadWord words (length good + 1)
bad_after good rest eq b bad =
    subst (λ (ws : Words). BadWord ws (length good + 1)) (sym eq) (record {
      refused = λ command a. bad rest command (itself rest) a;
      before = λ k h.
          let le : k ≤ length good = omega arith in
          subst Begins (sym (take-append-le k good rest le)) (begins_take good k b);
      here = here_is good rest bad;
    })

-- ---- the fixed words

text_of_one : List ℕ
text_of_one = signed_decimal (pos 1)

one : IsNumber text_of_one (pos 1) (pos 1000000) (pos 1)
unfolding text_of_one
one = record { text = refl; at_least = omega (arith, ints); at_most = omega (arith, ints) }

pub accepted_run : (f e n d : List ℕ) (s : Strategy) → (options : Words) (runs depth : ℕ) → IsNumber n (pos 1) (pos 1000000) (pos runs) → IsNumber d (pos 1) (pos 1024) (pos depth) → Fits (run_options s) options
    → (command : Command) × Accepted (codes "run" ∷ f ∷ e ∷ n ∷ strategy_word s ∷ d ∷ options) command
accepted_run f e n d s options runs depth r t fits =
    let b = has_bounds (run_options s) (run_table s) options depth fits in
    let budget = given_natural options solver_option refl (option_given (run_options s) (run_table s) options fits (codes "-solver") solver_option.1 (solver_there s)) in
    let seed = has_seed s options fits in (
      run_words runs s b.0 budget.0 seed.0 (place_behind (codes "-after") 6 options),
      run f e n d s options runs budget.0 seed.0 b.0 r (subst (λ k. IsNumber d (pos 1) (pos 1024) (pos k)) (sym b.2) t) fits.named b.1 budget.1 seed.1 (has_path s options fits),
    )

pub accepted_trace : (f e m : List ℕ) (options : Words) → Fits trace_options options → (command : Command) × Accepted (codes "trace" ∷ f ∷ e ∷ m ∷ options) command
accepted_trace f e m options fits =
    let depth = given_natural options depth_option refl (option_given trace_options trace_table options fits (codes "-depth") depth_option.1 refl) in
    let b = has_bounds trace_options trace_table options depth.0 fits in
    (trace_words b.0, trace f e m options b.0 fits.named b.1 (subst (λ k. IsGiven options depth_option (pos k)) (sym b.2) depth.1))

begins_run : (k : ℕ) (f e n d : List ℕ) (s : Strategy) → (runs depth : ℕ) → IsNumber n (pos 1) (pos 1000000) (pos runs) → IsNumber d (pos 1) (pos 1024) (pos depth)
    → Begins (take k (codes "run" ∷ f ∷ e ∷ n ∷ strategy_word s ∷ d ∷ []))
begins_run k f e n d s runs depth r t =
    let a = accepted_run f e n d s [] runs depth r t (fits_nothing (run_options s) (run_table s)) in
    begins_take (codes "run" ∷ f ∷ e ∷ n ∷ strategy_word s ∷ d ∷ []) k ([], a.0, a.1)

begins_replay : (k : ℕ) (f e t : List ℕ) → Begins (take k (codes "replay" ∷ f ∷ e ∷ t ∷ []))
begins_replay k f e t = begins_take (codes "replay" ∷ f ∷ e ∷ t ∷ []) k ([], Replay (record { file = 2; entry = 3; tests = 4 }), replay f e t)

begins_trace : (k : ℕ) (f e m : List ℕ) → Begins (take k (codes "trace" ∷ f ∷ e ∷ m ∷ []))
begins_trace k f e m =
    let a = accepted_trace f e m [] (fits_nothing trace_options trace_table) in
    begins_take (codes "trace" ∷ f ∷ e ∷ m ∷ []) k ([], a.0, a.1)

deep : IsNumber text_of_one (pos 1) (pos 1024) (pos 1)
unfolding text_of_one
deep = record { text = refl; at_least = omega (arith, ints); at_most = omega (arith, ints) }

begins_make : (k : ℕ) → Begins (take k (codes "make" ∷ text_of_one ∷ []))
begins_make k = begins_take (codes "make" ∷ text_of_one ∷ []) k ([], Make 1, make text_of_one 1 deep)

-- word 1 is `run`, `trace`, `replay` or `make`
pub bad_1 : (words : Words) → ((rest : Words) → words ≡ codes "run" ∷ rest → ⊥) → ((rest : Words) → words ≡ codes "trace" ∷ rest → ⊥) → ((rest : Words) → words ≡ codes "replay" ∷ rest → ⊥) → ((rest : Words) → words ≡ codes "make" ∷ rest → ⊥) → BadWord words 1
bad_1 words no_run no_trace no_replay no_make =
    bad_after [] words refl (begins_trace 0 [] [] []) (λ tail command g a. by_form tail command g (form_of tail command a))
  where
    begun : (words tail : Words) → GoesOn words tail → (w : List ℕ) (later : Words) → tail ≡ w ∷ later → ((rest : Words) → words ≡ w ∷ rest → ⊥) → ⊥
    begun _ _ ends w later e none = cc e
    begun _ _ (word v more others) w later e none = none more (cc e)

    by_form : (tail : Words) (command : Command) → GoesOn words tail → Form tail command → ⊥
    by_form tail command g (a_run r) = begun words tail g (codes "run") _ r.words_are no_run
    by_form tail command g (a_trace t) = begun words tail g (codes "trace") _ t.words_are no_trace
    by_form tail command g (a_replay t) = begun words tail g (codes "replay") _ t.words_are no_replay
    by_form tail command g (a_make m) = begun words tail g (codes "make") _ m.words_are no_make

-- `make`: word 2 is the number of branches
pub make_2 : {l1 : Words} → ((w : List ℕ) (rest : Words) (n : ℕ) → l1 ≡ w ∷ rest → IsNumber w (pos 1) (pos 1024) (pos n) → ⊥) → BadWord (codes "make" ∷ l1) 2
make_2 {l1} none = bad_after (codes "make" ∷ []) l1 refl (begins_make 1) (λ tail command g a. ended l1 tail g none command a)
  where
    ended : (l tail : Words) → GoesOn l tail → ((w : List ℕ) (rest : Words) (n : ℕ) → l ≡ w ∷ rest → IsNumber w (pos 1) (pos 1024) (pos n) → ⊥)
        → (command : Command) → Accepted (codes "make" ∷ tail) command → ⊥
    ended _ _ ends none command a = let e = (make_of [] command a).words_are in cc e
    ended _ _ (word w more later) none command a =
        let r = make_of (w ∷ later) command a in
        let words_are = r.words_are in
        let same : r.n ≡ w = cc words_are in
        none w more r.branches refl (subst (λ m. IsNumber m (pos 1) (pos 1024) (pos r.branches)) same r.branches_are)

-- nothing stands behind it
pub make_3 : {l1 l2 l3 : Words} {w u : List ℕ} {n : ℕ} → l1 ≡ w ∷ l2 → IsNumber w (pos 1) (pos 1024) (pos n) → l2 ≡ u ∷ l3 → BadWord (codes "make" ∷ l1) 3
make_3 {l1} {l2} {l3} {w} {u} {n} e1 r e2 =
    bad_after (codes "make" ∷ w ∷ []) (u ∷ l3) (cc (e1, e2)) ([], Make n, make w n r) (λ tail command g a. ended (u ∷ l3) tail u l3 refl g command a)
  where
    ended : (l tail : Words) (v : List ℕ) (m : Words) → l ≡ v ∷ m → GoesOn l tail → (command : Command) → Accepted (codes "make" ∷ w ∷ tail) command → ⊥
    ended _ _ v m e ends command a = cc e
    ended _ _ v m e (word x more later) command a = let f = (make_of (w ∷ x ∷ later) command a).words_are in cc f

pub make_whole : {l1 l2 : Words} {w : List ℕ} {n : ℕ} → l1 ≡ w ∷ l2 → IsNumber w (pos 1) (pos 1024) (pos n) → l2 ≡ [] → Accepted (codes "make" ∷ l1) (Make n)
make_whole {l1} {l2} {w} {n} e1 r e2 =
    let whole : codes "make" ∷ l1 ≡ codes "make" ∷ w ∷ [] = cc (e1, e2) in
    subst (λ (ws : Words). Accepted ws (Make n)) (sym whole) (make w n r)

-- `run`: word 2 is any word; below, l1 is what stands behind word 1, and so on
pub run_2 : {l1 : Words} → l1 ≡ [] → BadWord (codes "run" ∷ l1) 2
run_2 {l1} none = bad_after (codes "run" ∷ []) [] (ap (λ (l : Words). codes "run" ∷ l) none) (begins_run 1 [] [] text_of_one text_of_one Dfs 1 1 one deep) (λ tail command g a. ended tail g command a)
  where
    ended : (tail : Words) → GoesOn [] tail → (command : Command) → Accepted (codes "run" ∷ tail) command → ⊥
    ended _ ends command a = cc (run_of [] command a).words_are

-- word 3 is any word
pub run_3 : {l1 l2 : Words} {f : List ℕ} → l1 ≡ f ∷ l2 → l2 ≡ [] → BadWord (codes "run" ∷ l1) 3
run_3 {l1} {l2} {f} e1 none = bad_after (codes "run" ∷ f ∷ []) [] (cc (e1, none)) (begins_run 2 f [] text_of_one text_of_one Dfs 1 1 one deep) (λ tail command g a. ended tail g command a)
  where
    ended : (tail : Words) → GoesOn [] tail → (command : Command) → Accepted (codes "run" ∷ f ∷ tail) command → ⊥
    ended _ ends command a = cc (run_of (f ∷ []) command a).words_are

-- word 4 is the number of runs
pub run_4 : {l1 l2 l3 : Words} {f e : List ℕ} → l1 ≡ f ∷ l2 → l2 ≡ e ∷ l3
    → ((w : List ℕ) (rest : Words) (n : ℕ) → l3 ≡ w ∷ rest → IsNumber w (pos 1) (pos 1000000) (pos n) → ⊥) → BadWord (codes "run" ∷ l1) 4
run_4 {l1} {l2} {l3} {f} {e} e1 e2 none =
    bad_after (codes "run" ∷ f ∷ e ∷ []) l3 (cc (e1, e2)) (begins_run 3 f e text_of_one text_of_one Dfs 1 1 one deep) (λ tail command g a. ended l3 tail g none command a)
  where
    ended : (l tail : Words) → GoesOn l tail → ((w : List ℕ) (rest : Words) (n : ℕ) → l ≡ w ∷ rest → IsNumber w (pos 1) (pos 1000000) (pos n) → ⊥)
        → (command : Command) → Accepted (codes "run" ∷ f ∷ e ∷ tail) command → ⊥
    ended _ _ ends none command a = cc (run_of (f ∷ e ∷ []) command a).words_are
    ended _ _ (word w more later) none command a =
        let r = run_of (f ∷ e ∷ w ∷ later) command a in
        let same : r.n ≡ w = cc r.words_are in
        none w more r.runs refl (subst (λ m. IsNumber m (pos 1) (pos 1000000) (pos r.runs)) same r.runs_is)

-- word 5 is the strategy
pub run_5 : {l1 l2 l3 l4 : Words} {f e w : List ℕ} {n : ℕ} → l1 ≡ f ∷ l2 → l2 ≡ e ∷ l3 → l3 ≡ w ∷ l4 → IsNumber w (pos 1) (pos 1000000) (pos n)
    → ((s : Strategy) (rest : Words) → l4 ≡ strategy_word s ∷ rest → ⊥) → BadWord (codes "run" ∷ l1) 5
run_5 {l1} {l2} {l3} {l4} {f} {e} {w} {n} e1 e2 e3 r none =
    bad_after (codes "run" ∷ f ∷ e ∷ w ∷ []) l4 (cc (e1, e2, e3)) (begins_run 4 f e w text_of_one Dfs n 1 r deep) (λ tail command g a. ended l4 tail g none command a)
  where
    ended : (l tail : Words) → GoesOn l tail → ((s : Strategy) (rest : Words) → l ≡ strategy_word s ∷ rest → ⊥) → (command : Command) → Accepted (codes "run" ∷ f ∷ e ∷ w ∷ tail) command → ⊥
    ended _ _ ends none command a = cc (run_of (f ∷ e ∷ w ∷ []) command a).words_are
    ended _ _ (word u more later) none command a =
        let r = run_of (f ∷ e ∷ w ∷ u ∷ later) command a in
        let same : u ≡ strategy_word r.strategy = cc r.words_are in
        none r.strategy more (ap (λ (m : List ℕ). m ∷ more) same)

-- word 6 is the depth
pub run_6 : (s : Strategy) → {l1 l2 l3 l4 l5 : Words} {f e w : List ℕ} {n : ℕ} → l1 ≡ f ∷ l2 → l2 ≡ e ∷ l3 → l3 ≡ w ∷ l4 → IsNumber w (pos 1) (pos 1000000) (pos n) → l4 ≡ strategy_word s ∷ l5
    → ((u : List ℕ) (rest : Words) (n : ℕ) → l5 ≡ u ∷ rest → IsNumber u (pos 1) (pos 1024) (pos n) → ⊥) → BadWord (codes "run" ∷ l1) 6
run_6 s {l1} {l2} {l3} {l4} {l5} {f} {e} {w} {n} e1 e2 e3 r e4 none =
    bad_after (codes "run" ∷ f ∷ e ∷ w ∷ strategy_word s ∷ []) l5 (cc (e1, e2, e3, e4)) (begins_run 5 f e w text_of_one s n 1 r deep) (λ tail command g a. ended l5 tail g none command a)
  where
    ended : (l tail : Words) → GoesOn l tail → ((u : List ℕ) (rest : Words) (n : ℕ) → l ≡ u ∷ rest → IsNumber u (pos 1) (pos 1024) (pos n) → ⊥)
        → (command : Command) → Accepted (codes "run" ∷ f ∷ e ∷ w ∷ strategy_word s ∷ tail) command → ⊥
    ended _ _ ends none command a = cc (run_of (f ∷ e ∷ w ∷ strategy_word s ∷ []) command a).words_are
    ended _ _ (word u more later) none command a =
        let r = run_of (f ∷ e ∷ w ∷ strategy_word s ∷ u ∷ later) command a in
        let same : r.d ≡ u = cc r.words_are in
        none u more (r.bounds).depth refl (subst (λ m. IsNumber m (pos 1) (pos 1024) (pos (r.bounds).depth)) same r.depth_is)

-- `trace`: words 2, 3 and 4 are any words
pub trace_2 : {l1 : Words} → l1 ≡ [] → BadWord (codes "trace" ∷ l1) 2
trace_2 {l1} none = bad_after (codes "trace" ∷ []) [] (ap (λ (l : Words). codes "trace" ∷ l) none) (begins_trace 1 [] [] []) (λ tail command g a. ended tail g command a)
  where
    ended : (tail : Words) → GoesOn [] tail → (command : Command) → Accepted (codes "trace" ∷ tail) command → ⊥
    ended _ ends command a = cc (trace_of [] command a).words_are

pub trace_3 : {l1 l2 : Words} {f : List ℕ} → l1 ≡ f ∷ l2 → l2 ≡ [] → BadWord (codes "trace" ∷ l1) 3
trace_3 {l1} {l2} {f} e1 none = bad_after (codes "trace" ∷ f ∷ []) [] (cc (e1, none)) (begins_trace 2 f [] []) (λ tail command g a. ended tail g command a)
  where
    ended : (tail : Words) → GoesOn [] tail → (command : Command) → Accepted (codes "trace" ∷ f ∷ tail) command → ⊥
    ended _ ends command a = cc (trace_of (f ∷ []) command a).words_are

pub trace_4 : {l1 l2 l3 : Words} {f e : List ℕ} → l1 ≡ f ∷ l2 → l2 ≡ e ∷ l3 → l3 ≡ [] → BadWord (codes "trace" ∷ l1) 4
trace_4 {l1} {l2} {l3} {f} {e} e1 e2 none = bad_after (codes "trace" ∷ f ∷ e ∷ []) [] (cc (e1, e2, none)) (begins_trace 3 f e []) (λ tail command g a. ended tail g command a)
  where
    ended : (tail : Words) → GoesOn [] tail → (command : Command) → Accepted (codes "trace" ∷ f ∷ e ∷ tail) command → ⊥
    ended _ ends command a = cc (trace_of (f ∷ e ∷ []) command a).words_are

-- `replay`: words 2, 3 and 4 are any words, and nothing stands behind them
pub replay_2 : {l1 : Words} → l1 ≡ [] → BadWord (codes "replay" ∷ l1) 2
replay_2 {l1} none = bad_after (codes "replay" ∷ []) [] (ap (λ (l : Words). codes "replay" ∷ l) none) (begins_replay 1 [] [] []) (λ tail command g a. ended tail g command a)
  where
    ended : (tail : Words) → GoesOn [] tail → (command : Command) → Accepted (codes "replay" ∷ tail) command → ⊥
    ended _ ends command a = cc (replay_of [] command a).words_are

pub replay_3 : {l1 l2 : Words} {f : List ℕ} → l1 ≡ f ∷ l2 → l2 ≡ [] → BadWord (codes "replay" ∷ l1) 3
replay_3 {l1} {l2} {f} e1 none = bad_after (codes "replay" ∷ f ∷ []) [] (cc (e1, none)) (begins_replay 2 f [] []) (λ tail command g a. ended tail g command a)
  where
    ended : (tail : Words) → GoesOn [] tail → (command : Command) → Accepted (codes "replay" ∷ f ∷ tail) command → ⊥
    ended _ ends command a = cc (replay_of (f ∷ []) command a).words_are

pub replay_4 : {l1 l2 l3 : Words} {f e : List ℕ} → l1 ≡ f ∷ l2 → l2 ≡ e ∷ l3 → l3 ≡ [] → BadWord (codes "replay" ∷ l1) 4
replay_4 {l1} {l2} {l3} {f} {e} e1 e2 none = bad_after (codes "replay" ∷ f ∷ e ∷ []) [] (cc (e1, e2, none)) (begins_replay 3 f e []) (λ tail command g a. ended tail g command a)
  where
    ended : (tail : Words) → GoesOn [] tail → (command : Command) → Accepted (codes "replay" ∷ f ∷ e ∷ tail) command → ⊥
    ended _ ends command a = cc (replay_of (f ∷ e ∷ []) command a).words_are

pub replay_5 : {l1 l2 l3 l4 l5 : Words} {f e t u : List ℕ} → l1 ≡ f ∷ l2 → l2 ≡ e ∷ l3 → l3 ≡ t ∷ l4 → l4 ≡ u ∷ l5 → BadWord (codes "replay" ∷ l1) 5
replay_5 {l1} {l2} {l3} {l4} {l5} {f} {e} {t} {u} e1 e2 e3 e4 =
    bad_after (codes "replay" ∷ f ∷ e ∷ t ∷ []) (u ∷ l5) (cc (e1, e2, e3, e4)) (begins_replay 4 f e t) (λ tail command g a. ended (u ∷ l5) tail u l5 refl g command a)
  where
    ended : (l tail : Words) (v : List ℕ) (m : Words) → l ≡ v ∷ m → GoesOn l tail → (command : Command) → Accepted (codes "replay" ∷ f ∷ e ∷ t ∷ tail) command → ⊥
    ended _ _ v m e0 ends command a = cc e0
    ended _ _ v m e0 (word x more later) command a = let g = (replay_of (f ∷ e ∷ t ∷ x ∷ later) command a).words_are in cc g

pub replay_whole : {l1 l2 l3 l4 : Words} {f e t : List ℕ} → l1 ≡ f ∷ l2 → l2 ≡ e ∷ l3 → l3 ≡ t ∷ l4 → l4 ≡ [] → Accepted (codes "replay" ∷ l1) (Replay (record { file = 2; entry = 3; tests = 4 }))
replay_whole {l1} {l2} {l3} {l4} {f} {e} {t} e1 e2 e3 e4 =
    let whole : codes "replay" ∷ l1 ≡ codes "replay" ∷ f ∷ e ∷ t ∷ [] = cc (e1, e2, e3, e4) in
    subst (λ (ws : Words). Accepted ws (Replay (record { file = 2; entry = 3; tests = 4 }))) (sym whole) (replay f e t)

-- ---- the options

take_behind : (fixed options : Words) (m : ℕ) → take (length fixed + m) (fixed ++ options) ≡ fixed ++ take m options
take_behind [] options m = ap (λ n. take n options) (omega arith)
take_behind (w ∷ fixed) options m =
    let e : length (w ∷ fixed) + m ≡ suc (length fixed + m) = omega arith in
    ap (λ n. take n (w ∷ (fixed ++ options))) e ∙ ap (λ (l : Words). w ∷ l) (take_behind fixed options m)

fits_with : (table : List Row) (options : Words) (m : ℕ) → Fits table options → FitsWith table (take m options)
fits_with table options m f = (drop m options, subst (Fits table) (sym (take-append-drop m options)) f)

module _ (table : List Row) (fixed : Words) (build : (options : Words) → Fits table options → (command : Command) × Accepted (fixed ++ options) command)
    (parse : (options : Words) (command : Command) → Accepted (fixed ++ options) command → Fits table options) where
  begins_with : (options : Words) → FitsWith table options → Begins (fixed ++ options)
  begins_with options b =
      let a = build (options ++ b.0) b.1 in
      (b.0, a.0, subst (λ (ws : Words). Accepted ws a.0) (sym (append_assoc fixed options b.0)) a.1)

  with_begins : (options : Words) → Begins (fixed ++ options) → FitsWith table options
  with_begins options b = (b.0, parse (options ++ b.0) b.1 (subst (λ (ws : Words). Accepted ws b.1) (append_assoc fixed options b.0) b.2))

  pub bad_options : (options : Words) (m : ℕ) → IsBadAt table options m → BadWord (fixed ++ options) (length fixed + m + 1)
  bad_options options m b = record {
    refused = λ command a.
        let f = parse options command a in
        ⊎_elim (λ p. p.1 (fits_with table options (m + 1) f)) (λ p. p.1 f) b.here;
    before = λ k h.
        let le : k ≤ length fixed + m = omega arith in
        first k le;
    here = ⊎_elim (λ p. inl (omega (arith, length-append fixed options, p.0), λ g. p.1 (with_begins (take (m + 1) options) (subst Begins shown g))))
        (λ p. inr (omega (arith, length-append fixed options, p.0))) b.here;
  }
    where
      shown : take (length fixed + m + 1) (fixed ++ options) ≡ fixed ++ take (m + 1) options
      shown = ap (λ n. take n (fixed ++ options)) (omega arith) ∙ take_behind fixed options (m + 1)

      first : (k : ℕ) → k ≤ length fixed + m → Begins (take k (fixed ++ options))
      first k le =
          let more : fixed ++ options ≡ (fixed ++ take m options) ++ drop m options = ap (λ (l : Words). fixed ++ l) (sym (take-append-drop m options)) ∙ sym (append_assoc fixed (take m options) (drop m options)) in
          let size : k ≤ length (fixed ++ take m options) = in_size k le in
          subst Begins (sym (ap (take k) more ∙ take-append-le k (fixed ++ take m options) (drop m options) size)) (begins_take (fixed ++ take m options) k (begins_with (take m options) b.before))
        where
          in_size : (k : ℕ) → k ≤ length fixed + m → k ≤ length (fixed ++ take m options)
          in_size k le =
              let within : m ≤ length options = ⊎_elim (λ p. omega (arith, p.0)) (λ p. omega (arith, p.0)) b.here in
              omega (arith, le, length-append fixed (take m options), length_take m options within)

-- a bad word of the options of `run`
pub run_bad : (s : Strategy) → {l1 l2 l3 l4 l5 l6 : Words} {f e w u : List ℕ} {n d m : ℕ} → l1 ≡ f ∷ l2 → l2 ≡ e ∷ l3 → l3 ≡ w ∷ l4 → IsNumber w (pos 1) (pos 1000000) (pos n) → l4 ≡ strategy_word s ∷ l5
    → l5 ≡ u ∷ l6 → IsNumber u (pos 1) (pos 1024) (pos d) → IsBadAt (run_options s) l6 m → BadWord (codes "run" ∷ l1) (m + 7)
run_bad s {l1} {l2} {l3} {l4} {l5} {l6} {f} {e} {w} {u} {n} {d} {m} e1 e2 e3 r e4 e5 t b =
    let whole : codes "run" ∷ l1 ≡ codes "run" ∷ f ∷ e ∷ w ∷ strategy_word s ∷ u ∷ l6 = cc (e1, e2, e3, e4, e5) in
    let bad : BadWord (codes "run" ∷ f ∷ e ∷ w ∷ strategy_word s ∷ u ∷ l6) (6 + m + 1) = bad_options (run_options s) (codes "run" ∷ f ∷ e ∷ w ∷ strategy_word s ∷ u ∷ []) (λ o h. accepted_run f e w u s o n d r t h) (λ o c a. parsed o c a) l6 m b in
    subst (λ (ws : Words). BadWord ws (m + 7)) (sym whole) (subst (BadWord (codes "run" ∷ f ∷ e ∷ w ∷ strategy_word s ∷ u ∷ l6)) (omega arith) bad)
  where
    parsed : (o : Words) (command : Command) → Accepted (codes "run" ∷ f ∷ e ∷ w ∷ strategy_word s ∷ u ∷ o) command → Fits (run_options s) o
    parsed o command a =
        let g = run_of (f ∷ e ∷ w ∷ strategy_word s ∷ u ∷ o) command a in
        let same : g.options ≡ o = cc g.words_are in
        let word_same : strategy_word g.strategy ≡ strategy_word s = cc g.words_are in
        let s_same : g.strategy ≡ s = same_strategy g.strategy s word_same in
        subst (λ (k : Strategy). Fits (run_options k) o) s_same (subst (Fits (run_options g.strategy)) same (run_fits g.strategy g.options g.bounds g.budget g.seed g.named g.bounds_are g.budget_is g.seed_is g.after_is))

-- a bad word of the options of `trace`
pub trace_bad : {l1 l2 l3 l4 : Words} {f e w : List ℕ} {m : ℕ} → l1 ≡ f ∷ l2 → l2 ≡ e ∷ l3 → l3 ≡ w ∷ l4 → IsBadAt trace_options l4 m → BadWord (codes "trace" ∷ l1) (m + 5)
trace_bad {l1} {l2} {l3} {l4} {f} {e} {w} {m} e1 e2 e3 b =
    let whole : codes "trace" ∷ l1 ≡ codes "trace" ∷ f ∷ e ∷ w ∷ l4 = cc (e1, e2, e3) in
    let bad : BadWord (codes "trace" ∷ f ∷ e ∷ w ∷ l4) (4 + m + 1) = bad_options trace_options (codes "trace" ∷ f ∷ e ∷ w ∷ []) (λ o h. accepted_trace f e w o h) (λ o c a. parsed o c a) l4 m b in
    subst (λ (ws : Words). BadWord ws (m + 5)) (sym whole) (subst (BadWord (codes "trace" ∷ f ∷ e ∷ w ∷ l4)) (omega arith) bad)
  where
    parsed : (o : Words) (command : Command) → Accepted (codes "trace" ∷ f ∷ e ∷ w ∷ o) command → Fits trace_options o
    parsed o command a =
        let g = trace_of (f ∷ e ∷ w ∷ o) command a in
        let same : g.options ≡ o = cc g.words_are in
        subst (Fits trace_options) same (trace_fits g.options g.bounds g.named g.bounds_are g.depth_is)

-- ---- the whole list

pub run_whole : (s : Strategy) → {l1 l2 l3 l4 l5 l6 : Words} {f e w u : List ℕ} {n budget seed : ℕ} {bounds : Limits} → l1 ≡ f ∷ l2 → l2 ≡ e ∷ l3 → l3 ≡ w ∷ l4 → IsNumber w (pos 1) (pos 1000000) (pos n) → l4 ≡ strategy_word s ∷ l5
    → l5 ≡ u ∷ l6 → IsNumber u (pos 1) (pos 1024) (pos bounds.depth) → AreNamed (run_options s) l6 → AreBounds l6 bounds → IsGiven l6 solver_option (pos budget) → IsSeed l6 seed → IsFine PathText (behind (codes "-after") l6)
    → Accepted (codes "run" ∷ l1) (run_words n s bounds budget seed (place_behind (codes "-after") 6 l6))
run_whole s {l1} {l2} {l3} {l4} {l5} {l6} {f} {e} {w} {u} {n} {budget} {seed} {bounds} e1 e2 e3 r e4 e5 t a g b k p =
    let whole : codes "run" ∷ l1 ≡ codes "run" ∷ f ∷ e ∷ w ∷ strategy_word s ∷ u ∷ l6 = cc (e1, e2, e3, e4, e5) in
    subst (λ (ws : Words). Accepted ws (run_words n s bounds budget seed (place_behind (codes "-after") 6 l6))) (sym whole) (run f e w u s l6 n budget seed bounds r t a g b k p)

pub trace_whole : {l1 l2 l3 l4 : Words} {f e w : List ℕ} {bounds : Limits} → l1 ≡ f ∷ l2 → l2 ≡ e ∷ l3 → l3 ≡ w ∷ l4 → AreNamed trace_options l4 → AreBounds l4 bounds → IsGiven l4 depth_option (pos bounds.depth)
    → Accepted (codes "trace" ∷ l1) (trace_words bounds)
trace_whole {l1} {l2} {l3} {l4} {f} {e} {w} {bounds} e1 e2 e3 a g b =
    let whole : codes "trace" ∷ l1 ≡ codes "trace" ∷ f ∷ e ∷ w ∷ l4 = cc (e1, e2, e3) in
    subst (λ (ws : Words). Accepted ws (trace_words bounds)) (sym whole) (trace f e w l4 bounds a g b)

-- ---- once

-- no bad word stands before another
not_below : (words : Words) (m n : ℕ) → BadWord words m → BadWord words n → m < n → ⊥
not_below words m n a b h =
    let begun = b.before m h in
    elim a.here [ inl p ↦ p.1 begun | inr e ↦ elim b.here [ inl q ↦ let le : n ≤ length words = q.0 in omega arith | inr g ↦ omega arith ] ]

-- a list has one bad word at most
pub bad_word_once : (words : Words) (m n : ℕ) → BadWord words m → BadWord words n → m ≡ n
bad_word_once words m n a b =
    let below : m < n → ⊥ = not_below words m n a b in
    let above : n < m → ⊥ = not_below words n m b a in
    omega arith

run_once : (words : Words) (c d : Command) → IsRun words c → IsRun words d → c ≡ d
run_once words c d f g =
    let same : codes "run" ∷ f.file ∷ f.entry ∷ f.n ∷ strategy_word f.strategy ∷ f.d ∷ f.options ≡ codes "run" ∷ g.file ∷ g.entry ∷ g.n ∷ strategy_word g.strategy ∷ g.d ∷ g.options = sym f.words_are ∙ g.words_are in
    let n_same : g.n ≡ f.n = cc same in
    let d_same : g.d ≡ f.d = cc same in
    let o_same : g.options ≡ f.options = cc same in
    let runs : pos f.runs ≡ pos g.runs = one_number f.n (pos 1) (pos 1000000) (pos f.runs) (pos g.runs) (omega arith) (omega arith) f.runs_is (subst (λ w. IsNumber w (pos 1) (pos 1000000) (pos g.runs)) n_same g.runs_is) in
    let depths : pos (f.bounds).depth ≡ pos (g.bounds).depth = one_number f.d (pos 1) (pos 1024) (pos (f.bounds).depth) (pos (g.bounds).depth) (omega arith) (omega arith) f.depth_is (subst (λ w. IsNumber w (pos 1) (pos 1024) (pos (g.bounds).depth)) d_same g.depth_is) in
    let depth : (f.bounds).depth ≡ (g.bounds).depth = cc depths in
    let bounds : f.bounds ≡ g.bounds = bounds_once f.options f.bounds g.bounds f.bounds_are (subst (λ (ws : Words). AreBounds ws g.bounds) o_same g.bounds_are) depth in
    let budgets : pos f.budget ≡ pos g.budget = given_once f.options solver_option (pos f.budget) (pos g.budget) (omega arith) (omega arith) f.budget_is (subst (λ (ws : Words). IsGiven ws solver_option (pos g.budget)) o_same g.budget_is) in
    let run_same : f.runs ≡ g.runs = cc runs in
    let budget : f.budget ≡ g.budget = cc budgets in
    let places : place_behind (codes "-after") 6 f.options ≡ place_behind (codes "-after") 6 g.options = ap (λ (ws : Words). place_behind (codes "-after") 6 ws) (sym o_same) in
    let strategies : f.strategy ≡ g.strategy = same_strategy f.strategy g.strategy (cc same) in
    let seeds : f.seed ≡ g.seed = seed_once f.options f.seed g.seed f.seed_is (subst (λ (ws : Words). IsSeed ws g.seed) o_same g.seed_is) in
    let commands : run_words f.runs f.strategy f.bounds f.budget f.seed (place_behind (codes "-after") 6 f.options) ≡ run_words g.runs g.strategy g.bounds g.budget g.seed (place_behind (codes "-after") 6 g.options) = λ i. run_words (run_same i) (strategies i) (bounds i) (budget i) (seeds i) (places i) in
    f.command_is ∙ commands ∙ sym g.command_is

trace_once : (words : Words) (c d : Command) → IsTrace words c → IsTrace words d → c ≡ d
trace_once words c d f g =
    let same : codes "trace" ∷ f.file ∷ f.entry ∷ f.input ∷ f.options ≡ codes "trace" ∷ g.file ∷ g.entry ∷ g.input ∷ g.options = sym f.words_are ∙ g.words_are in
    let o_same : g.options ≡ f.options = cc same in
    let depths : pos (f.bounds).depth ≡ pos (g.bounds).depth = given_once f.options depth_option (pos (f.bounds).depth) (pos (g.bounds).depth) (omega arith) (omega arith) f.depth_is (subst (λ (ws : Words). IsGiven ws depth_option (pos (g.bounds).depth)) o_same g.depth_is) in
    let depth : (f.bounds).depth ≡ (g.bounds).depth = cc depths in
    let bounds : f.bounds ≡ g.bounds = bounds_once f.options f.bounds g.bounds f.bounds_are (subst (λ (ws : Words). AreBounds ws g.bounds) o_same g.bounds_are) depth in
    f.command_is ∙ ap trace_words bounds ∙ sym g.command_is

make_once : (words : Words) (c d : Command) → IsMake words c → IsMake words d → c ≡ d
make_once words c d f g =
    let same : codes "make" ∷ f.n ∷ [] ≡ codes "make" ∷ g.n ∷ [] = sym f.words_are ∙ g.words_are in
    let n_same : g.n ≡ f.n = cc same in
    let numbers : pos f.branches ≡ pos g.branches = one_number f.n (pos 1) (pos 1024) (pos f.branches) (pos g.branches) (omega arith) (omega arith) f.branches_are (subst (λ w. IsNumber w (pos 1) (pos 1024) (pos g.branches)) n_same g.branches_are) in
    let branches : f.branches ≡ g.branches = cc numbers in
    f.command_is ∙ ap Make branches ∙ sym g.command_is

-- an accepted list gives one command
pub accepted_once : (words : Words) (c d : Command) → Accepted words c → Accepted words d → c ≡ d
accepted_once words c d a b = by_form (form_of words c a) (form_of words d b)
  where
    by_form : Form words c → Form words d → c ≡ d
    by_form (a_run f) (a_run g) = run_once words c d f g
    by_form (a_trace f) (a_trace g) = trace_once words c d f g
    by_form (a_make f) (a_make g) = make_once words c d f g
    by_form (a_replay f) (a_replay g) = f.command_is ∙ sym g.command_is
    by_form (a_replay f) (a_run g) = let e = sym f.words_are ∙ g.words_are in absurd (cc e)
    by_form (a_replay f) (a_trace g) = let e = sym f.words_are ∙ g.words_are in absurd (cc e)
    by_form (a_replay f) (a_make g) = let e = sym f.words_are ∙ g.words_are in absurd (cc e)
    by_form (a_run f) (a_replay g) = let e = sym f.words_are ∙ g.words_are in absurd (cc e)
    by_form (a_trace f) (a_replay g) = let e = sym f.words_are ∙ g.words_are in absurd (cc e)
    by_form (a_make f) (a_replay g) = let e = sym f.words_are ∙ g.words_are in absurd (cc e)
    by_form (a_run f) (a_trace g) = let e = sym f.words_are ∙ g.words_are in absurd (cc e)
    by_form (a_run f) (a_make g) = let e = sym f.words_are ∙ g.words_are in absurd (cc e)
    by_form (a_trace f) (a_run g) = let e = sym f.words_are ∙ g.words_are in absurd (cc e)
    by_form (a_trace f) (a_make g) = let e = sym f.words_are ∙ g.words_are in absurd (cc e)
    by_form (a_make f) (a_run g) = let e = sym f.words_are ∙ g.words_are in absurd (cc e)
    by_form (a_make f) (a_trace g) = let e = sym f.words_are ∙ g.words_are in absurd (cc e)

-- ---- an answer

-- what was read, as each clause of the call says it
pub answer_only : (words : Words) (r : Result Command ℕ) → IfOk r (λ c. Accepted words c) → IfErr r (λ n. BadWord words n) → (c : Command) → Accepted words c → r ≡ Ok c
answer_only words (Ok d) a b c h = ap Ok (accepted_once words d c a h)
answer_only words (Err n) a b c h = absurd (b.refused c h)

pub answer_bad : (words : Words) (r : Result Command ℕ) → IfOk r (λ c. Accepted words c) → IfErr r (λ n. BadWord words n) → (n : ℕ) → BadWord words n → r ≡ Err n
answer_bad words (Ok d) a b n h = absurd (h.refused d a)
answer_bad words (Err m) a b n h = ap Err (bad_word_once words m n b h)
