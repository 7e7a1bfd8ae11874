-- The two tables of options, how many words they take, and the bounds that they give.
use Rattle.std.proofs.Common.{◌≡◌, ◌∙◌, sym, ap, refl, subst, ℕ, ◌+◌, ◌<◌, ◌≤◌, ◌^◌, ◌⊎◌, inl, inr, ℤ, pos, negsuc, ◌≤ℤ◌, List, [], ◌∷◌, ◌++◌, take, length, Some, arith, codes, length-append}
use Rattle.std.specs.Fmt.{decimal, signed_decimal}
use Rattle.std.proofs.lemmas.Int.{ints}
use lib.Signed.{mag}
use Rattle.cc_base.specs.Limits.{Limits}
use Rattle.cc_model.specs.declared.commands.Strategy.{Strategy}
use Rattle.cc_model.specs.declared.commands.Strategy.TheVariants.{Dfs, Random, UniformRandom, Cfg}
use Rattle.command_words.specs.declared.values.Range.{Range}
use Rattle.command_words.specs.declared.values.Takes.TheVariants.{Number, Wide, PathText}
use Rattle.command_words.specs.Words.{Row, NumberRow, row, seed_option, after_option, takes_of, AreNamed, behind, IsFine, IsGiven, IsSeed, AreBounds, min_option, max_option, objects_option, steps_option, depth_option, solver_option, search_options, walk_options, run_options, trace_options}
use Rattle.command_words.specs.Options.{IsTable, Fits, FitsWith, IsBadAt}
use Rattle.command_words.proofs.NamedWords.{Words, length_take, found, named_count, at_most_once, absent}
use Rattle.command_words.proofs.Numerals.{text_once, wide_once, mag_between}
use Rattle.command_words.proofs.OptionFits.{option_given, given_fine}

HasDefault : NumberRow → Type 0
HasDefault option = ((option.1).least ≤ℤ (option.1).default) × ((option.1).default ≤ℤ (option.1).greatest)

-- a number that an option takes has its default
HasDefaults : Row → Type 0
HasDefaults option = (range : Range) → option.1 ≡ Number range → HasDefault (option.0, range)

default_of : (option : NumberRow) → HasDefault option → HasDefaults (row option)
unfolding HasDefault HasDefaults
default_of option h range e = let same : option.1 ≡ range = cc e in subst (λ r. HasDefault (option.0, r)) same h

no_number : HasDefaults after_option
unfolding HasDefaults
no_number range e = absurd (cc e)

no_range : HasDefaults seed_option
unfolding HasDefaults
no_range range e = absurd (cc e)

pub search_table : IsTable search_options
unfolding HasDefault HasDefaults
search_table = record {
  has_min = refl;
  has_max = refl;
  has_objects = refl;
  has_steps = refl;
  defaults = λ name range e. found HasDefaults search_options
      (default_of min_option (omega (arith, ints), omega (arith, ints)), (default_of max_option (omega (arith, ints), omega (arith, ints)), (default_of objects_option (omega (arith, ints), omega (arith, ints)), (default_of steps_option (omega (arith, ints), omega (arith, ints)), (default_of solver_option (omega (arith, ints), omega (arith, ints)), (no_number, tt)))))) name (Number range) e range refl;
}

pub walk_table : IsTable walk_options
unfolding HasDefault HasDefaults
walk_table = record {
  has_min = refl;
  has_max = refl;
  has_objects = refl;
  has_steps = refl;
  defaults = λ name range e. found HasDefaults walk_options
      (default_of min_option (omega (arith, ints), omega (arith, ints)), (default_of max_option (omega (arith, ints), omega (arith, ints)), (default_of objects_option (omega (arith, ints), omega (arith, ints)), (default_of steps_option (omega (arith, ints), omega (arith, ints)), (default_of solver_option (omega (arith, ints), omega (arith, ints)), (no_range, tt)))))) name (Number range) e range refl;
}

pub run_table : (strategy : Strategy) → IsTable (run_options strategy)
run_table Dfs = search_table
run_table Random = walk_table
run_table UniformRandom = walk_table
run_table Cfg = walk_table

pub trace_table : IsTable trace_options
unfolding HasDefault HasDefaults
trace_table = record {
  has_min = refl;
  has_max = refl;
  has_objects = refl;
  has_steps = refl;
  defaults = λ name range e. found HasDefaults trace_options
      (default_of min_option (omega (arith, ints), omega (arith, ints)), (default_of max_option (omega (arith, ints), omega (arith, ints)), (default_of objects_option (omega (arith, ints), omega (arith, ints)), (default_of steps_option (omega (arith, ints), omega (arith, ints)), (default_of depth_option (omega (arith, ints), omega (arith, ints)), tt))))) name (Number range) e range refl;
}

-- ---- how many words there are

search_short : (words : Words) → Fits search_options words → length words ≤ 12
search_short words f =
    let a = at_most_once (Number min_option.1) (behind (codes "-min") words) (f.given (codes "-min") (Number min_option.1) refl) in
    let b = at_most_once (Number max_option.1) (behind (codes "-max") words) (f.given (codes "-max") (Number max_option.1) refl) in
    let d = at_most_once (Number objects_option.1) (behind (codes "-objects") words) (f.given (codes "-objects") (Number objects_option.1) refl) in
    let e = at_most_once (Number steps_option.1) (behind (codes "-steps") words) (f.given (codes "-steps") (Number steps_option.1) refl) in
    let g = at_most_once (Number solver_option.1) (behind (codes "-solver") words) (f.given (codes "-solver") (Number solver_option.1) refl) in
    let h = at_most_once PathText (behind (codes "-after") words) (f.given (codes "-after") PathText refl) in
    let all = named_count search_options words f.named in
    omega (arith, all, a, b, d, e, g, h)

walk_short : (words : Words) → Fits walk_options words → length words ≤ 12
walk_short words f =
    let a = at_most_once (Number min_option.1) (behind (codes "-min") words) (f.given (codes "-min") (Number min_option.1) refl) in
    let b = at_most_once (Number max_option.1) (behind (codes "-max") words) (f.given (codes "-max") (Number max_option.1) refl) in
    let d = at_most_once (Number objects_option.1) (behind (codes "-objects") words) (f.given (codes "-objects") (Number objects_option.1) refl) in
    let e = at_most_once (Number steps_option.1) (behind (codes "-steps") words) (f.given (codes "-steps") (Number steps_option.1) refl) in
    let g = at_most_once (Number solver_option.1) (behind (codes "-solver") words) (f.given (codes "-solver") (Number solver_option.1) refl) in
    let h = at_most_once Wide (behind (codes "-seed") words) (f.given (codes "-seed") Wide refl) in
    let all = named_count walk_options words f.named in
    omega (arith, all, a, b, d, e, g, h)

pub run_short : (strategy : Strategy) (words : Words) → Fits (run_options strategy) words → length words ≤ 12
run_short Dfs words f = search_short words f
run_short Random words f = walk_short words f
run_short UniformRandom words f = walk_short words f
run_short Cfg words f = walk_short words f

trace_short : (words : Words) → Fits trace_options words → length words ≤ 10
trace_short words f =
    let a = at_most_once (Number min_option.1) (behind (codes "-min") words) (f.given (codes "-min") (Number min_option.1) refl) in
    let b = at_most_once (Number max_option.1) (behind (codes "-max") words) (f.given (codes "-max") (Number max_option.1) refl) in
    let d = at_most_once (Number objects_option.1) (behind (codes "-objects") words) (f.given (codes "-objects") (Number objects_option.1) refl) in
    let e = at_most_once (Number steps_option.1) (behind (codes "-steps") words) (f.given (codes "-steps") (Number steps_option.1) refl) in
    let g = at_most_once (Number depth_option.1) (behind (codes "-depth") words) (f.given (codes "-depth") (Number depth_option.1) refl) in
    let all = named_count trace_options words f.named in
    omega (arith, all, a, b, d, e, g)

-- the place of a bad word is small
place_short : (options : List Row) (most : ℕ) → ((words : Words) → Fits options words → length words ≤ most) → (words : Words) (n : ℕ) → IsBadAt options words n → n ≤ most
place_short options most short words n b =
    let within : n ≤ length words = in_words b.here in
    let all = short (take n words ++ (b.before).0) (b.before).1 in
    omega (arith, all, length-append (take n words) (b.before).0, length_take n words within)
  where
    in_words : ((n < length words) × ¬ FitsWith options (take (n + 1) words)) ⊎ ((n ≡ length words) × ¬ Fits options words) → n ≤ length words
    in_words (inl p) = omega (arith, p.0)
    in_words (inr p) = omega (arith, p.0)

pub run_place : (strategy : Strategy) (words : Words) (n : ℕ) → IsBadAt (run_options strategy) words n → n ≤ 12
run_place strategy words n b = place_short (run_options strategy) 12 (run_short strategy) words n b

pub trace_place : (words : Words) (n : ℕ) → IsBadAt trace_options words n → n ≤ 10
trace_place words n b = place_short trace_options 10 trace_short words n b

-- ---- no options

default_only : (option : NumberRow) (z : ℤ) → IsGiven [] option z → z ≡ (option.1).default
default_only option z g = by_stand g.stands
  where
    by_stand : (behind option.0 [] ≡ signed_decimal z ∷ []) ⊎ ((behind option.0 [] ≡ []) × (z ≡ (option.1).default)) → z ≡ (option.1).default
    by_stand (inl e) = absurd (cc e)
    by_stand (inr p) = p.1

pub fits_nothing : (options : List Row) → IsTable options → Fits options []
fits_nothing options table = record {
  named = tt;
  given = λ name takes e. inl refl;
  ordered = λ lo hi g h. let a : lo ≡ negsuc 2147483647 = default_only min_option lo g in let b : hi ≡ pos 2147483647 = default_only max_option hi h in omega (arith, ints, a, b);
}

-- ---- the numbers

pub positive : (z : ℤ) → pos 1 ≤ℤ z → (n : ℕ) × (z ≡ pos n)
positive (pos n) h = (n, refl)
positive (negsuc n) h = absurd (omega (arith, ints, h))

pub given_natural : (words : Words) (option : NumberRow) → (option.1).least ≡ pos 1 → ((z : ℤ) × IsGiven words option z) → (n : ℕ) × IsGiven words option (pos n)
given_natural words option e g =
    let p = positive g.0 (subst (λ z. z ≤ℤ g.0) e (g.1).at_least) in
    (p.0, subst (IsGiven words option) p.1 g.1)

pub given_once : (words : Words) (option : NumberRow) (y z : ℤ) → mag (option.1).least < 2 ^ 31 → mag (option.1).greatest < 2 ^ 31 → IsGiven words option y → IsGiven words option z → y ≡ z
given_once words option y z a b g h = by_stand g.stands h.stands
  where
    by_stand : (behind option.0 words ≡ signed_decimal y ∷ []) ⊎ ((behind option.0 words ≡ []) × (y ≡ (option.1).default))
        → (behind option.0 words ≡ signed_decimal z ∷ []) ⊎ ((behind option.0 words ≡ []) × (z ≡ (option.1).default)) → y ≡ z
    by_stand (inl d) (inl e) = text_once y z (mag_between (option.1).least (option.1).greatest y a b g.at_least g.at_most) (mag_between (option.1).least (option.1).greatest z a b h.at_least h.at_most) (cc (d, e))
    by_stand (inl d) (inr e) = absurd (cc (d, e.0))
    by_stand (inr d) (inl e) = absurd (cc (d.0, e))
    by_stand (inr d) (inr e) = d.1 ∙ sym e.1

-- options that fit give bounds, with any depth
pub has_bounds : (options : List Row) → IsTable options → (words : Words) (depth : ℕ) → Fits options words → (bounds : Limits) × AreBounds words bounds × (bounds.depth ≡ depth)
has_bounds options table words depth f =
    let lo = option_given options table words f (codes "-min") min_option.1 table.has_min in
    let hi = option_given options table words f (codes "-max") max_option.1 table.has_max in
    let objects = given_natural words objects_option refl (option_given options table words f (codes "-objects") objects_option.1 table.has_objects) in
    let steps = given_natural words steps_option refl (option_given options table words f (codes "-steps") steps_option.1 table.has_steps) in (
      record { lo = lo.0; hi = hi.0; depth = depth; objects = objects.0; steps = steps.0 },
      record { lo = lo.1; hi = hi.1; ordered = f.ordered lo.0 hi.0 lo.1 hi.1; objects = objects.1; steps = steps.1 },
      refl,
    )

-- the bounds are one but for their depth
pub bounds_once : (words : Words) (a b : Limits) → AreBounds words a → AreBounds words b → a.depth ≡ b.depth → a ≡ b
bounds_once words a b g h e =
    let lo : a.lo ≡ b.lo = given_once words min_option a.lo b.lo (omega arith) (omega arith) g.lo h.lo in
    let hi : a.hi ≡ b.hi = given_once words max_option a.hi b.hi (omega arith) (omega arith) g.hi h.hi in
    let o : pos a.objects ≡ pos b.objects = given_once words objects_option (pos a.objects) (pos b.objects) (omega arith) (omega arith) g.objects h.objects in
    let s : pos a.steps ≡ pos b.steps = given_once words steps_option (pos a.steps) (pos b.steps) (omega arith) (omega arith) g.steps h.steps in
    let objects : a.objects ≡ b.objects = cc o in
    let steps : a.steps ≡ b.steps = cc s in
    same_limits lo hi e objects steps
  where
    same_limits : {lo1 lo2 hi1 hi2 : ℤ} {d1 d2 o1 o2 s1 s2 : ℕ} → lo1 ≡ lo2 → hi1 ≡ hi2 → d1 ≡ d2 → o1 ≡ o2 → s1 ≡ s2
        → ◌≡◌ {A = Limits} (record { lo = lo1; hi = hi1; depth = d1; objects = o1; steps = s1 }) (record { lo = lo2; hi = hi2; depth = d2; objects = o2; steps = s2 })
    same_limits a b c d e = λ i. record { lo = a i; hi = b i; depth = c i; objects = d i; steps = e i }

-- the least number and the greatest are in order
in_order : (words : Words) (bounds : Limits) (lo hi : ℤ) → AreBounds words bounds → IsGiven words min_option lo → IsGiven words max_option hi → lo ≤ℤ hi
in_order words bounds lo hi g l h =
    let a : bounds.lo ≡ lo = given_once words min_option bounds.lo lo (omega arith) (omega arith) g.lo l in
    let b : bounds.hi ≡ hi = given_once words max_option bounds.hi hi (omega arith) (omega arith) g.hi h in
    subst (λ z. z ≤ℤ hi) a (subst (λ z. bounds.lo ≤ℤ z) b g.ordered)

-- what fits, from the value of each option
abbrev Fine : Words → Row → Type 0
Fine words option = IsFine option.1 (behind option.0 words)

search_fits : (words : Words) (bounds : Limits) (budget : ℕ) → AreNamed search_options words → AreBounds words bounds → IsGiven words solver_option (pos budget) → IsFine PathText (behind (codes "-after") words) → Fits search_options words
search_fits words bounds budget n g b a = record {
  named = n;
  given = λ name takes e. found (Fine words) search_options (given_fine words min_option bounds.lo g.lo, (given_fine words max_option bounds.hi g.hi, (given_fine words objects_option (pos bounds.objects) g.objects, (given_fine words steps_option (pos bounds.steps) g.steps, (given_fine words solver_option (pos budget) b, (a, tt)))))) name takes e;
  ordered = λ lo hi l h. in_order words bounds lo hi g l h;
}

-- the seed is one that the option takes, or isn't given
seed_fine : (words : Words) (seed : ℕ) → IsSeed words seed → IsFine Wide (behind (codes "-seed") words)
seed_fine words seed g = by_stand g.stands
  where
    by_stand : (behind (codes "-seed") words ≡ decimal seed ∷ []) ⊎ ((behind (codes "-seed") words ≡ []) × (seed ≡ 0)) → IsFine Wide (behind (codes "-seed") words)
    by_stand (inl e) = inr (decimal seed, e, (seed, record { text = refl; fits = g.fits }))
    by_stand (inr p) = inl p.0

walk_fits : (words : Words) (bounds : Limits) (budget seed : ℕ) → AreNamed walk_options words → AreBounds words bounds → IsGiven words solver_option (pos budget) → IsSeed words seed → Fits walk_options words
walk_fits words bounds budget seed n g b a = record {
  named = n;
  given = λ name takes e. found (Fine words) walk_options (given_fine words min_option bounds.lo g.lo, (given_fine words max_option bounds.hi g.hi, (given_fine words objects_option (pos bounds.objects) g.objects, (given_fine words steps_option (pos bounds.steps) g.steps, (given_fine words solver_option (pos budget) b, (seed_fine words seed a, tt)))))) name takes e;
  ordered = λ lo hi l h. in_order words bounds lo hi g l h;
}

pub run_fits : (strategy : Strategy) (words : Words) (bounds : Limits) (budget seed : ℕ) → AreNamed (run_options strategy) words → AreBounds words bounds → IsGiven words solver_option (pos budget) → IsSeed words seed → IsFine PathText (behind (codes "-after") words)
    → Fits (run_options strategy) words
run_fits Dfs words bounds budget seed n g b s a = search_fits words bounds budget n g b a
run_fits Random words bounds budget seed n g b s a = walk_fits words bounds budget seed n g b s
run_fits UniformRandom words bounds budget seed n g b s a = walk_fits words bounds budget seed n g b s
run_fits Cfg words bounds budget seed n g b s a = walk_fits words bounds budget seed n g b s

-- options that fit give a seed
wide_seed : (words : Words) → IsFine Wide (behind (codes "-seed") words) → (n : ℕ) × IsSeed words n
wide_seed words (inl e) = (0, record { stands = inr (e, refl); fits = omega arith })
wide_seed words (inr (word, e, (n, w))) = (n, record { stands = inl (e ∙ ap (λ (v : List ℕ). v ∷ []) w.text); fits = w.fits })

pub has_seed : (strategy : Strategy) (words : Words) → Fits (run_options strategy) words → (n : ℕ) × IsSeed words n
has_seed Dfs words f = wide_seed words (inl (absent search_options (codes "-seed") refl words f.named))
has_seed Random words f = wide_seed words (f.given (codes "-seed") Wide refl)
has_seed UniformRandom words f = wide_seed words (f.given (codes "-seed") Wide refl)
has_seed Cfg words f = wide_seed words (f.given (codes "-seed") Wide refl)

pub seed_once : (words : Words) (m n : ℕ) → IsSeed words m → IsSeed words n → m ≡ n
seed_once words m n a b = by_stand a.stands b.stands
  where
    by_stand : (behind (codes "-seed") words ≡ decimal m ∷ []) ⊎ ((behind (codes "-seed") words ≡ []) × (m ≡ 0)) → (behind (codes "-seed") words ≡ decimal n ∷ []) ⊎ ((behind (codes "-seed") words ≡ []) × (n ≡ 0)) → m ≡ n
    by_stand (inl d) (inl e) = wide_once m n a.fits b.fits (cc (d, e))
    by_stand (inl d) (inr e) = absurd (cc (d, e.0))
    by_stand (inr d) (inl e) = absurd (cc (d.0, e))
    by_stand (inr d) (inr e) = d.1 ∙ sym e.1

-- the path is fine, or not given
pub has_path : (strategy : Strategy) (words : Words) → Fits (run_options strategy) words → IsFine PathText (behind (codes "-after") words)
has_path Dfs words f = f.given (codes "-after") PathText refl
has_path Random words f = inl (absent walk_options (codes "-after") refl words f.named)
has_path UniformRandom words f = inl (absent walk_options (codes "-after") refl words f.named)
has_path Cfg words f = inl (absent walk_options (codes "-after") refl words f.named)

-- the solver's budget is an option of each
pub solver_there : (strategy : Strategy) → takes_of (run_options strategy) (codes "-solver") ≡ Some (Number solver_option.1)
solver_there Dfs = refl
solver_there Random = refl
solver_there UniformRandom = refl
solver_there Cfg = refl

pub trace_fits : (words : Words) (bounds : Limits) → AreNamed trace_options words → AreBounds words bounds → IsGiven words depth_option (pos bounds.depth) → Fits trace_options words
trace_fits words bounds n g d = record {
  named = n;
  given = λ name takes e. found (Fine words) trace_options (given_fine words min_option bounds.lo g.lo, (given_fine words max_option bounds.hi g.hi, (given_fine words objects_option (pos bounds.objects) g.objects, (given_fine words steps_option (pos bounds.steps) g.steps, (given_fine words depth_option (pos bounds.depth) d, tt))))) name takes e;
  ordered = λ lo hi l h. in_order words bounds lo hi g l h;
}
