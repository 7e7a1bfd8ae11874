-- The words of a command line, numbered from 1 behind the program's name. The forms are this project's own.
use Rattle.std.specs.Prelude.{◌≡◌, ℕ, ◌+◌, ◌<◌, ◌^◌, ◌≤◌, ◌⊎◌, ℤ, pos, negsuc, ◌≤ℤ◌, List, [], ◌∷◌, ◌++◌, length, take, map, codes, Option, Some, None, IsSome, All, String, string_bytes, bytes_eq, if◌then◌else◌}
use Rattle.std.specs.Fmt.{decimal, signed_decimal}
use Rattle.std.specs.declared.alloc.Global.{Global}
use Rattle.cc_base.specs.Limits.{Limits}
use Rattle.cc_base.specs.Outcomes.{HasByte}
use Rattle.cc_base.specs.Paths.{Path, path_text}
use Rattle.cc_model.specs.declared.commands.Command.{Command}
use Rattle.cc_model.specs.declared.commands.Command.TheVariants.{Run, Trace, Replay, Make}
use Rattle.cc_model.specs.declared.commands.Strategy.{Strategy}
use Rattle.cc_model.specs.declared.commands.Strategy.TheVariants.{Dfs, Random, UniformRandom, Cfg}
use Rattle.command_words.specs.declared.values.Range.{Range}
use Rattle.command_words.specs.declared.values.Takes.{Takes}
use Rattle.command_words.specs.declared.values.Takes.TheVariants.{Number, Wide, PathText}

-- the bytes of each word
abbrev pub texts : List (String Global) → List (List ℕ)
texts words = map string_bytes words

-- the word is the decimal text of z, with no sign but the minus of a negative number and no leading zeros, and z is from low to high
pub record IsNumber (word : List ℕ) (low high z : ℤ) : Type 0 where
  pub text : word ≡ signed_decimal z
  pub at_least : low ≤ℤ z
  pub at_most : z ≤ℤ high

-- the word is the decimal text of n, with no leading zeros, and n has 64 bits
pub record IsWide (word : List ℕ) (n : ℕ) : Type 0 where
  pub text : word ≡ decimal n
  pub fits : n < 2 ^ 64

-- the word is the text of the path: the bytes of its outcomes, or ~ where it has none
pub record IsPath (word : List ℕ) (path : Path) : Type 0 where
  pub text : word ≡ path_text path
  pub bytes : All HasByte path

-- ---- options

-- what an option takes: a number of a range, a number of 64 bits, or a path
abbrev pub IsValue : Takes → List ℕ → Type 0
IsValue (Number range) word = (z : ℤ) × IsNumber word range.least range.greatest z
IsValue Wide word = (n : ℕ) × IsWide word n
IsValue PathText word = (p : Path) × IsPath word p

-- an option: its name, and what it takes
abbrev pub Row : Type 0
Row = List ℕ × Takes

-- one that takes a number: the least and the greatest, and its number where it isn't given
abbrev pub NumberRow : Type 0
NumberRow = List ℕ × Range

abbrev pub row : NumberRow → Row
row option = (option.0, Number option.1)

abbrev pub min_option : NumberRow
min_option = (codes "-min", record { least = negsuc 2147483647; greatest = pos 2147483647; default = negsuc 2147483647 })

abbrev pub max_option : NumberRow
max_option = (codes "-max", record { least = negsuc 2147483647; greatest = pos 2147483647; default = pos 2147483647 })

abbrev pub objects_option : NumberRow
objects_option = (codes "-objects", record { least = pos 1; greatest = pos 25; default = pos 8 })

abbrev pub steps_option : NumberRow
steps_option = (codes "-steps", record { least = pos 1; greatest = pos 1000000; default = pos 100000 })

abbrev pub depth_option : NumberRow
depth_option = (codes "-depth", record { least = pos 1; greatest = pos 1024; default = pos 1024 })

abbrev pub solver_option : NumberRow
solver_option = (codes "-solver", record { least = pos 1; greatest = pos 100000000; default = pos 20000 })

abbrev pub seed_option : Row
seed_option = (codes "-seed", Wide)

abbrev pub after_option : Row
after_option = (codes "-after", PathText)

-- the options of `run` with `-dfs` and with a walk, and those of `trace`
abbrev pub search_options : List Row
search_options = row min_option ∷ row max_option ∷ row objects_option ∷ row steps_option ∷ row solver_option ∷ after_option ∷ []

abbrev pub walk_options : List Row
walk_options = row min_option ∷ row max_option ∷ row objects_option ∷ row steps_option ∷ row solver_option ∷ seed_option ∷ []

abbrev pub run_options : Strategy → List Row
run_options Dfs = search_options
run_options Random = walk_options
run_options UniformRandom = walk_options
run_options Cfg = walk_options

abbrev pub trace_options : List Row
trace_options = row min_option ∷ row max_option ∷ row objects_option ∷ row steps_option ∷ row depth_option ∷ []

-- what the option of a name takes; None where no option has the name
abbrev pub takes_of : List Row → List ℕ → Option Takes
takes_of [] name = None
takes_of (option ∷ options) name = if bytes_eq name option.0 then Some option.1 else takes_of options name

-- the words are pairs of an option's name and another word
abbrev pub AreNamed : List Row → List (List ℕ) → Type 0
AreNamed options [] = Unit
AreNamed options (name ∷ []) = ⊥
AreNamed options (name ∷ value ∷ rest) = IsSome (takes_of options name) × AreNamed options rest

-- in words that are such pairs, those that stand behind the name
abbrev pub behind : List ℕ → List (List ℕ) → List (List ℕ)
behind name [] = []
behind name (w ∷ []) = []
behind name (w ∷ value ∷ rest) = if bytes_eq w name then value ∷ behind name rest else behind name rest

-- the option's number is z: the name stands once, with the text of z behind it, or it doesn't stand and z is what it then is; z is in the range
pub record IsGiven (words : List (List ℕ)) (option : NumberRow) (z : ℤ) : Type 0 where
  pub stands : (behind option.0 words ≡ signed_decimal z ∷ []) ⊎ ((behind option.0 words ≡ []) × (z ≡ (option.1).default))
  pub at_least : (option.1).least ≤ℤ z
  pub at_most : z ≤ℤ (option.1).greatest

-- the seed is n: it stands once behind `-seed`, or it isn't given and is 0; it has 64 bits
pub record IsSeed (words : List (List ℕ)) (n : ℕ) : Type 0 where
  pub stands : (behind (codes "-seed") words ≡ decimal n ∷ []) ⊎ ((behind (codes "-seed") words ≡ []) × (n ≡ 0))
  pub fits : n < 2 ^ 64

-- the words behind a name are none, or one that the option takes
abbrev pub IsFine : Takes → List (List ℕ) → Type 0
IsFine takes words = (words ≡ []) ⊎ ((word : List ℕ) × (words ≡ word ∷ []) × IsValue takes word)

-- in words that are such pairs, the number of the first that stands behind the name, where n words stand before them
abbrev pub place_behind : List ℕ → ℕ → List (List ℕ) → Option ℕ
place_behind name n [] = None
place_behind name n (w ∷ []) = None
place_behind name n (w ∷ value ∷ rest) = if bytes_eq w name then Some (n + 2) else place_behind name (n + 2) rest

-- the bounds but their depth are those that the options give
pub record AreBounds (words : List (List ℕ)) (bounds : Limits) : Type 0 where
  pub lo : IsGiven words min_option bounds.lo
  pub hi : IsGiven words max_option bounds.hi
  pub ordered : bounds.lo ≤ℤ bounds.hi
  pub objects : IsGiven words objects_option (pos bounds.objects)
  pub steps : IsGiven words steps_option (pos bounds.steps)

-- ---- commands

-- the word of a strategy
abbrev pub strategy_word : Strategy → List ℕ
strategy_word Dfs = codes "-dfs"
strategy_word Random = codes "-random"
strategy_word UniformRandom = codes "-uniform_random"
strategy_word Cfg = codes "-cfg"

-- the command of `run FILE ENTRY N STRATEGY D` and options; `after` is the number of the word PATH, where `-after` is given
abbrev pub run_words : ℕ → Strategy → Limits → ℕ → ℕ → Option ℕ → Command
run_words runs strategy bounds budget seed after = Run (record { file = 2; entry = 3; runs = runs; strategy = strategy; bounds = bounds; budget = budget; seed = seed; after = after })

-- the command of `trace FILE ENTRY MAP` and options
abbrev pub trace_words : Limits → Command
trace_words bounds = Trace (record { file = 2; entry = 3; map = 4; bounds = bounds })

-- the words have one of the forms, and this is its command; a case for each form
pub data Accepted : List (List ℕ) → Command → Type 0 where
  -- run FILE ENTRY N STRATEGY D and options: FILE and ENTRY are any words, N is from 1 to 1,000,000, and D from 1 to 1,024; the
  -- options are those of the strategy, each at most once
  run : (file entry n d : List ℕ) (strategy : Strategy) (options : List (List ℕ)) (runs budget seed : ℕ) (bounds : Limits)
      → IsNumber n (pos 1) (pos 1000000) (pos runs)
      → IsNumber d (pos 1) (pos 1024) (pos bounds.depth)
      → AreNamed (run_options strategy) options
      → AreBounds options bounds
      → IsGiven options solver_option (pos budget)
      → IsSeed options seed
      → IsFine PathText (behind (codes "-after") options)
      → Accepted (codes "run" ∷ file ∷ entry ∷ n ∷ strategy_word strategy ∷ d ∷ options) (run_words runs strategy bounds budget seed (place_behind (codes "-after") 6 options))
  -- trace FILE ENTRY MAP and options: FILE, ENTRY and MAP are any words
  trace : (file entry input : List ℕ) (options : List (List ℕ)) (bounds : Limits)
      → AreNamed trace_options options
      → AreBounds options bounds
      → IsGiven options depth_option (pos bounds.depth)
      → Accepted (codes "trace" ∷ file ∷ entry ∷ input ∷ options) (trace_words bounds)
  -- replay FILE ENTRY TESTS: any words
  replay : (file entry tests : List ℕ) → Accepted (codes "replay" ∷ file ∷ entry ∷ tests ∷ []) (Replay (record { file = 2; entry = 3; tests = 4 }))
  -- make N: N is from 1 to 1,024
  make : (n : List ℕ) (branches : ℕ)
      → IsNumber n (pos 1) (pos 1024) (pos branches)
      → Accepted (codes "make" ∷ n ∷ []) (Make branches)

-- the words begin an accepted list
abbrev pub Begins : List (List ℕ) → Type 0
Begins words = (rest : List (List ℕ)) × (command : Command) × Accepted (words ++ rest) command

-- n is the bad word's number in a list that is not accepted: the least number such that the first n words begin no accepted list,
-- or the number of words plus 1 where all of them begin one
pub record BadWord (words : List (List ℕ)) (n : ℕ) : Type 0 where
  pub refused : (command : Command) → ¬ Accepted words command
  pub before : (k : ℕ) → k < n → Begins (take k words)
  pub here : ((n ≤ length words) × ¬ Begins (take n words)) ⊎ (n ≡ length words + 1)
