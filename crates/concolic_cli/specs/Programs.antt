-- What reading a source comes to.
use Rattle.std.specs.Prelude.{ℕ, ◌≡◌, false, List, Ok, Err, codes}
use Rattle.cc_model.specs.declared.tokens.Token.{Token}
use Rattle.cc_model.specs.declared.checked.Checked.{Checked}
use Rattle.cc_model.specs.declared.trees.Program.{Program}
use Rattle.cc_model.specs.declared.typing.Wrong as typing
use Rattle.cc_model.specs.declared.typing.Wrong.TheVariants as fault
use Rattle.cc_model.specs.Lexical.{LexicalFault, tokens_of, line_at}
use Rattle.cc_model.specs.Reads.{Accepts}
use Rattle.cc_model.specs.Faults.{WellTyped, IsFirst, has_entry}
use Rattle.cc_model.specs.CheckedProgram.{IsChecked}
use Rattle.cc_model.specs.Source.{text_at, place_line}
use Rattle.c_parse.specs.Places.{IsSyntax, IsDeep}
use Rattle.concolic_cli.specs.Sources.{offset_of, what_of}
use Rattle.concolic_cli.specs.declared.refusal.Wrong.{Wrong}
use Rattle.concolic_cli.specs.declared.refusal.Wrong.TheVariants.{BadByte, BadNumber, OpenComment, BadDirective, Syntax, TooDeep, UnknownName, DeclaredTwice, Mismatch, TooLarge}
use Rattle.concolic_cli.specs.declared.refusal.Refusal.{Refusal}
use Rattle.concolic_cli.specs.declared.refusal.Refusal.TheVariants.{BadWord, File, Source, NoEntry, Map, Tests, OutputFailed, NoMemory}

-- the bytes are these tokens, and the program that these are is checked, to test the function with this name
pub record ReadsAs (bytes entry : List ℕ) (tokens : List Token) (checked : Checked) : Type 0 where
  pub lexed : tokens_of bytes ≡ Ok tokens
  pub read : Accepts tokens checked.program
  pub right : IsChecked (text_at bytes tokens) tokens entry checked

-- a byte, number, comment or directive of this line is bad
abbrev pub IsLexical : List ℕ → ℕ → List ℕ → Type 0
IsLexical bytes line what = (fault : LexicalFault) × (tokens_of bytes ≡ Err fault) × (line ≡ line_at bytes (offset_of fault)) × (what ≡ what_of fault)

-- the tokens are no program, and the line is that of this place, one of them or the source's end
abbrev pub IsUnread : (List Token → ℕ → Type 0) → List ℕ → ℕ → Type 0
IsUnread IsPlace bytes line = (tokens : List Token) × (place : ℕ) × (tokens_of bytes ≡ Ok tokens) × (line ≡ place_line bytes tokens place) × ((tree : Program) → Accepts tokens tree → ⊥) × IsPlace tokens place

-- the first fault of the program is of this kind, and the line is that of its token
pub record IsFaulty (bytes : List ℕ) (line : ℕ) (what : typing.Wrong) : Type 0 where
  pub tokens : List Token
  pub tree : Program
  pub token : ℕ
  pub lexed : tokens_of bytes ≡ Ok tokens
  pub read : Accepts tokens tree
  pub first : IsFirst (text_at bytes tokens) tree.items (record { what = what; token = token })
  pub place : line ≡ place_line bytes tokens token

-- what is wrong at a line of the bytes
abbrev pub IsWrong : List ℕ → ℕ → Wrong → Type 0
IsWrong bytes line BadByte = IsLexical bytes line (codes "bad byte")
IsWrong bytes line BadNumber = IsLexical bytes line (codes "bad number")
IsWrong bytes line OpenComment = IsLexical bytes line (codes "open comment")
IsWrong bytes line BadDirective = IsLexical bytes line (codes "bad directive")
IsWrong bytes line Syntax = IsUnread IsSyntax bytes line
IsWrong bytes line TooDeep = IsUnread IsDeep bytes line
IsWrong bytes line UnknownName = IsFaulty bytes line fault.Unknown
IsWrong bytes line DeclaredTwice = IsFaulty bytes line fault.Twice
IsWrong bytes line Mismatch = IsFaulty bytes line fault.Mismatch
IsWrong bytes line TooLarge = IsFaulty bytes line fault.TooLarge

-- the bytes are tokens that read as a program in which nothing is wrong
pub record IsWellTyped (bytes : List ℕ) (tokens : List Token) (tree : Program) : Type 0 where
  pub lexed : tokens_of bytes ≡ Ok tokens
  pub read : Accepts tokens tree
  pub well_typed : WellTyped (text_at bytes tokens) tree.items

-- the bytes are no program with a function of this name, for this cause
abbrev pub IsNoProgram : List ℕ → List ℕ → Refusal → Type 0
IsNoProgram bytes entry (Source line wrong) = IsWrong bytes line wrong
IsNoProgram bytes entry NoEntry = (tokens : List Token) × (tree : Program) × IsWellTyped bytes tokens tree × (has_entry (text_at bytes tokens) tree.items entry ≡ false)
IsNoProgram bytes entry NoMemory = Unit {0}
IsNoProgram bytes entry (BadWord n) = ⊥
IsNoProgram bytes entry (File w f) = ⊥
IsNoProgram bytes entry (Map f) = ⊥
IsNoProgram bytes entry (Tests line) = ⊥
IsNoProgram bytes entry OutputFailed = ⊥
