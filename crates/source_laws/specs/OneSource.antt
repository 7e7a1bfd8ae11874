-- What is left to show of every source. The definitions are this project's own.
use Rattle.std.specs.Prelude.{ℕ, ◌≡◌, List, Ok}
use Rattle.cc_model.specs.declared.tokens.Token.{Token}
use Rattle.cc_model.specs.declared.checked.Checked.{Checked}
use Rattle.cc_model.specs.Lexical.{tokens_of}
use Rattle.cc_model.specs.Reads.{Accepts}
use Rattle.cc_model.specs.CheckedProgram.{IsChecked}
use Rattle.cc_model.specs.Source.{text_at}
use Rattle.source_laws.specs.Settled.{IsSettled}

-- each checked program of the source is settled: the types of its expressions and the slots of its names are there
abbrev pub SettlesAll : (bytes entry : List ℕ) → Type 0
SettlesAll bytes entry = (tokens : List Token) (c : Checked) → tokens_of bytes ≡ Ok tokens → Accepts tokens c.program
    → IsChecked (text_at bytes tokens) tokens entry c → IsSettled c
