-- How a checker goes through a function: the place where it stands, and the notes so far.
use Rattle.std.specs.Prelude.{◌≡◌, ℕ, List, [], ◌∷◌, Option}
use Rattle.cc_model.specs.declared.typing.CType.{CType}
use Rattle.cc_model.specs.declared.typing.Variable.{Variable}
use Rattle.cc_model.specs.declared.typing.Note.{Note}
use Rattle.cc_model.specs.declared.typing.File.{File}
use Rattle.cc_model.specs.declared.typing.Before.{Before}
use Rattle.cc_model.specs.declared.trees.Param.{Param}
use Rattle.cc_model.specs.declared.trees.Stmt.{Stmt}
use Rattle.cc_model.specs.declared.trees.Part.TheFolds.{fold-Stmt}
use Rattle.cc_model.specs.Scopes.{Text, param_type}
use Rattle.cc_model.specs.Typing.{judged}
use Rattle.cc_model.specs.Faults.{Inside, Said, said, first_say, closed, looping, declare, part_level, stmt_level, param_notes}
use Rattle.c_scopes.specs.declared.inside.Inside.{Inside as Standing}

-- where a checker stands, as the definitions see it
abbrev pub place : Standing → Inside
place s = record { scopes = s.scopes; next = s.next; in_loop = s.in_loop }

-- from a place and the notes so far a piece leads to the place behind it and to the notes with its own
abbrev pub Leads : (Inside → Said) → (from to : Standing) → (before after : List Note) → Type 0
Leads piece from to before after = first_say before (piece (place from)) ≡ said (place to) after

-- what is said of a statement
abbrev pub stmt_of : (text : ℕ → Text) (file : File) (before : Before) (result : Option CType) → Stmt → Inside → Said
stmt_of text file before result s = fold-Stmt (Inside → Said) (Inside → Said) (part_level (judged text) text file before result) (stmt_level (judged text) text file before result) s

-- the scopes around the innermost one
abbrev pub around : List (List Variable) → List (List Variable)
around [] = []
around (s ∷ []) = []
around (s ∷ l) = s ∷ around l

-- a loop's body, whose declarations end with it
abbrev pub turn : (Inside → Said) → Inside → Said
turn body i = closed i (body (looping i))

-- what is said of a parameter
abbrev pub param_of : (text : ℕ → Text) (file : File) (before : Before) → Param → Inside → Said
param_of text file before p i = first_say (param_notes text file before p (param_type text file.tags before p.ty) i) (said (declare (text p.name) (param_type text file.tags before p.ty) i) [])

-- with the innermost scope closed
abbrev pub outside : Inside → Inside
outside i = record { scopes = around i.scopes; next = i.next; in_loop = i.in_loop }
