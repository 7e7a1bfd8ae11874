-- What the code's results say of the descent.
use Rattle.std.specs.Prelude.{◌≡◌, ℕ, true, Option, Some, None, Result, Ok, Err}
use Rattle.cc_model.specs.declared.tokens.Kind.{Kind}
use Rattle.cc_model.specs.declared.tokens.Kind.TheVariants as kind
use Rattle.cc_model.specs.declared.tokens.Keyword.TheVariants as keyword
use Rattle.cc_model.specs.declared.tokens.Punct.{Punct}
use Rattle.cc_model.specs.declared.tokens.Punct.TheVariants as punct
use Rattle.cc_model.specs.declared.trees.Expr.TheVariants as tree
use Rattle.cc_model.specs.Spots.{Spot}
use Rattle.cc_model.specs.ReadExpressions.{Binary, Prefix, FieldOf, binary_sign, prefix_sign, field_sign}
use Rattle.c_expressions.specs.declared.spot.Spot as code
use Rattle.c_expressions.specs.declared.fault.ParseFault.{ParseFault}
use Rattle.c_expressions.specs.declared.fault.ParseFault.TheVariants.{Syntax, TooDeep, NoMemory}
use Rattle.c_expressions.specs.declared.starts.Start.{Start}
use Rattle.c_expressions.specs.declared.starts.Start.TheVariants as start
use Rattle.c_expressions.specs.declared.starts.Step.{Step}
use Rattle.c_expressions.specs.declared.starts.Step.TheVariants.{Field, Index}
use Rattle.c_expressions.specs.declared.starts.TypeStart.{TypeStart}
use Rattle.c_expressions.specs.declared.starts.TypeStart.TheVariants as first
use Rattle.c_expressions.specs.Descent.{bad, deep, Got, got, failed, P, Ends, field_at, is_sign, start_at, no_start, base_at, no_base}

-- the place that the code's numbers name
abbrev pub place : code.Spot → Spot
place s = record { at = s.at; level = s.level }

-- a fault of the code is that of the descent, where memory did not run out
abbrev pub ShowsFault : {A : Type 0} → (ℕ → P A) → Spot → ParseFault → Type 0
ShowsFault f s (Syntax k) = Ends f s (failed (bad k))
ShowsFault f s (TooDeep k) = Ends f s (failed (deep k))
ShowsFault f s NoMemory = Unit {0}

-- the code gives what the descent gives from there
abbrev pub Shows : {A : Type 0} → (ℕ → P A) → Spot → Result (A × code.Spot) ParseFault → Type 0
Shows f s (Ok x) = Ends f s (got x.0 (place x.1))
Shows f s (Err e) = ShowsFault f s e

abbrev pub TakesFault : Got (Unit {0}) → ParseFault → Type 0
TakesFault r (Syntax k) = r ≡ failed (bad k)
TakesFault r (TooDeep k) = r ≡ failed (deep k)
TakesFault r NoMemory = ⊥

-- the same of a piece that only takes tokens
abbrev pub ShowsSpot : P (Unit {0}) → Spot → Result code.Spot ParseFault → Type 0
ShowsSpot f s (Ok t) = f s ≡ got tt (place t)
ShowsSpot f s (Err e) = TakesFault (f s) e

-- one turn of a loop: what comes of the longer value comes of the value
abbrev pub Steps : {A : Type 0} → (A → ℕ → P A) → A → Spot → Result (A × code.Spot) ParseFault → Type 0
Steps {A} f a s (Ok x) = (r : Got A) → Ends (f x.0) (place x.1) r → Ends (f a) s r
Steps f a s (Err e) = ShowsFault (f a) s e

-- the trees of operators; a sign that is none has any
abbrev pub binary_or : Option (ℕ × Binary) → Binary
binary_or (Some (n, make)) = make
binary_or None = tree.Or

abbrev pub binary_maker : Punct → Binary
binary_maker p = binary_or (binary_sign p)

abbrev pub prefix_or : Option Prefix → Prefix
prefix_or (Some make) = make
prefix_or None = tree.Minus

abbrev pub prefix_maker : Punct → Prefix
prefix_maker p = prefix_or (prefix_sign p)

abbrev pub field_or : Option FieldOf → FieldOf
field_or (Some make) = make
field_or None = tree.Dot

abbrev pub field_maker : Punct → FieldOf
field_maker p = field_or (field_sign p)

-- what goes on behind a postfix expression
abbrev pub StepAt : Step → Option Kind → Type 0
StepAt (Field p) k = field_at k ≡ Some (field_maker p)
StepAt Index k = (field_at k ≡ None) × (is_sign punct.OpenSquare k ≡ true)

-- what begins a primary expression
abbrev pub StartsAt : Start → Option Kind → Type 0
StartsAt start.Name k = k ≡ Some kind.Name
StartsAt (start.Number z) k = k ≡ Some (kind.Number z)
StartsAt start.Null k = k ≡ Some (kind.Key keyword.Null)
StartsAt start.Malloc k = k ≡ Some (kind.Key keyword.Malloc)
StartsAt start.Paren k = k ≡ Some (kind.Punct punct.Open)
StartsAt start.Other k = start_at k ≡ no_start

-- what begins a type
abbrev pub TypeStartsAt : TypeStart → Option Kind → Type 0
TypeStartsAt first.Int k = k ≡ Some (kind.Key keyword.Int)
TypeStartsAt first.Struct k = k ≡ Some (kind.Key keyword.Struct)
TypeStartsAt first.Alias k = k ≡ Some kind.Name
TypeStartsAt first.Other k = base_at k ≡ no_base
