-- Tokens that are parsed to their end are the program, and no other.
use Rattle.std.proofs.Common.{◌≡◌, ℕ, Bool, List, refl, ap, arith}
use Rattle.cc_model.specs.declared.tokens.Token.{Token}
use Rattle.cc_model.specs.declared.trees.Item.{Item}
use Rattle.cc_model.specs.declared.trees.Program.{Program}
use Rattle.cc_model.specs.Spots.{Spot, start, kind_at, shallow}
use Rattle.cc_model.specs.Reads.{Reads, Accepts}
use Rattle.c_expressions.specs.declared.fault.ParseFault.{ParseFault}
use Rattle.c_expressions.specs.declared.fault.ParseFault.TheVariants.{Syntax, TooDeep, NoMemory}
use Rattle.c_expressions.specs.Descent.{got, Ends}
use Rattle.c_parse.specs.DescentItems as it
use Rattle.c_expressions.specs.Shown.{ShowsFault}
use Rattle.c_statements.proofs.Pieces.{ends_once}
use Rattle.c_parse.proofs.ItemLaws.{items_yes, items_sound}

-- what the tokens read as is what the descent gives
pub reads_given : (fits : ℕ → ℕ → Bool) (tokens : List Token) (p : Program) (h : Reads fits tokens p) →
    Ends (λ n. it.items (kind_at tokens) fits n) start (got p.items h.end)
reads_given fits tokens p h = items_yes (kind_at tokens) fits h.items h.all

pub one : (fits : ℕ → ℕ → Bool) (tokens : List Token) (p q : Program) → Reads fits tokens p → Reads fits tokens q → p ≡ q
one fits tokens p q h k =
    let e : got p.items h.end ≡ got q.items k.end = ends_once (λ n. it.items (kind_at tokens) fits n) (reads_given fits tokens p h) (reads_given fits tokens q k) in
    let i : p.items ≡ q.items = cc (e) in
    ap (λ (l : List Item). record { items = l }) i

-- what the descent gives the tokens read as
pub given_reads : (tokens : List Token) (l : List Item) (t : Spot) → Ends (λ n. it.items (kind_at tokens) shallow n) start (got l t) → Accepts tokens (record { items = l })
given_reads tokens l t h = let k = rw (h.1 h.0 (omega arith)) at (items_sound (kind_at tokens) shallow h.0 start) in record { end = t; items = k.0; all = k.1 }

pub given_only : (tokens : List Token) (l : List Item) (t : Spot) (p : Program) → Ends (λ n. it.items (kind_at tokens) shallow n) start (got l t) → Accepts tokens p → record { items = l } ≡ p
given_only tokens l t p h k = one shallow tokens (record { items = l }) p (given_reads tokens l t h) k

-- a fault comes only where the tokens are accepted as no program
pub fault_only : (tokens : List Token) (p : Program) (f : ParseFault) → ShowsFault (λ n. it.items (kind_at tokens) shallow n) start f → Accepts tokens p → f ≡ NoMemory
fault_only tokens p (Syntax k) h a = absurd (cc (ends_once (λ n. it.items (kind_at tokens) shallow n) h (reads_given shallow tokens p a)))
fault_only tokens p (TooDeep k) h a = absurd (cc (ends_once (λ n. it.items (kind_at tokens) shallow n) h (reads_given shallow tokens p a)))
fault_only tokens p NoMemory h a = refl
