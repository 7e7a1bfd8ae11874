-- The faults that the code answers, as those of the definition.
use Rattle.std.specs.Prelude.{◌≡◌, Result, Ok, Err}
use Rattle.cc_model.specs.Lexical.{LexicalFault, bad_byte, bad_number, open_comment, bad_directive}
use Rattle.c_lex.specs.declared.faults.LexFault.{LexFault}
use Rattle.c_lex.specs.declared.faults.LexFault.TheVariants as fault

-- the fault is the one that the definition gives
abbrev pub Refuses : {Y : Type 0} → LexFault → Result Y LexicalFault → Type 0
Refuses (fault.BadByte at) read = read ≡ Err (bad_byte at)
Refuses (fault.BadNumber at) read = read ≡ Err (bad_number at)
Refuses (fault.OpenComment at) read = read ≡ Err (open_comment at)
Refuses (fault.BadDirective at) read = read ≡ Err (bad_directive at)
Refuses fault.NoMemory read = ⊥

-- the result, seen by view, is what the definition gives
abbrev pub Is : {X Y : Type 0} → (X → Y) → Result X LexFault → Result Y LexicalFault → Type 0
Is view (Ok x) read = read ≡ Ok (view x)
Is view (Err e) read = Refuses e read

-- the fault is the one that the definition gives, unless memory ran out
abbrev pub Fails : {Y : Type 0} → LexFault → Result Y LexicalFault → Type 0
Fails (fault.BadByte at) read = read ≡ Err (bad_byte at)
Fails (fault.BadNumber at) read = read ≡ Err (bad_number at)
Fails (fault.OpenComment at) read = read ≡ Err (open_comment at)
Fails (fault.BadDirective at) read = read ≡ Err (bad_directive at)
Fails fault.NoMemory read = Unit {0}

-- what is returned, seen by view, is what the definition gives, unless memory ran out
abbrev pub Gives : {X Y : Type 0} → (X → Y) → Result X LexFault → Result Y LexicalFault → Type 0
Gives view (Ok x) read = read ≡ Ok (view x)
Gives view (Err e) read = Fails e read
