-- The first fault of the numbers of a map text: by the rule of inputs, cell after cell, and then the stream.
use Rattle.std.specs.Prelude.{ℕ, suc, ◌+◌, ◌≡◌, ◌⊎◌, ◌&&◌, ◌||◌, not, Bool, false, ℤ, pos, negsuc, int_lt, nat_eq, List, [], ◌∷◌, ◌++◌, length, Option, Some, None, Result, Ok, Err, if◌then◌else◌}
use Rattle.cc_base.specs.declared.inputs.Input.{Input}
use Rattle.cc_base.specs.Limits.{Limits}
use Rattle.cc_model.specs.Core.{Cell, int_cell, ptr_cell, Program}
use Rattle.cc_model.specs.Canonical.{Named}
use Rattle.cc_model.specs.Runs.{params_of, IsInput}
use Rattle.input_map.specs.declared.faults.MapFault.{MapFault}
use Rattle.input_map.specs.declared.faults.MapFault.TheVariants.{Malformed, NotCanonical, Short, Long, OutOfBounds, StreamOutOfBounds, NoMemory}
use Rattle.input_map.specs.Maps.{IsMap, MalformedAt}

-- the number is in lo..hi
abbrev pub is_within : Limits → ℤ → Bool
is_within b z = not (int_lt z b.lo) && not (int_lt b.hi z)

-- an earlier pointer cell named a block of the type at the address
abbrev pub is_named : List Named → ℕ → ℕ → Bool
is_named [] t a = false
is_named (k ∷ named) t a = (nat_eq a k.address && nat_eq t k.type) || is_named named t a

-- NULL, or such a block
abbrev pub is_old : List Named → ℕ → ℤ → Bool
is_old named t (pos a) = nat_eq a 0 || is_named named t a
is_old named t (negsuc n) = false

abbrev pub is_next : ℕ → ℤ → Bool
is_next next (pos a) = nat_eq a next
is_next next (negsuc n) = false

module _ (layouts : ℕ → List Cell) (b : Limits) where
  -- of the cells from address `at` on, where `due`, `named` and `next` are those of the rule of inputs
  unfoldable pub cells_fault : List Cell → List Named → ℕ → ℕ → List ℤ → Option MapFault
  cells_fault [] named next at [] = None
  cells_fault (c ∷ due) named next at [] = Some Short
  cells_fault [] named next at (z ∷ zs) = Some (Long (pos at))
  cells_fault (int_cell ∷ due) named next at (z ∷ zs) = if is_within b z then cells_fault due named next (suc at) zs else Some (OutOfBounds (pos at))
  cells_fault (ptr_cell t ∷ due) named next at (z ∷ zs) = if is_old named t z then cells_fault due named next (suc at) zs
      else (if is_next next z then cells_fault (due ++ layouts t) (record { address = next; type = t } ∷ named) (next + length (layouts t)) (suc at) zs
      else Some (NotCanonical (pos at)))

-- of the numbers of the stream from the one with this place on
unfoldable pub stream_fault : Limits → ℕ → List ℤ → Option MapFault
stream_fault b place [] = None
stream_fault b place (z ∷ zs) = if is_within b z then stream_fault b (suc place) zs else Some (StreamOutOfBounds place)

abbrev pub sooner : Option MapFault → Option MapFault → Option MapFault
sooner (Some f) later = Some f
sooner None later = later

-- of an input
abbrev pub input_fault : (ℕ → List Cell) → Limits → List Cell → Input → Option MapFault
input_fault layouts b params h = sooner (cells_fault layouts b params [] (suc (length params)) 1 h.cells) (stream_fault b 1 h.stream)

-- why the text is refused: it is no map text, or it is that of these numbers, which have this fault
abbrev pub Refused : Program → Limits → List ℕ → MapFault → Type 0
Refused p b text f = ((n : ℕ) × (f ≡ Malformed n) × MalformedAt text n) ⊎ ((h : Input) × IsMap text h × (input_fault p.layouts b (params_of p) h ≡ Some f))

-- an answer: the input that the text is the map text of, want of memory, or why the text is refused
abbrev pub Answers : Program → Limits → List ℕ → Result Input MapFault → Type 0
Answers p b text (Ok h) = IsMap text h × IsInput p b h
Answers p b text (Err f) = (f ≡ NoMemory) ⊎ Refused p b text f

-- the result, but for want of memory
abbrev pub IsOrNoMemory : Result Input MapFault → Result Input MapFault → Type 0
IsOrNoMemory result r = (result ≡ r) ⊎ (result ≡ Err NoMemory)
