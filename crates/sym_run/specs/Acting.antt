-- What an event gives to a machine.
use Rattle.std.specs.Prelude.{◌≡◌, ℕ, suc, ℤ, pos, Bool, true, false, List, Option, Some, None, nat_lt, if◌then◌else◌, slice_set}
use Rattle.cc_base.specs.declared.ends.End.{End}
use Rattle.cc_base.specs.declared.ends.End.TheVariants as end
use Rattle.cc_base.specs.declared.ends.FaultKind.{FaultKind}
use Rattle.cc_base.specs.declared.outcomes.Outcome.{Outcome}
use Rattle.cc_base.specs.declared.outcomes.Outcome.TheVariants.{Zero, High, Low, Plain, False, True, Object}
use Rattle.checked_memory.specs.declared.values.Cell.{Cell as Held}
use Rattle.cc_model.specs.declared.checked.SiteKind.{SiteKind}
use Rattle.cc_model.specs.Canonical.{Named}
use Rattle.cc_model.specs.CheckedProgram.{cells_at, core_of}
use Rattle.cc_model.specs.Core.{Cell}
use Rattle.cc_model.specs.Domain.{Act}
use Rattle.cc_model.specs.Instructions as instr
use Rattle.cc_model.specs.Meaning as of
use Rattle.cc_model.specs.Runs.{fixed_of}
use Rattle.cc_model.specs.Traced as traced
use Rattle.cc_model.specs.Traced.{Traced, Data}
use Rattle.cc_laws.specs.LinearForms.{linear}
use Rattle.sym_run.specs.declared.asked.Asked.{Asked}
use Rattle.sym_run.specs.declared.machine.Machine.{Machine}
use Rattle.sym_run.specs.declared.symbols.Symbol.{Symbol}
use Rattle.sym_run.specs.Asks.{asked_of}
use Rattle.sym_run.specs.Remembers.{names_in}
use Rattle.sym_run.specs.Stands.{Setting, domain, Conf, St, Log, Done, Holds, Stands, After}

-- an event's outcome and what it asks, where the data stay
pub record IsMet (layouts : ℕ → List Cell) (a : Act Traced) (d : Data) (o : Outcome) (asked : Asked) : Type 0 where
  pub outcome : (traced.act linear layouts a d).event.outcome ≡ o
  pub asks : (traced.act linear layouts a d).event.asked ≡ asked_of asked
  pub places : (traced.act linear layouts a d).event.places ≡ d.shadows.places
  pub after : (traced.act linear layouts a d).after ≡ d

-- and where its outcome is plain, this cell stands for its value, if that goes into a temporary
pub record IsActed (named : List Named) (touched : List ℕ) (symbols : List Symbol) (layouts : ℕ → List Cell) (a : Act Traced) (d : Data) (dst : Option ℕ) (o : Outcome) (asked : Asked) (c : Held) : Type 0 where
  pub met : IsMet layouts a d o asked
  pub value : (n : ℕ) → dst ≡ Some n → o ≡ Plain → Holds named touched symbols (traced.act linear layouts a d).value c

-- on to the next instruction, with a value for a temporary if there is one
abbrev pub gives_if : (w : Setting) → Conf w → Option ℕ → Traced → Conf w
gives_if w c None v = instr.next (domain w) c
gives_if w c (Some n) v = instr.gives (domain w) c n v

-- the machine after that
abbrev pub given_if : Machine → Option ℕ → Held → Machine
given_if m None c = record m { pc = suc m.pc }
given_if m (Some n) c = record m { pc = suc m.pc; temps = slice_set m.temps n c }

-- 1 for true, and else 0
abbrev pub bit : Bool → ℤ
bit true = pos 1
bit false = pos 0

module _ (w : Setting) where
  -- an event whose outcome has to be plain, and the rest
  abbrev pub checks : SiteKind → FaultKind → ℕ → Act Traced → (Traced → Done w) → Done w
  checks k f t a g = of.◌>>=◌ (domain w) (of.checked (domain w) (fixed_of (core_of w.checked) w.limits) k f t a) g

  -- a decision and the rest
  abbrev pub decides : ℕ → Act Traced → (Bool → Done w) → Done w
  decides t a g = of.◌>>=◌ (domain w) (of.decided (domain w) (fixed_of (core_of w.checked) w.limits) t a) g

  -- an event came at a site, and then a machine went on or ended
  abbrev pub Settled : Machine → Machine → SiteKind → FaultKind → ℕ → Option ℕ → Outcome → Asked → Held → Option End → Type 0
  Settled old new kind fault token dst o asked cell e =
      (c : Conf w) (s : St w) (log : Log w) (a : Act Traced) (st : Stands w old c s log)
      → IsActed st.named (names_in old.objects) old.symbols (cells_at w.checked) a s.data_now dst o asked cell
      → After w new s log (λ k. checks kind fault token a (λ v. k (gives_if w c dst v))) e

  abbrev pub DecidedAt : Machine → Machine → ℕ → ℕ → Outcome → Asked → Option End → Type 0
  DecidedAt old new token dst o asked e =
      (c : Conf w) (s : St w) (log : Log w) (a : Act Traced) → Stands w old c s log → IsMet (cells_at w.checked) a s.data_now o asked
      → After w new s log (λ k. decides token a (λ b. k (instr.gives (domain w) c dst (of.truth_value (domain w) (fixed_of (core_of w.checked) w.limits) b)))) e

-- how a run ends at an access, where so many input objects may be accessed and NULL is this fault
abbrev pub access_end : Outcome → ℕ → End → Option End
access_end Zero k e = Some e
access_end (Object n) k e = if nat_lt n k then None else Some end.Objects
access_end High k e = None
access_end Low k e = None
access_end Plain k e = None
access_end False k e = None
access_end True k e = None
