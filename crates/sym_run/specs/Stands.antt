-- A machine that stands for the machine of the meaning: where it stands, what it holds, and what it recorded.
use Rattle.std.specs.Prelude.{◌≡◌, ℕ, List, [], ◌∷◌, ◌++◌, length, map, reverse, Option, Some, None, slice_get, option_map, suc}
use Rattle.cc_base.specs.declared.ends.End.{End}
use Rattle.cc_base.specs.declared.inputs.Input.{Input}
use Rattle.cc_base.specs.Limits.{Limits, base_of}
use Rattle.checked_memory.specs.declared.values.Cell.{Cell as Held}
use Rattle.cc_model.specs.declared.checked.Checked.{Checked}
use Rattle.cc_model.specs.declared.checked.Site.{Site}
use Rattle.cc_model.specs.declared.checked.SiteId.{SiteId}
use Rattle.cc_model.specs.declared.checked.SiteKind.{SiteKind}
use Rattle.cc_model.specs.declared.terms.TermKind.{TermKind}
use Rattle.cc_model.specs.CheckedProgram.{cells_at, core_of}
use Rattle.cc_model.specs.Canonical.{Named}
use Rattle.cc_model.specs.Conditions.{taken, alternatives}
use Rattle.cc_model.specs.Compiles.{is_traced_zero}
use Rattle.cc_model.specs.Domain.{Domain}
use Rattle.cc_model.specs.Instructions as instr
use Rattle.cc_model.specs.Instructions.{Instruction}
use Rattle.cc_model.specs.Meaning as of
use Rattle.cc_model.specs.Meaning.{Entry, Fixed, over}
use Rattle.cc_model.specs.Plain as plain
use Rattle.cc_model.specs.Runs.{fixed_of, params_of, value_of_start}
use Rattle.cc_model.specs.Traced as traced
use Rattle.cc_model.specs.Traced.{Traced, Data, term}
use Rattle.cc_laws.specs.LinearForms.{linear}
use Rattle.tac_lower.specs.declared.tac.Tac.{Tac}
use Rattle.tac_lower.specs.Finished.{first_in}
use Rattle.tac_lower.specs.Seen.{seen}
use Rattle.sym_expr.specs.AtomsSeen.{atoms_of}
use Rattle.sym_run.specs.declared.machine.Frame.{Frame}
use Rattle.sym_run.specs.declared.machine.Machine.{Machine}
use Rattle.sym_run.specs.declared.journal.Journal.{Journal}
use Rattle.sym_run.specs.declared.symbols.Symbol.{Symbol}
use Rattle.sym_run.specs.declared.trace.Event.{Event}
use Rattle.sym_run.specs.declared.trace.Term.{Term}
use Rattle.sym_run.specs.Asks.{choices_of}
use Rattle.sym_run.specs.Beside.{traced_of}
use Rattle.sym_run.specs.Blocks.{IsLaidOut, named_in}
use Rattle.sym_run.specs.Remembers.{Remembers, IsKnown, names_in}

-- what a run has from its start: the checked program, its code, the bounds and the input
pub record Setting : Type 0 where
  pub checked : Checked
  pub code : Tac
  pub limits : Limits
  pub input : Input

abbrev pub setting : Checked → Tac → Limits → Input → Setting
setting c t b h = record { checked = c; code = t; limits = b; input = h }

-- ---- what was recorded

-- the site is in the list, of this kind and at this token
pub record IsSite (c : Checked) (i : SiteId) (k : SiteKind) (t : ℕ) : Type 0 where
  pub site : Site
  pub listed : slice_get c.sites i.0 ≡ Some site
  pub kind : site.kind ≡ k
  pub token : site.token ≡ t

-- an event with its site, its outcome with the atoms taken, its alternatives, and how many places stood before it
pub record IsEvent (c : Checked) (a : Entry traced.Event) (e : Event) : Type 0 where
  pub site : IsSite c e.site a.kind a.token
  pub outcome : (e.taken).outcome ≡ (a.event).outcome
  pub atoms : atoms_of (e.taken).atoms ≡ taken a.event
  pub others : choices_of e.others ≡ alternatives a.event
  pub places : e.places ≡ length (a.event).places

abbrev pub AreEvents : Checked → List (Entry traced.Event) → List Event → Type 0
AreEvents c [] [] = Unit {0}
AreEvents c (a ∷ l) (e ∷ es) = IsEvent c a e × AreEvents c l es
AreEvents c _ _ = ⊥

-- the term to which an event belongs
abbrev pub term_in : traced.Asked → Option TermKind
term_in (term k) = Some k
term_in _ = None

abbrev pub or_rest : {A : Type 0} → Option TermKind → A → A → A
or_rest None here rest = rest
or_rest (Some k) here rest = here

-- the events that belong to a term
abbrev pub of_terms : List (Entry traced.Event) → List (Entry traced.Event)
of_terms [] = []
of_terms (a ∷ l) = or_rest (term_in (a.event).asked) (a ∷ of_terms l) (of_terms l)

pub record IsTerm (c : Checked) (a : Entry traced.Event) (t : Term) : Type 0 where
  pub site : IsSite c t.site a.kind a.token
  pub kind : term_in (a.event).asked ≡ Some t.kind

abbrev pub AreTerms : Checked → List (Entry traced.Event) → List Term → Type 0
AreTerms c [] [] = Unit {0}
AreTerms c (a ∷ l) (t ∷ ts) = IsTerm c a t × AreTerms c l ts
AreTerms c _ _ = ⊥

-- how many events come before the first one of a term, where there is one
abbrev pub first_term : List (Entry traced.Event) → Option ℕ
first_term [] = None
first_term (a ∷ l) = or_rest (term_in (a.event).asked) (Some 0) (option_map suc (first_term l))

pub record IsJournal (c : Checked) (l : List (Entry traced.Event)) (r : Journal) : Type 0 where
  pub events : AreEvents c l r.events
  pub terms : AreTerms c (of_terms l) r.terms
  pub clean : r.clean ≡ first_term l

-- ---- values

-- a cell that stands for a value, where these blocks are named and touched
pub record Holds (named : List Named) (touched : List ℕ) (symbols : List Symbol) (v : Traced) (c : Held) : Type 0 where
  pub value : v ≡ traced_of symbols c
  pub known : IsKnown named touched symbols c

module _ (named : List Named) (touched : List ℕ) (symbols : List Symbol) where
  -- the temporaries that there are
  abbrev pub HoldTemps : (ℕ → Traced) → List Held → Type 0
  HoldTemps t l = (n : ℕ) (c : Held) → slice_get l n ≡ Some c → Holds named touched symbols (t n) c

  -- the slots that are set
  abbrev pub HoldSlots : (ℕ → Traced) → List (Option Held) → Type 0
  HoldSlots t l = (n : ℕ) (c : Held) → slice_get l n ≡ Some (Some c) → Holds named touched symbols (t n) c

-- ---- the machine of the meaning

module _ (w : Setting) where
  abbrev pub domain : Domain
  domain = traced.traced linear (cells_at w.checked)

  abbrev pub Conf : Type 0
  Conf = instr.Config domain

  abbrev pub Caller : Type 0
  Caller = instr.Frame domain

  abbrev pub St : Type 0
  St = of.State Traced Data

  abbrev pub Log : Type 0
  Log = List (Entry traced.Event)

  abbrev pub Done : Type 0
  Done = of.Done domain

  abbrev pub acts : Instruction → (Conf → Done) → Conf → Done
  acts = instr.act domain (fixed_of (core_of w.checked) w.limits) is_traced_zero (first_in w.code)

  -- what stands at a place of the code
  abbrev pub instruction_at : ℕ → Option Instruction
  instruction_at n = slice_get (map (seen w.checked) (w.code).code) n

  abbrev pub acts_at : (Conf → Done) → Conf → Done
  acts_at k c = instr.act_if domain (fixed_of (core_of w.checked) w.limits) is_traced_zero (first_in w.code) (instruction_at c.pc) k c

  -- the run of the code from there on
  abbrev pub machine : (Conf → Done) → ℕ → Conf → Done
  machine = instr.machine domain (fixed_of (core_of w.checked) w.limits) is_traced_zero (first_in w.code) (map (seen w.checked) (w.code).code)

  -- ---- the relation

  -- the memory at the start and the blocks that the input names
  pub record IsBegun (start : plain.Data) (named : List Named) : Type 0 where
    pub named_are : named ≡ named_in (cells_at w.checked) (params_of (core_of w.checked)) w.input
    pub start_is : start ≡ plain.data_of (cells_at w.checked) (params_of (core_of w.checked)) (map value_of_start (core_of w.checked).globals) (w.input).cells (w.input).stream (base_of w.limits)
    pub laid : IsLaidOut (cells_at w.checked) w.limits (params_of (core_of w.checked)) (map value_of_start (core_of w.checked).globals) (base_of w.limits) w.input

  -- a caller that waits
  pub record Waits (named : List Named) (touched : List ℕ) (symbols : List Symbol) (f : Frame) (g : Caller) : Type 0 where
    pub dst : g.dst ≡ f.dst
    pub back : g.back ≡ f.back
    pub temps : HoldTemps named touched symbols g.temps f.temps
    pub slots : HoldSlots named touched symbols g.slots f.slots

  -- the callers, the last one first
  abbrev pub AllWait : List Named → List ℕ → List Symbol → List Frame → List Caller → Type 0
  AllWait named touched symbols [] [] = Unit {0}
  AllWait named touched symbols (f ∷ fs) (g ∷ gs) = Waits named touched symbols f g × AllWait named touched symbols fs gs
  AllWait named touched symbols _ _ = ⊥

  -- the machine stands for this config in this state, after the events of this log
  pub record Stands (m : Machine) (c : Conf) (s : St) (log : Log) : Type 0 where
    pub start : plain.Data
    pub named : List Named
    pub begun : IsBegun start named
    pub pc : c.pc ≡ m.pc
    pub temps : HoldTemps named (names_in m.objects) m.symbols c.temps m.temps
    pub slots : HoldSlots named (names_in m.objects) m.symbols s.locals m.slots
    pub stack : AllWait named (names_in m.objects) m.symbols (reverse m.stack) c.stack
    pub steps : s.steps ≡ m.steps
    pub events : s.events ≡ m.events_left
    pub data_now : Remembers start named m.symbols m.objects s.data_now
    pub journal : IsJournal w.checked log m.journal

  -- ---- what an instruction comes to, where `body` says what it and the rest of the run do

  -- it goes on: a config, a state and a log for which the machine stands
  pub record Goes (m : Machine) (s : St) (log : Log) (body : (Conf → Done) → Done) : Type 0 where
    pub config : Conf
    pub state : St
    pub more : Log
    pub stands : Stands m config state (log ++ more)
    pub does : (k : Conf → Done) → body k s ≡ of.prepend domain more (k config state)

  -- the run ends
  pub record Ends (m : Machine) (s : St) (log : Log) (body : (Conf → Done) → Done) (e : End) : Type 0 where
    pub state : St
    pub more : Log
    pub journal : IsJournal w.checked (log ++ more) m.journal
    pub places : ((state.data_now).shadows).places ≡ (m.objects).places
    pub does : (k : Conf → Done) → body k s ≡ record { log = more; result = over e state }

  abbrev pub After : Machine → St → Log → ((Conf → Done) → Done) → Option End → Type 0
  After m s log body None = Goes m s log body
  After m s log body (Some e) = Ends m s log body e

  -- an instruction was done, by a machine that stood for any config and state
  abbrev pub Did : Machine → Machine → Instruction → Option End → Type 0
  Did old new i e = (c : Conf) (s : St) (log : Log) → Stands old c s log → After new s log (λ k. acts i k c) e

  -- the instruction at the machine's place was done
  abbrev pub Stepped : Machine → Machine → Option End → Type 0
  Stepped old new e = (c : Conf) (s : St) (log : Log) → Stands old c s log → After new s log (λ k. acts_at k c) e
