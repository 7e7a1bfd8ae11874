-- Arguments that are passed to a function.
use Rattle.std.specs.Prelude.{◌≡◌, ℕ, suc, List, [], ◌∷◌, Bool, true, false, map}
use Rattle.cc_base.specs.declared.cells.CellTy.{CellTy}
use Rattle.cc_base.specs.declared.ends.End.TheVariants as end
use Rattle.checked_memory.specs.declared.values.Cell.{Cell as Held}
use Rattle.cc_model.specs.Canonical.{Named}
use Rattle.cc_model.specs.CheckedProgram.{cell_of, core_of}
use Rattle.cc_model.specs.Core.{Cell}
use Rattle.cc_model.specs.Meaning as of
use Rattle.cc_model.specs.Runs.{fixed_of}
use Rattle.cc_model.specs.Traced as traced
use Rattle.cc_model.specs.Traced.{Traced}
use Rattle.tac_lower.specs.Finished.{first_in}
use Rattle.sym_run.specs.declared.machine.Machine.{Machine}
use Rattle.sym_run.specs.declared.symbols.Symbol.{Symbol}
use Rattle.sym_run.specs.Remembers.{names_in}
use Rattle.sym_run.specs.Stands.{Setting, Holds, domain, Conf, St, Log, Done, Stands}

-- the cells stand for the values, one for one
abbrev pub HoldAll : List Named → List ℕ → List Symbol → List Traced → List Held → Type 0
HoldAll named touched symbols [] [] = Unit {0}
HoldAll named touched symbols (v ∷ vs) (c ∷ cs) = Holds named touched symbols v c × HoldAll named touched symbols vs cs
HoldAll named touched symbols _ _ = ⊥

module _ (w : Setting) where
  -- the parameters' cells from a slot on
  abbrev pub passes : ℕ → List Traced → List Cell → Done w
  passes = of.take_args (domain w) (fixed_of (core_of w.checked) w.limits)

  -- a machine that stands for a later config and state, where what is known of cells stays
  pub record Keeps (old new : Machine) (c : Conf w) (s : St w) (log : Log w) (st : Stands w old c s log) (config : Conf w) (state : St w) : Type 0 where
    pub stands : Stands w new config state log
    pub named : stands.named ≡ st.named
    pub names : names_in new.objects ≡ names_in old.objects
    pub symbols : new.symbols ≡ old.symbols

  -- a parameter's object was made and holds an argument, or no step is left
  abbrev pub PassedOne : Machine → Machine → ℕ → Held → CellTy → Bool → Type 0
  PassedOne old new slot cell ty false = (new ≡ old) × (old.steps ≡ 0)
  PassedOne old new slot cell ty true = (c : Conf w) (s : St w) (log : Log w) (st : Stands w old c s log) (v : Traced) → Holds st.named (names_in old.objects) old.symbols v cell
      → (state : St w) × (Keeps old new c s log st c state) × ((vs : List Traced) (cs : List Cell) → passes slot (v ∷ vs) (cell_of ty ∷ cs) s ≡ passes (suc slot) vs cs state)

  -- what the passing of arguments comes to
  abbrev pub passing : Bool → St w → of.Result (St w) (Unit {0})
  passing true state = of.ok tt state
  passing false state = of.over end.Steps state

  -- arguments were passed to parameters, one for one, or no step was left for the next one
  abbrev pub PassedAll : Machine → Machine → List Held → List CellTy → Bool → Type 0
  PassedAll old new cells types done = (c : Conf w) (s : St w) (log : Log w) (st : Stands w old c s log) (vs : List Traced) → HoldAll st.named (names_in old.objects) old.symbols vs cells
      → (state : St w) × (Stands w new c state log) × (passes 0 vs (map cell_of types) s ≡ record { log = []; result = passing done state })

  -- inside a function, whose caller waits
  abbrev pub entered : Conf w → St w → ℕ → ℕ → Conf w
  entered c s dst f = record { pc = first_in w.code f; temps = λ m. traced.nil; stack = record { dst = dst; back = suc c.pc; temps = c.temps; slots = s.locals } ∷ c.stack }

  -- a machine entered a function
  abbrev pub Entered : Machine → Machine → ℕ → ℕ → Type 0
  Entered old new dst f = (c : Conf w) (s : St w) (log : Log w) (st : Stands w old c s log) → Keeps old new c s log st (entered c s dst f) s
