-- The instructions of three-address code, and its run over any domain. They are this project's own.
-- A temporary, a slot, a place in the code and a function are numbers; a site is told by the token at which it stands.
use Rattle.std.specs.Prelude.{◌≡◌, ℕ, zero, suc, ℤ, Bool, List, [], ◌∷◌, length, Option, Some, None, slice_get, nat_eq, if◌then◌else◌}
use Rattle.cc_base.specs.declared.ends.FaultKind.{FaultKind}
use Rattle.cc_base.specs.declared.ends.FaultKind.TheVariants.{Overflow, Divide, Index}
use Rattle.cc_base.specs.declared.ends.End.TheVariants.{Return, Assume, Steps, Fault}
use Rattle.cc_model.specs.declared.checked.SiteKind.TheVariants as site
use Rattle.cc_model.specs.Core.{Layout, Op, Cmp, Func}
use Rattle.cc_model.specs.Domain.{act_divisor, act_negate, act_compare, act_test, act_index, Domain}
use Rattle.cc_model.specs.Meaning as of
use Rattle.cc_model.specs.Meaning.{Fixed, State, Ran, M, Done, ◌>>=◌, ◌>>◌, stop, step, steps, checked, decided, accessed, fits, truth_value}

pub data Instruction : Type 0 where
  -- one step
  i_step : Instruction
  -- a number, NULL, or what another temporary holds
  i_number : (dst : ℕ) → (z : ℤ) → Instruction
  i_nil : (dst : ℕ) → Instruction
  i_copy : (dst src : ℕ) → Instruction
  -- arithmetic with its fit event; a quotient and a remainder follow a divisor event, which looks at both operands
  i_arith : (site : ℕ) → (o : Op) → (dst a b : ℕ) → Instruction
  i_divisor : (site a b : ℕ) → Instruction
  i_negate : (site dst a : ℕ) → Instruction
  -- decisions: 1 or 0
  i_compare : (site : ℕ) → (o : Cmp) → (dst a b : ℕ) → Instruction
  i_truth : (site dst a : ℕ) → Instruction
  -- pointers: to a slot's object, to a cell of the globals, to what a pointer points to, some cells further, into an array
  i_slot : (dst slot : ℕ) → Instruction
  i_global : (dst cell : ℕ) → Instruction
  i_access : (site dst ptr : ℕ) → Instruction
  i_offset : (dst ptr cells : ℕ) → Instruction
  i_index : (site dst ptr i length width : ℕ) → Instruction
  i_load : (dst ptr : ℕ) → Instruction
  i_store : (ptr src : ℕ) → Instruction
  -- new objects, with a step for each cell: a declared variable's, and that of a `malloc`
  i_local : (slot : ℕ) → (type : Layout) → Instruction
  i_malloc : (dst : ℕ) → (type : Layout) → Instruction
  -- the next number of the stream is written
  i_take : (ptr : ℕ) → Instruction
  i_jump : (to : ℕ) → Instruction
  -- a jump where the temporary is 0
  i_jump_zero : (a to : ℕ) → Instruction
  -- a call with `count` arguments from the temporary `first` on
  i_call : (dst func first count : ℕ) → Instruction
  i_return : (src : ℕ) → Instruction
  -- a fault at a line
  i_stop : (kind : FaultKind) → (line : ℕ) → Instruction
  -- the run ends as `assume` where the temporary is 0
  i_unless : (a : ℕ) → Instruction

module _ (d : Domain) where
  abbrev pub Temporaries : Type 0
  Temporaries = ℕ → d.V

  -- a caller that waits: where its result goes, where it goes on, its temporaries and its slots
  pub record Frame : Type 0 where
    pub dst : ℕ
    pub back : ℕ
    pub temps : Temporaries
    pub slots : ℕ → d.V

  -- where the machine stands: the place of the next instruction, the temporaries, and the callers
  pub record Config : Type 0 where
    pub pc : ℕ
    pub temps : Temporaries
    pub stack : List Frame

  abbrev pub put : Temporaries → ℕ → d.V → Temporaries
  put t n v = λ m. if nat_eq m n then v else t m

  abbrev pub next : Config → Config
  next c = record { pc = suc c.pc; temps = c.temps; stack = c.stack }

  abbrev pub gives : Config → ℕ → d.V → Config
  gives c n v = record { pc = suc c.pc; temps = put c.temps n v; stack = c.stack }

  abbrev pub goes : Config → ℕ → Config
  goes c n = record { pc = n; temps = c.temps; stack = c.stack }

  -- m temporaries from n on
  abbrev pub arguments : Temporaries → ℕ → ℕ → List d.V
  arguments t n zero = []
  arguments t n (suc m) = t n ∷ arguments t (suc n) m

  -- back to the caller; without one the run ends
  unfoldable pub leave : (Config → Done d) → d.V → List Frame → Done d
  leave k v [] = stop d Return
  leave k v (r ∷ rest) = ◌>>◌ d (of.set_locals d r.slots) (k (record { pc = r.back; temps = put r.temps r.dst v; stack = rest }))

  -- `is_zero` tells the number 0, and `first_of` where the code of a function begins
  module _ (x : Fixed) (is_zero : d.V → Bool) (first_of : ℕ → ℕ) where
    -- into a function: its parameters' cells, with a step for each, and then its code
    unfoldable pub enter : (Config → Done d) → Config → ℕ → List d.V → ℕ → Option Func → Done d
    enter k c n vs f None = stop d Steps
    enter k c n vs f (Some g) = ◌>>=◌ d (of.get_locals d) (λ saved. ◌>>◌ d (of.take_args d x 0 vs g.params)
        (k (record { pc = first_of f; temps = λ m. d.nil; stack = record { dst = n; back = suc c.pc; temps = c.temps; slots = saved } ∷ c.stack })))

    -- one instruction, and then k where the machine stands after it
    unfoldable pub act : Instruction → (Config → Done d) → Config → Done d
    act i_step k c = ◌>>◌ d (step d) (k (next c))
    act (i_number n z) k c = k (gives c n (d.number z))
    act (i_nil n) k c = k (gives c n d.nil)
    act (i_copy n a) k c = k (gives c n (c.temps a))
    act (i_arith t o n a b) k c = ◌>>=◌ d (fits d x t o (c.temps a) (c.temps b)) (λ v. k (gives c n v))
    act (i_divisor t a b) k c = ◌>>=◌ d (checked d x site.Divisor Divide t (act_divisor (c.temps a) (c.temps b))) (λ v. k (next c))
    act (i_negate t n a) k c = ◌>>=◌ d (checked d x site.Fit Overflow t (act_negate (c.temps a))) (λ v. k (gives c n v))
    act (i_compare t o n a b) k c = ◌>>=◌ d (decided d x t (act_compare o (c.temps a) (c.temps b))) (λ b. k (gives c n (truth_value d x b)))
    act (i_truth t n a) k c = ◌>>=◌ d (decided d x t (act_test (c.temps a))) (λ b. k (gives c n (truth_value d x b)))
    act (i_slot n s) k c = ◌>>=◌ d (of.local d s) (λ v. k (gives c n v))
    act (i_global n g) k c = k (gives c n (d.global g))
    act (i_access t n a) k c = ◌>>=◌ d (accessed d x t (c.temps a)) (λ v. k (gives c n v))
    act (i_offset n a m) k c = k (gives c n (d.offset (c.temps a) m))
    act (i_index t n a i m w) k c = ◌>>=◌ d (checked d x site.Index Index t (act_index (c.temps a) (c.temps i) m w)) (λ v. k (gives c n v))
    act (i_load n a) k c = ◌>>=◌ d (of.load d (c.temps a)) (λ v. k (gives c n v))
    act (i_store a b) k c = ◌>>◌ d (of.store d (c.temps a) (c.temps b)) (k (next c))
    act (i_local s t) k c = ◌>>◌ d (steps d (length t.cells)) (◌>>=◌ d (of.make d t) (λ v. ◌>>◌ d (of.bind d s v) (k (next c))))
    act (i_malloc n t) k c = ◌>>◌ d (steps d (length t.cells)) (◌>>=◌ d (of.make d t) (λ v. k (gives c n v)))
    act (i_take a) k c = ◌>>◌ d (of.take d (c.temps a)) (k (next c))
    act (i_jump to) k c = k (goes c to)
    act (i_jump_zero a to) k c = k (if is_zero (c.temps a) then goes c to else next c)
    act (i_call n f first m) k c = enter k c n (arguments c.temps first m) f (slice_get (x.program).funcs f)
    act (i_return a) k c = leave k (c.temps a) c.stack
    act (i_stop f l) k c = stop d (Fault f l)
    act (i_unless a) k c = if is_zero (c.temps a) then stop d Assume else k (next c)

    -- what stands there, and `steps` past the end of the code
    unfoldable pub act_if : Option Instruction → (Config → Done d) → Config → Done d
    act_if None k c = stop d Steps
    act_if (Some i) k c = act i k c

    -- the run of the code; `lost` is what is said where so many instructions are not enough to end it
    module _ (code : List Instruction) (lost : Config → Done d) where
      unfoldable pub machine : ℕ → Config → Done d
      machine zero c = lost c
      machine (suc n) c = act_if (slice_get code c.pc) (machine n) c

      -- from the first instruction of the entry, without a caller; the temporaries hold NULL
      unfoldable pub from_entry : ℕ → Option Func → Done d
      from_entry n None = stop d Steps
      from_entry n (Some f) = machine n (record { pc = first_of (x.program).entry; temps = λ m. d.nil; stack = [] })

    -- the run of the code from a state ends, and it is r: some number of instructions is enough
    abbrev pub CodeRuns : List Instruction → State d.V d.D → Ran d.E (State d.V d.D) (Unit {0}) → Type 0
    CodeRuns code s r = (n : ℕ) × ((lost : Config → Done d) → from_entry code lost n (slice_get (x.program).funcs (x.program).entry) s ≡ r)
