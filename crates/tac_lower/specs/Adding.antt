-- Code while it is written: from its end, so the last instruction stands first. A jump's number is how many instructions stand behind the place that it leads to.
use Rattle.std.specs.Prelude.{◌≡◌, ℕ, ◌+◌, ◌-◌, ◌<◌, ◌^◌, List, ◌++◌, [], ◌∷◌, length, map, reverse, Option, Some, None}
use Rattle.cc_model.specs.declared.checked.SiteKind.{SiteKind}
use Rattle.cc_model.specs.declared.checked.SiteKind.TheVariants.{Decision, Fit, Divisor, Index, Access}
use Rattle.cc_model.specs.declared.checked.SiteId.{SiteId}
use Rattle.cc_model.specs.declared.checked.Checked.{Checked}
use Rattle.cc_model.specs.Core as tree
use Rattle.cc_model.specs.Core.{Op, Val, Cond, Loc, Vals, Simple, Declarator, Stmt, Parts}
use Rattle.cc_model.specs.Sites.{Mark, at}
use Rattle.cc_model.specs.Instructions.{Instruction}
use Rattle.tac_lower.specs.declared.instr.Instr.{Instr}
use Rattle.tac_lower.specs.Seen.{seen_by, site_token}

module _ (c : Checked) where
  -- what was written, in order, where the whole code has so many instructions
  abbrev pub ordered : (total : ℕ) → List Instr → List Instruction
  ordered total l = reverse (map (seen_by c (λ behind. total - behind)) l)

-- so many instructions were added; where what is given holds, they are this code, by the number of all instructions and the place of the first of them
pub record Adds (c : Checked) (old new : List Instr) (size : ℕ) (Given : Type 0) (code : ℕ → ℕ → List Instruction) : Type 0 where
  pub added : List Instr
  pub is : new ≡ old ++ added
  pub many : length added ≡ size
  pub reads : Given → (total pc : ℕ) → pc + length new ≡ total → ordered c total added ≡ code total pc

-- ---- what the code of a thing needs: each of its sites is one of the program's, and the cells of an array's element fit 32 bits

module _ (c : Checked) where
  -- some site is at this token and of this kind
  abbrev pub HasSite : SiteKind → ℕ → Type 0
  HasSite k t = (i : ℕ) × (site_token c k (record { 0 = i }) ≡ t)

  abbrev pub OpSited : ℕ → Op → Type 0
  OpSited t tree.quot = HasSite Divisor t × HasSite Fit t
  OpSited t tree.rem = HasSite Divisor t × HasSite Fit t
  OpSited t o = HasSite Fit t

  abbrev mutual
    pub Sited : Val → Type 0
    Sited (tree.number z) = Unit {0}
    Sited tree.nil = Unit {0}
    Sited (tree.read l) = PlaceSited l
    Sited (tree.arith t o a b) = OpSited t o × Sited a × Sited b
    Sited (tree.negate t a) = HasSite Fit t × Sited a
    Sited (tree.truth k) = CondSited k
    Sited (tree.address l) = PlaceSited l
    Sited (tree.call f args) = AllSited args
    Sited (tree.malloc type) = Unit {0}

    pub CondSited : Cond → Type 0
    CondSited (tree.compare t o a b) = HasSite Decision t × Sited a × Sited b
    CondSited (tree.test t a) = HasSite Decision t × Sited a
    CondSited (tree.opposite k) = CondSited k
    CondSited (tree.both a b) = CondSited a × CondSited b
    CondSited (tree.either a b) = CondSited a × CondSited b

    pub PlaceSited : Loc → Type 0
    PlaceSited (tree.local s) = Unit {0}
    PlaceSited (tree.global g) = Unit {0}
    PlaceSited (tree.deref t a) = HasSite Access t × Sited a
    PlaceSited (tree.arrow t a n) = HasSite Access t × Sited a
    PlaceSited (tree.dot l n) = PlaceSited l
    PlaceSited (tree.index t l i m w) = (w < 4294967296) × HasSite Index t × PlaceSited l × Sited i

    pub AllSited : Vals → Type 0
    AllSited tree.done = Unit {0}
    AllSited (tree.more a rest) = Sited a × AllSited rest

  abbrev pub SimpleSited : Simple → Type 0
  SimpleSited (tree.assign l a) = PlaceSited l × Sited a
  SimpleSited (tree.update t o l a) = OpSited t o × PlaceSited l × Sited a
  SimpleSited (tree.bump t o l) = OpSited t o × PlaceSited l
  SimpleSited (tree.perform f xs) = AllSited xs
  SimpleSited (tree.assert t k) = CondSited k
  SimpleSited (tree.assume k) = CondSited k
  SimpleSited (tree.abort t) = Unit {0}
  SimpleSited (tree.take l) = PlaceSited l

  abbrev pub ValueIfSited : Option Val → Type 0
  ValueIfSited None = Unit {0}
  ValueIfSited (Some a) = Sited a

  abbrev pub CondIfSited : Option Cond → Type 0
  CondIfSited None = Unit {0}
  CondIfSited (Some k) = CondSited k

  abbrev pub SimpleIfSited : Option Simple → Type 0
  SimpleIfSited None = Unit {0}
  SimpleIfSited (Some s) = SimpleSited s

  abbrev pub DeclaratorsSited : List Declarator → Type 0
  DeclaratorsSited [] = Unit {0}
  DeclaratorsSited (d ∷ ds) = ValueIfSited d.start × DeclaratorsSited ds

  abbrev mutual
    pub StmtSited : Stmt → Type 0
    StmtSited tree.empty = Unit {0}
    StmtSited (tree.block parts) = PartsSited parts
    StmtSited (tree.choice k a) = CondSited k × StmtSited a
    StmtSited (tree.choice_else k a b) = CondSited k × StmtSited a × StmtSited b
    StmtSited (tree.loop k body) = CondSited k × StmtSited body
    StmtSited (tree.repeat body k) = CondSited k × StmtSited body
    StmtSited (tree.loop_for first decls k next body) = SimpleIfSited first × DeclaratorsSited decls × CondIfSited k × SimpleIfSited next × StmtSited body
    StmtSited (tree.return a) = ValueIfSited a
    StmtSited tree.break = Unit {0}
    StmtSited tree.continue = Unit {0}
    StmtSited (tree.simple s) = SimpleSited s

    pub PartsSited : Parts → Type 0
    PartsSited tree.finish = Unit {0}
    PartsSited (tree.declare d rest) = ValueIfSited d.start × PartsSited rest
    PartsSited (tree.then s rest) = StmtSited s × PartsSited rest
