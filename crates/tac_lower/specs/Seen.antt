-- The instructions that an array of them stands for, by what the program's sites and types are.
use Rattle.std.specs.Prelude.{ℕ, Bool, nat_eq, List, length, Option, Some, None, slice_get, map, reverse, if◌then◌else◌}
use Rattle.cc_model.specs.declared.checked.Site.{Site}
use Rattle.cc_model.specs.declared.checked.SiteId.{SiteId}
use Rattle.cc_model.specs.declared.checked.SiteKind.{SiteKind}
use Rattle.cc_model.specs.declared.checked.SiteKind.TheVariants.{Decision, Fit, Divisor, Index, Access}
use Rattle.cc_model.specs.declared.checked.Checked.{Checked}
use Rattle.cc_model.specs.Core as core
use Rattle.cc_model.specs.Core.{Cmp}
use Rattle.cc_model.specs.Sites.{kind_rank}
use Rattle.cc_model.specs.CheckedProgram.{layout_at}
use Rattle.cc_model.specs.Instructions.{Instruction, i_step, i_number, i_nil, i_copy, i_arith, i_divisor, i_negate, i_compare, i_truth, i_slot, i_global, i_access, i_offset, i_index, i_load, i_store, i_local, i_malloc, i_take, i_jump, i_jump_zero, i_call, i_return, i_stop, i_unless}
use Rattle.tac_lower.specs.declared.instr.Comparison.{Comparison}
use Rattle.tac_lower.specs.declared.instr.Comparison.TheVariants as by
use Rattle.tac_lower.specs.declared.instr.Instr.{Instr}
use Rattle.tac_lower.specs.declared.instr.Instr.TheVariants as instr

abbrev pub comparison : Comparison → Cmp
comparison by.Equal = core.eq
comparison by.Unequal = core.ne
comparison by.Less = core.lt
comparison by.Greater = core.gt
comparison by.AtMost = core.le
comparison by.AtLeast = core.ge

-- the token of a site, where it is of this kind; `none` stands for no token
abbrev pub token_if : ℕ → SiteKind → Option Site → ℕ
token_if none k None = none
token_if none k (Some s) = if nat_eq (kind_rank s.kind) (kind_rank k) then s.token else none

module _ (c : Checked) where
  -- a site's token, and the number of tokens where there is no such site of the kind
  abbrev pub site_token : SiteKind → SiteId → ℕ
  site_token k i = token_if (length c.lines) k (slice_get c.sites i.0)

  -- the instruction, where `place` tells the place in the code that a jump's number means
  abbrev pub seen_by : (place : ℕ → ℕ) → Instr → Instruction
  seen_by place instr.Step = i_step
  seen_by place (instr.Number n z) = i_number n z
  seen_by place (instr.Nil n) = i_nil n
  seen_by place (instr.Copy n a) = i_copy n a
  seen_by place (instr.Add s n a b) = i_arith (site_token Fit s) core.add n a b
  seen_by place (instr.Sub s n a b) = i_arith (site_token Fit s) core.sub n a b
  seen_by place (instr.Mul s n a b) = i_arith (site_token Fit s) core.mul n a b
  seen_by place (instr.Quot s n a b) = i_arith (site_token Fit s) core.quot n a b
  seen_by place (instr.Rem s n a b) = i_arith (site_token Fit s) core.rem n a b
  seen_by place (instr.Divisor s a b) = i_divisor (site_token Divisor s) a b
  seen_by place (instr.Neg s n a) = i_negate (site_token Fit s) n a
  seen_by place (instr.Compare s o n a b) = i_compare (site_token Decision s) (comparison o) n a b
  seen_by place (instr.Truth s n a) = i_truth (site_token Decision s) n a
  seen_by place (instr.Slot n s) = i_slot n s
  seen_by place (instr.Glob n g) = i_global n g
  seen_by place (instr.Access s n a) = i_access (site_token Access s) n a
  seen_by place (instr.Offset n a m) = i_offset n a m
  seen_by place (instr.Index s n a i m w) = i_index (site_token Index s) n a i m w
  seen_by place (instr.Load n a) = i_load n a
  seen_by place (instr.Store a b) = i_store a b
  seen_by place (instr.Local s t) = i_local s (layout_at c t.0)
  seen_by place (instr.Malloc n t) = i_malloc n (layout_at c t.0)
  seen_by place (instr.Take a) = i_take a
  seen_by place (instr.Jump to) = i_jump (place to)
  seen_by place (instr.JumpZero a to) = i_jump_zero a (place to)
  seen_by place (instr.Call n f first m) = i_call n f first m
  seen_by place (instr.Return a) = i_return a
  seen_by place (instr.Stop k line) = i_stop k line
  seen_by place (instr.Unless a) = i_unless a

  -- an instruction of the finished code: a jump's number is the place itself
  abbrev pub seen : Instr → Instruction
  seen i = seen_by (λ place. place) i
