-- The code of a program does what the program does, plainly and traced.
use Rattle.std.proofs.Common.{◌≡◌, ℕ, suc, ◌<◌, true, false, refl, arith}
use Rattle.cc_base.specs.declared.inputs.Input.{Input}
use Rattle.cc_base.specs.Limits.{Limits}
use Rattle.cc_model.specs.Core.{Program}
use Rattle.cc_model.specs.Plain.{plain, num, int_eq}
use Rattle.cc_model.specs.Runs.{run, run_of, fixed_of, begin_of}
use Rattle.cc_model.specs.FormOperations.{Forms}
use Rattle.cc_model.specs.Traced.{traced, number}
use Rattle.cc_model.specs.Conditions.{traced_run, traced_begin}
use Rattle.cc_model.specs.Instructions.{CodeRuns}
use Rattle.cc_model.specs.Compiles.{Compiles, is_zero, is_traced_zero, before_run}
use Rattle.tac_lower.specs.Lowering.{code_from, first_from}
use Rattle.tac_lower.proofs.Whole.{compiled}

one_more : (n : ℕ) → n < suc n
one_more n = omega arith

as_run : (p : Program) (b : Limits) (h : Input) → CodeRuns plain (fixed_of p b) is_zero (λ f. first_from p.line p.funcs 0 f) (code_from p.line p.funcs 0) (before_run b (begin_of p b h)) (run_of p b h)
unfolding is_zero int_eq run_of run
as_run p b h = compiled plain (fixed_of p b) is_zero refl refl (before_run b (begin_of p b h)) (one_more b.steps)

as_traced : (p : Program) (f : Forms) (b : Limits) (h : Input) → CodeRuns (traced f p.layouts) (fixed_of p b) is_traced_zero (λ i. first_from p.line p.funcs 0 i) (code_from p.line p.funcs 0) (before_run b (traced_begin f p b h)) (traced_run f p b h)
unfolding is_zero is_traced_zero int_eq number traced_run run
as_traced p f b h = compiled (traced f p.layouts) (fixed_of p b) is_traced_zero refl refl (before_run b (traced_begin f p b h)) (one_more b.steps)

pub compiles : (p : Program) → Compiles p (code_from p.line p.funcs 0) (λ f. first_from p.line p.funcs 0 f)
compiles p = record { as_run = as_run p; as_traced = as_traced p }
