-- The tests that a file holds: each is one with an input within the bounds, and no more stand there than bytes.
use Rattle.std.proofs.Common.{◌≡◌, ℕ, zero, suc, ◌≤◌, List, [], ◌∷◌, length, Some, refl, sym, ap, subst, arith, slice_get, length-append}
use Rattle.cc_base.specs.declared.inputs.Test.{Test}
use Rattle.cc_base.specs.Limits.{Limits}
use Rattle.cc_model.specs.Core.{Program}
use Rattle.report_words.specs.Cuts.{CutFirst}
use Rattle.replay.specs.declared.line.Line.{Line as Kind}
use Rattle.replay.specs.declared.line.Line.TheVariants as of
use Rattle.replay.specs.Files.{AreLines, no_line, test_line, other_line, IsTestsFile}
use Rattle.replay.specs.Lines.{IsLine, test, past, stray, unrun, other}
use Rattle.input_map.specs.TestTexts.{IsGood}

-- as many lines as tests, each test a good one, and no more tests than bytes
pub record AreGood (p : Program) (b : Limits) (size : ℕ) (tests : List Test) (lines : List ℕ) : Type 0 where
  pub same : length lines ≡ length tests
  pub good : (k : ℕ) (t : Test) → slice_get tests k ≡ Some t → IsGood p b t
  pub few : length tests ≤ size

module _ (p : Program) (b : Limits) where
  good_line : (line : List ℕ) (k : Kind) (t : Test) → k ≡ of.Test t → IsLine p b line k → IsGood p b t
  good_line line _ t e (test u w g) = let same : u ≡ t = cc e in subst (IsGood p b) same g
  good_line line _ t e (past u w g) = let same : u ≡ t = cc e in subst (IsGood p b) same g
  good_line line _ t e (stray u q w g h) = let same : u ≡ t = cc e in subst (IsGood p b) same g
  good_line line _ t e (unrun i q w g h) = absurd (cc e)
  good_line line _ t e (other w) = absurd (cc e)

  longer : (text line rest : List ℕ) → CutFirst 10 text line rest → suc (length rest) ≤ length text
  longer text line rest c = let e = ap length c.is in let l = length-append line (10 ∷ rest) in omega (arith, e, l)

  are_good : (n : ℕ) (text : List ℕ) (ts : List Test) (ns : List ℕ) → AreLines p b n text ts ns → AreGood p b (length text) ts ns
  are_good n _ _ _ (no_line _) = record { same = refl; good = λ k t e. absurd (cc e); few = omega arith }
  are_good n text _ _ (test_line _ _ line rest t ts ns c i l) =
      let g = are_good (suc n) rest ts ns l in
      let few = g.few in
      let long = longer text line rest c in
      record { same = ap suc g.same; good = good_at g; few = omega (arith, few, long) }
    where
      good_at : AreGood p b (length rest) ts ns → (k : ℕ) (u : Test) → slice_get (t ∷ ts) k ≡ Some u → IsGood p b u
      good_at g zero u e = let same : t ≡ u = cc e in good_line line (of.Test t) u (ap of.Test same) i
      good_at g (suc k) u e = g.good k u e
  are_good n text ts ns (other_line _ _ line rest _ _ c i l) =
      let g = are_good (suc n) rest ts ns l in
      let few = g.few in
      let long = longer text line rest c in
      record { same = g.same; good = g.good; few = omega (arith, few, long) }

  pub file_good : (file : List ℕ) (tests : List Test) (lines : List ℕ) → IsTestsFile p file b tests lines → AreGood p b (length file) tests lines
  file_good file tests lines f =
      let g = are_good 2 f.rest tests lines f.others in
      let few = g.few in
      let long = longer file f.first f.rest f.cut in
      record { same = g.same; good = g.good; few = omega (arith, few, long) }
