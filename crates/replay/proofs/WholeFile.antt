-- A tests file, from its first line to its end.
use Rattle.std.proofs.Common.{◌≡◌, ◌∙◌, sym, ap, refl, subst, ℕ, suc, ◌⊎◌, inl, inr, List, [], ◌∷◌, Some, Bool, true, false, length, arith, eqb-true, eq-eqb}
use Rattle.std.specs.Prelude.{◌==◌}
use Rattle.cc_base.specs.declared.inputs.Test.{Test}
use Rattle.cc_base.specs.Limits.{Limits}
use Rattle.cc_model.specs.Core.{Program}
use Rattle.report_words.specs.Cuts.{Lacks, CutFirst}
use Rattle.report_words.proofs.Cutting.{first_once, no_first}
use Rattle.replay.specs.declared.faults.TestsFault.{TestsFault}
use Rattle.replay.specs.declared.faults.TestsFault.TheVariants.{Line, NoMemory}
use Rattle.replay.specs.declared.tests_file.Tests.{Tests}
use Rattle.replay.specs.Files.{AreLines, Passed, IsBadAt, IsTestsFile, IsRefusedAt, first_line, later_line, Refused, Stops}
use Rattle.replay.specs.Lines.{IsBounds, IsLine}
use Rattle.replay.proofs.FileLaws.{UpTo, passed, ends, ends_only, ends_well, stops, stops_whole, stops_there}

-- the text begins with the line of these bounds
pub record BeginsWell (text first behind : List ℕ) (b : Limits) : Type 0 where
  pub cut : CutFirst 10 text first behind
  pub bounds : IsBounds first b
  pub only : (other : Limits) → IsBounds first other → Some b ≡ Some other

-- no text begins with a line of bounds
abbrev pub BeginsBadly : List ℕ → Type 0
BeginsBadly text = (b : Limits) (line rest : List ℕ) → CutFirst 10 text line rest → IsBounds line b → ⊥

pub no_line_at_all : (text : List ℕ) → Lacks 10 text → BeginsBadly text
no_line_at_all text l b line rest c k = no_first 10 text line rest l c

pub no_bounds : (text first behind : List ℕ) → CutFirst 10 text first behind → ((b : Limits) → IsBounds first b → ⊥) → BeginsBadly text
no_bounds text first behind c none b line rest d k = let r = first_once 10 text first behind line rest c d in none b (subst (λ x. IsBounds x b) (sym r.0) k)

module _ (p : Program) where
  pub badly_file : (text : List ℕ) (b : Limits) (ts : List Test) (ns : List ℕ) → BeginsBadly text → IsTestsFile p text b ts ns → ⊥
  badly_file text b ts ns none h = none b h.first h.rest h.cut h.bounds

  pub badly_line : (text : List ℕ) (n : ℕ) → BeginsBadly text → IsRefusedAt p text n → 1 ≡ n
  badly_line text _ none (first_line _ k) = refl
  badly_line text n none (later_line _ _ b line rest c k bad) = absurd (none b line rest c k)

  module _ (text first behind : List ℕ) (b : Limits) (w : BeginsWell text first behind b) where
    file_lines : (o : Limits) (ts : List Test) (ns : List ℕ) → IsTestsFile p text o ts ns → (b ≡ o) × AreLines p b 2 behind ts ns
    file_lines o ts ns h =
        let r = first_once 10 text first behind h.first h.rest w.cut h.cut in
        let k = w.only o (subst (λ x. IsBounds x o) (sym r.0) h.bounds) in
        let e : b ≡ o = cc k in
        (e, subst (λ x. AreLines p x 2 behind ts ns) (sym e) (subst (λ x. AreLines p o 2 x ts ns) (sym r.1) h.others))

    bad_line : (n : ℕ) → IsRefusedAt p text n → IsBadAt p b 2 behind n
    bad_line _ (first_line _ none) = absurd (none b first behind w.cut w.bounds)
    bad_line n (later_line _ _ o line rest c k bad) =
        let r = first_once 10 text first behind line rest w.cut c in
        let q = w.only o (subst (λ x. IsBounds x o) (sym r.0) k) in
        let e : b ≡ o = cc q in
        subst (λ x. IsBadAt p x 2 behind n) (sym e) (subst (λ x. IsBadAt p o 2 x n) (sym r.1) bad)

    -- where a line stops the reader
    module _ (rest : List ℕ) (n : ℕ) (tests : List Test) (lines : List ℕ) (filled : rest ≡ [] → ⊥) (u : UpTo p b behind n rest tests lines) where
      pub stops_refused : (f : TestsFault) → Stops p b n rest f → Refused p text f
      stops_refused f (inl e) = subst (λ x. Refused p text x) (sym e) tt
      stops_refused f (inr (e, faulty)) = subst (λ x. Refused p text x) (sym e) (later_line text n b first behind w.cut w.bounds (stops p b behind rest n tests lines filled faulty u))

      pub stops_only : (f : TestsFault) → Stops p b n rest f → (o : Limits) (ts : List Test) (ns : List ℕ) → IsTestsFile p text o ts ns → f ≡ NoMemory
      stops_only f (inl e) o ts ns h = e
      stops_only f (inr (e, faulty)) o ts ns h = absurd (stops_whole p b behind rest n tests ts lines ns filled faulty u (file_lines o ts ns h).1)

      pub stops_line : (f : TestsFault) → Stops p b n rest f → (m : ℕ) → IsRefusedAt p text m → (f ≡ Line m) ⊎ (f ≡ NoMemory)
      stops_line f (inl e) m h = inr e
      stops_line f (inr (e, faulty)) m h = inl (e ∙ ap Line (stops_there p b behind rest n m tests lines faulty u (bad_line m h)))

    -- at the end
    module _ (rest : List ℕ) (n : ℕ) (tests : List Test) (lines : List ℕ) (c : Limits) (e : c ≡ b) (done : rest ≡ []) (u : UpTo p b behind n rest tests lines) where
      pub ends_read : IsTestsFile p text c tests lines
      ends_read = record {
        first = first;
        rest = behind;
        cut = w.cut;
        bounds = subst (λ x. IsBounds first x) (sym e) w.bounds;
        others = subst (λ x. AreLines p x 2 behind tests lines) (sym e) (ends p b behind rest n tests lines done u);
      }

      pub ends_same : (o : Limits) (ts : List Test) (ns : List ℕ) → IsTestsFile p text o ts ns → (c ≡ o) × (tests ≡ ts) × (lines ≡ ns)
      ends_same o ts ns h =
          let f = file_lines o ts ns h in
          let k = ends_only p b behind rest n tests ts lines ns done u f.1 in
          (e ∙ f.0, k.0, k.1)

      pub ends_never : (m : ℕ) → IsRefusedAt p text m → ⊥
      ends_never m h = ends_well p b behind rest n m tests lines done u (bad_line m h)

-- ---- one line more

pub filled_by : (r : Bool) (l : List ℕ) → r ≡ (length l == 0) → r ≡ false → l ≡ [] → ⊥
filled_by r l e f z = let t = eq-eqb (length l) 0 (ap length z) in absurd (cc (t, e, f))

pub done_by : (r : Bool) (l : List ℕ) → r ≡ (length l == 0) → r ≡ true → l ≡ []
done_by r [] e t = refl
done_by r (x ∷ l) e t = absurd (omega (arith, eqb-true (length (x ∷ l)) 0 (sym e ∙ t)))

pub goes_on : (p : Program) (b : Limits) (start : List ℕ) (n next : ℕ) (rest more : List ℕ) (old new : Tests) → old.bounds ≡ b → Passed p old.bounds n rest more old new → next ≡ suc n →
    UpTo p b start n rest old.tests old.lines → UpTo p b start next more new.tests new.lines
goes_on p b start n next rest more old new e h g u =
    passed p b start n next rest h.line more h.kind old.tests new.tests old.lines new.lines h.cut (subst (λ x. IsLine p x h.line h.kind) e h.is)
    (λ l i. h.only l (subst (λ x. IsLine p x h.line l) (sym e) i)) h.tests h.lines g u
