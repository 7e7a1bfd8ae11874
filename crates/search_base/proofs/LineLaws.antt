-- What was written, line by line.
use Rattle.std.proofs.Common.{◌≡◌, ℕ, zero, suc, get_or, ◌+◌, ◌<◌, ◌≤◌, inl, inr, List, [], ◌∷◌, ◌++◌, length, map, drop, Option, refl, sym, ap, ◌∙◌, subst, arith, append_assoc, append-nil}
use Rattle.cc_base.specs.Paths.{In}
use Rattle.cc_model.specs.Report.{term_line, term_lines}
use Rattle.cc_model.specs.Tested.{Term}
use Rattle.cc_outside.specs.Told.{appended, WritesPart}
use Rattle.cc_outside.proofs.ToldLemmas.{appended-appended, appended-empty, WritesPart-first, WritesPart-after}
use Rattle.search_base.specs.declared.fault.SearchFault.{SearchFault}
use Rattle.search_base.specs.declared.fault.SearchFault.TheVariants as fault
use Rattle.search_base.specs.declared.terms.FoundTerm.{FoundTerm}
use Rattle.search_base.specs.Lines.{SinkCause}
use Rattle.search_base.specs.Readable.{IsNarrow}
use Rattle.search_base.specs.Terms.{seen_term}

-- ---- lines that are written one after another

-- what was written since the start is all but the rest
pub record SoFar (start now : Option (List ℕ)) (whole rest : List ℕ) : Type 0 where
  pub before : List ℕ
  pub whole_is : before ++ rest ≡ whole
  pub written : now ≡ appended start before

pub at_start : (start : Option (List ℕ)) (whole : List ℕ) → SoFar start start whole whole
at_start start whole = record { before = []; whole_is = refl; written = sym (appended-empty start) }

pub one_more : (start now new : Option (List ℕ)) (whole rest line rest' : List ℕ) → SoFar start now whole rest → rest ≡ line ++ rest' → new ≡ appended now line → SoFar start new whole rest'
one_more start now new whole rest line rest' s e w = record {
  before = s.before ++ line;
  whole_is = append_assoc s.before line rest' ∙ (ap (λ r. s.before ++ r) (sym e) ∙ s.whole_is);
  written = w ∙ (ap (λ o. appended o line) s.written ∙ appended-appended start s.before line);
}

pub all_written : (start now : Option (List ℕ)) (whole rest : List ℕ) → SoFar start now whole rest → rest ≡ [] → now ≡ appended start whole
all_written start now whole rest s e = s.written ∙ ap (λ u. appended start u) (sym (append-nil s.before) ∙ (ap (λ r. s.before ++ r) (sym e) ∙ s.whole_is))

pub part_written : (start now new : Option (List ℕ)) (whole rest line rest' : List ℕ) → SoFar start now whole rest → rest ≡ line ++ rest' → WritesPart now new line → WritesPart start new whole
part_written start now new whole rest line rest' s e w =
    subst (λ u. WritesPart start new u) (ap (λ r. s.before ++ r) (sym e) ∙ s.whole_is)
    (WritesPart-after start now new s.before (line ++ rest') s.written (WritesPart-first now new line rest' w))

-- ---- why it ended

pub sink_later : (a b c : ℕ) (e : SearchFault) → a ≤ b → SinkCause b c e → SinkCause a c e
sink_later a b c fault.Sink h (inl k) = inl (omega (arith, h, k))
sink_later a b c fault.Sink h (inr k) = inr k
sink_later a b c fault.NoMemory h k = tt

-- the lines of terms from one on
pub terms_next : (l : List FoundTerm) (i : ℕ) (d : FoundTerm) → i < length l → term_lines (map seen_term (drop i l)) ≡ term_line (seen_term (get_or l i d)) ++ term_lines (map seen_term (drop (i + 1) l))
terms_next [] i d h = absurd (omega (arith, h))
terms_next (x ∷ l) zero d h = refl
terms_next (x ∷ l) (suc i) d h = terms_next l i d (omega (arith, h)) ∙ ap (λ m. term_line (seen_term (get_or l i d)) ++ term_lines (map seen_term (drop m (x ∷ l)))) (more i)
  where
    more : (i : ℕ) → suc (i + 1) ≡ suc i + 1
    more i = omega arith

-- each term of the list is narrow, by its place
pub all_narrow : (l : List FoundTerm) (d : FoundTerm) → ((k : ℕ) → k < length l → IsNarrow (seen_term (get_or l k d))) → (e : Term) → In e (map seen_term l) → IsNarrow e
all_narrow [] d h e i = absurd i
all_narrow (x ∷ l) d h e (inl i) = subst IsNarrow (sym i) (h zero (omega arith))
all_narrow (x ∷ l) d h e (inr i) = all_narrow l d (λ k lt. h (suc k) (omega (arith, lt))) e i
