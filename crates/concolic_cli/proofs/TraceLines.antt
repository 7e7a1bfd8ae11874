-- The lines of a trace as they are written.
use Rattle.std.proofs.Common.{◌≡◌, ℕ, ◌+◌, suc, ◌<◌, List, [], ◌∷◌, ◌++◌, map, drop, length, get_or, Option, refl, sym, ap, ap₂, subst, ◌∙◌, append_assoc, append-nil, unwrap_or, add-one, zero, arith, All}
use Rattle.std.proofs.lemmas.List.{at_drop_more}
use Rattle.cc_base.specs.declared.ends.End.{End}
use Rattle.cc_base.specs.declared.inputs.Input.{Input}
use Rattle.cc_base.specs.declared.inputs.Test.{Test}
use Rattle.cc_base.specs.declared.outcomes.Outcome.{Outcome}
use Rattle.cc_base.specs.Limits.{Limits}
use Rattle.cc_base.specs.Outcomes.{HasByte}
use Rattle.cc_base.specs.Paths.{Path}
use Rattle.cc_model.specs.declared.checked.Checked.{Checked}
use Rattle.cc_model.specs.declared.checked.SiteKind.{SiteKind}
use Rattle.cc_model.specs.CheckedProgram.{core_of}
use Rattle.cc_model.specs.Listing.{test_item}
use Rattle.cc_model.specs.Meaning.{Entry}
use Rattle.cc_model.specs.Plain.{plain}
use Rattle.cc_model.specs.Report.{bounds_line, item_line}
use Rattle.cc_model.specs.Runs.{run_of, path_of, path_at, end_at}
use Rattle.cc_outside.specs.Told.{appended, WritesPart}
use Rattle.cc_outside.proofs.ToldLemmas.{appended-appended, appended-empty, WritesPart-first, WritesPart-after}
use Rattle.concolic_cli.specs.Listings.{test_at}
use Rattle.concolic_cli.specs.TraceText.{event_text, event_lines, trace_text, no_site, site_at, recorded_line, recorded_lines}
use Rattle.sym_run.specs.declared.trace.Event.{Event}
use Rattle.sym_run.specs.declared.trace.Trace.{Trace}
use Rattle.sym_run.specs.Stands.{IsSite}
use Rattle.sym_run.specs.Traces.{ArePlain, outcome_at}

-- ---- lines that are written one after another

-- what was written since the start is all but the rest
pub record SoFar (start now : Option (List ℕ)) (whole rest : List ℕ) : Type 0 where
  pub before : List ℕ
  pub whole_is : before ++ rest ≡ whole
  pub written : now ≡ appended start before

pub at_start : (start : Option (List ℕ)) (whole : List ℕ) → SoFar start start whole whole
at_start start whole = record { before = []; whole_is = refl; written = sym (appended-empty start) }

pub one_more : (start now new : Option (List ℕ)) (whole rest line rest' : List ℕ) → SoFar start now whole rest → rest ≡ line ++ rest' → new ≡ appended now line → SoFar start new whole rest'
one_more start now new whole rest line rest' s e w = record {
  before = s.before ++ line;
  whole_is = append_assoc s.before line rest' ∙ (ap (λ r. s.before ++ r) (sym e) ∙ s.whole_is);
  written = w ∙ (ap (λ o. appended o line) s.written ∙ appended-appended start s.before line);
}

pub all_written : (start now : Option (List ℕ)) (whole rest : List ℕ) → SoFar start now whole rest → rest ≡ [] → now ≡ appended start whole
all_written start now whole rest s e = s.written ∙ ap (λ u. appended start u) (sym (append-nil s.before) ∙ (ap (λ r. s.before ++ r) (sym e) ∙ s.whole_is))

pub part_written : (start now new : Option (List ℕ)) (whole rest line rest' : List ℕ) → SoFar start now whole rest → rest ≡ line ++ rest' → WritesPart now new line → WritesPart start new whole
part_written start now new whole rest line rest' s e w =
    subst (λ u. WritesPart start new u) (ap (λ r. s.before ++ r) (sym e) ∙ s.whole_is)
    (WritesPart-after start now new s.before (line ++ rest') s.written (WritesPart-first now new line rest' w))

-- ---- three pieces

pub first_of : (old new : Option (List ℕ)) (whole a rest : List ℕ) → a ++ rest ≡ whole → WritesPart old new a → WritesPart old new whole
first_of old new whole a rest e w = subst (λ u. WritesPart old new u) e (WritesPart-first old new a rest w)

pub second_of : (old middle new : Option (List ℕ)) (whole a b c : List ℕ) → a ++ (b ++ c) ≡ whole → middle ≡ appended old a → WritesPart middle new b → WritesPart old new whole
second_of old middle new whole a b c e f w = subst (λ u. WritesPart old new u) e (WritesPart-after old middle new a (b ++ c) f (WritesPart-first middle new b c w))

pub third_of : (old middle then new : Option (List ℕ)) (whole a b c : List ℕ) → a ++ (b ++ c) ≡ whole → middle ≡ appended old a → then ≡ appended middle b → WritesPart then new c → WritesPart old new whole
third_of old middle then new whole a b c e f g w = subst (λ u. WritesPart old new u) e (WritesPart-after old middle new a (b ++ c) f (WritesPart-after middle then new b c g w))

pub all_of : (old middle then new : Option (List ℕ)) (whole a b c : List ℕ) → a ++ (b ++ c) ≡ whole → middle ≡ appended old a → then ≡ appended middle b → new ≡ appended then c → new ≡ appended old whole
all_of old middle then new whole a b c e f g h =
    h ∙ (ap (λ o. appended o c) (g ∙ ap (λ o. appended o b) f) ∙ (ap (λ o. appended o c) (appended-appended old a b) ∙ (appended-appended old (a ++ b) c ∙ ap (λ u. appended old u) (append_assoc a b c ∙ e))))

-- ---- recorded events

pub next_line : (c : Checked) (es : List Event) (i : ℕ) (d : Event) → i < length es → recorded_lines c (i + 1) (drop i es) ≡ recorded_line c (i + 1) (get_or es i d) ++ recorded_lines c ((i + 1) + 1) (drop (i + 1) es)
next_line c es i d lt =
    at_drop_more (λ l. recorded_lines c (i + 1) l) es i d lt ∙ ap (λ n. recorded_line c (i + 1) (get_or es i d) ++ recorded_lines c n (drop (i + 1) es)) (sym (add-one (i + 1)))

text_same : (i : ℕ) (o o' : Outcome) (n n' : ℕ) (k k' : SiteKind) → o ≡ o' → n ≡ n' → k ≡ k' → event_text i o n k ≡ event_text i o' n' k'
text_same i o o' n n' k k' e f g = ap (λ u. event_text i u n k) e ∙ (ap (λ u. event_text i o' u k) f ∙ ap (λ u. event_text i o' n' u) g)

line_same : (c : Checked) (i : ℕ) (a : Entry Outcome) (e : Event) → IsSite c e.site a.kind a.token → outcome_at e ≡ a.event → event_text i a.event ((core_of c).line a.token) a.kind ≡ recorded_line c i e
line_same c i a e s o =
    let there : site_at c (e.site).0 ≡ s.site = ap (λ u. unwrap_or u no_site) s.listed in
    text_same i a.event (outcome_at e) ((core_of c).line a.token) ((core_of c).line (site_at c (e.site).0).token) a.kind (site_at c (e.site).0).kind
    (sym o) (ap (core_of c).line (sym s.token ∙ ap (λ u. u.token) (sym there))) (sym s.kind ∙ ap (λ u. u.kind) (sym there))

lines_same : (c : Checked) (i : ℕ) (l : List (Entry Outcome)) (es : List Event) → ArePlain c l es → event_lines (core_of c).line i l ≡ recorded_lines c i es
lines_same c i [] [] h = refl
lines_same c i [] (e ∷ es) h = absurd h
lines_same c i (a ∷ l) [] h = absurd h
lines_same c i (a ∷ l) (e ∷ es) h = ap₂ (λ u v. u ++ v) (line_same c i a e h.0 h.1) (lines_same c (suc i) l es h.2)

pub path_same : (c : Checked) (l : List (Entry Outcome)) (es : List Event) → ArePlain c l es → map outcome_at es ≡ path_of plain l
path_same c [] [] h = refl
path_same c [] (e ∷ es) h = absurd h
path_same c (a ∷ l) [] h = absurd h
path_same c (a ∷ l) (e ∷ es) h = ap₂ (λ u v. u ∷ v) h.1 (path_same c l es h.2)

test_same : (p p' : Path) (e e' : End) (h : Input) → p ≡ p' → e ≡ e' → (let t : Test = record { path = p; end = e; input = h } in t) ≡ (let t : Test = record { path = p'; end = e'; input = h } in t)
test_same p p' e e' h f g = cc (f, g)

pub text_is : (c : Checked) (b : Limits) (t : Trace) (first last : List ℕ) → ArePlain c (run_of (core_of c) b t.input).log t.events → t.end ≡ end_at (core_of c) b t.input
    → first ≡ bounds_line b → last ≡ item_line (test_item (record { path = map outcome_at t.events; end = t.end; input = t.input })) → first ++ (recorded_lines c 1 t.events ++ last) ≡ trace_text (core_of c) b t.input
unfolding path_at
text_is c b t first last plain_events e f l =
    let path : map outcome_at t.events ≡ path_at (core_of c) b t.input = path_same c (run_of (core_of c) b t.input).log t.events plain_events in
    let test : last ≡ item_line (test_item (test_at (core_of c) b t.input)) = l ∙ ap (λ u. item_line (test_item u)) (test_same _ _ _ _ t.input path e) in
    let lines = sym (lines_same c 1 (run_of (core_of c) b t.input).log t.events plain_events) in
    ap (λ u. u ++ (recorded_lines c 1 t.events ++ last)) f ∙ ap (λ u. bounds_line b ++ u) (ap₂ (λ u v. u ++ v) lines test)

pub byte_at : (es : List Event) (i : ℕ) (d : Event) → All HasByte (map outcome_at es) → i < length es → HasByte (outcome_at (get_or es i d))
byte_at [] i d h lt = absurd (omega (arith, lt))
byte_at (e ∷ es) zero d h lt = h 0 (outcome_at d) (omega arith)
byte_at (e ∷ es) (suc i) d h lt = byte_at es i d (λ k x l. h (suc k) x (omega (arith, l))) (omega (arith, lt))

-- the same, where the element was read
pub next_read : (c : Checked) (es : List Event) (i : ℕ) (x : Event) → i < length es → x ≡ get_or es i x → recorded_lines c (i + 1) (drop i es) ≡ recorded_line c (i + 1) x ++ recorded_lines c ((i + 1) + 1) (drop (i + 1) es)
next_read c es i x lt e = next_line c es i x lt ∙ ap (λ u. recorded_line c (i + 1) u ++ recorded_lines c ((i + 1) + 1) (drop (i + 1) es)) (sym e)

pub byte_read : (es : List Event) (i : ℕ) (x : Event) → All HasByte (map outcome_at es) → i < length es → x ≡ get_or es i x → HasByte (outcome_at x)
byte_read es i x h lt e = subst (λ u. HasByte (outcome_at u)) (sym e) (byte_at es i x h lt)

pub text_with : (c : Checked) (b : Limits) (t : Trace) (es : List Event) (first last : List ℕ) → es ≡ t.events → ArePlain c (run_of (core_of c) b t.input).log t.events → t.end ≡ end_at (core_of c) b t.input
    → first ≡ bounds_line b → last ≡ item_line (test_item (record { path = map outcome_at t.events; end = t.end; input = t.input })) → first ++ (recorded_lines c 1 es ++ last) ≡ trace_text (core_of c) b t.input
text_with c b t es first last e events end f l = ap (λ u. first ++ (recorded_lines c 1 u ++ last)) e ∙ text_is c b t first last events end f l
