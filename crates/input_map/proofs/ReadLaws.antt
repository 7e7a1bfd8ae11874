-- A test and its text.
use Rattle.std.proofs.Common.{◌≡◌, ◌∙◌, sym, ap, subst, ℕ, inl, inr, List, ◌++◌, codes, Result, Ok, Err}
use Rattle.cc_base.specs.declared.ends.End.{End}
use Rattle.cc_base.specs.declared.inputs.Input.{Input}
use Rattle.cc_base.specs.declared.inputs.Test.{Test}
use Rattle.cc_base.specs.Ends.{end_text}
use Rattle.cc_base.specs.Inputs.{map_text}
use Rattle.cc_base.specs.Limits.{Limits}
use Rattle.cc_base.specs.Paths.{Path, path_text}
use Rattle.cc_model.specs.Core.{Program}
use Rattle.cc_model.specs.Runs.{IsInput}
use Rattle.input_map.specs.declared.faults.MapFault.{MapFault}
use Rattle.input_map.specs.declared.faults.MapFault.TheVariants as map_fault
use Rattle.input_map.specs.CellFaults.{Refused, Answers}
use Rattle.input_map.specs.CellFaults as maps
use Rattle.input_map.specs.Maps.{IsMap}
use Rattle.input_map.specs.declared.faults.TestFault.{TestFault}
use Rattle.input_map.specs.declared.faults.TestFault.TheVariants as fault
use Rattle.input_map.specs.TestTexts.{ThreeWords, IsTestText, TestRefused, WordsRefused, FaultOf, IsOrNoMemory}
use Rattle.input_map.proofs.MapLacks.{lacks_map}

pub words_of : (p : Program) (b : Limits) (text : List ℕ) (t : Test) → IsTestText p b text t → ThreeWords text t.path t.end (map_text t.input)
words_of p b text t h = record {
  text_is = h.written;
  bytes = (h.good).bytes;
  line = (h.good).line;
  one = lacks_map t.input ((h.good).input).cells ((h.good).input).stream;
}

pub map_of : (p : Program) (b : Limits) (text : List ℕ) (t : Test) (m : List ℕ) → IsTestText p b text t → m ≡ map_text t.input → IsMap m t.input
map_of p b text t m h e = record { written = e; cells = ((h.good).input).cells; stream = ((h.good).input).stream }

-- the words and the input of the third give the test
pub test_of : (p : Program) (b : Limits) (text : List ℕ) (path : Path) (e : End) (m : List ℕ) (i : Input) → ThreeWords text path e m → IsMap m i → IsInput p b i →
    IsTestText p b text (record { path = path; end = e; input = i })
test_of p b text path e m i w h k = record {
  written = w.text_is ∙ ap (λ t. path_text path ++ codes " " ++ end_text e ++ codes " " ++ t) h.written;
  good = record { bytes = w.bytes; line = w.line; input = record { cells = h.cells; stream = h.stream; within = k } };
}

-- a refusal of the words leaves want of memory alone for the text of a test
pub words_only : (p : Program) (b : Limits) (text : List ℕ) (f : TestFault) (t : Test) → WordsRefused text f → IsTestText p b text t → IsOrNoMemory (Err f) (Ok t)
words_only p b text f t (inl e) h = inr (ap Err e)
words_only p b text f t (inr (e, none)) h = absurd (none t.path t.end (map_text t.input) (words_of p b text t h))

pub words_refused : (p : Program) (b : Limits) (text : List ℕ) (f : TestFault) → WordsRefused text f → TestRefused p b text f
words_refused p b text f (inl e) = subst (λ g. TestRefused p b text g) (sym e) tt
words_refused p b text f (inr (e, none)) = subst (λ g. TestRefused p b text g) (sym e) none

-- a refusal of the map text
pub map_refused : (p : Program) (b : Limits) (text : List ℕ) (path : Path) (e : End) (m : List ℕ) (g : MapFault) (f : TestFault) → ThreeWords text path e m →
    Answers p b m (Err g) → FaultOf g f → TestRefused p b text f
map_refused p b text path e m g f w a (inl (n, k)) = subst (λ x. TestRefused p b text x) (sym k) tt
map_refused p b text path e m g f w (inl n) (inr (k, other)) = absurd (other n)
map_refused p b text path e m g f w (inr r) (inr (k, other)) = subst (λ x. TestRefused p b text x) (sym k) (path, e, m, w, r, other)

map_only' : (g : MapFault) (f : TestFault) (t : Test) → (g ≡ map_fault.NoMemory) → FaultOf g f → IsOrNoMemory (Err f) (Ok t)
map_only' g f t n (inl (m, k)) = inr (ap Err k)
map_only' g f t n (inr (k, other)) = absurd (other n)

pub map_only : (p : Program) (b : Limits) (text : List ℕ) (path : Path) (e : End) (m : List ℕ) (g : MapFault) (f : TestFault) (t : Test) →
    ((i : Input) → IsMap m i → IsInput p b i → maps.IsOrNoMemory (Err g) (Ok i)) → FaultOf g f → IsTestText p b text t → m ≡ map_text t.input → IsOrNoMemory (Err f) (Ok t)
map_only p b text path e m g f t read k h same = by (read t.input (map_of p b text t m h same) ((h.good).input).within)
  where
    by : maps.IsOrNoMemory (Err g) (Ok t.input) → IsOrNoMemory (Err f) (Ok t)
    by (inl x) = absurd (cc x)
    by (inr x) = map_only' g f t (cc x) k

abbrev make : Path → End → Input → Test
make path e i = record { path = path; end = e; input = i }

same_test : (path : Path) (e : End) (i : Input) (t : Test) → path ≡ t.path → e ≡ t.end → i ≡ t.input → make path e i ≡ t
same_test path e i t f g k = ap (λ (x : Path). make x e i) f ∙ ap (λ (x : End). make t.path x i) g ∙ ap (λ (x : Input). make t.path t.end x) k

pub read_only : (p : Program) (b : Limits) (text : List ℕ) (path : Path) (e : End) (m : List ℕ) (i : Input) (t : Test) →
    ((h : Input) → IsMap m h → IsInput p b h → maps.IsOrNoMemory (Ok i) (Ok h)) → (path ≡ t.path) × (e ≡ t.end) × (m ≡ map_text t.input) → IsTestText p b text t →
    IsOrNoMemory (Ok (record { path = path; end = e; input = i })) (Ok t)
read_only p b text path e m i t read same h = by (read t.input (map_of p b text t m h same.2) ((h.good).input).within)
  where
    by : maps.IsOrNoMemory (Ok i) (Ok t.input) → IsOrNoMemory (Ok (record { path = path; end = e; input = i })) (Ok t)
    by (inl x) = let k : i ≡ t.input = cc x in inl (ap Ok (same_test path e i t same.0 same.1 k))
    by (inr x) = absurd (cc x)

-- ---- and refusals

pub form_only : (text : List ℕ) (f : TestFault) → WordsRefused text f → IsOrNoMemory (Err f) (Err fault.Form)
form_only text f (inl e) = inr (ap Err e)
form_only text f (inr (e, none)) = inl (ap Err e)

pub words_or_memory : (text : List ℕ) (f : TestFault) (path : Path) (e : End) (m : List ℕ) (r : Result Test TestFault) → WordsRefused text f → ThreeWords text path e m → IsOrNoMemory (Err f) r
words_or_memory text f path e m r (inl k) w = inr (ap Err k)
words_or_memory text f path e m r (inr (k, none)) w = absurd (none path e m w)

pub no_fault : (i : Input) (g : MapFault) → maps.IsOrNoMemory (Ok i) (Err g) → ⊥
no_fault i g (inl x) = cc x
no_fault i g (inr x) = cc x

pub same_fault : (g h : MapFault) (f : TestFault) → maps.IsOrNoMemory (Err g) (Err h) → FaultOf g f → IsOrNoMemory (Err f) (Err (fault.Map h))
same_fault g h f (inl x) (inl (n, k)) = inr (ap Err k)
same_fault g h f (inl x) (inr (k, other)) = let e : g ≡ h = cc x in inl (ap Err (k ∙ ap fault.Map e))
same_fault g h f (inr x) (inl (n, k)) = inr (ap Err k)
same_fault g h f (inr x) (inr (k, other)) = absurd (other (cc x))
