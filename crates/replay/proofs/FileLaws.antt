-- The lines of a tests file, one after the other.
use Rattle.std.proofs.Common.{◌≡◌, ◌∙◌, sym, ap, refl, subst, ℕ, suc, List, [], ◌∷◌, ◌++◌, append_assoc}
use Rattle.cc_base.specs.declared.inputs.Test.{Test}
use Rattle.cc_base.specs.Limits.{Limits}
use Rattle.cc_model.specs.Core.{Program}
use Rattle.report_words.specs.Cuts.{Lacks, CutFirst}
use Rattle.report_words.proofs.Cutting.{first_once, no_first}
use Rattle.replay.specs.declared.line.Line.{Line as Kind}
use Rattle.replay.specs.declared.line.Line.TheVariants as of
use Rattle.replay.specs.Files.{AreLines, no_line, test_line, other_line, IsBadAt, this_line, line_behind, tests_in, lines_in, IsFaulty}
use Rattle.replay.specs.Lines.{IsLine, test, past, stray, unrun, other}

append_nil : {A : Type 0} (l : List A) → l ++ [] ≡ l
append_nil [] = refl
append_nil {A = A} (x ∷ l) = ap (λ (t : List A). x ∷ t) (append_nil l)

no_cut : (line rest : List ℕ) → CutFirst 10 [] line rest → ⊥
no_cut [] rest c = let e = c.is in absurd (cc e)
no_cut (x ∷ line) rest c = let e = c.is in absurd (cc e)

module _ (p : Program) (b : Limits) where
  -- what whole lines are, by their first
  pub record Firstly (n : ℕ) (text : List ℕ) (ts : List Test) (ns : List ℕ) : Type 0 where
    pub line : List ℕ
    pub rest : List ℕ
    pub kind : Kind
    pub cut : CutFirst 10 text line rest
    pub is : IsLine p b line kind
    pub later_tests : List Test
    pub later_lines : List ℕ
    pub later : AreLines p b (suc n) rest later_tests later_lines
    pub tests : ts ≡ tests_in kind ++ later_tests
    pub lines : ns ≡ lines_in n kind ++ later_lines

  pub firstly : (n : ℕ) (text : List ℕ) (ts : List Test) (ns : List ℕ) → (text ≡ [] → ⊥) → AreLines p b n text ts ns → Firstly n text ts ns
  firstly n _ _ _ e (no_line _) = absurd (e refl)
  firstly n text _ _ e (test_line _ _ line rest t ts ns c i l) =
      record { line = line; rest = rest; kind = of.Test t; cut = c; is = i; later_tests = ts; later_lines = ns; later = l; tests = refl; lines = refl }
  firstly n text ts ns e (other_line _ _ line rest _ _ c i l) =
      record { line = line; rest = rest; kind = of.Other; cut = c; is = i; later_tests = ts; later_lines = ns; later = l; tests = refl; lines = refl }

  no_bad : (line : List ℕ) (k : Kind) → k ≡ of.Bad → IsLine p b line k → ⊥
  no_bad line _ e (test t w g) = cc e
  no_bad line _ e (past t w g) = cc e
  no_bad line _ e (stray t q w g h) = cc e
  no_bad line _ e (unrun i q w g h) = cc e
  no_bad line _ e (other w) = cc e

  pub one_more : (n : ℕ) (text line rest : List ℕ) (kind : Kind) → CutFirst 10 text line rest → IsLine p b line kind → (ts : List Test) (ns : List ℕ) →
      AreLines p b (suc n) rest ts ns → AreLines p b n text (tests_in kind ++ ts) (lines_in n kind ++ ns)
  one_more n text line rest (of.Test t) c i ts ns l = test_line n text line rest t ts ns c i l
  one_more n text line rest of.Other c i ts ns l = other_line n text line rest ts ns c i l
  one_more n text line rest of.Bad c i ts ns l = absurd (no_bad line of.Bad refl i)

  -- the lines before the rest are passed, with these tests
  pub record UpTo (start : List ℕ) (n : ℕ) (rest : List ℕ) (tests : List Test) (lines : List ℕ) : Type 0 where
    pub whole : (ts : List Test) (ns : List ℕ) → AreLines p b n rest ts ns → AreLines p b 2 start (tests ++ ts) (lines ++ ns)
    pub back : (ts : List Test) (ns : List ℕ) → AreLines p b 2 start ts ns → (us : List Test) × (ms : List ℕ) × AreLines p b n rest us ms × (ts ≡ tests ++ us) × (ns ≡ lines ++ ms)
    pub bad : (m : ℕ) → IsBadAt p b n rest m → IsBadAt p b 2 start m
    pub bad_back : (m : ℕ) → IsBadAt p b 2 start m → IsBadAt p b n rest m

  pub begun : (start : List ℕ) → UpTo start 2 start [] []
  begun start = record { whole = λ ts ns h. h; back = λ ts ns h. (ts, ns, h, refl, refl); bad = λ m h. h; bad_back = λ m h. h }

  -- a text that begins with a line isn't empty
  pub not_empty : (text line rest : List ℕ) → CutFirst 10 text line rest → text ≡ [] → ⊥
  not_empty text line rest c e = no_cut line rest (subst (λ t. CutFirst 10 t line rest) e c)

  bad_later : (n m : ℕ) (text line rest : List ℕ) (kind : Kind) → CutFirst 10 text line rest → IsLine p b line kind → IsBadAt p b n text m → IsBadAt p b (suc n) rest m
  bad_later n _ text line rest kind c i (this_line _ _ e faulty) = absurd (faulty line rest kind c i)
  bad_later n m text line rest kind c i (line_behind _ _ _ that_line that_rest l d j h) =
      let r = first_once 10 text line rest that_line that_rest c d in
      subst (λ t. IsBadAt p b (suc n) t m) (sym r.1) h

  back_one : (n : ℕ) (text line rest : List ℕ) (kind : Kind) → CutFirst 10 text line rest → ((l : Kind) → IsLine p b line l → kind ≡ l) → (us : List Test) (ms : List ℕ) →
      AreLines p b n text us ms → (vs : List Test) × (ks : List ℕ) × AreLines p b (suc n) rest vs ks × (us ≡ tests_in kind ++ vs) × (ms ≡ lines_in n kind ++ ks)
  back_one n text line rest kind c only us ms h =
      let f = firstly n text us ms (not_empty text line rest c) h in
      let r = first_once 10 text f.line f.rest line rest f.cut c in
      let k : kind ≡ f.kind = only f.kind (subst (λ t. IsLine p b t f.kind) r.0 f.is) in (
        f.later_tests,
        f.later_lines,
        subst (λ t. AreLines p b (suc n) t f.later_tests f.later_lines) r.1 f.later,
        f.tests ∙ ap (λ x. tests_in x ++ f.later_tests) (sym k),
        f.lines ∙ ap (λ x. lines_in n x ++ f.later_lines) (sym k),
      )

  pub passed : (start : List ℕ) (n next : ℕ) (text line rest : List ℕ) (kind : Kind) (old new : List Test) (old_lines new_lines : List ℕ) →
      CutFirst 10 text line rest → IsLine p b line kind → ((l : Kind) → IsLine p b line l → kind ≡ l) → new ≡ old ++ tests_in kind → new_lines ≡ old_lines ++ lines_in n kind →
      next ≡ suc n → UpTo start n text old old_lines → UpTo start next rest new new_lines
  passed start n next text line rest kind old new old_lines new_lines c i only e f g u = record {
    whole = λ ts ns h.
        let l = u.whole (tests_in kind ++ ts) (lines_in n kind ++ ns) (one_more n text line rest kind c i ts ns (subst (λ x. AreLines p b x rest ts ns) g h)) in
        let a : new ++ ts ≡ old ++ (tests_in kind ++ ts) = ap (λ x. x ++ ts) e ∙ append_assoc old (tests_in kind) ts in
        let d : new_lines ++ ns ≡ old_lines ++ (lines_in n kind ++ ns) = ap (λ x. x ++ ns) f ∙ append_assoc old_lines (lines_in n kind) ns in
        subst (λ x. AreLines p b 2 start x (new_lines ++ ns)) (sym a) (subst (λ y. AreLines p b 2 start (old ++ (tests_in kind ++ ts)) y) (sym d) l);
    back = λ ts ns h.
        let w = u.back ts ns h in
        let o = back_one n text line rest kind c only w.0 w.1 w.2 in (
          o.0,
          o.1,
          subst (λ x. AreLines p b x rest o.0 o.1) (sym g) o.2,
          w.3 ∙ ap (λ x. old ++ x) o.3 ∙ sym (append_assoc old (tests_in kind) o.0) ∙ ap (λ x. x ++ o.0) (sym e),
          w.4 ∙ ap (λ x. old_lines ++ x) o.4 ∙ sym (append_assoc old_lines (lines_in n kind) o.1) ∙ ap (λ x. x ++ o.1) (sym f),
        );
    bad = λ m h. u.bad m (line_behind n m text line rest kind c i (subst (λ x. IsBadAt p b x rest m) g h));
    bad_back = λ m h. subst (λ x. IsBadAt p b x rest m) (sym g) (bad_later n m text line rest kind c i (u.bad_back m h));
  }

  -- at the end
  no_lines : (n : ℕ) (text : List ℕ) (us : List Test) (ms : List ℕ) → text ≡ [] → AreLines p b n text us ms → (us ≡ []) × (ms ≡ [])
  no_lines n _ _ _ e (no_line _) = (refl, refl)
  no_lines n text _ _ e (test_line _ _ line rest t ts ns c i l) = absurd (not_empty text line rest c e)
  no_lines n text ts ns e (other_line _ _ line rest _ _ c i l) = absurd (not_empty text line rest c e)

  no_bad_line : (n m : ℕ) (text : List ℕ) → text ≡ [] → IsBadAt p b n text m → ⊥
  no_bad_line n _ text e (this_line _ _ filled k) = filled e
  no_bad_line n m text e (line_behind _ _ _ line rest l c i h) = not_empty text line rest c e

  pub ends : (start rest : List ℕ) (n : ℕ) (tests : List Test) (lines : List ℕ) → rest ≡ [] → UpTo start n rest tests lines → AreLines p b 2 start tests lines
  ends start rest n tests lines e u =
      let l = u.whole [] [] (subst (λ t. AreLines p b n t [] []) (sym e) (no_line n)) in
      subst (λ x. AreLines p b 2 start x lines) (append_nil tests) (subst (λ y. AreLines p b 2 start (tests ++ []) y) (append_nil lines) l)

  pub ends_only : (start rest : List ℕ) (n : ℕ) (tests ts : List Test) (lines ns : List ℕ) → rest ≡ [] → UpTo start n rest tests lines → AreLines p b 2 start ts ns → (tests ≡ ts) × (lines ≡ ns)
  ends_only start rest n tests ts lines ns e u h =
      let w = u.back ts ns h in
      let k = no_lines n rest w.0 w.1 e w.2 in
      (sym (w.3 ∙ ap (λ x. tests ++ x) k.0 ∙ append_nil tests), sym (w.4 ∙ ap (λ x. lines ++ x) k.1 ∙ append_nil lines))

  pub ends_well : (start rest : List ℕ) (n m : ℕ) (tests : List Test) (lines : List ℕ) → rest ≡ [] → UpTo start n rest tests lines → IsBadAt p b 2 start m → ⊥
  ends_well start rest n m tests lines e u h = no_bad_line n m rest e (u.bad_back m h)

  -- where a line has a fault
  pub stops : (start rest : List ℕ) (n : ℕ) (tests : List Test) (lines : List ℕ) → (rest ≡ [] → ⊥) → IsFaulty p b rest → UpTo start n rest tests lines → IsBadAt p b 2 start n
  stops start rest n tests lines e faulty u = u.bad n (this_line n rest e faulty)

  pub stops_whole : (start rest : List ℕ) (n : ℕ) (tests ts : List Test) (lines ns : List ℕ) → (rest ≡ [] → ⊥) → IsFaulty p b rest → UpTo start n rest tests lines → AreLines p b 2 start ts ns → ⊥
  stops_whole start rest n tests ts lines ns e faulty u h =
      let w = u.back ts ns h in
      let f = firstly n rest w.0 w.1 e w.2 in
      faulty f.line f.rest f.kind f.cut f.is

  same_line : (n m : ℕ) (rest : List ℕ) → IsFaulty p b rest → IsBadAt p b n rest m → n ≡ m
  same_line n _ rest faulty (this_line _ _ e k) = refl
  same_line n m rest faulty (line_behind _ _ _ line more l c i h) = absurd (faulty line more l c i)

  pub stops_there : (start rest : List ℕ) (n m : ℕ) (tests : List Test) (lines : List ℕ) → IsFaulty p b rest → UpTo start n rest tests lines → IsBadAt p b 2 start m → n ≡ m
  stops_there start rest n m tests lines faulty u h = same_line n m rest faulty (u.bad_back m h)

  -- a line that is none
  pub faulty_cut : (rest : List ℕ) → Lacks 10 rest → IsFaulty p b rest
  faulty_cut rest l = λ line more k c i. no_first 10 rest line more l c

  pub faulty_bad : (rest line behind : List ℕ) (kind : Kind) → CutFirst 10 rest line behind → kind ≡ of.Bad → ((l : Kind) → IsLine p b line l → kind ≡ l) → IsFaulty p b rest
  faulty_bad rest line behind kind c e only = λ that more l d i.
      let r = first_once 10 rest line behind that more c d in
      no_bad that l (sym (only l (subst (λ t. IsLine p b t l) (sym r.0) i)) ∙ e) i
