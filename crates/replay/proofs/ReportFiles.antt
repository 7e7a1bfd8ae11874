-- A report is a tests file.
use Rattle.std.proofs.Common.{◌≡◌, ◌∙◌, sym, ap, refl, subst, ℕ, suc, inl, inr, List, [], ◌∷◌, ◌++◌, append_assoc, append-nil}
use Rattle.cc_base.specs.declared.inputs.Test.{Test}
use Rattle.cc_base.specs.Limits.{Limits}
use Rattle.cc_base.specs.Paths.{In}
use Rattle.cc_model.specs.Core.{Program}
use Rattle.cc_model.specs.Listing.{Item, test_item, past_item, stray_item, spent_item, unrun_item}
use Rattle.cc_model.specs.Report.{newline, bounds_line, item_line, item_lines, term_line, term_lines}
use Rattle.cc_model.specs.Tested.{Term}
use Rattle.input_map.specs.TestTexts.{IsGood}
use Rattle.replay.specs.declared.line.Line.{Line as Kind}
use Rattle.replay.specs.declared.line.Line.TheVariants as of
use Rattle.replay.specs.Files.{AreLines, no_line, IsTestsFile, tests_in, lines_in}
use Rattle.replay.specs.ReportFiles.{IsGoodItem, kind_of, ran, IsSmallTerm, AreBounds}
use Rattle.replay.proofs.FileLaws.{one_more}
use Rattle.replay.proofs.ReportLines.{IsWhole, IsOtherLine, item_is, term_line_is, first_is}

module _ (p : Program) (b : Limits) where
  -- the text, the first line of which has number n, is whole lines with these tests
  abbrev pub HasTests : ℕ → List ℕ → List Test → Type 0
  HasTests n text ts = (ns : List ℕ) × AreLines p b n text ts ns

  pub one_line : (n : ℕ) (text rest : List ℕ) (kind : Kind) (ts : List Test) → IsWhole p b text kind → HasTests (suc n) rest ts → HasTests n (text ++ rest) (tests_in kind ++ ts)
  one_line n text rest kind ts w (ns, l) = (
    lines_in n kind ++ ns,
    one_more p b n (text ++ rest) w.line rest kind (record { is = ap (λ t. t ++ rest) w.written ∙ append_assoc w.line newline rest; first = w.one }) w.is ts ns l,
  )

  pub no_lines : (n : ℕ) → HasTests n [] []
  no_lines n = ([], no_line n)

  pub one_line_alone : (n : ℕ) (text : List ℕ) (kind : Kind) → IsWhole p b text kind → HasTests n text (tests_in kind ++ [])
  one_line_alone n text kind w = subst (λ t. HasTests n t (tests_in kind ++ [])) (append-nil text) (one_line n text [] kind [] w (no_lines (suc n)))

  -- a line without a test
  pub other_line : (n : ℕ) (text rest : List ℕ) (ts : List Test) → IsOtherLine p b text → HasTests (suc n) rest ts → HasTests n (text ++ rest) ts
  other_line n text rest ts w h = one_line n text rest of.Other ts w h

  -- the line of a test alone
  pub test_alone : (n : ℕ) (t : Test) → IsGood p b t → HasTests n (item_line (test_item t)) (t ∷ [])
  test_alone n t g = one_line_alone n (item_line (test_item t)) (of.Test t) (item_is p b (test_item t) g)

  ran_more : (x : Item) (l : List Item) (ts : List Test) → tests_in (kind_of x) ++ (ran l ++ ts) ≡ ran (x ∷ l) ++ ts
  ran_more (test_item t) l ts = refl
  ran_more (past_item t) l ts = refl
  ran_more (stray_item t q) l ts = refl
  ran_more (spent_item q) l ts = refl
  ran_more (unrun_item i q) l ts = refl

  pub items_are : (n : ℕ) (items : List Item) (rest : List ℕ) (ts : List Test) → ((x : Item) → In x items → IsGoodItem p b x) → ((m : ℕ) → HasTests m rest ts) →
      HasTests n (item_lines items ++ rest) (ran items ++ ts)
  items_are n [] rest ts g h = h n
  items_are n (x ∷ l) rest ts g h =
      let r = one_line n (item_line x) (item_lines l ++ rest) (kind_of x) (ran l ++ ts) (item_is p b x (g x (inl refl))) (items_are (suc n) l rest ts (λ y i. g y (inr i)) h) in
      subst (λ t. HasTests n t (ran (x ∷ l) ++ ts)) (sym (append_assoc (item_line x) (item_lines l) rest)) (subst (λ u. HasTests n (item_line x ++ (item_lines l ++ rest)) u) (ran_more x l ts) r)

  pub terms_are : (n : ℕ) (terms : List Term) (rest : List ℕ) (ts : List Test) → ((e : Term) → In e terms → IsSmallTerm e) → ((m : ℕ) → HasTests m rest ts) → HasTests n (term_lines terms ++ rest) ts
  terms_are n [] rest ts g h = h n
  terms_are n (e ∷ l) rest ts g h =
      let r = one_line n (term_line e) (term_lines l ++ rest) of.Other ts (term_line_is p b e (g e (inl refl))) (terms_are (suc n) l rest ts (λ y i. g y (inr i)) h) in
      subst (λ t. HasTests n t ts) (sym (append_assoc (term_line e) (term_lines l) rest)) r

  -- the first line, and whole lines
  pub file_is : (rest : List ℕ) (ts : List Test) → AreBounds b → HasTests 2 rest ts → (lines : List ℕ) × IsTestsFile p (bounds_line b ++ rest) b ts lines
  file_is rest ts h (ns, l) =
      let f = first_is b h in
      (ns, record { first = f.line; rest = rest; cut = record { is = ap (λ t. t ++ rest) f.written ∙ append_assoc f.line newline rest; first = f.one }; bounds = f.is; others = l })

  -- a report: the bounds, the lines of good items, those of small terms, and a last line that holds no input
  pub report_is : (items : List Item) (terms : List Term) (last : List ℕ) → AreBounds b → ((x : Item) → In x items → IsGoodItem p b x) → ((e : Term) → In e terms → IsSmallTerm e) → IsOtherLine p b last →
      (lines : List ℕ) × IsTestsFile p (bounds_line b ++ item_lines items ++ term_lines terms ++ last) b (ran items) lines
  report_is items terms last h g s w =
      let r = items_are 2 items (term_lines terms ++ last) [] g (λ m. terms_are m terms last [] s (λ k. one_line_alone k last of.Other w)) in
      let q = file_is (item_lines items ++ (term_lines terms ++ last)) (ran items) h (subst (λ u. HasTests 2 (item_lines items ++ (term_lines terms ++ last)) u) (append-nil (ran items)) r) in (
        q.0,
        subst (λ t. IsTestsFile p t b (ran items) q.0)
            (sym (append_assoc (bounds_line b ++ item_lines items) (term_lines terms) last ∙ append_assoc (bounds_line b) (item_lines items) (term_lines terms ++ last))) q.1,
      )
