-- What items write and count where one more is listed.
use Rattle.std.proofs.Common.{◌≡◌, ℕ, ◌+◌, ◌*◌, ◌<◌, ◌⊎◌, ◌||◌, Bool, true, false, inl, inr, List, [], ◌∷◌, ◌++◌, length, Option, append-nil, append_assoc, refl, sym, ap, ◌∙◌, subst, arith}
use Rattle.std.proofs.lemmas.Option.{slice_get_within}
use Rattle.cc_base.specs.declared.inputs.Input.{Input}
use Rattle.cc_base.specs.declared.inputs.Test.{Test}
use Rattle.cc_base.specs.Paths.{Path, In}
use Rattle.cc_model.specs.Listing.{Item, test_item, past_item, stray_item, spent_item, unrun_item, WasRun, count_by, is_run}
use Rattle.cc_model.specs.Report.{item_line, item_lines, is_fault, has_fault}
use Rattle.cc_model.specs.Tested.{Real}
use Rattle.cc_outside.specs.Told.{appended, WritesPart}
use Rattle.cc_outside.proofs.ToldLemmas.{appended-appended, WritesPart-none, WritesPart-after}
use Rattle.search_walks.specs.Counted.{Took}
use Rattle.search_walks.specs.Distance.{entry}
use Rattle.search_base.specs.Readable.{CanBeRead}
use Rattle.search_base.specs.Setting.{within_of, Setting, layer_of}
use Rattle.search_walks.specs.Walks.{IsItemOf, kept, left, test_of}
use Rattle.search_base.proofs.PathLaws.{in_left, in_right, in_either}

-- ---- what is written

pub lines_one : (l : List Item) (x : Item) → item_lines (l ++ x ∷ []) ≡ item_lines l ++ item_line x
lines_one [] x = append-nil (item_line x)
lines_one (y ∷ l) x = ap (λ m. item_line y ++ m) (lines_one l x) ∙ sym (append_assoc (item_line y) (item_lines l) (item_line x))

pub lines_more : (old mid new : Option (List ℕ)) (l : List Item) (x : Item) → mid ≡ appended old (item_lines l) → new ≡ appended mid (item_line x) → new ≡ appended old (item_lines (l ++ x ∷ []))
lines_more old mid new l x e f = f ∙ ap (λ o. appended o (item_line x)) e ∙ appended-appended old (item_lines l) (item_line x) ∙ ap (appended old) (sym (lines_one l x))

pub part_more : (old mid new : Option (List ℕ)) (l : List Item) (x : Item) → mid ≡ appended old (item_lines l) → WritesPart mid new (item_line x) → WritesPart old new (item_lines (l ++ x ∷ []))
part_more old mid new l x e w = subst (WritesPart old new) (sym (lines_one l x)) (WritesPart-after old mid new (item_lines l) (item_line x) e w)

pub whole_part : (old new : Option (List ℕ)) (piece : List ℕ) → new ≡ appended old piece → WritesPart old new piece
whole_part old new piece e = subst (WritesPart old new) (append-nil piece) (WritesPart-after old new new piece [] e (WritesPart-none new new [] refl))

-- ---- what is counted

pub count_append : (g : Item → ℕ) (e f : List Item) → count_by g (e ++ f) ≡ count_by g e + count_by g f
count_append g [] f = omega arith
count_append g (x ∷ e) f = let r = count_append g e f in omega (arith, r)

or_assoc : (a b c : Bool) → (a || b) || c ≡ a || (b || c)
or_assoc true b c = refl
or_assoc false b c = refl

pub or_false : (a : Bool) → a ≡ a || false
or_false true = refl
or_false false = refl

pub fault_append : (e f : List Item) → has_fault (e ++ f) ≡ has_fault e || has_fault f
fault_append [] f = refl
fault_append (test_item t ∷ e) f = ap (λ b. is_fault t.end || b) (fault_append e f) ∙ sym (or_assoc (is_fault t.end) (has_fault e) (has_fault f))
fault_append (past_item t ∷ e) f = fault_append e f
fault_append (stray_item t p ∷ e) f = ap (λ b. is_fault t.end || b) (fault_append e f) ∙ sym (or_assoc (is_fault t.end) (has_fault e) (has_fault f))
fault_append (spent_item p ∷ e) f = fault_append e f
fault_append (unrun_item i p ∷ e) f = fault_append e f

-- ---- what was run

pub ran_left : (t : Test) (e f : List Item) → WasRun t e → WasRun t (e ++ f)
ran_left t e f (inl (inl i)) = inl (inl (in_left _ e f i))
ran_left t e f (inl (inr i)) = inl (inr (in_left _ e f i))
ran_left t e f (inr (q, i)) = inr (q, in_left _ e f i)

pub ran_right : (t : Test) (e f : List Item) → WasRun t f → WasRun t (e ++ f)
ran_right t e f (inl (inl i)) = inl (inl (in_right _ e f i))
ran_right t e f (inl (inr i)) = inl (inr (in_right _ e f i))
ran_right t e f (inr (q, i)) = inr (q, in_right _ e f i)

pub ran_either : (t : Test) (e f : List Item) → WasRun t (e ++ f) → WasRun t e ⊎ WasRun t f
ran_either t e f (inl (inl i)) = elim (in_either _ e f i) [ inl j ↦ inl (inl (inl j)) | inr j ↦ inr (inl (inl j)) ]
ran_either t e f (inl (inr i)) = elim (in_either _ e f i) [ inl j ↦ inl (inl (inr j)) | inr j ↦ inr (inl (inr j)) ]
ran_either t e f (inr (q, i)) = elim (in_either _ e f i) [ inl j ↦ inl (inr (q, j)) | inr j ↦ inr (inr (q, j)) ]

pub no_run : (t : Test) → WasRun t [] → ⊥
no_run t (inl (inl i)) = i
no_run t (inl (inr i)) = i
no_run t (inr (q, i)) = i

pub spent_no_run : (t : Test) (p : Path) → WasRun t (spent_item p ∷ []) → ⊥
spent_no_run t p (inl (inl (inl e))) = absurd (cc e)
spent_no_run t p (inl (inl (inr i))) = i
spent_no_run t p (inl (inr (inl e))) = absurd (cc e)
spent_no_run t p (inl (inr (inr i))) = i
spent_no_run t p (inr (q, inl e)) = absurd (cc e)
spent_no_run t p (inr (q, inr i)) = i

-- the item of the run of one test
pub record IsOfRun (x : Item) (t : Test) : Type 0 where
  pub one : is_run x ≡ 1
  pub fault : has_fault (x ∷ []) ≡ is_fault t.end
  pub only : (u : Test) → WasRun u (x ∷ []) → u ≡ t
  pub ran : WasRun t (x ∷ [])

pub test_run : (t : Test) → IsOfRun (test_item t) t
test_run t = record { one = refl; fault = sym (or_false (is_fault t.end)); only = only_one; ran = inl (inl (inl refl)) }
  where
    only_one : (u : Test) → WasRun u (test_item t ∷ []) → u ≡ t
    only_one u (inl (inl (inl e))) = cc e
    only_one u (inl (inl (inr i))) = absurd i
    only_one u (inl (inr (inl e))) = absurd (cc e)
    only_one u (inl (inr (inr i))) = absurd i
    only_one u (inr (q, inl e)) = absurd (cc e)
    only_one u (inr (q, inr i)) = absurd i

stray_run : (t : Test) (p : Path) → IsOfRun (stray_item t p) t
stray_run t p = record { one = refl; fault = sym (or_false (is_fault t.end)); only = only_one; ran = inr (p, inl refl) }
  where
    only_one : (u : Test) → WasRun u (stray_item t p ∷ []) → u ≡ t
    only_one u (inl (inl (inl e))) = absurd (cc e)
    only_one u (inl (inl (inr i))) = absurd i
    only_one u (inl (inr (inl e))) = absurd (cc e)
    only_one u (inl (inr (inr i))) = absurd i
    only_one u (inr (q, inl e)) = cc e
    only_one u (inr (q, inr i)) = absurd i

pub item_run : (s : Setting) (i : Input) (p : Path) (x : Item) → IsItemOf s i p x → IsOfRun x (test_of s i)
item_run s i p _ (kept k) = test_run (test_of s i)
item_run s i p _ (left n) = stray_run (test_of s i) p

pub real_more : (s : Setting) (l : List Item) (x : Item) (i : Input) → IsOfRun x (test_of s i) → within_of s i → ((t : Test) → WasRun t l → Real ((layer_of s).runs) t) → (t : Test) → WasRun t (l ++ x ∷ []) → Real ((layer_of s).runs) t
real_more s l x i r w h t k = elim (ran_either t l (x ∷ []) k) [
  | inl v ↦ h t v
  | inr v ↦ subst (Real ((layer_of s).runs)) (sym (r.only t v)) (record { within = w; path = refl; end = refl })
]

pub few_more : (l : List Item) (x : Item) → ((y : Item) → In y l → CanBeRead y) → CanBeRead x → (y : Item) → In y (l ++ x ∷ []) → CanBeRead y
few_more l x h c y i = elim (in_either y l (x ∷ []) i) [ inl j ↦ h y j | inr j ↦ one j ]
  where
    one : In y (x ∷ []) → CanBeRead y
    one (inl e) = subst CanBeRead (sym e) c
    one (inr k) = absurd k

-- ---- outcomes that a run takes

entry_below : (n m : ℕ) (side : Bool) → n < m → entry n side < 2 * m
entry_below n m false h = omega (arith, h)
entry_below n m true h = omega (arith, h)

pub took_below : (s : Setting) (u : Input) (a : ℕ) → Took s u a → a < 2 * length s.checked.sites
took_below s u a t = let d = (t.takes).2 in subst (λ z. z < 2 * length s.checked.sites) (sym t.number) (entry_below t.site (length s.checked.sites) t.side (slice_get_within s.checked.sites t.site d.site d.is_site))
