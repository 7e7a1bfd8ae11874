-- The tables of a program, made from the last entry to the first.
use Rattle.std.proofs.Common.{◌≡◌, ◌≢◌, ℕ, zero, suc, ◌+◌, ◌<◌, ◌≤◌, ◌⊎◌, inl, inr, Bool, true, false, cond, if◌then◌else◌, List, [], ◌∷◌, ◌++◌, map, take, drop, replicate, length, Option, Some, None, unwrap_or, slice_get, get_or, nat_eq, refl, sym, ap, ◌∙◌, subst, arith, length-append}
use Rattle.std.specs.List.{position, position_from, slice_set}
use Rattle.std.proofs.Math.Seq.{drop-cons, drop-length}
use Rattle.std.proofs.lemmas.List.{length-set, length-map, length-replicate, get_or-replicate, take_all}
use Rattle.std.proofs.lemmas.Option.{slice_get_past, slice_get_within, slice_get-get_or}
use Rattle.std.proofs.lemmas.Bool.Decides.{eqb_tells}
use Rattle.std.proofs.lemmas.Iterator.Adapters.{position_from-zero}
use Rattle.cc_model.specs.declared.checked.Checked.{Checked}
use Rattle.cc_model.specs.declared.checked.Site.{Site}
use Rattle.cc_model.specs.declared.checked.SiteId.{SiteId}
use Rattle.cc_model.specs.declared.checked.SiteKind.{SiteKind}
use Rattle.cc_model.specs.declared.checked.SiteKind.TheVariants as site
use Rattle.cc_model.specs.declared.checked.Target.{Target}
use Rattle.cc_model.specs.declared.checked.Target.TheVariants as target
use Rattle.cc_model.specs.declared.trees.Func as source
use Rattle.cc_model.specs.declared.trees.Item.{Item}
use Rattle.cc_model.specs.declared.trees.Item.TheVariants as item
use Rattle.cc_base.specs.declared.cells.TyId.{TyId}
use Rattle.cc_base.specs.declared.cells.CellTy.{CellTy}
use Rattle.cc_model.specs.Sites.{kind_rank}
use Rattle.cc_model.specs.CheckedProgram.{flat, cell_of, cells_at, cells_of_all, name_at, is_func, body_in}
use Rattle.tac_lower.specs.declared.known.SitesAt.{SitesAt}
use Rattle.tac_lower.specs.Seen.{token_if, site_token}
use Rattle.tac_lower.specs.Adding.{HasSite}
use Rattle.tac_lower.specs.Tables.{site_for, site_in}
use Rattle.tac_lower.specs.Marking.{no_sites, with_site, marked_if, marked, IsSpan, AreMarked, AreNumbered, AreFirst, NarrowFrom}
use Rattle.tac_lower.specs.Bodies.{func_in, func_at, AreBodies, number_named, body_number, noted}

abbrev unset : Option ℕ
unset = None

-- what is related to None and to no Some is None
pub unset_alone : (R : Option ℕ → Type 0) → ((n : ℕ) → R (Some n) → ⊥) → (y : Option ℕ) → R y → y ≡ None
unset_alone R h None r = refl
unset_alone R h (Some n) r = absurd (h n r)

-- ---- lists

set_same : {A : Type 0} (l : List A) (i : ℕ) (a : A) → i < length l → slice_get (slice_set l i a) i ≡ Some a
set_same [] i a h = absurd (omega arith)
set_same (x ∷ l) zero a h = refl
set_same (x ∷ l) (suc i) a h = set_same l i a (omega arith)

set_other : {A : Type 0} (l : List A) (i j : ℕ) (a : A) → j ≢ i → slice_get (slice_set l i a) j ≡ slice_get l j
set_other [] i j a n = refl
set_other (x ∷ l) zero zero a n = absurd (n refl)
set_other (x ∷ l) zero (suc j) a n = refl
set_other (x ∷ l) (suc i) zero a n = refl
set_other (x ∷ l) (suc i) (suc j) a n = set_other l i j a (λ e. n (ap suc e))

same_some : {A : Type 0} (x y : A) (o : Option A) → o ≡ Some x → o ≡ Some y → x ≡ y
same_some x y o e f = cc

next_got : {A : Type 0} (l : List A) (x : A) (left k : ℕ) → left ≡ suc k → slice_get l k ≡ Some x → drop k l ≡ x ∷ drop left l
next_got l x left k i e =
    drop-cons l k x (slice_get_within l k x e) ∙ ap (λ z. z ∷ drop (suc k) l) (got l k x e) ∙ ap (λ n. x ∷ drop n l) (sym i)
  where
    got : {A : Type 0} (l : List A) (k : ℕ) (x : A) → slice_get l k ≡ Some x → get_or l k x ≡ x
    got l k x e = same_some (get_or l k x) x (slice_get l k) (slice_get-get_or l k x (slice_get_within l k x e)) e

-- ---- kinds

kind_of : ℕ → SiteKind
kind_of zero = site.Decision
kind_of (suc zero) = site.Divisor
kind_of (suc (suc zero)) = site.Fit
kind_of (suc (suc (suc zero))) = site.Index
kind_of (suc (suc (suc (suc n)))) = site.Access

of_rank : (k : SiteKind) → kind_of (kind_rank k) ≡ k
unfolding kind_of
of_rank site.Decision = refl
of_rank site.Divisor = refl
of_rank site.Fit = refl
of_rank site.Index = refl
of_rank site.Access = refl

same_rank : (a b : SiteKind) → nat_eq (kind_rank a) (kind_rank b) ≡ true → a ≡ b
same_rank a b e = elim (eqb_tells (kind_rank a) (kind_rank b))
    [ inl q ↦ sym (of_rank a) ∙ ap kind_of q.1 ∙ of_rank b | inr q ↦ absurd (cc (e, q.0)) ]

same_number : (n : ℕ) → nat_eq n n ≡ true
same_number n = elim (eqb_tells n n) [ inl q ↦ q.0 | inr q ↦ absurd (q.1 refl) ]

other_number : (m n : ℕ) → m ≢ n → nat_eq m n ≡ false
other_number m n h = elim (eqb_tells m n) [ inl q ↦ absurd (h q.1) | inr q ↦ q.0 ]

site_set : (k : SiteKind) (i : SiteId) (s : SitesAt) → site_for k (with_site k i s) ≡ i
site_set site.Decision i s = refl
site_set site.Divisor i s = refl
site_set site.Fit i s = refl
site_set site.Index i s = refl
site_set site.Access i s = refl

site_kept : (k m : SiteKind) → (k ≡ m) ⊎ ((i : SiteId) (s : SitesAt) → site_for k (with_site m i s) ≡ site_for k s)
site_kept site.Decision site.Decision = inl refl
site_kept site.Decision _ = inr (λ i s. refl)
site_kept site.Divisor site.Divisor = inl refl
site_kept site.Divisor _ = inr (λ i s. refl)
site_kept site.Fit site.Fit = inl refl
site_kept site.Fit _ = inr (λ i s. refl)
site_kept site.Index site.Index = inl refl
site_kept site.Index _ = inr (λ i s. refl)
site_kept site.Access site.Access = inl refl
site_kept site.Access _ = inr (λ i s. refl)

no_site : (k : SiteKind) (n : ℕ) → site_for k (no_sites n) ≡ record { 0 = n }
no_site site.Decision n = refl
no_site site.Divisor n = refl
no_site site.Fit n = refl
no_site site.Index n = refl
no_site site.Access n = refl

-- ---- sites

length_marked : (s : Site) (i : SiteId) (o : Option SitesAt) (l : List SitesAt) → length (marked_if s i o l) ≡ length l
length_marked s i None l = refl
length_marked s i (Some at) l = length-set l s.token (with_site s.kind i at)

-- what an entry is for a kind once a site is marked: that site, or what it was
abbrev IsEntry : Site → SiteId → List SitesAt → List SitesAt → SiteKind → ℕ → Type 0
IsEntry s i old new k j = ((j ≡ s.token) × (k ≡ s.kind) × (site_in k (slice_get new j) ≡ i)) ⊎ (site_in k (slice_get new j) ≡ site_in k (slice_get old j))

entry_if : (s : Site) (i : SiteId) (l : List SitesAt) (o : Option SitesAt) (k : SiteKind) (j : ℕ) → slice_get l s.token ≡ o → IsEntry s i l (marked_if s i o l) k j
entry_if s i l None k j e = inr refl
entry_if s i l (Some at) k j e = elim (eqb_tells j s.token) [
  | inl q ↦ here q.1 (site_kept k s.kind)
  | inr q ↦ inr (ap (site_in k) (set_other l s.token j (with_site s.kind i at) q.1))
]
  where
    new : List SitesAt
    new = slice_set l s.token (with_site s.kind i at)

    got : j ≡ s.token → slice_get (slice_set l s.token (with_site s.kind i at)) j ≡ Some (with_site s.kind i at)
    got q = ap (λ n. slice_get (slice_set l s.token (with_site s.kind i at)) n) q ∙ set_same l s.token (with_site s.kind i at) (slice_get_within l s.token at e)

    here : j ≡ s.token → (k ≡ s.kind) ⊎ ((i : SiteId) (at : SitesAt) → site_for k (with_site s.kind i at) ≡ site_for k at) → IsEntry s i l (slice_set l s.token (with_site s.kind i at)) k j
    here q (inl h) = inl (q, h, ap (site_in k) (got q) ∙ subst (λ m. site_for k (with_site m i at) ≡ i) h (site_set k i at))
    here q (inr h) = inr (ap (site_in k) (got q) ∙ h i at ∙ sym (ap (site_in k) (ap (slice_get l) q ∙ e)))

entry : (s : Site) (i : SiteId) (l : List SitesAt) (k : SiteKind) (j : ℕ) → IsEntry s i l (marked s i l) k j
entry s i l k j = entry_if s i l (slice_get l s.token) k j refl

entry_same : (s : Site) (i : SiteId) (l : List SitesAt) → s.token < length l → site_in s.kind (slice_get (marked s i l) s.token) ≡ i
entry_same s i l h = under (slice_get l s.token) refl
  where
    under : (o : Option SitesAt) → slice_get l s.token ≡ o → site_in s.kind (slice_get (marked_if s i o l) s.token) ≡ i
    under None e = absurd (cc (e, slice_get-get_or l s.token (no_sites 0) h))
    under (Some at) e = ap (site_in s.kind) (set_same l s.token (with_site s.kind i at) h) ∙ site_set s.kind i at

module _ (c : Checked) where
  told : (s : Site) (k : ℕ) → slice_get c.sites k ≡ Some s → site_token c s.kind (record { 0 = k }) ≡ s.token
  told s k e = ap (token_if (length c.lines) s.kind) e ∙ ap (λ b. if b then s.token else length c.lines) (same_number (kind_rank s.kind))

  pub span_none : (span : ℕ) → length c.lines < span → IsSpan c (length c.sites) span
  span_none span h = record { lines = h; tokens = λ i s n e. absurd (let w = slice_get_within c.sites i s e in omega (arith, w, n)) }

  pub span_more : (s : Site) (left k span up : ℕ) → left ≡ suc k → slice_get c.sites k ≡ Some s → span ≤ up → s.token < up → IsSpan c left span → IsSpan c k up
  span_more s left k span up p q m n w = record {
    lines = (let h = w.lines in omega (arith, h, m));
    tokens = λ i t le e. elim (eqb_tells i k) [
      | inl z ↦ subst (λ (x : Site). x.token < up) (same_some s t (slice_get c.sites k) q (sym (ap (slice_get c.sites) z.1) ∙ e)) n
      | inr z ↦ (let h = w.tokens i t (later i le z.1) e in omega (arith, h, m))
    ];
  }
    where
      later : (i : ℕ) → k ≤ i → i ≢ k → left ≤ i
      later i le ne = omega (arith, le, ne, p)

  pub none_marked : (n span : ℕ) → n ≡ length c.sites → IsSpan c 0 span → AreMarked c (length c.sites) (replicate span (no_sites n))
  none_marked n span q w = record {
    span = subst (λ m. IsSpan c 0 m) (sym (length-replicate span (no_sites n))) w;
    sound = λ k j h. inr (ap (λ o. site_token c k (site_in k o)) (got j (subst (λ m. j < m) (length-replicate span (no_sites n)) h))
        ∙ ap (site_token c k) (no_site k n)
        ∙ ap (token_if (length c.lines) k) (slice_get_past c.sites n (omega (arith, q))));
    complete = λ i s h e. absurd (let w = slice_get_within c.sites i s e in omega (arith, w, h));
  }
    where
      got : (j : ℕ) → j < span → slice_get (replicate span (no_sites n)) j ≡ Some (no_sites n)
      got j h = slice_get-get_or (replicate span (no_sites n)) j (no_sites n) (subst (λ m. j < m) (sym (length-replicate span (no_sites n))) h) ∙ ap Some (get_or-replicate span j (no_sites n) (no_sites n) h)

  pub one_marked : (s : Site) (left k : ℕ) (l : List SitesAt) → left ≡ suc k → slice_get c.sites k ≡ Some s → AreMarked c left l → AreMarked c k (marked s (record { 0 = k }) l)
  one_marked s left k l p q w = record {
    span = subst (λ m. IsSpan c 0 m) (sym many) w.span;
    sound = λ kind j h. sounds kind j (subst (λ m. j < m) many h) (entry s (record { 0 = k }) l kind j);
    complete = λ i t le e. elim (eqb_tells i k) [
      | inl z ↦ subst (λ (x : Site). site_token c x.kind (site_in x.kind (slice_get (marked s (record { 0 = k }) l) x.token)) ≡ x.token) (same_some s t (slice_get c.sites k) q (sym (ap (slice_get c.sites) z.1) ∙ e))
          (ap (site_token c s.kind) (entry_same s (record { 0 = k }) l ((w.span).tokens k s (omega arith) q)) ∙ told s k q)
      | inr z ↦ completes i t e (omega (arith, le, z.1, p)) (entry s (record { 0 = k }) l t.kind t.token)
    ];
  }
    where
      many : length (marked s (record { 0 = k }) l) ≡ length l
      many = length_marked s (record { 0 = k }) (slice_get l s.token) l

      sounds : (kind : SiteKind) (j : ℕ) → j < length l → IsEntry s (record { 0 = k }) l (marked s (record { 0 = k }) l) kind j
          → (site_token c kind (site_in kind (slice_get (marked s (record { 0 = k }) l) j)) ≡ j) ⊎ (site_token c kind (site_in kind (slice_get (marked s (record { 0 = k }) l) j)) ≡ length c.lines)
      sounds kind j h (inl z) = inl (ap (site_token c kind) z.2 ∙ ap (λ m. site_token c m (record { 0 = k })) z.1 ∙ told s k q ∙ sym z.0)
      sounds kind j h (inr z) = subst (λ x. (site_token c kind x ≡ j) ⊎ (site_token c kind x ≡ length c.lines)) (sym z) (w.sound kind j h)

      completes : (i : ℕ) (t : Site) → slice_get c.sites i ≡ Some t → left ≤ i → IsEntry s (record { 0 = k }) l (marked s (record { 0 = k }) l) t.kind t.token
          → site_token c t.kind (site_in t.kind (slice_get (marked s (record { 0 = k }) l) t.token)) ≡ t.token
      completes i t e le (inl z) = ap (site_token c t.kind) z.2 ∙ ap (λ m. site_token c m (record { 0 = k })) z.1 ∙ told s k q ∙ sym z.0
      completes i t e le (inr z) = ap (site_token c t.kind) z ∙ w.complete i t le e

  pub next_marked : (s : Site) (i : SiteId) (left k : ℕ) (old new : List SitesAt) → new ≡ marked s i old → i.0 ≡ k → left ≡ suc k → slice_get c.sites k ≡ Some s → AreMarked c left old → AreMarked c k new
  next_marked s i left k old new e n p q w = subst (λ l. AreMarked c k l) (sym e) (subst (λ j. AreMarked c k (marked s (record { 0 = j }) old)) (sym n) (one_marked s left k old p q w))

  pub all_marked : (l : List SitesAt) → AreMarked c 0 l → (kind : SiteKind) (k : ℕ) → HasSite c kind k → site_token c kind (site_in kind (slice_get l k)) ≡ k
  all_marked l w kind k h = at_site (slice_get c.sites h.0) refl h.1
    where
      nowhere : length c.lines ≡ k → site_token c kind (site_in kind (slice_get l k)) ≡ k
      nowhere e = elim (w.sound kind k (let z = (w.span).lines in omega (arith, z, e))) [ inl q ↦ q | inr q ↦ q ∙ e ]

      of_kind : (s : Site) (b : Bool) → slice_get c.sites h.0 ≡ Some s → nat_eq (kind_rank s.kind) (kind_rank kind) ≡ b → (if b then s.token else length c.lines) ≡ k → site_token c kind (site_in kind (slice_get l k)) ≡ k
      of_kind s true e b g = subst (λ n. site_token c kind (site_in kind (slice_get l n)) ≡ n) g
          (subst (λ m. site_token c m (site_in m (slice_get l s.token)) ≡ s.token) (same_rank s.kind kind b) (w.complete h.0 s (omega arith) e))
      of_kind s false e b g = nowhere g

      at_site : (o : Option Site) → slice_get c.sites h.0 ≡ o → token_if (length c.lines) kind (slice_get c.sites h.0) ≡ k → site_token c kind (site_in kind (slice_get l k)) ≡ k
      at_site None e g = nowhere (sym (ap (token_if (length c.lines) kind) e) ∙ g)
      at_site (Some s) e g = of_kind s (nat_eq (kind_rank s.kind) (kind_rank kind)) e refl (sym (ap (token_if (length c.lines) kind) e) ∙ g)

  -- ---- cells

  cells_step : (l : List TyId) (k : ℕ) (x : TyId) → slice_get l k ≡ Some x → length (cells_of_all c (take (suc k) l)) ≡ length (cells_of_all c (take k l)) + length (cells_at c x.0)
  cells_step [] k x e = absurd (cc e)
  cells_step (y ∷ l) zero x e =
      let same : y ≡ x = cc e in
      length-append (cells_at c y.0) [] ∙ (let z : length (cells_at c y.0) + 0 ≡ 0 + length (cells_at c y.0) = omega arith in z) ∙ ap (λ (t : TyId). 0 + length (cells_at c t.0)) same
  cells_step (y ∷ l) (suc k) x e =
      let h = cells_step l k x e in
      let a = length-append (cells_at c y.0) (cells_of_all c (take (suc k) l)) in
      let b = length-append (cells_at c y.0) (cells_of_all c (take k l)) in
      omega (arith, h, a, b)

  pub none_first : AreFirst c 0 [] 0
  none_first = record { many = refl; each = λ k h. absurd (omega arith); all = refl }

  pub one_first : (n m : ℕ) (x : TyId) (old new : List ℕ) (all up more : ℕ) → m ≡ suc n → slice_get c.globals n ≡ Some x → AreFirst c n old all → new ≡ old ++ all ∷ [] → more ≡ length (cells_at c x.0) → up ≡ all + more → AreFirst c m new up
  one_first n m x old new all up more p q w e f g = record {
    many = ap length e ∙ length-append old (all ∷ []) ∙ (let z = w.many in let r : length old + 1 ≡ m = omega (arith, z, p) in r);
    each = λ k h. elim (eqb_tells k n) [
      | inl z ↦ ap (λ l. slice_get l k) e ∙ last old k all (z.1 ∙ sym w.many) ∙ ap Some (w.all ∙ ap (λ j. length (cells_of_all c (take j c.globals))) (sym z.1))
      | inr z ↦ (let lt : k < n = omega (arith, h, z.1, p) in ap (λ l. slice_get l k) e ∙ earlier old k all (let y = w.many in omega (arith, y, lt)) ∙ w.each k lt)
    ];
    all = g ∙ ap (λ z. z + more) w.all ∙ ap (λ z. length (cells_of_all c (take n c.globals)) + z) f ∙ sym (cells_step c.globals n x q) ∙ ap (λ j. length (cells_of_all c (take j c.globals))) (sym p);
  }
    where
      last : (l : List ℕ) (k a : ℕ) → k ≡ length l → slice_get (l ++ a ∷ []) k ≡ Some a
      last [] zero a h = refl
      last [] (suc k) a h = absurd (omega arith)
      last (x ∷ l) zero a h = absurd (omega arith)
      last (x ∷ l) (suc k) a h = last l k a (omega arith)

      earlier : (l : List ℕ) (k a : ℕ) → k < length l → slice_get (l ++ a ∷ []) k ≡ slice_get l k
      earlier [] k a h = absurd (omega arith)
      earlier (x ∷ l) zero a h = refl
      earlier (x ∷ l) (suc k) a h = earlier l k a (omega arith)

  pub all_first : (l : List ℕ) (all : ℕ) → AreFirst c (length c.globals) l all → (n : ℕ) → unwrap_or (slice_get l n) all ≡ length (cells_of_all c (take n c.globals))
  all_first l all w n = under (slice_get l n) refl
    where
      whole : length c.globals ≤ n → take n c.globals ≡ take (length c.globals) c.globals
      whole h = take_all n c.globals h ∙ sym (take_all (length c.globals) c.globals (omega arith))

      under : (o : Option ℕ) → slice_get l n ≡ o → unwrap_or o all ≡ length (cells_of_all c (take n c.globals))
      under (Some a) e = same_some a (length (cells_of_all c (take n c.globals))) (slice_get l n) e (w.each n (let h = slice_get_within l n a e in let m = w.many in omega (arith, h, m)))
      under None e = elim (within (length c.globals) n) [
        | inl h ↦ absurd (cc (e, w.each n h))
        | inr h ↦ w.all ∙ ap (λ g. length (cells_of_all c g)) (sym (whole h))
      ]
        where
          within : (m n : ℕ) → (n < m) ⊎ (m ≤ n)
          within m n = grind arith

  pub all_cells : (all : ℕ) (l : List ℕ) → AreFirst c (length c.globals) l all → all ≡ length (cells_of_all c c.globals)
  all_cells all l w = w.all ∙ ap (λ g. length (cells_of_all c g)) (take_all (length c.globals) c.globals (omega arith))

  -- ---- widths

  pub none_narrow : NarrowFrom c (length c.layouts)
  none_narrow k h = subst (λ o. length (map cell_of (unwrap_or o [])) < 4294967296) (sym (slice_get_past c.layouts k h)) (omega arith)

  pub one_narrow : (left k : ℕ) (cells : List CellTy) → left ≡ suc k → slice_get c.layouts k ≡ Some cells → length cells < 4294967296 → NarrowFrom c left → NarrowFrom c k
  one_narrow left k cells p q h w n le = elim (eqb_tells n k) [
    | inl z ↦ subst (λ o. length (map cell_of (unwrap_or o [])) < 4294967296) (sym (ap (slice_get c.layouts) z.1 ∙ q)) (let y = length-map cells cell_of in omega (arith, y, h))
    | inr z ↦ w n (omega (arith, le, z.1, p))
  ]

  -- ---- bodies

  body_noted : (b : Option ℕ) (at n : ℕ) (l : List (Option ℕ)) → length (noted b at l) ≡ length l
  body_noted None at n l = refl
  body_noted (Some m) at n l = length-set l m (Some at)

  is_number : (n : ℕ) (o : Option Target) (m : ℕ) → number_named o ≡ Some m → is_func c n o ≡ nat_eq n m
  is_number n (Some (target.Func k)) m e = ap (λ z. nat_eq n z) (let same : k ≡ m = cc e in same)
  is_number n (Some (target.Global k)) m e = absurd (cc e)
  is_number n (Some (target.Local k)) m e = absurd (cc e)
  is_number n (Some (target.Field k)) m e = absurd (cc e)
  is_number n None m e = absurd (cc e)

  is_no_number : (n : ℕ) (o : Option Target) → number_named o ≡ None → is_func c n o ≡ false
  is_no_number n (Some (target.Func k)) e = absurd (cc e)
  is_no_number n (Some (target.Global k)) e = refl
  is_no_number n (Some (target.Local k)) e = refl
  is_no_number n (Some (target.Field k)) e = refl
  is_no_number n None e = refl

  at_body : (items rest : List Item) (f : source.Func) (at : ℕ) (old : List (Option ℕ)) (b : Option ℕ) → slice_get items at ≡ Some (item.Func f) → number_named (name_at c f.name) ≡ b → AreBodies c items rest old → AreBodies c items (item.Func f ∷ rest) (noted b at old)
  at_body items rest f at old None e q w n h = w n h ∙ sym (ap (λ b. if b then Some f else body_in c n rest) (is_no_number n (name_at c f.name) q))
  at_body items rest f at old (Some m) e q w n h =
      let lt : n < length old = subst (λ z. n < z) (length-set old m (Some at)) h in
      elim (eqb_tells n m) [
        | inl z ↦ ap (func_at items) (ap (slice_get (slice_set old m (Some at))) z.1 ∙ set_same old m (Some at) (subst (λ j. j < length old) z.1 lt)) ∙ ap func_in e ∙ sym (ap (λ b. if b then Some f else body_in c n rest) (is_number n (name_at c f.name) m q ∙ z.0))
        | inr z ↦ ap (func_at items) (set_other old m n (Some at) z.1) ∙ w n lt ∙ sym (ap (λ b. if b then Some f else body_in c n rest) (is_number n (name_at c f.name) m q ∙ z.0))
      ]

  at_item : (items rest : List Item) (x : Item) (at : ℕ) (old : List (Option ℕ)) → slice_get items at ≡ Some x → AreBodies c items rest old → AreBodies c items (x ∷ rest) (noted (body_number c x) at old)
  at_item items rest (item.Func f) at old e w = at_body items rest f at old (number_named (name_at c f.name)) e refl w
  at_item items rest (item.Alias a b) at old e w = w
  at_item items rest (item.Struct d) at old e w = w
  at_item items rest (item.Globals b ps) at old e w = w
  at_item items rest (item.Prototype r t ps) at old e w = w

  pub one_body : (items : List Item) (x : Item) (left k : ℕ) (old new : List (Option ℕ)) → left ≡ suc k → slice_get items k ≡ Some x → AreBodies c items (drop left items) old → new ≡ noted (body_number c x) k old → AreBodies c items (drop k items) new
  one_body items x left k old new p q w e = subst (λ l. AreBodies c items (drop k items) l) (sym e) (subst (λ r. AreBodies c items r (noted (body_number c x) k old)) (sym (next_got items x left k p q)) (at_item items (drop left items) x k old q w))

  pub same_many : (b : Option ℕ) (at : ℕ) (old new : List (Option ℕ)) → new ≡ noted b at old → length new ≡ length old
  same_many b at old new e = ap length e ∙ body_noted b at 0 old

  pub no_bodies : (items : List Item) (n : ℕ) → AreBodies c items (drop (length items) items) (replicate n None)
  no_bodies items n k h = ap (func_at items) (got n k (subst (λ m. k < m) (length-replicate n unset) h)) ∙ ap (body_in c k) (sym (drop-length items))
    where
      got : (n k : ℕ) → k < n → slice_get (replicate n unset) k ≡ Some None
      got zero k h = absurd (omega arith)
      got (suc n) zero h = refl
      got (suc n) (suc k) h = got n k (omega arith)

-- ---- numbers

pub none_numbered : (tokens : List ℕ) (n : ℕ) → AreNumbered tokens (length tokens) (replicate n None)
none_numbered tokens n k = nothing n k ∙ sym (ap (λ l. position_from (nat_eq k) (length tokens) l) (drop-length tokens))
  where
    nothing : (n k : ℕ) → flat (slice_get (replicate n unset) k) ≡ None
    nothing zero k = refl
    nothing (suc n) zero = refl
    nothing (suc n) (suc k) = nothing n k

pub one_numbered : (tokens : List ℕ) (t left k : ℕ) (old new : List (Option ℕ)) → left ≡ suc k → slice_get tokens k ≡ Some t → t < length old → AreNumbered tokens left old → new ≡ slice_set old t (Some k) → AreNumbered tokens k new
one_numbered tokens t left k old new p q h w e j =
    ap (λ l. flat (slice_get l j)) e ∙ found (eqb_tells j t) ∙ sym (ap (λ l. position_from (nat_eq j) k l) (next_got tokens t left k p q))
  where
    found : ((nat_eq j t ≡ true) × (j ≡ t)) ⊎ ((nat_eq j t ≡ false) × (j ≢ t)) → flat (slice_get (slice_set old t (Some k)) j) ≡ cond (nat_eq j t) (Some k) (position_from (nat_eq j) (k + 1) (drop left tokens))
    found (inl z) = ap flat (ap (slice_get (slice_set old t (Some k))) z.1 ∙ set_same old t (Some k) h) ∙ sym (ap (λ b. cond b (Some k) (position_from (nat_eq j) (k + 1) (drop left tokens))) z.0)
    found (inr z) = ap flat (set_other old t j (Some k) z.1) ∙ w j ∙ ap (λ n. position_from (nat_eq j) n (drop left tokens)) (let s : left ≡ k + 1 = omega (arith, p) in s) ∙ sym (ap (λ b. cond b (Some k) (position_from (nat_eq j) (k + 1) (drop left tokens))) z.0)

pub all_numbered : (tokens : List ℕ) (l : List (Option ℕ)) → AreNumbered tokens 0 l → (k : ℕ) → flat (slice_get l k) ≡ position (nat_eq k) tokens
all_numbered tokens l w k = w k ∙ sym (position_from-zero (nat_eq k) tokens)
