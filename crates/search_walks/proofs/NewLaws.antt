-- Whether a run takes an outcome that no run took is decided.
use Rattle.std.proofs.Common.{◌≡◌, ◌<◌, ◌≤◌, ◌⊎◌, inl, inr, ℕ, zero, suc, ◌*◌, Bool, true, false, List, [], ◌∷◌, length, get_or, Some, slice_get, refl, sym, ◌∙◌, subst, ap, arith}
use Rattle.std.proofs.lemmas.Bool.{cases_lt, cases_eq}
use Rattle.std.proofs.lemmas.Option.{slice_get_within, slice_get-get_or}
use Rattle.cc_base.specs.declared.inputs.Input.{Input}
use Rattle.cc_base.specs.declared.outcomes.Outcome.{Outcome}
use Rattle.cc_base.specs.declared.outcomes.Outcome.TheVariants as of
use Rattle.cc_base.specs.Paths.{In}
use Rattle.cc_model.specs.declared.checked.Site.{Site}
use Rattle.cc_model.specs.declared.checked.SiteKind.{SiteKind}
use Rattle.cc_model.specs.declared.checked.SiteKind.TheVariants.{Decision, Fit, Divisor, Index, Access}
use Rattle.cc_model.specs.CheckedProgram.{core_of}
use Rattle.cc_model.specs.Meaning.{Entry}
use Rattle.cc_model.specs.Runs.{run_of}
use Rattle.search_walks.specs.Course.{Covers}
use Rattle.search_walks.specs.Distance.{entry}
use Rattle.search_base.specs.Setting.{Setting}
use Rattle.search_walks.specs.Deciding.{Decides, Takes, side_of}
use Rattle.search_walks.specs.Walks.{IsNew}

abbrev Decided : Type 0 → Type 0
Decided P = P ⊎ (P → ⊥)

is_decision : (k : SiteKind) → Decided (k ≡ Decision)
is_decision Decision = inl refl
is_decision Fit = inr (λ e. cc e)
is_decision Divisor = inr (λ e. cc e)
is_decision Index = inr (λ e. cc e)
is_decision Access = inr (λ e. cc e)

is_side : (o : Outcome) (side : Bool) → Decided (o ≡ side_of side)
is_side of.False false = inl refl
is_side of.False true = inr (λ e. cc e)
is_side of.True false = inr (λ e. cc e)
is_side of.True true = inl refl
is_side of.Zero false = inr (λ e. cc e)
is_side of.Zero true = inr (λ e. cc e)
is_side of.High false = inr (λ e. cc e)
is_side of.High true = inr (λ e. cc e)
is_side of.Low false = inr (λ e. cc e)
is_side of.Low true = inr (λ e. cc e)
is_side of.Plain false = inr (λ e. cc e)
is_side of.Plain true = inr (λ e. cc e)
is_side (of.Object n) false = inr (λ e. cc e)
is_side (of.Object n) true = inr (λ e. cc e)

-- one below k
below : (P : ℕ → Type 0) → ((i : ℕ) → Decided (P i)) → (k : ℕ) → Decided ((i : ℕ) × (i < k) × P i)
below P d zero = inr (λ w. let h = w.1 in omega (arith, h))
below P d (suc k) = by (d k) (below P d k)
  where
    by : Decided (P k) → Decided ((i : ℕ) × (i < k) × P i) → Decided ((i : ℕ) × (i < suc k) × P i)
    by (inl p) r = inl (k, omega arith, p)
    by (inr n) (inl w) = inl (w.0, (let h = w.1 in omega (arith, h)), w.2)
    by (inr n) (inr m) = inr (λ w. at w.0 w.1 w.2)
      where
        at : (i : ℕ) → i < suc k → P i → ⊥
        at i h p = split (cases_lt i k)
          where
            split : (i < k) ⊎ (k ≤ i) → ⊥
            split (inl g) = m (i, g, p)
            split (inr g) = let z : i ≡ k = omega (arith, h, g) in n (subst P z p)

-- what a list holds at a place
at_place : {A : Type 0} → (l : List A) (i : ℕ) → ((x : A) × (slice_get l i ≡ Some x)) ⊎ ((x : A) → slice_get l i ≡ Some x → ⊥)
at_place [] i = inr (λ x e. cc e)
at_place (y ∷ l) zero = inl (y, refl)
at_place (y ∷ l) (suc i) = at_place l i

module _ (s : Setting) (u : Input) where
  -- event k is a decision at the site that takes the side
  abbrev Taken : ℕ → Bool → ℕ → Type 0
  Taken n side k = (e : Entry Outcome) × Decides s u k n × (slice_get (run_of (core_of s.checked) s.limits u).log k ≡ Some e) × (e.event ≡ side_of side)

  taken_at : (n : ℕ) (side : Bool) (k : ℕ) → Decided (Taken n side k)
  taken_at n side k = by (at_place (run_of (core_of s.checked) s.limits u).log k) (at_place s.checked.sites n)
    where
      by : ((e : Entry Outcome) × (slice_get (run_of (core_of s.checked) s.limits u).log k ≡ Some e)) ⊎ ((e : Entry Outcome) → slice_get (run_of (core_of s.checked) s.limits u).log k ≡ Some e → ⊥) →
          ((x : Site) × (slice_get s.checked.sites n ≡ Some x)) ⊎ ((x : Site) → slice_get s.checked.sites n ≡ Some x → ⊥) → Decided (Taken n side k)
      by (inr no_entry) w = inr (λ t. no_entry t.0 t.2)
      by (inl e) (inr no_site) = inr (λ t. no_site (t.1).site (t.1).is_site)
      by (inl e) (inl x) = all (cases_eq (x.0).token (e.0).token) (is_decision (e.0).kind) (is_decision (x.0).kind) (is_side (e.0).event side)
        where
          same_entry : (t : Taken n side k) → (t.1).entry ≡ e.0
          same_entry t = let a = (t.1).is_entry in let b = e.1 in cc (a, b)

          same_event : (t : Taken n side k) → t.0 ≡ e.0
          same_event t = let a = t.2 in let b = e.1 in cc (a, b)

          same_site : (t : Taken n side k) → (t.1).site ≡ x.0
          same_site t = let a = (t.1).is_site in let b = x.1 in cc (a, b)

          all : ((x.0).token ≡ (e.0).token) ⊎ ((x.0).token ≡ (e.0).token → ⊥) → Decided ((e.0).kind ≡ Decision) → Decided ((x.0).kind ≡ Decision) → Decided ((e.0).event ≡ side_of side) → Decided (Taken n side k)
          all (inl a) (inl b) (inl c) (inl d) = inl (e.0, record { entry = e.0; is_entry = e.1; site = x.0; is_site = x.1; same = a; kind = b; site_kind = c }, e.1, d)
          all (inr a) b c d = inr (λ t. a (ap (λ (y : Site). y.token) (sym (same_site t)) ∙ (t.1).same ∙ ap (λ (y : Entry Outcome). y.token) (same_entry t)))
          all a (inr b) c d = inr (λ t. b (ap (λ (y : Entry Outcome). y.kind) (sym (same_entry t)) ∙ (t.1).kind))
          all a b (inr c) d = inr (λ t. c (ap (λ (y : Site). y.kind) (sym (same_site t)) ∙ (t.1).site_kind))
          all a b c (inr d) = inr (λ t. d (ap (λ (y : Entry Outcome). y.event) (sym (same_event t)) ∙ t.3))

  takes_or : (n : ℕ) (side : Bool) → Decided (Takes s u n side)
  takes_or n side = by (below (Taken n side) (taken_at n side) (length (run_of (core_of s.checked) s.limits u).log))
    where
      by : Decided ((k : ℕ) × (k < length (run_of (core_of s.checked) s.limits u).log) × Taken n side k) → Decided (Takes s u n side)
      by (inl w) = inl (w.0, (w.2).0, (w.2).1, (w.2).2, (w.2).3)
      by (inr n) = inr (λ w. n (w.0, slice_get_within (run_of (core_of s.checked) s.limits u).log w.0 w.1 w.3, (w.1, w.2, w.3, w.4)))

  module _ (ran : List Input) (covered : List Bool) (c : Covers s ran covered) where
    abbrev Newly : ℕ → Bool → Type 0
    Newly n side = Takes s u n side × (((v : Input) × In v ran × Takes s v n side) → ⊥)

    newly_or : (n : ℕ) (side : Bool) → Decided (Newly n side)
    newly_or n side = by (takes_or n side) (at_place covered (entry n side))
      where
        no_false : false ≡ true → ⊥
        no_false z = cc z

        by : Decided (Takes s u n side) → ((b : Bool) × (slice_get covered (entry n side) ≡ Some b)) ⊎ ((b : Bool) → slice_get covered (entry n side) ≡ Some b → ⊥) → Decided (Newly n side)
        by (inr n) w = inr (λ t. n t.0)
        by (inl t) (inl (true, e)) = inr (λ w. w.1 ((c.each n side true e).0 refl))
        by (inl t) (inl (false, e)) = inl (t, λ w. no_false ((c.each n side false e).1 w))
        by (inl t) (inr m) = absurd (m (get_or covered (entry n side) true) (slice_get-get_or covered (entry n side) true there))
          where
            site_below : Takes s u n side → n < length s.checked.sites
            site_below (k, a, d, g, o) = slice_get_within s.checked.sites n d.site d.is_site

            entry_below : (n k : ℕ) (side : Bool) → n < k → entry n side < 2 * k
            entry_below n k false h = omega (arith, h)
            entry_below n k true h = omega (arith, h)

            there : entry n side < length covered
            there = let h = entry_below n (length s.checked.sites) side (site_below t) in let z = c.all in omega (arith, h, z)

    pub new_or : (limit : ℕ) (cuts : Bool) → IsNew s u ran ⊎ (IsNew s u ran → ⊥)
    new_or limit cuts = by (below (λ n. Newly n false ⊎ Newly n true) (λ n. both n (newly_or n false) (newly_or n true)) (length s.checked.sites))
      where
        both : (n : ℕ) → Decided (Newly n false) → Decided (Newly n true) → Decided (Newly n false ⊎ Newly n true)
        both n (inl a) b = inl (inl a)
        both n (inr a) (inl b) = inl (inr b)
        both n (inr a) (inr b) = inr (λ w. elim w [ inl x ↦ a x | inr x ↦ b x ])

        one : (n : ℕ) → Newly n false ⊎ Newly n true → IsNew s u ran
        one n (inl w) = (n, false, w.0, w.1)
        one n (inr w) = (n, true, w.0, w.1)

        site_below : (n : ℕ) (side : Bool) → Takes s u n side → n < length s.checked.sites
        site_below n side (k, a, d, g, o) = slice_get_within s.checked.sites n d.site d.is_site

        of_side : (n : ℕ) (side : Bool) → Newly n side → Newly n false ⊎ Newly n true
        of_side n false w = inl w
        of_side n true w = inr w

        by : Decided ((n : ℕ) × (n < length s.checked.sites) × (Newly n false ⊎ Newly n true)) → IsNew s u ran ⊎ (IsNew s u ran → ⊥)
        by (inl w) = inl (one w.0 w.2)
        by (inr n) = inr (λ w. n (w.0, site_below w.0 w.1 w.2, of_side w.0 w.1 (w.2, w.3)))
