-- An input that meets the atoms before an event and those of an outcome there takes that outcome, and the other way round.
use Rattle.std.proofs.Common.{◌≡◌, ◌≢◌, ℕ, zero, suc, ◌-◌, ◌<◌, ◌≤◌, true, false, ◌⊎◌, inl, inr, List, [], ◌∷◌, ◌++◌, length, map, take, Some, refl, sym, ap, ap₂, ◌∙◌, subst, arith, append_assoc, length-append, slice_get, if◌then◌else◌}
use Rattle.std.proofs.lemmas.Bool.Decides.{eqb_tells}
use Rattle.cc_base.specs.declared.inputs.Input.{Input}
use Rattle.cc_base.specs.declared.outcomes.Outcome.{Outcome}
use Rattle.cc_base.specs.declared.outcomes.Outcome.TheVariants as out
use Rattle.cc_base.specs.Forms.{Atom}
use Rattle.cc_base.specs.Holds.{Meets}
use Rattle.cc_base.specs.Limits.{Limits}
use Rattle.cc_base.specs.Outcomes.{byte_of}
use Rattle.cc_base.specs.Paths.{Path, In, next, BeginsWith}
use Rattle.cc_model.specs.Core.{Program}
use Rattle.cc_model.specs.Meaning.{Entry}
use Rattle.cc_model.specs.Runs.{IsInput, path_of, path_at}
use Rattle.cc_model.specs.FormOperations.{Forms}
use Rattle.cc_model.specs.Traced.{Choice, Asked, asks_nothing, one_of, term, Event, traced}
use Rattle.cc_model.specs.Conditions.{same_outcome, atoms_of, without, taken, alternatives, outcomes_of, condition, condition_at, last_atoms, clean, events_of, values_at}
use Rattle.cc_model.specs.Exact.{Exact, Exhausts}
use Rattle.sym_expr.proofs.AtomLaws.{Meets-append, Meets-front, Meets-back}
use Rattle.flip_solve.proofs.Members.{some_same, got_below}

-- ---- first outcomes of a path

byte_tells : (a b : Outcome) → byte_of a ≡ byte_of b → a ≡ b
byte_tells out.Zero out.Zero h = refl
byte_tells out.High out.High h = refl
byte_tells out.Low out.Low h = refl
byte_tells out.Plain out.Plain h = refl
byte_tells out.False out.False h = refl
byte_tells out.True out.True h = refl
byte_tells (out.Object n) (out.Object m) h = ap out.Object (omega arith)
byte_tells _ _ h = absurd (omega (arith, h))

pub take_begins : (p q : Path) → BeginsWith p q → take (length q) p ≡ q
take_begins p [] h = refl
take_begins [] (o ∷ q) h = absurd (cc h.1)
take_begins (a ∷ p) (o ∷ q) h = let e : a ≡ o = cc h.1 in let f : p ≡ q ++ h.0 = cc h.1 in ap₂ (λ x m. x ∷ m) e (take_begins p q (h.0, f))

pub next_at : (p q : Path) (o : Outcome) → BeginsWith p (next q o) → slice_get p (length q) ≡ Some o
next_at [] [] o h = absurd (cc h.1)
next_at (a ∷ p) [] o h = let e : a ≡ o = cc h.1 in ap Some e
next_at [] (x ∷ q) o h = absurd (cc h.1)
next_at (a ∷ p) (x ∷ q) o h = let f : p ≡ next q o ++ h.0 = cc h.1 in next_at p q o (h.0, f)

pub at_next : (p q : Path) (o : Outcome) → take (length q) p ≡ q → slice_get p (length q) ≡ Some o → BeginsWith p (next q o)
at_next [] [] o e f = absurd (cc f)
at_next (a ∷ p) [] o e f = (p, ap (λ x. x ∷ p) (some_same a o f))
at_next [] (x ∷ q) o e f = absurd (cc e)
at_next (a ∷ p) (x ∷ q) o e f = let g : a ≡ x = cc e in let h : take (length q) p ≡ q = cc e in let r = at_next p q o h f in (r.0, ap₂ (λ y m. y ∷ m) g r.1)

next_append : (q : Path) (o : Outcome) (r : Path) → next q o ++ r ≡ q ++ (o ∷ r)
next_append [] o r = refl
next_append (a ∷ q) o r = ap (λ m. a ∷ m) (next_append q o r)

begins_next : (p q : Path) (o : Outcome) → BeginsWith p (next q o) → BeginsWith p q
begins_next p q o h = (o ∷ h.0, h.1 ∙ next_append q o h.0)

length_next : (q : Path) (o : Outcome) → length (next q o) ≡ suc (length q)
length_next q o = simp length-append (omega arith)

length_taken : (k : ℕ) (p : Path) → k ≤ length p → length (take k p) ≡ k
length_taken zero p h = refl
length_taken (suc k) [] h = absurd (omega arith)
length_taken (suc k) (a ∷ p) h = ap suc (length_taken k p (omega arith))

-- ---- choices

pub outcome_tells : (o p : Outcome) → ((same_outcome o p ≡ true) × (o ≡ p)) ⊎ ((same_outcome o p ≡ false) × (o ≢ p))
unfolding same_outcome
outcome_tells o p = elim (eqb_tells (byte_of o) (byte_of p)) [
  | inl q ↦ inl (q.0, byte_tells o p q.1)
  | inr q ↦ inr (q.0, λ e. q.1 (ap byte_of e))
]

abbrev pub outcomes : List Choice → List Outcome
outcomes cs = map (λ c. c.outcome) cs

-- the choice of an outcome, with its atoms
pub chosen : (o : Outcome) (cs : List Choice) → In o (outcomes cs) → (c : Choice) × In c cs × (c.outcome ≡ o) × (c.atoms ≡ atoms_of o cs)
unfolding atoms_of
chosen o [] i = absurd i
chosen o (c ∷ cs) i = elim (outcome_tells c.outcome o) [
  | inl q ↦ (c, inl refl, q.1, sym (ap (λ b. if b then c.atoms else atoms_of o cs) q.0))
  | inr q ↦ later q.0 (chosen o cs (rest q.1 i))
]
  where
    rest : c.outcome ≢ o → In o (outcomes (c ∷ cs)) → In o (outcomes cs)
    rest n (inl e) = absurd (n (sym e))
    rest n (inr j) = j

    later : same_outcome c.outcome o ≡ false → ((d : Choice) × In d cs × (d.outcome ≡ o) × (d.atoms ≡ atoms_of o cs)) → (d : Choice) × In d (c ∷ cs) × (d.outcome ≡ o) × (d.atoms ≡ (if same_outcome c.outcome o then c.atoms else atoms_of o cs))
    later q r = (r.0, inr r.1, r.2, r.3 ∙ sym (ap (λ b. if b then c.atoms else atoms_of o cs) q))

-- ---- events

abbrev Log : Type 0
Log = List (Entry Event)

pub last_there : (l : Log) (q : Path) (o : Outcome) (a : Entry Event) → slice_get l (length q) ≡ Some a → last_atoms (next q o) l ≡ atoms_of o (alternatives a.event)
unfolding last_atoms
last_there [] q o a e = absurd (cc e)
last_there (x ∷ l) [] o a e = ap (λ y. atoms_of o (alternatives y.event)) (some_same x a e)
last_there (x ∷ l) (y ∷ []) o a e = last_there l [] o a e
last_there (x ∷ l) (y ∷ z ∷ q) o a e = last_there l (z ∷ q) o a e

-- the condition at a prefix is that before its last outcome, and the last outcome's atoms
pub parted : (l : Log) (q : Path) (o : Outcome) → condition_at (next q o) l ≡ condition (length q) l ++ last_atoms (next q o) l
unfolding condition_at condition last_atoms
parted [] [] o = refl
parted [] (y ∷ q) o = refl
parted (x ∷ l) [] o = refl
parted (x ∷ l) (y ∷ []) o = ap (λ m. taken x.event ++ m) (parted l [] o) ∙ sym (append_assoc (taken x.event) (condition 0 l) (last_atoms (o ∷ []) l))
parted (x ∷ l) (y ∷ z ∷ q) o = ap (λ m. taken x.event ++ m) (parted l (z ∷ q) o) ∙ sym (append_assoc (taken x.event) (condition (suc (length q)) l) (last_atoms (z ∷ next q o) l))

-- the event of the first term has no alternatives
pub none_at_term : (l : Log) (a : Entry Event) → slice_get l (clean l) ≡ Some a → alternatives a.event ≡ []
unfolding clean alternatives
none_at_term [] a e = absurd (cc e)
none_at_term (x ∷ l) a e = by (x.event).asked refl e (none_at_term l a)
  where
    by : (s : Asked) → (x.event).asked ≡ s → slice_get (x ∷ l) (elim s [ term k ↦ 0 | _ ↦ suc (clean l) ]) ≡ Some a → (slice_get l (clean l) ≡ Some a → alternatives a.event ≡ []) → alternatives a.event ≡ []
    by (term k) q f rest = subst (λ (y : Entry Event). alternatives y.event ≡ []) (some_same x a f) (ap (λ s. elim s [ one_of cs ↦ without (x.event).outcome cs | _ ↦ [] ]) q)
    by (one_of cs) q f rest = rest f
    by asks_nothing q f rest = rest f

module _ (f : Forms) (p : Program) (b : Limits) where
  length_path : (l : Log) → length (path_of (traced f p.layouts) l) ≡ length l
  length_path [] = refl
  length_path (x ∷ l) = ap suc (length_path l)

  -- an event of a run, and an outcome that it offers
  module _ (u : Input) (k : ℕ) (o : Outcome) (a : Entry Event) (at_k : slice_get (events_of f p b u) k ≡ Some a) (offered : In o (outcomes (alternatives a.event)))
      (path : path_of (traced f p.layouts) (events_of f p b u) ≡ path_at p b u) where
    abbrev q : Path
    q = take k (path_at p b u)

    abbrev pub here : List Atom
    here = atoms_of o (alternatives a.event)

    pub long : length q ≡ k
    long = length_taken k (path_at p b u) (let e = sym (length_path (events_of f p b u)) ∙ ap length path in let h = got_below (events_of f p b u) k a at_k in omega (arith, e, h))

    at_q : slice_get (events_of f p b u) (length q) ≡ Some a
    at_q = ap (λ (n : ℕ). slice_get (events_of f p b u) n) long ∙ at_k

    pub last_is : last_atoms (next q o) (events_of f p b u) ≡ here
    last_is = last_there (events_of f p b u) q o a at_q

    pub condition_is : condition_at (next q o) (events_of f p b u) ≡ condition k (events_of f p b u) ++ here
    condition_is = parted (events_of f p b u) q o ∙ ap₂ (λ (n : ℕ) (m : List Atom). condition n (events_of f p b u) ++ m) long last_is

    pub before_is : condition (length (next q o) - 1) (events_of f p b u) ≡ condition k (events_of f p b u)
    before_is = ap (λ (n : ℕ). condition n (events_of f p b u)) (let e = length_next q o in let g = long in omega (arith, e, g))

    -- an event that offers an alternative up to the first term comes before it
    before_term : k ≤ clean (events_of f p b u) → k < clean (events_of f p b u)
    before_term h = elim (eqb_tells k (clean (events_of f p b u))) [
      | inr n ↦ let m = n.1 in omega (arith, h, m)
      | inl e ↦ absurd (subst (λ (l : List Choice). In o (outcomes l)) (none_at_term (events_of f p b u) a (subst (λ (n : ℕ). slice_get (events_of f p b u) n ≡ Some a) e.1 at_k)) offered)
    ]

    module _ (exact : k ≤ clean (events_of f p b u) → Exact f p b u k) (exhausts : k < clean (events_of f p b u) → Exhausts f p b u k) (le : k ≤ clean (events_of f p b u)) (h : Input) (is : IsInput p b h) where
      -- the alternative's choice there
      abbrev Alternative : Entry Event → Type 0
      Alternative x = (c : Choice) × In c (outcomes_of x.event) × (c.outcome ≡ o) × (c.atoms ≡ here)

      alternative : (x : Entry Event) → slice_get (events_of f p b u) k ≡ Some x → Alternative x
      alternative x e = subst Alternative (some_same a x (sym at_k ∙ e)) (let c = chosen o (alternatives a.event) offered in (c.0, inr c.1, c.2, c.3))

      taken_same : take k (path_at p b h) ≡ q → take (length q) (path_at p b h) ≡ q
      taken_same e = ap (λ (n : ℕ). take n (path_at p b h)) long ∙ e

      pub turns : Meets (values_at f p b u h) (condition k (events_of f p b u) ++ here) → BeginsWith (path_at p b h) (next q o)
      turns m =
          let s = ((exact le).exactly h is).1 (Meets-front (values_at f p b u h) (condition k (events_of f p b u)) here m) in
          let t = (exhausts (before_term le)).told h is s in
          let c = alternative t.here t.at_k in
          let e : o ≡ t.outcome = sym c.2 ∙ (t.exactly c.0 c.1).1 (subst (Meets (values_at f p b u h)) (sym c.3) (Meets-back (values_at f p b u h) (condition k (events_of f p b u)) here m)) in
          at_next (path_at p b h) q o (taken_same s) (ap (λ (n : ℕ). slice_get (path_at p b h) n) long ∙ t.of_h ∙ ap Some (sym e))

      pub meets_then : BeginsWith (path_at p b h) (next q o) → Meets (values_at f p b u h) (condition k (events_of f p b u) ++ here)
      meets_then bh =
          let s : take k (path_at p b h) ≡ q = ap (λ (n : ℕ). take n (path_at p b h)) (sym long) ∙ take_begins (path_at p b h) q (begins_next (path_at p b h) q o bh) in
          let t = (exhausts (before_term le)).told h is s in
          let c = alternative t.here t.at_k in
          let e : t.outcome ≡ o = some_same t.outcome o (sym t.of_h ∙ ap (λ (n : ℕ). slice_get (path_at p b h) n) (sym long) ∙ next_at (path_at p b h) q o bh) in
          Meets-append (values_at f p b u h) (condition k (events_of f p b u)) here (((exact le).exactly h is).0 s)
          (subst (Meets (values_at f p b u h)) c.3 ((t.exactly c.0 c.1).0 (c.2 ∙ sym e)))
