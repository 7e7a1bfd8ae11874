-- The outcomes of a run fix its control: no path is a proper prefix of another, and one path has one end.
use Rattle.std.proofs.Common.{◌≡◌, ◌≢◌, ℕ, inl, inr, List, [], ◌∷◌, ◌++◌, length, refl, sym, ap, ◌∙◌, arith, length-append}
use Rattle.cc_base.specs.declared.outcomes.Outcome.{Outcome}
use Rattle.cc_base.specs.Paths.{GoesOnFrom}
use Rattle.cc_model.specs.Domain.{Act, act_arith, act_divisor, act_negate, act_compare, act_test, act_access, act_index, Domain}
use Rattle.cc_model.specs.Meaning.{Entry, State, Result, ok, over, Ran, Fixed, main}
use Rattle.cc_model.specs.Runs.{Begin, end_of, path_of, run}
use Rattle.cc_laws.proofs.Related.{Related, SameLogs, PartLogs, SameResult, SameRan, Void, Gives, same_main}
use Rattle.cc_laws.proofs.Outcomes.{same_or_not}

module _ (d : Domain) where
  given : (a : Act d.V) (o : Outcome) (v u : d.V) → Gives (λ v u. Unit {0}) (λ v u. Unit {0}) a o v u
  given (act_arith o a b) t v u = tt
  given (act_negate a) t v u = tt
  given (act_access a) t v u = λ z. tt
  given (act_index p i n k) t v u = tt
  given (act_divisor a b) t v u = tt
  given (act_compare o a b) t v u = tt
  given (act_test a) t v u = tt

  -- data are free: only the outcomes are compared
  abbrev Free : Related d d
  Free = record {
    W = Unit {0};
    Le = λ w w'. Unit {0};
    le_refl = λ w. tt;
    le_trans = λ w w' w'' h k. tt;
    RV = λ w v u. Unit {0};
    RL = λ w v u. Unit {0};
    later_value = λ w w' v u h k. tt;
    later_location = λ w w' v u h k. tt;
    RD = λ w v u. Unit {0};
    Ev = λ w v u. Unit {0};
    Part = λ w v u. d.outcome v ≢ d.outcome u;
    later_event = λ w w' a b le k. tt;
    number = λ w z. tt;
    nil = λ w. tt;
    address = λ w v u h. tt;
    offset = λ w v u n h. tt;
    global = λ w n. tt;
    load = λ w p q x y h k. tt;
    store = λ w p v q u x y h k l. tt;
    make = λ w t x y h. (tt, tt);
    take = λ w p q x y h k. (tt, tt, tt);
    act = λ w a b x y h k. elim (same_or_not (d.outcome (d.act a x).event) (d.outcome (d.act b y).event)) [
      | inl p ↦ inl (tt, tt, p, tt, given a _ (d.act a x).value (d.act b y).value, tt)
      | inr p ↦ inr p
    ];
  }

  same_path : (l m : List (Entry d.E)) → SameLogs d d Free tt l m → path_of d l ≡ path_of d m
  same_path [] [] h = refl
  same_path (a ∷ l) (b ∷ m) h = ap (λ o. o ∷ path_of d l) (h.0).outcome ∙ ap (λ p. d.outcome b.event ∷ p) (same_path l m h.1)
  same_path [] (b ∷ m) h = absurd h
  same_path (a ∷ l) [] h = absurd h

  head_of : (o p : Outcome) (l m : List Outcome) → o ∷ l ≡ p ∷ m → o ≡ p
  head_of o p l m h = cc h

  tail_of : (o p : Outcome) (l m : List Outcome) → o ∷ l ≡ p ∷ m → l ≡ m
  tail_of o p l m h = cc h

  -- paths that part go on apart
  parted : (l m : List (Entry d.E)) → PartLogs d d Free tt l m → (p q : List Outcome) → path_of d l ++ p ≢ path_of d m ++ q
  parted (a ∷ l) (b ∷ m) (inl h) p q e = parted l m h.1 p q (tail_of _ _ _ _ e)
  parted (a ∷ l) (b ∷ m) (inr h) p q e = h.2 (head_of _ _ _ _ e)
  parted [] [] h p q e = absurd h
  parted [] (b ∷ m) h p q e = absurd h
  parted (a ∷ l) [] h p q e = absurd h

  same_end : {A : Type 0} → (p q : Result (State d.V d.D) A) → (R : Unit {0} → A → A → Type 0) → SameResult d d Free tt R p q → end_of p ≡ end_of q
  same_end (ok a s) (ok b t) R h = refl
  same_end (over e s) (over f t) R h = h.0
  same_end (ok a s) (over f t) R h = absurd h
  same_end (over e s) (ok b t) R h = absurd h

  longer : (p : List Outcome) (o : Outcome) (rest : List Outcome) → p ≢ p ++ o ∷ rest
  longer p o rest e = absurd (omega (arith, ap length e, length-append p (o ∷ rest)))

  no_nil : (l : List Outcome) → l ++ [] ≡ l
  no_nil [] = refl
  no_nil (o ∷ l) = ap (λ m. o ∷ m) (no_nil l)

  module _ (x : Fixed) (steps events : ℕ) (b c : Begin d.V d.D) where
    abbrev whole : Begin d.V d.D → Ran d.E (State d.V d.D) (Unit {0})
    whole b = main d x (record { steps = steps; events = events; locals = b.locals; data_now = b.data_now })

    both_runs : SameRan d d Free tt (Void d d Free) (whole b) (whole c)
    both_runs = same_main d d Free x tt tt tt (record { steps = steps; events = events; locals = b.locals; data_now = b.data_now }) (record { steps = steps; events = events; locals = c.locals; data_now = c.data_now }) (record { steps = refl; events = refl; locals = λ n. tt; data_now = tt })

    -- no path is a proper prefix of another
    pub no_prefix : GoesOnFrom (path_of d (run d x steps events c).log) (path_of d (run d x steps events b).log) → ⊥
    unfolding run
    no_prefix h = elim both_runs [
      | inl s ↦ longer _ h.0 h.1 (same_path _ _ s.2 ∙ h.2)
      | inr s ↦ parted _ _ s.2 (h.0 ∷ h.1) [] (sym h.2 ∙ sym (no_nil _))
    ]

    -- one path has one end
    pub one_end : path_of d (run d x steps events b).log ≡ path_of d (run d x steps events c).log → end_of (run d x steps events b).result ≡ end_of (run d x steps events c).result
    unfolding run
    one_end h = elim both_runs [
      | inl s ↦ same_end (whole b).result (whole c).result (Void d d Free) s.3
      | inr s ↦ absurd (parted _ _ s.2 [] [] (ap (λ p. p ++ []) h))
    ]
