-- The lists of places that edges lead to.
use Rattle.std.proofs.Common.{◌≡◌, ◌∙◌, refl, sym, ap, subst, ℕ, suc, ◌+◌, ◌<◌, ◌≤◌, ◌⊎◌, inl, inr, Bool, true, false, ◌&&◌, if◌then◌else◌, nat_lt, List, [], ◌∷◌, ◌++◌, length, get_or, slice_get, Option, Some, None, unwrap_or, arith, add-one}
use Rattle.std.proofs.lemmas.Bool.{ltb-true, ltb-false}
use Rattle.std.proofs.lemmas.List.{length_push, get_or_push, get_or_append_left, get_or_default, append-nil}
use Rattle.std.proofs.lemmas.List.Elements.{Contains-push, Contains-push_cases, Contains-append_left}
use Rattle.std.specs.List.{Contains}
use Rattle.std.specs.List.Sorted.{IsStrictlyIncreasing}
use Rattle.tac_lower.specs.declared.instr.Instr.{Instr}
use Rattle.tac_lower.specs.declared.tac.Tac.{Tac}
use Rattle.tac_lower.specs.declared.flow.Way.TheVariants as ways
use Rattle.tac_lower.specs.Flow.{way, last_first, AreThose, IsPlace, Calls, IsBehind, GoesTo, LeadsTo, AreSuccessors}
use Rattle.tac_lower.specs.Edges.{one_of, pair_of, place_at, two_of, Behind, BehindUpTo, Reached}

-- ---- lists of numbers

bool_cases : (b : Bool) → (b ≡ true) ⊎ (b ≡ false)
bool_cases true = inl refl
bool_cases false = inr refl

order_cases : (m n : ℕ) → (m < n) ⊎ (n ≤ m)
order_cases m n = elim (bool_cases (nat_lt m n)) [ inl e ↦ inl (ltb-true m n e) | inr e ↦ inr (ltb-false m n e) ]

pub none_those : (P : ℕ → Type 0) → ((n : ℕ) → P n → ⊥) → AreThose P []
none_those P h = (λ k lt. absurd (omega (arith, lt)), λ n. (λ c. absurd (let lt = c.1 in omega (arith, lt)), λ p. absurd (h n p)))

pub same_those : (P Q : ℕ → Type 0) (l : List ℕ) → AreThose P l → ((n : ℕ) → P n → Q n) → ((n : ℕ) → Q n → P n) → AreThose Q l
same_those P Q l a f g = (a.0, λ n. (λ c. f n ((a.1 n).0 c), λ q. (a.1 n).1 (g n q)))

pushed_rises : (l : List ℕ) (x : ℕ) → IsStrictlyIncreasing l → ((n : ℕ) → Contains l n → n < x) → IsStrictlyIncreasing (l ++ x ∷ [])
pushed_rises l x r below k lt =
    let long = length_push l x in
    let inside : k < length l = omega (arith, lt, long) in
    let here : get_or (l ++ x ∷ []) k 0 ≡ get_or l k 0 = get_or_append_left l (x ∷ []) 0 k inside in
    elim (order_cases (k + 1) (length l)) [
      | inl more ↦ (let g = r k more in let there : get_or (l ++ x ∷ []) (k + 1) 0 ≡ get_or l (k + 1) 0 = get_or_append_left l (x ∷ []) 0 (k + 1) more in omega (arith, g, here, there))
      | inr over ↦ (let there : get_or (l ++ x ∷ []) (k + 1) 0 ≡ x = get_or_push l x 0 (k + 1) (omega (arith, over, inside)) in let g = below (get_or l k 0) (k, inside, get_or_default l k (get_or l k 0) 0 inside) in omega (arith, g, here, there))
    ]

-- the list with x at its end
pub pushed_those : (P Q : ℕ → Type 0) (l : List ℕ) (x : ℕ) → AreThose P l → ((n : ℕ) → P n → n < x) → ((n : ℕ) → P n → Q n) → Q x → ((n : ℕ) → Q n → P n ⊎ (n ≡ x)) → AreThose Q (l ++ x ∷ [])
pushed_those P Q l x a below more here only = (
  pushed_rises l x a.0 (λ n c. below n ((a.1 n).0 c)),
  λ n. (
    λ c. elim (Contains-push_cases l x n c) [ inl d ↦ more n ((a.1 n).0 d) | inr e ↦ subst Q e here ],
    λ q. elim (only n q) [ inl p ↦ Contains-append_left l (x ∷ []) n ((a.1 n).1 p) | inr e ↦ subst (λ z. Contains (l ++ x ∷ []) z) (sym e) (Contains-push l x) ],
  ),
)

-- ---- places

abbrev nothing : Option ℕ
nothing = None

abbrev code_of : Option ℕ → ℕ
code_of None = 0
code_of (Some n) = suc n

placed_by : (to m : ℕ) (a b : Bool) → nat_lt to m ≡ a → nat_lt to 4294967296 ≡ b → (n : ℕ) → (if a && b then Some to else None) ≡ Some n → (n ≡ to) × ((to < m) × (to < 4294967296))
placed_by to m true true p q n e = (let f = ap code_of e in omega (arith, f), (ltb-true to m p, ltb-true to 4294967296 q))
placed_by to m true false p q n e = absurd (let f = ap code_of e in omega (arith, f))
placed_by to m false b p q n e = absurd (let f = ap code_of e in omega (arith, f))

unplaced_by : (to m : ℕ) (a b : Bool) → nat_lt to m ≡ a → nat_lt to 4294967296 ≡ b → (if a && b then Some to else None) ≡ nothing → to < m → to < 4294967296 → ⊥
unplaced_by to m true true p q e x y = let f = ap code_of e in omega (arith, f)
unplaced_by to m true false p q e x y = let f = ltb-false to 4294967296 q in omega (arith, f, y)
unplaced_by to m false b p q e x y = let f = ltb-false to m p in omega (arith, f, x)

pub placed : (t : Tac) (to n : ℕ) → place_at t to ≡ Some n → (n ≡ to) × IsPlace t to
placed t to n e = placed_by to (length t.code) (nat_lt to (length t.code)) (nat_lt to 4294967296) refl refl n e

pub unplaced : (t : Tac) (to : ℕ) → place_at t to ≡ None → IsPlace t to → ⊥
unplaced t to e h = unplaced_by to (length t.code) (nat_lt to (length t.code)) (nat_lt to 4294967296) refl refl e h.0 h.1

module _ (t : Tac) where
  add_by : (P : ℕ → Type 0) (l : List ℕ) (b : ℕ) (o : Option ℕ) → place_at t b ≡ o → AreThose P l → ((n : ℕ) → P n → n < b) → AreThose (λ n. P n ⊎ (IsPlace t n × (n ≡ b))) (l ++ one_of o)
  add_by P l b None e a below = subst (AreThose (λ n. P n ⊎ (IsPlace t n × (n ≡ b)))) (sym (append-nil l))
      (same_those P (λ n. P n ⊎ (IsPlace t n × (n ≡ b))) l a (λ n p. inl p) (λ n q. elim q [ inl p ↦ p | inr h ↦ absurd (unplaced t b e (subst (IsPlace t) h.1 h.0)) ]))
  add_by P l b (Some m) e a below =
      let is = placed t b m e in
      subst (λ x. AreThose (λ n. P n ⊎ (IsPlace t n × (n ≡ b))) (l ++ x ∷ [])) (sym is.0)
      (pushed_those P (λ n. P n ⊎ (IsPlace t n × (n ≡ b))) l b a below (λ n p. inl p) (inr (is.1, refl)) (λ n q. elim q [ inl p ↦ inl p | inr h ↦ inr h.1 ]))

  one_place : (a : ℕ) → AreThose (λ n. IsPlace t n × (n ≡ a)) (one_of (place_at t a))
  one_place a = same_those (λ n. ⊥ ⊎ (IsPlace t n × (n ≡ a))) (λ n. IsPlace t n × (n ≡ a)) (one_of (place_at t a))
      (add_by (λ n. ⊥) [] a (place_at t a) refl (none_those (λ n. ⊥) (λ n e. e)) (λ n e. absurd e))
      (λ n q. elim q [ inl e ↦ absurd e | inr h ↦ h ]) (λ n h. inr h)

  alone : (a : ℕ) → AreThose (λ n. IsPlace t n × (n ≡ a)) (pair_of (place_at t a) None)
  alone a = subst (AreThose (λ n. IsPlace t n × (n ≡ a))) (sym (append-nil (one_of (place_at t a)))) (one_place a)

  both : (a b : ℕ) → a < b → AreThose (λ n. (IsPlace t n × (n ≡ a)) ⊎ (IsPlace t n × (n ≡ b))) (pair_of (place_at t a) (place_at t b))
  both a b lt = add_by (λ n. IsPlace t n × (n ≡ a)) (one_of (place_at t a)) b (place_at t b) refl (one_place a) (λ n h. let e = h.1 in omega (arith, lt, e))

  two_by : (a b : ℕ) (c d : Bool) → nat_lt a b ≡ c → nat_lt b a ≡ d → AreThose (λ n. IsPlace t n × ((n ≡ a) ⊎ (n ≡ b))) (if c then pair_of (place_at t a) (place_at t b) else (if d then pair_of (place_at t b) (place_at t a) else pair_of (place_at t a) None))
  two_by a b true d p q = same_those (λ n. (IsPlace t n × (n ≡ a)) ⊎ (IsPlace t n × (n ≡ b))) (λ n. IsPlace t n × ((n ≡ a) ⊎ (n ≡ b))) (pair_of (place_at t a) (place_at t b)) (both a b (ltb-true a b p))
      (λ n h. elim h [ inl x ↦ (x.0, inl x.1) | inr y ↦ (y.0, inr y.1) ]) (λ n h. elim h.1 [ inl x ↦ inl (h.0, x) | inr y ↦ inr (h.0, y) ])
  two_by a b false true p q = same_those (λ n. (IsPlace t n × (n ≡ b)) ⊎ (IsPlace t n × (n ≡ a))) (λ n. IsPlace t n × ((n ≡ a) ⊎ (n ≡ b))) (pair_of (place_at t b) (place_at t a)) (both b a (ltb-true b a q))
      (λ n h. elim h [ inl x ↦ (x.0, inr x.1) | inr y ↦ (y.0, inl y.1) ]) (λ n h. elim h.1 [ inl x ↦ inr (h.0, x) | inr y ↦ inl (h.0, y) ])
  two_by a b false false p q =
      let m = ltb-false a b p in
      let k = ltb-false b a q in
      same_those (λ n. IsPlace t n × (n ≡ a)) (λ n. IsPlace t n × ((n ≡ a) ⊎ (n ≡ b))) (pair_of (place_at t a) None) (alone a) (λ n h. (h.0, inl h.1)) (λ n h. (h.0, elim h.1 [ inl x ↦ x | inr y ↦ omega (arith, m, k, y) ]))

  -- ---- by the way

  pub follows_beside : (at there : ℕ) (l : List ℕ) → l ≡ two_of t (at + 1) there → AreThose (Reached t at (ways.Beside there)) l
  follows_beside at there l e = subst (AreThose (Reached t at (ways.Beside there))) (sym e)
      (subst (λ a. AreThose (λ n. IsPlace t n × ((n ≡ a) ⊎ (n ≡ there))) (two_of t (at + 1) there)) (add-one at) (two_by (at + 1) there (nat_lt (at + 1) there) (nat_lt there (at + 1)) refl refl))

  pub follows_back : (at first : ℕ) (l : List ℕ) → first ≡ last_first at t.funcs → AreThose (Behind t first) l → AreThose (Reached t at ways.Back) l
  follows_back at first l e a = subst (λ x. AreThose (Behind t x) l) e a

  -- ---- behind calls

  pub skips_behind : (first at : ℕ) (l : List ℕ) → (Calls t first (slice_get t.code at) → IsPlace t (suc at) → ⊥) → AreThose (BehindUpTo t first at) l → AreThose (BehindUpTo t first (suc at)) l
  skips_behind first at l never a = same_those (BehindUpTo t first at) (BehindUpTo t first (suc at)) l a
      (λ n h. (let m = h.0 in omega (arith, m), h.1, h.2))
      (λ n h. (elim (order_cases n (suc at)) [ inl lt ↦ omega (arith, lt) | inr le ↦ (let e : n ≡ suc at = (let m = h.0 in omega (arith, m, le)) in absurd (never (subst (IsBehind t first) e h.2) (subst (IsPlace t) e h.1))) ], h.1, h.2))

  pub adds_behind : (first at next : ℕ) (l new : List ℕ) → Calls t first (slice_get t.code at) → place_at t (at + 1) ≡ Some next → new ≡ l ++ next ∷ [] → AreThose (BehindUpTo t first at) l → AreThose (BehindUpTo t first (suc at)) new
  adds_behind first at next l new calls e more a =
      let is = placed t (at + 1) next e in
      let this : next ≡ suc at = (let f = is.0 in omega (arith, f)) in
      subst (AreThose (BehindUpTo t first (suc at))) (sym (more ∙ ap (λ x. l ++ x ∷ []) this))
      (pushed_those (BehindUpTo t first at) (BehindUpTo t first (suc at)) l (suc at) a
      (λ n h. let m = h.0 in omega (arith, m))
      (λ n h. (let m = h.0 in omega (arith, m), h.1, h.2))
      (omega arith, subst (IsPlace t) (add-one at) is.1, calls)
      (λ n h. elim (order_cases n (suc at)) [ inl lt ↦ inl (omega (arith, lt), h.1, h.2) | inr le ↦ inr (let m = h.0 in omega (arith, m, le)) ]))

  pub all_behind : (first at : ℕ) (l : List ℕ) → length t.code ≤ at → AreThose (BehindUpTo t first at) l → AreThose (Behind t first) l
  all_behind first at l over a = same_those (BehindUpTo t first at) (Behind t first) l a (λ n h. (h.1, h.2)) (λ n h. (let m = h.0.0 in omega (arith, m, over), h.0, h.1))

  -- ---- edges

  pub leads : (at : ℕ) (i : Instr) (l : List ℕ) → slice_get t.code at ≡ Some i → AreThose (Reached t at (way i)) l → AreSuccessors t at l
  leads at i l e a = same_those (Reached t at (way i)) (LeadsTo t at) l a
      (λ n h. record { instruction = i; is = e; place = h.0; goes = h.1 })
      (λ n h. (h.place, subst (λ j. GoesTo t at (way j) n) (ap (λ o. unwrap_or o i) (sym h.is ∙ e)) h.goes))
