-- Trees keep their roots when a path is halved, and get one root when they are joined.
use Rattle.std.proofs.Common.{◌≡◌, ◌≢◌, ◌∙◌, ◌⊎◌, inl, inr, sym, ap, subst, arith, ℕ, ◌<◌, ◌≤◌, Bool, true, false, nat_eq, if◌then◌else◌, List, length, get_or, set, length-set, get_or-set_same, get_or-set_other}
use Rattle.std.proofs.lemmas.Bool.{cases_eq}
use Rattle.pointer_solver.specs.Forest.{up, IsForest, IsRooted, Joins}

same_or_not : (x y : ℕ) → (x ≡ y) ⊎ (x ≢ y)
same_or_not x y = cases_eq x y

-- the parents after a write
pub up_same : (p : List ℕ) (x v : ℕ) → x < length p → up (set p x v) x ≡ v
up_same p x v h = get_or-set_same p x v x h

pub up_other : (p : List ℕ) (x v z : ℕ) → z ≢ x → up (set p x v) z ≡ up p z
up_other p x v z h = get_or-set_other p x z v z h

-- ---- halving

-- the parent of the parent of a node that isn't a root has a higher rank
above_rises : (p r : List ℕ) → IsForest p r → (x : ℕ) → x < length p → up p x ≢ x → get_or r x 0 < get_or r (up p (up p x)) 0
above_rises p r f x h n = elim (same_or_not (up p (up p x)) (up p x)) [
  | inl e ↦ subst (λ (z : ℕ). get_or r x 0 < get_or r z 0) (sym e) (f.rises x h n)
  | inr m ↦ let a = f.rises x h n in let b = f.rises (up p x) (f.within x h) m in omega (arith, a, b)
]

pub halved_forest : (p r : List ℕ) (x : ℕ) → IsForest p r → x < length p → up p x ≢ x → IsForest (set p x (up p (up p x))) r
halved_forest p r x f h n =
    let v = up p (up p x) in
    let l = length-set p x v in
    let vin : v < length p = f.within (up p x) (f.within x h) in
    record {
      some = omega (arith, l, f.some);
      few = omega (arith, l, f.few);
      each = f.each ∙ sym l;
      within = λ z k. elim (same_or_not z x) [
        | inl e ↦ subst (λ (w : ℕ). up (set p x v) w < length (set p x v)) (sym e) (let u = up_same p x v h in omega (arith, u, l, vin))
        | inr m ↦ let u = up_other p x v z m in let w = f.within z (omega (arith, k, l)) in omega (arith, u, w, l)
      ];
      rises = λ z k m. elim (same_or_not z x) [
        | inl e ↦ subst (λ (w : ℕ). get_or r w 0 < get_or r (up (set p x v) w) 0) (sym e) (subst (λ (w : ℕ). get_or r x 0 < get_or r w 0) (sym (up_same p x v h)) (above_rises p r f x h n))
        | inr o ↦ let u = up_other p x v z o in subst (λ (w : ℕ). get_or r z 0 < get_or r w 0) (sym u) (f.rises z (omega (arith, k, l)) (λ e. m (u ∙ e)))
      ];
    }

pub halved_rooted : (p r : List ℕ) (x : ℕ) (root : ℕ → ℕ) → IsForest p r → x < length p → up p x ≢ x → IsRooted p root → IsRooted (set p x (up p (up p x))) root
halved_rooted p r x root f h n t =
    let v = up p (up p x) in
    record {
      step = λ z. elim (same_or_not z x) [
        | inl e ↦ subst (λ (w : ℕ). root (up (set p x v) w) ≡ root w) (sym e) (ap root (up_same p x v h) ∙ t.step (up p x) ∙ t.step x)
        | inr m ↦ ap root (up_other p x v z m) ∙ t.step z
      ];
      fixed = λ z e. elim (same_or_not z x) [
        | inl i ↦ let s : v ≡ x = sym (up_same p x v h) ∙ subst (λ (w : ℕ). up (set p x v) w ≡ w) i e in let k = above_rises p r f x h n in
            absurd (let q : get_or r x 0 < get_or r x 0 = subst (λ (w : ℕ). get_or r x 0 < get_or r w 0) s k in omega (arith, q))
        | inr m ↦ t.fixed z (sym (up_other p x v z m) ∙ e)
      ];
      top = λ z. elim (same_or_not (root z) x) [
        | inl i ↦ absurd (n (subst (λ (w : ℕ). up p w ≡ w) i (t.top z)))
        | inr m ↦ up_other p x v (root z) m ∙ t.top z
      ];
    }

pub halved_fixed : (p : List ℕ) (x v : ℕ) → up p x ≢ x → (z : ℕ) → up p z ≡ z → up (set p x v) z ≡ z
halved_fixed p x v n z e = elim (same_or_not z x) [
  | inl i ↦ absurd (n (subst (λ (w : ℕ). up p w ≡ w) i e))
  | inr m ↦ up_other p x v z m ∙ e
]

-- ---- hanging

pub relink : (ℕ → ℕ) → ℕ → ℕ → ℕ → ℕ
relink root x y z = if nat_eq (root z) x then y else root z

relink_at : (root : ℕ → ℕ) (x y z : ℕ) → root z ≡ x → relink root x y z ≡ y
unfolding relink
relink_at root x y z e = ap (λ (b : Bool). if b then y else root z) (eqb-refl (root z) x e)
  where
    eqb-refl : (a b : ℕ) → a ≡ b → nat_eq a b ≡ true
    eqb-refl a b h = grind arith

relink_off : (root : ℕ → ℕ) (x y z : ℕ) → root z ≢ x → relink root x y z ≡ root z
unfolding relink
relink_off root x y z n = ap (λ (b : Bool). if b then y else root z) (eqb-ne (root z) x n)
  where
    eqb-ne : (a b : ℕ) → a ≢ b → nat_eq a b ≡ false
    eqb-ne a b h = grind arith

relink_same : (root : ℕ → ℕ) (x y z w : ℕ) → root z ≡ root w → relink root x y z ≡ relink root x y w
unfolding relink
relink_same root x y z w e = ap (λ (t : ℕ). if nat_eq t x then y else t) e

module _ (p : List ℕ) (root : ℕ → ℕ) (x y : ℕ) (h : x < length p) (ex : up p x ≡ x) (ey : up p y ≡ y) (n : x ≢ y) (t : IsRooted p root) where
  root_y : root y ≢ x
  root_y e = n (sym e ∙ t.fixed y ey)

  pub hung_rooted : IsRooted (set p x y) (relink root x y)
  hung_rooted = record {
    step = λ z. elim (same_or_not z x) [
      | inl e ↦ subst (λ (w : ℕ). relink root x y (up (set p x y) w) ≡ relink root x y w) (sym e)
          (ap (relink root x y) (up_same p x y h) ∙ relink_off root x y y root_y ∙ t.fixed y ey ∙ sym (relink_at root x y x (t.fixed x ex)))
      | inr m ↦ ap (relink root x y) (up_other p x y z m) ∙ relink_same root x y (up p z) z (t.step z)
    ];
    fixed = λ z e. elim (same_or_not z x) [
      | inl i ↦ absurd (n (sym (subst (λ (w : ℕ). up (set p x y) w ≡ w) i e) ∙ up_same p x y h))
      | inr m ↦ let r : root z ≡ z = t.fixed z (sym (up_other p x y z m) ∙ e) in relink_off root x y z (λ q. m (sym r ∙ q)) ∙ r
    ];
    top = λ z. elim (same_or_not (root z) x) [
      | inl i ↦ subst (λ (w : ℕ). up (set p x y) w ≡ w) (sym (relink_at root x y z i)) (up_other p x y y (λ q. n (sym q)) ∙ ey)
      | inr m ↦ subst (λ (w : ℕ). up (set p x y) w ≡ w) (sym (relink_off root x y z m)) (up_other p x y (root z) m ∙ t.top z)
    ];
  }

  pub hung_joins : Joins root (relink root x y) x y
  hung_joins = record {
    kept = λ u v e. relink_same root x y u v e;
    joined = relink_at root x y x (t.fixed x ex) ∙ sym (relink_off root x y y root_y ∙ t.fixed y ey);
    only = λ u v e. elim (same_or_not (root u) x) [
      | inl i ↦ elim (same_or_not (root v) x) [
        | inl j ↦ inl (i ∙ sym j)
        | inr k ↦ inr (inl (i ∙ sym (t.fixed x ex), sym (relink_off root x y v k) ∙ sym e ∙ relink_at root x y u i ∙ sym (t.fixed y ey)))
      ]
      | inr m ↦ elim (same_or_not (root v) x) [
        | inl j ↦ inr (inr (sym (relink_off root x y u m) ∙ e ∙ relink_at root x y v j ∙ sym (t.fixed y ey), j ∙ sym (t.fixed x ex)))
        | inr k ↦ inl (sym (relink_off root x y u m) ∙ e ∙ relink_off root x y v k)
      ]
    ];
  }

-- joining is symmetric
pub Joins-turned : (old new : ℕ → ℕ) (a b : ℕ) → Joins old new a b → Joins old new b a
Joins-turned old new a b j = record {
  kept = j.kept;
  joined = sym j.joined;
  only = λ x y e. elim (j.only x y e) [ inl i ↦ inl i | inr k ↦ elim k [ inl i ↦ inr (inr i) | inr i ↦ inr (inl i) ] ];
}

pub hung_forest : (p r : List ℕ) (x y k : ℕ) → IsForest p r → x < length p → y < length p → up p x ≡ x → up p y ≡ y → x ≢ y → get_or r x 0 < k → get_or r y 0 ≤ k → IsForest (set p x y) (set r y k)
hung_forest p r x y k f h i ex ey n a b =
    let l = length-set p x y in let m = length-set r y k in let e = f.each in
    let yr : y < length r = omega (arith, e, i) in
    let ry = get_or-set_same r y k 0 yr in
    record {
      some = omega (arith, l, f.some);
      few = omega (arith, l, f.few);
      each = m ∙ e ∙ sym l;
      within = λ z j. elim (same_or_not z x) [
        | inl q ↦ subst (λ (w : ℕ). up (set p x y) w < length (set p x y)) (sym q) (let u = up_same p x y h in omega (arith, u, l, i))
        | inr o ↦ let u = up_other p x y z o in let w = f.within z (omega (arith, j, l)) in omega (arith, u, w, l)
      ];
      rises = λ z j o. elim (same_or_not z x) [
        | inl q ↦ subst (λ (w : ℕ). get_or (set r y k) w 0 < get_or (set r y k) (up (set p x y) w) 0) (sym q)
            (let u = up_same p x y h in let s = get_or-set_other r y x k 0 n in
            subst (λ (w : ℕ). get_or (set r y k) x 0 < get_or (set r y k) w 0) (sym u) (omega (arith, s, ry, a)))
        | inr q ↦ let u = up_other p x y z q in
            let g = f.rises z (omega (arith, j, l)) (λ d. o (u ∙ d)) in
            let zy : z ≢ y = λ d. o (u ∙ subst (λ (w : ℕ). up p w ≡ w) (sym d) ey) in
            let s = get_or-set_other r y z k 0 zy in
            subst (λ (w : ℕ). get_or (set r y k) z 0 < get_or (set r y k) w 0) (sym u) (elim (same_or_not (up p z) y) [
              | inl d ↦ subst (λ (w : ℕ). get_or (set r y k) z 0 < get_or (set r y k) w 0) (sym d) (let g' : get_or r z 0 < get_or r y 0 = subst (λ (w : ℕ). get_or r z 0 < get_or r w 0) d g in omega (arith, s, ry, g', b))
              | inr d ↦ let v = get_or-set_other r y (up p z) k 0 d in omega (arith, s, v, g)
            ])
      ];
    }

-- joining roots is joining the nodes below them
pub Joins-below : (p : List ℕ) (old new : ℕ → ℕ) (a b c d : ℕ) → IsRooted p old → Joins old new c d → c ≡ old a → d ≡ old b → Joins old new a b
Joins-below p old new a b c d t j e f =
    let g : old c ≡ old a = ap old e ∙ t.fixed (old a) (t.top a) in
    let h : old d ≡ old b = ap old f ∙ t.fixed (old b) (t.top b) in
    record {
      kept = j.kept;
      joined = sym (j.kept c a g) ∙ j.joined ∙ j.kept d b h;
      only = λ x y i. elim (j.only x y i) [
        | inl k ↦ inl k
        | inr k ↦ elim k [ inl m ↦ inr (inl (m.0 ∙ g, m.1 ∙ h)) | inr m ↦ inr (inr (m.0 ∙ h, m.1 ∙ g)) ]
      ];
    }
