-- The cells are laid one after the other.
use Rattle.std.proofs.Common.{◌≡◌, ◌≢◌, ℕ, suc, ◌+◌, ◌^◌, ◌<◌, inl, inr, Bool, true, false, nat_eq, ℤ, pos, List, [], ◌∷◌, ◌++◌, length, slice_get, Option, Some, None, if◌then◌else◌, refl, sym, ap, ap₂, ◌∙◌, subst, subst₂, arith}
use Rattle.std.specs.Option.{option_map}
use Rattle.std.proofs.lemmas.List.{append-nil}
use Rattle.std.proofs.lemmas.Bool.Decides.{nat_tests}
use Rattle.std.proofs.lemmas.Option.{slice_get-map}
use Rattle.std.specs.Ordering.{nat_cmp}
use Rattle.std.specs.BTreeMap.{BTreeMap, get}
use Rattle.cc_base.specs.declared.cells.CellTy.{CellTy}
use Rattle.cc_base.specs.declared.cells.CellTy.TheVariants as ty
use Rattle.cc_base.specs.declared.cells.TyId.{TyId}
use Rattle.cc_model.specs.CheckedProgram.{cell_of}
use Rattle.cc_model.specs.Core.{Cell, int_cell, ptr_cell}
use Rattle.input_map.specs.declared.building.Due.{Due}
use Rattle.input_map.specs.declared.building.Laying.{Laying}
use Rattle.input_map.specs.Laying.{Spot, Plan, spots, behind, at_block, block_of, Blocks, Holds, Passes, Lays, begun, one_more, spot_of, spots_of, Puts, AreBlocks, Changes, Passed, Stands, Finished, number_there}
use Rattle.input_map.proofs.Lists.{some_same, get_back, passed}

-- ---- lists of cells

pub length_spots_of : (l : List Due) → length (spots_of l) ≡ length l
length_spots_of [] = refl
length_spots_of (d ∷ l) = ap suc (length_spots_of l)

pub spots_of_append : (l m : List Due) → spots_of (l ++ m) ≡ spots_of l ++ spots_of m
spots_of_append [] m = refl
spots_of_append (d ∷ l) m = ap (λ t. spot_of d ∷ t) (spots_of_append l m)

pub spots_push : (f : ℕ → Option ℕ) (j : ℕ) (cs : List Cell) (c : Cell) → spots f j (cs ++ c ∷ []) ≡ spots f j cs ++ record { cell = c; place = f (j + length cs) } ∷ []
spots_push f j [] c = ap (λ k. record { cell = c; place = f k } ∷ []) (let e : j ≡ j + 0 = omega arith in e)
spots_push f j (d ∷ cs) c = ap (λ t. record { cell = d; place = f j } ∷ t)
    (spots_push f (suc j) cs c ∙ ap (λ k. spots f (suc j) cs ++ record { cell = c; place = f k } ∷ []) (let e : suc j + length cs ≡ j + suc (length cs) = omega arith in e))

-- a block's cells are found by the number of its touched place
behind_by : (p : Plan) (o : Option ℕ) (j : ℕ) → at_block p.found (block_of o) j ≡ behind p o j
behind_by p None j = refl
behind_by p (Some t) j = ap (λ q. p.found q j) (let e : t + 2 ≡ suc (suc t) = omega arith in e)

spots_same : (f g : ℕ → Option ℕ) → ((j : ℕ) → f j ≡ g j) → (j : ℕ) (cs : List Cell) → spots f j cs ≡ spots g j cs
spots_same f g h j [] = refl
spots_same f g h j (c ∷ cs) = ap₂ (λ (o : Option ℕ) (t : List Spot). record { cell = c; place = o } ∷ t) (h j) (spots_same f g h (suc j) cs)

pub spots_behind : (p : Plan) (o : Option ℕ) (cs : List Cell) → spots (at_block p.found (block_of o)) 0 cs ≡ spots (behind p o) 0 cs
spots_behind p o cs = spots_same (at_block p.found (block_of o)) (behind p o) (behind_by p o) 0 cs

-- ---- one cell

-- what the map has at a class
old_is : (o : Option ℕ) (z : ℤ) → option_map pos o ≡ Some z → (a : ℕ) × (o ≡ Some a) × (z ≡ pos a)
old_is None z e = absurd (cc e)
old_is (Some a) z e = (a, refl, cc e)

none_is : (o : Option ℕ) → option_map pos o ≡ None → o ≡ None
none_is None e = refl
none_is (Some a) e = absurd (cc e)

put_kept : (t : Bool) (n : ℕ) (z : ℤ) (o : Option ℤ) (m : Option ℕ) → z ≡ pos n → o ≡ option_map pos m → (if t then Some z else o) ≡ option_map pos (if t then Some n else m)
put_kept true n z o m e f = ap Some e
put_kept false n z o m e f = f

equal : (c : ℕ) → nat_eq c c ≡ true
equal c = grind (arith, nat_tests)

module _ (p : Plan) where
  keeps : (s : Spot) (z : ℤ) (old : Laying) → ((block : Blocks) → AreBlocks old.blocks block → Holds p block s.cell s.place z) → Changes p s z old old
  keeps s z old h = (
    refl,
    λ block k. record {
      more = [];
      after = block;
      due = sym (append-nil (spots_of old.due));
      kept = k;
      passes = record { holds = h block k; change = inl (record { no_cells = refl; same = λ c. refl }) };
    },
  )

  module _ (t id : ℕ) (old : Laying) where
    abbrev spot : Spot
    spot = record { cell = ptr_cell t; place = Some id }

    a_null : p.class id ≡ 0 → Changes p spot (pos 0) old old
    a_null e = keeps spot (pos 0) old (λ block k. inl (e, refl))

    an_old : (z : ℤ) → p.class id ≢ 0 → get nat_cmp old.blocks (p.class id) ≡ Some z → Changes p spot z old old
    an_old z n e = keeps spot z old (λ block k. let r = old_is (block (p.class id)) z (sym (k (p.class id)) ∙ e) in inr (n, r.0, r.1, r.2))

    a_new : (new : Laying) (z : ℤ) → p.class id ≢ 0 → get nat_cmp old.blocks (p.class id) ≡ None → z ≡ pos (suc (length old.due)) → new.cells ≡ old.cells
        → spots_of new.due ≡ spots_of old.due ++ spots (at_block p.found (block_of (p.owner (p.class id)))) 0 (p.layouts t)
        → Puts old.blocks (p.class id) z new.blocks → Changes p spot z old new
    a_new new z n e f g l q = (
      g,
      λ block k.
          let next : ℕ = suc (length (spots_of old.due)) in
          let is : z ≡ pos next = f ∙ ap (λ m. pos (suc m)) (sym (length_spots_of old.due)) in
          let after : Blocks = λ c. if nat_eq (p.class id) c then Some next else block c in record {
            more = spots (at_block p.found (block_of (p.owner (p.class id)))) 0 (p.layouts t);
            after = after;
            due = l;
            kept = λ c. q c ∙ put_kept (nat_eq (p.class id) c) next z (get nat_cmp old.blocks c) (block c) is (k c);
            passes = record {
              holds = inr (n, next, ap (λ b. if b then Some next else block (p.class id)) (equal (p.class id)), is);
              change = inr (record {
                type = t;
                id = id;
                cell = refl;
                place = refl;
                not_null = n;
                is_new = none_is (block (p.class id)) (sym (k (p.class id)) ∙ e);
                cells = spots_behind p (p.owner (p.class id)) (p.layouts t);
                named = λ c. refl;
              });
            };
          },
    )

  -- ---- the same, by what the code has

  pub int_value : (d : Due) (z : ℤ) (old : Laying) → d.ty ≡ ty.Int → z ≡ number_there p.number p.base d.place → Changes p (spot_of d) z old old
  int_value d z old e f = keeps (spot_of d) z old (λ block k. subst (λ (c : CellTy). Holds p block (cell_of c) d.place z) (sym e) (by_place block d.place f))
    where
      by_place : (block : Blocks) (o : Option ℕ) → z ≡ number_there p.number p.base o → Holds p block int_cell o z
      by_place block None g = g
      by_place block (Some id) g = g

  pub pointer_value : (d : Due) (t : TyId) (z : ℤ) (old new : Laying) → d.ty ≡ ty.Ptr t → Changes p (record { cell = ptr_cell t.0; place = d.place }) z old new → Changes p (spot_of d) z old new
  pointer_value d t z old new e h = subst (λ (c : CellTy). Changes p (record { cell = cell_of c; place = d.place }) z old new) (sym e) h

  pub no_place : (t : ℕ) (o : Option ℕ) (old : Laying) → o ≡ None → Changes p (record { cell = ptr_cell t; place = o }) (pos 0) old old
  no_place t o old e = subst (λ (x : Option ℕ). Changes p (record { cell = ptr_cell t; place = x }) (pos 0) old old) (sym e) (keeps (record { cell = ptr_cell t; place = None }) (pos 0) old (λ block k. refl))

  module _ (t id c : ℕ) (o : Option ℕ) (place : o ≡ Some id) (class : c ≡ p.class id) where
    at_place : (z : ℤ) (old new : Laying) → Changes p (record { cell = ptr_cell t; place = Some id }) z old new → Changes p (record { cell = ptr_cell t; place = o }) z old new
    at_place z old new h = subst (λ (x : Option ℕ). Changes p (record { cell = ptr_cell t; place = x }) z old new) (sym place) h

    pub null_value : (old : Laying) → c ≡ 0 → Changes p (record { cell = ptr_cell t; place = o }) (pos 0) old old
    null_value old f = at_place (pos 0) old old (a_null t id old (sym class ∙ f))

    pub old_value : (z known : ℤ) (old : Laying) → z ≡ known → c ≢ 0 → get nat_cmp old.blocks c ≡ Some known → Changes p (record { cell = ptr_cell t; place = o }) z old old
    old_value z known old e n f = at_place z old old (an_old t id old z (λ x. n (class ∙ x)) (ap (get nat_cmp old.blocks) (sym class) ∙ f ∙ ap Some (sym e)))

    pub new_value : (z : ℤ) (n : ℕ) (old new : Laying) → z ≡ pos n → c ≢ 0 → get nat_cmp old.blocks c ≡ None → n ≡ suc (length old.due) → new.cells ≡ old.cells
        → spots_of new.due ≡ spots_of old.due ++ spots (at_block p.found (block_of (p.owner c))) 0 (p.layouts t) → Puts old.blocks c (pos (suc (length old.due))) new.blocks
        → Changes p (record { cell = ptr_cell t; place = o }) z old new
    new_value z n old new is d f e g l q = at_place z old new (a_new t id old new z (λ x. d (class ∙ x)) (ap (get nat_cmp old.blocks) (sym class) ∙ f) (is ∙ ap pos e) g
        (subst (λ k. spots_of new.due ≡ spots_of old.due ++ spots (at_block p.found (block_of (p.owner k))) 0 (p.layouts t)) class l)
        (subst₂ (λ (k : ℕ) (x : ℤ). Puts old.blocks k x new.blocks) class (sym (is ∙ ap pos e)) q))

  pub a_pass : (s : Spot) (z y : ℤ) (old mid new : Laying) → Changes p s z old mid → y ≡ z → new.due ≡ mid.due → new.blocks ≡ mid.blocks → new.cells ≡ mid.cells ++ y ∷ [] → Passed p s old new
  a_pass s z y old mid new c same e f g = (
    z,
    g ∙ ap₂ (λ l x. l ++ x ∷ []) c.0 same,
    λ block k. let m = c.1 block k in record {
      more = m.more;
      after = m.after;
      due = ap spots_of e ∙ m.due;
      kept = subst (λ (x : BTreeMap ℕ ℤ). AreBlocks x m.after) (sym f) m.kept;
      passes = m.passes;
    },
  )

  -- ---- all cells

  get_first : (l : List Spot) (s : Spot) → slice_get l 0 ≡ Some s → (rest : List Spot) × (l ≡ s ∷ rest)
  get_first [] s e = absurd (cc e)
  get_first (x ∷ l) s e = (l, ap (λ y. y ∷ l) (some_same x s e))

  get_none : (l : List Spot) → slice_get l 0 ≡ None → l ≡ []
  get_none [] e = refl
  get_none (x ∷ l) e = absurd (cc e)

  length_push : {A : Type 0} (l : List A) (x : A) → length (l ++ x ∷ []) ≡ suc (length l)
  length_push [] x = refl
  length_push (y ∷ l) x = ap suc (length_push l x)

  lays_length : (first done due : List Spot) (zs : List ℤ) (block : Blocks) → Lays p first done due zs block → length zs ≡ length done
  lays_length first _ _ _ _ (begun block none) = refl
  lays_length first _ _ _ _ (one_more done rest more s zs z block new l q) = length_push zs z ∙ ap suc (lays_length first done (s ∷ rest) zs block l) ∙ sym (length_push done s)

  no_block : Blocks
  no_block c = None

  pub stands_first : (first : List Spot) (s : Laying) → spots_of s.due ≡ first → s.cells ≡ [] → ((c : ℕ) → get nat_cmp s.blocks c ≡ None) → Stands p first 0 s
  unfolding no_block
  stands_first first s e f g = record {
    done = [];
    rest = first;
    block = no_block;
    both = e;
    count = refl;
    kept = g;
    lays = subst (λ zs. Lays p first [] first zs no_block) (sym f) (begun no_block (λ c. refl));
  }

  module _ (first : List Spot) (at : ℕ) (old : Laying) (h : Stands p first at old) where
    reads : (o : Option Due) → slice_get old.due at ≡ o → slice_get h.rest 0 ≡ option_map spot_of o
    reads o e = sym (get_back h.done h.rest 0) ∙ ap (slice_get (h.done ++ h.rest)) (let c = h.count in omega (arith, c)) ∙ ap (λ l. slice_get l at) (sym h.both) ∙ slice_get-map spot_of old.due at ∙ ap (option_map spot_of) e

    pub stands_next : (new : Laying) (d : Due) → slice_get old.due at ≡ Some d → Passed p (spot_of d) old new → Stands p first (suc at) new
    stands_next new d e (z, f, passed_by) =
        let r = get_first h.rest (spot_of d) (reads (Some d) e) in
        let m = passed_by h.block h.kept in
        let both : spots_of old.due ≡ h.done ++ spot_of d ∷ r.0 = h.both ∙ ap (λ l. h.done ++ l) r.1 in record {
          done = h.done ++ spot_of d ∷ [];
          rest = r.0 ++ m.more;
          block = m.after;
          both = m.due ∙ ap (λ l. l ++ m.more) both ∙ sym (passed h.done r.0 m.more (spot_of d));
          count = length_push h.done (spot_of d) ∙ ap suc h.count;
          kept = m.kept;
          lays = subst (λ zs. Lays p first (h.done ++ spot_of d ∷ []) (r.0 ++ m.more) zs m.after) (sym f)
              (one_more h.done r.0 m.more (spot_of d) old.cells z h.block m.after
              (subst (λ l. Lays p first h.done l old.cells h.block) r.1 h.lays)
              (subst (λ l. Passes p (suc (length l)) h.block (spot_of d) z m.more m.after) both m.passes));
        }

    pub stands_end : slice_get old.due at ≡ None → at < 10 ^ 18 → Finished p first old.cells
    stands_end e few =
        let n = lays_length first h.done h.rest old.cells h.block h.lays in let c = h.count in (
          h.done,
          h.block,
          subst (λ l. Lays p first h.done l old.cells h.block) (get_none h.rest (reads None e)) h.lays,
          subst (λ m. m < 10 ^ 18) (sym (n ∙ c)) few,
        )
