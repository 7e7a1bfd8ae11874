-- The sites of a tree are what its core tree needs.
use Rattle.std.proofs.Common.{ℕ, ◌<◌, ℤ, Bool, true, false, List, [], ◌∷◌, ◌++◌, map, flat_map, Option, Some, None, sym, subst}
use Rattle.cc_model.specs.declared.checked.Checked.{Checked}
use Rattle.cc_model.specs.declared.checked.Target.{Target}
use Rattle.cc_model.specs.declared.checked.Target.TheVariants as target
use Rattle.cc_model.specs.declared.checked.SiteKind.TheVariants.{Decision, Fit, Divisor, Index, Access}
use Rattle.cc_model.specs.declared.trees.Expr.{Expr}
use Rattle.cc_model.specs.declared.trees.Simple as source_simple
use Rattle.cc_model.specs.declared.trees.Simple.TheVariants as simple
use Rattle.cc_model.specs.declared.trees.Head.{Head}
use Rattle.cc_model.specs.declared.trees.Head.TheVariants as head
use Rattle.cc_model.specs.declared.trees.Decl.{Decl}
use Rattle.cc_model.specs.declared.trees.Declared.{Declared}
use Rattle.cc_model.specs.declared.trees.Initializer.{Initializer}
use Rattle.cc_model.specs.declared.trees.Stmt as source
use Rattle.cc_model.specs.declared.trees.Stmt.{Row_of-Part, more_of-Part, end_of-Part, more_of-Stmt, end_of-Stmt}
use Rattle.cc_model.specs.declared.trees.Stmt.TheVariants as stmt
use Rattle.cc_model.specs.declared.trees.Part.{Part}
use Rattle.cc_model.specs.declared.trees.Part.TheVariants as part
use Rattle.cc_model.specs.Core as tree
use Rattle.cc_model.specs.Core.{Val, Loc, Op, Stmt, Parts, Declarator}
use Rattle.cc_model.specs.Resolve.{Facts, Read, Piece, declares, does, by_value, by_place, vals_of, number_or_null, variable_named, expr_level, resolve, simple_of, declarator_of, start_value, value_if, truth_if, simple_if, head_simple, head_declarators, part_level, stmt_level, declared_before, parts_of, piece_of, body_of}
use Rattle.cc_model.specs.Sites.{Mark, at, Seen, always, decides, values_of, sites_level, sites_of, value_sites, truth_sites, simple_sites, simple_sites_if, value_sites_if, truth_sites_if, start_sites, head_sites, part_sites, stmt_sites, sites_of_part}
use Rattle.cc_model.proofs.Related.{AllRelated, Levels, related}
use Rattle.cc_model.proofs.Folds.{fold_of_stmt, fold_of_part, fold_of_parts, folds_part}
use Rattle.tac_lower.specs.Adding.{HasSite, OpSited, Sited, CondSited, PlaceSited, AllSited, SimpleSited, ValueIfSited, CondIfSited, SimpleIfSited, DeclaratorsSited, StmtSited, PartsSited}

module _ (c : Checked) where
  -- some site stands for each of the marks
  abbrev pub AllMarked : List Mark → Type 0
  AllMarked [] = Unit {0}
  AllMarked (m ∷ l) = HasSite c m.kind m.token × AllMarked l

  pub marked_front : (l m : List Mark) → AllMarked (l ++ m) → AllMarked l
  marked_front [] m h = tt
  marked_front (x ∷ l) m h = (h.0, marked_front l m h.1)

  pub marked_back : (l m : List Mark) → AllMarked (l ++ m) → AllMarked m
  marked_back [] m h = h
  marked_back (x ∷ l) m h = marked_back l m h.1

  module _ (facts : Facts) (narrow : (t : ℕ) → facts.widths t < 4294967296) where
    pub record IsSited (r : Read) (s : Seen) : Type 0 where
      pub value : AllMarked s.by_value → Sited c r.value
      pub truth : AllMarked s.by_truth → CondSited c r.truth
      pub place : AllMarked s.by_value → PlaceSited c r.place

    value_is : (f : ℕ) (v : Val) (l : List Mark) → (AllMarked l → Sited c v) → IsSited (by_value f v) (decides f l)
    value_is f v l h = record { value = h; truth = λ m. (m.0, h m.1); place = λ m. tt }

    place_is : (f : ℕ) (p : Loc) (l : List Mark) → (AllMarked l → PlaceSited c p) → IsSited (by_place f p) (decides f l)
    place_is f p l h = record { value = h; truth = λ m. (m.0, h m.1); place = h }

    compare_is : (t : ℕ) (o : tree.Cmp) (a b : Read) (x y : Seen) → IsSited a x → IsSited b y → AllMarked (x.by_value ++ at Decision t ∷ y.by_value) → CondSited c (tree.compare t o a.value b.value)
    compare_is t o a b x y h k m = let n = marked_back x.by_value (at Decision t ∷ y.by_value) m in
        (n.0, h.value (marked_front x.by_value (at Decision t ∷ y.by_value) m), k.value n.1)

    compared : (t : ℕ) (o : tree.Cmp) (a b : Read) (x y : Seen) → IsSited a x → IsSited b y
        → IsSited (record { value = tree.truth (tree.compare t o a.value b.value); truth = tree.compare t o a.value b.value; place = tree.global 0 }) (always (x.by_value ++ at Decision t ∷ y.by_value))
    compared t o a b x y h k = record { value = compare_is t o a b x y h k; truth = compare_is t o a b x y h k; place = λ m. tt }

    summed : (f t : ℕ) (o : Op) (a b : Read) (x y : Seen) → (HasSite c Fit t → OpSited c t o) → IsSited a x → IsSited b y
        → IsSited (by_value f (tree.arith t o a.value b.value)) (decides f (x.by_value ++ at Fit t ∷ y.by_value))
    summed f t o a b x y s h k = value_is f (tree.arith t o a.value b.value) (x.by_value ++ at Fit t ∷ y.by_value)
        (λ m. let n = marked_back x.by_value (at Fit t ∷ y.by_value) m in
        (s n.0, h.value (marked_front x.by_value (at Fit t ∷ y.by_value) m), k.value n.1))

    divided : (f t : ℕ) (o : Op) (a b : Read) (x y : Seen) → (HasSite c Divisor t → HasSite c Fit t → OpSited c t o) → IsSited a x → IsSited b y
        → IsSited (by_value f (tree.arith t o a.value b.value)) (decides f (x.by_value ++ at Divisor t ∷ at Fit t ∷ y.by_value))
    divided f t o a b x y s h k = value_is f (tree.arith t o a.value b.value) (x.by_value ++ at Divisor t ∷ at Fit t ∷ y.by_value)
        (λ m. let n = marked_back x.by_value (at Divisor t ∷ at Fit t ∷ y.by_value) m in
        (s n.0 n.1.0, h.value (marked_front x.by_value (at Divisor t ∷ at Fit t ∷ y.by_value) m), k.value n.1.1))

    all_sited : (xs : List Read) (ys : List Seen) → AllRelated IsSited xs ys → AllMarked (values_of ys) → AllSited c (vals_of xs)
    all_sited [] [] h m = tt
    all_sited [] (y ∷ ys) h m = absurd h
    all_sited (x ∷ xs) [] h m = absurd h
    all_sited (x ∷ xs) (y ∷ ys) h m = ((h.0).value (marked_front y.by_value (values_of ys) m), all_sited xs ys h.1 (marked_back y.by_value (values_of ys) m))

    variable_sited : (o : Option Target) → PlaceSited c (variable_named facts o)
    variable_sited None = tt
    variable_sited (Some (target.Local n)) = tt
    variable_sited (Some (target.Global n)) = tt
    variable_sited (Some (target.Func n)) = tt
    variable_sited (Some (target.Field n)) = tt

    number_sited : (b : Bool) (z : ℤ) → Sited c (number_or_null b z)
    number_sited true z = tt
    number_sited false z = tt

    levels : Levels Read Seen IsSited (expr_level facts) sites_level
    levels = record {
      of_or = λ f t a b x y h k. record { value = λ m. (h.truth (marked_front x.by_truth y.by_truth m), k.truth (marked_back x.by_truth y.by_truth m)); truth = λ m. (h.truth (marked_front x.by_truth y.by_truth m), k.truth (marked_back x.by_truth y.by_truth m)); place = λ m. tt };
      of_and = λ f t a b x y h k. record { value = λ m. (h.truth (marked_front x.by_truth y.by_truth m), k.truth (marked_back x.by_truth y.by_truth m)); truth = λ m. (h.truth (marked_front x.by_truth y.by_truth m), k.truth (marked_back x.by_truth y.by_truth m)); place = λ m. tt };
      of_equal = λ f t a b x y h k. compared t tree.eq a b x y h k;
      of_unequal = λ f t a b x y h k. compared t tree.ne a b x y h k;
      of_less = λ f t a b x y h k. compared t tree.lt a b x y h k;
      of_greater = λ f t a b x y h k. compared t tree.gt a b x y h k;
      of_at_most = λ f t a b x y h k. compared t tree.le a b x y h k;
      of_at_least = λ f t a b x y h k. compared t tree.ge a b x y h k;
      of_sum = λ f t a b x y h k. summed f t tree.add a b x y (λ s. s) h k;
      of_difference = λ f t a b x y h k. summed f t tree.sub a b x y (λ s. s) h k;
      of_product = λ f t a b x y h k. summed f t tree.mul a b x y (λ s. s) h k;
      of_quotient = λ f t a b x y h k. divided f t tree.quot a b x y (λ s r. (s, r)) h k;
      of_remainder = λ f t a b x y h k. divided f t tree.rem a b x y (λ s r. (s, r)) h k;
      of_index = λ f t a b x y h k. place_is f (tree.index t a.place b.value (facts.lengths t) (facts.widths t)) (x.by_value ++ at Index t ∷ y.by_value)
          (λ m. let n = marked_back x.by_value (at Index t ∷ y.by_value) m in (narrow t, n.0, h.place (marked_front x.by_value (at Index t ∷ y.by_value) m), k.value n.1));
      of_minus = λ f t a x h. value_is f (tree.negate t a.value) (at Fit t ∷ x.by_value) (λ m. (m.0, h.value m.1));
      of_not = λ f t a x h. record { value = h.truth; truth = h.truth; place = λ m. tt };
      of_deref = λ f t a x h. place_is f (tree.deref t a.value) (at Access t ∷ x.by_value) (λ m. (m.0, h.value m.1));
      of_address = λ f t a x h. value_is f (tree.address a.place) x.by_value h.place;
      of_dot = λ f t a x name h. place_is f (tree.dot a.place _) x.by_value h.place;
      of_arrow = λ f t a x name h. place_is f (tree.arrow t a.value _) (x.by_value ++ at Access t ∷ [])
          (λ m. ((marked_back x.by_value (at Access t ∷ []) m).0, h.value (marked_front x.by_value (at Access t ∷ []) m)));
      of_name = λ f t. place_is f (variable_named facts (facts.names t)) [] (λ m. variable_sited (facts.names t));
      of_number = λ f t z. value_is f (number_or_null (facts.is_null t) z) [] (λ m. number_sited (facts.is_null t) z);
      of_null = λ f t. value_is f tree.nil [] (λ m. tt);
      of_call = λ f t xs ys h. value_is f (tree.call _ (vals_of xs)) (values_of ys) (all_sited xs ys h);
      of_malloc = λ f t cast made. value_is f (tree.malloc (facts.made t)) [] (λ m. tt);
    }

    pub expression_sited : (e : Expr) → IsSited (resolve facts e) (sites_of e)
    expression_sited e = related levels e

    -- ---- statements

    by_val : (e : Expr) → AllMarked (value_sites sites_of e) → Sited c (resolve facts e).value
    by_val e m = (expression_sited e).value m

    by_tru : (e : Expr) → AllMarked (truth_sites sites_of e) → CondSited c (resolve facts e).truth
    by_tru e m = (expression_sited e).truth m

    by_pla : (e : Expr) → AllMarked (value_sites sites_of e) → PlaceSited c (resolve facts e).place
    by_pla e m = (expression_sited e).place m

    args_sited : (l : List Expr) → AllMarked (flat_map (value_sites sites_of) l) → AllSited c (vals_of (map (resolve facts) l))
    args_sited [] m = tt
    args_sited (e ∷ l) m = (by_val e (marked_front _ (flat_map (value_sites sites_of) l) m), args_sited l (marked_back (value_sites sites_of e) _ m))

    updated : (t : ℕ) (l e : Expr) → AllMarked (value_sites sites_of l ++ at Fit t ∷ value_sites sites_of e) → HasSite c Fit t × (PlaceSited c (resolve facts l).place × Sited c (resolve facts e).value)
    updated t l e m = let n = marked_back (value_sites sites_of l) (at Fit t ∷ value_sites sites_of e) m in
        (n.0, (by_pla l (marked_front _ (at Fit t ∷ value_sites sites_of e) m), by_val e n.1))

    divided_by : (t : ℕ) (l e : Expr) → AllMarked (value_sites sites_of l ++ at Divisor t ∷ at Fit t ∷ value_sites sites_of e) → (HasSite c Divisor t × HasSite c Fit t) × (PlaceSited c (resolve facts l).place × Sited c (resolve facts e).value)
    divided_by t l e m = let n = marked_back (value_sites sites_of l) (at Divisor t ∷ at Fit t ∷ value_sites sites_of e) m in
        ((n.0, n.1.0), (by_pla l (marked_front _ (at Divisor t ∷ at Fit t ∷ value_sites sites_of e) m), by_val e n.1.1))

    bumped : (t : ℕ) (l : Expr) → AllMarked (value_sites sites_of l ++ at Fit t ∷ []) → HasSite c Fit t × PlaceSited c (resolve facts l).place
    bumped t l m = ((marked_back (value_sites sites_of l) (at Fit t ∷ []) m).0, by_pla l (marked_front _ (at Fit t ∷ []) m))

    simple_sited : (s : source_simple.Simple) → AllMarked (simple_sites sites_of s) → SimpleSited c (simple_of facts s)
    simple_sited (simple.Assign t l e) m = (by_pla l (marked_front _ (value_sites sites_of e) m), by_val e (marked_back (value_sites sites_of l) _ m))
    simple_sited (simple.AddTo t l e) m = let n = updated t l e m in (n.0, n.1.0, n.1.1)
    simple_sited (simple.SubFrom t l e) m = let n = updated t l e m in (n.0, n.1.0, n.1.1)
    simple_sited (simple.MulBy t l e) m = let n = updated t l e m in (n.0, n.1.0, n.1.1)
    simple_sited (simple.DivBy t l e) m = let n = divided_by t l e m in (n.0, n.1.0, n.1.1)
    simple_sited (simple.RemBy t l e) m = let n = divided_by t l e m in (n.0, n.1.0, n.1.1)
    simple_sited (simple.Increase t l) m = bumped t l m
    simple_sited (simple.Decrease t l) m = bumped t l m
    simple_sited (simple.IncreaseFirst t l) m = (m.0, by_pla l m.1)
    simple_sited (simple.DecreaseFirst t l) m = (m.0, by_pla l m.1)
    simple_sited (simple.Call t args) m = args_sited args m
    simple_sited (simple.Assert t e) m = by_tru e m
    simple_sited (simple.Assume t e) m = by_tru e m
    simple_sited (simple.Abort t) m = tt
    simple_sited (simple.CrestInt t l) m = by_pla l m

    simple_if_sited : (s : Option source_simple.Simple) → AllMarked (simple_sites_if sites_of s) → SimpleIfSited c (simple_if facts s)
    simple_if_sited None m = tt
    simple_if_sited (Some s) m = simple_sited s m

    value_if_sited : (e : Option Expr) → AllMarked (value_sites_if sites_of e) → ValueIfSited c (value_if facts e)
    value_if_sited None m = tt
    value_if_sited (Some e) m = by_val e m

    truth_if_sited : (e : Option Expr) → AllMarked (truth_sites_if sites_of e) → CondIfSited c (truth_if facts e)
    truth_if_sited None m = tt
    truth_if_sited (Some e) m = by_tru e m

    start_sited : (i : Option Initializer) → AllMarked (start_sites sites_of i) → ValueIfSited c (start_value facts i)
    start_sited None m = tt
    start_sited (Some i) m = by_val i.value m

    declared_sited : (l : List Declared) → AllMarked (flat_map (λ p. start_sites sites_of p.initializer) l) → DeclaratorsSited c (map (declarator_of facts) l)
    declared_sited [] m = tt
    declared_sited (p ∷ l) m = (start_sited p.initializer (marked_front _ (flat_map (λ p. start_sites sites_of p.initializer) l) m), declared_sited l (marked_back (start_sites sites_of p.initializer) _ m))

    head_first : (h : Head) → AllMarked (head_sites sites_of h) → SimpleIfSited c (head_simple facts h)
    head_first (head.Decl d) m = tt
    head_first (head.Simple s) m = simple_if_sited s m

    head_declared : (h : Head) → AllMarked (head_sites sites_of h) → DeclaratorsSited c (head_declarators facts h)
    head_declared (head.Decl d) m = declared_sited d.parts m
    head_declared (head.Simple s) m = tt

    abbrev PieceSited : Piece → Type 0
    PieceSited (declares ds) = DeclaratorsSited c ds
    PieceSited (does s) = StmtSited c s

    before_sited : (ds : List Declarator) (rest : Parts) → DeclaratorsSited c ds → PartsSited c rest → PartsSited c (declared_before ds rest)
    before_sited [] rest h k = k
    before_sited (d ∷ ds) rest h k = (h.0, before_sited ds rest h.1 k)

    abbrev PiecesSited : List Piece → Type 0
    PiecesSited [] = Unit {0}
    PiecesSited (p ∷ l) = PieceSited p × PiecesSited l

    parts_sited : (l : List Piece) → PiecesSited l → PartsSited c (parts_of l)
    parts_sited [] h = tt
    parts_sited (declares ds ∷ l) h = before_sited ds (parts_of l) h.0 (parts_sited l h.1)
    parts_sited (does s ∷ l) h = (h.0, parts_sited l h.1)

    abbrev Ss : source.Stmt → List Mark
    Ss s = fold_of_stmt (part_sites sites_of) (stmt_sites sites_of) s

    abbrev St : source.Stmt → Stmt
    St s = fold_of_stmt (part_level facts) (stmt_level facts) s

    mutual
      unfolding fold_of_stmt

      stmt_sited : (s : source.Stmt) → AllMarked (fold_of_stmt (part_sites sites_of) (stmt_sites sites_of) s) → StmtSited c (fold_of_stmt (part_level facts) (stmt_level facts) s)
      stmt_sited stmt.Empty m = tt
      stmt_sited (stmt.Block' n parts) m = parts_sited (fold_of_parts (part_level facts) (stmt_level facts) parts) (pieces_sited parts m)
      stmt_sited (stmt.If' w e n (more_of-Stmt a end_of-Stmt)) m = (by_tru e (marked_front (truth_sites sites_of e) (Ss a) m), stmt_sited a (marked_back (truth_sites sites_of e) (Ss a) m))
      stmt_sited (stmt.IfElse' w e n (more_of-Stmt a end_of-Stmt) n' (more_of-Stmt b end_of-Stmt)) m = (
        by_tru e (marked_front (truth_sites sites_of e) (Ss a ++ Ss b) m),
        stmt_sited a (marked_front (Ss a) (Ss b) (marked_back (truth_sites sites_of e) (Ss a ++ Ss b) m)),
        stmt_sited b (marked_back (Ss a) (Ss b) (marked_back (truth_sites sites_of e) (Ss a ++ Ss b) m)),
      )
      stmt_sited (stmt.While' w e n (more_of-Stmt a end_of-Stmt)) m = (by_tru e (marked_front (truth_sites sites_of e) (Ss a) m), stmt_sited a (marked_back (truth_sites sites_of e) (Ss a) m))
      stmt_sited (stmt.Do' w n (more_of-Stmt a end_of-Stmt) e) m = (by_tru e (marked_back (Ss a) (truth_sites sites_of e) m), stmt_sited a (marked_front (Ss a) (truth_sites sites_of e) m))
      stmt_sited (stmt.For' w h e next n (more_of-Stmt a end_of-Stmt)) m =
          let one = head_sites sites_of h in
          let two = truth_sites_if sites_of e in
          let three = simple_sites_if sites_of next in
          let m1 = marked_back one (two ++ (three ++ Ss a)) m in
          let m2 = marked_back two (three ++ Ss a) m1 in (
            head_first h (marked_front one (two ++ (three ++ Ss a)) m),
            head_declared h (marked_front one (two ++ (three ++ Ss a)) m),
            truth_if_sited e (marked_front two (three ++ Ss a) m1),
            simple_if_sited next (marked_front three (Ss a) m2),
            stmt_sited a (marked_back three (Ss a) m2),
          )
      stmt_sited (stmt.Return w e) m = value_if_sited e m
      stmt_sited (stmt.Break w) m = tt
      stmt_sited (stmt.Continue w) m = tt
      stmt_sited (stmt.Simple x) m = simple_sited x m

      piece_sited : (p : Part) → AllMarked (fold_of_part (part_sites sites_of) (stmt_sites sites_of) p) → PieceSited (fold_of_part (part_level facts) (stmt_level facts) p)
      piece_sited (part.Decl d) m = declared_sited d.parts m
      piece_sited (part.Stmt s) m = stmt_sited s m

      pieces_sited : {n : _} (r : Row_of-Part n) → AllMarked (flat_map (λ l. l) (fold_of_parts (part_sites sites_of) (stmt_sites sites_of) r)) → PiecesSited (fold_of_parts (part_level facts) (stmt_level facts) r)
      pieces_sited end_of-Part m = tt
      pieces_sited (more_of-Part p r) m = (
        piece_sited p (marked_front (fold_of_part (part_sites sites_of) (stmt_sites sites_of) p) (flat_map (λ l. l) (fold_of_parts (part_sites sites_of) (stmt_sites sites_of) r)) m),
        pieces_sited r (marked_back (fold_of_part (part_sites sites_of) (stmt_sites sites_of) p) (flat_map (λ l. l) (fold_of_parts (part_sites sites_of) (stmt_sites sites_of) r)) m),
      )

    part_sited : (p : Part) → AllMarked (sites_of_part p) → PieceSited (piece_of facts p)
    part_sited p m = subst PieceSited (sym (folds_part (part_level facts) (stmt_level facts) p)) (piece_sited p (subst AllMarked (folds_part (part_sites sites_of) (stmt_sites sites_of) p) m))

    body_pieces : (l : List Part) → AllMarked (flat_map sites_of_part l) → PiecesSited (map (piece_of facts) l)
    body_pieces [] m = tt
    body_pieces (p ∷ l) m = (part_sited p (marked_front (sites_of_part p) (flat_map sites_of_part l) m), body_pieces l (marked_back (sites_of_part p) (flat_map sites_of_part l) m))

    -- a body's code has all the sites that it needs
    pub body_sited : (l : List Part) → AllMarked (flat_map sites_of_part l) → PartsSited c (body_of facts l)
    body_sited l m = parts_sited (map (piece_of facts) l) (body_pieces l m)
