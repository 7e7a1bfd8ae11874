-- The line of bounds, from the left, and its values.
use Rattle.std.proofs.Common.{◌≡◌, ◌∙◌, sym, ap, refl, subst, ℕ, suc, ◌^◌, ◌<◌, inl, inr, ℤ, pos, negsuc, ◌≤ℤ◌, true, List, ◌∷◌, ◌++◌, codes, arith, append_assoc, Option, Some, None, IfSome}
use Rattle.std.proofs.lemmas.Int.{ints}
use Rattle.std.specs.Fmt.{decimal, signed_decimal}
use Rattle.cc_base.specs.Limits.{Limits, InRange}
use Rattle.cc_model.specs.Report.{newline, bounds_line}
use Rattle.report_words.specs.Cuts.{Lacks, CutFirst}
use Rattle.report_words.specs.Words.{IsSigned}
use Rattle.report_words.proofs.Cutting.{has_none, lacks_append, lacks_by_test, first_once}
use Rattle.report_words.proofs.Texts.{lacks_decimal}
use Rattle.replay.specs.Behind.{Stands, AreValues, AreNumbers}
use Rattle.replay.specs.Lines.{IsBounds}
use Rattle.replay.proofs.Shapes.{cancel}

-- ten pieces, from the left
ten : (a b c d e f g h i j : List ℕ) → a ++ b ++ c ++ d ++ e ++ f ++ g ++ h ++ i ++ j ≡ a ++ (b ++ (c ++ (d ++ (e ++ (f ++ (g ++ (h ++ (i ++ j))))))))
ten a b c d e f g h i j =
    append_assoc (a ++ b ++ c ++ d ++ e ++ f ++ g ++ h) i j
    ∙ append_assoc (a ++ b ++ c ++ d ++ e ++ f ++ g) h (i ++ j)
    ∙ append_assoc (a ++ b ++ c ++ d ++ e ++ f) g (h ++ (i ++ j))
    ∙ append_assoc (a ++ b ++ c ++ d ++ e) f (g ++ (h ++ (i ++ j)))
    ∙ append_assoc (a ++ b ++ c ++ d) e (f ++ (g ++ (h ++ (i ++ j))))
    ∙ append_assoc (a ++ b ++ c) d (e ++ (f ++ (g ++ (h ++ (i ++ j)))))
    ∙ append_assoc (a ++ b) c (d ++ (e ++ (f ++ (g ++ (h ++ (i ++ j))))))
    ∙ append_assoc a b (c ++ (d ++ (e ++ (f ++ (g ++ (h ++ (i ++ j)))))))

-- a line of bounds with these values
abbrev pub line_of : (lo hi depth objects steps : List ℕ) → List ℕ
line_of lo hi depth objects steps = codes "bounds" ++ 32 ∷ (codes "min=" ++ (lo ++ 32 ∷ (codes "max=" ++ (hi ++ 32 ∷ (codes "depth=" ++ (depth ++ 32 ∷ (codes "objects=" ++ (objects ++ 32 ∷ (codes "steps=" ++ steps)))))))))

flat : (lo hi depth objects steps : List ℕ) →
    codes "bounds min=" ++ lo ++ codes " max=" ++ hi ++ codes " depth=" ++ depth ++ codes " objects=" ++ objects ++ codes " steps=" ++ steps ≡ line_of lo hi depth objects steps
flat lo hi depth objects steps = ten (codes "bounds min=") lo (codes " max=") hi (codes " depth=") depth (codes " objects=") objects (codes " steps=") steps

-- ---- values

stand : (name value rest : List ℕ) → has_none 32 (name ++ codes "=") ≡ true → Lacks 32 value → Lacks 61 value → Stands ((name ++ codes "=") ++ (value ++ 32 ∷ rest)) name value rest
stand name value rest n l k = record {
  word = (name ++ codes "=") ++ value;
  cut = record { is = sym (append_assoc (name ++ codes "=") value (32 ∷ rest)); first = lacks_append 32 (name ++ codes "=") value (lacks_by_test 32 (name ++ codes "=") n) l };
  named = record { is = refl; last = k };
}

unstand : (text name value rest : List ℕ) → Stands text name value rest → text ≡ (name ++ codes "=") ++ (value ++ 32 ∷ rest)
unstand text name value rest h = (h.cut).is ∙ ap (λ w. w ++ 32 ∷ rest) (h.named).is ∙ append_assoc (name ++ codes "=") value (32 ∷ rest)

-- a value has neither a blank nor a =
pub record IsValue (v : List ℕ) : Type 0 where
  pub blank : Lacks 32 v
  pub equals : Lacks 61 v

pub natural_value : (n : ℕ) → n < 2 ^ 64 → IsValue (decimal n)
natural_value n h = record { blank = lacks_decimal 32 n (inl (omega arith)) h; equals = lacks_decimal 61 n (inr (omega arith)) h }

pub signed_value : (z : ℤ) → negsuc 2147483647 ≤ℤ z → z ≤ℤ pos 2147483647 → IsValue (signed_decimal z)
signed_value (pos n) l h = natural_value n (omega (arith, ints, h))
signed_value (negsuc n) l h =
    let v = natural_value (suc n) (omega (arith, ints, l)) in
    record { blank = ((λ e. omega (arith, e)), v.blank); equals = ((λ e. omega (arith, e)), v.equals) }

values : (line lo hi depth objects steps : List ℕ) → line ≡ line_of lo hi depth objects steps → IsValue lo → IsValue hi → IsValue depth → IsValue objects → IsValue steps →
    AreValues line lo hi depth objects steps
unfolding has_none
values line lo hi depth objects steps e l h d o s = record {
  rest = codes "min=" ++ (lo ++ 32 ∷ (codes "max=" ++ (hi ++ 32 ∷ (codes "depth=" ++ (depth ++ 32 ∷ (codes "objects=" ++ (objects ++ 32 ∷ (codes "steps=" ++ steps))))))));
  first = record { is = e; first = lacks_by_test 32 (codes "bounds") refl };
  behind = record {
    behind_lo = codes "max=" ++ (hi ++ 32 ∷ (codes "depth=" ++ (depth ++ 32 ∷ (codes "objects=" ++ (objects ++ 32 ∷ (codes "steps=" ++ steps))))));
    is_lo = stand (codes "min") lo _ refl l.blank l.equals;
    behind_hi = codes "depth=" ++ (depth ++ 32 ∷ (codes "objects=" ++ (objects ++ 32 ∷ (codes "steps=" ++ steps))));
    is_hi = stand (codes "max") hi _ refl h.blank h.equals;
    behind_depth = codes "objects=" ++ (objects ++ 32 ∷ (codes "steps=" ++ steps));
    is_depth = stand (codes "depth") depth _ refl d.blank d.equals;
    last = codes "steps=" ++ steps;
    is_objects = stand (codes "objects") objects _ refl o.blank o.equals;
    is_steps = record { is = refl; last = s.equals };
  };
}

whole : (line lo hi depth objects steps : List ℕ) → AreValues line lo hi depth objects steps → line ≡ line_of lo hi depth objects steps
whole line lo hi depth objects steps v =
    let b = v.behind in
    (v.first).is ∙ ap (λ t. codes "bounds" ++ 32 ∷ t) (unstand v.rest (codes "min") lo b.behind_lo b.is_lo
    ∙ ap (λ t. codes "min=" ++ (lo ++ 32 ∷ t)) (unstand b.behind_lo (codes "max") hi b.behind_hi b.is_hi
    ∙ ap (λ t. codes "max=" ++ (hi ++ 32 ∷ t)) (unstand b.behind_hi (codes "depth") depth b.behind_depth b.is_depth
    ∙ ap (λ t. codes "depth=" ++ (depth ++ 32 ∷ t)) (unstand b.behind_depth (codes "objects") objects b.last b.is_objects
    ∙ ap (λ t. codes "objects=" ++ (objects ++ 32 ∷ t)) (b.is_steps).is))))

-- ---- bounds

line_is : (line : List ℕ) (b : Limits) → line ++ newline ≡ bounds_line b →
    line ≡ line_of (signed_decimal b.lo) (signed_decimal b.hi) (decimal b.depth) (decimal b.objects) (decimal b.steps)
line_is line b e = cancel line _ e ∙ flat (signed_decimal b.lo) (signed_decimal b.hi) (decimal b.depth) (decimal b.objects) (decimal b.steps)

low_fits : (b : Limits) → InRange b → b.hi ≤ℤ pos 2147483647 → b.lo ≤ℤ pos 2147483647
low_fits b r h = let n = r.numbers in omega (arith, ints, n, h)

high_fits : (b : Limits) → InRange b → negsuc 2147483647 ≤ℤ b.lo → negsuc 2147483647 ≤ℤ b.hi
high_fits b r h = let n = r.numbers in omega (arith, ints, n, h)

pub bounds_values : (line : List ℕ) (b : Limits) → IsBounds line b →
    AreValues line (signed_decimal b.lo) (signed_decimal b.hi) (decimal b.depth) (decimal b.objects) (decimal b.steps)
bounds_values line b h =
    let r = h.in_range in
    let d = r.depth_high in
    let o = r.objects_high in
    let s = r.steps_high in
    values line _ _ _ _ _ (line_is line b h.written)
    (signed_value b.lo h.at_least (low_fits b r h.at_most)) (signed_value b.hi (high_fits b r h.at_least) h.at_most)
    (natural_value b.depth (omega (arith, d))) (natural_value b.objects (omega (arith, o))) (natural_value b.steps (omega (arith, s)))

pub bounds_numbers : (line : List ℕ) (b : Limits) → IsBounds line b →
    AreNumbers (signed_decimal b.lo) (signed_decimal b.hi) (decimal b.depth) (decimal b.objects) (decimal b.steps) b
bounds_numbers line b h = record {
  is_lo = record { text = refl; at_least = h.at_least; at_most = low_fits b h.in_range h.at_most };
  is_hi = record { text = refl; at_least = high_fits b h.in_range h.at_least; at_most = h.at_most };
  is_depth = refl;
  is_objects = refl;
  is_steps = refl;
  in_range = h.in_range;
}

pub bounds_are : (line lo hi depth objects steps : List ℕ) (b : Limits) → AreValues line lo hi depth objects steps → AreNumbers lo hi depth objects steps b → IsBounds line b
bounds_are line lo hi depth objects steps b v n =
    let w = whole line lo hi depth objects steps v ∙ sym (flat lo hi depth objects steps) in
    record {
      written = ap (λ l. l ++ newline) (w
          ∙ ap (λ t. codes "bounds min=" ++ t ++ codes " max=" ++ hi ++ codes " depth=" ++ depth ++ codes " objects=" ++ objects ++ codes " steps=" ++ steps) (n.is_lo).text
          ∙ ap (λ t. codes "bounds min=" ++ signed_decimal b.lo ++ codes " max=" ++ t ++ codes " depth=" ++ depth ++ codes " objects=" ++ objects ++ codes " steps=" ++ steps) (n.is_hi).text
          ∙ ap (λ t. codes "bounds min=" ++ signed_decimal b.lo ++ codes " max=" ++ signed_decimal b.hi ++ codes " depth=" ++ t ++ codes " objects=" ++ objects ++ codes " steps=" ++ steps) n.is_depth
          ∙ ap (λ t. codes "bounds min=" ++ signed_decimal b.lo ++ codes " max=" ++ signed_decimal b.hi ++ codes " depth=" ++ decimal b.depth ++ codes " objects=" ++ t ++ codes " steps=" ++ steps) n.is_objects
          ∙ ap (λ t. codes "bounds min=" ++ signed_decimal b.lo ++ codes " max=" ++ signed_decimal b.hi ++ codes " depth=" ++ decimal b.depth ++ codes " objects=" ++ decimal b.objects ++ codes " steps=" ++ t) n.is_steps);
      in_range = n.in_range;
      at_least = (n.is_lo).at_least;
      at_most = (n.is_hi).at_most;
    }

-- the numbers of values that are these
pub numbers_there : (lo hi depth objects steps l h d o s : List ℕ) (b : Limits) → (lo ≡ l) × (hi ≡ h) × (depth ≡ d) × (objects ≡ o) × (steps ≡ s) → AreNumbers l h d o s b →
    AreNumbers lo hi depth objects steps b
numbers_there lo hi depth objects steps l h d o s b e n = record {
  is_lo = subst (λ x. IsSigned x b.lo) (sym e.0) n.is_lo;
  is_hi = subst (λ x. IsSigned x b.hi) (sym e.1) n.is_hi;
  is_depth = e.2 ∙ n.is_depth;
  is_objects = e.3 ∙ n.is_objects;
  is_steps = e.4 ∙ n.is_steps;
  in_range = n.in_range;
}

-- another first word
pub first_is : (line before behind lo hi depth objects steps : List ℕ) → CutFirst 32 line before behind → AreValues line lo hi depth objects steps → before ≡ codes "bounds"
first_is line before behind lo hi depth objects steps c v = (first_once 32 line before behind (codes "bounds") v.rest c v.first).0

pub if_bounds : (line lo hi depth objects steps : List ℕ) (r : Option Limits) → AreValues line lo hi depth objects steps → IfSome r (λ b. AreNumbers lo hi depth objects steps b) → IfSome r (λ b. IsBounds line b)
if_bounds line lo hi depth objects steps None v h = tt
if_bounds line lo hi depth objects steps (Some b) v h = bounds_are line lo hi depth objects steps b v h
