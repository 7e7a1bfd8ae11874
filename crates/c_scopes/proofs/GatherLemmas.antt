-- A step of the walk that gathers what items declare.
use Rattle.std.proofs.Common.{◌≡◌, ◌∙◌, refl, sym, ap, subst, ℕ, zero, suc, ◌+◌, ◌<◌, Bool, true, false, List, [], ◌∷◌, ◌++◌, length, drop, get_or, Option, append_assoc, arith, if◌then◌else◌}
use Rattle.cc_model.specs.declared.trees.StructDef.TheVariants as struct
use Rattle.cc_model.specs.declared.trees.Item.{Item}
use Rattle.cc_model.specs.declared.trees.Item.TheVariants as item
use Rattle.cc_model.specs.declared.typing.Before.{Before}
use Rattle.cc_model.specs.declared.typing.Member.{Member}
use Rattle.cc_model.specs.declared.typing.Function.{Function}
use Rattle.cc_model.specs.Scopes.{Text, has_name, after_item, after_items, structs_in, functions_in, if_first}

item_at : {X : Type 0} (l : List X) (i : ℕ) (d : X) → i < length l → drop i l ≡ get_or l i d ∷ drop (suc i) l
item_at [] i d h = absurd (omega arith)
item_at (x ∷ l) zero d h = refl
item_at (x ∷ l) (suc i) d h = item_at l i d (omega arith)

module _ (text : ℕ → Text) (tags : List (Option Text)) where
  structs_one : (b : Before) (x : Item) (l : List Item) → structs_in text tags b (x ∷ l) ≡ structs_in text tags b (x ∷ []) ++ structs_in text tags (after_item text tags b x) l
  structs_one b (item.Alias tag name) l = refl
  structs_one b (item.Struct (struct.Tagged tag fields)) l = refl
  structs_one b (item.Struct (struct.Named tag fields name)) l = refl
  structs_one b (item.Globals base parts) l = refl
  structs_one b (item.Func f) l = refl
  structs_one b (item.Prototype r name params) l = refl

  first_one : (b : Before) (f : Function) (l : List Function) → if_first text tags b f l ≡ if_first text tags b f [] ++ l
  first_one b f l = by (has_name f.name b.functions)
    where
      by : (c : Bool) → (if c then l else f ∷ l) ≡ (if c then [] else f ∷ []) ++ l
      by true = refl
      by false = refl

  functions_one : (b : Before) (x : Item) (l : List Item) → functions_in text tags b (x ∷ l) ≡ functions_in text tags b (x ∷ []) ++ functions_in text tags (after_item text tags b x) l
  functions_one b (item.Alias tag name) l = refl
  functions_one b (item.Struct s) l = refl
  functions_one b (item.Globals base parts) l = refl
  functions_one b (item.Func f) l = first_one b _ (functions_in text tags (after_item text tags b (item.Func f)) l)
  functions_one b (item.Prototype r name params) l = first_one b _ (functions_in text tags (after_item text tags b (item.Prototype r name params)) l)

  pub behind_step : (items : List Item) (i : ℕ) (x : Item) (b new all : Before) → i < length items → x ≡ get_or items i x → after_items text tags b (drop i items) ≡ all → new ≡ after_item text tags b x
      → after_items text tags new (drop (i + 1) items) ≡ all
  behind_step items i x b new all h e k n =
      let at : drop i items ≡ x ∷ drop (suc i) items = item_at items i x h ∙ ap (λ z. z ∷ drop (suc i) items) (sym e) in
      let next : i + 1 ≡ suc i = omega arith in
      subst (λ z. after_items text tags new (drop z items) ≡ all) (sym next)
      (subst (λ z. after_items text tags z (drop (suc i) items) ≡ all) (sym n) (sym (ap (λ z. after_items text tags b z) at) ∙ k))

  pub structs_step : (items : List Item) (i : ℕ) (x : Item) (b new : Before) (found after all : List (List Member)) → i < length items → x ≡ get_or items i x
      → found ++ structs_in text tags b (drop i items) ≡ all → new ≡ after_item text tags b x → after ≡ found ++ structs_in text tags b (x ∷ [])
      → after ++ structs_in text tags new (drop (i + 1) items) ≡ all
  structs_step items i x b new found after all h e k n a =
      let at : drop i items ≡ x ∷ drop (suc i) items = item_at items i x h ∙ ap (λ z. z ∷ drop (suc i) items) (sym e) in
      let next : i + 1 ≡ suc i = omega arith in
      subst (λ z. after ++ structs_in text tags new (drop z items) ≡ all) (sym next)
      (subst (λ z. after ++ structs_in text tags z (drop (suc i) items) ≡ all) (sym n)
      (subst (λ z. z ++ structs_in text tags (after_item text tags b x) (drop (suc i) items) ≡ all) (sym a)
      (append_assoc found (structs_in text tags b (x ∷ [])) (structs_in text tags (after_item text tags b x) (drop (suc i) items))
      ∙ (ap (λ z. found ++ z) (sym (structs_one b x (drop (suc i) items)))
      ∙ (ap (λ z. found ++ structs_in text tags b z) (sym at) ∙ k)))))

  pub functions_step : (items : List Item) (i : ℕ) (x : Item) (b new : Before) (found after all : List Function) → i < length items → x ≡ get_or items i x
      → found ++ functions_in text tags b (drop i items) ≡ all → new ≡ after_item text tags b x → after ≡ found ++ functions_in text tags b (x ∷ [])
      → after ++ functions_in text tags new (drop (i + 1) items) ≡ all
  functions_step items i x b new found after all h e k n a =
      let at : drop i items ≡ x ∷ drop (suc i) items = item_at items i x h ∙ ap (λ z. z ∷ drop (suc i) items) (sym e) in
      let next : i + 1 ≡ suc i = omega arith in
      subst (λ z. after ++ functions_in text tags new (drop z items) ≡ all) (sym next)
      (subst (λ z. after ++ functions_in text tags z (drop (suc i) items) ≡ all) (sym n)
      (subst (λ z. z ++ functions_in text tags (after_item text tags b x) (drop (suc i) items) ≡ all) (sym a)
      (append_assoc found (functions_in text tags b (x ∷ [])) (functions_in text tags (after_item text tags b x) (drop (suc i) items))
      ∙ (ap (λ z. found ++ z) (sym (functions_one b x (drop (suc i) items)))
      ∙ (ap (λ z. found ++ functions_in text tags b z) (sym at) ∙ k)))))
