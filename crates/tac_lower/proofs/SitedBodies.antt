-- The bodies of a checked program have all the sites that their code needs.
use Rattle.std.proofs.Common.{◌≡◌, ℕ, suc, Bool, true, false, List, [], ◌∷◌, map, flat_map, length, Option, Some, option_map, slice_get, nat_eq, refl, sym, ap, ◌∙◌, inl, inr, if◌then◌else◌}
use Rattle.std.proofs.lemmas.Option.{slice_get-map}
use Rattle.std.proofs.lemmas.Bool.Decides.{eqb_tells}
use Rattle.cc_base.specs.Paths.{In}
use Rattle.cc_model.specs.declared.tokens.Token.{Token}
use Rattle.cc_model.specs.declared.checked.Checked.{Checked}
use Rattle.cc_model.specs.declared.checked.Sig.{Sig}
use Rattle.cc_model.specs.declared.trees.Func as source_func
use Rattle.cc_model.specs.declared.trees.Item.{Item}
use Rattle.cc_model.specs.declared.trees.Item.TheVariants as item
use Rattle.cc_model.specs.Sites.{Mark, not_after, inserted, in_order, kind_rank, sites_of_part, item_sites, sites_in}
use Rattle.cc_model.specs.CheckedProgram.{site_of, is_func, name_at, body_in, func_if, funcs_from, facts_in, element_id, expression_type, expression_tokens}
use Rattle.tac_lower.specs.Seen.{token_if}
use Rattle.tac_lower.specs.Adding.{HasSite, PartsSited}
use Rattle.tac_lower.specs.Written.{FuncsSited, Narrow}
use Rattle.tac_lower.proofs.SitedTrees.{AllMarked, marked_front, marked_back, body_sited}

-- ---- the sites in their order are the same sites

if_in : (b : Bool) (x : Mark) (l m : List Mark) → In x l → In x m → In x (if b then l else m)
if_in true x l m h k = h
if_in false x l m h k = k

in_inserted : (m x : Mark) (l : List Mark) → In x (m ∷ l) → In x (inserted m l)
in_inserted m x [] h = h
in_inserted m x (n ∷ l) h = if_in (not_after m n) x (m ∷ n ∷ l) (n ∷ inserted m l) h (later h (λ e. in_inserted m x l e))
  where
    later : In x (m ∷ n ∷ l) → (In x (m ∷ l) → In x (inserted m l)) → In x (n ∷ inserted m l)
    later (inl e) f = inr (f (inl e))
    later (inr (inl e)) f = inl e
    later (inr (inr i)) f = inr (f (inr i))

in_ordered : (x : Mark) (l : List Mark) → In x l → In x (in_order l)
in_ordered x [] h = h
in_ordered x (m ∷ l) (inl e) = in_inserted m x (in_order l) (inl e)
in_ordered x (m ∷ l) (inr i) = in_inserted m x (in_order l) (inr (in_ordered x l i))

stands : {A : Type 0} (x : A) (l : List A) → In x l → (i : ℕ) × (slice_get l i ≡ Some x)
stands x [] h = absurd h
stands x (y ∷ l) (inl e) = (0, ap Some (sym e))
stands x (y ∷ l) (inr i) = let r = stands x l i in (suc r.0, r.1)

same : (n : ℕ) → nat_eq n n ≡ true
same n = elim (eqb_tells n n) [ inl q ↦ q.0 | inr q ↦ absurd (q.1 refl) ]

module _ (c : Checked) where
  site_stands : (tokens : List Token) (marks : List Mark) (m : Mark) → c.sites ≡ map (site_of tokens) marks → In m marks → HasSite c m.kind m.token
  site_stands tokens marks m e h =
      let r = stands m marks h in
      let here : slice_get c.sites r.0 ≡ Some (site_of tokens m) = ap (λ l. slice_get l r.0) e ∙ slice_get-map (site_of tokens) marks r.0 ∙ ap (option_map (site_of tokens)) r.1 in
      (r.0, ap (token_if (length c.lines) m.kind) here ∙ ap (λ b. if b then m.token else length c.lines) (same (kind_rank m.kind)))

  marked : (l : List Mark) → ((m : Mark) → In m l → HasSite c m.kind m.token) → AllMarked c l
  marked [] h = tt
  marked (m ∷ l) h = (h m (inl refl), marked l (λ x i. h x (inr i)))

  pub all_marked : (tokens : List Token) → c.sites ≡ map (site_of tokens) (sites_in (c.program).items) → AllMarked c (flat_map item_sites (c.program).items)
  all_marked tokens e = marked (flat_map item_sites (c.program).items)
      (λ m i. site_stands tokens (sites_in (c.program).items) m e (in_ordered m (flat_map item_sites (c.program).items) i))

  -- ---- each function has its sites

  found_sited : (n : ℕ) (b : Bool) (f : source_func.Func) (o : Option source_func.Func) → Narrow c → AllMarked c (flat_map sites_of_part f.body) → PartsSited c (func_if c n o).body → PartsSited c (func_if c n (if b then Some f else o)).body
  found_sited n true f o w m h = body_sited c (facts_in c n) (λ t. w (element_id (expression_type c (expression_tokens (c.program).items) t 1))) f.body m
  found_sited n false f o w m h = h

  body_has : (n : ℕ) (l : List Item) → Narrow c → AllMarked c (flat_map item_sites l) → PartsSited c (func_if c n (body_in c n l)).body
  body_has n [] w m = tt
  body_has n (item.Func f ∷ l) w m = found_sited n (is_func c n (name_at c f.name)) f (body_in c n l) w (marked_front c (flat_map sites_of_part f.body) (flat_map item_sites l) m) (body_has n l w (marked_back c (flat_map sites_of_part f.body) (flat_map item_sites l) m))
  body_has n (item.Alias a b ∷ l) w m = body_has n l w m
  body_has n (item.Struct d ∷ l) w m = body_has n l w m
  body_has n (item.Globals b ps ∷ l) w m = body_has n l w m
  body_has n (item.Prototype r t ps ∷ l) w m = body_has n l w m

  pub funcs_sited : (n : ℕ) (l : List Sig) → Narrow c → AllMarked c (flat_map item_sites (c.program).items) → FuncsSited c (funcs_from c n l)
  funcs_sited n [] w m = tt
  funcs_sited n (s ∷ l) w m = (body_has n (c.program).items w m, funcs_sited (suc n) l w m)
