-- The tokens and the sites of a call are those of its arguments.
use Rattle.std.proofs.Common.{◌≡◌, ◌∙◌, sym, ap, ℕ, List, ◌∷◌, flat_map}
use Rattle.std.proofs.lemmas.List.Folds.{flat_map-map}
use Rattle.cc_model.specs.declared.trees.Expr.{Expr}
use Rattle.cc_model.specs.declared.trees.Expr.TheVariants as expr
use Rattle.cc_model.specs.declared.trees.Expr.TheOpen as level
use Rattle.cc_model.specs.declared.trees.Expr.TheFolds.{fold-roll-Expr}
use Rattle.cc_model.specs.CheckedProgram.{tokens_in, token_level}
use Rattle.cc_model.specs.Sites.{Seen, sites_of, sites_level}
use Rattle.c_trees.specs.Forms.{valued}

pub call_tokens : (e : Expr) (f t : ℕ) (args items : List Expr) → e ≡ expr.Call f t args → items ≡ args → tokens_in e ≡ t ∷ flat_map tokens_in items
call_tokens e f t args items h g = ap tokens_in (h ∙ sym (expr.rolls-Call f t args)) ∙ fold-roll-Expr (List ℕ) token_level (level.Call f t args)
    ∙ ap (λ x. t ∷ x) (flat_map-map (λ (x : List ℕ). x) tokens_in args) ∙ ap (λ l. t ∷ flat_map tokens_in l) (sym g)

pub call_sites : (e : Expr) (f t : ℕ) (args items : List Expr) → e ≡ expr.Call f t args → items ≡ args → (sites_of e).by_value ≡ flat_map valued items
call_sites e f t args items h g = ap (λ d. (sites_of d).by_value) (h ∙ sym (expr.rolls-Call f t args)) ∙ ap (λ (s : Seen). s.by_value) (fold-roll-Expr Seen sites_level (level.Call f t args))
    ∙ flat_map-map (λ (s : Seen). s.by_value) sites_of args ∙ ap (flat_map valued) (sym g)
