-- Small token lists, by computation: what the descent gives from their first token on.
use Rattle.std.proofs.Common.{◌≡◌, ℕ, List, [], ◌∷◌, Some, slice_get, refl, zero, suc}
use Rattle.cc_model.specs.declared.tokens.Kind.{Kind}
use Rattle.cc_model.specs.declared.tokens.Kind.TheVariants.{Name, Key, Punct}
use Rattle.cc_model.specs.declared.tokens.Keyword.TheVariants.{Int, Struct, Malloc, Sizeof}
use Rattle.cc_model.specs.declared.tokens.Punct.TheVariants as p
use Rattle.cc_model.specs.declared.trees.Base.TheVariants as base
use Rattle.cc_model.specs.declared.trees.Expr.{Expr}
use Rattle.cc_model.specs.declared.trees.Expr.TheVariants as tree
use Rattle.cc_model.specs.Spots.{shallow}
use Rattle.cc_model.specs.ReadExpressions.{with_first}
use Rattle.c_expressions.specs.Descent.{Got, got, failed, bad, deep, ◌>>=◌, ◌>>◌, go_on, pure, leave, out, wrong, is_sign, is_key, is_name, of_rank, binary_at, prefix_at, field_at, start_at, base_at, on_some}
use Rattle.c_expressions.specs.Descent as of

-- the expression that begins where n tokens are open
abbrev parse_at : ℕ → List Kind → Got Expr
parse_at n l = of.chain (λ i. slice_get l i) shallow 4000 6 (record { at = 0; level = n })

abbrev parse : List Kind → Got Expr
parse l = parse_at 0 l

-- a - b - c
left : parse (Name ∷ Punct p.Dash ∷ Name ∷ Punct p.Dash ∷ Name ∷ []) ≡ got (tree.Difference 0 3 (tree.Difference 0 1 (tree.Name 0 0) (tree.Name 2 2)) (tree.Name 4 4)) (record { at = 5; level = 2 })
unfolding of.chain of.take of.expect of.expect_key of.expect_name of.close of.base_type of.base_from of.stars of.type_name of.worded of.sized of.allocation of.allocated of.cast_type of.cast of.closes of.casts of.casts_from ◌>>=◌ ◌>>◌ go_on pure leave out wrong is_sign is_key is_name of_rank binary_at prefix_at field_at start_at base_at on_some
left = refl

-- ( ( a ) ) * b
parens : parse (Punct p.Open ∷ Punct p.Open ∷ Name ∷ Punct p.Close ∷ Punct p.Close ∷ Punct p.Star ∷ Name ∷ []) ≡ got (tree.Product 0 5 (with_first 0 (with_first 1 (tree.Name 2 2))) (tree.Name 6 6)) (record { at = 7; level = 1 })
unfolding of.chain of.take of.expect of.expect_key of.expect_name of.close of.base_type of.base_from of.stars of.type_name of.worded of.sized of.allocation of.allocated of.cast_type of.cast of.closes of.casts of.casts_from ◌>>=◌ ◌>>◌ go_on pure leave out wrong is_sign is_key is_name of_rank binary_at prefix_at field_at start_at base_at on_some
parens = refl

-- f ( a , - b [ c ] ) ;
call : parse (Name ∷ Punct p.Open ∷ Name ∷ Punct p.Comma ∷ Punct p.Dash ∷ Name ∷ Punct p.OpenSquare ∷ Name ∷ Punct p.CloseSquare ∷ Punct p.Close ∷ Punct p.Semicolon ∷ [])
    ≡ got (tree.Call 0 0 (tree.Name 2 2 ∷ tree.Minus 4 4 (tree.Index 5 6 (tree.Name 5 5) (tree.Name 7 7)) ∷ [])) (record { at = 10; level = 1 })
unfolding of.chain of.take of.expect of.expect_key of.expect_name of.close of.base_type of.base_from of.stars of.type_name of.worded of.sized of.allocation of.allocated of.cast_type of.cast of.closes of.casts of.casts_from ◌>>=◌ ◌>>◌ go_on pure leave out wrong is_sign is_key is_name of_rank binary_at prefix_at field_at start_at base_at on_some
call = refl

-- ( int * * ) malloc ( sizeof ( struct s ) )
cast : parse (Punct p.Open ∷ Key Int ∷ Punct p.Star ∷ Punct p.Star ∷ Punct p.Close ∷ Key Malloc ∷ Punct p.Open ∷ Key Sizeof ∷ Punct p.Open ∷ Key Struct ∷ Name ∷ Punct p.Close ∷ Punct p.Close ∷ [])
    ≡ got (tree.Malloc 0 5 (Some (record { base = base.Int; stars = 2 })) (record { base = base.Struct 10; stars = 0 })) (record { at = 13; level = 0 })
unfolding of.chain of.take of.expect of.expect_key of.expect_name of.close of.base_type of.base_from of.stars of.type_name of.worded of.sized of.allocation of.allocated of.cast_type of.cast of.closes of.casts of.casts_from ◌>>=◌ ◌>>◌ go_on pure leave out wrong is_sign is_key is_name of_rank binary_at prefix_at field_at start_at base_at on_some
cast = refl

-- ( t * ) malloc ( sizeof ( t ) )
cast_alias : parse (Punct p.Open ∷ Name ∷ Punct p.Star ∷ Punct p.Close ∷ Key Malloc ∷ Punct p.Open ∷ Key Sizeof ∷ Punct p.Open ∷ Name ∷ Punct p.Close ∷ Punct p.Close ∷ [])
    ≡ got (tree.Malloc 0 4 (Some (record { base = base.Alias 1; stars = 1 })) (record { base = base.Alias 8; stars = 0 })) (record { at = 11; level = 0 })
unfolding of.chain of.take of.expect of.expect_key of.expect_name of.close of.base_type of.base_from of.stars of.type_name of.worded of.sized of.allocation of.allocated of.cast_type of.cast of.closes of.casts of.casts_from ◌>>=◌ ◌>>◌ go_on pure leave out wrong is_sign is_key is_name of_rank binary_at prefix_at field_at start_at base_at on_some
cast_alias = refl

-- ( a * b ) is no cast
product : parse (Punct p.Open ∷ Name ∷ Punct p.Star ∷ Name ∷ Punct p.Close ∷ []) ≡ got (with_first 0 (tree.Product 1 2 (tree.Name 1 1) (tree.Name 3 3))) (record { at = 5; level = 0 })
unfolding of.chain of.take of.expect of.expect_key of.expect_name of.close of.base_type of.base_from of.stars of.type_name of.worded of.sized of.allocation of.allocated of.cast_type of.cast of.closes of.casts of.casts_from ◌>>=◌ ◌>>◌ go_on pure leave out wrong is_sign is_key is_name of_rank binary_at prefix_at field_at start_at base_at on_some
product = refl

-- ( a * ) b
no_malloc : parse (Punct p.Open ∷ Name ∷ Punct p.Star ∷ Punct p.Close ∷ Name ∷ []) ≡ failed (bad 4)
unfolding of.chain of.take of.expect of.expect_key of.expect_name of.close of.base_type of.base_from of.stars of.type_name of.worded of.sized of.allocation of.allocated of.cast_type of.cast of.closes of.casts of.casts_from ◌>>=◌ ◌>>◌ go_on pure leave out wrong is_sign is_key is_name of_rank binary_at prefix_at field_at start_at base_at on_some
no_malloc = refl

-- ( int ) : a cast has a star
no_star : parse (Punct p.Open ∷ Key Int ∷ Punct p.Close ∷ []) ≡ failed (bad 2)
unfolding of.chain of.take of.expect of.expect_key of.expect_name of.close of.base_type of.base_from of.stars of.type_name of.worded of.sized of.allocation of.allocated of.cast_type of.cast of.closes of.casts of.casts_from ◌>>=◌ ◌>>◌ go_on pure leave out wrong is_sign is_key is_name of_rank binary_at prefix_at field_at start_at base_at on_some
no_star = refl

-- ( a ;
missing : parse (Punct p.Open ∷ Name ∷ Punct p.Semicolon ∷ []) ≡ failed (bad 2)
unfolding of.chain of.take of.expect of.expect_key of.expect_name of.close of.base_type of.base_from of.stars of.type_name of.worded of.sized of.allocation of.allocated of.cast_type of.cast of.closes of.casts of.casts_from ◌>>=◌ ◌>>◌ go_on pure leave out wrong is_sign is_key is_name of_rank binary_at prefix_at field_at start_at base_at on_some
missing = refl

abbrev opens : ℕ → List Kind → List Kind
opens zero l = l
opens (suc n) l = Punct p.Open ∷ opens n l

-- 201 brackets are open at the name
too_deep : parse (opens 201 (Name ∷ [])) ≡ failed (deep 201)
unfolding of.chain of.take of.expect of.expect_key of.expect_name of.close of.base_type of.base_from of.stars of.type_name of.worded of.sized of.allocation of.allocated of.cast_type of.cast of.closes of.casts of.casts_from ◌>>=◌ ◌>>◌ go_on pure leave out wrong is_sign is_key is_name of_rank binary_at prefix_at field_at start_at base_at on_some
too_deep = refl

-- 200 are, and the closing brackets are missing
shallow_enough : parse (opens 200 (Name ∷ [])) ≡ failed (bad 201)
unfolding of.chain of.take of.expect of.expect_key of.expect_name of.close of.base_type of.base_from of.stars of.type_name of.worded of.sized of.allocation of.allocated of.cast_type of.cast of.closes of.casts of.casts_from ◌>>=◌ ◌>>◌ go_on pure leave out wrong is_sign is_key is_name of_rank binary_at prefix_at field_at start_at base_at on_some
shallow_enough = refl

-- f ( ) where 200 tokens are open: the `(` of a call is open at its `)`
call_too_deep : parse_at 200 (Name ∷ Punct p.Open ∷ Punct p.Close ∷ []) ≡ failed (deep 2)
unfolding of.chain of.take of.expect of.expect_key of.expect_name of.close of.base_type of.base_from of.stars of.type_name of.worded of.sized of.allocation of.allocated of.cast_type of.cast of.closes of.casts of.casts_from ◌>>=◌ ◌>>◌ go_on pure leave out wrong is_sign is_key is_name of_rank binary_at prefix_at field_at start_at base_at on_some
call_too_deep = refl

-- ( a ) there: a bracket is not open at its closing one, but at the name
name_too_deep : parse_at 200 (Punct p.Open ∷ Name ∷ Punct p.Close ∷ []) ≡ failed (deep 1)
unfolding of.chain of.take of.expect of.expect_key of.expect_name of.close of.base_type of.base_from of.stars of.type_name of.worded of.sized of.allocation of.allocated of.cast_type of.cast of.closes of.casts of.casts_from ◌>>=◌ ◌>>◌ go_on pure leave out wrong is_sign is_key is_name of_rank binary_at prefix_at field_at start_at base_at on_some
name_too_deep = refl

-- a + b where 199 tokens are open: b has the level 200
sum_fits : parse_at 199 (Name ∷ Punct p.Plus ∷ Name ∷ []) ≡ got (tree.Sum 0 1 (tree.Name 0 0) (tree.Name 2 2)) (record { at = 3; level = 200 })
unfolding of.chain of.take of.expect of.expect_key of.expect_name of.close of.base_type of.base_from of.stars of.type_name of.worded of.sized of.allocation of.allocated of.cast_type of.cast of.closes of.casts of.casts_from ◌>>=◌ ◌>>◌ go_on pure leave out wrong is_sign is_key is_name of_rank binary_at prefix_at field_at start_at base_at on_some
sum_fits = refl
