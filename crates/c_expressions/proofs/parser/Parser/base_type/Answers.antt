use Rattle.std.proofs.Common.{add-one, ◌∙◌, ◌≡◌, suc, Some, refl, sym}
use Rattle.cc_model.specs.declared.tokens.Kind.TheVariants as kind
use Rattle.cc_model.specs.declared.tokens.Keyword.TheVariants as keyword
use Rattle.cc_model.specs.declared.trees.Base.TheVariants as base
use Rattle.cc_model.specs.Spots.{kind_at, shallow, passed}
use Rattle.c_expressions.specs.Descent.{Got, got, failed, Ends, pure, leave, ◌>>◌, ◌>>=◌, prefix_at, binary_at}
use Rattle.c_expressions.specs.Descent as of
use Rattle.c_expressions.specs.Shown.{place}
use Rattle.c_expressions.proofs.Rules.{ends_pure, takes_go}
use Rattle.c_expressions.proofs.Steps.{exits_take, base_int, base_struct, base_alias, base_other}
use Rattle.c_expressions.proofs.parser.Parser.base_type.Goals as goal

pub returns-in_err-after-in-Int-clause-shown : goal.returns-in_err-after-in-Int-clause-shown
returns-in_err-after-in-Int-clause-shown c =
    let e : (kind_at c.args.self.now.tokens.now) c.args.spot.at ≡ Some (kind.Key keyword.Int) = sym c.kind.ensures.value ∙ c.in-Int.ensures.here in
    exits_take (of.take (kind_at c.args.self.now.tokens.now) shallow passed) (λ _. of.base_type (kind_at c.args.self.now.tokens.now) shallow) (place c.args.spot) (place c.args.spot) _ c.in_err-after-in-Int.field-0.0 c.from_residual.ensures
    (λ x h. (base_int (kind_at c.args.self.now.tokens.now) shallow (place c.args.spot) (failed x) (failed x) e h refl)) c.in_err-after-in-Int.ensures.shown

pub returns-in_ok-after-in-Int-clause-shown : goal.returns-in_ok-after-in-Int-clause-shown
returns-in_ok-after-in-Int-clause-shown c =
    let e : (kind_at c.args.self.now.tokens.now) c.args.spot.at ≡ Some (kind.Key keyword.Int) = sym c.kind.ensures.value ∙ c.in-Int.ensures.here in
    (base_int (kind_at c.args.self.now.tokens.now) shallow (place c.args.spot) (got tt (place c.in_ok-after-in-Int.after)) _ e c.in_ok-after-in-Int.ensures.shown (ends_pure _ _))

pub returns-in_err-tag-in-Struct-clause-shown : goal.returns-in_err-tag-in-Struct-clause-shown
returns-in_err-tag-in-Struct-clause-shown c =
    let e : (kind_at c.args.self.now.tokens.now) c.args.spot.at ≡ Some (kind.Key keyword.Struct) = sym c.kind.ensures.value ∙ c.in-Struct.ensures.here in
    exits_take (of.take (kind_at c.args.self.now.tokens.now) shallow passed) (λ _. of.base_type (kind_at c.args.self.now.tokens.now) shallow) (place c.args.spot) (place c.args.spot) _ c.in_err-tag-in-Struct.field-0.0 c.from_residual-in_err-tag-in-Struct.ensures
    (λ x h. (base_struct (kind_at c.args.self.now.tokens.now) shallow (place c.args.spot) (failed x) (failed x) e h refl)) c.in_err-tag-in-Struct.ensures.shown

pub returns-in_err-after-in-Struct-clause-shown : goal.returns-in_err-after-in-Struct-clause-shown
returns-in_err-after-in-Struct-clause-shown c =
    let e : (kind_at c.args.self.now.tokens.now) c.args.spot.at ≡ Some (kind.Key keyword.Struct) = sym c.kind.ensures.value ∙ c.in-Struct.ensures.here in
    exits_take (of.expect_name (kind_at c.args.self.now.tokens.now) shallow) (λ _. of.base_type (kind_at c.args.self.now.tokens.now) shallow) (place c.in_ok-tag-in-Struct.tag) (place c.args.spot) _ c.in_err-after-in-Struct.field-0.0 c.from_residual-in_err-after-in-Struct.ensures
    (λ x h. (base_struct (kind_at c.args.self.now.tokens.now) shallow (place c.args.spot) (got tt (place c.in_ok-tag-in-Struct.tag)) (failed x) e c.in_ok-tag-in-Struct.ensures.shown (takes_go (failed x) _ (λ m. pure (base.Struct (suc c.args.spot.at))) h refl))) c.in_err-after-in-Struct.ensures.shown

pub returns-in_ok-after-in-Struct-clause-shown : goal.returns-in_ok-after-in-Struct-clause-shown
returns-in_ok-after-in-Struct-clause-shown c =
    let e : (kind_at c.args.self.now.tokens.now) c.args.spot.at ≡ Some (kind.Key keyword.Struct) = sym c.kind.ensures.value ∙ c.in-Struct.ensures.here in
    let n : c.in_ok-tag-in-Struct.tag.at ≡ suc c.args.spot.at = c.in_ok-tag-in-Struct.ensures.next.1 ∙ add-one c.args.spot.at in
    rw n (base_struct (kind_at c.args.self.now.tokens.now) shallow (place c.args.spot) (got tt (place c.in_ok-tag-in-Struct.tag)) _ e c.in_ok-tag-in-Struct.ensures.shown (takes_go (got tt (place c.in_ok-after-in-Struct.after)) _ (λ m. pure (base.Struct (suc c.args.spot.at))) c.in_ok-after-in-Struct.ensures.shown (ends_pure _ _)))

pub returns-in_err-after-in-Alias-clause-shown : goal.returns-in_err-after-in-Alias-clause-shown
returns-in_err-after-in-Alias-clause-shown c =
    let e : (kind_at c.args.self.now.tokens.now) c.args.spot.at ≡ Some kind.Name = sym c.kind.ensures.value ∙ c.in-Alias.ensures.here in
    exits_take (of.take (kind_at c.args.self.now.tokens.now) shallow passed) (λ _. of.base_type (kind_at c.args.self.now.tokens.now) shallow) (place c.args.spot) (place c.args.spot) _ c.in_err-after-in-Alias.field-0.0 c.from_residual-in_err-after-in-Alias.ensures
    (λ x h. (base_alias (kind_at c.args.self.now.tokens.now) shallow (place c.args.spot) (failed x) (failed x) e h refl)) c.in_err-after-in-Alias.ensures.shown

pub returns-in_ok-after-in-Alias-clause-shown : goal.returns-in_ok-after-in-Alias-clause-shown
returns-in_ok-after-in-Alias-clause-shown c =
    let e : (kind_at c.args.self.now.tokens.now) c.args.spot.at ≡ Some kind.Name = sym c.kind.ensures.value ∙ c.in-Alias.ensures.here in
    (base_alias (kind_at c.args.self.now.tokens.now) shallow (place c.args.spot) (got tt (place c.in_ok-after-in-Alias.after)) _ e c.in_ok-after-in-Alias.ensures.shown (ends_pure _ _))

pub returns-in-Other-clause-shown : goal.returns-in-Other-clause-shown
returns-in-Other-clause-shown c =
    let e = rw c.kind.ensures.value at c.in-Other.ensures.here in
    base_other (kind_at c.args.self.now.tokens.now) shallow (place c.args.spot) e
