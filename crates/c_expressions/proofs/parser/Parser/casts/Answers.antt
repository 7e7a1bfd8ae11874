use Rattle.std.proofs.Common.{add-one, arith, ◌≡◌, ◌+◌, ◌∙◌, sym, suc}
use Rattle.cc_model.specs.Spots.{kind_at, shallow}
use Rattle.c_expressions.specs.Shown.{place}
use Rattle.c_expressions.proofs.Steps.{casts_int, casts_struct, casts_name, casts_plain, casts_other}
use Rattle.c_expressions.proofs.parser.Parser.casts.Goals as goal

pub returns-in-Int : goal.returns-in-Int
returns-in-Int c = record { shown = casts_int (kind_at c.args.self.now.tokens.now) shallow (place c.args.spot) (c.args.spot.at + 1) (add-one c.args.spot.at) (sym c.kind.ensures.value ∙ c.in-Int.ensures.here) }

pub returns-in-Struct : goal.returns-in-Struct
returns-in-Struct c = record { shown = casts_struct (kind_at c.args.self.now.tokens.now) shallow (place c.args.spot) (c.args.spot.at + 1) (add-one c.args.spot.at) (sym c.kind.ensures.value ∙ c.in-Struct.ensures.here) }

pub returns-then-is_sign : goal.returns-then-is_sign
returns-then-is_sign c =
    let two : c.args.spot.at + 2 ≡ suc (suc c.args.spot.at) = omega arith in
    let f = sym (rw c.kind-in-Alias.ensures.value at c.is_sign.ensures.value) ∙ c.if-is_sign.true in
    record {
      shown = casts_name (kind_at c.args.self.now.tokens.now) shallow (place c.args.spot) (c.args.spot.at + 1) (c.args.spot.at + 2) c.closes.result (add-one c.args.spot.at) two
          (sym c.kind.ensures.value ∙ c.in-Alias.ensures.here) f (c.closes.ensures.shown (place c.args.spot));
    }

pub returns-else-is_sign : goal.returns-else-is_sign
returns-else-is_sign c =
    let two : c.args.spot.at + 2 ≡ suc (suc c.args.spot.at) = omega arith in
    let f = sym (rw c.kind-in-Alias.ensures.value at c.is_sign.ensures.value) ∙ c.if-is_sign.false in
    record {
      shown = rw c.if-is_sign.false (casts_plain (kind_at c.args.self.now.tokens.now) shallow (place c.args.spot) (c.args.spot.at + 1) (c.args.spot.at + 2) (add-one c.args.spot.at) two
          (sym c.kind.ensures.value ∙ c.in-Alias.ensures.here) f);
    }

pub returns-in-Other : goal.returns-in-Other
returns-in-Other c = record { shown = casts_other (kind_at c.args.self.now.tokens.now) shallow (place c.args.spot) (c.args.spot.at + 1) (add-one c.args.spot.at) (rw c.kind.ensures.value at c.in-Other.ensures.here) }
