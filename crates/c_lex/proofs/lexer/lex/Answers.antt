use Rattle.std.proofs.Common.{◌≡◌, ℕ, ◌+◌, ◌++◌, ◌<◌, ◌≤◌, List, [], Ok, Option, length, ap, sym, subst, ◌∙◌, arith}
use Rattle.std.specs.Prelude.{IfSome}
use Rattle.std.specs.List.{All}
use Rattle.std.proofs.lemmas.Result.{err_from_is_err_and}
use Rattle.cc_model.specs.declared.tokens.Token.{Token}
use Rattle.cc_model.specs.Lexical.{piece_at, token_at}
use Rattle.c_lex.specs.Positions.{IsPlace}
use Rattle.c_lex.specs.Views.{view, listed}
use Rattle.c_lex.specs.declared.pieces.Piece.{Piece}
use Rattle.c_lex.specs.declared.places.Place.{Place}
use Rattle.c_lex.proofs.Runs.{SoFar, Lies, so_more, so_refused, so_end, few_more, lies_more, so_start_at, lies_none}
use Rattle.c_lex.proofs.lexer.lex.Invariants.{Lexed}
use Rattle.c_lex.proofs.lexer.lex.Goals as goal

start_is : (source : List ℕ) (tokens : List Token) (place : Place) → tokens ≡ [] → place.at ≡ 0 → IsPlace source place → Lexed source tokens place
start_is source tokens place e z i =
    let none : SoFar source tokens place.at = so_start_at source tokens place.at e z in
    record { place_is = i; so_far = none; few = omega (arith, ap length e); lies = lies_none (length source) tokens e }

next_is : (source : List ℕ) (tokens longer : List Token) (place next : Place) (p : Piece) (o : Option Token) → Lexed source tokens place → place.at < length source → piece_at source place.at ≡ Ok (view p) → 0 < p.len → place.at + p.len ≤ length source →
    listed o ≡ token_at source place.at (view p) → IfSome o (λ t. (t.start ≡ place.at) × (t.«end» ≡ place.at + p.len)) → longer ≡ tokens ++ listed o → next.at ≡ place.at + p.len → IsPlace source next → Lexed source longer next
next_is source tokens longer place next p o h lt e l m t span grown at i =
    let AreFar : List Token → Type 0 = λ x. SoFar source x (place.at + p.len) in
    let IsFar : ℕ → Type 0 = λ n. SoFar source longer n in
    let AreFew : List Token → Type 0 = λ x. length x ≤ place.at + p.len in
    let Lie : List Token → Type 0 = λ x. All (Lies (length source)) x in
    let few : length longer ≤ place.at + p.len = subst AreFew (sym grown) (few_more tokens o place.at p.len h.few l) in
    record {
      place_is = i;
      so_far = subst IsFar (sym at) (subst AreFar (sym (grown ∙ ap (λ x. tokens ++ x) t)) (so_more source tokens place.at (view p) h.so_far lt e l));
      few = omega arith;
      lies = subst Lie (sym grown) (lies_more (length source) tokens o place.at p.len h.lies l m span);
    }

pub loop-place-init : goal.loop-place-init
loop-place-init c = start_is _ _ _ c.new-tokens.ensures.items c.start-place.ensures.at (c.start-place.ensures.place c.args.source.now)

pub returns-in_err-piece-clause-exact : goal.returns-in_err-piece-clause-exact
returns-in_err-piece-clause-exact c =
    let p = err_from_is_err_and c.from_residual.result c.from_residual.ensures.1 in
    rw (p.1, p.2) (so_refused _ _ _ c.in_err-piece.field-0.0 c.loop-place.invariant.so_far c.loop-place-test.true c.in_err-piece.ensures.exact)

pub loop-place-preserved : goal.loop-place-preserved
loop-place-preserved c =
    next_is c.args.source.now c.loop-place.tokens.items c.push.new.tokens.items c.loop-place.place c.moved-place.result c.in_ok-piece.piece c.token_at.result
    c.loop-place.invariant c.loop-place-test.true c.in_ok-piece.ensures.exact c.in_ok-piece.ensures.inside.0 c.in_ok-piece.ensures.inside.1
    c.token_at.ensures.exact c.token_at.ensures.span c.in_ok-push.ensures.ok c.moved-place.ensures.at c.moved-place.ensures.place

pub returns-clause-exact : goal.returns-clause-exact
returns-clause-exact c = so_end _ _ _ c.loop-place.invariant.so_far c.loop-place-test.false
