use Rattle.std.proofs.Common.{refl, inr}
use Rattle.input_map.proofs.Threes.{none_at_first, none_at_second, parts, path_is, end_is, lacks_behind}
use Rattle.input_map.proofs.test_texts.three_words.Goals as goal

pub returns-in_default-clause-refused : goal.returns-in_default-clause-refused
returns-in_default-clause-refused c = inr (refl, none_at_first c.args.text.now c.in_default.ensures.none)

pub returns-in_default-cut_first-clause-refused : goal.returns-in_default-cut_first-clause-refused
returns-in_default-cut_first-clause-refused c =
    inr (refl, none_at_second c.args.text.now c.in-Some.first.before.now c.in-Some.first.behind.now c.in-Some.ensures.some c.in_default-cut_first.ensures.none)

pub returns-then-not-lacks-clause-refused : goal.returns-then-not-lacks-clause-refused
returns-then-not-lacks-clause-refused c = inr (
  refl,
  λ p e m h.
      let q = parts c.args.text.now c.in-Some.first.before.now c.in-Some.first.behind.now c.in-Some-cut_first.second.before.now c.in-Some-cut_first.second.behind.now c.in-Some.ensures.some c.in-Some-cut_first.ensures.some p e m h in
      let t = c.lacks.ensures.1 (lacks_behind c.in-Some.first.before.now c.in-Some-cut_first.second.before.now c.in-Some-cut_first.second.behind.now p e m c.args.text.now h q) in
      let f = c.if-not-lacks.true in
      absurd (cc (t, f)),
)

pub returns-in_default-end_of-clause-refused : goal.returns-in_default-end_of-clause-refused
returns-in_default-end_of-clause-refused c = inr (
  refl,
  λ p e m h.
      let q = parts c.args.text.now c.in-Some.first.before.now c.in-Some.first.behind.now c.in-Some-cut_first.second.before.now c.in-Some-cut_first.second.behind.now c.in-Some.ensures.some c.in-Some-cut_first.ensures.some p e m h in
      let t = c.in_default-end_of.ensures.only e (end_is c.in-Some.first.before.now c.in-Some-cut_first.second.before.now c.in-Some-cut_first.second.behind.now p e m c.args.text.now h q) in
      absurd (cc t),
)

pub returns-in_default-2-clause-refused : goal.returns-in_default-2-clause-refused
returns-in_default-2-clause-refused c = inr (
  refl,
  λ p e m h.
      let q = parts c.args.text.now c.in-Some.first.before.now c.in-Some.first.behind.now c.in-Some-cut_first.second.before.now c.in-Some-cut_first.second.behind.now c.in-Some.ensures.some c.in-Some-cut_first.ensures.some p e m h in
      let t = c.in_ok-path.ensures.only p (path_is c.in-Some.first.before.now c.in-Some-cut_first.second.before.now c.in-Some-cut_first.second.behind.now p e m c.args.text.now h q) in
      absurd (cc (t, c.in_default-2.is)),
)

pub returns-clause-only : goal.returns-clause-only
returns-clause-only c p e m h =
    let q = parts c.args.text.now c.in-Some.first.before.now c.in-Some.first.behind.now c.in-Some-cut_first.second.before.now c.in-Some-cut_first.second.behind.now c.in-Some.ensures.some c.in-Some-cut_first.ensures.some p e m h in
    let s = c.in-Some-end_of.ensures.only e (end_is c.in-Some.first.before.now c.in-Some-cut_first.second.before.now c.in-Some-cut_first.second.behind.now p e m c.args.text.now h q) in
    let t = c.in_ok-path.ensures.only p (path_is c.in-Some.first.before.now c.in-Some-cut_first.second.before.now c.in-Some-cut_first.second.behind.now p e m c.args.text.now h q) in
    (cc (t, c.in-Some-2.is), cc s, q.map)
