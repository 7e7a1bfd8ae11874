use Rattle.std.proofs.Common.{map, ap, length, eq-eqb}
use Rattle.replay.specs.Tables.{seen_word}
use Rattle.replay.proofs.FormLaws.{no_word_left, no_such_word, more_by, no_words}
use Rattle.replay.proofs.forms.+are_words.Goals as goal

pub returns-else-is_empty : goal.returns-else-is_empty
returns-else-is_empty t c =
    no_word_left _ (map seen_word c.in-Some.rest.now) (seen_word c.in-Some.kind.now) c.args.text.now (ap (map seen_word) (c.in-Some.ensures.cases.0)) c.in-None.ensures.none
    (λ e. let t = eq-eqb (length c.in-Some.rest.now) 0 (no_words c.in-Some.rest.now e) in absurd (cc (t, c.is_empty.ensures, c.if-is_empty.false)))

pub returns-then-branch : goal.returns-then-branch
returns-then-branch t c =
    more_by c.are_words.result c.in_ok-is_word-in-Some-cut_first.field-0 _ (map seen_word c.in-Some.rest.now) (seen_word c.in-Some.kind.now) c.args.text.now
    c.in-Some-cut_first.parts.before.now c.in-Some-cut_first.parts.behind.now (ap (map seen_word) (c.in-Some.ensures.cases.0)) c.in-Some-cut_first.ensures.some
    c.in_ok-is_word-in-Some-cut_first.ensures c.if-branch.true c.are_words.ensures

pub returns-else-branch : goal.returns-else-branch
returns-else-branch t c =
    no_such_word c.in_ok-is_word-in-Some-cut_first.field-0 _ (map seen_word c.in-Some.rest.now) (seen_word c.in-Some.kind.now) c.args.text.now
    c.in-Some-cut_first.parts.before.now c.in-Some-cut_first.parts.behind.now (ap (map seen_word) (c.in-Some.ensures.cases.0)) c.in-Some-cut_first.ensures.some
    c.in_ok-is_word-in-Some-cut_first.ensures c.if-branch.false
