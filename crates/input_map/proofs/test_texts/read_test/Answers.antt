use Rattle.std.proofs.Common.{subst, sym}
use Rattle.std.proofs.lemmas.Result.{err_from_is_err_and}
use Rattle.cc_model.specs.CheckedProgram.{core_of}
use Rattle.cc_base.specs.Inputs.{map_text}
use Rattle.input_map.specs.CellFaults.{Refused}
use Rattle.input_map.proofs.ReadLaws.{words_of, words_only, map_only, read_only, form_only, words_or_memory, no_fault, same_fault}
use Rattle.input_map.proofs.test_texts.read_test.Goals as goal

pub returns-in_err-words-clause-only : goal.returns-in_err-words-clause-only
returns-in_err-words-clause-only c t h =
    let q = err_from_is_err_and c.from_residual.result c.from_residual.ensures.1 in
    rw (q.1, q.2) (words_only (core_of c.args.checked.now) c.args.bounds.now c.args.text.now c.in_err-words.field-0.0 t c.in_err-words.ensures.refused h)

pub returns-in-Ok-clause-only : goal.returns-in-Ok-clause-only
returns-in-Ok-clause-only c t h =
    read_only (core_of c.args.checked.now) c.args.bounds.now c.args.text.now c.in_ok-words.words.path c.in_ok-words.words.end c.in_ok-words.words.map.now c.in-Ok.input t c.in-Ok.ensures.read
    (c.in_ok-words.ensures.only t.path t.end (map_text t.input) (words_of (core_of c.args.checked.now) c.args.bounds.now c.args.text.now t h)) h

pub returns-in-Err-clause-only : goal.returns-in-Err-clause-only
returns-in-Err-clause-only c t h =
    let w = c.in_ok-words.ensures.only t.path t.end (map_text t.input) (words_of (core_of c.args.checked.now) c.args.bounds.now c.args.text.now t h) in
    map_only (core_of c.args.checked.now) c.args.bounds.now c.args.text.now c.in_ok-words.words.path c.in_ok-words.words.end c.in_ok-words.words.map.now c.in-Err.fault c.fault_of.result t c.in-Err.ensures.read c.fault_of.ensures h w.2

pub returns-in_err-words-clause-only_form : goal.returns-in_err-words-clause-only_form
returns-in_err-words-clause-only_form c none =
    let q = err_from_is_err_and c.from_residual.result c.from_residual.ensures.1 in
    rw (q.1, q.2) (form_only c.args.text.now c.in_err-words.field-0.0 c.in_err-words.ensures.refused)

pub returns-in_err-words-clause-only_map : goal.returns-in_err-words-clause-only_map
returns-in_err-words-clause-only_map c p e m f w k =
    let q = err_from_is_err_and c.from_residual.result c.from_residual.ensures.1 in
    rw (q.1, q.2) (words_or_memory c.args.text.now c.in_err-words.field-0.0 p e m _ c.in_err-words.ensures.refused w)

pub returns-in-Ok-clause-only_form : goal.returns-in-Ok-clause-only_form
returns-in-Ok-clause-only_form c none = absurd (none c.in_ok-words.words.path c.in_ok-words.words.end c.in_ok-words.words.map.now c.in_ok-words.ensures.read)

pub returns-in-Ok-clause-only_map : goal.returns-in-Ok-clause-only_map
returns-in-Ok-clause-only_map c p e m f w k =
    let s = c.in_ok-words.ensures.only p e m w in
    absurd (no_fault c.in-Ok.input f (c.in-Ok.ensures.refused f (subst (λ x. Refused (core_of c.args.checked.now) c.args.bounds.now x f) (sym s.2) k)))

pub returns-in-Err-clause-only_form : goal.returns-in-Err-clause-only_form
returns-in-Err-clause-only_form c none = absurd (none c.in_ok-words.words.path c.in_ok-words.words.end c.in_ok-words.words.map.now c.in_ok-words.ensures.read)

pub returns-in-Err-clause-only_map : goal.returns-in-Err-clause-only_map
returns-in-Err-clause-only_map c p e m f w k =
    let s = c.in_ok-words.ensures.only p e m w in
    same_fault c.in-Err.fault f c.fault_of.result (c.in-Err.ensures.refused f (subst (λ x. Refused (core_of c.args.checked.now) c.args.bounds.now x f) (sym s.2) k)) c.fault_of.ensures
