-- The causes of refusals of a source, of its program, and of the output.
use Rattle.std.proofs.Common.{◌≡◌, ℕ, ◌⊎◌, inl, inr, List, Option, Result, Ok, Err, refl, sym, subst, codes}
use Rattle.cc_base.specs.declared.inputs.Input.{Input}
use Rattle.cc_base.specs.Limits.{Limits}
use Rattle.cc_model.specs.declared.tokens.Token.{Token}
use Rattle.cc_model.specs.declared.checked.Checked.{Checked}
use Rattle.cc_model.specs.declared.typing.Wrong as typing
use Rattle.cc_model.specs.declared.typing.Wrong.TheVariants as kind
use Rattle.cc_model.specs.CheckedProgram.{core_of}
use Rattle.cc_model.specs.Lexical.{line_at}
use Rattle.cc_model.specs.Runs.{IsInput}
use Rattle.cc_model.specs.Source.{IsProgram}
use Rattle.input_map.specs.Maps.{IsMap}
use Rattle.concolic_cli.specs.declared.refusal.Wrong.{Wrong}
use Rattle.concolic_cli.specs.declared.refusal.Wrong.TheVariants as wrong
use Rattle.concolic_cli.specs.declared.refusal.Refusal.{Refusal}
use Rattle.concolic_cli.specs.declared.refusal.FileWord.TheVariants as word
use Rattle.concolic_cli.specs.declared.refusal.Refusal.TheVariants as refused
use Rattle.concolic_cli.specs.Made.{made_source, made_entry}
use Rattle.concolic_cli.specs.Programs.{ReadsAs, IsLexical, IsFaulty, IsWrong, IsNoProgram}
use Rattle.concolic_cli.specs.Refusals.{what_text}
use Rattle.concolic_cli.specs.Loaded.{ReadAs}
use Rattle.concolic_cli.specs.Session.{FileCause, MapCause, SourceCause, WriteCause, Seen, WroteFirst, part, Cause, nothing, no_line, first_part, WroteLastFirst, MadeCause}
use Rattle.concolic_cli.specs.Sources.{offset_of, source_text, wrong_text, no_entry_text, Refuses, lexical, syntax, too_deep, fault, no_entry}
use Rattle.concolic_cli.specs.Tasks.{Task, Work, trace}

-- a bad byte, number, comment or directive
lexical_cause : (bytes entry : List ℕ) (line : ℕ) (what : List ℕ) → IsLexical bytes line what → Refuses bytes entry (source_text line what)
lexical_cause bytes entry line what h =
    subst (λ l. Refuses bytes entry (source_text l what)) (sym h.2) (subst (λ w. Refuses bytes entry (source_text (line_at bytes (offset_of h.0)) w)) (sym h.3) (lexical h.0 h.1))

-- a name, a declaration, a type or a size
faulty_cause : (bytes entry : List ℕ) (line : ℕ) (w : typing.Wrong) → IsFaulty bytes line w → Refuses bytes entry (source_text line (wrong_text w))
faulty_cause bytes entry line w h = subst (λ l. Refuses bytes entry (source_text l (wrong_text w))) (sym h.place) (fault h.tokens h.tree (record { what = w; token = h.token }) h.lexed h.read h.first)

pub wrong_cause : (bytes entry : List ℕ) (line : ℕ) (w : Wrong) → IsWrong bytes line w → Refuses bytes entry (source_text line (what_text w))
wrong_cause bytes entry line wrong.BadByte h = lexical_cause bytes entry line _ h
wrong_cause bytes entry line wrong.BadNumber h = lexical_cause bytes entry line _ h
wrong_cause bytes entry line wrong.OpenComment h = lexical_cause bytes entry line _ h
wrong_cause bytes entry line wrong.BadDirective h = lexical_cause bytes entry line _ h
wrong_cause bytes entry line wrong.Syntax h = subst (λ l. Refuses bytes entry (source_text l (codes "syntax"))) (sym h.3) (syntax h.0 h.1 h.2 h.4 h.5)
wrong_cause bytes entry line wrong.UnknownName h = faulty_cause bytes entry line kind.Unknown h
wrong_cause bytes entry line wrong.DeclaredTwice h = faulty_cause bytes entry line kind.Twice h
wrong_cause bytes entry line wrong.Mismatch h = faulty_cause bytes entry line kind.Mismatch h
wrong_cause bytes entry line wrong.TooLarge h = faulty_cause bytes entry line kind.TooLarge h
wrong_cause bytes entry line wrong.TooDeep h = subst (λ l. Refuses bytes entry (source_text l (codes "too deep"))) (sym h.3) (too_deep h.0 h.1 h.2 h.4 h.5)

-- a source that is no program with such a function is refused for that cause
pub no_program_cause : (bytes entry : List ℕ) (work : Work) (e : Refusal) → IsNoProgram bytes entry e → SourceCause bytes entry work e
no_program_cause bytes entry work (refused.Source line w) h = wrong_cause bytes entry line w h
no_program_cause bytes entry work refused.NoMemory h = tt
no_program_cause bytes entry work (refused.BadWord n) h = h
no_program_cause bytes entry work refused.NoEntry h = no_entry h.0 h.1 (h.2).lexed (h.2).read (h.2).well_typed h.3
no_program_cause bytes entry work (refused.Map f) h = absurd h
no_program_cause bytes entry work (refused.File w f) h = absurd h
no_program_cause bytes entry work (refused.Tests l) h = absurd h
no_program_cause bytes entry work refused.OutputFailed h = h

-- ---- an accepted program

abbrev pub program_of : (bytes entry : List ℕ) (tokens : List Token) (c : Checked) → ReadsAs bytes entry tokens c → IsProgram bytes entry (core_of c)
program_of bytes entry tokens c reads = record { tokens = tokens; checked = c; lexed = reads.lexed; read = reads.read; right = reads.right; core = refl }

abbrev pub read_as : Result Input Refusal → Result Input Refusal
read_as r = r

-- its map text is refused
pub map_cause : (bytes entry : List ℕ) (tokens : List Token) (c : Checked) (b : Limits) (map : List ℕ) (e : Refusal) → ReadsAs bytes entry tokens c → MapCause (core_of c) b map e →
    ((h : Input) → IsMap map h → IsInput (core_of c) b h → (read_as (Err e) ≡ Ok h) ⊎ (read_as (Err e) ≡ Err refused.NoMemory)) → SourceCause bytes entry (trace b map) e
map_cause bytes entry tokens c b map (refused.Map f) reads h whole =
    record { program = core_of c; source = program_of bytes entry tokens c reads; refused = h; none = λ i m w. neither i (whole i m w) }
  where
    neither : (i : Input) → (read_as (Err (refused.Map f)) ≡ Ok i) ⊎ (read_as (Err (refused.Map f)) ≡ Err refused.NoMemory) → ⊥
    neither i (inl e) = cc e
    neither i (inr e) = cc e
map_cause bytes entry tokens c b map refused.NoMemory reads h whole = tt
map_cause bytes entry tokens c b map (refused.Source line w) reads h whole = absurd h
map_cause bytes entry tokens c b map (refused.BadWord n) reads h whole = absurd h
map_cause bytes entry tokens c b map (refused.File w f) reads h whole = absurd h
map_cause bytes entry tokens c b map refused.NoEntry reads h whole = absurd h
map_cause bytes entry tokens c b map refused.OutputFailed reads h whole = absurd h
map_cause bytes entry tokens c b map (refused.Tests l) reads h whole = absurd h

-- ---- the file

-- it is refused, and nothing was written
pub file_cause : (seen : Seen) (task : Task) (e : Refusal) → FileCause seen.held seen.files_old seen.files_new task.file e → seen.out_new ≡ seen.out_old → Cause seen task e
file_cause seen task (refused.File word.Source f) h silent = (h, silent)
file_cause seen task (refused.File word.Tests f) h silent = absurd h
file_cause seen task refused.NoMemory h silent = nothing silent
file_cause seen task (refused.BadWord n) h silent = absurd h
file_cause seen task (refused.Source line w) h silent = absurd h
file_cause seen task refused.NoEntry h silent = absurd h
file_cause seen task (refused.Map f) h silent = absurd h
file_cause seen task (refused.Tests l) h silent = absurd h
file_cause seen task refused.OutputFailed h silent = absurd h

-- ---- the output

-- a write failed, and a first part of the text stands
pub write_failed : (seen : Seen) (task : Task) (e : Refusal) → WroteFirst seen.held seen.out_old seen.out_new task → WriteCause seen.faults_old seen.faults_new e → Cause seen task e
write_failed seen task refused.OutputFailed w h = (h, w)
write_failed seen task refused.NoMemory w h = part w
write_failed seen task (refused.BadWord n) w h = absurd h
write_failed seen task (refused.File u f) w h = absurd h
write_failed seen task (refused.Source line wrong) w h = absurd h
write_failed seen task refused.NoEntry w h = absurd h
write_failed seen task (refused.Map f) w h = absurd h
write_failed seen task (refused.Tests l) w h = absurd h

-- ---- a source that is no program

-- a file's bytes are no program, and nothing was written
pub source_refused : (seen : Seen) (task : Task) (e : Refusal) (bytes bytes' : List ℕ) → bytes' ≡ bytes → ReadAs seen.held task.file bytes → IsNoProgram bytes' task.entry e → seen.out_new ≡ seen.out_old → Cause seen task e
source_refused seen task e bytes bytes' same read none silent = by_refusal e (no_program_cause bytes task.entry task.work e (subst (λ u. IsNoProgram u task.entry e) same none))
  where
    by_refusal : (e : Refusal) → SourceCause bytes task.entry task.work e → Cause seen task e
    by_refusal (refused.Source line w) h = record { bytes = bytes; read = read; cause = h; silent = silent }
    by_refusal refused.NoEntry h = record { bytes = bytes; read = read; cause = h; silent = silent }
    by_refusal (refused.Map f) h = record { bytes = bytes; read = read; cause = h; silent = silent }
    by_refusal refused.NoMemory h = nothing silent
    by_refusal (refused.BadWord n) h = absurd h
    by_refusal (refused.File w f) h = absurd h
    by_refusal refused.OutputFailed h = absurd h
    by_refusal (refused.Tests l) h = absurd h

-- ---- `make`

module _ (n : ℕ) (old new : Option (List ℕ)) (faults_old faults_new : ℕ) where
  -- the made source is no program
  pub made_refused : (source : List ℕ) (e : Refusal) → source ≡ made_source n → IsNoProgram source made_entry e → new ≡ old → MadeCause n old new faults_old faults_new e
  made_refused source (refused.Source line w) same h silent = (wrong_cause (made_source n) made_entry line w (subst (λ u. IsWrong u line w) same h), silent)
  made_refused source refused.NoEntry same h silent = (subst (λ u. Refuses u made_entry (no_entry_text made_entry)) same (no_entry h.0 h.1 (h.2).lexed (h.2).read (h.2).well_typed h.3), silent)
  made_refused source refused.NoMemory same h silent = no_line silent
  made_refused source (refused.Map f) same h silent = absurd h
  made_refused source (refused.File w f) same h silent = absurd h
  made_refused source (refused.Tests l) same h silent = absurd h
  made_refused source (refused.BadWord k) same h silent = absurd h
  made_refused source refused.OutputFailed same h silent = absurd h

  -- its line failed
  pub line_failed : (e : Refusal) → WroteLastFirst n old new → WriteCause faults_old faults_new e → MadeCause n old new faults_old faults_new e
  line_failed refused.OutputFailed w h = (h, w)
  line_failed refused.NoMemory w h = first_part w
  line_failed (refused.BadWord k) w h = absurd h
  line_failed (refused.File u f) w h = absurd h
  line_failed (refused.Source line wrong) w h = absurd h
  line_failed refused.NoEntry w h = absurd h
  line_failed (refused.Map f) w h = absurd h
  line_failed (refused.Tests l) w h = absurd h
