-- A source that is a program is not refused.
use Rattle.std.proofs.Common.{true, ◌≡◌, ℕ, inl, inr, List, Option, Ok, sym, subst, Bool}
use Rattle.cc_base.specs.declared.inputs.Input.{Input}
use Rattle.cc_base.specs.Limits.{Limits}
use Rattle.cc_base.specs.Paths.{Path, In}
use Rattle.cc_model.specs.declared.commands.Strategy.{Strategy}
use Rattle.cc_model.specs.declared.tokens.Token.{Token}
use Rattle.cc_model.specs.declared.trees.Program as source_program
use Rattle.cc_model.specs.Core.{Program}
use Rattle.cc_model.specs.Faults.{WellTyped, has_entry}
use Rattle.cc_model.specs.Lexical.{tokens_of}
use Rattle.cc_model.specs.Reads.{Reads, Accepts, shallow}
use Rattle.cc_model.specs.Runs.{IsInput}
use Rattle.cc_model.specs.Source.{IsProgram, text_at}
use Rattle.cc_model.specs.Tested.{tested}
use Rattle.cc_outside.specs.Held.{Held}
use Rattle.input_map.specs.Maps.{IsMap}
use Rattle.concolic_cli.specs.Concolic.{IsSourceOf, HoldsSome}
use Rattle.concolic_cli.specs.Loaded.{ReadTests}
use Rattle.concolic_cli.specs.Session.{part}
use Rattle.concolic_cli.specs.Sources.{Refuses, lexical, syntax, too_deep, fault, no_entry}
use Rattle.concolic_cli.specs.Tasks.{Work, list, walk, trace, replay, IsReport, MayStand, RefusesTask}
use Rattle.replay.specs.Files.{IsTestsFile}

-- ---- a source is no program and a refusal at once

-- a law of the grammar: tokens read as at most one program
abbrev pub OneProgram : Type 0
OneProgram = (fits : ℕ → ℕ → Bool) (tokens : List Token) (p q : source_program.Program) → Reads fits tokens p → Reads fits tokens q → p ≡ q

-- the tokens of a program are a program
read_unread : (bytes entry : List ℕ) (p : Program) → (i : IsProgram bytes entry p) → (tokens : List Token) → tokens_of bytes ≡ Ok tokens → ((tree : source_program.Program) → Accepts tokens tree → ⊥) → ⊥
read_unread bytes entry p i tokens h none = let same : i.tokens ≡ tokens = cc (i.lexed, h) in none (i.checked).program (subst (λ u. Accepts u (i.checked).program) same i.read)

-- the program has no fault, and its tested function has a body
none_faulty : OneProgram → (bytes entry : List ℕ) (p : Program) → (i : IsProgram bytes entry p) → (tokens : List Token) (tree : source_program.Program) → tokens_of bytes ≡ Ok tokens → Accepts tokens tree →
    WellTyped (text_at bytes tokens) tree.items × (has_entry (text_at bytes tokens) tree.items entry ≡ true)
none_faulty one bytes entry p i tokens tree h read =
    let same : i.tokens ≡ tokens = cc (i.lexed, h) in
    let alike = one shallow tokens (i.checked).program tree (subst (λ u. Accepts u (i.checked).program) same i.read) read in
    let P : List Token → source_program.Program → Type 0 = λ k u. WellTyped (text_at bytes k) u.items × (has_entry (text_at bytes k) u.items entry ≡ true) in
    subst (λ k. P k tree) same (subst (λ u. P i.tokens u) alike ((i.right).well_typed, (i.right).has_body))

pub unrefused : OneProgram → (bytes entry : List ℕ) (p : Program) (text : List ℕ) → IsProgram bytes entry p → Refuses bytes entry text → ⊥
unrefused one bytes entry p _ i (lexical f h) = cc (i.lexed, h)
unrefused one bytes entry p _ i (syntax tokens place h none at) = read_unread bytes entry p i tokens h none
unrefused one bytes entry p _ i (too_deep tokens place h none at) = read_unread bytes entry p i tokens h none
unrefused one bytes entry p _ i (fault tokens tree f h read first) = subst (λ l. In f l) (none_faulty one bytes entry p i tokens tree h read).0 first.0
unrefused one bytes entry p _ i (no_entry tokens tree h read well none) = let body = (none_faulty one bytes entry p i tokens tree h read).1 in cc (body, none)

-- what is written is written for a program
pub reported_unrefused : OneProgram → (held : Option Held) (bytes entry : List ℕ) (w : Work) (text other : List ℕ) (status : ℕ) → IsReport held bytes entry w text status → Refuses bytes entry other → ⊥
reported_unrefused one held bytes entry (list b runs budget after) text other status h r = unrefused one bytes entry h.program other h.source r
reported_unrefused one held bytes entry (walk strategy b runs budget seed) text other status h r = unrefused one bytes entry h.program other h.source r
reported_unrefused one held bytes entry (trace b map) text other status h r = unrefused one bytes entry h.program other h.source r
reported_unrefused one held bytes entry (replay tests) text other status h r = unrefused one bytes entry h.program other h.source r

-- nor does a part of it stand
pub cut_unrefused : OneProgram → (held : Option Held) (bytes entry : List ℕ) (w : Work) (text other : List ℕ) → MayStand held bytes entry w text → Refuses bytes entry other → ⊥
cut_unrefused one held bytes entry (list b runs budget after) text other h r = unrefused one bytes entry h.program other h.source r
cut_unrefused one held bytes entry (walk strategy b runs budget seed) text other h r = unrefused one bytes entry h.program other h.source r
cut_unrefused one held bytes entry (trace b map) text other h r = unrefused one bytes entry (h.1).program other (h.1).source r
cut_unrefused one held bytes entry (replay tests) text other h r = unrefused one bytes entry (h.1).program other (h.1).source r

-- a program is listed and walked, and one with an input of the map text is traced
pub list_unrefused : OneProgram → (held : Option Held) (bytes entry : List ℕ) (b : Limits) (runs budget : ℕ) (after : Option Path) (text : List ℕ) (p : Program) → IsProgram bytes entry p → RefusesTask held bytes entry (list b runs budget after) text → ⊥
list_unrefused one held bytes entry b runs budget after text p i (inl r) = unrefused one bytes entry p text i r
list_unrefused one held bytes entry b runs budget after text p i (inr r) = r

pub walk_unrefused : OneProgram → (held : Option Held) (bytes entry : List ℕ) (strategy : Strategy) (b : Limits) (runs budget seed : ℕ) (text : List ℕ) (p : Program) → IsProgram bytes entry p → RefusesTask held bytes entry (walk strategy b runs budget seed) text → ⊥
walk_unrefused one held bytes entry strategy b runs budget seed text p i (inl r) = unrefused one bytes entry p text i r
walk_unrefused one held bytes entry strategy b runs budget seed text p i (inr r) = r

pub trace_unrefused : OneProgram → (held : Option Held) (bytes entry : List ℕ) (b : Limits) (map text : List ℕ) (h : Input) → IsMap map h → IsSourceOf bytes entry (λ p. IsInput p b h) → RefusesTask held bytes entry (trace b map) text → ⊥
trace_unrefused one held bytes entry b map text h m s (inl r) = unrefused one bytes entry s.program text s.source r
trace_unrefused one held bytes entry b map text h m s (inr r) = (r.1).none h m (s.each (r.1).program (r.1).source)

-- tests that a file holds are replayed
pub replay_unrefused : OneProgram → (held : Option Held) (bytes entry tests text file : List ℕ) → ((other : List ℕ) → ReadTests held tests other → other ≡ file) → IsSourceOf bytes entry (λ p. HoldsSome p file) → RefusesTask held bytes entry (replay tests) text → ⊥
replay_unrefused one held bytes entry tests text file only s (inl r) = unrefused one bytes entry s.program text s.source r
replay_unrefused one held bytes entry tests text file only s (inr r) =
    let t = r.1 in
    let same = only t.file t.read in
    let h = s.each t.program t.source in
    t.none h.0 h.1 h.2 (subst (λ u. IsTestsFile t.program u h.0 h.1 h.2) (sym same) h.3)
