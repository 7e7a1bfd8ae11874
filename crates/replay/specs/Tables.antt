-- The table of forms as the code has it.
use Rattle.std.specs.Prelude.{ℕ, List, map}
use Rattle.cc_base.specs.Paths.{In}
use Rattle.replay.specs.declared.forms.Word.{Word}
use Rattle.replay.specs.declared.forms.Word.TheVariants as of
use Rattle.replay.specs.Forms.{WordForm, the, named, number, place, path, end, outcome, term_kind, site_kind, AreWords}
use denote.Ref.{Bor}

abbrev pub seen_word : Word → WordForm
seen_word (of.The w) = the w.now
seen_word (of.Named name) = named name.now
seen_word of.Number = number
seen_word of.Place = place
seen_word of.Path = path
seen_word of.End = end
seen_word of.Outcome = outcome
seen_word of.TermKind = term_kind
seen_word of.SiteKind = site_kind

abbrev pub seen_form : Bor (List Word) → List WordForm
seen_form f = map seen_word f.now

abbrev pub seen : List (Bor (List Word)) → List (List WordForm)
seen forms = map seen_form forms

-- the text has one of the forms
abbrev pub IsOneOf : List (List WordForm) → List ℕ → Type 0
IsOneOf forms text = (form : List WordForm) × In form forms × AreWords form text
