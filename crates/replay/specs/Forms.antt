-- The report lines that hold no input, word by word. The lines are this project's own.
use Rattle.std.specs.Prelude.{ℕ, ◌≡◌, List, [], ◌∷◌, ◌++◌, codes}
use Rattle.cc_base.specs.declared.ends.End.{End}
use Rattle.cc_base.specs.declared.outcomes.Outcome.{Outcome}
use Rattle.cc_base.specs.Outcomes.{byte_of, HasByte}
use Rattle.cc_base.specs.Paths.{Path, In}
use Rattle.cc_model.specs.declared.checked.SiteKind.{SiteKind}
use Rattle.cc_model.specs.declared.checked.SiteKind.TheVariants as site
use Rattle.cc_model.specs.declared.terms.TermKind.{TermKind}
use Rattle.cc_model.specs.Report.{kind_text}
use Rattle.report_words.specs.Cuts.{Lacks, CutFirst}
use Rattle.report_words.specs.Words.{IsNumber, IsPath, IsEnd}

-- what a word of a line is
pub data WordForm : Type 0 where
  -- this word
  the : List ℕ → WordForm
  -- NAME=NUMBER
  named : List ℕ → WordForm
  -- a number of 64 bits
  number : WordForm
  -- LINE:COL
  place : WordForm
  path : WordForm
  end : WordForm
  outcome : WordForm
  term_kind : WordForm
  site_kind : WordForm

-- what happens at a site, as it is written
abbrev pub site_text : SiteKind → List ℕ
site_text site.Decision = codes "decision"
site_text site.Fit = codes "fit"
site_text site.Divisor = codes "divisor"
site_text site.Index = codes "index"
site_text site.Access = codes "access"

abbrev pub IsWord : WordForm → List ℕ → Type 0
IsWord (the w) word = word ≡ w
IsWord (named name) word = (digits : List ℕ) × (n : ℕ) × (word ≡ name ++ codes "=" ++ digits) × IsNumber digits n
IsWord number word = (n : ℕ) × IsNumber word n
IsWord place word = (line col : List ℕ) × (n m : ℕ) × (word ≡ line ++ codes ":" ++ col) × IsNumber line n × IsNumber col m
IsWord path word = (p : Path) × IsPath word p
IsWord end word = (e : End) × IsEnd word e
IsWord outcome word = (o : Outcome) × HasByte o × (word ≡ byte_of o ∷ [])
IsWord term_kind word = (k : TermKind) × (word ≡ kind_text k)
IsWord site_kind word = (k : SiteKind) × (word ≡ site_text k)

-- the text is words of this form, with a blank between them; a word has no blank
abbrev pub AreWords : List WordForm → List ℕ → Type 0
AreWords [] text = ⊥
AreWords (f ∷ []) text = Lacks 32 text × IsWord f text
AreWords (f ∷ g ∷ form) text = (word rest : List ℕ) × CutFirst 32 text word rest × IsWord f word × AreWords (g ∷ form) rest

abbrev pub other_forms : List (List WordForm)
other_forms =
    -- spent PREFIX
    (the (codes "spent") ∷ path ∷ [])
    -- term LINE:COL KIND
    ∷ (the (codes "term") ∷ place ∷ term_kind ∷ [])
    -- event I OUTCOME LINE KIND
    ∷ (the (codes "event") ∷ number ∷ outcome ∷ number ∷ site_kind ∷ [])
    -- complete paths=P runs=R
    ∷ (the (codes "complete") ∷ named (codes "paths") ∷ named (codes "runs") ∷ [])
    -- incomplete terms=A spent=B steps=C strays=E unrun=G
    ∷ (the (codes "incomplete") ∷ named (codes "terms") ∷ named (codes "spent") ∷ named (codes "steps") ∷ named (codes "strays") ∷ named (codes "unrun") ∷ [])
    -- ended runs=R covered=C of M
    ∷ (the (codes "ended") ∷ named (codes "runs") ∷ named (codes "covered") ∷ the (codes "of") ∷ number ∷ [])
    -- replayed T
    ∷ (the (codes "replayed") ∷ number ∷ [])
    -- differs LINE PATH END actual PATH END
    ∷ (the (codes "differs") ∷ number ∷ path ∷ end ∷ the (codes "actual") ∷ path ∷ end ∷ [])
    ∷ []

-- the text is a line of a report that holds no input
abbrev pub IsOther : List ℕ → Type 0
IsOther text = (form : List WordForm) × In form other_forms × AreWords form text
