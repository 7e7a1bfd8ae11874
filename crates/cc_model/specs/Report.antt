-- The text of a report, and its verdict. The lines and the statuses are this project's own. Each line ends with a newline.
use Rattle.std.specs.Prelude.{ℕ, ◌+◌, Bool, true, false, ◌||◌, List, [], ◌∷◌, ◌++◌, codes, nat_eq, if◌then◌else◌}
use Rattle.std.specs.Fmt.{decimal, signed_decimal}
use Rattle.cc_base.specs.declared.ends.End.{End}
use Rattle.cc_base.specs.declared.ends.End.TheVariants.{Return, Assume, Cut, Objects, Steps, Fault}
use Rattle.cc_base.specs.Limits.{Limits}
use Rattle.cc_base.specs.Paths.{path_text}
use Rattle.cc_base.specs.Inputs.{map_text, test_text}
use Rattle.cc_model.specs.declared.terms.TermKind.{TermKind}
use Rattle.cc_model.specs.declared.terms.TermKind.TheVariants.{Product, Quotient, Index, Wide}
use Rattle.cc_model.specs.Tested.{Term}
use Rattle.cc_model.specs.Listing.{Item, test_item, past_item, stray_item, spent_item, unrun_item, Listing, path_count, run_count, Counts, counts_of}

abbrev pub newline : List ℕ
newline = 10 ∷ []

-- bounds min=LO max=HI depth=D objects=K steps=S
abbrev pub bounds_line : Limits → List ℕ
bounds_line b = codes "bounds min=" ++ signed_decimal b.lo ++ codes " max=" ++ signed_decimal b.hi ++ codes " depth=" ++ decimal b.depth
    ++ codes " objects=" ++ decimal b.objects ++ codes " steps=" ++ decimal b.steps ++ newline

abbrev pub item_line : Item → List ℕ
item_line (test_item t) = codes "test " ++ test_text t ++ newline
item_line (past_item t) = codes "past " ++ test_text t ++ newline
item_line (stray_item t p) = codes "stray " ++ test_text t ++ codes " after " ++ path_text p ++ newline
item_line (spent_item p) = codes "spent " ++ path_text p ++ newline
item_line (unrun_item i p) = codes "unrun " ++ map_text i ++ codes " after " ++ path_text p ++ newline

abbrev pub item_lines : List Item → List ℕ
item_lines [] = []
item_lines (x ∷ l) = item_line x ++ item_lines l

abbrev pub kind_text : TermKind → List ℕ
kind_text Product = codes "product"
kind_text Quotient = codes "quotient"
kind_text Index = codes "index"
kind_text Wide = codes "wide"

-- term LINE:COL KIND
abbrev pub term_line : Term → List ℕ
term_line e = codes "term " ++ decimal e.line ++ codes ":" ++ decimal e.col ++ codes " " ++ kind_text e.kind ++ newline

abbrev pub term_lines : List Term → List ℕ
term_lines [] = []
term_lines (e ∷ l) = term_line e ++ term_lines l

abbrev pub total : Counts → ℕ
total c = c.terms + c.spent + c.steps + c.strays + c.unrun

-- complete paths=P runs=R
abbrev pub complete_line : Listing → List ℕ
complete_line l = codes "complete paths=" ++ decimal (path_count l) ++ codes " runs=" ++ decimal (run_count l) ++ newline

-- incomplete terms=A spent=B steps=C strays=E unrun=G
abbrev pub incomplete_line : Counts → List ℕ
incomplete_line c = codes "incomplete terms=" ++ decimal c.terms ++ codes " spent=" ++ decimal c.spent ++ codes " steps=" ++ decimal c.steps
    ++ codes " strays=" ++ decimal c.strays ++ codes " unrun=" ++ decimal c.unrun ++ newline

-- incomplete exactly where one of the five counts isn't zero
abbrev pub last_line : Listing → List ℕ
last_line l = if nat_eq (total (counts_of l)) 0 then complete_line l else incomplete_line (counts_of l)

abbrev pub report_text : Listing → List ℕ
report_text l = bounds_line l.bounds ++ item_lines l.items ++ term_lines l.terms ++ last_line l

abbrev pub is_fault : End → Bool
is_fault Return = false
is_fault Assume = false
is_fault Cut = false
is_fault Objects = false
is_fault Steps = false
is_fault (Fault k line) = true

-- a test or stray item ends as a fault
abbrev pub has_fault : List Item → Bool
has_fault [] = false
has_fault (test_item t ∷ l) = is_fault t.end || has_fault l
has_fault (past_item t ∷ l) = has_fault l
has_fault (stray_item t p ∷ l) = is_fault t.end || has_fault l
has_fault (spent_item p ∷ l) = has_fault l
has_fault (unrun_item i p ∷ l) = has_fault l

-- 0 complete, 10 incomplete; 1 more where a test or stray item ends as a fault
abbrev pub verdict_of : Listing → ℕ
verdict_of l = (if nat_eq (total (counts_of l)) 0 then 0 else 10) + (if has_fault l.items then 1 else 0)
