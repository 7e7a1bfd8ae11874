-- No report of a listing or of a walk begins another.
use Rattle.std.proofs.Common.{◌≡◌, ◌∙◌, sym, ap, refl, ℕ, Bool, true, false, List, [], ◌∷◌, ◌++◌, append-nil, arith, nat_eq}
use Rattle.cc_base.specs.Limits.{Limits}
use Rattle.cc_model.specs.Listing.{Item, Listing, counts_of}
use Rattle.cc_model.specs.Report.{report_text, total}
use Rattle.cc_model.specs.Tested.{Term}
use Rattle.report_laws.specs.Walks.{Walk, walk_report}
use Rattle.report_laws.specs.Words.{HasWords, HasWalkWords}
use Rattle.report_laws.proofs.LineWords.{Line, complete, incomplete, ended, text_of, AreClear}
use Rattle.report_laws.proofs.Lines.{lines_begin}
use Rattle.report_laws.proofs.Reports.{items_then, terms_then, body, kind_in, rank, last_as, last_of, listing_lines, listing_text, listing_clear, listing_kind, walk_lines, walk_text, walk_clear, walk_kind}

-- what stands behind the first last line
abbrev behind : List Line → List Line
behind [] = []
behind (complete p r ∷ l) = l
behind (incomplete c ∷ l) = l
behind (ended r c m ∷ l) = l
behind (_ ∷ l) = behind l

items_behind : (l : List Item) (r k : List Line) → behind (items_then l r ++ k) ≡ behind (r ++ k)
items_behind [] r k = refl
items_behind (x ∷ l) r k = items_behind l r k

terms_behind : (l : List Term) (r k : List Line) → behind (terms_then l r ++ k) ≡ behind (r ++ k)
terms_behind [] r k = refl
terms_behind (e ∷ l) r k = terms_behind l r k

body_behind : (b : Limits) (items : List Item) (terms : List Term) (last : Line) (k : List Line) → behind (last ∷ k) ≡ k → behind (body b items terms last ++ k) ≡ k
body_behind b items terms last k e = items_behind items (terms_then terms (last ∷ [])) k ∙ terms_behind terms (last ∷ []) k ∙ e

last_behind : (l : Listing) (q : Bool) (k : List Line) → behind (last_as l q ∷ k) ≡ k
last_behind l true k = refl
last_behind l false k = refl

listing_behind : (l : Listing) (k : List Line) → behind (listing_lines l ++ k) ≡ k
listing_behind l k = body_behind l.bounds l.items l.terms (last_of l) k (last_behind l (nat_eq (total (counts_of l)) 0) k)

walk_behind : (w : Walk) (k : List Line) → behind (walk_lines w ++ k) ≡ k
walk_behind w k = body_behind w.bounds w.items w.terms (ended w.runs w.covered w.outcomes) k refl

-- of lines that end with their last line, none begin others but themselves
record IsAll (l m : List Line) (r : List ℕ) : Type 0 where
  lines : m ≡ l
  text : r ≡ []

all : (l m : List Line) (r : List ℕ) → AreClear l → AreClear m → ((k : List Line) → behind (l ++ k) ≡ k) → ((k : List Line) → behind (m ++ k) ≡ k) → text_of l ++ r ≡ text_of m → IsAll l m r
all l m r h k f g e =
    let b = lines_begin l m r h k e in
    let none : b.behind ≡ [] = sym (f b.behind) ∙ ap behind (sym b.lines) ∙ ap behind (sym (append-nil m)) ∙ g [] in
    record { lines = b.lines ∙ ap (λ t. l ++ t) none ∙ append-nil l; text = b.text ∙ ap text_of none }

pub listing_begins_none : (l m : Listing) (rest : List ℕ) → HasWords l → HasWords m → report_text l ++ rest ≡ report_text m → rest ≡ []
listing_begins_none l m rest h k e =
    (all (listing_lines l) (listing_lines m) rest (listing_clear l h) (listing_clear m k) (listing_behind l) (listing_behind m)
    (ap (λ t. t ++ rest) (listing_text l) ∙ e ∙ sym (listing_text m))).text

pub walk_begins_none : (w v : Walk) (rest : List ℕ) → HasWalkWords w → HasWalkWords v → walk_report w ++ rest ≡ walk_report v → rest ≡ []
walk_begins_none w v rest h k e =
    (all (walk_lines w) (walk_lines v) rest (walk_clear w h) (walk_clear v k) (walk_behind w) (walk_behind v)
    (ap (λ t. t ++ rest) (walk_text w) ∙ e ∙ sym (walk_text v))).text

pub listing_begins_no_walk : (l : Listing) (w : Walk) (rest : List ℕ) → HasWords l → HasWalkWords w → report_text l ++ rest ≡ walk_report w → ⊥
listing_begins_no_walk l w rest h k e =
    let a = all (listing_lines l) (walk_lines w) rest (listing_clear l h) (walk_clear w k) (listing_behind l) (walk_behind w) (ap (λ t. t ++ rest) (listing_text l) ∙ e ∙ sym (walk_text w)) in
    let n = ap rank (sym (walk_kind w) ∙ ap kind_in a.lines ∙ listing_kind l) in omega (arith, n)

pub walk_begins_no_listing : (w : Walk) (l : Listing) (rest : List ℕ) → HasWalkWords w → HasWords l → walk_report w ++ rest ≡ report_text l → ⊥
walk_begins_no_listing w l rest h k e =
    let a = all (walk_lines w) (listing_lines l) rest (walk_clear w h) (listing_clear l k) (walk_behind w) (listing_behind l) (ap (λ t. t ++ rest) (walk_text w) ∙ e ∙ sym (listing_text l)) in
    let n = ap rank (sym (listing_kind l) ∙ ap kind_in a.lines ∙ walk_kind w) in omega (arith, n)
