-- The first fault of the notes from an index on.
use Rattle.std.proofs.Common.{◌≡◌, ◌∙◌, sym, ap, subst, ℕ, ◌+◌, ◌<◌, List, ◌∷◌, ◌++◌, drop, length, get_or, map, slice_get, refl, [], Option, Some, None}
use Rattle.std.proofs.lemmas.List.{drop_more}
use Rattle.std.proofs.lemmas.Option.{slice_get-map}
use Rattle.std.specs.Option.{option_map}
use Rattle.cc_model.specs.declared.checked.Site.{Site}
use Rattle.cc_model.specs.declared.tokens.Token.{Token}
use Rattle.cc_model.specs.declared.typing.Wrong.TheVariants.{TooLarge as too_large}
use Rattle.cc_model.specs.CheckedProgram.{site_of}
use Rattle.cc_model.specs.Sites.{Mark}
use Rattle.cc_model.specs.Scopes.{Text}
use Rattle.cc_model.specs.declared.trees.Item.{Item}
use Rattle.cc_model.specs.declared.typing.Note.{Note}
use Rattle.cc_model.specs.Faults as faults
use Rattle.cc_model.specs.Faults.{faults_among, site_fault, sites_fault, faults_in, notes_in, WellTyped, IsFirst}
use Rattle.c_types.specs.declared.least.Found.{Found}
use Rattle.c_types.specs.FirstFault.{fault, faults_of, IsLeast}

pub one_more : (notes : List Note) (r : List faults.Found) (j k : ℕ) (x : Note) (before after : Option Found) → j + 1 ≡ k → j < length notes → x ≡ get_or notes j x
    → ((l : List Note) (s : List faults.Found) → IsLeast (faults_among l ++ s) before → IsLeast (faults_among (x ∷ l) ++ s) after)
    → IsLeast (faults_among (drop k notes) ++ r) before → IsLeast (faults_among (drop j notes) ++ r) after
one_more notes r j k x before after e h i p q =
    let f : drop j notes ≡ x ∷ drop k notes = drop_more notes j x h ∙ ap (λ y. y ∷ drop (j + 1) notes) (sym i) ∙ ap (λ n. x ∷ drop n notes) e in
    subst (λ (l : List Note). IsLeast (faults_among l ++ r) after) (sym f) (p (drop k notes) r q)

-- ---- the fault of a site

abbrev pub site_found : Option Site → List faults.Found
site_found None = []
site_found (Some s) = record { what = too_large; token = s.token } ∷ []

found_of : (tokens : List Token) (o : Option Mark) → site_found (option_map (site_of tokens) o) ≡ site_fault o
found_of tokens None = refl
found_of tokens (Some m) = refl

pub found_at : (tokens : List Token) (marks : List Mark) (sites : List Site) (n : ℕ) (o : Option Site) → o ≡ slice_get sites n → sites ≡ map (site_of tokens) marks → site_found o ≡ site_fault (slice_get marks n)
found_at tokens marks sites n o e h = ap site_found (e ∙ ap (λ (l : List Site). slice_get l n) h ∙ slice_get-map (site_of tokens) marks n) ∙ found_of tokens (slice_get marks n)

-- ---- the first fault of a program

pub first_in : (text : ℕ → Text) (items : List Item) (notes : List Note) (s r : Option Found) → notes ≡ notes_in text items → faults_of s ≡ sites_fault items → IsLeast (faults_among notes ++ faults_of s) r → IsLeast (faults_in text items) r
first_in text items notes s r h g p = subst (λ (l : List faults.Found). IsLeast l r) (ap (λ (l : List Note). faults_among l ++ faults_of s) h ∙ ap (λ (l : List faults.Found). faults_among (notes_in text items) ++ l) g) p

-- a program without one is well typed, and one that is found is the first
pub none_found : (text : ℕ → Text) (items : List Item) → IsLeast (faults_in text items) None → WellTyped text items
none_found text items p = p

pub first_found : (text : ℕ → Text) (items : List Item) (f : Found) → IsLeast (faults_in text items) (Some f) → IsFirst text items (fault f)
first_found text items f p = p
