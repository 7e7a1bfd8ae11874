-- What a search found is a listing, with all that holds of one.
use Rattle.std.proofs.Common.{◌≡◌, ℕ, inl, inr, List, [], ◌∷◌, Option, Some, None, refl, sym, ◌∙◌, arith}
use Rattle.cc_base.specs.declared.inputs.Test.{Test}
use Rattle.cc_base.specs.Limits.{Limits}
use Rattle.cc_base.specs.Paths.{Path, In}
use Rattle.cc_model.specs.declared.checked.Checked.{Checked}
use Rattle.cc_model.specs.CheckedProgram.{core_of}
use Rattle.cc_model.specs.Listing.{Item, test_item, past_item, stray_item, spent_item, unrun_item, Listed, WasRun, ClosedAt, Sound, count_by, is_run, is_test, is_stray}
use Rattle.cc_model.specs.Tested.{Tested, tested}
use Rattle.search_base.specs.Setting.{setting, layer_of}
use Rattle.search_dfs.specs.declared.search.Summary.{Summary}
use Rattle.search_dfs.specs.Explored.{Explored, listing_of}
use Rattle.concolic_cli.specs.Listings.{HasNarrowLines, IsListing}

module _ (c : Checked) (b : Limits) (budget : ℕ) where
  -- what a search found, where its counts have 64 bits
  pub is_listing : (runs : ℕ) (after : Option Path) (old new : Option (List ℕ)) (s : Summary) → (x : Explored (setting c b budget) after runs old new s) →
      HasNarrowLines (listing_of (setting c b budget) x.items x.terms) → IsListing c.sites (core_of c) b runs budget after (listing_of (setting c b budget) x.items x.terms)
  unfolding layer_of
  is_listing runs after old new s x small = record {
    bounds = refl;
    sound = x.sound;
    licensed = x.licensed;
    covered = x.covered;
    few = x.few;
    narrow = small;
    misses_no_more = x.misses_no_more;
    enumerates = x.enumerates;
    complete = x.complete;
  }

  pub tested_sound : (after : Option Path) (items : List Item) → Sound after ((layer_of (setting c b budget)).runs) items → Sound after (tested (core_of c) b) items
  unfolding layer_of
  tested_sound after items s = s

-- ---- runs and paths

-- without past and stray items each run is a test
pub runs_are_tests : (l : List Item) → ((t : Test) → In (past_item t) l → ⊥) → count_by is_stray l ≡ 0 → count_by is_run l ≡ count_by is_test l
runs_are_tests [] h e = refl
runs_are_tests (test_item t ∷ l) h e = let r = runs_are_tests l (λ u i. h u (inr i)) (omega (arith, e)) in omega (arith, r)
runs_are_tests (past_item t ∷ l) h e = absurd (h t (inl refl))
runs_are_tests (stray_item t p ∷ l) h e = absurd (omega (arith, e))
runs_are_tests (spent_item p ∷ l) h e = let r = runs_are_tests l (λ u i. h u (inr i)) (omega (arith, e)) in omega (arith, r)
runs_are_tests (unrun_item i p ∷ l) h e = let r = runs_are_tests l (λ u j. h u (inr j)) (omega (arith, e)) in omega (arith, r)

pub runs_of : (y : Tested) (after : Option Path) (l : List Item) → Sound after y l → after ≡ None → count_by is_stray l ≡ 0 → count_by is_run l ≡ count_by is_test l
runs_of y after l s none e = runs_are_tests l (λ t i. let n = s.pasts_not_above t i in let f : Some n.0 ≡ None = sym n.1 ∙ none in cc f) e

-- nothing is sound
pub nothing_sound : (y : Tested) (after : Option Path) → Sound after y []
nothing_sound y after = record {
  ascending = tt;
  real = λ t i. absurd (no_run t i);
  tests_above = λ t i. absurd i;
  pasts_not_above = λ t i. absurd i;
  pasts_part = λ t u a i. absurd i;
  strays_left = λ t p i. absurd i;
  closed = λ t p i. absurd (no_listed t i);
  reached = λ p i. absurd (no_closed p i);
  spent_first = λ p w i j. absurd j;
  stray_first = λ t p w i j. absurd j;
  unrun_within = λ i w j. absurd j;
  one_unrun = omega arith;
}
  where
    no_listed : (t : Test) → Listed t [] → ⊥
    no_listed t (inl i) = i
    no_listed t (inr i) = i

    no_run : (t : Test) → WasRun t [] → ⊥
    no_run t (inl i) = no_listed t i
    no_run t (inr i) = i.1

    no_closed : (p : Path) → ClosedAt p [] → ⊥
    no_closed p (inl i) = i
    no_closed p (inr (inl i)) = i.1
    no_closed p (inr (inr i)) = i.1
