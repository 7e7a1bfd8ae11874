-- What stands of a report while it is written, line by line.
use Rattle.std.proofs.Common.{◌≡◌, ℕ, ◌^◌, ◌<◌, ◌≤◌, inl, inr, List, [], ◌++◌, Option, None, Result, Ok, Err, refl, sym, ap, subst, ◌∙◌, arith, append_assoc}
use Rattle.std.specs.Prelude.{IfOk}
use Rattle.cc_base.specs.Limits.{Limits}
use Rattle.cc_base.specs.Paths.{Path, In}
use Rattle.cc_model.specs.declared.checked.Checked.{Checked}
use Rattle.cc_model.specs.CheckedProgram.{core_of}
use Rattle.cc_model.specs.Listing.{Item, Listing}
use Rattle.cc_model.specs.Report.{bounds_line, item_lines, term_lines, last_line, verdict_of}
use Rattle.cc_model.specs.Tested.{Term, tested}
use Rattle.cc_outside.specs.Told.{appended, WritesPart}
use Rattle.cc_outside.proofs.ToldLemmas.{appended-appended, WritesPart-none, WritesPart-first, WritesPart-after}
use Rattle.replay.specs.ReportFiles.{AreSmall}
use Rattle.search_dfs.specs.declared.search.Summary.{Summary}
use Rattle.search_dfs.specs.Explored.{Sums, HasNumbers, Explored, ExploredSome, listing_of as listing_in}
use Rattle.search_base.specs.Readable.{IsNarrow}
use Rattle.search_base.specs.Setting.{setting}
use Rattle.concolic_cli.specs.declared.refusal.Refusal.{Refusal}
use Rattle.concolic_cli.specs.declared.refusal.Refusal.TheVariants as refused
use Rattle.concolic_cli.specs.Compiling.{WroteListing, WroteSome, IsLastLine}
use Rattle.concolic_cli.specs.Listings.{HasNarrowLines}
use Rattle.concolic_cli.specs.Session.{WriteCause}
use Rattle.concolic_cli.proofs.Searches.{is_listing, tested_sound, nothing_sound}

-- ---- the faults of a sink

-- what rose behind a place rose from the start
pub cause_after : (old middle new : ℕ) (e : Refusal) → old ≤ middle → WriteCause middle new e → WriteCause old new e
cause_after old middle new refused.OutputFailed le (inl h) = inl (omega (arith, le, h))
cause_after old middle new refused.OutputFailed le (inr h) = inr h
cause_after old middle new refused.NoMemory le h = tt
cause_after old middle new (refused.BadWord n) le h = absurd h
cause_after old middle new (refused.File w f) le h = absurd h
cause_after old middle new (refused.Source line wrong) le h = absurd h
cause_after old middle new refused.NoEntry le h = absurd h
cause_after old middle new (refused.Map f) le h = absurd h
cause_after old middle new (refused.Tests l) le h = absurd h

-- ---- the report on a search

-- the counts of a listing are those of its summary
narrow_lines : (l : Listing) (s : Summary) → ((e : Term) → In e l.terms → IsNarrow e) → Sums l s → HasNumbers s → HasNarrowLines l
narrow_lines l s terms sums n =
    let c = sums.counts in
    record {
      terms = terms;
      paths = subst (λ k. k < 2 ^ 64) sums.paths n.paths;
      runs = subst (λ k. k < 2 ^ 64) sums.runs n.runs;
      counts = subst AreSmall c (record { terms = n.terms; spent = n.spent; steps = n.steps; strays = n.strays; unrun = n.unrun });
    }

module _ (c : Checked) (b : Limits) (after : Option Path) (old : Option (List ℕ)) where
  abbrev listing_of : List Item → List Term → Listing
  listing_of items terms = record { bounds = b; items = items; terms = terms }

  -- the bounds were not written, or a first part of them
  pub no_bounds : (new : Option (List ℕ)) (line : List ℕ) → line ≡ bounds_line b → WritesPart old new line → WroteSome c b after old new
  no_bounds new line e w = record {
    listing = listing_of [] [];
    bounds = refl;
    sound = nothing_sound (tested (core_of c) b) after;
    written = WritesPart-first old new ((bounds_line b ++ []) ++ []) (last_line (listing_of [] []))
        (WritesPart-first old new (bounds_line b ++ []) [] (WritesPart-first old new (bounds_line b) [] (subst (λ u. WritesPart old new u) e w)));
  }

  pub nothing_written : (new : Option (List ℕ)) → new ≡ old → WroteSome c b after old new
  nothing_written new e = no_bounds new (bounds_line b) refl (WritesPart-none old new (bounds_line b) e)

  module _ (budget : ℕ) (middle : Option (List ℕ)) (first : List ℕ) (is_bounds : first ≡ bounds_line b) (begun : middle ≡ appended old first) where
    begun_is : middle ≡ appended old (bounds_line b)
    begun_is = begun ∙ ap (λ u. appended old u) is_bounds

    -- the search ended early
    pub search_some : (new : Option (List ℕ)) → ExploredSome (setting c b budget) after middle new → WroteSome c b after old new
    search_some new s = record {
      listing = listing_of s.items s.terms;
      bounds = refl;
      sound = tested_sound c b budget after s.items s.sound;
      written = WritesPart-first old new (bounds_line b ++ item_lines s.items ++ term_lines s.terms) (last_line (listing_of s.items s.terms))
          (subst (λ u. WritesPart old new u) (sym (append_assoc (bounds_line b) (item_lines s.items) (term_lines s.terms)))
          (WritesPart-after old middle new (bounds_line b) (item_lines s.items ++ term_lines s.terms) begun_is s.written));
    }

    module _ (runs : ℕ) (searched : Option (List ℕ)) (summary : Summary) (x : Explored (setting c b budget) after runs middle searched summary) where
      abbrev found : Listing
      found = listing_of x.items x.terms

      -- all lines but the last
      abbrev before : List ℕ
      before = bounds_line b ++ item_lines x.items ++ term_lines x.terms

      before_last : searched ≡ appended old before
      before_last = x.written ∙ ap (λ m. appended m (item_lines x.items ++ term_lines x.terms)) begun_is ∙ appended-appended old (bounds_line b) (item_lines x.items ++ term_lines x.terms)
          ∙ ap (appended old) (sym (append_assoc (bounds_line b) (item_lines x.items) (term_lines x.terms)))

      -- a first part of the last line, or nothing of it
      pub last_some : (new : Option (List ℕ)) (line : List ℕ) → line ≡ last_line found → WritesPart searched new line → WroteSome c b after old new
      last_some new line e w = record {
        listing = found;
        bounds = refl;
        sound = tested_sound c b budget after x.items x.sound;
        written = WritesPart-after old searched new before (last_line found) before_last (subst (λ u. WritesPart searched new u) e w);
      }

      pub last_none : (new : Option (List ℕ)) → new ≡ searched → WroteSome c b after old new
      last_none new e = last_some new (last_line found) refl (WritesPart-none searched new (last_line found) e)

      pub all_written : (new : Option (List ℕ)) (line : List ℕ) (status : ℕ) → line ≡ last_line found → new ≡ appended searched line → status ≡ verdict_of found →
          WroteListing c b after old new runs budget status
      all_written new line status e w v = record {
        listing = found;
        lists = is_listing c b budget runs after middle searched summary x (narrow_lines found summary x.narrow x.sums x.numbers);
        written = w ∙ ap (λ u. appended searched u) e ∙ ap (λ m. appended m (last_line found)) before_last ∙ appended-appended old before (last_line found);
        verdict = v;
      }

-- the last line alone
pub is_last_line : (c : Checked) (b : Limits) (runs budget : ℕ) (old new : Option (List ℕ)) (summary : Summary) (line : List ℕ) →
    Explored (setting c b budget) None runs old new summary → ((l : Listing) → Sums l summary → line ≡ last_line l) → IsLastLine c b runs budget line
is_last_line c b runs budget old new summary line x h =
    let found = listing_in (setting c b budget) x.items x.terms in record {
      listing = found;
      lists = is_listing c b budget runs None old new summary x (narrow_lines found summary x.narrow x.sums x.numbers);
      text_is = h found x.sums;
    }

-- a fact of what is given, from another
pub if_ok_map : {A E : Type 0} → (r : Result A E) (P Q : A → Type 0) → ((a : A) → P a → Q a) → IfOk r P → IfOk r Q
if_ok_map (Ok a) P Q f h = f a h
if_ok_map (Err e) P Q f h = tt
