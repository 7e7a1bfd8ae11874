-- What stands of the report on a walk while it is written, line by line, and what a session that walks comes to.
use Rattle.std.proofs.Common.{◌≡◌, ℕ, inl, inr, true, false, List, [], ◌∷◌, ◌++◌, Option, refl, sym, ap, subst, ◌∙◌, append_assoc, if◌then◌else◌}
use Rattle.cc_base.specs.declared.inputs.Test.{Test}
use Rattle.cc_base.specs.Limits.{Limits, InRange}
use Rattle.cc_model.specs.declared.checked.Checked.{Checked}
use Rattle.cc_model.specs.declared.commands.Strategy.{Strategy}
use Rattle.cc_model.specs.declared.commands.Strategy.TheVariants.{Dfs}
use Rattle.cc_model.specs.CheckedProgram.{core_of}
use Rattle.cc_model.specs.Listing.{Item, test_item, WasRun}
use Rattle.cc_model.specs.Report.{bounds_line, item_lines, term_lines}
use Rattle.cc_model.specs.Runs.{params_of}
use Rattle.cc_model.specs.Tested.{Real, tested}
use Rattle.cc_outside.specs.Held.{Held}
use Rattle.cc_outside.specs.Told.{appended, WritesPart}
use Rattle.cc_outside.proofs.ToldLemmas.{appended-appended, WritesPart-none, WritesPart-first, WritesPart-after}
use Rattle.input_map.proofs.BaseInputs.{base_is_input}
use Rattle.tac_lower.specs.declared.tac.Tac.{Tac}
use Rattle.search_walks.specs.declared.log.WalkSummary.{WalkSummary}
use Rattle.search_walks.specs.Output.{WalkedWhole, WalkedPart, ended_line}
use Rattle.search_base.specs.Setting.{Setting, setting, layer_of}
use Rattle.concolic_cli.specs.declared.prepared.Compiled.{Compiled}
use Rattle.concolic_cli.specs.Compiling.{IsCompiled}
use Rattle.concolic_cli.specs.Loaded.{ReadAs}
use Rattle.concolic_cli.specs.Session.{Wrote, WroteFirst}
use Rattle.concolic_cli.specs.Tasks.{walk}
use Rattle.search_walks.specs.Walks.{WalkOf}
use Rattle.concolic_cli.specs.WalkReports.{IsWalk, walk_text, WroteWalk, WroteWalkSome}
use Rattle.concolic_cli.proofs.Causes.{program_of}
use Rattle.concolic_cli.proofs.WalkLaws.{whole_cut, cut_at_once}

-- the one test of a list was run
run_of_one : (x u : Test) → WasRun x (test_item u ∷ []) → x ≡ u
run_of_one x u (inl (inl (inl e))) = cc e
run_of_one x u (inl (inl (inr i))) = absurd i
run_of_one x u (inl (inr (inl e))) = absurd (cc e)
run_of_one x u (inl (inr (inr i))) = absurd i
run_of_one x u (inr (p, inl e)) = absurd (cc e)
run_of_one x u (inr (p, inr i)) = absurd i

-- nothing is counted yet
nothing_counted : WalkSummary
nothing_counted = record { runs = 0; covered = 0; outcomes = 0; fault = false }

module _ (c : Checked) (b : Limits) (budget : ℕ) where
  abbrev s : Setting
  s = setting c b budget

  -- the test of the base run
  abbrev base_test : Test
  base_test = record { path = ((layer_of s).runs).path ((layer_of s).runs).base; end = ((layer_of s).runs).end ((layer_of s).runs).base; input = ((layer_of s).runs).base }

  base_real : InRange b → Real (tested (core_of c) b) base_test
  unfolding layer_of
  base_real range = record { within = base_is_input b range.numbers (core_of c).layouts (params_of (core_of c)); path = refl; end = refl }

  tested_real : (items : List Item) → ((x : Test) → WasRun x items → Real ((layer_of s).runs) x) → (x : Test) → WasRun x items → Real (tested (core_of c) b) x
  unfolding layer_of
  tested_real items h = h

module _ (c : Checked) (t : Tac) (strategy : Strategy) (b : Limits) (runs budget seed : ℕ) where
  -- the base run alone
  first_alone : InRange b → (strategy ≡ Dfs → ⊥) → IsWalk c t strategy b runs budget seed true (test_item (base_test c b budget) ∷ [])
  first_alone range walks = record {
    begins = ([], refl, cut_at_once strategy (setting c b budget) t runs seed walks);
    real = λ x w. subst (λ u. Real (tested (core_of c) b) u) (sym (run_of_one x (base_test c b budget) w)) (base_real c b budget range);
  }

  module _ (old : Option (List ℕ)) where
    -- the bounds were not written, or a first part of them
    pub no_bounds : InRange b → (strategy ≡ Dfs → ⊥) → (new : Option (List ℕ)) (line : List ℕ) → line ≡ bounds_line b → WritesPart old new line → WroteWalkSome c t strategy b runs budget seed old new
    no_bounds range walks new line e w = record {
      items = test_item (base_test c b budget) ∷ [];
      terms = [];
      summary = nothing_counted;
      walks = first_alone range walks;
      written = WritesPart-first old new ((bounds_line b ++ item_lines (test_item (base_test c b budget) ∷ [])) ++ []) (ended_line nothing_counted)
          (WritesPart-first old new (bounds_line b ++ item_lines (test_item (base_test c b budget) ∷ [])) []
          (WritesPart-first old new (bounds_line b) (item_lines (test_item (base_test c b budget) ∷ [])) (subst (λ u. WritesPart old new u) e w)));
    }

    pub nothing_written : InRange b → (strategy ≡ Dfs → ⊥) → (new : Option (List ℕ)) → new ≡ old → WroteWalkSome c t strategy b runs budget seed old new
    nothing_written range walks new e = no_bounds range walks new (bounds_line b) refl (WritesPart-none old new (bounds_line b) e)

    module _ (middle : Option (List ℕ)) (first : List ℕ) (is_bounds : first ≡ bounds_line b) (begun : middle ≡ appended old first) where
      begun_is : middle ≡ appended old (bounds_line b)
      begun_is = begun ∙ ap (λ u. appended old u) is_bounds

      -- the walk ended early
      pub walk_some : (new : Option (List ℕ)) → WalkedPart (setting c b budget) (λ l. WalkOf strategy (setting c b budget) t runs seed true l) middle new → WroteWalkSome c t strategy b runs budget seed old new
      walk_some new p = record {
        items = p.items;
        terms = p.terms;
        summary = nothing_counted;
        walks = record { begins = p.walked; real = tested_real c b budget p.items p.real };
        written = WritesPart-first old new (bounds_line b ++ item_lines p.items ++ term_lines p.terms) (ended_line nothing_counted)
            (subst (λ u. WritesPart old new u) (sym (append_assoc (bounds_line b) (item_lines p.items) (term_lines p.terms)))
            (WritesPart-after old middle new (bounds_line b) (item_lines p.items ++ term_lines p.terms) begun_is p.written));
      }

      module _ (walked : Option (List ℕ)) (summary : WalkSummary) (x : WalkedWhole (setting c b budget) (λ l. WalkOf strategy (setting c b budget) t runs seed false l) middle walked summary) where
        -- all lines but the last
        abbrev before : List ℕ
        before = bounds_line b ++ item_lines x.items ++ term_lines x.terms

        before_last : walked ≡ appended old before
        before_last = x.written ∙ ap (λ m. appended m (item_lines x.items ++ term_lines x.terms)) begun_is ∙ appended-appended old (bounds_line b) (item_lines x.items ++ term_lines x.terms)
            ∙ ap (appended old) (sym (append_assoc (bounds_line b) (item_lines x.items) (term_lines x.terms)))

        -- a first part of the last line, or nothing of it
        pub last_some : (new : Option (List ℕ)) (line : List ℕ) → line ≡ ended_line summary → WritesPart walked new line → WroteWalkSome c t strategy b runs budget seed old new
        last_some new line e w = record {
          items = x.items;
          terms = x.terms;
          summary = summary;
          walks = record {
            begins = (x.walked.0, x.walked.1, whole_cut strategy (setting c b budget) t runs seed x.walked.0 x.walked.2);
            real = tested_real c b budget x.items x.real;
          };
          written = WritesPart-after old walked new before (ended_line summary) before_last (subst (λ u. WritesPart walked new u) e w);
        }

        pub last_none : (new : Option (List ℕ)) → new ≡ walked → WroteWalkSome c t strategy b runs budget seed old new
        last_none new e = last_some new (ended_line summary) refl (WritesPart-none walked new (ended_line summary) e)

        pub all_written : (new : Option (List ℕ)) (line : List ℕ) (status : ℕ) → line ≡ ended_line summary → new ≡ appended walked line → status ≡ (if summary.fault then 1 else 0) →
            WroteWalk c t strategy b runs budget seed old new status
        all_written new line status e w v = record {
          items = x.items;
          terms = x.terms;
          summary = summary;
          whole = record {
            walks = record { begins = x.walked; real = tested_real c b budget x.items x.real };
            are_terms = x.are_terms;
            sums = x.sums;
            few = x.few;
            narrow = x.narrow;
            numbers = x.numbers;
          };
          written = w ∙ ap (λ u. appended walked u) e ∙ ap (λ m. appended m (ended_line summary)) before_last ∙ appended-appended old before (ended_line summary);
          verdict = v;
        }

-- ---- a session

module _ (held : Option Held) (old new : Option (List ℕ)) (file entry bytes bytes' : List ℕ) (strategy : Strategy) (b : Limits) (runs budget seed : ℕ) (same : bytes' ≡ bytes) (read : ReadAs held file bytes)
    (c : Compiled) (is : IsCompiled bytes' entry c) where
  is_compiled : IsCompiled bytes entry c
  is_compiled = subst (λ u. IsCompiled u entry c) same is

  pub walk_written : (status : ℕ) → WroteWalk c.checked c.tac strategy b runs budget seed old new status → Wrote held old new (record { file = file; entry = entry; work = walk strategy b runs budget seed }) status
  walk_written status w = record {
    bytes = bytes;
    text = walk_text b w.items w.terms w.summary;
    read = read;
    report = record {
      program = core_of c.checked;
      source = program_of bytes entry is_compiled.tokens c.checked is_compiled.reads;
      tac = c.tac;
      compiles = is_compiled.compiles;
      items = w.items;
      terms = w.terms;
      summary = w.summary;
      whole = w.whole;
      text_is = refl;
      verdict = w.verdict;
    };
    written = w.written;
  }

  pub walk_begun : WroteWalkSome c.checked c.tac strategy b runs budget seed old new → WroteFirst held old new (record { file = file; entry = entry; work = walk strategy b runs budget seed })
  walk_begun w = record {
    bytes = bytes;
    text = walk_text b w.items w.terms w.summary;
    read = read;
    may = record {
      program = core_of c.checked;
      source = program_of bytes entry is_compiled.tokens c.checked is_compiled.reads;
      tac = c.tac;
      compiles = is_compiled.compiles;
      items = w.items;
      terms = w.terms;
      summary = w.summary;
      walks = w.walks;
      text_is = refl;
    };
    written = w.written;
  }
