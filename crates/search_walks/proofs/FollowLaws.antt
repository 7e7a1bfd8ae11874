-- A run for a prediction.
use Rattle.std.proofs.Common.{◌≡◌, ℕ, Bool, true, false, List, [], Option, All, append-nil, refl, sym, ap, ◌∙◌, subst}
use Rattle.cc_base.specs.declared.ends.End.{End}
use Rattle.cc_base.specs.declared.inputs.Input.{Input}
use Rattle.cc_base.specs.declared.inputs.Test.{Test}
use Rattle.cc_base.specs.Outcomes.{HasByte}
use Rattle.cc_base.specs.Paths.{Path, BeginsWith}
use Rattle.cc_model.specs.Canonical.{base_input_of}
use Rattle.cc_model.specs.CheckedProgram.{core_of}
use Rattle.cc_model.specs.Runs.{params_of}
use Rattle.cc_model.specs.Listing.{test_item, stray_item}
use Rattle.cc_model.specs.Report.{item_line}
use Rattle.cc_outside.specs.Told.{appended, WritesPart}
use Rattle.cc_outside.proofs.ToldLemmas.{WritesPart-none, WritesPart-after}
use Rattle.search_walks.specs.declared.runs.Made.{Made}
use Rattle.search_walks.specs.declared.log.Log.{Log}
use Rattle.search_walks.specs.Counted.{Counted}
use Rattle.search_walks.specs.Made.{RunOf}
use Rattle.search_walks.specs.Output.{test_at}
use Rattle.search_base.specs.Readable.{HasTestLine}
use Rattle.search_base.specs.Setting.{Setting, layer_of, base_of}
use Rattle.search_walks.specs.Steps.{IsLine, Followed, FollowedSome, one_came, Started, base_item}
use Rattle.search_walks.specs.Walks.{Keeps, IsItemOf, kept, left, test_of}

module _ (s : Setting) (r : Made) (run : RunOf s r.trace r.path) where
  pub same_test : test_at r ≡ test_of s (r.trace).input
  same_test =
      ap (λ (q : Path). let t : Test = record { path = q; end = (r.trace).end; input = (r.trace).input } in t) run.path
      ∙ ap (λ (e : End). let t : Test = record { path = ((layer_of s).runs).path (r.trace).input; end = e; input = (r.trace).input } in t) run.end

  can_be_read : HasTestLine (test_of s (r.trace).input)
  can_be_read = subst HasTestLine same_test (record { cells = run.cells; bytes = run.bytes; line = run.line })

  pub test_is : (p : Path) (bytes : List ℕ) → BeginsWith r.path p → bytes ≡ item_line (test_item (test_at r)) → IsLine s (r.trace).input p bytes
  test_is p bytes b e = record {
    item = test_item (test_of s (r.trace).input);
    is_item = kept (subst (λ q. BeginsWith q p) run.path b);
    few = can_be_read;
    line = e ∙ ap (λ t. item_line (test_item t)) same_test;
  }

  pub stray_is : (p : Path) (bytes : List ℕ) → All HasByte p → (BeginsWith r.path p → ⊥) → bytes ≡ item_line (stray_item (test_at r) p) → IsLine s (r.trace).input p bytes
  stray_is p bytes h n e = record {
    item = stray_item (test_of s (r.trace).input) p;
    is_item = left (λ b. n (subst (λ q. BeginsWith q p) (sym run.path) b));
    few = (can_be_read, h);
    line = e ∙ ap (λ t. item_line (stray_item t p)) same_test;
  }

  pub followed : (i : Input) (p : Path) (bytes wrote : List ℕ) (b is_new : Bool) (old new : Option (List ℕ)) (l m : Log) → (r.trace).input ≡ i → IsLine s (r.trace).input p bytes → (b ≡ true → BeginsWith r.path p) → (b ≡ false → BeginsWith r.path p → ⊥) →
      wrote ≡ bytes → new ≡ appended old wrote → Counted s (r.trace).input (r.trace).end l m is_new → Followed s i p old new l m (record { run = r; kept = b; is_new = is_new })
  followed i p bytes wrote b is_new old new l m e line f1 f2 o w c = record {
    run = run;
    input = e;
    kept = ((λ f. subst (λ h. Keeps s h p) e (subst (λ q. BeginsWith q p) run.path (f1 f))), λ k. by b refl (subst (λ q. BeginsWith q p) (sym run.path) (subst (λ h. Keeps s h p) (sym e) k)));
    item = line.item;
    is_item = subst (λ h. IsItemOf s h p line.item) e line.is_item;
    few = line.few;
    written = w ∙ ap (appended old) (o ∙ line.line);
    counted = subst (λ h. Counted s h (((layer_of s).runs).end h) l m is_new) e (subst (λ z. Counted s (r.trace).input z l m is_new) run.end c);
  }
    where
      by : (v : Bool) → b ≡ v → BeginsWith r.path p → b ≡ true
      by true f k = f
      by false f k = absurd (f2 f k)

pub some_came : (s : Setting) (h i : Input) (p : Path) (bytes : List ℕ) (old new : Option (List ℕ)) → h ≡ i → IsLine s h p bytes → WritesPart old new bytes → FollowedSome s i p old new
some_came s h i p bytes old new e line w = one_came line.item (subst (λ z. IsItemOf s z p line.item) e line.is_item) (subst (WritesPart old new) line.line w)

pub all_came : (s : Setting) (h i : Input) (p : Path) (bytes wrote : List ℕ) (old new : Option (List ℕ)) → h ≡ i → IsLine s h p bytes → wrote ≡ bytes → new ≡ appended old wrote → FollowedSome s i p old new
all_came s h i p bytes wrote old new e line f w = some_came s h i p bytes old new e line (subst (WritesPart old new) (append-nil bytes) (WritesPart-after old new new bytes [] (w ∙ ap (appended old) f) (WritesPart-none new new [] refl)))

module _ (s : Setting) where
  pub base_there : (i : Input) → i ≡ base_input_of s.limits (params_of (core_of s.checked)) → i ≡ base_of s
  unfolding layer_of
  base_there i e = e

  base_line : (r : Made) → RunOf s r.trace r.path → (r.trace).input ≡ base_of s → item_line (test_item (test_at r)) ≡ item_line (base_item s)
  base_line r run e = ap (λ t. item_line (test_item t)) (same_test s r run ∙ ap (test_of s) e)

  pub started : (r : Made) (bytes wrote : List ℕ) (is_new : Bool) (old new : Option (List ℕ)) (l m : Log) → RunOf s r.trace r.path → (r.trace).input ≡ base_of s → bytes ≡ item_line (test_item (test_at r)) → wrote ≡ bytes →
      new ≡ appended old wrote → Counted s (r.trace).input (r.trace).end l m is_new → Started s old new l m r
  started r bytes wrote is_new old new l m run e f g w c = record {
    run = run;
    input = e;
    few = subst (λ h. HasTestLine (test_of s h)) e (can_be_read s r run);
    written = w ∙ ap (appended old) (g ∙ f ∙ base_line r run e);
    is_new = is_new;
    counted = subst (λ h. Counted s h (((layer_of s).runs).end h) l m is_new) e (subst (λ z. Counted s (r.trace).input z l m is_new) run.end c);
  }

  pub started_part : (r : Made) (bytes wrote : List ℕ) (old new : Option (List ℕ)) → RunOf s r.trace r.path → (r.trace).input ≡ base_of s → bytes ≡ item_line (test_item (test_at r)) → wrote ≡ bytes → WritesPart old new wrote →
      WritesPart old new (item_line (base_item s))
  started_part r bytes wrote old new run e f g w = subst (WritesPart old new) (g ∙ f ∙ base_line r run e) w

  pub started_all : (r : Made) (bytes wrote : List ℕ) (old new : Option (List ℕ)) → RunOf s r.trace r.path → (r.trace).input ≡ base_of s → bytes ≡ item_line (test_item (test_at r)) → wrote ≡ bytes → new ≡ appended old wrote →
      WritesPart old new (item_line (base_item s))
  started_all r bytes wrote old new run e f g w = started_part r bytes wrote old new run e f g (subst (WritesPart old new) (append-nil wrote) (WritesPart-after old new new wrote [] w (WritesPart-none new new [] refl)))

pub started_none : (old new : Option (List ℕ)) (piece : List ℕ) → new ≡ old → WritesPart old new piece
started_none old new piece e = WritesPart-none old new piece e
