-- An outcome that is tried, in the words of the code.
use Rattle.std.proofs.Common.{◌≡◌, ◌≢◌, ◌-◌, ℕ, true, false, List, [], ◌∷◌, length, take, Option, All, refl, sym, ap, ◌∙◌, subst}
use Rattle.cc_base.specs.declared.outcomes.Outcome.{Outcome}
use Rattle.cc_base.specs.Outcomes.{HasByte}
use Rattle.cc_base.specs.Paths.{Path, next}
use Rattle.cc_model.specs.Listing.{PassedOver, Reached}
use Rattle.search_dfs.specs.declared.open.Open.{Open}
use Rattle.search_dfs.specs.declared.open.Pending.{Pending}
use Rattle.search_dfs.specs.Output.{Out}
use Rattle.search_base.specs.Setting.{Setting}
use Rattle.search_dfs.specs.Setting.{own_at}
use Rattle.search_dfs.specs.Stack.{path_of_run}
use Rattle.search_dfs.specs.Turns.{Taken, Went, WentSome, Turn, TurnSome, Solving}
use Rattle.search_dfs.proofs.Choices.{prefix_bytes}
use Rattle.search_dfs.proofs.Outputs.{wrote_none}
use Rattle.search_dfs.proofs.Step.{entered_before, settled, refused_turn, by_stop, by_pass, turn_mine, some_mine, in_prefix, own_is, prefix_is, offered_at}

module _ (p : Setting) (after : Option Path) (limit : ℕ) (b : Open) (o : Outcome) (os : List Outcome) (ls : List (List Outcome)) (r : Pending) (rs : List Pending) (T : Taken p b o os ls r rs)
    (x : Pending) (e : x ≡ r) where
  abbrev Turns : Open → Out → Out → Type 0
  Turns c was now = Turn p after limit ((o ∷ os) ∷ ls) (r ∷ rs) b c was now

  abbrev Some_of : Out → Out → Type 0
  Some_of was now = TurnSome p after limit ((o ∷ os) ∷ ls) (r ∷ rs) b was now

  pub nothing_tried : (was : Out) → Some_of was was
  nothing_tried was = refused_turn p after limit b o os ls r rs T was was refl

  module _ (own : Outcome) (f : own ≡ own_at (b.depth - 1) (path_of_run x)) where
    own_here : own ≡ own_at (length ls) (path_of_run r)
    own_here = f ∙ ap (λ y. own_at (b.depth - 1) (path_of_run y)) e ∙ own_is p b o os ls r rs T

    pub mine_turn : o ≡ own → (c : Open) (was now : Out) → Went p after limit b c was now → Turns c was now
    mine_turn m c was now w = turn_mine p after limit b o os ls r rs T (m ∙ own_here) c was now w

    pub mine_some : o ≡ own → (was now : Out) → WentSome p after limit b was now → Some_of was now
    mine_some m was now w = some_mine p after limit b o os ls r rs T (m ∙ own_here) was now w

    module _ (n : o ≢ own) where
      other : o ≢ own_at (length ls) (path_of_run r)
      other k = n (k ∙ sym own_here)

      pub stopped_turn : b.stopped ≡ true → (was : Out) → Turns b was was
      stopped_turn s was = settled p after limit b o os ls r rs T b [] was was (refl, refl, refl) (wrote_none p was was refl) (by_stop p after limit b o os ls r rs T other s)

      module _ (w : Path) (k : w ≡ next (take (b.depth - 1) (path_of_run x)) o) where
        prefix_here : w ≡ next (take (length ls) (path_of_run r)) o
        prefix_here = k ∙ ap (λ y. next (take (b.depth - 1) (path_of_run y)) o) e ∙ prefix_is p b o os ls r rs T

        pub passed_turn : PassedOver after w → (was : Out) → Turns b was was
        passed_turn h was = settled p after limit b o os ls r rs T b [] was was (refl, refl, refl) (wrote_none p was was refl) (by_pass p after limit b o os ls r rs T other (subst (PassedOver after) prefix_here h))

        pub solving_here : b.stopped ≡ false → Reached after w → Solving p after b o w os ls r rs
        solving_here s h = record {
          taken = T;
          other = other;
          going = s;
          prefix = prefix_here;
          reached = h;
          bytes = subst (All HasByte) (sym (k ∙ ap (λ y. next (take (b.depth - 1) (path_of_run y)) o) e))
              (prefix_bytes p r.from r.trace r.path (T.level).trace (b.depth - 1) o (entered_before p b o os ls r rs T) (in_prefix p b o os ls r rs T) (offered_at p b o os ls r rs T other));
        }
