-- The outcomes of decisions that a run's events took are those that the run takes.
use Rattle.std.proofs.Common.{◌≡◌, ℕ, zero, suc, Bool, List, [], ◌∷◌, length, Some, slice_get, option_map, unwrap_or, refl, sym, ◌∙◌, subst, ap}
use Rattle.std.proofs.lemmas.Option.{slice_get_within}
use Rattle.cc_base.specs.declared.outcomes.Outcome.{Outcome}
use Rattle.cc_base.specs.Paths.{Path}
use Rattle.cc_model.specs.declared.checked.Checked.{Checked}
use Rattle.cc_model.specs.declared.checked.Site.{Site}
use Rattle.cc_model.specs.declared.checked.SiteKind.TheVariants.{Decision}
use Rattle.cc_model.specs.CheckedProgram.{core_of}
use Rattle.cc_model.specs.Meaning.{Entry}
use Rattle.cc_model.specs.Runs.{run_of}
use Rattle.sym_run.specs.declared.trace.Event.{Event}
use Rattle.sym_run.specs.declared.trace.Trace.{Trace}
use Rattle.sym_run.specs.Stands.{IsSite}
use Rattle.sym_run.specs.Traces.{ArePlain, outcome_at}
use Rattle.search_walks.specs.Covering.{Marks, IsTakenUpTo}
use Rattle.search_walks.specs.Counted.{Took}
use Rattle.search_walks.specs.Made.{RunOf}
use Rattle.search_base.specs.Setting.{Setting}
use Rattle.search_walks.specs.Deciding.{Takes}
use Rattle.search_base.specs.Terms.{token_in}
use Rattle.search_walks.proofs.CoverLaws.{marks_by}

-- an event beside its entry
pub record Beside (c : Checked) (a : Entry Outcome) (e : Event) : Type 0 where
  pub site : IsSite c e.site a.kind a.token
  pub outcome : outcome_at e ≡ a.event

pub entry_of : (c : Checked) (l : List (Entry Outcome)) (es : List Event) (k : ℕ) (e : Event) → ArePlain c l es → slice_get es k ≡ Some e → (a : Entry Outcome) × (slice_get l k ≡ Some a) × Beside c a e
entry_of c [] [] k e h at = absurd (cc at)
entry_of c [] (f ∷ es) k e h at = absurd h
entry_of c (a ∷ l) [] k e h at = absurd h
entry_of c (a ∷ l) (f ∷ es) zero e h at = let same : f ≡ e = cc at in (a, refl, subst (Beside c a) same (record { site = h.0; outcome = h.1 }))
entry_of c (a ∷ l) (f ∷ es) (suc k) e h at = entry_of c l es k e h.2 at

pub event_of : (c : Checked) (l : List (Entry Outcome)) (es : List Event) (k : ℕ) (a : Entry Outcome) → ArePlain c l es → slice_get l k ≡ Some a → (e : Event) × (slice_get es k ≡ Some e) × Beside c a e
event_of c [] [] k a h at = absurd (cc at)
event_of c [] (f ∷ es) k a h at = absurd h
event_of c (b ∷ l) [] k a h at = absurd h
event_of c (b ∷ l) (f ∷ es) zero a h at = let same : b ≡ a = cc at in (f, refl, subst (λ x. Beside c x f) same (record { site = h.0; outcome = h.1 }))
event_of c (b ∷ l) (f ∷ es) (suc k) a h at = event_of c l es k a h.2 at

pub token_is : (sites : List Site) (n : ℕ) (x : Site) → slice_get sites n ≡ Some x → token_in sites n ≡ x.token
token_is sites n x e = ap (λ o. unwrap_or (option_map (λ y. y.token) o) 0) e

module _ (s : Setting) (t : Trace) (p : Path) (r : RunOf s t p) where
  to_took : (a : ℕ) → IsTakenUpTo s.checked t.events (length t.events) a → Took s t.input a
  to_took a x = by (entry_of s.checked (run_of (core_of s.checked) s.limits t.input).log t.events x.at x.event r.plain x.is)
    where
      by : (b : Entry Outcome) × (slice_get (run_of (core_of s.checked) s.limits t.input).log x.at ≡ Some b) × Beside s.checked b x.event → Took s t.input a
      by (b, e, h) =
          let w = x.taken in
          let m = w.among in
          let i = m.is_site in
          let k = h.site in
          record {
            site = m.site;
            side = w.side;
            number = m.number;
            takes = (
              x.at,
              b,
              record {
                entry = b;
                is_entry = e;
                site = i.0;
                is_site = i.1;
                same = sym (token_is s.checked.sites m.site i.0 i.1) ∙ m.token_is ∙ token_is s.checked.sites ((x.event).site).0 k.site k.listed ∙ k.token;
                kind = let d = w.is_decision in let z : k.site ≡ d.0 = cc (k.listed, d.1) in sym k.kind ∙ ap (λ (y : Site). y.kind) z ∙ d.2;
                site_kind = i.2;
              },
              e,
              sym h.outcome ∙ w.took,
            );
          }

  from_took : (a : ℕ) → Took s t.input a → IsTakenUpTo s.checked t.events (length t.events) a
  from_took a x = by x.takes
    where
      by : Takes s t.input x.site x.side → IsTakenUpTo s.checked t.events (length t.events) a
      by (k, b, d, e, o) = let same : d.entry ≡ b = cc (d.is_entry, e) in with_event same (event_of s.checked (run_of (core_of s.checked) s.limits t.input).log t.events k b r.plain e)
        where
          with_event : d.entry ≡ b → (v : Event) × (slice_get t.events k ≡ Some v) × Beside s.checked b v → IsTakenUpTo s.checked t.events (length t.events) a
          with_event same (v, f, h) =
              let g = h.site in
              let kind : g.site.kind ≡ Decision = g.kind ∙ ap (λ (y : Entry Outcome). y.kind) (sym same) ∙ d.kind in
              record {
                at = k;
                before = slice_get_within t.events k v f;
                event = v;
                is = f;
                taken = record {
                  side = x.side;
                  is_decision = (g.site, g.listed, kind);
                  took = h.outcome ∙ o;
                  among = record {
                    site = x.site;
                    below = slice_get_within s.checked.sites x.site d.site d.is_site;
                    is_site = (d.site, d.is_site, d.site_kind);
                    token_is = token_is s.checked.sites x.site d.site d.is_site ∙ d.same ∙ ap (λ (y : Entry Outcome). y.token) same ∙ sym g.token ∙ sym (token_is s.checked.sites (v.site).0 g.site g.listed);
                    number = x.number;
                  };
                };
              }

  pub took_marks : (old new : List Bool) (b : Bool) → Marks old new (IsTakenUpTo s.checked t.events (length t.events)) b → Marks old new (Took s t.input) b
  took_marks old new b x = marks_by old new (IsTakenUpTo s.checked t.events (length t.events)) b x (Took s t.input) to_took from_took
