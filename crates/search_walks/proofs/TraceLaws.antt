-- What a walk takes from a traced run, from what the run promises.
use Rattle.std.proofs.Common.{◌≡◌, ℕ, zero, suc, List, [], ◌∷◌, map, Option, Some, None, option_map, unwrap_or, slice_get, refl, sym, ap, ap₂, ◌∙◌, subst}
use Rattle.cc_base.specs.declared.outcomes.Outcome.{Outcome}
use Rattle.cc_model.specs.declared.checked.Checked.{Checked}
use Rattle.cc_model.specs.declared.checked.Site.{Site}
use Rattle.cc_model.specs.declared.terms.TermKind.{TermKind}
use Rattle.cc_model.specs.CheckedProgram.{core_of}
use Rattle.cc_model.specs.Conditions.{alternatives, alternatives_at, terms}
use Rattle.cc_model.specs.Meaning.{Entry}
use Rattle.cc_model.specs.Tested.{Term as Found}
use Rattle.cc_model.specs.Traced as traced
use Rattle.cc_model.specs.Traced.{Asked, asks_nothing, one_of, term}
use Rattle.sym_run.specs.declared.trace.Choice.{Choice}
use Rattle.sym_run.specs.declared.trace.Event.{Event}
use Rattle.sym_run.specs.declared.trace.Term.{Term}
use Rattle.sym_run.specs.Asks.{choices_of}
use Rattle.sym_run.specs.Stands.{AreEvents, AreTerms, IsTerm, of_terms, or_rest, term_in}
use Rattle.sym_run.specs.Traces.{others_at}
use Rattle.search_base.specs.Setting.{column_in}
use Rattle.search_base.specs.Terms.{token_in, found_at}

abbrev pub Log : Type 0
Log = List (Entry traced.Event)

outs_same : (cs : List Choice) → map (λ c. c.outcome) (choices_of cs) ≡ map (λ c. c.outcome) cs
outs_same [] = refl
outs_same (c ∷ cs) = ap (λ (l : List Outcome). c.outcome ∷ l) (outs_same cs)

pub others_along : (c : Checked) (l : Log) (es : List Event) (k : ℕ) (e : Event) → AreEvents c l es → slice_get es k ≡ Some e → others_at e ≡ map (λ x. x.outcome) (alternatives_at k l)
unfolding alternatives_at
others_along c [] [] k e h at = absurd (cc at)
others_along c [] (f ∷ es) k e h at = absurd h
others_along c (a ∷ l) [] k e h at = absurd h
others_along c (a ∷ l) (f ∷ es) zero e h at = let same : f ≡ e = cc at in subst (λ (x : Event). others_at x ≡ map (λ y. y.outcome) (alternatives a.event)) same (sym (outs_same f.others) ∙ ap (map (λ y. y.outcome)) (h.0).others)
others_along c (a ∷ l) (f ∷ es) (suc k) e h at = others_along c l es k e h.1 at

-- a term by the line and column of its site's token
found_is : (c : Checked) (a : Entry traced.Event) (t : Term) (k : TermKind) → IsTerm c a t → (a.event).asked ≡ term k → found_at c t ≡ record { line = (core_of c).line a.token; col = column_in c.sites a.token; kind = k }
found_is c a t k h e =
    let token : token_in c.sites (t.site).0 ≡ a.token = ap (λ (s : Option Site). unwrap_or (option_map (λ x. x.token) s) 0) (h.site).listed ∙ (h.site).token in
    let kind : t.kind ≡ k = same_kind (sym (h.kind) ∙ told (a.event).asked e) in
    ap₂ (λ (n : ℕ) (m : TermKind). record { line = (core_of c).line n; col = column_in c.sites n; kind = m }) token kind
  where
    same_kind : Some t.kind ≡ Some k → t.kind ≡ k
    same_kind f = cc f

    told : (s : Asked) → s ≡ term k → (elim s [ term j ↦ Some j | _ ↦ None ]) ≡ Some k
    told s f = ap (λ (x : Asked). elim x [ term j ↦ Some j | _ ↦ None ]) f

-- an event's own term, where it has one, before other terms
abbrev with_own : Checked → Entry traced.Event → List Found → Asked → List Found
with_own c a rest s = elim s [ term k ↦ record { line = (core_of c).line a.token; col = column_in c.sites a.token; kind = k } ∷ rest | _ ↦ rest ]

pub terms_along : (c : Checked) (l : Log) (ts : List Term) → AreTerms c (of_terms l) ts → map (found_at c) ts ≡ terms (core_of c).line (column_in c.sites) l
unfolding terms
terms_along c [] [] h = refl
terms_along c [] (t ∷ ts) h = absurd h
terms_along c (a ∷ l) ts h = by (a.event).asked refl ts h (λ us k. terms_along c l us k)
  where
    moved : (s : Asked) → (a.event).asked ≡ s → (ts : List Term) → AreTerms c (of_terms (a ∷ l)) ts → AreTerms c (or_rest (term_in s) (a ∷ of_terms l) (of_terms l)) ts
    moved s e ts h = subst (λ (q : Asked). AreTerms c (or_rest (term_in q) (a ∷ of_terms l) (of_terms l)) ts) e h

    by : (s : Asked) → (a.event).asked ≡ s → (ts : List Term) → AreTerms c (of_terms (a ∷ l)) ts → ((us : List Term) → AreTerms c (of_terms l) us → map (found_at c) us ≡ terms (core_of c).line (column_in c.sites) l) → map (found_at c) ts ≡ with_own c a (terms (core_of c).line (column_in c.sites) l) s
    by (term k) e [] h rest = absurd (moved (term k) e [] h)
    by (term k) e (t ∷ us) h rest = let m = moved (term k) e (t ∷ us) h in ap₂ (λ (x : Found) (y : List Found). x ∷ y) (found_is c a t k m.0 e) (rest us m.1)
    by asks_nothing e us h rest = rest us (moved asks_nothing e us h)
    by (one_of cs) e us h rest = rest us (moved (one_of cs) e us h)
