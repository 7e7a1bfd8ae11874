-- The types of functions and globals, in a table that grows.
use Rattle.std.proofs.Common.{◌≡◌, ◌∙◌, sym, ap, refl, subst, arith, ℕ, ◌+◌, ◌<◌, ◌≤◌, inl, List, [], ◌∷◌, ◌++◌, map, length, take, get_or, unwrap_or, Option, Some, None}
use Rattle.std.proofs.lemmas.List.{append-nil, take_more, take_all, map-append}
use Rattle.cc_base.specs.Paths.{In}
use Rattle.cc_base.specs.declared.cells.TyId.{TyId}
use Rattle.cc_model.specs.declared.checked.Ty.{Ty}
use Rattle.cc_model.specs.declared.checked.Sig.{Sig}
use Rattle.cc_model.specs.declared.typing.CType.{CType}
use Rattle.cc_model.specs.declared.typing.Function.{Function}
use Rattle.cc_model.specs.declared.typing.Variable.{Variable}
use Rattle.cc_model.specs.declared.typing.Note.{Note}
use Rattle.cc_model.specs.declared.typing.Note.TheVariants as note
use Rattle.cc_model.specs.Types.{void_type}
use Rattle.cc_model.specs.CheckedProgram.{AllDenote, known, result_of, declared_types}
use Rattle.c_numbering.specs.Table.{itself, Continues, Asked, Numbered, AllNumbered}
use Rattle.c_numbering.specs.Sigs.{AddsNumbers, SigDenotes, SigsDenote, SigsNumbered}
use Rattle.c_numbering.proofs.DenotesLemmas.{in_left, in_right, Denotes-continue, continues_from, continues_same}
use Rattle.c_numbering.proofs.TableLemmas.{AllDenote-continue, AllDenote-push}

-- ---- types that are known

known_more : (k l : List (Option CType)) → known (k ++ l) ≡ known k ++ known l
known_more [] l = refl
known_more (None ∷ k) l = known_more k l
known_more (Some t ∷ k) l = ap (λ z. t ∷ z) (known_more k l)

pub adds_none : (tys : List Ty) (ns : List TyId) (o : Option CType) → o ≡ None → AddsNumbers tys tys ns ns (known (o ∷ []))
adds_none tys ns o e = record {
  kept = continues_same tys;
  denote = λ us h. subst (AllDenote tys ns) (sym (ap (λ z. us ++ known (z ∷ [])) e ∙ append-nil us)) h;
  among = λ asked w a. a;
}

pub adds_one : (old new : List Ty) (before after : List TyId) (n : TyId) (o : Option CType) (t : CType) → o ≡ Some t → Numbered old new n.0 t → after ≡ before ++ n ∷ [] → AddsNumbers old new before after (known (o ∷ []))
adds_one old new before after n o t e k p = record {
  kept = k.kept;
  denote = λ us h. subst (λ ms. AllDenote new ms (us ++ known (o ∷ []))) (sym p) (subst (λ z. AllDenote new (before ++ n ∷ []) (us ++ known (z ∷ []))) (sym e) (AllDenote-push new before us n t (AllDenote-continue old new before us k.kept h) k.denotes));
  among = λ asked w a. k.among asked (w t (subst (λ z. In t (known (z ∷ []))) (sym e) (inl refl))) a;
}

numbers_behind : (old new newer : List Ty) (ns ms : List TyId) (ts us : List CType) → AllNumbered old new ns ts → AddsNumbers new newer ns ms us → AllNumbered old newer ms (ts ++ us)
numbers_behind old new newer ns ms ts us v w = record {
  kept = continues_from old new newer v.kept w.kept;
  denote = w.denote ts v.denote;
  among = λ asked g a. w.among asked (λ t h. g t (in_right t ts us h)) (v.among asked (λ t h. g t (in_left t ts us h)) a);
}

pub known_step : (old new newer : List Ty) (ns ms : List TyId) (types : List (Option CType)) (i : ℕ) (o : Option CType) → i < length types → o ≡ get_or types i o → AllNumbered old new ns (known (take i types)) → AddsNumbers new newer ns ms (known (o ∷ [])) → AllNumbered old newer ms (known (take (i + 1) types))
known_step old new newer ns ms types i o h e v w =
    subst (AllNumbered old newer ms) (sym (ap known (take_more types i o h ∙ ap (λ x. take i types ++ x ∷ []) (sym e)) ∙ known_more (take i types) (o ∷ []))) (numbers_behind old new newer ns ms (known (take i types)) (known (o ∷ [])) v w)

abbrev type_in : Variable → Option CType
type_in v = v.ty

pub global_step : (old new newer : List Ty) (ns ms : List TyId) (globals : List Variable) (i : ℕ) (g : Variable) → i < length globals → g ≡ get_or globals i g → AllNumbered old new ns (known (map (λ (v : Variable). v.ty) (take i globals))) → AddsNumbers new newer ns ms (known (g.ty ∷ []))
    → AllNumbered old newer ms (known (map (λ (v : Variable). v.ty) (take (i + 1) globals)))
global_step old new newer ns ms globals i g h e v w =
    subst (AllNumbered old newer ms)
    (sym (ap (λ l. known (map type_in l)) (take_more globals i g h ∙ ap (λ x. take i globals ++ x ∷ []) (sym e)) ∙ ap known (map-append type_in (take i globals) (g ∷ [])) ∙ known_more (map type_in (take i globals)) (g.ty ∷ [])))
    (numbers_behind old new newer ns ms (known (map type_in (take i globals))) (known (g.ty ∷ [])) v w)

-- ---- declared types

pub declared_more : (k l : List Note) → declared_types (k ++ l) ≡ declared_types k ++ declared_types l
declared_more [] l = refl
declared_more (note.Declares t ty ∷ k) l = ap (λ z. ty ∷ z) (declared_more k l)
declared_more (note.Fault w t ∷ k) l = declared_more k l
declared_more (note.Means t what ∷ k) l = declared_more k l
declared_more (note.Typed t ty ∷ k) l = declared_more k l
declared_more (note.Null t ∷ k) l = declared_more k l

pub declared_step : (types next : List CType) (notes : List Note) (i : ℕ) (n : Note) → i < length notes → n ≡ get_or notes i n → types ≡ declared_types (take i notes) → next ≡ types ++ declared_types (n ∷ []) → next ≡ declared_types (take (i + 1) notes)
declared_step types next notes i n h e p q =
    q ∙ ap (λ z. z ++ declared_types (n ∷ [])) p ∙ sym (declared_more (take i notes) (n ∷ [])) ∙ ap declared_types (sym (take_more notes i n h ∙ ap (λ x. take i notes ++ x ∷ []) (sym e)))

-- ---- functions

SigDenotes-continue : (old new : List Ty) (f : Function) (l : List CType) (s : Sig) → Continues old new → SigDenotes old f l s → SigDenotes new f l s
SigDenotes-continue old new f l s k h = record {
  params = AllDenote-continue old new s.params (known f.params) k h.params;
  result = Denotes-continue old new (s.result).0 (unwrap_or f.result void_type) k h.result;
  slots = AllDenote-continue old new s.slots l k h.slots;
}

pub SigsDenote-continue : (old new : List Ty) (fs : List Function) (ls : List (List CType)) (ss : List Sig) → Continues old new → SigsDenote old fs ls ss → SigsDenote new fs ls ss
SigsDenote-continue old new [] [] [] k h = tt
SigsDenote-continue old new (f ∷ fs) (l ∷ ls) (s ∷ ss) k h = (SigDenotes-continue old new f l s k h.0, SigsDenote-continue old new fs ls ss k h.1)
SigsDenote-continue old new [] [] (s ∷ ss) k h = absurd h
SigsDenote-continue old new [] (l ∷ ls) [] k h = absurd h
SigsDenote-continue old new [] (l ∷ ls) (s ∷ ss) k h = absurd h
SigsDenote-continue old new (f ∷ fs) [] [] k h = absurd h
SigsDenote-continue old new (f ∷ fs) [] (s ∷ ss) k h = absurd h
SigsDenote-continue old new (f ∷ fs) (l ∷ ls) [] k h = absurd h

SigsDenote-push : (tys : List Ty) (fs : List Function) (ls : List (List CType)) (ss : List Sig) (f : Function) (l : List CType) (s : Sig) → SigsDenote tys fs ls ss → SigDenotes tys f l s → SigsDenote tys (fs ++ f ∷ []) (ls ++ l ∷ []) (ss ++ s ∷ [])
SigsDenote-push tys [] [] [] f l s h d = (d, tt)
SigsDenote-push tys (g ∷ fs) (m ∷ ls) (r ∷ ss) f l s h d = (h.0, SigsDenote-push tys fs ls ss f l s h.1 d)
SigsDenote-push tys [] [] (r ∷ ss) f l s h d = absurd h
SigsDenote-push tys [] (m ∷ ls) [] f l s h d = absurd h
SigsDenote-push tys [] (m ∷ ls) (r ∷ ss) f l s h d = absurd h
SigsDenote-push tys (g ∷ fs) [] [] f l s h d = absurd h
SigsDenote-push tys (g ∷ fs) [] (r ∷ ss) f l s h d = absurd h
SigsDenote-push tys (g ∷ fs) (m ∷ ls) [] f l s h d = absurd h

result_asked : (f : Function) (o : Option CType) (asked : List CType) → f.result ≡ o → ((t : CType) → In t (result_of f ++ known f.params) → Asked asked t) → Asked asked (unwrap_or f.result void_type)
result_asked f None asked e w = subst (λ z. Asked asked (unwrap_or z void_type)) (sym e) (void_type, (inl refl, itself))
result_asked f (Some t) asked e w = subst (λ z. Asked asked (unwrap_or z void_type)) (sym e) (w t (subst (λ z. In t (known (z ∷ []) ++ known f.params)) (sym e) (inl refl)))

pub sig_made : (old one two new : List Ty) (f : Function) (l : List CType) (seen : List (Option CType)) (params slots : List TyId) (n : TyId) → seen ≡ f.params → AllNumbered old one params (known seen) → Numbered one two n.0 (unwrap_or f.result void_type) → AllNumbered two new slots l
    → SigsNumbered old new (f ∷ []) (l ∷ []) (record { params = params; result = n; slots = slots } ∷ [])
sig_made old one two new f l seen params slots n e p r q =
    let pp : AllNumbered old one params (known f.params) = subst (λ z. AllNumbered old one params (known z)) e p in
    record {
      kept = continues_from old two new (continues_from old one two p.kept r.kept) q.kept;
      denote = (
        record {
          params = AllDenote-continue two new params (known f.params) q.kept (AllDenote-continue one two params (known f.params) r.kept pp.denote);
          result = Denotes-continue two new n.0 (unwrap_or f.result void_type) q.kept r.denotes;
          slots = q.denote;
        },
        tt,
      );
      among = λ asked g k a. q.among asked (λ t h. k l t (inl refl) h) (r.among asked (result_asked f f.result asked refl (λ t h. g f t (inl refl) h)) (pp.among asked (λ t h. g f t (inl refl) (in_right t (result_of f) (known f.params) h)) a));
    }

pub sigs_none : (tys : List Ty) → SigsNumbered tys tys [] [] []
sigs_none tys = record { kept = continues_same tys; denote = tt; among = λ asked g k a. a }

sigs_more : (old new newer : List Ty) (fs : List Function) (ls : List (List CType)) (ss : List Sig) (f : Function) (l : List CType) (s : Sig) → SigsNumbered old new fs ls ss → SigsNumbered new newer (f ∷ []) (l ∷ []) (s ∷ []) → SigsNumbered old newer (fs ++ f ∷ []) (ls ++ l ∷ []) (ss ++ s ∷ [])
sigs_more old new newer fs ls ss f l s v w = record {
  kept = continues_from old new newer v.kept w.kept;
  denote = SigsDenote-push newer fs ls ss f l s (SigsDenote-continue new newer fs ls ss w.kept v.denote) w.denote.0;
  among = λ asked g k a.
      w.among asked (λ h t i e. g h t (in_right h fs (f ∷ []) i) e) (λ h t i e. k h t (in_right h ls (l ∷ []) i) e)
      (v.among asked (λ h t i e. g h t (in_left h fs (f ∷ []) i) e) (λ h t i e. k h t (in_left h ls (l ∷ []) i) e) a);
}

pub sigs_step : (old new newer : List Ty) (fs : List Function) (ls : List (List CType)) (ss next : List Sig) (i : ℕ) (f : Function) (l seen : List CType) (s : Sig) → length ls ≡ length fs → i < length fs → f ≡ get_or fs i f → l ≡ get_or ls i l → seen ≡ l → next ≡ ss ++ s ∷ []
    → SigsNumbered old new (take i fs) (take i ls) ss → SigsNumbered new newer (f ∷ []) (seen ∷ []) (s ∷ []) → SigsNumbered old newer (take (i + 1) fs) (take (i + 1) ls) next
sigs_step old new newer fs ls ss next i f l seen s same h e p q n v w =
    let a : take (i + 1) fs ≡ take i fs ++ f ∷ [] = take_more fs i f h ∙ ap (λ x. take i fs ++ x ∷ []) (sym e) in
    let b : take (i + 1) ls ≡ take i ls ++ l ∷ [] = take_more ls i l (omega (arith, same)) ∙ ap (λ x. take i ls ++ x ∷ []) (sym p) in
    subst (λ z. SigsNumbered old newer (take (i + 1) fs) (take (i + 1) ls) z) (sym n)
    (subst (λ z. SigsNumbered old newer (take (i + 1) fs) z (ss ++ s ∷ [])) (sym b)
    (subst (λ z. SigsNumbered old newer z (take i ls ++ l ∷ []) (ss ++ s ∷ [])) (sym a)
    (sigs_more old new newer (take i fs) (take i ls) ss f l s v (subst (λ z. SigsNumbered new newer (f ∷ []) (z ∷ []) (s ∷ [])) q w))))

pub globals_all : (old new : List Ty) (ns : List TyId) (globals : List Variable) (i : ℕ) → length globals ≤ i → AllNumbered old new ns (known (map (λ (v : Variable). v.ty) (take i globals))) → AllNumbered old new ns (known (map (λ (v : Variable). v.ty) globals))
globals_all old new ns globals i h v = subst (λ l. AllNumbered old new ns (known (map type_in l))) (take_all i globals h) v
