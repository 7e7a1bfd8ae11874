-- The ranks of touched blocks, and the sides of pointers without place.
use Rattle.std.proofs.Common.{◌≡◌, ◌≢◌, ℕ, zero, suc, inl, inr, ℤ, pos, ◌≤ℤ◌, nat_abs, List, [], ◌∷◌, length, map, Option, Some, None, refl, sym, ap, ap₂, ◌∙◌, arith, slice_get, if◌then◌else◌}
use Rattle.std.specs.Option.{option_map}
use Rattle.std.proofs.lemmas.Option.{same_Some}
use Rattle.cc_base.specs.Forms.{Side, nothing, at}
use Rattle.cc_base.specs.Paths.{In, Pairwise}
use Rattle.cc_base.specs.declared.outcomes.Outcome.TheVariants.{Object}
use Rattle.cc_laws.proofs.Members.{is_same, not_same}
use Rattle.checked_memory.specs.declared.values.Value.{Value}
use Rattle.checked_memory.specs.declared.values.Value.TheVariants.{Int, Null, Made, Block}
use Rattle.checked_memory.specs.Contents.{TouchedBlock, IsTouched, address_of}
use Rattle.cc_model.specs.Core.{Cmp}
use Rattle.cc_model.specs.Plain as plain
use Rattle.cc_model.specs.Plain.{rank}
use Rattle.cc_model.specs.Traced as traced
use Rattle.cc_model.specs.Traced.{Shadow, Traced, Touched}
use Rattle.cc_model.specs.Canonical.{Named}
use Rattle.sym_run.specs.declared.symbols.Symbol.{Symbol}
use Rattle.sym_run.specs.declared.objects.First.{First}
use Rattle.sym_run.specs.declared.objects.Objects.{Objects}
use Rattle.sym_run.specs.Beside.{value_of}
use Rattle.sym_run.specs.Pointers.{place_in, blank}
use Rattle.sym_run.specs.Remembers.{name_of, names_in, touched_seen, Remembers}
use Rattle.sym_run.proofs.MemoryLaws.{Addressed, abs_back}

got_in : {A : Type 0} (l : List A) (k : ℕ) (x : A) → slice_get l k ≡ Some x → In x l
got_in [] k x e = absurd (cc e)
got_in (y ∷ l) zero x e = inl (sym (same_Some y x e))
got_in (y ∷ l) (suc k) x e = inr (got_in l k x e)

other_name : (z a : ℤ) → pos 0 ≤ℤ z → pos 0 ≤ℤ a → z ≢ a → nat_abs a ≢ nat_abs z
other_name z a p q n e = n (abs_back z p ∙ ap pos (sym e) ∙ sym (abs_back a q))

pub rank_found : (bs : List TouchedBlock) (a : ℤ) (r : ℕ) → Addressed bs → pos 0 ≤ℤ a → Pairwise (λ (x y : ℤ). x ≢ y) (map address_of bs) → slice_get (map address_of bs) r ≡ Some a → rank (nat_abs a) (map name_of bs) ≡ r
unfolding rank
rank_found [] a r p q d e = absurd (cc e)
rank_found (b ∷ bs) a zero p q d e = ap (λ t. if t then 0 else suc (rank (nat_abs a) (map name_of bs))) (is_same (nat_abs a) (name_of b) (ap nat_abs (sym (same_Some b.address a e))))
rank_found (b ∷ bs) a (suc r) p q d e =
    ap (λ t. if t then 0 else suc (rank (nat_abs a) (map name_of bs))) (not_same (nat_abs a) (name_of b) (other_name b.address a p.0 q (d.0 a (got_in (map address_of bs) r a e))))
    ∙ ap suc (rank_found bs a r p.1 q d.1 e)

pub rank_missing : (bs : List TouchedBlock) (a : ℤ) → Addressed bs → pos 0 ≤ℤ a → (IsTouched a bs → ⊥) → rank (nat_abs a) (map name_of bs) ≡ length bs
unfolding rank
rank_missing [] a p q n = refl
rank_missing (b ∷ bs) a p q n =
    ap (λ t. if t then 0 else suc (rank (nat_abs a) (map name_of bs))) (not_same (nat_abs a) (name_of b) (other_name b.address a p.0 q (λ e. n (inl e))))
    ∙ ap suc (rank_missing bs a p.1 q (λ i. n (inr i)))

-- the first place of a block doesn't hang on its cells
first_blank : (symbols : List Symbol) (t r : ℕ) (fs : List First) (bs : List TouchedBlock) → length fs ≡ length bs → traced.first_if t (option_map blank (slice_get fs r)) ≡ traced.first_if t (slice_get (touched_seen symbols fs bs) r)
unfolding traced.first_if
first_blank symbols t r [] bs l = refl
first_blank symbols t r (f ∷ fs) [] l = absurd (omega (arith, l))
first_blank symbols t zero (f ∷ fs) (b ∷ bs) l = refl
first_blank symbols t (suc r) (f ∷ fs) (b ∷ bs) l = first_blank symbols t r fs bs (omega (arith, l))

-- a pointer without place, by its value
abbrev pub side_by : ℕ → ℕ → List First → Value → Option Side
side_by t r fs (Int z) = None
side_by t r fs Null = Some nothing
side_by t r fs (Made n i) = None
side_by t r fs (Block a zero) = traced.first_if t (option_map blank (slice_get fs r))
side_by t r fs (Block a (suc i)) = None

module _ (start : plain.Data) (named : List Named) (symbols : List Symbol) (o : Objects) (d : traced.Data) (r : Remembers start named symbols o d) where
  pub side_is : (t : ℕ) (a : ℤ) (i k : ℕ) → k ≡ rank (nat_abs a) (names_in o) → i ≡ 0 → traced.first_if t (option_map blank (slice_get o.firsts k)) ≡ traced.side_without t (value_of (Block a i)) (d.plain).touched (d.shadows).touched
  unfolding traced.side_without traced.side_at traced.spot_of
  side_is t a i k e z =
      first_blank symbols t k o.firsts o.memory.touched r.firsts
      ∙ ap₂ (λ (l : List Touched) (n : ℕ). traced.first_if t (slice_get l n)) (sym r.touched_shadows) (e ∙ ap (rank (nat_abs a)) (sym r.touched))
      ∙ ap (λ (j : ℕ). traced.side_without t (value_of (Block a j)) (d.plain).touched (d.shadows).touched) (sym z)

  pub side_inside : (t : ℕ) (a : ℤ) (i : ℕ) → (i ≡ 0 → ⊥) → None ≡ traced.side_without t (value_of (Block a i)) (d.plain).touched (d.shadows).touched
  unfolding traced.side_without traced.side_at traced.spot_of
  side_inside t a zero n = absurd (n refl)
  side_inside t a (suc i) n = refl

-- what a comparison asks, by the places that stand beside the pointers
unfoldable pub pointers_by : Cmp → Option First → Option First → Traced → Traced → List ℕ → List Touched → traced.Asked
pointers_by o (Some f) (Some g) a b touched l = traced.places_asked o f.place.0 f.ty.0 g.place.0 g.ty.0
pointers_by o (Some f) None a b touched l = traced.sides_asked o (Some (at f.place.0)) (traced.side_without f.ty.0 b.plain touched l)
pointers_by o None (Some g) a b touched l = traced.sides_asked o (traced.side_without g.ty.0 a.plain touched l) (Some (at g.place.0))
pointers_by o None None a b touched l = traced.asks_nothing

by_shadows : (o : Cmp) (s u : Shadow) (v w : plain.Value) (touched : List ℕ) (l : List Touched)
    → pointers_by o (place_in s) (place_in u) (record { plain = v; shadow = s }) (record { plain = w; shadow = u }) touched l ≡ traced.pointers_asked o (record { plain = v; shadow = s }) (record { plain = w; shadow = u }) touched l
unfolding pointers_by traced.pointers_asked
by_shadows o (traced.form g) (traced.form h) v w touched l = refl
by_shadows o (traced.form g) (traced.place p t) v w touched l = refl
by_shadows o (traced.form g) traced.none v w touched l = refl
by_shadows o (traced.place p t) (traced.form h) v w touched l = refl
by_shadows o (traced.place p t) (traced.place q x) v w touched l = refl
by_shadows o (traced.place p t) traced.none v w touched l = refl
by_shadows o traced.none (traced.form h) v w touched l = refl
by_shadows o traced.none (traced.place p t) v w touched l = refl
by_shadows o traced.none traced.none v w touched l = refl

pub pointers_are : (o : Cmp) (a b : Traced) (touched : List ℕ) (l : List Touched) → pointers_by o (place_in a.shadow) (place_in b.shadow) a b touched l ≡ traced.pointers_asked o a b touched l
pointers_are o a b touched l = by_shadows o a.shadow b.shadow a.plain b.plain touched l

module _ (o : Cmp) (a b : Traced) (touched : List ℕ) (l : List Touched) where
  pub by_both : (f g : First) → Some f ≡ place_in a.shadow → Some g ≡ place_in b.shadow → traced.places_asked o f.place.0 f.ty.0 g.place.0 g.ty.0 ≡ traced.pointers_asked o a b touched l
  unfolding pointers_by
  by_both f g e k = ap₂ (λ (x y : Option First). pointers_by o x y a b touched l) e k ∙ pointers_are o a b touched l

  pub by_left : (f : First) (s : Option Side) → Some f ≡ place_in a.shadow → None ≡ place_in b.shadow → s ≡ traced.side_without f.ty.0 b.plain touched l → traced.sides_asked o (Some (at f.place.0)) s ≡ traced.pointers_asked o a b touched l
  unfolding pointers_by
  by_left f s e k i = ap (λ (x : Option Side). traced.sides_asked o (Some (at f.place.0)) x) i ∙ ap₂ (λ (x y : Option First). pointers_by o x y a b touched l) e k ∙ pointers_are o a b touched l

  pub by_right : (g : First) (s : Option Side) → None ≡ place_in a.shadow → Some g ≡ place_in b.shadow → s ≡ traced.side_without g.ty.0 a.plain touched l → traced.sides_asked o s (Some (at g.place.0)) ≡ traced.pointers_asked o a b touched l
  unfolding pointers_by
  by_right g s e k i = ap (λ (x : Option Side). traced.sides_asked o x (Some (at g.place.0))) i ∙ ap₂ (λ (x y : Option First). pointers_by o x y a b touched l) e k ∙ pointers_are o a b touched l

  pub by_none : None ≡ place_in a.shadow → None ≡ place_in b.shadow → traced.asks_nothing ≡ traced.pointers_asked o a b touched l
  unfolding pointers_by
  by_none e k = ap₂ (λ (x y : Option First). pointers_by o x y a b touched l) e k ∙ pointers_are o a b touched l

-- ---- what stands beside a pointer to a reached block

first_seen : (symbols : List Symbol) (s : Shadow) (n : ℕ) (fs : List First) (bs : List TouchedBlock) → length fs ≡ length bs → traced.first_of (option_map blank (slice_get fs n)) s ≡ traced.first_of (slice_get (touched_seen symbols fs bs) n) s
unfolding traced.first_of
first_seen symbols s n [] bs l = refl
first_seen symbols s n (f ∷ fs) [] l = absurd (omega (arith, l))
first_seen symbols (traced.form g) zero (f ∷ fs) (b ∷ bs) l = refl
first_seen symbols (traced.place p t) zero (f ∷ fs) (b ∷ bs) l = refl
first_seen symbols traced.none zero (f ∷ fs) (b ∷ bs) l = refl
first_seen symbols s (suc n) (f ∷ fs) (b ∷ bs) l = first_seen symbols s n fs bs (omega (arith, l))

none_reached : (o : Option Touched) (s : Shadow) → None ≡ place_in s → s ≡ traced.first_of o s
unfolding traced.first_of
none_reached None (traced.form g) e = refl
none_reached None traced.none e = refl
none_reached None (traced.place p t) e = refl
none_reached (Some b) (traced.form g) e = refl
none_reached (Some b) traced.none e = refl
none_reached (Some b) (traced.place p t) e = absurd (cc e)

past_reached : (s : Shadow) → s ≡ traced.first_of None s
unfolding traced.first_of
past_reached (traced.form g) = refl
past_reached (traced.place p t) = refl
past_reached traced.none = refl

place_reached : (f beside : First) (s : Shadow) → Some beside ≡ place_in s → traced.place f.place.0 f.ty.0 ≡ traced.first_of (Some (blank f)) s
unfolding traced.first_of
place_reached f beside (traced.form g) e = absurd (cc e)
place_reached f beside traced.none e = absurd (cc e)
place_reached f beside (traced.place p t) e = refl

place_itself : (beside : First) (s : Shadow) → Some beside ≡ place_in s → s ≡ traced.place beside.place.0 beside.ty.0
place_itself beside (traced.form g) e = absurd (cc e)
place_itself beside traced.none e = absurd (cc e)
place_itself beside (traced.place p t) e = let k : record { place = record { 0 = p }; ty = record { 0 = t } } ≡ beside = sym (same_Some beside _ e) in ap (λ (g : First). traced.place g.place.0 g.ty.0) k

module _ (start : plain.Data) (named : List Named) (symbols : List Symbol) (o : Objects) (d : traced.Data) (r : Remembers start named symbols o d) (n : ℕ) (s : Shadow) where
  reached_by_first : traced.first_of (option_map blank (slice_get o.firsts n)) s ≡ traced.reached_shadow (Object n) s (d.shadows).touched
  unfolding traced.reached_shadow
  reached_by_first = first_seen symbols s n o.firsts o.memory.touched r.firsts ∙ ap (λ (l : List Touched). traced.first_of (slice_get l n) s) (sym r.touched_shadows)

  pub reached_without : None ≡ place_in s → s ≡ traced.reached_shadow (Object n) s (d.shadows).touched
  reached_without e = none_reached (option_map blank (slice_get o.firsts n)) s e ∙ reached_by_first

  pub reached_past : None ≡ slice_get o.firsts n → s ≡ traced.reached_shadow (Object n) s (d.shadows).touched
  reached_past e = past_reached s ∙ ap (λ (x : Option First). traced.first_of (option_map blank x) s) e ∙ reached_by_first

  pub reached_place : (f beside : First) → Some beside ≡ place_in s → Some f ≡ slice_get o.firsts n → traced.place f.place.0 f.ty.0 ≡ traced.reached_shadow (Object n) s (d.shadows).touched
  reached_place f beside e k = place_reached f beside s e ∙ ap (λ (x : Option First). traced.first_of (option_map blank x) s) k ∙ reached_by_first

  pub reached_itself : (f beside : First) → Some beside ≡ place_in s → Some f ≡ slice_get o.firsts n → f.place.0 ≡ beside.place.0 → f.ty.0 ≡ beside.ty.0 → s ≡ traced.reached_shadow (Object n) s (d.shadows).touched
  reached_itself f beside e k q t = place_itself beside s e ∙ ap₂ traced.place (sym q) (sym t) ∙ reached_place f beside e k
