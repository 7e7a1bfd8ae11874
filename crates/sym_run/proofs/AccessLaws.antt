-- A block's cells, as an access takes them from the input.
use Rattle.std.proofs.Common.{◌≡◌, ℕ, zero, suc, ◌+◌, ◌<◌, ◌≤◌, ℤ, pos, negsuc, ◌≤ℤ◌, ◌<ℤ◌, nat_abs, inl, inr, List, [], ◌∷◌, ◌++◌, length, length-append, map, drop, append_assoc, Some, slice_get, refl, sym, ap, ap₂, ◌∙◌, subst, arith}
use Rattle.std.proofs.lemmas.List.{append-nil}
use Rattle.std.proofs.lemmas.Int.{ints}
use Rattle.std.proofs.lemmas.Option.{same_Some}
use Rattle.cc_base.specs.declared.cells.CellTy.{CellTy}
use Rattle.cc_base.specs.declared.cells.CellTy.TheVariants as cell
use Rattle.cc_base.specs.Places.{Placed, field}
use Rattle.checked_memory.specs.declared.values.Cell.{Cell}
use Rattle.checked_memory.specs.declared.values.Value.TheVariants.{Int, Null, Block}
use Rattle.cc_laws.specs.LinearForms.{linear}
use Rattle.cc_model.specs.CheckedProgram.{cell_of}
use Rattle.cc_base.specs.Paths.{In}
use Rattle.cc_model.specs.Canonical.{Named, NamesOld}
use Rattle.cc_model.specs.Plain as plain
use Rattle.cc_model.specs.Traced as traced
use Rattle.cc_model.specs.Traced.{Shadow}
use Rattle.sym_run.specs.declared.symbols.Symbol.{Symbol}
use Rattle.sym_run.specs.declared.objects.First.{First}
use Rattle.sym_run.specs.declared.objects.Objects.{Objects}
use Rattle.checked_memory.specs.Contents.{Contents, TouchedBlock}
use Rattle.cc_model.specs.Core as core
use Rattle.sym_run.specs.Beside.{IsValue, value_of, shadow_by, shadow_of_symbol}
use Rattle.sym_run.specs.Blocks.{values_from}
use Rattle.sym_run.specs.Remembers.{cell_value, cell_shadow, IsNumber, Suits, IsPointed, IsKnown, Every, names_in, Remembers}
use Rattle.sym_run.specs.Accesses.{pointer_to, held, symbol_at, symbols_from, cells_from, MayHold, with_touched}
use Rattle.sym_run.proofs.MemoryLaws.{shadow_append, remembers_append}
use Rattle.sym_run.proofs.TouchLaws.{with_block, block_touched}
use Rattle.sym_run.proofs.ObjectLaws.{shadow_last}
use Rattle.sym_run.proofs.PointerLaws.{drop_past}

pub null_low : (z : ℤ) → z <ℤ pos 1 → Null ≡ pointer_to z
null_low (pos zero) h = refl
null_low (pos (suc n)) h = absurd (omega (arith, ints))
null_low (negsuc n) h = refl

pub block_high : (z : ℤ) → pos 1 ≤ℤ z → Block z 0 ≡ pointer_to z
block_high (pos zero) h = absurd (omega (arith, ints))
block_high (pos (suc n)) h = refl
block_high (negsuc n) h = absurd (omega (arith, ints))

-- ---- their values

held_value : (c : CellTy) (z : ℤ) → value_of (held c z) ≡ plain.value_at (cell_of c) z
unfolding plain.value_at
held_value cell.Int z = refl
held_value (cell.Ptr t) (pos zero) = refl
held_value (cell.Ptr t) (pos (suc n)) = refl
held_value (cell.Ptr t) (negsuc n) = refl

pub values_held : (n : ℕ) (cs : List CellTy) (zs : List ℤ) → map cell_value (cells_from n cs zs) ≡ values_from (map cell_of cs) zs
values_held n [] zs = refl
values_held n (c ∷ cs) [] = refl
values_held n (c ∷ cs) (z ∷ zs) = ap₂ (λ (v : plain.Value) (l : List plain.Value). v ∷ l) (held_value c z) (values_held (suc n) cs zs)

-- ---- what stands beside them

symbol_shadow : (c : CellTy) (m : ℕ) (cs : List CellTy) (l : List Shadow) → traced.cell_shadows linear (suc m) (map cell_of cs) ≡ l → (traced.cell_shadows linear m (map cell_of (c ∷ cs))) ≡ shadow_of_symbol (symbol_at m c) ∷ l
unfolding traced.cell_shadows
symbol_shadow cell.Int m cs l e = ap (λ (k : List Shadow). traced.form (linear.of m) ∷ k) e
symbol_shadow (cell.Ptr t) m cs l e = ap (λ (k : List Shadow). traced.place m t.0 ∷ k) e

pub shadows_held : (symbols : List Symbol) (m n : ℕ) (cs : List CellTy) (zs : List ℤ) → n ≡ suc (length symbols) → length cs ≤ length zs
    → traced.cell_shadows linear m (map cell_of cs) ≡ map (cell_shadow (symbols ++ symbols_from m cs)) (cells_from n cs zs)
unfolding traced.cell_shadows
shadows_held symbols m n [] zs e l = refl
shadows_held symbols m n (c ∷ cs) [] e l = absurd (omega (arith, l))
shadows_held symbols m n (c ∷ cs) (z ∷ zs) e l =
    let s : Symbol = symbol_at m c in
    let v : plain.Value = value_of (held c z) in
    let count = length-append symbols (s ∷ []) in
    let rest : traced.cell_shadows linear (suc m) (map cell_of cs) ≡ map (cell_shadow ((symbols ++ s ∷ []) ++ symbols_from (suc m) cs)) (cells_from (suc n) cs zs) = shadows_held (symbols ++ s ∷ []) (suc m) (suc n) cs zs (omega (arith, e, count)) (omega (arith, l)) in
    let here : shadow_by ((symbols ++ s ∷ []) ++ symbols_from (suc m) cs) n v ≡ shadow_of_symbol s = shadow_append (symbols ++ s ∷ []) (symbols_from (suc m) cs) n v (omega (arith, e, count)) ∙ shadow_last symbols s n v e in
    symbol_shadow c m cs _ rest
    ∙ ap (λ (x : Shadow). x ∷ map (cell_shadow ((symbols ++ s ∷ []) ++ symbols_from (suc m) cs)) (cells_from (suc n) cs zs)) (sym here)
    ∙ ap (λ (k : List Symbol). map (cell_shadow k) (cells_from n (c ∷ cs) (z ∷ zs))) (append_assoc symbols (s ∷ []) (symbols_from (suc m) cs))

-- ---- one cell after another

drop_item : {A : Type 0} (l : List A) (i : ℕ) (x : A) → slice_get l i ≡ Some x → drop i l ≡ x ∷ drop (i + 1) l
drop_item {A = A} [] i x h = absurd (cc h)
drop_item {A = A} (y ∷ l) zero x h = ap (λ (a : A). a ∷ l) (same_Some y x h)
drop_item {A = A} (y ∷ l) (suc i) x h = drop_item l i x h ∙ ap (λ (n : ℕ). x ∷ drop n (y ∷ l)) (let e : suc (i + 1) ≡ suc i + 1 = omega arith in e)

module _ (layout : List CellTy) (i : ℕ) (c : CellTy) (there : slice_get layout i ≡ Some c) where
  pub cells_step : (cs r : List Cell) (numbers : List ℤ) (z : ℤ) (n k : ℕ) → slice_get numbers i ≡ Some z → k ≡ suc n → cs ++ cells_from n (drop i layout) (drop i numbers) ≡ r
      → (cs ++ record { value = held c z; shadow = n } ∷ []) ++ cells_from k (drop (i + 1) layout) (drop (i + 1) numbers) ≡ r
  cells_step cs r numbers z n k at next h =
      let d : Cell = record { value = held c z; shadow = n } in
      append_assoc cs (d ∷ []) (cells_from k (drop (i + 1) layout) (drop (i + 1) numbers))
      ∙ ap (λ (m : ℕ). cs ++ d ∷ cells_from m (drop (i + 1) layout) (drop (i + 1) numbers)) next
      ∙ sym (ap₂ (λ (a : List CellTy) (b : List ℤ). cs ++ cells_from n a b) (drop_item layout i c there) (drop_item numbers i z at)) ∙ h

  pub places_step : (first : ℕ) (ps r : List Placed) → ps ++ traced.field_places first i (map cell_of (drop i layout)) ≡ r
      → (ps ++ record { place = field first i; holds = c } ∷ []) ++ traced.field_places first (i + 1) (map cell_of (drop (i + 1) layout)) ≡ r
  unfolding traced.field_places traced.cell_ty
  places_step first ps r h =
      let next : i + 1 ≡ suc i = omega arith in
      let p : Placed = record { place = field first i; holds = c } in
      append_assoc ps (p ∷ []) (traced.field_places first (i + 1) (map cell_of (drop (i + 1) layout)))
      ∙ ap₂ (λ (m : ℕ) (t : CellTy). ps ++ (let q : Placed = record { place = field first i; holds = t } in q) ∷ traced.field_places first m (map cell_of (drop (i + 1) layout))) next (same_ty c)
      ∙ sym (ap (λ (a : List CellTy). ps ++ traced.field_places first i (map cell_of a)) (drop_item layout i c there)) ∙ h
    where
      same_ty : (t : CellTy) → t ≡ traced.cell_ty (cell_of t)
      same_ty cell.Int = refl
      same_ty (cell.Ptr t) = refl

  pub symbols_step : (ss r : List Symbol) (m k : ℕ) → k ≡ suc m → ss ++ symbols_from m (drop i layout) ≡ r → (ss ++ symbol_at m c ∷ []) ++ symbols_from k (drop (i + 1) layout) ≡ r
  symbols_step ss r m k next h =
      append_assoc ss (symbol_at m c ∷ []) (symbols_from k (drop (i + 1) layout))
      ∙ ap (λ (n : ℕ). ss ++ symbol_at m c ∷ symbols_from n (drop (i + 1) layout)) next
      ∙ sym (ap (λ (a : List CellTy). ss ++ symbols_from m a) (drop_item layout i c there)) ∙ h

pub all_step : (layout : List CellTy) (numbers : List ℤ) (i first : ℕ) (c : CellTy) (y z : ℤ) (places ps rp : List Placed) (symbols ss rs : List Symbol) (cells cs rc : List Cell) (new : Cell)
    → ps ≡ places ++ record { place = field first i; holds = c } ∷ [] → slice_get layout i ≡ Some c → Some z ≡ slice_get numbers i → ss ≡ symbols ++ symbol_at (length places) c ∷ []
    → new ≡ record { value = held c y; shadow = suc (length symbols) } → y ≡ z → cs ≡ cells ++ new ∷ []
    → cells ++ cells_from (suc (length symbols)) (drop i layout) (drop i numbers) ≡ rc → places ++ traced.field_places first i (map cell_of (drop i layout)) ≡ rp → symbols ++ symbols_from (length places) (drop i layout) ≡ rs → first < length places
    → (cs ++ cells_from (suc (length ss)) (drop (i + 1) layout) (drop (i + 1) numbers) ≡ rc) × (ps ++ traced.field_places first (i + 1) (map cell_of (drop (i + 1) layout)) ≡ rp) × (ss ++ symbols_from (length ps) (drop (i + 1) layout) ≡ rs) × (first < length ps)
all_step layout numbers i first c y z places ps rp symbols ss rs cells cs rc new placed there at grown made same pushed hc hp hs below =
    let more : length ss ≡ suc (length symbols) = omega (arith, ap length grown, length-append symbols (symbol_at (length places) c ∷ [])) in
    let wide : length ps ≡ suc (length places) = omega (arith, ap length placed, length-append places ((let p : Placed = record { place = field first i; holds = c } in p) ∷ [])) in
    let it : cs ≡ cells ++ record { value = held c z; shadow = suc (length symbols) } ∷ [] = pushed ∙ ap (λ (x : Cell). cells ++ x ∷ []) (made ∙ ap (λ (x : ℤ). (let q : Cell = record { value = held c x; shadow = suc (length symbols) } in q)) same) in (
      subst (λ (l : List Cell). l ++ cells_from (suc (length ss)) (drop (i + 1) layout) (drop (i + 1) numbers) ≡ rc) (sym it) (cells_step layout i c there cells rc numbers z (suc (length symbols)) (suc (length ss)) (sym at) (ap suc more) hc),
      subst (λ (l : List Placed). l ++ traced.field_places first (i + 1) (map cell_of (drop (i + 1) layout)) ≡ rp) (sym placed) (places_step layout i c there first places rp hp),
      subst (λ (l : List Symbol). l ++ symbols_from (length ps) (drop (i + 1) layout) ≡ rs) (sym grown) (symbols_step layout i c there symbols rs (length places) (length ps) wide hs),
      omega (arith, below, wide),
    )

pub places_done : (first i : ℕ) (layout : List CellTy) (ps r : List Placed) → length layout ≤ i → ps ++ traced.field_places first i (map cell_of (drop i layout)) ≡ r → ps ≡ r
unfolding traced.field_places
places_done first i layout ps r h e = sym (append-nil ps) ∙ sym (ap (λ (l : List CellTy). ps ++ traced.field_places first i (map cell_of l)) (drop_past layout i h)) ∙ e

-- ---- what is known of them

module _ (named : List Named) (touched : List ℕ) where
  pointer_known : (t n : ℕ) (z : ℤ) (s : Shadow) → NamesOld named t z → s ≡ traced.place n t → IsPointed named touched s (pointer_to z)
  pointer_known t n (pos zero) s h e = tt
  pointer_known t n (pos (suc k)) s (inl q) e = absurd (cc q)
  pointer_known t n (pos (suc k)) s (inr q) e = inr (record { by = n; type = t; begins = refl; beside = e; listed = subst (λ (x : Named). In x named) (let f : (q.0).address ≡ suc k = pos_same (suc k) (q.0).address q.2 in named_is q.0 (suc k) t f q.3) q.1 })
    where
      pos_same : (a b : ℕ) → pos a ≡ pos b → b ≡ a
      pos_same a b f = cc f

      named_is : (x : Named) (a u : ℕ) → x.address ≡ a → x.type ≡ u → x ≡ record { address = a; type = u }
      named_is x a u f g = ap₂ (λ (p q : ℕ). (let y : Named = record { address = p; type = q } in y)) f g
  pointer_known t n (negsuc k) s h e = tt

  pointer_value : (z : ℤ) → IsValue (pointer_to z)
  pointer_value (pos zero) = tt
  pointer_value (pos (suc n)) = omega (arith, ints)
  pointer_value (negsuc n) = tt

  pointer_kind : (z : ℤ) → IsNumber (pointer_to z) → ⊥
  pointer_kind (pos zero) h = h
  pointer_kind (pos (suc n)) h = h
  pointer_kind (negsuc n) h = h

  pub cell_known : (symbols : List Symbol) (c : CellTy) (z : ℤ) (m n : ℕ) → MayHold named c z → n ≤ length symbols → shadow_by symbols n (value_of (held c z)) ≡ shadow_of_symbol (symbol_at m c) → IsKnown named touched symbols (record { value = held c z; shadow = n })
  cell_known symbols cell.Int z m n h l e = record { cell = record { known = l; value = h }; kind = subst (λ (s : Shadow). Suits s (Int z)) (sym e) tt; pointer = tt }
  cell_known symbols (cell.Ptr t) z m n h l e = record {
    cell = record { known = l; value = pointer_value z };
    kind = subst (λ (s : Shadow). Suits s (pointer_to z)) (sym e) (pointer_kind z);
    pointer = pointer_known t.0 m z (shadow_by symbols n (value_of (pointer_to z))) h e;
  }

  pub all_known : (symbols : List Symbol) (m n : ℕ) (cs : List CellTy) (zs : List ℤ) → n ≡ suc (length symbols) → length cs ≤ length zs
      → ((i : ℕ) (c : CellTy) (z : ℤ) → slice_get cs i ≡ Some c → slice_get zs i ≡ Some z → MayHold named c z)
      → Every (IsKnown named touched (symbols ++ symbols_from m cs)) (cells_from n cs zs)
  all_known symbols m n [] zs e l h = tt
  all_known symbols m n (c ∷ cs) [] e l h = absurd (omega (arith, l))
  all_known symbols m n (c ∷ cs) (z ∷ zs) e l h =
      let s : Symbol = symbol_at m c in
      let v : plain.Value = value_of (held c z) in
      let count = length-append symbols (s ∷ []) in
      let long = length-append (symbols ++ s ∷ []) (symbols_from (suc m) cs) in
      let here : shadow_by ((symbols ++ s ∷ []) ++ symbols_from (suc m) cs) n v ≡ shadow_of_symbol s = shadow_append (symbols ++ s ∷ []) (symbols_from (suc m) cs) n v (omega (arith, e, count)) ∙ shadow_last symbols s n v e in
      subst (λ (k : List Symbol). Every (IsKnown named touched k) (cells_from n (c ∷ cs) (z ∷ zs))) (append_assoc symbols (s ∷ []) (symbols_from (suc m) cs)) (
        cell_known ((symbols ++ s ∷ []) ++ symbols_from (suc m) cs) c z m n (h 0 c z refl refl) (omega (arith, e, count, long)) here,
        all_known (symbols ++ s ∷ []) (suc m) (suc n) cs zs (omega (arith, e, count)) (omega (arith, l)) (λ i d y a b. h (suc i) d y a b),
      )

-- what a touch comes to
pub touched_whole : (start : plain.Data) (named : List Named) (symbols S : List Symbol) (o : Objects) (d : traced.Data) (f : First) (layouts : ℕ → List core.Cell) (layout : List CellTy) (numbers : List ℤ) (a b : ℤ) (P : List Placed) (F : List First) (M : Contents) (cs : List Cell)
    → Remembers start named symbols o d → layouts f.ty.0 ≡ map cell_of layout → pos 0 ≤ℤ a → start.blocks (nat_abs a) ≡ values_from (map cell_of layout) numbers
    → ((i : ℕ) (c : CellTy) (z : ℤ) → slice_get layout i ≡ Some c → slice_get numbers i ≡ Some z → MayHold named c z) → length layout ≤ length numbers
    → S ≡ symbols ++ symbols_from (length o.places) layout → P ≡ o.places ++ traced.field_places f.place.0 0 (map cell_of layout) → F ≡ o.firsts ++ f ∷ [] → cs ≡ cells_from (suc (length symbols)) layout numbers
    → b ≡ a → M ≡ record { made = (o.memory).made; touched = (o.memory).touched ++ record { address = b; cells = cs } ∷ [] }
    → Remembers start named S (record { memory = M; firsts = F; places = P; taken = o.taken }) (with_touched layouts (nat_abs a) f d)
touched_whole start named symbols S o d f layouts layout numbers a b P F M cs r same low values hold enough grown placed pushed items at memory =
    let n : ℕ = suc (length symbols) in
    let more : List Symbol = symbols_from (length o.places) layout in
    let new : TouchedBlock = record { address = a; cells = cells_from n layout numbers } in
    let all : Remembers start named (symbols ++ more) (with_block o f new P) (with_touched layouts (nat_abs a) f d) =
    block_touched start named (symbols ++ more) o d (remembers_append start named symbols more o d r) layouts f new P low (values ∙ sym (values_held n layout numbers))
    (ap (λ (l : List core.Cell). traced.cell_shadows linear (length o.places) l) same ∙ shadows_held symbols (length o.places) n layout numbers refl enough)
    (ap (λ (l : List core.Cell). o.places ++ traced.field_places f.place.0 0 l) same ∙ sym placed)
    (all_known named (names_in o ++ nat_abs a ∷ []) symbols (length o.places) n layout numbers refl enough hold) in
    let it : M ≡ record { made = (o.memory).made; touched = (o.memory).touched ++ new ∷ [] } = memory ∙ ap₂ (λ (x : ℤ) (l : List Cell). (let m : Contents = record { made = (o.memory).made; touched = (o.memory).touched ++ (let t : TouchedBlock = record { address = x; cells = l } in t) ∷ [] } in m)) at items in
    subst (λ (l : List Symbol). Remembers start named l (record { memory = M; firsts = F; places = P; taken = o.taken }) (with_touched layouts (nat_abs a) f d)) (sym grown)
    (subst (λ (m : Contents). Remembers start named (symbols ++ more) (record { memory = m; firsts = F; places = P; taken = o.taken }) (with_touched layouts (nat_abs a) f d)) (sym it)
    (subst (λ (l : List First). Remembers start named (symbols ++ more) (record { memory = record { made = (o.memory).made; touched = (o.memory).touched ++ new ∷ [] }; firsts = l; places = P; taken = o.taken }) (with_touched layouts (nat_abs a) f d)) (sym pushed) all))
