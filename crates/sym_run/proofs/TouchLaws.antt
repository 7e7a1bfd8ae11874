-- What a newly touched block does to what a run's memory stands for.
use Rattle.std.proofs.Common.{◌≡◌, ℕ, pos, ◌≤ℤ◌, nat_eq, Bool, true, false, List, [], ◌∷◌, ◌++◌, length, length-append, map, refl, sym, ap, ap₂, ◌∙◌, subst, arith, if◌then◌else◌}
use Rattle.std.proofs.lemmas.List.{map_push}
use Rattle.cc_base.specs.Places.{Placed}
use Rattle.checked_memory.specs.declared.values.Cell.{Cell}
use Rattle.checked_memory.specs.Contents.{TouchedBlock}
use Rattle.cc_laws.specs.LinearForms.{linear}
use Rattle.cc_model.specs.Core as core
use Rattle.cc_model.specs.Plain as plain
use Rattle.cc_model.specs.Traced as traced
use Rattle.cc_model.specs.Traced.{Shadow, Touched}
use Rattle.cc_model.specs.Canonical.{Named}
use Rattle.sym_run.specs.declared.symbols.Symbol.{Symbol}
use Rattle.sym_run.specs.declared.objects.First.{First}
use Rattle.sym_run.specs.declared.objects.Objects.{Objects}
use Rattle.sym_run.specs.Remembers.{Every, cell_value, cell_shadow, name_of, names_in, cells_in, touched_seen, IsKnown, Remembers}
use Rattle.sym_run.specs.Accesses.{with_touched}
use Rattle.sym_run.proofs.MemoryLaws.{every_push, every_more, known_touched, same_numbers}

-- a block whose cells are those of the start may be added
cells_more : (x : ℕ) (s : List plain.Value) (bs : List TouchedBlock) (b : TouchedBlock) → (nat_eq x (name_of b) ≡ true → s ≡ map cell_value b.cells) → cells_in x s bs ≡ cells_in x s (bs ++ b ∷ [])
cells_more x s [] b h = pick (nat_eq x (name_of b)) refl
  where
    pick : (t : Bool) → nat_eq x (name_of b) ≡ t → s ≡ (if nat_eq x (name_of b) then map cell_value b.cells else s)
    pick true e = h e ∙ sym (ap (λ (t : Bool). if t then map cell_value b.cells else s) e)
    pick false e = sym (ap (λ (t : Bool). if t then map cell_value b.cells else s) e)
cells_more x s (c ∷ bs) b h = ap (λ (k : List plain.Value). if nat_eq x (name_of c) then map cell_value c.cells else k) (cells_more x s bs b h)

seen_push : (symbols : List Symbol) (fs : List First) (bs : List TouchedBlock) (f : First) (b : TouchedBlock) → length fs ≡ length bs
    → touched_seen symbols fs bs ++ record { first = f.place.0; type = f.ty.0; shadows = map (cell_shadow symbols) b.cells } ∷ [] ≡ touched_seen symbols (fs ++ f ∷ []) (bs ++ b ∷ [])
seen_push symbols [] [] f b l = refl
seen_push symbols [] (c ∷ bs) f b l = absurd (omega (arith, l))
seen_push symbols (g ∷ fs) [] f b l = absurd (omega (arith, l))
seen_push symbols (g ∷ fs) (c ∷ bs) f b l = ap (λ (k : List Touched). (let t : Touched = record { first = g.place.0; type = g.ty.0; shadows = map (cell_shadow symbols) c.cells } in t) ∷ k) (seen_push symbols fs bs f b (omega (arith, l)))

-- the state of the code with a touched block more
abbrev pub with_block : Objects → First → TouchedBlock → List Placed → Objects
with_block o f b places = record { memory = record { made = (o.memory).made; touched = (o.memory).touched ++ b ∷ [] }; firsts = o.firsts ++ f ∷ []; places = places; taken = o.taken }

module _ (start : plain.Data) (named : List Named) (symbols : List Symbol) (o : Objects) (d : traced.Data) (r : Remembers start named symbols o d) (layout : ℕ → List core.Cell) (f : First) (b : TouchedBlock) (places : List Placed) where
  more_known : (cs : List Cell) → Every (IsKnown named (names_in o) symbols) cs → Every (IsKnown named (names_in o ++ name_of b ∷ []) symbols) cs
  more_known cs h = every_more (IsKnown named (names_in o) symbols) (IsKnown named (names_in o ++ name_of b ∷ []) symbols) (λ c k. known_touched named (names_in o) (name_of b ∷ []) symbols c k) cs h

  pub block_touched : pos 0 ≤ℤ b.address
      → start.blocks (name_of b) ≡ map cell_value b.cells
      → traced.cell_shadows linear (length o.places) (layout f.ty.0) ≡ map (cell_shadow symbols) b.cells
      → o.places ++ traced.field_places f.place.0 0 (layout f.ty.0) ≡ places
      → Every (IsKnown named (names_in o ++ name_of b ∷ []) symbols) b.cells
      → Remembers start named symbols (with_block o f b places) (with_touched layout (name_of b) f d)
  unfolding traced.touch
  block_touched low values shadows placed known =
      let names : names_in o ++ name_of b ∷ [] ≡ map name_of ((o.memory).touched ++ b ∷ []) = sym (map_push name_of (o.memory).touched b) in record {
        made = r.made;
        blocks = λ x. r.blocks x ∙ cells_more x (start.blocks x) (o.memory).touched b (λ e. ap start.blocks (same_numbers x (name_of b) e) ∙ values);
        touched = ap (λ (l : List ℕ). l ++ name_of b ∷ []) r.touched ∙ names;
        stream = r.stream;
        base = r.base;
        count = r.count;
        made_shadows = r.made_shadows;
        touched_shadows =
            ap₂ (λ (l : List Touched) (s : List Shadow). l ++ (let t : Touched = record { first = f.place.0; type = f.ty.0; shadows = s } in t) ∷ []) r.touched_shadows (ap (λ (ps : List Placed). traced.cell_shadows linear (length ps) (layout f.ty.0)) r.places ∙ shadows)
            ∙ seen_push symbols o.firsts (o.memory).touched f b r.firsts;
        places = ap (λ (ps : List Placed). ps ++ traced.field_places f.place.0 0 (layout f.ty.0)) r.places ∙ placed;
        firsts = omega (arith, r.firsts, length-append o.firsts (f ∷ []), length-append (o.memory).touched (b ∷ []));
        addresses = every_push (λ (c : TouchedBlock). pos 0 ≤ℤ c.address) (o.memory).touched b r.addresses low;
        made_cells = subst (λ (l : List ℕ). Every (Every (IsKnown named l symbols)) (o.memory).made) names (every_more (Every (IsKnown named (names_in o) symbols)) (Every (IsKnown named (names_in o ++ name_of b ∷ []) symbols)) more_known (o.memory).made r.made_cells);
        touched_cells = subst (λ (l : List ℕ). Every (λ (c : TouchedBlock). Every (IsKnown named l symbols) c.cells) ((o.memory).touched ++ b ∷ [])) names
            (every_push (λ (c : TouchedBlock). Every (IsKnown named (names_in o ++ name_of b ∷ []) symbols) c.cells) (o.memory).touched b
            (every_more (λ (c : TouchedBlock). Every (IsKnown named (names_in o) symbols) c.cells) (λ (c : TouchedBlock). Every (IsKnown named (names_in o ++ name_of b ∷ []) symbols) c.cells) (λ c h. more_known c.cells h) (o.memory).touched r.touched_cells) known);
      }
