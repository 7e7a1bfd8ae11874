-- The types of a function's locals are those of the first body of its name.
use Rattle.std.proofs.Common.{◌≡◌, ◌∙◌, ap, refl, ℕ, Bool, true, false, cond, List, [], ◌∷◌, map}
use Rattle.std.specs.Prelude.{Option, Some, find, bytes_eq}
use Rattle.cc_model.specs.declared.trees.Item.{Item}
use Rattle.cc_model.specs.declared.trees.Item.TheVariants as item
use Rattle.cc_model.specs.declared.typing.File.{File}
use Rattle.cc_model.specs.declared.typing.Before.{Before}
use Rattle.cc_model.specs.declared.typing.Function.{Function}
use Rattle.cc_model.specs.declared.typing.CType.{CType}
use Rattle.cc_model.specs.Scopes.{Text, after_item}
use Rattle.cc_model.specs.CheckedProgram.{declared_types, body_notes, slots_in}
use Rattle.c_rules.specs.declared.locals.Locals.{Locals}
use Rattle.c_rules.specs.BodyLocals.{locals_if, locals_named, bodies_in}

first_or : (c : Bool) (b : Locals) (s : List CType) (o : Option Locals) → locals_if o ≡ s → locals_if (cond c (Some b) o) ≡ cond c b.types s
first_or true b s o e = refl
first_or false b s o e = e

module _ (text : ℕ → Text) (file : File) where
  pub named_here : (before : Before) (name : Text) (items : List Item) → locals_named text name (bodies_in text file before items) ≡ slots_in text file before name items
  named_here before name [] = refl
  named_here before name (item.Func f ∷ l) = first_or (bytes_eq (text f.name) name) (record { name = f.name; types = declared_types (body_notes text file before f) })
      (slots_in text file (after_item text file.tags before (item.Func f)) name l) (find (λ (b : Locals). bytes_eq (text b.name) name) (bodies_in text file (after_item text file.tags before (item.Func f)) l))
      (named_here (after_item text file.tags before (item.Func f)) name l)
  named_here before name (item.Alias tag alias ∷ l) = named_here (after_item text file.tags before (item.Alias tag alias)) name l
  named_here before name (item.Struct definition ∷ l) = named_here (after_item text file.tags before (item.Struct definition)) name l
  named_here before name (item.Globals base parts ∷ l) = named_here (after_item text file.tags before (item.Globals base parts)) name l
  named_here before name (item.Prototype result function params ∷ l) = named_here (after_item text file.tags before (item.Prototype result function params)) name l

  pub all_named : (before : Before) (items : List Item) (l : List Function) →
      map (λ (f : Function). locals_named text f.name (bodies_in text file before items)) l ≡ map (λ (f : Function). slots_in text file before f.name items) l
  all_named before items [] = refl
  all_named before items (f ∷ l) = cc (named_here before f.name items, all_named before items l)

  pub by_bodies : (before : Before) (items : List Item) (bodies : List Locals) → bodies ≡ bodies_in text file before items →
      map (λ (f : Function). locals_named text f.name bodies) file.functions ≡ map (λ (f : Function). slots_in text file before f.name items) file.functions
  by_bodies before items bodies e = ap (λ (l : List Locals). map (λ (f : Function). locals_named text f.name l) file.functions) e ∙ all_named before items file.functions
