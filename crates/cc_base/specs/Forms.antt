-- Forms and atoms as plain data: what a run knows of its input. They are this project's own.
use Rattle.std.specs.Prelude.{ℕ, ℤ, List}
pub use Rattle.cc_base.specs.declared.forms.Multiple.{Multiple}

-- a constant and multiples of places, ascending by place, none of them zero
pub record Form : Type 0 where
  pub constant : ℤ
  pub terms : List Multiple

-- a side of a pointer atom: NULL, or the value of a place
pub data Side : Type 0 where
  nothing : Side
  at : (place : ℕ) → Side

-- what is asked of an input: that a form is at most 0, is 0, or isn't 0, that two pointers are the same, or differ
pub data Atom : Type 0 where
  at_most_zero : (g : Form) → Atom
  is_zero : (g : Form) → Atom
  not_zero : (g : Form) → Atom
  same : (a b : Side) → Atom
  differ : (a b : Side) → Atom
