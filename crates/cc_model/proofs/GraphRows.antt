-- Graphs of small inputs.
use Rattle.std.proofs.Common.{◌≡◌, ℕ, zero, suc, pos, List, [], ◌∷◌, refl}
use Rattle.cc_model.specs.Core.{Cell, int_cell, ptr_cell}
use Rattle.cc_model.specs.Plain.{names_new, target}
use Rattle.cc_model.specs.Graphs.{number, nil, pointer, content_of, contents, from_address, named_by, block_at, graph_of}

-- type 0 is a number and a pointer to the type itself
layouts : ℕ → List Cell
layouts zero = int_cell ∷ (ptr_cell 0 ∷ [])
layouts (suc n) = int_cell ∷ []

-- two pointers to one block, which ends its list
one_block : graph_of layouts (ptr_cell 0 ∷ (ptr_cell 0 ∷ [])) (record { cells = pos 3 ∷ (pos 3 ∷ (pos 7 ∷ (pos 0 ∷ []))); stream = pos 5 ∷ [] })
    ≡ record {
      params = pointer 3 ∷ (pointer 3 ∷ []);
      stream = pos 5 ∷ [];
      blocks = record { name = 3; type = 0; cells = number (pos 7) ∷ (nil ∷ []) } ∷ [];
    }
unfolding layouts graph_of named_by block_at contents content_of from_address names_new target
one_block = refl

-- a block whose pointer names a block that stands behind that of the second parameter
three_blocks : graph_of layouts (ptr_cell 0 ∷ (ptr_cell 1 ∷ [])) (record { cells = pos 3 ∷ (pos 5 ∷ (pos 7 ∷ (pos 6 ∷ (pos 8 ∷ (pos 9 ∷ (pos 3 ∷ [])))))); stream = [] })
    ≡ record {
      params = pointer 3 ∷ (pointer 5 ∷ []);
      stream = [];
      blocks = record { name = 3; type = 0; cells = number (pos 7) ∷ (pointer 6 ∷ []) }
          ∷ (record { name = 5; type = 1; cells = number (pos 8) ∷ [] }
          ∷ (record { name = 6; type = 0; cells = number (pos 9) ∷ (pointer 3 ∷ []) } ∷ []));
    }
unfolding layouts graph_of named_by block_at contents content_of from_address names_new target
three_blocks = refl
