-- What the clauses of a search or a walk say of its items makes their words readable.
use Rattle.std.proofs.Common.{sym, subst, ℕ, ◌^◌, ◌<◌, inl, inr, List, length}
use Rattle.cc_base.specs.declared.inputs.Input.{Input}
use Rattle.cc_base.specs.declared.inputs.Test.{Test}
use Rattle.cc_base.specs.Limits.{Limits}
use Rattle.cc_base.specs.Paths.{Path, In}
use Rattle.cc_model.specs.Core.{Program}
use Rattle.cc_model.specs.Graphs.{PointsToCells}
use Rattle.cc_model.specs.Listing.{Item, test_item, past_item, stray_item, spent_item, unrun_item, WasRun}
use Rattle.cc_model.specs.Reads.{shallow}
use Rattle.cc_model.specs.Runs.{IsInput, params_of}
use Rattle.cc_model.specs.Source.{IsProgram, text_at}
use Rattle.cc_model.specs.Tested.{Real, tested}
use Rattle.cc_laws.proofs.Pointed.{points_to_cells}
use Rattle.input_map.proofs.ShortNumbers.{has_map}
use Rattle.replay.specs.ReportFiles.{AreBounds}
use Rattle.search_base.specs.Readable.{HasTestLine, CanBeRead}
use Rattle.report_laws.specs.Words.{HasShortNumbers, HasTestWords, HasItemWords}

-- of a program that the bytes are, each type that a pointer points to has a cell
points : (bytes entry : List ℕ) (p : Program) → IsProgram bytes entry p → PointsToCells p.layouts (params_of p)
points bytes entry p i = subst (λ q. PointsToCells q.layouts (params_of q)) (sym i.core) (points_to_cells i.checked (text_at bytes i.tokens) i.tokens entry shallow i.right i.read)

module _ (p : Program) (b : Limits) (well : PointsToCells p.layouts (params_of p)) (bounds : AreBounds b) where
  short_numbers : (h : Input) → IsInput p b h → length h.cells < 10 ^ 18 → HasShortNumbers h
  short_numbers h w few = let m = has_map b bounds.at_least bounds.at_most p.layouts (params_of p) h well w few in record { cells = m.cells; stream = m.stream }

  test_words : (t : Test) → Real (tested p b) t → HasTestLine t → HasTestWords t
  test_words t r h = record { bytes = h.bytes; line = h.line; input = short_numbers t.input r.within h.cells }

  item_words : (items : List Item) → ((t : Test) → WasRun t items → Real (tested p b) t) → ((i : Input) (w : Path) → In (unrun_item i w) items → IsInput p b i) →
      ((x : Item) → In x items → CanBeRead x) → (x : Item) → In x items → HasItemWords x
  item_words items real within read (test_item t) i = test_words t (real t (inl (inl i))) (read (test_item t) i)
  item_words items real within read (past_item t) i = test_words t (real t (inl (inr i))) (read (past_item t) i)
  item_words items real within read (stray_item t q) i = let r = read (stray_item t q) i in (test_words t (real t (inr (q, i))) r.0, r.1)
  item_words items real within read (spent_item q) i = read (spent_item q) i
  item_words items real within read (unrun_item h q) i = let r = read (unrun_item h q) i in (short_numbers h (within h q i) r.0, r.1)

-- the items of a program's runs have words that can be read
pub readable_items : (bytes entry : List ℕ) (p : Program) (b : Limits) (items : List Item) → IsProgram bytes entry p → AreBounds b →
    ((t : Test) → WasRun t items → Real (tested p b) t) → ((i : Input) (w : Path) → In (unrun_item i w) items → IsInput p b i) →
    ((x : Item) → In x items → CanBeRead x) → (x : Item) → In x items → HasItemWords x
readable_items bytes entry p b items source bounds real within read = item_words p b (points bytes entry p source) bounds items real within read
