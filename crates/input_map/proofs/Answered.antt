-- A text has one answer.
use Rattle.std.proofs.Common.{◌≡◌, ℕ, suc, length, [], ◌⊎◌, inl, inr, ℤ, List, Option, Some, None, Result, Ok, Err, sym, ap, ◌∙◌, subst}
use Rattle.cc_base.specs.declared.inputs.Input.{Input}
use Rattle.cc_base.specs.Limits.{Limits}
use Rattle.cc_model.specs.Core.{Cell, Program}
use Rattle.cc_model.specs.Runs.{params_of, IsInput}
use Rattle.input_map.specs.declared.faults.MapFault.{MapFault}
use Rattle.input_map.specs.declared.faults.MapFault.TheVariants.{Malformed, NoMemory}
use Rattle.input_map.specs.Maps.{IsMap, MalformedAt}
use Rattle.input_map.specs.CellFaults.{cells_fault, stream_fault, sooner, input_fault, Refused, Answers, IsOrNoMemory}
use Rattle.input_map.proofs.Forms.{one_map, no_map, one_place}
use Rattle.input_map.proofs.Judged.{canonical, no_fault}

module _ (p : Program) (b : Limits) (text : List ℕ) where
  abbrev fault_of : Input → Option MapFault
  fault_of h = input_fault p.layouts b (params_of p) h

  fault_here : (h k : Input) → IsMap text h → IsMap text k → fault_of h ≡ fault_of k
  fault_here h k m n = ap fault_of (one_map text h k m n)

  some_same : (f g : MapFault) → Some f ≡ Some g → f ≡ g
  some_same f g e = cc

  one_refusal : (f g : MapFault) → Refused p b text f → Refused p b text g → f ≡ g
  one_refusal f g (inl (n, e, m)) (inl (k, d, l)) = e ∙ ap (λ x. Malformed x) (one_place text n k m l) ∙ sym d
  one_refusal f g (inl (n, e, m)) (inr (h, i, d)) = absurd (no_map text n h m i)
  one_refusal f g (inr (h, i, d)) (inl (n, e, m)) = absurd (no_map text n h m i)
  one_refusal f g (inr (h, i, d)) (inr (k, j, e)) = some_same f g (sym d ∙ fault_here h k i j ∙ e)

  not_refused : (h : Input) (f : MapFault) → IsMap text h → IsInput p b h → Refused p b text f → ⊥
  not_refused h f m i (inl (n, e, l)) = no_map text n h l m
  not_refused h f m i (inr (k, j, e)) = let n = no_fault p.layouts b (params_of p) h i in let s = fault_here h k m j in let d : None ≡ Some f = sym n ∙ s ∙ e in cc d

  pub reads : (r : Result Input MapFault) → Answers p b text r → (h : Input) → IsMap text h → IsInput p b h → IsOrNoMemory r (Ok h)
  reads (Ok k) a h m i = inl (ap (λ x. Ok x) (one_map text k h a.0 m))
  reads (Err f) (inl e) h m i = inr (ap (λ x. Err x) e)
  reads (Err f) (inr e) h m i = absurd (not_refused h f m i e)

  pub refuses : (r : Result Input MapFault) → Answers p b text r → (f : MapFault) → Refused p b text f → IsOrNoMemory r (Err f)
  refuses (Ok k) a f e = absurd (not_refused k f a.0 a.1 e)
  refuses (Err g) (inl d) f e = inr (ap (λ x. Err x) d)
  refuses (Err g) (inr d) f e = inl (ap (λ x. Err x) (one_refusal g f d e))

  -- ---- from the parts

  pub of_form : (f : MapFault) → (f ≡ NoMemory) ⊎ ((n : ℕ) × (f ≡ Malformed n) × MalformedAt text n) → (f ≡ NoMemory) ⊎ Refused p b text f
  of_form f (inl e) = inl e
  of_form f (inr m) = inr (inl m)

  abbrev pub cells_of : List Cell → Input → Option MapFault
  cells_of params h = cells_fault p.layouts b params [] (suc (length params)) 1 h.cells

  pub of_cells : (h : Input) (params : List Cell) (f : MapFault) → IsMap text h → params ≡ params_of p → (f ≡ NoMemory) ⊎ (cells_of params h ≡ Some f) → (f ≡ NoMemory) ⊎ Refused p b text f
  of_cells h params f m e (inl d) = inl d
  of_cells h params f m e (inr d) = inr (inr (h, m, ap (λ o. sooner o (stream_fault b 1 h.stream)) (ap (λ ps. cells_of ps h) (sym e) ∙ d)))

  pub of_stream : (h : Input) (params : List Cell) (f : MapFault) → IsMap text h → params ≡ params_of p → cells_of params h ≡ None → (f ≡ NoMemory) ⊎ (stream_fault b 1 h.stream ≡ Some f) → (f ≡ NoMemory) ⊎ Refused p b text f
  of_stream h params f m e n (inl d) = inl d
  of_stream h params f m e n (inr d) = inr (inr (h, m, ap (λ o. sooner o (stream_fault b 1 h.stream)) (ap (λ ps. cells_of ps h) (sym e) ∙ n) ∙ d))

  pub of_input : (h : Input) (params : List Cell) → IsMap text h → params ≡ params_of p → cells_of params h ≡ None → stream_fault b 1 h.stream ≡ None → IsMap text h × IsInput p b h
  of_input h params m e n d = (m, canonical p.layouts b (params_of p) h (ap (λ o. sooner o (stream_fault b 1 h.stream)) (ap (λ ps. cells_of ps h) (sym e) ∙ n) ∙ d))

  pub whole : (cells stream cs ss kept : List ℤ) (params : List Cell) → IsMap text (record { cells = cells; stream = stream }) → cs ≡ cells → ss ≡ stream → kept ≡ ss → params ≡ params_of p
      → cells_fault p.layouts b params [] (suc (length params)) 1 cs ≡ None → stream_fault b 1 ss ≡ None
      → IsMap text (record { cells = cells; stream = kept }) × IsInput p b (record { cells = cells; stream = kept })
  whole cells stream cs ss kept params m e f g h n d =
      subst (λ st. IsMap text (record { cells = cells; stream = st }) × IsInput p b (record { cells = cells; stream = st })) (sym (g ∙ f))
      (of_input (record { cells = cells; stream = stream }) params m h (ap (cells_fault p.layouts b params [] (suc (length params)) 1) (sym e) ∙ n) (ap (stream_fault b 1) (sym f) ∙ d))
