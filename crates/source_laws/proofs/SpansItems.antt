-- The expressions of a program have tokens of their own, item by item.
use Rattle.std.proofs.Common.{ℕ, ◌≤◌, Bool, List, flat_map, Option, sym, subst, arith}
use Rattle.cc_model.specs.declared.tokens.Token.{Token}
use Rattle.cc_model.specs.declared.tokens.Kind.{Kind}
use Rattle.cc_model.specs.declared.trees.ResultType.{ResultType}
use Rattle.cc_model.specs.declared.trees.Field.{Field}
use Rattle.cc_model.specs.declared.trees.Param.{Param}
use Rattle.cc_model.specs.declared.trees.ProtoParam.{ProtoParam}
use Rattle.cc_model.specs.declared.trees.StartValue.{StartValue}
use Rattle.cc_model.specs.declared.trees.GlobalPart.{GlobalPart}
use Rattle.cc_model.specs.declared.trees.Item.{Item}
use Rattle.cc_model.specs.declared.trees.Program.{Program}
use Rattle.cc_model.specs.Spots.{Spot, kind_at}
use Rattle.cc_model.specs.ReadStatements as rs
use Rattle.cc_model.specs.ReadItems as ri
use Rattle.cc_model.specs.Reads.{Reads}
use Rattle.cc_model.specs.CheckedProgram.{item_expressions, expressions_of_part, expression_tokens}
use Rattle.source_laws.specs.Tokens.{times}
use Rattle.source_laws.proofs.Counting.{Spans, spans_none, spans_wider, spans_last}
use Rattle.source_laws.proofs.Spans.{base_on, typed_on, Between}
use Rattle.source_laws.proofs.SpansBodies.{of_part, of_item, toks_each, declares_on, block}

module _ (tok : ℕ → Option Kind) (fits : ℕ → ℕ → Bool) where
  -- what is read ends no earlier than it begins
  abbrev Goes : {A : Type 0} → (Spot → Spot → A → Type 0) → Type 0
  Goes {A = A} R = (s t : Spot) (a : A) → R s t a → s.at ≤ t.at

  commas_on : {A : Type 0} {R : Spot → Spot → A → Type 0} {s t : Spot} {l : List A} → Goes R → rs.Commas tok fits A R s t l → s.at ≤ t.at
  commas_on g (rs.first {s = s} {t = t} {a = a} h) = g s t a h
  commas_on g (rs.next {s = s} {t = t} {u = u} {a = a} h i k) = let x = commas_on g h in let y = g _ u a k in omega (arith, x, y)

  line_on : {s t : Spot} {f : Field} → ri.FieldLine tok fits s t f → s.at ≤ t.at
  line_on (ri.line b h i) = let e = base_on tok fits b in let x = commas_on (λ s t d k. declares_on tok fits k) h in omega (arith, e, x)

  lines_on : {s t : Spot} {l : List Field} → ri.FieldLines tok fits s t l → s.at ≤ t.at
  lines_on (ri.first h) = line_on h
  lines_on (ri.next h k) = let x = lines_on h in let y = line_on k in omega (arith, x, y)

  fields_on : {s t : Spot} {l : List Field} → ri.Fields tok fits s t l → s.at ≤ t.at
  fields_on (ri.braces i h j) = let x = lines_on h in omega (arith, x)

  start_on : {s t : Spot} {v : StartValue} → ri.Start tok fits s t v → s.at ≤ t.at
  start_on (ri.number z i) = omega arith
  start_on (ri.negative z i j) = omega arith
  start_on (ri.null i) = omega arith

  global_on : {s t : Spot} {p : GlobalPart} → ri.Global tok fits s t p → s.at ≤ t.at
  global_on (ri.plain h) = declares_on tok fits h
  global_on (ri.starts h i k) = let x = declares_on tok fits h in let y = start_on k in omega (arith, x, y)

  returns_on : {s t : Spot} {r : ResultType} → ri.Returns tok fits s t r → s.at ≤ t.at
  returns_on (ri.void i) = omega arith
  returns_on (ri.value h) = let x = typed_on tok fits h in omega (arith, x)

  parameter_on : {s t : Spot} {p : Param} → ri.Parameter tok fits s t p → s.at ≤ t.at
  parameter_on (ri.named h i) = let x = typed_on tok fits h in omega (arith, x)

  prototyped_on : {s t : Spot} {p : ProtoParam} → ri.Prototyped tok fits s t p → s.at ≤ t.at
  prototyped_on (ri.nameless h) = let x = typed_on tok fits h in omega (arith, x)
  prototyped_on (ri.named h i) = let x = typed_on tok fits h in omega (arith, x)

  listed_on : {A : Type 0} {R : Spot → Spot → A → Type 0} {s t : Spot} {l : List A} → Goes R → ri.Listed tok fits A R s t l → s.at ≤ t.at
  listed_on g ri.none = omega arith
  listed_on g (ri.void i) = omega arith
  listed_on g (ri.some h) = commas_on g h

  heading_on : {A : Type 0} {R : Spot → Spot → A → Type 0} {s t : Spot} {l : List A} → Goes R → ri.Heading tok fits A R s t l → s.at ≤ t.at
  heading_on g (ri.heading i j h k) = let x = listed_on g h in omega (arith, x)

  item_at : {s t : Spot} {i : Item} → ri.ItemAt tok fits s t i → Between tok fits s t (of_item i)
  item_at (ri.alias {s = s} a b c d e) = (omega arith, spans_none s.at _)
  item_at (ri.untagged {s = s} {t = t} a b h c d) = let x = fields_on h in (omega (arith, x), spans_none s.at _)
  item_at (ri.tagged {s = s} {t = t} a b c h d e) = let x = fields_on h in (omega (arith, x), spans_none s.at _)
  item_at (ri.struct {s = s} {t = t} a b h c) = let x = fields_on h in (omega (arith, x), spans_none s.at _)
  item_at (ri.globals {s = s} {u = u} b h i) = let e = base_on tok fits b in let x = commas_on (λ s t d k. global_on k) h in (omega (arith, e, x), spans_none s.at _)
  item_at (ri.function {s = s} {t = t} {u = u} {v = v} {b = b} r h k) =
      let e = returns_on r in let x = heading_on (λ s t d k. parameter_on k) h in let y = block tok fits k in let y0 = y.0 in
      (omega (arith, e, x, y0), subst (Spans s.at v.at) (sym (toks_each expressions_of_part b)) (spans_wider u.at v.at s.at v.at (flat_map of_part b) (omega (arith, e, x)) (omega arith) y.1))
  item_at (ri.prototype {s = s} {u = u} r h i) = let e = returns_on r in let x = heading_on (λ s t d k. prototyped_on k) h in (omega (arith, e, x), spans_none s.at _)

  items : {s t : Spot} {l : List Item} → ri.Items tok fits s t l → Between tok fits s t (flat_map of_item l)
  items (ri.none {s = s}) = (omega arith, spans_none s.at s.at)
  items (ri.more {s = s} {t = t} {u = u} {l = l} {i = i} h k) = let x = items h in let y = item_at k in let x0 = x.0 in let y0 = y.0 in
      (omega (arith, x0, y0), spans_last of_item s.at t.at t.at u.at l i x0 (omega arith) y0 x.1 y.1)

-- each token is that of one expression at most
pub tokens_once : (fits : ℕ → ℕ → Bool) (tokens : List Token) (p : Program) → Reads fits tokens p → (k : ℕ) → times k (expression_tokens p.items) ≤ 1
tokens_once fits tokens p h k = subst (λ l. times k l ≤ 1) (sym (toks_each item_expressions p.items)) (((items (kind_at tokens) fits h.items).1).once k)
