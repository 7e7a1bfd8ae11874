-- Code that is added from its end, piece by piece.
use Rattle.std.proofs.Common.{◌≡◌, ℕ, suc, ◌+◌, ◌-◌, ◌<◌, ◌^◌, List, [], ◌∷◌, ◌++◌, length, map, reverse, refl, sym, ap, ◌∙◌, arith, append_assoc, length-append}
use Rattle.std.proofs.lemmas.List.{reverse-append, map-append}
use Rattle.cc_model.specs.declared.checked.Checked.{Checked}
use Rattle.cc_model.specs.Instructions.{Instruction, i_step}
use Rattle.tac_lower.specs.declared.instr.Instr.{Instr}
use Rattle.tac_lower.specs.declared.instr.Instr.TheVariants.{Step}
use Rattle.tac_lower.specs.Seen.{seen_by}
use Rattle.tac_lower.specs.Adding.{ordered, Adds}

ordered_append : (c : Checked) (total : ℕ) (l m : List Instr) → ordered c total (l ++ m) ≡ ordered c total m ++ ordered c total l
ordered_append c total l m =
    let see = seen_by c (λ behind. total - behind) in
    ap (λ z. reverse z) (map-append see l m) ∙ reverse-append (map see l) (map see m)

pub longer : (c : Checked) (old new : List Instr) (size : ℕ) (G : Type 0) (k : ℕ → ℕ → List Instruction) → Adds c old new size G k → length new ≡ length old + size
longer c old new size G k a = ap length a.is ∙ length-append old a.added ∙ ap (λ z. length old + z) a.many

-- one instruction
pub one : (c : Checked) (old new : List Instr) (i : Instr) (G : Type 0) → new ≡ old ++ i ∷ [] → Adds c old new 1 G (λ total pc. seen_by c (λ behind. total - behind) i ∷ [])
one c old new i G e = record { added = i ∷ []; is = e; many = refl; reads = λ g total pc h. refl }

-- one piece, and then another, which stands before it
pub two : (c : Checked) (old mid new : List Instr) (s t : ℕ) (G H : Type 0) (k m : ℕ → ℕ → List Instruction)
    → Adds c old mid s G k → Adds c mid new t H m → Adds c old new (t + s) (G × H) (λ total pc. m total pc ++ k total (pc + t))
two c old mid new s t G H k m a b = record {
  added = a.added ++ b.added;
  is = b.is ∙ ap (λ l. l ++ b.added) a.is ∙ append_assoc old a.added b.added;
  many = (let e = length-append a.added b.added in let f = a.many in let g = b.many in omega (arith, e, f, g));
  reads = λ x total pc h.
      (let n = longer c mid new t H m b in let e : (pc + t) + length mid ≡ total = omega (arith, n, h) in
      ordered_append c total a.added b.added ∙ ap (λ p. p ++ ordered c total a.added) (b.reads x.1 total pc h) ∙ ap (λ q. m total pc ++ q) (a.reads x.0 total (pc + t) e));
}

-- the same in other words
pub turned : (c : Checked) (old new : List Instr) (s t : ℕ) (G H : Type 0) (k m : ℕ → ℕ → List Instruction)
    → Adds c old new s G k → s ≡ t → (H → G) → (H → (total pc : ℕ) → pc + length new ≡ total → k total pc ≡ m total pc) → Adds c old new t H m
turned c old new s t G H k m a e f g = record {
  added = a.added;
  is = a.is;
  many = a.many ∙ e;
  reads = λ x total pc h. a.reads (f x) total pc h ∙ g x total pc h;
}
