-- Two programs of one source are the same program.
use Rattle.std.proofs.Common.{◌≡◌, ℕ, Bool, List, Result, Ok, sym, subst}
use Rattle.cc_model.specs.declared.tokens.Token.{Token}
use Rattle.cc_model.specs.declared.checked.Checked.{Checked}
use Rattle.cc_model.specs.declared.trees.Program as source
use Rattle.cc_model.specs.Core.{Program}
use Rattle.cc_model.specs.Lexical.{tokens_of}
use Rattle.cc_model.specs.Reads.{Reads, Accepts}
use Rattle.cc_model.specs.Spots.{shallow}
use Rattle.cc_model.specs.Scopes.{Text}
use Rattle.cc_model.specs.CheckedProgram.{IsChecked, core_of}
use Rattle.cc_model.specs.Source.{IsProgram, text_at}
use Rattle.source_laws.specs.Renumbering.{Renumbers}
use Rattle.source_laws.specs.SameProgram.{SameProgram}
use Rattle.source_laws.specs.Settled.{IsSettled}
use Rattle.source_laws.specs.OneSource.{SettlesAll}
use Rattle.source_laws.proofs.Numberings.{r, renumbered}
use Rattle.source_laws.proofs.SameLayers.{same_program}

-- each with its own table, over the trees of either
pub renumbers : (text : ℕ → Text) (tokens : List Token) (entry : Text) (c d : Checked) → IsSettled c → IsChecked text tokens entry c → IsChecked text tokens entry d → c.program ≡ d.program
    → (n : ℕ → ℕ) × Renumbers n (core_of c) (core_of d)
renumbers text tokens entry c d settled ok fine e = from d.program e fine
  where
    from : (p : source.Program) → c.program ≡ p → IsChecked text tokens entry (record d { program = p }) → (n : ℕ → ℕ) × Renumbers n (core_of c) (core_of (record d { program = p }))
    from p i k = subst (λ p. IsChecked text tokens entry (record d { program = p }) → (n : ℕ → ℕ) × Renumbers n (core_of c) (core_of (record d { program = p }))) i
        (λ k. (r text tokens entry c d ok k, renumbered text tokens entry c d ok k settled)) k

same_ok : {X F : Type 0} (x : Result X F) (a b : X) → x ≡ Ok a → x ≡ Ok b → a ≡ b
same_ok x a b h k = cc (h, k)

abbrev pub OneTree : Type 0
OneTree = (fits : ℕ → ℕ → Bool) (tokens : List Token) (p q : source.Program) → Reads fits tokens p → Reads fits tokens q → p ≡ q

module _ (one : OneTree) (bytes entry : List ℕ) (all : SettlesAll bytes entry) where
  of_tokens : (k l : List Token) (c d : Checked) → k ≡ l → tokens_of bytes ≡ Ok k → Accepts k c.program → Accepts l d.program
      → IsChecked (text_at bytes k) k entry c → IsChecked (text_at bytes l) l entry d → SameProgram (core_of c) (core_of d)
  of_tokens k l c d e lexed a b ok fine =
      let b' = subst (λ t. Accepts t d.program) (sym e) b in
      let fine' = subst (λ t. IsChecked (text_at bytes t) t entry d) (sym e) fine in
      let n = renumbers (text_at bytes k) k entry c d (all k c lexed a ok) ok fine' (one shallow k c.program d.program a b') in
      same_program n.0 (core_of c) (core_of d) n.1

  pub one_program_at : (p q : Program) → IsProgram bytes entry p → IsProgram bytes entry q → SameProgram p q
  one_program_at p q h k = subst (λ x. SameProgram x q) (sym h.core) (subst (λ y. SameProgram (core_of h.checked) y) (sym k.core)
      (of_tokens h.tokens k.tokens h.checked k.checked (same_ok (tokens_of bytes) h.tokens k.tokens h.lexed k.lexed) h.lexed h.read k.read h.right k.right))
