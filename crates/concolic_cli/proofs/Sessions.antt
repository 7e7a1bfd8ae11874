-- What a session that lists comes to, and what `make` does.
use Rattle.std.specs.Prelude.{option_copied}
use Rattle.std.proofs.Common.{◌≡◌, ℕ, ◌+◌, List, Option, None, Some, option_map, Bor, refl, ap, subst, ◌∙◌}
use Rattle.cc_base.specs.Limits.{Limits}
use Rattle.cc_base.specs.Paths.{Path}
use Rattle.cc_model.specs.CheckedProgram.{core_of}
use Rattle.cc_model.specs.Report.{report_text}
use Rattle.cc_outside.specs.Held.{Held}
use Rattle.cc_outside.specs.Told.{appended, WritesPart}
use Rattle.concolic_cli.specs.declared.prepared.Compiled.{Compiled}
use Rattle.concolic_cli.specs.Compiling.{IsCompiled, WroteListing, WroteSome, IsLastLine}
use Rattle.concolic_cli.specs.Made.{made_source, made_entry, made_bounds, made_budget}
use Rattle.concolic_cli.specs.Loaded.{ReadAs}
use Rattle.concolic_cli.specs.Session.{Wrote, WroteFirst, WroteLast, WroteLastFirst}
use Rattle.concolic_cli.specs.Tasks.{list, MakesAs}
use Rattle.concolic_cli.proofs.Causes.{program_of}

-- a path that is lent is the path
pub lent : {T : Type 0} → (o : Option (Bor T)) (p q : Option T) → option_copied o ≡ p → p ≡ q → option_map (λ r. r.now) o ≡ q
lent None p q e f = e ∙ f
lent (Some r) p q e f = e ∙ f

module _ (held : Option Held) (old new : Option (List ℕ)) (file entry bytes bytes' : List ℕ) (b : Limits) (runs budget : ℕ) (after : Option Path) (same : bytes' ≡ bytes) (read : ReadAs held file bytes)
    (c : Compiled) (is : IsCompiled bytes' entry c) where
  is_compiled : IsCompiled bytes entry c
  is_compiled = subst (λ u. IsCompiled u entry c) same is

  pub list_written : (given : Option Path) (status : ℕ) → given ≡ after → WroteListing c.checked b given old new runs budget status → Wrote held old new (record { file = file; entry = entry; work = list b runs budget after }) status
  list_written given status path w = by_path (subst (λ a. WroteListing c.checked b a old new runs budget status) path w)
    where
      by_path : WroteListing c.checked b after old new runs budget status → Wrote held old new (record { file = file; entry = entry; work = list b runs budget after }) status
      by_path w = record {
        bytes = bytes;
        text = report_text w.listing;
        read = read;
        report = record { program = core_of c.checked; listing = w.listing; source = program_of bytes entry is_compiled.tokens c.checked is_compiled.reads; lists = w.lists; text_is = refl; verdict = w.verdict };
        written = w.written;
      }

  pub list_begun : (given : Option Path) → given ≡ after → WroteSome c.checked b given old new → WroteFirst held old new (record { file = file; entry = entry; work = list b runs budget after })
  list_begun given path w = by_path (subst (λ a. WroteSome c.checked b a old new) path w)
    where
      by_path : WroteSome c.checked b after old new → WroteFirst held old new (record { file = file; entry = entry; work = list b runs budget after })
      by_path w = record {
        bytes = bytes;
        text = report_text w.listing;
        read = read;
        may = record { program = core_of c.checked; listing = w.listing; source = program_of bytes entry is_compiled.tokens c.checked is_compiled.reads; bounds = w.bounds; sound = w.sound; text_is = refl };
        written = w.written;
      }

-- the last line for the made source
pub makes_as : (n runs : ℕ) (source entry text : List ℕ) (b : Limits) (c : Compiled) → source ≡ made_source n → entry ≡ made_entry → IsCompiled source entry c → b ≡ made_bounds n → runs ≡ n + 1 →
    IsLastLine c.checked b runs made_budget text → MakesAs n text
makes_as n runs source entry text b c same_source same_entry is same_bounds same_runs line =
    let i = subst (λ u. IsCompiled u made_entry c) same_source (subst (λ u. IsCompiled source u c) same_entry is) in
    let l = subst (λ k. IsLastLine c.checked (made_bounds n) k made_budget text) same_runs (subst (λ u. IsLastLine c.checked u runs made_budget text) same_bounds line) in
    record { program = core_of c.checked; listing = l.listing; source = program_of (made_source n) made_entry i.tokens c.checked i.reads; lists = l.lists; text_is = l.text_is }

pub line_written : (n : ℕ) (old new : Option (List ℕ)) (text line : List ℕ) → line ≡ text → MakesAs n text → new ≡ appended old line → WroteLast n old new
line_written n old new text line same m w = record { text = text; makes = m; written = w ∙ ap (appended old) same }

pub line_begun : (n : ℕ) (old new : Option (List ℕ)) (text line : List ℕ) → line ≡ text → MakesAs n text → WritesPart old new line → WroteLastFirst n old new
line_begun n old new text line same m w = record { text = text; makes = m; written = subst (WritesPart old new) same w }
