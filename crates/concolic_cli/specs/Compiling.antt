-- A source's program, checked, with its code, and what a search of it wrote.
use Rattle.std.specs.Prelude.{ℕ, ◌≡◌, List, map, Option, None}
use Rattle.cc_base.specs.Limits.{Limits}
use Rattle.cc_base.specs.Paths.{Path}
use Rattle.cc_model.specs.declared.checked.Checked.{Checked}
use Rattle.cc_model.specs.declared.tokens.Token.{Token}
use Rattle.cc_model.specs.CheckedProgram.{core_of}
use Rattle.cc_model.specs.Compiles as code
use Rattle.cc_model.specs.Graphs.{PointsToCells}
use Rattle.cc_model.specs.Listing.{Listing, Sound}
use Rattle.cc_model.specs.Report.{report_text, last_line, verdict_of}
use Rattle.cc_model.specs.Runs.{params_of}
use Rattle.cc_model.specs.Tested.{tested}
use Rattle.cc_outside.specs.Told.{appended, WritesPart}
use Rattle.tac_lower.specs.declared.tac.Tac.{Tac}
use Rattle.tac_lower.specs.Finished.{first_in}
use Rattle.tac_lower.specs.Seen.{seen}
use Rattle.concolic_cli.specs.declared.prepared.Compiled.{Compiled}
use Rattle.concolic_cli.specs.Listings.{IsListing}
use Rattle.concolic_cli.specs.Programs.{ReadsAs}

-- the code does what the checked program does
abbrev pub Compiles : Checked → Tac → Type 0
Compiles c t = code.Compiles (core_of c) (map (seen c) t.code) (λ f. first_in t f)

-- the program that the bytes are, and its code
pub record IsCompiled (bytes entry : List ℕ) (c : Compiled) : Type 0 where
  pub tokens : List Token
  pub reads : ReadsAs bytes entry tokens c.checked
  pub compiles : Compiles c.checked c.tac
  pub points : PointsToCells (core_of c.checked).layouts (params_of (core_of c.checked))

module _ (c : Checked) (b : Limits) (after : Option Path) (old new : Option (List ℕ)) where
  -- the report of a listing was written, and the status is its verdict
  pub record WroteListing (runs budget status : ℕ) : Type 0 where
    pub listing : Listing
    pub lists : IsListing c.sites (core_of c) b runs budget after listing
    pub written : new ≡ appended old (report_text listing)
    pub verdict : status ≡ verdict_of listing

  -- a first part of the report of sound items was written
  pub record WroteSome : Type 0 where
    pub listing : Listing
    pub bounds : listing.bounds ≡ b
    pub sound : Sound after (tested (core_of c) b) listing.items
    pub written : WritesPart old new (report_text listing)

-- the text is the last line of a listing of the program
pub record IsLastLine (c : Checked) (b : Limits) (runs budget : ℕ) (text : List ℕ) : Type 0 where
  pub listing : Listing
  pub lists : IsListing c.sites (core_of c) b runs budget None listing
  pub text_is : text ≡ last_line listing
