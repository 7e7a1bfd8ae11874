-- The source that `make N` builds, and how it is searched. All of it is this project's own.
use Rattle.std.specs.Prelude.{ℕ, zero, suc, pos, negsuc, List, [], ◌++◌, codes}
use Rattle.std.specs.Fmt.{decimal}
use Rattle.cc_base.specs.Limits.{Limits}
use Rattle.cc_model.specs.Report.{newline}

-- if (x <= I) return I;
abbrev pub branch_line : ℕ → List ℕ
branch_line i = codes "if (x <= " ++ decimal i ++ codes ") return " ++ decimal i ++ codes ";" ++ newline

-- so many such lines, the first of them for i
abbrev pub branch_lines : (i count : ℕ) → List ℕ
branch_lines i zero = []
branch_lines i (suc count) = branch_line i ++ branch_lines (suc i) count

-- a function of one number, with a branch for each number below n
abbrev pub made_source : ℕ → List ℕ
made_source n = codes "int f(int x) {" ++ newline ++ branch_lines 0 n ++ codes "return " ++ decimal n ++ codes ";" ++ newline ++ codes "}" ++ newline

-- the name of the tested function
abbrev pub made_entry : List ℕ
made_entry = codes "f"

-- the bounds where no option is given, and as many events as there are branches
abbrev pub made_bounds : ℕ → Limits
made_bounds n = record { lo = negsuc 2147483647; hi = pos 2147483647; depth = n; objects = 8; steps = 100000 }

-- the budget of a solve where none is given
abbrev pub made_budget : ℕ
made_budget = 20000
