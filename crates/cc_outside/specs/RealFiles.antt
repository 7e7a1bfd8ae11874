-- What clauses see of the files of the file system.
use Rattle.std.specs.Prelude.{ℕ}
use Rattle.cc_outside.specs.declared.real_files.RealFiles.{RealFiles}

-- the count of faults; this project's own
abbrev pub faults_of : {R File Dir : Type 0} → RealFiles R File Dir → ℕ
faults_of files = files.faults
