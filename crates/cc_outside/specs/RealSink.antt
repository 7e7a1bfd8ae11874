-- What clauses see of a sink over a stream.
use Rattle.std.specs.Prelude.{ℕ}
use Rattle.cc_outside.specs.declared.real_sink.RealSink.{RealSink}

-- the stream below; this project's own
abbrev pub writer_of : {W : Type 0} → RealSink W → W
writer_of sink = sink.writer

-- the count of faults; this project's own
abbrev pub faults_of : {W : Type 0} → RealSink W → ℕ
faults_of sink = sink.faults
