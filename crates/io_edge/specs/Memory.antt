-- Sources and sinks in memory.
use Rattle.std.specs.Prelude.{ℕ, ◌-◌, List, [], ◌++◌, take, drop}
use Rattle.io_edge.specs.Causes.{next_count}

-- a source: what is left, how many bytes a read gives at most, which calls fail, how many calls were made and failed
pub record MemorySource : Type 0 where
  pub rest : List ℕ
  pub cut : ℕ
  pub fails : List ℕ
  pub calls : ℕ
  pub faults : ℕ

-- a source that was not read from
abbrev pub source_of : List ℕ → ℕ → List ℕ → MemorySource
source_of bytes cut fails = record { rest = bytes; cut = cut; fails = fails; calls = 0; faults = 0 }

-- a source after a read that gave so many bytes, and after one that failed
abbrev pub source_gave : MemorySource → ℕ → MemorySource
source_gave s n = record s { rest = drop n s.rest; calls = next_count s.calls }

abbrev pub source_failed : MemorySource → MemorySource
source_failed s = record s { calls = next_count s.calls; faults = next_count s.faults }

-- a sink: what was written, how many bytes more there is room for, how many bytes a write takes at most, which calls fail,
-- how many calls were made and failed
pub record MemorySink : Type 0 where
  pub written : List ℕ
  pub room : ℕ
  pub cut : ℕ
  pub fails : List ℕ
  pub calls : ℕ
  pub faults : ℕ

-- a sink that was not written to
abbrev pub sink_of : ℕ → ℕ → List ℕ → MemorySink
sink_of room cut fails = record { written = []; room = room; cut = cut; fails = fails; calls = 0; faults = 0 }

-- a sink after a write that took so many bytes of a piece, and after one that failed
abbrev pub sink_took : MemorySink → List ℕ → ℕ → MemorySink
sink_took s piece n = record s { written = s.written ++ take n piece; room = s.room - n; calls = next_count s.calls }

abbrev pub sink_failed : MemorySink → MemorySink
sink_failed s = record s { calls = next_count s.calls; faults = next_count s.faults }
