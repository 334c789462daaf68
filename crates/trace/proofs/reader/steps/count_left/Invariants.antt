use Rattle.std.proofs.Common.{◌-◌, List, length}
use Rattle.trace.specs.declared.records.Placed.{Placed}
use Rattle.trace.proofs.Tiling.{Passed}
use Rattle.trace.proofs.reader.steps.count_left.Given as goal

-- so many records lead up to the reader's place
abbrev pub invariant-loop-count : goal.invariant-loop-count
invariant-loop-count l = (ps : List Placed) × Passed l.initial.reader.trace.now l.reader l.count ps

abbrev pub decreases-loop-count : goal.decreases-loop-count
decreases-loop-count l = length l.reader.trace.now - l.reader.at
