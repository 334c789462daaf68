use Rattle.std.proofs.Common.{◌≡◌, ◌-◌, List, length, string_bytes}
use Rattle.std.specs.List.{flat_map}
use Rattle.trace.specs.declared.records.Placed.{Placed}
use Rattle.trace.proofs.Tiling.{Passed}
use Rattle.listing.specs.Lines.{line}
use Rattle.listing.proofs.lines.all_lines.Given as goal

-- the records up to the reader's place are counted and have their lines
abbrev pub invariant-loop-placed : goal.invariant-loop-placed
invariant-loop-placed l = (ps : List Placed) × Passed l.trace l.reader l.count ps × (string_bytes l.text ≡ flat_map line ps)

abbrev pub decreases-loop-placed : goal.decreases-loop-placed
decreases-loop-placed l = length l.reader.trace.now - l.reader.at
