use Rattle.std.proofs.Common.{arith}
use Rattle.std.proofs.lemmas.Grind.{common_steps}
use Rattle.trace.proofs.Tiling.{passed_more}
use Rattle.listing.proofs.lines.all_lines.Goals as goal

pub loop-placed-preserved : goal.loop-placed-preserved
loop-placed-preserved c = (_, passed_more c.loop-placed.invariant.1 _ c.in-Ok-Some.placed c.in-Ok-Some.ensures.trace (grind arith), grind (arith, common_steps))
