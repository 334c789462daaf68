use Rattle.std.proofs.Common.{arith}
use Rattle.trace.proofs.Tiling.{counts, passed_more}
use Rattle.trace.proofs.reader.steps.count_left.Goals as goal

pub returns-in_err-next_record : goal.returns-in_err-next_record
returns-in_err-next_record c = counts _ c.loop-count.invariant.0 _ (grind arith)

pub loop-count-preserved : goal.loop-count-preserved
loop-count-preserved c = (_, passed_more c.loop-count.invariant.1 _ c.in-Some.field-0 c.in_ok-next_record.ensures.trace (grind arith))

pub returns : goal.returns
returns c = counts _ c.loop-count.invariant.0 _ (grind arith)
