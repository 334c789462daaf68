use Rattle.std.proofs.Common.{arith, length-take}
use lib.Seq.{take-set-lt}
use Rattle.history.proofs.bounded.BoundedList.replaced.Goals as goal

pub returns : goal.returns
returns g c = grind (arith, take-set-lt, length-take)
