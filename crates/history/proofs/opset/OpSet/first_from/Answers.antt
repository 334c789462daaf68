use Rattle.std.proofs.Common.{arith}
use Rattle.history.proofs.opset.OpSet.first_from.Goals as goal
use Rattle.history.proofs.Membership.{has_below, lowest_from}

pub returns-then-n-ge-WIDTH-clause-lowest : goal.returns-then-n-ge-WIDTH-clause-lowest
returns-then-n-ge-WIDTH-clause-lowest c = λ j a h. omega (arith, has_below 16 c.args.self.bits j (omega arith) h)

pub returns-clause-bound : goal.returns-clause-bound
returns-clause-bound c =
    let s = c.args.self.bits in
    has_below 16 s _ (omega arith) (lowest_from s c.args.n (omega arith) (omega arith)).1
