use Rattle.std.proofs.Common.{arith}
use Rattle.history.specs.Bounded.{items}
use Rattle.history.proofs.Keeping.{kept, kept_filled}
use Rattle.history.proofs.history.History.with_reply.Goals as goal

pub invariant_of-result : goal.invariant_of-result
invariant_of-result c = let h = c.args.self in grind (arith, kept_filled (items h.operations) h.before c.args.x c.args.reply (kept h))
