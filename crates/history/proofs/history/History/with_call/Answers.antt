use Rattle.std.proofs.Common.{◌≡◌, length, arith, lit<, rules}
use Rattle.history.specs.Limits.{limit}
use Rattle.history.specs.Recorded.{log}
use Rattle.history.proofs.Keeping.{kept, kept_push, room}
use Rattle.history.proofs.history.History.with_call.Goals as goal

pub bounds-before-operations : goal.bounds-before-operations
bounds-before-operations c = grind (arith, room limit (log c.args.self) c.args.call c.requires)

pub with-requires : goal.with-requires
with-requires c = (lit< tt, room limit (log c.args.self) c.args.call c.requires)

pub invariant_of-result : goal.invariant_of-result
invariant_of-result c =
    let h = c.args.self in
    let slots : length h.before ≡ limit = search rules in
    let free = room limit (log h) c.args.call c.requires in
    let kept = kept_push limit (log h) h.before c.args.call c.requires (kept h) (omega (arith, slots, free)) c.before_call.result c.before_call.ensures in
    grind (arith, kept)
