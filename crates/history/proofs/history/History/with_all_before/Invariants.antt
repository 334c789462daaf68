use Rattle.std.proofs.Common.{◌≡◌}
use Rattle.history.proofs.Gathering.{ClosedBelow}
use Rattle.history.proofs.history.History.with_all_before.Given as goal

-- the members below the next have been gone through
abbrev pub invariant-loop-z : goal.invariant-loop-z
invariant-loop-z l =
    (goal.iterator-loop-z).can_next l.z-iterator
    × (goal.iterator-loop-z).is_finite l.z-iterator
    × (l.z-iterator.set ≡ l.initial.all)
    × ClosedBelow l.z-iterator.from l.initial.all.bits l.self.before l.all.bits
