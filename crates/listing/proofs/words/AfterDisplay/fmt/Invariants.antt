use Rattle.std.proofs.Common.{◌≡◌, ◌≤◌}
use Rattle.std.specs.Fmt.{HasWritten, IsPlainFormatter}
use Rattle.listing.specs.Words.{names_below}
use Rattle.listing.proofs.words.AfterDisplay.fmt.Given as goal

-- the names below the next are written
abbrev pub invariant-loop-i : goal.invariant-loop-i
invariant-loop-i g l =
    (goal.iterator-loop-i g).can_next l.i-iterator
    × (goal.iterator-loop-i g).is_finite l.i-iterator
    × (l.i-iterator.set ≡ l.self.0)
    × (l.i-iterator.from ≤ 16)
    × (IsPlainFormatter l.fn.f → HasWritten g.W.Write.write_str_gives l.fn.f (names_below l.i-iterator.from l.self.0.bits) l.f)
