use Rattle.std.specs.Fn.{FnReturnsAt}
use Rattle.history.specs.Recorded.{log}
use Rattle.history.specs.Table.{Picks}
use Rattle.history.proofs.history.History.operations_where.Given as goal

abbrev pub invariant-loop-x : goal.invariant-loop-x
invariant-loop-x g l = Picks (log l.self) (FnReturnsAt g.F.Fn l.test) l.x l.found.bits
