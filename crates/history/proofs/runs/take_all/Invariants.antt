use Rattle.std.proofs.Common.{◌≡◌, [], take}
use Rattle.history.specs.Recorded.{log}
use Rattle.history.specs.Steps.{Runs, actions}
use Rattle.history.proofs.runs.take_all.Given as goal

-- the actions are as they were, and those so far have their answers
abbrev pub invariant-loop-attempt : goal.invariant-loop-attempt
invariant-loop-attempt l =
    (actions l.attempts ≡ actions l.initial.attempts)
    × Runs [] (take l.attempt-index l.attempts) (log l.history)
