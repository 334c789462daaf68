use Rattle.std.proofs.Common.{◌<◌, length, ◌∙◌, arith}
use Rattle.std.proofs.lemmas.List.{take_all}
use Rattle.history.specs.Recorded.{log}
use Rattle.history.specs.Steps.{none}
use Rattle.history.proofs.Running.{replays, actions_told, runs_told}
use Rattle.history.proofs.runs.take_all.Goals as goal

pub loop-attempt-init : goal.loop-attempt-init
loop-attempt-init c = grind (arith, none)

pub loop-attempt-preserved : goal.loop-attempt-preserved
loop-attempt-preserved c =
    let attempts = c.loop-attempt.attempts in
    let i = c.loop-attempt.attempt-index in
    let l : i < length attempts = omega arith in (
      actions_told attempts i _ c.take.result l ∙ c.loop-attempt.invariant.0,
      runs_told attempts i _ c.take.result l c.loop-attempt.invariant.1 c.take.ensures,
    )

pub returns : goal.returns
returns c =
    let attempts = c.loop-attempt.attempts in
    grind (arith, take_all, replays c.args.attempts.now attempts (log c.loop-attempt.history))
