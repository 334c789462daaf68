use Rattle.std.proofs.Common.{subst}
use Rattle.history.specs.Sets.{Joins}
use Rattle.history.proofs.Gathering.{closed_turn}
use Rattle.history.proofs.history.History.with_all_before.Goals as goal

pub loop-z-preserved : goal.loop-z-preserved
loop-z-preserved c =
    let i = c.loop-z.invariant in
    let all = c.loop-z.all.bits in
    let more = c.union-all.result.bits in
    let t = closed_turn c.loop-z.z-iterator c.next.new.self c.in-Some.z c.args.direct c.args.self.now.before all more i.2 c.in-Some.ensures.steps i.3 (subst (λ s. Joins all s more) c.kept.ensures.bits c.union-all.ensures) in
    (tt, tt, t.0, t.1)
