use Rattle.std.proofs.Common.{◌≡◌, ◌+◌, ◌<◌, Bool, length, sym, ap, subst, arith}
use Rattle.std.specs.Fn.{FnReturnsAt}
use Rattle.std.proofs.lemmas.Fn.{says_at}
use Rattle.history.specs.declared.operations.Operation.{Operation}
use Rattle.history.specs.Log.{at}
use Rattle.history.specs.Recorded.{log}
use Rattle.history.specs.Table.{Picks}
use Rattle.history.proofs.Gathering.{picks_more, picks_less}
use Rattle.history.proofs.history.History.operations_where.Goals as goal
use Rattle.history.proofs.history.History.operations_where.Goals.{then-test, else-test}

pub loop-x-preserved : goal.loop-x-preserved
loop-x-preserved g c =
    let l = c.loop-x in
    let items = c.operations-operation-items in
    let ops = log c.args.self.now in
    let Says : Operation → Bool → Type 0 = FnReturnsAt g.F.Fn c.args.test in
    let says : (b : Bool) → c.test.result ≡ b → Says (at ops l.x) b = λ b e. subst (λ o. Says o b) (ap (λ z. at z l.x) items.ensures.all) (says_at g.F.Fn c.test.ensures e) in
    let few : l.x < 16 = omega (arith, items.ensures.few, c.loop-x-test.true) in
    elim c.if-test.branch [
      | then-test w ↦ subst (λ s. Picks ops Says (l.x + 1) s.bits) (sym w.found-is) (picks_more ops Says l.x l.found.bits w.insert-found.result.bits few (says _ w.if-test.true) w.insert-found.ensures l.invariant)
      | else-test w ↦ subst (λ s. Picks ops Says (l.x + 1) s.bits) (sym w.found-is) (picks_less ops Says l.x l.found.bits (says _ w.if-test.false) l.invariant)
    ]

pub returns : goal.returns
returns g c =
    let ops = log c.args.self.now in
    let e : c.loop-x.x ≡ length ops = omega (arith, ap length c.operations-operation-items.ensures.all, c.loop-x.auto.x-end, c.loop-x-test.false) in
    subst (λ n. Picks ops (FnReturnsAt g.F.Fn c.args.test) n c.loop-x.found.bits) e c.loop-x.invariant
