use Rattle.std.proofs.Common.{◌++◌, Some, None, codes, decimal, sym, ap, ◌∙◌, subst, arith, rules}
use Rattle.std.proofs.Output.{has_written_of_eq}
use Rattle.std.proofs.lemmas.Grind.{put_two}
use Rattle.history.specs.Sets.{Next}
use Rattle.listing.specs.Words.{names_below}
use Rattle.listing.proofs.Names.{names_next, names_all}
use Rattle.listing.proofs.words.AfterDisplay.fmt.Goals as goal

pub loop-i-preserved : goal.loop-i-preserved
loop-i-preserved g c =
    let i = c.loop-i.invariant in
    let after = c.args.self.now.0.bits in
    let given = c.in-Some.ensures.steps in
    let moved = given.2 in
    let next : Next after c.loop-i.i-iterator.from (Some c.in-Some.i) = subst (λ s. Next s.bits c.loop-i.i-iterator.from (Some c.in-Some.i)) i.2 given.1 in (
      tt,
      tt,
      given.0 ∙ i.2,
      omega (arith, moved.0, moved.1),
      λ plain. put_two _ _ _ _ _ (codes " " ++ decimal c.in-Some.i) _ (i.4 plain) (search rules) (names_next after _ _ next ∙ ap (λ n. names_below n after) (sym moved.0)),
    )

pub returns-clause-writes : goal.returns-clause-writes
returns-clause-writes g c = λ plain ok.
    let i = c.loop-i.invariant in
    let after = c.args.self.now.0.bits in
    let none : Next after c.loop-i.i-iterator.from None = subst (λ s. Next s.bits c.loop-i.i-iterator.from None) i.2 c.in-None.ensures.steps.1 in
    has_written_of_eq _ _ _ _ _ (names_all after _ (λ e. search rules) i.3 none) (i.4 plain)
