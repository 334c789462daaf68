-- What the iterator over the members of a set gives.
use Rattle.std.specs.Prelude.{◌≡◌, ℕ, ◌+◌, ◌<◌, Option, MatchOption}
use Rattle.history.specs.declared.opset.Members.{Members}
use Rattle.history.specs.Sets.{Next}

-- the next member, which is below 16, and then those above it
abbrev pub Gives : Members → Option ℕ → Members → Type 0
Gives s given t = (t.set ≡ s.set) × Next s.set.bits s.from given × MatchOption given (t.from ≡ s.from) (λ i. (t.from ≡ i + 1) × (i < 16))
