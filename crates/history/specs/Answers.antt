-- What a reply answers, by its tag and its value.
use Rattle.std.specs.Prelude.{◌≡◌, ℕ, true, false, Ok, Err, Result}
use Rattle.history.specs.declared.answers.Answer.{Answer}
use Rattle.history.specs.declared.answers.Answer.TheVariants.{Nothing, Number, Truth}
use Rattle.history.specs.declared.answers.UnknownAnswer.{UnknownAnswer}
use Rattle.history.specs.Refusals.{Tagged}

-- the tag and the value of each answer
abbrev pub pair : Answer → ℕ × ℕ
pair Nothing = (0, 0)
pair (Number n) = (1, n)
pair (Truth false) = (2, 0)
pair (Truth true) = (2, 1)

-- what a reply tells: the answer with its tag and its value, or none where these do not go together
abbrev pub Tells : ℕ × ℕ → Result Answer UnknownAnswer → Type 0
Tells reply (Ok a) = pair a ≡ reply
Tells reply (Err _) = Tagged reply → ⊥
