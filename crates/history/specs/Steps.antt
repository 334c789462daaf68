-- How actions extend the log.
use Rattle.std.specs.Prelude.{◌≡◌, ℕ, List, [], ◌∷◌, ◌++◌, map, Some, Ok, Err, Result, slice_set}
use Rattle.history.specs.declared.operations.Action.{Action}
use Rattle.history.specs.declared.operations.Action.TheVariants.{Call, Reply, Clear}
use Rattle.history.specs.declared.operations.Attempt.{Attempt}
use Rattle.history.specs.declared.operations.HistoryFault.{HistoryFault}
use Rattle.history.specs.declared.operations.Operation.{Operation}
use Rattle.history.specs.Limits.{limit}
use Rattle.history.specs.Log.{at, By, Open, opened, answered}
use Rattle.history.specs.Order.{Lawful}
use Rattle.history.specs.Refusals.{CallMeets, ReplyMeets, Judged}

-- the open operation of a thread gets its reply
pub record Replied (log : List Operation) (thread : ℕ) (reply : ℕ × ℕ) (next : List Operation) : Type 0 where
  pub op : ℕ
  pub by : By log thread op
  pub pending : Open log op
  pub filled : next ≡ slice_set log op (answered (at log op) reply)

-- the log behind an action that is accepted
abbrev pub Extends : List Operation → Action → List Operation → Type 0
Extends log (Call c) next = next ≡ log ++ opened c ∷ []
Extends log (Reply thread reply) next = Replied log thread reply next
Extends log Clear next = next ≡ []

-- the conditions under which an action is refused; a clearing never is
abbrev pub Meets : List Operation → Action → HistoryFault → Type 0
Meets log (Call c) f = CallMeets limit log c f
Meets log (Reply thread reply) f = ReplyMeets log thread reply f
Meets log Clear f = ⊥

-- what may be answered to an action, and the log then: a refusal leaves it as it was
abbrev pub Follows : List Operation → Action → Result Unit HistoryFault → List Operation → Type 0
Follows log action (Ok _) next = Extends log action next
Follows log action (Err f) next = next ≡ log

-- an action, its answer and the next log
pub record Step (log : List Operation) (action : Action) (answer : Result Unit HistoryFault) (next : List Operation) : Type 0 where
  pub judged : Judged (Meets log action) answer
  pub follows : Follows log action answer next

-- one action after another, each with its answer, from one log to another
pub data Runs : List Operation → List Attempt → List Operation → Type 0 where
  none : {log : List Operation} → Runs log [] log
  more : {log mid end : List Operation} {a : Attempt} {rest : List Attempt} {answer : Result Unit HistoryFault} → a.answer ≡ Some answer → Step log a.action answer mid → Runs mid rest end → Runs log (a ∷ rest) end

-- what was attempted, whatever the answers
abbrev pub actions : List Attempt → List Action
actions attempts = map (λ a. a.action) attempts

-- actions with their answers on a new history: the answers and the last log are right, and no others are
pub record Replays (asked told : List Attempt) (end : List Operation) : Type 0 where
  pub same : actions told ≡ actions asked
  pub right : Runs [] told end
  pub only : (other : List Attempt) (last : List Operation) → actions other ≡ actions asked → Runs [] other last → (other ≡ told) × (last ≡ end)
  pub lawful : Lawful end
