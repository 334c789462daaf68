-- What happens before what.
use Rattle.std.specs.Prelude.{◌≡◌, ℕ, ◌<◌, ◌↔◌, List, length}
use Rattle.history.specs.declared.operations.Operation.{Operation}
use Rattle.history.specs.Log.{at, By, Open, Answered}
use Rattle.history.specs.Sets.{Has}

-- x happens before y: it has the lower number in the same thread, y's after field names it, or it is so through some z
pub data Before (log : List Operation) : ℕ → ℕ → Type 0 where
  program : {x y : ℕ} → x < y → y < length log → (at log x).call.thread ≡ (at log y).call.thread → Before log x y
  named : {x y : ℕ} → y < length log → Has (at log y).call.after.bits x → Before log x y
  through : {x z y : ℕ} → Before log x z → Before log z y → Before log x y

-- before goes by ascending numbers
abbrev pub Ascending : List Operation → Type 0
Ascending log = (x y : ℕ) → Before log x y → x < y

-- whatever is before an operation has its reply
abbrev pub Settled : List Operation → Type 0
Settled log = (x y : ℕ) → Before log x y → Answered log x

-- a thread has at most one open operation
abbrev pub Single : List Operation → Type 0
Single log = (thread x y : ℕ) → By log thread x → By log thread y → Open log x → Open log y → x ≡ y

-- what holds of every history: before is a strict partial order within that of the numbers, and the two laws of open operations
pub record Lawful (log : List Operation) : Type 0 where
  pub irreflexive : (x : ℕ) → Before log x x → ⊥
  pub transitive : (x z y : ℕ) → Before log x z → Before log z y → Before log x y
  pub ascending : Ascending log
  pub settled : Settled log
  pub single : Single log

-- a set is that of the operations before y
abbrev pub Precedes : List Operation → ℕ → ℕ → Type 0
Precedes log y s = (x : ℕ) → Has s x ↔ Before log x y
