-- The sets that a history keeps beside its operations.
use Rattle.std.specs.Prelude.{ℕ, Bool, ◌<◌, ◌⊎◌, ◌↔◌, List, Decides, slice_index_or}
use Rattle.history.specs.declared.operations.Call.{Call}
use Rattle.history.specs.declared.operations.Operation.{Operation}
use Rattle.history.specs.declared.opset.OpSet.{OpSet}
use Rattle.history.specs.Log.{at, By}
use Rattle.history.specs.Order.{Before}
use Rattle.history.specs.Sets.{Has}

-- the set that is kept for operation y
abbrev pub row : List OpSet → ℕ → ℕ
row table y = (slice_index_or table y (record { bits = 0 })).bits

-- each set has all that is before its operation
abbrev pub Keeps : List Operation → List OpSet → Type 0
Keeps log table = (x y : ℕ) → Before log x y → Has (row table y) x

-- and nothing that is not; in this form a fact with one proof at most, as a field asks
abbrev pub KeepsOnly : List Operation → List OpSet → Type 0
KeepsOnly log table = (x y : ℕ) → Has (row table y) x → (Before log x y → ⊥) → ⊥

-- a set has those of the first n operations of which a test says true; Says o b is that it says b of o
abbrev pub Picks : List Operation → (Operation → Bool → Type 0) → ℕ → ℕ → Type 0
Picks log Says n s = (x : ℕ) → (Has s x → x < n) × (x < n → (b : Bool) × Says (at log x) b × Decides b (Has s x))

-- program order or the after field puts operation x ahead of a call to come
abbrev pub Linked : List Operation → Call → ℕ → Type 0
Linked log c x = By log c.thread x ⊎ Has c.after.bits x

-- a set with all that a table has for its members
abbrev pub Closes : ℕ → List OpSet → ℕ → Type 0
Closes direct table all = (x : ℕ) → Has all x ↔ (Has direct x ⊎ ((z : ℕ) × Has direct z × Has (row table z) x))

-- a set has what is linked to a call to come, and all that a table has for that
abbrev pub Reaches : List Operation → Call → List OpSet → ℕ → Type 0
Reaches log c table all = (direct : ℕ) × ((x : ℕ) → Has direct x ↔ Linked log c x) × Closes direct table all
