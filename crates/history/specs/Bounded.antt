-- What a bounded list holds.
use mathlib.Core.List as list
use Rattle.std.specs.Prelude.{ℕ, take}
use Rattle.history.specs.declared.bounded.BoundedList.{BoundedList}

-- its values, in order
abbrev pub items : {X : Type 0} {n : ℕ} → BoundedList X n → list.List X
items l = take l.len l.slots
