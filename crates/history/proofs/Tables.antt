-- The sets kept beside the operations, as a log grows.
use Rattle.std.proofs.Common.{◌≡◌, ℕ, ◌<◌, List, [], ◌∷◌, ◌++◌, length, set, replicate, arith}
use Rattle.std.proofs.lemmas.Grind.{common_steps}
use Rattle.std.proofs.lemmas.List.{get_or_past, get_or-replicate, get_or-set_other}
use Rattle.history.specs.declared.operations.Call.{Call}
use Rattle.history.specs.declared.operations.HistoryFault.{HistoryFault}
use Rattle.history.specs.declared.operations.Operation.{Operation}
use Rattle.history.specs.declared.opset.OpSet.{OpSet}
use Rattle.history.specs.Log.{opened}
use Rattle.history.specs.Order.{Ascending, Precedes}
use Rattle.history.specs.Refusals.{CallMeets}
use Rattle.history.specs.Table.{row, Keeps, KeepsOnly, Reaches}
use Rattle.history.proofs.Orders.{before?, begins_push, begins_filled, filled_begins, carried, held, recalled, filled, ascending_push, new_before}

-- a set that is kept is exact, since before can be decided
pub kept_exact : (log : List Operation) (table : List OpSet) → Ascending log → Keeps log table → KeepsOnly log table → (y : ℕ) → Precedes log y (row table y)
kept_exact log table ascending keeps only y x = grind (arith, before? log ascending x y, only x y, keeps x y)

-- the sets of no operations
pub row_none : (n y : ℕ) → row (replicate n (record { bits = 0 })) y ≡ 0
row_none n y = grind (arith, common_steps, get_or_past, get_or-replicate)

module _ (limit : ℕ) (log : List Operation) (c : Call) (accepted : (f : HistoryFault) → CallMeets limit log c f → ⊥) (ascending : Ascending log) (table : List OpSet) where
  abbrev grown : List Operation
  grown = log ++ opened c ∷ []

  -- the operations linked to the new one, and all that is before one of them
  pub new_row : ((y : ℕ) → Precedes log y (row table y)) → (all : ℕ) → Reaches log c table all → Precedes grown (length log) all
  new_row exact all (direct, linked, closes) x = grind (arith, closes x, new_before limit log c accepted ascending x, linked, exact)

  module _ (room : length log < length table) (all : OpSet) (new : Precedes grown (length log) all.bits) where
    abbrev longer : List OpSet
    longer = set table (length log) all

    pub keeps_push : Keeps log table → Keeps grown longer
    keeps_push keeps x y p = let l = held grown p in grind (arith, common_steps, get_or-set_other, new x, keeps x y, recalled grown log (begins_push log (opened c)) (ascending_push limit log c accepted ascending))

    pub only_push : KeepsOnly log table → KeepsOnly grown longer
    only_push only x y h n = grind (arith, common_steps, get_or-set_other, new x, only x y, carried grown log (begins_push log (opened c)))

module _ (log : List Operation) (i : ℕ) (reply : ℕ × ℕ) (table : List OpSet) where
  pub keeps_filled : Keeps log table → Keeps (filled log i reply) table
  keeps_filled keeps x y p = keeps x y (carried log (filled log i reply) (filled_begins log i reply) p)

  pub only_filled : KeepsOnly log table → KeepsOnly (filled log i reply) table
  only_filled only x y h n = only x y h (λ p. n (carried (filled log i reply) log (begins_filled log i reply) p))
