-- What a history keeps true of its operations and its sets.
use Rattle.std.proofs.Common.{ℕ, ◌<◌, List, [], ◌∷◌, ◌++◌, length, set, replicate, subst, arith}
use Rattle.history.specs.declared.history.History.{History}
use Rattle.history.specs.declared.operations.Call.{Call}
use Rattle.history.specs.declared.operations.HistoryFault.{HistoryFault}
use Rattle.history.specs.declared.operations.HistoryFault.TheVariants.{Full}
use Rattle.history.specs.declared.operations.Operation.{Operation}
use Rattle.history.specs.declared.opset.OpSet.{OpSet}
use Rattle.history.specs.Bounded.{items}
use Rattle.history.specs.Limits.{limit}
use Rattle.history.specs.Log.{opened}
use Rattle.history.specs.Order.{Ascending, Settled, Precedes}
use Rattle.history.specs.Refusals.{CallMeets}
use Rattle.history.specs.Sets.{Has}
use Rattle.history.specs.Table.{Keeps, KeepsOnly, Reaches}
use Rattle.history.proofs.Membership.{none_has}
use Rattle.history.proofs.Orders.{held, ascending_none, settled_none, filled, ascending_push, settled_push, ascending_filled, settled_filled}
use Rattle.history.proofs.Tables.{kept_exact, new_row, row_none, keeps_push, only_push, keeps_filled, only_filled}

-- the facts of the ghost fields
abbrev pub Kept : List Operation → List OpSet → Type 0
Kept log table = record {
  ascending : Ascending log;
  settled : Settled log;
  keeps : Keeps log table;
  only : KeepsOnly log table;
}

-- a history has them
pub kept : (h : History) → Kept (items h.operations) h.before
kept h = record { ascending = h.ascending; settled = h.settled; keeps = h.keeps; only = h.only }

pub kept_none : (n : ℕ) → Kept [] (replicate n (record { bits = 0 }))
kept_none n = record {
  ascending = ascending_none;
  settled = settled_none;
  keeps = λ x y p. absurd (omega (arith, held [] p));
  only = λ x y h f. none_has x (subst (λ s. Has s x) (row_none n y) h);
}

-- a new history has them
pub none_kept : Kept [] (replicate limit (record { bits = 0 }))
none_kept = kept_none limit

-- a call that is accepted, with the set of what is before it
pub kept_push : (limit : ℕ) (log : List Operation) (table : List OpSet) (c : Call) → ((f : HistoryFault) → CallMeets limit log c f → ⊥) → Kept log table → length log < length table → (all : OpSet) → Reaches log c table all.bits → Kept (log ++ opened c ∷ []) (set table (length log) all)
kept_push limit log table c accepted k room all reaches =
    let new : Precedes (log ++ opened c ∷ []) (length log) all.bits = new_row limit log c accepted k.ascending table (kept_exact log table k.ascending k.keeps k.only) all.bits reaches in
    record {
      ascending = ascending_push limit log c accepted k.ascending;
      settled = settled_push limit log c accepted k.settled;
      keeps = keeps_push limit log c accepted k.ascending table room all new k.keeps;
      only = only_push limit log c accepted k.ascending table room all new k.only;
    }

pub kept_filled : (log : List Operation) (table : List OpSet) (i : ℕ) (reply : ℕ × ℕ) → Kept log table → Kept (filled log i reply) table
kept_filled log table i reply k = record {
  ascending = ascending_filled log i reply k.ascending;
  settled = settled_filled log i reply k.settled;
  keeps = keeps_filled log i reply table k.keeps;
  only = only_filled log i reply table k.only;
}

-- there is room where a call is accepted
pub room : (limit : ℕ) (log : List Operation) (c : Call) → ((f : HistoryFault) → CallMeets limit log c f → ⊥) → length log < limit
room limit log c accepted = grind (arith, accepted Full)
