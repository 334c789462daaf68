-- Reading a trace, one record after another.
use Rattle.std.specs.Prelude.{◌≡◌, ℕ, ◌+◌, ◌<◌, ◌≤◌, List, [], ◌∷◌, ◌++◌, length, drop, Some, None, Ok, Err, Option, Result}
use Rattle.trace.specs.declared.records.Placed.{Placed}
use Rattle.trace.specs.declared.records.Refusal.{Refusal}
use Rattle.trace.specs.Format.{bytes, Settable}
use Rattle.trace.specs.Refusals.{Refused}

-- a record stands at a place of a trace and ends at the next
pub record Stands (trace : List ℕ) (at : ℕ) (p : Placed) (next : ℕ) : Type 0 where
  pub place : p.at ≡ at
  pub reads : drop at trace ≡ bytes p.record ++ drop next trace
  pub settable : Settable p.record
  pub ends : next ≡ at + length (bytes p.record)
  pub grows : at < next
  pub within : next ≤ length trace

-- what a reader at a place of a trace may answer, and where it stands then
abbrev pub Answers : List ℕ → ℕ → Result (Option Placed) Refusal → ℕ → Type 0
Answers trace at (Ok None) next = (at ≡ length trace) × (next ≡ at)
Answers trace at (Ok (Some p)) next = Stands trace at p next
Answers trace at (Err x) next = (x.at ≡ at) × Refused x.fault (drop at trace) × (next ≡ at)

-- what an answer tells: the place and the bytes of a record, wherever its note's text lies in memory
abbrev pub told : Result (Option Placed) Refusal → Result (Option (ℕ × List ℕ)) Refusal
told (Ok None) = Ok None
told (Ok (Some p)) = Ok (Some (p.at, bytes p.record))
told (Err x) = Err x

-- the answer and the next place are right, and no others are
pub record Reads (trace : List ℕ) (at : ℕ) (answer : Result (Option Placed) Refusal) (next : ℕ) : Type 0 where
  pub right : Answers trace at answer next
  pub only : (other : Result (Option Placed) Refusal) (n : ℕ) → Answers trace at other n → (told other ≡ told answer) × (n ≡ next)

-- records that stand one behind the other: each begins where the one before it ended
pub data Tiles (trace : List ℕ) : ℕ → List Placed → ℕ → Type 0 where
  none : {at : ℕ} → Tiles trace at [] at
  more : {at next end : ℕ} {p : Placed} {ps : List Placed} → Stands trace at p next → Tiles trace next ps end → Tiles trace at (p ∷ ps) end

-- the records of a trace and how reading them ends: at the trace's end, with their number, or where one is refused
abbrev pub Parses : List ℕ → List Placed → Result ℕ Refusal → Type 0
Parses trace ps (Ok n) = Tiles trace 0 ps (length trace) × (length ps ≡ n)
Parses trace ps (Err x) = Tiles trace 0 ps x.at × Refused x.fault (drop x.at trace)

-- reading a trace ends so, and in no other way
pub record Counts (trace : List ℕ) (answer : Result ℕ Refusal) : Type 0 where
  pub records : List Placed
  pub right : Parses trace records answer
  pub only : (ps : List Placed) (other : Result ℕ Refusal) → Parses trace ps other → other ≡ answer
