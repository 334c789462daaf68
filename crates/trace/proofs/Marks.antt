-- A record is refused behind its mark: no other mark is there, and what is checked earlier does not hold.
use Rattle.std.proofs.Common.{◌≡◌, ℕ, ◌+◌, ◌<◌, ◌≤◌, List, ◌++◌, length, arith}
use Rattle.trace.specs.declared.records.ReadFault.TheVariants.{PastEnd, BadLetter}
use Rattle.trace.specs.Format.{Sort, call, reply, object, criterion, level, note, mark}
use Rattle.trace.specs.Refusals.{size, Misnamed, Refused}

-- no two sorts have one mark
pub one_mark : (s t : Sort) → mark s ≡ mark t → s ≡ t
one_mark s t e = grind arith

-- a record of a sort is refused where it is cut short, and where it is whole and its letter is wrong
abbrev Behind : Sort → Type 0
Behind s = (fs : List ℕ) → (length fs + 2 < size s (mark s ++ fs) → Refused PastEnd (mark s ++ fs)) × (size s (mark s ++ fs) ≤ length fs + 2 → Misnamed s (mark s ++ fs) → Refused BadLetter (mark s ++ fs))

behind : (s : Sort) → Behind s
behind s fs = grind arith

-- of each sort
pub behind_each : Behind call × Behind reply × Behind object × Behind criterion × Behind level × Behind note
behind_each = (behind call, behind reply, behind object, behind criterion, behind level, behind note)
