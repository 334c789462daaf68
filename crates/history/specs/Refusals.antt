-- When a call or a reply is refused.
use Rattle.std.specs.Prelude.{◌≡◌, ℕ, ◌<◌, ◌≤◌, ◌⊎◌, List, length, Ok, Err, Result}
use Rattle.faults.specs.Refused as fault
use Rattle.history.specs.declared.operations.Call.{Call}
use Rattle.history.specs.declared.operations.HistoryFault.{HistoryFault}
use Rattle.history.specs.declared.operations.HistoryFault.TheVariants.{UnknownThread, Full, ThreadBusy, AfterAbsent, AfterOpen, NoOpenCall, BadReply}
use Rattle.history.specs.declared.operations.Operation.{Operation}
use Rattle.history.specs.declared.opset.OpSet.{OpSet}
use Rattle.history.specs.Limits.{last_thread}
use Rattle.history.specs.Log.{By, Open, Busy}
use Rattle.history.specs.Sets.{Has}

-- the number of each refusal; the lower one is checked earlier
abbrev pub number : HistoryFault → ℕ
number UnknownThread = 7
number Full = 8
number ThreadBusy = 9
number AfterAbsent = 10
number AfterOpen = 11
number NoOpenCall = 12
number BadReply = 13

-- a tag and a value that go together: nothing is (0, 0), any number has tag 1, and tag 2 is for false and true as 0 and 1
abbrev pub Tagged : ℕ × ℕ → Type 0
Tagged reply = ((reply.0 ≡ 0) × (reply.1 ≡ 0)) ⊎ ((reply.0 ≡ 1) ⊎ ((reply.0 ≡ 2) × (reply.1 ≤ 1)))

-- an after field names a number that no operation has
abbrev pub NamesAbsent : List Operation → OpSet → Type 0
NamesAbsent log after = (x : ℕ) × Has after.bits x × (length log ≤ x)

-- an after field names an open operation
abbrev pub NamesOpen : List Operation → OpSet → Type 0
NamesOpen log after = (x : ℕ) × Has after.bits x × Open log x

-- the conditions under which a call is refused by a history that holds so many operations at most
abbrev pub CallMeets : ℕ → List Operation → Call → HistoryFault → Type 0
CallMeets limit log c UnknownThread = last_thread < c.thread
CallMeets limit log c Full = limit ≤ length log
CallMeets limit log c ThreadBusy = Busy log c.thread
CallMeets limit log c AfterAbsent = NamesAbsent log c.after
CallMeets limit log c AfterOpen = NamesOpen log c.after
CallMeets limit log c NoOpenCall = ⊥
CallMeets limit log c BadReply = ⊥

-- the conditions under which a reply is refused
abbrev pub ReplyMeets : List Operation → ℕ → ℕ × ℕ → HistoryFault → Type 0
ReplyMeets log thread reply UnknownThread = ⊥
ReplyMeets log thread reply Full = ⊥
ReplyMeets log thread reply ThreadBusy = ⊥
ReplyMeets log thread reply AfterAbsent = ⊥
ReplyMeets log thread reply AfterOpen = ⊥
ReplyMeets log thread reply NoOpenCall = (last_thread < thread) ⊎ (Busy log thread → ⊥)
ReplyMeets log thread reply BadReply = Tagged reply → ⊥

-- refused for the first condition that holds
abbrev pub Refused : (HistoryFault → Type 0) → HistoryFault → Type 0
Refused Meets f = fault.Refused number Meets f

-- so refused, or accepted where none holds
abbrev pub Judged : (HistoryFault → Type 0) → Result Unit HistoryFault → Type 0
Judged Meets (Ok _) = (f : HistoryFault) → Meets f → ⊥
Judged Meets (Err f) = Refused Meets f

-- a reply is refused for the first condition that holds, and else answers the open operation of its thread
abbrev pub JudgedOpen : List Operation → ℕ → ℕ × ℕ → Result ℕ HistoryFault → Type 0
JudgedOpen log thread reply (Ok x) = ((f : HistoryFault) → ReplyMeets log thread reply f → ⊥) × By log thread x × Open log x
JudgedOpen log thread reply (Err f) = Refused (ReplyMeets log thread reply) f
