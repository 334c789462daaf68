-- The log of a history: its operations, numbered from 0, as the accepted calls and replies made them.
use Rattle.std.specs.Prelude.{◌≡◌, ℕ, ◌<◌, ◌≢◌, List, length, Some, None, slice_index_or}
use Rattle.history.specs.declared.operations.Call.{Call}
use Rattle.history.specs.declared.operations.Operation.{Operation}

-- what stands past the end of a log
abbrev pub blank : Operation
blank = record { call = record { thread = 0; kind = 0; a = 0; b = 0; after = record { bits = 0 } }; reply = None }

-- operation x
abbrev pub at : List Operation → ℕ → Operation
at log x = slice_index_or log x blank

-- operation x is by this thread
abbrev pub By : List Operation → ℕ → ℕ → Type 0
By log thread x = (x < length log) × ((at log x).call.thread ≡ thread)

-- operation x has no reply yet
abbrev pub Open : List Operation → ℕ → Type 0
Open log x = (x < length log) × ((at log x).reply ≡ None)

-- operation x has its reply
abbrev pub Answered : List Operation → ℕ → Type 0
Answered log x = (x < length log) × ((at log x).reply ≢ None)

-- the thread has an open call
abbrev pub Busy : List Operation → ℕ → Type 0
Busy log thread = (x : ℕ) × By log thread x × Open log x

-- an operation as its call is accepted
abbrev pub opened : Call → Operation
opened c = record { call = c; reply = None }

-- an operation as its reply is accepted
abbrev pub answered : Operation → ℕ × ℕ → Operation
answered o reply = record { call = o.call; reply = Some reply }
