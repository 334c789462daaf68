-- What a history has recorded.
use Rattle.std.specs.Prelude.{List}
use Rattle.history.specs.declared.history.History.{History}
use Rattle.history.specs.declared.operations.Operation.{Operation}
use Rattle.history.specs.Bounded.{items}

-- the log of a history: all its operations, in order
abbrev pub log : History → List Operation
log h = items h.operations
