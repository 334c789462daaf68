-- The words for what a trace names by a letter, and for why it is refused.
use Rattle.std.specs.Prelude.{ℕ, List, codes}
use Rattle.trace.specs.declared.letters.ObjectChoice.{ObjectChoice}
use Rattle.trace.specs.declared.letters.ObjectChoice.TheVariants.{Map, Queue}
use Rattle.trace.specs.declared.letters.CriterionChoice.{CriterionChoice}
use Rattle.trace.specs.declared.letters.CriterionChoice.TheVariants.{Levels, ReadMyWrites, MonotonicReads, CausalConvergence}
use Rattle.trace.specs.declared.letters.Level.{Level}
use Rattle.trace.specs.declared.letters.Level.TheVariants.{Weak, Basic, Monotonic, Peer, Causal, Complete}
use Rattle.trace.specs.declared.records.ReadFault.{ReadFault}
use Rattle.trace.specs.declared.records.ReadFault.TheVariants.{OneByteLeft, UnknownMark, PastEnd, BadLetter}

-- the name of each object, criterion and level
abbrev pub name_of_object : ObjectChoice → List ℕ
name_of_object Map = codes "map"
name_of_object Queue = codes "queue"

abbrev pub name_of_criterion : CriterionChoice → List ℕ
name_of_criterion Levels = codes "levels"
name_of_criterion ReadMyWrites = codes "read my writes"
name_of_criterion MonotonicReads = codes "monotonic reads"
name_of_criterion CausalConvergence = codes "causal convergence"

abbrev pub name_of_level : Level → List ℕ
name_of_level Weak = codes "weak"
name_of_level Basic = codes "basic"
name_of_level Monotonic = codes "monotonic"
name_of_level Peer = codes "peer"
name_of_level Causal = codes "causal"
name_of_level Complete = codes "complete"

-- a refusal in words
abbrev pub reason : ReadFault → List ℕ
reason OneByteLeft = codes "a single byte is left"
reason UnknownMark = codes "no record has this mark"
reason PastEnd = codes "the trace ends inside this record"
reason BadLetter = codes "an unknown letter, or a level for a kind above 7"
