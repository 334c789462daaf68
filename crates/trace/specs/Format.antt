-- The bytes of a record.
use Rattle.std.specs.Prelude.{ℕ, ◌/◌, ◌%◌, ◌≤◌, List, [], ◌∷◌, ◌++◌, length, codes}
use Rattle.trace.specs.declared.records.Record.{Record}
use Rattle.trace.specs.declared.records.Record.TheVariants.{Call, Reply, Object, Criterion, Level, Note}
use Rattle.trace.specs.Letters as letter

-- the six sorts of record
pub data Sort : Type 0 where
  call : Sort
  reply : Sort
  object : Sort
  criterion : Sort
  level : Sort
  note : Sort

abbrev pub sort : Record → Sort
sort (Call thread kind a b after) = call
sort (Reply thread tag value) = reply
sort (Object choice) = object
sort (Criterion choice) = criterion
sort (Level kind l) = level
sort (Note text) = note

-- the mark that begins a record: two bytes, in ASCII
abbrev pub mark : Sort → List ℕ
mark call = codes "CA"
mark reply = codes "RE"
mark object = codes "OB"
mark criterion = codes "RU"
mark level = codes "LV"
mark note = codes "NO"

-- a 16-bit number, high byte first
abbrev pub word : ℕ → List ℕ
word n = n / 256 ∷ n % 256 ∷ []

-- the fields of a record, in the order in which they follow the mark
abbrev pub fields : Record → List ℕ
fields (Call thread kind a b after) = thread ∷ kind ∷ word a ++ word b ++ word after
fields (Reply thread tag value) = thread ∷ tag ∷ word value
fields (Object choice) = letter.object choice ∷ []
fields (Criterion choice) = letter.criterion choice ∷ []
fields (Level kind l) = kind ∷ letter.level l ∷ []
fields (Note text) = length text.now ∷ text.now

-- a record as it stands in a trace
abbrev pub bytes : Record → List ℕ
bytes r = mark (sort r) ++ fields r

-- a level is set for one of the kinds 0 to 7
abbrev pub Settable : Record → Type 0
Settable (Call thread kind a b after) = Unit {0}
Settable (Reply thread tag value) = Unit {0}
Settable (Object choice) = Unit {0}
Settable (Criterion choice) = Unit {0}
Settable (Level kind l) = kind ≤ 7
Settable (Note text) = Unit {0}
