-- When the front of some bytes is refused, and what is read from it otherwise.
use Rattle.std.specs.Prelude.{◌≡◌, ℕ, ◌+◌, ◌<◌, ◌≤◌, ◌⊎◌, List, ◌∷◌, ◌++◌, length, take, Ok, Err, Result, ◌≢◌, slice_index}
use Rattle.std.specs.Borrow.{Bor}
use Rattle.faults.specs.Refused as fault
use Rattle.trace.specs.declared.letters.ObjectChoice.{ObjectChoice}
use Rattle.trace.specs.declared.letters.CriterionChoice.{CriterionChoice}
use Rattle.trace.specs.declared.letters.Level.{Level}
use Rattle.trace.specs.declared.records.Record.{Record}
use Rattle.trace.specs.declared.records.ReadFault.{ReadFault}
use Rattle.trace.specs.declared.records.ReadFault.TheVariants.{OneByteLeft, UnknownMark, PastEnd, BadLetter}
use Rattle.trace.specs.Letters as letter
use Rattle.trace.specs.Format.{Sort, call, reply, object, criterion, level, note, mark, bytes, Settable}

-- the number of each refusal; the lower one is checked earlier
abbrev pub number : ReadFault → ℕ
number OneByteLeft = 3
number UnknownMark = 4
number PastEnd = 5
number BadLetter = 6

-- the bytes begin with the mark of a sort of record
abbrev pub Marked : Sort → List ℕ → Type 0
Marked s bs = take 2 bs ≡ mark s

-- how many bytes a record of a sort has; a note's third byte is the length of its text
abbrev pub size : Sort → List ℕ → ℕ
size call bs = 10
size reply bs = 6
size object bs = 3
size criterion bs = 3
size level bs = 4
size note bs = 3 + slice_index bs 2

-- the letter of the record stands for nothing, or a level is set for a kind above 7
abbrev pub Misnamed : Sort → List ℕ → Type 0
Misnamed call bs = ⊥
Misnamed reply bs = ⊥
Misnamed object bs = (o : ObjectChoice) → letter.object o ≢ slice_index bs 2
Misnamed criterion bs = (c : CriterionChoice) → letter.criterion c ≢ slice_index bs 2
Misnamed level bs = (7 < slice_index bs 2) ⊎ ((l : Level) → letter.level l ≢ slice_index bs 3)
Misnamed note bs = ⊥

-- the condition of each refusal
abbrev pub Meets : ReadFault → List ℕ → Type 0
Meets OneByteLeft bs = length bs ≡ 1
Meets UnknownMark bs = (2 ≤ length bs) × ((s : Sort) → Marked s bs → ⊥)
Meets PastEnd bs = (s : Sort) × Marked s bs × (length bs < size s bs)
Meets BadLetter bs = (s : Sort) × Marked s bs × Misnamed s bs

-- refused for the first condition that holds
abbrev pub Refused : ReadFault → List ℕ → Type 0
Refused f bs = fault.Refused number (λ g. Meets g bs) f

-- what stands at the front of some bytes: a record and the bytes behind it, or a refusal
abbrev pub Front : List ℕ → Result (Record × Bor (List ℕ)) ReadFault → Type 0
Front bs (Ok taken) = (bs ≡ bytes taken.0 ++ taken.1.now) × Settable taken.0
Front bs (Err f) = Refused f bs

-- what stands behind a mark that a choice's letter follows: the choice and the bytes behind it, or a refusal
abbrev pub Chosen : {X : Type 0} → (X → ℕ) → List ℕ → Result (X × Bor (List ℕ)) ReadFault → Type 0
Chosen letter fs (Ok taken) = fs ≡ letter taken.0 ∷ taken.1.now
Chosen letter fs (Err OneByteLeft) = ⊥
Chosen letter fs (Err UnknownMark) = ⊥
Chosen letter fs (Err PastEnd) = length fs < 1
Chosen {X} letter fs (Err BadLetter) = (1 ≤ length fs) × ((x : X) → letter x ≢ slice_index fs 0)

-- what a letter sets for a kind: a level for one of the kinds 0 to 7, or a refusal
abbrev pub Sets : ℕ → ℕ → Result Level ReadFault → Type 0
Sets kind b (Ok l) = (kind ≤ 7) × (letter.level l ≡ b)
Sets kind b (Err f) = (f ≡ BadLetter) × ((7 < kind) ⊎ ((l : Level) → letter.level l ≢ b))
