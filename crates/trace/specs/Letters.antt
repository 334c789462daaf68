-- The letters of a trace: which byte, in ASCII, stands for which choice.
use Rattle.std.specs.Prelude.{◌≡◌, ℕ, Option, MatchOption, Ok, Err, Result, ◌≢◌}
use Rattle.trace.specs.declared.letters.UnknownLetter.{UnknownLetter}
use Rattle.trace.specs.declared.letters.ObjectChoice.{ObjectChoice}
use Rattle.trace.specs.declared.letters.ObjectChoice.TheVariants.{Map, Queue}
use Rattle.trace.specs.declared.letters.CriterionChoice.{CriterionChoice}
use Rattle.trace.specs.declared.letters.CriterionChoice.TheVariants.{Levels, ReadMyWrites, MonotonicReads, CausalConvergence}
use Rattle.trace.specs.declared.letters.Level.{Level}
use Rattle.trace.specs.declared.letters.Level.TheVariants.{Weak, Basic, Monotonic, Peer, Causal, Complete}

-- the letter of each object
abbrev pub object : ObjectChoice → ℕ
object Map = 77  -- M
object Queue = 81  -- Q

-- the letter of each criterion
abbrev pub criterion : CriterionChoice → ℕ
criterion Levels = 108  -- l
criterion ReadMyWrites = 114  -- r
criterion MonotonicReads = 103  -- g
criterion CausalConvergence = 118  -- v

-- the letter of each level
abbrev pub level : Level → ℕ
level Weak = 119  -- w
level Basic = 98  -- b
level Monotonic = 109  -- m
level Peer = 112  -- p
level Causal = 99  -- c
level Complete = 97  -- a

-- what a byte names: the choice that has it as its letter, or none where no choice has
abbrev pub Named : {X : Type 0} → (X → ℕ) → ℕ → Option X → Type 0
Named {X} letter b named = MatchOption named ((x : X) → letter x ≢ b) (λ x. letter x ≡ b)

-- the same of a conversion that fails where no choice has the byte
abbrev pub Names : {X : Type 0} → (X → ℕ) → ℕ → Result X UnknownLetter → Type 0
Names letter b (Ok x) = letter x ≡ b
Names {X} letter b (Err _) = (x : X) → letter x ≢ b

-- a conversion of bytes takes each for the choice that has it as its letter
abbrev pub ByLetter : {X : Type 0} → (X → ℕ) → (ℕ → Result X UnknownLetter → Type 0) → Type 0
ByLetter {X} letter gives = (b : ℕ) (r : Result X UnknownLetter) → gives b r → Names letter b r
