-- The limits of a history. Lemmas take the first as a number.
use Rattle.std.specs.Prelude.{ℕ}

-- how many operations it holds
abbrev pub limit : ℕ
limit = 12

-- the last thread; they are numbered from 0
abbrev pub last_thread : ℕ
last_thread = 5
