-- What it is to be refused for one of several reasons.
use Rattle.std.specs.Prelude.{ℕ, ◌<◌}

-- a reason's condition holds, and that of none that is checked earlier does
pub record Refused {F : Type 0} (number : F → ℕ) (Meets : F → Type 0) (f : F) : Type 0 where
  pub holds : Meets f
  pub first : (g : F) → number g < number f → Meets g → ⊥
