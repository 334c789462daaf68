-- Sets of operations as numbers: operation i is in a set when the binary digit worth 2 to the power i is 1.
use Rattle.std.specs.Prelude.{◌≡◌, ℕ, ◌/◌, ◌%◌, ◌^◌, ◌<◌, ◌≤◌, ◌⊎◌, ◌↔◌, Option, MatchOption}

-- operation i is in the set s
abbrev pub Has : ℕ → ℕ → Type 0
Has s i = s / 2 ^ i % 2 ≡ 1

-- all of s is in t
abbrev pub Within : ℕ → ℕ → Type 0
Within s t = (i : ℕ) → Has s i → Has t i

-- nothing is in s
abbrev pub Empty : ℕ → Type 0
Empty s = (i : ℕ) → Has s i → ⊥

-- r has what s has, and i where i is one of the sixteen that a set can hold
abbrev pub Adds : ℕ → ℕ → ℕ → Type 0
Adds s i r = (j : ℕ) → Has r j ↔ (Has s j ⊎ ((j ≡ i) × (i < 16)))

-- r is the union of s and t
abbrev pub Joins : ℕ → ℕ → ℕ → Type 0
Joins s t r = (j : ℕ) → Has r j ↔ (Has s j ⊎ Has t j)

-- r is the intersection of s and t
abbrev pub Meets : ℕ → ℕ → ℕ → Type 0
Meets s t r = (j : ℕ) → Has r j ↔ (Has s j × Has t j)

-- the lowest in s from a number on, or none where s has none from there on
abbrev pub Next : ℕ → ℕ → Option ℕ → Type 0
Next s from found =
    MatchOption found ((j : ℕ) → from ≤ j → Has s j → ⊥)
    (λ i. (from ≤ i) × Has s i × ((j : ℕ) → from ≤ j → j < i → Has s j → ⊥))
