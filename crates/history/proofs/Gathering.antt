-- Loops that gather a set.
use Rattle.std.proofs.Common.{◌≡◌, ℕ, Bool, true, false, ◌+◌, ◌<◌, ◌⊎◌, ◌↔◌, List, Some, sym, ◌∙◌, subst, arith}
use native.Mathlib.Decide.{dec_lt}
use Rattle.history.specs.declared.opset.Members.{Members}
use Rattle.history.specs.declared.opset.OpSet.{OpSet}
use Rattle.history.specs.declared.operations.Operation.{Operation}
use Rattle.history.specs.Log.{at}
use Rattle.history.specs.Members.{Gives}
use Rattle.history.specs.Sets.{Has, Adds, Joins, Next}
use Rattle.history.specs.Table.{row, Picks}

-- the test says true of the next operation
pub picks_more : (log : List Operation) (Says : Operation → Bool → Type 0) (n s t : ℕ) → n < 16 → Says (at log n) true → Adds s n t → Picks log Says n s → Picks log Says (n + 1) t
picks_more log Says n s t l says adds picks x = grind (arith, picks x, adds x)

-- or false
pub picks_less : (log : List Operation) (Says : Operation → Bool → Type 0) (n s : ℕ) → Says (at log n) false → Picks log Says n s → Picks log Says (n + 1) s
picks_less log Says n s says picks x = (λ h. grind (arith, picks x), λ k. elim (dec_lt x n) [ yes m ↦ (picks x).1 m | no m ↦ (false, grind arith, grind (arith, picks x)) ])

-- a set with all that a table has for its members below n
abbrev pub ClosedBelow : ℕ → ℕ → List OpSet → ℕ → Type 0
ClosedBelow n direct table all = (x : ℕ) → Has all x ↔ (Has direct x ⊎ ((z : ℕ) × (Has direct z × (z < n)) × Has (row table z) x))

-- the next member's set is added
closed_more : (n z direct : ℕ) (table : List OpSet) (all more : ℕ) → Next direct n (Some z) → ClosedBelow n direct table all → Joins all (row table z) more → ClosedBelow (z + 1) direct table more
closed_more n z direct table all more next closed join x = grind (arith, closed x, join x, next)

-- one turn of a loop over the members
pub closed_turn : (s t : Members) (z : ℕ) (direct : OpSet) (table : List OpSet) (all more : ℕ) → s.set ≡ direct → Gives s (Some z) t → ClosedBelow s.from direct.bits table all → Joins all (row table z) more → (t.set ≡ direct) × ClosedBelow t.from direct.bits table more
closed_turn s t z direct table all more e g closed join = (
  g.0 ∙ e,
  subst (λ n. ClosedBelow n direct.bits table more) (sym g.2.0)
      (closed_more s.from z direct.bits table all more (subst (λ d. Next d.bits s.from (Some z)) e g.1) closed join),
)
