-- The laws of sets as numbers, in terms of their members.
use Rattle.std.proofs.Common.{◌≡◌, ℕ, ◌+◌, ◌-◌, ◌*◌, ◌/◌, ◌%◌, ◌^◌, ◌<◌, ◌≤◌, eqb, ltb, ◌⊎◌, ◌↔◌, Decides, Some, None, sym, ap, ◌∙◌, subst, arith}
use lib.Bits.{bit_and, bit_or}
use Rattle.std.proofs.Math.Nat.{div-le_self}
use Rattle.std.specs.Int.{w16, trailing_zeros}
use Rattle.std.proofs.lemmas.Bool.Decides.{nat_tests}
use Rattle.std.proofs.lemmas.Nat.{one_shl, shr-shr}
use Rattle.std.proofs.lemmas.Nat.Bits.{bit_at-trailing_zeros, bit_at_and, bit_at_or, bit_at-zero, bit_at-lt, bit_at-pow_same, bit_at-pow_other, bit_at_above, same_from_bits}
use Rattle.history.specs.Sets.{Has, Within, Adds, Empty, Joins, Meets, Next}

pub union_joins : (s t : ℕ) → Joins s t (bit_or s t)
union_joins s t j = grind (arith, bit_at_or, bit_at-lt)

pub intersection_meets : (s t : ℕ) → Meets s t (bit_and s t)
intersection_meets s t j = grind (arith, bit_at_and, bit_at-lt)

-- a number below 2 to the power k has only members below k
pub has_below : (k s i : ℕ) → s < 2 ^ k → Has s i → i < k
has_below k s i l h = grind (arith, bit_at_above)

-- the set of i alone
pub only_has : (i j : ℕ) → Has (2 ^ i) j ↔ (j ≡ i)
only_has i j = grind (arith, bit_at-pow_same, bit_at-pow_other)

-- s with i
pub with_has : (s i j : ℕ) → Has (bit_or s (2 ^ i)) j ↔ (Has s j ⊎ (j ≡ i))
with_has s i j = grind (arith, union_joins, only_has)

-- the digit of i, as the code makes it
pub shifted_adds : (s i : ℕ) → i < 16 → Adds s i (bit_or s ((1 * 2 ^ i) % 65536))
shifted_adds s i l = rw (one_shl i 16 l) (λ j. grind (arith, with_has s i))

-- sets with the same members are the same number
pub same_members : (s t : ℕ) → Within s t → Within t s → s ≡ t
same_members s t f g = same_from_bits s t (λ i. grind (arith, f i, g i, bit_at-lt))

-- the tests of the code
pub none_past : (s i : ℕ) → s < 2 ^ 16 → 16 ≤ i → Decides (ltb i 16) (Has s i)
none_past s i l n = grind (arith, nat_tests, has_below 16 s)

pub within_decides : (s t : ℕ) → Decides (eqb (bit_and s t) s) (Within s t)
within_decides s t = (λ e. grind (arith, nat_tests, intersection_meets s t), λ f. grind (arith, nat_tests, intersection_meets s t, same_members (bit_and s t) s))

pub none_has : Empty 0
none_has i h = grind (arith, bit_at-zero)

pub empty_decides : (s e : ℕ) → Empty e → Decides (eqb s e) (Empty s)
empty_decides s e n = (λ x. grind (arith, nat_tests, n), λ f. grind (arith, nat_tests, n, same_members s e))

-- the members from n on, n places further down
moved_has : (s n i : ℕ) → Has (s / 2 ^ n) i ↔ Has s (n + i)
moved_has s n i = let same = ap (λ x. x % 2) (shr-shr s n i) in (λ h. sym same ∙ h, λ h. same ∙ h)

-- there is none, as the code sees it
pub none_from : (s n : ℕ) → s / 2 ^ n ≡ 0 → Next s n None
none_from s n e j a h =
    let there : Has s (n + (j - n)) = subst (Has s) (omega (arith, a)) h in
    none_has (j - n) (subst (λ r. Has r (j - n)) e ((moved_has s n (j - n)).1 there))

-- and the lowest
pub lowest_from : (s n : ℕ) → s < 2 ^ 16 → 0 < s / 2 ^ n → Next s n (Some (n + trailing_zeros w16 (s / 2 ^ n)))
lowest_from s n l some =
    let rest = s / 2 ^ n in
    let low = bit_at-trailing_zeros w16 rest some (omega (arith, div-le_self s (2 ^ n), l)) in (
      omega arith,
      (moved_has s n (trailing_zeros w16 rest)).0 low.1,
      λ j a b h.
          let there : Has s (n + (j - n)) = subst (Has s) (omega (arith, a)) h in
          let none = low.2 (j - n) (omega (arith, a, b)) in
          grind (arith, none, (moved_has s n (j - n)).1 there),
    )

-- what finding the lowest member from a number on tries
pub ruleset from_here = (none_from, lowest_from)
