-- Deciding by looking at each number in turn.
use Rattle.std.proofs.Common.{ℕ, zero, suc, ◌<◌, ◌⊎◌, inl, inr, arith}

pub either? : {A B : Type 0} → Dec A → Dec B → Dec (A ⊎ B)
either? (yes a) b = yes (inl a)
either? (no d) (yes b) = yes (inr b)
either? (no d) (no e) = no (λ s. elim s [ inl a ↦ d a | inr b ↦ e b ])

-- whether some number below n has a property
pub some_below : (P : ℕ → Type 0) (n : ℕ) → ((x : ℕ) → x < n → Dec (P x)) → Dec ((x : ℕ) × (x < n) × P x)
some_below P zero d = no (λ s. omega (arith, s.1))
some_below P (suc n) d = go (d n (omega arith)) (some_below P n (λ x l. d x (omega arith)))
  where
    go : Dec (P n) → Dec ((x : ℕ) × (x < n) × P x) → Dec ((x : ℕ) × (x < suc n) × P x)
    go (yes p) r = yes (n, omega arith, p)
    go (no f) (yes s) = yes (s.0, grind arith, s.2)
    go (no f) (no g) = no (λ s. grind (arith, f, g))
