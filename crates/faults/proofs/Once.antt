-- There is one reason for a refusal.
use Rattle.std.proofs.Common.{◌≡◌, ℕ, ⊎_elim}
use Rattle.std.proofs.lemmas.Bool.{cases_order}
use Rattle.faults.specs.Refused.{Refused}

pub refused_once : {F : Type 0} (number : F → ℕ) (Meets : F → Type 0) → ((f g : F) → number f ≡ number g → f ≡ g) → (f g : F) → Refused number Meets f → Refused number Meets g → f ≡ g
refused_once number Meets distinct f g p q =
    ⊎_elim
    (distinct f g)
    (⊎_elim (λ below. absurd (q.first f below p.holds)) (λ above. absurd (p.first g above q.holds)))
    (cases_order (number f) (number g))
