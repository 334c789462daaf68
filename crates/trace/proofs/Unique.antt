-- At a place of a trace one answer is right, and no other.
use Rattle.std.proofs.Common.{◌≡◌, ℕ, List, ◌++◌, length, Option, Result, sym, ap, ◌∙◌, arith, length-append}
use Rattle.std.proofs.lemmas.Grind.{common_steps}
use Rattle.std.proofs.lemmas.List.{take_at, append_cancel_left}
use Rattle.trace.specs.declared.records.Placed.{Placed}
use Rattle.trace.specs.declared.records.Record.{Record}
use Rattle.trace.specs.declared.records.ReadFault.{ReadFault}
use Rattle.trace.specs.declared.records.Refusal.{Refusal}
use Rattle.trace.specs.Format.{bytes, Settable}
use Rattle.trace.specs.Refusals.{Meets}
use Rattle.trace.specs.Reading.{Answers, told, Reads}

-- where a record stands, no refusal's condition holds
pub met_not : (f : ReadFault) (r : Record) (rest : List ℕ) → Settable r → Meets f (bytes r ++ rest) → ⊥
met_not f r rest ok m = grind (arith, length-append)

-- two records at the front of the same bytes are the same, and so is what follows them
one_record : (r s : Record) (x y : List ℕ) → bytes r ++ x ≡ bytes s ++ y → (bytes r ≡ bytes s) × (x ≡ y)
one_record r s x y e =
    let n = length (bytes s) in
    let same : bytes r ≡ bytes s = grind (arith, take_at (bytes r) x n, take_at (bytes s) y n) in
    (same, append_cancel_left (bytes s) x y (ap (λ b. b ++ x) (sym same) ∙ e))

module _ (trace : List ℕ) (at : ℕ) where
  pub one_answer : (a b : Result (Option Placed) Refusal) (m n : ℕ) → Answers trace at a m → Answers trace at b n → (told a ≡ told b) × (m ≡ n)
  one_answer a b m n p q = grind (arith, common_steps, met_not, one_record)

  pub reads : {a : Result (Option Placed) Refusal} {n : ℕ} → Answers trace at a n → Reads trace at a n
  reads right = grind (arith, one_answer)
