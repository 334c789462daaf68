-- What happens before what, as a log grows.
use Rattle.std.proofs.Common.{◌≡◌, ℕ, zero, suc, ◌<◌, ◌≤◌, ◌⊎◌, ◌↔◌, List, [], ◌∷◌, ◌++◌, length, set, refl, inl, inr, arith}
use Rattle.std.proofs.lemmas.Grind.{common_steps}
use mathlib.Core.Logic.Dec.{and}
use native.Mathlib.Decide.{ℕ_discrete, dec_lt}
use Rattle.std.proofs.lemmas.List.{get_or-set_other}
use Rattle.history.specs.declared.operations.Call.{Call}
use Rattle.history.specs.declared.operations.HistoryFault.{HistoryFault}
use Rattle.history.specs.declared.operations.HistoryFault.TheVariants.{ThreadBusy, AfterAbsent, AfterOpen}
use Rattle.history.specs.declared.operations.Operation.{Operation}
use Rattle.history.specs.Log.{at, Answered, opened, answered}
use Rattle.history.specs.Order.{Before, program, named, through, Ascending, Settled, Single, Lawful}
use Rattle.history.specs.Refusals.{CallMeets}
use Rattle.history.specs.Sets.{Has}
use Rattle.history.specs.Table.{Linked}
use Rattle.history.proofs.Choosing.{either?, some_below}

-- y is in the log
pub held : (log : List Operation) {x y : ℕ} → Before log x y → y < length log
held log (program l m e) = m
held log (named m h) = m
held log (through p q) = held log q

-- nothing is before anything in the empty log
pub ascending_none : Ascending []
ascending_none x y p = absurd (omega (arith, held [] p))

pub settled_none : Settled []
settled_none x y p = absurd (omega (arith, held [] p))

pub single : (log : List Operation) → Settled log → Single log
single log settled t x y b d o p = grind (arith, settled x y, settled y x, program)

pub lawful : (log : List Operation) → Ascending log → Settled log → Lawful log
lawful log ascending settled = record {
  irreflexive = λ x p. omega (arith, ascending x x p);
  transitive = λ x z y p q. through p q;
  ascending = ascending;
  settled = settled;
  single = single log settled;
}

-- ---- one link

-- program order or the after field puts x ahead of y
abbrev Direct : List Operation → ℕ → ℕ → Type 0
Direct log x y = (y < length log) × (((x < y) × ((at log x).call.thread ≡ (at log y).call.thread)) ⊎ Has (at log y).call.after.bits x)

direct_before : (log : List Operation) (x y : ℕ) → Direct log x y → Before log x y
direct_before log x y d = grind (arith, program, named)

-- what is before y is so by a last link
last_link : (log : List Operation) {x y : ℕ} → Before log x y → (z : ℕ) × Direct log z y × ((x ≡ z) ⊎ Before log x z)
last_link log {x} {y} (program l m e) = (x, (m, inl (l, e)), inl refl)
last_link log {x} {y} (named m h) = (x, (m, inr h), inl refl)
last_link log {x} {y} (through p q) = let r = last_link log q in (r.0, r.1, grind (arith, through))

direct? : (log : List Operation) (x y : ℕ) → Dec (Direct log x y)
direct? log x y =
    and (dec_lt y (length log))
    (either? (and (dec_lt x y) (ℕ_discrete (at log x).call.thread (at log y).call.thread)) (ℕ_discrete _ 1))

-- where before ascends, it can be decided
pub before? : (log : List Operation) → Ascending log → (x y : ℕ) → Dec (Before log x y)
before? log ascending x y = upto (suc y) y (omega arith)
  where
    Last : ℕ → ℕ → Type 0
    Last y z = Direct log z y × ((x ≡ z) ⊎ Before log x z)

    whole : (y : ℕ) → Dec ((z : ℕ) × (z < y) × Last y z) → Dec (Before log x y)
    whole y d = grind (arith, d, last_link log, direct_before log, ascending, through)

    upto : (n y : ℕ) → y < n → Dec (Before log x y)
    upto zero y l = absurd (omega arith)
    upto (suc n) y l = whole y (some_below (Last y) y (λ z m. and (direct? log z y) (either? (ℕ_discrete x z) (upto n z (omega arith)))))

-- ---- a log that begins with the calls of another

pub record Begins (next log : List Operation) : Type 0 where
  pub long : length log ≤ length next
  pub calls : (x : ℕ) → x < length log → (at next x).call ≡ (at log x).call

link_carried : (next log : List Operation) → Begins next log → (x y : ℕ) → Direct log x y → Direct next x y
link_carried next log b x y d = grind (arith, b.calls x, b.calls y, b.long)

pub carried : (next log : List Operation) → Begins next log → {x y : ℕ} → Before log x y → Before next x y
carried next log b {x} {y} (program l m e) = direct_before next x y (link_carried next log b x y (m, inl (l, e)))
carried next log b {x} {y} (named m h) = direct_before next x y (link_carried next log b x y (m, inr h))
carried next log b (through p q) = through (carried next log b p) (carried next log b q)

-- a link to an operation that the other log has too is a link there
link_recalled : (next log : List Operation) → Begins next log → (x y : ℕ) → y < length log → Direct next x y → Direct log x y
link_recalled next log b x y n d = grind (arith, b.calls x, b.calls y)

-- what is before such an operation is so there
pub recalled : (next log : List Operation) → Begins next log → Ascending next → {x y : ℕ} → Before next x y → y < length log → Before log x y
recalled next log b ascending {x} {y} (program l m e) n = direct_before log x y (link_recalled next log b x y n (m, inl (l, e)))
recalled next log b ascending {x} {y} (named m h) n = direct_before log x y (link_recalled next log b x y n (m, inr h))
recalled next log b ascending (through {x} {z} {y} p q) n =
    let l = ascending z y q in
    through (recalled next log b ascending p (omega arith)) (recalled next log b ascending q n)

-- ---- one call more

pub begins_push : (log : List Operation) (o : Operation) → Begins (log ++ o ∷ []) log
begins_push log o = record { long = grind (arith, common_steps); calls = λ x l. grind (arith, common_steps) }

-- an operation of the longer log is the new one or an old one
pub new_or_old : (log : List Operation) (o : Operation) (y : ℕ) → y < length (log ++ o ∷ []) → (y ≡ length log) ⊎ (y < length log)
new_or_old log o y l = grind (arith, common_steps)

-- a call that is accepted names operations that are held and answered, and its thread is idle
module _ (limit : ℕ) (log : List Operation) (c : Call) (accepted : (f : HistoryFault) → CallMeets limit log c f → ⊥) where
  abbrev grown : List Operation
  grown = log ++ opened c ∷ []

  names_held : (x : ℕ) → Has c.after.bits x → x < length log
  names_held x h = grind (arith, accepted AfterAbsent)

  -- a link to the new operation
  new_link : (x : ℕ) → Direct grown x (length log) ↔ Linked log c x
  new_link x = grind (arith, common_steps)

  link_settled : (x : ℕ) → Linked log c x → Answered log x
  link_settled x l = grind (arith, accepted ThreadBusy, accepted AfterOpen, names_held)

  -- a law of links that holds of the old ones and of the new ones holds of all
  each_link : (P : ℕ → ℕ → Type 0) → ((x y : ℕ) → Before log x y → P x y) → ((x : ℕ) → Linked log c x → P x (length log)) → (x y : ℕ) → Direct grown x y → P x y
  each_link P old new x y d = grind (arith, new_or_old log (opened c) y d.0, old x y, new x, new_link x, direct_before log x y, link_recalled grown log (begins_push log (opened c)) x y)

  pub ascending_push : Ascending log → Ascending grown
  ascending_push ascending x y p = go p
    where
      link : (x y : ℕ) → Direct grown x y → x < y
      link = each_link (λ x y. x < y) ascending (λ x l. (link_settled x l).0)

      go : {x y : ℕ} → Before grown x y → x < y
      go {x} {y} (program l m e) = l
      go {x} {y} (named m h) = link x y (m, inr h)
      go (through p q) = let a = go p in let b = go q in omega arith

  answered_push : (x : ℕ) → Answered log x → Answered grown x
  answered_push x a = grind (arith, common_steps)

  pub settled_push : Settled log → Settled grown
  settled_push settled x y p = answered_push x (go p)
    where
      link : (x y : ℕ) → Direct grown x y → Answered log x
      link = each_link (λ x y. Answered log x) settled link_settled

      go : {x y : ℕ} → Before grown x y → Answered log x
      go {x} {y} (program l m e) = link x y (m, inl (l, e))
      go {x} {y} (named m h) = link x y (m, inr h)
      go (through p q) = go p

  -- what is before the new operation: a link to it, or what is before one
  pub new_before : Ascending log → (x : ℕ) → Before grown x (length log) ↔ (Linked log c x ⊎ ((z : ℕ) × Linked log c z × Before log x z))
  new_before ascending x = (
    λ p. let r = last_link grown p in grind (arith, new_link r.0, link_settled r.0, recalled grown log (begins_push log (opened c)) (ascending_push ascending)),
    λ l. grind (arith, new_link, direct_before grown, carried grown log (begins_push log (opened c)), through),
  )

-- ---- a reply

module _ (log : List Operation) (i : ℕ) (reply : ℕ × ℕ) where
  abbrev pub filled : List Operation
  filled = set log i (answered (at log i) reply)

  same_call : (x : ℕ) → x < length log → (at filled x).call ≡ (at log x).call
  same_call x l = grind (arith, common_steps, get_or-set_other)

  pub begins_filled : Begins filled log
  begins_filled = record { long = grind (arith, common_steps); calls = same_call }

  pub filled_begins : Begins log filled
  filled_begins = record { long = grind (arith, common_steps); calls = λ x l. grind (arith, common_steps, same_call) }

  pub ascending_filled : Ascending log → Ascending filled
  ascending_filled ascending x y p = ascending x y (carried log filled filled_begins p)

  pub settled_filled : Settled log → Settled filled
  settled_filled settled x y p = let a = settled x y (carried log filled filled_begins p) in grind (arith, common_steps)
