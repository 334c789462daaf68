-- Actions one after another: there is one answer to each.
use Rattle.std.proofs.Common.{◌≡◌, ℕ, ◌+◌, ◌<◌, List, [], ◌∷◌, ◌++◌, length, get_or, take, set, Some, Ok, Err, Result, sym, refl, ap, ◌∙◌, subst, arith}
use Rattle.std.proofs.lemmas.List.{map-set, get_or-map, set-get_or, take_more_set}
use Rattle.faults.proofs.Once.{refused_once}
use Rattle.history.specs.declared.operations.Action.{Action}
use Rattle.history.specs.declared.operations.Action.TheVariants.{Call, Reply, Clear}
use Rattle.history.specs.declared.operations.Attempt.{Attempt}
use Rattle.history.specs.declared.operations.HistoryFault.{HistoryFault}
use Rattle.history.specs.declared.operations.Operation.{Operation}
use Rattle.history.specs.Limits.{limit}
use Rattle.history.specs.Order.{Ascending, Settled}
use Rattle.history.specs.Refusals.{number, Judged}
use Rattle.history.specs.Steps.{Extends, Meets, Follows, Step, Runs, none, more, actions, Replays}
use Rattle.history.proofs.Orders.{single, lawful, ascending_none, settled_none, ascending_push, settled_push, ascending_filled, settled_filled}

-- ---- one answer

judged_once : (Met : HistoryFault → Type 0) (r s : Result Unit HistoryFault) → Judged Met r → Judged Met s → r ≡ s
judged_once Met (Ok u) (Ok v) a b = refl
judged_once Met (Ok u) (Err g) a b = grind (arith, a g)
judged_once Met (Err f) (Ok v) a b = grind (arith, b f)
judged_once Met (Err f) (Err g) a b = ap Err (refused_once number Met (λ f g e. grind arith) f g a b)

-- ---- one next log

extends_once : (log : List Operation) → Settled log → (action : Action) (m n : List Operation) → Extends log action m → Extends log action n → m ≡ n
extends_once log settled (Call c) m n a b = a ∙ sym b
extends_once log settled (Reply thread reply) m n a b = grind (arith, single log settled thread)
extends_once log settled Clear m n a b = a ∙ sym b

follows_once : (log : List Operation) → Settled log → (action : Action) (r : Result Unit HistoryFault) (m n : List Operation) → Follows log action r m → Follows log action r n → m ≡ n
follows_once log settled action (Ok u) m n a b = extends_once log settled action m n a b
follows_once log settled action (Err f) m n a b = a ∙ sym b

step_once : (log : List Operation) → Settled log → (action : Action) (r s : Result Unit HistoryFault) (m n : List Operation) → Step log action r m → Step log action s n → (r ≡ s) × (m ≡ n)
step_once log settled action r s m n a b = grind (arith, judged_once (Meets log action) r s, follows_once log settled action s m n)

-- ---- laws are kept

abbrev Laws : List Operation → Type 0
Laws log = Ascending log × Settled log

laws_none : Laws []
laws_none = (ascending_none, settled_none)

extends_lawful : (log : List Operation) → Laws log → (action : Action) → ((f : HistoryFault) → Meets log action f → ⊥) → (n : List Operation) → Extends log action n → Laws n
extends_lawful log l (Call c) a n e = grind (arith, ascending_push limit log c a l.0, settled_push limit log c a l.1)
extends_lawful log l (Reply thread reply) a n e = grind (arith, ascending_filled log e.op reply l.0, settled_filled log e.op reply l.1)
extends_lawful log l Clear a n e = grind (arith, ascending_none, settled_none)

step_lawful : (log : List Operation) → Laws log → (action : Action) (r : Result Unit HistoryFault) (n : List Operation) → Step log action r n → Laws n
step_lawful log l action (Ok u) n s = extends_lawful log l action s.judged n s.follows
step_lawful log l action (Err f) n s = subst Laws (sym s.follows) l

runs_lawful : {log end : List Operation} {told : List Attempt} → Laws log → Runs log told end → Laws end
runs_lawful l none = l
runs_lawful {log} l (more {a = a} {answer = r} e s rest) = runs_lawful (step_lawful log l a.action r _ s) rest

-- ---- one run

same_attempt : (a b : Attempt) → b.action ≡ a.action → b.answer ≡ a.answer → b ≡ a
same_attempt a b f g = λ i. record { action = f i; answer = g i }

-- the same actions from the same log get the same answers and end in the same log
runs_once : (log : List Operation) → Laws log → (told other : List Attempt) (end last : List Operation) → actions other ≡ actions told → Runs log told end → Runs log other last → (other ≡ told) × (last ≡ end)
runs_once log l [] [] end last e none none = (refl, refl)
runs_once log l [] (b ∷ other) end last e r q = cc
runs_once log l (a ∷ told) [] end last e r q = cc
runs_once log l (a ∷ told) (b ∷ other) end last e (more {mid = m} {answer = r} x s rest) (more {mid = n} {answer = q} y t others) =
    let f : b.action ≡ a.action = cc in
    let g : actions other ≡ actions told = cc in
    let o = step_once log l.1 a.action r q m n s (subst (λ z. Step log z q n) f t) in
    let p = runs_once m (step_lawful log l a.action r m s) told other end last g rest (subst (λ z. Runs z other last) (sym o.1) others) in
    let answers : b.answer ≡ a.answer = y ∙ sym (ap Some o.0) ∙ sym x in
    let same = same_attempt a b f answers in
    (λ i. same i ∷ p.0 i, p.1)

-- one more
pub runs_push : {log mid end : List Operation} {told : List Attempt} {a : Attempt} {r : Result Unit HistoryFault} → Runs log told mid → a.answer ≡ Some r → Step mid a.action r end → Runs log (told ++ a ∷ []) end
runs_push none e s = more e s none
runs_push (more f t rest) e s = more f t (runs_push rest e s)

pub replays : (asked told : List Attempt) (end : List Operation) → actions told ≡ actions asked → Runs [] told end → Replays asked told end
replays asked told end e r =
    let l = runs_lawful laws_none r in
    record {
      same = e;
      right = r;
      only = λ other last f q. runs_once [] laws_none told other end last (f ∙ sym e) r q;
      lawful = lawful end l.0 l.1;
    }

-- ---- answers put beside the actions

abbrev pub told : List Attempt → ℕ → Attempt → Result Unit HistoryFault → List Attempt
told attempts i blank r = set attempts i (record { action = (get_or attempts i blank).action; answer = Some r })

pub actions_told : (attempts : List Attempt) (i : ℕ) (blank : Attempt) (r : Result Unit HistoryFault) → i < length attempts → actions (told attempts i blank r) ≡ actions attempts
actions_told attempts i blank r l =
    let action = blank.action in
    let e = get_or-map (λ a. a.action) attempts i blank action l in
    map-set (λ a. a.action) attempts i (record { action = (get_or attempts i blank).action; answer = Some r })
    ∙ ap (λ z. set (actions attempts) i z) (sym e)
    ∙ set-get_or (actions attempts) i action

pub runs_told : (attempts : List Attempt) (i : ℕ) (blank : Attempt) (r : Result Unit HistoryFault) {mid end : List Operation} → i < length attempts → Runs [] (take i attempts) mid → Step mid (get_or attempts i blank).action r end → Runs [] (take (i + 1) (told attempts i blank r)) end
runs_told attempts i blank r {mid} {end} l runs step = subst (λ z. Runs [] z end) (sym (take_more_set attempts i _ l)) (runs_push runs refl step)
