-- Records that stand one behind the other.
use Rattle.std.proofs.Common.{◌≡◌, ℕ, suc, ◌+◌, ◌-◌, ◌≤◌, List, [], ◌∷◌, ◌++◌, length, take, drop, Some, None, Ok, Err, Result, sym, refl, ap, subst, arith, length-append}
use Rattle.std.proofs.lemmas.Grind.{common_steps}
use Rattle.std.proofs.lemmas.List.{drop-drop, drop_at, take_rest}
use Rattle.trace.specs.declared.reader.Reader.{Reader}
use Rattle.trace.specs.declared.records.Placed.{Placed}
use Rattle.trace.specs.declared.records.Refusal.{Refusal}
use Rattle.trace.specs.Format.{bytes, Settable}
use Rattle.trace.specs.Reading.{Stands, Answers, Reads, Tiles, none, more, Parses, Counts}
use Rattle.trace.proofs.Unique.{met_not, one_answer, reads}

-- the record at the front of what is left of a trace is the answer there
pub placed : (trace : List ℕ) (p : Placed) (behind : List ℕ) → p.at ≤ length trace → take (length trace - p.at) (drop p.at trace) ≡ bytes p.record ++ behind → Settable p.record → Reads trace p.at (Ok (Some p)) (length trace - length behind)
placed trace p behind h e ok =
    let own = bytes p.record in
    reads trace p.at (grind (arith, common_steps, take_rest trace p.at, length-append own behind, drop-drop (length own) p.at trace, drop_at own behind (length own)))

-- reading goes no further: no record stands there
abbrev Halts : List ℕ → ℕ → Type 0
Halts trace at = (p : Placed) (next : ℕ) → Stands trace at p next → ⊥

module _ {trace : List ℕ} where
  pub tiles_push : {at mid end : ℕ} {ps : List Placed} {p : Placed} → Tiles trace at ps mid → Stands trace mid p end → Tiles trace at (ps ++ p ∷ []) end
  tiles_push none s = more s none
  tiles_push (more t ts) s = more t (tiles_push ts s)

  same_way : {at m n : ℕ} {ps qs : List Placed} → Tiles trace at ps m → Tiles trace at qs n → Halts trace m → Halts trace n → (m ≡ n) × (length ps ≡ length qs)
  same_way none none hm hn = (refl, refl)
  same_way none (more s ss) hm hn = absurd (hm _ _ s)
  same_way (more s ss) none hm hn = absurd (hn _ _ s)
  same_way {at} {n = n} (more {p = p} s ss) (more {p = q} {ps = qs} t ts) hm hn =
      let next = (one_answer trace at (Ok (Some p)) (Ok (Some q)) _ _ s t).1 in
      let rest = same_way ss (subst (λ k. Tiles trace k qs n) (sym next) ts) hm hn in
      (rest.0, ap suc rest.1)

module _ (trace : List ℕ) where
  -- where reading ends
  abbrev place : Result ℕ Refusal → ℕ
  place (Ok n) = length trace
  place (Err x) = x.at

  halts : (ps : List Placed) (a : Result ℕ Refusal) → Parses trace ps a → Tiles trace 0 ps (place a) × Halts trace (place a)
  halts ps a p = grind (arith, met_not)

  one_count : (ps qs : List Placed) (a b : Result ℕ Refusal) → Parses trace ps a → Parses trace qs b → a ≡ b
  one_count ps qs a b p q = let s = halts ps a p in let t = halts qs b q in grind (arith, common_steps, same_way s.0 t.0 s.1 t.1)

  pub counts : (ps : List Placed) (a : Result ℕ Refusal) → Parses trace ps a → Counts trace a
  counts ps a right = grind (arith, one_count)

-- a reader of a trace has given the records ps, so many
pub record Passed (trace : List ℕ) (r : Reader) (count : ℕ) (ps : List Placed) : Type 0 where
  pub same : r.trace.now ≡ trace
  pub few : count ≤ r.at
  pub tiles : Tiles trace 0 ps r.at
  pub counted : length ps ≡ count

pub passed_none : (trace : List ℕ) (r : Reader) → r.trace.now ≡ trace → r.at ≡ 0 → Passed trace r 0 []
passed_none trace r same start = grind (arith, none)

pub passed_more : {trace : List ℕ} {r : Reader} {count : ℕ} {ps : List Placed} → Passed trace r count ps → (s : Reader) (p : Placed) → s.trace ≡ r.trace → Answers r.trace.now r.at (Ok (Some p)) s.at → Passed trace s (count + 1) (ps ++ p ∷ [])
passed_more past s p kept read = grind (arith, common_steps, tiles_push)

-- and where it ends then, the trace is these records, or is refused behind them
module _ {trace : List ℕ} {r : Reader} {count : ℕ} {ps : List Placed} (past : Passed trace r count ps) where
  pub passed_end : (n : ℕ) → Answers r.trace.now r.at (Ok None) n → Parses trace ps (Ok count)
  passed_end n read = grind (arith, common_steps, past)

  pub passed_refused : (x : Refusal) (n : ℕ) → Answers r.trace.now r.at (Err x) n → Parses trace ps (Err x)
  passed_refused x n read = grind (arith, common_steps, past)
