-- The names of an after field, one member further, and a letter with its name.
use Rattle.std.proofs.Common.{◌≡◌, ℕ, zero, suc, ◌+◌, ◌-◌, ◌<◌, ◌≤◌, false, ◌==◌, Some, None, sym, ap, ◌∙◌, subst, cond, List, [], ◌∷◌, ◌++◌, codes, decimal, arith}
use lib.Utf8.{encode}
use Rattle.std.proofs.lemmas.Bool.{cond-false, ne_eqb}
use Rattle.std.proofs.lemmas.Grind.{common_steps, flat_map-append}
use Rattle.std.proofs.lemmas.Str.Ascii.{encode_ascii}
use Rattle.std.proofs.lemmas.List.FromFn.{map-range_with_len_more}
use Rattle.std.proofs.lemmas.List.{append-nil, map-id}
use Rattle.history.specs.Sets.{Has, Empty, Next}
use Rattle.history.proofs.Membership.{none_has, empty_decides}
use Rattle.listing.specs.Words.{named, names, names_below}

pub names_more : (n after : ℕ) → names_below (n + 1) after ≡ names_below n after ++ cond (named after n) (codes " " ++ decimal n) []
names_more n after = grind (arith, append-nil, map-id, flat_map-append, map-range_with_len_more (λ i. i) 0 n n)

-- past numbers that are not named, nothing is added
names_past : (after n d : ℕ) → ((j : ℕ) → n ≤ j → j < n + d → Has after j → ⊥) → names_below (n + d) after ≡ names_below n after
names_past after n zero none = grind arith
names_past after n (suc d) none = grind (arith, append-nil, names_more (n + d) after, none (n + d), names_past after n d (λ j a b. none j a (omega arith)))

-- the next member's name is added
pub names_next : (after n i : ℕ) → Next after n (Some i) → names_below n after ++ (codes " " ++ decimal i) ≡ names_below (i + 1) after
names_next after n i next = grind (arith, names_more i after, next, names_past after n (i - n))

pub names_all : (after n : ℕ) → (Empty after → ⊥) → n ≤ 16 → Next after n None → names_below n after ≡ names after
unfolding names
names_all after n some l none =
    let zero : (after == 0) ≡ false = ne_eqb after 0 (λ e. some (subst Empty (sym e) none_has)) in
    let whole : 16 ≡ n + (16 - n) = omega arith in
    sym (cond-false _ _ _ zero ∙ ap (λ k. names_below k after) whole ∙ names_past after n (16 - n) (λ j a b. none j a))

pub names_none : (after : ℕ) → Empty after → codes " none" ≡ names after
unfolding names
names_none after e = grind (arith, empty_decides after 0, none_has, e)

-- a letter and a name, as `{letter}, {name}` writes them
pub lettered : {c d : ℕ} {n m : List ℕ} → c ≡ d → c < 128 → n ≡ m → encode c ++ (codes ", " ++ n) ≡ d ∷ codes ", " ++ m
lettered same ascii name = grind (arith, encode_ascii)

-- what the Displays of words try
pub ruleset naming = (common_steps, lettered)
