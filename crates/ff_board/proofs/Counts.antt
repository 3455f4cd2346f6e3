-- As many words are set as were, and those that were: so the same facts stand.
use Rattle.std.proofs.Common.{zero, suc, ◌≡◌, ℕ, ◌+◌, ◌<◌, ◌≤◌, ◌≢◌, ◌==◌, if◌then◌else◌, List, [], ◌∷◌, length, get_or, set, sym, refl, ap, ◌∙◌, subst, arith, Some, eq-eqb, ne_eqb}
use mathlib.Core.Logic.{dite}
use native.Mathlib.Decide.{ℕ_discrete}
use Rattle.ff_propagate.specs.declared.words.Held.{Held}
use Rattle.ff_propagate.specs.Words.{held, held_of}
use Rattle.ff_board.specs.Rule.{set_below}
use Rattle.ff_propagate.proofs.Packs.{some_of}
use Rattle.ff_board.proofs.Steps.{some_word, none_there}

abbrev pub one_of : ℕ → ℕ
one_of w = if w == 0 then 0 else 1

pub below_set : (k : ℕ) (ws : List ℕ) (n : ℕ) → k < length ws → set_below (suc k) (set ws k n) ≡ set_below k ws + one_of n
below_set k [] n l = absurd (omega arith)
below_set zero (w ∷ ws) n l = omega arith
below_set (suc k) (w ∷ ws) n l = omega (arith, below_set k ws n (omega arith))

pub below_most : (k : ℕ) (ws : List ℕ) → set_below k ws ≤ k
below_most zero ws = omega arith
below_most (suc k) [] = omega arith
below_most (suc k) (w ∷ ws) = dite (ℕ_discrete w 0) (λ z. rw (eq-eqb w 0 z) (omega (arith, below_most k ws))) (λ n. rw (ne_eqb w 0 n) (omega (arith, below_most k ws)))

head : (w x : ℕ) → ((h : Held) → held_of w ≡ Some h → held_of x ≡ Some h) → one_of w ≤ one_of x
head w x g = dite (ℕ_discrete w 0) (λ z. rw (eq-eqb w 0 z) (omega arith)) (λ n. let h = some_of w n in rw (ne_eqb w 0 n, ne_eqb x 0 (some_word x h.0 (g h.0 h.1))) (omega arith))

pub below_grows : (k : ℕ) (ws xs : List ℕ) → ((v : ℕ) (h : Held) → held ws v ≡ Some h → held xs v ≡ Some h) → set_below k ws ≤ set_below k xs
below_grows zero ws xs g = omega arith
below_grows (suc k) [] xs g = omega arith
below_grows (suc k) (w ∷ ws) [] g = dite (ℕ_discrete w 0)
    (λ z. rw (eq-eqb w 0 z) (let a = below_grows k ws [] (λ v h e. absurd (none_there [] (suc v) h refl (g (suc v) h e))) in let b : set_below k [] ≡ 0 = nothing k in omega arith))
    (λ n. let h = some_of w n in absurd (none_there [] zero h.0 refl (g zero h.0 h.1)))
  where
    nothing : (k : ℕ) → set_below k [] ≡ 0
    nothing zero = refl
    nothing (suc k) = refl
below_grows (suc k) (w ∷ ws) (x ∷ xs) g = omega (arith, head w x (g zero), below_grows k ws xs (λ v h e. g (suc v) h e))

pub same_below : (k : ℕ) (ws xs : List ℕ) → ((v : ℕ) (h : Held) → held ws v ≡ Some h → held xs v ≡ Some h) → set_below k ws ≡ set_below k xs
    → (v : ℕ) (h : Held) → v < k → held xs v ≡ Some h → held ws v ≡ Some h
same_below zero ws xs g c v h l e = absurd (omega arith)
same_below (suc k) ws [] g c v h l e = absurd (none_there [] v h refl e)
same_below (suc k) [] (x ∷ xs) g c zero h l e = let b : one_of x ≡ 1 = rw (ne_eqb x 0 (some_word x h e)) refl in absurd (omega arith)
same_below (suc k) [] (x ∷ xs) g c (suc v) h l e = same_below k [] xs (λ u f p. absurd (none_there [] u f refl p)) (let a = below_nil k in omega arith) v h (omega arith) e
  where
    below_nil : (k : ℕ) → set_below k [] ≡ 0
    below_nil zero = refl
    below_nil (suc k) = refl
same_below (suc k) (w ∷ ws) (x ∷ xs) g c zero h l e =
    let more = below_grows k ws xs (λ v h e. g (suc v) h e) in
    dite (ℕ_discrete w 0)
    (λ z. let a : one_of w ≡ 0 = rw (eq-eqb w 0 z) refl in let b : one_of x ≡ 1 = rw (ne_eqb x 0 (some_word x h e)) refl in absurd (omega arith))
    (λ n. let q = some_of w n in let e' = g zero q.0 q.1 in q.1 ∙ (sym e' ∙ e))
same_below (suc k) (w ∷ ws) (x ∷ xs) g c (suc v) h l e =
    let more = below_grows k ws xs (λ v h e. g (suc v) h e) in let first = head w x (g zero) in
    same_below k ws xs (λ v h e. g (suc v) h e) (omega arith) v h (omega arith) e

pub one_zero : (n : ℕ) → n ≡ 0 → one_of n ≡ 0
one_zero n z = rw (eq-eqb n 0 z) refl

pub one_some : (n : ℕ) → n ≢ 0 → one_of n ≡ 1
one_some n d = rw (ne_eqb n 0 d) refl
