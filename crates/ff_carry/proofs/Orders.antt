-- The places of facts, and that they are in order.
use Rattle.std.proofs.Common.{◌≡◌, ◌⊎◌, ⊎_elim, inl, inr, ℕ, zero, suc, ◌+◌, ◌<◌, ◌≤◌, List, [], ◌∷◌, ◌++◌, length, get_or, slice_get, Bool, true, false, refl, sym, ap, ◌∙◌, subst, arith, Option, Some, None, Ordering, Less, Equal, Greater}
use mathlib.Core.Logic.{dite}
use native.Mathlib.Decide.{ℕ_discrete}
use Rattle.std.specs.Ordering.{nat_cmp, ordering_then, is_lt, MatchOrdering}
use Rattle.std.specs.Cmp.{ranks}
use Rattle.std.specs.List.{Contains}
use Rattle.std.specs.List.Sorted.{IsPermutation, IsSorted}
use Rattle.std.proofs.lemmas.Bool.{false≢true}
use Rattle.std.proofs.lemmas.List.Elements.{Contains-append_left, Contains-push, Contains-push_cases}
use Rattle.std.proofs.lemmas.List.Sorted.{Contains-permutation, IsPermutation-sym}
use Rattle.ff_propagate.specs.declared.facts.Fact.{Fact}
use Rattle.ff_propagate.specs.Facts.{fact_at}
use Rattle.ff_carry.specs.contracts.placing.PlacedOrd.TheImpl as order
use Rattle.ff_carry.specs.declared.placing.Placed.{Placed}
use Rattle.ff_carry.specs.Placing.{IsPlace, ArePlaced, AreByLevel, IsOrder}
use Rattle.ff_carry.proofs.Kept.{same_fact, some_none, inside}

-- ---- one variable more

pub none_placed : (old : List (Option Fact)) → ArePlaced old 0 []
none_placed old = record {
  each = λ p c. absurd (omega (arith, c.1));
  all = λ v h l. absurd (omega (arith, l));
}

-- a variable with a fact
pub placed_some : (old : List (Option Fact)) (n : ℕ) (list : List Placed) (f : Fact) → fact_at old n ≡ Some f → ArePlaced old n list
    → ArePlaced old (n + 1) (list ++ record { level = f.level; var = n } ∷ [])
placed_some old n list f at was = let q : Placed = record { level = f.level; var = n } in record {
  each = λ p c. ⊎_elim (was.each p) (λ (e : q ≡ p). subst (IsPlace old) e (f, at, refl)) (Contains-push_cases list q p c);
  all = λ v h l e. dite (ℕ_discrete v n)
      (λ s. let same : f ≡ h = same_fact (fact_at old n) f h at (ap (fact_at old) (sym s) ∙ e) in
      subst (Contains (list ++ q ∷ [])) (λ k. record { level = (same k).level; var = sym s k }) (Contains-push list q))
      (λ d. Contains-append_left list (q ∷ []) _ (was.all v h (omega (arith, l, d)) e));
}

-- a variable without a fact
pub placed_none : (old : List (Option Fact)) (n : ℕ) (list : List Placed) → fact_at old n ≡ None → ArePlaced old n list → ArePlaced old (n + 1) list
placed_none old n list at was = record {
  each = was.each;
  all = λ v h l e. dite (ℕ_discrete v n) (λ s. absurd (some_none (fact_at old n) h at (ap (fact_at old) (sym s) ∙ e)))
      (λ d. was.all v h (omega (arith, l, d)) e);
}

-- ---- sorted

abbrev placed_cmp : Placed → Placed → Ordering
placed_cmp = order.cmp-value.it

not_less : (a b : ℕ) (m : Ordering) → is_lt (ordering_then (nat_cmp a b) m) ≡ false → b ≤ a
not_less a b m = by (nat_cmp a b) (ranks a b) where
  by : (r : Ordering) → MatchOrdering r (a < b) (a ≡ b) (b < a) → is_lt (ordering_then r m) ≡ false → b ≤ a
  by Less l e = absurd (false≢true (sym e))
  by Equal l e = omega (arith, l)
  by Greater l e = omega (arith, l)

abbrev place_at : List Placed → ℕ → Placed
place_at list i = get_or list i (record { level = 0; var = 0 })

got : (list : List Placed) (i : ℕ) (p : Placed) → slice_get list i ≡ Some p → (i < length list) × (place_at list i ≡ p)
got [] i p e = absurd (let q : None ≡ Some p = e in cc)
got (x ∷ list) zero p e = (omega arith, let q : Some x ≡ Some p = e in cc)
got (x ∷ list) (suc i) p e = let t = got list i p e in (omega (arith, t.0), t.1)

abbrev level_at : List Placed → ℕ → ℕ
level_at list k = (place_at list k).level

last_or : (k n : ℕ) → k < n + 1 → (k < n) ⊎ (k ≡ n)
last_or k n l = grind arith

pub by_level : (list : List Placed) → IsSorted placed_cmp list → AreByLevel list
by_level list s i j p q l at there =
    let a = got list i p at in let b = got list j q there in
    let c = up i j l b.0 in
    omega (arith, c, ap (λ (x : Placed). x.level) a.1, ap (λ (x : Placed). x.level) b.1)
  where
    step : (k : ℕ) → suc k < length list → level_at list k ≤ level_at list (suc k)
    step k l = subst (λ n. level_at list k ≤ level_at list n) (let q : k + 1 ≡ suc k = omega arith in q) (not_less _ _ _ (s k _ (omega arith) (omega (arith, l))))

    up : (i j : ℕ) → i ≤ j → j < length list → level_at list i ≤ level_at list j
    up i zero l m = let e : i ≡ zero = omega (arith, l) in subst (λ n. level_at list n ≤ level_at list zero) (sym e) (omega arith)
    up i (suc j) l m = elim (last_or i (suc j) (omega (arith, l))) [
      | inl k ↦ let a = up i j (omega (arith, k)) (omega (arith, m)) in let b = step j m in omega (arith, a, b)
      | inr e ↦ subst (λ n. level_at list n ≤ level_at list (suc j)) (sym e) (omega arith)
    ]

-- ---- the order

contained : (list : List Placed) (i : ℕ) (p : Placed) → slice_get list i ≡ Some p → Contains list p
contained [] i p e = absurd (let q : None ≡ Some p = e in cc)
contained (x ∷ list) zero p e = (zero, omega arith, let q : Some x ≡ Some p = e in cc)
contained (x ∷ list) (suc i) p e = let t = contained list i p e in (suc t.0, omega (arith, t.1), t.2)

found : (list : List Placed) (k : ℕ) (p : Placed) → k < length list → get_or list k p ≡ p → slice_get list k ≡ Some p
found [] k p l e = absurd (omega (arith, l))
found (x ∷ list) zero p l e = ap Some e
found (x ∷ list) (suc k) p l e = found list k p (omega (arith, l)) e

pub in_order : (old : List (Option Fact)) (n : ℕ) (list sorted : List Placed) → length old ≡ n → ArePlaced old n list → IsPermutation list sorted
    → AreByLevel sorted → IsOrder old sorted
in_order old n list sorted wide placed same by = record {
  each = λ i p at. placed.each p (Contains-permutation sorted list p (IsPermutation-sym list sorted same) (contained sorted i p at));
  all = λ v h at.
      let l : v < n = omega (arith, wide, inside old v h at) in
      let c = Contains-permutation list sorted _ same (placed.all v h l at) in
      (c.0, found sorted c.0 _ c.1 c.2);
  sorted = by;
}
