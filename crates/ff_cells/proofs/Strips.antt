-- The bars between two neighbouring ends of bars make a strip.
use Rattle.std.proofs.Common.{zero, suc, cond, ℕ, ◌≡◌, ◌⊎◌, inl, inr, ◌<◌, List, [], ◌∷◌, length, get_or, arith, refl, sym, ap, ◌∙◌, ℤ, pos, ◌≤ℤ◌, Bool, true, false, ◌&&◌, filter, true≢false}
use lib.IntN.{◌-ℤ◌}
use lib.Signed.{le_z}
use Rattle.std.specs.Prelude.{int_le}
use Rattle.std.proofs.lemmas.Int.{ints}
use Rattle.std.specs.List.{Contains}
use Rattle.std.specs.List.Sorted.{IsPermutation}
use Rattle.std.proofs.lemmas.List.Elements.{All-filter, All-contains_itself, filter_passes}
use Rattle.std.proofs.lemmas.List.Sorted.{Contains-permutation, All-permutation}
use Rattle.ff_basics.proofs.Tests.{first_true, second_true}
use Rattle.ff_whole.proofs.Ring.{var, num, ◌⊖◌, ◌⊗◌, solve}
use Rattle.ff_whole.proofs.Signs.{linear}
use Rattle.ff_whole.specs.declared.points.Pt.{Pt}
use Rattle.ff_cells.specs.declared.bars.Bar.{Bar}
use Rattle.ff_cells.specs.Gap.{run, spot}
use Rattle.ff_cells.specs.Sheet.{Spans}
use Rattle.ff_cells.specs.Next.{IsStrip}
use Rattle.ff_cells.specs.Strip.{spans_strip, at_x}

-- for whole x `run` is the difference
pub run_to : (p : Pt) (a : ℤ) → run (spot p) (at_x a) ≡ a -ℤ p.x
run_to p a = solve (p.x ∷ a ∷ []) (var 1 ⊗ num (pos 1) ⊖ var 0 ⊗ num (pos 1)) (var 1 ⊖ var 0) refl

pub run_from : (p : Pt) (a : ℤ) → run (at_x a) (spot p) ≡ p.x -ℤ a
run_from p a = solve (p.x ∷ a ∷ []) (var 0 ⊗ num (pos 1) ⊖ var 1 ⊗ num (pos 1)) (var 0 ⊖ var 1) refl

-- no bar ends between a and c
abbrev pub IsFree : List Bar → ℤ → ℤ → Type 0
IsFree bars a c = (b : Bar) → Contains bars b → ((b.lo.x ≤ℤ a) × (c ≤ℤ b.hi.x))
    ⊎ ((b.hi.x ≤ℤ a) ⊎ (c ≤ℤ b.lo.x))

yes : (a b : ℤ) → a ≤ℤ b → int_le a b ≡ true
yes a b h = grind (arith, ints)

spans_of : (a c : ℤ) (b : Bar) → (b.lo.x ≤ℤ a) → (c ≤ℤ b.hi.x) → Spans (at_x a) (at_x c) b
spans_of a c b h k = record {
  after = (let e = run_to b.lo a in omega (arith, linear));
  before = (let e = run_from b.hi c in omega (arith, linear));
}

test_of : (a c : ℤ) (b : Bar) → spans_strip a c b ≡ true → Spans (at_x a) (at_x c) b
test_of a c b h =
    let u = first_true (int_le b.lo.x a) (int_le c b.hi.x) h in
    let v = second_true (int_le b.lo.x a) (int_le c b.hi.x) h in
    spans_of a c b (omega (arith, ints)) (omega (arith, ints))

has_cons : {X : Type 0} (t : Bool) (x b : X) (ys : List X) → Contains ys b → Contains (cond t (x ∷ ys) ys) b
has_cons true x b ys (k, lt, e) = (suc k, omega arith, e)
has_cons false x b ys h = h

has_head : {X : Type 0} (t : Bool) (x b : X) (ys : List X) → t ≡ true → x ≡ b
    → Contains (cond t (x ∷ ys) ys) b
has_head true x b ys h e = (zero, omega arith, e)
has_head false x b ys h e = absurd (true≢false (sym h))

-- what passes the test is kept
pub filter-has : {X : Type 0} (p : X → Bool) (xs : List X) (b : X) → Contains xs b → p b ≡ true
    → Contains (filter p xs) b
filter-has p [] b (k, lt, e) h = absurd (omega arith)
filter-has p (x ∷ xs) b (zero, lt, e) h = has_head (p x) x b (filter p xs) (ap p e ∙ h) e
filter-has p (x ∷ xs) b (suc k, lt, e) h = has_cons (p x) x b (filter p xs)
    (filter-has p xs b (k, omega arith, e) h)

pub strip_of : (bars v : List Bar) (a c : ℤ) → IsFree bars a c
    → IsPermutation (filter (spans_strip a c) bars) v → IsStrip (Contains bars) (at_x a) (at_x c) v
strip_of bars v a c free same = record {
  from_positive = omega (arith, ints);
  limit_positive = omega (arith, ints);
  quiet = λ b h. ends b (free b h);
  all = λ b h s. Contains-permutation (filter (spans_strip a c) bars) v b same
      (filter-has (spans_strip a c) bars b h (passes b s));
  only_has = λ k d lt. (kept k d lt).0;
  only_spans = λ k d lt. test_of a c (get_or v k d) (kept k d lt).1;
}
  where
    ends : (b : Bar) → ((b.lo.x ≤ℤ a) × (c ≤ℤ b.hi.x)) ⊎ ((b.hi.x ≤ℤ a) ⊎ (c ≤ℤ b.lo.x))
        → Spans (at_x a) (at_x c) b ⊎ ((pos 0 ≤ℤ run (spot b.hi) (at_x a))
        ⊎ (pos 0 ≤ℤ run (at_x c) (spot b.lo)))
    ends b (inl (h, k)) = inl (spans_of a c b h k)
    ends b (inr (inl h)) = inr (inl (let e = run_to b.hi a in omega (arith, linear)))
    ends b (inr (inr h)) = inr (inr (let e = run_from b.lo c in omega (arith, linear)))

    passes : (b : Bar) → Spans (at_x a) (at_x c) b → spans_strip a c b ≡ true
    passes b s =
        let e = run_to b.lo a in let f = run_from b.hi c in let g = s.after in let h = s.before in
        rw (yes b.lo.x a (omega (arith, linear)), yes c b.hi.x (omega (arith, linear))) refl

    kept : (k : ℕ) (d : Bar) → k < length v → Contains bars (get_or v k d)
        × (spans_strip a c (get_or v k d) ≡ true)
    kept k d lt = (
      All-permutation (Contains bars) (filter (spans_strip a c) bars) v same
          (All-filter (spans_strip a c) (Contains bars) bars (All-contains_itself bars)) k d lt,
      All-permutation (λ (b : Bar). spans_strip a c b ≡ true) (filter (spans_strip a c) bars) v same
          (filter_passes (spans_strip a c) bars) k d lt,
    )
