-- Two folded faces on one side of a common edge overlap: near the middle of the edge, a step inwards is inside both.
use Rattle.std.proofs.Common.{◌≡◌, ◌≢◌, ℕ, zero, suc, ◌+◌, ◌<◌, ◌≤◌, ◌⊎◌, inl, inr, refl, sym, ◌∙◌, ap, subst, arith, ℤ, pos, negsuc, ◌+ℤ◌, ◌-ℤ◌, ◌*ℤ◌, ◌<ℤ◌, ◌≤ℤ◌, Bool, true, false, IsTrue, List, [], ◌∷◌, length}
use Rattle.std.specs.Prelude.{int_lt, T, if◌then◌else◌, nat_lt}
use Rattle.std.specs.List.{list_all, Contains}
use Rattle.std.proofs.lemmas.Int.{ints}
use Rattle.ff_whole.specs.declared.places.Place.{Place}
use Rattle.ff_whole.specs.declared.lines.Line.{Line}
use Rattle.ff_whole.specs.Places.{IsPlace, through, height, blend}
use Rattle.ff_whole.specs.Convex.{next, point_at}
use Rattle.ff_whole.proofs.Ring.{var, num, ◌⊕◌, ◌⊖◌, ◌⊗◌, opp, solve}
use Rattle.ff_whole.proofs.Signs.{linear, pos-mul, nonneg-mul, *ℤ-distrib_sub}
use Rattle.ff_whole.proofs.Laws.{one-*ℤ}
use lib.IntN.{*ℤ_comm, *ℤ-zero}
use Rattle.std.proofs.lemmas.Bool.{cases_lt, lt-ltb, le-ltb}
use Rattle.std.proofs.lemmas.Bool.Decides.{nat_tests}
use Rattle.ff_basics.proofs.Memberships.{by_member, first_member, later_member, no_member}
use Rattle.ff_basics.proofs.Lists.{all_at}
use Rattle.ff_basics.proofs.Tests.{both_of, lt_from, of_both, to_lt}
use Rattle.ff_types.specs.Rings.{corner, after, Goes}
use Rattle.ff_types.specs.Faces.{ring_at}
use Rattle.ff_types.specs.Foldings.{signed}
use Rattle.ff_types.specs.Sheets.{is_face, Sheet, lies_up}
use Rattle.ff_types.specs.Inside.{is_inside, steps, steps_from, depth, Overlap}

-- ---- depths are linear

height_blend : (l : Line) (m v : Place) (k : ℤ) → height l (record { x = k *ℤ m.x +ℤ pos 1 *ℤ v.x; y = k *ℤ m.y +ℤ pos 1 *ℤ v.y; w = k *ℤ m.w +ℤ pos 1 *ℤ v.w }) ≡ k *ℤ height l m +ℤ height l v
height_blend l m v k = solve (l.a ∷ l.b ∷ l.c ∷ m.x ∷ m.y ∷ m.w ∷ v.x ∷ v.y ∷ v.w ∷ k ∷ [])
    ((var 0 ⊗ (var 9 ⊗ var 3 ⊕ num (pos 1) ⊗ var 6) ⊕ var 1 ⊗ (var 9 ⊗ var 4 ⊕ num (pos 1) ⊗ var 7)) ⊖ var 2 ⊗ (var 9 ⊗ var 5 ⊕ num (pos 1) ⊗ var 8))
    (var 9 ⊗ ((var 0 ⊗ var 3 ⊕ var 1 ⊗ var 4) ⊖ var 2 ⊗ var 5) ⊕ ((var 0 ⊗ var 6 ⊕ var 1 ⊗ var 7) ⊖ var 2 ⊗ var 8)) refl

signed_sum : (b : Bool) (k x y : ℤ) → signed b (k *ℤ x +ℤ y) ≡ k *ℤ signed b x +ℤ signed b y
signed_sum true k x y = refl
signed_sum false k x y = solve (k ∷ x ∷ y ∷ []) (opp (var 0 ⊗ var 1 ⊕ var 2)) (var 0 ⊗ opp (var 1) ⊕ opp (var 2)) refl

depth_blend : (g : Sheet) (f : ℕ) (m v : Place) (k : ℕ) (step : ℕ × ℕ) → depth g f (blend k m 1 v) step ≡ pos k *ℤ depth g f m step +ℤ depth g f v step
depth_blend g f m v k step = ap (signed (lies_up g f)) (height_blend (through (point_at g.images step.0) (point_at g.images step.1)) m v (pos k)) ∙ signed_sum (lies_up g f) (pos k) _ _

-- ---- far enough towards the middle

-- a step of the ring on whose inner side m is, or on whose line, with v on the inner side
abbrev pub Good : Sheet → ℕ → Place → Place → ℕ × ℕ → Type 0
Good g f m v step = (pos 0 <ℤ depth g f m step) ⊎ ((depth g f m step ≡ pos 0) × (pos 0 <ℤ depth g f v step))

-- from some number of parts of m on, each step has the blend on its inner side
far_enough : (a b : ℤ) → (pos 0 <ℤ a) ⊎ ((a ≡ pos 0) × (pos 0 <ℤ b)) → (low : ℕ) × ((k : ℕ) → low ≤ k → pos 0 <ℤ (pos k *ℤ a +ℤ b))
far_enough a (pos m) (inl h) = (1, λ k l. let p = pos-mul (pos k) a (omega (arith, ints, l)) h in omega (arith, ints))
far_enough a (negsuc m) (inl h) = (m + 2, λ k l. let p = nonneg-mul (pos k) (a -ℤ pos 1) (omega (arith, ints)) (omega (arith, ints, h)) in let d = *ℤ-distrib_sub (pos k) a (pos 1) in let o = *ℤ_comm (pos k) (pos 1) ∙ one-*ℤ (pos k) in over k l (pos k *ℤ a) (omega (arith, linear))) where
  over : (k : ℕ) → m + 2 ≤ k → (z : ℤ) → pos k ≤ℤ z → pos 0 <ℤ (z +ℤ negsuc m)
  over k l z h = omega (arith, ints, l, h)
far_enough a b (inr (e, h)) = (0, λ k l. let z = ap (λ x. pos k *ℤ x) e ∙ *ℤ-zero (pos k) in omega (arith, linear))

from_test : (b : Bool) → T b → IsTrue b
from_test true t = refl
from_test false t = absurd t

all_far : (g : Sheet) (f : ℕ) (m v : Place) (l : List (ℕ × ℕ)) → ((step : ℕ × ℕ) → Contains l step → Good g f m v step) → (low : ℕ) × ((k : ℕ) → low ≤ k → IsTrue (list_all (λ step. int_lt (pos 0) (depth g f (blend k m 1 v) step)) l))
all_far g f m v [] good = (0, λ k h. refl)
all_far g f m v (step ∷ l) good = by (far_enough (depth g f m step) (depth g f v step) (good step (first_member step l step refl))) (all_far g f m v l (λ s c. good s (later_member step l s c))) where
  by : (low : ℕ) × ((k : ℕ) → low ≤ k → pos 0 <ℤ (pos k *ℤ depth g f m step +ℤ depth g f v step)) → (low : ℕ) × ((k : ℕ) → low ≤ k → IsTrue (list_all (λ step. int_lt (pos 0) (depth g f (blend k m 1 v) step)) l))
      → (low : ℕ) × ((k : ℕ) → low ≤ k → IsTrue (list_all (λ step. int_lt (pos 0) (depth g f (blend k m 1 v) step)) (step ∷ l)))
  by (a, p) (b, q) = (a + b, λ k h. of_both _ _ (to_lt _ (subst (λ z. pos 0 <ℤ z) (sym (depth_blend g f m v k step)) (p k (omega (arith, h))))) (q k (omega (arith, h))))

-- ---- the steps of a ring

record StepAt (first : ℕ) (list : List ℕ) (x y : ℕ) : Type 0 where
  at : ℕ
  inside : at < length list
  from : corner list at ≡ x
  inner : at + 1 < length list → corner list (at + 1) ≡ y
  last : at + 1 ≡ length list → y ≡ first

step_at : (first u : ℕ) (rest : List ℕ) (x y : ℕ) → Contains (steps_from first u rest) (x, y) → StepAt first (u ∷ rest) x y
step_at first u [] x y c = by_member (u, first) [] (x, y) (λ e. record { at = 0; inside = omega arith; from = ap (λ p. p.0) e; inner = λ h. absurd (omega (arith, h)); last = λ h. sym (ap (λ p. p.1) e) }) (λ n. absurd (no_member (x, y) n)) c
step_at first u (v ∷ rest) x y c = by_member (u, v) (steps_from first v rest) (x, y)
    (λ e. record { at = 0; inside = omega arith; from = ap (λ p. p.0) e; inner = λ h. ap (λ p. p.1) e; last = λ h. absurd (omega (arith, h)) })
    (λ n. let s = step_at first v rest x y n in record { at = suc s.at; inside = omega (arith, s.inside); from = s.from; inner = λ h. subst (λ k. corner (u ∷ v ∷ rest) k ≡ y) (shift s.at) (s.inner (omega (arith, h))); last = λ h. s.last (omega (arith, h)) }) c where
      shift : (k : ℕ) → suc (k + 1) ≡ suc k + 1
      shift k = omega arith

next_is : (m a : ℕ) → a < m → ((a + 1 < m) × (next m a ≡ a + 1)) ⊎ ((a + 1 ≡ m) × (next m a ≡ 0))
next_is m a h = elim (cases_lt (a + 1) m) [ inl l ↦ inl (l, grind (arith, nat_tests, l)) | inr l ↦ inr (omega (arith, h, l), grind (arith, nat_tests, l)) ]

pub step_goes : (list : List ℕ) (x y : ℕ) → Contains (steps list) (x, y) → Goes list x y
step_goes [] x y c = absurd (no_member (x, y) c)
step_goes (u ∷ rest) x y c = by (step_at u u rest x y c) where
  by : StepAt u (u ∷ rest) x y → Goes (u ∷ rest) x y
  by s = record { place = s.at; inside = s.inside; from = s.from; to = elim (next_is (length (u ∷ rest)) s.at s.inside) [ inl n ↦ ap (λ k. corner (u ∷ rest) k) n.1 ∙ s.inner n.0 | inr n ↦ ap (λ k. corner (u ∷ rest) k) n.1 ∙ sym (s.last n.0) ] }

-- Two faces overlap where a place m lies on the inner side of each of their edges, or on its line, and a place v on the
-- inner side of the latter.
pub overlap_near : (g : Sheet) (f h : ℕ) (m v : Place) → f ≢ h → f < length g.rings → h < length g.rings → IsPlace m → IsPlace v
    → ((x y : ℕ) → Goes (ring_at g.rings f) x y → Good g f m v (x, y)) → ((x y : ℕ) → Goes (ring_at g.rings h) x y → Good g h m v (x, y)) → Overlap g f h
overlap_near g f h m v d fl hl mp vp p q = by (all_far g f m v (steps (ring_at g.rings f)) (λ s c. p s.0 s.1 (step_goes (ring_at g.rings f) s.0 s.1 c))) (all_far g h m v (steps (ring_at g.rings h)) (λ s c. q s.0 s.1 (step_goes (ring_at g.rings h) s.0 s.1 c))) where
  by : (low : ℕ) × ((k : ℕ) → low ≤ k → IsTrue (list_all (λ step. int_lt (pos 0) (depth g f (blend k m 1 v) step)) (steps (ring_at g.rings f))))
      → (low : ℕ) × ((k : ℕ) → low ≤ k → IsTrue (list_all (λ step. int_lt (pos 0) (depth g h (blend k m 1 v) step)) (steps (ring_at g.rings h)))) → Overlap g f h
  by (a, x) (b, y) = record {
    differ = d;
    common = record {
      at = blend (a + b) m 1 v;
      place = let i = nonneg-mul (pos (a + b)) m.w (omega (arith, ints)) (omega (arith, ints, mp)) in let o = one-*ℤ v.w in omega (arith, linear);
      inside = of_both _ _ (of_both _ _ (lt-ltb f (length g.rings) fl) (x (a + b) (omega arith))) (of_both _ _ (of_both _ _ (lt-ltb h (length g.rings) hl) (y (a + b) (omega arith))) refl);
    };
  }

-- ---- what a place inside a face says of each step

member_step : (first u : ℕ) (rest : List ℕ) (k : ℕ) → k < length (u ∷ rest) → Contains (steps_from first u rest) (corner (u ∷ rest) k, (if nat_lt (k + 1) (length (u ∷ rest)) then corner (u ∷ rest) (k + 1) else first))
member_step first u [] zero h = first_member (u, first) [] (u, first) refl
member_step first u [] (suc k) h = absurd (omega (arith, h))
member_step first u (v ∷ rest) zero h = first_member (u, v) (steps_from first v rest) (u, (if nat_lt 1 (length (u ∷ v ∷ rest)) then v else first)) (ap (λ x. (u, x)) (rw (lt-ltb 1 (length (u ∷ v ∷ rest)) (omega arith)) refl))
member_step first u (v ∷ rest) (suc k) h = later_member (u, v) (steps_from first v rest) _ (subst (λ x. Contains (steps_from first v rest) (corner (v ∷ rest) k, x)) same (member_step first v rest k (omega (arith, h)))) where
  same : (if nat_lt (k + 1) (length (v ∷ rest)) then corner (v ∷ rest) (k + 1) else first) ≡ (if nat_lt (suc k + 1) (length (u ∷ v ∷ rest)) then corner (u ∷ v ∷ rest) (suc k + 1) else first)
  same = elim (cases_lt (k + 1) (length (v ∷ rest))) [
    | inl l ↦ rw (lt-ltb (k + 1) (length (v ∷ rest)) l, lt-ltb (suc k + 1) (length (u ∷ v ∷ rest)) (omega (arith, l))) (ap (λ x. corner (u ∷ v ∷ rest) x) (shift k))
    | inr l ↦ rw (le-ltb (k + 1) (length (v ∷ rest)) l, le-ltb (suc k + 1) (length (u ∷ v ∷ rest)) (omega (arith, l))) refl
  ] where
    shift : (k : ℕ) → suc (k + 1) ≡ suc k + 1
    shift k = omega arith

pub goes_step : (list : List ℕ) (x y : ℕ) → Goes list x y → Contains (steps list) (x, y)
goes_step [] x y s = absurd (omega (arith, s.inside))
goes_step (u ∷ rest) x y s = subst (λ z. Contains (steps (u ∷ rest)) z) (pair s.from (last ∙ s.to)) (member_step u u rest s.place s.inside) where
  last : (if nat_lt (s.place + 1) (length (u ∷ rest)) then corner (u ∷ rest) (s.place + 1) else u) ≡ after (u ∷ rest) s.place
  last = elim (cases_lt (s.place + 1) (length (u ∷ rest))) [
    | inl l ↦ rw (lt-ltb (s.place + 1) (length (u ∷ rest)) l) refl
    | inr l ↦ rw (le-ltb (s.place + 1) (length (u ∷ rest)) l) refl
  ]

  pair : {a b c d : ℕ} → a ≡ c → b ≡ d → ◌≡◌ {A = ℕ × ℕ} (a, b) (c, d)
  pair {a} {b} {c} {d} e f = ap (λ z. (z, b)) e ∙ ap (λ z. (c, z)) f

-- A place inside a face lies on the inner side of each of its steps.
pub inside_step : (g : Sheet) (f : ℕ) (s : Place) (x y : ℕ) → IsTrue (is_inside g f s) → Goes (ring_at g.rings f) x y → pos 0 <ℤ depth g f s (x, y)
inside_step g f s x y t e = lt_from (depth g f s (x, y)) (all_at (λ step. int_lt (pos 0) (depth g f s step)) (steps (ring_at g.rings f)) (both_of (is_face g f) _ t).1 (x, y) (goes_step (ring_at g.rings f) x y e))
