-- A strip has an end: from each border to the next, fewer pairs of bars have still to meet.
use Rattle.std.proofs.Common.{ℕ, zero, suc, ◌≡◌, ◌⊎◌, inl, inr, ◌+◌, ◌<◌, ◌≤◌, List, [], ◌∷◌, length, get_or, arith, refl, sym, ap, subst, ◌∙◌, ℤ, pos, ◌*ℤ◌, ◌<ℤ◌, Bool, true, false, ◌&&◌, cond, int_lt, true≢false}
use borrow.Author.Differences.{true_is_lt}
use Rattle.std.specs.List.{sum_by, count_by, Contains}
use Rattle.std.proofs.lemmas.Int.{ints}
use Rattle.std.proofs.lemmas.List.Sums.{sum_by-cons}
use Rattle.ff_whole.proofs.Signs.{linear, pos-mul, pos-mul_neg, pos_from_mul}
use Rattle.ff_whole.specs.Places.{slant}
use Rattle.ff_whole.specs.declared.places.Place.{Place}
use Rattle.ff_cells.specs.declared.bars.Bar.{Bar}
use Rattle.ff_cells.specs.Gap.{run, gap}
use Rattle.ff_cells.specs.Start.{ClosesAt}
use Rattle.ff_cells.specs.Next.{approaches, pairs_left, Meeting, IsNext, StartsUp}
use Rattle.std.proofs.Common.{Ordering}
use Rattle.std.proofs.Common.Ordering.{Less, Equal, Greater}
use Rattle.std.specs.Ordering.{int_cmp, is_lt, MatchOrdering, ordering_index}
use Rattle.std.specs.Bool.{◌==◌}
use Rattle.ff_cells.specs.Start.{starts_lower}
use Rattle.ff_cells.proofs.Starts.{starts_below}
use Rattle.std.specs.Cmp.{int_ranks}
use Rattle.std.specs.List.Sorted.{IsPermutation, IsSortedBy}
use Rattle.std.proofs.lemmas.List.Sorted.{Contains-permutation, IsPermutation-sym}
use Rattle.ff_basics.proofs.Tests.{first_true, second_true, true_and}
use Rattle.ff_cells.specs.Before.{x_before}
use Rattle.ff_cells.proofs.Gaps.{gap-slant}

pub sum_by-mono : {X : Type 0} (f g : X → ℕ) (xs : List X) → ((x : X) → f x ≤ g x) → sum_by f xs ≤ sum_by g xs
sum_by-mono f g [] h = omega arith
sum_by-mono f g (x ∷ xs) h = omega (arith, sum_by-cons f x xs, sum_by-cons g x xs, h x, sum_by-mono f g xs h)

pub sum_by-less : {X : Type 0} (f g : X → ℕ) (xs : List X) (i : ℕ) (d : X) → ((x : X) → f x ≤ g x)
    → i < length xs → f (get_or xs i d) < g (get_or xs i d) → sum_by f xs < sum_by g xs
sum_by-less f g [] i d h lt k = absurd (omega arith)
sum_by-less f g (x ∷ xs) zero d h lt k = omega (
  arith,
  sum_by-cons f x xs,
  sum_by-cons g x xs,
  k,
  sum_by-mono f g xs h,
)
sum_by-less f g (x ∷ xs) (suc i) d h lt k = omega (
  arith,
  sum_by-cons f x xs,
  sum_by-cons g x xs,
  h x,
  sum_by-less f g xs i d h (omega arith) k,
)

cond-le : (a b : Bool) → (a ≡ true → b ≡ true) → cond a 1 0 ≤ cond b 1 0
cond-le false b h = omega arith
cond-le true true h = omega arith
cond-le true false h = absurd (true≢false (sym (h refl)))

cond-less : (a b : Bool) → a ≡ false → b ≡ true → cond a 1 0 < cond b 1 0
cond-less a b h k = rw (h, k) (omega arith)

-- a pair that has still to meet right of a place has still to meet right of each place on the left
keeps : (left right : Place) (k l : Bar) → pos 0 <ℤ left.w → pos 0 <ℤ right.w → pos 0 <ℤ run left right
    → approaches right k l ≡ true → approaches left k l ≡ true
keeps left right k l hl hr wide h =
    let a : pos 0 <ℤ gap k.line l.line right = (let t = first_true (int_lt (pos 0) (gap k.line l.line right))
    (int_lt (slant k.line l.line) (pos 0)) h in omega (arith, ints)) in
    let s = second_true (int_lt (pos 0) (gap k.line l.line right)) (int_lt (slant k.line l.line) (pos 0)) h in
    let c : slant k.line l.line <ℤ pos 0 = omega (arith, ints) in
    true_and (int_lt (pos 0) (gap k.line l.line left)) (int_lt (slant k.line l.line) (pos 0))
    (yes (pos 0) (gap k.line l.line left) (apart a c)) s
  where
    yes : (a b : ℤ) → a <ℤ b → int_lt a b ≡ true
    yes a b h = sym (true_is_lt a b (omega (arith, ints)))

    apart : pos 0 <ℤ gap k.line l.line right → slant k.line l.line <ℤ pos 0 → pos 0 <ℤ gap k.line l.line left
    apart a c =
        let e = gap-slant k.line l.line left right in
        let u = pos-mul left.w (gap k.line l.line right) hl a in
        let v = pos-mul_neg (run left right) (slant k.line l.line) wide c in
        pos_from_mul right.w (gap k.line l.line left) hr (omega (arith, linear))

met : (left right : Place) (k l : Bar) → ClosesAt left right k.line l.line → (approaches left k l ≡ true)
    × (approaches right k l ≡ false)
met left right k l c = (
  true_and (int_lt (pos 0) (gap k.line l.line left)) (int_lt (slant k.line l.line) (pos 0))
      (yes (pos 0) (gap k.line l.line left) c.apart) (yes (slant k.line l.line) (pos 0) c.closing),
  none (gap k.line l.line right) c.meets,
)
  where
    yes : (a b : ℤ) → a <ℤ b → int_lt a b ≡ true
    yes a b h = sym (true_is_lt a b (omega (arith, ints)))

    none : (g : ℤ) → g ≡ pos 0 → (int_lt (pos 0) g && int_lt (slant k.line l.line) (pos 0)) ≡ false
    none g h = rw h refl

pub fewer : (left right : Place) (v : List Bar) (k l : Bar) → pos 0 <ℤ left.w → pos 0 <ℤ right.w
    → pos 0 <ℤ run left right → Contains v k → Contains v l → ClosesAt left right k.line l.line
    → pairs_left right v < pairs_left left v
fewer left right v k l hl hr wide (i, lt, at_k) (j, gt, at_l) c =
    sum_by-less (λ a. count_by (approaches right a) v) (λ a. count_by (approaches left a) v) v i k
    (λ a. sum_by-mono (λ b. cond (approaches right a b) 1 0) (λ b. cond (approaches left a b) 1 0) v
    (λ b. cond-le (approaches right a b) (approaches left a b) (keeps left right a b hl hr wide))) lt
    (subst (λ a. count_by (approaches right a) v < count_by (approaches left a) v) (sym at_k)
    (sum_by-less (λ b. cond (approaches right k b) 1 0) (λ b. cond (approaches left k b) 1 0) v j l
    (λ b. cond-le (approaches right k b) (approaches left k b) (keeps left right k b hl hr wide)) gt
    (subst (λ b. cond (approaches right k b) 1 0 < cond (approaches left k b) 1 0) (sym at_l)
    (let m = met left right k l c in cond-less (approaches right k l) (approaches left k l) m.1 m.0))))

fewer_or_same : (left right : Place) (v : List Bar) → pos 0 <ℤ left.w → pos 0 <ℤ right.w
    → pos 0 <ℤ run left right → pairs_left right v ≤ pairs_left left v
fewer_or_same left right v hl hr wide =
    sum_by-mono (λ a. count_by (approaches right a) v) (λ a. count_by (approaches left a) v) v
    (λ a. sum_by-mono (λ b. cond (approaches right a b) 1 0) (λ b. cond (approaches left a b) 1 0) v
    (λ b. cond-le (approaches right a b) (approaches left a b) (keeps left right a b hl hr wide)))

abbrev pub bit : Bool → ℕ
bit b = cond b 1 0

-- a border with no border before it comes last
abbrev pub to_go : Place → Place → List Bar → ℕ
to_go left limit v = bit (x_before left limit) + pairs_left left v

not_before : (p : Place) → x_before p p ≡ false
not_before p = same (int_cmp (p.x *ℤ p.w) (p.x *ℤ p.w)) (int_ranks (p.x *ℤ p.w) (p.x *ℤ p.w))
  where
    same : (r : Ordering) → MatchOrdering r ((p.x *ℤ p.w) <ℤ (p.x *ℤ p.w)) (p.x *ℤ p.w ≡ p.x *ℤ p.w)
        ((p.x *ℤ p.w) <ℤ (p.x *ℤ p.w)) → is_lt r ≡ false
    same Less m = absurd (omega (arith, linear))
    same Equal m = refl
    same Greater m = refl

pub next_is_less : (left limit right : Place) (v w : List Bar) → pos 0 <ℤ left.w → pos 0 <ℤ right.w
    → x_before left limit ≡ true → IsPermutation v w → IsNext left limit w (length w) right
    → to_go right limit v < to_go left limit v
next_is_less left limit right v w hl hr go same n = each n.from
  where
    at_most : (b : Bool) → bit b ≤ 1
    at_most true = omega arith
    at_most false = omega arith

    one : bit (x_before left limit) ≡ 1
    one = ap bit go

    each : (right ≡ limit) ⊎ Meeting left right w → to_go right limit v < to_go left limit v
    each (inl e) =
        let zero_now : bit (x_before right limit) ≡ 0 = ap bit
        (ap (λ p. x_before p limit) e ∙ not_before limit) in
        let o = one in
        let f = fewer_or_same left right v hl hr n.ahead in
        omega arith
    each (inr m) =
        let low : Contains v m.low = Contains-permutation w v m.low (IsPermutation-sym v w same) (
          m.index,
          (omega arith),
          sym m.low_is,
        ) in
        let high : Contains v m.high = Contains-permutation w v m.high (IsPermutation-sym v w same)
        (m.index + 1, m.within, sym m.high_is) in
        let f = fewer left right v m.low m.high hl hr n.ahead low high m.closes in
        let o = one in let b = at_most (x_before right limit) in
        omega arith

pub is_less : (r : Ordering) → (ordering_index r == 0) ≡ true → is_lt r ≡ true
is_less Less h = refl
is_less Equal h = absurd (true≢false (sym h))
is_less Greater h = absurd (true≢false (sym h))

pub run_of_before : (p q : Place) → x_before p q ≡ true → pos 0 <ℤ run p q
run_of_before p q h = less (int_cmp (p.x *ℤ q.w) (q.x *ℤ p.w)) (int_ranks (p.x *ℤ q.w) (q.x *ℤ p.w)) h
  where
    less : (r : Ordering) → MatchOrdering r ((p.x *ℤ q.w) <ℤ (q.x *ℤ p.w)) (p.x *ℤ q.w ≡ q.x *ℤ p.w)
        ((q.x *ℤ p.w) <ℤ (p.x *ℤ q.w)) → is_lt r ≡ true → pos 0 <ℤ run p q
    less Less m h = omega (arith, linear)
    less Equal m h = absurd (true≢false (sym h))
    less Greater m h = absurd (true≢false (sym h))

-- what `sort_bars` ensures
abbrev pub IsStartSorted : Place → List Bar → Type 0
IsStartSorted at v = IsSortedBy (λ (a : Bar) (b : Bar). starts_lower at a.line b.line) v

pub starts_up : (at : Place) (v : List Bar) → IsStartSorted at v → StartsUp at v
starts_up at v h k d b = starts_below at (get_or v k d).line (get_or v (k + 1) d).line (h k d (omega arith) b)
