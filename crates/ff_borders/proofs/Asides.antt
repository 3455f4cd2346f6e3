-- A face of an edge that holds a plain border place lies on one side of every edge there, and doesn't have
-- the place inside.
use Rattle.std.proofs.Common.{◌≡◌, ◌≢◌, ℕ, ◌<◌, refl, arith, ℤ, pos, ◌*ℤ◌, ◌<ℤ◌, ◌≤ℤ◌, IsTrue, List, [], ◌∷◌, length}
use lib.IntN.{neg_ℤ}
use Rattle.std.specs.Prelude.{int_le}
use Rattle.ff_basics.proofs.Lists.{all_at, all_from}
use Rattle.ff_basics.proofs.Tests.{at_most_from, le_from, not_true, to_at_most, to_le}
use Rattle.ff_whole.specs.declared.points.Pt.{Pt}
use Rattle.ff_whole.specs.declared.places.Place.{Place}
use Rattle.ff_whole.specs.Points.{minus, dot}
use Rattle.ff_whole.specs.Places.{IsPlace, place_of, height}
use Rattle.ff_whole.specs.Convex.{point_at}
use Rattle.ff_whole.proofs.Ring.{var, ◌⊗◌, opp, solve}
use Rattle.ff_whole.proofs.Signs.{linear, pos-mul, nonneg-mul, nonneg_from_mul, pos_from_mul, zero-mul}
use Rattle.ff_whole.proofs.Alongs.{leads, aside, parallel-height}
use Rattle.ff_types.specs.declared.patterns.Pattern.{Pattern}
use Rattle.ff_types.specs.declared.faces.Faces.{Faces}
use Rattle.ff_types.specs.declared.faces.Folded.{Folded}
use Rattle.ff_types.specs.Rings.{Goes}
use Rattle.ff_types.specs.Faces.{ring_at}
use Rattle.ff_types.specs.Sheets.{Sheet, sheet_of, tail, head, line_of}
use Rattle.ff_types.specs.Covering.{lies_left, lies_right}
use Rattle.ff_types.specs.FoldedPatterns.{IsFoldedPattern}
use Rattle.ff_types.proofs.CreaseOverlap.{Listed}
use Rattle.ff_borders.specs.Lying.{IsLeftAlone, IsRightAlone}
use Rattle.ff_borders.proofs.Steps.{step_line, long, step_left, step_wide}
use Rattle.ff_borders.proofs.Parallels.{listed_from, from_listing}

-- ---- a line along the edge from p to q with a common place: its heights are those over the edge, times a factor

-- by a positive factor the signs are the same, by a negative one they are the others
same_sign : (dd c x y : ℤ) → pos 0 <ℤ dd → dd *ℤ x ≡ c *ℤ y → pos 0 <ℤ c
    → (pos 0 ≤ℤ x → pos 0 ≤ℤ y) × (pos 0 <ℤ x → pos 0 <ℤ y)
same_sign dd c x y long e more = (
  (λ h. let p = nonneg-mul dd x (omega (arith, linear)) h in
      nonneg_from_mul c y more (omega (arith, linear))),
  (λ h. let p = pos-mul dd x long h in pos_from_mul c y more (omega (arith, linear))),
)

other_sign : (dd c x y : ℤ) → pos 0 <ℤ dd → dd *ℤ x ≡ c *ℤ y → c <ℤ pos 0
    → (pos 0 ≤ℤ x → y ≤ℤ pos 0) × (pos 0 <ℤ x → y <ℤ pos 0)
other_sign dd c x y long e less = (
  (λ h. let p = nonneg-mul dd x (omega (arith, linear)) h in let n = opposite c y in
      let q = nonneg_from_mul (neg_ℤ c) (neg_ℤ y) (omega (arith, linear)) (omega (arith, linear)) in
      omega (arith, linear)),
  (λ h. let p = pos-mul dd x long h in let n = opposite c y in
      let q = pos_from_mul (neg_ℤ c) (neg_ℤ y) (omega (arith, linear)) (omega (arith, linear)) in
      omega (arith, linear)),
) where
  opposite : (c y : ℤ) → neg_ℤ c *ℤ neg_ℤ y ≡ c *ℤ y
  opposite c y = solve (c ∷ y ∷ []) (opp (var 0) ⊗ opp (var 1)) (var 0 ⊗ var 1) refl

-- how far a face lies to the left of the edge e: its sign tells the side
pub record IsAside (g : Sheet) (e f : ℕ) (c : ℤ) : Type 0 where
  pub some : c ≢ pos 0
  pub left : pos 0 <ℤ c → IsLeftAlone g e f
  pub right : c <ℤ pos 0 → IsRightAlone g e f

-- ---- tests of sides

abbrev above : Sheet → ℕ → ℕ → ℤ
above g e v = height (line_of g e) (place_of (point_at g.images v))

pub left_from : (g : Sheet) (e f : ℕ) → ((v : ℕ) → Listed (ring_at g.rings f) v → pos 0 ≤ℤ above g e v)
    → IsTrue (lies_left g e f)
left_from g e f h = all_from (λ v. int_le (pos 0) (above g e v)) (ring_at g.rings f)
    (λ v m. to_le (above g e v) (h v (listed_from (ring_at g.rings f) v m)))

pub left_at : (g : Sheet) (e f v : ℕ) → IsTrue (lies_left g e f) → Listed (ring_at g.rings f) v
    → pos 0 ≤ℤ above g e v
left_at g e f v t m = le_from (above g e v)
    (all_at (λ v. int_le (pos 0) (above g e v)) (ring_at g.rings f) t v
    (from_listing (ring_at g.rings f) v m))

pub right_from : (g : Sheet) (e f : ℕ) → ((v : ℕ) → Listed (ring_at g.rings f) v → above g e v ≤ℤ pos 0)
    → IsTrue (lies_right g e f)
right_from g e f h = all_from (λ v. int_le (above g e v) (pos 0)) (ring_at g.rings f)
    (λ v m. to_at_most (above g e v) (h v (listed_from (ring_at g.rings f) v m)))

pub right_at : (g : Sheet) (e f v : ℕ) → IsTrue (lies_right g e f) → Listed (ring_at g.rings f) v
    → above g e v ≤ℤ pos 0
right_at g e f v t m = at_most_from (above g e v)
    (all_at (λ v. int_le (above g e v) (pos 0)) (ring_at g.rings f) t v
    (from_listing (ring_at g.rings f) v m))

-- ---- faces beside the edge

module _ {pattern : Pattern} {faces : Faces} {folded : Folded}
    (h : IsFoldedPattern pattern faces folded) where
  abbrev g : Sheet
  g = sheet_of pattern faces folded

  abbrev ring : ℕ → List ℕ
  ring f = ring_at faces.rings f

  abbrev way : ℕ → Pt
  way e = minus (head g e) (tail g e)

  -- a step of the face along the edge e, with a place of both
  pub by_step : (e f x y : ℕ) (s : Place) → e < length pattern.edges → f < length faces.rings
      → Goes (ring f) x y → IsPlace s → height (line_of g e) s ≡ pos 0
      → height (step_line g f (x, y)) s ≡ pos 0 → leads (step_line g f (x, y)) (way e) ≡ pos 0
      → IsAside g e f (leads (step_line g f (x, y)) (aside (way e)))
  by_step e f x y s el fl goes positive on at par = record {
    some = λ z. by_wide (λ v m more. let u = scaled v in let n = zero-mul c (above g e v) z in
        let p = pos-mul dd (over v) (long h e el) more in omega (arith, linear));
    left = λ more. (
      left_from g e f (λ v m. (same_sign dd c (over v) (above g e v) (long h e el) (scaled v) more).0
          (step_left h f x y v fl goes m)),
      not_true (lies_right g e f)
          (λ t. by_wide (λ v m wide. let u = right_at g e f v t m in
          let w = (same_sign dd c (over v) (above g e v) (long h e el) (scaled v) more).1 wide in
          omega (arith, linear))),
    );
    right = λ less. (
      right_from g e f (λ v m. (other_sign dd c (over v) (above g e v) (long h e el) (scaled v) less).0
          (step_left h f x y v fl goes m)),
      not_true (lies_left g e f)
          (λ t. by_wide (λ v m wide. let u = left_at g e f v t m in
          let w = (other_sign dd c (over v) (above g e v) (long h e el) (scaled v) less).1 wide in
          omega (arith, linear))),
    );
  } where
    c : ℤ
    c = leads (step_line g f (x, y)) (aside (way e))

    dd : ℤ
    dd = dot (way e) (way e)

    over : ℕ → ℤ
    over v = height (step_line g f (x, y)) (place_of (point_at folded.points v))

    scaled : (v : ℕ) → dd *ℤ over v ≡ c *ℤ above g e v
    scaled v = parallel-height (step_line g f (x, y)) (tail g e) (head g e) s positive (long h e el) par on at
        (place_of (point_at folded.points v))

    by_wide : ((v : ℕ) → Listed (ring f) v → pos 0 <ℤ over v → ⊥) → ⊥
    by_wide k = let r = step_wide h f x y fl goes in k r.0 r.1 r.2
