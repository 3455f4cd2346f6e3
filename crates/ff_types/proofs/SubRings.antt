-- Some corners of a convex ring, taken in order and not all on one line, are a convex ring.
use Rattle.std.proofs.Common.{◌≡◌, ◌≢◌, ℕ, zero, suc, ◌+◌, ◌<◌, ◌≤◌, ◌⊎◌, inl, inr, refl, sym, subst, arith, pos, ◌<ℤ◌, ◌≤ℤ◌, List, length}
use Rattle.std.specs.List.{All}
use Rattle.std.proofs.lemmas.Int.{by_lt_z}
use Rattle.std.proofs.lemmas.Bool.{cases_lt}
use Rattle.std.proofs.lemmas.Bool.Decides.{nat_tests}
use Rattle.std.proofs.lemmas.List.{length-map, get_or-map}
use Rattle.ff_basics.proofs.Numbers.{less_or}
use Rattle.ff_whole.specs.declared.points.Pt.{Pt}
use Rattle.ff_whole.specs.Points.{minus, turn, IsNear, origin}
use Rattle.ff_whole.specs.Convex.{next, point_at, left_of, AreApart, IsConvex}
use Rattle.ff_whole.specs.Turning.{rank}
use Rattle.ff_whole.proofs.Signs.{linear}
use Rattle.ff_whole.proofs.Directions.{rank-minus, turn-first, flat}
use Rattle.ff_whole.proofs.Ranks.{rank-same}
use Rattle.ff_whole.proofs.ClosedLists.{next-below, next-apart}
use Rattle.ff_types.specs.Rings.{corner, corners}
use Rattle.ff_types.proofs.ConvexEdges.{corners_turn, turn_cycled, turn-last}

-- its numbers rise and are below n
pub record Rises (n : ℕ) (list : List ℕ) : Type 0 where
  pub low : (a : ℕ) → a < length list → corner list a < n
  pub rising : (a b : ℕ) → a < b → b < length list → corner list a < corner list b

-- the points of listed vertices
pub corner_point : (points : List Pt) (list : List ℕ) (a : ℕ) → a < length list → point_at (corners points list) a ≡ point_at points (corner list a)
corner_point points list a h = get_or-map (point_at points) list a 0 origin h

corners_size : (points : List Pt) (list : List ℕ) → length (corners points list) ≡ length list
corners_size points list = length-map list (point_at points)

next_is : (m a : ℕ) → a < m → ((a + 1 < m) × (next m a ≡ a + 1)) ⊎ ((a + 1 ≡ m) × (next m a ≡ 0))
next_is m a h = elim (cases_lt (a + 1) m) [ inl l ↦ inl (l, grind (arith, nat_tests, l)) | inr l ↦ inr (omega (arith, h, l), grind (arith, nat_tests, l)) ]

module _ (points : List Pt) (near : All IsNear points) (apart : AreApart points) (ring : IsConvex points) (enough : 2 ≤ length points) (list : List ℕ) (rises : Rises (length points) list) where
  abbrev K : ℕ → Pt
  K a = point_at points (corner list a)

  turns : (a b c : ℕ) → a < b → b < c → c < length list → pos 0 ≤ℤ turn (K a) (K b) (K c)
  turns a b c h k l = corners_turn points near apart ring enough (corner list a) (corner list b) (corner list c) (rises.rising a b h (omega (arith, k, l))) (rises.rising b c k l) (rises.low c l)

  left_next : (a b : ℕ) → a + 1 < length list → b < length list → pos 0 ≤ℤ turn (K a) (K (a + 1)) (K b)
  left_next a b h l = elim (less_or b a) [
    | inl o ↦ (let t = turns b a (a + 1) o (omega arith) h in let c = turn_cycled (K b) (K a) (K (a + 1)) in omega (arith, linear))
    | inr o ↦ elim o [
      | inl e ↦ subst (λ x. pos 0 ≤ℤ turn (K a) (K (a + 1)) (K x)) (sym e) (let z = turn-first (K a) (K (a + 1)) in omega (arith, linear))
      | inr o ↦ elim (less_or (a + 1) b) [
        | inl p ↦ turns a (a + 1) b (omega arith) p l
        | inr p ↦ elim p [
          | inl e ↦ subst (λ x. pos 0 ≤ℤ turn (K a) (K (a + 1)) (K x)) e (let z = turn-last (K a) (K (a + 1)) in omega (arith, linear))
          | inr p ↦ absurd (omega (arith, o, p))
        ]
      ]
    ]
  ]

  left_last : (a b : ℕ) → a + 1 ≡ length list → b < length list → pos 0 ≤ℤ turn (K a) (K 0) (K b)
  left_last a zero h l = let z = turn-last (K a) (K 0) in omega (arith, linear)
  left_last a (suc b) h l = elim (cases_lt (suc b) a) [
    | inl o ↦ (let t = turns 0 (suc b) a (omega arith) o (omega (arith, h)) in let c = turn_cycled (K a) (K 0) (K (suc b)) in omega (arith, linear))
    | inr o ↦ (let e : a ≡ suc b = omega (arith, h, l, o) in subst (λ x. pos 0 ≤ℤ turn (K a) (K 0) (K x)) e (let z = turn-first (K a) (K 0) in omega (arith, linear)))
  ]

  -- each listed point is on or left of the way from a listed point to the next
  left_all : (a b : ℕ) → a < length list → b < length list → pos 0 ≤ℤ turn (K a) (K (next (length list) a)) (K b)
  left_all a b h l = elim (next_is (length list) a h) [
    | inl e ↦ subst (λ x. pos 0 ≤ℤ turn (K a) (K x) (K b)) (sym e.1) (left_next a b e.0 l)
    | inr e ↦ subst (λ x. pos 0 ≤ℤ turn (K a) (K x) (K b)) (sym e.1) (left_last a b e.0 l)
  ]

  differ : (a b : ℕ) → a < length list → b < length list → corner list a ≡ corner list b → a ≡ b
  differ a b h l e = elim (less_or a b) [
    | inl o ↦ absurd (omega (arith, rises.rising a b o l, e))
    | inr o ↦ elim o [ inl e ↦ e | inr o ↦ absurd (omega (arith, rises.rising b a o h, e)) ]
  ]

  step_long : (a : ℕ) → 2 ≤ length list → a < length list → rank (minus (K (next (length list) a)) (K a)) ≢ pos 0
  step_long a two h z = next-apart (length list) a two h (sym (differ a (next (length list) a) h (next-below (length list) a h) (apart.differ (corner list a) (corner list (next (length list) a)) (rises.low a h) (rises.low (next (length list) a) (next-below (length list) a h))
      (rank-same (K a) (K (next (length list) a)) (near (corner list a) origin (rises.low a h)) (near (corner list (next (length list) a)) origin (rises.low (next (length list) a) (next-below (length list) a h))) (let i = rank-minus (K a) (K (next (length list) a)) in omega (arith, linear))))))

  module _ (x y z : ℕ) (xl : x < length list) (yl : y < length list) (zl : z < length list) (two : 2 ≤ length list) (bent : turn (K x) (K y) (K z) ≢ pos 0) where
    -- one of three listed points that aren't on one line is strictly left
    wide_all : (a : ℕ) → a < length list → (b : ℕ) × (b < length list) × (pos 0 <ℤ turn (K a) (K (next (length list) a)) (K b))
    wide_all a h = by_lt_z (pos 0) (turn (K a) (K (next (length list) a)) (K x)) (λ l. (x, xl, l))
        (λ l. by_lt_z (pos 0) (turn (K a) (K (next (length list) a)) (K y)) (λ m. (y, yl, m))
        (λ m. by_lt_z (pos 0) (turn (K a) (K (next (length list) a)) (K z)) (λ o. (z, zl, o))
        (λ o. absurd (bent (flat (K a) (K (next (length list) a)) (K x) (K y) (K z) (step_long a two h)
        (let i = left_all a x h xl in omega (arith, linear)) (let i = left_all a y h yl in omega (arith, linear)) (let i = left_all a z h zl in omega (arith, linear)))))))

    pub sub_convex : IsConvex (corners points list)
    sub_convex = record {
      some = subst (λ m. 0 < m) (sym (corners_size points list)) (omega (arith, two));
      left = λ a b h l. left_corner a b (in_list a h) (in_list b l);
      wide = λ a h. wide_corner a (in_list a h) (wide_all a (in_list a h));
    } where
      in_list : (a : ℕ) → a < length (corners points list) → a < length list
      in_list a h = subst (λ m. a < m) (corners_size points list) h

      corner_left : (a b : ℕ) → a < length list → b < length list → left_of (corners points list) a (point_at (corners points list) b) ≡ turn (K a) (K (next (length list) a)) (K b)
      corner_left a b h l = rw (corners_size points list, corner_point points list a h, corner_point points list b l, corner_point points list (next (length list) a) (next-below (length list) a h)) refl

      left_corner : (a b : ℕ) → a < length list → b < length list → pos 0 ≤ℤ left_of (corners points list) a (point_at (corners points list) b)
      left_corner a b h l = subst (λ v. pos 0 ≤ℤ v) (sym (corner_left a b h l)) (left_all a b h l)

      wide_corner : (a : ℕ) → a < length list → (b : ℕ) × (b < length list) × (pos 0 <ℤ turn (K a) (K (next (length list) a)) (K b)) → (b : ℕ) × (b < length (corners points list)) × (pos 0 <ℤ left_of (corners points list) a (point_at (corners points list) b))
      wide_corner a h (b, l, m) = (b, subst (λ m. b < m) (sym (corners_size points list)) l, subst (λ v. pos 0 <ℤ v) (sym (corner_left a b h l)) m)
