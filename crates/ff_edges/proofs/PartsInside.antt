-- The part of a way inside a ring, edge by edge.
use Rattle.std.proofs.Common.{◌≡◌, ◌≢◌, ◌⊎◌, inl, inr, refl, sym, subst, arith, ℕ, ◌+◌, ◌<◌, pos, ◌<ℤ◌, ◌≤ℤ◌, IsTrue, Bool, List, [], length}
use Rattle.std.proofs.lemmas.Int.{ints}
use Rattle.std.proofs.Math.Nat.{eq-one_of_dvd-one}
use Rattle.ff_whole.specs.declared.points.Pt.{Pt}
use Rattle.ff_whole.specs.declared.lines.Line.{Line}
use Rattle.ff_whole.specs.declared.places.Place.{Place}
use Rattle.ff_whole.specs.Points.{IsNear, minus, dot}
use Rattle.ff_whole.specs.Places.{place_of, height, past}
use Rattle.ff_whole.specs.Sizes.{IsSmallPlace}
use Rattle.ff_whole.specs.Meeting.{HasNoDivisor}
use Rattle.ff_whole.proofs.Bounds.{below-more, below_exactly, literal}
use Rattle.ff_whole.proofs.Formulas.{point_e, point_env, place_e, place_env, place_of_e, past_e, minus_e, dot_e}
use Rattle.ff_whole.proofs.Ring.{◌⊖◌, ◌⊗◌, solve}
use Rattle.ff_whole.proofs.Signs.{linear}
use Rattle.ff_whole.proofs.Images.{distance_positive}
use Rattle.ff_edges.specs.Ways.{is_on_way}
use Rattle.ff_edges.specs.Clips.{gap, IsEndOn, IsPart, IsWithin, AreLeftOf, IsClip, border_line, IsPast, IsPartInside, IsNoneInside}
use Rattle.ff_edges.proofs.OnWays.{on_from, not_left_on}
use Rattle.ff_edges.proofs.Segments.{start_on, end_on}
use Rattle.ff_edges.proofs.Clipping.{none_within}

-- ---- the whole way

small_point : (p : Pt) → IsNear p → IsSmallPlace (place_of p)
small_point p h = record { x_below = below-more h.x_below tt; y_below = below-more h.y_below tt; w_below = below-more (below_exactly (literal 1)) tt; positive = omega (arith, ints) }

lowest_point : (p : Pt) → HasNoDivisor (place_of p)
lowest_point p d x y w = eq-one_of_dvd-one w

end_at : (p q e : Pt) → IsNear e → IsTrue (is_on_way p q (place_of e)) → IsEndOn p q (place_of e)
end_at p q e near t = let h = on_from p q (place_of e) t in
    record { on = h.on; after = h.after; before = h.before; small = small_point e near; lowest = lowest_point e }

gap-whole : (p q : Pt) → gap p q (place_of p) (place_of q) ≡ dot (minus q p) (minus q p)
gap-whole p q = let p' = point_e 0 in let q' = point_e 2 in
    solve (point_env p (point_env q [])) (past_e p' q' (place_of_e q') ⊗ (place_of_e p').w ⊖ past_e p' q' (place_of_e p') ⊗ (place_of_e q').w)
    (dot_e (minus_e q' p') (minus_e q' p')) refl

gap-first : (p q : Pt) (m : Place) → gap p q (place_of p) m ≡ past p q m
gap-first p q m = let p' = point_e 0 in let q' = point_e 2 in let m' = place_e 4 in
    solve (point_env p (point_env q (place_env m []))) (past_e p' q' m' ⊗ (place_of_e p').w ⊖ past_e p' q' (place_of_e p') ⊗ m'.w) (past_e p' q' m') refl

gap-last : (p q : Pt) (m : Place) → gap p q m (place_of q) ≡ past q p m
gap-last p q m = let p' = point_e 0 in let q' = point_e 2 in let m' = place_e 4 in
    solve (point_env p (point_env q (place_env m []))) (past_e p' q' (place_of_e q') ⊗ m'.w ⊖ past_e p' q' m' ⊗ (place_of_e q').w) (past_e q' p' m') refl

pub part_whole : (p q : Pt) → IsNear p → IsNear q → p ≢ q → IsPart p q (place_of p) (place_of q)
part_whole p q x y apart = record {
  first = end_at p q p x (start_on p q);
  second = end_at p q q y (end_on p q);
  goes = subst (λ z. pos 0 <ℤ z) (sym (gap-whole p q)) (distance_positive p q apart);
}

within_whole : (p q : Pt) (m : Place) → IsTrue (is_on_way p q m) → IsWithin p q (place_of p) (place_of q) m
within_whole p q m t = let h = on_from p q m t in
    record { from = subst (λ z. pos 0 ≤ℤ z) (sym (gap-first p q m)) h.after; to = subst (λ z. pos 0 ≤ℤ z) (sym (gap-last p q m)) h.before }

-- ---- edge by edge

module _ (points : List Pt) (up : Bool) (ring : List ℕ) (p q : Pt) where
  pub inside_none : IsNear p → IsNear q → p ≢ q → (s t : Place) → s ≡ place_of p → t ≡ place_of q → IsPartInside points up ring 0 p q s t
  inside_none x y apart s t a b = subst (λ s. IsPartInside points up ring 0 p q s t) (sym a) (subst (λ t. IsPartInside points up ring 0 p q (place_of p) t) (sym b) whole) where
    whole : IsPartInside points up ring 0 p q (place_of p) (place_of q)
    whole = record {
      part = part_whole p q x y apart;
      left = λ k l. absurd (omega (arith, l));
      all = λ m positive on inner. within_whole p q m on;
    }

  pub inside_next : (i : ℕ) (s t u v : Place) (l : Line) → l ≡ border_line points up ring i → IsPartInside points up ring i p q s t → IsClip p q l s t u v
      → IsPartInside points up ring (i + 1) p q u v
  inside_next i s t u v l e h c = record {
    part = c.part;
    left = λ k b. by k (either k b);
    all = λ m positive on inner. c.all m positive on (subst (λ j. pos 0 <ℤ height j m) (sym e) (inner i (omega arith))) (h.all m positive on (λ k b. inner k (omega (arith, b))));
  } where
    either : (k : ℕ) → k < i + 1 → (k < i) ⊎ (i ≡ k)
    either k b = grind (arith, b)

    by : (k : ℕ) → (k < i) ⊎ (i ≡ k) → AreLeftOf (border_line points up ring k) u v
    by k (inl b) = c.keeps (border_line points up ring k) (h.left k b)
    by k (inr b) = subst (λ k. AreLeftOf (border_line points up ring k) u v) b (subst (λ j. AreLeftOf j u v) e c.left)

  pub inside_nothing : p ≢ q → (i : ℕ) (s t : Place) (l : Line) → i < length ring → l ≡ border_line points up ring i → IsPartInside points up ring i p q s t
      → (height l s ≤ℤ pos 0) × (height l t ≤ℤ pos 0) → IsNoneInside points up ring p q
  inside_nothing apart i s t l b e h low m positive on inner =
      none_within p q (distance_positive p q apart) l s t m h.part low.0 low.1 on
      (h.all m positive on (λ k c. inner k (omega (arith, b, c)))) (subst (λ j. pos 0 <ℤ height j m) (sym e) (inner i b))

  -- no place of the way is inside where neither end is on the inner side of some edge
  pub past_none : p ≢ q → (i : ℕ) → i < length ring → IsPast points up ring i p q → IsNoneInside points up ring p q
  past_none apart i b past m positive on inner =
      let l = border_line points up ring i in
      let low = not_left_on l p q m (distance_positive p q apart) (on_from p q m on) past.0 past.1 in
      let high = inner i b in
      omega (arith, linear)
