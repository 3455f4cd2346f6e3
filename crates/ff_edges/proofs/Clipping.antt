-- A part of a way, clipped by a line: where the line crosses it, it ends at the place where the line meets the way.
use Rattle.std.proofs.Common.{◌≡◌, ◌⊎◌, inl, inr, refl, sym, ap, ◌∙◌, subst, arith, ℤ, pos, ◌+ℤ◌, ◌-ℤ◌, ◌*ℤ◌, ◌<ℤ◌, ◌≤ℤ◌, IsTrue, ◌↔◌, Bool, false, Option, Some, None, MatchOption, []}
use lib.IntN.{neg_ℤ, *ℤ_comm, *ℤ-zero}
use Rattle.std.proofs.lemmas.Int.{by_lt_z}
use Rattle.std.proofs.lemmas.Bool.{false≢true}
use Rattle.ff_whole.specs.declared.points.Pt.{Pt}
use Rattle.ff_whole.specs.declared.lines.Line.{Line}
use Rattle.ff_whole.specs.declared.places.Place.{Place}
use Rattle.ff_whole.specs.Points.{minus, dot}
use Rattle.ff_whole.specs.Places.{IsPlace, place_of, through, height, past, slant}
use Rattle.ff_whole.specs.Sizes.{IsMeetPlace, IsSmallPlace}
use Rattle.ff_whole.specs.Meeting.{IsMeet}
use Rattle.ff_whole.proofs.Bounds.{below-more}
use Rattle.ff_whole.proofs.Formulas.{point_e, point_env, line_e, line_env, slant_e, through_e}
use Rattle.ff_whole.proofs.Ring.{◌⊕◌, ◌⊖◌, ◌⊗◌, opp, solve}
use Rattle.ff_whole.proofs.Signs.{linear, by_sign, pos-mul, nonneg-mul, pos-mul_neg, nonneg-mul_nonpos, neg-mul_pos, neg-mul_neg, zero-mul, zero_from_mul, pos_from_mul, neg_from_mul, nonneg_from_mul}
use Rattle.ff_whole.proofs.Offsets.{line_across, height-across}
use Rattle.ff_edges.specs.Ways.{is_on_way}
use Rattle.ff_edges.specs.Clips.{gap, IsEndOn, IsPart, IsWithin, AreLeftOf, IsClip}
use Rattle.ff_edges.proofs.OnWays.{on_from}
use Rattle.ff_edges.proofs.Gaps.{blend_height, blend_weight, height_on}

pub small_place : (s : Place) → IsMeetPlace s → IsSmallPlace s
small_place s h = record { x_below = below-more h.x_below tt; y_below = below-more h.y_below tt; w_below = below-more h.w_below tt; positive = h.positive }

-- what is on the line between two places on its two sides is apart from both
apart_from_both : (a b low high u v total : ℤ) → a *ℤ low +ℤ b *ℤ high ≡ pos 0 → a *ℤ u +ℤ b *ℤ v ≡ total → pos 0 <ℤ total
    → low <ℤ pos 0 → pos 0 <ℤ high → pos 0 <ℤ u → pos 0 <ℤ v → (pos 0 <ℤ a) × (pos 0 <ℤ b)
apart_from_both a b low high u v total e f some l h x y = by_sign a
    (λ k.
    let m = neg-mul_neg a low k l in
    let n = neg_from_mul high b h (let c = *ℤ_comm b high in omega (arith, linear)) in
    let i = neg-mul_pos a u k x in
    let j = neg-mul_pos b v n y in
    absurd (omega (arith, linear)))
    (λ k.
    let m = zero-mul a low k in
    let n = zero_from_mul high b h (let c = *ℤ_comm b high in omega (arith, linear)) in
    let i = zero-mul a u k in
    let j = zero-mul b v n in
    absurd (omega (arith, linear)))
    (λ k.
    let m = pos-mul_neg a low k l in
    (k, pos_from_mul high b h (let c = *ℤ_comm b high in omega (arith, linear))))

-- ---- what tests say

pub not_above : (z : ℤ) (b : Bool) → (IsTrue b ↔ (pos 0 <ℤ z)) → b ≡ false → z ≤ℤ pos 0
not_above z b h e = by_lt_z (pos 0) z (λ l. absurd (false≢true (sym e ∙ h.1 l))) (λ l. l)

pub not_below : (z : ℤ) (b : Bool) → (IsTrue b ↔ (z <ℤ pos 0)) → b ≡ false → pos 0 ≤ℤ z
not_below z b h e = by_lt_z z (pos 0) (λ l. absurd (false≢true (sym e ∙ h.1 l))) (λ l. l)

pub none_weaker : {A : Type 0} (o : Option A) (P Q : Type 0) (R : A → Type 0) → (P → Q) → MatchOption o P R → MatchOption o Q R
none_weaker (Some x) P Q R f h = h
none_weaker None P Q R f h = f h

-- ---- between two places of the way

module _ (p q : Pt) (long : pos 0 <ℤ dot (minus q p) (minus q p)) where
  -- a place between two others isn't right of a line of which neither is
  not_right : (l : Line) (s t m : Place) → height (through p q) s ≡ pos 0 → height (through p q) t ≡ pos 0 → height (through p q) m ≡ pos 0
      → pos 0 <ℤ gap p q s t → pos 0 ≤ℤ gap p q s m → pos 0 ≤ℤ gap p q m t → pos 0 ≤ℤ height l s → pos 0 ≤ℤ height l t → pos 0 ≤ℤ height l m
  not_right l s t m x y z wide from to low high =
      let e = blend_height l p q s t m long x y z in
      let a = nonneg-mul (gap p q m t) (height l s) to low in
      let b = nonneg-mul (gap p q s m) (height l t) from high in
      nonneg_from_mul (gap p q s t) (height l m) wide (omega (arith, linear))

  not_left : (l : Line) (s t m : Place) → height (through p q) s ≡ pos 0 → height (through p q) t ≡ pos 0 → height (through p q) m ≡ pos 0
      → pos 0 <ℤ gap p q s t → pos 0 ≤ℤ gap p q s m → pos 0 ≤ℤ gap p q m t → height l s ≤ℤ pos 0 → height l t ≤ℤ pos 0 → pos 0 <ℤ height l m → ⊥
  not_left l s t m x y z wide from to low high up =
      let e = blend_height l p q s t m long x y z in
      let a = nonneg-mul_nonpos (gap p q m t) (height l s) to low in
      let b = nonneg-mul_nonpos (gap p q s m) (height l t) from high in
      let c = pos-mul (gap p q s t) (height l m) wide up in
      omega (arith, linear)

  -- no place inside is between places that aren't left of a line
  pub none_within : (l : Line) (s t m : Place) → IsPart p q s t → height l s ≤ℤ pos 0 → height l t ≤ℤ pos 0
      → IsTrue (is_on_way p q m) → IsWithin p q s t m → pos 0 <ℤ height l m → ⊥
  none_within l s t m h low high on w up =
      not_left l s t m h.first.on h.second.on (on_from p q m on).on h.goes w.from w.to low high up

  -- a place strictly between two others is left of each line of which neither is right and one is left
  left_between : (k : Line) (s t m : Place) → height (through p q) s ≡ pos 0 → height (through p q) t ≡ pos 0 → height (through p q) m ≡ pos 0
      → pos 0 <ℤ gap p q s t → pos 0 <ℤ gap p q s m → pos 0 <ℤ gap p q m t → AreLeftOf k s t → pos 0 <ℤ height k m
  left_between k s t m x y z wide from to h = by h.one where
    e : gap p q s t *ℤ height k m ≡ gap p q m t *ℤ height k s +ℤ gap p q s m *ℤ height k t
    e = blend_height k p q s t m long x y z

    by : (pos 0 <ℤ height k s) ⊎ (pos 0 <ℤ height k t) → pos 0 <ℤ height k m
    by (inl l) =
        let f = e in
        let second = h.second in
        let a = pos-mul (gap p q m t) (height k s) to l in
        let b = nonneg-mul (gap p q s m) (height k t) (omega (arith, linear)) second in
        pos_from_mul (gap p q s t) (height k m) wide (omega (arith, linear))
    by (inr l) =
        let f = e in
        let first = h.first in
        let a = nonneg-mul (gap p q m t) (height k s) (omega (arith, linear)) first in
        let b = pos-mul (gap p q s m) (height k t) from l in
        pos_from_mul (gap p q s t) (height k m) wide (omega (arith, linear))

  -- a place between two of the way is on the way
  end_between : (s t m : Place) → IsPart p q s t → height (through p q) m ≡ pos 0 → IsMeetPlace m → pos 0 ≤ℤ gap p q s m → pos 0 ≤ℤ gap p q m t
      → (pos 0 ≤ℤ past p q m) × (pos 0 ≤ℤ past q p m)
  end_between s t m h z size from to = (side p q h.first.after h.second.after, side q p h.first.before h.second.before) where
    side : (a b : Pt) → pos 0 ≤ℤ past a b s → pos 0 ≤ℤ past a b t → pos 0 ≤ℤ past a b m
    side a b low high = subst (λ k. pos 0 ≤ℤ k) (height-across a b m) (not_right (line_across a b) s t m h.first.on h.second.on z h.goes from to
        (subst (λ k. pos 0 ≤ℤ k) (sym (height-across a b s)) low) (subst (λ k. pos 0 ≤ℤ k) (sym (height-across a b t)) high))

  -- ---- a line that crosses the part

  module _ (l : Line) (s t r : Place) (part : IsPart p q s t) (meet : IsMeet (through p q) l r) where
    abbrev goes : pos 0 <ℤ gap p q s t
    goes = part.goes

    level : gap p q r t *ℤ height l s +ℤ gap p q s r *ℤ height l t ≡ pos 0
    level =
        let e = blend_height l p q s t r long part.first.on part.second.on meet.on_first in
        let z : gap p q s t *ℤ height l r ≡ pos 0 = ap (λ k. gap p q s t *ℤ k) meet.on_second ∙ *ℤ-zero (gap p q s t) in
        omega (arith, linear)

    weight : gap p q r t *ℤ s.w +ℤ gap p q s r *ℤ t.w ≡ gap p q s t *ℤ r.w
    weight = sym (blend_weight p q s t r long part.first.on part.second.on meet.on_first)

    total : pos 0 <ℤ (gap p q s t *ℤ r.w)
    total = pos-mul (gap p q s t) r.w part.goes meet.size.positive

    end_of : pos 0 ≤ℤ gap p q s r → pos 0 ≤ℤ gap p q r t → IsEndOn p q r
    end_of from to =
        let e = end_between s t r part meet.on_first meet.size from to in
        record { on = meet.on_first; after = e.0; before = e.1; small = small_place r meet.size; lowest = meet.lowest }

    -- what is left of the line is past r, where t is left of it
    pub clip_first : height l s <ℤ pos 0 → pos 0 <ℤ height l t → IsClip p q l s t r t
    clip_first low high = record {
      part = record { first = end_of (omega (arith, linear, ahead)) (omega (arith, linear, behind)); second = part.second; goes = behind };
      left = record { first = (let e = meet.on_second in omega (arith, linear)); second = omega (arith, linear); one = inr high };
      keeps = λ k h. (let x = left_between k s t r part.first.on part.second.on meet.on_first part.goes ahead behind h in
          record { first = omega (arith, linear); second = h.second; one = inl x });
      all = λ m positive on up w. record { from = from m (on_from p q m on).on up w.to; to = w.to };
    } where
      both : (pos 0 <ℤ gap p q r t) × (pos 0 <ℤ gap p q s r)
      both = apart_from_both (gap p q r t) (gap p q s r) (height l s) (height l t) s.w t.w (gap p q s t *ℤ r.w) level weight total low high part.first.small.positive part.second.small.positive

      behind : pos 0 <ℤ gap p q r t
      behind = both.0

      ahead : pos 0 <ℤ gap p q s r
      ahead = both.1

      from : (m : Place) → height (through p q) m ≡ pos 0 → pos 0 <ℤ height l m → pos 0 ≤ℤ gap p q m t → pos 0 ≤ℤ gap p q r m
      from m on up to =
          let e = blend_height l p q r t m long meet.on_first part.second.on on in
          let z : gap p q m t *ℤ height l r ≡ pos 0 = ap (λ k. gap p q m t *ℤ k) meet.on_second ∙ *ℤ-zero (gap p q m t) in
          let a = pos-mul (gap p q r t) (height l m) behind up in
          let c = *ℤ_comm (gap p q r m) (height l t) in
          nonneg_from_mul (height l t) (gap p q r m) high (omega (arith, linear))

    -- what is left of the line is before r, where s is left of it
    pub clip_second : pos 0 <ℤ height l s → height l t <ℤ pos 0 → IsClip p q l s t s r
    clip_second high low = record {
      part = record { first = part.first; second = end_of (omega (arith, linear, ahead)) (omega (arith, linear, behind)); goes = ahead };
      left = record { first = omega (arith, linear); second = (let e = meet.on_second in omega (arith, linear)); one = inl high };
      keeps = λ k h. (let x = left_between k s t r part.first.on part.second.on meet.on_first part.goes ahead behind h in
          record { first = h.first; second = omega (arith, linear); one = inr x });
      all = λ m positive on up w. record { from = w.from; to = to m (on_from p q m on).on up w.from };
    } where
      both : (pos 0 <ℤ gap p q s r) × (pos 0 <ℤ gap p q r t)
      both =
          let e = level in
          let f = weight in
          apart_from_both (gap p q s r) (gap p q r t) (height l t) (height l s) t.w s.w (gap p q s t *ℤ r.w) (omega (arith, linear)) (omega (arith, linear)) total low high part.second.small.positive part.first.small.positive

      ahead : pos 0 <ℤ gap p q s r
      ahead = both.0

      behind : pos 0 <ℤ gap p q r t
      behind = both.1

      to : (m : Place) → height (through p q) m ≡ pos 0 → pos 0 <ℤ height l m → pos 0 ≤ℤ gap p q s m → pos 0 ≤ℤ gap p q m r
      to m on up from =
          let e = blend_height l p q s r m long part.first.on meet.on_first on in
          let z : gap p q s m *ℤ height l r ≡ pos 0 = ap (λ k. gap p q s m *ℤ k) meet.on_second ∙ *ℤ-zero (gap p q s m) in
          let a = pos-mul (gap p q s r) (height l m) ahead up in
          let c = *ℤ_comm (gap p q m r) (height l s) in
          nonneg_from_mul (height l s) (gap p q m r) high (omega (arith, linear))

  -- a line that isn't to the right of either clips nothing
  pub clip_nothing : (l : Line) (s t : Place) → IsPart p q s t → AreLeftOf l s t → IsClip p q l s t s t
  clip_nothing l s t part h = record { part = part; left = h; keeps = λ k x. x; all = λ m positive on up w. w }

  -- a line with one place of the way on its right and one on its left isn't parallel to it
  pub crosses : (l : Line) (s t : Place) → height (through p q) s ≡ pos 0 → height (through p q) t ≡ pos 0 → IsPlace s → IsPlace t
      → height l s <ℤ pos 0 → pos 0 <ℤ height l t → slant (through p q) l ≡ pos 0 → ⊥
  crosses l s t x y sw tw low high flat =
      let d = dot (minus q p) (minus q p) in
      let a = l.a *ℤ (q.x -ℤ p.x) +ℤ l.b *ℤ (q.y -ℤ p.y) in
      let c = d *ℤ height l (place_of p) in
      let n = leads l p q in
      let e = height_on l p q s x in
      let f = height_on l p q t y in
      let i = zero-mul a (past p q s) (omega (arith, linear)) in
      let j = zero-mul a (past p q t) (omega (arith, linear)) in
      let u = pos-mul_neg d (height l s) long low in
      let v = pos-mul d (height l t) long high in
      let g = neg_from_mul s.w c sw (omega (arith, linear)) in
      let k = pos-mul_neg t.w c tw g in
      omega (arith, linear)
    where
      leads : (l : Line) (p q : Pt) → l.a *ℤ (q.x -ℤ p.x) +ℤ l.b *ℤ (q.y -ℤ p.y) ≡ neg_ℤ (slant (through p q) l)
      leads l p q = let l' = line_e 0 in let p' = point_e 3 in let q' = point_e 5 in
          solve (line_env l (point_env p (point_env q []))) (l'.a ⊗ (q'.x ⊖ p'.x) ⊕ l'.b ⊗ (q'.y ⊖ p'.y)) (opp (slant_e (through_e p' q') l')) refl
