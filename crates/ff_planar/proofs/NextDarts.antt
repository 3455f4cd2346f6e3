-- Of the darts that leave a vertex, the last one counterclockwise from the way back.
use Rattle.std.proofs.Common.{◌≡◌, ◌≢◌, ◌⊎◌, inl, inr, ℕ, ◌+◌, ◌<◌, ◌≤◌, IsTrue, List, length, slice_index, pos, ◌<ℤ◌, arith, sym, ap, ◌∙◌, subst}
use Rattle.ff_whole.specs.declared.points.Pt.{Pt}
use Rattle.ff_whole.specs.Points.{dot}
use Rattle.ff_whole.proofs.CyclicOrder.{IsTurned, AreDifferent, either_way, turned_on}
use Rattle.ff_types.specs.declared.patterns.EdgeEnds.{EdgeEnds}
use Rattle.ff_types.specs.Drawings.{joined}
use Rattle.ff_types.specs.Walks.{in_turn, direction, GoesOn}
use Rattle.ff_drawn.specs.Graphs.{IsGraph}
use Rattle.ff_drawn.specs.Drawn.{IsDrawnBy}
use Rattle.ff_planar.specs.Turns.{IsNext, IsFirstOther}
use Rattle.ff_drawn.specs.declared.darts.Dart.{Dart}
use Rattle.ff_drawn.specs.Darts.{dart_at, ComesBefore, IsStart, AreStarts}
use Rattle.ff_drawn.proofs.Starts.{not_before_itself}
use Rattle.ff_drawn.proofs.TwoDarts.{not_before_first, darts_from_two, place_of}
use Rattle.ff_planar.proofs.Neighbours.{joined_back, there, direction_long, directions_differ, from_turned}

-- the darts start, .., end - 1 leave v
pub record AreLeaving (darts : List Dart) (v start end : ℕ) : Type 0 where
  pub first : IsStart darts (record { tail = v; head = 0 }) start
  pub last : IsStart darts (record { tail = v + 1; head = 0 }) end

pub leaving_at : (darts : List Dart) (n : ℕ) (starts : List ℕ) (v : ℕ) → AreStarts darts n starts → v < n → AreLeaving darts v (slice_index starts v) (slice_index starts (v + 1))
leaving_at darts n starts v s l = record { first = s.each v (omega (arith, l)); last = s.each (v + 1) (omega (arith, l)) }

-- of the darts of v before c that don't lead back to u, last is the last one in turn
pub record IsLast (points : List Pt) (darts : List Dart) (u v start end c last : ℕ) : Type 0 where
  pub low : start ≤ last
  pub below : last < c
  pub within : last < end
  pub other : (dart_at darts last).head ≢ u
  pub turned : (k : ℕ) → start ≤ k → k < c → (dart_at darts k).head ≢ u → k ≢ last
      → IsTurned (direction points v u) (direction points v (dart_at darts k).head) (direction points v (dart_at darts last).head)

module _ (points : List Pt) (edges : List EdgeEnds) (darts : List Dart) (g : IsGraph points edges) (dr : IsDrawnBy points edges darts)
    (u v : ℕ) (along : IsTrue (joined edges u v)) (start end : ℕ) (range : AreLeaving darts v start end) where
  abbrev way : ℕ → Pt
  way k = direction points v (dart_at darts k).head

  abbrev back : Pt
  back = direction points v u

  tail_is : (k : ℕ) → start ≤ k → k < end → (dart_at darts k).tail ≡ v
  tail_is k l m =
      let within = range.last.within in
      let low = not_before_first v (dart_at darts k) (range.first.after k l (omega (arith, m))) in
      up low (range.last.before k m)
    where
      up : v ≤ (dart_at darts k).tail → ComesBefore (dart_at darts k) (record { tail = v + 1; head = 0 }) → (dart_at darts k).tail ≡ v
      up l (inl n) = omega (arith, l, n)
      up l (inr n) = let x = n.1 in absurd (omega arith)

  joined_to : (k : ℕ) → start ≤ k → k < end → IsTrue (joined edges v (dart_at darts k).head)
  joined_to k l m = let within = range.last.within in
      subst (λ t. IsTrue (joined edges t (dart_at darts k).head)) (tail_is k l m) (dr.darts_are.along k (omega (arith, m)))

  before_end : (k w : ℕ) → dart_at darts k ≡ record { tail = v; head = w } → k < length darts → k < end
  before_end k w e l = elim (below_or k end) [
    | inl m ↦ m
    | inr m ↦ absurd (range.last.after k m l (inl (let f = ap (λ (x : Dart). x.tail) e in omega (arith, f))))
  ]
    where
      below_or : (i n : ℕ) → (i < n) ⊎ (n ≤ i)
      below_or i n = grind arith

  heads_differ : (k l : ℕ) → start ≤ k → k < l → l < end → (dart_at darts k).head ≡ (dart_at darts l).head → ⊥
  heads_differ k l s o m e = let within = range.last.within in
      not_before_itself (dart_at darts l) (subst (λ (d : Dart). ComesBefore d (dart_at darts l)) same (dr.darts_are.sorted.rises k l o (omega (arith, m))))
    where
      same : dart_at darts k ≡ dart_at darts l
      same = λ i. record { tail = (tail_is k s (omega (arith, o, m)) ∙ sym (tail_is l (omega (arith, s, o)) m)) i; head = e i }

  -- there are two
  pub two_leave : start + 1 < end
  two_leave =
      let t = darts_from_two points edges darts g dr.darts_are v start range.first (dr.drawing.two v (there points edges dr.drawing u v along).1) in
      before_end (start + 1) (dart_at darts (start + 1)).head (λ i. record { tail = t.1 i; head = (dart_at darts (start + 1)).head }) t.0

  pub first_is_last : (first : ℕ) → IsFirstOther darts u start first → IsLast points darts u v start end (first + 1) first
  first_is_last first f =
      let low = f.low in
      let high = f.high in
      let two = two_leave in
      record {
        low = low;
        below = omega arith;
        within = omega arith;
        other = elim (le_or start first low) [
          | inl l ↦ λ e. heads_differ start first (omega arith) l (omega arith) (f.skipped l ∙ sym e)
          | inr s ↦ subst (λ k. (dart_at darts k).head ≢ u) s (f.other (sym s))
        ];
        turned = λ k l m n o. elim (le_or start first low) [
          | inl s ↦ absurd (n (subst (λ j. (dart_at darts j).head ≡ u) (omega (arith, l, m, high, s, not_first k first o)) (f.skipped s)))
          | inr s ↦ absurd (o (omega (arith, l, m, s)))
        ];
      }
    where
      le_or : (i j : ℕ) → i ≤ j → (i < j) ⊎ (i ≡ j)
      le_or i j h = grind arith

      not_first : (k first : ℕ) → k ≢ first → (k < first) ⊎ (first < k)
      not_first k first n = grind (arith, n)

  back_long : pos 0 <ℤ dot back back
  back_long = direction_long points edges dr.drawing v u (joined_back edges u v along)

  way_long : (k : ℕ) → start ≤ k → k < end → pos 0 <ℤ dot (way k) (way k)
  way_long k l m = direction_long points edges dr.drawing v (dart_at darts k).head (joined_to k l m)

  back_differs : (k : ℕ) → start ≤ k → k < end → (dart_at darts k).head ≢ u → AreDifferent back (way k)
  back_differs k l m n = directions_differ points edges dr.drawing v u (dart_at darts k).head (joined_back edges u v along) (joined_to k l m) (λ e. n (sym e))

  ways_differ : (k l : ℕ) → start ≤ k → k < l → l < end → AreDifferent (way k) (way l)
  ways_differ k l s o m = directions_differ points edges dr.drawing v (dart_at darts k).head (dart_at darts l).head (joined_to k s (omega (arith, o, m))) (joined_to l (omega (arith, s, o)) m) (heads_differ k l s o m)

  last_or : (k c : ℕ) → k < c + 1 → (k < c) ⊎ (k ≡ c)
  last_or k c l = grind arith

  -- a dart that leads back is left out
  pub skip_more : (c last : ℕ) → IsLast points darts u v start end c last → (dart_at darts c).head ≡ u → IsLast points darts u v start end (c + 1) last
  skip_more c last h e = let below = h.below in record {
    low = h.low;
    below = omega arith;
    within = h.within;
    other = h.other;
    turned = λ k l m n o. elim (last_or k c m) [
      | inl s ↦ h.turned k l s n o
      | inr s ↦ absurd (n (subst (λ j. (dart_at darts j).head ≡ u) (sym s) e))
    ];
  }

  -- so is one that comes before the last
  pub keep_more : (c last : ℕ) → IsLast points darts u v start end c last → c < end → (dart_at darts c).head ≢ u → (IsTurned back (way last) (way c) → ⊥) → IsLast points darts u v start end (c + 1) last
  keep_more c last h l n not =
      let below = h.below in
      let low = h.low in
      let s : start ≤ c = omega arith in
      let other : IsTurned back (way c) (way last) = elim (either_way back (way last) (way c) back_long (way_long last low (omega (arith, l, below))) (way_long c s l)
      (back_differs last low (omega (arith, l, below)) h.other) (ways_differ last c low below l) (back_differs c s l n)) [ inl t ↦ absurd (not t) | inr t ↦ t ] in
      record {
        low = low;
        below = omega arith;
        within = h.within;
        other = h.other;
        turned = λ k o m q r. elim (last_or k c m) [
          | inl t ↦ h.turned k o t q r
          | inr t ↦ subst (λ j. IsTurned back (way j) (way last)) (sym t) other
        ];
      }

  -- and one that comes after it is the last
  pub take_more : (c last : ℕ) → IsLast points darts u v start end c last → c < end → (dart_at darts c).head ≢ u → IsTurned back (way last) (way c) → IsLast points darts u v start end (c + 1) c
  take_more c last h l n later =
      let below = h.below in
      let low = h.low in
      let s : start ≤ c = omega arith in
      record {
        low = s;
        below = omega arith;
        within = l;
        other = n;
        turned = λ k o m q r. elim (last_or k c m) [
          | inr t ↦ absurd (r t)
          | inl t ↦ elim (same_or k last) [
            | inr x ↦ subst (λ j. IsTurned back (way j) (way c)) (sym x) later
            | inl x ↦ turned_on back (way k) (way last) (way c) back_long (way_long k o (omega (arith, t, l))) (back_differs c s l n) (back_differs k o (omega (arith, t, l)) q) (h.turned k o t q x) later
          ]
        ];
      }
    where
      same_or : (w z : ℕ) → (w ≡ z → ⊥) ⊎ (w ≡ z)
      same_or w z = elim (which w z) [ inl l ↦ inl (λ e. omega (arith, l, e)) | inr o ↦ elim o [ inl l ↦ inl (λ e. omega (arith, l, e)) | inr e ↦ inr e ] ] where
        which : (i j : ℕ) → (i < j) ⊎ ((j < i) ⊎ (i ≡ j))
        which i j = grind arith

  -- the walk goes on along the last of all
  pub goes_on : (c last : ℕ) → IsLast points darts u v start end c last → end ≤ c → GoesOn points edges u v (dart_at darts last).head
  goes_on c last h l = record {
    along = along;
    on = joined_to last h.low h.within;
    not_back = h.other;
    next = λ z j n m. let p = place_of points edges darts g dr.darts_are v start range.first z j in between z n m p.0 p.1 p.2 p.3;
  }
    where
      between : (z : ℕ) → z ≢ u → z ≢ (dart_at darts last).head → (k : ℕ) → start ≤ k → k < length darts → dart_at darts k ≡ record { tail = v; head = z }
          → IsTrue (in_turn (direction points v u) (direction points v z) (direction points v (dart_at darts last).head))
      between z n m k s t e =
          let here = ap (λ (x : Dart). x.head) e in
          let b = before_end k z e t in
          let turned = h.turned k s (omega (arith, b, l)) (λ f. n (sym here ∙ f)) (λ f. m (sym here ∙ ap (λ j. (dart_at darts j).head) f)) in
          from_turned (direction points v u) (direction points v z) (direction points v (dart_at darts last).head) (subst (λ j. IsTurned back (direction points v j) (way last)) here turned)

-- the ends of a dart are vertices
pub ends_there : (points : List Pt) (edges : List EdgeEnds) (darts : List Dart) → IsDrawnBy points edges darts → (d : ℕ) → d < length darts → ((dart_at darts d).tail < length points) × ((dart_at darts d).head < length points)
ends_there points edges darts dr d l = let t = there points edges dr.drawing (dart_at darts d).tail (dart_at darts d).head (dr.darts_are.along d l) in (t.0, t.1)

-- so it is the next dart
pub next_from : (points : List Pt) (edges : List EdgeEnds) (darts : List Dart) (g : IsGraph points edges) (dr : IsDrawnBy points edges darts) (d : ℕ) (l : d < length darts) (start end : ℕ)
    (range : AreLeaving darts (dart_at darts d).head start end) (c last : ℕ)
    → IsLast points darts (dart_at darts d).tail (dart_at darts d).head start end c last → end ≤ c → IsNext points edges darts d last
next_from points edges darts g dr d l start end range c last h m =
    let within = range.last.within in
    let below = h.within in
    record {
      within = omega arith;
      from = tail_is points edges darts g dr (dart_at darts d).tail (dart_at darts d).head (dr.darts_are.along d l) start end range last h.low h.within;
      goes = goes_on points edges darts g dr (dart_at darts d).tail (dart_at darts d).head (dr.darts_are.along d l) start end range c last h m;
    }
