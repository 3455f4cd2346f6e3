-- The vertices of an orbit of darts are a walk.
use Rattle.std.proofs.Common.{◌≡◌, ◌⊎◌, inl, inr, ℕ, zero, suc, ◌+◌, ◌-◌, ◌<◌, ◌≤◌, List, [], ◌∷◌, length, slice_index, arith, refl, sym, ap, ◌∙◌, subst}
use Rattle.std.proofs.lemmas.Bool.Decides.{nat_tests}
use Rattle.ff_whole.proofs.ClosedLists.{next-below}
use Rattle.ff_whole.specs.declared.points.Pt.{Pt}
use Rattle.ff_whole.specs.Convex.{next}
use Rattle.ff_types.specs.declared.patterns.EdgeEnds.{EdgeEnds}
use Rattle.ff_types.specs.Rings.{corner, after, Goes}
use Rattle.ff_types.specs.Walks.{GoesOn, IsWalk}
use Rattle.ff_drawn.specs.declared.darts.Dart.{Dart}
use Rattle.ff_drawn.specs.Drawn.{IsDrawnBy}
use Rattle.ff_drawn.specs.Darts.{dart_at}
use Rattle.ff_planar.specs.Orbits.{AreNexts, IsOrbit, tails}
use Rattle.ff_planar.proofs.NextTables.{one_place}

pub tails_length : (darts : List Dart) (orbit : List ℕ) → length (tails darts orbit) ≡ length orbit
tails_length darts [] = refl
tails_length darts (d ∷ orbit) = ap suc (tails_length darts orbit)

pub tail_at : (darts : List Dart) (orbit : List ℕ) (i : ℕ) → i < length orbit → corner (tails darts orbit) i ≡ (dart_at darts (slice_index orbit i)).tail
tail_at darts [] i l = absurd (omega (arith, l))
tail_at darts (d ∷ orbit) zero l = refl
tail_at darts (d ∷ orbit) (suc i) l = tail_at darts orbit i (omega (arith, l))

next_or : (n i : ℕ) → i < n → ((i + 1 < n) × (next n i ≡ i + 1)) ⊎ ((i ≡ n - 1) × (next n i ≡ 0))
next_or n i l = elim (which n i) [
  | inl m ↦ inl (m, grind (arith, nat_tests))
  | inr m ↦ inr (omega (arith, l, m), grind (arith, nat_tests))
]
  where
    which : (n i : ℕ) → (i + 1 < n) ⊎ (n ≤ i + 1)
    which n i = grind arith

-- round the orbit each dart is followed by the next one of the table
pub orbit_step : (table : List ℕ) (s : ℕ) (orbit : List ℕ) → IsOrbit table s orbit → (i : ℕ) → i < length orbit → slice_index orbit (next (length orbit) i) ≡ slice_index table (slice_index orbit i)
orbit_step table s orbit o i l = elim (next_or (length orbit) i l) [
  | inl h ↦ ap (slice_index orbit) h.1 ∙ o.goes i h.0
  | inr h ↦ ap (slice_index orbit) h.1 ∙ o.first ∙ sym o.back ∙ ap (λ k. slice_index table (slice_index orbit k)) (sym h.0)
]

module _ (points : List Pt) (edges : List EdgeEnds) (darts : List Dart) (nexts : List ℕ) (dr : IsDrawnBy points edges darts) (ne : AreNexts points edges darts nexts)
    (s : ℕ) (orbit : List ℕ) (o : IsOrbit nexts s orbit) where
  abbrev vertices : List ℕ
  vertices = tails darts orbit

  pub dart_below : (i : ℕ) → i < length orbit → slice_index orbit i < length darts
  dart_below i l = let b = o.below i l in let n = ne.as_many in omega arith

  next_step : (i : ℕ) → i < length orbit → next (length vertices) i ≡ next (length orbit) i
  next_step i l = ap (λ n. next n i) (tails_length darts orbit)

  -- the vertex after a place is the one to which its dart comes
  pub head_at : (i : ℕ) → i < length orbit → after vertices i ≡ (dart_at darts (slice_index orbit i)).head
  head_at i l =
      ap (corner vertices) (next_step i l)
      ∙ tail_at darts orbit (next (length orbit) i) (next-below (length orbit) i l)
      ∙ ap (λ d. (dart_at darts d).tail) (orbit_step nexts s orbit o i l)
      ∙ (ne.each (slice_index orbit i) (dart_below i l)).from

  beyond_at : (i : ℕ) → i < length orbit → corner vertices (next (length vertices) (next (length vertices) i)) ≡ (dart_at darts (slice_index nexts (slice_index orbit i))).head
  beyond_at i l =
      let n = next-below (length orbit) i l in
      ap (λ k. corner vertices (next (length vertices) k)) (next_step i l)
      ∙ head_at (next (length orbit) i) n
      ∙ ap (λ d. (dart_at darts d).head) (orbit_step nexts s orbit o i l)

  goes_at : (i : ℕ) → i < length orbit → GoesOn points edges (corner vertices i) (after vertices i) (corner vertices (next (length vertices) (next (length vertices) i)))
  goes_at i l =
      let g = (ne.each (slice_index orbit i) (dart_below i l)).goes in
      subst (λ (t : ℕ). GoesOn points edges t (after vertices i) (corner vertices (next (length vertices) (next (length vertices) i)))) (sym (tail_at darts orbit i l))
      (subst (λ (t : ℕ). GoesOn points edges (dart_at darts (slice_index orbit i)).tail t (corner vertices (next (length vertices) (next (length vertices) i)))) (sym (head_at i l))
      (subst (λ (t : ℕ). GoesOn points edges (dart_at darts (slice_index orbit i)).tail (dart_at darts (slice_index orbit i)).head t) (sym (beyond_at i l)) g))

  short : (i : ℕ) → i < length vertices → i < length orbit
  short i l = let n = tails_length darts orbit in omega arith

  pub orbit_walk : IsWalk points edges vertices
  orbit_walk = record {
    some = (let n = tails_length darts orbit in let m = o.some in omega arith);
    goes = λ i l. goes_at i (short i l);
    once = λ i j l m e f. once i j (short i l) (short j m) e f;
  }
    where
      once : (i j : ℕ) → i < length orbit → j < length orbit → corner vertices i ≡ corner vertices j → after vertices i ≡ after vertices j → i ≡ j
      once i j l m e f =
          let t : (dart_at darts (slice_index orbit i)).tail ≡ (dart_at darts (slice_index orbit j)).tail = sym (tail_at darts orbit i l) ∙ e ∙ tail_at darts orbit j m in
          let h : (dart_at darts (slice_index orbit i)).head ≡ (dart_at darts (slice_index orbit j)).head = sym (head_at i l) ∙ f ∙ head_at j m in
          o.once i j l m (one_place darts dr.darts_are.sorted (slice_index orbit i) (slice_index orbit j) (dart_below i l) (dart_below j m) (λ k. record { tail = t k; head = h k }))

  -- it goes along each of its darts
  pub orbit_goes : (i : ℕ) → i < length orbit → Goes vertices (dart_at darts (slice_index orbit i)).tail (dart_at darts (slice_index orbit i)).head
  orbit_goes i l = record {
    place = i;
    inside = (let n = tails_length darts orbit in omega arith);
    from = tail_at darts orbit i l;
    to = head_at i l;
  }
