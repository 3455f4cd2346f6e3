-- What the walk of a dart needs at each of its calls.
use Rattle.std.proofs.Common.{◌≡◌, ◌⊎◌, inl, inr, ◌↔◌, ℕ, ◌+◌, ◌-◌, ◌<◌, ◌≤◌, Bool, true, false, List, length, slice_index, arith, refl, sym, ap, ◌∙◌, subst, pos, ◌<ℤ◌, IsTrue}
use Rattle.std.specs.List.{All}
use Rattle.std.proofs.lemmas.Bool.{false≢true}
use Rattle.std.proofs.lemmas.Int.{by_lt_z}
use Rattle.std.proofs.Math.ListN.{get_or-eq_default, replicate, length-replicate}
use Rattle.std.proofs.lemmas.List.{get_or_default, get_or-replicate}
use Rattle.ff_whole.specs.declared.points.Pt.{Pt}
use Rattle.ff_whole.specs.Points.{IsNear, origin}
use Rattle.ff_types.specs.declared.patterns.EdgeEnds.{EdgeEnds}
use Rattle.ff_types.specs.Areas.{area}
use Rattle.ff_drawn.specs.declared.darts.Dart.{Dart}
use Rattle.ff_planar.specs.declared.traces.Side.{Side}
use Rattle.ff_planar.specs.declared.traces.Side.TheVariants.{Unmet}
use Rattle.ff_drawn.specs.Graphs.{IsGraph}
use Rattle.ff_drawn.specs.Drawn.{IsDrawnBy}
use Rattle.ff_planar.specs.Orbits.{AreNexts, IsOrbit, tails}
use Rattle.ff_planar.specs.Traces.{side_at, AddsWalk}
use Rattle.ff_planar.proofs.NextDarts.{ends_there}
use Rattle.ff_planar.proofs.Orbits.{few}
use Rattle.ff_planar.proofs.OrbitWalks.{dart_below, tails_length, tail_at}
use Rattle.ff_planar.proofs.TracedWalks.{IsTraced, trace_ring, trace_outer}

pub all_near : (points : List Pt) (edges : List EdgeEnds) → IsGraph points edges → All IsNear points
all_near points edges g k d l = subst IsNear (get_or_default points k origin d l) (g.near k l)

numbers_below : (n : ℕ) (list : List ℕ) → ((i : ℕ) → i < length list → slice_index list i < n) → All (λ d. d < n) list
numbers_below n list h k d l = subst (λ x. x < n) (get_or_default list k 0 d l) (h k l)

module _ (points : List Pt) (edges : List EdgeEnds) (darts : List Dart) (nexts : List ℕ) (dr : IsDrawnBy points edges darts) (ne : AreNexts points edges darts nexts)
    (d : ℕ) (orbit : List ℕ) (o : IsOrbit nexts d orbit) where
  pub darts_below : All (λ k. k < length darts) orbit
  darts_below = numbers_below (length darts) orbit (dart_below points edges darts nexts dr ne d orbit o)

  pub vertices_below : All (λ v. v < length points) (tails darts orbit)
  vertices_below = numbers_below (length points) (tails darts orbit) (λ i l. let n = tails_length darts orbit in below i (omega (arith, l, n))) where
    below : (i : ℕ) → i < length orbit → slice_index (tails darts orbit) i < length points
    below i l = subst (λ v. v < length points) (sym (tail_at darts orbit i l)) (ends_there points edges darts dr (slice_index orbit i) (dart_below points edges darts nexts dr ne d orbit o i l)).0

  pub orbit_short : length (tails darts orbit) ≤ length darts
  orbit_short =
      let n = tails_length darts orbit in
      let m = ne.as_many in
      let f = few nexts d orbit (slice_index nexts (slice_index orbit (length orbit - 1))) (record { some = o.some; first = o.first; below = o.below; goes = o.goes; next = refl; once = o.once }) in
      omega arith

  -- one walk more
  pub add_one : (rings : List (List ℕ)) (sides : List Side) (b : Bool) (more : List (List ℕ)) (new : List Side) → IsTraced points edges darts nexts d rings sides → side_at sides d ≡ Unmet
      → (IsTrue b ↔ (pos 0 <ℤ area points (tails darts orbit))) → AddsWalk b rings sides orbit (tails darts orbit) more new → IsTraced points edges darts nexts (d + 1) more new
  add_one rings sides true more new t u r a =
      subst (λ l. IsTraced points edges darts nexts (d + 1) l new) (sym a.0) (trace_ring points edges darts nexts dr ne d rings sides t u orbit o new a.1 (r.0 refl))
  add_one rings sides false more new t u r a =
      subst (λ l. IsTraced points edges darts nexts (d + 1) l new) (sym a.0) (trace_outer points edges darts nexts dr ne d rings sides t u orbit o new a.1 (by_lt_z (pos 0) (area points (tails darts orbit)) (λ l. absurd (false≢true (r.1 l))) (λ l. l)))

-- the table of sides with nothing met
pub none_known : (n : ℕ) (sides : List Side) → sides ≡ replicate n Unmet → (k : ℕ) → side_at sides k ≡ Unmet
none_known n sides e k = ap (λ s. side_at s k) e ∙ elim (below_or k n) [
  | inl l ↦ get_or-replicate n k Unmet Unmet l
  | inr l ↦ get_or-eq_default (replicate n Unmet) Unmet (let m = length-replicate n Unmet in omega (arith, l, m))
]
  where
    below_or : (i n : ℕ) → (i < n) ⊎ (n ≤ i)
    below_or i n = grind arith
