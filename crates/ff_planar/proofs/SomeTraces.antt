-- A drawing has its walks: next darts, orbits, rings and sides are there, whether or not memory is left to list them.
use Rattle.std.proofs.Common.{◌≡◌, ◌≢◌, ◌⊎◌, inl, inr, ℕ, zero, suc, ◌+◌, ◌-◌, ◌<◌, ◌≤◌, List, [], ◌∷◌, ◌++◌, length, slice_index, slice_index_or, slice_set, Bool, true, false, arith, refl, sym, ◌∙◌, subst, pos, ◌<ℤ◌, ◌≤ℤ◌, ℤ}
use Rattle.std.proofs.Math.ListN.{replicate, length-replicate}
use Rattle.std.proofs.lemmas.List.{get_or_append_left, get_or_push, length_push}
use Rattle.std.proofs.lemmas.Bool.{false≢true}
use Rattle.std.proofs.lemmas.Int.{ints}
use Rattle.ff_basics.proofs.Numbers.{last_or, same_or}
use Rattle.ff_whole.specs.declared.points.Pt.{Pt}
use Rattle.ff_whole.proofs.CyclicOrder.{IsTurned}
use Rattle.ff_types.specs.declared.patterns.EdgeEnds.{EdgeEnds}
use Rattle.ff_types.specs.Areas.{area}
use Rattle.ff_types.specs.Walks.{in_turn, direction}
use Rattle.ff_drawn.specs.Graphs.{IsGraph}
use Rattle.ff_drawn.specs.Drawn.{IsDrawnBy}
use Rattle.ff_drawn.specs.declared.darts.Dart.{Dart}
use Rattle.ff_planar.specs.declared.traces.Side.{Side}
use Rattle.ff_planar.specs.declared.traces.Side.TheVariants.{Unmet, Outside, Face}
use Rattle.ff_drawn.specs.Darts.{dart_at}
use Rattle.ff_planar.specs.Turns.{IsNext, IsFirstOther}
use Rattle.ff_planar.specs.Orbits.{AreNexts, IsOneToOne, IsOrbit, tails}
use Rattle.ff_planar.specs.Traces.{side_at, AreTraced, Fills}
use Rattle.ff_planar.proofs.Neighbours.{turned_from, from_turned}
use Rattle.ff_planar.proofs.NextDarts.{AreLeaving, IsLast, first_is_last, skip_more, keep_more, take_more, next_from}
use Rattle.ff_planar.proofs.NextTables.{one_to_one}
use Rattle.ff_planar.proofs.Orbits.{OnWay, step, few}
use Rattle.ff_planar.proofs.OrbitWalks.{dart_below}
use Rattle.ff_planar.proofs.FilledSides.{FillsTo, fill_none, fill_more, fill_all}
use Rattle.ff_planar.proofs.TracedWalks.{IsTraced, unmet_or, trace_none, trace_skip, trace_outer, trace_ring, all_traced}
use Rattle.ff_planar.proofs.TraceSteps.{none_known}
use Rattle.ff_drawn.proofs.DartLists.{some_start}

-- where there is something for each number below n, there is a list of it
module _ {A : Type 0} (none : A) (P : ℕ → A → Type 0) where
  pub record AreChosen (n : ℕ) (list : List A) : Type 0 where
    pub as_many : length list ≡ n
    pub each : (k : ℕ) → k < n → P k (slice_index_or list k none)

  pub choose : (n : ℕ) → ((k : ℕ) → k < n → (a : A) × P k a) → (list : List A) × AreChosen n list
  choose zero h = ([], record { as_many = refl; each = λ k l. absurd (omega (arith, l)) })
  choose (suc n) h = more (choose n (λ k l. h k (omega (arith, l)))) (h n (omega arith)) where
    more : (list : List A) × AreChosen n list → (a : A) × P n a → (list : List A) × AreChosen (suc n) list
    more (list, c) (a, p) = (
      list ++ a ∷ [],
      record {
        as_many = (let m = length_push list a in let o = c.as_many in omega arith);
        each = λ k l. let m = c.as_many in elim (last_or k n (omega (arith, l))) [
          | inl o ↦ subst (P k) (sym (get_or_append_left list (a ∷ []) none k (omega (arith, o, m)))) (c.each k o)
          | inr e ↦ subst (P k) (sym (get_or_push list a none k (m ∙ sym e))) (subst (λ j. P j a) (sym e) p)
        ];
      },
    )

turned_or : (a b c : Pt) → IsTurned a b c ⊎ (IsTurned a b c → ⊥)
turned_or a b c = by (in_turn a b c) refl where
  by : (t : Bool) → in_turn a b c ≡ t → IsTurned a b c ⊎ (IsTurned a b c → ⊥)
  by true e = inl (turned_from a b c e)
  by false e = inr (λ t. false≢true (sym e ∙ from_turned a b c t))

-- ---- next darts

module _ (points : List Pt) (edges : List EdgeEnds) (darts : List Dart) (g : IsGraph points edges) (dr : IsDrawnBy points edges darts) where
  module _ (d : ℕ) (l : d < length darts) (start end : ℕ) (range : AreLeaving darts (dart_at darts d).head start end) where
    abbrev u : ℕ
    u = (dart_at darts d).tail

    abbrev v : ℕ
    v = (dart_at darts d).head

    first_other : (first : ℕ) × IsFirstOther darts u start first
    first_other = elim (same_or (dart_at darts start).head u) [
      | inl n ↦ (start, record { low = omega arith; high = omega arith; other = λ e. n; skipped = λ l. absurd (omega (arith, l)) })
      | inr e ↦ (start + 1, record { low = omega arith; high = omega arith; other = λ f. absurd (omega (arith, f)); skipped = λ l. e })
    ]

    last_up_to : (first : ℕ) → IsFirstOther darts u start first → (n : ℕ) → first + 1 + n ≤ end → (last : ℕ) × IsLast points darts u v start end (first + 1 + n) last
    last_up_to first f zero m = (first, subst (λ c. IsLast points darts u v start end c first) (omega arith) (first_is_last points edges darts g dr u v (dr.darts_are.along d l) start end range first f))
    last_up_to first f (suc n) m = by (last_up_to first f n (omega (arith, m))) where
      c : ℕ
      c = first + 1 + n

      below : first + 1 + n < end
      below = omega (arith, m)

      at_next : (last : ℕ) → IsLast points darts u v start end (first + 1 + n + 1) last → IsLast points darts u v start end (first + 1 + suc n) last
      at_next last h = subst (λ c. IsLast points darts u v start end c last) (omega arith) h

      by : (last : ℕ) × IsLast points darts u v start end (first + 1 + n) last → (last : ℕ) × IsLast points darts u v start end (first + 1 + suc n) last
      by (last, h) = elim (same_or (dart_at darts (first + 1 + n)).head u) [
        | inr e ↦ (last, at_next last (skip_more points edges darts g dr u v (dr.darts_are.along d l) start end range (first + 1 + n) last h e))
        | inl o ↦ elim (turned_or (direction points v u) (direction points v (dart_at darts last).head) (direction points v (dart_at darts (first + 1 + n)).head)) [
          | inl t ↦ (first + 1 + n, at_next (first + 1 + n) (take_more points edges darts g dr u v (dr.darts_are.along d l) start end range (first + 1 + n) last h below o t))
          | inr t ↦ (last, at_next last (keep_more points edges darts g dr u v (dr.darts_are.along d l) start end range (first + 1 + n) last h below o t))
        ]
      ]

    next_dart : (c : ℕ) × IsNext points edges darts d c
    next_dart = from first_other where
      at_end : (first : ℕ) → first < end → (last : ℕ) × IsLast points darts u v start end (first + 1 + (end - (first + 1))) last → (c : ℕ) × IsNext points edges darts d c
      at_end first m (last, h) = (last, next_from points edges darts g dr d l start end range (first + 1 + (end - (first + 1))) last h (omega (arith, m)))

      from : (first : ℕ) × IsFirstOther darts u start first → (c : ℕ) × IsNext points edges darts d c
      from (first, f) =
          let m = (first_is_last points edges darts g dr u v (dr.darts_are.along d l) start end range first f).within in
          at_end first m (last_up_to first f (end - (first + 1)) (omega (arith, m)))

  some_next : (d : ℕ) → d < length darts → (c : ℕ) × IsNext points edges darts d c
  some_next d l =
      let v = (dart_at darts d).head in
      let s = some_start darts (record { tail = v; head = 0 }) dr.darts_are.sorted in
      let e = some_start darts (record { tail = v + 1; head = 0 }) dr.darts_are.sorted in
      next_dart d l s.0 e.0 (record { first = s.1; last = e.1 })

  some_nexts : (nexts : List ℕ) × AreNexts points edges darts nexts
  some_nexts = let c = choose 0 (IsNext points edges darts) (length darts) some_next in (c.0, record { as_many = c.1.as_many; each = c.1.each })

-- ---- orbits

module _ (table : List ℕ) (o : IsOneToOne table) (s : ℕ) (within : s < length table) where
  go_on : (n : ℕ) (w : List ℕ) (d : ℕ) → OnWay table s w d → length table < length w + n → (orbit : List ℕ) × IsOrbit table s orbit
  go_on zero w d h l = let m = few table s w d h in absurd (omega (arith, l, m))
  go_on (suc n) w d h l = elim (same_or d s) [
    | inr e ↦ (w, record { some = h.some; first = h.first; below = h.below; goes = h.goes; back = sym h.next ∙ e; once = h.once })
    | inl x ↦ go_on n (w ++ d ∷ []) (slice_index table d) (step table s w d o.closed o.apart h x) (let m = length_push w d in omega (arith, l, m))
  ]

  some_orbit : (orbit : List ℕ) × IsOrbit table s orbit
  some_orbit = go_on (length table) (s ∷ []) (slice_index table s) (record {
    some = omega arith;
    first = refl;
    below = λ i l. alone i l;
    goes = λ i l. absurd (omega (arith, l));
    next = refl;
    once = λ i j l m e. omega (arith, l, m);
  }) (omega arith)
    where
      alone : (i : ℕ) → i < 1 → slice_index (s ∷ []) i < length table
      alone zero l = within
      alone (suc i) l = absurd (omega (arith, l))

-- ---- sides given to the darts of an orbit

some_fill : (old : List Side) (orbit : List ℕ) (side : Side) → ((i : ℕ) → i < length orbit → slice_index orbit i < length old) → (new : List Side) × Fills old orbit side new
some_fill old orbit side below = let f = up_to (length orbit) (omega arith) in (f.0, fill_all old orbit (length orbit) side f.0 f.1 (omega arith) (omega arith)) where
  up_to : (n : ℕ) → n ≤ length orbit → (new : List Side) × FillsTo old orbit n side new
  up_to zero l = (old, fill_none old orbit side)
  up_to (suc n) l = let f = up_to n (omega (arith, l)) in
      (slice_set f.0 (slice_index orbit n) side, subst (λ k. FillsTo old orbit k side (slice_set f.0 (slice_index orbit n) side)) (omega arith) (fill_more old orbit n side f.0 f.1 (below n l)))

-- ---- all walks

module _ (points : List Pt) (edges : List EdgeEnds) (darts : List Dart) (g : IsGraph points edges) (dr : IsDrawnBy points edges darts) where
  module _ (nexts : List ℕ) (ne : AreNexts points edges darts nexts) where
    abbrev Traced : ℕ → Type 0
    Traced n = (rings : List (List ℕ)) × (sides : List Side) × IsTraced points edges darts nexts n rings sides

    round_or : (ring : List ℕ) → (pos 0 <ℤ area points ring) ⊎ (area points ring ≤ℤ pos 0)
    round_or ring = by (area points ring) where
      by : (a : ℤ) → (pos 0 <ℤ a) ⊎ (a ≤ℤ pos 0)
      by a = grind (arith, ints)

    traced_up_to : (n : ℕ) → n ≤ length darts → Traced n
    traced_up_to zero l = let m = length-replicate (length darts) Unmet in
        ([], replicate (length darts) Unmet, trace_none points edges darts nexts (replicate (length darts) Unmet) m (none_known (length darts) (replicate (length darts) Unmet) refl))
    traced_up_to (suc n) l = by (traced_up_to n (omega (arith, l))) where
      at_next : (rings : List (List ℕ)) (sides : List Side) → IsTraced points edges darts nexts (n + 1) rings sides → Traced (suc n)
      at_next rings sides t = (rings, sides, subst (λ k. IsTraced points edges darts nexts k rings sides) (omega arith) t)

      add : (rings : List (List ℕ)) (sides : List Side) → IsTraced points edges darts nexts n rings sides → side_at sides n ≡ Unmet → (orbit : List ℕ) × IsOrbit nexts n orbit → Traced (suc n)
      add rings sides t unmet (orbit, o) = elim (round_or (tails darts orbit)) [
        | inl a ↦ let f = some_fill sides orbit (Face (length rings)) below in at_next (rings ++ tails darts orbit ∷ []) f.0 (trace_ring points edges darts nexts dr ne n rings sides t unmet orbit o f.0 f.1 a)
        | inr a ↦ let f = some_fill sides orbit Outside below in at_next rings f.0 (trace_outer points edges darts nexts dr ne n rings sides t unmet orbit o f.0 f.1 a)
      ]
        where
          below : (i : ℕ) → i < length orbit → slice_index orbit i < length sides
          below i m = let k = dart_below points edges darts nexts dr ne n orbit o i m in let a = t.as_many in omega (arith, k, a)

      by : Traced n → Traced (suc n)
      by (rings, sides, t) = elim (unmet_or (side_at sides n)) [
        | inr m ↦ at_next rings sides (trace_skip points edges darts nexts n rings sides t m)
        | inl u ↦ add rings sides t u (some_orbit nexts (one_to_one points edges darts nexts dr ne) n (let a = ne.as_many in omega (arith, l, a)))
      ]

    traced_all : (rings : List (List ℕ)) × (sides : List Side) × AreTraced points edges darts rings sides
    traced_all = let t = traced_up_to (length darts) (omega arith) in (t.0, t.1, all_traced points edges darts nexts dr (length darts) t.0 t.1 t.2 (omega arith) (omega arith))

  -- a drawing's darts are traced
  pub some_trace : (rings : List (List ℕ)) × (sides : List Side) × AreTraced points edges darts rings sides
  some_trace = let n = some_nexts points edges darts g dr in traced_all n.0 n.1
