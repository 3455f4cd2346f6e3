-- It can't be that lines come neither to a drawing nor to a refusal.
use Rattle.std.proofs.Common.{◌≡◌, ◌∙◌, ◌⊎◌, ◌↔◌, inl, inr, ℕ, zero, suc, ◌+◌, ◌<◌, ◌≤◌, false, List, [], ◌∷◌, ◌++◌, length, slice_get, Some, IsTrue, refl, sym, subst, arith, Contains}
use Rattle.std.specs.List.{All}
use Rattle.std.proofs.lemmas.Bool.{cases_lt}
use Rattle.std.proofs.lemmas.Int.{ints, by_lt_z}
use Rattle.std.proofs.lemmas.List.Elements.{Contains-get_or}
use Rattle.ff_basics.proofs.Memberships.{by_member, first_member, later_member, no_member}
use Rattle.ff_whole.specs.declared.points.Pt.{Pt}
use Rattle.ff_whole.specs.declared.places.Place.{Place}
use Rattle.ff_whole.specs.Points.{IsNear, origin}
use Rattle.ff_whole.specs.Places.{place_of, same_place}
use Rattle.ff_whole.specs.Convex.{point_at}
use Rattle.ff_whole.proofs.Images.{distance_positive}
use Rattle.ff_types.specs.declared.limits.TheConstants.{MOST_EDGES, MOST_VERTICES}
use Rattle.ff_types.specs.declared.patterns.EdgeEnds.{EdgeEnds}
use Rattle.ff_types.specs.declared.patterns.Mark.{Mark}
use Rattle.ff_types.specs.declared.patterns.Pattern.{Pattern}
use Rattle.ff_types.specs.declared.refusals.No.TheVariants.{Refused}
use Rattle.ff_types.specs.declared.refusals.Refusal.{Refusal}
use Rattle.ff_types.specs.declared.refusals.Refusal.TheVariants.{OffGrid, Overlap, TooMany}
use Rattle.ff_types.specs.declared.refusals.What.TheVariants.{Edges, Vertices}
use Rattle.ff_lines.specs.declared.items.LineItem.{LineItem}
use Rattle.ff_lines.specs.Lines.{AreLines, AreOffGrid, AreOverlapping, IsOnlyCommon, IsProper, NoneStops}
use Rattle.ff_lines.specs.Drawings.{AreEdges, AreVertices, IsBefore, IsDrawn, IsPieceAt, Rise, WhyNotDrawn}
use Rattle.ff_lines.specs.Gathered.{AreEndsOf, AreGathered, IsSqueezed}
use Rattle.ff_lines.specs.Heads.{AreEdgesTo}
use Rattle.ff_lines.proofs.Edging.{all_edges, no_edges, push_edge, row_of_edges, skip_edge}
use Rattle.ff_lines.proofs.Gathers.{after_meeting, after_plain, are_vertices, begun, kept_push, more_ends, no_ends, none_stops, row_done, stops_off, stops_over}
use Rattle.ff_lines.proofs.Nearness.{near_point}
use Rattle.ff_lines.proofs.Ordered.{one_letter}
use Rattle.ff_lines.proofs.Patterns.{is_pattern, proper_at}
use Rattle.ff_lines.proofs.Sharing.{lies_too, same_from, through_same, to_same, whole_place}
use Rattle.ff_cut.specs.Laws.{DrawingIsOne}
use Rattle.ff_cut.proofs.OnePattern.{not_both, one_refusal, same_pattern}

-- ---- points in order

-- each comes before all that follow it
abbrev AreInRow : List Pt → Type 0
AreInRow [] = Unit {0}
AreInRow (p ∷ ps) = ((x : Pt) → Contains ps x → IsBefore p x) × AreInRow ps

before_later : (p q r : Pt) → IsBefore p q → IsBefore q r → IsBefore p r
before_later p q r (inl a) (inl b) = inl (omega (arith, ints))
before_later p q r (inl a) (inr b) = let e = b.0 in inl (omega (arith, ints))
before_later p q r (inr a) (inl b) = let e = a.0 in inl (omega (arith, ints))
before_later p q r (inr a) (inr b) = let c = a.1 in let d = b.1 in inr (a.0 ∙ b.0, omega (arith, ints))

same_point : (p q : Pt) → p.x ≡ q.x → p.y ≡ q.y → p ≡ q
same_point p q x y = λ i. record { x = x i; y = y i }

compare : (p q : Pt) → IsBefore p q ⊎ (IsBefore q p ⊎ (p ≡ q))
compare p q = by_lt_z p.x q.x (λ l. inl (inl l))
    (λ h. by_lt_z q.x p.x (λ l. inr (inl (inl l))) (λ k. let e : p.x ≡ q.x = omega (arith, ints) in
    by_lt_z p.y q.y (λ l. inl (inr (e, l)))
    (λ m. by_lt_z q.y p.y (λ l. inr (inl (inr (sym e, l)))) (λ n. let f : p.y ≡ q.y = omega (arith, ints) in inr (inr (same_point p q e f))))))

-- the points with one more, in its place
record IsPut (v : Pt) (ps qs : List Pt) : Type 0 where
  pub row : AreInRow qs
  pub same : (x : Pt) → Contains qs x ↔ ((v ≡ x) ⊎ Contains ps x)

put_first : (v : Pt) (ps : List Pt) → AreInRow ps → ((x : Pt) → Contains ps x → IsBefore v x) → IsPut v ps (v ∷ ps)
put_first v ps row first = record {
  row = (first, row);
  same = λ x. ((λ m. by_member v ps x (λ e. inl e) (λ c. inr c) m), (λ s. elim s [ inl e ↦ first_member v ps x e | inr c ↦ later_member v ps x c ]));
}

put_later : (v p : Pt) (ps qs : List Pt) → AreInRow (p ∷ ps) → IsBefore p v → IsPut v ps qs → IsPut v (p ∷ ps) (p ∷ qs)
put_later v p ps qs row before h = record {
  row = ((λ x m. elim ((h.same x).0 m) [ inl e ↦ subst (IsBefore p) e before | inr c ↦ row.0 x c ]), h.row);
  same = λ x. (
    (λ m. by_member p qs x (λ e. inr (first_member p ps x e)) (λ c. elim ((h.same x).0 c) [ inl e ↦ inl e | inr d ↦ inr (later_member p ps x d) ]) m),
    (λ s. elim s [
      | inl e ↦ later_member p qs x ((h.same x).1 (inl e))
      | inr c ↦ by_member p ps x (λ e. first_member p qs x e) (λ d. later_member p qs x ((h.same x).1 (inr d))) c
    ]),
  );
}

put_there : (v p : Pt) (ps : List Pt) → AreInRow (p ∷ ps) → v ≡ p → IsPut v (p ∷ ps) (p ∷ ps)
put_there v p ps row e = record {
  row = row;
  same = λ x. ((λ m. inr m), (λ s. elim s [ inl f ↦ first_member p ps x (sym e ∙ f) | inr c ↦ c ]));
}

put : (v : Pt) (ps : List Pt) → AreInRow ps → (qs : List Pt) × IsPut v ps qs
put v [] row = (v ∷ [], put_first v [] tt (λ x c. absurd (no_member x c)))
put v (p ∷ ps) row = at (put v ps row.1) (compare v p) where
  at : (qs : List Pt) × IsPut v ps qs → IsBefore v p ⊎ (IsBefore p v ⊎ (v ≡ p)) → (qs : List Pt) × IsPut v (p ∷ ps) qs
  at rest (inl before) = (v ∷ p ∷ ps, put_first v (p ∷ ps) row (λ x m. by_member p ps x (λ e. subst (IsBefore v) e before) (λ c. before_later v p x before (row.0 x c)) m))
  at rest (inr (inl after)) = (p ∷ rest.0, put_later v p ps rest.0 row after rest.1)
  at rest (inr (inr e)) = (p ∷ ps, put_there v p ps row e)

rise_of : (ps : List Pt) → AreInRow ps → Rise ps
rise_of [] row i j l m = absurd (omega (arith, m))
rise_of (p ∷ ps) row i zero l m = absurd (omega (arith, l))
rise_of (p ∷ ps) row zero (suc j) l m = row.0 (point_at ps j) (Contains-get_or ps j origin (omega (arith, m)))
rise_of (p ∷ ps) row (suc i) (suc j) l m = rise_of ps row.1 i j (omega (arith, l)) (omega (arith, m))

squeezed : (ps : List Pt) → (qs : List Pt) × AreInRow qs × ((x : Pt) → Contains qs x ↔ Contains ps x)
squeezed [] = ([], tt, (λ x. ((λ m. m), (λ m. m))))
squeezed (p ∷ ps) = with_first (squeezed ps) where
  with_first : (qs : List Pt) × AreInRow qs × ((x : Pt) → Contains qs x ↔ Contains ps x) → (qs : List Pt) × AreInRow qs × ((x : Pt) → Contains qs x ↔ Contains (p ∷ ps) x)
  with_first (qs, row, same) = let r = put p qs row in (
    r.0,
    r.1.row,
    λ x. (
      (λ m. elim ((r.1.same x).0 m) [ inl e ↦ first_member p ps x e | inr c ↦ later_member p ps x ((same x).0 c) ]),
      (λ m. by_member p ps x (λ e. (r.1.same x).1 (inl e)) (λ c. (r.1.same x).1 (inr ((same x).1 c))) m),
    ),
  )

in_order : (ps : List Pt) → (qs : List Pt) × IsSqueezed ps qs
in_order ps = let r = squeezed ps in (r.0, record { same = r.2; rise = rise_of r.0 r.1 })

-- ---- one place of two lines

only_there : (k l : LineItem) (s : Place) (v : Pt) → IsOnlyCommon k l s → IsTrue (same_place (place_of v) s) → IsOnlyCommon k l (place_of v)
only_there k l s v only same =
    let e = to_same (place_of v) s same in record {
      is = record {
        place = whole_place v;
        first = lies_too k.p k.q s (place_of v) only.is.place (whole_place v) e only.is.first;
        second = lies_too l.p l.q s (place_of v) only.is.place (whole_place v) e only.is.second;
      };
      only = λ t c. same_from t (place_of v) (through_same t s (place_of v) only.is.place (to_same t s (only.only t c)) e);
    }

-- ---- the drawing

there : {A : Type 0} (xs : List A) (i : ℕ) → i < length xs → (x : A) × (slice_get xs i ≡ Some x)
there [] i l = absurd (omega (arith, l))
there (x ∷ xs) zero l = (x, refl)
there (x ∷ xs) (suc i) l = there xs i (omega (arith, l))

module _ (lines : List LineItem) (proper : All IsProper lines) (drawn : (p : Pattern) → IsDrawn lines p → ⊥) (refused : (r : Refusal) → WhyNotDrawn lines (Refused r) → ⊥) where
  ends : (n : ℕ) → n ≤ length lines → (points : List Pt) × AreEndsOf lines n points
  ends zero l = ([], no_ends lines)
  ends (suc n) l = with_line (ends n (omega (arith, l))) (there lines n (omega (arith, l))) where
    with_line : (points : List Pt) × AreEndsOf lines n points → (k : LineItem) × (slice_get lines n ≡ Some k) → (points : List Pt) × AreEndsOf lines (suc n) points
    with_line (points, h) (k, e) = let next : n + 1 ≡ suc n = omega arith in
        ((points ++ k.p ∷ []) ++ k.q ∷ [], subst (λ m. AreEndsOf lines m ((points ++ k.p ∷ []) ++ k.q ∷ [])) next (more_ends lines n k points e h))

  module _ (i j : ℕ) (k l : LineItem) (are : AreLines lines i j k l) (points : List Pt) (g : AreGathered lines i j points false) where
    off : AreOffGrid k l → ⊥
    off h = refused (OffGrid i j) (stops_off lines i j k l are points false g h)

    over : AreOverlapping k l → ⊥
    over h = refused (Overlap i j) (stops_over lines i j k l are points false g h)

    near : (v : Pt) → IsOnlyCommon k l (place_of v) → IsNear v
    near v only = let h = proper_at lines proper i k are.first in near_point k.p k.q v (distance_positive k.p k.q h.apart) only.is.first h.p_near h.q_near

    pair : ((ps : List Pt) → AreGathered lines i (j + 1) ps false → ⊥) → ⊥
    pair next = plain (λ m. next (points ++ m.0 ∷ []) (after_meeting lines i j k l are points false g m.0 (record { near = near m.0 m.1; only = m.1 }) (points ++ m.0 ∷ []) (kept_push points false m.0))) where
      plain : ((v : Pt) × IsOnlyCommon k l (place_of v) → ⊥) → ⊥
      plain none = next points (after_plain lines i j k l are points false g (record {
        ends = λ s only. absurd (off (s, only, λ v same. none (v, only_there k l s v only same)));
        letters = over;
      }))

  -- the pairs of a line with those after it
  row : (i : ℕ) (k : LineItem) → slice_get lines i ≡ Some k → (fuel j : ℕ) → i < j → j + fuel ≡ length lines → (points : List Pt) → AreGathered lines i j points false
      → ((ps : List Pt) → AreGathered lines (i + 1) (i + 1 + 1) ps false → ⊥) → ⊥
  row i k e zero j order end points g next = next points (row_done lines i j points false (omega (arith, end)) g)
  row i k e (suc fuel) j order end points g next =
      let l = there lines j (omega (arith, end)) in
      pair i j k l.0 (record { order = order; first = e; second = l.1 }) points g (λ ps h. row i k e fuel (j + 1) (omega (arith, order)) (omega (arith, end)) ps h next)

  rows : (fuel i : ℕ) → i + fuel ≡ length lines → (points : List Pt) → AreGathered lines i (i + 1) points false
      → ((ps : List Pt) → AreGathered lines (length lines) (length lines + 1) ps false → ⊥) → ⊥
  rows zero i end points g next = let e : i ≡ length lines = omega (arith, end) in next points (subst (λ n. AreGathered lines n (n + 1) points false) e g)
  rows (suc fuel) i end points g next =
      let k = there lines i (omega (arith, end)) in
      row i k.0 k.1 fuel (i + 1) (omega arith) (omega (arith, end)) points g (λ ps h. rows fuel (i + 1) (omega (arith, end)) ps h next)

  -- ---- the edges between the vertices

  module _ (qs : List Pt) (none : NoneStops lines) (vertices : AreVertices lines qs) where
    edge : (a b : ℕ) (es : List EdgeEnds) (ms : List Mark) → AreEdgesTo lines qs a b es ms → ((fs : List EdgeEnds) (ns : List Mark) → AreEdgesTo lines qs a (b + 1) fs ns → ⊥) → ⊥
    edge a b es ms h next = skip (λ m. next (es ++ record { a = a; b = b } ∷ []) (ms ++ m.0 ∷ [])
        (push_edge lines qs a b es ms h m.0 m.1 (λ n other. one_letter lines (proper_at lines proper) qs vertices none a b n m.0 other m.1))) where
          skip : ((m : Mark) × IsPieceAt lines qs m a b → ⊥) → ⊥
          skip free = next es ms (skip_edge lines qs a b es ms h (λ m piece. free (m, piece)))

    edge_row : (a fuel b : ℕ) → b + fuel ≡ length qs → (es : List EdgeEnds) (ms : List Mark) → AreEdgesTo lines qs a b es ms
        → ((fs : List EdgeEnds) (ns : List Mark) → AreEdgesTo lines qs (a + 1) (a + 1 + 1) fs ns → ⊥) → ⊥
    edge_row a zero b end es ms h next = next es ms (row_of_edges lines qs a b es ms h (omega (arith, end)))
    edge_row a (suc fuel) b end es ms h next = edge a b es ms h (λ fs ns k. edge_row a fuel (b + 1) (omega (arith, end)) fs ns k next)

    edge_rows : (fuel a : ℕ) → a + fuel ≡ length qs → (es : List EdgeEnds) (ms : List Mark) → AreEdgesTo lines qs a (a + 1) es ms
        → ((fs : List EdgeEnds) (ns : List Mark) → AreEdges lines qs fs ns → ⊥) → ⊥
    edge_rows zero a end es ms h next = next es ms (all_edges lines qs a (a + 1) es ms h (omega (arith, end)))
    edge_rows (suc fuel) a end es ms h next = edge_row a fuel (a + 1) (omega (arith, end)) es ms h (λ fs ns k. edge_rows fuel (a + 1) (omega (arith, end)) fs ns k next)

    of_edges : length qs ≤ MOST_VERTICES → (es : List EdgeEnds) (ms : List Mark) → AreEdges lines qs es ms → (MOST_EDGES < length es) ⊎ (length es ≤ MOST_EDGES) → ⊥
    of_edges few es ms h (inl many) = refused (TooMany Edges MOST_EDGES) (
      none,
      record { points = qs; edges = es; marks = ms; drawing = record { are_vertices = vertices; are_edges = h }; few = few; many = many },
      refl,
    )
    of_edges few es ms h (inr few_too) = drawn (record { points = qs; edges = es; marks = Some ms; valid = is_pattern lines proper qs es ms vertices h few few_too })
        (record { none = none; marks = ms; marked = refl; drawing = record { are_vertices = vertices; are_edges = h } })

    of_vertices : (MOST_VERTICES < length qs) ⊎ (length qs ≤ MOST_VERTICES) → ⊥
    of_vertices (inl many) = refused (TooMany Vertices MOST_VERTICES) (none, record { points = qs; vertices = λ v c. (vertices.vertices v).0 c; rise = vertices.rise; many = many }, refl)
    of_vertices (inr few) = edge_rows (length qs) 0 (omega arith) [] [] (no_edges lines qs) (λ es ms h. of_edges few es ms h (cases_lt MOST_EDGES (length es)))

  of_pairs : (points : List Pt) → AreGathered lines (length lines) (length lines + 1) points false → ⊥
  of_pairs points g =
      let q = in_order points in
      of_vertices q.0 (none_stops lines points false g) (are_vertices lines points false g refl q.0 q.1) (cases_lt MOST_VERTICES (length q.0))

  some_pattern : ⊥
  some_pattern =
      let e = ends (length lines) (omega arith) in
      rows (length lines) 0 (omega arith) e.0 (begun lines e.0 e.1) of_pairs

pub drawing_is_one : DrawingIsOne
drawing_is_one = record {
  pattern = same_pattern;
  refusal = one_refusal;
  not_both = not_both;
  some = some_pattern;
}
