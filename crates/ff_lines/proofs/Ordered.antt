-- Points of a line in order of x and then of y, and the pieces between them.
use Rattle.std.proofs.Common.{◌≡◌, ◌≢◌, ◌⊎◌, inl, inr, ℕ, ◌+◌, ◌<◌, arith, refl, sym, ap, ◌∙◌, subst, ℤ, pos, ◌*ℤ◌, ◌<ℤ◌, ◌≤ℤ◌, List, length, slice_get, Some}
use lib.IntN.{neg_ℤ}
use Rattle.std.proofs.lemmas.Int.{ints, by_lt_z}
use Rattle.std.proofs.lemmas.Option.{slice_get_within}
use Rattle.std.proofs.lemmas.List.Elements.{Contains-get_or}
use Rattle.ff_basics.proofs.Numbers.{less_or}
use Rattle.ff_basics.proofs.Options.{same_value}
use Rattle.ff_whole.proofs.Signs.{linear}
use Rattle.ff_whole.proofs.ThreeTerms.{parallel-both}
use Rattle.ff_whole.proofs.Turns.{height-through, turn-swap}
use Rattle.ff_whole.proofs.Images.{distance_positive}
use Rattle.ff_whole.proofs.Ranks.{rank-same}
use Rattle.ff_whole.specs.Points.{IsNear, dot, minus, origin, turn}
use Rattle.ff_whole.specs.Places.{height, place_of, through}
use Rattle.ff_whole.specs.Convex.{point_at}
use Rattle.ff_whole.specs.Turning.{rank}
use Rattle.ff_whole.specs.declared.points.Pt.{Pt}
use Rattle.ff_whole.specs.declared.sizes.TheConstants.{POINT_SIZE}
use Rattle.ff_edges.specs.Ways.{IsEarlier, IsLater}
use Rattle.ff_edges.proofs.OnWays.{on_from_ranked, ranked_from_on}
use Rattle.ff_types.specs.declared.patterns.Mark.{Mark}
use Rattle.ff_types.specs.declared.patterns.Mark.TheVariants.{B, M, V, F, U}
use Rattle.ff_lines.specs.declared.items.LineItem.{LineItem}
use Rattle.ff_lines.specs.Lines.{IsOnLine, IsProper, LiesOn, NoneStops, ShareSegment}
use Rattle.ff_lines.specs.Drawings.{AreVertices, IsBefore, IsPieceAt, IsVertexOf}
use Rattle.ff_lines.specs.Heads.{IsHead, IsNext, IsOnAt}
use Rattle.ff_lines.proofs.Letters.{HasIndex, index_of}
use Rattle.ff_lines.proofs.Nearness.{from_on, near_point, to_on}
use Rattle.ff_lines.proofs.Sharing.{across_both, has, lies_swap, orient, self_past, way, whole_place}
use Rattle.ff_lines.proofs.TwoLines.{one_whole}
use Rattle.ff_basics.proofs.Tests.{not_true}

-- ---- ranks

rank-less : (p q : Pt) → IsNear p → IsNear q → p.x <ℤ q.x → rank p <ℤ rank q
rank-less p q h k l =
    let a = h.y_below.below in
    let b = k.y_below.below in
    omega (arith, ints)

pub rank_of_before : (p q : Pt) → IsNear p → IsNear q → IsBefore p q → rank p <ℤ rank q
rank_of_before p q h k (inl l) = rank-less p q h k l
rank_of_before p q h k (inr e) = let x = ap (λ z. pos (POINT_SIZE + POINT_SIZE) *ℤ z) e.0 in let y = e.1 in omega (arith, linear)

one_rank : (v : Pt) → pos 1 *ℤ rank v ≡ rank v
one_rank v = omega (arith, ints)

-- between two points in order
module _ (p q v : Pt) (goes : rank p <ℤ rank q) where
  long : pos 0 <ℤ dot (minus q p) (minus q p)
  long = distance_positive p q (λ e. let r : rank p ≡ rank q = ap rank e in omega (arith, linear))

  pub ranks_of : LiesOn p q (place_of v) → (rank p ≤ℤ rank v) × (rank v ≤ℤ rank q)
  ranks_of h =
      let r = ranked_from_on p q (place_of v) long goes (to_on p q (place_of v) h) in
      let a = one_rank p in let b = one_rank q in let lo = r.low in let hi = r.high in (omega (arith, linear), omega (arith, linear))

  pub lies_of : height (through p q) (place_of v) ≡ pos 0 → rank p ≤ℤ rank v → rank v ≤ℤ rank q → LiesOn p q (place_of v)
  lies_of on lo hi = let a = one_rank p in let b = one_rank q in
      from_on p q (place_of v) (on_from_ranked p q (place_of v) long goes (record { on = on; low = omega (arith, linear); high = omega (arith, linear) }))

-- ---- the test whether a point is on a line

module _ (l : LineItem) (proper : IsProper l) (v lo hi : Pt) (early : IsEarlier l.p l.q lo) (late : IsLater l.p l.q hi) where
  pub record InOrder : Type 0 where
    pub goes : rank lo <ℤ rank hi
    pub ends : ((lo ≡ l.p) × (hi ≡ l.q)) ⊎ ((lo ≡ l.q) × (hi ≡ l.p))

  differ : rank l.p ≡ rank l.q → ⊥
  differ e = proper.apart (rank-same l.p l.q proper.p_near proper.q_near e)

  in_order : InOrder
  in_order = elim early.one [
    | inl a ↦ elim late.one [
      | inl b ↦ absurd (let x = ap rank a in let y = ap rank b in let e2 = early.second in let l2 = late.second in differ (omega (arith, linear)))
      | inr b ↦ record { goes = less a b; ends = inl (a, b) }
    ]
    | inr a ↦ elim late.one [
      | inl b ↦ record { goes = less_too a b; ends = inr (a, b) }
      | inr b ↦ absurd (let x = ap rank a in let y = ap rank b in let e1 = early.first in let l1 = late.first in differ (omega (arith, linear)))
    ]
  ] where
    less : lo ≡ l.p → hi ≡ l.q → rank lo <ℤ rank hi
    less a b = let x = ap rank a in let y = ap rank b in let e2 = early.second in
        by_lt_z (rank lo) (rank hi) (λ m. m) (λ m. absurd (differ (omega (arith, linear))))

    less_too : lo ≡ l.q → hi ≡ l.p → rank lo <ℤ rank hi
    less_too a b = let x = ap rank a in let y = ap rank b in let e1 = early.first in
        by_lt_z (rank lo) (rank hi) (λ m. m) (λ m. absurd (differ (omega (arith, linear))))

  -- on the way between them
  between_ends : ((lo ≡ l.p) × (hi ≡ l.q)) ⊎ ((lo ≡ l.q) × (hi ≡ l.p)) → IsOnLine l (place_of v) → LiesOn lo hi (place_of v)
  between_ends (inl e) h = subst (λ a. LiesOn a hi (place_of v)) (sym e.0) (subst (λ b. LiesOn l.p b (place_of v)) (sym e.1) h)
  between_ends (inr e) h = subst (λ a. LiesOn a hi (place_of v)) (sym e.0) (subst (λ b. LiesOn l.q b (place_of v)) (sym e.1) (lies_swap l.p l.q (place_of v) h))

  from_ends : ((lo ≡ l.p) × (hi ≡ l.q)) ⊎ ((lo ≡ l.q) × (hi ≡ l.p)) → LiesOn lo hi (place_of v) → IsOnLine l (place_of v)
  from_ends (inl e) h = subst (λ a. LiesOn a l.q (place_of v)) e.0 (subst (λ b. LiesOn lo b (place_of v)) e.1 h)
  from_ends (inr e) h = lies_swap l.q l.p (place_of v) (subst (λ a. LiesOn a l.p (place_of v)) e.0 (subst (λ b. LiesOn lo b (place_of v)) e.1 h))

  flat_ends : ((lo ≡ l.p) × (hi ≡ l.q)) ⊎ ((lo ≡ l.q) × (hi ≡ l.p)) → turn l.p l.q v ≡ pos 0 → height (through lo hi) (place_of v) ≡ pos 0
  flat_ends (inl e) h = height-through lo hi v ∙ ap (λ a. turn a hi v) e.0 ∙ ap (λ b. turn l.p b v) e.1 ∙ h
  flat_ends (inr e) h = height-through lo hi v ∙ ap (λ a. turn a hi v) e.0 ∙ ap (λ b. turn l.q b v) e.1 ∙ turn-swap l.p l.q v ∙ (let z = h in negated (turn l.p l.q v) z) where
    negated : (z : ℤ) → z ≡ pos 0 → neg_ℤ z ≡ pos 0
    negated z e = ap neg_ℤ e

  pub on_of_test : turn l.p l.q v ≡ pos 0 → ((rank v <ℤ rank lo) → ⊥) → ((rank hi <ℤ rank v) → ⊥) → IsOnLine l (place_of v)
  on_of_test flat a b = from_ends in_order.ends (lies_of lo hi v in_order.goes (flat_ends in_order.ends flat)
      (by_lt_z (rank v) (rank lo) (λ m. absurd (a m)) (λ m. m)) (by_lt_z (rank hi) (rank v) (λ m. absurd (b m)) (λ m. m)))

  pub test_of_on : IsOnLine l (place_of v) → (turn l.p l.q v ≡ pos 0) × ((rank v <ℤ rank lo) → ⊥) × ((rank hi <ℤ rank v) → ⊥)
  test_of_on h =
      let r = ranks_of lo hi v in_order.goes (between_ends in_order.ends h) in let x = r.0 in let y = r.1 in
      (sym (height-through l.p l.q v) ∙ h.on, (λ m. omega (arith, linear)), (λ m. omega (arith, linear)))

-- ---- vertices of a line

-- a point between two of a line is on it
pub on_between : (l : LineItem) → l.p ≢ l.q → (a b v : Pt) → a ≢ b → IsOnLine l (place_of a) → IsOnLine l (place_of b) → LiesOn a b (place_of v) → IsOnLine l (place_of v)
on_between l d a b v differ f g on = elim (orient (way l) a b (self_past l d).ahead (across_both l d a b f g) differ) [
  | inl p ↦ has l d a b f g p (place_of v) (whole_place v) on
  | inr p ↦ has l d b a g f p (place_of v) (whole_place v) (lies_swap a b (place_of v) on)
]

-- three points of a line have no turn
flat_three : (l : LineItem) → l.p ≢ l.q → (a b v : Pt) → IsOnLine l (place_of a) → IsOnLine l (place_of b) → IsOnLine l (place_of v) → turn a b v ≡ pos 0
flat_three l d a b v f g h = parallel-both (way l) (minus b a) (minus v a) (self_past l d).ahead (across_both l d a b f g) (across_both l d a v f h)

module _ (lines : List LineItem) (proper : (i : ℕ) (l : LineItem) → slice_get lines i ≡ Some l → IsProper l) (points : List Pt) (vertices : AreVertices lines points) where
  pub vertex_at : (a : ℕ) → a < length points → IsVertexOf lines (point_at points a)
  vertex_at a l = (vertices.vertices (point_at points a)).0 (Contains-get_or points a origin l)

  -- each vertex is near
  near_vertex : (v : Pt) → IsVertexOf lines v → IsNear v
  near_vertex v (inl (i, l, there, inl e)) = subst IsNear (sym e) (proper i l there).p_near
  near_vertex v (inl (i, l, there, inr e)) = subst IsNear (sym e) (proper i l there).q_near
  near_vertex v (inr (i, j, k, l, are, only)) = let h = proper i k are.first in near_point k.p k.q v (distance_positive k.p k.q h.apart) only.is.first h.p_near h.q_near

  pub near_at : (a : ℕ) → a < length points → IsNear (point_at points a)
  near_at a l = near_vertex (point_at points a) (vertex_at a l)

  pub ranks_rise : (a b : ℕ) → a < b → b < length points → rank (point_at points a) <ℤ rank (point_at points b)
  ranks_rise a b l m = rank_of_before (point_at points a) (point_at points b) (near_at a (omega (arith, l, m))) (near_at b m) (vertices.rise a b l m)

  -- the next point of a line and this one are the ends of a piece
  pub piece_of_next : (i : ℕ) (l : LineItem) → slice_get lines i ≡ Some l → (a b : ℕ) → IsNext l points a b → IsPieceAt lines points l.mark a b
  piece_of_next i l there a b next = (
    next.order,
    next.within,
    record {
      a_vertex = vertex_at a inside;
      b_vertex = vertex_at b next.within;
      differ = apart;
      number = i;
      line = l;
      there = there;
      letter = refl;
      a_on = next.a_on;
      b_on = next.b_on;
      none = none;
    },
  ) where
    inside : a < length points
    inside = let o = next.order in let w = next.within in omega (arith, o, w)

    goes : rank (point_at points a) <ℤ rank (point_at points b)
    goes = ranks_rise a b next.order next.within

    apart : point_at points a ≢ point_at points b
    apart e = let r : rank (point_at points a) ≡ rank (point_at points b) = ap rank e in let g = goes in omega (arith, linear)

    by : (v : Pt) → LiesOn (point_at points a) (point_at points b) (place_of v) → HasIndex points v → (v ≡ point_at points a) ⊎ (v ≡ point_at points b)
    by v on c =
        let r = ranks_of (point_at points a) (point_at points b) v goes on in
        let same = ap rank c.is in let low = r.0 in let high = r.1 in
        let on_l = on_between l (proper i l there).apart (point_at points a) (point_at points b) v apart next.a_on next.b_on on in
        elim (less_or c.index a) [
          | inl before ↦ absurd (let m = ranks_rise c.index a before inside in omega (arith, linear))
          | inr h ↦ elim h [
            | inl e ↦ inl (sym c.is ∙ ap (point_at points) e)
            | inr after ↦ elim (less_or c.index b) [
              | inl between ↦ absurd (next.none c.index after between (subst (λ x. IsOnLine l (place_of x)) (sym c.is) on_l))
              | inr k ↦ elim k [
                | inl e ↦ inr (sym c.is ∙ ap (point_at points) e)
                | inr past ↦ absurd (let m = ranks_rise b c.index past c.inside in omega (arith, linear))
              ]
            ]
          ]
        ]

    none : (v : Pt) → IsVertexOf lines v → LiesOn (point_at points a) (point_at points b) (place_of v) → (v ≡ point_at points a) ⊎ (v ≡ point_at points b)
    none v is on = by v on (index_of points v ((vertices.vertices v).1 is))

  -- and the other way round
  pub head_of_piece : (a b : ℕ) (mark : Mark) → IsPieceAt lines points mark a b → IsHead lines (length lines) points a b mark
  head_of_piece a b mark (order, within, piece) = record {
    number = piece.number;
    line = piece.line;
    within = slice_get_within lines piece.number piece.line piece.there;
    there = piece.there;
    letter = piece.letter;
    next = record { order = order; within = within; a_on = piece.a_on; b_on = piece.b_on; none = none };
  } where
    none : (c : ℕ) → a < c → c < b → IsOnAt piece.line points c → ⊥
    none c after before on =
        let inside : c < length points = omega (arith, before, within) in
        let x = ranks_rise a c after inside in
        let y = ranks_rise c b before within in
        let goes = ranks_rise a b order within in
        let flat = flat_three piece.line (proper piece.number piece.line piece.there).apart (point_at points a) (point_at points b) (point_at points c) piece.a_on piece.b_on on in
        let lies = lies_of (point_at points a) (point_at points b) (point_at points c) goes (height-through (point_at points a) (point_at points b) (point_at points c) ∙ flat) (omega (arith, linear)) (omega (arith, linear)) in
        elim (piece.none (point_at points c) (vertex_at c inside) lies) [
          | inl e ↦ (let r : rank (point_at points c) ≡ rank (point_at points a) = ap rank e in omega (arith, linear))
          | inr e ↦ (let r : rank (point_at points c) ≡ rank (point_at points b) = ap rank e in omega (arith, linear))
        ]

  pub piece_of_head : (n a b : ℕ) (mark : Mark) → IsHead lines n points a b mark → IsPieceAt lines points mark a b
  piece_of_head n a b mark h = subst (λ m. IsPieceAt lines points m a b) h.letter (piece_of_next h.number h.line h.there a b h.next)

  -- ---- one letter

  mark_known : (m n : Mark) → (m ≡ n) ⊎ (m ≢ n)
  mark_known B B = inl refl
  mark_known M M = inl refl
  mark_known V V = inl refl
  mark_known F F = inl refl
  mark_known U U = inl refl
  mark_known m n = inr (λ e. absurd cc)

  pub one_letter : NoneStops lines → (a b : ℕ) (m n : Mark) → IsPieceAt lines points m a b → IsPieceAt lines points n a b → m ≡ n
  one_letter stops a b m n (order, within, g) (order2, within2, h) = elim (mark_known m n) [ inl e ↦ e | inr d ↦ absurd (two d) ] where
    both : (k l : LineItem) → IsOnLine k (place_of (point_at points a)) → IsOnLine k (place_of (point_at points b)) → IsOnLine l (place_of (point_at points a)) → IsOnLine l (place_of (point_at points b)) → ShareSegment k l
    both k l ka kb la lb = record {
      s = place_of (point_at points a);
      t = place_of (point_at points b);
      differ = not_true _ (λ t. g.differ (one_whole (point_at points a) (point_at points b) t));
      first = record { place = whole_place (point_at points a); first = ka; second = la };
      second = record { place = whole_place (point_at points b); first = kb; second = lb };
    }

    two : m ≢ n → ⊥
    two d = elim (less_or g.number h.number) [
      | inl less ↦ stops.letters g.number h.number (
        g.line,
        h.line,
        record { order = less; first = g.there; second = h.there },
        (both g.line h.line g.a_on g.b_on h.a_on h.b_on, λ e. d (sym g.letter ∙ e ∙ h.letter)),
      )
      | inr k ↦ elim k [
        | inl e ↦ d (sym g.letter ∙ ap (λ (l : LineItem). l.mark) (same_value g.there (subst (λ i. slice_get lines i ≡ Some h.line) (sym e) h.there)) ∙ h.letter)
        | inr more ↦ stops.letters h.number g.number (
          h.line,
          g.line,
          record { order = more; first = h.there; second = g.there },
          (both h.line g.line h.a_on h.b_on g.a_on g.b_on, λ e. d (sym g.letter ∙ sym e ∙ h.letter)),
        )
      ]
    ]
