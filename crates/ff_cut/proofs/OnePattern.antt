-- The drawing of lines is one, or one refusal comes.
use Rattle.std.proofs.Common.{◌≡◌, ◌∙◌, ◌⊎◌, inl, inr, ℕ, suc, ◌<◌, ◌≤◌, List, [], ◌∷◌, length, get_or, slice_get, Some, refl, sym, ap, subst, arith, Contains}
use Rattle.std.proofs.lemmas.Bool.{false≢true}
use Rattle.std.proofs.lemmas.Int.{ints}
use Rattle.std.proofs.lemmas.Option.{slice_get_within, slice_get-get_or, get_or_from_slice_get}
use Rattle.ff_basics.proofs.Lists.{place_of_member}
use Rattle.ff_basics.proofs.Numbers.{less_or}
use Rattle.ff_basics.proofs.Options.{same_value, some_same}
use Rattle.ff_whole.specs.declared.points.Pt.{Pt}
use Rattle.ff_whole.specs.Points.{origin}
use Rattle.ff_whole.specs.Convex.{point_at}
use Rattle.ff_crossings.proofs.SortedLists.{InOrder, Stands, no_longer, same_lists}
use Rattle.ff_types.specs.declared.limits.TheConstants.{MOST_EDGES, MOST_VERTICES}
use Rattle.ff_types.specs.declared.patterns.EdgeEnds.{EdgeEnds}
use Rattle.ff_types.specs.declared.patterns.Mark.{Mark}
use Rattle.ff_types.specs.declared.patterns.Mark.TheVariants.{B}
use Rattle.ff_types.specs.declared.patterns.Pattern.{Pattern}
use Rattle.ff_types.specs.declared.refusals.No.TheVariants.{Refused}
use Rattle.ff_types.specs.declared.refusals.Refusal.{Refusal}
use Rattle.ff_types.specs.declared.refusals.Refusal.TheVariants.{OffGrid, Overlap, TooMany}
use Rattle.ff_types.specs.declared.refusals.What.TheVariants.{Edges, Vertices}
use Rattle.ff_types.specs.Patterns.{edge_at}
use Rattle.ff_lines.specs.declared.items.LineItem.{LineItem}
use Rattle.ff_lines.specs.Lines.{ComesBefore, IsOnlyCommon, NoneBefore, NoneStops, OffGridAt, OverlapAt, ShareSegment, StopsAt}
use Rattle.ff_lines.specs.Drawings.{AreEdges, AreVertices, EdgesRise, HasManyEdges, HasManyVertices, IsBefore, IsDrawn, IsVertexOf, Rise, WhyNotDrawn}
use Rattle.ff_lines.proofs.Sharing.{same_from, through_same, to_same}
use Rattle.ff_cut.specs.Laws.{AreSame}

-- ---- the vertices

before_apart : (p q : Pt) → IsBefore p q → IsBefore q p → ⊥
before_apart p q (inl a) (inl b) = omega (arith, ints)
before_apart p q (inl a) (inr b) = let e = b.0 in omega (arith, ints)
before_apart p q (inr a) (inl b) = let e = a.0 in omega (arith, ints)
before_apart p q (inr a) (inr b) = let c = a.1 in let d = b.1 in omega (arith, ints)

points_in_order : (ps : List Pt) → Rise ps → InOrder IsBefore ps
unfolding InOrder
points_in_order ps rise m n x y l e f =
    subst (λ z. IsBefore z y) (get_or_from_slice_get ps m x origin e) (subst (IsBefore (point_at ps m)) (get_or_from_slice_get ps n y origin f) (rise m n l (slice_get_within ps n y f)))

member_of : {A : Type 0} (xs : List A) (x : A) → Stands xs x → Contains xs x
member_of xs x (n, e) = (n, slice_get_within xs n x e, get_or_from_slice_get xs n x x e)

points_there : (lines : List LineItem) (ps qs : List Pt) → ((v : Pt) → Contains ps v → IsVertexOf lines v) → AreVertices lines qs → (v : Pt) → Stands ps v → Stands qs v
points_there lines ps qs are b v s = place_of_member qs v ((b.vertices v).1 (are v (member_of ps v s)))

same_points : (lines : List LineItem) (ps qs : List Pt) → AreVertices lines ps → AreVertices lines qs → ps ≡ qs
same_points lines ps qs a b = same_lists IsBefore before_apart ps qs (points_in_order ps a.rise) (points_in_order qs b.rise)
    (λ v. (points_there lines ps qs (λ x. (a.vertices x).0) b v, points_there lines qs ps (λ x. (b.vertices x).0) a v))

-- different vertices are no more than the vertices
not_many : (lines : List LineItem) (ps : List Pt) → AreVertices lines ps → length ps ≤ MOST_VERTICES → HasManyVertices lines → ⊥
not_many lines ps a few h =
    let l = no_longer IsBefore before_apart h.points ps (points_in_order h.points h.rise) (points_in_order ps a.rise) (points_there lines h.points ps h.vertices a) in
    let m = h.many in omega (arith, l, m, few)

-- ---- the edges

abbrev Less : EdgeEnds → EdgeEnds → Type 0
Less e k = (e.a < k.a) ⊎ ((e.a ≡ k.a) × (e.b < k.b))

less_apart : (e k : EdgeEnds) → Less e k → Less k e → ⊥
less_apart e k (inl a) (inl b) = omega (arith, a, b)
less_apart e k (inl a) (inr b) = let x = b.0 in omega (arith, a, x)
less_apart e k (inr a) (inl b) = let x = a.0 in omega (arith, x, b)
less_apart e k (inr a) (inr b) = let x = a.1 in let y = b.1 in omega (arith, x, y)

edges_in_order : (es : List EdgeEnds) → EdgesRise es → InOrder Less es
unfolding InOrder
edges_in_order es rise m n x y l e f =
    subst (λ z. Less z y) (get_or_from_slice_get es m x (record { a = 0; b = 0 }) e) (subst (Less (edge_at es m)) (get_or_from_slice_get es n y (record { a = 0; b = 0 }) f) (rise m n l (slice_get_within es n y f)))

module _ (lines : List LineItem) (points : List Pt) where
  edges_there : (es fs : List EdgeEnds) (ms ns : List Mark) → AreEdges lines points es ms → AreEdges lines points fs ns → (x : EdgeEnds) → Stands es x → Stands fs x
  edges_there es fs ms ns a b x (n, e) =
      let l : n < length ms = (let c = a.as_many in let w = slice_get_within es n x e in omega (arith, c, w)) in
      let h = (b.pieces x.a x.b (get_or ms n B)).0 ((a.pieces x.a x.b (get_or ms n B)).1 (n, e, slice_get-get_or ms n B l)) in
      (h.0, h.1)

  same_edges : (es fs : List EdgeEnds) (ms ns : List Mark) → AreEdges lines points es ms → AreEdges lines points fs ns → es ≡ fs
  same_edges es fs ms ns a b = same_lists Less less_apart es fs (edges_in_order es a.rise) (edges_in_order fs b.rise) (λ x. (edges_there es fs ms ns a b x, edges_there fs es ns ms b a x))

  -- an edge stands once
  one_place : (es : List EdgeEnds) → EdgesRise es → (m n : ℕ) (x : EdgeEnds) → slice_get es m ≡ Some x → slice_get es n ≡ Some x → m ≡ n
  unfolding InOrder
  one_place es rise m n x e f = elim (less_or m n) [
    | inl l ↦ (let r = edges_in_order es rise m n x x l e f in absurd (less_apart x x r r))
    | inr (inl s) ↦ s
    | inr (inr l) ↦ (let r = edges_in_order es rise n m x x l f e in absurd (less_apart x x r r))
  ]

  mark_there : (es : List EdgeEnds) (ms ns : List Mark) → AreEdges lines points es ms → AreEdges lines points es ns → (n : ℕ) (m : Mark) → slice_get ms n ≡ Some m → slice_get ns n ≡ Some m
  mark_there es ms ns a b n m e =
      let l : n < length es = (let c = a.as_many in let w = slice_get_within ms n m e in omega (arith, c, w)) in
      let there : slice_get es n ≡ Some (edge_at es n) = slice_get-get_or es n (record { a = 0; b = 0 }) l in
      let h = (b.pieces (edge_at es n).a (edge_at es n).b m).0 ((a.pieces (edge_at es n).a (edge_at es n).b m).1 (n, there, e)) in
      subst (λ k. slice_get ns k ≡ Some m) (one_place es b.rise h.0 n (edge_at es n) h.1 there) h.2

same_items : {A : Type 0} (xs ys : List A) → length xs ≡ length ys → ((n : ℕ) (x : A) → slice_get xs n ≡ Some x → slice_get ys n ≡ Some x) → xs ≡ ys
same_items [] [] l h = refl
same_items [] (y ∷ ys) l h = absurd (omega (arith, l))
same_items (x ∷ xs) [] l h = absurd (omega (arith, l))
same_items (x ∷ xs) (y ∷ ys) l h = ap (λ z. z ∷ xs) (sym (some_same (h 0 x refl))) ∙ ap (λ zs. y ∷ zs) (same_items xs ys (omega (arith, l)) (λ n z e. h (suc n) z e))

same_marks : (lines : List LineItem) (points : List Pt) (es : List EdgeEnds) (ms ns : List Mark) → AreEdges lines points es ms → AreEdges lines points es ns → ms ≡ ns
same_marks lines points es ms ns a b = same_items ms ns (a.as_many ∙ sym b.as_many) (mark_there lines points es ms ns a b)

-- ---- the drawing

pub same_pattern : (lines : List LineItem) (p q : Pattern) → IsDrawn lines p → IsDrawn lines q → AreSame p q
same_pattern lines p q a b =
    let points = same_points lines p.points q.points a.drawing.are_vertices b.drawing.are_vertices in
    let there = subst (λ (ps : List Pt). AreEdges lines ps p.edges a.marks) points a.drawing.are_edges in
    let edges = same_edges lines q.points p.edges q.edges a.marks b.marks there b.drawing.are_edges in
    let marks = same_marks lines q.points q.edges a.marks b.marks (subst (λ (es : List EdgeEnds). AreEdges lines q.points es a.marks) edges there) b.drawing.are_edges in
    (points, edges, a.marked ∙ ap (λ ms. Some ms) marks ∙ sym b.marked)

-- ---- the refusals

-- a pair stops, before which none does
abbrev StopOut : List LineItem → Refusal → Type 0
StopOut lines r = (i j : ℕ) × NoneBefore lines i j × ((OffGridAt lines i j × (r ≡ OffGrid i j)) ⊎ (OverlapAt lines i j × (r ≡ Overlap i j)))

-- or none does, and there are too many vertices or edges
abbrev CountOut : List LineItem → Refusal → Type 0
CountOut lines r = NoneStops lines × ((HasManyVertices lines × (r ≡ TooMany Vertices MOST_VERTICES)) ⊎ (HasManyEdges lines × (r ≡ TooMany Edges MOST_EDGES)))

out : (lines : List LineItem) (r : Refusal) → WhyNotDrawn lines (Refused r) → StopOut lines r ⊎ CountOut lines r
out lines (OffGrid i j) h = inl (i, j, h.1, inl (h.0, refl))
out lines (Overlap i j) h = inl (i, j, h.1, inr (h.0, refl))
out lines (TooMany Vertices n) h = inr (h.0, inl (h.1, ap (λ m. TooMany Vertices m) h.2))
out lines (TooMany Edges n) h = inr (h.0, inr (h.1, ap (λ m. TooMany Edges m) h.2))
out lines r h = absurd h

-- one common place, or a segment
not_both_ways : (lines : List LineItem) (i j : ℕ) → OffGridAt lines i j → OverlapAt lines i j → ⊥
not_both_ways lines i j (k, l, are, (s, only, not)) (m, n, too, (share, differ)) = one m n (same_value are.first too.first) (same_value are.second too.second) share where
  one : (m n : LineItem) → k ≡ m → l ≡ n → ShareSegment m n → ⊥
  one m n e f share =
      let o = subst (λ (x : LineItem). IsOnlyCommon x n s) e (subst (λ (y : LineItem). IsOnlyCommon k y s) f only) in
      let a = to_same share.s s (o.only share.s share.first) in
      let b = to_same share.t s (o.only share.t share.second) in
      false≢true (sym share.differ ∙ same_from share.s share.t (through_same share.s s share.t o.is.place a b))

stops_of : (lines : List LineItem) (i j : ℕ) (r : Refusal) → (OffGridAt lines i j × (r ≡ OffGrid i j)) ⊎ (OverlapAt lines i j × (r ≡ Overlap i j)) → StopsAt lines i j
stops_of lines i j r (inl a) = inl a.0
stops_of lines i j r (inr a) = inr a.0

one_kind : (lines : List LineItem) (i j : ℕ) (r s : Refusal) → (OffGridAt lines i j × (r ≡ OffGrid i j)) ⊎ (OverlapAt lines i j × (r ≡ Overlap i j))
    → (OffGridAt lines i j × (s ≡ OffGrid i j)) ⊎ (OverlapAt lines i j × (s ≡ Overlap i j)) → r ≡ s
one_kind lines i j r s (inl a) (inl b) = a.1 ∙ sym b.1
one_kind lines i j r s (inl a) (inr b) = absurd (not_both_ways lines i j a.0 b.0)
one_kind lines i j r s (inr a) (inl b) = absurd (not_both_ways lines i j b.0 a.0)
one_kind lines i j r s (inr a) (inr b) = a.1 ∙ sym b.1

which_first : (a b i j : ℕ) → ComesBefore a b i j ⊎ (((a ≡ i) × (b ≡ j)) ⊎ ComesBefore i j a b)
which_first a b i j = elim (less_or a i) [
  | inl l ↦ inl (inl l)
  | inr (inr l) ↦ inr (inr (inl l))
  | inr (inl e) ↦ elim (less_or b j) [
    | inl m ↦ inl (inr (e, m))
    | inr (inr m) ↦ inr (inr (inr (sym e, m)))
    | inr (inl f) ↦ inr (inl (e, f))
  ]
]

one_stop : (lines : List LineItem) (r s : Refusal) → StopOut lines r → StopOut lines s → r ≡ s
one_stop lines r s (a, b, none, h) (i, j, none2, g) = elim (which_first a b i j) [
  | inl l ↦ absurd (none2 a b l (stops_of lines a b r h))
  | inr (inr l) ↦ absurd (none i j l (stops_of lines i j s g))
  | inr (inl e) ↦ one_kind lines i j r s (subst (λ y. (OffGridAt lines i y × (r ≡ OffGrid i y)) ⊎ (OverlapAt lines i y × (r ≡ Overlap i y))) e.1
      (subst (λ x. (OffGridAt lines x b × (r ≡ OffGrid x b)) ⊎ (OverlapAt lines x b × (r ≡ Overlap x b))) e.0 h)) g
]

none_stops : (lines : List LineItem) → NoneStops lines → (i j : ℕ) → StopsAt lines i j → ⊥
none_stops lines none i j (inl (k, l, are, (s, only, not))) = let w = none.wholes i j k l are s only in not w.0 w.1
none_stops lines none i j (inr over) = none.letters i j over

stop_or : (lines : List LineItem) (r : Refusal) → NoneStops lines → StopOut lines r → ⊥
stop_or lines r none (i, j, before, h) = none_stops lines none i j (stops_of lines i j r h)

one_count : (lines : List LineItem) (r s : Refusal) → CountOut lines r → CountOut lines s → r ≡ s
one_count lines r s (none, inl a) (none2, inl b) = a.1 ∙ sym b.1
one_count lines r s (none, inl a) (none2, inr b) = absurd (not_many lines b.0.points b.0.drawing.are_vertices b.0.few a.0)
one_count lines r s (none, inr a) (none2, inl b) = absurd (not_many lines a.0.points a.0.drawing.are_vertices a.0.few b.0)
one_count lines r s (none, inr a) (none2, inr b) = a.1 ∙ sym b.1

one_out : (lines : List LineItem) (r s : Refusal) → StopOut lines r ⊎ CountOut lines r → StopOut lines s ⊎ CountOut lines s → r ≡ s
one_out lines r s (inl a) (inl b) = one_stop lines r s a b
one_out lines r s (inl a) (inr b) = absurd (stop_or lines r b.0 a)
one_out lines r s (inr a) (inl b) = absurd (stop_or lines s a.0 b)
one_out lines r s (inr a) (inr b) = one_count lines r s a b

pub one_refusal : (lines : List LineItem) (r s : Refusal) → WhyNotDrawn lines (Refused r) → WhyNotDrawn lines (Refused s) → r ≡ s
one_refusal lines r s a b = one_out lines r s (out lines r a) (out lines s b)

drawn_or : (lines : List LineItem) (p : Pattern) (r : Refusal) → IsDrawn lines p → StopOut lines r ⊎ CountOut lines r → ⊥
drawn_or lines p r d (inl a) = stop_or lines r d.none a
drawn_or lines p r d (inr (none, inl a)) = not_many lines p.points d.drawing.are_vertices p.valid.few_points a.0
drawn_or lines p r d (inr (none, inr a)) =
    let points = same_points lines a.0.points p.points a.0.drawing.are_vertices d.drawing.are_vertices in
    let there = subst (λ (ps : List Pt). AreEdges lines ps a.0.edges a.0.marks) points a.0.drawing.are_edges in
    let edges = ap (λ (es : List EdgeEnds). length es) (same_edges lines p.points a.0.edges p.edges a.0.marks d.marks there d.drawing.are_edges) in
    let many = a.0.many in let few = p.valid.few_edges in omega (arith, edges, many, few)

pub not_both : (lines : List LineItem) (p : Pattern) (r : Refusal) → IsDrawn lines p → WhyNotDrawn lines (Refused r) → ⊥
not_both lines p r d h = drawn_or lines p r d (out lines r h)
