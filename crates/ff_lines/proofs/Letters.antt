-- In a drawing of lines each place of a line is on an edge with its letter, and each place of an edge on a line with its letter.
use Rattle.std.proofs.Common.{◌≡◌, ◌≢◌, ◌⊎◌, inl, inr, ◌↔◌, ℕ, suc, ◌<◌, arith, refl, sym, ap, ◌∙◌, subst, ℤ, pos, ◌-ℤ◌, ◌<ℤ◌, ◌≤ℤ◌, List, [], ◌∷◌, length, slice_get, Some, Contains}
use Rattle.std.proofs.lemmas.Option.{slice_get_within, slice_get-get_or, get_or_from_slice_get}
use Rattle.ff_whole.proofs.Signs.{linear, by_sign, zero-mul, pos-mul}
use Rattle.ff_whole.proofs.Ring.{num, ◌⊖◌, solve}
use Rattle.ff_whole.proofs.Formulas.{point_e, point_env, place_of_e, minus_e, dot_e, through_e, height_e, past_e}
use Rattle.ff_whole.proofs.ThreeTerms.{dot-step}
use Rattle.ff_whole.proofs.Offsets.{off, cross-off, dot-off}
use Rattle.ff_whole.proofs.OnEdges.{dot_nonneg}
use Rattle.ff_whole.specs.Points.{minus, dot, cross}
use Rattle.ff_whole.specs.Convex.{point_at}
use Rattle.ff_whole.specs.Places.{through, height, past, place_of, IsPlace}
use Rattle.ff_whole.specs.declared.points.Pt.{Pt}
use Rattle.ff_whole.specs.declared.places.Place.{Place}
use Rattle.ff_types.specs.declared.patterns.EdgeEnds.{EdgeEnds}
use Rattle.ff_types.specs.declared.patterns.Mark.{Mark}
use Rattle.ff_types.specs.declared.patterns.Mark.TheVariants.{B}
use Rattle.ff_types.specs.Patterns.{edge_at}
use Rattle.ff_types.specs.Faces.{mark_at}
use Rattle.ff_basics.proofs.Memberships.{by_member, no_member}
use Rattle.ff_lines.specs.declared.items.LineItem.{LineItem}
use Rattle.ff_lines.specs.Lines.{LiesOn, IsOnLine}
use Rattle.ff_lines.specs.Drawings.{IsVertexOf, IsPiece, IsDrawingOf}
use Rattle.ff_lines.specs.Laws.{HaveEnds, DrawingsKeepLetters}
use Rattle.ff_lines.proofs.Cuts.{IsAlong, IsPast, lies_from, lies_to}
use Rattle.ff_lines.proofs.Sharing.{lies_swap, whole_place, dot-whole, dot-turn, one_point, way, self_past, across_it, across_both, has, on_its_line}

-- ---- the greatest of a list of points, along a direction, that passes a test

record HasGreatest (M Q : Pt → Type 0) (u : Pt) (list : List Pt) : Type 0 where
  point : Pt
  is : M point
  passes : Q point
  most : (v : Pt) → Contains list v → Q v → dot u (minus v point) ≤ℤ pos 0

greatest : (M Q : Pt → Type 0) (u : Pt) → ((v : Pt) → Q v ⊎ (Q v → ⊥)) → (list : List Pt) → ((v : Pt) → Contains list v → M v)
    → (start : Pt) → M start → Q start → HasGreatest M Q u list
greatest M Q u known [] all start m q = record { point = start; is = m; passes = q; most = λ v h. absurd (no_member v h) }
greatest M Q u known (x ∷ rest) all start m q = by (greatest M Q u known rest (λ v h. all v (later v h)) start m q) where
  later : (v : Pt) → Contains rest v → Contains (x ∷ rest) v
  later v (k, l, e) = (suc k, omega (arith, l), e)

  here : Contains (x ∷ rest) x
  here = (0, omega arith, refl)

  by : HasGreatest M Q u rest → HasGreatest M Q u (x ∷ rest)
  by r = by_sign (dot u (minus x r.point)) (λ l. keep (omega (arith, linear))) (λ z. keep (omega (arith, linear))) (λ l. elim (known x) [
    | inl h ↦ record {
      point = x;
      is = all x here;
      passes = h;
      most = λ v c p. by_member x rest v
          (λ e. let z : dot u (minus v x) ≡ pos 0 = ap (λ k. dot u (minus k x)) (sym e) ∙ (let t = dot-turn u x x in omega (arith, linear)) in omega (arith, linear))
          (λ c2. let a = r.most v c2 p in let s = dot-step u r.point v x in let t = dot-turn u r.point x in omega (arith, linear)) c;
    }
    | inr n ↦ record {
      point = r.point;
      is = r.is;
      passes = r.passes;
      most = λ v c p. by_member x rest v (λ e. absurd (n (subst Q (sym e) p))) (λ c2. r.most v c2 p) c;
    }
  ]) where
    keep : dot u (minus x r.point) ≤ℤ pos 0 → HasGreatest M Q u (x ∷ rest)
    keep l = record {
      point = r.point;
      is = r.is;
      passes = r.passes;
      most = λ v c p. by_member x rest v (λ e. subst (λ k. dot u (minus k r.point) ≤ℤ pos 0) e l) (λ c2. r.most v c2 p) c;
    }

-- ---- tests that are known

both_or : {A B : Type 0} → A ⊎ (A → ⊥) → B ⊎ (B → ⊥) → (A × B) ⊎ (A × B → ⊥)
both_or (inl a) (inl b) = inl (a, b)
both_or (inl a) (inr n) = inr (λ h. n h.1)
both_or (inr n) d = inr (λ h. n h.0)

pub zero_known : (a : ℤ) → (a ≡ pos 0) ⊎ ((a ≡ pos 0) → ⊥)
zero_known a = by_sign a (λ l. inr (λ e. omega (arith, linear))) (λ z. inl z) (λ l. inr (λ e. omega (arith, linear)))

nonneg_known : (a : ℤ) → (pos 0 ≤ℤ a) ⊎ ((pos 0 ≤ℤ a) → ⊥)
nonneg_known a = by_sign a (λ l. inr (λ e. omega (arith, linear))) (λ z. inl (omega (arith, linear))) (λ l. inl (omega (arith, linear)))

positive_known : (a : ℤ) → (pos 0 <ℤ a) ⊎ ((pos 0 <ℤ a) → ⊥)
positive_known a = by_sign a (λ l. inr (λ e. omega (arith, linear))) (λ z. inr (λ e. omega (arith, linear))) (λ l. inl l)

on_known : (l : LineItem) (s : Place) → IsOnLine l s ⊎ (IsOnLine l s → ⊥)
on_known l s = elim (both_or (zero_known (height (through l.p l.q) s)) (both_or (nonneg_known (past l.p l.q s)) (nonneg_known (past l.q l.p s)))) [
  | inl h ↦ inl (record { on = h.0; after = h.1.0; before = h.1.1 })
  | inr n ↦ inr (λ h. n (h.on, (h.after, h.before)))
]

-- the ends of a way are on it
pub first_on : (p q : Pt) → LiesOn p q (place_of p)
first_on p q =
    let p' = point_e 0 in let q' = point_e 2 in let d = dot_nonneg (minus q p) in
    let h : height (through p q) (place_of p) ≡ pos 0 = solve (point_env p (point_env q [])) (height_e (through_e p' q') (place_of_e p')) (num (pos 0)) refl in
    let a : past p q (place_of p) ≡ pos 0 = solve (point_env p (point_env q [])) (past_e p' q' (place_of_e p')) (num (pos 0)) refl in
    let b : past q p (place_of p) ≡ dot (minus q p) (minus q p) = solve (point_env p (point_env q [])) (past_e q' p' (place_of_e p')) (dot_e (minus_e q' p') (minus_e q' p')) refl in
    record { on = h; after = omega (arith, linear); before = omega (arith, linear) }

pub last_on : (p q : Pt) → LiesOn p q (place_of q)
last_on p q = lies_swap q p (place_of q) (first_on q p)

-- ---- the piece of a line at a place

module _ (lines : List LineItem) (points : List Pt) (vertices : (v : Pt) → Contains points v ↔ IsVertexOf lines v) (number : ℕ) (l : LineItem)
    (there : slice_get lines number ≡ Some l) (d : l.p ≢ l.q) (s : Place) (w : IsPlace s) (on : IsOnLine l s) where
  abbrev u : Pt
  u = way l

  abbrev back : Pt
  back = minus l.p l.q

  long : pos 0 <ℤ dot u u
  long = (self_past l d).ahead

  own : IsAlong u l.p l.q s
  own = lies_to u l.p l.q (self_past l d) s on

  pub record HasPiece : Type 0 where
    pub first : Pt
    pub last : Pt
    pub piece : IsPiece lines l.mark first last
    pub holds : LiesOn first last s

  all : (v : Pt) → Contains points v → IsVertexOf lines v
  all v c = (vertices v).0 c

  first_vertex : IsVertexOf lines l.p
  first_vertex = inl (number, l, there, inl refl)

  last_vertex : IsVertexOf lines l.q
  last_vertex = inl (number, l, there, inr refl)

  -- along the line and back
  turned : (v x : Pt) → dot back (minus v x) ≡ pos 0 -ℤ dot u (minus v x)
  turned v x = let p' = point_e 0 in let q' = point_e 2 in let v' = point_e 4 in let x' = point_e 6 in
      solve (point_env l.p (point_env l.q (point_env v (point_env x [])))) (dot_e (minus_e p' q') (minus_e v' x')) (num (pos 0) ⊖ dot_e (minus_e q' p') (minus_e v' x')) refl

  across : (v : Pt) → IsOnLine l (place_of v) → cross u (off s v) ≡ pos 0
  across v h = let e = cross-off u l.p v s in let c = zero-mul (cross u (minus v l.p)) s.w (across_it l d v h) in let o = own.on in omega (arith, linear)

  same : (v x : Pt) → IsOnLine l (place_of v) → IsOnLine l (place_of x) → dot u (minus v x) ≡ pos 0 → v ≡ x
  same v x f g z = sym (one_point u x v long (across_both l d x v g f) z)

  -- from two points of the line, one past the other, with no vertex strictly between
  make : (a b : Pt) → IsVertexOf lines a → IsVertexOf lines b → IsOnLine l (place_of a) → IsOnLine l (place_of b) → pos 0 <ℤ dot u (minus b a)
      → ((v : Pt) → Contains points v → IsOnLine l (place_of v) → pos 0 <ℤ dot u (minus v a) → dot u (minus v b) <ℤ pos 0 → ⊥)
      → pos 0 ≤ℤ dot u (off s a) → dot u (off s b) ≤ℤ pos 0 → HasPiece
  make a b va vb fa fb past_it empty after before = record {
    first = a;
    last = b;
    piece = record {
      a_vertex = va;
      b_vertex = vb;
      differ = λ e. (let z : dot u (minus b a) ≡ pos 0 = ap (λ k. dot u (minus b k)) e ∙ (let t = dot-turn u b b in omega (arith, linear)) in omega (arith, linear));
      number = number;
      line = l;
      there = there;
      letter = refl;
      a_on = fa;
      b_on = fb;
      none = none;
    };
    holds = lies_from u a b ways s (record { on = across a fa; after = after; before = before });
  } where
    ways : IsPast u a b
    ways = record { on = across_both l d a b fa fb; ahead = past_it }

    none : (v : Pt) → IsVertexOf lines v → LiesOn a b (place_of v) → (v ≡ a) ⊎ (v ≡ b)
    none v h lies =
        let f : IsOnLine l (place_of v) = has l d a b fa fb ways (place_of v) (whole_place v) lies in
        let k = lies_to u a b ways (place_of v) lies in
        let x = dot-whole u v a in let y = dot-whole u v b in let kx = k.after in let ky = k.before in
        by_sign (dot u (minus v a))
        (λ n. absurd (omega (arith, linear)))
        (λ z. inl (same v a f fa z))
        (λ n. by_sign (dot u (minus v b))
        (λ m. absurd (empty v ((vertices v).1 h) f n m))
        (λ z. inr (same v b f fb z))
        (λ m. absurd (omega (arith, linear))))

  pub found : HasPiece
  found = begun (greatest (IsVertexOf lines) (λ v. IsOnLine l (place_of v) × (pos 0 ≤ℤ dot u (off s v))) u
      (λ v. both_or (on_known l (place_of v)) (nonneg_known (dot u (off s v)))) points all l.p first_vertex (first_on l.p l.q, own.after)) where
        begun : HasGreatest (IsVertexOf lines) (λ v. IsOnLine l (place_of v) × (pos 0 ≤ℤ dot u (off s v))) u points → HasPiece
        begun a = by_sign (dot u (minus l.q a.point))
            (λ n. absurd (let k = lies_to u l.p l.q (self_past l d) (place_of a.point) a.passes.0 in let x = dot-whole u a.point l.q in let y = k.before in
            let t = dot-turn u l.q a.point in omega (arith, linear)))
            (λ z. at_end (same l.q a.point (last_on l.p l.q) a.passes.0 z))
            (λ n. inner (greatest (IsVertexOf lines) (λ v. IsOnLine l (place_of v) × (pos 0 <ℤ dot u (minus v a.point))) back
            (λ v. both_or (on_known l (place_of v)) (positive_known (dot u (minus v a.point)))) points all l.q last_vertex (last_on l.p l.q, n))) where
              -- the next one
              inner : HasGreatest (IsVertexOf lines) (λ v. IsOnLine l (place_of v) × (pos 0 <ℤ dot u (minus v a.point))) back points → HasPiece
              inner b = make a.point b.point a.is b.is a.passes.0 b.passes.0 b.passes.1
                  (λ v c f n m. let k = b.most v c (f, n) in let t = turned v b.point in omega (arith, linear))
                  a.passes.1
                  (by_sign (dot u (off s b.point)) (λ m. omega (arith, linear)) (λ m. omega (arith, linear))
                  (λ m. absurd (let k = a.most b.point ((vertices b.point).1 b.is) (b.passes.0, omega (arith, linear)) in let q = b.passes.1 in omega (arith, linear))))

              -- the place is the line's last end: the last vertex before it
              at_end : l.q ≡ a.point → HasPiece
              at_end e = last (greatest (IsVertexOf lines) (λ v. IsOnLine l (place_of v) × (pos 0 <ℤ dot u (minus l.q v))) u
                  (λ v. both_or (on_known l (place_of v)) (positive_known (dot u (minus l.q v)))) points all l.p first_vertex (first_on l.p l.q, long)) where
                    last : HasGreatest (IsVertexOf lines) (λ v. IsOnLine l (place_of v) × (pos 0 <ℤ dot u (minus l.q v))) u points → HasPiece
                    last c = make c.point l.q c.is last_vertex c.passes.0 (last_on l.p l.q) c.passes.1
                        (λ v i f n m. let k = c.most v i (f, (let t = dot-turn u l.q v in omega (arith, linear))) in omega (arith, linear))
                        (let z = subst (λ k. pos 0 ≤ℤ dot u (off s k)) (sym e) a.passes.1 in let t = dot-off u c.point l.q s in
                        let m = pos-mul (dot u (minus l.q c.point)) s.w c.passes.1 w in omega (arith, linear))
                        own.before

-- ---- pieces and edges

pub swap_piece : (lines : List LineItem) (m : Mark) (a b : Pt) → IsPiece lines m a b → IsPiece lines m b a
swap_piece lines m a b h = record {
  a_vertex = h.b_vertex;
  b_vertex = h.a_vertex;
  differ = λ e. h.differ (sym e);
  number = h.number;
  line = h.line;
  there = h.there;
  letter = h.letter;
  a_on = h.b_on;
  b_on = h.a_on;
  none = λ v k on. other v (h.none v k (lies_swap b a (place_of v) on));
} where
  other : (v : Pt) → (v ≡ a) ⊎ (v ≡ b) → (v ≡ b) ⊎ (v ≡ a)
  other v (inl e) = inr e
  other v (inr e) = inl e

pub record HasIndex (points : List Pt) (a : Pt) : Type 0 where
  pub index : ℕ
  pub inside : index < length points
  pub is : point_at points index ≡ a

pub index_of : (points : List Pt) (a : Pt) → Contains points a → HasIndex points a
index_of points a (k, l, e) = record {
  index = k;
  inside = l;
  is = get_or_from_slice_get points k a (record { x = pos 0; y = pos 0 }) (slice_get-get_or points k a l ∙ ap Some e);
}

pub three : (i j : ℕ) → (i ≡ j) ⊎ ((i < j) ⊎ (j < i))
three i j = grind arith

module _ (lines : List LineItem) (points : List Pt) (edges : List EdgeEnds) (marks : List Mark) (ends : HaveEnds lines)
    (is : IsDrawingOf lines points edges marks) (mark : Mark) (s : Place) (w : IsPlace s) where
  abbrev OnEdge : Type 0
  OnEdge = (e : ℕ) × (e < length edges) × (mark_at marks e ≡ mark) × LiesOn (point_at points (edge_at edges e).a) (point_at points (edge_at edges e).b) s

  abbrev OnLine : Type 0
  OnLine = (i : ℕ) × (l : LineItem) × (slice_get lines i ≡ Some l) × (l.mark ≡ mark) × IsOnLine l s

  to_line : OnEdge → OnLine
  to_line (e, l, m, on) = by (is.are_edges.pieces (edge_at edges e).a (edge_at edges e).b mark).1 where
    edge_there : slice_get edges e ≡ Some (edge_at edges e)
    edge_there = slice_get-get_or edges e (record { a = 0; b = 0 }) l

    mark_there : slice_get marks e ≡ Some mark
    mark_there = slice_get-get_or marks e B (subst (λ n. e < n) (sym is.are_edges.as_many) l) ∙ ap Some m

    by : ((k : ℕ) × (slice_get edges k ≡ Some (record { a = (edge_at edges e).a; b = (edge_at edges e).b })) × (slice_get marks k ≡ Some mark)
        → ((edge_at edges e).a < (edge_at edges e).b) × ((edge_at edges e).b < length points)
        × IsPiece lines mark (point_at points (edge_at edges e).a) (point_at points (edge_at edges e).b)) → OnLine
    by f =
        let p = (f (e, edge_there, mark_there)).2 in
        (p.number, p.line, p.there, p.letter, on_its_line lines ends mark (point_at points (edge_at edges e).a) (point_at points (edge_at edges e).b) p s w on)

  -- the edge of a piece, the lesser index first
  edge_of : (i j : ℕ) → i < j → j < length points → IsPiece lines mark (point_at points i) (point_at points j)
      → LiesOn (point_at points i) (point_at points j) s → OnEdge
  edge_of i j less inside piece on =
      let r = (is.are_edges.pieces i j mark).0 (less, inside, piece) in
      let e : edge_at edges r.0 ≡ record { a = i; b = j } = get_or_from_slice_get edges r.0 (record { a = i; b = j }) (record { a = 0; b = 0 }) r.1 in (
        r.0,
        slice_get_within edges r.0 (record { a = i; b = j }) r.1,
        get_or_from_slice_get marks r.0 mark B r.2,
        subst (λ (k : EdgeEnds). LiesOn (point_at points k.a) (point_at points k.b) s) (sym e) on,
      )

  of_piece : (a b : Pt) → IsPiece lines mark a b → LiesOn a b s → OnEdge
  of_piece a b piece on = by (index_of points a ((is.are_vertices.vertices a).1 piece.a_vertex)) (index_of points b ((is.are_vertices.vertices b).1 piece.b_vertex)) where
    by : HasIndex points a → HasIndex points b → OnEdge
    by x y = elim (three x.index y.index) [
      | inl e ↦ absurd (piece.differ (sym x.is ∙ ap (point_at points) e ∙ y.is))
      | inr h ↦ elim h [
        | inl less ↦ edge_of x.index y.index less y.inside
            (subst (λ k. IsPiece lines mark k (point_at points y.index)) (sym x.is) (subst (λ k. IsPiece lines mark a k) (sym y.is) piece))
            (subst (λ k. LiesOn k (point_at points y.index) s) (sym x.is) (subst (λ k. LiesOn a k s) (sym y.is) on))
        | inr more ↦ edge_of y.index x.index more x.inside
            (subst (λ k. IsPiece lines mark k (point_at points x.index)) (sym y.is) (subst (λ k. IsPiece lines mark b k) (sym x.is) (swap_piece lines mark a b piece)))
            (subst (λ k. LiesOn k (point_at points x.index) s) (sym y.is) (subst (λ k. LiesOn b k s) (sym x.is) (lies_swap a b s on)))
      ]
    ]

  to_edge : OnLine → OnEdge
  to_edge (i, l, there, m, on) =
      let p = found lines points is.are_vertices.vertices i l there (ends i l there) s w on in
      of_piece p.first p.last (subst (λ k. IsPiece lines k p.first p.last) m p.piece) p.holds

  pub same_letters : OnEdge ↔ OnLine
  same_letters = (to_line, to_edge)

pub letters : DrawingsKeepLetters
letters lines points edges marks ends is mark s w = same_letters lines points edges marks ends is mark s w
