-- What a folded pattern says of its edges and bars.
use Rattle.std.proofs.Common.{ℕ, ◌≡◌, ◌≢◌, ◌⊎◌, inl, inr, ◌<◌, List, length, arith, refl, sym, ap, subst, ◌∙◌, pos, ◌<ℤ◌, ◌≤ℤ◌, Bool, true, false, IsTrue, Option, Some, None}
use lib.IntN.{neg_ℤ}
use Rattle.std.specs.Prelude.{int_lt, T}
use Rattle.std.specs.List.{Contains}
use Rattle.std.proofs.lemmas.Int.{by_lt_z}
use Rattle.std.proofs.lemmas.Bool.{lt-ltb, ltb-true, eqb-true}
use Rattle.ff_basics.proofs.Lists.{all_from}
use Rattle.ff_basics.proofs.Tests.{both_of, either_of}
use Rattle.ff_whole.proofs.Signs.{linear}
use Rattle.ff_whole.proofs.Turns.{height-back}
use Rattle.ff_whole.proofs.Searches.{search}
use Rattle.ff_whole.proofs.OnEdges.{IsOn}
use Rattle.ff_whole.proofs.ConvexBorders.{inside_or_on}
use Rattle.ff_whole.specs.Places.{through, height, IsPlace}
use Rattle.ff_whole.specs.Convex.{next, point_at}
use Rattle.ff_whole.specs.declared.points.Pt.{Pt}
use Rattle.ff_whole.specs.declared.lines.Line.{Line}
use Rattle.ff_whole.specs.declared.places.Place.{Place}
use Rattle.ff_types.specs.declared.patterns.Pattern.{Pattern}
use Rattle.ff_types.specs.declared.patterns.EdgeEnds.{EdgeEnds}
use Rattle.ff_types.specs.declared.patterns.Mark.{Mark}
use Rattle.ff_types.specs.declared.patterns.Mark.TheVariants.{B, M, V, F, U}
use Rattle.ff_types.specs.declared.faces.Faces.{Faces as FacesRow}
use Rattle.ff_types.specs.declared.faces.Folded.{Folded}
use Rattle.ff_types.specs.Patterns.{edge_at}
use Rattle.ff_types.specs.Drawings.{joins}
use Rattle.ff_types.specs.Rings.{corner, after, Goes}
use Rattle.ff_types.specs.Faces.{ring_at, mark_at, Belongs, FitsMark, FitMarks}
use Rattle.ff_types.specs.Foldings.{is_up, signed}
use Rattle.ff_types.specs.Sheets.{Sheet, sheet_of, tail, head, line_of}
use Rattle.ff_types.specs.Inside.{is_inside, steps, depth}
use Rattle.ff_types.specs.FoldedPatterns.{IsFoldedPattern}
use Rattle.ff_types.proofs.PlainSheets.{some_joins}
use Rattle.ff_types.proofs.FoldedEdges.{tail_below, head_below, ends_apart}
use Rattle.ff_types.proofs.FoldedOverlap.{inside_step, step_goes}
use Rattle.ff_cells.specs.declared.bars.Bar.{Bar}
use Rattle.ff_cells.specs.FaceSets.{is_off}
use Rattle.ff_cells.specs.Sheet.{AreFaceBars, IsInside}
use Rattle.ff_cells.specs.Steps.{way_of, IsBarOf, HasBar, AreBars}
use Rattle.ff_cells.proofs.BarEdges.{AreEnds, to_on}
use Rattle.ff_cells.proofs.Faces.{step_line, IsStep, IsTurned, face_turned, face_bars, ring_some}
use Rattle.ff_cells.proofs.FaceLists.{off_edge}

-- the line is that of the edge, in one direction or the other
abbrev pub IsLineOf : Sheet → ℕ → Line → Type 0
IsLineOf g e l = ((s : Place) → height l s ≡ height (line_of g e) s)
    ⊎ ((s : Place) → height l s ≡ neg_ℤ (height (line_of g e) s))

-- what the laws of cells use of a folded sheet and its bars
pub record IsDrawn (g : Sheet) (bars : List Bar) : Type 0 where
  pub faces : AreFaceBars (Contains bars) (IsStep g)
  pub rings_some : (f : ℕ) → f < length g.rings → 0 < length (ring_at g.rings f)
  -- each edge that isn't vertical has a bar, and each bar is of an edge
  pub edge_bar : (e : ℕ) → e < length g.edges → ((tail g e).x ≡ (head g e).x)
      ⊎ ((b : Bar) × Contains bars b × AreEnds g e b)
  pub bar_edge : (b : Bar) → Contains bars b → (e : ℕ) × (e < length g.edges) × AreEnds g e b
  pub apart : (e : ℕ) → e < length g.edges → tail g e ≢ head g e
  pub tails : (e : ℕ) → e < length g.edges → (edge_at g.edges e).a < length g.images
  pub heads : (e : ℕ) → e < length g.edges → (edge_at g.edges e).b < length g.images
  -- each line of a face is that of an edge
  pub step_edge : (f : ℕ) (l : Line) → IsStep g f l → (e : ℕ) × (e < length g.edges) × IsLineOf g e l
  -- a place on no edge's image is inside a face, or strictly outside of one of its lines
  pub outside : (f : ℕ) (s : Place) → f < length g.rings → IsPlace s → IsTrue (is_off g s)
      → IsTrue (is_inside g f s) ⊎ ((l : Line) × IsStep g f l × (height l s <ℤ pos 0))

-- ---- depths and heights

pub depth_height : (up : Bool) (p q : Pt) (s : Place) → signed up (height (through p q) s) ≡ height
    (through (way_of up p q).0 (way_of up p q).1) s
depth_height true p q s = refl
depth_height false p q s = sym (height-back p q s)

module _ (g : Sheet) where
  pub from_inside : (f : ℕ) (s : Place) → 0 < length (ring_at g.rings f) → IsTrue (is_inside g f s)
      → IsInside (IsStep g) f s
  from_inside f s some t = (
    (step_line g.images (ring_at g.rings f) (is_up g.up f) 0, (face, (0, some, refl))),
    λ l st. (let i = st.1.0 in
        subst (λ (k : Line). pos 0 <ℤ height k s) (sym st.1.2)
        (subst (λ z. pos 0 <ℤ z) (depth_height (is_up g.up f)
        (point_at g.images (corner (ring_at g.rings f) i))
        (point_at g.images (after (ring_at g.rings f) i)) s)
        (inside_step g f s (corner (ring_at g.rings f) i) (after (ring_at g.rings f) i) t
        (record { place = i; inside = st.1.1; from = refl; to = refl })))),
  )
    where
      face : f < length g.rings
      face = ltb-true f (length g.rings) (both_of _ _ t).0

  pub to_inside : (f : ℕ) (s : Place) → f < length g.rings → ((l : Line) → IsStep g f l → pos 0 <ℤ height l s)
      → IsTrue (is_inside g f s)
  to_inside f s lt h = rw (lt-ltb f (length g.rings) lt) (all_from (λ step. int_lt (pos 0) (depth g f s step))
      (steps (ring_at g.rings f)) each)
    where
      deep : (x y : ℕ) → Goes (ring_at g.rings f) x y → pos 0 <ℤ depth g f s (x, y)
      deep x y go =
          let i = go.place in
          let e = ap (λ z. signed (is_up g.up f) (height (through (point_at g.images z) (point_at g.images y))
          s)) (sym go.from) ∙ ap (λ z. signed (is_up g.up f)
          (height (through (point_at g.images (corner (ring_at g.rings f) i)) (point_at g.images z)) s))
          (sym go.to) in
          subst (λ z. pos 0 <ℤ z) (sym (e ∙ depth_height (is_up g.up f)
          (point_at g.images (corner (ring_at g.rings f) i))
          (point_at g.images (after (ring_at g.rings f) i)) s))
          (h (step_line g.images (ring_at g.rings f) (is_up g.up f) i) (lt, (i, go.inside, refl)))

      from_test : (b : Bool) → T b → IsTrue b
      from_test true t = refl
      from_test false t = absurd t

      each : (step : ℕ × ℕ) → Contains (steps (ring_at g.rings f)) step
          → IsTrue (int_lt (pos 0) (depth g f s step))
      each (x, y) c = from_test (int_lt (pos 0) (depth g f s (x, y)))
          (deep x y (step_goes (ring_at g.rings f) x y c)).lt

-- ---- edges and steps

by_mark : (rings : List (List ℕ)) (e : EdgeEnds) (m : Mark) → FitsMark rings e m → Belongs rings e.a e.b
    ⊎ Belongs rings e.b e.a
by_mark rings e B (inl h) = inl h.0
by_mark rings e B (inr h) = inr h.1
by_mark rings e M h = inl h.0
by_mark rings e V h = inl h.0
by_mark rings e F h = inl h.0
by_mark rings e U h = inl h.0

by_marks : (edges : List EdgeEnds) (rings : List (List ℕ)) (marks : Option (List Mark))
    → FitMarks edges rings marks → (e : ℕ) → e < length edges
    → Belongs rings (edge_at edges e).a (edge_at edges e).b ⊎ Belongs rings (edge_at edges e).b
    (edge_at edges e).a
by_marks edges rings (Some marks) h e l = by_mark rings (edge_at edges e) (mark_at marks e) (h e l)
by_marks edges rings None h e l = h e l

-- the bar of a step has the ends of the step
bar_ends : (up : Bool) (p q : Pt) (f : ℕ) (b : Bar) → IsBarOf (way_of up p q).0 (way_of up p q).1 f b
    → ((b.lo ≡ p) × (b.hi ≡ q)) ⊎ ((b.lo ≡ q) × (b.hi ≡ p))
bar_ends true p q f b s = elim s.ends [ inl (l, x, y) ↦ inl (x, y) | inr (l, x, y) ↦ inr (x, y) ]
bar_ends false p q f b s = elim s.ends [ inl (l, x, y) ↦ inr (x, y) | inr (l, x, y) ↦ inl (x, y) ]

flat_step : (up : Bool) (p q : Pt) → (way_of up p q).0.x ≡ (way_of up p q).1.x → p.x ≡ q.x
flat_step true p q e = e
flat_step false p q e = sym e

line_way : (up : Bool) (p q : Pt) → ((s : Place) → height (through (way_of up p q).0 (way_of up p q).1) s ≡
    height (through p q) s) ⊎ ((s : Place) → height (through (way_of up p q).0 (way_of up p q).1) s ≡ neg_ℤ
    (height (through p q) s))
line_way true p q = inl (λ s. refl)
line_way false p q = inr (λ s. height-back p q s)

turn_line : (p q : Pt) (l : Line) → ((s : Place) → height l s ≡ height (through q p) s)
    ⊎ ((s : Place) → height l s ≡ neg_ℤ (height (through q p) s))
    → ((s : Place) → height l s ≡ height (through p q) s) ⊎ ((s : Place)
    → height l s ≡ neg_ℤ (height (through p q) s))
turn_line p q l (inl h) = inr (λ s. h s ∙ height-back p q s)
turn_line p q l (inr h) = inl (λ s. (let a = h s in let b = height-back p q s in omega (arith, linear)))

module _ {pattern : Pattern} {faces : FacesRow} {folded : Folded} (h : IsFoldedPattern pattern faces folded)
  where
    abbrev sheet : Sheet
    sheet = sheet_of pattern faces folded

    abbrev image : ℕ → Pt
    image v = point_at folded.points v

    -- the edge of a step
    pub record HasEdge (f i : ℕ) : Type 0 where
      pub e : ℕ
      pub within : e < length pattern.edges
      pub ends : ((image (corner (ring_at faces.rings f) i) ≡ tail sheet e)
          × (image (after (ring_at faces.rings f) i) ≡ head sheet e))
          ⊎ ((image (corner (ring_at faces.rings f) i) ≡ head sheet e)
          × (image (after (ring_at faces.rings f) i) ≡ tail sheet e))

    has_edge : (f i : ℕ) → f < length faces.rings → i < length (ring_at faces.rings f) → HasEdge f i
    has_edge f i l m = by (some_joins pattern.edges u v ((h.faces_are.rings_are.each f l).joins i m))
      where
        u : ℕ
        u = corner (ring_at faces.rings f) i

        v : ℕ
        v = after (ring_at faces.rings f) i

        by : (e : ℕ) × (e < length pattern.edges) × IsTrue (joins u v (edge_at pattern.edges e)) → HasEdge f i
        by (e, lt, t) = elim (either_of _ _ t) [
          | inl s ↦ (let p = both_of _ _ s in record {
            e = e;
            within = lt;
            ends = inl (ap image (sym (eqb-true _ _ p.0)), ap image (sym (eqb-true _ _ p.1)));
          })
          | inr s ↦ (let p = both_of _ _ s in record {
            e = e;
            within = lt;
            ends = inr (ap image (sym (eqb-true _ _ p.1)), ap image (sym (eqb-true _ _ p.0)));
          })
        ]

    edge_of_step : (f : ℕ) (l : Line) → IsStep sheet f l → (e : ℕ) × (e < length pattern.edges)
        × IsLineOf sheet e l
    edge_of_step f l (lt, (i, m, is)) = (k.e, k.within, subst (IsLineOf sheet k.e) (sym is) (by k.ends))
      where
        k : HasEdge f i
        k = has_edge f i lt m

        up : Bool
        up = is_up folded.up f

        p : Pt
        p = image (corner (ring_at faces.rings f) i)

        q : Pt
        q = image (after (ring_at faces.rings f) i)

        by : ((p ≡ tail sheet k.e) × (q ≡ head sheet k.e)) ⊎ ((p ≡ head sheet k.e) × (q ≡ tail sheet k.e))
            → IsLineOf sheet k.e (step_line folded.points (ring_at faces.rings f) up i)
        by (inl (x, y)) = subst (λ z. ((s : Place) → height (through (way_of up p q).0 (way_of up p q).1) s ≡
            height (through z (head sheet k.e)) s) ⊎ ((s : Place)
            → height (through (way_of up p q).0 (way_of up p q).1) s ≡ neg_ℤ
            (height (through z (head sheet k.e)) s))) x
            (subst (λ z. ((s : Place) → height (through (way_of up p q).0 (way_of up p q).1) s ≡ height
            (through p z) s) ⊎ ((s : Place) → height (through (way_of up p q).0 (way_of up p q).1) s ≡ neg_ℤ
            (height (through p z) s))) y (line_way up p q))
        by (inr (x, y)) = turn_line (tail sheet k.e) (head sheet k.e)
            (through (way_of up p q).0 (way_of up p q).1)
            (subst (λ z. ((s : Place) → height (through (way_of up p q).0 (way_of up p q).1) s ≡ height
            (through z (tail sheet k.e)) s) ⊎ ((s : Place)
            → height (through (way_of up p q).0 (way_of up p q).1) s ≡ neg_ℤ
            (height (through z (tail sheet k.e)) s))) x
            (subst (λ z. ((s : Place) → height (through (way_of up p q).0 (way_of up p q).1) s ≡ height
            (through p z) s) ⊎ ((s : Place) → height (through (way_of up p q).0 (way_of up p q).1) s ≡ neg_ℤ
            (height (through p z) s))) y (line_way up p q)))

    outside_of : (f : ℕ) (s : Place) → f < length faces.rings → IsPlace s → IsTrue (is_off sheet s)
        → IsTrue (is_inside sheet f s) ⊎ ((l : Line) × IsStep sheet f l × (height l s <ℤ pos 0))
    outside_of f s lt w off = by (search (length ring) (λ i. height (line i) s <ℤ pos 0)
        (λ i. pos 0 ≤ℤ height (line i) s) (λ i m. by_lt_z (height (line i) s) (pos 0) inl inr))
      where
        ring : List ℕ
        ring = ring_at faces.rings f

        up : Bool
        up = is_up folded.up f

        t : IsTurned folded.points ring up
        t = face_turned h f lt

        line : ℕ → Line
        line i = through (t.v i) (t.v (next (length ring) i))

        steps_are : (i : ℕ) → i < length ring → IsStep sheet f (line i)
        steps_are i m = (let k = t.to i m in (
          lt,
          (
            k.0,
            k.1,
            sym (ap (λ (w : Pt × Pt). through w.0 w.1) k.2),
          ),
        ))

        held : (i : ℕ) → i < length ring → IsOn (t.v i) (t.v (next (length ring) i)) s → ⊥
        held i m o =
            let k = t.to i m in
            let e = has_edge f k.0 lt k.1 in
            off_edge sheet s off e.e e.within (to_on sheet e.e s
            (turned up e.ends (subst (λ (w : Pt × Pt). IsOn w.0 w.1 s) (sym k.2) o)))
          where
            back : (p q : Pt) → IsOn p q s → IsOn q p s
            back p q o = let e = height-back p q s in let a = o.on in
                record { on = omega (arith, linear); after = o.before; before = o.after }

            turned : {p q a b : Pt} (up : Bool) → ((p ≡ a) × (q ≡ b)) ⊎ ((p ≡ b) × (q ≡ a))
                → IsOn (way_of up p q).0 (way_of up p q).1 s → IsOn a b s
            turned {p} {q} {a} {b} true (inl (x, y)) o = subst (λ z. IsOn z b s) x
                (subst (λ z. IsOn p z s) y o)
            turned {p} {q} {a} {b} true (inr (x, y)) o = back b a
                (subst (λ z. IsOn z a s) x (subst (λ z. IsOn p z s) y o))
            turned {p} {q} {a} {b} false (inl (x, y)) o = back b a
                (subst (λ z. IsOn z a s) y (subst (λ z. IsOn q z s) x o))
            turned {p} {q} {a} {b} false (inr (x, y)) o = subst (λ z. IsOn z b s) y
                (subst (λ z. IsOn q z s) x o)

        by : ((i : ℕ) × (i < length ring) × (height (line i) s <ℤ pos 0))
            ⊎ ((i : ℕ) → i < length ring → pos 0 ≤ℤ height (line i) s) → IsTrue (is_inside sheet f s)
            ⊎ ((l : Line) × IsStep sheet f l × (height l s <ℤ pos 0))
        by (inl (i, m, low)) = inr (line i, steps_are i m, low)
        by (inr all) = elim (inside_or_on (length ring) t.v t.convex s w all) [
          | inl (i, m, o) ↦ absurd (held i m o)
          | inr each ↦ inl (to_inside sheet f s lt (λ l st. (let k = t.from st.1.0 st.1.1 in
              subst (λ (l' : Line). pos 0 <ℤ height l' s) (sym
              (st.1.2 ∙ ap (λ (w : Pt × Pt). through w.0 w.1) k.2)) (each k.0 k.1))))
        ]

    module _ (bars : List Bar) (are : AreBars folded.points faces.rings folded.up bars) where
      bar_of_step : (f i a b : ℕ) → image (corner (ring_at faces.rings f) i) ≡ image a
          → image (after (ring_at faces.rings f) i) ≡ image b → HasBar folded.points (ring_at faces.rings f)
          (is_up folded.up f) f i bars
          → ((image a).x ≡ (image b).x) ⊎ ((c : Bar) × Contains bars c
          × (((c.lo ≡ image a) × (c.hi ≡ image b)) ⊎ ((c.lo ≡ image b) × (c.hi ≡ image a))))
      bar_of_step f i a b x y (inl flat) = inl (sym (ap (λ (p : Pt). p.x) x)
          ∙ (flat_step (is_up folded.up f) _ _ flat ∙ ap (λ (p : Pt). p.x) y))
      bar_of_step f i a b x y (inr (c, has, s)) = inr (
        c,
        has,
        elim (bar_ends (is_up folded.up f) _ _ f c s) [
          | inl (l, k) ↦ inl (l ∙ x, k ∙ y)
          | inr (l, k) ↦ inr
              (l ∙ y, k ∙ x)
        ],
      )

      bar_of_edge : (e : ℕ) → e < length pattern.edges → ((tail sheet e).x ≡ (head sheet e).x)
          ⊎ ((b : Bar) × Contains bars b × AreEnds sheet e b)
      bar_of_edge e lt = by (by_marks pattern.edges faces.rings pattern.marks h.faces_are.rings_are.fit e lt)
        where
          by : Belongs faces.rings (edge_at pattern.edges e).a (edge_at pattern.edges e).b
              ⊎ Belongs faces.rings (edge_at pattern.edges e).b (edge_at pattern.edges e).a
              → ((tail sheet e).x ≡ (head sheet e).x) ⊎ ((b : Bar) × Contains bars b × AreEnds sheet e b)
          by (inl (f, m, go)) = bar_of_step f go.place (edge_at pattern.edges e).a (edge_at pattern.edges e).b
              (ap image go.from) (ap image go.to) (are.all f go.place m go.inside)
          by (inr (f, m, go)) = elim (bar_of_step f go.place (edge_at pattern.edges e).b
              (edge_at pattern.edges e).a (ap image go.from) (ap image go.to)
              (are.all f go.place m go.inside)) [
                | inl x ↦ inl (sym x)
                | inr (c, has, inl t) ↦ inr (c, has, inr t)
                | inr (c, has, inr t) ↦ inr (c, has, inl t)
              ]

      edge_of_bar : (b : Bar) → Contains bars b → (e : ℕ) × (e < length pattern.edges) × AreEnds sheet e b
      edge_of_bar b has =
          let s = are.each b has in
          let k = has_edge b.face s.0 s.1 s.2 in
          (k.e, k.within, by k.e (bar_ends (is_up folded.up b.face) _ _ b.face b s.3) k.ends)
        where
          by : {p q : Pt} (e : ℕ) → ((b.lo ≡ p) × (b.hi ≡ q)) ⊎ ((b.lo ≡ q) × (b.hi ≡ p))
              → ((p ≡ tail sheet e) × (q ≡ head sheet e)) ⊎ ((p ≡ head sheet e) × (q ≡ tail sheet e))
              → AreEnds sheet e b
          by e (inl (l, k)) (inl (x, y)) = inl (l ∙ x, k ∙ y)
          by e (inl (l, k)) (inr (x, y)) = inr (l ∙ x, k ∙ y)
          by e (inr (l, k)) (inl (x, y)) = inr (l ∙ y, k ∙ x)
          by e (inr (l, k)) (inr (x, y)) = inl (l ∙ y, k ∙ x)

      pub drawn : IsDrawn sheet bars
      drawn = record {
        faces = face_bars h bars are;
        rings_some = ring_some h;
        edge_bar = bar_of_edge;
        bar_edge = edge_of_bar;
        apart = ends_apart h;
        tails = tail_below h;
        heads = head_below h;
        step_edge = edge_of_step;
        outside = outside_of;
      }
