-- The rings of a folded sheet as rings with the face on the left.
use Rattle.std.proofs.Common.{ℕ, ◌≡◌, ◌⊎◌, ◌<◌, List, length, arith, refl, sym, ap, subst, ◌∙◌, ℤ, pos, ◌*ℤ◌, ◌<ℤ◌, ◌≤ℤ◌, Bool, true, false}
use Rattle.std.specs.List.{Contains}
use Rattle.std.proofs.lemmas.Int.{ints}
use Rattle.std.proofs.lemmas.List.{length-map}
use Rattle.ff_whole.proofs.Signs.{linear, pos-mul, nonneg-mul}
use Rattle.ff_whole.proofs.ClosedLists.{next-below}
use Rattle.ff_whole.proofs.ConvexBorders.{IsConvexRing}
use Rattle.ff_whole.proofs.Reversals.{back, back-below, back-back, backward, next-back, convex_from_clockwise}
use Rattle.ff_whole.specs.Points.{turn}
use Rattle.ff_whole.specs.Places.{through}
use Rattle.ff_whole.specs.Convex.{next, point_at, IsConvex}
use Rattle.ff_whole.specs.declared.points.Pt.{Pt}
use Rattle.ff_whole.specs.declared.lines.Line.{Line}
use Rattle.ff_types.specs.declared.patterns.Pattern.{Pattern}
use Rattle.ff_types.specs.declared.faces.Faces.{Faces as FacesRow}
use Rattle.ff_types.specs.declared.faces.Folded.{Folded}
use Rattle.ff_types.specs.Rings.{corner, corners}
use Rattle.ff_types.specs.Faces.{ring_at}
use Rattle.ff_types.specs.Foldings.{is_up, signed, RingKeepsShape}
use Rattle.ff_types.specs.Sheets.{Sheet, sheet_of}
use Rattle.ff_types.specs.FoldedPatterns.{IsFoldedPattern}
use Rattle.ff_types.proofs.SubRings.{corner_point}
use Rattle.ff_cells.specs.declared.bars.Bar.{Bar}
use Rattle.ff_cells.specs.Steps.{step_at, IsBarOf, AreBars}
use Rattle.ff_cells.specs.Sheet.{AreFaceBars}
use Rattle.ff_cells.proofs.FaceRings.{IsRound, bars_of_rings}

-- the i-th step of the face's ring as a line with the face on its left
abbrev pub step_line : List Pt → List ℕ → Bool → ℕ → Line
step_line images ring up i = through (step_at images ring up i).0 (step_at images ring up i).1

-- the line is that of a step of the face
abbrev pub IsStep : Sheet → ℕ → Line → Type 0
IsStep g f l = (f < length g.rings) × ((i : ℕ) × (i < length (ring_at g.rings f))
    × (l ≡ step_line g.images (ring_at g.rings f) (is_up g.up f) i))

-- a convex ring whose edges are those of the face, with the face on the left
pub record IsTurned (images : List Pt) (ring : List ℕ) (up : Bool) : Type 0 where
  pub v : ℕ → Pt
  pub convex : IsConvexRing (length ring) v
  pub to : (i : ℕ) → i < length ring → (k : ℕ) × (k < length ring)
      × (step_at images ring up k ≡ (v i, v (next (length ring) i)))
  pub from : (k : ℕ) → k < length ring → (i : ℕ) × (i < length ring)
      × (step_at images ring up k ≡ (v i, v (next (length ring) i)))

same_turn : (p q r u v w : Pt) → p ≡ u → q ≡ v → r ≡ w → turn p q r ≡ turn u v w
same_turn p q r u v w e f g = ap (λ x. turn x q r) e ∙ (ap (λ y. turn u y r) f ∙ ap (λ z. turn u v z) g)

module _ (points images : List Pt) (ring : List ℕ) (scale : ℤ) (positive : pos 1 ≤ℤ scale)
    (convex : IsConvex (corners points ring)) where
  abbrev n : ℕ
  n = length ring

  abbrev at : ℕ → Pt
  at i = point_at images (corner ring i)

  sized : (ps : List Pt) → length (corners ps ring) ≡ length ring
  sized ps = length-map ring (point_at ps)

  within : (i : ℕ) → i < n → i < length (corners points ring)
  within i h = subst (λ m. i < m) (sym (sized points)) h

  -- the turn on the sheet as it was drawn
  abbrev drawn : ℕ → ℕ → ℤ
  drawn i j = turn (point_at (corners points ring) i) (point_at (corners points ring) (next n i))
      (point_at (corners points ring) j)

  drawn_left : (i j : ℕ) → i < n → j < n → pos 0 ≤ℤ drawn i j
  drawn_left i j h l = subst (λ m. pos 0 ≤ℤ turn (point_at (corners points ring) i)
      (point_at (corners points ring) (next m i)) (point_at (corners points ring) j)) (sized points)
      (convex.left i j (within i h) (within j l))

  drawn_wide : (i : ℕ) → i < n → (j : ℕ) × (j < n) × (pos 0 <ℤ drawn i j)
  drawn_wide i h =
      let o = convex.wide i (within i h) in (
        o.0,
        subst (λ m. o.0 < m) (sized points) o.1,
        subst (λ m. pos 0 <ℤ turn
            (point_at (corners points ring) i) (point_at (corners points ring) (next m i))
            (point_at (corners points ring) o.0)) (sized points) o.2,
      )

  square : pos 0 <ℤ (scale *ℤ scale)
  square = pos-mul scale scale (omega (arith, ints, positive)) (omega (arith, ints, positive))

  -- the turn of the images
  kept : (up : Bool) → RingKeepsShape scale up (corners points ring) (corners images ring) → (i j : ℕ) → i < n
      → j < n → turn (at i) (at (next n i)) (at j) ≡ signed up ((scale *ℤ scale) *ℤ drawn i j)
  kept up k i j h l =
      let m = next-below n i h in
      sym (same_turn _ _ _ _ _ _ (corner_point images ring i h) (corner_point images ring (next n i) m)
      (corner_point images ring j l))
      ∙ (k i (next n i) j (within i h) (within (next n i) m) (within j l)).crosses

  turned : (up : Bool) → RingKeepsShape scale up (corners points ring) (corners images ring)
      → IsTurned images ring up
  turned true k = record {
    v = at;
    convex = record {
      left = λ i j h l. subst (λ z. pos 0 ≤ℤ z) (sym (kept true k i j h l))
          (nonneg-mul (scale *ℤ scale) (drawn i j) (let s = square in omega (arith, linear))
          (drawn_left i j h l));
      wide = λ i h. (let o = drawn_wide i h in (
        o.0,
        o.1,
        subst (λ z. pos 0 <ℤ z)
            (sym (kept true k i o.0 h o.1)) (pos-mul (scale *ℤ scale) (drawn i o.0) square o.2),
      ));
    };
    to = λ i h. (i, h, refl);
    from = λ i h. (i, h, refl);
  }
  turned false k = record {
    v = backward n at;
    convex = convex_from_clockwise n at (record {
      right = λ i j h l. (let e = kept false k i j h l in let m = nonneg-mul (scale *ℤ scale) (drawn i j)
          (let s = square in omega (arith, linear)) (drawn_left i j h l) in omega (arith, linear));
      wide = λ i h. (let o = drawn_wide i h in let e = kept false k i o.0 h o.1 in
          let m = pos-mul (scale *ℤ scale) (drawn i o.0) square o.2 in (o.0, o.1, omega (arith, linear)));
    });
    to = λ i h. (
      back n (next n i),
      back-below n (next n i) (next-below n i h),
      pair (ap at (next-back n i h)) refl,
    );
    from = λ j h. (let f = next-below n j h in (
      back n (next n j),
      back-below n (next n j) f,
      pair (ap at (sym (back-back n (next n j) f))) (ap at
          (sym (ap (back n) (next-back n j h) ∙ back-back n j h))),
    ));
  }
    where
      pair : {a b c d : Pt} → a ≡ c → b ≡ d → ◌≡◌ {A = Pt × Pt} (a, b) (c, d)
      pair {a} {b} {c} {d} e f = ap (λ z. (z, b)) e ∙ ap (λ z. (c, z)) f

module _ {pattern : Pattern} {faces : FacesRow} {folded : Folded} (h : IsFoldedPattern pattern faces folded)
  where
    abbrev sheet : Sheet
    sheet = sheet_of pattern faces folded

    pub face_turned : (f : ℕ) → f < length faces.rings → IsTurned folded.points (ring_at faces.rings f)
        (is_up folded.up f)
    face_turned f l = turned pattern.points folded.points (ring_at faces.rings f) folded.scale
        h.folding.positive (h.faces_are.rings_are.each f l).convex (is_up folded.up f) (h.folding.shapes f l)

    pub ring_some : (f : ℕ) → f < length faces.rings → 0 < length (ring_at faces.rings f)
    ring_some f l = let t = (h.faces_are.rings_are.each f l).three in omega (arith, t)

    module _ (bars : List Bar) (are : AreBars folded.points faces.rings folded.up bars) where
      round : (f : ℕ) → f < length faces.rings → IsRound (Contains bars) (IsStep sheet) f
      round f l = record {
        n = length ring;
        v = t.v;
        ring = t.convex;
        some = ring_some f l;
        step = λ i lt. (let k = t.to i lt in (
          l,
          (
            k.0,
            k.1,
            sym
                (ap (λ (w : Pt × Pt). through w.0 w.1) k.2),
          ),
        ));
        steps = λ m st. (let k = t.from st.1.0 st.1.1 in (
          k.0,
          k.1,
          st.1.2
              ∙ ap (λ (w : Pt × Pt). through w.0 w.1) k.2,
        ));
        bar = λ b has e. (let s = are.each b has in let lt = subst
            (λ x. s.0 < length (ring_at faces.rings x)) e
            s.2 in let k = t.from s.0 lt in (
              k.0,
              k.1,
              subst (λ (w : Pt × Pt). IsBarOf w.0 w.1 f b) k.2
                  (subst (λ x. IsBarOf (step_at folded.points (ring_at faces.rings x)
                  (is_up folded.up x) s.0).0
                  (step_at folded.points (ring_at faces.rings x) (is_up folded.up x) s.0).1 x b) e s.3),
            ));
        bars = λ i lt. (let k = t.to i lt in subst (λ (w : Pt × Pt). (w.0.x ≡ w.1.x)
            ⊎ ((b : Bar) × Contains bars b × IsBarOf w.0 w.1 f b)) k.2 (are.all f k.0 l k.1));
      }
        where
          ring : List ℕ
          ring = ring_at faces.rings f

          t : IsTurned folded.points (ring_at faces.rings f) (is_up folded.up f)
          t = face_turned f l

      pub face_bars : AreFaceBars (Contains bars) (IsStep sheet)
      face_bars = bars_of_rings (λ b has. round b.face (are.each b has).1) (λ f l st. round f st.0)
