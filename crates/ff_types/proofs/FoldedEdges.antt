-- What a folded pattern says of its edges' images and of its rings.
use Rattle.std.proofs.Common.{◌≡◌, ◌≢◌, ℕ, ◌<◌, ◌⊎◌, inl, inr, refl, sym, ◌∙◌, ap, subst, arith, pos, ◌*ℤ◌, ◌<ℤ◌, List, [], ◌∷◌, length, Option, Some, None}
use Rattle.std.specs.List.{All}
use Rattle.std.proofs.lemmas.Int.{ints}
use Rattle.std.proofs.lemmas.List.{length-map, get_or_default}
use Rattle.ff_whole.specs.declared.points.Pt.{Pt}
use Rattle.ff_whole.specs.Points.{IsNear, minus, dot, origin}
use Rattle.ff_whole.specs.Convex.{next, point_at}
use Rattle.ff_whole.proofs.Ring.{var, num, ◌⊕◌, ◌⊖◌, ◌⊗◌, solve}
use Rattle.ff_whole.proofs.Signs.{linear, pos-mul}
use Rattle.ff_whole.proofs.Images.{distance_positive}
use Rattle.ff_whole.proofs.ClosedLists.{next-below}
use Rattle.ff_types.specs.declared.patterns.Pattern.{Pattern}
use Rattle.ff_types.specs.declared.patterns.EdgeEnds.{EdgeEnds}
use Rattle.ff_types.specs.declared.patterns.Mark.{Mark}
use Rattle.ff_types.specs.declared.patterns.Mark.TheVariants.{B, M, V, F, U}
use Rattle.ff_types.specs.declared.faces.Faces.{Faces}
use Rattle.ff_types.specs.declared.faces.Folded.{Folded}
use Rattle.ff_types.specs.Patterns.{edge_at}
use Rattle.ff_types.specs.Rings.{corner, corners, Goes}
use Rattle.ff_types.specs.Faces.{ring_at, mark_at, Belongs, FitsMark, FitMarks}
use Rattle.ff_types.specs.Sheets.{Sheet, sheet_of, tail, head}
use Rattle.ff_types.specs.FoldedPatterns.{IsFoldedPattern}
use Rattle.ff_types.proofs.SubRings.{corner_point}

-- ---- each edge is an edge of some ring

by_mark : (rings : List (List ℕ)) (e : EdgeEnds) (m : Mark) → FitsMark rings e m → Belongs rings e.a e.b ⊎ Belongs rings e.b e.a
by_mark rings e B (inl h) = inl h.0
by_mark rings e B (inr h) = inr h.1
by_mark rings e M h = inl h.0
by_mark rings e V h = inl h.0
by_mark rings e F h = inl h.0
by_mark rings e U h = inl h.0

by_marks : (edges : List EdgeEnds) (rings : List (List ℕ)) (marks : Option (List Mark)) → FitMarks edges rings marks → (e : ℕ) → e < length edges
    → Belongs rings (edge_at edges e).a (edge_at edges e).b ⊎ Belongs rings (edge_at edges e).b (edge_at edges e).a
by_marks edges rings (Some marks) h e l = by_mark rings (edge_at edges e) (mark_at marks e) (h e l)
by_marks edges rings None h e l = h e l

not_apart : (p q : Pt) → pos 0 <ℤ dot (minus q p) (minus q p) → p ≢ q
not_apart p q h e = let z = subst (λ r. pos 0 <ℤ dot (minus r p) (minus r p)) (sym e) h in let x = none p in omega (arith, linear) where
  none : (p : Pt) → dot (minus p p) (minus p p) ≡ pos 0
  none p = solve (p.x ∷ p.y ∷ []) ((var 0 ⊖ var 0) ⊗ (var 0 ⊖ var 0) ⊕ (var 1 ⊖ var 1) ⊗ (var 1 ⊖ var 1)) (num (pos 0)) refl

module _ {pattern : Pattern} {faces : Faces} {folded : Folded} (h : IsFoldedPattern pattern faces folded) where
  abbrev g : Sheet
  g = sheet_of pattern faces folded

  -- the vertices of a ring have images
  pub ring_below : (f : ℕ) → f < length faces.rings → All (λ v. v < length folded.points) (ring_at faces.rings f)
  ring_below f l k d m = subst (λ v. v < length folded.points) (get_or_default (ring_at faces.rings f) k 0 d m) (subst (λ n. corner (ring_at faces.rings f) k < n) (sym h.folding.as_many_points) ((h.faces_are.rings_are.each f l).there k m))

  pub images_near : All IsNear folded.points
  images_near k d l = subst IsNear (get_or_default folded.points k origin d l) (h.near k l)

  -- two vertices that follow each other in a ring have different images
  pub step_long : (f u v : ℕ) → f < length faces.rings → Goes (ring_at faces.rings f) u v → point_at pattern.points u ≢ point_at pattern.points v
      → pos 0 <ℤ dot (minus (point_at folded.points v) (point_at folded.points u)) (minus (point_at folded.points v) (point_at folded.points u))
  step_long f u v l s apart =
      let ring = ring_at faces.rings f in
      let n = length ring in
      let i = s.place in
      let j = next n s.place in
      let jl = next-below n i s.inside in
      let shape = (h.folding.shapes f l i j j (sized i s.inside) (sized j jl) (sized j jl)).dots in
      let p = distance_positive (point_at pattern.points u) (point_at pattern.points v) apart in
      let positive = h.folding.positive in
      let q = pos-mul folded.scale folded.scale (omega (arith, ints)) (omega (arith, ints)) in
      let there = dots (at pattern.points i u s.inside s.from) (at pattern.points j v jl s.to) in
      let here = dots (at folded.points i u s.inside s.from) (at folded.points j v jl s.to) in
      let r = pos-mul (folded.scale *ℤ folded.scale) (dot (minus (point_at pattern.points v) (point_at pattern.points u)) (minus (point_at pattern.points v) (point_at pattern.points u))) q p in
      subst (λ z. pos 0 <ℤ z) (sym (ap (λ z. (folded.scale *ℤ folded.scale) *ℤ z) there) ∙ sym shape ∙ here) r
    where
      sized : (k : ℕ) → k < length (ring_at faces.rings f) → k < length (corners pattern.points (ring_at faces.rings f))
      sized k m = subst (λ n. k < n) (sym (length-map (ring_at faces.rings f) (point_at pattern.points))) m

      at : (ps : List Pt) (k x : ℕ) → k < length (ring_at faces.rings f) → corner (ring_at faces.rings f) k ≡ x → point_at (corners ps (ring_at faces.rings f)) k ≡ point_at ps x
      at ps k x m e = corner_point ps (ring_at faces.rings f) k m ∙ ap (point_at ps) e

      dots : {p q r s : Pt} → p ≡ r → q ≡ s → dot (minus q p) (minus q p) ≡ dot (minus s r) (minus s r)
      dots {p} {q} {r} {s} e f = ap (λ x. dot (minus q x) (minus q x)) e ∙ ap (λ y. dot (minus y r) (minus y r)) f

  -- the ends of an edge have images, and different ones
  pub tail_below : (e : ℕ) → e < length pattern.edges → (edge_at pattern.edges e).a < length folded.points
  tail_below e l = subst (λ n. (edge_at pattern.edges e).a < n) (sym h.folding.as_many_points) (h.drawing.edges_join e l).first

  pub head_below : (e : ℕ) → e < length pattern.edges → (edge_at pattern.edges e).b < length folded.points
  head_below e l = subst (λ n. (edge_at pattern.edges e).b < n) (sym h.folding.as_many_points) (h.drawing.edges_join e l).second

  pub ends_apart : (e : ℕ) → e < length pattern.edges → tail g e ≢ head g e
  ends_apart e l = by (by_marks pattern.edges faces.rings pattern.marks h.faces_are.rings_are.fit e l) where
    a : ℕ
    a = (edge_at pattern.edges e).a

    b : ℕ
    b = (edge_at pattern.edges e).b

    apart : point_at pattern.points a ≢ point_at pattern.points b
    apart q = let j = h.drawing.edges_join e l in j.differ (h.drawing.apart.differ a b j.first j.second q)

    by : Belongs faces.rings (edge_at pattern.edges e).a (edge_at pattern.edges e).b ⊎ Belongs faces.rings (edge_at pattern.edges e).b (edge_at pattern.edges e).a → tail g e ≢ head g e
    by (inl (f, m, s)) = not_apart (tail g e) (head g e) (step_long f a b m s apart)
    by (inr (f, m, s)) = λ q. not_apart (head g e) (tail g e) (step_long f b a m s (λ r. apart (sym r))) (sym q)
