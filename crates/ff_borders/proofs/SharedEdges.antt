-- Two faces that share an edge do so over an edge that isn't a border edge. So where there is one such edge,
-- its two faces are all.
use Rattle.std.proofs.Common.{◌≡◌, ◌≢◌, ℕ, ◌<◌, ◌⊎◌, inl, inr, refl, sym, ◌∙◌, subst, IsTrue, List, [], ◌∷◌, length, Option, Some, None}
use Rattle.ff_types.specs.declared.patterns.Pattern.{Pattern}
use Rattle.ff_types.specs.declared.patterns.EdgeEnds.{EdgeEnds}
use Rattle.ff_types.specs.declared.patterns.Mark.{Mark}
use Rattle.ff_types.specs.declared.patterns.Mark.TheVariants.{B, U}
use Rattle.ff_types.specs.declared.faces.Faces.{Faces}
use Rattle.ff_types.specs.declared.faces.Folded.{Folded}
use Rattle.ff_types.specs.Patterns.{edge_at}
use Rattle.ff_types.specs.Drawings.{joins, joined}
use Rattle.ff_types.specs.Rings.{corner, Goes}
use Rattle.ff_types.specs.Faces.{ring_at, mark_at, Belongs, FitsMark, FitMarks, Share, IsChain}
use Rattle.ff_types.specs.Sides.{sides_at, IsMarkOf, filled}
use Rattle.ff_types.specs.Sheets.{Sheet, sheet_of, mark_of, left_face, right_face}
use Rattle.ff_types.specs.FoldedPatterns.{IsFoldedPattern}
use Rattle.ff_types.proofs.ComputedFaces.{joins_is}
use Rattle.ff_types.proofs.PlainSheets.{some_joins}
use Rattle.ff_borders.proofs.TwoSides.{HasSides, sided}
use Rattle.ff_borders.proofs.Steps.{left_goes, right_goes}

-- a border edge has one side in a ring
one_side_alone : (rings : List (List ℕ)) (e : EdgeEnds) (m : Mark) → m ≡ B → FitsMark rings e m
    → Belongs rings e.a e.b → Belongs rings e.b e.a → ⊥
one_side_alone rings e m d f x y = by (subst (FitsMark rings e) d f) where
  by : FitsMark rings e B → ⊥
  by (inl k) = k.1 y
  by (inr k) = k.0 x

filled_inner : (o p : Option ℕ) (f h : ℕ) → o ≡ Some f → p ≡ Some h → filled o p ≢ B
filled_inner o p f h x y e = unmarked (subst (λ z. filled z p ≡ B) x e) where
  no_mark : U ≡ B → ⊥
  no_mark d = cc

  unmarked : filled (Some f) p ≡ B → ⊥
  unmarked d = no_mark (subst (λ z. filled (Some f) z ≡ B) y d)

module _ {pattern : Pattern} {faces : Faces} {folded : Folded}
    (h : IsFoldedPattern pattern faces folded) where
  abbrev g : Sheet
  g = sheet_of pattern faces folded

  abbrev ring : ℕ → List ℕ
  ring f = ring_at faces.rings f

  -- an edge with both sides in rings isn't a border edge
  inner_of_both : (k : ℕ) → k < length pattern.edges
      → Belongs faces.rings (edge_at pattern.edges k).a (edge_at pattern.edges k).b
      → Belongs faces.rings (edge_at pattern.edges k).b (edge_at pattern.edges k).a → mark_of g k ≢ B
  inner_of_both k l x y d = by pattern.marks (h.faces_are.marks_are k l) h.faces_are.rings_are.fit where
    by : (o : Option (List Mark)) → IsMarkOf o k (sides_at faces.sides k) (mark_at faces.marks k)
        → FitMarks pattern.edges faces.rings o → ⊥
    by (Some marks) m fit = one_side_alone faces.rings (edge_at pattern.edges k) (mark_at marks k) (sym m ∙ d)
        (fit k l) x y
    by None m fit =
        let s = h.faces_are.sides_are k l in
        let a = sided faces.rings (edge_at pattern.edges k).a (edge_at pattern.edges k).b (left_face g k)
        s.left x in
        let b = sided faces.rings (edge_at pattern.edges k).b (edge_at pattern.edges k).a (right_face g k)
        s.right y in
        filled_inner (left_face g k) (right_face g k) a.0 b.0 a.1 b.1 (sym m ∙ d)

  -- the edge over which two faces share
  pub record IsOver (f j k : ℕ) : Type 0 where
    pub edge : k < length pattern.edges
    pub inner : mark_of g k ≢ B
    pub beside : (Goes (ring f) (edge_at pattern.edges k).a (edge_at pattern.edges k).b
        × Goes (ring j) (edge_at pattern.edges k).b (edge_at pattern.edges k).a)
        ⊎ (Goes (ring f) (edge_at pattern.edges k).b (edge_at pattern.edges k).a
        × Goes (ring j) (edge_at pattern.edges k).a (edge_at pattern.edges k).b)

  over_edge : (f j : ℕ) → f < length faces.rings → j < length faces.rings → Share faces.rings f j
      → (k : ℕ) × IsOver f j k
  over_edge f j fl jl (u, v, s, t) = by (some_joins pattern.edges u v joined_too) where
    joined_too : IsTrue (joined pattern.edges u v)
    joined_too = subst (λ x. IsTrue (joined pattern.edges x v)) s.from
        (subst (λ y. IsTrue (joined pattern.edges (corner (ring f) s.place) y)) s.to
        ((h.faces_are.rings_are.each f fl).joins s.place s.inside))

    by : (k : ℕ) × (k < length pattern.edges) × IsTrue (joins u v (edge_at pattern.edges k))
        → (k : ℕ) × IsOver f j k
    by (k, l, t') = elim (joins_is (edge_at pattern.edges k) u v t') [
      | inl d ↦
          let x = subst (λ i. Goes (ring f) i (edge_at pattern.edges k).b) (sym d.0)
          (subst (λ i. Goes (ring f) u i) (sym d.1) s) in
          let y = subst (λ i. Goes (ring j) (edge_at pattern.edges k).b i) (sym d.0)
          (subst (λ i. Goes (ring j) i u) (sym d.1) t) in
          (k, record { edge = l; inner = inner_of_both k l (f, fl, x) (j, jl, y); beside = inl (x, y) })
      | inr d ↦
          let x = subst (λ i. Goes (ring f) (edge_at pattern.edges k).b i) (sym d.0)
          (subst (λ i. Goes (ring f) i v) (sym d.1) s) in
          let y = subst (λ i. Goes (ring j) i (edge_at pattern.edges k).b) (sym d.0)
          (subst (λ i. Goes (ring j) v i) (sym d.1) t) in
          (k, record { edge = l; inner = inner_of_both k l (j, jl, y) (f, fl, x); beside = inr (x, y) })
    ]

  -- ---- the two faces of the only inner edge

  module _ (e p q : ℕ) (l : e < length pattern.edges) (sides : HasSides g e p q) (only : (k : ℕ)
      → k < length pattern.edges → mark_of g k ≢ B → k ≡ e) where
    -- across the edge from either of the two is the other
    across : (f j : ℕ) → f < length faces.rings → j < length faces.rings → Share faces.rings f j
        → (j ≡ p) ⊎ (j ≡ q)
    across f j fl jl s = by (over_edge f j fl jl s) where
      by : (k : ℕ) × IsOver f j k → (j ≡ p) ⊎ (j ≡ q)
      by (k, o) =
          let d = only k o.edge o.inner in
          elim o.beside [
            | inl b ↦ inr (h.faces_are.rings_are.one j q (edge_at pattern.edges e).b
                (edge_at pattern.edges e).a jl (right_goes h e q l sides.right).0
                (subst (λ i. Goes (ring j) (edge_at pattern.edges i).b (edge_at pattern.edges i).a) d b.1)
                (right_goes h e q l sides.right).1)
            | inr b ↦ inl (h.faces_are.rings_are.one j p (edge_at pattern.edges e).a
                (edge_at pattern.edges e).b jl (left_goes h e p l sides.left).0
                (subst (λ i. Goes (ring j) (edge_at pattern.edges i).a (edge_at pattern.edges i).b) d b.1)
                (left_goes h e p l sides.left).1)
          ]

    along_chain : (f : ℕ) → f < length faces.rings → (f ≡ p) ⊎ (f ≡ q) → (chain : List ℕ) (j : ℕ)
        → IsChain faces.rings f chain j → (j ≡ p) ⊎ (j ≡ q)
    along_chain f fl one [] j c = elim one [ inl d ↦ inl (sym c ∙ d) | inr d ↦ inr (sym c ∙ d) ]
    along_chain f fl one (k ∷ rest) j c = along_chain k c.0 (across f k fl c.0 c.1) rest j c.2

    -- each face is one of the two
    pub one_of_two : (j : ℕ) → j < length faces.rings → (j ≡ p) ⊎ (j ≡ q)
    one_of_two j jl = let fl = (left_goes h e p l sides.left).0 in let c =
        h.faces_are.rings_are.chained p j fl jl in along_chain p fl (inl refl) c.0 j c.1
