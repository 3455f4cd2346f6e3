-- The edges of a drawing with faces: what joins two faces, and that no list of faces but the whole is closed under it.
use Rattle.std.proofs.Common.{◌≡◌, ℕ, suc, ◌<◌, ◌==◌, ◌⊎◌, inl, inr, ◌&&◌, ◌||◌, arith, refl, sym, ap, ◌∙◌, subst, true, false, Bool, List, [], ◌∷◌, length, Option, Some, None, IsTrue}
use Rattle.std.proofs.lemmas.Bool.{eqb-true, eqb-false, false≢true}
use Rattle.std.proofs.lemmas.List.Elements.{Contains-get_or}
use Rattle.std.specs.List.{Contains, list_any}
use Rattle.ff_whole.specs.Convex.{next}
use Rattle.ff_whole.proofs.ClosedLists.{next-below}
use Rattle.ff_types.specs.declared.patterns.EdgeEnds.{EdgeEnds}
use Rattle.ff_types.specs.declared.patterns.Mark.{Mark}
use Rattle.ff_types.specs.declared.patterns.Mark.TheVariants.{B, M, V, F, U}
use Rattle.ff_types.specs.declared.faces.EdgeSides.{EdgeSides}
use Rattle.ff_types.specs.Patterns.{edge_at}
use Rattle.ff_types.specs.Drawings.{joins, joined, has_end}
use Rattle.ff_types.specs.Rings.{corner, Goes}
use Rattle.ff_types.specs.Faces.{ring_at, mark_at, Belongs, Share, IsChain, FitsMark, FitMarks}
use Rattle.ff_types.specs.Sides.{sides_at, IsFaceOf, IsMarkOf, filled, AreSides}
use Rattle.ff_types.specs.Placing.{Meeting, meetings_of}
use Rattle.ff_reflect.specs.Sheets.{Paper, HasFaces}
use Rattle.ff_reflect.proofs.Cases.{by_test}
use Rattle.ff_reflect.proofs.Meetings.{HasSides, met_over}

-- ---- which vertices an edge joins

pub ends_of : (u v : ℕ) (e : EdgeEnds) → IsTrue (joins u v e) → ((e.a ≡ u) × (e.b ≡ v)) ⊎ ((e.a ≡ v) × (e.b ≡ u))
ends_of u v e h = by (e.a == u) refl (e.b == v) refl (e.a == v) refl (e.b == u) refl h where
  by : (p : Bool) → (e.a == u) ≡ p → (q : Bool) → (e.b == v) ≡ q → (r : Bool) → (e.a == v) ≡ r → (s : Bool) → (e.b == u) ≡ s
      → IsTrue ((p && q) || (r && s)) → ((e.a ≡ u) × (e.b ≡ v)) ⊎ ((e.a ≡ v) × (e.b ≡ u))
  by true p true q r x s y h = inl (eqb-true e.a u p, eqb-true e.b v q)
  by true p false q true r true s h = inr (eqb-true e.a v r, eqb-true e.b u s)
  by true p false q true r false s h = absurd (false≢true h)
  by true p false q false r s y h = absurd (false≢true h)
  by false p q x true r true s h = inr (eqb-true e.a v r, eqb-true e.b u s)
  by false p q x true r false s h = absurd (false≢true h)
  by false p q x false r s y h = absurd (false≢true h)

pub joins_from : (u v : ℕ) (e : EdgeEnds) → ((e.a ≡ u) × (e.b ≡ v)) ⊎ ((e.a ≡ v) × (e.b ≡ u)) → IsTrue (joins u v e)
joins_from u v e (inl (p, q)) = rw (p, q) (rw (same u, same v) refl) where
  same : (n : ℕ) → (n == n) ≡ true
  same n = by_test (n == n) (λ t. t) (λ f. absurd (eqb-false n n f refl))
joins_from u v e (inr (p, q)) = rw (p, q) (rw (same u, same v) (or_true ((v == u) && (u == v)))) where
  same : (n : ℕ) → (n == n) ≡ true
  same n = by_test (n == n) (λ t. t) (λ f. absurd (eqb-false n n f refl))

  or_true : (b : Bool) → IsTrue (b || true)
  or_true true = refl
  or_true false = refl

-- some edge joins them: its number
pub edge_of : (edges : List EdgeEnds) (u v : ℕ) → IsTrue (joined edges u v) → (e : ℕ) × (e < length edges) × IsTrue (joins u v (edge_at edges e))
edge_of [] u v h = absurd (false≢true h)
edge_of (x ∷ edges) u v h = by (joins u v x) refl (λ k. edge_of edges u v k) h where
  by : (b : Bool) → joins u v x ≡ b → (IsTrue (joined edges u v) → (e : ℕ) × (e < length edges) × IsTrue (joins u v (edge_at edges e)))
      → IsTrue (b || list_any (joins u v) edges) → (e : ℕ) × (e < length (x ∷ edges)) × IsTrue (joins u v (edge_at (x ∷ edges) e))
  by true e f h = (0, omega arith, e)
  by false e f h = let r = f h in let l = r.1 in (suc r.0, omega (arith, l), r.2)

-- ---- a drawing with its faces

-- at most one edge joins two vertices
pub one_edge : (paper : Paper) → HasFaces paper → (u v e k : ℕ) → e < length paper.edges → IsTrue (joins u v (edge_at paper.edges e)) → k < length paper.edges → IsTrue (joins u v (edge_at paper.edges k)) → e ≡ k
one_edge paper h u v e k l j m i =
    let d = h.drawing in d.once e k l m (joins_from (edge_at paper.edges e).a (edge_at paper.edges e).b (edge_at paper.edges k) (both (ends_of u v (edge_at paper.edges e) j) (ends_of u v (edge_at paper.edges k) i)))
  where
    both : {a b c d : ℕ} → ((a ≡ u) × (b ≡ v)) ⊎ ((a ≡ v) × (b ≡ u)) → ((c ≡ u) × (d ≡ v)) ⊎ ((c ≡ v) × (d ≡ u)) → ((c ≡ a) × (d ≡ b)) ⊎ ((c ≡ b) × (d ≡ a))
    both (inl p) (inl q) = inl (q.0 ∙ sym p.0, q.1 ∙ sym p.1)
    both (inl p) (inr q) = inr (q.0 ∙ sym p.1, q.1 ∙ sym p.0)
    both (inr p) (inl q) = inr (q.0 ∙ sym p.1, q.1 ∙ sym p.0)
    both (inr p) (inr q) = inl (q.0 ∙ sym p.0, q.1 ∙ sym p.1)

-- a face on a side is there, and its ring goes along the edge
pub face_goes : (rings : List (List ℕ)) (u v : ℕ) (o : Option ℕ) (f : ℕ) → IsFaceOf rings u v o → o ≡ Some f → (f < length rings) × Goes (ring_at rings f) u v
face_goes rings u v o f h e = subst (IsFaceOf rings u v) e h

-- a ring that goes along an edge is that of the face on this side
pub face_is : (paper : Paper) → HasFaces paper → (u v : ℕ) (o : Option ℕ) (f : ℕ) → IsFaceOf paper.rings u v o → f < length paper.rings → Goes (ring_at paper.rings f) u v → o ≡ Some f
face_is paper h u v None f k l g = absurd (k (f, l, g))
face_is paper h u v (Some x) f k l g = let a = h.faces in let r = a.rings_are in ap Some (r.one x f u v k.0 l k.1 g)

-- what both faces of an edge have
pub record IsBetween (rings : List (List ℕ)) (e : EdgeEnds) (f g : ℕ) : Type 0 where
  pub first : f < length rings
  pub second : g < length rings
  pub along : (Goes (ring_at rings f) e.a e.b × Goes (ring_at rings g) e.b e.a) ⊎ (Goes (ring_at rings f) e.b e.a × Goes (ring_at rings g) e.a e.b)

pub between_faces : (rings : List (List ℕ)) (e : EdgeEnds) (s : EdgeSides) (f g : ℕ) → AreSides rings e s → HasSides s f g → IsBetween rings e f g
between_faces rings e s f g h (inl (l, r)) =
    let a = face_goes rings e.a e.b s.left f h.left l in let b = face_goes rings e.b e.a s.right g h.right r in
    record { first = a.0; second = b.0; along = inl (a.1, b.1) }
between_faces rings e s f g h (inr (l, r)) =
    let a = face_goes rings e.a e.b s.left g h.left l in let b = face_goes rings e.b e.a s.right f h.right r in
    record { first = b.0; second = a.0; along = inr (b.1, a.1) }

-- a vertex that a ring goes from, or to, is in it
pub from_in : (ring : List ℕ) (u v : ℕ) → Goes ring u v → Contains ring u
from_in ring u v g = subst (Contains ring) g.from (Contains-get_or ring g.place 0 g.inside)

pub to_in : (ring : List ℕ) (u v : ℕ) → Goes ring u v → Contains ring v
to_in ring u v g = subst (Contains ring) g.to (Contains-get_or ring (next (length ring) g.place) 0 (next-below (length ring) g.place g.inside))

-- ---- a meeting for each shared edge

pub met : (paper : Paper) → HasFaces paper → (e f g : ℕ) → e < length paper.edges → HasSides (sides_at paper.sides e) f g
    → Contains (meetings_of paper.rings paper.edges paper.sides f) (record { face = f; edge = e; across = g })
met paper h e f g l s =
    let a = h.faces in
    let b = between_faces paper.rings (edge_at paper.edges e) (sides_at paper.sides e) f g (a.sides_are e l) s in
    let x = edge_at paper.edges e in
    let over = λ (u v : ℕ) (j : IsTrue (joins u v (edge_at paper.edges e))) (go : Goes (ring_at paper.rings f) u v).
    met_over paper.rings paper.edges paper.sides u v e f g (λ k m i. one_edge paper h x.a x.b e k l (joins_from x.a x.b x (inl (refl, refl))) m i) l j
    (λ k m i. one_edge paper h u v e k l j m i) go s in
    elim b.along [
      | inl (p, q) ↦ over x.a x.b (joins_from x.a x.b x (inl (refl, refl))) p
      | inr (p, q) ↦ over x.b x.a (joins_from x.b x.a x (inr (refl, refl))) p
    ]

pub shared_met : (paper : Paper) → HasFaces paper → (f g : ℕ) → f < length paper.rings → g < length paper.rings → Share paper.rings f g
    → (e : ℕ) × Contains (meetings_of paper.rings paper.edges paper.sides f) (record { face = f; edge = e; across = g })
shared_met paper h f g lf lg (u, v, p, q) =
    let a = h.faces in
    let r = a.rings_are in
    let there = r.each f lf in
    let e = edge_of paper.edges u v (subst (λ n. IsTrue (joined paper.edges n v)) p.from (subst (λ n. IsTrue (joined paper.edges (corner (ring_at paper.rings f) p.place) n)) p.to (there.joins p.place p.inside))) in
    let s = a.sides_are e.0 e.1 in (
      e.0,
      met paper h e.0 f g e.1 (elim (ends_of u v (edge_at paper.edges e.0) e.2) [
        | inl (x, y) ↦ inl (face_is paper h _ _ _ f s.left lf (rw (x, y) p), face_is paper h _ _ _ g s.right lg (rw (x, y) q))
        | inr (x, y) ↦ inr (face_is paper h _ _ _ g s.left lg (rw (x, y) q), face_is paper h _ _ _ f s.right lf (rw (x, y) p))
      ]),
    )

-- an edge with faces on both sides is no border
pub no_border : (paper : Paper) → HasFaces paper → (e f g : ℕ) → e < length paper.edges → HasSides (sides_at paper.sides e) f g → mark_at paper.marks e ≡ B → ⊥
no_border paper h e f g l s b =
    let a = h.faces in
    let r = a.rings_are in
    by paper.given r.fit (a.marks_are e l) (between_faces paper.rings (edge_at paper.edges e) (sides_at paper.sides e) f g (a.sides_are e l) s)
  where
    both : (e : EdgeEnds) → IsBetween paper.rings e f g → FitsMark paper.rings e B → ⊥
    both e i (inl (p, q)) = q (elim i.along [ inl (x, y) ↦ (g, i.second, y) | inr (x, y) ↦ (f, i.first, x) ])
    both e i (inr (p, q)) = p (elim i.along [ inl (x, y) ↦ (f, i.first, x) | inr (x, y) ↦ (g, i.second, y) ])

    unassigned : (s : EdgeSides) → HasSides s f g → filled s.left s.right ≡ U
    unassigned s (inl (x, y)) = rw (x, y) refl
    unassigned s (inr (x, y)) = rw (x, y) refl

    by : (given : Option (List Mark)) → FitMarks paper.edges paper.rings given → IsMarkOf given e (sides_at paper.sides e) (mark_at paper.marks e) → IsBetween paper.rings (edge_at paper.edges e) f g → ⊥
    by None fit m i = let k : U ≡ B = sym (unassigned (sides_at paper.sides e) s) ∙ sym m ∙ b in cc
    by (Some ms) fit m i = both (edge_at paper.edges e) i (subst (FitsMark paper.rings (edge_at paper.edges e)) (sym m ∙ b) (fit e l))

-- each edge is in a ring
edge_in_ring : (paper : Paper) → HasFaces paper → (e : ℕ) → e < length paper.edges
    → (f : ℕ) × (f < length paper.rings) × (Contains (ring_at paper.rings f) (edge_at paper.edges e).a × Contains (ring_at paper.rings f) (edge_at paper.edges e).b)
edge_in_ring paper h e l = let a = h.faces in let r = a.rings_are in by paper.given r.fit where
  x : EdgeEnds
  x = edge_at paper.edges e

  one : Belongs paper.rings x.a x.b → (f : ℕ) × (f < length paper.rings) × (Contains (ring_at paper.rings f) x.a × Contains (ring_at paper.rings f) x.b)
  one (f, l, g) = (f, l, (from_in _ _ _ g, to_in _ _ _ g))

  back : Belongs paper.rings x.b x.a → (f : ℕ) × (f < length paper.rings) × (Contains (ring_at paper.rings f) x.a × Contains (ring_at paper.rings f) x.b)
  back (f, l, g) = (f, l, (to_in _ _ _ g, from_in _ _ _ g))

  marked : (mark : Mark) → FitsMark paper.rings x mark → Belongs paper.rings x.a x.b ⊎ Belongs paper.rings x.b x.a
  marked B (inl p) = inl p.0
  marked B (inr p) = inr p.1
  marked M p = inl p.0
  marked V p = inl p.0
  marked F p = inl p.0
  marked U p = inl p.0

  by : (given : Option (List Mark)) → FitMarks paper.edges paper.rings given → (f : ℕ) × (f < length paper.rings) × (Contains (ring_at paper.rings f) x.a × Contains (ring_at paper.rings f) x.b)
  by None fit = elim (fit e l) [ inl p ↦ one p | inr p ↦ back p ]
  by (Some ms) fit = elim (marked (mark_at ms e) (fit e l)) [ inl p ↦ one p | inr p ↦ back p ]

-- each vertex is in a ring
pub vertex_in_ring : (paper : Paper) → HasFaces paper → (v : ℕ) → v < length paper.points → (f : ℕ) × (f < length paper.rings) × Contains (ring_at paper.rings f) v
vertex_in_ring paper h v l =
    let d = h.drawing in
    let t = d.two v l in
    let r = edge_in_ring paper h t.0 (let p = t.2 in let q = t.3 in omega (arith, p, q)) in
    (r.0, r.1, elim (end_is (edge_at paper.edges t.0) t.4) [ inl e ↦ subst (Contains (ring_at paper.rings r.0)) e r.2.0 | inr e ↦ subst (Contains (ring_at paper.rings r.0)) e r.2.1 ])
  where
    end_is : (x : EdgeEnds) → IsTrue (has_end x v) → (x.a ≡ v) ⊎ (x.b ≡ v)
    end_is x t = by (x.a == v) refl (x.b == v) refl t where
      by : (p : Bool) → (x.a == v) ≡ p → (q : Bool) → (x.b == v) ≡ q → IsTrue (p || q) → (x.a ≡ v) ⊎ (x.b ≡ v)
      by true p q r t = inl (eqb-true x.a v p)
      by false p true r t = inr (eqb-true x.b v r)
      by false p false r t = absurd (false≢true t)

-- ---- all faces

-- a list of faces from face 0 that is closed under meetings has all faces
pub all_faces : (paper : Paper) → HasFaces paper → (faces : List ℕ) → Contains faces 0
    → ((f : ℕ) (m : Meeting) → Contains faces f → Contains (meetings_of paper.rings paper.edges paper.sides f) m → Contains faces m.across)
    → (f : ℕ) → f < length paper.rings → Contains faces f
all_faces paper h faces zero_in closed f l =
    let a = h.faces in let r = a.rings_are in
    let c = r.chained 0 f (omega (arith, l)) l in
    go c.0 0 (omega (arith, l)) zero_in c.1
  where
    go : (chain : List ℕ) (g : ℕ) → g < length paper.rings → Contains faces g → IsChain paper.rings g chain f → Contains faces f
    go [] g l c e = subst (Contains faces) e c
    go (x ∷ chain) g l c k =
        let m = shared_met paper h g x l k.0 k.1 in
        go chain x k.0 (closed g _ c m.1) k.2
