-- Faces that edges link are faces that a chain of rings joins.
use Rattle.std.proofs.Common.{◌≡◌, inl, inr, ℕ, ◌<◌, List, [], ◌∷◌, length, sym, ap, subst, Option, Some, None, IsTrue, arith}
use Rattle.ff_whole.specs.declared.points.Pt.{Pt}
use Rattle.ff_types.specs.declared.patterns.EdgeEnds.{EdgeEnds}
use Rattle.ff_types.specs.declared.faces.EdgeSides.{EdgeSides}
use Rattle.ff_types.specs.Patterns.{edge_at}
use Rattle.ff_types.specs.Drawings.{IsDrawing, joined}
use Rattle.ff_types.specs.Rings.{corner, Goes, IsRing}
use Rattle.ff_types.specs.Faces.{ring_at, Share, IsChain, AreChained}
use Rattle.ff_types.specs.Sides.{sides_at}
use Rattle.ff_types.specs.Walks.{AreRingWalks}
use Rattle.ff_types.specs.FaceRefusals.{ApartAt}
use Rattle.ff_types.proofs.ComputedFaces.{joins_is}
use Rattle.ff_types.proofs.PlainSheets.{some_joins}
use Rattle.ff_planar.specs.Seen.{IsSeenOf, AreAllSeen}
use Rattle.ff_planar.specs.Joining.{AreBeside, Steps, IsWay, AreLinked}
use Rattle.ff_planar.proofs.Rims.{ring_side}
use Rattle.ff_planar.proofs.FacesOnce.{one_rings}

module _ (points : List Pt) (edges : List EdgeEnds) (d : IsDrawing points edges) (rings : List (List ℕ)) (r : AreRingWalks points edges rings) (each : (f : ℕ) → f < length rings → IsRing points edges (ring_at rings f))
    (one : (f g u v : ℕ) → f < length rings → g < length rings → Goes (ring_at rings f) u v → Goes (ring_at rings g) u v → f ≡ g) (seen : List EdgeSides) (s : AreAllSeen points edges rings seen) where
  -- the ring of a side that is seen
  seen_is : (u v f : ℕ) (side : Option ℕ) → IsSeenOf points edges rings u v side → side ≡ Some f → (f < length rings) × Goes (ring_at rings f) u v
  seen_is u v f side h e = subst (IsSeenOf points edges rings u v) e h

  beside : (f g : ℕ) → AreBeside seen f g → (f < length rings) × (g < length rings) × Share rings f g
  beside f g b =
      let n = s.as_many in
      let w = s.each b.edge (let l = b.within in omega (arith, n, l)) in
      let e = edge_at edges b.edge in
      let x = seen_is e.a e.b f (sides_at seen b.edge).left w.left b.left in
      let y = seen_is e.b e.a g (sides_at seen b.edge).right w.right b.right in
      (x.0, y.0, (e.a, e.b, x.1, y.1))

  stepped : (f g : ℕ) → Steps seen f g → (g < length rings) × Share rings f g
  stepped f g (inl b) = let x = beside f g b in (x.1, x.2)
  stepped f g (inr b) = let x = beside g f b in let y = x.2 in (x.0, (y.1, y.0, y.3, y.2))

  chain_of : (f g : ℕ) (p : List ℕ) → IsWay seen f p g → IsChain rings f p g
  chain_of f g [] e = e
  chain_of f g (h ∷ p) w = let x = stepped f h w.0 in (x.0, x.1, chain_of h g p w.1)

  pub chained_from : (f g : ℕ) → AreLinked seen f g → AreChained rings f g
  chained_from f g l = (l.0, chain_of f g l.0 l.1)

  goes_joined : (f u v : ℕ) → f < length rings → Goes (ring_at rings f) u v → IsTrue (joined edges u v)
  goes_joined f u v l g = let a = (each f l).joins g.place g.inside in subst (λ x. IsTrue (joined edges x v)) g.from (subst (λ x. IsTrue (joined edges (corner (ring_at rings f) g.place) x)) g.to a)

  -- a side with a ring is seen with it
  side_is : (u v f : ℕ) → f < length rings → Goes (ring_at rings f) u v → (side : Option ℕ) → IsSeenOf points edges rings u v side → side ≡ Some f
  side_is u v f l g (Some h) x = ap Some (sym (one f h u v l x.0 g x.1))
  side_is u v f l g None x = absurd (ring_side points edges d rings r u v f (l, g) x)

  shared : (f g : ℕ) → f < length rings → g < length rings → Share rings f g → Steps seen f g
  shared f g l m h =
      let u = h.0 in
      let v = h.1 in
      let e = some_joins edges u v (goes_joined f u v l h.2) in
      let n = s.as_many in
      let w = s.each e.0 e.1 in
      let k = edge_at edges e.0 in
      elim (joins_is k u v e.2) [
        | inl x ↦ inl (record {
          edge = e.0;
          within = (let c = e.1 in omega (arith, n, c));
          left = side_is k.a k.b f l (subst (λ y. Goes (ring_at rings f) y k.b) (sym x.0) (subst (Goes (ring_at rings f) u) (sym x.1) h.2)) (sides_at seen e.0).left w.left;
          right = side_is k.b k.a g m (subst (λ y. Goes (ring_at rings g) y k.a) (sym x.1) (subst (Goes (ring_at rings g) v) (sym x.0) h.3)) (sides_at seen e.0).right w.right;
        })
        | inr x ↦ inr (record {
          edge = e.0;
          within = (let c = e.1 in omega (arith, n, c));
          left = side_is k.a k.b g m (subst (λ y. Goes (ring_at rings g) y k.b) (sym x.0) (subst (Goes (ring_at rings g) v) (sym x.1) h.3)) (sides_at seen e.0).left w.left;
          right = side_is k.b k.a f l (subst (λ y. Goes (ring_at rings f) y k.a) (sym x.1) (subst (Goes (ring_at rings f) u) (sym x.0) h.2)) (sides_at seen e.0).right w.right;
        })
      ]

  way_of : (f g : ℕ) (p : List ℕ) → f < length rings → IsChain rings f p g → IsWay seen f p g
  way_of f g [] l e = e
  way_of f g (h ∷ p) l c = (shared f h l c.0 c.1, way_of h g p c.0 c.2)

  pub linked_from : (f g : ℕ) → f < length rings → AreChained rings f g → AreLinked seen f g
  linked_from f g l c = (c.0, way_of f g c.0 l c.1)

  -- a face is apart where edges don't link it to the first
  pub apart_from : (f : ℕ) → f < length rings → (AreLinked seen 0 f → ⊥) → ApartAt points edges f
  apart_from f l n = (rings, r, l, λ c. n (linked_from 0 f (omega (arith, l)) c))

  pub not_apart : (f : ℕ) → AreLinked seen 0 f → ApartAt points edges f → ⊥
  not_apart f l h = h.3 (subst (λ x. AreChained x 0 f) (one_rings points edges d rings r each h.0 h.1) (chained_from 0 f l))

  pub apart_below : (f : ℕ) → ApartAt points edges f → f < length rings
  apart_below f h = subst (λ x. f < length x) (sym (one_rings points edges d rings r each h.0 h.1)) h.2
