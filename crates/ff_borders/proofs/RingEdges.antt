-- The images of two edges of one face don't cross and don't overlap, since the face keeps its shape and the
-- edges as they were drawn meet at ends alone. So a plain border place is on one ring edge of a face at most.
use Rattle.std.proofs.Common.{◌≡◌, ℕ, ◌+◌, ◌<◌, ◌==◌, inl, inr, refl, arith, ◌*ℤ◌, Bool, true, false, IsTrue, List, length}
use Rattle.std.proofs.lemmas.Int.{ints}
use Rattle.std.proofs.lemmas.Bool.{eqb-true, eqb-false}
use Rattle.ff_basics.proofs.Tests.{not_false, not_true}
use Rattle.ff_whole.specs.declared.places.Place.{Place}
use Rattle.ff_whole.specs.Convex.{point_at}
use Rattle.ff_whole.proofs.Signs.{pos-mul}
use Rattle.ff_types.specs.declared.patterns.Pattern.{Pattern}
use Rattle.ff_types.specs.declared.faces.Faces.{Faces}
use Rattle.ff_types.specs.declared.faces.Folded.{Folded}
use Rattle.ff_types.specs.Patterns.{edge_at}
use Rattle.ff_types.specs.Faces.{ring_at}
use Rattle.ff_types.specs.Sheets.{Sheet, sheet_of, tail, head, bounds}
use Rattle.ff_types.specs.Inside.{is_inside}
use Rattle.ff_types.specs.Borders.{is_between}
use Rattle.ff_types.specs.Covering.{is_on_ring}
use Rattle.ff_types.specs.FoldedPatterns.{IsFoldedPattern}
use Rattle.ff_types.proofs.CreaseOverlap.{Listed}
use Rattle.ff_borders.specs.RingEdges.{RingEdgesDontCross, FacesMeetOnce}
use Rattle.ff_borders.proofs.Tests.{by_test, bounds_from, between_from, plain_on, ring_edge}
use Rattle.ff_borders.proofs.Steps.{from_listed, to_listed, kept, long, left_goes, right_goes}
use Rattle.ff_borders.proofs.Weights.{HaveCommon, common}
use Rattle.ff_borders.proofs.Lying.{ring_faces_lie_aside}

module _ {pattern : Pattern} {faces : Faces} {folded : Folded}
    (h : IsFoldedPattern pattern faces folded) where
  abbrev g : Sheet
  g = sheet_of pattern faces folded

  abbrev ring : ℕ → List ℕ
  ring f = ring_at faces.rings f

  -- the ends of a ring edge are vertices of the ring
  pub ends_listed : (e f : ℕ) → e < length pattern.edges → IsTrue (bounds g e f)
      → (f < length faces.rings) × Listed (ring f) (edge_at pattern.edges e).a
      × Listed (ring f) (edge_at pattern.edges e).b
  ends_listed e f l b = elim (bounds_from g e f b) [
    | inl d ↦ (let s = left_goes h e f l d in (s.0, from_listed (ring f) _ _ s.1, to_listed (ring f) _ _ s.1))
    | inr d ↦ (let s = right_goes h e f l d in
        (s.0, to_listed (ring f) _ _ s.1, from_listed (ring f) _ _ s.1))
  ]

  -- the edges have a common point that is an end of neither
  drawn_common : (e k f : ℕ) (s : Place) → e < length pattern.edges → k < length pattern.edges
      → IsTrue (bounds g e f) → IsTrue (bounds g k f)
      → IsTrue (is_between g e s) → IsTrue (is_between g k s)
      → HaveCommon (point_at pattern.points (edge_at pattern.edges e).a)
      (point_at pattern.points (edge_at pattern.edges e).b)
      (point_at pattern.points (edge_at pattern.edges k).a)
      (point_at pattern.points (edge_at pattern.edges k).b)
  drawn_common e k f s el kl be bk te tk =
      let x = ends_listed e f el be in
      let y = ends_listed k f kl bk in
      let p = h.folding.positive in
      let dots = λ (i j m : ℕ) (a : Listed (ring f) i) (b : Listed (ring f) j) (c : Listed (ring f) m).
      (kept h f i j m x.0 a b c).dots in
      common (folded.scale *ℤ folded.scale)
      (pos-mul folded.scale folded.scale (omega (arith, ints)) (omega (arith, ints))) _ _ _ _ (tail g e)
      (head g e) (tail g k) (head g k)
      (record {
        qq = dots _ _ _ x.1 x.2 x.2;
        rr = dots _ _ _ x.1 y.1 y.1;
        ss = dots _ _ _ x.1 y.2 y.2;
        qr = dots _ _ _ x.1 x.2 y.1;
        qs = dots _ _ _ x.1 x.2 y.2;
        rs = dots _ _ _ x.1 y.1 y.2;
      }) s (between_from g e s te) (between_from g k s tk) (long h e el) (long h k kl)

  pub ring_edges_dont_cross : RingEdgesDontCross g
  ring_edges_dont_cross e k f s el kl positive be bk te tk = by (e == k) refl where
    by : (b : Bool) → (e == k) ≡ b → e ≡ k
    by true d = eqb-true e k d
    by false d = absurd (
        let c = drawn_common e k f s el kl be bk te tk in
        let m = h.drawing.meet e k el kl (eqb-false e k d) c.a c.b c.c c.e
        (record { some = some c.a c.b c.a_some; sums = c.sums; same = c.same }) in
        elim m.0 [ inl z ↦ none c.a c.a_some z | inr z ↦ none c.b c.b_some z ]) where
          some : (a b : ℕ) → 0 < a → 0 < a + b
          some a b h = omega (arith, h)

          none : (a : ℕ) → 0 < a → a ≡ 0 → ⊥
          none a h z = omega (arith, h, z)

  pub faces_meet_once : FacesMeetOnce g
  faces_meet_once e f s plain = by_test (is_inside g f s)
      (λ t. inl (
        t,
        not_true (is_on_ring g f s)
            (λ u. let r = ring_edge g f s u in
            not_false (is_inside g f s) (ring_faces_lie_aside h e r.0 f s plain r.1 r.2 r.3).1 t),
      ))
      (λ out. by_test (is_on_ring g f s)
      (λ u. let r = ring_edge g f s u in inr (inl (
        (
          r.0,
          record {
            edge = r.1;
            on = r.2;
            of_face = r.3;
            only = λ l m t b. ring_edges_dont_cross l r.0 f s m r.1 plain.place b r.3
                (plain_on g e l s plain m t).0 (plain_on g e r.0 s plain r.1 r.2).0;
          },
        ),
        out,
      )))
      (λ off. inr (inr (out, off))))
