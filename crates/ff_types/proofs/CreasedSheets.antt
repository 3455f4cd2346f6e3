-- The laws of a sheet with one crease, put together.
use Rattle.std.proofs.Common.{◌≡◌, ℕ, zero, suc, ◌<◌, refl, sym, ap, subst, arith, lit<, Bool, true, false, not, List, length}
use Rattle.std.proofs.lemmas.Bool.{false≢true}
use Rattle.ff_whole.specs.declared.points.Pt.{Pt}
use Rattle.ff_types.specs.declared.patterns.EdgeEnds.{EdgeEnds}
use Rattle.ff_types.specs.Faces.{ring_at}
use Rattle.ff_types.specs.Sheets.{lies_up}
use Rattle.ff_types.specs.OneCrease.{IsCreasedRing, one_pair, CreasedRingsAreDrawings, CreasedRingsHaveTwoFaces, FoldedFacesOverlap, FlatFacesLieApart, TwoFacesStackTwice}
use Rattle.ff_types.proofs.OneCrease.{IsChord, chord_is, crease_drawing}
use Rattle.ff_types.proofs.CreaseFaces.{crease_from_first, crease_from_later}
use Rattle.ff_types.proofs.CreaseOverlap.{crease_overlap, flat_crease_apart}
use Rattle.ff_types.proofs.FewFaces.{overlap_turned, two_faces_stack, upper_first, lower_first, two_faces_only}

pub creased_drawing : CreasedRingsAreDrawings
creased_drawing points edges c i j k = let r = k.ring in let x = k.crease in let m = x.right in let o = x.left in
    crease_drawing points r.near r.apart r.convex r.enough i j m.0 o.0 x.later x.there m.1 m.2 m.3 o.1 o.2 edges r.cycle c x.joins

chord_of : (points : List Pt) (edges : List EdgeEnds) (c : EdgeEnds) (i j : ℕ) → IsCreasedRing points edges c i j → IsChord points i j
chord_of points edges c i j k = let r = k.ring in let x = k.crease in let m = x.right in let o = x.left in
    chord_is points r.near r.apart r.convex r.enough i j m.0 o.0 x.later x.there m.1 m.2 m.3 o.1 o.2

pub creased_faces : CreasedRingsHaveTwoFaces
creased_faces points edges c zero j marks k a = let r = k.ring in let x = k.crease in
    crease_from_first points r.near r.apart r.convex r.enough 0 j (chord_of points edges c 0 j k) edges r.cycle c x.joins marks a.border a.crease refl
creased_faces points edges c (suc i) j marks k a = let r = k.ring in let x = k.crease in
    crease_from_later points r.near r.apart r.convex r.enough (suc i) j (chord_of points edges c (suc i) j k) edges r.cycle c x.joins marks a.border a.crease (omega arith)

flags_turned : (a b : Bool) → a ≡ not b → b ≡ not a
flags_turned true true e = absurd (false≢true (sym e))
flags_turned true false e = refl
flags_turned false true e = refl
flags_turned false false e = absurd (false≢true e)

pub creased_overlap : FoldedFacesOverlap
creased_overlap points edges c zero j scale g s folded = let k = s.ring in let r = k.ring in let f = s.folding in
    crease_overlap points r.convex 0 j (chord_of points edges c 0 j k) g.images scale f.positive g refl 0 1
    (ap (λ rings. ring_at rings 0) s.rings) (ap (λ rings. ring_at rings 1) s.rings) folded (f.shapes 0 (lit< tt)) (f.shapes 1 (lit< tt))
    (λ e. absurd (omega (arith, e))) (subst (λ n. 0 < n) (sym (ap length s.rings)) (lit< tt)) (subst (λ n. 1 < n) (sym (ap length s.rings)) (lit< tt))
creased_overlap points edges c (suc i) j scale g s folded = let k = s.ring in let r = k.ring in let f = s.folding in
    overlap_turned g 1 0 (crease_overlap points r.convex (suc i) j (chord_of points edges c (suc i) j k) g.images scale f.positive g refl 1 0
    (ap (λ rings. ring_at rings 1) s.rings) (ap (λ rings. ring_at rings 0) s.rings) (flags_turned (lies_up g 1) (lies_up g 0) folded) (f.shapes 1 (lit< tt)) (f.shapes 0 (lit< tt))
    (λ e. absurd (omega (arith, e))) (subst (λ n. 1 < n) (sym (ap length s.rings)) (lit< tt)) (subst (λ n. 0 < n) (sym (ap length s.rings)) (lit< tt)))

pub creased_apart : FlatFacesLieApart
creased_apart points edges c zero j scale g s same o = let k = s.ring in let x = chord_of points edges c 0 j k in
    flat_crease_apart (length points) 0 j x.far x.low g 0 1 (ap (λ rings. ring_at rings 0) s.rings) (ap (λ rings. ring_at rings 1) s.rings) same o
creased_apart points edges c (suc i) j scale g s same o = let k = s.ring in let x = chord_of points edges c (suc i) j k in
    flat_crease_apart (length points) (suc i) j x.far x.low g 1 0 (ap (λ rings. ring_at rings 1) s.rings) (ap (λ rings. ring_at rings 0) s.rings) (sym same) (overlap_turned g 0 1 o)

pub two_stackings : TwoFacesStackTwice
two_stackings g two o = (
  two_faces_stack g (one_pair 1 0) two o (upper_first g two o),
  two_faces_stack g (one_pair 0 1) two o (lower_first g two o),
  λ above s. let t = s.stacking in two_faces_only g above two o t.orders,
)
