-- All families together are the constraints that rest on edges.
use Rattle.std.proofs.Common.{◌≡◌, ℕ, ◌+◌, ◌<◌, inl, inr, refl, arith, Bool, true, false, ◌&&◌, ◌||◌, IsTrue, List, ◌++◌, length, get_or, Some}
use Rattle.std.specs.List.{Contains, filter_map}
use Rattle.std.proofs.lemmas.Bool.{false≢true, ltb-true}
use Rattle.std.proofs.lemmas.Option.{slice_get-get_or}
use Rattle.std.proofs.lemmas.List.Sorted.{IsPermutation-sym, Contains-permutation}
use Rattle.ff_basics.proofs.Lists.{filter_map_in, in_filter_map, place_of_member}
use Rattle.ff_basics.proofs.Tests.{both_of, of_first, of_second}
use Rattle.ff_types.specs.declared.patterns.Pattern.{Pattern}
use Rattle.ff_types.specs.declared.faces.Faces.{Faces}
use Rattle.ff_types.specs.declared.faces.Folded.{Folded}
use Rattle.ff_types.specs.declared.cites.Cite.{Cite}
use Rattle.ff_types.specs.declared.cites.Cite.TheVariants.{Transitivity, TacoTaco, TacoFace, TacoEdge, FlatFace, FlatEdge}
use Rattle.ff_types.specs.declared.cites.Listed.{Listed}
use Rattle.ff_types.specs.declared.refusals.No.{No}
use Rattle.ff_types.specs.declared.refusals.No.TheVariants.{Refused, NoMemory}
use Rattle.ff_types.specs.Foldings.{is_folded}
use Rattle.ff_types.specs.Sheets.{Sheet, sheet_of, is_edge, mark_of}
use Rattle.ff_types.specs.Cites.{Holds, is_flat, is_folded_edge, is_flat_edge}
use Rattle.ff_types.specs.Cases.{key}
use Rattle.ff_types.specs.FoldedPatterns.{IsFoldedPattern}
use Rattle.ff_edges.specs.declared.edge_face.EdgeFace.{EdgeFace}
use Rattle.ff_edges.specs.declared.edge_pair.EdgePair.{EdgePair}
use Rattle.ff_edges.specs.SharedSegments.{IsEdgePair, AreEdgePairs}
use Rattle.ff_edges.specs.EdgesInside.{is_inner_edge, IsEdgeFace, AreEdgeFaces}
use Rattle.ff_edges.proofs.PairLists.{second_edge}
use Rattle.ff_tacos.specs.Tacos.{is_of_edges, AreNumbered, HasCite, AreTacos, AreTooMany}
use Rattle.ff_tacos.specs.Making.{listed_of, given, taco_taco, taco_face, taco_edge, flat_face, flat_edge, mixed, AreMixed, all_given, WhyNoConstraints, HavePairEdges, HaveEdges, HaveBoth}
use Rattle.ff_tacos.proofs.Flags.{folded_flat, flat_folded}
use Rattle.ff_tacos.proofs.Families as families
use Rattle.ff_tacos.proofs.Orders as orders
use Rattle.ff_tacos.proofs.Rising.{at_place, member_left, member_right, rising_at}
use Rattle.ff_tacos.proofs.Given.{ComesBefore, AreUpTo, given_good, given_has, given_rises, one_family, one_more}

there : (g : Sheet) (e : ℕ) (b : Bool) → IsTrue (is_edge g e && b) → e < length g.edges
there g e b t = ltb-true e (length g.edges) (both_of (is_edge g e) b t).0

pub pairs_there : (g : Sheet) (list : List EdgePair) → AreEdgePairs g list
    → HavePairEdges (length g.edges) list
pairs_there g list are k d l =
    let is = are.each k (get_or list k d) (slice_get-get_or list k d l) in
    let low = is.order in
    let high = second_edge g _ _ is.constrained in
    (omega (arith, low, high), high)

pub faces_there : (g : Sheet) (list : List EdgeFace) → AreEdgeFaces g list → HaveEdges (length g.edges) list
faces_there g list are k d l =
    at (get_or list k d) (are.some.each k (get_or list k d) (slice_get-get_or list k d l)).inner where
      at : (p : EdgeFace) → IsTrue (is_inner_edge g p.e) → p.e < length g.edges
      at p t = ltb-true p.e (length g.edges)
          (either (is_edge g p.e) (is_folded (mark_of g p.e)) (is_flat (mark_of g p.e)) t) where
            either : (b c d : Bool) → IsTrue ((b && c) || (b && d)) → IsTrue b
            either true c d t = refl
            either false c d t = absurd (false≢true t)

module _ {pattern : Pattern} {faces : Faces} {folded : Folded} (h : IsFoldedPattern pattern faces folded)
    (pairs : List (ℕ × ℕ)) (all : AreNumbered (sheet_of pattern faces folded) pairs)
    (edge_pairs : List EdgePair) (edge_faces : List EdgeFace) (list : List (ℕ × ℕ))
    (are_pairs : AreEdgePairs (sheet_of pattern faces folded) edge_pairs)
    (are_faces : AreEdgeFaces (sheet_of pattern faces folded) edge_faces)
    (are_mixed : AreMixed (sheet_of pattern faces folded) edge_pairs list) where
  abbrev g : Sheet
  g = sheet_of pattern faces folded

  abbrev first : List Listed
  first = given g pairs (taco_taco g) edge_pairs

  abbrev second : List Listed
  second = given g pairs (taco_face g) edge_faces

  abbrev third : List Listed
  third = given g pairs taco_edge list

  abbrev fourth : List Listed
  fourth = given g pairs (flat_face g) edge_faces

  abbrev fifth : List Listed
  fifth = given g pairs (flat_edge g) edge_pairs

  abbrev whole : List Listed
  whole = all_given g pairs edge_pairs edge_faces list

  -- ---- members

  is_pair : (p : EdgePair) → Contains edge_pairs p → IsEdgePair g p
  is_pair p m = let r = place_of_member edge_pairs p m in are_pairs.each r.0 p r.1

  is_face : (p : EdgeFace) → Contains edge_faces p → IsEdgeFace g p
  is_face p m = let r = place_of_member edge_faces p m in are_faces.some.each r.0 p r.1

  from_mixed : (q : ℕ × ℕ) → Contains list q → (p : EdgePair) × Contains edge_pairs p × (mixed g p ≡ Some q)
  from_mixed q m = in_filter_map (mixed g) edge_pairs q
      (Contains-permutation list (filter_map (mixed g) edge_pairs) q
      (IsPermutation-sym (filter_map (mixed g) edge_pairs) list are_mixed.members) m)

  to_mixed : (p : EdgePair) (q : ℕ × ℕ) → Contains edge_pairs p → mixed g p ≡ Some q → Contains list q
  to_mixed p q m e = Contains-permutation (filter_map (mixed g) edge_pairs) list q are_mixed.members
      (filter_map_in (mixed g) edge_pairs p q m e)

  -- ---- each family, and its order

  up_to : AreUpTo h pairs all 5 whole
  up_to =
      one_more h pairs all 4 5 (first ++ second ++ third ++ fourth) fifth (omega arith)
      (one_more h pairs all 3 4 (first ++ second ++ third) fourth (omega arith)
      (one_more h pairs all 2 3 (first ++ second) third (omega arith)
      (one_more h pairs all 1 2 first second (omega arith)
      (one_family h pairs all 1 first
      (given_good h pairs all (taco_taco g) edge_pairs 1 (λ p m. families.taco_taco_good g p (is_pair p m)))
      (given_rises h pairs all (taco_taco g) edge_pairs orders.PairBefore (orders.taco_taco_rises g)
      (orders.pairs_rise g edge_pairs are_pairs)))
      (given_good h pairs all (taco_face g) edge_faces 2 (λ p m. families.taco_face_good g p (is_face p m)))
      (given_rises h pairs all (taco_face g) edge_faces orders.FaceBefore (orders.taco_face_rises g)
      (orders.faces_rise g edge_faces are_faces)))
      (given_good h pairs all taco_edge list 3
      (λ q m. (let r = from_mixed q m in
      families.taco_edge_good g r.0 q (families.mixed_is g r.0 (is_pair r.0 r.1) q r.2))))
      (given_rises h pairs all taco_edge list orders.EdgesBefore (orders.taco_edge_rises g)
      (orders.mixed_rise g edge_pairs list are_pairs are_mixed)))
      (given_good h pairs all (flat_face g) edge_faces 4 (λ p m. families.flat_face_good g p (is_face p m)))
      (given_rises h pairs all (flat_face g) edge_faces orders.FaceBefore (orders.flat_face_rises g)
      (orders.faces_rise g edge_faces are_faces)))
      (given_good h pairs all (flat_edge g) edge_pairs 5 (λ p m. families.flat_edge_good g p (is_pair p m)))
      (given_rises h pairs all (flat_edge g) edge_pairs orders.PairBefore (orders.flat_edge_rises g)
      (orders.pairs_rise g edge_pairs are_pairs))

  -- ---- all that hold

  found : (c : Cite) → Contains whole (listed_of g pairs c) → HasCite whole (key c)
  found c m = let r = place_of_member whole (listed_of g pairs c) m in (r.0, listed_of g pairs c, r.1, refl)

  in_first : (l : Listed) → Contains first l → Contains whole l
  in_first l m = member_left (first ++ second ++ third ++ fourth) fifth l
      (member_left (first ++ second ++ third) fourth l
      (member_left (first ++ second) third l (member_left first second l m)))

  in_second : (l : Listed) → Contains second l → Contains whole l
  in_second l m = member_left (first ++ second ++ third ++ fourth) fifth l
      (member_left (first ++ second ++ third) fourth l
      (member_left (first ++ second) third l (member_right first second l m)))

  in_third : (l : Listed) → Contains third l → Contains whole l
  in_third l m = member_left (first ++ second ++ third ++ fourth) fifth l
      (member_left (first ++ second ++ third) fourth l (member_right (first ++ second) third l m))

  in_fourth : (l : Listed) → Contains fourth l → Contains whole l
  in_fourth l m = member_left (first ++ second ++ third ++ fourth) fifth l
      (member_right (first ++ second ++ third) fourth l m)

  in_fifth : (l : Listed) → Contains fifth l → Contains whole l
  in_fifth l m = member_right (first ++ second ++ third ++ fourth) fifth l m

  has_mixed : (e k : ℕ) → Holds g (TacoEdge e k) → Contains list (e, k)
  has_mixed e k w = elim (families.mixed_apart g e k w.0 w.1) [
    | inl l ↦ (let r = are_pairs.all e k l (folded_flat g e k w.0 w.1) w.2 in
        to_mixed r.1 (e, k) (at_place edge_pairs r.0 r.1 r.2) (families.mixed_given g r.1 e k r.3 w.0 w.1))
    | inr l ↦ (let r = are_pairs.all k e l (flat_folded g k e w.1 w.0) (families.turned_share g e k w.2) in
        to_mixed r.1 (e, k) (at_place edge_pairs r.0 r.1 r.2)
        (families.mixed_given_back g r.1 e k r.3 w.0 w.1))
  ]

  complete : (c : Cite) → IsTrue (is_of_edges c) → Holds g c → HasCite whole (key c)
  complete (Transitivity e k l at) t w = absurd (false≢true t)
  complete (TacoTaco e k) t w =
      let r = are_pairs.all e k w.0 (families.taco_taco_wanted g e k w) w.2 in
      found (TacoTaco e k) (in_first _
      (given_has h pairs all (taco_taco g) edge_pairs r.1 (TacoTaco e k) (at_place edge_pairs r.0 r.1 r.2)
      (families.taco_taco_given g r.1 e k r.3 w)))
  complete (TacoFace e f at) t w =
      let r = are_faces.all e f (of_first (is_folded_edge g e) (is_flat_edge g e) w.0) w.1 in
      found (TacoFace e f r.1.at) (in_second _
      (given_has h pairs all (taco_face g) edge_faces r.1 (TacoFace e f r.1.at)
      (at_place edge_faces r.0 r.1 r.2) (families.taco_face_given g r.1 e f r.3 w.0)))
  complete (TacoEdge e k) t w = found (TacoEdge e k)
      (in_third _ (given_has h pairs all taco_edge list (e, k) (TacoEdge e k) (has_mixed e k w) refl))
  complete (FlatFace e f at) t w =
      let r = are_faces.all e f (of_second (is_folded_edge g e) (is_flat_edge g e) w.0) w.1 in
      found (FlatFace e f r.1.at) (in_fourth _
      (given_has h pairs all (flat_face g) edge_faces r.1 (FlatFace e f r.1.at)
      (at_place edge_faces r.0 r.1 r.2) (families.flat_face_given g r.1 e f r.3 w.0)))
  complete (FlatEdge e k) t w =
      let r = are_pairs.all e k w.0 (families.flat_edge_wanted g e k w) w.2 in
      found (FlatEdge e k) (in_fifth _
      (given_has h pairs all (flat_edge g) edge_pairs r.1 (FlatEdge e k) (at_place edge_pairs r.0 r.1 r.2)
      (families.flat_edge_given g r.1 e k r.3 w)))

  -- the edges that are named are there
  pub both_there : HaveBoth (length g.edges) list
  both_there k d l =
      let q = get_or list k d in
      let r = from_mixed q (at_place list k q (slice_get-get_or list k d l)) in
      let is = families.mixed_is g r.0 (is_pair r.0 r.1) q r.2 in
      (there g q.0 (is_folded (mark_of g q.0)) is.folded, there g q.1 (is_flat (mark_of g q.1)) is.flat)

  pub are_tacos : AreTacos g pairs whole
  are_tacos = record {
    each = λ n l e. (up_to.each l (at_place whole n l e)).0;
    complete = complete;
    sorted = rising_at ComesBefore whole up_to.rises;
  }

  pub too_many : (n : ℕ) (no : No) → WhyNoConstraints (n + length whole) no → AreTooMany g pairs n no
  too_many n NoMemory full = tt
  too_many n (Refused r) full = (full.0, (whole, are_tacos, full.1))
