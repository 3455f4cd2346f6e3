-- Each family: what its list gives holds, and what holds is given.
use Rattle.std.proofs.Common.{◌≡◌, ℕ, ◌<◌, ◌≤◌, ◌⊎◌, inl, inr, refl, sym, ◌∙◌, ap, subst, arith, ◌&&◌, IsTrue, Some}
use Rattle.std.proofs.lemmas.Bool.{false≢true, cases_lt}
use Rattle.ff_basics.proofs.Tests.{both_of, of_both}
use Rattle.ff_types.specs.declared.cites.Cite.{Cite}
use Rattle.ff_types.specs.declared.cites.Cite.TheVariants.{TacoTaco, TacoFace, TacoEdge, FlatFace, FlatEdge}
use Rattle.ff_types.specs.Sheets.{Sheet}
use Rattle.ff_types.specs.Segments.{ShareSegment}
use Rattle.ff_types.specs.Cites.{Holds, Witnessed, HasSmallPlaces, is_folded_edge, is_flat_edge}
use Rattle.ff_edges.specs.declared.edge_face.EdgeFace.{EdgeFace}
use Rattle.ff_edges.specs.declared.edge_pair.EdgePair.{EdgePair}
use Rattle.ff_edges.specs.SharedSegments.{constrain, edges_of_pair, IsEdgePair}
use Rattle.ff_edges.specs.EdgesInside.{edge_and_face, IsEdgeFace}
use Rattle.ff_tacos.specs.Tacos.{is_of_edges}
use Rattle.ff_tacos.specs.Making.{taco_taco, taco_face, taco_edge, flat_face, flat_edge, mixed}
use Rattle.ff_tacos.proofs.Flags.{if_some, some_if, if_either, first_if, second_if, folded_not_flat, flat_not_folded, side_of, of_side, flat_flat}
use Rattle.ff_tacos.proofs.Keys.{family}

-- what is so of a cite that is listed, in the family with this number
pub record IsGood (g : Sheet) (n : ℕ) (c : Cite) : Type 0 where
  pub of_edges : IsTrue (is_of_edges c)
  pub holds : Holds g c
  pub witnessed : Witnessed g c
  pub small : HasSmallPlaces c
  pub family : family c ≡ n

module _ (g : Sheet) where
  turned : (e k : ℕ) → ShareSegment g e k → ShareSegment g k e
  turned e k s = record {
    s = s.s;
    t = s.t;
    s_place = s.s_place;
    t_place = s.t_place;
    differ = s.differ;
    first = s.second;
    second = s.first;
  }

  -- ---- what is given is good

  pub taco_taco_good : (p : EdgePair) → IsEdgePair g p → (c : Cite) → taco_taco g p ≡ Some c → IsGood g 1 c
  taco_taco_good p is c e =
      let r = if_some (is_folded_edge g p.e && is_folded_edge g p.e2) (TacoTaco p.e p.e2) c e in
      let b = both_of (is_folded_edge g p.e) (is_folded_edge g p.e2) r.0 in
      let holds : Holds g (TacoTaco p.e p.e2) =
      (is.order, r.0, is.shares, side_of g p.e p.e2 b.0 b.1 is.constrained) in
      subst (IsGood g 1) r.1 (record {
        of_edges = refl;
        holds = holds;
        witnessed = holds;
        small = tt;
        family = refl;
      })

  pub flat_edge_good : (p : EdgePair) → IsEdgePair g p → (c : Cite) → flat_edge g p ≡ Some c → IsGood g 5 c
  flat_edge_good p is c e =
      let r = if_some (is_flat_edge g p.e && is_flat_edge g p.e2) (FlatEdge p.e p.e2) c e in
      let holds : Holds g (FlatEdge p.e p.e2) = (is.order, r.0, is.shares) in
      subst (IsGood g 5) r.1 (record {
        of_edges = refl;
        holds = holds;
        witnessed = holds;
        small = tt;
        family = refl;
      })

  pub taco_face_good : (p : EdgeFace) → IsEdgeFace g p → (c : Cite) → taco_face g p ≡ Some c → IsGood g 2 c
  taco_face_good p is c e =
      let r = if_some (is_folded_edge g p.e) (TacoFace p.e p.face p.at) c e in
      subst (IsGood g 2) r.1 (record {
        of_edges = refl;
        holds = (r.0, is.inside);
        witnessed = (r.0, is.on, is.witness);
        small = is.small;
        family = refl;
      })

  pub flat_face_good : (p : EdgeFace) → IsEdgeFace g p → (c : Cite) → flat_face g p ≡ Some c → IsGood g 4 c
  flat_face_good p is c e =
      let r = if_some (is_flat_edge g p.e) (FlatFace p.e p.face p.at) c e in
      subst (IsGood g 4) r.1 (record {
        of_edges = refl;
        holds = (r.0, is.inside);
        witnessed = (r.0, is.on, is.witness);
        small = is.small;
        family = refl;
      })

  -- a folded and a flat edge, the two of a listed pair
  pub record IsMixed (p : EdgePair) (q : ℕ × ℕ) : Type 0 where
    pub folded : IsTrue (is_folded_edge g q.0)
    pub flat : IsTrue (is_flat_edge g q.1)
    pub shares : ShareSegment g q.0 q.1
    pub same : (q ≡ (p.e, p.e2)) ⊎ (q ≡ (p.e2, p.e))

  pub mixed_is : (p : EdgePair) → IsEdgePair g p → (q : ℕ × ℕ) → mixed g p ≡ Some q → IsMixed p q
  mixed_is p is q e = elim (if_either (is_folded_edge g p.e && is_flat_edge g p.e2)
      (is_flat_edge g p.e && is_folded_edge g p.e2) (p.e, p.e2) (p.e2, p.e) q e) [
        | inl r ↦ (let b = both_of (is_folded_edge g p.e) (is_flat_edge g p.e2) r.0 in
            subst (IsMixed p) r.1 (record { folded = b.0; flat = b.1; shares = is.shares; same = inl refl }))
        | inr r ↦ (let b = both_of (is_flat_edge g p.e) (is_folded_edge g p.e2) r.0 in
            subst (IsMixed p) r.1 (record {
              folded = b.1;
              flat = b.0;
              shares = turned p.e p.e2 is.shares;
              same = inr refl;
            }))
      ]

  pub taco_edge_good : (p : EdgePair) (q : ℕ × ℕ) → IsMixed p q → (c : Cite) → taco_edge q ≡ Some c
      → IsGood g 3 c
  taco_edge_good p q is c e =
      let holds : Holds g (TacoEdge q.0 q.1) = (is.folded, is.flat, is.shares) in
      subst (IsGood g 3) (one (TacoEdge q.0 q.1) c e)
      (record { of_edges = refl; holds = holds; witnessed = holds; small = tt; family = refl })
    where
      one : (x y : Cite) → Some x ≡ Some y → x ≡ y
      one x y e = cc

  -- ---- what holds is given

  pub taco_taco_given : (p : EdgePair) (e k : ℕ) → edges_of_pair p ≡ (e, k) → Holds g (TacoTaco e k)
      → taco_taco g p ≡ Some (TacoTaco e k)
  taco_taco_given p e k same w =
      (λ i. taco_taco g (record { e = (same i).0; e2 = (same i).1; p = p.p; q = p.q }))
      ∙ some_if (is_folded_edge g e && is_folded_edge g k) (TacoTaco e k) w.1

  pub taco_taco_wanted : (e k : ℕ) → Holds g (TacoTaco e k) → IsTrue (constrain g e k)
  taco_taco_wanted e k w = let b = both_of (is_folded_edge g e) (is_folded_edge g k) w.1 in
      of_side g e k b.0 b.1 w.3

  pub flat_edge_given : (p : EdgePair) (e k : ℕ) → edges_of_pair p ≡ (e, k) → Holds g (FlatEdge e k)
      → flat_edge g p ≡ Some (FlatEdge e k)
  flat_edge_given p e k same w =
      (λ i. flat_edge g (record { e = (same i).0; e2 = (same i).1; p = p.p; q = p.q }))
      ∙ some_if (is_flat_edge g e && is_flat_edge g k) (FlatEdge e k) w.1

  pub flat_edge_wanted : (e k : ℕ) → Holds g (FlatEdge e k) → IsTrue (constrain g e k)
  flat_edge_wanted e k w = let b = both_of (is_flat_edge g e) (is_flat_edge g k) w.1 in
      flat_flat g e k b.0 b.1

  -- the places are those of the list
  pub taco_face_given : (p : EdgeFace) (e f : ℕ) → edge_and_face p ≡ (e, f) → IsTrue (is_folded_edge g e)
      → taco_face g p ≡ Some (TacoFace e f p.at)
  taco_face_given p e f same t =
      (λ i. taco_face g (record { e = (same i).0; face = (same i).1; at = p.at }))
      ∙ some_if (is_folded_edge g e) (TacoFace e f p.at) t

  pub flat_face_given : (p : EdgeFace) (e f : ℕ) → edge_and_face p ≡ (e, f) → IsTrue (is_flat_edge g e)
      → flat_face g p ≡ Some (FlatFace e f p.at)
  flat_face_given p e f same t =
      (λ i. flat_face g (record { e = (same i).0; face = (same i).1; at = p.at }))
      ∙ some_if (is_flat_edge g e) (FlatFace e f p.at) t

  pub mixed_given : (p : EdgePair) (e k : ℕ) → edges_of_pair p ≡ (e, k) → IsTrue (is_folded_edge g e)
      → IsTrue (is_flat_edge g k) → mixed g p ≡ Some (e, k)
  mixed_given p e k same a b =
      (λ i. mixed g (record { e = (same i).0; e2 = (same i).1; p = p.p; q = p.q }))
      ∙ first_if (is_folded_edge g e && is_flat_edge g k) (is_flat_edge g e && is_folded_edge g k) (e, k)
      (k, e) (of_both (is_folded_edge g e) (is_flat_edge g k) a b)

  pub mixed_given_back : (p : EdgePair) (e k : ℕ) → edges_of_pair p ≡ (k, e) → IsTrue (is_folded_edge g e)
      → IsTrue (is_flat_edge g k) → mixed g p ≡ Some (e, k)
  mixed_given_back p e k same a b =
      (λ i. mixed g (record { e = (same i).0; e2 = (same i).1; p = p.p; q = p.q }))
      ∙ second_if (is_folded_edge g k && is_flat_edge g e) (is_flat_edge g k && is_folded_edge g e) (k, e)
      (e, k) (ap (λ x. x && is_flat_edge g e) (flat_not_folded g k b))
      (of_both (is_flat_edge g k) (is_folded_edge g e) b a)

  -- the two are different, so that one comes first
  pub mixed_apart : (e k : ℕ) → IsTrue (is_folded_edge g e) → IsTrue (is_flat_edge g k) → (e < k) ⊎ (k < e)
  mixed_apart e k a b = elim (cases_lt e k) [
    | inl l ↦ inl l
    | inr l ↦ elim (cases_lt k e) [
      | inl m ↦ inr m
      | inr m ↦ absurd (false≢true (sym (folded_not_flat g e a)
          ∙ subst (λ x. IsTrue (is_flat_edge g x)) (one l m) b))
    ]
  ] where
    one : k ≤ e → e ≤ k → k ≡ e
    one l m = omega (arith, l, m)

  pub turned_share : (e k : ℕ) → ShareSegment g e k → ShareSegment g k e
  turned_share e k s = turned e k s
