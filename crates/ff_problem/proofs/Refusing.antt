-- Why a folded sheet has no case, from the lists that are too long.
use Rattle.std.proofs.Common.{◌≡◌, ◌≢◌, ◌⊎◌, inl, inr, ℕ, ◌<◌, ◌∙◌, Bool, true, false, ◌&&◌, List, [], ◌∷◌, ◌++◌, length, length-append, map, slice_get, slice_index, Some, IsTrue, refl, ap, sym, subst, arith}
use Rattle.std.proofs.lemmas.Bool.{false≢true}
use Rattle.std.proofs.lemmas.List.{length-map}
use Rattle.ff_basics.proofs.Tests.{both_of, either_of}
use Rattle.ff_types.specs.declared.patterns.Pattern.{Pattern}
use Rattle.ff_types.specs.declared.faces.Faces.{Faces}
use Rattle.ff_types.specs.declared.faces.Folded.{Folded}
use Rattle.ff_types.specs.declared.cites.Cite.{Cite}
use Rattle.ff_types.specs.declared.cites.Cite.TheVariants.{TacoTaco, TacoFace, TacoEdge, FlatFace, FlatEdge}
use Rattle.ff_types.specs.declared.cites.Listed.{Listed}
use Rattle.ff_whole.specs.declared.places.Place.{Place}
use Rattle.ff_types.specs.declared.refusals.Refusal.{Refusal}
use Rattle.ff_types.specs.declared.refusals.Refusal.TheVariants.{TooMany}
use Rattle.ff_types.specs.declared.refusals.What.TheVariants.{Constraints}
use Rattle.ff_types.specs.declared.refusals.No.{No}
use Rattle.ff_types.specs.declared.refusals.No.TheVariants as no
use Rattle.ff_types.specs.Faces.{list_before}
use Rattle.ff_types.specs.Pairs.{is_before}
use Rattle.ff_types.specs.Sheets.{Sheet, sheet_of, mark_of}
use Rattle.ff_types.specs.Cites.{Holds, is_folded_edge, is_flat_edge, on_one_side}
use Rattle.ff_types.specs.Cases.{key}
use Rattle.ff_types.specs.Segments.{ShareSegment, HasEdgeInside}
use Rattle.ff_types.specs.FoldedPatterns.{IsFoldedPattern}
use Rattle.ff_borders.proofs.TwoSides.{folded_edge, flat_edge, not_both_marks}
use Rattle.ff_borders.proofs.Running.{sharing_agrees}
use Rattle.ff_crossings.proofs.Alike.{lists_apart, pairs_apart, mapped, unmapped}
use Rattle.ff_cells.specs.declared.cell.Cell.{Cell}
use Rattle.ff_cells.specs.FaceSets.{HaveFaceSets}
use Rattle.ff_edges.specs.declared.edge_pair.EdgePair.{EdgePair}
use Rattle.ff_edges.specs.declared.edge_face.EdgeFace.{EdgeFace}
use Rattle.ff_edges.specs.SharedSegments.{WhyNoEdgePairs, constrain, beside_both}
use Rattle.ff_edges.specs.EdgesInside.{AreNoEdgeFaces, is_inner_edge}
use Rattle.ff_pairs.specs.Together.{WhyNoPairs}
use Rattle.ff_trans.specs.Triples.{WhyNoTriples}
use Rattle.ff_tacos.specs.Tacos.{AreTooMany}
use Rattle.ff_types.specs.Splitting.{cite_of}
use Rattle.ff_types.specs.declared.limits.TheConstants.{MOST_CONSTRAINTS}
use Rattle.ff_cells.specs.SlabCells.{HasFewCells}
use Rattle.ff_problem.specs.Limits.{HasManyPairs, HasManyConstraints, WhyNoCase}
use Rattle.ff_problem.specs.Layers.{AreLayers}
use Rattle.ff_problem.proofs.Assembly.{all_hold, all_sorted}
use Rattle.ff_problem.proofs.Counts.{no_more_pairs}

-- too many cites, one for each item of a list
many_cites : {X : Type 0} (g : Sheet) (cite : X → Cite) (xs : List X) → ((n : ℕ) (x : X) → slice_get xs n ≡ Some x → Holds g (cite x))
    → ((m n : ℕ) (x y : X) → m < n → slice_get xs m ≡ Some x → slice_get xs n ≡ Some y → key (cite x) ≢ key (cite y)) → MOST_CONSTRAINTS < length xs → HasManyConstraints g
many_cites g cite xs holds apart many = (
  map cite xs,
  record {
    apart = λ m n c d l e f. let x = unmapped cite xs m c e in let y = unmapped cite xs n d f in
        subst (λ z. key z ≢ key d) x.2 (subst (λ z. key (cite x.0) ≢ key z) y.2 (apart m n x.0 y.0 l x.1 y.1));
    each = λ n c e. let x = unmapped cite xs n c e in subst (λ z. Holds g z) x.2 (holds n x.0 x.1);
  },
  omega (arith, many, length-map xs cite),
)

before_apart : (p q : List ℕ) → IsTrue (list_before p q) → p ≢ q
before_apart p q b e = lists_apart p q b (subst (λ x. IsTrue (list_before q x)) (sym e) (subst (λ x. IsTrue (list_before x q)) e b))

-- ---- pairs

pub no_pairs : (g : Sheet) (cells : List Cell) (n : No) → HasFewCells g → HaveFaceSets g cells → WhyNoPairs cells n → WhyNoCase g n
no_pairs g cells no.NoMemory few sets h = tt
no_pairs g cells (no.Refused r) few sets (e, (list, are, many)) = inr (few, inl (e, (list, record { sorted = are.sorted; each = λ n p t. (are.overlap g sets p.0 p.1 (are.sorted.rising n p t)).1 (n, t) }, many)))

-- ---- constraints

module _ (g : Sheet) (pairs : List (ℕ × ℕ)) (triples : List Listed) (layers : AreLayers g pairs triples) where
  too_many : (r : Refusal) → r ≡ TooMany Constraints MOST_CONSTRAINTS → HasManyConstraints g → WhyNoCase g (no.Refused r)
  too_many r e many = inr (layers.few_cells, inr (no_more_pairs g pairs layers.sorted layers.overlap layers.few_pairs, e, many))

  -- the constraints that rest on edges, behind the triples
  pub no_tacos : (n : No) → AreTooMany g pairs (length triples) n → WhyNoCase g n
  no_tacos no.NoMemory h = tt
  no_tacos (no.Refused r) (e, (tacos, are, many)) = too_many r e (many_cites g cite_of (triples ++ tacos) holds apart (omega (arith, many, length-append triples tacos))) where
    holds : (n : ℕ) (l : Listed) → slice_get (triples ++ tacos) n ≡ Some l → Holds g (cite_of l)
    holds n l t = all_hold g layers.cells pairs triples tacos (triples ++ tacos) layers.sets layers.triples are refl n (cite_of l) (mapped cite_of (triples ++ tacos) n l t)

    apart : (m n : ℕ) (l o : Listed) → m < n → slice_get (triples ++ tacos) m ≡ Some l → slice_get (triples ++ tacos) n ≡ Some o → key (cite_of l) ≢ key (cite_of o)
    apart m n l o k s t = before_apart (key (cite_of l)) (key (cite_of o)) (all_sorted g layers.cells pairs triples tacos (triples ++ tacos) layers.sets layers.triples are refl m n (cite_of l) (cite_of o) k
        (mapped cite_of (triples ++ tacos) m l s) (mapped cite_of (triples ++ tacos) n o t))

pub no_triples : (g : Sheet) (cells : List Cell) (pairs : List (ℕ × ℕ)) (n : No) → HasFewCells g → (HasManyPairs g → ⊥) → HaveFaceSets g cells → WhyNoTriples cells pairs n → WhyNoCase g n
no_triples g cells pairs no.NoMemory few short sets h = tt
no_triples g cells pairs (no.Refused r) few short sets (e, (list, some, many, witnessed)) = inr (
  few,
  inr (
    short,
    e,
    many_cites g cite_of list (λ n l t. (witnessed g sets).holds n l t)
        (λ m n l o k s t. before_apart (key (cite_of l)) (key (cite_of o)) (some.sorted m n l o k s t)) many,
  ),
)

-- ---- edges

-- the cite of two edges, of which the first or the second is folded
abbrev cite_by : Bool → Bool → ℕ → ℕ → Cite
cite_by true true e k = TacoTaco e k
cite_by true false e k = TacoEdge e k
cite_by false true e k = TacoEdge k e
cite_by false false e k = FlatEdge e k

three_same : (a b c x y z : ℕ) → a ∷ b ∷ c ∷ [] ≡ x ∷ y ∷ z ∷ [] → (a ≡ x) × (b ≡ y) × (c ≡ z)
three_same a b c x y z e = (ap (λ l. slice_index l 0) e, ap (λ l. slice_index l 1) e, ap (λ l. slice_index l 2) e)

same_edges : (a b c d : Bool) (e k m n : ℕ) → e < k → m < n → key (cite_by a b e k) ≡ key (cite_by c d m n) → (e ≡ m) × (k ≡ n)
same_edges true true true true e k m n l o q = let t = three_same 1 e k 1 m n q in (t.1, t.2)
same_edges true true true false e k m n l o q = absurd (omega (arith, (three_same 1 e k 3 m n q).0))
same_edges true true false true e k m n l o q = absurd (omega (arith, (three_same 1 e k 3 n m q).0))
same_edges true true false false e k m n l o q = absurd (omega (arith, (three_same 1 e k 5 m n q).0))
same_edges true false true true e k m n l o q = absurd (omega (arith, (three_same 3 e k 1 m n q).0))
same_edges true false true false e k m n l o q = let t = three_same 3 e k 3 m n q in (t.1, t.2)
same_edges true false false true e k m n l o q = let t = three_same 3 e k 3 n m q in absurd (omega (arith, l, o, t.1, t.2))
same_edges true false false false e k m n l o q = absurd (omega (arith, (three_same 3 e k 5 m n q).0))
same_edges false true true true e k m n l o q = absurd (omega (arith, (three_same 3 k e 1 m n q).0))
same_edges false true true false e k m n l o q = let t = three_same 3 k e 3 m n q in absurd (omega (arith, l, o, t.1, t.2))
same_edges false true false true e k m n l o q = let t = three_same 3 k e 3 n m q in (t.2, t.1)
same_edges false true false false e k m n l o q = absurd (omega (arith, (three_same 3 k e 5 m n q).0))
same_edges false false true true e k m n l o q = absurd (omega (arith, (three_same 5 e k 1 m n q).0))
same_edges false false true false e k m n l o q = absurd (omega (arith, (three_same 5 e k 3 m n q).0))
same_edges false false false true e k m n l o q = absurd (omega (arith, (three_same 5 e k 3 n m q).0))
same_edges false false false false e k m n l o q = let t = three_same 5 e k 5 m n q in (t.1, t.2)

abbrev face_cite : Bool → ℕ → ℕ → List Place → Cite
face_cite true e f at = TacoFace e f at
face_cite false e f at = FlatFace e f at

same_face : (a b : Bool) (e f m n : ℕ) (at bt : List Place) → key (face_cite a e f at) ≡ key (face_cite b m n bt) → (e ≡ m) × (f ≡ n)
same_face true true e f m n at bt q = let t = three_same 2 e f 2 m n q in (t.1, t.2)
same_face true false e f m n at bt q = absurd (omega (arith, (three_same 2 e f 4 m n q).0))
same_face false true e f m n at bt q = absurd (omega (arith, (three_same 4 e f 2 m n q).0))
same_face false false e f m n at bt q = let t = three_same 4 e f 4 m n q in (t.1, t.2)

not_same_pair : (p q : ℕ × ℕ) → IsTrue (is_before p q) → p.0 ≡ q.0 → p.1 ≡ q.1 → ⊥
not_same_pair p q b e f = pairs_apart p q b (subst (λ x. IsTrue (is_before q x)) (sym same) (subst (λ x. IsTrue (is_before x q)) same b)) where
  same : p ≡ q
  same = ap (λ x. (x, p.1)) e ∙ ap (λ x. (q.0, x)) f

module _ {pattern : Pattern} {faces : Faces} {folded : Folded} (h : IsFoldedPattern pattern faces folded) where
  abbrev g : Sheet
  g = sheet_of pattern faces folded

  not_both : {A : Type 0} (e : ℕ) → IsTrue (is_folded_edge g e) → IsTrue (is_flat_edge g e) → A
  not_both e a b = absurd (not_both_marks (mark_of g e) (folded_edge g e a).1 (flat_edge g e b).1)

  -- the four ways in which two edges constrain
  ways : (e k : ℕ) → IsTrue (constrain g e k) → ((IsTrue (is_folded_edge g e) × IsTrue (is_folded_edge g k)) × IsTrue (on_one_side g e (beside_both g e k)))
      ⊎ ((IsTrue (is_folded_edge g e) × IsTrue (is_flat_edge g k)) ⊎ ((IsTrue (is_flat_edge g e) × IsTrue (is_folded_edge g k)) ⊎ (IsTrue (is_flat_edge g e) × IsTrue (is_flat_edge g k))))
  ways e k t = elim (either_of _ (is_flat_edge g e && is_flat_edge g k) t) [
    | inl u ↦ elim (either_of _ (is_flat_edge g e && is_folded_edge g k) u) [
      | inl v ↦ elim (either_of _ (is_folded_edge g e && is_flat_edge g k) v) [
        | inl w ↦ let x = both_of (is_folded_edge g e && is_folded_edge g k) (on_one_side g e (beside_both g e k)) w in inl (both_of (is_folded_edge g e) (is_folded_edge g k) x.0, x.1)
        | inr w ↦ inr (inl (both_of (is_folded_edge g e) (is_flat_edge g k) w))
      ]
      | inr v ↦ inr (inr (inl (both_of (is_flat_edge g e) (is_folded_edge g k) v)))
    ]
    | inr u ↦ inr (inr (inr (both_of (is_flat_edge g e) (is_flat_edge g k) u)))
  ]

  pair_cite : EdgePair → Cite
  pair_cite c = cite_by (is_folded_edge g c.e) (is_folded_edge g c.e2) c.e c.e2

  pair_holds : (c : EdgePair) → c.e < c.e2 → IsTrue (constrain g c.e c.e2) → ShareSegment g c.e c.e2 → Holds g (pair_cite c)
  unfolding pair_cite
  pair_holds c l t share = by (is_folded_edge g c.e) (is_folded_edge g c.e2) refl refl (ways c.e c.e2 t) where
    taco : IsTrue (is_folded_edge g c.e) → IsTrue (is_folded_edge g c.e2) → IsTrue (is_folded_edge g c.e && is_folded_edge g c.e2)
    taco a b = rw (a, b) refl

    flats : IsTrue (is_flat_edge g c.e) → IsTrue (is_flat_edge g c.e2) → IsTrue (is_flat_edge g c.e && is_flat_edge g c.e2)
    flats a b = rw (a, b) refl

    turned : IsTrue (is_flat_edge g c.e) → IsTrue (is_folded_edge g c.e2) → ShareSegment g c.e2 c.e
    turned a b = (sharing_agrees h c.e c.e2 (flat_edge g c.e a).0 (folded_edge g c.e2 b).0 share).0

    isnt : {A : Type 0} (b : Bool) → b ≡ false → IsTrue b → A
    isnt b e u = absurd (false≢true (sym e ∙ u))

    by : (a b : Bool) → is_folded_edge g c.e ≡ a → is_folded_edge g c.e2 ≡ b
        → ((IsTrue (is_folded_edge g c.e) × IsTrue (is_folded_edge g c.e2)) × IsTrue (on_one_side g c.e (beside_both g c.e c.e2)))
        ⊎ ((IsTrue (is_folded_edge g c.e) × IsTrue (is_flat_edge g c.e2)) ⊎ ((IsTrue (is_flat_edge g c.e) × IsTrue (is_folded_edge g c.e2)) ⊎ (IsTrue (is_flat_edge g c.e) × IsTrue (is_flat_edge g c.e2))))
        → Holds g (cite_by a b c.e c.e2)
    by true true p q (inl w) = (l, taco p q, share, w.1)
    by true true p q (inr (inl w)) = not_both c.e2 q w.1
    by true true p q (inr (inr (inl w))) = not_both c.e p w.0
    by true true p q (inr (inr (inr w))) = not_both c.e p w.0
    by true false p q (inl w) = isnt (is_folded_edge g c.e2) q w.0.1
    by true false p q (inr (inl w)) = (p, w.1, share)
    by true false p q (inr (inr (inl w))) = not_both c.e p w.0
    by true false p q (inr (inr (inr w))) = not_both c.e p w.0
    by false true p q (inl w) = isnt (is_folded_edge g c.e) p w.0.0
    by false true p q (inr (inl w)) = isnt (is_folded_edge g c.e) p w.0
    by false true p q (inr (inr (inl w))) = (q, w.0, turned w.0 q)
    by false true p q (inr (inr (inr w))) = not_both c.e2 q w.1
    by false false p q (inl w) = isnt (is_folded_edge g c.e) p w.0.0
    by false false p q (inr (inl w)) = isnt (is_folded_edge g c.e) p w.0
    by false false p q (inr (inr (inl w))) = isnt (is_folded_edge g c.e2) q w.1
    by false false p q (inr (inr (inr w))) = (l, flats w.0 w.1, share)

  module _ (pairs : List (ℕ × ℕ)) (triples : List Listed) (layers : AreLayers g pairs triples) where
    pub no_edge_pairs : (n : No) → WhyNoEdgePairs g n → WhyNoCase g n
    unfolding pair_cite
    no_edge_pairs no.NoMemory e = tt
    no_edge_pairs (no.Refused r) (e, (list, are, many)) = too_many g pairs triples layers r e (many_cites g pair_cite list
        (λ n c t. let x = are.each n c t in pair_holds c x.order x.constrained x.shares)
        (λ m n c d l s t q. let x = are.each m c s in let y = are.each n d t in
        let z = same_edges (is_folded_edge g c.e) (is_folded_edge g c.e2) (is_folded_edge g d.e) (is_folded_edge g d.e2) c.e c.e2 d.e d.e2 x.order y.order q in
        not_same_pair (c.e, c.e2) (d.e, d.e2) (are.sorted m n c d l s t) z.0 z.1) many)

    side_cite : EdgeFace → Cite
    side_cite c = face_cite (is_folded_edge g c.e) c.e c.face c.at

    face_holds : (c : EdgeFace) → IsTrue (is_inner_edge g c.e) → HasEdgeInside g c.face c.e → Holds g (side_cite c)
    unfolding side_cite
    face_holds c t inside = by (is_folded_edge g c.e) refl (either_of (is_folded_edge g c.e) (is_flat_edge g c.e) t) where
      by : (a : Bool) → is_folded_edge g c.e ≡ a → IsTrue (is_folded_edge g c.e) ⊎ IsTrue (is_flat_edge g c.e) → Holds g (face_cite a c.e c.face c.at)
      by true p w = (p, inside)
      by false p (inl w) = absurd (false≢true (sym p ∙ w))
      by false p (inr w) = (w, inside)

    pub no_edge_faces : (n : No) → AreNoEdgeFaces g n → WhyNoCase g n
    unfolding side_cite
    no_edge_faces no.NoMemory e = tt
    no_edge_faces (no.Refused r) (e, (list, are, many)) = too_many g pairs triples layers r e (many_cites g side_cite list
        (λ n c t. let x = are.each n c t in face_holds c x.inner x.inside)
        (λ m n c d l s t q. let z = same_face (is_folded_edge g c.e) (is_folded_edge g d.e) c.e c.face d.e d.face c.at d.at q in
        not_same_pair (c.e, c.face) (d.e, d.face) (are.sorted m n c d l s t) z.0 z.1) many)
