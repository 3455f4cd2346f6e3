-- It can't be that no list is of all constraints that hold.
use Rattle.std.proofs.Common.{◌≡◌, ℕ, ◌+◌, ◌<◌, ◌&&◌, true, List, [], ◌∷◌, length, IsTrue, refl, sym, ◌∙◌, arith}
use Rattle.std.specs.List.{All, Contains, list_all}
use Rattle.ff_basics.proofs.Lists.{place_of_member}
use Rattle.ff_basics.proofs.Tests.{both_of}
use Rattle.ff_whole.specs.declared.places.Place.{Place}
use Rattle.ff_types.specs.declared.patterns.Pattern.{Pattern}
use Rattle.ff_types.specs.declared.faces.Faces.{Faces}
use Rattle.ff_types.specs.declared.faces.Folded.{Folded}
use Rattle.ff_types.specs.declared.cites.Cite.{Cite}
use Rattle.ff_types.specs.declared.cites.Cite.TheVariants.{Transitivity, TacoTaco, TacoFace, TacoEdge, FlatFace, FlatEdge}
use Rattle.ff_types.specs.Faces.{ring_at, list_before}
use Rattle.ff_types.specs.Sheets.{Sheet, sheet_of, is_face}
use Rattle.ff_types.specs.Inside.{steps}
use Rattle.ff_types.specs.Witnesses.{witness_edge, witness_face}
use Rattle.ff_types.specs.Cites.{Witnessed, is_folded_edge, is_flat_edge}
use Rattle.ff_types.specs.Cases.{key}
use Rattle.ff_types.specs.FoldedPatterns.{IsFoldedPattern}
use Rattle.ff_borders.proofs.Tests.{below_from}
use Rattle.ff_borders.proofs.TwoSides.{folded_edge, flat_edge}
use Rattle.ff_answers.specs.Layers.{AreAllCites, HasCites}
use Rattle.ff_answers.proofs.Finite.{IsWord, IsOrder, in_order, AreInRow, is_at, in_row_at}
use Rattle.ff_answers.proofs.Keys.{keys_compare, keys_later}
use Rattle.ff_answers.proofs.Places.{some_witness}

abbrev Before : Cite → Cite → Type 0
Before c d = IsTrue (list_before (key c) (key d))

abbrev Same : Cite → Cite → Type 0
Same c d = key c ≡ key d

module _ (g : Sheet) where
  cite_order : IsOrder (Witnessed g) Before Same
  cite_order = record {
    compare = λ c d i j k. k (keys_compare (key c) (key d));
    later = λ c d e i j k a b n. n (keys_later (key c) (key d) (key e) a b);
    self = λ c i. refl;
    join = λ c d e i j k a b. a ∙ b;
  }

  -- more than each number in a key
  abbrev most : ℕ
  most = 6 + (length g.rings + length g.edges)

  as_face : (f : ℕ) → f < length g.rings → f < most
  as_face f l = omega (arith, l)

  as_edge : (e : ℕ) → e < length g.edges → e < most
  as_edge e l = omega (arith, l)

  family : (n : ℕ) → n < 6 → n < most
  family n l = omega (arith, l)

  face_of : (f : ℕ) (at : List Place) → IsTrue (witness_face g at f) → f < length g.rings
  face_of f at t = below_from f (length g.rings) (both_of (is_face g f)
      (list_all (witness_edge g f at) (steps (ring_at g.rings f))) t).0

  faces_of_three : (f h k : ℕ) (at : List Place) → IsTrue (list_all (witness_face g at) (f ∷ h ∷ k ∷ []))
      → (f < most) × (h < most) × (k < most)
  faces_of_three f h k at t =
      let w = witness_face g at in
      let a = both_of (w f) (w h && (w k && true)) t in
      let b = both_of (w h) (w k && true) a.1 in
      let d = both_of (w k) true b.1 in
      (as_face f (face_of f at a.0), as_face h (face_of h at b.0), as_face k (face_of k at d.0))

  face_of_one : (f : ℕ) (at : List Place) → IsTrue (list_all (witness_face g at) (f ∷ [])) → f < most
  face_of_one f at t = as_face f (face_of f at (both_of (witness_face g at f) true t).0)

  of_folded : (e : ℕ) → IsTrue (is_folded_edge g e) → e < most
  of_folded e t = as_edge e (folded_edge g e t).0

  of_flat : (e : ℕ) → IsTrue (is_flat_edge g e) → e < most
  of_flat e t = as_edge e (flat_edge g e t).0

  word : (c : Cite) → Witnessed g c → IsWord most 4 (key c)
  word (Transitivity f h k at) w = let t = faces_of_three f h k at w.2.witness in
      (family 0 (omega arith), (t.0, (t.1, (t.2, tt))))
  word (TacoTaco e k) w =
      let b = both_of (is_folded_edge g e) (is_folded_edge g k) w.1 in
      (family 1 (omega arith), (of_folded e b.0, (of_folded k b.1, tt)))
  word (TacoFace e face at) w = (family 2 (omega arith), (of_folded e w.0, (face_of_one face at w.2.witness, tt)))
  word (TacoEdge e flat) w = (family 3 (omega arith), (of_folded e w.0, (of_flat flat w.1, tt)))
  word (FlatFace flat face at) w = (family 4 (omega arith), (of_flat flat w.0, (face_of_one face at w.2.witness, tt)))
  word (FlatEdge flat flat2) w =
      let b = both_of (is_flat_edge g flat) (is_flat_edge g flat2) w.1 in
      (family 5 (omega arith), (of_flat flat b.0, (of_flat flat2 b.1, tt)))

module _ {pattern : Pattern} {faces : Faces} {folded : Folded} (h : IsFoldedPattern pattern faces folded) where
  abbrev sheet : Sheet
  sheet = sheet_of pattern faces folded

  are_cites : (cites : List Cite) → All (Witnessed sheet) cites → AreInRow Before cites
      → ((c : Cite) → Witnessed sheet c → (d : Cite) × Contains cites d × Same c d)
      → AreAllCites sheet cites
  are_cites cites all row has = record {
    witnessed = λ n c e. is_at (Witnessed sheet) cites all n c e;
    complete = λ c holds.
        let w = some_witness h c holds in
        let t = has w.0 w.2 in
        let n = place_of_member cites t.0 t.1 in
        (n.0, t.0, n.1, sym t.2 ∙ w.1);
    sorted = λ m n c d l e f. in_row_at Before cites row m n c d l e f;
  }

  pub some_cites : HasCites sheet
  some_cites k = in_order (Witnessed sheet) Before Same (cite_order sheet) (most sheet) 4 key (word sheet) (λ c d i j e. e)
      (λ cites all row has. k cites (are_cites cites all row has))
