-- A constraint that holds has places that witness it: a common place, as often as the cite has places.
use Rattle.std.proofs.Common.{◌≡◌, ℕ, ◌&&◌, Bool, true, List, [], ◌∷◌, IsTrue, refl, pos, ◌<ℤ◌, ◌≤ℤ◌, ℤ, arith}
use Rattle.std.specs.Prelude.{int_lt, int_le}
use Rattle.std.specs.List.{All, list_all, list_any}
use Rattle.std.proofs.lemmas.List.Elements.{All-nil, All-cons}
use Rattle.ff_basics.proofs.Lists.{all_at, all_from}
use Rattle.ff_basics.proofs.Tests.{both_of, lt_from, of_both, of_first, to_le}
use Rattle.ff_whole.proofs.Signs.{linear}
use Rattle.ff_whole.specs.declared.places.Place.{Place}
use Rattle.ff_whole.specs.Places.{IsPlace}
use Rattle.ff_types.specs.declared.patterns.Pattern.{Pattern}
use Rattle.ff_types.specs.declared.faces.Faces.{Faces}
use Rattle.ff_types.specs.declared.faces.Folded.{Folded}
use Rattle.ff_types.specs.declared.cites.Cite.{Cite}
use Rattle.ff_types.specs.declared.cites.Cite.TheVariants.{Transitivity, TacoTaco, TacoFace, TacoEdge, FlatFace, FlatEdge}
use Rattle.ff_types.specs.Faces.{ring_at}
use Rattle.ff_types.specs.Sheets.{Sheet, sheet_of, is_face}
use Rattle.ff_types.specs.Inside.{steps, depth, is_inside, HaveCommon}
use Rattle.ff_types.specs.Borders.{is_on}
use Rattle.ff_types.specs.Witnesses.{witness_edge, witness_face, IsWitness}
use Rattle.ff_types.specs.Cites.{Holds, Witnessed}
use Rattle.ff_types.specs.Cases.{key}
use Rattle.ff_types.specs.FoldedPatterns.{IsFoldedPattern}
use Rattle.ff_borders.specs.Running.{IsOnInside}
use Rattle.ff_borders.proofs.Running.{inside_by_one_place}
use Rattle.ff_borders.proofs.TwoSides.{folded_edge, flat_edge}

abbrev twice : Place → List Place
twice s = s ∷ s ∷ []

abbrev thrice : Place → List Place
thrice s = s ∷ s ∷ s ∷ []

are_two : (s : Place) → IsPlace s → All IsPlace (twice s)
are_two s p = All-cons IsPlace s (s ∷ []) p (All-cons IsPlace s [] p (All-nil IsPlace))

two_tests : (a : Bool) → IsTrue a → IsTrue (a && (a && true))
two_tests a t = of_both a (a && true) t (of_both a true t refl)

three_tests : (a : Bool) → IsTrue a → IsTrue (a && (a && (a && true)))
three_tests a t = of_both a (a && (a && true)) t (two_tests a t)

module _ (g : Sheet) (f : ℕ) (s : Place) where
  not_outside : (step : ℕ × ℕ) → IsTrue (int_lt (pos 0) (depth g f s step)) → IsTrue (int_le (pos 0) (depth g f s step))
  not_outside step t = to_le (depth g f s step) (weak (depth g f s step) (lt_from (depth g f s step) t)) where
    weak : (z : ℤ) → pos 0 <ℤ z → pos 0 ≤ℤ z
    weak z h = omega (arith, linear)

  by_steps : (places : List Place) → ((step : ℕ × ℕ) → IsTrue (int_lt (pos 0) (depth g f s step))
      → IsTrue (witness_edge g f places step))
      → IsTrue (is_inside g f s) → IsTrue (witness_face g places f)
  by_steps places each t =
      let b = both_of (is_face g f) (list_all (λ step. int_lt (pos 0) (depth g f s step)) (steps (ring_at g.rings f))) t in
      of_both (is_face g f) (list_all (witness_edge g f places) (steps (ring_at g.rings f))) b.0
      (all_from (witness_edge g f places) (steps (ring_at g.rings f))
      (λ step m. each step (all_at (λ step. int_lt (pos 0) (depth g f s step)) (steps (ring_at g.rings f)) b.1 step m)))

  of_two : IsTrue (is_inside g f s) → IsTrue (witness_face g (twice s) f)
  of_two t = by_steps (twice s) (λ step u. of_both (list_all (λ p. int_le (pos 0) (depth g f p step)) (twice s))
      (list_any (λ p. int_lt (pos 0) (depth g f p step)) (twice s))
      (two_tests (int_le (pos 0) (depth g f s step)) (not_outside step u))
      (of_first (int_lt (pos 0) (depth g f s step)) (list_any (λ p. int_lt (pos 0) (depth g f p step)) (s ∷ [])) u)) t

  of_three : IsTrue (is_inside g f s) → IsTrue (witness_face g (thrice s) f)
  of_three t = by_steps (thrice s) (λ step u. of_both (list_all (λ p. int_le (pos 0) (depth g f p step)) (thrice s))
      (list_any (λ p. int_lt (pos 0) (depth g f p step)) (thrice s))
      (three_tests (int_le (pos 0) (depth g f s step)) (not_outside step u))
      (of_first (int_lt (pos 0) (depth g f s step))
      (list_any (λ p. int_lt (pos 0) (depth g f p step)) (twice s)) u)) t

common_witness : (g : Sheet) (f h k : ℕ) (c : HaveCommon g (f ∷ h ∷ k ∷ [])) → IsWitness g (f ∷ h ∷ k ∷ []) (thrice c.at)
common_witness g f h k c =
    let s = c.at in
    let a = both_of (is_inside g f s) (is_inside g h s && (is_inside g k s && true)) c.inside in
    let b = both_of (is_inside g h s) (is_inside g k s && true) a.1 in
    let d = both_of (is_inside g k s) true b.1 in
    let w = witness_face g (thrice s) in
    record {
      are_places = All-cons IsPlace s (twice s) c.place (are_two s c.place);
      witness = of_both (w f) (w h && (w k && true)) (of_three g f s a.0)
          (of_both (w h) (w k && true) (of_three g h s b.0) (of_both (w k) true (of_three g k s d.0) refl));
    }

module _ {pattern : Pattern} {faces : Faces} {folded : Folded} (h : IsFoldedPattern pattern faces folded) where
  abbrev g : Sheet
  g = sheet_of pattern faces folded

  inner_witness : (f e : ℕ) (s : Place) → IsOnInside g f e s
      → IsTrue (list_all (is_on g e) (twice s)) × IsWitness g (f ∷ []) (twice s)
  inner_witness f e s i = (
    two_tests (is_on g e s) i.on,
    record {
      are_places = are_two s i.place;
      witness = of_both (witness_face g (twice s) f) true (of_two g f s i.inside) refl;
    },
  )

  -- a cite with the same key that names such places
  pub some_witness : (c : Cite) → Holds g c → (d : Cite) × (key d ≡ key c) × Witnessed g d
  some_witness (Transitivity f j k at) w = (Transitivity f j k (thrice w.2.at), refl, (w.0, w.1, common_witness g f j k w.2))
  some_witness (TacoTaco e k) w = (TacoTaco e k, refl, w)
  some_witness (TacoFace e face at) w =
      let s = (inside_by_one_place h face e (folded_edge g e w.0).0).0 w.1 in
      let i = inner_witness face e s.0 s.1 in
      (TacoFace e face (twice s.0), refl, (w.0, i.0, i.1))
  some_witness (TacoEdge e flat) w = (TacoEdge e flat, refl, w)
  some_witness (FlatFace flat face at) w =
      let s = (inside_by_one_place h face flat (flat_edge g flat w.0).0).0 w.1 in
      let i = inner_witness face flat s.0 s.1 in
      (FlatFace flat face (twice s.0), refl, (w.0, i.0, i.1))
  some_witness (FlatEdge flat flat2) w = (FlatEdge flat flat2, refl, w)
