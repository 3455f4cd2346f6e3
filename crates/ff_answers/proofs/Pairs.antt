-- It can't be that no list is of all overlapping pairs.
use Rattle.std.proofs.Common.{◌≡◌, ◌⊎◌, inl, inr, ℕ, ◌<◌, ◌==◌, ◌&&◌, true, List, [], ◌∷◌, length, nat_lt, Some, IsTrue, refl, sym, ap, ◌∙◌, arith}
use Rattle.std.specs.List.{All, Contains, list_all}
use Rattle.std.proofs.lemmas.Bool.{lt-ltb, eq-eqb}
use Rattle.ff_basics.proofs.Lists.{place_of_member}
use Rattle.ff_basics.proofs.Tests.{both_of, of_both, of_first, of_second}
use Rattle.ff_basics.proofs.Numbers.{which}
use Rattle.ff_whole.specs.declared.places.Place.{Place}
use Rattle.ff_types.specs.Pairs.{is_before}
use Rattle.ff_types.specs.Sheets.{Sheet, is_face}
use Rattle.ff_types.specs.Inside.{is_inside, Overlap}
use Rattle.ff_types.proofs.SortedPairs.{before_is}
use Rattle.ff_borders.proofs.Tests.{below_from}
use Rattle.ff_answers.specs.Layers.{AreAllPairs, HasPairs}
use Rattle.ff_answers.proofs.Finite.{IsWord, IsOrder, in_order, AreInRow, is_at, in_row_at}

abbrev Before : ℕ × ℕ → ℕ × ℕ → Type 0
Before p q = IsTrue (is_before p q)

first_before : (p q : ℕ × ℕ) → p.0 < q.0 → Before p q
first_before p q l = of_first (nat_lt p.0 q.0) ((p.0 == q.0) && nat_lt p.1 q.1) (lt-ltb p.0 q.0 l)

then_before : (p q : ℕ × ℕ) → p.0 ≡ q.0 → p.1 < q.1 → Before p q
then_before p q e l = of_second (nat_lt p.0 q.0) ((p.0 == q.0) && nat_lt p.1 q.1)
    (of_both (p.0 == q.0) (nat_lt p.1 q.1) (eq-eqb p.0 q.0 e) (lt-ltb p.1 q.1 l))

same_pair : (p q : ℕ × ℕ) → p.0 ≡ q.0 → p.1 ≡ q.1 → p ≡ q
same_pair p q e f = ap (λ x. (x, p.1)) e ∙ ap (λ x. (q.0, x)) f

pairs_compare : (p q : ℕ × ℕ) → Before p q ⊎ (Before q p ⊎ (p ≡ q))
pairs_compare p q = elim (which p.0 q.0) [
  | inl l ↦ inl (first_before p q l)
  | inr (inl l) ↦ inr (inl (first_before q p l))
  | inr (inr e) ↦ elim (which p.1 q.1) [
    | inl l ↦ inl (then_before p q e l)
    | inr (inl l) ↦ inr (inl (then_before q p (sym e) l))
    | inr (inr f) ↦ inr (inr (same_pair p q e f))
  ]
]

pairs_later : (p q r : ℕ × ℕ) → Before p q → Before q r → Before p r
pairs_later p q r a b = elim (before_is p q a) [
  | inl l ↦ elim (before_is q r b) [
    | inl m ↦ first_before p r (omega (arith, l, m))
    | inr m ↦ first_before p r (omega (arith, l, m.0))
  ]
  | inr l ↦ elim (before_is q r b) [
    | inl m ↦ first_before p r (omega (arith, l.0, m))
    | inr m ↦ then_before p r (l.0 ∙ m.0) (omega (arith, l.1, m.1))
  ]
]

module _ (g : Sheet) where
  abbrev Is : ℕ × ℕ → Type 0
  Is p = (p.0 < p.1) × Overlap g p.0 p.1

  pair_order : IsOrder Is Before (λ p q. p ≡ q)
  pair_order = record {
    compare = λ p q i j k. k (pairs_compare p q);
    later = λ p q r i j k a b n. n (pairs_later p q r a b);
    self = λ p i. refl;
    join = λ p q r i j k a b. a ∙ b;
  }

  abbrev code : ℕ × ℕ → List ℕ
  code p = p.0 ∷ p.1 ∷ []

  code_one : (p q : ℕ × ℕ) → code p ≡ code q → p ≡ q
  code_one p q e = same_pair p q (first p.0 q.0 p.1 q.1 e) (second p.0 q.0 p.1 q.1 e) where
    first : (a b c d : ℕ) → a ∷ c ∷ [] ≡ b ∷ d ∷ [] → a ≡ b
    first a b c d e = cc

    second : (a b c d : ℕ) → a ∷ c ∷ [] ≡ b ∷ d ∷ [] → c ≡ d
    second a b c d e = cc

  face_of : (f : ℕ) (s : Place) → IsTrue (is_inside g f s) → f < length g.rings
  face_of f s t = below_from f (length g.rings) (both_of (is_face g f) _ t).0

  word : (p : ℕ × ℕ) → Is p → IsWord (length g.rings) 2 (code p)
  word p (l, o) =
      let s = o.common.at in
      let a = both_of (is_inside g p.0 s) (list_all (λ f. is_inside g f s) (p.1 ∷ [])) o.common.inside in
      let b = both_of (is_inside g p.1 s) true a.1 in
      (face_of p.0 s a.0, (face_of p.1 s b.0, tt))

  are_pairs : (pairs : List (ℕ × ℕ)) → All Is pairs → AreInRow Before pairs
      → ((p : ℕ × ℕ) → Is p → (q : ℕ × ℕ) × Contains pairs q × (p ≡ q)) → AreAllPairs g pairs
  are_pairs pairs all row has = record {
    sorted = record {
      rising = λ n p e. (is_at Is pairs all n p e).0;
      sorted = λ m n p q l e f. in_row_at Before pairs row m n p q l e f;
    };
    are = λ f h l. (
      λ o. (let t = has (f, h) (l, o) in let n = place_of_member pairs t.0 t.1 in (n.0, n.1 ∙ ap Some (sym t.2))),
      λ (n, e). (is_at Is pairs all n (f, h) e).1,
    );
  }

  pub some_pairs : HasPairs g
  some_pairs k = in_order Is Before (λ p q. p ≡ q) pair_order (length g.rings) 2 code word (λ p q i j e. code_one p q e)
      (λ pairs all row has. k pairs (are_pairs pairs all row has))
