-- The darts of the edges so far, in a list, and all of them in order.
use Rattle.std.proofs.Common.{◌≡◌, ◌⊎◌, inl, inr, ℕ, ◌+◌, ◌<◌, ◌≤◌, List, [], ◌∷◌, ◌++◌, length, Bool, true, false, ◌||◌, ◌&&◌, ◌==◌, IsTrue, arith, refl, sym, ◌∙◌, subst}
use Rattle.std.specs.List.{Contains, dedup}
use Rattle.std.specs.List.Sorted.{IsPermutation, IsSorted}
use Rattle.std.specs.Cmp.{IsEquivalence}
use Rattle.std.specs.Ordering.{eq_by_cmp}
use Rattle.std.proofs.lemmas.Cmp.{eq_by_cmp_equiv}
use Rattle.std.proofs.lemmas.List.{get_or_default, length_push}
use Rattle.std.proofs.lemmas.List.Elements.{Contains-get_or, Contains-push, Contains-append_left, Contains-push_cases}
use Rattle.std.proofs.lemmas.List.Sorted.{Contains-permutation, IsPermutation-sym, length_permutation}
use Rattle.std.proofs.lemmas.List.Kept.{Contains-dedup, Contains-from_dedup, IsStrictlySortedBy-dedup}
use Rattle.ff_basics.proofs.Tests.{equal_of}
use Rattle.ff_basics.proofs.Numbers.{last_or, same_number}
use Rattle.ff_types.specs.declared.patterns.EdgeEnds.{EdgeEnds}
use Rattle.ff_types.specs.Patterns.{edge_at}
use Rattle.ff_types.specs.Drawings.{joins, joined}
use Rattle.ff_types.proofs.PlainSheets.{joined_at, some_joins, joins_itself}
use Rattle.ff_types.proofs.ComputedFaces.{joins_is}
use Rattle.ff_drawn.specs.contracts.darts.DartOrd.TheImpl.Laws.{total-law}
use Rattle.ff_drawn.specs.declared.darts.Dart.{Dart}
use Rattle.ff_drawn.specs.Darts.{AreDarts, HoldDarts, dart_at}
use Rattle.ff_drawn.proofs.DartOrder.{dart_cmp, dart_cmp-equal, sorted_by_place}

-- the darts of the edge with a number
abbrev there_at : List EdgeEnds → ℕ → Dart
there_at edges k = record { tail = (edge_at edges k).a; head = (edge_at edges k).b }

abbrev back_at : List EdgeEnds → ℕ → Dart
back_at edges k = record { tail = (edge_at edges k).b; head = (edge_at edges k).a }

-- the darts along the first i edges are in the list, those back along the first j, and only such
pub record HasDarts (edges : List EdgeEnds) (i j : ℕ) (darts : List Dart) : Type 0 where
  pub first : (k : ℕ) → k < i → Contains darts (record { tail = (edge_at edges k).a; head = (edge_at edges k).b })
  pub second : (k : ℕ) → k < j → Contains darts (record { tail = (edge_at edges k).b; head = (edge_at edges k).a })
  pub only : (q : Dart) → Contains darts q → IsTrue (joined edges q.tail q.head)
  pub few : length darts ≤ i + j

pub no_darts : (edges : List EdgeEnds) → HasDarts edges 0 0 []
no_darts edges = record {
  first = λ k l. absurd (omega (arith, l));
  second = λ k l. absurd (omega (arith, l));
  only = λ q m. let l = m.1 in absurd (omega (arith, l));
  few = omega arith;
}

pub back_joins : (e : EdgeEnds) → IsTrue (joins e.b e.a e)
back_joins e = rw (same_number e.a, same_number e.b) (last_true ((e.a == e.b) && (e.b == e.a))) where
  last_true : (b : Bool) → IsTrue (b || true)
  last_true true = refl
  last_true false = refl

kept : (darts : List Dart) (p r : Dart) → Contains darts r → Contains (darts ++ p ∷ []) r
kept darts p r h = Contains-append_left darts (p ∷ []) r h

module _ (edges : List EdgeEnds) (i j : ℕ) (darts : List Dart) (h : HasDarts edges i j darts) where
  pub more_there : i < length edges → HasDarts edges (i + 1) j (darts ++ there_at edges i ∷ [])
  more_there l = record {
    first = λ k m. elim (last_or k i m) [
      | inl n ↦ kept darts _ _ (h.first k n)
      | inr e ↦ subst (λ (j : ℕ). Contains (darts ++ there_at edges i ∷ []) (there_at edges j)) (sym e) (Contains-push darts (there_at edges i))
    ];
    second = λ k m. kept darts _ _ (h.second k m);
    only = λ q m. elim (Contains-push_cases darts (there_at edges i) q m) [
      | inr e ↦ subst (λ (p : Dart). IsTrue (joined edges p.tail p.head)) e (joined_at edges i _ _ l (joins_itself (edge_at edges i).a (edge_at edges i).b))
      | inl o ↦ h.only q o
    ];
    few = (let n = h.few in let a = length_push darts (there_at edges i) in omega (arith, n, a));
  }

  pub more_back : j < length edges → HasDarts edges i (j + 1) (darts ++ back_at edges j ∷ [])
  more_back l = record {
    first = λ k m. kept darts _ _ (h.first k m);
    second = λ k m. elim (last_or k j m) [
      | inl n ↦ kept darts _ _ (h.second k n)
      | inr e ↦ subst (λ (i : ℕ). Contains (darts ++ back_at edges j ∷ []) (back_at edges i)) (sym e) (Contains-push darts (back_at edges j))
    ];
    only = λ q m. elim (Contains-push_cases darts (back_at edges j) q m) [
      | inr e ↦ subst (λ (p : Dart). IsTrue (joined edges p.tail p.head)) e (joined_at edges j _ _ l (back_joins (edge_at edges j)))
      | inl o ↦ h.only q o
    ];
    few = (let n = h.few in let a = length_push darts (back_at edges j) in omega (arith, n, a));
  }

-- all of them
pub hold_darts : (edges : List EdgeEnds) (i j : ℕ) (darts : List Dart) → HasDarts edges i j darts → length edges ≤ i → i ≤ length edges → length edges ≤ j → j ≤ length edges → HoldDarts edges darts
hold_darts edges i j darts h l up m high = record {
  few = (let n = h.few in omega (arith, n, up, high));
  only = h.only;
  has = λ u v s. there u v (some_joins edges u v s);
}
  where
    there : (u v : ℕ) → (e : ℕ) × (e < length edges) × IsTrue (joins u v (edge_at edges e)) → Contains darts (record { tail = u; head = v })
    there u v s = let o = s.1 in elim (joins_is (edge_at edges s.0) u v s.2) [
      | inl e ↦ subst (Contains darts) (λ i. record { tail = e.0 i; head = e.1 i }) (h.first s.0 (omega (arith, l, o)))
      | inr e ↦ subst (Contains darts) (λ i. record { tail = e.1 i; head = e.0 i }) (h.second s.0 (omega (arith, m, o)))
    ]

-- ---- in order

-- a test that agrees with the order tells what is the same
module _ (same : Dart → Dart → Bool) (ties : (p q : Dart) → same p q ≡ eq_by_cmp dart_cmp p q) where
  equivalence : IsEquivalence same
  equivalence = let e = eq_by_cmp_equiv total-law in record {
    refl = λ p. ties p p ∙ e.refl p;
    symm = λ p q. ties p q ∙ e.symm p q ∙ sym (ties q p);
    congr = λ p q r h. ties p r ∙ e.congr p q r (sym (ties p q) ∙ h) ∙ sym (ties q r);
  }

  alike : (p q : Dart) → same p q ≡ true → p ≡ q
  alike p q h = dart_cmp-equal p q (equal_of (dart_cmp p q) (sym (ties p q) ∙ h))

  in_order : (edges : List EdgeEnds) (list sorted : List Dart) → HoldDarts edges list → IsPermutation list sorted → IsSorted dart_cmp sorted → length (dedup same sorted) ≤ length sorted → AreDarts edges (dedup same sorted)
  in_order edges list sorted h p s few = record {
    sorted = record { rises = sorted_by_place (dedup same sorted) (IsStrictlySortedBy-dedup total-law ties sorted s) };
    along = λ d l. h.only (dart_at (dedup same sorted) d) (Contains-permutation sorted list _ (IsPermutation-sym list sorted p) (Contains-from_dedup same sorted _ (Contains-get_or (dedup same sorted) d (record { tail = 0; head = 0 }) l)));
    few = (let n = h.few in let m = length_permutation list sorted p in omega (arith, n, m, few));
    all = λ u v j. let m = Contains-dedup equivalence alike sorted _ (Contains-permutation list sorted _ p (h.has u v j)) in
        (m.0, m.1, get_or_default (dedup same sorted) m.0 (record { tail = 0; head = 0 }) (record { tail = u; head = v }) m.1 ∙ m.2);
  }

  pub darts_from : (edges : List EdgeEnds) (list sorted new : List Dart) → HoldDarts edges list → IsPermutation list sorted → IsSorted dart_cmp sorted → new ≡ dedup same sorted → length new ≤ length sorted → AreDarts edges new
  darts_from edges list sorted new h p s e few = subst (AreDarts edges) (sym e) (in_order edges list sorted h p s (subst (λ (l : List Dart). length l ≤ length sorted) e few))
