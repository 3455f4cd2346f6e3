-- Whether four faces lie on one side of a way, two by two.
use Rattle.std.proofs.Common.{ℕ, ◌⊎◌, ◌↔◌, inl, inr, refl, Bool, true, false, ◌||◌, List, [], ◌∷◌, IsTrue}
use Rattle.std.specs.List.{list_all}
use Rattle.std.proofs.lemmas.Bool.{false≢true}
use Rattle.ff_basics.proofs.Tests.{both_of, either_of, of_both, of_first, of_second}
use Rattle.ff_whole.specs.declared.points.Pt.{Pt}
use Rattle.ff_types.specs.Faces.{ring_at}
use Rattle.ff_edges.specs.Ways.{are_left, are_right, AreLeft, AreRight}

abbrev pub one_side : List Pt → List (List ℕ) → Pt → Pt → ℕ → ℕ → ℕ → ℕ → Bool
one_side points rings p q a b c d = list_all (λ f. are_left points p q (ring_at rings f)) (a ∷ b ∷ c ∷ d ∷ [])
    || list_all (λ f. are_right points p q (ring_at rings f)) (a ∷ b ∷ c ∷ d ∷ [])

all_four : (test : ℕ → Bool) (a b c d : ℕ) → IsTrue (test a) × IsTrue (test b) → IsTrue (test c) × IsTrue (test d) → IsTrue (list_all test (a ∷ b ∷ c ∷ d ∷ []))
all_four test a b c d x y = of_both (test a) _ x.0 (of_both (test b) _ x.1 (of_both (test c) _ y.0 (of_both (test d) true y.1 refl)))

each_four : (test : ℕ → Bool) (a b c d : ℕ) → IsTrue (list_all test (a ∷ b ∷ c ∷ d ∷ [])) → (IsTrue (test a) × IsTrue (test b)) × (IsTrue (test c) × IsTrue (test d))
each_four test a b c d t =
    let u = both_of (test a) _ t in
    let v = both_of (test b) _ u.1 in
    let w = both_of (test c) _ v.1 in
    ((u.0, v.0), (w.0, (both_of (test d) true w.1).0))

module _ (points : List Pt) (rings : List (List ℕ)) (p q : Pt) where
  pub from_left : (a b c d : ℕ) → AreLeft points rings p q a b → AreLeft points rings p q c d → IsTrue (one_side points rings p q a b c d)
  from_left a b c d x y = of_first _ _ (all_four (λ f. are_left points p q (ring_at rings f)) a b c d x y)

  pub from_right : (a b c d : ℕ) → AreRight points rings p q a b → AreRight points rings p q c d → IsTrue (one_side points rings p q a b c d)
  from_right a b c d x y = of_second _ _ (all_four (λ f. are_right points p q (ring_at rings f)) a b c d x y)

  pub on_side : (a b c d : ℕ) → IsTrue (one_side points rings p q a b c d) → (AreLeft points rings p q a b × AreLeft points rings p q c d) ⊎ (AreRight points rings p q a b × AreRight points rings p q c d)
  on_side a b c d t = elim (either_of _ _ t) [
    | inl u ↦ inl (each_four (λ f. are_left points p q (ring_at rings f)) a b c d u)
    | inr u ↦ inr (each_four (λ f. are_right points p q (ring_at rings f)) a b c d u)
  ]

-- what the two tests tell
pub by_tests : (points : List Pt) (rings : List (List ℕ)) (p q : Pt) (a b c d : ℕ) (x y : Bool)
    → IsTrue x ↔ (AreLeft points rings p q a b × AreLeft points rings p q c d)
    → IsTrue y ↔ (AreRight points rings p q a b × AreRight points rings p q c d)
    → IsTrue (x || y) ↔ IsTrue (one_side points rings p q a b c d)
by_tests points rings p q a b c d x y u v = (there, back) where
  there : IsTrue (x || y) → IsTrue (one_side points rings p q a b c d)
  there t = elim (either_of x y t) [
    | inl s ↦ (let r = u.0 s in from_left points rings p q a b c d r.0 r.1)
    | inr s ↦ (let r = v.0 s in from_right points rings p q a b c d r.0 r.1)
  ]

  back : IsTrue (one_side points rings p q a b c d) → IsTrue (x || y)
  back t = elim (on_side points rings p q a b c d t) [ inl s ↦ of_first x y (u.1 s) | inr s ↦ of_second x y (v.1 s) ]
