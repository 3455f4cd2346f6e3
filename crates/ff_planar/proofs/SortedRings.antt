-- Two lists of rings in order, with the same members, are one.
use Rattle.std.proofs.Common.{◌≡◌, ◌⊎◌, inl, inr, ℕ, zero, suc, ◌+◌, ◌<◌, ◌==◌, ◌&&◌, ◌||◌, Bool, true, false, nat_lt, IsTrue, List, [], ◌∷◌, length, arith, refl, sym, ap, ◌∙◌, subst}
use Rattle.std.proofs.lemmas.Bool.{false≢true, ltb-true, lt-ltb, eqb-true}
use Rattle.ff_basics.proofs.Tests.{both_of, either_of, of_both, of_first, of_second}
use Rattle.ff_basics.proofs.Numbers.{last_or, same_number, which}
use Rattle.ff_types.specs.Faces.{ring_at, list_before}
use Rattle.ff_planar.proofs.SameRings.{not_before_itself}

equal_is : (x y : ℕ) → x ≡ y → IsTrue (x == y)
equal_is x y e = ap (λ t. t == y) e ∙ same_number y

pub before_trans : (p q r : List ℕ) → IsTrue (list_before p q) → IsTrue (list_before q r) → IsTrue (list_before p r)
before_trans [] [] r h k = absurd (false≢true h)
before_trans [] (y ∷ q) [] h k = absurd (false≢true k)
before_trans [] (y ∷ q) (z ∷ r) h k = refl
before_trans (x ∷ p) [] r h k = absurd (false≢true h)
before_trans (x ∷ p) (y ∷ q) [] h k = absurd (false≢true k)
before_trans (x ∷ p) (y ∷ q) (z ∷ r) h k = elim (either_of (nat_lt x y) ((x == y) && list_before p q) h) [
  | inl a ↦ elim (either_of (nat_lt y z) ((y == z) && list_before q r) k) [
    | inl b ↦ let l : x < y = ltb-true x y a in let m : y < z = ltb-true y z b in of_first (nat_lt x z) _ (lt-ltb x z (omega (arith, l, m)))
    | inr b ↦ let l : x < y = ltb-true x y a in let e : y ≡ z = eqb-true y z (both_of (y == z) (list_before q r) b).0 in of_first (nat_lt x z) _ (lt-ltb x z (omega (arith, l, e)))
  ]
  | inr a ↦ elim (either_of (nat_lt y z) ((y == z) && list_before q r) k) [
    | inl b ↦ let e : x ≡ y = eqb-true x y (both_of (x == y) (list_before p q) a).0 in let m : y < z = ltb-true y z b in of_first (nat_lt x z) _ (lt-ltb x z (omega (arith, e, m)))
    | inr b ↦ let s = both_of (x == y) (list_before p q) a in let t = both_of (y == z) (list_before q r) b in of_second (nat_lt x z) _ (of_both (x == z) (list_before p r) (equal_is x z (eqb-true x y s.0 ∙ eqb-true y z t.0)) (before_trans p q r s.1 t.1))
  ]
]

pub record Rises (rings : List (List ℕ)) : Type 0 where
  pub sorted : (f g : ℕ) → f < g → g < length rings → IsTrue (list_before (ring_at rings f) (ring_at rings g))

-- each of the one list is one of the other
pub record AreAmong (rings others : List (List ℕ)) : Type 0 where
  pub among : (f : ℕ) → f < length rings → (g : ℕ) × (g < length others) × (ring_at rings f ≡ ring_at others g)

-- the same before place k
pub record AreSame (rings others : List (List ℕ)) (k : ℕ) : Type 0 where
  pub same : (f : ℕ) → f < k → f < length rings → f < length others → ring_at rings f ≡ ring_at others f

module _ (rings others : List (List ℕ)) (s : Rises rings) (t : Rises others) (a : AreAmong rings others) (b : AreAmong others rings) where
  -- where ring k stands among the others is not before k
  not_earlier : (k g : ℕ) → k < length rings → g < length others → AreSame rings others k → ring_at rings k ≡ ring_at others g → g < k → ⊥
  not_earlier k g l m h e o = not_before_itself (ring_at rings k) (subst (λ r. IsTrue (list_before r (ring_at rings k))) (h.same g o (omega (arith, o, l)) m ∙ sym e) (s.sorted g k o l))

  not_earlier_back : (k g : ℕ) → k < length others → g < length rings → AreSame rings others k → ring_at others k ≡ ring_at rings g → g < k → ⊥
  not_earlier_back k g l m h e o = not_before_itself (ring_at others k) (subst (λ r. IsTrue (list_before r (ring_at others k))) (sym (h.same g o m (omega (arith, o, l))) ∙ sym e) (t.sorted g k o l))

  at_place : (k : ℕ) → k < length rings → k < length others → AreSame rings others k → ring_at rings k ≡ ring_at others k
  at_place k l m h =
      let g = a.among k l in
      let f = b.among k m in
      elim (which g.0 k) [
        | inl o ↦ absurd (not_earlier k g.0 l g.1 h g.2 o)
        | inr (inr e) ↦ g.2 ∙ ap (ring_at others) e
        | inr (inl o) ↦ elim (which f.0 k) [
          | inl p ↦ absurd (not_earlier_back k f.0 m f.1 h f.2 p)
          | inr (inr e) ↦ sym (f.2 ∙ ap (ring_at rings) e)
          | inr (inl p) ↦ absurd (not_before_itself (ring_at rings k) (before_trans (ring_at rings k) (ring_at rings f.0) (ring_at rings k) (s.sorted k f.0 p f.1)
              (subst (λ r. IsTrue (list_before r (ring_at rings k))) f.2 (subst (λ r. IsTrue (list_before (ring_at others k) r)) (sym g.2) (t.sorted k g.0 o g.1)))))
        ]
      ]

  pub all_same : (k : ℕ) → AreSame rings others k
  all_same zero = record { same = λ f l. absurd (omega (arith, l)) }
  all_same (suc k) = let h = all_same k in record { same = λ f l m n. elim (last_or f k (omega (arith, l))) [ inl o ↦ h.same f o m n | inr e ↦ subst (λ j. ring_at rings j ≡ ring_at others j) (sym e) (at_place k (subst (λ j. j < length rings) e m) (subst (λ j. j < length others) e n) h) ] }

  not_longer : length rings < length others → ⊥
  not_longer l = let f = b.among (length rings) l in let h = (all_same (length others)).same f.0 (let m = f.1 in omega (arith, l)) f.1 (let m = f.1 in omega (arith, l)) in
      not_before_itself (ring_at others (length rings)) (subst (λ r. IsTrue (list_before r (ring_at others (length rings)))) (sym h ∙ sym f.2) (t.sorted f.0 (length rings) f.1 l))

same_lists : (rings others : List (List ℕ)) → length rings ≡ length others → ((f : ℕ) → f < length rings → ring_at rings f ≡ ring_at others f) → rings ≡ others
same_lists [] [] n h = refl
same_lists [] (w ∷ W) n h = absurd (omega (arith, n))
same_lists (v ∷ V) [] n h = absurd (omega (arith, n))
same_lists (v ∷ V) (w ∷ W) n h = ap (λ x. x ∷ V) (h 0 (omega arith)) ∙ ap (λ xs. w ∷ xs) (same_lists V W (omega (arith, n)) (λ i l. h (suc i) (omega (arith, l))))

pub one_sorted : (rings others : List (List ℕ)) → Rises rings → Rises others → AreAmong rings others → AreAmong others rings → rings ≡ others
one_sorted rings others s t a b =
    let x = not_longer rings others s t a b in
    let y = not_longer others rings t s b a in
    let n : length rings ≡ length others = equal x y in
    same_lists rings others n (λ f l. (all_same rings others s t a b (length rings)).same f l l (omega (arith, l, n)))
  where
    equal : (length rings < length others → ⊥) → (length others < length rings → ⊥) → length rings ≡ length others
    equal x y = grind (arith, x, y)
