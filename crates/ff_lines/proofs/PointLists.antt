-- Points sorted, each once.
use Rattle.std.proofs.Common.{◌≡◌, inl, inr, ℕ, zero, suc, ◌<◌, List, [], ◌∷◌, length, Bool, true, arith, sym, ◌∙◌, subst, Ordering, Less, Equal, Greater, ◌<ℤ◌}
use Rattle.std.specs.List.{AllByRecursion, dedup}
use Rattle.std.specs.List.Sorted.{IsPermutation, IsSorted, IsStrictlySortedBy}
use Rattle.std.specs.Cmp.{IsEquivalence, int_ranks}
use Rattle.std.specs.Ordering.{eq_by_cmp, int_cmp, ordering_then, MatchOrdering}
use Rattle.std.proofs.lemmas.Cmp.{eq_by_cmp_equiv}
use Rattle.std.proofs.lemmas.List.Sorted.{Contains-permutation, IsPermutation-sym}
use Rattle.std.proofs.lemmas.List.Kept.{Contains-dedup, Contains-from_dedup, IsStrictlySortedBy-dedup}
use Rattle.ff_basics.proofs.Tests.{equal_of}
use Rattle.ff_whole.specs.contracts.points.PtOrd.TheImpl.Laws.{total-law}
use Rattle.ff_whole.specs.declared.points.Pt.{Pt}
use Rattle.ff_whole.specs.Convex.{point_at}
use Rattle.ff_whole.proofs.PointOrder.{point_cmp, point_cmp-equal}
use Rattle.ff_lines.specs.Drawings.{IsBefore}
use Rattle.ff_lines.specs.Gathered.{IsSqueezed}

before_parts : (p q : Pt) (a b : Ordering) → MatchOrdering a (p.x <ℤ q.x) (p.x ≡ q.x) (q.x <ℤ p.x)
    → MatchOrdering b (p.y <ℤ q.y) (p.y ≡ q.y) (q.y <ℤ p.y) → ordering_then a b ≡ Less → IsBefore p q
before_parts p q Less b x y e = inl x
before_parts p q Equal Less x y e = inr (x, y)
before_parts p q Equal Equal x y e = absurd cc
before_parts p q Equal Greater x y e = absurd cc
before_parts p q Greater b x y e = absurd cc

point_cmp-less : (p q : Pt) → point_cmp p q ≡ Less → IsBefore p q
point_cmp-less p q h = before_parts p q (int_cmp p.x q.x) (int_cmp p.y q.y) (int_ranks p.x q.x) (int_ranks p.y q.y) h

all_less : (p : Pt) (ps : List Pt) → AllByRecursion (λ y. point_cmp p y ≡ Less) ps → (k : ℕ) → k < length ps → IsBefore p (point_at ps k)
all_less p [] h k l = absurd (omega (arith, l))
all_less p (q ∷ ps) h zero l = point_cmp-less p q h.0
all_less p (q ∷ ps) h (suc k) l = all_less p ps h.1 k (omega (arith, l))

rises : (ps : List Pt) → IsStrictlySortedBy point_cmp ps → (d c : ℕ) → d < c → c < length ps → IsBefore (point_at ps d) (point_at ps c)
unfolding IsStrictlySortedBy
rises [] h d c l m = absurd (omega (arith, m))
rises (p ∷ ps) h d zero l m = absurd (omega (arith, l))
rises (p ∷ ps) h zero (suc c) l m = all_less p ps h.0 c (omega (arith, m))
rises (p ∷ ps) h (suc d) (suc c) l m = rises ps h.1 d c (omega (arith, l)) (omega (arith, m))

module _ (same : Pt → Pt → Bool) (ties : (p q : Pt) → same p q ≡ eq_by_cmp point_cmp p q) where
  equivalence : IsEquivalence same
  equivalence = let e = eq_by_cmp_equiv total-law in record {
    refl = λ p. ties p p ∙ e.refl p;
    symm = λ p q. ties p q ∙ e.symm p q ∙ sym (ties q p);
    congr = λ p q r h. ties p r ∙ e.congr p q r (sym (ties p q) ∙ h) ∙ sym (ties q r);
  }

  alike : (p q : Pt) → same p q ≡ true → p ≡ q
  alike p q h = point_cmp-equal p q (equal_of (point_cmp p q) (sym (ties p q) ∙ h))

  in_order : (list sorted : List Pt) → IsPermutation list sorted → IsSorted point_cmp sorted → IsSqueezed list (dedup same sorted)
  in_order list sorted p s = record {
    rise = rises (dedup same sorted) (IsStrictlySortedBy-dedup total-law ties sorted s);
    same = λ v. (
      (λ c. Contains-permutation sorted list v (IsPermutation-sym list sorted p) (Contains-from_dedup same sorted v c)),
      (λ c. Contains-dedup equivalence alike sorted v (Contains-permutation list sorted v p c)),
    );
  }

  pub squeezed : (list sorted new : List Pt) → IsPermutation list sorted → IsSorted point_cmp sorted → new ≡ dedup same sorted → IsSqueezed list new
  squeezed list sorted new p s e = subst (IsSqueezed list) (sym e) (in_order list sorted p s)
