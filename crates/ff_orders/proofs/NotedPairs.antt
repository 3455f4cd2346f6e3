-- What is noted of the pairs of a case, and the set of the said pairs.
use Rattle.std.proofs.Common.{◌≡◌, ◌⊎◌, inl, inr, ℕ, ◌<◌, Bool, true, false, not, ◌&&◌, List, length, take, slice_get, IsTrue, Option, Some, None, arith, refl, sym, ap, subst, ◌∙◌}
use Rattle.std.proofs.lemmas.Bool.{false≢true}
use Rattle.std.proofs.lemmas.List.{take_all}
use Rattle.std.proofs.lemmas.Option.{slice_get_within}
use Rattle.ff_basics.proofs.Tests.{and_true, of_both}
use Rattle.ff_types.specs.declared.cases.Case.{Case}
use Rattle.ff_types.specs.Pairs.{in_order, number_of}
use Rattle.ff_types.specs.Sheets.{Sheet}
use Rattle.ff_types.specs.Inside.{Overlap}
use Rattle.ff_types.specs.Cases.{IsCaseOf}
use Rattle.ff_types.specs.Assignments.{says_above, says_below, set_by}
use Rattle.ff_crossings.proofs.PairSets.{Numbered, numbered, there_overlap, overlap_number, orders_overlaps, lower_value, upper_value, either_order, lesser_first, greater_first}
use Rattle.ff_crossings.proofs.Truth.{at_place}
use Rattle.ff_orders.specs.declared.items.OrderItem.{OrderItem}
use Rattle.ff_orders.specs.declared.said.Said.{Said}
use Rattle.ff_orders.specs.Said.{is_said, IsSaid}
use Rattle.ff_orders.specs.Verdicts.{ContradictionAt, MissingAt}
use Rattle.ff_orders.specs.Noted.{AreNoted, BothAt, NoneAt, HaveOrders, order_of, said_at, value_of}

-- ---- tests

not_from : (b : Bool) → (IsTrue b → ⊥) → IsTrue (not b)
not_from true n = absurd (n refl)
not_from false n = refl

from_not : (b : Bool) → IsTrue (not b) → IsTrue b → ⊥
from_not true t u = false≢true t
from_not false t u = false≢true u

above_is : (s : Said) → says_above (Some (order_of s)) ≡ s.lesser
above_is s = by s.lesser where
  by : (b : Bool) → says_above (Some (order_of (record { lesser = b; greater = s.greater }))) ≡ b
  by true = refl
  by false = refl

below_is : (s : Said) → says_below (Some (order_of s)) ≡ not s.lesser
below_is s = by s.lesser where
  by : (b : Bool) → says_below (Some (order_of (record { lesser = b; greater = s.greater }))) ≡ not b
  by true = refl
  by false = refl

one_of : (a b : Bool) → (IsTrue (a && b) → ⊥) → (IsTrue (not a && not b) → ⊥) → not a ≡ b
one_of true true x y = absurd (x refl)
one_of true false x y = refl
one_of false true x y = refl
one_of false false x y = absurd (y refl)

is_listed : Option ℕ → Bool
is_listed (Some n) = true
is_listed None = false

module _ (g : Sheet) (case : Case) (is : IsCaseOf g case) (items : List OrderItem) (said : List Said) (noted : AreNoted g.up case.pairs items (length items) said) where
  all_items : take (length items) items ≡ items
  all_items = take_all (length items) items (omega arith)

  lesser_is : (n f k : ℕ) → slice_get case.pairs n ≡ Some (f, k) → (said_at said n).lesser ≡ is_said g.up items f k
  lesser_is n f k e = noted.lesser n f k e ∙ ap (λ xs. is_said g.up xs f k) all_items

  greater_is : (n f k : ℕ) → slice_get case.pairs n ≡ Some (f, k) → (said_at said n).greater ≡ is_said g.up items k f
  greater_is n f k e = noted.greater n f k e ∙ ap (λ xs. is_said g.up xs k f) all_items

  pair_there : (n : ℕ) → n < length said → (p : ℕ × ℕ) × (slice_get case.pairs n ≡ Some p)
  pair_there n l = at_place case.pairs n (let c = noted.counted in omega (arith, l, c))

  noted_there : (n : ℕ) (p : ℕ × ℕ) → slice_get case.pairs n ≡ Some p → n < length said
  noted_there n p e = let w = slice_get_within case.pairs n p e in let c = noted.counted in omega (arith, w, c)

  -- ---- both orders of a pair, or none

  pub contradiction_is : (n : ℕ) → BothAt said n → ContradictionAt g case items n
  contradiction_is n both =
      let p = pair_there n both.within in
      let t = and_true (said_at said n).lesser (said_at said n).greater both.both in
      record { pair = p.0; there = p.1; lesser_said = subst IsTrue (lesser_is n p.0.0 p.0.1 p.1) t.0; greater_said = subst IsTrue (greater_is n p.0.0 p.0.1 p.1) t.1 }

  pub both_is : (n : ℕ) → ContradictionAt g case items n → BothAt said n
  both_is n c = record {
    within = noted_there n c.pair c.there;
    both = of_both (said_at said n).lesser (said_at said n).greater
        (subst IsTrue (sym (lesser_is n c.pair.0 c.pair.1 c.there)) c.lesser_said)
        (subst IsTrue (sym (greater_is n c.pair.0 c.pair.1 c.there)) c.greater_said);
  }

  pub missing_is : (n : ℕ) → NoneAt said n → MissingAt g case items n
  missing_is n none =
      let p = pair_there n none.within in
      let t = and_true (not (said_at said n).lesser) (not (said_at said n).greater) none.none in
      record {
        pair = p.0;
        there = p.1;
        lesser_not = λ x. from_not (said_at said n).lesser t.0 (subst IsTrue (sym (lesser_is n p.0.0 p.0.1 p.1)) x);
        greater_not = λ x. from_not (said_at said n).greater t.1 (subst IsTrue (sym (greater_is n p.0.0 p.0.1 p.1)) x);
      }

  pub none_is : (n : ℕ) → MissingAt g case items n → NoneAt said n
  none_is n m = record {
    within = noted_there n m.pair m.there;
    none = of_both (not (said_at said n).lesser) (not (said_at said n).greater)
        (not_from (said_at said n).lesser (λ x. m.lesser_not (subst IsTrue (lesser_is n m.pair.0 m.pair.1 m.there) x)))
        (not_from (said_at said n).greater (λ x. m.greater_not (subst IsTrue (greater_is n m.pair.0 m.pair.1 m.there) x)));
  }

  -- ---- the set of the said pairs, whatever they are

  pub listed : ℕ → ℕ → Bool
  listed f k = is_listed (number_of case.pairs f k) && is_said g.up items f k

  pub listed_said : IsSaid g items listed
  unfolding Numbered listed is_listed
  listed_said f k = (
    (λ t. let b = and_true (is_listed (number_of case.pairs f k)) (is_said g.up items f k) t in (over b.0 (numbered case.pairs f k), b.1)),
    (λ both. of_both (is_listed (number_of case.pairs f k)) (is_said g.up items f k)
        (ap is_listed (overlap_number g case is f k both.0).1) both.1),
  ) where
    over : IsTrue (is_listed (number_of case.pairs f k)) → Numbered case.pairs f k → Overlap g f k
    over t (inl s) = there_overlap g case is f k s.0 s.2
    over t (inr s) = absurd (false≢true (sym (ap is_listed s.0) ∙ t))

  -- ---- and where each pair has one order

  module _ (orders : HaveOrders said) where
    one_order : (n : ℕ) → n < length said → not (said_at said n).lesser ≡ (said_at said n).greater
    one_order n l = one_of (said_at said n).lesser (said_at said n).greater
        (λ t. orders.no_both n (record { within = l; both = t }))
        (λ t. orders.no_none n (record { within = l; none = t }))

    set_is : (f k : ℕ) → Overlap g f k → set_by case.pairs (value_of said) f k ≡ is_said g.up items f k
    set_is f k o = by (overlap_number g case is f k o) (either_order f k o.differ) where
      by : (n : ℕ) × (number_of case.pairs f k ≡ Some n) × (slice_get case.pairs n ≡ Some (in_order f k)) → (f < k) ⊎ (k < f)
          → set_by case.pairs (value_of said) f k ≡ is_said g.up items f k
      by (n, e, there) (inl l) = lower_value case.pairs (λ v. Some (value_of said v)) f k n e l ∙ above_is (said_at said n)
          ∙ lesser_is n f k (there ∙ ap Some (lesser_first f k l))
      by (n, e, there) (inr l) =
          let at = there ∙ ap Some (greater_first f k l) in
          upper_value case.pairs (λ v. Some (value_of said v)) f k n e l ∙ below_is (said_at said n)
          ∙ one_order n (noted_there n (k, f) at) ∙ greater_is n k f at

    pub set_said : IsSaid g items (set_by case.pairs (value_of said))
    set_said f k = (
      (λ t. let o = (orders_overlaps g case is (value_of said)).only f k t in (o, subst IsTrue (set_is f k o) t)),
      (λ both. subst IsTrue (sym (set_is f k both.0)) both.1),
    )
