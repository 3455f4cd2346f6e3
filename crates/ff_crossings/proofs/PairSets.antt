-- The set of pairs of an assignment, pair by pair.
use Rattle.std.proofs.Common.{◌≡◌, ◌≢◌, ◌⊎◌, inl, inr, ℕ, ◌<◌, ◌∙◌, Bool, true, false, not, List, nat_lt, if◌then◌else◌, slice_get, Option, Some, None, refl, ap, sym, subst, arith}
use Rattle.std.proofs.lemmas.Bool.{false≢true, lt-ltb, le-ltb}
use Rattle.ff_tables.specs.declared.orders.Order.{Order}
use Rattle.ff_tables.specs.declared.orders.Order.TheVariants.{Below, Above}
use Rattle.ff_types.specs.Pairs.{StandsIn, in_order, place_in, number_of}
use Rattle.ff_types.specs.Sheets.{Sheet}
use Rattle.ff_types.specs.Inside.{Overlap}
use Rattle.ff_types.specs.Stackings.{OrdersOverlaps}
use Rattle.ff_types.specs.Assignments.{says_above, says_below, set_of, set_by}
use Rattle.ff_types.specs.Cases.{IsCaseOf}
use Rattle.ff_types.specs.declared.cases.Case.{Case}
use Rattle.ff_types.proofs.SortedPairs.{place_stands}
use Rattle.ff_types.proofs.FewFaces.{overlap_turned}

-- the pair has a number and stands there, or has none and stands nowhere
unfoldable pub Numbered : List (ℕ × ℕ) → ℕ → ℕ → Type 0
Numbered pairs f h = ((n : ℕ) × (number_of pairs f h ≡ Some n) × (slice_get pairs n ≡ Some (in_order f h)))
    ⊎ ((number_of pairs f h ≡ None) × ((n : ℕ) → slice_get pairs n ≡ Some (in_order f h) → ⊥))

pub numbered : (pairs : List (ℕ × ℕ)) (f h : ℕ) → Numbered pairs f h
unfolding Numbered
numbered pairs f h = by (place_in pairs (in_order f h)) refl (place_stands pairs (in_order f h)) where
  by : (r : Option ℕ) → place_in pairs (in_order f h) ≡ r → StandsIn pairs (in_order f h) r
      → ((n : ℕ) × (number_of pairs f h ≡ Some n) × (slice_get pairs n ≡ Some (in_order f h)))
      ⊎ ((number_of pairs f h ≡ None) × ((n : ℕ) → slice_get pairs n ≡ Some (in_order f h) → ⊥))
  by (Some n) e s = inl (n, e, s)
  by None e s = inr (e, s)

pub lesser_first : (f h : ℕ) → f < h → in_order f h ≡ (f, h)
lesser_first f h l = rw (lt-ltb f h l) refl

pub greater_first : (f h : ℕ) → h < f → in_order f h ≡ (h, f)
greater_first f h l = rw (le-ltb f h (omega (arith, l))) refl

pub either_order : (f h : ℕ) → f ≢ h → (f < h) ⊎ (h < f)
either_order f h d = grind (arith, d)

same_or : (f h : ℕ) → ((f ≡ h)) ⊎ ((f < h) ⊎ (h < f))
same_or f h = grind arith

-- the test of a pair that has a number
pub lower_value : (pairs : List (ℕ × ℕ)) (values : ℕ → Option Order) (f h n : ℕ) → number_of pairs f h ≡ Some n → f < h → set_of pairs values f h ≡ says_above (values n)
lower_value pairs values f h n e l = rw (e, lt-ltb f h l) refl

pub upper_value : (pairs : List (ℕ × ℕ)) (values : ℕ → Option Order) (f h n : ℕ) → number_of pairs f h ≡ Some n → h < f → set_of pairs values f h ≡ says_below (values n)
upper_value pairs values f h n e l = rw (e, le-ltb f h (omega (arith, l))) refl

pub no_value : (pairs : List (ℕ × ℕ)) (values : ℕ → Option Order) (f h : ℕ) → number_of pairs f h ≡ None → set_of pairs values f h ≡ false
no_value pairs values f h e = rw e (by (nat_lt f h)) where
  by : (b : Bool) → (if b then says_above None else says_below None) ≡ false
  by true = refl
  by false = refl

-- the number of a pair, in either order
pub turned_number : (pairs : List (ℕ × ℕ)) (f h : ℕ) → f ≢ h → number_of pairs f h ≡ number_of pairs h f
turned_number pairs f h d = ap (place_in pairs) (elim (either_order f h d) [
  | inl l ↦ lesser_first f h l ∙ sym (greater_first h f l)
  | inr l ↦ greater_first f h l ∙ sym (lesser_first h f l)
])

pub above_or_below : (s : Order) → says_above (Some s) ≡ not (says_below (Some s))
above_or_below Below = refl
above_or_below Above = refl

pub below_or_above : (s : Order) → says_below (Some s) ≡ not (says_above (Some s))
below_or_above Below = refl
below_or_above Above = refl

module _ (g : Sheet) (case : Case) (h : IsCaseOf g case) where
  -- the pairs that stand in the list overlap
  pub there_overlap : (f k n : ℕ) → slice_get case.pairs n ≡ Some (in_order f k) → Overlap g f k
  there_overlap f k n e = elim (same_or f k) [
    | inl s ↦ absurd (itself f k s n e)
    | inr d ↦ elim d [
      | inl l ↦ (h.pairs_are f k l).1 (n, e ∙ ap Some (lesser_first f k l))
      | inr l ↦ overlap_turned g k f ((h.pairs_are k f l).1 (n, e ∙ ap Some (greater_first f k l)))
    ]
  ] where
    itself : (f k : ℕ) → f ≡ k → (n : ℕ) → slice_get case.pairs n ≡ Some (in_order f k) → ⊥
    itself f k s n e =
        let e2 : slice_get case.pairs n ≡ Some pair = e ∙ ap Some (subst (λ x. in_order f x ≡ pair) s (by (nat_lt f f))) in
        let l = h.sorted_pairs.rising n pair e2 in
        omega (arith, l) where
          pair : ℕ × ℕ
          pair = (f, f)

          by : (b : Bool) → (if b then pair else pair) ≡ pair
          by true = refl
          by false = refl

  -- overlapping faces have a number
  pub overlap_number : (f k : ℕ) → Overlap g f k → (n : ℕ) × (number_of case.pairs f k ≡ Some n) × (slice_get case.pairs n ≡ Some (in_order f k))
  unfolding Numbered
  overlap_number f k o = elim (numbered case.pairs f k) [
    | inl s ↦ s
    | inr s ↦ elim (either_order f k o.differ) [
      | inl l ↦ let p = (h.pairs_are f k l).0 o in absurd (s.1 p.0 (p.1 ∙ ap Some (sym (lesser_first f k l))))
      | inr l ↦ let p = (h.pairs_are k f l).0 (overlap_turned g f k o) in absurd (s.1 p.0 (p.1 ∙ ap Some (sym (greater_first f k l))))
    ]
  ]

  -- the set of an assignment orders exactly the overlapping pairs
  pub orders_overlaps : (a : ℕ → Order) → OrdersOverlaps g (set_by case.pairs a)
  unfolding Numbered
  orders_overlaps a = record {
    one = λ f k o. let n = overlap_number f k o in
        let m : number_of case.pairs k f ≡ Some n.0 = turned_number case.pairs k f (λ e. o.differ (sym e)) ∙ n.1 in
        elim (either_order f k o.differ) [
          | inl l ↦ lower_value case.pairs _ f k n.0 n.1 l ∙ above_or_below (a n.0) ∙ ap not (sym (upper_value case.pairs _ k f n.0 m l))
          | inr l ↦ upper_value case.pairs _ f k n.0 n.1 l ∙ below_or_above (a n.0) ∙ ap not (sym (lower_value case.pairs _ k f n.0 m l))
        ];
    only = λ f k t. elim (numbered case.pairs f k) [
      | inl s ↦ there_overlap f k s.0 s.2
      | inr s ↦ absurd (false≢true (sym (no_value case.pairs _ f k s.0) ∙ t))
    ];
  }
