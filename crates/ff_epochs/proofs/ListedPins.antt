-- The pins in force are on listed pairs, and give the facts of pins.
use Rattle.std.proofs.Common.{◌≡◌, ◌≢◌, ℕ, zero, suc, ◌<◌, Bool, false, List, [], ◌∷◌, ◌++◌, map, length, take, slice_get, Option, Some, None, refl, sym, ap, ◌∙◌, subst, arith}
use Rattle.std.proofs.lemmas.Bool.{le-ltb}
use Rattle.std.specs.Prelude.{option_map, nat_lt}
use Rattle.std.specs.List.{filter_map, cons_option}
use Rattle.ff_tables.specs.declared.orders.Order.{Order}
use Rattle.ff_tables.specs.declared.givens.Given.{Given}
use Rattle.ff_tables.specs.declared.givens.GivenBy.TheVariants as by
use Rattle.ff_tables.specs.Orders.{turn}
use Rattle.ff_types.specs.declared.cases.Case.{Case}
use Rattle.ff_types.specs.declared.pins.Pin.{Pin}
use Rattle.ff_types.specs.Pairs.{AreSorted, number_of}
use Rattle.ff_types.proofs.SortedPairs.{number_there}
use Rattle.ff_crossings.specs.Pins.{IsListedPin, AreListedPins, given_of, with_pins, number_or}
use Rattle.ff_journal.specs.declared.entries.Entry.{Entry}
use Rattle.ff_journal.specs.Epochs.{changes, in_force_after, pin_of, pins_after, pins_of, given_of_pin, givens_of}

-- each of the pairs ps stands among the pairs
abbrev AreAmong : List (ℕ × ℕ) → List (ℕ × ℕ) → Type 0
AreAmong pairs ps = (k : ℕ) (p : ℕ × ℕ) → slice_get ps k ≡ Some p → (n : ℕ) × (slice_get pairs n ≡ Some p)

not_after : (f g : ℕ) → f < g → nat_lt g f ≡ false
not_after f g l = le-ltb g f (omega (arith, l))

-- the orders on one listed pair, before other pins
given_on : (pairs : List (ℕ × ℕ)) (n : ℕ) (p : ℕ × ℕ) (orders : List Order) (rest : List Pin) → number_of pairs p.0 p.1 ≡ Some n
    → nat_lt p.1 p.0 ≡ false → filter_map (given_of_pin pairs) rest ≡ map (given_of pairs) rest
    → filter_map (given_of_pin pairs) (map (pin_of p) orders ++ rest) ≡ map (given_of pairs) (map (pin_of p) orders ++ rest)
given_on pairs n p [] rest is rising h = h
given_on pairs n p (s ∷ orders) rest is rising h =
    ap (λ (m : Option ℕ). cons_option (option_map (λ k. record { var = k; value = s; by = by.Pin }) m) (filter_map (given_of_pin pairs) (map (pin_of p) orders ++ rest))) is
    ∙ (ap (λ (gs : List Given). record { var = n; value = s; by = by.Pin } ∷ gs) (given_on pairs n p orders rest is rising h)
    ∙ ap (λ (z : Option ℕ × Bool). record { var = number_or z.0; value = turn z.1 s; by = by.Pin } ∷ map (given_of pairs) (map (pin_of p) orders ++ rest)) (λ i. (sym is i, sym rising i)))

given_all : (pairs ps : List (ℕ × ℕ)) (made : List Entry) → AreSorted pairs → AreAmong pairs ps
    → filter_map (given_of_pin pairs) (pins_after ps made) ≡ map (given_of pairs) (pins_after ps made)
given_all pairs [] made sorted among = refl
given_all pairs (p ∷ ps) made sorted among = let r = among 0 p refl in
    given_on pairs r.0 p (in_force_after made p) (pins_after ps made) (number_there pairs r.0 p sorted r.1) (not_after p.0 p.1 (sorted.rising r.0 p r.1))
    (given_all pairs ps made sorted (λ k q at. among (suc k) q at))

-- an epoch's givens are the starts with its pins
pub givens_are : (case : Case) (j : List Entry) (e : ℕ) → AreSorted case.pairs → givens_of case j e ≡ with_pins case (pins_of case j e)
givens_are case j e sorted = ap (λ (gs : List Given). case.starts ++ gs) (given_all case.pairs case.pairs (take e (changes j)) sorted (λ k p at. (k, at)))

same_pin : (a b : Pin) → Some a ≡ Some b → a ≡ b
same_pin a b e = cc

listed_on : (pairs : List (ℕ × ℕ)) (n : ℕ) (p : ℕ × ℕ) (orders : List Order) (rest : List Pin) → number_of pairs p.0 p.1 ≡ Some n
    → p.0 < p.1 → AreListedPins pairs rest → AreListedPins pairs (map (pin_of p) orders ++ rest)
listed_on pairs n p [] rest is rising h i pin at = h i pin at
listed_on pairs n p (s ∷ orders) rest is rising h zero pin at = subst (IsListedPin pairs) (same_pin (pin_of p s) pin at) (record {
  differ = λ e. omega (arith, rising, e);
  number = n;
  listed = is;
})
listed_on pairs n p (s ∷ orders) rest is rising h (suc i) pin at = listed_on pairs n p orders rest is rising h i pin at

no_pin : (pin : Pin) (i : ℕ) → slice_get [] i ≡ Some pin → ⊥
no_pin pin i e = let q : None ≡ Some pin = e in cc

listed_all : (pairs ps : List (ℕ × ℕ)) (made : List Entry) → AreSorted pairs → AreAmong pairs ps → AreListedPins pairs (pins_after ps made)
listed_all pairs [] made sorted among = λ i pin at. absurd (no_pin pin i at)
listed_all pairs (p ∷ ps) made sorted among = let r = among 0 p refl in
    listed_on pairs r.0 p (in_force_after made p) (pins_after ps made) (number_there pairs r.0 p sorted r.1) (sorted.rising r.0 p r.1)
    (listed_all pairs ps made sorted (λ k q at. among (suc k) q at))

pub pins_listed : (case : Case) (j : List Entry) (e : ℕ) → AreSorted case.pairs → AreListedPins case.pairs (pins_of case j e)
pins_listed case j e sorted = listed_all case.pairs case.pairs (take e (changes j)) sorted (λ k p at. (k, at))
