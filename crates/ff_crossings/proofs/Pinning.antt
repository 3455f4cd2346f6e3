-- What holds the starts and the facts of pins keeps the creases and the pins.
use Rattle.std.proofs.Common.{◌≡◌, inl, inr, ℕ, ◌+◌, ◌<◌, ◌↔◌, ◌∙◌, Bool, true, false, List, length, map, slice_get, Some, IsTrue, refl, ap, sym, subst, arith}
use Rattle.std.proofs.lemmas.Bool.{false≢true, lt-ltb, le-ltb}
use Rattle.ff_tables.specs.declared.orders.Order.{Order}
use Rattle.ff_tables.specs.declared.orders.Order.TheVariants.{Below, Above}
use Rattle.ff_tables.specs.declared.givens.Given.{Given}
use Rattle.ff_tables.specs.Orders.{turn}
use Rattle.ff_tables.specs.Forces.{Knows}
use Rattle.ff_types.specs.declared.cases.Case.{Case}
use Rattle.ff_types.specs.declared.pins.Pin.{Pin}
use Rattle.ff_types.specs.Pairs.{number_of}
use Rattle.ff_types.specs.Sheets.{Sheet}
use Rattle.ff_types.specs.Keeping.{KeepsCreases, KeepsOrder, KeepsPins}
use Rattle.ff_types.specs.Assignments.{says_above, says_below, set_by, HoldsStarts, IsTrueTo}
use Rattle.ff_crossings.specs.Pins.{IsListedPin, AreListedPins, number_or, pinned_value, given_of, with_pins, PinsAreHeld}
use Rattle.ff_crossings.proofs.Alike.{mapped, unmapped}
use Rattle.ff_crossings.proofs.Behind.{in_first, in_second, Where, in_either}
use Rattle.ff_crossings.proofs.PairSets.{lower_value, upper_value, turned_number, either_order}

above_is : (s : Order) → IsTrue (says_above (Some s)) → s ≡ Above
above_is Above t = refl
above_is Below t = absurd (false≢true t)

below_is : (s : Order) → IsTrue (says_below (Some s)) → s ≡ Below
below_is Below t = refl
below_is Above t = absurd (false≢true t)

says_above_so : (s : Order) → s ≡ Above → IsTrue (says_above (Some s))
says_above_so s e = subst (λ x. IsTrue (says_above (Some x))) (sym e) refl

says_below_so : (s : Order) → s ≡ Below → IsTrue (says_below (Some s))
says_below_so s e = subst (λ x. IsTrue (says_below (Some x))) (sym e) refl

-- ---- one pin

module _ (pairs : List (ℕ × ℕ)) (a : ℕ → Order) where
  by_above : (f g n : ℕ) → f < g → number_of pairs f g ≡ Some n → (a n ≡ Above) ↔ IsTrue (set_by pairs a f g)
  by_above f g n l e = let v = lower_value pairs (λ n. Some (a n)) f g n e l in
      ((λ x. subst IsTrue (sym v) (says_above_so (a n) x)), (λ t. above_is (a n) (subst IsTrue v t)))

  by_below : (f g n : ℕ) → g < f → number_of pairs f g ≡ Some n → (a n ≡ Below) ↔ IsTrue (set_by pairs a f g)
  by_below f g n l e = let v = upper_value pairs (λ n. Some (a n)) f g n e l in
      ((λ x. subst IsTrue (sym v) (says_below_so (a n) x)), (λ t. below_is (a n) (subst IsTrue v t)))

  turned : (f g n : ℕ) → f < g → number_of pairs f g ≡ Some n → number_of pairs g f ≡ Some n
  turned f g n l e = sym (turned_number pairs f g (λ d. omega (arith, d, l))) ∙ e

  turned_back : (f g n : ℕ) → g < f → number_of pairs f g ≡ Some n → number_of pairs g f ≡ Some n
  turned_back f g n l e = sym (turned_number pairs f g (λ d. omega (arith, d, l))) ∙ e

  lesser_kept : (f g n : ℕ) (s : Order) → f < g → number_of pairs f g ≡ Some n → (a n ≡ turn false s) ↔ KeepsOrder (set_by pairs a) f g s
  lesser_kept f g n Above l e = by_above f g n l e
  lesser_kept f g n Below l e = by_below g f n l (turned f g n l e)

  greater_kept : (f g n : ℕ) (s : Order) → g < f → number_of pairs f g ≡ Some n → (a n ≡ turn true s) ↔ KeepsOrder (set_by pairs a) f g s
  greater_kept f g n Above l e = by_below f g n l e
  greater_kept f g n Below l e = by_above g f n l (turned_back f g n l e)

  value_kept : (pin : Pin) (n : ℕ) → IsListedPin pairs pin → number_of pairs pin.f pin.g ≡ Some n → (a n ≡ pinned_value pin) ↔ KeepsOrder (set_by pairs a) pin.f pin.g pin.value
  value_kept pin n listed e = elim (either_order pin.f pin.g listed.differ) [
    | inl l ↦ subst (λ b. (a n ≡ turn b pin.value) ↔ KeepsOrder (set_by pairs a) pin.f pin.g pin.value) (sym (le-ltb pin.g pin.f (omega (arith, l)))) (lesser_kept pin.f pin.g n pin.value l e)
    | inr l ↦ subst (λ b. (a n ≡ turn b pin.value) ↔ KeepsOrder (set_by pairs a) pin.f pin.g pin.value) (sym (lt-ltb pin.g pin.f l)) (greater_kept pin.f pin.g n pin.value l e)
  ]

  pin_kept : (pin : Pin) → IsListedPin pairs pin → Knows (λ v. Some (a v)) (given_of pairs pin).var (given_of pairs pin).value ↔ KeepsOrder (set_by pairs a) pin.f pin.g pin.value
  pin_kept pin listed = let k = value_kept pin listed.number listed listed.listed in
      subst (λ o. (Some (a (number_or o)) ≡ Some (pinned_value pin)) ↔ KeepsOrder (set_by pairs a) pin.f pin.g pin.value) (sym listed.listed) ((λ e. k.0 (the e)), (λ t. ap Some (k.1 t))) where
        the : {s t : Order} → Some s ≡ Some t → s ≡ t
        the e = cc

-- ---- all of them

module _ (g : Sheet) (case : Case) (true_to : IsTrueTo g case) (pins : List Pin) (listed : AreListedPins case.pairs pins) (a : ℕ → Order) where
  abbrev above : ℕ → ℕ → Bool
  above = set_by case.pairs a

  keeps : HoldsStarts (with_pins case pins) a → KeepsCreases g above × KeepsPins above pins
  keeps holds = (
    (true_to.creases a).0 (λ i s e. holds i s (in_first case.starts (map (given_of case.pairs) pins) i s e)),
    λ i pin e. (pin_kept case.pairs a pin (listed i pin e)).0 (holds (length case.starts + i) (given_of case.pairs pin)
        (in_second case.starts (map (given_of case.pairs) pins) i (given_of case.pairs pin) (mapped (given_of case.pairs) pins i pin e))),
  )

  holds_one : KeepsCreases g above → KeepsPins above pins → (i : ℕ) (s : Given) → Where case.starts (map (given_of case.pairs) pins) i s → Knows (λ v. Some (a v)) s.var s.value
  unfolding Where
  holds_one creases pinned i s (inl e) = (true_to.creases a).1 creases i s e
  holds_one creases pinned i s (inr (j, at, e)) = by (unmapped (given_of case.pairs) pins j s e) where
    by : (pin : Pin) × (slice_get pins j ≡ Some pin) × (given_of case.pairs pin ≡ s) → Knows (λ v. Some (a v)) s.var s.value
    by (pin, there, same) = subst (λ (t : Given). Knows (λ v. Some (a v)) t.var t.value) same ((pin_kept case.pairs a pin (listed j pin there)).1 (pinned j pin there))

  pub starts_and_pins : HoldsStarts (with_pins case pins) a ↔ (KeepsCreases g above × KeepsPins above pins)
  starts_and_pins = (keeps, (λ k i s e. holds_one k.0 k.1 i s (in_either case.starts (map (given_of case.pairs) pins) i s e)))

pub pins_are_held : PinsAreHeld
pins_are_held g case true_to pins listed a = starts_and_pins g case true_to pins listed a
