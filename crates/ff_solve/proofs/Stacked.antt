-- Choices of one solution of each part are the stackings that keep the creases and the pins.
use Rattle.std.proofs.Common.{◌≡◌, inl, inr, ℕ, ◌<◌, ◌∙◌, Bool, List, [], length, nat_lt, if◌then◌else◌, Option, Some, None, Contains, refl, ap, sym, subst, arith}
use Rattle.std.proofs.Math.Path.{fun_ext}
use Rattle.std.proofs.lemmas.Bool.{false≢true}
use Rattle.std.proofs.lemmas.List.{append-nil}
use Rattle.std.proofs.lemmas.Option.{slice_get_within, slice_get-get_or}
use Rattle.ff_tables.specs.declared.orders.Order.{Order}
use Rattle.ff_tables.specs.declared.orders.Order.TheVariants.{Below, Above}
use Rattle.ff_types.specs.declared.cases.Case.{Case}
use Rattle.ff_types.specs.Pairs.{AreSorted, number_of, pair_at}
use Rattle.ff_types.specs.declared.pins.Pin.{Pin}
use Rattle.ff_types.specs.Sheets.{Sheet}
use Rattle.ff_types.specs.Cases.{IsCaseOf}
use Rattle.ff_types.specs.Assignments.{says_above, says_below, value_at, set_of, set_by, IsTrueTo}
use Rattle.ff_types.proofs.SortedPairs.{number_there}
use Rattle.ff_propagate.specs.Closure.{Clashes, Gives}
use Rattle.ff_propagate.specs.Solutions.{solutions_of}
use Rattle.ff_propagate.specs.Choices.{IsChoice, IsAssignmentOf, value_of}
use Rattle.ff_parts.specs.Factors.{Factors, IsAllowed, HasAssignment}
use Rattle.ff_parts.proofs.Factoring.{clash_allows_none}
use Rattle.ff_crossings.specs.Pins.{AreListedPins, with_pins}
use Rattle.ff_crossings.proofs.PairSets.{Numbered, numbered, lower_value}
use Rattle.ff_crossings.proofs.Pinning.{pins_are_held}
use Rattle.ff_solve.specs.Choices.{IsKept, IsSetOf, HasStacking, HasChoice, AreStackings}
use Rattle.ff_solve.specs.Laws.{ChoicesAreStackings, ClashHasNone, StartsAreStackings, StartClashHasNone}

-- values that agree on the pairs have one set
set_same : (pairs : List (ℕ × ℕ)) (values others : ℕ → Option Order) → ((n : ℕ) → n < length pairs → values n ≡ others n) → (f h : ℕ) → set_of pairs values f h ≡ set_of pairs others f h
unfolding Numbered
set_same pairs values others e f h = elim (numbered pairs f h) [
  | inl s ↦ by (Some s.0) s.1 (e s.0 (slice_get_within pairs s.0 _ s.2))
  | inr s ↦ by None s.0 refl
] where
  by : (o : Option ℕ) → number_of pairs f h ≡ o → value_at values o ≡ value_at others o → set_of pairs values f h ≡ set_of pairs others f h
  by o p q = ap (λ v. if nat_lt f h then says_above v else says_below v) (ap (value_at values) p ∙ q ∙ ap (value_at others) (sym p))

-- a pair's value is told by the set
told : (pairs : List (ℕ × ℕ)) → AreSorted pairs → (values : ℕ → Option Order) (n : ℕ) → n < length pairs → set_of pairs values (pair_at pairs n).0 (pair_at pairs n).1 ≡ says_above (values n)
told pairs sorted values n l =
    let there = slice_get-get_or pairs n (0, 0) l in
    lower_value pairs values (pair_at pairs n).0 (pair_at pairs n).1 n (number_there pairs n (pair_at pairs n) sorted there) (sorted.rising n (pair_at pairs n) there)

one_order : (s t : Order) → says_above (Some s) ≡ says_above (Some t) → s ≡ t
one_order Below Below e = refl
one_order Above Above e = refl
one_order Below Above e = absurd (false≢true e)
one_order Above Below e = absurd (false≢true (sym e))

kept_of : (g : Sheet) (pins : List Pin) (above other : ℕ → ℕ → Bool) → ((f h : ℕ) → above f h ≡ other f h) → IsKept g pins above → IsKept g pins other
kept_of g pins above other e k = subst (λ (x : ℕ → ℕ → Bool). IsKept g pins x) (fun_ext (λ f. fun_ext (λ h. e f h))) k

-- a stacking that is kept is the set of an assignment that is allowed
allowed_of : (g : Sheet) (case : Case) → IsTrueTo g case → (pins : List Pin) → AreListedPins case.pairs pins → (above : ℕ → ℕ → Bool) → IsKept g pins above → (a : ℕ → Order)
    → ((f h : ℕ) → above f h ≡ set_by case.pairs a f h) → IsAllowed case.system.constraints (with_pins case pins) a
allowed_of g case true_to pins listed above kept a e = let k = kept_of g pins above (set_by case.pairs a) e kept in record {
  meets = (true_to.stackings a).1 k.geometric;
  holds = (pins_are_held g case true_to pins listed a).1 (k.creases, k.pinned);
}

module _ (g : Sheet) (case : Case) (is : IsCaseOf g case) (true_to : IsTrueTo g case) (pins : List Pin) (listed : AreListedPins case.pairs pins) (value : ℕ → Option Order) (parts : List (List ℕ))
    (factors : Factors case.system.vars case.system.constraints (with_pins case pins) value parts) where
  variable : (n : ℕ) → n < length case.pairs → n < case.system.vars
  variable n l = omega (arith, l, case.valid.paired)

  -- the set of an assignment of the choice
  set_of_choice : (choice : List (List Order)) (a : ℕ → Order) → IsAssignmentOf case.system.vars value parts choice a → IsSetOf case.pairs value parts choice (set_by case.pairs a)
  set_of_choice choice a of f h = set_same case.pairs (λ n. Some (a n)) (value_of value parts choice) (λ n l. sym (of n (variable n l))) f h

  stacking : (choice : List (List Order)) → IsChoice case.system.constraints value parts choice → HasStacking g pins case.pairs value parts choice
  stacking choice c = let x = factors.to_assignment choice c in record {
    above = set_by case.pairs x.assignment;
    set = set_of_choice choice x.assignment x.of_choice;
    kept = let k = (pins_are_held g case true_to pins listed x.assignment).0 x.allowed.holds in record { geometric = (true_to.stackings x.assignment).0 x.allowed.meets; creases = k.0; pinned = k.1 };
  }

  choice_of : (above : ℕ → ℕ → Bool) → IsKept g pins above → HasChoice case value parts above
  choice_of above kept = by (true_to.all above kept.geometric) where
    by : (a : ℕ → Order) × ((f h : ℕ) → above f h ≡ set_by case.pairs a f h) → HasChoice case value parts above
    by (a, e) = let c = factors.to_choice a (allowed_of g case true_to pins listed above kept a e) in record {
      choice = c.choice;
      is_choice = c.is_choice;
      set = λ f h. e f h ∙ set_of_choice c.choice a c.of_choice f h;
    }

  one : (above : ℕ → ℕ → Bool) (c d : List (List Order)) → IsChoice case.system.constraints value parts c → IsChoice case.system.constraints value parts d
      → IsSetOf case.pairs value parts c above → IsSetOf case.pairs value parts d above → c ≡ d
  one above c d ic id sc sd = factors.one_choice x.assignment c d ic id x.of_choice (λ n l. y.of_choice n l ∙ ap Some (sym (same n l))) where
    x : HasAssignment case.system.vars case.system.constraints (with_pins case pins) value parts c
    x = factors.to_assignment c ic

    y : HasAssignment case.system.vars case.system.constraints (with_pins case pins) value parts d
    y = factors.to_assignment d id

    same : (n : ℕ) → n < case.system.vars → x.assignment n ≡ y.assignment n
    same n l =
        let m : n < length case.pairs = omega (arith, l, case.valid.paired) in
        one_order (x.assignment n) (y.assignment n)
        (ap says_above (sym (x.of_choice n l)) ∙ sym (told case.pairs is.sorted_pairs (value_of value parts c) n m) ∙ sym (sc (pair_at case.pairs n).0 (pair_at case.pairs n).1)
        ∙ sd (pair_at case.pairs n).0 (pair_at case.pairs n).1 ∙ told case.pairs is.sorted_pairs (value_of value parts d) n m ∙ ap says_above (y.of_choice n l))

  nothing : (part : List ℕ) → Contains parts part → solutions_of case.system.constraints value part ≡ [] → (above : ℕ → ℕ → Bool) → IsKept g pins above → ⊥
  nothing part in_parts empty above kept = by (true_to.all above kept.geometric) where
    by : (a : ℕ → Order) × ((f h : ℕ) → above f h ≡ set_by case.pairs a f h) → ⊥
    by (a, e) = factors.none part in_parts empty a (allowed_of g case true_to pins listed above kept a e)

  pub are_stackings : AreStackings g pins case value parts
  are_stackings = record { to_stacking = stacking; to_choice = choice_of; one_choice = one; none = nothing }

pub choices_are_stackings : ChoicesAreStackings
choices_are_stackings g case is true_to pins listed value parts factors = are_stackings g case is true_to pins listed value parts factors

pub clash_has_none : ClashHasNone
clash_has_none g case true_to pins listed clashes above kept = by (true_to.all above kept.geometric) where
  by : (a : ℕ → Order) × ((f h : ℕ) → above f h ≡ set_by case.pairs a f h) → ⊥
  by (a, e) = clash_allows_none case.system.constraints (with_pins case pins) a clashes (allowed_of g case true_to pins listed above kept a e)

-- ---- without pins

no_pins : (case : Case) → AreListedPins case.pairs []
no_pins case i pin e = absurd (omega (arith, slice_get_within [] i pin e))

alone : (case : Case) → case.starts ≡ with_pins case []
alone case = sym (append-nil case.starts)

pub starts_are_stackings : StartsAreStackings
starts_are_stackings g case is true_to value parts factors = choices_are_stackings g case is true_to [] (no_pins case) value parts
    (subst (λ gs. Factors case.system.vars case.system.constraints gs value parts) (alone case) factors)

pub start_clash_has_none : StartClashHasNone
start_clash_has_none g case true_to clashes = clash_has_none g case true_to [] (no_pins case) (subst (λ gs. Clashes case.system.constraints (Gives gs)) (alone case) clashes)
