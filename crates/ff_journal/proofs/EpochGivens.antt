-- The givens of an epoch, pair by pair.
use Rattle.std.proofs.Common.{◌≡◌, ℕ, suc, ◌+◌, ◌<◌, ◌==◌, ◌&&◌, ◌||◌, Bool, true, false, ltb, List, [], ◌∷◌, ◌++◌, length, map, take, drop, get_or, cond, sym, refl, ap, ◌∙◌, arith, Option, Some, None, append_assoc, Contains}
use Rattle.std.specs.List.{filter, filter_map, cons_option, list_any}
use Rattle.std.specs.Prelude.{option_map}
use Rattle.std.proofs.lemmas.Bool.{eqb-true}
use Rattle.std.proofs.lemmas.List.{take_more, append-nil, take-append-drop}
use Rattle.std.proofs.lemmas.List.Elements.{filter-append, filter_map-append}
use Rattle.std.proofs.lemmas.Option.{slice_get-get_or}
use Rattle.std.proofs.Math.Seq.{take-append_seam}
use Rattle.ff_tables.specs.declared.orders.Order.{Order}
use Rattle.ff_tables.specs.declared.orders.Order.TheVariants.{Below, Above}
use Rattle.ff_tables.specs.Orders.{turn}
use Rattle.ff_tables.specs.declared.givens.Given.{Given}
use Rattle.ff_tables.specs.declared.givens.GivenBy.TheVariants as by
use Rattle.ff_types.specs.Pairs.{AreSorted, number_of, pair_at, in_order}
use Rattle.ff_types.proofs.SortedPairs.{number_there}
use Rattle.ff_viewer.specs.declared.commands.Command.TheVariants as command
use Rattle.ff_journal.specs.declared.entries.Entry.{Entry}
use Rattle.ff_journal.specs.declared.entries.Entry.TheVariants as entry
use Rattle.ff_journal.specs.Epochs.{changes, is_change, last_of, joined, is_pair, pinned_by, held_by, has_order, viewers_of, is_in_force, in_force_after, pin_of, pins_after, given_of_pin}
use Rattle.ff_journal.specs.Reading.{givens_on, pair_named, AreTouched}

pins_append : (ps qs : List (ℕ × ℕ)) (made : List Entry) → pins_after (ps ++ qs) made ≡ pins_after ps made ++ pins_after qs made
pins_append [] qs made = refl
pins_append (p ∷ ps) qs made = ap (λ t. map (pin_of p) (in_force_after made p) ++ t) (pins_append ps qs made)
    ∙ sym (append_assoc (map (pin_of p) (in_force_after made p)) (pins_after ps made) (pins_after qs made))

-- the givens of the pins on the first n pairs
abbrev pub givens_to : List Given → List (ℕ × ℕ) → List Entry → ℕ → List Given
givens_to starts pairs made n = starts ++ filter_map (given_of_pin pairs) (pins_after (take n pairs) made)

one_pair : (pairs : List (ℕ × ℕ)) (n : ℕ) (p : ℕ × ℕ) (orders : List Order) → number_of pairs p.0 p.1 ≡ Some n
    → filter_map (given_of_pin pairs) (map (pin_of p) orders ++ []) ≡ givens_on n orders
one_pair pairs n p [] e = refl
one_pair pairs n p (s ∷ orders) e =
    ap (λ m. cons_option (option_map (λ k. record { var = k; value = s; by = by.Pin }) m) (filter_map (given_of_pin pairs) (map (pin_of p) orders ++ []))) e
    ∙ ap (λ gs. record { var = n; value = s; by = by.Pin } ∷ gs) (one_pair pairs n p orders e)

pub givens_next : (starts : List Given) (pairs : List (ℕ × ℕ)) (made : List Entry) (n : ℕ) → AreSorted pairs → n < length pairs
    → givens_to starts pairs made (n + 1) ≡ givens_to starts pairs made n ++ givens_on n (in_force_after made (pair_at pairs n))
givens_next starts pairs made n sorted l =
    let p = pair_at pairs n in
    ap (λ t. starts ++ filter_map (given_of_pin pairs) (pins_after t made)) (take_more pairs n (0, 0) l)
    ∙ ap (λ t. starts ++ filter_map (given_of_pin pairs) t) (pins_append (take n pairs) (p ∷ []) made)
    ∙ ap (λ t. starts ++ t) (filter_map-append (given_of_pin pairs) (pins_after (take n pairs) made) (map (pin_of p) (in_force_after made p) ++ []))
    ∙ ap (λ t. starts ++ (filter_map (given_of_pin pairs) (pins_after (take n pairs) made) ++ t))
    (one_pair pairs n p (in_force_after made p) (number_there pairs n p sorted (slice_get-get_or pairs n (0, 0) l)))
    ∙ sym (append_assoc starts (filter_map (given_of_pin pairs) (pins_after (take n pairs) made)) (givens_on n (in_force_after made p)))

whole : {X : Type 0} → (xs : List X) → take (length xs) xs ≡ xs
whole xs = ap (λ t. take (length xs) t) (sym (append-nil xs)) ∙ take-append_seam xs []

-- a front with as many changes as the epoch's number has its changes
pub front_is : (j : List Entry) (i left e : ℕ) → length (changes (take i j)) + left ≡ e → left ≡ 0
    → changes (take i j) ≡ take e (changes j)
front_is j i left e count z =
    sym (take-append_seam (changes (take i j)) (changes (drop i j)))
    ∙ ap (λ n. take n (changes (take i j) ++ changes (drop i j))) (omega (arith, count, z))
    ∙ ap (take e) (sym (filter-append is_change (take i j) (drop i j)) ∙ ap changes (take-append-drop i j))

-- ---- the orders in force on one pair

-- ---- pairs that no entry names

is_same : (p q : ℕ × ℕ) → is_pair p q ≡ true → p ≡ q
is_same p q t = by (p.0 == q.0) refl t where
  by : (b : Bool) → (p.0 == q.0) ≡ b → (b && p.1 == q.1) ≡ true → p ≡ q
  by true e t = (λ i. (eqb-true p.0 q.0 e i, eqb-true p.1 q.1 t i))
  by false e t = cc

pinned_none : (v : ℕ) (p : ℕ × ℕ) (e : Entry) → (pair_named e ≡ Some p → ⊥) → pinned_by v p e ≡ None
pinned_none v p (entry.Said w i (command.Pin f g s) told) other = by (Some (turn (ltb g f) s)) (w == v) (is_pair p (in_order f g)) refl where
  by : (x : Option Order) (a b : Bool) → is_pair p (in_order f g) ≡ b → cond (a && b) (Some x) None ≡ None
  by x false b e = refl
  by x true false e = refl
  by x true true e = absurd (other (ap Some (sym (is_same p (in_order f g) e))))
pinned_none v p (entry.Said w i (command.Unpin f g) told) other = by None (w == v) (is_pair p (in_order f g)) refl where
  by : (x : Option Order) (a b : Bool) → is_pair p (in_order f g) ≡ b → cond (a && b) (Some x) None ≡ None
  by x false b e = refl
  by x true false e = refl
  by x true true e = absurd (other (ap Some (sym (is_same p (in_order f g) e))))
pinned_none v p (entry.Said w i (command.Ask q) told) other = refl
pinned_none v p (entry.Published e o) other = refl

none_pinned : (v : ℕ) (p : ℕ × ℕ) (xs : List Entry) → ((e : Entry) → Contains xs e → pair_named e ≡ Some p → ⊥)
    → filter_map (pinned_by v p) (changes xs) ≡ []
none_pinned v p [] others = refl
none_pinned v p (x ∷ xs) others = by (is_change x) (none_pinned v p xs (λ e c. others e (let m = c.1 in (suc c.0, omega (arith, m), c.2)))) where
  by : (b : Bool) → filter_map (pinned_by v p) (changes xs) ≡ [] → filter_map (pinned_by v p) (cond b (x ∷ changes xs) (changes xs)) ≡ []
  by true rest = ap (λ o. cons_option o (filter_map (pinned_by v p) (changes xs))) (pinned_none v p x (others x (0, omega arith, refl))) ∙ rest
  by false rest = rest

any_none : (f : ℕ → Bool) (xs : List ℕ) → ((v : ℕ) → f v ≡ false) → list_any f xs ≡ false
any_none f [] h = refl
any_none f (x ∷ xs) h = ap (λ b. b || list_any f xs) (h x) ∙ any_none f xs h

none_in_force : (p : ℕ × ℕ) (xs : List Entry) (s : Order) → ((e : Entry) → Contains xs e → pair_named e ≡ Some p → ⊥)
    → is_in_force (changes xs) p s ≡ false
none_in_force p xs s others = any_none (λ v. has_order s (held_by v (changes xs) p)) (viewers_of (changes xs)) (λ v. ap (λ os. has_order s (joined (last_of os))) (none_pinned v p xs others))

untouched : (p : ℕ × ℕ) (xs : List Entry) → ((e : Entry) → Contains xs e → pair_named e ≡ Some p → ⊥)
    → in_force_after (changes xs) p ≡ []
untouched p xs others = ap (λ b. cond b (Below ∷ filter (is_in_force (changes xs) p) (Above ∷ [])) (filter (is_in_force (changes xs) p) (Above ∷ []))) (none_in_force p xs Below others)
    ∙ ap (λ b. cond b (Above ∷ []) []) (none_in_force p xs Above others)

pub untouched_at : (pairs : List (ℕ × ℕ)) (xs : List Entry) (flags : List Bool) (n : ℕ) → AreTouched pairs xs flags → n < length pairs
    → get_or flags n false ≡ false → in_force_after (changes xs) (pair_at pairs n) ≡ []
untouched_at pairs xs flags n t l off = untouched (pair_at pairs n) xs (λ e c is. absurd (clash (sym off ∙ t.touched n (pair_at pairs n) e (slice_get-get_or pairs n (0, 0) l) c is))) where
  clash : false ≡ true → ⊥
  clash h = cc
