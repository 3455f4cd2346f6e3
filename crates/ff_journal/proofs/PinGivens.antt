-- The givens of the pins in force: on pairs of the case, and no more than changes.
use Rattle.std.proofs.Common.{◌≡◌, ℕ, zero, suc, ◌+◌, ◌<◌, ◌≤◌, ◌==◌, ◌&&◌, Bool, true, false, ltb, cond, List, [], ◌∷◌, ◌++◌, length, map, take, slice_get, sym, refl, ap, ◌∙◌, subst, arith, Option, Some, None, Contains}
use Rattle.std.specs.Prelude.{option_map}
use Rattle.std.specs.List.{filter_map, cons_option}
use Rattle.std.proofs.lemmas.Bool.{eqb-true}
use Rattle.std.proofs.lemmas.List.{length-append, length-map}
use Rattle.std.proofs.lemmas.Option.{slice_get_within, get_or_from_slice_get}
use Rattle.ff_basics.proofs.Lists.{in_filter_map}
use Rattle.ff_tables.specs.declared.orders.Order.{Order}
use Rattle.ff_tables.specs.declared.orders.Order.TheVariants.{Below, Above}
use Rattle.ff_tables.specs.declared.givens.Given.{Given}
use Rattle.ff_tables.specs.declared.givens.GivenBy.TheVariants as by
use Rattle.ff_tables.specs.Orders.{turn, is_order}
use Rattle.ff_tables.proofs.SameOrders.{is_order_of}
use Rattle.ff_types.specs.declared.pins.Pin.{Pin}
use Rattle.ff_types.specs.declared.cases.Case.{Case}
use Rattle.ff_types.specs.Pairs.{AreSorted, number_of, place_in, pair_at, in_order}
use Rattle.ff_types.proofs.SortedPairs.{number_there, stands_once}
use Rattle.ff_propagate.specs.Closing.{GivensFit}
use Rattle.ff_viewer.specs.declared.commands.Command.TheVariants as command
use Rattle.ff_journal.specs.declared.entries.Entry.{Entry}
use Rattle.ff_journal.specs.declared.entries.Entry.TheVariants as entry
use Rattle.ff_journal.specs.Epochs.{changes, last_of, joined, is_pair, pinned_by, is_in_force, in_force_after, pin_of, pins_after, pins_of, given_of_pin, pin_of_given, givens_of}
use Rattle.ff_journal.specs.Reading.{one_if}
use Rattle.ff_journal.proofs.Holders.{held_where}

-- ---- what each given says

same_given : {a b : Given} → Some a ≡ Some b → a ≡ b
same_given e = cc

one_place : {a b : ℕ} → Some a ≡ Some b → a ≡ b
one_place e = cc

number_within : (pairs : List (ℕ × ℕ)) (p : ℕ × ℕ) (n : ℕ) → place_in pairs p ≡ Some n → n < length pairs
number_within [] p n h = cc
number_within (q ∷ pairs) p n h = by (q.0 == p.0 && q.1 == p.1) (place_in pairs p) refl (number_within pairs p) h
  where
    by : (b : Bool) (o : Option ℕ) → place_in pairs p ≡ o → ((m : ℕ) → place_in pairs p ≡ Some m → m < length pairs) → cond b (Some 0) (option_map (λ n. n + 1) o) ≡ Some n → n < suc (length pairs)
    by true o is later e = let z : 0 ≡ n = one_place e in omega (arith, z)
    by false None is later e = cc
    by false (Some m) is later e =
        let z : m + 1 ≡ n = one_place e in
        let l = later m is in omega (arith, z, l)

-- a given by a pin, on one of the pairs
pub record IsPinGiven (pairs : List (ℕ × ℕ)) (g : Given) : Type 0 where
  pub by_pin : g.by ≡ by.Pin
  pub within : g.var < length pairs

given_is : (pairs : List (ℕ × ℕ)) (p : Pin) (g : Given) (o : Option ℕ) → number_of pairs p.f p.g ≡ o
    → option_map (λ n. record { var = n; value = p.value; by = by.Pin }) o ≡ Some g → IsPinGiven pairs g
given_is pairs p g None is e = absurd (nothing e)
  where
    nothing : None ≡ Some g → ⊥
    nothing x = cc
given_is pairs p g (Some n) is e = subst (λ x. IsPinGiven pairs x) (same_given e)
    (record { by_pin = refl; within = number_within pairs (in_order p.f p.g) n is })

pub pin_given : (pairs : List (ℕ × ℕ)) (pins : List Pin) (i : ℕ) (g : Given) → slice_get (filter_map (given_of_pin pairs) pins) i ≡ Some g
    → IsPinGiven pairs g
pin_given pairs pins i g h =
    let gs = filter_map (given_of_pin pairs) pins in
    let c : Contains gs g = (i, slice_get_within gs i g h, get_or_from_slice_get gs i g g h) in
    let r = in_filter_map (given_of_pin pairs) pins g c in
    given_is pairs r.0 g (number_of pairs r.0.f r.0.g) refl r.2

-- ---- a journal's givens

-- the givens after the starts
abbrev pub pins_given : Case → List Entry → ℕ → List Given
pins_given case j e = filter_map (given_of_pin case.pairs) (pins_of case j e)

fits_both : (vars : ℕ) (starts gs : List Given) → GivensFit vars starts → GivensFit vars gs → GivensFit vars (starts ++ gs)
fits_both vars [] gs f h i g is = h i g is
fits_both vars (x ∷ starts) gs f h zero g is = f 0 g is
fits_both vars (x ∷ starts) gs f h (suc i) g is = fits_both vars starts gs (λ k y at. f (suc k) y at) h i g is

-- each given is of a variable
pub givens_fit : (case : Case) (j : List Entry) (e : ℕ) → GivensFit case.system.vars (givens_of case j e)
givens_fit case j e = fits_both case.system.vars case.starts (pins_given case j e) case.valid.fit
    (λ i g is. subst (λ n. g.var < n) case.valid.paired (pin_given case.pairs (pins_of case j e) i g is).within)

-- ---- the pins again, from their givens

-- all of these pairs are among the others
abbrev AreAmong : List (ℕ × ℕ) → List (ℕ × ℕ) → Type 0
AreAmong pairs ps = (k : ℕ) (p : ℕ × ℕ) → slice_get ps k ≡ Some p → (n : ℕ) × (slice_get pairs n ≡ Some p)

back_on : (pairs : List (ℕ × ℕ)) (n : ℕ) (p : ℕ × ℕ) (orders : List Order) (rest : List Pin) → number_of pairs p.0 p.1 ≡ Some n → pair_at pairs n ≡ p
    → map (pin_of_given pairs) (filter_map (given_of_pin pairs) rest) ≡ rest
    → map (pin_of_given pairs) (filter_map (given_of_pin pairs) (map (pin_of p) orders ++ rest)) ≡ map (pin_of p) orders ++ rest
back_on pairs n p [] rest e at h = h
back_on pairs n p (s ∷ orders) rest e at h =
    ap (λ m. map (pin_of_given pairs) (cons_option (option_map (λ k. record { var = k; value = s; by = by.Pin }) m) (filter_map (given_of_pin pairs) (map (pin_of p) orders ++ rest)))) e
    ∙ ap (λ (q : ℕ × ℕ). pin_of q s ∷ map (pin_of_given pairs) (filter_map (given_of_pin pairs) (map (pin_of p) orders ++ rest))) at
    ∙ ap (λ ps. pin_of p s ∷ ps) (back_on pairs n p orders rest e at h)

back_all : (pairs ps : List (ℕ × ℕ)) (made : List Entry) → AreSorted pairs → AreAmong pairs ps
    → map (pin_of_given pairs) (filter_map (given_of_pin pairs) (pins_after ps made)) ≡ pins_after ps made
back_all pairs [] made sorted among = refl
back_all pairs (p ∷ ps) made sorted among =
    let r = among 0 p refl in
    back_on pairs r.0 p (in_force_after made p) (pins_after ps made) (number_there pairs r.0 p sorted r.1)
    (get_or_from_slice_get pairs r.0 p (0, 0) r.1) (back_all pairs ps made sorted (λ k q at. among (suc k) q at))

-- the pins of an epoch are those of its givens after the starts
pub pins_again : (case : Case) (j : List Entry) (e : ℕ) → AreSorted case.pairs
    → map (pin_of_given case.pairs) (pins_given case j e) ≡ pins_of case j e
pins_again case j e sorted = back_all case.pairs case.pairs (take e (changes j)) sorted (λ k p at. (k, at))

-- ---- no more pins than changes

-- the entry pins this order on the pair
abbrev says_pin : ℕ × ℕ → Order → Entry → Bool
says_pin p s (entry.Said v i (command.Pin f g value) told) = is_pair p (in_order f g) && is_order s (turn (ltb g f) value)
says_pin p s _ = false

-- how many entries pin it
abbrev pinning : ℕ × ℕ → Order → List Entry → ℕ
pinning p s [] = 0
pinning p s (x ∷ made) = one_if (says_pin p s x) + pinning p s made

same_order : {a b : Order} → Some (Some a) ≡ Some (Some b) → a ≡ b
same_order e = cc

says_it : (v : ℕ) (p : ℕ × ℕ) (s : Order) (x : Entry) → pinned_by v p x ≡ Some (Some s) → says_pin p s x ≡ true
says_it v p s (entry.Said w i (command.Pin f g value) told) e = by (w == v) (is_pair p (in_order f g)) (turn (ltb g f) value) e
  where
    by : (a b : Bool) (t : Order) → cond (a && b) (Some (Some t)) None ≡ Some (Some s) → (b && is_order s t) ≡ true
    by true true t h = is_order_of s t (sym (same_order h))
    by true false t h = cc
    by false b t h = cc
says_it v p s (entry.Said w i (command.Unpin f g) told) e = by (w == v) (is_pair p (in_order f g)) e
  where
    by : (a b : Bool) → cond (a && b) (Some None) None ≡ Some (Some s) → false ≡ true
    by true true h = cc
    by true false h = cc
    by false b h = cc
says_it v p s (entry.Said w i (command.Ask q) told) e = cc
says_it v p s (entry.Published n o) e = cc

last_says : (v : ℕ) (p : ℕ × ℕ) (s : Order) (made : List Entry) → last_of (filter_map (pinned_by v p) made) ≡ Some (Some s)
    → 0 < pinning p s made
last_says v p s [] e = cc
last_says v p s (x ∷ made) e = by (pinned_by v p x) (filter_map (pinned_by v p) made) refl (last_says v p s made) e
  where
    by : (o : Option (Option Order)) (rest : List (Option Order)) → pinned_by v p x ≡ o → (last_of rest ≡ Some (Some s) → 0 < pinning p s made)
        → last_of (cons_option o rest) ≡ Some (Some s) → 0 < one_if (says_pin p s x) + pinning p s made
    by None rest is later h = let l = later h in omega (arith, l)
    by (Some y) [] is later h = let n : one_if (says_pin p s x) ≡ 1 = ap one_if (says_it v p s x (is ∙ h)) in omega (arith, n)
    by (Some y) (z ∷ rest) is later h = let l = later h in omega (arith, l)

held_says : (p : ℕ × ℕ) (s : Order) (made : List Entry) → is_in_force made p s ≡ true → 0 < pinning p s made
held_says p s made t = let r = held_where made p s t in last_says r.0 p s made (there (last_of (filter_map (pinned_by r.0 p) made)) r.1)
  where
    there : (o : Option (Option Order)) → joined o ≡ Some s → o ≡ Some (Some s)
    there None e = cc
    there (Some x) e = ap Some e

few_on : (b c : Bool) (m n : ℕ) → (b ≡ true → 0 < m) → (c ≡ true → 0 < n)
    → length (cond b (Below ∷ cond c (Above ∷ []) []) (cond c (Above ∷ []) [])) ≤ m + n
few_on true true m n f g = let l = f refl in let h = g refl in omega (arith, l, h)
few_on true false m n f g = let l = f refl in omega (arith, l)
few_on false true m n f g = let h = g refl in omega (arith, h)
few_on false false m n f g = omega arith

-- the same of all pairs and orders
abbrev all_pinning : List (ℕ × ℕ) → List Entry → ℕ
all_pinning [] made = 0
all_pinning (p ∷ ps) made = (pinning p Below made + pinning p Above made) + all_pinning ps made

few_pins : (ps : List (ℕ × ℕ)) (made : List Entry) → length (pins_after ps made) ≤ all_pinning ps made
few_pins [] made = omega arith
few_pins (p ∷ ps) made =
    let a : length (map (pin_of p) (in_force_after made p) ++ pins_after ps made) ≡ length (map (pin_of p) (in_force_after made p)) + length (pins_after ps made)
    = length-append (map (pin_of p) (in_force_after made p)) (pins_after ps made) in
    let b : length (map (pin_of p) (in_force_after made p)) ≡ length (in_force_after made p) = length-map (in_force_after made p) (pin_of p) in
    let c : length (in_force_after made p) ≤ pinning p Below made + pinning p Above made
    = few_on (is_in_force made p Below) (is_in_force made p Above) (pinning p Below made) (pinning p Above made) (held_says p Below made) (held_says p Above made) in
    let d = few_pins ps made in
    omega (arith, a, b, c, d)

-- how many of the pairs and orders one entry pins
abbrev ones : List (ℕ × ℕ) → Entry → ℕ
ones [] x = 0
ones (p ∷ ps) x = (one_if (says_pin p Below x) + one_if (says_pin p Above x)) + ones ps x

pinning_next : (ps : List (ℕ × ℕ)) (x : Entry) (made : List Entry) → all_pinning ps (x ∷ made) ≡ ones ps x + all_pinning ps made
pinning_next [] x made = omega arith
pinning_next (p ∷ ps) x made = let r = pinning_next ps x made in omega (arith, r)

no_pinning : (ps : List (ℕ × ℕ)) → all_pinning ps [] ≡ 0
no_pinning [] = refl
no_pinning (p ∷ ps) = let r = no_pinning ps in omega (arith, r)

-- each pair stands once
abbrev AreDifferent : List (ℕ × ℕ) → Type 0
AreDifferent ps = (m n : ℕ) (p : ℕ × ℕ) → slice_get ps m ≡ Some p → slice_get ps n ≡ Some p → m ≡ n

same_pairs : (p q : ℕ × ℕ) → is_pair p q ≡ true → p ≡ q
same_pairs p q t = by (p.0 == q.0) refl t where
  by : (b : Bool) → (p.0 == q.0) ≡ b → (b && p.1 == q.1) ≡ true → p ≡ q
  by true e t = (λ i. (eqb-true p.0 q.0 e i, eqb-true p.1 q.1 t i))
  by false e t = cc

-- what a pin of this pair and order counts on one pair
on_one : (b : Bool) (t : Order) → (one_if (b && is_order Below t) + one_if (b && is_order Above t)) ≡ one_if b
on_one true Below = refl
on_one true Above = refl
on_one false t = refl

abbrev on_all : List (ℕ × ℕ) → ℕ × ℕ → Order → ℕ
on_all [] q t = 0
on_all (p ∷ ps) q t = (one_if (is_pair p q && is_order Below t) + one_if (is_pair p q && is_order Above t)) + on_all ps q t

away : (ps : List (ℕ × ℕ)) (q : ℕ × ℕ) (t : Order) → ((k : ℕ) → slice_get ps k ≡ Some q → ⊥) → on_all ps q t ≡ 0
away [] q t h = refl
away (p ∷ ps) q t h =
    let r = away ps q t (λ k at. h (suc k) at) in
    let o = on_one (is_pair p q) t in
    let z = by (is_pair p q) refl in
    omega (arith, r, o, z)
  where
    by : (b : Bool) → is_pair p q ≡ b → one_if b ≡ 0
    by true is = absurd (h 0 (ap Some (same_pairs p q is)))
    by false is = refl

rest : (p : ℕ × ℕ) (ps : List (ℕ × ℕ)) → AreDifferent (p ∷ ps) → AreDifferent ps
rest p ps d m n x a b = let r : suc m ≡ suc n = d (suc m) (suc n) x a b in omega (arith, r)

at_most_one : (ps : List (ℕ × ℕ)) (q : ℕ × ℕ) (t : Order) → AreDifferent ps → on_all ps q t ≤ 1
at_most_one [] q t d = omega arith
at_most_one (p ∷ ps) q t d = by (is_pair p q) refl (at_most_one ps q t (rest p ps d))
  where
    none : is_pair p q ≡ true → (k : ℕ) → slice_get ps k ≡ Some q → ⊥
    none is k at = let r : 0 ≡ suc k = d 0 (suc k) q (ap Some (same_pairs p q is)) at in absurd (omega (arith, r))

    by : (b : Bool) → is_pair p q ≡ b → on_all ps q t ≤ 1 → on_all (p ∷ ps) q t ≤ 1
    by true is later =
        let o = on_one (is_pair p q) t in let n : one_if (is_pair p q) ≡ 1 = ap one_if is in let r = away ps q t (none is) in
        omega (arith, o, n, r)
    by false is later =
        let o = on_one (is_pair p q) t in let n : one_if (is_pair p q) ≡ 0 = ap one_if is in
        omega (arith, o, n, later)

ones_few : (ps : List (ℕ × ℕ)) (x : Entry) → AreDifferent ps → ones ps x ≤ 1
ones_few ps (entry.Said v i (command.Pin f g value) told) d = let r = at_most_one ps (in_order f g) (turn (ltb g f) value) d in let e = same ps in omega (arith, r, e)
  where
    same : (ps : List (ℕ × ℕ)) → ones ps (entry.Said v i (command.Pin f g value) told) ≡ on_all ps (in_order f g) (turn (ltb g f) value)
    same [] = refl
    same (p ∷ ps) = ap (λ n. (one_if (says_pin p Below (entry.Said v i (command.Pin f g value) told)) + one_if (says_pin p Above (entry.Said v i (command.Pin f g value) told))) + n) (same ps)
ones_few ps (entry.Said v i (command.Unpin f g) told) d = let e = none ps in omega (arith, e)
  where
    none : (ps : List (ℕ × ℕ)) → ones ps (entry.Said v i (command.Unpin f g) told) ≡ 0
    none [] = refl
    none (p ∷ ps) = let r = none ps in omega (arith, r)
ones_few ps (entry.Said v i (command.Ask q) told) d = let e = none ps in omega (arith, e)
  where
    none : (ps : List (ℕ × ℕ)) → ones ps (entry.Said v i (command.Ask q) told) ≡ 0
    none [] = refl
    none (p ∷ ps) = let r = none ps in omega (arith, r)
ones_few ps (entry.Published n o) d = let e = none ps in omega (arith, e)
  where
    none : (ps : List (ℕ × ℕ)) → ones ps (entry.Published n o) ≡ 0
    none [] = refl
    none (p ∷ ps) = let r = none ps in omega (arith, r)

pinning_few : (ps : List (ℕ × ℕ)) (made : List Entry) → AreDifferent ps → all_pinning ps made ≤ length made
pinning_few ps [] d = let e = no_pinning ps in omega (arith, e)
pinning_few ps (x ∷ made) d =
    let e = pinning_next ps x made in let a = ones_few ps x d in let b = pinning_few ps made d in
    omega (arith, e, a, b)

given_few : (pairs : List (ℕ × ℕ)) (pins : List Pin) → length (filter_map (given_of_pin pairs) pins) ≤ length pins
given_few pairs [] = omega arith
given_few pairs (p ∷ pins) = by (given_of_pin pairs p) (given_few pairs pins)
  where
    by : (o : Option Given) → length (filter_map (given_of_pin pairs) pins) ≤ length pins
        → length (cons_option o (filter_map (given_of_pin pairs) pins)) ≤ suc (length pins)
    by None l = omega (arith, l)
    by (Some g) l = omega (arith, l)

take_few : {X : Type 0} (n : ℕ) (xs : List X) → length (take n xs) ≤ length xs
take_few zero xs = omega arith
take_few (suc n) [] = omega arith
take_few (suc n) (x ∷ xs) = let r = take_few n xs in omega (arith, r)

-- There are no more givens than starts and changes.
pub givens_few : (case : Case) (j : List Entry) (e : ℕ) → AreSorted case.pairs
    → length (givens_of case j e) ≤ length case.starts + length (changes j)
givens_few case j e sorted =
    let made = take e (changes j) in
    let a = length-append case.starts (pins_given case j e) in
    let b = given_few case.pairs (pins_of case j e) in
    let c = few_pins case.pairs made in
    let d = pinning_few case.pairs made (λ m n p x y. one_place (stands_once case.pairs p (Some m) (Some n) sorted x y)) in
    let f = take_few e (changes j) in
    omega (arith, a, b, c, d, f)
