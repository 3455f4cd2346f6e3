-- What each value of a variable adds to a cost.
use Rattle.std.proofs.Common.{◌≡◌, ◌≢◌, ℕ, zero, suc, ◌+◌, ◌<◌, ◌≤◌, ◌⊎◌, inl, inr, ◌∙◌, refl, sym, ap, subst, arith, Bool, true, false, List, [], ◌∷◌, ◌++◌, length, count_by, slice_get, slice_index, slice_set, slice_index_or, take, drop, ◌-◌, replicate, Option, Some, None, if◌then◌else◌, nat_lt, ◌==◌}
use Rattle.std.proofs.lemmas.Bool.{cases_eq, eq-eqb, ne_eqb, lt-ltb, le-ltb}
use Rattle.std.proofs.lemmas.List.{get_or-set_same, get_or-set_other, get_or-replicate, length-replicate, length-set, take_more, drop_more, drop_all, length-drop, length-take-le}
use Rattle.std.proofs.lemmas.Option.{slice_get_within}
use Rattle.ff_tables.specs.declared.orders.Order.{Order}
use Rattle.ff_tables.specs.declared.orders.Order.TheVariants.{Below, Above}
use Rattle.ff_tables.specs.Orders.{turn}
use Rattle.ff_types.specs.declared.pins.Pin.{Pin}
use Rattle.ff_types.specs.Pairs.{number_of, in_order, AreSorted}
use Rattle.ff_types.specs.Assignments.{says_above, says_below, value_at, set_of}
use Rattle.ff_propagate.specs.Solutions.{joint}
use Rattle.ff_propagate.proofs.Joining.{Stands, joint_out}
use Rattle.ff_crossings.proofs.PairSets.{turned_number, lower_value, upper_value, either_order}
use Rattle.ff_near.specs.Distance.{has_order, decides_otherwise, share, cost, against}
use Rattle.ff_near.specs.Wishes.{order_against, says}
use Rattle.ff_near.specs.Weights.{AreCounts, AreWeights, IsRising, weight_in, count_of}
use Rattle.ff_near.proofs.Sums.{bit, count_cons, SplitsAt, share_split}

-- an item gets the other order exactly where its pair's variable has the value that it is against
pub otherwise : (pairs : List (ℕ × ℕ)) (values : ℕ → Option Order) (p : Pin) (n : ℕ) → number_of pairs p.f p.g ≡ Some n → p.f ≢ p.g
    → decides_otherwise pairs values p ≡ says (order_against p) (values n)
otherwise pairs values p n is apart = by p.value (either_order p.f p.g apart) where
  turned : number_of pairs p.g p.f ≡ Some n
  turned = sym (turned_number pairs p.f p.g apart) ∙ is

  by : (v : Order) → (p.f < p.g) ⊎ (p.g < p.f) → has_order (set_of pairs values) p.g p.f v ≡ says (turn (nat_lt p.f p.g) v) (values n)
  by Above (inl l) = upper_value pairs values p.g p.f n turned l ∙ sym (ap (λ b. says (turn b Above) (values n)) (lt-ltb p.f p.g l))
  by Above (inr l) = lower_value pairs values p.g p.f n turned l ∙ sym (ap (λ b. says (turn b Above) (values n)) (le-ltb p.f p.g (omega (arith, l))))
  by Below (inl l) = lower_value pairs values p.f p.g n is l ∙ sym (ap (λ b. says (turn b Below) (values n)) (lt-ltb p.f p.g l))
  by Below (inr l) = upper_value pairs values p.f p.g n is l ∙ sym (ap (λ b. says (turn b Below) (values n)) (le-ltb p.f p.g (omega (arith, l))))

-- the two faces of a pair are different
pub two_faces : (pairs : List (ℕ × ℕ)) → AreSorted pairs → (f g n : ℕ) → slice_get pairs n ≡ Some (in_order f g) → f ≢ g
two_faces pairs sorted f g n there e =
    let l = sorted.rising n pair (there ∙ ap Some (subst (λ x. in_order f x ≡ pair) e (by (nat_lt f f)))) in omega (arith, l)
  where
    pair : ℕ × ℕ
    pair = (f, f)

    by : (b : Bool) → (if b then pair else pair) ≡ pair
    by true = refl
    by false = refl

-- one variable alone
one_splits : (u : ℕ) (x : Order) (part : List ℕ) (xs : List Order) → (Stands part u → ⊥)
    → (v : ℕ) → SplitsAt (joint (λ w. None) (u ∷ part) (x ∷ xs)) (joint (λ w. None) (u ∷ []) (x ∷ [])) (joint (λ w. None) part xs) v
one_splits u x part xs out v = elim (cases_eq u v) [
  | inl e ↦ inl (head (joint (λ w. None) part xs v) e ∙ sym (head None e), subst (λ w. joint (λ z. None) part xs w ≡ None) e (joint_out (λ w. None) part xs u out))
  | inr d ↦ inr (tail (joint (λ w. None) part xs v) d, tail None d)
] where
  head : (o : Option Order) → u ≡ v → (if u == v then Some x else o) ≡ Some x
  head o e = ap (λ t. if t then Some x else o) (eq-eqb u v e)

  tail : (o : Option Order) → (u ≡ v → ⊥) → (if u == v then Some x else o) ≡ o
  tail o e = ap (λ t. if t then Some x else o) (ne_eqb u v e)

pub cost_cons : (pairs : List (ℕ × ℕ)) (list : List Pin) (u : ℕ) (x : Order) (part : List ℕ) (xs : List Order) → (Stands part u → ⊥)
    → cost pairs list (u ∷ part) (x ∷ xs) ≡ against pairs list x u + cost pairs list part xs
cost_cons pairs list u x part xs out = share_split pairs list _ _ _ (one_splits u x part xs out)

-- counts are no longer than their lists
pub count_within : {X : Type 0} (p : X → Bool) (xs : List X) → count_by p xs ≤ length xs
count_within p [] = omega arith
count_within p (x ∷ xs) = let a = count_cons p x xs in let b = count_within p xs in let c = one (p x) in omega (arith, a, b, c) where
  one : (b : Bool) → bit b ≤ 1
  one true = omega arith
  one false = omega arith

pub count_last : {X : Type 0} (p : X → Bool) (xs : List X) (x : X) → count_by p (xs ++ x ∷ []) ≡ count_by p xs + bit (p x)
count_last p [] x = let a = count_cons p x [] in omega (arith, a)
count_last p (y ∷ xs) x = let a = count_cons p y (xs ++ x ∷ []) in let b = count_cons p y xs in let c = count_last p xs x in omega (arith, a, b, c)

-- no value is known of another variable
single_says : (s x : Order) (u n : ℕ) → says s (joint (λ w. None) (u ∷ []) (x ∷ []) n) ≡ (if u == n then says s (Some x) else false)
single_says s x u n = by (u == n) s where
  by : (b : Bool) (s : Order) → says s (if b then Some x else None) ≡ (if b then says s (Some x) else false)
  by true s = refl
  by false Above = refl
  by false Below = refl

-- one item more: it counts against one value of one variable
pub against_last : (pairs : List (ℕ × ℕ)) (list : List Pin) (p : Pin) (n : ℕ) → number_of pairs p.f p.g ≡ Some n → p.f ≢ p.g
    → (x : Order) (u : ℕ) → against pairs (list ++ p ∷ []) x u ≡ against pairs list x u + bit (if u == n then says (order_against p) (Some x) else false)
against_last pairs list p n is apart x u =
    count_last (decides_otherwise pairs (joint (λ w. None) (u ∷ []) (x ∷ []))) list p
    ∙ ap (λ b. against pairs list x u + bit b) (otherwise pairs (joint (λ w. None) (u ∷ []) (x ∷ [])) p n is apart ∙ single_says (order_against p) x u n)

pub none_against : (pairs : List (ℕ × ℕ)) (x : Order) (counts : List ℕ) → counts ≡ replicate (length pairs) 0 → AreCounts pairs [] x counts
none_against pairs x counts e = record {
  wide = ap length e ∙ length-replicate (length pairs) 0;
  each = λ u l. ap (λ c. slice_index c u) e ∙ get_or-replicate (length pairs) u 0 0 l;
}

module _ (pairs : List (ℕ × ℕ)) (list : List Pin) (p : Pin) (n : ℕ) (is : number_of pairs p.f p.g ≡ Some n) (apart : p.f ≢ p.g)
    (within : n < length pairs) (x : Order) (counts : List ℕ) (are : AreCounts pairs list x counts) where
  -- the value that it is against has one more at its variable
  pub one_more_against : order_against p ≡ x → AreCounts pairs (list ++ p ∷ []) x (slice_set counts n (slice_index counts n + 1))
  one_more_against e = record {
    wide = length-set counts n (slice_index counts n + 1) ∙ are.wide;
    each = λ u l. elim (cases_eq u n) [
      | inl s ↦ subst (λ k. slice_index (slice_set counts n (slice_index counts n + 1)) k ≡ against pairs (list ++ p ∷ []) x k) (sym s) here
      | inr d ↦ get_or-set_other counts n u (slice_index counts n + 1) 0 d ∙ are.each u l
          ∙ (let a = against_last pairs list p n is apart x u in let b = away u d (says (order_against p) (Some x)) in omega (arith, a, b))
    ];
  } where
    here : slice_index (slice_set counts n (slice_index counts n + 1)) n ≡ against pairs (list ++ p ∷ []) x n
    here =
        let a = get_or-set_same counts n (slice_index counts n + 1) 0 (subst (λ m. n < m) (sym are.wide) within) in
        let b = are.each n within in
        let c = against_last pairs list p n is apart x n in
        let d = at_n in
        omega (arith, a, b, c, d)
      where
        said : (s : Order) → says s (Some s) ≡ true
        said Above = refl
        said Below = refl

        at_n : bit (if n == n then says (order_against p) (Some x) else false) ≡ 1
        at_n = ap (λ t. bit (if t then says (order_against p) (Some x) else false)) (eq-eqb n n refl) ∙ ap bit (subst (λ s. says (order_against p) (Some s) ≡ true) e (said (order_against p)))

    away : (u : ℕ) → (u ≡ n → ⊥) → (b : Bool) → bit (if u == n then b else false) ≡ 0
    away u d b = ap (λ t. bit (if t then b else false)) (ne_eqb u n d)

  -- the other value has as many as before
  pub none_more_against : (order_against p ≡ x → ⊥) → AreCounts pairs (list ++ p ∷ []) x counts
  none_more_against d = record {
    wide = are.wide;
    each = λ u l. are.each u l ∙ (let a = against_last pairs list p n is apart x u in let b = nothing u (u == n) in omega (arith, a, b));
  } where
    unsaid : (s t : Order) → (s ≡ t → ⊥) → says s (Some t) ≡ false
    unsaid Above Above d = absurd (d refl)
    unsaid Above Below d = refl
    unsaid Below Above d = refl
    unsaid Below Below d = absurd (d refl)

    nothing : (u : ℕ) (b : Bool) → bit (if b then says (order_against p) (Some x) else false) ≡ 0
    nothing u true = ap bit (unsaid (order_against p) x d)
    nothing u false = refl

below_above : (o : Order) → o ≡ Below → o ≡ Above → ⊥
below_above o e f = cc

-- as many as there are listed pairs at most
pub counted_within : (pairs : List (ℕ × ℕ)) (list : List Pin) (x : Order) (counts : List ℕ) → AreCounts pairs list x counts → (n : ℕ) → n < length pairs
    → slice_index counts n ≤ length list
counted_within pairs list x counts are n l = subst (λ k. k ≤ length list) (sym (are.each n l)) (count_within _ list)

-- one item more, by the order that it is against
module _ (pairs : List (ℕ × ℕ)) (list : List Pin) (p : Pin) (n : ℕ) (is : number_of pairs p.f p.g ≡ Some n) (apart : p.f ≢ p.g)
    (within : n < length pairs) (below above : List ℕ) (are : AreWeights pairs list below above) where
  pub weighed_below : order_against p ≡ Below → AreWeights pairs (list ++ p ∷ []) (slice_set below n (slice_index below n + 1)) above
  weighed_below e = record {
    below_counts = one_more_against pairs list p n is apart within Below below are.below_counts e;
    above_counts = none_more_against pairs list p n is apart within Above above are.above_counts (below_above (order_against p) e);
  }

  pub weighed_above : order_against p ≡ Above → AreWeights pairs (list ++ p ∷ []) below (slice_set above n (slice_index above n + 1))
  weighed_above e = record {
    below_counts = none_more_against pairs list p n is apart within Below below are.below_counts (λ f. below_above (order_against p) f e);
    above_counts = one_more_against pairs list p n is apart within Above above are.above_counts e;
  }

-- the same of one item more of a list
module _ (pairs : List (ℕ × ℕ)) (sorted : AreSorted pairs) (list : List Pin) (i : ℕ) (d : Pin) (l : i < length list) (n : ℕ)
    (is : number_of pairs (slice_index_or list i d).f (slice_index_or list i d).g ≡ Some n)
    (there : slice_get pairs n ≡ Some (in_order (slice_index_or list i d).f (slice_index_or list i d).g))
    (below above : List ℕ) (are : AreWeights pairs (take i list) below above) where
  apart : (slice_index_or list i d).f ≢ (slice_index_or list i d).g
  apart = two_faces pairs sorted _ _ n there

  within : n < length pairs
  within = slice_get_within pairs n _ there

  pub one_below : (counts : List ℕ) → counts ≡ slice_set below n (slice_index below n + 1) → (o : Order) → o ≡ order_against (slice_index_or list i d) → o ≡ Below
      → AreWeights pairs (take (i + 1) list) counts above
  one_below counts e o f b = subst (λ (s : List Pin). AreWeights pairs s counts above) (sym (take_more list i d l))
      (subst (λ (c : List ℕ). AreWeights pairs (take i list ++ slice_index_or list i d ∷ []) c above) (sym e)
      (weighed_below pairs (take i list) (slice_index_or list i d) n is apart within below above are (sym f ∙ b)))

  pub one_above : (counts : List ℕ) → counts ≡ slice_set above n (slice_index above n + 1) → (o : Order) → o ≡ order_against (slice_index_or list i d) → o ≡ Above
      → AreWeights pairs (take (i + 1) list) below counts
  one_above counts e o f b = subst (λ (s : List Pin). AreWeights pairs s below counts) (sym (take_more list i d l))
      (subst (λ (c : List ℕ). AreWeights pairs (take i list ++ slice_index_or list i d ∷ []) below c) (sym e)
      (weighed_above pairs (take i list) (slice_index_or list i d) n is apart within below above are (sym f ∙ b)))

-- what a value of a variable adds
pub weight_is : (pairs : List (ℕ × ℕ)) (list : List Pin) (below above : List ℕ) → AreWeights pairs list below above → (x : Order) (u : ℕ) → u < length pairs
    → weight_in below above x u ≡ against pairs list x u
weight_is pairs list below above are Below u l = are.below_counts.each u l
weight_is pairs list below above are Above u l = are.above_counts.each u l

-- what the last values cost, and one more before them
module _ (pairs : List (ℕ × ℕ)) (list : List Pin) (part : List ℕ) (values : List Order) (rising : IsRising part) (as_many : length values ≡ length part) where
  no_value_at : (f g : ℕ) → set_of pairs (λ v. None) f g ≡ false
  no_value_at f g = by (nat_lt f g) (number_of pairs f g) where
    by : (b : Bool) (n : Option ℕ) → (if b then says_above (value_at (λ v. None) n) else says_below (value_at (λ v. None) n)) ≡ false
    by true (Some n) = refl
    by true None = refl
    by false (Some n) = refl
    by false None = refl

  -- a rising list has each number once
  later_out : (k : ℕ) → k < length part → Stands (drop (k + 1) part) (slice_index part k) → ⊥
  later_out k l (j, lj, e) =
      let a = length-drop (k + 1) part in
      let r = rising k (k + 1 + j) (omega arith) (omega (arith, lj, a)) in
      let f : slice_index (drop (k + 1) part) j ≡ slice_index part (k + 1 + j) = get_dropped part (k + 1) j in
      omega (arith, r, e, f)
    where
      next : (m j : ℕ) → suc m + j ≡ suc (m + j)
      next m j = omega arith

      get_dropped : (xs : List ℕ) (m j : ℕ) → slice_index (drop m xs) j ≡ slice_index xs (m + j)
      get_dropped xs zero j = ap (slice_index xs) (omega arith)
      get_dropped [] (suc m) j = refl
      get_dropped (x ∷ xs) (suc m) j = get_dropped xs m j ∙ sym (ap (slice_index (x ∷ xs)) (next m j))

  pub cost_at : (k : ℕ) → k < length part → (d : Order) → cost pairs list (drop k part) (drop k values)
      ≡ against pairs list (slice_index_or values k d) (slice_index part k) + cost pairs list (drop (k + 1) part) (drop (k + 1) values)
  cost_at k l d = ap (λ (p : List ℕ). cost pairs list p (drop k values)) (drop_more part k 0 l)
      ∙ ap (λ (v : List Order). cost pairs list (slice_index part k ∷ drop (k + 1) part) v) (drop_more values k d (subst (λ n. k < n) (sym as_many) l))
      ∙ cost_cons pairs list (slice_index part k) (slice_index_or values k d) (drop (k + 1) part) (drop (k + 1) values) (later_out k l)

  pub no_cost : cost pairs list (drop (length part) part) (drop (length part) values) ≡ 0
  no_cost = ap (λ (p : List ℕ). cost pairs list p (drop (length part) values)) (drop_all (length part) part (omega arith)) ∙ nothing list where
    nothing : (items : List Pin) → share pairs items (λ v. None) ≡ 0
    nothing [] = refl
    nothing (p ∷ items) = let a = count_cons (decides_otherwise pairs (λ v. None)) p items in let b = nothing items in let c = none p.f p.g p.value in omega (arith, a, b, c) where
      none : (f g : ℕ) (v : Order) → bit (has_order (set_of pairs (λ v. None)) g f v) ≡ 0
      none f g Above = ap bit (no_value_at g f)
      none f g Below = ap bit (no_value_at f g)

  pub cost_within : (part : List ℕ) (values : List Order) → cost pairs list part values ≤ length list
  cost_within part values = count_within _ list

  -- the cost from one place further back
  pub cost_before : (k : ℕ) → 0 < k → k ≤ length part → (d : Order) (total one : ℕ) → total ≡ cost pairs list (drop k part) (drop k values)
      → one ≡ against pairs list (slice_index_or values (k - 1) d) (slice_index part (k - 1))
      → (total + one ≡ cost pairs list (drop (k - 1) part) (drop (k - 1) values)) × (total + one ≤ length list)
  cost_before k some within d total one e f = (sum, subst (λ n. n ≤ length list) (sym sum) (cost_within (drop (k - 1) part) (drop (k - 1) values))) where
    same : k - 1 + 1 ≡ k
    same = omega (arith, some)

    sum : total + one ≡ cost pairs list (drop (k - 1) part) (drop (k - 1) values)
    sum =
        let a = cost_at (k - 1) (omega (arith, some, within)) d in
        let b : cost pairs list (drop (k - 1 + 1) part) (drop (k - 1 + 1) values) ≡ cost pairs list (drop k part) (drop k values) = ap (λ m. cost pairs list (drop m part) (drop m values)) same in
        omega (arith, a, b, e, f)

  pub all_cost : (k : ℕ) → k ≤ 0 → (total : ℕ) → total ≡ cost pairs list (drop k part) (drop k values) → total ≡ cost pairs list part values
  all_cost k none total e = subst (λ m. total ≡ cost pairs list (drop m part) (drop m values)) (nothing none) e where
    nothing : k ≤ 0 → k ≡ 0
    nothing l = omega (arith, l)

-- one given order more
pub share_more : (pairs : List (ℕ × ℕ)) (list : List Pin) (values : ℕ → Option Order) (i : ℕ) (d : Pin) → i < length list
    → share pairs (take (i + 1) list) values ≡ share pairs (take i list) values + count_of (decides_otherwise pairs values (slice_index_or list i d))
share_more pairs list values i d l = ap (λ (s : List Pin). share pairs s values) (take_more list i d l)
    ∙ count_last (decides_otherwise pairs values) (take i list) (slice_index_or list i d)
    ∙ ap (λ n. share pairs (take i list) values + n) (same (decides_otherwise pairs values (slice_index_or list i d)))
  where
    same : (b : Bool) → bit b ≡ count_of b
    same true = refl
    same false = refl

-- no more than there are
pub share_within : (pairs : List (ℕ × ℕ)) (list : List Pin) (values : ℕ → Option Order) (i : ℕ) → i ≤ length list → share pairs (take i list) values ≤ i
share_within pairs list values i l = subst (λ n. share pairs (take i list) values ≤ n) (length-take-le i list l) (count_within (decides_otherwise pairs values) (take i list))

pub counted_more : (pairs : List (ℕ × ℕ)) (list : List Pin) (values : ℕ → Option Order) (i : ℕ) (d : Pin) → i < length list → (count result : ℕ) (is : Bool)
    → result ≡ count + count_of is → is ≡ decides_otherwise pairs values (slice_index_or list i d) → count ≡ share pairs (take i list) values
    → result ≡ share pairs (take (i + 1) list) values
counted_more pairs list values i d l count result is e f g =
    let a = share_more pairs list values i d l in let b : count_of is ≡ count_of (decides_otherwise pairs values (slice_index_or list i d)) = ap count_of f in omega (arith, a, b, e, g)

pub says_same : (a b : Order) (x y : Option Order) → a ≡ b → x ≡ y → says a x ≡ says b y
says_same a b x y e f = ap (λ o. says o x) e ∙ ap (says b) f
