-- Tests on all lists of values, in order.
use Rattle.std.proofs.Common.{◌≡◌, ℕ, zero, suc, ◌<◌, ◌++◌, Bool, true, false, ◌&&◌, cond, List, [], ◌∷◌, map, filter, length, refl, sym, ap, ◌∙◌, arith}
use Rattle.std.proofs.lemmas.List.{append-nil, map-append}
use Rattle.std.proofs.lemmas.List.Elements.{filter-append, filter_agree}
use Rattle.ff_basics.proofs.Tests.{first_true}
use Rattle.ff_tables.specs.declared.orders.Order.{Order}
use Rattle.ff_tables.specs.declared.orders.Order.TheVariants.{Below, Above}
use Rattle.ff_tables.specs.Orders.{is_order, row_at}
use Rattle.ff_tables.specs.Rows.{all_lists}

abbrev pub Test : Type 0
Test = List Order → Bool

-- the list has the value at the place
abbrev pub has : ℕ → Order → Test
has k s xs = is_order (row_at xs k) s

abbrev pub and : Test → Test → Test
and p q xs = p xs && q xs

abbrev pub onto : Test → Order → Test
onto p s xs = p (s ∷ xs)

filter_map_is : (p : Test) (s : Order) (ls : List (List Order))
    → filter p (map (λ xs. s ∷ xs) ls) ≡ map (λ xs. s ∷ xs) (filter (onto p s) ls)
filter_map_is p s [] = refl
filter_map_is p s (xs ∷ ls) = ap (λ r. cond (p (s ∷ xs)) ((s ∷ xs) ∷ r) r) (filter_map_is p s ls)
    ∙ out (p (s ∷ xs))
  where
    out : (b : Bool)
        → cond b ((s ∷ xs) ∷ map (λ ys. s ∷ ys) (filter (onto p s) ls))
        (map (λ ys. s ∷ ys) (filter (onto p s) ls))
        ≡ map (λ ys. s ∷ ys) (cond b (xs ∷ filter (onto p s) ls) (filter (onto p s) ls))
    out true = refl
    out false = refl

-- by the first value
pub filter_first : (p : Test) (n : ℕ)
    → filter p (all_lists (suc n)) ≡ map (λ xs. Below ∷ xs) (filter (onto p Below) (all_lists n)) ++ map
    (λ xs. Above ∷ xs) (filter (onto p Above) (all_lists n))
filter_first p n =
    filter-append p (map (λ xs. Below ∷ xs) (all_lists n)) (map (λ xs. Above ∷ xs) (all_lists n))
    ∙ ap (λ ls. ls ++ filter p (map (λ xs. Above ∷ xs) (all_lists n))) (filter_map_is p Below (all_lists n))
    ∙ ap (λ ls. map (λ xs. Below ∷ xs) (filter (onto p Below) (all_lists n)) ++ ls)
    (filter_map_is p Above (all_lists n))

fails : (b : Bool) → (b ≡ true → ⊥) → b ≡ false
fails true never = absurd (never refl)
fails false never = refl

-- no list of n values passes
abbrev pub AllFail : ℕ → Test → Type 0
AllFail n p = (xs : List Order) → length xs ≡ n → p xs ≡ true → ⊥

pub none_pass : (n : ℕ) (p : Test) → AllFail n p → filter p (all_lists n) ≡ []
none_pass zero p never = ap (λ b. cond b ([] ∷ []) []) (fails (p []) (never [] refl))
none_pass (suc n) p never =
    filter_first p n
    ∙ ap (λ ls. map (λ xs. Below ∷ xs) ls ++ map (λ xs. Above ∷ xs) (filter (onto p Above) (all_lists n)))
    (none_pass n (onto p Below) (λ xs l e. never (Below ∷ xs) (ap suc l) e))
    ∙ ap (λ ls. map (λ xs. Above ∷ xs) ls)
    (none_pass n (onto p Above) (λ xs l e. never (Above ∷ xs) (ap suc l) e))

suc_same : (m n : ℕ) → suc m ≡ suc n → m ≡ n
suc_same m n e = omega (arith, e)

rest_same : (s t : Order) (xs ys : List Order) → s ∷ xs ≡ t ∷ ys → xs ≡ ys
rest_same s t xs ys e = cc

differ : (xs ys : List Order) → Below ∷ xs ≡ Above ∷ ys → ⊥
differ xs ys e = cc

-- one list passes
pub one_passes : (n : ℕ) (p : Test) (ys : List Order) → length ys ≡ n → p ys ≡ true
    → ((xs : List Order) → length xs ≡ n → p xs ≡ true → xs ≡ ys) → filter p (all_lists n) ≡ ys ∷ []
one_passes zero p [] l e only = ap (λ b. cond b ([] ∷ []) []) e
one_passes zero p (y ∷ ys) l e only = absurd (omega (arith, l))
one_passes (suc n) p [] l e only = absurd (omega (arith, l))
one_passes (suc n) p (Below ∷ ys) l e only =
    filter_first p n
    ∙ ap (λ ls. map (λ xs. Below ∷ xs) ls ++ map (λ xs. Above ∷ xs) (filter (onto p Above) (all_lists n)))
    (one_passes n (onto p Below) ys (suc_same _ _ l) e
    (λ xs m h. rest_same Below Below xs ys (only (Below ∷ xs) (ap suc m) h)))
    ∙ ap (λ ls. (Below ∷ ys) ∷ map (λ xs. Above ∷ xs) ls)
    (none_pass n (onto p Above) (λ xs m h. differ ys xs (sym (only (Above ∷ xs) (ap suc m) h))))
one_passes (suc n) p (Above ∷ ys) l e only =
    filter_first p n
    ∙ ap (λ ls. map (λ xs. Below ∷ xs) ls ++ map (λ xs. Above ∷ xs) (filter (onto p Above) (all_lists n)))
    (none_pass n (onto p Below) (λ xs m h. differ xs ys (only (Below ∷ xs) (ap suc m) h)))
    ∙ ap (λ ls. map (λ xs. Above ∷ xs) ls)
    (one_passes n (onto p Above) ys (suc_same _ _ l) e
    (λ xs m h. rest_same Above Above xs ys (only (Above ∷ xs) (ap suc m) h)))

and_true : (b : Bool) → b ≡ (b && true)
and_true true = refl
and_true false = refl

and_false : (b : Bool) → (b && false) ≡ true → ⊥
and_false true e = cc
and_false false e = cc

-- all lists that pass have one value at each place before k
abbrev pub FrontIsOne : ℕ → Test → ℕ → Type 0
FrontIsOne n p k = (j : ℕ) → j < k
    → (s : Order) × ((xs : List Order) → length xs ≡ n → p xs ≡ true → row_at xs j ≡ s)

front_on : (n : ℕ) (p : Test) (k : ℕ) (s : Order) → FrontIsOne (suc n) p (suc k) → FrontIsOne n (onto p s) k
front_on n p k s one j l = let r = one (suc j)
    (omega (arith, l)) in (r.0, λ xs m e. r.1 (s ∷ xs) (ap suc m) e)

-- the lists that pass are those with Below at k and then those with Above, where they are alike before k
pub splits : (n : ℕ) (p : Test) (k : ℕ) → k < n → FrontIsOne n p k
    → filter p (all_lists n) ≡ filter (and p (has k Below)) (all_lists n) ++ filter (and p (has k Above))
    (all_lists n)
splits zero p k l one = absurd (omega (arith, l))
splits (suc n) p zero l one =
    filter_first p n
    ∙ sym (ap (λ ls. ls ++ filter (and p (has 0 Above)) (all_lists (suc n))) below
    ∙ ap (λ ls. map (λ xs. Below ∷ xs) (filter (onto p Below) (all_lists n)) ++ ls) above)
  where
    below : filter (and p (has 0 Below)) (all_lists (suc n)) ≡ map (λ xs. Below ∷ xs)
        (filter (onto p Below) (all_lists n))
    below =
        filter_first (and p (has 0 Below)) n
        ∙ ap (λ ls. map (λ xs. Below ∷ xs) (filter (onto (and p (has 0 Below)) Below) (all_lists n)) ++ map
        (λ xs. Above ∷ xs) ls)
        (none_pass n (onto (and p (has 0 Below)) Above) (λ xs m e. and_false (p (Above ∷ xs)) e))
        ∙ append-nil (map (λ xs. Below ∷ xs) (filter (onto (and p (has 0 Below)) Below) (all_lists n)))
        ∙ ap (map (λ xs. Below ∷ xs))
        (sym (filter_agree (onto p Below) (onto (and p (has 0 Below)) Below)
        (λ xs. and_true (p (Below ∷ xs))) (all_lists n)))

    above : filter (and p (has 0 Above)) (all_lists (suc n)) ≡ map (λ xs. Above ∷ xs)
        (filter (onto p Above) (all_lists n))
    above =
        filter_first (and p (has 0 Above)) n
        ∙ ap (λ ls. map (λ xs. Below ∷ xs) ls ++ map (λ xs. Above ∷ xs)
        (filter (onto (and p (has 0 Above)) Above) (all_lists n)))
        (none_pass n (onto (and p (has 0 Above)) Below) (λ xs m e. and_false (p (Below ∷ xs)) e))
        ∙ ap (map (λ xs. Above ∷ xs))
        (sym (filter_agree (onto p Above) (onto (and p (has 0 Above)) Above)
        (λ xs. and_true (p (Above ∷ xs))) (all_lists n)))
splits (suc n) p (suc k) l one = sort (one 0 (omega arith)).0 (one 0 (omega arith)).1
    (splits n (onto p Below) k (omega (arith, l)) (front_on n p k Below one))
    (splits n (onto p Above) k (omega (arith, l)) (front_on n p k Above one))
  where
    with_below : (q : Test) → AllFail n (onto q Above)
        → filter q (all_lists (suc n)) ≡ map (λ xs. Below ∷ xs) (filter (onto q Below) (all_lists n))
    with_below q never =
        filter_first q n
        ∙ ap (λ ls. map (λ xs. Below ∷ xs) (filter (onto q Below) (all_lists n)) ++ map (λ xs. Above ∷ xs) ls)
        (none_pass n (onto q Above) never)
        ∙ append-nil (map (λ xs. Below ∷ xs) (filter (onto q Below) (all_lists n)))

    with_above : (q : Test) → AllFail n (onto q Below)
        → filter q (all_lists (suc n)) ≡ map (λ xs. Above ∷ xs) (filter (onto q Above) (all_lists n))
    with_above q never =
        filter_first q n
        ∙ ap (λ ls. map (λ xs. Below ∷ xs) ls ++ map (λ xs. Above ∷ xs) (filter (onto q Above) (all_lists n)))
        (none_pass n (onto q Below) never)

    joined : (s : Order)
        → ((q : Test) → ((xs : List Order) → length xs ≡ suc n → q xs ≡ true → p xs ≡ true) → filter q
        (all_lists (suc n)) ≡ map (λ xs. s ∷ xs) (filter (onto q s) (all_lists n)))
        → filter (onto p s) (all_lists n) ≡ filter (and (onto p s) (has k Below)) (all_lists n) ++ filter
        (and (onto p s) (has k Above)) (all_lists n)
        → filter p (all_lists (suc n)) ≡ filter (and p (has (suc k) Below)) (all_lists (suc n)) ++ filter
        (and p (has (suc k) Above)) (all_lists (suc n))
    joined s by same =
        by p (λ xs m e. e) ∙ ap (map (λ xs. s ∷ xs)) same
        ∙ map-append (λ xs. s ∷ xs) (filter (and (onto p s) (has k Below)) (all_lists n))
        (filter (and (onto p s) (has k Above)) (all_lists n))
        ∙ sym (ap (λ ls. ls ++ filter (and p (has (suc k) Above)) (all_lists (suc n)))
        (by (and p (has (suc k) Below)) (λ xs m e. first_true (p xs) _ e))
        ∙ ap (λ ls. map (λ xs. s ∷ xs) (filter (and (onto p s) (has k Below)) (all_lists n)) ++ ls)
        (by (and p (has (suc k) Above)) (λ xs m e. first_true (p xs) _ e)))

    other : Below ≡ Above → ⊥
    other e = cc

    sort : (s : Order) → ((xs : List Order) → length xs ≡ suc n → p xs ≡ true → row_at xs 0 ≡ s)
        → filter (onto p Below) (all_lists n) ≡ filter (and (onto p Below) (has k Below)) (all_lists n) ++
        filter (and (onto p Below) (has k Above)) (all_lists n)
        → filter (onto p Above) (all_lists n) ≡ filter (and (onto p Above) (has k Below)) (all_lists n) ++
        filter (and (onto p Above) (has k Above)) (all_lists n)
        → filter p (all_lists (suc n)) ≡ filter (and p (has (suc k) Below)) (all_lists (suc n)) ++ filter
        (and p (has (suc k) Above)) (all_lists (suc n))
    sort Below is b a = joined Below
        (λ q up. with_below q
        (λ xs m e. other (sym (is (Above ∷ xs) (ap suc m) (up (Above ∷ xs) (ap suc m) e))))) b
    sort Above is b a = joined Above
        (λ q up. with_above q (λ xs m e. other (is (Below ∷ xs) (ap suc m) (up (Below ∷ xs) (ap suc m) e)))) a
