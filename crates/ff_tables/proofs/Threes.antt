-- Known values of the three terms of transitivity.
use Rattle.std.proofs.Common.{◌≡◌, ℕ, zero, suc, ◌<◌, ◌&&◌, true, false, List, map, length, refl, sym, ap, ◌∙◌, subst, arith, inl, Option, Some}
use Rattle.ff_tables.specs.declared.orders.Order.{Order}
use Rattle.ff_tables.specs.declared.orders.Order.TheVariants.{Below, Above}
use Rattle.ff_tables.specs.declared.terms.Kind.TheVariants.{Transitivity}
use Rattle.ff_tables.specs.declared.terms.Term.{Term}
use Rattle.ff_tables.specs.Orders.{turn, turned_option, is_order, fits, term_at, row_at}
use Rattle.ff_tables.specs.Forces.{known_at, agrees_below, Knows, NoneAgrees, SomeAgrees, SettlesBelow}
use Rattle.ff_tables.specs.Masks.{bits}
use Rattle.ff_tables.specs.Rows.{rows_of, has_no_cycle}
use Rattle.ff_tables.proofs.Agreeing.{some_rows, none_rows}

-- the rows with these values
abbrev rows_with : Order → Order → Order → ℕ
rows_with a b c = bits (map (λ row. ((true && is_order a (row_at row 0)) && is_order b (row_at row 1))
    && is_order c (row_at row 2)) (rows_of Transitivity))

none_with : (a b c : Order) → has_no_cycle a b c ≡ false → rows_with a b c ≡ 0
unfolding rows_of bits
none_with Above Below Above h = refl
none_with Below Above Below h = refl
none_with Above Above Above h = cc
none_with Above Above Below h = cc
none_with Above Below Below h = cc
none_with Below Above Above h = cc
none_with Below Below Above h = cc
none_with Below Below Below h = cc

some_with : (a b c : Order) → has_no_cycle a b c ≡ true → (n : ℕ) × (rows_with a b c ≡ suc n)
unfolding rows_of bits
some_with Above Below Above h = cc
some_with Below Above Below h = cc
some_with Above Above Above h = (_, refl)
some_with Above Above Below h = (_, refl)
some_with Above Below Below h = (_, refl)
some_with Below Above Above h = (_, refl)
some_with Below Below Above h = (_, refl)
some_with Below Below Below h = (_, refl)

module _ (ts : List Term) (f : ℕ → Option Order) (a b c : Order) (three : length ts ≡ 3)
    (at_p : f (term_at ts 0).var ≡ Some a) (at_q : f (term_at ts 1).var ≡ Some b) (at_r : f (term_at ts 2).var ≡ Some c) where
  abbrev pub value : ℕ → Order → Order
  value j s = turn (term_at ts j).flipped s

  known_is : (j : ℕ) (s : Order) → f (term_at ts j).var ≡ Some s → known_at ts f j ≡ Some (value j s)
  known_is j s e = ap (turned_option (term_at ts j).flipped) e

  agreeing : bits (map (agrees_below ts f (length ts)) (rows_of Transitivity)) ≡ rows_with (value 0 a) (value 1 b) (value 2 c)
  agreeing = ap (λ n. bits (map (agrees_below ts f n) (rows_of Transitivity))) three
      ∙ (λ i. bits (map (λ row. ((true && fits (known_is 0 a at_p i) (row_at row 0)) && fits (known_is 1 b at_q i) (row_at row 1))
      && fits (known_is 2 c at_r i) (row_at row 2)) (rows_of Transitivity)))

  pub dead : has_no_cycle (value 0 a) (value 1 b) (value 2 c) ≡ false → NoneAgrees Transitivity ts (Knows f)
  dead h = none_rows Transitivity ts f _ (sym agreeing) (none_with (value 0 a) (value 1 b) (value 2 c) h)

  pub rests : has_no_cycle (value 0 a) (value 1 b) (value 2 c) ≡ true → SomeAgrees Transitivity ts (Knows f) × SettlesBelow Transitivity ts f (length ts)
  rests h =
      let some = some_with (value 0 a) (value 1 b) (value 2 c) h in
      (some_rows Transitivity ts f _ (sym agreeing) (subst (λ n. 0 < n) (sym some.1) (omega arith)), λ p l. inl (settled p l))
    where
      settled : (p : ℕ) → p < length ts → (s : Order) × Knows f (term_at ts p).var s
      settled zero l = (a, at_p)
      settled (suc zero) l = (b, at_q)
      settled (suc (suc zero)) l = (c, at_r)
      settled (suc (suc (suc p))) l = absurd (omega (arith, l, three))
