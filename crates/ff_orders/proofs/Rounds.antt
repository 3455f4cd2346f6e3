-- Faces of a cycle have a common place and go round.
use Rattle.std.proofs.Common.{◌≡◌, ◌⊎◌, inl, inr, ℕ, ◌<◌, Bool, true, not, ◌&&◌, List, [], ◌∷◌, IsTrue, refl, sym, subst, ◌∙◌, arith}
use Rattle.ff_basics.proofs.Options.{some_same}
use Rattle.ff_types.specs.declared.cites.Cite.{Cite}
use Rattle.ff_types.specs.declared.cites.Cite.TheVariants.{Transitivity}
use Rattle.ff_types.specs.declared.cases.Case.{Case}
use Rattle.ff_types.specs.Sheets.{Sheet}
use Rattle.ff_types.specs.Inside.{HaveCommon, is_inside}
use Rattle.ff_types.specs.Cases.{IsCaseOf}
use Rattle.ff_types.specs.Cites.{Holds}
use Rattle.ff_types.specs.Terms.{HasItsRow}
use Rattle.ff_types.specs.Stackings.{OrdersOverlaps}
use Rattle.ff_crossings.specs.RowMeanings.{GoRound, TransitivityRows}
use Rattle.ff_crossings.proofs.BorderLaws.{HasBorderLaws}
use Rattle.ff_basics.proofs.Tests.{both_of, of_both}
use Rattle.ff_orders.specs.declared.items.OrderItem.{OrderItem}
use Rattle.ff_orders.specs.declared.items.OrderVerdict.TheVariants.{Cycle}
use Rattle.ff_orders.specs.Said.{IsSaid}
use Rattle.ff_orders.specs.Verdicts.{IsFirstNoRow, IsVerdict}
use Rattle.ff_orders.specs.Laws.{AreRound}
use Rattle.ff_orders.proofs.SaidOrders.{overlaps, true_or}

-- the first constraint without a row has this cite
pub no_row_of : (g : Sheet) (case : Case) (above : ℕ → ℕ → Bool) (c : Cite) → IsFirstNoRow g case above c → HasItsRow g above c → ⊥
no_row_of g case above c first row =
    let r = first.first.is in r.none (subst (HasItsRow g above) (some_same (sym first.there ∙ r.there)) row)

round_or : (a b c : Bool) → (IsTrue a × IsTrue b × IsTrue c) ⊎ (IsTrue a × IsTrue b × IsTrue c → ⊥)
round_or a b c = by (true_or a) (true_or b) (true_or c) where
  by : IsTrue a ⊎ (IsTrue a → ⊥) → IsTrue b ⊎ (IsTrue b → ⊥) → IsTrue c ⊎ (IsTrue c → ⊥) → (IsTrue a × IsTrue b × IsTrue c) ⊎ (IsTrue a × IsTrue b × IsTrue c → ⊥)
  by (inl x) (inl y) (inl z) = inl (x, y, z)
  by (inr n) y z = inr (λ t. n t.0)
  by (inl x) (inr n) z = inr (λ t. n t.1)
  by (inl x) (inl y) (inr n) = inr (λ t. n t.2)

module _ (g : Sheet) (laws : HasBorderLaws g) (rows : TransitivityRows) (case : Case) (is : IsCaseOf g case)
    (items : List OrderItem) (above : ℕ → ℕ → Bool) (said : IsSaid g items above) where
  module _ (f h k : ℕ) (common : HaveCommon g (f ∷ h ∷ k ∷ [])) (l : f < h) (m : h < k) (orders : OrdersOverlaps g above) where
    first : IsTrue (is_inside g f common.at) × IsTrue (is_inside g h common.at && (is_inside g k common.at && true))
    first = both_of _ _ common.inside

    second : IsTrue (is_inside g h common.at) × IsTrue (is_inside g k common.at && true)
    second = both_of _ _ first.1

    third : IsTrue (is_inside g k common.at)
    third = (both_of _ _ second.1).0

    over : (x y : ℕ) → (x ≡ y → ⊥) → IsTrue (is_inside g x common.at) → IsTrue (is_inside g y common.at) → above x y ≡ not (above y x)
    over x y d p q = orders.one x y (record {
      differ = d;
      common = record {
        at = common.at;
        place = common.place;
        inside = of_both (is_inside g x common.at) (is_inside g y common.at && true) p (of_both (is_inside g y common.at) true q refl);
      };
    })

    go_round : (GoRound above f h k → ⊥) × (GoRound above f k h → ⊥) → HasItsRow g above (Transitivity f h k [])
    go_round = (rows above f h k (over f h (λ e. omega (arith, l, e)) first.0 second.0) (over h k (λ e. omega (arith, m, e)) second.0 third)
        (over k f (λ e. omega (arith, l, m, e)) third first.0)).1

  pub cycle_is : (f h k : ℕ) → IsVerdict g case items above (Cycle f h k) → AreRound g above f h k
  cycle_is f h k (creased, (at, first)) = record { common = holds.2; round = by (round_or _ _ _) (round_or _ _ _) } where
    holds : Holds g (Transitivity f h k at)
    holds = laws.witnessed (Transitivity f h k at) (is.witnessed first.number (Transitivity f h k at) first.there)

    none : HasItsRow g above (Transitivity f h k at) → ⊥
    none = no_row_of g case above (Transitivity f h k at) first

    by : GoRound above f h k ⊎ (GoRound above f h k → ⊥) → GoRound above f k h ⊎ (GoRound above f k h → ⊥) → GoRound above f h k ⊎ GoRound above f k h
    by (inl r) s = inl r
    by (inr n) (inl s) = inr s
    by (inr n) (inr o) = absurd (none (go_round f h k holds.2 holds.0 holds.1 (overlaps g case is items above said creased.orders) (n, o)))
