-- Facts in a list, and how many there are.
use Rattle.std.proofs.Common.{◌≡◌, ℕ, List, ◌++◌, map, take, drop, length, get_or, refl, ap, ◌∙◌, arith, Option, Some, None}
use Rattle.std.proofs.Math.ListN.{get_or-map}
use Rattle.std.proofs.lemmas.List.{drop_all, take_all, append-nil}
use Rattle.ff_tables.specs.declared.orders.Order.{Order}
use Rattle.ff_propagate.specs.declared.facts.Fact.{Fact}
use Rattle.ff_propagate.specs.Facts.{value_at, seen}
use Rattle.ff_propagate.specs.Trails.{value_in}

pub seen_is : (o : Option Fact) (t : Order) → seen o ≡ Some t → (h : Fact) × (o ≡ Some h) × (h.value ≡ t)
seen_is None t e = cc
seen_is (Some h) t e = (h, refl, cc)

pub seen_none : (o : Option Fact) → seen o ≡ None → o ≡ None
seen_none None e = refl
seen_none (Some h) e = cc

pub known_fact : (xs : List (Option Order)) (fs : List (Option Fact)) → xs ≡ map seen fs → (v : ℕ)
    → value_in xs v ≡ value_at fs v
known_fact xs fs e v = ap (λ ys. get_or ys v None) e ∙ get_or-map seen fs v None

-- a list that was written through a slice of all its items
pub written_back : (new old : List (Option Fact)) (n : ℕ) → length new ≡ length old → n ≡ length old
    → take n (new ++ drop (length new) old) ≡ new
written_back new old n same long = ap (λ xs. take n (new ++ xs)) (drop_all (length new) old (omega (arith, same)))
    ∙ ap (take n) (append-nil new) ∙ take_all n new (omega (arith, same, long))
