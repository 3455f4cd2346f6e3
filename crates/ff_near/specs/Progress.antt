-- How far a search for the best solutions of a part has come.
-- For the proofs of this crate alone.
use Rattle.std.specs.Prelude.{◌≡◌, ℕ, List, length}
use Rattle.ff_tables.specs.declared.orders.Order.{Order}
use Rattle.ff_near.specs.Best.{AreLeast}

-- of these solutions, these are the best
pub record HasLeast (cost_of : List Order → ℕ) (solutions : List (List Order)) (count least : ℕ) (best : List ℕ) (first : List Order)
    : Type 0 where
  pub counted : count ≡ length solutions
  pub least_are : AreLeast cost_of solutions least best first
