-- How the way down a decision tree changes.
-- For the proofs of this crate alone.
use Rattle.std.specs.Prelude.{◌≡◌, ℕ, ◌≤◌, ◌⊎◌, [], ◌∷◌, ◌++◌, length, take, Option, Some, None, vec_capacity}
use Rattle.ff_tables.specs.declared.orders.Order.{Order}
use Rattle.ff_tables.specs.declared.orders.Order.TheVariants.{Below, Above}
use Rattle.ff_propagate.specs.declared.trail.Trail.{Trail}
use Rattle.ff_propagate.specs.Trails.{step_at, cut, IsTrail, IsStepped}
use Rattle.ff_solver.specs.declared.path.Path.{Path}

-- the same values
abbrev pub Alike : (ℕ → Option Order) → (ℕ → Option Order) → Type 0
Alike f g = (v : ℕ) → g v ≡ f v

-- the variable v, which had no value, is given the value s by no constraint
pub record IsAssumed (vars : ℕ) (old : Trail) (v : ℕ) (s : Order) (new : Trail) : Type 0 where
  pub trail : IsTrail vars new
  pub stepped : IsStepped old v s None new
  pub within : length new.steps.items ≤ vars
  pub same : (m : ℕ) → m ≤ length old.steps.items → Alike (cut old m) (cut new m)

-- Below of the variable is tried, and Above is left for later
pub record IsBranched (vars : ℕ) (old : Path) (v : ℕ) (new : Path) : Type 0 where
  pub set : IsAssumed vars old.trail v Below new.trail
  pub branches : new.branches.items ≡ old.branches.items ++ length old.trail.steps.items ∷ []
  pub room : vec_capacity new.branches ≡ vec_capacity old.branches
  pub next : new.next ≡ Some (length old.trail.steps.items)

-- the branch at the mark is no longer left, and the values since are taken back
pub record IsTakenBack (vars : ℕ) (old : Path) (m v : ℕ) (mid : Trail) (new : Path) : Type 0 where
  pub popped : old.branches.items ≡ new.branches.items ++ m ∷ []
  pub room : vec_capacity new.branches ≡ vec_capacity old.branches
  pub var : (step_at old.trail m).var ≡ v
  pub mid_trail : IsTrail vars mid
  pub mid_steps : mid.steps.items ≡ take m old.trail.steps.items
  pub same : (k : ℕ) → k ≤ m → Alike (cut old.trail k) (cut mid k)

-- the branch at the mark is taken up: Above of what was tried in it holds
pub record IsTakenUp (vars : ℕ) (old : Path) (m v : ℕ) (mid : Trail) (new : Path) : Type 0 where
  pub back : IsTakenBack vars old m v mid new
  pub set : IsAssumed vars mid v Above new.trail
  pub next : new.next ≡ Some m

-- the last branch that is left is taken up, or none is left
abbrev pub GoesBack : ℕ → Path → Path → Type 0
GoesBack vars old new = ((old.branches.items ≡ []) × (new.branches.items ≡ []) × (new.next ≡ None))
    ⊎ ((m : ℕ) × (v : ℕ) × (mid : Trail) × IsTakenUp vars old m v mid new)
