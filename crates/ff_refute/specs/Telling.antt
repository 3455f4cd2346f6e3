-- The steps of a refutation are told in a log.
-- For the proofs of this crate alone.
use Rattle.std.specs.Prelude.{◌≡◌, ℕ, ◌<◌, ◌⊎◌, Bool, List, [], ◌∷◌, length, slice_get, Option, Some, None, Contains}
use Rattle.ff_tables.specs.declared.orders.Order.{Order}
use Rattle.ff_tables.specs.declared.terms.Constraint.{Constraint}
use Rattle.ff_types.specs.declared.cases.Case.{Case}
use Rattle.ff_solver.specs.declared.steps.Step.{Step}
use Rattle.ff_solver.specs.declared.steps.Step.TheVariants as step
use Rattle.ff_refute.specs.declared.making.Maker.{Maker}
use Rattle.ff_log.specs.declared.claims.Claim.{Claim}
use Rattle.ff_log.specs.Logs.{Branch, Closes, reversed, with_claim}
use Rattle.ff_solver.specs.Steps.{Runs}
use Rattle.ff_refute.specs.Making.{claim_of, ground_of, Holds, IsMaking}
use Rattle.ff_refute.specs.Marks.{IsMarked, IsRoot}

-- the constraint of a step
abbrev pub by_of : Step → Option ℕ
by_of (step.Set v s c) = Some c
by_of (step.Try v) = None
by_of (step.Dead c) = Some c

-- the variables of the constraints of the first n steps are marked
abbrev pub AreRoots : List Constraint → List Step → ℕ → List Bool → Type 0
AreRoots cons steps n marks = (i : ℕ) (q : Step) (c : ℕ) → i < n → slice_get steps i ≡ Some q → by_of q ≡ Some c → IsRoot cons marks c

-- the claims have the marked values of the board, and what came to hold since
pub record IsTold (pairs : List (ℕ × ℕ)) (value : ℕ → Option Order) (marks : List Bool) (claims : List Claim) (held : List (ℕ × Order)) : Type 0 where
  pub base : (v : ℕ) (s : Order) → IsMarked marks v → value v ≡ Some s → Holds claims (claim_of pairs v s)
  pub since : (v : ℕ) (s : Order) → Contains held (v, s) → Holds claims (claim_of pairs v s)

-- each list of tried values is told by what its branch will leave behind
abbrev pub AreStacked : List (ℕ × ℕ) → (ℕ → Option Order) → List Bool → List (List (ℕ × Order)) → List Branch → Type 0
AreStacked pairs value marks [] [] = Unit {0}
AreStacked pairs value marks (h ∷ stack) (b ∷ branches) = IsTold pairs value marks (with_claim b.before (reversed b.tried)) h
    × AreStacked pairs value marks stack branches
AreStacked pairs value marks _ _ = ⊥

-- the log stands where the steps do
pub record IsWriting (case : Case) (pins : List Claim) (value : ℕ → Option Order) (marks : List Bool) (held : List (ℕ × Order))
    (stack : List (List (ℕ × Order))) (m : Maker) : Type 0 where
  pub claims : List Claim
  pub branches : List Branch
  pub making : IsMaking case pins claims branches m
  pub told : IsTold case.pairs value marks claims held
  pub stacked : AreStacked case.pairs value marks stack branches

-- the steps that are left go on from there; or none is left, and the log is closed
pub record GoesOn (case : Case) (pins : List Claim) (value : ℕ → Option Order) (marks : List Bool) (steps : List Step) (m : Maker) : Type 0 where
  pub held : List (ℕ × Order)
  pub stack : List (List (ℕ × Order))
  pub writing : IsWriting case pins value marks held stack m
  pub runs : Runs case.system.vars case.system.constraints value held stack steps

-- the log goes on by these steps, or it has closed and none is left
abbrev pub IsAtSteps : Case → List Claim → (ℕ → Option Order) → List Bool → List Step → Maker → Type 0
IsAtSteps case pins value marks steps m = GoesOn case pins value marks steps m
    ⊎ (Closes (ground_of case pins) m.lines.items × (steps ≡ []))

-- the variable that a step sets or tries
abbrev pub var_of : Step → Option ℕ
var_of (step.Set v s c) = Some v
var_of (step.Try v) = Some v
var_of (step.Dead c) = None

-- each step's constraint is there
abbrev pub HaveConstraints : List Constraint → List Step → Type 0
HaveConstraints cons steps = (i : ℕ) (q : Step) (c : ℕ) → slice_get steps i ≡ Some q → by_of q ≡ Some c → c < length cons

-- each step's variable is there
abbrev pub HaveVariables : ℕ → List Step → Type 0
HaveVariables vars steps = (i : ℕ) (q : Step) (v : ℕ) → slice_get steps i ≡ Some q → var_of q ≡ Some v → v < vars
