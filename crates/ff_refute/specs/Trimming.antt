-- Refutations of which some steps are left out.
-- For the proofs of this crate alone.
use Rattle.std.specs.Prelude.{◌≡◌, ℕ, ◌<◌, true, List, [], ◌∷◌, ◌++◌, length, reverse, slice_get, Option, Some}
use Rattle.std.specs.Ordering.{nat_cmp}
use Rattle.std.specs.BTreeSet.{BTreeSet, contains}
use Rattle.ff_tables.specs.declared.orders.Order.{Order}
use Rattle.ff_tables.specs.declared.terms.Term.{Term}
use Rattle.ff_tables.specs.declared.terms.Constraint.{Constraint}
use Rattle.ff_tables.specs.Orders.{term_at}
use Rattle.ff_solver.specs.declared.steps.Step.{Step}
use Rattle.ff_solver.specs.declared.steps.Step.TheVariants as step
use Rattle.ff_solver.specs.Steps.{knows, Runs}
use Rattle.ff_refute.specs.declared.trimming.Kept.{Kept}
use Rattle.ff_refute.specs.Telling.{by_of}

-- the variable is in the set
abbrev pub Has : BTreeSet ℕ → ℕ → Type 0
Has uses v = contains nat_cmp uses v ≡ true

-- the new set has what the old one has
abbrev pub HasAllOf : BTreeSet ℕ → BTreeSet ℕ → Type 0
HasAllOf new old = (v : ℕ) → Has old v → Has new v

-- the variables of the first n terms are in the set
abbrev pub HasTerms : List Term → ℕ → BTreeSet ℕ → Type 0
HasTerms ts n uses = (j : ℕ) → j < n → Has uses (term_at ts j).var

-- the variables of the constraint with this number are in the set
abbrev pub Covers : List Constraint → ℕ → BTreeSet ℕ → Type 0
Covers cons c uses = (con : Constraint) → slice_get cons c ≡ Some con → HasTerms con.terms (length con.terms) uses

-- one of the first n terms has the variable
abbrev pub IsTermOf : List Term → ℕ → ℕ → Type 0
IsTermOf ts n v = (j : ℕ) × (j < n) × ((term_at ts j).var ≡ v)

-- a term of the constraint with this number has the variable
abbrev pub IsVariableOf : List Constraint → ℕ → ℕ → Type 0
IsVariableOf cons c v = (con : Constraint) × (slice_get cons c ≡ Some con) × IsTermOf con.terms (length con.terms) v

-- the constraint of one of the steps has the variable
abbrev pub AreUsing : List Constraint → List Step → ℕ → Type 0
AreUsing cons steps v = (i : ℕ) × (q : Step) × (c : ℕ) × (slice_get steps i ≡ Some q) × (by_of q ≡ Some c) × IsVariableOf cons c v

-- A refutation in which each value is rested on: the constraint of a later step has the variable that is set, and so it is of a
-- variable that is tried in each of the two branches.
pub data IsRestedOn (cons : List Constraint) : List Step → Type 0 where
  closes : (c : ℕ) → IsRestedOn cons (step.Dead c ∷ [])
  sets : (v : ℕ) (s : Order) (c : ℕ) (steps : List Step) → AreUsing cons steps v → IsRestedOn cons steps
      → IsRestedOn cons (step.Set v s c ∷ steps)
  tries : (v : ℕ) (below above : List Step) → AreUsing cons below v → AreUsing cons above v → IsRestedOn cons below → IsRestedOn cons above
      → IsRestedOn cons (step.Try v ∷ (below ++ above))

-- each value among the kept steps is rested on, and the set has the variables of their constraints alone
pub record IsLean (cons : List Constraint) (kept : Kept) : Type 0 where
  pub rested : IsRestedOn cons kept.steps.items
  pub only : (v : ℕ) → Has kept.uses v → AreUsing cons kept.steps.items v

-- what is known of the variables in the set where `held` came to hold is known where `more` did
abbrev pub IsKnownToo : (ℕ → Option Order) → BTreeSet ℕ → List (ℕ × Order) → List (ℕ × Order) → Type 0
IsKnownToo value uses held more = (v : ℕ) (s : Order) → Has uses v → knows value held v s → knows value more v s

-- The kept steps refute whatever knows of their variables what is known where `held` came to hold.
abbrev pub IsEnough : ℕ → List Constraint → (ℕ → Option Order) → List (ℕ × Order) → Kept → Type 0
IsEnough vars cons value held kept = (more : List (ℕ × Order)) → IsKnownToo value kept.uses held more
    → Runs vars cons value more [] kept.steps.items

-- so it is for what holds, and for what will hold once each open branch closes
abbrev pub AreEnough : ℕ → List Constraint → (ℕ → Option Order) → List (List (ℕ × Order)) → List Kept → Type 0
AreEnough vars cons value [] [] = Unit {0}
AreEnough vars cons value (held ∷ stack) (k ∷ kept) = IsEnough vars cons value held k × AreEnough vars cons value stack kept
AreEnough vars cons value _ _ = ⊥

-- What is kept of the steps, the innermost branch's last: wherever the steps refute, what is kept of each branch is enough.
pub record IsKeptOf (vars : ℕ) (cons : List Constraint) (steps : List Step) (kept : List Kept) : Type 0 where
  pub enough : (value : ℕ → Option Order) (held : List (ℕ × Order)) (stack : List (List (ℕ × Order)))
      → Runs vars cons value held stack steps → AreEnough vars cons value (held ∷ stack) (reverse kept)
  pub none : steps ≡ [] → kept ≡ []
