-- What the checker keeps of a log that it has read so far.
-- For the proofs of this crate alone.
use Rattle.std.specs.Prelude.{◌≡◌, ℕ, ◌<◌, ◌≤◌, ◌+◌, ◌*◌, Bool, false, IsTrue, List, [], ◌∷◌, ◌++◌, length, take, map, reverse, slice_index_or, slice_get, Some}
use Rattle.ff_log.specs.declared.claims.Claim.{Claim}
use Rattle.ff_tables.specs.Rows.{arity}
use Rattle.ff_types.specs.Pairs.{pair_at}
use Rattle.ff_log.specs.declared.claims.Declared.{Declared}
use Rattle.ff_log.specs.Logs.{holds, Branch, State}
use Rattle.ff_checker.specs.declared.held.Held.{Held}
use Rattle.ff_checker.specs.declared.progress.Opened.{Opened}
use Rattle.ff_checker.specs.declared.progress.Progress.{Progress}

-- where the flag of the claim stands
abbrev pub place_of : ℕ → Claim → ℕ
place_of side c = c.upper * side + c.lower

-- both faces have numbers below the side
pub record IsWithin (side : ℕ) (c : Claim) : Type 0 where
  pub upper : c.upper < side
  pub lower : c.lower < side

-- the flags of claims are set exactly where these hold
abbrev pub AreFlags : ℕ → List Bool → List Claim → Type 0
AreFlags side flags list = (c : Claim) → IsWithin side c → slice_index_or flags (place_of side c) false ≡ holds list c

-- all that holds is on faces below the side of the table
abbrev pub AllWithin : ℕ → List Claim → Type 0
AllWithin side list = (c : Claim) → IsTrue (holds list c) → IsWithin side c

-- no claim of the list is among those before it
abbrev pub OnceAfter : List Claim → List Claim → Type 0
OnceAfter before [] = Unit {0}
OnceAfter before (c ∷ rest) = (holds before c ≡ false) × OnceAfter (before ++ c ∷ []) rest

-- each claim is listed once, and its flag is set; no other flag is
pub record IsHeld (h : Held) : Type 0 where
  pub size : length h.flags.items ≡ h.side * h.side
  pub flags : AreFlags h.side h.flags.items h.list.items
  pub within : AllWithin h.side h.list.items
  pub once : OnceAfter [] h.list.items

-- open branches, the innermost first: each was opened when at most so many claims held
abbrev pub AreOpened : ℕ → ℕ → List Opened → Type 0
AreOpened side most [] = Unit {0}
AreOpened side most (o ∷ older) = (o.since ≤ most) × IsWithin side o.tried × AreOpened side o.since older

-- a constraint with as many terms as its kind has, of faces with numbers below the side
pub record IsFitting (side : ℕ) (d : Declared) : Type 0 where
  pub counted : length d.terms ≡ arity d.kind
  pub first : (j : ℕ) → j < length d.terms → (pair_at d.terms j).0 < side
  pub second : (j : ℕ) → j < length d.terms → (pair_at d.terms j).1 < side

-- all that is declared is on faces below the side of the table
abbrev pub AllFitting : ℕ → List Declared → Type 0
AllFitting side ds = (k : ℕ) (d : Declared) → slice_get ds k ≡ Some d → IsFitting side d

-- what was declared fits, what holds stands in the table, and the open branches lie in its list one after the other
pub record IsProgress (b : Progress) : Type 0 where
  pub fitting : AllFitting b.held.side b.declared.items
  pub held : IsHeld b.held
  pub opened : AreOpened b.held.side (length b.held.list.items) (reverse b.branches.items)

-- the branch that was opened when so much of the list held
abbrev pub branch_of : List Claim → Opened → Branch
branch_of list o = record { tried = o.tried; before = take o.since list }

-- the state of the log
abbrev pub state_of : Progress → State
state_of b = record {
  declared = b.declared.items;
  held = b.held.list.items;
  branches = map (branch_of b.held.list.items) (reverse b.branches.items);
  ended = b.ended;
}
