-- Logs that close: each line declares, derives, opens a branch or closes one. This project's own.
use Rattle.std.specs.Prelude.{◌≡◌, ◌==◌, ◌&&◌, ℕ, ◌<◌, Bool, true, false, IsTrue, List, [], ◌∷◌, ◌++◌, length, slice_get, Option, Some, if◌then◌else◌}
use Rattle.std.specs.List.{list_any}
use Rattle.ff_tables.specs.declared.orders.Order.{Order}
use Rattle.ff_tables.specs.declared.orders.Order.TheVariants.{Below, Above}
use Rattle.ff_tables.specs.Orders.{row_at}
use Rattle.ff_tables.specs.Rows.{HasRow}
use Rattle.ff_types.specs.Pairs.{pair_at}
use Rattle.ff_types.specs.declared.cites.Cite.{Cite}
use Rattle.ff_types.specs.Cites.{HasSmallPlaces}
use Rattle.ff_log.specs.declared.claims.Claim.{Claim}
use Rattle.ff_log.specs.declared.claims.Declared.{Declared}
use Rattle.ff_log.specs.declared.logs.LogLine.{LogLine}
use Rattle.ff_log.specs.declared.logs.LogLine.TheVariants as line

-- f above g, or f below g
abbrev pub claim : ℕ → ℕ → Order → Claim
claim f g Above = record { upper = f; lower = g }
claim f g Below = record { upper = g; lower = f }

-- the opposite claim
abbrev pub reversed : Claim → Claim
reversed c = record { upper = c.lower; lower = c.upper }

-- both say the same
abbrev pub is_claim : Claim → Claim → Bool
is_claim c d = c.upper == d.upper && c.lower == d.lower

-- the claim is among those that hold
abbrev pub holds : List Claim → Claim → Bool
holds held c = list_any (λ d. is_claim d c) held

-- the claim comes to hold
abbrev pub with_claim : List Claim → Claim → List Claim
with_claim held c = if holds held c then held else held ++ c ∷ []

-- that the term at the place has the value
abbrev pub claim_at : Declared → ℕ → Order → Claim
claim_at d j b = claim (pair_at d.terms j).0 (pair_at d.terms j).1 b

-- The row has each value that holds of a term. Where both values hold of a term no row agrees.
abbrev pub Agrees : Declared → List Claim → List Order → Type 0
Agrees d held row = (j : ℕ) (b : Order) → j < length d.terms → IsTrue (holds held (claim_at d j b)) → row_at row j ≡ b

-- the claim is of a term, and each row that agrees with what holds has its value there
pub record ForcesClaim (d : Declared) (held : List Claim) (c : Claim) : Type 0 where
  pub place : ℕ
  pub value : Order
  pub within : place < length d.terms
  pub says : claim_at d place value ≡ c
  pub only : (k : ℕ) (row : List Order) → HasRow d.kind k row → Agrees d held row → row_at row place ≡ value

-- no row agrees with what holds
abbrev pub IsDead : Declared → List Claim → Type 0
IsDead d held = (k : ℕ) (row : List Order) → HasRow d.kind k row → Agrees d held row → ⊥

-- a branch that is open: what was tried, and what held before
pub record Branch : Type 0 where
  pub tried : Claim
  pub before : List Claim

-- The declared constraints in order, what holds, the open branches with the innermost first, and whether the log has ended.
pub record State : Type 0 where
  pub declared : List Declared
  pub held : List Claim
  pub branches : List Branch
  pub ended : Bool

-- nothing is declared and nothing holds
abbrev pub start : State
start = record { declared = []; held = []; branches = []; ended = false }

-- one more constraint is declared, behind the others
abbrev pub declare : State → Declared → State
declare s d = record s { declared = s.declared ++ d ∷ [] }

-- one more claim holds
abbrev pub hold : State → Claim → State
hold s c = record s { held = with_claim s.held c }

-- the claim is tried: it holds in a branch that remembers what held before
abbrev pub open_branch : State → Claim → State
open_branch s c = record s { held = with_claim s.held c; branches = record { tried = c; before = s.held } ∷ s.branches }

-- Closing ends the innermost open branch: what came to hold in it holds no more, what it declared stays, and the opposite of
-- what was tried holds. With no open branch it ends the log.
abbrev pub close_from : State → List Branch → State
close_from s [] = record s { ended = true }
close_from s (b ∷ rest) = record s { held = with_claim b.before (reversed b.tried); branches = rest }

-- the innermost branch is closed, or the log has ended
abbrev pub close : State → State
close s = close_from s s.branches

-- What the lines of a log may rest on.
pub record Ground : Type 1 where
  -- the cite declares this constraint
  pub uses : Cite → Declared → Type 0
  -- the M or V edge says this
  pub crease : ℕ → Option Claim
  pub pins : List Claim
  -- two faces that may be tried
  pub may_try : ℕ → ℕ → Type 0

-- The line is allowed in the first state, and takes it to the second.
abbrev pub Does : Ground → State → LogLine → State → Type 0
Does ground s (line.Use c) after = (d : Declared) × ground.uses c d × (after ≡ declare s d)
Does ground s (line.Crease e) after = (c : Claim) × (ground.crease e ≡ Some c) × (after ≡ hold s c)
Does ground s (line.Pin i) after = (c : Claim) × (slice_get ground.pins i ≡ Some c) × (after ≡ hold s c)
Does ground s (line.Force f g value by) after = (d : Declared) × (slice_get s.declared by ≡ Some d)
    × ForcesClaim d s.held (claim f g value) × (after ≡ hold s (claim f g value))
Does ground s (line.Try f g value) after = ground.may_try f g × (after ≡ open_branch s (claim f g value))
Does ground s (line.Dead k) after = (d : Declared) × (slice_get s.declared k ≡ Some d) × IsDead d s.held × (after ≡ close s)
Does ground s (line.Clash f g) after = IsTrue (holds s.held (claim f g Above)) × IsTrue (holds s.held (claim f g Below))
    × (after ≡ close s)

-- the same, and the log hasn't ended before
pub record Takes (ground : Ground) (s : State) (l : LogLine) (after : State) : Type 0 where
  pub going : s.ended ≡ false
  pub does : Does ground s l after

-- the lines are allowed, one after the other
abbrev pub Reaches : Ground → State → List LogLine → State → Type 0
Reaches ground s [] after = after ≡ s
Reaches ground s (l ∷ lines) after = (m : State) × Takes ground s l m × Reaches ground m lines after

-- Each line is allowed, and the last one ends the log.
pub record Closes (ground : Ground) (lines : List LogLine) : Type 0 where
  pub state : State
  pub reached : Reaches ground start lines state
  pub ended : state.ended ≡ true

-- The places that the line names, if any, have numbers of a size whose side may be asked.
abbrev pub HasSmallLine : LogLine → Type 0
HasSmallLine (line.Use c) = HasSmallPlaces c
HasSmallLine _ = Unit {0}
