-- When faces can be listed bottom to top: exactly where no three of them go round. Elementary.
use Rattle.std.specs.Prelude.{◌≡◌, ◌≢◌, ℕ, ◌<◌, ◌↔◌, Bool, not, List, IsTrue}
use Rattle.std.specs.List.{Contains}
use Rattle.ff_tables.specs.Rows.{has_no_cycle}
use Rattle.ff_types.specs.Terms.{value_in}
use Rattle.ff_types.specs.Stackings.{CanBeListed}

-- of each two different faces exactly one is above the other
abbrev pub AreCompared : (ℕ → ℕ → Bool) → List ℕ → Type 0
AreCompared above faces =
    (f h : ℕ) → Contains faces f → Contains faces h → f ≢ h → above f h ≡ not (above h f)

-- no three different faces go round, each above the next
abbrev pub HasNoCycle : (ℕ → ℕ → Bool) → List ℕ → Type 0
HasNoCycle above faces =
    (f h k : ℕ) → Contains faces f → Contains faces h → Contains faces k → f ≢ h → h ≢ k → k ≢ f
    → IsTrue (above f h) → IsTrue (above h k) → IsTrue (above k f) → ⊥

-- any three faces, the lesser number first, have the values of an order of three
abbrev pub HasTripleRows : (ℕ → ℕ → Bool) → List ℕ → Type 0
HasTripleRows above faces =
    (f h k : ℕ) → Contains faces f → Contains faces h → Contains faces k → f < h → h < k
    → IsTrue (has_no_cycle (value_in above (f, h)) (value_in above (f, k)) (value_in above (h, k)))

-- faces can be listed exactly where no three of them go round
abbrev pub ListedExactly : Type 0
ListedExactly = (above : ℕ → ℕ → Bool) (faces : List ℕ) → AreCompared above faces
    → CanBeListed above faces ↔ HasNoCycle above faces

-- for this only the values of three faces in the order of their numbers need be asked
abbrev pub TriplesSuffice : Type 0
TriplesSuffice = (above : ℕ → ℕ → Bool) (faces : List ℕ) → AreCompared above faces
    → HasNoCycle above faces ↔ HasTripleRows above faces

-- a part of what can be listed can be listed
abbrev pub PartsAreListed : Type 0
PartsAreListed = (above : ℕ → ℕ → Bool) (faces part : List ℕ) → ((f : ℕ) → Contains part f → Contains faces f)
    → CanBeListed above faces → CanBeListed above part
