-- Lists of entries that grow, as a seat sees them. This project's own.
use Rattle.std.specs.Prelude.{◌≡◌, ℕ, ◌⊎◌, List, [], ◌∷◌, ◌++◌, Option, Some, None}

-- no entry names the seat k
abbrev pub Silent : {E : Type 0} → (E → Option ℕ) → ℕ → List E → Type 0
Silent names k [] = Unit {0}
Silent names k (e ∷ es) = (names e ≡ Some k → ⊥) × Silent names k es

-- the entries begin with what was seen, and past these none names the seat k
abbrev pub Follows : {E : Type 0} → (E → Option ℕ) → ℕ → List E → List E → Type 0
Follows {E} names k seen log = (rest : List E) × (log ≡ seen ++ rest) × Silent names k rest

-- the entries are those seen, or those and one more that names the seat k or none
abbrev pub Adds : {E : Type 0} → (E → Option ℕ) → ℕ → List E → List E → Type 0
Adds {E} names k seen log = (log ≡ seen) ⊎ ((e : E) × (log ≡ seen ++ e ∷ []) × ((names e ≡ Some k) ⊎ (names e ≡ None)))
