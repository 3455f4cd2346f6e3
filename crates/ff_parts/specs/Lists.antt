-- Lists of parts.
use Rattle.std.specs.Prelude.{ℕ, List, map}
use Rattle.ff_propagate.specs.declared.parts.Part.{Part}

-- the variables of each part
abbrev pub vars_of : List Part → List (List ℕ)
vars_of parts = map (λ part. part.vars) parts

-- the numbers of the constraints that touch each part
abbrev pub touching_of : List Part → List (List ℕ)
touching_of parts = map (λ part. part.touching) parts
