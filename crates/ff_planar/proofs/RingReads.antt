-- A ring that is read from the list of rings.
use Rattle.std.proofs.Common.{◌≡◌, ℕ, ◌<◌, List, [], length, get_or, ◌∙◌}
use Rattle.std.proofs.lemmas.List.{get_or_default}
use Rattle.ff_types.specs.Faces.{ring_at}

pub read_ring : (rings : List (List ℕ)) (f : ℕ) (read slice : List ℕ) → f < length rings → read ≡ get_or rings f read → slice ≡ read → slice ≡ ring_at rings f
read_ring rings f read slice l e s = s ∙ e ∙ get_or_default rings f read [] l
