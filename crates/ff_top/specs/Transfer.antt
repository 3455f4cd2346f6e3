-- A source read to its end, and a text written to a sink. This project's own.
use Rattle.std.specs.Prelude.{ℕ, ◌≡◌, ◌<◌, ◌≤◌, ◌+◌, List, ◌++◌, length, take, drop, Option, Some, IfSome}
use Rattle.ff_top.specs.declared.transfer.Input.{Input}
use Rattle.ff_top.specs.declared.transfer.Input.TheVariants.{Whole, Beyond}

-- a source that tells its bytes has these left
abbrev pub Tells : Option (List ℕ) → List ℕ → Type 0
Tells left bytes = IfSome left (λ told. told ≡ bytes)

-- a source that tells its bytes has been read to its end, or to one byte past the limit
abbrev pub IsReadOff : ℕ → Option (List ℕ) → Option (List ℕ) → Type 0
IsReadOff limit before after = IfSome before (λ input. after ≡ Some (drop (limit + 1) input))

-- what was read of this input: all of it where it is no longer than the limit
abbrev pub IsInput : ℕ → List ℕ → Input → Type 0
IsInput limit input (Whole bytes) = (bytes.items ≡ input) × (length input ≤ limit)
IsInput limit input Beyond = limit < length input

-- a sink that tells its bytes has got these
abbrev pub Got : Option (List ℕ) → List ℕ → Option (List ℕ) → Type 0
Got before bytes after = IfSome before (λ held. after ≡ Some (held ++ bytes))

-- a sink that tells its bytes has got a front of these, or all of them
abbrev pub GotFront : Option (List ℕ) → List ℕ → Option (List ℕ) → Type 0
GotFront before bytes after = (n : ℕ) × Got before (take n bytes) after

-- a sink that tells its bytes has got a front of these, and not all of them
abbrev pub GotPart : Option (List ℕ) → List ℕ → Option (List ℕ) → Type 0
GotPart before bytes after = (n : ℕ) × (n < length bytes) × Got before (take n bytes) after
