-- What looks and offers answer.
use Rattle.std.specs.Prelude.{◌≡◌, ◌≢◌, ℕ, ◌<◌, Option, Some, None}
use Rattle.ff_propagate.specs.declared.facts.Fact.{Fact}
use Rattle.ff_propagate.specs.declared.words.Held.{Held}
use Rattle.ff_propagate.specs.Words.{held, held_of}
use Rattle.ff_board.specs.declared.offering.Offer.{Offer}
use Rattle.ff_board.specs.declared.offering.Offer.TheVariants.{Set, Same, Other}
use Rattle.ff_board.specs.declared.seats.View.{View}
use Rattle.ff_board.specs.Facts.{MarksFound}
use Rattle.ff_board.specs.Rule.{Looked}

-- a fact without its marks
abbrev pub fact_of : Option Held → Option Fact
fact_of None = None
fact_of (Some h) = Some h.fact

-- the fact that was seen of the variable v
abbrev pub fact_seen : View → ℕ → Option Fact
fact_seen d v = fact_of (held d.seen v)

-- one look at the variable v, which found the fact f, or none
abbrev pub IsLook : View → ℕ → Option Fact → View → Type 0
IsLook d v f d' = (n : ℕ) × (f ≡ fact_of (held_of n)) × Looked d v n n d'

-- there was a look since, the last at the variable v, which found the fact f, or none
abbrev pub LastIs : View → ℕ → Option Fact → View → Type 0
LastIs old v f d = (old.looks < d.looks) × (n : ℕ) × (d.last ≡ Some (v, n)) × (fact_of (held_of n) ≡ f)

-- the fact f of the variable v was seen, with the marks of the other terms that were found with lower levels
abbrev pub IsSetBy : View → ℕ → Fact → View → Type 0
IsSetBy old v f d = (m : ℕ) × (held d.seen v ≡ Some (record { fact = f; marks = m }))
    × MarksFound d.opening old.seen d.seen v f.level m f.reason

-- The last look is one of this call, at the variable v: Set where it found none, and then the offered fact was
-- seen there; Same where it found the offered value, Other where it found the other value, each with the fact that it
-- found, which was then seen.
abbrev pub Answers : View → ℕ → Fact → View → Offer → Type 0
Answers old v f d Set = LastIs old v None d × IsSetBy old v f d
Answers old v f d (Same g) = LastIs old v (Some g) d × (fact_seen d v ≡ Some g) × (g.value ≡ f.value)
Answers old v f d (Other g) = LastIs old v (Some g) d × (fact_seen d v ≡ Some g) × (g.value ≢ f.value)
