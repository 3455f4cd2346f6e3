-- Marks of demanded parts.
use Rattle.std.proofs.Common.{◌≡◌, ℕ, ◌<◌, inl, Bool, true, false, List, length, get_or}
use Rattle.ff_desk.specs.declared.demands.Demand.TheVariants as demand
use Rattle.ff_desk.specs.Marks.{AreMarked}

pub marked_all : (old new : List Bool) → length new ≡ length old → ((p : ℕ) → p < length old → get_or new p false ≡ true) → AreMarked old demand.All new
marked_all old new long all = record { long = long; each = λ p l. (λ m. inl tt, λ m. all p l) }
