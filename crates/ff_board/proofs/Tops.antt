-- The greatest level, one fact more at a time.
use Rattle.std.proofs.Common.{◌≡◌, ℕ, zero, suc, ◌<◌, List, [], ◌∷◌, length, drop, refl, arith, Option, Some, None}
use Rattle.ff_propagate.specs.declared.facts.Fact.{Fact}
use Rattle.ff_propagate.specs.Facts.{fact_at}
use Rattle.ff_board.specs.Standing.{top_level, top_with}

pub top_from : (fs : List (Option Fact)) (v : ℕ) → v < length fs → top_level (drop v fs) ≡ top_with (fact_at fs v) (top_level (drop (suc v) fs))
top_from [] v l = absurd (omega (arith, l))
top_from (None ∷ fs) zero l = refl
top_from (Some h ∷ fs) zero l = refl
top_from (x ∷ fs) (suc v) l = top_from fs v (omega (arith, l))
