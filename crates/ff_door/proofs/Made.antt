-- One seat more.
use Rattle.std.proofs.Common.{ℕ, List, [], ◌∷◌, ◌++◌, length, ⊎_elim, sym, subst}
use Rattle.ff_door.specs.Views.{DoorView, SeatView, IsNew, AreNumbered}
use Rattle.ff_door.proofs.Rows.{got_end}

module _ {E B : Type 0} where
  pub numbered_more : (d : DoorView B) (seats : List (SeatView E B)) (x : SeatView E B) → AreNumbered d seats → IsNew d (length seats) x
      → AreNumbered d (seats ++ x ∷ [])
  numbered_more d seats x all new k s at = ⊎_elim (λ q. all k s q)
      (λ q. subst (λ (z : ℕ × SeatView E B). IsNew d z.0 z.1) (λ i. (sym q.0 i, q.1 i)) new)
      (got_end seats x s k at)
