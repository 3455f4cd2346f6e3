-- The last seat closes the door.
use Rattle.std.proofs.Common.{◌≡◌, ℕ, List, slice_get, Option, Some, ⊎_elim, subst, [], ◌∷◌, ◌++◌}
use Rattle.ff_door.specs.Entries.{Follows}
use Rattle.ff_door.specs.Views.{SeatView, AreJoined}
use Rattle.ff_door.proofs.Rows.{got_end}

module _ {E B : Type 0} (names : E → Option ℕ) where
  -- what each of the seats had seen, where what the last one and the joined ones had seen is known
  pub all_seen : (seats : List (SeatView E B)) (last : SeatView E B) (js : List (ℕ × List E)) (log : List E) → AreJoined seats js
      → Follows names last.number last.seen log → ((i : ℕ) (p : ℕ × List E) → slice_get js i ≡ Some p → Follows names p.0 p.1 log)
      → (k : ℕ) (s : SeatView E B) → slice_get (seats ++ last ∷ []) k ≡ Some s → Follows names s.number s.seen log
  all_seen seats last js log joined its theirs k s at = ⊎_elim
      (λ q. let j = joined k s q in theirs j.0 (s.number, s.seen) j.1)
      (λ q. subst (λ (x : SeatView E B). Follows names x.number x.seen log) q.1 its)
      (got_end seats last s k at)
