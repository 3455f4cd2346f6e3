-- The turn of three points in all orders and over a fourth, and heights over the line through two points.
use Rattle.std.proofs.Common.{◌≡◌, refl, []}
use lib.IntN.{neg_ℤ}
use Rattle.ff_whole.proofs.Formulas.{point_e, point_env, turn_e, place_e, place_env, place_of_e, through_e, height_e}
use Rattle.ff_whole.proofs.Ring.{opp, solve}
use Rattle.ff_whole.specs.Points.{turn}
use Rattle.ff_whole.specs.Places.{place_of, through, height}
use Rattle.ff_whole.specs.declared.points.Pt.{Pt}
use Rattle.ff_whole.specs.declared.places.Place.{Place}

-- the height over a line through two points is their turn
pub height-through : (p q r : Pt) → height (through p q) (place_of r) ≡ turn p q r
height-through p q r =
    let p' = point_e 0 in let q' = point_e 2 in let r' = point_e 4 in
    solve (point_env p (point_env q (point_env r []))) (height_e (through_e p' q') (place_of_e r')) (turn_e p' q' r') refl

-- turns: all six orders of three points
pub turn-rotate : (p q r : Pt) → turn q r p ≡ turn p q r
turn-rotate p q r =
    let p' = point_e 0 in let q' = point_e 2 in let r' = point_e 4 in
    solve (point_env p (point_env q (point_env r []))) (turn_e q' r' p') (turn_e p' q' r') refl

-- two points change places: the turn changes its sign
pub turn-swap : (p q r : Pt) → turn q p r ≡ neg_ℤ (turn p q r)
turn-swap p q r =
    let p' = point_e 0 in let q' = point_e 2 in let r' = point_e 4 in
    solve (point_env p (point_env q (point_env r []))) (turn_e q' p' r') (opp (turn_e p' q' r')) refl

-- over the line the other way the height has the other sign
pub height-back : (p q : Pt) (m : Place) → height (through q p) m ≡ neg_ℤ (height (through p q) m)
height-back p q m =
    let p' = point_e 0 in let q' = point_e 2 in let m' = place_e 4 in
    solve (point_env p (point_env q (place_env m []))) (height_e (through_e q' p') m') (opp (height_e (through_e p' q') m')) refl
