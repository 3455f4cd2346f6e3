use Rattle.std.proofs.Common.{◌*◌, ◌+◌, ℤ, ◌-ℤ◌, ◌*ℤ◌, to_z, of_z}
use mir.Syntax.{w64}
use Rattle.ff_whole.specs.Sizes.{IsBelow}
use Rattle.ff_whole.specs.declared.sizes.TheConstants.{POINT_SIZE}
use Rattle.ff_whole.proofs.Bounds.{Exactly, given, trip, difference, sum, multiple, fits_exactly}
use Rattle.ff_drawn.proofs.segments.dot_from.Goals as goal

-- a product of two differences, as the code computes it
part : {a b c d : ℤ} → IsBelow POINT_SIZE a → IsBelow POINT_SIZE b → IsBelow POINT_SIZE c → IsBelow POINT_SIZE d
    → Exactly ((POINT_SIZE + POINT_SIZE) * (POINT_SIZE + POINT_SIZE)) (to_z w64 (of_z w64 (to_z w64 (of_z w64 a) -ℤ to_z w64 (of_z w64 b))) *ℤ to_z w64 (of_z w64 (to_z w64 (of_z w64 c) -ℤ to_z w64 (of_z w64 d)))) ((a -ℤ b) *ℤ (c -ℤ d))
part a b c d = multiple (trip w64 (difference (trip w64 (given a) tt) (trip w64 (given b) tt)) tt) (trip w64 (difference (trip w64 (given c) tt) (trip w64 (given d) tt)) tt)

pub overflow_mul-result : goal.overflow_mul-result
overflow_mul-result c = let p = c.requires.p_near in let a = c.requires.a_near in let b = c.requires.b_near in
    fits_exactly w64 (part a.x_below p.x_below b.x_below p.x_below) tt

pub overflow_mul-result-2 : goal.overflow_mul-result-2
overflow_mul-result-2 c = let p = c.requires.p_near in let a = c.requires.a_near in let b = c.requires.b_near in
    fits_exactly w64 (part a.y_below p.y_below b.y_below p.y_below) tt

pub overflow_add-result : goal.overflow_add-result
overflow_add-result c = let p = c.requires.p_near in let a = c.requires.a_near in let b = c.requires.b_near in
    fits_exactly w64 (sum (trip w64 (part a.x_below p.x_below b.x_below p.x_below) tt) (trip w64 (part a.y_below p.y_below b.y_below p.y_below) tt)) tt

pub returns : goal.returns
returns c = let p = c.requires.p_near in let a = c.requires.a_near in let b = c.requires.b_near in
    (trip w64 (sum (trip w64 (part a.x_below p.x_below b.x_below p.x_below) tt) (trip w64 (part a.y_below p.y_below b.y_below p.y_below) tt)) tt).is
