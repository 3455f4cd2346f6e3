use Rattle.std.proofs.Common.{arith, ◌≡◌, ◌∙◌, ap, sym, ℤ, pos, ◌-ℤ◌, ◌*ℤ◌}
use mir.Syntax.{w64}
use Rattle.std.proofs.lemmas.Int.{ints}
use Rattle.ff_whole.proofs.Bounds.{read, trip, difference, multiple, fits_exactly}
use Rattle.ff_cells.proofs.heights.whole_rise.Goals as goal

times_one : (a : ℤ) → a ≡ a *ℤ pos 1
times_one a = omega (arith, ints)

pub overflow_mul-result : goal.overflow_mul-result
overflow_mul-result c =
    let line = c.requires.line_size in
    fits_exactly w64 (multiple (read w64 line.a_below tt) (read w64 c.requires.x_size tt)) tt

pub overflow_sub-result : goal.overflow_sub-result
overflow_sub-result c =
    let line = c.requires.line_size in
    fits_exactly w64 (difference (read w64 line.c_below tt) (trip w64 (multiple (read w64 line.a_below tt) (read w64 c.requires.x_size tt)) tt)) tt

pub returns : goal.returns
returns c =
    let line = c.requires.line_size in
    (trip w64 (difference (read w64 line.c_below tt) (trip w64 (multiple (read w64 line.a_below tt) (read w64 c.requires.x_size tt)) tt)) tt).is
    ∙ ap (λ (z : ℤ). z -ℤ (c.args.line.a *ℤ c.args.x)) (times_one c.args.line.c)
