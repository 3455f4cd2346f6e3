use Rattle.std.proofs.Common.{◌∙◌}
use Rattle.std.specs.Ordering.{int_cmp}
use Rattle.ff_whole.proofs.Bounds.{read, trip, multiple, minus, fits_exactly}
use mir.Syntax.{w64}
use Rattle.ff_cells.proofs.bars.cmp_slope.Goals as goal

pub overflow_mul-k : goal.overflow_mul-k
overflow_mul-k c =
    fits_exactly w64 (multiple (trip w64 (minus (read w64 c.requires.k_in.a_below tt)) tt)
    (read w64 c.requires.l_in.b_below tt)) tt

pub overflow_mul-l : goal.overflow_mul-l
overflow_mul-l c =
    fits_exactly w64 (multiple (trip w64 (minus (read w64 c.requires.l_in.a_below tt)) tt)
    (read w64 c.requires.k_in.b_below tt)) tt

pub returns : goal.returns
returns c =
    let k = trip w64 (multiple (trip w64 (minus (read w64 c.requires.k_in.a_below tt)) tt)
    (read w64 c.requires.l_in.b_below tt)) tt in
    let l = trip w64 (multiple (trip w64 (minus (read w64 c.requires.l_in.a_below tt)) tt)
    (read w64 c.requires.k_in.b_below tt)) tt in
    c.cmp.ensures ∙ (λ i. int_cmp (k.is i) (l.is i))
