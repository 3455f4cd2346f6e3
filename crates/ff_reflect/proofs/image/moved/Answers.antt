use Rattle.ff_whole.proofs.Bounds.{read, trip, sum, difference, multiple, fits_exactly, below_exactly, below-more}
use mir.Syntax.{w64, w128}
use Rattle.ff_reflect.proofs.image.moved.Goals as goal

pub overflow_sub-result : goal.overflow_sub-result
overflow_sub-result c =
    let n = multiple (trip w128 (read w64 c.requires.n_size tt) tt) (trip w128 (read w64 c.requires.at_size tt) tt) in
    let a = multiple (trip w128 (read w64 c.requires.a_size tt) tt) (trip w128 (read w64 c.requires.d_size tt) tt) in
    let k = multiple (trip w128 (read w64 c.requires.c_size tt) tt) (trip w128 (read w64 c.requires.e_size tt) tt) in
    fits_exactly w128 (difference (trip w128 a tt) (trip w128 k tt)) tt

pub overflow_add-result : goal.overflow_add-result
overflow_add-result c =
    let n = multiple (trip w128 (read w64 c.requires.n_size tt) tt) (trip w128 (read w64 c.requires.at_size tt) tt) in
    let a = multiple (trip w128 (read w64 c.requires.a_size tt) tt) (trip w128 (read w64 c.requires.d_size tt) tt) in
    let k = multiple (trip w128 (read w64 c.requires.c_size tt) tt) (trip w128 (read w64 c.requires.e_size tt) tt) in
    fits_exactly w128 (sum (trip w128 n tt) (trip w128 (difference (trip w128 a tt) (trip w128 k tt)) tt)) tt

pub returns-clause-value : goal.returns-clause-value
returns-clause-value c =
    let n = multiple (trip w128 (read w64 c.requires.n_size tt) tt) (trip w128 (read w64 c.requires.at_size tt) tt) in
    let a = multiple (trip w128 (read w64 c.requires.a_size tt) tt) (trip w128 (read w64 c.requires.d_size tt) tt) in
    let k = multiple (trip w128 (read w64 c.requires.c_size tt) tt) (trip w128 (read w64 c.requires.e_size tt) tt) in
    (trip w128 (sum (trip w128 n tt) (trip w128 (difference (trip w128 a tt) (trip w128 k tt)) tt)) tt).is

pub returns-clause-size : goal.returns-clause-size
returns-clause-size c =
    let n = multiple (trip w128 (read w64 c.requires.n_size tt) tt) (trip w128 (read w64 c.requires.at_size tt) tt) in
    let a = multiple (trip w128 (read w64 c.requires.a_size tt) tt) (trip w128 (read w64 c.requires.d_size tt) tt) in
    let k = multiple (trip w128 (read w64 c.requires.c_size tt) tt) (trip w128 (read w64 c.requires.e_size tt) tt) in
    below-more (below_exactly (trip w128 (sum (trip w128 n tt) (trip w128 (difference (trip w128 a tt) (trip w128 k tt)) tt)) tt)) tt
