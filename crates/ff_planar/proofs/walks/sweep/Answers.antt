use mir.Syntax.{w64}
use Rattle.ff_whole.proofs.Bounds.{read, trip, difference, multiple, fits_exactly, below_exactly, wider}
use Rattle.ff_planar.proofs.walks.sweep.Goals as goal

pub overflow_mul-result : goal.overflow_mul-result
overflow_mul-result c = let p = c.requires.p_near in let q = c.requires.q_near in fits_exactly w64 (multiple (read w64 p.x_below tt) (read w64 q.y_below tt)) tt

pub overflow_mul-result-2 : goal.overflow_mul-result-2
overflow_mul-result-2 c = let p = c.requires.p_near in let q = c.requires.q_near in fits_exactly w64 (multiple (read w64 p.y_below tt) (read w64 q.x_below tt)) tt

pub overflow_sub-result : goal.overflow_sub-result
overflow_sub-result c = let p = c.requires.p_near in let q = c.requires.q_near in
    fits_exactly w64 (difference (trip w64 (multiple (read w64 p.x_below tt) (read w64 q.y_below tt)) tt) (trip w64 (multiple (read w64 p.y_below tt) (read w64 q.x_below tt)) tt)) tt

pub returns-clause-value : goal.returns-clause-value
returns-clause-value c = let p = c.requires.p_near in let q = c.requires.q_near in
    (trip w64 (difference (trip w64 (multiple (read w64 p.x_below tt) (read w64 q.y_below tt)) tt) (trip w64 (multiple (read w64 p.y_below tt) (read w64 q.x_below tt)) tt)) tt).is

pub returns-clause-size : goal.returns-clause-size
returns-clause-size c = let p = c.requires.p_near in let q = c.requires.q_near in
    below_exactly (wider (trip w64 (difference (trip w64 (multiple (read w64 p.x_below tt) (read w64 q.y_below tt)) tt) (trip w64 (multiple (read w64 p.y_below tt) (read w64 q.x_below tt)) tt)) tt) tt)
