use Rattle.std.proofs.Common.{◌≡◌, ◌≢◌, sym, subst, ℤ, pos, ◌<ℤ◌, arith, false}
use lib.Signed.{lt_z}
use lib.IntN.{neg_ℤ}
use Rattle.std.proofs.lemmas.Int.{ints}
use Rattle.ff_whole.proofs.Bounds.{read, trip, difference, multiple, known, minus, fits_exactly, zero_exactly, apart_exactly}
use Rattle.ff_whole.proofs.LinesMeeting.{meet_is, on_first, on_second, height-opposite, same_reduced}
use mir.Syntax.{w64, w128}
use Rattle.ff_whole.proofs.meeting.meet.Goals as goal

pub overflow_sub-x : goal.overflow_sub-x
overflow_sub-x c =
    let k = c.requires.k_size in
    let l = c.requires.l_size in
    fits_exactly w128 (minus (trip w128 (known c.determinant-x.ensures (difference (multiple (read w64 k.c_below tt) (read w64 l.b_below tt)) (multiple (read w64 l.c_below tt) (read w64 k.b_below tt)))) tt)) tt

pub overflow_sub-y : goal.overflow_sub-y
overflow_sub-y c =
    let k = c.requires.k_size in
    let l = c.requires.l_size in
    fits_exactly w128 (minus (trip w128 (known c.determinant-y.ensures (difference (multiple (read w64 k.a_below tt) (read w64 l.c_below tt)) (multiple (read w64 l.a_below tt) (read w64 k.c_below tt)))) tt)) tt

pub overflow_sub-w : goal.overflow_sub-w
overflow_sub-w c =
    let k = c.requires.k_size in
    let l = c.requires.l_size in
    fits_exactly w128 (minus (trip w128 (known c.determinant-w.ensures (difference (multiple (read w64 k.a_below tt) (read w64 l.b_below tt)) (multiple (read w64 l.a_below tt) (read w64 k.b_below tt)))) tt)) tt

-- a number that the code found neither 0 nor above 0
negative : (x z : ℤ) → x ≡ z → z ≢ pos 0 → lt_z (pos 0) x ≡ false → pos 0 <ℤ neg_ℤ z
negative x z e n f = omega (arith, ints)

pub reduced-requires-else-w-gt0 : goal.reduced-requires-else-w-gt0
reduced-requires-else-w-gt0 c =
    let k = c.requires.k_size in
    let l = c.requires.l_size in
    let w = known c.determinant-w.ensures (difference (multiple (read w64 k.a_below tt) (read w64 l.b_below tt)) (multiple (read w64 l.a_below tt) (read w64 k.b_below tt))) in
    let n = negative _ _ (trip w128 w tt).is (apart_exactly w128 w c.if-w-eq0.false) c.if-w-gt0.false in
    subst (λ z. pos 0 <ℤ z) (sym (trip w128 (minus (trip w128 w tt)) tt).is) n

pub returns-then-w-eq0 : goal.returns-then-w-eq0
returns-then-w-eq0 c =
    let k = c.requires.k_size in
    let l = c.requires.l_size in
    let w = known c.determinant-w.ensures (difference (multiple (read w64 k.a_below tt) (read w64 l.b_below tt)) (multiple (read w64 l.a_below tt) (read w64 k.b_below tt))) in
    zero_exactly w128 w tt c.if-w-eq0.true

pub returns-then-w-gt0 : goal.returns-then-w-gt0
returns-then-w-gt0 c =
    let k = c.requires.k_size in
    let l = c.requires.l_size in
    let x = known c.determinant-x.ensures (difference (multiple (read w64 k.c_below tt) (read w64 l.b_below tt)) (multiple (read w64 l.c_below tt) (read w64 k.b_below tt))) in
    let y = known c.determinant-y.ensures (difference (multiple (read w64 k.a_below tt) (read w64 l.c_below tt)) (multiple (read w64 l.a_below tt) (read w64 k.c_below tt))) in
    let w = known c.determinant-w.ensures (difference (multiple (read w64 k.a_below tt) (read w64 l.b_below tt)) (multiple (read w64 l.a_below tt) (read w64 k.b_below tt))) in
    meet_is c.args.k c.args.l _ _ _ c.reduced.result (apart_exactly w128 w c.if-w-eq0.false) x.size y.size w.size (on_first c.args.k c.args.l) (on_second c.args.k c.args.l)
    (same_reduced c.reduced.result (trip w128 x tt).is (trip w128 y tt).is (trip w128 w tt).is c.reduced.ensures)

pub returns-else-w-gt0 : goal.returns-else-w-gt0
returns-else-w-gt0 c =
    let k = c.requires.k_size in
    let l = c.requires.l_size in
    let x = known c.determinant-x.ensures (difference (multiple (read w64 k.c_below tt) (read w64 l.b_below tt)) (multiple (read w64 l.c_below tt) (read w64 k.b_below tt))) in
    let y = known c.determinant-y.ensures (difference (multiple (read w64 k.a_below tt) (read w64 l.c_below tt)) (multiple (read w64 l.a_below tt) (read w64 k.c_below tt))) in
    let w = known c.determinant-w.ensures (difference (multiple (read w64 k.a_below tt) (read w64 l.b_below tt)) (multiple (read w64 l.a_below tt) (read w64 k.b_below tt))) in
    let p = c.reduced-else-w-gt0.result in
    let x' = trip w128 (minus (trip w128 x tt)) tt in
    let y' = trip w128 (minus (trip w128 y tt)) tt in
    let w' = trip w128 (minus (trip w128 w tt)) tt in
    meet_is c.args.k c.args.l _ _ _ p (apart_exactly w128 w c.if-w-eq0.false) x'.size y'.size w'.size
    (height-opposite c.args.k _ _ _ (on_first c.args.k c.args.l)) (height-opposite c.args.l _ _ _ (on_second c.args.k c.args.l))
    (same_reduced p x'.is y'.is w'.is c.reduced-else-w-gt0.ensures)
