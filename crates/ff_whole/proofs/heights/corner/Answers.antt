use Rattle.std.proofs.Common.{◌≡◌, ◌≢◌, sym, subst, ℤ, pos, ◌<ℤ◌, ◌*ℤ◌, arith, true, false}
use lib.IntN.{neg_ℤ}
use lib.Signed.{lt_z}
use Rattle.std.proofs.lemmas.Int.{ints}
use Rattle.ff_whole.proofs.Bounds.{given, read, trip, difference, multiple, known, minus, below-more, fits_exactly}
use Rattle.ff_whole.proofs.Signs.{linear, pos-mul, pos-mul_neg}
use Rattle.ff_whole.proofs.LinesMeeting.{corner_is, on_corner, at_corner, at_corner_opposite, height-opposite, same_reduced}
use mir.Syntax.{w64, w128}
use Rattle.ff_whole.proofs.heights.corner.Goals as goal

above : (b x w : ℤ) → x ≡ b → pos 0 <ℤ w → lt_z (pos 0) x ≡ true → pos 0 <ℤ (w *ℤ b)
above b x w e h t = pos-mul w b h (omega (arith, ints))

under : (b x w : ℤ) → x ≡ b → pos 0 <ℤ w → b ≢ pos 0 → lt_z (pos 0) x ≡ false → pos 0 <ℤ neg_ℤ (w *ℤ b)
under b x w e h n t = let l : b <ℤ pos 0 = omega (arith, ints) in let m = pos-mul_neg w b h l in omega (arith, linear)

pub reduced-requires : goal.reduced-requires
reduced-requires c =
    let l = c.requires.line_size in
    let p = c.requires.at_size in
    let w = trip w128 (multiple (read w128 p.w_below tt) (trip w128 (read w64 l.b_below tt) tt)) tt in
    subst (λ z. pos 0 <ℤ z) (sym w.is) (above c.args.line.b _ c.args.at.w (read w64 l.b_below tt).is p.positive c.if-line-gt0.true)

pub overflow_sub-x : goal.overflow_sub-x
overflow_sub-x c =
    let l = c.requires.line_size in
    let p = c.requires.at_size in
    let x = trip w128 (multiple (read w128 p.x_below tt) (trip w128 (read w64 l.b_below tt) tt)) tt in
    fits_exactly w128 (minus x) tt

pub overflow_sub-y : goal.overflow_sub-y
overflow_sub-y c =
    let l = c.requires.line_size in
    let p = c.requires.at_size in
    let y = trip w128 (known c.rise_at-y.ensures (difference (multiple (given l.c_below) (given p.w_below)) (multiple (given l.a_below) (given p.x_below)))) tt in
    fits_exactly w128 (minus y) tt

pub overflow_sub-w : goal.overflow_sub-w
overflow_sub-w c =
    let l = c.requires.line_size in
    let p = c.requires.at_size in
    let w = trip w128 (multiple (read w128 p.w_below tt) (trip w128 (read w64 l.b_below tt) tt)) tt in
    fits_exactly w128 (minus w) tt

pub reduced-requires-else-line-gt0 : goal.reduced-requires-else-line-gt0
reduced-requires-else-line-gt0 c =
    let l = c.requires.line_size in
    let p = c.requires.at_size in
    let w = trip w128 (multiple (read w128 p.w_below tt) (trip w128 (read w64 l.b_below tt) tt)) tt in
    subst (λ z. pos 0 <ℤ z) (sym (trip w128 (minus w) tt).is) (under c.args.line.b _ c.args.at.w (read w64 l.b_below tt).is p.positive c.requires.not_vertical c.if-line-gt0.false)

pub returns-then-line-gt0 : goal.returns-then-line-gt0
returns-then-line-gt0 c =
    let l = c.requires.line_size in
    let p = c.requires.at_size in
    let x = trip w128 (multiple (read w128 p.x_below tt) (trip w128 (read w64 l.b_below tt) tt)) tt in
    let y = trip w128 (known c.rise_at-y.ensures (difference (multiple (given l.c_below) (given p.w_below)) (multiple (given l.a_below) (given p.x_below)))) tt in
    let w = trip w128 (multiple (read w128 p.w_below tt) (trip w128 (read w64 l.b_below tt) tt)) tt in
    corner_is c.args.line c.args.at _ _ _ c.reduced.result (below-more x.size tt) y.size w.size (on_corner c.args.line c.args.at) (at_corner c.args.line c.args.at)
    (same_reduced c.reduced.result x.is y.is w.is c.reduced.ensures)

pub returns-else-line-gt0 : goal.returns-else-line-gt0
returns-else-line-gt0 c =
    let l = c.requires.line_size in
    let p = c.requires.at_size in
    let x = trip w128 (multiple (read w128 p.x_below tt) (trip w128 (read w64 l.b_below tt) tt)) tt in
    let y = trip w128 (known c.rise_at-y.ensures (difference (multiple (given l.c_below) (given p.w_below)) (multiple (given l.a_below) (given p.x_below)))) tt in
    let w = trip w128 (multiple (read w128 p.w_below tt) (trip w128 (read w64 l.b_below tt) tt)) tt in
    let x' = trip w128 (minus x) tt in
    let y' = trip w128 (minus y) tt in
    let w' = trip w128 (minus w) tt in
    let r = c.reduced-else-line-gt0.result in
    corner_is c.args.line c.args.at _ _ _ r (below-more x'.size tt) y'.size w'.size (height-opposite c.args.line _ _ _ (on_corner c.args.line c.args.at)) (at_corner_opposite c.args.line c.args.at)
    (same_reduced r x'.is y'.is w'.is c.reduced-else-line-gt0.ensures)
