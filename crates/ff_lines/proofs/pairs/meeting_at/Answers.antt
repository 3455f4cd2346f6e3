use Rattle.std.proofs.Common.{◌≡◌, sym, ap, ◌∙◌, pos, of_z, to_z, w64}
use Rattle.std.specs.Int.{w128}
use Rattle.ff_whole.proofs.Bounds.{back, fits_exactly, read, trip}
use Rattle.ff_lines.proofs.TwoLines.{meets_at, near_meeting, off_grid}
use Rattle.ff_lines.proofs.pairs.meeting_at.Goals as goal

pub returns-then-s-ne1 : goal.returns-then-s-ne1
returns-then-s-ne1 c = off_grid c.args.k c.args.l c.args.s c.requires.meet c.requires.only (λ e. c.if-s-ne1.true (ap (of_z w128) e))

pub overflow_cast-result : goal.overflow_cast-result
overflow_cast-result c =
    let one : c.args.s.w ≡ pos 1 = sym (back w128 c.requires.meet.size.w_below tt) ∙ ap (to_z w128) c.if-s-ne1.false in
    fits_exactly w64 (read w128 (near_meeting c.args.k c.args.l c.args.s c.requires.first c.requires.only one).0 tt) tt

pub overflow_cast-result-2 : goal.overflow_cast-result-2
overflow_cast-result-2 c =
    let one : c.args.s.w ≡ pos 1 = sym (back w128 c.requires.meet.size.w_below tt) ∙ ap (to_z w128) c.if-s-ne1.false in
    fits_exactly w64 (read w128 (near_meeting c.args.k c.args.l c.args.s c.requires.first c.requires.only one).1 tt) tt

pub returns : goal.returns
returns c =
    let one : c.args.s.w ≡ pos 1 = sym (back w128 c.requires.meet.size.w_below tt) ∙ ap (to_z w128) c.if-s-ne1.false in
    let near = near_meeting c.args.k c.args.l c.args.s c.requires.first c.requires.only one in
    meets_at c.args.k c.args.l c.args.s _ _ c.requires.first c.requires.only one (trip w64 (read w128 near.0 tt) tt).is (trip w64 (read w128 near.1 tt) tt).is
