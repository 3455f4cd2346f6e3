use Rattle.std.proofs.Common.{arith, rules, ◌≡◌, ◌+◌, ◌≤◌, length, length-append, vec_len, ap, ◌∙◌}
use Rattle.ff_top.proofs.Pieces.{has_read_front, read_off_beyond, read_off_end}
use Rattle.ff_top.proofs.transfer.read_all.Goals as goal

pub returns-then-n-eq0-clause-read_off : goal.returns-then-n-eq0-clause-read_off
returns-then-n-eq0-clause-read_off g c =
    let same : length c.loop-block.bytes.items ≡ vec_len c.loop-block.bytes = search rules in
    let within : length c.loop-block.bytes.items ≤ c.args.limit = omega (arith, same, c.len.ensures) in
    read_off_end _ _ _ _ _ _ _ c.loop-block.invariant.read c.in-Ok.ensures.bytes c.if-n-eq0.true within

pub returns-clause-input : goal.returns-clause-input
returns-clause-input g c =
    let front = has_read_front _ _ _ c.loop-block.invariant.read in
    let same : length c.loop-block.bytes.items ≡ vec_len c.loop-block.bytes = search rules in
    let long : length front.0 ≡ length c.loop-block.bytes.items + length front.1 = ap length front.3 ∙ length-append c.loop-block.bytes.items front.1 in
    (front.0, front.2, omega (arith, long, same, c.len.ensures))

pub returns-clause-read_off : goal.returns-clause-read_off
returns-clause-read_off g c =
    let same : length c.loop-block.bytes.items ≡ vec_len c.loop-block.bytes = search rules in
    let full : length c.loop-block.bytes.items ≡ c.args.limit + 1 = omega (arith, same, c.len.ensures, c.loop-block.invariant.within) in
    read_off_beyond _ _ _ _ c.loop-block.invariant.read full
