use Rattle.std.proofs.Common.{List, length, sym, subst, ◌≤◌, ◌+◌, arith}
use Rattle.std.specs.List.{All}
use Rattle.std.proofs.lemmas.List.Sorted.{length_permutation}
use Rattle.std.proofs.lemmas.Result.{IfOk-weaker}
use Rattle.ff_lines.specs.declared.items.LineItem.{LineItem}
use Rattle.ff_lines.specs.declared.items.TheConstants.{MOST_LINES}
use Rattle.ff_lines.specs.Lines.{IsProper}
use Rattle.ff_lines.specs.Gathered.{AreEndsOf, AreGathered}
use Rattle.ff_lines.specs.Sweeps.{AreFromWest}
use Rattle.ff_lines.proofs.Swept.{all_other, same_ends, same_gathered}
use Rattle.ff_lines.proofs.sweeping.swept.Goals as goal

pub sweep-requires-clause-proper : goal.sweep-requires-clause-proper
sweep-requires-clause-proper c = subst (All IsProper) (sym c.as_slice.ensures.value)
    (all_other c.args.lines.now c.in_ok-sorted.sorted.items c.in_ok-sorted.ensures.0 c.requires.proper)

pub sweep-requires-clause-few : goal.sweep-requires-clause-few
sweep-requires-clause-few c = subst (λ (ls : List LineItem). length ls ≤ MOST_LINES) (sym c.as_slice.ensures.value)
    (let n = length_permutation c.args.lines.now c.in_ok-sorted.sorted.items c.in_ok-sorted.ensures.0 in let f = c.requires.few in omega (arith, n, f))

pub sweep-requires-clause-from_west : goal.sweep-requires-clause-from_west
sweep-requires-clause-from_west c = subst AreFromWest (sym c.as_slice.ensures.value) c.in_ok-sorted.ensures.1

pub sweep-requires-clause-ends : goal.sweep-requires-clause-ends
sweep-requires-clause-ends c = subst (λ (ls : List LineItem). AreEndsOf ls (length ls) c.args.points.now.items) (sym c.as_slice.ensures.value)
    (same_ends c.args.lines.now c.in_ok-sorted.sorted.items c.in_ok-sorted.ensures.0 c.requires.proper c.args.points.now.items c.requires.ends)

pub returns : goal.returns
returns c = IfOk-weaker c.sweep.result _ _ (λ full h. same_gathered c.args.lines.now c.in_ok-sorted.sorted.items c.in_ok-sorted.ensures.0 c.requires.proper c.sweep.new.points.items full
    (subst (λ (ls : List LineItem). AreGathered ls (length ls) (length ls + 1) c.sweep.new.points.items full) c.as_slice.ensures.value h)) c.sweep.ensures
