use Rattle.std.proofs.Common.{arith, rules, ◌≡◌, ◌-◌, length, take, drop, length-drop}
use Rattle.std.proofs.lemmas.List.{take_all}
use Rattle.ff_top.proofs.Pieces.{got_more}
use Rattle.ff_top.proofs.transfer.write_all.Goals as goal

pub loop-at-preserved : goal.loop-at-preserved
loop-at-preserved g c =
    let rest : take (length c.args.bytes.now - c.loop-at.at) (drop c.loop-at.at c.args.bytes.now) ≡ drop c.loop-at.at c.args.bytes.now =
    take_all _ _ (omega (arith, length-drop c.loop-at.at c.args.bytes.now)) in
    record {
      within = search rules;
      got = got_more _ _ _ _ c.loop-at.at _ c.loop-at.invariant.got (simp rest at c.in_ok-at.ensures.bytes);
      later = omega (arith, c.put.ensures.later);
    }
