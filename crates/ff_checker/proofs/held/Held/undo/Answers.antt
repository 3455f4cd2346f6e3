use Rattle.std.proofs.Common.{arith, subst}
use Rattle.ff_checker.specs.LogStates.{AllWithin}
use Rattle.ff_checker.proofs.HeldLists.{place_within, holds_last, fewer}
use Rattle.ff_checker.proofs.Undoing.{shorter_front}
use Rattle.ff_checker.proofs.held.Held.undo.Goals as goal

pub index_mut-requires : goal.index_mut-requires
index_mut-requires c =
    let all = c.loop-self.invariant.held in
    let w = (subst (AllWithin c.loop-self.self.side) c.in-Some.ensures.items all.within) c.in-Some.claim (holds_last c.pop.new.self.items c.in-Some.claim) in
    let l = place_within c.loop-self.self.side c.in-Some.claim w in
    omega (arith, c.place.ensures, l, all.size, c.loop-self.self.flags.ok.0)

pub loop-self-preserved-in-Some : goal.loop-self-preserved-in-Some
loop-self-preserved-in-Some c =
    let all = c.loop-self.invariant.held in
    let a = fewer c.loop-self.self.side c.loop-self.self.flags.items c.pop.new.self.items c.loop-self.self.list.items c.place.result c.in-Some.claim
    (record { size = all.size; flags_are = all.flags; within = all.within; once = all.once }) c.place.ensures c.in-Some.ensures.items in
    record {
      held = record { size = a.size; flags = a.flags_are; within = a.within; once = a.once };
      side = c.loop-self.invariant.side;
      front = shorter_front c.args.self.now.list.items c.pop.new.self.items c.loop-self.self.list.items c.in-Some.claim c.loop-self.invariant.front c.in-Some.ensures.items;
      enough = omega (arith, c.loop-self-test.true, c.in-Some.ensures.len, c.len.ensures, c.pop.new.self.ok.0);
    }
