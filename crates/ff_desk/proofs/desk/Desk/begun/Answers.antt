use Rattle.std.proofs.Common.{◌≡◌, ap, length, ◌<◌, arith}
use Rattle.ff_journal.specs.Epochs.{last_begun}
use Rattle.ff_desk.proofs.Counts.{few}
use Rattle.ff_desk.proofs.desk.Desk.begun.Goals as goal

pub begun-requires : goal.begun-requires
begun-requires c = record {
  few =
      let n = (few c.self.inside.base.lengths c.self.inside.journal c.self.invariant.within c.self.invariant.order).2 in
      let t = c.self.invariant.few.commands in
      let e = ap (λ j. length j) c.as_slice.ensures in omega (arith, n, t, e);
}

pub returns-clause-few : goal.returns-clause-few
returns-clause-few c =
    let n = (few c.self.inside.base.lengths c.self.inside.journal c.self.invariant.within c.self.invariant.order).0 in
    let t = c.self.invariant.few.commands in
    let v = c.begun.ensures.value in
    let e = ap (λ j. last_begun j) c.as_slice.ensures in omega (arith, n, t, v, e)
