use Rattle.std.proofs.Common.{ap}
use Rattle.ff_tables.specs.Orders.{term_at}
use Rattle.ff_refute.proofs.Trimmed.{used_more}
use Rattle.ff_refute.proofs.Rested.{only_more}
use Rattle.ff_refute.proofs.trimming.use_terms.Goals as goal

pub loop-j-preserved : goal.loop-j-preserved
loop-j-preserved c =
    let is = ap (λ ts. (term_at ts c.loop-j.j).var) c.as_slice-terms.ensures.value in
    let used = used_more c.args.con.now.terms c.loop-j.j _ c.args.uses.now c.loop-j.uses c.insert.new.self is
    c.in_ok-insert.ensures.updates.0 c.in_ok-insert.ensures.updates.1 (c.loop-j.invariant.0, c.loop-j.invariant.1) in (
      used.0,
      used.1,
      only_more c.args.con.now.terms c.loop-j.j _ c.args.uses.now c.loop-j.uses c.insert.new.self is
          c.in_ok-insert.ensures.updates.0 c.loop-j.invariant.2,
    )
