use Rattle.std.proofs.Common.{arith}
use Rattle.std.proofs.lemmas.List.Filters.{dedup_is}
use Rattle.ff_drawn.specs.contracts.darts.DartOrd.TheImpl.Laws.{matches_eq-law}
use Rattle.ff_drawn.proofs.SeenDarts.{darts_from}
use Rattle.ff_drawn.proofs.darts.darts_of.Goals as goal

pub returns : goal.returns
returns c =
    let bound = c.dedup.ensures.bound in
    let new = c.dedup.new.self.ok.0 in
    let old = c.sort.new.self.ok.0 in
    darts_from _ matches_eq-law _ _ _ _ c.in_ok-darts.ensures c.in_ok-sort.ensures.permutation c.in_ok-sort.ensures.sorted (dedup_is _ _ _ c.dedup.ensures.filtered) (omega (arith, bound, new, old))
