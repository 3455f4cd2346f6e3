use Rattle.std.proofs.lemmas.List.Filters.{dedup_is}
use Rattle.ff_whole.specs.contracts.points.PtOrd.TheImpl.Laws.{matches_eq-law}
use Rattle.ff_lines.proofs.PointLists.{squeezed}
use Rattle.ff_lines.proofs.gathering.squeeze.Goals as goal

pub returns : goal.returns
returns c = squeezed _ matches_eq-law _ _ _ c.in_ok-sort.ensures.permutation c.in_ok-sort.ensures.sorted (dedup_is _ _ _ c.dedup.ensures.filtered)
