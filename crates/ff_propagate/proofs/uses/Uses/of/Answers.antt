use Rattle.std.proofs.Common.{◌<◌, ℕ, sym, subst, length, slice_index, List, arith}
use Rattle.std.proofs.lemmas.Option.{slice_get_within}
use Rattle.ff_basics.proofs.NumberedLists.{read_at}
use Rattle.ff_propagate.specs.Uses.{IsUse, IsIn}
use Rattle.ff_propagate.proofs.uses.Uses.of.Goals as goal

pub returns-clause-below : goal.returns-clause-below
returns-clause-below c =
    let e = read_at c.args.self.now.lists.items c.args.var c.index.result.now c.as_slice.result.now
    (omega (arith, c.requires.var, c.requires.uses.wide)) c.index.ensures c.as_slice.ensures.value in
    subst (λ (xs : List ℕ). (k : ℕ) → k < length xs → slice_index xs k < length c.args.constraints.now) (sym e)
    (c.requires.uses.listed.below c.args.var)

pub returns-clause-each : goal.returns-clause-each
returns-clause-each c =
    let e = read_at c.args.self.now.lists.items c.args.var c.index.result.now c.as_slice.result.now
    (omega (arith, c.requires.var, c.requires.uses.wide)) c.index.ensures c.as_slice.ensures.value in
    λ d has. subst (λ (xs : List ℕ). IsIn xs d) (sym e)
    (c.requires.uses.listed.each d c.args.var (within d has) has)
  where
    within : (d : ℕ) → IsUse c.args.constraints.now d c.args.var → d < length c.args.constraints.now
    within d has = slice_get_within c.args.constraints.now d has.con has.there
