use Rattle.std.proofs.Common.{◌≤◌, ◌∙◌, sym, subst, length, arith}
use Rattle.ff_types.specs.declared.limits.TheConstants.{MOST_CONSTRAINTS}
use Rattle.ff_trans.specs.Triples.{AreTriples}
use Rattle.ff_trans.proofs.FoundTriples.{triples_are}
use Rattle.ff_trans.proofs.overlaps.listed_triples.Goals as goal

pub returns-clause-made : goal.returns-clause-made
returns-clause-made c =
    let made = c.in_ok-take_pairs.ensures in
    let so = made.found in
    let is = so.kept (made.keeps ∙ c.nothing-listed.ensures.keeps) in
    subst (AreTriples c.args.cells.now c.args.pairs.now) (sym is)
    (triples_are c.args.cells.now c.args.pairs.now c.requires.pairs (length c.args.pairs.now) so.list (omega arith) so.to)

pub returns-clause-few : goal.returns-clause-few
returns-clause-few c =
    let made = c.in_ok-take_pairs.ensures in
    let so = made.found in
    let is = so.kept (made.keeps ∙ c.nothing-listed.ensures.keeps) in
    subst (λ xs. length xs ≤ MOST_CONSTRAINTS) (sym is) so.room
