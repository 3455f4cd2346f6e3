use Rattle.std.proofs.Common.{◌+◌, refl, sym, subst, ◌∙◌, true≢false}
use Rattle.ff_trans.specs.declared.found.Found.{Found}
use Rattle.ff_trans.specs.Rows.{IsTaken}
use Rattle.ff_trans.proofs.FoundTriples.{some_constraint}
use Rattle.ff_trans.proofs.taking.take.Goals as goal
use Rattle.ff_trans.proofs.taking.take.Goals.{then-found+in_ok-append, else-found}

pub returns-clause-taken : goal.returns-clause-taken
returns-clause-taken c = elim c.if-found.branch [
  | then-found+in_ok-append w ↦ (
    w.listed.result,
    record { cite = w.listed.ensures.cite; constraint = w.listed.ensures.constraint },
    subst (λ (z : Found). IsTaken w.listed.result c.args.found.now (record { list = z.list; count = z.count + 1; keeps = z.keeps; guesses = z.guesses })) (sym w.found-is)
        (record { count = refl; keeps = refl; listed = λ t. w.in_ok-append.ensures.appended }),
  )
  | else-found w ↦ (let x = some_constraint c.args.pairs.now c.requires.sorted c.args.f c.args.h c.args.k c.args.cell.now.at c.requires.low c.requires.high c.requires.first c.requires.second c.requires.third in (
    x.0,
    x.1,
    subst (λ (z : Found). IsTaken x.0 c.args.found.now (record { list = z.list; count = z.count + 1; keeps = z.keeps; guesses = z.guesses })) (sym w.found-is)
        (record { count = refl; keeps = refl; listed = λ t. absurd (true≢false (sym t ∙ w.if-found.false)) }),
  ))
]
