use Rattle.std.proofs.Common.{◌≡◌, ◌+◌, ◌*◌, ◌<◌, ◌≤◌, ◌^◌, length, take, get_or, slice_get, Some, sym, ap, ◌∙◌, subst, arith, refl}
use Rattle.std.proofs.lemmas.Option.{slice_get_read}
use Rattle.ff_told.specs.Earlier.{turns_in}
use Rattle.ff_told.proofs.Earlier.{sum_next, take_all}
use Rattle.ff_told.proofs.keeping.turns_of.Goals as goal
use Rattle.ff_told.proofs.keeping.turns_of.Goals.{After-used-turns}

next : (c : After-used-turns) → (c.loop-i.turns + c.used-turns.result ≡ turns_in (take (c.loop-i.i + 1) c.args.pages.now)) × (c.loop-i.turns + c.used-turns.result ≤ (c.loop-i.i + 1) * 1000000000)
next c =
    let o = c.requires.ordered in
    let at = slice_get_read c.args.pages.now _ _ _ refl c.loop-i-test.true c.index-pages-i.is in
    sum_next c.args.case.now o.0 c.args.pages.now c.loop-i.i c.loop-i.turns c.used-turns.result c.index-pages-i.result o.1 c.loop-i-test.true c.index-pages-i.is
    (c.used-turns.ensures c.args.case.now.system.vars c.args.case.now.system.constraints (o.1.stand c.loop-i.i c.index-pages-i.result at)) c.loop-i.invariant.0 c.loop-i.invariant.1

pub overflow_add-turns : goal.overflow_add-turns
overflow_add-turns c = let n = (next (goal.at.overflow_add-turns c).After-used-turns).1 in let l = c.loop-i-test.true in let f = c.requires.few in omega (arith, n, l, f)

pub loop-i-preserved : goal.loop-i-preserved
loop-i-preserved c = next (goal.at.loop-i-preserved c).After-used-turns

pub returns : goal.returns
returns c = c.loop-i.invariant.0 ∙ ap turns_in (take_all c.args.pages.now c.loop-i.i (let l = c.loop-i-test.false in omega (arith, l)))
