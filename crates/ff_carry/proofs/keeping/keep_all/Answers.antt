use Rattle.std.proofs.Common.{rules, ◌≡◌, ℕ, ◌<◌, ◌≤◌, get_or, List, Option, sym, ap, ◌∙◌, subst, length, arith, Some}
use Rattle.std.proofs.lemmas.Option.{slice_get_within}
use Rattle.ff_carry.specs.Keeping.{IsKeeping}
use Rattle.ff_carry.proofs.Kept.{keeps_on, kept_all, starts, at_place, inside}
use Rattle.ff_carry.proofs.keeping.keep_all.Goals as goal

pub loop-n-init : goal.loop-n-init
loop-n-init c = record { keeping = starts c.args.constraints.now c.args.facts.now c.args.old.now c.args.order.now }

pub keep_one-requires-clause-var : goal.keep_one-requires-clause-var
keep_one-requires-clause-var c = let at = at_place c.args.order.now c.loop-n.n c.loop-n-test.true in let q = c.requires.order.each c.loop-n.n _ at in
    inside c.args.old.now _ q.0 q.1

pub loop-n-preserved : goal.loop-n-preserved
loop-n-preserved c = let p = get_or c.args.order.now c.loop-n.n (record { level = 0; var = 0 }) in record {
  keeping = keeps_on c.args.constraints.now c.args.facts.now c.args.old.now c.loop-n.facts c.keep_one.new.facts c.args.order.now c.loop-n.n p.level p.var c.requires.order (at_place c.args.order.now c.loop-n.n c.loop-n-test.true) c.requires.wide
      c.loop-n.invariant.keeping c.keep_one.ensures;
}

pub returns : goal.returns
returns c = kept_all c.args.constraints.now c.args.facts.now c.args.old.now c.loop-n.facts c.args.order.now c.loop-n.n c.requires.order
    (λ i p at. omega (arith, c.loop-n-test.false, slice_get_within c.args.order.now i p at)) c.loop-n.invariant.keeping
