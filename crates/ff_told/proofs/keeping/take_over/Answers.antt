use Rattle.std.proofs.Common.{◌≡◌, ◌+◌, ◌*◌, ◌<◌, ◌≤◌, ◌^◌, List, [], ◌∷◌, length, sym, ap, ◌∙◌, subst, arith, refl}
use Rattle.std.proofs.lemmas.List.{length-append}
use Rattle.ff_told.specs.Earlier.{turns_in, AreOrdered, HaveTakenFrom}
use Rattle.ff_told.proofs.Earlier.{front_less, ordered_less, last_of, turns_more, none_from, took_all, keep_self, keep_on}
use Rattle.ff_told.proofs.keeping.take_over.Goals as goal

pub loop-one-init : goal.loop-one-init
loop-one-init c = record {
  front = λ k e h. h;
  ordered = c.requires.ordered;
  keep = keep_self c.args.case.now c.args.pages.now;
  taken = none_from c.args.case.now.system.constraints c.args.earlier.now.items c.args.pages.now (length c.args.earlier.now.items) (omega arith);
  turns = omega arith;
  few = omega arith;
}

pub take_one-dropped-requires-clause-earlier : goal.take_one-dropped-requires-clause-earlier
take_one-dropped-requires-clause-earlier c =
    c.loop-one.invariant.ordered.2.stand (length c.pop.new.self.items) c.in-Some.one (last_of c.loop-one.earlier.items c.pop.new.self.items c.in-Some.one c.in-Some.ensures.items)

pub loop-one-preserved : goal.loop-one-preserved
loop-one-preserved c =
    let i = c.loop-one.invariant in
    let old = c.loop-one.earlier.items in
    let new = c.pop.new.self.items in
    let e = c.in-Some.one in
    let is = c.in-Some.ensures.items in
    let less = front_less old new c.args.earlier.now.items e is i.front in
    let o = i.ordered in
    let budget = o.2.budgeted (length new) e (last_of old new e is) in
    let all = c.requires.ordered in
    let many : length old ≡ length new + 1 = ap length is ∙ length-append new (e ∷ []) in
    let t = turns_more old new e is in
    let u = c.take_one-dropped.ensures.turns in
    let before = i.turns in
    let f = c.take_one-dropped.ensures.few in
    let few = i.few in record {
      front = less.0;
      ordered = (o.0, subst (λ b. AreOrdered c.args.case.now b c.take_one-dropped.new.pages) budget c.take_one-dropped.ensures.ordered, ordered_less c.args.case.now o.0 old new e is o.2);
      keep = keep_on c.args.case.now c.args.pages.now c.loop-one.pages c.take_one-dropped.new.pages i.keep c.take_one-dropped.ensures.pages;
      taken = took_all c.args.case.now all.0 c.args.case.now.system.constraints c.args.earlier.now.items all.2 (length new) e less.1 c.args.pages.now c.loop-one.pages
          c.take_one-dropped.new.pages (subst (λ n. HaveTakenFrom c.args.case.now.system.constraints c.args.earlier.now.items n c.args.pages.now c.loop-one.pages) many i.taken) c.take_one-dropped.ensures.taken;
      turns = omega (arith, t, u, before);
      few = omega (arith, many, f, few);
    }
