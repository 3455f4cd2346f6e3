use Rattle.std.proofs.Common.{rules, ◌≡◌, ℕ, List, Option, length, map, sym, ap, ◌∙◌, subst, arith}
use Rattle.std.proofs.lemmas.List.{length-map}
use Rattle.ff_propagate.specs.declared.facts.Fact.{Fact}
use Rattle.ff_propagate.specs.declared.facts.ClashAt.TheVariants as at
use Rattle.ff_propagate.specs.declared.facts.Closed.TheVariants.{Board, Clash}
use Rattle.ff_propagate.specs.Facts.{seen}
use Rattle.ff_propagate.specs.RuleLaws.{HasFacts}
use Rattle.ff_propagate.specs.Closing.{ClosesTo}
use Rattle.ff_propagate.specs.Telling.{AreTold}
use Rattle.ff_propagate.specs.Trails.{Ends}
use Rattle.ff_propagate.proofs.Lists.{written_back}
use Rattle.ff_propagate.proofs.Boards.{told_start, board, dead}
use Rattle.ff_propagate.proofs.closing.closed.Goals as goal

pub of-requires : goal.of-requires
of-requires c = record {
  few = omega (
    arith,
    ap length c.in_ok-values.ensures,
    length-map c.as_slice.result.now seen,
    ap length c.as_slice.ensures.value,
    c.requires.wide,
    c.requires.vars,
  );
}

pub tell-requires-clause-told : goal.tell-requires-clause-told
tell-requires-clause-told c = subst (λ (fs : List (Option Fact)). AreTold c.args.system.now.vars
    c.args.system.now.constraints c.args.givens.now c.settle.new.self 0 fs) (sym c.as_mut_slice.ensures.value)
    (told_start c.args.system.now.vars c.args.system.now.constraints c.args.givens.now c.args.facts.items
    c.in_ok-trail.trail c.settle.new.self c.requires.wide c.requires.gives
    (c.in_ok-trail.ensures.values ∙ c.in_ok-values.ensures ∙ ap (map seen) c.as_slice.ensures.value)
    c.in_ok-trail.ensures.none c.settle.ensures.grows)

pub returns-in-Some : goal.returns-in-Some
returns-in-Some c =
    let wide : length c.tell.new.facts ≡ length c.args.facts.items = omega
    (arith, c.tell.ensures.told.wide, c.requires.wide) in
    let written : c.of-facts.result ≡ c.tell.new.facts = c.of-facts.ensures ∙ c.of-2.ensures
    ∙ written_back c.tell.new.facts c.args.facts.items c.args.facts.len wide (search rules) in
    subst (λ (fs : List (Option Fact)). ClosesTo c.args.system.now.vars
    c.args.system.now.constraints c.args.givens.now (Clash fs (at.Dead c.in-Some.c)))
    (sym written)
    (dead c.args.system.now.vars c.args.system.now.constraints c.args.givens.now c.args.facts.items
    c.tell.new.facts c.settle.new.self c.tell.ensures.told
    (subst (λ (fs : List (Option Fact)). HasFacts c.tell.new.facts fs) c.as_mut_slice.ensures.value
    c.tell.ensures.more)
    c.requires.gives c.requires.agreed c.args.system.now.fit c.in-Some.c
    (subst (λ (o : Option ℕ). Ends c.args.system.now.constraints (length c.settle.new.self.steps.items)
    c.settle.new.self o) c.in-Some.is c.in_ok-dead.ensures.ends))

pub returns : goal.returns
returns c =
    let wide : length c.tell.new.facts ≡ length c.args.facts.items = omega
    (arith, c.tell.ensures.told.wide, c.requires.wide) in
    let written : c.of-facts.result ≡ c.tell.new.facts = c.of-facts.ensures ∙ c.of-2.ensures
    ∙ written_back c.tell.new.facts c.args.facts.items c.args.facts.len wide (search rules) in
    subst (λ (fs : List (Option Fact)). ClosesTo c.args.system.now.vars c.args.system.now.constraints
    c.args.givens.now (Board fs)) (sym written)
    (board c.args.system.now.vars c.args.system.now.constraints c.args.givens.now c.args.facts.items
    c.tell.new.facts c.settle.new.self c.tell.ensures.told
    (subst (λ (fs : List (Option Fact)). HasFacts c.tell.new.facts fs) c.as_mut_slice.ensures.value
    c.tell.ensures.more)
    c.requires.gives c.requires.agreed
    (subst (λ (o : Option ℕ). Ends c.args.system.now.constraints (length c.settle.new.self.steps.items)
    c.settle.new.self o) c.in-None.is c.in_ok-dead.ensures.ends))
