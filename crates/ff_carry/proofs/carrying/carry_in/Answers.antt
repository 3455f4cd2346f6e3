use Rattle.std.proofs.Common.{rules, ◌≡◌, ◌+◌, ◌<◌, ◌++◌, ℕ, refl, sym, ap, ◌∙◌, subst, arith, length, take, drop, replicate, List, Option, None}
use Rattle.std.proofs.lemmas.Grind.{common_steps}
use Rattle.ff_tables.specs.declared.terms.Constraint.{Constraint}
use Rattle.ff_propagate.specs.declared.facts.Fact.{Fact}
use Rattle.ff_propagate.specs.Giving.{HasGivens}
use Rattle.ff_carry.specs.Ends.{Fills, Opens}
use Rattle.ff_carry.specs.Keeping.{HaveReasons}
use Rattle.ff_carry.proofs.Carries.{carries}
use Rattle.ff_carry.proofs.Firsts.{no_firsts}
use Rattle.ff_carry.proofs.carrying.carry_in.Goals as goal

pub fill-clash-requires-clause-first : goal.fill-clash-requires-clause-first
fill-clash-requires-clause-first c = subst (HasGivens c.args.givens.now 0) (sym (c.as_mut_slice.ensures.value ∙ c.in_ok-facts.ensures)) (no_firsts c.args.givens.now c.args.system.now.vars)

pub fill-clash-requires-clause-rule : goal.fill-clash-requires-clause-rule
fill-clash-requires-clause-rule c = subst (λ (cons : List Constraint). HaveReasons cons c.args.old.now) (sym c.as_slice.ensures) c.requires.rule

pub returns : goal.returns
returns c = let new = c.fill-clash.new.facts in
    let e : take c.in_ok-facts.facts.len (new ++ drop (length new) c.in_ok-facts.facts.items) ≡ new = grind (arith, common_steps) in
    let opens = subst (λ (fs : List (Option Fact)). Opens fs c.fill-clash.result c.end_of.result) e c.end_of.ensures in
    let fills = subst (λ (z : ℕ × List Constraint). Fills z.0 z.1 c.args.givens.now c.args.old.now new c.fill-clash.result) (λ k. (c.requires.wide k, c.as_slice.ensures k)) c.fill-clash.ensures in
    carries c.args.system.now.vars c.args.system.now.constraints c.args.givens.now c.args.old.now new c.fill-clash.result c.end_of.result fills opens
