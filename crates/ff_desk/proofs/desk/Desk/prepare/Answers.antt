use Rattle.std.proofs.Common.{◌≡◌, ◌<◌, ◌≤◌, List, length, ◌∙◌, sym, ap, subst, arith}
use Rattle.ff_tables.specs.declared.givens.Given.{Given}
use Rattle.ff_types.specs.declared.cases.Case.{Case}
use Rattle.ff_types.specs.Pairs.{AreSorted}
use Rattle.ff_propagate.specs.FactRule.{MeetsFactRule}
use Rattle.ff_propagate.specs.Closing.{GivensFit}
use Rattle.ff_refute.specs.Givens.{AreGivens}
use Rattle.ff_journal.specs.Epochs.{givens_of}
use Rattle.ff_journal.proofs.PinGivens.{givens_fit}
use Rattle.ff_told.proofs.Refuted.{are_givens}
use Rattle.ff_desk.proofs.Publishing.{kept_rule, few_givens}
use Rattle.ff_desk.proofs.desk.Desk.prepare.Goals as goal
use Rattle.ff_desk.proofs.desk.Desk.prepare.Goals.{In_ok-givens}

fit : (c : In_ok-givens) → GivensFit c.case-case.result.now.system.vars c.in_ok-givens.givens
fit c = subst (λ gs. GivensFit c.case-case.result.now.system.vars gs) (sym c.in_ok-givens.ensures) (givens_fit c.case-case.result.now c.self.inside.journal c.args.epoch)

many : (c : In_ok-givens) → length c.in_ok-givens.givens < 4294967296
many c =
    let sorted = subst (λ (x : Case). AreSorted x.pairs) c.case-case.ensures c.count.ensures.pairs.sorted in
    let l = few_givens _ c.args.epoch c.self.invariant sorted in
    let e : length c.in_ok-givens.givens ≡ length (givens_of c.self.inside.base.case c.self.inside.journal c.args.epoch) =
    ap (λ (gs : List Given). length gs) (c.in_ok-givens.ensures ∙ ap (λ (x : Case). givens_of x c.self.inside.journal c.args.epoch) c.case-case.ensures) in
    omega (arith, l, e)

pub carry-requires-clause-rule : goal.carry-requires-clause-rule
carry-requires-clause-rule c = subst (λ (x : Case). MeetsFactRule x.system.vars x.system.constraints c.self.inside.givens c.self.inside.facts) (sym c.case-case.ensures)
    (kept_rule c.self.inside.base.case c.self.inside.journal c.self.inside.givens c.self.inside.facts c.self.inside.home c.self.invariant.kept)

pub carry-requires-clause-givens : goal.carry-requires-clause-givens
carry-requires-clause-givens c = let r = (goal.at.carry-requires-clause-givens c).In_ok-givens in (fit r, many r)

pub contradicted-requires-clause-many : goal.contradicted-requires-clause-many
contradicted-requires-clause-many c = many (goal.at.contradicted-requires-clause-many c).In_ok-givens

pub contradicted-requires-clause-fit : goal.contradicted-requires-clause-fit
contradicted-requires-clause-fit c = fit (goal.at.contradicted-requires-clause-fit c).In_ok-givens

pub contradicted-requires-clause-givens : goal.contradicted-requires-clause-givens
contradicted-requires-clause-givens c = are_givens c.case-case.result.now c.self.inside.journal c.args.epoch c.in_ok-givens.givens c.in_ok-givens.ensures
