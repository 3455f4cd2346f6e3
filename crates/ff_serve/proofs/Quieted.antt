-- Where all that the givens force is deduced, nothing more is.
use Rattle.std.proofs.Common.{◌≡◌, ℕ, ◌+◌, List, Result, Ok, Err, OnOk, arith, Bool, IsTrue, Option, Some, None, refl, sym, ap, ◌∙◌, subst}
use Rattle.ff_tables.specs.declared.orders.Order.{Order}
use Rattle.ff_tables.specs.declared.terms.Constraint.{Constraint}
use Rattle.ff_tables.specs.declared.givens.Given.{Given}
use Rattle.ff_tables.specs.Orders.{term_at}
use Rattle.ff_tables.specs.Forces.{Knows}
use Rattle.ff_tables.proofs.Agreeing.{forces_more, dead_more}
use Rattle.ff_propagate.specs.declared.facts.Fact.{Fact}
use Rattle.ff_propagate.specs.Facts.{fact_at, value_at, seen}
use Rattle.ff_propagate.specs.Closure.{InClosure, IsClosure, Gives, HoldsGivens}
use Rattle.ff_propagate.specs.FactRule.{MeetsFactRule}
use Rattle.ff_propagate.specs.RuleLaws.{FactsAreInside}
use Rattle.ff_propagate.specs.Closing.{IsDeadIn, IsFirstContradiction}
use Rattle.ff_types.specs.declared.cases.Case.{Case}
use Rattle.ff_journal.specs.declared.entries.Entry.{Entry}
use Rattle.ff_journal.specs.Epochs.{last_begun, givens_of}
use Rattle.ff_journal.specs.Publications.{published}
use Rattle.ff_core.specs.States.{State, StandsFor, WorksOn}
use Rattle.ff_core.specs.Steps.{IsNotClosedAny, ForcesMore, HaveDead}
use Rattle.ff_serve.specs.Reaching.{HaveAll, WorksOnSuch, IsSameButWork, IsQuiet}

none_some : (a : Fact) → None ≡ Some a → ⊥
none_some a e = let q : None ≡ Some a = e in cc

none_order : (s : Order) → None ≡ Some s → ⊥
none_order s e = let q : None ≡ Some s = e in cc

same_order : (s t : Order) → Some s ≡ Some t → s ≡ t
same_order s t e = cc

fact_of_value : (o : Option Fact) (s : Order) → seen o ≡ Some s → (h : Fact) × (o ≡ Some h) × (h.value ≡ s)
fact_of_value None s e = absurd (none_order s e)
fact_of_value (Some h) s e = (h, refl, same_order h.value s e)

-- what the facts know, the facts worked on know
more_known : (facts work : List (Option Fact)) → HaveAll facts work → (v : ℕ) (s : Order) → Knows (value_at facts) v s → Knows (value_at work) v s
more_known facts work all v s known =
    let h = fact_of_value (fact_at facts v) s known in let x = all v h.0 h.1 in
    ap seen x.1 ∙ ap Some (x.2.0 ∙ h.2)

-- facts of the closure, with all of it, leave nothing to be deduced
pub quiet_board : (cons : List Constraint) (gs : List Given) (facts work : List (Option Fact)) → IsClosure cons (Gives gs) (value_at facts)
    → ((v : ℕ) (h : Fact) → fact_at work v ≡ Some h → InClosure cons (Gives gs) v h.value) → HaveAll facts work → IsNotClosedAny cons gs work → ⊥
quiet_board cons gs facts work closure inside all more =
    let f = more.1.forces in
    let in_closure : InClosure cons (Gives gs) f.variable f.value = λ set closed.
    closed.forced_held more.0 f.constraint f.variable f.value f.there
    (forces_more f.constraint.kind f.constraint.terms (Knows (value_at work)) (λ u t. IsTrue (set u t)) f.variable f.value
    (λ j t _ known. let u : ℕ = (term_at f.constraint.terms j).var in let h = fact_of_value (fact_at work u) t known in subst (λ (z : Order). IsTrue (set u z)) h.2 (inside u h.0 h.1 set closed))
    f.forces) in
    let there = fact_of_value (fact_at facts f.variable) f.value ((closure f.variable f.value).1 in_closure) in
    let x = all f.variable there.0 there.1 in none_some x.0 (sym f.unset ∙ x.1)

-- a dead constraint stays so
pub quiet_dead : (cons : List Constraint) (gs : List Given) (facts work : List (Option Fact)) (c : ℕ) → IsDeadIn cons facts c
    → HaveAll facts work → IsNotClosedAny cons gs work → ⊥
quiet_dead cons gs facts work c dead all more = more.1.alive (
  c,
  record {
    constraint = dead.constraint;
    there = dead.there;
    none = dead_more dead.constraint.kind dead.constraint.terms (Knows (value_at facts)) (Knows (value_at work)) (λ j t _ known. more_known facts work all (term_at dead.constraint.terms j).var t known) dead.none;
  },
)

-- givens that contradict each other leave nothing to be deduced
pub quiet_clash : (cons : List Constraint) (gs : List Given) (work : List (Option Fact)) (first second : ℕ) → IsFirstContradiction gs first second
    → IsNotClosedAny cons gs work → ⊥
quiet_clash cons gs work first second is more = more.1.agreed (first, second, is.g, is.h, is.g_there, is.h_there, is.contradict)

-- ---- at the calls

-- what holds of an Ok
pub on_ok : {A E P Q : Type 0} → (r : Result A E) → (P → Q) → OnOk r P → OnOk r Q
on_ok (Ok a) f p = f p
on_ok (Err e) f p = tt

pub on_both : {A E P Q R : Type 0} → (r : Result A E) → (P → Q → R) → OnOk r P → OnOk r Q → OnOk r R
on_both (Ok a) f p q = f p q
on_both (Err e) f p q = tt

no_work : (w : List (Option Fact)) → None ≡ Some w → ⊥
no_work w e = let q : None ≡ Some w = e in cc

same_work : (v w : List (Option Fact)) → Some v ≡ Some w → v ≡ w
same_work v w e = cc

rule_of : (case : Case) (j : List Entry) (o : Option (List (Option Fact))) (work : List (Option Fact)) → WorksOn case j o → o ≡ Some work
    → MeetsFactRule case.system.vars case.system.constraints (givens_of case j (published j)) work
rule_of case j None work works is = absurd (no_work work is)
rule_of case j (Some fs) work works is =
    subst (λ (l : List (Option Fact)). MeetsFactRule case.system.vars case.system.constraints (givens_of case j (published j)) l) (same_work fs work is) works.1

-- the facts worked on are by the fact rule
pub works_rule : (case : Case) (core : State) (work : List (Option Fact)) → StandsFor case core → core.working ≡ Some work
    → MeetsFactRule case.system.vars case.system.constraints (givens_of case core.journal (published core.journal)) work
works_rule case core work stands is = rule_of case core.journal core.working work stands.works is

some_worked : (case : Case) (j : List Entry) (o : Option (List (Option Fact))) → WorksOn case j o → published j ≡ last_begun j → o ≡ None → ⊥
some_worked case j None works last is = omega (arith, works, last)
some_worked case j (Some fs) works last is = no_work fs (sym is)

-- while an epoch is unpublished there are facts worked on
pub has_work : (case : Case) (core : State) → StandsFor case core → published core.journal ≡ last_begun core.journal → core.working ≡ None → ⊥
has_work case core stands last is = some_worked case core.journal core.working stands.works last is

-- a closure holds its givens
pub holds_givens : (cons : List Constraint) (gs : List Given) (facts : List (Option Fact)) → IsClosure cons (Gives gs) (value_at facts)
    → HoldsGivens gs (value_at facts)
holds_givens cons gs facts closure i g at = (closure g.var g.value).1
    (λ set closed. closed.base_held g.var g.value (i, record { given = g; there = at; variable = refl; value = refl }))

givens_now : (case : Case) (old new : State) → IsSameButWork old new
    → givens_of case old.journal (published old.journal) ≡ givens_of case new.journal (published new.journal)
givens_now case old new same = ap (λ (j : List Entry). givens_of case j (published j)) (sym (ap (λ (z : State). z.journal) same))

pub board_is_quiet : (case : Case) (old new : State) (gs : List Given) (facts : List (Option Fact)) → gs ≡ givens_of case old.journal (published old.journal)
    → StandsFor case new → FactsAreInside → IsClosure case.system.constraints (Gives gs) (value_at facts)
    → IsSameButWork old new → WorksOnSuch (HaveAll facts) new → IsQuiet case new
board_is_quiet case old new gs facts are stands law closure same all work is more =
    let now : List Given = givens_of case new.journal (published new.journal) in
    quiet_board case.system.constraints now facts work
    (subst (λ (l : List Given). IsClosure case.system.constraints (Gives l) (value_at facts)) (are ∙ givens_now case old new same) closure)
    (law case.system.vars case.system.constraints now work (works_rule case new work stands is))
    (subst (HaveAll facts) (same_work all.0 work (sym all.1 ∙ is)) all.2) more

pub dead_is_quiet : (case : Case) (old new : State) (facts : List (Option Fact)) (c : ℕ) → IsDeadIn case.system.constraints facts c
    → IsSameButWork old new → WorksOnSuch (HaveAll facts) new → IsQuiet case new
dead_is_quiet case old new facts c dead same all work is more =
    quiet_dead case.system.constraints (givens_of case new.journal (published new.journal)) facts work c dead
    (subst (HaveAll facts) (same_work all.0 work (sym all.1 ∙ is)) all.2) more

pub clash_is_quiet : (case : Case) (core : State) (gs : List Given) (first second : ℕ) → gs ≡ givens_of case core.journal (published core.journal)
    → IsFirstContradiction gs first second → IsQuiet case core
clash_is_quiet case core gs first second are is work at more =
    quiet_clash case.system.constraints (givens_of case core.journal (published core.journal)) work first second
    (subst (λ (l : List Given). IsFirstContradiction l first second) are is) more
