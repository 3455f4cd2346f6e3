-- The log goes on with the steps.
use Rattle.std.proofs.Common.{◌≡◌, ℕ, zero, suc, ◌+◌, ◌<◌, ◌⊎◌, inl, inr, Bool, List, [], ◌∷◌, length, drop, slice_get, slice_index_or, refl, sym, ap, ◌∙◌, subst, arith, Option, Some, None, Contains, Result, Ok, Err, IfOk}
use Rattle.ff_tables.specs.declared.orders.Order.{Order}
use Rattle.ff_tables.specs.declared.orders.Order.TheVariants.{Below, Above}
use Rattle.ff_tables.specs.declared.terms.Constraint.{Constraint}
use Rattle.ff_tables.specs.Orders.{term_at, turn}
use Rattle.ff_tables.proofs.Agreeing.{forces_more}
use Rattle.ff_types.specs.declared.cases.Case.{Case}
use Rattle.ff_solver.specs.declared.steps.Step.{Step}
use Rattle.ff_solver.specs.declared.steps.Step.TheVariants as step
use Rattle.ff_refute.specs.declared.making.Maker.{Maker}
use Rattle.ff_log.specs.declared.claims.Claim.{Claim}
use Rattle.ff_log.specs.Logs.{with_claim, Branch, reversed}
use Rattle.ff_solver.specs.Steps.{knows, IsForcedBy, IsDeadBy, Runs}
use Rattle.ff_refute.specs.Making.{claim_of, Holds, IsMaking, CanForce, CanClose, Shuts}
use Rattle.ff_refute.specs.Marks.{IsMarked, IsRoot}
use Rattle.ff_refute.specs.Telling.{by_of, var_of, IsTold, AreStacked, IsAtSteps}
use Rattle.std.proofs.lemmas.List.{get_or_default}
use Rattle.std.proofs.lemmas.Option.{slice_get_within}
use Rattle.ff_tables.specs.declared.memory.NoMemory.{NoMemory}
use Rattle.ff_propagate.specs.declared.facts.Fact.{Fact}
use Rattle.ff_propagate.specs.Facts.{fact_at, value_at}
use Rattle.ff_propagate.proofs.Lists.{seen_is}
use Rattle.ff_refute.proofs.Marked.{fact_within}
use Rattle.ff_refute.specs.declared.ordering.Ordered.{Ordered}
use Rattle.ff_refute.specs.Marks.{entry_at, IsOrderOf, IsWritten}
use Rattle.ff_refute.specs.Telling.{HaveConstraints, HaveVariables}
use Rattle.ff_refute.proofs.Claims.{forces_claim, dead_claims, holds_now, holds_more}

pub later_or_now : (v : ℕ) (s : Order) (held : List (ℕ × Order)) (u : ℕ) (t : Order)
    → Contains ((v, s) ∷ held) (u, t) → ((u ≡ v) × (t ≡ s)) ⊎ Contains held (u, t)
later_or_now v s held u t (zero, l, e) = inl (ap (λ q. q.0) (sym e), ap (λ q. q.1) (sym e))
later_or_now v s held u t (suc k, l, e) = inr (k, omega (arith, l), e)

pub no_step : {A : Type 0} {q : Step} {steps : List Step} → q ∷ steps ≡ [] → A
no_step e = cc

module _ (case : Case) (pins : List Claim) (value : ℕ → Option Order) (marks : List Bool) where
  -- what is known of the constraint's variables is claimed
  claimed : (claims : List Claim) (held : List (ℕ × Order)) → IsTold case.pairs value marks claims held → (v : ℕ) → IsMarked marks v → (s : Order)
      → knows value held v s → Holds claims (claim_of case.pairs v s)
  claimed claims held told v marked s (inl b) = told.base v s marked b
  claimed claims held told v marked s (inr c) = told.since v s c

  told_more : (claims : List Claim) (held : List (ℕ × Order)) → IsTold case.pairs value marks claims held → (v : ℕ) (s : Order)
      → IsTold case.pairs value marks (with_claim claims (claim_of case.pairs v s)) ((v, s) ∷ held)
  told_more claims held told v s = record {
    base = λ u t marked e. holds_more (claim_of case.pairs v s) (claim_of case.pairs u t) claims (told.base u t marked e);
    since = λ u t c. elim (later_or_now v s held u t c) [
      | inl now ↦ subst (Holds (with_claim claims (claim_of case.pairs v s))) (sym (ap (λ w. claim_of case.pairs w t) now.0 ∙ ap (claim_of case.pairs v) now.1)) (holds_now (claim_of case.pairs v s) claims)
      | inr before ↦ holds_more (claim_of case.pairs v s) (claim_of case.pairs u t) claims (told.since u t before)
    ];
  }

  can_force : (claims : List Claim) (held : List (ℕ × Order)) → IsTold case.pairs value marks claims held → (c v : ℕ) (s : Order)
      → IsForcedBy case.system.constraints (knows value held) c v s → IsRoot case.system.constraints marks c → CanForce case claims c v s
  can_force claims held told c v s f root = record {
    constraint = f.constraint;
    there = f.there;
    forces = forces_claim case.pairs f.constraint claims
        (λ u t. Holds claims (claim_of case.pairs u t)) (λ u t k. k) v s
        (forces_more f.constraint.kind f.constraint.terms (knows value held) (λ u t. Holds claims (claim_of case.pairs u t)) v s
        (λ j t l k. claimed claims held told (term_at f.constraint.terms j).var (root f.constraint f.there j l) t k) f.forces);
  }

  can_close : (claims : List Claim) (held : List (ℕ × Order)) → IsTold case.pairs value marks claims held → (c : ℕ)
      → IsDeadBy case.system.constraints (knows value held) c → IsRoot case.system.constraints marks c → CanClose case claims c
  can_close claims held told c d root = record {
    constraint = d.constraint;
    there = d.there;
    dead = dead_claims case.pairs d.constraint claims
        (λ u t. Holds claims (claim_of case.pairs u t)) (λ u t k. k)
        (λ k row at a. d.none k row at (λ j b l q. a j b l (claimed claims held told (term_at d.constraint.terms j).var (root d.constraint d.there j l) (turn (term_at d.constraint.terms j).flipped b) q)));
  }

  pub step_set : (v : ℕ) (s : Order) (c : ℕ) (rest : List Step) (old new : Maker) → IsRoot case.system.constraints marks c
      → IsAtSteps case pins value marks (step.Set v s c ∷ rest) old
      → ((p claims : List Claim) (branches : List Branch) → IsMaking case p claims branches old → CanForce case claims c v s
      → IsMaking case p (with_claim claims (claim_of case.pairs v s)) branches new) → IsAtSteps case pins value marks rest new
  step_set v s c rest old new root (inr done) force = no_step done.1
  step_set v s c rest old new root (inl g) force = inl (record {
    held = (v, s) ∷ g.held;
    stack = g.stack;
    writing = record {
      claims = with_claim g.writing.claims (claim_of case.pairs v s);
      branches = g.writing.branches;
      making = force pins g.writing.claims g.writing.branches g.writing.making (can_force g.writing.claims g.held g.writing.told c v s g.runs.1 root);
      told = told_more g.writing.claims g.held g.writing.told v s;
      stacked = g.writing.stacked;
    };
    runs = g.runs.2;
  })

  pub step_try : (v : ℕ) (rest : List Step) (old new : Maker) → IsAtSteps case pins value marks (step.Try v ∷ rest) old
      → ((p claims : List Claim) (branches : List Branch) → IsMaking case p claims branches old
      → IsMaking case p (with_claim claims (claim_of case.pairs v Below)) (record { tried = claim_of case.pairs v Below; before = claims } ∷ branches) new)
      → IsAtSteps case pins value marks rest new
  step_try v rest old new (inr done) tries = no_step done.1
  step_try v rest old new (inl g) tries = inl (record {
    held = (v, Below) ∷ g.held;
    stack = ((v, Above) ∷ g.held) ∷ g.stack;
    writing = record {
      claims = with_claim g.writing.claims (claim_of case.pairs v Below);
      branches = record { tried = claim_of case.pairs v Below; before = g.writing.claims } ∷ g.writing.branches;
      making = tries pins g.writing.claims g.writing.branches g.writing.making;
      told = told_more g.writing.claims g.held g.writing.told v Below;
      stacked = (told_more g.writing.claims g.held g.writing.told v Above, g.writing.stacked);
    };
    runs = g.runs.1;
  })

  closed_by : (c : ℕ) (rest : List Step) (old new : Maker) → (held : List (ℕ × Order)) (stack : List (List (ℕ × Order)))
      → Runs case.system.vars case.system.constraints value held stack (step.Dead c ∷ rest) → (branches : List Branch)
      → AreStacked case.pairs value marks stack branches → Shuts case pins branches new → IsAtSteps case pins value marks rest new
  closed_by c rest old new held [] runs [] stacked shuts = inr (shuts, runs.1)
  closed_by c rest old new held [] runs (b ∷ branches) stacked shuts = absurd stacked
  closed_by c rest old new held (h ∷ stack) runs [] stacked shuts = absurd stacked
  closed_by c rest old new held (h ∷ stack) runs (b ∷ branches) stacked shuts = inl (record {
    held = h;
    stack = stack;
    writing = record { claims = with_claim b.before (reversed b.tried); branches = branches; making = shuts; told = stacked.0; stacked = stacked.1 };
    runs = runs.1;
  })

  dead_of : (c : ℕ) (rest : List Step) (held : List (ℕ × Order)) (stack : List (List (ℕ × Order)))
      → Runs case.system.vars case.system.constraints value held stack (step.Dead c ∷ rest) → IsDeadBy case.system.constraints (knows value held) c
  dead_of c rest held [] runs = runs.0
  dead_of c rest held (h ∷ stack) runs = runs.0

  pub step_dead : (c : ℕ) (rest : List Step) (old new : Maker) → IsRoot case.system.constraints marks c
      → IsAtSteps case pins value marks (step.Dead c ∷ rest) old
      → ((p claims : List Claim) (branches : List Branch) → IsMaking case p claims branches old → CanClose case claims c → Shuts case p branches new)
      → IsAtSteps case pins value marks rest new
  step_dead c rest old new root (inr done) close = no_step done.1
  step_dead c rest old new root (inl g) close = closed_by c rest old new g.held g.stack g.runs g.writing.branches g.writing.stacked
      (close pins g.writing.claims g.writing.branches g.writing.making
      (can_close g.writing.claims g.held g.writing.told c (dead_of c rest g.held g.stack g.runs) root))

pub by_there : (P : ℕ → Type 0) (q r : Step) (c : ℕ) → q ≡ r → by_of r ≡ Some c → ((d : ℕ) → by_of q ≡ Some d → P d) → P c
by_there P q r c e is all = all c (ap by_of e ∙ is)

some_is : {m n : ℕ} → ◌≡◌ {A = Option ℕ} (Some m) (Some n) → m ≡ n
some_is e = cc

pub by_only : (P : ℕ → Type 0) (q r : Step) (c : ℕ) → q ≡ r → by_of r ≡ Some c → P c → (d : ℕ) → by_of q ≡ Some d → P d
by_only P q r c e is p d at = subst P (some_is (sym is ∙ sym (ap by_of e) ∙ at)) p

pub var_there : (P : ℕ → Type 0) (q r : Step) (c : ℕ) → q ≡ r → var_of r ≡ Some c → ((d : ℕ) → var_of q ≡ Some d → P d) → P c
var_there P q r c e is all = all c (ap var_of e ∙ is)

pub if_ok : {A B : Type 0} (r : Result (Unit {0}) NoMemory) → IfOk r (λ _. A) → (A → B) → IfOk r (λ _. B)
if_ok (Ok u) a f = f a
if_ok (Err e) a f = tt

pub drop_step : (i : ℕ) (steps : List Step) (q d : Step) → i < length steps → q ≡ slice_index_or steps i d → drop i steps ≡ q ∷ drop (i + 1) steps
drop_step i [] q d l e = absurd (omega (arith, l))
drop_step zero (x ∷ steps) q d l e = ap (λ y. y ∷ steps) (sym e)
drop_step (suc i) (x ∷ steps) q d l e = drop_step i steps q d (omega (arith, l)) e ∙ ap (λ k. q ∷ drop k (x ∷ steps)) (next i)
  where
    next : (i : ℕ) → suc (i + 1) ≡ suc i + 1
    next i = omega arith

same_step : (q r : Step) → ◌≡◌ {A = Option Step} (Some q) (Some r) → q ≡ r
same_step q r e = cc

pub runs_constraints : (vars : ℕ) (cons : List Constraint) (value : ℕ → Option Order) (steps : List Step) (held : List (ℕ × Order)) (stack : List (List (ℕ × Order)))
    → Runs vars cons value held stack steps → HaveConstraints cons steps
runs_constraints vars cons value [] held stack runs i q c at by = absurd runs
runs_constraints vars cons value (step.Set v s d ∷ steps) held stack runs zero q c at by =
    by_only (λ k. k < length cons) q (step.Set v s d) d (sym (same_step _ q at)) refl (slice_get_within cons d runs.1.constraint runs.1.there) c by
runs_constraints vars cons value (step.Set v s d ∷ steps) held stack runs (suc i) q c at by = runs_constraints vars cons value steps ((v, s) ∷ held) stack runs.2 i q c at by
runs_constraints vars cons value (step.Try v ∷ steps) held stack runs zero q c at by = no_by (ap by_of (same_step _ q at) ∙ by)
  where
    no_by : {A : Type 0} → ◌≡◌ {A = Option ℕ} None (Some c) → A
    no_by e = cc
runs_constraints vars cons value (step.Try v ∷ steps) held stack runs (suc i) q c at by = runs_constraints vars cons value steps ((v, Below) ∷ held) (((v, Above) ∷ held) ∷ stack) runs.1 i q c at by
runs_constraints vars cons value (step.Dead d ∷ steps) held [] runs zero q c at by =
    by_only (λ k. k < length cons) q (step.Dead d) d (sym (same_step _ q at)) refl (slice_get_within cons d runs.0.constraint runs.0.there) c by
runs_constraints vars cons value (step.Dead d ∷ steps) held (h ∷ stack) runs zero q c at by =
    by_only (λ k. k < length cons) q (step.Dead d) d (sym (same_step _ q at)) refl (slice_get_within cons d runs.0.constraint runs.0.there) c by
runs_constraints vars cons value (step.Dead d ∷ steps) held [] runs (suc i) q c at by = nothing steps runs.1 i at
  where
    nothing : {A : Type 0} (xs : List Step) → xs ≡ [] → (i : ℕ) → slice_get xs i ≡ Some q → A
    nothing [] e i h = cc
    nothing (x ∷ xs) e i h = no_step e
runs_constraints vars cons value (step.Dead d ∷ steps) held (h ∷ stack) runs (suc i) q c at by = runs_constraints vars cons value steps h stack runs.1 i q c at by

var_only : (P : ℕ → Type 0) (q r : Step) (c : ℕ) → q ≡ r → var_of r ≡ Some c → P c → (d : ℕ) → var_of q ≡ Some d → P d
var_only P q r c e is p d at = subst P (some_is (sym is ∙ sym (ap var_of e) ∙ at)) p

pub runs_variables : (vars : ℕ) (cons : List Constraint) (value : ℕ → Option Order) (steps : List Step) (held : List (ℕ × Order)) (stack : List (List (ℕ × Order)))
    → Runs vars cons value held stack steps → HaveVariables vars steps
runs_variables vars cons value [] held stack runs i q c at by = absurd runs
runs_variables vars cons value (step.Set v s d ∷ steps) held stack runs zero q c at by =
    var_only (λ k. k < vars) q (step.Set v s d) v (sym (same_step _ q at)) refl runs.0 c by
runs_variables vars cons value (step.Set v s d ∷ steps) held stack runs (suc i) q c at by = runs_variables vars cons value steps ((v, s) ∷ held) stack runs.2 i q c at by
runs_variables vars cons value (step.Try v ∷ steps) held stack runs zero q c at by =
    var_only (λ k. k < vars) q (step.Try v) v (sym (same_step _ q at)) refl runs.0 c by
runs_variables vars cons value (step.Try v ∷ steps) held stack runs (suc i) q c at by = runs_variables vars cons value steps ((v, Below) ∷ held) (((v, Above) ∷ held) ∷ stack) runs.1 i q c at by
runs_variables vars cons value (step.Dead d ∷ steps) held stack runs zero q c at by = no_var (ap var_of (same_step _ q at) ∙ by)
  where
    no_var : {A : Type 0} → ◌≡◌ {A = Option ℕ} None (Some c) → A
    no_var e = cc
runs_variables vars cons value (step.Dead d ∷ steps) held [] runs (suc i) q c at by = nothing steps runs.1 i at
  where
    nothing : {A : Type 0} (xs : List Step) → xs ≡ [] → (i : ℕ) → slice_get xs i ≡ Some q → A
    nothing [] e i h = cc
    nothing (x ∷ xs) e i h = no_step e
runs_variables vars cons value (step.Dead d ∷ steps) held (h ∷ stack) runs (suc i) q c at by = runs_variables vars cons value steps h stack runs.1 i q c at by

-- the marked facts are written, and the steps begin
pub begins : (case : Case) (pins : List Claim) (fs : List (Option Fact)) (order : List Ordered) (marks : List Bool) → IsOrderOf fs order
    → (m : Maker) → IsWritten case pins fs order marks (length order) m → (steps : List Step)
    → Runs case.system.vars case.system.constraints (value_at fs) [] [] steps → IsAtSteps case pins (value_at fs) marks steps m
begins case pins fs order marks is m w steps runs = inl (record {
  held = [];
  stack = [];
  writing = record {
    claims = w.held;
    branches = [];
    making = w.making;
    told = record {
      base = λ v s marked e.
          let f = seen_is (fact_at fs v) s e in
          let c = is.all v f.0 (fact_within fs v f.0 f.1) f.1 in
          let g : entry_at order c.0 ≡ record { level = f.0.level; var = v } = get_or_default order c.0 _ _ c.1 ∙ c.2 in
          let u : (entry_at order c.0).var ≡ v = ap (λ q. q.var) g in
          subst (λ t. Holds w.held (claim_of case.pairs v t)) f.2
          (subst (λ x. Holds w.held (claim_of case.pairs x f.0.value)) u
          (w.has c.0 f.0 c.1 (subst (IsMarked marks) (sym u) marked) (ap (fact_at fs) u ∙ f.1)));
      since = λ v s c. absurd (omega (arith, c.1));
    };
    stacked = tt;
  };
  runs = runs;
})
