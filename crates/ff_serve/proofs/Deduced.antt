-- One fact more is deduced.
use Rattle.std.proofs.Common.{◌≡◌, ◌≢◌, ℕ, zero, suc, ◌+◌, ◌<◌, ◌≤◌, ◌⊎◌, ⊎_elim, inl, inr, List, [], ◌∷◌, length, get_or, slice_get, slice_set, Option, Some, None, refl, sym, ap, ◌∙◌, subst, arith, get_or-set_same, get_or-set_other}
use Rattle.std.proofs.lemmas.Bool.{cases_lt}
use mathlib.Core.Logic.{dite}
use native.Mathlib.Decide.{ℕ_discrete}
use Rattle.ff_tables.specs.declared.orders.Order.{Order}
use Rattle.ff_tables.specs.declared.terms.Constraint.{Constraint}
use Rattle.ff_tables.specs.declared.givens.Given.{Given}
use Rattle.ff_tables.specs.Orders.{term_at}
use Rattle.ff_tables.proofs.Agreeing.{forces_more}
use Rattle.ff_types.specs.declared.cases.Case.{Case}
use Rattle.ff_propagate.specs.declared.facts.Fact.{Fact}
use Rattle.ff_propagate.specs.declared.facts.Reason.{Reason}
use Rattle.ff_propagate.specs.declared.facts.Reason.TheVariants as reason
use Rattle.ff_propagate.specs.Facts.{fact_at, value_at, seen, IsKnownBelow}
use Rattle.ff_propagate.specs.Closure.{HoldsGivens}
use Rattle.ff_propagate.specs.FactRule.{IsForcedBelow, MeetsFactRule, StandsBy, HasGivenFact}
use Rattle.ff_carry.specs.declared.placing.Placed.{Placed}
use Rattle.ff_carry.specs.Placing.{IsOrder, IsPlace}
use Rattle.ff_core.specs.declared.events.Event.TheVariants as event
use Rattle.ff_core.specs.declared.events.Step.{Step}
use Rattle.ff_core.specs.declared.events.Step.TheVariants as step
use Rattle.ff_core.specs.declared.events.Left.TheVariants as left
use Rattle.ff_core.specs.States.{State, AreOpening, IsFirstGiven}
use Rattle.ff_core.specs.Steps.{CanStand, DeducesIn, Deduces, DeducesFrom}
use Rattle.ff_serve.specs.Reaching.{IsFounded, AreFounded, AreLike, HaveBegun, HaveReached, HaveAll, WorksOnSuch, IsSameButWork, Happens}

pub same_fact : (a b : Fact) → Some a ≡ Some b → a ≡ b
same_fact a b e = cc

pub none_some : (a : Fact) → None ≡ Some a → ⊥
none_some a e = let q : None ≡ Some a = e in cc

like_itself : (x h g : Fact) → Some x ≡ Some h → Some g ≡ Some h → AreLike x g
like_itself x h g e f = let p : x ≡ g = same_fact x h e ∙ sym (same_fact g h f) in (ap (λ (z : Fact). z.value) p, ap (λ (z : Fact). z.level) p)

-- ---- facts in a list, where one is set

set_there : (fs : List (Option Fact)) (v : ℕ) (h : Fact) → v < length fs → fact_at (slice_set fs v (Some h)) v ≡ Some h
set_there fs v h below = get_or-set_same fs v (Some h) None below

set_other : (fs : List (Option Fact)) (v u : ℕ) (h : Fact) → u ≢ v → fact_at (slice_set fs v (Some h)) u ≡ fact_at fs u
set_other fs v u h apart = get_or-set_other fs v u (Some h) None apart

-- ---- facts by the rule are founded

founded_by : (cons : List Constraint) (gs : List Given) (fs : List (Option Fact)) (v : ℕ) (h : Fact) (r : Reason) → h.reason ≡ r
    → StandsBy cons gs fs v h.value h.level r → IsFounded cons fs v h
founded_by cons gs fs v h (reason.Given i) is stands = inl stands.0
founded_by cons gs fs v h (reason.Forced c) is stands = inr (c, is, stands.0, stands.1)

pub founded : (vars : ℕ) (cons : List Constraint) (gs : List Given) (fs : List (Option Fact)) → MeetsFactRule vars cons gs fs → AreFounded cons fs
founded vars cons gs fs rule v h at = founded_by cons gs fs v h h.reason refl (rule.stands v h at)

given_level : (cons : List Constraint) (gs : List Given) (fs : List (Option Fact)) (v i : ℕ) (h : Fact) → h.reason ≡ reason.Given i
    → StandsBy cons gs fs v h.value h.level h.reason → h.level ≡ 0
given_level cons gs fs v i h is stands = (subst (λ (r : Reason). StandsBy cons gs fs v h.value h.level r) is stands).0

-- ---- the start

given_there : (cons : List Constraint) (gs : List Given) (fs : List (Option Fact)) (v : ℕ) (h : Fact) (r : Reason) → h.level ≡ 0
    → StandsBy cons gs fs v h.value h.level r → (i : ℕ) × (g : Given) × (slice_get gs i ≡ Some g) × (g.var ≡ v)
given_there cons gs fs v h (reason.Given i) low stands = let is = stands.1 in (i, is.given, is.there, is.variable)
given_there cons gs fs v h (reason.Forced c) low stands = absurd (let up = stands.0 in omega arith)

value_of_fact : (o : Option Fact) (x : Fact) (s : Order) → o ≡ Some x → seen o ≡ Some s → x.value ≡ s
value_of_fact o x s at is = let q : Some x.value ≡ Some s = sym (ap seen at) ∙ is in cc

-- facts that are opened with the givens have begun
pub begins_so : (vars : ℕ) (cons : List Constraint) (gs : List Given) (facts work : List (Option Fact)) → MeetsFactRule vars cons gs facts
    → HoldsGivens gs (value_at facts) → AreOpening vars gs work → HaveBegun facts work
begins_so vars cons gs facts work rule holds opened = record {
  alike = λ v x h there at. (let f = opened.given v x there in
      let in_facts : value_at facts v ≡ Some f.given.value = ap (value_at facts) (sym f.of_variable) ∙ holds f.place f.given f.there in
      let given = rule.given f.place f.given f.there in
      let its : given.fact ≡ h = same_fact given.fact h (sym given.there ∙ (ap (fact_at facts) f.of_variable ∙ at)) in
      let level : given.fact.level ≡ 0 = given_level cons gs facts f.given.var given.number given.fact given.by_given (rule.stands f.given.var given.fact given.there) in (
        ap (λ (z : Fact). z.value) f.is ∙ sym (value_of_fact (fact_at facts v) h f.given.value at in_facts),
        ap (λ (z : Fact). z.level) f.is ∙ (sym level ∙ ap (λ (z : Fact). z.level) its),
      ));
  given = λ v h at low. (let g = given_there cons gs facts v h h.reason low (rule.stands v h at) in
      let x = opened.all g.0 g.1 g.2 in (x.0, ap (fact_at work) (sym g.3) ∙ x.1));
}

-- ---- one fact more

-- the premises of lower levels are there
lower_known : (facts work : List (Option Fact)) (order : List Placed) (n : ℕ) (p : Placed) (h : Fact) → IsOrder facts order
    → HaveReached facts order n work → slice_get order n ≡ Some p → h.level ≡ p.level
    → (u : ℕ) (s : Order) → IsKnownBelow facts h.level u s → IsKnownBelow work h.level u s
lower_known facts work order n p h is have at level u s known =
    let place = is.all u known.fact known.there in
    let q : Placed = record { level = known.fact.level; var = u } in
    let before : place.0 < n = ⊎_elim (λ b. b) (λ after. absurd (let up = is.sorted n place.0 p q after at place.1 in let low = known.lower in omega (arith, level))) (cases_lt place.0 n) in
    let x = have.reached place.0 q before place.1 in
    let like = have.begun.alike u x.0 known.fact x.1 known.there in
    record { fact = x.0; there = x.1; lower = omega (arith, like.1, known.lower); value = like.0 ∙ known.value }

can_stand : (cons : List Constraint) (facts work : List (Option Fact)) (order : List Placed) (n : ℕ) (p : Placed) (h : Fact) (v c : ℕ) → IsOrder facts order
    → HaveReached facts order n work → slice_get order n ≡ Some p → h.level ≡ p.level → h.reason ≡ reason.Forced c → 0 < h.level
    → IsForcedBelow cons facts c h.level v h.value → CanStand cons work v h
can_stand cons facts work order n p h v c is have at level by up forced = record {
  number = c;
  by_constraint = by;
  above = up;
  forced = record {
    constraint = forced.constraint;
    there = forced.there;
    forces = forces_more forced.constraint.kind forced.constraint.terms (IsKnownBelow facts h.level) (IsKnownBelow work h.level) v h.value
        (λ j t _ known. lower_known facts work order n p h is have at level (term_at forced.constraint.terms j).var t known) forced.forces;
  };
}

same_place : (p q : Placed) → Some p ≡ Some q → p ≡ q
same_place p q e = cc

-- what is reached stays, and the place n is reached
with_one : (facts work more : List (Option Fact)) (order : List Placed) (n : ℕ) (p : Placed) → slice_get order n ≡ Some p
    → ((v : ℕ) (x h : Fact) → fact_at more v ≡ Some x → fact_at facts v ≡ Some h → AreLike x h)
    → ((v : ℕ) (x : Fact) → fact_at work v ≡ Some x → (y : Fact) × (fact_at more v ≡ Some y))
    → ((y : Fact) × (fact_at more p.var ≡ Some y)) → HaveReached facts order n work → HaveReached facts order (n + 1) more
with_one facts work more order n p at alike stays here have = record {
  begun = record {
    alike = alike;
    given = λ v h there low. (let x = have.begun.given v h there low in stays v x.0 x.1);
  };
  reached = λ i q below there. dite (ℕ_discrete i n)
      (λ e. let same : p ≡ q = same_place p q (sym at ∙ (ap (slice_get order) (sym e) ∙ there)) in (here.0, ap (λ (z : Placed). fact_at more z.var) (sym same) ∙ here.1))
      (λ ne. let x = have.reached i q (omega arith) there in stays q.var x.0 x.1);
}

deduced_in : (vars : ℕ) (cons : List Constraint) (facts work more : List (Option Fact)) (order : List Placed) (n : ℕ) (p : Placed) (h : Fact) (answer : Step)
    → length work ≡ vars → AreFounded cons facts → length facts ≡ vars → IsOrder facts order → slice_get order n ≡ Some p → fact_at facts p.var ≡ Some h
    → p.var < vars → HaveReached facts order n work → DeducesIn vars cons work p.var h more answer → HaveReached facts order (n + 1) more
deduced_in vars cons facts work more order n p h step.Took wide founded same is at its below have took =
    let v : ℕ = p.var in
    let here : fact_at more v ≡ Some h = ap (λ (l : List (Option Fact)). fact_at l v) took.3 ∙ set_there work v h (omega (arith, wide, took.0)) in
    let else : (u : ℕ) → u ≢ v → fact_at more u ≡ fact_at work u = λ u apart. ap (λ (l : List (Option Fact)). fact_at l u) took.3 ∙ set_other work v u h apart in
    with_one facts work more order n p at
    (λ u x g there in_facts. dite (ℕ_discrete u v)
    (λ e. like_itself x h g (sym (ap (fact_at more) (sym e) ∙ there) ∙ here) (sym (ap (fact_at facts) (sym e) ∙ in_facts) ∙ its))
    (λ ne. have.begun.alike u x g (sym (else u ne) ∙ there) in_facts))
    (λ u x there. dite (ℕ_discrete u v) (λ e. (h, ap (fact_at more) e ∙ here)) (λ ne. (x, else u ne ∙ there)))
    (h, here) have
deduced_in vars cons facts work more order n p h (step.Left (left.Held g)) wide founded same is at its below have held =
    with_one facts work more order n p at
    (λ u x y there in_facts. have.begun.alike u x y (ap (λ (l : List (Option Fact)). fact_at l u) (sym held.1) ∙ there) in_facts)
    (λ u x there. (x, ap (λ (l : List (Option Fact)). fact_at l u) held.1 ∙ there))
    (g, ap (λ (l : List (Option Fact)). fact_at l p.var) held.1 ∙ held.0) have
deduced_in vars cons facts work more order n p h (step.Left left.NotForced) wide founded same is at its below have not = absurd (⊎_elim
    (λ low. let x = have.begun.given p.var h its low in none_some x.0 (sym not.0 ∙ x.1))
    (λ by. not.1 below (can_stand cons facts work order n p h p.var by.0 is have at (place_level (is.each n p at)) by.1 by.2 by.3))
    (founded p.var h its))
  where
    place_level : IsPlace facts p → h.level ≡ p.level
    place_level q = ap (λ (z : Fact). z.level) (same_fact h q.0 (sym its ∙ q.1)) ∙ q.2
deduced_in vars cons facts work more order n p h (step.Left left.NoEpoch) wide founded same is at its below have not = absurd not
deduced_in vars cons facts work more order n p h (step.Left (left.NotPublished e)) wide founded same is at its below have not = absurd not
deduced_in vars cons facts work more order n p h (step.Left (left.NotClosed c)) wide founded same is at its below have not = absurd not
deduced_in vars cons facts work more order n p h (step.Said told) wide founded same is at its below have not = absurd not

-- ---- at the call

pub inside : (fs : List (Option Fact)) (v : ℕ) (h : Fact) → fact_at fs v ≡ Some h → v < length fs
inside [] v h e = absurd (none_some h e)
inside (x ∷ fs) zero h e = omega arith
inside (x ∷ fs) (suc v) h e = let l = inside fs v h e in omega arith

pub fact_of_place : (facts : List (Option Fact)) (order : List Placed) (n : ℕ) (p : Placed) → IsOrder facts order → slice_get order n ≡ Some p
    → (h : Fact) × (fact_at facts p.var ≡ Some h)
fact_of_place facts order n p is there = let f = is.each n p there in (f.0, f.1)

pub reaches_on : (case : Case) (facts : List (Option Fact)) (order : List Placed) (n : ℕ) (p : Placed) (h : Fact) (old new : State)
    → ((work : List (Option Fact)) → old.working ≡ Some work → length work ≡ case.system.vars) → AreFounded case.system.constraints facts
    → length facts ≡ case.system.vars → IsOrder facts order → slice_get order n ≡ Some p → fact_at facts p.var ≡ Some h
    → WorksOnSuch (HaveReached facts order n) old → Happens case old (event.Deduce p.var h) new
    → IsSameButWork old new × WorksOnSuch (HaveReached facts order (n + 1)) new
reaches_on case facts order n p h old new wide founded width is at its reached happened =
    let work : List (Option Fact) = reached.0 in
    let deduces : DeducesFrom case old (Some work) p.var h new happened.0 = subst (λ (w : Option (List (Option Fact))). DeducesFrom case old w p.var h new happened.0) reached.1 happened.1 in
    let more = deduces.0 in (
      deduces.2 ∙ ap (λ (w : Option (List (Option Fact))). record old { working = w }) (sym (ap (λ (z : State). z.working) deduces.2)),
      (
        more,
        ap (λ (z : State). z.working) deduces.2,
        deduced_in case.system.vars case.system.constraints facts work more order n p h happened.0 (wide work reached.1) founded width is at its
            (let l = inside facts p.var h its in omega (arith, width)) reached.2 deduces.1,
      ),
    )
