-- A constraint forces a value where the other one leaves it no row.
use Rattle.std.proofs.Common.{◌≡◌, ℕ, ◌<◌, ◌==◌, ◌⊎◌, ◌↔◌, Bool, true, false, cond, ltb, List, length, slice_get, slice_set, sym, refl, ap, ◌∙◌, subst, inl, inr, Option, Some, None}
use Rattle.std.proofs.lemmas.Bool.{eqb-true, eq-eqb, ltb-true, lt-ltb}
use Rattle.std.proofs.lemmas.Bool.Decides.{eqb_tells}
use Rattle.std.proofs.lemmas.List.{get_or-set_same, get_or-set_other, length-set}
use mathlib.Core.Logic.{dite}
use native.Mathlib.Decide.{ℕ_discrete}
use Rattle.ff_tables.specs.declared.orders.Order.{Order}
use Rattle.ff_tables.specs.declared.orders.Order.TheVariants.{Below, Above}
use Rattle.ff_tables.specs.declared.terms.Constraint.{Constraint}
use Rattle.ff_tables.specs.declared.givens.Given.{Given}
use Rattle.ff_tables.specs.Orders.{turn, term_at, row_at}
use Rattle.ff_tables.specs.Systems.{IsFit}
use Rattle.ff_tables.specs.Rows.{HasRow}
use Rattle.ff_tables.specs.Forces.{Forces, Agrees, Knows, NoneAgrees, SomeAgrees}
use Rattle.ff_tables.proofs.Agreeing.{turn_turn}
use Rattle.ff_propagate.specs.declared.facts.Fact.{Fact}
use Rattle.ff_propagate.specs.declared.facts.Reason.TheVariants as reason
use Rattle.ff_propagate.specs.Facts.{fact_at, IsKnownBelow}
use Rattle.ff_propagate.specs.FactRule.{StandsBy, MeetsFactRule}
use Rattle.ff_propagate.specs.RuleLaws.{HasFacts, FactsGrow}
use Rattle.ff_core.specs.Lower.{lower_value, lower_or, HasVar}
use Rattle.ff_types.specs.declared.cases.Case.{Case}
use Rattle.std.specs.Prelude.{IfSome}
use Rattle.ff_journal.specs.declared.entries.Entry.{Entry}
use Rattle.ff_core.specs.declared.events.Step.{Step}
use Rattle.ff_core.specs.declared.events.Step.TheVariants as step
use Rattle.ff_core.specs.declared.events.Left.TheVariants as left
use Rattle.ff_core.specs.States.{State, WorksOn, StandsFor}
use Rattle.ff_core.specs.Steps.{CanStand, DeducesIn, DeducesFrom, Deduces}

other_way : (a b : Order) → (a ≡ b) ⊎ (a ≡ turn true b)
other_way Below Below = inl refl
other_way Below Above = inr refl
other_way Above Below = inr refl
other_way Above Above = inl refl

differ_way : (a : Order) → a ≡ turn true a → ⊥
differ_way Below h = cc
differ_way Above h = cc

turn_other : (b : Bool) (s : Order) → turn b (turn true s) ≡ turn true (turn b s)
turn_other false s = refl
turn_other true Below = refl
turn_other true Above = refl

chosen : {X : Type 0} → (b : Bool) (x y z : X) → cond b x y ≡ z → ((b ≡ true) × (x ≡ z)) ⊎ ((b ≡ false) × (y ≡ z))
chosen true x y z h = inl (refl, h)
chosen false x y z h = inr (refl, h)

-- a value of a fact of a lower level
lower_known : (fs : List (Option Fact)) (k u : ℕ) (s : Order) (o : Option Fact) → fact_at fs u ≡ o
    → lower_value k o ≡ Some s → IsKnownBelow fs k u s
lower_known fs k u s None e h = cc
lower_known fs k u s (Some f) e h = elim (chosen (ltb f.level k) (Some f.value) None (Some s) h) [
  | inl (l, v) ↦ record { fact = f; there = e; lower = ltb-true f.level k l; value = cc }
  | inr (l, v) ↦ absurd (no v)
]
  where
    no : None ≡ Some s → ⊥
    no v = cc

known_lower : (fs : List (Option Fact)) (k u : ℕ) (s : Order) → IsKnownBelow fs k u s → lower_value k (fact_at fs u) ≡ Some s
known_lower fs k u s n = ap (λ o. lower_value k o) n.there ∙ ap (λ b. cond b (Some n.fact.value) None) (lt-ltb n.fact.level k n.lower) ∙ ap Some n.value

-- where the other value leaves no row, the value is forced
pub dead_forces : (vars : ℕ) (con : Constraint) → IsFit vars con → (fs : List (Option Fact)) (k v : ℕ) (s : Order)
    → HasVar con.terms v → NoneAgrees con.kind con.terms (Knows (lower_or fs k v (turn true s)))
    → Forces con.kind con.terms (IsKnownBelow fs k) v s
dead_forces vars con fit fs k v s (p, l, e) none = (p, l, e, only)
  where
    fl : Bool
    fl = (term_at con.terms p).flipped

    -- a row that agrees and has the other value agrees with the tried one too
    agrees : (row : List Order) → Agrees con.terms (IsKnownBelow fs k) row → row_at row p ≡ turn true (turn fl s)
        → Agrees con.terms (Knows (lower_or fs k v (turn true s))) row
    agrees row a o i b m known = elim (chosen ((term_at con.terms i).var == v) (Some (turn true s)) (lower_value k (fact_at fs (term_at con.terms i).var)) (Some (turn (term_at con.terms i).flipped b)) known) [
      | inl (t, x) ↦
          let same : i ≡ p = fit.differ i p m l (eqb-true (term_at con.terms i).var v t ∙ sym e) in
          let y : turn true s ≡ turn (term_at con.terms i).flipped b = cc in
          let z : turn fl (turn true s) ≡ b = ap (λ j. turn (term_at con.terms j).flipped (turn true s)) (sym same) ∙ ap (turn (term_at con.terms i).flipped) y ∙ turn_turn (term_at con.terms i).flipped b in
          ap (row_at row) same ∙ o ∙ sym (turn_other fl s) ∙ z
      | inr (t, x) ↦ a i b m (lower_known fs k (term_at con.terms i).var (turn (term_at con.terms i).flipped b) (fact_at fs (term_at con.terms i).var) refl x)
    ]

    only : (n : ℕ) (row : List Order) → HasRow con.kind n row → Agrees con.terms (IsKnownBelow fs k) row → row_at row p ≡ turn fl s
    only n row at a = elim (other_way (row_at row p) (turn fl s)) [
      | inl h ↦ h
      | inr h ↦ absurd (none n row at (agrees row a h))
    ]

-- where the value is forced, the other one leaves no row
pub forces_dead : (con : Constraint) (fs : List (Option Fact)) (k v : ℕ) (s : Order) → fact_at fs v ≡ None
    → Forces con.kind con.terms (IsKnownBelow fs k) v s
    → NoneAgrees con.kind con.terms (Knows (lower_or fs k v (turn true s)))
forces_dead con fs k v s unset (p, l, e, only) n row at a =
    let fl = (term_at con.terms p).flipped in
    let tried : lower_or fs k v (turn true s) (term_at con.terms p).var ≡ Some (turn fl (turn fl (turn true s))) =
    ap (λ b. cond b (Some (turn true s)) (lower_value k (fact_at fs (term_at con.terms p).var))) (eq-eqb (term_at con.terms p).var v e)
    ∙ ap Some (sym (turn_turn fl (turn true s))) in
    let one : row_at row p ≡ turn fl (turn true s) = a p (turn fl (turn true s)) l tried in
    let two : row_at row p ≡ turn fl s = only n row at lower in
    differ_way (turn fl s) (sym two ∙ one ∙ turn_other fl s)
  where
    none_known : (u : ℕ) (t : Order) → u ≡ v → IsKnownBelow fs k u t → ⊥
    none_known u t q f = no (sym unset ∙ ap (fact_at fs) (sym q) ∙ f.there)
      where
        no : None ≡ Some f.fact → ⊥
        no h = cc

    lower : Agrees con.terms (IsKnownBelow fs k) row
    lower i b m f = elim (eqb_tells (term_at con.terms i).var v) [
      | inl (t, q) ↦ absurd (none_known (term_at con.terms i).var (turn (term_at con.terms i).flipped b) q f)
      | inr (t, q) ↦ a i b m (ap (λ c. cond c (Some (turn true s)) (lower_value k (fact_at fs (term_at con.terms i).var))) t
          ∙ known_lower fs k (term_at con.terms i).var (turn (term_at con.terms i).flipped b) f)
    ]

-- the same with the value that is tried as the other one
pub dead_tried : (vars : ℕ) (con : Constraint) → IsFit vars con → (fs : List (Option Fact)) (k v : ℕ) (s t : Order)
    → t ≡ turn true s → HasVar con.terms v → NoneAgrees con.kind con.terms (Knows (lower_or fs k v t))
    → Forces con.kind con.terms (IsKnownBelow fs k) v s
dead_tried vars con fit fs k v s t e has none = dead_forces vars con fit fs k v s has
    (subst (λ x. NoneAgrees con.kind con.terms (Knows (lower_or fs k v x))) e none)

pub some_tried : (con : Constraint) (fs : List (Option Fact)) (k v : ℕ) (s t : Order) → t ≡ turn true s
    → fact_at fs v ≡ None → SomeAgrees con.kind con.terms (Knows (lower_or fs k v t))
    → Forces con.kind con.terms (IsKnownBelow fs k) v s → ⊥
some_tried con fs k v s t e unset some f =
    let r = subst (λ x. SomeAgrees con.kind con.terms (Knows (lower_or fs k v x))) e some in
    forces_dead con fs k v s unset f r.0 r.1 r.2 r.3

-- what can stand is forced by the constraint that its reason names
pub can_by : (cons : List Constraint) (fs : List (Option Fact)) (v : ℕ) (h : Fact) (c : ℕ) (con : Constraint)
    → h.reason ≡ reason.Forced c → slice_get cons c ≡ Some con → 0 < h.level
    → Forces con.kind con.terms (IsKnownBelow fs h.level) v h.value ↔ CanStand cons fs v h
can_by cons fs v h c con r is l = (
  λ f. record { number = c; by_constraint = r; above = l; forced = record { constraint = con; there = is; forces = f } },
  λ s.
      let one : s.number ≡ c = cc in
      let two : s.forced.constraint ≡ con = some_same (sym s.forced.there ∙ ap (λ n. slice_get cons n) one ∙ is) in
      subst (λ (x : Constraint). Forces x.kind x.terms (IsKnownBelow fs h.level) v h.value) two s.forced.forces,
)
  where
    some_same : {a b : Constraint} → Some a ≡ Some b → a ≡ b
    some_same e = cc

-- ---- one more fact

set_grows : (fs : List (Option Fact)) (v : ℕ) (h : Fact) → fact_at fs v ≡ None → HasFacts (slice_set fs v (Some h)) fs
set_grows fs v h unset u g at = get_or-set_other fs v u (Some h) None (λ e. no (sym unset ∙ ap (fact_at fs) (sym e) ∙ at)) ∙ at
  where
    no : None ≡ Some g → ⊥
    no e = cc

-- a fact that can stand keeps the rule
pub rule_more : FactsGrow → (vars : ℕ) (cons : List Constraint) (gs : List Given) (fs : List (Option Fact)) (v : ℕ) (h : Fact)
    → MeetsFactRule vars cons gs fs → v < vars → fact_at fs v ≡ None → CanStand cons fs v h
    → MeetsFactRule vars cons gs (slice_set fs v (Some h))
rule_more grow vars cons gs fs v h rule l unset can = record {
  wide = length-set fs v (Some h) ∙ rule.wide;
  stands = λ u g at. dite (ℕ_discrete u v) (λ e. own u g e at) (λ ne. grow cons gs fs new more u g.value g.level g.reason
      (rule.stands u g (sym (get_or-set_other fs v u (Some h) None ne) ∙ at)));
  given = λ i g is. let k = rule.given i g is in record { fact = k.fact; number = k.number; there = more g.var k.fact k.there; by_given = k.by_given };
}
  where
    new : List (Option Fact)
    new = slice_set fs v (Some h)

    more : HasFacts new fs
    more = set_grows fs v h unset

    inside : v < length fs
    inside = subst (λ n. v < n) (sym rule.wide) l

    forced : StandsBy cons gs new v h.value h.level (reason.Forced can.number)
    forced = grow cons gs fs new more v h.value h.level (reason.Forced can.number) (can.above, can.forced)

    own : (u : ℕ) (g : Fact) → u ≡ v → fact_at new u ≡ Some g → StandsBy cons gs new u g.value g.level g.reason
    own u g e at =
        let is : Some h ≡ Some g = sym (get_or-set_same fs v (Some h) None inside) ∙ ap (fact_at new) (sym e) ∙ at in
        let same : h ≡ g = cc in
        subst (λ (x : Fact). StandsBy cons gs new u x.value x.level x.reason) same
        (subst (λ w. StandsBy cons gs new w h.value h.level h.reason) (sym e)
        (subst (λ r. StandsBy cons gs new v h.value h.level r) (sym can.by_constraint) forced))

pub rule_after : FactsGrow → (vars : ℕ) (cons : List Constraint) (gs : List Given) (fs more : List (Option Fact)) (v : ℕ)
    (h : Fact) (answer : Step) → DeducesIn vars cons fs v h more answer → MeetsFactRule vars cons gs fs
    → MeetsFactRule vars cons gs more
rule_after grow vars cons gs fs more v h step.Took d rule = subst (λ x. MeetsFactRule vars cons gs x) (sym d.3)
    (rule_more grow vars cons gs fs v h rule d.0 d.1 d.2)
rule_after grow vars cons gs fs more v h (step.Said told) d rule = absurd d
rule_after grow vars cons gs fs more v h (step.Left (left.Held g)) d rule = subst (λ x. MeetsFactRule vars cons gs x) (sym d.1) rule
rule_after grow vars cons gs fs more v h (step.Left left.NotForced) d rule = subst (λ x. MeetsFactRule vars cons gs x) (sym d.2) rule
rule_after grow vars cons gs fs more v h (step.Left left.NoEpoch) d rule = absurd d
rule_after grow vars cons gs fs more v h (step.Left (left.NotPublished e)) d rule = absurd d
rule_after grow vars cons gs fs more v h (step.Left (left.NotClosed c)) d rule = absurd d

-- a deduced fact leaves the core standing
pub deduced_stands : FactsGrow → (case : Case) (old new : State) (v : ℕ) (h : Fact) (answer : Step) → StandsFor case old
    → Deduces case old v h new answer → StandsFor case new
deduced_stands grow case old new v h answer stands d = from old.working refl d
  where
    from : (w : Option (List (Option Fact))) → old.working ≡ w → DeducesFrom case old w v h new answer → StandsFor case new
    from None e f = subst (λ x. StandsFor case x) (sym f.1) stands
    from (Some fs) e f =
        let works : WorksOn case old.journal (Some fs) = subst (λ w. WorksOn case old.journal w) e stands.works in
        subst (λ x. StandsFor case x) (sym f.2) (record {
          turns = stands.turns;
          legal = stands.legal;
          works = (works.0, rule_after grow case.system.vars case.system.constraints _ fs f.0 v h answer f.1 works.1);
          shows = stands.shows;
          keeps = stands.keeps;
        })

pub works_wide : (case : Case) (j : List Entry) (w : Option (List (Option Fact))) → WorksOn case j w
    → IfSome w (λ fs. length fs ≡ case.system.vars)
works_wide case j None h = tt
works_wide case j (Some fs) h = h.1.wide
