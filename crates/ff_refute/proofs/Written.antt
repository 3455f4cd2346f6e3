-- The marked facts are written in the order of their levels.
use Rattle.std.proofs.Common.{◌≡◌, ℕ, ◌+◌, ◌<◌, inl, inr, Bool, true, false, List, [], length, slice_get, slice_index_or, refl, sym, ap, ◌∙◌, subst, arith, Option, Some}
use Rattle.std.proofs.lemmas.Bool.{cases_lt}
use Rattle.std.proofs.lemmas.List.{get_or_default}
use Rattle.std.proofs.lemmas.Option.{slice_get_within}
use Rattle.ff_tables.specs.declared.orders.Order.{Order}
use Rattle.ff_tables.specs.declared.orders.Order.TheVariants.{Below, Above}
use Rattle.ff_tables.specs.declared.givens.Given.{Given}
use Rattle.ff_tables.specs.declared.terms.Constraint.{Constraint}
use Rattle.ff_tables.specs.Orders.{term_at, turn}
use Rattle.ff_tables.proofs.Agreeing.{forces_more}
use Rattle.ff_types.specs.declared.cases.Case.{Case}
use Rattle.ff_propagate.specs.declared.facts.Fact.{Fact}
use Rattle.ff_propagate.specs.declared.facts.Reason.{Reason}
use Rattle.ff_propagate.specs.declared.facts.Reason.TheVariants as by
use Rattle.ff_propagate.specs.Facts.{fact_at, IsKnownBelow}
use Rattle.ff_propagate.specs.Closure.{IsGiven}
use Rattle.ff_propagate.specs.FactRule.{IsForcedBelow, StandsBy, MeetsFactRule}
use Rattle.ff_propagate.specs.Closing.{IsDeadIn}
use Rattle.ff_propagate.proofs.Lists.{seen_is}
use Rattle.ff_refute.specs.declared.ordering.Ordered.{Ordered}
use Rattle.ff_refute.specs.declared.making.Maker.{Maker}
use Rattle.ff_log.specs.declared.claims.Claim.{Claim}
use Rattle.ff_log.specs.Logs.{with_claim, Branch}
use Rattle.ff_log.specs.Grounds.{claim_of_given}
use Rattle.ff_refute.specs.Making.{claim_of, Holds, IsMaking, CanForce, CanClose}
use Rattle.ff_refute.specs.Marks.{entry_at, IsOrderOf, IsMarked, AreClosed, IsWritten, IsRoot}
use Rattle.ff_refute.proofs.Claims.{forces_claim, dead_claims, holds_now, holds_more}
use Rattle.ff_refute.proofs.Marked.{fact_within, level_is}

one_fact : (a b : Fact) → ◌≡◌ {A = Option Fact} (Some a) (Some b) → a ≡ b
one_fact a b e = cc

pub stands_by : (vars : ℕ) (cons : List Constraint) (gs : List Given) (fs : List (Option Fact)) → MeetsFactRule vars cons gs fs
    → (v : ℕ) (h : Fact) → fact_at fs v ≡ Some h → (r : Reason) → h.reason ≡ r → StandsBy cons gs fs v h.value h.level r
stands_by vars cons gs fs rule v h at r is = subst (StandsBy cons gs fs v h.value h.level) is (rule.stands v h at)

module _ (case : Case) (pins : List Claim) (fs : List (Option Fact)) (order : List Ordered) (marks : List Bool) (is : IsOrderOf fs order) where
  -- the facts before the n-th that are marked
  abbrev Has : List Claim → ℕ → Type 0
  Has held n = (j : ℕ) (h : Fact) → j < n → IsMarked marks (entry_at order j).var
      → fact_at fs (entry_at order j).var ≡ Some h → Holds held (claim_of case.pairs (entry_at order j).var h.value)

  has_more : (held : List Claim) (n : ℕ) → Has held n → (h : Fact) → fact_at fs (entry_at order n).var ≡ Some h → (c : Claim)
      → c ≡ claim_of case.pairs (entry_at order n).var h.value → Has (with_claim held c) (n + 1)
  has_more held n has h at c is_claim j g l marked gat = elim (cases_lt j n) [
    | inl lt ↦ holds_more c (claim_of case.pairs (entry_at order j).var g.value) held (has j g lt marked gat)
    | inr le ↦ (
        let same : j ≡ n = omega (arith, l, le) in
        let fact : h ≡ g = one_fact h g (sym at ∙ ap (λ i. fact_at fs (entry_at order i).var) (sym same) ∙ gat) in
        subst (Holds (with_claim held c)) (is_claim ∙ ap (λ f. claim_of case.pairs (entry_at order n).var f.value) fact ∙ ap (λ i. claim_of case.pairs (entry_at order i).var g.value) (sym same))
        (holds_now c held))
  ]

  unmarked : (b : Bool) → b ≡ false → b ≡ true → ⊥
  unmarked b f t = cc

  pub written_none : (n : ℕ) (m : Maker) → IsWritten case pins fs order marks n m
      → slice_index_or marks (entry_at order n).var false ≡ false → IsWritten case pins fs order marks (n + 1) m
  written_none n m w none = record {
    held = w.held;
    making = w.making;
    has = λ j h l marked at. elim (cases_lt j n) [
      | inl lt ↦ w.has j h lt marked at
      | inr le ↦ let same : j ≡ n = omega (arith, l, le) in absurd (unmarked _ none (subst (λ i. IsMarked marks (entry_at order i).var) same marked))
    ];
  }

  pub written_given : (n : ℕ) (old new : Maker) → IsWritten case pins fs order marks n old → (gs : List Given) (i : ℕ) (h : Fact)
      → fact_at fs (entry_at order n).var ≡ Some h → IsGiven gs i (entry_at order n).var h.value
      → ((held : List Claim) (branches : List Branch) → IsMaking case pins held branches old → (g : Given) → slice_get gs i ≡ Some g
      → IsMaking case pins (with_claim held (claim_of_given case.pairs g)) branches new)
      → IsWritten case pins fs order marks (n + 1) new
  written_given n old new w gs i h at g give = record {
    held = with_claim w.held (claim_of_given case.pairs g.given);
    making = give w.held [] w.making g.given g.there;
    has = has_more w.held n w.has h at (claim_of_given case.pairs g.given)
        (ap (λ v. claim_of case.pairs v g.given.value) g.variable ∙ ap (claim_of case.pairs (entry_at order n).var) g.value);
  }

  -- a marked fact of a lower level is among the first n
  lower_holds : (n : ℕ) → n < length order → (h : Fact) → fact_at fs (entry_at order n).var ≡ Some h → (held : List Claim) → Has held n
      → (u : ℕ) (g : Fact) → fact_at fs u ≡ Some g → g.level < h.level → IsMarked marks u → Holds held (claim_of case.pairs u g.value)
  lower_holds n l h at held has u g gat lower marked =
      let c = is.all u g (fact_within fs u g gat) gat in
      let e : entry_at order c.0 ≡ record { level = g.level; var = u } = get_or_default order c.0 _ _ c.1 ∙ c.2 in
      let v : (entry_at order c.0).var ≡ u = ap (λ q. q.var) e in
      let k : (entry_at order c.0).level ≡ g.level = ap (λ q. q.level) e in
      elim (cases_lt c.0 n) [
        | inl lt ↦ subst (λ x. Holds held (claim_of case.pairs x g.value)) v
            (has c.0 g lt (subst (IsMarked marks) (sym v) marked) (ap (fact_at fs) v ∙ gat))
        | inr le ↦ (
            let up = is.sorted n c.0 (record { level = 0; var = 0 }) le c.1 in
            let m = level_is fs order is.each n l h at in
            absurd (omega (arith, up, m, k, lower)))
      ]

  can_force : AreClosed case.system.constraints fs marks → (n : ℕ) → n < length order → IsMarked marks (entry_at order n).var
      → (h : Fact) → fact_at fs (entry_at order n).var ≡ Some h → (c : ℕ) → h.reason ≡ by.Forced c
      → IsForcedBelow case.system.constraints fs c h.level (entry_at order n).var h.value
      → (held : List Claim) → Has held n → CanForce case held c (entry_at order n).var h.value
  can_force closed n l marked h at c by f held has = record {
    constraint = f.constraint;
    there = f.there;
    forces = forces_claim case.pairs f.constraint held
        (λ u t. Holds held (claim_of case.pairs u t)) (λ u t k. k) (entry_at order n).var h.value
        (forces_more f.constraint.kind f.constraint.terms (IsKnownBelow fs h.level) (λ u t. Holds held (claim_of case.pairs u t)) (entry_at order n).var h.value
        (λ j t m q. subst (λ s. Holds held (claim_of case.pairs (term_at f.constraint.terms j).var s)) q.value
        (lower_holds n l h at held has (term_at f.constraint.terms j).var q.fact q.there q.lower
        (closed (entry_at order n).var marked h c f.constraint at by f.there j q.fact m q.there q.lower))) f.forces);
  }

  pub written_forced : AreClosed case.system.constraints fs marks → (n : ℕ) → n < length order → IsMarked marks (entry_at order n).var
      → (old new : Maker) → IsWritten case pins fs order marks n old → (h : Fact)
      → fact_at fs (entry_at order n).var ≡ Some h → (c : ℕ) → h.reason ≡ by.Forced c
      → IsForcedBelow case.system.constraints fs c h.level (entry_at order n).var h.value
      → ((p held : List Claim) (branches : List Branch) → IsMaking case p held branches old → CanForce case held c (entry_at order n).var h.value
      → IsMaking case p (with_claim held (claim_of case.pairs (entry_at order n).var h.value)) branches new)
      → IsWritten case pins fs order marks (n + 1) new
  written_forced closed n l marked old new w h at c by f force = record {
    held = with_claim w.held (claim_of case.pairs (entry_at order n).var h.value);
    making = force pins w.held [] w.making (can_force closed n l marked h at c by f w.held w.has);
    has = has_more w.held n w.has h at (claim_of case.pairs (entry_at order n).var h.value) refl;
  }

  pub can_close : (c : ℕ) → IsRoot case.system.constraints marks c → IsDeadIn case.system.constraints fs c
      → (held : List Claim) → Has held (length order) → CanClose case held c
  can_close c root d held has = record {
    constraint = d.constraint;
    there = d.there;
    dead = dead_claims case.pairs d.constraint held
        (λ u t. Holds held (claim_of case.pairs u t)) (λ u t k. k)
        (λ k row at a. d.none k row at (λ j b l q. a j b l (
        let s = seen_is (fact_at fs (term_at d.constraint.terms j).var) (turn (term_at d.constraint.terms j).flipped b) q in
        let v = (term_at d.constraint.terms j).var in
        let e = is.all v s.0 (fact_within fs v s.0 s.1) s.1 in
        let f : entry_at order e.0 ≡ record { level = s.0.level; var = v } = get_or_default order e.0 _ _ e.1 ∙ e.2 in
        let w : (entry_at order e.0).var ≡ v = ap (λ q. q.var) f in
        subst (λ t. Holds held (claim_of case.pairs v t)) s.2
        (subst (λ x. Holds held (claim_of case.pairs x s.0.value)) w
        (has e.0 s.0 e.1 (subst (IsMarked marks) (sym w) (root d.constraint d.there j l)) (ap (fact_at fs) w ∙ s.1))))));
  }

pub forced_within : (cons : List Constraint) (fs : List (Option Fact)) (c k v : ℕ) (s : Order) → IsForcedBelow cons fs c k v s → c < length cons
forced_within cons fs c k v s f = slice_get_within cons c f.constraint f.there

pub given_within : (gs : List Given) (i v : ℕ) (s : Order) → IsGiven gs i v s → i < length gs
given_within gs i v s g = slice_get_within gs i g.given g.there

-- two givens that contradict each other give both values
pub both_held : (case : Case) (g h : Given) (held : List Claim) → g.var ≡ h.var → (g.value ≡ h.value → ⊥)
    → Holds (with_claim (with_claim held (claim_of_given case.pairs g)) (claim_of_given case.pairs h)) (claim_of case.pairs g.var Above)
    × Holds (with_claim (with_claim held (claim_of_given case.pairs g)) (claim_of_given case.pairs h)) (claim_of case.pairs g.var Below)
both_held case g h held same differ = by g.value h.value refl refl
  where
    first : List Claim
    first = with_claim held (claim_of_given case.pairs g)

    all : List Claim
    all = with_claim first (claim_of_given case.pairs h)

    one : (s : Order) → g.value ≡ s → Holds all (claim_of case.pairs g.var s)
    one s e = holds_more (claim_of_given case.pairs h) (claim_of case.pairs g.var s) first
        (subst (λ t. Holds first (claim_of case.pairs g.var t)) e (holds_now (claim_of_given case.pairs g) held))

    two : (s : Order) → h.value ≡ s → Holds all (claim_of case.pairs g.var s)
    two s e = subst (λ v. Holds all (claim_of case.pairs v s)) (sym same)
        (subst (λ t. Holds all (claim_of case.pairs h.var t)) e (holds_now (claim_of_given case.pairs h) first))

    by : (s t : Order) → g.value ≡ s → h.value ≡ t
        → Holds all (claim_of case.pairs g.var Above) × Holds all (claim_of case.pairs g.var Below)
    by Below Below e f = absurd (differ (e ∙ sym f))
    by Below Above e f = (two Above f, one Below e)
    by Above Below e f = (one Above e, two Below f)
    by Above Above e f = absurd (differ (e ∙ sym f))

pub given_read : (gs slice : List Given) → slice ≡ gs → (i : ℕ) (g d : Given) → slice_get gs i ≡ Some g → slice_index_or slice i d ≡ g
given_read gs slice same i g d at = ap (λ xs. slice_index_or xs i d) same ∙ Rattle.std.proofs.lemmas.Option.get_or_from_slice_get gs i g d at
