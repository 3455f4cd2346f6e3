-- The facts of a settled trail are what closing answers.
use Rattle.std.proofs.Common.{List, ◌≡◌, ℕ, inl, inr, length, map, [], Some, Option, sym, ap, ◌∙◌, subst, arith}
use Rattle.std.proofs.lemmas.Option.{slice_get_within}
use Rattle.ff_tables.specs.declared.terms.Constraint.{Constraint}
use Rattle.ff_tables.specs.declared.givens.Given.{Given}
use Rattle.ff_tables.specs.Orders.{term_at}
use Rattle.ff_tables.specs.Systems.{AreFit}
use Rattle.ff_tables.specs.Forces.{Knows}
use Rattle.ff_tables.proofs.Agreeing.{dead_more}
use Rattle.ff_propagate.specs.declared.facts.Fact.{Fact}
use Rattle.ff_propagate.specs.declared.facts.ClashAt.{ClashAt}
use Rattle.ff_propagate.specs.declared.facts.ClashAt.TheVariants as at
use Rattle.ff_propagate.specs.declared.facts.Closed.TheVariants.{Board, Clash}
use Rattle.ff_propagate.specs.declared.trail.Trail.{Trail}
use Rattle.ff_propagate.specs.Facts.{fact_at, value_at, seen}
use Rattle.ff_propagate.specs.Closure.{HoldsGivens}
use Rattle.ff_propagate.specs.FactRule.{MeetsFactRule, StandsBy}
use Rattle.ff_propagate.specs.RuleLaws.{HasFacts}
use Rattle.ff_propagate.specs.Closing.{ClosesTo}
use Rattle.ff_propagate.specs.Giving.{HasGivens, Agreed, GaveAll}
use Rattle.ff_propagate.specs.Telling.{AreTold}
use Rattle.ff_propagate.specs.Trails.{known, Grows, IsSilent, Rests, AreReady, IsDead}
use Rattle.ff_propagate.proofs.Lists.{known_fact}
use Rattle.ff_propagate.proofs.Exact.{silent_closure, dead_closure, contradiction_clashes}
use Rattle.ff_propagate.proofs.Ruling.{values_inside}
use Rattle.ff_propagate.proofs.TrailSteps.{cut_end}
use Rattle.ff_propagate.proofs.TrailVisits.{silent_same}

-- a given fact stands
given_stands : (cons : List Constraint) (gs : List Given) (n : ℕ) (fs : List (Option Fact)) → HasGivens gs n fs
    → (v : ℕ) (h : Fact) → fact_at fs v ≡ Some h → StandsBy cons gs fs v h.value h.level h.reason
given_stands cons gs n fs gives v h at =
    let b = gives.by v h at in
    subst (StandsBy cons gs fs v h.value h.level) (sym b.3.0) (b.3.1, b.3.2)

-- facts that are the given ones and more
ruled : (vars : ℕ) (cons : List Constraint) (gs : List Given) (first fs : List (Option Fact))
    → length fs ≡ vars
    → ((v : ℕ) (h : Fact) → fact_at fs v ≡ Some h → StandsBy cons gs fs v h.value h.level h.reason)
    → HasGivens gs (length gs) first → HasFacts fs first → MeetsFactRule vars cons gs fs
ruled vars cons gs first fs wide stands gives more = record {
  wide = wide;
  stands = stands;
  given = λ i g is.
      let h = gives.all i g (slice_get_within gs i g is) is in
      let b = gives.by g.var h.0 h.1 in
      record { fact = h.0; number = b.0; there = more g.var h.0 h.1; by_given = b.3.0 };
}

-- where two givens contradict each other
pub given_clash : (vars : ℕ) (cons : List Constraint) (gs : List Given) (fs : List (Option Fact))
    → length fs ≡ vars → HasGivens gs (length gs) fs → (a : ClashAt) → GaveAll gs (length gs) fs (Some a)
    → ClosesTo vars cons gs (Clash fs a)
given_clash vars cons gs fs wide gives (at.Givens a b) f = (
  ruled vars cons gs fs fs wide (given_stands cons gs (length gs) fs gives) gives (λ v h e. e),
  f,
  contradiction_clashes cons gs a b f.g f.h f.g_there f.h_there f.contradict,
)
given_clash vars cons gs fs wide gives (at.Dead c) f = absurd f

-- the facts of the givens, before the steps of a trail that grew from their values
pub told_start : (vars : ℕ) (cons : List Constraint) (gs : List Given) (fs : List (Option Fact))
    (start t : Trail) → length fs ≡ vars → HasGivens gs (length gs) fs
    → start.values.list.items ≡ map seen fs → start.steps.items ≡ [] → Grows cons start t
    → AreTold vars cons gs t 0 fs
told_start vars cons gs fs start t wide gives values none grows = record {
  wide = wide;
  rule = given_stands cons gs (length gs) fs gives;
  low = λ v h at. let b = gives.by v h at in omega (arith, b.3.1);
  same = λ v. sym (grows.same 0 (omega arith) v ∙ cut_end start 0 (omega (arith, ap length none)) v
      ∙ known_fact start.values.list.items fs values v);
}

module _ (vars : ℕ) (cons : List Constraint) (gs : List Given) (first fs : List (Option Fact)) (t : Trail)
    (told : AreTold vars cons gs t (length t.steps.items) fs) (more : HasFacts fs first)
    (gives : HasGivens gs (length gs) first) (agreed : Agreed gs (length gs) first)
  where
    same : (v : ℕ) → value_at fs v ≡ known t v
    same v = told.same v ∙ cut_end t (length t.steps.items) (omega arith) v

    rule : MeetsFactRule vars cons gs fs
    rule = ruled vars cons gs first fs told.wide told.rule gives more

    holds : HoldsGivens gs (value_at fs)
    holds i g is =
        let l = slice_get_within gs i g is in
        let h = gives.all i g l is in
        ap seen (more g.var h.0 h.1) ∙ ap Some (agreed i g l is h.0 h.1)

    -- where each constraint is silent
    pub board : AreReady cons t (length t.steps.items) → ClosesTo vars cons gs (Board fs)
    board ready = (
      rule,
      silent_closure cons gs (value_at fs) (values_inside vars cons gs fs rule) holds
          (λ c con v s there. silent_same con (known t) (value_at fs) (λ j l. same (term_at con.terms j).var)
          (silent con (ready c con there)) v s),
    )
      where
        silent : (con : Constraint) → Rests t (length t.steps.items) con → IsSilent (known t) con
        silent con (inl (i, j, a, b, l, e)) = absurd (omega (arith, a, b))
        silent con (inr q) = q

    -- where one is dead
    pub dead : AreFit vars cons → (c : ℕ) → IsDead cons t c → ClosesTo vars cons gs (Clash fs (at.Dead c))
    dead fit c d =
        let none = dead_more d.constraint.kind d.constraint.terms (Knows (known t)) (Knows (value_at fs))
        (λ j s l q. same (term_at d.constraint.terms j).var ∙ q) d.none in (
          rule,
          (holds, record { constraint = d.constraint; there = d.there; none = none }),
          dead_closure vars cons gs (value_at fs) fit (values_inside vars cons gs fs rule) c d.constraint d.there
              none,
        )
