-- What a list that was filled gives is what carrying gives.
use Rattle.std.proofs.Common.{◌≡◌, ℕ, List, length, sym, subst, Option, Some, None}
use Rattle.ff_tables.specs.declared.terms.Constraint.{Constraint}
use Rattle.ff_tables.specs.declared.givens.Given.{Given}
use Rattle.ff_propagate.specs.declared.facts.Fact.{Fact}
use Rattle.ff_propagate.specs.declared.facts.ClashAt.{ClashAt}
use Rattle.ff_propagate.specs.declared.facts.ClashAt.TheVariants as at
use Rattle.ff_propagate.specs.FactRule.{MeetsFactRule}
use Rattle.ff_propagate.specs.Giving.{GaveAll}
use Rattle.ff_propagate.specs.declared.facts.Reason.TheVariants as by
use Rattle.ff_carry.specs.declared.carrying.Opened.{Opened}
use Rattle.ff_carry.specs.Ends.{CarriesTo, Fills, Opens}
use Rattle.ff_carry.specs.Keeping.{HaveReasons}
use Rattle.ff_carry.proofs.Kept.{reason_is}

pub carries : (vars : ℕ) (cons : List Constraint) (gs : List Given) (old new : List (Option Fact)) (clash : Option ClashAt) (r : Opened)
    → Fills vars cons gs old new clash → Opens new clash r → CarriesTo vars cons gs old r
carries vars cons gs old new None r f e = subst (CarriesTo vars cons gs old) (sym e) f
carries vars cons gs old new (Some (at.Givens a b)) r f e = subst (CarriesTo vars cons gs old) (sym e) f
carries vars cons gs old new (Some (at.Dead c)) r f e = absurd f

-- facts by the rule have their reasons
pub have_reasons : (vars : ℕ) (cons : List Constraint) (gs : List Given) (old : List (Option Fact)) → MeetsFactRule vars cons gs old → HaveReasons cons old
have_reasons vars cons gs old rule v h c at is = reason_is vars cons gs old v c h rule at is

-- what setting the givens tells of two that contradict each other
pub gave_fills : (vars : ℕ) (cons : List Constraint) (gs : List Given) (old new : List (Option Fact)) (clash : ClashAt)
    → GaveAll gs (length gs) new (Some clash) → Fills vars cons gs old new (Some clash)
gave_fills vars cons gs old new (at.Givens a b) g = g
gave_fills vars cons gs old new (at.Dead c) g = g
