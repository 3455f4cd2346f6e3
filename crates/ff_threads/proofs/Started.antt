-- What boards and hands begin with.
use Rattle.std.proofs.Common.{◌≡◌, ℕ, zero, suc, ◌+◌, ◌<◌, List, [], ◌∷◌, ◌++◌, length, replicate, slice_get, sym, refl, ap, ◌∙◌, subst, arith, Option, Some, None, length-append}
use lib.ListN.{length-replicate}
use Rattle.ff_tables.specs.declared.terms.Constraint.{Constraint}
use Rattle.ff_propagate.specs.declared.facts.Fact.{Fact}
use Rattle.ff_propagate.specs.Facts.{fact_at}
use Rattle.ff_propagate.specs.FactRule.{MeetsFactRule}
use Rattle.ff_steal.specs.declared.crews.Hand.{Hand}
use Rattle.ff_steal.specs.Crews.{AreHands}

no_fact : (n v : ℕ) (h : Fact) → fact_at (replicate n None) v ≡ Some h → ⊥
no_fact zero zero h e = cc
no_fact zero (suc v) h e = cc
no_fact (suc n) zero h e = cc
no_fact (suc n) (suc v) h e = no_fact n v h e

not_there : {X : Type 0} (i : ℕ) (x : X) → slice_get [] i ≡ Some x → ⊥
not_there zero x e = cc
not_there (suc i) x e = cc

-- no facts meet the rule where nothing is given
pub none_meet : (vars : ℕ) (cons : List Constraint) (fs : List (Option Fact)) → fs ≡ replicate vars None → MeetsFactRule vars cons [] fs
none_meet vars cons fs e = subst (λ (x : List (Option Fact)). MeetsFactRule vars cons [] x) (sym e) (record {
  wide = length-replicate vars None;
  stands = λ v h e. absurd (no_fact vars v h e);
  given = λ i g e. absurd (not_there i g e);
})

at_end : {X : Type 0} (rest after : List X) (y : X) → slice_get (rest ++ y ∷ after) (length rest) ≡ Some y
at_end [] after y = refl
at_end (x ∷ rest) after y = at_end rest after y

-- the last of two hands, and the one before
pub two_of : (hands front first_ones : List Hand) (first second : Hand) → AreHands 2 hands → hands ≡ front ++ second ∷ [] → front ≡ first_ones ++ first ∷ []
    → (first.of ≡ 2) × (first.number < 2) × (second.of ≡ 2) × (second.number < 2)
two_of hands front first_ones first second are whole part =
    let n : length front + 1 ≡ 2 = sym (length-append front (second ∷ [])) ∙ (ap length (sym whole) ∙ are.as_many) in
    let m : length first_ones + 1 ≡ length front = sym (length-append first_ones (first ∷ [])) ∙ ap length (sym part) in
    let last = are.each (length front) second (ap (λ xs. slice_get xs (length front)) whole ∙ at_end front [] second) in
    let again : hands ≡ (first_ones ++ first ∷ []) ++ second ∷ [] = whole ∙ ap (λ xs. xs ++ second ∷ []) part in
    let before = are.each (length first_ones) first (ap (λ xs. slice_get xs (length first_ones)) again ∙ twice first_ones first second) in
    (before.1, omega (arith, before.0, m, n), last.1, omega (arith, last.0, n))
  where
    twice : (xs : List Hand) (y z : Hand) → slice_get ((xs ++ y ∷ []) ++ z ∷ []) (length xs) ≡ Some y
    twice [] y z = refl
    twice (x ∷ xs) y z = twice xs y z
