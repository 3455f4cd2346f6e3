-- Each case has a report.
use Rattle.std.proofs.Common.{◌≡◌, ◌⊎◌, inl, inr, ℕ, zero, suc, ◌<◌, ◌≤◌, List, [], ◌∷◌, slice_get, Option, Some, Contains, refl, sym, ap, subst, arith}
use Rattle.std.proofs.lemmas.Option.{slice_get_within}
use Rattle.ff_basics.proofs.Memberships.{first_member, later_member}
use Rattle.ff_tables.specs.declared.orders.Order.{Order}
use Rattle.ff_types.specs.declared.faces.Faces.{Faces}
use Rattle.ff_types.specs.declared.faces.Folded.{Folded}
use Rattle.ff_types.specs.declared.cases.Case.{Case}
use Rattle.ff_types.specs.Pairs.{AreSorted}
use Rattle.ff_propagate.specs.declared.facts.Fact.{Fact}
use Rattle.ff_propagate.specs.declared.parts.Part.{Part}
use Rattle.ff_propagate.specs.Facts.{value_at}
use Rattle.ff_propagate.specs.Closure.{Clashes, Gives}
use Rattle.ff_propagate.specs.Trees.{Tree, IsTree, turns_of}
use Rattle.ff_propagate.specs.Solutions.{solutions_of}
use Rattle.ff_parts.specs.Lists.{vars_of}
use Rattle.ff_parts.specs.Factors.{IsAllowed}
use Rattle.ff_parts.proofs.Factoring.{clash_allows_none}
use Rattle.ff_report.specs.declared.parts.PartOutcome.{PartOutcome}
use Rattle.ff_report.specs.declared.parts.PartOutcome.TheVariants as outcome
use Rattle.ff_answers.specs.Ends.{HasEnds}
use Rattle.ff_answers.proofs.Deciding.{either_way}
use Rattle.ff_answers.proofs.Ending.{each_system_ends}
use Rattle.ff_answers.proofs.SomeLogs.{some_log}
use Rattle.ff_report.specs.declared.lines.Last.{Last}
use Rattle.ff_report.specs.declared.lines.Last.TheVariants as last
use Rattle.ff_report.specs.Lines.{last_of, board_text, clash_report}
use Rattle.ff_solve.specs.Outcomes.{EndsWithin, IsOutcome, AreOutcomes}
use Rattle.ff_solve.specs.Reports.{IsReport}
use Rattle.ff_answers.specs.Answers.{CasesHaveReports}

-- ---- what each part comes to

within_or_beyond : (m n : ℕ) → (m ≤ n) ⊎ (n < m)
within_or_beyond m n = grind arith

the_same : {A : Type 0} (x y : A) → Some x ≡ Some y → x ≡ y
the_same x y e = cc

member_vars : (parts : List Part) (k : ℕ) (part : Part) → slice_get parts k ≡ Some part → Contains (vars_of parts) part.vars
member_vars [] k part e = absurd (let l = slice_get_within [] k part e in omega (arith, l))
member_vars (p ∷ parts) zero part e = first_member p.vars (vars_of parts) part.vars (ap (λ (q : Part). q.vars) (the_same p part e))
member_vars (p ∷ parts) (suc k) part e = later_member p.vars (vars_of parts) part.vars (member_vars parts k part e)

module _ (case : Case) (sorted : AreSorted case.pairs) (value : ℕ → Option Order) (budget : ℕ) where
  abbrev HasTree : Part → Type 0
  HasTree part = (tree : Tree) × IsTree case.system.constraints value part.vars tree

  -- where the part has no solution no assignment is allowed
  abbrev AllowsNone : List ℕ → Type 0
  AllowsNone part = solutions_of case.system.constraints value part ≡ [] → (a : ℕ → Order) → IsAllowed case.system.constraints case.starts a → ⊥

  finished : (part : List ℕ) (list : List (List Order)) → EndsWithin case.system.constraints value budget part → list ≡ solutions_of case.system.constraints value part
      → AllowsNone part → ((o : PartOutcome) → IsOutcome case value budget part o → ⊥) → ⊥
  finished part [] ends e none k = some_log case sorted (none (sym e)) (λ log accepted. k (outcome.None (record { lines = log })) (ends, sym e, accepted))
  finished part (x ∷ list) ends e none k = k (outcome.Solutions (x ∷ list)) (ends, e, not_empty) where
    not_empty : x ∷ list ≡ [] → ⊥
    not_empty q = cc

  outcome_of : (part : Part) → HasTree part → AllowsNone part.vars → ((o : PartOutcome) → IsOutcome case value budget part.vars o → ⊥) → ⊥
  outcome_of part (tree, is) none k = elim (within_or_beyond (turns_of part.vars tree) budget) [
    | inl l ↦ finished part.vars (solutions_of case.system.constraints value part.vars) (tree, is, l) refl none k
    | inr l ↦ k outcome.Unfinished (tree, is, l)
  ]

  one_more : (p : Part) (parts : List Part) (o : PartOutcome) (rest : List PartOutcome) → IsOutcome case value budget p.vars o → AreOutcomes case value budget parts rest
      → AreOutcomes case value budget (p ∷ parts) (o ∷ rest)
  one_more p parts o rest is are = record { as_many = ap suc are.as_many; each = each } where
    each : (k : ℕ) (part : Part) (x : PartOutcome) → slice_get (p ∷ parts) k ≡ Some part
        → slice_get (o ∷ rest) k ≡ Some x → IsOutcome case value budget part.vars x
    each zero part x e f = subst (λ (q : Part). IsOutcome case value budget q.vars x) (the_same p part e)
        (subst (IsOutcome case value budget p.vars) (the_same o x f) is)
    each (suc k) part x e f = are.each k part x e f

  outcomes_of : (parts : List Part) → ((n : ℕ) (part : Part) → slice_get parts n ≡ Some part → HasTree part × AllowsNone part.vars)
      → ((outcomes : List PartOutcome) → AreOutcomes case value budget parts outcomes → ⊥) → ⊥
  outcomes_of [] trees k = k [] (record {
    as_many = refl;
    each = λ n part o e f. absurd
        (let l = slice_get_within [] n part e in omega (arith, l));
  })
  outcomes_of (p ∷ parts) trees k = outcome_of p (trees 0 p refl).0 (trees 0 p refl).1
      (λ o is. outcomes_of parts (λ n part e. trees (suc n) part e) (λ rest are. k (o ∷ rest) (one_more p parts o rest is are)))

-- ---- the report

module _ (faces : Faces) (folded : Folded) (case : Case) (budget : ℕ) (sorted : AreSorted case.pairs) (k : (l : Last) (text : List ℕ)
    → IsReport faces folded case budget l text → ⊥) where
  of_board : (facts : List (Option Fact)) (parts : List Part)
      → HasEnds case.system.vars case.system.constraints case.starts facts parts → ⊥
  of_board facts parts e = outcomes_of case sorted (value_at facts) budget parts
      (λ n part there. (e.trees n part there, λ empty. e.factors.none part.vars (member_vars parts n part there) empty))
      (λ outcomes are. k (last_of outcomes) (board_text faces folded case facts (vars_of parts) outcomes) (inr (record {
        facts = facts;
        parts = parts;
        outcomes = outcomes;
        wide = e.wide;
        closure = e.closure;
        parts_are = e.parts_are;
        factors = e.factors;
        outcomes_are = are;
        ends = refl;
        is = refl;
      })))

  of_clash : Clashes case.system.constraints (Gives case.starts) → ⊥
  of_clash c = some_log case sorted (λ a. clash_allows_none case.system.constraints case.starts a c)
      (λ log accepted. k last.Impossible (clash_report faces folded case log) (inl (record { clashes = c; ends = refl; log = log; accepted = accepted; is = refl })))

  of_case : ⊥
  of_case = either_way (Clashes case.system.constraints (Gives case.starts)) by where
    by : (Clashes case.system.constraints (Gives case.starts)) ⊎ (Clashes case.system.constraints (Gives case.starts) → ⊥) → ⊥
    by (inl c) = of_clash c
    by (inr n) = each_system_ends case.system case.starts case.valid.fit n of_board

pub cases_have_reports : CasesHaveReports
cases_have_reports faces folded case budget sorted k = of_case faces folded case budget sorted k
