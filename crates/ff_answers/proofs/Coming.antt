-- A pattern that folds is refused or comes to a case.
use Rattle.std.proofs.Common.{◌≡◌, ◌≢◌, ◌⊎◌, inl, inr, ℕ, ◌<◌, ◌≤◌, List, length, IsTrue, refl, sym, subst, arith}
use Rattle.ff_basics.proofs.Numbers.{at_most_or}
use Rattle.ff_whole.specs.declared.places.Place.{Place}
use Rattle.ff_types.specs.declared.limits.TheConstants.{MOST_CONSTRAINTS}
use Rattle.ff_types.specs.declared.patterns.Pattern.{Pattern}
use Rattle.ff_types.specs.declared.faces.Faces.{Faces}
use Rattle.ff_types.specs.declared.faces.Folded.{Folded}
use Rattle.ff_types.specs.declared.cases.Case.{Case}
use Rattle.ff_types.specs.declared.cites.Cite.{Cite}
use Rattle.ff_types.specs.declared.refusals.Refusal.{Refusal}
use Rattle.ff_types.specs.declared.refusals.Refusal.TheVariants.{TooMany}
use Rattle.ff_types.specs.declared.refusals.What.TheVariants.{Cells, Entries, Pairs, Constraints}
use Rattle.ff_types.specs.Faces.{list_before}
use Rattle.ff_types.specs.Sheets.{Sheet, sheet_of}
use Rattle.ff_types.specs.Cases.{key, IsCaseOf}
use Rattle.ff_types.specs.FoldedPatterns.{IsFoldedPattern}
use Rattle.ff_borders.proofs.Witnesses.{witnessed_hold}
use Rattle.ff_crossings.proofs.Alike.{lists_apart}
use Rattle.ff_crossings.proofs.Truth.{cases_are_true}
use Rattle.ff_types.specs.declared.limits.TheConstants.{MOST_CELLS, MOST_ENTRIES}
use Rattle.ff_cells.specs.SlabCells.{AreOneEach, entries, HasFewCells}
use Rattle.ff_types.specs.declared.limits.TheConstants.{MOST_PAIRS}
use Rattle.ff_answers.specs.Layers.{AreAllPairs, AreAllCites}
use Rattle.ff_answers.proofs.Cells.{some_cells}
use Rattle.ff_answers.proofs.Pairs.{some_pairs}
use Rattle.ff_answers.proofs.Cites.{some_cites}
use Rattle.ff_problem.specs.Limits.{HasManyPairs, RefusesCase}
use Rattle.ff_problem.specs.Problems.{IsProblem}
use Rattle.ff_problem.proofs.Counts.{no_more_pairs, no_more_constraints}
use Rattle.ff_answers.proofs.Building.{the_case}

keys_differ : (p q : List ℕ) → IsTrue (list_before p q) → p ≢ q
keys_differ p q b e = lists_apart p q b (subst (λ x. IsTrue (list_before q x)) (sym e)
    (subst (λ x. IsTrue (list_before x q)) e b))

module _ {pattern : Pattern} {faces : Faces} {folded : Folded} (h : IsFoldedPattern pattern faces folded)
    (none : (r : Refusal) → RefusesCase (sheet_of pattern faces folded) r → ⊥) (k : (case : Case)
    → IsProblem pattern faces folded case → ⊥) where
  abbrev g : Sheet
  g = sheet_of pattern faces folded

  module _ (few : HasFewCells g) (pairs : List (ℕ × ℕ)) (are : AreAllPairs g pairs) (short : length pairs ≤ MOST_PAIRS) where
    no_more : HasManyPairs g → ⊥
    no_more = no_more_pairs g pairs are.sorted are.are short

    few_cites : (cites : List Cite) → AreAllCites g cites → length cites ≤ MOST_CONSTRAINTS → ⊥
    few_cites cites all l = by (the_case h pairs are cites all) where
      by : (case : Case) × IsCaseOf g case × (length case.system.constraints ≡ length cites) → ⊥
      by (case, is, e) = k case (record {
        folds = h;
        within = record { cells = few; pairs = no_more; constraints = no_more_constraints g case is (omega (arith, l, e)) };
        case_is = is;
        true_to = cases_are_true h case is;
      })

    many_cites : (cites : List Cite) → AreAllCites g cites → MOST_CONSTRAINTS < length cites → ⊥
    many_cites cites all l = none (TooMany Constraints MOST_CONSTRAINTS) (inr (
      few,
      inr (
        no_more,
        refl,
        (
          cites,
          record {
            apart = λ m n c d i e f. keys_differ (key c) (key d) (all.sorted m n c d i e f);
            each = λ n c e. witnessed_hold h c (all.witnessed n c e);
          },
          l,
        ),
      ),
    ))

    by_cites : (cites : List Cite) → AreAllCites g cites → ⊥
    by_cites cites all = elim (at_most_or
        (length cites) MOST_CONSTRAINTS) [ inl l ↦ few_cites cites all l | inr l ↦ many_cites cites all l ]

  module _ (few : HasFewCells g) where
    many_pairs : (pairs : List (ℕ × ℕ)) → AreAllPairs g pairs → MOST_PAIRS < length pairs → ⊥
    many_pairs pairs are l = none (TooMany Pairs MOST_PAIRS) (inr (
      few,
      inl (
        refl,
        (
          pairs,
          record {
            sorted = are.sorted;
            each = λ n p e. (are.are p.0 p.1 (are.sorted.rising n p e)).1 (n, e);
          },
          l,
        ),
      ),
    ))

    by_pairs : (pairs : List (ℕ × ℕ)) → AreAllPairs g pairs → ⊥
    by_pairs pairs are = elim (at_most_or (length pairs) MOST_PAIRS) [
      | inl l ↦ some_cites h (by_cites few pairs are l)
      | inr l ↦ many_pairs pairs are l
    ]

  by_cells : (places : List Place) → AreOneEach g places → ⊥
  by_cells places one = elim (at_most_or (length places) MOST_CELLS) [
    | inr l ↦ none (TooMany Cells MOST_CELLS) (inl (inl (refl, (places, one.stand, l))))
    | inl l ↦ elim (at_most_or (entries g places) MOST_ENTRIES) [
      | inr m ↦ none (TooMany Entries MOST_ENTRIES) (inl (inr (refl, (places, one, l, m))))
      | inl m ↦ some_pairs g (by_pairs (record { places = places; one_each = one; few = l; few_entries = m }))
    ]
  ]

  pub folded_patterns_come : ⊥
  folded_patterns_come = some_cells h by_cells
