-- A case has few starts, few constraints and few pairs.
use Rattle.std.proofs.Common.{◌≡◌, inl, inr, ℕ, suc, ◌<◌, ◌≤◌, ◌^◌, List, [], ◌∷◌, length, Option, Some, None, IsTrue, ap, sym, subst, arith}
use Rattle.std.specs.List.{filter_map, cons_option}
use Rattle.std.proofs.lemmas.List.FromFn.{length-range_with_len}
use Rattle.ff_basics.proofs.Numbers.{at_most_or}
use Rattle.ff_types.specs.declared.patterns.Pattern.{Pattern}
use Rattle.ff_types.specs.declared.faces.Faces.{Faces}
use Rattle.ff_types.specs.declared.faces.Folded.{Folded}
use Rattle.ff_types.specs.declared.cases.Case.{Case}
use Rattle.ff_types.specs.declared.limits.TheConstants.{MOST_CONSTRAINTS, MOST_PAIRS}
use Rattle.ff_types.specs.Faces.{list_before}
use Rattle.ff_types.specs.Sheets.{sheet_of, edges_of}
use Rattle.ff_types.specs.Cases.{key, start_of}
use Rattle.ff_borders.proofs.Witnesses.{witnessed_hold}
use Rattle.ff_crossings.proofs.Alike.{lists_apart}
use Rattle.ff_problem.specs.Problems.{IsProblem}

short_options : {A B : Type 0} (f : A → Option B) (xs : List A) → length (filter_map f xs) ≤ length xs
short_options f [] = omega arith
short_options {A} {B} f (x ∷ xs) = by (f x) (short_options f xs) where
  by : (o : Option B) → length (filter_map f xs) ≤ length xs → length (cons_option o (filter_map f xs)) ≤ suc (length xs)
  by None l = omega (arith, l)
  by (Some y) l = omega (arith, l)

-- no more starts than edges
pub few_starts : (pattern : Pattern) (faces : Faces) (folded : Folded) (case : Case) → IsProblem pattern faces folded case → length case.starts < 2 ^ 21
few_starts pattern faces folded case is =
    let l = short_options (start_of (sheet_of pattern faces folded) case.pairs) (edges_of (sheet_of pattern faces folded)) in
    let e = ap length is.case_is.starts_are in
    let n = length-range_with_len 0 (length pattern.edges) in
    let few = pattern.valid.few_edges in
    omega (arith, l, e, n, few)

pub few_constraints : (pattern : Pattern) (faces : Faces) (folded : Folded) (case : Case) → IsProblem pattern faces folded case → length case.system.constraints ≤ 2 ^ 22
few_constraints pattern faces folded case is = elim (at_most_or (length case.system.constraints) MOST_CONSTRAINTS) [
  | inl l ↦ omega (arith, l)
  | inr l ↦ absurd (is.within.constraints (
    case.cites,
    record {
      apart = λ m n c d k s t e. lists_apart (key c) (key d) (is.case_is.sorted_cites m n c d k s t)
          (subst (λ x. IsTrue (list_before (key d) x)) (sym e) (subst (λ x. IsTrue (list_before x (key d))) e (is.case_is.sorted_cites m n c d k s t)));
      each = λ n c t. witnessed_hold is.folds c (is.case_is.witnessed n c t);
    },
    omega (arith, l, case.valid.cited),
  ))
]

pub few_pairs : (pattern : Pattern) (faces : Faces) (folded : Folded) (case : Case) → IsProblem pattern faces folded case → case.system.vars ≤ 2 ^ 18
few_pairs pattern faces folded case is = elim (at_most_or (length case.pairs) MOST_PAIRS) [
  | inl l ↦ omega (arith, l, case.valid.paired)
  | inr l ↦ absurd (is.within.pairs (
    case.pairs,
    record {
      sorted = is.case_is.sorted_pairs;
      each = λ n p t. (is.case_is.pairs_are p.0 p.1 (is.case_is.sorted_pairs.rising n p t)).1 (n, t);
    },
    l,
  ))
]
