-- The case of a folded sheet from its pairs, constraints and starts.
use Rattle.std.proofs.Common.{◌≡◌, ℕ, ◌<◌, ◌≤◌, ◌↔◌, ◌∙◌, List, length, map, slice_get, Some, Result, Ok, Err, IfOk, ap, sym, subst, arith}
use Rattle.std.proofs.lemmas.List.{length-map}
use Rattle.std.specs.List.{filter_map}
use Rattle.ff_tables.specs.declared.terms.Constraint.{Constraint}
use Rattle.ff_tables.specs.declared.systems.System.{System}
use Rattle.ff_tables.specs.declared.givens.Given.{Given}
use Rattle.ff_tables.specs.Systems.{AreFit}
use Rattle.ff_types.specs.declared.patterns.Pattern.{Pattern}
use Rattle.ff_types.specs.declared.faces.Faces.{Faces}
use Rattle.ff_types.specs.declared.faces.Folded.{Folded}
use Rattle.ff_types.specs.declared.cases.Case.{Case}
use Rattle.ff_types.specs.declared.cites.Cite.{Cite}
use Rattle.ff_types.specs.declared.cites.Listed.{Listed}
use Rattle.ff_types.specs.declared.refusals.No.{No}
use Rattle.ff_types.specs.CaseFields.{AreCaseFields}
use Rattle.ff_types.specs.Sheets.{Sheet, sheet_of, edges_of}
use Rattle.ff_types.specs.Pairs.{AreSorted}
use Rattle.ff_types.specs.Inside.{Overlap}
use Rattle.ff_types.specs.Cites.{AreSmall}
use Rattle.ff_types.specs.Cases.{key, start_of, IsCaseOf, IsConstraintOf}
use Rattle.ff_types.specs.FoldedPatterns.{IsFoldedPattern}
use Rattle.ff_types.specs.Splitting.{constraint_of, cite_of}
use Rattle.ff_problem.specs.Limits.{IsWithinLimits}
use Rattle.ff_problem.specs.Problems.{IsProblem}
use Rattle.ff_types.specs.declared.limits.TheConstants.{MOST_CONSTRAINTS}
use Rattle.ff_tacos.specs.Tacos.{AddsTacos}
use Rattle.ff_problem.specs.Layers.{AreLayers, AreConstraints, IsCaseWithin}
use Rattle.ff_problem.proofs.Assembly.{all_small, all_witnessed, all_hold, all_there, all_sorted, constraints_are, is_fit}
use Rattle.ff_problem.proofs.CreaseStarts.{starts_fit, by_creases, starts_rise}
use Rattle.ff_problem.proofs.Counts.{no_more_pairs, no_more_constraints}
use Rattle.ff_crossings.proofs.Truth.{cases_are_true}
use Rattle.ff_crossings.proofs.Alike.{mapped, unmapped}

module _ {pattern : Pattern} {faces : Faces} {folded : Folded} (h : IsFoldedPattern pattern faces folded) (pairs : List (ℕ × ℕ)) (list : List Listed)
    (c : AreConstraints (sheet_of pattern faces folded) pairs list) where
  abbrev g : Sheet
  g = sheet_of pattern faces folded

  pub fit_all : AreFit (length pairs) (map constraint_of list)
  fit_all n con e =
      let l = unmapped constraint_of list n con e in
      let cite = mapped cite_of list n l.0 l.1 in
      is_fit h pairs (cite_of l.0) con (all_hold g c.layers.cells pairs c.triples c.tacos list c.layers.sets c.layers.triples c.are c.both n (cite_of l.0) cite)
      (constraints_are g c.layers.cells pairs c.triples c.tacos list c.layers.sets c.layers.triples c.are c.both n (cite_of l.0) con cite e)

  pub fit_as : (n : ℕ) (cs : List Constraint) → n ≡ length pairs → cs ≡ map constraint_of list → AreFit n cs
  fit_as n cs e f = subst (λ m. AreFit m cs) (sym e) (subst (λ xs. AreFit (length pairs) xs) (sym f) fit_all)

  pub fields : (system : System) (cites : List Cite) (starts : List Given) → system.vars ≡ length pairs → system.constraints ≡ map constraint_of list → cites ≡ map cite_of list
      → starts ≡ filter_map (start_of g pairs) (edges_of g) → AreCaseFields system cites pairs starts
  fields system cites starts v cs ks s = record {
    cited = ap length ks ∙ length-map list cite_of ∙ sym (length-map list constraint_of) ∙ sym (ap length cs);
    paired = sym v;
    fit = λ i x t. let l = starts_fit g pairs starts s i x t in omega (arith, l, v);
    by_creases = by_creases g pairs starts s;
    rising = starts_rise g pairs starts s;
  }

  pub is_case : (case : Case) → case.pairs ≡ pairs → case.system.constraints ≡ map constraint_of list → case.cites ≡ map cite_of list
      → case.starts ≡ filter_map (start_of g pairs) (edges_of g) → IsCaseWithin g case
  is_case case ps cs ks s = record { is = is; small = small; within = within } where
    small : AreSmall case.cites
    small = subst AreSmall (sym ks) (all_small g c.layers.cells pairs c.triples c.tacos list c.layers.sets c.layers.triples c.are c.both)

    is : IsCaseOf g case
    is = record {
      sorted_pairs = subst AreSorted (sym ps) c.layers.sorted;
      pairs_are = subst (λ qs. (f k : ℕ) → f < k → Overlap g f k ↔ ((n : ℕ) × (slice_get qs n ≡ Some (f, k)))) (sym ps) c.layers.overlap;
      witnessed = λ n x t. all_witnessed g c.layers.cells pairs c.triples c.tacos list c.layers.sets c.layers.triples c.are c.both n x (ap (λ xs. slice_get xs n) (sym ks) ∙ t);
      complete = λ x holds. there (all_there g c.layers.cells pairs c.triples c.tacos list c.layers.sets c.layers.triples c.are c.both x holds);
      sorted_cites = λ m n x y l t u. all_sorted g c.layers.cells pairs c.triples c.tacos list c.layers.sets c.layers.triples c.are c.both m n x y l
          (ap (λ xs. slice_get xs m) (sym ks) ∙ t) (ap (λ xs. slice_get xs n) (sym ks) ∙ u);
      constraints_are = λ n x con t u. subst (λ qs. IsConstraintOf g qs x con) (sym ps)
          (constraints_are g c.layers.cells pairs c.triples c.tacos list c.layers.sets c.layers.triples c.are c.both n x con (ap (λ xs. slice_get xs n) (sym ks) ∙ t) (ap (λ xs. slice_get xs n) (sym cs) ∙ u));
      starts_are = s ∙ ap (λ qs. filter_map (start_of g qs) (edges_of g)) (sym ps);
    } where
      there : {k : List ℕ} → (n : ℕ) × (d : Cite) × (slice_get (map cite_of list) n ≡ Some d) × (key d ≡ k) → (n : ℕ) × (d : Cite) × (slice_get case.cites n ≡ Some d) × (key d ≡ k)
      there (n, d, t, e) = (n, d, ap (λ xs. slice_get xs n) ks ∙ t, e)

    within : IsWithinLimits g
    within = record {
      cells = c.layers.few_cells;
      pairs = no_more_pairs g pairs c.layers.sorted c.layers.overlap c.layers.few_pairs;
      constraints = no_more_constraints g case is (let l = ap length cs ∙ length-map list constraint_of in omega (arith, l, c.few));
    }

-- what a pattern comes to
pub problem_from : {pattern : Pattern} {faces : Faces} {folded : Folded} → IsFoldedPattern pattern faces folded → (r : Result Case No) → IfOk r (IsCaseWithin (sheet_of pattern faces folded))
    → IfOk r (IsProblem pattern faces folded)
problem_from h (Ok case) made = record { folds = h; within = made.within; case_is = made.is; true_to = cases_are_true h case made.is }
problem_from h (Err n) made = tt

-- whose cites have small places
pub small_from : (g : Sheet) (r : Result Case No) → IfOk r (IsCaseWithin g) → IfOk r (λ case. AreSmall case.cites)
small_from g (Ok case) made = made.small
small_from g (Err n) made = tt

-- all constraints, where those of edges come to those of cells
pub constraints_from : (g : Sheet) (pairs : List (ℕ × ℕ)) (list : List Listed) → AreLayers g pairs list → (r : Result (List Listed) No) → IfOk r (AddsTacos g pairs list)
    → IfOk r (λ l. length l ≤ MOST_CONSTRAINTS) → IfOk r (AreConstraints g pairs)
constraints_from g pairs list layers (Ok l) adds few = record { triples = list; tacos = adds.tacos; layers = layers; are = adds.are; both = adds.appended; few = few }
constraints_from g pairs list layers (Err n) adds few = tt
