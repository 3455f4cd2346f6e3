-- The case of a folded sheet from all its pairs and cites.
use Rattle.std.proofs.Common.{◌≡◌, ℕ, zero, suc, List, [], ◌∷◌, length, slice_get, Some, refl, sym, ap, subst, arith}
use Rattle.std.specs.List.{filter_map}
use Rattle.std.proofs.lemmas.Option.{slice_get_within}
use Rattle.ff_tables.specs.declared.terms.Constraint.{Constraint}
use Rattle.ff_tables.specs.declared.systems.System.{System}
use Rattle.ff_tables.specs.declared.givens.Given.{Given}
use Rattle.ff_tables.specs.Systems.{AreFit}
use Rattle.ff_types.specs.declared.patterns.Pattern.{Pattern}
use Rattle.ff_types.specs.declared.faces.Faces.{Faces}
use Rattle.ff_types.specs.declared.faces.Folded.{Folded}
use Rattle.ff_types.specs.declared.cases.Case.{Case}
use Rattle.ff_types.specs.declared.cites.Cite.{Cite}
use Rattle.ff_types.specs.Sheets.{Sheet, sheet_of, edges_of}
use Rattle.ff_types.specs.Cites.{Holds}
use Rattle.ff_types.specs.Cases.{start_of, IsConstraintOf, IsCaseOf}
use Rattle.ff_types.specs.FoldedPatterns.{IsFoldedPattern}
use Rattle.ff_borders.proofs.Witnesses.{witnessed_hold}
use Rattle.ff_crossings.proofs.Truth.{at_place}
use Rattle.ff_answers.specs.Layers.{AreAllPairs, AreAllCites}
use Rattle.ff_answers.proofs.Constraints.{some_constraints}
use Rattle.ff_problem.proofs.Assembly.{is_fit}
use Rattle.ff_problem.proofs.CreaseStarts.{starts_fit, by_creases, starts_rise}

module _ {pattern : Pattern} {faces : Faces} {folded : Folded} (h : IsFoldedPattern pattern faces folded)
    (pairs : List (ℕ × ℕ)) (are : AreAllPairs (sheet_of pattern faces folded) pairs) where
  abbrev g : Sheet
  g = sheet_of pattern faces folded

  -- a constraint for each cite
  record AreConstraintsOf (cites : List Cite) (cons : List Constraint) : Type 0 where
    pub as_many : length cites ≡ length cons
    pub each : (n : ℕ) (c : Cite) (con : Constraint) → slice_get cites n ≡ Some c → slice_get cons n ≡ Some con
        → IsConstraintOf g pairs c con

  the_same : {A : Type 0} (x y : A) → Some x ≡ Some y → x ≡ y
  the_same x y e = cc

  constraints_of : (cites : List Cite) → ((n : ℕ) (c : Cite) → slice_get cites n ≡ Some c → Holds g c)
      → (cons : List Constraint) × AreConstraintsOf cites cons
  constraints_of [] holds = (
    [],
    record {
      as_many = refl;
      each = λ n c con e f. absurd
          (let l = slice_get_within [] n c e in omega (arith, l));
    },
  )
  constraints_of (d ∷ cites) holds = more (some_constraints h pairs are d (holds 0 d refl))
      (constraints_of cites (λ n c e. holds (suc n) c e)) where
        more : (con : Constraint) × IsConstraintOf g pairs d con → (cons : List Constraint) × AreConstraintsOf cites cons
            → (cons : List Constraint) × AreConstraintsOf (d ∷ cites) cons
        more (x, is) (rest, of) = (x ∷ rest, record { as_many = ap suc of.as_many; each = each }) where
          each : (n : ℕ) (c : Cite) (con : Constraint) → slice_get (d ∷ cites) n ≡ Some c → slice_get (x ∷ rest) n ≡ Some con
              → IsConstraintOf g pairs c con
          each zero c con e f = subst (λ y. IsConstraintOf g pairs y con) (the_same d c e)
              (subst (IsConstraintOf g pairs d) (the_same x con f) is)
          each (suc n) c con e f = of.each n c con e f

  module _ (cites : List Cite) (all : AreAllCites g cites) where
    hold : (n : ℕ) (c : Cite) → slice_get cites n ≡ Some c → Holds g c
    hold n c e = witnessed_hold h c (all.witnessed n c e)

    module _ (cons : List Constraint) (of : AreConstraintsOf cites cons) where
      fit : AreFit (length pairs) cons
      fit n con e =
          let c = at_place cites n (let l = slice_get_within cons n con e in omega (arith, l, of.as_many)) in
          is_fit h pairs c.0 con (hold n c.0 c.1) (of.each n c.0 con c.1 e)

      abbrev system : System
      system = record { vars = length pairs; constraints = cons; fit = fit }

      abbrev starts : List Given
      starts = filter_map (start_of g pairs) (edges_of g)

      abbrev case_with : Case
      case_with = record {
        system = system;
        cites = cites;
        pairs = pairs;
        starts = starts;
        valid = record {
          cited = of.as_many;
          paired = refl;
          fit = λ i s t. starts_fit g pairs starts refl i s t;
          by_creases = by_creases g pairs starts refl;
          rising = starts_rise g pairs starts refl;
        };
      }

      is_case : IsCaseOf g case_with
      is_case = record {
        sorted_pairs = are.sorted;
        pairs_are = are.are;
        witnessed = all.witnessed;
        complete = all.complete;
        sorted_cites = all.sorted;
        constraints_are = of.each;
        starts_are = refl;
      }

    pub the_case : (case : Case) × IsCaseOf g case × (length case.system.constraints ≡ length cites)
    the_case = by (constraints_of cites hold) where
      by : (cons : List Constraint) × AreConstraintsOf cites cons
          → (case : Case) × IsCaseOf g case × (length case.system.constraints ≡ length cites)
      by (cons, of) = (case_with cons of, is_case cons of, sym of.as_many)
