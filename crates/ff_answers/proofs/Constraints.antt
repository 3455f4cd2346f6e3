-- The terms of a constraint that holds are variables of the overlapping pairs.
use Rattle.std.proofs.Common.{◌≡◌, ℕ, ◌<◌, List, length, map, nat_lt, slice_get, slice_index_or, Option, Some, None, false, refl, sym, ap, subst, ◌∙◌, arith}
use Rattle.std.proofs.lemmas.List.{length-map, get_or-map}
use Rattle.ff_tables.specs.declared.terms.Term.{Term}
use Rattle.ff_tables.specs.declared.terms.Constraint.{Constraint}
use Rattle.ff_tables.specs.Orders.{term_at}
use Rattle.ff_types.specs.declared.patterns.Pattern.{Pattern}
use Rattle.ff_types.specs.declared.faces.Faces.{Faces}
use Rattle.ff_types.specs.declared.faces.Folded.{Folded}
use Rattle.ff_types.specs.declared.cites.Cite.{Cite}
use Rattle.ff_types.specs.Pairs.{StandsIn, in_order, place_in, number_of, pair_at}
use Rattle.ff_types.specs.Sheets.{Sheet, sheet_of}
use Rattle.ff_types.specs.Terms.{kind_of, terms_of}
use Rattle.ff_types.specs.Cases.{IsTermOf}
use Rattle.ff_types.specs.FoldedPatterns.{IsFoldedPattern}
use Rattle.ff_types.proofs.SortedPairs.{place_stands}
use Rattle.ff_borders.specs.Terms.{IsOverlapping}
use Rattle.ff_borders.proofs.Terms.{terms_overlap}
use Rattle.ff_answers.specs.Layers.{HasConstraints}

abbrev or_zero : Option ℕ → ℕ
or_zero (Some n) = n
or_zero None = 0

abbrev term_of : List (ℕ × ℕ) → ℕ × ℕ → Term
term_of pairs p = record { var = or_zero (number_of pairs p.0 p.1); flipped = nat_lt p.1 p.0 }

has_number : (pairs : List (ℕ × ℕ)) (p : ℕ × ℕ) (n : ℕ) → slice_get pairs n ≡ Some (in_order p.0 p.1)
    → number_of pairs p.0 p.1 ≡ Some (or_zero (number_of pairs p.0 p.1))
has_number pairs p n there = by (place_in pairs (in_order p.0 p.1)) refl (place_stands pairs (in_order p.0 p.1)) where
  by : (r : Option ℕ) → place_in pairs (in_order p.0 p.1) ≡ r → StandsIn pairs (in_order p.0 p.1) r
      → place_in pairs (in_order p.0 p.1) ≡ Some (or_zero (place_in pairs (in_order p.0 p.1)))
  by (Some m) q s = q ∙ ap (λ o. Some (or_zero o)) (sym q)
  by None q s = absurd (s n there)

module _ {pattern : Pattern} {faces : Faces} {folded : Folded} (h : IsFoldedPattern pattern faces folded) where
  abbrev g : Sheet
  g = sheet_of pattern faces folded

  abbrev constraint_for : List (ℕ × ℕ) → Cite → Constraint
  constraint_for pairs c = record { kind = kind_of c; terms = map (term_of pairs) (terms_of g c) }

  pub some_constraints : HasConstraints g
  some_constraints pairs are c holds = (
    constraint_for pairs c,
    record {
      kind = refl;
      counted = length-map (terms_of g c) (term_of pairs);
      terms = λ j l. each j (omega (arith, l, length-map (terms_of g c) (term_of pairs)));
    },
  ) where
    of_pair : (p : ℕ × ℕ) → IsOverlapping g p → IsTermOf pairs p (term_of pairs p)
    of_pair p o =
        let t = (are.are (in_order p.0 p.1).0 (in_order p.0 p.1).1 o.rises).0 o.ordered in
        record { variable = has_number pairs p t.0 t.1; turned = refl }

    each : (j : ℕ) → j < length (terms_of g c) → IsTermOf pairs (slice_index_or (terms_of g c) j (0, 0))
        (term_at (constraint_for pairs c).terms j)
    each j l = subst (IsTermOf pairs (pair_at (terms_of g c) j))
        (sym (get_or-map (term_of pairs) (terms_of g c) j (0, 0) (record { var = 0; flipped = false }) l))
        (of_pair (pair_at (terms_of g c) j) (terms_overlap h c holds j l))
