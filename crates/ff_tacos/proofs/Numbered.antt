-- The terms of a constraint that holds have numbers.
use Rattle.std.proofs.Common.{◌≡◌, ℕ, ◌<◌, false, refl, sym, subst, List, length, map, get_or, Option, Some, None, slice_get}
use Rattle.std.proofs.lemmas.List.{get_or-map, length-map}
use Rattle.ff_tables.specs.declared.terms.Term.{Term}
use Rattle.ff_types.specs.declared.patterns.Pattern.{Pattern}
use Rattle.ff_types.specs.declared.faces.Faces.{Faces}
use Rattle.ff_types.specs.declared.faces.Folded.{Folded}
use Rattle.ff_types.specs.declared.cites.Cite.{Cite}
use Rattle.ff_types.specs.Pairs.{place_in, in_order, pair_at, StandsIn}
use Rattle.ff_types.specs.Sheets.{Sheet, sheet_of}
use Rattle.ff_types.specs.Cites.{Holds, face_or}
use Rattle.ff_types.specs.Terms.{terms_of}
use Rattle.ff_types.specs.Cases.{IsTermOf, IsConstraintOf}
use Rattle.ff_types.specs.FoldedPatterns.{IsFoldedPattern}
use Rattle.ff_types.proofs.SortedPairs.{place_stands}
use Rattle.ff_borders.specs.Terms.{IsOverlapping}
use Rattle.ff_borders.proofs.Terms.{terms_overlap}
use Rattle.ff_tacos.specs.Tacos.{AreNumbered}
use Rattle.ff_tacos.specs.Making.{term_of, listed_of}

is_there : (list : List (ℕ × ℕ)) (p : ℕ × ℕ) (o : Option ℕ) → StandsIn list p o → (n : ℕ)
    → slice_get list n ≡ Some p → o ≡ Some (face_or o)
is_there list p (Some m) s n e = refl
is_there list p None s n e = absurd (s n e)

numbered : (g : Sheet) (pairs : List (ℕ × ℕ)) → AreNumbered g pairs → (p : ℕ × ℕ) → IsOverlapping g p
    → IsTermOf pairs p (term_of pairs p)
numbered g pairs all p o =
    let q = in_order p.0 p.1 in
    let r = all q.0 q.1 o.rises o.ordered in
    record {
      variable = is_there pairs q (place_in pairs q) (place_stands pairs q) r.0 r.1;
      turned = refl;
    }

module _ {pattern : Pattern} {faces : Faces} {folded : Folded} (h : IsFoldedPattern pattern faces folded)
    (pairs : List (ℕ × ℕ)) where
  abbrev g : Sheet
  g = sheet_of pattern faces folded

  pub is_constraint : AreNumbered g pairs → (c : Cite) → Holds g c
      → IsConstraintOf g pairs c (listed_of g pairs c).constraint
  is_constraint all c w = record {
    kind = refl;
    counted = length-map (terms_of g c) (term_of pairs);
    terms = λ j l. at j (subst (λ n. j < n) (length-map (terms_of g c) (term_of pairs)) l);
  } where
    at : (j : ℕ) → j < length (terms_of g c)
        → IsTermOf pairs (get_or (terms_of g c) j (0, 0))
        (get_or (map (term_of pairs) (terms_of g c)) j (record { var = 0; flipped = false }))
    at j l = subst (λ (t : Term). IsTermOf pairs (pair_at (terms_of g c) j) t)
        (sym (get_or-map (term_of pairs) (terms_of g c) j (0, 0) (record { var = 0; flipped = false }) l))
        (numbered g pairs all (pair_at (terms_of g c) j) (terms_overlap h c w j l))
