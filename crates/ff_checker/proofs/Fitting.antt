-- The constraint of a witnessed cite is of faces of the sheet.
use Rattle.std.proofs.Common.{◌≡◌, ℕ, ◌<◌, ◌&&◌, length, refl, sym, subst, arith}
use Rattle.std.specs.Prelude.{true}
use Rattle.std.proofs.lemmas.Bool.{and_parts, ltb-true}
use Rattle.ff_tables.specs.Rows.{arity}
use Rattle.ff_types.specs.declared.cites.Cite.{Cite}
use Rattle.ff_types.specs.declared.cites.Cite.TheVariants.{Transitivity, TacoTaco, TacoFace, TacoEdge, FlatFace, FlatEdge}
use Rattle.ff_types.specs.declared.limits.TheConstants.{MOST_FACES}
use Rattle.ff_types.specs.declared.patterns.Pattern.{Pattern}
use Rattle.ff_types.specs.declared.faces.Faces.{Faces}
use Rattle.ff_types.specs.declared.faces.Folded.{Folded}
use Rattle.ff_types.specs.FoldedPatterns.{IsFoldedPattern}
use Rattle.ff_types.specs.Sheets.{Sheet, sheet_of, is_face}
use Rattle.ff_types.specs.Inside.{Overlap, is_inside}
use Rattle.ff_types.specs.Terms.{kind_of, terms_of}
use Rattle.ff_borders.proofs.Terms.{terms_overlap}
use Rattle.ff_borders.proofs.Witnesses.{witnessed_hold}
use Rattle.ff_log.specs.declared.claims.Declared.{Declared}
use Rattle.ff_log.specs.Grounds.{UsesOn}
use Rattle.ff_checker.specs.LogStates.{IsFitting}

counted : (g : Sheet) (c : Cite) → length (terms_of g c) ≡ arity (kind_of c)
counted g (Transitivity f h k at) = refl
counted g (TacoTaco e k) = refl
counted g (TacoFace e f at) = refl
counted g (TacoEdge e k) = refl
counted g (FlatFace e f at) = refl
counted g (FlatEdge e k) = refl

module _ {pattern : Pattern} {faces : Faces} {folded : Folded} (h : IsFoldedPattern pattern faces folded) where
  abbrev g : Sheet
  g = sheet_of pattern faces folded

  first_face : (f k : ℕ) → Overlap g f k → f < length faces.rings
  first_face f k o = let t = and_parts (is_inside g f o.common.at) (is_inside g k o.common.at && true) o.common.inside in
      ltb-true f (length faces.rings) (and_parts (is_face g f) _ t.0).0

  second_face : (f k : ℕ) → Overlap g f k → k < length faces.rings
  second_face f k o = let t = and_parts (is_inside g f o.common.at) (is_inside g k o.common.at && true) o.common.inside in
      ltb-true k (length faces.rings) (and_parts (is_face g k) _ (and_parts (is_inside g k o.common.at) true t.1).0).0

  pub fitting : (side : ℕ) (c : Cite) (d : Declared) → side ≡ MOST_FACES → UsesOn g c d → IsFitting side d
  fitting side c d at uses = subst (IsFitting side) (sym uses.is) (record {
    counted = counted g c;
    first = λ j l. let w = first_face _ _ (terms_overlap h c (witnessed_hold h c uses.witnessed) j l).given in omega (arith, w, h.few_faces, at);
    second = λ j l. let w = second_face _ _ (terms_overlap h c (witnessed_hold h c uses.witnessed) j l).given in omega (arith, w, h.few_faces, at);
  })
