-- What the laws of crossings use of border places. This project's own.
use Rattle.ff_types.specs.declared.patterns.Pattern.{Pattern}
use Rattle.ff_types.specs.declared.faces.Faces.{Faces}
use Rattle.ff_types.specs.declared.faces.Folded.{Folded}
use Rattle.ff_types.specs.Sheets.{Sheet, sheet_of}
use Rattle.ff_types.specs.FoldedPatterns.{IsFoldedPattern}
use Rattle.ff_borders.specs.Folded.{InnerEdgesHaveTwoFaces}
use Rattle.ff_borders.specs.Lying.{OneSideAgrees, EdgesRunAlong, RingFacesLieAside, FlatFacesPart, FoldedFacesMeet}
use Rattle.ff_borders.specs.PlainPlaces.{PartsInsideHavePlain, SegmentsHavePlain}
use Rattle.ff_borders.specs.SideFaces.{SidesHavePlaces, SideFacesOverlap}
use Rattle.ff_borders.specs.Running.{PlainPlacesTell, SharingHaveNoCommon, WitnessedHold}
use Rattle.ff_borders.proofs.TwoSides.{two_faces}
use Rattle.ff_borders.proofs.Runs.{edges_run_along, one_side_agrees}
use Rattle.ff_borders.proofs.Lying.{ring_faces_lie_aside, flat_faces_part, folded_faces_meet}
use Rattle.ff_borders.proofs.Running.{parts_inside_have_plain, segments_have_plain, plain_places_tell, sharing_have_no_common}
use Rattle.ff_borders.proofs.SideFaces.{sides_have_places, side_faces_overlap}
use Rattle.ff_borders.proofs.Witnesses.{witnessed_hold}

-- a sheet of which these laws hold
pub record HasBorderLaws (g : Sheet) : Type 0 where
  pub two_faces : InnerEdgesHaveTwoFaces g
  pub one_side : OneSideAgrees g
  pub along : EdgesRunAlong g
  pub aside : RingFacesLieAside g
  pub flat_part : FlatFacesPart g
  pub folded_meet : FoldedFacesMeet g
  pub inside_plain : PartsInsideHavePlain g
  pub shared_plain : SegmentsHavePlain g
  pub beside : SidesHavePlaces g
  pub side_overlap : SideFacesOverlap g
  pub tell : PlainPlacesTell g
  pub no_common : SharingHaveNoCommon g
  pub witnessed : WitnessedHold g

-- so it is of each folded sheet
pub folded_laws : (pattern : Pattern) (faces : Faces) (folded : Folded) → IsFoldedPattern pattern faces folded
    → HasBorderLaws (sheet_of pattern faces folded)
folded_laws pattern faces folded h = record {
  two_faces = two_faces h;
  one_side = one_side_agrees (sheet_of pattern faces folded);
  along = edges_run_along h;
  aside = ring_faces_lie_aside h;
  flat_part = flat_faces_part h;
  folded_meet = folded_faces_meet h;
  inside_plain = parts_inside_have_plain h;
  shared_plain = segments_have_plain h;
  beside = sides_have_places h;
  side_overlap = side_faces_overlap h;
  tell = plain_places_tell h;
  no_common = sharing_have_no_common h;
  witnessed = witnessed_hold h;
}
