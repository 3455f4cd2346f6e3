use Rattle.std.proofs.Common.{◌≡◌, refl, subst}
use Rattle.ff_whole.specs.declared.points.Pt.{Pt}
use Rattle.ff_types.specs.Sheets.{sheet_of, tail, head}
use Rattle.ff_edges.proofs.CommonWays.{IsSpan, span_of, apart_from_rank}
use Rattle.ff_edges.proofs.FaceLists.{found, not_found}
use Rattle.ff_edges.proofs.crossed.edge_face.Goals as goal

spans : {a b c d p q : Pt} → a ≡ c → b ≡ d → IsSpan a b p q → IsSpan c d p q
spans {a} {b} {c} {d} {p} {q} e f s = subst (λ x. IsSpan x d p q) e (subst (λ y. IsSpan a y p q) f s)

pub part_in_face-requires-clause-apart : goal.part_in_face-requires-clause-apart
part_in_face-requires-clause-apart c =
    let ends = c.ends.ensures in
    apart_from_rank c.earlier.result c.later.result (span_of c.ends.result.0 c.ends.result.1 c.earlier.result c.later.result ends.first_near ends.second_near ends.apart c.earlier.ensures c.later.ensures).goes

pub returns-in-Some : goal.returns-in-Some
returns-in-Some c =
    let ends = c.ends.ensures in
    let g = sheet_of c.args.pattern.now c.args.faces.now c.args.folded.now in
    let span : IsSpan (tail g c.args.e) (head g c.args.e) c.earlier.result c.later.result = spans ends.tail ends.head (span_of c.ends.result.0 c.ends.result.1 c.earlier.result c.later.result ends.first_near ends.second_near ends.apart c.earlier.ensures c.later.ensures) in
    (refl, refl, found g c.args.e c.args.f c.earlier.result c.later.result c.earlier.ensures.near c.later.ensures.near span c.requires.face c.requires.inner c.in-Some.first c.in-Some.second c.in-Some.ensures)

pub returns-in-None : goal.returns-in-None
returns-in-None c =
    let ends = c.ends.ensures in
    let g = sheet_of c.args.pattern.now c.args.faces.now c.args.folded.now in
    let span : IsSpan (tail g c.args.e) (head g c.args.e) c.earlier.result c.later.result = spans ends.tail ends.head (span_of c.ends.result.0 c.ends.result.1 c.earlier.result c.later.result ends.first_near ends.second_near ends.apart c.earlier.ensures c.later.ensures) in
    not_found g c.args.e c.args.f c.earlier.result c.later.result c.earlier.ensures.near c.later.ensures.near span c.in-None.ensures
