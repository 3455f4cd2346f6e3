use Rattle.std.proofs.Common.{◌+◌, sym, subst}
use Rattle.std.proofs.lemmas.Result.{on_ok_weaker, IfErr-weaker}
use Rattle.ff_types.specs.Sheets.{sheet_of}
use Rattle.ff_edges.specs.EdgesInside.{AreFacesTo}
use Rattle.ff_edges.proofs.FaceLists.{faces_skip, faces_take, too_many}
use Rattle.ff_edges.proofs.crossed.append_face.Goals as goal

pub returns-in-Some-clause-listed : goal.returns-in-Some-clause-listed
returns-in-Some-clause-listed c =
    let g = sheet_of c.args.pattern.now c.args.faces.now c.args.folded.now in
    on_ok_weaker c.append.result (λ a. subst (AreFacesTo g c.args.e (c.args.f + 1)) (sym a.0) (faces_take g c.args.e c.args.f c.args.list.now.items c.in-Some.found c.in-Some.ensures c.requires.listed)) c.append.ensures.appended

pub returns-in-Some-clause-refused : goal.returns-in-Some-clause-refused
returns-in-Some-clause-refused c =
    let g = sheet_of c.args.pattern.now c.args.faces.now c.args.folded.now in
    IfErr-weaker c.append.result _ _ (λ no full. too_many g c.args.e c.args.f c.args.list.now.items c.in-Some.found c.in-Some.ensures c.requires.listed no full) c.append.ensures.refused

pub returns-in-None-clause-listed : goal.returns-in-None-clause-listed
returns-in-None-clause-listed c = faces_skip (sheet_of c.args.pattern.now c.args.faces.now c.args.folded.now) c.args.e c.args.f c.args.list.now.items c.in-None.ensures c.requires.listed
