use Rattle.std.proofs.Common.{◌+◌, arith, sym, subst}
use Rattle.std.proofs.lemmas.Result.{on_ok_weaker, IfErr-weaker}
use Rattle.ff_types.specs.Sheets.{sheet_of}
use Rattle.ff_edges.specs.SharedSegments.{ArePairsTo}
use Rattle.ff_edges.proofs.PairLists.{pairs_skip, pairs_take, too_many}
use Rattle.ff_edges.proofs.along.append_shared.Goals as goal

pub returns-in-Some-clause-listed : goal.returns-in-Some-clause-listed
returns-in-Some-clause-listed c =
    let g = sheet_of c.args.pattern.now c.args.faces.now c.args.folded.now in
    on_ok_weaker c.append.result (λ a. subst (ArePairsTo g c.args.e (c.args.k + 1)) (sym a.0) (pairs_take g c.args.e c.args.k c.args.list.now.items c.in-Some.pair c.in-Some.ensures c.requires.listed)) c.append.ensures.appended

pub returns-in-Some-clause-refused : goal.returns-in-Some-clause-refused
returns-in-Some-clause-refused c =
    let o = c.requires.order in let l = c.requires.edge in
    IfErr-weaker c.append.result _ _ (λ no full. too_many c.requires.folded c.args.e c.args.k c.args.list.now.items c.in-Some.pair (omega (arith, o, l)) c.in-Some.ensures c.requires.listed no full) c.append.ensures.refused

pub returns-in-None-clause-listed : goal.returns-in-None-clause-listed
returns-in-None-clause-listed c = pairs_skip (sheet_of c.args.pattern.now c.args.faces.now c.args.folded.now) c.args.e c.args.k c.args.list.now.items c.in-None.ensures c.requires.listed
