use Rattle.std.proofs.Common.{◌≡◌, IfOk, List, Some, subst}
use Rattle.ff_whole.specs.declared.points.Pt.{Pt}
use Rattle.ff_types.specs.declared.patterns.EdgeEnds.{EdgeEnds}
use Rattle.ff_types.specs.declared.patterns.Mark.{Mark}
use Rattle.ff_read.specs.Spelling.{object_of}
use Rattle.ff_lined.specs.Texts.{pattern_data}
use Rattle.ff_lined.proofs.ReadBack.{ok_reads}
use Rattle.ff_lined.proofs.texts.pattern_text.Goals as goal

pub returns-in-Some-clause-read : goal.returns-in-Some-clause-read
returns-in-Some-clause-read c = ok_reads c.args.pattern.now c.in-Some.marks c.in-Some.is c.line_with.result
    (subst (λ (ms : List Mark). IfOk c.line_with.result (λ text. object_of text ≡ Some (pattern_data c.args.pattern.now.points c.args.pattern.now.edges ms))) c.as_slice-in-Some-2.ensures
    (subst (λ (es : List EdgeEnds). IfOk c.line_with.result (λ text. object_of text ≡ Some (pattern_data c.args.pattern.now.points es c.as_slice-in-Some-2.result.now))) c.as_slice-in-Some.ensures
    (subst (λ (ps : List Pt). IfOk c.line_with.result (λ text. object_of text ≡ Some (pattern_data ps c.as_slice-in-Some.result.now c.as_slice-in-Some-2.result.now))) c.as_slice.ensures c.line_with.ensures.read)))
