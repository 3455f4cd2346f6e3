use Rattle.std.proofs.Common.{◌≡◌, List, get_or, slice_get, sym, ap, ◌∙◌, Some}
use Rattle.std.proofs.lemmas.Option.{slice_get-get_or}
use Rattle.ff_pages.specs.declared.pages.Pages.{Pages}
use Rattle.ff_desk.proofs.Ahead.{open_told}
use Rattle.ff_desk.proofs.laid.Laid.is_open.Goals as goal

pub returns-then-marks-p : goal.returns-then-marks-p
returns-then-marks-p c =
    let q = c.index.result.now in
    let list = c.args.self.now in
    let is : q ≡ get_or list c.args.p q = c.index.ensures ∙ ap (λ (xs : List Pages). get_or xs c.args.p q) c.self.view_is in
    let at : slice_get list c.args.p ≡ Some q = slice_get-get_or list c.args.p q c.requires.there ∙ ap Some (sym is) in
    open_told c.args.case.now.system.vars c.args.case.now.system.constraints list c.args.marks.now c.args.p q c.is_closed.result at (c.requires.stands c.args.p q at) c.if-marks-p.true c.is_closed.ensures
