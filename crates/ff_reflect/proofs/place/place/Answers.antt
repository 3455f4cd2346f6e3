use Rattle.std.proofs.Common.{subst, List, ℕ}
use Rattle.ff_reflect.specs.Sheets.{paper_of}
use Rattle.ff_reflect.specs.Walked.{met_of}
use Rattle.ff_reflect.specs.Puts.{IsLaid}
use Rattle.ff_reflect.proofs.Assembly.{first_ring, drawing_near}
use Rattle.ff_reflect.proofs.Whole.{laid_stands}
use Rattle.ff_reflect.proofs.place.place.Goals as goal

pub loop-k-init : goal.loop-k-init
loop-k-init c =
    let r = c.requires.ready in
    let ring = first_ring (paper_of c.args.pattern.now c.args.faces.now) c.as_slice-2.result.now c.index-as_slice-0.result c.as_slice-3.result.now c.requires.some c.as_slice-2.ensures c.index-as_slice-0.is c.as_slice-3.ensures in
    laid_stands (paper_of c.args.pattern.now c.args.faces.now) (met_of c.args.tree.now) c.args.up.now c.lay.new.self r (drawing_near (paper_of c.args.pattern.now c.args.faces.now) r.has_faces)
    (subst (λ (vs : List ℕ). IsLaid c.args.pattern.now.points vs c.lay.new.self) ring c.lay.ensures)
