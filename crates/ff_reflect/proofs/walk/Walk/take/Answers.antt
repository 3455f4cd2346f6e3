use Rattle.std.proofs.Common.{◌∙◌, ◌<◌, [], ap, sym, subst, length, slice_index, take}
use Rattle.std.proofs.lemmas.List.{get_or_read}
use Rattle.std.specs.List.{filter_map}
use Rattle.ff_types.specs.Faces.{ring_at}
use Rattle.ff_types.specs.Inside.{steps}
use Rattle.ff_types.specs.Placing.{meeting_at}
use Rattle.ff_reflect.specs.Sheets.{paper_of}
use Rattle.ff_reflect.specs.Walked.{met_of}
use Rattle.ff_reflect.proofs.Taken.{step_more, ring_met, stays}
use Rattle.ff_reflect.proofs.walk.Walk.take.Goals as goal

pub step-requires-clause-face : goal.step-requires-clause-face
step-requires-clause-face c = stays (length c.args.faces.now.rings) c.args.self.now c.loop-i.self
    (filter_map (meeting_at c.args.face c.args.pattern.now.edges c.args.faces.now.sides) (take c.loop-i.i (steps c.as_slice-ring.result.now))) c.args.face c.requires.walk c.loop-i.invariant c.requires.face

pub loop-i-preserved : goal.loop-i-preserved
loop-i-preserved c = step_more (paper_of c.args.pattern.now c.args.faces.now) c.as_slice-ring.result.now c.args.face c.loop-i.i c.loop-i.self c.step.new.self (met_of c.args.self.now.met.items)
    c.loop-i.invariant (slice_index c.as_slice-ring.result.now c.next_place.result) c.loop-i-test.true (ap (slice_index c.as_slice-ring.result.now) c.next_place.ensures.value) c.in_ok-step.ensures

pub returns : goal.returns
returns c = ring_met (paper_of c.args.pattern.now c.args.faces.now) c.as_slice-ring.result.now c.args.face c.loop-i.i c.loop-i.self (met_of c.args.self.now.met.items)
    (c.as_slice-ring.ensures ∙ get_or_read c.as_slice.result.now c.args.face c.index-as_slice-face.result (subst (λ rs. c.args.face < length rs) (sym c.as_slice.ensures) c.requires.there) c.index-as_slice-face.is []
    ∙ ap (λ rs. ring_at rs c.args.face) c.as_slice.ensures) c.loop-i-test.false c.loop-i.invariant
