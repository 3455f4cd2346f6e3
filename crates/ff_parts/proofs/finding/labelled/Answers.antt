use Rattle.std.proofs.Common.{ℕ, List, ◌≡◌, ◌<◌, ◌≤◌, refl, arith, subst, sym, ap, slice_index, length}
use Rattle.ff_basics.specs.NumberedLists.{lists_in}
use Rattle.ff_propagate.specs.Facts.{value_at}
use Rattle.ff_propagate.specs.Parts.{AreParts}
use Rattle.ff_parts.specs.Marks.{AreMarks}
use Rattle.ff_parts.proofs.Classes.{found_parts, labels_within}
use Rattle.ff_parts.proofs.Gathered.{gathered}
use Rattle.ff_parts.proofs.Touching.{marks_within, found_touching}
use Rattle.ff_parts.proofs.finding.labelled.Goals as goal

pub gather-requires-clause-within : goal.gather-requires-clause-within
gather-requires-clause-within c v l =
    let r = labels_within c.args.system.now.vars c.args.system.now.constraints (value_at c.args.facts.now)
    c.args.labels.now c.requires.below.labelling v in
    subst (λ (xs : List ℕ). slice_index xs v ≤ c.len-many.result) (sym c.as_slice-part_of.ensures.value)
    (omega (arith, r, c.len-many.ensures))

pub gather-requires-2-clause-few : goal.gather-requires-2-clause-few
gather-requires-2-clause-few c = omega (
  arith,
  ap length c.as_slice.ensures.value,
  c.in_ok-marks.ensures.as_many,
  c.requires.few,
)

pub gather-requires-2-clause-within : goal.gather-requires-2-clause-within
gather-requires-2-clause-within c v l =
    let m = subst (λ (xs : List ℕ). AreMarks (value_at c.args.facts.now) xs c.args.system.now.constraints
    c.in_ok-marks.marks.items) c.as_slice-part_of.ensures.value c.in_ok-marks.ensures in
    let inside = subst (λ (xs : List ℕ). v < length xs) c.as_slice.ensures.value l in
    let r = marks_within c.args.system.now.vars c.args.system.now.constraints (value_at c.args.facts.now)
    c.args.labels.now c.in_ok-marks.marks.items c.requires.below.labelling m v inside in
    subst (λ (xs : List ℕ). slice_index xs v ≤ c.len-many.result) (sym c.as_slice.ensures.value)
    (omega (arith, r, c.len-many.ensures))

pub returns-clause-parts : goal.returns-clause-parts
returns-clause-parts c =
    let many : c.len-many.result ≡ length c.args.labels.now.firsts.items = omega (arith, c.len-many.ensures) in
    subst (λ (ls : List (List ℕ)). AreParts c.args.system.now.vars c.args.system.now.constraints
    (value_at c.args.facts.now) ls) (sym c.in_ok-parts.ensures.vars)
    (found_parts c.args.system.now.vars c.args.system.now.constraints (value_at c.args.facts.now)
    c.args.labels.now (lists_in c.in_ok-lists.lists.items) c.as_slice-part_of.result.now c.len-many.result
    c.requires.below c.as_slice-part_of.ensures.value many c.in_ok-lists.ensures)

pub returns-clause-touching : goal.returns-clause-touching
returns-clause-touching c =
    let value = value_at c.args.facts.now in
    let l = c.args.labels.now in
    let marks = c.in_ok-marks.marks.items in
    let many : c.len-many.result ≡ length l.firsts.items = omega (arith, c.len-many.ensures) in
    let m = subst (λ (xs : List ℕ). AreMarks value xs c.args.system.now.constraints marks)
    c.as_slice-part_of.ensures.value c.in_ok-marks.ensures in
    found_touching c.args.system.now.vars c.args.system.now.constraints value l marks c.args.system.now.fit
    c.requires.below m (lists_in c.in_ok-lists.lists.items) (lists_in c.in_ok-touching.touching.items)
    c.in_ok-parts.parts.items
    (gathered c.args.system.now.vars l.part_of.items c.as_slice-part_of.result.now
    (lists_in c.in_ok-lists.lists.items) c.len-many.result (length l.firsts.items)
    c.requires.below.labelling.wide c.as_slice-part_of.ensures.value many c.in_ok-lists.ensures)
    (gathered (length marks) marks c.as_slice.result.now (lists_in c.in_ok-touching.touching.items)
    c.len-many.result (length l.firsts.items) refl c.as_slice.ensures.value many c.in_ok-touching.ensures)
    c.in_ok-parts.ensures.vars c.in_ok-parts.ensures.touching
