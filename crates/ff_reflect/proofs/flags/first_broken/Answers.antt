use Rattle.std.proofs.Common.{◌≡◌, ◌∙◌, arith, sym, ap, subst, length, slice_get, slice_index_or, Some}
use Rattle.std.proofs.lemmas.List.{length-map}
use Rattle.std.proofs.lemmas.Bool.{false≢true}
use Rattle.std.proofs.lemmas.Option.{slice_get_within}
use Rattle.ff_types.specs.Placing.{Meeting, Breaks}
use Rattle.ff_reflect.specs.Trees.{IsBelow}
use Rattle.ff_reflect.specs.Walked.{meeting_of, met_of}
use Rattle.ff_reflect.proofs.Cases.{by_below}
use Rattle.ff_reflect.proofs.Turned.{met_get, broken_at}
use Rattle.ff_reflect.proofs.flags.first_broken.Goals as goal

pub is_broken-requires : goal.is_broken-requires
is_broken-requires c = subst (λ n. IsBelow n (length c.args.marks.now) (meeting_of (slice_index_or c.args.met.now c.loop-i.i (record { face = 0; edge = 0; across = 0 })))) (sym c.requires.flags)
    (c.requires.below c.loop-i.i _ (met_get c.args.met.now c.loop-i.i (record { face = 0; edge = 0; across = 0 }) c.loop-i-test.true))

pub returns-then-is_broken : goal.returns-then-is_broken
returns-then-is_broken c = broken_at (met_of c.args.met.now) c.args.marks.now c.args.up.now c.loop-i.i _ (met_get c.args.met.now c.loop-i.i (record { face = 0; edge = 0; across = 0 }) c.loop-i-test.true)
    (c.is_broken.ensures.0 c.if-is_broken.true) (λ j k l e. c.loop-i.invariant j k l e)

pub loop-i-preserved : goal.loop-i-preserved
loop-i-preserved c = λ j m l e b. by_below j c.loop-i.i (λ h. c.loop-i.invariant j m h e b) (λ h.
    let same : m ≡ meeting_of (slice_index_or c.args.met.now c.loop-i.i (record { face = 0; edge = 0; across = 0 })) =
    (let q : Some m ≡ Some (meeting_of (slice_index_or c.args.met.now c.loop-i.i (record { face = 0; edge = 0; across = 0 }))) = sym e ∙ ap (slice_get (met_of c.args.met.now)) (let i : j ≡ c.loop-i.i = omega (arith, h, l) in i) ∙ met_get c.args.met.now c.loop-i.i (record { face = 0; edge = 0; across = 0 }) c.loop-i-test.true in cc) in
    false≢true (sym c.if-is_broken.false ∙ c.is_broken.ensures.1 (subst (λ (z : Meeting). Breaks c.args.marks.now c.args.up.now z) same b)))

pub returns : goal.returns
returns c = λ i m e b. c.loop-i.invariant i m (let l = slice_get_within (met_of c.args.met.now) i m e in let n = length-map c.args.met.now meeting_of in let t = c.loop-i-test.false in omega (arith, l, n, t)) e b
