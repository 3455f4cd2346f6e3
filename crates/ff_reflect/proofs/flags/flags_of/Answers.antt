use Rattle.std.proofs.Common.{arith, sym, subst, length, slice_index_or}
use Rattle.std.proofs.lemmas.List.{length-map}
use Rattle.ff_reflect.specs.Trees.{IsBelow}
use Rattle.ff_reflect.specs.Walked.{meeting_of, met_of}
use Rattle.ff_reflect.proofs.Turned.{met_get, turned_more, turned_all}
use Rattle.ff_reflect.proofs.flags.flags_of.Goals as goal

pub turn-requires : goal.turn-requires
turn-requires c = let t = c.loop-i.invariant in
    subst (λ n. IsBelow n (length c.args.marks.now) (meeting_of (slice_index_or c.args.tree.now c.loop-i.i (record { face = 0; edge = 0; across = 0 })))) (sym t.as_many)
    (c.requires.below c.loop-i.i _ (met_get c.args.tree.now c.loop-i.i (record { face = 0; edge = 0; across = 0 }) c.loop-i-test.true))

pub loop-i-preserved : goal.loop-i-preserved
loop-i-preserved c =
    let there = met_get c.args.tree.now c.loop-i.i (record { face = 0; edge = 0; across = 0 }) c.loop-i-test.true in
    let b = c.requires.below c.loop-i.i _ there in
    turned_more c.args.faces c.args.marks.now (met_of c.args.tree.now) c.loop-i.up.items c.turn.new.up.items c.loop-i.i _ c.requires.grows c.loop-i.invariant there b.across c.turn.ensures

pub returns : goal.returns
returns c = turned_all c.args.faces c.args.marks.now (met_of c.args.tree.now) c.loop-i.up.items c.loop-i.i c.loop-i.invariant
    (let n = length-map c.args.tree.now meeting_of in let t = c.loop-i-test.false in omega (arith, n, t))
