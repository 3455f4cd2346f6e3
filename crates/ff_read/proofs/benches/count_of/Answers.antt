use Rattle.std.proofs.Common.{◌≤◌, ◌∙◌, arith, ap, length, map, sum_by}
use Rattle.std.proofs.lemmas.List.{length-map, take_all}
use Rattle.std.proofs.lemmas.List.Sums.{sum_by_more}
use Rattle.serde_json.specs.View.{view}
use Rattle.ff_read.specs.declared.benches.TheConstants.{MOST_VIEWERS}
use Rattle.ff_read.proofs.ScriptLists.{counts_fit, lengths_seen, short_at}
use Rattle.ff_read.proofs.benches.count_of.Goals as goal

pub overflow_add-count : goal.overflow_add-count
overflow_add-count c =
    let short = short_at c.args.viewers.now c.loop-v.v c.index-viewers-v.result c.requires.short.1 c.loop-v-test.true c.index-viewers-v.is in
    let same = ap (λ s. length s.now) c.index-viewers-v.is in
    let few : length c.args.viewers.now ≤ MOST_VIEWERS = omega (arith, c.requires.short.0, length-map c.args.viewers.now (λ s. map view s.now)) in
    let fits = counts_fit (length c.args.viewers.now) c.loop-v.v c.loop-v.count (length c.index-viewers-v.result.now) c.loop-v-test.true few c.loop-v.invariant.1 short in
    omega (arith, same, fits)

pub loop-v-preserved : goal.loop-v-preserved
loop-v-preserved c =
    let short = short_at c.args.viewers.now c.loop-v.v c.index-viewers-v.result c.requires.short.1 c.loop-v-test.true c.index-viewers-v.is in
    let same = ap (λ s. length s.now) c.index-viewers-v.is in
    let more = sum_by_more (λ s. length s.now) c.args.viewers.now c.loop-v.v c.index-viewers-v.result c.loop-v-test.true in
    (omega (arith, more, c.loop-v.invariant.0), omega (arith, same, short, c.loop-v.invariant.1))

pub returns : goal.returns
returns c = c.loop-v.invariant.0 ∙ ap (sum_by (λ s. length s.now)) (take_all c.loop-v.v c.args.viewers.now (omega (arith, c.loop-v-test.false))) ∙ lengths_seen c.args.viewers.now
