use Rattle.std.proofs.Common.{◌<◌, ◌+◌, ◌-◌, ◌≡◌, ◌∙◌, length, subst, sym, arith, get_or}
use Rattle.std.proofs.lemmas.List.{get_or_default}
use Rattle.ff_cells.specs.declared.border.Border.{Border}
use Rattle.ff_cells.specs.declared.bars.Bar.{Bar}
use Rattle.ff_cells.specs.Next.{IsNext}
use Rattle.ff_cells.proofs.Nexts.{next_first, next_all, next_same, next_nearer}
use Rattle.ff_cells.proofs.sweep.next_border.Goals as goal
use Rattle.ff_cells.proofs.sweep.next_border.Goals.{in-Some, in_default}

pub loop-i-init : goal.loop-i-init
loop-i-init c left hl up h = next_first left c.args.limit.place c.args.v.now h

pub loop-i-preserved : goal.loop-i-preserved
loop-i-preserved c left hl up h =
    let v = c.args.v.now in
    let i = c.loop-i.i in
    let low = c.index-v-i.result in
    let high = c.index-v-i-in-loop-i.result in
    let limit = c.args.limit in
    let right = c.loop-i.right in
    let one = c.loop-i.auto.i in
    let lt : i < length v = c.loop-i-test.true in
    let lo : (d : Bar) → low ≡ get_or v (i - 1) d = (λ d. c.index-v-i.is
    ∙ get_or_default v (i - 1) low d (omega arith)) in
    let hi : (d : Bar) → high ≡ get_or v i d = (λ d. c.index-v-i-in-loop-i.is ∙ get_or_default v i high d lt)
    in
    let so = c.loop-i.invariant left hl up h in
    elim c.match-crossing.branch [
      | in-Some w ↦ subst (λ (b : Border). IsNext left limit.place v (i + 1) b.place) (sym w.right-is)
          (next_nearer left limit.place v i right.place w.in-Some.m.place low high one lt lo hi hl
          right.ok.positive limit.ok.positive w.in-Some.m.ok.positive up so w.in-Some.ensures)
      | in_default w ↦ subst (λ (b : Border). IsNext left limit.place v (i + 1) b.place) (sym w.right-is)
          (next_same left limit.place v i right.place low high one lt lo hi hl right.ok.positive up so
          w.in_default.ensures)
    ]

pub returns : goal.returns
returns c left hl up h = next_all left c.args.limit.place c.args.v.now c.loop-i.i c.loop-i.right.place
    c.loop-i-test.false (c.loop-i.invariant left hl up h)
