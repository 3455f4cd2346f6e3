use Rattle.std.proofs.Common.{ℕ, ◌≡◌, ◌+◌, ◌-◌, ◌<◌, List, [], length, get_or, arith, sym, ap, subst, ◌∙◌, ◌↔◌, ◌⊎◌, inl, inr, pos, ◌<ℤ◌}
use Rattle.std.proofs.lemmas.List.{get_or_default}
use Rattle.std.specs.List.{Contains}
use Rattle.ff_cells.specs.Sheet.{IsUnder}
use Rattle.ff_cells.specs.declared.bars.Bar.{Bar}
use Rattle.ff_cells.specs.Next.{IsOpenAfter}
use Rattle.std.specs.List.Sorted.{IsStrictlyIncreasing}
use Rattle.ff_whole.specs.declared.places.Place.{Place}
use Rattle.ff_whole.specs.declared.lines.Line.{Line}
use Rattle.ff_cells.specs.Gap.{gap}
use Rattle.ff_cells.specs.Emits.{OpensAt, IsCellAt, HasNone}
use Rattle.ff_cells.proofs.Emitting.{none_open, passed, Emitted, emit_start, emit_none, emit_one, none_of_empty, none_of_same, empty_of_test, some_of_test}
use Rattle.ff_cells.proofs.slab.slab.Goals as goal
use Rattle.ff_cells.proofs.slab.slab.Goals.{then-i-gt0+then-not-is_empty+in-Some+in_ok-add, then-i-gt0+then-not-is_empty+in_default, else-i-gt0, else-i-gt0-via-then-i-gt0+else-not-is_empty, else-i-gt0-via-else-i-gt0}

opens_of : (left right top : Place) (k l : Line) → OpensAt left right k l top
    → (pos 0 <ℤ gap k l left) ⊎ (pos 0 <ℤ gap k l right)
opens_of left right top k l (inl (e, o)) = inl o
opens_of left right top k l (inr (e, o)) = inr o

pub opening-requires : goal.opening-requires
opening-requires c =
    let v = c.args.v.now in let i = c.loop-i.i in
    let left = c.args.left.now.place in let right = c.args.right.now.place in
    let low = c.index-v-i.result in let high = c.index-v-i-then-not-is_empty.result in
    let lt : i < length v = c.loop-i-test.true in
    let one : 0 < i = c.if-i-gt0.true in
    subst (λ (b : Bar). IsUnder left right b.line high.line) (sym c.index-v-i.is)
    (subst (λ (b : Bar). IsUnder left right (get_or v (i - 1) low).line b.line)
    (get_or_default v i low high lt ∙ sym c.index-v-i-then-not-is_empty.is)
    (c.requires (i - 1) i low (omega arith) lt))

empty : (v : List Bar) (xs : List ℕ) → xs ≡ [] → (f : ℕ) → Contains xs f ↔ IsOpenAfter v 0 f
empty v xs e f = (λ m. absurd (no m), λ o. absurd (none_open v f o))
  where
    no : Contains xs f → ⊥
    no (k, lt, q) = let l : length xs ≡ 0 = ap length e in omega arith

pub loop-i-init : goal.loop-i-init
loop-i-init c = record {
  rising = rising;
  opened = empty c.args.v.now c.new-faces.result.items
      c.new-faces.ensures.items;
  emitted = emit_start c.args.v.now c.args.left.now.place c.args.right.now.place
      c.args.found.now;
}
  where
    rising : (k : ℕ) → k + 1 < length c.new-faces.result.items
        → get_or c.new-faces.result.items k 0 < get_or c.new-faces.result.items (k + 1) 0
    rising k lt = let l : length c.new-faces.result.items ≡ 0 = ap length c.new-faces.ensures.items in
        absurd (omega arith)

before : (v : List Bar) (i k : ℕ) (low : Bar) → i < length v → k + 1 ≡ i → low ≡ get_or v (i - 1) low
    → get_or v k low ≡ low
before v i k low lt e h = let same : k ≡ i - 1 = omega arith in ap (λ j. get_or v j low) same ∙ sym h

pub loop-i-preserved : goal.loop-i-preserved
loop-i-preserved c =
    let v = c.args.v.now in let i = c.loop-i.i in
    let left = c.args.left.now.place in let right = c.args.right.now.place in
    let xs = c.loop-i.faces.items in
    let start = c.args.found.now in
    let bar = c.index-v-i-in-loop-i.result in
    let lt : i < length v = c.loop-i-test.true in
    let inv = c.loop-i.invariant in
    record {
      rising = c.in_ok-pass.ensures.rising;
      opened = passed v i bar lt (sym c.index-v-i-in-loop-i.is) xs c.pass.new.faces.items inv.opened
          c.in_ok-pass.ensures.members;
      emitted = elim c.if-i-gt0.branch [
        | then-i-gt0+then-not-is_empty+in-Some+in_ok-add w ↦
            (let made = w.in_ok-add.ensures in
            let gap = made.1 in
            let some : 0 < length xs = some_of_test _ (length xs) w.is_empty.result c.loop-i.faces.ok.0
            w.is_empty.ensures w.if-not-is_empty.true in
            let at : IsCellAt v left right i made.0 = record {
              low = w.index-v-i.result;
              high = w.index-v-i-then-not-is_empty.result;
              within = lt;
              first = w.if-i-gt0.true;
              low_is = λ k e. before v i k w.index-v-i.result lt e w.index-v-i.is;
              high_is = sym w.index-v-i-then-not-is_empty.is;
              opens = opens_of _ _ _ _ _ w.in-Some.ensures;
              low_left = gap.low_left;
              low_right = gap.low_right;
              top = gap.top;
              at_is = gap.at_is;
              corners = gap.corners;
              rising = subst IsStrictlyIncreasing (sym gap.faces_are) inv.rising;
              some = subst (λ fs. 0 < length fs) (sym gap.faces_are) some;
              faces = subst (λ fs. (f : ℕ) → Contains fs f ↔ IsOpenAfter v i f) (sym gap.faces_are) inv.opened;
            } in
            subst (λ (z : _). Emitted v left right (i + 1) start z) (sym w.found-is)
            (emit_one v left right i start c.loop-i.found w.add.new.found made.0 inv.emitted made.2 at))
        | then-i-gt0+then-not-is_empty+in_default w ↦
            (let n = none_of_same v left right i w.index-v-i.result w.index-v-i-then-not-is_empty.result lt
            (λ k e. before v i k w.index-v-i.result lt e w.index-v-i.is)
            (sym w.index-v-i-then-not-is_empty.is) w.in_default.ensures in
            subst (λ (z : _). Emitted v left right (i + 1) start z) (sym w.found-is)
            (emit_none v left right i start c.loop-i.found inv.emitted n))
        | else-i-gt0 w ↦
            (let none : HasNone v left right i = elim w.else-i-gt0.branch [
              | else-i-gt0-via-then-i-gt0+else-not-is_empty u ↦ none_of_empty v left right i xs inv.opened
                  (empty_of_test _ (length xs) u.is_empty.result c.loop-i.faces.ok.0 u.is_empty.ensures
                  u.if-not-is_empty.false)
              | else-i-gt0-via-else-i-gt0 u ↦ (let z = u.if-i-gt0.false in inl (omega arith))
            ] in
            subst (λ (z : _). Emitted v left right (i + 1) start z) (sym w.found-is)
            (emit_none v left right i start c.loop-i.found inv.emitted none))
      ];
    }
