use Rattle.std.proofs.Common.{Vec, ℕ, ◌<◌, ◌∙◌, sym, ap, subst, length}
use Rattle.std.specs.declared.alloc.Global.{Global}
use Rattle.std.proofs.lemmas.Option.{get_or_from_slice_get}
use Rattle.ff_basics.proofs.NumberedLists.{length_in, read_at}
use Rattle.ff_types.specs.Pairs.{pair_at}
use Rattle.ff_trans.specs.Rows.{HoldBoth}
use Rattle.ff_trans.proofs.FoundTriples.{pair_below}
use Rattle.ff_trans.proofs.overlaps.take_pairs.Goals as goal

pub bounds-shared-h : goal.bounds-shared-h
bounds-shared-h c =
    let made = c.in_ok-share_next.ensures in
    subst (λ w. c.faces-f.result.1 < w) (sym made.long ∙ length_in c.share_next.new.shared)
    (subst (λ w. c.faces-f.result.1 < w) (sym c.requires.wide)
    (pair_below c.args.cells.now c.args.pairs.now c.requires.pairs (length c.args.row.now) c.loop-n.n c.faces-f.result.0 c.faces-f.result.1 c.requires.below c.faces-f.ensures.value).1)

pub take_pair-requires-clause-both : goal.take_pair-requires-clause-both
take_pair-requires-clause-both c =
    let cells = c.args.cells.now in let pairs = c.args.pairs.now in let n = c.loop-n.n in
    let made = c.in_ok-share_next.ensures in
    let f = (pair_at pairs n).0 in
    let h = c.faces-f.result.1 in
    let shared = c.share_next.new.shared in
    let e = get_or_from_slice_get pairs n c.faces-f.result (0, 0) c.faces-f.ensures.value in
    let low = subst (λ x. x < h) (sym (ap (λ (z : ℕ × ℕ). z.0) e)) c.faces-f.ensures.rising in
    let below = subst (λ w. h < w) (sym c.requires.wide)
    (pair_below cells pairs c.requires.pairs (length c.args.row.now) n c.faces-f.result.0 h c.requires.below c.faces-f.ensures.value).1 in
    let inside = subst (λ w. h < w) (sym made.long ∙ length_in shared) below in
    let read = read_at shared h c.index-shared-h.result c.as_slice.result.now inside c.index-shared-h.is (c.as_slice.ensures.value ∙ ap (λ (z : Vec ℕ Global). z.items) (sym c.index-shared-h.is)) in
    subst (λ k. HoldBoth cells f k c.as_slice.result.now) (sym (ap (λ (z : ℕ × ℕ). z.1) e))
    (subst (HoldBoth cells f h) (sym read) (made.each h low below))
