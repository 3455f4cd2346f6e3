use Rattle.std.proofs.Common.{ℕ, ◌≡◌, ◌<◌, sym, ap, subst, length}
use Rattle.std.proofs.lemmas.Result.{IfOk-weaker}
use Rattle.std.proofs.lemmas.Option.{get_or_from_slice_get}
use Rattle.ff_basics.specs.NumberedLists.{lists_in}
use Rattle.ff_types.specs.Pairs.{pair_at}
use Rattle.ff_trans.specs.Rows.{AreShared}
use Rattle.ff_trans.proofs.Indexes.{put_for}
use Rattle.ff_trans.proofs.FoundTriples.{pair_below}
use Rattle.ff_trans.proofs.overlaps.share_next.Goals as goal

pub returns-then-goes_on : goal.returns-then-goes_on
returns-then-goes_on c =
    let on = c.goes_on.ensures c.if-goes_on.true in
    subst (λ f. AreShared c.args.cells.now f (length c.args.lists.now) (lists_in c.args.shared.now)) on.2 (c.requires.before on.0 on.1)

pub bounds-lists-f : goal.bounds-lists-f
bounds-lists-f c = subst (λ w. c.faces-f.result.0 < w) (sym c.requires.wide)
    (pair_below c.args.cells.now c.args.pairs.now c.requires.pairs (length c.args.shared.now) c.args.n c.faces-f.result.0 c.faces-f.result.1 c.requires.below c.faces-f.ensures.value).0

pub share-requires-clause-list : goal.share-requires-clause-list
share-requires-clause-list c =
    let below = subst (λ w. c.faces-f.result.0 < w) (sym c.requires.wide)
    (pair_below c.args.cells.now c.args.pairs.now c.requires.pairs (length c.args.shared.now) c.args.n c.faces-f.result.0 c.faces-f.result.1 c.requires.below c.faces-f.ensures.value).0 in
    put_for c.args.cells.now (length c.args.cells.now) c.faces-f.result.0 c.args.lists.now c.index-lists-f.result c.as_slice.result.now c.requires.index below c.index-lists-f.is c.as_slice.ensures.value

pub returns : goal.returns
returns c =
    let cells = c.args.cells.now in let pairs = c.args.pairs.now in let n = c.args.n in
    let e : c.faces-f.result.0 ≡ (pair_at pairs n).0 = sym (ap (λ (z : ℕ × ℕ). z.0) (get_or_from_slice_get pairs n c.faces-f.result (0, 0) c.faces-f.ensures.value)) in
    IfOk-weaker c.share.result _ _ (λ u made. subst (λ f. AreShared cells f (length c.args.lists.now) (lists_in c.share.new.lists)) e
    (subst (λ w. AreShared cells c.faces-f.result.0 w (lists_in c.share.new.lists)) (sym c.requires.wide) made)) c.share.ensures
