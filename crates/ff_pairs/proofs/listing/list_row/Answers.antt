use Rattle.std.proofs.Common.{◌+◌, ◌<◌, arith, sym, ap, ◌∙◌, subst, true≢false}
use Rattle.ff_pairs.specs.Tables.{IsListedTo}
use Rattle.ff_pairs.proofs.Rows.{row_begins, row_ends, skip, take}
use Rattle.ff_pairs.proofs.listing.list_row.Goals as goal
use Rattle.ff_pairs.proofs.listing.list_row.Goals.{then-table-row+in_ok-push, else-table-row}

pub loop-h-init : goal.loop-h-init
loop-h-init c = record { listed = row_begins c.args.width c.args.table.now c.args.f c.args.list.now.items c.requires.listed; after = omega arith }

pub loop-h-preserved : goal.loop-h-preserved
loop-h-preserved c =
    let w = c.args.width in let table = c.args.table.now in let f = c.args.f in let h = c.loop-h.h in
    let inv = c.loop-h.invariant in
    let after = inv.after in
    let far = c.requires.reach.small f in
    let within : h < w = omega (arith, far, c.loop-h-test.true) in
    record {
      listed = elim c.if-table-row.branch [
        | then-table-row+in_ok-push b ↦ subst (λ xs. IsListedTo w table f (h + 1) xs) (sym (ap (λ (v : _). v.items) b.list-is ∙ b.in_ok-push.ensures.items)) (take w table f h c.loop-h.list.items after (c.requires.within, within, b.if-table-row.true) inv.listed)
        | else-table-row b ↦ subst (λ (v : _). IsListedTo w table f (h + 1) v.items) (sym b.list-is) (skip w table f h c.loop-h.list.items (λ t. true≢false (sym t ∙ b.if-table-row.false)) inv.listed)
      ];
      after = omega (arith, after);
    }

pub returns : goal.returns
returns c =
    let r = c.requires.reach in let f = c.args.f in
    row_ends c.args.width c.args.table.now f c.loop-h.list.items c.loop-h.h
    (λ b m. let p = r.past f b m.0 m.1 m.2 in omega (arith, p, c.loop-h-test.false)) c.loop-h.invariant.listed
