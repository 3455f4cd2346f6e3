use Rattle.std.proofs.Common.{IsTrue, arith, length, ◌≡◌, ℕ, suc, ◌&&◌, Bool, map, List, add-one, ◌∙◌, ap, sym, subst, Option}
use borrow.Author.Count.{below_more}
use Rattle.ff_tables.specs.declared.orders.Order.{Order}
use Rattle.ff_tables.specs.Orders.{term_at, fits, turned_option, row_at}
use Rattle.ff_tables.specs.Rows.{rows_of}
use Rattle.ff_tables.specs.Masks.{bits}
use Rattle.ff_tables.specs.Forces.{agrees_below, Knows}
use Rattle.ff_tables.proofs.forcing.read.Goals as goal

pub loop-j-preserved : goal.loop-j-preserved
loop-j-preserved g c =
    let f : ℕ → Option Order = g.K.Known.known c.args.known.now in
    let ts = c.args.terms.now in
    let t = term_at ts c.loop-j.j in
    let e : c.narrowed-rows.result ≡ bits (map (agrees_below ts f (suc c.loop-j.j)) (rows_of c.args.kind)) =
    c.narrowed-rows.ensures (agrees_below ts f c.loop-j.j) c.loop-j.invariant.0
    ∙ ap (λ (o : Option Order). bits (map {A = List Order} {B = Bool} (λ row. agrees_below ts f c.loop-j.j row
    && fits (turned_option t.flipped o) (row_at row c.loop-j.j)) (rows_of c.args.kind))) c.value-value.ensures in
    let known : (h : IsTrue c.still_known-all_known.result) → (s : Order) × Knows f t.var s =
    λ h. let k = c.still_known-all_known.ensures h in (k.1.0, sym c.value-value.ensures ∙ k.1.1) in (
      subst (λ n. c.narrowed-rows.result ≡ bits (map (agrees_below ts f n) (rows_of c.args.kind)))
          (sym (add-one c.loop-j.j)) e,
      λ h. below_more _ _ (c.loop-j.invariant.1 (c.still_known-all_known.ensures h).0) (known h),
    )

pub returns-clause-rows : goal.returns-clause-rows
returns-clause-rows g c =
    let f : ℕ → Option Order = g.K.Known.known c.args.known.now in
    let ts = c.args.terms.now in
    let e : c.loop-j.j ≡ length ts = omega arith in
    subst (λ n. c.loop-j.rows ≡ bits (map (agrees_below ts f n) (rows_of c.args.kind))) e c.loop-j.invariant.0
