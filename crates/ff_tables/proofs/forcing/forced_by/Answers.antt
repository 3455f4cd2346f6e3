use Rattle.std.proofs.Common.{ℕ, Option, inl, arith}
use Rattle.ff_tables.specs.declared.orders.Order.{Order}
use Rattle.ff_tables.proofs.Agreeing.{none_rows, some_rows}
use Rattle.ff_tables.proofs.forcing.forced_by.Goals as goal

pub returns-then-reading-eq0 : goal.returns-then-reading-eq0
returns-then-reading-eq0 g c =
    let f : ℕ → Option Order = g.K.Known.known c.args.known.now in
    none_rows c.args.kind c.args.terms.now f c.read-reading.result.rows c.read-reading.ensures.rows
    c.if-reading-eq0.true

pub returns-then-reading : goal.returns-then-reading
returns-then-reading g c =
    let f : ℕ → Option Order = g.K.Known.known c.args.known.now in (
      some_rows c.args.kind c.args.terms.now f c.read-reading.result.rows c.read-reading.ensures.rows
          (omega (arith, c.if-reading-eq0.false)),
      λ p l. inl (c.read-reading.ensures.known c.if-reading.true p l),
    )
