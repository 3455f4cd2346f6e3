use Rattle.std.proofs.Common.{◌≡◌, ℕ, length, ◌∙◌, ap, sym, subst, arith, Option, None, refl}
use borrow.Author.Count.{below_more}
use Rattle.ff_tables.specs.declared.orders.Order.{Order}
use Rattle.ff_tables.specs.Orders.{term_at, turn}
use Rattle.ff_tables.specs.Masks.{OpenIs}
use Rattle.ff_tables.specs.Forces.{agrees_below, Only, Knows}
use Rattle.ff_tables.proofs.Agreeing.{settles, some_rows, only_rows, turn_turn}
use Rattle.ff_tables.proofs.forcing.first_forced.Goals as goal

pub returns-in-Some : goal.returns-in-Some
returns-in-Some g c =
    let f : ℕ → Option Order = g.K.Known.known c.args.known.now in
    let ts = c.args.terms.now in
    let t = term_at ts c.loop-j.j in
    let o = c.in-Some.ensures (agrees_below ts f (length ts)) c.requires.rows in
    let back : turn t.flipped c.turned.result ≡ c.in-Some.value = ap (turn t.flipped) c.turned.ensures
    ∙ turn_turn t.flipped c.in-Some.value in
    record {
      at = c.loop-j.j;
      within = omega arith;
      var = refl;
      unknown = sym c.value.ensures ∙ o.0;
      only = subst (λ s. Only c.args.kind ts (Knows f) c.loop-j.j s) (sym back)
          (only_rows c.args.kind ts f c.loop-j.j c.in-Some.value o.1);
      some = some_rows c.args.kind ts f c.args.rows c.requires.rows c.requires.some;
      before = c.loop-j.invariant;
    }

pub loop-j-preserved : goal.loop-j-preserved
loop-j-preserved g c =
    let f : ℕ → Option Order = g.K.Known.known c.args.known.now in
    let ts = c.args.terms.now in
    below_more _ _ c.loop-j.invariant (settles c.args.kind ts f c.loop-j.j
    (subst (λ (z : Option Order). OpenIs c.args.kind (agrees_below ts f (length ts)) c.loop-j.j z None)
    c.value.ensures
    (subst (λ (z : Option Order). OpenIs c.args.kind (agrees_below ts f (length ts)) c.loop-j.j c.value.result z)
    c.in_default.is
    (c.open_value.ensures (agrees_below ts f (length ts)) c.requires.rows))))

pub returns : goal.returns
returns g c =
    let f : ℕ → Option Order = g.K.Known.known c.args.known.now in (
      some_rows c.args.kind c.args.terms.now f c.args.rows c.requires.rows c.requires.some,
      λ p l.
          c.loop-j.invariant p (omega arith),
    )
