use Rattle.std.proofs.Common.{ap₂, subst, refl, arith, IsTrue}
use Rattle.ff_types.specs.Sheets.{sheet_of}
use Rattle.ff_types.specs.Borders.{is_on}
use Rattle.ff_edges.specs.Ways.{is_on_way}
use Rattle.ff_witness.specs.Witnessing.{place_at}
use Rattle.ff_witness.proofs.OnEdges.{one_to, all_of_them}
use Rattle.ff_witness.proofs.edges.are_on.Goals as goal

pub loop-k-preserved : goal.loop-k-preserved
loop-k-preserved c = one_to (is_on_way c.ends.result.0 c.ends.result.1) c.args.places.now c.loop-k.k c.loop-k.invariant
    (c.is_on_way.ensures.0 c.if-not-is_on_way.false)

pub returns : goal.returns
returns c =
    let g = sheet_of c.args.pattern.now c.args.faces.now c.args.folded.now in (
      (λ t. all_of_them (is_on g c.args.e) c.args.places.now (λ k l.
          subst IsTrue (ap₂ (λ p q. is_on_way p q (place_at c.args.places.now k)) c.ends.ensures.tail c.ends.ensures.head)
          (c.loop-k.invariant k (let e = c.loop-k-test.false in omega (arith, l, e))))),
      (λ t. refl),
    )
