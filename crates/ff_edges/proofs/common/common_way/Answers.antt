use Rattle.std.proofs.Common.{◌<ℤ◌, ◌≤ℤ◌, sym, ◌∙◌, ℤ}
use Rattle.std.proofs.lemmas.Bool.{false≢true}
use Rattle.std.proofs.lemmas.Int.{by_lt_z}
use Rattle.ff_whole.specs.Points.{turn}
use Rattle.ff_whole.specs.Turning.{rank}
use Rattle.ff_edges.proofs.CommonWays as ways
use Rattle.ff_edges.proofs.common.common_way.Goals as goal

pub returns-then-not-are_on_line : goal.returns-then-not-are_on_line
returns-then-not-are_on_line c = ways.off_line c.args.a c.args.b c.args.c c.args.d c.requires.apart c.requires.other_apart
    (ways.either_off (turn c.args.a c.args.b c.args.c) (turn c.args.a c.args.b c.args.d) (λ e. false≢true (sym c.if-not-are_on_line.true ∙ c.are_on_line.ensures.1 e)))

pub returns-then-is_before : goal.returns-then-is_before
returns-then-is_before c =
    let on = c.are_on_line.ensures.0 c.if-not-are_on_line.false in
    ways.common_way c.args.a c.args.b c.args.c c.args.d c.earlier.result c.later.result c.earlier-2.result c.later-2.result c.later-p.result c.earlier-q.result
    c.requires.apart c.requires.other_apart on.0 on.1
    (ways.span_of c.args.a c.args.b c.earlier.result c.later.result c.requires.a_near c.requires.b_near c.requires.apart c.earlier.ensures c.later.ensures)
    (ways.span_of c.args.c c.args.d c.earlier-2.result c.later-2.result c.requires.c_near c.requires.d_near c.requires.other_apart c.earlier-2.ensures c.later-2.ensures)
    c.later-p.ensures c.earlier-q.ensures c.later-p.ensures.near c.earlier-q.ensures.near (c.is_before.ensures.0 c.if-is_before.true)

pub returns-else-is_before : goal.returns-else-is_before
returns-else-is_before c =
    let on = c.are_on_line.ensures.0 c.if-not-are_on_line.false in
    ways.no_way c.args.a c.args.b c.args.c c.args.d c.earlier.result c.later.result c.earlier-2.result c.later-2.result c.later-p.result c.earlier-q.result
    c.requires.apart c.requires.other_apart on.0 on.1
    (ways.span_of c.args.a c.args.b c.earlier.result c.later.result c.requires.a_near c.requires.b_near c.requires.apart c.earlier.ensures c.later.ensures)
    (ways.span_of c.args.c c.args.d c.earlier-2.result c.later-2.result c.requires.c_near c.requires.d_near c.requires.other_apart c.earlier-2.ensures c.later-2.ensures)
    c.later-p.ensures c.earlier-q.ensures (not_before (rank c.later-p.result) (rank c.earlier-q.result) (λ l. false≢true (sym c.if-is_before.false ∙ c.is_before.ensures.1 l)))
  where
    not_before : (x y : ℤ) → ((x <ℤ y) → ⊥) → y ≤ℤ x
    not_before x y n = by_lt_z x y (λ l. absurd (n l)) (λ l. l)
