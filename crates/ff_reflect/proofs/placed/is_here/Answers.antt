use Rattle.std.proofs.Common.{◌∙◌, sym}
use Rattle.ff_whole.proofs.Bounds.{read, multiple}
use mir.Syntax.{w64, w128}
use Rattle.ff_reflect.proofs.placed.is_here.Goals as goal

pub returns-then-is_times : goal.returns-then-is_times
returns-then-is_times c =
    let i = c.requires.image in
    let p = c.requires.near in
    let n = read w64 i.n_below tt in
    let x = multiple n (read w64 p.x_below tt) in
    let y = multiple n (read w64 p.y_below tt) in
    let ix = read w128 i.x_below tt in
    let iy = read w128 i.y_below tt in (
      (λ t. record { x = sym x.is ∙ c.is_times.ensures.0 c.if-is_times.true ∙ ix.is; y = sym y.is ∙ c.is_times-then-is_times.ensures.0 t ∙ iy.is }),
      (λ h. c.is_times-then-is_times.ensures.1 (y.is ∙ h.y ∙ sym iy.is)),
    )
