use Rattle.std.proofs.Common.{◌<◌, length, subst}
use Rattle.ff_types.specs.declared.limits.TheConstants.{MOST_BYTES}
use Rattle.ff_top.specs.declared.transfer.Input.{Input}
use Rattle.ff_top.specs.Transfer.{IsInput}
use Rattle.ff_top.specs.Writings.{text_of}
use Rattle.ff_top.proofs.Modes.{refused_drawing}
use Rattle.ff_top.proofs.top.prepare_lines.Goals as goal

pub returns-in_ok-refuse-in-Beyond-clause-answer : goal.returns-in_ok-refuse-in-Beyond-clause-answer
returns-in_ok-refuse-in-Beyond-clause-answer g c =
    let read = c.in_ok-bytes.ensures.input in
    let long : MOST_BYTES < length read.0 = subst (λ (i : Input). IsInput MOST_BYTES read.0 i) c.in-Beyond.is read.2 in (
      read.0,
      read.1,
      refused_drawing read.0 c.in_ok-refuse-in-Beyond.field-0.status (text_of c.in_ok-refuse-in-Beyond.field-0.writing) long c.in_ok-refuse-in-Beyond.ensures,
    )
