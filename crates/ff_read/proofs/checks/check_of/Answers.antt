use Rattle.std.proofs.Common.{◌∙◌, ap, arith, length, refl, sym}
use Rattle.serde_json.specs.View.{view}
use Rattle.ff_read.proofs.checks.check_of.Goals as goal

pub returns-then-as_slice-gt-MOST_PINS : goal.returns-then-as_slice-gt-MOST_PINS
returns-then-as_slice-gt-MOST_PINS c =
    let spelled = c.in_ok-pattern.ensures in (
      spelled.keys,
      c.in-Some-2.pins,
      c.in-Some-3.lines,
      c.in_ok-pattern.pattern,
      record {
        fold = view c.in-Some.fold.now;
        there = sym c.in-Some.ensures;
        keyed = spelled.keyed;
        are_pins = sym c.in_ok-pins.ensures ∙ c.in-Some-2.is;
        are_lines = sym c.in_ok-lines.ensures ∙ c.in-Some-3.is;
      },
      spelled.spelled,
      omega (arith, c.if-as_slice-gt-MOST_PINS.true, ap length c.as_slice.ensures),
      refl,
    )
