use Rattle.std.proofs.Common.{arith, sym, ap, ◌∙◌, ◌≡◌, ◌<◌, pos, Some, lit≤}
use Rattle.std.proofs.lemmas.Int.{to_z_pos}
use Rattle.std.specs.Prelude.{option_map}
use Rattle.std.proofs.Common.{to_z}
use Rattle.std.specs.Int.{w128}
use Rattle.ff_whole.specs.declared.sizes.TheConstants.{PLACE_SIZE}
use Rattle.ff_log.proofs.NumberLemmas.{below_bound, plain_is}
use Rattle.ff_log.proofs.places.coordinate.Goals as goal

pub returns-in_err-wide_number-in-None : goal.returns-in_err-wide_number-in-None
returns-in_err-wide_number-in-None c =
    c.from_residual-in_err-wide_number-in-None.ensures ∙ ap (option_map pos) (sym c.in_err-wide_number-in-None.was ∙ c.wide_number-in-None.ensures)
    ∙ sym (plain_is PLACE_SIZE c.args.text.now c.in-None.ensures.cases)

pub returns-in_ok-wide_number-in-None : goal.returns-in_ok-wide_number-in-None
returns-in_ok-wide_number-in-None c =
    let is = sym c.wide_number-in-None.ensures ∙ c.in_ok-wide_number-in-None.was in
    let lt : c.in_ok-wide_number-in-None.field-0 < PLACE_SIZE = below_bound PLACE_SIZE _ c.args.text.now (lit≤ tt) is in
    let cast : to_z w128 c.in_ok-wide_number-in-None.field-0 ≡ pos c.in_ok-wide_number-in-None.field-0 = to_z_pos w128 _ (omega arith) in
    ap Some cast ∙ ap (option_map pos) (sym is) ∙ sym (plain_is PLACE_SIZE c.args.text.now c.in-None.ensures.cases)
