use Rattle.std.proofs.Common.{sym, ◌∙◌, ap, subst, length}
use Rattle.ff_types.specs.CaseFields.{AreStarts}
use Rattle.ff_types.proofs.Starts.{starts_from_fields, fields_from_starts}
use Rattle.ff_types.proofs.cases.are_fields.Goals as goal

pub returns : goal.returns
returns c = (
  (λ t. fields_from_starts c.args.system.now c.args.cites.now c.args.pairs.now c.args.starts.now
      (ap length (sym c.as_slice.ensures) ∙ c.if-as_slice.false ∙ ap length c.as_slice-2.ensures)
      (sym c.count.ensures.value ∙ c.if-count-system.false)
      (subst (λ s. AreStarts c.args.system.now.vars s) c.as_slice-3.ensures (c.are_starts.ensures.0 t))),
  (λ f. c.are_starts.ensures.1 (subst (λ s. AreStarts c.args.system.now.vars s) (sym c.as_slice-3.ensures) (starts_from_fields c.args.system.now c.args.cites.now c.args.pairs.now c.args.starts.now f))),
)
