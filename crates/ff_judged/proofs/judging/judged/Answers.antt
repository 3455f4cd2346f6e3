use Rattle.ff_judged.proofs.Refuting.{is_judged}
use Rattle.ff_judged.proofs.judging.judged.Goals as goal

pub returns : goal.returns
returns c = is_judged _ c.in_ok-input.input c.in_ok-sheet.sheet.faces c.in_ok-sheet.sheet.folded _ c.accepted_logs_refute.ensures
    (record { within = c.requires; read = c.in_ok-input.ensures.read; folds = c.in_ok-sheet.ensures.made }) c.in_ok-judgement_of.ensures
