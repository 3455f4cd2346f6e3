use Rattle.ff_near.proofs.OneOutcome.{one_best, one_none, one_unfinished}
use Rattle.ff_near.proofs.sofar.Sofar.note.Goals as goal

pub returns-in_ok-push-in-Best-2 : goal.returns-in_ok-push-in-Best-2
returns-in_ok-push-in-Best-2 c = λ outcomes counted are. one_best outcomes c.args.outcome _ _ _ _ are c.in-Best.best c.in-Best.first c.in-Best.is _ c.in_ok-push-in-Best.ensures.items _ c.in_ok-push-in-Best-2.ensures.items

pub returns-in-None : goal.returns-in-None
returns-in-None c = λ outcomes counted are. one_none outcomes c.args.outcome _ _ _ _ are c.in-None.is c.args.k counted _ c.earlier-self.ensures

pub returns-in-Unfinished : goal.returns-in-Unfinished
returns-in-Unfinished c = λ outcomes counted are. one_unfinished outcomes c.args.outcome _ _ _ _ are c.in-Unfinished.is c.args.k counted _ c.earlier-self-in-Unfinished.ensures
