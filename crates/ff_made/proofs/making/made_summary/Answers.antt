use Rattle.ff_made.proofs.Made.{few_of, made_summary}
use Rattle.ff_made.proofs.making.made_summary.Goals as goal

pub summary_of-requires : goal.summary_of-requires
summary_of-requires c = record { few = few_of _ _ _ _ c.requires }

pub returns : goal.returns
returns c = made_summary _ _ _ _ _ c.requires _ c.summary_of.ensures
