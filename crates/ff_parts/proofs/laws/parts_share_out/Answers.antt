use Rattle.ff_parts.proofs.Apart.{share_out, apart}
use Rattle.ff_parts.proofs.laws.parts_share_out.Goals as goal

pub returns-clause-share : goal.returns-clause-share
returns-clause-share c = share_out

pub returns-clause-apart : goal.returns-clause-apart
returns-clause-apart c = apart
