use Rattle.ff_top.proofs.Transcripts.{whole_transcript}
use Rattle.ff_top.proofs.benching.transcribe.Goals as goal

pub returns-clause-text : goal.returns-clause-text
returns-clause-text c = whole_transcript c.args.journal
