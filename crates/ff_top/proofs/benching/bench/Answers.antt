use Rattle.ff_top.proofs.Benched.{transcribed, refused_within}
use Rattle.ff_top.proofs.benching.bench.Goals as goal

pub returns-in-Ok : goal.returns-in-Ok
returns-in-Ok g c = transcribed c.args.bytes.now c.args.asked.budget _ _ _ c.requires.few c.in-Ok.ensures c.transcribe.ensures.status c.transcribe.ensures.text

pub returns-in-Err-Refused : goal.returns-in-Err-Refused
returns-in-Err-Refused g c = refused_within c.args.asked.budget c.args.bytes.now _ _ _ c.requires.few c.in-Err-Refused.ensures c.in-Err-Refused.field-0-is c.refuse.ensures
