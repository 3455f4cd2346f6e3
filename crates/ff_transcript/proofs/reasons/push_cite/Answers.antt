use Rattle.ff_transcript.proofs.reasons.push_cite.Goals as goal

pub returns-in-TacoFace : goal.returns-in-TacoFace
returns-in-TacoFace c = rw c.in-TacoFace.is c.push_beside.ensures

pub returns-in-TacoEdge : goal.returns-in-TacoEdge
returns-in-TacoEdge c = rw c.in-TacoEdge.is c.push_beside-in-TacoEdge.ensures
