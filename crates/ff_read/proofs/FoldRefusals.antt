-- Why a crease pattern isn't read, by the lists under its keys.
use Rattle.std.proofs.Common.{◌≡◌, refl, subst}
use Rattle.serde_json.specs.Data.{Data}
use Rattle.ff_types.specs.declared.patterns.Pattern.{Pattern}
use Rattle.ff_types.specs.declared.refusals.Key.{Key}
use Rattle.ff_types.specs.declared.refusals.No.{No}
use Rattle.ff_types.specs.declared.refusals.No.TheVariants as no
use Rattle.ff_types.specs.declared.refusals.Refusal.{Refusal}
use Rattle.ff_types.specs.declared.refusals.Refusal.TheVariants.{TooLong, NotJson, BadKey, BadVertex, FarVertex, BadEdge, BadMark, SamePoint, Crossing, Loose, Rim, Pinch, Reflex, Enclosed, Apart, Parity, Inconsistent, Oversized, TooMany, BadScript, BadFaces, BadOrder, BadChoice, BadNear, BadLine, OffGrid, Overlap}
use Rattle.ff_read.specs.Spelling.{Keys, IsKeyed, AreSpelled}
use Rattle.ff_read.specs.Refused.{IsNoKey, RefusesFold, RefusesItems, RefusesKey}
use Rattle.ff_read.proofs.Outcomes.{one_value}
use Rattle.ff_read.proofs.OneReading.{key_or_keys, same_keys}

-- with other lists under the same keys
Elsewhere : Data → Refusal → Type 0
Elsewhere d r = (k : Keys) × IsKeyed d k × RefusesItems k r

here : (d : Data) (k : Keys) → IsKeyed d k → (r : Refusal) → Elsewhere d r → RefusesItems k r
unfolding Elsewhere
here d k keyed r h = subst (λ (x : Keys). RefusesItems x r) (same_keys d h.0 k h.1 keyed) h.2

-- where the keys are there an item is why
pub items_refused : (d : Data) (k : Keys) → IsKeyed d k → (r : Refusal) → RefusesFold d r → RefusesItems k r
unfolding Elsewhere
items_refused d k keyed (BadKey q) h = absurd (key_or_keys d q k h keyed)
items_refused d k keyed TooLong h = here d k keyed TooLong h
items_refused d k keyed NotJson h = here d k keyed NotJson h
items_refused d k keyed (BadVertex v) h = here d k keyed (BadVertex v) h
items_refused d k keyed (FarVertex v) h = here d k keyed (FarVertex v) h
items_refused d k keyed (BadEdge e) h = here d k keyed (BadEdge e) h
items_refused d k keyed (BadMark e) h = here d k keyed (BadMark e) h
items_refused d k keyed (SamePoint v) h = here d k keyed (SamePoint v) h
items_refused d k keyed (Crossing e q) h = here d k keyed (Crossing e q) h
items_refused d k keyed (Loose v) h = here d k keyed (Loose v) h
items_refused d k keyed (Rim e) h = here d k keyed (Rim e) h
items_refused d k keyed (Pinch v) h = here d k keyed (Pinch v) h
items_refused d k keyed (Reflex v) h = here d k keyed (Reflex v) h
items_refused d k keyed (Enclosed v) h = here d k keyed (Enclosed v) h
items_refused d k keyed (Apart f) h = here d k keyed (Apart f) h
items_refused d k keyed (Parity e) h = here d k keyed (Parity e) h
items_refused d k keyed (Inconsistent v) h = here d k keyed (Inconsistent v) h
items_refused d k keyed (Oversized v) h = here d k keyed (Oversized v) h
items_refused d k keyed (TooMany w n) h = here d k keyed (TooMany w n) h
items_refused d k keyed (BadScript w n) h = here d k keyed (BadScript w n) h
items_refused d k keyed (BadFaces i) h = here d k keyed (BadFaces i) h
items_refused d k keyed (BadOrder i) h = here d k keyed (BadOrder i) h
items_refused d k keyed (BadChoice i) h = here d k keyed (BadChoice i) h
items_refused d k keyed (BadNear i) h = here d k keyed (BadNear i) h
items_refused d k keyed (BadLine i) h = here d k keyed (BadLine i) h
items_refused d k keyed (OffGrid i j) h = here d k keyed (OffGrid i j) h
items_refused d k keyed (Overlap i j) h = here d k keyed (Overlap i j) h

-- a call that reads the keys alone names one of them
abbrev pub KeyRefused : Data → No → Type 0
KeyRefused d n = (k : Key) × RefusesKey d k × (n ≡ no.Refused (BadKey k))

pub key_refused : (d : Data) (n : No) → IsNoKey d n → KeyRefused d n
key_refused d (no.Refused (BadKey k)) h = (k, h, refl)
key_refused d (no.Refused TooLong) h = absurd h
key_refused d (no.Refused NotJson) h = absurd h
key_refused d (no.Refused (BadVertex v)) h = absurd h
key_refused d (no.Refused (FarVertex v)) h = absurd h
key_refused d (no.Refused (BadEdge e)) h = absurd h
key_refused d (no.Refused (BadMark e)) h = absurd h
key_refused d (no.Refused (SamePoint v)) h = absurd h
key_refused d (no.Refused (Crossing e k)) h = absurd h
key_refused d (no.Refused (Loose v)) h = absurd h
key_refused d (no.Refused (Rim e)) h = absurd h
key_refused d (no.Refused (Pinch v)) h = absurd h
key_refused d (no.Refused (Reflex v)) h = absurd h
key_refused d (no.Refused (Enclosed v)) h = absurd h
key_refused d (no.Refused (Apart x)) h = absurd h
key_refused d (no.Refused (Parity e)) h = absurd h
key_refused d (no.Refused (Inconsistent v)) h = absurd h
key_refused d (no.Refused (Oversized v)) h = absurd h
key_refused d (no.Refused (TooMany w n)) h = absurd h
key_refused d (no.Refused (BadScript w n)) h = absurd h
key_refused d (no.Refused (BadFaces i)) h = absurd h
key_refused d (no.Refused (BadOrder i)) h = absurd h
key_refused d (no.Refused (BadChoice i)) h = absurd h
key_refused d (no.Refused (BadNear i)) h = absurd h
key_refused d (no.Refused (BadLine i)) h = absurd h
key_refused d (no.Refused (OffGrid i j)) h = absurd h
key_refused d (no.Refused (Overlap i j)) h = absurd h
key_refused d no.NoMemory h = absurd h

-- the same lists spell one pattern
pub one_spelled : (k : Keys) (p q : Pattern) → AreSpelled k p → AreSpelled k q → (p.points ≡ q.points) × (p.edges ≡ q.edges) × (p.marks ≡ q.marks)
one_spelled k p q a b = (one_value _ p.points q.points a.points b.points, one_value _ p.edges q.edges a.edges b.edges, one_value _ p.marks q.marks a.marks b.marks)
