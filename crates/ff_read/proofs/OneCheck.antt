-- Bytes come to one input of `check` or to one refusal.
use Rattle.std.proofs.Common.{◌≡◌, ◌∙◌, ◌⊎◌, inl, inr, ℕ, ◌<◌, ◌≤◌, List, length, Option, None, Some, arith, refl, sym, ap, subst}
use Rattle.std.proofs.lemmas.Option.{none-some, same_Some}
use Rattle.ff_basics.proofs.Numbers.{at_most_or}
use Rattle.serde_json.specs.Data.{Data}
use Rattle.ff_types.specs.declared.patterns.Pattern.{Pattern}
use Rattle.ff_types.specs.declared.pins.Pin.{Pin}
use Rattle.ff_types.specs.declared.refusals.Key.{Key}
use Rattle.ff_types.specs.declared.refusals.Key.TheVariants as key
use Rattle.ff_types.specs.declared.refusals.No.{No}
use Rattle.ff_types.specs.declared.refusals.No.TheVariants as no
use Rattle.ff_types.specs.declared.refusals.Refusal.{Refusal}
use Rattle.ff_types.specs.declared.refusals.Refusal.TheVariants.{TooLong, NotJson, BadKey, BadVertex, FarVertex, BadEdge, BadMark, SamePoint, Crossing, Loose, Rim, Pinch, Reflex, Enclosed, Apart, Parity, Inconsistent, Oversized, TooMany, BadScript, BadFaces, BadOrder, BadChoice, BadNear, BadLine, OffGrid, Overlap}
use Rattle.ff_types.specs.declared.refusals.What.TheVariants as what
use Rattle.ff_read.specs.declared.checks.CheckInput.{CheckInput}
use Rattle.ff_read.specs.declared.checks.TheConstants.{MOST_PINS}
use Rattle.ff_read.specs.Spelling.{Keys, IsKeyed, AreSpelled, object_of}
use Rattle.ff_read.specs.Refused.{IsNoFold, IsNoKey, RefusesKey, RefusesItems, RefusesFold}
use Rattle.ff_read.specs.Checks.{HasMembers, IsCheckOf, IsCheck, IsNoCheckOf, RefusesCheck, RefusesInput, RefusesMember, fold_in, lines_in, pins_in}
use Rattle.ff_read.specs.Readings.{CheckIsOne}
use Rattle.ff_read.proofs.Outcomes.{one_out, one_value}
use Rattle.ff_read.proofs.FoldRefusals.{items_refused, key_refused, one_spelled}
use Rattle.ff_read.proofs.OneReading.{no_value, same_keys, one_key, key_or_keys, keys_out, spelled_out, refused_out, object_out}

-- ---- the outcomes, stage by stage; None where an input is read

abbrev CountOut : List Pin → Option Refusal → Type 0
CountOut ps r = ((MOST_PINS < length ps) × (r ≡ Some (TooMany what.Pins MOST_PINS))) ⊎ ((length ps ≤ MOST_PINS) × (r ≡ None))

abbrev ItemsOut : Keys → List Pin → Option Refusal → Type 0
ItemsOut k ps r = ((q : Refusal) × RefusesItems k q × (r ≡ Some q)) ⊎ ((p : Pattern) × AreSpelled k p × CountOut ps r)

abbrev LogOut : Data → Keys → List Pin → Option Refusal → Type 0
LogOut d k ps r = ((lines_in d ≡ None) × (r ≡ Some (BadKey key.Log))) ⊎ ((ls : List (List ℕ)) × (lines_in d ≡ Some ls) × ItemsOut k ps r)

abbrev PinsOut : Data → Keys → Option Refusal → Type 0
PinsOut d k r = ((pins_in d ≡ None) × (r ≡ Some (BadKey key.Pins))) ⊎ ((ps : List Pin) × (pins_in d ≡ Some ps) × LogOut d k ps r)

abbrev FoldOut : Data → Data → Option Refusal → Type 0
FoldOut d fold r = ((k : Key) × RefusesKey fold k × (r ≡ Some (BadKey k))) ⊎ ((k : Keys) × IsKeyed fold k × PinsOut d k r)

abbrev Out : Data → Option Refusal → Type 0
Out d r = ((fold_in d ≡ None) × (r ≡ Some (BadKey key.Fold))) ⊎ ((fold : Data) × (fold_in d ≡ Some fold) × FoldOut d fold r)

-- ---- no two outcomes

one_count : (ps : List Pin) (r s : Option Refusal) → CountOut ps r → CountOut ps s → r ≡ s
one_count ps r s (inl g) (inl h) = g.1 ∙ sym h.1
one_count ps r s (inl g) (inr h) = absurd (omega (arith, g.0, h.0))
one_count ps r s (inr g) (inl h) = absurd (omega (arith, g.0, h.0))
one_count ps r s (inr g) (inr h) = g.1 ∙ sym h.1

one_items : (k : Keys) (ps : List Pin) (r s : Option Refusal) → ItemsOut k ps r → ItemsOut k ps s → r ≡ s
one_items k ps r s (inl g) (inl h) = g.2 ∙ one_out k (Some g.0) (Some h.0) (refused_out k g.0 g.1) (refused_out k h.0 h.1) ∙ sym h.2
one_items k ps r s (inl g) (inr h) = absurd (none-some g.0 (one_out k None (Some g.0) (spelled_out k h.0 h.1) (refused_out k g.0 g.1)))
one_items k ps r s (inr g) (inl h) = absurd (none-some h.0 (one_out k None (Some h.0) (spelled_out k g.0 g.1) (refused_out k h.0 h.1)))
one_items k ps r s (inr g) (inr h) = one_count ps r s g.2 h.2

one_log : (d : Data) (k : Keys) (ps : List Pin) (r s : Option Refusal) → LogOut d k ps r → LogOut d k ps s → r ≡ s
one_log d k ps r s (inl g) (inl h) = g.1 ∙ sym h.1
one_log d k ps r s (inl g) (inr h) = absurd (no_value (lines_in d) h.0 g.0 h.1)
one_log d k ps r s (inr g) (inl h) = absurd (no_value (lines_in d) g.0 h.0 g.1)
one_log d k ps r s (inr g) (inr h) = one_items k ps r s g.2 h.2

one_pins : (d : Data) (k : Keys) (r s : Option Refusal) → PinsOut d k r → PinsOut d k s → r ≡ s
one_pins d k r s (inl g) (inl h) = g.1 ∙ sym h.1
one_pins d k r s (inl g) (inr h) = absurd (no_value (pins_in d) h.0 g.0 h.1)
one_pins d k r s (inr g) (inl h) = absurd (no_value (pins_in d) g.0 h.0 g.1)
one_pins d k r s (inr g) (inr h) = one_log d k h.0 r s (subst (λ (ps : List Pin). LogOut d k ps r) (one_value (pins_in d) g.0 h.0 g.1 h.1) g.2) h.2

one_fold : (d fold : Data) (r s : Option Refusal) → FoldOut d fold r → FoldOut d fold s → r ≡ s
one_fold d fold r s (inl g) (inl h) = g.2 ∙ ap (λ (k : Key). Some (BadKey k)) (one_key fold g.0 h.0 g.1 h.1) ∙ sym h.2
one_fold d fold r s (inl g) (inr h) = absurd (key_or_keys fold g.0 h.0 g.1 h.1)
one_fold d fold r s (inr g) (inl h) = absurd (key_or_keys fold h.0 g.0 h.1 g.1)
one_fold d fold r s (inr g) (inr h) = one_pins d h.0 r s (subst (λ (k : Keys). PinsOut d k r) (same_keys fold g.0 h.0 g.1 h.1) g.2) h.2

one_outcome : (d : Data) (r s : Option Refusal) → Out d r → Out d s → r ≡ s
one_outcome d r s (inl g) (inl h) = g.1 ∙ sym h.1
one_outcome d r s (inl g) (inr h) = absurd (no_value (fold_in d) h.0 g.0 h.1)
one_outcome d r s (inr g) (inl h) = absurd (no_value (fold_in d) g.0 h.0 g.1)
one_outcome d r s (inr g) (inr h) = one_fold d h.0 r s (subst (λ (fold : Data). FoldOut d fold r) (one_value (fold_in d) g.0 h.0 g.1 h.1) g.2) h.2

-- ---- what is defined is an outcome

with_members : (d : Data) (k : Keys) (ps : List Pin) (ls : List (List ℕ)) (r : Option Refusal) → HasMembers d k ps ls → ItemsOut k ps r → Out d r
with_members d k ps ls r m out = inr (m.fold, m.there, inr (k, m.keyed, inr (ps, m.are_pins, inr (ls, m.are_lines, out))))

input_out : (d : Data) (a : CheckInput) → IsCheckOf d a → Out d None
input_out d a h = with_members d h.keys a.pins a.lines None h.members (inr (a.pattern, h.spelled, inr (h.few, refl)))

Items : Data → Refusal → Type 0
Items d r = (keys : Keys) × (pins : List Pin) × (lines : List (List ℕ)) × HasMembers d keys pins lines × RefusesItems keys r

items_of_check : (d : Data) (r : Refusal) → Items d r → Out d (Some r)
unfolding Items
items_of_check d r h = with_members d h.0 h.1 h.2 (Some r) h.3 (inl (r, h.4, refl))

key_out : (d : Data) (k : Key) → RefusesMember d k → Out d (Some (BadKey k))
key_out d key.Fold h = inl (h, refl)
key_out d key.Pins h = inr (h.0, h.2, inr (h.1, h.3, inl (h.4, refl)))
key_out d key.Log h = inr (h.0, h.3, inr (h.1, h.4, inr (h.2, h.5, inl (h.6, refl))))
key_out d key.VerticesCoords h = inr (h.0, h.1, inl (key.VerticesCoords, h.2, refl))
key_out d key.EdgesVertices h = inr (h.0, h.1, inl (key.EdgesVertices, h.2, refl))
key_out d key.EdgesAssignment h = inr (h.0, h.1, inl (key.EdgesAssignment, h.2, refl))
key_out d key.Viewers h = inr (h.0, h.1, inl (key.Viewers, h.2, refl))
key_out d key.FacesVertices h = inr (h.0, h.1, inl (key.FacesVertices, h.2, refl))
key_out d key.FaceOrders h = inr (h.0, h.1, inl (key.FaceOrders, h.2, refl))
key_out d key.Choice h = inr (h.0, h.1, inl (key.Choice, h.2, refl))
key_out d key.Near h = inr (h.0, h.1, inl (key.Near, h.2, refl))
key_out d key.Lines h = inr (h.0, h.1, inl (key.Lines, h.2, refl))

check_out : (d : Data) (r : Refusal) → RefusesCheck d r → Out d (Some r)
unfolding Items
check_out d (BadKey k) h = key_out d k h
check_out d (TooMany what.Pins n) h =
    subst (λ (m : ℕ). Out d (Some (TooMany what.Pins m))) (sym h.7)
    (with_members d h.0 h.1 h.2 (Some (TooMany what.Pins MOST_PINS)) h.4 (inr (h.3, h.5, inl (h.6, refl))))
check_out d TooLong h = items_of_check d TooLong h
check_out d NotJson h = items_of_check d NotJson h
check_out d (BadVertex v) h = items_of_check d (BadVertex v) h
check_out d (FarVertex v) h = items_of_check d (FarVertex v) h
check_out d (BadEdge e) h = items_of_check d (BadEdge e) h
check_out d (BadMark e) h = items_of_check d (BadMark e) h
check_out d (SamePoint v) h = items_of_check d (SamePoint v) h
check_out d (Crossing e k) h = items_of_check d (Crossing e k) h
check_out d (Loose v) h = items_of_check d (Loose v) h
check_out d (Rim e) h = items_of_check d (Rim e) h
check_out d (Pinch v) h = items_of_check d (Pinch v) h
check_out d (Reflex v) h = items_of_check d (Reflex v) h
check_out d (Enclosed v) h = items_of_check d (Enclosed v) h
check_out d (Apart f) h = items_of_check d (Apart f) h
check_out d (Parity e) h = items_of_check d (Parity e) h
check_out d (Inconsistent v) h = items_of_check d (Inconsistent v) h
check_out d (Oversized v) h = items_of_check d (Oversized v) h
check_out d (TooMany what.Vertices n) h = items_of_check d (TooMany what.Vertices n) h
check_out d (TooMany what.Edges n) h = items_of_check d (TooMany what.Edges n) h
check_out d (TooMany what.Viewers n) h = items_of_check d (TooMany what.Viewers n) h
check_out d (TooMany what.Commands n) h = items_of_check d (TooMany what.Commands n) h
check_out d (TooMany what.Faces n) h = items_of_check d (TooMany what.Faces n) h
check_out d (TooMany what.Cells n) h = items_of_check d (TooMany what.Cells n) h
check_out d (TooMany what.Entries n) h = items_of_check d (TooMany what.Entries n) h
check_out d (TooMany what.Pairs n) h = items_of_check d (TooMany what.Pairs n) h
check_out d (TooMany what.Constraints n) h = items_of_check d (TooMany what.Constraints n) h
check_out d (TooMany what.Lines n) h = items_of_check d (TooMany what.Lines n) h
check_out d (BadScript w n) h = items_of_check d (BadScript w n) h
check_out d (BadFaces i) h = items_of_check d (BadFaces i) h
check_out d (BadOrder i) h = items_of_check d (BadOrder i) h
check_out d (BadChoice i) h = items_of_check d (BadChoice i) h
check_out d (BadNear i) h = items_of_check d (BadNear i) h
check_out d (BadLine i) h = items_of_check d (BadLine i) h
check_out d (OffGrid i j) h = items_of_check d (OffGrid i j) h
check_out d (Overlap i j) h = items_of_check d (Overlap i j) h

-- ---- there is an outcome

-- a refusal of items is one of the input
refused_items : (d : Data) (k : Keys) (ps : List Pin) (ls : List (List ℕ)) → HasMembers d k ps ls → (r : Refusal) → RefusesItems k r → RefusesCheck d r
refused_items d k ps ls m (BadKey q) h = absurd h
refused_items d k ps ls m (TooMany what.Pins n) h = absurd h
refused_items d k ps ls m TooLong h = (k, ps, ls, m, h)
refused_items d k ps ls m NotJson h = (k, ps, ls, m, h)
refused_items d k ps ls m (BadVertex v) h = (k, ps, ls, m, h)
refused_items d k ps ls m (FarVertex v) h = (k, ps, ls, m, h)
refused_items d k ps ls m (BadEdge e) h = (k, ps, ls, m, h)
refused_items d k ps ls m (BadMark e) h = (k, ps, ls, m, h)
refused_items d k ps ls m (SamePoint v) h = (k, ps, ls, m, h)
refused_items d k ps ls m (Crossing e q) h = (k, ps, ls, m, h)
refused_items d k ps ls m (Loose v) h = (k, ps, ls, m, h)
refused_items d k ps ls m (Rim e) h = (k, ps, ls, m, h)
refused_items d k ps ls m (Pinch v) h = (k, ps, ls, m, h)
refused_items d k ps ls m (Reflex v) h = (k, ps, ls, m, h)
refused_items d k ps ls m (Enclosed v) h = (k, ps, ls, m, h)
refused_items d k ps ls m (Apart f) h = (k, ps, ls, m, h)
refused_items d k ps ls m (Parity e) h = (k, ps, ls, m, h)
refused_items d k ps ls m (Inconsistent v) h = (k, ps, ls, m, h)
refused_items d k ps ls m (Oversized v) h = (k, ps, ls, m, h)
refused_items d k ps ls m (TooMany what.Vertices n) h = (k, ps, ls, m, h)
refused_items d k ps ls m (TooMany what.Edges n) h = (k, ps, ls, m, h)
refused_items d k ps ls m (TooMany what.Viewers n) h = (k, ps, ls, m, h)
refused_items d k ps ls m (TooMany what.Commands n) h = (k, ps, ls, m, h)
refused_items d k ps ls m (TooMany what.Faces n) h = (k, ps, ls, m, h)
refused_items d k ps ls m (TooMany what.Cells n) h = (k, ps, ls, m, h)
refused_items d k ps ls m (TooMany what.Entries n) h = (k, ps, ls, m, h)
refused_items d k ps ls m (TooMany what.Pairs n) h = (k, ps, ls, m, h)
refused_items d k ps ls m (TooMany what.Constraints n) h = (k, ps, ls, m, h)
refused_items d k ps ls m (TooMany what.Lines n) h = (k, ps, ls, m, h)
refused_items d k ps ls m (BadScript w n) h = (k, ps, ls, m, h)
refused_items d k ps ls m (BadFaces i) h = (k, ps, ls, m, h)
refused_items d k ps ls m (BadOrder i) h = (k, ps, ls, m, h)
refused_items d k ps ls m (BadChoice i) h = (k, ps, ls, m, h)
refused_items d k ps ls m (BadNear i) h = (k, ps, ls, m, h)
refused_items d k ps ls m (BadLine i) h = (k, ps, ls, m, h)
refused_items d k ps ls m (OffGrid i j) h = (k, ps, ls, m, h)
refused_items d k ps ls m (Overlap i j) h = (k, ps, ls, m, h)

-- so is a refusal of the crease pattern, where its keys are there
pub refused_fold : (d fold : Data) (k : Keys) (ps : List Pin) (ls : List (List ℕ)) → HasMembers d k ps ls → IsKeyed fold k → (r : Refusal) → RefusesFold fold r → RefusesCheck d r
refused_fold d fold k ps ls m keyed r h = refused_items d k ps ls m r (items_refused fold k keyed r h)

-- so is a refusal of its keys
refused_member : (d fold : Data) → fold_in d ≡ Some fold → (k : Key) → RefusesKey fold k → RefusesMember d k
refused_member d fold f key.VerticesCoords h = (fold, f, h)
refused_member d fold f key.EdgesVertices h = (fold, f, h)
refused_member d fold f key.EdgesAssignment h = (fold, f, h)
refused_member d fold f key.Fold h = absurd h
refused_member d fold f key.Pins h = absurd h
refused_member d fold f key.Log h = absurd h
refused_member d fold f key.Viewers h = absurd h
refused_member d fold f key.FacesVertices h = absurd h
refused_member d fold f key.FaceOrders h = absurd h
refused_member d fold f key.Choice h = absurd h
refused_member d fold f key.Near h = absurd h
refused_member d fold f key.Lines h = absurd h

-- why a call gave none of the crease pattern is why there is no input
pub no_key : (d fold : Data) → fold_in d ≡ Some fold → (n : No) → IsNoKey fold n → IsNoCheckOf d n
no_key d fold f n h = let r = key_refused fold n h in subst (IsNoCheckOf d) (sym r.2) (refused_member d fold f r.0 r.1)

pub no_fold : (d fold : Data) (k : Keys) (ps : List Pin) (ls : List (List ℕ)) → HasMembers d k ps ls → IsKeyed fold k → (n : No) → IsNoFold fold n → IsNoCheckOf d n
no_fold d fold k ps ls m keyed (no.Refused r) h = refused_fold d fold k ps ls m keyed r h
no_fold d fold k ps ls m keyed no.NoMemory h = tt

module _ (d : Data) (none : (a : CheckInput) → IsCheckOf d a → ⊥) (refused : (r : Refusal) → RefusesCheck d r → ⊥) where
  counted : (k : Keys) (ps : List Pin) (ls : List (List ℕ)) (p : Pattern) → HasMembers d k ps ls → AreSpelled k p → (length ps ≤ MOST_PINS) ⊎ (MOST_PINS < length ps) → ⊥
  counted k ps ls p m s (inr l) = refused (TooMany what.Pins MOST_PINS) (k, ps, ls, p, m, s, l, refl)
  counted k ps ls p m s (inl l) = none (record { pattern = p; pins = ps; lines = ls }) (record { keys = k; members = m; spelled = s; few = l })

  with_items : (fold : Data) (k : Keys) (ps : List Pin) (ls : List (List ℕ)) → HasMembers d k ps ls → IsKeyed fold k → ⊥
  with_items fold k ps ls m keyed =
      object_out fold (λ p s. counted k ps ls p m (subst (λ (x : Keys). AreSpelled x p) (same_keys fold s.keys k s.keyed keyed) s.spelled) (at_most_or (length ps) MOST_PINS))
      (λ r h. refused r (refused_fold d fold k ps ls m keyed r h))

  with_lines : (fold : Data) (k : Keys) (ps : List Pin) (o : Option (List (List ℕ))) → fold_in d ≡ Some fold → IsKeyed fold k → pins_in d ≡ Some ps → lines_in d ≡ o → ⊥
  with_lines fold k ps None f keyed g l = refused (BadKey key.Log) (fold, k, ps, f, keyed, g, l)
  with_lines fold k ps (Some ls) f keyed g l = with_items fold k ps ls (record { fold = fold; there = f; keyed = keyed; are_pins = g; are_lines = l }) keyed

  with_pins : (fold : Data) (k : Keys) (o : Option (List Pin)) → fold_in d ≡ Some fold → IsKeyed fold k → pins_in d ≡ o → ⊥
  with_pins fold k None f keyed g = refused (BadKey key.Pins) (fold, k, f, keyed, g)
  with_pins fold k (Some ps) f keyed g = with_lines fold k ps (lines_in d) f keyed g refl

  with_fold : (o : Option Data) → fold_in d ≡ o → ⊥
  with_fold None f = refused (BadKey key.Fold) f
  with_fold (Some fold) f = keys_out fold (λ k h. refused (BadKey k) (refused_member d fold f k h)) (λ k h. with_pins fold k (pins_in d) f h refl)

-- ---- bytes

-- bytes that are no object, or an object that is refused
Bytes : List ℕ → Refusal → Type 0
Bytes bytes r = ((object_of bytes ≡ None) × (r ≡ NotJson)) ⊎ ((d : Data) × (object_of bytes ≡ Some d) × RefusesCheck d r)

of_bytes : (bytes : List ℕ) (r : Refusal) → RefusesInput bytes r → Bytes bytes r
unfolding Bytes
of_bytes bytes NotJson h = inl (h, refl)
of_bytes bytes TooLong h = inr h
of_bytes bytes (BadKey k) h = inr h
of_bytes bytes (BadVertex v) h = inr h
of_bytes bytes (FarVertex v) h = inr h
of_bytes bytes (BadEdge e) h = inr h
of_bytes bytes (BadMark e) h = inr h
of_bytes bytes (SamePoint v) h = inr h
of_bytes bytes (Crossing e k) h = inr h
of_bytes bytes (Loose v) h = inr h
of_bytes bytes (Rim e) h = inr h
of_bytes bytes (Pinch v) h = inr h
of_bytes bytes (Reflex v) h = inr h
of_bytes bytes (Enclosed v) h = inr h
of_bytes bytes (Apart f) h = inr h
of_bytes bytes (Parity e) h = inr h
of_bytes bytes (Inconsistent v) h = inr h
of_bytes bytes (Oversized v) h = inr h
of_bytes bytes (TooMany w n) h = inr h
of_bytes bytes (BadScript w n) h = inr h
of_bytes bytes (BadFaces i) h = inr h
of_bytes bytes (BadOrder i) h = inr h
of_bytes bytes (BadChoice i) h = inr h
of_bytes bytes (BadNear i) h = inr h
of_bytes bytes (BadLine i) h = inr h
of_bytes bytes (OffGrid i j) h = inr h
of_bytes bytes (Overlap i j) h = inr h

one_of_bytes : (bytes : List ℕ) (r s : Refusal) → Bytes bytes r → Bytes bytes s → r ≡ s
unfolding Bytes
one_of_bytes bytes r s (inl g) (inl h) = g.1 ∙ sym h.1
one_of_bytes bytes r s (inl g) (inr h) = absurd (no_value (object_of bytes) h.0 g.0 h.1)
one_of_bytes bytes r s (inr g) (inl h) = absurd (no_value (object_of bytes) g.0 h.0 g.1)
one_of_bytes bytes r s (inr g) (inr h) =
    let same = one_value (object_of bytes) g.0 h.0 g.1 h.1 in
    same_Some r s (one_outcome h.0 (Some r) (Some s) (check_out h.0 r (subst (λ (d : Data). RefusesCheck d r) same g.2)) (check_out h.0 s h.2))

not_of_bytes : (bytes : List ℕ) (a : CheckInput) (r : Refusal) → IsCheck bytes a → Bytes bytes r → ⊥
unfolding Bytes
not_of_bytes bytes a r g (inl h) = no_value (object_of bytes) g.object h.0 g.read
not_of_bytes bytes a r g (inr h) =
    let same = one_value (object_of bytes) g.object h.0 g.read h.1 in
    none-some r (one_outcome h.0 None (Some r) (input_out h.0 a (subst (λ (d : Data). IsCheckOf d a) same g.is)) (check_out h.0 r h.2))

refused_by : (bytes : List ℕ) (d : Data) → object_of bytes ≡ Some d → (r : Refusal) → RefusesCheck d r → ((r : Refusal) → RefusesInput bytes r → ⊥) → ⊥
refused_by bytes d e NotJson h refused = h.4
refused_by bytes d e TooLong h refused = refused TooLong (d, e, h)
refused_by bytes d e (BadKey k) h refused = refused (BadKey k) (d, e, h)
refused_by bytes d e (BadVertex v) h refused = refused (BadVertex v) (d, e, h)
refused_by bytes d e (FarVertex v) h refused = refused (FarVertex v) (d, e, h)
refused_by bytes d e (BadEdge x) h refused = refused (BadEdge x) (d, e, h)
refused_by bytes d e (BadMark x) h refused = refused (BadMark x) (d, e, h)
refused_by bytes d e (SamePoint v) h refused = refused (SamePoint v) (d, e, h)
refused_by bytes d e (Crossing x k) h refused = refused (Crossing x k) (d, e, h)
refused_by bytes d e (Loose v) h refused = refused (Loose v) (d, e, h)
refused_by bytes d e (Rim x) h refused = refused (Rim x) (d, e, h)
refused_by bytes d e (Pinch v) h refused = refused (Pinch v) (d, e, h)
refused_by bytes d e (Reflex v) h refused = refused (Reflex v) (d, e, h)
refused_by bytes d e (Enclosed v) h refused = refused (Enclosed v) (d, e, h)
refused_by bytes d e (Apart f) h refused = refused (Apart f) (d, e, h)
refused_by bytes d e (Parity x) h refused = refused (Parity x) (d, e, h)
refused_by bytes d e (Inconsistent v) h refused = refused (Inconsistent v) (d, e, h)
refused_by bytes d e (Oversized v) h refused = refused (Oversized v) (d, e, h)
refused_by bytes d e (TooMany w n) h refused = refused (TooMany w n) (d, e, h)
refused_by bytes d e (BadScript w n) h refused = refused (BadScript w n) (d, e, h)
refused_by bytes d e (BadFaces i) h refused = refused (BadFaces i) (d, e, h)
refused_by bytes d e (BadOrder i) h refused = refused (BadOrder i) (d, e, h)
refused_by bytes d e (BadChoice i) h refused = refused (BadChoice i) (d, e, h)
refused_by bytes d e (BadNear i) h refused = refused (BadNear i) (d, e, h)
refused_by bytes d e (BadLine i) h refused = refused (BadLine i) (d, e, h)
refused_by bytes d e (OffGrid i j) h refused = refused (OffGrid i j) (d, e, h)
refused_by bytes d e (Overlap i j) h refused = refused (Overlap i j) (d, e, h)

bytes_out : (bytes : List ℕ) (o : Option Data) → object_of bytes ≡ o → ((a : CheckInput) → IsCheck bytes a → ⊥) → ((r : Refusal) → RefusesInput bytes r → ⊥) → ⊥
bytes_out bytes None e none refused = refused NotJson e
bytes_out bytes (Some d) e none refused =
    with_fold d (λ a h. none a (record { object = d; read = e; is = h })) (λ r h. refused_by bytes d e r h refused) (fold_in d) refl

-- ---- one input

same_object : (bytes : List ℕ) (a b : CheckInput) (g : IsCheck bytes a) (h : IsCheck bytes b) → IsCheckOf h.object a
same_object bytes a b g h = subst (λ (d : Data). IsCheckOf d a) (one_value (object_of bytes) g.object h.object g.read h.read) g.is

one_members : (d : Data) (a b : CheckInput) → IsCheckOf d a → IsCheckOf d b → (a.pins ≡ b.pins) × (a.lines ≡ b.lines)
one_members d a b g h = (one_value (pins_in d) a.pins b.pins g.members.are_pins h.members.are_pins, one_value (lines_in d) a.lines b.lines g.members.are_lines h.members.are_lines)

one_pattern : (d : Data) (a b : CheckInput) → IsCheckOf d a → IsCheckOf d b
    → (a.pattern.points ≡ b.pattern.points) × (a.pattern.edges ≡ b.pattern.edges) × (a.pattern.marks ≡ b.pattern.marks)
one_pattern d a b g h =
    let fold = one_value (fold_in d) g.members.fold h.members.fold g.members.there h.members.there in
    let keyed = subst (λ (x : Data). IsKeyed x g.keys) fold g.members.keyed in
    let keys = same_keys h.members.fold g.keys h.keys keyed h.members.keyed in
    one_spelled h.keys a.pattern b.pattern (subst (λ (k : Keys). AreSpelled k a.pattern) keys g.spelled) h.spelled

pub check_is_one : CheckIsOne
check_is_one = record {
  pattern = λ bytes a b g h. one_pattern h.object a b (same_object bytes a b g h) h.is;
  members = λ bytes a b g h. one_members h.object a b (same_object bytes a b g h) h.is;
  refusal = λ bytes r s g h. one_of_bytes bytes r s (of_bytes bytes r g) (of_bytes bytes s h);
  not_both = λ bytes a r g h. not_of_bytes bytes a r g (of_bytes bytes r h);
  some = λ bytes none refused. bytes_out bytes (object_of bytes) refl none refused;
}
