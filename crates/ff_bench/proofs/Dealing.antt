-- Seats and hands that are dealt and gathered.
use Rattle.std.proofs.Common.{◌≡◌, ℕ, zero, suc, ◌+◌, ◌-◌, ◌<◌, ◌≤◌, ◌⊎◌, List, [], ◌∷◌, ◌++◌, length, get_or, slice_get, inl, inr, refl, sym, ap, ◌∙◌, subst, arith, Option, Some, None, false, append_assoc, ⊎_elim}
use Rattle.std.specs.List.{ReversedBelow}
use Rattle.std.proofs.lemmas.List.{length-append, append-nil}
use Rattle.ff_journal.specs.declared.entries.Entry.{Entry}
use Rattle.ff_journal.proofs.Snoc.{get_more}
use Rattle.ff_steal.specs.declared.crews.Hand.{Hand}
use Rattle.ff_steal.specs.Crews.{AreHands}
use Rattle.ff_door.specs.Views.{DoorView, SeatView, IsNew, IsAt, AreOutside, AreNumbered}
use Rattle.ff_desk.specs.Views.{BaseView}
use Rattle.ff_bench.specs.Runs.{HaveSeats, AreKept}
use Rattle.ff_bench.specs.Dealt.{AreBackward, AreHandsBackward}

pub at_end : {X : Type 0} (xs : List X) (x : X) → slice_get (xs ++ x ∷ []) (length xs) ≡ Some x
at_end [] x = refl
at_end (y ∷ xs) x = at_end xs x

none_some : {X : Type 0} (x : X) → None ≡ Some x → ⊥
none_some x e = cc

same_some : {X : Type 0} (x y : X) → Some x ≡ Some y → x ≡ y
same_some x y e = cc

pub in_front : {X : Type 0} (xs ys : List X) (i : ℕ) (x : X) → slice_get xs i ≡ Some x → slice_get (xs ++ ys) i ≡ Some x
in_front [] ys zero x e = absurd (none_some x e)
in_front [] ys (suc i) x e = absurd (none_some x e)
in_front (z ∷ xs) ys zero x e = e
in_front (z ∷ xs) ys (suc i) x e = in_front xs ys i x e

-- one more of a list that is numbered
pub one_pushed : {X : Type 0} (P : ℕ → X → Type 0) (xs : List X) (k : ℕ) (x : X) → ((j : ℕ) (y : X) → slice_get xs j ≡ Some y → P j y) → length xs ≡ k → P k x
    → (j : ℕ) (y : X) → slice_get (xs ++ x ∷ []) j ≡ Some y → P j y
one_pushed {X} P xs k x all n p j y e = ⊎_elim (λ l. all j y l.1) (λ r. subst (λ (z : X). P j z) r.1 (subst (λ (i : ℕ). P i x) (sym (r.0 ∙ n)) p)) (get_more xs x y j e)

-- a list without its last item
pub one_popped : {X : Type 0} (old new : List X) (x : X) → old ≡ new ++ x ∷ [] → length old ≡ length new + 1
one_popped old new x e = ap (λ l. length l) e ∙ length-append new (x ∷ [])

pub seat_popped : (d : DoorView BaseView) (n : ℕ) (old new : List (SeatView Entry BaseView)) (s : SeatView Entry BaseView) → AreBackward d n old → old ≡ new ++ s ∷ []
    → (k : ℕ) × IsNew d k s × (k + length old ≡ n)
seat_popped d n old new s are e = let r = are (length new) s (ap (λ l. slice_get l (length new)) e ∙ at_end new s) in
    (r.0, r.1, (let m = one_popped old new s e in let c = r.2 in omega (arith, m, c)))

pub seats_popped : (d : DoorView BaseView) (n : ℕ) (old new : List (SeatView Entry BaseView)) (s : SeatView Entry BaseView) → AreBackward d n old → old ≡ new ++ s ∷ [] → AreBackward d n new
seats_popped d n old new s are e i x at = are i x (ap (λ l. slice_get l i) e ∙ in_front new (s ∷ []) i x at)

pub hand_popped : (n : ℕ) (old new : List Hand) (h : Hand) → AreHandsBackward n old → old ≡ new ++ h ∷ [] → (h.number + length old ≡ n) × (h.of ≡ n)
hand_popped n old new h are e = let r = are (length new) h (ap (λ l. slice_get l (length new)) e ∙ at_end new h) in
    ((let m = one_popped old new h e in let c = r.0 in omega (arith, m, c)), r.1)

pub hands_popped : (n : ℕ) (old new : List Hand) (h : Hand) → AreHandsBackward n old → old ≡ new ++ h ∷ [] → AreHandsBackward n new
hands_popped n old new h are e i x at = are i x (ap (λ l. slice_get l i) e ∙ in_front new (h ∷ []) i x at)

-- ---- gathering

-- those of a list whose last items are taken one after the other: the rest is in the list of seats
pub record AreTaken (V : Type 0) (is : V → SeatView Entry BaseView → Type 0) (whole left : List V) (seats : List (SeatView Entry BaseView)) : Type 0 where
  pub taken : List V
  pub parts : whole ≡ left ++ taken
  pub seated : HaveSeats is taken seats

pub none_taken : (V : Type 0) (is : V → SeatView Entry BaseView → Type 0) (whole : List V) (seats : List (SeatView Entry BaseView)) → AreTaken V is whole whole seats
none_taken V is whole seats = record { taken = []; parts = sym (append-nil whole); seated = λ k v e. absurd (nothing k v e) }
  where
    nothing : (k : ℕ) (v : V) → slice_get [] k ≡ Some v → ⊥
    nothing zero v e = none_some v e
    nothing (suc k) v e = none_some v e

pub one_taken : (V : Type 0) (is : V → SeatView Entry BaseView → Type 0) (whole old new : List V) (seats more : List (SeatView Entry BaseView)) (v : V) (s : SeatView Entry BaseView) → AreTaken V is whole old seats
    → old ≡ new ++ v ∷ [] → more ≡ seats ++ s ∷ [] → is v s → AreTaken V is whole new more
one_taken V is whole old new seats more v s t e m sits = record {
  taken = v ∷ t.taken;
  parts = t.parts ∙ (ap (λ l. l ++ t.taken) e ∙ append_assoc new (v ∷ []) t.taken);
  seated = seated;
}
  where
    none : {X : Type 0} (x : X) → None ≡ Some x → ⊥
    none x e = cc

    same : {X : Type 0} (x y : X) → Some x ≡ Some y → x ≡ y
    same x y e = cc

    seated : HaveSeats is (v ∷ t.taken) more
    seated zero w at = (length seats, s, ap (λ l. slice_get l (length seats)) m ∙ at_end seats s, subst (λ (x : V). is x s) (same v w at) sits)
    seated (suc k) w at = let r = t.seated k w at in (r.0, r.1, ap (λ l. slice_get l r.0) m ∙ in_front seats (s ∷ []) r.0 r.1 r.2, r.3)

pub all_taken : (V : Type 0) (is : V → SeatView Entry BaseView → Type 0) (whole left : List V) (seats : List (SeatView Entry BaseView)) → AreTaken V is whole left seats → length left ≡ 0 → HaveSeats is whole seats
all_taken V is whole [] seats t n = subst (λ (l : List V). HaveSeats is l seats) (sym t.parts) t.seated
all_taken V is whole (v ∷ left) seats t n = absurd (omega (arith, n))

pub outside_more : (d : DoorView BaseView) (seats more : List (SeatView Entry BaseView)) (s : SeatView Entry BaseView) → AreOutside d seats → more ≡ seats ++ s ∷ [] → IsAt d s × (s.inside ≡ false) → AreOutside d more
outside_more d seats more s out m at k x e = ⊎_elim (λ l. out k x l.1) (λ r. subst (λ (z : SeatView Entry BaseView). IsAt d z × (z.inside ≡ false)) r.1 at) (get_more seats s x k (ap (λ l. slice_get l k) (sym m) ∙ e))

pub kept_more : (a b c : List (SeatView Entry BaseView)) (s : SeatView Entry BaseView) → AreKept a b → c ≡ b ++ s ∷ [] → AreKept a c
kept_more a b c s k e i x at = ap (λ l. slice_get l i) e ∙ in_front b (s ∷ []) i x (k i x at)

-- ---- lists turned round

pub there_in : {X : Type 0} (l : List X) (i : ℕ) (x : X) → slice_get l i ≡ Some x → (i < length l) × (get_or l i x ≡ x)
there_in [] zero x e = absurd (none_some x e)
there_in [] (suc i) x e = absurd (none_some x e)
there_in (y ∷ l) zero x e = (omega arith, same_some y x e)
there_in (y ∷ l) (suc i) x e = let r = there_in l i x e in (let m = r.0 in omega (arith, m), r.1)

pub got_there : {X : Type 0} (l : List X) (i : ℕ) (x : X) → i < length l → get_or l i x ≡ x → slice_get l i ≡ Some x
got_there [] i x h e = absurd (omega (arith, h))
got_there (y ∷ l) zero x h e = ap (λ z. Some z) e
got_there (y ∷ l) (suc i) x h e = got_there l i x (omega (arith, h)) e

pub turned_at : {X : Type 0} (old new : List X) (n i : ℕ) (x : X) → ReversedBelow old new n → length old ≡ n → length new ≡ n → slice_get new i ≡ Some x
    → (k : ℕ) × (slice_get old k ≡ Some x) × (k + i + 1 ≡ n)
turned_at old new n i x r a b e =
    let t = there_in new i x e in let less = t.0 in
    (n - 1 - i, got_there old (n - 1 - i) x (omega (arith, less, a, b)) (sym (r i x (omega (arith, less, b))) ∙ t.1), omega (arith, less, b))

pub seats_turned : (d : DoorView BaseView) (n : ℕ) (old new : List (SeatView Entry BaseView)) → ReversedBelow old new n → length old ≡ n → length new ≡ n → AreNumbered d old → AreBackward d n new
seats_turned d n old new r a b are i s e = let t = turned_at old new n i s r a b e in (t.0, are t.0 s t.1, t.2)

pub hands_turned : (n : ℕ) (old new : List Hand) → ReversedBelow old new n → length old ≡ n → length new ≡ n → AreHands n old → AreHandsBackward n new
hands_turned n old new r a b are i h e = let t = turned_at old new n i h r a b e in let x = are.each t.0 h t.1 in let y = x.0 in let z = t.2 in (omega (arith, y, z), x.1)
