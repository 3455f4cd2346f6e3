-- The pins and the log lines of a JSON object.
use Rattle.std.proofs.Common.{◌≡◌, ◌≢◌, ◌∙◌, ◌<◌, ◌^◌, ◌==◌, ℕ, zero, suc, Bool, true, false, cond, nat_lt, List, [], ◌∷◌, length, slice_get, codes, Option, None, Some, option_map, option_and_then, refl, sym, ap, subst, arith}
use Rattle.std.specs.Prelude.{IfOk, MatchResult, Result, Ok, Err}
use Rattle.std.proofs.lemmas.Bool.{ltb-true, eqb-false}
use Rattle.std.proofs.lemmas.Option.{none-some, same_Some}
use Rattle.serde_json.specs.Data.{Data}
use Rattle.serde_json.specs.Find.{get}
use Rattle.ff_tables.specs.declared.orders.Order.{Order}
use Rattle.ff_types.specs.declared.limits.TheConstants.{MOST_FACES}
use Rattle.ff_types.specs.declared.pins.Pin.{Pin}
use Rattle.ff_types.specs.declared.refusals.No.{No}
use Rattle.ff_read.specs.declared.checks.CheckInput.{CheckInput}
use Rattle.ff_read.specs.Refused.{IsFirstBad}
use Rattle.ff_read.specs.Spelling.{all_of, list_of, natural}
use Rattle.ff_read.specs.Checks.{ArePins, HasFewMembers, IsCheckOf, IsNoCheckOf, face_of, line_of, lines_in, log_in, order_of, pin_in, pin_of, pins_in, pins_under}
use Rattle.ff_read.proofs.Lists.{as_many}

-- ---- a list with a bad item

none_rest : {A : Type 0} (o : Option A) → option_and_then (λ a. option_map (λ rest. a ∷ rest) None) o ≡ None
none_rest None = refl
none_rest (Some a) = refl

bad_at : {B A : Type 0} (f : B → Option A) (ds : List B) (i : ℕ) (d : B) → slice_get ds i ≡ Some d → f d ≡ None → all_of f ds ≡ None
bad_at f [] i d g h = absurd (none-some d g)
bad_at f (u ∷ ds) zero d g h = ap (option_and_then (λ a. option_map (λ rest. a ∷ rest) (all_of f ds))) (ap f (same_Some u d g) ∙ h)
bad_at f (u ∷ ds) (suc i) d g h = ap (λ o. option_and_then (λ a. option_map (λ rest. a ∷ rest) o) (f u)) (bad_at f ds i d g h) ∙ none_rest (f u)

pub bad_none : {B A : Type 0} (f : B → Option A) (ds : List B) (i : ℕ) → IsFirstBad f ds i → None ≡ all_of f ds
bad_none f ds i b = sym (bad_at f ds i b.item b.is b.bad)

pub bad_none_at : {B A : Type 0} (f : B → Option A) (ds : List B) (i : ℕ) (d : B) → slice_get ds i ≡ Some d → None ≡ f d → None ≡ all_of f ds
bad_none_at f ds i d g h = sym (bad_at f ds i d g (sym h))

-- ---- pins

abbrev IsPin : Pin → Type 0
IsPin p = (p.f < MOST_FACES) × (p.g < MOST_FACES) × (p.f ≢ p.g)

within : (b : Bool) (n m : ℕ) → nat_lt n MOST_FACES ≡ b → cond b (Some n) None ≡ Some m → m < MOST_FACES
within true n m e h = subst (λ (k : ℕ). k < MOST_FACES) (same_Some n m h) (ltb-true n MOST_FACES e)
within false n m e h = absurd (none-some m h)

face_within : (o : Option ℕ) (m : ℕ) → option_and_then (λ n. cond (nat_lt n MOST_FACES) (Some n) None) o ≡ Some m → m < MOST_FACES
face_within None m h = absurd (none-some m h)
face_within (Some n) m h = within (nat_lt n MOST_FACES) n m refl h

made : ℕ → ℕ → Order → Pin
made a b v = record { f = a; g = b; value = v }

valued : (a b : ℕ) (o : Option Order) (p : Pin) → option_map (made a b) o ≡ Some p → (a ≡ p.f) × (b ≡ p.g)
unfolding made
valued a b None p h = absurd (none-some p h)
valued a b (Some v) p h = (ap (λ (q : Pin). q.f) (same_Some (made a b v) p h), ap (λ (q : Pin). q.g) (same_Some (made a b v) p h))

chosen_pin : (a b : ℕ) (o : Option Order) (p : Pin) (t : Bool) → (a == b) ≡ t → b < MOST_FACES → cond t None (option_map (made a b) o) ≡ Some p → (a ≡ p.f) × (p.g < MOST_FACES) × (p.f ≢ p.g)
chosen_pin a b o p true e l h = absurd (none-some p h)
chosen_pin a b o p false e l h = let v = valued a b o p h in (v.0, subst (λ (k : ℕ). k < MOST_FACES) v.1 l, λ i. eqb-false a b e (v.0 ∙ i ∙ sym v.1))

second_face : (a : ℕ) (y z : Data) (o : Option ℕ) (p : Pin) → face_of y ≡ o → option_and_then (λ b. cond (a == b) None (option_map (made a b) (order_of z))) o ≡ Some p
    → (a ≡ p.f) × (p.g < MOST_FACES) × (p.f ≢ p.g)
second_face a y z None p e h = absurd (none-some p h)
second_face a y z (Some b) p e h = chosen_pin a b (order_of z) p (a == b) refl (face_within (natural y) b e) h

first_face : (x y z : Data) (o : Option ℕ) (p : Pin) → face_of x ≡ o → option_and_then (λ a. option_and_then (λ b. cond (a == b) None (option_map (made a b) (order_of z))) (face_of y)) o ≡ Some p → IsPin p
first_face x y z None p e h = absurd (none-some p h)
first_face x y z (Some a) p e h =
    let s = second_face a y z (face_of y) p refl h in
    (subst (λ (k : ℕ). k < MOST_FACES) s.0 (face_within (natural x) a e), s.1, s.2)

pin_in_is : (ds : List Data) (p : Pin) → pin_in ds ≡ Some p → IsPin p
unfolding made
pin_in_is [] p h = absurd (none-some p h)
pin_in_is (x ∷ []) p h = absurd (none-some p h)
pin_in_is (x ∷ y ∷ []) p h = absurd (none-some p h)
pin_in_is (x ∷ y ∷ z ∷ []) p h = first_face x y z (face_of x) p refl h
pin_in_is (x ∷ y ∷ z ∷ w ∷ ds) p h = absurd (none-some p h)

pin_is : (o : Option (List Data)) (p : Pin) → option_and_then pin_in o ≡ Some p → IsPin p
pin_is None p h = absurd (none-some p h)
pin_is (Some ds) p h = pin_in_is ds p h

more_pins : (q : Pin) (xs : List Pin) → IsPin q → ArePins xs → (i : ℕ) (p : Pin) → slice_get (q ∷ xs) i ≡ Some p → IsPin p
more_pins q xs a b zero p g = subst IsPin (same_Some q p g) a
more_pins q xs a b (suc i) p g = b i p g

each_head : (q : Option Pin) (o : Option (List Pin)) (ps : List Pin) → ((p : Pin) → q ≡ Some p → IsPin p) → ((xs : List Pin) → o ≡ Some xs → ArePins xs)
    → option_and_then (λ a. option_map (λ rest. a ∷ rest) o) q ≡ Some ps → ArePins ps
each_head None o ps a b h = absurd (none-some ps h)
each_head (Some q) None ps a b h = absurd (none-some ps h)
each_head (Some q) (Some xs) ps a b h = subst ArePins (same_Some (q ∷ xs) ps h) (more_pins q xs (a q refl) (b xs refl))

each_of : (ds : List Data) (ps : List Pin) → all_of pin_of ds ≡ Some ps → ArePins ps
each_of [] ps h = subst ArePins (same_Some [] ps h) (λ i p g. absurd (none-some p g))
each_of (d ∷ ds) ps h = each_head (pin_of d) (all_of pin_of ds) ps (λ p e. pin_is (list_of d) p e) (λ xs e. each_of ds xs e) h

in_list : (o : Option (List Data)) (ps : List Pin) → option_and_then (all_of pin_of) o ≡ Some ps → ArePins ps
in_list None ps h = absurd (none-some ps h)
in_list (Some ds) ps h = each_of ds ps h

under_key : (o : Option Data) (ps : List Pin) → pins_under o ≡ Some ps → ArePins ps
under_key None ps h = subst ArePins (same_Some [] ps h) (λ i p g. absurd (none-some p g))
under_key (Some d) ps h = in_list (list_of d) ps h

-- the pins of an object
pub pins_are : (d : Data) (ps : List Pin) → pins_in d ≡ Some ps → ArePins ps
pins_are d ps h = under_key (get (codes "pins") d) ps h

-- ---- how many lines

in_log : (o : Option (List Data)) (ls : List (List ℕ)) → ((ds : List Data) → o ≡ Some ds → length ds < 2 ^ 32) → option_and_then (all_of line_of) o ≡ Some ls → length ls < 2 ^ 32
in_log None ls few h = absurd (none-some ls h)
in_log (Some ds) ls few h = omega (arith, few ds refl, as_many line_of ds ls h)

under_log : (o : Option Data) (ls : List (List ℕ)) → ((ds : List Data) → option_and_then list_of o ≡ Some ds → length ds < 2 ^ 32) → option_and_then log_in o ≡ Some ls → length ls < 2 ^ 32
under_log None ls few h = absurd (none-some ls h)
under_log (Some d) ls few h = in_log (list_of d) ls few h

pub few_lines : (d : Data) (ls : List (List ℕ)) → HasFewMembers d → lines_in d ≡ Some ls → length ls < 2 ^ 32
few_lines d ls few h = under_log (get (codes "log") d) ls few.lines h

-- ---- an input that was read

pub ok_lines : (d : Data) (r : Result CheckInput No) → HasFewMembers d → MatchResult r (IsCheckOf d) (IsNoCheckOf d) → IfOk r (λ input. length input.lines < 2 ^ 32)
ok_lines d (Ok a) few m = few_lines d a.lines few m.members.are_lines
ok_lines d (Err e) few m = tt

pub ok_pins : (d : Data) (r : Result CheckInput No) → MatchResult r (IsCheckOf d) (IsNoCheckOf d) → IfOk r (λ input. ArePins input.pins)
ok_pins d (Ok a) m = pins_are d a.pins m.members.are_pins
ok_pins d (Err e) m = tt
