-- A log in the making gets one line more.
use Rattle.std.proofs.Common.{◌≡◌, ℕ, zero, suc, ◌+◌, ◌-◌, ◌<◌, ◌≤◌, ◌⊎◌, inl, inr, cond, Bool, true, false, List, [], ◌∷◌, ◌++◌, map, length, drop, slice_get, slice_index_or, refl, sym, ap, ◌∙◌, subst, arith, Option, Some, None, option_map, Contains}
use Rattle.std.proofs.lemmas.Bool.{eqb-true}
use Rattle.std.proofs.lemmas.Option.{slice_get-get_or, slice_get_within, slice_get-map}
use Rattle.std.specs.Prelude.{◌==◌, nat_lt}
use Rattle.std.specs.Ordering.{nat_cmp, is_eq}
use Rattle.std.specs.declared.cmp.Ordering.TheVariants.{Less, Equal, Greater}
use Rattle.std.specs.BTreeMap as tree
use Rattle.ff_tables.specs.declared.orders.Order.{Order}
use Rattle.ff_tables.specs.declared.orders.Order.TheVariants.{Below, Above}
use Rattle.ff_tables.specs.declared.givens.Given.{Given}
use Rattle.ff_tables.specs.declared.givens.GivenBy.{GivenBy}
use Rattle.ff_tables.specs.declared.givens.GivenBy.TheVariants.{Crease, Pin}
use Rattle.ff_tables.specs.declared.terms.Constraint.{Constraint}
use Rattle.ff_types.specs.declared.cites.Cite.{Cite}
use Rattle.ff_types.specs.declared.cases.Case.{Case}
use Rattle.ff_types.specs.CaseFields.{is_crease}
use Rattle.ff_types.specs.Pairs.{number_of}
use Rattle.ff_refute.specs.declared.making.Maker.{Maker}
use Rattle.ff_log.specs.declared.logs.LogLine.{LogLine}
use Rattle.ff_log.specs.declared.logs.LogLine.TheVariants as line
use Rattle.ff_log.specs.declared.claims.Claim.{Claim}
use Rattle.ff_log.specs.Logs.{claim, with_claim, Branch, ForcesClaim, Closes, Does, Reaches, close, close_from, start, reversed}
use Rattle.ff_log.specs.Grounds.{declared_in, claim_of_given, start_by, is_by}
use Rattle.ff_refute.specs.Givens.{AreGivens, pin_claims}
use Rattle.ff_refute.specs.Making.{claim_of, Holds, ground_of, IsThere, state_of, declared_or, declared_at, IsMaking, IsDeclaring, CanForce, CanClose, Shuts}
use Rattle.ff_refute.proofs.OneMore.{at_use, reach_last}

pub equal_keys : (a b : Bool) → is_eq (cond a Less (cond b Equal Greater)) ≡ true → b ≡ true
equal_keys true true h = refl
equal_keys true false h = cc
equal_keys false true h = refl
equal_keys false false h = cc

chosen : (b : Bool) (x y z : Option ℕ) → cond b x y ≡ z → ((b ≡ true) × (x ≡ z)) ⊎ (y ≡ z)
chosen true x y z h = inl (refl, h)
chosen false x y z h = inr h

last_of : (xs : List ℕ) (x : ℕ) → slice_get (xs ++ x ∷ []) (length xs) ≡ Some x
last_of [] x = refl
last_of (y ∷ xs) x = last_of xs x

still : (xs : List ℕ) (x k c : ℕ) → slice_get xs k ≡ Some c → slice_get (xs ++ x ∷ []) k ≡ Some c
still [] x k c h = cc
still (y ∷ xs) x zero c h = h
still (y ∷ xs) x (suc k) c h = still xs x k c h

longer : (xs : List ℕ) (x : ℕ) → length (xs ++ x ∷ []) ≡ length xs + 1
longer [] x = refl
longer (y ∷ xs) x = let e = longer xs x in omega (arith, e)

some_is : (k j : ℕ) → ◌≡◌ {A = Option ℕ} (Some k) (Some j) → k ≡ j
some_is k j e = cc

pub declared_now : (case : Case) (old new : Maker) (c : ℕ) (cites : List Cite) (none : Cite) → c < length case.system.constraints
    → cites ≡ case.cites
    → new.lines.items ≡ old.lines.items ++ line.Use (slice_index_or cites c none) ∷ []
    → ((q : ℕ) → tree.get nat_cmp new.numbers q ≡ cond (is_eq (nat_cmp c q)) (Some old.count) (tree.get nat_cmp old.numbers q))
    → new.count ≡ old.count + 1
    → (pins held : List Claim) (branches : List Branch) → IsMaking case pins held branches old
    → IsDeclaring case pins held branches c old.count new
declared_now case old new c cites none l same lines numbers count pins held branches m = record {
  index = m.index ++ c ∷ [];
  at = subst (λ ls. IsThere case pins ls (m.index ++ c ∷ []) held branches)
      (sym (lines ∙ ap (λ cs. old.lines.items ++ line.Use (slice_index_or cs c none) ∷ []) same))
      (at_use case pins old.lines.items m.index held branches m.at c _ _
      (slice_get-get_or case.system.constraints c con l) (slice_get-get_or case.cites c none (cited (length case.cites) (length case.system.constraints) case.valid.cited l)));
  numbers = λ d j e. elim (chosen (is_eq (nat_cmp c d)) (Some old.count) (tree.get nat_cmp old.numbers d) (Some j) (sym (numbers d) ∙ e)) [
    | inl h ↦ here d j (eqb-true c d (equal_keys (nat_lt c d) (c == d) h.0)) (some_is old.count j h.1)
    | inr h ↦ still m.index c j d (m.numbers d j h)
  ];
  counted = count ∙ ap (λ n. n + 1) m.counted ∙ sym (longer m.index c);
  is = subst (λ k. slice_get (m.index ++ c ∷ []) k ≡ Some c) (sym m.counted) (last_of m.index c);
}
  where
    con : Constraint
    con = record { kind = Rattle.ff_tables.specs.declared.terms.Kind.TheVariants.TacoTortilla; terms = [] }

    cited : (n k : ℕ) → n ≡ k → c < k → c < n
    cited n k e h = omega (arith, e, h)

    here : (d j : ℕ) → c ≡ d → old.count ≡ j → slice_get (m.index ++ c ∷ []) j ≡ Some d
    here d j e f = subst (λ k. slice_get (m.index ++ c ∷ []) k ≡ Some d) (sym m.counted ∙ f)
        (last_of m.index c ∙ ap (λ n. Some n) e)

pub declared_before : (case : Case) (m : Maker) (c k : ℕ) → tree.get nat_cmp m.numbers c ≡ Some k
    → (pins held : List Claim) (branches : List Branch) → IsMaking case pins held branches m
    → IsDeclaring case pins held branches c k m
declared_before case m c k e pins held branches h = record { index = h.index; at = h.at; numbers = h.numbers; counted = h.counted; is = h.numbers c k e }

-- the maker with other lines
abbrev pub IsWith : Maker → LogLine → Maker → Type 0
IsWith old l new = (new.lines.items ≡ old.lines.items ++ l ∷ []) × (new.numbers ≡ old.numbers) × (new.count ≡ old.count)

module _ (case : Case) (pins held : List Claim) (branches : List Branch) (old new : Maker) (l : LogLine) (with : IsWith old l new) where
  abbrev MapOf : List ℕ → tree.BTreeMap ℕ ℕ → Type 0
  MapOf index numbers = (d j : ℕ) → tree.get nat_cmp numbers d ≡ Some j → slice_get index j ≡ Some d

  -- the state after the line
  pub made : (index : List ℕ) → IsThere case pins old.lines.items index held branches → MapOf index old.numbers
      → old.count ≡ length index → (held' : List Claim) (branches' : List Branch)
      → Does (ground_of case pins) (state_of case index held branches) l (state_of case index held' branches')
      → IsMaking case pins held' branches' new
  made index at numbers counted held' branches' does = record {
    index = index;
    at = subst (λ ls. IsThere case pins ls index held' branches') (sym with.0) (reach_last (ground_of case pins) start old.lines.items _ l _ at (record { going = refl; does = does }));
    numbers = subst (MapOf index) (sym with.1) numbers;
    counted = with.2 ∙ counted;
  }

  -- a level closes
  pub shut : (index : List ℕ) → IsThere case pins old.lines.items index held branches → MapOf index old.numbers
      → old.count ≡ length index
      → Does (ground_of case pins) (state_of case index held branches) l (close (state_of case index held branches))
      → Shuts case pins branches new
  shut index at numbers counted does = by branches does (reach_last (ground_of case pins) start old.lines.items _ l _ at (record { going = refl; does = does }))
    where
      by : (bs : List Branch) → Does (ground_of case pins) (state_of case index held branches) l (close (state_of case index held branches))
          → Reaches (ground_of case pins) start (old.lines.items ++ l ∷ []) (close_from (state_of case index held branches) bs)
          → Shuts case pins bs new
      by [] d r = subst (Closes (ground_of case pins)) (sym with.0) (record { state = _; reached = r; ended = refl })
      by (b ∷ bs) d r = record {
        index = index;
        at = subst (λ ls. IsThere case pins ls index (with_claim b.before (reversed b.tried)) bs) (sym with.0) r;
        numbers = subst (MapOf index) (sym with.1) numbers;
        counted = with.2 ∙ counted;
      }

declared_get : (case : Case) (index : List ℕ) (k c : ℕ) (con : Constraint) → slice_get index k ≡ Some c
    → slice_get case.system.constraints c ≡ Some con
    → slice_get (map (declared_at case) index) k ≡ Some (declared_in case.pairs con)
declared_get case index k c con at there =
    slice_get-map (declared_at case) index k ∙ ap (option_map (declared_at case)) at
    ∙ ap (λ o. Some (declared_or case.pairs o)) there

pair_is : (case : Case) (v : ℕ) (p : ℕ × ℕ) → slice_get case.pairs v ≡ Some p → slice_index_or case.pairs v (0, 0) ≡ p
pair_is case v p e = Rattle.std.proofs.lemmas.Option.get_or_from_slice_get case.pairs v p (0, 0) e

claim_is : (case : Case) (v : ℕ) (p : ℕ × ℕ) (s : Order) → slice_get case.pairs v ≡ Some p
    → claim_of case.pairs v s ≡ claim p.0 p.1 s
claim_is case v p s e = ap (λ q. claim q.0 q.1 s) (pair_is case v p e)

pub forced_now : (case : Case) (old new : Maker) (c v k : ℕ) (s : Order) (p : ℕ × ℕ) → slice_get case.pairs v ≡ Some p
    → IsWith old (line.Force p.0 p.1 s k) new
    → (pins held : List Claim) (branches : List Branch) → IsDeclaring case pins held branches c k old
    → CanForce case held c v s → IsMaking case pins (with_claim held (claim_of case.pairs v s)) branches new
forced_now case old new c v k s p faces with pins held branches d can =
    made case pins held branches old new _ with d.index d.at d.numbers d.counted _ branches (
      declared_in case.pairs can.constraint,
      declared_get case d.index k c can.constraint d.is can.there,
      subst (ForcesClaim (declared_in case.pairs can.constraint) held) (claim_is case v p s faces) can.forces,
      ap (λ q. state_of case d.index (with_claim held q) branches) (claim_is case v p s faces),
    )

pub dead_now : (case : Case) (old new : Maker) (c k : ℕ) → IsWith old (line.Dead k) new
    → (pins held : List Claim) (branches : List Branch) → IsDeclaring case pins held branches c k old
    → CanClose case held c → Shuts case pins branches new
dead_now case old new c k with pins held branches d can =
    shut case pins held branches old new _ with d.index d.at d.numbers d.counted (
      declared_in case.pairs can.constraint,
      declared_get case d.index k c can.constraint d.is can.there,
      can.dead,
      refl,
    )

pub tried_now : (case : Case) (old new : Maker) (v : ℕ) (s : Order) (p : ℕ × ℕ) → slice_get case.pairs v ≡ Some p
    → number_of case.pairs p.0 p.1 ≡ Some v → IsWith old (line.Try p.0 p.1 s) new
    → (pins held : List Claim) (branches : List Branch) → IsMaking case pins held branches old
    → IsMaking case pins (with_claim held (claim_of case.pairs v s)) (record { tried = claim_of case.pairs v s; before = held } ∷ branches) new
tried_now case old new v s p faces is with pins held branches m =
    made case pins held branches old new _ with m.index m.at m.numbers m.counted _ _ (
      (v, is),
      ap (λ q. state_of case m.index (with_claim held q) (record { tried = q; before = held } ∷ branches)) (claim_is case v p s faces),
    )

same_edge : (e : ℕ) → is_by e (Crease e) ≡ true
same_edge e = Rattle.std.proofs.lemmas.Bool.eq-eqb e e refl

other_edge : (e : ℕ) (b : GivenBy) → ((d : ℕ) → b ≡ Crease d → d < e) → is_crease b ≡ true → is_by e b ≡ false
other_edge e (Crease d) less c = let l = less d refl in Rattle.std.proofs.lemmas.Bool.ne_eqb e d (λ q. omega (arith, l, q))
other_edge e Pin less c = refl

abbrev Rise : List Given → Type 0
Rise starts = (i j : ℕ) (g h : Given) (d e : ℕ) → i < j → slice_get starts i ≡ Some g → slice_get starts j ≡ Some h
    → g.by ≡ Crease d → h.by ≡ Crease e → d < e

-- the crease of the i-th start says what this start does
pub start_at : (pairs : List (ℕ × ℕ)) (starts : List Given) → Rise starts
    → ((i : ℕ) (g : Given) → slice_get starts i ≡ Some g → is_crease g.by ≡ true)
    → (i : ℕ) (g : Given) (e : ℕ) → slice_get starts i ≡ Some g → g.by ≡ Crease e
    → start_by pairs e starts ≡ Some (claim_of_given pairs g)
start_at pairs [] rise by i g e at is = cc
start_at pairs (h ∷ starts) rise by zero g e at is =
    let same : h ≡ g = cc in
    ap (λ b. cond b (Some (claim_of_given pairs h)) (start_by pairs e starts)) (ap (is_by e) (ap (λ x. x.by) same ∙ is) ∙ same_edge e)
    ∙ ap (λ x. Some (claim_of_given pairs x)) same
start_at pairs (h ∷ starts) rise by (suc i) g e at is =
    ap (λ b. cond b (Some (claim_of_given pairs h)) (start_by pairs e starts))
    (other_edge e h.by (λ d q. rise 0 (suc i) h g d e (omega arith) refl at q is) (by 0 h refl))
    ∙ start_at pairs starts (λ a b x y d f l p q. rise (suc a) (suc b) x y d f (omega (arith, l)) p q)
    (λ j x p. by (suc j) x p) i g e at is

front_at : (xs ys : List Given) (i : ℕ) → i < length xs → slice_get (xs ++ ys) i ≡ slice_get xs i
front_at [] ys i l = absurd (omega (arith, l))
front_at (x ∷ xs) ys zero l = refl
front_at (x ∷ xs) ys (suc i) l = front_at xs ys i (omega (arith, l))

back_at : (xs ys : List Given) (i : ℕ) → length xs ≤ i → slice_get (xs ++ ys) i ≡ slice_get ys (i - length xs)
back_at [] ys i l = ap (slice_get ys) (omega arith)
back_at (x ∷ xs) ys zero l = absurd (omega (arith, l))
back_at (x ∷ xs) ys (suc i) l = back_at xs ys i (omega (arith, l)) ∙ ap (slice_get ys) (omega arith)

dropped : (xs ys : List Given) → drop (length xs) (xs ++ ys) ≡ ys
dropped [] ys = refl
dropped (x ∷ xs) ys = dropped xs ys

crease_isnt_pin : (e : ℕ) → Crease e ≡ Pin → ⊥
crease_isnt_pin e h = cc

-- a given by a crease is one of the starts
pub is_start : (case : Case) (gs : List Given) → AreGivens case gs → (i : ℕ) (g : Given) (e : ℕ) → slice_get gs i ≡ Some g
    → g.by ≡ Crease e → slice_get case.starts i ≡ Some g
is_start case gs are i g e at is = elim (Rattle.std.proofs.lemmas.Bool.cases_lt i (length case.starts)) [
  | inl l ↦ sym (front_at case.starts are.pins i l) ∙ ap (λ xs. slice_get xs i) (sym are.are) ∙ at
  | inr l ↦ absurd (crease_isnt_pin e (sym is ∙ are.by_pins _ g (sym (back_at case.starts are.pins i l) ∙ ap (λ xs. slice_get xs i) (sym are.are) ∙ at)))
]

pub crease_now : (case : Case) (gs : List Given) → AreGivens case gs → (old new : Maker) (i e : ℕ) (h : Given)
    → slice_get gs i ≡ Some h → h.by ≡ Crease e → IsWith old (line.Crease e) new
    → (held : List Claim) (branches : List Branch) → IsMaking case (pin_claims case gs) held branches old
    → (g : Given) → slice_get gs i ≡ Some g → IsMaking case (pin_claims case gs) (with_claim held (claim_of_given case.pairs g)) branches new
crease_now case gs are old new i e h there is with held branches m g at =
    let same : h ≡ g = one h g (sym there ∙ at) in
    made case (pin_claims case gs) held branches old new _ with m.index m.at m.numbers m.counted _ branches (
      claim_of_given case.pairs g,
      start_at case.pairs case.starts case.valid.rising case.valid.by_creases i g e
          (is_start case gs are i g e at (ap (λ x. x.by) (sym same) ∙ is)) (ap (λ x. x.by) (sym same) ∙ is),
      refl,
    )
  where
    one : (x y : Given) → ◌≡◌ {A = Option Given} (Some x) (Some y) → x ≡ y
    one x y e = cc

-- a given by a pin comes after the starts
pub past_starts : (case : Case) (gs : List Given) → AreGivens case gs → (i : ℕ) (g : Given) → slice_get gs i ≡ Some g
    → g.by ≡ Pin → length case.starts ≤ i
past_starts case gs are i g at is = elim (Rattle.std.proofs.lemmas.Bool.cases_lt i (length case.starts)) [
  | inl l ↦ absurd (pin_isnt_crease (case.valid.by_creases i g (sym (front_at case.starts are.pins i l) ∙ ap (λ xs. slice_get xs i) (sym are.are) ∙ at)) is)
  | inr l ↦ l
]
  where
    pin_isnt_crease : is_crease g.by ≡ true → g.by ≡ Pin → ⊥
    pin_isnt_crease c p = Rattle.std.proofs.Common.true≢false (sym c ∙ ap is_crease p)

pub pin_now : (case : Case) (gs : List Given) → AreGivens case gs → (old new : Maker) (i : ℕ) (h : Given)
    → slice_get gs i ≡ Some h → h.by ≡ Pin → IsWith old (line.Pin (i - length case.starts)) new
    → (held : List Claim) (branches : List Branch) → IsMaking case (pin_claims case gs) held branches old
    → (g : Given) → slice_get gs i ≡ Some g → IsMaking case (pin_claims case gs) (with_claim held (claim_of_given case.pairs g)) branches new
pin_now case gs are old new i h there is with held branches m g at =
    let past = past_starts case gs are i h there is in
    made case (pin_claims case gs) held branches old new _ with m.index m.at m.numbers m.counted _ branches (
      claim_of_given case.pairs g,
      slice_get-map (claim_of_given case.pairs) (drop (length case.starts) gs) (i - length case.starts)
          ∙ ap (option_map (claim_of_given case.pairs))
          (ap (λ xs. slice_get xs (i - length case.starts)) (ap (drop (length case.starts)) are.are ∙ dropped case.starts are.pins)
          ∙ sym (back_at case.starts are.pins i past) ∙ ap (λ xs. slice_get xs i) (sym are.are) ∙ at),
      refl,
    )

read : (gs slice : List Given) → slice ≡ gs → (i : ℕ) (d : Given) → i < length gs → slice_get gs i ≡ Some (slice_index_or slice i d)
read gs slice same i d l = slice_get-get_or gs i d l ∙ ap (λ xs. Some (slice_index_or xs i d)) (sym same)

pub crease_given : (case : Case) (gs slice : List Given) → AreGivens case gs → slice ≡ gs → (old new : Maker) (i e : ℕ) (d : Given)
    → i < length gs → (slice_index_or slice i d).by ≡ Crease e → (l : LogLine) → l ≡ line.Crease e
    → IsWith old l new
    → (held : List Claim) (branches : List Branch) → IsMaking case (pin_claims case gs) held branches old
    → (g : Given) → slice_get gs i ≡ Some g → IsMaking case (pin_claims case gs) (with_claim held (claim_of_given case.pairs g)) branches new
crease_given case gs slice are same old new i e d l is l1 l1is with held branches m g at =
    crease_now case gs are old new i e (slice_index_or slice i d) (read gs slice same i d l) is (subst (λ q. IsWith old q new) l1is with) held branches m g at

pub pin_given : (case : Case) (gs slice : List Given) (starts : List Given) → AreGivens case gs → slice ≡ gs → starts ≡ case.starts
    → (old new : Maker) (i : ℕ) (d : Given)
    → i < length gs → (slice_index_or slice i d).by ≡ Pin → (l : LogLine) → l ≡ line.Pin (i - length starts)
    → IsWith old l new
    → (held : List Claim) (branches : List Branch) → IsMaking case (pin_claims case gs) held branches old
    → (g : Given) → slice_get gs i ≡ Some g → IsMaking case (pin_claims case gs) (with_claim held (claim_of_given case.pairs g)) branches new
pin_given case gs slice starts are same starts_are old new i d l is l1 l1is with held branches m g at =
    pin_now case gs are old new i (slice_index_or slice i d) (read gs slice same i d l) is
    (subst (λ q. IsWith old q new) (l1is ∙ ap (λ xs. line.Pin (i - length xs)) starts_are) with) held branches m g at

pub past_given : (case : Case) (gs slice starts : List Given) → AreGivens case gs → slice ≡ gs → starts ≡ case.starts → (i : ℕ) (d : Given)
    → i < length gs → (slice_index_or slice i d).by ≡ Pin → length starts ≤ i
past_given case gs slice starts are same starts_are i d l is =
    subst (λ xs. length xs ≤ i) (sym starts_are) (past_starts case gs are i (slice_index_or slice i d) (read gs slice same i d l) is)

pub clash_now : (case : Case) (old new : Maker) (v : ℕ) (p : ℕ × ℕ) → slice_get case.pairs v ≡ Some p
    → IsWith old (line.Clash p.0 p.1) new
    → (pins held : List Claim) (branches : List Branch) → IsMaking case pins held branches old
    → Holds held (claim_of case.pairs v Above) → Holds held (claim_of case.pairs v Below)
    → Shuts case pins branches new
clash_now case old new v p faces with pins held branches m a b =
    shut case pins held branches old new _ with m.index m.at m.numbers m.counted (
      subst (Holds held) (claim_is case v p Above faces) a,
      subst (Holds held) (claim_is case v p Below faces) b,
      refl,
    )
