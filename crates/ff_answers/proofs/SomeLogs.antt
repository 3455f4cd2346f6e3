-- Where no assignment is allowed, it can't be that no log is accepted: one that tries both values of each variable.
use Rattle.std.proofs.Common.{◌≡◌, ◌≢◌, ◌⊎◌, inl, inr, ℕ, zero, suc, ◌<◌, ◌≤◌, ◌==◌, ◌∙◌, Bool, true, false, if◌then◌else◌, List, [], ◌∷◌, ◌++◌, length, slice_get, Option, Some, None, refl, ap, sym, subst, arith}
use Rattle.std.proofs.lemmas.Bool.{false≢true}
use Rattle.std.proofs.lemmas.Option.{slice_get_within, slice_get-get_or}
use Rattle.ff_basics.proofs.Lists.{get_last}
use Rattle.ff_basics.proofs.Numbers.{at_most_or, same_or}
use Rattle.ff_tables.specs.declared.orders.Order.{Order}
use Rattle.ff_tables.specs.declared.orders.Order.TheVariants.{Below, Above}
use Rattle.ff_tables.specs.declared.terms.Constraint.{Constraint}
use Rattle.ff_tables.specs.declared.givens.Given.{Given}
use Rattle.ff_tables.specs.declared.givens.GivenBy.{GivenBy}
use Rattle.ff_tables.specs.declared.givens.GivenBy.TheVariants.{Crease, Pin}
use Rattle.ff_tables.specs.Forces.{Meets, SomeAgrees, NoneAgrees}
use Rattle.ff_types.specs.declared.cites.Cite.{Cite}
use Rattle.ff_types.specs.declared.cases.Case.{Case}
use Rattle.ff_types.specs.CaseFields.{is_crease}
use Rattle.ff_types.specs.Pairs.{AreSorted, pair_at}
use Rattle.ff_types.proofs.SortedPairs.{number_there}
use Rattle.ff_parts.specs.Factors.{IsAllowed}
use Rattle.ff_log.specs.declared.claims.Claim.{Claim}
use Rattle.ff_log.specs.declared.claims.Declared.{Declared}
use Rattle.ff_log.specs.declared.logs.LogLine.{LogLine}
use Rattle.ff_log.specs.declared.logs.LogLine.TheVariants as line
use Rattle.ff_log.specs.Logs.{claim, with_claim, reversed, Branch, State, start, declare, hold, IsDead, open_branch, close, close_from, Ground, Takes, Reaches, Closes}
use Rattle.ff_log.specs.Grounds.{case_ground, claim_of_given, declared_in, IsAcceptedIn}
use Rattle.ff_refute.specs.Making.{claim_of, Holds}
use Rattle.ff_refute.proofs.Claims.{dead_claims, holds_more, holds_now}
use Rattle.ff_refute.proofs.Makes.{start_at}
use Rattle.ff_answers.proofs.Deciding.{each_below, either_way}

reach_all : (ground : Ground) (s m t : State) (xs ys : List LogLine) → Reaches ground s xs m → Reaches ground m ys t → Reaches ground s (xs ++ ys) t
reach_all ground s m t [] ys e r = subst (λ (q : State). Reaches ground q ys t) e r
reach_all ground s m t (x ∷ xs) ys (n, took, rest) r = (n, took, reach_all ground n m t xs ys rest r)

-- the assignment with another value at one variable
abbrev put : (ℕ → Order) → ℕ → Order → ℕ → Order
put a v s u = if u == v then s else a u

put_here : (a : ℕ → Order) (v : ℕ) (s : Order) → put a v s v ≡ s
put_here a v s = ap (λ (b : Bool). if b then s else a v) (Rattle.std.proofs.lemmas.Bool.eq-eqb v v refl)

put_other : (a : ℕ → Order) (v : ℕ) (s : Order) (u : ℕ) → u ≢ v → put a v s u ≡ a u
put_other a v s u n = ap (λ (b : Bool). if b then s else a u) (Rattle.std.proofs.lemmas.Bool.ne_eqb u v n)

-- the lines shut the level at which the state is
record Shuts (ground : Ground) (s : State) : Type 0 where
  lines : List LogLine
  last : State
  reached : Reaches ground s lines (close last)
  branches : last.branches ≡ s.branches
  going : last.ended ≡ false

both_orders : (s t : Order) → (s ≡ t) ⊎ (((s ≡ Below) × (t ≡ Above)) ⊎ ((s ≡ Above) × (t ≡ Below)))
both_orders Below Below = inl refl
both_orders Above Above = inl refl
both_orders Below Above = inr (inl (refl, refl))
both_orders Above Below = inr (inr (refl, refl))

module _ (case : Case) (sorted : AreSorted case.pairs) where
  abbrev ground : Ground
  ground = case_ground case []

  -- from the n-th on the values of the assignment hold
  abbrev Told : State → (ℕ → Order) → ℕ → Type 0
  Told s a n = (v : ℕ) → n ≤ v → v < case.system.vars → Holds s.held (claim_of case.pairs v (a v))

  -- a constraint that the assignment doesn't meet is dead
  shut_dead : (s : State) (a : ℕ → Order) → s.ended ≡ false → Told s a 0 → (c : ℕ) (con : Constraint) (cite : Cite) → slice_get case.system.constraints c ≡ Some con
      → slice_get case.cites c ≡ Some cite → NoneAgrees con.kind con.terms (λ v t. a v ≡ t) → Shuts ground s
  shut_dead s a going told c con cite there cited none = record {
    lines = line.Use cite ∷ line.Dead (length s.declared) ∷ [];
    last = declare s (declared_in case.pairs con);
    reached = (
      declare s (declared_in case.pairs con),
      record { going = going; does = (declared_in case.pairs con, record { place = c; constraint = con; cited = cited; there = there; is = refl }, refl) },
      (close (declare s (declared_in case.pairs con)), record { going = going; does = (declared_in case.pairs con, get_last s.declared (declared_in case.pairs con), dead, refl) }, refl),
    );
    branches = refl;
    going = going;
  } where
    dead : IsDead (declared_in case.pairs con) s.held
    dead = dead_claims case.pairs con s.held (λ v t. (v < case.system.vars) × (a v ≡ t))
        (λ v t k. subst (λ (x : Order). Holds s.held (claim_of case.pairs v x)) k.1 (told v (omega arith) k.0))
        (λ k row has agrees. none k row has (λ j b l e. agrees j b l ((case.system.fit c con there).within j l, e)))

  -- a start of another value than the assignment's clashes
  shut_start : (s : State) (a : ℕ → Order) → s.ended ≡ false → Told s a 0 → (i : ℕ) (g : Given) (e : ℕ) → slice_get case.starts i ≡ Some g → g.by ≡ Crease e
      → ((a g.var ≡ Below) × (g.value ≡ Above)) ⊎ ((a g.var ≡ Above) × (g.value ≡ Below)) → Shuts ground s
  shut_start s a going told i g e there by differ = record {
    lines = line.Crease e ∷ line.Clash (pair_at case.pairs g.var).0 (pair_at case.pairs g.var).1 ∷ [];
    last = hold s (claim_of_given case.pairs g);
    reached = (
      hold s (claim_of_given case.pairs g),
      record { going = going; does = (claim_of_given case.pairs g, start_at case.pairs case.starts case.valid.rising case.valid.by_creases i g e there by, refl) },
      (close (hold s (claim_of_given case.pairs g)), record { going = going; does = ((both differ).0, (both differ).1, refl) }, refl),
    );
    branches = refl;
    going = going;
  } where
    now : Holds (with_claim s.held (claim_of_given case.pairs g)) (claim_of case.pairs g.var g.value)
    now = holds_now (claim_of_given case.pairs g) s.held

    before : Holds (with_claim s.held (claim_of_given case.pairs g)) (claim_of case.pairs g.var (a g.var))
    before = holds_more (claim_of_given case.pairs g) (claim_of case.pairs g.var (a g.var)) s.held (told g.var (omega arith) (case.valid.fit i g there))

    both : ((a g.var ≡ Below) × (g.value ≡ Above)) ⊎ ((a g.var ≡ Above) × (g.value ≡ Below))
        → Holds (with_claim s.held (claim_of_given case.pairs g)) (claim_of case.pairs g.var Above)
        × Holds (with_claim s.held (claim_of_given case.pairs g)) (claim_of case.pairs g.var Below)
    both (inl (x, y)) = (
      subst (λ (t : Order). Holds (with_claim s.held (claim_of_given case.pairs g)) (claim_of case.pairs g.var t)) y now,
      subst (λ (t : Order). Holds (with_claim s.held (claim_of_given case.pairs g)) (claim_of case.pairs g.var t)) x before,
    )
    both (inr (x, y)) = (
      subst (λ (t : Order). Holds (with_claim s.held (claim_of_given case.pairs g)) (claim_of case.pairs g.var t)) x before,
      subst (λ (t : Order). Holds (with_claim s.held (claim_of_given case.pairs g)) (claim_of case.pairs g.var t)) y now,
    )

  crease_of : (b : GivenBy) → is_crease b ≡ true → (e : ℕ) × (b ≡ Crease e)
  crease_of (Crease e) h = (e, refl)
  crease_of Pin h = absurd (false≢true h)

  -- an assignment that is told whole isn't allowed only where something shuts
  module _ (none : (a : ℕ → Order) → IsAllowed case.system.constraints case.starts a → ⊥) where
    shut_whole : (s : State) (a : ℕ → Order) → s.ended ≡ false → Told s a 0 → (Shuts ground s → ⊥) → ⊥
    shut_whole s a going told k = each_below (length case.system.constraints) Met met (λ all. none a (record { meets = λ c con there. all c (slice_get_within case.system.constraints c con there) con there; holds = holds })) where
      Met : ℕ → Type 0
      Met c = (con : Constraint) → slice_get case.system.constraints c ≡ Some con → SomeAgrees con.kind con.terms (λ v t. a v ≡ t)

      some_there : {A : Type 0} (xs : List A) (n : ℕ) → n < length xs → (x : A) × (slice_get xs n ≡ Some x)
      some_there [] n l = absurd (omega (arith, l))
      some_there (x ∷ xs) zero l = (x, refl)
      some_there (x ∷ xs) (suc n) l = some_there xs n (omega (arith, l))

      same : {A : Type 0} {x y : A} → Some x ≡ Some y → x ≡ y
      same e = cc

      met : (c : ℕ) → c < length case.system.constraints → (Met c → ⊥) → ⊥
      met c l unmet = let con = some_there case.system.constraints c l in
          let cite = some_there case.cites c (omega (arith, l, case.valid.cited)) in
          either_way (SomeAgrees con.0.kind con.0.terms (λ v t. a v ≡ t)) (by con cite) where
            by : (con : (x : Constraint) × (slice_get case.system.constraints c ≡ Some x)) → (cite : (x : Cite) × (slice_get case.cites c ≡ Some x))
                → SomeAgrees con.0.kind con.0.terms (λ v t. a v ≡ t) ⊎ (SomeAgrees con.0.kind con.0.terms (λ v t. a v ≡ t) → ⊥) → ⊥
            by con cite (inl some) = unmet (λ d there. subst (λ (x : Constraint). SomeAgrees x.kind x.terms (λ v t. a v ≡ t)) (same (sym con.1 ∙ there)) some)
            by con cite (inr n) = k (shut_dead s a going told c con.0 cite.0 con.1 cite.1 (λ row_number row has agrees. n (row_number, row, has, agrees)))

      holds : (i : ℕ) (g : Given) → slice_get case.starts i ≡ Some g → Some (a g.var) ≡ Some g.value
      holds i g there = elim (both_orders (a g.var) g.value) [
        | inl e ↦ ap Some e
        | inr differ ↦ let by = crease_of g.by (case.valid.by_creases i g there) in absurd (k (shut_start s a going told i g by.0 there by.1 differ))
      ]

    -- both values of the variable are tried
    shut_both : (m : ℕ) (s : State) → s.ended ≡ false → m < case.system.vars
        → (first : Shuts ground (open_branch s (claim_of case.pairs m Below)))
        → Shuts ground (record first.last { held = with_claim s.held (claim_of case.pairs m Above); branches = s.branches }) → Shuts ground s
    shut_both m s going l first second = record {
      lines = line.Try (pair_at case.pairs m).0 (pair_at case.pairs m).1 Below ∷ (first.lines ++ second.lines);
      last = second.last;
      reached = (
        open_branch s (claim_of case.pairs m Below),
        record { going = going; does = ((m, number_there case.pairs m (pair_at case.pairs m) sorted (slice_get-get_or case.pairs m (0, 0) (omega (arith, l, case.valid.paired)))), refl) },
        reach_all ground (open_branch s (claim_of case.pairs m Below)) (close first.last) (close second.last) first.lines second.lines first.reached
            (subst (λ (q : State). Reaches ground q second.lines (close second.last)) (sym closed) second.reached),
      );
      branches = second.branches;
      going = second.going;
    } where
      closed : close first.last ≡ record first.last { held = with_claim s.held (claim_of case.pairs m Above); branches = s.branches }
      closed = ap (close_from first.last) first.branches

    -- from the values of the variables from n on
    shut : (n : ℕ) (s : State) (a : ℕ → Order) → s.ended ≡ false → Told s a n → (Shuts ground s → ⊥) → ⊥
    shut zero s a going told k = shut_whole s a going told k
    shut (suc m) s a going told k = elim (at_most_or case.system.vars m) [
      | inl l ↦ shut m s a going (λ v p q. told v (omega (arith, l, p, q)) q) k
      | inr l ↦ shut m (open_branch s (claim_of case.pairs m Below)) (put a m Below) going (tell Below)
          (λ first. shut m (record first.last { held = with_claim s.held (claim_of case.pairs m Above); branches = s.branches }) (put a m Above) first.going (tell Above)
          (λ second. k (shut_both m s going l first second)))
    ] where
      tell : (t : Order) → (v : ℕ) → m ≤ v → v < case.system.vars → Holds (with_claim s.held (claim_of case.pairs m t)) (claim_of case.pairs v (put a m t v))
      tell t v p q = elim (same_or v m) [
        | inl n ↦ subst (λ (x : Order). Holds (with_claim s.held (claim_of case.pairs m t)) (claim_of case.pairs v x)) (sym (put_other a m t v n))
            (holds_more (claim_of case.pairs m t) (claim_of case.pairs v (a v)) s.held (told v (omega (arith, p, n)) q))
        | inr e ↦ subst (λ (u : ℕ). Holds (with_claim s.held (claim_of case.pairs m t)) (claim_of case.pairs u (put a m t u))) (sym e)
            (subst (λ (x : Order). Holds (with_claim s.held (claim_of case.pairs m t)) (claim_of case.pairs m x)) (sym (put_here a m t)) (holds_now (claim_of case.pairs m t) s.held))
      ]

    pub some_log : ((log : List LogLine) → IsAcceptedIn case [] log → ⊥) → ⊥
    some_log k = shut case.system.vars start (λ v. Below) refl (λ v p q. absurd (omega (arith, p, q)))
        (λ h. k h.lines (record { state = close h.last; reached = h.reached; ended = ap (λ (bs : List Branch). (close_from h.last bs).ended) h.branches }))
