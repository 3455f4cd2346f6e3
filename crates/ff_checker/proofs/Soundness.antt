-- A log that closes leaves no order of the faces that meets what it rests on.
use Rattle.std.proofs.Common.{◌≡◌, ℕ, zero, suc, ◌<◌, inl, inr, Bool, true, false, not, List, [], ◌∷◌, ◌++◌, length, Some, refl, sym, ap, subst, ◌∙◌, IsTrue}
use Rattle.std.specs.Prelude.{slice_get}
use Rattle.std.proofs.lemmas.Bool.{false≢true}
use Rattle.ff_basics.proofs.Options.{none_some}
use Rattle.ff_tables.specs.declared.orders.Order.{Order}
use Rattle.ff_tables.specs.declared.orders.Order.TheVariants.{Below, Above}
use Rattle.ff_tables.specs.Orders.{row_at}
use Rattle.ff_tables.specs.Rows.{HasRow}
use Rattle.ff_types.specs.declared.cites.Cite.{Cite}
use Rattle.ff_log.specs.declared.logs.LogLine.{LogLine}
use Rattle.ff_log.specs.declared.logs.LogLine.TheVariants as line
use Rattle.ff_log.specs.declared.claims.Claim.{Claim}
use Rattle.ff_log.specs.declared.claims.Declared.{Declared}
use Rattle.ff_log.specs.Logs.{claim, reversed, holds, with_claim, claim_at, Agrees, ForcesClaim, IsDead, Branch, State, start, hold, close_from, Ground, Does, Reaches, Closes}
use Rattle.ff_checker.proofs.Claims.{held_before}

-- the order of faces has the claim
abbrev pub Says : (ℕ → ℕ → Bool) → Claim → Type 0
Says v c = IsTrue (v c.upper c.lower)

-- of the claim and its opposite it has one
abbrev pub SaysOne : (ℕ → ℕ → Bool) → Claim → Type 0
SaysOne v c = v c.lower c.upper ≡ not (v c.upper c.lower)

abbrev pub AllSaid : (ℕ → ℕ → Bool) → List Claim → Type 0
AllSaid v held = (c : Claim) → IsTrue (holds held c) → Says v c

-- its values at the constraint's terms are a row
pub record IsMet (v : ℕ → ℕ → Bool) (d : Declared) : Type 0 where
  pub number : ℕ
  pub row : List Order
  pub is_row : HasRow d.kind number row
  pub fits : (j : ℕ) (b : Order) → j < length d.terms → Says v (claim_at d j b) → row_at row j ≡ b
  pub tells : (j : ℕ) → j < length d.terms → Says v (claim_at d j (row_at row j))

-- it meets all that a log may rest on
pub record Rests (ground : Ground) (v : ℕ → ℕ → Bool) : Type 0 where
  pub uses : (c : Cite) (d : Declared) → ground.uses c d → IsMet v d
  pub crease : (e : ℕ) (c : Claim) → ground.crease e ≡ Some c → Says v c
  pub pins : (i : ℕ) (c : Claim) → slice_get ground.pins i ≡ Some c → Says v c
  pub one_way : (f h : ℕ) → IsTrue (v f h) → IsTrue (v h f) → ⊥
  pub tries : (f h : ℕ) (b : Order) → ground.may_try f h → SaysOne v (claim f h b)

-- all that is tried in the open branches is so
abbrev pub TriedSaid : (ℕ → ℕ → Bool) → List Branch → Type 0
TriedSaid v [] = Unit {0}
TriedSaid v (b ∷ bs) = Says v b.tried × TriedSaid v bs

-- What holds in each branch follows from what is tried in it and round it.
abbrev pub Follows : (ℕ → ℕ → Bool) → List Claim → List Branch → Type 0
Follows v held [] = AllSaid v held
Follows v held (b ∷ bs) = (Says v b.tried → TriedSaid v bs → AllSaid v held) × SaysOne v b.tried × Follows v b.before bs

pub record IsSound (v : ℕ → ℕ → Bool) (s : State) : Type 0 where
  pub met : (k : ℕ) (d : Declared) → slice_get s.declared k ≡ Some d → IsMet v d
  pub follows : Follows v s.held s.branches
  pub going : s.ended ≡ true → ⊥

all_said : (v : ℕ → ℕ → Bool) (held : List Claim) (bs : List Branch) → Follows v held bs → TriedSaid v bs → AllSaid v held
all_said v held [] f t = f
all_said v held (b ∷ bs) f t = f.0 t.0 t.1

said_with : (v : ℕ → ℕ → Bool) (held : List Claim) (c : Claim) → AllSaid v held → Says v c → AllSaid v (with_claim held c)
said_with v held c all says d h = elim (held_before held c d h) [ inl e ↦ all d e | inr e ↦ subst (Says v) e says ]

follows_with : (v : ℕ → ℕ → Bool) (held : List Claim) (bs : List Branch) (c : Claim) → Follows v held bs → (TriedSaid v bs → Says v c)
    → Follows v (with_claim held c) bs
follows_with v held [] c f says = said_with v held c f (says tt)
follows_with v held (b ∷ bs) c f says = ((λ t ts. said_with v held c (f.0 t ts) (says (t, ts))), f.1, f.2)

met_with : (v : ℕ → ℕ → Bool) (ds : List Declared) (d : Declared) → ((k : ℕ) (e : Declared) → slice_get ds k ≡ Some e → IsMet v e) → IsMet v d
    → (k : ℕ) (e : Declared) → slice_get (ds ++ d ∷ []) k ≡ Some e → IsMet v e
met_with v [] d met m zero e h = let q : d ≡ e = cc in subst (IsMet v) q m
met_with v [] d met m (suc k) e h = cc
met_with v (x ∷ ds) d met m zero e h = met 0 e h
met_with v (x ∷ ds) d met m (suc k) e h = met_with v ds d (λ j. met (suc j)) m k e h

agrees : (v : ℕ → ℕ → Bool) (d : Declared) (held : List Claim) (m : IsMet v d) → AllSaid v held → Agrees d held m.row
agrees v d held m all j b within h = m.fits j b within (all (claim_at d j b) h)

forced_said : (v : ℕ → ℕ → Bool) (d : Declared) (held : List Claim) (c : Claim) → IsMet v d → AllSaid v held → ForcesClaim d held c → Says v c
forced_said v d held c m all f =
    let value : row_at m.row f.place ≡ f.value = f.only m.number m.row m.is_row (agrees v d held m all) in
    subst (Says v) (ap (claim_at d f.place) value ∙ f.says) (m.tells f.place f.within)

dead_never : (v : ℕ → ℕ → Bool) (d : Declared) (held : List Claim) → IsMet v d → AllSaid v held → IsDead d held → ⊥
dead_never v d held m all dead = dead m.number m.row m.is_row (agrees v d held m all)

-- the claim or its opposite
opposite_said : (a b : Bool) → b ≡ not a → (IsTrue a → ⊥) → IsTrue b
opposite_said true b one k = absurd (k refl)
opposite_said false b one _ = one

closed_sound : (v : ℕ → ℕ → Bool) (s : State) (bs : List Branch) → IsSound v s → s.branches ≡ bs → (TriedSaid v bs → ⊥) → IsSound v (close_from s bs)
closed_sound v s [] sound is none = absurd (none tt)
closed_sound v s (b ∷ bs) sound is none =
    let f : Follows v s.held (b ∷ bs) = subst (Follows v s.held) is sound.follows in
    record {
      met = sound.met;
      follows = follows_with v b.before bs (reversed b.tried) f.2
          (λ ts. opposite_said (v b.tried.upper b.tried.lower) (v b.tried.lower b.tried.upper) f.1 (λ t. none (t, ts)));
      going = sound.going;
    }

module _ (ground : Ground) (v : ℕ → ℕ → Bool) (rests : Rests ground v) where
  held_sound : (s : State) (c : Claim) → IsSound v s → (TriedSaid v s.branches → Says v c) → IsSound v (hold s c)
  held_sound s c sound says = record { met = sound.met; follows = follows_with v s.held s.branches c sound.follows says; going = sound.going }

  does_sound : (s : State) (l : LogLine) (after : State) → IsSound v s → Does ground s l after → IsSound v after
  does_sound s (line.Use c) after sound (d, uses, is) = subst (IsSound v) (sym is)
      (record { met = met_with v s.declared d sound.met (rests.uses c d uses); follows = sound.follows; going = sound.going })
  does_sound s (line.Crease e) after sound (c, given, is) = subst (IsSound v) (sym is) (held_sound s c sound (λ _. rests.crease e c given))
  does_sound s (line.Pin i) after sound (c, given, is) = subst (IsSound v) (sym is) (held_sound s c sound (λ _. rests.pins i c given))
  does_sound s (line.Force f g value k) after sound (d, there, forces, is) = subst (IsSound v) (sym is)
      (held_sound s (claim f g value) sound (λ ts.
      forced_said v d s.held (claim f g value) (sound.met k d there) (all_said v s.held s.branches sound.follows ts) forces))
  does_sound s (line.Try f g value) after sound (may, is) = subst (IsSound v) (sym is) (record {
    met = sound.met;
    follows = (
      (λ t ts. said_with v s.held (claim f g value) (all_said v s.held s.branches sound.follows ts) t),
      rests.tries f g value may,
      sound.follows,
    );
    going = sound.going;
  })
  does_sound s (line.Dead k) after sound (d, there, dead, is) = subst (IsSound v) (sym is)
      (closed_sound v s s.branches sound refl (λ ts.
      dead_never v d s.held (sound.met k d there) (all_said v s.held s.branches sound.follows ts) dead))
  does_sound s (line.Clash f g) after sound (above, below, is) = subst (IsSound v) (sym is)
      (closed_sound v s s.branches sound refl (λ ts.
      rests.one_way f g (all_said v s.held s.branches sound.follows ts (claim f g Above) above)
      (all_said v s.held s.branches sound.follows ts (claim f g Below) below)))

  reaches_sound : (s : State) (lines : List LogLine) (after : State) → IsSound v s → Reaches ground s lines after → IsSound v after
  reaches_sound s [] after sound is = subst (IsSound v) (sym is) sound
  reaches_sound s (l ∷ lines) after sound (m, takes, rest) = reaches_sound m lines after (does_sound s l m sound takes.does) rest

  start_sound : IsSound v start
  start_sound = record { met = λ k d h. absurd (none_some d h); follows = λ c h. absurd (false≢true h); going = false≢true }

  -- no such order of the faces
  pub closes_refutes : (lines : List LogLine) → Closes ground lines → ⊥
  closes_refutes lines closes = (reaches_sound start lines closes.state start_sound closes.reached).going closes.ended
