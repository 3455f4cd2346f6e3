-- The steps of a refutation, one more.
use Rattle.std.proofs.Common.{◌≡◌, ℕ, suc, ◌+◌, ◌<◌, ◌≤◌, ◌==◌, inl, inr, Bool, true, false, List, [], ◌∷◌, ◌++◌, length, reverse, drop, get_or, slice_index, slice_get, refl, sym, ap, ◌∙◌, subst, arith, Option, Some, None, if◌then◌else◌, Contains}
use Rattle.std.proofs.lemmas.Bool.{cases_eq, ne_eqb}
use Rattle.std.proofs.lemmas.Option.{slice_get_within}
use Rattle.std.proofs.lemmas.List.{append_assoc, drop_more}
use Rattle.ff_basics.proofs.Options.{some_same}
use Rattle.ff_tables.specs.declared.orders.Order.{Order}
use Rattle.ff_tables.specs.declared.orders.Order.TheVariants.{Below, Above}
use Rattle.ff_tables.specs.declared.terms.Constraint.{Constraint}
use Rattle.ff_propagate.specs.declared.trail.Step.{Step as TrailStep}
use Rattle.ff_propagate.specs.declared.trail.Trail.{Trail}
use Rattle.ff_propagate.specs.Trails.{known, step_at, without, cut, IsTrail, IsForcedAt, Grows, IsDead}
use Rattle.ff_solver.specs.declared.path.Path.{Path}
use Rattle.ff_solver.specs.declared.refuting.Naming.{Naming}
use Rattle.ff_solver.specs.declared.steps.Step.{Step}
use Rattle.ff_solver.specs.declared.steps.Step.TheVariants as step
use Rattle.ff_solver.specs.Paths.{AreMarks, IsPath}
use Rattle.ff_solver.specs.Moves.{Alike, IsBranched, IsTakenUp, GoesBack}
use Rattle.ff_solver.specs.Steps.{knows, IsForcedBy, IsDeadBy, Runs}
use Rattle.ff_solver.specs.Refuting.{IsNaming, Leads, Told, IsNoted, IsStacked, AreStacked, IsDown, IsAt}
use Rattle.ff_solver.proofs.Listing.{tried_now, tried_before}
use Rattle.ff_solver.proofs.Branching.{AreAlike, below_bound, cut_now, known_set, known_other, last_var, longer, set_alike, taken_alike, reverse_push, middle, marks_alike}
use Rattle.ff_solver.proofs.Visited.{grows_alike}
use Rattle.ff_solver.proofs.Renaming.{forced_there, dead_there}

-- what came to hold since changes nothing of what was known
known_more : (value : ℕ → Option Order) (held : List (ℕ × Order)) (v : ℕ) (s : Order) (u : ℕ) (t : Order)
    → knows value held u t → knows value ((v, s) ∷ held) u t
known_more value held v s u t (inl e) = inl e
known_more value held v s u t (inr among) = inr (tried_before v s held u t among)

-- a value more is known of an own variable
told_more : (names : List ℕ) (value : ℕ → Option Order) (held : List (ℕ × Order)) (f g : ℕ → Option Order) (x : ℕ) (s : Order)
    → Told names value held f → g x ≡ Some s → ((w : ℕ) → (w ≡ x → ⊥) → g w ≡ f w)
    → Told names value ((slice_index names x, s) ∷ held) g
told_more names value held f g x s told here other u t e = elim (cases_eq u x) [
  | inl q ↦ (let same : s ≡ t = some_same (sym here ∙ ap g (sym q) ∙ e) in
      inr (subst (λ b. Contains ((slice_index names x, s) ∷ held) (slice_index names u, b)) same
      (subst (λ w. Contains ((slice_index names x, s) ∷ held) (slice_index names w, s)) (sym q)
      (tried_now (slice_index names x) s held))))
  | inr n ↦ known_more value held (slice_index names x) s (slice_index names u) t (told u t (sym (other u n) ∙ e))
]

told_alike : (names : List ℕ) (value : ℕ → Option Order) (held : List (ℕ × Order)) (f g : ℕ → Option Order) → Alike f g
    → Told names value held f → Told names value held g
told_alike names value held f g alike told u s e = told u s (sym (alike u) ∙ e)

-- one step less is known
cut_less : (t : Trail) (i : ℕ) → i < length t.steps.items → (w : ℕ) → (w ≡ (step_at t i).var → ⊥) → cut t (suc i) w ≡ cut t i w
cut_less t i l w n =
    let e : i + 1 ≡ suc i = omega arith in
    sym (ap (λ ss. without (known t) ss w) (drop_more t.steps.items i (record { var = 0; by = None }) l)
    ∙ ap (λ b. if b then None else without (known t) (drop (i + 1) t.steps.items) w)
    (ne_eqb (step_at t i).var w (λ q. n (sym q)))
    ∙ ap (λ k. cut t k w) e)

module _ (n : Naming) (value : ℕ → Option Order) where
  leads_on : (held more : List (ℕ × Order)) (stack deep : List (List (ℕ × Order))) (steps : List Step) (q : Step)
      → Leads n value held stack steps
      → ((rest : List Step) → Runs n.case.now.system.vars n.case.now.system.constraints value more deep rest
      → Runs n.case.now.system.vars n.case.now.system.constraints value held stack (q ∷ rest))
      → Leads n value more deep (steps ++ q ∷ [])
  leads_on held more stack deep steps q leads one rest runs =
      subst (λ qs. Runs n.case.now.system.vars n.case.now.system.constraints value [] [] qs) (sym (append_assoc steps (q ∷ []) rest))
      (leads (q ∷ rest) (one rest runs))

  -- a forced value is noted
  pub forced_noted : IsNaming n → (t : Trail) (stack : List (List (ℕ × Order))) (old new : List Step) (i : ℕ)
      → i < length t.steps.items → (f : IsForcedAt n.own.now.constraints t i) → (x : ℕ) → x ≡ (step_at t i).var → (s : Order) → f.value ≡ s
      → (by : ℕ) → by ≡ f.number
      → new ≡ old ++ step.Set (slice_index n.names.now x) s (slice_index n.numbers.now by) ∷ []
      → IsNoted n value t stack old i → IsNoted n value t stack new (i + 1)
  forced_noted naming t stack old new i l f x at s is by number pushed noted =
      let forces = forced_there n.case.now.system.vars n.case.now.system.constraints n.own.now.constraints n.case.now.system.fit
      n.numbers.now naming.part n.names.now naming.copied (cut t i) (knows value noted.held) noted.told
      f.number f.constraint f.there (step_at t i).var f.value f.forces in
      let told : Told n.names.now value ((slice_index n.names.now (step_at t i).var, f.value) ∷ noted.held) (cut t (suc i)) =
      told_more n.names.now value noted.held (cut t i) (cut t (suc i)) (step_at t i).var f.value noted.told f.given (cut_less t i l) in
      let leads : Leads n value ((slice_index n.names.now (step_at t i).var, f.value) ∷ noted.held) stack
      (old ++ step.Set (slice_index n.names.now (step_at t i).var) f.value (slice_index n.numbers.now f.number) ∷ []) =
      leads_on noted.held ((slice_index n.names.now (step_at t i).var, f.value) ∷ noted.held) stack stack old
      (step.Set (slice_index n.names.now (step_at t i).var) f.value (slice_index n.numbers.now f.number)) noted.leads
      (λ rest runs. (forces.within, forces.forced, runs)) in
      let same : old ++ step.Set (slice_index n.names.now (step_at t i).var) f.value (slice_index n.numbers.now f.number) ∷ [] ≡ new =
      ap (λ y. old ++ step.Set (slice_index n.names.now y) f.value (slice_index n.numbers.now f.number) ∷ []) (sym at)
      ∙ ap (λ b. old ++ step.Set (slice_index n.names.now x) b (slice_index n.numbers.now f.number) ∷ []) is
      ∙ ap (λ k. old ++ step.Set (slice_index n.names.now x) s (slice_index n.numbers.now k) ∷ []) (sym number)
      ∙ sym pushed in
      let next : suc i ≡ i + 1 = omega arith in
      record {
        held = (slice_index n.names.now (step_at t i).var, f.value) ∷ noted.held;
        leads = subst (λ qs. Leads n value ((slice_index n.names.now (step_at t i).var, f.value) ∷ noted.held) stack qs) same leads;
        told = subst (λ k. Told n.names.now value ((slice_index n.names.now (step_at t i).var, f.value) ∷ noted.held) (cut t k)) next told;
      }

  stacked_alike : (cons : List Constraint) (old new : Trail) (bound : ℕ) (marks : List ℕ) (stack : List (List (ℕ × Order)))
      → AreAlike old new bound → AreMarks cons old bound marks → AreStacked n.names.now value old marks stack
      → AreStacked n.names.now value new marks stack
  stacked_alike cons old new bound [] [] alike are s = s
  stacked_alike cons old new bound [] (h ∷ stack) alike are s = absurd s
  stacked_alike cons old new bound (m ∷ marks) [] alike are s = absurd s
  stacked_alike cons old new bound (m ∷ marks) (h ∷ stack) alike are s = (
    record {
      told = told_alike n.names.now value h (cut old m) (cut new m) (alike.cuts m are.0) s.0.told;
      other = subst (λ v. Contains h (slice_index n.names.now v, Above)) (sym (alike.vars m are.0)) s.0.other;
    },
    stacked_alike cons old new m marks stack (below_bound old new bound m are.0 alike) are.2 s.1,
  )

  -- the values that were forced since are to be noted
  pub grown_noted : (cons : List Constraint) (old new : Trail) → Grows cons old new → (stack : List (List (ℕ × Order))) (steps : List Step)
      → IsNoted n value old stack steps (length old.steps.items) → IsNoted n value new stack steps (length old.steps.items)
  grown_noted cons old new x stack steps noted = record {
    held = noted.held;
    leads = noted.leads;
    told = told_alike n.names.now value noted.held (cut old (length old.steps.items)) (cut new (length old.steps.items))
        (x.same (length old.steps.items) (omega arith)) noted.told;
  }

  pub grown_down : (vars : ℕ) (cons : List Constraint) (old new : Path) (steps more : List Step) → IsPath vars cons old
      → Grows cons old.trail new.trail → new.branches ≡ old.branches → (down : IsDown n value old steps)
      → IsNoted n value new.trail down.stack more (length new.trail.steps.items) → IsDown n value new more
  grown_down vars cons old new steps more is x same down noted = record {
    stack = down.stack;
    noted = noted;
    stacked = subst (λ b. AreStacked n.names.now value new.trail (reverse b.items) down.stack) (sym same)
        (stacked_alike cons old.trail new.trail (length old.trail.steps.items) (reverse old.branches.items) down.stack
        (grows_alike cons old.trail new.trail x) is.marks down.stacked);
  }

  told_known : (held : List (ℕ × Order)) (t : Trail) → Told n.names.now value held (cut t (length t.steps.items))
      → Told n.names.now value held (known t)
  told_known held t told u s e = told u s (cut_now t (length t.steps.items) (omega arith) u ∙ e)

  told_now : (held : List (ℕ × Order)) (t : Trail) → Told n.names.now value held (known t)
      → Told n.names.now value held (cut t (length t.steps.items))
  told_now held t told u s e = told u s (sym (cut_now t (length t.steps.items) (omega arith) u) ∙ e)

  ends : (held : List (ℕ × Order)) (stack : List (List (ℕ × Order))) (t : Trail) (steps : List Step) (q : ℕ)
      → AreStacked n.names.now value t [] stack → Leads n value held stack steps
      → IsDeadBy n.case.now.system.constraints (knows value held) q
      → Runs n.case.now.system.vars n.case.now.system.constraints value [] [] (steps ++ step.Dead q ∷ [])
  ends held [] t steps q stacked leads dead = leads (step.Dead q ∷ []) (dead, refl)
  ends held (h ∷ stack) t steps q stacked leads dead = absurd stacked

  -- the last branch that is left is taken up
  taken_down : (vars : ℕ) (cons : List Constraint) (old new : Path) (m v : ℕ) (mid : Trail) (steps : List Step) (q : ℕ)
      → IsPath vars cons old → (up : IsTakenUp vars old m v mid new) → (held : List (ℕ × Order)) (stack : List (List (ℕ × Order)))
      → AreStacked n.names.now value old.trail (m ∷ reverse new.branches.items) stack → Leads n value held stack steps
      → IsDeadBy n.case.now.system.constraints (knows value held) q → IsDown n value new (steps ++ step.Dead q ∷ [])
  taken_down vars cons old new m v mid steps q is up held [] stacked leads dead = absurd stacked
  taken_down vars cons old new m v mid steps q is up held (h ∷ stack) stacked leads dead =
      let c = middle vars cons old m v mid new is up.back in
      let now : Told n.names.now value h (known new.trail) = λ u s e. elim (cases_eq u v) [
        | inl a ↦ (let same : Above ≡ s = some_same (sym (known_set mid v Above new.trail up.set.stepped c.wide) ∙ ap (known new.trail) (sym a) ∙ e) in
            inr (subst (λ b. Contains h (slice_index n.names.now u, b)) same
            (subst (λ w. Contains h (slice_index n.names.now w, Above)) (up.back.var ∙ sym a) stacked.0.other)))
        | inr a ↦ stacked.0.told u s (sym (c.now u) ∙ sym (known_other mid v Above new.trail up.set.stepped u a) ∙ e)
      ] in
      record {
        stack = stack;
        noted = record {
          held = h;
          leads = leads_on held h (h ∷ stack) stack steps (step.Dead q) leads (λ rest runs. (dead, runs));
          told = told_now h new.trail now;
        };
        stacked = stacked_alike cons old.trail new.trail m (reverse new.branches.items) stack
            (taken_alike vars old.trail mid m v new.trail c.long c.alike up.set) c.mark.earlier stacked.1;
      }

  -- a dead constraint is noted
  pub dead_noted : IsNaming n → (vars : ℕ) (old new : Path) (steps more : List Step) (number : ℕ)
      → IsPath vars n.own.now.constraints old → IsDead n.own.now.constraints old.trail number → GoesBack vars old new
      → more ≡ steps ++ step.Dead (slice_index n.numbers.now number) ∷ []
      → IsDown n value old steps → IsAt n value new new.next more
  dead_noted naming vars old new steps more number is dead back pushed down = subst (IsAt n value new new.next) (sym pushed) (sort back)
    where
      there : IsDeadBy n.case.now.system.constraints (knows value down.noted.held) (slice_index n.numbers.now number)
      there = dead_there n.case.now.system.vars n.case.now.system.constraints n.own.now.constraints n.case.now.system.fit
          n.numbers.now naming.part n.names.now naming.copied (known old.trail) (knows value down.noted.held)
          (told_known down.noted.held old.trail down.noted.told) number dead.constraint dead.there dead.none

      sort : GoesBack vars old new
          → IsAt n value new new.next (steps ++ step.Dead (slice_index n.numbers.now number) ∷ [])
      sort (inl g) = subst (λ o. IsAt n value new o (steps ++ step.Dead (slice_index n.numbers.now number) ∷ [])) (sym g.2)
          (ends down.noted.held down.stack old.trail steps (slice_index n.numbers.now number)
          (subst (λ ms. AreStacked n.names.now value old.trail (reverse ms) down.stack) g.0 down.stacked) down.noted.leads there)
      sort (inr (m, v, mid, up)) = subst (λ o. IsAt n value new o (steps ++ step.Dead (slice_index n.numbers.now number) ∷ [])) (sym up.next)
          (taken_down vars n.own.now.constraints old new m v mid steps (slice_index n.numbers.now number) is up down.noted.held down.stack
          (subst (λ ms. AreStacked n.names.now value old.trail ms down.stack)
          (ap reverse up.back.popped ∙ reverse_push new.branches.items m) down.stacked) down.noted.leads there)

  -- a value that is tried is noted
  pub tried_noted : (vars : ℕ) (cons : List Constraint) (old new : Path) (steps more : List Step) (x : ℕ) → IsPath vars cons old
      → x < vars → slice_index n.names.now x < n.case.now.system.vars → IsBranched vars old x new
      → more ≡ steps ++ step.Try (slice_index n.names.now x) ∷ [] → IsDown n value old steps → IsAt n value new new.next more
  tried_noted vars cons old new steps more x is l low b pushed down =
      let t = old.trail in
      let v = slice_index n.names.now x in
      let held = down.noted.held in
      let told = told_known held t down.noted.told in
      let down_now : IsDown n value new (steps ++ step.Try v ∷ []) = record {
        stack = ((v, Above) ∷ held) ∷ down.stack;
        noted = record {
          held = (v, Below) ∷ held;
          leads = leads_on held ((v, Below) ∷ held) down.stack (((v, Above) ∷ held) ∷ down.stack) steps (step.Try v) down.noted.leads
              (λ rest runs. (low, runs));
          told = told_now ((v, Below) ∷ held) new.trail
              (told_more n.names.now value held (known t) (known new.trail) x Below told
              (known_set t x Below new.trail b.set.stepped (omega (arith, l, is.trail.wide)))
              (known_other t x Below new.trail b.set.stepped));
        };
        stacked = subst (λ ms. AreStacked n.names.now value new.trail ms (((v, Above) ∷ held) ∷ down.stack))
            (sym (ap reverse b.branches ∙ reverse_push old.branches.items (length t.steps.items))) (
              record {
                told = λ u s e. known_more value held v Above (slice_index n.names.now u) s
                    (told u s (sym (b.set.same (length t.steps.items) (omega arith) u ∙ cut_now t (length t.steps.items) (omega arith) u) ∙ e));
                other = subst (λ w. Contains ((v, Above) ∷ held) (slice_index n.names.now w, Above))
                    (sym (last_var t x Below new.trail b.set.stepped)) (tried_now v Above held);
              },
              stacked_alike cons t new.trail (length t.steps.items) (reverse old.branches.items) down.stack
                  (set_alike vars t x Below new.trail b.set) is.marks down.stacked,
            );
      } in
      subst (IsAt n value new new.next) (sym pushed)
      (subst (λ o. IsAt n value new o (steps ++ step.Try v ∷ [])) (sym b.next) down_now)

-- the value of a forced step is known
pub forced_value : (cons : List Constraint) (t : Trail) (i : ℕ) (f : IsForcedAt cons t i) → known t (step_at t i).var ≡ Some f.value
forced_value cons t i f = without_known (known t) (drop (suc i) t.steps.items) (step_at t i).var f.value f.given
  where
    without_known : (g : ℕ → Option Order) (ss : List TrailStep) (w : ℕ) (s : Order) → without g ss w ≡ Some s → g w ≡ Some s
    without_known g [] w s e = e
    without_known g (u ∷ ss) w s e = pick (u.var == w) (without g ss w) (without_known g ss w s) e
      where
        pick : (b : Bool) (o : Option Order) → (o ≡ Some s → g w ≡ Some s) → (if b then None else o) ≡ Some s → g w ≡ Some s
        pick true o later q = cc
        pick false o later q = later q

pub name_within : (n : Naming) → IsNaming n → (t : Trail) (i : ℕ) → IsTrail n.own.now.vars t → i < length t.steps.items
    → (x : TrailStep) → x ≡ step_at t i → x.var < length n.names.now
name_within n naming t i trail l x e =
    let a = trail.stepped i l in
    let b : x.var ≡ (step_at t i).var = ap (λ (y : TrailStep). y.var) e in
    omega (arith, a, b, naming.vars_are)

pub number_within : (n : Naming) → IsNaming n → (t : Trail) (i : ℕ) (f : IsForcedAt n.own.now.constraints t i) → (x : TrailStep)
    → x ≡ step_at t i → (by : ℕ) → x.by ≡ Some by → by < length n.numbers.now
number_within n naming t i f x e by is =
    let same : by ≡ f.number = one (sym is ∙ ap (λ (y : TrailStep). y.by) e ∙ f.by_number) in
    let a = slice_get_within n.own.now.constraints f.number f.constraint f.there in
    omega (arith, same, a, naming.copied.as_many)
  where
    one : {a b : ℕ} → ◌≡◌ {A = Option ℕ} (Some a) (Some b) → a ≡ b
    one q = cc

pub forced_number : (cons : List Constraint) (t : Trail) (i : ℕ) (f : IsForcedAt cons t i) → (x : TrailStep) → x ≡ step_at t i
    → x.by ≡ Some f.number
forced_number cons t i f x e = ap (λ (y : TrailStep). y.by) e ∙ f.by_number

pub same_value : (cons : List Constraint) (t : Trail) (i : ℕ) (f : IsForcedAt cons t i) → (x : TrailStep) → x ≡ step_at t i
    → (s : Order) → known t x.var ≡ Some s → f.value ≡ s
same_value cons t i f x e s is = some_same (sym (forced_value cons t i f) ∙ ap (λ (y : TrailStep). known t y.var) (sym e) ∙ is)

pub same_number : (cons : List Constraint) (t : Trail) (i : ℕ) (f : IsForcedAt cons t i) → (x : TrailStep) → x ≡ step_at t i
    → (by : ℕ) → x.by ≡ Some by → by ≡ f.number
same_number cons t i f x e by is = one (sym is ∙ forced_number cons t i f x e)
  where
    one : {a b : ℕ} → ◌≡◌ {A = Option ℕ} (Some a) (Some b) → a ≡ b
    one q = cc
