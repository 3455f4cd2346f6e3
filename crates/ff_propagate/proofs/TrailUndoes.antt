-- The last value is taken back.
use Rattle.std.proofs.Common.{◌≡◌, ℕ, suc, ◌+◌, ◌<◌, ◌≤◌, List, [], ◌∷◌, ◌++◌, length, drop, take, get_or, set, refl, sym, ap, ◌∙◌, subst, arith, None}
use Rattle.std.specs.Vec.{vec_capacity}
use Rattle.std.proofs.lemmas.List.{get_or-set_same, get_or-set_other, length-set, length-append, drop-append-le, get_or_append_left, get_or_push, take-append-le, take_all, length-take-le, get_or-take}
use Rattle.ff_tables.specs.declared.terms.Constraint.{Constraint}
use Rattle.ff_propagate.specs.declared.trail.Step.{Step}
use Rattle.ff_propagate.specs.declared.trail.Trail.{Trail}
use Rattle.ff_propagate.specs.Trails.{value_in, known, count_known, without, cut, IsTrail, AreForced}
use Rattle.ff_propagate.proofs.TrailSteps.{without_push, count_known_unset, forced_same}

pub record IsTakenBack (old : Trail) (x : Step) (new : Trail) : Type 0 where
  pub values : new.values.list.items ≡ set old.values.list.items x.var None
  pub steps : old.steps.items ≡ new.steps.items ++ x ∷ []
  pub room : vec_capacity new.steps ≡ vec_capacity old.steps

-- what holds while values are taken back
pub record IsUndoing (vars mark : ℕ) (first now : Trail) : Type 0 where
  pub trail : IsTrail vars now
  pub enough : mark ≤ length now.steps.items
  pub front : take mark now.steps.items ≡ take mark first.steps.items
  pub same : (m : ℕ) → m ≤ mark → (v : ℕ) → cut now m v ≡ cut first m v

pub last_within : (vars : ℕ) (old : Trail) (x : Step) (front : List Step) → IsTrail vars old
    → old.steps.items ≡ front ++ x ∷ [] → x.var < vars
last_within vars old x front is e =
    let long : length old.steps.items ≡ length front + 1 = ap length e ∙ length-append front (x ∷ []) in
    subst (λ (y : Step). y.var < vars)
    (ap (λ xs. get_or xs (length front) (record { var = 0; by = None })) e
    ∙ get_or_push front x (record { var = 0; by = None }) (length front) refl)
    (is.stepped (length front) (omega (arith, long)))

pub taken_back : (vars mark : ℕ) (first old : Trail) (x : Step) (new : Trail) → IsUndoing vars mark first old
    → IsTakenBack old x new → mark < length old.steps.items → IsUndoing vars mark first new
taken_back vars mark first old x new u b more =
    let long : length old.steps.items ≡ length new.steps.items + 1 = ap length b.steps
    ∙ length-append new.steps.items (x ∷ []) in
    let within = last_within vars old x new.steps.items u.trail b.steps in
    let enough : mark ≤ length new.steps.items = omega (arith, more, long) in
    let c : count_known old.values.list.items ≤ suc
    (count_known new.values.list.items) = subst (λ xs. count_known old.values.list.items ≤ suc (count_known xs))
    (sym b.values) (count_known_unset old.values.list.items x.var) in
    record {
      trail = record {
        few = u.trail.few;
        wide = ap length b.values ∙ length-set old.values.list.items x.var None ∙ u.trail.wide;
        room = omega (arith, u.trail.room, b.room);
        count = omega (arith, long, u.trail.count, c);
        stepped = λ i l. subst (λ (y : Step). y.var < vars)
            (ap (λ xs. get_or xs i (record { var = 0; by = None })) b.steps
            ∙ get_or_append_left new.steps.items (x ∷ []) (record { var = 0; by = None }) i l)
            (u.trail.stepped i (omega (arith, l, long)));
      };
      enough = enough;
      front = sym (ap (take mark) b.steps ∙ take-append-le mark new.steps.items (x ∷ []) enough) ∙ u.front;
      same = λ m l w.
          sym (ap (λ ss. without (known old) ss w)
          (ap (drop m) b.steps ∙ drop-append-le m new.steps.items (x ∷ []) (omega (arith, l, enough)))
          ∙ without_push (known new) (known old) (drop m new.steps.items) x
          (ap (λ xs. value_in xs x.var) b.values ∙ get_or-set_same old.values.list.items x.var None None
          (omega (arith, within, u.trail.wide)))
          (λ y n. sym (ap (λ xs. value_in xs y) b.values
          ∙ get_or-set_other old.values.list.items x.var y None None n)) w)
          ∙ u.same m l w;
    }

pub undone : (vars mark : ℕ) (first now : Trail) → IsUndoing vars mark first now
    → length now.steps.items ≤ mark → now.steps.items ≡ take mark first.steps.items
undone vars mark first now u l = sym (take_all mark now.steps.items l) ∙ u.front

-- steps that are left stay forced
pub still_forced : (cons : List Constraint) (n mark : ℕ) (old new : Trail)
    → new.steps.items ≡ take mark old.steps.items → mark ≤ length old.steps.items
    → ((m : ℕ) → m ≤ mark → (v : ℕ) → cut new m v ≡ cut old m v) → AreForced cons n old → AreForced cons n new
still_forced cons n mark old new steps enough same forced i m l =
    let long : length new.steps.items ≡ mark = ap length steps ∙ length-take-le mark old.steps.items enough in
    let less : i < mark = omega (arith, l, long) in
    forced_same cons old new i
    (ap (λ xs. get_or xs i (record { var = 0; by = None })) steps
    ∙ get_or-take mark old.steps.items i (record { var = 0; by = None }) less)
    (same i (omega (arith, less))) (same (suc i) (omega (arith, less)))
    (forced i m (omega (arith, less, enough)))
