-- A variable gets a value.
use Rattle.std.proofs.Common.{◌≡◌, ℕ, zero, suc, ◌+◌, ◌<◌, ◌≤◌, ◌⊎◌, ◌==◌, inl, inr, Bool, true, false, List, [], ◌∷◌, ◌++◌, length, drop, get_or, set, slice_get, refl, sym, ap, ◌∙◌, subst, arith, Option, Some, None, if◌then◌else◌}
use Rattle.std.specs.Vec.{vec_capacity}
use Rattle.std.proofs.lemmas.Bool.{cases_eq, cases_lt, eq-eqb, ne_eqb}
use Rattle.std.proofs.lemmas.List.{get_or-set_same, get_or-set_other, length-set, length-append, drop-append-le, drop_all, get_or_append_left, get_or_push}
use Rattle.ff_basics.proofs.Options.{some_none, some_same}
use Rattle.ff_tables.specs.declared.orders.Order.{Order}
use Rattle.ff_tables.specs.declared.terms.Constraint.{Constraint}
use Rattle.ff_tables.specs.declared.known.Forced.TheVariants.{Nothing}
use Rattle.ff_tables.specs.Orders.{term_at}
use Rattle.ff_tables.specs.Systems.{AreFit}
use Rattle.ff_tables.specs.Forces.{Forces, Knows, ForcedIs, IsFirst}
use Rattle.ff_tables.proofs.Agreeing.{forces_more}
use Rattle.ff_propagate.specs.declared.trail.Step.{Step}
use Rattle.ff_propagate.specs.declared.trail.Trail.{Trail}
use Rattle.ff_propagate.specs.Trails.{value_in, known, step_at, count_known, without, cut, IsTrail, IsForcedAt, IsKept, Covers, Grows, IsStepped, Waits, IsSilent}
use Rattle.ff_propagate.proofs.Exact.{quiet_known}

count_known_le : (xs : List (Option Order)) → count_known xs ≤ length xs
count_known_le [] = omega arith
count_known_le (None ∷ xs) = let r = count_known_le xs in omega (arith, r)
count_known_le (Some s ∷ xs) = let r = count_known_le xs in omega (arith, r)

-- where one is unset, there is room
count_room : (xs : List (Option Order)) (v : ℕ) → v < length xs → value_in xs v ≡ None
    → count_known xs < length xs
count_room [] v l e = absurd (omega arith)
count_room (None ∷ xs) v l e = let r = count_known_le xs in omega (arith, r)
count_room (Some s ∷ xs) zero l e = cc
count_room (Some s ∷ xs) (suc v) l e = let m : v < length xs = omega (arith, l) in let r = count_room xs v m
    e in omega (arith, r)

count_known_set : (xs : List (Option Order)) (v : ℕ) (s : Order) → v < length xs → value_in xs v ≡ None
    → count_known (set xs v (Some s)) ≡ suc (count_known xs)
count_known_set [] v s l e = absurd (omega arith)
count_known_set (None ∷ xs) zero s l e = refl
count_known_set (Some t ∷ xs) zero s l e = cc
count_known_set (None ∷ xs) (suc v) s l e = let m : v < length xs = omega (arith, l) in count_known_set xs v s m e
count_known_set (Some t ∷ xs) (suc v) s l e = let m : v < length xs = omega (arith, l) in ap suc
    (count_known_set xs v s m e)

pub count_known_unset : (xs : List (Option Order)) (v : ℕ) → count_known xs ≤ suc (count_known (set xs v None))
count_known_unset [] v = omega arith
count_known_unset (None ∷ xs) zero = omega arith
count_known_unset (Some t ∷ xs) zero = omega arith
count_known_unset (None ∷ xs) (suc v) = count_known_unset xs v
count_known_unset (Some t ∷ xs) (suc v) = let r = count_known_unset xs v in omega (arith, r)

-- a step at the end whose variable has no value
pub without_push : (f g : ℕ → Option Order) (ss : List Step) (x : Step) → f x.var ≡ None
    → ((w : ℕ) → (w ≡ x.var → ⊥) → g w ≡ f w) → (w : ℕ) → without g (ss ++ x ∷ []) w ≡ without f ss w
without_push f g [] x none same w = elim (cases_eq x.var w) [
  | inl e ↦ ap (λ b. if b then None else g w) (eq-eqb x.var w e) ∙ sym (ap f (sym e) ∙ none)
  | inr n ↦ ap (λ b. if b then None else g w) (ne_eqb x.var w n) ∙ same w (λ e. n (sym e))
]
without_push f g (u ∷ ss) x none same w = ap (λ r. if u.var == w then None else r)
    (without_push f g ss x none same w)

-- what remains without some steps was there with them
pub without_known : (f : ℕ → Option Order) (ss : List Step) (w : ℕ) (s : Order) → without f ss w ≡ Some s
    → f w ≡ Some s
without_known f [] w s e = e
without_known f (u ∷ ss) w s e = pick (u.var == w) (without f ss w) (without_known f ss w s) e
  where
    pick : (b : Bool) (o : Option Order) → (o ≡ Some s → f w ≡ Some s)
        → (if b then None else o) ≡ Some s → f w ≡ Some s
    pick true o later q = cc
    pick false o later q = later q

pub known_set : (old : Trail) (v : ℕ) (s : Order) (by : Option ℕ) (new : Trail) → IsStepped old v s by new
    → v < length old.values.list.items → known new v ≡ Some s
known_set old v s by new is l = ap (λ xs. value_in xs v) is.values
    ∙ get_or-set_same old.values.list.items v (Some s) None l

pub known_other : (old : Trail) (v : ℕ) (s : Order) (by : Option ℕ) (new : Trail) → IsStepped old v s by new → (w : ℕ) → (w ≡ v → ⊥)
    → known new w ≡ known old w
known_other old v s by new is w n = ap (λ xs. value_in xs w) is.values
    ∙ get_or-set_other old.values.list.items v w (Some s) None n

-- there is room for one more
pub trail_room : (vars : ℕ) (t : Trail) → IsTrail vars t → (v : ℕ) → v < vars → known t v ≡ None
    → length t.steps.items < vars
trail_room vars t is v l none = let r = count_room t.values.list.items v (omega (arith, l, is.wide))
    none in omega (arith, r, is.count, is.wide)

-- the step that was put at the end, and those before it
last_step : (old : Trail) (v : ℕ) (s : Order) (by : Option ℕ) (new : Trail) → IsStepped old v s by new
    → step_at new (length old.steps.items) ≡ record { var = v; by = by }
last_step old v s by new set = ap (λ xs. get_or xs (length old.steps.items) (record { var = 0; by = None })) set.steps
    ∙ get_or_push old.steps.items (record { var = v; by = by }) (record { var = 0; by = None })
    (length old.steps.items) refl

front_step : (old : Trail) (v : ℕ) (s : Order) (by : Option ℕ) (new : Trail) → IsStepped old v s by new → (i : ℕ)
    → i < length old.steps.items → step_at new i ≡ step_at old i
front_step old v s by new set i l = ap (λ xs. get_or xs i (record { var = 0; by = None })) set.steps
    ∙ get_or_append_left old.steps.items (record { var = v; by = by } ∷ []) (record { var = 0; by = None }) i l

longer : (old : Trail) (v : ℕ) (s : Order) (by : Option ℕ) (new : Trail) → IsStepped old v s by new
    → length new.steps.items ≡ length old.steps.items + 1
longer old v s by new set = ap length set.steps ∙ length-append old.steps.items (record { var = v; by = by } ∷ [])

pub trail_set : (vars : ℕ) (old : Trail) (v : ℕ) (s : Order) (by : Option ℕ) (new : Trail) → IsTrail vars old
    → IsStepped old v s by new → v < vars → known old v ≡ None → IsTrail vars new
trail_set vars old v s by new is set l none =
    let long = longer old v s by new set in
    record {
      few = is.few;
      wide = ap length set.values ∙ length-set old.values.list.items v (Some s) ∙ is.wide;
      room = omega (arith, is.room, set.room);
      count = omega (
        arith,
        long,
        is.count,
        ap count_known set.values
            ∙ count_known_set old.values.list.items v s (omega (arith, l, is.wide)) none,
      );
      stepped = λ i m. elim (cases_eq i (length old.steps.items)) [
        | inl e ↦ subst (λ (x : Step). x.var < vars) (sym (ap (step_at new) e ∙ last_step old v s by new set)) l
        | inr n ↦ (let k : i < length old.steps.items = omega (arith, m, long, n) in
            subst (λ (x : Step). x.var < vars) (sym (front_step old v s by new set i k)) (is.stepped i k))
      ];
    }

-- what was known before the last step
pub same_set : (old : Trail) (v : ℕ) (s : Order) (by : Option ℕ) (new : Trail) → IsStepped old v s by new
    → known old v ≡ None → (m : ℕ) → m ≤ length old.steps.items → (w : ℕ) → cut new m w ≡ cut old m w
same_set old v s by new set none m k w = ap (λ ss. without (known new) ss w)
    (ap (drop m) set.steps ∙ drop-append-le m old.steps.items (record { var = v; by = by } ∷ []) k)
    ∙ without_push (known old) (known new) (drop m old.steps.items) (record { var = v; by = by }) none
    (known_other old v s by new set) w

-- what is known at the end
pub cut_end : (t : Trail) (m : ℕ) → length t.steps.items ≤ m → (w : ℕ) → cut t m w ≡ known t w
cut_end t m l w = ap (λ ss. without (known t) ss w) (drop_all m t.steps.items l)

pub grows_set : (vars : ℕ) (cons : List Constraint) (old : Trail) (v : ℕ) (s : Order) (by : Option ℕ)
    (new : Trail) → IsTrail vars old → IsStepped old v s by new → v < vars → known old v ≡ None
    → IsForcedAt cons new (length old.steps.items)
    → ((set : ℕ → Order → Bool) → IsKept cons set → Covers set old → set v s ≡ true) → Grows cons old new
grows_set vars cons old v s by new is set l none forced derives =
    let long = longer old v s by new set in
    let here : known new v ≡ Some s = known_set old v s by new set (omega (arith, l, is.wide)) in
    record {
      count = omega (arith, long);
      front = front_step old v s by new set;
      changed = λ w. elim (cases_eq w v) [
        | inl e ↦ inr (
          length old.steps.items,
          omega arith,
          omega (arith, long),
          ap (λ (x : Step). x.var) (last_step old v s by new set) ∙ sym e,
        )
        | inr n ↦ inl (known_other old v s by new set w n)
      ];
      kept = λ w t q. elim (cases_eq w v) [
        | inl e ↦ some_none (ap (known old) (sym e) ∙ q) none
        | inr n ↦ known_other old v s by new set w n ∙ q
      ];
      same = same_set old v s by new set none;
      forced = λ i a b. subst (IsForcedAt cons new) (omega (arith, a, b, long)) forced;
      derived = λ P kept covers w t q. elim (cases_eq w v) [
        | inl e ↦ subst (λ u. P u t ≡ true) (sym e)
            (subst (λ b. P v b ≡ true) (some_same (sym here ∙ ap (known new) (sym e) ∙ q))
            (derives P kept covers))
        | inr n ↦ covers w t (sym (known_other old v s by new set w n) ∙ q)
      ];
    }

pub grows_refl : (cons : List Constraint) (t : Trail) → Grows cons t t
grows_refl cons t = record {
  count = omega arith;
  front = λ i l. refl;
  changed = λ v. inl refl;
  kept = λ v s e. e;
  same = λ m l v. refl;
  forced = λ i a b. absurd (omega (arith, a, b));
  derived = λ P kept covers. covers;
}

-- a step that was forced stays so where what was known up to it is the same
pub forced_same : (cons : List Constraint) (old new : Trail) (i : ℕ) → step_at new i ≡ step_at old i
    → ((v : ℕ) → cut new i v ≡ cut old i v) → ((v : ℕ) → cut new (suc i) v ≡ cut old (suc i) v)
    → IsForcedAt cons old i → IsForcedAt cons new i
forced_same cons old new i step before after f = record {
  number = f.number;
  by_number = ap (λ (x : Step). x.by) step ∙ f.by_number;
  constraint = f.constraint;
  there = f.there;
  value = f.value;
  given = after (step_at new i).var ∙ ap (λ (x : Step). cut old (suc i) x.var) step ∙ f.given;
  forces = forces_more f.constraint.kind f.constraint.terms (Knows (cut old i)) (Knows (cut new i))
      (step_at new i).var f.value (λ j t l q. before (term_at f.constraint.terms j).var ∙ q)
      (subst (λ (x : Step). Forces f.constraint.kind f.constraint.terms (Knows (cut old i)) x.var f.value)
      (sym step) f.forces);
}

pub grows_trans : (cons : List Constraint) (a b d : Trail) → Grows cons a b → Grows cons b d → Grows cons a d
grows_trans cons a b d x y = record {
  count = omega (arith, x.count, y.count);
  front = λ i l. y.front i (omega (arith, l, x.count)) ∙ x.front i l;
  changed = λ v. join v (x.changed v) (y.changed v);
  kept = λ v s e. y.kept v s (x.kept v s e);
  same = λ m l v. y.same m (omega (arith, l, x.count)) v ∙ x.same m l v;
  forced = λ i m l. elim (cases_lt i (length b.steps.items)) [
    | inl k ↦ forced_same cons b d i (y.front i k) (y.same i (omega (arith, k))) (y.same (suc i) (omega (arith, k)))
        (x.forced i m k)
    | inr k ↦ y.forced i k l
  ];
  derived = λ P kept covers. y.derived P kept (x.derived P kept covers);
}
  where
    join : (v : ℕ)
        → (known b v ≡ known a v)
        ⊎ ((i : ℕ) × (length a.steps.items ≤ i) × (i < length b.steps.items) × ((step_at b i).var ≡ v))
        → (known d v ≡ known b v)
        ⊎ ((i : ℕ) × (length b.steps.items ≤ i) × (i < length d.steps.items) × ((step_at d i).var ≡ v))
        → (known d v ≡ known a v)
        ⊎ ((i : ℕ) × (length a.steps.items ≤ i) × (i < length d.steps.items) × ((step_at d i).var ≡ v))
    join v (inl p) (inl q) = inl (q ∙ p)
    join v (inl p) (inr (i, k, l, e)) = inr (i, omega (arith, k, x.count), l, e)
    join v (inr (i, k, l, e)) q = inr (i, k, omega (arith, l, y.count), ap (λ (z : Step). z.var) (y.front i l) ∙ e)

-- what forces nothing is silent
pub nothing_silent : (con : Constraint) (f : ℕ → Option Order) → ForcedIs con.kind con.terms f Nothing
    → IsSilent f con
nothing_silent con f q v s = quiet_known con.kind con.terms f v s q

-- the first forced value is set
pub record IsForcedStep (vars : ℕ) (cons : List Constraint) (con : Constraint) (old new : Trail) : Type 0 where
  pub trail : IsTrail vars new
  pub grows : Grows cons old new
  pub waits : Waits new (length old.steps.items) con.terms

pub first_step : (vars : ℕ) (cons : List Constraint) (old new : Trail) → IsTrail vars old → AreFit vars cons
    → (c : ℕ) (con : Constraint) → slice_get cons c ≡ Some con → (v : ℕ) (s : Order)
    → IsFirst con.kind con.terms (known old) v s → IsStepped old v s (Some c) new
    → IsForcedStep vars cons con old new
first_step vars cons old new is fit c con at v s first set =
    let inside : v < vars = subst (λ n. n < vars) first.var ((fit c con at).within first.at first.within) in
    let n = length old.steps.items in
    let last = last_step old v s (Some c) new set in
    let long = longer old v s (Some c) new set in
    let before : (w : ℕ) → cut new n w ≡ known old w = λ w.
    same_set old v s (Some c) new set first.unknown n (omega arith) w ∙ cut_end old n (omega arith) w in
    record {
      trail = trail_set vars old v s (Some c) new is set inside first.unknown;
      grows = grows_set vars cons old v s (Some c) new is set inside first.unknown
          (record {
            number = c;
            by_number = ap (λ (x : Step). x.by) last;
            constraint = con;
            there = at;
            value = s;
            given = cut_end new (suc n) (omega (arith, long)) (step_at new n).var
                ∙ ap (λ (x : Step). known new x.var) last
                ∙ known_set old v s (Some c) new set (omega (arith, inside, is.wide));
            forces = subst (λ (x : Step). Forces con.kind con.terms (Knows (cut new n)) x.var s) (sym last)
                (forces_more con.kind con.terms (Knows (known old)) (Knows (cut new n)) v s
                (λ j t l q. before (term_at con.terms j).var ∙ q)
                (first.at, first.within, first.var, first.only));
          })
          (λ P kept covers. kept c con at v s
          (forces_more con.kind con.terms (Knows (known old)) (λ u t. P u t ≡ true) v s
          (λ j t l q. covers (term_at con.terms j).var t q)
          (first.at, first.within, first.var, first.only)));
      waits = (
        n,
        first.at,
        omega arith,
        omega (arith, long),
        first.within,
        ap (λ (x : Step). x.var) last ∙ sym first.var,
      );
    }

pub first_room : (vars : ℕ) (cons : List Constraint) (old : Trail) → IsTrail vars old → AreFit vars cons
    → (c : ℕ) (con : Constraint) → slice_get cons c ≡ Some con → (v : ℕ) (s : Order)
    → IsFirst con.kind con.terms (known old) v s → length old.steps.items < vec_capacity old.steps
first_room vars cons old is fit c con at v s first =
    let r = trail_room vars old is v
    (subst (λ n. n < vars) first.var ((fit c con at).within first.at first.within))
    first.unknown in omega (arith, r, is.room)

pub trail_long : (vars : ℕ) (t : Trail) → IsTrail vars t → length t.steps.items ≤ vars
trail_long vars t is = let r = count_known_le t.values.list.items in omega (arith, r, is.count, is.wide)
