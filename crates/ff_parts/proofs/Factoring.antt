-- Choices and assignments.
use Rattle.std.proofs.Common.{◌≡◌, ℕ, zero, suc, ◌<◌, ◌≤◌, ◌⊎◌, inl, inr, Bool, true, false, cond, List, [], ◌∷◌, map, filter, length, slice_index, slice_get, refl, sym, ap, ◌∙◌, subst, arith, Option, Some, None, Contains, if◌then◌else◌}
use Rattle.std.specs.List.{All}
use Rattle.std.proofs.lemmas.Bool.{cases_eq, eq-eqb, ne_eqb}
use Rattle.std.proofs.lemmas.List.{length-map, get_or-map, ext_get_or}
use Rattle.std.proofs.lemmas.List.Elements.{filter_passes, All-filter, All-contains, All-append, All-map, All-weaker, All-cons, All-nil, Contains-append_left, Contains-append_right}
use Rattle.ff_tables.proofs.SameOrders.{differ}
use Rattle.ff_basics.proofs.Options.{some_none, some_or_none, some_same}
use Rattle.ff_tables.specs.declared.orders.Order.{Order}
use Rattle.ff_tables.specs.declared.orders.Order.TheVariants.{Below, Above}
use Rattle.ff_tables.specs.declared.terms.Constraint.{Constraint}
use Rattle.ff_tables.specs.declared.givens.Given.{Given}
use Rattle.ff_tables.specs.Orders.{term_at, turn, row_at}
use Rattle.ff_tables.specs.Rows.{all_lists}
use Rattle.ff_tables.specs.Systems.{AreFit}
use Rattle.ff_tables.specs.Forces.{Meets, Knows}
use Rattle.ff_propagate.specs.Closure.{InClosure, IsClosure, Gives, HoldsGivens, Clashes}
use Rattle.ff_propagate.specs.Parts.{IsUndecided, AreConnected, IsPart, AreParts}
use Rattle.ff_propagate.specs.Solutions.{has_row, joint, is_solution, solutions_of}
use Rattle.ff_propagate.specs.Choices.{IsChoice, value_of, IsAssignmentOf}
use Rattle.ff_propagate.proofs.Deciding.{has_row-decides, row_or_none}
use Rattle.ff_propagate.proofs.Exact.{holds_closure}
use Rattle.ff_propagate.proofs.Joining.{Stands, AreDistinct, joint_out, joint_at, joint_either, joint_keeps}
use Rattle.ff_propagate.proofs.Quiet.{IsQuiet, closure_quiet, dead_forces, in_part, all_at, all_from, stands_contains, contains_stands}
use Rattle.ff_parts.specs.Factors.{IsAllowed, Factors, FactorsFor}

order_clash : {A : Type 0} {s : Order} → s ≡ Below → s ≡ Above → A
order_clash p q = cc

-- an allowed assignment has the closure
pub has_closure : (cons : List Constraint) (gs : List Given) (a : ℕ → Order) → IsAllowed cons gs a
    → (v : ℕ) (s : Order) → InClosure cons (Gives gs) v s → a v ≡ s
has_closure cons gs a allowed = holds_closure cons gs a allowed.meets allowed.holds

pub clash_allows_none : (cons : List Constraint) (gs : List Given) (a : ℕ → Order) → Clashes cons (Gives gs)
    → IsAllowed cons gs a → ⊥
clash_allows_none cons gs a both allowed = order_clash
    (has_closure cons gs a allowed both.variable Below both.below)
    (has_closure cons gs a allowed both.variable Above both.above)

-- filters
filter_has : {X : Type 0} (p : X → Bool) (xs : List X) (x : X) → Contains xs x → p x ≡ true
    → Contains (filter p xs) x
filter_has p [] x (k, l, e) h = absurd (omega (arith, l))
filter_has p (y ∷ xs) x (zero, l, e) h = subst (λ ys. Contains ys x)
    (sym (ap (λ b. cond b (y ∷ filter p xs) (filter p xs)) (ap p e ∙ h))) (0, omega arith, e)
filter_has p (y ∷ xs) x (suc k, l, e) h = on (p y) (filter_has p xs x (k, omega (arith, l), e) h)
  where
    on : (b : Bool) → Contains (filter p xs) x → Contains (cond b (y ∷ filter p xs) (filter p xs)) x
    on true (i, m, f) = (suc i, omega (arith, m), f)
    on false has = has

one_longer : (n : ℕ) (s : Order) → All (λ (xs : List Order). length xs ≡ n) (all_lists n)
    → All (λ (xs : List Order). length xs ≡ suc n) (map (λ rest. s ∷ rest) (all_lists n))
one_longer n s all = All-map (λ (xs : List Order). length xs ≡ suc n) (λ rest. s ∷ rest) (all_lists n)
    (All-weaker (λ (xs : List Order). length xs ≡ n) (λ xs. length (s ∷ xs) ≡ suc n) (λ xs e. ap suc e)
    (all_lists n) all)

all_long : (n : ℕ) → All (λ (xs : List Order). length xs ≡ n) (all_lists n)
all_long zero = All-cons (λ (xs : List Order). length xs ≡ 0) [] [] refl
    (All-nil (λ (xs : List Order). length xs ≡ 0))
all_long (suc n) = All-append (λ (xs : List Order). length xs ≡ suc n)
    (map (λ rest. Below ∷ rest) (all_lists n)) (map (λ rest. Above ∷ rest) (all_lists n))
    (one_longer n Below (all_long n)) (one_longer n Above (all_long n))

map_has : (s : Order) (ls : List (List Order)) (xs : List Order) → Contains ls xs
    → Contains (map (λ rest. s ∷ rest) ls) (s ∷ xs)
map_has s ls xs
    (k, l, e) = (k, omega (arith, l, length-map ls (λ rest. s ∷ rest)), get_or-map (λ rest. s ∷ rest) ls k xs (s ∷ xs) l ∙ ap (λ r. s ∷ r) e)

all_have : (n : ℕ) (xs : List Order) → length xs ≡ n → Contains (all_lists n) xs
all_have zero [] l = (0, omega arith, refl)
all_have zero (x ∷ xs) l = absurd (omega (arith, l))
all_have (suc n) [] l = absurd (omega (arith, l))
all_have (suc n) (Below ∷ xs) l = Contains-append_left (map (λ rest. Below ∷ rest) (all_lists n))
    (map (λ rest. Above ∷ rest) (all_lists n)) (Below ∷ xs)
    (map_has Below (all_lists n) xs (all_have n xs (omega (arith, l))))
all_have (suc n) (Above ∷ xs) l = Contains-append_right (map (λ rest. Below ∷ rest) (all_lists n))
    (map (λ rest. Above ∷ rest) (all_lists n)) (Above ∷ xs)
    (map_has Above (all_lists n) xs (all_have n xs (omega (arith, l))))

-- a solution is a list of the part's length that passes the test
pub record Solves (cons : List Constraint) (value : ℕ → Option Order) (part : List ℕ) (xs : List Order) : Type
    0 where
  pub long : length xs ≡ length part
  pub passes : is_solution cons value part xs ≡ true

pub solution_is : (cons : List Constraint) (value : ℕ → Option Order) (part : List ℕ) (xs : List Order)
    → Contains (solutions_of cons value part) xs → Solves cons value part xs
solution_is cons value part xs has = record {
  long = All-contains (λ (ys : List Order). length ys ≡ length part) (solutions_of cons value part) xs
      (All-filter (is_solution cons value part) (λ (ys : List Order). length ys ≡ length part)
      (all_lists (length part)) (all_long (length part))) has;
  passes = All-contains (λ ys. is_solution cons value part ys ≡ true) (solutions_of cons value part) xs
      (filter_passes (is_solution cons value part) (all_lists (length part))) has;
}

pub is_solution_of : (cons : List Constraint) (value : ℕ → Option Order) (part : List ℕ) (xs : List Order)
    → Solves cons value part xs → Contains (solutions_of cons value part) xs
is_solution_of cons value part xs s = filter_has (is_solution cons value part) (all_lists (length part)) xs
    (all_have (length part) xs s.long) s.passes

-- the variable stands in one of the lists
abbrev pub InSome : List (List ℕ) → ℕ → Type 0
InSome [] v = ⊥
InSome (part ∷ parts) v = Stands part v ⊎ InSome parts v

-- joint values
joint_from : (f g : ℕ → Option Order) (part : List ℕ) (xs : List Order) (v : ℕ) → length xs ≡ length part
    → Stands part v → joint f part xs v ≡ joint g part xs v
joint_from f g [] xs v l (i, m, e) = absurd (omega (arith, m))
joint_from f g (u ∷ part) [] v l st = absurd (omega (arith, l))
joint_from f g (u ∷ part) (x ∷ xs) v l st = elim (cases_eq u v) [
  | inl e ↦ ap (λ b. if b then Some x else joint f part xs v) (eq-eqb u v e)
      ∙ sym (ap (λ b. if b then Some x else joint g part xs v) (eq-eqb u v e))
  | inr ne ↦ ap (λ b. if b then Some x else joint f part xs v) (ne_eqb u v ne)
      ∙ joint_from f g part xs v (omega (arith, l)) (later st ne)
      ∙ sym (ap (λ b. if b then Some x else joint g part xs v) (ne_eqb u v ne))
]
  where
    later : Stands (u ∷ part) v → (u ≡ v → ⊥) → Stands part v
    later (zero, m, e) ne = absurd (ne e)
    later (suc i, m, e) ne = (i, omega (arith, m), e)

joint_map : (f : ℕ → Option Order) (a : ℕ → Order) (part : List ℕ) (v : ℕ) → Stands part v
    → joint f part (map a part) v ≡ Some (a v)
joint_map f a [] v (i, m, e) = absurd (omega (arith, m))
joint_map f a (u ∷ part) v st = elim (cases_eq u v) [
  | inl e ↦ ap (λ b. if b then Some (a u) else joint f part (map a part) v) (eq-eqb u v e)
      ∙ ap (λ w. Some (a w)) e
  | inr ne ↦ ap (λ b. if b then Some (a u) else joint f part (map a part) v) (ne_eqb u v ne)
      ∙ joint_map f a part v (later st ne)
]
  where
    later : Stands (u ∷ part) v → (u ≡ v → ⊥) → Stands part v
    later (zero, m, e) ne = absurd (ne e)
    later (suc i, m, e) ne = (i, omega (arith, m), e)

stands_or_not : (part : List ℕ) (v : ℕ) → Stands part v ⊎ (Stands part v → ⊥)
stands_or_not [] v = inr (λ (i, m, e). omega (arith, m))
stands_or_not (u ∷ part) v = elim (cases_eq u v) [
  | inl e ↦ inl (0, omega arith, e)
  | inr ne ↦ elim (stands_or_not part v) [
    | inl st ↦ inl (suc st.0, omega (arith, st.1), st.2)
    | inr away ↦ inr (λ st. none st ne away)
  ]
]
  where
    none : Stands (u ∷ part) v → (u ≡ v → ⊥) → (Stands part v → ⊥) → ⊥
    none (zero, m, e) ne away = ne e
    none (suc i, m, e) ne away = away (i, omega (arith, m), e)

-- each list is a part, and no variable stands in two of them
abbrev pub AllParts : ℕ → List Constraint → (ℕ → Option Order) → List (List ℕ) → Type 0
AllParts vars cons value [] = Unit {0}
AllParts vars cons value (part ∷ parts) = IsPart vars cons value part
    × ((v : ℕ) → Stands part v → InSome parts v → ⊥) × AllParts vars cons value parts

module _ (vars : ℕ) (cons : List Constraint) (value : ℕ → Option Order) (fit : AreFit vars cons) where
  open_in : (part : List ℕ) → IsPart vars cons value part → (v : ℕ) → Stands part v → value v ≡ None
  open_in part is v (i, l, e) = ap value (sym e) ∙ (is.undecided i l).open_yet

  -- a decided variable has the board's value in each choice
  known_of : (parts : List (List ℕ)) (choice : List (List Order)) → AllParts vars cons value parts
      → (v : ℕ) (s : Order) → value v ≡ Some s → value_of value parts choice v ≡ Some s
  known_of [] choice all v s e = e
  known_of (part ∷ parts) [] all v s e = e
  known_of (part ∷ parts) (xs ∷ choice) all v s e = joint_out (value_of value parts choice) part xs v
      (λ st. some_none e (open_in part all.0 v st)) ∙ known_of parts choice all.2 v s e

  -- the part of a variable, and its solution in a choice
  record HasPart (parts : List (List ℕ)) (choice : List (List Order)) (v : ℕ) : Type 0 where
    part : List ℕ
    solution : List Order
    is_part : IsPart vars cons value part
    stands : Stands part v
    among : (w : ℕ) → Stands part w → InSome parts w
    solves : Solves cons value part solution
    values : (w : ℕ) → Stands part w → value_of value parts choice w ≡ joint value part solution w

  part_of : (parts : List (List ℕ)) (choice : List (List Order)) → AllParts vars cons value parts
      → IsChoice cons value parts choice → (v : ℕ) → InSome parts v → HasPart parts choice v
  part_of [] choice all is v st = absurd st
  part_of (part ∷ parts) [] all is v st = absurd is
  part_of (part ∷ parts) (xs ∷ choice) all is v (inl st) = record {
    part = part;
    solution = xs;
    is_part = all.0;
    stands = st;
    among = λ w at. inl at;
    solves = solution_is cons value part xs is.0;
    values = λ w at. joint_from (value_of value parts choice) value part xs w
        (solution_is cons value part xs is.0).long at;
  }
  part_of (part ∷ parts) (xs ∷ choice) all is v (inr st) =
      let r = part_of parts choice all.2 is.1 v st in
      record {
        part = r.part;
        solution = r.solution;
        is_part = r.is_part;
        stands = r.stands;
        among = λ w at. inr (r.among w at);
        solves = r.solves;
        values = λ w at. joint_out (value_of value parts choice) part xs w
            (λ mine. all.1 w mine (r.among w at)) ∙ r.values w at;
      }

  distinct : (part : List ℕ) → IsPart vars cons value part → AreDistinct part
  distinct part is i j l m e = let r = is.rising i j l m in omega (arith, r, e)

  module _ (gs : List Given) (exact : IsClosure cons (Gives gs) value) (parts : List (List ℕ))
      (all : AllParts vars cons value parts) (covers : (v : ℕ) → IsUndecided vars value v → InSome parts v)
    where
      quiet : IsQuiet cons value
      quiet = closure_quiet cons (Gives gs) value exact

      -- each variable has a value in a choice
      has_value : (choice : List (List Order)) → IsChoice cons value parts choice → (v : ℕ) → v < vars
          → (s : Order) × (value_of value parts choice v ≡ Some s)
      has_value choice is v l = elim (some_or_none (value v)) [
        | inl k ↦ (k.0, known_of parts choice all v k.0 k.1)
        | inr none ↦ (
            let h = part_of parts choice all is v (covers v (record { variable = l; open_yet = none })) in
            let st = h.stands in (
              row_at h.solution st.0,
              h.values v st ∙ ap (joint value h.part h.solution) (sym st.2) ∙ joint_at
                  value h.part h.solution st.0 (distinct h.part h.is_part) st.1 h.solves.long,
            ))
      ]

      abbrev value_or : Option Order → Order
      value_or None = Below
      value_or (Some s) = s

      abbrev assigned : List (List Order) → ℕ → Order
      assigned choice v = value_or (value_of value parts choice v)

      assigned_is : (choice : List (List Order)) → IsChoice cons value parts choice → (v : ℕ) → v < vars
          → value_of value parts choice v ≡ Some (assigned choice v)
      assigned_is choice is v l = let h = has_value choice is v l in h.1
          ∙ ap (λ s. Some s) (sym (ap value_or h.1))

      find_open : (con : Constraint) (n : ℕ)
          → ((i : ℕ) × (i < n) × (value (term_at con.terms i).var ≡ None))
          ⊎ ((j : ℕ) → j < n → (s : Order) × (value (term_at con.terms j).var ≡ Some s))
      find_open con zero = inr (λ j l. absurd (omega (arith, l)))
      find_open con (suc n) = elim (find_open con n) [
        | inl r ↦ inl (r.0, omega (arith, r.1), r.2)
        | inr known ↦ elim (some_or_none (value (term_at con.terms n).var)) [
          | inr none ↦ inl (n, omega arith, none)
          | inl k ↦ inr (λ j l. elim (cases_eq j n) [ inl e ↦ (k.0, ap (λ i. value (term_at con.terms i).var) e ∙ k.1) | inr ne ↦ known j (omega (arith, l, ne)) ])
        ]
      ]

      choice_meets : (choice : List (List Order)) → IsChoice cons value parts choice
          → Meets cons (assigned choice)
      choice_meets choice is c con at = elim (find_open con (length con.terms)) [
        | inl o ↦ (
            let h = part_of parts choice all is (term_at con.terms o.0).var
            (covers (term_at con.terms o.0).var
            (record { variable = (fit c con at).within o.0 o.1; open_yet = o.2 })) in
            let r = (has_row-decides (joint value h.part h.solution) con).0
            (all_at (has_row (joint value h.part h.solution)) cons c con h.solves.passes at) in
            let same : (j : ℕ) → j < length con.terms
            → joint value h.part h.solution (term_at con.terms j).var ≡ value_of value parts choice
            (term_at con.terms j).var = λ j l. elim (some_or_none (value (term_at con.terms j).var)) [
              | inl k ↦ joint_keeps value h.part h.solution (term_at con.terms j).var k.0
                  (λ i m. (h.is_part.undecided i m).open_yet) k.1
                  ∙ sym (known_of parts choice all (term_at con.terms j).var k.0 k.1)
              | inr none ↦ sym (h.values (term_at con.terms j).var (in_part vars cons value h.part fit h.is_part c con at o.0 j o.1 l h.stands none))
            ] in (
              r.0,
              r.1,
              r.2,
              λ j b l e. r.3 j b l
                  (same j l ∙ assigned_is choice is (term_at con.terms j).var ((fit c con at).within j l)
                  ∙ ap (λ s. Some s) e),
            ))
        | inr known ↦ elim (row_or_none value con) [
          | inl has ↦ (
              let r = (has_row-decides value con).0 has in (
                r.0,
                r.1,
                r.2,
                λ j b l e. r.3 j b l
                    (let k = known j l in k.1 ∙ ap (λ s. Some s)
                    (sym (ap value_or (known_of parts choice all (term_at con.terms j).var k.0 k.1)) ∙ e)),
              ))
          | inr none ↦ differ
              (quiet c con (term_at con.terms 0).var Below at
              (dead_forces vars cons fit c con at (Knows value) none Below))
              (quiet c con (term_at con.terms 0).var Above at
              (dead_forces vars cons fit c con at (Knows value) none Above))
        ]
      ]

      choice_holds : (choice : List (List Order)) → HoldsGivens gs (λ v. Some (assigned choice v))
      choice_holds choice i g is =
          let k : value g.var ≡ Some g.value = (exact g.var g.value).1
          (λ set closed. closed.base_held g.var g.value
          (i, record { given = g; there = is; variable = refl; value = refl })) in
          ap (λ o. Some (value_or o)) (known_of parts choice all g.var g.value k)

      -- the choice that an assignment makes
      abbrev restricted : (ℕ → Order) → List (List ℕ) → List (List Order)
      restricted a ps = map (λ part. map a part) ps

      restricted_solves : (a : ℕ → Order) → IsAllowed cons gs a → (part : List ℕ)
          → Solves cons value part (map a part)
      restricted_solves a allowed part = record {
        long = length-map part a;
        passes = all_from (has_row (joint value part (map a part))) cons (λ c con at.
            let r = allowed.meets c con at in
            (has_row-decides (joint value part (map a part)) con).1 (
              r.0,
              r.1,
              r.2,
              λ j b l e. r.3 j b l
                  (joint_is (term_at con.terms j).var (turn (term_at con.terms j).flipped b) e),
            ));
      }
        where
          joint_is : (v : ℕ) (s : Order) → joint value part (map a part) v ≡ Some s → a v ≡ s
          joint_is v s e = elim (joint_either value part (map a part) v) [
            | inl st ↦ some_same (sym (joint_map value a part v st) ∙ e)
            | inr same ↦ has_closure cons gs a allowed v s ((exact v s).0 (sym same ∙ e))
          ]

      restricted_choice : (a : ℕ → Order) → IsAllowed cons gs a → (ps : List (List ℕ))
          → IsChoice cons value ps (restricted a ps)
      restricted_choice a allowed [] = tt
      restricted_choice a allowed
          (part ∷ ps) = (is_solution_of cons value part (map a part) (restricted_solves a allowed part), restricted_choice a allowed ps)

      restricted_values : (a : ℕ → Order) (ps : List (List ℕ)) (v : ℕ) → InSome ps v
          → value_of value ps (restricted a ps) v ≡ Some (a v)
      restricted_values a [] v st = absurd st
      restricted_values a (part ∷ ps) v st = elim (stands_or_not part v) [
        | inl here ↦ joint_map (value_of value ps (restricted a ps)) a part v here
        | inr away ↦ joint_out (value_of value ps (restricted a ps)) part (map a part) v away
            ∙ elim st [ inl here ↦ absurd (away here) | inr later ↦ restricted_values a ps v later ]
      ]

      restricted_assigns : (a : ℕ → Order) → IsAllowed cons gs a
          → IsAssignmentOf vars value parts (restricted a parts) a
      restricted_assigns a allowed v l = elim (some_or_none (value v)) [
        | inl k ↦ known_of parts (restricted a parts) all v k.0 k.1
            ∙ ap (λ s. Some s) (sym (has_closure cons gs a allowed v k.0 ((exact v k.0).0 k.1)))
        | inr none ↦ restricted_values a parts v (covers v (record { variable = l; open_yet = none }))
      ]

  -- the choice is told by its values
  told : (ps : List (List ℕ)) (choice : List (List Order)) → AllParts vars cons value ps
      → IsChoice cons value ps choice → (a : ℕ → Order)
      → ((v : ℕ) → InSome ps v → value_of value ps choice v ≡ Some (a v))
      → choice ≡ map (λ part. map a part) ps
  told [] [] all is a h = refl
  told [] (xs ∷ choice) all is a h = absurd is
  told (part ∷ ps) [] all is a h = absurd is
  told (part ∷ ps) (xs ∷ choice) all is a h =
      let s = solution_is cons value part xs is.0 in
      let first : xs ≡ map a part = ext_get_or Below xs (map a part) (s.long ∙ sym (length-map part a))
      (λ i l.
      let m : i < length part = omega (arith, l, s.long) in
      some_same
      (sym (joint_at (value_of value ps choice) part xs i (distinct part all.0) m s.long) ∙ h
      (slice_index part i) (inl (i, m, refl))) ∙ sym (get_or-map a part i 0 Below m)) in
      let rest : choice ≡ map (λ p. map a p) ps = told ps choice all.2 is.1 a
      (λ v st. sym (joint_out (value_of value ps choice) part xs v (λ mine. all.1 v mine st)) ∙ h v
      (inr st)) in
      ap (λ ys. ys ∷ choice) first ∙ ap (λ c. map a part ∷ c) rest

  in_some_within : (ps : List (List ℕ)) → AllParts vars cons value ps → (v : ℕ) → InSome ps v → v < vars
  in_some_within [] all v st = absurd st
  in_some_within (part ∷ ps) all v (inl (i, l, e)) = subst (λ u. u < vars) e (all.0.undecided i l).variable
  in_some_within (part ∷ ps) all v (inr st) = in_some_within ps all.2 v st

  has_solution : (ps : List (List ℕ)) (choice : List (List Order)) → IsChoice cons value ps choice
      → (part : List ℕ) → Contains ps part → solutions_of cons value part ≡ [] → ⊥
  has_solution [] choice is part (k, l, e) none = omega (arith, l)
  has_solution (p ∷ ps) [] is part has none = is
  has_solution (p ∷ ps) (xs ∷ choice) is part (zero, l, e) none = no_item
      (subst (λ ls. Contains ls xs) (ap (solutions_of cons value) e ∙ none) is.0)
    where
      no_item : Contains {X = List Order} [] xs → ⊥
      no_item (k, m, f) = omega (arith, m)
  has_solution (p ∷ ps) (xs ∷ choice) is part (suc k, l, e) none = has_solution ps choice is.1 part
      (k, omega (arith, l), e) none

  pub factors : (parts : List (List ℕ)) → AllParts vars cons value parts
      → ((v : ℕ) → IsUndecided vars value v → InSome parts v) → (gs : List Given)
      → IsClosure cons (Gives gs) value → Factors vars cons gs value parts
  factors parts all covers gs exact = record {
    to_assignment = λ choice is. record {
      assignment = assigned gs exact parts all covers choice;
      of_choice = λ v l. assigned_is gs exact parts all covers choice is v l;
      allowed = record { meets = choice_meets gs exact parts all covers choice is; holds = choice_holds gs exact parts all covers choice };
    };
    to_choice = λ a allowed. record {
      choice = restricted gs exact parts all covers a parts;
      is_choice = restricted_choice gs exact parts all covers a allowed parts;
      of_choice = restricted_assigns gs exact parts all covers a allowed;
    };
    one_choice = λ a c d is_c is_d of_c of_d.
        told parts c all is_c a (λ v st. of_c v (in_some_within parts all v st))
        ∙ sym (told parts d all is_d a (λ v st. of_d v (in_some_within parts all v st)));
    none = λ part has empty a allowed. has_solution parts (restricted gs exact parts all covers a parts)
        (restricted_choice gs exact parts all covers a allowed parts) part has empty;
  }

-- from the list of parts by number
shows : (ps : List (List ℕ)) (v : ℕ) → InSome ps v
    → (k : ℕ) × (part : List ℕ) × (slice_get ps k ≡ Some part) × Stands part v
shows [] v st = absurd st
shows (part ∷ ps) v (inl st) = (0, part, refl, st)
shows (part ∷ ps) v (inr st) = let r = shows ps v st in (suc r.0, r.1, r.2, r.3)

in_some : (ps : List (List ℕ)) (v k : ℕ) (part : List ℕ) → slice_get ps k ≡ Some part → Stands part v
    → InSome ps v
in_some [] v k part e st = cc
in_some (p ∷ ps) v zero part e st = inl (subst (λ q. Stands q v) (same p part e) st)
  where
    same : (a b : List ℕ) → Some a ≡ Some b → b ≡ a
    same a b e = cc
in_some (p ∷ ps) v (suc k) part e st = inr (in_some ps v k part e st)

all_parts : (vars : ℕ) (cons : List Constraint) (value : ℕ → Option Order) (ps : List (List ℕ))
    → ((k : ℕ) (part : List ℕ) → slice_get ps k ≡ Some part → IsPart vars cons value part)
    → ((k m : ℕ) (p q : List ℕ) → k < m → slice_get ps k ≡ Some p → slice_get ps m ≡ Some q → (v : ℕ) → Stands
    p v → Stands q v → ⊥) → AllParts vars cons value ps
all_parts vars cons value [] each apart = tt
all_parts vars cons value (part ∷ ps) each apart = (
  each 0 part refl,
  (λ v st later. let r = shows ps v later in apart 0 (suc r.0) part r.1 (omega arith) refl r.2 v st r.3),
  all_parts vars cons value ps (λ k p e. each (suc k) p e)
      (λ k m p q l e f. apart (suc k) (suc m) p q (omega (arith, l)) e f),
)

first_least : (vars : ℕ) (cons : List Constraint) (value : ℕ → Option Order) (p : List ℕ)
    → IsPart vars cons value p → (v : ℕ) → Stands p v → slice_index p 0 ≤ v
first_least vars cons value p is v (zero, l, e) = omega (arith, e)
first_least vars cons value p is v (suc i, l, e) = let r = is.rising 0 (suc i) (omega arith)
    l in omega (arith, r, e)

-- two parts have no variable in common
pub parts_apart : (vars : ℕ) (cons : List Constraint) (value : ℕ → Option Order) (p q : List ℕ)
    → IsPart vars cons value p → IsPart vars cons value q → slice_index p 0 < slice_index q 0 → (v : ℕ)
    → Stands p v → Stands q v → ⊥
parts_apart vars cons value p q is_p is_q less v (i, li, ei) (j, lj, ej) =
    let p_open : IsUndecided vars value (slice_index p 0) = is_p.undecided 0 is_p.some in
    let q_open : IsUndecided vars value (slice_index q 0) = is_q.undecided 0 is_q.some in
    -- the first of q is connected to v, and so is that of p
    let to_q = (is_q.class j (slice_index q 0) lj q_open).1
    (stands_contains q (slice_index q 0) (0, is_q.some, refl)) in
    let to_p = (is_p.class i (slice_index p 0) li p_open).1
    (stands_contains p (slice_index p 0) (0, is_p.some, refl)) in
    let q_in_p = (is_p.class i (slice_index q 0) li q_open).0
    (subst (λ u. AreConnected vars cons value u (slice_index q 0)) (ej ∙ sym ei) to_q) in
    let p_in_q = (is_q.class j (slice_index p 0) lj p_open).0
    (subst (λ u. AreConnected vars cons value u (slice_index p 0)) (ei ∙ sym ej) to_p) in
    let b = first_least vars cons value q is_q (slice_index p 0) (contains_stands q (slice_index p 0) p_in_q)
    in
    omega (arith, less, b)

pub parts_factor : (vars : ℕ) (cons : List Constraint) (value : ℕ → Option Order) (parts : List (List ℕ))
    → AreFit vars cons → AreParts vars cons value parts → FactorsFor vars cons value parts
parts_factor vars cons value parts fit are gs exact = factors vars cons value fit parts
    (all_parts vars cons value parts are.each
    (λ k m p q l e f. parts_apart vars cons value p q (are.each k p e) (are.each m q f)
    (are.sorted k m p q l e f)))
    (λ v o. let r = are.all v o in in_some parts v r.0 r.1 r.2 (contains_stands r.1 v r.3)) gs exact
