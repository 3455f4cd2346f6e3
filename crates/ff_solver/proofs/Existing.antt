-- Each part has a decision tree: the closure at a node is found by setting what a constraint forces, as long as there is such.
use Rattle.std.proofs.Common.{◌≡◌, ℕ, zero, suc, ◌+◌, ◌<◌, ◌≤◌, ◌==◌, ◌⊎◌, inl, inr, Bool, true, false, List, [], ◌∷◌, length, get_or, map, slice_index, slice_get, refl, sym, ap, ◌∙◌, subst, arith, Option, Some, None, if◌then◌else◌}
use Rattle.std.specs.List.{list_all}
use Rattle.std.proofs.lemmas.Bool.{cases_eq, eq-eqb, ne_eqb}
use Rattle.std.proofs.lemmas.List.{length-map, get_or-map}
use Rattle.std.proofs.lemmas.Option.{slice_get_within}
use Rattle.ff_basics.proofs.Options.{same_value, some_none, some_or_none}
use Rattle.ff_tables.specs.declared.orders.Order.{Order}
use Rattle.ff_tables.specs.declared.orders.Order.TheVariants.{Below, Above}
use Rattle.ff_tables.specs.declared.terms.Constraint.{Constraint}
use Rattle.ff_tables.specs.Orders.{term_at, turn, is_order, row_at}
use Rattle.ff_tables.specs.Rows.{rows_of}
use Rattle.ff_tables.specs.Systems.{AreFit, IsFit}
use Rattle.ff_tables.specs.Forces.{Forces, Knows, NoneAgrees, Only, agrees_below}
use Rattle.ff_tables.proofs.Agreeing.{forces_more, turn_turn, agrees_tested}
use Rattle.ff_propagate.specs.Trees.{Tree, Clash, Full, Fork, With, AtNode, IsTreeAt, IsTree, IsClashNode}
use Rattle.ff_propagate.proofs.Deciding.{has_row-decides, row_or_none}
use Rattle.ff_propagate.proofs.Quiet.{all_at, all_from, closure_forced}
use Rattle.ff_propagate.specs.Trails.{IsSilent}
use Rattle.ff_solver.specs.Paths.{AreSilent, IsAtNode}
use Rattle.ff_solver.proofs.Inverting.{dead_clash, settled, calm}
use Rattle.ff_solver.proofs.Branching.{node_set}

turn_one : (b : Bool) (s t : Order) → turn b s ≡ turn b t → s ≡ t
turn_one b s t e = sym (turn_turn b s) ∙ ap (turn b) e ∙ turn_turn b t

order_is : (a b : Order) → is_order a b ≡ true → a ≡ b
order_is Below Below h = refl
order_is Below Above h = cc
order_is Above Below h = cc
order_is Above Above h = refl

is_order_of : (a b : Order) → a ≡ b → is_order a b ≡ true
is_order_of Below Below h = refl
is_order_of Below Above h = cc
is_order_of Above Below h = cc
is_order_of Above Above h = refl

-- a row that passes has the value b at the place p
abbrev only_row : (List Order → Bool) → ℕ → Order → List Order → Bool
only_row g p b row = if g row then is_order (row_at row p) b else true

only_to : (g : List Order → Bool) (p : ℕ) (b : Order) (row : List Order) → only_row g p b row ≡ true
    → g row ≡ true → row_at row p ≡ b
only_to g p b row h e = order_is (row_at row p) b
    (sym (ap (λ t. if t then is_order (row_at row p) b else true) e) ∙ h)

only_from : (g : List Order → Bool) (p : ℕ) (b : Order) (row : List Order) → (g row ≡ true → row_at row p ≡ b)
    → only_row g p b row ≡ true
only_from g p b row h = sort (g row) refl
  where
    sort : (t : Bool) → g row ≡ t → (if g row then is_order (row_at row p) b else true) ≡ true
    sort true e = ap (λ t. if t then is_order (row_at row p) b else true) e
        ∙ is_order_of (row_at row p) b (h e)
    sort false e = ap (λ t. if t then is_order (row_at row p) b else true) e

only_or_not : (con : Constraint) (f : ℕ → Option Order) (p : ℕ) (b : Order)
    → Only con.kind con.terms (Knows f) p b ⊎ (Only con.kind con.terms (Knows f) p b → ⊥)
only_or_not con f p b = sort (list_all (only_row g p b) (rows_of con.kind)) refl
  where
    g : List Order → Bool
    g = agrees_below con.terms f (length con.terms)

    clash : {t : Bool} → t ≡ false → t ≡ true → ⊥
    clash x y = cc

    sort : (t : Bool) → list_all (only_row g p b) (rows_of con.kind) ≡ t
        → Only con.kind con.terms (Knows f) p b ⊎ (Only con.kind con.terms (Knows f) p b → ⊥)
    sort true
        e = inl (λ k row at a. only_to g p b row (all_at (only_row g p b) (rows_of con.kind) k row e at) ((agrees_tested con.terms f row).1 a))
    sort false
        e = inr (λ only. clash e (all_from (only_row g p b) (rows_of con.kind) (λ k row at. only_from g p b row (λ h. only k row at ((agrees_tested con.terms f row).0 h)))))

-- a value that is forced of an unknown variable
record IsMore (vars : ℕ) (con : Constraint) (f : ℕ → Option Order) : Type 0 where
  var : ℕ
  value : Order
  within : var < vars
  unknown : f var ≡ None
  forces : Forces con.kind con.terms (Knows f) var value

more_at : (vars : ℕ) (con : Constraint) → IsFit vars con → (f : ℕ → Option Order) (p : ℕ) (b : Order)
    → p < length con.terms → f (term_at con.terms p).var ≡ None → Only con.kind con.terms (Knows f) p b
    → IsMore vars con f
more_at vars con fit f p b l none only = record {
  var = (term_at con.terms p).var;
  value = turn (term_at con.terms p).flipped b;
  within = fit.within p l;
  unknown = none;
  forces = (
    p,
    l,
    refl,
    subst (λ s. Only con.kind con.terms (Knows f) p s)
        (sym (turn_turn (term_at con.terms p).flipped b)) only,
  );
}

abbrev NoneOnly : Constraint → (ℕ → Option Order) → ℕ → Type 0
NoneOnly con f p = f (term_at con.terms p).var ≡ None → (b : Order) → Only con.kind con.terms (Knows f) p b
    → ⊥

at_term : (vars : ℕ) (con : Constraint) → IsFit vars con → (f : ℕ → Option Order) (p : ℕ)
    → p < length con.terms → IsMore vars con f ⊎ NoneOnly con f p
at_term vars con fit f p l = elim (some_or_none (f (term_at con.terms p).var)) [
  | inl k ↦ inr (λ none b only. some_none k.1 none)
  | inr none ↦ elim (only_or_not con f p Below) [
    | inl o ↦ inl (more_at vars con fit f p Below l none o)
    | inr nb ↦ elim (only_or_not con f p Above) [
      | inl o ↦ inl (more_at vars con fit f p Above l none o)
      | inr na ↦ inr (λ _ b only. neither nb na b only)
    ]
  ]
]
  where
    neither : (Only con.kind con.terms (Knows f) p Below → ⊥)
        → (Only con.kind con.terms (Knows f) p Above → ⊥) → (b : Order)
        → Only con.kind con.terms (Knows f) p b → ⊥
    neither nb na Below only = nb only
    neither nb na Above only = na only

at_terms : (vars : ℕ) (con : Constraint) → IsFit vars con → (f : ℕ → Option Order) (n : ℕ)
    → n ≤ length con.terms → IsMore vars con f ⊎ ((p : ℕ) → p < n → NoneOnly con f p)
at_terms vars con fit f zero l = inr (λ p m. absurd (omega (arith, m)))
at_terms vars con fit f (suc n) l = elim (at_terms vars con fit f n (omega (arith, l))) [
  | inl more ↦ inl more
  | inr all ↦ elim (at_term vars con fit f n (omega (arith, l))) [
    | inl more ↦ inl more
    | inr none ↦ inr (λ p m. elim (cases_eq p n) [ inl e ↦ subst (λ k. NoneOnly con f k) (sym e) none | inr ne ↦ all p (omega (arith, m, ne)) ])
  ]
]

-- a constraint is silent, or one is dead or forces more
abbrev Steps : ℕ → List Constraint → (ℕ → Option Order) → Type 0
Steps vars cons
    f = ((c : ℕ) × (con : Constraint) × (slice_get cons c ≡ Some con) × NoneAgrees con.kind con.terms
    (Knows f))
    ⊎ ((c : ℕ) × (con : Constraint) × (slice_get cons c ≡ Some con) × IsMore vars con f)

silent_or_more : (vars : ℕ) (con : Constraint) → IsFit vars con → (f : ℕ → Option Order)
    → IsSilent f con ⊎ (NoneAgrees con.kind con.terms (Knows f) ⊎ IsMore vars con f)
silent_or_more vars con fit f = elim (row_or_none f con) [
  | inr none ↦ inr (inl none)
  | inl has ↦ elim (at_terms vars con fit f (length con.terms) (omega arith)) [
    | inl more ↦ inr (inr more)
    | inr none ↦ inl (λ v s force. elim (some_or_none (f (term_at con.terms force.0).var)) [
      | inl k ↦ (
          let r = (has_row-decides f con).0 has in
          let fl = (term_at con.terms force.0).flipped in
          let a : row_at r.1 force.0 ≡ turn fl k.0 = r.3 force.0 (turn fl k.0) force.1
          (k.1 ∙ ap (λ b. Some b) (sym (turn_turn fl k.0))) in
          ap f (sym force.2) ∙ k.1 ∙ ap (λ b. Some b) (turn_one fl k.0 s (sym a ∙ force.3 r.0 r.1 r.2 r.3)))
      | inr unknown ↦ absurd (none force.0 force.1 unknown (turn (term_at con.terms force.0).flipped s) force.3)
    ])
  ]
]

con_or_none : (o : Option Constraint) → ((con : Constraint) × (o ≡ Some con)) ⊎ (o ≡ None)
con_or_none None = inr refl
con_or_none (Some con) = inl (con, refl)

con_clash : {A : Type 0} {o : Option Constraint} {con : Constraint} → o ≡ Some con → o ≡ None → A
con_clash p q = cc

all_or_more : (vars : ℕ) (cons : List Constraint) → AreFit vars cons → (f : ℕ → Option Order) (n : ℕ)
    → ((c : ℕ) (con : Constraint) → c < n → slice_get cons c ≡ Some con → IsSilent f con) ⊎ Steps vars cons f
all_or_more vars cons fit f zero = inl (λ c con l is. absurd (omega (arith, l)))
all_or_more vars cons fit f (suc n) = elim (all_or_more vars cons fit f n) [
  | inr step ↦ inr step
  | inl all ↦ elim (con_or_none (slice_get cons n)) [
    | inr none ↦ inl (λ c con l is. elim (cases_eq c n) [ inl e ↦ con_clash is (ap (slice_get cons) e ∙ none) | inr ne ↦ all c con (omega (arith, l, ne)) is ])
    | inl here ↦ elim (silent_or_more vars here.0 (fit n here.0 here.1) f) [
      | inl silent ↦ inl (λ c con l is. elim (cases_eq c n) [
        | inl e ↦ subst (λ d. IsSilent f d) (same_value here.1 (ap (slice_get cons) (sym e) ∙ is)) silent
        | inr ne ↦ all c con (omega (arith, l, ne)) is
      ])
      | inr step ↦ elim step [
        | inl dead ↦ inr (inl (n, here.0, here.1, dead))
        | inr more ↦ inr (inr (n, here.0, here.1, more))
      ]
    ]
  ]
]

-- how many of the first n variables are unknown
abbrev pub unknown_of : Option Order → ℕ
unknown_of None = 1
unknown_of (Some s) = 0

abbrev pub count_open : (ℕ → Option Order) → ℕ → ℕ
count_open f zero = 0
count_open f (suc n) = count_open f n + unknown_of (f n)

abbrev pub put : (ℕ → Option Order) → ℕ → Order → ℕ → Option Order
put f v s u = if v == u then Some s else f u

pub put_here : (f : ℕ → Option Order) (v : ℕ) (s : Order) → put f v s v ≡ Some s
put_here f v s = ap (λ t. if t then Some s else f v) (eq-eqb v v refl)

pub put_other : (f : ℕ → Option Order) (v : ℕ) (s : Order) (u : ℕ) → (u ≡ v → ⊥) → put f v s u ≡ f u
put_other f v s u ne = ap (λ t. if t then Some s else f u) (ne_eqb v u (λ e. ne (sym e)))

count_same : (f : ℕ → Option Order) (v : ℕ) (s : Order) (n : ℕ) → n ≤ v
    → count_open (put f v s) n ≡ count_open f n
count_same f v s zero l = refl
count_same f v s (suc n) l = ap (λ k. k + unknown_of (put f v s n)) (count_same f v s n (omega (arith, l)))
    ∙ ap (λ o. count_open f n + unknown_of o) (put_other f v s n (λ e. omega (arith, e, l)))

count_less : (f : ℕ → Option Order) (v : ℕ) (s : Order) (n : ℕ) → v < n → f v ≡ None
    → count_open (put f v s) n + 1 ≡ count_open f n
count_less f v s zero l none = absurd (omega (arith, l))
count_less f v s (suc n) l none = elim (cases_eq v n) [
  | inl e ↦ (
      let a : unknown_of (put f v s n) ≡ 0 = ap unknown_of (ap (put f v s) (sym e) ∙ put_here f v s) in
      let b : unknown_of (f n) ≡ 1 = ap unknown_of (ap f (sym e) ∙ none) in
      omega (arith, a, b, count_same f v s n (omega (arith, e))))
  | inr ne ↦ (
      let a : unknown_of (put f v s n) ≡ unknown_of (f n) = ap unknown_of
      (put_other f v s n (λ e. ne (sym e))) in
      omega (arith, a, count_less f v s n (omega (arith, l, ne)) none))
]

-- the first place of the part whose variable is unknown, or all are known
abbrev Opens : (ℕ → Option Order) → List ℕ → ℕ → Type 0
Opens g part
    n = ((k : ℕ) × (k < n) × (g (slice_index part k) ≡ None)
    × ((j : ℕ) → j < k → (s : Order) × (g (slice_index part j) ≡ Some s)))
    ⊎ ((j : ℕ) → j < n → (s : Order) × (g (slice_index part j) ≡ Some s))

opens : (g : ℕ → Option Order) (part : List ℕ) (n : ℕ) → Opens g part n
opens g part zero = inr (λ j l. absurd (omega (arith, l)))
opens g part (suc n) = elim (opens g part n) [
  | inl k ↦ inl (k.0, omega (arith, k.1), k.2, k.3)
  | inr all ↦ elim (some_or_none (g (slice_index part n))) [
    | inr none ↦ inl (n, omega arith, none, all)
    | inl here ↦ inr (λ j l. elim (cases_eq j n) [ inl e ↦ (here.0, ap (λ i. g (slice_index part i)) e ∙ here.1) | inr ne ↦ all j (omega (arith, l, ne)) ])
  ]
]

abbrev value_or : Option Order → Order
value_or None = Below
value_or (Some s) = s

module _ (vars : ℕ) (cons : List Constraint) (value : ℕ → Option Order) (fit : AreFit vars cons) where
  -- a node's closure
  pub record IsClosedNode (tried : List (ℕ × Order)) (f : ℕ → Option Order) : Type 0 where
    pub values : ℕ → Option Order
    pub node : IsAtNode cons value tried values
    pub silent : AreSilent cons values
    pub fewer : count_open values vars ≤ count_open f vars

  forced_node : (tried : List (ℕ × Order)) (f : ℕ → Option Order) → IsAtNode cons value tried f
      → (c : ℕ) (con : Constraint) → slice_get cons c ≡ Some con → (v : ℕ) (s : Order) → f v ≡ None
      → Forces con.kind con.terms (Knows f) v s → IsAtNode cons value tried (put f v s)
  forced_node tried f node c con is v s none force = record {
    inside = λ w t e. elim (cases_eq w v) [
      | inl q ↦ subst (λ u. AtNode cons (Knows value) tried u t) (sym q)
          (subst (λ b. AtNode cons (Knows value) tried v b)
          (some_same (sym (put_here f v s) ∙ ap (put f v s) (sym q) ∙ e)) now)
      | inr ne ↦ node.inside w t (sym (put_other f v s w ne) ∙ e)
    ];
    holds = λ w t with_it. elim (cases_eq w v) [
      | inl q ↦ some_none (node.holds w t with_it) (ap f q ∙ none)
      | inr ne ↦ put_other f v s w ne ∙ node.holds w t with_it
    ];
  }
    where
      some_same : {a b : Order} → Some a ≡ Some b → a ≡ b
      some_same e = cc

      now : AtNode cons (Knows value) tried v s
      now = closure_forced cons (With (Knows value) tried) c con v s is
          (forces_more con.kind con.terms (Knows f) (AtNode cons (Knows value) tried) v s
          (λ j t l q. node.inside (term_at con.terms j).var t q) force)

  full : (part : List ℕ) (tried : List (ℕ × Order)) (g : ℕ → Option Order) → IsAtNode cons value tried g
      → AreSilent cons g → ((j : ℕ) → j < length part → (s : Order) × (g (slice_index part j) ≡ Some s))
      → (tree : Tree) × IsTreeAt cons (Knows value) part tried tree
  full part tried g node silent all = (
    Full (map (λ v. value_or (g v)) part),
    (
      calm cons value part tried g node silent,
      record {
        as_many = length-map part (λ v. value_or (g v));
        has = λ j l. node.inside (slice_index part j) (get_or (map (λ v. value_or (g v)) part) j Below)
            (let a = all j l in a.1 ∙ ap (λ b. Some b)
            (sym (get_or-map (λ v. value_or (g v)) part j 0 Below l ∙ ap value_or a.1)));
      },
    ),
  )

  fork : (part : List ℕ) (tried : List (ℕ × Order)) (g : ℕ → Option Order) → IsAtNode cons value tried g
      → AreSilent cons g → (k : ℕ) → k < length part → g (slice_index part k) ≡ None
      → ((j : ℕ) → j < k → (s : Order) × (g (slice_index part j) ≡ Some s))
      → (below : Tree) × IsTreeAt cons (Knows value) part ((slice_index part k, Below) ∷ tried) below
      → (above : Tree) × IsTreeAt cons (Knows value) part ((slice_index part k, Above) ∷ tried) above
      → (tree : Tree) × IsTreeAt cons (Knows value) part tried tree
  fork part tried g node silent k l none earlier below above = (
    Fork below.0 above.0,
    (
      calm cons value part tried g node silent,
      (
        slice_index part k,
        record {
          place = k;
          inside = l;
          is = refl;
          undecided = λ decided. some_none
              (settled cons value part tried g node silent (slice_index part k) decided.0 decided.1) none;
          earlier = λ j m. let e = earlier j m in (e.0, node.inside (slice_index part j) e.0 e.1);
        },
        below.1,
        above.1,
      ),
    ),
  )

  all_of : (f : ℕ → Option Order)
      → ((c : ℕ) (con : Constraint) → c < length cons → slice_get cons c ≡ Some con → IsSilent f con)
      → AreSilent cons f
  all_of f all c con is = all c con (slice_get_within cons c con is) is

  pub close_by : (fuel : ℕ) (tried : List (ℕ × Order)) (f : ℕ → Option Order) → IsAtNode cons value tried f
      → count_open f vars ≤ fuel → IsClashNode cons (Knows value) tried ⊎ IsClosedNode tried f
  close_by zero tried f node few = elim (all_or_more vars cons fit f (length cons)) [
    | inl all ↦ inr (record { values = f; node = node; silent = all_of f all; fewer = omega arith })
    | inr step ↦ elim step [
      | inl dead ↦ inl (dead_clash cons value [] tried f node vars fit dead.0 dead.1 dead.2 dead.3)
      | inr more ↦ (let less = count_less f more.3.var more.3.value vars more.3.within more.3.unknown in absurd (omega (arith, few, less)))
    ]
  ]
  close_by (suc fuel) tried f node few = elim (all_or_more vars cons fit f (length cons)) [
    | inl all ↦ inr (record { values = f; node = node; silent = all_of f all; fewer = omega arith })
    | inr step ↦ elim step [
      | inl dead ↦ inl (dead_clash cons value [] tried f node vars fit dead.0 dead.1 dead.2 dead.3)
      | inr more ↦ (
          let less = count_less f more.3.var more.3.value vars more.3.within more.3.unknown in
          elim (close_by fuel tried (put f more.3.var more.3.value)
          (forced_node tried f node more.0 more.1 more.2 more.3.var more.3.value more.3.unknown
          more.3.forces) (omega (arith, few, less))) [
            | inl clash ↦ inl clash
            | inr g ↦ inr (record { values = g.values; node = g.node; silent = g.silent; fewer = omega (arith, g.fewer, less) })
          ])
    ]
  ]

  -- each node without a clash is a leaf, or has two trees below it
  pub tree_at : (part : List ℕ) → ((j : ℕ) → j < length part → slice_index part j < vars)
      → (fuel : ℕ) (tried : List (ℕ × Order)) (f : ℕ → Option Order) → IsAtNode cons value tried f
      → count_open f vars ≤ fuel
      → (tree : Tree) × IsTreeAt cons (Knows value) part tried tree
  tree_at part within zero tried f node few = elim (close_by zero tried f node few) [
    | inl clash ↦ (Clash, clash)
    | inr g ↦ elim (opens g.values part (length part)) [
      | inr all ↦ full part tried g.values g.node g.silent all
      | inl k ↦ (let less = count_less g.values (slice_index part k.0) Below vars (within k.0 k.1) k.2 in absurd (omega (arith, g.fewer, few, less)))
    ]
  ]
  tree_at part within (suc fuel) tried f node few = elim (close_by (suc fuel) tried f node few) [
    | inl clash ↦ (Clash, clash)
    | inr g ↦ elim (opens g.values part (length part)) [
      | inr all ↦ full part tried g.values g.node g.silent all
      | inl k ↦ (
          let v = slice_index part k.0 in
          let below = count_less g.values v Below vars (within k.0 k.1) k.2 in
          let above = count_less g.values v Above vars (within k.0 k.1) k.2 in
          fork part tried g.values g.node g.silent k.0 k.1 k.2 k.3
          (tree_at part within fuel ((v, Below) ∷ tried) (put g.values v Below)
          (node_set cons value tried g.values (put g.values v Below) v Below g.node k.2
          (put_here g.values v Below) (put_other g.values v Below)) (omega (arith, g.fewer, few, below)))
          (tree_at part within fuel ((v, Above) ∷ tried) (put g.values v Above)
          (node_set cons value tried g.values (put g.values v Above) v Above g.node k.2
          (put_here g.values v Above) (put_other g.values v Above)) (omega (arith, g.fewer, few, above))))
    ]
  ]

  -- the tree of a part, from a board's values
  pub tree_of : (part : List ℕ) → ((j : ℕ) → j < length part → slice_index part j < vars)
      → (tree : Tree) × IsTree cons value part tree
  tree_of part within = tree_at part within (count_open value vars) [] value (record {
    inside = λ v s e set closed. closed.base_held v s (inl e);
    holds = λ v s with_it. elim with_it [ inl e ↦ e | inr among ↦ absurd (omega (arith, among.1)) ];
  }) (omega arith)
