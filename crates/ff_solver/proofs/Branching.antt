-- A value is tried, and its branch is left and taken up again.
use Rattle.std.proofs.Common.{◌≡◌, ℕ, zero, suc, ◌+◌, ◌<◌, ◌≤◌, ◌⊎◌, inl, inr, List, [], ◌∷◌, ◌++◌, length, reverse, drop, take, get_or, refl, sym, ap, ◌∙◌, subst, arith, Option, Some, None, if◌then◌else◌, Contains}
use Rattle.std.specs.Vec.{vec_capacity}
use Rattle.std.proofs.lemmas.Bool.{cases_eq, eq-eqb}
use Rattle.std.proofs.lemmas.List.{length-append, length-take-le, get_or-take, get_or_push, get_or_append_left, reverse-append, drop_all, drop_more, length-reverse, get_or-set_same, get_or-set_other}
use Rattle.ff_basics.proofs.Options.{some_none, some_same}
use Rattle.ff_tables.specs.declared.orders.Order.{Order}
use Rattle.ff_tables.specs.declared.orders.Order.TheVariants.{Below, Above}
use Rattle.ff_tables.specs.declared.terms.Term.{Term}
use Rattle.ff_tables.specs.declared.terms.Constraint.{Constraint}
use Rattle.ff_tables.specs.Orders.{term_at}
use Rattle.ff_tables.specs.Forces.{Knows}
use Rattle.ff_tables.proofs.Agreeing.{forces_more}
use Rattle.ff_propagate.specs.declared.trail.Step.{Step}
use Rattle.ff_propagate.specs.declared.trail.Trail.{Trail}
use Rattle.ff_propagate.specs.Trails.{value_in, known, step_at, cut, without, IsTrail, IsStepped, IsSilent, AreReady}
use Rattle.ff_propagate.specs.Trees.{Tree, AtNode, IsTreeAt, visits}
use Rattle.ff_solver.specs.declared.path.Path.{Path}
use Rattle.ff_solver.specs.Moves.{Alike, IsAssumed, IsBranched, IsTakenBack, IsTakenUp}
use Rattle.ff_solver.specs.Paths.{AreSilent, IsAtNode, AreMarks, IsPath, IsReady, IsBranch, AreBranches, ArePending, AreNext, nodes_of, Nodes}
use Rattle.ff_solver.proofs.Listing.{tried_or_now, tried_now, tried_before}

-- where the values of its terms are the same, a constraint stays silent
silent_same : (con : Constraint) (f g : ℕ → Option Order)
    → ((j : ℕ) → j < length con.terms → g (term_at con.terms j).var ≡ f (term_at con.terms j).var)
    → IsSilent f con → IsSilent g con
silent_same con f g same quiet v s (p, l, e, only) =
    ap g (sym e) ∙ same p l ∙ ap f e
    ∙ quiet v s
    (forces_more con.kind con.terms (Knows g) (Knows f) v s (λ j t m q. sym (same j m) ∙ q)
    (p, l, e, only))

silent_alike : (cons : List Constraint) (f g : ℕ → Option Order) → Alike f g → AreSilent cons f
    → AreSilent cons g
silent_alike cons f g alike silent c con is = silent_same con f g (λ j l. alike (term_at con.terms j).var)
    (silent c con is)

node_alike : (cons : List Constraint) (value : ℕ → Option Order) (tried : List (ℕ × Order))
    (f g : ℕ → Option Order) → Alike f g → IsAtNode cons value tried f → IsAtNode cons value tried g
node_alike cons value tried f g alike node = record {
  inside = λ v s e. node.inside v s (sym (alike v) ∙ e);
  holds = λ v s w. alike v ∙ node.holds v s w;
}

-- what was known and decided before the trail had this length is the same
pub record AreAlike (old new : Trail) (bound : ℕ) : Type 0 where
  pub cuts : (m : ℕ) → m < bound → Alike (cut old m) (cut new m)
  pub vars : (m : ℕ) → m < bound → (step_at new m).var ≡ (step_at old m).var

pub below_bound : (old new : Trail) (bound m : ℕ) → m < bound → AreAlike old new bound → AreAlike old new m
below_bound old new bound m l
    alike = record { cuts = λ k a. alike.cuts k (omega (arith, a, l)); vars = λ k a. alike.vars k (omega (arith, a, l)) }

pub marks_alike : (cons : List Constraint) (old new : Trail) (bound : ℕ) (marks : List ℕ)
    → AreAlike old new bound → AreMarks cons old bound marks → AreMarks cons new bound marks
marks_alike cons old new bound [] alike are = are
marks_alike cons old new bound (m ∷ marks) alike
    are = (are.0, silent_alike cons (cut old m) (cut new m) (alike.cuts m are.0) are.1, marks_alike cons old new m marks (below_bound old new bound m are.0 alike) are.2)

branch_alike : (cons : List Constraint) (value : ℕ → Option Order) (part : List ℕ) (old new : Trail) (m : ℕ)
    (tree : Tree) → Alike (cut old m) (cut new m)
    → (step_at new m).var ≡ (step_at old m).var
    → IsBranch cons value part old m tree → IsBranch cons value part new m tree
branch_alike cons value part old new m tree alike same b = record {
  tried = b.tried;
  node = node_alike cons value b.tried (cut old m) (cut new m) alike b.node;
  below = subst (λ v. IsTreeAt cons (Knows value) part ((v, Above) ∷ b.tried) tree) (sym same) b.below;
}

pub branches_alike : (cons : List Constraint) (value : ℕ → Option Order) (part : List ℕ) (old new : Trail)
    (bound : ℕ) (marks : List ℕ) (trees : List Tree) → AreAlike old new bound → AreMarks cons old bound marks
    → AreBranches cons value part old marks trees → AreBranches cons value part new marks trees
branches_alike cons value part old new bound [] [] alike are b = b
branches_alike cons value part old new bound [] (t ∷ trees) alike are b = absurd b
branches_alike cons value part old new bound (m ∷ marks) [] alike are b = absurd b
branches_alike cons value part old new bound (m ∷ marks) (tree ∷ trees) alike are b = (
  branch_alike cons value part old new m tree (alike.cuts m are.0) (alike.vars m are.0) b.0,
  branches_alike cons value part old new m marks trees (below_bound old new bound m are.0 alike) are.2 b.1,
)

pub longer : (old : Trail) (v : ℕ) (s : Order) (new : Trail) → IsStepped old v s None new
    → length new.steps.items ≡ length old.steps.items + 1
longer old v s new set = ap length set.steps ∙ length-append old.steps.items (record { var = v; by = None } ∷ [])

-- the variable of the step at a place
abbrev var_at : List Step → ℕ → ℕ
var_at steps i = (get_or {A = Step} steps i (record { var = 0; by = None })).var

-- the step that was put at the end
pub last_var : (old : Trail) (v : ℕ) (s : Order) (new : Trail) → IsStepped old v s None new
    → (step_at new (length old.steps.items)).var ≡ v
last_var old v s new set = ap (λ (xs : List Step). var_at xs (length old.steps.items)) set.steps
    ∙ ap (λ (x : Step). x.var) (get_or_push old.steps.items (record { var = v; by = None }) (record { var = 0; by = None })
    (length old.steps.items) refl)

pub known_set : (old : Trail) (v : ℕ) (s : Order) (new : Trail) → IsStepped old v s None new
    → v < length old.values.list.items → known new v ≡ Some s
known_set old v s new set l = ap (λ xs. value_in xs v) set.values
    ∙ get_or-set_same old.values.list.items v (Some s) None l

pub known_other : (old : Trail) (v : ℕ) (s : Order) (new : Trail) → IsStepped old v s None new → (w : ℕ)
    → (w ≡ v → ⊥) → known new w ≡ known old w
known_other old v s new set w n = ap (λ xs. value_in xs w) set.values
    ∙ get_or-set_other old.values.list.items v w (Some s) None n

pub set_alike : (vars : ℕ) (old : Trail) (v : ℕ) (s : Order) (new : Trail) → IsAssumed vars old v s new
    → AreAlike old new (length old.steps.items)
set_alike vars old v s new set = record {
  cuts = λ m l w. set.same m (omega (arith, l)) w;
  vars = λ m l. ap (λ (xs : List Step). var_at xs m) set.stepped.steps
      ∙ ap (λ (x : Step). x.var) (get_or_append_left old.steps.items (record { var = v; by = None } ∷ []) (record { var = 0; by = None }) m l);
}

-- what was known when the trail had its present length
pub cut_now : (t : Trail) (m : ℕ) → length t.steps.items ≤ m → Alike (known t) (cut t m)
cut_now t m l w = ap (λ ss. without (known t) ss w) (drop_all m t.steps.items l)

at_node_more : (cons : List Constraint) (value : ℕ → Option Order) (tried : List (ℕ × Order)) (v : ℕ)
    (s : Order) (w : ℕ) (t : Order) → AtNode cons (Knows value) tried w t
    → AtNode cons (Knows value) ((v, s) ∷ tried) w t
at_node_more cons value tried v s w t inside set closed = inside set (record {
  base_held = λ u b with_it. elim with_it [
    | inl k ↦ closed.base_held u b (inl k)
    | inr among ↦ closed.base_held u b (inr (tried_before v s tried u b among))
  ];
  forced_held = closed.forced_held;
})

-- one more variable is tried
pub node_set : (cons : List Constraint) (value : ℕ → Option Order) (tried : List (ℕ × Order))
    (f g : ℕ → Option Order) (v : ℕ) (s : Order) → IsAtNode cons value tried f → f v ≡ None → g v ≡ Some s
    → ((w : ℕ) → (w ≡ v → ⊥) → g w ≡ f w) → IsAtNode cons value ((v, s) ∷ tried) g
node_set cons value tried f g v s node none here other = record {
  inside = λ w t e. elim (cases_eq w v) [
    | inl q ↦ (let same : s ≡ t = some_same (sym here ∙ ap g (sym q) ∙ e) in
        λ set closed. closed.base_held w t (inr (moved (sym q) same (tried_now v s tried))))
    | inr n ↦ at_node_more cons value tried v s w t (node.inside w t (sym (other w n) ∙ e))
  ];
  holds = λ w t with_it. elim with_it [
    | inl k ↦ old w t (node.holds w t (inl k))
    | inr among ↦ elim (tried_or_now v s tried w t among) [
      | inl now ↦ ap g now.0 ∙ here ∙ ap (λ b. Some b) (sym now.1)
      | inr before ↦ old w t (node.holds w t (inr before))
    ]
  ];
}
  where
    moved : {a b : ℕ} {x y : Order} → a ≡ b → x ≡ y → Contains ((v, s) ∷ tried) (a, x)
        → Contains ((v, s) ∷ tried) (b, y)
    moved {a} {b} {x} {y} p q among = subst (λ z. Contains ((v, s) ∷ tried) (b, z)) q
        (subst (λ n. Contains ((v, s) ∷ tried) (n, x)) p among)

    old : (w : ℕ) (t : Order) → f w ≡ Some t → g w ≡ Some t
    old w t e = elim (cases_eq w v) [
      | inl q ↦ some_none (ap f (sym q) ∙ e) none
      | inr n ↦ other w n ∙ e
    ]

find_var : (ts : List Term) (v n : ℕ)
    → ((j : ℕ) × (j < n) × ((term_at ts j).var ≡ v)) ⊎ ((j : ℕ) → j < n → (term_at ts j).var ≡ v → ⊥)
find_var ts v zero = inr (λ j l e. omega (arith, l))
find_var ts v (suc n) = elim (find_var ts v n) [
  | inl r ↦ inl (r.0, omega (arith, r.1), r.2)
  | inr none ↦ elim (cases_eq (term_at ts n).var v) [
    | inl e ↦ inl (n, omega arith, e)
    | inr ne ↦ inr (λ j l e. elim (cases_eq j n) [ inl q ↦ ne (ap (λ k. (term_at ts k).var) (sym q) ∙ e) | inr m ↦ none j (omega (arith, l, m)) e ])
  ]
]

-- the constraints of the variable that was set wait
ready_set : (cons : List Constraint) (old : Trail) (v : ℕ) (s : Order) (new : Trail) → IsStepped old v s None new
    → AreSilent cons (known old) → AreReady cons new (length old.steps.items)
ready_set cons old v s new set silent c con is = elim (find_var con.terms v (length con.terms)) [
  | inl r ↦ inl (
    length old.steps.items,
    r.0,
    omega arith,
    omega (arith, longer old v s new set),
    r.1,
    last_var old v s new set ∙ sym r.2,
  )
  | inr away ↦ inr (silent_same con (known old) (known new) (λ j m. known_other old v s new set (term_at con.terms j).var (away j m)) (silent c con is))
]

pub reverse_push : (ms : List ℕ) (m : ℕ) → reverse (ms ++ m ∷ []) ≡ m ∷ reverse ms
reverse_push ms m = reverse-append ms (m ∷ [])

pub marks_long : (cons : List Constraint) (t : Trail) (bound : ℕ) (marks : List ℕ)
    → AreMarks cons t bound marks → length marks ≤ bound
marks_long cons t bound [] are = omega arith
marks_long cons t bound (m ∷ marks) are = let r = marks_long cons t m marks are.2 in omega (arith, r, are.0)

pub branched_path : (vars : ℕ) (cons : List Constraint) (old : Path) (v : ℕ) (new : Path)
    → IsPath vars cons old → AreSilent cons (known old.trail) → IsBranched vars old v new
    → IsPath vars cons new
branched_path vars cons old v new is silent b =
    let t = old.trail in
    let long = longer t v Below new.trail b.set.stepped in
    record {
      trail = b.set.trail;
      marks = subst (λ ms. AreMarks cons new.trail (length new.trail.steps.items) ms)
          (sym (ap reverse b.branches ∙ reverse_push old.branches.items (length t.steps.items))) (
            omega (arith, long),
            silent_alike cons (known t) (cut new.trail (length t.steps.items))
                (λ w. b.set.same (length t.steps.items) (omega arith) w ∙ cut_now t (length t.steps.items) (omega arith) w)
                silent,
            marks_alike cons t new.trail (length t.steps.items) (reverse old.branches.items)
                (set_alike vars t v Below new.trail b.set) is.marks,
          );
      room = omega (arith, is.room, b.room);
    }

pub branched_ready : (vars : ℕ) (cons : List Constraint) (old : Path) (v : ℕ) (new : Path)
    → AreSilent cons (known old.trail) → IsBranched vars old v new → IsReady cons new.trail new.next
branched_ready vars cons old v new silent b = subst (IsReady cons new.trail) (sym b.next) (
  (let long = longer old.trail v Below new.trail b.set.stepped in omega (arith, long)),
  ready_set cons old.trail v Below new.trail b.set.stepped silent,
)

pub branched_left : (vars : ℕ) (cons : List Constraint) (old : Path) (v : ℕ) (new : Path)
    → IsPath vars cons old → known old.trail v ≡ None → IsBranched vars old v new → v < vars
    → (value : ℕ → Option Order) (part : List ℕ) (tried : List (ℕ × Order)) (below above : Tree)
    (nodes : Nodes)
    → IsAtNode cons value tried (known old.trail)
    → IsTreeAt cons (Knows value) part ((v, Below) ∷ tried) below
    → IsTreeAt cons (Knows value) part ((v, Above) ∷ tried) above
    → ArePending cons value part old nodes
    → AreNext cons value part new (visits below ++ (visits above ++ nodes))
branched_left vars cons old v new is none b l value part tried below above nodes node tb ta pending =
    let t = old.trail in
    let m = length t.steps.items in
    let here : (step_at new.trail m).var ≡ v = last_var t v Below new.trail b.set.stepped in
    record {
      tried = (v, Below) ∷ tried;
      tree = below;
      later = visits above ++ nodes;
      node = node_set cons value tried (known t) (known new.trail) v Below node none
          (known_set t v Below new.trail b.set.stepped (omega (arith, l, is.trail.wide)))
          (known_other t v Below new.trail b.set.stepped);
      below = tb;
      pending = record {
        trees = above ∷ pending.trees;
        branches = subst (λ ms. AreBranches cons value part new.trail ms (above ∷ pending.trees))
            (sym (ap reverse b.branches ∙ reverse_push old.branches.items m)) (
              record {
                tried = tried;
                node = node_alike cons value tried (known t) (cut new.trail m)
                    (λ w. b.set.same m (omega arith) w ∙ cut_now t m (omega arith) w)
                    node;
                below = subst (λ u. IsTreeAt cons (Knows value) part ((u, Above) ∷ tried) above) (sym here) ta;
              },
              branches_alike cons value part t new.trail m (reverse old.branches.items) pending.trees
                  (set_alike vars t v Below new.trail b.set) is.marks pending.branches,
            );
        are = ap (λ ns. visits above ++ ns) pending.are;
      };
      are = refl;
    }

pub record IsMark (cons : List Constraint) (old : Path) (m : ℕ) (marks : List ℕ) : Type 0 where
  pub within : m < length old.trail.steps.items
  pub silent : AreSilent cons (cut old.trail m)
  pub earlier : AreMarks cons old.trail m (reverse marks)

pub last_mark : (vars : ℕ) (cons : List Constraint) (old : Path) (m : ℕ) (marks : List ℕ)
    → IsPath vars cons old → old.branches.items ≡ marks ++ m ∷ [] → IsMark cons old m marks
last_mark vars cons old m marks is e =
    let r : AreMarks cons old.trail (length old.trail.steps.items)
    (m ∷ reverse marks) = subst (λ ms. AreMarks cons old.trail (length old.trail.steps.items) ms)
    (ap reverse e ∙ reverse_push marks m) is.marks in
    record { within = r.0; silent = r.1; earlier = r.2 }

cut_at : (t : Trail) (m : ℕ) → m < length t.steps.items → cut t m ((step_at t m).var) ≡ None
cut_at t m l = ap (λ ss. without (known t) ss ((step_at t m).var)) (drop_more t.steps.items m (record { var = 0; by = None }) l)
    ∙ ap (λ b. if b then None else without (known t) (drop (m + 1) t.steps.items) ((step_at t m).var))
    (eq-eqb ((step_at t m).var) ((step_at t m).var) refl)

pub marks_up : (cons : List Constraint) (t : Trail) (bound more : ℕ) (marks : List ℕ) → bound ≤ more
    → AreMarks cons t bound marks → AreMarks cons t more marks
marks_up cons t bound more [] l are = are
marks_up cons t bound more (m ∷ marks) l are = (omega (arith, are.0, l), are.1, are.2)

-- the middle of taking up a branch
pub record IsMiddle (vars : ℕ) (cons : List Constraint) (old : Path) (m v : ℕ) (mid : Trail)
    (marks : List ℕ) : Type 0 where
  pub mark : IsMark cons old m marks
  pub long : length mid.steps.items ≡ m
  pub var_within : v < vars
  pub none : known mid v ≡ None
  pub now : Alike (cut old.trail m) (known mid)
  pub alike : AreAlike old.trail mid m
  pub wide : v < length mid.values.list.items

pub middle : (vars : ℕ) (cons : List Constraint) (old : Path) (m v : ℕ) (mid : Trail) (new : Path)
    → IsPath vars cons old → IsTakenBack vars old m v mid new
    → IsMiddle vars cons old m v mid new.branches.items
middle vars cons old m v mid new is t =
    let mark = last_mark vars cons old m new.branches.items is t.popped in
    let long : length mid.steps.items ≡ m = ap length t.mid_steps
    ∙ length-take-le m old.trail.steps.items (omega (arith, mark.within)) in
    let now : Alike (cut old.trail m) (known mid) = λ w. sym (cut_now mid m (omega (arith, long)) w)
    ∙ t.same m (omega arith) w in
    let within : v < vars = subst (λ n. n < vars) t.var (is.trail.stepped m mark.within) in
    let none : known mid v ≡ None = now v ∙ ap (cut old.trail m) (sym t.var)
    ∙ cut_at old.trail m mark.within in
    record {
      mark = mark;
      long = long;
      var_within = within;
      none = none;
      now = now;
      alike = record {
        cuts = λ k l. t.same k (omega (arith, l));
        vars = λ k l. ap (λ (xs : List Step). var_at xs k) t.mid_steps
            ∙ ap (λ (x : Step). x.var) (get_or-take m old.trail.steps.items k (record { var = 0; by = None }) l);
      };
      wide = omega (arith, within, t.mid_trail.wide);
    }

alike_trans : (a b d : Trail) (bound : ℕ) → AreAlike a b bound → AreAlike b d bound → AreAlike a d bound
alike_trans a b d bound x
    y = record { cuts = λ k l w. y.cuts k l w ∙ x.cuts k l w; vars = λ k l. y.vars k l ∙ x.vars k l }

pub taken_alike : (vars : ℕ) (old mid : Trail) (m v : ℕ) (new : Trail) → length mid.steps.items ≡ m
    → AreAlike old mid m → IsAssumed vars mid v Above new → AreAlike old new m
taken_alike vars old mid m v new long alike set = alike_trans old mid new m alike
    (subst (λ k. AreAlike mid new k) long (set_alike vars mid v Above new set))

pub taken_path : (vars : ℕ) (cons : List Constraint) (old : Path) (m v : ℕ) (mid : Trail) (new : Path)
    → IsPath vars cons old → IsTakenUp vars old m v mid new
    → IsPath vars cons new
taken_path vars cons old m v mid new is t =
    let c = middle vars cons old m v mid new is t.back in
    let long : length new.trail.steps.items ≡ m + 1 = longer mid v Above new.trail t.set.stepped
    ∙ ap (λ n. n + 1) c.long in
    record {
      trail = t.set.trail;
      marks = marks_up cons new.trail m (length new.trail.steps.items) (reverse new.branches.items)
          (omega (arith, long))
          (marks_alike cons old.trail new.trail m (reverse new.branches.items)
          (taken_alike vars old.trail mid m v new.trail c.long c.alike t.set) c.mark.earlier);
      room = omega (arith, is.room, t.back.room);
    }

pub taken_ready : (vars : ℕ) (cons : List Constraint) (old : Path) (m v : ℕ) (mid : Trail) (new : Path)
    → IsPath vars cons old → IsTakenUp vars old m v mid new
    → (m ≤ length new.trail.steps.items) × AreReady cons new.trail m
taken_ready vars cons old m v mid new is t =
    let c = middle vars cons old m v mid new is t.back in
    let long : length new.trail.steps.items ≡ m + 1 = longer mid v Above new.trail t.set.stepped
    ∙ ap (λ n. n + 1) c.long in (
      omega (arith, long),
      subst (λ k. AreReady cons new.trail k) c.long
          (ready_set cons mid v Above new.trail t.set.stepped
          (silent_alike cons (cut old.trail m) (known mid) c.now c.mark.silent)),
    )

pub taken_left : (vars : ℕ) (cons : List Constraint) (old : Path) (m v : ℕ) (mid : Trail) (new : Path)
    → IsPath vars cons old → IsTakenUp vars old m v mid new
    → (value : ℕ → Option Order) (part : List ℕ) (nodes : Nodes) → ArePending cons value part old nodes
    → AreNext cons value part new nodes
taken_left vars cons old m v mid new is t value part nodes pending = sort pending.trees
    (subst (λ ms. AreBranches cons value part old.trail ms pending.trees)
    (ap reverse t.back.popped ∙ reverse_push new.branches.items m) pending.branches) pending.are
  where
    sort : (trees : List Tree) → AreBranches cons value part old.trail (m ∷ reverse new.branches.items) trees
        → nodes ≡ nodes_of trees → AreNext cons value part new nodes
    sort [] b are = absurd b
    sort (tree ∷ trees) b are =
        let c = middle vars cons old m v mid new is t.back in
        record {
          tried = (v, Above) ∷ b.0.tried;
          tree = tree;
          later = nodes_of trees;
          node = node_set cons value b.0.tried (known mid) (known new.trail) v Above
              (node_alike cons value b.0.tried (cut old.trail m) (known mid) c.now b.0.node) c.none
              (known_set mid v Above new.trail t.set.stepped c.wide) (known_other mid v Above new.trail t.set.stepped);
          below = subst (λ u. IsTreeAt cons (Knows value) part ((u, Above) ∷ b.0.tried) tree) t.back.var b.0.below;
          pending = record {
            trees = trees;
            branches = branches_alike cons value part old.trail new.trail m (reverse new.branches.items) trees
                (taken_alike vars old.trail mid m v new.trail c.long c.alike t.set) c.mark.earlier b.1;
            are = refl;
          };
          are = are;
        }

pub branches_long : (vars : ℕ) (cons : List Constraint) (p : Path) → IsPath vars cons p
    → length p.branches.items ≤ length p.trail.steps.items
branches_long vars cons p is = let r = marks_long cons p.trail (length p.trail.steps.items)
    (reverse p.branches.items) is.marks in omega (arith, r, length-reverse p.branches.items)

pub taken : (vars : ℕ) (old : Path) (m : ℕ) (x : Step) (mid : Trail) (new : Path)
    → old.branches.items ≡ new.branches.items ++ m ∷ [] → vec_capacity new.branches ≡ vec_capacity old.branches
    → x ≡ step_at old.trail m → IsTrail vars mid → mid.steps.items ≡ take m old.trail.steps.items
    → ((k : ℕ) → k ≤ m → Alike (cut old.trail k) (cut mid k)) → IsTakenBack vars old m x.var mid new
taken vars old m x mid new popped room read trail front same = record {
  popped = popped;
  room = room;
  var = sym (ap (λ (y : Step). y.var) read);
  mid_trail = trail;
  mid_steps = front;
  same = same;
}
