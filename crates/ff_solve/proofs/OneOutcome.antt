-- The search of a part comes to one outcome within a budget.
use Rattle.std.proofs.Common.{◌≡◌, ◌⊎◌, inl, inr, ℕ, suc, ◌+◌, ◌*◌, ◌<◌, ◌∙◌, List, [], ◌∷◌, length, length-append, slice_index, Option, Some, refl, ap, sym, subst, arith}
use Rattle.ff_basics.proofs.Numbers.{less_or}
use Rattle.ff_tables.specs.declared.orders.Order.{Order}
use Rattle.ff_tables.specs.declared.orders.Order.TheVariants.{Below, Above}
use Rattle.ff_tables.specs.declared.terms.Constraint.{Constraint}
use Rattle.ff_propagate.specs.Trees.{Tree, Clash, Full, Fork, IsTreeAt, IsBranching, IsDecidedAt, HasValues, visits}
use Rattle.ff_report.specs.declared.parts.PartOutcome.{PartOutcome}
use Rattle.ff_report.specs.declared.parts.PartOutcome.TheVariants as outcome
use Rattle.std.proofs.lemmas.Bool.{false≢true}
use Rattle.ff_types.specs.declared.cases.Case.{Case}
use Rattle.ff_propagate.specs.Solutions.{solutions_of}
use Rattle.ff_log.specs.declared.logs.LogLine.{LogLine}
use Rattle.ff_log.specs.Logs.{Closes, Ground, State}
use Rattle.ff_log.specs.Grounds.{case_ground}
use Rattle.ff_report.proofs.AlikeTexts.{HasLines, IsShown, shape}
use Rattle.ff_solve.specs.Outcomes.{IsOutcome, EndsWithin, GoesBeyond}

-- the least undecided variable is one
one_branching : (cons : List Constraint) (base : ℕ → Order → Type 0) (tried : List (ℕ × Order)) (vars : List ℕ) (v w : ℕ) → IsBranching cons base tried vars v → IsBranching cons base tried vars w → v ≡ w
one_branching cons base tried vars v w a b = elim (less_or a.place b.place) [
  | inl l ↦ absurd (a.undecided (subst (λ u. IsDecidedAt cons base tried u) a.is (b.earlier a.place l)))
  | inr r ↦ elim r [
    | inl e ↦ sym a.is ∙ ap (slice_index vars) e ∙ b.is
    | inr l ↦ absurd (b.undecided (subst (λ u. IsDecidedAt cons base tried u) b.is (a.earlier b.place l)))
  ]
]

-- a node with all values branches on nothing
full_or_fork : {A : Type 0} (cons : List Constraint) (base : ℕ → Order → Type 0) (tried : List (ℕ × Order)) (vars : List ℕ) (values : List Order) (v : ℕ) → HasValues cons base tried vars values → IsBranching cons base tried vars v → A
full_or_fork cons base tried vars values v h b = absurd (b.undecided (subst (λ u. IsDecidedAt cons base tried u) b.is (_, h.has b.place b.inside)))

same_size : (cons : List Constraint) (base : ℕ → Order → Type 0) (vars : List ℕ) (tried : List (ℕ × Order)) (t u : Tree) → IsTreeAt cons base vars tried t → IsTreeAt cons base vars tried u → length (visits t) ≡ length (visits u)
same_size cons base vars tried Clash Clash a b = refl
same_size cons base vars tried Clash (Full values) a b = absurd (b.0 a)
same_size cons base vars tried Clash (Fork x y) a b = absurd (b.0 a)
same_size cons base vars tried (Full values) Clash a b = absurd (a.0 b)
same_size cons base vars tried (Full values) (Full others) a b = refl
same_size cons base vars tried (Full values) (Fork x y) a (apart, (v, branch, left, right)) = full_or_fork cons base tried vars values v a.1 branch
same_size cons base vars tried (Fork x y) Clash a b = absurd (a.0 b)
same_size cons base vars tried (Fork x y) (Full values) (apart, (v, branch, left, right)) b = full_or_fork cons base tried vars values v b.1 branch
same_size cons base vars tried (Fork x y) (Fork z w) (apart, (v, branch, left, right)) (apart2, (v2, branch2, left2, right2)) =
    let e : v2 ≡ v = one_branching cons base tried vars v2 v branch2 branch in
    let below = same_size cons base vars ((v, Below) ∷ tried) x z left (subst (λ n. IsTreeAt cons base vars ((n, Below) ∷ tried) z) e left2) in
    let above = same_size cons base vars ((v, Above) ∷ tried) y w right (subst (λ n. IsTreeAt cons base vars ((n, Above) ∷ tried) w) e right2) in
    ap suc (length-append (visits x) (visits y) ∙ ap (λ n. n + length (visits y)) below ∙ ap (λ n. length (visits z) + n) above ∙ sym (length-append (visits z) (visits w)))

-- a tree isn't both within the budget and beyond it
within_or_beyond : {A : Type 0} (cons : List Constraint) (value : ℕ → Option Order) (budget : ℕ) (part : List ℕ) → EndsWithin cons value budget part → GoesBeyond cons value budget part → A
within_or_beyond cons value budget part (t, is, within) (u, that, beyond) = absurd (omega (arith, within, beyond, ap (λ n. length part * n) (same_size cons (λ v s. value v ≡ Some s) part [] t u is that)))

-- what a part comes to, whatever its log is
abbrev pub Comes : List Constraint → (ℕ → Option Order) → ℕ → List ℕ → PartOutcome → Type 0
Comes cons value budget part (outcome.Solutions list) = EndsWithin cons value budget part × (list ≡ solutions_of cons value part) × (list ≡ [] → ⊥)
Comes cons value budget part (outcome.None log) = EndsWithin cons value budget part × (solutions_of cons value part ≡ [])
Comes cons value budget part outcome.Unfinished = GoesBeyond cons value budget part

pub comes : (case : Case) (value : ℕ → Option Order) (budget : ℕ) (part : List ℕ) (o : PartOutcome) → IsOutcome case value budget part o → Comes case.system.constraints value budget part o
comes case value budget part (outcome.Solutions list) h = h
comes case value budget part (outcome.None log) h = (h.0, h.1)
comes case value budget part outcome.Unfinished h = h

pub one_outcome : (cons : List Constraint) (value : ℕ → Option Order) (budget : ℕ) (part : List ℕ) (o p : PartOutcome) → Comes cons value budget part o → Comes cons value budget part p → shape o ≡ shape p
one_outcome cons value budget part (outcome.Solutions l) (outcome.Solutions m) a b = ap outcome.Solutions (a.1 ∙ sym b.1)
one_outcome cons value budget part (outcome.Solutions l) (outcome.None y) a b = absurd (a.2 (a.1 ∙ b.1))
one_outcome cons value budget part (outcome.Solutions l) outcome.Unfinished a b = within_or_beyond cons value budget part a.0 b
one_outcome cons value budget part (outcome.None x) (outcome.Solutions m) a b = absurd (b.2 (b.1 ∙ a.1))
one_outcome cons value budget part (outcome.None x) (outcome.None y) a b = refl
one_outcome cons value budget part (outcome.None x) outcome.Unfinished a b = within_or_beyond cons value budget part a.0 b
one_outcome cons value budget part outcome.Unfinished (outcome.Solutions m) a b = within_or_beyond cons value budget part b.0 a
one_outcome cons value budget part outcome.Unfinished (outcome.None y) a b = within_or_beyond cons value budget part b.0 a
one_outcome cons value budget part outcome.Unfinished outcome.Unfinished a b = refl

-- ---- logs have lines

pub closed_has_lines : (ground : Ground) (lines : List LogLine) → Closes ground lines → HasLines lines
closed_has_lines ground [] c = absurd (false≢true (ap (λ (s : State). s.ended) (sym c.reached) ∙ c.ended))
closed_has_lines ground (l ∷ lines) c = (l, lines, refl)

pub shown : (case : Case) (value : ℕ → Option Order) (budget : ℕ) (part : List ℕ) (o : PartOutcome) → IsOutcome case value budget part o → IsShown o
shown case value budget part (outcome.Solutions list) h = tt
shown case value budget part (outcome.None log) h = closed_has_lines (case_ground case []) log.lines h.2
shown case value budget part outcome.Unfinished h = tt
