-- Reports of cases that differ at most in the places of their cites are one text but for their logs.
use Rattle.std.proofs.Common.{◌≡◌, inl, inr, ℕ, suc, ◌<◌, ◌∙◌, Bool, true, false, List, [], ◌∷◌, ◌++◌, map, length, slice_get, slice_index_or, Option, Some, None, refl, ap, ap₂, sym, subst, arith}
use Rattle.std.proofs.Math.Path.{fun_ext}
use Rattle.std.proofs.lemmas.Bool.{false≢true}
use Rattle.std.proofs.lemmas.List.{length-map}
use Rattle.std.proofs.lemmas.Option.{slice_get_within}
use Rattle.ff_tables.specs.declared.orders.Order.{Order}
use Rattle.ff_tables.specs.declared.orders.Order.TheVariants.{Below, Above}
use Rattle.ff_tables.specs.declared.terms.Constraint.{Constraint}
use Rattle.ff_tables.specs.declared.givens.Given.{Given}
use Rattle.ff_types.specs.declared.faces.Faces.{Faces}
use Rattle.ff_types.specs.declared.faces.Folded.{Folded}
use Rattle.ff_types.specs.declared.cases.Case.{Case}
use Rattle.ff_propagate.specs.declared.parts.Part.{Part}
use Rattle.ff_propagate.specs.Facts.{value_at}
use Rattle.ff_propagate.specs.Closure.{Clashes, IsClosure, Gives}
use Rattle.ff_propagate.specs.Parts.{AreParts}
use Rattle.ff_parts.specs.Lists.{vars_of}
use Rattle.ff_report.specs.Heads.{lines_of, counts_line, face_of, pair_line, head}
use Rattle.ff_report.specs.Alike.{AreOneText}
use Rattle.ff_report.proofs.AlikeTexts.{AllShown, IsShown, boards_one, clashes_one, one_as, same_last, shape, with_clash, with_parts}
use Rattle.ff_log.specs.Grounds.{case_ground}
use Rattle.ff_report.specs.declared.parts.PartOutcome.{PartOutcome}
use Rattle.ff_crossings.specs.CaseLaws.{AreAlike}
use Rattle.ff_crossings.proofs.Truth.{at_place}
use Rattle.ff_report.specs.declared.lines.Last.{Last}
use Rattle.ff_solve.specs.Outcomes.{AreOutcomes}
use Rattle.ff_solve.specs.Reports.{IsReport, IsClashReport, IsBoardReport}
use Rattle.ff_solve.specs.Laws.{ReportIsOne, SummaryIsOne}
use Rattle.ff_solve.specs.Summaries.{IsBoardSummary, IsClashSummary, IsSummary}
use Rattle.ff_report.specs.declared.lines.Last.TheVariants.{Impossible}
use Rattle.ff_report.specs.Lines.{last_line}
use Rattle.ff_report.specs.Summaries.{decided_below, decided_line, made_line, summary_lines}
use Rattle.ff_solve.proofs.Lists.{vars_at}
use Rattle.ff_solve.proofs.OneOutcome.{Comes, closed_has_lines, comes, one_outcome, shown}
use Rattle.ff_solve.proofs.OneParts.{one_parts}

-- the heads by what they depend on
abbrev board_head : Faces → Folded → List (ℕ × ℕ) → ℕ → (ℕ → Option Order) → List ℕ
board_head faces folded pairs constraints value = counts_line (length faces.rings) folded.scale (length pairs) constraints ++ lines_of (face_of faces folded) (length faces.rings)
    ++ lines_of (λ n. pair_line n (slice_index_or pairs n (0, 0)) (value n)) (length pairs)

abbrev clash_head : Faces → Folded → ℕ → ℕ → List ℕ
clash_head faces folded pairs constraints = counts_line (length faces.rings) folded.scale pairs constraints ++ lines_of (face_of faces folded) (length faces.rings) ++ []

-- the closures of the same givens have the same values
same_option : (o p : Option Order) → ((s : Order) → o ≡ Some s → p ≡ Some s) → ((s : Order) → p ≡ Some s → o ≡ Some s) → o ≡ p
same_option None None f g = refl
same_option None (Some s) f g = g s refl
same_option (Some s) p f g = sym (f s refl)

one_closure : (cons : List Constraint) (starts : List Given) (value other : ℕ → Option Order) → IsClosure cons (Gives starts) value → IsClosure cons (Gives starts) other → value ≡ other
one_closure cons starts value other a b = fun_ext (λ v. same_option (value v) (other v) (λ s e. (b v s).1 ((a v s).0 e)) (λ s e. (a v s).1 ((b v s).0 e)))

clash_or_closure : {A : Type 0} (cons : List Constraint) (starts : List Given) (value : ℕ → Option Order) → Clashes cons (Gives starts) → IsClosure cons (Gives starts) value → A
clash_or_closure {A} cons starts value c is = apart (sym ((is c.variable Below).1 c.below) ∙ (is c.variable Above).1 c.above) where
  apart : Some Below ≡ Some Above → A
  apart e = absurd (false≢true (ap is_above e)) where
    is_above : Option Order → Bool
    is_above (Some Above) = true
    is_above _ = false

-- what parts come to, whatever their logs are
record AreComing (cons : List Constraint) (value : ℕ → Option Order) (budget : ℕ) (parts : List Part) (outcomes : List PartOutcome) : Type 0 where
  as_many : length outcomes ≡ length parts
  each : (k : ℕ) (part : Part) (outcome : PartOutcome) → slice_get parts k ≡ Some part → slice_get outcomes k ≡ Some outcome → Comes cons value budget part.vars outcome

are_coming : (case : Case) (value : ℕ → Option Order) (budget : ℕ) (parts : List Part) (outcomes : List PartOutcome) → AreOutcomes case value budget parts outcomes
    → AreComing case.system.constraints value budget parts outcomes
are_coming case value budget parts outcomes are = record {
  as_many = are.as_many;
  each = λ k part o e f. comes case value budget part.vars o (are.each k part o e f);
}

all_shown : (os : List PartOutcome) → ((k : ℕ) (o : PartOutcome) → slice_get os k ≡ Some o → IsShown o) → AllShown os
all_shown [] each = tt
all_shown (o ∷ os) each = (each 0 o refl, all_shown os (λ k p e. each (suc k) p e))

are_shown : (case : Case) (value : ℕ → Option Order) (budget : ℕ) (parts : List Part) (outcomes : List PartOutcome) → AreOutcomes case value budget parts outcomes → AllShown outcomes
are_shown case value budget parts outcomes are = all_shown outcomes (λ k o e.
    let l : k < length parts = (let m = slice_get_within outcomes k o e in omega (arith, m, are.as_many)) in
    let p = at_place parts k l in
    shown case value budget p.0.vars o (are.each k p.0 o p.1 e))

-- lists whose items have one shape at each place
same_shapes : (os rs : List PartOutcome) → length os ≡ length rs → ((n : ℕ) (x y : PartOutcome) → slice_get os n ≡ Some x → slice_get rs n ≡ Some y → shape x ≡ shape y)
    → map shape os ≡ map shape rs
same_shapes [] [] long each = refl
same_shapes [] (r ∷ rs) long each = absurd (omega (arith, long))
same_shapes (o ∷ os) [] long each = absurd (omega (arith, long))
same_shapes (o ∷ os) (r ∷ rs) long each = ap₂ (λ (x : PartOutcome) (xs : List PartOutcome). x ∷ xs) (each 0 o r refl refl)
    (same_shapes os rs (omega (arith, long)) (λ n x y i j. each (suc n) x y i j))

-- the searches of the same parts come to the same, but for logs
same_outcomes : (cons : List Constraint) (value : ℕ → Option Order) (budget : ℕ) (ps qs : List Part) (os rs : List PartOutcome) → vars_of ps ≡ vars_of qs
    → AreComing cons value budget ps os → AreComing cons value budget qs rs → map shape os ≡ map shape rs
same_outcomes cons value budget ps qs os rs e a b = same_shapes os rs long each where
  as_many : length ps ≡ length qs
  as_many = sym (length-map ps (λ (p : Part). p.vars)) ∙ ap length e ∙ length-map qs (λ (p : Part). p.vars)

  long : length os ≡ length rs
  long = a.as_many ∙ as_many ∙ sym b.as_many

  each : (n : ℕ) (x y : PartOutcome) → slice_get os n ≡ Some x → slice_get rs n ≡ Some y → shape x ≡ shape y
  each n x y i j =
      let p = at_place ps n (let l = slice_get_within os n x i in omega (arith, l, a.as_many)) in
      let q = at_place qs n (let l = slice_get_within rs n y j in omega (arith, l, b.as_many)) in
      let same : p.0.vars ≡ q.0.vars = the (sym (vars_at ps n p.0 p.1) ∙ ap (λ l. slice_get l n) e ∙ vars_at qs n q.0 q.1) in
      one_outcome cons value budget q.0.vars x y (subst (λ vs. Comes cons value budget vs x) same (a.each n p.0 x p.1 i)) (b.each n q.0 y q.1 j) where
        the : {v w : List ℕ} → Some v ≡ Some w → v ≡ w
        the q = cc

module _ (faces : Faces) (folded : Folded) (case other : Case) (budget : ℕ) (l m : Last) (t u : List ℕ) (alike : AreAlike case other) where
  clash_clash : IsClashReport faces folded case l t → IsClashReport faces folded other m u → (l ≡ m) × AreOneText t u
  clash_clash a b = (
    a.ends ∙ sym b.ends,
    one_as (with_clash (head faces folded other None) a.log) (with_clash (head faces folded other None) b.log) t u (a.is ∙ ap (λ (h : List ℕ). with_clash h a.log) heads) b.is
        (clashes_one (head faces folded other None) a.log b.log (closed_has_lines (case_ground case []) a.log a.accepted) (closed_has_lines (case_ground other []) b.log b.accepted)),
  ) where
    heads : head faces folded case None ≡ head faces folded other None
    heads = ap (λ n. clash_head faces folded n (length case.system.constraints)) (ap length alike.pairs) ∙ ap (λ n. clash_head faces folded (length other.pairs) n) (ap length alike.constraints)

  closure_there : (value : ℕ → Option Order) → IsClosure case.system.constraints (Gives case.starts) value → IsClosure other.system.constraints (Gives other.starts) value
  closure_there value is = subst (λ (cs : List Constraint). IsClosure cs (Gives other.starts) value) alike.constraints (subst (λ (gs : List Given). IsClosure case.system.constraints (Gives gs) value) alike.starts is)

  clashes_there : Clashes case.system.constraints (Gives case.starts) → Clashes other.system.constraints (Gives other.starts)
  clashes_there c = subst (λ (cs : List Constraint). Clashes cs (Gives other.starts)) alike.constraints (subst (λ (gs : List Given). Clashes case.system.constraints (Gives gs)) alike.starts c)

  same_values : (a : IsBoardReport faces folded case budget l t) (b : IsBoardReport faces folded other budget m u) → value_at a.facts ≡ value_at b.facts
  same_values a b = one_closure other.system.constraints other.starts (value_at a.facts) (value_at b.facts) (closure_there (value_at a.facts) a.closure) b.closure

  same_parts : (a : IsBoardReport faces folded case budget l t) (b : IsBoardReport faces folded other budget m u) → vars_of a.parts ≡ vars_of b.parts
  same_parts a b = one_parts other.system.vars other.system.constraints (value_at b.facts) (vars_of a.parts) (vars_of b.parts) there b.parts_are where
    there : AreParts other.system.vars other.system.constraints (value_at b.facts) (vars_of a.parts)
    there = subst (λ (n : ℕ). AreParts n other.system.constraints (value_at b.facts) (vars_of a.parts)) alike.vars
        (subst (λ (cs : List Constraint). AreParts case.system.vars cs (value_at b.facts) (vars_of a.parts)) alike.constraints
        (subst (λ (v : ℕ → Option Order). AreParts case.system.vars case.system.constraints v (vars_of a.parts)) (same_values a b) a.parts_are))

  board_board : IsBoardReport faces folded case budget l t → IsBoardReport faces folded other budget m u → (l ≡ m) × AreOneText t u
  board_board a b = (
    a.ends ∙ same_last a.outcomes b.outcomes outcomes ∙ sym b.ends,
    one_as (with_parts (head faces folded other (Some b.facts)) (vars_of b.parts) a.outcomes) (with_parts (head faces folded other (Some b.facts)) (vars_of b.parts) b.outcomes) t u
        (a.is ∙ ap (λ (h : List ℕ). with_parts h (vars_of a.parts) a.outcomes) heads ∙ ap (λ ps. with_parts (head faces folded other (Some b.facts)) ps a.outcomes) (same_parts a b)) b.is
        (boards_one (head faces folded other (Some b.facts)) (vars_of b.parts) a.outcomes b.outcomes outcomes
        (are_shown case (value_at a.facts) budget a.parts a.outcomes a.outcomes_are) (are_shown other (value_at b.facts) budget b.parts b.outcomes b.outcomes_are)),
  ) where
    coming_there : AreComing other.system.constraints (value_at b.facts) budget a.parts a.outcomes
    coming_there = subst (λ (cs : List Constraint). AreComing cs (value_at b.facts) budget a.parts a.outcomes) alike.constraints
        (subst (λ (v : ℕ → Option Order). AreComing case.system.constraints v budget a.parts a.outcomes) (same_values a b) (are_coming case (value_at a.facts) budget a.parts a.outcomes a.outcomes_are))

    outcomes : map shape a.outcomes ≡ map shape b.outcomes
    outcomes = same_outcomes other.system.constraints (value_at b.facts) budget a.parts b.parts a.outcomes b.outcomes (same_parts a b) coming_there
        (are_coming other (value_at b.facts) budget b.parts b.outcomes b.outcomes_are)

    heads : head faces folded case (Some a.facts) ≡ head faces folded other (Some b.facts)
    heads = ap (λ ps. board_head faces folded ps (length case.system.constraints) (value_at a.facts)) alike.pairs
        ∙ ap (λ cs. board_head faces folded other.pairs (length cs) (value_at a.facts)) alike.constraints
        ∙ ap (λ v. board_head faces folded other.pairs (length other.system.constraints) v) (same_values a b)

  pub one_report : IsReport faces folded case budget l t → IsReport faces folded other budget m u → (l ≡ m) × AreOneText t u
  one_report (inl a) (inl b) = clash_clash a b
  one_report (inl a) (inr b) = clash_or_closure other.system.constraints other.starts (value_at b.facts) (clashes_there a.clashes) b.closure
  one_report (inr a) (inl b) = clash_or_closure other.system.constraints other.starts (value_at a.facts) b.clashes (closure_there (value_at a.facts) a.closure)
  one_report (inr a) (inr b) = board_board a b

pub report_is_one : ReportIsOne
report_is_one faces folded case other budget l m t u alike a b = one_report faces folded case other budget l m t u alike a b

-- ---- summaries

-- the summary by what it depends on
abbrev summary_by : ℕ → Faces → Folded → ℕ → ℕ → ℕ → ℕ → Last → List ℕ
summary_by count faces folded pairs constraints decided parts last = made_line count ++ counts_line (length faces.rings) folded.scale pairs constraints
    ++ decided_line decided parts ++ last_line last

module _ (count : ℕ) (faces : Faces) (folded : Folded) (case other : Case) (budget : ℕ) (l m : Last) (t u : List ℕ) (alike : AreAlike case other) where
  clash_summaries : IsClashSummary count faces folded case l t → IsClashSummary count faces folded other m u → (l ≡ m) × (t ≡ u)
  clash_summaries a b = (
    a.ends ∙ sym b.ends,
    a.is ∙ ap (λ n. summary_by count faces folded n (length case.system.constraints) 0 0 Impossible) (ap length alike.pairs)
        ∙ ap (λ n. summary_by count faces folded (length other.pairs) n 0 0 Impossible) (ap length alike.constraints) ∙ sym b.is,
  )

  board_summaries : IsBoardSummary count faces folded case budget l t → IsBoardSummary count faces folded other budget m u → (l ≡ m) × (t ≡ u)
  board_summaries a b = (last, a.is ∙ texts ∙ sym b.is) where
    last : l ≡ m
    last = (board_board faces folded case other budget l m a.whole b.whole alike a.report b.report).0

    decided : decided_below (value_at a.report.facts) (length case.pairs) ≡ decided_below (value_at b.report.facts) (length other.pairs)
    decided = ap₂ (λ (v : ℕ → Option Order) (n : ℕ). decided_below v n) (same_values faces folded case other budget l m a.whole b.whole alike a.report b.report) (ap length alike.pairs)

    parts : length a.report.parts ≡ length b.report.parts
    parts = sym (length-map a.report.parts (λ (p : Part). p.vars)) ∙ ap length (same_parts faces folded case other budget l m a.whole b.whole alike a.report b.report)
        ∙ length-map b.report.parts (λ (p : Part). p.vars)

    texts : summary_lines count faces folded case (Some a.report.facts) (length a.report.parts) l ≡ summary_lines count faces folded other (Some b.report.facts) (length b.report.parts) m
    texts = ap (λ n. summary_by count faces folded (length case.pairs) (length case.system.constraints) n (length a.report.parts) l) decided
        ∙ ap (λ n. summary_by count faces folded (length case.pairs) (length case.system.constraints) (decided_below (value_at b.report.facts) (length other.pairs)) n l) parts
        ∙ ap (λ n. summary_by count faces folded n (length case.system.constraints) (decided_below (value_at b.report.facts) (length other.pairs)) (length b.report.parts) l) (ap length alike.pairs)
        ∙ ap (λ n. summary_by count faces folded (length other.pairs) n (decided_below (value_at b.report.facts) (length other.pairs)) (length b.report.parts) l) (ap length alike.constraints)
        ∙ ap (λ k. summary_by count faces folded (length other.pairs) (length other.system.constraints) (decided_below (value_at b.report.facts) (length other.pairs)) (length b.report.parts) k) last

  one_summary : IsSummary count faces folded case budget l t → IsSummary count faces folded other budget m u → (l ≡ m) × (t ≡ u)
  one_summary (inl a) (inl b) = clash_summaries a b
  one_summary (inl a) (inr b) = clash_or_closure other.system.constraints other.starts (value_at b.report.facts)
      (clashes_there faces folded case other budget l m t u alike a.clashes) b.report.closure
  one_summary (inr a) (inl b) = clash_or_closure other.system.constraints other.starts (value_at a.report.facts) b.clashes
      (closure_there faces folded case other budget l m t u alike (value_at a.report.facts) a.report.closure)
  one_summary (inr a) (inr b) = board_summaries a b

pub summary_is_one : SummaryIsOne
summary_is_one count faces folded case other budget l m t u alike a b = one_summary count faces folded case other budget l m t u alike a b
