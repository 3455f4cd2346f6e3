-- The verdict by what is noted is the verdict on what is said.
use Rattle.std.proofs.Common.{◌≡◌, ℕ, Bool, true, false, List, length, Some, sym, ap, subst, ◌∙◌}
use Rattle.std.proofs.lemmas.Bool.{false≢true}
use Rattle.ff_whole.specs.declared.places.Place.{Place}
use Rattle.ff_types.specs.declared.cites.Cite.{Cite}
use Rattle.ff_types.specs.declared.cites.Cite.TheVariants.{Transitivity, TacoTaco, TacoFace, TacoEdge, FlatFace, FlatEdge}
use Rattle.ff_types.specs.declared.patterns.Pattern.{Pattern}
use Rattle.ff_types.specs.declared.faces.Faces.{Faces}
use Rattle.ff_types.specs.declared.faces.Folded.{Folded}
use Rattle.ff_types.specs.declared.cases.Case.{Case}
use Rattle.ff_types.specs.FoldedPatterns.{IsFoldedPattern}
use Rattle.ff_types.specs.Sheets.{Sheet, sheet_of}
use Rattle.ff_types.specs.Cases.{IsCaseOf}
use Rattle.ff_types.specs.Assignments.{set_by}
use Rattle.ff_orders.specs.declared.items.OrderItem.{OrderItem}
use Rattle.ff_orders.specs.declared.items.OrderVerdict.{OrderVerdict}
use Rattle.ff_orders.specs.declared.items.OrderVerdict.TheVariants.{Verified, Contradiction, Missing, Mark, Cycle, Crossing}
use Rattle.ff_orders.specs.declared.said.Said.{Said}
use Rattle.ff_orders.specs.Verdicts.{AreCreased, AreOrders, ContradictionAt, IsFirst, IsFirstNoRow, IsJudged, IsNoTriple, IsVerdict, MissingAt, Never, NoRowAt}
use Rattle.ff_orders.specs.Noted.{AreNoted, BothAt, DeadAt, HaveOrders, HaveStarts, IsNotedVerdict, IsUnmet, NoneAt, value_of, verdict_by}
use Rattle.ff_orders.proofs.Firsts.{first_by, never_by}
use Rattle.ff_orders.proofs.NotedPairs.{contradiction_is, both_is, missing_is, none_is, listed, listed_said, set_said}
use Rattle.ff_orders.proofs.Creased.{first_mark, no_mark}
use Rattle.ff_orders.proofs.Rows.{dead_is, no_row_is}

-- ---- the verdict of a cite

cite_in : OrderVerdict → Cite → Cite
cite_in (Crossing c) d = c
cite_in _ d = d

is_crossing : OrderVerdict → Bool
is_crossing (Crossing c) = true
is_crossing _ = false

first_in : OrderVerdict → ℕ
first_in (Cycle f h k) = f
first_in _ = 0

second_in : OrderVerdict → ℕ
second_in (Cycle f h k) = h
second_in _ = 0

third_in : OrderVerdict → ℕ
third_in (Cycle f h k) = k
third_in _ = 0

crossing_of : (c d : Cite) → Crossing c ≡ verdict_by d → (c ≡ d) × IsNoTriple d
unfolding cite_in is_crossing
crossing_of c (Transitivity f h k at) e = absurd (false≢true (sym (ap is_crossing e)))
crossing_of c (TacoTaco x y) e = (ap (λ v. cite_in v c) e, tt)
crossing_of c (TacoFace x y at) e = (ap (λ v. cite_in v c) e, tt)
crossing_of c (TacoEdge x y) e = (ap (λ v. cite_in v c) e, tt)
crossing_of c (FlatFace x y at) e = (ap (λ v. cite_in v c) e, tt)
crossing_of c (FlatEdge x y) e = (ap (λ v. cite_in v c) e, tt)

cycle_of : (f h k : ℕ) (d : Cite) → Cycle f h k ≡ verdict_by d → (at : List Place) × (d ≡ Transitivity f h k at)
unfolding is_crossing first_in second_in third_in
cycle_of f h k (Transitivity x y z at) e =
    (at, ap (λ n. Transitivity n y z at) (sym (ap first_in e)) ∙ ap (λ n. Transitivity f n z at) (sym (ap second_in e)) ∙ ap (λ n. Transitivity f h n at) (sym (ap third_in e)))
cycle_of f h k (TacoTaco x y) e = absurd (false≢true (ap is_crossing e))
cycle_of f h k (TacoFace x y at) e = absurd (false≢true (ap is_crossing e))
cycle_of f h k (TacoEdge x y) e = absurd (false≢true (ap is_crossing e))
cycle_of f h k (FlatFace x y at) e = absurd (false≢true (ap is_crossing e))
cycle_of f h k (FlatEdge x y) e = absurd (false≢true (ap is_crossing e))

module _ {pattern : Pattern} {faces : Faces} {folded : Folded} (h : IsFoldedPattern pattern faces folded) (case : Case) (is : IsCaseOf (sheet_of pattern faces folded) case)
    (items : List OrderItem) (said : List Said) (noted : AreNoted folded.up case.pairs items (length items) said) where
  abbrev g : Sheet
  g = sheet_of pattern faces folded

  abbrev above : ℕ → ℕ → Bool
  above = set_by case.pairs (value_of said)

  no_contradiction : Never (BothAt said) → Never (ContradictionAt g case items)
  no_contradiction = never_by (BothAt said) (ContradictionAt g case items) (both_is g case is items said noted)

  orders : HaveOrders said → AreOrders g case items
  orders o = record {
    no_contradiction = no_contradiction o.no_both;
    none_missing = never_by (NoneAt said) (MissingAt g case items) (none_is g case is items said noted) o.no_none;
  }

  creased : HaveStarts case said → AreCreased g case items above
  creased s = record { orders = orders s.orders; no_mark = no_mark h case is said s.no_broken }

  first_no_row : (n : ℕ) → IsFirst (DeadAt said case.system.constraints) n → IsFirst (NoRowAt g case above) n
  first_no_row = first_by (DeadAt said case.system.constraints) (NoRowAt g case above) (no_row_is g case is said) (dead_is g case is said)

  judged_of : (v : OrderVerdict) → HaveOrders said → IsVerdict g case items above v → IsJudged g case items v
  judged_of v o is_v = record { above = above; said = set_said g case is items said noted o; verdict_is = is_v }

  unmet : (v : OrderVerdict) (u : IsUnmet case said v) (c : Cite) → u.cite ≡ c → IsFirstNoRow g case above c
  unmet v u c e = record { number = u.number; there = u.there ∙ ap Some e; first = first_no_row u.number u.first }

  pub judged : (v : OrderVerdict) → IsNotedVerdict case said v → IsJudged g case items v
  judged (Contradiction f k) (n, e, first) = record {
    above = listed g case is items said noted;
    said = listed_said g case is items said noted;
    verdict_is = (n, e, first_by (BothAt said) (ContradictionAt g case items) (contradiction_is g case is items said noted) (both_is g case is items said noted) n first);
  }
  judged (Missing f k) (no_both, (n, e, first)) = record {
    above = listed g case is items said noted;
    said = listed_said g case is items said noted;
    verdict_is = (no_contradiction no_both, (n, e, first_by (NoneAt said) (MissingAt g case items) (missing_is g case is items said noted) (none_is g case is items said noted) n first));
  }
  judged (Mark e) (o, (i, q, first)) = judged_of (Mark e) o (orders o, first_mark h case is said i e q first)
  judged (Cycle f l k) u = let c = cycle_of f l k u.cite u.same in
      judged_of (Cycle f l k) u.passed.orders (creased u.passed, (c.0, unmet (Cycle f l k) u (Transitivity f l k c.0) c.1))
  judged (Crossing c) u = let d = crossing_of c u.cite u.same in
      judged_of (Crossing c) u.passed.orders (creased u.passed, subst IsNoTriple (sym d.0) d.1, unmet (Crossing c) u c (sym d.0))
  judged Verified (s, none) = judged_of Verified s.orders
      (creased s, never_by (DeadAt said case.system.constraints) (NoRowAt g case above) (dead_is g case is said) none)
