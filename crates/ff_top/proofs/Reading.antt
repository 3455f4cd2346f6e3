-- What is read of bytes, and why they are refused.
use Rattle.std.proofs.Common.{◌≡◌, inr, ℕ, ◌≤◌, Bool, true, false, List, length, Option, Some, None, Result, Ok, Err, IfOk, IfErr, MatchResult, if◌then◌else◌, nat_le, codes, option_and_then, refl, subst, arith}
use Rattle.std.proofs.lemmas.Bool.{leb-true}
use Rattle.serde_json.specs.Find.{get}
use Rattle.ff_types.specs.declared.limits.TheConstants.{MOST_BYTES}
use Rattle.ff_types.specs.declared.patterns.Pattern.{Pattern}
use Rattle.ff_types.specs.declared.refusals.No.{No}
use Rattle.ff_types.specs.declared.refusals.No.TheVariants as no
use Rattle.ff_read.specs.Spelling.{point_of, list_of}
use Rattle.ff_read.specs.Read.{IsReadAs, IsNoPattern}
use Rattle.ff_read.proofs.Lists.{as_many}
use Rattle.ff_problem.specs.declared.problems.Problem.{Problem}
use Rattle.ff_problem.specs.Problems.{IsProblem, WhyNoProblem}
use Rattle.ff_top.specs.Solving.{WhyNoReport, ReadsProblem}

-- a pattern that was read has three vertices at least
three_of : {A : Type 0} (o : Option (List A)) (ds : List A) → option_and_then (λ xs. if nat_le 3 (length xs) then Some xs else None) o ≡ Some ds → 3 ≤ length ds
three_of None ds e = absurd (none_some e) where
  none_some : None ≡ Some ds → ⊥
  none_some q = cc
three_of {A} (Some xs) ds e = by (nat_le 3 (length xs)) refl e where
  by : (b : Bool) → nat_le 3 (length xs) ≡ b → (if b then Some xs else None) ≡ Some ds → 3 ≤ length ds
  by true p q = let same : xs ≡ ds = cc in subst (λ ys. 3 ≤ length ys) same (leb-true 3 (length xs) p)
  by false p q = absurd (none_some q) where
    none_some : None ≡ Some ds → ⊥
    none_some x = cc

pub has_vertices : (bytes : List ℕ) (p : Pattern) → IsReadAs bytes p → 1 ≤ length p.points
has_vertices bytes p read =
    let three = three_of (option_and_then list_of (get (codes "vertices_coords") read.object)) read.spells.keys.vertices read.spells.keyed.vertices in
    let same = as_many point_of read.spells.keys.vertices p.points read.spells.spelled.points in
    omega (arith, three, same)

pub pattern_some : (bytes : List ℕ) (r : Result Pattern No) → MatchResult r (IsReadAs bytes) (IsNoPattern bytes) → IfOk r (λ p. 1 ≤ length p.points)
pattern_some bytes (Ok p) h = has_vertices bytes p h
pattern_some bytes (Err n) h = tt

pub problem_refused : (bytes : List ℕ) (p : Pattern) → length bytes ≤ MOST_BYTES → IsReadAs bytes p → (n : No) → WhyNoProblem p n → WhyNoReport bytes n
problem_refused bytes p few read (no.Refused r) h = inr (few, inr (record { pattern = p; read = read; refused = h }))
problem_refused bytes p few read no.NoMemory h = tt

pub problem_made : (bytes : List ℕ) (p : Pattern) → length bytes ≤ MOST_BYTES → IsReadAs bytes p → (r : Result Problem No) → MatchResult r (λ x. IsProblem p x.faces x.folded x.case) (WhyNoProblem p)
    → IfOk r (λ x. ReadsProblem bytes x.faces x.folded x.case)
problem_made bytes p few read (Ok x) h = record { within = few; pattern = p; read = read; problem = h }
problem_made bytes p few read (Err n) h = tt

pub problem_not_made : (bytes : List ℕ) (p : Pattern) → length bytes ≤ MOST_BYTES → IsReadAs bytes p → (r : Result Problem No) → MatchResult r (λ x. IsProblem p x.faces x.folded x.case) (WhyNoProblem p)
    → IfErr r (WhyNoReport bytes)
problem_not_made bytes p few read (Ok x) h = tt
problem_not_made bytes p few read (Err n) h = problem_refused bytes p few read n h
