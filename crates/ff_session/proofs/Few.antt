-- What was read has vertices and few commands.
use Rattle.std.proofs.Common.{◌≡◌, ℕ, ◌+◌, ◌<◌, ◌≤◌, ◌^◌, Bool, true, false, List, [], ◌∷◌, length, Option, Some, None, if◌then◌else◌, nat_le, codes, option_and_then, refl, ap, ◌∙◌, subst, arith}
use Rattle.std.specs.List.{fold}
use Rattle.std.proofs.lemmas.Bool.{leb-true}
use Rattle.serde_json.specs.Find.{get}
use Rattle.ff_types.specs.declared.patterns.Pattern.{Pattern}
use Rattle.ff_types.specs.declared.faces.Faces.{Faces}
use Rattle.ff_types.specs.declared.faces.Folded.{Folded}
use Rattle.ff_types.specs.declared.cases.Case.{Case}
use Rattle.ff_problem.specs.Problems.{IsProblem}
use Rattle.ff_problem.proofs.FewInCases.{few_pairs, few_constraints, few_starts}
use Rattle.ff_read.specs.Spelling.{point_of, list_of}
use Rattle.ff_read.specs.declared.benches.BenchInput.{BenchInput}
use Rattle.ff_read.specs.Benches.{IsBench, AreFew, total}
use Rattle.ff_read.proofs.Lists.{as_many}
use Rattle.ff_viewer.specs.declared.commands.Command.{Command}
use Rattle.ff_serve.specs.Served.{commands_in}
use Rattle.ff_desk.specs.Views.{total as in_all}
use Rattle.ff_desk.specs.Desks.{IsFew}
use Rattle.ff_bench.specs.Runs.{lengths_in}
use Rattle.ff_bench.proofs.Scripts.{lengths_many}

three_of : {A : Type 0} (o : Option (List A)) (ds : List A) → option_and_then (λ xs. if nat_le 3 (length xs) then Some xs else None) o ≡ Some ds → 3 ≤ length ds
three_of None ds e = absurd (none_some e) where
  none_some : None ≡ Some ds → ⊥
  none_some q = cc
three_of {A} (Some xs) ds e = by (nat_le 3 (length xs)) refl e where
  by : (b : Bool) → nat_le 3 (length xs) ≡ b → (if b then Some xs else None) ≡ Some ds → 3 ≤ length ds
  by true p q = let same : xs ≡ ds = cc in subst (λ ys. 3 ≤ length ys) same (leb-true 3 (length xs) p)
  by false p q = absurd (none_some q) where
    none_some : None ≡ Some ds → ⊥
    none_some x = cc

-- a pattern that was read has vertices
pub has_vertices : (bytes : List ℕ) (input : BenchInput) → IsBench bytes input → 1 ≤ length input.pattern.points
has_vertices bytes input read =
    let three = three_of (option_and_then list_of (get (codes "vertices_coords") read.is.fold)) read.is.keys.vertices read.is.keyed.vertices in
    let same = as_many point_of read.is.keys.vertices input.pattern.points read.is.spelled.points in
    omega (arith, three, same)

sums : (n : ℕ) (scripts : List (List Command)) → fold (λ (a : ℕ) (s : List Command). a + length s) n scripts ≡ n + commands_in scripts
sums n [] = omega arith
sums n (s ∷ scripts) = let h = sums (n + length s) scripts in h ∙ omega arith

commands_total : (scripts : List (List Command)) → total scripts ≡ commands_in scripts
commands_total scripts = let none : 0 + commands_in scripts ≡ commands_in scripts = omega arith in sums 0 scripts ∙ none

pub few_commands : (scripts : List (List Command)) → AreFew scripts → commands_in scripts ≤ 2 ^ 20
few_commands scripts few = let e = commands_total scripts in let m = few.1 in omega arith

pub few_viewers : (scripts : List (List Command)) → AreFew scripts → length scripts < 2 ^ 32
few_viewers scripts few = let m = few.0 in omega arith

-- the same of the lengths
many_commands : (scripts : List (List Command)) → in_all (lengths_in scripts) ≡ commands_in scripts
many_commands [] = refl
many_commands (s ∷ scripts) = ap (λ n. length s + n) (many_commands scripts)

-- few enough for a workbench
pub few_for_all : (pattern : Pattern) (faces : Faces) (folded : Folded) (case : Case) (budget : ℕ) (scripts : List (List Command)) → IsProblem pattern faces folded case → budget ≤ 1000000000 → AreFew scripts
    → IsFew (record { case = case; budget = budget; lengths = lengths_in scripts })
few_for_all pattern faces folded case budget scripts is turns few = record {
  vars = few_pairs pattern faces folded case is;
  constraints = few_constraints pattern faces folded case is;
  starts = few_starts pattern faces folded case is;
  turns = turns;
  viewers = (let e = lengths_many scripts in let m = few.0 in omega (arith, e, m));
  commands = (let e = many_commands scripts in let t = commands_total scripts in let m = few.1 in omega (arith, e, t, m));
}
