-- What is asked of a workbench is within its bounds.
use Rattle.std.proofs.Common.{◌≡◌, ℕ, ◌≤◌, Bool, true, false, List, [], ◌∷◌, length, Option, None, Some, IfSome, if◌then◌else◌, nat_le, nat_lt, refl, codes, arith}
use Rattle.std.specs.Prelude.{◌&&◌, option_and_then, option_map}
use Rattle.std.specs.List.{list_all}
use Rattle.std.specs.Char.{is_ascii_digit}
use Rattle.std.specs.Str.{bytes_eq}
use Rattle.std.specs.Str.Parse.{digits_value}
use Rattle.std.proofs.lemmas.Bool.{leb-true}
use Rattle.ff_basics.proofs.Tests.{and_true}
use Rattle.ff_words.specs.declared.jobs.Job.{Job}
use Rattle.ff_words.specs.declared.jobs.Job.TheVariants.{Solve, Check, Bench, Lines, Make}
use Rattle.ff_words.specs.Form.{Text, Said, is_number, number, setting, budget_of, workers_of, is_empty, bench_job, job_at, job_of, said, others, values, job_named}
use Rattle.ff_words.specs.Form.{budget, workers}
use Rattle.ff_top.specs.Asking.{AreWithin, bench_asked}

-- what a job of a workbench asks for, if it is one, is within its bounds
IsWithin : Option Job → Type 0
IsWithin o = IfSome (bench_asked o) AreWithin

-- at least 1 and at most so many
IsFrom : ℕ → ℕ → Type 0
IsFrom most n = (1 ≤ n) × (n ≤ most)

number_within : (most : ℕ) (t : Text) → IfSome (number most t) (IsFrom most)
unfolding IsFrom
number_within most t = by (is_number most t) refl where
  by : (b : Bool) → is_number most t ≡ b → IfSome (if b then Some (digits_value 10 t) else None) (IsFrom most)
  by true e =
      let p = and_true (nat_lt 0 (length t)) (nat_le (length t) 10 && (list_all is_ascii_digit t && (nat_le 1 (digits_value 10 t) && nat_le (digits_value 10 t) most))) e in
      let q = and_true (nat_le (length t) 10) (list_all is_ascii_digit t && (nat_le 1 (digits_value 10 t) && nat_le (digits_value 10 t) most)) p.1 in
      let r = and_true (list_all is_ascii_digit t) (nat_le 1 (digits_value 10 t) && nat_le (digits_value 10 t) most) q.1 in
      let s = and_true (nat_le 1 (digits_value 10 t)) (nat_le (digits_value 10 t) most) r.1 in
      (leb-true 1 (digits_value 10 t) s.0, leb-true (digits_value 10 t) most s.1)
  by false e = tt

setting_within : (usual most : ℕ) → IsFrom most usual → (ts : List Text) → IfSome (setting usual most ts) (IsFrom most)
setting_within usual most l [] = l
setting_within usual most l (t ∷ []) = number_within most t
setting_within usual most l (t ∷ u ∷ ts) = tt

either : (b : Bool) (x y : Option Job) → IsWithin x → IsWithin y → IsWithin (if b then x else y)
either true x y a c = a
either false x y a c = c

solves : (o : Option ℕ) → IsWithin (option_map (λ b. Solve b) o)
unfolding IsWithin
solves None = tt
solves (Some n) = tt

benches : (o k : Option ℕ) → IfSome o (IsFrom 1000000000) → IfSome k (IsFrom 16) → IsWithin (option_and_then (λ b. option_map (λ w. Bench b w) k) o)
unfolding IsWithin IsFrom
benches None k l m = tt
benches (Some n) None l m = tt
benches (Some n) (Some w) l m = (l.1, (omega (arith, m.0), m.1))

makes : (o b : Option ℕ) → IsWithin (option_and_then (λ n. option_map (λ b. Make n b) b) o)
unfolding IsWithin
makes None b = tt
makes (Some n) None = tt
makes (Some n) (Some b) = tt

none : IsWithin None
unfolding IsWithin
none = tt

draws : IsWithin (Some Lines)
unfolding IsWithin
draws = tt

checks : IsWithin (Some Check)
unfolding IsWithin
checks = tt

usual_budget : IsFrom 1000000000 1048576
unfolding IsFrom
usual_budget = (omega arith, omega arith)

usual_workers : IsFrom 16 2
unfolding IsFrom
usual_workers = (omega arith, omega arith)

bench_within : (bs ks : List Text) → IsWithin (bench_job bs ks)
bench_within bs ks = benches (budget_of bs) (workers_of ks) (setting_within 1048576 1000000000 usual_budget bs) (setting_within 2 16 usual_workers ks)

job_within : (ws bs ks : List Text) → IsWithin (job_at ws bs ks)
job_within [] bs ks = none
job_within (w ∷ []) bs ks = either (bytes_eq w (codes "solve")) _ _ (either (is_empty ks) _ _ (solves (budget_of bs)) none)
    (either (bytes_eq w (codes "check")) _ _ (either (is_empty bs && is_empty ks) _ _ checks none)
    (either (bytes_eq w (codes "bench")) _ _ (bench_within bs ks)
    (either (bytes_eq w (codes "lines")) _ _ (either (is_empty bs && is_empty ks) _ _ draws none) none)))
job_within (w ∷ c ∷ []) bs ks = either (bytes_eq w (codes "make")) _ _ (either (is_empty ks) _ _ (makes (number 400 c) (budget_of bs)) none) none
job_within (w ∷ c ∷ x ∷ ws) bs ks = none

said_within : (o : Option (List Said)) → IsWithin (option_and_then job_of o)
said_within None = none
said_within (Some ss) = job_within (others ss) (values budget ss) (values workers ss)

pub asked_within : (words : List Text) → IfSome (bench_asked (job_named words)) AreWithin
unfolding IsWithin
asked_within words = said_within (said words None)
