-- The words `make COUNT` have a count from 1 to 400.
use Rattle.std.proofs.Common.{◌≡◌, ℕ, ◌<◌, ◌≤◌, ◌&&◌, Bool, true, false, nat_lt, nat_le, if◌then◌else◌, List, [], ◌∷◌, length, codes, Option, Some, None, option_map, option_and_then, refl, arith}
use Rattle.std.specs.List.{list_all}
use Rattle.std.specs.Str.{bytes_eq}
use Rattle.std.specs.Str.Parse.{digits_value}
use Rattle.std.specs.Char.{is_ascii_digit}
use Rattle.std.proofs.lemmas.Bool.{leb-true}
use Rattle.ff_basics.proofs.Tests.{and_true}
use Rattle.ff_words.specs.declared.jobs.Job.{Job}
use Rattle.ff_words.specs.declared.jobs.Job.TheVariants as job
use Rattle.ff_words.specs.Form.{is_number, number, budget_of, workers_of, is_empty, solve_job, check_job, bench_job, lines_job, make_job, job_at, job_of, said, job_named, others, values, Said, Choice}
use Rattle.ff_words.specs.Form.{budget, workers}
use Rattle.ff_top.specs.Counts.{HasCount}

abbrev IsCount : Option ℕ → Type 0
IsCount None = Unit {0}
IsCount (Some n) = (0 < n) × (n ≤ 400)

is_count : (t : List ℕ) → IsCount (number 400 t)
is_count t = by (is_number 400 t) refl where
  by : (b : Bool) → is_number 400 t ≡ b → IsCount (if b then Some (digits_value 10 t) else None)
  by true e =
      let p = and_true (nat_lt 0 (length t)) (nat_le (length t) 10 && (list_all is_ascii_digit t && (nat_le 1 (digits_value 10 t) && nat_le (digits_value 10 t) 400))) e in
      let q = and_true (nat_le (length t) 10) (list_all is_ascii_digit t && (nat_le 1 (digits_value 10 t) && nat_le (digits_value 10 t) 400)) p.1 in
      let r = and_true (list_all is_ascii_digit t) (nat_le 1 (digits_value 10 t) && nat_le (digits_value 10 t) 400) q.1 in
      let s = and_true (nat_le 1 (digits_value 10 t)) (nat_le (digits_value 10 t) 400) r.1 in
      (leb-true 1 (digits_value 10 t) s.0, leb-true (digits_value 10 t) 400 s.1)
  by false e = tt

solves : (b : Bool) (o : Option ℕ) → HasCount (if b then option_map (λ n. job.Solve n) o else None)
solves true (Some n) = tt
solves true None = tt
solves false o = tt

checks : (b : Bool) → HasCount (if b then Some job.Check else None)
checks true = tt
checks false = tt

draws : (b : Bool) → HasCount (if b then Some job.Lines else None)
draws true = tt
draws false = tt

benches : (o p : Option ℕ) → HasCount (option_and_then (λ b. option_map (λ k. job.Bench b k) p) o)
benches None p = tt
benches (Some b) None = tt
benches (Some b) (Some k) = tt

makes : (b : Bool) (o p : Option ℕ) → IsCount o → HasCount (if b then option_and_then (λ n. option_map (λ b. job.Make n b) p) o else None)
makes false o p h = tt
makes true None p h = tt
makes true (Some n) None h = tt
makes true (Some n) (Some b) h = h

chosen : (b : Bool) (x y : Option Job) → HasCount x → HasCount y → HasCount (if b then x else y)
chosen true x y h k = h
chosen false x y h k = k

at : (ws bs ks : List (List ℕ)) → HasCount (job_at ws bs ks)
at [] bs ks = tt
at (w ∷ []) bs ks = chosen (bytes_eq w (codes "solve")) (solve_job bs ks) (if bytes_eq w (codes "check") then check_job bs ks else (if bytes_eq w (codes "bench") then bench_job bs ks else (if bytes_eq w (codes "lines") then lines_job bs ks else None)))
    (solves (is_empty ks) (budget_of bs))
    (chosen (bytes_eq w (codes "check")) (check_job bs ks) (if bytes_eq w (codes "bench") then bench_job bs ks else (if bytes_eq w (codes "lines") then lines_job bs ks else None)) (checks (is_empty bs && is_empty ks))
    (chosen (bytes_eq w (codes "bench")) (bench_job bs ks) (if bytes_eq w (codes "lines") then lines_job bs ks else None) (benches (budget_of bs) (workers_of ks))
    (chosen (bytes_eq w (codes "lines")) (lines_job bs ks) None (draws (is_empty bs && is_empty ks)) tt)))
at (w ∷ c ∷ []) bs ks = chosen (bytes_eq w (codes "make")) (make_job c bs ks) None (makes (is_empty ks) (number 400 c) (budget_of bs) (is_count c)) tt
at (w ∷ c ∷ x ∷ ws) bs ks = tt

named : (o : Option (List Said)) → HasCount (option_and_then job_of o)
named None = tt
named (Some ss) = at (others ss) (values budget ss) (values workers ss)

pub has_count : (words : List (List ℕ)) → HasCount (job_named words)
has_count words = named (said words None)
