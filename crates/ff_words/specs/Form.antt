-- The form of the words after the program's name.
use Rattle.std.specs.Prelude.{◌≡◌, ◌==◌, ◌&&◌, ℕ, Bool, List, [], ◌∷◌, length, Option, Some, None, is_some}
use Rattle.std.specs.Prelude.{if◌then◌else◌, nat_le, nat_lt, codes, option_map, option_and_then, cond}
use Rattle.std.specs.List.{list_any, list_all, before_first, after_first}
use Rattle.std.specs.Char.{is_ascii_digit}
use Rattle.std.specs.Str.{bytes_eq}
use Rattle.std.specs.Str.Parse.{digits_value}
use Rattle.ff_words.specs.declared.jobs.Job.{Job}
use Rattle.ff_words.specs.declared.jobs.Job.TheVariants as job
use Rattle.ff_words.specs.declared.jobs.WordsNo.{WordsNo}
use Rattle.ff_words.specs.declared.jobs.WordsNo.TheVariants as no

-- the bytes of a word
abbrev pub Text : Type 0
Text = List ℕ

-- the two options
pub data Choice : Type 0 where
  budget : Choice
  workers : Choice

-- what a word is that stands where no value is wanted
pub data Word : Type 0 where
  -- `--budget`, whose value is the next word
  name : Choice → Word
  -- `--budget=N`
  whole : Choice → Text → Word
  plain : Word

-- an option with its value, or another word
pub data Said : Type 0 where
  option : Choice → Text → Said
  word : Text → Said

-- what stands after a first byte c (45 is a hyphen, 61 an equals sign)
abbrev pub after_byte : ℕ → Text → Option Text
after_byte c [] = None
after_byte c (x ∷ xs) = if x == c then Some xs else None

-- what stands before the first equals sign, and after it where there is one
abbrev pub parts : Text → Text × Option Text
parts t = (
  before_first (λ x. x == 61) t,
  if list_any (λ x. x == 61) t
      then Some (after_first (λ x. x == 61) t) else None,
)

-- the name and the value of a long option
abbrev pub parts_of_rest : Text → Option (Text × Option Text)
parts_of_rest [] = None
parts_of_rest (x ∷ xs) = Some (parts (x ∷ xs))

-- `--name` or `--name=value`
abbrev pub long : Text → Option (Text × Option Text)
long w = option_and_then parts_of_rest (option_and_then (after_byte 45) (after_byte 45 w))

-- the option, with its value in the word or in the next one
abbrev pub with_value : Choice → Option Text → Word
with_value o None = name o
with_value o (Some v) = whole o v

-- which option the name is, or a plain word
abbrev pub by_name : Option (Text × Option Text) → Word
by_name None = plain
by_name (Some p) =
    if bytes_eq (codes "budget") p.0 then with_value budget p.1
    else (if bytes_eq (codes "workers") p.0 then with_value workers p.1 else plain)

-- what a word says by itself
abbrev pub word_of : Text → Word
word_of w = by_name (long w)

-- one thing said before the others
abbrev pub more : Said → Option (List Said) → Option (List Said)
more s = option_map (λ ss. s ∷ ss)

-- what a word says, and then what the rest of the words do, which `rest` gives for the option that
-- still wants its value
abbrev pub said_at : Text → Word → (Option Choice → Option (List Said)) → Option (List Said)
said_at w (name o) rest = rest (Some o)
said_at w (whole o v) rest = more (option o v) (rest None)
said_at w plain rest = more (word w) (rest None)

-- a word after an option's name is its value
abbrev pub said_next : Text → Option Choice → (Option Choice → Option (List Said)) → Option (List Said)
said_next w (Some o) rest = more (option o w) (rest None)
said_next w None rest = said_at w (word_of w) rest

-- what the words say from the option on that still wants its value, if there is one: nothing where
-- a value is missing
abbrev pub said : List Text → Option Choice → Option (List Said)
said [] None = Some []
said [] (Some o) = None
said (w ∷ ws) o = said_next w o (said ws)

-- it is the same option
abbrev pub same_choice : Choice → Choice → Bool
same_choice budget budget = Rattle.std.specs.Prelude.true
same_choice workers workers = Rattle.std.specs.Prelude.true
same_choice budget workers = Rattle.std.specs.Prelude.false
same_choice workers budget = Rattle.std.specs.Prelude.false

-- the values of an option
abbrev pub values : Choice → List Said → List Text
values o [] = []
values o (option p v ∷ ss) = if same_choice o p then v ∷ values o ss else values o ss
values o (word w ∷ ss) = values o ss

-- the words without the options
abbrev pub others : List Said → List Text
others [] = []
others (option p v ∷ ss) = others ss
others (word w ∷ ss) = w ∷ others ss

-- one to ten decimal digits, of a number from 1 to `most`
abbrev pub is_number : ℕ → Text → Bool
is_number most t = nat_lt 0 (length t) && (nat_le (length t) 10 && (list_all is_ascii_digit t
    && (nat_le 1 (digits_value 10 t) && nat_le (digits_value 10 t) most)))

-- the number that digits spell, up to the most
abbrev pub number : ℕ → Text → Option ℕ
number most t = if is_number most t then Some (digits_value 10 t) else None

-- an option that stands at most once
abbrev pub setting : ℕ → ℕ → List Text → Option ℕ
setting usual most [] = Some usual
setting usual most (t ∷ []) = number most t
setting usual most (t ∷ u ∷ ts) = None

-- the budget, 1048576 where none is given
abbrev pub budget_of : List Text → Option ℕ
budget_of = setting 1048576 1000000000

-- the number of workers, 2 where none is given
abbrev pub workers_of : List Text → Option ℕ
workers_of = setting 2 16

-- nothing was said
abbrev pub is_empty : List Text → Bool
is_empty [] = Rattle.std.specs.Prelude.true
is_empty (t ∷ ts) = Rattle.std.specs.Prelude.false

-- solve takes a budget
abbrev pub solve_job : List Text → List Text → Option Job
solve_job bs ks = if is_empty ks then option_map (λ b. job.Solve b) (budget_of bs) else None

-- check takes no option
abbrev pub check_job : List Text → List Text → Option Job
check_job bs ks = if is_empty bs && is_empty ks then Some job.Check else None

-- bench takes a budget and workers
abbrev pub bench_job : List Text → List Text → Option Job
bench_job bs ks =
    option_and_then (λ b. option_map (λ k. job.Bench b k) (workers_of ks)) (budget_of bs)

-- lines takes no option
abbrev pub lines_job : List Text → List Text → Option Job
lines_job bs ks = if is_empty bs && is_empty ks then Some job.Lines else None

-- make takes a count and a budget
abbrev pub make_job : Text → List Text → List Text → Option Job
make_job c bs ks = if is_empty ks
    then option_and_then (λ n. option_map (λ b. job.Make n b) (budget_of bs)) (number 400 c)
    else None

-- the job of the words without the options, and of the options' values
abbrev pub job_at : List Text → List Text → List Text → Option Job
job_at [] bs ks = None
job_at (w ∷ []) bs ks =
    if bytes_eq w (codes "solve") then solve_job bs ks
    else (if bytes_eq w (codes "check") then check_job bs ks
    else (if bytes_eq w (codes "bench") then bench_job bs ks
    else (if bytes_eq w (codes "lines") then lines_job bs ks else None)))
job_at (w ∷ c ∷ []) bs ks = if bytes_eq w (codes "make") then make_job c bs ks else None
job_at (w ∷ c ∷ x ∷ ws) bs ks = None

-- the job of all that was said
abbrev pub job_of : List Said → Option Job
job_of ss = job_at (others ss) (values budget ss) (values workers ss)

-- the job that the words name
abbrev pub job_named : List Text → Option Job
job_named ws = option_and_then job_of (said ws None)

-- why there is no job: the words aren't of the form, or no memory
abbrev pub Fails : {T : Type 0} → Option T → WordsNo → Type 0
Fails named no.NoMemory = Unit {0}
Fails named no.Usage = named ≡ None
