-- What names a job fails by nothing.
use Rattle.std.proofs.Common.{◌≡◌, ◌∙◌, ◌≤◌, ◌&&◌, ◌||◌, ◌⊎◌, ℕ, Bool, cond, codes, true, false, not, zero, suc, refl, sym, ap, ap₂, subst, arith, List, [], ◌∷◌, ◌++◌, length, Option, Some, None, inl, inr, true≢false, ◌==◌, length-append}
use Rattle.std.proofs.lemmas.List.{append_assoc}
use Rattle.std.proofs.lemmas.Bool.{eqb-true}
use Rattle.std.proofs.lemmas.Slice.Eq.{bytes_eq-Decides}
use Rattle.std.specs.Prelude.{option_map, option_and_then}
use Rattle.std.specs.List.{list_all}
use Rattle.std.specs.Char.{is_ascii_digit}
use Rattle.std.specs.Str.{bytes_eq}
use Rattle.ff_basics.proofs.Tests.{and_true}
use Rattle.clap.specs.Lexer.{long_of, short_of, strip_byte, long_of_rest, short_of_rest}
use Rattle.clap.specs.Walk.{Text, has_row}
use Rattle.clap.specs.Kinds.{or_else}
use Rattle.clap.specs.Faults.{settle_fault, turn_fault, walk_fault}
use Rattle.clap.specs.declared.error.kind.ErrorKind.TheVariants.{ArgumentConflict}
use Rattle.ff_words.specs.declared.jobs.Job.{Job}
use Rattle.ff_words.specs.Form.{Choice, budget, workers, Said, option, word, others, values, said, said_at, said_next, more, by_name, word_of, with_value, name, whole, plain, job_of, job_at, setting, number, is_number, is_empty, budget_of, workers_of, solve_job, check_job, bench_job, lines_job, make_job}
use Rattle.ff_words.specs.Form as form
use Rattle.ff_words.proofs.States.{shape, rules, mode, count, opt, id, rows, Pend, none, unmet, full, done, held, walk_at, FitsPend, settles, settle_none, has_values, nonempty, no_mode, no_count}
use Rattle.ff_words.proofs.Steps.{turn_by, name_turn, whole_turn, repeated, value_turn, NotUnmet, place_turn_1, place_turn_2}
use Rattle.ff_words.proofs.Forward.{Inv, Calm, others_append, values_append, pre, total, total_idle, kind_of_long, known, bare, unknown, turn_at, step_of, dashes, has_dashes}

-- a word with no hyphen in front
abbrev pub is_bare : Text → Bool
is_bare [] = true
is_bare (x ∷ xs) = not (x == 45)

abbrev pub AllBare : List Text → Type 0
AllBare [] = Unit {0}
AllBare (t ∷ ts) = (is_bare t ≡ true) × AllBare ts

no_hyphen : (b : Bool) → not b ≡ true → b ≡ false
no_hyphen true h = absurd (true≢false (sym h))
no_hyphen false h = refl

pub bare_long : (w : Text) → is_bare w ≡ true → long_of w ≡ None
bare_long [] h = refl
bare_long (x ∷ xs) h = ap (λ (b : Bool). option_and_then long_of_rest (option_and_then (strip_byte 45) (cond b (Some xs) None))) (no_hyphen (x == 45) h)

pub bare_short : (w : Text) → is_bare w ≡ true → short_of w ≡ None
bare_short [] h = refl
bare_short (x ∷ xs) h = ap (λ (b : Bool). option_and_then short_of_rest (cond b (Some xs) None)) (no_hyphen (x == 45) h)

pub bare_dashes : (w : Text) → is_bare w ≡ true → bytes_eq w dashes ≡ false
bare_dashes [] h = refl
bare_dashes (x ∷ xs) h = ap (λ (b : Bool). b && bytes_eq xs (45 ∷ [])) (no_hyphen (x == 45) h)

-- `--` is no option
pub long_dashes : (w : Text) (p : Text × Option Text) → long_of w ≡ Some p → bytes_eq w dashes ≡ false
long_dashes w p e = go (bytes_eq w dashes) refl
  where
    go : (b : Bool) → bytes_eq w dashes ≡ b → b ≡ false
    go false h = refl
    go true h = let same : w ≡ dashes = (bytes_eq-Decides w dashes).0 h in let f = ap long_of (sym same) ∙ e in cc

-- ---- what has a job

pub record Small (ts : List Text) : Type 0 where
  pub one : length ts ≤ 1
  pub bare : AllBare ts

pub record IsGood (ss : List Said) : Type 0 where
  pub calm : Calm ss
  pub words : AllBare (others ss)
  pub values_bare : (o : Choice) → AllBare (values o ss)

chosen : {A : Type 0} (b : Bool) (x y z : A) → cond b x y ≡ z → ((b ≡ true) × (x ≡ z)) ⊎ ((b ≡ false) × (y ≡ z))
chosen true x y z h = inl (refl, h)
chosen false x y z h = inr (refl, h)

digits_bare : (t : Text) → list_all is_ascii_digit t ≡ true → is_bare t ≡ true
digits_bare [] h = refl
digits_bare (x ∷ xs) h = go (x == 45) refl
  where
    go : (b : Bool) → (x == 45) ≡ b → not b ≡ true
    go false e = refl
    go true e = let d = (and_true (is_ascii_digit x) _ h).0 in let n : x ≡ 45 = eqb-true x 45 e in absurd (true≢false (sym d ∙ ap is_ascii_digit n))

number_bare : (most : ℕ) (t : Text) (n : ℕ) → number most t ≡ Some n → is_bare t ≡ true
number_bare most t n h = elim (chosen (is_number most t) _ _ _ h) [
  | inl e ↦ digits_bare t (and_true _ _ (and_true _ _ (and_true _ _ e.0).1).1).0
  | inr e ↦ cc
]

setting_small : (usual most n : ℕ) (ts : List Text) → setting usual most ts ≡ Some n → Small ts
setting_small usual most n [] h = record { one = omega arith; bare = tt }
setting_small usual most n (t ∷ []) h = record { one = omega arith; bare = (number_bare most t n h, tt) }
setting_small usual most n (t ∷ u ∷ ts) h = cc

empty_small : (ts : List Text) → is_empty ts ≡ true → Small ts
empty_small [] h = record { one = omega arith; bare = tt }
empty_small (t ∷ ts) h = absurd (true≢false (sym h))

some_of_map : {A B : Type 0} (f : A → B) (o : Option A) (y : B) → option_map f o ≡ Some y → (x : A) × (o ≡ Some x)
some_of_map f None y h = cc
some_of_map f (Some x) y h = (x, refl)

some_of_then : {A B : Type 0} (f : A → Option B) (o : Option A) (y : B) → option_and_then f o ≡ Some y → (x : A) × (o ≡ Some x) × (f x ≡ Some y)
some_of_then f None y h = cc
some_of_then f (Some x) y h = (x, refl, h)

solve_small : (bs ks : List Text) (j : Job) → solve_job bs ks ≡ Some j → Small bs × Small ks
solve_small bs ks j h = elim (chosen (is_empty ks) _ _ _ h) [
  | inl e ↦ (setting_small _ _ _ bs (some_of_map _ _ _ e.1).1, empty_small ks e.0)
  | inr e ↦ cc
]

check_small : (bs ks : List Text) (j : Job) → check_job bs ks ≡ Some j → Small bs × Small ks
check_small bs ks j h = elim (chosen (is_empty bs && is_empty ks) _ _ _ h) [
  | inl e ↦ let es = and_true (is_empty bs) (is_empty ks) e.0 in (empty_small bs es.0, empty_small ks es.1)
  | inr e ↦ cc
]

bench_small : (bs ks : List Text) (j : Job) → bench_job bs ks ≡ Some j → Small bs × Small ks
bench_small bs ks j h =
    let b = some_of_then _ (budget_of bs) j h in
    let k = some_of_map _ (workers_of ks) j b.2 in
    (setting_small _ _ _ bs b.1, setting_small _ _ _ ks k.1)

lines_small : (bs ks : List Text) (j : Job) → lines_job bs ks ≡ Some j → Small bs × Small ks
lines_small bs ks j h = elim (chosen (is_empty bs && is_empty ks) _ _ _ h) [
  | inl e ↦ let es = and_true (is_empty bs) (is_empty ks) e.0 in (empty_small bs es.0, empty_small ks es.1)
  | inr e ↦ cc
]

make_small : (c : Text) (bs ks : List Text) (j : Job) → make_job c bs ks ≡ Some j → Small bs × Small ks × (is_bare c ≡ true)
make_small c bs ks j h = elim (chosen (is_empty ks) _ _ _ h) [
  | inl e ↦
      let n = some_of_then _ (number 400 c) j e.1 in
      let b = some_of_map _ (budget_of bs) j n.2 in
      (setting_small _ _ _ bs b.1, empty_small ks e.0, number_bare 400 c n.0 n.1)
  | inr e ↦ cc
]

literal_bare : (w t : Text) → is_bare t ≡ true → bytes_eq w t ≡ true → is_bare w ≡ true
literal_bare w t h e = ap is_bare ((bytes_eq-Decides w t).0 e) ∙ h

pub record GoodParts (ws bs ks : List Text) : Type 0 where
  pub two : length ws ≤ 2
  pub words : AllBare ws
  pub budgets : Small bs
  pub workers : Small ks

job_good : (ws bs ks : List Text) (j : Job) → job_at ws bs ks ≡ Some j → GoodParts ws bs ks
job_good [] bs ks j h = cc
job_good (w ∷ []) bs ks j h = elim (chosen (bytes_eq w (codes "solve")) _ _ _ h) [
  | inl e ↦ let s = solve_small bs ks j e.1 in record { two = omega arith; words = (literal_bare w _ refl e.0, tt); budgets = s.0; workers = s.1 }
  | inr e ↦ elim (chosen (bytes_eq w (codes "check")) _ _ _ e.1) [
    | inl f ↦ let s = check_small bs ks j f.1 in record { two = omega arith; words = (literal_bare w _ refl f.0, tt); budgets = s.0; workers = s.1 }
    | inr f ↦ elim (chosen (bytes_eq w (codes "bench")) _ _ _ f.1) [
      | inl g ↦ let s = bench_small bs ks j g.1 in record { two = omega arith; words = (literal_bare w _ refl g.0, tt); budgets = s.0; workers = s.1 }
      | inr g ↦ elim (chosen (bytes_eq w (codes "lines")) _ _ _ g.1) [
        | inl h ↦ let s = lines_small bs ks j h.1 in record { two = omega arith; words = (literal_bare w _ refl h.0, tt); budgets = s.0; workers = s.1 }
        | inr h ↦ cc
      ]
    ]
  ]
]
job_good (w ∷ c ∷ []) bs ks j h = elim (chosen (bytes_eq w (codes "make")) _ _ _ h) [
  | inl e ↦ let s = make_small c bs ks j e.1 in record { two = omega arith; words = (literal_bare w _ refl e.0, (s.2, tt)); budgets = s.0; workers = s.1 }
  | inr e ↦ cc
]
job_good (w ∷ c ∷ x ∷ ws) bs ks j h = cc

pub is_good : (ss : List Said) (j : Job) → job_of ss ≡ Some j → IsGood ss
is_good ss j h = let g = job_good (others ss) (values budget ss) (values workers ss) j h in record {
  calm = record { once = λ o. one g o; two = g.two };
  words = g.words;
  values_bare = λ o. bares g o;
}
  where
    one : GoodParts (others ss) (values budget ss) (values workers ss) → (o : Choice) → length (values o ss) ≤ 1
    one g budget = g.budgets.one
    one g workers = g.workers.one

    bares : GoodParts (others ss) (values budget ss) (values workers ss) → (o : Choice) → AllBare (values o ss)
    bares g budget = g.budgets.bare
    bares g workers = g.workers.bare

-- ---- a word

pre_is : (xs all : List Said) (o : Option (List Said)) → pre xs o ≡ Some all → (ys : List Said) × (all ≡ xs ++ ys)
pre_is xs all None h = cc
pre_is xs all (Some ys) h = (ys, cc)

more_is : (xs all : List Said) (x : Said) (o : Option (List Said)) → pre xs (more x o) ≡ Some all → (ys : List Said) × (all ≡ xs ++ (x ∷ ys))
more_is xs all x None h = cc
more_is xs all x (Some ys) h = (ys, cc)

bare_member : (a b : List Text) (w : Text) → AllBare (a ++ w ∷ b) → is_bare w ≡ true
bare_member [] b w h = h.0
bare_member (t ∷ a) b w h = bare_member a b w h.1

word_bare : (xs ys all : List Said) (w : Text) → all ≡ xs ++ (word w ∷ ys) → IsGood all → is_bare w ≡ true
word_bare xs ys all w e g = bare_member (others xs) (others ys) w (subst AllBare (ap others e ∙ others_append xs (word w ∷ ys)) g.words)

value_bare : (o : Choice) (xs ys all : List Said) (w : Text) → all ≡ xs ++ (option o w ∷ ys) → IsGood all → is_bare w ≡ true
value_bare budget xs ys all w e g = bare_member (values budget xs) (values budget ys) w (subst AllBare (ap (values budget) e ∙ values_append budget xs (option budget w ∷ ys)) (g.values_bare budget))
value_bare workers xs ys all w e g = bare_member (values workers xs) (values workers ys) w (subst AllBare (ap (values workers) e ∙ values_append workers xs (option workers w ∷ ys)) (g.values_bare workers))

none_kept : (ts : List Text) → length ts ≡ 0 → nonempty ts ≡ false
none_kept [] h = refl
none_kept (t ∷ ts) h = absurd (omega arith)

-- an option that stands once did not stand before
first_use : (o : Choice) (xs ys all : List Said) (v : Text) → all ≡ xs ++ (option o v ∷ ys) → IsGood all → has_row (id (opt o)) (rows xs) ≡ false
first_use budget xs ys all v e g =
    let l = ap length (ap (values budget) e ∙ values_append budget xs (option budget v ∷ ys)) in let once = g.calm.once budget in
    has_values budget 0 xs ∙ none_kept (values budget xs) (omega (arith, l, once, length-append (values budget xs) (v ∷ values budget ys)))
first_use workers xs ys all v e g =
    let l = ap length (ap (values workers) e ∙ values_append workers xs (option workers v ∷ ys)) in let once = g.calm.once workers in
    has_values workers 0 xs ∙ none_kept (values workers xs) (omega (arith, l, once, length-append (values workers xs) (v ∷ values workers ys)))

pub settle_passes : (ss : List Said) (p : Pend) (ys all : List Said) → NotUnmet p → FitsPend ss p → all ≡ done ss p ++ ys → IsGood all → settle_fault rules false (held ss p) ≡ []
settle_passes ss none ys all q f e g = refl
settle_passes ss (unmet o) ys all q f e g = absurd q
settle_passes ss (full mode t) ys all q f e g = settle_none ss mode t (no_mode ss f)
settle_passes ss (full count t) ys all q f e g = settle_none ss count t (no_count ss f)
settle_passes ss (full (opt o) t) ys all q f e g = settle_none ss (opt o) t (first_use o ss ys all t (e ∙ append_assoc ss (option o t ∷ []) ys) g)

pub record Passes (ss : List Said) (p : Pend) (n : ℕ) (w : Text) : Type 0 where
  pub no_dashes : bytes_eq w dashes ≡ false
  pub turn : turn_fault shape [] (walk_at ss p n) w ≡ []

pass_value : (o : Choice) (ss : List Said) (n : ℕ) (w : Text) → is_bare w ≡ true → Passes ss (unmet o) n w
pass_value o ss n w b = record {
  no_dashes = bare_dashes w b;
  turn = turn_at ss (unmet o) n w None (bare_dashes w b) (bare_long w b) ∙ ap (λ F. turn_by false None F ss (unmet o) n w) (bare_short w b) ∙ value_turn o None ss n w refl;
}

pass_word : (ss : List Said) (p : Pend) (n : ℕ) (w : Text) → Inv ss p n → NotUnmet p → is_bare w ≡ true → settle_fault rules false (held ss p) ≡ [] → length (others (done ss p)) ≤ 1 → Passes ss p n w
pass_word ss p n w inv q b h lt = record {
  no_dashes = bare_dashes w b;
  turn = turn_at ss p n w None (bare_dashes w b) (bare_long w b) ∙ ap (λ F. turn_by false None F ss p n w) (bare_short w b) ∙ go (length (others (done ss p))) refl;
}
  where
    go : (k : ℕ) → length (others (done ss p)) ≡ k → turn_by false None None ss p n w ≡ []
    go zero l = ap (λ i. turn_by false None None ss p i w) (inv.place ∙ ap suc l) ∙ place_turn_1 None ss p w q refl ∙ h
    go (suc zero) l = ap (λ i. turn_by false None None ss p i w) (inv.place ∙ ap suc l) ∙ place_turn_2 None ss p w q refl ∙ h
    go (suc (suc k)) l = absurd (omega arith)

pass_known : (o : Choice) (v : Option Text) (ss : List Said) (p : Pend) (n : ℕ) (w : Text) (ws : List Text) (all : List Said) → Inv ss p n → NotUnmet p → IsGood all
    → long_of w ≡ Some (id (opt o), v) → pre (done ss p) (said_at w (with_value o v) (said ws)) ≡ Some all → Passes ss p n w
pass_known o None ss p n w ws all inv q g e t =
    let d = long_dashes w _ e in
    let ys = pre_is (done ss p) all (said ws (Some o)) t in
    let h = settle_passes ss p ys.0 all q inv.fits ys.1 g in
    record { no_dashes = d; turn = turn_at ss p n w _ d e ∙ name_turn o (short_of w) ss p n w ∙ ap (λ a. or_else a []) h }
pass_known o (Some v) ss p n w ws all inv q g e t =
    let d = long_dashes w _ e in
    let ys = more_is (done ss p) all (option o v) (said ws None) t in
    let h = settle_passes ss p (option o v ∷ ys.0) all q inv.fits ys.1 g in
    let free = first_use o (done ss p) ys.0 all v ys.1 g in
    let again : repeated o (done ss p) ≡ [] = ap (λ b. or_else (cond (b && true) (ArgumentConflict ∷ []) []) []) free in
    record { no_dashes = d; turn = turn_at ss p n w _ d e ∙ whole_turn o v (short_of w) ss (done ss p) p n w (settles ss p inv.fits h) ∙ ap₂ (λ a b. or_else (or_else a b) []) h again }

pass_plain : (ss : List Said) (p : Pend) (n : ℕ) (w : Text) (ws : List Text) (all : List Said) → Inv ss p n → NotUnmet p → IsGood all
    → pre (done ss p) (said_at w plain (said ws)) ≡ Some all → Passes ss p n w
pass_plain ss p n w ws all inv q g t =
    let ys = more_is (done ss p) all (word w) (said ws None) t in
    let h = settle_passes ss p (word w ∷ ys.0) all q inv.fits ys.1 g in
    let l = ap length (ap others ys.1 ∙ others_append (done ss p) (word w ∷ ys.0)) in
    let two = g.calm.two in
    pass_word ss p n w inv q (word_bare (done ss p) ys.0 all w ys.1 g) h (omega (arith, l, two, length-append (others (done ss p)) (w ∷ others ys.0)))

pass_idle : (ss : List Said) (p : Pend) (n : ℕ) (w : Text) (ws : List Text) (all : List Said) → Inv ss p n → NotUnmet p → IsGood all → total ss p (said (w ∷ ws)) ≡ Some all → Passes ss p n w
pass_idle ss p n w ws all inv q g t = elim (kind_of_long (long_of w)) [
  | known o v e reads ↦ pass_known o v ss p n w ws all inv q g e (by_kind (with_value o v) reads)
  | bare e reads ↦ pass_plain ss p n w ws all inv q g (by_kind plain reads)
  | unknown reads f ↦ pass_plain ss p n w ws all inv q g (by_kind plain reads)
]
  where
    by_kind : (k : form.Word) → word_of w ≡ k → pre (done ss p) (said_at w k (said ws)) ≡ Some all
    by_kind k e = ap (λ x. pre (done ss p) (said_at w x (said ws))) (sym e) ∙ sym (total_idle ss p w ws q) ∙ t

pub passes : (ss : List Said) (p : Pend) (n : ℕ) (w : Text) (ws : List Text) (all : List Said) → Inv ss p n → IsGood all → total ss p (said (w ∷ ws)) ≡ Some all → Passes ss p n w
passes ss none n w ws all inv g t = pass_idle ss none n w ws all inv tt g t
passes ss (full s u) n w ws all inv g t = pass_idle ss (full s u) n w ws all inv tt g t
passes ss (unmet o) n w ws all inv g t =
    let ys = more_is ss all (option o w) (said ws None) t in pass_value o ss n w (value_bare o ss ys.0 all w ys.1 g)

-- ---- the words

pub record AllPass (ss : List Said) (p : Pend) (n : ℕ) (ws : List Text) (all : List Said) : Type 0 where
  pub no_dashes : has_dashes ws ≡ false
  pub faultless : walk_fault shape [] (walk_at ss p n) ws ≡ []

pub backward : (ws : List Text) (ss : List Said) (p : Pend) (n : ℕ) (all : List Said) → Inv ss p n → IsGood all → total ss p (said ws) ≡ Some all → AllPass ss p n ws all
unfolding walk_fault
backward [] ss p n all inv g t = record { no_dashes = refl; faultless = refl }
backward (w ∷ ws) ss p n all inv g t =
    let here = passes ss p n w ws all inv g t in
    let s = step_of ss p n w inv here.no_dashes here.turn in
    let rest = backward ws s.said_so s.pend s.at all s.inv g (sym (s.same ws) ∙ t) in
    record {
      no_dashes = ap₂ (λ a b. a || b) here.no_dashes rest.no_dashes;
      faultless = ap₂ or_else here.turn (ap (λ x. walk_fault shape [] x ws) s.walk ∙ rest.faultless);
    }
