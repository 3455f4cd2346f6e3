-- From clap's matches and faults to the job.
use Rattle.std.proofs.Common.{◌≡◌, ◌≢◌, ◌∙◌, ◌≤◌, ◌||◌, ℕ, Bool, cond, codes, true, false, zero, suc, refl, sym, ap, ap₂, subst, arith, List, [], ◌∷◌, ◌++◌, map, length, Option, Some, None, inl, inr, true≢false}
use Rattle.std.proofs.lemmas.List.{append-nil}
use Rattle.std.specs.Prelude.{option_and_then, fold, is_some}
use Rattle.std.specs.List.{list_any}
use Rattle.std.specs.Str.{bytes_eq}
use Rattle.clap.specs.Walk.{Held, Row, Rule, Text, Walk, settled, walked, walk_from, nothing_held, has_row, finished, with_default, first_of}
use Rattle.clap.specs.Simple.{App, built, entered, matches_of}
use Rattle.clap.specs.Kinds.{Kinds, or_else, HasKind}
use Rattle.clap.specs.Faults.{settle_fault, walk_fault, fault_of, defaults_fault, default_fault, given_default_fault, check_fault, entered_fault}
use Rattle.std.proofs.Common.{Result, MatchResult}
use Rattle.std.specs.Option.{ok_or}
use Rattle.clap.specs.Faults.{is_simple_and_free}
use Rattle.clap.specs.Simple.{HasMatchesOf, is_simple}
use Rattle.clap.specs.Walk.{rows_of}
use Rattle.clap.specs.Matches.{found_of, first_value as clap_first}
use Rattle.clap.specs.declared.parser.matches.ArgMatches.{ArgMatches}
use Rattle.clap.specs.declared.parser.matches.Found.{Found}
use Rattle.clap.specs.declared.error.kind.ErrorKind.{ErrorKind}
use Rattle.clap.specs.declared.error.kind.ErrorKind.TheVariants as kind
use Rattle.clap.proofs.WalkLemmas.{first_value-rows, list_any-map}
use Rattle.ff_words.specs.App.{job_in_found, kind_no}
use Rattle.ff_words.specs.Form.{Fails}
use Rattle.ff_words.specs.declared.jobs.WordsNo.{WordsNo}
use Rattle.ff_words.specs.declared.jobs.WordsNo.TheVariants as no
use Rattle.clap.specs.Values.{kind_of}
use Rattle.clap.specs.declared.error.Error.{Error}
use Rattle.clap.specs.declared.error.kind.ErrorKind.TheVariants.{OutOfMemory}
use Rattle.ff_words.specs.App.{app, listed, words_found}
use Rattle.ff_words.specs.declared.jobs.Job.{Job}
use Rattle.ff_words.specs.Form.{Choice, budget, workers, Said, option, word, others, values, said, job_of, job_at, job_named}
use Rattle.ff_words.proofs.States.{shape, rules, mode, count, opt, id, rows, rows_from, Pend, none, unmet, full, done, held, walk_at, settles}
use Rattle.ff_words.proofs.Forward.{Inv, Calm, forward, or_else_none, pre, total, settled_calm, not_unmet, has_dashes}
use Rattle.ff_words.proofs.Steps.{NotUnmet}
use Rattle.ff_words.proofs.Backward.{backward, is_good, settle_passes}

-- ---- no defaults

abbrev HaveNoDefaults : List Rule → Type 0
HaveNoDefaults [] = Unit {0}
HaveNoDefaults (a ∷ as') = (a.defaults ≡ []) × HaveNoDefaults as'

or-true : (b : Bool) → (b || true) ≡ true
or-true true = refl
or-true false = refl

same_either : (b : Bool) (rs : List Row) → cond b rs rs ≡ rs
same_either true rs = refl
same_either false rs = refl

default_none : (rs : List Row) (a : Rule) → a.defaults ≡ [] → default_fault rs a ≡ []
default_none rs a e = ap (λ (ts : List Text). cond (has_row a.id rs || Rattle.clap.specs.Walk.is_empty ts) [] (given_default_fault a ts)) e
    ∙ ap (λ b. cond b [] (given_default_fault a [])) (or-true (has_row a.id rs))

default_same : (rs : List Row) (a : Rule) → a.defaults ≡ [] → with_default rs a ≡ rs
default_same rs a e = ap (λ (ts : List Text). cond (has_row a.id rs) rs (Rattle.clap.specs.Walk.default_rows a.id (Rattle.clap.specs.Walk.reading_by a) ts rs)) e
    ∙ same_either (has_row a.id rs) rs

defaults_none : (rs : List Row) (xs : List Rule) → HaveNoDefaults xs → defaults_fault rs xs ≡ []
unfolding defaults_fault
defaults_none rs [] h = refl
defaults_none rs (a ∷ xs) h = ap₂ or_else (default_none rs a h.0) (ap (λ r. defaults_fault r xs) (default_same rs a h.0) ∙ defaults_none rs xs h.1)

defaults_same : (rs : List Row) (xs : List Rule) → HaveNoDefaults xs → fold with_default rs xs ≡ rs
defaults_same rs [] h = refl
defaults_same rs (a ∷ xs) h = ap (λ r. fold with_default r xs) (default_same rs a h.0) ∙ defaults_same rs xs h.1

no_defaults : HaveNoDefaults rules
no_defaults = (refl, (refl, (refl, (refl, tt))))

-- ---- the whole parse

abbrev the_walk : List Text → Walk
the_walk ws = fold (walked rules []) (walk_at [] none 1) ws

abbrev level_by : Kinds → Walk → Kinds
level_by f w = or_else f (or_else (entered_fault (built app) w.stopped)
    (or_else (settle_fault rules false w.held)
    (or_else (defaults_fault (settled rules w.held).rows rules)
    (check_fault shape (finished rules w.held) (is_some (entered (built app) w.stopped))))))

or_else-none : (a : Kinds) → or_else a [] ≡ a
or_else-none [] = refl
or_else-none (k ∷ ks) = refl

fault_by : (ws : List Text) → fault_of app ws ≡ level_by (walk_fault shape [] (walk_at [] none 1) ws) (the_walk ws)
fault_by ws = refl

pub fault_is : (ws : List Text) (ss : List Said) (p : Pend) (n : ℕ) → the_walk ws ≡ walk_at ss p n
    → fault_of app ws ≡ or_else (walk_fault shape [] (walk_at [] none 1) ws) (settle_fault rules false (held ss p))
fault_is ws ss p n e = fault_by ws ∙ ap (level_by (walk_fault shape [] (walk_at [] none 1) ws)) e
    ∙ ap (λ d. or_else (walk_fault shape [] (walk_at [] none 1) ws) (or_else (settle_fault rules false (held ss p)) (or_else d []))) (defaults_none (settled rules (held ss p)).rows rules no_defaults)
    ∙ ap (or_else (walk_fault shape [] (walk_at [] none 1) ws)) (or_else-none (settle_fault rules false (held ss p)))

pub matches_are : (ws : List Text) (ss : List Said) (p : Pend) (n : ℕ) → the_walk ws ≡ walk_at ss p n → settled rules (held ss p) ≡ held (done ss p) none
    → matches_of app ws ≡ rows (done ss p)
matches_are ws ss p n e s = ap (λ (w : Walk). finished rules w.held) e ∙ defaults_same (settled rules (held ss p)).rows rules no_defaults ∙ ap (λ (h : Held). h.rows) s

start : Inv [] none 1
start = record { place = refl; fits = tt; calm = record { once = λ o. zero_values o; two = omega arith } }
  where
    zero_values : (o : Choice) → length (values o []) ≤ 1
    zero_values o = omega arith

-- ---- what was found

abbrev pub head : List Text → Option Text
head [] = None
head (t ∷ ts) = Some t

first_value : (o : Choice) (n : ℕ) (ss : List Said) → first_of (id (opt o)) (rows_from n ss) ≡ head (values o ss)
first_value budget n [] = refl
first_value workers n [] = refl
first_value budget n (option budget v ∷ ss) = refl
first_value budget n (option workers v ∷ ss) = first_value budget n ss
first_value workers n (option budget v ∷ ss) = first_value workers n ss
first_value workers n (option workers v ∷ ss) = refl
first_value budget zero (word w ∷ ss) = first_value budget 1 ss
first_value workers zero (word w ∷ ss) = first_value workers 1 ss
first_value budget (suc n) (word w ∷ ss) = first_value budget (suc (suc n)) ss
first_value workers (suc n) (word w ∷ ss) = first_value workers (suc (suc n)) ss

first_count : (n : ℕ) (ss : List Said) → first_of (id count) (rows_from (suc n) ss) ≡ head (others ss)
first_count n [] = refl
first_count n (option budget v ∷ ss) = first_count n ss
first_count n (option workers v ∷ ss) = first_count n ss
first_count n (word w ∷ ss) = refl

found_words : (ss : List Said) → length (others ss) ≤ 2 → words_found (first_of (id mode) (rows ss)) (first_of (id count) (rows ss)) ≡ others ss
found_words [] h = refl
found_words (option budget v ∷ ss) h = found_words ss h
found_words (option workers v ∷ ss) h = found_words ss h
found_words (word w ∷ ss) h = ap (λ o. w ∷ listed o) (first_count 0 ss) ∙ go (others ss) (omega arith)
  where
    go : (ts : List Text) → length ts ≤ 1 → w ∷ listed (head ts) ≡ w ∷ ts
    go [] l = refl
    go (t ∷ []) l = refl
    go (t ∷ u ∷ ts) l = absurd (omega arith)

found_value : (o : Choice) (ss : List Said) → length (values o ss) ≤ 1 → listed (first_of (id (opt o)) (rows ss)) ≡ values o ss
found_value o ss h = ap listed (first_value o 0 ss) ∙ go (values o ss) h
  where
    go : (ts : List Text) → length ts ≤ 1 → listed (head ts) ≡ ts
    go [] l = refl
    go (t ∷ []) l = refl
    go (t ∷ u ∷ ts) l = absurd (omega arith)

abbrev pub job_found : List Row → Option Job
job_found rs = job_at (words_found (first_of (codes "mode") rs) (first_of (codes "count") rs)) (listed (first_of (codes "budget") rs)) (listed (first_of (codes "workers") rs))

job_of_rows : (ss : List Said) → Calm ss → job_of ss ≡ job_found (rows ss)
job_of_rows ss c = sym (ap (λ ws. job_at ws (listed (first_of (id (opt budget)) (rows ss))) (listed (first_of (id (opt workers)) (rows ss)))) (found_words ss c.two)
    ∙ ap₂ (job_at (others ss)) (found_value budget ss (c.once budget)) (found_value workers ss (c.once workers)))

-- ---- both directions

pre-nil : (o : Option (List Said)) → pre [] o ≡ o
pre-nil None = refl
pre-nil (Some ys) = refl

end_said : (ss : List Said) (p : Pend) → NotUnmet p → total ss p (said []) ≡ Some (done ss p)
end_said ss none q = ap Some (append-nil ss)
end_said ss (unmet o) q = absurd q
end_said ss (full s t) q = ap Some (append-nil (ss ++ _ ∷ []))

-- where nothing fails, the matches have the job
pub job_is : (ws : List Text) → has_dashes ws ≡ false → fault_of app ws ≡ [] → job_named ws ≡ job_found (matches_of app ws)
job_is ws d h =
    let e = forward ws [] none 1 start d (or_else_none _ _ (sym (fault_by ws) ∙ h)).0 in
    let f = (or_else_none _ _ (sym (fault_is ws e.said_so e.pend e.at e.walk) ∙ h)).1 in
    let xs = done e.said_so e.pend in
    let all : said ws None ≡ Some xs = sym (pre-nil (said ws None)) ∙ e.same ∙ end_said e.said_so e.pend (not_unmet e.said_so e.pend f) in
    ap (option_and_then job_of) all ∙ job_of_rows xs (settled_calm e.said_so e.pend e.inv.fits e.inv.calm f)
    ∙ ap job_found (sym (matches_are ws e.said_so e.pend e.at e.walk (settles e.said_so e.pend e.inv.fits f)))

pub record Passes (ws : List Text) : Type 0 where
  pub no_dashes : has_dashes ws ≡ false
  pub faultless : fault_of app ws ≡ []

ends_unmet : (ss : List Said) (p : Pend) (all : List Said) → total ss p (said []) ≡ Some all → NotUnmet p
ends_unmet ss none all h = tt
ends_unmet ss (unmet o) all h = cc
ends_unmet ss (full s t) all h = tt

some_of_then : {A B : Type 0} (f : A → Option B) (o : Option A) (y : B) → option_and_then f o ≡ Some y → (x : A) × (o ≡ Some x) × (f x ≡ Some y)
some_of_then f None y h = cc
some_of_then f (Some x) y h = (x, refl, h)

same_some : {A : Type 0} (x y : A) (o : Option A) → o ≡ Some x → o ≡ Some y → y ≡ x
same_some x y o h k = cc

-- what names a job fails by nothing
pub named_passes : (ws : List Text) (j : Job) → job_named ws ≡ Some j → Passes ws
named_passes ws j h =
    let s = some_of_then job_of (said ws None) j h in
    let g = is_good s.0 j s.2 in
    let t : total [] none (said ws) ≡ Some s.0 = pre-nil (said ws None) ∙ s.1 in
    let b = backward ws [] none 1 s.0 start g t in
    let e = forward ws [] none 1 start b.no_dashes b.faultless in
    let last = sym e.same ∙ t in
    let q = ends_unmet e.said_so e.pend s.0 last in
    let all : s.0 ≡ done e.said_so e.pend ++ [] = same_some (done e.said_so e.pend) s.0 (total e.said_so e.pend (said [])) (end_said e.said_so e.pend q) last ∙ sym (append-nil (done e.said_so e.pend)) in
    record {
      no_dashes = b.no_dashes;
      faultless = fault_is ws e.said_so e.pend e.at e.walk ∙ ap₂ or_else b.faultless (settle_passes e.said_so e.pend [] s.0 q e.inv.fits all g);
    }

-- ---- what fails names no job

pub dashes_none : (ws : List Text) → has_dashes ws ≡ true → job_named ws ≡ None
dashes_none ws h = go (job_named ws) refl
  where
    go : (o : Option Job) → job_named ws ≡ o → o ≡ None
    go None e = refl
    go (Some j) e = absurd (true≢false (sym h ∙ (named_passes ws j e).no_dashes))

pub fails_none : (ws : List Text) (e : Error) → HasKind (fault_of app ws) e → kind_of e ≢ OutOfMemory → job_named ws ≡ None
fails_none ws e k ne = go (job_named ws) refl
  where
    go : (o : Option Job) → job_named ws ≡ o → o ≡ None
    go None f = refl
    go (Some j) f = absurd (elim (subst (λ ks. HasKind ks e) (named_passes ws j f).faultless k) [ inl m ↦ ne m | inr m ↦ m ])

-- ---- what the call knows

first_rows : (f : Found) → job_in_found f ≡ job_found (rows_of f)
first_rows f = ap₂ (λ ws o. job_at ws o (listed (clap_first f (codes "workers"))))
    (ap₂ words_found (first_value-rows f (codes "mode")) (first_value-rows f (codes "count"))) (ap listed (first_value-rows f (codes "budget")))
    ∙ ap (λ o. job_at (words_found (first_of (codes "mode") (rows_of f)) (first_of (codes "count") (rows_of f))) (listed (first_of (codes "budget") (rows_of f))) (listed o)) (first_value-rows f (codes "workers"))

is_free : is_simple_and_free app ≡ true
is_free = refl

simple : is_simple app ≡ true
simple = refl

pub found_is : (ws : List Text) (m : ArgMatches) (a : App) → a ≡ app → has_dashes ws ≡ false → HasMatchesOf a ws m → (is_simple_and_free a ≡ true → fault_of a ws ≡ [])
    → job_named ws ≡ job_in_found (found_of m)
found_is ws m a e d has free =
    let none_fails : fault_of app ws ≡ [] = sym (ap (λ x. fault_of x ws) e) ∙ free (ap is_simple_and_free e ∙ is_free) in
    let found : rows_of (found_of m) ≡ matches_of app ws = (has (ap is_simple e ∙ simple)).0 ∙ ap (λ x. matches_of x ws) e in
    job_is ws d none_fails ∙ ap job_found (sym found) ∙ sym (first_rows (found_of m))

pub refused_is : (ws : List Text) (e : Error) (a : App) → a ≡ app → (is_simple_and_free a ≡ true → HasKind (fault_of a ws) e) → kind_of e ≢ OutOfMemory → job_named ws ≡ None
refused_is ws e a is free ne = fails_none ws e (subst (λ x. HasKind (fault_of x ws) e) is (free (ap is_simple_and_free is ∙ is_free))) ne

pub fails_by_kind : (ws : List Text) (e : Error) (n : WordsNo) → n ≡ kind_no (kind_of e) → (kind_of e ≢ OutOfMemory → job_named ws ≡ None) → Fails (job_named ws) n
fails_by_kind ws e n is h = go (kind_of e) refl
  where
    as_no : (k : ErrorKind) → kind_of e ≡ k → n ≡ kind_no k
    as_no k f = is ∙ ap kind_no f

    usage : (k : ErrorKind) → kind_of e ≡ k → kind_no k ≡ no.Usage → k ≢ OutOfMemory → Fails (job_named ws) n
    usage k f u ne = subst (Fails (job_named ws)) (sym (as_no k f ∙ u)) (h (λ o. ne (sym f ∙ o)))

    go : (k : ErrorKind) → kind_of e ≡ k → Fails (job_named ws) n
    go kind.OutOfMemory f = subst (Fails (job_named ws)) (sym (as_no kind.OutOfMemory f)) tt
    go kind.InvalidValue f = usage _ f refl (λ o. cc)
    go kind.UnknownArgument f = usage _ f refl (λ o. cc)
    go kind.InvalidSubcommand f = usage _ f refl (λ o. cc)
    go kind.NoEquals f = usage _ f refl (λ o. cc)
    go kind.ValueValidation f = usage _ f refl (λ o. cc)
    go kind.TooManyValues f = usage _ f refl (λ o. cc)
    go kind.TooFewValues f = usage _ f refl (λ o. cc)
    go kind.WrongNumberOfValues f = usage _ f refl (λ o. cc)
    go kind.ArgumentConflict f = usage _ f refl (λ o. cc)
    go kind.MissingRequiredArgument f = usage _ f refl (λ o. cc)
    go kind.MissingSubcommand f = usage _ f refl (λ o. cc)
    go kind.DisplayHelp f = usage _ f refl (λ o. cc)
    go kind.DisplayHelpOnMissingArgumentOrSubcommand f = usage _ f refl (λ o. cc)
    go kind.DisplayVersion f = usage _ f refl (λ o. cc)
    go kind.Io f = usage _ f refl (λ o. cc)
    go kind.Format f = usage _ f refl (λ o. cc)

pub dashes_are : {X : Type 0} (f : X → Text) (xs : List X) (b c : Bool) → b ≡ list_any (λ s. bytes_eq (f s) (codes "--")) xs → b ≡ c → has_dashes (map f xs) ≡ c
dashes_are f xs b c e h = sym (list_any-map (λ w. bytes_eq w (codes "--")) f xs) ∙ sym e ∙ h

pub ok_or_is : (ws : List Text) (found : Option Job) (r : Result Job WordsNo) → job_named ws ≡ found → r ≡ ok_or found no.Usage → MatchResult r (λ j. job_named ws ≡ Some j) (Fails (job_named ws))
ok_or_is ws None r e h = subst (λ q. MatchResult q (λ j. job_named ws ≡ Some j) (Fails (job_named ws))) (sym h) e
ok_or_is ws (Some j) r e h = subst (λ q. MatchResult q (λ j. job_named ws ≡ Some j) (Fails (job_named ws))) (sym h) e
