-- One word of clap's walk.
use Rattle.std.proofs.Common.{◌≡◌, ◌∙◌, ◌<◌, ◌&&◌, ℕ, Bool, cond, true, false, zero, suc, refl, sym, ap, ap₂, arith, List, [], ◌∷◌, ◌++◌, length, Option, Some, None, true≢false, nat_eq, ne_eqb}
use Rattle.std.specs.Prelude.{slice_get, unwrap_or}
use Rattle.std.specs.Option.{option_map_or}
use Rattle.std.specs.Str.{bytes_eq, chars}
use Rattle.clap.specs.Lexer.{long_of, short_of}
use Rattle.clap.specs.Walk.{Held, Names, Row, Rule, Text, Waiting, idle, Walk, Step, Outcome, has_row, settled, at_row, without, with_values, bundle_met, bundle_step, walked, after_step, long_or_other, bundle, after_flag, long_word, plain_word, trailing, plain, arg_by_index, arg_by_short, arg_by_long}
use Rattle.clap.specs.Walk as walks
use Rattle.clap.specs.Simple.{new_rule}
use Rattle.clap.specs.Kinds.{Kinds, or_else}
use Rattle.clap.specs.Faults.{settle_fault, turn_fault, flag_word_fault, long_fault, step_fault, flags_fault, bundle_fault, bundle_step_fault, walk_fault}
use Rattle.clap.specs.declared.error.kind.ErrorKind.TheVariants.{ArgumentConflict, UnknownArgument}
use Rattle.clap.specs.declared.builder.value_parser.Reading.TheVariants as reading
use Rattle.clap.specs.declared.parser.matches.ValueSource.TheVariants.{CommandLine}
use Rattle.ff_words.specs.Form.{Choice, budget, workers, Said, option}
use Rattle.ff_words.proofs.States.{shape, rules, Slot, mode, count, opt, id, rows, Pend, none, unmet, full, waits, held, walk_at, used_at, rows_snoc}

abbrev mode_rule : Rule
mode_rule = unwrap_or (slice_get rules 0) (new_rule [])

abbrev count_rule : Rule
count_rule = unwrap_or (slice_get rules 1) (new_rule [])

-- ---- what a word of clap's two forms comes to

abbrev pub Long : Type 0
Long = Option (Text × Option Text)

abbrev pub plain_fault : Option Text → Held → Kinds
plain_fault F h = option_map_or (λ flags. bundle_fault rules false flags h) F []

abbrev pub flag_fault : Long → Option Text → Held → Kinds
flag_fault (Some p) F h = long_fault rules false (arg_by_long rules p.0) p.1 h
flag_fault None F h = plain_fault F h

abbrev pub plain_met : Option Text → Waiting → Text → Held → Held × Step
plain_met F waiting w h = walks.short_or_plain rules waiting w F h

abbrev pub flag_met : Long → Option Text → Waiting → Text → Held → Held × Step
flag_met (Some p) F waiting w h = long_word rules waiting w p.0 p.1 h
flag_met None F waiting w h = plain_met F waiting w h

abbrev pub met_by : Bool → Long → Option Text → List Said → Pend → ℕ → Text → Held × Step
met_by D L F ss p n w = cond D (held ss p, trailing n) (flag_met L F (waits p) w (held ss p))

abbrev pub turn_by : Bool → Long → Option Text → List Said → Pend → ℕ → Text → Kinds
turn_by D L F ss p n w = or_else (cond D [] (flag_fault L F (held ss p)))
    (step_fault shape n (met_by D L F ss p n w).0 (met_by D L F ss p n w).1)

abbrev pub walk_by : Bool → Long → Option Text → List Said → Pend → ℕ → Text → Walk
walk_by D L F ss p n w = after_step rules w (walk_at ss p n) (met_by D L F ss p n w).0 (met_by D L F ss p n w).1

abbrev dashes : Text
dashes = 45 ∷ 45 ∷ []

-- by the forms
flag_fault_is : (w : Text) (h : Held) (L : Long) → flag_word_fault rules false L w h ≡ flag_fault L (short_of w) h
flag_fault_is w h None = refl
flag_fault_is w h (Some p) = refl

flag_met_is : (w : Text) (waiting : Waiting) (h : Held) (L : Long) → long_or_other rules waiting w L h ≡ flag_met L (short_of w) waiting w h
flag_met_is w waiting h None = refl
flag_met_is w waiting h (Some p) = refl

abbrev raw_turn : Bool → Kinds → Held × Step → List Said → Pend → ℕ → Kinds
raw_turn D f m ss p n = or_else (cond D [] f) (step_fault shape n (cond D (held ss p, trailing n) m).0 (cond D (held ss p, trailing n) m).1)

pub turn_is : (ss : List Said) (p : Pend) (n : ℕ) (w : Text) → turn_fault shape [] (walk_at ss p n) w ≡ turn_by (bytes_eq w dashes) (long_of w) (short_of w) ss p n w
turn_is ss none n w = ap₂ (λ f m. raw_turn (bytes_eq w dashes) f m ss none n) (flag_fault_is w (held ss none) (long_of w)) (flag_met_is w idle (held ss none) (long_of w))
turn_is ss (full s t) n w = ap₂ (λ f m. raw_turn (bytes_eq w dashes) f m ss (full s t) n) (flag_fault_is w (held ss (full s t)) (long_of w)) (flag_met_is w idle (held ss (full s t)) (long_of w))
turn_is ss (unmet o) n w = ap₂ (λ f m. raw_turn (bytes_eq w dashes) f m ss (unmet o) n) (flag_fault_is w (held ss (unmet o)) (long_of w)) (flag_met_is w (waits (unmet o)) (held ss (unmet o)) (long_of w))

abbrev raw_walk : Bool → Held × Step → Text → List Said → Pend → ℕ → Walk
raw_walk D m w ss p n = after_step rules w (walk_at ss p n) (cond D (held ss p, trailing n) m).0 (cond D (held ss p, trailing n) m).1

pub walk_is : (ss : List Said) (p : Pend) (n : ℕ) (w : Text) → walked rules [] (walk_at ss p n) w ≡ walk_by (bytes_eq w dashes) (long_of w) (short_of w) ss p n w
unfolding walked
walk_is ss none n w = ap (λ m. raw_walk (bytes_eq w dashes) m w ss none n) (flag_met_is w idle (held ss none) (long_of w))
walk_is ss (full s t) n w = ap (λ m. raw_walk (bytes_eq w dashes) m w ss (full s t) n) (flag_met_is w idle (held ss (full s t)) (long_of w))
walk_is ss (unmet o) n w = ap (λ m. raw_walk (bytes_eq w dashes) m w ss (unmet o) n) (flag_met_is w (waits (unmet o)) (held ss (unmet o)) (long_of w))

-- ---- `--budget`

pub name_turn : (o : Choice) (F : Option Text) (ss : List Said) (p : Pend) (n : ℕ) (w : Text)
    → turn_by false (Some (id (opt o), None)) F ss p n w ≡ or_else (settle_fault rules false (held ss p)) []
name_turn budget F ss p n w = refl
name_turn workers F ss p n w = refl

pub name_walk : (o : Choice) (F : Option Text) (ss xs : List Said) (p : Pend) (n : ℕ) (w : Text) → settled rules (held ss p) ≡ held xs none
    → walk_by false (Some (id (opt o), None)) F ss p n w ≡ walk_at xs (unmet o) n
name_walk budget F ss xs p n w e = ap (λ (h : Held). let x : Walk = record { held = record h { pending = Some (id (opt budget), []) }; waiting = walks.option (id (opt budget)); position = n; is_trailing = false; stopped = None } in x) e
name_walk workers F ss xs p n w e = ap (λ (h : Held). let x : Walk = record { held = record h { pending = Some (id (opt workers), []) }; waiting = walks.option (id (opt workers)); position = n; is_trailing = false; stopped = None } in x) e

-- ---- `--budget=N`

abbrev pub repeated : Choice → List Said → Kinds
repeated o xs = or_else (cond (has_row (id (opt o)) (rows xs) && true) (ArgumentConflict ∷ []) []) []

pub whole_turn : (o : Choice) (v : Text) (F : Option Text) (ss xs : List Said) (p : Pend) (n : ℕ) (w : Text) → settled rules (held ss p) ≡ held xs none
    → turn_by false (Some (id (opt o), Some v)) F ss p n w ≡ or_else (or_else (settle_fault rules false (held ss p)) (repeated o xs)) []
whole_turn budget v F ss xs p n w e = ap (λ (h : Held). or_else (or_else (settle_fault rules false (held ss p)) (or_else (cond (has_row (id (opt budget)) h.rows && true) (ArgumentConflict ∷ []) []) [])) []) e
whole_turn workers v F ss xs p n w e = ap (λ (h : Held). or_else (or_else (settle_fault rules false (held ss p)) (or_else (cond (has_row (id (opt workers)) h.rows && true) (ArgumentConflict ∷ []) []) [])) []) e

abbrev at_rows : List Row → ℕ → Walk
at_rows rs n = record { held = record { rows = rs; pending = None; skip = 0 }; waiting = idle; position = n; is_trailing = false; stopped = None }

pub whole_walk : (o : Choice) (v : Text) (F : Option Text) (ss xs : List Said) (p : Pend) (n : ℕ) (w : Text) → settled rules (held ss p) ≡ held xs none
    → has_row (id (opt o)) (rows xs) ≡ false → walk_by false (Some (id (opt o), Some v)) F ss p n w ≡ walk_at (xs ++ option o v ∷ []) none n
whole_walk budget v F ss xs p n w e h =
    ap (λ (k : Held). let x : Walk = record { held = record k { rows = with_values (id (opt budget)) reading.AsWritten CommandLine (v ∷ []) (without (id (opt budget)) k.rows); pending = None }; waiting = idle; position = n; is_trailing = false; stopped = None } in x) e
    ∙ ap (λ rs. at_rows rs n) (used_at (id (opt budget)) v (rows xs) h ∙ sym (rows_snoc xs (opt budget) v tt))
whole_walk workers v F ss xs p n w e h =
    ap (λ (k : Held). let x : Walk = record { held = record k { rows = with_values (id (opt workers)) reading.AsWritten CommandLine (v ∷ []) (without (id (opt workers)) k.rows); pending = None }; waiting = idle; position = n; is_trailing = false; stopped = None } in x) e
    ∙ ap (λ rs. at_rows rs n) (used_at (id (opt workers)) v (rows xs) h ∙ sym (rows_snoc xs (opt workers) v tt))

-- ---- a word that is no flag

-- the flags of a word with one hyphen are refused, or there are none
pub bundle_plain : (flags : Text) (k : ℕ) (ss : List Said) (p : Pend) → flags_fault rules false k flags 0 (held ss p) ≡ []
    → bundle_met rules k flags 0 plain (held ss p) ≡ (held ss p, plain)
unfolding flags_fault bundle_met
bundle_plain flags zero ss p h = refl
bundle_plain flags (suc k) ss p h = go (slice_get (chars flags) 0) h
  where
    go : (o : Option ℕ) → bundle_step_fault rules false o flags 0 (held ss p) (flags_fault rules false k) ≡ []
        → bundle_step rules o flags 0 plain (held ss p) (bundle_met rules k) ≡ (held ss p, plain)
    go None e = refl
    go (Some x) e = cc

pub plain_is : (F : Option Text) (waiting : Waiting) (w : Text) (ss : List Said) (p : Pend) → plain_fault F (held ss p) ≡ []
    → plain_met F waiting w (held ss p) ≡ plain_word rules waiting w (held ss p)
plain_is None waiting w ss p h = refl
plain_is (Some flags) waiting w ss p h = ap (λ (m : Held × Outcome). after_flag rules waiting w m.0 m.1) (bundle_plain flags (length flags) ss p h)

abbrev plain_step : Held × Step → Text → List Said → Pend → ℕ → Walk
plain_step m w ss p n = after_step rules w (walk_at ss p n) m.0 m.1

-- the value of an option
pub value_turn : (o : Choice) (F : Option Text) (ss : List Said) (n : ℕ) (w : Text) → plain_fault F (held ss (unmet o)) ≡ []
    → turn_by false None F ss (unmet o) n w ≡ []
value_turn budget F ss n w h = ap₂ (λ (f : Kinds) (m : Held × Step). or_else f (step_fault shape n m.0 m.1)) h (plain_is F (waits (unmet budget)) w ss (unmet budget) h)
value_turn workers F ss n w h = ap₂ (λ (f : Kinds) (m : Held × Step). or_else f (step_fault shape n m.0 m.1)) h (plain_is F (waits (unmet workers)) w ss (unmet workers) h)

pub value_walk : (o : Choice) (F : Option Text) (ss : List Said) (n : ℕ) (w : Text) → plain_fault F (held ss (unmet o)) ≡ []
    → walk_by false None F ss (unmet o) n w ≡ walk_at ss (full (opt o) w) n
value_walk budget F ss n w h = ap (λ m. plain_step m w ss (unmet budget) n) (plain_is F (waits (unmet budget)) w ss (unmet budget) h)
value_walk workers F ss n w h = ap (λ m. plain_step m w ss (unmet workers) n) (plain_is F (waits (unmet workers)) w ss (unmet workers) h)

-- past the second place there is none
no_place : (i : ℕ) (h : Held) → 2 < i → step_fault shape i h walks.value ≡ [] → ⊥
no_place i h lt e = go (nat_eq 1 i) (nat_eq 2 i) (ne_eqb 1 i (omega arith)) (ne_eqb 2 i (omega arith)) e
  where
    go : (a b : Bool) → a ≡ false → b ≡ false → option_map_or (λ (x : Rule). Rattle.clap.specs.Faults.positional_fault rules false x h) (cond a (Some (mode_rule)) (cond b (Some count_rule) None)) (UnknownArgument ∷ []) ≡ [] → ⊥
    go true b na nb f = absurd (true≢false na)
    go false true na nb f = absurd (true≢false nb)
    go false false na nb f = cc

-- a word for a place
abbrev pub NotUnmet : Pend → Type 0
NotUnmet none = Unit {0}
NotUnmet (unmet o) = ⊥
NotUnmet (full s t) = Unit {0}

abbrev idle_turn : Kinds → Held × Step → ℕ → Kinds
idle_turn f m n = or_else f (step_fault shape n m.0 m.1)

pub place_turn_1 : (F : Option Text) (ss : List Said) (p : Pend) (w : Text) → NotUnmet p → plain_fault F (held ss p) ≡ []
    → turn_by false None F ss p 1 w ≡ settle_fault rules false (held ss p)
place_turn_1 F ss none w q h = ap₂ (λ f m. idle_turn f m 1) h (plain_is F idle w ss none h)
place_turn_1 F ss (full mode t) w q h = ap₂ (λ f m. idle_turn f m 1) h (plain_is F idle w ss (full mode t) h)
place_turn_1 F ss (full count t) w q h = ap₂ (λ f m. idle_turn f m 1) h (plain_is F idle w ss (full count t) h)
place_turn_1 F ss (full (opt budget) t) w q h = ap₂ (λ f m. idle_turn f m 1) h (plain_is F idle w ss (full (opt budget) t) h)
place_turn_1 F ss (full (opt workers) t) w q h = ap₂ (λ f m. idle_turn f m 1) h (plain_is F idle w ss (full (opt workers) t) h)
place_turn_1 F ss (unmet o) w q h = absurd q

pub place_turn_2 : (F : Option Text) (ss : List Said) (p : Pend) (w : Text) → NotUnmet p → plain_fault F (held ss p) ≡ []
    → turn_by false None F ss p 2 w ≡ settle_fault rules false (held ss p)
place_turn_2 F ss none w q h = ap₂ (λ f m. idle_turn f m 2) h (plain_is F idle w ss none h)
place_turn_2 F ss (full mode t) w q h = ap₂ (λ f m. idle_turn f m 2) h (plain_is F idle w ss (full mode t) h)
place_turn_2 F ss (full count t) w q h = ap₂ (λ f m. idle_turn f m 2) h (plain_is F idle w ss (full count t) h)
place_turn_2 F ss (full (opt budget) t) w q h = ap₂ (λ f m. idle_turn f m 2) h (plain_is F idle w ss (full (opt budget) t) h)
place_turn_2 F ss (full (opt workers) t) w q h = ap₂ (λ f m. idle_turn f m 2) h (plain_is F idle w ss (full (opt workers) t) h)
place_turn_2 F ss (unmet o) w q h = absurd q

-- where there is no place left
pub place_turn_3 : (F : Option Text) (ss : List Said) (p : Pend) (k : ℕ) (w : Text) → NotUnmet p → plain_fault F (held ss p) ≡ []
    → turn_by false None F ss p (suc (suc (suc k))) w ≡ [] → ⊥
place_turn_3 F ss none k w q h e = no_place (suc (suc (suc k))) (held ss none) (omega arith) (sym (ap₂ (λ f m. idle_turn f m (suc (suc (suc k)))) h (plain_is F idle w ss none h)) ∙ e)
place_turn_3 F ss (full s t) k w q h e = no_place (suc (suc (suc k))) (held ss (full s t)) (omega arith) (sym (ap₂ (λ f m. idle_turn f m (suc (suc (suc k)))) h (plain_is F idle w ss (full s t) h)) ∙ e)
place_turn_3 F ss (unmet o) k w q h e = absurd q

abbrev pushed_to : Slot → ℕ → Text → Held → Walk
pushed_to s n w h = record { held = record h { pending = Some (id s, w ∷ []) }; waiting = idle; position = n; is_trailing = false; stopped = None }

pub place_walk_1 : (F : Option Text) (ss xs : List Said) (p : Pend) (w : Text) → NotUnmet p → plain_fault F (held ss p) ≡ []
    → settled rules (held ss p) ≡ held xs none → walk_by false None F ss p 1 w ≡ walk_at xs (full mode w) 2
place_walk_1 F ss xs none w q h e = ap (λ m. plain_step m w ss none 1) (plain_is F idle w ss none h) ∙ ap (pushed_to mode 2 w) e
place_walk_1 F ss xs (full mode t) w q h e = ap (λ m. plain_step m w ss (full mode t) 1) (plain_is F idle w ss (full mode t) h) ∙ ap (pushed_to mode 2 w) e
place_walk_1 F ss xs (full count t) w q h e = ap (λ m. plain_step m w ss (full count t) 1) (plain_is F idle w ss (full count t) h) ∙ ap (pushed_to mode 2 w) e
place_walk_1 F ss xs (full (opt budget) t) w q h e = ap (λ m. plain_step m w ss (full (opt budget) t) 1) (plain_is F idle w ss (full (opt budget) t) h) ∙ ap (pushed_to mode 2 w) e
place_walk_1 F ss xs (full (opt workers) t) w q h e = ap (λ m. plain_step m w ss (full (opt workers) t) 1) (plain_is F idle w ss (full (opt workers) t) h) ∙ ap (pushed_to mode 2 w) e
place_walk_1 F ss xs (unmet o) w q h e = absurd q

pub place_walk_2 : (F : Option Text) (ss xs : List Said) (p : Pend) (w : Text) → NotUnmet p → plain_fault F (held ss p) ≡ []
    → settled rules (held ss p) ≡ held xs none → walk_by false None F ss p 2 w ≡ walk_at xs (full count w) 3
place_walk_2 F ss xs none w q h e = ap (λ m. plain_step m w ss none 2) (plain_is F idle w ss none h) ∙ ap (pushed_to count 3 w) e
place_walk_2 F ss xs (full mode t) w q h e = ap (λ m. plain_step m w ss (full mode t) 2) (plain_is F idle w ss (full mode t) h) ∙ ap (pushed_to count 3 w) e
place_walk_2 F ss xs (full count t) w q h e = ap (λ m. plain_step m w ss (full count t) 2) (plain_is F idle w ss (full count t) h) ∙ ap (pushed_to count 3 w) e
place_walk_2 F ss xs (full (opt budget) t) w q h e = ap (λ m. plain_step m w ss (full (opt budget) t) 2) (plain_is F idle w ss (full (opt budget) t) h) ∙ ap (pushed_to count 3 w) e
place_walk_2 F ss xs (full (opt workers) t) w q h e = ap (λ m. plain_step m w ss (full (opt workers) t) 2) (plain_is F idle w ss (full (opt workers) t) h) ∙ ap (pushed_to count 3 w) e
place_walk_2 F ss xs (unmet o) w q h e = absurd q
