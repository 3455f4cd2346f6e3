-- Where clap's walk stands between two words, by what the words before it say.
use Rattle.std.proofs.Common.{◌≡◌, ◌∙◌, ◌+◌, ◌&&◌, ◌||◌, ℕ, Bool, cond, codes, true, false, zero, suc, refl, sym, ap, arith, List, [], ◌∷◌, ◌++◌, length, Option, Some, None, true≢false}
use Rattle.std.proofs.lemmas.List.{append-nil}
use Rattle.std.specs.Str.{bytes_eq}
use Rattle.clap.specs.Walk.{Held, Names, Row, Rule, Text, Waiting, idle, Walk, has_row, settled, at_row, without, with_values}
use Rattle.clap.specs.Walk as walks
use Rattle.clap.specs.Simple.{Shape, built}
use Rattle.clap.specs.Kinds.{Kinds, or_else}
use Rattle.clap.specs.Faults.{settle_fault}
use Rattle.clap.specs.declared.error.kind.ErrorKind.TheVariants.{ArgumentConflict}
use Rattle.clap.specs.declared.builder.value_parser.Reading.TheVariants as reading
use Rattle.clap.specs.declared.parser.matches.ValueSource.TheVariants.{CommandLine}
use Rattle.ff_words.specs.App.{app}
use Rattle.ff_words.specs.Form.{Choice, budget, workers, Said, option, word, others, values}

abbrev pub shape : Shape
shape = (built app).top

abbrev pub rules : List Rule
rules = shape.rules

pub data Slot : Type 0 where
  mode : Slot
  count : Slot
  opt : Choice → Slot

abbrev pub id : Slot → Text
id mode = codes "mode"
id count = codes "count"
id (opt budget) = codes "budget"
id (opt workers) = codes "workers"

abbrev pub said_of : Slot → Text → Said
said_of mode t = word t
said_of count t = word t
said_of (opt o) t = option o t

abbrev pub row : Text → Text → Row
row i t = record { id = i; values = t ∷ []; count = None; source = Some CommandLine; reading = reading.AsWritten }

abbrev pub place : ℕ → Slot
place zero = mode
place (suc n) = count

-- the rows of what was said, where n words stand before
abbrev pub rows_from : ℕ → List Said → List Row
rows_from n [] = []
rows_from n (option o v ∷ ss) = row (id (opt o)) v ∷ rows_from n ss
rows_from n (word w ∷ ss) = row (id (place n)) w ∷ rows_from (suc n) ss

abbrev pub rows : List Said → List Row
rows = rows_from 0

-- nothing is pending, an option that wants its value, or what was said last
pub data Pend : Type 0 where
  none : Pend
  unmet : Choice → Pend
  full : Slot → Text → Pend

abbrev pub pending : Pend → Option (Text × List Text)
pending none = None
pending (unmet o) = Some (id (opt o), [])
pending (full s t) = Some (id s, t ∷ [])

abbrev pub waits : Pend → Waiting
waits none = idle
waits (unmet o) = walks.option (id (opt o))
waits (full s t) = idle

abbrev pub wanted : Pend → Option Choice
wanted none = None
wanted (unmet o) = Some o
wanted (full s t) = None

-- what was said, the pending use too
abbrev pub done : List Said → Pend → List Said
done ss none = ss
done ss (unmet o) = ss
done ss (full s t) = ss ++ said_of s t ∷ []

abbrev pub held : List Said → Pend → Held
held ss p = record { rows = rows ss; pending = pending p; skip = 0 }

abbrev pub walk_at : List Said → Pend → ℕ → Walk
walk_at ss p n = record { held = held ss p; waiting = waits p; position = n; is_trailing = false; stopped = None }

-- ---- rows

pub at_end : (i : Text) (change : Row → List Row) (missing rs : List Row) → has_row i rs ≡ false → at_row i change missing rs ≡ rs ++ missing
at_end i change missing [] h = refl
at_end i change missing (r ∷ rs) h = go (bytes_eq r.id i) h (at_end i change missing rs)
  where
    go : (b : Bool) → (b || has_row i rs) ≡ false → (has_row i rs ≡ false → at_row i change missing rs ≡ rs ++ missing)
        → cond b (change r ++ rs) (r ∷ at_row i change missing rs) ≡ r ∷ (rs ++ missing)
    go true e next = absurd (true≢false e)
    go false e next = ap (λ (xs : List Row). r ∷ xs) (next e)

pub used_at : (i t : Text) (rs : List Row) → has_row i rs ≡ false
    → with_values i reading.AsWritten CommandLine (t ∷ []) (without i rs) ≡ rs ++ row i t ∷ []
used_at i t rs h =
    let same : without i rs ≡ rs = at_end i (λ _. []) [] rs h ∙ append-nil rs in
    ap (with_values i reading.AsWritten CommandLine (t ∷ [])) same ∙ at_end i (walks.more_values CommandLine (t ∷ [])) _ rs h

-- the slot is where the next word goes
abbrev pub Fits : List Said → Slot → Type 0
Fits ss mode = length (others ss) ≡ 0
Fits ss count = length (others ss) ≡ 1
Fits ss (opt o) = Unit {0}

pub rows_more : (n k : ℕ) (ss : List Said) (x : Said) → k ≡ length (others ss) + n → rows_from n (ss ++ x ∷ []) ≡ rows_from n ss ++ rows_from k (x ∷ [])
rows_more n k [] x h = let e : n ≡ k = omega arith in ap (λ (j : ℕ). rows_from j (x ∷ [])) e
rows_more n k (option o v ∷ ss) x h = ap (λ (rs : List Row). row (id (opt o)) v ∷ rs) (rows_more n k ss x h)
rows_more n k (word w ∷ ss) x h = ap (λ (rs : List Row). row (id (place n)) w ∷ rs) (rows_more (suc n) k ss x (omega arith))

pub rows_snoc : (ss : List Said) (s : Slot) (t : Text) → Fits ss s → rows (ss ++ said_of s t ∷ []) ≡ rows ss ++ row (id s) t ∷ []
rows_snoc ss mode t h = rows_more 0 0 ss (word t) (omega arith)
rows_snoc ss count t h = rows_more 0 1 ss (word t) (omega arith)
rows_snoc ss (opt o) t h = rows_more 0 (length (others ss) + 0) ss (option o t) refl

-- ---- settling

abbrev repeats : Bool → Kinds
repeats b = or_else (cond (b && true) (ArgumentConflict ∷ []) []) []

pub not_repeated : (b : Bool) → repeats b ≡ [] → b ≡ false
not_repeated true h = cc
not_repeated false h = refl

pub settle_free : (ss : List Said) (s : Slot) (t : Text) → settle_fault rules false (held ss (full s t)) ≡ [] → has_row (id s) (rows ss) ≡ false
settle_free ss mode t h = not_repeated _ h
settle_free ss count t h = not_repeated _ h
settle_free ss (opt budget) t h = not_repeated _ h
settle_free ss (opt workers) t h = not_repeated _ h

pub settle_none : (ss : List Said) (s : Slot) (t : Text) → has_row (id s) (rows ss) ≡ false → settle_fault rules false (held ss (full s t)) ≡ []
settle_none ss mode t h = ap repeats h
settle_none ss count t h = ap repeats h
settle_none ss (opt budget) t h = ap repeats h
settle_none ss (opt workers) t h = ap repeats h

abbrev with_rows : List Row → Held
with_rows rs = record { rows = rs; pending = None; skip = 0 }

pub settled_is : (ss : List Said) (s : Slot) (t : Text) → has_row (id s) (rows ss) ≡ false → Fits ss s → settled rules (held ss (full s t)) ≡ held (ss ++ said_of s t ∷ []) none
settled_is ss mode t h f = ap with_rows (used_at (id mode) t (rows ss) h ∙ sym (rows_snoc ss mode t f))
settled_is ss count t h f = ap with_rows (used_at (id count) t (rows ss) h ∙ sym (rows_snoc ss count t f))
settled_is ss (opt budget) t h f = ap with_rows (used_at (id (opt budget)) t (rows ss) h ∙ sym (rows_snoc ss (opt budget) t f))
settled_is ss (opt workers) t h f = ap with_rows (used_at (id (opt workers)) t (rows ss) h ∙ sym (rows_snoc ss (opt workers) t f))

pub unmet_fails : (ss : List Said) (o : Choice) → settle_fault rules false (held ss (unmet o)) ≡ [] → ⊥
unmet_fails ss budget h = cc
unmet_fails ss workers h = cc

abbrev pub FitsPend : List Said → Pend → Type 0
FitsPend ss none = Unit {0}
FitsPend ss (unmet o) = Unit {0}
FitsPend ss (full s t) = Fits ss s

-- a pending use settles where it fails by nothing
pub settles : (ss : List Said) (p : Pend) → FitsPend ss p → settle_fault rules false (held ss p) ≡ [] → settled rules (held ss p) ≡ held (done ss p) none
settles ss none f h = refl
settles ss (unmet o) f h = absurd (unmet_fails ss o h)
settles ss (full s t) f h = settled_is ss s t (settle_free ss s t h) f

-- ---- what rows there are

abbrev pub nonempty : List Text → Bool
nonempty [] = false
nonempty (t ∷ ts) = true

pub has_values : (o : Choice) (n : ℕ) (ss : List Said) → has_row (id (opt o)) (rows_from n ss) ≡ nonempty (values o ss)
has_values o n [] = refl
has_values budget n (option budget v ∷ ss) = refl
has_values budget n (option workers v ∷ ss) = has_values budget n ss
has_values workers n (option budget v ∷ ss) = has_values workers n ss
has_values workers n (option workers v ∷ ss) = refl
has_values budget zero (word w ∷ ss) = has_values budget 1 ss
has_values workers zero (word w ∷ ss) = has_values workers 1 ss
has_values budget (suc n) (word w ∷ ss) = has_values budget (suc (suc n)) ss
has_values workers (suc n) (word w ∷ ss) = has_values workers (suc (suc n)) ss

pub no_mode : (ss : List Said) → length (others ss) ≡ 0 → has_row (id mode) (rows ss) ≡ false
no_mode [] h = refl
no_mode (option budget v ∷ ss) h = no_mode ss h
no_mode (option workers v ∷ ss) h = no_mode ss h
no_mode (word w ∷ ss) h = absurd (omega arith)

pub no_count_after : (n : ℕ) (ss : List Said) → length (others ss) ≡ 0 → has_row (id count) (rows_from n ss) ≡ false
no_count_after n [] h = refl
no_count_after n (option budget v ∷ ss) h = no_count_after n ss h
no_count_after n (option workers v ∷ ss) h = no_count_after n ss h
no_count_after n (word w ∷ ss) h = absurd (omega arith)

pub no_count : (ss : List Said) → length (others ss) ≡ 1 → has_row (id count) (rows ss) ≡ false
no_count [] h = refl
no_count (option budget v ∷ ss) h = no_count ss h
no_count (option workers v ∷ ss) h = no_count ss h
no_count (word w ∷ ss) h = no_count_after 1 ss (omega arith)
