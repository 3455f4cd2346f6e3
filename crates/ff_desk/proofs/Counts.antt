-- How many entries a journal has.
use Rattle.std.proofs.Common.{cond, ◌≡◌, ℕ, zero, suc, ◌+◌, ◌*◌, ◌<◌, ◌≤◌, ◌==◌, ◌≢◌, ◌&&◌, Bool, true, false, List, [], ◌∷◌, ◌++◌, length, get_or, filter_map, if◌then◌else◌, refl, sym, ap, ◌∙◌, subst, arith, Option, Some, None, eq-eqb, ne_eqb, ⊎_elim, ◌⊎◌}
use Rattle.std.proofs.lemmas.Bool.{cases_lt}
use Rattle.ff_desk.specs.Views.{total}
use mathlib.Core.Logic.{dite}
use native.Mathlib.Decide.{ℕ_discrete}
use Rattle.ff_viewer.specs.declared.commands.Command.{Command}
use Rattle.ff_viewer.specs.declared.replies.Reply.{Reply}
use Rattle.ff_journal.specs.declared.entries.Entry.{Entry}
use Rattle.ff_journal.specs.declared.entries.Entry.TheVariants as entry
use Rattle.ff_journal.specs.Epochs.{is_change, changes, last_begun}
use Rattle.ff_journal.specs.Publications.{published}
use Rattle.ff_journal.specs.Journals.{commands_of}

abbrev pub count : ℕ → List Entry → ℕ
count v j = length (commands_of v j)

-- the entries of viewers
abbrev pub said : List Entry → ℕ
said [] = 0
said (entry.Said viewer index command reply ∷ es) = 1 + said es
said (entry.Published e outcome ∷ es) = said es

-- the entries of the viewers below n
abbrev pub belows : ℕ → List Entry → ℕ
belows zero j = 0
belows (suc n) j = belows n j + count n j

pub whole_is : (j : List Entry) → length j ≡ said j + published j
whole_is [] = refl
whole_is (entry.Said viewer index command reply ∷ es) = let h = whole_is es in omega arith
whole_is (entry.Published e outcome ∷ es) = let h = whole_is es in omega arith

pub begun_few : (j : List Entry) → last_begun j ≤ said j
begun_few [] = omega arith
begun_few (entry.Said viewer index command reply ∷ es) = by (is_change (entry.Said viewer index command reply)) (begun_few es)
  where
    by : (b : Bool) → last_begun es ≤ said es → length (cond b (entry.Said viewer index command reply ∷ changes es) (changes es)) ≤ 1 + said es
    by true l = omega (arith, l)
    by false l = omega (arith, l)
begun_few (entry.Published e outcome ∷ es) = begun_few es

-- how many entries the viewers below n may make
abbrev pub sums : ℕ → List ℕ → ℕ
sums zero lengths = 0
sums (suc n) lengths = sums n lengths + get_or lengths n 0

pub sums_more : (n x : ℕ) (xs : List ℕ) → sums (suc n) (x ∷ xs) ≡ x + sums n xs
sums_more zero x xs = omega arith
sums_more (suc n) x xs = let h = sums_more n x xs in omega arith

pub sums_all : (xs : List ℕ) → sums (length xs) xs ≡ total xs
sums_all [] = refl
sums_all (x ∷ xs) = sums_more (length xs) x xs ∙ ap (λ n. x + n) (sums_all xs)

pub count_same : (v w i : ℕ) (c : Command) (r : Reply) (es : List Entry) → w ≡ v → count v (entry.Said w i c r ∷ es) ≡ 1 + count v es
count_same v w i c r es e = rw (eq-eqb w v e) (omega arith)

pub count_other : (v w i : ℕ) (c : Command) (r : Reply) (es : List Entry) → w ≢ v → count v (entry.Said w i c r ∷ es) ≡ count v es
count_other v w i c r es n = rw (ne_eqb w v n) refl

pub count_tail : (v : ℕ) (x : Entry) (es : List Entry) → count v es ≤ count v (x ∷ es)
count_tail v (entry.Said w i c r) es = dite (ℕ_discrete w v)
    (λ e. let h = count_same v w i c r es e in omega arith)
    (λ n. let h = count_other v w i c r es n in omega arith)
count_tail v (entry.Published e outcome) es = omega arith

belows_tail : (n : ℕ) (x : Entry) (es : List Entry) → belows n es ≤ belows n (x ∷ es)
belows_tail zero x es = omega arith
belows_tail (suc n) x es = let h = belows_tail n x es in let t = count_tail n x es in omega arith

belows_said : (n w i : ℕ) (c : Command) (r : Reply) (es : List Entry) → w < n → 1 + belows n es ≤ belows n (entry.Said w i c r ∷ es)
belows_said zero w i c r es h = absurd (omega (arith, h))
belows_said (suc n) w i c r es h = dite (ℕ_discrete w n)
    (λ e. let a = count_same n w i c r es e in let b = belows_tail n (entry.Said w i c r) es in omega arith)
    (λ d. let a = belows_said n w i c r es (omega (arith, h, d)) in let b = count_tail n (entry.Said w i c r) es in omega arith)

-- no viewer from n on has an entry
abbrev pub NoneFrom : ℕ → List Entry → Type 0
NoneFrom n j = (v : ℕ) → n ≤ v → count v j ≡ 0

none_tail : (n : ℕ) (x : Entry) (es : List Entry) → NoneFrom n (x ∷ es) → NoneFrom n es
none_tail n x es h v le = let a = h v le in let b = count_tail v x es in omega arith

pub said_few : (n : ℕ) (j : List Entry) → NoneFrom n j → said j ≤ belows n j
said_few n [] h = omega arith
said_few n (entry.Said w i c r ∷ es) h = let t = said_few n es (none_tail n (entry.Said w i c r) es h) in
    ⊎_elim
    (λ l. let a = belows_said n w i c r es l in omega arith)
    (λ l. absurd (let a = h w l in let b = count_same w w i c r es refl in omega arith))
    (cases_lt w n)
said_few n (entry.Published e outcome ∷ es) h = let t = said_few n es (none_tail n (entry.Published e outcome) es h) in let b = belows_tail n (entry.Published e outcome) es in omega arith

belows_sums : (n : ℕ) (lengths : List ℕ) (j : List Entry) → ((v : ℕ) → count v j ≤ get_or lengths v 0) → belows n j ≤ sums n lengths
belows_sums zero lengths j h = omega arith
belows_sums (suc n) lengths j h = let a = belows_sums n lengths j h in let b = h n in omega arith

past : (lengths : List ℕ) (v : ℕ) → length lengths ≤ v → get_or lengths v 0 ≡ 0
past [] v h = refl
past (x ∷ xs) zero h = absurd (omega (arith, h))
past (x ∷ xs) (suc v) h = past xs v (omega (arith, h))

-- so a journal within the lengths, with publications in order, has few entries
pub few : (lengths : List ℕ) (j : List Entry) → ((v : ℕ) → count v j ≤ get_or lengths v 0) → published j ≤ last_begun j + 1
    → (last_begun j ≤ total lengths) × (published j ≤ total lengths + 1) × (length j ≤ 2 * total lengths + 1)
few lengths j within order =
    let a = said_few (length lengths) j (λ v le. let w = within v in let p = past lengths v le in omega arith) in
    let b = belows_sums (length lengths) lengths j within in let c = sums_all lengths in let d = begun_few j in let e = whole_is j in
    (omega arith, omega arith, omega arith)
