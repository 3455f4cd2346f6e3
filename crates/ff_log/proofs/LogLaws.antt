-- The laws of logs, text by text.
use Rattle.std.proofs.Common.{◌≡◌, ◌∙◌, ◌<◌, ◌≤◌, ℕ, suc, zero, refl, sym, ap, ap₂, subst, arith, List, [], ◌∷◌, length, map, take, get_or, Option, Some, None, Result, Ok, Err, IfOk, IfErr}
use Rattle.std.specs.Prelude.{slice_index_or}
use Rattle.std.specs.List.{All}
use Rattle.ff_log.specs.declared.logs.Log.{Log}
use Rattle.ff_log.specs.declared.logs.LogLine.{LogLine}
use Rattle.ff_log.specs.declared.reading.LogNo.{LogNo}
use Rattle.ff_log.specs.declared.reading.LogNo.TheVariants as no
use Rattle.ff_log.specs.Logs.{HasSmallLine}
use Rattle.ff_log.specs.Spelling.{IsLine, spelling}
use Rattle.ff_log.specs.Reading.{line_of}
use Rattle.ff_log.specs.Texts.{AreNoLog, Gives, IsFirstBad, IsSpelled, SpellLines}
use Rattle.ff_log.proofs.LineLaws.{line_again, line_small, line_sound}

abbrev Texts : Type 0
Texts = List (List ℕ)

-- each text is read as the line of its place
abbrev pub AreRead : Texts → List LogLine → Type 0
AreRead ts ls = map (λ t. line_of t) ts ≡ map (λ l. Some l) ls

pub none_spells : (t : List ℕ) → line_of t ≡ None → IsSpelled t → ⊥
none_spells t h s = let e = line_again s.0 s.1 in let f = ap line_of s.2 in cc

pub some_spells : (t : List ℕ) (l : LogLine) → line_of t ≡ Some l → IsSpelled t
some_spells t l h = let s = line_sound t l h in (l, s.0, s.1)

all_more : (P : LogLine → Type 0) (l : LogLine) (ls : List LogLine) → P l → All P ls → (k : ℕ) (d : LogLine) → k < length (l ∷ ls) → P (slice_index_or (l ∷ ls) k d)
all_more P l ls p h zero d lt = p
all_more P l ls p h (suc k) d lt = h k d (omega (arith, lt))

pub all_sound : (ts : Texts) (ls : List LogLine) → AreRead ts ls → SpellLines ts ls
all_sound [] [] h = record { are_lines = λ k d lt. absurd (omega (arith, lt)); are_spelled = refl }
all_sound [] (l ∷ ls) h = cc
all_sound (t ∷ ts) [] h = cc
all_sound (t ∷ ts) (l ∷ ls) h =
    let here : line_of t ≡ Some l = cc in
    let there : AreRead ts ls = cc in
    let s = line_sound t l here in
    let r = all_sound ts ls there in
    record {
      are_lines = all_more IsLine l ls s.0 r.are_lines;
      are_spelled = ap₂ (λ (x : List ℕ) (xs : Texts). x ∷ xs) s.1 r.are_spelled;
    }

pub all_again : (ls : List LogLine) → All IsLine ls → AreRead (map spelling ls) ls
all_again [] a = refl
all_again (l ∷ ls) a =
    ap₂ (λ (o : Option LogLine) (os : List (Option LogLine)). o ∷ os) (line_again l (a 0 l (omega arith))) (all_again ls (λ k d lt. a (suc k) d (omega (arith, lt))))

pub as_many : (ts : Texts) (ls : List LogLine) → AreRead ts ls → length ls ≡ length ts
as_many [] [] h = refl
as_many [] (l ∷ ls) h = cc
as_many (t ∷ ts) [] h = cc
as_many (t ∷ ts) (l ∷ ls) h = let there : AreRead ts ls = cc in ap suc (as_many ts ls there)

pub all_small : (ls : List LogLine) → All IsLine ls → All HasSmallLine ls
all_small ls a = λ k d lt. line_small (slice_index_or ls k d) (a k d lt)

before : (ts : Texts) (ls : List LogLine) (i k : ℕ) → AreRead (take i ts) ls → k < i → i ≤ length ts → IsSpelled (get_or ts k [])
before [] ls i k h lt le = absurd (omega (arith, lt, le))
before (t ∷ ts) ls zero k h lt le = absurd (omega (arith, lt))
before (t ∷ ts) [] (suc i) k h lt le = cc
before (t ∷ ts) (l ∷ ls) (suc i) zero h lt le = let here : line_of t ≡ Some l = cc in some_spells t l here
before (t ∷ ts) (l ∷ ls) (suc i) (suc k) h lt le = let there : AreRead (take i ts) ls = cc in before ts ls i k there (omega (arith, lt)) (omega (arith, le))

there_is : (ts : Texts) (i : ℕ) (d e : List ℕ) → i < length ts → get_or ts i d ≡ get_or ts i e
there_is [] i d e lt = absurd (omega (arith, lt))
there_is (t ∷ ts) zero d e lt = refl
there_is (t ∷ ts) (suc i) d e lt = there_is ts i d e (omega (arith, lt))

pub first_bad : (ts : Texts) (ls : List LogLine) (i : ℕ) (t : List ℕ) → AreRead (take i ts) ls → i < length ts → t ≡ get_or ts i t → None ≡ line_of t → IsFirstBad ts i
first_bad ts ls i t h lt is none =
    let here : get_or ts i [] ≡ t = there_is ts i [] t lt ∙ sym is in
    record {
      within = lt;
      bad = λ s. none_spells t (sym none) (subst IsSpelled here s);
      before = λ k below. before ts ls i k h below (omega (arith, lt));
    }

same_items : (ls ks : List LogLine) → map (λ l. Some l) ls ≡ map (λ l. Some l) ks → ls ≡ ks
same_items [] [] h = refl
same_items [] (k ∷ ks) h = cc
same_items (l ∷ ls) [] h = cc
same_items (l ∷ ls) (k ∷ ks) h =
    let rest : map (λ l. Some l) ls ≡ map (λ l. Some l) ks = cc in let here : l ≡ k = cc in let there = same_items ls ks rest in cc

spelled : (ls : List LogLine) → All IsLine ls → (k : ℕ) → k < length (map spelling ls) → IsSpelled (get_or (map spelling ls) k [])
spelled [] a k lt = absurd (omega (arith, lt))
spelled (l ∷ ls) a zero lt = (l, a 0 l (omega arith), refl)
spelled (l ∷ ls) a (suc k) lt = spelled ls (λ j d below. a (suc j) d (omega (arith, below))) k (omega (arith, lt))

-- the texts of lines are read as these
pub same_lines : (ts : Texts) (ls ks : List LogLine) → AreRead ts ls → All IsLine ks → ts ≡ map spelling ks → ls ≡ ks
same_lines ts ls ks h a e = same_items ls ks (sym h ∙ ap (map (λ t. line_of t)) e ∙ all_again ks a)

-- and none of them is bad
pub none_bad : (ts : Texts) (ks : List LogLine) (i : ℕ) → IsFirstBad ts i → All IsLine ks → ts ≡ map spelling ks → ⊥
none_bad ts ks i b a e = b.bad (subst (λ (xs : Texts). IsSpelled (get_or xs i [])) (sym e) (spelled ks a i (subst (λ (xs : Texts). i < length xs) e b.within)))

-- so these lines and no others are given
pub gives_only : (ts : Texts) (r : Result Log LogNo) (ls : List LogLine) → IfOk r (λ log. AreRead ts log.lines) → IfErr r (λ no. AreNoLog ts no) → All IsLine ls → ts ≡ map spelling ls → Gives ls r
gives_only ts (Ok log) ls h g a e = same_lines ts log.lines ls h a e
gives_only ts (Err no.NoMemory) ls h g a e = tt
gives_only ts (Err (no.BadLog i)) ls h g a e = none_bad ts ls i g a e
