-- What is read of the bytes of `check`, and why they are refused.
use Rattle.std.proofs.Common.{◌≡◌, inl, inr, ℕ, ◌≤◌, Bool, true, false, List, length, Option, Some, None, Result, Ok, Err, IfErr, IfOk, MatchResult, if◌then◌else◌, nat_le, codes, option_and_then, refl, subst, arith}
use Rattle.std.proofs.lemmas.Bool.{leb-true}
use Rattle.serde_json.specs.Find.{get}
use Rattle.ff_types.specs.declared.refusals.No.{No}
use Rattle.ff_types.specs.declared.refusals.No.TheVariants as no
use Rattle.ff_read.specs.Spelling.{point_of, list_of}
use Rattle.ff_read.specs.declared.checks.CheckInput.{CheckInput}
use Rattle.ff_read.specs.Checks.{IsCheck, IsNoCheck}
use Rattle.ff_read.proofs.Lists.{as_many}
use Rattle.ff_judged.specs.declared.sheets.FoldedSheet.{FoldedSheet}
use Rattle.ff_types.specs.FoldedPatterns.{IsFoldedPattern}
use Rattle.ff_judged.specs.declared.judging.TheConstants.{MOST_CHECK_BYTES}
use Rattle.ff_judged.specs.Sheets.{WhyNotFolded}
use Rattle.ff_judged.specs.Judgements.{WhyNotJudged}

-- a pattern that was read has three vertices at least
three_of : {A : Type 0} (o : Option (List A)) (ds : List A) → option_and_then (λ xs. if nat_le 3 (length xs) then Some xs else None) o ≡ Some ds → 3 ≤ length ds
three_of None ds e = absurd (none_some e) where
  none_some : None ≡ Some ds → ⊥
  none_some q = cc
three_of {A} (Some xs) ds e = by (nat_le 3 (length xs)) refl e where
  by : (b : Bool) → nat_le 3 (length xs) ≡ b → (if b then Some xs else None) ≡ Some ds → 3 ≤ length ds
  by true p q = let same : xs ≡ ds = cc in subst (λ ys. 3 ≤ length ys) same (leb-true 3 (length xs) p)
  by false p q = absurd (none_some q) where
    none_some : None ≡ Some ds → ⊥
    none_some x = cc

has_vertices : (bytes : List ℕ) (input : CheckInput) → IsCheck bytes input → 1 ≤ length input.pattern.points
has_vertices bytes input read =
    let three = three_of (option_and_then list_of (get (codes "vertices_coords") read.is.members.fold)) read.is.keys.vertices read.is.members.keyed.vertices in
    let same = as_many point_of read.is.keys.vertices input.pattern.points read.is.spelled.points in
    omega (arith, three, same)

pub read_some : (bytes : List ℕ) (r : Result CheckInput No) → MatchResult r (IsCheck bytes) (IsNoCheck bytes) → IfOk r (λ input. 1 ≤ length input.pattern.points)
read_some bytes (Ok input) h = has_vertices bytes input h
read_some bytes (Err n) h = tt

why_unread : (bytes : List ℕ) → length bytes ≤ MOST_CHECK_BYTES → (n : No) → IsNoCheck bytes n → WhyNotJudged bytes n
why_unread bytes few (no.Refused r) h = inr (few, inl h)
why_unread bytes few no.NoMemory h = tt

pub not_read : (bytes : List ℕ) → length bytes ≤ MOST_CHECK_BYTES → (r : Result CheckInput No) → MatchResult r (IsCheck bytes) (IsNoCheck bytes) → IfErr r (WhyNotJudged bytes)
not_read bytes few (Ok input) h = tt
not_read bytes few (Err n) h = why_unread bytes few n h

why_unfolded : (bytes : List ℕ) → length bytes ≤ MOST_CHECK_BYTES → (input : CheckInput) → IsCheck bytes input → (n : No) → WhyNotFolded input.pattern n → WhyNotJudged bytes n
why_unfolded bytes few input read (no.Refused r) h = inr (few, inr (input, read, h))
why_unfolded bytes few input read no.NoMemory h = tt

pub not_folded : (bytes : List ℕ) → length bytes ≤ MOST_CHECK_BYTES → (input : CheckInput) → IsCheck bytes input → (r : Result FoldedSheet No)
    → MatchResult r (λ s. IsFoldedPattern input.pattern s.faces s.folded) (WhyNotFolded input.pattern) → IfErr r (WhyNotJudged bytes)
not_folded bytes few input read (Ok s) h = tt
not_folded bytes few input read (Err n) h = why_unfolded bytes few input read n h
