-- The scripts of viewers, how many they are and how long.
use Rattle.std.proofs.Common.{◌≡◌, ◌∙◌, ℕ, zero, suc, ◌+◌, ◌*◌, ◌<◌, ◌≤◌, ◌^◌, lit≤, List, [], ◌∷◌, ◌++◌, length, map, take, slice_get, get_or, sum_by, Bor, Some, arith, refl, sym, ap, ap₂, subst, inr}
use Rattle.std.specs.List.{list_all}
use Rattle.std.specs.Option.{is_some}
use Rattle.std.specs.Prelude.{IfOk, MatchResult, Result, Ok, Err}
use Rattle.std.proofs.lemmas.List.{length-map}
use Rattle.std.proofs.lemmas.List.Folds.{list_all-map}
use Rattle.std.proofs.lemmas.List.Sums.{sum_by-cons}
use Rattle.std.proofs.lemmas.Option.{same_Some}
use Rattle.serde_json.specs.Data.{Data}
use Rattle.serde_json.specs.Find.{as_str}
use Rattle.serde_json.specs.View.{view}
use Rattle.serde_json.specs.declared.value.Value.{Value}
use Rattle.ff_types.specs.declared.refusals.No.{No}
use Rattle.ff_types.specs.declared.refusals.No.TheVariants as no
use Rattle.ff_viewer.specs.declared.commands.Command.{Command}
use Rattle.ff_read.specs.declared.benches.BenchInput.{BenchInput}
use Rattle.ff_read.specs.declared.benches.TheConstants.{MOST_VIEWERS}
use Rattle.ff_read.specs.declared.items.ItemNo.{ItemNo}
use Rattle.ff_read.specs.declared.items.ItemNo.TheVariants as item
use Rattle.ff_read.specs.Spelling.{all_of}
use Rattle.ff_read.specs.Read.{IsBadItem}
use Rattle.ff_read.specs.Benches.{AreFew, HaveFew, IsBenchOf, IsNoBenchOf, command_in, commands_in, total}
use Rattle.ff_read.specs.Scripts.{AreFewScripts, AreFewScriptsNot, AreScripts, AreScriptsNot, script_no, seen_lists}
use Rattle.ff_read.proofs.Lists.{as_many}
use Rattle.ff_read.proofs.Members.{bad_none}
use Rattle.ff_read.proofs.Outcomes.{head_and_rest}

-- ---- as many commands as there are items

total_of : (vs : List (List Data)) (xs : List (List Command)) → all_of commands_in vs ≡ Some xs → total xs ≡ total vs
total_of [] xs e = ap total (sym (same_Some [] xs e))
total_of (v ∷ vs) xs e =
    let b = head_and_rest commands_in v vs xs e in
    ap total b.4 ∙ sum_by-cons length b.0 b.1 ∙ ap₂ (λ m n. m + n) (as_many command_in v b.0 b.2) (total_of vs b.1 b.3) ∙ sym (sum_by-cons length v vs)

few_of : (vs : List (List Data)) (xs : List (List Command)) → AreFew vs → all_of commands_in vs ≡ Some xs → AreFew xs
few_of vs xs few e = (omega (arith, as_many commands_in vs xs e, few.0), omega (arith, total_of vs xs e, few.1))

pub ok_few : (d : Data) (r : Result BenchInput No) → MatchResult r (IsBenchOf d) (IsNoBenchOf d) → IfOk r (λ input. AreFew input.scripts)
ok_few d (Ok a) m = few_of m.viewers a.scripts m.few m.scripts
ok_few d (Err e) m = tt

-- ---- lent lists

-- which values are strings, seen as data
pub texts_seen : (vs : List Value) → list_all (λ value. is_some (as_str (view value))) vs ≡ list_all (λ d. is_some (as_str d)) (map view vs)
texts_seen vs = sym (list_all-map (λ d. is_some (as_str d)) view vs)

-- a list, seen as data
pub get_seen : (vs : List (Bor (List Value))) (v : ℕ) (s : Bor (List Value)) → v < length vs → s ≡ get_or vs v s → slice_get (seen_lists vs) v ≡ Some (map view s.now)
get_seen [] v s l e = absurd (omega (arith, l))
get_seen (x ∷ vs) zero s l e = ap (λ (t : Bor (List Value)). Some (map view t.now)) (sym e)
get_seen (x ∷ vs) (suc v) s l e = get_seen vs v s (omega (arith, l)) e

-- a script has fewer than 2^32 items
pub short_at : (vs : List (Bor (List Value))) (v : ℕ) (s : Bor (List Value)) → HaveFew (seen_lists vs) → v < length vs → s ≡ get_or vs v s → length s.now < 2 ^ 32
short_at vs v s few l e = omega (arith, few v (map view s.now) (get_seen vs v s l e), length-map s.now view)

pub lengths_seen : (vs : List (Bor (List Value))) → sum_by (λ (l : Bor (List Value)). length l.now) vs ≡ total (seen_lists vs)
lengths_seen [] = refl
lengths_seen (x ∷ vs) =
    sum_by-cons (λ (l : Bor (List Value)). length l.now) x vs ∙ ap₂ (λ m n. m + n) (sym (length-map x.now view)) (lengths_seen vs)
    ∙ sym (sum_by-cons length (map view x.now) (seen_lists vs))

-- the counts so far fit
pub counts_fit : (n v count k : ℕ) → v < n → n ≤ MOST_VIEWERS → count ≤ v * 2 ^ 32 → k < 2 ^ 32 → count + k < 2 ^ 64
counts_fit n v count k l m c h = let most : MOST_VIEWERS ≤ 64 = lit≤ tt in omega (arith, l, m, c, h, most)

-- ---- why scripts weren't read

pub not_scripts : (vs : List (Bor (List Value))) (v : ℕ) (s : Bor (List Value)) (xs : List (List Command)) (n : ItemNo) (r : No) → v < length vs → s ≡ get_or vs v s → all_of commands_in (take v (seen_lists vs)) ≡ Some xs
    → IsBadItem command_in (map view s.now) n → r ≡ script_no v n → AreScriptsNot (seen_lists vs) r
not_scripts vs v s xs (item.Bad i) r l e before bad is =
    subst (AreScriptsNot (seen_lists vs)) (sym is)
    (v, i, record { item = map view s.now; is = get_seen vs v s l e; bad = sym (bad_none command_in (map view s.now) i bad); front = xs; before = before }, bad, refl)
not_scripts vs v s xs item.NoMemory r l e before bad is = subst (AreScriptsNot (seen_lists vs)) (sym is) tt

pub with_few : (vs : List (List Data)) (r : Result (List (List Command)) No) → AreFew vs → MatchResult r (AreScripts vs) (AreScriptsNot vs) → MatchResult r (AreFewScripts vs) (AreFewScriptsNot vs)
with_few vs (Ok xs) few m = (few, m)
with_few vs (Err (no.Refused r)) few m = inr (inr (few, m))
with_few vs (Err no.NoMemory) few m = tt

-- one list more
pub seen_more : (vs : List (Bor (List Value))) (s : Bor (List Value)) → seen_lists (vs ++ s ∷ []) ≡ seen_lists vs ++ map view s.now ∷ []
seen_more [] s = refl
seen_more (v ∷ vs) s = ap (λ ls. map view v.now ∷ ls) (seen_more vs s)
