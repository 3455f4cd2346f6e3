-- The pairs that entries name.
use Rattle.std.proofs.Common.{◌≡◌, ℕ, ◌<◌, Bool, true, false, List, length, set, get_or, slice_get, sym, ap, ◌∙◌, inl, inr, arith, Some}
use Rattle.std.proofs.lemmas.Bool.{cases_eq}
use Rattle.std.proofs.lemmas.List.{length-set, get_or-set_same, get_or-set_other}
use Rattle.std.proofs.lemmas.Option.{slice_get_within}
use Rattle.ff_types.specs.Pairs.{AreSorted, number_of, in_order}
use Rattle.ff_types.proofs.SortedPairs.{number_there}
use Rattle.ff_journal.specs.declared.entries.Entry.{Entry}
use Rattle.ff_viewer.specs.declared.commands.Command.TheVariants as command
use Rattle.ff_journal.specs.declared.entries.Entry.TheVariants as entry
use Rattle.ff_journal.specs.Reading.{faces_named, pair_named, IsTouchedBy}

same_pair : {p q : ℕ × ℕ} → Some p ≡ Some q → p ≡ q
same_pair e = cc

pair_is : (e : Entry) (f g : ℕ) → faces_named e ≡ Some (f, g) → pair_named e ≡ Some (in_order f g)
pair_is (entry.Said v i (command.Pin f' g' s) told) f g e = ap (λ (p : ℕ × ℕ). Some (in_order p.0 p.1)) (same_pair e)
pair_is (entry.Said v i (command.Unpin f' g') told) f g e = ap (λ (p : ℕ × ℕ). Some (in_order p.0 p.1)) (same_pair e)
pair_is (entry.Said v i (command.Ask q) told) f g e = cc
pair_is (entry.Published n o) f g e = cc

pub one_listed : (pairs : List (ℕ × ℕ)) (e : Entry) (f g : ℕ) (m : ℕ) (old : List Bool) → AreSorted pairs → length old ≡ length pairs
    → faces_named e ≡ Some (f, g) → slice_get pairs m ≡ Some (in_order f g) → IsTouchedBy pairs e old (set old m true)
one_listed pairs e f g m old sorted wide faces there = record {
  wide = length-set old m true;
  kept = kept;
  touched = λ n p at is.
      let same : q ≡ p = same_pair (sym (pair_is e f g faces) ∙ is) in
      let one : number_of pairs q.0 q.1 ≡ Some m = number_there pairs m q sorted there in
      let two : number_of pairs q.0 q.1 ≡ Some n = number_there pairs n q sorted (at ∙ ap Some (sym same)) in
      ap (λ k. get_or (set old m true) k false) (same_place (sym two ∙ one)) ∙ get_or-set_same old m true false (omega (arith, l, wide));
} where
  q : ℕ × ℕ
  q = in_order f g

  l : m < length pairs
  l = slice_get_within pairs m q there

  same_place : {a b : ℕ} → Some a ≡ Some b → a ≡ b
  same_place h = cc

  kept : (n : ℕ) → get_or old n false ≡ true → get_or (set old m true) n false ≡ true
  kept n t = elim (cases_eq n m) [
    | inl s ↦ ap (λ k. get_or (set old m true) k false) s ∙ get_or-set_same old m true false (omega (arith, l, wide))
    | inr d ↦ get_or-set_other old m n true false d ∙ t
  ]
