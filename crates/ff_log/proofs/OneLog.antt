-- Texts are the lines of one log, or have one first text that is no line.
use Rattle.std.proofs.Common.{◌≡◌, ◌∙◌, ◌⊎◌, inl, inr, ◌<◌, ℕ, suc, zero, refl, ap, arith, List, [], ◌∷◌, map, Option, Some, None}
use Rattle.std.specs.Prelude.{slice_index_or}
use Rattle.std.proofs.lemmas.Bool.{cases_order}
use Rattle.ff_log.specs.declared.logs.LogLine.{LogLine}
use Rattle.ff_log.specs.Reading.{line_of}
use Rattle.ff_log.specs.Texts.{IsFirstBad, IsSpelled, SpellLines, TextsAreOne}
use Rattle.ff_log.proofs.LogLaws.{AreRead, all_again, all_sound, none_bad, none_spells, same_lines, some_spells}

abbrev Texts : Type 0
Texts = List (List ℕ)

are_read : (ts : Texts) (ls : List LogLine) → SpellLines ts ls → AreRead ts ls
are_read ts ls s = ap (map (λ t. line_of t)) s.are_spelled ∙ all_again ls s.are_lines

one_bad : (ts : Texts) (i k : ℕ) → IsFirstBad ts i → IsFirstBad ts k → i ≡ k
one_bad ts i k a b = elim (cases_order i k) [
  | inl e ↦ e
  | inr o ↦ elim o [ inl l ↦ absurd (a.bad (b.before i l)) | inr l ↦ absurd (b.bad (a.before k l)) ]
]

later_bad : (t : List ℕ) (ts : Texts) (i : ℕ) → IsSpelled t → IsFirstBad ts i → IsFirstBad (t ∷ ts) (suc i)
later_bad t ts i s b = record { within = omega (arith, b.within); bad = b.bad; before = before } where
  before : (k : ℕ) → k < suc i → IsSpelled (slice_index_or (t ∷ ts) k [])
  before zero l = s
  before (suc k) l = b.before k (omega (arith, l))

-- read, or bad at some place
abbrev Comes : Texts → Type 0
Comes ts = ((ls : List LogLine) × AreRead ts ls) ⊎ ((i : ℕ) × IsFirstBad ts i)

comes : (ts : Texts) → Comes ts
comes [] = inl ([], refl)
comes (t ∷ ts) = by (line_of t) refl (comes ts) where
  by : (o : Option LogLine) → line_of t ≡ o → Comes ts → Comes (t ∷ ts)
  by None e h = inr (
    0,
    record {
      within = omega arith;
      bad = λ s. none_spells t e s;
      before = λ k l. absurd (omega (arith, l));
    },
  )
  by (Some l) e (inl (ls, r)) = inl (l ∷ ls, read) where
    read : AreRead (t ∷ ts) (l ∷ ls)
    read = cc
  by (Some l) e (inr (i, b)) = inr (suc i, later_bad t ts i (some_spells t l e) b)

some_log : (ts : Texts) → Comes ts → ((ls : List LogLine) × SpellLines ts ls) ⊎ ((i : ℕ) × IsFirstBad ts i)
some_log ts (inl (ls, r)) = inl (ls, all_sound ts ls r)
some_log ts (inr b) = inr b

pub texts_are_one : TextsAreOne
texts_are_one = record {
  lines = λ ts ls ks a b. same_lines ts ls ks (are_read ts ls a) b.are_lines b.are_spelled;
  bad = one_bad;
  not_both = λ ts ls i s b. none_bad ts ls i b s.are_lines s.are_spelled;
  some = λ ts. some_log ts (comes ts);
}
