-- The pieces of a transcript make it up.
use Rattle.std.proofs.Common.{◌≡◌, ◌∙◌, ℕ, zero, suc, List, [], ◌∷◌, ◌++◌, length, slice_get, refl, ap, sym, append_assoc}
use Rattle.std.proofs.lemmas.List.{append-nil}
use Rattle.ff_report.specs.Heads.{lines_of}
use Rattle.ff_journal.specs.declared.entries.Entry.{Entry}
use Rattle.ff_transcript.specs.Entries.{entry_text, transcript}
use Rattle.ff_top.specs.Writings.{lines_at}

-- the first line before the others
shifted : (line : ℕ → List ℕ) (n : ℕ) → lines_of line (suc n) ≡ line 0 ++ lines_of (λ k. line (suc k)) n
shifted line zero = sym (append-nil (line 0))
shifted line (suc n) = ap (λ t. t ++ line (suc n)) (shifted line n) ∙ append_assoc (line 0) (lines_of (λ k. line (suc k)) n) (line (suc n))

pub whole_transcript : (journal : List Entry) → lines_of (λ n. lines_at (slice_get journal n)) (suc (length journal)) ≡ transcript journal
whole_transcript [] = refl
whole_transcript (e ∷ journal) = shifted (λ n. lines_at (slice_get (e ∷ journal) n)) (suc (length journal))
    ∙ ap (λ t. entry_text e ++ t) (whole_transcript journal)
    ∙ sym (append_assoc (entry_text e) (Rattle.std.specs.List.flat_map entry_text journal) Rattle.ff_transcript.specs.Entries.end_line)
