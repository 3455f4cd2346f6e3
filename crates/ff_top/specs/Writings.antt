-- The pieces of what a run writes. This project's own.
-- For the proofs of this crate alone.
use Rattle.std.specs.Prelude.{ℕ, suc, List, length, slice_get, Option, None, Some}
use Rattle.ff_report.specs.Heads.{lines_of}
use Rattle.ff_solve.specs.Written.{piece_at}
use Rattle.ff_journal.specs.declared.entries.Entry.{Entry}
use Rattle.ff_transcript.specs.Entries.{end_line, entry_text}
use Rattle.ff_top.specs.declared.writing.Writing.{Writing}
use Rattle.ff_top.specs.declared.writing.Writing.TheVariants.{Line, Report, Transcript}

-- the lines of an entry, or the last line where there is none
abbrev pub lines_at : Option Entry → List ℕ
lines_at None = end_line
lines_at (Some entry) = entry_text entry

-- how many pieces are written
abbrev pub piece_count : Writing → ℕ
piece_count (Line text) = 1
piece_count (Report r) = suc (suc (length r.parts))
piece_count (Transcript journal) = suc (length journal)

-- the piece with this number
abbrev pub piece_of : Writing → ℕ → List ℕ
piece_of (Line text) n = text
piece_of (Report r) n = piece_at r.head r.parts r.outcomes r.end n
piece_of (Transcript journal) n = lines_at (slice_get journal n)

-- all of them
abbrev pub text_of : Writing → List ℕ
text_of w = lines_of (piece_of w) (piece_count w)
