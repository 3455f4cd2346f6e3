-- The pieces of a report make up its text.
use Rattle.std.proofs.Common.{◌≡◌, ◌∙◌, ℕ, zero, suc, ◌==◌, ◌<◌, ◌≤◌, Bool, true, false, if◌then◌else◌, List, ◌++◌, length, refl, ap, sym, append_assoc, arith}
use Rattle.std.proofs.lemmas.List.{append-nil}
use Rattle.ff_propagate.specs.declared.parts.Part.{Part}
use Rattle.ff_parts.specs.Lists.{vars_of}
use Rattle.ff_report.specs.declared.parts.PartOutcome.{PartOutcome}
use Rattle.ff_report.specs.Heads.{lines_of}
use Rattle.ff_report.specs.Lines.{part_at}
use Rattle.ff_solve.specs.Written.{piece_at, report_text}

module _ (head : List ℕ) (parts : List Part) (outcomes : List PartOutcome) (end : List ℕ) where
  pub part_piece : (n : ℕ) → n < length parts → piece_at head parts outcomes end (suc n) ≡ part_at (vars_of parts) outcomes n
  part_piece n l = by (n == length parts) refl where
    by : (b : Bool) → (n == length parts) ≡ b → (if b then end else part_at (vars_of parts) outcomes n) ≡ part_at (vars_of parts) outcomes n
    by true e = grind (arith, l, e)
    by false e = refl

  pub last_piece : piece_at head parts outcomes end (suc (length parts)) ≡ end
  last_piece = by (length parts == length parts) refl where
    by : (b : Bool) → (length parts == length parts) ≡ b → (if b then end else part_at (vars_of parts) outcomes (length parts)) ≡ end
    by true e = refl
    by false e = grind (arith, e)

  begun : (k : ℕ) → k ≤ length parts → lines_of (piece_at head parts outcomes end) (suc k) ≡ head ++ lines_of (part_at (vars_of parts) outcomes) k
  begun zero l = sym (append-nil head)
  begun (suc k) l = ap (λ t. t ++ piece_at head parts outcomes end (suc k)) (begun k (omega (arith, l)))
      ∙ ap (λ t. (head ++ lines_of (part_at (vars_of parts) outcomes) k) ++ t) (part_piece k (omega (arith, l)))
      ∙ append_assoc head (lines_of (part_at (vars_of parts) outcomes) k) (part_at (vars_of parts) outcomes k)

  -- the head, the parts, the end
  pub whole : report_text head parts outcomes end ≡ head ++ lines_of (part_at (vars_of parts) outcomes) (length parts) ++ end
  whole = ap (λ t. t ++ piece_at head parts outcomes end (suc (length parts))) (begun (length parts) (omega arith))
      ∙ ap (λ t. (head ++ lines_of (part_at (vars_of parts) outcomes) (length parts)) ++ t) last_piece
