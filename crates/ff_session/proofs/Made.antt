-- A session is made, or refused.
use Rattle.std.proofs.Common.{◌≡◌, inl, inr, ℕ, List, Result, Ok, Err, IfOk, IfErr, MatchResult}
use Rattle.ff_tables.specs.declared.memory.NoMemory.{NoMemory}
use Rattle.ff_types.specs.declared.faces.Faces.{Faces}
use Rattle.ff_types.specs.declared.faces.Folded.{Folded}
use Rattle.ff_types.specs.declared.cases.Case.{Case}
use Rattle.ff_types.specs.declared.refusals.No.{No}
use Rattle.ff_types.specs.declared.refusals.No.TheVariants as no
use Rattle.ff_types.specs.Sheets.{sheet_of}
use Rattle.ff_problem.specs.declared.problems.Problem.{Problem}
use Rattle.ff_problem.specs.Problems.{IsProblem, WhyNoProblem}
use Rattle.ff_read.specs.declared.benches.BenchInput.{BenchInput}
use Rattle.ff_read.specs.Benches.{IsBench, IsNoBench}
use Rattle.ff_journal.specs.declared.entries.Entry.{Entry}
use Rattle.ff_journal.specs.Journals.{IsLegalFor, IsComplete}
use Rattle.ff_epochs.specs.EpochLaws.{BoardsAreClosures, BoardsAreStackings, ImpossibleEpochsHaveNone}
use Rattle.ff_session.specs.Sessions.{IsSession, WhyNoSession}

pub made : (bytes : List ℕ) (budget : ℕ) (input : BenchInput) (faces : Faces) (folded : Folded) (case : Case) (journal : List Entry) → IsBench bytes input
    → IsProblem input.pattern faces folded case → BoardsAreClosures → BoardsAreStackings → ImpossibleEpochsHaveNone
    → IsLegalFor case budget input.scripts journal → IsComplete input.scripts journal → IsSession bytes budget journal
made bytes budget input faces folded case journal read problem closures stackings none legal complete = record {
  input = input;
  read = read;
  faces = faces;
  folded = folded;
  case = case;
  problem = problem;
  is = record {
    legal = legal;
    complete = complete;
    closures = closures case budget journal legal.legal;
    stackings = stackings (sheet_of input.pattern faces folded) case problem.case_is problem.true_to budget journal legal.legal;
    none = none (sheet_of input.pattern faces folded) case problem.case_is problem.true_to budget journal legal.legal;
  };
}

-- the same of a result
pub made_of : (bytes : List ℕ) (budget : ℕ) (input : BenchInput) (faces : Faces) (folded : Folded) (case : Case) → IsBench bytes input
    → IsProblem input.pattern faces folded case → BoardsAreClosures → BoardsAreStackings → ImpossibleEpochsHaveNone
    → (r : Result (List Entry) NoMemory) → IfOk r (λ j. IsLegalFor case budget input.scripts j) → IfOk r (λ j. IsComplete input.scripts j)
    → IfOk r (λ j. IsSession bytes budget j)
made_of bytes budget input faces folded case read problem closures stackings none (Ok j) legal complete =
    made bytes budget input faces folded case j read problem closures stackings none legal complete
made_of bytes budget input faces folded case read problem closures stackings none (Err e) legal complete = tt

why_not_read : (bytes : List ℕ) (n : No) → IsNoBench bytes n → WhyNoSession bytes n
why_not_read bytes (no.Refused r) h = inl h
why_not_read bytes no.NoMemory h = tt

pub not_read : (bytes : List ℕ) (r : Result BenchInput No) → MatchResult r (IsBench bytes) (IsNoBench bytes) → IfErr r (WhyNoSession bytes)
not_read bytes (Ok input) h = tt
not_read bytes (Err n) h = why_not_read bytes n h

why_not_folded : (bytes : List ℕ) (input : BenchInput) (n : No) → IsBench bytes input → WhyNoProblem input.pattern n → WhyNoSession bytes n
why_not_folded bytes input (no.Refused r) read h = inr (input, read, h)
why_not_folded bytes input no.NoMemory read h = tt

pub not_folded : (bytes : List ℕ) (input : BenchInput) → IsBench bytes input → (r : Result Problem No)
    → MatchResult r (λ p. IsProblem input.pattern p.faces p.folded p.case) (WhyNoProblem input.pattern) → IfErr r (WhyNoSession bytes)
not_folded bytes input read (Ok p) h = tt
not_folded bytes input read (Err n) h = why_not_folded bytes input n read h
