use Rattle.std.proofs.Common.{map, string_bytes}
use Rattle.ff_top.specs.Answer.{IsAnswerOfRun}
use Rattle.ff_top.proofs.Answers.{run_never_faults}
use Rattle.ff_top.proofs.Runs.{run_of, read_fault_of, write_fault_of, complete_of_run, answered_ok, written_ok, unwritten}
use Rattle.ff_top.proofs.top.run.Goals as goal

pub returns-clause-run : goal.returns-clause-run
returns-clause-run g c = run_of (IsAnswerOfRun (map string_bytes c.args.words.now)) (run_never_faults (map string_bytes c.args.words.now)) _ _ _ _ _ _ c.prepare-prepared.ensures.answer c.finish.ensures.ends

pub returns-clause-read_fault : goal.returns-clause-read_fault
returns-clause-read_fault g c = λ e.
    c.prepare-prepared.ensures.cause (read_fault_of (IsAnswerOfRun (map string_bytes c.args.words.now)) (run_never_faults (map string_bytes c.args.words.now)) _ _ _ _ _ _ c.prepare-prepared.ensures.answer c.finish.ensures.ends e)

pub returns-clause-write_fault : goal.returns-clause-write_fault
returns-clause-write_fault g c = λ e. write_fault_of (IsAnswerOfRun (map string_bytes c.args.words.now)) (run_never_faults (map string_bytes c.args.words.now)) _ _ _ _ _ _ c.prepare-prepared.ensures.answer c.finish.ensures.ends e

pub returns-clause-complete : goal.returns-clause-complete
returns-clause-complete g c = complete_of_run (IsAnswerOfRun (map string_bytes c.args.words.now)) (run_never_faults (map string_bytes c.args.words.now)) _ _ _ _ _ (returns-clause-run g c)
    (λ e free. free.0 (returns-clause-read_fault g c e)) (λ e free. free.1 (returns-clause-write_fault g c e))

pub returns-clause-read_off : goal.returns-clause-read_off
returns-clause-read_off g c = λ h. answered_ok _ _ _ _ _ _ c.finish.ensures.ends c.prepare-prepared.ensures.read_off h

pub returns-clause-read_first : goal.returns-clause-read_first
returns-clause-read_first g c = λ h. written_ok _ _ _ c.finish.ensures.untouched c.prepare-prepared.ensures.read_off h

pub returns-clause-nothing_written : goal.returns-clause-nothing_written
returns-clause-nothing_written g c = λ e.
    unwritten _ _ c.finish.ensures.untouched (read_fault_of (IsAnswerOfRun (map string_bytes c.args.words.now)) (run_never_faults (map string_bytes c.args.words.now)) _ _ _ _ _ _ c.prepare-prepared.ensures.answer c.finish.ensures.ends e)
