use Rattle.ff_solver.proofs.refuting.Recorder.note_all.Goals as goal
