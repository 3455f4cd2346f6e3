-- What viewers and workers do at a workbench. This project's own.
use Rattle.std.specs.Prelude.{◌≡◌, ℕ, ◌+◌, ◌<◌, ◌≤◌, ◌^◌, false, List, [], ◌∷◌, length, take, slice_get, slice_index, slice_index_or, Option, Some}
use Rattle.ff_viewer.specs.declared.commands.Command.{Command}
use Rattle.ff_journal.specs.declared.entries.Entry.{Entry}
use Rattle.ff_journal.specs.Epochs.{viewer_in}
use Rattle.ff_journal.specs.Journals.{IsLegal, commands_of, script_of}
use Rattle.ff_door.specs.Entries.{Follows}
use Rattle.ff_door.specs.Views.{SeatView}
use Rattle.ff_desk.specs.Views.{BaseView}
use Rattle.ff_desk.specs.Steps.{AllPublished}
use Rattle.ff_bench.specs.Views.{BenchView, PassView, WorkerView, IsPassOf, IsWorkerOf, left_of}

-- a viewer's pass as it is made: nothing was seen
abbrev pub IsNewPass : BenchView → ℕ → PassView → Type 0
IsNewPass b k p = IsPassOf b p × (p.viewer ≡ k) × (p.seen ≡ [])

-- a worker's pass as it is made, with its hand
abbrev pub IsNewWorker : BenchView → ℕ → WorkerView → Type 0
IsNewWorker b k w = IsWorkerOf b w × (w.hand ≡ k) × (w.seen ≡ []) × (w.turns ≡ 0)

-- the passes of all viewers as they are made, numbered in order
pub record AreNewPasses (b : BenchView) (passes : List PassView) : Type 0 where
  pub as_many : length passes ≡ length b.door.base.lengths
  pub each : (k : ℕ) (p : PassView) → slice_get passes k ≡ Some p → IsNewPass b k p

-- the passes of all workers as they are made, numbered in order
pub record AreNewWorkers (b : BenchView) (workers : List WorkerView) : Type 0 where
  pub as_many : length workers ≡ b.hands
  pub each : (k : ℕ) (w : WorkerView) → slice_get workers k ≡ Some w → IsNewWorker b k w

-- the passes are of this bench
abbrev pub ArePasses : BenchView → List PassView → Type 0
ArePasses b passes = (k : ℕ) (p : PassView) → slice_get passes k ≡ Some p → IsPassOf b p

-- all of them are workers of this bench
abbrev pub AreWorkers : BenchView → List WorkerView → Type 0
AreWorkers b workers = (k : ℕ) (w : WorkerView) → slice_get workers k ≡ Some w → IsWorkerOf b w

-- the journal begins with all that each viewer has seen, and past that has no entry of it
abbrev pub HoldsAll : List PassView → List Entry → Type 0
HoldsAll passes journal = (k : ℕ) (p : PassView) → slice_get passes k ≡ Some p → Follows viewer_in p.viewer p.seen journal

-- it begins with all that each worker has seen
abbrev pub HoldsSeen : List WorkerView → List Entry → Type 0
HoldsSeen workers journal = (k : ℕ) (w : WorkerView) → slice_get workers k ≡ Some w → Follows viewer_in w.number w.seen journal

-- the k-th pass before its script is played
pub record IsReady (b : BenchView) (scripts : List (List Command)) (k : ℕ) (p : PassView) : Type 0 where
  pub of : IsPassOf b p
  pub viewer : p.viewer ≡ k
  pub whole : p.commands ≡ length (script_of scripts k)
  pub none : commands_of k p.seen ≡ []

-- and after it: a front of the script was entered
pub record IsPlayed (b : BenchView) (scripts : List (List Command)) (k : ℕ) (p : PassView) : Type 0 where
  pub of : IsPassOf b p
  pub viewer : p.viewer ≡ k
  pub whole : p.commands ≡ length (script_of scripts k)
  pub entered : ℕ
  pub said : commands_of k p.seen ≡ take entered (script_of scripts k)

-- each pass is ready for its script
abbrev pub AllReady : BenchView → List (List Command) → List PassView → Type 0
AllReady b scripts ps = (length ps ≤ length scripts) × ((k : ℕ) (p : PassView) → k < length ps → IsReady b scripts k (slice_index_or ps k p))

-- each pass has played its script
abbrev pub AllPlayed : BenchView → List (List Command) → List PassView → Type 0
AllPlayed b scripts ps = (k : ℕ) (p : PassView) → k < length ps → IsPlayed b scripts k (slice_index_or ps k p)

-- all of them are workers of this bench, by their places in the list
abbrev pub AllWork : BenchView → List WorkerView → Type 0
AllWork b ws = (k : ℕ) (w : WorkerView) → k < length ws → IsWorkerOf b (slice_index_or ws k w)

-- ---- the end

-- the seat of a viewer's pass, which is outside
pub record IsSeatOf (p : PassView) (s : SeatView Entry BaseView) : Type 0 where
  pub table : s.table ≡ p.table
  pub base : s.base ≡ p.base
  pub number : s.number ≡ p.viewer
  pub seen : s.seen ≡ p.seen
  pub out : s.inside ≡ false

-- the seat of a worker's pass, which is outside
pub record IsWorkerSeat (w : WorkerView) (s : SeatView Entry BaseView) : Type 0 where
  pub table : s.table ≡ w.table
  pub base : s.base ≡ w.base
  pub number : s.number ≡ w.number
  pub seen : s.seen ≡ w.seen
  pub out : s.inside ≡ false

-- each of these has its seat in the list
abbrev pub HaveSeats : {V : Type 0} → (V → SeatView Entry BaseView → Type 0) → List V → List (SeatView Entry BaseView) → Type 0
HaveSeats {V} is vs seats = (k : ℕ) (v : V) → slice_get vs k ≡ Some v
    → (i : ℕ) × (s : SeatView Entry BaseView) × (slice_get seats i ≡ Some s) × is v s

-- the seats of a list stay where they are
abbrev pub AreKept : List (SeatView Entry BaseView) → List (SeatView Entry BaseView) → Type 0
AreKept old new = (i : ℕ) (s : SeatView Entry BaseView) → slice_get old i ≡ Some s → slice_get new i ≡ Some s

-- the journal begins with all that each seat had seen, and past that no entry names it
abbrev pub HoldsSeats : List (SeatView Entry BaseView) → List Entry → Type 0
HoldsSeats seats journal = (i : ℕ) (s : SeatView Entry BaseView) → slice_get seats i ≡ Some s → Follows viewer_in s.number s.seen journal

-- the journal is legal, no viewer has more entries than its script is long, and every epoch begun is published
pub record IsEnded (b : BenchView) (journal : List Entry) : Type 0 where
  pub legal : IsLegal b.door.base.case b.door.base.budget journal
  pub within : (v : ℕ) → length (commands_of v journal) ≤ slice_index b.door.base.lengths v
  pub all : AllPublished journal

-- ---- whole runs

-- the lengths of scripts
abbrev pub lengths_in : List (List Command) → List ℕ
lengths_in [] = []
lengths_in (script ∷ scripts) = length script ∷ lengths_in scripts

-- each script has fewer than 2^32 commands
abbrev pub AreShort : List (List Command) → Type 0
AreShort scripts = (k : ℕ) (script : List Command) → slice_get scripts k ≡ Some script → length script < 2 ^ 32

-- no viewer has a command left
abbrev pub AreSpent : List PassView → Type 0
AreSpent passes = (k : ℕ) (p : PassView) → slice_get passes k ≡ Some p → left_of p ≡ 0
