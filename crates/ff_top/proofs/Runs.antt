-- What a run says, from how it ends.
use Rattle.std.proofs.Common.{◌≡◌, ℕ, List, [], Option, None, Some, Result, Ok, Err, IfOk, OnOk, OnErr, IsErrOf, refl, sym, subst, ◌⊎◌, inl, inr}
use Rattle.ff_words.specs.declared.jobs.Job.{Job}
use Rattle.ff_top.specs.Answer.{AnswersTo, IsRun, IsAnswered, IsSettled, IsComplete}
use Rattle.ff_top.specs.Transfer.{Tells, Got, GotFront, GotPart}
use Rattle.ff_top.specs.Writings.{text_of}
use Rattle.ff_top.specs.Endings.{Ends}
use Rattle.ff_top.specs.declared.outcome.Outcome.{Outcome}
use Rattle.ff_top.specs.declared.transfer.ReadNo.{ReadNo}
use Rattle.ff_top.specs.declared.transfer.ReadNo.TheVariants as read
use Rattle.ff_top.specs.declared.status.Status.{Status}
use Rattle.ff_top.specs.declared.status.Status.TheVariants.{ReadFault, WriteFault, NoMemory}
use Rattle.ff_top.proofs.Answers.{NeverFaults}
use Rattle.ff_top.proofs.Pieces.{got_nothing, got_front, part_front}

pub some_input : (left : Option (List ℕ)) → (input : List ℕ) × Tells left input
some_input None = ([], tt)
some_input (Some input) = (input, refl)

-- the answer to a job, from what was prepared for it
pub for_job : (bench : ℕ → List ℕ → Status → List ℕ → Type 0) (left : Option (List ℕ)) (job named : Option Job) (prepared : Result Outcome ReadNo) → job ≡ named
    → IfOk prepared (λ o. (input : List ℕ) × Tells left input × AnswersTo bench named input o.status (text_of o.writing))
    → IfOk prepared (λ o. (input : List ℕ) × Tells left input × AnswersTo bench job input o.status (text_of o.writing))
for_job bench left job named prepared e h = subst (λ (j : Option Job). IfOk prepared (λ o. (input : List ℕ) × Tells left input × AnswersTo bench j input o.status (text_of o.writing))) (sym e) h

-- the same for a job that nothing is done for
pub for_idle : (bench : ℕ → List ℕ → Status → List ℕ → Type 0) (left : Option (List ℕ)) (job named : Option Job) (s : Status) (text : List ℕ) → job ≡ named
    → ((input : List ℕ) → AnswersTo bench named input s text) → (input : List ℕ) × Tells left input × AnswersTo bench job input s text
for_idle bench left job named s text e h = let i = some_input left in (i.0, i.1, subst (λ (j : Option Job). AnswersTo bench j i.0 s text) (sym e) (h i.0))

unread_fault : (s : Status) → s ≡ ReadFault → s ≡ NoMemory → ⊥
unread_fault s a b = cc

not_both : (s : Status) → s ≡ WriteFault → s ≡ ReadFault → ⊥
not_both s a b = cc

short_write : (s : Status) → s ≡ WriteFault → s ≡ NoMemory → ⊥
short_write s a b = cc

unsettled : (s t : Status) → s ≡ t → (IsSettled t → ⊥) → IsSettled s → ⊥
unsettled s t e n h = n (subst IsSettled e h)

module _ (answer : List ℕ → Status → List ℕ → Type 0) (safe : NeverFaults answer) where
  -- nothing was written, at a read fault or for want of memory
  run_of_nothing : (left before after : Option (List ℕ)) (status : Status) → after ≡ before → (IsSettled status → ⊥) → (status ≡ WriteFault → ⊥) → IsRun answer left before after status
  run_of_nothing left before after status same unsettles no_write = record {
    input = (some_input left).0;
    told = (some_input left).1;
    settled = λ h. absurd (unsettles h);
    cut = λ e. absurd (no_write e);
    front = inl (subst (λ (a : Option (List ℕ)). Got before [] a) (sym same) (got_nothing before []));
  }

  module _ (left before after : Option (List ℕ)) (answered : Status) (text : List ℕ) (a : (input : List ℕ) × Tells left input × answer input answered text) where
    -- the text was written whole
    run_of_answer : (status : Status) → status ≡ answered → Got before text after → IsRun answer left before after status
    run_of_answer status e got = record {
      input = a.0;
      told = a.1;
      settled = λ h. (text, subst (λ (s : Status). answer a.0 s text) (sym e) a.2, got);
      cut = λ w. absurd (safe.never a.0 status text (subst (λ (s : Status). answer a.0 s text) (sym e) a.2) (inl w));
      front = inr (record { status = answered; text = text; answers = a.2; is_written = got_front before after text got });
    }

    -- a part of the text was written
    run_of_part : (status : Status) → status ≡ WriteFault → GotPart before text after → IsRun answer left before after status
    run_of_part status e part = record {
      input = a.0;
      told = a.1;
      settled = λ h. absurd (unsettled status WriteFault e (λ x. x) h);
      cut = λ w. record { status = answered; text = text; answers = a.2; is_written = part };
      front = inr (record { status = answered; text = text; answers = a.2; is_written = part_front before after text part });
    }

    -- a front of the text was written, and then memory was refused
    run_of_front : (status : Status) → status ≡ NoMemory → GotFront before text after → IsRun answer left before after status
    run_of_front status e front = record {
      input = a.0;
      told = a.1;
      settled = λ h. absurd (unsettled status NoMemory e (λ x. x) h);
      cut = λ w. absurd (short_write status w e);
      front = inr (record { status = answered; text = text; answers = a.2; is_written = front });
    }

  -- however it ends
  pub run_of : (prepared : Result Outcome ReadNo) (left before after : Option (List ℕ)) (rose : Type 0) (status : Status)
      → IfOk prepared (λ o. (input : List ℕ) × Tells left input × answer input o.status (text_of o.writing)) → Ends prepared before after rose status → IsRun answer left before after status
  run_of (Ok o) left before after rose status a (inl e) = run_of_answer left before after o.status (text_of o.writing) a status e.0 e.1
  run_of (Ok o) left before after rose status a (inr (inl e)) = run_of_part left before after o.status (text_of o.writing) a status e.0 e.1
  run_of (Ok o) left before after rose status a (inr (inr e)) = run_of_front left before after o.status (text_of o.writing) a status e.0 e.1
  run_of (Err read.Failed) left before after rose status a e = run_of_nothing left before after status e.1 (unsettled status ReadFault e.0 (λ x. x)) (λ w. not_both status w e.0)
  run_of (Err read.NoMemory) left before after rose status a e = run_of_nothing left before after status e.1 (unsettled status NoMemory e.0 (λ x. x)) (λ w. short_write status w e.0)

  -- ---- faults

  -- a read fault is one of the source
  pub read_fault_of : (prepared : Result Outcome ReadNo) (left before after : Option (List ℕ)) (rose : Type 0) (status : Status)
      → IfOk prepared (λ o. (input : List ℕ) × Tells left input × answer input o.status (text_of o.writing)) → Ends prepared before after rose status → status ≡ ReadFault → IsErrOf prepared read.Failed
  read_fault_of (Ok o) left before after rose status a (inl e) f = absurd (safe.never a.0 status (text_of o.writing) (subst (λ (s : Status). answer a.0 s (text_of o.writing)) (sym e.0) a.2) (inr f))
  read_fault_of (Ok o) left before after rose status a (inr (inl e)) f = absurd (not_both status e.0 f)
  read_fault_of (Ok o) left before after rose status a (inr (inr e)) f = absurd (unread_fault status f e.0)
  read_fault_of (Err read.Failed) left before after rose status a e f = refl
  read_fault_of (Err read.NoMemory) left before after rose status a e f = absurd (unread_fault status f e.0)

  -- a write fault is one of the sink
  pub write_fault_of : (prepared : Result Outcome ReadNo) (left before after : Option (List ℕ)) (rose : Type 0) (status : Status)
      → IfOk prepared (λ o. (input : List ℕ) × Tells left input × answer input o.status (text_of o.writing)) → Ends prepared before after rose status → status ≡ WriteFault → rose
  write_fault_of (Ok o) left before after rose status a (inl e) f = absurd (safe.never a.0 status (text_of o.writing) (subst (λ (s : Status). answer a.0 s (text_of o.writing)) (sym e.0) a.2) (inl f))
  write_fault_of (Ok o) left before after rose status a (inr (inl e)) f = e.2
  write_fault_of (Ok o) left before after rose status a (inr (inr e)) f = absurd (short_write status f e.0)
  write_fault_of (Err read.Failed) left before after rose status a e f = absurd (not_both status f e.0)
  write_fault_of (Err read.NoMemory) left before after rose status a e f = absurd (short_write status f e.0)

  -- ---- without faults

  -- by status
  settled_or : (input : List ℕ) (before after : Option (List ℕ)) (status : Status) (no_fault : Type 0)
      → (IsSettled status → (text : List ℕ) × answer input status text × Got before text after)
      → (status ≡ ReadFault → no_fault → ⊥) → (status ≡ WriteFault → no_fault → ⊥) → no_fault
      → (status ≡ NoMemory) ⊎ ((text : List ℕ) × answer input status text × Got before text after)
  settled_or input before after NoMemory no_fault settled r w free = inl refl
  settled_or input before after ReadFault no_fault settled r w free = absurd (r refl free)
  settled_or input before after WriteFault no_fault settled r w free = absurd (w refl free)
  settled_or input before after status no_fault settled r w free = inr (settled tt)

  -- a run with neither fault nor want of memory gives an answer
  pub complete_of_run : (left before after : Option (List ℕ)) (status : Status) (no_fault : Type 0) → IsRun answer left before after status
      → (status ≡ ReadFault → no_fault → ⊥) → (status ≡ WriteFault → no_fault → ⊥) → IsComplete answer left before after no_fault status
  complete_of_run None before after status no_fault run r w = tt
  complete_of_run (Some input) before after status no_fault run r w = λ free. settled_or input before after status no_fault
      (λ h. subst (λ (i : List ℕ). (text : List ℕ) × answer i status text × Got before text after) (sym run.told) (run.settled h)) r w free

-- ---- what was read before

-- where something was answered, something was prepared
pub answered_ok : (prepared : Result Outcome ReadNo) (before after : Option (List ℕ)) (rose : Type 0) (status : Status) (P : Type 0) → Ends prepared before after rose status → OnOk prepared P → IsAnswered status → P
answered_ok (Ok o) before after rose status P e p h = p
answered_ok (Err read.Failed) before after rose status P e p h = absurd (subst IsAnswered e.0 h)
answered_ok (Err read.NoMemory) before after rose status P e p h = absurd (subst IsAnswered e.0 h)

-- and where something was written
pub written_ok : (prepared : Result Outcome ReadNo) (same P : Type 0) → OnErr prepared same → OnOk prepared P → (same → ⊥) → P
written_ok (Ok o) same P s p h = p
written_ok (Err n) same P s p h = absurd (h s)

pub unwritten : (prepared : Result Outcome ReadNo) (same : Type 0) → OnErr prepared same → IsErrOf prepared read.Failed → same
unwritten (Ok o) same s e = absurd (apart e) where
  apart : Ok o ≡ Err read.Failed → ⊥
  apart q = cc
unwritten (Err n) same s e = s
