-- What the bytes of `bench` come to is answered.
use Rattle.std.proofs.Common.{◌≡◌, inr, ℕ, ◌≤◌, List, length, Result, Ok, Err, IfOk, sym, subst}
use Rattle.ff_tables.specs.declared.memory.NoMemory.{NoMemory}
use Rattle.ff_types.specs.declared.limits.TheConstants.{MOST_BYTES}
use Rattle.ff_types.specs.declared.refusals.Refusal.{Refusal}
use Rattle.ff_types.specs.declared.refusals.No.{No}
use Rattle.ff_types.specs.declared.refusals.No.TheVariants as no
use Rattle.ff_report.specs.Refusals.{refusal_line}
use Rattle.ff_journal.specs.declared.entries.Entry.{Entry}
use Rattle.ff_session.specs.Sessions.{IsSession, WhyNoSession}
use Rattle.ff_transcript.specs.Entries.{transcript}
use Rattle.ff_top.specs.Benching.{AnswersBench}
use Rattle.ff_top.specs.Writings.{text_of}
use Rattle.ff_top.specs.declared.outcome.Outcome.{Outcome}
use Rattle.ff_top.specs.declared.status.Status.{Status}
use Rattle.ff_top.specs.declared.status.Status.TheVariants.{Done, Refused}
use Rattle.ff_top.proofs.Answers.{refused_bench}

pub transcribed : (bytes : List ℕ) (budget : ℕ) (journal : List Entry) (s : Status) (text : List ℕ) → length bytes ≤ MOST_BYTES → IsSession bytes budget journal → s ≡ Done → text ≡ transcript journal
    → AnswersBench budget bytes s text
transcribed bytes budget journal s text few session done is = subst (λ (t : Status). AnswersBench budget bytes t text) (sym done) (record { within = few; journal = journal; session = session; is = is })

pub refused_within : (budget : ℕ) (bytes : List ℕ) (n : No) (r : Refusal) (made : Result Outcome NoMemory) → length bytes ≤ MOST_BYTES → WhyNoSession bytes n → n ≡ no.Refused r
    → IfOk made (λ o. (o.status ≡ Refused) × (text_of o.writing ≡ refusal_line r)) → IfOk made (λ o. AnswersBench budget bytes o.status (text_of o.writing))
refused_within budget bytes n r (Ok o) few why is h = refused_bench budget bytes o.status (text_of o.writing) r (inr (few, subst (WhyNoSession bytes) is why)) h
refused_within budget bytes n r (Err e) few why is h = tt
