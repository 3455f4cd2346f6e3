-- Lists of events, one after the other.
use Rattle.std.proofs.Common.{◌≡◌, ℕ, ◌+◌, ◌<◌, ◌≤◌, List, [], ◌∷◌, ◌++◌, length, take, get_or, slice_get, sym, refl, ap, ◌∙◌, subst, arith, Option, Some, None}
use Rattle.std.proofs.lemmas.List.{take_more, take_all, length-append}
use Rattle.ff_types.specs.declared.cases.Case.{Case}
use Rattle.ff_propagate.specs.declared.facts.Fact.{Fact}
use Rattle.ff_viewer.specs.declared.commands.Command.{Command}
use Rattle.ff_viewer.specs.declared.commands.Command.TheVariants as command
use Rattle.ff_journal.specs.declared.entries.Entry.{Entry}
use Rattle.ff_journal.specs.declared.entries.Entry.TheVariants as entry
use Rattle.ff_journal.specs.Publications.{published}
use Rattle.ff_journal.specs.Journals.{commands_of}
use Rattle.ff_core.specs.declared.events.Event.{Event}
use Rattle.ff_core.specs.declared.events.Event.TheVariants as event
use Rattle.ff_core.specs.declared.events.Step.{Step}
use Rattle.ff_core.specs.declared.events.Step.TheVariants as step
use Rattle.ff_core.specs.declared.events.Left.TheVariants as left
use Rattle.ff_core.specs.States.{State, StandsFor}
use Rattle.ff_core.specs.Steps.{DeducesFrom, Publishes, Says, WorkNext, IsStep, IsNew}
use Rattle.ff_core.specs.Runs.{Steps, HasRun}
use Rattle.ff_core.proofs.AfterSaying.{next_works}

-- ---- a new core

nothing_there : (i : ℕ) (e : Entry) → slice_get [] i ≡ Some e → ⊥
nothing_there i e h = cc

pub new_stands : (case : Case) (core : State) (budget : ℕ) → budget ≤ 1000000000 → IsNew case budget core → StandsFor case core
new_stands case core budget few new = subst (λ x. StandsFor case x) (sym (same core new.empty new.unpublished new.no_pages)) (record {
  turns = subst (λ n. n ≤ 1000000000) (sym new.budgeted) few;
  legal = record { each = λ i e h. absurd (nothing_there i e h) };
  works = next_works case [] 0 core.working (subst (λ j. WorkNext case j 0 core.working) new.empty new.works) refl (omega arith);
  shows = refl;
  keeps = tt;
})
  where
    same : (x : State) → x.journal ≡ [] → x.shown ≡ None → x.pages ≡ None → x ≡ record { journal = []; budget = x.budget; working = x.working; shown = None; pages = None }
    same x e s p = λ i. record { journal = e i; budget = x.budget; working = x.working; shown = s i; pages = p i }

-- ---- one more event

pub steps_more : (case : Case) (old mid new : State) (events : List Event) (answers : List Step) (e : Event) (a : Step) → Steps case old events answers mid
    → IsStep case mid e new a → Steps case old (events ++ e ∷ []) (answers ++ a ∷ []) new
steps_more case old mid new [] [] e a s one = (new, subst (λ x. IsStep case x e new a) s one, refl)
steps_more case old mid new [] (b ∷ answers) e a s one = absurd s
steps_more case old mid new (d ∷ events) [] e a s one = absurd s
steps_more case old mid new (d ∷ events) (b ∷ answers) e a s one = (s.0, s.1, steps_more case s.0 mid new events answers e a s.2 one)

pub run_more : (case : Case) (budget : ℕ) (events : List Event) (i : ℕ) (e : Event) (a : Step) (mid new : State) → i < length events → e ≡ get_or events i e
    → HasRun case budget (take i events) mid → IsStep case mid e new a → HasRun case budget (take (i + 1) events) new
run_more case budget events i e a mid new l read run one = (
  run.0,
  run.1 ++ a ∷ [],
  run.2,
  subst (λ es. Steps case run.0 es (run.1 ++ a ∷ []) new) (sym (take_more events i e l ∙ ap (λ x. take i events ++ x ∷ []) (sym read)))
      (steps_more case run.0 mid new (take i events) run.1 e a run.3 one),
)

pub run_none : (case : Case) (budget : ℕ) (events : List Event) (core : State) → IsNew case budget core → HasRun case budget (take 0 events) core
run_none case budget events core new = (core, [], new, refl)

pub run_all : (case : Case) (budget : ℕ) (events : List Event) (i : ℕ) (core : State) → length events ≤ i → HasRun case budget (take i events) core
    → HasRun case budget events core
run_all case budget events i core e run = subst (λ es. HasRun case budget es core) (take_all i events e) run

-- ---- a step adds at most one entry

same_long : (old new : List Entry) → new ≡ old → length new ≤ length old + 1
same_long old new e = let n : length new ≡ length old = ap (λ j. length j) e in omega (arith, n)

one_long : (old new : List Entry) (e : Entry) → new ≡ old ++ e ∷ [] → length new ≤ length old + 1
one_long old new e h =
    let n : length new ≡ length (old ++ e ∷ []) = ap (λ j. length j) h in
    let m : length (old ++ e ∷ []) ≡ length old + 1 = length-append old (e ∷ []) in
    omega (arith, n, m)

said_grows : (case : Case) (old : State) (viewer : ℕ) (said : Command) (new : State) (a : Step) → Says case old viewer said new a → length new.journal ≤ length old.journal + 1
said_grows case old viewer said new (step.Said told) s = one_long old.journal new.journal (entry.Said viewer (length (commands_of viewer old.journal)) said told) s.1
said_grows case old viewer said new step.Took s = absurd s
said_grows case old viewer said new (step.Left (left.NotPublished e)) s = same_long old.journal new.journal (ap (λ (x : State). x.journal) s.1)
said_grows case old viewer said new (step.Left (left.Held h)) s = absurd s
said_grows case old viewer said new (step.Left left.NotForced) s = absurd s
said_grows case old viewer said new (step.Left left.NoEpoch) s = absurd s
said_grows case old viewer said new (step.Left (left.NotClosed c)) s = absurd s

published_grows : (case : Case) (old new : State) (a : Step) → Publishes case old new a → length new.journal ≤ length old.journal + 1
published_grows case old new step.Took s = one_long old.journal new.journal (entry.Published (published old.journal) s.1) s.4
published_grows case old new (step.Said told) s = absurd s
published_grows case old new (step.Left left.NoEpoch) s = same_long old.journal new.journal (ap (λ (x : State). x.journal) s.1)
published_grows case old new (step.Left (left.NotClosed c)) s = same_long old.journal new.journal (ap (λ (x : State). x.journal) s.3)
published_grows case old new (step.Left (left.NotPublished e)) s = absurd s
published_grows case old new (step.Left (left.Held h)) s = absurd s
published_grows case old new (step.Left left.NotForced) s = absurd s

pub step_grows : (case : Case) (old : State) (e : Event) (new : State) (a : Step) → IsStep case old e new a → length new.journal ≤ length old.journal + 1
step_grows case old (event.Deduce v h) new a s = by old.working s
  where
    by : (w : Option (List (Option Fact))) → DeducesFrom case old w v h new a → length new.journal ≤ length old.journal + 1
    by None d = same_long old.journal new.journal (ap (λ (x : State). x.journal) d.1)
    by (Some fs) d = same_long old.journal new.journal (ap (λ (x : State). x.journal) d.2)
step_grows case old (event.Pin viewer f g value) new a s = said_grows case old viewer (command.Pin f g value) new a s
step_grows case old (event.Unpin viewer f g) new a s = said_grows case old viewer (command.Unpin f g) new a s
step_grows case old (event.Ask viewer question) new a s = said_grows case old viewer (command.Ask question) new a s
step_grows case old event.Publish new a s = published_grows case old new a s

-- ---- the budget stays

said_budget : (case : Case) (old : State) (viewer : ℕ) (said : Command) (new : State) (a : Step) → Says case old viewer said new a → new.budget ≡ old.budget
said_budget case old viewer said new (step.Said told) s = s.2
said_budget case old viewer said new step.Took s = absurd s
said_budget case old viewer said new (step.Left (left.NotPublished e)) s = ap (λ (x : State). x.budget) s.1
said_budget case old viewer said new (step.Left (left.Held h)) s = absurd s
said_budget case old viewer said new (step.Left left.NotForced) s = absurd s
said_budget case old viewer said new (step.Left left.NoEpoch) s = absurd s
said_budget case old viewer said new (step.Left (left.NotClosed c)) s = absurd s

published_budget : (case : Case) (old new : State) (a : Step) → Publishes case old new a → new.budget ≡ old.budget
published_budget case old new step.Took s = s.5
published_budget case old new (step.Said told) s = absurd s
published_budget case old new (step.Left left.NoEpoch) s = ap (λ (x : State). x.budget) s.1
published_budget case old new (step.Left (left.NotClosed c)) s = ap (λ (x : State). x.budget) s.3
published_budget case old new (step.Left (left.NotPublished e)) s = absurd s
published_budget case old new (step.Left (left.Held h)) s = absurd s
published_budget case old new (step.Left left.NotForced) s = absurd s

step_budget : (case : Case) (old : State) (e : Event) (new : State) (a : Step) → IsStep case old e new a → new.budget ≡ old.budget
step_budget case old (event.Deduce v h) new a s = by old.working s
  where
    by : (w : Option (List (Option Fact))) → DeducesFrom case old w v h new a → new.budget ≡ old.budget
    by None d = ap (λ (x : State). x.budget) d.1
    by (Some fs) d = ap (λ (x : State). x.budget) d.2
step_budget case old (event.Pin viewer f g value) new a s = said_budget case old viewer (command.Pin f g value) new a s
step_budget case old (event.Unpin viewer f g) new a s = said_budget case old viewer (command.Unpin f g) new a s
step_budget case old (event.Ask viewer question) new a s = said_budget case old viewer (command.Ask question) new a s
step_budget case old event.Publish new a s = published_budget case old new a s

steps_budget : (case : Case) (old new : State) (events : List Event) (answers : List Step) → Steps case old events answers new → new.budget ≡ old.budget
steps_budget case old new [] [] s = ap (λ (x : State). x.budget) s
steps_budget case old new [] (a ∷ answers) s = absurd s
steps_budget case old new (e ∷ events) [] s = absurd s
steps_budget case old new (e ∷ events) (a ∷ answers) s = steps_budget case s.0 new events answers s.2 ∙ step_budget case old e s.0 a s.1

pub run_budget : (case : Case) (budget : ℕ) (events : List Event) (core : State) → HasRun case budget events core → core.budget ≡ budget
run_budget case budget events core run = steps_budget case run.0 core events run.1 run.3 ∙ run.2.budgeted
