-- Commands that were served.
use Rattle.std.proofs.Common.{◌≡◌, ◌≢◌, ℕ, zero, suc, ◌+◌, ◌-◌, ◌*◌, ◌^◌, ◌<◌, ◌≤◌, ◌⊎◌, ⊎_elim, inl, inr, Bool, true, false, List, [], ◌∷◌, ◌++◌, length, take, get_or, Option, Some, None, refl, sym, ap, ◌∙◌, subst, arith, eq-eqb, ne_eqb, length-append, append-nil, if◌then◌else◌}
use Rattle.std.proofs.lemmas.List.{take_more}
use Rattle.std.proofs.lemmas.List.Elements.{filter_map-append}
use Rattle.std.proofs.lemmas.Bool.{cases_lt}
use Rattle.std.proofs.lemmas.Option.{get_or_from_slice_get, slice_get-get_or}
use mathlib.Core.Logic.{dite}
use native.Mathlib.Decide.{ℕ_discrete}
use Rattle.ff_types.specs.declared.cases.Case.{Case}
use Rattle.ff_propagate.specs.declared.facts.Fact.{Fact}
use Rattle.ff_viewer.specs.declared.commands.Command.{Command}
use Rattle.ff_viewer.specs.declared.commands.Command.TheVariants as command
use Rattle.ff_viewer.specs.declared.replies.Reply.{Reply}
use Rattle.ff_journal.specs.declared.entries.Entry.{Entry}
use Rattle.ff_journal.specs.declared.entries.Entry.TheVariants as entry
use Rattle.ff_journal.specs.declared.entries.Outcome.{Outcome}
use Rattle.ff_journal.specs.Epochs.{is_change, changes, last_begun, givens_of}
use Rattle.ff_journal.specs.Publications.{published, outcomes, outcome_in}
use Rattle.ff_journal.specs.Journals.{IsLegal, IsLegalFor, IsComplete, commands_of, command_by, script_of}
use Rattle.ff_journal.proofs.Snoc.{changes_same, changes_more}
use Rattle.ff_core.specs.declared.events.Step.{Step}
use Rattle.ff_core.specs.declared.events.Step.TheVariants as step
use Rattle.ff_core.specs.declared.events.Left.TheVariants as left
use Rattle.ff_core.specs.States.{State, AreOpening}
use Rattle.ff_core.specs.Steps.{IsStep, Says, Publishes, WorksOnAfter, WorkNext}
use Rattle.ff_serve.specs.Reaching.{IsOpened, IsSameButWork, IsQuiet}
use Rattle.ff_serve.specs.Served.{event_of, AllPublished, IsOnePublished, IsAtMostOneBegun, HasMorePublished, IsServed, AreServed, HasCommonRoom, HasRoomFor, commands_in}

-- ---- one entry more

commands_more : (v : ℕ) (xs ys : List Entry) → commands_of v (xs ++ ys) ≡ commands_of v xs ++ commands_of v ys
commands_more v xs ys = filter_map-append (command_by v) xs ys

published_more : (xs ys : List Entry) → published (xs ++ ys) ≡ published xs + published ys
published_more xs ys = ap length (filter_map-append outcome_in xs ys) ∙ length-append (outcomes xs) (outcomes ys)

commands_published : (v : ℕ) (xs : List Entry) (e : ℕ) (o : Outcome) → commands_of v (xs ++ entry.Published e o ∷ []) ≡ commands_of v xs
commands_published v xs e o = commands_more v xs (entry.Published e o ∷ []) ∙ append-nil (commands_of v xs)

one_own : (v w i : ℕ) (c : Command) (r : Reply) → w ≡ v → commands_of v (entry.Said w i c r ∷ []) ≡ c ∷ []
one_own v w i c r e = rw (eq-eqb w v e) refl

one_other : (v w i : ℕ) (c : Command) (r : Reply) → w ≢ v → commands_of v (entry.Said w i c r ∷ []) ≡ []
one_other v w i c r n = rw (ne_eqb w v n) refl

begun_published : (xs : List Entry) (e : ℕ) (o : Outcome) → last_begun (xs ++ entry.Published e o ∷ []) ≡ last_begun xs
begun_published xs e o = ap length (changes_same xs (entry.Published e o) refl)

few_more : (b : Bool) (x : Entry) (xs ys : List Entry) (n : ℕ) → length xs ≤ n → ys ≡ (if b then x ∷ xs else xs) → length ys ≤ suc n
few_more true x xs ys n h is = let l = ap length is in omega (arith, h, l)
few_more false x xs ys n h is = let l = ap length is in omega (arith, h, l)

-- no more changes than entries
pub changes_few : (xs : List Entry) → length (changes xs) ≤ length xs
changes_few [] = omega arith
changes_few (x ∷ xs) = few_more (is_change x) x (changes xs) (changes (x ∷ xs)) (length xs) (changes_few xs) refl

-- an entry begins an epoch, or it doesn't
begun_said : (xs : List Entry) (x : Entry) (b : Bool) → is_change x ≡ b
    → ((last_begun (xs ++ x ∷ []) ≡ last_begun xs) ⊎ (last_begun (xs ++ x ∷ []) ≡ last_begun xs + 1))
begun_said xs x true is = inr (ap length (changes_more xs x is) ∙ length-append (changes xs) (x ∷ []))
begun_said xs x false is = inl (ap length (changes_same xs x is))

-- ---- publications

-- the publication is taken where nothing more is to be deduced
pub publishes : (case : Case) (old now new : State) (answer : Step) → published old.journal ≡ last_begun old.journal → IsSameButWork old now
    → IsOpened case old → IsQuiet case now → (now.working ≡ None → ⊥) → Publishes case now new answer → IsOnePublished old new
publishes case old now new step.Took last same opened quiet works took =
    let o : Outcome = took.1 in
    let before : now.journal ≡ old.journal = ap (λ (z : State). z.journal) same in
    let journal : new.journal ≡ old.journal ++ entry.Published (published old.journal) o ∷ [] =
    took.4 ∙ ap (λ (j : List Entry). j ++ entry.Published (published j) o ∷ []) before in
    record {
      outcome = o;
      appended = journal;
      all = (let p = published_more old.journal (entry.Published (published old.journal) o ∷ []) in
          let b = begun_published old.journal (published old.journal) o in
          let pj = ap published journal in let bj = ap last_begun journal in omega arith);
      budget = took.5 ∙ ap (λ (z : State). z.budget) same;
    }
publishes case old now new (step.Left left.NoEpoch) last same opened quiet works took = absurd (works took.0)
publishes case old now new (step.Left (left.NotClosed c)) last same opened quiet works took = absurd (quiet took.0 took.1 (c, took.2))
publishes case old now new (step.Left (left.Held h)) last same opened quiet works took = absurd took
publishes case old now new (step.Left left.NotForced) last same opened quiet works took = absurd took
publishes case old now new (step.Left (left.NotPublished e)) last same opened quiet works took = absurd took
publishes case old now new (step.Said told) last same opened quiet works took = absurd took

pub more_published : (old new : State) → IsOnePublished old new → HasMorePublished old new
more_published old new one = record {
  commands = λ v. ap (commands_of v) one.appended ∙ commands_published v old.journal (published old.journal) one.outcome;
  few = (let n = ap length one.appended ∙ length-append old.journal (entry.Published (published old.journal) one.outcome ∷ []) in omega arith);
  budget = one.budget;
}

-- ---- entries of viewers

-- a command's event says it
pub step_says : (case : Case) (old new : State) (viewer : ℕ) (said : Command) (answer : Step) → IsStep case old (event_of viewer said) new answer
    → Says case old viewer said new answer
step_says case old new viewer (command.Pin f g value) answer is = is
step_says case old new viewer (command.Unpin f g) answer is = is
step_says case old new viewer (command.Ask question) answer is = is

-- after a viewer's entry: one command more, and at most one epoch that is unpublished
pub record IsAfterSaid (case : Case) (viewer : ℕ) (said : Command) (old new : State) : Type 0 where
  pub own : commands_of viewer new.journal ≡ commands_of viewer old.journal ++ said ∷ []
  pub others : (v : ℕ) → v ≢ viewer → commands_of v new.journal ≡ commands_of v old.journal
  pub long : length new.journal ≡ length old.journal + 1
  pub budget : new.budget ≡ old.budget
  pub next : IsAtMostOneBegun case new

opened_next : (case : Case) (j : List Entry) (e : ℕ) (w : Option (List (Option Fact))) → e ≤ last_begun j → published j ≡ e → WorkNext case j e w
    → (work : List (Option Fact)) × (w ≡ Some work) × AreOpening case.system.vars (givens_of case j (published j)) work
opened_next case j e None begun same next = absurd (omega (arith, begun, next))
opened_next case j e (Some fs) begun same next = (fs, refl, subst (λ (n : ℕ). AreOpening case.system.vars (givens_of case j n) fs) (sym same) next.1)

next_after : (case : Case) (old new : State) (x : Entry) → new.journal ≡ old.journal ++ x ∷ [] → published (x ∷ []) ≡ 0 → AllPublished old.journal
    → WorksOnAfter case old new
    → ((last_begun (old.journal ++ x ∷ []) ≡ last_begun old.journal) ⊎ (last_begun (old.journal ++ x ∷ []) ≡ last_begun old.journal + 1)) → IsAtMostOneBegun case new
next_after case old new x journal none all works (inl same) =
    let p = published_more old.journal (x ∷ []) in let pj = ap published journal in let bj = ap last_begun journal in inl (omega (arith, all))
next_after case old new x journal none all works (inr more) =
    let p = published_more old.journal (x ∷ []) in let pj = ap published journal in let bj = ap last_begun journal in
    let same : published new.journal ≡ published old.journal = omega arith in
    inr (
      omega (arith, all),
      ⊎_elim (λ early. absurd (let e = early.0 in omega (arith, all)))
          (λ late. opened_next case new.journal (published old.journal) new.working (omega (arith, all)) same late.1) works,
    )

pub after_said : (case : Case) (old new : State) (viewer : ℕ) (said : Command) (answer : Step) → AllPublished old.journal
    → Says case old viewer said new answer → IsAfterSaid case viewer said old new
after_said case old new viewer said (step.Said told) all says =
    let i : ℕ = length (commands_of viewer old.journal) in
    let x : Entry = entry.Said viewer i said told in
    let journal : new.journal ≡ old.journal ++ x ∷ [] = says.1 in
    record {
      own = ap (commands_of viewer) journal ∙ (commands_more viewer old.journal (x ∷ []) ∙ ap (λ (cs : List Command). commands_of viewer old.journal ++ cs) (one_own viewer viewer i said told refl));
      others = λ v n. ap (commands_of v) journal ∙ (commands_more v old.journal (x ∷ []) ∙ (ap (λ (cs : List Command). commands_of v old.journal ++ cs) (one_other v viewer i said told (λ e. n (sym e))) ∙ append-nil (commands_of v old.journal)));
      long = ap length journal ∙ length-append old.journal (x ∷ []);
      budget = says.2;
      next = next_after case old new x journal refl all says.4 (begun_said old.journal x (is_change x) refl);
    }
after_said case old new viewer said (step.Left (left.NotPublished e)) all says = absurd (⊎_elim
    (λ none. let z = none.0 in omega (arith, all))
    (λ board. let z = board.2 in omega (arith, all)) says.0)
after_said case old new viewer said (step.Left (left.Held h)) all says = absurd says
after_said case old new viewer said (step.Left left.NotForced) all says = absurd says
after_said case old new viewer said (step.Left left.NoEpoch) all says = absurd says
after_said case old new viewer said (step.Left (left.NotClosed c)) all says = absurd says
after_said case old new viewer said step.Took all says = absurd says

pub served : (case : Case) (viewer : ℕ) (said : Command) (old mid new : State) → IsAfterSaid case viewer said old mid → HasMorePublished mid new
    → IsServed viewer said old.journal new.journal
served case viewer said old mid new after more = record {
  own = more.commands viewer ∙ after.own;
  others = λ v n. more.commands v ∙ after.others v n;
  few = (let l = after.long in let f = more.few in omega arith);
}

-- ---- scripts

-- what stands in a list, whatever stands for it beyond
pub any_default : {X : Type 0} → (xs : List X) (i : ℕ) (d e : X) → i < length xs → get_or xs i d ≡ get_or xs i e
any_default xs i d e below = sym (get_or_from_slice_get xs i (get_or xs i d) e (slice_get-get_or xs i d below))

take_all : {X : Type 0} → (xs : List X) → take (length xs) xs ≡ xs
take_all [] = refl
take_all (x ∷ xs) = ap (λ ys. x ∷ ys) (take_all xs)

pub served_more : (scripts : List (List Command)) (w i : ℕ) (said : Command) (old new : List Entry) → i < length (script_of scripts w)
    → get_or (script_of scripts w) i said ≡ said → AreServed scripts w i old → IsServed w said old new → AreServed scripts w (i + 1) new
served_more scripts w i said old new below is was one = record {
  before = λ v l. one.others v (omega (arith, l)) ∙ was.before v l;
  here = one.own ∙ (ap (λ (cs : List Command). cs ++ said ∷ []) was.here
      ∙ (ap (λ (c : Command). take i (script_of scripts w) ++ c ∷ []) (sym is) ∙ sym (take_more (script_of scripts w) i said below)));
  after = λ v l. one.others v (omega (arith, l)) ∙ was.after v l;
}

pub next_viewer : (scripts : List (List Command)) (w : ℕ) (j : List Entry) → AreServed scripts w (length (script_of scripts w)) j → AreServed scripts (w + 1) 0 j
next_viewer scripts w j was = record {
  before = λ v l. dite (ℕ_discrete v w)
      (λ e. ap (λ (u : ℕ). commands_of u j) e ∙ (was.here ∙ (take_all (script_of scripts w) ∙ ap (script_of scripts) (sym e))))
      (λ n. was.before v (omega arith));
  here = was.after (w + 1) (omega arith);
  after = λ v l. was.after v (omega arith);
}

commands_suc : (scripts : List (List Command)) (w : ℕ) → w < length scripts
    → commands_in (take (suc w) scripts) ≡ commands_in (take w scripts) + length (script_of scripts w)
commands_suc [] w below = absurd (omega (arith, below))
commands_suc (s ∷ scripts) zero below = omega arith
commands_suc (s ∷ scripts) (suc w) below = let h = commands_suc scripts w (omega (arith, below)) in omega arith

-- how many commands the first w scripts and w's have
pub commands_next : (scripts : List (List Command)) (w : ℕ) → w < length scripts
    → commands_in (take (w + 1) scripts) ≡ commands_in (take w scripts) + length (script_of scripts w)
commands_next scripts w below = let next : w + 1 ≡ suc w = omega arith in ap (λ (n : ℕ). commands_in (take n scripts)) next ∙ commands_suc scripts w below

pub commands_front : (scripts : List (List Command)) (w : ℕ) → commands_in (take w scripts) ≤ commands_in scripts
commands_front scripts zero = omega arith
commands_front [] (suc w) = omega arith
commands_front (s ∷ scripts) (suc w) = let h = commands_front scripts w in omega arith

script_past : (scripts : List (List Command)) (v : ℕ) → length scripts ≤ v → script_of scripts v ≡ []
script_past [] v past = refl
script_past (s ∷ scripts) zero past = absurd (omega (arith, past))
script_past (s ∷ scripts) (suc v) past = script_past scripts v (omega (arith, past))

all_commands : (scripts : List (List Command)) (j : List Entry) → AreServed scripts (length scripts) 0 j → (v : ℕ) → commands_of v j ≡ script_of scripts v
all_commands scripts j was v = ⊎_elim (λ l. was.before v l)
    (λ past. dite (ℕ_discrete v (length scripts))
    (λ e. ap (λ (u : ℕ). commands_of u j) e ∙ (was.here ∙ sym (script_past scripts v past)))
    (λ n. was.after v (omega (arith, past)) ∙ sym (script_past scripts v past)))
    (cases_lt v (length scripts))

pub complete : (scripts : List (List Command)) (j : List Entry) → AreServed scripts (length scripts) 0 j → AllPublished j → IsComplete scripts j
complete scripts j was all = record { exhausted = all_commands scripts j was; all_published = all }

pub legal : (case : Case) (budget : ℕ) (scripts : List (List Command)) (j : List Entry) → IsLegal case budget j
    → AreServed scripts (length scripts) 0 j → IsLegalFor case budget scripts j
legal case budget scripts j is was = record {
  legal = is;
  scripted = λ v. ([], sym (all_commands scripts j was v) ∙ sym (append-nil (commands_of v j)));
}

-- ---- room

-- how many commands were served so far, and w's script among all
script_within : (scripts : List (List Command)) (w : ℕ) → w < length scripts
    → commands_in (take w scripts) + length (script_of scripts w) ≤ commands_in scripts
script_within scripts w below = let a = commands_next scripts w below in let b = commands_front scripts (w + 1) in omega arith

pub script_short : (scripts : List (List Command)) (w : ℕ) → w < length scripts → commands_in scripts ≤ 2 ^ 20 → length (script_of scripts w) ≤ 2 ^ 20
script_short scripts w below short = let a = script_within scripts w below in omega (arith, short)

pub room_for_two : (case : Case) (scripts : List (List Command)) (w i : ℕ) (j : List Entry) → HasCommonRoom case → commands_in scripts ≤ 2 ^ 20
    → w < length scripts → i ≤ length (script_of scripts w) → length j ≤ 1 + 2 * (commands_in (take w scripts) + i) → HasRoomFor case j 2
room_for_two case scripts w i j common short below within few = let a = script_within scripts w below in record {
  room = omega (arith, a, short, within, few);
  few = omega (arith, a, short, within, few, common.starts);
  constraints = common.constraints;
}

pub few_next : (scripts : List (List Command)) (w n : ℕ) → w < length scripts → n ≤ 1 + 2 * (commands_in (take w scripts) + length (script_of scripts w))
    → n ≤ 1 + 2 * commands_in (take (w + 1) scripts)
few_next scripts w n below few = let a = commands_next scripts w below in omega (arith, few)
