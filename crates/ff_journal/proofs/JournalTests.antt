-- The journal of a strip of three panels with two valleys: one viewer pins faces 0 and 2, asks, unpins, asks and unpins again.
use Rattle.std.proofs.Common.{◌≡◌, ℕ, zero, suc, ◌+◌, ◌<◌, true, false, eqb, List, [], ◌∷◌, ◌++◌, take, map, slice_get, refl, ◌∙◌, ap, subst, Some, None, arith, lit<, Contains}
use Rattle.std.proofs.lemmas.Bool.{ne_eqb}
use Rattle.ff_tables.specs.declared.orders.Order.TheVariants.{Below, Above}
use Rattle.ff_tables.specs.declared.givens.Given.{Given}
use Rattle.ff_tables.specs.declared.givens.GivenBy.TheVariants as by
use Rattle.ff_tables.specs.declared.terms.Kind.TheVariants.{Transitivity}
use Rattle.ff_tables.specs.declared.terms.Constraint.{Constraint}
use Rattle.ff_tables.specs.Orders.{term_at}
use Rattle.ff_tables.specs.Systems.{AreFit, IsFit}
use Rattle.ff_types.specs.declared.cites.Cite.TheVariants as cite
use Rattle.ff_types.specs.declared.cases.Case.{Case}
use Rattle.ff_types.specs.CaseFields.{AreCaseFields, is_crease}
use Rattle.ff_viewer.specs.declared.commands.Command.{Command}
use Rattle.ff_viewer.specs.declared.commands.Command.TheVariants as command
use Rattle.ff_viewer.specs.declared.commands.Question.TheVariants as ask
use Rattle.ff_viewer.specs.declared.replies.Reply.TheVariants as reply
use Rattle.ff_journal.specs.declared.entries.Entry.{Entry}
use Rattle.ff_journal.specs.declared.entries.Entry.TheVariants as entry
use Rattle.ff_journal.specs.declared.entries.Outcome.TheVariants as outcome
use Rattle.ff_types.specs.Pairs.{number_of}
use Rattle.ff_journal.specs.Epochs.{changes, last_begun, held_by, in_force_after, pins_of, givens_of}
use Rattle.ff_journal.specs.Publications.{IsLast}
use Rattle.ff_journal.specs.Reasons.{Named, names_in, IsNamedSince, KeepsLevels}
use Rattle.ff_journal.specs.Replies.{held_for, pin_reply, unpin_reply, order_reply}
use Rattle.ff_journal.specs.Journals.{commands_of, script_of, IsComplete}

abbrev con : Constraint
con = record { kind = Transitivity; terms = record { var = 0; flipped = false } ∷ record { var = 1; flipped = false } ∷ record { var = 2; flipped = false } ∷ [] }

some_con : (a b : Constraint) → Some a ≡ Some b → a ≡ b
some_con a b e = cc

no_con : (a : Constraint) → None ≡ Some a → ⊥
no_con a e = cc

past_three : (j : ℕ) → suc (suc (suc j)) < 3 → ⊥
past_three j l = omega (arith, l)

fit : AreFit 3 (con ∷ [])
fit zero c e = subst (λ x. IsFit 3 x) (some_con con c e) (record { terms = refl; within = within; differ = differ })
  where
    within : (j : ℕ) → j < 3 → (term_at con.terms j).var < 3
    within zero l = lit< tt
    within (suc zero) l = lit< tt
    within (suc (suc zero)) l = lit< tt
    within (suc (suc (suc j))) l = absurd (past_three j l)

    differ : (i j : ℕ) → i < 3 → j < 3 → (term_at con.terms i).var ≡ (term_at con.terms j).var → i ≡ j
    differ zero zero l m e = refl
    differ zero (suc zero) l m e = absurd (omega (arith, e))
    differ zero (suc (suc zero)) l m e = absurd (omega (arith, e))
    differ (suc zero) zero l m e = absurd (omega (arith, e))
    differ (suc zero) (suc zero) l m e = refl
    differ (suc zero) (suc (suc zero)) l m e = absurd (omega (arith, e))
    differ (suc (suc zero)) zero l m e = absurd (omega (arith, e))
    differ (suc (suc zero)) (suc zero) l m e = absurd (omega (arith, e))
    differ (suc (suc zero)) (suc (suc zero)) l m e = refl
    differ i (suc (suc (suc j))) l m e = absurd (past_three j m)
    differ (suc (suc (suc i))) j l m e = absurd (past_three i l)
fit (suc n) c e = absurd (no_con c e)

abbrev pairs : List (ℕ × ℕ)
pairs = (0, 1) ∷ (0, 2) ∷ (1, 2) ∷ []

abbrev starts : List Given
starts = record { var = 0; value = Below; by = by.Crease 8 } ∷ record { var = 2; value = Above; by = by.Crease 9 } ∷ []

some_given : (a b : Given) → Some a ≡ Some b → a ≡ b
some_given a b e = cc

no_given : (a : Given) → None ≡ Some a → ⊥
no_given a e = cc

same_crease : (d e : ℕ) → by.Crease d ≡ by.Crease e → d ≡ e
same_crease d e h = cc

fields : AreCaseFields (record { vars = 3; constraints = con ∷ []; fit = fit }) (cite.Transitivity 0 1 2 [] ∷ []) pairs starts
fields = record { cited = refl; paired = refl; fit = inside; by_creases = creases; rising = rising }
  where
    inside : (i : ℕ) (g : Given) → slice_get starts i ≡ Some g → g.var < 3
    inside zero g e = subst (λ (x : Given). x.var < 3) (some_given _ g e) (lit< tt)
    inside (suc zero) g e = subst (λ (x : Given). x.var < 3) (some_given _ g e) (lit< tt)
    inside (suc (suc i)) g e = absurd (no_given g e)

    creases : (i : ℕ) (g : Given) → slice_get starts i ≡ Some g → is_crease g.by ≡ true
    creases zero g e = subst (λ (x : Given). is_crease x.by ≡ true) (some_given _ g e) refl
    creases (suc zero) g e = subst (λ (x : Given). is_crease x.by ≡ true) (some_given _ g e) refl
    creases (suc (suc i)) g e = absurd (no_given g e)

    rising : (i j : ℕ) (g h : Given) (d e : ℕ) → i < j → slice_get starts i ≡ Some g → slice_get starts j ≡ Some h
        → g.by ≡ by.Crease d → h.by ≡ by.Crease e → d < e
    rising zero (suc zero) g h d e l a b x y =
        let p : 8 ≡ d = same_crease 8 d (ap (λ (z : Given). z.by) (some_given _ g a) ∙ x) in
        let q : 9 ≡ e = same_crease 9 e (ap (λ (z : Given). z.by) (some_given _ h b) ∙ y) in
        omega (arith, p, q)
    rising zero zero g h d e l a b x y = absurd (omega (arith, l))
    rising i (suc (suc j)) g h d e l a b x y = absurd (no_given h b)
    rising (suc i) zero g h d e l a b x y = absurd (omega (arith, l))
    rising (suc i) (suc zero) g h d e l a b x y = absurd (omega (arith, l))

abbrev case_of_three : Case
case_of_three = record { system = record { vars = 3; constraints = con ∷ []; fit = fit }; cites = cite.Transitivity 0 1 2 [] ∷ []; pairs = pairs; starts = starts; valid = fields }

abbrev published_0 : Entry
published_0 = entry.Published 0 (outcome.Board (Some Below ∷ None ∷ Some Above ∷ []))

abbrev pinned_0 : Entry
pinned_0 = entry.Said 0 0 (command.Pin 0 2 Above) (reply.Epoch 1)

abbrev published_1 : Entry
published_1 = entry.Published 1 (outcome.Board (Some Below ∷ Some Above ∷ Some Above ∷ []))

abbrev board_1 : Entry
board_1 = entry.Said 0 1 (command.Ask ask.Board) (reply.Shown 1 (Some (Some Below ∷ Some Above ∷ Some Above ∷ [])))

abbrev unpinned_2 : Entry
unpinned_2 = entry.Said 0 2 (command.Unpin 2 0) (reply.Epoch 2)

abbrev published_2 : Entry
published_2 = entry.Published 2 (outcome.Board (Some Below ∷ None ∷ Some Above ∷ []))

abbrev not_held : Entry
not_held = entry.Said 0 3 (command.Unpin 0 2) reply.NotHeld

abbrev journal : List Entry
journal = published_0 ∷ pinned_0 ∷ published_1 ∷ board_1 ∷ unpinned_2 ∷ published_2 ∷ not_held ∷ []

-- epochs, and the pins in force of each
two_changes : changes journal ≡ pinned_0 ∷ unpinned_2 ∷ []
two_changes = refl

begun_so_far : map (λ n. last_begun (take n journal)) (0 ∷ 1 ∷ 2 ∷ 3 ∷ 4 ∷ 5 ∷ 6 ∷ 7 ∷ []) ≡ 0 ∷ 0 ∷ 1 ∷ 1 ∷ 1 ∷ 2 ∷ 2 ∷ 2 ∷ []
begun_so_far = refl

-- the givens of epoch 1 have the pin after the creases, and those of epoch 2 have none
givens_then : (givens_of case_of_three journal 1 ≡ starts ++ record { var = 1; value = Above; by = by.Pin } ∷ [])
    × (givens_of case_of_three journal 2 ≡ starts) × (pins_of case_of_three journal 1 ≡ record { f = 0; g = 2; value = Above } ∷ [])
givens_then = (refl, refl, refl)

-- a refused unpin changes nothing
held_then : map (λ n. held_by 0 (changes (take n journal)) (0, 2)) (1 ∷ 2 ∷ 4 ∷ 5 ∷ 7 ∷ []) ≡ None ∷ Some Above ∷ Some Above ∷ None ∷ None ∷ []
held_then = refl

-- a pin is seen from either face
held_from_both : (held_for 0 (take 4 journal) 0 2 ≡ Some Above) × (held_for 0 (take 4 journal) 2 0 ≡ Some Below)
held_from_both = (refl, refl)

-- the replies to pins at each place
pin_then : pin_reply (last_begun (take 1 journal) + 1) (Some 1) (held_for 0 (take 1 journal) 0 2) ≡ reply.Epoch 1
pin_then = refl

pin_later : pin_reply (last_begun (take 4 journal) + 1) (Some 1) (held_for 0 (take 4 journal) 2 0) ≡ reply.Held Below
pin_later = refl

-- another viewer's pin is its own
pin_of_another : pin_reply (last_begun (take 4 journal) + 1) (Some 1) (held_for 1 (take 4 journal) 2 0) ≡ reply.Epoch 2
pin_of_another = refl

-- opposite orders of two viewers are both in force, and one that two hold is in force once
opposite : (in_force_after (pinned_0 ∷ entry.Said 1 0 (command.Pin 2 0 Above) (reply.Epoch 2) ∷ []) (0, 2) ≡ Below ∷ Above ∷ [])
    × (in_force_after (pinned_0 ∷ entry.Said 1 0 (command.Pin 2 0 Below) (reply.Epoch 2) ∷ []) (0, 2) ≡ Above ∷ [])
opposite = (refl, refl)

unpin_later : unpin_reply (last_begun (take 6 journal) + 1) (Some 1) (held_for 0 (take 6 journal) 0 2) ≡ reply.NotHeld
unpin_later = refl

-- an order is seen from either face, and past faces there is no pair
orders : (order_reply 0 1 (outcome.Board (Some Below ∷ None ∷ Some Above ∷ [])) (number_of pairs 0 1) ≡ reply.Value (Some Below))
    × (order_reply 1 0 (outcome.Board (Some Below ∷ None ∷ Some Above ∷ [])) (number_of pairs 1 0) ≡ reply.Value (Some Above))
    × (order_reply 2 0 (outcome.Board (Some Below ∷ None ∷ Some Above ∷ [])) (number_of pairs 2 0) ≡ reply.Value None)
    × (order_reply 0 9 (outcome.Board (Some Below ∷ None ∷ Some Above ∷ [])) (number_of pairs 0 9) ≡ reply.NoPair)
orders = (refl, refl, refl, refl)

last_at : IsLast (take 5 journal) 1 (outcome.Board (Some Below ∷ Some Above ∷ Some Above ∷ []))
last_at = record { counted = refl; is = refl }

abbrev scripts : List (List Command)
scripts = (command.Pin 0 2 Above ∷ command.Ask ask.Board ∷ command.Unpin 2 0 ∷ command.Unpin 0 2 ∷ []) ∷ []

complete : IsComplete scripts journal
complete = record { exhausted = exhausted; all_published = refl }
  where
    exhausted : (viewer : ℕ) → commands_of viewer journal ≡ script_of scripts viewer
    exhausted zero = refl
    exhausted (suc v) = let h : eqb 0 (suc v) ≡ false = ne_eqb 0 (suc v) (λ e. omega (arith, e)) in simp h

-- ---- no two replies explain two pairs by each other

-- One reply names for the pair (f, g) a level above that of its premise (h, k), and since the same publication another reply names for
-- (h, k) a level above that of its premise (f, g): that can't be.
pub no_circle : (before : List Entry) (d e : Entry) (one two other back : Named) → KeepsLevels before e
    → ((m : Named) → Contains (names_in d) m → IsNamedSince (before ++ e ∷ []) m)
    → Contains (names_in d) one → Contains (names_in d) two → two.level < one.level
    → Contains (names_in e) other → Contains (names_in e) back → back.level < other.level
    → other.pair ≡ two.pair → back.pair ≡ one.pair → ⊥
no_circle before d e one two other back keeps since o t low u b low2 p q =
    let x : other.level ≡ two.level = keeps other two u (since two t) p in
    let y : back.level ≡ one.level = keeps back one b (since one o) q in
    omega (arith, x, y, low, low2)
