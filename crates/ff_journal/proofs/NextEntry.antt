-- What the next entry of a journal adds.
use Rattle.std.proofs.Common.{◌≡◌, ℕ, ◌+◌, ◌<◌, ◌≤◌, Bool, true, false, List, [], ◌∷◌, ◌++◌, length, take, get_or, cond, sym, refl, ap, ◌∙◌, arith, Option, Some, None, unwrap_or}
use Rattle.std.specs.Prelude.{is_some}
use Rattle.std.specs.List.{filter_map, cons_option}
use Rattle.std.proofs.lemmas.List.{take_more, append-nil, length-append}
use Rattle.std.proofs.lemmas.List.Elements.{filter_map-append}
use Rattle.ff_tables.specs.declared.orders.Order.{Order}
use Rattle.ff_journal.specs.declared.entries.Entry.{Entry}
use Rattle.ff_journal.specs.Epochs.{last_of, joined, is_change, changes, pinned_by, held_by}
use Rattle.ff_journal.specs.Publications.{outcome_in, outcomes, published}
use Rattle.ff_journal.specs.Journals.{command_by, commands_of}
use Rattle.ff_journal.specs.Reading.{one_if, next_held}
use Rattle.ff_journal.proofs.Snoc.{changes_same, changes_more, last_more}

pub at_more : (xs : List Entry) (i : ℕ) (x : Entry) → i < length xs → x ≡ get_or xs i x → take (i + 1) xs ≡ take i xs ++ x ∷ []
at_more xs i x l e = take_more xs i x l ∙ ap (λ y. take i xs ++ y ∷ []) (sym e)

option_length : {X : Type 0} → (xs : List X) (o : Option X) → length (xs ++ cons_option o []) ≡ length xs + one_if (is_some o)
option_length xs None = let h : length (xs ++ []) ≡ length xs = ap (λ t. length t) (append-nil xs) in omega (arith, h)
option_length xs (Some c) = length-append xs (c ∷ [])

-- the number of epochs published
pub published_next : (xs : List Entry) (i : ℕ) (x : Entry) (n : ℕ) → i < length xs → x ≡ get_or xs i x
    → n ≡ published (take i xs) → n + one_if (is_some (outcome_in x)) ≡ published (take (i + 1) xs)
published_next xs i x n l e h =
    ap (λ k. k + one_if (is_some (outcome_in x))) h
    ∙ sym (option_length (outcomes (take i xs)) (outcome_in x))
    ∙ ap (λ t. length t) (sym (filter_map-append outcome_in (take i xs) (x ∷ [])))
    ∙ ap published (sym (at_more xs i x l e))

-- the number of a viewer's entries
pub commands_next : (viewer : ℕ) (xs : List Entry) (i : ℕ) (x : Entry) (n : ℕ) → i < length xs → x ≡ get_or xs i x
    → n ≡ length (commands_of viewer (take i xs)) → n + one_if (is_some (command_by viewer x)) ≡ length (commands_of viewer (take (i + 1) xs))
commands_next viewer xs i x n l e h =
    ap (λ k. k + one_if (is_some (command_by viewer x))) h
    ∙ sym (option_length (commands_of viewer (take i xs)) (command_by viewer x))
    ∙ ap (λ t. length t) (sym (filter_map-append (command_by viewer) (take i xs) (x ∷ [])))
    ∙ ap (λ t. length (commands_of viewer t)) (sym (at_more xs i x l e))

held_step : (xs : List (Option Order)) (o : Option (Option Order)) → joined (last_of (xs ++ cons_option o [])) ≡ unwrap_or o (joined (last_of xs))
held_step xs None = ap (λ t. joined (last_of t)) (append-nil xs)
held_step xs (Some x) = ap joined (last_more xs x)

held_if : (v : ℕ) (p : ℕ × ℕ) (j : List Entry) (e : Entry) (b : Bool) → is_change e ≡ b
    → held_by v (changes (j ++ e ∷ [])) p ≡ cond b (unwrap_or (pinned_by v p e) (held_by v (changes j) p)) (held_by v (changes j) p)
held_if v p j e true h = ap (λ t. held_by v t p) (changes_more j e h)
    ∙ ap (λ t. joined (last_of t)) (filter_map-append (pinned_by v p) (changes j) (e ∷ []))
    ∙ held_step (filter_map (pinned_by v p) (changes j)) (pinned_by v p e)
held_if v p j e false h = ap (λ t. held_by v t p) (changes_same j e h)

-- the order that a viewer holds after one more entry
pub held_more : (v : ℕ) (p : ℕ × ℕ) (j : List Entry) (e : Entry)
    → held_by v (changes (j ++ e ∷ [])) p ≡ next_held v p e (held_by v (changes j) p)
held_more v p j e = held_if v p j e (is_change e) refl

pub held_next : (v : ℕ) (p : ℕ × ℕ) (xs : List Entry) (i : ℕ) (x : Entry) (o : Option Order) → i < length xs → x ≡ get_or xs i x
    → o ≡ held_by v (changes (take i xs)) p → next_held v p x o ≡ held_by v (changes (take (i + 1) xs)) p
held_next v p xs i x o l e h = ap (λ a. next_held v p x a) h ∙ sym (held_more v p (take i xs) x)
    ∙ ap (λ t. held_by v (changes t) p) (sym (at_more xs i x l e))

pub one_le : (b : Bool) → one_if b ≤ 1
one_le true = omega arith
one_le false = omega arith
