-- A journal with one more entry.
use Rattle.std.proofs.Common.{◌≡◌, ℕ, zero, suc, ◌+◌, ◌<◌, ◌≤◌, ◌⊎◌, true, false, List, [], ◌∷◌, ◌++◌, length, take, drop, slice_get, cond, sym, refl, ap, ◌∙◌, subst, inl, inr, arith, Some, Contains}
use Rattle.std.specs.List.{filter_map}
use Rattle.std.proofs.lemmas.List.{take-append-le, drop-append-le, append-nil, length-append}
use Rattle.std.proofs.lemmas.List.Elements.{filter-append, filter_map-append}
use Rattle.std.proofs.Math.Seq.{take-append_seam}
use Rattle.ff_types.specs.declared.cases.Case.{Case}
use Rattle.ff_viewer.specs.declared.commands.Command.{Command}
use Rattle.ff_viewer.specs.declared.replies.Reply.{Reply}
use Rattle.ff_journal.specs.declared.entries.Entry.{Entry}
use Rattle.ff_journal.specs.declared.entries.Entry.TheVariants as entry
use Rattle.ff_journal.specs.declared.entries.Outcome.{Outcome}
use Rattle.ff_journal.specs.Epochs.{is_change, changes, last_begun, last_of, pins_after, given_of_pin, givens_of}
use Rattle.ff_journal.specs.Publications.{outcome_in, outcomes, IsLast}
use Rattle.ff_journal.specs.Reasons.{Named, names_in, IsNamedSince}
use Rattle.ff_journal.specs.Journals.{Follows, IsLegal}

-- an item of a list with one more is one of the list, or that one
pub get_more : {X : Type 0} → (xs : List X) (x y : X) (i : ℕ) → slice_get (xs ++ x ∷ []) i ≡ Some y
    → ((i < length xs) × (slice_get xs i ≡ Some y)) ⊎ ((i ≡ length xs) × (x ≡ y))
get_more [] x y zero h = inr (refl, cc)
get_more [] x y (suc i) h = cc
get_more (z ∷ xs) x y zero h = inl (omega arith, h)
get_more (z ∷ xs) x y (suc i) h = elim (get_more xs x y i h) [
  | inl g ↦ inl (let l = g.0 in omega (arith, l), g.1)
  | inr e ↦ inr (ap suc e.0, e.1)
]

-- An entry that follows a legal journal makes it longer.
pub legal_more : (case : Case) (budget : ℕ) (j : List Entry) (e : Entry) → IsLegal case budget j
    → Follows case budget j e → IsLegal case budget (j ++ e ∷ [])
legal_more case budget j e legal follows = record { each = λ i x h. pick i x (get_more j e x i h) }
  where
    pick : (i : ℕ) (x : Entry) → ((i < length j) × (slice_get j i ≡ Some x)) ⊎ ((i ≡ length j) × (e ≡ x))
        → Follows case budget (take i (j ++ e ∷ [])) x
    pick i x (inl (l, g)) = subst (λ t. Follows case budget t x) (sym (take-append-le i j (e ∷ []) (omega (arith, l)))) (legal.each i x g)
    pick i x (inr (l, g)) = subst (λ y. Follows case budget (take i (j ++ e ∷ [])) y) g
        (subst (λ t. Follows case budget t e) (sym (ap (λ n. take n (j ++ e ∷ [])) l ∙ take-append_seam j (e ∷ []))) follows)

-- ---- what a journal tells

pub changes_same : (j : List Entry) (e : Entry) → is_change e ≡ false → changes (j ++ e ∷ []) ≡ changes j
changes_same j e h = filter-append is_change j (e ∷ []) ∙ ap (λ b. changes j ++ cond b (e ∷ []) []) h ∙ append-nil (changes j)

pub changes_more : (j : List Entry) (e : Entry) → is_change e ≡ true → changes (j ++ e ∷ []) ≡ changes j ++ e ∷ []
changes_more j e h = filter-append is_change j (e ∷ []) ∙ ap (λ b. changes j ++ cond b (e ∷ []) []) h

-- epochs that have begun keep their changes
pub changes_kept : (j : List Entry) (e : Entry) (n : ℕ) → n ≤ last_begun j → take n (changes (j ++ e ∷ [])) ≡ take n (changes j)
changes_kept j e n l = ap (λ t. take n t) (filter-append is_change j (e ∷ [])) ∙ take-append-le n (changes j) (changes (e ∷ [])) l

pub begun_grows : (j : List Entry) (e : Entry) → last_begun j ≤ last_begun (j ++ e ∷ [])
begun_grows j e =
    let h : length (changes (j ++ e ∷ [])) ≡ length (changes j ++ changes (e ∷ [])) = ap (λ t. length t) (filter-append is_change j (e ∷ [])) in
    let g : length (changes j ++ changes (e ∷ [])) ≡ length (changes j) + length (changes (e ∷ [])) = length-append (changes j) (changes (e ∷ [])) in
    omega (arith, h, g)

pub givens_kept : (case : Case) (j : List Entry) (e : Entry) (n : ℕ) → n ≤ last_begun j
    → givens_of case (j ++ e ∷ []) n ≡ givens_of case j n
givens_kept case j e n l = ap (λ t. case.starts ++ filter_map (given_of_pin case.pairs) (pins_after case.pairs t)) (changes_kept j e n l)

pub outcomes_said : (j : List Entry) (viewer index : ℕ) (said : Command) (told : Reply)
    → outcomes (j ++ entry.Said viewer index said told ∷ []) ≡ outcomes j
outcomes_said j viewer index said told = filter_map-append outcome_in j (entry.Said viewer index said told ∷ []) ∙ append-nil (outcomes j)

pub outcomes_published : (j : List Entry) (e : ℕ) (outcome : Outcome)
    → outcomes (j ++ entry.Published e outcome ∷ []) ≡ outcomes j ++ outcome ∷ []
outcomes_published j e outcome = filter_map-append outcome_in j (entry.Published e outcome ∷ [])

pub last_more : {X : Type 0} → (xs : List X) (x : X) → last_of (xs ++ x ∷ []) ≡ Some x
last_more [] x = refl
last_more (y ∷ []) x = refl
last_more (y ∷ z ∷ xs) x = last_more (z ∷ xs) x

pub last_said : (j : List Entry) (viewer index : ℕ) (said : Command) (told : Reply) (e : ℕ) (last : Outcome)
    → IsLast j e last → IsLast (j ++ entry.Said viewer index said told ∷ []) e last
last_said j viewer index said told e last l = record {
  counted = ap (λ os. length os) (outcomes_said j viewer index said told) ∙ l.counted;
  is = ap (λ os. last_of os) (outcomes_said j viewer index said told) ∙ l.is;
}

-- ---- levels

-- what is named after one more entry of a viewer is named by it, or was named
pub named_said : (j : List Entry) (viewer index : ℕ) (said : Command) (told : Reply) (m : Named)
    → IsNamedSince (j ++ entry.Said viewer index said told ∷ []) m
    → Contains (names_in (entry.Said viewer index said told)) m ⊎ IsNamedSince j m
named_said j viewer index said told m n = pick (get_more j s n.entry n.place n.there)
  where
    s : Entry
    s = entry.Said viewer index said told

    pick : ((n.place < length j) × (slice_get j n.place ≡ Some n.entry)) ⊎ ((n.place ≡ length j) × (s ≡ n.entry))
        → Contains (names_in s) m ⊎ IsNamedSince j m
    pick (inl (l, g)) = inr (record {
      place = n.place;
      entry = n.entry;
      there = g;
      since = sym (outcomes_said (drop n.place j) viewer index said told)
          ∙ ap (λ t. outcomes t) (sym (drop-append-le n.place j (s ∷ []) (omega (arith, l)))) ∙ n.since;
      names = n.names;
    })
    pick (inr (l, g)) = inl (subst (λ e. Contains (names_in e) m) (sym g) n.names)

append_some : {X : Type 0} → (xs : List X) (x : X) → xs ++ x ∷ [] ≡ [] → ⊥
append_some [] x h = cc
append_some (y ∷ xs) x h = cc

-- after a publication nothing is named
pub named_published : (j : List Entry) (e : ℕ) (outcome : Outcome) (m : Named)
    → IsNamedSince (j ++ entry.Published e outcome ∷ []) m → ⊥
named_published j e outcome m n = pick (get_more j p n.entry n.place n.there)
  where
    p : Entry
    p = entry.Published e outcome

    pick : ((n.place < length j) × (slice_get j n.place ≡ Some n.entry)) ⊎ ((n.place ≡ length j) × (p ≡ n.entry)) → ⊥
    pick (inl (l, g)) = append_some (outcomes (drop n.place j)) outcome (sym (outcomes_published (drop n.place j) e outcome)
        ∙ ap (λ t. outcomes t) (sym (drop-append-le n.place j (p ∷ []) (omega (arith, l)))) ∙ n.since)
    pick (inr (l, g)) = let k : Contains (names_in p) m = subst (λ x. Contains (names_in x) m) (sym g) n.names in absurd (omega (arith, k.1))
