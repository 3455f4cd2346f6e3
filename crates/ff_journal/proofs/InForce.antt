-- Which orders are in force, entry by entry.
use Rattle.std.proofs.Common.{◌≡◌, ℕ, ◌+◌, ◌<◌, ◌||◌, Bool, true, false, List, [], ◌∷◌, ◌++◌, length, take, drop, get_or, cond, sym, refl, ap, ◌∙◌, Option, Some, None}
use Rattle.std.specs.List.{cons_option, list_any}
use Rattle.std.proofs.lemmas.List.{append-nil, take-append-drop}
use Rattle.std.proofs.lemmas.List.Elements.{filter-append, filter_map-append}
use Rattle.std.proofs.Math.Seq.{take-append_seam}
use Rattle.ff_tables.specs.declared.orders.Order.{Order}
use Rattle.ff_journal.specs.declared.entries.Entry.{Entry}
use Rattle.ff_journal.specs.Epochs.{is_change, changes, viewer_in, viewers_of, held_by, has_order, is_in_force}
use Rattle.ff_journal.specs.Reading.{changer, is_holding, is_changer_holding}
use Rattle.ff_journal.proofs.Snoc.{changes_same, changes_more}
use Rattle.ff_journal.proofs.NextEntry.{at_more}

any_two : (f : ℕ → Bool) (xs ys : List ℕ) → list_any f (xs ++ ys) ≡ (list_any f xs || list_any f ys)
any_two f [] ys = refl
any_two f (x ∷ xs) ys = by (f x) (any_two f xs ys) where
  by : (b : Bool) → list_any f (xs ++ ys) ≡ (list_any f xs || list_any f ys)
      → (b || list_any f (xs ++ ys)) ≡ ((b || list_any f xs) || list_any f ys)
  by true e = refl
  by false e = e

-- the viewers of one more entry
viewers_if : (j : List Entry) (e : Entry) (b : Bool) → is_change e ≡ b
    → viewers_of (changes (j ++ e ∷ [])) ≡ viewers_of (changes j) ++ cons_option (cond b (viewer_in e) None) []
viewers_if j e true h = ap (λ t. viewers_of t) (changes_more j e h) ∙ filter_map-append viewer_in (changes j) (e ∷ [])
viewers_if j e false h = ap (λ t. viewers_of t) (changes_same j e h) ∙ sym (append-nil (viewers_of (changes j)))

pub viewers_more : (j : List Entry) (e : Entry)
    → viewers_of (changes (j ++ e ∷ [])) ≡ viewers_of (changes j) ++ cons_option (changer e) []
viewers_more j e = viewers_if j e (is_change e) refl

-- some viewer of the first n entries holds the order
abbrev pub among : List Entry → List Entry → ℕ × ℕ → Order → Bool
among made some p s = list_any (λ v. has_order s (held_by v made p)) (viewers_of (changes some))

holding_any : (made : List Entry) (p : ℕ × ℕ) (s : Order) (o : Option ℕ)
    → list_any (λ v. has_order s (held_by v made p)) (cons_option o []) ≡ is_holding made p s o
holding_any made p s None = refl
holding_any made p s (Some v) = by (has_order s (held_by v made p)) where
  by : (b : Bool) → (b || false) ≡ b
  by true = refl
  by false = refl

pub among_more : (made j : List Entry) (e : Entry) (p : ℕ × ℕ) (s : Order)
    → among made (j ++ e ∷ []) p s ≡ (among made j p s || is_changer_holding made e p s)
among_more made j e p s = ap (λ vs. list_any (λ v. has_order s (held_by v made p)) vs) (viewers_more j e)
    ∙ any_two (λ v. has_order s (held_by v made p)) (viewers_of (changes j)) (cons_option (changer e) [])
    ∙ ap (λ b. among made j p s || b) (holding_any made p s (changer e))

-- one entry is added to those of which none is a holder's
pub none_more : (made xs : List Entry) (i : ℕ) (x : Entry) (p : ℕ × ℕ) (s : Order) → i < length xs → x ≡ get_or xs i x
    → among made (take i xs) p s ≡ false → is_changer_holding made x p s ≡ false → among made (take (i + 1) xs) p s ≡ false
none_more made xs i x p s l e none other = ap (λ t. among made t p s) (at_more xs i x l e) ∙ among_more made (take i xs) x p s
    ∙ ap (λ b. b || is_changer_holding made x p s) none ∙ other

-- a front that has a holder's entry makes it so of all
pub some_found : (made xs : List Entry) (i : ℕ) (x : Entry) (p : ℕ × ℕ) (s : Order) → i < length xs → x ≡ get_or xs i x
    → is_changer_holding made x p s ≡ true → among made xs p s ≡ true
some_found made xs i x p s l e found =
    ap (λ t. among made t p s) (sym (take-append-drop (i + 1) xs)) ∙ all_of (take (i + 1) xs) (drop (i + 1) xs)
    ∙ ap (λ b. b || among made (drop (i + 1) xs) p s) (ap (λ t. among made t p s) (at_more xs i x l e)
    ∙ among_more made (take i xs) x p s ∙ ap (λ b. among made (take i xs) p s || b) found ∙ or_true (among made (take i xs) p s))
  where
    or_true : (b : Bool) → (b || true) ≡ true
    or_true true = refl
    or_true false = refl

    all_of : (ys zs : List Entry) → among made (ys ++ zs) p s ≡ (among made ys p s || among made zs p s)
    all_of ys zs = ap (λ t. list_any (λ v. has_order s (held_by v made p)) (viewers_of t)) (filter-append is_change ys zs)
        ∙ ap (λ vs. list_any (λ v. has_order s (held_by v made p)) vs) (filter_map-append viewer_in (changes ys) (changes zs))
        ∙ any_two (λ v. has_order s (held_by v made p)) (viewers_of (changes ys)) (viewers_of (changes zs))

-- where none is a holder's
pub none_found : (xs : List Entry) (i : ℕ) (p : ℕ × ℕ) (s : Order) → i ≡ length xs → among (changes xs) (take i xs) p s ≡ false
    → is_in_force (changes xs) p s ≡ false
none_found xs i p s e none = same ∙ none where
  whole : take i xs ≡ xs
  whole = ap (λ n. take n xs) e ∙ ap (λ t. take (length xs) t) (sym (append-nil xs)) ∙ take-append_seam xs []

  same : is_in_force (changes xs) p s ≡ among (changes xs) (take i xs) p s
  same = ap (λ t. among (changes xs) t p s) (sym whole)
