-- An order is in force exactly where a viewer holds it.
use Rattle.std.proofs.Common.{◌≡◌, ℕ, ◌||◌, ◌==◌, ◌&&◌, Bool, true, false, ltb, cond, List, [], ◌∷◌, sym, refl, ap, ◌∙◌, Option, Some, None}
use Rattle.std.specs.List.{filter_map, cons_option, list_any}
use Rattle.std.proofs.lemmas.Bool.{eqb-true}
use Rattle.ff_tables.specs.declared.orders.Order.{Order}
use Rattle.ff_tables.specs.Orders.{is_order, turn}
use Rattle.ff_tables.proofs.SameOrders.{order_is, is_order_of}
use Rattle.ff_types.specs.Pairs.{in_order}
use Rattle.ff_viewer.specs.declared.commands.Command.TheVariants as command
use Rattle.ff_journal.specs.declared.entries.Entry.{Entry}
use Rattle.ff_journal.specs.declared.entries.Entry.TheVariants as entry
use Rattle.ff_journal.specs.Epochs.{joined, last_of, is_pair, pinned_by, held_by, viewer_in, viewers_of, has_order, is_in_force}

any_found : (f : ℕ → Bool) (xs : List ℕ) → list_any f xs ≡ true → (x : ℕ) × (f x ≡ true)
any_found f [] e = cc
any_found f (x ∷ xs) e = by (f x) refl e (any_found f xs) where
  by : (b : Bool) → f x ≡ b → (b || list_any f xs) ≡ true → (list_any f xs ≡ true → (y : ℕ) × (f y ≡ true)) → (y : ℕ) × (f y ≡ true)
  by true is t rest = (x, is)
  by false is t rest = rest t

order_held : (s : Order) (o : Option Order) → has_order s o ≡ true → o ≡ Some s
order_held s None e = cc
order_held s (Some t) e = ap Some (order_is t s (turned s t e)) where
  turned : (s t : Order) → is_order s t ≡ true → is_order t s ≡ true
  turned s t e = is_order_of t s (sym (order_is s t e))

held_order : (s : Order) (o : Option Order) → o ≡ Some s → has_order s o ≡ true
held_order s o e = ap (has_order s) e ∙ is_order_of s s refl

-- an entry that pins or unpins is its viewer's
pinner : (v : ℕ) (p : ℕ × ℕ) (x : Entry) (o : Option Order) → pinned_by v p x ≡ Some o → viewer_in x ≡ Some v
pinner v p (entry.Said w i (command.Pin f g s) told) o e = by (Some (Some (turn (ltb g f) s))) (w == v) refl e where
  by : (a : Option (Option Order)) (b : Bool) → (w == v) ≡ b → cond (b && is_pair p (in_order f g)) a None ≡ Some o → Some w ≡ Some v
  by a true is e = ap Some (eqb-true w v is)
  by a false is e = cc
pinner v p (entry.Said w i (command.Unpin f g) told) o e = by (Some None) (w == v) refl e where
  by : (a : Option (Option Order)) (b : Bool) → (w == v) ≡ b → cond (b && is_pair p (in_order f g)) a None ≡ Some o → Some w ≡ Some v
  by a true is e = ap Some (eqb-true w v is)
  by a false is e = cc
pinner v p (entry.Said w i (command.Ask q) told) o e = cc
pinner v p (entry.Published n x) o e = cc

or_true : (b : Bool) → (b || true) ≡ true
or_true true = refl
or_true false = refl

later : (f : ℕ → Bool) (o : Option ℕ) (vs : List ℕ) → list_any f vs ≡ true → list_any f (cons_option o vs) ≡ true
later f None vs t = t
later f (Some u) vs t = ap (λ b. f u || b) t ∙ or_true (f u)

-- a viewer that pins or unpins is among the viewers
among : (f : ℕ → Bool) (v : ℕ) (p : ℕ × ℕ) (made : List Entry) → f v ≡ true
    → (filter_map (pinned_by v p) made ≡ [] → ⊥) → list_any f (viewers_of made) ≡ true
among f v p [] t some = absurd (some refl)
among f v p (x ∷ made) t some = by (pinned_by v p x) refl (among f v p made t) some where
  by : (o : Option (Option Order)) → pinned_by v p x ≡ o
      → ((filter_map (pinned_by v p) made ≡ [] → ⊥) → list_any f (viewers_of made) ≡ true)
      → (cons_option o (filter_map (pinned_by v p) made) ≡ [] → ⊥) → list_any f (cons_option (viewer_in x) (viewers_of made)) ≡ true
  by None e rest some = later f (viewer_in x) (viewers_of made) (rest some)
  by (Some o) e rest some = ap (λ w. list_any f (cons_option w (viewers_of made))) (pinner v p x o e) ∙ ap (λ b. b || list_any f (viewers_of made)) t

holds_some : (v : ℕ) (p : ℕ × ℕ) (s : Order) (xs : List (Option Order)) → joined (last_of xs) ≡ Some s → xs ≡ [] → ⊥
holds_some v p s xs e none = absurd (nothing (ap (λ ys. joined (last_of ys)) (sym none) ∙ e)) where
  nothing : None ≡ Some s → ⊥
  nothing q = cc

pub held_where : (made : List Entry) (p : ℕ × ℕ) (s : Order) → is_in_force made p s ≡ true → (viewer : ℕ) × (held_by viewer made p ≡ Some s)
held_where made p s t = let r = any_found (λ v. has_order s (held_by v made p)) (viewers_of made) t in (r.0, order_held s (held_by r.0 made p) r.1)

pub in_force_where : (made : List Entry) (p : ℕ × ℕ) (s : Order) → (viewer : ℕ) × (held_by viewer made p ≡ Some s) → is_in_force made p s ≡ true
in_force_where made p s (v, e) = among (λ u. has_order s (held_by u made p)) v p made (held_order s (held_by v made p) e)
    (holds_some v p s (filter_map (pinned_by v p) made) e)
