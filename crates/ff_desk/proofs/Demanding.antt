-- What one more entry demands.
use Rattle.std.proofs.Common.{◌≡◌, ℕ, zero, suc, ◌+◌, ◌<◌, ◌⊎◌, inl, inr, List, [], ◌∷◌, ◌++◌, length, drop, slice_get, sym, refl, ap, ◌∙◌, subst, arith, Some}
use Rattle.std.proofs.lemmas.List.{drop-append-le}
use Rattle.ff_viewer.specs.declared.commands.Command.{Command}
use Rattle.ff_viewer.specs.declared.replies.Reply.{Reply}
use Rattle.ff_journal.specs.declared.entries.Entry.{Entry}
use Rattle.ff_journal.specs.declared.entries.Entry.TheVariants as entry
use Rattle.ff_journal.specs.declared.entries.Outcome.{Outcome}
use Rattle.ff_journal.specs.Publications.{outcomes}
use Rattle.ff_journal.proofs.Snoc.{get_more, outcomes_said, outcomes_published}
use Rattle.ff_desk.specs.Demands.{Demands, demand_of, demand_in, IsDemanded}

-- what is demanded after one more entry of a viewer is demanded by it, or was demanded
pub demanded_said : (j : List Entry) (viewer index : ℕ) (said : Command) (told : Reply) (p : ℕ)
    → IsDemanded (j ++ entry.Said viewer index said told ∷ []) p → Demands (demand_of said told) p ⊎ IsDemanded j p
demanded_said j viewer index said told p d = pick (get_more j s d.entry d.place d.there)
  where
    s : Entry
    s = entry.Said viewer index said told

    pick : ((d.place < length j) × (slice_get j d.place ≡ Some d.entry)) ⊎ ((d.place ≡ length j) × (s ≡ d.entry))
        → Demands (demand_of said told) p ⊎ IsDemanded j p
    pick (inl (l, g)) = inr (record {
      place = d.place;
      entry = d.entry;
      there = g;
      since = sym (outcomes_said (drop d.place j) viewer index said told)
          ∙ ap (λ t. outcomes t) (sym (drop-append-le d.place j (s ∷ []) (omega (arith, l)))) ∙ d.since;
      demands = d.demands;
    })
    pick (inr (l, g)) = inl (subst (λ e. Demands (demand_in e) p) (sym g) d.demands)

got_before : (xs : List Entry) (x y : Entry) (n : ℕ) → slice_get xs n ≡ Some y → (n < length xs) × (slice_get (xs ++ x ∷ []) n ≡ Some y)
got_before [] x y n h = absurd (nothing n y h)
  where
    nothing : (n : ℕ) (y : Entry) → slice_get [] n ≡ Some y → ⊥
    nothing n y h = cc
got_before (z ∷ xs) x y zero h = (omega arith, h)
got_before (z ∷ xs) x y (suc n) h = let r = got_before xs x y n h in (let l = r.0 in omega (arith, l), r.1)

got_last : (xs : List Entry) (x : Entry) → slice_get (xs ++ x ∷ []) (length xs) ≡ Some x
got_last [] x = refl
got_last (y ∷ xs) x = got_last xs x

dropped_all : (xs : List Entry) (x : Entry) → drop (length xs) (xs ++ x ∷ []) ≡ x ∷ []
dropped_all [] x = refl
dropped_all (y ∷ xs) x = dropped_all xs x

-- what was demanded stays so after an entry of a viewer
pub demanded_before : (j : List Entry) (viewer index : ℕ) (said : Command) (told : Reply) (p : ℕ)
    → IsDemanded j p → IsDemanded (j ++ entry.Said viewer index said told ∷ []) p
demanded_before j viewer index said told p d =
    let s : Entry = entry.Said viewer index said told in
    let g = got_before j s d.entry d.place d.there in record {
      place = d.place;
      entry = d.entry;
      there = g.1;
      since = ap (λ t. outcomes t) (let l = g.0 in drop-append-le d.place j (s ∷ []) (omega (arith, l)))
          ∙ outcomes_said (drop d.place j) viewer index said told ∙ d.since;
      demands = d.demands;
    }

-- what the entry demands is demanded
pub demanded_here : (j : List Entry) (viewer index : ℕ) (said : Command) (told : Reply) (p : ℕ)
    → Demands (demand_of said told) p → IsDemanded (j ++ entry.Said viewer index said told ∷ []) p
demanded_here j viewer index said told p d =
    let s : Entry = entry.Said viewer index said told in record {
      place = length j;
      entry = s;
      there = got_last j s;
      since = ap (λ t. outcomes t) (dropped_all j s);
      demands = d;
    }

append_some : {X : Type 0} → (xs : List X) (x : X) → xs ++ x ∷ [] ≡ [] → ⊥
append_some [] x h = cc
append_some (y ∷ xs) x h = cc

-- after a publication nothing is demanded
pub demanded_published : (j : List Entry) (e : ℕ) (outcome : Outcome) (p : ℕ)
    → IsDemanded (j ++ entry.Published e outcome ∷ []) p → ⊥
demanded_published j e outcome p d = pick (get_more j x d.entry d.place d.there)
  where
    x : Entry
    x = entry.Published e outcome

    pick : ((d.place < length j) × (slice_get j d.place ≡ Some d.entry)) ⊎ ((d.place ≡ length j) × (x ≡ d.entry)) → ⊥
    pick (inl (l, g)) = append_some (outcomes (drop d.place j)) outcome (sym (outcomes_published (drop d.place j) e outcome)
        ∙ ap (λ t. outcomes t) (sym (drop-append-le d.place j (x ∷ []) (omega (arith, l)))) ∙ d.since)
    pick (inr (l, g)) = subst (λ y. Demands (demand_in y) p) (sym g) d.demands
