-- A seat outside goes in, and a seat in a turn goes out.
use Rattle.std.proofs.Common.{◌≡◌, ℕ, ⊎_elim, inl, inr, true, false, List, [], ◌∷◌, Option, None, refl, sym, ap, ◌∙◌, subst}
use Rattle.atomic_table.specs.Table.{Me}
use Rattle.ff_door.specs.declared.waiter.Waiter.{Waiter}
use Rattle.ff_door.specs.Rule.{Out, Queued, In, with_ticket, let_in}
use Rattle.ff_door.specs.Views.{IsSound}
use Rattle.ff_door.proofs.Turns.{not_it}

module _ {T E B : Type 0} where
  pub is_out : (m : Me (Option T) (Waiter E B)) → IsSound m → m.0.inside ≡ false → Out m
  is_out m sound outside = ⊎_elim (λ o. o) (λ i. absurd (not_it m.0.inside i.1 outside)) sound.1

  pub is_in : (m : Me (Option T) (Waiter E B)) → IsSound m → m.0.inside ≡ true → In m
  is_in m sound inside = ⊎_elim (λ o. absurd (not_it m.0.inside inside o.1)) (λ i. i) sound.1

  pub sound_out : (m : Me (Option T) (Waiter E B)) → Out m → m.0.parts ≡ 1 → IsSound m
  sound_out m out one = (one, inl out)

  -- a seat with a ticket waits
  pub queued : (v : Waiter E B) (t : ℕ) (m m' : Me (Option T) (Waiter E B)) → Out m → m' ≡ (with_ticket t m.0, []) → Queued m'
  queued v t m m' out is = subst Queued (sym is) (refl, out.1, out.2, refl)

  -- and comes in
  pub sound_in : (t : ℕ) (log : List E) (m q m' : Me (Option T) (Waiter E B)) → IsSound m → Out m → q ≡ (with_ticket t m.0, [])
      → m' ≡ (let_in log q.0, (0, None) ∷ []) → IsSound m'
  sound_in t log m q m' sound out drawn is =
      subst IsSound (sym (is ∙ ap (λ (z : Waiter E B). (let_in log z, (0, None) ∷ [])) (ap (λ z. z.0) drawn)))
      (sound.0, inr (refl, refl, out.2, refl))
