-- Seats go on.
use Rattle.std.proofs.Common.{◌≡◌, ◌≤◌, ◌+◌, ℕ, refl, sym, ap, ◌∙◌, subst, arith}
use Rattle.atomic_table.specs.Seated.{TableId}
use Rattle.ff_board.specs.declared.seats.View.{View}
use Rattle.ff_board.specs.Rule.{Looked}
use Rattle.ff_board.specs.Views.{SeatView, GoesOn}

pub goes_nowhere : (s : SeatView) → GoesOn s s
goes_nowhere s = (refl, refl, λ v h e. e, omega arith)

pub goes_further : (a b c : SeatView) → GoesOn a b → GoesOn b c → GoesOn a c
goes_further a b c p q = (q.0 ∙ p.0, q.1 ∙ p.1, λ v h e. q.2 v h (p.2 v h e), omega (arith, p.3, q.3))

-- what a look tells of a view is told of the seat that has it
module _ (t : TableId) (d : View) (s : SeatView) (at : ◌≡◌ {A = SeatView} (record { table = t; view = d }) s) where
  pub look_goes : (t' : TableId) (d' : View) (v n n' : ℕ) → t' ≡ t → Looked d v n n' d' → GoesOn s (record { table = t'; view = d' })
  look_goes t' d' v n n' same look =
      let more : d'.looks ≡ d.looks + 1 = ap (λ (x : View). x.looks) look.is in
      subst (λ (x : SeatView). GoesOn x (record { table = t'; view = d' })) at
      (same, ap (λ (x : View). x.opening) look.is, look.kept, omega (arith, more))

  pub look_told : (d' : View) (v n n' : ℕ) → Looked d v n n' d' → Looked s.view v n n' d'
  look_told d' v n n' look = subst (λ (x : SeatView). Looked x.view v n n' d') at look
