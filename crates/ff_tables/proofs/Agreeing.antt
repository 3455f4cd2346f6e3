-- Rows that agree with what is known.
use Rattle.std.proofs.Common.{◌≡◌, ℕ, zero, suc, ◌<◌, ◌⊎◌, ◌↔◌, ◌&&◌, Bool, true, false, List, map, length, sym, refl, ap, ◌∙◌, subst, inl, inr, arith, Option, Some, None}
use Rattle.ff_basics.proofs.Tests.{and_true, true_and}
use mathlib.Core.Logic.{dite}
use native.Mathlib.Decide.{ℕ_discrete}
use Rattle.ff_tables.specs.declared.orders.Order.{Order}
use Rattle.ff_tables.specs.declared.orders.Order.TheVariants.{Below, Above}
use Rattle.ff_tables.specs.declared.terms.Kind.{Kind}
use Rattle.ff_tables.specs.declared.terms.Term.{Term}
use Rattle.ff_tables.specs.Orders.{turn, turned_option, is_order, fits, term_at, row_at}
use Rattle.ff_tables.specs.Forces.{Forces, Agrees, known_at, agrees_below, Knows, SomeAgrees, NoneAgrees, Only, Can, Settled}
use Rattle.ff_tables.specs.Masks.{OnlyIs, OpenIs, bits}
use Rattle.ff_tables.specs.Rows.{rows_of}
use Rattle.ff_tables.proofs.Bits.{true_false, bits-zero, bits-some}

pub turn_turn : (b : Bool) (s : Order) → turn b (turn b s) ≡ s
turn_turn false s = refl
turn_turn true Below = refl
turn_turn true Above = refl

pub same_order : (a b : Order) → is_order a b ≡ true → b ≡ a
same_order Below Below h = refl
same_order Below Above h = cc
same_order Above Below h = cc
same_order Above Above h = refl

pub order_same : (a : Order) → is_order a a ≡ true
order_same Below = refl
order_same Above = refl

pub and_one : (a : Bool) → a ≡ (a && true)
and_one true = refl
and_one false = refl

-- what fits has the known value
pub fit_is : (fl : Bool) (o : Option Order) (b x : Order) → o ≡ Some (turn fl b)
    → fits (turned_option fl o) x ≡ true → x ≡ b
fit_is fl None b x e h = cc
fit_is fl (Some s) b x e h =
    let i : s ≡ turn fl b = cc in
    same_order (turn fl s) x h ∙ ap (turn fl) i ∙ turn_turn fl b

pub is_fit : (fl : Bool) (o : Option Order) (x : Order) → ((b : Order) → o ≡ Some (turn fl b) → x ≡ b)
    → fits (turned_option fl o) x ≡ true
is_fit fl None x h = refl
is_fit fl (Some s) x h =
    let e : x ≡ turn fl s = h (turn fl s) (ap Some (sym (turn_turn fl s))) in
    subst (λ z. is_order (turn fl s) z ≡ true) (sym e) (order_same (turn fl s))

pub fits_all : (ts : List Term) (f : ℕ → Option Order) (n : ℕ) (row : List Order) → agrees_below ts f n row ≡ true
    → (j : ℕ) (b : Order) → j < n → Knows f (term_at ts j).var (turn (term_at ts j).flipped b) → row_at row j ≡ b
fits_all ts f zero row h j b l k = absurd (omega arith)
fits_all ts f (suc n) row h j b l k =
    let p = and_true (agrees_below ts f n row) (fits (known_at ts f n) (row_at row n)) h in
    elim (split j n l) [
      | inl e ↦ subst (λ z. Knows f (term_at ts z).var (turn (term_at ts z).flipped b) → row_at row z ≡ b) (sym e)
          (λ q. fit_is (term_at ts n).flipped (f (term_at ts n).var) b (row_at row n) q p.1) k
      | inr m ↦ fits_all ts f n row p.0 j b m k
    ]
  where
    split : (j n : ℕ) → j < suc n → (j ≡ n) ⊎ (j < n)
    split j n l = dite (ℕ_discrete j n) (λ e. inl e) (λ ne. inr (omega arith))

pub all_fit : (ts : List Term) (f : ℕ → Option Order) (n : ℕ) (row : List Order)
    → ((j : ℕ) (b : Order) → j < n → Knows f (term_at ts j).var (turn (term_at ts j).flipped b)
    → row_at row j ≡ b) → agrees_below ts f n row ≡ true
all_fit ts f zero row h = refl
all_fit ts f (suc n) row h = true_and (agrees_below ts f n row) (fits (known_at ts f n) (row_at row n))
    (all_fit ts f n row (λ j b l. h j b (omega arith)))
    (is_fit (term_at ts n).flipped (f (term_at ts n).var) (row_at row n) (λ b. h n b (omega arith)))

-- what a set of rows tells
pub some_rows : (kind : Kind) (ts : List Term) (f : ℕ → Option Order) (rows : ℕ)
    → rows ≡ bits (map (agrees_below ts f (length ts)) (rows_of kind)) → 0 < rows → SomeAgrees kind ts (Knows f)
some_rows kind ts f rows e l =
    let r = bits-some (agrees_below ts f (length ts)) (rows_of kind) (subst (λ n. 0 < n) e l) in
    (r.0, r.1, r.2, fits_all ts f (length ts) r.1 r.3)

pub none_rows : (kind : Kind) (ts : List Term) (f : ℕ → Option Order) (rows : ℕ)
    → rows ≡ bits (map (agrees_below ts f (length ts)) (rows_of kind)) → rows ≡ 0 → NoneAgrees kind ts (Knows f)
none_rows kind ts f rows e z k row at h =
    true_false (all_fit ts f (length ts) row h) (bits-zero (agrees_below ts f (length ts)) (rows_of kind) (sym e
    ∙ z) k row at)

pub only_rows : (kind : Kind) (ts : List Term) (f : ℕ → Option Order) (p : ℕ) (s : Order)
    → OnlyIs kind (agrees_below ts f (length ts)) p (Some s) → Only kind ts (Knows f) p s
only_rows kind ts f p s h k row at a = h k row at (all_fit ts f (length ts) row a)

pub can_rows : (kind : Kind) (ts : List Term) (f : ℕ → Option Order) (p : ℕ)
    → OnlyIs kind (agrees_below ts f (length ts)) p None → Can kind ts (Knows f) p Below
    × Can kind ts (Knows f) p Above
can_rows kind ts f p h = (
  (h.0.0, h.0.1, h.0.2, fits_all ts f (length ts) h.0.1 h.0.3, h.0.4),
  (h.1.0, h.1.1, h.1.2, fits_all ts f (length ts) h.1.1 h.1.3, h.1.4),
)

pub settles : (kind : Kind) (ts : List Term) (f : ℕ → Option Order) (p : ℕ)
    → OpenIs kind (agrees_below ts f (length ts)) p (f (term_at ts p).var) None → Settled kind ts f p
settles kind ts f p (inl k) = inl k
settles kind ts f p (inr k) = inr (can_rows kind ts f p k)

-- what is forced from less that is known of the terms is forced from more
pub forces_more : (kind : Kind) (ts : List Term) (less more : ℕ → Order → Type 0) (v : ℕ) (s : Order)
    → ((j : ℕ) (t : Order) → j < length ts → less (term_at ts j).var t → more (term_at ts j).var t)
    → Forces kind ts less v s → Forces kind ts more v s
forces_more kind ts less more v s up f = (f.0, f.1, f.2, λ k row at a. f.3 k row at (λ j b l q. a j b l (up j _ l q)))

-- a constraint that is dead by less is dead by more
pub dead_more : (kind : Kind) (ts : List Term) (less more : ℕ → Order → Type 0)
    → ((j : ℕ) (t : Order) → j < length ts → less (term_at ts j).var t → more (term_at ts j).var t)
    → NoneAgrees kind ts less → NoneAgrees kind ts more
dead_more kind ts less more up none k row at a = none k row at (λ j b l q. a j b l (up j _ l q))

-- the test of a row says what the relation says
pub agrees_tested : (ts : List Term) (f : ℕ → Option Order) (row : List Order)
    → (agrees_below ts f (length ts) row ≡ true) ↔ Agrees ts (Knows f) row
agrees_tested ts f row = (fits_all ts f (length ts) row, all_fit ts f (length ts) row)
