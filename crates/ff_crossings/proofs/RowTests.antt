-- Values are a row of a kind exactly where the kind's test says so: the rows are the lists of the right
-- length that pass.
use Rattle.std.proofs.Common.{◌≡◌, ℕ, zero, suc, ◌↔◌, List, [], ◌∷◌, map, length, arith, refl, ap, ◌∙◌, IsTrue, Contains, Some}
use Rattle.std.proofs.lemmas.Bool.{false≢true}
use Rattle.std.proofs.lemmas.Option.{get_or_from_slice_get, slice_get-get_or, slice_get_within}
use Rattle.std.proofs.lemmas.List.Elements.{Contains-append_left, Contains-append_right}
use Rattle.ff_basics.proofs.Memberships.{by_member, filter_in, first_member, in_filter, later_member, no_member}
use Rattle.ff_tables.specs.declared.orders.Order.{Order}
use Rattle.ff_tables.specs.declared.orders.Order.TheVariants.{Below, Above}
use Rattle.ff_tables.specs.declared.terms.Kind.{Kind}
use Rattle.ff_tables.specs.declared.terms.Kind.TheVariants.{TacoTaco, TacoTortilla, TortillaTortilla, Transitivity}
use Rattle.ff_tables.specs.Rows.{arity, all_lists, is_row, rows_of}
use Rattle.ff_crossings.specs.RowMeanings.{IsSomeRow}

pub map_in : {A B : Type 0} (f : A → B) (xs : List A) (x : A) → Contains xs x → Contains (map f xs) (f x)
map_in f [] x m = absurd (no_member x m)
map_in f (y ∷ xs) x m =
    by_member y xs x (λ e. first_member (f y) (map f xs) (f x) (ap f e))
    (λ n. later_member (f y) (map f xs) (f x) (map_in f xs x n)) m

all_in : (n : ℕ) (row : List Order) → length row ≡ n → Contains (all_lists n) row
all_in zero [] e = first_member [] [] [] refl
all_in zero (x ∷ row) e = absurd (omega (arith, e))
all_in (suc n) [] e = absurd (omega (arith, e))
all_in (suc n) (Below ∷ row) e =
    Contains-append_left (map (λ rest. Below ∷ rest) (all_lists n)) (map (λ rest. Above ∷ rest) (all_lists n))
    (Below ∷ row) (map_in (λ rest. Below ∷ rest) (all_lists n) row (all_in n row (omega (arith, e))))
all_in (suc n) (Above ∷ row) e =
    Contains-append_right (map (λ rest. Below ∷ rest) (all_lists n))
    (map (λ rest. Above ∷ rest) (all_lists n)) (Above ∷ row)
    (map_in (λ rest. Above ∷ rest) (all_lists n) row (all_in n row (omega (arith, e))))

pub row_length : (kind : Kind) (row : List Order) → IsTrue (is_row kind row) → length row ≡ arity kind
row_length Transitivity (a ∷ b ∷ c ∷ []) t = refl
row_length TacoTaco (a ∷ b ∷ c ∷ d ∷ e ∷ f ∷ []) t = refl
row_length TacoTortilla (a ∷ b ∷ []) t = refl
row_length TortillaTortilla (a ∷ b ∷ []) t = refl
row_length Transitivity [] t = absurd (false≢true t)
row_length Transitivity (a ∷ []) t = absurd (false≢true t)
row_length Transitivity (a ∷ b ∷ []) t = absurd (false≢true t)
row_length Transitivity (a ∷ b ∷ c ∷ d ∷ rest) t = absurd (false≢true t)
row_length TacoTaco [] t = absurd (false≢true t)
row_length TacoTaco (a ∷ []) t = absurd (false≢true t)
row_length TacoTaco (a ∷ b ∷ []) t = absurd (false≢true t)
row_length TacoTaco (a ∷ b ∷ c ∷ []) t = absurd (false≢true t)
row_length TacoTaco (a ∷ b ∷ c ∷ d ∷ []) t = absurd (false≢true t)
row_length TacoTaco (a ∷ b ∷ c ∷ d ∷ e ∷ []) t = absurd (false≢true t)
row_length TacoTaco (a ∷ b ∷ c ∷ d ∷ e ∷ f ∷ g ∷ rest) t = absurd (false≢true t)
row_length TacoTortilla [] t = absurd (false≢true t)
row_length TacoTortilla (a ∷ []) t = absurd (false≢true t)
row_length TacoTortilla (a ∷ b ∷ c ∷ rest) t = absurd (false≢true t)
row_length TortillaTortilla [] t = absurd (false≢true t)
row_length TortillaTortilla (a ∷ []) t = absurd (false≢true t)
row_length TortillaTortilla (a ∷ b ∷ c ∷ rest) t = absurd (false≢true t)

pub row_passes : (kind : Kind) (row : List Order) → IsSomeRow kind row → IsTrue (is_row kind row)
unfolding rows_of
row_passes kind row (k, e) =
    (in_filter (is_row kind) (all_lists (arity kind)) row
    (k, slice_get_within (rows_of kind) k row e, get_or_from_slice_get (rows_of kind) k row row e)).1

pub passes_row : (kind : Kind) (row : List Order) → IsTrue (is_row kind row) → IsSomeRow kind row
unfolding rows_of
passes_row kind row t =
    by (filter_in (is_row kind) (all_lists (arity kind)) row
    (all_in (arity kind) row (row_length kind row t)) t) where
      by : Contains (rows_of kind) row → IsSomeRow kind row
      by m = (m.0, slice_get-get_or (rows_of kind) m.0 row m.1 ∙ ap Some m.2)

pub by_test : (kind : Kind) (row : List Order) → IsSomeRow kind row ↔ IsTrue (is_row kind row)
by_test kind row = (row_passes kind row, passes_row kind row)
