-- What a part borders on, constraint by constraint.
use Rattle.std.proofs.Common.{◌≡◌, ℕ, ◌+◌, ◌<◌, ◌≤◌, ◌↔◌, inl, inr, Bool, false, IsTrue, List, length, get_or, slice_get, slice_index, refl, sym, ap, ◌∙◌, subst, arith, Option, Some, Result, Ok, Err}
use Rattle.std.specs.Result.{is_ok}
use Rattle.std.specs.Ordering.{nat_cmp}
use Rattle.std.specs.List.{Contains}
use Rattle.std.specs.List.Sorted.{IsBinarySearchResult}
use Rattle.std.proofs.lemmas.Bool.{cases_eq, cases_lt}
use Rattle.std.proofs.lemmas.List.Sorted.{searched}
use Rattle.std.proofs.lemmas.Option.{slice_get_within, slice_get-get_or}
use Rattle.ff_tables.specs.declared.orders.Order.{Order}
use Rattle.ff_tables.specs.declared.terms.Constraint.{Constraint}
use Rattle.ff_tables.specs.Orders.{term_at}
use Rattle.ff_propagate.specs.Parts.{AreTouching}
use Rattle.ff_propagate.proofs.Quiet.{contains_stands, stands_contains}
use Rattle.ff_alike.specs.Alike.{HaveSameRim}
use Rattle.ff_propagate.specs.Facts.{value_at}
use Rattle.ff_pages.specs.declared.pages.Pages.{Pages}
use Rattle.ff_pages.specs.Paging.{CanKeep}
use Rattle.ff_pages.specs.Rims.{IsRising, HasSameRim}

rises : (list : List ℕ) → IsRising list → (i j : ℕ) → i ≤ j → j < length list → get_or list i 0 ≤ get_or list j 0
rises list up i j l m = elim (cases_eq i j) [
  | inl e ↦ subst (λ k. get_or list i 0 ≤ get_or list k 0) e (omega arith)
  | inr ne ↦ (let r = up i j (omega (arith, l, ne)) m in omega (arith, r))
]

pub found_among : (list : List ℕ) (v : ℕ) (r : Result ℕ ℕ) → IsRising list → IsBinarySearchResult (λ y. nat_cmp y v) list r
    → IsTrue (is_ok r) ↔ Contains list v
found_among list v (Ok i) up is = (
  λ e. stands_contains list v (let s = searched list v (Ok i) is (rises list up) in (i, s.0, s.1)),
  λ among. refl,
)
found_among list v (Err i) up is = (λ e. cc, λ among. absurd (elsewhere (contains_stands list v among)))
  where
    s : (i ≤ length list) × ((k : ℕ) → k < i → get_or list k 0 < v)
        × ((k : ℕ) → i ≤ k → k < length list → v < get_or list k 0)
    s = searched list v (Err i) is (rises list up)

    elsewhere : (k : ℕ) × (k < length list) × (slice_index list k ≡ v) → ⊥
    elsewhere (k, l, e) = elim (cases_lt k i) [
      | inl a ↦ (let b = s.1 k a in omega (arith, b, e))
      | inr a ↦ (let b = s.2 k a l in omega (arith, b, e))
    ]

-- one term more
pub rim_more : (f g : ℕ → Option Order) (part : List ℕ) (con : Constraint) (n v : ℕ) → v ≡ (term_at con.terms n).var
    → HasSameRim f g part con n → ((Contains part v → ⊥) → f v ≡ g v) → HasSameRim f g part con (n + 1)
rim_more f g part con n v at before here j l out = elim (cases_lt j n) [
  | inl k ↦ before j k out
  | inr k ↦ (let e : j ≡ n = omega (arith, l, k) in
      let same : (term_at con.terms j).var ≡ v = ap (λ i. (term_at con.terms i).var) e ∙ sym at in
      ap f same ∙ here (λ among. out (subst (Contains part) (sym same) among)) ∙ ap g (sym same))
]

-- the first n of the constraints that touch the part
abbrev pub AreSame : (ℕ → Option Order) → (ℕ → Option Order) → List Constraint → List ℕ → List ℕ → ℕ → Type 0
AreSame f g cons part list n = (k : ℕ) (con : Constraint) → k < n → slice_get cons (slice_index list k) ≡ Some con
    → HasSameRim f g part con (length con.terms)

some_same : {a b : Constraint} → ◌≡◌ {A = Option Constraint} (Some a) (Some b) → a ≡ b
some_same e = cc

pub same_more : (f g : ℕ → Option Order) (cons : List Constraint) (part list : List ℕ) (n : ℕ) (con : Constraint)
    → slice_get cons (slice_index list n) ≡ Some con → AreSame f g cons part list n → HasSameRim f g part con (length con.terms)
    → AreSame f g cons part list (n + 1)
same_more f g cons part list n con there before here k d l at = elim (cases_lt k n) [
  | inl m ↦ before k d m at
  | inr m ↦ (let e : k ≡ n = omega (arith, l, m) in
      subst (λ x. HasSameRim f g part x (length x.terms))
      (some_same (sym there ∙ ap (λ i. slice_get cons (slice_index list i)) (sym e) ∙ at)) here)
]

-- the constraint with a number of the list
pub number_there : (cons : List Constraint) (part list : List ℕ) (slice : List Constraint) (numbers : List ℕ) → AreTouching cons part list
    → slice ≡ cons → numbers ≡ list → (k : ℕ) → k < length numbers → (con : Constraint) → con ≡ get_or slice (slice_index numbers k) con
    → slice_get cons (slice_index list k) ≡ Some con
number_there cons part list slice numbers touching same nums k l con is =
    let t = touching.each k (subst (λ ns. k < length ns) nums l) in
    let low : slice_index numbers k < length slice = subst (λ cs. slice_index numbers k < length cs) (sym same)
    (subst (λ ns. slice_index ns k < length cons) (sym nums) (slice_get_within cons (slice_index list k) t.0 t.1)) in
    ap (λ ns. slice_get cons (slice_index ns k)) (sym nums) ∙ ap (λ cs. slice_get cs (slice_index numbers k)) (sym same)
    ∙ slice_get-get_or slice (slice_index numbers k) con low ∙ ap (λ d. Some d) (sym is)

pub same_all : (f g : ℕ → Option Order) (cons : List Constraint) (part list : List ℕ) → AreTouching cons part list
    → AreSame f g cons part list (length list) → HaveSameRim cons f g part
same_all f g cons part list touching same c con i j at li lj among out =
    let n = contains_stands list c (touching.all c con at (record { place = i; inside = li; among = among })) in
    same n.0 con n.1 (ap (slice_get cons) n.2 ∙ at) j lj out

pub same_one : (f g : ℕ → Option Order) (cons : List Constraint) (part list : List ℕ) → AreTouching cons part list
    → HaveSameRim cons f g part → (k : ℕ) (con : Constraint) → k < length list → slice_get cons (slice_index list k) ≡ Some con
    → HasSameRim f g part con (length con.terms)
same_one f g cons part list touching rim k con l at j lj out =
    let t = touching.each k l in
    let e : t.0 ≡ con = some_same (sym t.1 ∙ at) in
    let place = t.2.place in
    rim (slice_index list k) con place j at (subst (λ (x : Constraint). place < length x.terms) e t.2.inside) lj
    (subst (λ (x : Constraint). Contains part (term_at x.terms place).var) e t.2.among) out

pub keep_same : (cons : List Constraint) (p : Pages) (value : ℕ → Option Order) (part : List ℕ) (r : Bool) → part ≡ p.part.vars
    → IsTrue r ↔ HaveSameRim cons (value_at p.facts.value) value p.part.vars → IsTrue r ↔ CanKeep cons p value part
keep_same cons p value part r same both = (
  λ e. record { vars_are = same; rim = both.0 e },
  λ can. both.1 can.rim,
)

pub keep_not : (cons : List Constraint) (p : Pages) (value : ℕ → Option Order) (part : List ℕ) → (part ≡ p.part.vars → ⊥)
    → IsTrue false ↔ CanKeep cons p value part
keep_not cons p value part differ = (λ e. cc, λ can. absurd (differ can.vars_are))
