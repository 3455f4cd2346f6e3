-- Names and copies, one more.
use Rattle.std.proofs.Common.{◌≡◌, ℕ, zero, suc, ◌+◌, ◌<◌, ◌≤◌, inl, inr, List, [], ◌∷◌, ◌++◌, length, get_or, slice_index, slice_get, refl, sym, ap, ◌∙◌, subst, arith, Option, Some, Result, Ok, Err}
use Rattle.std.specs.Result.{result_ok}
use Rattle.std.specs.Ordering.{nat_cmp}
use Rattle.std.specs.List.{Contains}
use Rattle.std.specs.List.Sorted.{IsBinarySearchResult}
use Rattle.std.proofs.lemmas.Bool.{cases_eq, cases_lt}
use Rattle.std.proofs.lemmas.List.{length-append}
use Rattle.std.proofs.lemmas.List.Sorted.{searched}
use Rattle.std.proofs.lemmas.Option.{slice_get_within, slice_get-get_or}
use Rattle.ff_basics.proofs.Options.{same_value}
use Rattle.ff_tables.specs.declared.orders.Order.{Order}
use Rattle.ff_tables.specs.declared.terms.Term.{Term}
use Rattle.ff_tables.specs.declared.terms.Constraint.{Constraint}
use Rattle.ff_tables.specs.Orders.{term_at}
use Rattle.ff_tables.specs.Rows.{arity}
use Rattle.ff_tables.specs.Systems.{AreFit}
use Rattle.ff_propagate.specs.Parts.{IsPart, AreTouching}
use Rattle.ff_propagate.proofs.Quiet.{contains_stands}
use Rattle.ff_solver.specs.Copies.{IsCopiedTerm, IsCopied, HasCopy, IsRising, IsPlace, IsLonger, AreCopied}

pub con_read : (cons : List Constraint) (k : ℕ) (con : Constraint) → k < length cons → con ≡ get_or cons k con
    → slice_get cons k ≡ Some con
con_read cons k con l is = slice_get-get_or cons k con l ∙ ap (λ d. Some d) (sym is)

rises : (list : List ℕ) → IsRising list → (i j : ℕ) → i ≤ j → j < length list → get_or list i 0 ≤ get_or list j 0
rises list up i j l m = elim (cases_eq i j) [
  | inl e ↦ subst (λ k. get_or list i 0 ≤ get_or list k 0) e (omega arith)
  | inr ne ↦ (let r = up i j (omega (arith, l, ne)) m in omega (arith, r))
]

pub place_is : (list : List ℕ) (v : ℕ) (r : Result ℕ ℕ) → IsRising list → IsBinarySearchResult (λ y. nat_cmp y v) list r
    → IsPlace list v (result_ok r)
place_is list v (Ok i) up is = searched list v (Ok i) is (rises list up)
place_is list v (Err i) up is = λ among. elsewhere (contains_stands list v among)
  where
    s : (i ≤ length list) × ((k : ℕ) → k < i → get_or list k 0 < v)
        × ((k : ℕ) → i ≤ k → k < length list → v < get_or list k 0)
    s = searched list v (Err i) is (rises list up)

    elsewhere : (k : ℕ) × (k < length list) × (slice_index list k ≡ v) → ⊥
    elsewhere (k, l, e) = elim (cases_lt k i) [
      | inl a ↦ (let b = s.1 k a in omega (arith, b, e))
      | inr a ↦ (let b = s.2 k a l in omega (arith, b, e))
    ]

-- a rising list is no longer than what its numbers are below
at_least : (list : List ℕ) → IsRising list → (i : ℕ) → i < length list → i ≤ slice_index list i
at_least list up zero l = omega arith
at_least list up (suc i) l =
    let before = at_least list up i (omega (arith, l)) in
    let more = up i (suc i) (omega arith) l in
    omega (arith, before, more)

pub few_rising : (list : List ℕ) → IsRising list → (n : ℕ) → ((i : ℕ) → i < length list → slice_index list i < n) → length list ≤ n
few_rising list up n below = by (length list) refl
  where
    by : (m : ℕ) → length list ≡ m → length list ≤ n
    by zero e = omega (arith, e)
    by (suc m) e =
        let l : m < length list = omega (arith, e) in
        let a = at_least list up m l in
        let b = below m l in
        omega (arith, a, b, e)

longer_term : (part old new : List ℕ) (t u : Term) → IsLonger old new → IsCopiedTerm part old t u → IsCopiedTerm part new t u
longer_term part old new t u more is = record {
  flipped = is.flipped;
  within = omega (arith, is.within, more.long);
  name = more.front u.var is.within ∙ is.name;
  own = is.own;
}

pub longer_copy : (part old new : List ℕ) (from con : Constraint) → IsLonger old new → IsCopied part old from con → IsCopied part new from con
longer_copy part old new from con more is = record {
  kind = is.kind;
  as_many = is.as_many;
  each = λ j l. longer_term part old new (term_at from.terms j) (term_at con.terms j) more (is.each j l);
}

-- the first n terms are copied
abbrev pub AreTerms : List ℕ → List ℕ → List Term → List Term → ℕ → Type 0
AreTerms part names from own n = (j : ℕ) → j < n → IsCopiedTerm part names (term_at from j) (term_at own j)

con_in : (cons : List Constraint) (con : Constraint) (k : ℕ) → k < length cons → slice_get (cons ++ con ∷ []) k ≡ slice_get cons k
con_in [] con k l = absurd (omega (arith, l))
con_in (c ∷ cons) con zero l = refl
con_in (c ∷ cons) con (suc k) l = con_in cons con k (omega (arith, l))

con_last : (cons : List Constraint) (con : Constraint) → slice_get (cons ++ con ∷ []) (length cons) ≡ Some con
con_last [] con = refl
con_last (c ∷ cons) con = con_last cons con

pub copies_more : (cons own : List Constraint) (numbers part old new : List ℕ) (from con : Constraint) (n : ℕ)
    → AreCopied cons numbers part old own n → IsLonger old new → slice_get cons (slice_index numbers n) ≡ Some from
    → IsCopied part new from con → AreCopied cons numbers part new (own ++ con ∷ []) (n + 1)
copies_more cons own numbers part old new from con n before more at is = record {
  as_many = length-append own (con ∷ []) ∙ ap (λ k. k + 1) before.as_many;
  each = λ k copy there. elim (cases_lt k (length own)) [
    | inl l ↦ (let c = before.each k copy (sym (con_in own con k l) ∙ there) in
        record { from = c.from; there = c.there; copied = longer_copy part old new c.from copy more c.copied })
    | inr past ↦ (
        let within : k < length own + 1 = subst (λ m. k < m) (length-append own (con ∷ [])) (slice_get_within (own ++ con ∷ []) k copy there) in
        let e : k ≡ length own = omega (arith, within, past) in
        let same : con ≡ copy = same_value (con_last own con) (ap (slice_get (own ++ con ∷ [])) (sym e) ∙ there) in
        record {
          from = from;
          there = ap (λ m. slice_get cons (slice_index numbers m)) (e ∙ before.as_many) ∙ at;
          copied = subst (λ c. IsCopied part new from c) same is;
        })
  ];
}

-- among the copies of all that touch the part is one of each that does
pub copy_there : (cons own : List Constraint) (part numbers names : List ℕ) → AreTouching cons part numbers
    → AreCopied cons numbers part names own (length numbers) → (c : ℕ) (from : Constraint) → slice_get cons c ≡ Some from
    → (i : ℕ) → i < length from.terms → Contains part (term_at from.terms i).var → HasCopy own part names from
copy_there cons own part numbers names touching copied c from at i li among =
    let n = contains_stands numbers c (touching.all c from at (record { place = i; inside = li; among = among })) in
    let there = slice_get-get_or own n.0 from (omega (arith, n.1, copied.as_many)) in
    let copy = copied.each n.0 (get_or own n.0 from) there in
    record {
      number = n.0;
      con = get_or own n.0 from;
      there = there;
      copied = subst (λ d. IsCopied part names d (get_or own n.0 from))
          (same_value copy.there (ap (slice_get cons) n.2 ∙ at)) copy.copied;
    }

-- copies of what fits fit
pub copies_fit : (vars : ℕ) (cons own : List Constraint) (numbers part names : List ℕ) (n : ℕ) → AreFit vars cons
    → AreCopied cons numbers part names own n → AreFit (length names) own
copies_fit vars cons own numbers part names n fit copied c con at =
    let copy = copied.each c con at in
    let from = copy.from in
    let is = copy.copied in
    let f = fit (slice_index numbers c) from copy.there in
    record {
      terms = is.as_many ∙ f.terms ∙ ap arity (sym is.kind);
      within = λ j l. (is.each j (omega (arith, l, is.as_many))).within;
      differ = λ i j li lj e.
          let mi : i < length from.terms = omega (arith, li, is.as_many) in
          let mj : j < length from.terms = omega (arith, lj, is.as_many) in
          f.differ i j mi mj (sym (is.each i mi).name ∙ ap (slice_index names) e ∙ (is.each j mj).name);
    }

-- the constraint of a number of the list is there
pub number_below : (cons : List Constraint) (part list numbers : List ℕ) → AreTouching cons part list → numbers ≡ list → (k : ℕ)
    → k < length numbers → slice_index numbers k < length cons
number_below cons part list numbers touching same k l =
    let m : k < length list = subst (λ ns. k < length ns) same l in
    let there = touching.each k m in
    subst (λ ns. slice_index ns k < length cons) (sym same) (slice_get_within cons (slice_index list k) there.0 there.1)

pub made_fit : (vars m : ℕ) (cons own slice : List Constraint) (numbers part names : List ℕ) (n : ℕ) → AreFit vars cons
    → AreCopied cons numbers part names own n → slice ≡ own → m ≡ length names → AreFit m slice
made_fit vars m cons own slice numbers part names n fit copied e long = subst (λ k. AreFit k slice) (sym long)
    (subst (λ cs. AreFit (length names) cs) (sym e) (copies_fit vars cons own numbers part names n fit copied))

-- a part has no more variables than there are
pub part_few : (vars : ℕ) (cons : List Constraint) (value : ℕ → Option Order) (part : List ℕ) → IsPart vars cons value part
    → length part ≤ vars
part_few vars cons value part is = few_rising part is.rising vars (λ i l. (is.undecided i l).variable)

-- no more constraints touch it than there are
pub touching_few : (cons : List Constraint) (part list : List ℕ) → AreTouching cons part list → length list ≤ length cons
touching_few cons part list touching = few_rising list touching.rising (length cons)
    (λ i l. let there = touching.each i l in slice_get_within cons (slice_index list i) there.0 there.1)
