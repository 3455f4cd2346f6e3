-- A part is begun and followed.
use Rattle.std.proofs.Common.{◌≡◌, ℕ, zero, suc, ◌+◌, ◌<◌, ◌≤◌, inl, inr, List, [], ◌∷◌, ◌++◌, length, get_or, set, slice_index, slice_get, refl, sym, ap, ◌∙◌, subst, arith, add-one, Option, Some, None}
use Rattle.std.specs.Vec.{vec_capacity}
use Rattle.std.proofs.lemmas.Bool.{cases_eq, cases_order}
use Rattle.std.proofs.lemmas.List.{length-append, length-set, get_or_append_left, get_or_push}
use Rattle.ff_tables.specs.declared.orders.Order.{Order}
use Rattle.ff_tables.specs.declared.terms.Constraint.{Constraint}
use Rattle.ff_propagate.specs.Parts.{IsUndecided, AreConnected}
use Rattle.ff_parts.specs.declared.labels.Labels.{Labels}
use Rattle.ff_parts.specs.Labels.{label, count_set, AreAlike, Rests, Ready, AreOf, Spreads, IsSpreading, IsLabelled, IsBelow}
use Rattle.ff_parts.proofs.Reaching.{count_more, label_here, label_other, spreads_set, spreads_trans, mixed_kept, kept_label}
use Rattle.ff_parts.proofs.Following.{keeps}

-- the numbers of a rising list are at least their places
rising_from : (xs : List ℕ) → ((p q : ℕ) → p < q → q < length xs → slice_index xs p < slice_index xs q)
    → (p : ℕ) → p < length xs → p ≤ slice_index xs p
rising_from xs rise zero l = omega arith
rising_from xs rise (suc p) l = let r = rising_from xs rise p
    (omega (arith, l)) in omega (arith, r, rise p (suc p) (omega arith) l)

pub firsts_few : (vars : ℕ) (cons : List Constraint) (value : ℕ → Option Order) (v : ℕ) (l : Labels)
    → IsBelow vars cons value v l → length l.firsts.items ≤ v
firsts_few vars cons value v l is = sort (length l.firsts.items) refl
  where
    sort : (n : ℕ) → length l.firsts.items ≡ n → length l.firsts.items ≤ v
    sort zero e = omega (arith, e)
    sort (suc n) e = let r = rising_from l.firsts.items is.rising n
        (omega (arith, e)) in omega (arith, e, r, is.below n (omega (arith, e)))

-- the first of a new part is set down
pub record IsBegun (v : ℕ) (old mid : Labels) : Type 0 where
  pub none : label old v ≡ 0
  pub firsts : mid.firsts.items ≡ old.firsts.items ++ v ∷ []
  pub firsts_room : vec_capacity mid.firsts ≡ vec_capacity old.firsts
  pub part_of : mid.part_of.items ≡ set old.part_of.items v (length old.firsts.items + 1)
  pub queue : mid.queue.items ≡ old.queue.items ++ v ∷ []
  pub room : vec_capacity mid.queue ≡ vec_capacity old.queue

abbrev with_firsts : Labels → Labels → Labels
with_firsts old mid = record { part_of = old.part_of; queue = old.queue; firsts = mid.firsts }

labelled_of : (v : ℕ) (old mid : Labels) → IsBegun v old mid
    → IsLabelled (length old.firsts.items + 1) v (with_firsts old mid) mid
labelled_of v old mid
    b = record { none = b.none; part_of = b.part_of; queue = b.queue; room = b.room; firsts = refl }

-- what following the new part needs
pub record IsStarted (vars : ℕ) (cons : List Constraint) (value : ℕ → Option Order) (p from : ℕ)
    (mid : Labels) : Type 0 where
  pub spreading : IsSpreading vars cons value p mid
  pub own : AreOf p mid from
  pub ready : Ready cons value mid from
  pub inside : from ≤ length mid.queue.items

pub started : (vars : ℕ) (cons : List Constraint) (value : ℕ → Option Order) (v : ℕ) (old mid : Labels)
    → IsBelow vars cons value v old → v < vars → value v ≡ None → IsBegun v old mid
    → IsStarted vars cons value (length old.firsts.items + 1) (length old.queue.items) mid
started vars cons value v old mid is within none b =
    let p = length old.firsts.items + 1 in
    let l = is.labelling in
    let wide : v < length old.part_of.items = omega (arith, within, l.wide) in
    let x : Spreads p (with_firsts old mid) mid = spreads_set p v (with_firsts old mid) mid
    (labelled_of v old mid b) wide in
    let here : label mid v ≡ p = label_here p v (with_firsts old mid) mid (labelled_of v old mid b) wide in
    let other : (u : ℕ) → (u ≡ v → ⊥)
    → label mid u ≡ label old u = label_other p v (with_firsts old mid) mid (labelled_of v old mid b) in
    let long : length mid.queue.items ≡ length old.queue.items + 1 = ap length b.queue
    ∙ length-append old.queue.items (v ∷ []) in
    let more : length mid.firsts.items ≡ length old.firsts.items + 1 = ap length b.firsts
    ∙ length-append old.firsts.items (v ∷ []) in
    let open_v : IsUndecided vars value v = record { variable = within; open_yet = none } in
    let at_first : (q : ℕ) → q < length old.firsts.items
    → slice_index mid.firsts.items q ≡ slice_index old.firsts.items q = λ q m. ap (λ xs. get_or xs q 0)
    b.firsts ∙ get_or_append_left old.firsts.items (v ∷ []) 0 q m in
    let last_first : slice_index mid.firsts.items (length old.firsts.items) ≡
    v = ap (λ xs. get_or xs (length old.firsts.items) 0) b.firsts
    ∙ get_or_push old.firsts.items v 0 (length old.firsts.items) refl in
    record {
      spreading = record {
        labelling = record {
          few = l.few;
          wide = ap length b.part_of ∙ length-set old.part_of.items v p ∙ l.wide;
          room = omega (arith, l.room, b.room);
          count = omega (arith, long, l.count, ap count_set b.part_of ∙ count_more old.part_of.items v p wide b.none (omega arith));
          queued = λ i m. elim (cases_eq i (length old.queue.items)) [
            | inl e ↦ subst (λ u. 0 < label mid u)
                (sym (ap (λ xs. get_or xs i 0) b.queue ∙ get_or_push old.queue.items v 0 i (sym e)))
                (omega (arith, here))
            | inr ne ↦ (let m' : i < length old.queue.items = omega (arith, m, long, ne) in
                subst (λ u. 0 < label mid u) (sym (x.front i m'))
                (kept_label p (with_firsts old mid) mid x (slice_index old.queue.items i)
                (l.queued i m')))
          ];
          undecided = λ u some. elim (cases_eq u v) [
            | inl e ↦ subst (IsUndecided vars value) (sym e) open_v
            | inr ne ↦ l.undecided u (subst (λ n. 0 < n) (other u ne) some)
          ];
          reached = λ u q e. elim (cases_eq u v) [
            | inl same ↦ (
                let q_is : q ≡ length old.firsts.items = suc_same
                (sym e ∙ ap (label mid) same ∙ here ∙ add-one (length old.firsts.items)) in (
                  omega (arith, q_is, more),
                  ([], ap (slice_index mid.firsts.items) q_is ∙ last_first ∙ sym same),
                ))
            | inr ne ↦ (
                let r = l.reached u q (sym (other u ne) ∙ e) in (
                  omega (arith, r.0, more),
                  subst (λ w. AreConnected vars cons value w u)
                      (sym (at_first q r.0)) r.1,
                ))
          ];
        };
        mixed = λ c con at. mixed_kept value p (with_firsts old mid) mid con x
            (λ i j li lj oi oj. inl (is.alike c con at i j li lj oi oj));
        last = sym more;
        some = omega arith;
      };
      own = λ i a m. (let e : i ≡ length old.queue.items = omega (arith, a, m, long) in
          ap (label mid) (ap (λ xs. get_or xs i 0) b.queue ∙ get_or_push old.queue.items v 0 i (sym e))
          ∙ here);
      ready = λ c con at. keeps value p (with_firsts old mid) mid (length old.queue.items) con x (omega arith)
          (inr (is.alike c con at));
      inside = omega (arith, long);
    }
  where
    suc_same : {a b : ℕ} → suc a ≡ suc b → a ≡ b
    suc_same r = omega (arith, r)

all_alike : (cons : List Constraint) (value : ℕ → Option Order) (l : Labels)
    → Ready cons value l (length l.queue.items) → (c : ℕ) (con : Constraint) → slice_get cons c ≡ Some con
    → AreAlike value l con
all_alike cons value l ready c con at = pick (ready c con at)
  where
    pick : Rests value l (length l.queue.items) con → AreAlike value l con
    pick (inl (i, j, a, b, m, e)) = absurd (omega (arith, a, b))
    pick (inr alike) = alike

pub begun : (vars : ℕ) (cons : List Constraint) (value : ℕ → Option Order) (v : ℕ) (old mid new : Labels)
    → IsBelow vars cons value v old → v < vars → value v ≡ None → IsBegun v old mid
    → IsSpreading vars cons value (length old.firsts.items + 1) new
    → Spreads (length old.firsts.items + 1) mid new → Ready cons value new (length new.queue.items)
    → IsBelow vars cons value (v + 1) new
begun vars cons value v old mid new is within none b s y ready =
    let n = length old.firsts.items in
    let p = n + 1 in
    let l = is.labelling in
    let wide : v < length old.part_of.items = omega (arith, within, l.wide) in
    let x : Spreads p (with_firsts old mid) mid = spreads_set p v (with_firsts old mid) mid
    (labelled_of v old mid b) wide in
    let here : label mid v ≡ p = label_here p v (with_firsts old mid) mid (labelled_of v old mid b) wide in
    let z : Spreads p (with_firsts old mid) new = spreads_trans p (with_firsts old mid) mid new (omega arith)
    x y in
    let here_new : label new v ≡ suc n = y.kept v (omega (arith, here)) ∙ here ∙ add-one n in
    let firsts : new.firsts.items ≡ old.firsts.items ++ v ∷ [] = ap (λ fs. fs.items) y.firsts ∙ b.firsts in
    let more : length new.firsts.items ≡ n + 1 = ap length firsts ∙ length-append old.firsts.items (v ∷ []) in
    let at_first : (q : ℕ) → q < n
    → slice_index new.firsts.items q ≡ slice_index old.firsts.items q = λ q m. ap (λ xs. get_or xs q 0)
    firsts ∙ get_or_append_left old.firsts.items (v ∷ []) 0 q m in
    let last_first : (q : ℕ) → q ≡ n
    → slice_index new.firsts.items q ≡ v = λ q e. ap (λ xs. get_or xs q 0) firsts
    ∙ get_or_push old.firsts.items v 0 q (sym e) in
    record {
      labelling = s.labelling;
      room = omega (arith, is.room, b.firsts_room, ap (λ fs. vec_capacity fs) y.firsts);
      alike = all_alike cons value new ready;
      first = λ q m. elim (cases_eq q n) [
        | inl e ↦ ap (label new) (last_first q e) ∙ here_new ∙ ap suc (sym e)
        | inr ne ↦ (let m' : q < n = omega (arith, m, more, ne) in
            let f = is.first q m' in
            ap (label new) (at_first q m') ∙ z.kept (slice_index old.firsts.items q) (omega (arith, f)) ∙ f)
      ];
      least = λ u q e. elim (z.changed u) [
        | inl same ↦ (
            let r = l.reached u q (sym same ∙ e) in
            let f = is.least u q (sym same ∙ e) in
            subst (λ w. w ≤ u) (sym (at_first q r.0)) f)
        | inr since ↦ (
            let q_is : q ≡ n = suc_same (sym e ∙ since.1 ∙ add-one n) in
            subst (λ w. w ≤ u) (sym (last_first q q_is))
            (not_below u since.0 (s.labelling.undecided u (omega (arith, e)))))
      ];
      rising = λ a c less m. elim (cases_eq c n) [
        | inl e ↦ (let m' : a < n = omega (arith, less, e) in omega (arith, at_first a m', last_first c e, is.below a m'))
        | inr ne ↦ (let mc : c < n = omega (arith, m, more, ne) in let ma : a < n = omega (arith, less, mc) in omega (arith, at_first a ma, at_first c mc, is.rising a c less mc))
      ];
      below = λ q m. elim (cases_eq q n) [
        | inl e ↦ omega (arith, last_first q e)
        | inr ne ↦ (let m' : q < n = omega (arith, m, more, ne) in omega (arith, at_first q m', is.below q m'))
      ];
      done = λ u m o. elim (cases_eq u v) [
        | inl e ↦ subst (λ w. 0 < label new w) (sym e) (omega (arith, here_new))
        | inr ne ↦ (let d = is.done u (omega (arith, m, ne)) o in kept_label p (with_firsts old mid) new z u d)
      ];
    }
  where
    suc_same : {a b : ℕ} → suc a ≡ suc b → a ≡ b
    suc_same r = omega (arith, r)

    not_below : (u : ℕ) → label old u ≡ 0 → IsUndecided vars value u → v ≤ u
    not_below u zero_label o = elim (cases_order u v) [
      | inl e ↦ omega (arith, e)
      | inr r ↦ elim r [
        | inl less ↦ (let d = is.done u less o in absurd (omega (arith, d, zero_label)))
        | inr more ↦ omega (arith, more)
      ]
    ]

-- a variable that is decided or labelled
pub passed : (vars : ℕ) (cons : List Constraint) (value : ℕ → Option Order) (v : ℕ) (l : Labels)
    → IsBelow vars cons value v l → (value v ≡ None → 0 < label l v) → IsBelow vars cons value (v + 1) l
passed vars cons value v l is has = record {
  labelling = is.labelling;
  room = is.room;
  alike = is.alike;
  first = is.first;
  least = is.least;
  rising = is.rising;
  below = λ q m. let r = is.below q m in omega (arith, r);
  done = λ u m o. elim (cases_eq u v) [
    | inl e ↦ subst (λ w. 0 < label l w) (sym e) (has (ap value (sym e) ∙ o.open_yet))
    | inr ne ↦ is.done u (omega (arith, m, ne)) o
  ];
}

pub firsts_longer : (n v : ℕ) (old new : List ℕ) → new ≡ old ++ v ∷ [] → n ≡ length new → n ≡ length old + 1
firsts_longer n v old new e is = is ∙ ap length e ∙ length-append old (v ∷ [])
