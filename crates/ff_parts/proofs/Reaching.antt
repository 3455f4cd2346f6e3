-- A variable is reached from a constraint.
use Rattle.std.proofs.Common.{◌≡◌, ℕ, zero, suc, ◌+◌, ◌<◌, ◌≤◌, ◌⊎◌, inl, inr, List, [], ◌∷◌, length, get_or, set, slice_index, slice_get, refl, sym, ap, ◌∙◌, subst, arith, Option, Some, None}
use Rattle.std.proofs.lemmas.Bool.{cases_eq}
use Rattle.std.proofs.lemmas.List.{get_or-set_same, get_or-set_other, length-set, length-append, get_or_append_left, get_or_push}
use Rattle.ff_tables.specs.declared.orders.Order.{Order}
use Rattle.ff_tables.specs.declared.terms.Constraint.{Constraint}
use Rattle.ff_tables.specs.Orders.{term_at}
use Rattle.ff_tables.specs.Systems.{AreFit}
use Rattle.ff_propagate.specs.Parts.{IsUndecided, AreLinked, IsLinkChain, AreConnected}
use Rattle.ff_parts.specs.declared.labels.Labels.{Labels}
use Rattle.ff_parts.specs.Labels.{label, count_set, IsLabelling, IsOwn, AreMixed, Spreads, IsSpreading, AllLabelled, HasOwn, IsLabelled, Reaches}

count_le : (xs : List ℕ) → count_set xs ≤ length xs
count_le [] = omega arith
count_le (zero ∷ xs) = let r = count_le xs in omega (arith, r)
count_le (suc n ∷ xs) = let r = count_le xs in omega (arith, r)

count_room : (xs : List ℕ) (v : ℕ) → v < length xs → slice_index xs v ≡ 0 → count_set xs < length xs
count_room [] v l e = absurd (omega (arith, l))
count_room (zero ∷ xs) v l e = let r = count_le xs in omega (arith, r)
count_room (suc n ∷ xs) zero l e = absurd (omega (arith, e))
count_room (suc n ∷ xs) (suc v) l e = let r = count_room xs v (omega (arith, l)) e in omega (arith, r)

pub count_more : (xs : List ℕ) (v p : ℕ) → v < length xs → slice_index xs v ≡ 0 → 0 < p
    → count_set (set xs v p) ≡ suc (count_set xs)
count_more [] v p l e s = absurd (omega (arith, l))
count_more (zero ∷ xs) zero zero l e s = absurd (omega (arith, s))
count_more (zero ∷ xs) zero (suc p) l e s = refl
count_more (suc n ∷ xs) zero p l e s = absurd (omega (arith, e))
count_more (zero ∷ xs) (suc v) p l e s = count_more xs v p (omega (arith, l)) e s
count_more (suc n ∷ xs) (suc v) p l e s = ap suc (count_more xs v p (omega (arith, l)) e s)

pub queue_room : (vars : ℕ) (cons : List Constraint) (value : ℕ → Option Order) (l : Labels)
    → IsLabelling vars cons value l → (v : ℕ) → v < vars → label l v ≡ 0 → length l.queue.items < vars
queue_room vars cons value l is v m none = let r = count_room l.part_of.items v (omega (arith, m, is.wide))
    none in omega (arith, r, is.count, is.wide)

-- one link more
pub link_on : (vars : ℕ) (cons : List Constraint) (value : ℕ → Option Order) (u v w : ℕ)
    → AreConnected vars cons value u v → AreLinked vars cons value v w → AreConnected vars cons value u w
link_on vars cons value u v w (chain, is) link = go chain u is
  where
    go : (chain : List ℕ) (u : ℕ) → IsLinkChain vars cons value u chain v → AreConnected vars cons value u w
    go [] u e = (w ∷ [], (subst (λ x. AreLinked vars cons value x w) (sym e) link, refl))
    go (x ∷ chain) u (first, rest) = let r = go chain x rest in (x ∷ r.0, (first, r.1))

pub label_here : (p v : ℕ) (old new : Labels) → IsLabelled p v old new → v < length old.part_of.items
    → label new v ≡ p
label_here p v old new is l = ap (λ xs. get_or xs v 0) is.part_of ∙ get_or-set_same old.part_of.items v p 0 l

pub label_other : (p v : ℕ) (old new : Labels) → IsLabelled p v old new → (u : ℕ) → (u ≡ v → ⊥)
    → label new u ≡ label old u
label_other p v old new is u ne = ap (λ xs. get_or xs u 0) is.part_of
    ∙ get_or-set_other old.part_of.items v u p 0 ne

pub spreads_refl : (p : ℕ) (l : Labels) → Spreads p l l
spreads_refl p
    l = record { count = omega arith; front = λ i m. refl; kept = λ v s. refl; changed = λ v. inl refl; added = λ i a b. absurd (omega (arith, a, b)); firsts = refl }

-- a label stays, if it isn't 0
pub kept_label : (p : ℕ) (old new : Labels) → Spreads p old new → (v : ℕ) → 0 < label old v → 0 < label new v
kept_label p old new x v l = subst (λ n. 0 < n) (sym (x.kept v l)) l

pub spreads_trans : (p : ℕ) (a b d : Labels) → 0 < p → Spreads p a b → Spreads p b d → Spreads p a d
spreads_trans p a b d some x y = record {
  count = omega (arith, x.count, y.count);
  front = λ i l. y.front i (omega (arith, l, x.count)) ∙ x.front i l;
  kept = λ v l. y.kept v (kept_label p a b x v l) ∙ x.kept v l;
  changed = λ v. join v (x.changed v) (y.changed v);
  added = λ i k l. elim (lt_or i (length b.queue.items)) [
    | inl m ↦ (let e : label b (slice_index b.queue.items i) ≡ p = x.added i k m in
        ap (label d) (y.front i m) ∙ y.kept (slice_index b.queue.items i) (omega (arith, e, some)) ∙ e)
    | inr m ↦ y.added i m l
  ];
  firsts = y.firsts ∙ x.firsts;
}
  where
    lt_or : (i n : ℕ) → (i < n) ⊎ (n ≤ i)
    lt_or i zero = inr (omega arith)
    lt_or i (suc n) = elim (lt_or i n) [
      | inl l ↦ inl (omega (arith, l))
      | inr l ↦ elim (cases_eq i n)
          [ inl e ↦ inl (omega (arith, e)) | inr ne ↦ inr (omega (arith, l, ne)) ]
    ]

    Since : Labels → Labels → ℕ → Type 0
    Since old new v = (label old v ≡ 0) × (label new v ≡ p)
        × ((i : ℕ) × (length old.queue.items ≤ i) × (i < length new.queue.items)
        × (slice_index new.queue.items i ≡ v))

    join : (v : ℕ) → (label b v ≡ label a v) ⊎ Since a b v → (label d v ≡ label b v) ⊎ Since b d v
        → (label d v ≡ label a v) ⊎ Since a d v
    join v (inl e) (inl f) = inl (f ∙ e)
    join v (inl e)
        (inr (none, here, (i, k, l, q))) = inr (sym e ∙ none, here, (i, omega (arith, k, x.count), l, q))
    join v (inr (none, here, (i, k, l, q)))
        _ = inr (none, y.kept v (omega (arith, here, some)) ∙ here, (i, k, omega (arith, l, y.count), y.front i l ∙ q))

-- labels that are alike or of the part stay so
own_changed : (p : ℕ) (old new : Labels) → Spreads p old new → (v : ℕ) → IsOwn p (label old v)
    → IsOwn p (label new v)
own_changed p old new x v own = elim (x.changed v) [
  | inl e ↦ subst (λ n. IsOwn p n) (sym e) own
  | inr (none, here, at) ↦ inr here
]

pub mixed_kept : (value : ℕ → Option Order) (p : ℕ) (old new : Labels) (con : Constraint) → Spreads p old new
    → AreMixed value p old con → AreMixed value p new con
mixed_kept value p old new con x mixed i j li lj oi oj = elim (mixed i j li lj oi oj) [
  | inr (a, b) ↦ inr (own_changed p old new x (term_at con.terms i).var a, own_changed p old new x (term_at con.terms j).var b)
  | inl e ↦ elim (x.changed (term_at con.terms i).var) [
    | inl f ↦ elim (x.changed (term_at con.terms j).var) [
      | inl g ↦ inl (f ∙ e ∙ sym g)
      | inr (none, here, at) ↦ inr (inl (f ∙ e ∙ none), inr here)
    ]
    | inr (none, here, at) ↦ elim (x.changed (term_at con.terms j).var) [
      | inl g ↦ inr (inr here, inl (g ∙ sym e ∙ none))
      | inr (none', here', at') ↦ inl (here ∙ sym here')
    ]
  ]
]

-- what reaching a variable of the constraint keeps
pub record IsReached (vars : ℕ) (cons : List Constraint) (value : ℕ → Option Order) (p : ℕ) (con : Constraint)
    (j : ℕ) (old new : Labels) : Type 0 where
  pub spreading : IsSpreading vars cons value p new
  pub spreads : Spreads p old new
  pub own : HasOwn p new con
  pub labelled : AllLabelled value new con (j + 1)

pub spreads_set : (p v : ℕ) (old new : Labels) → IsLabelled p v old new → v < length old.part_of.items
    → Spreads p old new
spreads_set p v old new is l =
    let long : length new.queue.items ≡ length old.queue.items + 1 = ap length is.queue
    ∙ length-append old.queue.items (v ∷ []) in
    let last : slice_index new.queue.items (length old.queue.items) ≡
    v = ap (λ xs. get_or xs (length old.queue.items) 0) is.queue
    ∙ get_or_push old.queue.items v 0 (length old.queue.items) refl in
    record {
      count = omega (arith, long);
      front = λ i m. ap (λ xs. get_or xs i 0) is.queue ∙ get_or_append_left old.queue.items (v ∷ []) 0 i m;
      kept = λ u some. label_other p v old new is u (λ e. zero_some (ap (label old) e ∙ is.none) some);
      changed = λ u. elim (cases_eq u v) [
        | inl e ↦ inr (ap (label old) e ∙ is.none, ap (label new) e ∙ label_here p v old new is l, (length old.queue.items, omega arith, omega (arith, long), last ∙ sym e))
        | inr ne ↦ inl (label_other p v old new is u ne)
      ];
      added = λ i a b. let e : i ≡ length
          old.queue.items = omega (arith, a, b, long) in ap (λ k. label new (slice_index new.queue.items k)) e
          ∙ ap (label new) last ∙ label_here p v old new is l;
      firsts = is.firsts;
    }
  where
    zero_some : {n : ℕ} → n ≡ 0 → 0 < n → ⊥
    zero_some e s = omega (arith, e, s)

suc_of : (p n : ℕ) → p ≡ n → 0 < p → (q : ℕ) × (p ≡ suc q)
suc_of zero n e s = absurd (omega (arith, s))
suc_of (suc q) n e s = (q, refl)

suc_same : (a b : ℕ) → suc a ≡ suc b → a ≡ b
suc_same a b e = omega (arith, e)

labelling_set : (vars : ℕ) (cons : List Constraint) → AreFit vars cons
    → (value : ℕ → Option Order) (p : ℕ) (c : ℕ) (con : Constraint) → slice_get cons c ≡ Some con → (j : ℕ)
    → j < length con.terms → (old new : Labels)
    → IsSpreading vars cons value p old → HasOwn p old con → value (term_at con.terms j).var ≡ None
    → IsLabelled p (term_at con.terms j).var old new → IsLabelling vars cons value new
labelling_set vars cons fit value p c con at j lj old new s (i, li, own) none is =
    let v = (term_at con.terms j).var in
    let x = (term_at con.terms i).var in
    let l = s.labelling in
    let within : v < vars = (fit c con at).within j lj in
    let wide : v < length old.part_of.items = omega (arith, within, l.wide) in
    let open_v : IsUndecided vars value v = record { variable = within; open_yet = none } in
    let open_x : IsUndecided vars value x = l.undecided x (omega (arith, own, s.some)) in
    let link : AreLinked vars cons value x v = record {
      first = open_x;
      second = open_v;
      together = record { number = c; constraint = con; there = at; first = i; second = j; first_inside = li; second_inside = lj; first_is = refl; second_is = refl };
    } in
    let long : length new.queue.items ≡ length old.queue.items + 1 = ap length is.queue
    ∙ length-append old.queue.items (v ∷ []) in
    let spread = spreads_set p v old new is wide in
    record {
      few = l.few;
      wide = ap length is.part_of ∙ length-set old.part_of.items v p ∙ l.wide;
      room = omega (arith, l.room, is.room);
      count = omega (arith, long, l.count, ap count_set is.part_of ∙ count_more old.part_of.items v p wide is.none s.some);
      queued = λ k m. elim (cases_eq k (length old.queue.items)) [
        | inl e ↦ subst (λ u. 0 < label new u)
            (sym (ap (λ xs. get_or xs k 0) is.queue ∙ get_or_push old.queue.items v 0 k (sym e)))
            (omega (arith, label_here p v old new is wide, s.some))
        | inr ne ↦ (let m' : k < length old.queue.items = omega (arith, m, long, ne) in
            subst (λ u. 0 < label new u) (sym (spread.front k m'))
            (kept_label p old new spread (slice_index old.queue.items k) (l.queued k m')))
      ];
      undecided = λ u some. elim (cases_eq u v) [
        | inl e ↦ subst (IsUndecided vars value) (sym e) open_v
        | inr ne ↦ l.undecided u (subst (λ n. 0 < n) (label_other p v old new is u ne) some)
      ];
      reached = λ u q e. elim (cases_eq u v) [
        | inl same ↦ (
            let mine : p ≡ suc q = sym (label_here p v old new is wide) ∙ ap (label new) (sym same) ∙ e in
            let r = l.reached x q (own ∙ mine) in
            let firsts : new.firsts.items ≡ old.firsts.items = ap (λ fs. fs.items) is.firsts in (
              omega (arith, r.0, ap length firsts),
              subst (λ w. AreConnected vars cons value (slice_index new.firsts.items q) w) (sym same)
                  (subst (λ fs. AreConnected vars cons value (slice_index fs q) v) (sym firsts)
                  (link_on vars cons value (slice_index old.firsts.items q) x v r.1 link)),
            ))
        | inr ne ↦ (
            let r = l.reached u q (sym (label_other p v old new is u ne) ∙ e) in
            let firsts : new.firsts.items ≡ old.firsts.items = ap (λ fs. fs.items) is.firsts in (
              omega (arith, r.0, ap length firsts),
              subst (λ fs. AreConnected vars cons value (slice_index fs q) u) (sym firsts) r.1,
            ))
      ];
    }

pub reached_step : (vars : ℕ) (cons : List Constraint) → AreFit vars cons
    → (value : ℕ → Option Order) (p : ℕ) (c : ℕ) (con : Constraint) → slice_get cons c ≡ Some con → (j : ℕ)
    → j < length con.terms → (old new : Labels)
    → IsSpreading vars cons value p old → HasOwn p old con → AllLabelled value old con j
    → Reaches value p (term_at con.terms j).var old new → IsReached vars cons value p con j old new
reached_step vars cons fit value p c con at j lj old new s own labelled (inl (none, is)) =
    let v = (term_at con.terms j).var in
    let wide : v < length old.part_of.items = omega (arith, (fit c con at).within j lj, s.labelling.wide) in
    let spread = spreads_set p v old new is wide in
    record {
      spreading = record {
        labelling = labelling_set vars cons fit value p c con at j lj old new s own none is;
        mixed = λ d other there. mixed_kept value p old new other spread (s.mixed d other there);
        last = s.last ∙ ap (λ fs. length fs.items) (sym is.firsts);
        some = s.some;
      };
      spreads = spread;
      own = (own.0, own.1, spread.kept (term_at con.terms own.0).var (omega (arith, own.2, s.some)) ∙ own.2);
      labelled = λ i l o. elim (cases_eq i j) [
        | inl e ↦ subst (λ k. 0 < label new (term_at con.terms k).var) (sym e)
            (omega (arith, label_here p v old new is wide, s.some))
        | inr ne ↦ kept_label p old new spread (term_at con.terms i).var (labelled i (omega (arith, l, ne)) o)
      ];
    }
reached_step vars cons fit value p c con at j lj old new s own labelled
    (inr (same, has)) = subst (λ l. IsReached vars cons value p con j old l) (sym same) (record {
      spreading = s;
      spreads = spreads_refl p old;
      own = own;
      labelled = λ i l o. elim (cases_eq i j) [
        | inl e ↦ subst (λ k. 0 < label old (term_at con.terms k).var) (sym e)
            (has (ap (λ k. value (term_at con.terms k).var) (sym e) ∙ o))
        | inr ne ↦ labelled i (omega (arith, l, ne)) o
      ];
    })

-- what holds while the terms of a constraint are gone through
pub record IsExamining (vars : ℕ) (cons : List Constraint) (value : ℕ → Option Order) (p : ℕ)
    (con : Constraint) (n : ℕ) (old now : Labels) : Type 0 where
  pub spreading : IsSpreading vars cons value p now
  pub spreads : Spreads p old now
  pub own : HasOwn p now con
  pub labelled : AllLabelled value now con n

pub examined_on : (vars : ℕ) (cons : List Constraint) → AreFit vars cons
    → (value : ℕ → Option Order) (p : ℕ) (c : ℕ) (con : Constraint) → slice_get cons c ≡ Some con → (j : ℕ)
    → j < length con.terms → (old mid new : Labels)
    → IsExamining vars cons value p con j old mid → Reaches value p (term_at con.terms j).var mid new
    → IsExamining vars cons value p con (j + 1) old new
examined_on vars cons fit value p c con at j lj old mid new e r =
    let step = reached_step vars cons fit value p c con at j lj mid new e.spreading e.own e.labelled r in
    record {
      spreading = step.spreading;
      spreads = spreads_trans p old mid new e.spreading.some e.spreads
          step.spreads;
      own = step.own;
      labelled = step.labelled;
    }

pub queue_long : (vars : ℕ) (cons : List Constraint) (value : ℕ → Option Order) (l : Labels)
    → IsLabelling vars cons value l → length l.queue.items ≤ vars
queue_long vars cons value l is = let r = count_le l.part_of.items in omega (arith, r, is.count, is.wide)
