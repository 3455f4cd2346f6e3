-- Seats are made, joined, and the door is closed.
use Rattle.std.proofs.Common.{◌≡◌, ℕ, zero, suc, ◌+◌, ◌^◌, ◌<◌, ◌≤◌, ◌≢◌, ◌⊎◌, true, false, List, [], ◌∷◌, ◌++◌, length, set, slice_get, sym, refl, ap, ◌∙◌, subst, ⊎_elim, inl, inr, arith, Option, Some, None, length-set, length-append}
use mathlib.Core.Logic.{dite}
use mathlib.Core.Option.{some, some-injective, some-ne-none}
use native.Mathlib.Decide.{ℕ_discrete}
use lib.ListN.{get_elem?}
use Rattle.atomic_table.specs.Table.{State, Splits, Joins, opening, Final, Seen}
use Rattle.atomic_table.proofs.Lists.{at_set, set_else, at_longer}
use Rattle.ff_door.specs.declared.waiter.Waiter.{Waiter}
use Rattle.ff_door.specs.declared.waiter.Plan.{Plan}
use Rattle.ff_door.specs.Entries.{Silent, Follows}
use Rattle.ff_door.specs.Rule.{total, one_if, waiting, parts_of, Seated, IsDoor, first, left_over, cut_off, gathered, spent}
use Rattle.ff_door.proofs.Turns.{total_set, some_below, not_it}

module _ {V : Type 0} where
  at_end : (l : List V) (a b : V) (j : ℕ) → get_elem? (l ++ a ∷ []) j ≡ some b → (get_elem? l j ≡ some b) ⊎ ((j ≡ length l) × (a ≡ b))
  at_end [] a b zero e = inr (refl, some-injective a b e)
  at_end [] a b (suc j) e = absurd (some-ne-none b (sym e))
  at_end (x ∷ xs) a b zero e = inl e
  at_end (x ∷ xs) a b (suc j) e = ⊎_elim inl (λ t. inr (ap suc t.0, t.1)) (at_end xs a b j e)

  total_end : (f : V → ℕ) (l : List V) (a : V) → total f (l ++ a ∷ []) ≡ total f l + f a
  total_end f [] a = omega arith
  total_end f (x ∷ xs) a = omega (arith, total_end f xs a)

  total_one : (f : V → ℕ) (l : List V) (i : ℕ) (v : V) → get_elem? l i ≡ some v → f v ≤ total f l
  total_one f [] i v e = absurd (some-ne-none v (sym e))
  total_one f (x ∷ xs) zero v e = let same : f x ≡ f v = ap f (some-injective x v e) in omega arith
  total_one f (x ∷ xs) (suc i) v e = omega (arith, total_one f xs i v e)

  pub total_two : (f : V → ℕ) (l : List V) (i j : ℕ) (v w : V) → i ≢ j → get_elem? l i ≡ some v → get_elem? l j ≡ some w → f v + f w ≤ total f l
  total_two f [] i j v w n a b = absurd (some-ne-none v (sym a))
  total_two f (x ∷ xs) zero zero v w n a b = absurd (n refl)
  total_two f (x ∷ xs) zero (suc j) v w n a b = let same : f x ≡ f v = ap f (some-injective x v a) in omega (arith, total_one f xs j w b)
  total_two f (x ∷ xs) (suc i) zero v w n a b = let same : f x ≡ f w = ap f (some-injective x w b) in omega (arith, total_one f xs i v a)
  total_two f (x ∷ xs) (suc i) (suc j) v w n a b = omega (arith, total_two f xs i j v w (λ e. n (ap suc e)) a b)

module _ {E : Type 0} (names : E → Option ℕ) (k : ℕ) where
  silent_rest : (xs ys : List E) → Silent names k (xs ++ ys) → Silent names k ys
  silent_rest [] ys h = h
  silent_rest (x ∷ xs) ys h = silent_rest xs ys h.1

none_got : {X : Type 0} (i : ℕ) (p : X) → slice_get [] i ≡ Some p → ⊥
none_got i p e = let a : None ≡ Some p = e in cc

got_cases : {X : Type 0} (a : X) (l : List X) (i : ℕ) (p : X) → slice_get (a ∷ l) i ≡ Some p → (a ≡ p) ⊎ ((k : ℕ) × (slice_get l k ≡ Some p))
got_cases a l zero p e = inl (let q : Some a ≡ Some p = e in cc)
got_cases a l (suc i) p e = inr (i, e)

module _ {T E B : Type 0} (listed : T → List E) (names : E → Option ℕ) (base : T → B) (key : Plan T) where
  abbrev V : Type 0
  V = Waiter E B

  abbrev Rule : State (Option T) V → Type 0
  Rule = IsDoor listed names base key

  pub starts : (x : T) → x ≡ key.first.value → 0 < key.seats → key.seats < 2 ^ 32 → ((k : ℕ) → Silent names k (listed x)) → Rule (opening (0 ∷ 0 ∷ []) (Some x ∷ []) (first listed names base key))
  starts x is some_seats few silent = record {
    log = listed x;
    next = 0;
    served = 0;
    words = refl;
    one = refl;
    queue = refl;
    shares = omega arith;
    few = few;
    apart = λ i j v w a b p q t. absurd (not_it v.waits p (lone i v a).1);
    home = λ _. (x, refl, refl, ap base is);
    gone = λ j v e i p h. absurd (none_got i p (ap (λ (z : V). slice_get z.joined i) (lone j v e).2 ∙ h));
    unnamed = λ k _. silent k;
    seats = λ j v e. let o = lone j v e in subst (λ (z : ℕ × V). Seated listed names base key (listed x) 0 0 1 z.0 z.1) (λ k. (sym o.0 k, o.2 k)) record {
      number = λ _. refl;
      based = λ _. refl;
      seen = λ _. (listed x, refl, silent 0);
      ticket = λ w. absurd (not_it false w refl);
      inside = λ w. absurd (not_it false w refl);
      maker = λ _. (refl, refl, some_seats);
      joined = λ i p h. absurd (none_got i p h);
    };
  }
    where
      lone : (j : ℕ) (v : V) → get_elem? (first listed names base key ∷ []) j ≡ some v → (j ≡ 0) × (v.waits ≡ false) × (first listed names base key ≡ v)
      lone zero v e = let s = some-injective (first listed names base key) v e in (refl, ap (λ (z : V). z.waits) (sym s), s)
      lone (suc j) v e = absurd (some-ne-none v (sym e))

  pub joins : (id other : ℕ) (v w : V) → 0 < v.parts → 0 < w.parts → v.waits ≡ false → w.waits ≡ false → v.inside ≡ false → w.inside ≡ false → Joins Rule id v other w (gathered v w) spent
  joins id other v w lives there wait_v wait_w in_v in_w s r at apart at_w =
      let both : V = gathered v w in let mid : List V = set s.views id both in let l : List V = set mid other spent in
      let count : length l ≡ length s.views = length-set mid other spent ∙ length-set s.views id both in
      let was_w : get_elem? s.views other ≡ some w = sym (set_else s.views id other both apart) ∙ at_w in
      let mine = r.seats id v at in let its = r.seats other w was_w in
      let cases : (j : ℕ) (x : V) → get_elem? l j ≡ some x → ((j ≡ other) × (spent ≡ x)) ⊎ (((j ≡ id) × (both ≡ x)) ⊎ ((j ≢ id) × (j ≢ other) × (get_elem? s.views j ≡ some x))) = λ j x e.
      ⊎_elim inl (λ (t : (j ≢ other) × (get_elem? mid j ≡ some x)). inr (⊎_elim inl (λ (q : (j ≢ id) × (get_elem? s.views j ≡ some x)). inr (q.0, t.0, q.1)) (at_set s.views id j both x t.1))) (at_set mid other j spent x e) in
      let old : (j : ℕ) (x : V) → get_elem? l j ≡ some x → x.waits ≡ true → get_elem? s.views j ≡ some x = λ j x e y. ⊎_elim (λ t. absurd (not_it x.waits y (ap (λ (z : V). z.waits) (sym t.1)))) (⊎_elim (λ t. absurd (not_it x.waits y (ap (λ (z : V). z.waits) (sym t.1) ∙ wait_v))) (λ t. t.2)) (cases j x e) in
      let dead : (k : ℕ) → (k ≡ other) ⊎ ((x : V) → get_elem? s.views k ≡ some x → x.parts ≡ 0) → (u : V) → get_elem? l k ≡ some u → u.parts ≡ 0 = λ k why u e. ⊎_elim (λ t. ap (λ (z : V). z.parts) (sym t.1))
      (⊎_elim (λ t. ⊎_elim (λ o. absurd (apart (sym o ∙ t.0))) (λ f. let z = f v (ap (get_elem? s.views) t.0 ∙ at) in absurd (omega arith)) why)
      (λ t. ⊎_elim (λ o. absurd (t.1 o)) (λ f. f u t.2) why)) (cases k u e) in
      record {
        log = r.log;
        next = r.next;
        served = r.served;
        words = r.words;
        one = r.one;
        queue = let a = total_set waiting s.views id v both at in let b = total_set waiting mid other w spent at_w in let c : waiting w ≡ 0 = ap one_if wait_w in let q = r.queue in omega arith;
        shares = let a = total_set parts_of s.views id v both at in let b = total_set parts_of mid other w spent at_w in let q = r.shares in omega arith;
        few = r.few;
        apart = λ i j a b p q x y t. r.apart i j a b (old i a p x) (old j b q y) x y t;
        home = λ empty. r.home (λ j u e i. let y = ((r.seats j u e).inside i).0 in
            let not_id : j ≢ id = λ z. not_it u.waits y (ap (λ (x : V). x.waits) (some-injective u v (sym e ∙ (ap (get_elem? s.views) z ∙ at))) ∙ wait_v) in
            let not_other : j ≢ other = λ z. not_it u.waits y (ap (λ (x : V). x.waits) (some-injective u w (sym e ∙ (ap (get_elem? s.views) z ∙ was_w))) ∙ wait_w) in
            empty j u (set_else mid other j spent not_other ∙ (set_else s.views id j both not_id ∙ e)) i);
        unnamed = λ k h. r.unnamed k (omega (arith, count));
        gone = λ j x e i p h. dead p.0 (⊎_elim (λ t. absurd (none_got i p (ap (λ (z : V). slice_get z.joined i) t.1 ∙ h)))
            (⊎_elim (λ t. ⊎_elim (λ q. inl (ap (λ (z : ℕ × List E). z.0) (sym q) ∙ its.number there)) (λ q. inr (r.gone id v at q.0 p q.1)) (got_cases (w.number, w.seen) v.joined i p (ap (λ (z : V). slice_get z.joined i) t.1 ∙ h)))
            (λ t. inr (r.gone j x t.2 i p h))) (cases j x e));
        seats = λ j x e. ⊎_elim
            (λ t. subst (λ (z : ℕ × V). Seated listed names base key r.log r.next r.served (length l) z.0 z.1) (λ k. (sym t.0 k, t.1 k)) record {
              number = λ p. absurd (omega arith);
              based = λ p. absurd (omega arith);
              seen = λ p. absurd (omega arith);
              ticket = λ p. absurd (not_it false p refl);
              inside = λ p. absurd (not_it false p refl);
              maker = λ p. absurd (not_it false p refl);
              joined = λ i p h. absurd (none_got i p h);
            })
            (⊎_elim
            (λ t. subst (λ (z : ℕ × V). Seated listed names base key r.log r.next r.served (length l) z.0 z.1) (λ k. (sym t.0 k, t.1 k)) record {
              number = λ _. mine.number lives;
              based = λ _. mine.based lives;
              seen = λ _. mine.seen lives;
              ticket = λ p. absurd (not_it v.waits p wait_v);
              inside = λ p. absurd (not_it v.inside p in_v);
              maker = λ p. absurd (not_it false p refl);
              joined = λ i p h. ⊎_elim
                  (λ q. subst (λ (z : ℕ × List E). Follows names z.0 z.1 r.log × (z.0 < length l)) q (subst (λ (z : ℕ). Follows names z w.seen r.log × (z < length l)) (sym (its.number there)) (its.seen there, omega (arith, count, some_below s.views other w was_w))))
                  (λ q. let o = mine.joined q.0 p q.1 in (o.0, omega (arith, count))) (got_cases (w.number, w.seen) v.joined i p h);
            })
            (λ t. let q = r.seats j x t.2 in record {
              number = q.number;
              based = q.based;
              seen = q.seen;
              ticket = q.ticket;
              inside = q.inside;
              maker = λ m. let p = q.maker m in (p.0 ∙ sym count, p.1 ∙ sym count, p.2);
              joined = λ i p h. let o = q.joined i p h in (o.0, omega (arith, count));
            })) (cases j x e);
      }

  pub splits : (id : ℕ) (v : V) → v.makes ≡ true → 1 < v.parts → v.waits ≡ false → v.inside ≡ false → Splits Rule id v (left_over v) (cut_off v)
  splits id v makes room waits inside s r at =
      let left : V = left_over v in let right : V = cut_off v in let mid : List V = set s.views id left in let l : List V = mid ++ right ∷ [] in
      let same : length mid ≡ length s.views = length-set s.views id left in
      let count : length l ≡ length s.views + 1 = length-append mid (right ∷ []) ∙ ap (λ (n : ℕ). n + 1) same in
      let mine = r.seats id v at in let last = mine.maker makes in
      let cases : (j : ℕ) (x : V) → get_elem? l j ≡ some x → ((j ≡ length s.views) × (right ≡ x)) ⊎ (((j ≡ id) × (left ≡ x)) ⊎ ((j ≢ id) × (get_elem? s.views j ≡ some x))) = λ j x e.
      ⊎_elim (λ p. inr (at_set s.views id j left x p)) (λ t. inl (t.0 ∙ same, t.1)) (at_end mid right x j e) in
      let old : (j : ℕ) (x : V) → get_elem? l j ≡ some x → x.waits ≡ true → get_elem? s.views j ≡ some x = λ j x e y. ⊎_elim (λ t. absurd (not_it x.waits y (ap (λ (z : V). z.waits) (sym t.1) ∙ waits))) (⊎_elim (λ t. absurd (not_it x.waits y (ap (λ (z : V). z.waits) (sym t.1) ∙ waits))) (λ t. t.1)) (cases j x e) in
      let below = some_below s.views id v at in
      let dead : (k : ℕ) → k < length s.views → ((x : V) → get_elem? s.views k ≡ some x → x.parts ≡ 0) → (u : V) → get_elem? l k ≡ some u → u.parts ≡ 0 = λ k h f u e. ⊎_elim (λ t. let z = t.0 in absurd (omega arith))
      (⊎_elim (λ t. let z = f v (ap (get_elem? s.views) t.0 ∙ at) in absurd (omega arith)) (λ t. f u t.1)) (cases k u e) in
      record {
        log = r.log;
        next = r.next;
        served = r.served;
        words = r.words;
        one = r.one;
        queue = let a = total_set waiting s.views id v left at in let b = total_end waiting mid right in let c : waiting v ≡ 0 = ap one_if waits in let q = r.queue in omega arith;
        shares = let a = total_set parts_of s.views id v left at in let b = total_end parts_of mid right in let q = r.shares in omega arith;
        few = r.few;
        apart = λ i j a b p q x y t. r.apart i j a b (old i a p x) (old j b q y) x y t;
        home = λ empty. r.home (λ j u e i. let y = ((r.seats j u e).inside i).0 in
            let not_id : j ≢ id = λ z. not_it u.waits y (ap (λ (x : V). x.waits) (some-injective u v (sym e ∙ (ap (get_elem? s.views) z ∙ at))) ∙ waits) in
            empty j u (at_longer mid (right ∷ []) j u (set_else s.views id j left not_id ∙ e)) i);
        unnamed = λ k h. r.unnamed k (omega (arith, count));
        gone = λ j x e i p h. ⊎_elim (λ t. λ u q. absurd (none_got i p (ap (λ (z : V). slice_get z.joined i) t.1 ∙ h)))
            (⊎_elim (λ t. let h' = ap (λ (z : V). slice_get z.joined i) t.1 ∙ h in dead p.0 (mine.joined i p h').1 (r.gone id v at i p h')) (λ t. dead p.0 ((r.seats j x t.1).joined i p h).1 (r.gone j x t.1 i p h))) (cases j x e);
        seats = λ j x e. ⊎_elim
            (λ t. subst (λ (z : ℕ × V). Seated listed names base key r.log r.next r.served (length l) z.0 z.1) (λ k. (sym t.0 k, t.1 k)) record {
              number = λ _. last.1;
              based = λ _. mine.based last.2;
              seen = λ _. let f = mine.seen last.2 in (f.0, f.1, silent_rest names (length s.views) v.seen f.0 (subst (Silent names (length s.views)) f.1 (r.unnamed (length s.views) (omega arith))));
              ticket = λ p. absurd (not_it v.waits p waits);
              inside = λ p. absurd (not_it v.inside p inside);
              maker = λ _. (sym count, ap (λ (n : ℕ). n + 1) last.1 ∙ sym count, omega arith);
              joined = λ i p h. absurd (none_got i p h);
            })
            (⊎_elim
            (λ t. subst (λ (z : ℕ × V). Seated listed names base key r.log r.next r.served (length l) z.0 z.1) (λ k. (sym t.0 k, t.1 k)) record {
              number = λ _. mine.number last.2;
              based = λ _. mine.based last.2;
              seen = λ _. mine.seen last.2;
              ticket = λ p. absurd (not_it v.waits p waits);
              inside = λ p. absurd (not_it v.inside p inside);
              maker = λ p. absurd (not_it false p refl);
              joined = λ i p h. let o = mine.joined i p h in (o.0, omega (arith, count));
            })
            (λ t. let q = r.seats j x t.1 in record {
              number = q.number;
              based = q.based;
              seen = q.seen;
              ticket = q.ticket;
              inside = q.inside;
              maker = λ m. let p = q.maker m in absurd (t.0 (let a = p.0 in let b = last.0 in omega arith));
              joined = λ i p h. let o = q.joined i p h in (o.0, omega (arith, count));
            })) (cases j x e);
      }

  pub closes : (id : ℕ) (v : V) (ws : List ℕ) (xs : List (Option T)) → v.parts ≡ key.seats → 0 < v.parts → v.inside ≡ false → Final (Seen Rule id v) ws xs
      → (x : T) × (get_elem? xs 0 ≡ some (Some x)) × (base x ≡ base key.first.value) × Follows names v.number v.seen (listed x) × ((i : ℕ) (p : ℕ × List E) → slice_get v.joined i ≡ Some p → Follows names p.0 p.1 (listed x))
  closes id v ws xs whole lives inside f =
      let s = f.0 in let r = f.1.0 in let at = f.1.1 in let mine = r.seats id v at in
      let x = r.home (λ j u e i. dite (ℕ_discrete j id)
      (λ z. not_it u.inside i (ap (λ (y : V). y.inside) (some-injective u v (sym e ∙ (ap (get_elem? s.views) z ∙ at))) ∙ inside))
      (λ n. let p = (r.seats j u e).inside i in let q = ((r.seats j u e).ticket p.0).2 in let t = total_two parts_of s.views j id u v n e at in let h = r.shares in absurd (omega arith))) in (
        x.0,
        f.4 0 (Some x.0) x.1,
        x.3,
        subst (λ (z : ℕ × List E). Follows names z.0 v.seen z.1) (λ k. (sym (mine.number lives) k, sym x.2 k)) (mine.seen lives),
        λ i p h. subst (Follows names p.0 p.1) (sym x.2) (mine.joined i p h).0,
      )
