-- Each step keeps the rule of the door.
use Rattle.std.proofs.Common.{◌≡◌, ℕ, zero, suc, ◌+◌, ◌%◌, ◌^◌, ◌<◌, ◌≤◌, ◌≢◌, ◌⊎◌, Bool, true, false, List, [], ◌∷◌, ◌++◌, length, get_or, set, slice_get, sym, refl, ap, ◌∙◌, subst, ⊎_elim, inl, inr, arith, Option, Some, None, length-set, append_assoc, append-nil}
use mathlib.Core.Logic.{dite}
use mathlib.Core.Option.{none, some, some-injective, some-ne-none}
use native.Mathlib.Decide.{ℕ_discrete}
use lib.ListN.{get_elem?}
use lib.Seq.{set-get_or}
use Rattle.atomic_table.specs.Table.{State, Me, step, keeps, takes, gives, Allows, rest, put_back}
use Rattle.atomic_table.proofs.Lists.{at_set, set_again, set_here, set_else, one_turn}
use Rattle.ff_door.specs.declared.waiter.Waiter.{Waiter}
use Rattle.ff_door.specs.declared.waiter.Plan.{Plan}
use Rattle.ff_door.specs.Entries.{Silent, Follows, Adds}
use Rattle.ff_door.specs.Rule.{total, one_if, waiting, parts_of, Seated, IsDoor, with_ticket, drew, let_in, let_out, arrived, served_next, Out, Queued}

module _ {V : Type 0} where
  pub total_set : (f : V → ℕ) (vs : List V) (i : ℕ) (v w : V) → get_elem? vs i ≡ some v → total f (set vs i w) + f v ≡ total f vs + f w
  total_set f [] i v w e = absurd (some-ne-none v (sym e))
  total_set f (x ∷ xs) zero v w e = let same : f x ≡ f v = ap f (some-injective x v e) in omega arith
  total_set f (x ∷ xs) (suc i) v w e = omega (arith, total_set f xs i v w e)

  pub total_le : (f g : V → ℕ) (vs : List V) → ((i : ℕ) (v : V) → get_elem? vs i ≡ some v → f v ≤ g v) → total f vs ≤ total g vs
  total_le f g [] h = omega arith
  total_le f g (x ∷ xs) h = let a = h 0 x refl in omega (arith, total_le f g xs (λ i v e. h (suc i) v e))

  pub some_below : (vs : List V) (i : ℕ) (v : V) → get_elem? vs i ≡ some v → i < length vs
  some_below [] i v e = absurd (some-ne-none v (sym e))
  some_below (x ∷ xs) zero v e = omega arith
  some_below (x ∷ xs) (suc i) v e = omega (arith, some_below xs i v e)

  -- what holds of the new view, and of each other, holds of all
  pub each : (P : ℕ → V → Type 0) (vs : List V) (i : ℕ) (w : V) → P i w → ((j : ℕ) (v : V) → j ≢ i → get_elem? vs j ≡ some v → P j v) → (j : ℕ) (v : V) → get_elem? (set vs i w) j ≡ some v → P j v
  each P vs i w here there j v e = ⊎_elim (λ (t : (j ≡ i) × (w ≡ v)). subst (λ (z : ℕ × V). P z.0 z.1) (λ k. (sym t.0 k, t.1 k)) here) (λ (t : (j ≢ i) × (get_elem? vs j ≡ some v)). there j v t.0 t.1) (at_set vs i j w v e)

module _ {E : Type 0} (names : E → Option ℕ) (k : ℕ) where
  silent_append : (xs ys : List E) → Silent names k xs → Silent names k ys → Silent names k (xs ++ ys)
  silent_append [] ys a b = b
  silent_append (x ∷ xs) ys a b = (a.0, silent_append xs ys a.1 b)

  pub follows_itself : (log : List E) → Follows names k log log
  follows_itself log = ([], sym (append-nil log), tt)

  pub follows_one : (seen log : List E) (e : E) → (names e ≡ Some k → ⊥) → Follows names k seen log → Follows names k seen (log ++ e ∷ [])
  follows_one seen log e other f = (f.0 ++ e ∷ [], ap (λ l. l ++ e ∷ []) f.1 ∙ append_assoc seen f.0 (e ∷ []), silent_append f.0 (e ∷ []) f.2 (other, tt))

  pub silent_one : (log : List E) (e : E) → (names e ≡ Some k → ⊥) → Silent names k log → Silent names k (log ++ e ∷ [])
  silent_one log e other f = silent_append log (e ∷ []) f (other, tt)

pub not_it : (b : Bool) → b ≡ true → b ≡ false → ⊥
not_it b p q = let e : true ≡ false = sym p ∙ q in cc

one_more : (n : ℕ) → (n % 2 ^ 64 + 1) % 2 ^ 64 ≡ (n + 1) % 2 ^ 64
one_more n = omega arith

one_of : (b : Bool) (n : ℕ) → (b ≡ true → 0 < n) → one_if b ≤ n
one_of true n h = let p = h refl in omega arith
one_of false n h = omega arith

abbrev value_or : {T : Type 0} → T → Option T → T
value_or d (Some x) = x
value_or d None = d

abbrev taken_or : {T : Type 0} → T → List (ℕ × Option T) → T
taken_or d [] = d
taken_or d (x ∷ xs) = value_or d x.1

taken_same : {T : Type 0} (y x : T) → ◌≡◌ {A = List (ℕ × Option T)} ((0, Some y) ∷ []) ((0, Some x) ∷ []) → y ≡ x
taken_same y x e = ap (taken_or y) e

some_same : {X : Type 0} → (x y : X) → Some x ≡ Some y → x ≡ y
some_same x y e = cc

module _ {T E B : Type 0} (listed : T → List E) (names : E → Option ℕ) (base : T → B) (key : Plan T) where
  abbrev V : Type 0
  V = Waiter E B

  abbrev St : Type 0
  St = State (Option T) V

  abbrev Rule : St → Type 0
  Rule = IsDoor listed names base key

  abbrev Sits : List E → ℕ → ℕ → ℕ → ℕ → V → Type 0
  Sits = Seated listed names base key

  -- no more than 2 ^ 32 wait
  not_many : (s : St) (r : Rule s) → total waiting s.views < 2 ^ 32
  not_many s r = let a = total_le waiting parts_of s.views (λ i v e. one_of v.waits v.parts (λ w. ((r.seats i v e).ticket w).2)) in let b = r.shares in let c = r.few in omega arith

  nobody : (s : St) (id : ℕ) (w : V) → (v : V) → get_elem? s.views id ≡ some v → v.inside ≡ false → ((j : ℕ) (u : V) → get_elem? (set s.views id w) j ≡ some u → u.inside ≡ true → ⊥) → (j : ℕ) (u : V) → get_elem? s.views j ≡ some u → u.inside ≡ true → ⊥
  nobody s id w v at out empty j u e i = dite (ℕ_discrete j id)
      (λ same. let q : v ≡ u = some-injective v u (sym at ∙ (ap (get_elem? s.views) (sym same) ∙ e)) in not_it u.inside i (ap (λ (z : V). z.inside) (sym q) ∙ out))
      (λ other. empty j u (set_else s.views id j w other ∙ e) i)

  -- what stands at i in the views after a draw, and at j
  abbrev Now : St → ℕ → V → ℕ → V → Type 0
  Now s id w i a = ((i ≡ id) × (w ≡ a)) ⊎ ((i ≢ id) × (get_elem? s.views i ≡ some a))

  two_apart : (s : St) (r : Rule s) (id : ℕ) (w : V) → w.ticket ≡ r.next → (i j : ℕ) (a b : V) → Now s id w i a → Now s id w j b → a.waits ≡ true → b.waits ≡ true → a.ticket ≡ b.ticket → i ≡ j
  two_apart s r id w new i j a b (inl p) (inl q) x y t = p.0 ∙ sym q.0
  two_apart s r id w new i j a b (inl p) (inr q) x y t = let l = ((r.seats j b q.1).ticket y).1 in let e : a.ticket ≡ r.next = ap (λ (z : V). z.ticket) (sym p.1) ∙ new in absurd (omega arith)
  two_apart s r id w new i j a b (inr p) (inl q) x y t = let l = ((r.seats i a p.1).ticket x).1 in let e : b.ticket ≡ r.next = ap (λ (z : V). z.ticket) (sym q.1) ∙ new in absurd (omega arith)
  two_apart s r id w new i j a b (inr p) (inr q) x y t = r.apart i j a b p.1 q.1 x y t

  -- the parts of the views stay where the seat's parts do
  still_gone : (s : St) (r : Rule s) (id : ℕ) (v w : V) → get_elem? s.views id ≡ some v → w.joined ≡ v.joined → w.parts ≡ v.parts
      → (j : ℕ) (x : V) → get_elem? (set s.views id w) j ≡ some x → (i : ℕ) (p : ℕ × List E) → slice_get x.joined i ≡ Some p → (u : V) → get_elem? (set s.views id w) p.0 ≡ some u → u.parts ≡ 0
  still_gone s r id v w at same parts j x e i p has u there =
      let old : (x' : V) → get_elem? s.views j ≡ some x' → slice_get x'.joined i ≡ Some p → (u' : V) → get_elem? s.views p.0 ≡ some u' → u'.parts ≡ 0 = λ x' e' h. r.gone j x' e' i p h in
      let none_left : (u' : V) → get_elem? s.views p.0 ≡ some u' → u'.parts ≡ 0 = ⊎_elim
      (λ (t : (j ≡ id) × (w ≡ x)). old v (ap (get_elem? s.views) t.0 ∙ at) (ap (λ l. slice_get l i) (sym same ∙ ap (λ (z : V). z.joined) t.1) ∙ has))
      (λ (t : (j ≢ id) × (get_elem? s.views j ≡ some x)). old x t.1 has) (at_set s.views id j w x e) in
      ⊎_elim (λ (t : (p.0 ≡ id) × (w ≡ u)). ap (λ (z : V). z.parts) (sym t.1) ∙ (parts ∙ none_left v (ap (get_elem? s.views) t.0 ∙ at)))
      (λ (t : (p.0 ≢ id) × (get_elem? s.views p.0 ≡ some u)). none_left u t.1) (at_set s.views id p.0 w u there)

  pub draws : (slots id : ℕ) (me : Me (Option T) V) → Out me → Allows Rule slots id me 0 (λ n. (n + 1) % 2 ^ 64) (drew (step slots 0 1 0 none) me)
  draws slots id me out s r wide at small =
      let v : V = me.0 in let w : V = with_ticket r.next v in let mine = r.seats id v at in
      let count : length (set s.views id w) ≡ length s.views = length-set s.views id w in
      let n_is : get_or s.words 0 0 ≡ r.next % 2 ^ 64 = ap (λ l. get_or l 0 0) r.words in (
        w,
        keeps,
        tt,
        record {
          log = r.log;
          next = r.next + 1;
          served = r.served;
          words = ap (λ (z : List ℕ × ℕ). set z.0 0 ((z.1 + 1) % 2 ^ 64)) (λ k. (r.words k, n_is k)) ∙ ap (λ z. z ∷ (r.served % 2 ^ 64) ∷ []) (one_more r.next);
          one = r.one;
          queue = let a = total_set waiting s.views id v w at in let b = r.queue in let c : waiting v ≡ 0 = ap one_if out.0 in omega arith;
          shares = let a = total_set parts_of s.views id v w at in let b = r.shares in omega arith;
          few = r.few;
          apart = λ i j a b p q x y t. two_apart s r id w refl i j a b (at_set s.views id i w a p) (at_set s.views id j w b q) x y t;
          home = λ empty. r.home (nobody s id w v at out.1 empty);
          unnamed = λ k l. r.unnamed k (omega (arith, count));
          gone = λ j x e i p h u t. still_gone s r id v w at refl refl j x e i p h u t;
          seats = each (Sits r.log (r.next + 1) r.served (length (set s.views id w))) s.views id w
              record {
                number = mine.number;
                based = mine.based;
                seen = mine.seen;
                ticket = λ _. let q = r.queue in (omega arith, omega arith, out.2);
                inside = λ i. absurd (not_it v.inside i out.1);
                maker = λ m. let q = mine.maker m in (q.0 ∙ sym count, q.1 ∙ sym count, q.2);
                joined = λ i p h. let q = mine.joined i p h in (q.0, omega (arith, count));
              }
              (λ j u _ e. let q = r.seats j u e in record {
                number = q.number;
                based = q.based;
                seen = q.seen;
                ticket = λ x. let t = q.ticket x in (t.0, omega arith, t.2);
                inside = q.inside;
                maker = λ m. let p = q.maker m in (p.0 ∙ sym count, p.1 ∙ sym count, p.2);
                joined = λ i p h. let o = q.joined i p h in (o.0, omega (arith, count));
              });
        },
        (refl, (r.next, sym n_is, refl)),
      )

  same_apart : (s : St) (r : Rule s) (id : ℕ) (v w : V) → get_elem? s.views id ≡ some v → (w.waits ≡ true → (v.waits ≡ true) × (w.ticket ≡ v.ticket)) → (i j : ℕ) (a b : V) → Now s id w i a → Now s id w j b → a.waits ≡ true → b.waits ≡ true → a.ticket ≡ b.ticket → i ≡ j
  same_apart s r id v w at was i j a b (inl p) (inl q) x y t = p.0 ∙ sym q.0
  same_apart s r id v w at was i j a b (inl p) (inr q) x y t = let o = was (ap (λ (z : V). z.waits) p.1 ∙ x) in p.0 ∙ r.apart id j v b at q.1 o.0 y (sym o.1 ∙ (ap (λ (z : V). z.ticket) p.1 ∙ t))
  same_apart s r id v w at was i j a b (inr p) (inl q) x y t = let o = was (ap (λ (z : V). z.waits) q.1 ∙ y) in r.apart i id a v p.1 at x o.0 (t ∙ (ap (λ (z : V). z.ticket) (sym q.1) ∙ o.1)) ∙ sym q.0
  same_apart s r id v w at was i j a b (inr p) (inr q) x y t = r.apart i j a b p.1 q.1 x y t

  same_view : (s : St) (i : ℕ) (u v : V) (j : ℕ) → j ≡ i → get_elem? s.views j ≡ some u → get_elem? s.views i ≡ some v → u ≡ v
  same_view s i u v j same e at = some-injective u v (sym e ∙ (ap (get_elem? s.views) same ∙ at))

  pub arrives : (slots id : ℕ) (me : Me (Option T) V) → Queued me → Allows Rule slots id me 1 (λ n. n) (arrived listed names base (step slots 1 0 0 none) me)
  arrives slots id me queued s r wide at small =
      let v : V = me.0 in let n : ℕ = get_or s.words 1 0 in let mine = r.seats id v at in
      let n_is : n ≡ r.served % 2 ^ 64 = ap (λ l. get_or l 1 0) r.words in
      let as_it_was : set s.words 1 n ≡ s.words = set-get_or s.words 1 0 in
      dite (ℕ_discrete n (v.ticket % 2 ^ 64))
      (λ hit.
      let t = mine.ticket queued.0 in
      let close : v.ticket < r.served + 2 ^ 64 = let m = not_many s r in let a = r.queue in let b = t.1 in omega arith in
      let here : r.served ≡ v.ticket = one_turn r.served v.ticket (2 ^ 64) t.0 close (sym n_is ∙ hit) in
      let x = r.home (λ j u e i. let p = (r.seats j u e).inside i in let same = r.apart j id u v e at p.0 queued.0 (p.1 ∙ here) in
      not_it v.inside (ap (λ (z : V). z.inside) (sym (same_view s id u v j same e at)) ∙ i) queued.1) in
      let w : V = let_in (listed x.0) v in
      let count : length (set s.views id w) ≡ length s.views = length-set s.views id w in (
        w,
        takes 0 (Some x.0),
        x.1,
        record {
          log = r.log;
          next = r.next;
          served = r.served;
          words = as_it_was ∙ r.words;
          one = length-set s.homes 0 none ∙ r.one;
          queue = let a = total_set waiting s.views id v w at in let b = r.queue in omega arith;
          shares = let a = total_set parts_of s.views id v w at in let b = r.shares in omega arith;
          few = r.few;
          apart = λ i j a b p q y z t. same_apart s r id v w at (λ o. (o, refl)) i j a b (at_set s.views id i w a p) (at_set s.views id j w b q) y z t;
          home = λ empty. absurd (empty id w (set_here s.views id w (some_below s.views id v at)) refl);
          unnamed = λ k l. r.unnamed k (omega (arith, count));
          gone = λ j x e i p h u t. still_gone s r id v w at refl refl j x e i p h u t;
          seats = each (Sits r.log r.next r.served (length (set s.views id w))) s.views id w
              record {
                number = mine.number;
                based = mine.based;
                seen = λ _. subst (λ (l : List E). Follows names id l r.log) (sym x.2) (follows_itself names id r.log);
                ticket = mine.ticket;
                inside = λ _. (queued.0, sym here, x.2);
                maker = λ m. let p = mine.maker m in (p.0 ∙ sym count, p.1 ∙ sym count, p.2);
                joined = λ i p h. let o = mine.joined i p h in (o.0, omega (arith, count));
              }
              (λ j u _ e. let q = r.seats j u e in record {
                number = q.number;
                based = q.based;
                seen = q.seen;
                ticket = q.ticket;
                inside = q.inside;
                maker = λ m. let p = q.maker m in (p.0 ∙ sym count, p.1 ∙ sym count, p.2);
                joined = λ i p h. let o = q.joined i p h in (o.0, omega (arith, count));
              });
        },
        ((λ _. (x.0, refl, refl, subst (λ (z : ℕ × List E). Follows names z.0 v.seen z.1) (λ k. (sym (mine.number queued.2) k, sym x.2 k)) (mine.seen queued.2), ap Some x.3 ∙ sym (mine.based queued.2))), λ miss. absurd (miss hit)),
      ))
      (λ miss. (
        v,
        keeps,
        tt,
        subst (λ (z : List ℕ × List V). Rule record { words = z.0; homes = s.homes; views = z.1 }) (λ k. (sym as_it_was k, sym (set_again s.views id v at) k)) r,
        ((λ hit. absurd (miss hit)), λ _. refl),
      ))

  not_named : (e : E) (k id : ℕ) → k ≢ id → ((names e ≡ Some id) ⊎ (names e ≡ None)) → names e ≡ Some k → ⊥
  not_named e k id other (inl p) q = other (let a : Some k ≡ Some id = sym q ∙ p in cc)
  not_named e k id other (inr p) q = let a : Some k ≡ None = sym q ∙ p in cc

  adds_follows : (id j : ℕ) (log log' seen : List E) → j ≢ id → Adds names id log log' → Follows names j seen log → Follows names j seen log'
  adds_follows id j log log' seen other (inl e) f = subst (Follows names j seen) (sym e) f
  adds_follows id j log log' seen other (inr a) f = subst (Follows names j seen) (sym a.1) (follows_one names j seen log a.0 (not_named a.0 j id other a.2) f)

  adds_silent : (id j : ℕ) (log log' : List E) → j ≢ id → Adds names id log log' → Silent names j log → Silent names j log'
  adds_silent id j log log' other (inl e) f = subst (Silent names j) (sym e) f
  adds_silent id j log log' other (inr a) f = subst (Silent names j) (sym a.1) (silent_one names j log a.0 (not_named a.0 j id other a.2) f)

  pub serves : (slots id : ℕ) (me : Me (Option T) V) (y : T) → me.0.waits ≡ true → me.0.inside ≡ true → me.1 ≡ (0, Some y) ∷ [] → Adds names me.0.number me.0.seen (listed y) → Some (base y) ≡ me.0.base
      → Allows Rule slots id me 1 (λ n. (n + 1) % 2 ^ 64) (served_next listed (step slots 1 1 0 none) me)
  serves slots id me y waits inside has adds based s r wide at small =
      let v : V = me.0 in let w : V = let_out (listed y) v in let mine = r.seats id v at in let log' : List E = listed y in
      let turn = mine.inside inside in
      let count : length (set s.views id w) ≡ length s.views = length-set s.views id w in
      let n_is : get_or s.words 1 0 ≡ r.served % 2 ^ 64 = ap (λ l. get_or l 1 0) r.words in
      let adds' : Adds names id r.log log' = subst (λ (z : ℕ × List E). Adds names z.0 z.1 log') (λ k. (mine.number (mine.ticket waits).2 k, turn.2 k)) adds in
      let homes : put_back s.homes me.1 ≡ set s.homes 0 (some (Some y)) = ap (put_back s.homes) has in
      let below = some_below s.views id v at in
      let lives = (mine.ticket waits).2 in
      let apart_from : (j : ℕ) (u : V) → get_elem? s.views j ≡ some u → (i : ℕ) (p : ℕ × List E) → slice_get u.joined i ≡ Some p → p.0 ≢ id = λ j u e i p h z. let gone = r.gone j u e i p h v (ap (get_elem? s.views) z ∙ at) in omega arith in
      let alone : (j : ℕ) (u : V) → j ≢ id → get_elem? s.views j ≡ some u → u.waits ≡ true → u.ticket ≢ r.served = λ j u other e x z. other (r.apart j id u v e at x waits (z ∙ sym turn.1)) in (
        w,
        gives,
        tt,
        record {
          log = log';
          next = r.next;
          served = r.served + 1;
          words = ap (λ (z : List ℕ × ℕ). set z.0 1 ((z.1 + 1) % 2 ^ 64)) (λ k. (r.words k, n_is k)) ∙ ap (λ z. (r.next % 2 ^ 64) ∷ z ∷ []) (one_more r.served);
          one = ap length homes ∙ (length-set s.homes 0 (some (Some y)) ∙ r.one);
          queue = let a = total_set waiting s.views id v w at in let b = r.queue in let c : waiting v ≡ 1 = ap one_if waits in omega arith;
          shares = let a = total_set parts_of s.views id v w at in let b = r.shares in omega arith;
          few = r.few;
          apart = λ i j a b p q x z t. same_apart s r id v w at (λ o. absurd (not_it false o refl)) i j a b (at_set s.views id i w a p) (at_set s.views id j w b q) x z t;
          home = λ _. (y, ap (λ h. get_elem? h 0) homes ∙ set_here s.homes 0 (some (Some y)) (let o = r.one in omega arith), refl, some_same (base y) (base key.first.value) (based ∙ mine.based (mine.ticket waits).2));
          unnamed = λ k l. adds_silent id k r.log log' (λ e. omega (arith, count)) adds' (r.unnamed k (omega (arith, count)));
          gone = λ j x e i p h u t. still_gone s r id v w at refl refl j x e i p h u t;
          seats = each (Sits log' r.next (r.served + 1) (length (set s.views id w))) s.views id w
              record {
                number = mine.number;
                based = mine.based;
                seen = λ _. follows_itself names id log';
                ticket = λ o. absurd (not_it false o refl);
                inside = λ o. absurd (not_it false o refl);
                maker = λ m. let p = mine.maker m in (p.0 ∙ sym count, p.1 ∙ sym count, p.2);
                joined = λ i p h. let o = mine.joined i p h in (adds_follows id p.0 r.log log' p.1 (apart_from id v at i p h) adds' o.0, omega (arith, count));
              }
              (λ j u other e. let q = r.seats j u e in record {
                number = q.number;
                based = q.based;
                seen = λ o. adds_follows id j r.log log' u.seen other adds' (q.seen o);
                ticket = λ x. let t = q.ticket x in let ne = alone j u other e x in (omega arith, t.1, t.2);
                inside = λ i. let p = q.inside i in absurd (alone j u other e p.0 p.1);
                maker = λ m. let p = q.maker m in (p.0 ∙ sym count, p.1 ∙ sym count, p.2);
                joined = λ i p h. let o = q.joined i p h in (adds_follows id p.0 r.log log' p.1 (apart_from j u e i p h) adds' o.0, omega (arith, count));
              });
        },
        λ x is. (ap rest is, let same : y ≡ x = taken_same y x (sym has ∙ is) in ap (λ (z : T). let_out (listed z) v) same),
      )
