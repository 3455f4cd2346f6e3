-- A look keeps the rule.
use Rattle.std.proofs.Common.{◌≡◌, ℕ, zero, suc, ◌+◌, ◌*◌, ◌<◌, ◌≤◌, ◌≢◌, ◌⊎◌, eqb, Bool, true, false, cond, List, [], ◌∷◌, ◌++◌, length, get_or, set, slice_get, sym, refl, ap, ◌∙◌, subst, ⊎_elim, inl, inr, arith, Option, Some, None, length-set, get_or-set_other, get_or-set_same, eq-eqb, ne_eqb, replicate}
use mathlib.Core.Logic.{dite}
use mathlib.Core.Option.{none, some, some-injective, some-ne-none}
use native.Mathlib.Decide.{ℕ_discrete}
use lib.ListN.{get_elem?, length-replicate}
use lib.Seq.{set-get_or}
use prog.Atomic.{either}
use Rattle.atomic_table.specs.Table.{State, Me, step, keeps, stepped, Allows, Splits, opening}
use Rattle.atomic_table.proofs.Lists.{at_set, at_snoc, set_again}
use Rattle.ff_tables.specs.declared.orders.Order.{Order}
use Rattle.ff_tables.specs.declared.terms.Term.{Term}
use Rattle.ff_tables.specs.declared.terms.Constraint.{Constraint}
use Rattle.ff_tables.specs.Orders.{term_at}
use Rattle.ff_tables.specs.Forces.{Forces}
use Rattle.ff_tables.proofs.Agreeing.{forces_more}
use Rattle.ff_propagate.specs.declared.facts.Fact.{Fact}
use Rattle.ff_propagate.specs.declared.facts.Reason.{Reason}
use Rattle.ff_propagate.specs.declared.facts.Reason.TheVariants as by
use Rattle.ff_propagate.specs.Facts.{fact_at}
use Rattle.ff_board.specs.Standing.{set_count, top_level}
use Rattle.ff_propagate.specs.Closure.{InClosure, Gives, IsClosed}
use Rattle.ff_propagate.specs.declared.words.Held.{Held}
use Rattle.ff_board.specs.declared.opening.Opening.{Opening}
use Rattle.ff_board.specs.declared.seats.View.{View}
use Rattle.ff_propagate.specs.Words.{held, held_of}
use Rattle.ff_board.specs.Facts.{vars_in, cons_in, AllIn, Reaches, Lower, SeenAt, SeenBelow, Marked, is_marked, ForcedOk, ReasonOk, FactOk, Grows, AllSeenBy, AllSeen, Sound}
use Rattle.ff_board.specs.Rule.{words_set, Opens, Sees, Stand, Kept, starting, looked, Backed, AgreeAt, IsLearned, Looked, told, Offered}
use Rattle.ff_propagate.proofs.Packs.{held_zero, some_of}

pub words_most : (ws : List ℕ) → words_set ws ≤ length ws
words_most [] = omega arith
words_most (w ∷ ws) = dite (ℕ_discrete w 0) (λ z. rw (eq-eqb w 0 z) (omega (arith, words_most ws))) (λ n. rw (ne_eqb w 0 n) (omega (arith, words_most ws)))

pub held_same : (ws : List ℕ) (v n : ℕ) → v < length ws → held (set ws v n) v ≡ held_of n
held_same ws v n h = ap held_of (get_or-set_same ws v n 0 h)

pub held_else : (ws : List ℕ) (v n u : ℕ) → u ≢ v → held (set ws v n) u ≡ held ws u
held_else ws v n u h = ap held_of (get_or-set_other ws v u n 0 h)

-- a word that is 0 has no fact
pub none_there : (ws : List ℕ) (v : ℕ) (h : Held) → get_or ws v 0 ≡ 0 → held ws v ≡ Some h → ⊥
none_there ws v h z e = let q : None ≡ Some h = sym held_zero ∙ (ap held_of (sym z) ∙ e) in cc

grows_set : (ws : List ℕ) (v x : ℕ) → get_or ws v 0 ≡ 0 → Grows ws (set ws v x)
grows_set ws v x z u h e = dite (ℕ_discrete u v) (λ s. absurd (none_there ws v h z (ap (held ws) (sym s) ∙ e))) (λ n. held_else ws v x u n ∙ e)

reason_grows : (o : Opening) (ws xs : List ℕ) (v : ℕ) (h : Held) → Grows ws xs → (r : Reason) → ReasonOk o ws v h r → ReasonOk o xs v h r
reason_grows o ws xs v h g (by.Given i) ok = ok
reason_grows o ws xs v h g (by.Forced c) ok = record {
  con = ok.con;
  there = ok.there;
  up = ok.up;
  lower = λ j l m. let t = ok.lower j l m in (t.0, g _ _ t.1, t.2);
  forces = forces_more ok.con.kind ok.con.terms (Marked ws ok.con.terms h.marks) (Marked xs ok.con.terms h.marks) v h.fact.value
      (λ j s l m. (m.0, m.1, m.2, m.3, (m.4.0, g _ _ m.4.1, m.4.2))) ok.forces;
}

fact_grows : (o : Opening) (ws xs : List ℕ) (v : ℕ) (h : Held) → Grows ws xs → FactOk o ws v h → FactOk o xs v h
fact_grows o ws xs v h g ok = reason_grows o ws xs v h g h.fact.reason ok

same_held : (ws : List ℕ) (v : ℕ) (g h : Held) → held ws v ≡ Some g → held ws v ≡ Some h → g ≡ h
same_held ws v g h a b = cc

reason_settles : (o : Opening) (ws seen : List ℕ) (v : ℕ) (h : Held) → Grows seen ws → (r : Reason) → AllSeenBy o seen h.marks r → ReasonOk o ws v h r → ReasonOk o seen v h r
reason_settles o ws seen v h g (by.Given i) all ok = ok
reason_settles o ws seen v h g (by.Forced c) all ok = record {
  con = ok.con;
  there = ok.there;
  up = ok.up;
  lower = λ j l m. let t = ok.lower j l m in let q = all ok.con ok.there j l m in
      (q.0, q.1, subst (λ (z : Held). z.fact.level < h.fact.level) (same_held ws (term_at ok.con.terms j).var t.0 q.0 t.1 (g _ _ q.1)) t.2);
  forces = forces_more ok.con.kind ok.con.terms (Marked ws ok.con.terms h.marks) (Marked seen ok.con.terms h.marks) v h.fact.value
      (λ j s l m. let q = all ok.con ok.there m.0 m.1 m.2 in
      let here : held seen (term_at ok.con.terms j).var ≡ Some q.0 = ap (held seen) (sym m.3) ∙ q.1 in
      (m.0, m.1, m.2, m.3, (q.0, here, ap (λ (z : Held). z.fact.value) (same_held ws (term_at ok.con.terms j).var q.0 m.4.0 (g _ _ here) m.4.1) ∙ m.4.2)))
      ok.forces;
}

settles : (o : Opening) (ws seen : List ℕ) (v : ℕ) (h : Held) → Grows seen ws → AllSeen o seen h → FactOk o ws v h → FactOk o seen v h
settles o ws seen v h g all ok = reason_settles o ws seen v h g h.fact.reason all ok

backs : (o : Opening) (ws : List ℕ) (u v : ℕ) (h : Held) (c : ℕ) (con : Constraint) (j : ℕ) → ForcedOk o ws u h c → slice_get (cons_in o) c ≡ Some con → j < length con.terms → is_marked h.marks j ≡ true → (term_at con.terms j).var ≡ v
    → (g : Held) × (held ws v ≡ Some g) × (g.fact.level < h.fact.level)
backs o ws u v h c con j r is l m t =
    let e : r.con ≡ con = let a = r.there in cc in
    let low = subst (λ (z : Constraint). (j : ℕ) → j < length z.terms → is_marked h.marks j ≡ true → Lower ws h.fact.level (term_at z.terms j).var) e r.lower in
    subst (λ (z : ℕ). (g : Held) × (held ws z ≡ Some g) × (g.fact.level < h.fact.level)) t (low j l m)

count_set : (ws : List ℕ) (v x : ℕ) → v < length ws → get_or ws v 0 ≡ 0 → x ≢ 0 → words_set (set ws v x) ≡ words_set ws + 1
count_set [] v x l z n = absurd (omega arith)
count_set (w ∷ ws) zero x l z n = rw (ne_eqb x 0 n, eq-eqb w 0 z) (omega arith)
count_set (w ∷ ws) (suc v) x l z n = omega (arith, count_set ws v x (omega arith) z n)

pub some_word : (x : ℕ) (h : Held) → held_of x ≡ Some h → x ≢ 0
some_word x h e z = let q : None ≡ Some h = sym held_zero ∙ (ap held_of (sym z) ∙ e) in cc

-- a fact that stands on facts of the closure is in it
fact_in : (o : Opening) (ws : List ℕ) (v : ℕ) (h : Held) → AllIn o ws → (r : Reason) → ReasonOk o ws v h r → InClosure (cons_in o) (Gives o.givens) v h.fact.value
fact_in o ws v h all (by.Given i) ok P closed = closed.base_held v h.fact.value (i, ok.1)
fact_in o ws v h all (by.Forced c) ok P closed = closed.forced_held c ok.con v h.fact.value ok.there
    (forces_more ok.con.kind ok.con.terms (Marked ws ok.con.terms h.marks) (λ u t. P u t ≡ true) v h.fact.value
    (λ j s l m. subst (λ (z : Order). P (term_at ok.con.terms j).var z ≡ true) m.4.2 (all (term_at ok.con.terms j).var m.4.0 m.4.1 P closed)) ok.forces)

stand_set : (o : Opening) (ws seen : List ℕ) (v x : ℕ) → Stand o ws → v < vars_in o → get_or ws v 0 ≡ 0 → Grows seen ws → Offered o seen v x → Stand o (set ws v x)
stand_set o ws seen v x r inside z g off =
    let l : v < length ws = omega (arith, r.wide) in
    let up = grows_set ws v x z in
    let c = count_set ws v x l z (some_word x off.0 off.1) in
    record {
      wide = length-set ws v x ∙ r.wide;
      facts = λ u h e. dite (ℕ_discrete u v)
          (λ s. let same : h ≡ off.0 = let a = held_same ws v x l in let b = off.1 in let d : held (set ws v x) v ≡ Some h = ap (held (set ws v x)) (sym s) ∙ e in cc in
          subst (λ (y : ℕ × Held). (y.0 < vars_in o) × FactOk o (set ws v x) y.0 y.1) (λ k. (sym s k, sym same k)) (inside, fact_grows o seen (set ws v x) v off.0 (λ w f p. up w f (g w f p)) off.2))
          (λ n. let old = r.facts u h (sym (held_else ws v x u n) ∙ e) in (old.0, fact_grows o ws (set ws v x) u h up old.1));
      closure = λ u h e. dite (ℕ_discrete u v)
          (λ s. let same : h ≡ off.0 = let a = held_same ws v x l in let b = off.1 in let d : held (set ws v x) v ≡ Some h = ap (held (set ws v x)) (sym s) ∙ e in cc in
          subst (λ (y : ℕ × Held). InClosure (cons_in o) (Gives o.givens) y.0 y.1.fact.value) (λ k. (sym s k, sym same k)) (fact_in o ws v off.0 r.closure off.0.fact.reason (fact_grows o seen ws v off.0 g off.2)))
          (λ n. r.closure u h (sym (held_else ws v x u n) ∙ e));
      opened = λ u f e. let t = r.opened u f e in (t.0, up u _ t.1);
      more = let m = r.more in omega arith;
      low = λ u h e. dite (ℕ_discrete u v)
          (λ s. let same : h ≡ off.0 = let a = held_same ws v x l in let b = off.1 in let d : held (set ws v x) v ≡ Some h = ap (held (set ws v x)) (sym s) ∙ e in cc in
          let m = r.more in let top : off.0.fact.level + set_count o.facts ≤ top_level o.facts + words_set ws + 1 = ⊎_elim (λ a. omega arith) (λ a. let b = r.low a.0 a.1 (g a.0 a.1 a.2) in let d = a.3 in omega arith) off.3 in
          subst (λ (y : Held). y.fact.level + set_count o.facts ≤ top_level o.facts + words_set (set ws v x)) (sym same) (omega arith))
          (λ n. let old = r.low u h (sym (held_else ws v x u n) ∙ e) in omega arith);
    }

-- no more words are set than there are variables, where each set word is one of a variable
words_within : (n : ℕ) (ws : List ℕ) → ((v : ℕ) (h : Held) → held ws v ≡ Some h → v < n) → words_set ws ≤ n
words_within n [] all = omega arith
words_within zero (w ∷ ws) all = dite (ℕ_discrete w 0)
    (λ z. rw (eq-eqb w 0 z) (omega (arith, words_within zero ws (λ v h e. let l = all (suc v) h e in absurd (omega arith)))))
    (λ n. let h = some_of w n in let l = all zero h.0 h.1 in absurd (omega arith))
words_within (suc n) (w ∷ ws) all = let rest = words_within n ws (λ v h e. let l = all (suc v) h e in omega arith) in
    dite (ℕ_discrete w 0) (λ z. rw (eq-eqb w 0 z) (omega arith)) (λ n. rw (ne_eqb w 0 n) (omega arith))

step_keeps : (o : Opening) (s : State ℕ View) (id : ℕ) (me : Me ℕ View) (v n' : ℕ) → Kept o s → v < vars_in o → get_elem? s.views id ≡ some me.0
    → Stand o (set s.words v n') → Grows s.words (set s.words v n')
    → Kept o (stepped s v n' id me.1 (looked me.0 v (get_or s.words v 0) n') keeps) × Looked me.0 v (get_or s.words v 0) n' (looked me.0 v (get_or s.words v 0) n')
step_keeps o s id me v n' r inside at stand up =
    let d : View = me.0 in let n : ℕ = get_or s.words v 0 in let W : List ℕ = set s.words v n' in let seen' : List ℕ = set d.seen v n' in let w : View = looked d v n n' in
    let sees = r.seats id d at in
    let here : held W v ≡ held_of n' = held_same s.words v n' (omega (arith, r.stand.wide)) in
    let there : held seen' v ≡ held_of n' = held_same d.seen v n' (omega (arith, sees.1)) in
    let old : Grows d.seen W = λ u h p. up u h (sees.2 u h p) in
    let new : Grows seen' W = λ u h p. dite (ℕ_discrete u v) (λ e. ap (held W) e ∙ (here ∙ (sym there ∙ (ap (held seen') (sym e) ∙ p)))) (λ ne. old u h (sym (held_else d.seen v n' u ne) ∙ p)) in
    let mine : Sees o W w = (sees.0, length-set d.seen v n' ∙ sees.1, new) in (
      record {
        stand = stand;
        seats = λ j e p. ⊎_elim (λ (t : (j ≡ id) × (w ≡ e)). subst (Sees o W) t.1 mine) (λ (t : (j ≢ id) × (get_elem? s.views j ≡ some e)). let q = r.seats j e t.1 in (q.0, q.1, λ u h i. up u h (q.2 u h i))) (at_set s.views id j w e p);
      },
      record {
        is = refl;
        wide = omega (arith, sees.1);
        kept = λ u h p. dite (ℕ_discrete u v) (λ e. ap (held seen') e ∙ (there ∙ (sym here ∙ (ap (held W) (sym e) ∙ old u h p)))) (λ ne. held_else d.seen v n' u ne ∙ p);
        here = there;
        opened = λ f p. r.stand.opened v f (ap (λ (z : Opening). fact_at z.facts v) (sym sees.0) ∙ p);
        sound = subst (λ (z : Opening). Sound z seen') (sym sees.0) (λ u h p all. settles o W seen' u h new all (stand.facts u h (new u h p)).1);
        backed = λ u h p c f con is j l m t. backs o s.words u v h c con j (subst (ReasonOk o s.words u h) f (r.stand.facts u h (sees.2 u h p)).1) (ap (λ (z : Opening). slice_get (cons_in z) c) (sym sees.0) ∙ is) l m t;
        learned = record {
          inside = λ u h p. subst (λ (z : Opening). u < vars_in z) (sym sees.0) (stand.facts u h (new u h p)).0;
          closure = subst (λ (z : Opening). AllIn z seen') (sym sees.0) (λ u h p. stand.closure u h (new u h p));
          agrees = subst (λ (z : Opening). AgreeAt z seen') (sym sees.0) (λ u h f p q. let t = stand.opened u f q in
              ap (λ (x : Held). x.fact) (same_held W u h _ (new u h p) t.1));
          low = λ u h p. let a = stand.low u h (new u h p) in
              let b = words_within (vars_in o) W (λ x g q. (stand.facts x g q).0) in
              let e = ap (λ (z : Opening). top_level z.facts + vars_in z) sees.0 in omega arith;
        };
      },
    )

pub looks : (o : Opening) (slots id : ℕ) (me : Me ℕ View) (v x : ℕ) → v < vars_in o → (x ≡ 0) ⊎ (((h : Held) → held me.0.seen v ≡ Some h → ⊥) → Offered o me.0.seen v x)
    → Allows (Kept o) slots id me v (λ n. either (eqb n 0) x n) (told (step slots v 0 x none) me)
looks o slots id me v x inside may s r _ at _ =
    let n : ℕ = get_or s.words v 0 in let n' : ℕ = either (eqb n 0) x n in
    let still : n' ≡ n → Stand o (set s.words v n') × Grows s.words (set s.words v n') = λ e.
    let same : set s.words v n' ≡ s.words = ap (set s.words v) e ∙ set-get_or s.words v 0 in
    (subst (Stand o) (sym same) r.stand, subst (Grows s.words) (sym same) (λ u h p. p)) in
    let sees = r.seats id me.0 at in
    let both : Stand o (set s.words v n') × Grows s.words (set s.words v n') =
    dite (ℕ_discrete n 0)
    (λ z. let to : n' ≡ x = ap (λ (b : Bool). either b x n) (eq-eqb n 0 z) in
    ⊎_elim (λ (e : x ≡ 0). still (to ∙ (e ∙ sym z)))
    (λ (off : ((h : Held) → held me.0.seen v ≡ Some h → ⊥) → Offered o me.0.seen v x). subst (λ (y : ℕ). Stand o (set s.words v y) × Grows s.words (set s.words v y)) (sym to) (stand_set o s.words me.0.seen v x r.stand inside z sees.2 (off (λ h e. none_there s.words v h z (sees.2 v h e))), grows_set s.words v x z)) may)
    (λ ne. still (ap (λ (b : Bool). either b x n) (ne_eqb n 0 ne))) in
    let t = step_keeps o s id me v n' r inside at both.0 both.1 in
    (looked me.0 v n n', keeps, tt, t.0, (refl, t.1))

pub loads : (o : Opening) (slots id : ℕ) (me : Me ℕ View) (v : ℕ) → v < vars_in o → Allows (Kept o) slots id me v (λ n. n) (told (step slots v 0 0 none) me)
loads o slots id me v inside s r a at b =
    let n : ℕ = get_or s.words v 0 in
    let same : either (eqb n 0) 0 n ≡ n = dite (ℕ_discrete n 0) (λ z. ap (λ (c : Bool). either c 0 n) (eq-eqb n 0 z) ∙ sym z) (λ ne. ap (λ (c : Bool). either c 0 n) (ne_eqb n 0 ne)) in
    let as_it_was : set s.words v n ≡ s.words = set-get_or s.words v 0 in
    let t = step_keeps o s id me v n r inside at (subst (Stand o) (sym as_it_was) r.stand) (subst (Grows s.words) (sym as_it_was) (λ u h p. p)) in
    let w : View = looked me.0 v n n in
    (w, keeps, tt, t.0, (refl, subst (λ (z : ℕ). Looked me.0 v n z w) (sym same) t.1))

pub zeros : (n v : ℕ) → ◌≡◌ {A = ℕ} (get_or (replicate n 0) v 0) 0
zeros zero v = refl
zeros (suc n) zero = refl
zeros (suc n) (suc v) = zeros n v

starts_at : (o : Opening) (ws : List ℕ) (j : ℕ) (d : View) → get_elem? (starting o ∷ []) j ≡ some d → Sees o ws d
starts_at o ws zero d p = subst (Sees o ws) (some-injective (starting o) d p) (refl, length-replicate (vars_in o + 1) 0, λ v h e. absurd (none_there (replicate {A = ℕ} (vars_in o + 1) 0) v h (zeros (vars_in o + 1) v) e))
starts_at o ws (suc j) d p = absurd (some-ne-none d (sym p))

-- a seat without a look has learned nothing
pub starts_learned : (o : Opening) → IsLearned (starting o)
starts_learned o =
    let no : (v : ℕ) (h : Held) → held (replicate {A = ℕ} (vars_in o + 1) 0) v ≡ Some h → ⊥ =
    λ v h e. none_there (replicate {A = ℕ} (vars_in o + 1) 0) v h (zeros (vars_in o + 1) v) e in
    record {
      inside = λ v h e. absurd (no v h e);
      closure = λ v h e. absurd (no v h e);
      agrees = λ v h f e. absurd (no v h e);
      low = λ v h e. absurd (no v h e);
    }

pub learned_at : (d : View) (o : Opening) → d ≡ starting o → IsLearned d
learned_at d o e = subst IsLearned (sym e) (starts_learned o)

pub starts : (o : Opening) (ws : List ℕ) → Stand o ws → Kept o (opening ws [] (starting o))
starts o ws stand = record {
  stand = stand;
  seats = λ j d p. starts_at o ws j d p;
}

pub splits : (o : Opening) (id : ℕ) (d : View) → Splits (Kept o) id d d d
splits o id d s r at = record {
  stand = r.stand;
  seats = λ j e p. ⊎_elim (λ was. r.seats j e (subst (λ (l : List View). get_elem? l j ≡ some e) (set_again s.views id d at) was)) (λ (same : d ≡ e). subst (Sees o s.words) same (r.seats id d at)) (at_snoc (set s.views id d) d e j p);
}

pub as_found : (n : ℕ) → either (eqb n 0) 0 n ≡ n
as_found n = dite (ℕ_discrete n 0) (λ z. ap (λ (c : Bool). either c 0 n) (eq-eqb n 0 z) ∙ sym z) (λ ne. ap (λ (c : Bool). either c 0 n) (ne_eqb n 0 ne))

pub found : (d d' : View) (v n : ℕ) → Looked d v n (either (eqb n 0) 0 n) d' → Looked d v n n d'
found d d' v n h = subst (λ (z : ℕ). Looked d v n z d') (as_found n) h

pub true_false : (b : Bool) → b ≡ true → b ≡ false → ⊥
true_false b p q = let e : true ≡ false = sym p ∙ q in cc

pub offers : (o : Opening) (con : Constraint) (old new : List ℕ) (v x c : ℕ) (h : Held) → h.fact.reason ≡ by.Forced c → slice_get (cons_in o) c ≡ Some con → 0 < h.fact.level → held_of x ≡ Some h
    → Grows old new → ((j : ℕ) → j < length con.terms → is_marked h.marks j ≡ true → Lower new h.fact.level (term_at con.terms j).var)
    → ((j : ℕ) (g : Held) → j < length con.terms → (term_at con.terms j).var ≢ v → held old (term_at con.terms j).var ≡ Some g → g.fact.level < h.fact.level → is_marked h.marks j ≡ true)
    → Forces con.kind con.terms (SeenBelow old h.fact.level) v h.fact.value → Reaches old h.fact.level → ((g : Held) → held new v ≡ Some g → ⊥) → Offered o new v x
offers o con old new v x c h reason is up made grow marked all forces reach unseen = (
  h,
  made,
  subst (ReasonOk o new v h) (sym reason) (record {
    con = con;
    there = is;
    up = up;
    lower = marked;
    forces = forces_more con.kind con.terms (SeenBelow old h.fact.level) (Marked new con.terms h.marks) v h.fact.value
        (λ j s l below. (
          j,
          l,
          all j below.0 l (λ t. unseen below.0 (grow v below.0 (ap (held old) (sym t) ∙ below.1))) below.1 below.2,
          refl,
          (below.0, grow _ _ below.1, below.3),
        )) forces;
  }),
  ⊎_elim inl (λ t. inr (t.0, t.1, grow _ _ t.2, t.3)) reach,
)

pub answered : (n x : ℕ) (h : Held) → held_of n ≡ Some h → held_of (either (eqb n 0) x n) ≡ Some h
answered n x h e = ap held_of (ap (λ (c : Bool). either c x n) (ne_eqb n 0 (some_word n h e))) ∙ e

pub more_set : (ws : List ℕ) (v x : ℕ) → v < length ws → get_or ws v 0 ≡ 0 → x ≢ 0 → words_set (set ws v x) ≡ words_set ws + 1
more_set ws v x l z n = count_set ws v x l z n

-- a fact stands inside the list
pub below_length : (ws : List ℕ) (v : ℕ) (h : Held) → held ws v ≡ Some h → v < length ws
below_length [] v h e = absurd (none_there [] v h refl e)
below_length (w ∷ ws) zero h e = omega arith
below_length (w ∷ ws) (suc v) h e = omega (arith, below_length ws v h e)

-- a fact stands inside its list
pub fact_inside : (fs : List (Option Fact)) (v : ℕ) (f : Fact) → fact_at fs v ≡ Some f → v < length fs
fact_inside [] v f e = absurd (let q : None ≡ Some f = e in cc)
fact_inside (x ∷ fs) zero f e = omega arith
fact_inside (x ∷ fs) (suc v) f e = omega (arith, fact_inside fs v f e)

-- the marked terms of a fact are seen, where they are for each constraint that its reason names
pub backed_all : (o : Opening) (ws : List ℕ) (h : Held) (r : Reason) → h.fact.reason ≡ r
    → ((d : ℕ) → h.fact.reason ≡ by.Forced d → (con : Constraint) → slice_get (cons_in o) d ≡ Some con → (j : ℕ) → j < length con.terms → is_marked h.marks j ≡ true → (g : Held) × (held ws (term_at con.terms j).var ≡ Some g))
    → AllSeenBy o ws h.marks r
backed_all o ws h (by.Given i) e all = tt
backed_all o ws h (by.Forced d) e all = all d e
