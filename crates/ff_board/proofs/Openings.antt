-- A board is opened by the rule.
use Rattle.std.proofs.Common.{◌≡◌, ◌≢◌, ◌↔◌, ℕ, zero, suc, max, ◌+◌, ◌<◌, ◌≤◌, ◌==◌, if◌then◌else◌, Bool, true, false, List, [], ◌∷◌, length, get_or, slice_get, sym, refl, ap, ◌∙◌, subst, arith, Option, Some, None, eq-eqb, ne_eqb}
use mathlib.Core.Logic.{dite}
use native.Mathlib.Decide.{ℕ_discrete, dec_lt}
use Rattle.std.specs.Arc.{arc_value}
use Rattle.ff_tables.specs.declared.orders.Order.{Order}
use Rattle.ff_tables.specs.declared.orders.Order.TheVariants.{Below, Above}
use Rattle.ff_tables.specs.declared.terms.Constraint.{Constraint}
use Rattle.ff_tables.specs.declared.givens.Given.{Given}
use Rattle.ff_tables.specs.Orders.{term_at}
use Rattle.ff_tables.proofs.Agreeing.{forces_more}
use Rattle.ff_propagate.specs.declared.facts.Fact.{Fact}
use Rattle.ff_propagate.specs.declared.facts.Reason.{Reason}
use Rattle.ff_propagate.specs.declared.facts.Reason.TheVariants as by
use Rattle.ff_propagate.specs.Facts.{fact_at, value_at, seen, IsKnownBelow}
use Rattle.ff_propagate.specs.FactRule.{MeetsFactRule, StandsBy}
use Rattle.ff_propagate.specs.Closing.{Contradict}
use Rattle.ff_board.specs.Standing.{set_count, top_level, is_by_given, GivensStand}
use Rattle.ff_propagate.proofs.Ruling.{inside_below}
use Rattle.ff_propagate.specs.declared.words.Held.{Held}
use Rattle.ff_board.specs.declared.opening.Opening.{Opening}
use Rattle.std.proofs.lemmas.Option.{slice_get_within}
use Rattle.ff_propagate.specs.Words.{held, held_of, number_of}
use Rattle.ff_board.specs.Facts.{vars_in, cons_in, Marked, ReasonOk, FactOk}
use Rattle.ff_board.specs.Rule.{words_set, Opens, Stand}
use Rattle.ff_board.specs.Opened.{IsLowFact, MarksAre, MarksBy, HeldOf, WordOf, WordsOf}
use Rattle.ff_board.proofs.Steps.{none_there, some_word, fact_inside}

none_some : {X : Type 0} (x : Option X) (y : X) → x ≡ None → x ≡ Some y → ⊥
none_some x y p q = let e : None ≡ Some y = sym p ∙ q in cc

word_some : (cons : List Constraint) (fs : List (Option Fact)) (v w : ℕ) (f : Fact) → fact_at fs v ≡ Some f → WordOf cons fs v w → (m : ℕ) × (held_of w ≡ Some (record { fact = f; marks = m })) × MarksBy cons fs f.level m f.reason
word_some cons fs v w f at word = subst (λ (x : Option Fact). HeldOf cons fs x (held_of w)) at word

word_fact : (cons : List Constraint) (fs : List (Option Fact)) (v w : ℕ) (h : Held) (x : Option Fact) → fact_at fs v ≡ x → WordOf cons fs v w → held_of w ≡ Some h → (fact_at fs v ≡ Some h.fact) × MarksBy cons fs h.fact.level h.marks h.fact.reason
word_fact cons fs v w h None at word e = absurd (none_some (held_of w) h (subst (λ (x : Option Fact). HeldOf cons fs x (held_of w)) at word) e)
word_fact cons fs v w h (Some f) at word e = let t = word_some cons fs v w f at word in
    let same : record { fact = f; marks = t.0 } ≡ h = one _ _ (sym t.1 ∙ e) in
    subst (λ (x : Held). (fact_at fs v ≡ Some x.fact) × MarksBy cons fs x.fact.level x.marks x.fact.reason) same (at, t.2)
  where
    one : (a b : Held) → Some a ≡ Some b → a ≡ b
    one a b q = cc

pub top_most : (fs : List (Option Fact)) (v : ℕ) (f : Fact) → fact_at fs v ≡ Some f → f.level ≤ top_level fs
top_most [] v f e = absurd (none_some None f refl e)
top_most (None ∷ fs) zero f e = absurd (none_some None f refl e)
top_most (None ∷ fs) (suc v) f e = top_most fs v f e
top_most (Some h ∷ fs) zero f e = let same : h.level ≡ f.level = ap (λ (x : Fact). x.level) (one h f e) in omega (arith, same)
  where
    one : (a b : Fact) → Some a ≡ Some b → a ≡ b
    one a b q = cc
top_most (Some h ∷ fs) (suc v) f e = omega (arith, top_most fs v f e)

-- as many words are set as there are facts, and more
count_words : (fs : List (Option Fact)) (ws : List ℕ) → ((v : ℕ) (f : Fact) → fact_at fs v ≡ Some f → get_or ws v 0 ≢ 0) → set_count fs ≤ words_set ws
count_words [] ws all = omega arith
count_words (None ∷ fs) [] all = count_words fs [] (λ v f e. all (suc v) f e)
count_words (None ∷ fs) (w ∷ ws) all = omega (arith, count_words fs ws (λ v f e. all (suc v) f e))
count_words (Some h ∷ fs) [] all = absurd (all zero h refl refl)
count_words (Some h ∷ fs) (w ∷ ws) all = rw (ne_eqb w 0 (all zero h refl)) (omega (arith, count_words fs ws (λ v f e. all (suc v) f e)))

module _ (o : Opening) (ws : List ℕ) (wide : length ws ≡ vars_in o + 1) (rule : MeetsFactRule (vars_in o) (cons_in o) o.givens o.facts) (words : WordsOf (cons_in o) o.facts (vars_in o) ws) where
  inside_of : (v : ℕ) (h : Held) → held ws v ≡ Some h → v < vars_in o
  inside_of v h e = elim (dec_lt v (vars_in o)) [ yes l ↦ l | no n ↦ absurd (none_there ws v h (words.rest v (omega arith)) e) ]

  pub opens : Opens o ws
  opens v f at = let l : v < vars_in o = subst (λ (n : ℕ). v < n) rule.wide (fact_inside o.facts v f at) in
      let t = word_some (cons_in o) o.facts v (get_or ws v 0) f at (words.each v l) in (t.0, t.1)

  fact_ok : (v : ℕ) (h : Held) (r : Reason) → StandsBy (cons_in o) o.givens o.facts v h.fact.value h.fact.level r → MarksBy (cons_in o) o.facts h.fact.level h.marks r → ReasonOk o ws v h r
  fact_ok v h (by.Given i) s marks = s
  fact_ok v h (by.Forced c) s marks = let f = s.1 in let m = marks f.constraint f.there in record {
    con = f.constraint;
    there = f.there;
    up = s.0;
    lower = λ j l q. let low = (m j l).0 q in let t = opens _ low.0 low.1 in (_, t.1, low.2);
    forces = forces_more f.constraint.kind f.constraint.terms (IsKnownBelow o.facts h.fact.level) (Marked ws f.constraint.terms h.marks) v h.fact.value
        (λ j t l q. let w = opens _ q.fact q.there in (j, l, (m j l).1 (q.fact, q.there, q.lower), refl, (_, w.1, q.value))) f.forces;
  }

  known : (v : ℕ) (h : Held) → held ws v ≡ Some h → (fact_at o.facts v ≡ Some h.fact) × MarksBy (cons_in o) o.facts h.fact.level h.marks h.fact.reason
  known v h e = word_fact (cons_in o) o.facts v (get_or ws v 0) h (fact_at o.facts v) refl (words.each v (inside_of v h e)) e

  pub stand : Stand o ws
  stand = record {
    wide = wide;
    facts = λ v h e. let k = known v h e in (inside_of v h e, fact_ok v h h.fact.reason (rule.stands v h.fact k.0) k.1);
    closure = λ v h e. inside_below (vars_in o) (cons_in o) o.givens o.facts rule (h.fact.level + 1) v h.fact (omega arith) (known v h e).0;
    opened = opens;
    more = count_words o.facts ws (λ v f at. let t = opens v f at in some_word (get_or ws v 0) _ t.1);
    low = λ v h e. let a = top_most o.facts v h.fact (known v h e).0 in let b = count_words o.facts ws (λ v f at. let t = opens v f at in some_word (get_or ws v 0) _ t.1) in omega (arith, a, b);
  }

order_same : (a b : Order) → (a ≢ b → ⊥) → a ≡ b
order_same Below Below n = refl
order_same Below Above n = absurd (n (λ e. let q : Below ≡ Above = e in cc))
order_same Above Below n = absurd (n (λ e. let q : Above ≡ Below = e in cc))
order_same Above Above n = refl

pub givens_stand : (vars : ℕ) (cons : List Constraint) (gs : List Given) (fs : List (Option Fact)) → MeetsFactRule vars cons gs fs
    → ((i j : ℕ) (g h : Given) → slice_get gs i ≡ Some g → slice_get gs j ≡ Some h → Contradict g h → ⊥) → GivensStand gs fs
givens_stand vars cons gs fs rule agree i g at =
    let t = rule.given i g at in
    let s = subst (StandsBy cons gs fs g.var t.fact.value t.fact.level) t.by_given (rule.stands g.var t.fact t.there) in (
      ap seen t.there ∙ ap Some (order_same t.fact.value g.value (λ apart. agree t.number i s.1.given g s.1.there at (s.1.variable, λ e. apart (sym s.1.value ∙ e)))),
      ap is_by_given t.there ∙ by_given t.fact t.number t.by_given,
    )
  where
    by_given : (f : Fact) (n : ℕ) → f.reason ≡ by.Given n → is_by_given (Some f) ≡ true
    by_given f n e = ap (λ (r : Reason). is_by_given (Some (record { value = f.value; level = f.level; reason = r }))) e

pub room : (vars : ℕ) (cons : List Constraint) (gs : List Given) (fs : List (Option Fact)) → MeetsFactRule vars cons gs fs → length cons ≤ 4194304 → length gs < 4194304 → top_level fs < 1073741824
    → (v : ℕ) (f : Fact) → fact_at fs v ≡ Some f → (number_of f.reason < 4194304) × (f.level < 1073741824)
room vars cons gs fs rule few some low v f at = (by_reason f.reason (rule.stands v f at), let a = top_most fs v f at in omega (arith, a, low))
  where
    by_reason : (r : Reason) → StandsBy cons gs fs v f.value f.level r → number_of r < 4194304
    by_reason (by.Given i) s = let l = slice_get_within gs i s.1.given s.1.there in omega (arith, l, some)
    by_reason (by.Forced c) s = let l = slice_get_within cons c s.1.constraint s.1.there in omega (arith, l, few)
