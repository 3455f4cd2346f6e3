-- One word of a round.
use Rattle.std.proofs.Common.{zero, suc, [], ◌∷◌, if◌then◌else◌, ◌==◌, eq-eqb, ne_eqb, ◌≡◌, ℕ, ◌+◌, ◌<◌, ◌≤◌, ◌≢◌, ◌⊎◌, Bool, true, false, List, length, get_or, set, sym, refl, ap, ◌∙◌, subst, ⊎_elim, inl, inr, arith, Option, Some, None}
use mathlib.Core.Logic.{dite}
use native.Mathlib.Decide.{ℕ_discrete}
use Rattle.ff_propagate.specs.declared.words.Held.{Held}
use Rattle.ff_propagate.specs.Words.{held, held_of}
use Rattle.ff_board.specs.Facts.{Grows}
use Rattle.ff_board.specs.Rule.{words_set}
use Rattle.ff_propagate.proofs.Packs.{some_of}
use Rattle.ff_board.proofs.Steps.{held_same, held_else, more_set, some_word}

-- whether the word n was noted at v
abbrev pub Noted : List ℕ → List ℕ → Bool → Bool → ℕ → ℕ → Type 0
Noted ws ws' fresh fresh' v n =
    ((fresh' ≡ true) × (get_or ws v 0 ≡ 0) × (n ≢ 0) × (ws' ≡ set ws v n)) ⊎ ((fresh' ≡ fresh) × (ws' ≡ ws) × ((get_or ws v 0 ≢ 0) ⊎ (n ≡ 0)))

pub record Notes (first ws' seen' : List ℕ) (fresh' : Bool) (v : ℕ) : Type 0 where
  pub covers : Grows ws' seen'
  pub noted : (u : ℕ) → u < v + 1 → held ws' u ≡ held seen' u
  pub quiet : (fresh' ≡ true) ⊎ (ws' ≡ first)
  pub more : words_set first ≤ words_set ws'
  pub less : fresh' ≡ true → words_set first < words_set ws'

pub notes : (first ws ws' seen seen' : List ℕ) (fresh fresh' : Bool) (v n : ℕ) → v < length ws → v < length seen → seen' ≡ set seen v n → Grows seen seen' → Grows ws seen
    → ((u : ℕ) → u < v → held ws u ≡ held seen u) → (fresh ≡ true) ⊎ (ws ≡ first) → words_set first ≤ words_set ws → (fresh ≡ true → words_set first < words_set ws)
    → Noted ws ws' fresh fresh' v n → Notes first ws' seen' fresh' v
notes first ws ws' seen seen' fresh fresh' v n l l' is grow covers noted quiet more less (inl t) =
    let here : held seen' v ≡ held_of n = ap (λ z. held z v) is ∙ held_same seen v n l' in
    let else_is : (u : ℕ) → u ≢ v → held seen' u ≡ held seen u = λ u d. ap (λ z. held z u) is ∙ held_else seen v n u d in
    let up = more_set ws v n l t.1 t.2 in
    let W : List ℕ = set ws v n in
    let all : Notes first W seen' true v = record {
      covers = λ u h p. dite (ℕ_discrete u v) (λ e. ap (held seen') e ∙ (here ∙ (sym (held_same ws v n l) ∙ (ap (held W) (sym e) ∙ p)))) (λ d. grow u h (covers u h (sym (held_else ws v n u d) ∙ p)));
      noted = λ u b. dite (ℕ_discrete u v) (λ e. ap (held W) e ∙ (held_same ws v n l ∙ (sym here ∙ ap (held seen') (sym e)))) (λ d. held_else ws v n u d ∙ (noted u (omega arith) ∙ sym (else_is u d)));
      quiet = inl refl;
      more = omega arith;
      less = λ _. omega arith;
    } in
    subst (λ (z : List ℕ × Bool). Notes first z.0 seen' z.1 v) (λ k. (sym t.3 k, sym t.0 k)) all
notes first ws ws' seen seen' fresh fresh' v n l l' is grow covers noted quiet more less (inr t) =
    let here : held seen' v ≡ held_of n = ap (λ z. held z v) is ∙ held_same seen v n l' in
    let else_is : (u : ℕ) → u ≢ v → held seen' u ≡ held seen u = λ u d. ap (λ z. held z u) is ∙ held_else seen v n u d in
    let at : held ws v ≡ held seen' v = dite (ℕ_discrete (get_or ws v 0) 0)
    (λ z. let zero_found : n ≡ 0 = ⊎_elim (λ d. absurd (d z)) (λ e. e) t.2 in ap held_of (z ∙ sym zero_found) ∙ sym here)
    (λ d. let h = some_of (get_or ws v 0) d in h.1 ∙ sym (grow v h.0 (covers v h.0 h.1))) in
    let all : Notes first ws seen' fresh v = record {
      covers = λ u h p. grow u h (covers u h p);
      noted = λ u b. dite (ℕ_discrete u v) (λ e. ap (held ws) e ∙ (at ∙ ap (held seen') (sym e))) (λ d. noted u (omega arith) ∙ sym (else_is u d));
      quiet = quiet;
      more = more;
      less = less;
    } in
    subst (λ (z : List ℕ × Bool). Notes first z.0 seen' z.1 v) (λ k. (sym t.1 k, sym t.0 k)) all

grows_tail : (w x : ℕ) (ws xs : List ℕ) → Grows (w ∷ ws) (x ∷ xs) → Grows ws xs
grows_tail w x ws xs g v h e = g (suc v) h e

abbrev one_of : ℕ → ℕ
one_of w = if w == 0 then 0 else 1

head_count : (w x : ℕ) (ws xs : List ℕ) → Grows (w ∷ ws) (x ∷ xs) → one_of w ≤ one_of x
head_count w x ws xs g = dite (ℕ_discrete w 0) (λ z. rw (eq-eqb w 0 z) (omega arith)) (λ n. let h = some_of w n in let e = g zero h.0 h.1 in rw (ne_eqb w 0 n, ne_eqb x 0 (some_word x h.0 e)) (omega arith))

pub grows_count : (ws xs : List ℕ) → length ws ≡ length xs → Grows ws xs → words_set ws ≤ words_set xs
grows_count [] xs l g = omega arith
grows_count (w ∷ ws) [] l g = absurd (omega arith)
grows_count (w ∷ ws) (x ∷ xs) l g = omega (arith, head_count w x ws xs g, grows_count ws xs (omega arith) (grows_tail w x ws xs g))

-- as many words are set as were, and those that were: so the same facts stand
pub same_facts : (ws xs : List ℕ) → length ws ≡ length xs → Grows ws xs → words_set ws ≡ words_set xs → Grows xs ws
same_facts [] [] l g c v h e = e
same_facts [] (x ∷ xs) l g c v h e = absurd (omega arith)
same_facts (w ∷ ws) [] l g c v h e = absurd (omega arith)
same_facts (w ∷ ws) (x ∷ xs) l g c zero h e =
    let more = grows_count ws xs (omega arith) (grows_tail w x ws xs g) in
    dite (ℕ_discrete w 0)
    (λ z. let a : one_of w ≡ 0 = rw (eq-eqb w 0 z) refl in let b : one_of x ≡ 1 = rw (ne_eqb x 0 (some_word x h e)) refl in absurd (omega arith))
    (λ n. let k = some_of w n in let e' = g zero k.0 k.1 in k.1 ∙ (sym e' ∙ e))
same_facts (w ∷ ws) (x ∷ xs) l g c (suc v) h e =
    let more = grows_count ws xs (omega arith) (grows_tail w x ws xs g) in let head = head_count w x ws xs g in
    same_facts ws xs (omega arith) (grows_tail w x ws xs g) (omega arith) v h e
