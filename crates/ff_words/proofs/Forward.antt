-- What fails by nothing says what clap's walk found.
use Rattle.std.proofs.Common.{◌≡◌, ◌∙◌, ◌+◌, ◌≤◌, ◌||◌, ℕ, Bool, cond, codes, true, false, zero, suc, refl, sym, ap, ap₂, arith, List, [], ◌∷◌, ◌++◌, length, Option, Some, None, true≢false, length-append}
use Rattle.std.proofs.lemmas.List.{append_assoc, append-nil}
use Rattle.std.specs.Prelude.{option_map, fold}
use Rattle.std.specs.List.{list_any}
use Rattle.std.specs.Str.{bytes_eq}
use Rattle.clap.specs.Lexer.{long_of, short_of}
use Rattle.std.specs.Prelude.{slice_get}
use Rattle.std.proofs.lemmas.Slice.Eq.{bytes_eq-Decides}
use Rattle.clap.specs.Faults.{long_fault}
use Rattle.clap.specs.Walk.{Held, Rule, Text, walked, has_row, arg_by_long}
use Rattle.clap.specs.Kinds.{Kinds, or_else}
use Rattle.clap.specs.Faults.{settle_fault, turn_fault, walk_fault}
use Rattle.ff_words.specs.Form.{Choice, budget, workers, Said, option, word, others, values, said, said_at, said_next, more, by_name, word_of, with_value, name, whole, plain}
use Rattle.ff_words.specs.Form as form
use Rattle.ff_words.proofs.States.{shape, rules, Slot, mode, count, opt, id, said_of, rows, Pend, none, unmet, full, wanted, done, held, walk_at, FitsPend, settles, settle_free, unmet_fails, has_values, nonempty, not_repeated}
use Rattle.ff_words.proofs.Steps.{Long, turn_is, walk_is, turn_by, walk_by, flag_fault, plain_fault, name_turn, name_walk, whole_turn, whole_walk, value_walk, NotUnmet, place_turn_1, place_turn_2, place_turn_3, place_walk_1, place_walk_2}

-- ---- lists of what was said

pub others_append : (a b : List Said) → others (a ++ b) ≡ others a ++ others b
others_append [] b = refl
others_append (option o v ∷ a) b = others_append a b
others_append (word w ∷ a) b = ap (λ (ts : List Text). w ∷ ts) (others_append a b)

pub values_append : (o : Choice) (a b : List Said) → values o (a ++ b) ≡ values o a ++ values o b
values_append o [] b = refl
values_append budget (option budget v ∷ a) b = ap (λ (ts : List Text). v ∷ ts) (values_append budget a b)
values_append budget (option workers v ∷ a) b = values_append budget a b
values_append workers (option budget v ∷ a) b = values_append workers a b
values_append workers (option workers v ∷ a) b = ap (λ (ts : List Text). v ∷ ts) (values_append workers a b)
values_append o (word w ∷ a) b = values_append o a b

pub or_else_none : (a b : Kinds) → or_else a b ≡ [] → (a ≡ []) × (b ≡ [])
or_else_none [] b h = (refl, h)
or_else_none (k ∷ ks) b h = cc

-- at most one value of each option, and two words
pub record Calm (ss : List Said) : Type 0 where
  pub once : (o : Choice) → length (values o ss) ≤ 1
  pub two : length (others ss) ≤ 2

pub record Inv (ss : List Said) (p : Pend) (n : ℕ) : Type 0 where
  pub place : n ≡ suc (length (others (done ss p)))
  pub fits : FitsPend ss p
  pub calm : Calm ss

none_there : (ts : List Text) → nonempty ts ≡ false → length ts ≡ 0
none_there [] h = refl
none_there (t ∷ ts) h = absurd (true≢false h)

pub calm_option : (ss : List Said) (o : Choice) (v : Text) → Calm ss → has_row (id (opt o)) (rows ss) ≡ false → Calm (ss ++ option o v ∷ [])
calm_option ss o v calm h = record {
  once = λ q. go o q (none_there (values o ss) (sym (has_values o 0 ss) ∙ h)) (calm.once q);
  two = let e = ap length (others_append ss (option o v ∷ [])) in let f = ap length (append-nil (others ss)) in let two = calm.two in omega arith;
}
  where
    go : (o q : Choice) → length (values o ss) ≡ 0 → length (values q ss) ≤ 1 → length (values q (ss ++ option o v ∷ [])) ≤ 1
    go budget budget e l = let f = ap length (values_append budget ss (option budget v ∷ [])) in omega (arith, f, length-append (values budget ss) (v ∷ []))
    go workers workers e l = let f = ap length (values_append workers ss (option workers v ∷ [])) in omega (arith, f, length-append (values workers ss) (v ∷ []))
    go budget workers e l = let f = ap length (values_append workers ss (option budget v ∷ []) ∙ append-nil (values workers ss)) in omega (arith, f)
    go workers budget e l = let f = ap length (values_append budget ss (option workers v ∷ []) ∙ append-nil (values budget ss)) in omega (arith, f)

pub length_word : (ss : List Said) (w : Text) → length (others (ss ++ word w ∷ [])) ≡ length (others ss) + 1
length_word ss w = ap length (others_append ss (word w ∷ [])) ∙ length-append (others ss) (w ∷ [])

pub length_option : (ss : List Said) (o : Choice) (v : Text) → length (others (ss ++ option o v ∷ [])) ≡ length (others ss)
length_option ss o v = ap length (others_append ss (option o v ∷ []) ∙ append-nil (others ss))

pub calm_word : (ss : List Said) (w : Text) → Calm ss → length (others ss) ≤ 1 → Calm (ss ++ word w ∷ [])
calm_word ss w calm h = record {
  once = λ q. let f = ap length (values_append q ss (word w ∷ []) ∙ append-nil (values q ss)) in let l = calm.once q in omega (arith, f, l);
  two = let e = length_word ss w in omega arith;
}

-- after a use is settled
pub settled_calm : (ss : List Said) (p : Pend) → FitsPend ss p → Calm ss → settle_fault rules false (held ss p) ≡ [] → Calm (done ss p)
settled_calm ss none f calm h = calm
settled_calm ss (unmet o) f calm h = calm
settled_calm ss (full mode t) f calm h = calm_word ss t calm (omega arith)
settled_calm ss (full count t) f calm h = calm_word ss t calm (omega arith)
settled_calm ss (full (opt o) t) f calm h = calm_option ss o t calm (settle_free ss (opt o) t h)

pub not_unmet : (ss : List Said) (p : Pend) → settle_fault rules false (held ss p) ≡ [] → NotUnmet p
not_unmet ss none h = tt
not_unmet ss (unmet o) h = unmet_fails ss o h
not_unmet ss (full s t) h = tt

-- ---- all that is said, from a place on

abbrev pub pre : List Said → Option (List Said) → Option (List Said)
pre xs = option_map (λ ys. xs ++ ys)

abbrev pub total : List Said → Pend → (Option Choice → Option (List Said)) → Option (List Said)
total ss p rest = pre (done ss p) (rest (wanted p))

pub pre_more : (xs : List Said) (x : Said) (o : Option (List Said)) → pre xs (more x o) ≡ pre (xs ++ x ∷ []) o
pre_more xs x None = refl
pre_more xs x (Some ys) = ap Some (sym (append_assoc xs (x ∷ []) ys))

pub total_idle : (ss : List Said) (p : Pend) (w : Text) (ws : List Text) → NotUnmet p → total ss p (said (w ∷ ws)) ≡ pre (done ss p) (said_at w (word_of w) (said ws))
total_idle ss none w ws q = refl
total_idle ss (unmet o) w ws q = absurd q
total_idle ss (full s t) w ws q = refl

-- ---- the three kinds of words

pub data Kind (L : Long) : Type 0 where
  known : (o : Choice) (v : Option Text) → L ≡ Some (id (opt o), v) → by_name L ≡ with_value o v → Kind L
  bare : L ≡ None → by_name L ≡ plain → Kind L
  unknown : by_name L ≡ plain → ((F : Option Text) (h : Held) → flag_fault L F h ≡ [] → ⊥) → Kind L

abbrev by : Option Text → Bool → Bool → form.Word
by v a b = cond a (with_value budget v) (cond b (with_value workers v) plain)

abbrev rule_by : Bool → Bool → Option Rule
rule_by a b = cond (a || false) (slice_get rules 2) (cond (b || false) (slice_get rules 3) None)

pub kind_of_long : (L : Long) → Kind L
kind_of_long None = bare refl refl
kind_of_long (Some p) = go (bytes_eq (codes "budget") p.0) (bytes_eq (codes "workers") p.0) refl refl
  where
    go : (a b : Bool) → bytes_eq (codes "budget") p.0 ≡ a → bytes_eq (codes "workers") p.0 ≡ b → Kind (Some p)
    go true b ea eb =
        let e : codes "budget" ≡ p.0 = (bytes_eq-Decides (codes "budget") p.0).0 ea in
        known budget p.1 (ap (λ (t : Text). let x : Long = Some (t, p.1) in x) (sym e)) (ap (λ a. by p.1 a (bytes_eq (codes "workers") p.0)) ea)
    go false true ea eb =
        let e : codes "workers" ≡ p.0 = (bytes_eq-Decides (codes "workers") p.0).0 eb in
        known workers p.1 (ap (λ (t : Text). let x : Long = Some (t, p.1) in x) (sym e)) (ap₂ (by p.1) ea eb)
    go false false ea eb = unknown (ap₂ (by p.1) ea eb) (λ F h f.
        let none_found : arg_by_long rules p.0 ≡ None = ap₂ rule_by ea eb in
        let e = ap (λ (r : Option Rule). long_fault rules false r p.1 h) (sym none_found) ∙ f in cc)

-- ---- a word, and the words

pub record Stepped (ss : List Said) (p : Pend) (n : ℕ) (w : Text) : Type 0 where
  pub said_so : List Said
  pub pend : Pend
  pub at : ℕ
  pub walk : walked rules [] (walk_at ss p n) w ≡ walk_at said_so pend at
  pub inv : Inv said_so pend at
  pub same : (ws : List Text) → total ss p (said (w ∷ ws)) ≡ total said_so pend (said ws)

pub at_name : (o : Choice) (ss : List Said) (p : Pend) (n : ℕ) (w : Text) → Inv ss p n → walked rules [] (walk_at ss p n) w ≡ walk_by false (Some (id (opt o), None)) (short_of w) ss p n w
    → word_of w ≡ name o → settle_fault rules false (held ss p) ≡ [] → Stepped ss p n w
at_name o ss p n w inv walk reads h = record {
  said_so = done ss p;
  pend = unmet o;
  at = n;
  walk = walk ∙ name_walk o (short_of w) ss (done ss p) p n w (settles ss p inv.fits h);
  inv = record { place = inv.place; fits = tt; calm = settled_calm ss p inv.fits inv.calm h };
  same = λ ws. total_idle ss p w ws (not_unmet ss p h) ∙ ap (λ x. pre (done ss p) (said_at w x (said ws))) reads;
}

pub at_whole : (o : Choice) (v : Text) (ss : List Said) (p : Pend) (n : ℕ) (w : Text) → Inv ss p n → walked rules [] (walk_at ss p n) w ≡ walk_by false (Some (id (opt o), Some v)) (short_of w) ss p n w
    → word_of w ≡ whole o v → settle_fault rules false (held ss p) ≡ [] → has_row (id (opt o)) (rows (done ss p)) ≡ false → Stepped ss p n w
at_whole o v ss p n w inv walk reads h free = record {
  said_so = done ss p ++ option o v ∷ [];
  pend = none;
  at = n;
  walk = walk ∙ whole_walk o v (short_of w) ss (done ss p) p n w (settles ss p inv.fits h) free;
  inv = record {
    place = inv.place ∙ ap suc (sym (length_option (done ss p) o v));
    fits = tt;
    calm = calm_option (done ss p) o v (settled_calm ss p inv.fits inv.calm h) free;
  };
  same = λ ws. total_idle ss p w ws (not_unmet ss p h) ∙ ap (λ x. pre (done ss p) (said_at w x (said ws))) reads ∙ pre_more (done ss p) (option o v) (said ws None);
}

pub at_value : (o : Choice) (ss : List Said) (n : ℕ) (w : Text) → Inv ss (unmet o) n → walked rules [] (walk_at ss (unmet o) n) w ≡ walk_by false None (short_of w) ss (unmet o) n w
    → plain_fault (short_of w) (held ss (unmet o)) ≡ [] → Stepped ss (unmet o) n w
at_value o ss n w inv walk h = record {
  said_so = ss;
  pend = full (opt o) w;
  at = n;
  walk = walk ∙ value_walk o (short_of w) ss n w h;
  inv = record { place = inv.place ∙ ap suc (sym (length_option ss o w)); fits = tt; calm = inv.calm };
  same = λ ws. pre_more ss (option o w) (said ws None);
}

pub at_place : (ss : List Said) (p : Pend) (n : ℕ) (w : Text) → Inv ss p n → walked rules [] (walk_at ss p n) w ≡ walk_by false None (short_of w) ss p n w
    → word_of w ≡ plain → settle_fault rules false (held ss p) ≡ [] → plain_fault (short_of w) (held ss p) ≡ [] → length (others (done ss p)) ≤ 1 → Stepped ss p n w
at_place ss p n w inv walk reads h f lt = go (length (others (done ss p))) refl
  where
    same : (s : Slot) → said_of s w ≡ word w → (ws : List Text) → total ss p (said (w ∷ ws)) ≡ pre (done ss p ++ said_of s w ∷ []) (said ws None)
    same s e ws = total_idle ss p w ws (not_unmet ss p h) ∙ ap (λ x. pre (done ss p) (said_at w x (said ws))) reads ∙ pre_more (done ss p) (word w) (said ws None)
        ∙ ap (λ x. pre (done ss p ++ x ∷ []) (said ws None)) (sym e)

    go : (k : ℕ) → length (others (done ss p)) ≡ k → Stepped ss p n w
    go zero e = let at_1 : n ≡ 1 = inv.place ∙ ap suc e in record {
      said_so = done ss p;
      pend = full mode w;
      at = 2;
      walk = walk ∙ ap (λ i. walk_by false None (short_of w) ss p i w) at_1
          ∙ place_walk_1 (short_of w) ss (done ss p) p w (not_unmet ss p h) f (settles ss p inv.fits h);
      inv = record { place = let l = length_word (done ss p) w in omega arith; fits = e; calm = settled_calm ss p inv.fits inv.calm h };
      same = same mode refl;
    }
    go (suc zero) e = let at_2 : n ≡ 2 = inv.place ∙ ap suc e in record {
      said_so = done ss p;
      pend = full count w;
      at = 3;
      walk = walk ∙ ap (λ i. walk_by false None (short_of w) ss p i w) at_2
          ∙ place_walk_2 (short_of w) ss (done ss p) p w (not_unmet ss p h) f (settles ss p inv.fits h);
      inv = record { place = let l = length_word (done ss p) w in omega arith; fits = e; calm = settled_calm ss p inv.fits inv.calm h };
      same = same count refl;
    }
    go (suc (suc k)) e = absurd (omega arith)

abbrev pub dashes : Text
dashes = 45 ∷ 45 ∷ []

pub turn_at : (ss : List Said) (p : Pend) (n : ℕ) (w : Text) (L : Long) → bytes_eq w dashes ≡ false → long_of w ≡ L
    → turn_fault shape [] (walk_at ss p n) w ≡ turn_by false L (short_of w) ss p n w
turn_at ss p n w L d e = turn_is ss p n w ∙ ap₂ (λ D M. turn_by D M (short_of w) ss p n w) d e

pub walk_to : (ss : List Said) (p : Pend) (n : ℕ) (w : Text) (L : Long) → bytes_eq w dashes ≡ false → long_of w ≡ L
    → walked rules [] (walk_at ss p n) w ≡ walk_by false L (short_of w) ss p n w
walk_to ss p n w L d e = walk_is ss p n w ∙ ap₂ (λ D M. walk_by D M (short_of w) ss p n w) d e

whole_first : (o : Choice) (v : Text) (F : Option Text) (ss : List Said) (p : Pend) (n : ℕ) (w : Text) → turn_by false (Some (id (opt o), Some v)) F ss p n w ≡ []
    → settle_fault rules false (held ss p) ≡ []
whole_first budget v F ss p n w h = (or_else_none _ _ (or_else_none _ _ h).0).0
whole_first workers v F ss p n w h = (or_else_none _ _ (or_else_none _ _ h).0).0

step_known : (o : Choice) (v : Option Text) (ss : List Said) (p : Pend) (n : ℕ) (w : Text) → Inv ss p n → bytes_eq w dashes ≡ false → long_of w ≡ Some (id (opt o), v)
    → word_of w ≡ with_value o v → turn_by false (Some (id (opt o), v)) (short_of w) ss p n w ≡ [] → Stepped ss p n w
step_known o None ss p n w inv d e reads t =
    at_name o ss p n w inv (walk_to ss p n w _ d e) reads (or_else_none _ _ (sym (name_turn o (short_of w) ss p n w) ∙ t)).0
step_known o (Some v) ss p n w inv d e reads t =
    let h = whole_first o v (short_of w) ss p n w t in
    let u = sym (whole_turn o v (short_of w) ss (done ss p) p n w (settles ss p inv.fits h)) ∙ t in
    at_whole o v ss p n w inv (walk_to ss p n w _ d e) reads h (not_repeated _ (or_else_none _ _ (or_else_none _ _ u).0).1)

step_idle : (ss : List Said) (p : Pend) (n : ℕ) (w : Text) → NotUnmet p → Inv ss p n → bytes_eq w dashes ≡ false → long_of w ≡ None
    → word_of w ≡ plain → turn_by false None (short_of w) ss p n w ≡ [] → Stepped ss p n w
step_idle ss p n w q inv d e reads t = go (length (others (done ss p))) refl
  where
    f : plain_fault (short_of w) (held ss p) ≡ []
    f = (or_else_none _ _ t).0

    go : (k : ℕ) → length (others (done ss p)) ≡ k → Stepped ss p n w
    go zero l = let t1 = ap (λ i. turn_by false None (short_of w) ss p i w) (sym (inv.place ∙ ap suc l)) ∙ t in
        at_place ss p n w inv (walk_to ss p n w _ d e) reads (sym (place_turn_1 (short_of w) ss p w q f) ∙ t1) f (omega arith)
    go (suc zero) l = let t2 = ap (λ i. turn_by false None (short_of w) ss p i w) (sym (inv.place ∙ ap suc l)) ∙ t in
        at_place ss p n w inv (walk_to ss p n w _ d e) reads (sym (place_turn_2 (short_of w) ss p w q f) ∙ t2) f (omega arith)
    go (suc (suc k)) l = absurd (place_turn_3 (short_of w) ss p k w q f (ap (λ i. turn_by false None (short_of w) ss p i w) (sym (inv.place ∙ ap suc l)) ∙ t))

step_bare : (ss : List Said) (p : Pend) (n : ℕ) (w : Text) → Inv ss p n → bytes_eq w dashes ≡ false → long_of w ≡ None
    → word_of w ≡ plain → turn_by false None (short_of w) ss p n w ≡ [] → Stepped ss p n w
step_bare ss none n w inv d e reads t = step_idle ss none n w tt inv d e reads t
step_bare ss (full s u) n w inv d e reads t = step_idle ss (full s u) n w tt inv d e reads t
step_bare ss (unmet o) n w inv d e reads t = at_value o ss n w inv (walk_to ss (unmet o) n w _ d e) (or_else_none _ _ t).0

pub step_of : (ss : List Said) (p : Pend) (n : ℕ) (w : Text) → Inv ss p n → bytes_eq w dashes ≡ false → turn_fault shape [] (walk_at ss p n) w ≡ [] → Stepped ss p n w
step_of ss p n w inv d h = elim (kind_of_long (long_of w)) [
  | known o v e reads ↦ step_known o v ss p n w inv d e reads (sym (turn_at ss p n w _ d e) ∙ h)
  | bare e reads ↦ step_bare ss p n w inv d e reads (sym (turn_at ss p n w _ d e) ∙ h)
  | unknown reads f ↦ absurd (f (short_of w) (held ss p) (or_else_none _ _ (sym (turn_at ss p n w (long_of w) d refl) ∙ h)).0)
]

-- where a walk over the words comes to
pub record Ended (ss : List Said) (p : Pend) (n : ℕ) (ws : List Text) : Type 0 where
  pub said_so : List Said
  pub pend : Pend
  pub at : ℕ
  pub walk : fold (walked rules []) (walk_at ss p n) ws ≡ walk_at said_so pend at
  pub inv : Inv said_so pend at
  pub same : total ss p (said ws) ≡ total said_so pend (said [])

pub past_step : (ss : List Said) (p : Pend) (n : ℕ) (w : Text) (ws : List Text) (s : Stepped ss p n w) → Ended s.said_so s.pend s.at ws → Ended ss p n (w ∷ ws)
past_step ss p n w ws s e = record {
  said_so = e.said_so;
  pend = e.pend;
  at = e.at;
  walk = ap (λ x. fold (walked rules []) x ws) s.walk ∙ e.walk;
  inv = e.inv;
  same = s.same ws ∙ e.same;
}

abbrev pub has_dashes : List Text → Bool
has_dashes = list_any (λ w. bytes_eq w dashes)

neither : (a b : Bool) → (a || b) ≡ false → (a ≡ false) × (b ≡ false)
neither true b h = absurd (true≢false h)
neither false b h = (refl, h)

pub forward : (ws : List Text) (ss : List Said) (p : Pend) (n : ℕ) → Inv ss p n → has_dashes ws ≡ false → walk_fault shape [] (walk_at ss p n) ws ≡ [] → Ended ss p n ws
unfolding walk_fault
forward [] ss p n inv d h = record { said_so = ss; pend = p; at = n; walk = refl; inv = inv; same = refl }
forward (w ∷ ws) ss p n inv d h =
    let ds = neither (bytes_eq w dashes) (has_dashes ws) d in
    let hs = or_else_none _ (walk_fault shape [] (walked rules [] (walk_at ss p n) w) ws) h in
    let s = step_of ss p n w inv ds.0 hs.0 in
    past_step ss p n w ws s (forward ws s.said_so s.pend s.at s.inv ds.1 (ap (λ x. walk_fault shape [] x ws) (sym s.walk) ∙ hs.1))
