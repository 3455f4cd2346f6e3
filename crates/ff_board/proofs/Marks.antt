-- Marks, one bit more at a time.
use Rattle.std.proofs.Common.{◌≡◌, ℕ, zero, suc, ◌+◌, ◌-◌, ◌*◌, ◌/◌, ◌%◌, ◌^◌, ◌<◌, ◌≤◌, ◌≢◌, eqb, Bool, true, false, List, length, slice_get, sym, refl, ap, ◌∙◌, subst, arith, Option, Some}
use Rattle.std.proofs.lemmas.Bool.{eqb-true}
use Rattle.std.proofs.Common.{eq-eqb}
use Rattle.std.proofs.Math.Nat.{pow-suc}
use Rattle.std.proofs.Math.Pow.{pow_mono}
use mir.Val.{bool_byte}
use Rattle.ff_tables.specs.declared.terms.Constraint.{Constraint}
use Rattle.ff_tables.specs.Orders.{term_at}
use Rattle.ff_propagate.specs.declared.facts.Reason.TheVariants as by
use Rattle.ff_propagate.specs.declared.words.Held.{Held}
use Rattle.ff_propagate.specs.Words.{held}
use Rattle.ff_board.specs.declared.opening.Opening.{Opening}
use Rattle.ff_board.specs.Facts.{cons_in, is_marked, Grows, Lower, AreMarksFound, MarksFound}

pub few : (m b n i : ℕ) → b ≤ 1 → 0 < i → i ≤ n → m < 2 ^ (n - i) → 2 * m + b < 2 ^ (n - (i - 1))
few m b n i small some inside h =
    let e : n - (i - 1) ≡ suc (n - i) = omega arith in
    let p : 2 ^ (n - (i - 1)) ≡ 2 ^ (n - i) * 2 = ap (λ (k : ℕ). 2 ^ k) e ∙ pow-suc 2 (n - i) in omega (arith, p)

pub few_all : (m n : ℕ) → n ≤ 6 → m < 2 ^ (n - 0) → m < 64
few_all m n l h = let a : 2 ^ (n - 0) ≤ 2 ^ 6 = pow_mono {i = n - 0} {j = 6} (omega arith) in let b : 2 ^ 6 ≡ 64 = refl in omega arith

byte_one : (b : Bool) → bool_byte b ≡ 1 → b ≡ true
byte_one true e = refl
byte_one false e = absurd (omega arith)

low_bit : (m b : ℕ) → b ≤ 1 → (2 * m + b) % 2 ≡ b
low_bit m b h = omega arith

high_bits : (m b : ℕ) → b ≤ 1 → (2 * m + b) / 2 ≡ m
high_bits m b h = omega arith

byte_small : (b : Bool) → bool_byte b ≤ 1
byte_small true = omega arith
byte_small false = omega arith

pub byte_of : (b : Bool) (n : ℕ) → n ≡ bool_byte b → n ≤ 1
byte_of b n e = let s = byte_small b in omega arith

pub marked : (P : ℕ → Type 0) (Q : ℕ → Type 0) (n i m b : ℕ) (did : Bool) → 0 < i → b ≡ bool_byte did
    → ((k : ℕ) → k + i < n → is_marked m k ≡ true → P (k + i)) → ((u : ℕ) → P u → Q u) → (did ≡ true → Q (i - 1))
    → (k : ℕ) → k + (i - 1) < n → is_marked (2 * m + b) k ≡ true → Q (k + (i - 1))
marked P Q n i m b did some is old up new zero l e =
    let small = byte_of did b is in
    let one : b ≡ 1 = sym (low_bit m b small) ∙ eqb-true ((2 * m + b) % 2) 1 e in
    let at : i - 1 ≡ 0 + (i - 1) = omega arith in
    subst Q at (new (byte_one did (sym is ∙ one)))
marked P Q n i m b did some is old up new (suc k) l e =
    let small = byte_of did b is in
    let at : k + i ≡ suc k + (i - 1) = omega arith in
    subst Q at (up (k + i) (old k (omega arith) (ap (λ (x : ℕ). is_marked x k) (sym (high_bits m b small)) ∙ e)))

pub all : (P : ℕ → Type 0) (n i m b : ℕ) (did : Bool) → 0 < i → b ≡ bool_byte did
    → ((k : ℕ) → k + i < n → P (k + i) → is_marked m k ≡ true) → (P (i - 1) → did ≡ true)
    → (k : ℕ) → k + (i - 1) < n → P (k + (i - 1)) → is_marked (2 * m + b) k ≡ true
all P n i m b did some is old new zero l p =
    let small = byte_of did b is in
    let at : 0 + (i - 1) ≡ i - 1 = omega arith in
    let one : b ≡ 1 = is ∙ ap bool_byte (new (subst P at p)) in
    eq-eqb ((2 * m + b) % 2) 1 (low_bit m b small ∙ one)
all P n i m b did some is old new (suc k) l p =
    let small = byte_of did b is in
    let at : suc k + (i - 1) ≡ k + i = omega arith in
    ap (λ (x : ℕ). is_marked x k) (high_bits m b small) ∙ old k (omega arith) (subst P at p)

-- the marks that were found, of the constraint with this number
pub found_by : (o : Opening) (con : Constraint) (c : ℕ) (old mid new : List ℕ) (v k marks : ℕ) → slice_get (cons_in o) c ≡ Some con
    → Grows mid new
    → ((j : ℕ) → j < length con.terms → is_marked marks j ≡ true → Lower mid k (term_at con.terms j).var)
    → ((j : ℕ) (g : Held) → j < length con.terms → (term_at con.terms j).var ≢ v → held old (term_at con.terms j).var ≡ Some g
    → g.fact.level < k → is_marked marks j ≡ true)
    → MarksFound o old new v k marks (by.Forced c)
found_by o con c old mid new v k marks is grow marked all other there =
    subst (λ (x : Constraint). AreMarksFound x.terms old new v k marks) (one con other (sym is ∙ there)) (record {
      marked = λ j l m. let t = marked j l m in (t.0, grow _ _ t.1, t.2);
      all = all;
    })
  where
    one : (a b : Constraint) → Some a ≡ Some b → a ≡ b
    one a b e = cc
