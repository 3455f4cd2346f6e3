-- What the marks of two edges say of each other, and what is so of a choice that gives something.
use Rattle.std.proofs.Common.{◌≡◌, ℕ, ◌⊎◌, inl, inr, refl, sym, ◌∙◌, ap, subst, Bool, true, false, ◌&&◌, IsTrue, if◌then◌else◌, Option, Some, None, option_map}
use Rattle.std.proofs.lemmas.Bool.{false≢true}
use Rattle.std.proofs.lemmas.Option.{none-some, same_Some}
use Rattle.ff_basics.proofs.Tests.{both_of}
use Rattle.ff_types.specs.Foldings.{is_folded}
use Rattle.ff_types.specs.Sheets.{Sheet, is_edge, mark_of}
use Rattle.ff_types.specs.Cites.{is_flat, is_folded_edge, is_flat_edge, on_one_side}
use Rattle.ff_edges.specs.SharedSegments.{beside_both, constrain}
use Rattle.ff_edges.proofs.Segments.{folded_is_not_flat, constrain_by, both_folded}

pub if_some : {A : Type 0} (b : Bool) (x y : A) → (if b then Some x else None) ≡ Some y → IsTrue b × (x ≡ y)
if_some true x y e = (refl, same_Some x y e)
if_some false x y e = absurd (none-some y e)

pub some_if : {A : Type 0} (b : Bool) (x : A) → IsTrue b → (if b then Some x else None) ≡ Some x
some_if true x t = refl
some_if false x t = absurd (false≢true t)

-- one of two
pub if_either : {A : Type 0} (b c : Bool) (x y z : A)
    → (if b then Some x else (if c then Some y else None)) ≡ Some z
    → (IsTrue b × (x ≡ z)) ⊎ (IsTrue c × (y ≡ z))
if_either true c x y z e = inl (refl, same_Some x z e)
if_either false c x y z e = inr (if_some c y z e)

pub first_if : {A : Type 0} (b c : Bool) (x y : A) → IsTrue b
    → (if b then Some x else (if c then Some y else None)) ≡ Some x
first_if true c x y t = refl
first_if false c x y t = absurd (false≢true t)

pub second_if : {A : Type 0} (b c : Bool) (x y : A) → b ≡ false → IsTrue c
    → (if b then Some x else (if c then Some y else None)) ≡ Some y
second_if true c x y e t = absurd (false≢true (sym e))
second_if false c x y e t = some_if c y t

pub mapped_some : {A B : Type 0} (f : A → B) (o : Option A) (y : B) → option_map f o ≡ Some y
    → (x : A) × (o ≡ Some x) × (f x ≡ y)
mapped_some f (Some x) y e = (x, refl, same_Some (f x) y e)
mapped_some f None y e = absurd (none-some y e)

-- ---- marks

module _ (g : Sheet) (e : ℕ) where
  pub folded_not_flat : IsTrue (is_folded_edge g e) → is_flat_edge g e ≡ false
  folded_not_flat t =
      let b = both_of (is_edge g e) (is_folded (mark_of g e)) t in
      ap (λ x. x && is_flat (mark_of g e)) b.0 ∙ folded_is_not_flat (mark_of g e) b.1

  pub flat_not_folded : IsTrue (is_flat_edge g e) → is_folded_edge g e ≡ false
  flat_not_folded t = by (is_folded_edge g e) refl where
    by : (b : Bool) → is_folded_edge g e ≡ b → is_folded_edge g e ≡ false
    by false p = p
    by true p = absurd (false≢true (sym (folded_not_flat p) ∙ t))

-- ---- which pairs are listed

module _ (g : Sheet) (e k : ℕ) where
  abbrev side : Bool
  side = on_one_side g e (beside_both g e k)

  folded_sides : IsTrue (is_folded_edge g e) → IsTrue (is_folded_edge g k) → constrain g e k ≡ side
  folded_sides a b = (λ i. constrain_by (a i) (b i) side (folded_not_flat g e a i) (folded_not_flat g k b i))
      ∙ both_folded side

  pub side_of : IsTrue (is_folded_edge g e) → IsTrue (is_folded_edge g k) → IsTrue (constrain g e k)
      → IsTrue side
  side_of a b t = subst IsTrue (folded_sides a b) t

  pub of_side : IsTrue (is_folded_edge g e) → IsTrue (is_folded_edge g k) → IsTrue side
      → IsTrue (constrain g e k)
  of_side a b t = subst IsTrue (sym (folded_sides a b)) t

  pub folded_flat : IsTrue (is_folded_edge g e) → IsTrue (is_flat_edge g k) → IsTrue (constrain g e k)
  folded_flat a b = subst IsTrue
      (λ i. constrain_by (sym a i) (is_folded_edge g k) side (is_flat_edge g e) (sym b i))
      (by (is_folded_edge g k) side (is_flat_edge g e)) where
        by : (k s f : Bool) → IsTrue (constrain_by true k s f true)
        by true true f = refl
        by true false f = refl
        by false s f = refl

  pub flat_folded : IsTrue (is_flat_edge g e) → IsTrue (is_folded_edge g k) → IsTrue (constrain g e k)
  flat_folded a b = subst IsTrue
      (λ i. constrain_by (is_folded_edge g e) (sym b i) side (sym a i) (is_flat_edge g k))
      (by (is_folded_edge g e) side (is_flat_edge g k)) where
        by : (f s k : Bool) → IsTrue (constrain_by f true s true k)
        by true true k = refl
        by true false true = refl
        by true false false = refl
        by false s k = refl

  pub flat_flat : IsTrue (is_flat_edge g e) → IsTrue (is_flat_edge g k) → IsTrue (constrain g e k)
  flat_flat a b = subst IsTrue (λ i. constrain_by (is_folded_edge g e) (is_folded_edge g k) side (sym a i)
      (sym b i)) (by (is_folded_edge g e) (is_folded_edge g k) side) where
        by : (f k s : Bool) → IsTrue (constrain_by f k s true true)
        by true true true = refl
        by true true false = refl
        by true false s = refl
        by false true s = refl
        by false false s = refl
