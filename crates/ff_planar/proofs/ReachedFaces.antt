-- Faces that are reached one after the other over edges.
use Rattle.std.proofs.Common.{◌≡◌, ◌≢◌, ◌⊎◌, inl, inr, ℕ, zero, suc, ◌+◌, ◌<◌, ◌≤◌, Bool, true, false, List, [], ◌∷◌, length, slice_set, arith, refl, sym, ap, ◌∙◌, subst, Option, Some}
use Rattle.std.proofs.lemmas.Bool.{false≢true}
use Rattle.std.proofs.lemmas.List.{get_or-set_same, get_or-set_other, length-set}
use Rattle.ff_basics.proofs.Numbers.{last_or, same_or}
use Rattle.ff_types.specs.declared.faces.EdgeSides.{EdgeSides}
use Rattle.ff_types.specs.Sides.{sides_at}
use Rattle.ff_planar.specs.Joining.{reached_at, unreached, AreBeside, Steps, IsWay, AreLinked, IsEven, Stepped, PassedTo, AreReached}

-- one face more
pub fewer : (xs : List Bool) (f : ℕ) → f < length xs → reached_at xs f ≡ false → unreached (slice_set xs f true) < unreached xs
fewer [] f l h = absurd (omega (arith, l))
fewer (true ∷ xs) zero l h = absurd (false≢true (sym h))
fewer (false ∷ xs) zero l h = omega arith
fewer (true ∷ xs) (suc f) l h = fewer xs f (omega (arith, l)) h
fewer (false ∷ xs) (suc f) l h = let r = fewer xs f (omega (arith, l)) h in omega (arith, r)

kept_set : (xs : List Bool) (g f : ℕ) → g < length xs → reached_at xs f ≡ true → reached_at (slice_set xs g true) f ≡ true
kept_set xs g f l h = elim (same_or f g) [ inl n ↦ get_or-set_other xs g f true false n ∙ h | inr e ↦ ap (reached_at (slice_set xs g true)) e ∙ get_or-set_same xs g true false l ]

from_set : (xs : List Bool) (g f : ℕ) → reached_at (slice_set xs g true) f ≡ true → (reached_at xs f ≡ true) ⊎ (f ≡ g)
from_set xs g f h = elim (same_or f g) [ inl n ↦ inl (sym (get_or-set_other xs g f true false n) ∙ h) | inr e ↦ inr e ]

pub step_right : (xs : List Bool) (f g : ℕ) → g < length xs → reached_at xs f ≡ true → reached_at xs g ≡ false → Stepped (Some f) (Some g) xs (slice_set xs g true) true
step_right xs f g l h n = record {
  as_many = length-set xs g true;
  kept = λ k t. kept_set xs g k l t;
  from = λ k t. elim (from_set xs g k t) [ inl o ↦ inl o | inr e ↦ inr (f, h, inl (refl, ap Some (sym e))) ];
  still = λ e. absurd (false≢true (sym e));
  more = λ _. fewer xs g l n;
}

pub step_left : (xs : List Bool) (f g : ℕ) → f < length xs → reached_at xs g ≡ true → reached_at xs f ≡ false → Stepped (Some f) (Some g) xs (slice_set xs f true) true
step_left xs f g l h n = record {
  as_many = length-set xs f true;
  kept = λ k t. kept_set xs f k l t;
  from = λ k t. elim (from_set xs f k t) [ inl o ↦ inl o | inr e ↦ inr (g, h, inr (ap Some (sym e), refl)) ];
  still = λ e. absurd (false≢true (sym e));
  more = λ _. fewer xs f l n;
}

pub step_none : (left right : Option ℕ) (xs : List Bool) → IsEven xs left right → Stepped left right xs xs false
step_none left right xs h = record { as_many = refl; kept = λ f t. t; from = λ f t. inl t; still = λ _. (refl, h); more = λ e. absurd (false≢true e) }

-- ---- ways over edges

join : (sides : List EdgeSides) (f g h : ℕ) (p : List ℕ) → IsWay sides f p g → Steps sides g h → AreLinked sides f h
join sides f g h [] e s = (h ∷ [], (subst (λ x. Steps sides x h) (sym e) s, refl))
join sides f g h (x ∷ p) w s = let r = join sides x g h p w.1 s in (x ∷ r.0, (w.0, r.1))

pub linked_on : (sides : List EdgeSides) (f g h : ℕ) → AreLinked sides f g → Steps sides g h → AreLinked sides f h
linked_on sides f g h l s = join sides f g h l.0 l.1 s

-- ---- a pass over the edges

module _ (sides : List EdgeSides) (n : ℕ) (l : n < length sides) (old mid new : List Bool) where
  linked_more : (b : Bool) (s : Stepped (sides_at sides n).left (sides_at sides n).right mid new b) → ((f : ℕ) → reached_at mid f ≡ true → AreLinked sides 0 f) → (f : ℕ) → reached_at new f ≡ true → AreLinked sides 0 f
  linked_more b s h f t = elim (s.from f t) [
    | inl o ↦ h f o
    | inr r ↦ linked_on sides 0 r.0 f (h r.0 r.1) (elim r.2 [
      | inl e ↦ inl (record { edge = n; within = l; left = e.0; right = e.1 })
      | inr e ↦ inr (record { edge = n; within = l; left = e.0; right = e.1 })
    ])
  ]

  at_most : (b : Bool) → PassedTo sides n old mid b → unreached mid ≤ unreached old
  at_most true p = let m = p.more refl in omega arith
  at_most false p = let e = ap unreached (p.still refl).0 in omega arith

  at_most_step : (b : Bool) → Stepped (sides_at sides n).left (sides_at sides n).right mid new b → unreached new ≤ unreached mid
  at_most_step true s = let m = s.more refl in omega arith
  at_most_step false s = let e = ap unreached (s.still refl).0 in omega arith

  pub pass_grown : (b : Bool) → PassedTo sides n old mid b → Stepped (sides_at sides n).left (sides_at sides n).right mid new true → PassedTo sides (n + 1) old new true
  pass_grown b p s = record {
    as_many = s.as_many ∙ p.as_many;
    kept = λ f t. s.kept f (p.kept f t);
    linked = λ h f t. linked_more true s (p.linked h) f t;
    still = λ e. absurd (false≢true (sym e));
    more = λ _. let m = s.more refl in let a = at_most b p in omega (arith, m, a);
  }

  pub pass_still : (b : Bool) → PassedTo sides n old mid b → Stepped (sides_at sides n).left (sides_at sides n).right mid new false → PassedTo sides (n + 1) old new b
  pass_still b p s = record {
    as_many = s.as_many ∙ p.as_many;
    kept = λ f t. s.kept f (p.kept f t);
    linked = λ h f t. linked_more false s (p.linked h) f t;
    still = λ e. let r = p.still e in let q = s.still refl in (
      q.0 ∙ r.0,
      λ k m. elim (last_or k n m) [
        | inl o ↦ r.1 k o
        | inr o ↦ subst (λ j. IsEven old (sides_at sides j).left (sides_at sides j).right) (sym o) (subst (λ x. IsEven x (sides_at sides n).left (sides_at sides n).right) r.0 q.1)
      ],
    );
    more = λ e. let m = p.more e in let a = at_most_step false s in omega (arith, m, a);
  }

-- ---- where nothing is new, all that is linked has been reached

module _ (sides : List EdgeSides) (xs : List Bool) (even : (e : ℕ) → e < length sides → IsEven xs (sides_at sides e).left (sides_at sides e).right) where
  over : (f g : ℕ) → AreBeside sides f g → reached_at xs f ≡ reached_at xs g
  over f g b = by (sides_at sides b.edge).left (sides_at sides b.edge).right b.left b.right (even b.edge b.within) where
    by : (left right : Option ℕ) → left ≡ Some f → right ≡ Some g → IsEven xs left right → reached_at xs f ≡ reached_at xs g
    by left right e h k = subst (λ r. IsEven xs (Some f) r) h (subst (λ l. IsEven xs l right) e k)

  along : (f g : ℕ) (p : List ℕ) → reached_at xs f ≡ true → IsWay sides f p g → reached_at xs g ≡ true
  along f g [] t e = subst (λ x. reached_at xs x ≡ true) e t
  along f g (x ∷ p) t w = along x g p (elim w.0 [ inl b ↦ sym (over f x b) ∙ t | inr b ↦ over x f b ∙ t ]) w.1

  pub all_reached : reached_at xs 0 ≡ true → (f : ℕ) → AreLinked sides 0 f → reached_at xs f ≡ true
  all_reached t f l = along 0 f l.0 t l.1

-- the last pass has found nothing new
pub spread_end : (sides : List EdgeSides) (old new : List Bool) (count : ℕ) → PassedTo sides (length sides) old new false → length old ≡ count → reached_at old 0 ≡ true → ((f : ℕ) → reached_at old f ≡ true → AreLinked sides 0 f)
    → AreReached sides count new
spread_end sides old new count p n t h = let r = p.still refl in record {
  as_many = p.as_many ∙ n;
  linked = p.linked h;
  all = λ f l. subst (λ x. reached_at x f ≡ true) (sym r.0) (all_reached sides old r.1 t f l);
}

-- at first face 0 alone has been reached
pub first_reached : (xs : List Bool) → 0 < length xs → reached_at (slice_set xs 0 true) 0 ≡ true
first_reached xs l = get_or-set_same xs 0 true false l

pub only_first : (sides : List EdgeSides) (xs : List Bool) → ((f : ℕ) → reached_at xs f ≡ false) → (f : ℕ) → reached_at (slice_set xs 0 true) f ≡ true → AreLinked sides 0 f
only_first sides xs none f h = elim (from_set xs 0 f h) [ inl t ↦ absurd (false≢true (sym (none f) ∙ t)) | inr e ↦ ([], sym e) ]
