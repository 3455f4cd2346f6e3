-- What a closure leaves undecided can't fail to have parts.
use Rattle.std.proofs.Common.{◌≡◌, ◌⊎◌, inl, inr, ℕ, zero, suc, ◌<◌, List, [], ◌∷◌, length, slice_index, slice_get, Option, Some, refl, sym, subst, arith, Contains}
use Rattle.std.proofs.lemmas.Option.{slice_get_within}
use Rattle.ff_tables.specs.declared.orders.Order.{Order}
use Rattle.ff_tables.specs.declared.terms.Constraint.{Constraint}
use Rattle.ff_propagate.specs.declared.parts.Part.{Part}
use Rattle.ff_propagate.specs.Parts.{IsUndecided, AreLinked, IsLinkChain, AreConnected, IsPart, AreParts, Touches, AreTouching}
use Rattle.ff_propagate.proofs.Joining.{Stands}
use Rattle.ff_propagate.proofs.Quiet.{contains_stands}
use Rattle.ff_parts.specs.Lists.{vars_of}
use Rattle.ff_parts.proofs.Reaching.{link_on}
use Rattle.ff_answers.proofs.Deciding.{either_way, each_below, some_least, AreFrom, some_from}

module _ (vars : ℕ) (cons : List Constraint) (value : ℕ → Option Order) where
  abbrev Open : ℕ → Type 0
  Open v = IsUndecided vars value v

  abbrev Connected : ℕ → ℕ → Type 0
  Connected v w = AreConnected vars cons value v w

  -- ---- connections

  link_back : (v w : ℕ) → AreLinked vars cons value v w → AreLinked vars cons value w v
  link_back v w l = record {
    first = l.second;
    second = l.first;
    together = record {
      number = l.together.number;
      constraint = l.together.constraint;
      there = l.together.there;
      first = l.together.second;
      second = l.together.first;
      first_inside = l.together.second_inside;
      second_inside = l.together.first_inside;
      first_is = l.together.second_is;
      second_is = l.together.first_is;
    };
  }

  chain_back : (v w : ℕ) (chain : List ℕ) → IsLinkChain vars cons value v chain w → Connected w v
  chain_back v w [] e = ([], sym e)
  chain_back v w (x ∷ chain) (link, rest) = link_on vars cons value w x v (chain_back x w chain rest) (link_back v x link)

  chain_on : (u v w : ℕ) (chain : List ℕ) → Connected u v → IsLinkChain vars cons value v chain w → Connected u w
  chain_on u v w [] c e = subst (Connected u) e c
  chain_on u v w (x ∷ chain) c (link, rest) = chain_on u x w chain (link_on vars cons value u v x c link) rest

  turned : (v w : ℕ) → Connected v w → Connected w v
  turned v w (chain, c) = chain_back v w chain c

  joined : (u v w : ℕ) → Connected u v → Connected v w → Connected u w
  joined u v w c (chain, d) = chain_on u v w chain c d

  -- ---- the first of each class

  abbrev InClass : ℕ → ℕ → Type 0
  InClass f v = Open v × Connected f v

  -- no lesser one is in its class
  record IsFirst (f : ℕ) : Type 0 where
    pub undecided : Open f
    pub none : (u : ℕ) → u < f → InClass f u → ⊥

  -- a first one that leads to it
  abbrev HasFirst : ℕ → Type 0
  HasFirst v = Open v → (f : ℕ) × IsFirst f × Connected f v

  has_first : (v : ℕ) → (HasFirst v → ⊥) → ⊥
  has_first v k = either_way (Open v) by where
    by : (Open v ⊎ (Open v → ⊥)) → ⊥
    by (inr n) = k (λ o. absurd (n o))
    by (inl o) = some_least (InClass v) v v (omega arith) (o, ([], refl)) (λ u least. k (λ x. (
      u,
      record {
        undecided = least.is.0;
        none = λ w l c. least.none w l (c.0, joined v u w least.is.1 c.1);
      },
      turned v u least.is.1,
    )))

  -- ---- the classes, one for each first

  -- the constraint with this number has a variable of the part
  abbrev IsTouched : List ℕ → ℕ → Type 0
  IsTouched part c = (con : Constraint) × (slice_get cons c ≡ Some con) × Touches part con

  abbrev AreClasses : List ℕ → List Part → Type 0
  AreClasses [] [] = Unit {0}
  AreClasses (f ∷ firsts) (p ∷ parts) = AreFrom (InClass f) 0 vars p.vars
      × AreFrom (IsTouched p.vars) 0 (length cons) p.touching × AreClasses firsts parts
  AreClasses [] (p ∷ parts) = ⊥
  AreClasses (f ∷ firsts) [] = ⊥

  some_classes : (firsts : List ℕ) → ((parts : List Part) → AreClasses firsts parts → ⊥) → ⊥
  some_classes [] k = k [] tt
  some_classes (f ∷ firsts) k = some_classes firsts (λ parts are. some_from (InClass f) vars 0 vars (omega arith)
      (λ list of. some_from (IsTouched list) (length cons) 0 (length cons) (omega arith)
      (λ touching touched. k (record { vars = list; touching = touching } ∷ parts) (of, touched, are))))

  -- the class at a place
  class_at : (firsts : List ℕ) (parts : List Part) → AreClasses firsts parts → (k : ℕ) (part : List ℕ)
      → slice_get (vars_of parts) k ≡ Some part
      → (k < length firsts) × AreFrom (InClass (slice_index firsts k)) 0 vars part
  class_at [] [] are k part e = absurd (omega (arith, slice_get_within [] k part e))
  class_at [] (p ∷ parts) are k part e = absurd are
  class_at (f ∷ firsts) [] are k part e = absurd are
  class_at (f ∷ firsts) (p ∷ parts) are zero part e = (omega arith, subst (AreFrom (InClass f) 0 vars) (the_same e) are.0) where
    the_same : Some p.vars ≡ Some part → p.vars ≡ part
    the_same x = cc
  class_at (f ∷ firsts) (p ∷ parts) are (suc k) part e = let r = class_at firsts parts are.2 k part e in (omega (arith, r.0), r.1)

  -- the constraints of each class
  touching_at : (firsts : List ℕ) (parts : List Part) → AreClasses firsts parts → (k : ℕ) (part : Part)
      → slice_get parts k ≡ Some part → AreTouching cons part.vars part.touching
  touching_at [] [] are k part e = absurd (omega (arith, slice_get_within [] k part e))
  touching_at [] (p ∷ parts) are k part e = absurd are
  touching_at (f ∷ firsts) [] are k part e = absurd are
  touching_at (f ∷ firsts) (p ∷ parts) are zero part e = subst (λ (q : Part). AreTouching cons q.vars q.touching) (the_same e)
      (record {
        each = are.1.each;
        all = λ c con at t. are.1.all c (con, at, t) (omega arith) (slice_get_within cons c con at);
        rising = are.1.rising;
      }) where
        the_same : Some p ≡ Some part → p ≡ part
        the_same x = cc
  touching_at (f ∷ firsts) (p ∷ parts) are (suc k) part e = touching_at firsts parts are.2 k part e

  class_of : (firsts : List ℕ) (parts : List Part) → AreClasses firsts parts → (k : ℕ) → k < length firsts
      → (part : List ℕ) × (slice_get (vars_of parts) k ≡ Some part)
  class_of [] parts are k l = absurd (omega (arith, l))
  class_of (f ∷ firsts) [] are k l = absurd are
  class_of (f ∷ firsts) (p ∷ parts) are zero l = (p.vars, refl)
  class_of (f ∷ firsts) (p ∷ parts) are (suc k) l = class_of firsts parts are.2 k (omega (arith, l))

  module _ (firsts : List ℕ) (are_firsts : AreFrom IsFirst 0 vars firsts) (parts : List Part) (are : AreClasses firsts parts)
      (lead : (v : ℕ) → v < vars → HasFirst v) where
    abbrev first_at : ℕ → ℕ
    first_at k = slice_index firsts k

    self : (k : ℕ) → k < length firsts → InClass (first_at k) (first_at k)
    self k l = ((are_firsts.each k l).undecided, ([], refl))

    first_in : (k : ℕ) (part : List ℕ) → k < length firsts → AreFrom (InClass (first_at k)) 0 vars part → Stands part (first_at k)
    first_in k part l from = contains_stands part (first_at k)
        (from.all (first_at k) (self k l) (omega arith) (self k l).0.variable)

    is_part : (k : ℕ) (part : List ℕ) → k < length firsts → AreFrom (InClass (first_at k)) 0 vars part
        → IsPart vars cons value part
    is_part k part l from = record {
      some = (let s = first_in k part l from in omega (arith, s.1));
      undecided = λ i m. (from.each i m).0;
      rising = from.rising;
      class = λ i v m o. (
        λ c. from.all v (o, joined (first_at k) (slice_index part i) v (from.each i m).1 c) (omega arith) o.variable,
        λ has. there i v m (contains_stands part v has),
      );
    } where
      there : (i v : ℕ) → i < length part → Stands part v → Connected (slice_index part i) v
      there i v m (j, b, e) = joined (slice_index part i) (first_at k) v
          (turned (first_at k) (slice_index part i) (from.each i m).1)
          (subst (Connected (first_at k)) e (from.each j b).1)

    -- a class begins with its first one
    begins : (k : ℕ) (part : List ℕ) → k < length firsts → AreFrom (InClass (first_at k)) 0 vars part
        → slice_index part 0 ≡ first_at k
    begins k part l from = by (first_in k part l from) where
      by : Stands part (first_at k) → slice_index part 0 ≡ first_at k
      by (zero, a, e) = e
      by (suc j, a, e) = absurd ((are_firsts.each k l).none (slice_index part 0)
          (let r = from.rising 0 (suc j) (omega arith) a in omega (arith, r, e)) (from.each 0 (omega (arith, a))))

    are_parts : AreParts vars cons value (vars_of parts)
    are_parts = record {
      each = λ k part e. let c = class_at firsts parts are k part e in is_part k part c.0 c.1;
      all = all;
      sorted = λ k l p q m e f.
          let c = class_at firsts parts are k p e in
          let d = class_at firsts parts are l q f in
          let r = are_firsts.rising k l m d.0 in
          omega (arith, r, begins k p c.0 c.1, begins l q d.0 d.1);
    } where
      all : (v : ℕ) → Open v → (k : ℕ) × (part : List ℕ) × (slice_get (vars_of parts) k ≡ Some part) × Contains part v
      all v o = by (lead v o.variable o) where
        by : (f : ℕ) × IsFirst f × Connected f v → (k : ℕ) × (part : List ℕ) × (slice_get (vars_of parts) k ≡ Some part)
            × Contains part v
        by (f, first, c) = at (contains_stands firsts f (are_firsts.all f first (omega arith) first.undecided.variable)) where
          at : Stands firsts f → (k : ℕ) × (part : List ℕ) × (slice_get (vars_of parts) k ≡ Some part) × Contains part v
          at (k, l, e) =
              let p = class_of firsts parts are k l in
              let d = class_at firsts parts are k p.0 p.1 in
              (k, p.0, p.1, d.1.all v (o, subst (λ u. Connected u v) (sym e) c) (omega arith) o.variable)

  pub some_parts : ((parts : List Part) → AreParts vars cons value (vars_of parts)
      → ((k : ℕ) (part : Part) → slice_get parts k ≡ Some part → AreTouching cons part.vars part.touching) → ⊥) → ⊥
  some_parts k = each_below vars HasFirst (λ v l. has_first v) (λ lead. some_from IsFirst vars 0 vars (omega arith)
      (λ firsts are_firsts. some_classes firsts (λ parts are. k parts (are_parts firsts are_firsts parts are lead) (touching_at firsts parts are))))
