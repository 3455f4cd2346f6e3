-- The variables of one label are a part.
use Rattle.std.proofs.Common.{◌≡◌, ℕ, zero, suc, ◌<◌, ◌≤◌, List, [], ◌∷◌, length, slice_index, slice_get, refl, sym, ap, ◌∙◌, subst, arith, Option, Some, Contains}
use Rattle.std.proofs.lemmas.Option.{slice_get-get_or}
use Rattle.ff_tables.specs.declared.orders.Order.{Order}
use Rattle.ff_tables.specs.declared.terms.Constraint.{Constraint}
use Rattle.ff_propagate.specs.Parts.{IsUndecided, AreLinked, IsLinkChain, AreConnected, IsPart, AreParts}
use Rattle.ff_propagate.proofs.Joining.{Stands}
use Rattle.ff_propagate.proofs.Quiet.{stands_contains, contains_stands}
use Rattle.ff_parts.specs.declared.labels.Labels.{Labels}
use Rattle.ff_parts.specs.Labels.{label, IsLabelling, AreAlike, IsBelow}
use Rattle.ff_propagate.specs.declared.parts.Part.{Part}
use Rattle.ff_parts.specs.Gathers.{members, Gathers}
use Rattle.ff_parts.specs.Lists.{vars_of, touching_of}
use Rattle.ff_parts.proofs.Reaching.{link_on}
use Rattle.ff_parts.proofs.Gathered.{member_within, member_stands, members_rise, listed, gathered}

link_back : (vars : ℕ) (cons : List Constraint) (value : ℕ → Option Order) (v w : ℕ)
    → AreLinked vars cons value v w → AreLinked vars cons value w v
link_back vars cons value v w l = record {
  first = l.second;
  second = l.first;
  together = record {
    number = l.together.number;
    constraint = l.together.constraint;
    there = l.together.there;
    first = l.together.second;
    second = l.together.first;
    first_inside = l.together.second_inside;
    second_inside = l.together.first_inside;
    first_is = l.together.second_is;
    second_is = l.together.first_is;
  };
}

chain_back : (vars : ℕ) (cons : List Constraint) (value : ℕ → Option Order) (v w : ℕ) (chain : List ℕ)
    → IsLinkChain vars cons value v chain w → AreConnected vars cons value w v
chain_back vars cons value v w [] e = ([], sym e)
chain_back vars cons value v w (x ∷ chain) (link, rest) = link_on vars cons value w x v
    (chain_back vars cons value x w chain rest) (link_back vars cons value v x link)

chain_on : (vars : ℕ) (cons : List Constraint) (value : ℕ → Option Order) (u v w : ℕ) (chain : List ℕ)
    → AreConnected vars cons value u v → IsLinkChain vars cons value v chain w
    → AreConnected vars cons value u w
chain_on vars cons value u v w [] c e = subst (λ x. AreConnected vars cons value u x) e c
chain_on vars cons value u v w (x ∷ chain) c (link, rest) = chain_on vars cons value u x w chain
    (link_on vars cons value u v x c link) rest

-- variables with one label, through the first of their part
through : (vars : ℕ) (cons : List Constraint) (value : ℕ → Option Order) (u v w : ℕ)
    → AreConnected vars cons value u v → AreConnected vars cons value u w → AreConnected vars cons value v w
through vars cons value u v w (a, is) (b, other) = chain_on vars cons value v u w b
    (chain_back vars cons value u v a is) other

linked_label : (vars : ℕ) (cons : List Constraint) (value : ℕ → Option Order) (l : Labels)
    → ((c : ℕ) (con : Constraint) → slice_get cons c ≡ Some con → AreAlike value l con) → (v w : ℕ)
    → AreLinked vars cons value v w → label l v ≡ label l w
linked_label vars cons value l alike v w link =
    let t = link.together in
    ap (label l) (sym t.first_is)
    ∙ alike t.number t.constraint t.there t.first t.second t.first_inside t.second_inside
    (ap value t.first_is ∙ link.first.open_yet) (ap value t.second_is ∙ link.second.open_yet)
    ∙ ap (label l) t.second_is

chain_label : (vars : ℕ) (cons : List Constraint) (value : ℕ → Option Order) (l : Labels)
    → ((c : ℕ) (con : Constraint) → slice_get cons c ≡ Some con → AreAlike value l con)
    → (v w : ℕ) (chain : List ℕ) → IsLinkChain vars cons value v chain w → label l v ≡ label l w
chain_label vars cons value l alike v w [] e = ap (label l) e
chain_label vars cons value l alike v w (x ∷ chain) (link, rest) = linked_label vars cons value l alike v x
    link ∙ chain_label vars cons value l alike x w chain rest

module _ (vars : ℕ) (cons : List Constraint) (value : ℕ → Option Order) (l : Labels) (lists : List (List ℕ))
    (is : IsBelow vars cons value vars l) (g : Gathers l.part_of.items vars (length l.firsts.items) lists)
  where
    abbrev of_label : ℕ → List ℕ
    of_label k = members l.part_of.items vars (suc k)

    part_of_label : (k : ℕ) → k < length l.firsts.items → IsPart vars cons value (of_label k)
    part_of_label k m = record {
      some = (let st = first_stands in omega (arith, st.1));
      undecided = λ i a. is.labelling.undecided (slice_index (of_label k) i)
          (let r = member_within l.part_of.items vars (suc k) i a in omega (arith, r.1));
      rising = members_rise l.part_of.items vars (suc k);
      class = λ i v a o. (to i v a o, from i v a);
    }
      where
        first_stands : Stands (of_label k) (slice_index l.firsts.items k)
        first_stands = member_stands l.part_of.items vars (suc k) (slice_index l.firsts.items k) (is.below k m)
            (is.first k m)

        to : (i v : ℕ) → i < length (of_label k) → IsUndecided vars value v
            → AreConnected vars cons value (slice_index (of_label k) i) v → Contains (of_label k) v
        to i v a o (chain, c) = stands_contains (of_label k) v
            (member_stands l.part_of.items vars (suc k) v o.variable
            (sym (chain_label vars cons value l is.alike (slice_index (of_label k) i) v chain c)
            ∙ (member_within l.part_of.items vars (suc k) i a).1))

        from : (i v : ℕ) → i < length (of_label k) → Contains (of_label k) v
            → AreConnected vars cons value (slice_index (of_label k) i) v
        from i v a has =
            let st = contains_stands (of_label k) v has in
            let mine = (is.labelling.reached (slice_index (of_label k) i) k (member_within l.part_of.items vars (suc k) i a).1).1 in
            let other = (is.labelling.reached v k (ap (label l) (sym st.2) ∙ (member_within l.part_of.items vars (suc k) st.0 st.1).1)).1 in
            through vars cons value (slice_index l.firsts.items k) (slice_index (of_label k) i) v mine other

    list_is : (k : ℕ) (part : List ℕ) → slice_get lists k ≡ Some part
        → (k < length l.firsts.items) × (part ≡ of_label k)
    list_is k part at = listed l.part_of.items vars (length l.firsts.items) lists g k part at

    -- the first of a list is the first of its part
    starts_with : (k : ℕ) → k < length l.firsts.items
        → slice_index (of_label k) 0 ≡ slice_index l.firsts.items k
    starts_with k m = at
        (member_stands l.part_of.items vars (suc k) (slice_index l.firsts.items k) (is.below k m)
        (is.first k m))
      where
        at : Stands (of_label k) (slice_index l.firsts.items k)
            → slice_index (of_label k) 0 ≡ slice_index l.firsts.items k
        at (zero, a, e) = e
        at (suc i, a, e) =
            let r = member_within l.part_of.items vars (suc k) 0 (omega (arith, a)) in
            absurd (omega (
              arith,
              is.least (slice_index (of_label k) 0) k r.1,
              members_rise l.part_of.items vars (suc k) 0
                  (suc i) (omega arith) a,
              e,
            ))

    suc_of : (n : ℕ) → 0 < n → (p : ℕ) × (n ≡ suc p)
    suc_of zero s = absurd (omega (arith, s))
    suc_of (suc p) s = (p, refl)

    pub are_parts : AreParts vars cons value lists
    are_parts = record {
      each = λ k part at. let r = list_is k part at in subst (IsPart vars cons value) (sym r.1)
          (part_of_label k r.0);
      all = λ v o.
          let p = suc_of (label l v) (is.done v o.variable o) in
          let r = is.labelling.reached v p.0 p.1 in (
            p.0,
            of_label p.0,
            slice_get-get_or lists p.0 [] (omega (arith, r.0, g.as_many)) ∙ ap (λ xs. Some xs) (g.each p.0 r.0),
            stands_contains (of_label p.0) v (member_stands l.part_of.items vars (suc p.0) v o.variable p.1),
          );
      sorted = λ k m p q less at at'.
          let a = list_is k p at in
          let b = list_is m q at' in
          let x : slice_index p 0 ≡ slice_index l.firsts.items k = ap (λ xs. slice_index xs 0) a.1
          ∙ starts_with k a.0 in
          let y : slice_index q 0 ≡ slice_index l.firsts.items m = ap (λ xs. slice_index xs 0) b.1
          ∙ starts_with m b.0 in
          omega (arith, x, y, is.rising k m less b.0);
    }

pub labels_within : (vars : ℕ) (cons : List Constraint) (value : ℕ → Option Order) (l : Labels)
    → IsLabelling vars cons value l → (v : ℕ) → label l v ≤ length l.firsts.items
labels_within vars cons value l is v = sort (label l v) refl
  where
    sort : (n : ℕ) → label l v ≡ n → label l v ≤ length l.firsts.items
    sort zero e = omega (arith, e)
    sort (suc p) e = let r = is.reached v p e in omega (arith, e, r.0)

-- the lists that were gathered are the parts
pub found_parts : (vars : ℕ) (cons : List Constraint) (value : ℕ → Option Order) (l : Labels)
    (lists : List (List ℕ)) (labels : List ℕ) (many : ℕ) → IsBelow vars cons value vars l
    → labels ≡ l.part_of.items → many ≡ length l.firsts.items
    → Gathers labels (length labels) many lists → AreParts vars cons value lists
found_parts vars cons value l lists labels many is slice count g = are_parts vars cons value l lists is
    (gathered vars l.part_of.items labels lists many (length l.firsts.items) is.labelling.wide slice count g)

pub part_at : (parts : List Part) (k : ℕ) (part : Part) → slice_get parts k ≡ Some part
    → slice_get (vars_of parts) k ≡ Some part.vars
part_at [] k part e = cc
part_at (p ∷ parts) zero part e = same p part e
  where
    same : (a b : Part) → Some a ≡ Some b → Some a.vars ≡ Some b.vars
    same a b e = cc
part_at (p ∷ parts) (suc k) part e = part_at parts k part e

pub touching_at : (parts : List Part) (k : ℕ) (part : Part) → slice_get parts k ≡ Some part
    → slice_get (touching_of parts) k ≡ Some part.touching
touching_at [] k part e = cc
touching_at (p ∷ parts) zero part e = same p part e
  where
    same : (a b : Part) → Some a ≡ Some b → Some a.touching ≡ Some b.touching
    same a b e = cc
touching_at (p ∷ parts) (suc k) part e = touching_at parts k part e
