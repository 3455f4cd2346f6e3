-- The constraints of one label are those that touch its part.
use Rattle.std.proofs.Common.{◌≡◌, ℕ, suc, ◌+◌, ◌<◌, ◌≤◌, inl, inr, List, [], ◌∷◌, ◌++◌, length, get_or, slice_index, slice_get, sym, ap, ◌∙◌, subst, arith, Option, Some, None}
use Rattle.std.proofs.lemmas.Option.{slice_get_within, slice_get-get_or}
use Rattle.std.proofs.lemmas.Bool.{cases_eq}
use Rattle.std.proofs.lemmas.List.{get_or_push, get_or_append_left}
use Rattle.ff_tables.specs.declared.orders.Order.{Order}
use Rattle.ff_tables.specs.declared.terms.Kind.TheVariants.{TacoTaco}
use Rattle.ff_tables.specs.declared.terms.Constraint.{Constraint}
use Rattle.ff_tables.specs.Orders.{term_at}
use Rattle.ff_tables.specs.Systems.{AreFit}
use Rattle.ff_propagate.specs.Parts.{Touches, AreTouching}
use Rattle.ff_propagate.specs.declared.parts.Part.{Part}
use Rattle.ff_propagate.proofs.Quiet.{stands_contains, contains_stands}
use Rattle.ff_parts.specs.declared.labels.Labels.{Labels}
use Rattle.ff_parts.specs.Labels.{label, IsLabelling, IsBelow}
use Rattle.ff_parts.specs.Gathers.{members, Gathers}
use Rattle.ff_parts.specs.Lists.{vars_of, touching_of}
use Rattle.ff_parts.specs.Marks.{IsMark, AreMarks}
use Rattle.ff_parts.proofs.Gathered.{member_within, member_stands, members_rise, listed}
use Rattle.ff_parts.proofs.Classes.{labels_within, part_at, touching_at}

-- the first n constraints have their marks
abbrev pub HaveMarks : (ℕ → Option Order) → List ℕ → List Constraint → ℕ → List ℕ → Type 0
HaveMarks value labels cons n marks = (c : ℕ) (con : Constraint) → c < n → slice_get cons c ≡ Some con
    → IsMark value labels con (slice_index marks c)

some_same : {a b : Constraint} → Some a ≡ Some b → a ≡ b
some_same e = cc

-- one constraint more
pub marks_on : (value : ℕ → Option Order) (labels : List ℕ) (cons : List Constraint) (n m : ℕ)
    (con : Constraint) (old new : List ℕ) → length old ≡ n → slice_get cons n ≡ Some con
    → IsMark value labels con m → new ≡ old ++ m ∷ [] → HaveMarks value labels cons n old
    → HaveMarks value labels cons (n + 1) new
marks_on value labels cons n m con old new long here is e have c d l there = elim (cases_eq c n) [
  | inl same ↦ subst (IsMark value labels d)
      (sym (ap (λ xs. slice_index xs c) e ∙ get_or_push old m 0 c (long ∙ sym same)))
      (subst (λ x. IsMark value labels x m)
      (some_same (sym here ∙ ap (slice_get cons) (sym same) ∙ there)) is)
  | inr ne ↦ subst (IsMark value labels d)
      (sym (ap (λ xs. slice_index xs c) e ∙ get_or_append_left old (m ∷ []) 0 c (omega (arith, l, ne, long))))
      (have c d (omega (arith, l, ne)) there)
]

-- a mark is 0 or the label of a part
pub marks_within : (vars : ℕ) (cons : List Constraint) (value : ℕ → Option Order) (l : Labels)
    (marks : List ℕ) → IsLabelling vars cons value l → AreMarks value l.part_of.items cons marks → (c : ℕ)
    → c < length marks → slice_index marks c ≤ length l.firsts.items
marks_within vars cons value l marks is m c inside = sort (m.each c con at)
  where
    con : Constraint
    con = get_or cons c (record { kind = TacoTaco; terms = [] })

    at : slice_get cons c ≡ Some con
    at = slice_get-get_or cons c (record { kind = TacoTaco; terms = [] }) (omega (arith, inside, m.as_many))

    sort : IsMark value l.part_of.items con (slice_index marks c)
        → slice_index marks c ≤ length l.firsts.items
    sort (inl (j, a, none, e)) = omega (arith, e, labels_within vars cons value l is (term_at con.terms j).var)
    sort (inr (decided, e)) = omega (arith, e)

module _ (vars : ℕ) (cons : List Constraint) (value : ℕ → Option Order) (l : Labels) (marks : List ℕ)
    (fit : AreFit vars cons) (is : IsBelow vars cons value vars l)
    (m : AreMarks value l.part_of.items cons marks)
  where
    abbrev of_label : ℕ → List ℕ
    of_label k = members l.part_of.items vars (suc k)

    abbrev of_mark : ℕ → List ℕ
    of_mark k = members marks (length marks) (suc k)

    -- a constraint with the mark of a part touches it
    touches : (k c : ℕ) (con : Constraint) → slice_get cons c ≡ Some con → slice_index marks c ≡ suc k
        → Touches (of_label k) con
    touches k c con at e = sort (m.each c con at)
      where
        sort : IsMark value l.part_of.items con (slice_index marks c) → Touches (of_label k) con
        sort (inl (j, a, none, s)) = record {
          place = j;
          inside = a;
          among = stands_contains (of_label k) (term_at con.terms j).var
              (member_stands l.part_of.items vars (suc k) (term_at con.terms j).var
              ((fit c con at).within j a) (sym s ∙ e));
        }
        sort (inr (decided, s)) = absurd (omega (arith, e, s))

    -- a constraint that touches a part has its mark
    marked : (k c : ℕ) (con : Constraint) → slice_get cons c ≡ Some con → Touches (of_label k) con
        → slice_index marks c ≡ suc k
    marked k c con at t = sort (m.each c con at)
      where
        here : label l (term_at con.terms t.place).var ≡ suc k
        here =
            let st = contains_stands (of_label k) (term_at con.terms t.place).var t.among in
            ap (label l) (sym st.2) ∙ (member_within l.part_of.items vars (suc k) st.0 st.1).1

        undecided : value (term_at con.terms t.place).var ≡ None
        undecided = (is.labelling.undecided (term_at con.terms t.place).var (omega (arith, here))).open_yet

        sort : IsMark value l.part_of.items con (slice_index marks c) → slice_index marks c ≡ suc k
        sort (inl (j, a, none, s)) = s ∙ is.alike c con at j t.place a t.inside none undecided ∙ here
        sort (inr (decided, s)) = absurd (decided t.place t.inside undecided)

    touching : (k : ℕ) → AreTouching cons (of_label k) (of_mark k)
    touching k = record {
      each = λ i a.
          let r = member_within marks (length marks) (suc k) i a in
          let con = get_or cons (slice_index (of_mark k) i) (record { kind = TacoTaco; terms = [] }) in
          let at = slice_get-get_or cons (slice_index (of_mark k) i) (record { kind = TacoTaco; terms = [] })
          (omega (arith, r.0, m.as_many)) in
          (con, at, touches k (slice_index (of_mark k) i) con at r.1);
      all = λ c con at t. stands_contains (of_mark k) c
          (member_stands marks (length marks) (suc k) c
          (omega (arith, slice_get_within cons c con at, m.as_many)) (marked k c con at t));
      rising = members_rise marks (length marks) (suc k);
    }

    -- the parts that were found have the constraints that touch them
    pub found_touching : (lists touched : List (List ℕ)) (parts : List Part)
        → Gathers l.part_of.items vars (length l.firsts.items) lists
        → Gathers marks (length marks) (length l.firsts.items) touched → vars_of parts ≡ lists
        → touching_of parts ≡ touched → (k : ℕ) (part : Part) → slice_get parts k ≡ Some part
        → AreTouching cons part.vars part.touching
    found_touching lists touched parts g h vars_are touching_are k part at =
        let a = listed l.part_of.items vars (length l.firsts.items) lists g k part.vars
        (ap (λ ls. slice_get ls k) (sym vars_are) ∙ part_at parts k part at) in
        let b = listed marks (length marks) (length l.firsts.items) touched h k part.touching
        (ap (λ ls. slice_get ls k) (sym touching_are) ∙ touching_at parts k part at) in
        subst (λ xs. AreTouching cons xs part.touching) (sym a.1)
        (subst (λ xs. AreTouching cons (of_label k) xs) (sym b.1) (touching k))
