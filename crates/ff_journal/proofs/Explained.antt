-- Facts explain a pair by a constraint.
use Rattle.std.proofs.Common.{◌≡◌, ◌≢◌, ℕ, zero, suc, ◌+◌, ◌<◌, ◌==◌, ◌⊎◌, Bool, true, false, not, cond, ltb, List, [], ◌∷◌, ◌++◌, length, map, take, get_or, slice_get, sym, refl, ap, ◌∙◌, subst, inl, inr, arith, Option, Some, None, Contains}
use Rattle.std.specs.List.{filter, filter_map, cons_option}
use Rattle.std.specs.Prelude.{option_map}
use Rattle.std.proofs.lemmas.Bool.{cases_lt, ltb-true, lt-ltb, ne_eqb}
use Rattle.std.proofs.lemmas.List.{take_more, map-append, get_or_past}
use Rattle.std.proofs.lemmas.List.Elements.{filter_map-append}
use Rattle.std.proofs.lemmas.Option.{slice_get-map, slice_get-get_or, slice_get_within}
use Rattle.ff_tables.specs.declared.orders.Order.{Order}
use Rattle.ff_tables.specs.declared.givens.Given.{Given}
use Rattle.ff_tables.specs.declared.terms.Term.{Term}
use Rattle.ff_tables.specs.declared.terms.Constraint.{Constraint}
use Rattle.ff_tables.specs.Orders.{term_at}
use Rattle.ff_tables.specs.Forces.{Forces}
use Rattle.ff_tables.proofs.Agreeing.{forces_more}
use Rattle.ff_types.specs.declared.cites.Cite.{Cite}
use Rattle.ff_types.specs.declared.cases.Case.{Case}
use Rattle.ff_types.specs.Pairs.{AreSorted, pair_at}
use Rattle.ff_types.proofs.SortedPairs.{number_there}
use Rattle.ff_propagate.specs.declared.facts.Fact.{Fact}
use Rattle.ff_propagate.specs.declared.facts.Reason.{Reason}
use Rattle.ff_propagate.specs.declared.facts.Reason.TheVariants as reason
use Rattle.ff_propagate.specs.Facts.{fact_at, seen, IsKnownBelow}
use Rattle.ff_propagate.specs.FactRule.{StandsBy, MeetsFactRule}
use Rattle.ff_viewer.specs.declared.replies.Premise.{Premise}
use Rattle.ff_viewer.specs.declared.replies.Why.TheVariants as why
use Rattle.ff_viewer.specs.declared.replies.Reply.TheVariants as reply
use Rattle.ff_viewer.specs.declared.replies.Why.{Why}
use Rattle.ff_journal.specs.Replies.{IsReason, IsWhyReplyBy}
use Rattle.ff_journal.specs.Epochs.{joined}
use Rattle.ff_journal.specs.Publications.{on_board}
use Rattle.ff_journal.specs.Premises.{premise_from, premise_by, premise_besides}
use Rattle.ff_journal.specs.declared.entries.Entry.{Entry}
use Rattle.ff_journal.specs.Reasons.{IsGivenIn, IsPremise, AreSaying, IsLeftOut, IsWhy}
use Rattle.ff_journal.specs.Shown.{HaveLevels}

-- ---- the list of premises

pub premises_more : (h : ℕ → Option Premise) (ts : List Term) (j : ℕ) → j < length ts
    → filter_map h (map (λ x. x.var) (take (j + 1) ts)) ≡ filter_map h (map (λ x. x.var) (take j ts)) ++ cons_option (h (term_at ts j).var) []
premises_more h ts j l =
    ap (λ xs. filter_map h (map (λ x. x.var) xs)) (take_more ts j (record { var = 0; flipped = false }) l)
    ∙ ap (filter_map h) (map-append (λ x. x.var) (take j ts) (term_at ts j ∷ []))
    ∙ filter_map-append h (map (λ x. x.var) (take j ts)) ((term_at ts j).var ∷ [])

besides_step : (h : ℕ → Option Premise) (x : ℕ) (xs ys : List ℕ) (ps : List Premise) (b : Bool) → ps ≡ filter_map h ys
    → cons_option (cond b None (h x)) ps ≡ filter_map h (cond (not b) (x ∷ ys) ys)
besides_step h x xs ys ps true e = e
besides_step h x xs ys ps false e = ap (λ qs. cons_option (h x) qs) e

pub besides_others : (pairs : List (ℕ × ℕ)) (fs : List (Option Fact)) (k n : ℕ) (xs : List ℕ)
    → filter_map (premise_besides pairs fs k n) xs ≡ filter_map (premise_by pairs fs k) (filter (λ v. not (v == n)) xs)
besides_others pairs fs k n [] = refl
besides_others pairs fs k n (x ∷ xs) = besides_step (premise_by pairs fs k) x xs (filter (λ v. not (v == n)) xs)
    (filter_map (premise_besides pairs fs k n) xs) (x == n) (besides_others pairs fs k n xs)

-- an item for which h gives something is given
given_in : (h : ℕ → Option Premise) (ts : List Term) (j : ℕ) (p : Premise) → j < length ts → h (term_at ts j).var ≡ Some p
    → Contains (filter_map h (map (λ x. x.var) ts)) p
given_in h [] j p l e = absurd (omega (arith, l))
given_in h (t ∷ ts) zero p l e = subst (λ o. Contains (cons_option o (filter_map h (map (λ x. x.var) ts))) p) (sym e) (0, omega arith, refl)
given_in h (t ∷ ts) (suc j) p l e = later (h t.var) (given_in h ts j p (omega (arith, l)) e)
  where
    later : (o : Option Premise) → Contains (filter_map h (map (λ x. x.var) ts)) p → Contains (cons_option o (filter_map h (map (λ x. x.var) ts))) p
    later None c = c
    later (Some q) c = let m = c.1 in (suc c.0, omega (arith, m), c.2)

-- ---- one premise

pub record IsFrom (pair : ℕ × ℕ) (k : ℕ) (o : Option Fact) (p : Premise) : Type 0 where
  pub fact : Fact
  pub there : o ≡ Some fact
  pub lower : fact.level < k
  pub is : p ≡ record { f = pair.0; g = pair.1; value = fact.value; level = fact.level }

pub chosen : {X : Type 0} → (b : Bool) (x y z : X) → cond b x y ≡ z → ((b ≡ true) × (x ≡ z)) ⊎ ((b ≡ false) × (y ≡ z))
chosen true x y z h = inl (refl, h)
chosen false x y z h = inr (refl, h)

pub premise_is : (pair : ℕ × ℕ) (k : ℕ) (o : Option Fact) (p : Premise) → premise_from pair k o ≡ Some p → IsFrom pair k o p
premise_is pair k None p e = cc
premise_is pair k (Some h) p e = elim (chosen (ltb h.level k) (Some (record { f = pair.0; g = pair.1; value = h.value; level = h.level })) None (Some p) e) [
  | inl (l, v) ↦ record { fact = h; there = refl; lower = ltb-true h.level k l; is = some_is v }
  | inr (l, v) ↦ absurd (none_is v)
]
  where
    some_is : {q : Premise} → Some q ≡ Some p → p ≡ q
    some_is v = cc

    none_is : None ≡ Some p → ⊥
    none_is v = cc

-- a fact by the rule has the level 0 exactly where its variable is given
given_stands : (cons : List Constraint) (gs : List Given) (fs : List (Option Fact)) (v : ℕ) (s : Order) (k : ℕ) (r : Reason)
    → StandsBy cons gs fs v s k r → k ≡ 0 → IsGivenIn gs v
given_stands cons gs fs v s k (reason.Given i) st z = record { place = i; given = st.1.given; there = st.1.there; of_variable = st.1.variable }
given_stands cons gs fs v s k (reason.Forced c) st z = let l = st.0 in absurd (omega (arith, l, z))

some_fact : {a b : Fact} → Some a ≡ Some b → a ≡ b
some_fact e = cc

-- the fact of a given variable is by a given
by_given : (vars : ℕ) (cons : List Constraint) (gs : List Given) (fs : List (Option Fact)) (v : ℕ) (h : Fact)
    → MeetsFactRule vars cons gs fs → fact_at fs v ≡ Some h → IsGivenIn gs v → (i : ℕ) × (h.reason ≡ reason.Given i)
by_given vars cons gs fs v h rule at g =
    let f = rule.given g.place g.given g.there in
    let same : f.fact ≡ h = some_fact (sym f.there ∙ ap (fact_at fs) g.of_variable ∙ at) in
    (f.number, ap (λ (x : Fact). x.reason) (sym same) ∙ f.by_given)

given_level : (vars : ℕ) (cons : List Constraint) (gs : List Given) (fs : List (Option Fact)) (v : ℕ) (h : Fact)
    → MeetsFactRule vars cons gs fs → fact_at fs v ≡ Some h → IsGivenIn gs v → h.level ≡ 0
given_level vars cons gs fs v h rule at g =
    let b = by_given vars cons gs fs v h rule at g in
    (subst (λ r. StandsBy cons gs fs v h.value h.level r) b.1 (rule.stands v h at)).0

fact_within : (fs : List (Option Fact)) (v : ℕ) (h : Fact) → fact_at fs v ≡ Some h → v < length fs
fact_within fs v h at = elim (cases_lt v (length fs)) [
  | inl l ↦ l
  | inr g ↦ absurd (nothing (sym (get_or_past fs v None g) ∙ at))
] where
  nothing : None ≡ Some h → ⊥
  nothing e = cc

board_has : (fs : List (Option Fact)) (v : ℕ) (h : Fact) → fact_at fs v ≡ Some h → on_board (map seen fs) v ≡ Some h.value
board_has fs v h at = ap joined (slice_get-map seen fs v ∙ ap (option_map seen) (slice_get-get_or fs v None (fact_within fs v h at) ∙ ap Some at))

pub pair_there : (pairs : List (ℕ × ℕ)) (v : ℕ) → v < length pairs → slice_get pairs v ≡ Some ((pair_at pairs v).0, (pair_at pairs v).1)
pair_there pairs v l = slice_get-get_or pairs v (0, 0) l

pub variable_within : (case : Case) (gs : List Given) (fs : List (Option Fact)) (v : ℕ) (h : Fact)
    → MeetsFactRule case.system.vars case.system.constraints gs fs → fact_at fs v ≡ Some h → v < length case.pairs
variable_within case gs fs v h rule at =
    let a = fact_within fs v h at in let b = rule.wide in let c = case.valid.paired in omega (arith, a, b, c)

-- a chosen premise is right
pub is_premise : (case : Case) (gs : List Given) (fs : List (Option Fact)) (k v : ℕ) (p : Premise)
    → MeetsFactRule case.system.vars case.system.constraints gs fs → premise_by case.pairs fs k v ≡ Some p
    → IsPremise case gs (map seen fs) k v p
is_premise case gs fs k v p rule e =
    let f = premise_is (pair_at case.pairs v) k (fact_at fs v) p e in
    subst (λ q. IsPremise case gs (map seen fs) k v q) (sym f.is) (record {
      of_pair = pair_there case.pairs v (variable_within case gs fs v f.fact rule f.there);
      on_the_board = board_has fs v f.fact f.there;
      lower = f.lower;
      zero = (
        λ z. given_stands case.system.constraints gs fs v f.fact.value f.fact.level f.fact.reason (rule.stands v f.fact f.there) z,
        λ g. given_level case.system.vars case.system.constraints gs fs v f.fact rule f.there g,
      );
    })

-- ---- the whole reason

same_con : {a b : Constraint} → Some a ≡ Some b → a ≡ b
same_con e = cc

given_not_forced : (i c : ℕ) → reason.Given i ≡ reason.Forced c → ⊥
given_not_forced i c e = cc

-- a fact of a level below k is a premise
lower_chosen : (pairs : List (ℕ × ℕ)) (fs : List (Option Fact)) (k v : ℕ) (h : Fact) → fact_at fs v ≡ Some h → h.level < k
    → premise_by pairs fs k v ≡ None → ⊥
lower_chosen pairs fs k v h at l none = absurd (nothing (sym none ∙ ap (λ o. premise_from (pair_at pairs v) k o) at
    ∙ ap (λ b. cond b (Some p) None) (lt-ltb h.level k l)))
  where
    p : Premise
    p = record { f = (pair_at pairs v).0; g = (pair_at pairs v).1; value = h.value; level = h.level }

    nothing : None ≡ Some p → ⊥
    nothing q = cc

same_var : {a b : ℕ} → Some a ≡ Some b → a ≡ b
same_var e = cc

-- what isn't chosen has no level below k that is known
left_out : (case : Case) (gs : List Given) (before : List Entry) (fs : List (Option Fact)) (k v : ℕ) → AreSorted case.pairs → 0 < k
    → MeetsFactRule case.system.vars case.system.constraints gs fs → HaveLevels case before fs
    → premise_by case.pairs fs k v ≡ None → IsLeftOut case gs before k v
left_out case gs before fs k v sorted pos rule levels none = record {
  not_given = λ g.
      let f = rule.given g.place g.given g.there in
      let at : fact_at fs v ≡ Some f.fact = ap (fact_at fs) (sym g.of_variable) ∙ f.there in
      let z = given_level case.system.vars case.system.constraints gs fs v f.fact rule at g in
      lower_chosen case.pairs fs k v f.fact at (omega (arith, z, pos)) none;
  not_lower = λ m named of. elim (cases_lt m.level k) [
    | inl l ↦
        let i = levels m named in
        let same : i.variable ≡ v = same_var (sym i.of_pair ∙ number_there case.pairs v m.pair sorted of) in
        let e = i.level in
        absurd (lower_chosen case.pairs fs k v i.fact (ap (fact_at fs) (sym same) ∙ i.there) (omega (arith, e, l)) none)
    | inr l ↦ l
  ];
}

-- A fact by a constraint explains its variable's value on the board of its facts.
pub explained : (case : Case) (gs : List Given) (before : List Entry) (fs : List (Option Fact)) (n : ℕ) (h : Fact) (c : ℕ) (con : Constraint)
    (cite : Cite) (ps : List Premise) → AreSorted case.pairs → MeetsFactRule case.system.vars case.system.constraints gs fs
    → HaveLevels case before fs → fact_at fs n ≡ Some h → h.reason ≡ reason.Forced c → slice_get case.system.constraints c ≡ Some con
    → slice_get case.cites c ≡ Some cite
    → ps ≡ filter_map (premise_besides case.pairs fs h.level n) (map (λ t. t.var) con.terms)
    → IsWhy case gs before (map seen fs) n h.value (why.Forced h.level cite ps)
explained case gs before fs n h c con cite ps sorted rule levels at by there cited are = (
  λ g. let b = by_given case.system.vars case.system.constraints gs fs n h rule at g in given_not_forced b.0 c (sym b.1 ∙ by),
  record {
    positive = stands.0;
    number = c;
    constraint = con;
    there = there;
    cited = cited;
    chosen = premise_by case.pairs fs h.level;
    listed = are ∙ besides_others case.pairs fs h.level n (map (λ t. t.var) con.terms);
    each = λ v p e. is_premise case gs fs h.level v p rule e;
    left_out = λ v among none. left_out case gs before fs h.level v sorted stands.0 rule levels none;
    forces = forces_more con.kind con.terms (IsKnownBelow fs h.level) (AreSaying case ps) n h.value saying forced;
  },
)
  where
    stands : StandsBy case.system.constraints gs fs n h.value h.level (reason.Forced c)
    stands = subst (λ r. StandsBy case.system.constraints gs fs n h.value h.level r) by (rule.stands n h at)

    forced : Forces con.kind con.terms (IsKnownBelow fs h.level) n h.value
    forced = subst (λ (x : Constraint). Forces x.kind x.terms (IsKnownBelow fs h.level) n h.value)
        (same_con (sym stands.1.there ∙ there)) stands.1.forces

    other : (u : ℕ) (t : Order) → IsKnownBelow fs h.level u t → u ≢ n
    other u t q e =
        let same : q.fact ≡ h = some_fact (sym q.there ∙ ap (fact_at fs) e ∙ at) in
        let l : h.level < h.level = subst (λ (x : Fact). x.level < h.level) same q.lower in
        omega (arith, l)

    saying : (j : ℕ) (t : Order) → j < length con.terms → IsKnownBelow fs h.level (term_at con.terms j).var t
        → AreSaying case ps (term_at con.terms j).var t
    saying j t l q =
        let u : ℕ = (term_at con.terms j).var in
        let pair : ℕ × ℕ = pair_at case.pairs u in
        let p : Premise = record { f = pair.0; g = pair.1; value = q.fact.value; level = q.fact.level } in
        let one : premise_by case.pairs fs h.level u ≡ Some p = ap (λ o. premise_from pair h.level o) q.there
        ∙ ap (λ b. cond b (Some p) None) (lt-ltb q.fact.level h.level q.lower) in
        let two : premise_besides case.pairs fs h.level n u ≡ Some p = ap (λ b. cond b None (premise_by case.pairs fs h.level u)) (ne_eqb u n (other u t q)) ∙ one in
        record {
          premise = p;
          among = subst (λ qs. Contains qs p) (sym are) (given_in (premise_besides case.pairs fs h.level n) con.terms j p l two);
          of_pair = pair_there case.pairs u (variable_within case gs fs u q.fact rule q.there);
          value = q.value;
        }

-- the same, where constraint and cite are read at the reason's number
pub explained_at : (case : Case) (gs : List Given) (before : List Entry) (fs : List (Option Fact)) (n : ℕ) (h : Fact) (c : ℕ) (cons : List Constraint)
    (con : Constraint) (cites : List Cite) (d : Cite) (ps : List Premise) → cons ≡ case.system.constraints → cites ≡ case.cites
    → AreSorted case.pairs → MeetsFactRule case.system.vars case.system.constraints gs fs → HaveLevels case before fs → fact_at fs n ≡ Some h → h.reason ≡ reason.Forced c
    → con ≡ get_or cons c con
    → ps ≡ filter_map (premise_besides case.pairs fs h.level n) (map (λ t. t.var) con.terms)
    → IsWhy case gs before (map seen fs) n h.value (why.Forced h.level (get_or cites c d) ps)
explained_at case gs before fs n h c cons con cites d ps econs ecites sorted rule levels at by is are =
    let st : StandsBy case.system.constraints gs fs n h.value h.level (reason.Forced c) =
    subst (λ r. StandsBy case.system.constraints gs fs n h.value h.level r) by (rule.stands n h at) in
    let l : c < length case.system.constraints = slice_get_within case.system.constraints c st.1.constraint st.1.there in
    let there : slice_get case.system.constraints c ≡ Some con = slice_get-get_or case.system.constraints c con l
    ∙ ap Some (ap (λ xs. get_or xs c con) (sym econs) ∙ sym is) in
    let m = case.valid.cited in
    let cited : slice_get case.cites c ≡ Some (get_or cites c d) = slice_get-get_or case.cites c d (omega (arith, l, m))
    ∙ ap Some (ap (λ xs. get_or xs c d) (sym ecites)) in
    explained case gs before fs n h c con (get_or cites c d) ps sorted rule levels at by there cited are

-- the reply by a fact's reason
pub told_by : (case : Case) (gs : List Given) (before : List Entry) (fs : List (Option Fact)) (n : ℕ) (h : Fact) (w : Why) (o : Option ℕ) → o ≡ Some n
    → fact_at fs n ≡ Some h → IsWhy case gs before (map seen fs) n h.value w → IsWhyReplyBy case gs before fs o (reply.Because w)
told_by case gs before fs n h w o e at is = subst (λ q. IsWhyReplyBy case gs before fs q (reply.Because w)) (sym e)
    (subst (λ s. IsReason case gs before (map seen fs) n s (reply.Because w)) (sym (ap seen at)) (w, refl, is))
