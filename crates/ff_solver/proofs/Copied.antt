-- What a part's own constraints force is what the constraints that they copy force.
use Rattle.std.proofs.Common.{◌≡◌, ℕ, ◌<◌, ◌⊎◌, inl, inr, true, List, ◌∷◌, length, slice_index, slice_get, refl, sym, ap, ◌∙◌, subst, arith, Option, Some, None}
use Rattle.std.proofs.lemmas.Bool.{cases_lt, cases_order}
use Rattle.ff_tables.specs.declared.orders.Order.{Order}
use Rattle.ff_tables.specs.declared.orders.Order.TheVariants.{Below, Above}
use Rattle.ff_tables.specs.declared.terms.Constraint.{Constraint}
use Rattle.ff_tables.specs.Orders.{term_at, turn, row_at}
use Rattle.ff_tables.specs.Rows.{HasRow}
use Rattle.ff_tables.specs.Systems.{AreFit}
use Rattle.ff_tables.specs.Forces.{Agrees, Forces, Knows, NoneAgrees, Only}
use Rattle.ff_tables.proofs.Agreeing.{forces_more}
use Rattle.ff_propagate.specs.Parts.{IsPart}
use Rattle.ff_propagate.specs.Trees.{With, AtNode, IsClashNode}
use Rattle.ff_propagate.proofs.Joining.{Stands}
use Rattle.ff_propagate.proofs.Quiet.{IsQuiet, in_part, stands_contains}
use Rattle.ff_solver.specs.Paths.{AreSilent, IsAtNode}
use Rattle.ff_solver.specs.Copies.{IsCopied, AreOwn}
use Rattle.ff_solver.proofs.Nodes.{test, test_some, some_test}
use Rattle.ff_solver.proofs.Listing.{tried_or_now, tried_now, tried_before}
use Rattle.ff_solver.proofs.Touching.{stands_or_not, touches_or_not}
use Rattle.std.specs.List.{Contains}
use Rattle.ff_basics.proofs.Options.{some_none, some_or_none}

differ : {A : Type 0} {o : Option Order} → o ≡ Some Below → o ≡ Some Above → A
differ p q = cc

-- two constraints that differ in the names of their variables alone
pub record IsLike (a b : Constraint) : Type 0 where
  pub kind : b.kind ≡ a.kind
  pub as_many : length b.terms ≡ length a.terms
  pub flipped : (j : ℕ) → j < length a.terms → (term_at b.terms j).flipped ≡ (term_at a.terms j).flipped

like_copy : (part names : List ℕ) (from con : Constraint) → IsCopied part names from con → IsLike from con
like_copy part names from con is = record { kind = is.kind; as_many = is.as_many; flipped = λ j l. (is.each j l).flipped }

pub like_from : (part names : List ℕ) (from con : Constraint) → IsCopied part names from con → IsLike con from
like_from part names from con is = record {
  kind = sym is.kind;
  as_many = sym is.as_many;
  flipped = λ j l. sym (is.each j (omega (arith, l, is.as_many))).flipped;
}

-- a row that agrees with as much or more at the other agrees at the one
agrees_like : (a b : Constraint) → IsLike a b → (less more : ℕ → Order → Type 0)
    → ((j : ℕ) (t : Order) → j < length a.terms → less (term_at a.terms j).var t → more (term_at b.terms j).var t)
    → (row : List Order) → Agrees b.terms more row → Agrees a.terms less row
agrees_like a b like less more up row agrees j t l q = agrees j t (omega (arith, l, like.as_many))
    (subst (λ f. more (term_at b.terms j).var (turn f t)) (sym (like.flipped j l)) (up j (turn (term_at a.terms j).flipped t) l q))

-- where no row of the one agrees, none of the other agrees with as much or more
pub none_like : (a b : Constraint) → IsLike a b → (less more : ℕ → Order → Type 0)
    → ((j : ℕ) (t : Order) → j < length a.terms → less (term_at a.terms j).var t → more (term_at b.terms j).var t)
    → NoneAgrees a.kind a.terms less → NoneAgrees b.kind b.terms more
none_like a b like less more up none k row at agrees = none k row (subst (λ kind. HasRow kind k row) like.kind at)
    (agrees_like a b like less more up row agrees)

-- what the one forces at a place, the other forces there from as much or more
pub only_like : (a b : Constraint) → IsLike a b → (less more : ℕ → Order → Type 0)
    → ((j : ℕ) (t : Order) → j < length a.terms → less (term_at a.terms j).var t → more (term_at b.terms j).var t)
    → (p : ℕ) (s : Order) → p < length a.terms → Only a.kind a.terms less p (turn (term_at a.terms p).flipped s)
    → Only b.kind b.terms more p (turn (term_at b.terms p).flipped s)
only_like a b like less more up p s lp only k row at agrees =
    subst (λ f. row_at row p ≡ turn f s) (sym (like.flipped p lp))
    (only k row (subst (λ kind. HasRow kind k row) like.kind at) (agrees_like a b like less more up row agrees))

-- what was tried, by names and by own numbers
pub record AreSame (part : List ℕ) (tried own_tried : List (ℕ × Order)) : Type 0 where
  pub to : (v : ℕ) (s : Order) → Contains tried (v, s)
      → (p : ℕ) × (p < length part) × (slice_index part p ≡ v) × Contains own_tried (p, s)
  pub back : (p : ℕ) (s : Order) → Contains own_tried (p, s)
      → (p < length part) × Contains tried (slice_index part p, s)

pub same_more : (part : List ℕ) (tried own_tried : List (ℕ × Order)) → AreSame part tried own_tried → (v p : ℕ) (s : Order)
    → p < length part → slice_index part p ≡ v → AreSame part ((v, s) ∷ tried) ((p, s) ∷ own_tried)
same_more part tried own_tried same v p s l is = record {
  to = λ u t among. elim (tried_or_now v s tried u t among) [
    | inl now ↦ (p, l, is ∙ sym now.0, subst (λ b. Contains ((p, s) ∷ own_tried) (p, b)) (sym now.1) (tried_now p s own_tried))
    | inr before ↦ let q = same.to u t before in (q.0, q.1, q.2, tried_before p s own_tried q.0 t q.3)
  ];
  back = λ q t among. elim (tried_or_now p s own_tried q t among) [
    | inl now ↦ (
      subst (λ k. k < length part) (sym now.0) l,
      subst (λ u. Contains ((v, s) ∷ tried) (u, t)) (sym is ∙ ap (slice_index part) (sym now.0))
          (subst (λ b. Contains ((v, s) ∷ tried) (v, b)) (sym now.1) (tried_now v s tried)),
    )
    | inr before ↦ let k = same.back q t before in (k.0, tried_before v s tried (slice_index part q) t k.1)
  ];
}

abbrev at_place : (part : List ℕ) (v : ℕ) → Stands part v ⊎ (Stands part v → ⊥) → (ℕ → Option Order) → Option Order → Option Order
at_place part v (inl (i, l, e)) h o = h i
at_place part v (inr out) h o = o

module _ (vars : ℕ) (cons own : List Constraint) (fit : AreFit vars cons) (value own_value : ℕ → Option Order) (part names : List ℕ)
    (quiet : IsQuiet cons value) (is_part : IsPart vars cons value part) (are_own : AreOwn cons own value own_value part names) where
  one_place : (p q : ℕ) → p < length part → q < length part → slice_index part p ≡ slice_index part q → p ≡ q
  one_place p q lp lq e = elim (cases_order p q) [
    | inl is ↦ is
    | inr o ↦ elim o [
      | inl l ↦ (let r = is_part.rising p q l lq in absurd (omega (arith, r, e)))
      | inr l ↦ (let r = is_part.rising q p l lp in absurd (omega (arith, r, e)))
    ]
  ]

  -- the values h of the part's variables by own numbers, and else those of the board
  pub mixed : (ℕ → Option Order) → ℕ → Option Order
  mixed h v = at_place part v (stands_or_not part v) h (value v)

  pub mixed_in : (h : ℕ → Option Order) (v p : ℕ) → p < length part → slice_index part p ≡ v → mixed h v ≡ h p
  unfolding mixed
  mixed_in h v p l e = by (stands_or_not part v)
    where
      by : (d : Stands part v ⊎ (Stands part v → ⊥)) → at_place part v d h (value v) ≡ h p
      by (inl (i, m, q)) = ap h (one_place i p m l (q ∙ sym e))
      by (inr out) = absurd (out (p, l, e))

  mixed_out : (h : ℕ → Option Order) (v : ℕ) → (Stands part v → ⊥) → mixed h v ≡ value v
  unfolding mixed
  mixed_out h v out = by (stands_or_not part v)
    where
      by : (d : Stands part v ⊎ (Stands part v → ⊥)) → at_place part v d h (value v) ≡ value v
      by (inl s) = absurd (out s)
      by (inr o) = refl

  open_in : (v : ℕ) → Stands part v → value v ≡ None
  open_in v (i, l, e) = ap value (sym e) ∙ (is_part.undecided i l).open_yet

  module _ (tried own_tried : List (ℕ × Order)) (same : AreSame part tried own_tried) where
    module _ (h : ℕ → Option Order) (node : IsAtNode own own_value own_tried h) (silent : AreSilent own h) where
      based : (u : ℕ) (t : Order) → With (Knows value) tried u t → mixed h u ≡ Some t
      based u t (inl k) = elim (stands_or_not part u) [
        | inl s ↦ some_none k (open_in u s)
        | inr out ↦ mixed_out h u out ∙ k
      ]
      based u t (inr among) = let p = same.to u t among in mixed_in h u p.0 p.1 p.2 ∙ node.holds p.0 t (inr p.3)

      -- the value of a term of an own constraint that isn't of the part is the board's
      outer : (from con : Constraint) → IsCopied part names from con → (j : ℕ) → j < length from.terms → (b : Order)
          → value (term_at from.terms j).var ≡ Some b → h (term_at con.terms j).var ≡ Some b
      outer from con is j l b k = let t = is.each j l in
          node.holds (term_at con.terms j).var b (inl (are_own.are_names.values (term_at con.terms j).var t.within ∙ ap value t.name ∙ k))

      -- and that of one of the part is the part's
      inner : (from con : Constraint) → IsCopied part names from con → (j : ℕ) → j < length from.terms
          → Stands part (term_at from.terms j).var → mixed h (term_at from.terms j).var ≡ h (term_at con.terms j).var
      inner from con is j l st =
          let t = is.each j l in
          let low : (term_at con.terms j).var < length part = t.own (stands_contains part (term_at from.terms j).var st) in
          mixed_in h (term_at from.terms j).var (term_at con.terms j).var low
          (sym (are_own.are_names.front (term_at con.terms j).var low) ∙ t.name)

      known_own : (from con : Constraint) → IsCopied part names from con → (j : ℕ) (b : Order) → j < length from.terms
          → mixed h (term_at from.terms j).var ≡ Some b → h (term_at con.terms j).var ≡ Some b
      known_own from con is j b l k = elim (stands_or_not part (term_at from.terms j).var) [
        | inl st ↦ sym (inner from con is j l st) ∙ k
        | inr out ↦ outer from con is j l b (sym (mixed_out h (term_at from.terms j).var out) ∙ k)
      ]

      forced_touching : (c : ℕ) (from : Constraint) → slice_get cons c ≡ Some from → (i : ℕ) → i < length from.terms → Stands part (term_at from.terms i).var
          → (u : ℕ) (t : Order) → Forces from.kind from.terms (Knows (mixed h)) u t → mixed h u ≡ Some t
      forced_touching c from at i li st u t (p, lp, e, only) =
          let copy = are_own.all c from at i li (stands_contains part (term_at from.terms i).var st) in
          let like = like_copy part names from copy.con copy.copied in
          let now : h (term_at copy.con.terms p).var ≡ Some t = silent copy.number copy.con copy.there (term_at copy.con.terms p).var t (
            p,
            omega (arith, lp, copy.copied.as_many),
            refl,
            only_like from copy.con like (Knows (mixed h)) (Knows h)
                (λ j b l k. known_own from copy.con copy.copied j b l k) p t lp only,
          ) in
          subst (λ w. mixed h w ≡ Some t) e (elim (stands_or_not part (term_at from.terms p).var) [
            | inl s ↦ inner from copy.con copy.copied p lp s ∙ now
            | inr out ↦ elim (some_or_none (value (term_at from.terms p).var)) [
              | inr none ↦ absurd (out (in_part vars cons value part fit is_part c from at i p li lp st none))
              | inl k ↦ mixed_out h (term_at from.terms p).var out ∙ k.1 ∙ sym (outer from copy.con copy.copied p lp k.0 k.1) ∙ now
            ]
          ])

      forced_away : (c : ℕ) (from : Constraint) → slice_get cons c ≡ Some from → ((i : ℕ) → i < length from.terms → Stands part (term_at from.terms i).var → ⊥)
          → (u : ℕ) (t : Order) → Forces from.kind from.terms (Knows (mixed h)) u t → mixed h u ≡ Some t
      forced_away c from at away u t (p, lp, e, only) =
          mixed_out h u (λ s. away p lp (subst (Stands part) (sym e) s))
          ∙ quiet c from u t at (forces_more from.kind from.terms (Knows (mixed h)) (Knows value) u t
          (λ j b l k. sym (mixed_out h (term_at from.terms j).var (away j l)) ∙ k) (p, lp, e, only))

      -- what the node has of any variable
      pub node_is : (v : ℕ) (s : Order) → AtNode cons (Knows value) tried v s → mixed h v ≡ Some s
      node_is v s inside = test_some (mixed h v) s (inside (λ u t. test (mixed h u) t) (record {
        base_held = λ u t b. some_test (mixed h u) t (based u t b);
        forced_held = λ c con u t at force.
            let known = forces_more con.kind con.terms (λ y b. test (mixed h y) b ≡ true) (Knows (mixed h)) u t
            (λ j b l q. test_some (mixed h (term_at con.terms j).var) b q) force in
            some_test (mixed h u) t (elim (touches_or_not part con.terms (length con.terms)) [
              | inl i ↦ forced_touching c con at i.0 i.1 i.2 u t known
              | inr away ↦ forced_away c con at away u t known
            ]);
      }))

      pub no_clash : IsClashNode cons (Knows value) tried → ⊥
      no_clash both = differ (node_is both.variable Below both.below) (node_is both.variable Above both.above)

      -- what the node has of the part's variables the own node has
      pub node_over : (p : ℕ) (s : Order) → p < length part → AtNode cons (Knows value) tried (slice_index part p) s
          → AtNode own (Knows own_value) own_tried p s
      node_over p s l inside = node.inside p s (sym (mixed_in h (slice_index part p) p l refl) ∙ node_is (slice_index part p) s inside)

    module _ (g : ℕ → Option Order) (node : IsAtNode cons value tried g) (silent : AreSilent cons g) where
      -- the values at the node, by own numbers
      abbrev named : ℕ → Option Order
      named u = g (slice_index names u)

      own_based : (u : ℕ) (t : Order) → With (Knows own_value) own_tried u t → named u ≡ Some t
      own_based u t (inl k) = elim (cases_lt u (length names)) [
        | inl l ↦ node.holds (slice_index names u) t (inl (sym (are_own.are_names.values u l) ∙ k))
        | inr past ↦ some_none k (are_own.are_names.beyond u past)
      ]
      own_based u t (inr among) = let q = same.back u t among in
          ap g (are_own.are_names.front u q.0) ∙ node.holds (slice_index part u) t (inr q.1)

      own_forced : (c : ℕ) (con : Constraint) → slice_get own c ≡ Some con → (u : ℕ) (t : Order)
          → Forces con.kind con.terms (Knows named) u t → named u ≡ Some t
      own_forced c con at u t (p, lp, e, only) =
          let copy = (are_own.each c con at).1 in
          let lf : p < length copy.from.terms = omega (arith, lp, copy.copied.as_many) in
          let now : g (term_at copy.from.terms p).var ≡ Some t = silent (are_own.each c con at).0 copy.from copy.there (term_at copy.from.terms p).var t (
            p,
            lf,
            refl,
            only_like con copy.from (like_from part names copy.from con copy.copied) (Knows named) (Knows g)
                (λ j b l k. ap g (sym (copy.copied.each j (omega (arith, l, copy.copied.as_many))).name) ∙ k) p t lp only,
          ) in
          subst (λ w. named w ≡ Some t) e (ap g (copy.copied.each p lf).name ∙ now)

      -- what the own node has of any variable
      own_is : (u : ℕ) (s : Order) → AtNode own (Knows own_value) own_tried u s → named u ≡ Some s
      own_is u s inside = test_some (named u) s (inside (λ w t. test (named w) t) (record {
        base_held = λ w t b. some_test (named w) t (own_based w t b);
        forced_held = λ c con w t at force. some_test (named w) t (own_forced c con at w t
            (forces_more con.kind con.terms (λ y b. test (named y) b ≡ true) (Knows named) w t
            (λ j b l q. test_some (named (term_at con.terms j).var) b q) force));
      }))

      pub no_own_clash : IsClashNode own (Knows own_value) own_tried → ⊥
      no_own_clash both = differ (own_is both.variable Below both.below) (own_is both.variable Above both.above)

      -- what the own node has of the part's variables the node has
      pub node_from : (p : ℕ) (s : Order) → p < length part → AtNode own (Knows own_value) own_tried p s
          → AtNode cons (Knows value) tried (slice_index part p) s
      node_from p s l inside = node.inside (slice_index part p) s (ap g (sym (are_own.are_names.front p l)) ∙ own_is p s inside)

  -- at the root own constraints force no more
  pub own_quiet : (f : ℕ → Option Order) → ((v : ℕ) → f v ≡ own_value v) → (c : ℕ) (con : Constraint) → slice_get own c ≡ Some con
      → (u : ℕ) (t : Order) → Forces con.kind con.terms (Knows f) u t → f u ≡ Some t
  own_quiet f same c con at u t (p, lp, e, only) =
      let copy = (are_own.each c con at).1 in
      let here : (j : ℕ) → j < length copy.from.terms → f (term_at con.terms j).var ≡ value (term_at copy.from.terms j).var = λ j l.
      same (term_at con.terms j).var ∙ are_own.are_names.values (term_at con.terms j).var (copy.copied.each j l).within
      ∙ ap value (copy.copied.each j l).name in
      let lf : p < length copy.from.terms = omega (arith, lp, copy.copied.as_many) in
      let now : value (term_at copy.from.terms p).var ≡ Some t = quiet (are_own.each c con at).0 copy.from (term_at copy.from.terms p).var t copy.there (
        p,
        lf,
        refl,
        only_like con copy.from (like_from part names copy.from con copy.copied) (Knows f) (Knows value)
            (λ j b l k. sym (here j (omega (arith, l, copy.copied.as_many))) ∙ k) p t lp only,
      ) in
      subst (λ w. f w ≡ Some t) e (here p lf ∙ now)
