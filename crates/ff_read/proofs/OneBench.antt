-- Bytes come to one input of `bench` or to one refusal.
use Rattle.std.proofs.Common.{◌≡◌, ◌∙◌, ◌⊎◌, inl, inr, ℕ, ◌<◌, ◌≤◌, List, length, slice_get, Option, None, Some, arith, refl, sym, ap, subst}
use Rattle.std.proofs.lemmas.Option.{none-some, same_Some}
use Rattle.ff_basics.proofs.Numbers.{at_most_or, less_or}
use Rattle.serde_json.specs.Data.{Data}
use Rattle.ff_types.specs.declared.patterns.Pattern.{Pattern}
use Rattle.ff_types.specs.declared.refusals.Key.{Key}
use Rattle.ff_types.specs.declared.refusals.Key.TheVariants as key
use Rattle.ff_types.specs.declared.refusals.No.{No}
use Rattle.ff_types.specs.declared.refusals.No.TheVariants as no
use Rattle.ff_types.specs.declared.refusals.Refusal.{Refusal}
use Rattle.ff_types.specs.declared.refusals.Refusal.TheVariants.{BadKey, BadScript, NotJson, TooMany}
use Rattle.ff_types.specs.declared.refusals.What.TheVariants as what
use Rattle.ff_viewer.specs.declared.commands.Command.{Command}
use Rattle.ff_read.specs.declared.benches.BenchInput.{BenchInput}
use Rattle.ff_read.specs.declared.benches.TheConstants.{MOST_COMMANDS, MOST_VIEWERS}
use Rattle.ff_read.specs.Spelling.{Keys, IsKeyed, AreSpelled, Spells, all_of, object_of}
use Rattle.ff_read.specs.Refused.{IsFirstBad, IsNoFold, IsNoKey}
use Rattle.ff_read.specs.Checks.{fold_in}
use Rattle.ff_read.specs.Benches.{AreFew, IsBench, IsBenchOf, IsNoBenchOf, RefusesBench, RefusesMore, RefusesScripts, RefusesSession, RefusesUnder, RefusesViewers, command_in, commands_in, total, viewers_in}
use Rattle.ff_read.specs.Scripts.{AreFewScriptsNot}
use Rattle.ff_read.specs.Readings.{BenchIsOne}
use Rattle.ff_read.proofs.Outcomes.{all_or_first, bad_or_all, one_bad, one_out, one_value}
use Rattle.ff_read.proofs.FoldRefusals.{items_refused, key_refused, one_spelled}
use Rattle.ff_read.proofs.OneReading.{key_or_keys, keys_out, no_value, object_out, one_key, refused_out, same_keys, spelled_out}

-- ---- no two outcomes of the scripts

same_script : (vs : List (List Data)) (v w : ℕ) (b : IsFirstBad commands_in vs v) (c : IsFirstBad commands_in vs w) → v ≡ w → b.item ≡ c.item
same_script vs v w b c e = one_value (slice_get vs w) b.item c.item (subst (λ (i : ℕ). slice_get vs i ≡ Some b.item) e b.is) c.is

one_text : (vs : List (List Data)) (v i w j : ℕ) (b : IsFirstBad commands_in vs v) (c : IsFirstBad commands_in vs w) → IsFirstBad command_in b.item i → IsFirstBad command_in c.item j
    → BadScript v i ≡ BadScript w j
one_text vs v i w j b c f g =
    let same = one_bad commands_in vs v w b c (less_or v w) in
    let here = subst (λ (ds : List Data). IsFirstBad command_in ds i) (same_script vs v w b c same) f in
    let line = one_bad command_in c.item i j here g (less_or i j) in
    λ k. BadScript (same k) (line k)

one_scripts : (vs : List (List Data)) (r s : Refusal) → RefusesScripts vs r → RefusesScripts vs s → r ≡ s
one_scripts vs r s (inl g) (inl h) = g.1 ∙ sym h.1
one_scripts vs r s (inl g) (inr (inl h)) = absurd (omega (arith, g.0, h.0))
one_scripts vs r s (inl g) (inr (inr h)) = absurd (omega (arith, g.0, h.0.0))
one_scripts vs r s (inr (inl g)) (inl h) = absurd (omega (arith, g.0, h.0))
one_scripts vs r s (inr (inl g)) (inr (inl h)) = g.2 ∙ sym h.2
one_scripts vs r s (inr (inl g)) (inr (inr h)) = absurd (omega (arith, g.1, h.0.1))
one_scripts vs r s (inr (inr g)) (inl h) = absurd (omega (arith, g.0.0, h.0))
one_scripts vs r s (inr (inr g)) (inr (inl h)) = absurd (omega (arith, g.0.1, h.1))
one_scripts vs r s (inr (inr g)) (inr (inr h)) = g.1.4 ∙ one_text vs g.1.0 g.1.1 h.1.0 h.1.1 g.1.2 h.1.2 g.1.3 h.1.3 ∙ sym h.1.4

scripts_or_not : (vs : List (List Data)) (xs : List (List Command)) (r : Refusal) → AreFew vs → all_of commands_in vs ≡ Some xs → RefusesScripts vs r → ⊥
scripts_or_not vs xs r few e (inl h) = omega (arith, few.0, h.0)
scripts_or_not vs xs r few e (inr (inl h)) = omega (arith, few.1, h.1)
scripts_or_not vs xs r few e (inr (inr h)) = bad_or_all commands_in vs h.1.0 xs h.1.2 e

-- ---- there is an outcome of the scripts

Scripts : List (List Data) → Type 0
Scripts vs = (AreFew vs × ((xs : List (List Command)) × (all_of commands_in vs ≡ Some xs))) ⊎ ((r : Refusal) × RefusesScripts vs r)

bad_script : (vs : List (List Data)) (v : ℕ) (b : IsFirstBad commands_in vs v) → AreFew vs → ((xs : List Command) × (all_of command_in b.item ≡ Some xs)) ⊎ ((i : ℕ) × IsFirstBad command_in b.item i) → Scripts vs
unfolding Scripts
bad_script vs v b few (inl a) = absurd (no_value (all_of command_in b.item) a.0 b.bad a.1)
bad_script vs v b few (inr a) = inr (BadScript v a.0, inr (inr (few, (v, a.0, b, a.1, refl))))

few_scripts : (vs : List (List Data)) → AreFew vs → ((xs : List (List Command)) × (all_of commands_in vs ≡ Some xs)) ⊎ ((v : ℕ) × IsFirstBad commands_in vs v) → Scripts vs
unfolding Scripts
few_scripts vs few (inl a) = inl (few, a)
few_scripts vs few (inr a) = bad_script vs a.0 a.1 few (all_or_first command_in a.1.item)

few_viewers : (vs : List (List Data)) → length vs ≤ MOST_VIEWERS → (total vs ≤ MOST_COMMANDS) ⊎ (MOST_COMMANDS < total vs) → Scripts vs
unfolding Scripts
few_viewers vs few (inl l) = few_scripts vs (few, l) (all_or_first commands_in vs)
few_viewers vs few (inr l) = inr (TooMany what.Commands MOST_COMMANDS, inr (inl (few, l, refl)))

any_scripts : (vs : List (List Data)) → (length vs ≤ MOST_VIEWERS) ⊎ (MOST_VIEWERS < length vs) → Scripts vs
unfolding Scripts
any_scripts vs (inl l) = few_viewers vs l (at_most_or (total vs) MOST_COMMANDS)
any_scripts vs (inr l) = inr (TooMany what.Viewers MOST_VIEWERS, inl (l, refl))

-- ---- no two refusals

one_more : (k : Keys) (vs : List (List Data)) (r s : Refusal) → RefusesMore k vs r → RefusesMore k vs s → r ≡ s
one_more k vs r s (inl g) (inl h) = same_Some r s (one_out k (Some r) (Some s) (refused_out k r g) (refused_out k s h))
one_more k vs r s (inl g) (inr h) = absurd (none-some r (one_out k None (Some r) (spelled_out k h.0 h.1) (refused_out k r g)))
one_more k vs r s (inr g) (inl h) = absurd (none-some s (one_out k None (Some s) (spelled_out k g.0 g.1) (refused_out k s h)))
one_more k vs r s (inr g) (inr h) = one_scripts vs r s g.2 h.2

one_viewers : (d : Data) (k : Keys) (r s : Refusal) → RefusesViewers d k r → RefusesViewers d k s → r ≡ s
one_viewers d k r s (inl g) (inl h) = g.1 ∙ sym h.1
one_viewers d k r s (inl g) (inr h) = absurd (no_value (viewers_in d) h.0 g.0 h.1)
one_viewers d k r s (inr g) (inl h) = absurd (no_value (viewers_in d) g.0 h.0 g.1)
one_viewers d k r s (inr g) (inr h) = one_more k h.0 r s (subst (λ (vs : List (List Data)). RefusesMore k vs r) (one_value (viewers_in d) g.0 h.0 g.1 h.1) g.2) h.2

one_under : (d fold : Data) (r s : Refusal) → RefusesUnder d fold r → RefusesUnder d fold s → r ≡ s
one_under d fold r s (inl g) (inl h) = g.2 ∙ ap (λ (k : Key). BadKey k) (one_key fold g.0 h.0 g.1 h.1) ∙ sym h.2
one_under d fold r s (inl g) (inr h) = absurd (key_or_keys fold g.0 h.0 g.1 h.1)
one_under d fold r s (inr g) (inl h) = absurd (key_or_keys fold h.0 g.0 h.1 g.1)
one_under d fold r s (inr g) (inr h) = one_viewers d h.0 r s (subst (λ (k : Keys). RefusesViewers d k r) (same_keys fold g.0 h.0 g.1 h.1) g.2) h.2

one_bench : (d : Data) (r s : Refusal) → RefusesBench d r → RefusesBench d s → r ≡ s
one_bench d r s (inl g) (inl h) = g.1 ∙ sym h.1
one_bench d r s (inl g) (inr h) = absurd (no_value (fold_in d) h.0 g.0 h.1)
one_bench d r s (inr g) (inl h) = absurd (no_value (fold_in d) g.0 h.0 g.1)
one_bench d r s (inr g) (inr h) = one_under d h.0 r s (subst (λ (fold : Data). RefusesUnder d fold r) (one_value (fold_in d) g.0 h.0 g.1 h.1) g.2) h.2

one_session : (bytes : List ℕ) (r s : Refusal) → RefusesSession bytes r → RefusesSession bytes s → r ≡ s
one_session bytes r s (inl g) (inl h) = g.1 ∙ sym h.1
one_session bytes r s (inl g) (inr h) = absurd (no_value (object_of bytes) h.0 g.0 h.1)
one_session bytes r s (inr g) (inl h) = absurd (no_value (object_of bytes) g.0 h.0 g.1)
one_session bytes r s (inr g) (inr h) = one_bench h.0 r s (subst (λ (d : Data). RefusesBench d r) (one_value (object_of bytes) g.0 h.0 g.1 h.1) g.2) h.2

-- ---- no input and a refusal

not_more : (d : Data) (a : BenchInput) (h : IsBenchOf d a) (r : Refusal) → RefusesMore h.keys h.viewers r → ⊥
not_more d a h r (inl g) = none-some r (one_out h.keys None (Some r) (spelled_out h.keys a.pattern h.spelled) (refused_out h.keys r g))
not_more d a h r (inr g) = scripts_or_not h.viewers a.scripts r h.few h.scripts g.2

not_viewers : (d : Data) (a : BenchInput) (h : IsBenchOf d a) (r : Refusal) → RefusesViewers d h.keys r → ⊥
not_viewers d a h r (inl g) = no_value (viewers_in d) h.viewers g.0 h.are_viewers
not_viewers d a h r (inr g) = not_more d a h r (subst (λ (vs : List (List Data)). RefusesMore h.keys vs r) (one_value (viewers_in d) g.0 h.viewers g.1 h.are_viewers) g.2)

not_under : (d : Data) (a : BenchInput) (h : IsBenchOf d a) (r : Refusal) → RefusesUnder d h.fold r → ⊥
not_under d a h r (inl g) = key_or_keys h.fold g.0 h.keys g.1 h.keyed
not_under d a h r (inr g) = not_viewers d a h r (subst (λ (k : Keys). RefusesViewers d k r) (same_keys h.fold g.0 h.keys g.1 h.keyed) g.2)

not_bench : (d : Data) (a : BenchInput) (h : IsBenchOf d a) (r : Refusal) → RefusesBench d r → ⊥
not_bench d a h r (inl g) = no_value (fold_in d) h.fold g.0 h.there
not_bench d a h r (inr g) = not_under d a h r (subst (λ (fold : Data). RefusesUnder d fold r) (one_value (fold_in d) g.0 h.fold g.1 h.there) g.2)

not_session : (bytes : List ℕ) (a : BenchInput) (h : IsBench bytes a) (r : Refusal) → RefusesSession bytes r → ⊥
not_session bytes a h r (inl g) = no_value (object_of bytes) h.object g.0 h.read
not_session bytes a h r (inr g) = not_bench h.object a h.is r (subst (λ (d : Data). RefusesBench d r) (one_value (object_of bytes) g.0 h.object g.1 h.read) g.2)

-- ---- why a call gave nothing is why there is no input

pub no_key : (d fold : Data) → fold_in d ≡ Some fold → (n : No) → IsNoKey fold n → IsNoBenchOf d n
no_key d fold f n h = let r = key_refused fold n h in subst (IsNoBenchOf d) (sym r.2) (inr (fold, f, inl (r.0, r.1, refl)))

pub no_viewers : (d fold : Data) (n : No) → fold_in d ≡ Some fold → ((keys : Keys) × IsKeyed fold keys) → viewers_in d ≡ None → n ≡ no.Refused (BadKey key.Viewers) → IsNoBenchOf d n
no_viewers d fold n f k g e = subst (IsNoBenchOf d) (sym e) (inr (fold, f, inr (k.0, k.1, inl (g, refl))))

pub no_fold : (d fold : Data) (k : Keys) (vs : List (List Data)) → fold_in d ≡ Some fold → IsKeyed fold k → viewers_in d ≡ Some vs → (n : No) → IsNoFold fold n → IsNoBenchOf d n
no_fold d fold k vs f keyed g (no.Refused r) h = inr (fold, f, inr (k, keyed, inr (vs, g, inl (items_refused fold k keyed r h))))
no_fold d fold k vs f keyed g no.NoMemory h = tt

pub no_scripts : (d fold : Data) (vs : List (List Data)) (p : Pattern) → fold_in d ≡ Some fold → viewers_in d ≡ Some vs → Spells fold p → (n : No) → AreFewScriptsNot vs n → IsNoBenchOf d n
no_scripts d fold vs p f g s (no.Refused r) h = inr (fold, f, inr (s.keys, s.keyed, inr (vs, g, inr (p, s.spelled, h))))
no_scripts d fold vs p f g s no.NoMemory h = tt

-- ---- an input or a refusal

module _ (d : Data) (none : (a : BenchInput) → IsBenchOf d a → ⊥) (refused : (r : Refusal) → RefusesBench d r → ⊥) where
  with_scripts : (fold : Data) (k : Keys) (vs : List (List Data)) (p : Pattern) → fold_in d ≡ Some fold → IsKeyed fold k → viewers_in d ≡ Some vs → AreSpelled k p → Scripts vs → ⊥
  unfolding Scripts
  with_scripts fold k vs p f keyed g s (inl a) =
      none (record { pattern = p; scripts = a.1.0 })
      (record { fold = fold; there = f; keys = k; keyed = keyed; viewers = vs; are_viewers = g; spelled = s; few = a.0; scripts = a.1.1 })
  with_scripts fold k vs p f keyed g s (inr a) = refused a.0 (inr (fold, f, inr (k, keyed, inr (vs, g, inr (p, s, a.1)))))

  with_items : (fold : Data) (k : Keys) (vs : List (List Data)) → fold_in d ≡ Some fold → IsKeyed fold k → viewers_in d ≡ Some vs → ⊥
  with_items fold k vs f keyed g =
      object_out fold
      (λ p s. with_scripts fold k vs p f keyed g (subst (λ (x : Keys). AreSpelled x p) (same_keys fold s.keys k s.keyed keyed) s.spelled) (any_scripts vs (at_most_or (length vs) MOST_VIEWERS)))
      (λ r h. refused r (inr (fold, f, inr (k, keyed, inr (vs, g, inl (items_refused fold k keyed r h))))))

  with_viewers : (fold : Data) (k : Keys) (o : Option (List (List Data))) → fold_in d ≡ Some fold → IsKeyed fold k → viewers_in d ≡ o → ⊥
  with_viewers fold k None f keyed g = refused (BadKey key.Viewers) (inr (fold, f, inr (k, keyed, inl (g, refl))))
  with_viewers fold k (Some vs) f keyed g = with_items fold k vs f keyed g

  with_fold : (o : Option Data) → fold_in d ≡ o → ⊥
  with_fold None f = refused (BadKey key.Fold) (inl (f, refl))
  with_fold (Some fold) f = keys_out fold (λ k h. refused (BadKey k) (inr (fold, f, inl (k, h, refl)))) (λ k h. with_viewers fold k (viewers_in d) f h refl)

some_session : (bytes : List ℕ) (o : Option Data) → object_of bytes ≡ o → ((a : BenchInput) → IsBench bytes a → ⊥) → ((r : Refusal) → RefusesSession bytes r → ⊥) → ⊥
some_session bytes None e none refused = refused NotJson (inl (e, refl))
some_session bytes (Some d) e none refused =
    with_fold d (λ a h. none a (record { object = d; read = e; is = h })) (λ r h. refused r (inr (d, e, h))) (fold_in d) refl

-- ---- one input

same_object : (bytes : List ℕ) (a b : BenchInput) (g : IsBench bytes a) (h : IsBench bytes b) → IsBenchOf h.object a
same_object bytes a b g h = subst (λ (d : Data). IsBenchOf d a) (one_value (object_of bytes) g.object h.object g.read h.read) g.is

same_scripts : (d : Data) (a b : BenchInput) → IsBenchOf d a → IsBenchOf d b → a.scripts ≡ b.scripts
same_scripts d a b g h =
    let viewers = one_value (viewers_in d) g.viewers h.viewers g.are_viewers h.are_viewers in
    one_value (all_of commands_in h.viewers) a.scripts b.scripts (subst (λ (vs : List (List Data)). all_of commands_in vs ≡ Some a.scripts) viewers g.scripts) h.scripts

same_pattern : (d : Data) (a b : BenchInput) → IsBenchOf d a → IsBenchOf d b
    → (a.pattern.points ≡ b.pattern.points) × (a.pattern.edges ≡ b.pattern.edges) × (a.pattern.marks ≡ b.pattern.marks)
same_pattern d a b g h =
    let fold = one_value (fold_in d) g.fold h.fold g.there h.there in
    let keyed = subst (λ (x : Data). IsKeyed x g.keys) fold g.keyed in
    one_spelled h.keys a.pattern b.pattern (subst (λ (k : Keys). AreSpelled k a.pattern) (same_keys h.fold g.keys h.keys keyed h.keyed) g.spelled) h.spelled

pub bench_is_one : BenchIsOne
bench_is_one = record {
  pattern = λ bytes a b g h. same_pattern h.object a b (same_object bytes a b g h) h.is;
  scripts = λ bytes a b g h. same_scripts h.object a b (same_object bytes a b g h) h.is;
  refusal = λ bytes r s g h. one_session bytes r s g h;
  not_both = λ bytes a r g h. not_session bytes a g r h;
  some = λ bytes none refused. some_session bytes (object_of bytes) refl none refused;
}
