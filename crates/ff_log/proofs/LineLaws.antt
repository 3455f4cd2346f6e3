-- What lines are read from is spelled so, and what is spelled is read.
use Rattle.std.proofs.Common.{◌≡◌, ◌∙◌, ◌<◌, ◌^◌, inl, inr, ℕ, codes, true, refl, sym, ap, subst, List, [], ◌∷◌, Some}
use Rattle.std.proofs.lemmas.Slice.Eq.{bytes_eq-Decides}
use Rattle.std.proofs.lemmas.List.Splits.{join_with_byte-slice_split}
use Rattle.std.specs.Prelude.{◌==◌, option_map, option_and_then}
use Rattle.std.specs.List.{slice_split, join_with_byte}
use Rattle.std.specs.Str.{bytes_eq}
use Rattle.std.specs.Fmt.{decimal}
use Rattle.ff_tables.specs.declared.orders.Order.{Order}
use Rattle.ff_tables.specs.declared.orders.Order.TheVariants.{Below, Above}
use Rattle.ff_log.specs.declared.logs.LogLine.{LogLine}
use Rattle.ff_log.specs.declared.logs.LogLine.TheVariants as line
use Rattle.ff_log.specs.Logs.{HasSmallLine}
use Rattle.ff_log.specs.Spelling.{order_word, cite_words, words_of, spelling, IsLine}
use Rattle.ff_log.specs.Reading.{order_of, number, alone, cite_by, try_by, force_by, plain_by, line_by, line_of}
use Rattle.ff_log.proofs.NumberLemmas.{some_of_map, some_of_then}
use Rattle.ff_log.proofs.PlaceLaws.{free, split_join}
use Rattle.ff_log.proofs.CiteLaws.{again, chosen, cite_again, cite_small, cite_sound, free_cite, free_number, sound, two_again, two_sound}

order_again : (v : Order) → order_of (order_word v) ≡ Some v
order_again Above = refl
order_again Below = refl

order_sound : (v : Order) (t : List ℕ) → order_of t ≡ Some v → t ≡ order_word v
order_sound v t h = elim (chosen (bytes_eq t (codes "above")) _ _ _ h) [
  | inl e ↦ let q : Above ≡ v = let k = e.1 in cc in (bytes_eq-Decides t (codes "above")).0 e.0 ∙ ap order_word q
  | inr e ↦ elim (chosen (bytes_eq t (codes "below")) _ _ _ e.1) [
    | inl f ↦ let q : Below ≡ v = let k = f.1 in cc in (bytes_eq-Decides t (codes "below")).0 f.0 ∙ ap order_word q
    | inr f ↦ let k = f.1 in cc
  ]
]

alone_sound : (ts : List (List ℕ)) (n : ℕ) → alone ts ≡ Some n → (n < 2 ^ 32) × (ts ≡ decimal n ∷ [])
alone_sound [] n h = cc
alone_sound (e ∷ []) n h = let s = sound n e h in (s.0, ap (λ (t : List ℕ). t ∷ []) s.1)
alone_sound (e ∷ f ∷ ts) n h = cc

abbrev Reads : List (List ℕ) → LogLine → Type 0
Reads ws l = IsLine l × (ws ≡ words_of l)

try_sound : (ts : List (List ℕ)) (l : LogLine) → try_by ts ≡ Some l → Reads (codes "try" ∷ ts) l
try_sound [] l h = cc
try_sound (f ∷ []) l h = cc
try_sound (f ∷ g ∷ []) l h = cc
try_sound (f ∷ g ∷ v ∷ []) l h =
    let a = some_of_then _ (number f) l h in
    let b = some_of_then _ (number g) l a.2 in
    let o = some_of_map _ (order_of v) l b.2 in
    let s = sound a.0 f a.1 in
    let r = sound b.0 g b.1 in
    let w = order_sound o.0 v o.1 in
    (subst IsLine o.2 (s.0, r.0), (λ i. codes "try" ∷ s.1 i ∷ r.1 i ∷ w i ∷ []) ∙ ap words_of o.2)
try_sound (f ∷ g ∷ v ∷ x ∷ ts) l h = cc

force_sound : (ts : List (List ℕ)) (l : LogLine) → force_by ts ≡ Some l → Reads (codes "force" ∷ ts) l
force_sound [] l h = cc
force_sound (f ∷ []) l h = cc
force_sound (f ∷ g ∷ []) l h = cc
force_sound (f ∷ g ∷ v ∷ []) l h = cc
force_sound (f ∷ g ∷ v ∷ k ∷ []) l h =
    let a = some_of_then _ (number f) l h in
    let b = some_of_then _ (number g) l a.2 in
    let o = some_of_then _ (order_of v) l b.2 in
    let c = some_of_map _ (number k) l o.2 in
    let s = sound a.0 f a.1 in
    let r = sound b.0 g b.1 in
    let w = order_sound o.0 v o.1 in
    let q = sound c.0 k c.1 in
    (subst IsLine c.2 (s.0, r.0, q.0), (λ i. codes "force" ∷ s.1 i ∷ r.1 i ∷ w i ∷ q.1 i ∷ []) ∙ ap words_of c.2)
force_sound (f ∷ g ∷ v ∷ k ∷ x ∷ ts) l h = cc

-- the first word is this one
renamed : (w name : List ℕ) (ws : List (List ℕ)) (l : LogLine) → bytes_eq w name ≡ true → Reads (name ∷ ws) l → Reads (w ∷ ws) l
renamed w name ws l e r = (r.0, ap (λ (x : List ℕ). x ∷ ws) ((bytes_eq-Decides w name).0 e) ∙ r.1)

-- a word and a number
numbered : (make : ℕ → LogLine) (name : List ℕ) (ws : List (List ℕ)) (l : LogLine) → ((n : ℕ) → n < 2 ^ 32 → Reads (name ∷ decimal n ∷ []) (make n))
    → option_map make (alone ws) ≡ Some l → Reads (name ∷ ws) l
numbered make name ws l h e =
    let n = some_of_map make (alone ws) l e in
    let s = alone_sound ws n.0 n.1 in
    subst (Reads (name ∷ ws)) n.2 (subst (λ (xs : List (List ℕ)). Reads (name ∷ xs) (make n.0)) (sym s.1) (h n.0 s.0))

plain_sound : (w : List ℕ) (ws : List (List ℕ)) (l : LogLine) → plain_by w ws ≡ Some l → Reads (w ∷ ws) l
plain_sound w ws l h = elim (chosen (bytes_eq w (codes "crease")) _ _ _ h) [
  | inl e ↦ renamed w (codes "crease") ws l e.0 (numbered (λ n. line.Crease n) (codes "crease") ws l (λ n lt. (lt, refl)) e.1)
  | inr e ↦ elim (chosen (bytes_eq w (codes "pin")) _ _ _ e.1) [
    | inl e ↦ renamed w (codes "pin") ws l e.0 (numbered (λ n. line.Pin n) (codes "pin") ws l (λ n lt. (lt, refl)) e.1)
    | inr e ↦ elim (chosen (bytes_eq w (codes "dead")) _ _ _ e.1) [
      | inl e ↦ renamed w (codes "dead") ws l e.0 (numbered (λ n. line.Dead n) (codes "dead") ws l (λ n lt. (lt, refl)) e.1)
      | inr e ↦ elim (chosen (bytes_eq w (codes "clash")) _ _ _ e.1) [
        | inl e ↦ let t = two_sound (λ a b. line.Clash a b) ws l e.1 in
            renamed w (codes "clash") ws l e.0 (subst (Reads (codes "clash" ∷ ws)) t.5 ((t.2, t.3), ap (λ (xs : List (List ℕ)). codes "clash" ∷ xs) t.4))
        | inr e ↦ elim (chosen (bytes_eq w (codes "try")) _ _ _ e.1) [
          | inl e ↦ renamed w (codes "try") ws l e.0 (try_sound ws l e.1)
          | inr e ↦ elim (chosen (bytes_eq w (codes "force")) _ _ _ e.1) [
            | inl e ↦ renamed w (codes "force") ws l e.0 (force_sound ws l e.1)
            | inr e ↦ let k = e.1 in cc
          ]
        ]
      ]
    ]
  ]
]

line_by_sound : (ws : List (List ℕ)) (l : LogLine) → line_by ws ≡ Some l → Reads ws l
line_by_sound [] l h = cc
line_by_sound (w ∷ ws) l h = elim (chosen (bytes_eq w (codes "use")) _ _ _ h) [
  | inl e ↦
      let c = some_of_map (λ c. line.Use c) (cite_by ws) l e.1 in
      let s = cite_sound ws c.0 c.1 in
      renamed w (codes "use") ws l e.0 (subst (Reads (codes "use" ∷ ws)) c.2 (s.0, ap (λ (xs : List (List ℕ)). codes "use" ∷ xs) s.1))
  | inr e ↦ plain_sound w ws l e.1
]

-- what is read is a line, spelled so
pub line_sound : (t : List ℕ) (l : LogLine) → line_of t ≡ Some l → IsLine l × (t ≡ spelling l)
line_sound t l h =
    let s = line_by_sound (slice_split (λ b. b == 32) t) l h in
    (s.0, sym (join_with_byte-slice_split 32 t) ∙ ap (join_with_byte 32) s.1)

-- ---- the other way

by_again : (l : LogLine) → IsLine l → line_by (words_of l) ≡ Some l
by_again (line.Use c) h = ap (option_map (λ x. line.Use x)) (cite_again c h)
by_again (line.Crease e) h = ap (option_map (λ x. line.Crease x)) (again e h)
by_again (line.Pin i) h = ap (option_map (λ x. line.Pin x)) (again i h)
by_again (line.Dead k) h = ap (option_map (λ x. line.Dead x)) (again k h)
by_again (line.Clash f g) h = two_again (λ a b. line.Clash a b) f g h.0 h.1
by_again (line.Try f g v) h =
    ap (option_and_then (λ a. option_and_then (λ b. option_map (λ o. line.Try a b o) (order_of (order_word v))) (number (decimal g)))) (again f h.0)
    ∙ ap (option_and_then (λ b. option_map (λ o. line.Try f b o) (order_of (order_word v)))) (again g h.1)
    ∙ ap (option_map (λ o. line.Try f g o)) (order_again v)
by_again (line.Force f g v k) h =
    ap (option_and_then (λ a. option_and_then (λ b. option_and_then (λ o. option_map (λ c. line.Force a b o c) (number (decimal k))) (order_of (order_word v))) (number (decimal g)))) (again f h.0)
    ∙ ap (option_and_then (λ b. option_and_then (λ o. option_map (λ c. line.Force f b o c) (number (decimal k))) (order_of (order_word v)))) (again g h.1)
    ∙ ap (option_and_then (λ o. option_map (λ c. line.Force f g o c) (number (decimal k)))) (order_again v)
    ∙ ap (option_map (λ c. line.Force f g v c)) (again k h.2)

free_order : (v : Order) → free 32 (order_word v) ≡ true
free_order Above = refl
free_order Below = refl

abbrev Splits : LogLine → Type 0
Splits l = slice_split (λ b. b == 32) (spelling l) ≡ words_of l

splits : (l : LogLine) → IsLine l → Splits l
splits (line.Use c) h = split_join 32 (codes "use") (cite_words c) (refl, free_cite c h)
splits (line.Crease e) h = split_join 32 (codes "crease") (decimal e ∷ []) (refl, (free_number e h, tt))
splits (line.Pin i) h = split_join 32 (codes "pin") (decimal i ∷ []) (refl, (free_number i h, tt))
splits (line.Dead k) h = split_join 32 (codes "dead") (decimal k ∷ []) (refl, (free_number k h, tt))
splits (line.Clash f g) h = split_join 32 (codes "clash") (decimal f ∷ decimal g ∷ []) (refl, (free_number f h.0, (free_number g h.1, tt)))
splits (line.Try f g v) h = split_join 32 (codes "try") (decimal f ∷ decimal g ∷ order_word v ∷ []) (refl, (free_number f h.0, (free_number g h.1, (free_order v, tt))))
splits (line.Force f g v k) h =
    split_join 32 (codes "force") (decimal f ∷ decimal g ∷ order_word v ∷ decimal k ∷ []) (refl, (free_number f h.0, (free_number g h.1, (free_order v, (free_number k h.2, tt)))))

-- what is spelled is read
pub line_again : (l : LogLine) → IsLine l → line_of (spelling l) ≡ Some l
line_again l h = ap line_by (splits l h) ∙ by_again l h

-- a line's places have the size of places whose side may be asked
pub line_small : (l : LogLine) → IsLine l → HasSmallLine l
line_small (line.Use c) h = cite_small c h
line_small (line.Crease e) h = tt
line_small (line.Pin i) h = tt
line_small (line.Dead k) h = tt
line_small (line.Clash f g) h = tt
line_small (line.Try f g v) h = tt
line_small (line.Force f g v k) h = tt
