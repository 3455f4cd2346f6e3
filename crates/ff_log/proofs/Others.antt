-- A list of another length is no such form.
use Rattle.std.proofs.Common.{◌≡◌, ◌≢◌, ◌≤◌, ◌∙◌, ◌&&◌, ℕ, true, cond, codes, arith, refl, sym, ap, ap₂, List, [], ◌∷◌, ◌++◌, length, map, Option, None, Bor, get_or, drop}
use Rattle.std.proofs.lemmas.List.{append-nil, append_assoc}
use Rattle.std.specs.List.{flat_map, join_with_byte}
use Rattle.std.specs.Str.{bytes_eq}
use Rattle.ff_whole.specs.declared.places.Place.{Place}
use Rattle.ff_log.specs.Spelling.{place_word}
use Rattle.ff_log.specs.Reading.{spaced, place_by, place_of, force_by, transitivity_by, three_at, three_words, beside_by, face_at, face_words, cite_by, cite_words_by, line_by, line_words}

pub force_other : (xs : List (Bor (List ℕ))) → length xs ≢ 4 → None ≡ force_by (map (λ s. s.now) xs)
force_other [] h = refl
force_other (a ∷ []) h = refl
force_other (a ∷ b ∷ []) h = refl
force_other (a ∷ b ∷ c ∷ []) h = refl
force_other (a ∷ b ∷ c ∷ d ∷ []) h = absurd (h refl)
force_other (a ∷ b ∷ c ∷ d ∷ e ∷ xs) h = refl

pub place_other : (xs : List (Bor (List ℕ))) → length xs ≢ 3 → None ≡ place_by (map (λ s. s.now) xs)
place_other [] h = refl
place_other (a ∷ []) h = refl
place_other (a ∷ b ∷ []) h = refl
place_other (a ∷ b ∷ c ∷ []) h = absurd (h refl)
place_other (a ∷ b ∷ c ∷ d ∷ xs) h = refl

pub three_other : (xs : List (Bor (List ℕ))) → length xs ≢ 7 → None ≡ transitivity_by (map (λ s. s.now) xs)
three_other [] h = refl
three_other (a ∷ []) h = refl
three_other (a ∷ b ∷ []) h = refl
three_other (a ∷ b ∷ c ∷ []) h = refl
three_other (a ∷ b ∷ c ∷ d ∷ []) h = refl
three_other (a ∷ b ∷ c ∷ d ∷ e ∷ []) h = refl
three_other (a ∷ b ∷ c ∷ d ∷ e ∷ f ∷ []) h = refl
three_other (a ∷ b ∷ c ∷ d ∷ e ∷ f ∷ g ∷ []) h = absurd (h refl)
three_other (a ∷ b ∷ c ∷ d ∷ e ∷ f ∷ g ∷ k ∷ xs) h = refl

pub beside_other : (xs : List (Bor (List ℕ))) → length xs ≢ 3 → length xs ≢ 6 → None ≡ beside_by (map (λ s. s.now) xs)
beside_other [] h k = refl
beside_other (a ∷ []) h k = refl
beside_other (a ∷ b ∷ []) h k = refl
beside_other (a ∷ b ∷ c ∷ []) h k = absurd (h refl)
beside_other (a ∷ b ∷ c ∷ d ∷ []) h k = refl
beside_other (a ∷ b ∷ c ∷ d ∷ e ∷ []) h k = refl
beside_other (a ∷ b ∷ c ∷ d ∷ e ∷ f ∷ []) h k = absurd (k refl)
beside_other (a ∷ b ∷ c ∷ d ∷ e ∷ f ∷ g ∷ xs) h k = refl

pub cite_empty : (xs : List (Bor (List ℕ))) → length xs ≡ 0 → None ≡ cite_by (map (λ s. s.now) xs)
cite_empty [] h = refl
cite_empty (x ∷ xs) h = absurd (omega arith)

pub cite_more : (xs : List (Bor (List ℕ))) (d : Bor (List ℕ)) → 1 ≤ length xs → cite_by (map (λ s. s.now) xs) ≡ cite_words_by (get_or xs 0 d).now (map (λ s. s.now) (drop 1 xs))
cite_more [] d h = absurd (omega arith)
cite_more (x ∷ xs) d h = refl

pub line_empty : (xs : List (Bor (List ℕ))) → length xs ≡ 0 → None ≡ line_by (map (λ s. s.now) xs)
line_empty [] h = refl
line_empty (x ∷ xs) h = absurd (omega arith)

pub line_more : (xs : List (Bor (List ℕ))) (d : Bor (List ℕ)) → 1 ≤ length xs → line_by (map (λ s. s.now) xs) ≡ line_words (get_or xs 0 d).now (map (λ s. s.now) (drop 1 xs))
line_more [] d h = absurd (omega arith)
line_more (x ∷ xs) d h = refl

pub face_here : (e k f a p q : List ℕ) (u v : Option Place) → bytes_eq k (codes "face") ≡ true → bytes_eq a (codes "at") ≡ true → u ≡ place_of p → v ≡ place_of q
    → face_at e f u v ≡ face_words e k f a p q
face_here e k f a p q u v h g x y =
    ap₂ (face_at e f) x y ∙ sym (ap₂ (λ b c. cond (b && c) (face_at e f (place_of p) (place_of q)) None) h g)

pub three_here : (f g h a p q r : List ℕ) (u v w : Option Place) → bytes_eq a (codes "at") ≡ true → u ≡ place_of p → v ≡ place_of q → w ≡ place_of r
    → three_at f g h u v w ≡ three_words f g h a p q r
three_here f g h a p q r u v w at x y z =
    (λ i. three_at f g h (x i) (y i) (z i)) ∙ sym (ap (λ b. cond b (three_at f g h (place_of p) (place_of q) (place_of r)) None) at)

-- ---- places behind other words

alone_joined : (w : List ℕ) (at : List Place) → join_with_byte 32 (w ∷ map place_word at) ≡ w ++ flat_map spaced at
alone_joined w [] = sym (append-nil w)
alone_joined w (p ∷ at) = ap (λ (x : List ℕ). w ++ 32 ∷ x) (alone_joined (place_word p) at)

pub places_joined : (w : List ℕ) (ws : List (List ℕ)) (at : List Place) → join_with_byte 32 ((w ∷ ws) ++ map place_word at) ≡ join_with_byte 32 (w ∷ ws) ++ flat_map spaced at
places_joined w [] at = alone_joined w at
places_joined w (v ∷ vs) at = ap (λ (x : List ℕ). w ++ 32 ∷ x) (places_joined v vs at) ∙ sym (append_assoc w (32 ∷ join_with_byte 32 (v ∷ vs)) (flat_map spaced at))
