-- An array of what the items of a list are, item by item.
use Rattle.std.proofs.Common.{◌≡◌, ℕ, ◌+◌, ◌<◌, ◌≤◌, List, [], ◌∷◌, ◌++◌, length, map, take, get_or, Global, Vec, sym, ap, ◌∙◌}
use Rattle.std.proofs.lemmas.List.{map_more, map_push, take_all}
use Rattle.serde_json.specs.Data.{Data, array}
use Rattle.serde_json.specs.View.{items_of, view}
use Rattle.serde_json.specs.declared.value.Value.{Array, Value}
use Rattle.serde_json.proofs.Views.{view-Array}
use Rattle.ff_lined.specs.Texts.{list_data}

-- one more
pub written_more : {A : Type 0} (f : A → Data) (xs : List A) (i : ℕ) (d : A) (vs : List Value) (v : Value) → i < length xs → map view vs ≡ map f (take i xs) → view v ≡ f (get_or xs i d)
    → map view (vs ++ v ∷ []) ≡ map f (take (i + 1) xs)
written_more f xs i d vs v l e g = map_push view vs v ∙ ap (λ ds. ds ++ view v ∷ []) e ∙ ap (λ x. map f (take i xs) ++ x ∷ []) g ∙ sym (map_more f xs i d l)

-- all of them
pub written_all : {A : Type 0} (f : A → Data) (xs : List A) (i : ℕ) (v : Vec Value Global) → length xs ≤ i → map view v.items ≡ map f (take i xs) → view (Array v) ≡ list_data f xs
written_all f xs i v l e = view-Array v ∙ ap (λ ds. array (items_of ds)) (e ∙ ap (map f) (take_all i xs l))
