-- An array that bytes spell has fewer items than there are bytes.
use Rattle.std.proofs.Common.{◌≡◌, ℕ, zero, suc, ◌+◌, ◌<◌, ◌≤◌, ◌^◌, nat_le, if◌then◌else◌, codes, List, [], ◌∷◌, length, Bool, true, false, Option, None, Some, option_map, option_and_then, slice_get, arith, refl, sym, subst}
use Rattle.std.specs.List.{list_all}
use Rattle.std.specs.Option.{is_some}
use Rattle.std.specs.Ordering.{nat_cmp, match_ordering}
use Rattle.std.specs.Str.{is_utf8}
use Rattle.std.specs.Cmp.Lexicographic.{slice_cmp}
use Rattle.std.specs.declared.cmp.Ordering.{Ordering}
use Rattle.std.specs.declared.cmp.Ordering.TheVariants.{Less, Equal, Greater}
use Rattle.std.proofs.lemmas.Option.{none-some, same_Some}
use Rattle.json.specs.Token.{Token}
use Rattle.json.specs.Lex.{Lexeme, token, comma, colon, Class, quote, backslash, operator, space, other, Mode, between, in_word, in_string, in_escape, class, lex_byte, lex, Place, fresh, after_value, after_comma, after_key, begins_colon, may_begin, may_close, if_allowed, place_token, punctuate, tokens}
use Rattle.json.specs.Json as json
use Rattle.serde_json.specs.Data.{Num, Data, null, boolean, number, string, array, object, Items, no_items, item, Members, no_members, member, put}
use Rattle.serde_json.specs.Find.{get, get_member, as_object, as_str}
use Rattle.serde_json.specs.Read.{of_json, of_items, of_members, number_of, read, max_depth}
use Rattle.ff_read.specs.Read.{HasFewItems}
use Rattle.ff_read.specs.Benches.{HasFewScripts, HaveFew, only_texts, script_in, scripts_in}
use Rattle.ff_read.specs.Checks.{HasFewMembers}
use Rattle.ff_read.specs.Spelling.{all_of, listed, list_of, only_object, json_of, object_of}
use Rattle.ff_read.proofs.Outcomes.{head_and_rest}

-- ---- tokens

lex_byte_le : (m : Mode) (c : Class) (x : ℕ) (xs : List ℕ) (k : Mode → List Lexeme) (n : ℕ) → ((q : Mode) → length (k q) ≤ n) → length (lex_byte m c x xs k) ≤ suc n
lex_byte_le between quote x xs k n h = omega (arith, h in_string)
lex_byte_le between backslash x xs k n h = omega (arith, h in_word)
lex_byte_le between operator x xs k n h = omega (arith, h between)
lex_byte_le between space x xs k n h = omega (arith, h between)
lex_byte_le between other x xs k n h = omega (arith, h in_word)
lex_byte_le in_word quote x xs k n h = omega (arith, h in_word)
lex_byte_le in_word backslash x xs k n h = omega (arith, h in_word)
lex_byte_le in_word operator x xs k n h = omega (arith, h between)
lex_byte_le in_word space x xs k n h = omega (arith, h between)
lex_byte_le in_word other x xs k n h = omega (arith, h in_word)
lex_byte_le in_string quote x xs k n h = omega (arith, h between)
lex_byte_le in_string backslash x xs k n h = omega (arith, h in_escape)
lex_byte_le in_string operator x xs k n h = omega (arith, h in_string)
lex_byte_le in_string space x xs k n h = omega (arith, h in_string)
lex_byte_le in_string other x xs k n h = omega (arith, h in_string)
lex_byte_le in_escape c x xs k n h = omega (arith, h in_string)

lex_le : (m : Mode) (xs : List ℕ) → length (lex m xs) ≤ length xs
unfolding lex
lex_le m [] = omega arith
lex_le m (x ∷ xs) = lex_byte_le m (class x) x xs (λ next. lex next xs) (length xs) (λ q. lex_le q xs)

allowed_le : (b : Bool) (t : Token) (k : Place → List Token) (q : Place) (n : ℕ) → length (k q) ≤ n → length (if_allowed b t k q) ≤ suc n
allowed_le true t k q n h = omega (arith, h)
allowed_le false t k q n h = omega arith

place_le : (p : Place) (t : Token) (b : Bool) (k : Place → List Token) (n : ℕ) → ((q : Place) → length (k q) ≤ n) → length (place_token p t b k) ≤ suc n
place_le p Token.begin_object b k n h = allowed_le (may_begin p) Token.begin_object k fresh n (h fresh)
place_le p Token.end_object b k n h = allowed_le (may_close p) Token.end_object k after_value n (h after_value)
place_le p Token.begin_array b k n h = allowed_le (may_begin p) Token.begin_array k fresh n (h fresh)
place_le p Token.end_array b k n h = allowed_le (may_close p) Token.end_array k after_value n (h after_value)
place_le p (Token.key s) b k n h = omega arith
place_le p (Token.string s) true k n h = allowed_le (may_begin p) (Token.key s) k after_key n (h after_key)
place_le p (Token.string s) false k n h = allowed_le (may_begin p) (Token.string s) k after_value n (h after_value)
place_le p (Token.number s) b k n h = allowed_le (may_begin p) (Token.number s) k after_value n (h after_value)
place_le p (Token.boolean c) b k n h = allowed_le (may_begin p) (Token.boolean c) k after_value n (h after_value)
place_le p Token.null b k n h = allowed_le (may_begin p) Token.null k after_value n (h after_value)
place_le p Token.bad b k n h = omega arith

punctuate_le : (p : Place) (ls : List Lexeme) → length (punctuate p ls) ≤ suc (length ls)
unfolding punctuate
punctuate_le fresh [] = omega arith
punctuate_le after_value [] = omega arith
punctuate_le after_comma [] = omega arith
punctuate_le after_key [] = omega arith
punctuate_le p (token t ∷ ls) = place_le p t (begins_colon ls) (λ next. punctuate next ls) (suc (length ls)) (λ q. punctuate_le q ls)
punctuate_le fresh (comma ∷ ls) = omega arith
punctuate_le after_value (comma ∷ ls) = omega (arith, punctuate_le after_comma ls)
punctuate_le after_comma (comma ∷ ls) = omega arith
punctuate_le after_key (comma ∷ ls) = omega arith
punctuate_le fresh (colon ∷ ls) = omega arith
punctuate_le after_value (colon ∷ ls) = omega arith
punctuate_le after_comma (colon ∷ ls) = omega arith
punctuate_le after_key (colon ∷ ls) = omega (arith, punctuate_le fresh ls)

tokens_le : (bytes : List ℕ) → length (tokens bytes) ≤ length bytes + 1
tokens_le bytes = omega (arith, punctuate_le fresh (lex between bytes), lex_le between bytes)

-- ---- what tokens are: no value is larger than the tokens that it takes

abbrev mutual
  pub size : json.Json → ℕ
  size json.null = 1
  size (json.boolean b) = 1
  size (json.number s) = 1
  size (json.string s) = 1
  size (json.array js) = suc (items_size js)
  size (json.object ms) = suc (members_size ms)

  pub items_size : json.Items → ℕ
  items_size json.no_items = 0
  items_size (json.item j js) = size j + items_size js

  pub members_size : json.Members → ℕ
  members_size json.no_members = 0
  members_size (json.member k j ms) = size j + members_size ms

-- what is read, with what is left, is no larger than what there was
abbrev Within : {A : Type 0} → (A → ℕ) → List Token → Option (A × List Token) → Type 0
Within f ts None = Unit {0}
Within f ts (Some p) = f p.0 + length p.1 ≤ length ts

-- what is left after a bracket or a key
abbrev Shorter : {A : Type 0} → List Token → Option (A × List Token) → Type 0
Shorter ts None = Unit {0}
Shorter ts (Some p) = length p.1 < length ts

mapped_within : {A B : Type 0} (f : A → ℕ) (g : B → ℕ) (h : A → B) (ts us : List Token) (r : Option (A × List Token)) → ((a : A) → g (h a) ≤ suc (f a)) → length us ≡ suc (length ts) → Within f ts r
    → Within g us (json.parse_map h r)
mapped_within f g h ts us None le l w = tt
mapped_within f g h ts us (Some p) le l w = omega (arith, le p.0, l, w)

rest_within : {A B C : Type 0} (f : A → ℕ) (g : B → ℕ) (e : C → ℕ) (h : B → C) (a : A) (ts us : List Token) (o : Option (B × List Token)) → ((b : B) → e (h b) ≤ f a + g b) → f a + length us ≤ length ts → Within g us o
    → Within e ts (json.parse_map h o)
rest_within f g e h a ts us None le l v = tt
rest_within f g e h a ts us (Some q) le l v = omega (arith, le q.0, l, v)

-- one piece, and then the rest
then_within : {A B C : Type 0} (f : A → ℕ) (g : B → ℕ) (e : C → ℕ) (h : A → B → C) (ts : List Token) (r : Option (A × List Token)) (more : json.Parse B) → ((a : A) (b : B) → e (h a b) ≤ f a + g b)
    → ((us : List Token) → Within g us (more us)) → Within f ts r → Within e ts (option_and_then (λ p. json.parse_map (h p.0) (more p.1)) r)
then_within f g e h ts None more le m w = tt
then_within f g e h ts (Some p) more le m w = rest_within f g e (h p.0) p.0 ts p.1 (more p.1) (λ b. le p.0 b) w (m p.1)

ended : (ts : List Token) → Shorter ts (option_map (λ rest. (tt {0}, rest)) (json.after_end_array ts))
ended [] = tt
ended (Token.begin_object ∷ ts) = tt
ended (Token.end_object ∷ ts) = tt
ended (Token.begin_array ∷ ts) = tt
ended (Token.end_array ∷ ts) = omega arith
ended (Token.key s ∷ ts) = tt
ended (Token.string s ∷ ts) = tt
ended (Token.number s ∷ ts) = tt
ended (Token.boolean b ∷ ts) = tt
ended (Token.null ∷ ts) = tt
ended (Token.bad ∷ ts) = tt

keyed : (ts : List Token) → Shorter ts (json.read_key ts)
keyed [] = tt
keyed (Token.begin_object ∷ ts) = tt
keyed (Token.end_object ∷ ts) = omega arith
keyed (Token.begin_array ∷ ts) = tt
keyed (Token.end_array ∷ ts) = tt
keyed (Token.key s ∷ ts) = omega arith
keyed (Token.string s ∷ ts) = tt
keyed (Token.number s ∷ ts) = tt
keyed (Token.boolean b ∷ ts) = tt
keyed (Token.null ∷ ts) = tt
keyed (Token.bad ∷ ts) = tt

abbrev Reads : json.Parse json.Json → Type 0
Reads parse = (ts : List Token) → Within size ts (parse ts)

items_step_within : (parse : json.Parse json.Json) (more : json.Parse json.Items) (ts : List Token) (o : Option (List Token)) → Reads parse → ((us : List Token) → Within items_size us (more us))
    → Shorter ts (option_map (λ rest. (tt {0}, rest)) o) → Within items_size ts (json.items_step parse more ts o)
items_step_within parse more ts (Some rest) h m s = omega (arith, s)
items_step_within parse more ts None h m s = then_within size items_size items_size json.item ts (parse ts) more (λ j js. omega arith) m (h ts)

items_within : (parse : json.Parse json.Json) → Reads parse → (n : ℕ) (ts : List Token) → Within items_size ts (json.items parse n ts)
unfolding json.items
items_within parse h zero ts = tt
items_within parse h (suc n) ts = items_step_within parse (json.items parse n) ts (json.after_end_array ts) h (λ us. items_within parse h n us) (ended ts)

longer : {A : Type 0} (f : A → ℕ) (ts us : List Token) (r : Option (A × List Token)) → length us < length ts → Within f us r → Within f ts r
longer f ts us None l w = tt
longer f ts us (Some p) l w = omega (arith, l, w)

members_step_within : (parse : json.Parse json.Json) (more : json.Parse json.Members) (k : Option (List ℕ)) (ts : List Token) → Reads parse → ((us : List Token) → Within members_size us (more us))
    → Within members_size ts (json.members_step parse more k ts)
members_step_within parse more None ts h m = omega arith
members_step_within parse more (Some k) ts h m = then_within size members_size members_size (json.member k) ts (parse ts) more (λ j js. omega arith) m (h ts)

after_key_within : (parse : json.Parse json.Json) (more : json.Parse json.Members) (ts : List Token) (r : Option (Option (List ℕ) × List Token)) → Reads parse → ((us : List Token) → Within members_size us (more us)) → Shorter ts r
    → Within members_size ts (option_and_then (λ p. json.members_step parse more p.0 p.1) r)
after_key_within parse more ts None h m s = tt
after_key_within parse more ts (Some p) h m s = longer members_size ts p.1 (json.members_step parse more p.0 p.1) s (members_step_within parse more p.0 p.1 h m)

members_within : (parse : json.Parse json.Json) → Reads parse → (n : ℕ) (ts : List Token) → Within members_size ts (json.members parse n ts)
unfolding json.members
members_within parse h zero ts = tt
members_within parse h (suc n) ts = after_key_within parse (json.members parse n) ts (json.read_key ts) h (λ us. members_within parse h n us) (keyed ts)

value_with_within : (a : json.Parse json.Items) (o : json.Parse json.Members) → ((ts : List Token) → Within items_size ts (a ts)) → ((ts : List Token) → Within members_size ts (o ts)) → Reads (json.value_with a o)
value_with_within a o h m [] = tt
value_with_within a o h m (Token.begin_object ∷ ts) = mapped_within members_size size json.object ts (Token.begin_object ∷ ts) (o ts) (λ ms. omega arith) refl (m ts)
value_with_within a o h m (Token.end_object ∷ ts) = tt
value_with_within a o h m (Token.begin_array ∷ ts) = mapped_within items_size size json.array ts (Token.begin_array ∷ ts) (a ts) (λ js. omega arith) refl (h ts)
value_with_within a o h m (Token.end_array ∷ ts) = tt
value_with_within a o h m (Token.key s ∷ ts) = tt
value_with_within a o h m (Token.string s ∷ ts) = omega arith
value_with_within a o h m (Token.number s ∷ ts) = omega arith
value_with_within a o h m (Token.boolean b ∷ ts) = omega arith
value_with_within a o h m (Token.null ∷ ts) = omega arith
value_with_within a o h m (Token.bad ∷ ts) = tt

value_within : (depth : ℕ) → Reads (json.value depth)
unfolding json.value
value_within zero = value_with_within (λ ts. None) (λ ts. None) (λ ts. tt) (λ ts. tt)
value_within (suc depth) = value_with_within (λ ts. json.items (json.value depth) (length ts) ts) (λ ts. json.members (json.value depth) (length ts) ts) (λ ts. items_within (json.value depth) (value_within depth) (length ts) ts) (λ ts. members_within (json.value depth) (value_within depth) (length ts) ts)

-- ---- what a value is: no larger than its text

abbrev mutual
  pub weight : Data → ℕ
  weight null = 1
  weight (boolean b) = 1
  weight (number n) = 1
  weight (string s) = 1
  weight (array ds) = suc (items_weight ds)
  weight (object ms) = suc (members_weight ms)

  pub items_weight : Items → ℕ
  items_weight no_items = 0
  items_weight (item d ds) = weight d + items_weight ds

  pub members_weight : Members → ℕ
  members_weight no_members = 0
  members_weight (member k d ms) = weight d + members_weight ms

abbrev AtMost : {A : Type 0} → (A → ℕ) → ℕ → Option A → Type 0
AtMost f n None = Unit {0}
AtMost f n (Some a) = f a ≤ n

put_at : (k l : List ℕ) (d e : Data) (ms more : Members) (o : Ordering) → members_weight more ≤ weight d + members_weight ms
    → members_weight (match_ordering o (member k d (member l e ms)) (member l d ms) (member l e more)) ≤ weight d + (weight e + members_weight ms)
put_at k l d e ms more Less h = omega (arith, h)
put_at k l d e ms more Equal h = omega (arith, h)
put_at k l d e ms more Greater h = omega (arith, h)

put_le : (k : List ℕ) (d : Data) (ms : Members) → members_weight (put k d ms) ≤ weight d + members_weight ms
put_le k d no_members = omega arith
put_le k d (member l e ms) = put_at k l d e ms (put k d ms) (slice_cmp nat_cmp k l) (put_le k d ms)

item_most : (m n : ℕ) (d : Data) (o : Option Items) → weight d ≤ m → AtMost items_weight n o → AtMost items_weight (m + n) (option_map (item d) o)
item_most m n d None l h = tt
item_most m n d (Some ds) l h = omega (arith, l, h)

items_most : (m n : ℕ) (d : Option Data) (o : Option Items) → AtMost weight m d → AtMost items_weight n o → AtMost items_weight (m + n) (option_and_then (λ e. option_map (item e) o) d)
items_most m n None o l h = tt
items_most m n (Some d) o l h = item_most m n d o l h

mapped_most : {A B : Type 0} (f : A → ℕ) (g : B → ℕ) (h : A → B) (m n : ℕ) (o : Option A) → ((a : A) → g (h a) ≡ suc (f a)) → AtMost f m o → suc m ≤ n → AtMost g n (option_map h o)
mapped_most f g h m n None e l le = tt
mapped_most f g h m n (Some a) e l le = omega (arith, e a, l, le)

number_most : (o : Option Num) → AtMost weight 1 (option_map number o)
number_most None = tt
number_most (Some n) = omega arith

looser : {A : Type 0} (f : A → ℕ) (m n : ℕ) (o : Option A) → m ≤ n → AtMost f m o → AtMost f n o
looser f m n None l h = tt
looser f m n (Some a) l h = omega (arith, l, h)

then_put : (m n : ℕ) (d : Option Data) (go : Data → Option Members) → AtMost weight m d → ((e : Data) → AtMost members_weight (weight e + n) (go e)) → AtMost members_weight (m + n) (option_and_then go d)
then_put m n None go l h = tt
then_put m n (Some d) go l h = looser members_weight (weight d + n) (m + n) (go d) (omega (arith, l)) (h d)

one_put : (k : List ℕ) (d : Data) (ms : json.Members) (found : Members) → AtMost members_weight (members_size ms + members_weight (put k d found)) (of_members ms (put k d found))
    → AtMost members_weight (weight d + (members_size ms + members_weight found)) (of_members ms (put k d found))
one_put k d ms found h = looser members_weight (members_size ms + members_weight (put k d found)) (weight d + (members_size ms + members_weight found)) (of_members ms (put k d found)) (omega (arith, put_le k d found)) h

mutual
  of_json_most : (j : json.Json) → AtMost weight (size j) (of_json j)
  of_json_most json.null = omega arith
  of_json_most (json.boolean b) = omega arith
  of_json_most (json.number s) = number_most (number_of s)
  of_json_most (json.string s) = omega arith
  of_json_most (json.array js) = mapped_most items_weight weight array (items_size js) (suc (items_size js)) (of_items js) (λ ds. refl) (of_items_most js) (omega arith)
  of_json_most (json.object ms) =
      mapped_most members_weight weight object (members_size ms + 0) (suc (members_size ms)) (of_members ms no_members) (λ ds. refl) (of_members_most ms no_members) (omega arith)

  of_items_most : (js : json.Items) → AtMost items_weight (items_size js) (of_items js)
  of_items_most json.no_items = omega arith
  of_items_most (json.item j js) = items_most (size j) (items_size js) (of_json j) (of_items js) (of_json_most j) (of_items_most js)

  of_members_most : (ms : json.Members) (found : Members) → AtMost members_weight (members_size ms + members_weight found) (of_members ms found)
  of_members_most json.no_members found = omega arith
  of_members_most (json.member k j ms) found =
      looser members_weight (size j + (members_size ms + members_weight found)) (size j + members_size ms + members_weight found) (option_and_then (λ d. of_members ms (put k d found)) (of_json j)) (omega arith)
      (then_put (size j) (members_size ms + members_weight found) (of_json j) (λ d. of_members ms (put k d found)) (of_json_most j) (λ d. one_put k d ms found (of_members_most ms (put k d found))))

-- ---- what bytes are

last_most : (j : json.Json) (rest : List Token) (n : ℕ) → size j + length rest ≤ n → AtMost size n (json.if_last j rest)
last_most j [] n h = omega (arith, h)
last_most j (t ∷ ts) n h = tt

whole_most : (r : Option (json.Json × List Token)) (ts : List Token) → Within size ts r → AtMost size (length ts) (option_and_then (λ p. json.if_last p.0 p.1) r)
whole_most None ts h = tt
whole_most (Some p) ts h = last_most p.0 p.1 (length ts) h

then_most : (o : Option json.Json) (n : ℕ) → AtMost size n o → AtMost weight n (option_and_then of_json o)
then_most None n h = tt
then_most (Some j) n h = looser weight (size j) n (of_json j) h (of_json_most j)

of_some : {A : Type 0} (f : A → ℕ) (n : ℕ) (o : Option A) (a : A) → o ≡ Some a → AtMost f n o → f a ≤ n
of_some f n None a e h = absurd (cc)
of_some {A = A} f n (Some b) a e h = subst (λ (x : A). f x ≤ n) (same_Some b a e) h

read_most : (bytes : List ℕ) (d : Data) → read bytes ≡ Some d → weight d ≤ length bytes + 1
read_most bytes d e =
    let parsed = option_and_then (λ p. json.if_last p.0 p.1) (json.value max_depth (tokens bytes)) in
    let le = of_some weight (length (tokens bytes)) (option_and_then of_json parsed) d e (then_most parsed (length (tokens bytes)) (whole_most (json.value max_depth (tokens bytes)) (tokens bytes) (value_within max_depth (tokens bytes)))) in
    omega (arith, le, tokens_le bytes)

some_weight : (d : Data) → 0 < weight d
some_weight null = omega arith
some_weight (boolean b) = omega arith
some_weight (number n) = omega arith
some_weight (string s) = omega arith
some_weight (array ds) = omega arith
some_weight (object ms) = omega arith

listed_most : (ds : Items) → length (listed ds) ≤ items_weight ds
listed_most no_items = omega arith
listed_most (item d ds) = omega (arith, some_weight d, listed_most ds)

member_at : (k : List ℕ) (e : Data) (found : Option Data) (n : ℕ) (o : Ordering) → AtMost weight n found → AtMost weight (weight e + n) (match_ordering o found (Some e) found)
member_at k e found n Less h = looser weight n (weight e + n) found (omega arith) h
member_at k e found n Equal h = omega arith
member_at k e found n Greater h = looser weight n (weight e + n) found (omega arith) h

member_most : (k : List ℕ) (ms : Members) → AtMost weight (members_weight ms) (get_member k ms)
member_most k no_members = tt
member_most k (member l e ms) = member_at k e (get_member k ms) (members_weight ms) (slice_cmp nat_cmp k l) (member_most k ms)

longer_by : (o : Option Data) (n : ℕ) → AtMost weight n o → AtMost (λ e. suc (weight e)) (suc n) o
longer_by None n h = tt
longer_by (Some e) n h = omega (arith, h)

get_most : (k : List ℕ) (d : Data) → AtMost (λ e. suc (weight e)) (weight d) (get k d)
get_most k null = tt
get_most k (boolean b) = tt
get_most k (number n) = tt
get_most k (string s) = tt
get_most k (array ds) = tt
get_most k (object ms) = longer_by (get_member k ms) (members_weight ms) (member_most k ms)

list_most : (d : Data) → AtMost (λ ds. suc (length ds)) (weight d) (list_of d)
list_most null = tt
list_most (boolean b) = tt
list_most (number n) = tt
list_most (string s) = tt
list_most (array ds) = omega (arith, listed_most ds)
list_most (object ms) = tt

under_list : (o : Option (List Data)) (m n : ℕ) → suc m ≤ n → AtMost (λ ds. suc (length ds)) m o → AtMost (λ ds. suc (suc (length ds))) n o
under_list None m n l h = tt
under_list (Some ds) m n l h = omega (arith, l, h)

under_at : (o : Option Data) (n : ℕ) → AtMost (λ e. suc (weight e)) n o → AtMost (λ ds. suc (suc (length ds))) n (option_and_then list_of o)
under_at None n h = tt
under_at (Some e) n h = under_list (list_of e) (weight e) n h (list_most e)

-- the list under a key of the object that bytes are
pub few_items : (bytes : List ℕ) (d : Data) (k : List ℕ) (ds : List Data) → read bytes ≡ Some d → option_and_then list_of (get k d) ≡ Some ds → length ds < length bytes
few_items bytes d k ds r e =
    let all = read_most bytes d r in
    let one = of_some (λ (xs : List Data). suc (suc (length xs))) (weight d) (option_and_then list_of (get k d)) ds e (under_at (get k d) (weight d) (get_most k d)) in
    omega (arith, all, one)

-- the list under a key of what lies under a key of the object that bytes are
few_items_under : (bytes : List ℕ) (d e : Data) (k l : List ℕ) (ds : List Data) → read bytes ≡ Some d → get k d ≡ Some e → option_and_then list_of (get l e) ≡ Some ds → length ds < length bytes
few_items_under bytes d e k l ds r h g =
    let all = read_most bytes d r in
    let there = of_some (λ (x : Data). suc (weight x)) (weight d) (get k d) e h (get_most k d) in
    let one = of_some (λ (xs : List Data). suc (suc (length xs))) (weight e) (option_and_then list_of (get l e)) ds g (under_at (get l e) (weight e) (get_most l e)) in
    omega (arith, all, there, one)

-- ---- the object of bytes that aren't too many

kept_if : (b : Bool) (xs ds : List Data) → (if b then Some xs else None) ≡ Some ds → Some xs ≡ Some ds
kept_if true xs ds e = e
kept_if false xs ds e = absurd (cc)

object_if : (b : Bool) (c d : Data) → (if b then Some c else None) ≡ Some d → Some c ≡ Some d
object_if true c d e = e
object_if false c d e = absurd (cc)

kept : (o : Option (List Data)) (ds : List Data) → option_and_then (λ xs. if nat_le 3 (length xs) then Some xs else None) o ≡ Some ds → o ≡ Some ds
kept None ds e = absurd (cc)
kept (Some xs) ds e = kept_if (nat_le 3 (length xs)) xs ds e

object_is : (o : Option Data) (d : Data) → option_and_then only_object o ≡ Some d → o ≡ Some d
object_is None d e = absurd (cc)
object_is (Some c) d e = object_if (is_some (as_object c)) c d e

read_is : (b : Bool) (o : Option Data) (d : Data) → (if b then o else None) ≡ Some d → o ≡ Some d
read_is true o d e = e
read_is false o d e = absurd (cc)

pub few_under : (bytes : List ℕ) (d : Data) → length bytes < 2 ^ 32 → object_of bytes ≡ Some d → (k : List ℕ) (ds : List Data) → option_and_then list_of (get k d) ≡ Some ds → length ds < 2 ^ 32
few_under bytes d l o k ds is = let n = few_items bytes d k ds (read_is (is_utf8 bytes) (read bytes) d (object_is (json_of bytes) d o)) is in omega (arith, l, n)

pub has_few_items : (bytes : List ℕ) (d : Data) → length bytes < 2 ^ 32 → object_of bytes ≡ Some d → HasFewItems d
has_few_items bytes d l o =
    let r = read_is (is_utf8 bytes) (read bytes) d (object_is (json_of bytes) d o) in
    record {
      few = λ k h. record {
        vertices = omega (arith, l, few_items bytes d (codes "vertices_coords") k.vertices r (kept (option_and_then list_of (get (codes "vertices_coords") d)) k.vertices h.vertices));
        edges = omega (arith, l, few_items bytes d (codes "edges_vertices") k.edges r h.edges);
      };
    }

pub has_few_members : (bytes : List ℕ) (d : Data) → length bytes < 2 ^ 32 → object_of bytes ≡ Some d → HasFewMembers d
has_few_members bytes d l o =
    let r = read_is (is_utf8 bytes) (read bytes) d (object_is (json_of bytes) d o) in
    record {
      fold = λ fold is.
          let there = object_is (get (codes "fold") d) fold is in
          record {
            few = λ k h. record {
              vertices = omega (arith, l, few_items_under bytes d fold (codes "fold") (codes "vertices_coords") k.vertices r there (kept (option_and_then list_of (get (codes "vertices_coords") fold)) k.vertices h.vertices));
              edges = omega (arith, l, few_items_under bytes d fold (codes "fold") (codes "edges_vertices") k.edges r there h.edges);
            };
          };
      pins = λ ds is. omega (arith, l, few_items bytes d (codes "pins") ds r is);
      lines = λ ds is. omega (arith, l, few_items bytes d (codes "log") ds r is);
    }

-- ---- the scripts of viewers

abbrev Lighter : ℕ → List Data → Type 0
Lighter n [] = Unit {0}
Lighter n (d ∷ ds) = (weight d ≤ n) × Lighter n ds

lighter : (n m : ℕ) (ds : List Data) → n ≤ m → Lighter n ds → Lighter m ds
lighter n m [] l a = tt
lighter n m (d ∷ ds) l a = (omega (arith, l, a.0), lighter n m ds l a.1)

each_listed : (es : Items) → Lighter (items_weight es) (listed es)
each_listed no_items = tt
each_listed (item d es) = (omega arith, lighter (items_weight es) (weight d + items_weight es) (listed es) (omega arith) (each_listed es))

-- each item of an array weighs no more than the array
each_item : (d : Data) (ds : List Data) → list_of d ≡ Some ds → Lighter (weight d) ds
each_item null ds e = absurd (cc)
each_item (boolean b) ds e = absurd (cc)
each_item (number n) ds e = absurd (cc)
each_item (string s) ds e = absurd (cc)
each_item (object ms) ds e = absurd (cc)
each_item (array es) ds e =
    subst (Lighter (suc (items_weight es))) (same_Some (listed es) ds e)
    (lighter (items_weight es) (suc (items_weight es)) (listed es) (omega arith) (each_listed es))

texts_are : (o : Option (List Data)) (ds : List Data) → option_and_then only_texts o ≡ Some ds → o ≡ Some ds
texts_are None ds e = absurd (cc)
texts_are (Some xs) ds e = kept_if (list_all (λ d. is_some (as_str d)) xs) xs ds e

script_short : (d : Data) (ds : List Data) → script_in d ≡ Some ds → suc (length ds) ≤ weight d
script_short d ds e = of_some (λ (xs : List Data). suc (length xs)) (weight d) (list_of d) ds (texts_are (list_of d) ds e) (list_most d)

few_more : (script : List Data) (rest : List (List Data)) → length script < 2 ^ 32 → HaveFew rest → (v : ℕ) (ds : List Data) → slice_get (script ∷ rest) v ≡ Some ds → length ds < 2 ^ 32
few_more script rest l few zero ds e = subst (λ (xs : List Data). length xs < 2 ^ 32) (same_Some script ds e) l
few_more script rest l few (suc v) ds e = few v ds e

scripts_short : (n : ℕ) (ds : List Data) (vs : List (List Data)) → n < 2 ^ 32 → Lighter n ds → all_of script_in ds ≡ Some vs → HaveFew vs
scripts_short n [] vs l a e = subst HaveFew (same_Some [] vs e) (λ v script g. absurd (none-some script g))
scripts_short n (d ∷ ds) vs l a e =
    let b = head_and_rest script_in d ds vs e in
    let short = script_short d b.0 b.2 in
    let first : length b.0 < 2 ^ 32 = omega (arith, l, a.0, short) in
    subst HaveFew (sym b.4) (few_more b.0 b.1 first (scripts_short n ds b.1 l a.1 b.3))

some_scripts : (ds : List Data) (vs : List (List Data)) → scripts_in ds ≡ Some vs → all_of script_in ds ≡ Some vs
some_scripts [] vs e = absurd (cc)
some_scripts (d ∷ ds) vs e = e

scripts_listed : (n : ℕ) (d : Data) (o : Option (List Data)) (vs : List (List Data)) → n < 2 ^ 32 → weight d ≤ n → list_of d ≡ o → option_and_then scripts_in o ≡ Some vs → HaveFew vs
scripts_listed n d None vs l w f e = absurd (cc)
scripts_listed n d (Some ds) vs l w f e = scripts_short (weight d) ds vs (omega (arith, l, w)) (each_item d ds f) (some_scripts ds vs e)

scripts_under : (n : ℕ) (o : Option Data) (vs : List (List Data)) → n < 2 ^ 32 → ((e : Data) → o ≡ Some e → weight e ≤ n) → option_and_then scripts_in (option_and_then list_of o) ≡ Some vs → HaveFew vs
scripts_under n None vs l w e = absurd (cc)
scripts_under n (Some d) vs l w e = scripts_listed n d (list_of d) vs l (w d refl) refl e

pub has_few_scripts : (bytes : List ℕ) (d : Data) → length bytes < 2 ^ 32 → object_of bytes ≡ Some d → HasFewScripts d
has_few_scripts bytes d l o =
    let r = read_is (is_utf8 bytes) (read bytes) d (object_is (json_of bytes) d o) in
    let all = read_most bytes d r in
    record {
      fold = (has_few_members bytes d l o).fold;
      viewers = λ ds is. omega (arith, l, few_items bytes d (codes "viewers") ds r is);
      scripts = λ vs is.
          scripts_under (length bytes) (get (codes "viewers") d) vs l
          (λ e h. omega (arith, all, of_some (λ (x : Data). suc (weight x)) (weight d) (get (codes "viewers") d) e h (get_most (codes "viewers") d))) is;
    }
