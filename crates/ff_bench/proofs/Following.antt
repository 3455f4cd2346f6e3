-- Journals that go on, and turns.
use Rattle.std.proofs.Common.{◌≡◌, ◌≢◌, ℕ, zero, suc, ◌+◌, ◌<◌, ◌≤◌, ◌⊎◌, List, [], ◌∷◌, ◌++◌, length, inl, inr, refl, sym, ap, ◌∙◌, subst, arith, Option, Some, None, append_assoc, ⊎_elim, IfOk, IfErr, Ok, Err, Result, is_ok, true, false, ne_eqb, eq-eqb, slice_index, slice_get, take, get_or}
use Rattle.std.specs.List.{filter_map}
use Rattle.std.proofs.lemmas.List.{append-nil, length-append}
use Rattle.std.proofs.lemmas.List.Elements.{filter-append, filter_map-append}
use Rattle.ff_tables.specs.declared.memory.NoMemory.{NoMemory}
use Rattle.ff_types.specs.declared.cases.Case.{Case}
use Rattle.ff_viewer.specs.declared.commands.Command.{Command}
use Rattle.ff_viewer.specs.declared.replies.Reply.{Reply}
use Rattle.ff_journal.specs.declared.entries.Entry.{Entry}
use Rattle.ff_journal.specs.declared.entries.Entry.TheVariants as entry
use Rattle.ff_journal.specs.Epochs.{viewer_in, is_change, changes, last_begun}
use Rattle.ff_journal.specs.Publications.{outcome_in, outcomes, published}
use Rattle.ff_journal.specs.Journals.{command_by, commands_of, IsLegal}
use Rattle.ff_door.specs.Entries.{Silent, Follows, Adds}
use Rattle.ff_door.specs.Views.{SeatView, came_in, gone_out}
use Rattle.ff_board.specs.declared.opening.Opening.{Opening}
use Rattle.ff_desk.specs.declared.loans.Lent.{Lent}
use Rattle.ff_desk.specs.declared.loans.Lent.TheVariants as lent
use Rattle.ff_desk.specs.declared.loans.Turn.{Turn}
use Rattle.ff_desk.specs.declared.loans.Turn.TheVariants as turn
use Rattle.ff_desk.specs.Views.{BaseView, DeskView, LoanView}
use Rattle.ff_desk.specs.Desks.{IsDesk, IsOpeningOf}
use Rattle.ff_desk.specs.Laws.{OpeningsStay}
use Rattle.ff_desk.specs.Steps.{AllPublished, PublishesOne, Steps, AreSilent, Publishes, NoneOpen, SearchIs, LentIs, BringIs, SaidIs}
use Rattle.ff_bench.specs.Turns.{HasGone, HasStayed, IsGot, IsIdle, SearchTells, LentTells, Took, PagesAsked, HasDone, TurnTells, TurnIs, next_entry, EndsWith, ActIs}

-- ---- journals one after the other

pub published_more : (a rest : List Entry) → published (a ++ rest) ≡ published a + published rest
published_more a rest = ap (λ os. length os) (filter_map-append outcome_in a rest) ∙ length-append (outcomes a) (outcomes rest)

pub begun_more : (a rest : List Entry) → last_begun (a ++ rest) ≡ last_begun a + last_begun rest
begun_more a rest = ap (λ os. length os) (filter-append is_change a rest) ∙ length-append (changes a) (changes rest)

pub commands_more : (v : ℕ) (a rest : List Entry) → commands_of v (a ++ rest) ≡ commands_of v a ++ commands_of v rest
commands_more v a rest = filter_map-append (command_by v) a rest

silent_both : (k : ℕ) (xs ys : List Entry) → Silent viewer_in k xs → Silent viewer_in k ys → Silent viewer_in k (xs ++ ys)
silent_both k [] ys a b = b
silent_both k (x ∷ xs) ys a b = (a.0, silent_both k xs ys a.1 b)

pub follows_then : (k : ℕ) (a b c : List Entry) → Follows viewer_in k a b → Follows viewer_in k b c → Follows viewer_in k a c
follows_then k a b c f g = (f.0 ++ g.0, g.1 ∙ (ap (λ l. l ++ g.0) f.1 ∙ append_assoc a f.0 g.0), silent_both k f.0 g.0 f.2 g.2)

pub follows_same : (k : ℕ) (a : List Entry) → Follows viewer_in k a a
follows_same k a = ([], sym (append-nil a), tt)

none_names : (k : ℕ) → None ≡ Some k → ⊥
none_names k e = cc

follows_one : (k : ℕ) (a b : List Entry) → PublishesOne a b → Follows viewer_in k a b
follows_one k a b p = (entry.Published (published a) p.0 ∷ [], p.1, (λ e. none_names k e, tt))

pub follows_step : (k : ℕ) (a b : List Entry) → Steps a b → Follows viewer_in k a b
follows_step k a b s = ⊎_elim (λ e. subst (Follows viewer_in k a) (sym e) (follows_same k a)) (λ p. follows_one k a b p) s

-- what may be put back at the door
pub adds_step : (k : ℕ) (a b : List Entry) → Steps a b → Adds viewer_in k a b
adds_step k a b s = ⊎_elim (λ e. inl e) (λ p. inr (entry.Published (published a) p.0, p.1, inr refl)) s

silent_any : (k : ℕ) (es : List Entry) → AreSilent es → Silent viewer_in k es
silent_any k [] s = tt
silent_any k (entry.Said v i c r ∷ es) s = absurd s
silent_any k (entry.Published e o ∷ es) s = (λ x. none_names k x, silent_any k es s)

pub follows_publishes : (k : ℕ) (a b : List Entry) → Publishes a b → Follows viewer_in k a b
follows_publishes k a b p = (p.0, p.1, silent_any k p.0 p.2)

one_more : (a b : List Entry) → PublishesOne a b → published b ≡ published a + 1
one_more a b p = ap published p.1 ∙ published_more a (entry.Published (published a) p.0 ∷ [])

-- what was published or begun stays so
published_on : (k : ℕ) (a b : List Entry) → Follows viewer_in k a b → published a ≤ published b
published_on k a b f = let p = published_more a f.0 in let w = ap published f.1 in omega (arith, p, w)

begun_on : (k : ℕ) (a b : List Entry) → Follows viewer_in k a b → last_begun a ≤ last_begun b
begun_on k a b f = let p = begun_more a f.0 in let w = ap last_begun f.1 in omega (arith, p, w)

-- who is named no more has made no entry
silent_says : (v : ℕ) (es : List Entry) → Silent viewer_in v es → commands_of v es ≡ []
silent_says v [] h = refl
silent_says v (entry.Said w i c r ∷ es) h = rw (ne_eqb w v (λ e. h.0 (ap (λ (z : ℕ). Some z) e))) (silent_says v es h.1)
silent_says v (entry.Published e o ∷ es) h = silent_says v es h.1

pub commands_on : (v : ℕ) (old new : List Entry) → Follows viewer_in v old new → commands_of v new ≡ commands_of v old
commands_on v old new f = ap (commands_of v) f.1 ∙ (commands_more v old f.0 ∙ (ap (λ cs. commands_of v old ++ cs) (silent_says v f.0 f.2) ∙ append-nil (commands_of v old)))

-- ---- a first turn

search_tells : (old new : DeskView) (t : Turn) → SearchIs old new t → SearchTells old t
search_tells old new turn.Idle s = s.0
search_tells old new turn.Did s = (s.0, s.1)

search_same : (old new : DeskView) (t : Turn) → SearchIs old new t → new.journal ≡ old.journal
search_same old new turn.Idle s = ap (λ (d : DeskView). d.journal) s.1
search_same old new turn.Did s = s.2.same.journal

lent_tells : (base : BaseView) (old new : DeskView) (seen : List Entry) (l : Lent) → old.base ≡ base → seen ≡ new.journal → LentIs old new l → LentTells base old seen l
lent_tells base old new seen (lent.Searched t) b e h = (h.0, e ∙ search_same old new t h.1, search_tells old new t h.1)
lent_tells base old new seen lent.Published b e h = (h.0, subst (PublishesOne old.journal) (sym e) h.1)
lent_tells base old new seen (lent.Board loan) b e h =
    let unpublished = subst (λ n. n ≤ last_begun old.journal) h.1 h.2.begun in
    (unpublished, e ∙ h.0.journal, h.1, subst (λ (x : BaseView). IsOpeningOf x.case old.journal loan.epoch loan.board.opening) b h.2)

pub took : (base : BaseView) (k : ℕ) (seen now : List Entry) (old new : DeskView) (l : Lent) → IsDesk old → old.base ≡ base → Follows viewer_in k seen old.journal → now ≡ new.journal → LentIs old new l
    → Took base k seen now l
took base k seen now old new l is b f e h = (old, record { is_desk = is; based = b; after = f }, lent_tells base old new now l b e h)

pub ok_map : {A E : Type 0} (r : Result A E) (P Q : A → Type 0) → ((x : A) → P x → Q x) → IfOk r P → IfOk r Q
ok_map (Ok x) P Q f h = f x h
ok_map (Err e) P Q f h = tt

-- what was seen of a desk is legal
pub legal_seen : (b base : BaseView) (d : DeskView) (seen : List Entry) → d.base ≡ b → b ≡ base → seen ≡ d.journal → IsDesk d → IsLegal base.case base.budget seen
legal_seen b base d seen same is e desk = subst (λ (z : BaseView × List Entry). IsLegal z.0.case z.0.budget z.1) (λ k. ((same ∙ is) k, sym e k)) desk.legal

-- ---- what a turn answers

idle_published : (d : DeskView) → IsIdle d → published d.journal ≤ last_begun d.journal → ⊥
idle_published d i h = let a = i.0 in absurd (omega (arith, a, h))

did_publish : (k : ℕ) (old first new : List Entry) → Follows viewer_in k old first → published first < published new → HasDone old new
did_publish k old first new f more = let p = published_on k old first f in record { more = inl (omega (arith, p, more)); least = λ h. omega (arith, p, more) }

did_search : (k : ℕ) (old first : List Entry) → Follows viewer_in k old first → AllPublished first → PagesAsked first → HasDone old first
did_search k old first f all asked = let p = published_on k old first f in let b = begun_on k old first f in record { more = inr asked; least = λ h. omega (arith, p, b, h, all) }

pub turn_searched : (base : BaseView) (k : ℕ) (old new : List Entry) (t : Turn) → Took base k old new (lent.Searched t) → TurnIs base k old new t
turn_searched base k old new turn.Idle (first, got, tells) = (first, got, ((tells.0, tells.2), tells.1))
turn_searched base k old new turn.Did (first, got, tells) = let part = tells.2.0 in let open_part = tells.2.1.open_yet in
    (first, got, ((λ i. i.1 part open_part), subst (HasDone old) (sym tells.1) (did_search k old first.journal got.after tells.0 (part, open_part.demanded))))

pub turn_published : (base : BaseView) (k : ℕ) (old new : List Entry) → Took base k old new lent.Published → TurnIs base k old new turn.Did
turn_published base k old new (first, got, tells) =
    (first, got, ((λ i. idle_published first i tells.0), did_publish k old first.journal new got.after (let m = one_more first.journal new tells.1 in omega (arith, m))))

-- of a board that was lent: its epoch, by what was seen then
pub lent_epoch : (base : BaseView) (k : ℕ) (old seen : List Entry) (loan : LoanView) → Took base k old seen (lent.Board loan)
    → (loan.epoch ≡ published seen) × IsOpeningOf base.case seen loan.epoch loan.board.opening
lent_epoch base k old seen loan (first, got, tells) =
    (tells.2 ∙ ap published (sym tells.1), subst (λ (j : List Entry). IsOpeningOf base.case j loan.epoch loan.board.opening) (sym tells.1) tells.3)

pub turn_brought : (base : BaseView) (k : ℕ) (old seen new : List Entry) (loan : LoanView) → Took base k old seen (lent.Board loan) → loan.epoch < published new → TurnIs base k old new turn.Did
turn_brought base k old seen new loan (first, got, tells) more = let epoch = tells.2 in
    (first, got, ((λ i. idle_published first i tells.0), did_publish k old first.journal new got.after (omega (arith, epoch, more))))

-- ---- a seat that came in and went out

module _ (s0 value s1 s2 : SeatView Entry BaseView) (first new : List Entry) (is : s0 ≡ value) (came : s1 ≡ came_in first s0) (out : s2 ≡ gone_out new s1) where
  pub number_is : s2.number ≡ value.number
  number_is = ap (λ (s : SeatView Entry BaseView). s.number) out ∙ (ap (λ (s : SeatView Entry BaseView). s.number) came ∙ ap (λ (s : SeatView Entry BaseView). s.number) is)

  pub turns_is : s2.turns ≡ value.turns + 1
  turns_is = ap (λ (s : SeatView Entry BaseView). s.turns) out ∙ (ap (λ (s : SeatView Entry BaseView). s.turns) came ∙ ap (λ (s : SeatView Entry BaseView). s.turns + 1) is)

  pub seen_is : s2.seen ≡ new
  seen_is = ap (λ (s : SeatView Entry BaseView). s.seen) out

  pub follows_first : Follows viewer_in s0.number s0.seen first → Follows viewer_in value.number value.seen first
  follows_first f = subst (λ (s : SeatView Entry BaseView). Follows viewer_in s.number s.seen first) is f

  pub gone : Follows viewer_in s0.number s0.seen first → Steps first new → HasGone value s2
  gone f step = record {
    number = number_is;
    turns = omega (arith, turns_is);
    seen = subst (λ (l : List Entry). Follows viewer_in value.number value.seen l) (sym seen_is) (follows_then value.number value.seen first new (follows_first f) (follows_step value.number first new step));
  }

pub gone_stayed : (a b c : SeatView Entry BaseView) → HasGone a b → HasStayed b c → HasGone a c
gone_stayed a b c g s = record {
  number = s.number ∙ g.number;
  turns = let x = g.turns in let y = s.turns in omega (arith, x, y);
  seen = follows_then a.number a.seen b.seen c.seen g.seen (subst (λ (k : ℕ). Follows viewer_in k b.seen c.seen) g.number s.seen);
}

-- ---- bringing

pub opening_later : (case : Case) (k : ℕ) (old first : List Entry) (e : ℕ) (o : Opening) → OpeningsStay → Follows viewer_in k old first → IsOpeningOf case old e o → IsOpeningOf case first e o
opening_later case k old first e o stay f is = subst (λ (j : List Entry). IsOpeningOf case j e o) (sym f.1) (stay case old f.0 e o is)

pub brought : (k epoch : ℕ) (old : List Entry) (first new : DeskView) (seen : List Entry) → Follows viewer_in k old first.journal → epoch ≡ published old → seen ≡ new.journal → BringIs epoch first new → epoch < published seen
brought k epoch old first new seen f at same b =
    let on = published_on k old first.journal f in let s = ap published same in
    ⊎_elim (λ t. let more = one_more first.journal new.journal t.1 in let e = t.0 in omega (arith, more, e, s))
    (λ t. let n = t.0 in let w = ap (λ (d : DeskView). published d.journal) t.1 in omega (arith, on, at, n, w, s)) b

-- ---- viewers

pub left_later : (v : ℕ) (old first : List Entry) (b now : BaseView) → Follows viewer_in v old first → now ≡ b → length (commands_of v old) < slice_index b.lengths v
    → length (commands_of v first) < slice_index now.lengths v
left_later v old first b now f e h = subst (λ (z : List Command × BaseView). length z.0 < slice_index z.1.lengths v) (λ k. (sym (commands_on v old first f) k, sym e k)) h

pub adds_said : (v : ℕ) (said : Command) (old new : DeskView) (r : Option (Result Reply NoMemory)) → SaidIs v said old new r → Adds viewer_in v old.journal new.journal
adds_said v said old new None h = inl (ap (λ (d : DeskView). d.journal) h.1)
adds_said v said old new (Some (Ok told)) h = inr (next_entry old.journal v said told, h.1, inl refl)
adds_said v said old new (Some (Err e)) h = inl h.journal

pub act_said : (v : ℕ) (said : Command) (old : List Entry) (first new : DeskView) (seen : List Entry) (r : Option (Result Reply NoMemory)) → Follows viewer_in v old first.journal → seen ≡ new.journal
    → SaidIs v said first new r → ActIs v said old seen r
act_said v said old first new seen None f e h = subst (Follows viewer_in v old) (sym (e ∙ ap (λ (d : DeskView). d.journal) h.1)) f
act_said v said old first new seen (Some (Ok told)) f e h = (first.journal, f, e ∙ h.1)
act_said v said old first new seen (Some (Err x)) f e h = subst (Follows viewer_in v old) (sym (e ∙ h.journal)) f

ends_later : (v : ℕ) (said : Command) (a b c : List Entry) (told : Reply) → Follows viewer_in v a b → EndsWith v said b c told → EndsWith v said a c told
ends_later v said a b c told f e = (e.0, follows_then v a b e.0 f e.1, e.2)

-- how trying ended, from what was seen at the call's start
pub act_done : (v : ℕ) (said : Command) (a b c : List Entry) (r : Result Reply NoMemory) → Follows viewer_in v a b → ActIs v said b c (Some r)
    → IfOk r (λ told. EndsWith v said a c told) × IfErr r (λ _. Follows viewer_in v a c)
act_done v said a b c (Ok told) f h = (ends_later v said a b c told f h, tt)
act_done v said a b c (Err e) f h = (tt, follows_then v a b c f h)

pub not_some : {X : Type 0} (r : Option X) → ((x : X) → r ≡ Some x → ⊥) → r ≡ None
not_some None h = refl
not_some (Some x) h = absurd (h x refl)

pub err_is : {A E : Type 0} (r : Result A E) (P : Type 0) → P → IfErr r (λ _. P)
err_is (Ok x) P p = tt
err_is (Err e) P p = p

-- ---- how many entries a viewer has made

own_command : (v i : ℕ) (said : Command) (told : Reply) → commands_of v (entry.Said v i said told ∷ []) ≡ said ∷ []
own_command v i said told = rw (eq-eqb v v refl) refl

-- one entry more
pub one_said : (v : ℕ) (said : Command) (old new : List Entry) (told : Reply) → EndsWith v said old new told → commands_of v new ≡ commands_of v old ++ said ∷ []
one_said v said old new told e = ap (commands_of v) e.2 ∙ (commands_more v e.0 (next_entry e.0 v said told ∷ [])
    ∙ (ap (λ cs. cs ++ commands_of v (next_entry e.0 v said told ∷ [])) (commands_on v old e.0 e.1) ∙ ap (λ cs. commands_of v old ++ cs) (own_command v (length (commands_of v e.0)) said told)))

false_true : false ≡ true → ⊥
false_true t = cc

pub ok_of : {A E : Type 0} (r : Result A E) (P : A → Type 0) → is_ok r ≡ true → IfOk r P → (x : A) × P x
ok_of (Ok x) P t h = (x, h)
ok_of (Err e) P t h = absurd (false_true t)

pub err_of : {A E : Type 0} (r : Result A E) (P : Type 0) → is_ok r ≡ false → IfErr r (λ _. P) → P
err_of (Ok x) P t h = absurd (false_true (sym t))
err_of (Err e) P t h = h

pub counts_said : (v made : ℕ) (said : Command) (old new : List Entry) (r : Result Reply NoMemory) → is_ok r ≡ true → IfOk r (λ told. EndsWith v said old new told) → made ≡ length (commands_of v old)
    → made + 1 ≡ length (commands_of v new)
counts_said v made said old new r ok done counted =
    let d = ok_of r (λ told. EndsWith v said old new told) ok done in
    let n = ap (λ (cs : List Command). length cs) (one_said v said old new d.0 d.1) in
    let m = length-append (commands_of v old) (said ∷ []) in
    omega (arith, counted, n, m)

pub counts_same : (v made : ℕ) (old new : List Entry) → Follows viewer_in v old new → made ≡ length (commands_of v old) → made ≡ length (commands_of v new)
counts_same v made old new f counted = counted ∙ ap (λ (cs : List Command). length cs) (sym (commands_on v old new f))

-- tries and turns one after the other
pub tried_then : (v : ℕ) (said : Command) (a b c d : List Entry) (r : Option (Result Reply NoMemory)) → Follows viewer_in v a b → ActIs v said b c r → r ≡ None → Follows viewer_in v c d → Follows viewer_in v a d
tried_then v said a b c d r f act none g = follows_then v a b d f (follows_then v b c d (subst (ActIs v said b c) none act) g)

-- ---- scripts, command by command

none_some : {X : Type 0} (x : X) → None ≡ Some x → ⊥
none_some x e = cc

same_some : {X : Type 0} (x y : X) → Some x ≡ Some y → x ≡ y
same_some x y e = cc

pub take_next : {X : Type 0} (l : List X) (i : ℕ) (x : X) → slice_get l i ≡ Some x → take (i + 1) l ≡ take i l ++ x ∷ []
take_next [] i x e = absurd (none_some x e)
take_next (y ∷ ys) zero x e = ap (λ z. z ∷ []) (same_some y x e)
take_next (y ∷ ys) (suc i) x e = let n : suc i + 1 ≡ suc (i + 1) = omega arith in ap (λ k. take k (y ∷ ys)) n ∙ ap (λ r. y ∷ r) (take_next ys i x e)

pub next_said : (v i : ℕ) (said : Command) (script : List Command) (old new : List Entry) (r : Result Reply NoMemory) → is_ok r ≡ true → IfOk r (λ told. EndsWith v said old new told)
    → slice_get script i ≡ Some said → commands_of v old ≡ take i script → commands_of v new ≡ take (i + 1) script
next_said v i said script old new r ok done at so_far = let d = ok_of r (λ told. EndsWith v said old new told) ok done in
    one_said v said old new d.0 d.1 ∙ (ap (λ cs. cs ++ said ∷ []) so_far ∙ sym (take_next script i said at))

pub none_said : (v i : ℕ) (script : List Command) (old new : List Entry) (r : Result Reply NoMemory) → is_ok r ≡ false → IfErr r (λ _. Follows viewer_in v old new)
    → commands_of v old ≡ take i script → commands_of v new ≡ take i script
none_said v i script old new r failed none so_far = commands_on v old new (err_of r (Follows viewer_in v old new) failed none) ∙ so_far

pub got_at : {X : Type 0} (l : List X) (i : ℕ) (x : X) → i < length l → x ≡ get_or l i x → slice_get l i ≡ Some x
got_at [] i x h e = absurd (omega (arith, h))
got_at (y ∷ ys) zero x h e = ap (λ z. Some z) (sym e)
got_at (y ∷ ys) (suc i) x h e = got_at ys i x (omega (arith, h)) e

-- what is read inside a list doesn't depend on what stands for what is outside
pub got_any : {X : Type 0} (l : List X) (i : ℕ) (x d : X) → i < length l → x ≡ get_or l i x → x ≡ get_or l i d
got_any [] i x d h e = absurd (omega (arith, h))
got_any (y ∷ ys) zero x d h e = e
got_any (y ∷ ys) (suc i) x d h e = got_any ys i x d (omega (arith, h)) e
