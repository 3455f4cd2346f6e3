-- Publications one after the other.
use Rattle.std.proofs.Common.{◌≡◌, ℕ, ◌+◌, ◌≤◌, inl, inr, List, [], ◌∷◌, ◌++◌, sym, refl, ap, ◌∙◌, subst, arith}
use Rattle.std.proofs.lemmas.List.{append-nil, append_assoc}
use Rattle.ff_journal.specs.declared.entries.Entry.{Entry}
use Rattle.ff_journal.specs.declared.entries.Entry.TheVariants as entry
use Rattle.ff_journal.specs.declared.entries.Outcome.{Outcome}
use Rattle.ff_journal.specs.Epochs.{last_begun}
use Rattle.ff_journal.specs.Publications.{published}
use Rattle.ff_desk.specs.Views.{DeskView}
use Rattle.ff_desk.specs.Steps.{AreSilent, Publishes, PublishesOne, Steps, HasPublished}
use Rattle.ff_desk.proofs.Keeping.{published_one, begun_same}

pub publishes_none : (a : List Entry) → Publishes a a
publishes_none a = ([], sym (append-nil a), tt)

silent_more : (xs : List Entry) (e : ℕ) (o : Outcome) → AreSilent xs → AreSilent (xs ++ entry.Published e o ∷ [])
silent_more [] e o s = tt
silent_more (entry.Said v i said told ∷ xs) e o s = s
silent_more (entry.Published d p ∷ xs) e o s = silent_more xs e o s

pub publishes_more : (a b c : List Entry) → Publishes a b → PublishesOne b c → Publishes a c
publishes_more a b c (rest, is, silent) (o, add) = (
  rest ++ entry.Published (published b) o ∷ [],
  add ∙ ap (λ xs. xs ++ entry.Published (published b) o ∷ []) is ∙ append_assoc a rest (entry.Published (published b) o ∷ []),
  silent_more rest (published b) o silent,
)

pub publishes_step : (a b c : List Entry) → Publishes a b → Steps b c → Publishes a c
publishes_step a b c p (inl e) = subst (λ x. Publishes a x) (sym e) p
publishes_step a b c p (inr one) = publishes_more a b c p one

pub one_more : (b c : List Entry) → PublishesOne b c → (published c ≡ published b + 1) × (last_begun c ≡ last_begun b)
one_more b c (o, add) = (ap published add ∙ published_one b (published b) o, ap last_begun add ∙ begun_same b (published b) o)

pub published_first : (d : DeskView) → HasPublished d d 0
published_first d = record { base = refl; publishes = publishes_none d.journal; counted = omega arith; begun = refl }

pub published_next : (a b c : DeskView) (n : ℕ) → HasPublished a b n → c.base ≡ b.base → PublishesOne b.journal c.journal → HasPublished a c (n + 1)
published_next a b c n h base one = record {
  base = base ∙ h.base;
  publishes = publishes_more a.journal b.journal c.journal h.publishes one;
  counted = let o = (one_more b.journal c.journal one).0 in let k = h.counted in omega (arith, o, k);
  begun = (one_more b.journal c.journal one).1 ∙ h.begun;
}
