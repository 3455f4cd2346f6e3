use Rattle.std.proofs.Common.{◌≡◌, ◌<◌, ℕ, List, [], ◌∷◌, ◌++◌, length, get_or, sym, ap, ◌∙◌, subst, arith, Option, Some}
use Rattle.ff_journal.specs.declared.entries.Entry.{Entry}
use Rattle.ff_journal.specs.declared.entries.Entry.TheVariants as entry
use Rattle.ff_journal.specs.Journals.{IsSaid, commands_of}
use Rattle.ff_journal.specs.Shown.{NamesFit}
use Rattle.ff_desk.specs.Views.{DeskView}
use Rattle.ff_desk.specs.Demands.{demand_of}
use Rattle.ff_desk.specs.Desks.{IsDesk}
use Rattle.ff_desk.specs.Prepared.{IsLaidFor}
use Rattle.ff_desk.specs.Marks.{AreMarked}
use Rattle.ff_desk.proofs.Counts.{few}
use Rattle.ff_desk.proofs.Keeping.{said_keeps}
use Rattle.ff_desk.proofs.Laying.{entered_demands}
use Rattle.ff_desk.proofs.desk.Desk.enter.Goals as goal

pub entries_of-index-requires : goal.entries_of-index-requires
entries_of-index-requires c = record {
  few =
      let n = (few c.self.inside.base.lengths c.self.inside.journal c.self.invariant.within c.self.invariant.order).2 in
      let t = c.self.invariant.few.commands in
      let e = ap (λ (j : List Entry). length j) c.as_slice.ensures in omega (arith, n, t, e);
}

pub invariant_of-self-2 : goal.invariant_of-self-2
invariant_of-self-2 c =
    let b = c.self.inside.base in
    let j = c.self.inside.journal in
    let v = c.args.viewer in
    let said = c.args.command in
    let told = c.args.told in
    let n = length (commands_of v j) in
    let back = sym c.self.view_is in
    let index : c.entries_of-index.result ≡ n = c.entries_of-index.ensures ∙ ap (λ (x : List Entry). length (commands_of v x)) c.as_slice.ensures in
    let more : c.push.new.self ≡ j ++ entry.Said v n said told ∷ [] = c.in_ok-push.ensures.pushed ∙ ap (λ k. j ++ entry.Said v k said told ∷ []) index in
    let marked : AreMarked c.self.inside.demanded.items (demand_of said told) c.mark.new.marks.items =
    subst (λ x. AreMarked c.self.inside.demanded.items x c.mark.new.marks.items) c.demand_of-demand.ensures c.mark.ensures in
    subst (λ (x : List Entry). IsDesk (record { base = b; journal = x; givens = c.self.inside.givens; facts = c.self.inside.facts; home = c.self.inside.home; present = c.self.inside.present; pages = c.self.inside.pages; demanded = c.mark.new.marks.items; earlier = c.self.inside.earlier })) (sym more)
    (said_keeps _ v n said told c.mark.new.marks.items c.self.invariant
    (subst (λ (d : DeskView). IsSaid d.base.case d.base.budget d.journal v (length (commands_of v d.journal)) said told) back c.requires.said)
    (subst (λ (d : DeskView). NamesFit d.base.case (Some d.facts) (entry.Said v (length (commands_of v d.journal)) said told)) back c.requires.names)
    (subst (λ (d : DeskView). length (commands_of v d.journal) < get_or d.base.lengths v 0) back c.requires.left)
    (entered_demands j v n said told c.self.inside.pages c.self.inside.demanded.items c.mark.new.marks.items
    (subst (λ (d : DeskView). IsLaidFor (demand_of said told) d.pages) back c.requires.laid) c.self.invariant.demands marked))
