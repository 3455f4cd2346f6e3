use Rattle.std.proofs.Common.{true, false, refl, subst, sym}
use Rattle.std.specs.List.{insert, remove}
use Rattle.std.specs.List.Sorted.{IsStrictlyIncreasing}
use Rattle.ff_cells.proofs.Passing.{insert_rising, insert_members, remove_members, same_found, same_missing, passed_by, found, missing}
use Rattle.ff_cells.proofs.slab.pass.Goals as goal

pub returns-then-not-bar-clause-members : goal.returns-then-not-bar-clause-members
returns-then-not-bar-clause-members c =
    let xs = c.args.faces.now.items in let n = c.args.bar.now.face in let b = c.args.bar.now.lower in
    let i = c.in-Ok.at in
    let h = found xs c.deref.result.now n i c.requires c.deref.ensures.value c.in-Ok.ensures.position in
    passed_by n b false xs c.remove.new.self.items (remove xs i) c.if-not-bar.true c.remove.ensures.items
    (remove_members xs i n c.requires h.0 h.1)

pub returns-else-not-bar-clause-members : goal.returns-else-not-bar-clause-members
returns-else-not-bar-clause-members c =
    let xs = c.args.faces.now.items in let n = c.args.bar.now.face in let b = c.args.bar.now.lower in
    let i = c.in-Ok.at in
    let h = found xs c.deref.result.now n i c.requires c.deref.ensures.value c.in-Ok.ensures.position in
    passed_by n b true xs xs xs c.if-not-bar.false refl (same_found xs i n h.0 h.1)

pub returns-in_ok-insert-in-Err-clause-rising : goal.returns-in_ok-insert-in-Err-clause-rising
returns-in_ok-insert-in-Err-clause-rising c =
    let xs = c.args.faces.now.items in let n = c.args.bar.now.face in let i = c.in-Err.at in
    let s = missing xs c.deref.result.now n i c.requires c.deref.ensures.value c.in-Err.ensures.position in
    subst IsStrictlyIncreasing (sym c.in_ok-insert-in-Err.ensures.items) (insert_rising xs i n c.requires s)

pub returns-in_ok-insert-in-Err-clause-members : goal.returns-in_ok-insert-in-Err-clause-members
returns-in_ok-insert-in-Err-clause-members c =
    let xs = c.args.faces.now.items in let n = c.args.bar.now.face in let b = c.args.bar.now.lower in
    let i = c.in-Err.at in
    let s = missing xs c.deref.result.now n i c.requires c.deref.ensures.value c.in-Err.ensures.position in
    passed_by n b true xs c.insert.new.self.items (insert xs i n) c.if-bar.true
    c.in_ok-insert-in-Err.ensures.items (insert_members xs i n s.within)

pub returns-else-bar-clause-members : goal.returns-else-bar-clause-members
returns-else-bar-clause-members c =
    let xs = c.args.faces.now.items in let n = c.args.bar.now.face in let b = c.args.bar.now.lower in
    let i = c.in-Err.at in
    let s = missing xs c.deref.result.now n i c.requires c.deref.ensures.value c.in-Err.ensures.position in
    passed_by n b false xs xs xs c.if-bar.false refl (same_missing xs i n s)
