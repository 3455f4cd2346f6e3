use Rattle.std.proofs.Common.{◌≡◌, ◌+◌, refl, sym, ap, ◌∙◌, subst, arith, length, length-append}
use Rattle.ff_door.specs.Rule.{Out}
use Rattle.ff_door.specs.Views.{AreNumbered}
use Rattle.ff_door.proofs.Made.{numbered_more}
use Rattle.ff_door.proofs.opening.new_door.Goals as goal

pub loop-i-preserved : goal.loop-i-preserved
loop-i-preserved g c = let was = c.loop-i.invariant in let e = c.split-next.ensures in let l = was.last in let f = was.fresh in
    let it = c.push_reserved.ensures.items in
    record {
      door = e.door.1 ∙ was.door;
      out = subst Out (sym e.new) (was.out.0, was.out.1, omega (arith, l.3), refl);
      last = (ap (λ m. m.0.makes) e.new ∙ l.0, omega (arith, ap (λ m. m.0.number) e.new, l.2), omega (arith, ap (λ m. m.0.made) e.new, l.2), omega (arith, ap (λ m. m.0.parts) e.new, l.3));
      fresh = (ap (λ m. m.0.seen) e.new ∙ f.0, ap (λ m. m.0.turns) e.new ∙ f.1, ap (λ m. m.0.base) e.new ∙ f.2);
      all = subst (AreNumbered c.in_ok-door.door) (sym it) (numbered_more c.in_ok-door.door c.loop-i.all.items _ was.all (
        (e.door.0 ∙ was.door, ap (λ m. m.0.base) e.old ∙ f.2),
        omega (arith, ap (λ m. m.0.number) e.old, l.1, was.count),
        ap (λ m. m.0.seen) e.old ∙ f.0,
        ap (λ m. m.0.turns) e.old ∙ f.1,
        ap (λ m. m.0.inside) e.old ∙ was.out.1,
      ));
      count = let n : length c.push_reserved.new.self.items ≡ length c.loop-i.all.items + 1 = ap length it ∙ length-append c.loop-i.all.items _ in omega (arith, was.count);
      room = omega (arith, was.room, c.push_reserved.ensures.capacity);
    }

pub returns : goal.returns
returns g c = let was = c.loop-i.invariant in let l = was.last in let f = was.fresh in let it = c.push_reserved-2.ensures.items in
    let n : c.loop-i._i ≡ c.args.seats = omega (arith, c.requires.some) in
    let count : length c.push_reserved-2.new.self.items ≡ length c.loop-i.all.items + 1 = ap length it ∙ length-append c.loop-i.all.items _ in
    let made = c.in_ok-door.ensures in (
      made.0,
      made.1,
      (
        omega (arith, was.count, made.1),
        subst (AreNumbered c.in_ok-door.door) (sym it) (numbered_more c.in_ok-door.door c.loop-i.all.items _ was.all ((was.door, f.2), omega (arith, l.1, was.count), f.0, f.1, was.out.1)),
      ),
    )
