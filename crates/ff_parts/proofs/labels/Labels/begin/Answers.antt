use Rattle.std.proofs.Common.{◌≡◌, ℕ, ◌+◌, ◌<◌, ◌^◌, arith, ap, sym, subst, set, length}
use Rattle.std.specs.Vec.{with_item}
use Rattle.ff_propagate.specs.Facts.{value_at}
use Rattle.ff_parts.specs.Labels.{IsSpreading, Ready, Spreads}
use Rattle.ff_parts.proofs.Reaching.{queue_room}
use Rattle.ff_parts.proofs.Beginning.{firsts_few, firsts_longer, started, begun}
use Rattle.ff_parts.proofs.labels.Labels.begin.Goals as goal

pub push_reserved-requires : goal.push_reserved-requires
push_reserved-requires c = let r = firsts_few c.args.system.now.vars c.args.system.now.constraints
    (value_at c.args.facts.now) c.args.var c.args.self.now
    c.requires.below in omega (arith, r, c.requires.var, c.requires.below.room)

pub overflow_cast-part : goal.overflow_cast-part
overflow_cast-part c =
    let r = firsts_few c.args.system.now.vars c.args.system.now.constraints (value_at c.args.facts.now)
    c.args.var c.args.self.now c.requires.below in
    let long : c.len-part.result ≡ length c.args.self.now.firsts.items + 1 = firsts_longer _ _ _ _
    c.push_reserved.ensures.items (omega (arith, c.len-part.ensures)) in
    let h : c.len-part.result < 2 ^
    32 = omega (arith, long, r, c.requires.var, c.requires.below.labelling.few) in
    omega (arith, h)

pub push_reserved-requires-2 : goal.push_reserved-requires-2
push_reserved-requires-2 c =
    let r = queue_room c.args.system.now.vars c.args.system.now.constraints (value_at c.args.facts.now)
    c.args.self.now c.requires.below.labelling c.args.var c.requires.var c.requires.unlabelled in
    omega (arith, r, c.requires.below.labelling.room)

pub spread-requires-clause-spreading : goal.spread-requires-clause-spreading
spread-requires-clause-spreading c =
    let long : c.len-part.result ≡ length c.args.self.now.firsts.items + 1 = firsts_longer _ _ _ _
    c.push_reserved.ensures.items (omega (arith, c.len-part.ensures)) in
    subst (λ (n : ℕ). IsSpreading c.args.system.now.vars c.args.system.now.constraints
    (value_at c.args.facts.now) n
    (record {
      part_of = with_item c.args.self.now.part_of c.args.var c.len-part.result;
      queue = c.push_reserved-2.new.self;
      firsts = c.push_reserved.new.self;
    })) (sym long)
    (started c.args.system.now.vars c.args.system.now.constraints (value_at c.args.facts.now) c.args.var
    c.args.self.now
    (record {
      part_of = with_item c.args.self.now.part_of c.args.var c.len-part.result;
      queue = c.push_reserved-2.new.self;
      firsts = c.push_reserved.new.self;
    }) c.requires.below
    c.requires.var c.requires.open
    (record {
      none = c.requires.unlabelled;
      firsts = c.push_reserved.ensures.items;
      firsts_room = c.push_reserved.ensures.capacity;
      part_of = ap (λ (n : ℕ). set c.args.self.now.part_of.items c.args.var n) long;
      queue = c.push_reserved-2.ensures.items;
      room = c.push_reserved-2.ensures.capacity;
    })).spreading

pub spread-requires-clause-ready : goal.spread-requires-clause-ready
spread-requires-clause-ready c =
    let long : c.len-part.result ≡ length c.args.self.now.firsts.items + 1 = firsts_longer _ _ _ _
    c.push_reserved.ensures.items (omega (arith, c.len-part.ensures)) in
    let from : c.len-from.result ≡ length c.args.self.now.queue.items = omega (arith, c.len-from.ensures) in
    subst (λ (n : ℕ). Ready c.args.system.now.constraints (value_at c.args.facts.now)
    (record {
      part_of = with_item c.args.self.now.part_of c.args.var c.len-part.result;
      queue = c.push_reserved-2.new.self;
      firsts = c.push_reserved.new.self;
    }) n) (sym from)
    (started c.args.system.now.vars c.args.system.now.constraints (value_at c.args.facts.now) c.args.var
    c.args.self.now
    (record {
      part_of = with_item c.args.self.now.part_of c.args.var c.len-part.result;
      queue = c.push_reserved-2.new.self;
      firsts = c.push_reserved.new.self;
    }) c.requires.below
    c.requires.var c.requires.open
    (record {
      none = c.requires.unlabelled;
      firsts = c.push_reserved.ensures.items;
      firsts_room = c.push_reserved.ensures.capacity;
      part_of = ap (λ (n : ℕ). set c.args.self.now.part_of.items c.args.var n) long;
      queue = c.push_reserved-2.ensures.items;
      room = c.push_reserved-2.ensures.capacity;
    })).ready

pub returns : goal.returns
returns c =
    let long : c.len-part.result ≡ length c.args.self.now.firsts.items + 1 = firsts_longer _ _ _ _
    c.push_reserved.ensures.items (omega (arith, c.len-part.ensures)) in
    begun c.args.system.now.vars c.args.system.now.constraints (value_at c.args.facts.now) c.args.var
    c.args.self.now
    (record {
      part_of = with_item c.args.self.now.part_of c.args.var c.len-part.result;
      queue = c.push_reserved-2.new.self;
      firsts = c.push_reserved.new.self;
    }) c.spread.new.self
    c.requires.below c.requires.var c.requires.open
    (record {
      none = c.requires.unlabelled;
      firsts = c.push_reserved.ensures.items;
      firsts_room = c.push_reserved.ensures.capacity;
      part_of = ap (λ (n : ℕ). set c.args.self.now.part_of.items c.args.var n) long;
      queue = c.push_reserved-2.ensures.items;
      room = c.push_reserved-2.ensures.capacity;
    })
    (subst (λ (n : ℕ). IsSpreading c.args.system.now.vars c.args.system.now.constraints
    (value_at c.args.facts.now) n c.spread.new.self) long c.spread.ensures.spreading)
    (subst (λ (n : ℕ). Spreads n
    (record {
      part_of = with_item c.args.self.now.part_of c.args.var c.len-part.result;
      queue = c.push_reserved-2.new.self;
      firsts = c.push_reserved.new.self;
    }) c.spread.new.self) long
    c.spread.ensures.spreads)
    c.spread.ensures.ready
