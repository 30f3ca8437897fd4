use Rattle.std.proofs.Common.{◌+◌, ◌-◌, ◌/◌, sym, ◌∙◌, arith}
use Rattle.tape_text.proofs.Largest.{fits_up_to_largest, larger_than_largest, largest_few}
use Rattle.tape_text.proofs.free.largest_new.Goals as goal

pub search-init : goal.search-init
search-init c = record {
  least = omega arith;
  greatest = omega (arith, largest_few c.args.size c.args.header.now c.args.slots.now.slots);
  within = omega arith;
}

pub search-preserved-then-can_add : goal.search-preserved-then-can_add
search-preserved-then-can_add c =
    let law = fits_up_to_largest c.args.size c.args.header.now c.args.slots.now.slots (c.search.most + (c.search.beyond - c.search.most) / 2) (omega arith) (omega arith) in
    record {
      least = law.0 (sym c.can_add.ensures ∙ c.if-can_add.true);
      greatest = c.search.invariant.greatest;
      within = c.search.invariant.within;
    }

pub search-preserved : goal.search-preserved
search-preserved c = record {
  least = c.search.invariant.least;
  greatest = larger_than_largest c.args.size c.args.header.now c.args.slots.now.slots (c.search.most + (c.search.beyond - c.search.most) / 2) (omega arith) (sym c.can_add.ensures ∙ c.if-can_add.false);
  within = omega arith;
}
