use Rattle.std.proofs.Common.{◌≡◌, ◌∙◌, ◌+◌, List, [], ◌∷◌, take, drop, sym, ap, subst, arith}
use Rattle.std.proofs.lemmas.List.{drop_all, drop_more}
use Rattle.lif_dir.specs.declared.entries.Slot.{Slot}
use Rattle.lif_dir.specs.Tables.{Table}
use Rattle.lif_plan.specs.declared.batches.Before.{Before}
use Rattle.lif_plan.specs.Batches.{Recalls}
use Rattle.lif_plan.proofs.Remembered.{IsGivenBack, given_none, given_more, given_all}
use Rattle.lif_plan.proofs.directory.Directory.give_back.Goals as goal

pub loop-k-init : goal.loop-k-init
loop-k-init c = record {
  given = λ slots long is. subst (λ (xs : List Slot). IsGivenBack slots xs c.args.plan.now.befores.items)
      ((λ i. take (long i) c.args.self.now.table.slots) ∙ sym (ap (λ (t : Table). t.slots) c.truncate.ensures))
      (given_none slots c.args.self.now.table.slots c.args.plan.now.befores.items is);
  room = ap (λ (t : Table). t.room) c.truncate.ensures;
}

pub set-requires-clause-within : goal.set-requires-clause-within
set-requires-clause-within c =
    let (slots, long, is) = c.requires in
    let recalls : Recalls slots c.index-before.result.now =
    subst (Recalls slots) (sym c.index-before.ensures) (is.each c.loop-k.k c.index-before.result.now (omega (arith, c.loop-k-test.true, c.len-k-end.ensures))) in
    omega (arith, recalls.within, (c.loop-k.invariant.given slots long is).count)

pub set-requires-clause-entry : goal.set-requires-clause-entry
set-requires-clause-entry c =
    let (slots, long, is) = c.requires in
    let recalls : Recalls slots c.index-before.result.now =
    subst (Recalls slots) (sym c.index-before.ensures) (is.each c.loop-k.k c.index-before.result.now (omega (arith, c.loop-k-test.true, c.len-k-end.ensures))) in
    recalls.entry

pub loop-k-preserved : goal.loop-k-preserved
loop-k-preserved c =
    let before = c.index-before.result.now in
    let befores = c.args.plan.now.befores.items in
    let split : drop c.loop-k.k befores ≡ before ∷ drop (c.loop-k.k + 1) befores =
    drop_more befores c.loop-k.k before (omega (arith, c.loop-k-test.true, c.len-k-end.ensures)) ∙ ap (λ (b : Before). b ∷ drop (c.loop-k.k + 1) befores) (sym c.index-before.ensures) in
    record {
      given = λ slots long is. subst (λ (xs : List Slot). IsGivenBack slots xs (drop (c.loop-k.k + 1) befores)) (sym (ap (λ (t : Table). t.slots) c.set.ensures))
          (given_more slots c.loop-k.self.table.slots before (drop (c.loop-k.k + 1) befores)
          (subst (Recalls slots) (sym c.index-before.ensures) (is.each c.loop-k.k before (omega (arith, c.loop-k-test.true, c.len-k-end.ensures))))
          (subst (IsGivenBack slots c.loop-k.self.table.slots) split (c.loop-k.invariant.given slots long is)));
      room = ap (λ (t : Table). t.room) c.set.ensures ∙ c.loop-k.invariant.room;
    }

pub returns : goal.returns
returns c = λ slots long is.
    let none : drop c.loop-k.k c.args.plan.now.befores.items ≡ [] = drop_all c.loop-k.k c.args.plan.now.befores.items (omega (arith, c.loop-k-test.false, c.len-k-end.ensures)) in
    let all : c.loop-k.self.table.slots ≡ slots = given_all slots c.loop-k.self.table.slots (subst (IsGivenBack slots c.loop-k.self.table.slots) none (c.loop-k.invariant.given slots long is)) in
    λ i. record { slots = all i; room = c.loop-k.invariant.room i }
