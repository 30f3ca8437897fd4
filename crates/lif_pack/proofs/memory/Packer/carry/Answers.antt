use Rattle.std.proofs.Common.{rules, ◌≡◌, ◌+◌, ◌++◌, [], ◌∷◌, ◌∙◌, ℕ, List, length, ap, sym, arith, length-append}
use Rattle.std.proofs.lemmas.List.{length-map}
use Rattle.lif_model.specs.Redo.{targets_in}
use Rattle.il_ports.proofs.Stores.{goes_further, quiet_longer}
use Rattle.lif_pack.specs.Moving.{numbers_from}
use Rattle.lif_pack.proofs.Carrying.{length_numbers, targets_more, told_more}
use Rattle.lif_pack.proofs.memory.Packer.carry.Goals as goal

pub overflow_add-from : goal.overflow_add-from
overflow_add-from g c = omega (arith, c.requires.within, c.requires.medium)

pub unwrap-requires : goal.unwrap-requires
unwrap-requires g c =
    let targets = c.loop-i.invariant.targets in
    let count : length c.loop-i.self.changes.items ≡ length c.args.self.now.changes.items + c.loop-i.i =
    sym (length-map c.loop-i.self.changes.items (λ d. d.0)) ∙ ap (λ (ks : List ℕ). length ks) targets
    ∙ length-append (targets_in c.args.self.now.changes.items) (numbers_from c.args.to c.loop-i.i)
    ∙ omega (arith, length-map c.args.self.now.changes.items (λ d. d.0), length_numbers c.args.to c.loop-i.i) in
    search (rules, count)

pub loop-i-preserved : goal.loop-i-preserved
loop-i-preserved g c =
    let inv = c.loop-i.invariant in
    let pushed : c.push.new.self.items ≡ c.loop-i.self.changes.items ++ (c.args.to + c.loop-i.i, c.read.new.into) ∷ [] = search rules in
    record {
      still = inv.still;
      goes_on = goes_further _ 1 _ _ _ _ _ inv.goes_on c.in_ok-read.ensures.goes_on;
      quiet = quiet_longer _ _ _ inv.quiet c.read.ensures.quiet;
      targets = ap targets_in pushed ∙ targets_more (targets_in c.args.self.now.changes.items) c.loop-i.self.changes.items c.args.to c.loop-i.i c.read.new.into inv.targets;
      told = λ t is. pushed ∙ told_more t c.args.self.now.changes.items c.loop-i.self.changes.items c.args.from c.args.to c.loop-i.i c.read.new.into (inv.told t is)
          (c.in_ok-read.ensures.content t (inv.quiet.tape ∙ is));
    }
