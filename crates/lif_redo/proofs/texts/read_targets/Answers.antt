use Rattle.std.proofs.Common.{◌∙◌, sym, ap}
use Rattle.lif_model.specs.declared.version.Version.TheVariants.{One, Two}
use Rattle.lif_model.specs.Redo.{Valid}
use Rattle.lif_redo.proofs.ReadTargets.{reads_one, reads_two, reads_none}
use Rattle.lif_redo.proofs.texts.read_targets.Goals as goal

pub returns-then-is_valid-clause-read : goal.returns-then-is_valid-clause-read
returns-then-is_valid-clause-read c =
    reads_one c.args.size c.args.bytes.now _ (c.as_slice.ensures.value ∙ c.named_numbers-one.ensures.numbers) (sym c.is_valid.ensures ∙ c.if-is_valid.true) ∙ ap (Valid One) c.as_slice.ensures.value

pub returns-then-is_valid-2-clause-read : goal.returns-then-is_valid-2-clause-read
returns-then-is_valid-2-clause-read c =
    reads_two c.args.size c.args.bytes.now _ _ (c.as_slice.ensures.value ∙ c.named_numbers-one.ensures.numbers) (sym c.is_valid.ensures ∙ c.if-is_valid.false)
    (c.as_slice-2.ensures.value ∙ c.named_numbers-two.ensures.numbers) (sym c.is_valid-2.ensures ∙ c.if-is_valid-2.true) ∙ ap (Valid Two) c.as_slice-2.ensures.value

pub returns-clause-read : goal.returns-clause-read
returns-clause-read c =
    reads_none c.args.size c.args.bytes.now _ _ (c.as_slice.ensures.value ∙ c.named_numbers-one.ensures.numbers) (sym c.is_valid.ensures ∙ c.if-is_valid.false)
    (c.as_slice-2.ensures.value ∙ c.named_numbers-two.ensures.numbers) (sym c.is_valid-2.ensures ∙ c.if-is_valid-2.false)
