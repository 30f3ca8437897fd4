use Rattle.std.proofs.Common.{rules}
use Rattle.std.proofs.lemmas.List.Sorted.{answers_always}
use Rattle.lif_plan.specs.Entries.{ends_first}
use Rattle.lif_plan.proofs.LegalExtents.{neighbours_answer}
use Rattle.lif_plan.proofs.extents.follow_each_other.Goals as goal

pub returns : goal.returns
returns c = neighbours_answer (record { start = 0; end = 0 }) ends_first _ _ (c.is_sorted_by.ensures.cases ends_first (answers_always _ _ _ (λ f a r g h. search rules)))
