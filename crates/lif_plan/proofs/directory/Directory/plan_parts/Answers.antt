use Rattle.std.proofs.Common.{◌≡◌, ◌∙◌, List, map, length, filter, ap, sym, subst, refl, arith}
use Rattle.std.specs.Prelude.{All}
use Rattle.std.proofs.lemmas.List.Elements.{All-filter}
use Rattle.lif_model.specs.Writing.{is_left_in}
use Rattle.lif_dir.specs.Entries.{slot_bytes}
use Rattle.lif_dir.specs.Batches.{parts_of}
use Rattle.lif_plan.specs.declared.batches.Before.{Before}
use Rattle.lif_plan.specs.Batches.{file_of, IsFileWithin, Remembers, is_left}
use Rattle.lif_plan.proofs.BatchPlans.{so_far_is, batch_plan}
use Rattle.lif_plan.proofs.Remembered.{left_files}
use Rattle.lif_plan.proofs.directory.Directory.plan_parts.Goals as goal
use Rattle.lif_plan.proofs.directory.Directory.plan_parts.Goals.{After-is_unchanged}

-- what is remembered, once files have been left out
still_remembers : (c : After-is_unchanged) → Remembers c.args.self.now.table.slots c.take_parts.new.self.table.slots c.keep_left.new.self.befores.items
still_remembers c = subst (λ (bs : List Before). Remembers c.args.self.now.table.slots c.take_parts.new.self.table.slots bs) (sym (λ i. (c.keep_left.ensures.befores i).items)) c.take_parts.ensures.remembers

pub returns-clause-plan : goal.returns-clause-plan
returns-clause-plan c =
    let slots = map slot_bytes c.args.self.now.table.slots in
    let later = map slot_bytes c.take_parts.new.self.table.slots in
    let bytes = c.args.batch.now.bytes in
    let files = c.take_parts.new.plan.files.items in
    let left : map (file_of bytes) c.keep_left.new.self.files.items ≡ filter (is_left_in later) (map (file_of bytes) files) = ap (map (file_of bytes)) c.keep_left.ensures.files ∙ left_files bytes later files in
    let long : length c.args.self.now.table.slots ≡ c.keep_left.new.self.count = omega (arith, c.len.ensures.count, c.begin.ensures.count, c.take_parts.ensures.count, c.keep_left.ensures.count) in
    let same = c.is_unchanged.ensures c.args.self.now.table.slots long (still_remembers c) in
    batch_plan c.args.size (parts_of c.args.batch.now) c.args.header.now slots later c.keep_left.new.self.changes.items (map (file_of bytes) files) (map (file_of bytes) c.keep_left.new.self.files.items)
    c.take_parts.new.plan.barred.items c.is_unchanged.result c.requires.two c.in_ok-take_parts.ensures.few
    (so_far_is refl (sym (λ i. (c.keep_left.ensures.changes i).items)) refl refl c.in_ok-take_parts.ensures.takes) left same

pub returns-clause-remembers : goal.returns-clause-remembers
returns-clause-remembers c = still_remembers c

pub returns-clause-within : goal.returns-clause-within
returns-clause-within c =
    let bytes = length c.args.batch.now.bytes in
    subst (All (IsFileWithin bytes)) (sym c.keep_left.ensures.files)
    (All-filter (is_left (map slot_bytes c.take_parts.new.self.table.slots)) (IsFileWithin bytes) c.take_parts.new.plan.files.items c.take_parts.ensures.within)
