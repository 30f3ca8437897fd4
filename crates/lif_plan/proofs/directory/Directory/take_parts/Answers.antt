use Rattle.std.proofs.Common.{length, ◌≡◌, [], ◌∙◌, ℕ, suc, List, ap, sym, subst, map, take, drop, get_or, refl, arith, rules}
use Rattle.std.specs.Prelude.{All, Err}
use Rattle.std.proofs.lemmas.List.Elements.{All-nil}
use Rattle.std.proofs.lemmas.List.{length-map, take_all}
use Rattle.lif_model.specs.Parts as model
use Rattle.lif_dir.specs.declared.batch.Part.{Part}
use Rattle.lif_dir.specs.declared.batch.Part.TheVariants.{Store}
use Rattle.lif_dir.specs.Entries.{slot_bytes}
use Rattle.lif_dir.specs.Batches.{part_of, parts_of}
use Rattle.lif_model.specs.Apply.{Batch}
use Rattle.lif_plan.specs.Plans.{RefusesAs}
use Rattle.lif_plan.specs.Batches.{file_of, IsFileWithin, SoFar}
use Rattle.lif_plan.proofs.BatchPlans.{a_volume, of_volume, so_far_none, so_far_is, batch_refused, parts_split, parts_next}
use Rattle.lif_plan.proofs.Remembered.{remembers_none}
use Rattle.lif_plan.proofs.directory.Directory.take_parts.Goals as goal

-- what is read of a list of parts where there is none
abbrev no_part : Part
no_part = Store (record { name = record { bytes = [] } }) 0 [] 0 0

pub loop-k-init : goal.loop-k-init
loop-k-init c =
    let slots = map slot_bytes c.args.self.now.table.slots in
    record {
      so_far = so_far_is refl (sym c.requires.changes) (sym (ap (map (file_of c.bytes-bytes.result.now)) c.requires.files)) (sym c.requires.barred) (so_far_none c.args.size c.args.header.now slots c.requires.two);
      remembers = remembers_none c.args.self.now.table.slots c.args.plan.now.befores.items c.requires.befores;
      within = subst (All (IsFileWithin (length c.bytes-bytes.result.now))) (sym c.requires.files) (All-nil (IsFileWithin (length c.bytes-bytes.result.now)));
      count = refl;
      room = refl;
      changes = search rules;
      files = search rules;
      barred = search rules;
      befores = search rules;
    }

pub take_part-requires-clause-legal : goal.take_part-requires-clause-legal
take_part-requires-clause-legal c =
    let v = a_volume c.args.header.now (map slot_bytes c.args.self.now.table.slots) c.args.size c.requires.legal in
    of_volume c.args.header.now (map slot_bytes c.loop-k.self.table.slots) c.args.size _ (c.loop-k.invariant.so_far.volume v.0 v.1)

pub returns-in_err-take_part-clause-takes : goal.returns-in_err-take_part-clause-takes
returns-in_err-take_part-clause-takes c =
    let slots = map slot_bytes c.args.self.now.table.slots in
    let parts = c.parts-parts.result.now in
    let f : Part → model.Part = part_of c.bytes-bytes.result.now in
    let k : ℕ = c.loop-k.k in
    let refuses = c.in_err-take_part.ensures.takes slots (map f (take k parts)) c.loop-k.invariant.so_far in
    let all : map f parts ≡ parts_of c.args.batch.now = λ i. map (part_of (c.bytes-bytes.ensures.bytes i)) (c.parts-parts.ensures.parts i) in
    let is : c.from_residual.result ≡ Err c.in_err-take_part.field-0.0 = search rules in
    rw is (subst (λ (ps : List model.Part). RefusesAs c.args.size (Batch ps) c.args.header.now slots c.in_err-take_part.field-0.0) (parts_split f parts k no_part c.loop-k-test.true ∙ all)
    (batch_refused c.args.size c.args.header.now slots (map f (take k parts)) (map slot_bytes c.loop-k.self.table.slots) c.loop-k.plan.changes.items (map (file_of c.bytes-bytes.result.now) c.loop-k.plan.files.items)
    c.loop-k.plan.barred.items c.loop-k.invariant.so_far (f (get_or parts k no_part)) c.in_err-take_part.field-0.0 (map f (drop (suc k) parts)) c.requires.two refuses))

pub loop-k-preserved : goal.loop-k-preserved
loop-k-preserved c =
    let slots = map slot_bytes c.args.self.now.table.slots in
    let parts = c.parts-parts.result.now in
    let f : Part → model.Part = part_of c.bytes-bytes.result.now in
    let k : ℕ = c.loop-k.k in
    record {
      so_far = subst (λ (ps : List model.Part). SoFar c.args.size c.args.header.now slots ps (map slot_bytes c.take_part.new.self.table.slots) c.take_part.new.plan.changes.items
          (map (file_of c.bytes-bytes.result.now) c.take_part.new.plan.files.items) c.take_part.new.plan.barred.items) (parts_next f parts k no_part c.loop-k-test.true)
          (c.in_ok-take_part.ensures.takes slots (map f (take k parts)) c.loop-k.invariant.so_far);
      remembers = c.take_part.ensures.remembers c.args.self.now.table.slots (omega (arith, c.loop-k.invariant.count, c.requires.count)) c.loop-k.invariant.remembers;
      within = c.take_part.ensures.within c.loop-k.invariant.within;
      count = c.take_part.ensures.count ∙ c.loop-k.invariant.count;
      room = c.take_part.ensures.room ∙ c.loop-k.invariant.room;
      changes = omega (arith, c.take_part.ensures.few_changes, c.loop-k.invariant.changes);
      files = omega (arith, c.take_part.ensures.few_files, c.loop-k.invariant.files);
      barred = omega (arith, c.take_part.ensures.few_barred, c.loop-k.invariant.barred);
      befores = omega (arith, c.take_part.ensures.few_befores, c.loop-k.invariant.befores);
    }

pub returns-clause-takes : goal.returns-clause-takes
returns-clause-takes c =
    let slots = map slot_bytes c.args.self.now.table.slots in
    let parts = c.parts-parts.result.now in
    let bytes = c.bytes-bytes.result.now in
    let all : map (part_of bytes) (take c.loop-k.k parts) ≡ parts_of c.args.batch.now =
    ap (map (part_of bytes)) (take_all c.loop-k.k parts (omega (arith, c.loop-k-test.false))) ∙ (λ i. map (part_of (c.bytes-bytes.ensures.bytes i)) (c.parts-parts.ensures.parts i)) in
    so_far_is refl refl (λ i. map (file_of (c.bytes-bytes.ensures.bytes i)) c.loop-k.plan.files.items) refl
    (subst (λ (ps : List model.Part). SoFar c.args.size c.args.header.now slots ps (map slot_bytes c.loop-k.self.table.slots) c.loop-k.plan.changes.items
    (map (file_of bytes) c.loop-k.plan.files.items) c.loop-k.plan.barred.items) all c.loop-k.invariant.so_far)

pub returns-in_err-take_part-clause-few : goal.returns-in_err-take_part-clause-few
returns-in_err-take_part-clause-few c = omega (arith, c.parts-parts.ensures.few, ap (λ (ps : List Part). length ps) c.parts-parts.ensures.parts, length-map c.args.batch.now.parts (part_of c.args.batch.now.bytes))

pub returns-clause-few : goal.returns-clause-few
returns-clause-few c = omega (arith, c.parts-parts.ensures.few, ap (λ (ps : List Part). length ps) c.parts-parts.ensures.parts, length-map c.args.batch.now.parts (part_of c.args.batch.now.bytes))
