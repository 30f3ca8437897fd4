use Rattle.std.proofs.Common.{◌∙◌, List, false, length, map, refl, ap, arith}
use Rattle.std.proofs.lemmas.List.{take_more}
use Rattle.std.proofs.lemmas.List.Elements.{All-contains_itself}
use Rattle.lif_model.specs.Apply.{Dir}
use Rattle.tape_volumes.specs.Volumes.{StopLeaves}
use Rattle.tape_jobs.specs.declared.collecting.Collected.{Collected}
use Rattle.tape_jobs.proofs.Copies.{beside_next, beside_none, reads_none, reads_on}
use Rattle.tape_jobs.proofs.Gathered.{contents_more, named_ended, names_more}
use Rattle.tape_jobs.proofs.collecting.collect_files.Goals as goal

pub returns-in-Err-clause-collected : goal.returns-in-Err-clause-collected
returns-in-Err-clause-collected g c =
    let v = g.V.Volumes.seen in
    let held = c.names.invariant in
    named_ended c.in-Err.went c.args.names.now _ c.collect_file.new.files.items (v c.args.volumes.now).mounted (v c.names.volumes).mounted (v c.collect_file.new.volumes).mounted
    (All-contains_itself c.args.names.now c.names.name-index _ (omega (arith, c.names-test.true))) held.reads held.same c.in-Err.ensures.collected.0 c.in-Err.ensures.collected.1

pub returns-in-Err-clause-beside : goal.returns-in-Err-clause-beside
returns-in-Err-clause-beside g c =
    let v = g.V.Volumes.seen in
    beside_next _ (v c.args.volumes.now) (v c.names.volumes) (v c.collect_file.new.volumes) c.names.invariant.reads c.names.invariant.beside c.in-Err.ensures.beside

pub names-init : goal.names-init
names-init g c =
    let start = g.V.Volumes.seen c.args.volumes.now in
    record {
      valid = c.requires.valid;
      reads = reads_none start.mounted;
      same = refl;
      named = ap (λ (files : List Collected). map (λ file. file.name) files) c.requires.empty;
      contents = λ k d lt. absurd (omega (arith, lt, ap length c.requires.empty));
      beside = beside_none (StopLeaves Dir start.mounted) start;
    }

pub names-preserved : goal.names-preserved
names-preserved g c =
    let v = g.V.Volumes.seen in
    let held = c.names.invariant in
    let did = c.in-Ok.ensures.collected in
    let added = did.2 in
    record {
      valid = c.in-Ok.ensures.valid;
      reads = reads_on false false (v c.args.volumes.now).mounted (v c.names.volumes).mounted (v c.collect_file.new.volumes).mounted held.reads did.0;
      same = did.1 ∙ held.same;
      named = names_more c.names.files.items c.collect_file.new.files.items added.0 c.args.names.now c.names.name-index _ added.1 added.2 (take_more c.args.names.now c.names.name-index _ (omega (arith, c.names-test.true))) held.named;
      contents = contents_more (v c.args.volumes.now).mounted (v c.names.volumes).mounted c.names.files.items c.collect_file.new.files.items added.0 added.1 held.same held.contents added.3;
      beside = beside_next false (v c.args.volumes.now) (v c.names.volumes) (v c.collect_file.new.volumes) held.reads held.beside c.in-Ok.ensures.beside;
    }
