use Rattle.std.proofs.Common.{◌≡◌, ◌∙◌, ◌++◌, ◌∷◌, [], List, false, length, map, refl, sym, ap, subst, arith, rules}
use Rattle.std.proofs.lemmas.List.{take_more}
use Rattle.lif_model.specs.Apply.{Dir}
use Rattle.tape_volumes.specs.Volumes.{StopLeaves}
use Rattle.tape_jobs.specs.Out.{Copied, has_fault}
use Rattle.tape_jobs.specs.declared.copying.Taken.{Taken}
use Rattle.tape_jobs.proofs.Copies.{beside_next, beside_none, copied_next, copied_none, count_on, end_taken, names_on, pushed, reads_none}
use Rattle.tape_jobs.proofs.copying.take_files.Goals as goal

pub loop-name-init : goal.loop-name-init
loop-name-init g c =
    let v = g.V.Volumes.seen c.args.volumes.now in
    let f = g.F.Folder.view c.args.folder.now in
    record {
      valid = c.requires.valid;
      room = refl;
      names = ap (λ (ends : List Taken). map (λ taken. taken.name) ends) c.requires.empty;
      space = c.requires.space;
      copied = subst (λ (ends : List Taken). Copied (has_fault ends) ends v.mounted v.mounted f f) (sym c.requires.empty) (copied_none false v.mounted v.mounted f c.requires.closed (reads_none v.mounted));
      beside = beside_none (StopLeaves Dir v.mounted) v;
    }

pub loop-name-preserved : goal.loop-name-preserved
loop-name-preserved g c =
    let v = g.V.Volumes.seen in
    let f = g.F.Folder.view in
    let now = c.loop-name in
    let taken : Taken = end_taken _ c.take_file-end.result in
    let count : length now.ends.items ≡ now.name-index = count_on now.ends.items c.args.names.now now.name-index (omega (arith, c.loop-name-test.true)) now.invariant.names in
    let more : c.push.new.self.items ≡ now.ends.items ++ taken ∷ [] = pushed _ _ _ _ _ _ c.push.ensures.full (omega (arith, count, c.loop-name-test.true, now.invariant.space)) c.push.ensures.items in
    record {
      valid = c.take_file-end.ensures.valid;
      room = c.take_file-end.ensures.room ∙ c.tell.ensures.room ∙ now.invariant.room;
      names = names_on now.ends.items c.push.new.self.items taken c.args.names.now now.name-index more (take_more c.args.names.now now.name-index _ (omega (arith, c.loop-name-test.true))) now.invariant.names;
      space = search rules;
      copied = copied_next now.ends.items c.push.new.self.items taken (v c.args.volumes.now) (v now.volumes) (v c.take_file-end.new.volumes) (f c.args.folder.now) (f now.folder) (f c.take_file-end.new.folder) more now.invariant.copied c.take_file-end.ensures.copied;
      beside = beside_next _ (v c.args.volumes.now) (v now.volumes) (v c.take_file-end.new.volumes) now.invariant.copied.reads now.invariant.beside c.take_file-end.ensures.beside;
    }
