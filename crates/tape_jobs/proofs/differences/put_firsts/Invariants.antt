use Rattle.std.proofs.Common.{◌≡◌, ◌++◌, take}
use Rattle.std.specs.List.{flat_map}
use Rattle.tape_jobs.specs.Differences.{first_line, named_file, namesake}
use Rattle.tape_jobs.proofs.differences.put_firsts.Given as goal

abbrev pub invariant-files : goal.invariant-files
invariant-files l = record {
  text : l.text.items ≡ l.fn.text.items ++ flat_map (λ f. first_line l.image (named_file f) (namesake named_file f l.others)) (take l.file-index l.files);
  room : l.cell.room ≡ l.fn.cell.room;
}
