use Rattle.std.proofs.Common.{rules, ◌≡◌, subst, sym, ap}
use Rattle.il_ports.specs.Drive.{images_of}
use Rattle.tape_folder.specs.HiddenFolders.{part_named}
use Rattle.tape_folder.specs.MemoryFolders.{FilesBut}
use Rattle.tape_folder.proofs.PartInMemory.{part_goes_on}
use Rattle.tape_folder.proofs.memory_folder.MemoryFolderFolder.write.Goals as goal

pub returns-in-None : goal.returns-in-None
returns-in-None c =
    let files : c.failed.new.self.files ≡ c.append.new.self.files = ap (λ f. f.files) c.failed.ensures.same in
    let before : c.ask.new.self.files ≡ c.args.self.now.files = ap (λ f. f.files) c.ask.ensures.same in
    let part : c.ask.new.self.part ≡ c.args.self.now.part = ap (λ f. f.part) c.ask.ensures.same in
    let but : FilesBut (part_named c.args.self.now.part) (images_of c.args.self.now.files.items) (images_of c.failed.new.self.files.items) =
    subst (λ f. FilesBut (part_named c.args.self.now.part) (images_of c.args.self.now.files.items) (images_of f.items)) (sym files)
    (subst (λ f. FilesBut (part_named c.args.self.now.part) (images_of f.items) (images_of c.append.new.self.files.items)) before
    (subst (λ p. FilesBut (part_named p) (images_of c.ask.new.self.files.items) (images_of c.append.new.self.files.items)) part c.append.ensures.others)) in
    record {
      goes_on = part_goes_on _ _ _ _ _ _ _ _ _ _ _ _ _ _ _ _ _ _ _ _ (search rules) (search rules) but (search rules) (search rules) (search rules) (search rules);
      part = search rules;
      unsynced = search rules;
      cause = search rules;
      answer_is = tt;
    }
