use Rattle.std.proofs.Common.{rules, ◌≡◌, ◌∷◌, ◌++◌, [], ap, sym, subst, ◌∙◌}
use Rattle.std.specs.Prelude.{Some}
use Rattle.lif_model.specs.Shelf.{image_of}
use Rattle.il_ports.specs.Drive.{images_of}
use Rattle.tape_folder.specs.MemoryFolders.{OtherFilesStay}
use Rattle.tape_folder.proofs.Shelves.{added_file, added_others}
use Rattle.tape_folder.proofs.shelf.add.Goals as goal

pub returns-clause-file : goal.returns-clause-file
returns-clause-file c =
    let more : c.push.new.self.items ≡ c.args.files.now.items ++ (c.in_ok-name.name, c.in_ok-bytes.bytes) ∷ [] = search rules in
    let bytes : c.in_ok-bytes.bytes.items ≡ c.args.bytes.now = search rules in
    ap (λ files. image_of c.args.name.now (images_of files)) more
    ∙ added_file c.args.files.now.items (c.in_ok-name.name, c.in_ok-bytes.bytes) c.args.name.now (search rules) c.requires
    ∙ ap Some bytes

pub returns-clause-others : goal.returns-clause-others
returns-clause-others c =
    let more : c.push.new.self.items ≡ c.args.files.now.items ++ (c.in_ok-name.name, c.in_ok-bytes.bytes) ∷ [] = search rules in
    subst (λ files. OtherFilesStay c.args.name.now (images_of c.args.files.now.items) (images_of files)) (sym more)
    (added_others c.args.files.now.items (c.in_ok-name.name, c.in_ok-bytes.bytes) c.args.name.now (search rules))
