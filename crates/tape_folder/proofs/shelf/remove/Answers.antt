use Rattle.std.proofs.Common.{rules, ◌≡◌, filter, ap, sym, subst, ◌∙◌}
use Rattle.std.proofs.lemmas.Fn.{filter_same}
use Rattle.lif_model.specs.Shelf.{image_of}
use Rattle.il_ports.specs.Drive.{images_of}
use Rattle.tape_folder.specs.MemoryFolders.{OtherFilesStay}
use Rattle.tape_folder.proofs.Shelves.{has_other_name, removed_gone, removed_others}
use Rattle.tape_folder.proofs.shelf.remove.Goals as goal

pub returns-clause-gone : goal.returns-clause-gone
returns-clause-gone c =
    let kept : c.retain.new.self.items ≡ filter (has_other_name c.args.name.now) c.args.files.now.items = filter_same _ _ _ (λ x b f' k. search rules) _ _ c.retain.ensures.filtered in
    ap (λ files. image_of c.args.name.now (images_of files)) kept ∙ removed_gone c.args.files.now.items c.args.name.now

pub returns-clause-others : goal.returns-clause-others
returns-clause-others c =
    let kept : c.retain.new.self.items ≡ filter (has_other_name c.args.name.now) c.args.files.now.items = filter_same _ _ _ (λ x b f' k. search rules) _ _ c.retain.ensures.filtered in
    subst (λ files. OtherFilesStay c.args.name.now (images_of c.args.files.now.items) (images_of files)) (sym kept) (removed_others c.args.files.now.items c.args.name.now)
