use Rattle.std.proofs.Common.{◌≡◌, ◌∙◌, ◌++◌, Some, None, map, sym, ap}
use Rattle.std.specs.Option.{option_map, option_and_then}
use Rattle.lif_dir.specs.Entries.{name_bytes}
use Rattle.lif_dir.specs.Names.{new_name}
use Rattle.mended_names.specs.Mending.{first_free, new_name_of, mended_base}
use Rattle.mended_names.proofs.mending.mended.Goals as goal

pub returns-in-Some : goal.returns-in-Some
returns-in-Some c =
    let found : first_free (map new_name c.args.names.now ++ c.args.given.now) (mended_base (name_bytes c.args.name.now)) ≡ Some c.in-Some.text.items =
    ap (first_free (map new_name c.args.names.now ++ c.args.given.now)) (sym c.mended_base.ensures) ∙ sym c.first_free.ensures ∙ ap (option_map (λ text. text.items)) c.in-Some.is in
    c.new_name_of.ensures ∙ ap new_name_of c.deref.ensures.0 ∙ sym (ap (option_and_then new_name_of) found)

pub returns-in-None : goal.returns-in-None
returns-in-None c =
    let found : first_free (map new_name c.args.names.now ++ c.args.given.now) (mended_base (name_bytes c.args.name.now)) ≡ None =
    ap (first_free (map new_name c.args.names.now ++ c.args.given.now)) (sym c.mended_base.ensures) ∙ sym c.first_free.ensures ∙ ap (option_map (λ text. text.items)) c.in-None.is in
    sym (ap (option_and_then new_name_of) found)
