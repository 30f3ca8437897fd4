use Rattle.std.proofs.Common.{◌≢◌, [], ◌∙◌, ℕ, List, if◌then◌else◌, length, refl, sym, ap, subst}
use Rattle.lif_model.specs.Parts.{Part}
use Rattle.lif_model.specs.Parts as model
use Rattle.lif_dir.specs.Batches.{BatchView, parts_of}
use Rattle.lif_dir.specs.Entries.{name_bytes}
use Rattle.lif_dir.specs.Names.{made_name}
use Rattle.lif_dir.specs.declared.batch.Part.TheVariants.{Store, Rename, Purge}
use Rattle.il_script.specs.declared.command.Command.{Command}
use Rattle.host_model.specs.Requests.{part_asked, with_part}
use Rattle.il_host.specs.PlainCommands.{IsFormed}
use Rattle.il_host.proofs.BatchParts.{added_gathered, added_stands, means_store, store_within, same_bytes}
use Rattle.il_host.proofs.gathering.add.Goals as goal

pub returns-in-Store-clause-gathered : goal.returns-in-Store-clause-gathered
returns-in-Store-clause-gathered c =
    let b : BatchView = c.args.batch.now in
    let bytes : List ℕ = c.args.bytes.now in
    let formed : (c.in-Store.kind ≢ 0) × (c.in-Store.kind ≢ 0xFFFF) = subst IsFormed c.in-Store.is c.requires.formed in
    added_gathered b c.add_store.new.self (Store c.in-Store.name c.in-Store.kind c.in-Store.implementation (length b.bytes) (length bytes))
    (model.Store (name_bytes (made_name c.in-Store.name)) c.in-Store.kind c.in-Store.implementation bytes) bytes c.add_store.result c.open_with.result c.requires.gathered
    (store_within b c.add_store.new.self c.in-Store.name c.in-Store.kind c.in-Store.implementation bytes, formed.0, formed.1)
    (means_store b c.add_store.new.self c.in-Store.name c.in-Store.kind c.in-Store.implementation bytes) refl c.add_store.ensures.room c.add_store.ensures.added c.open_with.ensures

pub returns-in-Store-clause-stands : goal.returns-in-Store-clause-stands
returns-in-Store-clause-stands c =
    let b : BatchView = c.args.batch.now in
    let bytes : List ℕ = c.args.bytes.now in
    let formed : (c.in-Store.kind ≢ 0) × (c.in-Store.kind ≢ 0xFFFF) = subst IsFormed c.in-Store.is c.requires.formed in
    added_stands b c.add_store.new.self (Store c.in-Store.name c.in-Store.kind c.in-Store.implementation (length b.bytes) (length bytes))
    (model.Store (name_bytes (made_name c.in-Store.name)) c.in-Store.kind c.in-Store.implementation bytes) bytes c.add_store.result c.open_with.result c.requires.gathered
    (store_within b c.add_store.new.self c.in-Store.name c.in-Store.kind c.in-Store.implementation bytes, formed.0, formed.1)
    (means_store b c.add_store.new.self c.in-Store.name c.in-Store.kind c.in-Store.implementation bytes) refl c.add_store.ensures.room c.add_store.ensures.added c.open_with.ensures
    ∙ ap (λ (x : Command). with_part (parts_of b) (part_asked x bytes)) (sym c.in-Store.is)

pub returns-in-Rename-clause-gathered : goal.returns-in-Rename-clause-gathered
returns-in-Rename-clause-gathered c =
    let b : BatchView = c.args.batch.now in
    added_gathered b c.add_rename.new.self (Rename c.in-Rename.old c.in-Rename.new) (model.Rename (name_bytes c.in-Rename.old) (name_bytes (made_name c.in-Rename.new))) [] c.add_rename.result c.open_with-in-Rename.result
    c.requires.gathered tt refl refl c.add_rename.ensures.room
    (c.add_rename.ensures.added ∙ (λ i. if c.add_rename.result then same_bytes b (Rename c.in-Rename.old c.in-Rename.new) i else b)) c.open_with-in-Rename.ensures

pub returns-in-Rename-clause-stands : goal.returns-in-Rename-clause-stands
returns-in-Rename-clause-stands c =
    let b : BatchView = c.args.batch.now in
    added_stands b c.add_rename.new.self (Rename c.in-Rename.old c.in-Rename.new) (model.Rename (name_bytes c.in-Rename.old) (name_bytes (made_name c.in-Rename.new))) [] c.add_rename.result c.open_with-in-Rename.result
    c.requires.gathered tt refl refl c.add_rename.ensures.room
    (c.add_rename.ensures.added ∙ (λ i. if c.add_rename.result then same_bytes b (Rename c.in-Rename.old c.in-Rename.new) i else b)) c.open_with-in-Rename.ensures
    ∙ ap (λ (x : Command). with_part (parts_of b) (part_asked x c.args.bytes.now)) (sym c.in-Rename.is)

pub returns-in-Purge-clause-gathered : goal.returns-in-Purge-clause-gathered
returns-in-Purge-clause-gathered c =
    let b : BatchView = c.args.batch.now in
    added_gathered b c.add_purge.new.self (Purge c.in-Purge.name) (model.Purge (name_bytes c.in-Purge.name)) [] c.add_purge.result c.open_with-in-Purge.result
    c.requires.gathered tt refl refl c.add_purge.ensures.room
    (c.add_purge.ensures.added ∙ (λ i. if c.add_purge.result then same_bytes b (Purge c.in-Purge.name) i else b)) c.open_with-in-Purge.ensures

pub returns-in-Purge-clause-stands : goal.returns-in-Purge-clause-stands
returns-in-Purge-clause-stands c =
    let b : BatchView = c.args.batch.now in
    added_stands b c.add_purge.new.self (Purge c.in-Purge.name) (model.Purge (name_bytes c.in-Purge.name)) [] c.add_purge.result c.open_with-in-Purge.result
    c.requires.gathered tt refl refl c.add_purge.ensures.room
    (c.add_purge.ensures.added ∙ (λ i. if c.add_purge.result then same_bytes b (Purge c.in-Purge.name) i else b)) c.open_with-in-Purge.ensures
    ∙ ap (λ (x : Command). with_part (parts_of b) (part_asked x c.args.bytes.now)) (sym c.in-Purge.is)
