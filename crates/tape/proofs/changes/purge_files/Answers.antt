use Rattle.std.proofs.Common.{◌∙◌, ap, length, map}
use Rattle.std.proofs.lemmas.List.{length-map}
use Rattle.tape_arguments.proofs.Spelt.{spelt_length}
use Rattle.tape.proofs.changes.purge_files.Goals as goal

pub purge_named-requires-clause-each : goal.purge_named-requires-clause-each
purge_named-requires-clause-each g c =
    ap length c.deref.ensures.value ∙ spelt_length (map (λ text. text.now) c.args.texts.now) c.in-Ok.names.items c.in-Ok.ensures.read ∙ length-map c.args.texts.now (λ text. text.now)
