use Rattle.std.proofs.Common.{◌++◌, ◌%◌, codes}
use Rattle.il_script.specs.Replies.{next}
use Rattle.host_model.specs.Generated.{generated_name, rising}
use Rattle.host_model.specs.Replies.{bytes_text}
use Rattle.il_host.proofs.GeneratedRuns.{put_then}
use Rattle.il_host.proofs.generating.put_store_line.Goals as goal

pub returns-clause-text : goal.returns-clause-text
returns-clause-text c =
    let word = codes "store" ++ next (generated_name c.args.name) in
    let kind = codes " 0001 00000000" in
    let bytes = next (bytes_text (rising (c.args.name % 16) (c.args.size % 2000))) in
    put_then c.args.page.now c.put.new.self c.put_next_rising.new.page (word ++ kind) bytes
    (put_then c.args.page.now c.put_name_line.new.page c.put.new.self word kind c.put_name_line.ensures.text c.put.ensures) c.put_next_rising.ensures.text
