use Rattle.tape_volumes.specs.Endings.{advice_of, cause_of}
use Rattle.tape_volumes.proofs.Said.{says_of_file, told_file_parts}
use Rattle.tape_volumes.proofs.messages.write_of_file.Goals as goal

pub returns : goal.returns
returns g c =
    let e = c.args.ending in
    let same =
    told_file_parts c.args.image.now c.args.file.now (cause_of e) (advice_of e) c.as_bytes.result.now c.as_bytes-2.result.now c.cause.result.now c.advice.result.now
    c.as_bytes.ensures.value c.as_bytes-2.ensures.value c.cause.ensures c.advice.ensures in
    says_of_file c.args.image.now c.args.file.now e _ _ _ _ c.write_parts.result _ same c.write_parts.ensures.parts c.write_parts.ensures.cause
