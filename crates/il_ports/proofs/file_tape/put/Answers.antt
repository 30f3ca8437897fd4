use Rattle.std.proofs.Common.{arith, rules}
use Rattle.il_ports.proofs.FileCalls.{writes_first, writes_on, put_not, put_all}
use Rattle.il_ports.proofs.FileBytes.{rest_of}
use Rattle.il_ports.proofs.file_tape.put.Goals as goal

pub pieces-init : goal.pieces-init
pieces-init g c = record { bound = omega arith; writing = writes_first c.args.from c.args.bytes.now (g.F.TapeFile.view c.args.file.now) c.requires.clean }

pub returns-in_err-written : goal.returns-in_err-written
returns-in_err-written g c =
    put_not c.args.from c.args.bytes.now c.pieces.written _ _ _ _ _ c.from_residual.result (search rules) (search rules) (rest_of c.pieces.written c.args.bytes.now (search rules)) c.pieces.invariant.writing c.in_err-written.ensures

pub pieces-preserved : goal.pieces-preserved
pieces-preserved g c = record {
  bound = search rules;
  writing = writes_on c.args.from c.args.bytes.now c.pieces.written c.in_ok-written.field-0 _ _ _ _ (search rules) (rest_of c.pieces.written c.args.bytes.now (search rules)) c.pieces.invariant.writing c.in_ok-written.ensures;
}

pub returns : goal.returns
returns g c = put_all c.args.from c.args.bytes.now c.pieces.written _ _ _ (search rules) c.pieces.invariant.writing
