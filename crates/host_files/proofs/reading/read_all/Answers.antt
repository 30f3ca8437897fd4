use Rattle.std.proofs.Common.{rules, ◌≡◌, ◌≤◌, ◌++◌, ℕ, List, take, drop, length, subst, sym, Ok, Err}
use Rattle.std.proofs.lemmas.List.{take-append-le}
use Rattle.std.specs.declared.io.Error.{Error}
use Rattle.il_ports.specs.Files.{Gave}
use Rattle.host_files.specs.HostFiles.{ReadsFrom, NoRead, OneMore, NotGiven, Ended}
use Rattle.host_files.proofs.reading.read_all.Goals as goal

pub pieces-init : goal.pieces-init
pieces-init g c = record {
  reads = subst (λ (l : List ℕ). ReadsFrom g.F.TapeFile.view c.args.file.now c.args.file.now l) (sym c.requires.empty) NoRead;
  few = search rules;
  room = search rules;
  piece = search rules;
  held = search rules;
  clean = search rules;
}

pub returns-in_default : goal.returns-in_default
returns-in_default g c =
    let from : c.len-in-pieces-2.result ≡ length c.pieces.bytes.items = search rules in
    NotGiven c.pieces.file c.pieces.bytes.items c.read_at.new.into c.in_default.field-0 c.pieces.invariant.reads
    (subst (λ (n : ℕ). Gave n c.read_at.new.into (g.F.TapeFile.view c.pieces.file) (g.F.TapeFile.view c.read_at.new.self) (Err c.in_default.field-0)) from c.in_default.ensures)

pub returns-then-count-eq0 : goal.returns-then-count-eq0
returns-then-count-eq0 g c =
    let from : c.len-in-pieces-2.result ≡ length c.pieces.bytes.items = search rules in
    Ended c.pieces.file c.pieces.bytes.items c.read_at.new.into c.pieces.invariant.reads (search rules) (search rules)
    (subst (λ (n : ℕ). Gave {E = Error} (length c.pieces.bytes.items) c.read_at.new.into (g.F.TapeFile.view c.pieces.file) (g.F.TapeFile.view c.read_at.new.self) (Ok n)) c.if-count-eq0.true
    (subst (λ (n : ℕ). Gave {E = Error} n c.read_at.new.into (g.F.TapeFile.view c.pieces.file) (g.F.TapeFile.view c.read_at.new.self) (Ok c.in-Ok.count)) from c.in-Ok.ensures))

pub pieces-preserved : goal.pieces-preserved
pieces-preserved g c =
    let from : c.len-in-pieces-2.result ≡ length c.pieces.bytes.items = search rules in
    let gave = subst (λ (n : ℕ). Gave {E = Error} n c.read_at.new.into (g.F.TapeFile.view c.pieces.file) (g.F.TapeFile.view c.read_at.new.self) (Ok c.in-Ok.count)) from c.in-Ok.ensures in
    let few : c.in-Ok.count ≤ length c.read_at.new.into = gave.answer_is.0 in
    let piece = take-append-le c.in-Ok.count c.read_at.new.into (drop c.min-room.result c.pieces.piece) few in
    let items : c.extend_from_slice.new.self.items ≡ c.pieces.bytes.items ++ take c.in-Ok.count c.read_at.new.into = search rules in
    record {
      reads = subst (λ (l : List ℕ). ReadsFrom g.F.TapeFile.view c.args.file.now c.read_at.new.self l) (sym items)
          (OneMore c.pieces.file c.read_at.new.self c.pieces.bytes.items c.read_at.new.into c.in-Ok.count c.pieces.invariant.reads gave);
      few = search rules;
      room = search rules;
      piece = search rules;
      held = search rules;
      clean = search rules;
    }
