use Rattle.std.proofs.Common.{◌≡◌, ◌++◌, length}
use Rattle.std.specs.List.{All}
use Rattle.lif_text.specs.Cutting.{cut_lines}
use Rattle.lif_text.specs.Format.{IsTextLine, encode}
use Rattle.lif_text.proofs.buffer.TextBuffer.fill.Given as goal

abbrev pub invariant-loop-rest : goal.invariant-loop-rest
invariant-loop-rest l = record {
  made : l.self.bytes ++ encode (cut_lines l.rest) ≡ encode (cut_lines l.text);
  short : All IsTextLine (cut_lines l.rest);
  room : l.self.room ≡ l.fn.self.room;
}

abbrev pub decreases-loop-rest : goal.decreases-loop-rest
decreases-loop-rest l = length l.rest
