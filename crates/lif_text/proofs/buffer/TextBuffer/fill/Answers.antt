use Rattle.std.proofs.Common.{◌≡◌, ◌++◌, ℕ, List, length, sym, ap, subst, ◌∙◌, arith}
use Rattle.std.specs.List.{All}
use Rattle.std.proofs.lemmas.Bool.Decides.{nat_tests}
use Rattle.std.proofs.lemmas.Grind.{common_steps}
use Rattle.std.proofs.lemmas.List.Elements.{All-rest}
use Rattle.lif_text.specs.Buffer.{BufferView}
use Rattle.lif_text.specs.Format.{IsTextLine, Text, encode}
use Rattle.lif_text.specs.Cutting.{cut_lines}
use Rattle.lif_text.proofs.Cuts.{all_short, encode_text, length-encode-cut, room_for, room_for_line, made_more, none_left}
use Rattle.lif_text.proofs.buffer.TextBuffer.fill.Goals as goal

pub loop-rest-init : goal.loop-rest-init
loop-rest-init c =
    record {
      made = ap (λ (made : List ℕ). made ++ encode (cut_lines c.args.text.now)) c.clear.ensures.items;
      short = all_short 1 (cut_lines c.args.text.now) (sym c.in_ok-check_lines.ensures);
      room = ap (λ (b : BufferView). b.room) c.self.view_is;
    }

pub put_line-requires-clause-room : goal.put_line-requires-clause-room
put_line-requires-clause-room c =
    let room = room_for_line c.loop-rest.self.bytes c.first_line.result.0.now c.loop-rest.rest.now c.first_line.result.1.now c.args.text.now c.loop-rest.invariant.made c.first_line.ensures.lines in
    omega (arith, c.loop-rest.invariant.room, c.requires)

pub loop-rest-preserved : goal.loop-rest-preserved
loop-rest-preserved c = record {
  made = ap (λ (b : BufferView). b.bytes ++ encode (cut_lines c.first_line.result.1.now)) c.put_line.ensures
      ∙ made_more c.loop-rest.self.bytes c.first_line.result.0.now c.loop-rest.rest.now c.first_line.result.1.now c.args.text.now c.loop-rest.invariant.made c.first_line.ensures.lines;
  short = All-rest IsTextLine c.first_line.result.0.now (cut_lines c.first_line.result.1.now) (cut_lines c.loop-rest.rest.now) c.first_line.ensures.lines c.loop-rest.invariant.short;
  room = ap (λ (b : BufferView). b.room) c.put_line.ensures ∙ c.loop-rest.invariant.room;
}

pub put-requires : goal.put-requires
put-requires c =
    let room = room_for c.loop-rest.self.bytes c.loop-rest.rest.now c.args.text.now c.loop-rest.invariant.made in
    let none : length c.loop-rest.rest.now ≡ 0 = grind (arith, nat_tests) in
    let two : length c.to_be_bytes.result ≡ 2 = ap length c.to_be_bytes.ensures in
    omega (arith, ap length (none_left c.loop-rest.rest.now none), c.loop-rest.invariant.room, c.requires)

pub returns-clause-size : goal.returns-clause-size
returns-clause-size c =
    let whole : c.put.new.self.bytes ≡ encode (cut_lines c.args.text.now) = grind (arith, common_steps) in
    omega (arith, ap length whole, length-encode-cut c.args.text.now)

pub returns-clause-read : goal.returns-clause-read
returns-clause-read c =
    let whole : c.put.new.self.bytes ≡ encode (cut_lines c.args.text.now) = grind (arith, common_steps) in
    let short : All IsTextLine (cut_lines c.args.text.now) = all_short 1 (cut_lines c.args.text.now) (sym c.in_ok-check_lines.ensures) in
    subst (λ (bytes : List ℕ). (more : List ℕ) → Text (cut_lines c.args.text.now) (bytes ++ more)) (sym whole) (λ more. encode_text (cut_lines c.args.text.now) more short)
