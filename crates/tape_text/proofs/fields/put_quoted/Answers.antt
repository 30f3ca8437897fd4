use Rattle.std.proofs.Common.{◌++◌, ◌∷◌, ◌∙◌, [], ℕ, List, length, take, get_or, ap, arith, length-append}
use Rattle.std.proofs.lemmas.List.{append_assoc}
use Rattle.csv.proofs.WriteFacts.{quoted-step}
use Rattle.csv.specs.Writing.{default_writer, escaped, quote_mark}
use Rattle.il_script.specs.Sheet.{Sheet}
use Rattle.tape_text.proofs.Quoted.{escaped_part}
use Rattle.tape_text.proofs.fields.put_quoted.Goals as goal

pub bytes-init : goal.bytes-init
unfolding escaped
bytes-init c = record {
  text = ap (λ (s : Sheet). s.text) c.put.ensures;
  room = ap (λ (s : Sheet). s.room) c.put.ensures;
}

pub bytes-preserved : goal.bytes-preserved
bytes-preserved c =
    let page = c.args.page.now in
    let field = c.args.field.now in
    let i = c.bytes.byte-index in
    let byte = get_or field i 0 in
    record {
      text = ap (λ (s : Sheet). s.text) c.put_quoted_byte.ensures.text
          ∙ (λ k. c.bytes.invariant.text k ++ escaped default_writer (byte ∷ []))
          ∙ append_assoc page.text (quote_mark ∷ escaped default_writer (take i field)) (escaped default_writer (byte ∷ []))
          ∙ ap (λ (l : List ℕ). page.text ++ l) (quoted-step default_writer quote_mark field i (omega arith));
      room = ap (λ (s : Sheet). s.room) c.put_quoted_byte.ensures.text ∙ c.bytes.invariant.room;
    }

pub put_quoted_byte-requires : goal.put_quoted_byte-requires
put_quoted_byte-requires c =
    let page = c.args.page.now in
    let field = c.args.field.now in
    let i = c.bytes.byte-index in
    record {
      room = omega (
        arith,
        c.requires.room,
        ap length c.bytes.invariant.text,
        c.bytes.invariant.room,
        length-append page.text (quote_mark ∷ escaped default_writer (take i field)),
        length-append (escaped default_writer field) (quote_mark ∷ []),
        escaped_part field i (omega arith),
      );
    }
