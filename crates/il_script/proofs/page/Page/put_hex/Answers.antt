use Rattle.std.proofs.Common.{◌≡◌, ◌++◌, sym, ap, ap₂, ◌∙◌, append_assoc, arith, List, ℕ}
use Rattle.std.proofs.lemmas.List.{take-append-drop}
use Rattle.hex.specs.Hex.{encode_upper}
use Rattle.il_script.specs.Sheet.{Sheet}
use Rattle.il_script.proofs.UpperDigits.{encode-append}
use Rattle.il_script.proofs.page.Page.put_hex.Goals as goal

pub pieces-preserved : goal.pieces-preserved
pieces-preserved c =
    let text = c.pieces.self.text in
    let block = c.split_at.result.0.now in
    let rest = c.split_at.result.1.now in
    let p = c.put_hex_block.ensures.text in
    let parts : block ++ rest ≡ c.pieces.rest.now =
    ap₂ (λ (a b : List ℕ). a ++ b) c.split_at.ensures.front c.split_at.ensures.back ∙ take-append-drop 512 c.pieces.rest.now in
    record {
      text = ap (λ (s : Sheet). s.text ++ encode_upper rest) p ∙ append_assoc text (encode_upper block) (encode_upper rest)
          ∙ ap (λ (l : List ℕ). text ++ l) (sym (encode-append block rest)) ∙ ap (λ (l : List ℕ). text ++ encode_upper l) parts ∙ c.pieces.invariant.text;
      room = ap (λ (s : Sheet). s.room) p ∙ c.pieces.invariant.room;
      size = omega (arith, c.put_hex_block.ensures.size, c.pieces.invariant.size, c.split_at.ensures.front_len, c.split_at.ensures.back_len);
    }
