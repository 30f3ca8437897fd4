use Rattle.std.proofs.Common.{◌≡◌, ◌++◌, ◌∷◌, [], ap, ◌∙◌, map, List, ℕ, rules}
use Rattle.std.specs.Char.{to_ascii_uppercase}
use Rattle.hex.specs.Hex.{encode_lower, encode_upper}
use Rattle.il_script.proofs.UpperDigits.{upper-encode}
use Rattle.il_script.specs.Sheet.{Sheet}
use Rattle.il_script.proofs.page.Page.put_hex_byte.Goals as goal

pub returns-clause-text : goal.returns-clause-text
returns-clause-text c =
    let lower : c.encode_to_slice.new.output ≡ encode_lower (c.args.byte ∷ []) = search rules in
    let digits : c.make_ascii_uppercase.new.self ≡ encode_upper (c.args.byte ∷ []) =
    c.make_ascii_uppercase.ensures.after ∙ ap (λ (l : List ℕ). map to_ascii_uppercase l) lower ∙ upper-encode (c.args.byte ∷ []) in
    c.put.ensures ∙ ap (λ (l : List ℕ). let s : Sheet = record { text = c.args.self.now.text ++ l; room = c.args.self.now.room } in s) digits
