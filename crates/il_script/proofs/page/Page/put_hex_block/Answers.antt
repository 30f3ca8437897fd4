use Rattle.std.proofs.Common.{◌≡◌, ◌++◌, ◌+◌, ◌*◌, ◌-◌, length, vec_len, replicate, take, is_ok, ap, ◌∙◌, map, List, ℕ, arith, rules}
use Rattle.std.specs.Char.{to_ascii_uppercase}
use Rattle.hex.specs.Hex.{encode_lower, encode_upper}
use Rattle.std.proofs.lemmas.List.{length-append, with_items_is}
use borrow.Rule.Slice.PartMut.{post_of}
use Rattle.il_script.proofs.DigitPlaces.{behind_text, places_behind}
use Rattle.il_script.proofs.UpperDigits.{upper-encode}
use Rattle.il_script.specs.Sheet.{Sheet}
use Rattle.il_script.proofs.page.Page.put_hex_block.Goals as goal

pub returns-clause-text : goal.returns-clause-text
returns-clause-text c =
    let text = c.self.inside.text.items in
    let lower : c.encode_to_slice.new.output ≡ encode_lower c.args.block.now = search rules in
    let digits : c.make_ascii_uppercase.new.self ≡ encode_upper c.args.block.now =
    c.make_ascii_uppercase.ensures.after ∙ ap (λ (l : List ℕ). map to_ascii_uppercase l) lower ∙ upper-encode c.args.block.now in
    let size = c.len-from.result + 2 * length c.args.block.now in
    let end : c.len-from.result ≡ length text = search rules in
    let more : List ℕ = replicate (size - vec_len c.self.inside.text) 0 in
    let is = c.deref_mut.ensures.value ∙ c.resize.ensures.items in
    let stands = behind_text (is_ok c.resize.result) text more c.deref_mut.result.now c.make_ascii_uppercase.new.self c.len-from.result size end (omega arith) is in
    let behind = places_behind (is_ok c.resize.result) text more c.deref_mut.result.now size (omega arith) is in
    let places = take c.len-from.result c.deref_mut.result.now ++ (c.make_ascii_uppercase.new.self ++ post_of c.len-from.result (length c.deref_mut.result.now - c.len-from.result) c.deref_mut.result.now) in
    let long : length places ≡ c.resize.new.self.len =
    ap (λ (l : List ℕ). length l) stands ∙ length-append text c.make_ascii_uppercase.new.self ∙ omega (arith, end, behind, c.deref_mut.ensures.len, c.make_ascii_uppercase.auto.self, c.encode_to_slice.auto.output) in
    let whole = with_items_is c.resize.new.self places long ∙ stands ∙ ap (λ (l : List ℕ). text ++ l) digits in
    let sheet = ap (λ (l : List ℕ). let s : Sheet = record { text = l; room = c.self.inside.room } in s) whole in
    rw (← c.self.view_is) sheet
