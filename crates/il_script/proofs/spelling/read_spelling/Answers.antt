use Rattle.std.proofs.Common.{◌≡◌, ◌-◌, ◌∷◌, [], ◌++◌, ℕ, List, Option, Some, None, length, take, drop, refl, sym, ap, ◌∙◌, append_assoc}
use Rattle.std.specs.Option.{option_map}
use Rattle.il_script.specs.Spelling.{spelt}
use Rattle.il_script.proofs.Gives.{take-front}
use Rattle.il_script.proofs.WordCuts.{rest_whole}
use Rattle.il_script.proofs.spelling.read_spelling.Goals as goal

one-more : (bytes : List ℕ) (byte : ℕ) (rest : Option (List ℕ)) → option_map (λ more. bytes ++ more) (option_map (λ more. byte ∷ more) rest) ≡ option_map (λ more. (bytes ++ byte ∷ []) ++ more) rest
one-more bytes byte None = refl
one-more bytes byte (Some more) = ap Some (sym (append_assoc bytes (byte ∷ []) more))

pub bytes-preserved : goal.bytes-preserved
bytes-preserved c =
    let bytes = c.bytes.invariant.bytes in
    let byte = c.in_ok-byte.byte in
    let rest = c.bytes.rest.now in
    let behind : take (length rest - c.in_ok-byte.count) (drop c.in_ok-byte.count rest) ≡ drop c.in_ok-byte.count rest = rest_whole rest c.in_ok-byte.count in
    record {
      bytes = bytes ++ byte ∷ [];
      is = c.bytes.invariant.is ∙ ap (option_map (λ more. bytes ++ more)) c.in_ok-byte.ensures.0 ∙ one-more bytes byte (spelt (drop c.in_ok-byte.count rest))
          ∙ ap (λ l. option_map (λ more. (bytes ++ byte ∷ []) ++ more) (spelt l)) (sym behind);
      front = c.keep_byte.ensures ∙ ap (λ l. take 11 (l ++ byte ∷ [])) c.bytes.invariant.front ∙ take-front 11 bytes (byte ∷ []);
    }
