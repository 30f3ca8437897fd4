use Rattle.std.proofs.Common.{◌≡◌, ◌==◌, ◌∷◌, [], ◌++◌, ℕ, List, true, length, take, sym, ◌∙◌, arith}
use Rattle.std.proofs.lemmas.List.{take-append-le, take_all}
use Rattle.std.proofs.lemmas.Bool.Decides.{nat_tests}
use Rattle.il_script.proofs.spelling.keep_byte.Goals as goal

is-eleven : (n : ℕ) → (n == 11) ≡ true → n ≡ 11
is-eleven n h = grind (arith, nat_tests)

full-front : (kept : List ℕ) (byte : ℕ) → length kept ≡ 11 → kept ≡ take 11 (kept ++ byte ∷ [])
full-front kept byte h = sym (take-append-le 11 kept (byte ∷ []) (omega arith) ∙ take_all 11 kept (omega arith))

pub returns-then-is_full : goal.returns-then-is_full
returns-then-is_full c = full-front c.args.bytes.now.items c.args.byte (is-eleven _ (sym c.is_full.ensures.value ∙ c.if-is_full.true))
