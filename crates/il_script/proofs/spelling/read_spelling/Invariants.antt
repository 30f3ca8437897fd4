use Rattle.std.proofs.Common.{◌≡◌, ◌++◌, ℕ, List, length, take}
use Rattle.std.specs.Option.{option_map}
use Rattle.il_script.specs.Spelling.{spelt}
use Rattle.il_script.proofs.spelling.read_spelling.Given as goal

-- the bytes so far, and those of the rest
pub record Sofar (text rest kept : List ℕ) : Type 0 where
  pub bytes : List ℕ
  pub is : spelt text ≡ option_map (λ more. bytes ++ more) (spelt rest)
  pub front : kept ≡ take 11 bytes

abbrev pub invariant-bytes : goal.invariant-bytes
invariant-bytes l = Sofar l.text l.rest l.bytes.items

abbrev pub decreases-bytes : goal.decreases-bytes
decreases-bytes l = length l.rest
