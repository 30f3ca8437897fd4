-- The printed spelling of a name.
use Rattle.std.proofs.Common.{◌≡◌, ◌<◌, ℕ, List, [], ◌∷◌, length, refl, sym, ap, ◌∙◌, arith, codes}
use Rattle.std.specs.List.{flat_map}
use Rattle.lif_model.specs.Printed.{trimmed, printed, printed_text, printed_byte}

printed-none : (kept : List ℕ) → kept ≡ [] → printed_text kept ≡ codes "%20"
printed-none [] e = refl
printed-none (x ∷ kept) e = cc

printed-some : (kept : List ℕ) → 0 < length kept → printed_text kept ≡ flat_map printed_byte kept
printed-some [] h = absurd (omega arith)
printed-some (x ∷ kept) h = refl

-- a name of spaces alone
pub printed-spaces : (name kept : List ℕ) → kept ≡ trimmed name → kept ≡ [] → printed name ≡ codes "%20"
unfolding printed
printed-spaces name kept is none = printed-none (trimmed name) (sym is ∙ none)

-- any other name
pub printed-bytes : (name kept : List ℕ) → kept ≡ trimmed name → 0 < length kept → printed name ≡ flat_map printed_byte kept
unfolding printed
printed-bytes name kept is some = ap printed_text (sym is) ∙ printed-some kept some
