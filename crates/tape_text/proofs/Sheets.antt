-- Texts that are appended to a page one after the other.
use Rattle.std.proofs.Common.{◌≡◌, ◌++◌, ◌∙◌, ℕ, List, ap}
use Rattle.std.proofs.lemmas.List.{append_assoc}
use Rattle.il_script.specs.Sheet.{Sheet}

-- the page s with this text after its own
abbrev pub with_text : Sheet → List ℕ → Sheet
with_text s text = record s { text = s.text ++ text }

-- `front` was appended to s, and then `piece`, which is `back`
pub append_next : (s t u : Sheet) (front piece back : List ℕ) → t ≡ with_text s front → u ≡ with_text t piece → piece ≡ back → u ≡ with_text s (front ++ back)
append_next s t u front piece back first second is =
    second ∙ (λ i. with_text (first i) (is i)) ∙ ap (λ (l : List ℕ). record s { text = l }) (append_assoc s.text front back)
