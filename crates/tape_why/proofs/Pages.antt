-- Texts that are appended one after the other.
use Rattle.std.proofs.Common.{◌≡◌, ◌++◌, ◌∙◌, ℕ, List, ap}
use Rattle.std.proofs.lemmas.List.{append_assoc}
use Rattle.il_script.specs.Sheet.{Sheet}

pub two_texts : (s t u : Sheet) (a b : List ℕ) → t ≡ record s { text = s.text ++ a } → u ≡ record t { text = t.text ++ b } → u ≡ record s { text = s.text ++ (a ++ b) }
two_texts s t u a b first second =
    second ∙ ap (λ (x : Sheet). record x { text = x.text ++ b }) first ∙ ap (λ (l : List ℕ). record s { text = l }) (append_assoc s.text a b)

pub three_texts : (s t u v : Sheet) (a b c : List ℕ) → t ≡ record s { text = s.text ++ a } → u ≡ record t { text = t.text ++ b } → v ≡ record u { text = u.text ++ c }
    → v ≡ record s { text = s.text ++ (a ++ (b ++ c)) }
three_texts s t u v a b c first second third =
    two_texts s t v a (b ++ c) first (two_texts t u v b c second third)
