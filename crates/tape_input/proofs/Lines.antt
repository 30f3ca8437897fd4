-- The parts of a message on a line of a text.
use Rattle.std.proofs.Common.{◌≡◌, ◌∙◌, ◌++◌, ℕ, List, [], append_assoc, append-nil, sym, ap, subst}
use Rattle.std.specs.Prelude.{codes, decimal}
use Rattle.tape_volumes.specs.Endings.{told_line}
use Rattle.tape_input.specs.Messages.{long_line_text}

-- seven parts, one after the other, of which the fourth to the sixth are the cause, and there is no advice
as_line : (a b c d e f g : List ℕ) → a ++ (b ++ (c ++ (d ++ (e ++ (f ++ (g ++ [])))))) ≡ ((((a ++ b) ++ c) ++ ((d ++ e) ++ f)) ++ []) ++ g
as_line a b c d e f g = sym (
    ap (λ (l : List ℕ). l ++ g) (append-nil (((a ++ b) ++ c) ++ ((d ++ e) ++ f)))
    ∙ append_assoc ((a ++ b) ++ c) ((d ++ e) ++ f) g
    ∙ ap (λ (l : List ℕ). ((a ++ b) ++ c) ++ l) (append_assoc (d ++ e) f g ∙ append_assoc d e (f ++ g))
    ∙ append_assoc (a ++ b) c (d ++ (e ++ (f ++ g)))
    ∙ append_assoc a b (c ++ (d ++ (e ++ (f ++ g))))
    ∙ ap (λ (l : List ℕ). a ++ (b ++ (c ++ (d ++ (e ++ (f ++ l)))))) (sym (append-nil g))
    )

pub long_line_parts : (name : List ℕ) (number : ℕ) (n d : List ℕ) → n ≡ name → d ≡ decimal number
    → codes "tape: " ++ (n ++ (codes ": " ++ (codes "line " ++ (d ++ (codes " has more than 32767 bytes" ++ (codes "\n" ++ [])))))) ≡ told_line name (long_line_text number) []
long_line_parts name number n d is so =
    ap (λ (l : List ℕ). codes "tape: " ++ (l ++ (codes ": " ++ (codes "line " ++ (d ++ (codes " has more than 32767 bytes" ++ (codes "\n" ++ []))))))) is
    ∙ ap (λ (l : List ℕ). codes "tape: " ++ (name ++ (codes ": " ++ (codes "line " ++ (l ++ (codes " has more than 32767 bytes" ++ (codes "\n" ++ []))))))) so
    ∙ as_line (codes "tape: ") name (codes ": ") (codes "line ") (decimal number) (codes " has more than 32767 bytes") (codes "\n")
