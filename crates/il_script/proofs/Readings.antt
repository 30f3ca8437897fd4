-- What a line that is not skipped asks for.
use Rattle.std.proofs.Common.{◌≡◌, ℕ, ◌<◌, ◌==◌, false, cond, List, [], ◌∷◌, Some, None, Result, Ok, Err, length, refl, sym, ap, ◌∙◌, arith}
use Rattle.std.proofs.lemmas.Bool.Decides.{nat_tests}
use Rattle.il_script.specs.Words.{IsNext, words_of, without_return}
use Rattle.il_script.specs.Commands.{is_comment, Asked, asked_of, not_skipped, reading_of_words, reading_of, command_in, bytes_in, command_read, bytes_read}
use Rattle.il_script.specs.declared.command.Command.{Command}
use Rattle.il_script.specs.declared.command.LineFault.{LineFault}

asked-words : (line word rest : List ℕ) → IsNext line word rest → 0 < length word → is_comment word ≡ false → reading_of_words (words_of line) ≡ not_skipped (asked_of word (words_of rest))
asked-words line [] rest next some other = absurd (omega arith)
asked-words line (x ∷ word) rest next some other =
    ap reading_of_words next ∙ ap (λ b. cond b (Ok None) (not_skipped (asked_of (x ∷ word) (words_of rest)))) other

is-some : (n : ℕ) → false ≡ (n == 0) → 0 < n
is-some n h = grind (arith, nat_tests)

-- there is a first word, and it is no comment
pub asked-line : (line seen word rest : List ℕ) → seen ≡ without_return line → IsNext seen word rest → false ≡ (length word == 0) → is_comment word ≡ false
    → reading_of line ≡ not_skipped (asked_of word (words_of rest))
asked-line line seen word rest is next some other = ap (λ l. reading_of_words (words_of l)) (sym is) ∙ asked-words seen word rest next (is-some (length word) some) other

pub read-command : (asked : Result Asked LineFault) (command : Command) → Ok command ≡ command_in asked → Ok (Some command) ≡ command_read (not_skipped asked)
read-command (Ok asked) command h = let is : command ≡ asked.command = cc in ap (λ c. Ok (Some c)) is
read-command (Err fault) command h = cc

pub read-fault : (asked : Result Asked LineFault) (fault : LineFault) → Err fault ≡ command_in asked → Err fault ≡ command_read (not_skipped asked)
read-fault (Ok asked) fault h = cc
read-fault (Err other) fault h = let is : fault ≡ other = cc in ap Err is

pub read-bytes : (asked : Result Asked LineFault) → bytes_in asked ≡ bytes_read (not_skipped asked)
read-bytes (Ok asked) = refl
read-bytes (Err fault) = refl
