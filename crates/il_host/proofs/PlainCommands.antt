-- Every command of a script is plain.
use Rattle.std.proofs.Common.{◌≡◌, ◌∙◌, ◌≢◌, ◌<◌, ◌≤◌, ◌+◌, ◌*◌, ◌-◌, ◌&&◌, ◌||◌, ◌==◌, ℕ, Bool, true, false, List, [], ◌∷◌, Option, Some, None, refl, ap, subst, arith, length}
use Rattle.std.specs.Prelude.{Result, Ok, Err, if◌then◌else◌, option_and_then, codes, nat_lt, nat_le, not, fold}
use Rattle.std.proofs.lemmas.Bool.Decides.{nat_tests}
use Rattle.std.specs.Int.{from_be_bytes, w16}
use Rattle.std.specs.Str.{bytes_eq}
use Rattle.std.specs.List.{list_all}
use Rattle.std.proofs.lemmas.Bool.{and_parts}
use Rattle.lif_dir.specs.Names.{is_digit, name_of_bytes, new_label}
use Rattle.lif_dir.specs.declared.entries.Name.{Name}
use Rattle.il_script.specs.Words.{words_of, without_return, is_none, only_one, only_two, only_four}
use Rattle.il_script.specs.Digits.{file_type, hex_bytes, is_number, number_up_to, payload_of, type_in, value_of}
use Rattle.il_script.specs.Commands.{Asked, asked_of, command_of, command_read, format_of, in_form, is_comment, lend_of, put_of, lone_of, name_of_part, naming, new_name_of_bytes, not_skipped, reading_of, reading_of_words, rename_of, say_of, spelt_as, store_of, with_name, without_bytes, word_command}
use Rattle.il_script.specs.declared.limits.TheConstants.{MOST_SLOTS}
use Rattle.il_script.specs.declared.command.Command.{Command}
use Rattle.il_script.specs.declared.command.Command.TheVariants.{Dir, Label, Fetch, Store, Put, Get, Rename, Purge, Format, Adopt, Upgrade, Pack, Begin, Commit, Devices, Status, Poll, Paper}
use Rattle.il_script.specs.declared.command.LineFault.{LineFault}
use Rattle.il_host.specs.PlainCommands.{IsFormed, IsFormedRead}

-- of what was read, where it is a command
abbrev Plain : Result Command LineFault → Type 0
Plain (Ok command) = IsFormed command
Plain (Err fault) = Unit {0}

abbrev PlainAsked : Result Asked LineFault → Type 0
PlainAsked (Ok asked) = IsFormed asked.command
PlainAsked (Err fault) = Unit {0}

either : {X : Type 0} (P : X → Type 0) (b : Bool) (x y : X) → P x → P y → P (if b then x else y)
either P true x y one other = one
either P false x y one other = other

formed : {X Y : Type 0} (P : Result Y LineFault → Type 0) (o : Option X) (f : X → Result Y LineFault) → ((fault : LineFault) → P (Err fault)) → ((x : X) → o ≡ Some x → P (f x)) → P (in_form o f)
formed P None f bad good = bad _
formed P (Some x) f bad good = good x refl

named : {X Y : Type 0} (P : Result Y LineFault → Type 0) (o : Option X) (f : X → Result Y LineFault) → ((fault : LineFault) → P (Err fault)) → ((x : X) → P (f x)) → P (with_name o f)
named P None f bad good = bad _
named P (Some x) f bad good = good x

-- ---- types and numbers

some_type : (kind : ℕ) (zero full : Bool) (found : ℕ) → (kind == 0) ≡ zero → (kind == 0xFFFF) ≡ full → (if zero || full then None else Some kind) ≡ Some found → (found ≢ 0) × (found ≢ 0xFFFF)
some_type kind true full found a b is = cc
some_type kind false true found a b is = cc
some_type kind false false found a b is =
    let same : kind ≡ found = cc in
    ((λ zero. let clash : (kind == 0) ≡ true = ap (λ k. k == 0) (same ∙ zero) in cc), (λ full. let clash : (kind == 0xFFFF) ≡ true = ap (λ k. k == 0xFFFF) (same ∙ full) in cc))

type_some : (o : Option (List ℕ)) (f : List ℕ → ℕ) (found : ℕ) → option_and_then (λ bytes. file_type (f bytes)) o ≡ Some found → (found ≢ 0) × (found ≢ 0xFFFF)
type_some None f found is = cc
type_some (Some bytes) f found is = some_type (f bytes) (f bytes == 0) (f bytes == 0xFFFF) found refl refl is

grows : (value : ℕ) (text : List ℕ) → value ≤ fold (λ value digit. 10 * value + (digit - 48)) value text
grows value [] = omega arith
grows value (digit ∷ text) = let more = grows (10 * value + (digit - 48)) text in omega (arith, more)

above_zero : (digit : ℕ) → not (digit == 48) ≡ true → nat_le 48 digit ≡ true → 48 < digit
above_zero digit other low = grind (arith, nat_tests)

value_positive : (text : List ℕ) → is_number text ≡ true → 0 < value_of text
value_positive [] is = cc
value_positive (digit ∷ text) is =
    let rest = and_parts (nat_lt 0 (length (digit ∷ text))) (not (digit == 48) && list_all is_digit (digit ∷ text)) is in
    let parts = and_parts (not (digit == 48)) (list_all is_digit (digit ∷ text)) rest.1 in
    let digits = and_parts (is_digit digit) (list_all is_digit text) parts.1 in
    let low = and_parts (nat_le 48 digit) (nat_le digit 57) digits.0 in
    let above = above_zero digit parts.0 low.0 in
    let more = grows (10 * 0 + (digit - 48)) text in
    omega (arith, above, more)

some_if : {X : Type 0} (b : Bool) (x found : X) → (if b then Some x else None) ≡ Some found → (b ≡ true) × (x ≡ found)
some_if true x found is = let same : x ≡ found = cc in (refl, same)
some_if false x found is = cc

number_some : (most : ℕ) (text : List ℕ) (found : ℕ) → number_up_to most text ≡ Some found → 0 < found
number_some most text found is =
    let so = some_if (is_number text && nat_le (value_of text) most) (value_of text) found is in
    let positive = value_positive text (and_parts (is_number text) (nat_le (value_of text) most) so.0).0 in
    let same = so.1 in
    omega (arith, positive, same)

-- ---- the forms

plain_name : (f : Name → Command) (r : Result Name LineFault) → ((name : Name) → IsFormed (f name)) → Plain (naming f r)
plain_name f (Ok name) all = all name
plain_name f (Err fault) all = tt

plain_format : (parts : List (List ℕ)) → Plain (format_of parts)
plain_format parts =
    formed Plain (only_two parts) _ (λ fault. tt) (λ p is.
    formed Plain (spelt_as new_label p.0) _ (λ fault. tt) (λ label is.
    formed Plain (number_up_to MOST_SLOTS p.1) _ (λ fault. tt) (λ slots found.
    named Plain label (λ label. Ok (Format label slots)) (λ fault. tt) (λ label. number_some MOST_SLOTS p.1 slots found))))

few_frames : (most : ℕ) (text : List ℕ) (found : ℕ) → number_up_to most text ≡ Some found → (0 < found) × (found ≤ most)
few_frames most text found is =
    let so = some_if (is_number text && nat_le (value_of text) most) (value_of text) found is in
    let few = at_most (value_of text) most (and_parts (is_number text) (nat_le (value_of text) most) so.0).1 in
    let same = so.1 in
    (number_some most text found is, omega (arith, few, same))
  where
    at_most : (n m : ℕ) → nat_le n m ≡ true → n ≤ m
    at_most n m is = grind (arith, nat_tests)

plain_lend : (parts : List (List ℕ)) → Plain (lend_of parts)
plain_lend parts = formed Plain (only_one parts) _ (λ fault. tt) (λ part is. formed Plain (number_up_to 4096 part) _ (λ fault. tt) (λ frames found. few_frames 4096 part frames found))

plain_rename : (parts : List (List ℕ)) → Plain (rename_of parts)
plain_rename parts =
    formed Plain (only_two parts) _ (λ fault. tt) (λ p is.
    formed Plain (spelt_as name_of_bytes p.0) _ (λ fault. tt) (λ old is.
    formed Plain (spelt_as new_name_of_bytes p.1) _ (λ fault. tt) (λ new is.
    named Plain old (λ old. with_name new (λ new. Ok (Rename old new))) (λ fault. tt) (λ old. named Plain new (λ new. Ok (Rename old new)) (λ fault. tt) (λ new. tt)))))

plain_word : (word : List ℕ) (command : Command) → word_command word ≡ Some command → IsFormed command
plain_word word command is =
    by_words (bytes_eq word (codes "dir")) (bytes_eq word (codes "label")) (bytes_eq word (codes "adopt")) (bytes_eq word (codes "upgrade")) (bytes_eq word (codes "pack")) (bytes_eq word (codes "begin")) (bytes_eq word (codes "commit")) (bytes_eq word (codes "devices")) (bytes_eq word (codes "status")) (bytes_eq word (codes "poll")) (bytes_eq word (codes "paper")) is
  where
    plain_if : (b : Bool) (c : Command) (o : Option Command) → IsFormed c → (o ≡ Some command → IsFormed command) → (if b then Some c else o) ≡ Some command → IsFormed command
    plain_if true c o plain more is = let same : c ≡ command = cc in subst IsFormed same plain
    plain_if false c o plain more is = more is

    none : None ≡ Some command → IsFormed command
    none is = cc

    by_words : (a b d k p m n e f g h : Bool) → (if a then Some Dir else if b then Some Label else if d then Some Adopt else if k then Some Upgrade else if p then Some Pack else if m then Some Begin else if n then Some Commit else if e then Some Devices else if f then Some Status else if g then Some Poll else if h then Some Paper else None) ≡ Some command → IsFormed command
    by_words a b d k p m n e f g h =
        plain_if a Dir _ tt (plain_if b Label _ tt (plain_if d Adopt _ tt (plain_if k Upgrade _ tt (plain_if p Pack _ tt (plain_if m Begin _ tt (plain_if n Commit _ tt (plain_if e Devices _ tt (plain_if f Status _ tt (plain_if g Poll _ tt (plain_if h Paper _ tt none))))))))))

plain_lone : (word : List ℕ) (parts : List (List ℕ)) → Plain (lone_of word parts)
plain_lone word parts = formed Plain (word_command word) _ (λ fault. tt) (λ command is. either Plain (is_none parts) (Ok command) _ (plain_word word command is) tt)

plain_command : (word : List ℕ) (parts : List (List ℕ)) → Plain (command_of word parts)
plain_command word parts =
    either Plain (bytes_eq word (codes "fetch")) _ _ (plain_name Fetch (name_of_part parts) (λ name. tt))
    (either Plain (bytes_eq word (codes "get")) _ _ (plain_name Get (name_of_part parts) (λ name. tt))
    (either Plain (bytes_eq word (codes "purge")) _ _ (plain_name Purge (name_of_part parts) (λ name. tt))
    (either Plain (bytes_eq word (codes "rename")) _ _ (plain_rename parts)
    (either Plain (bytes_eq word (codes "format")) _ _ (plain_format parts)
    (either Plain (bytes_eq word (codes "lend")) _ _ (plain_lend parts) (plain_lone word parts))))))

plain_bare : (r : Result Command LineFault) → Plain r → PlainAsked (without_bytes r)
plain_bare (Ok command) plain = plain
plain_bare (Err fault) plain = tt

plain_store : (parts : List (List ℕ)) → PlainAsked (store_of parts)
plain_store parts =
    formed PlainAsked (only_four parts) _ (λ fault. tt) (λ p is.
    formed PlainAsked (spelt_as new_name_of_bytes p.0) _ (λ fault. tt) (λ name is.
    formed PlainAsked (type_in p.1) _ (λ fault. tt) (λ kind found.
    formed PlainAsked (hex_bytes 4 p.2) _ (λ fault. tt) (λ implementation is.
    formed PlainAsked (payload_of p.3) _ (λ fault. tt) (λ bytes is.
    named PlainAsked name (λ name. Ok (record { command = Store name kind implementation; bytes = bytes })) (λ fault. tt) (λ name. type_some (hex_bytes 2 p.1) (from_be_bytes w16) kind found))))))

plain_put : (parts : List (List ℕ)) → PlainAsked (put_of parts)
plain_put parts =
    formed PlainAsked (only_two parts) _ (λ fault. tt) (λ p is.
    formed PlainAsked (spelt_as new_name_of_bytes p.0) _ (λ fault. tt) (λ name is.
    formed PlainAsked (payload_of p.1) _ (λ fault. tt) (λ bytes is.
    named PlainAsked name (λ name. Ok (record { command = Put name; bytes = bytes })) (λ fault. tt) (λ name. tt))))

plain_say : (parts : List (List ℕ)) → PlainAsked (say_of parts)
plain_say parts =
    formed PlainAsked (only_one parts) _ (λ fault. tt) (λ part is. formed PlainAsked (payload_of part) _ (λ fault. tt) (λ bytes is. tt))

plain_asked : (word : List ℕ) (parts : List (List ℕ)) → PlainAsked (asked_of word parts)
plain_asked word parts =
    either PlainAsked (bytes_eq word (codes "store")) _ _ (plain_store parts)
    (either PlainAsked (bytes_eq word (codes "put")) _ _ (plain_put parts)
    (either PlainAsked (bytes_eq word (codes "say")) _ _ (plain_say parts) (plain_bare (command_of word parts) (plain_command word parts))))

-- ---- lines

plain_one : (r : Result Asked LineFault) (command : Command) → PlainAsked r → command_read (not_skipped r) ≡ Ok (Some command) → IsFormed command
plain_one (Ok asked) command plain is = let same : asked.command ≡ command = cc in subst IsFormed same plain
plain_one (Err fault) command plain is = cc

plain_words : (words : List (List ℕ)) (command : Command) → command_read (reading_of_words words) ≡ Ok (Some command) → IsFormed command
plain_words [] command is = cc
plain_words (word ∷ parts) command is = by (is_comment word) is
  where
    by : (b : Bool) → command_read (if b then Ok None else not_skipped (asked_of word parts)) ≡ Ok (Some command) → IsFormed command
    by true is = cc
    by false is = plain_one (asked_of word parts) command (plain_asked word parts) is

-- what a line asks for
pub plain_read : (line : List ℕ) (command : Command) → command_read (reading_of line) ≡ Ok (Some command) → IsFormed command
plain_read line command is = plain_words (words_of (without_return line)) command is

-- of a line that is skipped nothing is asked
pub read_formed : (line : List ℕ) (read : Option Command) → command_read (reading_of line) ≡ Ok read → IsFormedRead (Ok read)
read_formed line None is = tt
read_formed line (Some command) is = plain_read line command is
