-- How long a cell is as a field of CSV: as long as its text, if no byte of it calls for quotes. A name or a label has at most three bytes for
-- each of its own, and two quotes.
use Rattle.std.proofs.Common.{◌≡◌, ◌≤◌, ◌<◌, ◌+◌, ◌*◌, ◌^◌, ◌/◌, ◌%◌, ◌++◌, ◌∷◌, ◌∙◌, ◌==◌, ◌||◌, if◌then◌else◌, ℕ, zero, suc, Bool, true, false, List, [], length, codes, decimal, drop, get_or, take, ap, refl, subst, sym, arith, length-append, Option, Some, None}
use Rattle.std.specs.List.{flat_map, list_any}
use Rattle.std.proofs.lemmas.Bool.{ne_eqb}
use Rattle.std.proofs.lemmas.Fmt.{decimal_by_steps}
use Rattle.std.proofs.lemmas.List.{take-append-drop, take_more}
use Rattle.std.proofs.lemmas.List.Folds.{list_any-append}
use Rattle.csv.proofs.WriteFacts.{escaped-append}
use Rattle.csv.specs.Writing.{default_writer, escaped, field_text, needs_byte, needs_quotes}
use Rattle.hex.specs.Hex.{encode_upper, encode_with, upper_digits}
use Rattle.il_script.specs.Sheet.{Sheet}
use Rattle.lif_model.specs.Printed.{is_plain, printed_byte, printed_text, printed, trimmed}
use Rattle.tape_names.specs.declared.dates.Moment.{Moment}
use Rattle.tape_text.specs.Listing.{date_text, day_text, digit_pair, four_digits, time_text}
use Rattle.tape_text.proofs.Escaped.{trimmed_short}
use Rattle.tape_text.proofs.Sheets.{with_text}

-- ---- texts that are not quoted

-- no byte calls for quotes
abbrev pub IsBare : List ℕ → Type 0
IsBare text = needs_quotes default_writer text ≡ false

bare_byte : (b : ℕ) → 44 < b → needs_byte default_writer b ≡ false
bare_byte b above =
    rw (ne_eqb b 44 (λ e. omega (arith, above, e)), ne_eqb b 34 (λ e. omega (arith, above, e)), ne_eqb b 13 (λ e. omega (arith, above, e)), ne_eqb b 10 (λ e. omega (arith, above, e))) refl

bare_append : (xs ys : List ℕ) → IsBare xs → IsBare ys → IsBare (xs ++ ys)
bare_append xs ys first second = list_any-append (needs_byte default_writer) xs ys ∙ rw (first, second) refl

or-left-false : (a b : Bool) → (a || b) ≡ false → a ≡ false
or-left-false false b e = refl
or-left-false true b e = cc e

or-right-false : (a b : Bool) → (a || b) ≡ false → b ≡ false
or-right-false false b e = e
or-right-false true b e = cc e

-- an element of a list, or 0, fails a test that all elements and 0 fail
at_none : (p : ℕ → Bool) (xs : List ℕ) (i : ℕ) → p 0 ≡ false → list_any p xs ≡ false → p (get_or xs i 0) ≡ false
at_none p [] i past none = past
at_none p (x ∷ xs) zero past none = or-left-false (p x) (list_any p xs) none
at_none p (x ∷ xs) (suc i) past none = at_none p xs i past (or-right-false (p x) (list_any p xs) none)

hex_bare : (bytes : List ℕ) → IsBare (encode_upper bytes)
unfolding encode_with
hex_bare [] = refl
hex_bare (b ∷ rest) =
    rw (at_none (needs_byte default_writer) upper_digits (b / 16) refl refl, at_none (needs_byte default_writer) upper_digits (b % 16) refl refl) (hex_bare rest)

decimal_bare : (n : ℕ) → n < 2 ^ 64 → IsBare (decimal n)
decimal_bare n small = decimal_by_steps (λ m ds. IsBare ds) (λ m few. rw (bare_byte (48 + m) (omega arith)) refl) (λ m ds many before. bare_append ds ((48 + m % 10) ∷ []) before (rw (bare_byte (48 + m % 10) (omega arith)) refl)) n small

pair_bare : (n : ℕ) → IsBare (digit_pair n)
unfolding digit_pair
pair_bare n = rw (bare_byte (48 + n / 10) (omega arith), bare_byte (48 + n % 10) (omega arith)) refl

four_bare : (n : ℕ) → IsBare (four_digits n)
unfolding four_digits
four_bare n = bare_append (digit_pair (n / 100)) (digit_pair (n % 100)) (pair_bare (n / 100)) (pair_bare (n % 100))

day_bare : (m : Moment) → IsBare (day_text m)
unfolding day_text
day_bare m =
    bare_append (four_digits m.year ++ codes "-" ++ digit_pair m.month ++ codes "-") (digit_pair m.day)
    (bare_append (four_digits m.year ++ codes "-" ++ digit_pair m.month) (codes "-")
    (bare_append (four_digits m.year ++ codes "-") (digit_pair m.month)
    (bare_append (four_digits m.year) (codes "-") (four_bare m.year) refl)
    (pair_bare m.month))
    refl)
    (pair_bare m.day)

time_bare : (m : Moment) → IsBare (time_text m)
unfolding time_text
time_bare m =
    bare_append (digit_pair m.hour ++ codes ":") (digit_pair m.minute) (bare_append (digit_pair m.hour) (codes ":") (pair_bare m.hour) refl) (pair_bare m.minute)

date_bare : (date : Option Moment) → IsBare (date_text date)
date_bare None = refl
date_bare (Some m) = bare_append (day_text m ++ codes " ") (time_text m) (bare_append (day_text m) (codes " ") (day_bare m) refl) (time_bare m)

bare_small : (text bare : List ℕ) (k : ℕ) → text ≡ bare → IsBare bare → length text ≤ k → length (field_text default_writer text) ≤ k
bare_small text bare k is none small = let here : IsBare text = subst IsBare (sym is) none in rw here small

-- ---- the cells

-- the text of a cell is what was put into it after it was cleared
pub cell_text : (s t u : Sheet) (piece : List ℕ) → t ≡ record s { text = [] } → u ≡ with_text t piece → u.text ≡ piece
cell_text s t u piece cleared put = ap (λ (x : Sheet). x.text) put ∙ ap (λ (x : Sheet). x.text ++ piece) cleared

pub hex_small : (text bytes : List ℕ) (k : ℕ) → text ≡ encode_upper bytes → length text ≤ k → length (field_text default_writer text) ≤ k
hex_small text bytes k is small = bare_small text (encode_upper bytes) k is (hex_bare bytes) small

pub decimal_small : (text : List ℕ) (n k : ℕ) → n < 2 ^ 64 → text ≡ decimal n → length text ≤ k → length (field_text default_writer text) ≤ k
decimal_small text n k fits is small = bare_small text (decimal n) k is (decimal_bare n fits) small

pub date_small : (text : List ℕ) (date : Option Moment) (k : ℕ) → text ≡ date_text date → length text ≤ k → length (field_text default_writer text) ≤ k
date_small text date k is small = bare_small text (date_text date) k is (date_bare date) small

-- ---- quoted texts

escaped_long : (text : List ℕ) → length text ≤ length (escaped default_writer text)
unfolding escaped
escaped_long [] = omega arith
escaped_long (b ∷ rest) = go (b == 34) (escaped_long rest)
  where
    go : (quote : Bool) → length rest ≤ length (escaped default_writer rest) → length (b ∷ rest) ≤ length (if quote then 34 ∷ b ∷ escaped default_writer rest else b ∷ escaped default_writer rest)
    go true long = omega (arith, long)
    go false long = omega (arith, long)

escaped_double : (text : List ℕ) → length (escaped default_writer text) ≤ 2 * length text
unfolding escaped
escaped_double [] = omega arith
escaped_double (b ∷ rest) = go (b == 34) (escaped_double rest)
  where
    go : (quote : Bool) → length (escaped default_writer rest) ≤ 2 * length rest → length (if quote then 34 ∷ b ∷ escaped default_writer rest else b ∷ escaped default_writer rest) ≤ 2 * length (b ∷ rest)
    go true small = omega (arith, small)
    go false small = omega (arith, small)

field_escaped : (text : List ℕ) → length (field_text default_writer text) ≤ length (escaped default_writer text) + 2
field_escaped text = go (needs_quotes default_writer text)
  where
    go : (quoted : Bool) → length (if quoted then 34 ∷ (escaped default_writer text ++ 34 ∷ []) else text) ≤ length (escaped default_writer text) + 2
    go true = omega (arith, length-append (escaped default_writer text) (34 ∷ []))
    go false = omega (arith, escaped_long text)

-- any text has at most twice as many bytes, and two quotes
pub field_double : (text : List ℕ) → length (field_text default_writer text) ≤ 2 * length text + 2
field_double text = omega (arith, field_escaped text, escaped_double text)

-- a byte of a text and those before it have no more than the text
pub escaped_part : (text : List ℕ) (i : ℕ) → i < length text
    → length (escaped default_writer (take i text)) + length (escaped default_writer (get_or text i 0 ∷ [])) ≤ length (escaped default_writer text)
escaped_part text i lt =
    let first = take (i + 1) text in
    let rest = drop (i + 1) text in
    omega (
      arith,
      ap (λ (l : List ℕ). length (escaped default_writer l)) (take-append-drop (i + 1) text),
      ap length (escaped-append default_writer first rest),
      length-append (escaped default_writer first) (escaped default_writer rest),
      ap (λ (l : List ℕ). length (escaped default_writer l)) (take_more text i 0 lt),
      ap length (escaped-append default_writer (take i text) (get_or text i 0 ∷ [])),
      length-append (escaped default_writer (take i text)) (escaped default_writer (get_or text i 0 ∷ [])),
    )

-- ---- names and labels

hex_escaped : (b : ℕ) → escaped default_writer (37 ∷ encode_upper (b ∷ [])) ≡ 37 ∷ encode_upper (b ∷ [])
unfolding escaped encode_with
hex_escaped b = rw (at_none (λ c. c == 34) upper_digits (b / 16) refl refl, at_none (λ c. c == 34) upper_digits (b % 16) refl refl) refl

byte_escaped : (b : ℕ) → length (escaped default_writer (printed_byte b)) ≤ 3
unfolding encode_with
byte_escaped b = go (is_plain b)
  where
    go : (plain : Bool) → length (escaped default_writer (if plain then b ∷ [] else 37 ∷ encode_upper (b ∷ []))) ≤ 3
    go true = omega (arith, escaped_double (b ∷ []))
    go false = omega (arith, ap length (hex_escaped b))

bytes_escaped : (text : List ℕ) → length (escaped default_writer (flat_map printed_byte text)) ≤ 3 * length text
unfolding escaped
bytes_escaped [] = omega arith
bytes_escaped (b ∷ text) =
    omega (
      arith,
      ap length (escaped-append default_writer (printed_byte b) (flat_map printed_byte text)),
      length-append (escaped default_writer (printed_byte b)) (escaped default_writer (flat_map printed_byte text)),
      byte_escaped b,
      bytes_escaped text,
    )

-- a name or a label
pub printed_small : (text name : List ℕ) (n : ℕ) → length name ≡ suc n → text ≡ printed name → length (field_text default_writer text) ≤ 3 * suc n + 2
unfolding printed escaped
printed_small text name n is_long is =
    omega (arith, is_long, ap (λ (l : List ℕ). length (field_text default_writer l)) is, field_escaped (printed name), go (trimmed name) (trimmed_short name))
  where
    go : (kept : List ℕ) → length kept ≤ length name → length (escaped default_writer (printed_text kept)) ≤ 3 * length name
    go [] few = omega (arith, is_long)
    go (b ∷ kept) few = omega (arith, bytes_escaped (b ∷ kept), few)
