-- The script that a run makes by itself, of a seed and a number of lines: this project's own.
use Rattle.std.specs.Prelude.{ℕ, Bool, zero, suc, ◌+◌, ◌*◌, ◌/◌, ◌%◌, ◌==◌, nat_lt, if◌then◌else◌, List, [], ◌∷◌, ◌++◌, map, codes, Some}
use Rattle.il_script.specs.Replies.{next}
use Rattle.host_model.specs.Requests.{Item, lone_items}
use Rattle.host_model.specs.Replies.{bytes_text}

-- ---- draws

-- the state after a draw
abbrev pub draw : ℕ → ℕ
draw x = (x * 1103515245 + 12345) % 2147483648

-- the number that a draw gives, by the state after it
abbrev pub drawn : ℕ → ℕ
drawn x = x / 65536

-- ---- lines

-- two decimal digits
abbrev pub two_digits : ℕ → List ℕ
two_digits n = (48 + n / 10) ∷ (48 + n % 10) ∷ []

-- one of sixteen names, F00 to F15
abbrev pub generated_name : ℕ → List ℕ
generated_name j = codes "F" ++ two_digits (j % 16)

-- so many bytes, each one more than the byte before
abbrev pub rising : ℕ → ℕ → List ℕ
rising first zero = []
rising first (suc count) = first % 256 ∷ rising (first + 1) count

-- `store NAME 0001 00000000 HEX` of up to 1,999 bytes
abbrev pub store_line : ℕ → ℕ → List ℕ
store_line j l = codes "store" ++ next (generated_name j) ++ next (codes "0001") ++ next (codes "00000000")
    ++ next (bytes_text (rising (j % 16) (l % 2000)))

abbrev pub purge_line : ℕ → List ℕ
purge_line j = codes "purge" ++ next (generated_name j)

abbrev pub fetch_line : ℕ → List ℕ
fetch_line j = codes "fetch" ++ next (generated_name j)

-- the second draw of a line chooses its command: of four numbers two store
abbrev pub stores : ℕ → Bool
stores c = nat_lt (c % 4) 2

abbrev pub chosen_line : ℕ → ℕ → ℕ → List ℕ
chosen_line j c l = if stores c then store_line j l else if c % 4 == 2 then purge_line j else fetch_line j

-- the lines after the first, from this state on: two draws a line, and a third one for the size of a file
abbrev pub more_lines : ℕ → ℕ → List (List ℕ)
more_lines x zero = []
more_lines x (suc count) =
    chosen_line (drawn (draw x)) (drawn (draw (draw x))) (drawn (draw (draw (draw x))))
    ∷ more_lines (if stores (drawn (draw (draw x))) then draw (draw (draw x)) else draw (draw x)) count

-- so many lines, the first of which makes a volume
abbrev pub generated_lines : ℕ → ℕ → List (List ℕ)
generated_lines seed zero = []
generated_lines seed (suc count) = codes "format GENTAP 64" ∷ more_lines seed count

-- what they ask for: none begins a batch
abbrev pub items_generated : ℕ → ℕ → List Item
items_generated seed count = lone_items (map Some (generated_lines seed count))
