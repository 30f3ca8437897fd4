-- Dates of files: six bytes, each with two decimal digits (BCD): year, month, day, hour, minute, second.
use Rattle.std.specs.Prelude.{◌≤◌, ◌&&◌, ◌+◌, ◌*◌, ◌/◌, ◌%◌, ℕ, Bool, List, slice_index_or, if◌then◌else◌, nat_lt, nat_le, Option, Some, None}
use Rattle.tape_names.specs.declared.dates.Moment.{Moment}

-- both digits of a byte are decimal digits
abbrev pub is_decimal : ℕ → Bool
is_decimal byte = nat_le (byte / 16) 9 && nat_le (byte % 16) 9

-- the number that the two digits of a byte write
abbrev pub digits_of : ℕ → ℕ
digits_of byte = 10 * (byte / 16) + byte % 16

-- two decimal digits, with a value between these
abbrev pub is_part : ℕ → ℕ → ℕ → Bool
is_part least most byte = is_decimal byte && (nat_le least (digits_of byte) && nat_le (digits_of byte) most)

abbrev pub is_date : List ℕ → Bool
is_date date = is_part 0 99 (slice_index_or date 0 0) && (is_part 1 12 (slice_index_or date 1 0) && (is_part 1 31 (slice_index_or date 2 0)
    && (is_part 0 23 (slice_index_or date 3 0) && (is_part 0 59 (slice_index_or date 4 0) && is_part 0 59 (slice_index_or date 5 0)))))

-- 60 to 99 are years of the 1900s, 00 to 59 of the 2000s
abbrev pub year_of : ℕ → ℕ
year_of number = if nat_lt number 60 then 2000 + number else 1900 + number

-- the moment that six bytes write
abbrev pub moment_of : List ℕ → Moment
moment_of date = record {
  year = year_of (digits_of (slice_index_or date 0 0));
  month = digits_of (slice_index_or date 1 0);
  day = digits_of (slice_index_or date 2 0);
  hour = digits_of (slice_index_or date 3 0);
  minute = digits_of (slice_index_or date 4 0);
  second = digits_of (slice_index_or date 5 0);
}

-- the same, if they are a date
abbrev pub date_in : List ℕ → Option Moment
date_in date = if is_date date then Some (moment_of date) else None

-- every part of a moment is in its range
pub record IsInRange (m : Moment) : Type 0 where
  pub year : (1960 ≤ m.year) × (m.year ≤ 2059)
  pub month : (1 ≤ m.month) × (m.month ≤ 12)
  pub day : (1 ≤ m.day) × (m.day ≤ 31)
  pub hour : m.hour ≤ 23
  pub minute : m.minute ≤ 59
  pub second : m.second ≤ 59
