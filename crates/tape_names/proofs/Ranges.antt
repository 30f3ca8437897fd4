-- The parts of a date are in their ranges.
use Rattle.std.proofs.Common.{◌≡◌, ◌≤◌, ◌&&◌, ℕ, Bool, List, true, false, refl, arith}
use Rattle.std.specs.Prelude.{slice_index_or}
use Rattle.tape_names.specs.Dates.{digits_of, is_part, is_date, year_of, moment_of, IsInRange}

part_in_range : (least most byte : ℕ) → is_part least most byte ≡ true → (least ≤ digits_of byte) × (digits_of byte ≤ most)
part_in_range least most byte is = grind arith

year_in_range : (number : ℕ) → number ≤ 99 → (1960 ≤ year_of number) × (year_of number ≤ 2059)
year_in_range number few = grind arith

both : (a b : Bool) → a && b ≡ true → (a ≡ true) × (b ≡ true)
both true b is = (refl, is)
both false b is = cc

-- every part of a date is in its range
pub parts_in_range : (date : List ℕ) → is_date date ≡ true → IsInRange (moment_of date)
parts_in_range date is =
    let year = both (is_part 0 99 (slice_index_or date 0 0)) _ is in
    let month = both (is_part 1 12 (slice_index_or date 1 0)) _ year.1 in
    let day = both (is_part 1 31 (slice_index_or date 2 0)) _ month.1 in
    let hour = both (is_part 0 23 (slice_index_or date 3 0)) _ day.1 in
    let rest = both (is_part 0 59 (slice_index_or date 4 0)) _ hour.1 in
    record {
      year = year_in_range (digits_of (slice_index_or date 0 0)) (part_in_range 0 99 (slice_index_or date 0 0) year.0).1;
      month = part_in_range 1 12 (slice_index_or date 1 0) month.0;
      day = part_in_range 1 31 (slice_index_or date 2 0) day.0;
      hour = (part_in_range 0 23 (slice_index_or date 3 0) hour.0).1;
      minute = (part_in_range 0 59 (slice_index_or date 4 0) rest.0).1;
      second = (part_in_range 0 59 (slice_index_or date 5 0) rest.1).1;
    }
