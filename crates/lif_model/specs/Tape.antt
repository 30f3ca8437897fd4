-- Tapes: lists of records, each a list of 256 bytes.
use Rattle.std.specs.Prelude.{◌≡◌, ◌<◌, ◌++◌, ℕ, zero, suc, List, [], length, get_or, Option, Some, Result, Ok, Err}

abbrev pub Tape : Type 0
Tape = List (List ℕ)

-- n records of 256 bytes
pub record IsTape (n : ℕ) (tape : Tape) : Type 0 where
  pub records : length tape ≡ n
  pub bytes : (k : ℕ) → k < n → length (get_or tape k []) ≡ 256

-- the record of that number
abbrev pub record_at : Tape → ℕ → List ℕ
record_at tape k = get_or tape k []

-- the bytes of so many records, the first of which is record k
abbrev pub bytes_from : Tape → ℕ → ℕ → List ℕ
bytes_from tape k zero = []
bytes_from tape k (suc count) = record_at tape k ++ bytes_from tape (suc k) count

-- what a read of record n answers, where the tape is told
abbrev pub DidRead : {T E : Type 0} → ℕ → List ℕ → Option Tape → Result T E → Type 0
DidRead n bytes tape (Ok _) = (t : Tape) → tape ≡ Some t → bytes ≡ record_at t n
DidRead n bytes tape (Err _) = Unit {0}

-- what a read of so many records from record n on answers
abbrev pub DidReadRun : {T E : Type 0} → ℕ → ℕ → List ℕ → Option Tape → Result T E → Type 0
DidReadRun n count bytes tape (Ok _) = (t : Tape) → tape ≡ Some t → bytes ≡ bytes_from t n count
DidReadRun n count bytes tape (Err _) = Unit {0}
