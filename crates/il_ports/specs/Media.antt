-- What contracts see of a medium, and what its calls do.
use Rattle.std.specs.Prelude.{◌≡◌, ◌⊎◌, ◌<◌, ◌≤◌, ℕ, List, Option, Some, Result, is_some}
use Rattle.lif_model.specs.Tape.{Tape, IsTape, DidRead}
use Rattle.lif_model.specs.Shelf.{Shelf, image_of, bytes_of, IsSize}
use Rattle.lif_model.specs.Stops.{Torn, Wrote, Elapses, StandsStill}
use Rattle.lif_model.specs.Causes.{HasCause}
use Rattle.il_ports.specs.Inserting.{InsertResult, OthersAreKept}
use Rattle.il_ports.specs.declared.stream.Failed.{Failed}
use Rattle.il_ports.specs.declared.medium.Inserted.{Inserted}
use Rattle.il_ports.specs.declared.medium.New.{New}

pub record MediumView : Type 1 where
  -- The images, where they are told. The one in the drive has the tape's bytes.
  pub shelf : Option Shelf
  -- the name of the image in the drive, where it is told
  pub inside : Option (List ℕ)
  -- the tape in the drive, where it is told
  pub tape : Option Tape
  -- the number of its records, 0 where no tape is in
  pub record_count : ℕ
  -- how many calls have failed, or more: the count never falls
  pub faults : ℕ
  -- the time, which never falls
  pub moment : ℕ
  -- a power stop at some moment since that one may have left this tape
  pub left_since : ℕ → Tape → Type 0

-- what holds of every medium
pub record IsMedium (v : MediumView) : Type 0 where
  -- a tape that is in has the size of a tape or of a disc
  pub sizes : 0 < v.record_count → IsSize v.record_count
  -- a tape that is told has its number of records
  pub is_tape : (t : Tape) → v.tape ≡ Some t → IsTape v.record_count t
  -- the image in the drive has the tape's bytes
  pub is_image : (s : Shelf) (name : List ℕ) (t : Tape) → v.shelf ≡ Some s → v.inside ≡ Some name → v.tape ≡ Some t → image_of name s ≡ Some (bytes_of t)
  -- a stop now leaves the tape as it reads
  pub leaves_now : (k : ℕ) (t : Tape) → k ≤ v.moment → v.tape ≡ Some t → v.left_since k t
  -- since now there is no other
  pub leaves_only : (t c : Tape) → v.tape ≡ Some t → v.left_since v.moment c → c ≡ t
  -- where no tape is in, a stop leaves none
  pub leaves_none : (s : Shelf) (c : Tape) → v.shelf ≡ Some s → v.record_count ≡ 0 → v.left_since v.moment c → ⊥

-- What every call keeps to: what is told of the shelf stays told, time goes on, and a fault is counted.
pub record Continues {T E : Type 0} (v w : MediumView) (answer : Result T E) : Type 0 where
  pub told : is_some w.shelf ≡ is_some v.shelf
  pub later : v.moment ≤ w.moment
  pub cause : HasCause v.faults w.faults answer

pub record DidInsert (name : List ℕ) (made : New) (v w : MediumView) (answer : Result Inserted Failed) : Type 0 where
  pub goes_on : Continues v w answer
  pub answer_is : InsertResult name made v.shelf w.shelf w.inside w.tape w.record_count answer
  -- a stop since an earlier moment leaves what it would have left before, or the tape that came in
  pub since : (m : ℕ) (c : Tape) → w.left_since m c → v.left_since m c ⊎ (w.tape ≡ Some c)

-- the same tape is in, and it has the same size
pub record KeepsIn (v w : MediumView) : Type 0 where
  pub told : is_some w.tape ≡ is_some v.tape
  pub inside : w.inside ≡ v.inside
  pub size : w.record_count ≡ v.record_count

pub record DidReadRecord {T E : Type 0} (n : ℕ) (bytes : List ℕ) (v w : MediumView) (answer : Result T E) : Type 0 where
  pub goes_on : Continues v w answer
  pub stays_in : KeepsIn v w
  pub content : DidRead n bytes v.tape answer
  pub tape : w.tape ≡ v.tape
  pub shelf : w.shelf ≡ v.shelf
  pub moment : w.moment ≡ v.moment
  pub since : StandsStill v.left_since w.left_since

pub record DidWriteRecord {T E : Type 0} (n : ℕ) (bytes : List ℕ) (v w : MediumView) (answer : Result T E) : Type 0 where
  pub goes_on : Continues v w answer
  pub stays_in : KeepsIn v w
  pub content : Wrote n bytes v.tape w.tape answer
  pub others : OthersAreKept v.inside v.shelf w.shelf
  pub time : Elapses v.moment w.moment v.left_since w.left_since v.tape (Torn n)
