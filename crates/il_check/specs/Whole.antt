-- What a check leaves, by how it ends.
use Rattle.std.specs.Prelude.{◌≡◌, ◌≢◌, ◌⊎◌, ◌≤◌, ◌<◌, ℕ, List, length, take, Option, Some, None, Result, Ok, Err, true, is_some}
use Rattle.std.specs.Io.KnownBytes.{Appends, IsAtEnd}
use Rattle.lif_model.specs.Causes.{Rose}
use Rattle.lif_model.specs.Tape.{Tape}
use Rattle.il_ports.specs.Media.{MediumView}
use Rattle.il_ports.specs.Writing.{WritesFront}
use Rattle.il_ports.specs.Inserting.{InsertAnswers, Refuses}
use Rattle.il_ports.specs.declared.medium.Inserted.TheVariants as inserted
use Rattle.il_ports.specs.declared.medium.New.TheVariants as making
use Rattle.il_script.specs.LineCut.{lines_of}
use Rattle.il_check.specs.declared.ending.Ending.{Ending}
use Rattle.il_check.specs.declared.ending.Ending.TheVariants as ending
use Rattle.il_check.specs.declared.reading.TheConstants.{LONGEST_TRACE}
use Rattle.il_check.specs.declared.verdict.TraceFault.{TraceFault}
use Rattle.il_check.specs.Endings.{Says, TraceCause, OutputCause, MediaCause, check_status}
use Rattle.il_check.specs.Orders.{CheckOrder, check_asked}
use Rattle.il_check.specs.Telling.{label_on, verdict_text}
use Rattle.il_check.specs.Verdicts.{IsVerdict}

-- ---- what is written

-- all of the text, or a front of it where the sink failed
abbrev pub PutsAs : Ending → List ℕ → Option (List ℕ) → Option (List ℕ) → Type 0
PutsAs ending.SinkFailed text before now = WritesFront before now text
PutsAs end text before now = Appends before now text

-- ---- the trace

-- Over tapes of as many records it was read to its end, and is no longer than a trace may be; over others it was not read.
pub record ReadsFor (size_before size_after : ℕ) (left now : Option (List ℕ)) : Type 0 where
  pub whole : size_before ≡ size_after → (trace : List ℕ) → left ≡ Some trace → IsAtEnd now × (length trace ≤ LONGEST_TRACE)
  pub unread : size_before ≢ size_after → now ≡ left

-- Of the trace and these two tapes, of n and m records, this is said, and it was written. Where P holds and the source tells its bytes, it is so.
pub record Tells (k d n m : ℕ) (old new : Tape) (P : Type 0) (left now written written_now : Option (List ℕ)) (end : Ending) : Type 0 where
  pub said : Option (ℕ × TraceFault)
  pub says : Says end said
  pub reads : ReadsFor n m left now
  pub right : P → (trace : List ℕ) → left ≡ Some trace → IsVerdict k d old new (lines_of trace) said
  pub writes : PutsAs end (verdict_text said (label_on old) (label_on new)) written written_now

-- The same, or why nothing was said, after which nothing was written. Over tapes of other sizes no read ends it.
abbrev pub TellsAs : ℕ → ℕ → ℕ → ℕ → Tape → Tape → Type 0 → (left now written written_now : Option (List ℕ)) → Ending → Type 0
TellsAs k d n m old new P left now written written_now ending.SourceFailed = (n ≡ m) × (written_now ≡ written)
TellsAs k d n m old new P left now written written_now ending.TraceTooLong =
    (n ≡ m) × (written_now ≡ written) × ((trace : List ℕ) → left ≡ Some trace → LONGEST_TRACE < length trace)
TellsAs k d n m old new P left now written written_now ending.OutOfMemory = (now ≡ left) × (written_now ≡ written)
TellsAs k d n m old new P left now written written_now ending.ReadFailed = (n ≡ m) × (now ≡ left) × (written_now ≡ written)
TellsAs k d n m old new P left now written written_now end = Tells k d n m old new P left now written written_now end

-- ---- the tapes

-- the tape is this one, where it is told
abbrev pub IsAs : Option Tape → Tape → Type 0
IsAs told tape = (t : Tape) → told ≡ Some t → tape ≡ t

-- the same of the tapes before and after, and both are told
pub record AreTold (before after : Option Tape) : Type 0 where
  pub first : is_some before ≡ true
  pub second : is_some after ≡ true

-- of the tapes that are in the drives
pub record TellsOf (k d n m : ℕ) (before after : Option Tape) (left now written written_now : Option (List ℕ)) (end : Ending) : Type 0 where
  pub old : Tape
  pub new : Tape
  pub old_is : IsAs before old
  pub new_is : IsAs after new
  pub tells : TellsAs k d n m old new (AreTold before after) left now written written_now end

-- ---- the media

-- nothing of the medium changed
pub record StaysSo (v w : MediumView) : Type 0 where
  pub shelf : w.shelf ≡ v.shelf
  pub inside : w.inside ≡ v.inside
  pub tape : w.tape ≡ v.tape
  pub size : w.record_count ≡ v.record_count
  pub since : (m : ℕ) (c : Tape) → w.left_since m c → v.left_since m c

-- The image of that name is in the drive, as it was inserted, and no image changed. A stop since an earlier moment leaves what it
-- would have left before, or that tape.
pub record IsIn (name : List ℕ) (v w : MediumView) : Type 0 where
  pub image : InsertAnswers name making.No v.shelf w.shelf w.inside w.tape w.record_count inserted.Tape
  pub since : (m : ℕ) (c : Tape) → w.left_since m c → v.left_since m c ⊎ (w.tape ≡ Some c)

-- the image of that name did not go into the drive, for this reason
abbrev pub IsOut : List ℕ → MediumView → MediumView → Ending → Type 0
IsOut name v w ending.NoImage = InsertAnswers name making.No v.shelf w.shelf w.inside w.tape w.record_count inserted.NoSuch
IsOut name v w ending.ImageTooLarge =
    (size : ℕ) × InsertAnswers name making.No v.shelf w.shelf w.inside w.tape w.record_count (inserted.BadSize size)
IsOut name v w ending.InsertFailed = Refuses v.shelf w.shelf w.inside w.tape w.record_count
IsOut name v w end = ⊥

abbrev pub InsertedAs : {T : Type 0} → List ℕ → MediumView → MediumView → Result T Ending → Type 0
InsertedAs name v w (Ok _) = IsIn name v w
InsertedAs name v w (Err end) = IsOut name v w end

-- the medium's count of faults
abbrev pub InsertCause : {T : Type 0} → ℕ → ℕ → Result T Ending → Type 0
InsertCause before now (Ok _) = now ≡ before
InsertCause before now (Err ending.InsertFailed) = Rose before now
InsertCause before now (Err end) = now ≡ before

-- why the insert of an image failed, if it failed
abbrev pub InsertFailedBy : {T : Type 0} → Result T Ending → Type 0 → Type 0
InsertFailedBy (Err ending.InsertFailed) cause = cause
InsertFailedBy answer cause = Unit {0}

-- ---- the whole

-- one of two images did not go into its drive, for this reason: the first, or else the second
abbrev pub IsOneOut : (first second : List ℕ) → (v v_now w w_now : MediumView) → Ending → Type 0
IsOneOut first second v v_now w w_now end =
    (IsOut first v v_now end × StaysSo w w_now) ⊎ (IsIn first v v_now × IsOut second w w_now end)

abbrev pub InsertsBoth : {T : Type 0} → (first second : List ℕ) → (v v_now w w_now : MediumView) → Result T Ending → Type 0
InsertsBoth first second v v_now w w_now (Ok _) = IsIn first v v_now × IsIn second w w_now
InsertsBoth first second v v_now w w_now (Err end) = IsOneOut first second v v_now w w_now end

-- by how it ends and what the words ask for
abbrev pub CheckedBy : Ending → Option CheckOrder → (v v_now w w_now : MediumView) → (left now written written_now : Option (List ℕ)) → Type 0
CheckedBy ending.BadWords None v v_now w w_now left now written written_now =
    StaysSo v v_now × StaysSo w w_now × (now ≡ left) × (written_now ≡ written)
CheckedBy end None v v_now w w_now left now written written_now = ⊥
CheckedBy ending.BadWords (Some order) v v_now w w_now left now written written_now = ⊥
CheckedBy ending.NoImage (Some order) v v_now w w_now left now written written_now =
    IsOneOut order.before order.after v v_now w w_now ending.NoImage × (now ≡ left) × (written_now ≡ written)
CheckedBy ending.ImageTooLarge (Some order) v v_now w w_now left now written written_now =
    IsOneOut order.before order.after v v_now w w_now ending.ImageTooLarge × (now ≡ left) × (written_now ≡ written)
CheckedBy ending.InsertFailed (Some order) v v_now w w_now left now written written_now =
    IsOneOut order.before order.after v v_now w w_now ending.InsertFailed × (now ≡ left) × (written_now ≡ written)
CheckedBy end (Some order) v v_now w w_now left now written written_now =
    IsIn order.before v v_now × IsIn order.after w w_now
    × TellsOf order.devices order.drive v_now.record_count w_now.record_count v_now.tape w_now.tape left now written written_now end

-- why the insert of one of the two images failed, if one failed
abbrev pub CheckFailedBy : Ending → Option CheckOrder → (first second : List ℕ → Type 0) → Type 0
CheckFailedBy ending.InsertFailed (Some order) first second = first order.before ⊎ second order.after
CheckFailedBy ending.InsertFailed None first second = ⊥
CheckFailedBy end order first second = Unit {0}

-- A check by these words, over the medium v of the tape before and the medium w of the tape after, has this status: by one
-- ending, of which all else is told.
pub record CheckLeaves (status : ℕ) (words : List (List ℕ)) (v v_now w w_now : MediumView) (left now written written_now : Option (List ℕ)) (source source_now sink sink_now : ℕ)
    (refused refused_after : List ℕ → Type 0) : Type 0 where
  pub end : Ending
  pub status_is : status ≡ check_status end
  pub source_cause : TraceCause end source source_now
  pub sink_cause : OutputCause end sink sink_now
  pub media_cause : MediaCause end v.faults v_now.faults w.faults w_now.faults
  pub leaves : CheckedBy end (check_asked words) v v_now w w_now left now written written_now
  pub failed : CheckFailedBy end (check_asked words) refused refused_after
