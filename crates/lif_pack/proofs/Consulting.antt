-- What the directory that a volume keeps tells of what is left to finish.
use Rattle.std.proofs.Common.{◌≡◌, ◌+◌, ℕ, List, Bool, true, false, Option, Some, None, map, refl, sym, ◌∙◌, ap, subst}
use Rattle.std.specs.Prelude.{IfSome, is_some, is_none}
use Rattle.lif_model.specs.Tape.{Tape, IsTape, record_at}
use Rattle.lif_model.specs.Header.{HeaderParts, directory_start, directory_end}
use Rattle.lif_model.specs.Directory.{slots_of}
use Rattle.lif_model.specs.Redo.{settled}
use Rattle.lif_model.specs.Legal.{is_legal}
use Rattle.lif_model.specs.Volume.{Volume, IsVolume, files_of, volume_if, volume_in, volume_of}
use Rattle.lif_model.proofs.Redo.{settled_twice}
use Rattle.lif_model.proofs.Directory.{volume_from, volume_in_is, settled_shape}
use Rattle.lif_dir.specs.Entries.{slot_bytes}
use Rattle.lif_dir.specs.declared.entries.Slot.{Slot}
use Rattle.lif_plan.specs.Directories.{IsLegalDirectory}
use Rattle.lif_volume.specs.Views.{IsDirectoryOf}
use Rattle.lif_volume.specs.Commands.{Listed}
use Rattle.lif_volume.specs.declared.volume.Listing.{Listing}
use Rattle.lif_model.specs.Packing.{bears_mark, has_mark}
use Rattle.lif_pack.specs.declared.tasks.Task.{Task}
use Rattle.lif_pack.specs.declared.marks.Mark.{Mark}
use Rattle.lif_pack.specs.Marks.{IsMarkOf}
use Rattle.lif_pack.specs.Tasks.{IsTask, IsLeftToDo}
use Rattle.lif_model.specs.Finished.{IsFinished}
use Rattle.lif_pack.proofs.FinishedTape.{settled_is_finished}
use Rattle.lif_pack.specs.Steps.{volume_with}
use Rattle.lif_pack.proofs.Tasking.{directory_is_volume}

pub some_of : {X : Type 0} (o : Option X) (P : X → Type 0) → is_some o ≡ true → IfSome o P → (x : X) × P x
some_of None P none is = cc
some_of (Some x) P some is = (x, is)

-- nothing is kept
pub none_from : {X : Type 0} (o : Option X) → is_some o ≡ false → o ≡ None
none_from None off = refl
none_from (Some x) off = cc

pub in_each : {X A : Type 0} (o : Option X) → A → IfSome o (λ _. A)
in_each None a = tt
in_each (Some x) a = a

-- what is left to do, by what there is to do for the volume of the settled tape
left_by : (n : ℕ) (t : Tape) (v : Volume) (task : Option Task) → IsTape n t → volume_in (settled t) ≡ Some v → IsTask n v task → IsLeftToDo n t task
left_by n t v None is some none = settled_is_finished n t is (ap (has_mark n) some ∙ none)
left_by n t v (Some task) is some of = (v, ap volume_in (settled_twice t) ∙ some, of)

-- of a tape whose directory is kept
pub left_from : (n : ℕ) (t : Tape) (header : HeaderParts) (found : List Slot) (listing : Listing) (task : Option Task) → IsTape n t
    → IsDirectoryOf (settled t) header found → Listed (settled t) listing found
    → ((v : Volume) → IsVolume n v → v.slots ≡ map slot_bytes found → directory_start v.header ≡ listing.start
    → directory_end v.header ≡ listing.start + listing.length → IsTask n v task)
    → IsLeftToDo n t task
left_from n t header found listing task is kept listed of =
    let u : Tape = settled t in
    let some = volume_from u kept.directory.legal in
    let start : directory_start (record_at u 0) ≡ listing.start = sym (ap (λ (h : HeaderParts). h.start) listed.header) in
    let long = sym (ap (λ (h : HeaderParts). h.length) listed.header) in
    left_by n t (record { header = record_at u 0; slots = slots_of u; files = files_of u (slots_of u) }) task is some
    (of (record { header = record_at u 0; slots = slots_of u; files = files_of u (slots_of u) })
    (volume_in_is n u (record { header = record_at u 0; slots = slots_of u; files = files_of u (slots_of u) }) (settled_shape n t is) some)
    (sym kept.directory.bytes) start (λ i. start i + long i))

-- of one that is not legal
pub nothing_left : (n : ℕ) (t : Tape) → IsTape n t → is_legal (settled t) ≡ false → IsFinished t (settled t)
nothing_left n t is off = settled_is_finished n t is (ap (has_mark n) (ap (λ (b : Bool). volume_if b (settled t)) off))

-- and that is a tape without a volume
pub not_refused : (t : Tape) (v : Volume) → volume_of t ≡ Some v → is_legal (settled t) ≡ false → ⊥
not_refused t v some off = let none : ◌≡◌ {A = Option Volume} None (Some v) = sym (ap (λ (b : Bool). volume_if b (settled t)) off) ∙ some in cc

-- something is left to do of a tape whose volume has a mark alone
pub task_is_marked : (n : ℕ) (t : Tape) (v : Volume) (task : Task) → IsLeftToDo n t (Some task) → volume_of t ≡ Some v → bears_mark n v ≡ false → ⊥
task_is_marked n t v task left some off =
    let same : Some left.0 ≡ Some v = sym left.1 ∙ ap volume_in (settled_twice t) ∙ some in
    let no : true ≡ false = sym left.2.marked ∙ ap (has_mark n) same ∙ off in cc

-- a settled tape whose kept directory has no mark is finished
pub kept_is_finished : (n : ℕ) (t : Tape) (header : HeaderParts) (found : List Slot) → IsTape n t → IsDirectoryOf t header found
    → ((v : Volume) → IsVolume n v → v.slots ≡ map slot_bytes found → bears_mark n v ≡ false) → IsFinished t t
kept_is_finished n t header found is kept none =
    let v : Volume = record { header = record_at t 0; slots = slots_of t; files = files_of t (slots_of t) } in
    let some : volume_in t ≡ Some v = volume_from t kept.directory.legal in
    let off : bears_mark n v ≡ false = none v (volume_in_is n t v is some) (sym kept.directory.bytes) in
    subst (λ (x : Tape). IsFinished t x) kept.settled (settled_is_finished n t is (ap (has_mark n) (ap volume_in kept.settled ∙ some) ∙ off))

-- a volume with the slots of a legal directory in memory is marked as that is
pub marked_alike : (n : ℕ) (header : HeaderParts) (found : List Slot) (v : Volume) → IsLegalDirectory n header (map slot_bytes found) → v.slots ≡ map slot_bytes found
    → ((w : Volume) → IsVolume n w → w.slots ≡ map slot_bytes found → bears_mark n w ≡ true) → bears_mark n v ≡ true
marked_alike n header found v legal same marked =
    ap (λ (slots : List (List ℕ)). bears_mark n (volume_with v.header slots)) same
    ∙ marked (volume_with legal.bytes (map slot_bytes found)) (directory_is_volume n header (map slot_bytes found) legal) refl

-- ---- what the mark in memory tells

pub none_where_unmarked : (n : ℕ) (kept : Option HeaderParts) (found : List Slot) (mark : Option Mark)
    → IfSome kept (λ header. IsLegalDirectory n header (map slot_bytes found))
    → ((w : Volume) → IsVolume n w → w.slots ≡ map slot_bytes found → IsMarkOf n w mark)
    → IfSome kept (λ _. (v : Volume) → v.slots ≡ map slot_bytes found → bears_mark n v ≡ false → is_none mark ≡ true)
none_where_unmarked n None found mark legal of = tt
none_where_unmarked n (Some header) found None legal of = λ v same off. refl
none_where_unmarked n (Some header) found (Some mark) legal of = λ v same off.
    let no : true ≡ false = sym (marked_alike n header found v legal same (λ w is slots. (of w is slots).0)) ∙ off in cc

pub finished_where_none : (n : ℕ) (t : Tape) (kept : Option HeaderParts) (found : List Slot) (mark : Option Mark) → IsTape n t → is_some kept ≡ true
    → IfSome kept (λ header. IsDirectoryOf t header found)
    → ((w : Volume) → IsVolume n w → w.slots ≡ map slot_bytes found → IsMarkOf n w mark) → is_none mark ≡ true → IsFinished t t
finished_where_none n t None found mark is some known of none = cc
finished_where_none n t (Some header) found None is some known of none = kept_is_finished n t header found is known of
finished_where_none n t (Some header) found (Some mark) is some known of none = cc
