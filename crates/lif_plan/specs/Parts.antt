-- What a part of a batch is to write of the directory, before it is written.
use Rattle.std.specs.Prelude.{◌≡◌, ◌*◌, ℕ, List, [], ◌∷◌, true, length, Option, Some, None, Result, Ok, Err}
use Rattle.lif_model.specs.Tape.{Tape, record_at}
use Rattle.lif_model.specs.Header.{HeaderParts, directory_start}
use Rattle.lif_model.specs.Made.{file_length}
use Rattle.lif_model.specs.declared.refusal.Refusal.{Refusal}
use Rattle.lif_model.specs.Volume.{Volume, is_adopted_with}
use Rattle.lif_model.specs.Fit.{Place, fit_beside_in}
use Rattle.lif_model.specs.Parts.{Part, Store, Purge, IsWellFormedPart}
use Rattle.lif_model.specs.Apply.{first_met, part_checks, part_made, part_place, purged_by}
use Rattle.lif_model.specs.Writing.{part_writes, part_files}
use Rattle.lif_dir.specs.declared.change.Change.{Change}
use Rattle.lif_dir.specs.Changes.{FitsIn, change_writes, bytes_with}
use Rattle.lif_plan.specs.Plans.{IsVolumeWith, PlacesFile}
use Rattle.lif_plan.specs.Refusals.{keeps_behind}

-- the place of the part's file on a volume in the midst of a batch that has purged these slots
abbrev pub place_beside : ℕ → List ℕ → Part → Volume → Place
place_beside n barred p v = part_place n (record { volume = v; barred = barred }) p

-- what refuses the part, if anything does
abbrev pub part_refusal : ℕ → List ℕ → Part → Volume → Option Refusal
part_refusal n barred p v = first_met (part_checks n v (place_beside n barred p v) p)

-- the part is refused
pub record RefusesPart (n : ℕ) (p : Part) (barred : List ℕ) (header : HeaderParts) (slots : List (List ℕ)) (why : Refusal) : Type 0 where
  pub refused : (v : Volume) → IsVolumeWith n header slots v → part_refusal n barred p v ≡ Some why
  pub known : keeps_behind why ≡ true

-- it changes nothing
pub record LeavesAll (n : ℕ) (p : Part) (barred : List ℕ) (header : HeaderParts) (slots : List (List ℕ)) : Type 0 where
  pub formed : IsWellFormedPart p
  pub free : (v : Volume) → IsVolumeWith n header slots v → part_refusal n barred p v ≡ None
  pub same : (v : Volume) → IsVolumeWith n header slots v → part_made (place_beside n barred p v) p v ≡ v
  pub purges : (v : Volume) → IsVolumeWith n header slots v → purged_by p v ≡ []
  pub writes : (v : Volume) → IsVolumeWith n header slots v → (u : Tape) → part_writes p v (place_beside n barred p v) u ≡ []
  pub files : (v : Volume) → IsVolumeWith n header slots v → part_files p (place_beside n barred p v) ≡ []

-- the slots that it purges, where it changes that one
abbrev pub purged_at : Part → ℕ → List ℕ
purged_at (Purge name) slot = slot ∷ []
purged_at p slot = []

-- the file of a store goes to its place; no other part has one
abbrev pub PlacesPart : ℕ → Part → List ℕ → HeaderParts → List (List ℕ) → Change → Type 0
PlacesPart n (Store name kind implementation bytes) barred header slots change =
    PlacesFile n (λ v. fit_beside_in n v barred (file_length bytes)) bytes header slots change
PlacesPart n p barred header slots change = Unit {0}

-- it changes these slots
pub record MakesPart (n : ℕ) (p : Part) (barred : List ℕ) (header : HeaderParts) (slots : List (List ℕ)) (change : Change) : Type 0 where
  pub formed : IsWellFormedPart p
  pub fits : FitsIn (8 * header.length) (length slots) change
  pub free : (v : Volume) → IsVolumeWith n header slots v → part_refusal n barred p v ≡ None
  pub commits : (v : Volume) → IsVolumeWith n header slots v → is_adopted_with n change.version v.slots ≡ true
  pub file : PlacesPart n p barred header slots change
  pub purges : (v : Volume) → IsVolumeWith n header slots v → purged_by p v ≡ purged_at p change.slot
  pub writes : (v : Volume) → IsVolumeWith n header slots v → (u : Tape) → directory_start (record_at u 0) ≡ header.start
      → part_writes p v (place_beside n barred p v) u ≡ change_writes header.start change u
  pub after : (v : Volume) → IsVolumeWith n header slots v → (part_made (place_beside n barred p v) p v).slots ≡ bytes_with change slots

-- what is planned for a part on a volume with this header and these slots
abbrev pub IsPartPlan : ℕ → Part → List ℕ → HeaderParts → List (List ℕ) → Result (Option Change) Refusal → Type 0
IsPartPlan n p barred header slots (Err why) = RefusesPart n p barred header slots why
IsPartPlan n p barred header slots (Ok None) = LeavesAll n p barred header slots
IsPartPlan n p barred header slots (Ok (Some change)) = MakesPart n p barred header slots change
