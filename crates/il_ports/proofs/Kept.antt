-- The writes of a medium in memory, which it keeps.
use Rattle.std.proofs.Common.{◌≡◌, ◌≢◌, ◌<◌, ◌≤◌, ◌+◌, ◌++◌, ℕ, zero, suc, List, [], ◌∷◌, Bool, true, false, length, get_or, set, take, length-set, refl, sym, ap, subst, ◌∙◌, arith}
use Rattle.std.specs.Prelude.{Option, Some, None, Result, Ok, Err, OnErr, is_ok, if◌then◌else◌, unwrap_or}
use Rattle.std.specs.Str.{bytes_eq}
use Rattle.std.specs.Cmp.{unsigned_Decides}
use Rattle.std.proofs.lemmas.Slice.Eq.{bytes_eq-Decides}
use Rattle.lif_model.specs.Tape.{Tape}
use Rattle.lif_model.specs.Shelf.{Shelf, image_of, bytes_of, OthersStay, disc_records}
use Rattle.lif_model.proofs.Sizes.{size_bounds}
use Rattle.std.proofs.lemmas.Bool.{eqb-true}
use Rattle.lif_model.specs.Redo.{Changes, changed}
use Rattle.lif_model.specs.Stops.{Torn, Elapses}
use Rattle.std.specs.Prelude.{◌==◌, IsSome}
use Rattle.std.proofs.lemmas.List.{length-take, get_or-take, get_or_default}
use Rattle.lif_model.specs.Tape.{record_at}
use Rattle.lif_model.specs.History.{stopped_at}
use Rattle.lif_model.proofs.Commit.{changed_take}
use Rattle.lif_model.proofs.Redo.{length_changed}
use Rattle.lif_model.proofs.History.{record_behind, tape_later, elapses_write}
use Rattle.il_ports.specs.Drive.{place_of, with_bytes, shelf_with, name_in, IsFirst, is_empty, has_size, tape_in, records_in}
use Rattle.il_ports.specs.InDrive.{behind, not_behind, step_back}
use Rattle.il_ports.specs.Inserting.{OthersAreKept}
use Rattle.il_ports.specs.MemoryMedium.{IsLeft, with_image, shelf_holding, tape_holding}
use Rattle.il_ports.proofs.Shelves.{name_at}
use Rattle.il_ports.specs.declared.memory_medium.Drive.{Drive}
use Rattle.il_ports.specs.declared.memory_medium.Drive.TheVariants.{Empty, Shelved, Made}

-- ---- the list of writes

-- a push into room that was reserved
pub pushed : {T E : Type 0} (result : Result T E) (len cap : ℕ) (items more less : Changes) → OnErr result (cap ≤ len) → len < cap → items ≡ (if is_ok result then more else less) → items ≡ more
pushed (Ok x) len cap items more less full room is = is
pushed (Err e) len cap items more less full room is = absurd (omega (arith, full, room))

-- one write more
pub replays_on : (first tape : Tape) (history later : Changes) (n : ℕ) (bytes : List ℕ) → tape ≡ changed history first → later ≡ history ++ (n, bytes) ∷ [] → set tape n bytes ≡ changed later first
replays_on first tape history later n bytes replays is = ap (λ (t : Tape). set t n bytes) replays ∙ sym (tape_later first history later (n, bytes) is)

-- ---- the shelf

with_image_at : (name : List ℕ) (images : Shelf) (place : ℕ) (old new : List ℕ) → place_of name images ≡ Some place → with_bytes place new images ≡ with_image name new (with_bytes place old images)
with_image_at name [] place old new is = cc
with_image_at name (image ∷ images) zero old new is = here (bytes_eq image.0 name) is
  where
    here : (first : Bool) → behind first (place_of name images) ≡ Some 0 → ((image.0, new) ∷ images) ≡ (if first then (image.0, new) ∷ images else (image.0, old) ∷ with_image name new images)
    here true is = refl
    here false is = absurd (not_behind (place_of name images) is)
with_image_at name (image ∷ images) (suc place) old new is = there (bytes_eq image.0 name) is (with_image_at name images place old new)
  where
    there : (first : Bool) → behind first (place_of name images) ≡ Some (suc place) → (place_of name images ≡ Some place → with_bytes place new images ≡ with_image name new (with_bytes place old images))
        → (image ∷ with_bytes place new images) ≡ (if first then (image.0, new) ∷ with_bytes place old images else image ∷ with_image name new (with_bytes place old images))
    there true is next = cc
    there false is next = ap (λ (s : Shelf). image ∷ s) (next (step_back (place_of name images) place is))

pub shelf_held : (drive : Drive) (made : List ℕ) (tape : Tape) (images : Shelf) (n : ℕ) (bytes : List ℕ) → IsFirst drive images
    → shelf_with drive made (set tape n bytes) images ≡ shelf_holding (name_in drive made images) (tape_holding n bytes (tape_in drive tape)) (shelf_with drive made tape images)
shelf_held Empty made tape images n bytes first = refl
shelf_held (Shelved place) made tape images n bytes first = with_image_at _ images place (bytes_of tape) (bytes_of (set tape n bytes)) (first place ((unsigned_Decides place place).1 refl))
shelf_held Made made tape images n bytes first = sym (ap (λ (b : Bool). if b then (made, bytes_of (set tape n bytes)) ∷ images else (made, bytes_of tape) ∷ with_image made (bytes_of (set tape n bytes)) images) ((bytes_eq-Decides made made).1 refl))

pub tape_held : (drive : Drive) (tape : Tape) (n : ℕ) (bytes : List ℕ) → tape_in drive (set tape n bytes) ≡ tape_holding n bytes (tape_in drive tape)
tape_held Empty tape n bytes = refl
tape_held (Shelved place) tape n bytes = refl
tape_held Made tape n bytes = refl

-- other bytes under one name leave the images of every other name
beside : (name other bytes : List ℕ) (shelf : Shelf) → other ≢ name → image_of other (with_image name bytes shelf) ≡ image_of other shelf
beside name other bytes [] ne = refl
beside name other bytes (image ∷ images) ne = go (bytes_eq image.0 name) (bytes_eq image.0 other) refl refl (beside name other bytes images ne)
  where
    go : (first is : Bool) → bytes_eq image.0 name ≡ first → bytes_eq image.0 other ≡ is → image_of other (with_image name bytes images) ≡ image_of other images
        → image_of other (if first then (image.0, bytes) ∷ images else image ∷ with_image name bytes images) ≡ (if is then Some image.1 else image_of other images)
    go true true same too next = absurd (ne (sym ((bytes_eq-Decides image.0 other).0 too) ∙ (bytes_eq-Decides image.0 name).0 same))
    go true false same not next = ap (λ (b : Bool). if b then Some bytes else image_of other images) not
    go false true not too next = ap (λ (b : Bool). if b then Some image.1 else image_of other (with_image name bytes images)) too
    go false false not too next = ap (λ (b : Bool). if b then Some image.1 else image_of other (with_image name bytes images)) too ∙ next

others_stay : (inside : Option (List ℕ)) (tape : Option Tape) (name : List ℕ) (shelf : Shelf) → inside ≡ Some name → OthersStay name shelf (shelf_holding inside tape shelf)
others_stay None tape name shelf is other ne = cc
others_stay (Some held) None name shelf is other ne = refl
others_stay (Some held) (Some tape) name shelf is other ne = beside held other (bytes_of tape) shelf (λ same. ne (same ∙ ap (λ (o : Option (List ℕ)). unwrap_or o name) is))

pub others_kept : (inside : Option (List ℕ)) (tape : Option Tape) (before after : Shelf) → after ≡ shelf_holding inside tape before → OthersAreKept inside (Some before) (Some after)
others_kept inside tape before after is name shelf named same =
    (after, refl, subst (λ (s : Shelf). OthersStay name s after) (ap (λ (o : Option Shelf). unwrap_or o before) same) (subst (λ (s : Shelf). OthersStay name before s) (sym is) (others_stay inside tape name before named)))

-- ---- what an insert begins

pub first_of_name : (name : List ℕ) (images : Shelf) (place : ℕ) → place_of name images ≡ Some place → IsFirst (Shelved place) images
first_of_name name images place found other is =
    let P : ℕ → Type 0 = λ k. place_of (get_or images k ([], [])).0 images ≡ Some k in
    subst P ((unsigned_Decides place other).0 is) (ap (λ (l : List ℕ). place_of l images) (name_at name images place found) ∙ found)

-- while no tape is in, a disc is laid in
pub drive_empty : (drive : Drive) (tape : Tape) → has_size drive (length tape) ≡ true → records_in (tape_in drive tape) ≡ 0 → (is_empty drive ≡ true) × (length tape ≡ disc_records)
drive_empty Empty tape size out = (refl, eqb-true (length tape) disc_records size)
drive_empty (Shelved place) tape size out = absurd (omega (arith, (size_bounds (length tape) size).0, out))
drive_empty Made tape size out = absurd (omega (arith, (size_bounds (length tape) size).0, out))

-- ---- power stops

module _ (first tape : Tape) (history : Changes) (n : ℕ) (bytes : List ℕ) where
  -- one write more, on a tape that is in the drive
  pub time_goes_on : (drive : Drive) → tape ≡ changed history first → length bytes ≡ 256 → ((k : ℕ) → k < length tape → length (get_or tape k []) ≡ 256) → n < records_in (tape_in drive tape)
      → Elapses (length history) (length (history ++ (n, bytes) ∷ [])) (IsLeft (tape_in drive first) history) (IsLeft (tape_in drive first) (history ++ (n, bytes) ∷ [])) (tape_in drive tape) (Torn n)
  time_goes_on Empty replays whole shaped within = absurd (omega (arith, within))
  time_goes_on (Shelved place) replays whole shaped within = elapses_write first history (history ++ (n, bytes) ∷ []) (n, bytes) refl tape replays (whole ∙ sym (shaped n within)) within
  time_goes_on Made replays whole shaped within = elapses_write first history (history ++ (n, bytes) ∷ []) (n, bytes) refl tape replays (whole ∙ sym (shaped n within)) within

-- ---- the tape at an earlier moment

module _ (first : Tape) (history : Changes) (n : ℕ) (within : n < length first) where
  written_in : (i : ℕ) → n < length (changed (take i history) first)
  written_in i = omega (arith, within, length_changed (take i history) first)

  -- what a record holds after one write more
  pub held_next : (writes i : ℕ) (items : Changes) (old now : List ℕ) → items ≡ history → i < length (take writes items) → old ≡ record_at (changed (take i history) first) n
      → now ≡ (if (get_or (take writes items) i (0, [])).0 == n then (get_or (take writes items) i (0, [])).1 else old) → now ≡ record_at (changed (take (i + 1) history) first) n
  held_next writes i items old now same more was is =
      let below : (i < writes) × (i < length items) = (omega (arith, more, length-take writes items), omega (arith, more, length-take writes items)) in
      let this : get_or (take writes items) i (0, []) ≡ get_or history i (0, []) = get_or-take writes items i (0, []) below.0 ∙ ap (λ (cs : Changes). get_or cs i (0, [])) same in
      let long : i < length history = omega (arith, below.1, ap (λ (cs : Changes). length cs) same) in
      is ∙ (λ j. if (this j).0 == n then (this j).1 else was j)
      ∙ sym (record_behind (changed (take i history) first) (get_or history i (0, [])).0 n (get_or history i (0, [])).1 (written_in i)) ∙ ap (λ (t : Tape). record_at t n) (sym (changed_take history i first long))

  -- and within the next one
  pub held_torn : (writes : ℕ) (w : ℕ × List ℕ) (torn old now : List ℕ) → w ≡ get_or history writes w → writes < length history → old ≡ record_at (changed (take writes history) first) n
      → now ≡ (if w.0 == n then torn else old) → now ≡ record_at (stopped_at first history writes (Some torn)) n
  held_torn writes w torn old now this more was is =
      let here : w ≡ get_or history writes (0, []) = this ∙ get_or_default history writes w (0, []) more in
      is ∙ (λ j. if (here j).0 == n then torn else was j) ∙ sym (record_behind (changed (take writes history) first) (get_or history writes (0, [])).0 n torn (written_in writes))

-- a tape that is told is the one that is in
pub first_told : (drive : Drive) (first t : Tape) → tape_in drive first ≡ Some t → t ≡ first
first_told Empty first t is = cc
first_told (Shelved place) first t is = cc
first_told Made first t is = cc

pub records_here : (drive : Drive) (tape : Tape) → IsSome (tape_in drive tape) → records_in (tape_in drive tape) ≡ length tape
records_here Empty tape some = cc
records_here (Shelved place) tape some = refl
records_here Made tape some = refl

pub stopped_long : (first : Tape) (history : Changes) (writes : ℕ) (torn : Option (List ℕ)) → length (stopped_at first history writes torn) ≡ length first
stopped_long first history writes None = length_changed (take writes history) first
stopped_long first history writes (Some bytes) = length-set (changed (take writes history) first) (get_or history writes (0, [])).0 bytes ∙ length_changed (take writes history) first
