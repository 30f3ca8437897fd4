-- The laws of the tape in a drive: it has its number of records, each of 256 bytes, the image in the drive has its bytes,
-- and a power stop leaves what its writes tell.
use Rattle.std.specs.Prelude.{◌≡◌, ◌<◌, ◌≤◌, ℕ, zero, suc, List, [], ◌∷◌, Bool, true, false, if◌then◌else◌, length, get_or, refl, Option, Some, None, unwrap_or}
use Rattle.std.specs.Option.{option_map}
use Rattle.std.specs.Str.{bytes_eq}
use Rattle.std.proofs.Common.{ap, sym, ◌∙◌, arith}
use Rattle.std.specs.Cmp.{unsigned_Decides}
use Rattle.std.proofs.lemmas.Slice.Eq.{bytes_eq-Decides}
use Rattle.lif_model.specs.Tape.{Tape, IsTape}
use Rattle.lif_model.specs.Shelf.{Shelf, image_of, bytes_of, IsSize}
use Rattle.lif_model.proofs.Sizes.{size_bounds}
use Rattle.lif_model.specs.Redo.{Changes, changed}
use Rattle.lif_model.proofs.History.{told_shape, told_now, told_only}
use Rattle.il_ports.specs.Drive.{place_of, with_bytes, shelf_with, name_in, IsFirst, has_size, tape_in, records_in}
use Rattle.il_ports.specs.MemoryMedium.{IsLeft}
use Rattle.il_ports.specs.declared.memory_medium.Drive.{Drive}
use Rattle.il_ports.specs.declared.memory_medium.Drive.TheVariants.{Empty, Shelved, Made}

pub tape_is : (drive : Drive) (tape : Tape) → ((k : ℕ) → k < length tape → length (get_or tape k []) ≡ 256)
    → (t : Tape) → tape_in drive tape ≡ Some t → IsTape (records_in (tape_in drive tape)) t
tape_is Empty tape shaped t is = cc
tape_is (Shelved place) tape shaped t is = told_shape tape shaped t is
tape_is Made tape shaped t is = told_shape tape shaped t is

pub size_is : (drive : Drive) (tape : Tape) → has_size drive (length tape) ≡ true → 0 < records_in (tape_in drive tape) → IsSize (records_in (tape_in drive tape))
size_is Empty tape size some = absurd (omega (arith, some))
size_is (Shelved place) tape size some = size
size_is Made tape size some = size

-- ---- the image in the drive

-- the place after a first image, whose name is that or not
abbrev pub behind : Bool → Option ℕ → Option ℕ
behind first place = if first then Some 0 else option_map suc place

pub not_behind : (place : Option ℕ) → behind false place ≡ Some 0 → ⊥
not_behind None is = cc
not_behind (Some k) is = cc

pub step_back : (place : Option ℕ) (k : ℕ) → behind false place ≡ Some (suc k) → place ≡ Some k
step_back None k is = cc
step_back (Some j) k is = cc

-- other bytes at the place of a name
pub image_at_place : (name : List ℕ) (shelf : Shelf) (place : ℕ) (bytes : List ℕ) → place_of name shelf ≡ Some place
    → image_of name (with_bytes place bytes shelf) ≡ Some bytes
image_at_place name [] place bytes is = cc
image_at_place name (image ∷ images) zero bytes is = here (bytes_eq image.0 name) is
  where
    here : (first : Bool) → behind first (place_of name images) ≡ Some 0 → (if first then Some bytes else image_of name images) ≡ Some bytes
    here true is = refl
    here false is = absurd (not_behind (place_of name images) is)
image_at_place name (image ∷ images) (suc place) bytes is = there (bytes_eq image.0 name) is (image_at_place name images place bytes)
  where
    there : (first : Bool) → behind first (place_of name images) ≡ Some (suc place) → (place_of name images ≡ Some place → image_of name (with_bytes place bytes images) ≡ Some bytes)
        → (if first then Some image.1 else image_of name (with_bytes place bytes images)) ≡ Some bytes
    there true is next = cc
    there false is next = next (step_back (place_of name images) place is)

-- the bytes of a tape in the drive, under the name that is told
holds : (name other : List ℕ) (shelf s : Shelf) (tape t : Tape) → image_of name shelf ≡ Some (bytes_of tape) → Some shelf ≡ Some s → Some name ≡ Some other → Some tape ≡ Some t
    → image_of other s ≡ Some (bytes_of t)
holds name other shelf s tape t is same named told =
    ap (λ o. image_of other (unwrap_or o shelf)) (sym same) ∙ ap (λ o. image_of (unwrap_or o name) shelf) (sym named) ∙ is ∙ ap (λ o. Some (bytes_of (unwrap_or o tape))) told

pub image_is : (drive : Drive) (made : List ℕ) (tape : Tape) (images : Shelf) → IsFirst drive images
    → (s : Shelf) (name : List ℕ) (t : Tape) → Some (shelf_with drive made tape images) ≡ Some s → name_in drive made images ≡ Some name → tape_in drive tape ≡ Some t
    → image_of name s ≡ Some (bytes_of t)
image_is Empty made tape images first s name t same named told = cc
image_is (Shelved place) made tape images first s name t same named told =
    holds _ name (with_bytes place (bytes_of tape) images) s tape t (image_at_place _ images place (bytes_of tape) (first place ((unsigned_Decides place place).1 refl))) same named told
image_is Made made tape images first s name t same named told = holds made name ((made, bytes_of tape) ∷ images) s tape t here same named told
  where
    here : (if bytes_eq made made then Some (bytes_of tape) else image_of made images) ≡ Some (bytes_of tape)
    here = ap (λ (b : Bool). if b then Some (bytes_of tape) else image_of made images) ((bytes_eq-Decides made made).1 refl)

-- ---- power stops

-- one now leaves the tape as it reads
pub left_now : (drive : Drive) (first tape : Tape) (history : Changes) → tape ≡ changed history first
    → (k : ℕ) (t : Tape) → k ≤ length history → tape_in drive tape ≡ Some t → IsLeft (tape_in drive first) history k t
left_now Empty first tape history replays k t le told = cc
left_now (Shelved place) first tape history replays k t le told = told_now first tape history replays k t le told
left_now Made first tape history replays k t le told = told_now first tape history replays k t le told

-- and no other
pub left_only : (drive : Drive) (first tape : Tape) (history : Changes) → tape ≡ changed history first
    → (t c : Tape) → tape_in drive tape ≡ Some t → IsLeft (tape_in drive first) history (length history) c → c ≡ t
left_only Empty first tape history replays t c told left = absurd left
left_only (Shelved place) first tape history replays t c told left = told_only first tape history replays t c told left
left_only Made first tape history replays t c told left = told_only first tape history replays t c told left

no_size : (n : ℕ) → n ≡ 0 → IsSize n → ⊥
no_size n none is = omega (arith, none, (size_bounds n is).0)

-- nor any where no tape is in
pub left_none : (drive : Drive) (first tape : Tape) (history : Changes) → has_size drive (length tape) ≡ true
    → (m : ℕ) (c : Tape) → records_in (tape_in drive tape) ≡ 0 → IsLeft (tape_in drive first) history m c → ⊥
left_none Empty first tape history size m c none left = left
left_none (Shelved place) first tape history size m c none left = no_size (length tape) none size
left_none Made first tape history size m c none left = no_size (length tape) none size
