-- What holds of every medium whose images are files.
use Rattle.std.specs.Prelude.{◌≡◌, ◌≤◌, ◌*◌, ◌∷◌, ℕ, Bool, List, length, drop, if◌then◌else◌, unwrap_or, Option, Some, None}
use Rattle.std.specs.Option.{option_map}
use Rattle.lif_model.specs.Shelf.{Shelf, image_of, bytes_of, cut}
use Rattle.lif_model.specs.Tape.{Tape, IsTape}
use Rattle.il_ports.specs.Media.{IsMedium}
use Rattle.il_ports.specs.Files.{FileView, IsFile}
use Rattle.il_ports.specs.FileDrives.{drive_view}
use Rattle.il_ports.specs.FileTapes.{TapeState, tape_of_file, shelf_in, LeavesTape}
use Rattle.il_ports.specs.Sizes.{records_of_size, is_size_of}
use Rattle.il_ports.specs.declared.image.Size.{Size}
use Rattle.il_ports.specs.declared.image.Size.TheVariants as size
use Rattle.std.proofs.Common.{arith, refl, sym, ap, subst, ◌∙◌}
use Rattle.std.proofs.lemmas.Slice.Eq.{bytes_eq-Decides}
use Rattle.lif_model.proofs.Made.{length_cut, piece_size}
use Rattle.lif_model.proofs.Runs.{piece_at}

-- the bytes that read as a tape that is told
pub told_bytes : (n : ℕ) (bytes : Option (List ℕ)) (t : Tape) → tape_of_file n bytes ≡ Some t → (b : List ℕ) × (bytes ≡ Some b) × (t ≡ cut n b)
told_bytes n None t is = cc
told_bytes n (Some b) t is = (b, refl, cc)

pub here_first : (name bytes : List ℕ) (s : Shelf) → image_of name ((name, bytes) ∷ s) ≡ Some bytes
here_first name bytes s = ap (λ (b : Bool). if b then Some bytes else image_of name s) ((bytes_eq-Decides name name).1 refl)

-- the image that is in has the tape's bytes
pub image_inside : (images : Option Shelf) (named : Option (List ℕ)) (n : ℕ) (bytes : Option (List ℕ)) (s : Shelf) (name : List ℕ) (t : Tape)
    → shelf_in images named (tape_of_file n bytes) ≡ Some s → named ≡ Some name → tape_of_file n bytes ≡ Some t → image_of name s ≡ Some (bytes_of t)
image_inside None named n bytes s name t is named_is told = cc
image_inside (Some images) None n bytes s name t is named_is told = cc
image_inside (Some images) (Some x) n None s name t is named_is told = cc
image_inside (Some images) (Some x) n (Some b) s name t is named_is told =
    ap (λ (o : Option Shelf). image_of name (unwrap_or o images)) (sym is)
    ∙ ap (λ (l : List ℕ). image_of name ((l, bytes_of (cut n b)) ∷ images)) (ap (λ (o : Option (List ℕ)). unwrap_or o x) named_is)
    ∙ here_first name (bytes_of (cut n b)) images ∙ ap (λ (o : Option Tape). option_map bytes_of o) told

pub is_tape : (n : ℕ) (bytes : Option (List ℕ)) (t : Tape) → tape_of_file n bytes ≡ Some t → IsTape n t
is_tape n bytes t is =
    let b = told_bytes n bytes t is in
    subst (IsTape n) (sym b.2) (record { records = length_cut n b.0; bytes = λ k lt. ap (λ (r : List ℕ). length r) (piece_at n k b.0 lt) ∙ piece_size (drop (256 * k) b.0) })

pub leaves_now : (n : ℕ) (v : FileView) → IsFile v → (k : ℕ) (t : Tape) → k ≤ v.moment → tape_of_file n v.kept ≡ Some t → LeavesTape n v.left_since k t
leaves_now n v is_file k t le is = let b = told_bytes n v.kept t is in (b.0, is_file.leaves_now k b.0 le b.1, b.2)

pub leaves_only : (n : ℕ) (v : FileView) → IsFile v → (t c : Tape) → tape_of_file n v.kept ≡ Some t → LeavesTape n v.left_since v.moment c → c ≡ t
leaves_only n v is_file t c is left =
    let b = told_bytes n v.kept t is in
    left.2 ∙ ap (cut n) (is_file.leaves_only b.0 left.0 b.1 left.1) ∙ sym b.2

pub drive_laws : {F : Type 0} (view : F → FileView) (images : Option Shelf) (tape : Option (TapeState F)) (faults : ℕ) → ((f : F) → IsFile (view f))
    → IsMedium (drive_view view images tape faults)
drive_laws view images None faults is_file = record {
  sizes = λ some. absurd (omega (arith, some));
  is_tape = λ t is. cc;
  is_image = λ s name t is named told. cc;
  leaves_now = λ k t le is. cc;
  leaves_only = λ t c is left. cc;
  leaves_none = λ s c is none left. cc;
}
drive_laws view images (Some tape) faults is_file = record {
  sizes = λ some. is_size_of tape.size;
  is_tape = is_tape (records_of_size tape.size) (view tape.file).kept;
  is_image = image_inside images (view tape.file).named (records_of_size tape.size) (view tape.file).kept;
  leaves_now = leaves_now (records_of_size tape.size) (view tape.file) (is_file tape.file);
  leaves_only = leaves_only (records_of_size tape.size) (view tape.file) (is_file tape.file);
  leaves_none = λ s c is none left. no_size tape.size none;
}
  where
    no_size : (of : Size) → records_of_size of ≡ 0 → ⊥
    no_size size.Tape none = absurd (omega (arith, none))
    no_size size.Disc none = absurd (omega (arith, none))
