-- The images on a shelf beside a drive.
use Rattle.std.proofs.Common.{◌≡◌, ◌+◌, ◌≤◌, ℕ, zero, suc, List, [], ◌∷◌, Bool, true, false, length, get_or, refl, sym, ap, subst, ◌∙◌}
use Rattle.std.specs.Prelude.{Option, Some, None, if◌then◌else◌, nat_eq, unwrap_or}
use Rattle.std.specs.Option.{option_map}
use Rattle.std.specs.Str.{bytes_eq}
use Rattle.std.specs.Cmp.{unsigned_Decides}
use Rattle.std.proofs.lemmas.Bool.{le-leb}
use Rattle.std.proofs.lemmas.Slice.Eq.{bytes_eq-Decides}
use Rattle.lif_model.specs.Tape.{Tape}
use Rattle.lif_model.specs.Shelf.{Shelf, image_of, bytes_of, cut, tape_of, blank, inserted, IsSize, cassette_records, records_for, largest_image}
use Rattle.lif_model.proofs.Sizes.{size_for, cut_nothing}
use Rattle.il_ports.specs.Drive.{place_of, with_bytes, shelf_with, is_made, is_inside, is_empty, longest_name}
use Rattle.il_ports.specs.Inserting.{records_made, TakesImage}
use Rattle.il_ports.specs.declared.medium.New.{New}
use Rattle.il_ports.specs.declared.medium.New.TheVariants as making
use Rattle.il_ports.specs.InDrive.{behind, not_behind, step_back, image_at_place}
use Rattle.il_ports.specs.declared.memory_medium.Drive.{Drive}
use Rattle.il_ports.specs.declared.memory_medium.Drive.TheVariants.{Empty, Shelved, Made}

-- ---- places

-- a place that is counted from another one
abbrev pub place_from : ℕ → Option ℕ → Option ℕ
place_from i place = option_map (λ k. i + k) place

-- ---- other bytes at a place

pub image_elsewhere : (name : List ℕ) (shelf : Shelf) (place : ℕ) (bytes : List ℕ) → (place_of name shelf ≡ Some place → ⊥)
    → image_of name (with_bytes place bytes shelf) ≡ image_of name shelf
image_elsewhere name [] place bytes not = refl
image_elsewhere name (image ∷ images) zero bytes not = here (bytes_eq image.0 name) not
  where
    here : (first : Bool) → (behind first (place_of name images) ≡ Some 0 → ⊥) → (if first then Some bytes else image_of name images) ≡ (if first then Some image.1 else image_of name images)
    here true not = absurd (not refl)
    here false not = refl
image_elsewhere name (image ∷ images) (suc place) bytes not = there (bytes_eq image.0 name) not (image_elsewhere name images place bytes)
  where
    there : (first : Bool) → (behind first (place_of name images) ≡ Some (suc place) → ⊥)
        → ((place_of name images ≡ Some place → ⊥) → image_of name (with_bytes place bytes images) ≡ image_of name images)
        → (if first then Some image.1 else image_of name (with_bytes place bytes images)) ≡ (if first then Some image.1 else image_of name images)
    there true not next = refl
    there false not next = next (λ is. not (ap (option_map suc) is))

-- the name of the image at a place
pub name_at : (name : List ℕ) (shelf : Shelf) (place : ℕ) → place_of name shelf ≡ Some place → (get_or shelf place ([], [])).0 ≡ name
name_at name [] place is = cc
name_at name (image ∷ images) zero is = here (bytes_eq image.0 name) refl is
  where
    here : (first : Bool) → bytes_eq image.0 name ≡ first → behind first (place_of name images) ≡ Some 0 → image.0 ≡ name
    here true same is = (bytes_eq-Decides image.0 name).0 same
    here false same is = absurd (not_behind (place_of name images) is)
name_at name (image ∷ images) (suc place) is = there (bytes_eq image.0 name) is (name_at name images place)
  where
    there : (first : Bool) → behind first (place_of name images) ≡ Some (suc place) → (place_of name images ≡ Some place → (get_or images place ([], [])).0 ≡ name)
        → (get_or images place ([], [])).0 ≡ name
    there true is next = cc
    there false is next = next (step_back (place_of name images) place is)

-- ---- the shelf as it reads

pub image_inside : (drive : Drive) (made name : List ℕ) (tape : Tape) (shelf : Shelf) (place : ℕ) → is_inside drive place ≡ true → place_of name shelf ≡ Some place
    → image_of name (shelf_with drive made tape shelf) ≡ Some (bytes_of tape)
image_inside (Shelved inside) made name tape shelf place is found =
    image_at_place name shelf inside (bytes_of tape) (found ∙ ap Some (sym ((unsigned_Decides inside place).0 is)))
image_inside Empty made name tape shelf place is found = cc
image_inside Made made name tape shelf place is found = cc

-- another image reads as its bytes, and a missing one is missing
pub image_beside : (drive : Drive) (made name : List ℕ) (tape : Tape) (shelf : Shelf) → is_made drive made name ≡ false
    → ((place : ℕ) → place_of name shelf ≡ Some place → is_inside drive place ≡ false)
    → image_of name (shelf_with drive made tape shelf) ≡ image_of name shelf
image_beside Made made name tape shelf is outside = ap (λ (b : Bool). if b then Some (bytes_of tape) else image_of name shelf) is
image_beside Empty made name tape shelf is outside = refl
image_beside (Shelved inside) made name tape shelf is outside =
    image_elsewhere name shelf inside (bytes_of tape) (λ found. true_false (sym (same inside) ∙ outside inside found))
  where
    same : (n : ℕ) → nat_eq n n ≡ true
    same n = (unsigned_Decides n n).1 refl

    true_false : true ≡ false → ⊥
    true_false e = cc

-- ---- inserting

-- what is laid in reads as the image
pub read_as : (n : ℕ) (bytes : List ℕ) → n ≡ records_for (length bytes) → cut n bytes ≡ tape_of bytes
unfolding tape_of
read_as n bytes is = ap (λ (m : ℕ). cut m bytes) is

pub takes_shelved : (name bytes : List ℕ) (made : New) (tape : Tape) (shelf : Shelf) (place : ℕ) → tape ≡ tape_of bytes
    → place_of name shelf ≡ Some place → image_of name shelf ≡ Some bytes → length bytes ≤ largest_image
    → TakesImage name made shelf (Some (with_bytes place (bytes_of tape) shelf)) (Some (get_or shelf place ([], [])).0) (Some tape)
takes_shelved name bytes made tape shelf place is found image fits = record {
  content = tape;
  inserted_is = subst (λ (o : Option (List ℕ)). inserted o (records_made made) ≡ Some tape) (sym image)
      (ap (λ (b : Bool). if b then Some (tape_of bytes) else None) (le-leb (length bytes) largest_image fits) ∙ ap Some (sym is));
  tape_is = refl;
  shelf = with_bytes place (bytes_of tape) shelf;
  shelf_is = refl;
  inside_is = ap Some (name_at name shelf place found);
  image = image_at_place name shelf place (bytes_of tape) found;
  others = λ other ne. image_elsewhere other shelf place (bytes_of tape) (λ there. ne (sym (name_at other shelf place there) ∙ name_at name shelf place found));
}

pub takes_made : (name named : List ℕ) (made : New) (n : ℕ) (tape : Tape) (shelf : Shelf) → tape ≡ blank n → named ≡ name
    → image_of name shelf ≡ None → records_made made ≡ Some n → TakesImage name made shelf (Some ((named, bytes_of tape) ∷ shelf)) (Some named) (Some tape)
takes_made name named made n tape shelf is same missing new = record {
  content = tape;
  inserted_is = (λ i. inserted (missing i) (new i)) ∙ ap Some (sym is);
  tape_is = refl;
  shelf = (named, bytes_of tape) ∷ shelf;
  shelf_is = refl;
  inside_is = ap Some same;
  image = ap (λ (b : Bool). if b then Some (bytes_of tape) else image_of name shelf) ((bytes_eq-Decides named name).1 same);
  others = λ other ne. other_test (bytes_eq named other) refl (λ found. ne (sym found ∙ same));
}
  where
    other_test : {other : List ℕ} (first : Bool) → bytes_eq named other ≡ first → (named ≡ other → ⊥) → (if first then Some (bytes_of tape) else image_of other shelf) ≡ image_of other shelf
    other_test {other} true same ne = absurd (ne ((bytes_eq-Decides named other).0 same))
    other_test {other} false same ne = refl

-- no tape is in, so every image reads as it was given
pub shelf_of_empty : (drive : Drive) (made : List ℕ) (tape : Tape) (shelf : Shelf) → is_empty drive ≡ true → shelf_with drive made tape shelf ≡ shelf
shelf_of_empty Empty made tape shelf out = refl
shelf_of_empty (Shelved place) made tape shelf out = cc
shelf_of_empty Made made tape shelf out = cc

abbrev Taken : List ℕ → New → Shelf → Shelf → List ℕ → Tape → Type 0
Taken name made before after inside tape = IsSize (length tape) × ((s : Shelf) → Some before ≡ Some s → TakesImage name made s (Some after) (Some inside) (Some tape))

taken : (name : List ℕ) (made : New) (before shelf after : Shelf) (inside : List ℕ) (tape : Tape) → before ≡ shelf → IsSize (length tape)
    → TakesImage name made shelf (Some after) (Some inside) (Some tape) → Taken name made before after inside tape
taken name made before shelf after inside tape same size takes =
    (size, λ s is. subst (λ (x : Shelf). TakesImage name made x (Some after) (Some inside) (Some tape)) (sym same ∙ ap (λ (o : Option Shelf). unwrap_or o before) is) takes)

-- the answer `Tape`, for an image of the shelf
pub answer_shelved : (name bytes : List ℕ) (made : New) (drive : Drive) (named : List ℕ) (before tape : Tape) (shelf : Shelf) (place records : ℕ)
    → is_empty drive ≡ true → length tape ≡ records → tape ≡ cut records bytes
    → (place_of name shelf ≡ Some place) × (image_of name shelf ≡ Some bytes) × (length bytes ≤ largest_image) × (records ≡ records_for (length bytes))
    → Taken name made (shelf_with drive named before shelf) (with_bytes place (bytes_of tape) shelf) (get_or shelf place ([], [])).0 tape
answer_shelved name bytes made drive named before tape shelf place records out long is offer =
    taken name made _ shelf _ _ tape (shelf_of_empty drive named before shelf out) (subst IsSize (sym (long ∙ offer.3)) (size_for (length bytes)))
    (takes_shelved name bytes made tape shelf place (is ∙ read_as records bytes offer.3) offer.0 offer.1 offer.2)

-- the records that are made are those of a medium
made_size : (made : New) (n : ℕ) → records_made made ≡ Some n → IsSize n
made_size making.No n is = cc
made_size making.Tape n is = subst (λ (o : Option ℕ). IsSize (unwrap_or o cassette_records)) is refl
made_size making.Disc n is = subst (λ (o : Option ℕ). IsSize (unwrap_or o cassette_records)) is refl

-- the answer `Tape`, for one that is made
pub answer_made : (name named : List ℕ) (made : New) (drive : Drive) (named_before : List ℕ) (before tape : Tape) (shelf : Shelf) (records : ℕ)
    → is_empty drive ≡ true → length tape ≡ records → tape ≡ cut records [] → named ≡ name
    → (image_of name shelf ≡ None) × (records_made made ≡ Some records) × (length name ≤ longest_name)
    → Taken name made (shelf_with drive named_before before shelf) ((named, bytes_of tape) ∷ shelf) named tape
answer_made name named made drive named_before before tape shelf records out long is same offer =
    taken name made _ shelf _ _ tape (shelf_of_empty drive named_before before shelf out) (subst IsSize (sym long) (made_size made records offer.1))
    (takes_made name named made records tape shelf (is ∙ cut_nothing records) same offer.0 offer.1)

pub missing_place : (place : Option ℕ) (k : ℕ) → place ≡ None → place ≡ Some k → ⊥
missing_place place k none some = cc

pub outside_at : (drive : Drive) (place : Option ℕ) (k other : ℕ) → place ≡ Some k → place ≡ Some other → is_inside drive k ≡ false → is_inside drive other ≡ false
outside_at drive place k other some too outside = ap (λ (o : Option ℕ). is_inside drive (unwrap_or o k)) (sym too ∙ some) ∙ outside
