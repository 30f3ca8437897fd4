-- Worked examples: what the definitions accept, and what they refuse.
use Rattle.std.proofs.Common.{◌≡◌, ◌⊎◌, ◌∙◌, ◌-◌, ◌^◌, ℕ, suc, Bool, true, false, List, [], ◌∷◌, Some, None, Option, drop, refl, ap, sym, arith, codes, inl, inr, is_some}
use Rattle.std.proofs.lemmas.List.{length-replicate, get_or-replicate}
use Rattle.std.specs.Prelude.{Result, Ok, Err, replicate, unwrap_or, if◌then◌else◌, zero}
use Rattle.std.specs.declared.io.Error.{Error}
use Rattle.lif_model.specs.Shelf.{Shelf, image_of, image_bytes}
use Rattle.lif_model.specs.Causes.{Rose}
use Rattle.il_ports.specs.Files.{FileView}
use Rattle.il_ports.specs.FindingFiles.{MakeFails, NotCreated, HeldByAnother, NotLaidOut}
use Rattle.il_ports.specs.MemoryFiles.{memory_view, memory_images}
use Rattle.il_ports.specs.NamedImages.{ImagesView, ImagesGoOn, Looked}
use Rattle.il_ports.specs.Past.{HadBeen}
use Rattle.il_ports.specs.Sizes.{records_of_size}
use Rattle.il_ports.specs.declared.image.Size.TheVariants as size
use Rattle.il_ports.specs.declared.images.Look.{Look}
use Rattle.il_ports.specs.declared.images.Look.TheVariants as look
use Rattle.il_ports.specs.declared.images.Naming.TheVariants as naming
use Rattle.il_ports.specs.declared.tape_file.Access.{Access}
use Rattle.il_ports.specs.declared.tape_file.Access.TheVariants.{Change, Read}
use Rattle.made_images.specs.MadeImages.{MadeState, IsItsMaker, IsNewImage, IsMadeAs, medium_of, reason_by, LooksAgain, IsNotMade, images_after}
use Rattle.made_images.specs.declared.making.NotMade.TheVariants as not_made

abbrev one : Type 0
one = Unit {0}

-- a file of zeros in memory
abbrev zeros : ℕ → FileView
zeros count = memory_view (codes "A") (replicate count 0) (replicate count 0) (Some Change) false 0 []

-- images in memory, by whether one of that name is there
abbrev images : Bool → ImagesView
images there = memory_images (if there then (codes "A", []) ∷ [] else [])

abbrev drive : Access → List ℕ → MadeState one Bool
drive access name = record { images = false; tape = record { file = tt; size = size.Tape; access = access; is_broken = false; faults = 0 }; name = name }

-- Images of which no call has failed, and a look has found nothing. No file of them was refused its lock.
abbrev quiet : ImagesView
quiet = record { shelf = Some []; was_found = λ name found. found ≡ look.Missing; denied = λ name. ⊥; settled = λ name how. ⊥; failures = λ call. 0; removals = 0; makes = 0 }

abbrev unasked : FileView
unasked = record (zeros 0) { refused = ⊥ }

none_rose : Rose 0 0 → ⊥
none_rose rose = absurd (omega (arith, rose.risen))

-- a count that stays at its largest value has risen
stands : Rose (2 ^ 64 - 1) (2 ^ 64 - 1)
stands = record { later = omega arith; risen = omega arith }

-- ---- an image that was made

as_medium : (count : ℕ) → (medium_of (λ (u : one). zeros count) images (drive Change (codes "A"))).record_count ≡ 512
as_medium count = refl

own : (count : ℕ) → IsItsMaker (λ (u : one). zeros count) images (drive Change (codes "A"))
own count = record { access = refl; own = record { made = tt; held = refl; named = λ s is. refl } }

only_read : (count : ℕ) → IsItsMaker (λ (u : one). zeros count) images (drive Read (codes "A")) → ⊥
only_read count is_own = let is : Read ≡ Change = is_own.access in cc

other_name : (count : ℕ) → IsItsMaker (λ (u : one). zeros count) images (drive Change (codes "AB")) → ⊥
other_name count is_own = let is : Some (codes "A") ≡ Some (codes "AB") = is_own.own.named [] refl in cc

no_past : (m : ℕ) (c : List ℕ) → HadBeen (drop m []) c → ⊥
no_past zero c had = had
no_past (suc m) c had = had

left_so : (count : ℕ) (b : List ℕ) → Some (replicate count 0) ≡ Some b → (m : ℕ) (c : List ℕ) → (c ≡ replicate count 0) ⊎ HadBeen (drop m []) c → c ≡ b
left_so count b kept m c (inl is) = is ∙ ap (λ (o : Option (List ℕ)). unwrap_or o b) kept
left_so count b kept m c (inr had) = absurd (no_past m c had)

not_there : (s : Shelf) → Some [] ≡ Some s → image_of (codes "A") s ≡ None
not_there s is = ap (λ (o : Option Shelf). image_of (codes "A") (unwrap_or o [])) (sym is)

new_image : (count : ℕ) → count ≡ image_bytes (records_of_size size.Tape) → IsNewImage (codes "A") size.Tape (images false) (zeros count)
new_image count is = record {
  file = record {
    fit = record { settled = record { clean = record { sound = refl; synced = refl }; since = left_so count }; held = refl; apart = tt; named = λ s shelf. refl; told = refl };
    made = tt;
    missing = not_there;
    zeros = λ s shelf. (replicate count 0, refl, length-replicate count 0 ∙ is, λ i lt. get_or-replicate count i 0 0 (omega (arith, lt, is)));
  };
  looked = tt;
  settled = (naming.OnDisk, tt);
}

was_there : (f : FileView) → IsNewImage (codes "A") size.Tape (images true) f → ⊥
was_there f new = let is : ◌≡◌ {A = Option (List ℕ)} (Some []) None = new.file.missing ((codes "A", []) ∷ []) refl in cc

made : (count : ℕ) → count ≡ image_bytes (records_of_size size.Tape) → IsMadeAs (λ (u : one). zeros count) images (codes "A") size.Tape (drive Change (codes "A"))
made count is = record { image = new_image count is; named = refl; sized = refl; access = refl; sound = refl; faults = refl }

made_small : (view : one → FileView) → IsMadeAs view images (codes "A") size.Disc (drive Change (codes "A")) → ⊥
made_small view made = let is : size.Tape ≡ size.Disc = made.sized in cc

-- ---- an image that was not made

same : (v : ImagesView) → ImagesGoOn v v
same v = record { shelf = refl; was_found = λ name found is. is; denied = λ name is. is; settled = λ name how is. is; later = λ call. omega arith; removals = omega arith; makes = omega arith }

free : Looked {E = Error} (codes "A") (images false) (images false) (Ok look.Missing)
free = record { goes_on = same (images false); unmade = refl; cause = refl; finds = (tt, not_there) }

reasons : (reason_by {E = Error} (Ok look.Missing) ≡ not_made.Failed) × (reason_by {E = Error} (Ok look.File) ≡ not_made.Left) × (reason_by {E = ℕ} (Err 0) ≡ not_made.Left)
reasons = (refl, refl, refl)

failed : LooksAgain (codes "A") (images false) (images false) not_made.Failed
failed = record { answer = Ok look.Missing; looked = free; why_is = refl }

none_left : (answer : Result Look Error) → Looked (codes "A") quiet quiet answer → not_made.Left ≡ reason_by answer → ⊥
none_left (Ok look.Missing) looked is = cc
none_left (Ok look.File) looked is = let found : look.File ≡ look.Missing = looked.finds.0 in cc
none_left (Ok look.Other) looked is = let found : look.Other ≡ look.Missing = looked.finds.0 in cc
none_left (Err e) looked is = none_rose looked.cause

not_left : LooksAgain (codes "A") quiet quiet not_made.Left → ⊥
not_left again = none_left again.answer again.looked again.why_is

unmade : IsNotMade (λ (u : one). unasked) images (codes "A") false false not_made.Failed
unmade = record { looked = false; missing = free; fails = record { tried = false; goes_on = same (images false); fails = NotCreated stands; again = failed } }

could_make : MakeFails (λ (u : one). unasked) quiet quiet → ⊥
could_make (NotCreated rose) = none_rose rose
could_make (HeldByAnother f made refused) = refused
could_make (NotLaidOut f g made stays laying (inl rose)) = none_rose rose
could_make (NotLaidOut f g made stays laying (inr rose)) = none_rose rose

not_failed : IsNotMade (λ (u : one). unasked) (λ (b : Bool). quiet) (codes "A") true true not_made.Failed → ⊥
not_failed refused = could_make refused.fails.fails

there : IsNotMade (λ (u : one). unasked) images (codes "A") true true not_made.Exists
there = (look.File, record { goes_on = same (images true); unmade = refl; cause = refl; finds = (tt, found) }, λ is. cc)
  where
    found : (s : Shelf) → Some ((codes "A", []) ∷ []) ≡ Some s → is_some (image_of (codes "A") s) ≡ true
    found s is = ap (λ (o : Option Shelf). is_some (image_of (codes "A") (unwrap_or o []))) (sym is)

not_there_at_all : IsNotMade (λ (u : one). unasked) (λ (b : Bool). quiet) (codes "A") true true not_made.Exists → ⊥
not_there_at_all refused = refused.2 refused.1.finds.0

was_looked_at : IsNotMade (λ (u : one). unasked) (λ (b : Bool). quiet) (codes "A") true true not_made.NotLooked → ⊥
was_looked_at refused = none_rose refused.1.cause

no_memory : IsNotMade (λ (u : one). unasked) images (codes "A") true true not_made.OutOfMemory
no_memory = refl

other_images : IsNotMade (λ (u : one). unasked) images (codes "A") true false not_made.OutOfMemory → ⊥
other_images is = let same : false ≡ true = is in cc

after_both : (images_after {F = one} (Ok (drive Change (codes "A"))) ≡ false) × (images_after {F = one} (Err (record { images = true; why = not_made.Exists })) ≡ true)
after_both = (refl, refl)
