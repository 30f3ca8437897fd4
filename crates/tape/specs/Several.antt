-- What the job `dir` does on several images, one after the other.
use Rattle.std.specs.Prelude.{◌≡◌, ◌⊎◌, ◌∷◌, ◌++◌, ◌==◌, ℕ, Bool, true, false, List, [], length, find, Option, Some, None, option_map, if◌then◌else◌}
use Rattle.std.specs.Io.KnownBytes.{Appends}
use Rattle.std.specs.List.{list_all}
use Rattle.tape_jobs.specs.declared.listing.Style.{Style}
use Rattle.tape_jobs.specs.declared.listing.Style.TheVariants as style
use Rattle.tape_text.specs.Rows.{column_names, row_line}
use Rattle.tape_volumes.specs.declared.ending.Ending.{Ending}
use Rattle.tape_volumes.specs.Endings.{ending_status, is_done, is_last}
use Rattle.tape.specs.Images.{DriveSight, DirEnds}
use Rattle.tape_volumes.specs.Messages.{WritesEnding}
use Rattle.tape_volumes.specs.Outputs.{LosesOutput, TellsNothing, Written}

-- the name before a listing: each image has one if the job has several
abbrev pub heading_for : ℕ → List ℕ → Option (List ℕ)
heading_for count name = if count == 1 then None else Some name

-- how one of `count` images is listed: as rows of CSV; or in columns, with its name before it if there are several
abbrev pub IsStyleFor : (csv : Bool) → ℕ → List ℕ → Style → Type 0
IsStyleFor csv count name (style.Columns heading) = (csv ≡ false) × (option_map (λ text. text.now) heading ≡ heading_for count name)
IsStyleFor csv count name (style.Rows image) = (csv ≡ true) × (image.now ≡ name)
IsStyleFor csv count name style.Free = ⊥
IsStyleFor csv count name style.Map = ⊥
IsStyleFor csv count name style.Picture = ⊥

-- The image of that name was listed as one of `count` images; the job ended so on it, and its message was written.
pub record ImageListed {M : Type 0} (drives : DriveSight M) (csv : Bool) (count : ℕ) (all : Bool) (name : List ℕ) (e : Ending) (old now : Written) : Type 0 where
  pub style : Style
  pub style_is : IsStyleFor csv count name style
  pub ends : DirEnds drives e name style all old.out now.out old.out_faults now.out_faults
  pub says : WritesEnding name e old.error now.error old.error_faults now.error_faults

module _ {M : Type 0} (drives : DriveSight M) (csv : Bool) (count : ℕ) (all : Bool) where
  -- the images of these names were listed in this order, and the job ended so on each
  abbrev pub AreListed : List (List ℕ) → List Ending → (old now : Written) → Type 0
  AreListed [] [] old now = now ≡ old
  AreListed (name ∷ names) (e ∷ ends) old now = (between : Written) × ImageListed drives csv count all name e old between × AreListed names ends between now
  AreListed _ _ old now = ⊥

abbrev pub status_or : Option Ending → Bool → ℕ
status_or (Some e) done = ending_status e
status_or None done = if done then 0 else 1

-- the exit status of a job on several images that ended so: that of the ending at which the job ended, if there is one; or 0 if all was done, and else 1
abbrev pub status_of_all : List Ending → ℕ
status_of_all ends = status_or (find is_last ends) (list_all is_done ends)

-- the exit status of a job on `count` images
abbrev pub status_for : ℕ → List Ending → ℕ
status_for count (e ∷ []) = if count == 1 then ending_status e else status_of_all (e ∷ [])
status_for count ends = status_of_all ends

-- The images of these names were listed, up to the end, or up to the first one on which the job ends. After that one no image is listed.
pub record DirsEnd {M : Type 0} (drives : DriveSight M) (csv : Bool) (all : Bool) (names : List (List ℕ)) (status : ℕ) (old now : Written) : Type 0 where
  pub first : List (List ℕ)
  pub rest : List (List ℕ)
  pub are : names ≡ first ++ rest
  pub ends : List Ending
  pub listed : AreListed drives csv (length names) all first ends old now
  pub whole : find is_last ends ≡ None → rest ≡ []
  pub ended : (before : List Ending) (e : Ending) (after : List Ending) → ends ≡ before ++ e ∷ after → is_last e ≡ true → after ≡ []
  pub status_is : status ≡ status_for (length names) ends

-- The first row of CSV could not be written, and the job ended; or it was written, and the images were listed.
abbrev pub RowsEnd : {M : Type 0} → DriveSight M → (all : Bool) → List (List ℕ) → (status : ℕ) → (old now : Written) → Type 0
RowsEnd drives all names status old now =
    LosesOutput (row_line column_names) status old now
    ⊎ ((between : Written) × Appends old.out between.out (row_line column_names) × (between.out_faults ≡ old.out_faults)
    × TellsNothing old between × DirsEnd drives true all names status between now)

-- The images of these names were listed, in columns or as CSV.
abbrev pub DirDone : {M : Type 0} → DriveSight M → (csv : Bool) → (all : Bool) → List (List ℕ) → (status : ℕ) → (old now : Written) → Type 0
DirDone drives true all names status old now = RowsEnd drives all names status old now
DirDone drives false all names status old now = DirsEnd drives false all names status old now
