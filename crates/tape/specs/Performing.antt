-- What the program does by its arguments.
use Rattle.std.specs.Prelude.{◌≡◌, ◌⊎◌, ℕ, true, false, List, map, Option, Some, None, Result, Ok, Err, String, Vec, codes, string_bytes}
use Rattle.std.specs.declared.alloc.Global.{Global}
use Rattle.tape_words.specs.Asked.{Wanted, Dir, Out, Get, Raw, Free, Map, Why, Diff, Purge, Rename, Adopt, Upgrade, New, Put, Set, In, Help, Version, arguments_in}
use Rattle.tape_drives.specs.Lending.{IsUnused}
use Rattle.tape_jobs.specs.declared.listing.Style.TheVariants as style
use Rattle.tape_jobs.specs.declared.reading.Part.TheVariants.{Bytes, Lines}
use Rattle.tape.specs.Images.{DriveSight, MediumSight}
use Rattle.tape.specs.Comparing.{ImagesAreCompared}
use Rattle.tape.specs.Changes.{AdoptsVolume, PurgesFiles, RenamesFile, UpgradesVolume}
use Rattle.tape.specs.Copies.{CopiesFiles, FolderSight}
use Rattle.tape.specs.Files.{ReadsNamedFile}
use Rattle.tape_arguments.specs.Names.{name_spelt}
use Rattle.tape.specs.Incoming.{HostSight, TakesFiles}
use Rattle.tape.specs.New.{UsesNoMaker, MakerSight, MakesImage}
use Rattle.tape.specs.Texts.{Input, StoresText}
use Rattle.tape_volumes.specs.Outputs.{LacksMemory, PrintsNothing, PrintsWith, WritesError, Written}
use Rattle.tape.specs.Several.{DirDone}
use Rattle.tape.specs.Shown.{VolumeIsShown, map_style}
use Rattle.tape.specs.Whys.{ImageIsExplained}

-- a text was printed, or there was no memory for it
abbrev pub Explains : (status : ℕ) → Written → Written → Type 0
Explains status old now = LacksMemory status old now ⊎ ((text : List ℕ) × PrintsWith 0 text status old now)

-- the arguments ask for no job, and a text says why
abbrev pub RefusesArguments : (status : ℕ) → Written → Written → Type 0
RefusesArguments status old now = (status ≡ 2) × PrintsNothing old now × ((text : List ℕ) × WritesError text old now)

-- what arguments ask for, if they could be read
abbrev pub wanted_in : {E : Type 0} → Result (Vec (String Global) Global) E → Option Wanted
wanted_in (Ok words) = arguments_in (map string_bytes words.items)
wanted_in (Err e) = None

-- What is done if this is asked for, over drives, drives that only read, drives in memory, folders, drives with a new
-- image, files of the host, and standard input.
module _ {M N O F Q H I : Type 0} (drives : DriveSight M) (readers : DriveSight N) (memory : MediumSight O) (folders : FolderSight F) (makers : MakerSight Q) (host : HostSight H I) (from left : Input) where
  abbrev pub DoesAsked : Option Wanted → (status : ℕ) → Written → Written → Type 0
  DoesAsked None status old now = RefusesArguments status old now
  DoesAsked (Some (Dir all csv images)) status old now = DirDone drives csv all images status old now
  DoesAsked (Some (Out image folder names)) status old now =
      CopiesFiles drives folders image folder names status old.error now.error old.error_faults now.error_faults × PrintsNothing old now
  DoesAsked (Some (Get image name)) status old now = ReadsNamedFile drives Lines image (name_spelt name) name status old now
  DoesAsked (Some (Raw image name)) status old now = ReadsNamedFile drives Bytes image (name_spelt name) name status old now
  DoesAsked (Some (Free image)) status old now = VolumeIsShown drives style.Free image status old now
  DoesAsked (Some (Map svg image)) status old now = VolumeIsShown drives (map_style svg) image status old now
  DoesAsked (Some (Why image)) status old now = ImageIsExplained readers image status old now
  DoesAsked (Some (Diff image other)) status old now = ImagesAreCompared readers memory image other status old now
  DoesAsked (Some (Purge image names)) status old now = PurgesFiles drives image names status old now
  DoesAsked (Some (Rename image name name_now)) status old now = RenamesFile drives image name name_now status old now
  DoesAsked (Some (Adopt image)) status old now = AdoptsVolume drives image status old now
  DoesAsked (Some (Upgrade image)) status old now = UpgradesVolume drives image status old now
  DoesAsked (Some (New disc small image label slots)) status old now = MakesImage makers disc small image label slots status old now
  DoesAsked (Some (Put quiet image name)) status old now = StoresText drives false quiet image name from left status old now
  DoesAsked (Some (Set quiet image name)) status old now = StoresText drives true quiet image name from left status old now
  DoesAsked (Some (In over mend quiet image paths)) status old now = TakesFiles host drives over mend quiet image paths status old now
  DoesAsked (Some (Help topic)) status old now = Explains status old now
  DoesAsked (Some Version) status old now = PrintsWith 0 (codes "tape 1.0\n") status old now

  -- The same; or there was no memory to begin with, and no drive, no folder and no new image was used.
  abbrev pub PerformsAsked : Option Wanted → (status : ℕ) → Written → Written → Type 0
  PerformsAsked asked status old now =
      (IsUnused drives.before drives.now × IsUnused readers.before readers.now × IsUnused folders.before folders.now × UsesNoMaker makers × LacksMemory status old now)
      ⊎ DoesAsked asked status old now
