-- A file in memory.
use Rattle.std.specs.Prelude.{◌≡◌, ◌⊎◌, ◌==◌, ◌-◌, ◌^◌, ℕ, Bool, List, [], ◌∷◌, if◌then◌else◌, length, unwrap_or, Option, Some, None, Result, Ok, Err}
use Rattle.std.specs.declared.io.ErrorKind.{ErrorKind}
use Rattle.std.specs.declared.io.ErrorKind.TheVariants.{OutOfMemory, FileTooLarge}
use Rattle.lif_model.specs.Causes.{next_count}
use Rattle.std.proofs.Common.{refl, inl, sym, ◌∙◌, ap}
use Rattle.il_ports.specs.Files.{FileView, IsFile}
use Rattle.il_ports.specs.Past.{Contents, Since, only_kept}
use Rattle.il_ports.specs.declared.tape_file.Access.{Access}
use Rattle.il_ports.specs.NamedImages.{ImagesView}

-- how the call of that number fails: as the first entry of the list with its number says
abbrev pub failing_kind : ℕ → List (ℕ × ErrorKind) → Option ErrorKind
failing_kind call [] = None
failing_kind call (fail ∷ fails) = if fail.0 == call then Some fail.1 else failing_kind call fails

-- the answer of the call after so many calls: an error of the listed kind, or Ok if the list does not have its number
abbrev pub FailsAsListed : {T E : Type 0} → (E → ErrorKind) → ℕ → List (ℕ × ErrorKind) → Result T E → Type 0
FailsAsListed kind calls fails (Ok _) = failing_kind (next_count calls) fails ≡ None
FailsAsListed kind calls fails (Err e) = failing_kind (next_count calls) fails ≡ Some (kind e)

-- the same, but a call that the list does not have may fail too, for lack of room
abbrev pub FailsIfListed : {T E : Type 0} → (E → ErrorKind) → ℕ → List (ℕ × ErrorKind) → Result T E → Type 0
FailsIfListed kind calls fails (Ok _) = failing_kind (next_count calls) fails ≡ None
FailsIfListed kind calls fails (Err e) =
    (failing_kind (next_count calls) fails ≡ Some (kind e))
    ⊎ ((failing_kind (next_count calls) fails ≡ None) × ((kind e ≡ OutOfMemory) ⊎ (kind e ≡ FileTooLarge)))

abbrev pub memory_view : List ℕ → List ℕ → List ℕ → Option Access → Bool → ℕ → Contents → FileView
memory_view name seen kept held broken failures past = record {
  named = Some name;
  seen = Some seen;
  kept = Some kept;
  opened = λ access. Unit {0};
  made = Unit {0};
  apart = Unit {0};
  held = λ access. held ≡ Some access;
  refused = Unit {0};
  unsynced = Unit {0};
  broken = broken;
  failures = failures;
  moment = length past;
  left_since = Since past kept;
}

pub memory_is_file : (name seen kept : List ℕ) (held : Option Access) (broken : Bool) (failures : ℕ) (past : Contents) → IsFile (memory_view name seen kept held broken failures past)
memory_is_file name seen kept held broken failures past = record {
  told = refl;
  leaves_now = λ k b le is. inl (ap (λ (o : Option (List ℕ)). unwrap_or o kept) (sym is));
  leaves_only = λ b c is left. only_kept past kept c left ∙ ap (λ (o : Option (List ℕ)). unwrap_or o kept) is;
}

-- Contracts see the bytes of images in memory. They do not see how calls fail: each permission is given, and each count
-- is at its largest value.
abbrev pub memory_images : List (List ℕ × List ℕ) → ImagesView
memory_images images = record {
  shelf = Some images;
  was_found = λ name found. Unit {0};
  denied = λ name. Unit {0};
  settled = λ name how. Unit {0};
  failures = λ call. 2 ^ 64 - 1;
  removals = 2 ^ 64 - 1;
  makes = 2 ^ 64 - 1;
}
