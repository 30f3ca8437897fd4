-- Why an insert fails, after calls that succeeded.
use Rattle.std.proofs.Common.{◌⊎◌, ◌≤◌, ◌∙◌, ℕ, List, Option, inl, inr, ⊎_elim, arith}
use Rattle.std.specs.Prelude.{Result, Ok, Err, OnErr}
use Rattle.lif_model.specs.Causes.{Rose}
use Rattle.il_ports.specs.Files.{FileView}
use Rattle.il_ports.specs.NamedImages.{ImageCall, ImagesView, ImagesGoOn, MakesNone, Removed, Looks, Opens, Makes, Names, Removes}
use Rattle.il_ports.specs.FindingFiles.{StaysOwn, LayingFails, MakeFails, NotCreated, HeldByAnother, NotLaidOut, InsertFails, NotLooked, NoFile, NotOpened, NotTaken, ReadsOnly, NotMade}
use Rattle.il_ports.specs.declared.tape_file.Access.{Access}

-- a count that rose in a part of the time rose in all of it
pub rose_within : (a b c d : ℕ) → a ≤ b → Rose b c → c ≤ d → Rose a d
rose_within a b c d first rose last = record { later = omega (arith, first, rose.later, last); risen = omega (arith, first, rose.risen, last) }

module _ {F : Type 0} (view : F → FileView) (v u w : ImagesView) (on : ImagesGoOn v u) where
  failed_since : (call : ImageCall) → Rose (u.failures call) (w.failures call) → Rose (v.failures call) (w.failures call)
  failed_since call rose = rose_within (v.failures call) (u.failures call) (w.failures call) (w.failures call) (on.later call) rose (omega arith)

  pub make_since : MakeFails view u w → MakeFails view v w
  make_since (NotCreated rose) = NotCreated (failed_since Makes rose)
  make_since (HeldByAnother f made refused) = HeldByAnother f made refused
  make_since (NotLaidOut f g made same laying removed) =
      NotLaidOut f g made same (⊎_elim (λ file. inl file) (λ names. inr (failed_since Names names)) laying)
      (⊎_elim (λ gone. inl (rose_within v.removals u.removals w.removals w.removals on.removals gone (omega arith))) (λ kept. inr (failed_since Removes kept)) removed)

  pub insert_since : (name : List ℕ) (made : Option ℕ) (drive : Access) → MakesNone v u → InsertFails view name made drive u w → InsertFails view name made drive v w
  insert_since name made drive none (NotLooked same rose) = NotLooked (same ∙ none) (failed_since Looks rose)
  insert_since name made drive none (NoFile same found) = NoFile (same ∙ none) found
  insert_since name made drive none (NotOpened same found rose) = NotOpened (same ∙ none) found (failed_since Opens rose)
  insert_since name made drive none (NotTaken same found access f g opened itself named refuses) = NotTaken (same ∙ none) found access f g opened itself named refuses
  insert_since name made drive none (ReadsOnly same found some is) = ReadsOnly (same ∙ none) found some is
  insert_since name made drive none (NotMade found some is fails) = NotMade found some is (make_since fails)

-- the cause of an error, for any answer
pub fails_by : {T E P : Type 0} (answer : Result T E) → P → OnErr answer P
fails_by (Ok x) is = tt
fails_by (Err x) is = is

-- a removal, after other calls
gone_by : {T E : Type 0} (v x w : ImagesView) (answer : Result T E) → ImagesGoOn v x → Removed x w answer → Rose v.removals w.removals ⊎ Rose (v.failures Removes) (w.failures Removes)
gone_by v x w (Ok y) first removed = inl (rose_within v.removals x.removals w.removals w.removals first.removals removed.answer_is (omega arith))
gone_by v x w (Err y) first removed = inr (rose_within (v.failures Removes) (x.failures Removes) (w.failures Removes) (w.failures Removes) (first.later Removes) removed.answer_is (omega arith))

-- A file was made, and could not get its size or its name. It was removed, or its removal failed.
pub not_laid_out : {F T E : Type 0} (view : F → FileView) (v u x w : ImagesView) (f g : F) (answer : Result T E) → ImagesGoOn v u → ImagesGoOn v x → (view f).made
    → StaysOwn (view f) (view g) → LayingFails (view f) (view g) u x → Removed x w answer → MakeFails view v w
not_laid_out view v u x w f g answer first next made same laying removed =
    NotLaidOut f g made same
    (⊎_elim (λ file. inl file) (λ names. inr (rose_within (v.failures Names) (u.failures Names) (x.failures Names) (w.failures Names) (first.later Names) names (removed.goes_on.later Names))) laying)
    (gone_by v x w answer next removed)
