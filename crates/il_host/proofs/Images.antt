-- The drive changes no image but the one that is in it.
use Rattle.std.proofs.Common.{◌≡◌, ◌∙◌, ℕ, List, [], ◌∷◌, Bool, Option, refl, sym, ap, subst}
use Rattle.il_frames.specs.declared.frame.Frame.{Frame}
use Rattle.il_device.specs.declared.device.Out.{Out}
use Rattle.lif_model.specs.Shelf.{Shelf}
use Rattle.il_ports.specs.Media.{MediumView}
use Rattle.il_drive.specs.State.{DriveView}
use Rattle.il_drive.specs.Steps.{Did, Now, Reads, Step, Writes}
use Rattle.il_drive.specs.Runs.{Ran}
use Rattle.il_ring.specs.Rings.{RingView}
use Rattle.il_record.specs.Came.{CameBy}
use Rattle.il_host.specs.HostView.{KeepsImages}

-- the images of a medium that became another
abbrev pub KeepsMedium : (v w : MediumView) → Type 0
KeepsMedium v w = KeepsImages v.inside w.inside v.shelf w.shelf

-- A shelf that stays as it is keeps its images.
pub images_kept : (inside : Option (List ℕ)) (shelf : Option Shelf) → KeepsImages inside inside shelf shelf
images_kept inside shelf = record { same = refl; others = λ name s here told. (s, told, λ other differs. refl) }

-- What keeps the images, and then keeps them again, keeps them.
pub images_then : (inside middle inside_now : Option (List ℕ)) (old between now : Option Shelf) → KeepsImages inside middle old between → KeepsImages middle inside_now between now → KeepsImages inside inside_now old now
images_then inside middle inside_now old between now first more = record {
  same = more.same ∙ first.same;
  others = λ name s here told.
      let u = first.others name s here told in
      let w = more.others name u.0 (first.same ∙ here) u.1 in
      (w.0, w.1, λ other differs. w.2 other differs ∙ u.2 other differs);
}

module _ {M : Type 0} (view : M → MediumView) where
  -- A medium keeps its own images.
  pub same_images : (m n : M) → n ≡ m → KeepsMedium (view m) (view n)
  same_images m n same = subst (λ (n : M). KeepsMedium (view m) (view n)) (sym same) (images_kept (view m).inside (view m).shelf)

  -- one step of the drive, whatever it asks of the medium
  did_images : {X : Type 0} (step : Step X) (x : X) (m n : M) → Did view step x m n → KeepsMedium (view m) (view n)
  did_images (Now value) x m n did = same_images m n did.1
  did_images (Reads k good bad) x m n did = record { same = did.0.stays_in.inside; others = λ name s here told. (s, did.0.shelf ∙ told, λ other differs. refl) }
  did_images (Writes k bytes good bad) x m n did = record { same = did.0.stays_in.inside; others = did.0.others }

  -- A drive that takes one frame after the other keeps the images.
  pub ran_images : (v : DriveView M) (came : List Frame) (answers : List Out) (w : DriveView M) → Ran view v came answers w → KeepsMedium (view v.medium) (view w.medium)
  ran_images v [] [] w ran = same_images v.medium w.medium (ap (λ (w : DriveView M). w.medium) ran)
  ran_images v (f ∷ fs) (out ∷ outs) w ran =
      let u = ran.0 in
      images_then _ _ _ _ _ _ (did_images _ _ v.medium u.medium ran.1) (ran_images u fs outs w ran.2)
  ran_images v [] (out ∷ outs) w ran = absurd ran
  ran_images v (f ∷ fs) [] w ran = absurd ran

  -- Exchanges, whole or broken off, keep the images.
  pub came_images : (whole : Bool) (r s : RingView M) → CameBy view whole r s → KeepsMedium (view r.drive.medium) (view s.drive.medium)
  came_images whole r s came =
      let adds = came.talked.adds in
      ran_images r.drive adds.came adds.answers s.drive adds.drive
