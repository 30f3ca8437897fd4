-- How a job on the tape in a drive becomes one on an image.
use Rattle.std.proofs.Common.{◌≡◌, ◌∙◌, inl, inr, ℕ, true, false, List, Option, Some, None, refl, sym, ap, subst, arith}
use Rattle.std.specs.Prelude.{Ok, is_some}
use Rattle.lif_model.specs.Tape.{Tape}
use Rattle.il_ports.specs.Media.{MediumView, IsMedium, DidInsert}
use Rattle.il_ports.specs.declared.medium.Inserted.TheVariants as inserted
use Rattle.il_ports.specs.declared.medium.New.TheVariants as making
use Rattle.il_ring.specs.declared.plan.Planned.{Planned}
use Rattle.host_model.specs.HostStates.{HostState}
use Rattle.il_host.specs.Jobs.{Devices, WorkedOver}
use Rattle.tape_volumes.specs.Volumes.{DoneOrNot, Mounted}
use Rattle.tape_volumes.specs.declared.went.Went.{Went}
use Rattle.tape_volumes.specs.declared.went.Went.TheVariants as went
use Rattle.tape.specs.Mounts.{mounted_in}
use Rattle.tape.specs.Images.{DriveSight, EndsInDrive, JobEnds, WorksOnImage, WorksOnTape, mounted_on}
use Rattle.tape_volumes.specs.declared.ending.Ending.{Ending}
use Rattle.tape_volumes.specs.declared.ending.Ending.TheVariants as ending

told_is : (tape : Option Tape) → is_some tape ≡ true → (t : Tape) × (tape ≡ Some t)
told_is None told = cc
told_is (Some t) told = (t, refl)

-- the drive of a host that was closed
drive_back : (s : HostState) (m : MediumView) → m.record_count ≡ s.records → m.tape ≡ s.tape → m.faults ≡ s.faults → mounted_in s ≡ mounted_on s.kept m
drive_back s m records tape faults = λ i. record { records = sym records i; tape = sym tape i; kept = s.kept; faults = sym faults i }

module _ {J : Type 0} (does : J → J → Went → Mounted → Mounted → Type 0) (leaves : J → Mounted → Tape → Type 0) where
  -- a host was opened on it, and the job was done
  pub works_on_tape : (job job_now : J) (w : Went) (plan : List Planned) (v m : MediumView) (devices devices_now : Devices)
      → WorkedOver {T = J} (λ told plan s t. (told ≡ job) × does job job_now w (mounted_in s) (mounted_in t)) (λ told s t x. leaves told (mounted_in s) x) plan v m devices devices_now
      → WorksOnTape (DoneOrNot (does job job_now) (job_now ≡ job) w) (leaves job) v m
  works_on_tape job job_now w plan v m devices devices_now worked =
      let from : mounted_in worked.start ≡ mounted_on false v = ap mounted_in worked.fresh in
      let count : m.record_count ≡ worked.finish.records = worked.size ∙ sym worked.records in
      let to : mounted_in worked.finish ≡ mounted_on worked.finish.kept m = drive_back worked.finish m count worked.tape worked.faults in
      let done : does job job_now w (mounted_on false v) (mounted_in worked.finish) = subst (λ d. does job job_now w d (mounted_in worked.finish)) from worked.did.1 in
      record {
        kept = worked.finish.kept;
        did = inr (subst (λ d. does job job_now w (mounted_on false v) d) to done);
        size = worked.size;
        stops = λ told.
            let left = worked.stops (ap (λ (d : Mounted). is_some d.tape) from ∙ told) in
            let within : (x : Tape) → leaves worked.told (mounted_in worked.start) x → leaves job (mounted_on false v) x =
            λ x may. subst (λ d. leaves job d x) from (subst (λ j. leaves j (mounted_in worked.start) x) worked.did.0 may) in
            record {
              later = left.later;
              each = λ x since. inr (within x (left.each x since));
              earlier = λ k x le since. elim (left.earlier k x le since) [
                | inl past ↦ inl past
                | inr now ↦ inr (inr (within x now))
              ];
            };
        same = worked.images.same;
        others = worked.images.others;
      }

  -- there was no memory for a host
  pub no_work_on_tape : (job job_now : J) (v m : MediumView) → IsMedium v → m ≡ v → job_now ≡ job
      → WorksOnTape (DoneOrNot (does job job_now) (job_now ≡ job) went.OutOfMemory) (leaves job) v m
  no_work_on_tape job job_now v m law same unchanged =
      subst (λ (m : MediumView). WorksOnTape (DoneOrNot (does job job_now) (job_now ≡ job) went.OutOfMemory) (leaves job) v m) (sym same)
      (record {
        kept = false;
        did = inl (refl, refl, unchanged);
        size = refl;
        stops = λ told.
            let tape = told_is v.tape told in
            record {
              later = search arith;
              each = λ x left. inl (tape.1 ∙ ap Some (sym (law.leaves_only tape.0 x tape.1 left)));
              earlier = λ k x le left. inl left;
            };
        same = refl;
        others = λ name s inside told. (s, told, λ other differs. refl);
      })

-- and the image of that name was inserted before
pub works_on_image : (does : Mounted → Mounted → Type 0) (leaves : Mounted → Tape → Type 0) (name : List ℕ) (v m n : MediumView) → IsMedium n → DidInsert name making.No v m (Ok inserted.Tape)
    → WorksOnTape does leaves m n → WorksOnImage does leaves name v n
works_on_image does leaves name v m n law did works = record {
  start = mounted_on false m;
  kept = works.kept;
  reads = λ shelf told. let took = did.answer_is.1 shelf told in (took.content, took.tape_is, took.inserted_is);
  faults_are = did.goes_on.cause;
  did = works.did;
  shelf = λ shelf told.
      let took = did.answer_is.1 shelf told in
      let there = works.others name took.shelf took.inside_is took.shelf_is in
      record {
        shelf = there.0;
        shelf_is = there.1;
        image = λ t tape. law.is_image there.0 name t there.1 (works.same ∙ took.inside_is) tape;
        others = λ other differs. there.2 other differs ∙ took.others other differs;
      };
  stops = λ told x left. elim ((works.stops told).earlier v.moment x did.goes_on.later left.1) [
    | inl was ↦ elim (did.since v.moment x was) [
      | inl never ↦ absurd (left.0 never)
      | inr is ↦ inl is
    ]
    | inr within ↦ within
  ];
}

-- what it means that nothing was done on the tape
pub works_with : (does : Went → Mounted → Mounted → Type 0) (leaves : Mounted → Tape → Type 0) (nothing none : Type 0) (w : Went) (v m : MediumView) → (nothing → none)
    → WorksOnTape (DoneOrNot does nothing w) leaves v m → WorksOnTape (DoneOrNot does none w) leaves v m
works_with does leaves nothing none w v m means works = record {
  kept = works.kept;
  did = elim works.did [
    | inl not ↦ inl (not.0, not.1, means not.2)
    | inr done ↦ inr done
  ];
  size = works.size;
  stops = works.stops;
  same = works.same;
  others = works.others;
}

-- what it means that nothing was done
pub ends_with : (does : Went → Mounted → Mounted → Type 0) (leaves : Mounted → Tape → Type 0) (nothing none refused : Type 0) (e : Ending) (name : List ℕ) (v m : MediumView) → (nothing → none)
    → JobEnds does leaves nothing refused e name v m → JobEnds does leaves none refused e name v m
ends_with does leaves nothing none refused (ending.Went w) name v m means ends = record {
  start = ends.start;
  kept = ends.kept;
  reads = ends.reads;
  faults_are = ends.faults_are;
  did = elim ends.did [
    | inl not ↦ inl (not.0, not.1, means not.2)
    | inr done ↦ inr done
  ];
  shelf = ends.shelf;
  stops = ends.stops;
}
ends_with does leaves nothing none refused ending.NoImage name v m means ends = (ends.0, ends.1, ends.2, means ends.3)
ends_with does leaves nothing none refused ending.ImageTooLarge name v m means ends = (ends.0, ends.1, ends.2, means ends.3)
ends_with does leaves nothing none refused ending.NotOpened name v m means ends = (ends.0, ends.1, ends.2, means ends.3)

-- the same in a drive that was given for it
pub ends_in_drive : {M : Type 0} (drives : DriveSight M) (does : Went → Mounted → Mounted → Type 0) (leaves : Mounted → Tape → Type 0) (nothing none : Type 0) (e : Ending) (name : List ℕ) → (nothing → none)
    → EndsInDrive drives does leaves nothing e name → EndsInDrive drives does leaves none e name
ends_in_drive drives does leaves nothing none e name means ends = record {
  drive = ends.drive;
  drive_now = ends.drive_now;
  given = ends.given;
  back = ends.back;
  empty = ends.empty;
  did = ends_with does leaves nothing none (drives.media.refuses ends.drive ends.drive_now name) e name (drives.media.view ends.drive) (drives.media.view ends.drive_now) means ends.did;
}
