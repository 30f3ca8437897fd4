-- What a lend leaves of the drive, and which statuses of it the log shows.
use Rattle.std.proofs.Common.{◌≡◌, ◌∙◌, inl, ◌≤◌, ◌++◌, ◌==◌, ◌&&◌, ℕ, true, false, List, [], ◌∷◌, length, refl, sym, ap, subst, arith, append-nil}
use Rattle.std.specs.Prelude.{if◌then◌else◌}
use Rattle.std.specs.List.{list_all}
use Rattle.std.proofs.Math.Bool.{and-false}
use Rattle.std.proofs.lemmas.Bool.{and_from, and_parts, eqb-true, ne_eqb}
use Rattle.il_frames.specs.declared.entry.Entry.{Entry}
use Rattle.il_frames.specs.Frames.{byte_of, is_data}
use Rattle.il_frames.specs.NamedFrames.{rfc, tad, unt}
use Rattle.il_guest.specs.Frames.{tct}
use Rattle.il_ports.specs.Media.{MediumView}
use Rattle.il_drive.specs.State.{status_of}
use Rattle.loop_model.specs.Exchanges.{commanded, returned}
use Rattle.il_ring.specs.Lends.{refused_entries}
use Rattle.il_ring.specs.Rings.{RingView, devices_of, drive_party}
use Rattle.il_ring.specs.Statuses.{is_reported, reported_by, ReportsStatus}
use Rattle.il_control.specs.Calls.{Broke, IsIdle, Whole}
use Rattle.il_control.specs.Lent.{DriveLeft, DriveTold}
use Rattle.il_control.proofs.IdleDrives.{idle_silent}
use Rattle.il_control.proofs.LentHost.{plain_entry, still_of, tad_plain, unl_broke, unl_whole}
use Rattle.il_control.proofs.LentStatuses.{NoEnd, are_mute, is_mute, mute-NoEnd}

-- ---- which statuses a log shows

told_front : (k q : ℕ) (e : Entry) (log : List Entry) → (e.source == q) ≡ false → reported_by k q (e ∷ log) ≡ reported_by k q log
told_front k q e log other = ap (λ own. if own && is_reported k e log then byte_of e.frame ∷ reported_by k q log else reported_by k q log) other

-- entries of the host report none of another
pub told_after : (k q : ℕ) (front log : List Entry) → list_all (λ e. e.source == 0) front ≡ true → 1 ≤ q → reported_by k q (front ++ log) ≡ reported_by k q log
told_after k q [] log host some = refl
told_after k q (e ∷ front) log host some =
    let parts = and_parts (e.source == 0) (list_all (λ e. e.source == 0) front) host in
    let zero = eqb-true e.source 0 parts.0 in
    told_front k q e (front ++ log) (ne_eqb e.source q (λ same. omega (arith, same, zero, some))) ∙ told_after k q front log parts.1 some

told_within : (k : ℕ) (e : Entry) (xs ys : List Entry) → NoEnd k ys → is_reported k e (xs ++ ys) ≡ is_reported k e xs
told_within k e [] ys none = ap (λ b. is_data e.frame && b) (none e)
told_within k e (x ∷ xs) ys none = refl

told_nothing : (k q : ℕ) (ys : List Entry) → are_mute k ys ≡ true → reported_by k q ys ≡ []
told_nothing k q [] mute = refl
told_nothing k q (y ∷ ys) mute =
    let parts = and_parts (is_mute k y) (are_mute k ys) mute in
    let none : is_reported k y ys ≡ false = ap (λ b. is_data y.frame && b) (mute-NoEnd k ys parts.1 y) ∙ and-false (is_data y.frame) in
    ap (λ told. if (y.source == q) && told then byte_of y.frame ∷ reported_by k q ys else reported_by k q ys) none
    ∙ ap (λ b. if b then byte_of y.frame ∷ reported_by k q ys else reported_by k q ys) (and-false (y.source == q))
    ∙ told_nothing k q ys parts.1

-- entries that end nothing report nothing more
pub told_no_more : (k q : ℕ) (xs ys : List Entry) → are_mute k ys ≡ true → reported_by k q (xs ++ ys) ≡ reported_by k q xs
told_no_more k q [] ys mute = told_nothing k q ys mute
told_no_more k q (x ∷ xs) ys mute =
    ap (λ told. if (x.source == q) && told then byte_of x.frame ∷ reported_by k q (xs ++ ys) else reported_by k q (xs ++ ys)) (told_within k x xs ys (mute-NoEnd k ys mute))
    ∙ ap (λ more. if (x.source == q) && is_reported k x xs then byte_of x.frame ∷ more else more) (told_no_more k q xs ys mute)

-- ---- nobody took control

refused_plain : (a : ℕ) → a ≤ 30 → list_all plain_entry (returned 0 rfc ∷ commanded 0 (tad a) ++ returned 0 tct ∷ commanded 0 unt) ≡ true
refused_plain a low = and_from (plain_entry (returned 0 (tad a))) true (and_parts (plain_entry (returned 0 (tad a))) true (tad_plain a low)).0 refl

module _ {M : Type 0} (view : M → MediumView) (q s : RingView M) (a : ℕ) (idle : IsIdle q) (low : a ≤ 30) where
  abbrev after : List Entry
  after = returned 0 rfc ∷ commanded 0 (tad a) ++ returned 0 tct ∷ commanded 0 unt

  pub refused_told : Whole view q (refused_entries a) s → DriveTold q s (refused_entries a)
  refused_told whole =
      let stays = unl_whole view q s after (refused_plain a low) refl (idle_silent q idle) whole in
      let some : 1 ≤ drive_party q = omega arith in
      let none : reported_by (length (devices_of q)) (drive_party q) (refused_entries a) ≡ [] =
      ap (reported_by (length (devices_of q)) (drive_party q)) (sym (append-nil (refused_entries a))) ∙ told_after (length (devices_of q)) (drive_party q) (refused_entries a) [] refl some in
      record {
        medium = stays.medium;
        told = subst (λ bytes. ReportsStatus (status_of q.drive.state) bytes (status_of s.drive.state)) (sym none) stays.status;
      }

  pub refused_left : Broke view q (refused_entries a) s → DriveLeft q.drive s.drive
  refused_left broke =
      let still = still_of view q.drive s.drive (unl_broke view q s after (refused_plain a low) refl (idle_silent q idle) broke) in
      record { medium = still.medium; status = inl still.status }
