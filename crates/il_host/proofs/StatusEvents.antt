-- The command that asks the drive for its status: its exchanges, and what it leaves of the loop.
use Rattle.std.proofs.Common.{◌≡◌, ◌+◌, ◌&&◌, ◌==◌, ◌∙◌, ℕ, Bool, true, false, List, [], ◌∷◌, length, None, refl, sym, ap, subst}
use Rattle.std.proofs.lemmas.Bool.{and_from, eq-eqb}
use Rattle.il_frames.specs.Frames.{byte_of}
use Rattle.il_poll.specs.Service.{status_byte_of}
use Rattle.il_ports.specs.Media.{MediumView}
use Rattle.il_drive.specs.State.{status_of}
use Rattle.loop_model.specs.Exchanges.{Stopped, Receive, Sst}
use Rattle.il_ring.specs.Rings.{RingView, drive_party}
use Rattle.il_record.specs.Runs.{NotPolled, Polled}
use Rattle.il_record.proofs.CameLaws.{broken_came, made_came, tape_same}
use Rattle.host_model.specs.Courses.{Due, is_status_told}
use Rattle.il_host.proofs.Keeping.{Keeps}
use Rattle.il_host.proofs.LoopEvents.{Readies}

-- ---- what `ready` leaves

-- the drive's place and status, and the medium
pub record ReadyLeaves {M : Type 0} (r m : RingView M) : Type 0 where
  pub place : length m.before ≡ length r.before
  pub status : status_of m.drive.state ≡ status_of r.drive.state
  pub medium : m.drive.medium ≡ r.drive.medium

-- whether the loop was ready or not
pub ready_leaves : {M : Type 0} (view : M → MediumView) (was : Bool) (r m : RingView M) → Readies view was r m → ReadyLeaves r m
ready_leaves {M} view true r m ready = record {
  place = ap (λ (m : RingView M). length m.before) ready.0;
  status = ap (λ (m : RingView M). status_of m.drive.state) ready.0;
  medium = ap (λ (m : RingView M). m.drive.medium) ready.0;
}
ready_leaves view false r m ready = record {
  place = ready.1.came.units.came.talked.adds.before;
  status = ready.1.leaves.status;
  medium = ready.1.leaves.medium;
}

-- ---- its exchanges

abbrev pub status_course : {M : Type 0} → RingView M → List Due
status_course r = is_status_told (drive_party r) (status_byte_of (status_of r.drive.state)) ∷ []

one_byte : (d byte told : ℕ) → told ≡ byte → ((d == d) && (told == byte)) ≡ true
one_byte d byte told is = and_from (d == d) (told == byte) (eq-eqb d d refl) (eq-eqb told byte is)

module _ {M : Type 0} (view : M → MediumView) where
  pub polled_keeps : (byte : ℕ) (r m s : RingView M) → ReadyLeaves r m → Polled view (drive_party m) byte m s → Keeps view true (status_course r) m s
  polled_keeps byte r m s leaves told =
      let d = drive_party m in
      let place : d ≡ drive_party r = ap (λ n. n + 1) leaves.place in
      let status : byte_of told.echo.sent ≡ status_byte_of (status_of r.drive.state) = sym told.byte_is ∙ told.drive.byte_is ∙ ap status_byte_of leaves.status in
      let here : is_status_told d (status_byte_of (status_of r.drive.state)) true (Receive d None Sst (Stopped d [] told.echo)) ≡ true =
      and_from (d == d) ((d == d) && (byte_of told.echo.sent == status_byte_of (status_of r.drive.state))) (eq-eqb d d refl) (one_byte d (status_byte_of (status_of r.drive.state)) (byte_of told.echo.sent) status) in
      record {
        came = made_came view (Receive d None Sst (Stopped d [] told.echo)) m s told.made refl (tape_same view m.drive s.drive told.drive.medium);
        keeps = and_from _ true (subst (λ p. is_status_told p (status_byte_of (status_of r.drive.state)) true (Receive d None Sst (Stopped d [] told.echo)) ≡ true) place here) refl;
      }

  pub not_polled_keeps : (r m s : RingView M) → ReadyLeaves r m → NotPolled view (drive_party m) m s → Keeps view false (status_course r) m s
  not_polled_keeps r m s leaves not =
      let d = drive_party m in
      let place : d ≡ drive_party r = ap (λ n. n + 1) leaves.place in
      record {
        came = broken_came view (Receive d None Sst not.answer) m s not.broken not.drive.still.tape;
        keeps = and_from (d == drive_party r) true (eq-eqb d (drive_party r) place) refl;
      }
