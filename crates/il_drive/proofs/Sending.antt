-- Transmissions: the bytes of a record in their order, and the status, which its right echo clears.
use Rattle.std.proofs.Common.{◌≡◌, ◌≢◌, ◌+◌, ℕ, get_or, true, false, ap, subst, ◌∙◌, arith}
use Rattle.std.specs.Prelude.{Some, None, if◌then◌else◌, ◌||◌}
use Rattle.std.proofs.lemmas.Bool.{ne_eqb, eq-eqb}
use Rattle.il_ports.specs.Media.{MediumView}
use Rattle.il_frames.specs.declared.frame.Class.TheVariants as class
use Rattle.il_frames.specs.declared.frame.Frame.{Frame}
use Rattle.il_frames.specs.Frames.{framed, is_data, same_but_service}
use Rattle.il_poll.specs.Service.{status_byte_of}
use Rattle.il_device.specs.declared.device.Out.{Out}
use Rattle.il_device.specs.declared.device.Out.TheVariants.{Source}
use Rattle.il_device.specs.declared.interface.OwnFrame.{OwnFrame}
use Rattle.il_device.specs.declared.interface.Turn.TheVariants as turn
use Rattle.il_device.specs.Takes.{turn_at_data, turn_at_start, just_sent, eto}
use Rattle.il_device.specs.Interfaces.{turn_on}
use Rattle.il_device.proofs.Laws.{turn_of-data}
use Rattle.il_drive.specs.declared.mode.Fault.TheVariants as fault
use Rattle.il_drive.specs.declared.mode.Mode.TheVariants as mode
use Rattle.il_drive.specs.declared.mode.Start.TheVariants as start
use Rattle.il_drive.specs.State.{DriveState, DriveView, status_of, device_of}
use Rattle.il_drive.specs.Steps.{Step, Now, Reads, then_by, Did}
use Rattle.il_drive.specs.Table as table
use Rattle.il_drive.specs.Runs.{IsReading}

-- the start messages SDA and SST
abbrev pub sda : Frame
sda = framed class.Rdy 0x60

abbrev pub sst : Frame
sst = framed class.Rdy 0x61

-- ---- SDA in mode Read

-- the record at the position is read, and its first byte sent
pub step_reads : (n : ℕ) (s : DriveState) → s.interface.roles.talks ≡ true → s.interface.own ≡ None → s.mode ≡ mode.Read → s.pointer ≡ 0 → s.position ≢ n
    → table.drive_step n s sda ≡ Reads s.position (λ bytes. table.sends start.Data false (get_or bytes s.pointer 0) (table.advanced (record (table.behind_effect sda s) { buffer_0 = bytes; position = s.position + 1 })))
    (table.passes s.interface.roles sda (table.faulty fault.Unread (table.behind_effect sda s)))
step_reads n s talks silent in_mode empty on =
    let u = table.behind_effect sda s in
    let r = s.interface.roles in
    ap (λ asked. table.answered asked n r sda u) (ap (λ own. turn_at_start own r.talks turn.Begin) silent ∙ ap (λ talks. turn_at_start None talks turn.Begin) talks)
    ∙ ap (λ m. then_by (table.first_or_pass r sda) (table.due_in m n u)) in_mode
    ∙ ap (λ b. then_by (table.first_or_pass r sda) (if b then then_by table.first_of_record (table.loaded n u) else Now (table.byte_of_record u))) (eq-eqb s.pointer 0 empty)
    ∙ ap (λ b. then_by (table.first_or_pass r sda) (then_by table.first_of_record (if b then Now (table.faulty fault.NoRecord u, false) else Reads u.position (λ bytes. (record u { buffer_0 = bytes }, true)) (table.faulty fault.Unread u, false)))) (ne_eqb s.position n on)

-- ---- after the right echo

-- a frame that comes in the place of the own frame is compared with it
compares : (s : DriveState) (f : Frame) (own : OwnFrame) → s.interface.own ≡ Some own → is_data f ≡ true → turn_on s.interface f ≡ turn.Compare own
compares s f own is h = turn_of-data (device_of s) f h ∙ ap (λ own. turn_at_data own s.interface.roles.listens) is

step_compares : (n : ℕ) (s : DriveState) (f : Frame) (own : OwnFrame) → s.interface.own ≡ Some own → is_data f ≡ true → same_but_service own.frame f ≡ true
    → table.drive_step n s f ≡ table.went_on (own.stopped || own.last) n (table.behind_effect f s)
step_compares n s f own is h right =
    ap (λ asked. table.answered asked n s.interface.roles f (table.behind_effect f s)) (compares s f own is h) ∙ ap (λ b. table.compared b own n (table.behind_effect f s)) right

-- the next byte of the record is sent
pub step_sends : (n last : ℕ) (s : DriveState) (f : Frame) → IsReading last s → is_data f ≡ true → same_but_service (framed class.Dab (get_or s.buffer_0 last 0)) f ≡ true
    → table.drive_step n s f ≡ Now (table.sends start.Data false (get_or s.buffer_0 s.pointer 0) (table.advanced (table.behind_effect f s)))
step_sends n last s f reading h right =
    let u = table.behind_effect f s in
    step_compares n s f (just_sent (framed class.Dab (get_or s.buffer_0 last 0)) false) reading.sent h right
    ∙ ap (λ m. then_by table.next_or_end (table.due_in m n u)) reading.mode
    ∙ ap (λ b. then_by table.next_or_end (if b then then_by table.first_of_record (table.loaded n u) else Now (table.byte_of_record u))) (ne_eqb s.pointer 0 (λ e. absurd (omega (arith, e, reading.pointer))))

-- after the last byte of a record the next one is due
step_asks : (n byte : ℕ) (s : DriveState) (f : Frame) → s.interface.own ≡ Some (just_sent (framed class.Dab byte) false) → s.mode ≡ mode.Read → s.pointer ≡ 0 → is_data f ≡ true
    → same_but_service (framed class.Dab byte) f ≡ true
    → table.drive_step n s f ≡ then_by table.next_or_end (then_by table.first_of_record (table.loaded n (table.behind_effect f s)))
step_asks n byte s f is in_mode empty h right =
    let u = table.behind_effect f s in
    step_compares n s f (just_sent (framed class.Dab byte) false) is h right
    ∙ ap (λ m. then_by table.next_or_end (table.due_in m n u)) in_mode
    ∙ ap (λ b. then_by table.next_or_end (if b then then_by table.first_of_record (table.loaded n u) else Now (table.byte_of_record u))) (eq-eqb s.pointer 0 empty)

-- it is read, and its first byte sent; where it could not be read, the transmission ends with status 1
pub step_reads_on : (n byte : ℕ) (s : DriveState) (f : Frame) → s.interface.own ≡ Some (just_sent (framed class.Dab byte) false) → s.mode ≡ mode.Read → s.pointer ≡ 0 → is_data f ≡ true
    → same_but_service (framed class.Dab byte) f ≡ true → s.position ≢ n
    → table.drive_step n s f ≡ Reads s.position (λ bytes. table.sends start.Data false (get_or bytes s.pointer 0) (table.advanced (record (table.behind_effect f s) { buffer_0 = bytes; position = s.position + 1 })))
    (table.ends eto (table.faulty fault.Unread (table.behind_effect f s)))
step_reads_on n byte s f is in_mode empty h right on =
    let u = table.behind_effect f s in
    step_asks n byte s f is in_mode empty h right
    ∙ ap (λ b. then_by table.next_or_end (then_by table.first_of_record (if b then Now (table.faulty fault.NoRecord u, false) else Reads u.position (λ bytes. (record u { buffer_0 = bytes }, true)) (table.faulty fault.Unread u, false)))) (ne_eqb s.position n on)

-- after the last record of the tape there is none: the transmission ends with status 3
pub step_reads_past : (n byte : ℕ) (s : DriveState) (f : Frame) → s.interface.own ≡ Some (just_sent (framed class.Dab byte) false) → s.mode ≡ mode.Read → s.pointer ≡ 0 → is_data f ≡ true
    → same_but_service (framed class.Dab byte) f ≡ true → s.position ≡ n
    → table.drive_step n s f ≡ Now (table.ends eto (table.faulty fault.NoRecord (table.behind_effect f s)))
step_reads_past n byte s f is in_mode empty h right at_end =
    let u = table.behind_effect f s in
    step_asks n byte s f is in_mode empty h right
    ∙ ap (λ b. then_by table.next_or_end (then_by table.first_of_record (if b then Now (table.faulty fault.NoRecord u, false) else Reads u.position (λ bytes. (record u { buffer_0 = bytes }, true)) (table.faulty fault.Unread u, false)))) (eq-eqb s.position n at_end)

-- After NRD no byte is asked for, and after a last byte neither: the transmission ends, and a status that was sent is
-- cleared.
pub step_ends : (n : ℕ) (s : DriveState) (f : Frame) (own : OwnFrame) → s.interface.own ≡ Some own → is_data f ≡ true → same_but_service own.frame f ≡ true → (own.stopped || own.last) ≡ true
    → table.drive_step n s f ≡ Now (table.ends eto (table.acknowledged s.begun (table.behind_effect f s)))
step_ends n s f own is h right over = step_compares n s f own is h right ∙ ap (λ b. table.went_on b n (table.behind_effect f s)) over

-- ---- the status

-- SST to the talker sends the status
pub step_status : (n : ℕ) (s : DriveState) → s.interface.roles.talks ≡ true → s.interface.own ≡ None
    → table.drive_step n s sst ≡ Now (table.sends start.Status true (status_byte_of (status_of s)) (table.behind_effect sst s))
step_status n s talks silent =
    ap (λ asked. table.answered asked n s.interface.roles sst (table.behind_effect sst s))
    (ap (λ own. turn_at_start own s.interface.roles.talks turn.Begin) silent ∙ ap (λ talks. turn_at_start None talks turn.Begin) talks)

-- ---- all bytes of a record

-- the drive that has sent one more
abbrev pub later : DriveState → Frame → DriveState
later s f = (table.sends start.Data false (get_or s.buffer_0 s.pointer 0) (table.advanced (table.behind_effect f s))).0

module _ {M : Type 0} (view : M → MediumView) where
  abbrev Does : {X : Type 0} → Step X → X → M → M → Type 0
  Does step x m n = Did view step x m n

  -- one byte more
  pub one_sent : (last : ℕ) (f : Frame) (out : Out) (v u : DriveView M) → IsReading last v.state → is_data f ≡ true → same_but_service (framed class.Dab (get_or v.state.buffer_0 last 0)) f ≡ true
      → Does (table.drive_step (view v.medium).record_count v.state f) (u.state, out) v.medium u.medium → (out ≡ Source (framed class.Dab (get_or v.state.buffer_0 v.state.pointer 0))) × (u ≡ record { state = later v.state f; medium = v.medium })
  one_sent last f out v u reading h right did =
      let sent : Does (Now (table.sends start.Data false (get_or v.state.buffer_0 v.state.pointer 0) (table.advanced (table.behind_effect f v.state)))) (u.state, out) v.medium u.medium =
      subst (λ step. Does step (u.state, out) v.medium u.medium) (step_sends (view v.medium).record_count last v.state f reading h right) did in
      (ap (λ x. x.1) sent.0, λ i. record { state = (sent.0 i).0; medium = sent.1 i })
