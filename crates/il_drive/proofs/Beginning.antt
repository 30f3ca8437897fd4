-- What begins a transfer: the seek, DDL 2 and DDT 2 with status 0. And runs, one after the other.
use Rattle.std.proofs.Common.{◌≡◌, ◌+◌, ◌*◌, ◌++◌, ℕ, List, [], ◌∷◌, true, refl, ap, subst, ◌∙◌}
use Rattle.std.specs.Prelude.{None}
use Rattle.il_ports.specs.Media.{MediumView}
use Rattle.il_frames.specs.declared.frame.Class.TheVariants as class
use Rattle.il_frames.specs.declared.frame.Frame.{Frame}
use Rattle.il_frames.specs.Frames.{byte_of, framed, is_data}
use Rattle.il_device.specs.declared.device.Out.{Out}
use Rattle.il_device.specs.declared.interface.Turn.TheVariants as turn
use Rattle.il_device.specs.declared.roles.Roles.{Roles}
use Rattle.il_device.specs.Takes.{turn_at_data}
use Rattle.il_device.specs.Interfaces.{turn_on}
use Rattle.il_device.proofs.Laws.{turn_of-data, roles_after-data, own_after-data}
use Rattle.il_drive.specs.declared.mode.Mode.{Mode}
use Rattle.il_drive.specs.declared.mode.Mode.TheVariants as mode
use Rattle.il_drive.specs.State.{DriveState, DriveView, device_of}
use Rattle.il_drive.specs.Steps.{Step, Now, then_by, Did}
use Rattle.il_drive.specs.Table as table
use Rattle.il_drive.specs.Runs.{Ran}

-- ---- messages

-- the messages DDL 2, DDL 4 and DDT 2
abbrev pub write_message : Frame
write_message = framed class.Cmd 0xA2

abbrev pub seek_message : Frame
seek_message = framed class.Cmd 0xA4

abbrev pub read_message : Frame
read_message = framed class.Cmd 0xC2

-- ---- bytes that are heard

-- the drive listens, with no frame of its own on the loop, in this mode
pub record IsListening (m : Mode) (s : DriveState) : Type 0 where
  pub listens : s.interface.roles.listens ≡ true
  pub silent : s.interface.own ≡ None
  pub mode : s.mode ≡ m

hears : (m : Mode) (s : DriveState) (f : Frame) → IsListening m s → is_data f ≡ true → turn_on s.interface f ≡ turn.Hear
hears m s f listening h =
    turn_of-data (device_of s) f h
    ∙ ap (λ own. turn_at_data own s.interface.roles.listens) listening.silent ∙ ap (λ listens. turn_at_data None listens) listening.listens

pub step_hears : (m : Mode) (n : ℕ) (s : DriveState) (f : Frame) → IsListening m s → is_data f ≡ true
    → table.drive_step n s f ≡ then_by (table.passes s.interface.roles f) (table.heard_in m (byte_of f) n (table.behind_effect f s))
step_hears m n s f listening h =
    ap (λ asked. table.answered asked n s.interface.roles f (table.behind_effect f s)) (hears m s f listening h)
    ∙ ap (λ m. then_by (table.passes s.interface.roles f) (table.heard_in m (byte_of f) n (table.behind_effect f s))) listening.mode

-- after the high byte
abbrev half : DriveState → Frame → DriveState
half s f = table.in_mode (mode.SeekLow (byte_of f)) (table.behind_effect f s)

half_listening : (s : DriveState) (f : Frame) → IsListening mode.SeekHigh s → is_data f ≡ true → IsListening (mode.SeekLow (byte_of f)) (half s f)
half_listening s f listening h = record {
  listens = ap (λ (r : Roles). r.listens) (roles_after-data s.interface.roles f h) ∙ listening.listens;
  silent = own_after-data s.interface.roles s.interface.own f h ∙ listening.silent;
  mode = refl;
}

module _ {M : Type 0} (view : M → MediumView) where
  abbrev Does : {X : Type 0} → Step X → X → M → M → Type 0
  Does step x m n = Did view step x m n

  -- two bytes seek the record of that number: the position, where the tape has it, else status 3; the medium stays
  pub seeks : (high low : Frame) (outs : List Out) (v w : DriveView M) → IsListening mode.SeekHigh v.state → is_data high ≡ true → is_data low ≡ true → Ran view v (high ∷ low ∷ []) outs w
      → (w.state ≡ table.sought (256 * byte_of high + byte_of low) (view v.medium).record_count (table.behind_effect low (half v.state high))) × (w.medium ≡ v.medium)
  seeks high low [] v w listening dh dl ran = absurd ran
  seeks high low (a ∷ []) v w listening dh dl ran = absurd ran.2
  seeks high low (a ∷ b ∷ c ∷ outs) v w listening dh dl ran = absurd ran.2.2
  seeks high low (a ∷ b ∷ []) v w listening dh dl ran =
      let s = v.state in
      let u = ran.0 in
      let first : Does (Now (table.passes s.interface.roles high (half s high))) (u.state, a) v.medium u.medium =
      subst (λ step. Does step (u.state, a) v.medium u.medium) (step_hears mode.SeekHigh (view v.medium).record_count s high listening dh) ran.1 in
      let is : u ≡ record { state = half s high; medium = v.medium } = λ i. record { state = (first.0 i).0; medium = first.1 i } in
      let rest : Ran view (record { state = half s high; medium = v.medium }) (low ∷ []) (b ∷ []) w = subst (λ u. Ran view u (low ∷ []) (b ∷ []) w) is ran.2 in
      let x = rest.0 in
      let second : Does (Now (table.passes (half s high).interface.roles low (table.sought (256 * byte_of high + byte_of low) (view v.medium).record_count (table.behind_effect low (half s high))))) (x.state, b) v.medium x.medium =
      subst (λ step. Does step (x.state, b) v.medium x.medium) (step_hears (mode.SeekLow (byte_of high)) (view v.medium).record_count (half s high) low (half_listening s high listening dh) dl) rest.1 in
      (ap (λ (v : DriveView M). v.state) rest.2 ∙ ap (λ x. x.0) second.0, ap (λ (v : DriveView M). v.medium) rest.2 ∙ second.1)

  -- ---- runs one after the other

  pub joins : (fs gs : List Frame) (outs more : List Out) (v u w : DriveView M) → Ran view v fs outs u → Ran view u gs more w → Ran view v (fs ++ gs) (outs ++ more) w
  joins [] gs [] more v u w first second = subst (λ x. Ran view x gs more w) first second
  joins [] gs (out ∷ outs) more v u w first second = absurd first
  joins (f ∷ fs) gs [] more v u w first second = absurd first
  joins (f ∷ fs) gs (out ∷ outs) more v u w first second = (first.0, first.1, joins fs gs outs more first.0 u w first.2 second)
