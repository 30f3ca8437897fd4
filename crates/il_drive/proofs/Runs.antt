-- Whole records: what 256 bytes that are heard put on the tape, and which bytes a transmission sends.
use Rattle.std.proofs.Common.{◌≡◌, ◌≢◌, ◌<◌, ◌≤◌, ◌+◌, ◌++◌, inl, inr, ℕ, suc, List, [], ◌∷◌, length, set, take, true, refl, sym, ap, subst, ◌∙◌, arith}
use Rattle.std.specs.Prelude.{None, if◌then◌else◌}
use Rattle.std.proofs.Math.Nat.{mod-eq_of_lt}
use Rattle.std.proofs.Common.{append_assoc, length-set}
use Rattle.std.proofs.lemmas.List.{take_more_set, take_all}
use Rattle.std.proofs.lemmas.Bool.{ne_eqb, lt-ltb, lt-leb}
use Rattle.il_ports.specs.Media.{MediumView}
use Rattle.il_frames.specs.declared.frame.Frame.{Frame}
use Rattle.il_frames.specs.Frames.{byte_of, is_data}
use Rattle.il_device.specs.declared.device.Out.{Out}
use Rattle.il_device.specs.declared.interface.Turn.TheVariants as turn
use Rattle.il_device.specs.declared.roles.Roles.{Roles}
use Rattle.il_device.specs.Takes.{turn_at_data}
use Rattle.il_device.specs.Interfaces.{InterfaceState, turn_on, interface_after}
use Rattle.il_device.proofs.Laws.{turn_of-data, roles_after-data, own_after-data}
use Rattle.il_drive.specs.declared.mode.Fault.TheVariants as fault
use Rattle.il_drive.specs.State.{DriveState, DriveView, device_of}
use Rattle.il_drive.specs.Steps.{Step, Now, Writes, then_by, Did}
use Rattle.il_drive.specs.Table as table
use Rattle.il_drive.specs.Runs.{Ran, AllData, IsWriting, through, bytes_of, buffered, put_well, put_badly}

-- ---- a byte that is heard in mode Write

hears : (s : DriveState) (f : Frame) → IsWriting s → is_data f ≡ true → turn_on s.interface f ≡ turn.Hear
hears s f writing h =
    turn_of-data (device_of s) f h
    ∙ ap (λ own. turn_at_data own s.interface.roles.listens) writing.silent ∙ ap (λ listens. turn_at_data None listens) writing.listens

-- the step, before it is known whether the byte is the last
step_hears : (n : ℕ) (s : DriveState) (f : Frame) → IsWriting s → is_data f ≡ true
    → table.drive_step n s f ≡ then_by (table.passes s.interface.roles f) (table.taken (byte_of f) n (table.behind_effect f s))
step_hears n s f writing h =
    ap (λ asked. table.answered asked n s.interface.roles f (table.behind_effect f s)) (hears s f writing h)
    ∙ ap (λ m. then_by (table.passes s.interface.roles f) (table.heard_in m (byte_of f) n (table.behind_effect f s))) writing.mode

-- the drive that has heard the byte
abbrev holding : DriveState → Frame → DriveState
holding s f = record (table.behind_effect f s) { buffer_0 = set s.buffer_0 s.pointer (byte_of f); filled = true }

still_writing : (s : DriveState) (f : Frame) (u : DriveState) → IsWriting s → is_data f ≡ true → u.interface ≡ interface_after s.interface f → u.mode ≡ s.mode → IsWriting u
still_writing s f u writing h i m = record {
  listens = ap (λ (i : InterfaceState). i.roles.listens) i ∙ ap (λ (r : Roles). r.listens) (roles_after-data s.interface.roles f h) ∙ writing.listens;
  silent = ap (λ (i : InterfaceState). i.own) i ∙ own_after-data s.interface.roles s.interface.own f h ∙ writing.silent;
  mode = m ∙ writing.mode;
}

-- a byte that is not the last
pub step_buffers : (n : ℕ) (s : DriveState) (f : Frame) → IsWriting s → is_data f ≡ true → s.pointer < 255
    → table.drive_step n s f ≡ Now (table.passes s.interface.roles f (table.advanced (holding s f)))
step_buffers n s f writing h lt =
    step_hears n s f writing h
    ∙ ap (λ b. then_by (table.passes s.interface.roles f) (if b then Now (table.advanced (holding s f)) else table.put n (holding s f))) (lt-ltb s.pointer 255 lt)

-- the last byte puts the record
pub step_puts : (n : ℕ) (s : DriveState) (f : Frame) → IsWriting s → is_data f ≡ true → 255 ≤ s.pointer → s.position ≢ n
    → table.drive_step n s f ≡ Writes s.position (set s.buffer_0 s.pointer (byte_of f))
    (table.passes s.interface.roles f (table.emptied (record (holding s f) { position = s.position + 1 }))) (table.passes s.interface.roles f (table.emptied (table.faulty fault.Unwritten (holding s f))))
step_puts n s f writing h full on =
    step_hears n s f writing h
    ∙ ap (λ b. then_by (table.passes s.interface.roles f) (if b then Now (table.advanced (holding s f)) else table.put n (holding s f))) (lt-leb (suc s.pointer) 255 (omega (arith, full)))
    ∙ ap (λ b. then_by (table.passes s.interface.roles f) (then_by table.emptied (if b then Now (table.faulty fault.NoRecord (holding s f)) else Writes s.position (set s.buffer_0 s.pointer (byte_of f)) (record (holding s f) { position = s.position + 1 }) (table.faulty fault.Unwritten (holding s f)))))
    (ne_eqb s.position n on)

-- ---- bytes that do not fill the buffer

-- the drive that has heard one more
abbrev next : DriveState → Frame → DriveState
next s f = record s { interface = interface_after s.interface f; buffer_0 = set s.buffer_0 s.pointer (byte_of f); pointer = s.pointer + 1; filled = true }

next_is : (s : DriveState) (f : Frame) → s.pointer < 255 → table.advanced (holding s f) ≡ next s f
next_is s f lt = ap (λ p. record (holding s f) { pointer = p }) (mod-eq_of_lt (omega (arith, lt)))

step_next : (n : ℕ) (s : DriveState) (f : Frame) → IsWriting s → is_data f ≡ true → s.pointer < 255 → table.drive_step n s f ≡ Now (table.passes s.interface.roles f (next s f))
step_next n s f writing h lt = step_buffers n s f writing h lt ∙ ap (λ u. Now (table.passes s.interface.roles f u)) (next_is s f lt)

next_writing : (s : DriveState) (f : Frame) → IsWriting s → is_data f ≡ true → IsWriting (next s f)
next_writing s f writing h = still_writing s f (next s f) writing h refl refl

module _ {M : Type 0} (view : M → MediumView) where
  abbrev Runs : DriveView M → List Frame → List Out → DriveView M → Type 0
  Runs v fs outs w = Ran view v fs outs w

  abbrev Does : {X : Type 0} → Step X → X → M → M → Type 0
  Does step x m n = Did view step x m n

  -- fewer bytes than fill the buffer leave the medium
  pub buffers : (fs : List Frame) (outs : List Out) (v w : DriveView M) → IsWriting v.state → AllData fs → v.state.pointer + length fs ≤ 255 → Runs v fs outs w → (w.state ≡ buffered fs v.state) × (w.medium ≡ v.medium)
  buffers [] [] v w writing all fits ran = (ap (λ v. v.state) ran, ap (λ v. v.medium) ran)
  buffers [] (out ∷ outs) v w writing all fits ran = absurd ran
  buffers (f ∷ fs) [] v w writing all fits ran = absurd ran
  buffers (f ∷ fs) (out ∷ outs) v w writing all fits ran =
      let u = ran.0 in
      let did : Does (Now (table.passes v.state.interface.roles f (next v.state f))) (u.state, out) v.medium u.medium =
      subst (λ step. Does step (u.state, out) v.medium u.medium) (step_next (view v.medium).record_count v.state f writing all.0 (omega (arith, fits))) ran.1 in
      let is : u.state ≡ next v.state f = ap (λ x. x.0) did.0 in
      let more =
      buffers fs outs u w (subst IsWriting (sym is) (next_writing v.state f writing all.0)) all.1 (omega (arith, fits, ap (λ (s : DriveState). s.pointer) is)) ran.2 in
      (more.0 ∙ ap (buffered fs) is, more.1 ∙ did.1)

  -- ---- 256 bytes

  abbrev PutsFrom : List Frame → List ℕ → DriveState → M → DriveView M → Type 0
  PutsFrom fs bytes s m w =
      Does (Writes s.position bytes (put_well bytes (through fs s.interface) s) (put_badly bytes (through fs s.interface) s)) w.state m w.medium

  -- by one write the bytes stand on the tape, or any where the medium failed
  abbrev Puts : List Frame → List ℕ → DriveView M → DriveView M → Type 0
  Puts fs bytes v w = PutsFrom fs bytes v.state v.medium w

  wrote_first : (k : ℕ) (bytes : List ℕ) (r : Roles) (f : Frame) (good bad t : DriveState) (out : Out) (m n : M)
      → Does (Writes k bytes (table.passes r f good) (table.passes r f bad)) (t, out) m n → Does (Writes k bytes good bad) t m n
  wrote_first k bytes r f good bad t out m n (has, inl took) = (has, inl (ap (λ x. x.0) took.0, took.1, took.2))
  wrote_first k bytes r f good bad t out m n (has, inr torn) = (has, inr (ap (λ x. x.0) torn.0, torn.1, torn.2))

  -- the byte that fills the buffer puts the record
  pub puts_last : (f : Frame) (out : Out) (v w : DriveView M) → IsWriting v.state → is_data f ≡ true → v.state.pointer ≡ 255 → v.state.position ≢ (view v.medium).record_count
      → Does (table.drive_step (view v.medium).record_count v.state f) (w.state, out) v.medium w.medium → Puts (f ∷ []) (set v.state.buffer_0 v.state.pointer (byte_of f)) v w
  puts_last f out v w writing h full on did =
      let s = v.state in
      let bytes = set s.buffer_0 s.pointer (byte_of f) in
      wrote_first s.position bytes s.interface.roles f (put_well bytes (interface_after s.interface f) s) (put_badly bytes (interface_after s.interface f) s) w.state out v.medium w.medium
      (subst (λ step. Does step (w.state, out) v.medium w.medium) (step_puts (view v.medium).record_count s f writing h (omega (arith, full)) on) did)

  -- what the buffer holds before its pointer, and then these bytes
  abbrev joined : DriveState → List Frame → List ℕ
  joined s fs = take s.pointer s.buffer_0 ++ bytes_of fs

  joined_next : (s : DriveState) (f : Frame) (fs : List Frame) → s.pointer < length s.buffer_0 → joined (next s f) fs ≡ joined s (f ∷ fs)
  joined_next s f fs within = ap (λ xs. xs ++ bytes_of fs) (take_more_set s.buffer_0 s.pointer (byte_of f) within) ∙ append_assoc (take s.pointer s.buffer_0) (byte_of f ∷ []) (bytes_of fs)

  joined_last : (s : DriveState) (f : Frame) → s.pointer ≡ 255 → length s.buffer_0 ≡ 256 → set s.buffer_0 s.pointer (byte_of f) ≡ joined s (f ∷ [])
  joined_last s f full long =
      sym (take_all (s.pointer + 1) (set s.buffer_0 s.pointer (byte_of f)) (omega (arith, full, long, length-set s.buffer_0 s.pointer (byte_of f)))) ∙ take_more_set s.buffer_0 s.pointer (byte_of f) (omega (arith, full, long))

  -- the bytes that fill the buffer are put on the tape by one write, as the last one comes
  pub puts : (f : Frame) (fs : List Frame) (outs : List Out) (v w : DriveView M) → IsWriting v.state → AllData (f ∷ fs) → v.state.pointer + length (f ∷ fs) ≡ 256 → length v.state.buffer_0 ≡ 256
      → v.state.position ≢ (view v.medium).record_count → Runs v (f ∷ fs) outs w → Puts (f ∷ fs) (joined v.state (f ∷ fs)) v w
  puts f fs [] v w writing all fits long on ran = absurd ran
  puts f [] (out ∷ other ∷ outs) v w writing all fits long on ran = absurd ran.2
  puts f [] (out ∷ []) v w writing all fits long on ran =
      let s = v.state in
      let full : s.pointer ≡ 255 = omega (arith, fits) in
      let put = puts_last f out v ran.0 writing all.0 full on ran.1 in
      subst (λ w. Puts (f ∷ []) (joined s (f ∷ [])) v w) (sym ran.2) (subst (λ bytes. Puts (f ∷ []) bytes v ran.0) (joined_last s f full long) put)
  puts f (g ∷ fs) (out ∷ outs) v w writing all fits long on ran =
      let s = v.state in
      let u = ran.0 in
      let did : Does (Now (table.passes s.interface.roles f (next s f))) (u.state, out) v.medium u.medium =
      subst (λ step. Does step (u.state, out) v.medium u.medium) (step_next (view v.medium).record_count s f writing all.0 (omega (arith, fits))) ran.1 in
      let is : u.state ≡ next s f = ap (λ x. x.0) did.0 in
      let pointer : u.state.pointer ≡ s.pointer + 1 = ap (λ (s : DriveState). s.pointer) is in
      let same_size : (view u.medium).record_count ≡ (view v.medium).record_count = ap (λ m. (view m).record_count) did.1 in
      let put =
      puts g fs outs u w (subst IsWriting (sym is) (next_writing s f writing all.0)) all.1 (omega (arith, fits, pointer))
      (ap (λ (s : DriveState). length s.buffer_0) is ∙ length-set s.buffer_0 s.pointer (byte_of f) ∙ long) (λ e. on (sym (ap (λ (s : DriveState). s.position) is) ∙ e ∙ same_size)) ran.2 in
      let from_state : PutsFrom (g ∷ fs) (joined (next s f) (g ∷ fs)) (next s f) u.medium w = subst (λ s₂. PutsFrom (g ∷ fs) (joined s₂ (g ∷ fs)) s₂ u.medium w) is put in
      let from_medium = subst (λ m. PutsFrom (g ∷ fs) (joined (next s f) (g ∷ fs)) (next s f) m w) did.1 from_state in
      subst (λ bytes. PutsFrom (g ∷ fs) bytes (next s f) v.medium w) (joined_next s f (g ∷ fs) (omega (arith, fits, long))) from_medium

  -- from pointer 0 these are the bytes that were heard
  pub puts_record : (f : Frame) (fs : List Frame) (outs : List Out) (v w : DriveView M) → IsWriting v.state → AllData (f ∷ fs) → v.state.pointer ≡ 0 → length (f ∷ fs) ≡ 256 → length v.state.buffer_0 ≡ 256
      → v.state.position ≢ (view v.medium).record_count → Runs v (f ∷ fs) outs w → Puts (f ∷ fs) (bytes_of (f ∷ fs)) v w
  puts_record f fs outs v w writing all empty fits long on ran =
      subst (λ bytes. Puts (f ∷ fs) bytes v w) (ap (λ k. take k v.state.buffer_0 ++ bytes_of (f ∷ fs)) empty) (puts f fs outs v w writing all (omega (arith, empty, fits)) long on ran)
