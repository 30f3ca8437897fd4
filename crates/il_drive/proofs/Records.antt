-- Several records that are written in one transmission: each is put as its last byte comes, and after one that the
-- medium could not write no byte does anything.
use Rattle.std.proofs.Common.{◌≡◌, ◌≤◌, ◌+◌, ◌++◌, ◌⊎◌, inl, inr, List, [], ◌∷◌, length, refl, sym, ap, subst, ◌∙◌, arith, ⊎_elim}
use Rattle.std.proofs.lemmas.List.{length-map}
use Rattle.il_ports.specs.Media.{MediumView}
use Rattle.il_frames.specs.declared.frame.Frame.{Frame}
use Rattle.il_frames.specs.Frames.{byte_of}
use Rattle.il_device.specs.declared.device.Out.{Out}
use Rattle.il_device.specs.declared.roles.Roles.{Roles}
use Rattle.il_device.specs.Interfaces.{InterfaceState, interface_after}
use Rattle.il_device.proofs.Laws.{roles_after-data, own_after-data}
use Rattle.il_drive.specs.declared.mode.Mode.TheVariants as mode
use Rattle.il_drive.specs.State.{DriveState, DriveView}
use Rattle.il_drive.specs.Steps.{Now, Writes, Did}
use Rattle.il_drive.specs.Table as table
use Rattle.il_drive.specs.Runs.{Ran, AllData, IsWriting, through, bytes_of, put_well, put_badly}
use Rattle.il_drive.proofs.Beginning.{IsListening, step_hears}
use Rattle.il_drive.proofs.Runs.{puts_record}

-- the drive that has put a record of these frames, and the one that could not
abbrev pub well : List Frame → DriveState → DriveState
well fs s = put_well (bytes_of fs) (through fs s.interface) s

abbrev pub badly : List Frame → DriveState → DriveState
badly fs s = put_badly (bytes_of fs) (through fs s.interface) s

-- ---- data leave roles and own frame

through_roles : (fs : List Frame) (i : InterfaceState) → AllData fs → (through fs i).roles ≡ i.roles
through_roles [] i all = refl
through_roles (f ∷ fs) i all = through_roles fs (interface_after i f) all.1 ∙ roles_after-data i.roles f all.0

through_own : (fs : List Frame) (i : InterfaceState) → AllData fs → (through fs i).own ≡ i.own
through_own [] i all = refl
through_own (f ∷ fs) i all = through_own fs (interface_after i f) all.1 ∙ own_after-data i.roles i.own f all.0

-- after a record that was put the next one is awaited
well_writing : (fs : List Frame) (s : DriveState) → IsWriting s → AllData fs → IsWriting (well fs s)
well_writing fs s writing all = record {
  listens = ap (λ (r : Roles). r.listens) (through_roles fs s.interface all) ∙ writing.listens;
  silent = through_own fs s.interface all ∙ writing.silent;
  mode = writing.mode;
}

-- after one that was not none is
badly_rests : (fs : List Frame) (s : DriveState) → IsWriting s → AllData fs → IsListening mode.Rest (badly fs s)
badly_rests fs s writing all = record {
  listens = ap (λ (r : Roles). r.listens) (through_roles fs s.interface all) ∙ writing.listens;
  silent = through_own fs s.interface all ∙ writing.silent;
  mode = refl;
}

-- ---- records

-- the frames of a record are 256 data
abbrev pub AreRecords : List (List Frame) → Type 0
AreRecords [] = Unit {0}
AreRecords (fs ∷ more) = (AllData fs × (length fs ≡ 256)) × AreRecords more

abbrev pub frames_of : List (List Frame) → List Frame
frames_of [] = []
frames_of (fs ∷ more) = fs ++ frames_of more

all_joined : (fs gs : List Frame) → AllData fs → AllData gs → AllData (fs ++ gs)
all_joined [] gs first more = more
all_joined (f ∷ fs) gs first more = (first.0, all_joined fs gs first.1 more)

pub all_frames : (records : List (List Frame)) → AreRecords records → AllData (frames_of records)
all_frames [] are = are
all_frames (fs ∷ more) are = all_joined fs (frames_of more) are.0.0 (all_frames more are.1)

-- a run over joined frames, in its two parts
record Parts {M : Type 0} (view : M → MediumView) (v w : DriveView M) (fs gs : List Frame) : Type 0 where
  first : List Out
  more : List Out
  middle : DriveView M
  before : Ran view v fs first middle
  behind : Ran view middle gs more w

module _ {M : Type 0} (view : M → MediumView) where
  splits : (fs gs : List Frame) (outs : List Out) (v w : DriveView M) → Ran view v (fs ++ gs) outs w → Parts view v w fs gs
  splits [] gs outs v w ran = record { first = []; more = outs; middle = v; before = refl; behind = ran }
  splits (f ∷ fs) gs [] v w ran = absurd ran
  splits (f ∷ fs) gs (out ∷ outs) v w ran =
      let parts = splits fs gs outs ran.0 w ran.2 in
      record { first = out ∷ parts.first; more = parts.more; middle = parts.middle; before = (ran.0, ran.1, parts.before); behind = parts.behind }

  -- bytes that do nothing but that they are heard
  abbrev pub Unheeded : List Frame → DriveView M → DriveView M → Type 0
  Unheeded fs v w = (w.state ≡ record v.state { interface = through fs v.state.interface }) × (w.medium ≡ v.medium)

  pub unheeded : (fs : List Frame) (outs : List Out) (v w : DriveView M) → IsListening mode.Rest v.state → AllData fs → Ran view v fs outs w → Unheeded fs v w
  unheeded [] [] v w resting all ran = (ap (λ (v : DriveView M). v.state) ran, ap (λ (v : DriveView M). v.medium) ran)
  unheeded [] (out ∷ outs) v w resting all ran = absurd ran
  unheeded (f ∷ fs) [] v w resting all ran = absurd ran
  unheeded (f ∷ fs) (out ∷ outs) v w resting all ran =
      let s = v.state in
      let u = ran.0 in
      let did : Did view (Now (table.passes s.interface.roles f (table.behind_effect f s))) (u.state, out) v.medium u.medium =
      subst (λ step. Did view step (u.state, out) v.medium u.medium) (step_hears mode.Rest (view v.medium).record_count s f resting all.0) ran.1 in
      let is : u.state ≡ table.behind_effect f s = ap (λ x. x.0) did.0 in
      let still : IsListening mode.Rest (table.behind_effect f s) = record {
        listens = ap (λ (r : Roles). r.listens) (roles_after-data s.interface.roles f all.0) ∙ resting.listens;
        silent = own_after-data s.interface.roles s.interface.own f all.0 ∙ resting.silent;
        mode = resting.mode;
      } in
      let more = unheeded fs outs u w (subst (IsListening mode.Rest) (sym is) still) all.1 ran.2 in
      (more.0 ∙ ap (λ (s : DriveState). record s { interface = through fs s.interface }) is, more.1 ∙ did.1)

  -- each record by one write of the medium at the position, which rises; one that fails is the last, with status 2
  abbrev pub Wrote : List (List Frame) → DriveView M → DriveView M → Type 0
  Wrote [] v w = w ≡ v
  Wrote (fs ∷ more) v w =
      (u : DriveView M) × Did view (Writes v.state.position (bytes_of fs) (well fs v.state) (badly fs v.state)) u.state v.medium u.medium
      × (((u.state ≡ well fs v.state) × Wrote more u w) ⊎ ((u.state ≡ badly fs v.state) × Unheeded (frames_of more) u w))

  pub writes_records : (records : List (List Frame)) (outs : List Out) (v w : DriveView M) → IsWriting v.state → AreRecords records → v.state.pointer ≡ 0 → length v.state.buffer_0 ≡ 256
      → v.state.position + length records ≤ (view v.medium).record_count → Ran view v (frames_of records) outs w → Wrote records v w
  writes_records [] [] v w writing are empty long within ran = ran
  writes_records [] (out ∷ outs) v w writing are empty long within ran = absurd ran
  writes_records ([] ∷ more) outs v w writing are empty long within ran = absurd (omega (arith, are.0.1))
  writes_records ((f ∷ fs) ∷ more) outs v w writing are empty long within ran =
      let s = v.state in
      let parts = splits (f ∷ fs) (frames_of more) outs v w ran in
      let u = parts.middle in
      let put = puts_record view f fs parts.first v u writing are.0.0 empty are.0.1 long (λ e. absurd (omega (arith, within, e))) parts.before in (
        u,
        put,
        ⊎_elim
            (λ took. inl (
              took.0,
              writes_records more parts.more u w (subst IsWriting (sym took.0) (well_writing (f ∷ fs) s writing are.0.0)) are.1 (ap (λ (s : DriveState). s.pointer) took.0)
                  (ap (λ (s : DriveState). length s.buffer_0) took.0 ∙ length-map (f ∷ fs) byte_of ∙ are.0.1) (omega (arith, within, ap (λ (s : DriveState). s.position) took.0, put.0.stays_in.size)) parts.behind,
            ))
            (λ torn. inr (torn.0, unheeded (frames_of more) parts.more u w (subst (IsListening mode.Rest) (sym torn.0) (badly_rests (f ∷ fs) s writing are.0.0)) (all_frames more are.1) parts.behind))
            put.1,
      )
