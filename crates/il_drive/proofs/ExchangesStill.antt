-- Laws of any drive, whatever it stands at: what frames do to its roles, and which frames write no record.
use Rattle.std.proofs.Common.{◌≡◌, ◌≤◌, ◌+◌, ◌*◌, ◌⊎◌, ℕ, Bool, true, false, List, [], ◌∷◌, zero, suc, take, refl, sym, ap, subst, ◌∙◌, ⊎_elim}
use Rattle.std.specs.Prelude.{Option, Some, None, ◌&&◌, ◌==◌, nat_lt, if◌then◌else◌}
use Rattle.il_ports.specs.Media.{MediumView}
use Rattle.lif_model.specs.Causes.{Rose}
use Rattle.il_frames.specs.declared.frame.Class.{Class}
use Rattle.il_frames.specs.declared.frame.Class.TheVariants as class
use Rattle.il_frames.specs.declared.frame.Frame.{Frame}
use Rattle.il_frames.specs.declared.message.Message.{Message}
use Rattle.il_frames.specs.declared.message.Message.TheVariants as msg
use Rattle.il_frames.specs.Frames.{byte_of, class_of, is_data, is_data_class}
use Rattle.il_frames.specs.Messages.{message_at, message_of}
use Rattle.il_device.specs.declared.device.Out.{Out}
use Rattle.il_device.specs.declared.interface.OwnFrame.{OwnFrame}
use Rattle.il_device.specs.declared.interface.Turn.{Turn}
use Rattle.il_device.specs.declared.interface.Turn.TheVariants as turn
use Rattle.il_device.specs.declared.roles.Roles.{Roles}
use Rattle.il_device.specs.Roles.{roles_after, takes_address, is_own}
use Rattle.il_device.specs.Takes.{turn_at, turn_at_data, turn_at_start, asked_for_id}
use Rattle.il_device.specs.Interfaces.{InterfaceState, turn_on}
use Rattle.il_device.proofs.Laws.{changes_roles, roles_after-other, roles_after-data, own_after-data}
use Rattle.il_drive.specs.declared.commands.ListenerCommand.{ListenerCommand}
use Rattle.il_drive.specs.declared.commands.ListenerCommand.TheVariants as ddl
use Rattle.il_drive.specs.declared.mode.Mode.{Mode}
use Rattle.il_drive.specs.declared.mode.Mode.TheVariants as mode
use Rattle.il_drive.specs.declared.mode.Fault.TheVariants as fault
use Rattle.il_drive.specs.Commands.{listener_command}
use Rattle.il_drive.specs.State.{DriveState, DriveView}
use Rattle.il_drive.specs.Steps.{Step, Now, Reads, Writes, then_by, IsStill, Did}
use Rattle.il_drive.specs.Table as table
use Rattle.il_drive.specs.Facts.{put_at, put_at_message, closed_by, placed_on, record_put}
use Rattle.il_drive.specs.Runs.{Ran, AllData}
use Rattle.il_drive.proofs.Outcomes.{written, every_did}
use Rattle.il_drive.proofs.Answering.{Fact, facts, record_written}
use Rattle.il_drive.proofs.Reading.{nothing_read, still_longer}
use Rattle.il_drive.proofs.Beginning.{IsListening, step_hears, seek_message, write_message}
use Rattle.il_drive.proofs.Exchanges.{Stance, parts}
use Rattle.il_drive.proofs.ExchangesAddressed.{unl, rfc, lad, message_of-lad, goes_listening}

-- ---- roles

abbrev pub roles_behind : List Frame → Roles → Roles
roles_behind [] r = r
roles_behind (f ∷ fs) r = roles_behind fs (roles_after r (message_of f))

data_changes : (k : Class) (b : ℕ) → is_data_class k ≡ true → changes_roles (message_at k b) ≡ false
data_changes class.Dab b h = refl
data_changes class.Dsr b h = refl
data_changes class.End b h = refl
data_changes class.Esr b h = refl
data_changes _ b h = cc

pub changes_roles-data : (f : Frame) → is_data f ≡ true → changes_roles (message_of f) ≡ false
changes_roles-data f h = data_changes (class_of f) (byte_of f) h

pub roles_behind-data : (fs : List Frame) (r : Roles) → AllData fs → roles_behind fs r ≡ r
roles_behind-data [] r all = refl
roles_behind-data (f ∷ fs) r all = roles_behind-data fs (roles_after r (message_of f)) all.1 ∙ roles_after-other r (message_of f) (changes_roles-data f all.0)

-- ---- no record is written

-- the step writes none: it leaves the medium, or reads
still_unwritten : {M X : Type 0} (view : M → MediumView) (st : Step X) (x : X) (m n : M) → written st ≡ None → Did view st x m n → IsStill (view m) (view n)
still_unwritten view (Now value) x m n none did = subst (λ n. IsStill (view m) (view n)) (sym did.1) (nothing_read (view m)).still
still_unwritten view (Reads k good bad) x m n none did = did.0
still_unwritten view (Writes k bytes good bad) x m n none did = cc

nothing_placed : (b : Bool) (k : ℕ) (bytes : Option (List ℕ)) → bytes ≡ None → placed_on b k bytes ≡ None
nothing_placed true k bytes none = refl
nothing_placed false k None none = refl
nothing_placed false k (Some bytes) none = cc

abbrev is_close : Option ListenerCommand → Bool
is_close (Some ddl.CloseRecord) = true
is_close _ = false

-- data and DDL 8 put records, and only where the drive listens
abbrev pub may_put : Message → Bool
may_put m = elim m [ msg.Dab b ↦ true | msg.Dsr b ↦ true | msg.End b ↦ true | msg.Esr b ↦ true | msg.Ddl k ↦ is_close (listener_command k) | _ ↦ false ]

close_none : (command : Option ListenerCommand) (b : Bool) (s : DriveState) → (is_close command && b) ≡ false → (if b then closed_by command s else None) ≡ None
close_none command false s h = refl
close_none (Some ddl.CloseRecord) true s h = cc
close_none _ true s h = refl

message_none : (m : Message) (r : Roles) (s : DriveState) → (may_put m && r.listens) ≡ false → put_at_message m r s ≡ None
message_none (msg.Ddl k) r s h = close_none (listener_command k) r.listens s h
message_none _ r s h = refl

data_none : (own : Option OwnFrame) (listens : Bool) (r : Roles) (f : Frame) (s : DriveState) → listens ≡ false → put_at_message (message_of f) r s ≡ None → put_at (turn_at_data own listens) r f s ≡ None
data_none (Some own) listens r f s h none = refl
data_none None false r f s h none = none
data_none None true r f s h none = cc

start_none : (own : Option OwnFrame) (talks : Bool) (asked : Turn) (r : Roles) (f : Frame) (s : DriveState) → put_at asked r f s ≡ None → put_at_message (message_of f) r s ≡ None → put_at (turn_at_start own talks asked) r f s ≡ None
start_none (Some own) talks asked r f s one none = none
start_none None true asked r f s one none = one
start_none None false asked r f s one none = none

id_none : (accessory : Option ℕ) (r : Roles) (f : Frame) (s : DriveState) → put_at_message (message_of f) r s ≡ None → put_at (asked_for_id accessory) r f s ≡ None
id_none None r f s none = none
id_none (Some id) r f s none = refl

turned_none : (m : Message) (r : Roles) (own : Option OwnFrame) (accessory : Option ℕ) (f : Frame) (s : DriveState) → (may_put m && r.listens) ≡ false → put_at_message (message_of f) r s ≡ None
    → put_at (turn_at r own accessory m) r f s ≡ None
turned_none (msg.Dab b) r own accessory f s h none = data_none own r.listens r f s h none
turned_none (msg.Dsr b) r own accessory f s h none = data_none own r.listens r f s h none
turned_none (msg.End b) r own accessory f s h none = data_none own r.listens r f s h none
turned_none (msg.Esr b) r own accessory f s h none = data_none own r.listens r f s h none
turned_none msg.Sda r own accessory f s h none = start_none own r.talks turn.Begin r f s refl none
turned_none msg.Sst r own accessory f s h none = start_none own r.talks turn.Begin r f s refl none
turned_none msg.Sdi r own accessory f s h none = start_none own r.talks turn.Begin r f s refl none
turned_none msg.Sai r own accessory f s h none = start_none own r.talks (asked_for_id accessory) r f s (id_none accessory r f s none) none
turned_none _ r own accessory f s h none = none

pub puts_none : (n : ℕ) (s : DriveState) (f : Frame) → (may_put (message_of f) && s.interface.roles.listens) ≡ false → record_put n s f ≡ None
puts_none n s f h =
    let r = s.interface.roles in
    let u = table.behind_effect f s in
    nothing_placed (s.position == n) s.position _ (turned_none (message_of f) r s.interface.own s.interface.accessory f u h (message_none (message_of f) r u h))

-- the message makes no listener
abbrev pub makes_listener : Message → Bool
makes_listener m = elim m [ msg.Lad a ↦ true | _ ↦ false ]

own_listens : (b : Bool) (r one other : Roles) → r.listens ≡ false → one.listens ≡ false → other.listens ≡ false → (if b then one else other).listens ≡ false
own_listens true r one other h is_one is_other = is_one
own_listens false r one other h is_one is_other = is_other

still_mute : (r : Roles) (m : Message) → makes_listener m ≡ false → r.listens ≡ false → (roles_after r m).listens ≡ false
still_mute r msg.Ifc h deaf = refl
still_mute r msg.Aau h deaf = refl
still_mute r (msg.Aad a) h deaf = own_listens (takes_address r.address a) r _ _ deaf deaf deaf
still_mute r (msg.Tad a) h deaf = own_listens (is_own r.address a) r _ _ deaf refl deaf
still_mute r msg.Unt h deaf = deaf
still_mute r (msg.Lad a) h deaf = cc
still_mute r msg.Unl h deaf = refl
still_mute r _ h deaf = deaf

abbrev pub NoneListens : List Frame → Type 0
NoneListens [] = Unit {0}
NoneListens (f ∷ fs) = (makes_listener (message_of f) ≡ false) × NoneListens fs

roles_behind-deaf : (fs : List Frame) (r : Roles) → NoneListens fs → r.listens ≡ false → (roles_behind fs r).listens ≡ false
roles_behind-deaf [] r none deaf = deaf
roles_behind-deaf (f ∷ fs) r none deaf = roles_behind-deaf fs (roles_after r (message_of f)) none.1 (still_mute r (message_of f) none.0 deaf)

abbrev pub NonePuts : List Frame → Type 0
NonePuts [] = Unit {0}
NonePuts (f ∷ fs) = (may_put (message_of f) ≡ false) × NonePuts fs

-- a byte that is heard in another mode than Write
abbrev HeardNow : Step DriveState → DriveState → Type 0
HeardNow step u = (t : DriveState) × (step ≡ Now t) × (t.interface.roles ≡ u.interface.roles) × (t.interface.own ≡ u.interface.own) × (table.is_write t.mode ≡ false)

sought_now : (b : Bool) (k : ℕ) (u : DriveState) → HeardNow (Now (if b then table.at_rest (record u { position = k }) else table.faulty fault.NoRecord u)) u
sought_now true k u = (_, refl, refl, refl, refl)
sought_now false k u = (_, refl, refl, refl, refl)

heard_now : (m : Mode) (byte n : ℕ) (u : DriveState) → u.mode ≡ m → table.is_write m ≡ false → HeardNow (table.heard_in m byte n u) u
heard_now mode.FillBuffer0 byte n u is h = (_, refl, refl, refl, ap table.is_write is)
heard_now mode.FillBuffer1 byte n u is h = (_, refl, refl, refl, ap table.is_write is)
heard_now mode.SetPointer byte n u is h = (_, refl, refl, refl, refl)
heard_now mode.SeekHigh byte n u is h = (_, refl, refl, refl, refl)
heard_now (mode.SeekLow high) byte n u is h = sought_now (nat_lt (256 * high + byte) n) (256 * high + byte) u
heard_now mode.Write byte n u is h = cc
heard_now _ byte n u is h = (u, refl, refl, refl, ap table.is_write is ∙ h)

pub puts-taken : (j : ℕ) (fs : List Frame) → NonePuts fs → NonePuts (take j fs)
puts-taken zero fs none = tt
puts-taken (suc j) [] none = tt
puts-taken (suc j) (f ∷ fs) none = (none.0, puts-taken j fs none.1)

data_listens : (k : Class) (b : ℕ) → is_data_class k ≡ true → makes_listener (message_at k b) ≡ false
data_listens class.Dab b h = refl
data_listens class.Dsr b h = refl
data_listens class.End b h = refl
data_listens class.Esr b h = refl
data_listens _ b h = cc

pub listens-data : (fs : List Frame) → AllData fs → NoneListens fs
listens-data [] all = tt
listens-data (f ∷ fs) all = (data_listens (class_of f) (byte_of f) all.0, listens-data fs all.1)

-- the commands of a seek, of a write, and of a read after its UNL
pub puts-seek : (p : ℕ) → p ≤ 30 → NonePuts (unl ∷ rfc ∷ lad p ∷ rfc ∷ seek_message ∷ rfc ∷ [])
puts-seek p le = (refl, (refl, (ap may_put (message_of-lad p le), (refl, (refl, (refl, tt))))))

pub puts-write : (p : ℕ) → p ≤ 30 → NonePuts (unl ∷ rfc ∷ lad p ∷ rfc ∷ write_message ∷ rfc ∷ [])
puts-write p le = (refl, (refl, (ap may_put (message_of-lad p le), (refl, (refl, (refl, tt))))))

module _ {M : Type 0} (view : M → MediumView) where
  -- the roles after a frame are those of every device
  pub roles-did : (n : ℕ) (s t : DriveState) (f : Frame) (out : Out) (m m₂ : M) → Did view (table.drive_step n s f) (t, out) m m₂ → t.interface.roles ≡ roles_after s.interface.roles (message_of f)
  roles-did n s t f out m m₂ did =
      let behind : Fact (turn_on s.interface f) n s f false (t, out) ⊎ (Fact (turn_on s.interface f) n s f true (t, out) × Rose (view m).faults (view m₂).faults) =
      every_did view (Fact (turn_on s.interface f) n s f) (table.drive_step n s f) (t, out) m m₂ (facts n s f) did in
      ⊎_elim (λ fact. ap (λ (i : InterfaceState). i.roles) fact.behind) (λ fact. ap (λ (i : InterfaceState). i.roles) fact.0.behind) behind

  -- and the accessory ID stays
  accessory-did : (n : ℕ) (s t : DriveState) (f : Frame) (out : Out) (m m₂ : M) → Did view (table.drive_step n s f) (t, out) m m₂ → t.interface.accessory ≡ s.interface.accessory
  accessory-did n s t f out m m₂ did =
      let behind : Fact (turn_on s.interface f) n s f false (t, out) ⊎ (Fact (turn_on s.interface f) n s f true (t, out) × Rose (view m).faults (view m₂).faults) =
      every_did view (Fact (turn_on s.interface f) n s f) (table.drive_step n s f) (t, out) m m₂ (facts n s f) did in
      ⊎_elim (λ fact. ap (λ (i : InterfaceState). i.accessory) fact.behind) (λ fact. ap (λ (i : InterfaceState). i.accessory) fact.0.behind) behind

  pub accessory-ran : (fs : List Frame) (outs : List Out) (v w : DriveView M) → Ran view v fs outs w → w.state.interface.accessory ≡ v.state.interface.accessory
  accessory-ran [] [] v w ran = ap (λ (v : DriveView M). v.state.interface.accessory) ran
  accessory-ran [] (out ∷ outs) v w ran = absurd ran
  accessory-ran (f ∷ fs) [] v w ran = absurd ran
  accessory-ran (f ∷ fs) (out ∷ outs) v w ran =
      accessory-ran fs outs ran.0 w ran.2 ∙ accessory-did (view v.medium).record_count v.state ran.0.state f out v.medium ran.0.medium ran.1

  pub roles-ran : (fs : List Frame) (outs : List Out) (v w : DriveView M) → Ran view v fs outs w → w.state.interface.roles ≡ roles_behind fs v.state.interface.roles
  roles-ran [] [] v w ran = ap (λ (v : DriveView M). v.state.interface.roles) ran
  roles-ran [] (out ∷ outs) v w ran = absurd ran
  roles-ran (f ∷ fs) [] v w ran = absurd ran
  roles-ran (f ∷ fs) (out ∷ outs) v w ran =
      roles-ran fs outs ran.0 w ran.2 ∙ ap (roles_behind fs) (roles-did (view v.medium).record_count v.state ran.0.state f out v.medium ran.0.medium ran.1)

  -- a drive that does not listen, and is told by none of these frames to listen, does not listen then
  pub deaf-ran : (fs : List Frame) (outs : List Out) (v w : DriveView M) → v.state.interface.roles.listens ≡ false → NoneListens fs → Ran view v fs outs w → w.state.interface.roles.listens ≡ false
  deaf-ran fs outs v w deaf none ran = ap (λ (r : Roles). r.listens) (roles-ran fs outs v w ran) ∙ roles_behind-deaf fs v.state.interface.roles none deaf

  -- a frame that puts no record leaves every record
  still-did : (n : ℕ) (s t : DriveState) (f : Frame) (out : Out) (m m₂ : M) → (may_put (message_of f) && s.interface.roles.listens) ≡ false → Did view (table.drive_step n s f) (t, out) m m₂ → IsStill (view m) (view m₂)
  still-did n s t f out m m₂ h did = still_unwritten view (table.drive_step n s f) (t, out) m m₂ (record_written n s f ∙ puts_none n s f h) did

  -- Commands and ready messages but DDL 8 write no record, and start messages may read some.
  pub leaves_records : (fs : List Frame) (outs : List Out) (v w : DriveView M) → NonePuts fs → Ran view v fs outs w → IsStill (view v.medium) (view w.medium)
  leaves_records [] [] v w none ran = subst (λ (w : DriveView M). IsStill (view v.medium) (view w.medium)) (sym ran) (nothing_read (view v.medium)).still
  leaves_records [] (out ∷ outs) v w none ran = absurd ran
  leaves_records (f ∷ fs) [] v w none ran = absurd ran
  leaves_records (f ∷ fs) (out ∷ outs) v w none ran =
      still_longer _ _ _ (still-did (view v.medium).record_count v.state ran.0.state f out v.medium ran.0.medium (ap (λ b. b && v.state.interface.roles.listens) none.0) ran.1) (leaves_records fs outs ran.0 w none.1 ran.2)

  -- While the drive does not listen no frame writes a record.
  pub reads_only : (fs : List Frame) (outs : List Out) (v w : DriveView M) → v.state.interface.roles.listens ≡ false → NoneListens fs → Ran view v fs outs w → IsStill (view v.medium) (view w.medium)
  reads_only [] [] v w deaf none ran = subst (λ (w : DriveView M). IsStill (view v.medium) (view w.medium)) (sym ran) (nothing_read (view v.medium)).still
  reads_only [] (out ∷ outs) v w deaf none ran = absurd ran
  reads_only (f ∷ fs) [] v w deaf none ran = absurd ran
  reads_only (f ∷ fs) (out ∷ outs) v w deaf none ran =
      let roles = roles-did (view v.medium).record_count v.state ran.0.state f out v.medium ran.0.medium ran.1 in
      still_longer _ _ _ (still-did (view v.medium).record_count v.state ran.0.state f out v.medium ran.0.medium (ap (λ b. may_put (message_of f) && b) deaf ∙ never (may_put (message_of f))) ran.1)
      (reads_only fs outs ran.0 w (ap (λ (r : Roles). r.listens) roles ∙ still_mute v.state.interface.roles (message_of f) none.0 deaf) none.1 ran.2)
    where
      never : (b : Bool) → (b && false) ≡ false
      never true = refl
      never false = refl

  -- so does no frame of a receive, from its first on
  pub receive_leaves : (fs : List Frame) (outs : List Out) (v w : DriveView M) → NoneListens fs → Ran view v (unl ∷ fs) outs w → IsStill (view v.medium) (view w.medium)
  receive_leaves fs [] v w none ran = absurd ran
  receive_leaves fs (out ∷ outs) v w none ran =
      let roles = roles-did (view v.medium).record_count v.state ran.0.state unl out v.medium ran.0.medium ran.1 in
      still_longer _ _ _ (still-did (view v.medium).record_count v.state ran.0.state unl out v.medium ran.0.medium refl ran.1)
      (reads_only fs outs ran.0 w (ap (λ (r : Roles). r.listens) roles) none ran.2)

  -- ---- bytes that are heard, but not written

  -- in another mode than Write any bytes leave the medium
  pub hears_only : (m : Mode) (fs : List Frame) (outs : List Out) (v w : DriveView M) → IsListening m v.state → table.is_write m ≡ false → AllData fs → Ran view v fs outs w → w.medium ≡ v.medium
  hears_only m [] [] v w listening unless all ran = ap (λ (v : DriveView M). v.medium) ran
  hears_only m [] (out ∷ outs) v w listening unless all ran = absurd ran
  hears_only m (f ∷ fs) [] v w listening unless all ran = absurd ran
  hears_only m (f ∷ fs) (out ∷ outs) v w listening unless all ran =
      let s = v.state in
      let u = ran.0 in
      let step = heard_now m (byte_of f) (view v.medium).record_count (table.behind_effect f s) listening.mode unless in
      let did : Did view (Now (table.passes s.interface.roles f step.0)) (u.state, out) v.medium u.medium =
      subst (λ step. Did view step (u.state, out) v.medium u.medium) (step_hears m (view v.medium).record_count s f listening all.0 ∙ ap (then_by (table.passes s.interface.roles f)) step.1) ran.1 in
      let is : u.state ≡ step.0 = ap (λ x. x.0) did.0 in
      hears_only u.state.mode fs outs u w
      (record {
        listens = ap (λ (s : DriveState). s.interface.roles.listens) is ∙ ap (λ (r : Roles). r.listens) (step.2 ∙ roles_after-data s.interface.roles f all.0) ∙ listening.listens;
        silent = ap (λ (s : DriveState). s.interface.own) is ∙ step.3 ∙ own_after-data s.interface.roles s.interface.own f all.0 ∙ listening.silent;
        mode = refl;
      })
      (ap (λ (s : DriveState). table.is_write s.mode) is ∙ step.4) all.1 ran.2 ∙ did.1

  -- a seek leaves the medium, whichever bytes come, and how many
  pub seek_leaves : (p : ℕ) (fs : List Frame) (outs : List Out) (v w : DriveView M) → p ≤ 30 → v.state.interface.roles.address ≡ Some p → AllData fs
      → Ran view v (unl ∷ rfc ∷ lad p ∷ rfc ∷ seek_message ∷ rfc ∷ fs) outs w → w.medium ≡ v.medium
  seek_leaves p fs outs v w le at all ran =
      let part = parts view (unl ∷ rfc ∷ lad p ∷ rfc ∷ seek_message ∷ rfc ∷ []) fs outs v w ran in
      let went = goes_listening view p (msg.Ddl 4 ∷ msg.Rfc ∷ []) (seek_message ∷ rfc ∷ []) part.first v part.middle le at (refl, (refl, tt)) refl part.before in
      hears_only mode.SeekHigh fs part.more part.middle w
      (record { listens = ap (λ (σ : Stance). σ.roles.listens) went.0; silent = ap (λ (σ : Stance). σ.own) went.0; mode = ap (λ (σ : Stance). σ.mode) went.0 }) refl all part.behind
      ∙ went.1
