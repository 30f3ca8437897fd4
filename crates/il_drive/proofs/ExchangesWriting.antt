-- The send that writes records, as one exchange: each 256 bytes are put by one write of the medium at the position. Where
-- one fails, no more is written.
use Rattle.std.proofs.Common.{◌≡◌, ◌<◌, ◌≤◌, ◌+◌, ◌*◌, ◌++◌, ◌⊎◌, inl, inr, ℕ, zero, suc, List, [], ◌∷◌, length, get_or, set, take, drop, map, false, refl, sym, ap, subst, ◌∙◌, arith, ⊎_elim, append_assoc}
use Rattle.std.specs.Prelude.{Some, None, if◌then◌else◌}
use Rattle.std.proofs.lemmas.Bool.{eq-eqb}
use Rattle.std.proofs.lemmas.List.{get_or-map, take-map, drop-map, take-append-drop, length-take-le, length-drop, length-map, take_all}
use Rattle.il_ports.specs.Media.{MediumView, IsMedium}
use Rattle.lif_model.specs.Tape.{Tape}
use Rattle.lif_model.specs.Stops.{Torn}
use Rattle.lif_model.specs.Causes.{Rose}
use Rattle.lif_model.specs.Transfers.{Replaced, PartlyReplaced, cut_up}
use Rattle.lif_model.proofs.Runs.{replaced_none, replaced_more, torn_next, partly_replaced, replaced_all, elapses_then}
use Rattle.il_frames.specs.declared.frame.Frame.{Frame}
use Rattle.il_frames.specs.declared.message.Message.TheVariants as msg
use Rattle.il_frames.specs.Frames.{byte_of}
use Rattle.il_device.specs.declared.device.Out.{Out}
use Rattle.il_device.specs.declared.roles.Roles.{Roles}
use Rattle.il_device.specs.Interfaces.{interface_after}
use Rattle.il_drive.specs.declared.mode.Mode.TheVariants as mode
use Rattle.il_drive.specs.State.{DriveState, DriveView, status_of}
use Rattle.il_drive.specs.Steps.{HasWritten}
use Rattle.il_drive.specs.Runs.{Ran, AllData, through, bytes_of, buffered}
use Rattle.il_drive.proofs.Beginning.{write_message}
use Rattle.il_drive.proofs.Runs.{buffers}
use Rattle.il_drive.proofs.Records.{AreRecords, frames_of, well, badly, Wrote, all_frames, writes_records, unheeded}
use Rattle.il_drive.specs.Resting.{IsFree, HasKept}
use Rattle.il_drive.proofs.Exchanges.{Stance, stance_of, parts}
use Rattle.il_drive.proofs.ExchangesAddressed.{unl, rfc, lad, listener, turned, goes_listening, stance_of-data}

-- ---- frames cut into records

abbrev pub frames_cut : ℕ → List Frame → List (List Frame)
frames_cut zero fs = []
frames_cut (suc k) fs = take 256 fs ∷ frames_cut k (drop 256 fs)

abbrev pub left_over : ℕ → List Frame → List Frame
left_over zero fs = fs
left_over (suc k) fs = left_over k (drop 256 fs)

pub cut_joins : (k : ℕ) (fs : List Frame) → frames_of (frames_cut k fs) ++ left_over k fs ≡ fs
cut_joins zero fs = refl
cut_joins (suc k) fs = append_assoc (take 256 fs) (frames_of (frames_cut k (drop 256 fs))) (left_over k (drop 256 fs)) ∙ ap (λ gs. take 256 fs ++ gs) (cut_joins k (drop 256 fs)) ∙ take-append-drop 256 fs

data_taken : (j : ℕ) (fs : List Frame) → AllData fs → AllData (take j fs)
data_taken zero fs all = tt
data_taken (suc j) [] all = tt
data_taken (suc j) (f ∷ fs) all = (all.0, data_taken j fs all.1)

data_dropped : (j : ℕ) (fs : List Frame) → AllData fs → AllData (drop j fs)
data_dropped zero fs all = all
data_dropped (suc j) [] all = tt
data_dropped (suc j) (f ∷ fs) all = data_dropped j fs all.1

pub cut_records : (k : ℕ) (fs : List Frame) → AllData fs → 256 * k ≤ length fs → AreRecords (frames_cut k fs)
cut_records zero fs all le = tt
cut_records (suc k) fs all le =
    ((data_taken 256 fs all, length-take-le 256 fs (omega (arith, le))), cut_records k (drop 256 fs) (data_dropped 256 fs all) (omega (arith, le, length-drop 256 fs)))

pub cut_left : (k : ℕ) (fs : List Frame) → AllData fs → 256 * k ≤ length fs → AllData (left_over k fs) × (256 * k + length (left_over k fs) ≡ length fs)
cut_left zero fs all le = (all, omega arith)
cut_left (suc k) fs all le =
    let more = cut_left k (drop 256 fs) (data_dropped 256 fs all) (omega (arith, le, length-drop 256 fs)) in
    (more.0, omega (arith, le, more.1, length-drop 256 fs))

pub cut_bytes : (k : ℕ) (fs : List Frame) → map bytes_of (frames_cut k fs) ≡ cut_up k (bytes_of fs)
cut_bytes zero fs = refl
cut_bytes (suc k) fs = λ i. sym (take-map byte_of 256 fs) i ∷ (cut_bytes k (drop 256 fs) ∙ ap (cut_up k) (sym (drop-map byte_of 256 fs))) i

length_cut : (k : ℕ) (fs : List Frame) → length (frames_cut k fs) ≡ k
length_cut zero fs = refl
length_cut (suc k) fs = ap suc (length_cut k (drop 256 fs))

-- ---- stances

stance-through : (fs : List Frame) (s : DriveState) → AllData fs → stance_of (record s { interface = through fs s.interface }) ≡ stance_of s
stance-through [] s all = refl
stance-through (f ∷ fs) s all = stance-through fs (record s { interface = interface_after s.interface f }) all.1 ∙ stance_of-data s f all.0

-- a record that was put
abbrev after_put : List ℕ → Stance → Stance
after_put bytes σ = record σ { buffer_0 = bytes; pointer = 0; filled = false; position = σ.position + 1 }

stance-well : (fs : List Frame) (s : DriveState) → AllData fs → stance_of (well fs s) ≡ after_put (bytes_of fs) (stance_of s)
stance-well fs s all = ap (after_put (bytes_of fs)) (stance-through fs s all)

-- one that was not
abbrev after_fault : List ℕ → Stance → Stance
after_fault bytes σ = record σ { buffer_0 = bytes; pointer = 0; filled = false; status = 2; mode = mode.Rest }

stance-badly : (fs : List Frame) (s : DriveState) → AllData fs → stance_of (badly fs s) ≡ after_fault (bytes_of fs) (stance_of s)
stance-badly fs s all = ap (after_fault (bytes_of fs)) (stance-through fs s all)

-- ---- the medium

kept_nothing : (first : ℕ) (pieces : List (List ℕ)) (v : MediumView) → HasKept first pieces v v
kept_nothing first pieces v = record {
  stays_in = record { told = refl; inside = refl; size = refl };
  shelf_told = refl;
  others = λ name s at told. (s, told, λ other ne. refl);
  time = record { later = omega arith; nothing_else = λ t told m c le left. inl left; keeps = λ m c le left. left };
}

-- so many pieces stand
abbrev pub Stand : ℕ → List (List ℕ) → ℕ → MediumView → MediumView → Type 0
Stand first pieces j v w = (t : Tape) → v.tape ≡ Some t → (u : Tape) × (w.tape ≡ Some u) × Replaced first (take j pieces) t u

-- so many pieces stand, and the record of the next holds any bytes
abbrev pub StandTorn : ℕ → List (List ℕ) → ℕ → MediumView → MediumView → Type 0
StandTorn first pieces j v w = (t : Tape) → v.tape ≡ Some t → (x : Tape) × Replaced first (take j pieces) t x × (u : Tape) × (w.tape ≡ Some u) × Torn (first + j) x u

kept_more : (first j : ℕ) (pieces : List (List ℕ)) (v w x : MediumView) → HasKept first pieces v w → Stand first pieces j v w → j < length pieces → HasWritten (first + j) w x → HasKept first pieces v x
kept_more first j pieces v w x kept stand more has = record {
  stays_in = record {
    told = has.stays_in.told ∙ kept.stays_in.told;
    inside = has.stays_in.inside ∙ kept.stays_in.inside;
    size = has.stays_in.size ∙ kept.stays_in.size;
  };
  shelf_told = has.shelf_told ∙ kept.shelf_told;
  others = λ name s at told.
      let one = kept.others name s at told in
      let two = has.others name one.0 (kept.stays_in.inside ∙ at) one.1 in
      (two.0, two.1, λ other ne. two.2 other ne ∙ one.2 other ne);
  time = elapses_then _ _ _ _ _ _ v.tape w.tape (PartlyReplaced first pieces) (Torn (first + j)) kept.time has.time
      (λ t told. let u = stand t told in (u.0, u.1, λ c torn. torn_next first j pieces t u.0 more u.2 c torn));
}

-- ---- record by record

-- the drive between two records of the send, with that position
pub record AwaitsRecord (r : Roles) (place : ℕ) (s : DriveState) : Type 0 where
  pub roles : s.interface.roles ≡ r
  pub silent : s.interface.own ≡ None
  pub status : status_of s ≡ 0
  pub mode : s.mode ≡ mode.Write
  pub pointer : s.pointer ≡ 0
  pub position : s.position ≡ place
  pub buffer_0 : length s.buffer_0 ≡ 256

-- and where a record could not be written
pub record HasFailed (r : Roles) (place : ℕ) (s : DriveState) : Type 0 where
  pub roles : s.interface.roles ≡ r
  pub silent : s.interface.own ≡ None
  pub status : status_of s ≡ 2
  pub mode : s.mode ≡ mode.Rest
  pub position : s.position ≡ place

awaits_next : (r : Roles) (place : ℕ) (bytes : List ℕ) (s t : DriveState) → AwaitsRecord r place s → stance_of t ≡ after_put bytes (stance_of s) → length bytes ≡ 256 → AwaitsRecord r (place + 1) t
awaits_next r place bytes s t awaits is long = record {
  roles = ap (λ (σ : Stance). σ.roles) is ∙ awaits.roles;
  silent = ap (λ (σ : Stance). σ.own) is ∙ awaits.silent;
  status = ap (λ (σ : Stance). σ.status) is ∙ awaits.status;
  mode = ap (λ (σ : Stance). σ.mode) is ∙ awaits.mode;
  pointer = ap (λ (σ : Stance). σ.pointer) is;
  position = ap (λ (σ : Stance). σ.position) is ∙ ap (λ n. n + 1) awaits.position;
  buffer_0 = ap (λ (σ : Stance). length σ.buffer_0) is ∙ long;
}

fails_here : (r : Roles) (place : ℕ) (bytes : List ℕ) (s t : DriveState) → AwaitsRecord r place s → stance_of t ≡ after_fault bytes (stance_of s) → HasFailed r place t
fails_here r place bytes s t awaits is = record {
  roles = ap (λ (σ : Stance). σ.roles) is ∙ awaits.roles;
  silent = ap (λ (σ : Stance). σ.own) is ∙ awaits.silent;
  status = ap (λ (σ : Stance). σ.status) is;
  mode = ap (λ (σ : Stance). σ.mode) is;
  position = ap (λ (σ : Stance). σ.position) is ∙ awaits.position;
}

-- the pieces from piece j on are the bytes of these records
abbrev AreBytes : List (List Frame) → ℕ → List (List ℕ) → Type 0
AreBytes [] j pieces = length pieces ≡ j
AreBytes (fs ∷ more) j pieces = (j < length pieces) × (get_or pieces j [] ≡ bytes_of fs) × AreBytes more (j + 1) pieces

module _ {M : Type 0} (view : M → MediumView) (r : Roles) (first : ℕ) (pieces : List (List ℕ)) (m : M) (medium : IsMedium (view m)) (fits : first + length pieces ≤ (view m).record_count) where
  -- so many pieces have been put since the medium was m
  pub record HasPut (j : ℕ) (w : DriveView M) : Type 0 where
    pub awaits : AwaitsRecord r (first + j) w.state
    pub kept : HasKept first pieces (view m) (view w.medium)
    pub count : (view w.medium).faults ≡ (view m).faults
    pub stand : Stand first pieces j (view m) (view w.medium)

  -- so many have, and the medium could not write the next
  pub record HasTorn (w : DriveView M) : Type 0 where
    pub done : ℕ
    pub before : done < length pieces
    pub failed : HasFailed r (first + done) w.state
    pub kept : HasKept first pieces (view m) (view w.medium)
    pub rose : Rose (view m).faults (view w.medium).faults
    pub stand : StandTorn first pieces done (view m) (view w.medium)

  put_next : (j : ℕ) (bytes : List ℕ) (v u : DriveView M) → HasPut j v → j < length pieces → get_or pieces j [] ≡ bytes → length bytes ≡ 256 → stance_of u.state ≡ after_put bytes (stance_of v.state)
      → HasWritten (first + j) (view v.medium) (view u.medium) → ((t : Tape) → (view v.medium).tape ≡ Some t → (view u.medium).tape ≡ Some (set t (first + j) bytes))
      → (view u.medium).faults ≡ (view v.medium).faults → HasPut (j + 1) u
  put_next j bytes v u put more piece long is has tape count = record {
    awaits = subst (λ n. AwaitsRecord r n u.state) (omega arith) (awaits_next r (first + j) bytes v.state u.state put.awaits is long);
    kept = kept_more first j pieces (view m) (view v.medium) (view u.medium) put.kept put.stand more has;
    count = count ∙ put.count;
    stand = λ t told.
        let x = put.stand t told in
        (set x.0 (first + j) bytes, tape x.0 x.1, subst (λ bytes. Replaced first (take (j + 1) pieces) t (set x.0 (first + j) bytes)) piece (replaced_more first j pieces t x.0 more x.2 (omega (arith, fits, (medium.is_tape t told).records))));
  }

  torn_here : (j : ℕ) (bytes : List ℕ) (v u w : DriveView M) → HasPut j v → j < length pieces → stance_of u.state ≡ after_fault bytes (stance_of v.state)
      → HasWritten (first + j) (view v.medium) (view u.medium) → ((t : Tape) → (view v.medium).tape ≡ Some t → (x : Tape) × ((view u.medium).tape ≡ Some x) × Torn (first + j) t x)
      → Rose (view v.medium).faults (view u.medium).faults → stance_of w.state ≡ stance_of u.state → w.medium ≡ u.medium → HasTorn w
  torn_here j bytes v u w put more is has tape rose same still = record {
    done = j;
    before = more;
    failed = fails_here r (first + j) bytes v.state w.state put.awaits (same ∙ is);
    kept = subst (λ n. HasKept first pieces (view m) (view n)) (sym still) (kept_more first j pieces (view m) (view v.medium) (view u.medium) put.kept put.stand more has);
    rose = subst (λ n. Rose (view m).faults (view n).faults) (sym still) (subst (λ k. Rose k (view u.medium).faults) put.count rose);
    stand = λ t told.
        let x = put.stand t told in
        let y = tape x.0 x.1 in
        (x.0, x.2, y.0, ap (λ n. (view n).tape) still ∙ y.1, y.2);
  }

  puts_on : (records : List (List Frame)) (j : ℕ) (v w : DriveView M) → AreRecords records → AreBytes records j pieces → HasPut j v → Wrote view records v w → HasPut (length pieces) w ⊎ HasTorn w
  puts_on [] j v w are bytes put wrote = inl (subst (HasPut (length pieces)) (sym wrote) (subst (λ j. HasPut j v) (sym bytes) put))
  puts_on (fs ∷ more) j v w are bytes put wrote =
      let u = wrote.0 in
      let s = v.state in
      let has : HasWritten (first + j) (view v.medium) (view u.medium) = subst (λ k. HasWritten k (view v.medium) (view u.medium)) put.awaits.position wrote.1.0 in
      let good : u.state ≡ well fs s → stance_of u.state ≡ after_put (bytes_of fs) (stance_of s) = λ is. ap stance_of is ∙ stance-well fs s are.0.0 in
      let bad : u.state ≡ badly fs s → stance_of u.state ≡ after_fault (bytes_of fs) (stance_of s) = λ is. ap stance_of is ∙ stance-badly fs s are.0.0 in
      let never : u.state ≡ well fs s → u.state ≡ badly fs s → ⊥ = λ one other. absurd (omega (arith, ap (λ (σ : Stance). σ.status) (good one), ap (λ (σ : Stance). σ.status) (bad other), put.awaits.status)) in
      ⊎_elim
      (λ took.
      ⊎_elim
      (λ next.
      puts_on more (j + 1) u w are.1 bytes.2
      (put_next j (bytes_of fs) v u put bytes.0 bytes.1 (length-map fs byte_of ∙ are.0.1) (good took.0) has (λ t told. took.1 t told ∙ ap (λ k. Some (set t k (bytes_of fs))) put.awaits.position) took.2) next.1)
      (λ over. absurd (never took.0 over.0))
      wrote.2)
      (λ torn.
      ⊎_elim
      (λ next. absurd (never next.0 torn.0))
      (λ over.
      inr (torn_here j (bytes_of fs) v u w put bytes.0 (bad torn.0) has
      (λ t told. let x = torn.1 t told in (x.0, x.1, subst (λ k. Torn k t x.0) put.awaits.position x.2)) torn.2
      (ap stance_of over.1.0 ∙ stance-through (frames_of more) u.state (all_frames more are.1)) over.1.1))
      wrote.2)
      wrote.1.1

  -- frames after the last record do nothing where one could not be written
  stays_torn : (p : ℕ) (rest : List Frame) (outs : List Out) (v w : DriveView M) → r ≡ listener p → AllData rest → HasTorn v → Ran view v rest outs w → HasTorn w
  stays_torn p rest outs v w listens all torn ran =
      let failed = torn.failed in
      let over = unheeded view rest outs v w (record { listens = ap (λ (r : Roles). r.listens) (failed.roles ∙ listens); silent = failed.silent; mode = failed.mode }) all ran in
      let same : stance_of w.state ≡ stance_of v.state = ap stance_of over.0 ∙ stance-through rest v.state all in
      record {
        done = torn.done;
        before = torn.before;
        failed = record {
          roles = ap (λ (σ : Stance). σ.roles) same ∙ failed.roles;
          silent = ap (λ (σ : Stance). σ.own) same ∙ failed.silent;
          status = ap (λ (σ : Stance). σ.status) same ∙ failed.status;
          mode = ap (λ (σ : Stance). σ.mode) same ∙ failed.mode;
          position = ap (λ (σ : Stance). σ.position) same ∙ failed.position;
        };
        kept = subst (λ n. HasKept first pieces (view m) (view n)) (sym over.1) torn.kept;
        rose = subst (λ n. Rose (view m).faults (view n).faults) (sym over.1) torn.rose;
        stand = λ t told. let x = torn.stand t told in (x.0, x.1, x.2, ap (λ n. (view n).tape) over.1 ∙ x.3, x.4);
      }

-- ---- the whole send

are_bytes : (records : List (List Frame)) (j : ℕ) (pieces : List (List ℕ)) → length pieces ≡ j + length records → ((i : ℕ) → i < length records → get_or pieces (j + i) [] ≡ bytes_of (get_or records i []))
    → AreBytes records j pieces
are_bytes [] j pieces long are = omega (arith, long)
are_bytes (fs ∷ more) j pieces long are =
    let here : j + 0 ≡ j = omega arith in (
      omega (arith, long),
      sym (ap (λ i. get_or pieces i []) here) ∙ are 0 (omega arith),
      are_bytes more (j + 1) pieces (omega (arith, long)) (λ i lt.
          let next : j + 1 + i ≡ j + suc i = omega arith in
          ap (λ i. get_or pieces i []) next ∙ are (suc i) (omega (arith, lt))),
    )

cut_are_bytes : (k : ℕ) (fs : List Frame) → AreBytes (frames_cut k fs) 0 (cut_up k (bytes_of fs))
cut_are_bytes k fs =
    subst (AreBytes (frames_cut k fs) 0) (cut_bytes k fs)
    (are_bytes (frames_cut k fs) 0 (map bytes_of (frames_cut k fs)) (length-map (frames_cut k fs) bytes_of ∙ omega arith)
    (λ i lt.
    let same : 0 + i ≡ i = omega arith in
    ap (λ i. get_or (map bytes_of (frames_cut k fs)) i []) same ∙ get_or-map bytes_of (frames_cut k fs) i [] [] lt))

-- bytes that do not fill the buffer
abbrev outline : Stance → Stance
outline σ = record σ { buffer_0 = []; pointer = 0; filled = false }

outline-buffered : (fs : List Frame) (s : DriveState) → AllData fs → outline (stance_of (buffered fs s)) ≡ outline (stance_of s)
outline-buffered [] s all = refl
outline-buffered (f ∷ fs) s all = outline-buffered fs _ all.1 ∙ ap outline (stance_of-data s f all.0)

module _ {M : Type 0} (view : M → MediumView) where
  -- all pieces stand, and no call of the medium failed
  pub record WroteAll (p first : ℕ) (pieces : List (List ℕ)) (m : M) (w : DriveView M) : Type 0 where
    pub free : IsFree p w.state
    pub position : w.state.position ≡ first + length pieces
    pub count : (view w.medium).faults ≡ (view m).faults
    pub tape : (t : Tape) → (view m).tape ≡ Some t → (u : Tape) × ((view w.medium).tape ≡ Some u) × Replaced first pieces t u

  -- the first ones stand, and the medium could not write the next, which may hold any bytes; the status tells it
  pub record WrotePart (p first : ℕ) (pieces : List (List ℕ)) (m : M) (w : DriveView M) : Type 0 where
    pub address : w.state.interface.roles.address ≡ Some p
    pub mute : w.state.interface.roles.talks ≡ false
    pub silent : w.state.interface.own ≡ None
    pub mode : w.state.mode ≡ mode.Rest
    pub status : status_of w.state ≡ 2
    pub done : ℕ
    pub before : done < length pieces
    pub position : w.state.position ≡ first + done
    pub rose : Rose (view m).faults (view w.medium).faults
    pub stand : StandTorn first pieces done (view m) (view w.medium)

  pub record HasSentOut (p first : ℕ) (pieces : List (List ℕ)) (v w : DriveView M) : Type 0 where
    pub kept : HasKept first pieces (view v.medium) (view w.medium)
    pub end : WroteAll p first pieces v.medium w ⊎ WrotePart p first pieces v.medium w

  torn_is : (p first : ℕ) (pieces : List (List ℕ)) (m : M) (medium : IsMedium (view m)) (fits : first + length pieces ≤ (view m).record_count) (w : DriveView M)
      → HasTorn view (listener p) first pieces m medium fits w → WrotePart p first pieces m w
  torn_is p first pieces m medium fits w torn = record {
    address = ap (λ (r : Roles). r.address) torn.failed.roles;
    mute = ap (λ (r : Roles). r.talks) torn.failed.roles;
    silent = torn.failed.silent;
    mode = torn.failed.mode;
    status = torn.failed.status;
    done = torn.done;
    before = torn.before;
    position = torn.failed.position;
    rose = torn.rose;
    stand = torn.stand;
  }

  -- DDL 2 with status 0
  pub begins_writing : (p : ℕ) (outs : List Out) (v w : DriveView M) → p ≤ 30 → IsFree p v.state → Ran view v (unl ∷ rfc ∷ lad p ∷ rfc ∷ write_message ∷ rfc ∷ []) outs w
      → (stance_of w.state ≡ record (turned (listener p) (stance_of v.state)) { mode = mode.Write; pointer = 0; filled = false }) × (w.medium ≡ v.medium)
  begins_writing p outs v w le free ran =
      let σ = turned (listener p) (stance_of v.state) in
      let went = goes_listening view p (msg.Ddl 2 ∷ msg.Rfc ∷ []) (write_message ∷ rfc ∷ []) outs v w le free.address (refl, (refl, tt)) refl ran in
      (went.0 ∙ ap (λ b. if b then record σ { mode = mode.Write; pointer = 0; filled = false } else record σ { mode = mode.Rest }) (eq-eqb (status_of v.state) 0 free.status), went.1)

  -- after the last record come bytes that do not fill the buffer
  put_is : (p first : ℕ) (pieces : List (List ℕ)) (m : M) (medium : IsMedium (view m)) (fits : first + length pieces ≤ (view m).record_count) (rest : List Frame) (outs : List Out) (v w : DriveView M)
      → AllData rest → length rest ≤ 255 → HasPut view (listener p) first pieces m medium fits (length pieces) v → Ran view v rest outs w
      → HasKept first pieces (view m) (view w.medium) × WroteAll p first pieces m w
  put_is p first pieces m medium fits rest outs v w all few put ran =
      let awaits = put.awaits in
      let more = buffers view rest outs v w (record { listens = ap (λ (r : Roles). r.listens) awaits.roles; silent = awaits.silent; mode = awaits.mode }) all (omega (arith, few, awaits.pointer)) ran in
      let same : outline (stance_of w.state) ≡ outline (stance_of v.state) = ap (λ s. outline (stance_of s)) more.0 ∙ outline-buffered rest v.state all in (
        subst (λ n. HasKept first pieces (view m) (view n)) (sym more.1) put.kept,
        record {
          free = record {
            address = ap (λ (σ : Stance). σ.roles.address) same ∙ ap (λ (r : Roles). r.address) awaits.roles;
            mute = ap (λ (σ : Stance). σ.roles.talks) same ∙ ap (λ (r : Roles). r.talks) awaits.roles;
            silent = ap (λ (σ : Stance). σ.own) same ∙ awaits.silent;
            status = ap (λ (σ : Stance). σ.status) same ∙ awaits.status;
          };
          position = ap (λ (σ : Stance). σ.position) same ∙ awaits.position;
          count = ap (λ n. (view n).faults) more.1 ∙ put.count;
          tape = λ t told.
              let u = put.stand t told in
              (u.0, ap (λ n. (view n).tape) more.1 ∙ u.1, replaced_all first (length pieces) pieces t u.0 (omega arith) u.2);
        },
      )

  -- So many whole records, and fewer bytes than one more: each is put by one write as its last byte comes, the first at the
  -- position, and the bytes left over are not.
  pub writes_run : (p k : ℕ) (fs : List Frame) (outs : List Out) (v w : DriveView M) → p ≤ 30 → IsFree p v.state → length v.state.buffer_0 ≡ 256 → IsMedium (view v.medium)
      → AllData fs → 256 * k ≤ length fs → length fs ≤ 256 * k + 255 → v.state.position + k ≤ (view v.medium).record_count
      → Ran view v (unl ∷ rfc ∷ lad p ∷ rfc ∷ write_message ∷ rfc ∷ fs) outs w → HasSentOut p v.state.position (cut_up k (bytes_of fs)) v w
  writes_run p k fs outs v w le free long medium all enough few fits ran =
      let first = v.state.position in
      let pieces = cut_up k (bytes_of fs) in
      let part = parts view (unl ∷ rfc ∷ lad p ∷ rfc ∷ write_message ∷ rfc ∷ []) fs outs v w ran in
      let u = part.middle in
      let begins = begins_writing p part.first v u le free part.before in
      let records = frames_cut k fs in
      let rest = left_over k fs in
      let two = parts view (frames_of records) rest part.more u w (subst (λ fs. Ran view u fs part.more w) (sym (cut_joins k fs)) part.behind) in
      let x = two.middle in
      let so_many : length pieces ≡ k = ap length (sym (cut_bytes k fs)) ∙ length-map records bytes_of ∙ length_cut k fs in
      let there : first + length pieces ≤ (view v.medium).record_count = omega (arith, so_many, fits) in
      let position : u.state.position ≡ first = ap (λ (σ : Stance). σ.position) begins.0 in
      let silent : u.state.interface.own ≡ None = ap (λ (σ : Stance). σ.own) begins.0 in
      let in_mode : u.state.mode ≡ mode.Write = ap (λ (σ : Stance). σ.mode) begins.0 in
      let empty : u.state.pointer ≡ 0 = ap (λ (σ : Stance). σ.pointer) begins.0 in
      let room : length u.state.buffer_0 ≡ 256 = ap (λ (σ : Stance). length σ.buffer_0) begins.0 ∙ long in
      let are = cut_records k fs all enough in
      let left = cut_left k fs all enough in
      let put : HasPut view (listener p) first pieces v.medium medium there 0 u = record {
        awaits = record {
          roles = ap (λ (σ : Stance). σ.roles) begins.0;
          silent = silent;
          status = ap (λ (σ : Stance). σ.status) begins.0 ∙ free.status;
          mode = in_mode;
          pointer = empty;
          position = omega (arith, position);
          buffer_0 = room;
        };
        kept = subst (λ n. HasKept first pieces (view v.medium) (view n)) (sym begins.1) (kept_nothing first pieces (view v.medium));
        count = ap (λ n. (view n).faults) begins.1;
        stand = λ t told. (t, ap (λ n. (view n).tape) begins.1 ∙ told, replaced_none first t);
      } in
      let wrote = writes_records view records two.first u x (record { listens = ap (λ (σ : Stance). σ.roles.listens) begins.0; silent = silent; mode = in_mode }) are empty room
      (omega (arith, position, length_cut k fs, fits, ap (λ n. (view n).record_count) begins.1)) two.before in
      ⊎_elim
      (λ done. let all_put = put_is p first pieces v.medium medium there rest two.more x w left.0 (omega (arith, left.1, few)) done two.behind in record { kept = all_put.0; end = inl all_put.1 })
      (λ torn.
      let still = stays_torn view (listener p) first pieces v.medium medium there p rest two.more x w refl left.0 torn two.behind in
      record { kept = still.kept; end = inr (torn_is p first pieces v.medium medium there w still) })
      (puts_on view (listener p) first pieces v.medium medium there records 0 u x are (cut_are_bytes k fs) put wrote)

  -- in every case the first pieces stand, and at most one record more was written
  pub left_partly : (p first : ℕ) (pieces : List (List ℕ)) (v w : DriveView M) → HasSentOut p first pieces v w → (t : Tape) → (view v.medium).tape ≡ Some t → (u : Tape) × ((view w.medium).tape ≡ Some u) × PartlyReplaced first pieces t u
  left_partly p first pieces v w sent t told =
      ⊎_elim
      (λ all. let u = all.tape t told in (u.0, u.1, partly_replaced first (length pieces) pieces t u.0 (subst (λ ps. Replaced first ps t u.0) (sym (take_all (length pieces) pieces (omega arith))) u.2)))
      (λ part. let x = part.stand t told in (x.2, x.3, torn_next first part.done pieces t x.0 part.before x.1 x.2 x.4))
      sent.end
