-- The exchanges of a command of the volume: those that make the store sound, where it is not, and those after them.
use Rattle.std.proofs.Common.{◌≡◌, ◌⊎◌, ⊎_elim, ◌≤◌, ◌∙◌, ℕ, Bool, true, false, not, List, [], length, Option, refl, sym, ap, subst}
use Rattle.std.specs.Prelude.{Result, Ok, Err}
use Rattle.lif_model.specs.Causes.{Rose}
use Rattle.lif_model.specs.Apply.{VolumeCommand, Fetch, Store}
use Rattle.lif_model.specs.Volume.{Volume}
use Rattle.il_ports.specs.Media.{MediumView}
use Rattle.il_ports.specs.declared.records.Trouble.{Trouble}
use Rattle.il_ports.specs.declared.records.Trouble.TheVariants as trouble
use Rattle.loop_model.specs.Exchanges.{IsWhole}
use Rattle.loop_model.specs.Units.{RecordUnit, units_of}
use Rattle.loop_model.specs.Effect.{all_good}
use Rattle.il_ring.specs.Outcomes.{met_between}
use Rattle.il_ring.specs.Plans.{hops_of}
use Rattle.il_ring.specs.Rings.{RingView, drive_party}
use Rattle.il_control.specs.Calls.{IsFree, loop_of}
use Rattle.il_record.specs.Came.{CameBy, CameUnits, OnlyHeard}
use Rattle.il_record.specs.LoopStores.{CameBad, CameGood}
use Rattle.il_script.specs.declared.reply.Reply.{Reply}
use Rattle.il_script.specs.declared.reply.Reply.TheVariants as reply
use Rattle.il_script.specs.declared.reply.Code.{Code}
use Rattle.host_model.specs.Requests.{Asks, OfVolume}
use Rattle.host_model.specs.HostStates.{volume_at}
use Rattle.host_model.specs.RingStates.{loop_on, state_on}
use Rattle.host_model.specs.Courses.{addressed_first, begins_with, cleared_first, clears_due}
use Rattle.host_model.specs.Steps.{Exchanged, HasReplyCause, IsCarried, is_frame_fault}
use Rattle.il_host.specs.Standings.{FitsAnswer}
use Rattle.il_host.proofs.CommandTravels.{event_by, log_came}
use Rattle.il_host.proofs.CommandLogs.{exchanged_came, exchanged_none, met_none}
use Rattle.il_host.proofs.Keeping.{Keeps, begins_front, came_behind, keeps_begins}

-- ---- the store is made sound

-- The ring m after it: as it was where the store was sound; else the loop was addressed where it was not ready, and the drive cleared.
abbrev pub StartsBy : {M : Type 0} → (M → MediumView) → (was sound : Bool) → RingView M → RingView M → Type 0
StartsBy view was true r m = m ≡ r
StartsBy view was false r m = Keeps view true (addressed_first (loop_on r) was (clears_due (loop_on r))) r m

-- no device but the drive heard anything, and the medium is as it was
pub record Started {M : Type 0} (view : M → MediumView) (was sound : Bool) (r m : RingView M) : Type 0 where
  pub free : IsFree r
  pub by : StartsBy view was sound r m
  pub unheard : OnlyHeard (drive_party r) r m
  pub medium : m.drive.medium ≡ r.drive.medium
  pub place : length m.before ≡ length r.before

-- ---- after it

-- By the answer of the store, what became of the ring m: exchanges whose units all have status 0, or none; a unit has another status,
-- which the drive told; or the last exchange was broken off. The counts of the medium tell the same.
abbrev pub EndsBy : {M T : Type 0} → (M → MediumView) → Result T Trouble → RingView M → RingView M → Type 0
EndsBy view (Ok x) m s = (s ≡ m) ⊎ CameGood view m s
EndsBy view (Err trouble.Frame) m s = CameBy view false m s × ((view m.drive.medium).faults ≤ (view s.drive.medium).faults)
EndsBy view (Err trouble.Medium) m s = CameBad view m s × Rose (view m.drive.medium).faults (view s.drive.medium).faults

-- ---- all of them

-- The ring r became s by exchanges that begin with those that make the store sound, and that have these units.
pub record Joined {M : Type 0} (view : M → MediumView) (whole was sound : Bool) (units : List RecordUnit) (r s : RingView M) : Type 0 where
  pub came : CameUnits view whole units r s
  pub begins : begins_with (cleared_first (loop_on r) was sound) came.came.pieces ≡ true

module _ {M : Type 0} (view : M → MediumView) (was : Bool) (r : RingView M) where
  -- the store was sound
  joined_sound : (whole : Bool) (m s : RingView M) → m ≡ r → (came : CameBy view whole m s) → Joined view whole was true (units_of (loop_of m) came.pieces) r s
  joined_sound whole m s same came =
      subst (λ (q : RingView M). (came : CameBy view whole q s) → Joined view whole was true (units_of (loop_of q) came.pieces) r s) (sym same)
      (λ came. record { came = record { came = came; are = refl }; begins = refl }) came

  -- it was not
  joined_cleared : (whole : Bool) (m s : RingView M) → IsFree r → StartsBy view was false r m → (came : CameBy view whole m s) → Joined view whole was false (units_of (loop_of m) came.pieces) r s
  joined_cleared whole m s free first came =
      let dues = addressed_first (loop_on r) was (clears_due (loop_on r)) in
      record {
        came = came_behind view whole [] (units_of (loop_of m) came.pieces) r m s free first.came (record { came = came; are = refl });
        begins = begins_front dues first.came.came.pieces came.pieces first.keeps first.came.came.talked.ends;
      }

  -- exchanges after it
  pub joined : (whole sound : Bool) (m s : RingView M) → Started view was sound r m → (came : CameBy view whole m s) → Joined view whole was sound (units_of (loop_of m) came.pieces) r s
  joined whole true m s start came = joined_sound whole m s start.by came
  joined whole false m s start came = joined_cleared whole m s start.free start.by came

  -- none after it
  pub joined_alone : (m s : RingView M) → StartsBy view was false r m → s ≡ m → Joined view true was false [] r s
  joined_alone m s first same =
      subst (λ (s : RingView M). Joined view true was false [] r s) (sym same)
      (record { came = first.came; begins = keeps_begins (addressed_first (loop_on r) was (clears_due (loop_on r))) first.came.came.pieces first.keeps })

  -- it was broken off itself
  pub joined_broken : (s : RingView M) → Keeps view false (addressed_first (loop_on r) was (clears_due (loop_on r))) r s → Joined view false was false [] r s
  joined_broken s keeps = record { came = keeps.came; begins = keeps_begins (addressed_first (loop_on r) was (clears_due (loop_on r))) keeps.came.came.pieces keeps.keeps }

-- ---- what is carried

-- with ok, each reading of the log as whole exchanges whose units all have status 0 has the bytes of the file
abbrev pub CarriesBy : {M : Type 0} → (M → MediumView) → VolumeCommand → Reply → Bool → RingView M → RingView M → Type 0
CarriesBy view command answer was r s =
    answer ≡ reply.Ok → (a : IsWhole (loop_of r) s.books.log) → all_good (units_of (loop_of r) a.reading.pieces) ≡ true
    → IsCarried (Asks (OfVolume command)) reply.Ok (view r.drive.medium).record_count (volume_at (state_on view was false r)) (units_of (loop_of r) a.reading.pieces)

-- no reply but ok says that bytes are carried
abbrev NotOk : Reply → Type 0
NotOk reply.Ok = ⊥
NotOk other = Unit {0}

nothing_carried : (c : VolumeCommand) (answer : Reply) (n : ℕ) (v : Option Volume) (units : List RecordUnit) → NotOk answer → IsCarried (Asks (OfVolume c)) answer n v units
nothing_carried c reply.Ok n v units other = absurd other
nothing_carried (Store name kind implementation bytes) (reply.No code) n v units other = tt
nothing_carried (Store name kind implementation bytes) reply.FaultFrame n v units other = tt
nothing_carried (Store name kind implementation bytes) reply.FaultMedium n v units other = tt
nothing_carried (Fetch name) (reply.No code) n v units other = tt
nothing_carried (Fetch name) reply.FaultFrame n v units other = tt
nothing_carried (Fetch name) reply.FaultMedium n v units other = tt
nothing_carried c (reply.No code) n v units other = tt
nothing_carried c reply.FaultFrame n v units other = tt
nothing_carried c reply.FaultMedium n v units other = tt

-- ---- by the reply

module _ {M : Type 0} (view : M → MediumView) (command : VolumeCommand) (was is sound sound_now : Bool) (r s : RingView M) (empty : r.books.log ≡ []) where
  abbrev faults_at : RingView M → ℕ
  faults_at q = (view q.drive.medium).faults

  abbrev Goal : Reply → Type 0
  Goal answer = Exchanged (r.books.plan) (event_by view (Asks (OfVolume command)) answer was is sound sound_now r s)

  -- such exchanges
  by_joined : (whole : Bool) (units : List RecordUnit) (answer : Reply) → (so : Joined view whole was sound units r s) → not (is_frame_fault answer) ≡ whole
      → HasReplyCause answer (met_between r s) (faults_at r) (faults_at s) units
      → IsCarried (Asks (OfVolume command)) answer (view r.drive.medium).record_count (volume_at (state_on view was sound r)) (units_of (loop_of r) so.came.came.pieces) → Goal answer
  by_joined whole units answer so ends cause carried =
      exchanged_came view (Asks (OfVolume command)) answer was is sound sound_now whole r s empty so.came.came ends
      (record {
        course = refl;
        begins = λ of. so.begins;
        cause = subst (λ us. HasReplyCause answer (met_between r s) (faults_at r) (faults_at s) us) (sym so.came.are) cause;
        carried = carried;
      })

  -- whole ones whose units all have status 0
  whole_log : (came : CameBy view true r s) → IsWhole (loop_of r) s.books.log
  whole_log came = record { reading = record { pieces = came.pieces; legal = came.talked.legal; entries = log_came view true r s empty came }; whole = came.talked.ends }

  ok_joined : (units : List RecordUnit) → Joined view true was sound units r s → all_good units ≡ true → faults_at s ≡ faults_at r → CarriesBy view command reply.Ok was r s → Goal reply.Ok
  unfolding whole_log
  ok_joined units so good count carries =
      by_joined true units reply.Ok so refl (so.came.came.talked.met, count, good) (carries refl (whole_log so.came.came) (ap all_good so.came.are ∙ good))

  no_joined : (code : Code) (units : List RecordUnit) → Joined view true was sound units r s → all_good units ≡ true → faults_at s ≡ faults_at r → Goal (reply.No code)
  no_joined code units so good count = by_joined true units (reply.No code) so refl (so.came.came.talked.met, count, good) (nothing_carried command (reply.No code) _ _ _ tt)

  -- a unit has another status
  medium_joined : (units : List RecordUnit) → Joined view true was sound units r s → all_good units ≡ false → Rose (faults_at r) (faults_at s) → Goal reply.FaultMedium
  medium_joined units so bad rose = by_joined true units reply.FaultMedium so refl (so.came.came.talked.met, rose, bad) (nothing_carried command reply.FaultMedium _ _ _ tt)

  -- the last exchange was broken off
  pub frame_joined : (units : List RecordUnit) → Joined view false was sound units r s → faults_at r ≤ faults_at s → Goal reply.FaultFrame
  frame_joined units so later = by_joined false units reply.FaultFrame so refl (so.came.came.talked.met, later) (nothing_carried command reply.FaultFrame _ _ _ tt)

  -- no frame was sent
  same_met : s ≡ r → met_between r s ≡ []
  same_met same = ap (λ (s : RingView M). met_between r s) same ∙ met_none (hops_of r.books.plan) r.books.crossings

  none_whole : s ≡ r → IsWhole (loop_of r) s.books.log
  none_whole same = record { reading = record { pieces = []; legal = refl; entries = ap (λ (s : RingView M). s.books.log) same ∙ empty }; whole = refl }

  ok_none : s ≡ r → begins_with (cleared_first (loop_on r) was sound) [] ≡ true → CarriesBy view command reply.Ok was r s → Goal reply.Ok
  unfolding none_whole
  ok_none same begins carries = exchanged_none view (Asks (OfVolume command)) reply.Ok was is sound sound_now r s empty same refl
      (record { course = refl; begins = λ of. begins; cause = (same_met same, ap (λ (s : RingView M). faults_at s) same, refl); carried = carries refl (none_whole same) refl })

  no_none : (code : Code) → s ≡ r → begins_with (cleared_first (loop_on r) was sound) [] ≡ true → Goal (reply.No code)
  no_none code same begins = exchanged_none view (Asks (OfVolume command)) (reply.No code) was is sound sound_now r s empty same refl
      (record { course = refl; begins = λ of. begins; cause = (same_met same, ap (λ (s : RingView M). faults_at s) same, refl); carried = nothing_carried command (reply.No code) _ _ [] tt })

-- what the exchanges of a command came to, whose store answered so
pub volume_exchanged : {M T : Type 0} (view : M → MediumView) (command : VolumeCommand) (was is sound sound_now : Bool) (r m s : RingView M) (answer : Result T Trouble) (answered : Reply) → r.books.log ≡ [] → Started view was sound r m → EndsBy view answer m s → FitsAnswer answer answered
    → CarriesBy view command answered was r s → Exchanged (r.books.plan) (event_by view (Asks (OfVolume command)) answered was is sound sound_now r s)
volume_exchanged {M} {T} view command was is sound sound_now r m s answer answered empty start ends fits carries = by answer ends fits
  where
    faults_same : (view m.drive.medium).faults ≡ (view r.drive.medium).faults
    faults_same = ap (λ medium. (view medium).faults) start.medium

    -- nothing came after it
    ok_alone : (sound : Bool) → Started view was sound r m → s ≡ m → CarriesBy view command reply.Ok was r s → Exchanged (r.books.plan) (event_by view (Asks (OfVolume command)) reply.Ok was is sound sound_now r s)
    ok_alone true start same carries = ok_none view command was is true sound_now r s empty (same ∙ start.by) refl carries
    ok_alone false start same carries = ok_joined view command was is false sound_now r s empty [] (joined_alone view was r m s start.by same) refl (ap (λ (s : RingView M). (view s.drive.medium).faults) same ∙ faults_same) carries

    no_alone : (sound : Bool) (code : Code) → Started view was sound r m → s ≡ m → Exchanged (r.books.plan) (event_by view (Asks (OfVolume command)) (reply.No code) was is sound sound_now r s)
    no_alone true code start same = no_none view command was is true sound_now r s empty code (same ∙ start.by) refl
    no_alone false code start same = no_joined view command was is false sound_now r s empty code [] (joined_alone view was r m s start.by same) refl (ap (λ (s : RingView M). (view s.drive.medium).faults) same ∙ faults_same)

    by_ok : (a : Reply) → FitsAnswer {T = Unit {0}} (Ok tt) a → (s ≡ m) ⊎ CameGood view m s → CarriesBy view command a was r s → Exchanged (r.books.plan) (event_by view (Asks (OfVolume command)) a was is sound sound_now r s)
    by_ok reply.Ok fits so carries = ⊎_elim
        (λ same. ok_alone sound start same carries)
        (λ good. ok_joined view command was is sound sound_now r s empty _ (joined view was r true sound m s start good.came) good.good (good.count ∙ faults_same) carries)
        so
    by_ok (reply.No code) fits so carries = ⊎_elim
        (λ same. no_alone sound code start same)
        (λ good. no_joined view command was is sound sound_now r s empty code _ (joined view was r true sound m s start good.came) good.good (good.count ∙ faults_same))
        so
    by_ok _ fits so carries = cc

    by : (answer : Result T Trouble) → EndsBy view answer m s → FitsAnswer answer answered → Exchanged (r.books.plan) (event_by view (Asks (OfVolume command)) answered was is sound sound_now r s)
    by (Ok x) so fits = by_ok answered fits so carries
    by (Err trouble.Frame) so fits =
        subst (λ a. Exchanged (r.books.plan) (event_by view (Asks (OfVolume command)) a was is sound sound_now r s)) (sym fits)
        (frame_joined view command was is sound sound_now r s empty _ (joined view was r false sound m s start so.0) (subst (λ n. n ≤ (view s.drive.medium).faults) faults_same so.1))
    by (Err trouble.Medium) so fits =
        subst (λ a. Exchanged (r.books.plan) (event_by view (Asks (OfVolume command)) a was is sound sound_now r s)) (sym fits)
        (medium_joined view command was is sound sound_now r s empty _ (joined view was r true sound m s start so.0.came) so.0.bad (subst (λ n. Rose n (view s.drive.medium).faults) faults_same so.1))
