-- What a frame does to the drive as a device, to its status and to the tape.
use Rattle.std.proofs.Common.{◌≡◌, ◌⊎◌, inl, inr, ℕ, Bool, true, false, refl, sym, ap, subst, ◌∙◌, ◌≢◌, [], lit≤, arith}
use Rattle.std.specs.Prelude.{◌↔◌, Option, Some, None, not, ◌&&◌, ◌||◌, ◌==◌}
use Rattle.std.proofs.Common.{⊎_elim}
use Rattle.std.proofs.lemmas.Bool.{cases_Bool}
use Rattle.il_frames.specs.declared.frame.Class.TheVariants as class
use Rattle.il_frames.specs.declared.frame.Frame.{Frame}
use Rattle.il_frames.specs.declared.message.Message.{Message}
use Rattle.il_frames.specs.declared.message.Message.TheVariants as msg
use Rattle.il_frames.specs.Frames.{byte_of, framed, same_but_service}
use Rattle.il_frames.specs.Messages.{message_of}
use Rattle.il_poll.specs.Service.{status_byte_of}
use Rattle.il_device.specs.declared.device.Out.{Out}
use Rattle.il_device.specs.declared.device.Out.TheVariants.{Pass, Source}
use Rattle.il_device.specs.declared.interface.OwnFrame.{OwnFrame}
use Rattle.il_device.specs.declared.interface.Turn.{Turn}
use Rattle.il_device.specs.declared.interface.Turn.TheVariants as turn
use Rattle.il_device.specs.declared.roles.Roles.{Roles}
use Rattle.il_device.specs.Takes.{Takes, Answers, Ends, Sends, may_change_service, turn_at, just_sent, eto, ete}
use Rattle.il_device.specs.Interfaces.{InterfaceState, turn_on, interface_after, with_status, sending}
use Rattle.il_device.proofs.TurnLemmas.{Takes-on, MayPass, Answers-pass, heard_after-roomless}
use Rattle.il_drive.specs.declared.mode.Start.{Start}
use Rattle.il_drive.specs.declared.mode.Start.TheVariants as start
use Rattle.il_drive.specs.State.{DriveState, IsDrive, status_of, device_of}
use Rattle.il_drive.specs.Steps.{Step}
use Rattle.il_drive.specs.Table as table
use Rattle.il_drive.specs.Facts.{is_wrong_echo, lacks_at, lacks_at_start, lacks_due, put_at, placed_on, record_put}
use Rattle.il_drive.proofs.Outcomes.{Every, every_then, every_both, every_when, written, written_then}
use Rattle.il_drive.proofs.Moves.{Moves, moves_still, MovesWith, StatusFact, KeepsStatus, obeyed_moves, obeyed_keeps, heard_moves, due_moves, obeyed_written, heard_written, due_written, placed_nothing}

-- ---- what is asked

-- where the device is asked for more than to pass the frame on, the wish for service may change
pub asked_changes : (r : Roles) (own : Option OwnFrame) (accessory : Option ℕ) (m : Message) → (turn_at r own accessory m ≡ turn.Pass) ⊎ (may_change_service m ≡ true)
asked_changes r own accessory (msg.Dab b) = inr refl
asked_changes r own accessory (msg.Dsr b) = inr refl
asked_changes r own accessory (msg.End b) = inr refl
asked_changes r own accessory (msg.Esr b) = inr refl
asked_changes r own accessory msg.Sda = inr refl
asked_changes r own accessory msg.Sst = inr refl
asked_changes r own accessory msg.Sdi = inr refl
asked_changes r own accessory msg.Sai = inr refl
asked_changes r own accessory _ = inl refl

-- ---- the facts

-- the interface after the effect of the frame, with another own frame and another status
abbrev pub IsBehind : InterfaceState → InterfaceState → Type 0
IsBehind j k = k ≡ record j { own = k.own; service = record j.service { status = k.service.status } }

-- What holds of the drive s, of the frame f that asks this of it, and of the drive and the answer after it, where
-- the medium has failed or not.
pub record Fact (asked : Turn) (n : ℕ) (s : DriveState) (f : Frame) (failed : Bool) (x : DriveState × Out) : Type 0 where
  pub behind : IsBehind (interface_after s.interface f) x.0.interface
  pub status : StatusFact (lacks_at asked n s.interface.roles f (table.behind_effect f s)) (status_of s) failed (status_of x.0)
  pub keeps : may_change_service (message_of f) ≡ false → status_of x.0 ≡ status_of s
  pub answer : Answers asked (device_of s) f x.1 (device_of x.0)
  pub by_ete : (x.1 ≡ Source ete) ↔ (is_wrong_echo asked f ≡ true)

behind_moved : (j k : InterfaceState) (status : ℕ) → k ≡ with_status j status → IsBehind j k
behind_moved j k status e = rw e refl

behind_sent : (j k : InterfaceState) (status : ℕ) (own : Option OwnFrame) → k ≡ with_status j status → IsBehind j (sending k own)
behind_sent j k status own e = rw e refl

not_wrong : (asked : Turn) (f : Frame) → MayPass asked → is_wrong_echo asked f ≡ false
not_wrong turn.Pass f may = refl
not_wrong turn.Hear f may = refl
not_wrong turn.Begin f may = refl
not_wrong (turn.Identify id) f may = refl
not_wrong (turn.Compare own) f may = absurd may

false_is_not_true : (b : Bool) → b ≡ false → b ≡ true → ⊥
false_is_not_true b e h = let clash : false ≡ true = sym e ∙ h in cc

-- the frame goes on
passed_fact : (asked : Turn) (n : ℕ) (s : DriveState) (f : Frame) (failed : Bool) (u : DriveState) → MayPass asked
    → Moves (table.behind_effect f s) (lacks_at asked n s.interface.roles f (table.behind_effect f s)) failed u → (may_change_service (message_of f) ≡ false → status_of u ≡ status_of s)
    → Fact asked n s f failed (table.passes s.interface.roles f u)
passed_fact asked n s f failed u may moves keeps = record {
  behind = behind_moved (interface_after s.interface f) u.interface (status_of u) moves.interface;
  status = moves.status;
  keeps = keeps;
  answer = Answers-pass asked (device_of s) f _ (device_of u) may (record { answer = refl; still_own = ap (λ (i : InterfaceState). i.own) moves.interface });
  by_ete = (λ e. cc, λ e. absurd (false_is_not_true _ (not_wrong asked f may) e));
}

sourced : Out → Frame → Frame
sourced (Source f) other = f
sourced (Pass f) other = other

data_is_not_ete : (byte : ℕ) → Source (framed class.Dab byte) ≡ Source ete → ⊥
unfolding sourced
data_is_not_ete byte e = let clash : class.Dab ≡ class.Rdy = ap (λ (out : Out). (sourced out ete).class) e in cc

-- a data frame is sent
sent_fact : (asked : Turn) (n : ℕ) (s : DriveState) (f : Frame) (failed : Bool) (u : DriveState) (by : Start) (last : Bool) (byte : ℕ)
    → Moves (table.behind_effect f s) (lacks_at asked n s.interface.roles f (table.behind_effect f s)) failed u → may_change_service (message_of f) ≡ true
    → is_wrong_echo asked f ≡ false
    → (Sends (just_sent (framed class.Dab byte) last) (Source (framed class.Dab byte)) (device_of (table.sends by last byte u).0) → Answers asked (device_of s) f (Source (framed class.Dab byte)) (device_of (table.sends by last byte u).0))
    → Fact asked n s f failed (table.sends by last byte u)
sent_fact asked n s f failed u by last byte moves changes right answers = record {
  behind = behind_sent (interface_after s.interface f) u.interface (status_of u) _ moves.interface;
  status = moves.status;
  keeps = λ h. absurd (false_is_not_true _ h changes);
  answer = answers (record { answer = refl; on_loop = refl; is_data = refl; service = λ e. cc; runs = refl });
  by_ete = (λ e. absurd (data_is_not_ete byte e), λ e. absurd (false_is_not_true _ right e));
}

-- the transmission ends
ended_fact : (asked : Turn) (n : ℕ) (s : DriveState) (f end : Frame) (failed : Bool) (u : DriveState)
    → Moves (table.behind_effect f s) (lacks_at asked n s.interface.roles f (table.behind_effect f s)) failed u → may_change_service (message_of f) ≡ true
    → (Ends end (Source end) (device_of (table.ends end u).0) → Answers asked (device_of s) f (Source end) (device_of (table.ends end u).0))
    → ((Source end ≡ Source ete) ↔ (is_wrong_echo asked f ≡ true)) → Fact asked n s f failed (table.ends end u)
ended_fact asked n s f end failed u moves changes answers by_ete = record {
  behind = behind_sent (interface_after s.interface f) u.interface (status_of u) _ moves.interface;
  status = moves.status;
  keeps = λ h. absurd (false_is_not_true _ h changes);
  answer = answers (record { answer = refl; off_loop = refl });
  by_ete = by_ete;
}

eto_is_not_ete : Source eto ≡ Source ete → ⊥
unfolding sourced
eto_is_not_ete e = let clash : eto.byte ≡ ete.byte = ap (λ (out : Out). (sourced out ete).byte) e in absurd (omega (arith, clash))

-- after the right echo ETE is not sent
eto_right : (own : OwnFrame) (f : Frame) → same_but_service own.frame f ≡ true → (Source eto ≡ Source ete) ↔ (not (same_but_service own.frame f) ≡ true)
eto_right own f right = (λ e. absurd (eto_is_not_ete e), λ e. absurd (false_is_not_true _ (ap not right) e))

-- ---- by what is asked

module _ (n : ℕ) (s : DriveState) (f : Frame) where
  -- the drive after what the frame does to every device, and the roles as the frame came
  abbrev u : DriveState
  u = table.behind_effect f s

  abbrev r : Roles
  r = s.interface.roles

  pass_facts : Every (Fact turn.Pass n s f) (table.answered turn.Pass n r f u)
  pass_facts =
      let m = message_of f in
      let keeps : Bool → DriveState → Type 0 = λ failed v. may_change_service m ≡ false → status_of v ≡ status_of u in
      every_then (λ (failed : Bool) (v : DriveState). Moves u (lacks_at turn.Pass n r f u) failed v × keeps failed v) (Fact turn.Pass n s f) (table.passes r f) (table.obeyed m n r u)
      (λ failed v both. passed_fact turn.Pass n s f failed v tt both.0 both.1)
      (every_both (Moves u (lacks_at turn.Pass n r f u)) keeps (table.obeyed m n r u) (obeyed_moves m n r u)
      (every_when (may_change_service m ≡ false) (KeepsStatus u) (table.obeyed m n r u) (obeyed_keeps m n r u)))

  hear_facts : may_change_service (message_of f) ≡ true → Every (Fact turn.Hear n s f) (table.answered turn.Hear n r f u)
  hear_facts changes =
      every_then (Moves u (lacks_at turn.Hear n r f u)) (Fact turn.Hear n s f) (table.passes r f) (table.heard_in u.mode (byte_of f) n u)
      (λ failed v moves. passed_fact turn.Hear n s f failed v tt moves (λ h. absurd (false_is_not_true _ h changes))) (heard_moves u.mode (byte_of f) n u)

  -- ---- a start message to a talker

  first_fact : (failed : Bool) (x : DriveState × Option ℕ) → may_change_service (message_of f) ≡ true → lacks_at turn.Begin n r f u ≡ lacks_due u.mode n u
      → Moves u (lacks_due u.mode n u) failed x.0 → Fact turn.Begin n s f failed (table.first_or_pass r f x)
  first_fact failed (v, Some byte) changes lack moves = sent_fact turn.Begin n s f failed v start.Data false byte (rw lack moves) changes refl (λ sends. inr (just_sent (framed class.Dab byte) false, sends))
  first_fact failed (v, None) changes lack moves = passed_fact turn.Begin n s f failed v tt (rw lack moves) (λ h. absurd (false_is_not_true _ h changes))

  -- nothing is lacking where no record is asked for
  begin_passes : lacks_at turn.Begin n r f u ≡ false → may_change_service (message_of f) ≡ true → Fact turn.Begin n s f false (table.passes r f u)
  begin_passes lack changes = passed_fact turn.Begin n s f false u tt (rw lack (moves_still u u refl)) (λ h. refl)

  begin_facts : (m : Message) → m ≡ message_of f → may_change_service (message_of f) ≡ true → Every (Fact turn.Begin n s f) (table.began m n r f u)
  begin_facts msg.Sda is changes =
      every_then (MovesWith (Option ℕ) u (lacks_due u.mode n u)) (Fact turn.Begin n s f) (table.first_or_pass r f) (table.due n u)
      (λ failed x moves. first_fact failed x changes (ap (λ (m : Message). lacks_at_start m n u) (sym is)) moves) (due_moves u.mode n u)
  begin_facts msg.Sst is changes =
      sent_fact turn.Begin n s f false u start.Status true (status_byte_of (status_of u)) (rw (ap (λ (m : Message). lacks_at_start m n u) (sym is)) (moves_still u u refl)) changes refl
      (λ sends. inr (just_sent (framed class.Dab (status_byte_of (status_of u))) true, sends))
  begin_facts _ is changes = begin_passes (ap (λ (m : Message). lacks_at_start m n u) (sym is)) changes

  identify_facts : (id : ℕ) → may_change_service (message_of f) ≡ true → Every (Fact (turn.Identify id) n s f) (table.answered (turn.Identify id) n r f u)
  identify_facts id changes = sent_fact (turn.Identify id) n s f false u start.Identity true id (moves_still u u refl) changes refl (λ sends. sends)

  -- ---- after an own frame

  next_fact : (own : OwnFrame) (failed : Bool) (x : DriveState × Option ℕ) → may_change_service (message_of f) ≡ true
      → lacks_at (turn.Compare own) n r f u ≡ lacks_due u.mode n u → same_but_service own.frame f ≡ true → (own.stopped || own.last) ≡ false
      → Moves u (lacks_due u.mode n u) failed x.0 → Fact (turn.Compare own) n s f failed (table.next_or_end x)
  next_fact own failed (v, Some byte) changes lack right runs moves =
      sent_fact (turn.Compare own) n s f failed v start.Data false byte (rw lack moves) changes (ap not right)
      (λ sends. rw (right, runs) (inr (just_sent (framed class.Dab byte) false, sends)))
  next_fact own failed (v, None) changes lack right runs moves =
      ended_fact (turn.Compare own) n s f eto failed v (rw lack moves) changes (λ ends. rw (right, runs) (inl ends)) (eto_right own f right)

  acknowledged_moves : (by : Start) → Moves u false false (table.acknowledged by u)
  acknowledged_moves start.Status = record { interface = refl; status = inr refl }
  acknowledged_moves start.Data = moves_still u u refl
  acknowledged_moves start.Identity = moves_still u u refl

  abbrev Compared : OwnFrame → Step (DriveState × Out) → Type 0
  Compared own step = Every (Fact (turn.Compare own) n s f) step

  wrong_facts : (own : OwnFrame) → may_change_service (message_of f) ≡ true → same_but_service own.frame f ≡ false → Compared own (table.compared (same_but_service own.frame f) own n u)
  wrong_facts own changes wrong =
      let lack : lacks_at (turn.Compare own) n r f u ≡ false = ap (λ b. b && (not (own.stopped || own.last) && lacks_due u.mode n u)) wrong in
      subst (λ b. Compared own (table.compared b own n u)) (sym wrong)
      (ended_fact (turn.Compare own) n s f ete false u (rw lack (moves_still u u refl)) changes (λ ends. rw wrong ends) (λ e. ap not wrong, λ e. refl))

  over_facts : (own : OwnFrame) → may_change_service (message_of f) ≡ true → same_but_service own.frame f ≡ true → (own.stopped || own.last) ≡ true → Compared own (table.went_on (own.stopped || own.last) n u)
  over_facts own changes right over =
      let lack : lacks_at (turn.Compare own) n r f u ≡ false = rw (right, over) refl in
      subst (λ b. Compared own (table.went_on b n u)) (sym over)
      (ended_fact (turn.Compare own) n s f eto false (table.acknowledged u.begun u) (rw lack (acknowledged_moves u.begun)) changes (λ ends. rw (right, over) ends) (eto_right own f right))

  runs_facts : (own : OwnFrame) → may_change_service (message_of f) ≡ true → same_but_service own.frame f ≡ true → (own.stopped || own.last) ≡ false → Compared own (table.went_on (own.stopped || own.last) n u)
  runs_facts own changes right runs =
      let lack : lacks_at (turn.Compare own) n r f u ≡ lacks_due u.mode n u = rw (right, runs) refl in
      subst (λ b. Compared own (table.went_on b n u)) (sym runs)
      (every_then (MovesWith (Option ℕ) u (lacks_due u.mode n u)) (Fact (turn.Compare own) n s f) table.next_or_end (table.due n u)
      (λ failed x moves. next_fact own failed x changes lack right runs moves) (due_moves u.mode n u))

  right_facts : (own : OwnFrame) → may_change_service (message_of f) ≡ true → same_but_service own.frame f ≡ true → Compared own (table.compared (same_but_service own.frame f) own n u)
  right_facts own changes right =
      subst (λ b. Compared own (table.compared b own n u)) (sym right)
      (⊎_elim (over_facts own changes right) (runs_facts own changes right) (cases_Bool (own.stopped || own.last)))

  compare_facts : (own : OwnFrame) → may_change_service (message_of f) ≡ true → Compared own (table.answered (turn.Compare own) n r f u)
  compare_facts own changes = ⊎_elim (right_facts own changes) (wrong_facts own changes) (cases_Bool (same_but_service own.frame f))

  -- ---- all of it

  facts_at : (asked : Turn) → (asked ≡ turn.Pass) ⊎ (may_change_service (message_of f) ≡ true) → Every (Fact asked n s f) (table.answered asked n r f u)
  facts_at turn.Pass changes = pass_facts
  facts_at turn.Hear (inl is) = cc
  facts_at turn.Hear (inr changes) = hear_facts changes
  facts_at turn.Begin (inl is) = cc
  facts_at turn.Begin (inr changes) = begin_facts (message_of f) refl changes
  facts_at (turn.Identify id) (inl is) = cc
  facts_at (turn.Identify id) (inr changes) = identify_facts id changes
  facts_at (turn.Compare own) (inl is) = cc
  facts_at (turn.Compare own) (inr changes) = compare_facts own changes

  pub facts : Every (Fact (turn_on s.interface f) n s f) (table.drive_step n s f)
  facts = facts_at (turn_on s.interface f) (asked_changes s.interface.roles s.interface.own s.interface.accessory (message_of f))

  -- ---- the record that is written

  began_written : (m : Message) → written (table.began m n r f u) ≡ None
  began_written msg.Sda = written_then (table.first_or_pass r f) (table.due n u) ∙ due_written u.mode n u
  began_written msg.Sst = refl
  began_written _ = refl

  went_written : (over : Bool) → written (table.went_on over n u) ≡ None
  went_written true = refl
  went_written false = written_then table.next_or_end (table.due n u) ∙ due_written u.mode n u

  compared_written : (right : Bool) (own : OwnFrame) → written (table.compared right own n u) ≡ None
  compared_written true own = went_written (own.stopped || own.last)
  compared_written false own = refl

  written_at : (asked : Turn) → written (table.answered asked n r f u) ≡ placed_on (s.position == n) s.position (put_at asked r f u)
  written_at turn.Pass = written_then (table.passes r f) (table.obeyed (message_of f) n r u) ∙ obeyed_written (message_of f) n r u
  written_at turn.Hear = written_then (table.passes r f) (table.heard_in u.mode (byte_of f) n u) ∙ heard_written u.mode (byte_of f) n u
  written_at turn.Begin = began_written (message_of f) ∙ placed_nothing (s.position == n) s.position
  written_at (turn.Identify id) = placed_nothing (s.position == n) s.position
  written_at (turn.Compare own) = compared_written (same_but_service own.frame f) own ∙ placed_nothing (s.position == n) s.position

  pub record_written : written (table.drive_step n s f) ≡ record_put n s f
  record_written = written_at (turn_on s.interface f)

-- ---- from the facts

-- what every device does
pub Takes-fact : (n n₂ : ℕ) (s t : DriveState) (f : Frame) (out : Out) (failed : Bool) → IsDrive n s → IsDrive n₂ t → Fact (turn_on s.interface f) n s f failed (t, out) → Takes (device_of s) f out (device_of t)
Takes-fact n n₂ s t f out failed before after fact =
    Takes-on s.interface t.interface [] [] 0 f out before.standing after.standing (lit≤ tt) (lit≤ tt)
    (record { rest = fact.behind; status = fact.keeps }) (heard_after-roomless (turn_on s.interface f) (byte_of f)) fact.answer

-- status 1 and 2 are new only where the medium has failed
pub fault_is_old : (lack : Bool) (before after fault : ℕ) → StatusFact lack before false after → after ≡ fault → 0 ≢ fault → 3 ≢ fault → before ≡ fault
fault_is_old true before after fault status is one two = absurd (two (sym status ∙ is))
fault_is_old false before after fault (inl same) is one two = sym same ∙ is
fault_is_old false before after fault (inr zero) is one two = absurd (one (sym zero ∙ is))

-- status 3 is new exactly where a record is lacking
pub lack_tells : (lack failed : Bool) (before after : ℕ) → StatusFact lack before failed after → lack ≡ true → after ≡ 3
lack_tells lack true before after status h = absurd (false_is_not_true lack status.0 h)
lack_tells true false before after status h = status
lack_tells false false before after status h = cc

pub lack_is_told : (lack failed : Bool) (before after : ℕ) → StatusFact lack before failed after → after ≡ 3 → (before ≡ 3) ⊎ (lack ≡ true)
lack_is_told lack true before after (none, inl one) is = absurd (omega (arith, one, is))
lack_is_told lack true before after (none, inr two) is = absurd (omega (arith, two, is))
lack_is_told true false before after status is = inr refl
lack_is_told false false before after (inl same) is = inl (sym same ∙ is)
lack_is_told false false before after (inr zero) is = absurd (omega (arith, zero, is))
