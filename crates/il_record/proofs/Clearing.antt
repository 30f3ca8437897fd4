-- Commands one after the other that clear the drive, and those that address the loop: no records in the log, none on the tape.
use Rattle.std.proofs.Common.{◌≡◌, ◌∙◌, ◌≤◌, ◌++◌, ⊎_elim, ℕ, zero, suc, true, false, List, [], ◌∷◌, Some, length, refl, sym, ap, subst, arith}
use Rattle.std.specs.List.{list_all}
use Rattle.il_frames.specs.declared.frame.Class.TheVariants as class
use Rattle.il_frames.specs.declared.frame.Frame.{Frame}
use Rattle.il_frames.specs.Frames.{class_of, same_class}
use Rattle.il_frames.specs.declared.message.Message.{Message}
use Rattle.il_frames.specs.declared.message.Message.TheVariants as msg
use Rattle.il_frames.specs.Messages.{message_of}
use Rattle.il_ports.specs.Media.{MediumView}
use Rattle.il_drive.specs.Runs.{Ran}
use Rattle.il_drive.proofs.Beginning.{joins}
use Rattle.il_drive.specs.Resting.{sdc}
use Rattle.il_drive.proofs.ExchangesAddressed.{clears, message_of-lad}
use Rattle.il_drive.proofs.ExchangesStill.{NonePuts, may_put, leaves_records}
use Rattle.il_frames.specs.NamedFrames.{unl, rfc, lad}
use Rattle.loop_model.specs.Exchanges.{Command, Piece, Whole as WholeOne, commanded}
use Rattle.loop_model.specs.Hearing.{has_no_data}
use Rattle.il_ring.specs.Rings.{RingView, devices_of, drive_party}
use Rattle.il_ring.specs.Journeys.{is_exact}
use Rattle.il_control.specs.Brought.{CutBrought, is_auto_address}
use Rattle.il_control.specs.Calls.{IsIdle, Made, BrokenOff, Obeyed, ObeyedInPart}
use Rattle.il_control.proofs.Brings.{command_brings}
use Rattle.il_record.specs.Asks.{AskCommand}
use Rattle.il_record.specs.Polls.{PlacesKept}
use Rattle.il_record.specs.Runs.{LeavesRecords, Cleared, Interrupted, clear_asks}
use Rattle.il_record.proofs.Asking.{asked_broken, asked_made, asked_on}
use Rattle.il_record.proofs.Cuts.{counts_up}
use Rattle.il_record.proofs.Places.{kept_in_part, kept_obeyed, kept_then}
use Rattle.il_record.proofs.Readings.{idle_address}
use Rattle.il_record.proofs.HeardLogs.{heard_none, heard_then, none_broke, none_whole}
use Rattle.il_record.proofs.ReadRuns.{came_still, leaves_then}
use Rattle.il_record.proofs.Talks.{made_talked, talked_then}

-- ---- a command

-- it does what a command does in front of a send: it comes as it was sent, and puts no record
pub record IsPlainCommand (f : Frame) : Type 0 where
  pub class_is : same_class (class_of f) class.Cmd ≡ true
  pub exact : is_exact (message_of f) ≡ true
  pub no_address : is_auto_address (message_of f) ≡ false
  pub puts_none : may_put (message_of f) ≡ false
  pub no_data : list_all has_no_data (commanded 0 f) ≡ true

pub plain_unl : IsPlainCommand unl
plain_unl = record { class_is = refl; exact = refl; no_address = refl; puts_none = refl; no_data = refl }

pub plain_sdc : IsPlainCommand sdc
plain_sdc = record { class_is = refl; exact = refl; no_address = refl; puts_none = refl; no_data = refl }

pub plain_lad : (a : ℕ) → a ≤ 30 → IsPlainCommand (lad a)
plain_lad a low = record { class_is = refl; exact = ap is_exact (message_of-lad a low); no_address = ap is_auto_address (message_of-lad a low); puts_none = ap may_put (message_of-lad a low); no_data = refl }

-- of one that was broken off the frames that came put none
cut_puts : (k q m : ℕ) (f : Frame) (gs : List Frame) → IsPlainCommand f → CutBrought k q (commanded 0 f) m gs → NonePuts gs
cut_puts k q zero f gs plain came = ⊎_elim (λ nothing. subst NonePuts (sym nothing) tt) (λ one. subst NonePuts (sym one.2) (ap (λ f. may_put (message_of f)) (one.1.other plain.exact plain.no_address) ∙ plain.puts_none, tt)) came
cut_puts k q (suc zero) f [] plain came = absurd came
cut_puts k q (suc zero) f (g ∷ gs) plain came =
    let first = ap (λ f. may_put (message_of f)) (came.0.other plain.exact plain.no_address) ∙ plain.puts_none in
    ⊎_elim (λ nothing. subst (λ gs. NonePuts (g ∷ gs)) (sym nothing) (first, tt)) (λ one. subst (λ gs. NonePuts (g ∷ gs)) (sym one.2) (first, (ap (λ f. may_put (message_of f)) (one.1.other refl refl), tt))) came.1
cut_puts k q (suc (suc m)) f [] plain came = absurd came
cut_puts k q (suc (suc m)) f (g ∷ []) plain came = absurd came.1
cut_puts k q (suc (suc m)) f (g ∷ h ∷ gs) plain came =
    let first = ap (λ f. may_put (message_of f)) (came.0.other plain.exact plain.no_address) ∙ plain.puts_none in
    let second = ap (λ f. may_put (message_of f)) (came.1.0.other refl refl) in
    subst (λ gs. NonePuts (g ∷ h ∷ gs)) (sym came.1.1) (first, (second, tt))

pub command_left : {M : Type 0} (view : M → MediumView) (f : Frame) (r s : RingView M) → IsPlainCommand f → BrokenOff view (Command f) r s → LeavesRecords view r.drive s.drive
command_left view f r s plain not =
    let broke = not.broke in
    record {
      still = leaves_records view broke.adds.came broke.adds.answers r.drive s.drive (cut_puts (length (devices_of r)) (drive_party r) broke.standing f broke.adds.came plain (broke.brought refl)) broke.adds.drive;
      count = counts_up view broke.adds.came broke.adds.answers r.drive s.drive broke.adds.drive;
    }

pub command_leaves : {M : Type 0} (view : M → MediumView) (f : Frame) (r s : RingView M) → IsPlainCommand f → Made view (Command f) r s → LeavesRecords view r.drive s.drive
command_leaves view f r s plain made =
    let adds = made.whole.adds in
    record {
      still = leaves_records view (f ∷ rfc ∷ []) adds.answers r.drive s.drive (plain.puts_none, (refl, tt)) (subst (λ fs. Ran view r.drive fs adds.answers s.drive) (command_brings view f r s made) adds.drive);
      count = counts_up view adds.came adds.answers r.drive s.drive adds.drive;
    }

-- ---- UNL, LAD of the drive, SDC

module _ {M : Type 0} (view : M → MediumView) (d : ℕ) (r : RingView M) (idle : IsIdle r) (low : d ≤ 30) where
  -- broken off at the first, the second, the third
  pub broke_first : (s : RingView M) → BrokenOff view (Command unl) r s → ObeyedInPart msg.Unl r s → Interrupted view (clear_asks d) d r s
  broke_first s not part =
      let left = command_left view unl r s plain_unl not in
      record {
        came = asked_broken view (AskCommand unl) (AskCommand (lad d) ∷ AskCommand sdc ∷ []) (Command unl) r s refl not left.still.tape;
        unheard = heard_none d r s (none_broke view r s (commanded 0 unl) refl not.broke);
        places = kept_in_part r s msg.Unl refl part;
        drive = left;
      }

  module _ (a : RingView M) (first : Made view (Command unl) r a) (unlistened : Obeyed msg.Unl r a) where
    pub broke_second : (s : RingView M) → BrokenOff view (Command (lad d)) a s → ObeyedInPart (msg.Lad d) a s → Interrupted view (clear_asks d) d r s
    broke_second s not part =
        let before = command_leaves view unl r a plain_unl first in
        let behind = command_left view (lad d) a s (plain_lad d low) not in
        record {
          came = asked_on view false (AskCommand unl ∷ []) (AskCommand (lad d) ∷ AskCommand sdc ∷ []) r a s idle (asked_made view (Command unl) r a first refl before.still.tape)
              (asked_broken view (AskCommand (lad d)) (AskCommand sdc ∷ []) (Command (lad d)) a s refl not behind.still.tape);
          unheard = heard_then d r a s (heard_none d r a (none_whole view r a (commanded 0 unl) refl first.whole)) (heard_none d a s (none_broke view a s (commanded 0 (lad d)) refl not.broke));
          places = kept_then r a s (kept_obeyed r a msg.Unl refl unlistened) (kept_in_part a s (msg.Lad d) refl part);
          drive = leaves_then view r.drive a.drive s.drive before behind;
        }

    module _ (b : RingView M) (second : Made view (Command (lad d)) a b) (listened : Obeyed (msg.Lad d) a b) where
      pub broke_third : (s : RingView M) → BrokenOff view (Command sdc) b s → ObeyedInPart msg.Sdc b s → Interrupted view (clear_asks d) d r s
      broke_third s not part =
          let one = command_leaves view unl r a plain_unl first in
          let two = command_leaves view (lad d) a b (plain_lad d low) second in
          let three = command_left view sdc b s plain_sdc not in
          record {
            came = asked_on view false (AskCommand unl ∷ []) (AskCommand (lad d) ∷ AskCommand sdc ∷ []) r a s idle (asked_made view (Command unl) r a first refl one.still.tape)
                (asked_on view false (AskCommand (lad d) ∷ []) (AskCommand sdc ∷ []) a b s first.idle (asked_made view (Command (lad d)) a b second refl two.still.tape)
                (asked_broken view (AskCommand sdc) [] (Command sdc) b s refl not three.still.tape));
            unheard = heard_then d r b s (heard_then d r a b (heard_none d r a (none_whole view r a (commanded 0 unl) refl first.whole)) (heard_none d a b (none_whole view a b (commanded 0 (lad d)) refl second.whole))) (heard_none d b s (none_broke view b s (commanded 0 sdc) refl not.broke));
            places = kept_then r a s (kept_obeyed r a msg.Unl refl unlistened) (kept_then a b s (kept_obeyed a b (msg.Lad d) refl listened) (kept_in_part b s msg.Sdc refl part));
            drive = leaves_then view r.drive a.drive s.drive one (leaves_then view a.drive b.drive s.drive two three);
          }

-- UNL, LAD of the drive, SDC
pub cleared : {M : Type 0} (view : M → MediumView) (d : ℕ) (r a b s : RingView M) → IsIdle r → d ≤ 30 → d ≡ drive_party r → Made view (Command unl) r a → Made view (Command (lad d)) a b → Made view (Command sdc) b s → PlacesKept r s → Cleared view d r s
cleared view d r a b s idle low at first second third places =
    let ps : List Piece = WholeOne (Command unl) ∷ WholeOne (Command (lad d)) ∷ WholeOne (Command sdc) ∷ [] in
    let talked = talked_then view true (WholeOne (Command unl) ∷ []) (WholeOne (Command (lad d)) ∷ WholeOne (Command sdc) ∷ []) r a s idle.free (made_talked view (Command unl) r a first)
    (talked_then view true (WholeOne (Command (lad d)) ∷ []) (WholeOne (Command sdc) ∷ []) a b s first.idle.free (made_talked view (Command (lad d)) a b second) (made_talked view (Command sdc) b s third)) in
    let one = subst (λ fs. Ran view r.drive fs first.whole.adds.answers a.drive) (command_brings view unl r a first) first.whole.adds.drive in
    let two = subst (λ fs. Ran view a.drive fs second.whole.adds.answers b.drive) (command_brings view (lad d) a b second) second.whole.adds.drive in
    let three = subst (λ fs. Ran view b.drive fs third.whole.adds.answers s.drive) (command_brings view sdc b s third) third.whole.adds.drive in
    let behind = joins view (lad d ∷ rfc ∷ []) (sdc ∷ rfc ∷ []) second.whole.adds.answers third.whole.adds.answers a.drive b.drive s.drive two three in
    let all = joins view (unl ∷ rfc ∷ []) (lad d ∷ rfc ∷ sdc ∷ rfc ∷ []) first.whole.adds.answers (second.whole.adds.answers ++ third.whole.adds.answers) r.drive a.drive s.drive one behind in
    let done = clears view d (first.whole.adds.answers ++ (second.whole.adds.answers ++ third.whole.adds.answers)) r.drive s.drive low (idle_address r idle ∙ ap Some (sym at)) all in
    record {
      came = record { units = came_still view true ps [] r s talked refl refl (λ t. refl) (ap (λ m. (view m).tape) done.1); asked = (refl, (refl, (refl, tt))) };
      unheard = heard_then d r b s (heard_then d r a b (heard_none d r a (none_whole view r a (commanded 0 unl) refl first.whole)) (heard_none d a b (none_whole view a b (commanded 0 (lad d)) refl second.whole))) (heard_none d b s (none_whole view b s (commanded 0 sdc) refl third.whole));
      places = places;
      rests = done.0;
      medium = done.1;
      idle = third.idle;
    }

-- ---- for frames by other names

pub lad_says : (a : ℕ) → a ≤ 30 → message_of (lad a) ≡ msg.Lad a
lad_says a low = message_of-lad a low

-- a command was made, or broken off, and obeyed
pub record Commanded {M : Type 0} (view : M → MediumView) (f : Frame) (m : Message) (r s : RingView M) : Type 0 where
  pub made : Made view (Command f) r s
  pub obeyed : Obeyed m r s

pub record Uncommanded {M : Type 0} (view : M → MediumView) (f : Frame) (m : Message) (r s : RingView M) : Type 0 where
  pub broken : BrokenOff view (Command f) r s
  pub part : ObeyedInPart m r s

module _ {M : Type 0} (view : M → MediumView) (f g : Frame) (m : Message) (r s : RingView M) (is : f ≡ g) (says : message_of g ≡ m) where
  pub commanded_as : Made view (Command f) r s → Obeyed (message_of f) r s → Commanded view g m r s
  commanded_as made obeyed = record { made = subst (λ f. Made view (Command f) r s) is made; obeyed = subst (λ m. Obeyed m r s) (ap message_of is ∙ says) obeyed }

  pub uncommanded_as : BrokenOff view (Command f) r s → ObeyedInPart (message_of f) r s → Uncommanded view g m r s
  uncommanded_as broken part = record { broken = subst (λ f. BrokenOff view (Command f) r s) is broken; part = subst (λ m. ObeyedInPart m r s) (ap message_of is ∙ says) part }

-- the party of the drive by its address
pub low_party : (d party : ℕ) → d ≤ 30 → d ≡ party → party ≤ 30
low_party d party low at = omega (arith, low, at)

-- all three
pub cleared_by : {M : Type 0} (view : M → MediumView) (d : ℕ) (r a b s : RingView M) → IsIdle r → d ≤ 30 → d ≡ drive_party r → Commanded view unl msg.Unl r a → Commanded view (lad d) (msg.Lad d) a b → Commanded view sdc msg.Sdc b s → Cleared view d r s
cleared_by view d r a b s idle low at first second third =
    cleared view d r a b s idle low at first.made second.made third.made (kept_then r a s (kept_obeyed r a msg.Unl refl first.obeyed) (kept_then a b s (kept_obeyed a b (msg.Lad d) refl second.obeyed) (kept_obeyed b s msg.Sdc refl third.obeyed)))
