-- What a command of the loop replies, and that it leaves the tape.
use Rattle.std.proofs.Common.{◌≡◌, ◌∙◌, inl, Bool, true, false, refl, sym, ap, subst}
use Rattle.std.specs.Prelude.{is_some, option_and_then, IfSome}
use Rattle.lif_model.specs.Volume.{is_foreign_gated}
use Rattle.lif_model.specs.Packing.{finished_volume_of}
use Rattle.il_ports.specs.Media.{MediumView}
use Rattle.il_ring.specs.Rings.{RingView}
use Rattle.il_script.specs.declared.reply.Reply.TheVariants as reply
use Rattle.il_script.specs.declared.reply.Code.{Code}
use Rattle.host_model.specs.Requests.{Asks, Devices, Item, Poll, Say, Status, uses_frames, Lend}
use Rattle.host_model.specs.HostStates.{HasOwnGate, HostState, volume_at}
use Rattle.host_model.specs.Replies.{reply_of, volume_behind}
use Rattle.host_model.specs.RingStates.{state_on}
use Rattle.host_model.specs.Steps.{EitherVolume, Replied, SettlesAlike}
use Rattle.host_model.proofs.Steps.{alike_staying}
use Rattle.il_host.proofs.CommandTravels.{event_on}
use Rattle.il_host.proofs.LoopEvents.{IsOfLoop}

-- the tape is as it was, and so is its size
pub record LeavesOnTape {M : Type 0} (view : M → MediumView) (r s : RingView M) : Type 0 where
  pub tape : (view s.drive.medium).tape ≡ (view r.drive.medium).tape
  pub size : (view s.drive.medium).record_count ≡ (view r.drive.medium).record_count

pub sends_frames : (item : Item) → IsOfLoop item → uses_frames item ≡ true
sends_frames (Asks Devices) of_loop = refl
sends_frames (Asks Status) of_loop = refl
sends_frames (Asks Poll) of_loop = refl
sends_frames (Asks (Say bytes)) of_loop = refl
sends_frames (Asks (Lend frames)) of_loop = refl
sends_frames _ of_loop = absurd of_loop

same_volume : (item : Item) (s : HostState) → IsOfLoop item → volume_at s ≡ volume_behind item s
same_volume (Asks Devices) s of_loop = refl
same_volume (Asks Status) s of_loop = refl
same_volume (Asks Poll) s of_loop = refl
same_volume (Asks (Say bytes)) s of_loop = refl
same_volume (Asks (Lend frames)) s of_loop = refl
same_volume _ s of_loop = absurd of_loop

either_staying : (item : Item) (s t : HostState) → IsOfLoop item → volume_at t ≡ volume_at s → EitherVolume item s t
either_staying (Asks Devices) s t of_loop same = inl same
either_staying (Asks Status) s t of_loop same = inl same
either_staying (Asks Poll) s t of_loop same = inl same
either_staying (Asks (Say bytes)) s t of_loop same = inl same
either_staying (Asks (Lend frames)) s t of_loop same = inl same
either_staying _ s t of_loop same = absurd of_loop

module _ {M : Type 0} (view : M → MediumView) (item : Item) (of_loop : IsOfLoop item) (was is : Bool) (r s : RingView M) (leaves : LeavesOnTape view r s) where
  volume_stays : volume_at (state_on view is false s) ≡ volume_at (state_on view was false r)
  volume_stays = ap (λ tape. option_and_then finished_volume_of tape) leaves.tape

  gate_stays : HasOwnGate (state_on view was false r) → HasOwnGate (state_on view is false s)
  gate_stays own = subst (λ tape. IfSome tape (λ t. is_foreign_gated t ≡ false)) (sym leaves.tape) own

  foreign_stays : IfSome (state_on view is false s).tape (SettlesAlike (state_on view was false r).tape)
  foreign_stays = subst (λ tape. IfSome tape (SettlesAlike (view r.drive.medium).tape)) (sym leaves.tape) (alike_staying (view r.drive.medium).tape)

  -- it was done
  pub loop_replied : reply.Ok ≡ reply_of item (state_on view was false r) → Replied (event_on view item reply.Ok was is r s)
  loop_replied right = record {
    may = tt;
    whole = λ tells. (right, volume_stays ∙ same_volume item (state_on view was false r) of_loop);
    stays = λ other. leaves.tape;
    told = ap (λ tape. is_some tape) leaves.tape;
    size = leaves.size;
    gate = gate_stays;
    foreign = foreign_stays;
  }

  -- it was refused
  pub loop_refusal_replied : (code : Code) → reply.No code ≡ reply_of item (state_on view was false r) → Replied (event_on view item (reply.No code) was is r s)
  loop_refusal_replied code right = record {
    may = tt;
    whole = λ tells. (right, volume_stays ∙ same_volume item (state_on view was false r) of_loop);
    stays = λ other. leaves.tape;
    told = ap (λ tape. is_some tape) leaves.tape;
    size = leaves.size;
    gate = gate_stays;
    foreign = foreign_stays;
  }

  -- an exchange of it was broken off
  pub loop_fault_replied : Replied (event_on view item reply.FaultFrame was is r s)
  loop_fault_replied = record {
    may = sends_frames item of_loop;
    whole = λ tells own. either_staying item (state_on view was false r) (state_on view is false s) of_loop volume_stays;
    stays = λ other. leaves.tape;
    told = ap (λ tape. is_some tape) leaves.tape;
    size = leaves.size;
    gate = gate_stays;
    foreign = foreign_stays;
  }
