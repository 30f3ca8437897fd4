-- How the parts of a run make the whole.
use Rattle.std.proofs.Common.{◌≡◌, ◌≢◌, ◌==◌, ◌∙◌, ◌++◌, ⊎_elim, inl, inr, ℕ, Bool, true, false, List, map, Option, Some, None, if◌then◌else◌, refl, sym, ap, subst, arith}
use Rattle.std.specs.Prelude.{Ok, not}
use Rattle.std.specs.Option.{option_or}
use Rattle.std.specs.declared.dyn_box.DynBox.{DynBox}
use Rattle.std.specs.Global.{Global}
use Rattle.lif_model.specs.Shelf.{IsSize, image_of, inserted as insert_of}
use Rattle.lif_model.specs.Tape.{Tape}
use Rattle.lif_model.proofs.Moments.{after_still, still}
use Rattle.lif_model.proofs.Sizes.{sizes_are}
use Rattle.il_device.specs.State.{DeviceState}
use Rattle.il_guest.specs.State.{GuestState}
use Rattle.il_ports.specs.Media.{MediumView, IsMedium, DidInsert}
use Rattle.il_ports.specs.declared.medium.Inserted.TheVariants as answers
use Rattle.il_ports.specs.Inserting.{records_made}
use Rattle.il_ports.specs.declared.medium.New.{New}
use Rattle.il_ring.specs.declared.plan.Planned.{Planned}
use Rattle.il_ring.specs.declared.rig.Rig.{Rig}
use Rattle.il_ring.specs.Guests.{guest_devices}
use Rattle.host_model.specs.HostStates.{HostState, fresh_host}
use Rattle.host_model.specs.Stops.{LeftWithin}
use Rattle.host_model.specs.Runs.{Chained}
use Rattle.host_model.specs.Endings.{RunEnd, HasNoTape}
use Rattle.host_model.specs.Orders.{Inserts, Order, Outside, asks_last, mode_of, taking_part}
use Rattle.host_model.specs.Histories.{RunTells}
use Rattle.host_model.specs.Leaves.{KeepsShelf, LeavesBy, LeavesImage, RunsOver}
use Rattle.host_model.proofs.Growing.{left_before, size_stays}
use Rattle.host_model.proofs.Runs.{run_tells}
use Rattle.host_model.proofs.Tapes.{plain_run}
use Rattle.il_host.specs.HostView.{HostView, IsHost, KeepsImages}
use Rattle.il_host.specs.Hosts.{IsOpened, IsClosed}
use Rattle.il_host.specs.Run.{AnswersScript, end_of}
use Rattle.il_host.specs.Whole.{AnswersOver, FailsBy, MayHaveLeft, outside, outside_of, tape_in}
use Rattle.il_host.specs.declared.ending.Ending.{Ending}
use Rattle.il_host.specs.declared.ending.Ending.TheVariants as ending
use Rattle.il_host.proofs.Images.{images_kept}

-- ---- the tape in the drive

tape_by : (n : ℕ) (tape : Option Tape) → IsSize n → (if n == 0 then None else tape) ≡ tape
tape_by n tape size = elim (sizes_are n size) [
  | inl e ↦ ap (λ n. if n == 0 then None else tape) e
  | inr e ↦ ap (λ n. if n == 0 then None else tape) e
]

-- a tape is in where the drive has the records of one
pub tape_is_in : (m : MediumView) → IsSize m.record_count → tape_in m ≡ m.tape
tape_is_in m size = tape_by m.record_count m.tape size

-- ---- a second controller

-- where no last address is asked there is none
none_there : (guest : Option GuestState) → asks_last guest ≡ None → guest ≡ None
none_there None none = refl
none_there (Some g) none = cc

-- a host that was opened without a second controller hands none back
none_back : (part : Bool) (guest back : Option GuestState) → asks_last back ≡ asks_last (taking_part part guest) → part ≡ false → back ≡ None
none_back true guest back same off = cc
none_back false guest back same off = none_there back same

-- With the one that was kept aside, the one that takes part is the one that the host hands back; and one that takes no part is the one
-- that there was.
took_part : (part : Bool) (guest back : Option GuestState) → (part ≡ false → back ≡ None) → taking_part part (option_or (taking_part (not part) guest) back) ≡ back
took_part true guest back none = refl
took_part false guest back none = sym (none refl)

took_no_part : (part : Bool) (guest back : Option GuestState) → (part ≡ false → back ≡ None) → part ≡ false → option_or (taking_part (not part) guest) back ≡ guest
took_no_part true guest back none off = cc
took_no_part false None back none off = none refl
took_no_part false (Some g) back none off = refl

-- ---- the script

-- a host was opened, answered the script and was closed
answers_over : {M : Type 0} (view : M → MediumView) (order : Order) (medium closed : M) (before after before_now after_now : List DeviceState) (guest back guest_now : Option GuestState) (v w : HostView) (e : Ending)
    (left left_now written written_now : Option (List ℕ)) (plan : List Planned)
    → plan ≡ order.plan → IsOpened view medium before after (taking_part order.guest guest) plan v → IsHost v → IsSize (view medium).record_count → AnswersScript order.generated e (mode_of order) v w left left_now written written_now
    → IsClosed view w closed before_now after_now back → (view closed).record_count ≡ w.state.records → guest_now ≡ option_or (taking_part (not order.guest) guest) back
    → AnswersOver order (end_of e) (view medium) (view closed) (outside (view medium) left written before after guest) (outside (view closed) left_now written_now before_now after_now guest_now)
answers_over view order medium closed before after before_now after_now guest back guest_now v w e left left_now written written_now plan planned opens host size a closes count put =
    let plan_is : v.plan ≡ order.plan = opens.plan_is ∙ planned in
    let ran = a.ran in
    let chain : Chained order.plan v.state ran.events w.state = subst (λ plan. Chained plan v.state ran.events w.state) plan_is ran.chain in
    let same : (view closed).record_count ≡ (view medium).record_count = count ∙ size_stays order.plan v.state ran.events w.state chain ∙ ap (λ (s : HostState). s.records) opens.state in
    let none : v.state.crossings ≡ 0 = ap (λ (s : HostState). s.crossings) opens.state in
    let tells : RunTells order.plan v.state ran.events w.state = run_tells order.plan v.state ran.events w.state chain host.one (omega (arith, none)) in
    let alone : order.guest ≡ false → back ≡ None = none_back order.guest guest back (closes.guest_is ∙ tells.guest ∙ ap (λ (s : HostState). s.loop.guest) opens.state) in
    let took : taking_part order.guest guest_now ≡ back = ap (taking_part order.guest) put ∙ took_part order.guest guest back alone in
    record {
      start = v.state;
      finish = w.state;
      fresh = opens.state;
      ran = record {
        events = ran.events;
        chain = chain;
        asks = ran.asks;
        ok = ran.ok;
        texts = ran.texts;
        texts_are = ran.texts_are;
        writes = ran.writes;
      };
      tells = tells;
      back = record {
        tape = tape_is_in (view closed) (subst IsSize (sym same) size) ∙ closes.tape;
        faults = closes.faults;
        before = closes.devices_before;
        after = ap (λ g. after_now ++ guest_devices g) took ∙ closes.devices_after;
        guest = ap asks_last took ∙ closes.guest_is;
        aside = λ off. put ∙ took_no_part order.guest guest back alone off;
      };
      plain = plain_run order.plan v.state ran.events w.state chain;
      stops = λ told.
          still (view medium).moment w.moment (view closed).moment (view medium).left_since w.left_since (view closed).left_since (LeftWithin ran.events w.state) closes.moment closes.since
          (after_still (view medium).moment v.moment w.moment (view medium).left_since v.left_since w.left_since (LeftWithin ran.events w.state) opens.moment opens.since (a.stops told));
      size = subst IsSize (sym same) size;
      images = record {
        same = closes.inside ∙ a.images.same ∙ opens.inside;
        others = λ name s inside told.
            let there = a.images.others name s (opens.inside ∙ inside) (opens.images ∙ told) in
            (there.0, closes.shelf ∙ there.1, there.2);
      };
    }

-- the same of a rig: a second controller that takes no part was kept aside, and was put back into the rig that the host handed back
pub answers_over_rig : {M S K I : Type 0} {D : I → Type 0} (view : M → MediumView) (left : S → Option (List ℕ)) (written : K → Option (List ℕ)) (state : DynBox I Global D → DeviceState)
    (order : Order) (script script_now : S) (out out_now : K) (rig closed put : Rig M I D) (within aside : Option GuestState) (v w : HostView) (e : Ending) (plan : List Planned)
    → within ≡ taking_part order.guest rig.guest → aside ≡ taking_part (not order.guest) rig.guest → put ≡ record closed { guest = option_or aside closed.guest }
    → plan ≡ order.plan → IsOpened view rig.medium (map state rig.before.items) (map state rig.after.items) within plan v → IsHost v → IsSize (view rig.medium).record_count
    → AnswersScript order.generated e (mode_of order) v w (left script) (left script_now) (written out) (written out_now)
    → IsClosed view w closed.medium (map state closed.before.items) (map state closed.after.items) closed.guest → (view closed.medium).record_count ≡ w.state.records
    → AnswersOver order (end_of e) (view rig.medium) (view put.medium) (outside_of view left written state script out rig) (outside_of view left written state script_now out_now put)
answers_over_rig {M} {S} {K} {I} {D} view left written state order script script_now out out_now rig closed put within aside v w e plan took kept is planned opens host size a closes count =
    subst (λ (r : Rig M I D). AnswersOver order (end_of e) (view rig.medium) (view r.medium) (outside_of view left written state script out rig) (outside_of view left written state script_now out_now r)) (sym is)
    (answers_over view order rig.medium closed.medium (map state rig.before.items) (map state rig.after.items) (map state closed.before.items) (map state closed.after.items) rig.guest closed.guest
    (option_or aside closed.guest) v w e (left script) (left script_now) (written out) (written out_now) plan planned
    (subst (λ guest. IsOpened view rig.medium (map state rig.before.items) (map state rig.after.items) guest plan v) took opens) host size a closes count
    (ap (λ g. option_or g closed.guest) kept))

-- a tape is in, and so the insert did not fail
pub not_failed : (e : Ending) (order : Option Order) (refused : List ℕ → Option ℕ → Type 0) → (HasNoTape (end_of e) → ⊥) → FailsBy (end_of e) order refused
not_failed ending.InsertFailed order refused inside = absurd (inside tt)
not_failed ending.AllOk order refused inside = tt
not_failed ending.SomeNotOk order refused inside = tt
not_failed ending.BadWords order refused inside = tt
not_failed ending.NoImage order refused inside = tt
not_failed ending.ImageTooLarge order refused inside = tt
not_failed ending.SourceFailed order refused inside = tt
not_failed ending.SinkFailed order refused inside = tt
not_failed ending.OutOfMemory order refused inside = tt
not_failed ending.ScriptTooLong order refused inside = tt

-- ---- the image that was inserted

-- by the medium v before the insert, in which no tape is, and m after it
module _ (order : Order) (made : New) (v m : MediumView) (makes : order.made ≡ records_made made) (empty : v.record_count ≡ 0) (law : IsMedium v) (law_now : IsMedium m) (did : DidInsert order.image made v m (Ok answers.Tape)) where
  inserted : (tape : Option Tape) → tape ≡ m.tape → (old : Outside) → old.shelf ≡ v.shelf → Inserts order old tape
  inserted tape is old same = record {
    reads_as = λ shelf told. let took = did.answer_is.1 shelf (sym same ∙ told) in
        (took.content, is ∙ took.tape_is, ap (λ n. insert_of (image_of order.image shelf) n) makes ∙ took.inserted_is);
  }

  -- a stop before the insert leaves no tape
  left_in : (x : Tape) → (v.left_since v.moment x → ⊥) → m.left_since v.moment x → m.tape ≡ Some x
  left_in x never left = ⊎_elim (λ was. absurd (never was)) (λ is. is) (did.since v.moment x left)

  -- after the insert the image has the tape's bytes, and every other one is as before
  keeps_shelf : (w : MediumView) → IsMedium w → IsSize w.record_count → KeepsImages m.inside w.inside m.shelf w.shelf
      → (left left_now written written_now : Option (List ℕ)) (before after before_now after_now : List DeviceState) (guest guest_now : Option GuestState)
      → KeepsShelf order (outside v left written before after guest) (outside w left_now written_now before_now after_now guest_now)
  keeps_shelf w law_then size images left left_now written written_now before after before_now after_now guest guest_now shelf told =
      let took = did.answer_is.1 shelf told in
      let there = images.others order.image took.shelf took.inside_is took.shelf_is in
      record {
        shelf = there.0;
        shelf_is = there.1;
        image = λ t in_drive. law_then.is_image there.0 order.image t there.1 (images.same ∙ took.inside_is) (sym (tape_is_in w size) ∙ in_drive);
        others = λ other differs. there.2 other differs ∙ took.others other differs;
      }

  -- and then the script was answered
  pub runs_over : (e : RunEnd) (w : MediumView) (left left_now written written_now : Option (List ℕ)) (before after before_now after_now : List DeviceState) (guest guest_now : Option GuestState) → IsMedium w
      → AnswersOver order e m w (outside m left written before after guest) (outside w left_now written_now before_now after_now guest_now)
      → RunsOver e order (outside v left written before after guest) (outside w left_now written_now before_now after_now guest_now) (MayHaveLeft v w)
  runs_over e w left left_now written written_now before after before_now after_now guest guest_now law_then a = record {
    start = a.start;
    finish = a.finish;
    opens = record {
      tape = m.tape;
      inserts = inserted m.tape refl (outside v left written before after guest) refl;
      records = m.record_count;
      size = did.answer_is.0;
      is_tape = law_now.is_tape;
      fresh = a.fresh
          ∙ ap (λ n. fresh_host m.tape m.record_count n before (after ++ guest_devices (taking_part order.guest guest)) (asks_last (taking_part order.guest guest))) did.goes_on.cause;
    };
    ran = a.ran;
    tells = a.tells;
    back = record { tape = a.back.tape; faults = a.back.faults; before = a.back.before; after = a.back.after; guest = a.back.guest; aside = a.back.aside };
    plain = a.plain;
    stops = λ told x left.
        let ran = a.stops told in
        ⊎_elim
        (λ was. left_before order.plan a.start a.ran.events a.finish x a.ran.chain (ap (λ (s : HostState). s.tape) a.fresh ∙ left_in x left.0 was))
        (λ now. now)
        (ran.earlier v.moment x did.goes_on.later left.1);
    shelf = keeps_shelf w law_then a.size a.images left left_now written written_now before after before_now after_now guest guest_now;
  }

  -- or there was no memory for it, and the medium is as it was
  pub leaves_image : (w : MediumView) → w ≡ m → (left left_now written written_now : Option (List ℕ)) (before after before_now after_now : List DeviceState) (guest guest_now : Option GuestState)
      → left_now ≡ left → written_now ≡ written → before_now ≡ before → after_now ≡ after → guest_now ≡ guest
      → LeavesImage order (outside v left written before after guest) (outside w left_now written_now before_now after_now guest_now) (MayHaveLeft v w)
  leaves_image w same left left_now written written_now before after before_now after_now guest guest_now unread unwritten first last still_there =
      let tape : tape_in w ≡ m.tape = ap tape_in same ∙ tape_is_in m did.answer_is.0 in
      let size = subst (λ (w : MediumView). IsSize w.record_count) (sym same) did.answer_is.0 in
      let images = subst (λ (w : MediumView). KeepsImages m.inside w.inside m.shelf w.shelf) (sym same) (images_kept m.inside m.shelf) in
      record {
        untouched = record { left = unread; written = unwritten; before = first; after = last; guest = still_there };
        inserts = inserted (tape_in w) tape (outside v left written before after guest) refl;
        shelf = keeps_shelf w (subst IsMedium (sym same) law_now) size images left left_now written written_now before after before_now after_now guest guest_now;
        stops = λ told x left. tape ∙ left_in x left.0 (subst (λ (w : MediumView). w.left_since v.moment x) same left.1);
      }

  -- by the ending of what came after the insert
  by_ending : (e : Ending) (old now : Outside) (stopped : Tape → Type 0) → (HasNoTape (end_of e) → ⊥) → (e ≡ ending.OutOfMemory → LeavesImage order old now stopped)
      → (e ≢ ending.OutOfMemory → RunsOver (end_of e) order old now stopped) → LeavesBy (end_of e) (Some order) old now stopped
  by_ending ending.OutOfMemory old now stopped inside kept ran = inr (kept refl)
  by_ending ending.BadWords old now stopped inside kept ran = absurd (inside tt)
  by_ending ending.NoImage old now stopped inside kept ran = absurd (inside tt)
  by_ending ending.ImageTooLarge old now stopped inside kept ran = absurd (inside tt)
  by_ending ending.InsertFailed old now stopped inside kept ran = absurd (inside tt)
  by_ending _ old now stopped inside kept ran = ran (λ h. cc)

  pub leaves_inserted : (asked : Option Order) → Some order ≡ asked → (e : Ending) (old now : Outside) (stopped : Tape → Type 0) → (HasNoTape (end_of e) → ⊥)
      → (e ≡ ending.OutOfMemory → LeavesImage order old now stopped) → (e ≢ ending.OutOfMemory → RunsOver (end_of e) order old now stopped) → LeavesBy (end_of e) asked old now stopped
  leaves_inserted asked is e old now stopped inside kept ran = subst (λ (o : Option Order). LeavesBy (end_of e) o old now stopped) is (by_ending e old now stopped inside kept ran)
