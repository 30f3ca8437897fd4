-- What a command of the volume replies, and what a power stop leaves within it, by what the volume says of its store.
use Rattle.std.proofs.Common.{◌≡◌, ◌∙◌, ◌⊎◌, ⊎_elim, inl, inr, ℕ, Bool, true, false, List, Option, Some, None, is_some, refl, sym, ap, ap₂, subst}
use Rattle.std.specs.Prelude.{Ok, Err, option_and_then, IfSome, Result}
use Rattle.lif_model.specs.Tape.{Tape}
use Rattle.lif_model.specs.Volume.{is_foreign_gated}
use Rattle.lif_model.specs.Packing.{finished_volume_of}
use Rattle.lif_model.specs.Apply.{VolumeCommand, apply}
use Rattle.lif_model.specs.declared.refusal.Refusal.{Refusal}
use Rattle.lif_model.proofs.Moments.{after_still, started, still, weaker}
use Rattle.lif_model.specs.Commit.{SettlesAs}
use Rattle.lif_model.specs.Redo.{settled}
use Rattle.lif_model.specs.Stops.{LeavesOnly}
use Rattle.il_frames.specs.declared.entry.Entry.{Entry}
use Rattle.il_ports.specs.Media.{MediumView}
use Rattle.il_ports.specs.Stores.{IsQuiet, IsStore, RecordsView, RunLeaves}
use Rattle.il_ports.specs.declared.records.Trouble.{Trouble}
use Rattle.il_ports.specs.declared.records.Trouble.TheVariants as trouble
use Rattle.il_drive.specs.Steps.{IsStill}
use Rattle.il_ring.specs.Rings.{RingView}
use Rattle.il_record.specs.declared.records.Since.TheVariants as since
use Rattle.il_record.specs.LoopStores.{LoopView, StandsBy, view_of}
use Rattle.il_record.proofs.StoreStarts.{still_of}
use Rattle.il_script.specs.declared.reply.Reply.{Reply}
use Rattle.il_script.specs.declared.reply.Reply.TheVariants as reply
use Rattle.il_script.specs.Replies.{code_of}
use Rattle.lif_volume.specs.Answers.{HasVolumeOf}
use Rattle.lif_volume.specs.Changing.{HasEitherVolume, SettlesForeign, TurnsVolume, VolumeTurns}
use Rattle.lif_volume.specs.Commands.{VolumeStays, SettlesOnly, IsTold}
use Rattle.lif_volume.specs.Did.{Reads}
use Rattle.lif_volume.specs.Views.{VolumeView}
use Rattle.lif_volume.specs.declared.fault.VolumeFault.{VolumeFault}
use Rattle.lif_volume.specs.declared.fault.VolumeFault.TheVariants.{Refused, Trouble as Troubled}
use Rattle.host_model.specs.Requests.{Asks, Item, OfVolume, is_of_volume, uses_frames}
use Rattle.host_model.specs.HostStates.{HasOwnGate, HostState, volume_at}
use Rattle.host_model.specs.Replies.{refused_as, reply_of, volume_behind}
use Rattle.host_model.specs.Steps.{CountsWhole, EitherVolume, Event, MayReply, Replied, event, SettlesAlike}
use Rattle.host_model.specs.Stops.{IsLeft, MayBeLeft, StopsLeave}
use Rattle.host_model.proofs.Growing.{left_at_first}
use Rattle.host_model.proofs.Steps.{alike, alike_staying}
use Rattle.il_host.specs.Standings.{FitsAnswer, MakesSound, fault_of, state_at}
use Rattle.il_host.proofs.VolumeStarts.{made_sound, start_broke}

-- ---- a state and a store

-- the state has the tape of the store
pub record IsSeenAs {S : Type 0} (s : HostState) (v : RecordsView S) : Type 0 where
  pub tape : s.tape ≡ v.tape
  pub records : s.records ≡ v.record_count

-- that of a store over the loop
pub seen_as : {M S : Type 0} (view : M → MediumView) (seen : S → RingView M) (p : S) (l : LoopView M) → IsSeenAs (state_at view l) (view_of view seen p l)
seen_as view seen p l = record { tape = refl; records = refl }

-- and still, where no record changed
pub seen_still : {S : Type 0} (s : HostState) (v w : RecordsView S) → IsSeenAs s v → IsQuiet v w → w.record_count ≡ v.record_count → IsSeenAs s w
seen_still s v w so quiet size = record { tape = so.tape ∙ sym quiet.tape; records = so.records ∙ sym size }

-- one quiet step after the other
pub quiet_then : {S : Type 0} (u v w : RecordsView S) → IsQuiet u v → IsQuiet v w → IsQuiet u w
quiet_then u v w first next = record {
  tape = next.tape ∙ first.tape;
  moment = next.moment ∙ first.moment;
  since = record { nothing_else = λ m c left. first.since.nothing_else m c (next.since.nothing_else m c left); keeps = λ m c left. next.since.keeps m c (first.since.keeps m c left) };
}

-- ---- the store is made sound

-- no record changes, and no time goes by
pub record StaysQuiet {S : Type 0} (v w : RecordsView S) : Type 0 where
  pub quiet : IsQuiet v w
  pub size : w.record_count ≡ v.record_count

module _ {M S : Type 0} (view : M → MediumView) (seen : S → RingView M) (p q : S) (old new : LoopView M) where
  pub quiet_rings : IsStill (view old.ring.drive.medium) (view new.ring.drive.medium) → StaysQuiet (view_of view seen p old) (view_of view seen q new)
  quiet_rings so = record { quiet = record { tape = so.tape; moment = so.moment; since = so.since }; size = so.stays_in.size }

  module _ (stands : StandsBy old.ready old.ring old.sound since.Unbroken) where
    -- with ok
    pub made_quiet : {T : Type 0} (x : T) → old.since ≡ since.Unbroken → MakesSound view old new (Ok x) → StaysQuiet (view_of view seen p old) (view_of view seen q new)
    made_quiet x unbroken makes = quiet_rings (still_of view old.ring new.ring (made_sound view old new unbroken x stands makes).started.medium)

    -- with an error
    pub broke_quiet : (T : Type 0) (e : Trouble) → MakesSound {T = T} view old new (Err e) → StaysQuiet (view_of view seen p old) (view_of view seen q new)
    broke_quiet T e makes = quiet_rings (start_broke T view old new e stands makes).2.drive.still

-- ---- the store could not be made sound

-- a command of the volume with its reply
abbrev volume_event : VolumeCommand → Reply → List Entry → HostState → HostState → Event
volume_event command answered log s t = event (Asks (OfVolume command)) answered log s t

module _ {S : Type 0} (item : Item) (v w : RecordsView S) (s t : HostState) (log : List Entry) (before : IsSeenAs s v) (after : IsSeenAs t w) (still_so : StaysQuiet v w) where
  pub tape_still : t.tape ≡ s.tape
  tape_still = after.tape ∙ still_so.quiet.tape ∙ sym before.tape

  -- the tape is as it was
  pub item_broke : is_of_volume item ≡ true → uses_frames item ≡ true → EitherVolume item s t → Replied (event item reply.FaultFrame log s t)
  item_broke of frames same = record {
    may = frames;
    whole = λ tells own. same;
    stays = λ other. let clash : true ≡ false = sym of ∙ other in cc;
    told = ap (λ tape. is_some tape) tape_still;
    size = after.records ∙ still_so.size ∙ sym before.records;
    gate = λ own. subst (λ tape. IfSome tape (λ x. is_foreign_gated x ≡ false)) (sym tape_still) own;
    foreign = subst (λ tape. IfSome tape (SettlesAlike s.tape)) (sym tape_still) (alike_staying s.tape);
  }

pub broke_replied : {S : Type 0} (command : VolumeCommand) (v w : RecordsView S) (s t : HostState) (log : List Entry) → IsSeenAs s v → IsSeenAs t w → StaysQuiet v w → Replied (volume_event command reply.FaultFrame log s t)
broke_replied command v w s t log before after still_so =
    item_broke (Asks (OfVolume command)) v w s t log before after still_so refl refl
    (inl (ap (λ tape. option_and_then finished_volume_of tape) (tape_still (Asks (OfVolume command)) v w s t log before after still_so)))

-- ---- stops

-- what is told of a tape
pub told_tape : (tape : Option Tape) → is_some tape ≡ true → (x : Tape) × (tape ≡ Some x)
told_tape None told = cc
told_tape (Some x) told = (x, refl)

-- a stop leaves the tape as it was
pub broke_stops : {S : Type 0} (item : Item) (answered : Reply) (v w : RecordsView S) (s t : HostState) (log : List Entry) → IsSeenAs s v → IsStore v → IsQuiet v w
    → StopsLeave (event item answered log s t) v.moment w.moment v.left_since w.left_since
broke_stops item answered v w s t log before store quiet told =
    let tape = told_tape s.tape told in
    still v.moment v.moment w.moment v.left_since v.left_since w.left_since (MayBeLeft item s) quiet.moment quiet.since
    (started v.moment v.left_since (MayBeLeft item s) tape.0 (λ c left. store.leaves_only tape.0 c (sym before.tape ∙ tape.1) left) (left_at_first item s tape.0 tape.1))

-- ---- the volume was asked

-- x is shown with the volume that t is shown with before the command, or the one after it, and has no gate that is not ours
pub record ShowsEither (n : ℕ) (command : VolumeCommand) (t x : Tape) : Type 0 where
  pub volume : (finished_volume_of x ≡ finished_volume_of t) ⊎ (finished_volume_of x ≡ (apply n command (finished_volume_of t)).1)
  pub own_gate : is_foreign_gated x ≡ false

-- at any moment, and after the call
pub record ShownTurns {S : Type 0} (n : ℕ) (command : VolumeCommand) (v w : RecordsView S) (t : Tape) : Type 0 where
  pub stops : RunLeaves v w (ShowsEither n command t)
  pub after : (u : Tape) × (w.tape ≡ Some u) × ShowsEither n command t u

-- what a command leaves of the volume's store: of a tape whose open redo is ours, and of one whose redo is not
abbrev pub TurnsSo : {R S : Type 0} → VolumeCommand → (R → RecordsView S) → (old new : VolumeView R) → Type 0
TurnsSo command view old new =
    ((t : Tape) → IsTold view old t → is_foreign_gated t ≡ false → ShownTurns (view old.records).record_count command (view old.records) (view new.records) t)
    × ((t : Tape) → IsTold view old t → is_foreign_gated t ≡ true → SettlesOnly (view old.records) (view new.records) t)

-- the answer and the volume after it are those of the command
abbrev pub AnswersShown : {T : Type 0} → ℕ → VolumeCommand → Tape → Tape → Result T VolumeFault → Type 0
AnswersShown n command t u (Ok x) = apply n command (finished_volume_of t) ≡ (None, finished_volume_of u)
AnswersShown n command t u (Err (Refused why)) = apply n command (finished_volume_of t) ≡ (Some why, finished_volume_of u)
AnswersShown n command t u (Err (Troubled e)) = Unit {0}

abbrev pub AnswersSo : {R S T : Type 0} → VolumeCommand → (R → RecordsView S) → (old new : VolumeView R) → Result T VolumeFault → Type 0
AnswersSo command view old new answer = (t u : Tape) → IsTold view old t → IsTold view new u → AnswersShown (view old.records).record_count command t u answer

-- a command that changes no volume turns it into none but itself
stays_turn : {S : Type 0} (n : ℕ) (command : VolumeCommand) (v w : RecordsView S) (x : Tape) → VolumeStays v w x → VolumeTurns n command v w x
stays_turn n command v w x so = record {
  stops = weaker v.moment w.moment v.left_since w.left_since (HasEitherVolume n command x) (HasVolumeOf x) so.stops (λ c has. record { records = has.records; volume = inl has.volume; own_gate = has.own_gate });
  after = (so.after.0, so.after.1, record { records = so.after.2.records; volume = inl so.after.2.volume; own_gate = so.after.2.own_gate });
}

pub reads_turn : {R S T : Type 0} (command : VolumeCommand) (view : R → RecordsView S) (old new : VolumeView R) (answer : Result T VolumeFault) → Reads command view old new answer
    → TurnsVolume command view old new × SettlesForeign view old new
reads_turn command view old new answer did = (
  λ t told own. stays_turn (view old.records).record_count command (view old.records) (view new.records) t (did.stays t told own),
  λ t told held. did.settling t told,
)

-- ok or a refusal fits a store that did not fail, and a fault the trouble that the store had
pub fits_refused : {T : Type 0} (x : T) (refusal : Option Refusal) → FitsAnswer (Ok x) (refused_as refusal)
fits_refused x None = refl
fits_refused x (Some why) = refl

pub fits_fault : (T : Type 0) (e : Trouble) → FitsAnswer {T = T} (Err e) (fault_of e)
fits_fault T trouble.Frame = refl
fits_fault T trouble.Medium = refl

-- ---- an item of the volume, of which a stop leaves a tape that stands so to the one before

-- at any moment, and after the call
pub record LeavesBy {S : Type 0} (Left : Tape → Type 0) (v w : RecordsView S) : Type 0 where
  pub stops : RunLeaves v w Left
  pub after : (u : Tape) × (w.tape ≡ Some u) × Left u

module _ {S : Type 0} (item : Item) (of : is_of_volume item ≡ true) (v w : RecordsView S) (s t : HostState) (log : List Entry) (before : IsSeenAs s v) (after : IsSeenAs t w)
    (By : Tape → Type 0) (is_left : (c : Tape) → IsLeft s.tape c (By c) → MayBeLeft item s c)
    (Left : Tape → Tape → Type 0) (by_left : (x c : Tape) → s.tape ≡ Some x → Left x c → By c) (own_left : (x c : Tape) → Left x c → is_foreign_gated c ≡ false)
    (leaves_by : (x : Tape) → v.tape ≡ Some x → is_foreign_gated x ≡ false → LeavesBy (Left x) v w)
    (foreign : (x : Tape) → v.tape ≡ Some x → is_foreign_gated x ≡ true → SettlesOnly v w x) where
  own_gate : (x : Tape) → s.tape ≡ Some x → HasOwnGate s → is_foreign_gated x ≡ false
  own_gate x is own = subst (λ tape. IfSome tape (λ x. is_foreign_gated x ≡ false)) is own

  pub turned : (x : Tape) → s.tape ≡ Some x → HasOwnGate s → LeavesBy (Left x) v w
  turned x is own = leaves_by x (sym before.tape ∙ is) (own_gate x is own)

  -- what a stop leaves, by the tape before
  turned_left : (x c : Tape) → s.tape ≡ Some x → Left x c → is_foreign_gated x ≡ false → MayBeLeft item s c
  turned_left x c is has own = is_left c (record {
    own = λ gate. (by_left x c is has, own_left x c has);
    foreign = λ t was held.
        let clash : true ≡ false = sym held ∙ subst (λ tape. IfSome tape (λ t. is_foreign_gated t ≡ false)) (sym is ∙ was) own in
        cc;
  })

  settled_left : (x c : Tape) → s.tape ≡ Some x → SettlesAs (settled x) c → is_foreign_gated x ≡ true → MayBeLeft item s c
  settled_left x c is so held = is_left c (record {
    own = λ gate. let clash : true ≡ false = sym held ∙ subst (λ tape. IfSome tape (λ t. is_foreign_gated t ≡ false)) is gate in cc;
    foreign = alike x c is so;
  })

  leaves : (x : Tape) → s.tape ≡ Some x → LeavesOnly v.moment w.moment v.left_since w.left_since (MayBeLeft item s)
  leaves x is = by (is_foreign_gated x) refl
    where
      by : (held : Bool) → is_foreign_gated x ≡ held → LeavesOnly v.moment w.moment v.left_since w.left_since (MayBeLeft item s)
      by false own = weaker v.moment w.moment v.left_since w.left_since (MayBeLeft item s) (Left x)
          (leaves_by x (sym before.tape ∙ is) own).stops (λ c has. turned_left x c is has own)
      by true held = weaker v.moment w.moment v.left_since w.left_since (MayBeLeft item s) (SettlesAs (settled x))
          (foreign x (sym before.tape ∙ is) held).stops (λ c so. settled_left x c is so held)

  -- where an open redo would overwrite a file that is not ours, the tape settles as before
  foreign_now : IfSome t.tape (SettlesAlike s.tape)
  foreign_now = by t.tape refl
    where
      by : (tape : Option Tape) → t.tape ≡ tape → IfSome tape (SettlesAlike s.tape)
      by None is = tt
      by (Some y) is = λ x was held.
          let so = (foreign x (sym before.tape ∙ was) held).after in
          subst (λ tape. IfSome tape (SettlesAs (settled x))) (sym (sym is ∙ after.tape ∙ so.1)) so.2

  -- A stop leaves what it may. No time went by from the moment at which the store stood as u.
  pub item_stops : (answered : Reply) (u : RecordsView S) → IsQuiet u v → StopsLeave (event item answered log s t) u.moment w.moment u.left_since w.left_since
  item_stops answered u quiet told =
      let tape = told_tape s.tape told in
      after_still u.moment v.moment w.moment u.left_since v.left_since w.left_since (MayBeLeft item s) quiet.moment quiet.since
      (leaves tape.0 tape.1)

  module _ (told_so : is_some w.tape ≡ is_some v.tape) (size : w.record_count ≡ v.record_count) where
    pub told_now : is_some t.tape ≡ is_some s.tape
    told_now = ap (λ tape. is_some tape) after.tape ∙ told_so ∙ ap (λ tape. is_some tape) (sym before.tape)

    gate_now : HasOwnGate s → HasOwnGate t
    gate_now own = by s.tape refl
      where
        none_now : (tape : Option Tape) → is_some tape ≡ false → IfSome tape (λ x. is_foreign_gated x ≡ false)
        none_now None none = tt
        none_now (Some x) none = cc

        by : (tape : Option Tape) → s.tape ≡ tape → HasOwnGate t
        by None is = none_now t.tape (told_now ∙ ap (λ tape. is_some tape) is)
        by (Some x) is =
            let so = (turned x is own).after in
            subst (λ tape. IfSome tape (λ x. is_foreign_gated x ≡ false)) (sym (after.tape ∙ so.1)) (own_left x so.0 so.2)

    -- by the reply
    pub item_replied : (answered : Reply) → MayReply item answered → (is_some s.tape ≡ true → CountsWhole item answered s t) → Replied (event item answered log s t)
    item_replied answered may whole = record {
      may = may;
      whole = λ tells. whole (tells of);
      stays = λ other. let clash : true ≡ false = sym of ∙ other in cc;
      told = told_now;
      size = after.records ∙ size ∙ sym before.records;
      gate = gate_now;
      foreign = foreign_now;
    }

-- ---- a command of the volume

module _ {S : Type 0} (command : VolumeCommand) (v w : RecordsView S) (s t : HostState) (log : List Entry) (before : IsSeenAs s v) (after : IsSeenAs t w)
    (turns : (x : Tape) → v.tape ≡ Some x → is_foreign_gated x ≡ false → ShownTurns v.record_count command v w x)
    (foreign : (x : Tape) → v.tape ≡ Some x → is_foreign_gated x ≡ true → SettlesOnly v w x) where
  -- in the words of the state
  behind_is : (x : Tape) → s.tape ≡ Some x → (apply v.record_count command (finished_volume_of x)).1 ≡ volume_behind (Asks (OfVolume command)) s
  behind_is x is = ap₂ (λ n tape. (apply n command (option_and_then finished_volume_of tape)).1) (sym before.records) (sym is)

  volume_is : (x : Tape) → s.tape ≡ Some x → finished_volume_of x ≡ volume_at s
  volume_is x is = ap (λ tape. option_and_then finished_volume_of tape) (sym is)

  abbrev Either : Tape → Type 0
  Either c = (finished_volume_of c ≡ volume_at s) ⊎ (finished_volume_of c ≡ volume_behind (Asks (OfVolume command)) s)

  abbrev Left : Tape → Tape → Type 0
  Left x c = ShowsEither v.record_count command x c

  either_left : (x c : Tape) → s.tape ≡ Some x → Left x c → Either c
  either_left x c is has = ⊎_elim (λ same. inl (same ∙ volume_is x is)) (λ other. inr (other ∙ behind_is x is)) has.volume

  leaves_either : (x : Tape) → v.tape ≡ Some x → is_foreign_gated x ≡ false → LeavesBy (Left x) v w
  leaves_either x is own = let so = turns x is own in record { stops = so.stops; after = so.after }

  -- A stop leaves the volume before the command or the one after it.
  pub volume_stops : (answered : Reply) (u : RecordsView S) → IsQuiet u v → StopsLeave (volume_event command answered log s t) u.moment w.moment u.left_since w.left_since
  volume_stops = item_stops (Asks (OfVolume command)) refl v w s t log before after Either (λ c so. so) Left either_left (λ x c has. has.own_gate) leaves_either foreign

  either_now : (u : Tape) → t.tape ≡ Some u → Either u → EitherVolume (Asks (OfVolume command)) s t
  either_now u is so =
      let now : volume_at t ≡ finished_volume_of u = ap (λ tape. option_and_then finished_volume_of tape) is in
      ⊎_elim (λ same. inl (now ∙ same)) (λ other. inr (now ∙ other)) so

  -- the volume is the one before or the one after
  either : HasOwnGate s → is_some s.tape ≡ true → EitherVolume (Asks (OfVolume command)) s t
  either own told =
      let tape = told_tape s.tape told in
      let so = (turned (Asks (OfVolume command)) refl v w s t log before after Either (λ c so. so) Left either_left (λ x c has. has.own_gate) leaves_either foreign tape.0 tape.1 own).after in
      either_now so.0 (after.tape ∙ so.1) (either_left tape.0 so.0 tape.1 so.2)

  module _ (told_so : is_some w.tape ≡ is_some v.tape) (size : w.record_count ≡ v.record_count) where
    by_reply : (answered : Reply) → MayReply (Asks (OfVolume command)) answered → (is_some s.tape ≡ true → CountsWhole (Asks (OfVolume command)) answered s t) → Replied (volume_event command answered log s t)
    by_reply = item_replied (Asks (OfVolume command)) refl v w s t log before after Either (λ c so. so) Left either_left (λ x c has. has.own_gate) leaves_either foreign told_so size

    -- what the volume answered, where it did not fail
    counted : (refusal : Option Refusal) → ((x y : Tape) → v.tape ≡ Some x → w.tape ≡ Some y → apply v.record_count command (finished_volume_of x) ≡ (refusal, finished_volume_of y)) → is_some s.tape ≡ true
        → (refused_as refusal ≡ reply_of (Asks (OfVolume command)) s) × (volume_at t ≡ volume_behind (Asks (OfVolume command)) s)
    counted refusal answers told =
        let x = told_tape s.tape told in
        let y = told_tape t.tape (told_now (Asks (OfVolume command)) refl v w s t log before after Either (λ c so. so) Left either_left (λ x c has. has.own_gate) leaves_either foreign told_so size ∙ told) in
        let applied : apply s.records command (volume_at s) ≡ (refusal, volume_at t) =
        ap₂ (λ n tape. apply n command (option_and_then finished_volume_of tape)) before.records x.1
        ∙ answers x.0 y.0 (sym before.tape ∙ x.1) (sym after.tape ∙ y.1) ∙ ap (λ tape. (refusal, option_and_then finished_volume_of tape)) (sym y.1) in
        (sym (ap (λ p. refused_as p.0) applied), sym (ap (λ p. p.1) applied))

    -- The store did not fail: it is ok, or a refusal of the command, as the definitions have it.
    pub volume_answered : (refusal : Option Refusal) → ((x y : Tape) → v.tape ≡ Some x → w.tape ≡ Some y → apply v.record_count command (finished_volume_of x) ≡ (refusal, finished_volume_of y)) → Replied (volume_event command (refused_as refusal) log s t)
    volume_answered None answers = by_reply reply.Ok tt (counted None answers)
    volume_answered (Some why) answers = by_reply (reply.No (code_of why)) tt (counted (Some why) answers)

    -- It failed.
    pub volume_troubled : (e : Trouble) → Replied (volume_event command (fault_of e) log s t)
    volume_troubled trouble.Frame = by_reply reply.FaultFrame refl (λ told own. either own told)
    volume_troubled trouble.Medium = by_reply reply.FaultMedium refl (λ told own. either own told)
