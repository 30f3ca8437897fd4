-- What is said of an event holds whether the store counts as sound before and after it, or not, and whether the directory is kept, but
-- for where it is said of that.
use Rattle.std.proofs.Common.{◌≡◌, ◌∙◌, ℕ, Bool, true, false, not, List, refl, sym, subst}
use Rattle.lif_model.specs.Stops.{LeavesOnly}
use Rattle.lif_model.specs.Tape.{Tape}
use Rattle.il_script.specs.declared.reply.Reply.{Reply}
use Rattle.il_script.specs.declared.reply.Reply.TheVariants as reply
use Rattle.il_ring.specs.declared.plan.Planned.{Planned}
use Rattle.host_model.specs.Requests.{Asks, Item, OfVolume, is_of_volume, uses_frames}
use Rattle.host_model.specs.LoopStates.{all_roles, device_count}
use Rattle.host_model.specs.HostStates.{HostState}
use Rattle.host_model.specs.Courses.{begins_with, cleared_first}
use Rattle.host_model.specs.Replies.{reply_of, volume_behind}
use Rattle.host_model.specs.Next.{BoxedBecome}
use Rattle.host_model.specs.Stops.{MayBeLeft, StopsLeave}
use Rattle.host_model.specs.Steps.{Acts, CountsWhole, EitherVolume, Event, Exchanged, HearsLog, Lent, Replied, Travels, is_frame_fault}

-- a state, of a store that is sound or not, with a directory that is kept or not
abbrev pub state_standing : (sound kept : Bool) → HostState → HostState
state_standing sound kept s = record s { sound = sound; kept = kept }

-- an event, by what was and is
abbrev pub standing : Event → (was was_kept is is_kept : Bool) → Event
standing e was was_kept is is_kept = record e { before = state_standing was was_kept e.before; after = state_standing is is_kept e.after }

-- of a store that was sound or not, and is
abbrev pub sounding : Event → (was is : Bool) → Event
sounding e was is = standing e was e.before.kept is e.after.kept

-- of a directory that was kept or not, and is
abbrev pub keeping : Event → (was is : Bool) → Event
keeping e was is = standing e e.before.sound was e.after.sound is

-- ---- reply and volume

pub same_reply : (item : Item) (sound kept : Bool) (s : HostState) → reply_of item (state_standing sound kept s) ≡ reply_of item s
same_reply (Asks (OfVolume command)) sound kept s = refl
same_reply _ sound kept s = refl

same_behind : (item : Item) (sound kept : Bool) (s : HostState) → volume_behind item (state_standing sound kept s) ≡ volume_behind item s
same_behind (Asks (OfVolume command)) sound kept s = refl
same_behind _ sound kept s = refl

either_standing : (item : Item) (was was_kept is is_kept : Bool) (s t : HostState) → EitherVolume item s t → EitherVolume item (state_standing was was_kept s) (state_standing is is_kept t)
either_standing (Asks (OfVolume command)) was was_kept is is_kept s t either = either
either_standing _ was was_kept is is_kept s t either = either

counts_standing : (item : Item) (r : Reply) (was was_kept is is_kept : Bool) (s t : HostState) → CountsWhole item r s t → CountsWhole item r (state_standing was was_kept s) (state_standing is is_kept t)
counts_standing item reply.Ok was was_kept is is_kept s t counts = (counts.0 ∙ sym (same_reply item was was_kept s), counts.1 ∙ sym (same_behind item was was_kept s))
counts_standing item (reply.No code) was was_kept is is_kept s t counts = (counts.0 ∙ sym (same_reply item was was_kept s), counts.1 ∙ sym (same_behind item was was_kept s))
counts_standing item _ was was_kept is is_kept s t counts = λ own. either_standing item was was_kept is is_kept s t (counts own)

-- the devices of an event heard what its log brought them
abbrev pub HeardOf : Event → Type 0
HeardOf e = BoxedBecome (HearsLog (device_count e.before.loop) (all_roles e.before.loop) e.log (not (is_frame_fault e.reply))) e.before.loop e.after.loop

module _ (e : Event) (was was_kept is is_kept : Bool) where
  -- the reply
  replied_standing : Replied e → Replied (standing e was was_kept is is_kept)
  replied_standing so = record {
    may = so.may;
    whole = λ tells. counts_standing e.item e.reply was was_kept is is_kept e.before e.after (so.whole tells);
    stays = so.stays;
    told = so.told;
    size = so.size;
    gate = so.gate;
    foreign = so.foreign;
  }

  -- what the frames did
  travels_standing : Travels e → Travels (standing e was was_kept is is_kept)
  travels_standing so = record { one_talker = so.one_talker; commands = so.commands; roles = so.roles; crossings = so.crossings; frames = so.frames; guest = so.guest; short = so.short }

  -- the exchanges, but for those with which a command of the volume begins
  exchanged_standing : (plan : List Planned) (so : Exchanged plan e)
      → (is_of_volume e.item ≡ true → begins_with (cleared_first e.before.loop e.before.ready was) so.reading.pieces ≡ true)
      → Exchanged plan (standing e was was_kept is is_kept)
  exchanged_standing plan so begins = record {
    reading = so.reading;
    ends = so.ends;
    course = so.course;
    begins = begins;
    outside = so.outside;
    cause = so.cause;
    effect = so.effect;
    carried = so.carried;
  }

  -- a lend
  lent_standing : (plan : List Planned) (frames : ℕ) → Lent plan frames e → Lent plan frames (standing e was was_kept is is_kept)
  lent_standing plan frames so = record {
    front = so.front;
    reading = so.reading;
    addressed = so.addressed;
    lent = so.lent;
    ends = so.ends;
    log = so.log;
    lends = so.lends;
    begun = so.begun;
    cause = so.cause;
    untaken = so.untaken;
    unmet = so.unmet;
    faults = so.faults;
    told = so.told;
  }

-- ---- of a store that was sound or not, and is

module _ (e : Event) (was is : Bool) where
  pub replied_sounding : Replied e → Replied (sounding e was is)
  replied_sounding = replied_standing e was e.before.kept is e.after.kept

  pub travels_sounding : Travels e → Travels (sounding e was is)
  travels_sounding = travels_standing e was e.before.kept is e.after.kept

  -- of an item that is not of the volume
  pub exchanged_sounding : (plan : List Planned) → is_of_volume e.item ≡ false → Exchanged plan e → Exchanged plan (sounding e was is)
  exchanged_sounding plan other so = exchanged_standing e was e.before.kept is e.after.kept plan so (λ of. let clash : true ≡ false = sym of ∙ other in cc)

-- ---- of a directory that was kept or not, and is

-- an item that sends no frame leaves that as it is
pub acts_keeping : (plan : List Planned) (e : Event) (was is : Bool) → (uses_frames e.item ≡ false → is ≡ was) → Acts plan e → Acts plan (keeping e was is)
acts_keeping plan e was is stays so = record {
  replied = replied_standing e e.before.sound was e.after.sound is so.replied;
  next = so.next;
  travels = travels_standing e e.before.sound was e.after.sound is so.travels;
  heard = so.heard;
  exchanged = λ other. exchanged_standing e e.before.sound was e.after.sound is plan (so.exchanged other) (so.exchanged other).begins;
  lent = λ frames lends. lent_standing e e.before.sound was e.after.sound is plan frames (so.lent frames lends);
  by_plan = so.by_plan;
  ready = so.ready;
  controls = so.controls;
  clears = so.clears;
  sound = so.sound;
  unsound = so.unsound;
  still = λ none. let left = so.still none in (left.0, λ i. record (left.1 i) { kept = stays none i });
}

-- the tapes that a stop may leave tell nothing of it
left_keeping : (item : Item) (s : HostState) (kept : Bool) (x : Tape) → MayBeLeft item (record s { kept = kept }) x ≡ MayBeLeft item s x
left_keeping (Asks (OfVolume command)) s kept x = refl
left_keeping _ s kept x = refl

pub stops_keeping : (e : Event) (was is : Bool) (before now : ℕ) (past since : ℕ → Tape → Type 0) → StopsLeave e before now past since → StopsLeave (keeping e was is) before now past since
stops_keeping e was is before now past since so = λ told. subst (λ (P : Tape → Type 0). LeavesOnly before now past since P) (λ i x. sym (left_keeping e.item e.before was x) i) (so told)
