-- What a round keeps on a ring with a second controller: which device is which, who listens and the places in the poll.
use Rattle.std.proofs.Common.{◌≡◌, ◌≤◌, ◌+◌, ◌++◌, ◌==◌, ℕ, Bool, true, false, List, [], ◌∷◌, Option, Some, None, length, refl, sym, ap, subst, ◌∙◌, arith, append_assoc}
use Rattle.std.specs.Prelude.{if◌then◌else◌}
use Rattle.il_frames.specs.declared.frame.Frame.{Frame}
use Rattle.il_frames.specs.declared.message.Message.{Message}
use Rattle.il_frames.specs.declared.message.Message.TheVariants as msg
use Rattle.il_frames.specs.Frames.{is_data}
use Rattle.il_frames.specs.Messages.{message_of}
use Rattle.il_frames.specs.NamedFrames.{is_ifc}
use Rattle.il_device.specs.declared.device.Out.{Out}
use Rattle.il_device.specs.declared.device.Out.TheVariants as device
use Rattle.il_device.specs.declared.roles.Roles.{Roles}
use Rattle.il_device.specs.Roles.{is_own, roles_after, takes_address}
use Rattle.il_device.specs.State.{DeviceState, risen}
use Rattle.il_device.specs.Takes.{Takes}
use Rattle.il_drive.specs.State.{device_of}
use Rattle.il_ports.specs.Media.{MediumView}
use Rattle.il_guest.specs.declared.control.Command.TheVariants as command
use Rattle.il_guest.specs.declared.control.Control.{Control}
use Rattle.il_guest.specs.declared.control.Control.TheVariants as control
use Rattle.il_guest.specs.declared.control.Place.{Place}
use Rattle.il_guest.specs.declared.control.Place.TheVariants as place
use Rattle.il_guest.specs.declared.guest.GuestOut.{GuestOut}
use Rattle.il_guest.specs.Frames.{tct}
use Rattle.il_guest.specs.State.{GuestState, is_leading, roles_in_lead}
use Rattle.il_guest.specs.Steps.{IsControl, sent_at}
use Rattle.il_guest.specs.Takes.{GuestTakes, device_led, guest_under, takes_control}
use Rattle.il_guest.proofs.GuestLaws.{goes-device, goes-on, passes-host, passes-ifc, takes-it}
use Rattle.il_guest.proofs.SentLemmas.{message_of-sent, said_at}
use Rattle.loop_model.proofs.RoleSteps.{changes_roles}
use Rattle.il_ring.specs.declared.flight.Flight.{Flight}
use Rattle.il_ring.specs.declared.plan.Arrival.{Arrival}
use Rattle.il_ring.specs.declared.plan.Planned.{Planned}
use Rattle.il_ring.specs.Books.{BooksView}
use Rattle.il_ring.specs.Flights.{hit, sourced}
use Rattle.il_ring.specs.Guests.{guest_devices, guest_mind, last_asked}
use Rattle.il_ring.specs.Journeys.{Trip, Journey, Passage, trip_of}
use Rattle.il_ring.specs.ControlledAdds.{ControlledKeeps}
use Rattle.il_ring.specs.Lending.{GuestReaches, LastPassage, ControlledRound, ControlledTrip, books_controlled, leads, controlled_home, over_lent_link}
use Rattle.il_ring.specs.Lists.{Each, First}
use Rattle.il_ring.specs.Outcomes.{AllKeep, IsDeaf, Keeps}
use Rattle.il_ring.specs.Plans.{next_fault}
use Rattle.il_ring.specs.Polls.{KeepsPlace, is_listen_address, is_poll}
use Rattle.il_ring.specs.Rings.{RingView, Round, comes, devices_of, over_last_link}
use Rattle.il_ring.proofs.Handing.{NeverMade, OnWay, hit_lacks, journey_lacks, never_kind, passage_lacks}
use Rattle.il_ring.proofs.Journeys.{past_devices, past_guest, past_party}
use Rattle.il_ring.proofs.Kept.{stays_keeps, takes_keeps}
use Rattle.il_ring.proofs.ControlledRounds.{controlled_to_last}
use Rattle.il_ring.proofs.Rings.{Journey-length}
use Rattle.il_ring.proofs.RoundCounts.{round_journey}
use Rattle.il_ring.proofs.RoundPlaces.{place_kept}

-- ---- messages

-- one that is no listen address has nobody listen
pub deaf_after : (m : Message) (r : Roles) → is_listen_address m ≡ false → r.listens ≡ false → (roles_after r m).listens ≡ false
deaf_after msg.Ifc r none deaf = refl
deaf_after msg.Aau r none deaf = refl
deaf_after (msg.Aad a) r none deaf = by_test (takes_address r.address a)
  where
    by_test : (takes : Bool) → (if takes then record r { address = Some a } else r).listens ≡ false
    by_test true = deaf
    by_test false = deaf
deaf_after (msg.Tad a) r none deaf = by_test (is_own r.address a)
  where
    by_test : (own : Bool) → (if own then record r { talks = true; listens = false } else record r { talks = false }).listens ≡ false
    by_test true = refl
    by_test false = deaf
deaf_after msg.Unt r none deaf = deaf
deaf_after (msg.Lad a) r none deaf = cc
deaf_after msg.Unl r none deaf = refl
deaf_after m r none deaf = deaf

listen_changes : (m : Message) → changes_roles m ≡ false → is_listen_address m ≡ false
listen_changes (msg.Lad a) keeps = cc
listen_changes m keeps = refl

pub listen_never : NeverMade is_listen_address
listen_never = never_kind is_listen_address (λ n. refl) (λ n. refl) (λ n. refl) (λ n. refl) (λ n. refl) (λ n. refl) (λ n. refl) refl (λ f quiet. listen_changes quiet.message quiet.keeps)

pub poll_never : NeverMade is_poll
poll_never = never_kind is_poll (λ n. refl) (λ n. refl) (λ n. refl) (λ n. refl) (λ n. refl) (λ n. refl) (λ n. refl) refl (λ f quiet. quiet.no_poll)

abbrev none_bad : Message → Bool
none_bad m = false

pub none_never : NeverMade none_bad
none_never = record { no_data = λ k byte is. refl; no_identify = λ k byte is. refl; passed = λ m r none. refl; sent = λ f quiet. refl }

-- ---- what every device of a round does

-- So it goes at each device if no frame of a kind comes: at one to which nothing comes, at one that takes a frame, and at a second
-- controller that sends one.
pub record Does (bad : Message → Bool) (R : DeviceState → DeviceState → Type 0) : Type 0 where
  pub never : NeverMade bad
  pub stays : (d : DeviceState) → R d d
  pub takes : (d e : DeviceState) (f : Frame) (out : Out) → bad (message_of f) ≡ false → Takes d f out e → R d e
  pub ifc : (m : Message) → is_ifc m ≡ true → bad m ≡ false
  pub controlled : (c : Control) (d : DeviceState) → IsControl c → R d (device_led c d)

pub first_append : (R : DeviceState → DeviceState → Type 0) (ds es xs ys : List DeviceState) → First R (length ds) ds es → First R (length xs) xs ys → First R (length (ds ++ xs)) (ds ++ xs) (es ++ ys)
first_append R [] [] xs ys first more = more
first_append R (d ∷ ds) (e ∷ es) xs ys first more = (first.0, first_append R ds es xs ys first.1 more)
first_append R [] (e ∷ es) xs ys first more = absurd first
first_append R (d ∷ ds) [] xs ys first more = absurd first

module _ (bad : Message → Bool) (R : DeviceState → DeviceState → Type 0) (does : Does bad R) where
  abbrev Lacks : Frame → Type 0
  Lacks f = bad (message_of f) ≡ false

  device_each : (plan : List Planned) (k : ℕ) (t u : Trip) (d e : DeviceState) → OnWay Lacks t.flight → Passage Takes plan k t d u e → R d e
  device_each plan k t u d e none passage = past_party Takes plan k t d (λ u e. R d e) (λ is. does.stays d) (λ f is gone. does.stays d)
      (λ f g out e is came takes. does.takes d e g.now out (hit_lacks bad does.never (next_fault plan t.crossings) f (Some g) (subst (OnWay Lacks) is none) came) takes) u e passage

  pub journey_each : (plan : List Planned) (k : ℕ) (t u : Trip) (ds es : List DeviceState) → 1 ≤ k → OnWay Lacks t.flight → Journey plan k t ds u es → First R (length ds) ds es
  journey_each plan k t u ds es some none journey =
      (past_devices plan 1 (λ k t. OnWay Lacks t.flight) R (λ k t u d e some none passage. (passage_lacks bad does.never plan k t u d e some none passage, device_each plan k t u d e none passage)) k t u ds es some none journey).1

  -- the second controller, by who controls
  host_each : (g h : GuestState) (f : Frame) (out : GuestOut) (b : Bool) → takes_control g f ≡ b → g.control ≡ control.Host → Lacks f → GuestTakes g f out h → R g.device h.device
  host_each g h f out true asked host none takes = let it = takes-it g h f out host asked takes in does.takes g.device h.device f (device.Pass _) none it.device
  host_each g h f out false asked host none takes = let it = passes-host g h f out host asked takes in does.takes g.device h.device f (device.Pass _) none it.device

  ifc_each : (g h : GuestState) (f : Frame) (out : GuestOut) → is_leading g.control ≡ true → is_ifc (message_of f) ≡ true → GuestTakes g f out h → R g.device h.device
  ifc_each g h f out leading back takes = let it = passes-ifc g h f out leading back takes in does.takes g.device h.device f (device.Pass _) (does.ifc (message_of f) back) it.device

  rounds_each : (g h : GuestState) (p : Place) (f : Frame) (out : GuestOut) (b : Bool) → is_ifc (message_of f) ≡ b → g.control ≡ control.Rounds p → GuestTakes g f out h → R g.device h.device
  rounds_each g h p f out true back at takes = ifc_each g h f out (ap is_leading at) back takes
  rounds_each g h p f out false other at takes = subst (R g.device) (sym (goes-device g h p f out at other takes)) (does.controlled h.control g.device takes.after.control)

  silent_each : (g h : GuestState) (f : Frame) (out : GuestOut) (b : Bool) → is_ifc (message_of f) ≡ b → g.control ≡ control.Silent → GuestTakes g f out h → R g.device h.device
  silent_each g h f out true back at takes = ifc_each g h f out (ap is_leading at) back takes
  silent_each g h f out false other at takes =
      let under : guest_under control.Silent g f ≡ g = rw other refl in
      let same : h ≡ g = takes.state ∙ ap (λ c. guest_under c g f) at ∙ under in
      subst (λ (x : GuestState). R g.device x.device) (sym same) (does.stays g.device)

  pub guest_each : (g h : GuestState) (f : Frame) (out : GuestOut) → (g.control ≡ control.Host → Lacks f) → GuestTakes g f out h → R g.device h.device
  guest_each g h f out none takes = by g.control refl
    where
      by : (c : Control) → g.control ≡ c → R g.device h.device
      by control.Host at = host_each g h f out (takes_control g f) refl at (none at) takes
      by (control.Rounds p) at = rounds_each g h p f out (is_ifc (message_of f)) refl at takes
      by control.Silent at = silent_each g h f out (is_ifc (message_of f)) refl at takes

  -- ---- a whole round

  guest_reached : (plan : List Planned) (k : ℕ) (t : Trip) (kept : Option Flight) (g h : GuestState) (u : ControlledTrip) → OnWay Lacks t.flight → GuestReaches plan k t kept t.flight g u h → R g.device h.device
  guest_reached plan k t kept g h u none reached = past_guest plan k t kept g (λ u h. R g.device h.device) (λ is. does.stays g.device) (λ f is gone. does.stays g.device)
      (λ f at out h is came takes. guest_each g h at.now out (λ host. hit_lacks bad does.never (next_fault plan t.crossings) f (Some at) (subst (OnWay Lacks) is none) came) takes) u h reached

  last_each : (plan : List Planned) (k : ℕ) (t : Trip) (kept : Option Flight) (guest later : Option GuestState) (u : ControlledTrip) → OnWay Lacks t.flight → LastPassage plan k t kept guest u later
      → First R (length (guest_devices guest)) (guest_devices guest) (guest_devices later)
  last_each plan k t kept None None u none passage = tt
  last_each plan k t kept (Some g) (Some h) u none passage = (guest_reached plan k t kept g h u none passage, tt)
  last_each plan k t kept None (Some h) u none passage = absurd passage
  last_each plan k t kept (Some g) None u none passage = absurd passage

  pub controlled_each : {M : Type 0} (view : M → MediumView) (r s : RingView M) (f : Flight) (answer : Arrival) → Lacks f.now → ControlledRound view r f answer s → First R (length (devices_of r)) (devices_of r) (devices_of s)
  controlled_each view r s f answer none round =
      let front : List DeviceState = r.before ++ device_of r.drive.state ∷ round.boxed in
      let front_then : List DeviceState = s.before ++ device_of s.drive.state ∷ round.boxed_then in
      let journey = controlled_to_last view r s f answer round in
      let first = journey_each r.books.plan 1 (trip_of r.books (Some f)) round.at_last front front_then (omega arith) none journey in
      let at = journey_lacks bad does.never r.books.plan 1 (trip_of r.books (Some f)) round.at_last front front_then (omega arith) none journey in
      let last = last_each r.books.plan (length (devices_of r)) round.at_last r.books.kept round.guest round.guest_then round.past_all at round.past_last in
      let all = first_append R front front_then (guest_devices round.guest) (guest_devices round.guest_then) first last in
      let now : devices_of r ≡ front ++ guest_devices round.guest = ap (λ after. r.before ++ device_of r.drive.state ∷ after) round.after ∙ sym (append_assoc r.before (device_of r.drive.state ∷ round.boxed) (guest_devices round.guest)) in
      let then_ : devices_of s ≡ front_then ++ guest_devices round.guest_then = ap (λ after. s.before ++ device_of s.drive.state ∷ after) round.after_then ∙ sym (append_assoc s.before (device_of s.drive.state ∷ round.boxed_then) (guest_devices round.guest_then)) in
      subst (λ es. First R (length (devices_of r)) (devices_of r) es) (sym then_) (subst (λ ds. First R (length ds) ds (front_then ++ guest_devices round.guest_then)) (sym now) all)

-- ---- its own frames

said_deaf : (p : Place) → is_listen_address (said_at p) ≡ false
said_deaf (place.Command command.Nop) = refl
said_deaf (place.Command (command.Unl a)) = refl
said_deaf (place.Command (command.Tad a)) = refl
said_deaf (place.Command (command.Unt a)) = refl
said_deaf (place.Ready c) = refl
said_deaf (place.Start a) = refl
said_deaf (place.Held a d) = refl
said_deaf (place.Relayed a d) = refl

controlled_deaf : (c : Control) (r : Roles) → IsControl c → r.listens ≡ false → (roles_in_lead c r).listens ≡ false
controlled_deaf control.Host r is deaf = deaf
controlled_deaf (control.Rounds p) r is deaf = deaf_after (message_of (sent_at p)) r (ap is_listen_address (message_of-sent p is) ∙ said_deaf p) deaf
controlled_deaf control.Silent r is deaf = deaf

ifc_deaf : (m : Message) → is_ifc m ≡ true → is_listen_address m ≡ false
ifc_deaf (msg.Lad a) is = cc
ifc_deaf m is = refl

ifc_no_poll : (m : Message) → is_ifc m ≡ true → is_poll m ≡ false
ifc_no_poll (msg.Ppe n) is = cc
ifc_no_poll msg.Ppd is = cc
ifc_no_poll msg.Ppu is = cc
ifc_no_poll m is = refl

-- ---- what it keeps

-- if it did not listen it does not
abbrev StaysDeaf : DeviceState → DeviceState → Type 0
StaysDeaf d e = d.roles.listens ≡ false → e.roles.listens ≡ false

keeps_does : Does none_bad Keeps
keeps_does = record {
  never = none_never;
  stays = λ d. stays_keeps d d refl;
  takes = λ d e f out none takes. takes_keeps d e f out takes;
  ifc = λ m is. refl;
  controlled = λ c d is. record { accessory = refl; room = refl; unheard = λ silent. (refl, refl) };
}

deaf_does : Does is_listen_address StaysDeaf
deaf_does = record {
  never = listen_never;
  stays = λ d deaf. deaf;
  takes = λ d e f out none takes deaf. ap (λ (r : Roles). r.listens) takes.roles ∙ deaf_after (message_of f) d.roles none deaf;
  ifc = ifc_deaf;
  controlled = λ c d is deaf. controlled_deaf c d.roles is deaf;
}

places_does : Does is_poll KeepsPlace
places_does = record {
  never = poll_never;
  stays = λ d. refl;
  takes = λ d e f out none takes. takes.assignment ∙ place_kept (message_of f) d.roles d.assignment none;
  ifc = ifc_no_poll;
  controlled = λ c d is. refl;
}

-- a round in which no second controller controls leaves the places in the poll, if its frame is no poll message
pub round_places : {M : Type 0} (view : M → MediumView) (r s : RingView M) (held : Option Flight) (f : Flight) (answer : Arrival) → is_poll (message_of f.now) ≡ false → Round view r held f answer s → First KeepsPlace (length (devices_of r)) (devices_of r) (devices_of s)
round_places view r s held f answer none round =
    journey_each is_poll KeepsPlace places_does r.books.plan 1 (trip_of r.books (Some f)) round.past_all (devices_of r) (devices_of s) (omega arith) none (round_journey view r s held f answer round)

all_keep : (ds es : List DeviceState) → First Keeps (length ds) ds es → AllKeep ds es
all_keep [] [] first = tt
all_keep (d ∷ ds) (e ∷ es) first = (first.0, all_keep ds es first.1)
all_keep [] (e ∷ es) first = absurd first
all_keep (d ∷ ds) [] first = absurd first

all_deaf : (k : ℕ) (ds es : List DeviceState) → First StaysDeaf (length ds) ds es → Each IsDeaf k ds → Each IsDeaf k es
all_deaf k [] [] first deaf = tt
all_deaf k (d ∷ ds) (e ∷ es) first deaf = (first.0 deaf.0, all_deaf (k + 1) ds es first.1 deaf.1)
all_deaf k [] (e ∷ es) first deaf = absurd first
all_deaf k (d ∷ ds) [] first deaf = absurd first

-- the last address that it asks
last_ifc : (g h : GuestState) (f : Frame) (out : GuestOut) (b : Bool) → is_ifc (message_of f) ≡ b → is_leading g.control ≡ true → GuestTakes g f out h → h.last ≡ g.last
last_ifc g h f out true back lead takes = (passes-ifc g h f out lead back takes).last
last_ifc g h f out false other lead takes = (goes-on g h f out lead other takes).last

last_host : (g h : GuestState) (f : Frame) (out : GuestOut) (b : Bool) → takes_control g f ≡ b → g.control ≡ control.Host → GuestTakes g f out h → h.last ≡ g.last
last_host g h f out true asked host takes = (takes-it g h f out host asked takes).last
last_host g h f out false asked host takes = (passes-host g h f out host asked takes).last

pub guest_last : (g h : GuestState) (f : Frame) (out : GuestOut) → GuestTakes g f out h → h.last ≡ g.last
guest_last g h f out takes = by g.control refl
  where
    by : (c : Control) → g.control ≡ c → h.last ≡ g.last
    by control.Host at = last_host g h f out (takes_control g f) refl at takes
    by (control.Rounds p) at = last_ifc g h f out (is_ifc (message_of f)) refl (ap is_leading at) takes
    by control.Silent at = last_ifc g h f out (is_ifc (message_of f)) refl (ap is_leading at) takes

last_passed : (plan : List Planned) (k : ℕ) (t : Trip) (kept : Option Flight) (guest later : Option GuestState) (u : ControlledTrip) → LastPassage plan k t kept guest u later → last_asked (guest_mind later) ≡ last_asked (guest_mind guest)
last_passed plan k t kept None None u passage = refl
last_passed plan k t kept (Some g) (Some h) u passage = ap (λ n. Some n) (past_guest plan k t kept g (λ u h. h.last ≡ g.last) (λ is. refl) (λ f is gone. refl) (λ f at out h is came takes. guest_last g h at.now out takes) u h passage)
last_passed plan k t kept None (Some h) u passage = absurd passage
last_passed plan k t kept (Some g) None u passage = absurd passage

-- ---- the books

-- plan, beginning and room are as before
record SameBooks (b c : BooksView) : Type 0 where
  plan : c.plan ≡ b.plan
  begun : c.begun ≡ b.begun
  room : c.room ≡ b.room

comes_same : (b : BooksView) (f : Flight) (own data_frame : Bool) → SameBooks b (comes b f own data_frame)
comes_same b f true data_frame = record { plan = refl; begun = refl; room = refl }
comes_same b f false true = record { plan = refl; begun = refl; room = refl }
comes_same b f false false = record { plan = refl; begun = refl; room = refl }

over_same : (b : BooksView) (f : Flight) (o : Option Flight) → SameBooks b (over_last_link b f o)
over_same b f None = record { plan = refl; begun = refl; room = refl }
over_same b f (Some g) = comes_same b g (g.source == 0) (is_data g.now)

lent_same : (k : ℕ) (b : BooksView) (f : Flight) (o : Option Flight) → SameBooks b (over_lent_link k b f o)
lent_same k b f None = record { plan = refl; begun = refl; room = refl }
lent_same k b f (Some g) = record { plan = refl; begun = refl; room = refl }

home_same : (lead : Bool) (k : ℕ) (b : BooksView) (flight : Option Flight) → SameBooks b (controlled_home lead k b flight)
home_same true k b None = record { plan = refl; begun = refl; room = refl }
home_same false k b None = record { plan = refl; begun = refl; room = refl }
home_same true k b (Some f) =
    let c : BooksView = record b { crossings = risen b.crossings } in
    let same = lent_same k c f (hit (next_fault b.plan b.crossings) f) in
    record { plan = same.plan; begun = same.begun; room = same.room }
home_same false k b (Some f) =
    let c : BooksView = record b { crossings = risen b.crossings } in
    let same = over_same c f (hit (next_fault b.plan b.crossings) f) in
    record { plan = same.plan; begun = same.begun; room = same.room }

-- ---- the laws

-- a round on a ring with a second controller
pub controlled_keeps : {M : Type 0} (view : M → MediumView) (r s : RingView M) (f : Flight) (answer : Arrival) → ControlledRound view r f answer s → ControlledKeeps f.now r s
controlled_keeps view r s f answer round =
    let k = length (devices_of r) in
    let same = home_same (leads s.guest) k (books_controlled r.books round.past_all) round.past_all.trip.flight in
    record {
      plan = ap (λ (b : BooksView). b.plan) round.books ∙ same.plan;
      begun = ap (λ (b : BooksView). b.begun) round.books ∙ same.begun;
      room = ap (λ (b : BooksView). b.room) round.books ∙ same.room;
      before = Journey-length r.books.plan 1 (trip_of r.books (Some f)) round.at_drive r.before s.before round.to_drive;
      last = ap last_asked round.mind_then ∙ last_passed r.books.plan k round.at_last r.books.kept round.guest round.guest_then round.past_all round.past_last ∙ sym (ap last_asked round.mind);
      kept = all_keep (devices_of r) (devices_of s) (controlled_each none_bad Keeps keeps_does view r s f answer refl round);
      deaf = λ none deaf. all_deaf 1 (devices_of r) (devices_of s) (controlled_each is_listen_address StaysDeaf deaf_does view r s f answer none round) deaf;
      places = λ none. controlled_each is_poll KeepsPlace places_does view r s f answer none round;
    }

-- the host hands control over
pub handed_keeps : {M : Type 0} (view : M → MediumView) (r s : RingView M) (answer : Arrival) → ControlledRound view r (sourced 0 tct) answer s → ControlledKeeps tct r s
handed_keeps view r s answer round = controlled_keeps view r s (sourced 0 tct) answer round
