-- Where a second controller goes on in its rounds, and what is at the host then.
use Rattle.std.proofs.Common.{◌≡◌, ℕ, Bool, true, false, List, Option, Some, None, refl, sym, ap, subst, ◌∙◌}
use Rattle.il_frames.specs.declared.entry.Entry.{Entry}
use Rattle.il_frames.specs.declared.frame.Frame.{Frame}
use Rattle.il_frames.specs.Frames.{is_data}
use Rattle.il_frames.specs.Messages.{message_of}
use Rattle.il_device.specs.State.{risen}
use Rattle.il_device.specs.Takes.{eto}
use Rattle.il_frames.specs.NamedFrames.{is_frame, nrd, rfc}
use Rattle.il_frames.specs.NamedFrames.{is_ifc}
use Rattle.il_guest.specs.declared.control.Command.{Command}
use Rattle.il_guest.specs.declared.control.Command.TheVariants as command
use Rattle.il_guest.specs.declared.control.Place.{Place}
use Rattle.il_guest.specs.declared.control.Place.TheVariants as place
use Rattle.il_guest.specs.declared.control.Control.{Control}
use Rattle.il_guest.specs.declared.control.Control.TheVariants as control
use Rattle.il_guest.specs.Frames.{sst}
use Rattle.il_guest.specs.Steps.{IsRoundPlace, command_frame, command_then, control_after, expecting, out_of, sent_at, start_then}
use Rattle.il_guest.proofs.RoundLaws.{is_same-true}
use Rattle.il_guest.proofs.SentLemmas.{message_of-sent, said_at}
use Rattle.il_ring.specs.declared.plan.PlanFault.{PlanFault}
use Rattle.il_ring.specs.declared.flight.Flight.{Flight}
use Rattle.il_ring.specs.Plans.{next_fault}
use Rattle.il_ring.specs.Flights.{sourced, hit}
use Rattle.il_ring.specs.Books.{BooksView}
use Rattle.il_ring.specs.Guests.{GuestMind}
use Rattle.il_ring.specs.Lending.{StandsAt, StandsLent, StandsUnder, controlled_answers, controlled_sends, lent_home, over_lent_link}
use Rattle.il_ring.proofs.CountSteps.{hit_same}
use Rattle.il_ring.proofs.Passes.{plain_hit}
use Rattle.il_ring.proofs.MessageKinds.{each_command}

-- ---- its own frames

command_no_data : (c : Command) → is_data (command_frame c) ≡ false
command_no_data = each_command (λ c. is_data (command_frame c) ≡ false) refl (λ a. refl) (λ a. refl) (λ a. refl)

said_no_ifc : (p : Place) → is_ifc (said_at p) ≡ false
said_no_ifc (place.Command command.Nop) = refl
said_no_ifc (place.Command (command.Unl a)) = refl
said_no_ifc (place.Command (command.Tad a)) = refl
said_no_ifc (place.Command (command.Unt a)) = refl
said_no_ifc (place.Ready c) = refl
said_no_ifc (place.Start a) = refl
said_no_ifc (place.Held a d) = refl
said_no_ifc (place.Relayed a d) = refl

pub sent_no_ifc : (p : Place) → IsRoundPlace p → is_ifc (message_of (sent_at p)) ≡ false
sent_no_ifc p is = ap is_ifc (message_of-sent p is) ∙ said_no_ifc p

no_data_as : (f g : Frame) → is_frame f g ≡ true → is_data g ≡ false → is_data f ≡ false
no_data_as f g same other = ap is_data (is_same-true f g same) ∙ other

-- ---- a frame comes to it

-- so it stands with what goes on, if anything does
abbrev pub Stood : ℕ → Control → Option Flight → Option Flight → Type 0
Stood k c None kept = Unit {0}
Stood k c (Some f) kept = StandsUnder k c f kept

-- at a place at which a frame of its own is at the host that is no NRD
abbrev pub IsOwn : Place → Type 0
IsOwn (place.Command c) = Unit {0}
IsOwn (place.Ready c) = Unit {0}
IsOwn (place.Start a) = Unit {0}
IsOwn (place.Held a d) = ⊥
IsOwn (place.Relayed a d) = ⊥

then_own : (own : Option ℕ) (last : ℕ) (c : Command) → IsOwn (command_then own last c)
then_own own last command.Nop = tt
then_own own last (command.Unl a) = tt
then_own own last (command.Tad a) = tt
then_own own last (command.Unt a) = tt

module _ (k n : ℕ) (log : List Entry) (at : Flight) (kept : Option Flight) where
  abbrev Goes : Control → Type 0
  Goes c = Stood k c (controlled_answers n log k at kept (out_of c)).trip.flight (controlled_answers n log k at kept (out_of c)).kept

  expects : (right : Bool) (q : Place) → (right ≡ true → Goes (control.Rounds q)) → Goes (expecting right q)
  expects true q goes = goes refl
  expects false q goes = tt

  pub own_goes : (q : Place) → IsOwn q → is_data at.now ≡ false → kept ≡ None → Goes (control.Rounds q)
  own_goes (place.Command c) own other none =
      subst (λ d. Stood k (control.Rounds (place.Command c)) (controlled_sends n log k at d kept (command_frame c)).trip.flight (controlled_sends n log k at d kept (command_frame c)).kept) (sym other) (refl, none)
  own_goes (place.Ready c) own other none =
      subst (λ d. Stood k (control.Rounds (place.Ready c)) (controlled_sends n log k at d kept rfc).trip.flight (controlled_sends n log k at d kept rfc).kept) (sym other) (refl, none)
  own_goes (place.Start a) own other none =
      subst (λ d. Stood k (control.Rounds (place.Start a)) (controlled_sends n log k at d kept sst).trip.flight (controlled_sends n log k at d kept sst).kept) (sym other) (refl, none)
  own_goes (place.Held a d) own other none = absurd own
  own_goes (place.Relayed a d) own other none = absurd own

  start_goes : (a : ℕ) (d : Bool) → is_data at.now ≡ d → kept ≡ None → Goes (start_then a at.now d)
  start_goes a true is none =
      subst (λ d. Stood k (control.Rounds (place.Held a at.now)) (controlled_sends n log k at d kept nrd).trip.flight (controlled_sends n log k at d kept nrd).kept) (sym is) (refl, at, refl, refl)
  start_goes a false is none = expects (is_frame at.now sst) (place.Command (command.Unt a)) (λ right. own_goes (place.Command (command.Unt a)) tt is none)

  pub stands_on : (own : Option ℕ) (last : ℕ) (p : Place) (f : Flight) → StandsAt k p f kept → IsRoundPlace p → Goes (control_after own last p at.now)
  stands_on own last (place.Command c) f stands is =
      expects (is_frame at.now (command_frame c)) (place.Ready c) (λ right. own_goes (place.Ready c) tt (no_data_as at.now (command_frame c) right (command_no_data c)) stands.1)
  stands_on own last (place.Ready c) f stands is =
      expects (is_frame at.now rfc) (command_then own last c) (λ right. own_goes (command_then own last c) (then_own own last c) (no_data_as at.now rfc right refl) stands.1)
  stands_on own last (place.Start a) f stands is = start_goes a (is_data at.now) refl stands.1
  stands_on own last (place.Held a d) f stands is =
      expects (is_frame at.now nrd) (place.Relayed a d) (λ right. subst (λ kept. Stood k (control.Rounds (place.Relayed a d)) kept None) (sym stands.2) (ap is_data stands.3 ∙ is.1, refl))
  stands_on own last (place.Relayed a d) f stands is =
      expects (is_frame at.now eto) (place.Command (command.Unt a)) (λ right. own_goes (place.Command (command.Unt a)) tt (no_data_as at.now eto right refl) stands.1)

-- ---- over the link to the host

own_same : (k : ℕ) (h : Frame) (f g : Flight) (fault : PlanFault) → f ≡ sourced k h → is_data h ≡ false → hit (Some fault) f ≡ Some g → ⊥
own_same k h f g fault is other hits = let clash = sym (plain_hit fault f (ap (λ (f : Flight). is_data f.now) is ∙ other)) ∙ hits in cc

hit_at : (k : ℕ) (p : Place) (f g : Flight) (fault : PlanFault) (kept : Option Flight) → StandsAt k p f kept → hit (Some fault) f ≡ Some g → StandsAt k p g kept
hit_at k (place.Command c) f g fault kept stands hits = absurd (own_same k (command_frame c) f g fault stands.0 (command_no_data c) hits)
hit_at k (place.Ready c) f g fault kept stands hits = absurd (own_same k rfc f g fault stands.0 refl hits)
hit_at k (place.Start a) f g fault kept stands hits = absurd (own_same k sst f g fault stands.0 refl hits)
hit_at k (place.Held a d) f g fault kept stands hits = absurd (own_same k nrd f g fault stands.0 refl hits)
hit_at k (place.Relayed a d) f g fault kept stands hits = let same = hit_same (Some fault) f g hits in (same.data_frame ∙ stands.0, stands.1)

some_flight : (f g : Flight) → Some f ≡ Some g → f ≡ g
some_flight f g e = ap (λ o. elim o [ Some h ↦ h | None ↦ f ]) e

hit_stood : (k : ℕ) (c : Control) (fault : Option PlanFault) (f : Flight) (o : Option Flight) (kept : Option Flight) → StandsUnder k c f kept → hit fault f ≡ o → Stood k c o kept
hit_stood k c fault f None kept stands hits = tt
hit_stood k c None f (Some g) kept stands hits = subst (λ f. StandsUnder k c f kept) (some_flight f g hits) stands
hit_stood k (control.Rounds p) (Some fault) f (Some g) kept stands hits = hit_at k p f g fault kept stands hits
hit_stood k control.Host (Some fault) f (Some g) kept stands hits = absurd stands
hit_stood k control.Silent (Some fault) f (Some g) kept stands hits = absurd stands

over_stands : (k : ℕ) (b : BooksView) (f : Flight) (o : Option Flight) (mind : GuestMind) → Stood k mind.control o b.kept → StandsLent k (Some mind) (over_lent_link k b f o).lent (over_lent_link k b f o).kept
over_stands k b f None mind stood = refl
over_stands k b f (Some g) mind stood = stood

pub home_stands : (k : ℕ) (b : BooksView) (flight : Option Flight) (mind : GuestMind) → Stood k mind.control flight b.kept → StandsLent k (Some mind) (lent_home k b flight).lent (lent_home k b flight).kept
home_stands k b None mind stood = refl
home_stands k b (Some f) mind stood =
    over_stands k (record b { crossings = risen b.crossings }) f (hit (next_fault b.plan b.crossings) f) mind (hit_stood k mind.control (next_fault b.plan b.crossings) f (hit (next_fault b.plan b.crossings) f) b.kept stood refl)
