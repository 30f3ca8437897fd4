-- An IFC of the host, whoever controls the loop.
use Rattle.std.proofs.Common.{◌≡◌, ◌≤◌, ⊎_elim, ◌∙◌, ◌++◌, ℕ, Bool, true, false, List, [], ◌∷◌, Option, Some, None, option_map, length, refl, sym, ap, subst, arith, append-nil, length-append}
use Rattle.il_frames.specs.declared.entry.Entry.{Entry}
use Rattle.il_frames.specs.declared.frame.Frame.{Frame}
use Rattle.il_frames.specs.declared.message.Message.{Message}
use Rattle.il_frames.specs.Messages.{message_of}
use Rattle.il_frames.specs.NamedFrames.{ifc, is_frame}
use Rattle.il_device.specs.Passing.{is_plain}
use Rattle.il_guest.specs.Frames.{tct}
use Rattle.il_ports.specs.Media.{MediumView}
use Rattle.loop_model.specs.Exchanges.{cut_at, returned}
use Rattle.il_ring.specs.declared.plan.Arrival.{Arrival}
use Rattle.il_ring.specs.Adds.{Adds}
use Rattle.il_ring.specs.Books.{BooksView}
use Rattle.il_ring.specs.Flights.{sourced}
use Rattle.il_ring.specs.Guests.{GuestMind, IsUnderHost, last_asked}
use Rattle.il_ring.specs.Lending.{HostKeeps, IsControlled, TakesBack, about_to_send, as_host, entry_of_kept, host_leads, leads, lending_ended, taken_back, taken_back_if}
use Rattle.il_ring.specs.Rings.{RingView, IsRing, Round, devices_of, spare_of}
use Rattle.il_ring.proofs.ControlledRings.{host_under, ring_back}
use Rattle.il_ring.proofs.ControlledRounds.{host_keeps, controlled_under, not_controlled}
use Rattle.il_control.specs.Calls.{IsFree, Obeyed, ObeyedInPart, Whole, Broke, arrives}
use Rattle.il_control.proofs.Asking.{plain_obeyed, plain_part}
use Rattle.il_control.proofs.Calls.{Done, plain_call}

-- ---- a ring that is not lent, as the host controls it

last_host : (m : Option GuestMind) → last_asked (option_map as_host m) ≡ last_asked m
last_host None = refl
last_host (Some mind) = refl

books_same : (k : ℕ) (b : BooksView) → b.lent ≡ None → b.kept ≡ None → lending_ended k b ≡ b
books_same k b lent kept =
    ap (λ kept. record b { log = (b.log ++ entry_of_kept k kept) ++ entry_of_kept 0 b.lent; lent = None; kept = None }) kept
    ∙ ap (λ lent. record b { log = (b.log ++ []) ++ entry_of_kept 0 lent; lent = None; kept = None }) lent
    ∙ ap (λ log. record b { log = log; lent = None; kept = None }) (append-nil (b.log ++ []) ∙ append-nil b.log)
    ∙ ap (λ lent. record b { lent = lent; kept = None }) (sym lent)
    ∙ ap (λ kept. record b { kept = kept }) (sym kept)

pub taken_same : {M : Type 0} (r : RingView M) → IsRing r → taken_back r ≡ r
taken_same r ring = ap (λ b. record r { books = b }) (books_same (length (devices_of r)) r.books ring.lent ring.kept)

-- what was lent ends: the ring as the host is about to send

about_same_where : {M : Type 0} (lead : Bool) (r : RingView M) → IsRing r → taken_back_if lead r ≡ r
about_same_where true r ring = taken_same r ring
about_same_where false r ring = refl

-- if the ring is not lent nothing ends
pub about_same : {M : Type 0} (r : RingView M) → IsRing r → about_to_send r ≡ r
about_same r ring = about_same_where (leads r.guest) r ring

pub about_free : {M : Type 0} (r : RingView M) → IsFree r → IsFree (about_to_send r)
about_free r free = subst IsFree (sym (about_same r free.ring)) free

held_where : {M : Type 0} (lead : Bool) (r : RingView M) → (taken_back_if lead r).books.held ≡ r.books.held
held_where true r = refl
held_where false r = refl

-- what is held stays
pub about_held : {M : Type 0} (r : RingView M) → IsFree (about_to_send r) → r.books.held ≡ None
about_held r free = sym (held_where (leads r.guest) r) ∙ free.held

spare_where : {M : Type 0} (lead : Bool) (r : RingView M) → spare_of (taken_back_if lead r) ≤ spare_of r
spare_where true r =
    let k = length (devices_of r) in
    let kept = length-append r.books.log (entry_of_kept k r.books.kept) in
    let lent = length-append (r.books.log ++ entry_of_kept k r.books.kept) (entry_of_kept 0 r.books.lent) in
    omega (arith, kept, lent)
spare_where false r = omega arith

-- its log has room for as many entries at most
pub about_spare : {M : Type 0} (r : RingView M) (more : ℕ) → more ≤ spare_of (about_to_send r) → more ≤ spare_of r
about_spare r more room = let less = spare_where (leads r.guest) r in omega (arith, less, room)

controlled_free : {M : Type 0} (r : RingView M) → IsFree r → IsFree (host_leads r)
controlled_free r free = record {
  ring = record { few = free.ring.few; plan = free.ring.plan; crossings = free.ring.crossings; held = free.ring.held; drive = free.ring.drive; lent = free.ring.lent; kept = free.ring.kept; told = free.ring.told };
  held = free.held;
}

-- ---- what came of it

pub record IfcSent {M : Type 0} (view : M → MediumView) (r : RingView M) (f : Frame) (answer : Arrival) (s : RingView M) : Type 0 where
  pub done : Done view r (returned 0 f ∷ []) (arrives answer) s
  pub obeyed : arrives answer ≡ true → Obeyed (message_of f) r s
  pub part : ObeyedInPart (message_of f) r s
  pub host : arrives answer ≡ true → IsUnderHost s.guest

-- the host controlled
ifc_host : {M : Type 0} (view : M → MediumView) (r s : RingView M) (f : Frame) (answer : Arrival) → f ≡ ifc → IsFree r → IsUnderHost r.guest → Round view r r.books.held (sourced 0 f) answer s → IfcSent view r f answer s
ifc_host view r s f answer is free under round = record {
  done = plain_call view r s r.books.held f answer round free.held free plain;
  obeyed = plain_obeyed view r s r.books.held f answer round free plain;
  part = plain_part view r s r.books.held f answer round free plain;
  host = λ came. subst IsUnderHost (sym round.guest) under;
}
  where
    plain : is_plain (message_of f) ≡ true
    plain = ap (λ f. is_plain (message_of f)) is

-- another did

module _ {M : Type 0} (view : M → MediumView) (r s : RingView M) (lead : leads r.guest ≡ true) (last : last_asked s.guest ≡ last_asked r.guest) where
  never : IsUnderHost r.guest → s.guest ≡ r.guest
  never under = let clash = sym (not_controlled r.guest under) ∙ lead in cc

  ring_controlled : IsRing (host_leads s) → IsRing s
  ring_controlled is = record { few = is.few; plan = is.plan; crossings = is.crossings; held = is.held; drive = is.drive; lent = is.lent; kept = is.kept; told = is.told }

  adds_controlled : (from to : Option ℕ) (entries : List Entry) → Adds view (host_leads r) from entries to (host_leads s) → Adds view r from entries to s
  adds_controlled from to entries adds = record {
    log = adds.log;
    on = adds.on;
    plan = adds.plan;
    begun = adds.begun;
    room = adds.room;
    guest = (last, never);
    before = adds.before;
    size = adds.size;
    links = adds.links;
    crossings = adds.crossings;
    linked = adds.linked;
    frames = adds.frames;
    roles = adds.roles;
    places = adds.places;
    came = adds.came;
    answers = adds.answers;
    drive = adds.drive;
  }

  whole_controlled : (entries : List Entry) → Whole view (host_leads r) entries (host_leads s) → Whole view r entries s
  unfolding adds_controlled
  whole_controlled entries whole = record {
    adds = adds_controlled None None entries whole.adds;
    ring = ring_controlled whole.ring;
    held = whole.held;
    met_none = whole.met_none;
    unheard = whole.unheard;
    brought = whole.brought;
  }

  broke_controlled : (entries : List Entry) → Broke view (host_leads r) entries (host_leads s) → Broke view r entries s
  unfolding adds_controlled
  broke_controlled entries broke = record {
    standing = broke.standing;
    break = broke.break;
    legal = broke.legal;
    held_at_end = broke.held_at_end;
    told = broke.told;
    adds = adds_controlled None broke.held_at_end (cut_at entries broke.standing broke.break) broke.adds;
    ring = ring_controlled broke.ring;
    held = broke.held;
    met_some = broke.met_some;
    unheard = broke.unheard;
    brought = broke.brought;
  }

  done_controlled : (entries : List Entry) (whole : Bool) → Done view (host_leads r) entries whole (host_leads s) → Done view r entries whole s
  done_controlled entries true done = whole_controlled entries done
  done_controlled entries false done = broke_controlled entries done

ifc_controlled : {M : Type 0} (view : M → MediumView) (r s : RingView M) (f : Frame) (answer : Arrival) → f ≡ ifc → IsFree (taken_back r) → leads r.guest ≡ true → TakesBack view r f answer s → IfcSent view (taken_back r) f answer s
ifc_controlled view r s f answer is free lead back = record {
  done = done_controlled view (taken_back r) s lead last (returned 0 f ∷ []) (arrives answer) (plain_call view (host_leads (taken_back r)) (host_leads s) r.books.held f answer back.round free.held (controlled_free (taken_back r) free) plain);
  obeyed = plain_obeyed view (host_leads (taken_back r)) (host_leads s) r.books.held f answer back.round (controlled_free (taken_back r) free) plain;
  part = plain_part view (host_leads (taken_back r)) (host_leads s) r.books.held f answer back.round (controlled_free (taken_back r) free) plain;
  host = λ came. ⊎_elim (λ same. subst (λ s. IsUnderHost s.guest) (sym same) (host_under s.guest)) (λ lost. let clash = sym came ∙ ap arrives lost.1 in cc) back.mind;
}
  where
    plain : is_plain (message_of f) ≡ true
    plain = ap (λ f. is_plain (message_of f)) is

    last : last_asked s.guest ≡ last_asked r.guest
    last = sym (last_host s.guest) ∙ ap last_asked back.round.guest ∙ last_host r.guest

pub ifc_sent : {M : Type 0} (view : M → MediumView) (r s : RingView M) (f : Frame) (answer : Arrival) → f ≡ ifc → IsFree (about_to_send r) → (HostKeeps r f → Round view r r.books.held (sourced 0 f) answer s) → (leads r.guest ≡ true → TakesBack view r f answer s) → IfcSent view (about_to_send r) f answer s
ifc_sent view r s f answer is free round back = by_lead (leads r.guest) refl
  where
    by_lead : (lead : Bool) → leads r.guest ≡ lead → IfcSent view (about_to_send r) f answer s
    by_lead true lead =
        let as_controlled : about_to_send r ≡ taken_back r = ap (λ lead. taken_back_if lead r) lead in
        subst (λ q. IfcSent view q f answer s) (sym as_controlled) (ifc_controlled view r s f answer is (subst IsFree as_controlled free) lead (back lead))
    by_lead false none =
        let as_host : about_to_send r ≡ r = ap (λ lead. taken_back_if lead r) none in
        let under = controlled_under r.guest none in
        subst (λ q. IfcSent view q f answer s) (sym as_host) (ifc_host view r s f answer is (subst IsFree as_host free) under (round (host_keeps r f under (ap (λ f. is_frame f tct) is))))

-- by name
pub ifc_done : {M : Type 0} (view : M → MediumView) (r s : RingView M) (f : Frame) (answer : Arrival) → f ≡ ifc → IfcSent view r f answer s → Done view r (returned 0 ifc ∷ []) (arrives answer) s
ifc_done view r s f answer is sent = subst (λ f. Done view r (returned 0 f ∷ []) (arrives answer) s) is sent.done

pub ifc_obeyed : {M : Type 0} (view : M → MediumView) (r s : RingView M) (f : Frame) (answer : Arrival) → f ≡ ifc → IfcSent view r f answer s → arrives answer ≡ true → Obeyed (message_of ifc) r s
ifc_obeyed view r s f answer is sent came = subst (λ f. Obeyed (message_of f) r s) is (sent.obeyed came)

pub ifc_part : {M : Type 0} (view : M → MediumView) (r s : RingView M) (f : Frame) (answer : Arrival) → f ≡ ifc → IfcSent view r f answer s → ObeyedInPart (message_of ifc) r s
ifc_part view r s f answer is sent = subst (λ f. ObeyedInPart (message_of f) r s) is sent.part

-- ---- if nothing was lent

pub of_unlent : {M : Type 0} (view : M → MediumView) (r s : RingView M) (entries : List Entry) (whole : Bool) → IsRing r → Done view (about_to_send r) entries whole s → Done view r entries whole s
of_unlent view r s entries whole ring done = subst (λ q. Done view q entries whole s) (about_same r ring) done

pub part_of_unlent : {M : Type 0} (view : M → MediumView) (r s : RingView M) (entries : List Entry) (whole : Bool) (m : Message) → IsRing r → Done view r entries whole s → ObeyedInPart m (about_to_send r) s → ObeyedInPart m r s
part_of_unlent view r s entries whole m ring done part = subst (λ q. ObeyedInPart m q s) (about_same r ring) part

pub room_unlent : {M : Type 0} (r : RingView M) (more : ℕ) → IsRing r → more ≤ spare_of r → more ≤ spare_of (about_to_send r)
room_unlent r more ring room = subst (λ q. more ≤ spare_of q) (sym (about_same r ring)) room

-- ---- a ring that is lent

pub about_controlled : {M : Type 0} (r : RingView M) → IsControlled r → IsFree (about_to_send r)
about_controlled r controlled =
    let as_controlled : about_to_send r ≡ taken_back r = ap (λ lead. taken_back_if lead r) controlled.leads in
    let back = ring_back r controlled in
    let ring : IsRing (taken_back r) = record { few = back.few; plan = back.plan; crossings = back.crossings; held = back.held; drive = back.drive; lent = back.lent; kept = back.kept; told = back.told } in
    subst IsFree (sym as_controlled) (record { ring = ring; held = controlled.held })
