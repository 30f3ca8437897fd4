-- From one frame at the host to the next: a second controller goes on in its rounds, or they end.
pub use Rattle.il_control.specs.Polling.{BrokeOff, ByteStands, FollowsAsked, HeldStands, OwnStands, Polling, StandsSo, asked, came_by, front_of, yet_at}
use Rattle.std.proofs.Common.{◌≡◌, ◌∙◌, ◌≤◌, ◌+◌, ◌++◌, ℕ, true, false, List, [], ◌∷◌, Option, Some, None, length, refl, sym, ap, ap₂, arith, append_assoc, length-append}
use Rattle.il_frames.specs.declared.entry.Entry.{Entry}
use Rattle.il_frames.specs.declared.frame.Frame.{Frame}
use Rattle.il_frames.specs.Frames.{is_data}
use Rattle.il_device.specs.State.{DeviceState}
use Rattle.il_drive.specs.State.{device_of}
use Rattle.il_ports.specs.Media.{MediumView}
use Rattle.il_guest.specs.declared.control.Control.TheVariants as control
use Rattle.il_guest.specs.declared.control.Place.{Place}
use Rattle.il_guest.specs.Rounds.{addresses}
use Rattle.il_guest.specs.Steps.{IsRoundPlace}
use Rattle.il_ring.specs.declared.plan.PlanFault.{PlanFault}
use Rattle.il_ring.specs.declared.plan.Arrival.{Arrival}
use Rattle.il_ring.specs.declared.flight.Flight.{Flight}
use Rattle.il_ring.specs.Flights.{hit, sourced}
use Rattle.il_ring.specs.Guests.{GuestMind, mind_of}
use Rattle.il_ring.specs.Lends.{RoundsEnd, is_break_end}
use Rattle.il_ring.specs.Lending.{IsControlled, going_on}
use Rattle.il_ring.specs.Rings.{RingView, devices_of}
use Rattle.il_ring.specs.Turned.{HalvesOfRound}
use Rattle.il_ring.proofs.Passes.{plain_hit}
use Rattle.il_control.proofs.LentArrivals.{came_by-append}
use Rattle.il_control.proofs.LentPolls.{RoundsEndSo}

-- ---- the last of a list

snoc_same : {A : Type 0} (xs ys : List A) (a b : A) → xs ++ a ∷ [] ≡ ys ++ b ∷ [] → (xs ≡ ys) × (a ≡ b)
snoc_same [] [] a b same = (refl, ap (λ l. elim l [ [] ↦ a | x ∷ rest ↦ x ]) same)
snoc_same [] (y ∷ ys) a b same = let len = ap length same ∙ length-append (y ∷ ys) (b ∷ []) in let no : ⊥ = omega (arith, len) in absurd no
snoc_same (x ∷ xs) [] a b same = let len = sym (length-append (x ∷ xs) (a ∷ [])) ∙ ap length same in let no : ⊥ = omega (arith, len) in absurd no
snoc_same (x ∷ xs) (y ∷ ys) a b same =
    let head : x ≡ y = ap (λ l. elim l [ [] ↦ x | z ∷ rest ↦ z ]) same in
    let rest = snoc_same xs ys a b (ap (λ l. elim l [ [] ↦ xs ++ a ∷ [] | z ∷ rest ↦ rest ]) same) in
    (ap₂ (λ z zs. z ∷ zs) head rest.0, rest.1)

-- a frame of its own came over the last link as it was
pub own_hit : (k : ℕ) (f : Frame) (fault : Option PlanFault) (at : Flight) → is_data f ≡ false → hit fault (sourced k f) ≡ Some at → at ≡ sourced k f
own_hit k f None at other came = sym (ap (λ o. elim o [ Some g ↦ g | None ↦ at ]) came)
own_hit k f (Some fault) at other came = let clash = sym (plain_hit fault (sourced k f) other) ∙ came in cc

-- ---- at every moment

module _ {M : Type 0} (view : M → MediumView) (k last : ℕ) (own : Option ℕ) (base : List Entry) where
  -- ---- after a move

  -- what stays as it was, whatever comes of it
  pub record Stays (r s : RingView M) (arrived : ℕ) (old : Polling view k last own base r arrived) (answer : Arrival) (held : Option Flight) (f : Flight) : Type 0 where
    pub two : HalvesOfRound view (going_on r) held f answer s
    pub controlled_then : IsControlled s
    pub many_then : length (devices_of s) ≡ k
    pub boxed_is : old.boxed ≡ two.boxed
    pub device_is : old.device ≡ two.g.device
    pub control_is : two.g.control ≡ control.Rounds old.place
    pub last_is : two.g.last ≡ last

  pub stays : (r s : RingView M) (arrived : ℕ) (answer : Arrival) (held : Option Flight) (f : Flight) (old : Polling view k last own base r arrived) (two : HalvesOfRound view (going_on r) held f answer s) → IsControlled s → Stays r s arrived old answer held f
  stays r s arrived answer held f old two controlled =
      let at = snoc_same old.boxed two.boxed old.device two.g.device (sym old.after ∙ two.after) in
      let same : old.mind ≡ mind_of two.g = ap (λ o. elim o [ Some m ↦ m | None ↦ old.mind ]) (sym old.mind_is ∙ two.mind) in
      record {
        two = two;
        controlled_then = controlled;
        many_then =
            let before = length-append r.before (device_of r.drive.state ∷ r.after) in
            let after = length-append s.before (device_of s.drive.state ∷ s.after) in
            let here = ap length two.after ∙ length-append two.boxed (two.g.device ∷ []) in
            let there = ap length two.after_then ∙ length-append two.boxed_then (two.h.device ∷ []) in
            omega (arith, before, after, here, there, two.before, two.same_many, old.many);
        boxed_is = at.0;
        device_is = at.1;
        control_is = ap (λ (m : GuestMind). m.control) (sym same) ∙ old.at;
        last_is = ap (λ (m : GuestMind). m.last) (sym same) ∙ old.last_is;
      }

  -- the next place, with these entries more
  pub polls_on : (r s : RingView M) (arrived : ℕ) (answer : Arrival) (held : Option Flight) (f : Flight) (old : Polling view k last own base r arrived) (so : Stays r s arrived old answer held f) (q : Place) (e : List Entry) → so.two.h.control ≡ control.Rounds q → so.two.h.last ≡ so.two.g.last
      → so.two.h.device.roles.address ≡ so.two.g.device.roles.address → IsRoundPlace q → came_by k e ≡ 1 → length e ≤ 2 → s.books.log ≡ r.books.log ++ e → StandsSo view k last own base q s so.two.boxed_then (old.entries ++ e) → Polling view k last own base s (arrived + 1)
  polls_on r s arrived answer held f old so q e at same_last same_address range one short log stands = record {
    controlled = so.controlled_then;
    many = so.many_then;
    boxed = so.two.boxed_then;
    device = so.two.h.device;
    after = so.two.after_then;
    address = same_address ∙ ap (λ (d : DeviceState). d.roles.address) (sym so.device_is) ∙ old.address;
    mind = mind_of so.two.h;
    mind_is = so.two.mind_then;
    last_is = same_last ∙ so.last_is;
    place = q;
    at = at;
    range = range;
    entries = old.entries ++ e;
    log = log ∙ ap (λ log. log ++ e) old.log ∙ append_assoc base old.entries e;
    arrivals = let sum = came_by-append k old.entries e in let before = old.arrivals in omega (arith, sum, one, before);
    short = let sum = length-append old.entries e in let before = old.short in omega (arith, sum, short, before);
    stands = stands;
  }

  -- they broke off after these entries more
  pub broke_off : (r s : RingView M) (arrived : ℕ) (old : Polling view k last own base r arrived) (e tail : List Entry) (end : RoundsEnd) → RoundsEndSo k (addresses own last) (old.entries ++ e) tail end → is_break_end end ≡ true → came_by k e + came_by k tail ≤ 1 → length e + length tail ≤ 3 → s.books.log ≡ r.books.log ++ (e ++ tail) → s.books.lent ≡ None → BrokeOff view k last own base s (arrived + 1)
  broke_off r s arrived old e tail end ends breaks one short log none = record {
    entries = old.entries ++ e;
    tail = tail;
    end = end;
    ends = ends;
    breaks = breaks;
    log = log ∙ ap (λ log. log ++ (e ++ tail)) old.log ∙ append_assoc base old.entries (e ++ tail) ∙ ap (λ es. base ++ es) (sym (append_assoc old.entries e tail));
    arrivals =
        let all = came_by-append k (old.entries ++ e) tail in
        let sum = came_by-append k old.entries e in
        let before = old.arrivals in
        omega (arith, all, sum, one, before);
    short =
        let all = length-append (old.entries ++ e) tail in
        let front = length-append old.entries e in
        let before = old.short in
        omega (arith, all, front, before, short);
    lent_is = none;
  }
