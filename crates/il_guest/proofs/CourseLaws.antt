-- Whatever frames came: as long as a second controller has not fallen silent, its moves are the beginning
-- of rounds, and what it sent last is what these rounds send next.
use Rattle.std.proofs.Common.{◌≡◌, ◌⊎◌, inl, inr, ◌∙◌, ℕ, zero, suc, ◌-◌, ◌++◌, Bool, true, false, if◌then◌else◌, List, [], ◌∷◌, Option, Some, None, refl, sym, ap, subst, arith}
use Rattle.il_frames.specs.declared.frame.Frame.{Frame}
use Rattle.il_frames.specs.Frames.{is_data}
use Rattle.il_device.specs.Roles.{is_own}
use Rattle.il_device.specs.Takes.{eto}
use Rattle.il_guest.specs.declared.control.Command.{Command}
use Rattle.il_guest.specs.declared.control.Command.TheVariants as command
use Rattle.il_guest.specs.declared.control.Place.{Place}
use Rattle.il_guest.specs.declared.control.Place.TheVariants as place
use Rattle.il_guest.specs.declared.control.Control.{Control}
use Rattle.il_guest.specs.declared.control.Control.TheVariants as control
use Rattle.il_guest.specs.declared.guest.GuestOut.TheVariants.{Relay}
use Rattle.il_frames.specs.NamedFrames.{tad, unt, rfc, nrd, is_frame}
use Rattle.il_guest.specs.Frames.{sst}
use Rattle.il_guest.specs.Rounds.{Move, own_returned, command_moves, asked, addresses_from, addresses, first_of, after_first, all_polled, rounds}
use Rattle.il_guest.specs.Steps.{command_frame, out_at, passed_over, asking, command_then, expecting, start_then, control_after}
use Rattle.il_guest.specs.Courses.{first_control, control_after_all, moves}
use Rattle.il_guest.proofs.RoundLaws.{is_same-true, next-not-own, asking-past, asking-within}

module _ (own : Option ℕ) (last : ℕ) where
  -- ---- the rest of a round

  -- the addresses after this one are asked
  abbrev asked_after : ℕ → List (Option Frame) → List Move
  asked_after a answers = all_polled (addresses_from own (suc a) (last - a)) answers

  -- untalk, and the addresses after this one
  abbrev untalking : ℕ → List (Option Frame) → List Move
  untalking a answers = own_returned unt ∷ own_returned rfc ∷ asked_after a answers

  -- SST, its answer, and what follows
  abbrev starting : ℕ → List (Option Frame) → List Move
  starting a answers = (asked (first_of answers) ++ command_moves unt) ++ asked_after a (after_first answers)

  -- the moves from a command to the end of the round
  abbrev rest_after : Command → List (Option Frame) → List Move
  rest_after command.Nop answers = own_returned rfc ∷ all_polled (addresses own last) answers
  rest_after (command.Unl a) answers = own_returned rfc ∷ own_returned (tad a) ∷ own_returned rfc ∷ starting a answers
  rest_after (command.Tad a) answers = own_returned rfc ∷ starting a answers
  rest_after (command.Unt a) answers = own_returned rfc ∷ asked_after a answers

  -- the moves from a place to the end of the round
  abbrev rest_of : Place → List (Option Frame) → List Move
  rest_of (place.Command c) answers = own_returned (command_frame c) ∷ rest_after c answers
  rest_of (place.Ready c) answers = rest_after c answers
  rest_of (place.Start a) answers = starting a answers
  rest_of (place.Held a d) answers = own_returned nrd ∷ record { sends = Relay d; comes = eto } ∷ untalking a answers
  rest_of (place.Relayed a d) answers = record { sends = Relay d; comes = eto } ∷ untalking a answers

  -- the same, and further rounds
  abbrev ahead : Place → List (Option Frame) → List (List (Option Frame)) → List Move
  ahead p answers more = rest_of p answers ++ rounds own last more

  -- ---- the next address

  -- after this address none is asked; or the next one is
  abbrev IsNext : ℕ → List ℕ → Type 0
  IsNext b list = ((list ≡ []) × (asking last b ≡ command.Nop)) ⊎ ((list ≡ b ∷ addresses_from own (suc b) (last - b)) × (asking last b ≡ command.Unl b))

  first-next : (n a : ℕ) → n ≡ last - a → IsNext (passed_over own (suc a)) (addresses_from own (suc a) n)
  first-next zero a e = by_own (is_own own (suc a))
    where
      by_own : (b : Bool) → IsNext (if b then suc (suc a) else suc a) []
      by_own true = inl (refl, asking-past last (suc (suc a)) (omega (arith, e)))
      by_own false = inl (refl, asking-past last (suc a) (omega (arith, e)))
  first-next (suc m) a e = by_own (is_own own (suc a)) refl m refl
    where
      from : (k b : ℕ) → k ≡ last - b → (b ∷ addresses_from own (suc b) k) ≡ b ∷ addresses_from own (suc b) (last - b)
      from k b h = ap (λ x. b ∷ addresses_from own (suc b) x) h

      by_own : (b : Bool) → b ≡ is_own own (suc a) → (k : ℕ) → k ≡ m → IsNext (if b then suc (suc a) else suc a) (if b then addresses_from own (suc (suc a)) k else suc a ∷ addresses_from own (suc (suc a)) k)
      by_own false is k h = inr (from k (suc a) (omega (arith, e, h)), asking-within last (suc a) (omega (arith, e, h)))
      by_own true is zero h = inl (refl, asking-past last (suc (suc a)) (omega (arith, e, h)))
      by_own true is (suc k) h =
          inr (rw (next-not-own own (suc a) (sym is)) (from k (suc (suc a)) (omega (arith, e, h))), asking-within last (suc (suc a)) (omega (arith, e, h)))

  -- ---- one frame

  -- some rest of rounds begins at this place with this move, and goes on so
  abbrev Goes : Place → Frame → List Move → Type 0
  Goes p f ms = (answers : List (Option Frame)) × (more : List (List (Option Frame))) × (ahead p answers more ≡ record { sends = out_at p; comes = f } ∷ ms)

  expected : (b : Bool) (p q : Place) → expecting b p ≡ control.Rounds q → (b ≡ true) × (p ≡ q)
  expected true p q e = (refl, cc)
  expected false p q e = cc

  -- after a command that an address follows
  asks-next : (n a : ℕ) (answers : List (Option Frame)) (more : List (List (Option Frame))) → n ≡ last - a →
      (fewer : List (Option Frame)) × (further : List (List (Option Frame))) × ((all_polled (addresses_from own (suc a) n) fewer ++ rounds own last further) ≡ ahead (place.Command (asking last (passed_over own (suc a)))) answers more)
  asks-next n a answers more left = by_next (first-next n a left)
    where
      by_next : IsNext (passed_over own (suc a)) (addresses_from own (suc a) n) →
          (fewer : List (Option Frame)) × (further : List (List (Option Frame))) × ((all_polled (addresses_from own (suc a) n) fewer ++ rounds own last further) ≡ ahead (place.Command (asking last (passed_over own (suc a)))) answers more)
      by_next (inl none) = ([], answers ∷ more, rw (none.0, none.1) refl)
      by_next (inr next) = (answers, more, rw (next.0, next.1) refl)

  goes-ready : (c : Command) (q : Place) (answers : List (Option Frame)) (more : List (List (Option Frame))) → command_then own last c ≡ q → Goes (place.Ready c) rfc (ahead q answers more)
  goes-ready command.Nop q answers more e =
      let next = asks-next last 0 answers more (omega arith) in
      (next.0, next.1, ap (λ (ms : List Move). own_returned rfc ∷ ms) next.2 ∙ ap (λ (p : Place). own_returned rfc ∷ ahead p answers more) e)
  goes-ready (command.Unl a) q answers more e = (answers, more, ap (λ (p : Place). own_returned rfc ∷ ahead p answers more) e)
  goes-ready (command.Tad a) q answers more e = (answers, more, ap (λ (p : Place). own_returned rfc ∷ ahead p answers more) e)
  goes-ready (command.Unt a) q answers more e =
      let next = asks-next (last - a) a answers more refl in
      (next.0, next.1, ap (λ (ms : List Move). own_returned rfc ∷ ms) next.2 ∙ ap (λ (p : Place). own_returned rfc ∷ ahead p answers more) e)

  -- where the frame leads to another place, rests of rounds that go on there begin with this move
  goes : (p q : Place) (f : Frame) (answers : List (Option Frame)) (more : List (List (Option Frame))) → control_after own last p f ≡ control.Rounds q → Goes p f (ahead q answers more)
  goes (place.Command c) q f answers more e =
      let right = expected (is_frame f (command_frame c)) (place.Ready c) q e in
      rw (is_same-true f (command_frame c) right.0, ← right.1) (answers, more, refl)
  goes (place.Ready c) q f answers more e =
      let right = expected (is_frame f rfc) (command_then own last c) q e in
      rw (is_same-true f rfc right.0) (goes-ready c q answers more right.1)
  goes (place.Start a) q f answers more e = by_data (is_data f) e
    where
      by_data : (b : Bool) → start_then a f b ≡ control.Rounds q → Goes (place.Start a) f (ahead q answers more)
      by_data true e = let held : place.Held a f ≡ q = cc in rw (← held) (Some f ∷ answers, more, refl)
      by_data false e =
          let right = expected (is_frame f sst) (place.Command (command.Unt a)) q e in
          rw (is_same-true f sst right.0, ← right.1) (None ∷ answers, more, refl)
  goes (place.Held a d) q f answers more e =
      let right = expected (is_frame f nrd) (place.Relayed a d) q e in
      rw (is_same-true f nrd right.0, ← right.1) (answers, more, refl)
  goes (place.Relayed a d) q f answers more e =
      let right = expected (is_frame f eto) (place.Command (command.Unt a)) q e in
      rw (is_same-true f eto right.0, ← right.1) (answers, more, refl)

  -- ---- many frames

  -- some rest of rounds begins at the place p with these moves, and what is sent next is sent at q
  pub record Leads (p q : Place) (ms : List Move) : Type 0 where
    pub answers : List (Option Frame)
    pub more : List (List (Option Frame))
    pub next : Frame
    pub rest : List Move
    pub begins : ahead p answers more ≡ ms ++ record { sends = out_at q; comes = next } ∷ rest

  -- once silent it stays so, and once the host controls that stays so too
  pub stays-silent : (fs : List Frame) → control_after_all own last control.Silent fs ≡ control.Silent
  stays-silent [] = refl
  stays-silent (f ∷ fs) = stays-silent fs

  pub stays-host : (fs : List Frame) → control_after_all own last control.Host fs ≡ control.Host
  stays-host [] = refl
  stays-host (f ∷ fs) = stays-host fs

  leads-here : (p : Place) → Leads p p []
  leads-here (place.Command c) = record { answers = []; more = []; next = command_frame c; rest = _; begins = refl }
  leads-here (place.Ready command.Nop) = record { answers = []; more = []; next = rfc; rest = _; begins = refl }
  leads-here (place.Ready (command.Unl a)) = record { answers = []; more = []; next = rfc; rest = _; begins = refl }
  leads-here (place.Ready (command.Tad a)) = record { answers = []; more = []; next = rfc; rest = _; begins = refl }
  leads-here (place.Ready (command.Unt a)) = record { answers = []; more = []; next = rfc; rest = _; begins = refl }
  leads-here (place.Start a) = record { answers = []; more = []; next = sst; rest = _; begins = refl }
  leads-here (place.Held a d) = record { answers = []; more = []; next = nrd; rest = _; begins = refl }
  leads-here (place.Relayed a d) = record { answers = []; more = []; next = eto; rest = _; begins = refl }

  leads-on : (p r q : Place) (f : Frame) (ms : List Move) → control_after own last p f ≡ control.Rounds r → Leads r q ms → Leads p q (record { sends = out_at p; comes = f } ∷ ms)
  leads-on p r q f ms e led =
      let first = goes p r f led.answers led.more e in
      record {
        answers = first.0;
        more = first.1;
        next = led.next;
        rest = led.rest;
        begins = first.2 ∙ ap (λ (xs : List Move). record { sends = out_at p; comes = f } ∷ xs) led.begins;
      }

  leads : (p q : Place) (fs : List Frame) → control_after_all own last (control.Rounds p) fs ≡ control.Rounds q → Leads p q (moves own last (control.Rounds p) fs)
  leads p q [] e = let here : p ≡ q = cc in subst (λ (x : Place). Leads p x []) here (leads-here p)
  leads p q (f ∷ fs) e = on (control_after own last p f) refl e (λ r. leads r q fs)
    where
      on : (c : Control) → control_after own last p f ≡ c → control_after_all own last c fs ≡ control.Rounds q → ((r : Place) → control_after_all own last (control.Rounds r) fs ≡ control.Rounds q → Leads r q (moves own last (control.Rounds r) fs)) →
          Leads p q (record { sends = out_at p; comes = f } ∷ moves own last c fs)
      on (control.Rounds r) is e led = leads-on p r q f (moves own last (control.Rounds r) fs) is (led r e)
      on control.Silent is e led = let clash : control.Silent ≡ control.Rounds q = sym (stays-silent fs) ∙ e in cc
      on control.Host is e led = let clash : control.Host ≡ control.Rounds q = sym (stays-host fs) ∙ e in cc

  -- whatever frames came since it began: where it stands at a place of its rounds, some rounds begin with
  -- its moves, and go on with what it sent last
  pub rounds-led : (q : Place) (fs : List Frame) → control_after_all own last first_control fs ≡ control.Rounds q →
      (all : List (List (Option Frame))) × (next : Frame) × (rest : List Move) × (rounds own last all ≡ moves own last first_control fs ++ record { sends = out_at q; comes = next } ∷ rest)
  rounds-led q fs e =
      let led = leads (place.Command command.Nop) q fs e in
      (led.answers ∷ led.more, led.next, led.rest, led.begins)
