-- In control a second controller makes its rounds: as the frames come that it waits for, it makes exactly
-- the moves of rounds; and whatever came, as long as it has not fallen silent its moves begin rounds.
use Rattle.std.proofs.Common.{◌≡◌, ◌≤◌, ◌<◌, ℕ, zero, suc, ◌+◌, ◌==◌, ◌++◌, Bool, true, false, nat_le, if◌then◌else◌, List, [], ◌∷◌, map, set, Option, Some, None, refl, sym, ap, subst, arith}
use Rattle.std.specs.List.{list_all}
use Rattle.std.proofs.lemmas.Bool.{and_parts, eqb-true, eq-eqb, ne_eqb}
use Rattle.std.proofs.lemmas.Bool.Decides.{nat_tests}
use Rattle.il_frames.specs.declared.frame.Class.{Class}
use Rattle.il_frames.specs.declared.frame.Class.TheVariants as class
use Rattle.il_frames.specs.declared.frame.Frame.{Frame}
use Rattle.il_frames.specs.Frames.{class_of, byte_of, framed, same_class, is_data_class}
use Rattle.il_device.specs.Roles.{is_own}
use Rattle.il_guest.specs.declared.control.Command.{Command}
use Rattle.il_guest.specs.declared.control.Command.TheVariants as command
use Rattle.il_guest.specs.declared.control.Place.TheVariants as place
use Rattle.il_guest.specs.declared.control.Control.{Control}
use Rattle.il_guest.specs.declared.control.Control.TheVariants as control
use Rattle.il_frames.specs.NamedFrames.{unl, tad, unt, is_frame}
use Rattle.il_guest.specs.Frames.{nop, sst}
use Rattle.il_guest.specs.Rounds.{Move, command_moves, asked, poll_moves, addresses_from, addresses, first_of, after_first, all_polled, round, rounds, is_status_answer, status_told, all_told, rounds_told}
use Rattle.il_guest.specs.Steps.{command_frame, out_of, passed_over, asking, command_then, noted}
use Rattle.il_guest.specs.Courses.{first_control, control_next, control_after_all, told_by_control, found_after_all, moves}

-- ---- equal frames

same-classes : (k l : Class) → same_class k l ≡ true → k ≡ l
same-classes class.Dab class.Dab e = refl
same-classes class.Dsr class.Dsr e = refl
same-classes class.End class.End e = refl
same-classes class.Esr class.Esr e = refl
same-classes class.Cmd class.Cmd e = refl
same-classes class.Rdy class.Rdy e = refl
same-classes class.Idy class.Idy e = refl
same-classes class.Isr class.Isr e = refl
same-classes k l e = cc

-- frames that are the same are equal
pub is_same-true : (f g : Frame) → is_frame f g ≡ true → f ≡ g
is_same-true f g e =
    let parts = and_parts (same_class (class_of f) (class_of g)) (byte_of f == byte_of g) e in
    framed_same f.class g.class f.byte g.byte (same-classes f.class g.class parts.0) (eqb-true f.byte g.byte parts.1)
  where
    framed_same : (k l : Class) (a b : ℕ) → k ≡ l → a ≡ b → framed k a ≡ framed l b
    framed_same k l a b h j = rw (h, j) refl

-- and a frame is the same as itself
pub is_same-refl : (f : Frame) → is_frame f f ≡ true
is_same-refl f = rw (class_refl f.class) (eq-eqb f.byte f.byte refl)
  where
    class_refl : (k : Class) → same_class k k ≡ true
    class_refl class.Dab = refl
    class_refl class.Dsr = refl
    class_refl class.End = refl
    class_refl class.Esr = refl
    class_refl class.Cmd = refl
    class_refl class.Rdy = refl
    class_refl class.Idy = refl
    class_refl class.Isr = refl

-- ---- the next address

-- the own address is one alone
pub next-not-own : (own : Option ℕ) (a : ℕ) → is_own own a ≡ true → is_own own (suc a) ≡ false
next-not-own None a e = cc
next-not-own (Some b) a e = let same = eqb-true b a e in ne_eqb b (suc a) (λ x. omega (arith, same, x))

nat_le-past : (b last : ℕ) → last < b → nat_le b last ≡ false
nat_le-past b last h = grind (arith, nat_tests)

nat_le-within : (b last : ℕ) → b ≤ last → nat_le b last ≡ true
nat_le-within b last h = grind (arith, nat_tests)

-- past the last address a new round begins
pub asking-past : (last b : ℕ) → last < b → asking last b ≡ command.Nop
asking-past last b h = rw (nat_le-past b last h) refl

-- up to the last one the address is asked
pub asking-within : (last b : ℕ) → b ≤ last → asking last b ≡ command.Unl b
asking-within last b h = rw (nat_le-within b last h) refl

module _ (own : Option ℕ) (last : ℕ) where
  -- ---- as the frames come that it waits for

  -- from one control and what was told it makes these moves to another
  abbrev Plays : Control → List (Option ℕ) → List Move → Control → List (Option ℕ) → Type 0
  Plays c found [] d now = (d ≡ c) × (now ≡ found)
  Plays c found (m ∷ ms) d now = (out_of c ≡ m.sends) × Plays (control_next own last c m.comes) (noted (told_by_control c m.comes) found) ms d now

  Plays-append : (c d e : Control) (found now end : List (Option ℕ)) (xs ys : List Move) → Plays c found xs d now → Plays d now ys e end → Plays c found (xs ++ ys) e end
  Plays-append c d e found now end [] ys h k =
      subst (λ (x : Control). Plays x found ys e end) h.0 (subst (λ (x : List (Option ℕ)). Plays d x ys e end) h.1 k)
  Plays-append c d e found now end (m ∷ xs) ys h k =
      (h.0, Plays-append (control_next own last c m.comes) d e (noted (told_by_control c m.comes) found) now end xs ys h.1 k)

  Plays-moves : (c d : Control) (found now : List (Option ℕ)) (ms : List Move) → Plays c found ms d now →
      (moves own last c (map (λ m. m.comes) ms) ≡ ms) × (control_after_all own last c (map (λ m. m.comes) ms) ≡ d) × (found_after_all own last c (map (λ m. m.comes) ms) found ≡ now)
  Plays-moves c d found now [] h = (refl, sym h.0, sym h.1)
  Plays-moves c d found now (m ∷ ms) h =
      let rest = Plays-moves (control_next own last c m.comes) d (noted (told_by_control c m.comes) found) now ms h.1 in
      (rw (h.0, rest.0) refl, rest.1, rest.2)

  Plays-command : (c : Command) (found : List (Option ℕ)) → Plays (control.Rounds (place.Command c)) found (command_moves (command_frame c)) (control.Rounds (command_then own last c)) found
  Plays-command c found = (refl, rw (is_same-refl (command_frame c)) (refl, (refl, refl)))

  data-not-sst : (k : Class) (byte : ℕ) → is_data_class k ≡ true → is_frame (framed k byte) sst ≡ false
  data-not-sst class.Dab byte e = refl
  data-not-sst class.Dsr byte e = refl
  data-not-sst class.End byte e = refl
  data-not-sst class.Esr byte e = refl
  data-not-sst k byte e = cc

  Plays-asked : (a : ℕ) (answer : Option Frame) (found : List (Option ℕ)) → is_status_answer answer ≡ true → Plays (control.Rounds (place.Start a)) found (asked answer) (control.Rounds (place.Command (command.Unt a))) (set found a (status_told answer))
  Plays-asked a None found e = (refl, (refl, refl))
  Plays-asked a (Some d) found e = (refl, rw (e, data-not-sst d.class d.byte e) (refl, (refl, (refl, refl))))

  -- where it has sent this command
  abbrev at : Command → Control
  at c = control.Rounds (place.Command c)

  Plays-polled : (a : ℕ) (answer : Option Frame) (found : List (Option ℕ)) → is_status_answer answer ≡ true → Plays (at (command.Unl a)) found (poll_moves a answer) (control.Rounds (command_then own last (command.Unt a))) (set found a (status_told answer))
  Plays-polled a answer found e =
      let end = control.Rounds (command_then own last (command.Unt a)) in
      let now = set found a (status_told answer) in
      Plays-append (at (command.Unl a)) (at (command.Tad a)) end found found now (command_moves unl) (command_moves (tad a) ++ (asked answer ++ command_moves unt)) (Plays-command (command.Unl a) found)
      (Plays-append (at (command.Tad a)) (control.Rounds (place.Start a)) end found found now (command_moves (tad a)) (asked answer ++ command_moves unt) (Plays-command (command.Tad a) found)
      (Plays-append (control.Rounds (place.Start a)) (at (command.Unt a)) end found now now (asked answer) (command_moves unt) (Plays-asked a answer found e) (Plays-command (command.Unt a) now)))

  first-answer : (answers : List (Option Frame)) → list_all is_status_answer answers ≡ true → (is_status_answer (first_of answers) ≡ true) × (list_all is_status_answer (after_first answers) ≡ true)
  first-answer [] e = (refl, refl)
  first-answer (answer ∷ answers) e = and_parts (is_status_answer answer) (list_all is_status_answer answers) e

  past : (a : ℕ) → last < a → asking last (passed_over own a) ≡ command.Nop
  past a far = by_own (is_own own a)
    where
      by_own : (own_one : Bool) → asking last (if own_one then suc a else a) ≡ command.Nop
      by_own true = asking-past last (suc a) (omega (arith, far))
      by_own false = asking-past last a far

  -- from this address on, of which so many are left, the addresses are asked
  abbrev AsksAll : ℕ → ℕ → Type 0
  AsksAll n a = (answers : List (Option Frame)) (found : List (Option ℕ)) → list_all is_status_answer answers ≡ true →
      Plays (at (asking last (passed_over own a))) found (all_polled (addresses_from own a n) answers) first_control (all_told (addresses_from own a n) answers found)

  Plays-all : (n a : ℕ) → n + a ≡ suc last → AsksAll n a
  Plays-all zero a e answers found legal = (ap at (sym (past a (omega (arith, e)))), refl)
  Plays-all (suc m) a e answers found legal = by_own (is_own own a) refl (Plays-all m (suc a) (omega (arith, e)))
    where
      by_own : (b : Bool) → b ≡ is_own own a → AsksAll m (suc a) →
          Plays (at (asking last (if b then suc a else a))) found (all_polled (if b then addresses_from own (suc a) m else a ∷ addresses_from own (suc a) m) answers) first_control (all_told (if b then addresses_from own (suc a) m else a ∷ addresses_from own (suc a) m) answers found)
      by_own true is next =
          subst (λ (x : ℕ). Plays (at (asking last x)) found (all_polled (addresses_from own (suc a) m) answers) first_control (all_told (addresses_from own (suc a) m) answers found))
          (rw (next-not-own own a (sym is)) refl) (next answers found legal)
      by_own false is next =
          let first = first-answer answers legal in
          let now = set found a (status_told (first_of answers)) in
          rw (asking-within last a (omega (arith, e)))
          (Plays-append (at (command.Unl a)) (at (asking last (passed_over own (suc a)))) first_control found now (all_told (addresses_from own (suc a) m) (after_first answers) now)
          (poll_moves a (first_of answers)) (all_polled (addresses_from own (suc a) m) (after_first answers))
          (Plays-polled a (first_of answers) found first.0) (next (after_first answers) now first.1))

  Plays-round : (answers : List (Option Frame)) (found : List (Option ℕ)) → list_all is_status_answer answers ≡ true → Plays first_control found (round own last answers) first_control (all_told (addresses own last) answers found)
  Plays-round answers found legal =
      Plays-append first_control (at (asking last (passed_over own 1))) first_control found found (all_told (addresses own last) answers found) (command_moves nop) (all_polled (addresses own last) answers)
      (Plays-command command.Nop found) (Plays-all last 1 (omega arith) answers found legal)

  Plays-rounds : (all : List (List (Option Frame))) (found : List (Option ℕ)) → list_all (list_all is_status_answer) all ≡ true → Plays first_control found (rounds own last all) first_control (rounds_told own last all found)
  Plays-rounds [] found legal = (refl, refl)
  Plays-rounds (answers ∷ more) found legal =
      let parts = and_parts (list_all is_status_answer answers) (list_all (list_all is_status_answer) more) legal in
      let now = all_told (addresses own last) answers found in
      Plays-append first_control first_control first_control found now (rounds_told own last more now) (round own last answers) (rounds own last more) (Plays-round answers found parts.0) (Plays-rounds more now parts.1)

  -- as the frames of rounds come to it, it makes exactly their moves, begins the next round, and has kept
  -- what was told
  pub moves-rounds : (all : List (List (Option Frame))) (found : List (Option ℕ)) → list_all (list_all is_status_answer) all ≡ true →
      (moves own last first_control (map (λ m. m.comes) (rounds own last all)) ≡ rounds own last all) × (control_after_all own last first_control (map (λ m. m.comes) (rounds own last all)) ≡ first_control)
      × (found_after_all own last first_control (map (λ m. m.comes) (rounds own last all)) found ≡ rounds_told own last all found)
  moves-rounds all found legal = Plays-moves first_control first_control found (rounds_told own last all found) (rounds own last all) (Plays-rounds all found legal)
