-- In a lend each command, ready and identify frame is the controller's, or the IFC by which the host takes control back.
use Rattle.std.proofs.Common.{nat_lt, ◌≡◌, ◌∙◌, ◌++◌, ◌==◌, ◌&&◌, ◌||◌, ℕ, zero, suc, Bool, true, false, not, List, [], ◌∷◌, None, if◌then◌else◌, flat_map, refl, ap, append_assoc}
use Rattle.std.proofs.lemmas.Bool.{and_parts, and_from, not-true, or_left, or_right, eq-eqb}
use Rattle.std.specs.List.{list_all}
use Rattle.il_frames.specs.declared.frame.Frame.{Frame}
use Rattle.il_frames.specs.declared.entry.Entry.{Entry}
use Rattle.il_frames.specs.declared.entry.Outcome.{Outcome}
use Rattle.il_frames.specs.declared.entry.Outcome.TheVariants as outcome
use Rattle.il_frames.specs.Frames.{is_data, same_but_service}
use Rattle.il_frames.specs.Messages.{message_of}
use Rattle.il_device.specs.Takes.{eto, ete}
use Rattle.il_frames.specs.NamedFrames.{entry, ifc, nrd, rfc, tad, unl, unt, is_frame}
use Rattle.loop_model.specs.Roles.{is_spoken}
use Rattle.loop_model.specs.Exchanges.{Answer, NotTaken, ToItsEnd, Stopped, Exchange, Receive, Sst, Break, FrameLost, HostAltered, TalkerAltered, answer_entries, break_entries, commanded, cut_at, entries_of, is_address, is_answer, is_echo, returned, start_frame}
use Rattle.loop_model.specs.Leading.{are_commands_led, controller_after, controller_after_entry, is_no_lend, is_of_controller}
use Rattle.loop_model.proofs.LeadingLaws.{are_commands_led-append, controller_after-append, controller_after-no_lend}
use Rattle.il_guest.specs.Frames.{nop, tct}
use Rattle.il_ring.proofs.MessageKinds.{data_says}
use Rattle.il_ring.specs.Lends.{RoundsEnd, AtHost, BreaksOff, ByteLost, Lend, NoTaker, NoTakerCut, Lent, LentCut, LentLost, addressed_talker, receives_of, are_rounds, can_end, ended_after, handed_entries, held_entries, is_lend, is_one_status, is_whole_lend, lend_entries, refused_entries, rounds_asked, rounds_entries}

-- ---- under the host

-- the host's, and no lend
abbrev is_hosts : Entry → Bool
is_hosts e = (e.source == 0) && is_no_lend e

hosts_controlled : (log : List Entry) → list_all is_hosts log ≡ true → (are_commands_led 0 log ≡ true) × (controller_after 0 log ≡ 0)
hosts_controlled [] all = (refl, refl)
hosts_controlled (e ∷ log) all =
    let parts = and_parts (is_hosts e) (list_all is_hosts log) all in
    let here = and_parts (e.source == 0) (is_no_lend e) parts.0 in
    let stays : controller_after_entry 0 e ≡ 0 = stays_hosts e here.1 in
    let rest = hosts_controlled log parts.1 in (
      and_from (is_spoken (message_of e.frame) || is_of_controller 0 e) (are_commands_led (controller_after_entry 0 e) log)
          (or_right (is_spoken (message_of e.frame)) (is_of_controller 0 e) (or_left (e.source == 0) _ here.0))
          (ap (λ c. are_commands_led c log) stays ∙ rest.0),
      ap (λ c. controller_after c log) stays ∙ rest.1,
    )
  where
    stays_hosts : (e : Entry) → is_no_lend e ≡ true → controller_after_entry 0 e ≡ 0
    stays_hosts e none = controller_after-no_lend (e ∷ []) (and_from (is_no_lend e) true none refl)

-- What holds of each entry of a log, and of its frame if it is lost, holds of each entry if a loss ends the log.
pub cut_all : (holds : Entry → Bool) → ((e : Entry) (q : ℕ) → holds e ≡ true → holds (entry e.source e.frame (outcome.Lost q)) ≡ true) → (log : List Entry) (n q : ℕ) → list_all holds log ≡ true → list_all holds (cut_at log n (FrameLost q)) ≡ true
cut_all holds lost [] n q all = refl
cut_all holds lost (e ∷ log) zero q all = and_from (holds (entry e.source e.frame (outcome.Lost q))) true (lost e q (and_parts (holds e) (list_all holds log) all).0) refl
cut_all holds lost (e ∷ log) (suc n) q all =
    let parts = and_parts (holds e) (list_all holds log) all in
    and_from (holds e) (list_all holds (cut_at log n (FrameLost q))) parts.0 (cut_all holds lost log n q parts.1)

-- ---- under party k

-- a frame of that party, or one that a talker speaks, and none of the host
abbrev pub is_controlled : ℕ → ℕ → Frame → Bool
is_controlled k source f = (is_spoken (message_of f) || (source == k)) && not (source == 0)

abbrev pub is_entry_controlled : ℕ → Entry → Bool
is_entry_controlled k e = is_controlled k e.source e.frame

all_controlled : (k : ℕ) (log : List Entry) → list_all (is_entry_controlled k) log ≡ true → (are_commands_led k log ≡ true) × (controller_after k log ≡ k)
all_controlled k [] all = (refl, refl)
all_controlled k (e ∷ log) all =
    let parts = and_parts (is_entry_controlled k e) (list_all (is_entry_controlled k) log) all in
    let here = and_parts (is_spoken (message_of e.frame) || (e.source == k)) (not (e.source == 0)) parts.0 in
    let stays : controller_after_entry k e ≡ k = not_hosts (e.source == 0) _ (not-true (e.source == 0) here.1) in
    let rest = all_controlled k log parts.1 in (
      and_from (is_spoken (message_of e.frame) || is_of_controller k e) (are_commands_led (controller_after_entry k e) log)
          (of_controller (is_spoken (message_of e.frame)) (e.source == k) _ here.0)
          (ap (λ c. are_commands_led c log) stays ∙ rest.0),
      ap (λ c. controller_after c log) stays ∙ rest.1,
    )
  where
    not_hosts : (b : Bool) (c : ℕ) → b ≡ false → (if b then c else k) ≡ k
    not_hosts b c other = ap (λ b. if b then c else k) other

    of_controller : (spoken own back : Bool) → (spoken || own) ≡ true → (spoken || (own || back)) ≡ true
    of_controller true own back h = refl
    of_controller false true back h = refl
    of_controller false false back h = cc

-- the frames of a command and of a receive are party k's, and the answer a talker's
module _ (k : ℕ) (guest : (k == 0) ≡ false) where
  own : (f : Frame) → is_controlled k k f ≡ true
  own f = and_from (is_spoken (message_of f) || (k == k)) (not (k == 0)) (or_right (is_spoken (message_of f)) (k == k) (eq-eqb k k refl)) (ap not guest)

  commands : (f : Frame) (more : List Entry) → list_all (is_entry_controlled k) more ≡ true → list_all (is_entry_controlled k) (commanded k f ++ more) ≡ true
  commands f more all = and_from (is_controlled k k f) _ (own f) (and_from (is_controlled k k rfc) _ (own rfc) all)

  answered : (answer : Answer) → is_one_status k answer ≡ true → (more : List Entry) → list_all (is_entry_controlled k) more ≡ true
      → list_all (is_entry_controlled k) (answer_entries k (start_frame Sst) answer ++ more) ≡ true
  answered NotTaken one more all = and_from (is_controlled k k (start_frame Sst)) _ (own (start_frame Sst)) all
  answered (ToItsEnd p data_frames) one more all = cc
  answered (Stopped p (d ∷ data_frames) last) one more all = cc
  answered (Stopped p [] last) one more all =
      let party = and_parts (not (p == 0)) (nat_lt p k && is_answer k (Stopped p [] last)) one in
      let before = and_parts (nat_lt p k) (is_answer k (Stopped p [] last)) party.1 in
      let echo = and_parts (not (p == k)) (list_all is_echo [] && is_echo last) before.1 in
      let data_frame = and_parts (is_data last.sent) (same_but_service last.sent last.back) echo.1 in
      and_from (is_controlled k k (start_frame Sst)) _ (own (start_frame Sst))
      (and_from (is_controlled k k nrd) _ (own nrd)
      (and_from (is_controlled k p last.sent) _
      (and_from (is_spoken (message_of last.sent) || (p == k)) (not (p == 0)) (or_left (is_spoken (message_of last.sent)) (p == k) (data_says last.sent data_frame.0).spoken) party.0)
      (and_from (is_controlled k p eto) _ party.0 all)))

  status_controlled : (a : ℕ) (answer : Answer) → is_one_status k answer ≡ true → (more : List Entry) → list_all (is_entry_controlled k) more ≡ true
      → list_all (is_entry_controlled k) (entries_of k (Receive a None Sst answer) ++ more) ≡ true
  status_controlled a answer one more all =
      ap (list_all (is_entry_controlled k)) (append_assoc (commanded k unl ++ commanded k (tad a)) (answer_entries k (start_frame Sst) answer ++ commanded k unt) more)
      ∙ commands unl (commanded k (tad a) ++ ((answer_entries k (start_frame Sst) answer ++ commanded k unt) ++ more))
      (commands (tad a) ((answer_entries k (start_frame Sst) answer ++ commanded k unt) ++ more)
      (ap (list_all (is_entry_controlled k)) (append_assoc (answer_entries k (start_frame Sst) answer) (commanded k unt) more)
      ∙ answered answer one (commanded k unt ++ more) (commands unt more all)))

  asked_controlled : (addresses : List ℕ) (answers : List Answer) → list_all (is_one_status k) answers ≡ true → (more : List Exchange)
      → list_all (is_entry_controlled k) (flat_map (entries_of k) more) ≡ true → list_all (is_entry_controlled k) (flat_map (entries_of k) (receives_of addresses answers ++ more)) ≡ true
  asked_controlled [] answers ones more all = all
  asked_controlled (a ∷ addresses) [] ones more all =
      status_controlled a NotTaken refl (flat_map (entries_of k) (receives_of addresses [] ++ more)) (asked_controlled addresses [] refl more all)
  asked_controlled (a ∷ addresses) (answer ∷ answers) ones more all =
      let parts = and_parts (is_one_status k answer) (list_all (is_one_status k) answers) ones in
      status_controlled a answer parts.0 (flat_map (entries_of k) (receives_of addresses answers ++ more)) (asked_controlled addresses answers parts.1 more all)

  rounds_controlled : (addresses : List ℕ) (answers : List (List Answer)) → list_all (λ round. list_all (is_one_status k) round) answers ≡ true
      → list_all (is_entry_controlled k) (rounds_entries k addresses answers) ≡ true
  rounds_controlled addresses [] ones = refl
  rounds_controlled addresses (round ∷ answers) ones =
      let parts = and_parts (list_all (is_one_status k) round) (list_all (λ round. list_all (is_one_status k) round) answers) ones in
      commands nop (flat_map (entries_of k) (receives_of addresses round ++ rounds_asked addresses answers))
      (asked_controlled addresses round parts.0 (rounds_asked addresses answers) (rounds_controlled addresses answers parts.1))

-- What holds of each frame of rounds and of its source, and then of an ETE of that source, holds whatever ends the rounds.
module _ (holds : ℕ → Frame → Bool) (ends : (source : ℕ) (f : Frame) → holds source f ≡ true → holds source ete ≡ true) (k : ℕ) where
  abbrev all_hold : List Entry → Bool
  all_hold log = list_all (λ e. holds e.source e.frame) log

  held_hold : (due : Entry) (more rest : List Entry) → all_hold more ≡ true → all_hold rest ≡ true → all_hold (held_entries k due more ++ rest) ≡ true
  held_hold due [] rest all so = so
  held_hold due (next ∷ more) rest all so = by (is_frame due.frame nrd)
    where
      by : (b : Bool) → all_hold ((elim b [ true ↦ entry next.source next.frame (outcome.Taken k) ∷ [] | false ↦ [] ]) ++ rest) ≡ true
      by true = and_from (holds next.source next.frame) _ (and_parts (holds next.source next.frame) (all_hold more) all).0 so
      by false = so

  broken_hold : (due : Entry) (b : Break) → holds due.source due.frame ≡ true → all_hold (break_entries due b) ≡ true
  broken_hold due (FrameLost q) so = and_from (holds due.source due.frame) true so refl
  broken_hold due (HostAltered f) so = and_from (holds due.source due.frame) true so refl
  broken_hold due (TalkerAltered f end) so = and_from (holds due.source due.frame) _ so (and_from (holds due.source ete) true (ends due.source due.frame so) refl)

  pub ended_hold : (log : List Entry) (n : ℕ) (end : RoundsEnd) → all_hold log ≡ true → all_hold (ended_after k log n end) ≡ true
  ended_hold [] n end all = refl
  ended_hold (e ∷ log) (suc n) end all =
      let parts = and_parts (holds e.source e.frame) (all_hold log) all in
      and_from (holds e.source e.frame) _ parts.0 (ended_hold log n end parts.1)
  ended_hold (e ∷ log) zero AtHost all =
      let parts = and_parts (holds e.source e.frame) (all_hold log) all in
      held_hold e log _ parts.1 (and_from (holds e.source e.frame) true parts.0 refl)
  ended_hold (e ∷ log) zero (BreaksOff b) all =
      let parts = and_parts (holds e.source e.frame) (all_hold log) all in
      held_hold e log _ parts.1 (broken_hold e b parts.0)
  ended_hold (e ∷ []) zero (ByteLost q) all = refl
  ended_hold (e ∷ next ∷ log) zero (ByteLost q) all =
      let parts = and_parts (holds e.source e.frame) (all_hold (next ∷ log)) all in
      and_from (holds next.source next.frame) true (and_parts (holds next.source next.frame) (all_hold log) parts.1).0 refl

-- the rounds, as they end
pub rounds_are_controlled : (k : ℕ) → (k == 0) ≡ false → (addresses : List ℕ) (answers : List (List Answer)) (n : ℕ) (end : RoundsEnd) → are_rounds k addresses answers n end ≡ true
    → list_all (is_entry_controlled k) (ended_after k (rounds_entries k addresses answers) n end) ≡ true
rounds_are_controlled k guest addresses answers n end are =
    let parts = and_parts (list_all (λ a. is_address a) addresses) (list_all (λ round. list_all (is_one_status k) round) answers && can_end k (rounds_entries k addresses answers) n end) are in
    let ones = and_parts (list_all (λ round. list_all (is_one_status k) round) answers) (can_end k (rounds_entries k addresses answers) n end) parts.1 in
    ended_hold (is_controlled k) (λ source f is. (and_parts (is_spoken (message_of f) || (source == k)) (not (source == 0)) is).1) k (rounds_entries k addresses answers) n end (rounds_controlled k guest addresses answers ones.0)

-- the rounds of a lend
abbrev pub AreLent : ℕ → List ℕ → Lend → Type 0
AreLent k addresses (NoTaker a) = Unit {0}
AreLent k addresses (NoTakerCut a n q) = Unit {0}
AreLent k addresses (Lent a answers n) = are_rounds k addresses answers n AtHost ≡ true
AreLent k addresses (LentCut a answers n end) = are_rounds k addresses answers n end ≡ true
AreLent k addresses (LentLost a answers n m q) = are_rounds k addresses answers n AtHost ≡ true

pub are_lent : (k : ℕ) (addresses : List ℕ) (limit : ℕ) (lend : Lend) → is_lend k addresses limit lend ≡ true → AreLent k addresses lend
are_lent k addresses limit (NoTaker a) is = tt
are_lent k addresses limit (NoTakerCut a n q) is = tt
are_lent k addresses limit (Lent a answers n) is =
    (and_parts (are_rounds k addresses answers n AtHost) _ (and_parts (is_address a) _ is).1).0
are_lent k addresses limit (LentCut a answers n end) is =
    (and_parts (are_rounds k addresses answers n end) _ (and_parts (is_address a) _ is).1).0
are_lent k addresses limit (LentLost a answers n m q) is =
    (and_parts (are_rounds k addresses answers n AtHost) _ (and_parts (is_address a) _ is).1).0

-- ---- lends

-- IFC takes control back from any party, lost or not
back_controlled : (k : ℕ) (o : Outcome) (log : List Entry) → are_commands_led 0 log ≡ true → are_commands_led k (entry 0 ifc o ∷ log) ≡ true
back_controlled k o log controlled = and_from ((0 == k) || true) (are_commands_led 0 log) (or_right (0 == k) true refl) controlled

handed_controlled : (a k : ℕ) (log : List Entry) → are_commands_led k log ≡ true → are_commands_led 0 (handed_entries a k ++ log) ≡ true
handed_controlled a k log controlled =
    let hosts = hosts_controlled (addressed_talker a) refl in
    ap (are_commands_led 0) (append_assoc (addressed_talker a) (entry 0 tct (outcome.Taken k) ∷ []) log)
    ∙ are_commands_led-append 0 (addressed_talker a) (entry 0 tct (outcome.Taken k) ∷ log)
    ∙ and_from (are_commands_led 0 (addressed_talker a)) _ hosts.0 (ap (λ c. are_commands_led c (entry 0 tct (outcome.Taken k) ∷ log)) hosts.1 ∙ controlled)

module _ (k : ℕ) (guest : (k == 0) ≡ false) (addresses : List ℕ) where
  turn_controlled : (answers : List (List Answer)) (n : ℕ) (end : RoundsEnd) → are_rounds k addresses answers n end ≡ true
      → (are_commands_led k (ended_after k (rounds_entries k addresses answers) n end) ≡ true) × (controller_after k (ended_after k (rounds_entries k addresses answers) n end) ≡ k)
  turn_controlled answers n end are = all_controlled k (ended_after k (rounds_entries k addresses answers) n end) (rounds_are_controlled k guest addresses answers n end are)

  then_back : (answers : List (List Answer)) (n : ℕ) (log : List Entry) → are_rounds k addresses answers n AtHost ≡ true → are_commands_led k log ≡ true
      → are_commands_led k (ended_after k (rounds_entries k addresses answers) n AtHost ++ log) ≡ true
  then_back answers n log are controlled =
      let turn = turn_controlled answers n AtHost are in
      are_commands_led-append k (ended_after k (rounds_entries k addresses answers) n AtHost) log
      ∙ and_from _ _ turn.0 (ap (λ c. are_commands_led c log) turn.1 ∙ controlled)

  pub lend_controlled : (limit : ℕ) (lend : Lend) → is_lend k addresses limit lend ≡ true → are_commands_led 0 (lend_entries k addresses lend) ≡ true
  lend_controlled limit (NoTaker a) is = (hosts_controlled (refused_entries a) refl).0
  lend_controlled limit (NoTakerCut a n q) is = (hosts_controlled (cut_at (refused_entries a) n (FrameLost q)) (cut_all is_hosts (λ e q is. and_from (e.source == 0) true (and_parts (e.source == 0) (is_no_lend e) is).0 refl) (refused_entries a) n q refl)).0
  lend_controlled limit (Lent a answers n) is =
      handed_controlled a k (ended_after k (rounds_entries k addresses answers) n AtHost ++ commanded 0 ifc)
      (then_back answers n (commanded 0 ifc) (are_lent k addresses limit (Lent a answers n) is) (back_controlled k (outcome.Back ifc) (returned 0 rfc ∷ []) refl))
  lend_controlled limit (LentCut a answers n end) is =
      handed_controlled a k (ended_after k (rounds_entries k addresses answers) n end) (turn_controlled answers n end (are_lent k addresses limit (LentCut a answers n end) is)).0
  lend_controlled limit (LentLost a answers n m q) is =
      handed_controlled a k (ended_after k (rounds_entries k addresses answers) n AtHost ++ cut_at (commanded 0 ifc) m (FrameLost q))
      (then_back answers n (cut_at (commanded 0 ifc) m (FrameLost q)) (are_lent k addresses limit (LentLost a answers n m q) is) (lost m))
    where
      lost : (m : ℕ) → are_commands_led k (cut_at (commanded 0 ifc) m (FrameLost q)) ≡ true
      lost zero = back_controlled k (outcome.Lost q) [] refl
      lost (suc zero) = back_controlled k (outcome.Back ifc) (entry 0 rfc (outcome.Lost q) ∷ []) refl
      lost (suc (suc m)) = back_controlled k (outcome.Back ifc) (returned 0 rfc ∷ []) refl

  -- after a whole lend the host controls the loop
  pub lend_returned : (lend : Lend) → is_whole_lend lend ≡ true → controller_after 0 (lend_entries k addresses lend) ≡ 0
  lend_returned (NoTaker a) whole = (hosts_controlled (refused_entries a) refl).1
  lend_returned (NoTakerCut a n q) whole = cc
  lend_returned (Lent a answers n) whole =
      controller_after-append 0 (handed_entries a k) (ended_after k (rounds_entries k addresses answers) n AtHost ++ commanded 0 ifc)
      ∙ controller_after-append (controller_after 0 (handed_entries a k)) (ended_after k (rounds_entries k addresses answers) n AtHost) (commanded 0 ifc)
  lend_returned (LentCut a answers n end) whole = cc
  lend_returned (LentLost a answers n m q) whole = cc
