-- A lend from its value and what was added to the ring.
use Rattle.il_ring.specs.Outcomes.{met_between}
use Rattle.std.proofs.Common.{Bool, List, None, [], ap, append-nil, arith, false, length, length-append, subst, sum_by, sym, true, ℕ, ◌&&◌, ◌*◌, ◌++◌, ◌+◌, ◌==◌, ◌∙◌, ◌∷◌, ◌≡◌, ◌≤◌, ◌≢◌}
use Rattle.std.proofs.lemmas.Bool.{and_parts, ne_eqb}
use Rattle.il_frames.specs.declared.entry.Entry.{Entry}
use Rattle.il_device.specs.declared.roles.Roles.{Roles}
use Rattle.il_drive.specs.State.{device_of}
use Rattle.loop_model.specs.Leading.{OneTalkerLed, controller_after_entry, has_one_talker_led, is_in_turn_led, roles_led, roles_led_entry}
use Rattle.loop_model.specs.Reach.{links_of}
use Rattle.loop_model.specs.Roles.{are_numbered, is_at_most_one, talkers}
use Rattle.il_ring.specs.ControlledAdds.{AllTookSince, ControlledSince, standing}
use Rattle.il_ring.specs.Lends.{came_back, is_lend, is_whole_lend, keeps_control, Lend, lend_address, lend_entries, Lent, LentCut, LentLost, NoTaker, NoTakerCut, reports_own, took_back, was_taken}
use Rattle.il_ring.specs.Guests.{IsUnderHost}
use Rattle.il_ring.specs.Lending.{leads}
use Rattle.il_ring.specs.Rings.{IsRing, RingView, devices_of, drive_party, roles_of}
use Rattle.il_ring.specs.Statuses.{answers_always}
use Rattle.il_ring.proofs.ControlledDoes.{length-roles_of}
use Rattle.il_ring.proofs.ControlledSince.{none_stands}
use Rattle.il_ring.proofs.LendLaws.{lend_controlled}
use Rattle.il_ring.proofs.LendTalkers.{lend_idle, lend_one_talker}
use Rattle.il_control.specs.Calls.{IsIdle}
use Rattle.il_control.specs.Lent.{DriveLeft, DriveTold, KeptSince, LendBroken, LendMade, Lends, asked_on, controller_at}

-- if control was taken TCT did not come back
pub taken_not_back : (lend : Lend) → was_taken lend ≡ true → came_back lend ≡ true → ⊥
taken_not_back (NoTaker a) taken back = cc
taken_not_back (NoTakerCut a n q) taken back = cc
taken_not_back (Lent a answers n) taken back = cc
taken_not_back (LentCut a answers n end) taken back = cc
taken_not_back (LentLost a answers n m q) taken back = cc

-- at most one talks at its end
one_controlled : (c : ℕ) (rs : List Roles) (log : List Entry) → has_one_talker_led c rs log ≡ true → is_at_most_one (talkers (roles_led c rs log)) ≡ true
one_controlled c rs [] one = one
one_controlled c rs (e ∷ log) one =
    let parts = and_parts (is_at_most_one (talkers rs)) (is_in_turn_led c (talkers rs) e && has_one_talker_led (controller_after_entry c e) (roles_led_entry c rs e) log) one in
    let rest = and_parts (is_in_turn_led c (talkers rs) e) (has_one_talker_led (controller_after_entry c e) (roles_led_entry c rs e) log) parts.1 in
    one_controlled (controller_after_entry c e) (roles_led_entry c rs e) log rest.1

module _ {M : Type 0} (a limit d : ℕ) (whole : Bool) (q s : RingView M) (idle : IsIdle q) (lend : Lend) (is : is_lend (length (devices_of q)) (asked_on q) limit lend ≡ true) (own : reports_own (asked_on q) lend ≡ true) (whole_is : is_whole_lend lend ≡ whole)
    (address : lend_address lend ≡ a) (at : was_taken lend ≡ true → a ≡ length (devices_of q)) (since : ControlledSince 0 d q s (lend_entries (length (devices_of q)) (asked_on q) lend)) (kept : KeptSince q s) (short : length (lend_entries (length (devices_of q)) (asked_on q) lend) ≤ 2 * limit + 9) (taker : was_taken lend ≡ true → controller_at a q ≡ true) (refused : came_back lend ≡ true → controller_at a q ≡ false) (same_guest : was_taken lend ≡ false → s.guest ≡ q.guest) (answered : answers_always (length (devices_of q)) (drive_party q) None (lend_entries (length (devices_of q)) (asked_on q) lend) ≡ true) (ring : IsRing s) where
  abbrev k : ℕ
  k = length (devices_of q)

  abbrev entries : List Entry
  entries = lend_entries (length (devices_of q)) (asked_on q) lend

  some : (k == 0) ≡ false
  some =
      let all = length-append q.before (device_of q.drive.state ∷ q.after) in
      ne_eqb k 0 (λ e. omega (arith, e, all))

  stood : standing k q.books ≡ []
  stood = none_stands k q.books idle.free.ring.lent idle.free.ring.kept

  all : entries ++ standing k s.books ≡ entries
  all = ap (λ es. entries ++ es) (none_stands k s.books ring.lent ring.kept) ∙ append-nil entries

  many : k ≡ length (roles_of (devices_of q))
  many = sym (length-roles_of (devices_of q))

  last : was_taken lend ≡ true → lend_address lend ≡ k
  last taken = address ∙ at taken

  one : OneTalkerLed 0 (roles_of (devices_of q)) entries
  one = lend_one_talker k (asked_on q) limit lend (roles_of (devices_of q)) many idle.silent idle.numbered is own last

  roles : roles_of (devices_of s) ≡ roles_led 0 (roles_of (devices_of q)) entries
  roles = since.roles (roles_of (devices_of q)) (sym (ap (roles_led 0 (roles_of (devices_of q))) stood)) ∙ ap (roles_led 0 (roles_of (devices_of q))) all

  lends_as : (to : Bool) → whole ≡ to → Lends a limit to q s
  lends_as to is_whole = record {
    lend = lend;
    is = is;
    own = own;
    whole_is = whole_is ∙ is_whole;
    address = address;
    log = since.log;
    short = short;
    kept = kept;
    size = since.size;
    links = since.links;
    crossings = since.crossings;
    linked =
        let linked = since.linked in
        let before = ap (sum_by (links_of k)) stood in
        let after = ap (sum_by (links_of k)) all in
        omega (arith, linked, before, after);
    frames = subst (λ es. AllTookSince k es entries 0 (devices_of q) (devices_of s)) stood (subst (λ es. AllTookSince k (standing k q.books) es 0 (devices_of q) (devices_of s)) all since.frames);
    roles = roles;
    one = one;
    commands = lend_controlled k some (asked_on q) limit lend is;
    taker = taker;
    refused = refused;
    answered = answered;
    guest = same_guest;
  }

  -- after a whole one the loop is idle
  pub lend_made : whole ≡ true → (taken : Bool) → was_taken lend ≡ taken → taken ≡ controller_at a q → DriveTold q s entries → (taken ≡ false → met_between q s ≡ []) → IsUnderHost s.guest → s.books.held ≡ None → LendMade a limit taken q s
  unfolding lends_as
  lend_made is_whole taken taken_is stands drive met host held =
      let rests = lend_idle k (asked_on q) limit lend (roles_of (devices_of q)) many idle.silent idle.numbered is own last (whole_is ∙ is_whole) in
      record {
        lends = lends_as true is_whole;
        taken_is = taken_is;
        stands = stands;
        drive = drive;
        met = met;
        idle = record {
          free = record { ring = ring; held = held };
          host = host;
          silent = ap talkers roles ∙ rests.0;
          numbered = ap (are_numbered 1) roles ∙ rests.1;
        };
      }

  -- after a broken one at most one talks
  pub lend_broken : whole ≡ false → DriveLeft q.drive s.drive → s.books.held ≡ None → met_between q s ≢ [] → (keeps_control lend ≡ true → leads s.guest ≡ true) → (took_back lend ≡ true → IsUnderHost s.guest) → LendBroken a limit q s
  unfolding lends_as
  lend_broken broken drive held met leads_on host = record {
    drive = drive;
    lends = lends_as false broken;
    met = met;
    leads_on = leads_on;
    host_leads = host;
    lost = record {
      free = record { ring = ring; held = held };
      one = ap (λ rs. is_at_most_one (talkers rs)) roles ∙ one_controlled 0 (roles_of (devices_of q)) entries one;
    };
  }
