-- A second controller at a place of its rounds, at every moment at which a frame is at the host.
pub use Rattle.il_control.specs.Polling.{RoundsEndSo}
use Rattle.std.proofs.Common.{◌≡◌, ◌≢◌, ◌∙◌, ◌≤◌, ◌<◌, ◌++◌, ◌&&◌, ◌==◌, if◌then◌else◌, not, nat_le, nat_lt, ℕ, true, false, List, [], ◌∷◌, length, take, refl, sym, ap, ap₂, arith}
use Rattle.std.proofs.lemmas.Bool.{and_from, eq-eqb, le-leb, lt-ltb, ne_eqb}
use Rattle.il_frames.specs.declared.entry.Entry.{Entry}
use Rattle.il_frames.specs.declared.entry.Outcome.{Outcome}
use Rattle.il_frames.specs.declared.entry.Outcome.TheVariants as outcome
use Rattle.il_frames.specs.declared.frame.Frame.{Frame}
use Rattle.il_frames.specs.declared.frame.Class.{Class}
use Rattle.il_frames.specs.declared.frame.Class.TheVariants as class
use Rattle.il_frames.specs.Frames.{byte_of, framed, is_data, is_data_class, same_but_service}
use Rattle.il_frames.specs.NamedFrames.{entry, is_frame, nrd, rfc, unt}
use Rattle.il_device.specs.Takes.{eto, ete}
use Rattle.loop_model.specs.Exchanges.{Answer, Echo, Stopped, FrameLost, TalkerAltered, echoed, is_altered, is_answer, is_break, is_echo, is_end, returned}
use Rattle.il_guest.specs.declared.control.Command.{Command}
use Rattle.il_guest.specs.Steps.{command_frame}
use Rattle.il_ring.specs.Lends.{RoundsEnd, AtHost, BreaksOff, ByteLost, can_end, can_end_by, can_lose, end_entries, ended_after, is_end_at, is_one_status, rounds_entries, lies_after}
use Rattle.il_ring.specs.Remaining.{BeginRounds, asked_yet, from_byte, from_unt}
use Rattle.il_ring.proofs.RelayRounds.{wrong_echo}
use Rattle.il_ring.proofs.Remaining.{none_told}
use Rattle.il_ring.proofs.MessageKinds.{each_command}

-- ---- the end of rounds

ended_after_front : (k : ℕ) (entries : List Entry) (due : Entry) (more : List Entry) (end : RoundsEnd) → (ended_after k (entries ++ due ∷ more) (length entries) end ≡ entries ++ end_entries k due more end) × (can_end k (entries ++ due ∷ more) (length entries) end ≡ is_end_at k due more end)
ended_after_front k [] due more end = (refl, refl)
ended_after_front k (e ∷ entries) due more end = let rest = ended_after_front k entries due more end in (ap (λ es. e ∷ es) rest.0, rest.1)

take_front : (entries : List Entry) (rest : List Entry) → take (length entries) (entries ++ rest) ≡ entries
take_front [] rest = refl
take_front (e ∷ entries) rest = ap (λ es. e ∷ es) (take_front entries rest)

-- as a place in them
pub ends_at : (k : ℕ) (asked : List ℕ) (entries tail : List Entry) (end : RoundsEnd) → (so : RoundsEndSo k asked entries tail end)
    → (ended_after k (rounds_entries k asked so.all) (length entries) end ≡ entries ++ tail) × (can_end k (rounds_entries k asked so.all) (length entries) end ≡ true) × (take (length entries) (rounds_entries k asked so.all) ≡ entries)
ends_at k asked entries tail end so =
    let at = ended_after_front k entries so.due so.more end in (
      ap (λ es. ended_after k es (length entries) end) so.rounds ∙ at.0 ∙ ap (λ es. entries ++ es) (sym so.tail_is),
      ap (λ es. can_end k es (length entries) end) so.rounds ∙ at.1 ∙ so.legal,
      ap (take (length entries)) so.rounds ∙ take_front entries (so.due ∷ so.more),
    )

-- no data or end frame is NRD
pub data_no_nrd : (f : Frame) → is_data f ≡ true → is_frame f nrd ≡ false
data_no_nrd f is = by f.class f.byte is
  where
    by : (c : Class) (byte : ℕ) → is_data_class c ≡ true → is_frame (framed c byte) nrd ≡ false
    by class.Dab byte is = refl
    by class.Dsr byte is = refl
    by class.End byte is = refl
    by class.Esr byte is = refl
    by class.Cmd byte is = cc
    by class.Rdy byte is = cc
    by class.Idy byte is = cc
    by class.Isr byte is = cc

pub command_no_nrd : (c : Command) → is_frame (command_frame c) nrd ≡ false
command_no_nrd = each_command (λ c. is_frame (command_frame c) nrd ≡ false) refl (λ a. refl) (λ a. refl) (λ a. refl)

same_self : (f : Frame) → same_but_service f f ≡ true
same_self f = and_from _ _ (eq-eqb _ _ refl) (eq-eqb (byte_of f) (byte_of f) refl)

-- a frame that comes back as it was
abbrev pub own_echo : Frame → Echo
own_echo f = record { sent = f; back = f }

pub own_echo-is : (f : Frame) → is_data f ≡ true → is_echo (own_echo f) ≡ true
own_echo-is f is = and_from (is_data f) (same_but_service f f) is (same_self f)

pub one_status : (k q : ℕ) (d : Echo) → 1 ≤ q → q < k → is_echo d ≡ true → is_one_status k (Stopped q [] d) ≡ true
one_status k q d some less echo =
    let no_host : (q == 0) ≡ false = ne_eqb q 0 (λ e. omega (arith, e, some)) in
    let no_guest : (q == k) ≡ false = ne_eqb q k (λ e. omega (arith, e, less)) in
    and_from (not (q == 0)) (nat_lt q k && is_answer k (Stopped q [] d)) (ap not no_host) (and_from (nat_lt q k) (is_answer k (Stopped q [] d)) (lt-ltb q k less) (and_from (not (q == k)) (true && is_echo d) (ap not no_guest) (and_from true (is_echo d) refl echo)))

-- ---- one ends

module _ (k : ℕ) (asked : List ℕ) (entries : List Entry) where
  -- a frame of its own other than NRD is due, whatever the addresses answer
  pub own_due : (yet : List ℕ) (goes : List Answer → List (List Answer) → List Entry) (f : Frame) (more : List Entry) → BeginRounds k asked entries yet goes → goes [] [] ≡ returned k f ∷ more → is_frame f nrd ≡ false → (end : RoundsEnd) → (tail : List Entry) → tail ≡ end_entries k (returned k f) more end → is_end_at k (returned k f) more end ≡ true → RoundsEndSo k asked entries tail end
  own_due yet goes f more begun same other end tail is legal =
      let all = begun [] [] (none_told k yet) (refl, refl) in
      record { all = all.0; rounds_are = all.1; due = returned k f; more = more; rounds = all.2 ∙ ap (λ es. entries ++ es) same; tail_is = is; legal = legal }

  held_none : (due : Entry) (more rest : List Entry) → is_frame due.frame nrd ≡ false → end_entries k due more AtHost ≡ entry due.source due.frame (outcome.Taken 0) ∷ []
  held_none due [] rest other = refl
  held_none due (next ∷ more) rest other = ap (λ b. (elim b [ true ↦ entry next.source next.frame (outcome.Taken k) ∷ [] | false ↦ [] ]) ++ entry due.source due.frame (outcome.Taken 0) ∷ []) other

  -- so it is at the host, or is lost before party p
  pub own_stands : (yet : List ℕ) (goes : List Answer → List (List Answer) → List Entry) (f : Frame) (more : List Entry) → BeginRounds k asked entries yet goes → goes [] [] ≡ returned k f ∷ more → is_frame f nrd ≡ false → RoundsEndSo k asked entries (entry k f (outcome.Taken 0) ∷ []) AtHost
  own_stands yet goes f more begun same other = own_due yet goes f more begun same other AtHost (entry k f (outcome.Taken 0) ∷ []) (sym (held_none (returned k f) more [] other)) refl

  broken_none : (due : Entry) (more : List Entry) (p : ℕ) → is_frame due.frame nrd ≡ false → end_entries k due more (BreaksOff (FrameLost p)) ≡ entry due.source due.frame (outcome.Lost p) ∷ []
  broken_none due [] p other = refl
  broken_none due (next ∷ more) p other = ap (λ b. (elim b [ true ↦ entry next.source next.frame (outcome.Taken k) ∷ [] | false ↦ [] ]) ++ entry due.source due.frame (outcome.Lost p) ∷ []) other

  -- a frame of its own can be lost before any party
  own_loses : (f : Frame) (p : ℕ) → p ≤ k → can_lose k (returned k f) p ≡ true
  own_loses f p on = ap (λ own. if own then nat_le p k else (if is_data f then nat_le p k else lies_after k k p)) (eq-eqb k k refl) ∙ le-leb p k on

  -- and one of a device after that device
  after : (q p : ℕ) → q < p → p ≤ k → lies_after k q p ≡ true
  after q p far on = and_from (nat_lt q p) (nat_le p k) (lt-ltb q p far) (le-leb p k on)

  pub own_lost : (yet : List ℕ) (goes : List Answer → List (List Answer) → List Entry) (f : Frame) (more : List Entry) (p : ℕ) → p ≤ k → BeginRounds k asked entries yet goes → goes [] [] ≡ returned k f ∷ more → is_frame f nrd ≡ false → RoundsEndSo k asked entries (entry k f (outcome.Lost p) ∷ []) (BreaksOff (FrameLost p))
  own_lost yet goes f more p on begun same other = own_due yet goes f more begun same other (BreaksOff (FrameLost p)) (entry k f (outcome.Lost p) ∷ []) (sym (broken_none (returned k f) more p other)) (own_loses f p on)

  -- NRD is due, and a byte of party q after it
  module _ (more : List ℕ) (q : ℕ) (d : Echo) (begun : BeginRounds k asked entries more (λ now later. returned k nrd ∷ from_byte k asked more q d now later)) where
    nrd_due : (end : RoundsEnd) (tail : List Entry) → tail ≡ end_entries k (returned k nrd) (from_byte k asked more q d [] []) end → is_end_at k (returned k nrd) (from_byte k asked more q d [] []) end ≡ true → RoundsEndSo k asked entries tail end
    nrd_due end tail is legal =
        let all = begun [] [] (none_told k more) (refl, refl) in
        record { all = all.0; rounds_are = all.1; due = returned k nrd; more = from_byte k asked more q d [] []; rounds = all.2; tail_is = is; legal = legal }

    pub nrd_stands : RoundsEndSo k asked entries (entry q d.sent (outcome.Taken k) ∷ entry k nrd (outcome.Taken 0) ∷ []) AtHost
    nrd_stands = nrd_due AtHost (entry q d.sent (outcome.Taken k) ∷ entry k nrd (outcome.Taken 0) ∷ []) refl refl

    pub nrd_lost : (p : ℕ) → p ≤ k → RoundsEndSo k asked entries (entry q d.sent (outcome.Taken k) ∷ entry k nrd (outcome.Lost p) ∷ []) (BreaksOff (FrameLost p))
    nrd_lost p on = nrd_due (BreaksOff (FrameLost p)) (entry q d.sent (outcome.Taken k) ∷ entry k nrd (outcome.Lost p) ∷ []) refl (own_loses nrd p on)

    pub first_lost : (p : ℕ) → q < p → p ≤ k → RoundsEndSo k asked entries (entry q d.sent (outcome.Lost p) ∷ []) (ByteLost p)
    first_lost p far on = nrd_due (ByteLost p) (entry q d.sent (outcome.Lost p) ∷ []) refl (after q p far on)

  -- the byte is due
  module _ (more : List ℕ) (q : ℕ) (d : Echo) (begun : BeginRounds k asked entries more (from_byte k asked more q d)) (bytes : is_data d.sent ≡ true) where
    abbrev after_byte : List Entry
    after_byte = entry q eto (outcome.Taken k) ∷ returned k unt ∷ returned k rfc ∷ asked_yet k asked more [] []

    byte_due : (end : RoundsEnd) (tail : List Entry) → tail ≡ end_entries k (echoed q d) after_byte end → is_end_at k (echoed q d) after_byte end ≡ true → RoundsEndSo k asked entries tail end
    byte_due end tail is legal =
        let all = begun [] [] (none_told k more) (refl, refl) in
        record { all = all.0; rounds_are = all.1; due = echoed q d; more = after_byte; rounds = all.2; tail_is = is; legal = legal }

    pub byte_stands : RoundsEndSo k asked entries (entry q d.sent (outcome.Taken 0) ∷ []) AtHost
    byte_stands = byte_due AtHost (entry q d.sent (outcome.Taken 0) ∷ []) (sym (held_none (echoed q d) after_byte [] (data_no_nrd d.sent bytes))) refl

    pub byte_lost_at : (p : ℕ) → (q == k) ≡ false → p ≤ q → RoundsEndSo k asked entries (entry q d.sent (outcome.Lost p) ∷ []) (BreaksOff (FrameLost p))
    byte_lost_at p no_guest low = byte_due (BreaksOff (FrameLost p)) (entry q d.sent (outcome.Lost p) ∷ []) (sym (broken_none (echoed q d) after_byte p (data_no_nrd d.sent bytes)))
        (ap₂ (λ own data_frame. if own then nat_le p k else (if data_frame then nat_le p q else lies_after k q p)) no_guest bytes ∙ le-leb p q low)

    -- it came back as another frame, and its source ended by ETE, which came to party k or was lost
    pub byte_altered : (back : Frame) → byte_of back ≢ byte_of d.sent → (q == k) ≡ false → (o : Outcome) → is_end k o ≡ true → can_end_by k q o ≡ true → RoundsEndSo k asked entries (entry q d.sent (outcome.Back back) ∷ entry q ete o ∷ []) (BreaksOff (TalkerAltered back o))
    byte_altered back other no_guest o end by =
        byte_due (BreaksOff (TalkerAltered back o)) (entry q d.sent (outcome.Back back) ∷ entry q ete o ∷ []) (sym (altered_none (data_no_nrd d.sent bytes)))
        (and_from (is_break k (echoed q d) (TalkerAltered back o)) (can_end_by k q o) (and_from (not (q == k)) (is_altered d.sent back && is_end k o) (ap not no_guest) (and_from (is_altered d.sent back) (is_end k o) (and_from (is_data d.sent) (not (same_but_service d.sent back)) bytes (ap not (wrong_echo d.sent back other))) end)) by)
      where
        altered_none : is_frame d.sent nrd ≡ false → end_entries k (echoed q d) after_byte (BreaksOff (TalkerAltered back o)) ≡ entry q d.sent (outcome.Back back) ∷ entry q ete o ∷ []
        altered_none other = ap (λ b. (elim b [ true ↦ entry q eto (outcome.Taken k) ∷ [] | false ↦ [] ]) ++ entry q d.sent (outcome.Back back) ∷ entry q ete o ∷ []) other

  -- ETO is due
  pub end_lost : (more : List ℕ) (q : ℕ) (p : ℕ) → (q == k) ≡ false → q < p → p ≤ k → BeginRounds k asked entries more (λ now later. entry q eto (outcome.Taken k) ∷ from_unt k asked more now later) → RoundsEndSo k asked entries (entry q eto (outcome.Lost p) ∷ []) (BreaksOff (FrameLost p))
  end_lost more q p no_guest far on begun =
      let all = begun [] [] (none_told k more) (refl, refl) in
      record { all = all.0; rounds_are = all.1; due = entry q eto (outcome.Taken k); more = from_unt k asked more [] []; rounds = all.2; tail_is = refl; legal = ap (λ own. if own then nat_le p k else lies_after k q p) no_guest ∙ after q p far on }
