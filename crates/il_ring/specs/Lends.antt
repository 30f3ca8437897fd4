-- A lend: the host hands control of the loop to a second controller, the last device, and takes it back when this many frames have come to
-- it. The frames follow the HP-IL Interface Specification, HP 82166-90017 (take control, interface clear); that the host counts frames and
-- takes control back by IFC alone is this project's own.
use Rattle.std.specs.Prelude.{ℕ, zero, suc, ◌+◌, ◌==◌, ◌&&◌, ◌||◌, nat_le, nat_lt, not, if◌then◌else◌, Bool, true, false, List, [], ◌∷◌, ◌++◌, length, take, count_by, None}
use Rattle.std.specs.List.{flat_map, list_all}
use Rattle.il_frames.specs.declared.entry.Entry.{Entry}
use Rattle.il_frames.specs.declared.entry.Outcome.{Outcome}
use Rattle.il_frames.specs.declared.entry.Outcome.TheVariants as outcome
use Rattle.il_frames.specs.Frames.{is_data}
use Rattle.il_frames.specs.NamedFrames.{entry, ifc, unl, tad, unt, nrd, is_frame}
use Rattle.loop_model.specs.Exchanges.{Answer, NotTaken, ToItsEnd, Stopped, Exchange, Command, Receive, Sst, Break, FrameLost, HostAltered, TalkerAltered, break_entries, commanded, cut_at, entries_of, is_address, is_answer, is_break, returned}
use Rattle.loop_model.specs.Reach.{brings_to}
use Rattle.il_guest.specs.Frames.{nop, tct}

-- ---- the rounds, as exchanges of party k

-- each address is asked for its status by a receive of one byte; if no answer is given, no device took SST
abbrev pub receives_of : List ℕ → List Answer → List Exchange
receives_of [] answers = []
receives_of (a ∷ more) [] = Receive a None Sst NotTaken ∷ receives_of more []
receives_of (a ∷ more) (answer ∷ answers) = Receive a None Sst answer ∷ receives_of more answers

-- NOP, and then each address
abbrev pub rounds_asked : List ℕ → List (List Answer) → List Exchange
rounds_asked addresses [] = []
rounds_asked addresses (answers ∷ more) = Command nop ∷ receives_of addresses answers ++ rounds_asked addresses more

-- the answer of a device before party k that is stopped after its first byte, or none
abbrev pub is_one_status : ℕ → Answer → Bool
is_one_status k NotTaken = true
is_one_status k (ToItsEnd p data_frames) = false
is_one_status k (Stopped p [] last) = not (p == 0) && (nat_lt p k && is_answer k (Stopped p [] last))
is_one_status k (Stopped p (d ∷ data_frames) last) = false

-- the entries of rounds that go on to their end
abbrev pub rounds_entries : ℕ → List ℕ → List (List Answer) → List Entry
rounds_entries k addresses answers = flat_map (entries_of k) (rounds_asked addresses answers)

-- ---- where the rounds end

-- The frame that is due is at the host as IFC is sent. Or it breaks off; or the first byte of a status is lost before it comes to the
-- second controller, so that no NRD is sent.
pub data RoundsEnd : Type 0 where
  AtHost : RoundsEnd
  BreaksOff : Break → RoundsEnd
  ByteLost : ℕ → RoundsEnd

-- while its NRD is on its way it holds the frame that is due next, which ends there
abbrev pub held_entries : ℕ → Entry → List Entry → List Entry
held_entries k due [] = []
held_entries k due (next ∷ more) =
    elim (is_frame due.frame nrd) [ true ↦ entry next.source next.frame (outcome.Taken k) ∷ [] | false ↦ [] ]

-- the byte that is due after NRD, lost before party q
abbrev pub byte_lost_entries : List Entry → ℕ → List Entry
byte_lost_entries [] q = []
byte_lost_entries (next ∷ more) q = entry next.source next.frame (outcome.Lost q) ∷ []

-- the entries in the place of the one that is due, and those after it
abbrev pub end_entries : ℕ → Entry → List Entry → RoundsEnd → List Entry
end_entries k due more AtHost = held_entries k due more ++ entry due.source due.frame (outcome.Taken 0) ∷ []
end_entries k due more (BreaksOff b) = held_entries k due more ++ break_entries due b
end_entries k due more (ByteLost q) = byte_lost_entries more q

-- the first n entries, and then that end
abbrev pub ended_after : ℕ → List Entry → ℕ → RoundsEnd → List Entry
ended_after k [] n end = []
ended_after k (e ∷ es) zero end = end_entries k e es end
ended_after k (e ∷ es) (suc n) end = e ∷ ended_after k es n end

-- party q comes after party p on a ring of k devices
abbrev pub lies_after : ℕ → ℕ → ℕ → Bool
lies_after k p q = nat_lt p q && nat_le q k

-- Where the frame that is due can be lost: one of the second controller before any party; a data frame, which had come to that one, before
-- the host or a device up to its source; and ETO before a device after its source.
abbrev pub can_lose : ℕ → Entry → ℕ → Bool
can_lose k due q = if due.source == k then nat_le q k else (if is_data due.frame then nat_le q due.source else lies_after k due.source q)

-- the frame by which its source ends so comes to the second controller, or is lost after its source
abbrev pub can_end_by : ℕ → ℕ → Outcome → Bool
can_end_by k p (outcome.Back f) = true
can_end_by k p (outcome.Taken q) = true
can_end_by k p (outcome.Lost q) = lies_after k p q

abbrev pub can_break : ℕ → Entry → Break → Bool
can_break k due (FrameLost q) = can_lose k due q
can_break k due (HostAltered f) = true
can_break k due (TalkerAltered f end) = can_end_by k due.source end

-- the frame that is due next can be lost before party q after its source
abbrev pub can_lose_next : ℕ → List Entry → ℕ → Bool
can_lose_next k [] q = false
can_lose_next k (next ∷ more) q = lies_after k next.source q

-- the frame that is due comes past the host; it can break off; or it is NRD, and the byte after it is lost
abbrev pub is_end_at : ℕ → Entry → List Entry → RoundsEnd → Bool
is_end_at k due more AtHost = brings_to k 0 due
is_end_at k due more (BreaksOff b) = is_break k due b && can_break k due b
is_end_at k due more (ByteLost q) = is_frame due.frame nrd && can_lose_next k more q

abbrev pub can_end : ℕ → List Entry → ℕ → RoundsEnd → Bool
can_end k [] n end = false
can_end k (e ∷ es) zero end = is_end_at k e es end
can_end k (e ∷ es) (suc n) end = can_end k es n end

-- how many of the first n entries came past the host
abbrev pub arrivals : ℕ → List Entry → ℕ → ℕ
arrivals k es n = count_by (brings_to k 0) (take n es)

-- how many did of all entries, if they end so
abbrev pub arrivals_in : ℕ → List Entry → ℕ → RoundsEnd → ℕ
arrivals_in k es n end = count_by (brings_to k 0) (ended_after k es n end)

-- ---- lends

-- Of address a. Nobody took control, as a whole or broken off after this many entries. Or the last device did, and its rounds had
-- made n entries: then the host took control back, or they ended otherwise, or the IFC or its RFC was lost before party q.
pub data Lend : Type 0 where
  NoTaker : (a : ℕ) → Lend
  NoTakerCut : (a n q : ℕ) → Lend
  Lent : (a : ℕ) → List (List Answer) → (n : ℕ) → Lend
  LentCut : (a : ℕ) → List (List Answer) → (n : ℕ) → RoundsEnd → Lend
  LentLost : (a : ℕ) → List (List Answer) → (n m q : ℕ) → Lend

-- the host has the device at this address talk
abbrev pub addressed_talker : ℕ → List Entry
addressed_talker a = commanded 0 unl ++ commanded 0 (tad a)

-- nobody takes TCT
abbrev pub refused_entries : ℕ → List Entry
refused_entries a = addressed_talker a ++ returned 0 tct ∷ commanded 0 unt

-- party k takes it
abbrev pub handed_entries : ℕ → ℕ → List Entry
handed_entries a k = addressed_talker a ++ entry 0 tct (outcome.Taken k) ∷ []

-- the entries, if the last device is party k and asks these addresses
abbrev pub lend_entries : ℕ → List ℕ → Lend → List Entry
lend_entries k addresses (NoTaker a) = refused_entries a
lend_entries k addresses (NoTakerCut a n q) = cut_at (refused_entries a) n (FrameLost q)
lend_entries k addresses (Lent a answers n) =
    handed_entries a k ++ (ended_after k (rounds_entries k addresses answers) n AtHost ++ commanded 0 ifc)
lend_entries k addresses (LentCut a answers n end) = handed_entries a k ++ ended_after k (rounds_entries k addresses answers) n end
lend_entries k addresses (LentLost a answers n m q) =
    handed_entries a k ++ (ended_after k (rounds_entries k addresses answers) n AtHost ++ cut_at (commanded 0 ifc) m (FrameLost q))

-- these are rounds of these addresses, and this end is possible there
abbrev pub are_rounds : ℕ → List ℕ → List (List Answer) → ℕ → RoundsEnd → Bool
are_rounds k addresses answers n end =
    list_all (λ a. is_address a) addresses
    && (list_all (λ round. list_all (is_one_status k) round) answers && can_end k (rounds_entries k addresses answers) n end)

-- the frame that is at the host is the last of this many that came to it
abbrev pub stands_at_last : ℕ → List ℕ → ℕ → List (List Answer) → ℕ → Bool
stands_at_last k addresses limit answers n = arrivals k (rounds_entries k addresses answers) n + 1 == limit

-- a loss breaks the rounds off, or a byte that came back as another; the host's frames are none of theirs
abbrev pub is_break_end : RoundsEnd → Bool
is_break_end AtHost = false
is_break_end (BreaksOff (FrameLost q)) = true
is_break_end (BreaksOff (HostAltered f)) = false
is_break_end (BreaksOff (TalkerAltered f end)) = true
is_break_end (ByteLost q) = true

-- the value is a lend of this many frames
abbrev pub is_lend : ℕ → List ℕ → ℕ → Lend → Bool
is_lend k addresses limit (NoTaker a) = is_address a
is_lend k addresses limit (NoTakerCut a n q) = is_address a && (nat_lt n (length (refused_entries a)) && nat_le q k)
is_lend k addresses limit (Lent a answers n) =
    is_address a && (are_rounds k addresses answers n AtHost && stands_at_last k addresses limit answers n)
is_lend k addresses limit (LentCut a answers n end) =
    is_address a && (are_rounds k addresses answers n end
    && (is_break_end end && nat_lt (arrivals_in k (rounds_entries k addresses answers) n end) limit))
is_lend k addresses limit (LentLost a answers n m q) =
    is_address a && (are_rounds k addresses answers n AtHost
    && (stands_at_last k addresses limit answers n && (nat_lt m 2 && nat_le q k)))

-- it is whole
abbrev pub is_whole_lend : Lend → Bool
is_whole_lend (NoTaker a) = true
is_whole_lend (NoTakerCut a n q) = false
is_whole_lend (Lent a answers n) = true
is_whole_lend (LentCut a answers n end) = false
is_whole_lend (LentLost a answers n m q) = false

-- somebody took control
abbrev pub was_taken : Lend → Bool
was_taken (NoTaker a) = false
was_taken (NoTakerCut a n q) = false
was_taken (Lent a answers n) = true
was_taken (LentCut a answers n end) = true
was_taken (LentLost a answers n m q) = true

-- somebody did, and keeps it: the rounds broke off, so that the host sent no IFC
abbrev pub keeps_control : Lend → Bool
keeps_control (NoTaker a) = false
keeps_control (NoTakerCut a n q) = false
keeps_control (Lent a answers n) = false
keeps_control (LentCut a answers n end) = true
keeps_control (LentLost a answers n m q) = false

-- its IFC came back, and its RFC did not
abbrev pub took_back : Lend → Bool
took_back (NoTaker a) = false
took_back (NoTakerCut a n q) = false
took_back (Lent a answers n) = false
took_back (LentCut a answers n end) = false
took_back (LentLost a answers n m q) = m == 1

-- TCT came past every device, since nobody took it: it is the fifth frame
abbrev pub came_back : Lend → Bool
came_back (NoTaker a) = true
came_back (NoTakerCut a n q) = nat_lt 4 n || ((n == 4) && (q == 0))
came_back (Lent a answers n) = false
came_back (LentCut a answers n end) = false
came_back (LentLost a answers n m q) = false

-- the address that the host has talk
abbrev pub lend_address : Lend → ℕ
lend_address (NoTaker a) = a
lend_address (NoTakerCut a n q) = a
lend_address (Lent a answers n) = a
lend_address (LentCut a answers n end) = a
lend_address (LentLost a answers n m q) = a

-- ---- whose statuses they are

-- a status was reported by the device of that number
abbrev pub is_reported_by : ℕ → Answer → Bool
is_reported_by a NotTaken = true
is_reported_by a (ToItsEnd p data_frames) = p == a
is_reported_by a (Stopped p data_frames last) = p == a

-- in a round each address was asked, and it reported its own
abbrev pub are_reported_by : List ℕ → List Answer → Bool
are_reported_by [] answers = true
are_reported_by (a ∷ more) [] = true
are_reported_by (a ∷ more) (answer ∷ answers) = is_reported_by a answer && are_reported_by more answers

-- in all rounds of a lend
abbrev pub reports_own : List ℕ → Lend → Bool
reports_own addresses (NoTaker a) = true
reports_own addresses (NoTakerCut a n q) = true
reports_own addresses (Lent a answers n) = list_all (are_reported_by addresses) answers
reports_own addresses (LentCut a answers n end) = list_all (are_reported_by addresses) answers
reports_own addresses (LentLost a answers n m q) = list_all (are_reported_by addresses) answers
