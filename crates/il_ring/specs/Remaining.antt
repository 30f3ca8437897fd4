-- What is still to come of the rounds of a second controller, from a place in them on: the entries of its rounds, as they will be if
-- the addresses that it has not asked yet answer so.
use Rattle.std.specs.Prelude.{◌≡◌, ◌+◌, ℕ, suc, true, List, [], ◌∷◌, ◌++◌, Option}
use Rattle.std.specs.List.{flat_map, list_all}
use Rattle.il_frames.specs.declared.entry.Entry.{Entry}
use Rattle.il_frames.specs.declared.entry.Outcome.TheVariants as outcome
use Rattle.il_frames.specs.NamedFrames.{entry, rfc, tad, unl, unt}
use Rattle.il_device.specs.Takes.{eto}
use Rattle.loop_model.specs.Exchanges.{Answer, Echo, NotTaken, Sst, answer_entries, echoed, entries_of, returned, start_frame}
use Rattle.il_guest.specs.declared.control.Command.{Command}
use Rattle.il_guest.specs.declared.control.Command.TheVariants as command
use Rattle.il_guest.specs.Frames.{nop}
use Rattle.il_guest.specs.Rounds.{addresses_from}
use Rattle.il_ring.specs.Lends.{receives_of, are_reported_by, is_one_status, rounds_asked, rounds_entries}

-- the first answer; if none is given no device takes SST
abbrev pub first_answer : List Answer → Answer
first_answer [] = NotTaken
first_answer (answer ∷ answers) = answer

-- the answers after the first
abbrev pub answers_after : List Answer → List Answer
answers_after [] = []
answers_after (answer ∷ answers) = answers

-- these addresses are asked yet in this round, and then all of them again
abbrev pub asked_yet : ℕ → List ℕ → List ℕ → List Answer → List (List Answer) → List Entry
asked_yet k addresses more now later = flat_map (entries_of k) (receives_of more now ++ rounds_asked addresses later)

-- from the UNT of an address on, from its SST on
abbrev pub from_unt : ℕ → List ℕ → List ℕ → List Answer → List (List Answer) → List Entry
from_unt k addresses more now later = returned k unt ∷ returned k rfc ∷ asked_yet k addresses more now later

abbrev pub from_start : ℕ → List ℕ → List ℕ → List Answer → List (List Answer) → List Entry
from_start k addresses more now later =
    answer_entries k (start_frame Sst) (first_answer now) ++ from_unt k addresses more (answers_after now) later

-- from a command on; after its address these are asked yet
abbrev pub from_command : ℕ → List ℕ → List ℕ → Command → List Answer → List (List Answer) → List Entry
from_command k addresses more command.Nop now later =
    returned k nop ∷ returned k rfc ∷ asked_yet k addresses addresses now later
from_command k addresses more (command.Unl a) now later =
    returned k unl ∷ returned k rfc ∷ returned k (tad a) ∷ returned k rfc ∷ from_start k addresses more now later
from_command k addresses more (command.Tad a) now later =
    returned k (tad a) ∷ returned k rfc ∷ from_start k addresses more now later
from_command k addresses more (command.Unt a) now later = from_unt k addresses more now later

-- from the RFC of a command on
abbrev pub from_ready : ℕ → List ℕ → List ℕ → Command → List Answer → List (List Answer) → List Entry
from_ready k addresses more command.Nop now later = returned k rfc ∷ asked_yet k addresses addresses now later
from_ready k addresses more (command.Unl a) now later =
    returned k rfc ∷ returned k (tad a) ∷ returned k rfc ∷ from_start k addresses more now later
from_ready k addresses more (command.Tad a) now later = returned k rfc ∷ from_start k addresses more now later
from_ready k addresses more (command.Unt a) now later = returned k rfc ∷ asked_yet k addresses more now later

-- from a data frame of party q on that it has let go, which comes back so
abbrev pub from_byte : ℕ → List ℕ → List ℕ → ℕ → Echo → List Answer → List (List Answer) → List Entry
from_byte k addresses more q d now later =
    echoed q d ∷ entry q eto (outcome.Taken k) ∷ from_unt k addresses more now later

-- such are the statuses of a round, in which these addresses are asked
abbrev pub IsRound : ℕ → List ℕ → List Answer → Type 0
IsRound k asked answers = (list_all (is_one_status k) answers ≡ true) × (are_reported_by asked answers ≡ true)

-- those of rounds
abbrev pub AreRounds : ℕ → List ℕ → List (List Answer) → Type 0
AreRounds k asked answers =
    (list_all (λ round. list_all (is_one_status k) round) answers ≡ true) × (list_all (are_reported_by asked) answers ≡ true)

-- The entries begin rounds that go on so, however the addresses will answer, of which these are asked yet in this one.
abbrev pub BeginRounds : ℕ → List ℕ → List Entry → List ℕ → (List Answer → List (List Answer) → List Entry) → Type 0
BeginRounds k addresses entries yet goes_on =
    (now : List Answer) → (later : List (List Answer)) → IsRound k yet now → AreRounds k addresses later
    → (all : List (List Answer)) × AreRounds k addresses all × (rounds_entries k addresses all ≡ entries ++ goes_on now later)

-- These are the addresses after a, up to the last one, but the own one.
abbrev pub Follow : Option ℕ → ℕ → ℕ → List ℕ → Type 0
Follow own last a more = (m : ℕ) × (a + m ≡ last) × (more ≡ addresses_from own (suc a) m)
