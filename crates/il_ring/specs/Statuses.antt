-- What the log of a second controller's rounds shows of the statuses that it asked for. Source: HP-IL Interface Specification,
-- HP 82166-90017, send status and end of transmission; that the last status of each address counts is this project's own.
use Rattle.std.specs.Prelude.{◌≡◌, ℕ, ◌==◌, ◌&&◌, not, if◌then◌else◌, All, Bool, true, false, List, [], ◌∷◌, Option, Some, None}
use Rattle.il_frames.specs.declared.entry.Entry.{Entry}
use Rattle.il_frames.specs.declared.entry.Outcome.{Outcome}
use Rattle.il_frames.specs.declared.entry.Outcome.TheVariants as outcome
use Rattle.il_frames.specs.declared.message.Message.{Message}
use Rattle.il_frames.specs.declared.message.Message.TheVariants as msg
use Rattle.il_frames.specs.Frames.{byte_of, is_data}
use Rattle.il_frames.specs.Messages.{message_of}
use Rattle.il_frames.specs.NamedFrames.{is_frame}
use Rattle.il_device.specs.Takes.{eto}
use Rattle.il_poll.specs.Service.{status_byte_of}
use Rattle.il_guest.specs.Frames.{sst}

-- party k took the frame
abbrev pub is_taken_by : ℕ → Outcome → Bool
is_taken_by k (outcome.Back f) = false
is_taken_by k (outcome.Taken q) = q == k
is_taken_by k (outcome.Lost q) = false

abbrev pub is_back : Outcome → Bool
is_back (outcome.Back f) = true
is_back (outcome.Taken q) = false
is_back (outcome.Lost q) = false

-- the next entry is the ETO of the same source, which party k took
abbrev pub is_ended : ℕ → Entry → List Entry → Bool
is_ended k e [] = false
is_ended k e (next ∷ log) = (next.source == e.source) && (is_frame next.frame eto && is_taken_by k next.outcome)

-- the entry is a byte that was reported to party k, whose source ended by ETO
abbrev pub is_reported : ℕ → Entry → List Entry → Bool
is_reported k e log = is_data e.frame && is_ended k e log

-- the bytes that the device at party q reported so, in their order
abbrev pub reported_by : ℕ → ℕ → List Entry → List ℕ
reported_by k q [] = []
reported_by k q (e ∷ log) =
    if (e.source == q) && is_reported k e log then byte_of e.frame ∷ reported_by k q log else reported_by k q log

-- ---- the last status of an address

-- the address that is asked after a message
abbrev pub asked_after_message : Option ℕ → Message → Option ℕ
asked_after_message before (msg.Tad a) = Some a
asked_after_message before m = before

-- and after an entry: only party k asks
abbrev pub asked_after : ℕ → Option ℕ → Entry → Option ℕ
asked_after k before e = if e.source == k then asked_after_message before (message_of e.frame) else before

-- the address that is asked after these entries
abbrev pub asked_all : ℕ → Option ℕ → List Entry → Option ℕ
asked_all k asked [] = asked
asked_all k asked (e ∷ log) = asked_all k (asked_after k asked e) log

-- party k's SST came back: no device reported anything
abbrev pub reports_none : ℕ → Entry → Bool
reports_none k e = (e.source == k) && (is_frame e.frame sst && is_back e.outcome)

-- what is known of the address that is asked, after an entry that these follow
abbrev pub answer_known : ℕ → Option ℕ → Entry → List Entry → Option ℕ
answer_known k before e log =
    if reports_none k e then None else (if is_reported k e log then Some (byte_of e.frame) else before)

abbrev pub is_asked : ℕ → Option ℕ → Bool
is_asked a None = false
is_asked a (Some b) = b == a

-- what is known of address a, if that one is asked now and this was known before
abbrev pub known_of : ℕ → ℕ → Option ℕ → Option ℕ → List Entry → Option ℕ
known_of k a asked before [] = before
known_of k a asked before (e ∷ log) =
    known_of k a (asked_after k asked e) (if is_asked a asked then answer_known k before e log else before) log

-- the last status of address a that was reported to party k: the byte of the last one, or none if SST came back since
abbrev pub last_known : ℕ → ℕ → List Entry → Option ℕ
last_known k a log = known_of k a None None log

-- if one is asked so far, no SST of party k came back in these entries while address a was asked
abbrev pub answers_always : ℕ → ℕ → Option ℕ → List Entry → Bool
answers_always k a asked [] = true
answers_always k a asked (e ∷ log) = not (is_asked a asked && reports_none k e) && answers_always k a (asked_after k asked e) log

-- ---- the drive

-- The drive reported these bytes: first its status, which is 0 then, and 0 each further time.
abbrev pub ReportsStatus : ℕ → List ℕ → ℕ → Type 0
ReportsStatus before [] now = now ≡ before
ReportsStatus before (byte ∷ more) now = (byte ≡ status_byte_of before) × All (λ b. b ≡ 0) more × (now ≡ 0)
