-- What a device hears by a log: the data bytes that come to it while it listens. Source: HP-IL Interface
-- Specification, HP 82166-90017, the listener function; what counts as lost or altered is this project's
-- own.
use Rattle.std.specs.Prelude.{ℕ, ◌-◌, ◌==◌, Bool, true, false, not, ◌&&◌, if◌then◌else◌, List, [], ◌∷◌, ◌++◌, get_or}
use Rattle.il_frames.specs.declared.frame.Frame.{Frame}
use Rattle.il_frames.specs.declared.entry.Entry.{Entry}
use Rattle.il_frames.specs.declared.entry.Outcome.{Outcome}
use Rattle.il_frames.specs.declared.entry.Outcome.TheVariants as outcome
use Rattle.il_frames.specs.Frames.{byte_of, is_data, same_but_service}
use Rattle.il_device.specs.declared.roles.Roles.{Roles}
use Rattle.il_device.specs.Roles.{no_roles}
use Rattle.loop_model.specs.Reach.{brings_to}
use Rattle.loop_model.specs.Roles.{roles_after_entry}

-- the roles of a party, of which the first is 1
abbrev pub roles_at : ℕ → List Roles → Roles
roles_at party rs = get_or rs (party - 1) no_roles

-- the frame was neither lost nor altered
abbrev pub is_intact : Frame → Outcome → Bool
is_intact f (outcome.Back g) = same_but_service f g
is_intact f (outcome.Taken q) = true
is_intact f (outcome.Lost q) = false

-- the entry has no data byte
abbrev pub has_no_data : Entry → Bool
has_no_data e = not (is_data e.frame)

-- the entry brought a data byte of another source to the party, as it was sent
abbrev pub brings_byte : ℕ → ℕ → Entry → Bool
brings_byte k party e =
    is_data e.frame && (not (e.source == party) && (is_intact e.frame e.outcome && brings_to k party e))

-- what the party hears of an entry
abbrev pub heard_of : ℕ → ℕ → List Roles → Entry → List ℕ
heard_of k party rs e =
    if (roles_at party rs).listens && brings_byte k party e then byte_of e.frame ∷ [] else []

-- what it hears of a log that begins with these roles
abbrev pub heard_by : ℕ → ℕ → List Roles → List Entry → List ℕ
heard_by k party rs [] = []
heard_by k party rs (e ∷ log) = heard_of k party rs e ++ heard_by k party (roles_after_entry rs e) log
